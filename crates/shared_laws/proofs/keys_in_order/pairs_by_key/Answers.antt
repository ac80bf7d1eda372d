use Rattle.std.proofs.Common.{◌<◌, Some, None, sym, ◌∙◌, arith}
use Rattle.std.proofs.lemmas.List.{append-nil}
use Rattle.shared_laws.proofs.Listing.{gathered_more, past_keys}
use Rattle.shared_laws.proofs.keys_in_order.pairs_by_key.Goals as goal
use Rattle.shared_laws.proofs.keys_in_order.pairs_by_key.Goals.{in-Some+in_ok-push, in_default}

pub loop-key-preserved : goal.loop-key-preserved
loop-key-preserved g c =
    let keys = c.args.keys in
    let low : c.loop-key.key < keys = (let test = c.loop-key-test.true in let end = c.loop-key.auto.key-end in omega (arith, test, end)) in
    elim c.match-value_of.branch [
      | in-Some+in_ok-push w ↦ rw w.items-is record {
        rest = λ has is. gathered_more has c.loop-key.items.items _ c.loop-key.key keys (Some w.in-Some.value) low
            (sym w.in-Some.is ∙ is c.loop-key.key _ low c.value_of.ensures) w.in_ok-push.ensures.items (c.loop-key.invariant.rest has is);
      }
      | in_default w ↦ rw w.items-is record {
        rest = λ has is. gathered_more has c.loop-key.items.items c.loop-key.items.items c.loop-key.key keys None low
            (sym w.in_default.is ∙ is c.loop-key.key _ low c.value_of.ensures) (sym (append-nil c.loop-key.items.items)) (c.loop-key.invariant.rest has is);
      }
    ]

pub returns : goal.returns
returns g c = λ has is. sym (past_keys has c.loop-key.items.items c.loop-key.key c.args.keys
    (let test = c.loop-key-test.false in let end = c.loop-key.auto.key-end in omega (arith, test, end))) ∙ c.loop-key.invariant.rest has is
