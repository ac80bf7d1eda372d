use Rattle.std.proofs.Common.{ℕ, ◌<◌, length, get_or, List, sym, subst, ap, ◌∙◌}
use Rattle.machine_states.specs.table_words.specs.Places.{slot_count}
use Rattle.epoch_slots.specs.Hands.{IsLookedAt}
use Rattle.epoch_slots.proofs.Looking.{in_front, is_own, back_on}
use Rattle.epoch_slots.proofs.hand.look_back.Goals as goal

pub look_at-runner-requires-clause-within : goal.look_at-runner-requires-clause-within
look_at-runner-requires-clause-within g c κs within =
    let few = subst (λ (xs : List ℕ). c.loop-back._back < length xs) c.hand-count.ensures.list c.loop-back-test.true in
    let back = c.loop-back.invariant.back in
    let is = ap (λ (xs : List ℕ). get_or xs 0 0) (c.hand.ensures.list ∙ in_front _ _ _ _ back few c.requires.tests c.requires.hand) in
    subst (λ n. n < slot_count c.loop-back.runner.layout (g.S.Structure.meaning c.args.table.now.structure).fixed_slots) (sym is) (is_own _ _ _ _ back few c.requires.tests c.requires.hand)

pub loop-back-preserved : goal.loop-back-preserved
loop-back-preserved g c =
    let few = subst (λ (xs : List ℕ). c.loop-back._back < length xs) c.hand-count.ensures.list c.loop-back-test.true in
    let back = c.loop-back.invariant.back in
    let is = ap (λ (xs : List ℕ). get_or xs 0 0) (c.hand.ensures.list ∙ in_front _ _ _ _ back few c.requires.tests c.requires.hand) in
    record {
      own = c.look_at-runner.ensures.own;
      back = back_on _ _ _ _ back few c.requires.tests c.requires.hand _
          (subst (λ n. IsLookedAt (g.S.Structure.meaning c.args.table.now.structure) n 5 c.loop-back.runner c.look_at-runner.result) is c.look_at-runner.ensures.looked);
    }
