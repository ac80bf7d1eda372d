use Rattle.std.proofs.Common.{◌+◌, refl, sym, subst, ◌∙◌}
use Rattle.std.specs.Prelude.{slice_get}
use Rattle.std.proofs.lemmas.Option.{slice_get-get_or}
use Rattle.machine_states.specs.map_history.specs.Requests.{AreInOrder}
use Rattle.lock_tests.specs.Sharing.{HasServedOwn}
use Rattle.lock_tests.proofs.Numbered.{numbered}
use Rattle.lock_tests.proofs.Sharing.{ok_then}
use Rattle.lock_tests.proofs.board_rows.attempt_in_turn.Goals as goal

pub visit-visited-requires-clause-there : goal.visit-visited-requires-clause-there
visit-visited-requires-clause-there g c κs within =
    let at = slice_get-get_or c.args.requests.now c.loop-number.number _ c.loop-number-test.true in
    let number = numbered c.args.requests.now (subst (λ rs. AreInOrder rs 64) (sym c.requires.all) (c.requires.own.allowed _ refl).in_order) c.loop-number.number _ at in
    (λ i. slice_get (sym c.requires.all i) (number i)) ∙ at

pub visit-visited-requires-clause-before : goal.visit-visited-requires-clause-before
visit-visited-requires-clause-before g c κs within =
    let at = slice_get-get_or c.args.requests.now c.loop-number.number _ c.loop-number-test.true in
    let number = numbered c.args.requests.now (subst (λ rs. AreInOrder rs 64) (sym c.requires.all) (c.requires.own.allowed _ refl).in_order) c.loop-number.number _ at in
    subst (λ n. HasServedOwn n c.loop-number.runner) (sym number) c.loop-number.invariant.served

pub loop-number-preserved : goal.loop-number-preserved
loop-number-preserved g c =
    let at = slice_get-get_or c.args.requests.now c.loop-number.number _ c.loop-number-test.true in
    let number = numbered c.args.requests.now (subst (λ rs. AreInOrder rs 64) (sym c.requires.all) (c.requires.own.allowed _ refl).in_order) c.loop-number.number _ at in
    record {
      own = c.in-Some.ensures.own;
      served = subst (λ n. HasServedOwn (n + 1) c.in-Some.next) number (ok_then _ _ _ c.in-Ok.is c.in-Some.ensures.served);
      same = c.in-Some.ensures.number ∙ c.loop-number.invariant.same;
    }
