use Rattle.std.proofs.Common.{◌+◌, ap, sym, subst, ◌∙◌, refl}
use Rattle.std.specs.Prelude.{slice_get}
use Rattle.std.proofs.lemmas.Option.{slice_get-get_or}
use Rattle.machine_states.specs.map_history.specs.Requests.{AreInOrder}
use Rattle.machine_states.specs.table_words.specs.declared.layout.Layout.{Layout}
use Rattle.lock_tests.specs.Asked.{HasServed}
use Rattle.lock_tests.proofs.Numbered.{numbered}
use Rattle.lock_tests.proofs.courses.serve_in_turn.Goals as goal

pub serve_next-next-requires-clause-request : goal.serve_next-next-requires-clause-request
serve_next-next-requires-clause-request g c κs within =
    let at = slice_get-get_or c.args.requests.now c.loop-request.request-index _ c.loop-request-test.true in
    let number = numbered c.args.requests.now (subst (λ rs. AreInOrder rs 64) (sym c.requires.all) (c.requires.own.allowed _ refl).in_order) c.loop-request.request-index _ at in
    (λ i. slice_get (sym c.requires.all i) (number i)) ∙ at

pub serve_next-next-requires-clause-before : goal.serve_next-next-requires-clause-before
serve_next-next-requires-clause-before g c κs within =
    let at = slice_get-get_or c.args.requests.now c.loop-request.request-index _ c.loop-request-test.true in
    let number = numbered c.args.requests.now (subst (λ rs. AreInOrder rs 64) (sym c.requires.all) (c.requires.own.allowed _ refl).in_order) c.loop-request.request-index _ at in
    subst (λ n. HasServed n c.loop-request.runner) (sym number) c.loop-request.invariant.served

pub loop-request-preserved : goal.loop-request-preserved
loop-request-preserved g c =
    let inv = c.loop-request.invariant in
    let at = slice_get-get_or c.args.requests.now c.loop-request.request-index _ c.loop-request-test.true in
    let number = numbered c.args.requests.now (subst (λ rs. AreInOrder rs 64) (sym c.requires.all) (c.requires.own.allowed _ refl).in_order) c.loop-request.request-index _ at in
    record {
      own = c.serve_next-next.ensures.own;
      alone = record {
        number = c.serve_next-next.ensures.number ∙ inv.alone.number;
        alone = ap (λ (l : Layout). l.runners) (c.serve_next-next.ensures.own.layout ∙ sym inv.own.layout) ∙ inv.alone.alone;
      };
      served = subst (λ n. HasServed (n + 1) c.serve_next-next.result.0) number (c.serve_next-next.ensures.after c.in-Answered.course c.in-Answered.is);
      number = c.serve_next-next.ensures.number ∙ inv.number;
    }
