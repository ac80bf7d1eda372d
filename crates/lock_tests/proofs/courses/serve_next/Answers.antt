use Rattle.std.proofs.Common.{ap, sym, subst, ◌∙◌}
use Rattle.std.specs.Prelude.{slice_get}
use Rattle.machine_states.specs.table_words.specs.declared.layout.Layout.{Layout}
use Rattle.lock_tests.specs.Asked.{IsDue}
use Rattle.lock_tests.proofs.Serving.{served_on, is_due_next}
use Rattle.lock_tests.proofs.courses.serve_next.Goals as goal

pub serve_due-requires-clause-due : goal.serve_due-requires-clause-due
serve_due-requires-clause-due g c κs within =
    let r = c.scan_and_sweep-runner.result in let rested = c.scan_and_sweep-runner.ensures.rested in let own = c.scan_and_sweep-runner.ensures.own in
    subst (λ x. IsDue c.args.request.now x) (sym c.in-Ok.ensures.same)
    (is_due_next r c.args.request.now
    (record { number = rested.number ∙ c.requires.alone.number; alone = ap (λ (l : Layout). l.runners) (own.layout ∙ sym c.requires.own.layout) ∙ c.requires.alone.alone })
    (served_on c.args.request.now.number c.args.runner r c.requires.before rested.tidy rested.known)
    (ap (λ rs. slice_get rs c.args.request.now.number) own.requests ∙ c.requires.request) c.in-Ok.ensures.enough)
