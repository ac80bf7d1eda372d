use Rattle.std.proofs.Common.{◌≡◌, true, ap, subst, ◌∙◌}
use Rattle.std.specs.Prelude.{IfSome}
use Rattle.machine_states.specs.runner_parts.specs.Tests.{is_answered}
use Rattle.lock_tests.proofs.Serving.{served_one}
use Rattle.lock_tests.proofs.courses.serve_due.Goals as goal

pub returns-in-Some-clause-after : goal.returns-in-Some-clause-after
returns-in-Some-clause-after g c = λ course same.
    let number = c.args.request.now.number in
    served_one number c.args.runner c.read_entry-runner.result.0 c.requires.before c.read_entry-runner.ensures.tidy
    (λ k ne. c.read_entry-runner.ensures.others k ne
    ∙ (c.run_own-runner.ensures.learns c.in-Done.field-0 c.in-Done.field-1 c.in-Done.is number (c.plan_and_publish-runner.ensures.asked c.in-Published.section c.in-Published.is) k ne
    ∙ ap (λ xs. is_answered xs k) c.plan_and_publish-runner.ensures.known))
    (subst (λ o. IfSome o (λ _. is_answered c.read_entry-runner.result.0.part.records.known number ≡ true)) c.in-Some.is c.read_entry-runner.ensures.answered)
