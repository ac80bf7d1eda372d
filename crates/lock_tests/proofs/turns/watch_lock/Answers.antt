use Rattle.std.proofs.Common.{subst, ◌∙◌}
use Rattle.machine_states.specs.body_terms.specs.Word.{value_of}
use Rattle.machine_states.proofs.Steps.{some_same}
use Rattle.hash_table.specs.try_lock.specs.Reached.{MayHelp}
use Rattle.hash_table.specs.try_lock.specs.Watches.{Watched}
use Rattle.lock_tests.proofs.Turning.{is_named, may_help}
use Rattle.lock_tests.proofs.turns.watch_lock.Goals as goal

pub watch-runner-requires-clause-next : goal.watch-runner-requires-clause-next
watch-runner-requires-clause-next g c κs within =
    c.read_lock-runner.ensures.read.watch (is_named (value_of c.read_lock-runner.result.1) (λ e. c.if-value-eq0.false (c.value.ensures ∙ e)))

pub returns-then-not-same-clause-number : goal.returns-then-not-same-clause-number
returns-then-not-same-clause-number g c = c.watch-runner.ensures.watched.keeps.number ∙ c.read_lock-runner.ensures.number

pub returns-clause-number : goal.returns-clause-number
returns-clause-number g c = c.watch-runner.ensures.watched.keeps.number ∙ c.read_lock-runner.ensures.number

pub returns-clause-help : goal.returns-clause-help
returns-clause-help g c = λ word is.
    let m = g.S.Structure.meaning c.args.table.now.structure in
    subst (λ w. MayHelp m c.watch-runner.result.0 w) (some_same _ word is)
    (may_help m c.args.place c.read_lock-runner.result.1 c.read_lock-runner.result.0 c.watch-runner.result.0 c.read_lock-runner.ensures.read
    (is_named (value_of c.read_lock-runner.result.1) (λ e. c.if-value-eq0.false (c.value.ensures ∙ e)))
    (subst (λ b. Watched m c.args.place c.read_lock-runner.result.1 b c.read_lock-runner.result.0 c.watch-runner.result.0) c.if-not-same.false c.watch-runner.ensures.watched))
