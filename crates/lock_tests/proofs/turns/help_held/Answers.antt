use Rattle.std.proofs.Common.{◌-◌}
use Rattle.machine_states.specs.body_terms.specs.Word.{value_of}
use Rattle.lock_tests.proofs.Turning.{helped_number}
use Rattle.lock_tests.proofs.turns.help_held.Goals as goal

pub returns-clause-number : goal.returns-clause-number
returns-clause-number g c =
    helped_number (g.S.Structure.meaning c.args.table.now.structure) (value_of c.args.held - 1) c.args.runner c.help-runner.result.0 c.help-runner.result.1
    (λ o trail is. let done = c.help-runner.ensures.done o trail is in (done.0, done.1, done.2)) (λ is. let cut = c.help-runner.ensures.halted is in (cut.0, cut.1))
