use Rattle.std.proofs.Common.{◌≡◌, None}
use Rattle.machine_states.specs.epoch_core.specs.declared.stage.Stage.TheVariants as stages
use Rattle.table_steps.specs.version_words.specs.TableState.{IsOf}
use Rattle.table_steps.specs.version_words.specs.Stages.{IsAt}
use Rattle.speed.proofs.steps.rounds.scan.Given as goal

abbrev pub invariant-loop : goal.invariant-loop
invariant-loop l = record {
  own : IsOf l.table l.runner;
  at : IsAt l.runner (stages.Idle) None;
  number : l.runner.number ≡ l.fn.runner.number;
}
