use Rattle.std.proofs.Common.{◌≡◌, None}
use Rattle.machine_states.specs.epoch_core.specs.declared.stage.Stage.TheVariants as stages
use Rattle.table_steps.specs.version_words.specs.TableState.{IsOf}
use Rattle.table_steps.specs.version_words.specs.Stages.{IsAt, HasFree}
use Rattle.speed.proofs.steps.rounds.count_others.Given as goal

abbrev pub invariant-loop-word : goal.invariant-loop-word
invariant-loop-word l = record {
  own : IsOf l.table l.runner;
  at : IsAt l.runner (stages.Idle) None;
  free : HasFree l.runner 0;
  number : l.runner.number ≡ l.fn.runner.number;
}
