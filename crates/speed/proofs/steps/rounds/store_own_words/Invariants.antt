use Rattle.std.proofs.Common.{◌≡◌, None}
use Rattle.machine_states.specs.epoch_core.specs.declared.stage.Stage.TheVariants as stages
use Rattle.table_steps.specs.version_words.specs.TableState.{IsOf}
use Rattle.table_steps.specs.version_words.specs.Stages.{IsAt, HasFree}
use Rattle.speed.proofs.steps.rounds.store_own_words.Given as goal

abbrev pub invariant-loop-round : goal.invariant-loop-round
invariant-loop-round l = record {
  own : IsOf l.table l.runner;
  at : IsAt l.runner (stages.Idle) None;
  free : HasFree l.runner 0;
  number : l.runner.number ≡ l.fn.runner.number;
}
