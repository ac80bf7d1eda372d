use Rattle.std.proofs.Common.{◌≡◌, None}
use Rattle.machine_states.specs.epoch_core.specs.declared.stage.Stage.TheVariants as stages
use Rattle.version_words.specs.TableState.{IsOf}
use Rattle.version_words.specs.Stages.{IsAt}
use Rattle.table_steps.proofs.walks.collect.Given as goal

abbrev pub invariant-loop-next : goal.invariant-loop-next
invariant-loop-next l = record {
  own : IsOf l.table l.runner;
  at : IsAt l.runner (stages.Scanning l.epoch l.next l.clear) None;
  number : l.runner.number ≡ l.fn.runner.number;
}
