use Rattle.std.proofs.Common.{◌≡◌}
use Rattle.settled_tables.specs.closed_words.specs.version_words.specs.TableState.{IsOf}
use Rattle.lock_tests.specs.Sharing.{HasServedOwn}
use Rattle.lock_tests.proofs.board_rows.attempt_in_turn.Given as goal

abbrev pub invariant-loop-number : goal.invariant-loop-number
invariant-loop-number g l = record {
  own : IsOf l.table l.runner;
  served : HasServedOwn l.number l.runner;
  same : l.runner.number ≡ l.fn.runner.number;
}
