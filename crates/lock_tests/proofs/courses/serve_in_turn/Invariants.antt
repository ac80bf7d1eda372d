use Rattle.std.proofs.Common.{◌≡◌}
use Rattle.settled_tables.specs.closed_words.specs.version_words.specs.TableState.{IsOf}
use Rattle.lock_tests.specs.Asked.{HasServed, IsOnlyWorker}
use Rattle.lock_tests.proofs.courses.serve_in_turn.Given as goal

abbrev pub invariant-loop-request : goal.invariant-loop-request
invariant-loop-request g l = record {
  own : IsOf l.table l.runner;
  alone : IsOnlyWorker l.runner;
  served : HasServed l.request-index l.runner;
  number : l.runner.number ≡ l.fn.runner.number;
}
