use Rattle.std.proofs.Common.{◌≡◌, ◌<◌, ℕ, Some, length}
use Rattle.std.specs.Prelude.{slice_get}
use Rattle.command_line.specs.Halts.{ask_of}
use Rattle.command_line.proofs.halts.asks_of.Given as goal

abbrev pub invariant-loop-runner : goal.invariant-loop-runner
invariant-loop-runner l = record {
  length : length l.asks.items ≡ l.runner;
  asks : (runner : ℕ) → runner < l.runner → slice_get l.asks.items runner ≡ Some (ask_of l.halts runner);
}
