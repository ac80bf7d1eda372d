use Rattle.std.proofs.Common.{◌≡◌, ◌≤◌, true}
use Rattle.runner_gate.specs.Asks.{asked_on}
use Rattle.runner_gate.proofs.gate.Gate.count.Given as goal

abbrev pub invariant-loop-n : goal.invariant-loop-n
invariant-loop-n g l = (g.Self.Gate.halts l.fn.self ≤ g.Self.Gate.halts l.self)
    × (g.Self.Gate.free l.fn.self ≡ true → (g.Self.Gate.free l.self ≡ true) × (g.Self.Gate.halts l.self ≡ g.Self.Gate.halts l.fn.self))
    × (g.Self.Gate.asks l.self ≡ asked_on (g.Self.Gate.asks l.fn.self) l.n)
