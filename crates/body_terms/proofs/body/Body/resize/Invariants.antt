use Rattle.std.specs.Prelude.{◌≡◌, length}
use Rattle.body_terms.proofs.body.Body.resize.Given as goal

abbrev pub invariant-loop : goal.invariant-loop
invariant-loop l = length l.self-inside.steps.items ≡ l.counter
