use Rattle.std.proofs.Common.{◌≡◌, drop}
use Rattle.std.specs.List.{list_any}
use Rattle.interleave_core.specs.Parts.{owns}
use Rattle.interleave_core.proofs.machine.some_owns.Given as goal

abbrev pub invariant-loop-part : goal.invariant-loop-part
invariant-loop-part l = list_any (λ p. owns p l.slot) (drop l.part-index l.parts) ≡ list_any (λ p. owns p l.slot) l.parts
