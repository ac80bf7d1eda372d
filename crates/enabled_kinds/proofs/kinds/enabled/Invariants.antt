use Rattle.enabled_kinds.proofs.Bits.{Gathered}
use Rattle.enabled_kinds.proofs.kinds.enabled.Given as goal

abbrev pub invariant-loop-number : goal.invariant-loop-number
invariant-loop-number g l = Gathered (g.S.Structure.meaning l.structure) l.layout l.requests l.runner l.part l.bits l.number
