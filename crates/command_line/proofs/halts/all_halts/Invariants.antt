use Rattle.std.proofs.Common.{◌≡◌, drop, map}
use Rattle.command_line.specs.Halts.{all_there, all_there_behind, halt_in}
use Rattle.command_line.proofs.halts.all_halts.Given as goal

abbrev pub invariant-loop-part : goal.invariant-loop-part
invariant-loop-part l =
    all_there_behind l.halts (all_there (map halt_in (map (λ part. part.now) (drop l.part-index l.parts)))) ≡ all_there (map halt_in (map (λ part. part.now) l.parts))
