use Rattle.std.proofs.Common.{◌≡◌, take, false}
use Rattle.std.specs.Prelude.{◌==◌}
use Rattle.std.specs.List.{list_any}
use Rattle.body_terms.specs.Line.{no_registers}
use Rattle.body_terms.specs.Fault.{stored_places}
use Rattle.body_terms.proofs.fault.stores_to.Given as goal

abbrev pub invariant-loop-n : goal.invariant-loop-n
invariant-loop-n l = list_any (λ stored. stored == l.place) (stored_places no_registers (take l.n l.steps)) ≡ false
