-- How many slots a section retires at most.
use Rattle.std.specs.Prelude.{◌≤◌, count_by}
use Rattle.machine_states.specs.body_terms.specs.Shape.{is_retire}
use Rattle.machine_states.specs.body_terms.specs.declared.thunk.Thunk.{Thunk}
use Rattle.machine_states.specs.structure_laws.specs.Meaning.{Meaning}

-- no body has more than two Retires
abbrev pub RetiresFew : Meaning → Type 0
RetiresFew m = (thunk : Thunk) → count_by is_retire (m.body thunk) ≤ 2
