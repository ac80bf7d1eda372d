-- A section of the list retires two slots at most.
use Rattle.std.specs.Prelude.{count_by}
use Rattle.std.proofs.Common.{◌≤◌, arith}
use Rattle.structure_laws.specs.body_terms.specs.Shape.{is_retire}
use Rattle.structure_laws.specs.body_terms.specs.declared.thunk.Thunk.{Thunk}
use Rattle.list_bodies.specs.List.{Form, Look, Insert, Remove, Replace, Empty, form_of, body_of, list_steps}

pub few_retires : (t : Thunk) → count_by is_retire (list_steps t) ≤ 2
few_retires t = by (form_of t)
  where
    by : (form : Form) → count_by is_retire (body_of form t) ≤ 2
    by Look = omega arith
    by Insert = omega arith
    by Remove = omega arith
    by Replace = omega arith
    by Empty = omega arith
