-- A section of the search tree retires two slots at most.
use Rattle.std.specs.Prelude.{count_by}
use Rattle.std.proofs.Common.{◌≤◌, arith}
use Rattle.structure_laws.specs.body_terms.specs.Shape.{is_retire}
use Rattle.structure_laws.specs.body_terms.specs.declared.thunk.Thunk.{Thunk}
use Rattle.tree_bodies.specs.Tree.{Form, Look, Insert, Delete, Replace, Empty, form_of, body_of, tree_steps}

pub few_retires : (t : Thunk) → count_by is_retire (tree_steps t) ≤ 2
few_retires t = by (form_of t)
  where
    by : (form : Form) → count_by is_retire (body_of form t) ≤ 2
    by Look = omega arith
    by Insert = omega arith
    by Delete = omega arith
    by Replace = omega arith
    by Empty = omega arith
