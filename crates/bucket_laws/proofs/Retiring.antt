-- A section of the table retires one slot at most.
use Rattle.std.specs.Prelude.{count_by, List, Bool}
use Rattle.std.proofs.Common.{◌≤◌, sym, subst, arith}
use Rattle.structure_laws.specs.body_terms.specs.Shape.{is_retire}
use Rattle.structure_laws.specs.body_terms.specs.declared.step.Step.{Step}
use Rattle.structure_laws.specs.body_terms.specs.declared.thunk.Thunk.{Thunk}
use Rattle.bucket_laws.specs.Halves.{Form, Reads, Inserts, Removes, Sets, ReadsTwo, Moves, Renames, Empty, form_of, steps_of}
use Rattle.bucket_laws.specs.Halves.{steps}
use Rattle.bucket_laws.proofs.Halves.{steps_are}

abbrev RetiresFew : List Step → Type 0
RetiresFew body = count_by is_retire body ≤ 2

few_for : (f : Form) (t : Thunk) → RetiresFew (steps_of f t)
few_for Reads t = omega arith
few_for Inserts t = omega arith
few_for Removes t = omega arith
few_for Sets t = omega arith
few_for ReadsTwo t = omega arith
few_for Moves t = omega arith
few_for Renames t = omega arith
few_for Empty t = omega arith

pub few_retires : (two : Bool) (t : Thunk) → count_by is_retire (steps two t) ≤ 2
few_retires two t = subst RetiresFew (sym (steps_are two t)) (few_for (form_of two t) t)
