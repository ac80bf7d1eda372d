-- The tree's bodies have the shape of a body: the test of each of their steps comes to nothing.
use Rattle.std.proofs.Common.{◌≡◌, ◌≢◌, ◌≤◌, length, Bool, true, false, cond, refl, ap, arith}
use Rattle.std.specs.Prelude.{◌||◌, Some, None, take, nat_lt}
use Rattle.structure_laws.specs.table_words.specs.small_lemmas.proofs.Numbers.{other_tested}
use Rattle.structure_laws.specs.body_terms.specs.Word.{value_of}
use Rattle.bucket_laws.specs.bucket_bodies.specs.section_body.specs.Bucket.{operand}
use Rattle.structure_laws.specs.body_terms.specs.declared.misshape.Misshape.TheVariants.{StoredTwice}
use Rattle.structure_laws.specs.body_terms.specs.declared.value.Value.TheVariants.{Const, Made}
use Rattle.structure_laws.specs.body_terms.specs.declared.step.Step.TheVariants.{Make}
use Rattle.structure_laws.specs.body_terms.specs.declared.thunk.Thunk.{Thunk}
use Rattle.structure_laws.specs.body_terms.specs.Fault.{step_fault}
use Rattle.structure_laws.specs.body_terms.specs.Shape.{IsShaped}
use Rattle.shared_laws.proofs.Shaping.{shaped_by}
use Rattle.tree_bodies.specs.Tree.{Form, Look, Insert, Delete, Replace, Empty, body_of}
use Rattle.tree_bodies.specs.Tree.{mark_of, inner_with, parent_in}
use Rattle.tree_bodies.specs.Tree.{look_steps, insert_steps, delete_steps, replace_steps}

module _ (t : Thunk) where
  pub look_shaped : IsShaped (look_steps t)
  look_shaped = shaped_by (look_steps t) (omega arith) ((((((refl, refl), refl), refl), refl), refl), refl)

  -- whichever of both leaves is the left one, the new inner node links what was made
  inner_made : (b : Bool) → step_fault (take 6 (insert_steps t)) (Make (cond b
      (inner_with (operand t 5) (Made 2) (Const (value_of (operand t 1))))
      (inner_with (operand t 3) (Const (value_of (operand t 1))) (Made 2))) 3) ≡ None
  inner_made true = refl
  inner_made false = refl

  pub insert_shaped : IsShaped (insert_steps t)
  insert_shaped = shaped_by (insert_steps t) (omega arith) (
    (
      (
        (
          ((((((refl, refl), refl), refl), refl), refl), refl),
          inner_made (nat_lt (operand t 3) (operand t 5)),
        ),
        refl,
      ),
      refl,
    ),
    refl,
  )

  pub replace_shaped : IsShaped (replace_steps t)
  replace_shaped = shaped_by (replace_steps t) (omega arith)
      ((((((((((refl, refl), refl), refl), refl), refl), refl), refl), refl), refl), refl)

  -- a removal stores in two places
  pub delete_shaped : mark_of (parent_in t) ≢ operand t 0 → IsShaped (delete_steps t)
  delete_shaped apart = shaped_by (delete_steps t) (omega arith) (
    (
      (
        (
          ((((((((((((((refl, refl), refl), refl), refl), refl), refl), refl), refl), refl), refl), refl), refl), refl), refl),
          ap (λ b. cond ((b || false) || false) (Some (StoredTwice 14)) None)
              (other_tested (mark_of (parent_in t)) (operand t 0) apart),
        ),
        refl,
      ),
      refl,
    ),
    refl,
  )

  -- there are few steps
  pub few_steps : (f : Form) → length (body_of f t) ≤ 23
  few_steps Look = omega arith
  few_steps Insert = omega arith
  few_steps Delete = omega arith
  few_steps Replace = omega arith
  few_steps Empty = omega arith
