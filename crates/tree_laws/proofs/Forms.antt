-- The steps of the tree's bodies, found by their kind.
use Rattle.std.proofs.Common.{◌≡◌, ℕ, ◌+◌, arith}
use Rattle.std.specs.Prelude.{◌*◌, ◌^◌, ◌⊎◌, Some, slice_get}
use Rattle.bucket_laws.specs.bucket_bodies.specs.section_body.specs.Bucket.{operand}
use Rattle.structure_laws.specs.body_terms.specs.declared.value.Value.{Value}
use Rattle.structure_laws.specs.body_terms.specs.declared.value.Value.TheVariants.{Const, Of, Made}
use Rattle.structure_laws.specs.body_terms.specs.declared.value.Init.{Init}
use Rattle.structure_laws.specs.body_terms.specs.declared.step.Step.{Step}
use Rattle.structure_laws.specs.body_terms.specs.declared.step.Step.TheVariants.{Load, Want, Fresh, Take, Make, Store, Retire, Answer}
use Rattle.structure_laws.specs.body_terms.specs.declared.thunk.Thunk.{Thunk}
use Rattle.tree_bodies.specs.Tree.{lock_of, mark_of, leaf_init, inner_init, parent_in, sibling_of, old_leaf}
use Rattle.tree_bodies.specs.Tree.{look_steps, insert_steps, delete_steps, replace_steps}

module _ (t : Thunk) where
  abbrev pub IsLook : ℕ → Step → Type 0
  IsLook j step = slice_get (look_steps t) j ≡ Some step

  abbrev pub IsInsert : ℕ → Step → Type 0
  IsInsert j step = slice_get (insert_steps t) j ≡ Some step

  abbrev pub IsDelete : ℕ → Step → Type 0
  IsDelete j step = slice_get (delete_steps t) j ≡ Some step

  abbrev pub IsReplace : ℕ → Step → Type 0
  IsReplace j step = slice_get (replace_steps t) j ≡ Some step

  -- the loads of the four forms; the first two are the same for all but the removal, but for their places in the body
  pub look_load : (j p r : ℕ) → IsLook j (Load p r) → ((j ≡ 0) × (r ≡ 0) × (p ≡ operand t 0)) ⊎ ((j ≡ 2) × (r ≡ 1) × (p ≡ t.lock + 4))
  look_load j p r h = grind arith

  pub insert_load : (j p r : ℕ) → IsInsert j (Load p r) → ((j ≡ 0) × (r ≡ 0) × (p ≡ operand t 0)) ⊎ ((j ≡ 3) × (r ≡ 1) × (p ≡ t.lock + 4))
  insert_load j p r h = grind arith

  pub replace_load : (j p r : ℕ) → IsReplace j (Load p r)
      → ((j ≡ 0) × (r ≡ 0) × (p ≡ operand t 0)) ⊎ ((j ≡ 3) × (r ≡ 1) × (p ≡ t.lock + 4))
  replace_load j p r h = grind arith

  pub delete_load : (j p r : ℕ) → IsDelete j (Load p r) → ((j ≡ 0) × (r ≡ 0) × (p ≡ operand t 0)) ⊎ ((j ≡ 3) × (r ≡ 1) × (p ≡ t.lock + 4))
      ⊎ ((j ≡ 6) × (r ≡ 2) × (p ≡ operand t 4)) ⊎ ((j ≡ 8) × (r ≡ 3) × (p ≡ sibling_of t)) ⊎ ((j ≡ 9) × (r ≡ 4) × (p ≡ mark_of (parent_in t)))
  delete_load j p r h = grind arith

  pub delete_store : (j r : ℕ) (v : Value) → IsDelete j (Store r v) → ((j ≡ 13) × (r ≡ 4) × (v ≡ Const 1)) ⊎ ((j ≡ 14) × (r ≡ 0) × (v ≡ Of 3))
  delete_store j r v h = grind arith

  pub look_want : (j r w : ℕ) → IsLook j (Want r w) → ((j ≡ 1) × (r ≡ 0) × (w ≡ operand t 1)) ⊎ ((j ≡ 3) × (r ≡ 1) × (w ≡ operand t 2))
  look_want j r w h = grind arith

  pub insert_want : (j r w : ℕ) → IsInsert j (Want r w) → ((j ≡ 1) × (r ≡ 0) × (w ≡ operand t 1)) ⊎ ((j ≡ 4) × (r ≡ 1) × (w ≡ operand t 2))
  insert_want j r w h = grind arith

  pub replace_want : (j r w : ℕ) → IsReplace j (Want r w)
      → ((j ≡ 1) × (r ≡ 0) × (w ≡ operand t 1)) ⊎ ((j ≡ 4) × (r ≡ 1) × (w ≡ operand t 2))
  replace_want j r w h = grind arith

  pub delete_want : (j r w : ℕ) → IsDelete j (Want r w) → ((j ≡ 1) × (r ≡ 0) × (w ≡ operand t 1)) ⊎ ((j ≡ 4) × (r ≡ 1) × (w ≡ operand t 2))
      ⊎ ((j ≡ 7) × (r ≡ 2) × (w ≡ operand t 5)) ⊎ ((j ≡ 10) × (r ≡ 4) × (w ≡ operand t 6))
  delete_want j r w h = grind arith

  pub replace_make : (j r : ℕ) (init : Init) → IsReplace j (Make init r) → (j ≡ 5) × (r ≡ 2) × (init ≡ leaf_init t)
  replace_make j r init h = (grind arith, grind arith, grind arith)

  pub replace_store : (j r : ℕ) (v : Value) → IsReplace j (Store r v) → (j ≡ 7) × (r ≡ 0) × (v ≡ Made 2)
  replace_store j r v h = (grind arith, grind arith, grind arith)

  pub replace_retire : (j slot : ℕ) → IsReplace j (Retire slot) → (j ≡ 8) × (slot ≡ old_leaf t)
  replace_retire j slot h = (grind arith, grind arith)

  pub delete_take : (j l w : ℕ) → IsDelete j (Take l w) → (j ≡ 5) × (l ≡ lock_of (parent_in t)) × (w ≡ operand t 3)
  delete_take j l w h = (grind arith, grind arith, grind arith)

  pub insert_make : (j r : ℕ) (init : Init) → IsInsert j (Make init r) → ((j ≡ 5) × (r ≡ 2) × (init ≡ leaf_init t)) ⊎ ((j ≡ 6) × (r ≡ 3) × (init ≡ inner_init t))
  insert_make j r init h = grind arith

  pub insert_store : (j r : ℕ) (v : Value) → IsInsert j (Store r v) → (j ≡ 8) × (r ≡ 0) × (v ≡ Made 3)
  insert_store j r v h = (grind arith, grind arith, grind arith)

  -- steps that a form doesn't have
  pub look_take : (j l w : ℕ) → IsLook j (Take l w) → ⊥
  look_take j l w h = grind arith

  pub look_make : (j r : ℕ) (init : Init) → IsLook j (Make init r) → ⊥
  look_make j r init h = grind arith

  pub look_store : (j r : ℕ) (v : Value) → IsLook j (Store r v) → ⊥
  look_store j r v h = grind arith

  pub insert_take : (j l w : ℕ) → IsInsert j (Take l w) → ⊥
  insert_take j l w h = grind arith

  pub replace_take : (j l w : ℕ) → IsReplace j (Take l w) → ⊥
  replace_take j l w h = grind arith

  pub delete_make : (j r : ℕ) (init : Init) → IsDelete j (Make init r) → ⊥
  delete_make j r init h = grind arith

  pub look_answer : (j n : ℕ) → IsLook j (Answer n) → n ≡ operand t 3
  look_answer j n h = grind arith

  pub insert_answer : (j n : ℕ) → IsInsert j (Answer n) → n ≡ 1 * 2 ^ 32
  insert_answer j n h = grind arith

  pub delete_answer : (j n : ℕ) → IsDelete j (Answer n) → n ≡ 4 * 2 ^ 32
  delete_answer j n h = grind arith

  pub replace_answer : (j n : ℕ) → IsReplace j (Answer n) → n ≡ operand t 5
  replace_answer j n h = grind arith
