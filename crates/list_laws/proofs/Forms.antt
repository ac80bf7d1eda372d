-- The steps of the list's bodies, found by their kind.
use Rattle.std.proofs.Common.{◌≡◌, ℕ, suc, ◌+◌, inl, inr, arith}
use Rattle.std.specs.Prelude.{◌*◌, ◌^◌, ◌⊎◌, Some, slice_get}
use Rattle.bucket_laws.specs.bucket_bodies.specs.section_body.specs.Bucket.{operand}
use Rattle.structure_laws.specs.body_terms.specs.Word.{value_of}
use Rattle.structure_laws.specs.body_terms.specs.declared.value.Value.{Value}
use Rattle.structure_laws.specs.body_terms.specs.declared.value.Value.TheVariants.{Const, Of, Made}
use Rattle.structure_laws.specs.body_terms.specs.declared.value.Init.{Init}
use Rattle.structure_laws.specs.body_terms.specs.declared.step.Step.{Step}
use Rattle.structure_laws.specs.body_terms.specs.declared.step.Step.TheVariants.{Load, Want, Fresh, Take, Make, Stamp, Store, Retire, Answer}
use Rattle.structure_laws.specs.body_terms.specs.declared.thunk.Thunk.{Thunk}
use Rattle.list_bodies.specs.List.{lock_of, next_of, mark_of, node_in, node_with}
use Rattle.list_bodies.specs.List.{look_steps, insert_steps, remove_steps, replace_steps}

-- the first values of the new nodes
abbrev pub insert_init : Thunk → Init
insert_init t = node_with (operand t 3) (Const (value_of (operand t 1))) (operand t 4)

abbrev pub replace_init : Thunk → Init
replace_init t = node_with (operand t 5) (Of 2) (operand t 6)

module _ (t : Thunk) where
  abbrev pub IsLook : ℕ → Step → Type 0
  IsLook j step = slice_get (look_steps t) j ≡ Some step

  abbrev pub IsInsert : ℕ → Step → Type 0
  IsInsert j step = slice_get (insert_steps t) j ≡ Some step

  abbrev pub IsRemove : ℕ → Step → Type 0
  IsRemove j step = slice_get (remove_steps t) j ≡ Some step

  abbrev pub IsReplace : ℕ → Step → Type 0
  IsReplace j step = slice_get (replace_steps t) j ≡ Some step

  -- the loads of both words of the predecessor, which each form makes, here by their places in the body
  abbrev pub FrontLoad : ℕ → ℕ → ℕ → ℕ → ℕ → Type 0
  FrontLoad a b j p r = ((j ≡ a) × (r ≡ 0) × (p ≡ t.lock + 2)) ⊎ ((j ≡ b) × (r ≡ 1) × (p ≡ t.lock + 4))

  -- and those of both words of the node
  abbrev pub WholeLoad : ℕ → ℕ → ℕ → Type 0
  WholeLoad j p r = FrontLoad 0 3 j p r
      ⊎ ((j ≡ 6) × (r ≡ 2) × (p ≡ next_of (node_in t))) ⊎ ((j ≡ 7) × (r ≡ 3) × (p ≡ mark_of (node_in t)))

  pub look_load : (j p r : ℕ) → IsLook j (Load p r) → FrontLoad 0 2 j p r
  look_load j p r h = grind arith

  pub insert_load : (j p r : ℕ) → IsInsert j (Load p r) → FrontLoad 0 3 j p r
  insert_load j p r h = grind arith

  pub remove_load : (j p r : ℕ) → IsRemove j (Load p r) → WholeLoad j p r
  remove_load j p r h = grind arith

  pub replace_load : (j p r : ℕ) → IsReplace j (Load p r) → WholeLoad j p r
  replace_load j p r h = grind arith

  -- which place a register was loaded from
  pub front_zero : (a b j p r : ℕ) → FrontLoad a b j p r → r ≡ 0 → p ≡ t.lock + 2
  front_zero a b j p r (inl l) zero = l.2
  front_zero a b j p r (inr l) zero = absurd (let one = l.1 in omega (arith, one, zero))

  front_low : (a b j p r k : ℕ) → FrontLoad a b j p r → r ≡ suc (suc k) → ⊥
  front_low a b j p r k (inl l) is = let at = l.1 in omega (arith, at, is)
  front_low a b j p r k (inr l) is = let at = l.1 in omega (arith, at, is)

  pub whole_zero : (j p r : ℕ) → WholeLoad j p r → r ≡ 0 → p ≡ t.lock + 2
  whole_zero j p r (inl l) zero = front_zero 0 3 j p r l zero
  whole_zero j p r (inr (inl l)) zero = absurd (let at = l.1 in omega (arith, at, zero))
  whole_zero j p r (inr (inr l)) zero = absurd (let at = l.1 in omega (arith, at, zero))

  pub whole_two : (j p r : ℕ) → WholeLoad j p r → r ≡ 2 → p ≡ next_of (node_in t)
  whole_two j p r (inl l) two = absurd (front_low 0 3 j p r 0 l two)
  whole_two j p r (inr (inl l)) two = l.2
  whole_two j p r (inr (inr l)) two = absurd (let at = l.1 in omega (arith, at, two))

  pub whole_three : (j p r : ℕ) → WholeLoad j p r → r ≡ 3 → p ≡ mark_of (node_in t)
  whole_three j p r (inl l) three = absurd (front_low 0 3 j p r 1 l three)
  whole_three j p r (inr (inl l)) three = absurd (let at = l.1 in omega (arith, at, three))
  whole_three j p r (inr (inr l)) three = l.2

  -- the wanted words
  abbrev pub FrontWant : ℕ → ℕ → ℕ → ℕ → ℕ → Type 0
  FrontWant a b j r w = ((j ≡ a) × (r ≡ 0) × (w ≡ operand t 1)) ⊎ ((j ≡ b) × (r ≡ 1) × (w ≡ operand t 2))

  abbrev pub WholeWant : ℕ → ℕ → ℕ → Type 0
  WholeWant j r w = FrontWant 1 4 j r w ⊎ ((j ≡ 8) × (r ≡ 3) × (w ≡ operand t 4))

  pub look_want : (j r w : ℕ) → IsLook j (Want r w) → FrontWant 1 3 j r w
  look_want j r w h = grind arith

  pub insert_want : (j r w : ℕ) → IsInsert j (Want r w) → FrontWant 1 4 j r w
  insert_want j r w h = grind arith

  pub remove_want : (j r w : ℕ) → IsRemove j (Want r w) → WholeWant j r w
  remove_want j r w h = grind arith

  pub replace_want : (j r w : ℕ) → IsReplace j (Want r w) → WholeWant j r w
  replace_want j r w h = grind arith

  pub remove_take : (j l w : ℕ) → IsRemove j (Take l w) → (j ≡ 5) × (l ≡ lock_of (node_in t)) × (w ≡ operand t 3)
  remove_take j l w h = (grind arith, grind arith, grind arith)

  pub replace_take : (j l w : ℕ) → IsReplace j (Take l w) → (j ≡ 5) × (l ≡ lock_of (node_in t)) × (w ≡ operand t 3)
  replace_take j l w h = (grind arith, grind arith, grind arith)

  pub insert_make : (j r : ℕ) (init : Init) → IsInsert j (Make init r) → (j ≡ 5) × (r ≡ 2) × (init ≡ insert_init t)
  insert_make j r init h = (grind arith, grind arith, grind arith)

  pub replace_make : (j r : ℕ) (init : Init) → IsReplace j (Make init r) → (j ≡ 11) × (r ≡ 4) × (init ≡ replace_init t)
  replace_make j r init h = (grind arith, grind arith, grind arith)

  pub insert_store : (j r : ℕ) (v : Value) → IsInsert j (Store r v) → (j ≡ 7) × (r ≡ 0) × (v ≡ Made 2)
  insert_store j r v h = (grind arith, grind arith, grind arith)

  abbrev pub RemoveStore : ℕ → ℕ → Value → Type 0
  RemoveStore j r v = ((j ≡ 11) × (r ≡ 3) × (v ≡ Const 1)) ⊎ ((j ≡ 12) × (r ≡ 0) × (v ≡ Of 2))

  pub remove_store : (j r : ℕ) (v : Value) → IsRemove j (Store r v) → RemoveStore j r v
  remove_store j r v h = grind arith

  abbrev pub ReplaceStore : ℕ → ℕ → Value → Type 0
  ReplaceStore j r v = ((j ≡ 13) × (r ≡ 3) × (v ≡ Const 1)) ⊎ ((j ≡ 14) × (r ≡ 2) × (v ≡ Made 4))
      ⊎ ((j ≡ 15) × (r ≡ 0) × (v ≡ Made 4))

  pub replace_store : (j r : ℕ) (v : Value) → IsReplace j (Store r v) → ReplaceStore j r v
  replace_store j r v h = grind arith

  pub remove_retire : (j slot : ℕ) → IsRemove j (Retire slot) → (j ≡ 13) × (slot ≡ node_in t)
  remove_retire j slot h = (grind arith, grind arith)

  pub replace_retire : (j slot : ℕ) → IsReplace j (Retire slot) → (j ≡ 16) × (slot ≡ node_in t)
  replace_retire j slot h = (grind arith, grind arith)

  -- steps that a form doesn't have
  pub look_take : (j l w : ℕ) → IsLook j (Take l w) → ⊥
  look_take j l w h = grind arith

  pub look_make : (j r : ℕ) (init : Init) → IsLook j (Make init r) → ⊥
  look_make j r init h = grind arith

  pub look_store : (j r : ℕ) (v : Value) → IsLook j (Store r v) → ⊥
  look_store j r v h = grind arith

  pub look_retire : (j slot : ℕ) → IsLook j (Retire slot) → ⊥
  look_retire j slot h = grind arith

  pub insert_take : (j l w : ℕ) → IsInsert j (Take l w) → ⊥
  insert_take j l w h = grind arith

  pub insert_retire : (j slot : ℕ) → IsInsert j (Retire slot) → ⊥
  insert_retire j slot h = grind arith

  pub remove_make : (j r : ℕ) (init : Init) → IsRemove j (Make init r) → ⊥
  remove_make j r init h = grind arith

  pub look_answer : (j n : ℕ) → IsLook j (Answer n) → n ≡ operand t 3
  look_answer j n h = grind arith

  pub insert_answer : (j n : ℕ) → IsInsert j (Answer n) → n ≡ 1 * 2 ^ 32
  insert_answer j n h = grind arith

  pub remove_answer : (j n : ℕ) → IsRemove j (Answer n) → n ≡ 4 * 2 ^ 32
  remove_answer j n h = grind arith

  pub replace_answer : (j n : ℕ) → IsReplace j (Answer n) → n ≡ operand t 7
  replace_answer j n h = grind arith

  -- where the Stamp stands
  pub look_stamp : (j : ℕ) → IsLook j Stamp → j ≡ 4
  look_stamp j h = grind arith

  pub insert_stamp : (j : ℕ) → IsInsert j Stamp → j ≡ 6
  insert_stamp j h = grind arith

  pub remove_stamp : (j : ℕ) → IsRemove j Stamp → j ≡ 10
  remove_stamp j h = grind arith

  pub replace_stamp : (j : ℕ) → IsReplace j Stamp → j ≡ 12
  replace_stamp j h = grind arith
