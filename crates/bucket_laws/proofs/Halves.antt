-- Where the steps of a half stand in its body, and of which half a step is.
use Rattle.std.proofs.Common.{◌≡◌, ◌≢◌, ℕ, zero, suc, ◌+◌, ◌<◌, ◌≤◌, Bool, true, false, cond, refl, sym, ap, ◌∙◌, subst}
use Rattle.std.proofs.Common.{inl, inr, ⊎_elim, arith}
use Rattle.std.specs.Prelude.{◌==◌, ◌&&◌, ◌*◌, ◌^◌, ◌⊎◌, Some, None, List, [], ◌∷◌, Contains, slice_get, slice_index_or}
use Rattle.structure_laws.specs.table_words.specs.small_lemmas.proofs.Lists.{some_same as some_inj}
use Rattle.structure_laws.specs.table_words.specs.small_lemmas.proofs.Numbers.{tested_equal as equal_of}
use Rattle.bucket_bodies.specs.section_body.specs.Bucket.{operand, fits_read, fits_insert, fits_remove}
use Rattle.bucket_bodies.specs.section_body.specs.Bucket.{read_steps, insert_steps, remove_steps}
use Rattle.bucket_bodies.specs.Table.{fits_set, set_steps, table_steps}
use Rattle.bucket_bodies.specs.Two.{low_half, high_half, higher_lock, takes_lower, moved_node, fits_look_two}
use Rattle.bucket_bodies.specs.Two.{fits_move, fits_rename, look_two_steps, rename_steps}
use Rattle.structure_laws.specs.body_terms.specs.declared.value.Value.{Value}
use Rattle.structure_laws.specs.body_terms.specs.declared.value.Value.TheVariants.{Const, Made}
use Rattle.structure_laws.specs.body_terms.specs.declared.value.Init.{Init}
use Rattle.structure_laws.specs.body_terms.specs.declared.step.Step.{Step}
use Rattle.structure_laws.specs.body_terms.specs.declared.step.Step.TheVariants.{Load, Want, Fresh, Take, Make, Stamp, Store, Retire, Answer}
use Rattle.structure_laws.specs.body_terms.specs.declared.thunk.Thunk.{Thunk}
use Rattle.structure_laws.specs.Sections.{is_exit}
use Rattle.bucket_laws.specs.Halves.{Kind, Look, Insert, Remove, Set, Rename, Half, look_half, insert_half}
use Rattle.bucket_laws.specs.Halves.{remove_half, set_half, rename_half, look_two_half, taking_half, putting_half, Form}
use Rattle.bucket_laws.specs.Halves.{Reads, Inserts, Removes, Sets, ReadsTwo, Moves, Renames, Empty, one_form, form_of}
use Rattle.bucket_laws.specs.Halves.{steps_of, steps, halves_of}

-- a half of this kind makes a node, or takes one out
abbrev pub Makes : Kind → Type 0
Makes Look = ⊥
Makes Insert = Unit {0}
Makes Remove = ⊥
Makes Set = ⊥
Makes Rename = Unit {0}

abbrev pub Takes : Kind → Type 0
Takes Look = ⊥
Takes Insert = ⊥
Takes Remove = Unit {0}
Takes Set = ⊥
Takes Rename = Unit {0}

-- the first values of a half's new node, and what it stores into the place that it changes
abbrev pub node_init : Half → Init
node_init h = moved_node h.key h.value h.next

abbrev pub stored_for : Kind → Half → Value
stored_for Look h = Const 0
stored_for Insert h = Made h.node_reg
stored_for Remove h = Const h.next
stored_for Set h = Const h.value
stored_for Rename h = Made h.node_reg

-- where the Stamp stands, what the body answers, and the number of the form
abbrev pub stamp_of : Form → ℕ
stamp_of Reads = 2
stamp_of Inserts = 6
stamp_of Removes = 5
stamp_of Sets = 5
stamp_of ReadsTwo = 5
stamp_of Moves = 12
stamp_of Renames = 6
stamp_of Empty = 0

abbrev pub answer_of : Form → Thunk → ℕ
answer_of Reads t = operand t 1
answer_of Inserts t = 1 * 2 ^ 32
answer_of Removes t = 4 * 2 ^ 32
answer_of Sets t = operand t 3
answer_of ReadsTwo t = operand t 7
answer_of Moves t = 7 * 2 ^ 32
answer_of Renames t = 7 * 2 ^ 32
answer_of Empty t = 0

abbrev pub number_of : Form → ℕ
number_of Reads = 1
number_of Inserts = 2
number_of Removes = 3
number_of Sets = 4
number_of ReadsTwo = 21
number_of Moves = 22
number_of Renames = 23
number_of Empty = 0

abbrev StepIs : List Step → ℕ → Step → Type 0
StepIs body j step = slice_get body j ≡ Some step

-- the order of a half's places in its body, what goes by its kind, and which step stands at each place
pub record IsHalf (t : Thunk) (body : List Step) (h : Half) : Type 0 where
  pub registers : h.edition_reg ≢ h.target_reg
  pub order : (h.wanted < h.load) × (h.load < h.made) × (h.made ≤ h.change) × (h.change ≤ h.edition)
      × (h.change ≤ h.retire)
  pub look : (h.kind ≡ Look → h.change ≡ h.edition) × ((h.kind ≡ Look → ⊥) → h.change < h.edition)
  pub insert : (Makes h.kind → h.made < h.change) × (h.made < h.change → Makes h.kind)
  pub remove : (Takes h.kind → h.change < h.retire) × (h.change < h.retire → Takes h.kind)
  -- one that makes or retires changes its bucket, and retires last
  pub changing : h.made < h.retire → h.change < h.edition
  pub last : h.change < h.retire → h.edition < h.retire
  -- its lock is the outer one, or the body takes it; then it reads the edition
  pub locked : ((h.lock ≡ t.lock) × (h.held ≡ 0)) ⊎ ((j : ℕ) × (suc j ≡ h.held) × StepIs body j (Take h.lock (operand t 1)))
  pub reads : (first : ℕ) × (suc (suc first) ≡ h.wanted) × (h.held ≤ first)
      × StepIs body first (Load (h.lock + 1) h.edition_reg) × StepIs body (suc first) (Want h.edition_reg h.word)
  pub steps : h.change < h.edition → StepIs body h.load (Load h.target h.target_reg)
      × StepIs body (suc h.load) (Fresh h.target_reg) × StepIs body h.change (Store h.target_reg (stored_for h.kind h))
      × StepIs body h.edition (Store h.edition_reg (Const 0)) × StepIs body h.wanted (Fresh h.edition_reg)
      × (suc h.load < h.change)
  pub makes : h.made < h.change → StepIs body h.made (Make (node_init h) h.node_reg)
  pub retires : h.change < h.retire → StepIs body h.retire (Retire h.gone)
  -- past its Make there is no exit, and the body goes on behind its places
  pub no_exit : (j : ℕ) (step : Step) → StepIs body j step → h.made ≤ j → is_exit step ≡ false
  pub whole : (j : ℕ) → slice_get body j ≡ None → h.made < j → (h.edition < j) × (h.retire < j)

-- two halves of one body use different registers; what the one does stands where the other lets it; and one of them at
-- most makes a node, or takes one out
pub record AreApart (g h : Half) : Type 0 where
  pub registers : (g.edition_reg ≢ h.edition_reg) × (g.edition_reg ≢ h.target_reg) × (g.target_reg ≢ h.edition_reg)
      × (g.target_reg ≢ h.target_reg)
  pub loads : g.load < h.made
  pub made : g.made < g.change → g.made < h.change
  pub stores : g.change < g.edition → h.made ≤ g.change
  pub retires : g.change < g.retire → h.edition < g.retire
  pub one_maker : g.made < g.change → h.made < h.change → ⊥
  pub one_taker : g.change < g.retire → h.change < h.retire → ⊥
  pub heads : g.change < g.edition → h.change < h.edition → (g.kind ≡ Insert) ⊎ (h.kind ≡ Insert)

-- what a step at this place of a body with these halves is
module _ (hs : List Half) (t : Thunk) (stamp answer : ℕ) where
  abbrev pub IsOf : ℕ → Step → Type 0
  IsOf j (Load p r) = (h : Half) × Contains hs h × (((suc (suc j) ≡ h.wanted) × (r ≡ h.edition_reg) × (p ≡ h.lock + 1))
      ⊎ ((h.change < h.edition) × (j ≡ h.load) × (r ≡ h.target_reg) × (p ≡ h.target)))
  IsOf j (Want r w) = (h : Half) × Contains hs h × (suc j ≡ h.wanted) × (r ≡ h.edition_reg) × (w ≡ h.word)
  IsOf j (Fresh r) = Unit {0}
  IsOf j (Take l w) = (h : Half) × Contains hs h × (suc j ≡ h.held) × (l ≡ h.lock) × (w ≡ operand t 1)
  IsOf j (Make init r) = (h : Half) × Contains hs h × (h.made < h.change) × (j ≡ h.made) × (r ≡ h.node_reg)
      × (init ≡ node_init h)
  IsOf j Stamp = j ≡ stamp
  IsOf j (Store r v) = (h : Half) × Contains hs h × (h.change < h.edition)
      × (((j ≡ h.change) × (r ≡ h.target_reg) × (v ≡ stored_for h.kind h))
      ⊎ ((j ≡ h.edition) × (r ≡ h.edition_reg) × (v ≡ Const 0)))
  IsOf j (Retire slot) = (h : Half) × Contains hs h × (h.change < h.retire) × (j ≡ h.retire) × (slot ≡ h.gone)
  IsOf j (Answer n) = n ≡ answer

  -- the step that stands there is this one
  known : {a b : Step} (j : ℕ) → Some a ≡ Some b → IsOf j a → IsOf j b
  known j same of = subst (IsOf j) (some_inj same) of

-- of one half, or of two
pub of_one : (a h : Half) → Contains (a ∷ []) h → a ≡ h
of_one a h has = at has.0 has.1 has.2
  where
    at : (k : ℕ) → k < 1 → slice_index_or (a ∷ []) k h ≡ h → a ≡ h
    at zero low e = e
    at (suc k) low e = absurd (omega arith)

pub of_two : (a b h : Half) → Contains (a ∷ b ∷ []) h → (a ≡ h) ⊎ (b ≡ h)
of_two a b h has = at has.0 has.1 has.2
  where
    at : (k : ℕ) → k < 2 → slice_index_or (a ∷ b ∷ []) k h ≡ h → (a ≡ h) ⊎ (b ≡ h)
    at zero low e = inl e
    at (suc zero) low e = inr e
    at (suc (suc k)) low e = absurd (omega arith)

pub of_none : (h : Half) → Contains [] h → ⊥
of_none h has = let low = has.1 in omega arith

empty_step : (j : ℕ) (step : Step) → StepIs [] j step → ⊥
empty_step j step h = grind arith

-- the body of form 22, by whether the first bucket is the lower one
abbrev moves_with : Bool → Thunk → List Step
moves_with lower t =
    Load (t.lock + 1) 0 ∷ Want 0 (operand t 0) ∷ Fresh 0 ∷
    Take (higher_lock t) (operand t 1) ∷ Load (higher_lock t + 1) 1 ∷ Want 1 (operand t 2) ∷ Fresh 1 ∷
    Load (low_half t 4) 2 ∷ Fresh 2 ∷ Load (cond lower (higher_lock t) t.lock + 2) 3 ∷ Fresh 3 ∷
    Make (moved_node (low_half t 6) (high_half t 6) (high_half t 5)) 4 ∷
    Stamp ∷ Store 2 (Const (low_half t 5)) ∷ Store 3 (Made 4) ∷ Store 0 (Const 0) ∷ Store 1 (Const 0) ∷
    Retire (high_half t 4) ∷ Answer (7 * 2 ^ 32) ∷ []

abbrev pub moved_halves : Bool → Thunk → List Half
moved_halves lower t = taking_half lower t ∷ putting_half lower t ∷ []

abbrev pub looked_halves : Thunk → List Half
looked_halves t = look_two_half true t ∷ look_two_half false t ∷ []

-- which step stands where
step_read : (t : Thunk) (j : ℕ) (step : Step) → StepIs (read_steps t) j step
    → IsOf (look_half t ∷ []) t 2 (operand t 1) j step
step_read t zero step h =
    known (look_half t ∷ []) t 2 (operand t 1) 0 h (look_half t, (0, omega arith, refl), inl (refl, refl, refl))
step_read t (suc zero) step h =
    known (look_half t ∷ []) t 2 (operand t 1) 1 h (look_half t, (0, omega arith, refl), refl, refl, refl)
step_read t (suc (suc zero)) step h =
    known (look_half t ∷ []) t 2 (operand t 1) 2 h refl
step_read t (suc (suc (suc zero))) step h =
    known (look_half t ∷ []) t 2 (operand t 1) 3 h refl
step_read t (suc (suc (suc (suc j)))) step h = absurd (cc)

step_insert : (t : Thunk) (j : ℕ) (step : Step) → StepIs (insert_steps t) j step
    → IsOf (insert_half t ∷ []) t 6 (1 * 2 ^ 32) j step
step_insert t zero step h =
    known (insert_half t ∷ []) t 6 (1 * 2 ^ 32) 0 h (insert_half t, (0, omega arith, refl), inl (refl, refl, refl))
step_insert t (suc zero) step h =
    known (insert_half t ∷ []) t 6 (1 * 2 ^ 32) 1 h (insert_half t, (0, omega arith, refl), refl, refl, refl)
step_insert t (suc (suc zero)) step h =
    known (insert_half t ∷ []) t 6 (1 * 2 ^ 32) 2 h tt
step_insert t (suc (suc (suc zero))) step h =
    known (insert_half t ∷ []) t 6 (1 * 2 ^ 32) 3 h (insert_half t, (0, omega arith, refl), inr (omega arith, refl, refl, refl))
step_insert t (suc (suc (suc (suc zero)))) step h =
    known (insert_half t ∷ []) t 6 (1 * 2 ^ 32) 4 h tt
step_insert t (suc (suc (suc (suc (suc zero))))) step h =
    known (insert_half t ∷ []) t 6 (1 * 2 ^ 32) 5 h (insert_half t, (0, omega arith, refl), omega arith, refl, refl, refl)
step_insert t (suc (suc (suc (suc (suc (suc zero)))))) step h =
    known (insert_half t ∷ []) t 6 (1 * 2 ^ 32) 6 h refl
step_insert t (suc (suc (suc (suc (suc (suc (suc zero))))))) step h =
    known (insert_half t ∷ []) t 6 (1 * 2 ^ 32) 7 h (insert_half t, (0, omega arith, refl), omega arith, inl (refl, refl, refl))
step_insert t (suc (suc (suc (suc (suc (suc (suc (suc zero)))))))) step h =
    known (insert_half t ∷ []) t 6 (1 * 2 ^ 32) 8 h (insert_half t, (0, omega arith, refl), omega arith, inr (refl, refl, refl))
step_insert t (suc (suc (suc (suc (suc (suc (suc (suc (suc zero))))))))) step h =
    known (insert_half t ∷ []) t 6 (1 * 2 ^ 32) 9 h refl
step_insert t (suc (suc (suc (suc (suc (suc (suc (suc (suc (suc j)))))))))) step h = absurd (cc)

step_remove : (t : Thunk) (j : ℕ) (step : Step) → StepIs (remove_steps t) j step
    → IsOf (remove_half t ∷ []) t 5 (4 * 2 ^ 32) j step
step_remove t zero step h =
    known (remove_half t ∷ []) t 5 (4 * 2 ^ 32) 0 h (remove_half t, (0, omega arith, refl), inl (refl, refl, refl))
step_remove t (suc zero) step h =
    known (remove_half t ∷ []) t 5 (4 * 2 ^ 32) 1 h (remove_half t, (0, omega arith, refl), refl, refl, refl)
step_remove t (suc (suc zero)) step h =
    known (remove_half t ∷ []) t 5 (4 * 2 ^ 32) 2 h tt
step_remove t (suc (suc (suc zero))) step h =
    known (remove_half t ∷ []) t 5 (4 * 2 ^ 32) 3 h (remove_half t, (0, omega arith, refl), inr (omega arith, refl, refl, refl))
step_remove t (suc (suc (suc (suc zero)))) step h =
    known (remove_half t ∷ []) t 5 (4 * 2 ^ 32) 4 h tt
step_remove t (suc (suc (suc (suc (suc zero))))) step h =
    known (remove_half t ∷ []) t 5 (4 * 2 ^ 32) 5 h refl
step_remove t (suc (suc (suc (suc (suc (suc zero)))))) step h =
    known (remove_half t ∷ []) t 5 (4 * 2 ^ 32) 6 h (remove_half t, (0, omega arith, refl), omega arith, inl (refl, refl, refl))
step_remove t (suc (suc (suc (suc (suc (suc (suc zero))))))) step h =
    known (remove_half t ∷ []) t 5 (4 * 2 ^ 32) 7 h (remove_half t, (0, omega arith, refl), omega arith, inr (refl, refl, refl))
step_remove t (suc (suc (suc (suc (suc (suc (suc (suc zero)))))))) step h =
    known (remove_half t ∷ []) t 5 (4 * 2 ^ 32) 8 h (remove_half t, (0, omega arith, refl), omega arith, refl, refl)
step_remove t (suc (suc (suc (suc (suc (suc (suc (suc (suc zero))))))))) step h =
    known (remove_half t ∷ []) t 5 (4 * 2 ^ 32) 9 h refl
step_remove t (suc (suc (suc (suc (suc (suc (suc (suc (suc (suc j)))))))))) step h = absurd (cc)

step_set : (t : Thunk) (j : ℕ) (step : Step) → StepIs (set_steps t) j step
    → IsOf (set_half t ∷ []) t 5 (operand t 3) j step
step_set t zero step h =
    known (set_half t ∷ []) t 5 (operand t 3) 0 h (set_half t, (0, omega arith, refl), inl (refl, refl, refl))
step_set t (suc zero) step h =
    known (set_half t ∷ []) t 5 (operand t 3) 1 h (set_half t, (0, omega arith, refl), refl, refl, refl)
step_set t (suc (suc zero)) step h =
    known (set_half t ∷ []) t 5 (operand t 3) 2 h tt
step_set t (suc (suc (suc zero))) step h =
    known (set_half t ∷ []) t 5 (operand t 3) 3 h (set_half t, (0, omega arith, refl), inr (omega arith, refl, refl, refl))
step_set t (suc (suc (suc (suc zero)))) step h =
    known (set_half t ∷ []) t 5 (operand t 3) 4 h tt
step_set t (suc (suc (suc (suc (suc zero))))) step h =
    known (set_half t ∷ []) t 5 (operand t 3) 5 h refl
step_set t (suc (suc (suc (suc (suc (suc zero)))))) step h =
    known (set_half t ∷ []) t 5 (operand t 3) 6 h (set_half t, (0, omega arith, refl), omega arith, inl (refl, refl, refl))
step_set t (suc (suc (suc (suc (suc (suc (suc zero))))))) step h =
    known (set_half t ∷ []) t 5 (operand t 3) 7 h (set_half t, (0, omega arith, refl), omega arith, inr (refl, refl, refl))
step_set t (suc (suc (suc (suc (suc (suc (suc (suc zero)))))))) step h =
    known (set_half t ∷ []) t 5 (operand t 3) 8 h refl
step_set t (suc (suc (suc (suc (suc (suc (suc (suc (suc j))))))))) step h = absurd (cc)

step_rename : (t : Thunk) (j : ℕ) (step : Step) → StepIs (rename_steps t) j step
    → IsOf (rename_half t ∷ []) t 6 (7 * 2 ^ 32) j step
step_rename t zero step h =
    known (rename_half t ∷ []) t 6 (7 * 2 ^ 32) 0 h (rename_half t, (0, omega arith, refl), inl (refl, refl, refl))
step_rename t (suc zero) step h =
    known (rename_half t ∷ []) t 6 (7 * 2 ^ 32) 1 h (rename_half t, (0, omega arith, refl), refl, refl, refl)
step_rename t (suc (suc zero)) step h =
    known (rename_half t ∷ []) t 6 (7 * 2 ^ 32) 2 h tt
step_rename t (suc (suc (suc zero))) step h =
    known (rename_half t ∷ []) t 6 (7 * 2 ^ 32) 3 h (rename_half t, (0, omega arith, refl), inr (omega arith, refl, refl, refl))
step_rename t (suc (suc (suc (suc zero)))) step h =
    known (rename_half t ∷ []) t 6 (7 * 2 ^ 32) 4 h tt
step_rename t (suc (suc (suc (suc (suc zero))))) step h =
    known (rename_half t ∷ []) t 6 (7 * 2 ^ 32) 5 h (rename_half t, (0, omega arith, refl), omega arith, refl, refl, refl)
step_rename t (suc (suc (suc (suc (suc (suc zero)))))) step h =
    known (rename_half t ∷ []) t 6 (7 * 2 ^ 32) 6 h refl
step_rename t (suc (suc (suc (suc (suc (suc (suc zero))))))) step h =
    known (rename_half t ∷ []) t 6 (7 * 2 ^ 32) 7 h (rename_half t, (0, omega arith, refl), omega arith, inl (refl, refl, refl))
step_rename t (suc (suc (suc (suc (suc (suc (suc (suc zero)))))))) step h =
    known (rename_half t ∷ []) t 6 (7 * 2 ^ 32) 8 h (rename_half t, (0, omega arith, refl), omega arith, inr (refl, refl, refl))
step_rename t (suc (suc (suc (suc (suc (suc (suc (suc (suc zero))))))))) step h =
    known (rename_half t ∷ []) t 6 (7 * 2 ^ 32) 9 h (rename_half t, (0, omega arith, refl), omega arith, refl, refl)
step_rename t (suc (suc (suc (suc (suc (suc (suc (suc (suc (suc zero)))))))))) step h =
    known (rename_half t ∷ []) t 6 (7 * 2 ^ 32) 10 h refl
step_rename t (suc (suc (suc (suc (suc (suc (suc (suc (suc (suc (suc j))))))))))) step h = absurd (cc)

step_look_two : (t : Thunk) (j : ℕ) (step : Step) → StepIs (look_two_steps t) j step
    → IsOf (looked_halves t) t 5 (operand t 7) j step
step_look_two t zero step h =
    known (looked_halves t) t 5 (operand t 7) 0 h (look_two_half true t, (0, omega arith, refl), inl (refl, refl, refl))
step_look_two t (suc zero) step h =
    known (looked_halves t) t 5 (operand t 7) 1 h (look_two_half true t, (0, omega arith, refl), refl, refl, refl)
step_look_two t (suc (suc zero)) step h =
    known (looked_halves t) t 5 (operand t 7) 2 h (look_two_half false t, (1, omega arith, refl), refl, refl, refl)
step_look_two t (suc (suc (suc zero))) step h =
    known (looked_halves t) t 5 (operand t 7) 3 h (look_two_half false t, (1, omega arith, refl), inl (refl, refl, refl))
step_look_two t (suc (suc (suc (suc zero)))) step h =
    known (looked_halves t) t 5 (operand t 7) 4 h (look_two_half false t, (1, omega arith, refl), refl, refl, refl)
step_look_two t (suc (suc (suc (suc (suc zero))))) step h =
    known (looked_halves t) t 5 (operand t 7) 5 h refl
step_look_two t (suc (suc (suc (suc (suc (suc zero)))))) step h =
    known (looked_halves t) t 5 (operand t 7) 6 h refl
step_look_two t (suc (suc (suc (suc (suc (suc (suc j))))))) step h = absurd (cc)

step_move_true : (t : Thunk) (j : ℕ) (step : Step) → StepIs (moves_with true t) j step
    → IsOf (moved_halves true t) t 12 (7 * 2 ^ 32) j step
step_move_true t zero step h =
    known (moved_halves true t) t 12 (7 * 2 ^ 32) 0 h (taking_half true t, (0, omega arith, refl), inl (refl, refl, refl))
step_move_true t (suc zero) step h =
    known (moved_halves true t) t 12 (7 * 2 ^ 32) 1 h (taking_half true t, (0, omega arith, refl), refl, refl, refl)
step_move_true t (suc (suc zero)) step h =
    known (moved_halves true t) t 12 (7 * 2 ^ 32) 2 h tt
step_move_true t (suc (suc (suc zero))) step h =
    known (moved_halves true t) t 12 (7 * 2 ^ 32) 3 h (putting_half true t, (1, omega arith, refl), refl, refl, refl)
step_move_true t (suc (suc (suc (suc zero)))) step h =
    known (moved_halves true t) t 12 (7 * 2 ^ 32) 4 h (putting_half true t, (1, omega arith, refl), inl (refl, refl, refl))
step_move_true t (suc (suc (suc (suc (suc zero))))) step h =
    known (moved_halves true t) t 12 (7 * 2 ^ 32) 5 h (putting_half true t, (1, omega arith, refl), refl, refl, refl)
step_move_true t (suc (suc (suc (suc (suc (suc zero)))))) step h =
    known (moved_halves true t) t 12 (7 * 2 ^ 32) 6 h tt
step_move_true t (suc (suc (suc (suc (suc (suc (suc zero))))))) step h =
    known (moved_halves true t) t 12 (7 * 2 ^ 32) 7 h (taking_half true t, (0, omega arith, refl), inr (omega arith, refl, refl, refl))
step_move_true t (suc (suc (suc (suc (suc (suc (suc (suc zero)))))))) step h =
    known (moved_halves true t) t 12 (7 * 2 ^ 32) 8 h tt
step_move_true t (suc (suc (suc (suc (suc (suc (suc (suc (suc zero))))))))) step h =
    known (moved_halves true t) t 12 (7 * 2 ^ 32) 9 h (putting_half true t, (1, omega arith, refl), inr (omega arith, refl, refl, refl))
step_move_true t (suc (suc (suc (suc (suc (suc (suc (suc (suc (suc zero)))))))))) step h =
    known (moved_halves true t) t 12 (7 * 2 ^ 32) 10 h tt
step_move_true t (suc (suc (suc (suc (suc (suc (suc (suc (suc (suc (suc zero))))))))))) step h =
    known (moved_halves true t) t 12 (7 * 2 ^ 32) 11 h (putting_half true t, (1, omega arith, refl), omega arith, refl, refl, refl)
step_move_true t (suc (suc (suc (suc (suc (suc (suc (suc (suc (suc (suc (suc zero)))))))))))) step h =
    known (moved_halves true t) t 12 (7 * 2 ^ 32) 12 h refl
step_move_true t (suc (suc (suc (suc (suc (suc (suc (suc (suc (suc (suc (suc (suc zero))))))))))))) step h =
    known (moved_halves true t) t 12 (7 * 2 ^ 32) 13 h (taking_half true t, (0, omega arith, refl), omega arith, inl (refl, refl, refl))
step_move_true t (suc (suc (suc (suc (suc (suc (suc (suc (suc (suc (suc (suc (suc (suc zero)))))))))))))) step h =
    known (moved_halves true t) t 12 (7 * 2 ^ 32) 14 h (putting_half true t, (1, omega arith, refl), omega arith, inl (refl, refl, refl))
step_move_true t (suc (suc (suc (suc (suc (suc (suc (suc (suc (suc (suc (suc (suc (suc (suc zero))))))))))))))) step h =
    known (moved_halves true t) t 12 (7 * 2 ^ 32) 15 h (taking_half true t, (0, omega arith, refl), omega arith, inr (refl, refl, refl))
step_move_true t (suc (suc (suc (suc (suc (suc (suc (suc (suc (suc (suc (suc (suc (suc (suc (suc zero)))))))))))))))) step h =
    known (moved_halves true t) t 12 (7 * 2 ^ 32) 16 h (putting_half true t, (1, omega arith, refl), omega arith, inr (refl, refl, refl))
step_move_true t (suc (suc (suc (suc (suc (suc (suc (suc (suc (suc (suc (suc (suc (suc (suc (suc (suc zero))))))))))))))))) step h =
    known (moved_halves true t) t 12 (7 * 2 ^ 32) 17 h (taking_half true t, (0, omega arith, refl), omega arith, refl, refl)
step_move_true t (suc (suc (suc (suc (suc (suc (suc (suc (suc (suc (suc (suc (suc (suc (suc (suc (suc (suc zero)))))))))))))))))) step h =
    known (moved_halves true t) t 12 (7 * 2 ^ 32) 18 h refl
step_move_true t (suc (suc (suc (suc (suc (suc (suc (suc (suc (suc (suc (suc (suc (suc (suc (suc (suc (suc (suc j))))))))))))))))))) step h = absurd (cc)

step_move_false : (t : Thunk) (j : ℕ) (step : Step) → StepIs (moves_with false t) j step
    → IsOf (moved_halves false t) t 12 (7 * 2 ^ 32) j step
step_move_false t zero step h =
    known (moved_halves false t) t 12 (7 * 2 ^ 32) 0 h (putting_half false t, (1, omega arith, refl), inl (refl, refl, refl))
step_move_false t (suc zero) step h =
    known (moved_halves false t) t 12 (7 * 2 ^ 32) 1 h (putting_half false t, (1, omega arith, refl), refl, refl, refl)
step_move_false t (suc (suc zero)) step h =
    known (moved_halves false t) t 12 (7 * 2 ^ 32) 2 h tt
step_move_false t (suc (suc (suc zero))) step h =
    known (moved_halves false t) t 12 (7 * 2 ^ 32) 3 h (taking_half false t, (0, omega arith, refl), refl, refl, refl)
step_move_false t (suc (suc (suc (suc zero)))) step h =
    known (moved_halves false t) t 12 (7 * 2 ^ 32) 4 h (taking_half false t, (0, omega arith, refl), inl (refl, refl, refl))
step_move_false t (suc (suc (suc (suc (suc zero))))) step h =
    known (moved_halves false t) t 12 (7 * 2 ^ 32) 5 h (taking_half false t, (0, omega arith, refl), refl, refl, refl)
step_move_false t (suc (suc (suc (suc (suc (suc zero)))))) step h =
    known (moved_halves false t) t 12 (7 * 2 ^ 32) 6 h tt
step_move_false t (suc (suc (suc (suc (suc (suc (suc zero))))))) step h =
    known (moved_halves false t) t 12 (7 * 2 ^ 32) 7 h (taking_half false t, (0, omega arith, refl), inr (omega arith, refl, refl, refl))
step_move_false t (suc (suc (suc (suc (suc (suc (suc (suc zero)))))))) step h =
    known (moved_halves false t) t 12 (7 * 2 ^ 32) 8 h tt
step_move_false t (suc (suc (suc (suc (suc (suc (suc (suc (suc zero))))))))) step h =
    known (moved_halves false t) t 12 (7 * 2 ^ 32) 9 h (putting_half false t, (1, omega arith, refl), inr (omega arith, refl, refl, refl))
step_move_false t (suc (suc (suc (suc (suc (suc (suc (suc (suc (suc zero)))))))))) step h =
    known (moved_halves false t) t 12 (7 * 2 ^ 32) 10 h tt
step_move_false t (suc (suc (suc (suc (suc (suc (suc (suc (suc (suc (suc zero))))))))))) step h =
    known (moved_halves false t) t 12 (7 * 2 ^ 32) 11 h (putting_half false t, (1, omega arith, refl), omega arith, refl, refl, refl)
step_move_false t (suc (suc (suc (suc (suc (suc (suc (suc (suc (suc (suc (suc zero)))))))))))) step h =
    known (moved_halves false t) t 12 (7 * 2 ^ 32) 12 h refl
step_move_false t (suc (suc (suc (suc (suc (suc (suc (suc (suc (suc (suc (suc (suc zero))))))))))))) step h =
    known (moved_halves false t) t 12 (7 * 2 ^ 32) 13 h (taking_half false t, (0, omega arith, refl), omega arith, inl (refl, refl, refl))
step_move_false t (suc (suc (suc (suc (suc (suc (suc (suc (suc (suc (suc (suc (suc (suc zero)))))))))))))) step h =
    known (moved_halves false t) t 12 (7 * 2 ^ 32) 14 h (putting_half false t, (1, omega arith, refl), omega arith, inl (refl, refl, refl))
step_move_false t (suc (suc (suc (suc (suc (suc (suc (suc (suc (suc (suc (suc (suc (suc (suc zero))))))))))))))) step h =
    known (moved_halves false t) t 12 (7 * 2 ^ 32) 15 h (putting_half false t, (1, omega arith, refl), omega arith, inr (refl, refl, refl))
step_move_false t (suc (suc (suc (suc (suc (suc (suc (suc (suc (suc (suc (suc (suc (suc (suc (suc zero)))))))))))))))) step h =
    known (moved_halves false t) t 12 (7 * 2 ^ 32) 16 h (taking_half false t, (0, omega arith, refl), omega arith, inr (refl, refl, refl))
step_move_false t (suc (suc (suc (suc (suc (suc (suc (suc (suc (suc (suc (suc (suc (suc (suc (suc (suc zero))))))))))))))))) step h =
    known (moved_halves false t) t 12 (7 * 2 ^ 32) 17 h (taking_half false t, (0, omega arith, refl), omega arith, refl, refl)
step_move_false t (suc (suc (suc (suc (suc (suc (suc (suc (suc (suc (suc (suc (suc (suc (suc (suc (suc (suc zero)))))))))))))))))) step h =
    known (moved_halves false t) t 12 (7 * 2 ^ 32) 18 h refl
step_move_false t (suc (suc (suc (suc (suc (suc (suc (suc (suc (suc (suc (suc (suc (suc (suc (suc (suc (suc (suc j))))))))))))))))))) step h = absurd (cc)

step_moves : (lower : Bool) (t : Thunk) (j : ℕ) (step : Step) → StepIs (moves_with lower t) j step
    → IsOf (moved_halves lower t) t 12 (7 * 2 ^ 32) j step
step_moves true t j step h = step_move_true t j step h
step_moves false t j step h = step_move_false t j step h

pub step_in : (f : Form) (t : Thunk) (j : ℕ) (step : Step) → StepIs (steps_of f t) j step
    → IsOf (halves_of f t) t (stamp_of f) (answer_of f t) j step
step_in Reads t j step h = step_read t j step h
step_in Inserts t j step h = step_insert t j step h
step_in Removes t j step h = step_remove t j step h
step_in Sets t j step h = step_set t j step h
step_in ReadsTwo t j step h = step_look_two t j step h
step_in Moves t j step h = step_moves (takes_lower t) t j step h
step_in Renames t j step h = step_rename t j step h
step_in Empty t j step h = absurd (empty_step j step h)

-- past the exits; and where the body ends
late_read : (t : Thunk) (j : ℕ) (step : Step) → StepIs (read_steps t) j step → 4 ≤ j → is_exit step ≡ false
late_read t zero step h low = absurd (omega arith)
late_read t (suc zero) step h low = absurd (omega arith)
late_read t (suc (suc zero)) step h low = absurd (omega arith)
late_read t (suc (suc (suc zero))) step h low = absurd (omega arith)
late_read t (suc (suc (suc (suc j)))) step h low = absurd (cc)

ended_read : (t : Thunk) (j : ℕ) → slice_get (read_steps t) j ≡ None → 3 < j
ended_read t zero h = absurd (cc)
ended_read t (suc zero) h = absurd (cc)
ended_read t (suc (suc zero)) h = absurd (cc)
ended_read t (suc (suc (suc zero))) h = absurd (cc)
ended_read t (suc (suc (suc (suc j)))) h = omega arith

late_insert : (t : Thunk) (j : ℕ) (step : Step) → StepIs (insert_steps t) j step → 5 ≤ j → is_exit step ≡ false
late_insert t zero step h low = absurd (omega arith)
late_insert t (suc zero) step h low = absurd (omega arith)
late_insert t (suc (suc zero)) step h low = absurd (omega arith)
late_insert t (suc (suc (suc zero))) step h low = absurd (omega arith)
late_insert t (suc (suc (suc (suc zero)))) step h low = absurd (omega arith)
late_insert t (suc (suc (suc (suc (suc zero))))) step h low = ap is_exit (sym (some_inj h))
late_insert t (suc (suc (suc (suc (suc (suc zero)))))) step h low = ap is_exit (sym (some_inj h))
late_insert t (suc (suc (suc (suc (suc (suc (suc zero))))))) step h low = ap is_exit (sym (some_inj h))
late_insert t (suc (suc (suc (suc (suc (suc (suc (suc zero)))))))) step h low = ap is_exit (sym (some_inj h))
late_insert t (suc (suc (suc (suc (suc (suc (suc (suc (suc zero))))))))) step h low = ap is_exit (sym (some_inj h))
late_insert t (suc (suc (suc (suc (suc (suc (suc (suc (suc (suc j)))))))))) step h low = absurd (cc)

ended_insert : (t : Thunk) (j : ℕ) → slice_get (insert_steps t) j ≡ None → 9 < j
ended_insert t zero h = absurd (cc)
ended_insert t (suc zero) h = absurd (cc)
ended_insert t (suc (suc zero)) h = absurd (cc)
ended_insert t (suc (suc (suc zero))) h = absurd (cc)
ended_insert t (suc (suc (suc (suc zero)))) h = absurd (cc)
ended_insert t (suc (suc (suc (suc (suc zero))))) h = absurd (cc)
ended_insert t (suc (suc (suc (suc (suc (suc zero)))))) h = absurd (cc)
ended_insert t (suc (suc (suc (suc (suc (suc (suc zero))))))) h = absurd (cc)
ended_insert t (suc (suc (suc (suc (suc (suc (suc (suc zero)))))))) h = absurd (cc)
ended_insert t (suc (suc (suc (suc (suc (suc (suc (suc (suc zero))))))))) h = absurd (cc)
ended_insert t (suc (suc (suc (suc (suc (suc (suc (suc (suc (suc j)))))))))) h = omega arith

late_remove : (t : Thunk) (j : ℕ) (step : Step) → StepIs (remove_steps t) j step → 5 ≤ j → is_exit step ≡ false
late_remove t zero step h low = absurd (omega arith)
late_remove t (suc zero) step h low = absurd (omega arith)
late_remove t (suc (suc zero)) step h low = absurd (omega arith)
late_remove t (suc (suc (suc zero))) step h low = absurd (omega arith)
late_remove t (suc (suc (suc (suc zero)))) step h low = absurd (omega arith)
late_remove t (suc (suc (suc (suc (suc zero))))) step h low = ap is_exit (sym (some_inj h))
late_remove t (suc (suc (suc (suc (suc (suc zero)))))) step h low = ap is_exit (sym (some_inj h))
late_remove t (suc (suc (suc (suc (suc (suc (suc zero))))))) step h low = ap is_exit (sym (some_inj h))
late_remove t (suc (suc (suc (suc (suc (suc (suc (suc zero)))))))) step h low = ap is_exit (sym (some_inj h))
late_remove t (suc (suc (suc (suc (suc (suc (suc (suc (suc zero))))))))) step h low = ap is_exit (sym (some_inj h))
late_remove t (suc (suc (suc (suc (suc (suc (suc (suc (suc (suc j)))))))))) step h low = absurd (cc)

ended_remove : (t : Thunk) (j : ℕ) → slice_get (remove_steps t) j ≡ None → 9 < j
ended_remove t zero h = absurd (cc)
ended_remove t (suc zero) h = absurd (cc)
ended_remove t (suc (suc zero)) h = absurd (cc)
ended_remove t (suc (suc (suc zero))) h = absurd (cc)
ended_remove t (suc (suc (suc (suc zero)))) h = absurd (cc)
ended_remove t (suc (suc (suc (suc (suc zero))))) h = absurd (cc)
ended_remove t (suc (suc (suc (suc (suc (suc zero)))))) h = absurd (cc)
ended_remove t (suc (suc (suc (suc (suc (suc (suc zero))))))) h = absurd (cc)
ended_remove t (suc (suc (suc (suc (suc (suc (suc (suc zero)))))))) h = absurd (cc)
ended_remove t (suc (suc (suc (suc (suc (suc (suc (suc (suc zero))))))))) h = absurd (cc)
ended_remove t (suc (suc (suc (suc (suc (suc (suc (suc (suc (suc j)))))))))) h = omega arith

late_set : (t : Thunk) (j : ℕ) (step : Step) → StepIs (set_steps t) j step → 5 ≤ j → is_exit step ≡ false
late_set t zero step h low = absurd (omega arith)
late_set t (suc zero) step h low = absurd (omega arith)
late_set t (suc (suc zero)) step h low = absurd (omega arith)
late_set t (suc (suc (suc zero))) step h low = absurd (omega arith)
late_set t (suc (suc (suc (suc zero)))) step h low = absurd (omega arith)
late_set t (suc (suc (suc (suc (suc zero))))) step h low = ap is_exit (sym (some_inj h))
late_set t (suc (suc (suc (suc (suc (suc zero)))))) step h low = ap is_exit (sym (some_inj h))
late_set t (suc (suc (suc (suc (suc (suc (suc zero))))))) step h low = ap is_exit (sym (some_inj h))
late_set t (suc (suc (suc (suc (suc (suc (suc (suc zero)))))))) step h low = ap is_exit (sym (some_inj h))
late_set t (suc (suc (suc (suc (suc (suc (suc (suc (suc j))))))))) step h low = absurd (cc)

ended_set : (t : Thunk) (j : ℕ) → slice_get (set_steps t) j ≡ None → 8 < j
ended_set t zero h = absurd (cc)
ended_set t (suc zero) h = absurd (cc)
ended_set t (suc (suc zero)) h = absurd (cc)
ended_set t (suc (suc (suc zero))) h = absurd (cc)
ended_set t (suc (suc (suc (suc zero)))) h = absurd (cc)
ended_set t (suc (suc (suc (suc (suc zero))))) h = absurd (cc)
ended_set t (suc (suc (suc (suc (suc (suc zero)))))) h = absurd (cc)
ended_set t (suc (suc (suc (suc (suc (suc (suc zero))))))) h = absurd (cc)
ended_set t (suc (suc (suc (suc (suc (suc (suc (suc zero)))))))) h = absurd (cc)
ended_set t (suc (suc (suc (suc (suc (suc (suc (suc (suc j))))))))) h = omega arith

late_rename : (t : Thunk) (j : ℕ) (step : Step) → StepIs (rename_steps t) j step → 5 ≤ j → is_exit step ≡ false
late_rename t zero step h low = absurd (omega arith)
late_rename t (suc zero) step h low = absurd (omega arith)
late_rename t (suc (suc zero)) step h low = absurd (omega arith)
late_rename t (suc (suc (suc zero))) step h low = absurd (omega arith)
late_rename t (suc (suc (suc (suc zero)))) step h low = absurd (omega arith)
late_rename t (suc (suc (suc (suc (suc zero))))) step h low = ap is_exit (sym (some_inj h))
late_rename t (suc (suc (suc (suc (suc (suc zero)))))) step h low = ap is_exit (sym (some_inj h))
late_rename t (suc (suc (suc (suc (suc (suc (suc zero))))))) step h low = ap is_exit (sym (some_inj h))
late_rename t (suc (suc (suc (suc (suc (suc (suc (suc zero)))))))) step h low = ap is_exit (sym (some_inj h))
late_rename t (suc (suc (suc (suc (suc (suc (suc (suc (suc zero))))))))) step h low = ap is_exit (sym (some_inj h))
late_rename t (suc (suc (suc (suc (suc (suc (suc (suc (suc (suc zero)))))))))) step h low = ap is_exit (sym (some_inj h))
late_rename t (suc (suc (suc (suc (suc (suc (suc (suc (suc (suc (suc j))))))))))) step h low = absurd (cc)

ended_rename : (t : Thunk) (j : ℕ) → slice_get (rename_steps t) j ≡ None → 10 < j
ended_rename t zero h = absurd (cc)
ended_rename t (suc zero) h = absurd (cc)
ended_rename t (suc (suc zero)) h = absurd (cc)
ended_rename t (suc (suc (suc zero))) h = absurd (cc)
ended_rename t (suc (suc (suc (suc zero)))) h = absurd (cc)
ended_rename t (suc (suc (suc (suc (suc zero))))) h = absurd (cc)
ended_rename t (suc (suc (suc (suc (suc (suc zero)))))) h = absurd (cc)
ended_rename t (suc (suc (suc (suc (suc (suc (suc zero))))))) h = absurd (cc)
ended_rename t (suc (suc (suc (suc (suc (suc (suc (suc zero)))))))) h = absurd (cc)
ended_rename t (suc (suc (suc (suc (suc (suc (suc (suc (suc zero))))))))) h = absurd (cc)
ended_rename t (suc (suc (suc (suc (suc (suc (suc (suc (suc (suc zero)))))))))) h = absurd (cc)
ended_rename t (suc (suc (suc (suc (suc (suc (suc (suc (suc (suc (suc j))))))))))) h = omega arith

late_look_two : (t : Thunk) (j : ℕ) (step : Step) → StepIs (look_two_steps t) j step → 5 ≤ j → is_exit step ≡ false
late_look_two t zero step h low = absurd (omega arith)
late_look_two t (suc zero) step h low = absurd (omega arith)
late_look_two t (suc (suc zero)) step h low = absurd (omega arith)
late_look_two t (suc (suc (suc zero))) step h low = absurd (omega arith)
late_look_two t (suc (suc (suc (suc zero)))) step h low = absurd (omega arith)
late_look_two t (suc (suc (suc (suc (suc zero))))) step h low = ap is_exit (sym (some_inj h))
late_look_two t (suc (suc (suc (suc (suc (suc zero)))))) step h low = ap is_exit (sym (some_inj h))
late_look_two t (suc (suc (suc (suc (suc (suc (suc j))))))) step h low = absurd (cc)

ended_look_two : (t : Thunk) (j : ℕ) → slice_get (look_two_steps t) j ≡ None → 6 < j
ended_look_two t zero h = absurd (cc)
ended_look_two t (suc zero) h = absurd (cc)
ended_look_two t (suc (suc zero)) h = absurd (cc)
ended_look_two t (suc (suc (suc zero))) h = absurd (cc)
ended_look_two t (suc (suc (suc (suc zero)))) h = absurd (cc)
ended_look_two t (suc (suc (suc (suc (suc zero))))) h = absurd (cc)
ended_look_two t (suc (suc (suc (suc (suc (suc zero)))))) h = absurd (cc)
ended_look_two t (suc (suc (suc (suc (suc (suc (suc j))))))) h = omega arith

late_move_true : (t : Thunk) (j : ℕ) (step : Step) → StepIs (moves_with true t) j step → 11 ≤ j → is_exit step ≡ false
late_move_true t zero step h low = absurd (omega arith)
late_move_true t (suc zero) step h low = absurd (omega arith)
late_move_true t (suc (suc zero)) step h low = absurd (omega arith)
late_move_true t (suc (suc (suc zero))) step h low = absurd (omega arith)
late_move_true t (suc (suc (suc (suc zero)))) step h low = absurd (omega arith)
late_move_true t (suc (suc (suc (suc (suc zero))))) step h low = absurd (omega arith)
late_move_true t (suc (suc (suc (suc (suc (suc zero)))))) step h low = absurd (omega arith)
late_move_true t (suc (suc (suc (suc (suc (suc (suc zero))))))) step h low = absurd (omega arith)
late_move_true t (suc (suc (suc (suc (suc (suc (suc (suc zero)))))))) step h low = absurd (omega arith)
late_move_true t (suc (suc (suc (suc (suc (suc (suc (suc (suc zero))))))))) step h low = absurd (omega arith)
late_move_true t (suc (suc (suc (suc (suc (suc (suc (suc (suc (suc zero)))))))))) step h low = absurd (omega arith)
late_move_true t (suc (suc (suc (suc (suc (suc (suc (suc (suc (suc (suc zero))))))))))) step h low = ap is_exit (sym (some_inj h))
late_move_true t (suc (suc (suc (suc (suc (suc (suc (suc (suc (suc (suc (suc zero)))))))))))) step h low = ap is_exit (sym (some_inj h))
late_move_true t (suc (suc (suc (suc (suc (suc (suc (suc (suc (suc (suc (suc (suc zero))))))))))))) step h low = ap is_exit (sym (some_inj h))
late_move_true t (suc (suc (suc (suc (suc (suc (suc (suc (suc (suc (suc (suc (suc (suc zero)))))))))))))) step h low = ap is_exit (sym (some_inj h))
late_move_true t (suc (suc (suc (suc (suc (suc (suc (suc (suc (suc (suc (suc (suc (suc (suc zero))))))))))))))) step h low = ap is_exit (sym (some_inj h))
late_move_true t (suc (suc (suc (suc (suc (suc (suc (suc (suc (suc (suc (suc (suc (suc (suc (suc zero)))))))))))))))) step h low = ap is_exit (sym (some_inj h))
late_move_true t (suc (suc (suc (suc (suc (suc (suc (suc (suc (suc (suc (suc (suc (suc (suc (suc (suc zero))))))))))))))))) step h low = ap is_exit (sym (some_inj h))
late_move_true t (suc (suc (suc (suc (suc (suc (suc (suc (suc (suc (suc (suc (suc (suc (suc (suc (suc (suc zero)))))))))))))))))) step h low = ap is_exit (sym (some_inj h))
late_move_true t (suc (suc (suc (suc (suc (suc (suc (suc (suc (suc (suc (suc (suc (suc (suc (suc (suc (suc (suc j))))))))))))))))))) step h low = absurd (cc)

ended_move_true : (t : Thunk) (j : ℕ) → slice_get (moves_with true t) j ≡ None → 18 < j
ended_move_true t zero h = absurd (cc)
ended_move_true t (suc zero) h = absurd (cc)
ended_move_true t (suc (suc zero)) h = absurd (cc)
ended_move_true t (suc (suc (suc zero))) h = absurd (cc)
ended_move_true t (suc (suc (suc (suc zero)))) h = absurd (cc)
ended_move_true t (suc (suc (suc (suc (suc zero))))) h = absurd (cc)
ended_move_true t (suc (suc (suc (suc (suc (suc zero)))))) h = absurd (cc)
ended_move_true t (suc (suc (suc (suc (suc (suc (suc zero))))))) h = absurd (cc)
ended_move_true t (suc (suc (suc (suc (suc (suc (suc (suc zero)))))))) h = absurd (cc)
ended_move_true t (suc (suc (suc (suc (suc (suc (suc (suc (suc zero))))))))) h = absurd (cc)
ended_move_true t (suc (suc (suc (suc (suc (suc (suc (suc (suc (suc zero)))))))))) h = absurd (cc)
ended_move_true t (suc (suc (suc (suc (suc (suc (suc (suc (suc (suc (suc zero))))))))))) h = absurd (cc)
ended_move_true t (suc (suc (suc (suc (suc (suc (suc (suc (suc (suc (suc (suc zero)))))))))))) h = absurd (cc)
ended_move_true t (suc (suc (suc (suc (suc (suc (suc (suc (suc (suc (suc (suc (suc zero))))))))))))) h = absurd (cc)
ended_move_true t (suc (suc (suc (suc (suc (suc (suc (suc (suc (suc (suc (suc (suc (suc zero)))))))))))))) h = absurd (cc)
ended_move_true t (suc (suc (suc (suc (suc (suc (suc (suc (suc (suc (suc (suc (suc (suc (suc zero))))))))))))))) h = absurd (cc)
ended_move_true t (suc (suc (suc (suc (suc (suc (suc (suc (suc (suc (suc (suc (suc (suc (suc (suc zero)))))))))))))))) h = absurd (cc)
ended_move_true t (suc (suc (suc (suc (suc (suc (suc (suc (suc (suc (suc (suc (suc (suc (suc (suc (suc zero))))))))))))))))) h = absurd (cc)
ended_move_true t (suc (suc (suc (suc (suc (suc (suc (suc (suc (suc (suc (suc (suc (suc (suc (suc (suc (suc zero)))))))))))))))))) h = absurd (cc)
ended_move_true t (suc (suc (suc (suc (suc (suc (suc (suc (suc (suc (suc (suc (suc (suc (suc (suc (suc (suc (suc j))))))))))))))))))) h = omega arith

late_move_false : (t : Thunk) (j : ℕ) (step : Step) → StepIs (moves_with false t) j step → 11 ≤ j → is_exit step ≡ false
late_move_false t zero step h low = absurd (omega arith)
late_move_false t (suc zero) step h low = absurd (omega arith)
late_move_false t (suc (suc zero)) step h low = absurd (omega arith)
late_move_false t (suc (suc (suc zero))) step h low = absurd (omega arith)
late_move_false t (suc (suc (suc (suc zero)))) step h low = absurd (omega arith)
late_move_false t (suc (suc (suc (suc (suc zero))))) step h low = absurd (omega arith)
late_move_false t (suc (suc (suc (suc (suc (suc zero)))))) step h low = absurd (omega arith)
late_move_false t (suc (suc (suc (suc (suc (suc (suc zero))))))) step h low = absurd (omega arith)
late_move_false t (suc (suc (suc (suc (suc (suc (suc (suc zero)))))))) step h low = absurd (omega arith)
late_move_false t (suc (suc (suc (suc (suc (suc (suc (suc (suc zero))))))))) step h low = absurd (omega arith)
late_move_false t (suc (suc (suc (suc (suc (suc (suc (suc (suc (suc zero)))))))))) step h low = absurd (omega arith)
late_move_false t (suc (suc (suc (suc (suc (suc (suc (suc (suc (suc (suc zero))))))))))) step h low = ap is_exit (sym (some_inj h))
late_move_false t (suc (suc (suc (suc (suc (suc (suc (suc (suc (suc (suc (suc zero)))))))))))) step h low = ap is_exit (sym (some_inj h))
late_move_false t (suc (suc (suc (suc (suc (suc (suc (suc (suc (suc (suc (suc (suc zero))))))))))))) step h low = ap is_exit (sym (some_inj h))
late_move_false t (suc (suc (suc (suc (suc (suc (suc (suc (suc (suc (suc (suc (suc (suc zero)))))))))))))) step h low = ap is_exit (sym (some_inj h))
late_move_false t (suc (suc (suc (suc (suc (suc (suc (suc (suc (suc (suc (suc (suc (suc (suc zero))))))))))))))) step h low = ap is_exit (sym (some_inj h))
late_move_false t (suc (suc (suc (suc (suc (suc (suc (suc (suc (suc (suc (suc (suc (suc (suc (suc zero)))))))))))))))) step h low = ap is_exit (sym (some_inj h))
late_move_false t (suc (suc (suc (suc (suc (suc (suc (suc (suc (suc (suc (suc (suc (suc (suc (suc (suc zero))))))))))))))))) step h low = ap is_exit (sym (some_inj h))
late_move_false t (suc (suc (suc (suc (suc (suc (suc (suc (suc (suc (suc (suc (suc (suc (suc (suc (suc (suc zero)))))))))))))))))) step h low = ap is_exit (sym (some_inj h))
late_move_false t (suc (suc (suc (suc (suc (suc (suc (suc (suc (suc (suc (suc (suc (suc (suc (suc (suc (suc (suc j))))))))))))))))))) step h low = absurd (cc)

ended_move_false : (t : Thunk) (j : ℕ) → slice_get (moves_with false t) j ≡ None → 18 < j
ended_move_false t zero h = absurd (cc)
ended_move_false t (suc zero) h = absurd (cc)
ended_move_false t (suc (suc zero)) h = absurd (cc)
ended_move_false t (suc (suc (suc zero))) h = absurd (cc)
ended_move_false t (suc (suc (suc (suc zero)))) h = absurd (cc)
ended_move_false t (suc (suc (suc (suc (suc zero))))) h = absurd (cc)
ended_move_false t (suc (suc (suc (suc (suc (suc zero)))))) h = absurd (cc)
ended_move_false t (suc (suc (suc (suc (suc (suc (suc zero))))))) h = absurd (cc)
ended_move_false t (suc (suc (suc (suc (suc (suc (suc (suc zero)))))))) h = absurd (cc)
ended_move_false t (suc (suc (suc (suc (suc (suc (suc (suc (suc zero))))))))) h = absurd (cc)
ended_move_false t (suc (suc (suc (suc (suc (suc (suc (suc (suc (suc zero)))))))))) h = absurd (cc)
ended_move_false t (suc (suc (suc (suc (suc (suc (suc (suc (suc (suc (suc zero))))))))))) h = absurd (cc)
ended_move_false t (suc (suc (suc (suc (suc (suc (suc (suc (suc (suc (suc (suc zero)))))))))))) h = absurd (cc)
ended_move_false t (suc (suc (suc (suc (suc (suc (suc (suc (suc (suc (suc (suc (suc zero))))))))))))) h = absurd (cc)
ended_move_false t (suc (suc (suc (suc (suc (suc (suc (suc (suc (suc (suc (suc (suc (suc zero)))))))))))))) h = absurd (cc)
ended_move_false t (suc (suc (suc (suc (suc (suc (suc (suc (suc (suc (suc (suc (suc (suc (suc zero))))))))))))))) h = absurd (cc)
ended_move_false t (suc (suc (suc (suc (suc (suc (suc (suc (suc (suc (suc (suc (suc (suc (suc (suc zero)))))))))))))))) h = absurd (cc)
ended_move_false t (suc (suc (suc (suc (suc (suc (suc (suc (suc (suc (suc (suc (suc (suc (suc (suc (suc zero))))))))))))))))) h = absurd (cc)
ended_move_false t (suc (suc (suc (suc (suc (suc (suc (suc (suc (suc (suc (suc (suc (suc (suc (suc (suc (suc zero)))))))))))))))))) h = absurd (cc)
ended_move_false t (suc (suc (suc (suc (suc (suc (suc (suc (suc (suc (suc (suc (suc (suc (suc (suc (suc (suc (suc j))))))))))))))))))) h = omega arith

-- each half
look_is : (t : Thunk) → IsHalf t (read_steps t) (look_half t)
look_is t = record {
  registers = λ e. omega arith;
  order = (omega arith, omega arith, omega arith, omega arith, omega arith);
  look = (λ e. refl, λ other. absurd (other refl));
  insert = (λ is. absurd is, λ lt. absurd (omega arith));
  remove = (λ is. absurd is, λ lt. absurd (omega arith));
  changing = λ lt. absurd (omega arith);
  last = λ lt. absurd (omega arith);
  locked = inl (refl, refl);
  reads = (0, refl, omega arith, refl, refl);
  steps = λ lt. absurd (omega arith);
  makes = λ lt. absurd (omega arith);
  retires = λ lt. absurd (omega arith);
  no_exit = λ j step h low. late_read t j step h (omega arith);
  whole = λ j h low. let long = ended_read t j h in (omega arith, omega arith);
}

insert_is : (t : Thunk) → IsHalf t (insert_steps t) (insert_half t)
insert_is t = record {
  registers = λ e. omega arith;
  order = (omega arith, omega arith, omega arith, omega arith, omega arith);
  look = (λ e. absurd (cc), λ other. omega arith);
  insert = (λ is. omega arith, λ lt. tt);
  remove = (λ is. absurd is, λ lt. absurd (omega arith));
  changing = λ lt. omega arith;
  last = λ lt. absurd (omega arith);
  locked = inl (refl, refl);
  reads = (0, refl, omega arith, refl, refl);
  steps = λ lt. (refl, refl, refl, refl, refl, omega arith);
  makes = λ lt. refl;
  retires = λ lt. absurd (omega arith);
  no_exit = λ j step h low. late_insert t j step h (omega arith);
  whole = λ j h low. let long = ended_insert t j h in (omega arith, omega arith);
}

remove_is : (t : Thunk) → IsHalf t (remove_steps t) (remove_half t)
remove_is t = record {
  registers = λ e. omega arith;
  order = (omega arith, omega arith, omega arith, omega arith, omega arith);
  look = (λ e. absurd (cc), λ other. omega arith);
  insert = (λ is. absurd is, λ lt. absurd (omega arith));
  remove = (λ is. omega arith, λ lt. tt);
  changing = λ lt. omega arith;
  last = λ lt. omega arith;
  locked = inl (refl, refl);
  reads = (0, refl, omega arith, refl, refl);
  steps = λ lt. (refl, refl, refl, refl, refl, omega arith);
  makes = λ lt. absurd (omega arith);
  retires = λ lt. refl;
  no_exit = λ j step h low. late_remove t j step h (omega arith);
  whole = λ j h low. let long = ended_remove t j h in (omega arith, omega arith);
}

set_is : (t : Thunk) → IsHalf t (set_steps t) (set_half t)
set_is t = record {
  registers = λ e. omega arith;
  order = (omega arith, omega arith, omega arith, omega arith, omega arith);
  look = (λ e. absurd (cc), λ other. omega arith);
  insert = (λ is. absurd is, λ lt. absurd (omega arith));
  remove = (λ is. absurd is, λ lt. absurd (omega arith));
  changing = λ lt. omega arith;
  last = λ lt. absurd (omega arith);
  locked = inl (refl, refl);
  reads = (0, refl, omega arith, refl, refl);
  steps = λ lt. (refl, refl, refl, refl, refl, omega arith);
  makes = λ lt. absurd (omega arith);
  retires = λ lt. absurd (omega arith);
  no_exit = λ j step h low. late_set t j step h (omega arith);
  whole = λ j h low. let long = ended_set t j h in (omega arith, omega arith);
}

rename_is : (t : Thunk) → IsHalf t (rename_steps t) (rename_half t)
rename_is t = record {
  registers = λ e. omega arith;
  order = (omega arith, omega arith, omega arith, omega arith, omega arith);
  look = (λ e. absurd (cc), λ other. omega arith);
  insert = (λ is. omega arith, λ lt. tt);
  remove = (λ is. omega arith, λ lt. tt);
  changing = λ lt. omega arith;
  last = λ lt. omega arith;
  locked = inl (refl, refl);
  reads = (0, refl, omega arith, refl, refl);
  steps = λ lt. (refl, refl, refl, refl, refl, omega arith);
  makes = λ lt. refl;
  retires = λ lt. refl;
  no_exit = λ j step h low. late_rename t j step h (omega arith);
  whole = λ j h low. let long = ended_rename t j h in (omega arith, omega arith);
}

look_low : (t : Thunk) → IsHalf t (look_two_steps t) (look_two_half true t)
look_low t = record {
  registers = λ e. omega arith;
  order = (omega arith, omega arith, omega arith, omega arith, omega arith);
  look = (λ e. refl, λ other. absurd (other refl));
  insert = (λ is. absurd is, λ lt. absurd (omega arith));
  remove = (λ is. absurd is, λ lt. absurd (omega arith));
  changing = λ lt. absurd (omega arith);
  last = λ lt. absurd (omega arith);
  locked = inl (refl, refl);
  reads = (0, refl, omega arith, refl, refl);
  steps = λ lt. absurd (omega arith);
  makes = λ lt. absurd (omega arith);
  retires = λ lt. absurd (omega arith);
  no_exit = λ j step h low. late_look_two t j step h (omega arith);
  whole = λ j h low. let long = ended_look_two t j h in (omega arith, omega arith);
}

look_high : (t : Thunk) → IsHalf t (look_two_steps t) (look_two_half false t)
look_high t = record {
  registers = λ e. omega arith;
  order = (omega arith, omega arith, omega arith, omega arith, omega arith);
  look = (λ e. refl, λ other. absurd (other refl));
  insert = (λ is. absurd is, λ lt. absurd (omega arith));
  remove = (λ is. absurd is, λ lt. absurd (omega arith));
  changing = λ lt. absurd (omega arith);
  last = λ lt. absurd (omega arith);
  locked = inr (2, refl, refl);
  reads = (3, refl, omega arith, refl, refl);
  steps = λ lt. absurd (omega arith);
  makes = λ lt. absurd (omega arith);
  retires = λ lt. absurd (omega arith);
  no_exit = λ j step h low. late_look_two t j step h (omega arith);
  whole = λ j h low. let long = ended_look_two t j h in (omega arith, omega arith);
}

taking_low : (t : Thunk) → IsHalf t (moves_with true t) (taking_half true t)
taking_low t = record {
  registers = λ e. omega arith;
  order = (omega arith, omega arith, omega arith, omega arith, omega arith);
  look = (λ e. absurd (cc), λ other. omega arith);
  insert = (λ is. absurd is, λ lt. absurd (omega arith));
  remove = (λ is. omega arith, λ lt. tt);
  changing = λ lt. omega arith;
  last = λ lt. omega arith;
  locked = inl (refl, refl);
  reads = (0, refl, omega arith, refl, refl);
  steps = λ lt. (refl, refl, refl, refl, refl, omega arith);
  makes = λ lt. absurd (omega arith);
  retires = λ lt. refl;
  no_exit = λ j step h low. late_move_true t j step h (omega arith);
  whole = λ j h low. let long = ended_move_true t j h in (omega arith, omega arith);
}

putting_high : (t : Thunk) → IsHalf t (moves_with true t) (putting_half true t)
putting_high t = record {
  registers = λ e. omega arith;
  order = (omega arith, omega arith, omega arith, omega arith, omega arith);
  look = (λ e. absurd (cc), λ other. omega arith);
  insert = (λ is. omega arith, λ lt. tt);
  remove = (λ is. absurd is, λ lt. absurd (omega arith));
  changing = λ lt. omega arith;
  last = λ lt. absurd (omega arith);
  locked = inr (3, refl, refl);
  reads = (4, refl, omega arith, refl, refl);
  steps = λ lt. (refl, refl, refl, refl, refl, omega arith);
  makes = λ lt. refl;
  retires = λ lt. absurd (omega arith);
  no_exit = λ j step h low. late_move_true t j step h (omega arith);
  whole = λ j h low. let long = ended_move_true t j h in (omega arith, omega arith);
}

taking_high : (t : Thunk) → IsHalf t (moves_with false t) (taking_half false t)
taking_high t = record {
  registers = λ e. omega arith;
  order = (omega arith, omega arith, omega arith, omega arith, omega arith);
  look = (λ e. absurd (cc), λ other. omega arith);
  insert = (λ is. absurd is, λ lt. absurd (omega arith));
  remove = (λ is. omega arith, λ lt. tt);
  changing = λ lt. omega arith;
  last = λ lt. omega arith;
  locked = inr (3, refl, refl);
  reads = (4, refl, omega arith, refl, refl);
  steps = λ lt. (refl, refl, refl, refl, refl, omega arith);
  makes = λ lt. absurd (omega arith);
  retires = λ lt. refl;
  no_exit = λ j step h low. late_move_false t j step h (omega arith);
  whole = λ j h low. let long = ended_move_false t j h in (omega arith, omega arith);
}

putting_low : (t : Thunk) → IsHalf t (moves_with false t) (putting_half false t)
putting_low t = record {
  registers = λ e. omega arith;
  order = (omega arith, omega arith, omega arith, omega arith, omega arith);
  look = (λ e. absurd (cc), λ other. omega arith);
  insert = (λ is. omega arith, λ lt. tt);
  remove = (λ is. absurd is, λ lt. absurd (omega arith));
  changing = λ lt. omega arith;
  last = λ lt. absurd (omega arith);
  locked = inl (refl, refl);
  reads = (0, refl, omega arith, refl, refl);
  steps = λ lt. (refl, refl, refl, refl, refl, omega arith);
  makes = λ lt. refl;
  retires = λ lt. absurd (omega arith);
  no_exit = λ j step h low. late_move_false t j step h (omega arith);
  whole = λ j h low. let long = ended_move_false t j h in (omega arith, omega arith);
}

-- the only half of a body
single : (t : Thunk) (body : List Step) (a h : Half) → IsHalf t body a → Contains (a ∷ []) h → IsHalf t body h
single t body a h is has = subst (IsHalf t body) (of_one a h has) is

moving : (lower : Bool) (t : Thunk) (h : Half) → Contains (moved_halves lower t) h → IsHalf t (moves_with lower t) h
moving true t h has = ⊎_elim (λ e. subst (IsHalf t (moves_with true t)) e (taking_low t))
    (λ e. subst (IsHalf t (moves_with true t)) e (putting_high t))
    (of_two (taking_half true t) (putting_half true t) h has)
moving false t h has = ⊎_elim (λ e. subst (IsHalf t (moves_with false t)) e (taking_high t))
    (λ e. subst (IsHalf t (moves_with false t)) e (putting_low t))
    (of_two (taking_half false t) (putting_half false t) h has)

pub half_in : (f : Form) (t : Thunk) (h : Half) → Contains (halves_of f t) h → IsHalf t (steps_of f t) h
half_in Reads t h has = single t (read_steps t) (look_half t) h (look_is t) has
half_in Inserts t h has = single t (insert_steps t) (insert_half t) h (insert_is t) has
half_in Removes t h has = single t (remove_steps t) (remove_half t) h (remove_is t) has
half_in Sets t h has = single t (set_steps t) (set_half t) h (set_is t) has
half_in ReadsTwo t h has = ⊎_elim (λ e. subst (IsHalf t (look_two_steps t)) e (look_low t))
    (λ e. subst (IsHalf t (look_two_steps t)) e (look_high t))
    (of_two (look_two_half true t) (look_two_half false t) h has)
half_in Moves t h has = moving (takes_lower t) t h has
half_in Renames t h has = single t (rename_steps t) (rename_half t) h (rename_is t) has
half_in Empty t h has = absurd (of_none h has)

-- the halves of the bodies with two
looks_apart : (t : Thunk) → AreApart (look_two_half true t) (look_two_half false t)
looks_apart t = record {
  registers = (λ e. omega arith, λ e. omega arith, λ e. omega arith, λ e. omega arith);
  loads = omega arith;
  made = λ lt. omega arith;
  stores = λ lt. omega arith;
  retires = λ lt. omega arith;
  one_maker = λ lt lt'. omega arith;
  one_taker = λ lt lt'. omega arith;
  heads = λ lt lt'. absurd (omega arith);
}

looks_apart_too : (t : Thunk) → AreApart (look_two_half false t) (look_two_half true t)
looks_apart_too t = record {
  registers = (λ e. omega arith, λ e. omega arith, λ e. omega arith, λ e. omega arith);
  loads = omega arith;
  made = λ lt. omega arith;
  stores = λ lt. omega arith;
  retires = λ lt. omega arith;
  one_maker = λ lt lt'. omega arith;
  one_taker = λ lt lt'. omega arith;
  heads = λ lt lt'. absurd (omega arith);
}

moves_apart_true : (t : Thunk) → AreApart (taking_half true t) (putting_half true t)
moves_apart_true t = record {
  registers = (λ e. omega arith, λ e. omega arith, λ e. omega arith, λ e. omega arith);
  loads = omega arith;
  made = λ lt. omega arith;
  stores = λ lt. omega arith;
  retires = λ lt. omega arith;
  one_maker = λ lt lt'. omega arith;
  one_taker = λ lt lt'. omega arith;
  heads = λ lt lt'. inr refl;
}

moves_apart_too_true : (t : Thunk) → AreApart (putting_half true t) (taking_half true t)
moves_apart_too_true t = record {
  registers = (λ e. omega arith, λ e. omega arith, λ e. omega arith, λ e. omega arith);
  loads = omega arith;
  made = λ lt. omega arith;
  stores = λ lt. omega arith;
  retires = λ lt. omega arith;
  one_maker = λ lt lt'. omega arith;
  one_taker = λ lt lt'. omega arith;
  heads = λ lt lt'. inl refl;
}

moves_apart_false : (t : Thunk) → AreApart (taking_half false t) (putting_half false t)
moves_apart_false t = record {
  registers = (λ e. omega arith, λ e. omega arith, λ e. omega arith, λ e. omega arith);
  loads = omega arith;
  made = λ lt. omega arith;
  stores = λ lt. omega arith;
  retires = λ lt. omega arith;
  one_maker = λ lt lt'. omega arith;
  one_taker = λ lt lt'. omega arith;
  heads = λ lt lt'. inr refl;
}

moves_apart_too_false : (t : Thunk) → AreApart (putting_half false t) (taking_half false t)
moves_apart_too_false t = record {
  registers = (λ e. omega arith, λ e. omega arith, λ e. omega arith, λ e. omega arith);
  loads = omega arith;
  made = λ lt. omega arith;
  stores = λ lt. omega arith;
  retires = λ lt. omega arith;
  one_maker = λ lt lt'. omega arith;
  one_taker = λ lt lt'. omega arith;
  heads = λ lt lt'. inl refl;
}

-- two halves that stand in a list of two
pairs_of : (a b g h : Half) → AreApart a b → AreApart b a → Contains (a ∷ b ∷ []) g → Contains (a ∷ b ∷ []) h
    → (g ≡ h) ⊎ AreApart g h
pairs_of a b g h apart apart' has has' = ⊎_elim
    (λ first. ⊎_elim (λ first'. inl (sym first ∙ first'))
    (λ second'. inr (subst (λ g. AreApart g h) first (subst (AreApart a) second' apart))) (of_two a b h has'))
    (λ second. ⊎_elim (λ first'. inr (subst (λ g. AreApart g h) second (subst (AreApart b) first' apart')))
    (λ second'. inl (sym second ∙ second')) (of_two a b h has')) (of_two a b g has)

moved_pairs : (lower : Bool) (t : Thunk) (g h : Half) → Contains (moved_halves lower t) g
    → Contains (moved_halves lower t) h → (g ≡ h) ⊎ AreApart g h
moved_pairs true t g h has has' = pairs_of (taking_half true t) (putting_half true t) g h (moves_apart_true t)
    (moves_apart_too_true t) has has'
moved_pairs false t g h has has' = pairs_of (taking_half false t) (putting_half false t) g h (moves_apart_false t)
    (moves_apart_too_false t) has has'

pub pairs_in : (f : Form) (t : Thunk) (g h : Half) → Contains (halves_of f t) g → Contains (halves_of f t) h
    → (g ≡ h) ⊎ AreApart g h
pairs_in Reads t g h has has' = inl (sym (of_one (look_half t) g has) ∙ of_one (look_half t) h has')
pairs_in Inserts t g h has has' = inl (sym (of_one (insert_half t) g has) ∙ of_one (insert_half t) h has')
pairs_in Removes t g h has has' = inl (sym (of_one (remove_half t) g has) ∙ of_one (remove_half t) h has')
pairs_in Sets t g h has has' = inl (sym (of_one (set_half t) g has) ∙ of_one (set_half t) h has')
pairs_in ReadsTwo t g h has has' = pairs_of (look_two_half true t) (look_two_half false t) g h (looks_apart t)
    (looks_apart_too t) has has'
pairs_in Moves t g h has has' = moved_pairs (takes_lower t) t g h has has'
pairs_in Renames t g h has has' = inl (sym (of_one (rename_half t) g has) ∙ of_one (rename_half t) h has')
pairs_in Empty t g h has has' = absurd (of_none g has)

-- each half knows its edition at the Stamp, and has changed nothing; one that makes a node has made it
abbrev StampFact : Form → Half → Type 0
StampFact f h = (h.wanted ≤ stamp_of f) × (stamp_of f ≤ h.change) × (h.made < h.change → h.made < stamp_of f)

stamp_moving : (lower : Bool) (t : Thunk) (h : Half) → Contains (moved_halves lower t) h → StampFact Moves h
stamp_moving true t h has = ⊎_elim
    (λ e. subst (StampFact Moves) e (omega arith, omega arith, λ lt. absurd (omega arith)))
    (λ e. subst (StampFact Moves) e (omega arith, omega arith, λ lt. omega arith))
    (of_two (taking_half true t) (putting_half true t) h has)
stamp_moving false t h has = ⊎_elim
    (λ e. subst (StampFact Moves) e (omega arith, omega arith, λ lt. absurd (omega arith)))
    (λ e. subst (StampFact Moves) e (omega arith, omega arith, λ lt. omega arith))
    (of_two (taking_half false t) (putting_half false t) h has)

pub stamp_in : (f : Form) (t : Thunk) (h : Half) → Contains (halves_of f t) h → StampFact f h
stamp_in Reads t h has = subst (StampFact Reads) (of_one (look_half t) h has)
    (omega arith, omega arith, λ lt. absurd (omega arith))
stamp_in Inserts t h has = subst (StampFact Inserts) (of_one (insert_half t) h has)
    (omega arith, omega arith, λ lt. omega arith)
stamp_in Removes t h has = subst (StampFact Removes) (of_one (remove_half t) h has)
    (omega arith, omega arith, λ lt. absurd (omega arith))
stamp_in Sets t h has = subst (StampFact Sets) (of_one (set_half t) h has)
    (omega arith, omega arith, λ lt. absurd (omega arith))
stamp_in ReadsTwo t h has = ⊎_elim
    (λ e. subst (StampFact ReadsTwo) e (omega arith, omega arith, λ lt. absurd (omega arith)))
    (λ e. subst (StampFact ReadsTwo) e (omega arith, omega arith, λ lt. absurd (omega arith)))
    (of_two (look_two_half true t) (look_two_half false t) h has)
stamp_in Moves t h has = stamp_moving (takes_lower t) t h has
stamp_in Renames t h has = subst (StampFact Renames) (of_one (rename_half t) h has)
    (omega arith, omega arith, λ lt. omega arith)
stamp_in Empty t h has = absurd (of_none h has)

-- one test of the form, and one of its numbers
branch : (t : Thunk) (d s : Bool) (f : Form) (body : List Step) (rest : Form) → body ≡ steps_of rest t
    → cond d (cond s (steps_of f t) []) body ≡ steps_of (cond d (cond s f Empty) rest) t
branch t true true f body rest e = refl
branch t true false f body rest e = refl
branch t false s f body rest e = e

one_steps : (t : Thunk) → table_steps t ≡ steps_of (one_form t) t
one_steps t = branch t (t.form == 4) (fits_set t) Sets _ _ (branch t (t.form == 1) (fits_read t) Reads _ _
    (branch t (t.form == 2) (fits_insert t) Inserts _ _ (branch t (t.form == 3) (fits_remove t) Removes _ Empty refl)))

pub steps_are : (two : Bool) (t : Thunk) → steps two t ≡ steps_of (form_of two t) t
unfolding form_of
steps_are true t = branch t (t.form == 21) (fits_look_two t) ReadsTwo _ _ (branch t (t.form == 22) (fits_move t) Moves
    _ _ (branch t (t.form == 23) (fits_rename t) Renames _ _ (one_steps t)))
steps_are false t = one_steps t

-- the form goes by its number
abbrev IsNamed : Thunk → Form → Type 0
IsNamed t f = (f ≡ Empty) ⊎ (t.form ≡ number_of f)

name_branch : (t : Thunk) (n : ℕ) (s : Bool) (f rest : Form) → number_of f ≡ n → IsNamed t rest
    → IsNamed t (cond (t.form == n) (cond s f Empty) rest)
name_branch t n s f rest same named = by (t.form == n) (equal_of t.form n) s
  where
    by : (d : Bool) → (d ≡ true → t.form ≡ n) → (s : Bool) → IsNamed t (cond d (cond s f Empty) rest)
    by true is true = inr (is refl ∙ sym same)
    by true is false = inl refl
    by false is s = named

one_named : (t : Thunk) → IsNamed t (one_form t)
one_named t = name_branch t 4 (fits_set t) Sets _ refl (name_branch t 1 (fits_read t) Reads _ refl
    (name_branch t 2 (fits_insert t) Inserts _ refl (name_branch t 3 (fits_remove t) Removes Empty refl (inl refl))))

is_named : (two : Bool) (t : Thunk) → IsNamed t (form_of two t)
unfolding form_of
is_named true t = name_branch t 21 (fits_look_two t) ReadsTwo _ refl (name_branch t 22 (fits_move t) Moves _ refl
    (name_branch t 23 (fits_rename t) Renames _ refl (one_named t)))
is_named false t = one_named t

-- the form by its number, and by whether its numbers fit
abbrev by_number : Bool → ℕ → (l m r s a b c : Bool) → Form
by_number two n l m r s a b c =
    cond (two && (n == 21)) (cond l ReadsTwo Empty)
    (cond (two && (n == 22)) (cond m Moves Empty)
    (cond (two && (n == 23)) (cond r Renames Empty)
    (cond (n == 4) (cond s Sets Empty)
    (cond (n == 1) (cond a Reads Empty)
    (cond (n == 2) (cond b Inserts Empty)
    (cond (n == 3) (cond c Removes Empty)
    Empty))))))

abbrev pub fits_for : Form → Thunk → Bool
fits_for Reads t = fits_read t
fits_for Inserts t = fits_insert t
fits_for Removes t = fits_remove t
fits_for Sets t = fits_set t
fits_for ReadsTwo t = fits_look_two t
fits_for Moves t = fits_move t
fits_for Renames t = fits_rename t
fits_for Empty t = false

abbrev pub IsOverTwo : Form → Type 0
IsOverTwo Reads = ⊥
IsOverTwo Inserts = ⊥
IsOverTwo Removes = ⊥
IsOverTwo Sets = ⊥
IsOverTwo ReadsTwo = Unit {0}
IsOverTwo Moves = Unit {0}
IsOverTwo Renames = Unit {0}
IsOverTwo Empty = ⊥

form_numbered : (two : Bool) (t : Thunk) → form_of two t ≡ by_number two t.form (fits_look_two t) (fits_move t) (fits_rename t) (fits_set t) (fits_read t) (fits_insert t) (fits_remove t)
unfolding form_of
form_numbered true t = refl
form_numbered false t = refl

numbered : (two : Bool) (f : Form) (t : Thunk) → (IsOverTwo f → two ≡ true) → fits_for f t ≡ true
    → by_number two (number_of f) (fits_look_two t) (fits_move t) (fits_rename t) (fits_set t) (fits_read t) (fits_insert t) (fits_remove t) ≡ f
numbered true Reads t is fits = ap (λ q. by_number true 1 (fits_look_two t) (fits_move t) (fits_rename t) (fits_set t) q (fits_insert t) (fits_remove t)) fits
numbered false Reads t is fits = ap (λ q. by_number false 1 (fits_look_two t) (fits_move t) (fits_rename t) (fits_set t) q (fits_insert t) (fits_remove t)) fits
numbered true Inserts t is fits = ap (λ q. by_number true 2 (fits_look_two t) (fits_move t) (fits_rename t) (fits_set t) (fits_read t) q (fits_remove t)) fits
numbered false Inserts t is fits = ap (λ q. by_number false 2 (fits_look_two t) (fits_move t) (fits_rename t) (fits_set t) (fits_read t) q (fits_remove t)) fits
numbered true Removes t is fits = ap (λ q. by_number true 3 (fits_look_two t) (fits_move t) (fits_rename t) (fits_set t) (fits_read t) (fits_insert t) q) fits
numbered false Removes t is fits = ap (λ q. by_number false 3 (fits_look_two t) (fits_move t) (fits_rename t) (fits_set t) (fits_read t) (fits_insert t) q) fits
numbered true Sets t is fits = ap (λ q. by_number true 4 (fits_look_two t) (fits_move t) (fits_rename t) q (fits_read t) (fits_insert t) (fits_remove t)) fits
numbered false Sets t is fits = ap (λ q. by_number false 4 (fits_look_two t) (fits_move t) (fits_rename t) q (fits_read t) (fits_insert t) (fits_remove t)) fits
numbered true ReadsTwo t is fits = ap (λ q. by_number true 21 q (fits_move t) (fits_rename t) (fits_set t) (fits_read t) (fits_insert t) (fits_remove t)) fits
numbered false ReadsTwo t is fits = absurd (let no = is tt in cc)
numbered true Moves t is fits = ap (λ q. by_number true 22 (fits_look_two t) q (fits_rename t) (fits_set t) (fits_read t) (fits_insert t) (fits_remove t)) fits
numbered false Moves t is fits = absurd (let no = is tt in cc)
numbered true Renames t is fits = ap (λ q. by_number true 23 (fits_look_two t) (fits_move t) q (fits_set t) (fits_read t) (fits_insert t) (fits_remove t)) fits
numbered false Renames t is fits = absurd (let no = is tt in cc)
numbered two Empty t is fits = absurd (cc)

-- a thunk with the number of a form, whose numbers fit, has this form
pub form_is : (two : Bool) (f : Form) (t : Thunk) → (IsOverTwo f → two ≡ true) → t.form ≡ number_of f
    → fits_for f t ≡ true → form_of two t ≡ f
form_is two f t is number fits = form_numbered two t
    ∙ ap (λ n. by_number two n (fits_look_two t) (fits_move t) (fits_rename t) (fits_set t) (fits_read t) (fits_insert t) (fits_remove t)) number
    ∙ numbered two f t is fits

module _ (two : Bool) (t : Thunk) where
  -- a body that has a half is of the form with its number
  pub number_is : (f : Form) → form_of two t ≡ f → (f ≡ Empty → ⊥) → t.form ≡ number_of f
  number_is f form some = ⊎_elim (λ empty. absurd (some (sym form ∙ empty))) (λ named. named ∙ ap number_of form)
      (is_named two t)

  -- a step of the body is one of a half's
  abbrev pub HasHere : Half → Type 0
  HasHere h = Contains (halves_of (form_of two t) t) h

  abbrev pub IsHere : ℕ → Step → Type 0
  IsHere j step = IsOf (halves_of (form_of two t) t) t (stamp_of (form_of two t)) (answer_of (form_of two t) t) j step

  pub step_of : (j : ℕ) (step : Step) → StepIs (steps two t) j step → IsHere j step
  step_of j step at = step_in (form_of two t) t j step (subst (λ body. StepIs body j step) (steps_are two t) at)

  -- so it isn't empty
  pub some_form : (j : ℕ) (step : Step) → StepIs (steps two t) j step → form_of two t ≡ Empty → ⊥
  some_form j step at none = empty_step j step (subst (λ f. StepIs (steps_of f t) j step) none
      (subst (λ body. StepIs body j step) (steps_are two t) at))

  pub half_is : (h : Half) → HasHere h → IsHalf t (steps two t) h
  half_is h has = subst (λ body. IsHalf t body h) (sym (steps_are two t)) (half_in (form_of two t) t h has)

  pub pair_of : (g h : Half) → HasHere g → HasHere h → (g ≡ h) ⊎ AreApart g h
  pair_of g h has has' = pairs_in (form_of two t) t g h has has'

  -- a place is taken by one register of one half alone
  module _ (h : Half) (has : HasHere h) where
    -- each Load is before its Make
    pub load_early : (j p r : ℕ) → StepIs (steps two t) j (Load p r) → j < h.made
    load_early j p r load =
        let step = step_of j (Load p r) load in
        let g = step.0 in
        let order = (half_is g step.1).order in
        let known = order.0 in
        let loaded = order.1 in
        let before : j ≤ g.load = ⊎_elim (λ edition. let at = edition.0 in omega arith)
        (λ target. let at = target.1 in omega arith) step.2 in
        ⊎_elim (λ same. let here = ap (λ h. h.made) same in omega arith)
        (λ apart. let early = apart.loads in omega arith) (pair_of g h step.1 has)

    -- each Store is behind it
    pub store_late : (j r : ℕ) (v : Value) → StepIs (steps two t) j (Store r v) → h.made ≤ j
    store_late j r v store =
        let step = step_of j (Store r v) store in
        let g = step.0 in
        let order = (half_is g step.1).order in
        let making = order.2 in
        let pending = order.3 in
        let behind : g.change ≤ j = ⊎_elim (λ change. let at = change.0 in omega arith)
        (λ edition. let at = edition.0 in omega arith) step.3 in
        ⊎_elim (λ same. let here = ap (λ h. h.made) same in omega arith)
        (λ apart. let late = apart.stores step.2 in omega arith) (pair_of g h step.1 has)

    -- a Make is before its change, and a Retire behind its edition
    pub make_early : (j r : ℕ) (init : Init) → StepIs (steps two t) j (Make init r) → j < h.change
    make_early j r init make =
        let step = step_of j (Make init r) make in
        let lt = step.2 in
        let at = step.3 in
        ⊎_elim (λ same. let here = ap (λ h. h.change) same in omega arith)
        (λ apart. let early = apart.made lt in omega arith) (pair_of step.0 h step.1 has)

    pub retire_late : (j slot : ℕ) → StepIs (steps two t) j (Retire slot) → h.edition < j
    retire_late j slot retire =
        let step = step_of j (Retire slot) retire in
        let lt = step.2 in
        let at = step.3 in
        let last = (half_is step.0 step.1).last lt in
        ⊎_elim (λ same. let here = ap (λ h. h.edition) same in omega arith)
        (λ apart. let late = apart.retires lt in omega arith) (pair_of step.0 h step.1 has)

    -- the Make of one that makes a node, and the Retire of one that takes one out
    pub make_is : (j r : ℕ) (init : Init) → StepIs (steps two t) j (Make init r) → h.made < h.change
        → (j ≡ h.made) × (r ≡ h.node_reg) × (init ≡ node_init h)
    make_is j r init make lt =
        let step = step_of j (Make init r) make in
        ⊎_elim (λ same. subst (λ h. (j ≡ h.made) × (r ≡ h.node_reg) × (init ≡ node_init h)) same (step.3, step.4, step.5))
        (λ apart. absurd (apart.one_maker step.2 lt)) (pair_of step.0 h step.1 has)

    pub retire_is : (j slot : ℕ) → StepIs (steps two t) j (Retire slot) → h.change < h.retire
        → (j ≡ h.retire) × (slot ≡ h.gone)
    retire_is j slot retire lt =
        let step = step_of j (Retire slot) retire in
        ⊎_elim (λ same. subst (λ h. (j ≡ h.retire) × (slot ≡ h.gone)) same (step.3, step.4))
        (λ apart. absurd (apart.one_taker step.2 lt)) (pair_of step.0 h step.1 has)

    -- what is loaded into a register, and which Store is of it, goes by the register
    abbrev pub LoadOf : ℕ → ℕ → ℕ → Type 0
    LoadOf j p r = (r ≡ h.target_reg → (h.change < h.edition) × (j ≡ h.load) × (p ≡ h.target))
        × (r ≡ h.edition_reg → (suc (suc j) ≡ h.wanted) × (p ≡ h.lock + 1))

    pub load_is : (j p r : ℕ) → StepIs (steps two t) j (Load p r) → LoadOf j p r
    load_is j p r load =
        let step = step_of j (Load p r) load in
        let g = step.0 in
        let own = (half_is g step.1).registers in
        ⊎_elim (λ same. subst (λ h. (r ≡ h.target_reg → (h.change < h.edition) × (j ≡ h.load) × (p ≡ h.target))
        × (r ≡ h.edition_reg → (suc (suc j) ≡ h.wanted) × (p ≡ h.lock + 1))) same (⊎_elim
        (λ edition. (λ e. absurd (own (sym edition.1 ∙ e)), λ e. (edition.0, edition.2)))
        (λ target. (λ e. (target.0, target.1, target.3), λ e. absurd (own (sym e ∙ target.2)))) step.2))
        (λ apart. let regs = apart.registers in ⊎_elim
        (λ edition. (λ e. absurd (regs.1 (sym edition.1 ∙ e)), λ e. absurd (regs.0 (sym edition.1 ∙ e))))
        (λ target. (λ e. absurd (regs.3 (sym target.2 ∙ e)), λ e. absurd (regs.2 (sym target.2 ∙ e)))) step.2)
        (pair_of g h step.1 has)

    abbrev pub StoreOf : ℕ → ℕ → Value → Type 0
    StoreOf j r v = (r ≡ h.target_reg → (h.change < h.edition) × (j ≡ h.change) × (v ≡ stored_for h.kind h))
        × (r ≡ h.edition_reg → (h.change < h.edition) × (j ≡ h.edition) × (v ≡ Const 0))

    pub store_is : (j r : ℕ) (v : Value) → StepIs (steps two t) j (Store r v) → StoreOf j r v
    store_is j r v store =
        let step = step_of j (Store r v) store in
        let g = step.0 in
        let own = (half_is g step.1).registers in
        let lt = step.2 in
        ⊎_elim (λ same. subst
        (λ h. (r ≡ h.target_reg → (h.change < h.edition) × (j ≡ h.change) × (v ≡ stored_for h.kind h))
        × (r ≡ h.edition_reg → (h.change < h.edition) × (j ≡ h.edition) × (v ≡ Const 0))) same (⊎_elim
        (λ change. (λ e. (lt, change.0, change.2), λ e. absurd (own (sym e ∙ change.1))))
        (λ edition. (λ e. absurd (own (sym edition.1 ∙ e)), λ e. (lt, edition.0, edition.2))) step.3))
        (λ apart. let regs = apart.registers in ⊎_elim
        (λ change. (λ e. absurd (regs.3 (sym change.1 ∙ e)), λ e. absurd (regs.2 (sym change.1 ∙ e))))
        (λ edition. (λ e. absurd (regs.1 (sym edition.1 ∙ e)), λ e. absurd (regs.0 (sym edition.1 ∙ e)))) step.3)
        (pair_of g h step.1 has)

    -- at the Stamp
    pub stamp_is : (j : ℕ) → StepIs (steps two t) j Stamp
        → (h.wanted ≤ j) × (j ≤ h.change) × (h.made < h.change → h.made < j)
    stamp_is j stamp =
        let at = step_of j Stamp stamp in
        let fact = stamp_in (form_of two t) t h has in
        let first = fact.0 in
        let second = fact.1 in
        (omega arith, omega arith, λ lt. let third = fact.2 lt in omega arith)
