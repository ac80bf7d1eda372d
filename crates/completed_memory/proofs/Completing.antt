-- The completed scene of a lawful one is lawful, and nothing is pending in it.
use Rattle.std.proofs.Common.{◌≡◌, ◌≢◌, ℕ, zero, suc, ◌<◌, ◌≤◌, Bool, true, false, length, refl, sym, ap, ◌∙◌, subst, inl, inr, ⊎_elim, arith}
use Rattle.std.specs.Prelude.{◌⊎◌, Option, Some, None}
use mathlib.Core.Path.{fun_ext}
use mathlib.Core.Logic.{dite}
use native.Mathlib.Decide.{ℕ_discrete}
use Rattle.structure_laws.specs.body_terms.specs.Update.{upd}
use Rattle.structure_laws.specs.table_words.specs.declared.layout.Layout.{Layout}
use Rattle.structure_laws.specs.Scene.{Cells, Section, Scene}
use Rattle.structure_laws.specs.Meaning.{Meaning}
use Rattle.structure_laws.specs.Sections.{Here, Unstamped, AllStored, Complete}
use Rattle.structure_laws.specs.Gives.{Gives}
use Rattle.structure_laws.specs.Lawful.{IsLawful, Moves}
use Rattle.structure_laws.proofs.Changes.{upd_same, upd_other}
use Rattle.completed_memory.specs.Pending.{Marks, AreMarked, StillStores, IsPending, IsCompleted, AreBelow}
use Rattle.completed_memory.proofs.Stores.{apart_stores}
use Rattle.completed_memory.proofs.Finishing.{at_place, Finished, finish}

pub true_false : true ≡ false → ⊥
true_false e = cc

pub some_none : {A : Type 0} {a : A} → Some a ≡ None → ⊥
some_none e = cc

pub some_inj : {A : Type 0} {a b : A} → Some a ≡ Some b → a ≡ b
some_inj e = cc

bool_cases : (b : Bool) → (b ≡ true) ⊎ (b ≡ false)
bool_cases true = inl refl
bool_cases false = inr refl

option_cases : {A : Type 0} (o : Option A) → ((a : A) × (o ≡ Some a)) ⊎ (o ≡ None)
option_cases None = inr refl
option_cases (Some a) = inl (a, refl)

module _ (m : Meaning) (layout : Layout) (moves : Moves m layout) (s : Scene) (stamped : Marks) (lawful : IsLawful m layout s) (gives : Gives m layout s) (marked : AreMarked m s stamped) where
  -- a stamped section of a descriptor below the count has still to store this word there
  record IsBelow (count p w : ℕ) : Type 0 where
    pending : IsPending m s stamped p w
    low : pending.descriptor < count

  -- the scene with these cells and sections
  abbrev with_sections : Cells → (ℕ → Option Section) → Scene
  with_sections cells section = record s { cells = cells; section = section }

  -- the stamped sections below the count have made their remaining Stores
  record Below (count : ℕ) : Type 0 where
    cells : Cells
    section : ℕ → Option Section
    lawful' : IsLawful m layout (with_sections cells section)
    other : (d : ℕ) → (count ≤ d) ⊎ ((stamped d ≡ false) ⊎ (s.section d ≡ None)) → section d ≡ s.section d
    done : (d : ℕ) (x : Section) → d < count → stamped d ≡ true → Here s d x → (at : ℕ) × (section d ≡ Some (at_place x at)) × AllStored m (at_place x at)
    made : (p w : ℕ) → IsBelow count p w → cells p ≡ w
    kept : (p : ℕ) → ((w : ℕ) → IsBelow count p w → ⊥) → cells p ≡ s.cells p
    decided : (p : ℕ) → ((w : ℕ) × IsBelow count p w) ⊎ ((w : ℕ) → IsBelow count p w → ⊥)

  below_none : Below 0
  below_none = record {
    cells = s.cells;
    section = s.section;
    lawful' = lawful;
    other = λ d why. refl;
    done = λ d x lt mark here. absurd (omega arith);
    made = λ p w b. absurd (let lt = b.low in omega arith);
    kept = λ p none. refl;
    decided = λ p. inr (λ w b. let lt = b.low in omega arith);
  }

  further : (count p w : ℕ) → IsBelow count p w → IsBelow (suc count) p w
  further count p w b = record { pending = b.pending; low = let lt = b.low in omega arith }

  -- a descriptor without a stamped section
  skip : (count : ℕ) → (stamped count ≡ false) ⊎ (s.section count ≡ None) → Below count → Below (suc count)
  skip count without b = record {
    cells = b.cells;
    section = b.section;
    lawful' = b.lawful';
    other = λ d why. b.other d (⊎_elim (λ le. inl (omega arith)) inr why);
    done = λ d x lt mark here. b.done d x (below d lt (λ e. no_section d x e mark here)) mark here;
    made = λ p w a. b.made p w (back p w a);
    kept = λ p none. b.kept p (λ w a. none w (further count p w a));
    decided = λ p. ⊎_elim (λ some. inl (some.0, further count p some.0 some.1)) (λ none. inr (λ w a. none w (back p w a))) (b.decided p);
  }
    where
      no_section : (d : ℕ) (x : Section) → d ≡ count → stamped d ≡ true → Here s d x → ⊥
      no_section d x e mark here = ⊎_elim (λ no. true_false (sym mark ∙ ap stamped e ∙ no)) (λ no. some_none (sym here ∙ ap s.section e ∙ no)) without

      below : (d : ℕ) → d < suc count → (d ≡ count → ⊥) → d < count
      below d lt ne = omega arith

      back : (p w : ℕ) → IsBelow (suc count) p w → IsBelow count p w
      back p w a = let x = a.pending in record { pending = x; low = below x.descriptor a.low (λ e. no_section x.descriptor x.section e x.marked x.here) }

  -- a descriptor with one
  finish_next : (count : ℕ) (x : Section) → Here s count x → stamped count ≡ true → (b : Below count)
      → Finished m layout moves (with_sections b.cells b.section) count x → Below (suc count)
  finish_next count x here mark b f = record {
    cells = f.cells;
    section = upd b.section count (Some (at_place x f.at));
    lawful' = f.lawful;
    other = λ d why. upd_other b.section count d (Some (at_place x f.at)) (not_this d why) ∙ b.other d (⊎_elim (λ le. inl (omega arith)) inr why);
    done = λ d y lt mark' there. dite (ℕ_discrete d count)
        (λ e. let same = some_inj (sym (subst (λ d. Here s d y) e there) ∙ here) in
        (f.at, upd_same b.section count d (Some (at_place x f.at)) e ∙ ap (λ y. Some (at_place y f.at)) (sym same), subst (λ y. AllStored m (at_place y f.at)) (sym same) f.stored))
        (λ ne. let before = b.done d y (below d lt ne) mark' there in (before.0, upd_other b.section count d (Some (at_place x f.at)) ne ∙ before.1, before.2));
    made = λ p w a. ⊎_elim (f.made p w) (λ before. f.kept p (λ v here'. apart p v w here' before) ∙ b.made p w before) (split p w a);
    kept = λ p none. f.kept p (λ w a. none w (this p w a)) ∙ b.kept p (λ w a. none w (further count p w a));
    decided = λ p. ⊎_elim (λ some. inl (some.0, this p some.0 some.1))
        (λ none. ⊎_elim (λ some. inl (some.0, further count p some.0 some.1)) (λ none'. inr (λ w a. ⊎_elim (none w) (none' w) (split p w a))) (b.decided p)) (f.decided p);
  }
    where
      below : (d : ℕ) → d < suc count → (d ≡ count → ⊥) → d < count
      below d lt ne = omega arith

      not_this : (d : ℕ) → (suc count ≤ d) ⊎ ((stamped d ≡ false) ⊎ (s.section d ≡ None)) → d ≢ count
      not_this d why e = ⊎_elim (λ le. omega arith)
          (⊎_elim (λ no. true_false (sym mark ∙ ap stamped (sym e) ∙ no)) (λ no. some_none (sym here ∙ ap s.section (sym e) ∙ no))) why

      this : (p w : ℕ) → StillStores m x p w → IsBelow (suc count) p w
      this p w a = record { pending = record { descriptor = count; section = x; here = here; marked = mark; store = a }; low = omega arith }

      -- one that is pending is this section's, or that of an earlier one
      split : (p w : ℕ) → IsBelow (suc count) p w → StillStores m x p w ⊎ IsBelow count p w
      split p w a = let y = a.pending in dite (ℕ_discrete y.descriptor count)
          (λ e. inl (subst (λ x. StillStores m x p w) (some_inj (sym (subst (λ d. Here s d y.section) e y.here) ∙ here)) y.store))
          (λ ne. inr (record { pending = y; low = below y.descriptor a.low ne }))

      apart : (p v w : ℕ) → StillStores m x p v → IsBelow count p w → ⊥
      apart p v w a before = let y = before.pending in
          apart_stores m layout s count y.descriptor x y.section lawful gives here y.here (λ e. let lt = before.low in omega arith) (marked.come count x here mark)
          (marked.come y.descriptor y.section y.here y.marked) p v w a y.store

  all_below : (count : ℕ) → Below count
  all_below zero = below_none
  all_below (suc count) = let before = all_below count in ⊎_elim
      (λ mark. ⊎_elim
      (λ some.
      let x = some.0 in
      let same = before.other count (inl (omega arith)) ∙ some.1 in
      finish_next count x some.1 mark before
      (finish m layout moves (length (m.body x.thunk)) (with_sections before.cells before.section) count x before.lawful' same (omega arith) (marked.come count x some.1 mark)))
      (λ none. skip count (inr none) before)
      (option_cases (s.section count)))
      (λ unmarked. skip count (inl unmarked) before)
      (bool_cases (stamped count))

  -- the completed scene
  pub record Completion : Type 0 where
    pub cells : Cells
    pub section : ℕ → Option Section
    pub lawful' : IsLawful m layout (with_sections cells section)
    pub complete : Complete m (with_sections cells section)
    pub unstamped : (d : ℕ) → stamped d ≡ false → section d ≡ s.section d
    pub completed : IsCompleted m s stamped cells
    pub decided : (p : ℕ) → ((w : ℕ) × IsPending m s stamped p w) ⊎ ((w : ℕ) → IsPending m s stamped p w → ⊥)

  pub completion : (count : ℕ) → AreBelow m count s → Completion
  completion count below = record {
    cells = all.cells;
    section = all.section;
    lawful' = all.lawful';
    complete = complete;
    unstamped = λ d no. all.other d (inr (inl no));
    completed = record {
      made = λ p w a. all.made p w (record { pending = a; low = low a.descriptor a.section a.here });
      kept = λ p none. all.kept p (λ w b. none w b.pending);
    };
    decided = λ p. ⊎_elim (λ some. inl (some.0, some.1.pending)) (λ none. inr (λ w a. none w (record { pending = a; low = low a.descriptor a.section a.here }))) (all.decided p);
  }
    where
      all : Below count
      all = all_below count

      low : (d : ℕ) (x : Section) → Here s d x → d < count
      low d x here = ⊎_elim (λ lt. lt) (λ le. absurd (some_none (sym here ∙ below d le))) (either d count)
        where
          either : (i j : ℕ) → (i < j) ⊎ (j ≤ i)
          either i j = search arith

      complete : (d : ℕ) (x : Section) → all.section d ≡ Some x → Unstamped m x ⊎ AllStored m x
      complete d x here = ⊎_elim
          (λ mark. ⊎_elim
          (λ some. let done = all.done d some.0 (low d some.0 some.1) mark some.1 in inr (subst (AllStored m) (some_inj (sym done.1 ∙ here)) done.2))
          (λ none. absurd (some_none (sym here ∙ all.other d (inr (inr none)) ∙ none)))
          (option_cases (s.section d)))
          (λ unmarked. inl (marked.before d x (sym (all.other d (inr (inl unmarked))) ∙ here) unmarked))
          (bool_cases (stamped d))

  -- any completed memory is that of the completed scene
  pub same_cells : (done : Completion) (cells : Cells) → IsCompleted m s stamped cells → cells ≡ done.cells
  same_cells done cells completed = fun_ext (λ p. ⊎_elim
      (λ some. completed.made p some.0 some.1 ∙ sym (done.completed.made p some.0 some.1))
      (λ none. completed.kept p none ∙ sym (done.completed.kept p none)) (done.decided p))
