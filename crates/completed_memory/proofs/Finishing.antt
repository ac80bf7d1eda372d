-- A stamped section makes its remaining Stores, in a scene of its own.
use Rattle.std.proofs.Common.{◌≡◌, ◌≢◌, ℕ, zero, suc, ◌+◌, ◌≤◌, length, refl, sym, ap, ◌∙◌, subst, inl, inr, ⊎_elim, arith}
use Rattle.std.specs.Prelude.{◌⊎◌, Some, [], ◌∷◌}
use Rattle.std.proofs.lemmas.Option.{slice_get_within, slice_get_cases}
use mathlib.Core.Path.{fun_ext}
use mathlib.Core.Logic.{dite}
use native.Mathlib.Decide.{ℕ_discrete}
use Rattle.structure_laws.specs.body_terms.specs.Update.{upd}
use Rattle.structure_laws.specs.body_terms.specs.Word.{next_word}
use Rattle.structure_laws.specs.body_terms.specs.declared.value.Value.{Value}
use Rattle.structure_laws.specs.body_terms.specs.declared.step.Step.{Step}
use Rattle.structure_laws.specs.body_terms.specs.declared.step.Step.TheVariants.{Load, Want, Fresh, Take, Make, Stamp, Store, Retire, Answer}
use Rattle.structure_laws.specs.body_terms.specs.Shape.{phase}
use Rattle.structure_laws.specs.table_words.specs.declared.layout.Layout.{Layout}
use Rattle.structure_laws.specs.Scene.{Cells, Section, Scene, with_cell, passed, passes}
use Rattle.structure_laws.specs.Meaning.{Meaning}
use Rattle.structure_laws.specs.Sections.{value_in, Here, IsStep, AllStored}
use Rattle.structure_laws.specs.Shape.{Shaped}
use Rattle.structure_laws.specs.Lawful.{IsLawful, Moves}
use Rattle.structure_laws.proofs.Changes.{upd_same, upd_other}
use Rattle.structure_laws.proofs.Bodies.{loaded_before}
use Rattle.completed_memory.specs.Pending.{HasCome, StillStores}
use Rattle.completed_memory.proofs.Stores.{no_later_store, no_early_step, one_word, passed_some, passed_none, next_store, no_store_left, other_stores}

-- the same change made twice
pub upd_twice : {A : Type 0} (f : ℕ → A) (k : ℕ) (v w : A) → upd (upd f k v) k w ≡ upd f k w
upd_twice f k v w = fun_ext (λ i. grind arith)

-- no change
upd_none : {A : Type 0} (f : ℕ → A) (k : ℕ) (v : A) → f k ≡ v → upd f k v ≡ f
upd_none f k v e = fun_ext (λ i. grind arith)

-- the section, that many steps of its body passed
abbrev pub at_place : Section → ℕ → Section
at_place x at = record x { at = at }

-- the scene with these cells, in which the section stands at this place
abbrev pub finished_scene : Scene → ℕ → Section → Cells → ℕ → Scene
finished_scene s d x cells at = record s { cells = cells; section = upd s.section d (Some (at_place x at)) }

module _ (m : Meaning) (layout : Layout) (moves : Moves m layout) where
  -- the section has made its remaining Stores, and nothing else has changed
  pub record Finished (s : Scene) (d : ℕ) (x : Section) : Type 0 where
    pub cells : Cells
    pub at : ℕ
    pub onward : x.at ≤ at
    pub lawful : IsLawful m layout (finished_scene s d x cells at)
    pub stored : AllStored m (at_place x at)
    pub made : (p w : ℕ) → StillStores m x p w → cells p ≡ w
    pub kept : (p : ℕ) → ((w : ℕ) → StillStores m x p w → ⊥) → cells p ≡ s.cells p
    pub decided : (p : ℕ) → ((w : ℕ) × StillStores m x p w) ⊎ ((w : ℕ) → StillStores m x p w → ⊥)

  -- a section without remaining Stores
  finish_none : (s : Scene) (d : ℕ) (x : Section) → IsLawful m layout s → Here s d x → AllStored m x → Finished s d x
  finish_none s d x lawful here stored = record {
    cells = s.cells;
    at = x.at;
    onward = omega arith;
    lawful = subst (λ section. IsLawful m layout (record s { section = section })) (sym (upd_none s.section d (Some x) here)) lawful;
    stored = stored;
    made = λ p w a. absurd (none w p a);
    kept = λ p no. refl;
    decided = λ p. inr (λ w a. none w p a);
  }
    where
      none : (w p : ℕ) → StillStores m x p w → ⊥
      none w p a = let lt = stored a.at a.reg a.value a.stores in let le = a.later in absurd (omega arith)

  -- behind a step that is no Store
  finish_passed : (s : Scene) (d : ℕ) (x : Section) (b : Step) → IsStep m x x.at b → ((r : ℕ) (v : Value) → b ≢ Store r v) → Finished (passes s d x) d (passed x) → Finished s d x
  finish_passed s d x b here no_store f = record {
    cells = f.cells;
    at = f.at;
    onward = let le = f.onward in omega arith;
    lawful = subst (λ section. IsLawful m layout (record s { cells = f.cells; section = section })) (upd_twice s.section d (Some (passed x)) (Some (at_place x f.at))) f.lawful;
    stored = f.stored;
    made = λ p w a. f.made p w (passed_some m layout x b p w here no_store a);
    kept = λ p none. f.kept p (λ w a. none w (passed_none m layout x p w a));
    decided = λ p. ⊎_elim (λ some. inl (some.0, passed_none m layout x p some.0 some.1)) (λ none. inr (λ w a. none w (passed_some m layout x b p w here no_store a))) (f.decided p);
  }

  -- behind a Store
  finish_store : (s : Scene) (d j p r : ℕ) (x : Section) (v : Value) → IsLawful m layout s → Here s d x → IsStep m x x.at (Store r v) → IsStep m x j (Load p r)
      → Finished (with_cell (passes s d x) p (next_word (x.reg r) (value_in x.reg v))) d (passed x) → Finished s d x
  finish_store s d j p r x v lawful here store load f = record {
    cells = f.cells;
    at = f.at;
    onward = let le = f.onward in omega arith;
    lawful = subst (λ section. IsLawful m layout (record s { cells = f.cells; section = section })) (upd_twice s.section d (Some (passed x)) (Some (at_place x f.at))) f.lawful;
    stored = f.stored;
    made = λ q w a. ⊎_elim (λ e. first q w e a) (λ later. f.made q w later) (other_stores m layout x j p r q w v shaped store load a);
    kept = λ q none. f.kept q (λ w a. none w (passed_none m layout x q w a)) ∙ upd_other s.cells p q word (λ e. none word (subst (λ q. StillStores m x q word) (sym e) now));
    decided = λ q. dite (ℕ_discrete q p) (λ e. inl (word, subst (λ q. StillStores m x q word) (sym e) now))
        (λ ne. ⊎_elim (λ some. inl (some.0, passed_none m layout x q some.0 some.1))
        (λ none. inr (λ w a. ⊎_elim ne (none w) (other_stores m layout x j p r q w v shaped store load a))) (f.decided q));
  }
    where
      shaped : Shaped m layout x.readings x.thunk
      shaped = lawful.shaped d x here

      word : ℕ
      word = next_word (x.reg r) (value_in x.reg v)

      now : StillStores m x p word
      now = next_store m layout x j p r v store load

      first : (q w : ℕ) → q ≡ p → StillStores m x q w → f.cells q ≡ w
      first q w e a = ap f.cells e ∙ f.kept p (λ w' a'. no_store_left m layout x j p r w' v shaped store load a') ∙ upd_same s.cells p p word refl
          ∙ sym (one_word m layout x q w word shaped a (subst (λ q. StillStores m x q word) (sym e) now))

  -- a section that stands before this step, where the scene behind it can be finished
  finish_step : (s : Scene) (d : ℕ) (x : Section) → IsLawful m layout s → Here s d x → HasCome m x
      → ((s' : Scene) → IsLawful m layout s' → Here s' d (passed x) → Finished s' d (passed x)) → (b : Step) → IsStep m x x.at b → Finished s d x
  finish_step s d x lawful here come rest = by_step
    where
      shaped : Shaped m layout x.readings x.thunk
      shaped = lawful.shaped d x here

      next_here : upd s.section d (Some (passed x)) d ≡ Some (passed x)
      next_here = upd_same s.section d d (Some (passed x)) refl

      early : (b : Step) → IsStep m x x.at b → phase b ≤ 2 → Finished s d x
      early b step low = absurd (no_early_step m layout x b shaped come step low)

      over : (b : Step) → IsStep m x x.at b → 5 ≤ phase b → Finished s d x
      over b step late = finish_none s d x lawful here (no_later_store m layout x b shaped step late)

      by_store : (r : ℕ) (v : Value) → IsStep m x x.at (Store r v) → Finished s d x
      by_store r v store =
          let by = loaded_before (m.body x.thunk) shaped.shape x.at r (Store r v) (v ∷ []) store refl in
          let read = lawful.sound.loaded d x here by.by by.place r by.earlier by.loads
          (λ i w store'. let same = shaped.store_once i x.at r w v store' store in omega arith) in
          finish_store s d by.by by.place r x v lawful here store by.loads
          (rest (with_cell (passes s d x) by.place (next_word (x.reg r) (value_in x.reg v)))
          (moves.store s d by.by by.place r x v here store by.earlier by.loads read lawful) next_here)

      by_step : (b : Step) → IsStep m x x.at b → Finished s d x
      by_step (Load place into) step = early (Load place into) step (omega arith)
      by_step (Want reg word) step = early (Want reg word) step (omega arith)
      by_step (Fresh reg) step = early (Fresh reg) step (omega arith)
      by_step (Take place word) step = early (Take place word) step (omega arith)
      by_step (Make init into) step = early (Make init into) step (omega arith)
      by_step Stamp step = finish_passed s d x Stamp step (λ r v e. cc) (rest (passes s d x) (moves.stamp s d x here step lawful) next_here)
      by_step (Store reg value) step = by_store reg value step
      by_step (Retire slot) step = over (Retire slot) step (omega arith)
      by_step (Answer reply) step = over (Answer reply) step (omega arith)

  -- a section that has come to its Stamp makes what is left of its Stores
  pub finish : (k : ℕ) (s : Scene) (d : ℕ) (x : Section) → IsLawful m layout s → Here s d x → length (m.body x.thunk) ≤ k + x.at → HasCome m x → Finished s d x
  finish zero s d x lawful here short come = finish_none s d x lawful here (λ j r v store. let within = slice_get_within (m.body x.thunk) j (Store r v) store in omega arith)
  finish (suc k) s d x lawful here short come = ⊎_elim
      (λ some. finish_step s d x lawful here come
      (λ s' lawful' here'. finish k s' d (passed x) lawful' here' (omega arith) (come.0, (let le = come.1 in omega arith), come.2)) some.0 some.2)
      (λ none. finish_none s d x lawful here (λ j r v store. let within = slice_get_within (m.body x.thunk) j (Store r v) store in let past = none.0 in omega arith))
      ((slice_get_cases (m.body x.thunk) x.at).1)
