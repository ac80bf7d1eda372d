-- The cells and the locks of a line, from the shape of its thunk.
use Rattle.std.proofs.Common.{◌≡◌, ◌≢◌, ℕ, suc, ◌+◌, ◌<◌, ◌^◌, List, true, false, refl, sym, ap, ◌∙◌, subst, arith, ⊎_elim}
use Rattle.std.specs.Prelude.{◌⊎◌}
use Rattle.structure_laws.specs.body_terms.specs.Word.{is_free, is_spent}
use Rattle.structure_laws.specs.body_terms.specs.declared.value.Value.{Value}
use Rattle.structure_laws.specs.body_terms.specs.declared.value.Value.TheVariants.{Const, Of, Made}
use Rattle.structure_laws.specs.body_terms.specs.declared.step.Step.{Step}
use Rattle.structure_laws.specs.body_terms.specs.declared.step.Step.TheVariants.{Load, Take}
use Rattle.structure_laws.specs.body_terms.specs.declared.thunk.Thunk.{Thunk}
use Rattle.structure_laws.specs.body_terms.specs.declared.micro.Source.{Source}
use Rattle.structure_laws.specs.body_terms.specs.declared.micro.Source.TheVariants.{Fixed}
use Rattle.structure_laws.specs.body_terms.specs.declared.micro.Micro.{Micro}
use Rattle.structure_laws.specs.body_terms.specs.declared.micro.Micro.TheVariants.{LoadCell, NestedLoad, CheckFree, NestedHold, CheckHeld, ExchangeCell}
use Rattle.structure_laws.specs.body_terms.specs.Line.{Registers, registers_before, source_of, line, begins, micro_at, committed}
use Rattle.structure_laws.specs.body_terms.specs.Shape.{IsStep, store_place}
use Rattle.structure_laws.specs.table_words.specs.declared.layout.Layout.{Layout}
use Rattle.structure_laws.specs.Scene.{Readings}
use Rattle.structure_laws.specs.Meaning.{Meaning}
use Rattle.structure_laws.specs.Sections.{IsSmall}
use Rattle.structure_laws.specs.Shape.{Shaped}
use Rattle.section_lines.proofs.Sources.{part_there, of_load, of_take, of_store}
use Rattle.section_lines.proofs.Phases.{starts_unraised, is_in_phases, is_stamped}
use Rattle.section_lines.proofs.Counted.{is_counted}
use Rattle.section_lines.proofs.Ordered.{is_ordered}
use Rattle.section_lines.proofs.Resolved.{is_resolved}
use Rattle.section_lines.specs.Line.{IsPlaced, IsWholeLine, IsLine}

module _ (m : Meaning) (layout : Layout) (readings : Readings) (thunk : Thunk) (shaped : Shaped m layout readings thunk) where
  abbrev body : List Step
  body = m.body thunk

  abbrev code : ℕ → Micro
  code i = micro_at (line body) i

  load_unlocked : (i p k : ℕ) → code i ≡ LoadCell p k → m.is_lock p ≡ false
  load_unlocked i p k e =
      let s = of_load body i (LoadCell p k) e refl in let f = s.2.from in
      let same : LoadCell p k ≡ LoadCell s.0 (registers_before body f.n).count = s.2.same in
      let unlocked = shaped.load_unlocked f.n s.0 s.1 f.here in let place : s.0 ≡ p = cc in
      ap m.is_lock (sym place) ∙ unlocked

  take_lock : (i p k : ℕ) → code i ≡ NestedLoad p k → m.is_lock p ≡ true
  take_lock i p k e =
      let s = of_take body i (NestedLoad p k) e refl in let f = s.2.from in
      let same : NestedLoad p k ≡ NestedLoad s.0 (registers_before body f.n).count = s.2.same in
      let locked = shaped.take_lock f.n s.0 s.1 f.here in let place : s.0 ≡ p = cc in
      ap m.is_lock (sym place) ∙ locked

  take_inner : (i p k : ℕ) → code i ≡ NestedLoad p k → p ≢ thunk.lock
  take_inner i p k e outer =
      let s = of_take body i (NestedLoad p k) e refl in let f = s.2.from in
      let same : NestedLoad p k ≡ NestedLoad s.0 (registers_before body f.n).count = s.2.same in
      let place : s.0 ≡ p = cc in
      shaped.take_inner f.n s.0 s.1 f.here (place ∙ outer)

  take_free : (i p k w : ℕ) → code i ≡ CheckFree p k w → is_free w ≡ true
  take_free i p k w e =
      let s = of_take body i (CheckFree p k w) e refl in let f = s.2.from in
      let same : CheckFree p k w ≡ CheckFree s.0 (registers_before body f.n).count s.1 = s.2.same in
      let word : s.1 ≡ w = cc in
      ap is_free (sym word) ∙ shaped.take_free f.n s.0 s.1 f.here

  take_unspent : (i p k w : ℕ) → code i ≡ CheckFree p k w → is_spent layout.version_max w ≡ false
  take_unspent i p k w e =
      let s = of_take body i (CheckFree p k w) e refl in let f = s.2.from in
      let same : CheckFree p k w ≡ CheckFree s.0 (registers_before body f.n).count s.1 = s.2.same in
      let word : s.1 ≡ w = cc in
      ap (is_spent layout.version_max) (sym word) ∙ shaped.take_unspent f.n s.0 s.1 f.here

  -- the places of two steps with one number
  one_place : (i j a b at : ℕ) → a ≡ b → i ≡ begins body a + at → j ≡ begins body b + at → i ≡ j
  one_place i j a b at e f g = f ∙ (ap (λ n. begins body n + at) e ∙ sym g)

  load_once : (i j p k k' : ℕ) → code i ≡ LoadCell p k → code j ≡ LoadCell p k' → i ≡ j
  load_once i j p k k' e e' =
      let s = of_load body i (LoadCell p k) e refl in let f = s.2.from in
      let t = of_load body j (LoadCell p k') e' refl in let g = t.2.from in
      let same : LoadCell p k ≡ LoadCell s.0 (registers_before body f.n).count = s.2.same in
      let same' : LoadCell p k' ≡ LoadCell t.0 (registers_before body g.n).count = t.2.same in
      let place : s.0 ≡ t.0 = cc in
      let first : IsStep body f.n (Load t.0 s.1) = subst (λ q. IsStep body f.n (Load q s.1)) place f.here in
      one_place i j f.n g.n 0 (shaped.load_once f.n g.n t.0 s.1 t.1 first g.here) f.place g.place

  take_once : (i j p k k' : ℕ) → code i ≡ NestedLoad p k → code j ≡ NestedLoad p k' → i ≡ j
  take_once i j p k k' e e' =
      let s = of_take body i (NestedLoad p k) e refl in let f = s.2.from in
      let t = of_take body j (NestedLoad p k') e' refl in let g = t.2.from in
      let same : NestedLoad p k ≡ NestedLoad s.0 (registers_before body f.n).count = s.2.same in
      let same' : NestedLoad p k' ≡ NestedLoad t.0 (registers_before body g.n).count = t.2.same in
      let place : s.0 ≡ t.0 = cc in
      let first : IsStep body f.n (Take t.0 s.1) = subst (λ q. IsStep body f.n (Take q s.1)) place f.here in
      one_place i j f.n g.n 0 (shaped.take_once f.n g.n t.0 s.1 t.1 first g.here) f.place g.place

  store_once : (i j p k k' : ℕ) (v v' : Source) → code i ≡ ExchangeCell p k v → code j ≡ ExchangeCell p k' v' → i ≡ j
  store_once i j p k k' v v' e e' =
      let s = of_store body i (ExchangeCell p k v) e refl in let f = s.2.from in
      let t = of_store body j (ExchangeCell p k' v') e' refl in let g = t.2.from in
      let same : ExchangeCell p k v ≡ ExchangeCell (store_place body f.n s.0) ((registers_before body f.n).log s.0) (source_of (registers_before body f.n) s.1) = s.2.same in
      let same' : ExchangeCell p k' v' ≡ ExchangeCell (store_place body g.n t.0) ((registers_before body g.n).log t.0) (source_of (registers_before body g.n) t.1) = t.2.same in
      let place : store_place body f.n s.0 ≡ store_place body g.n t.0 = cc in
      ⊎_elim (λ lt. absurd (shaped.shape.stored_once f.n g.n s.0 t.0 s.1 t.1 lt f.here g.here place))
      (⊎_elim (λ e. one_place i j f.n g.n 0 e f.place g.place)
      (λ gt. absurd (shaped.shape.stored_once g.n f.n t.0 s.0 t.1 s.1 gt g.here f.here (sym place)))) (order f.n g.n)
    where
      order : (a b : ℕ) → (a < b) ⊎ (a ≡ b) ⊎ (b < a)
      order a b = search arith

  is_placed : IsPlaced m.is_lock layout.version_max thunk.lock code
  is_placed = record {
    outer_lock = shaped.outer_lock;
    load_unlocked = load_unlocked;
    take_lock = take_lock;
    take_inner = take_inner;
    take_free = take_free;
    take_unspent = take_unspent;
    load_once = load_once;
    take_once = take_once;
    store_once = store_once;
  }

  -- the line of a thunk that has the shape
  pub is_line : IsLine m.is_lock layout.version_max thunk.lock code (committed (line body))
  is_line = record {
    in_phases = is_in_phases body shaped.shape;
    counted = is_counted body shaped.shape.short;
    ordered = is_ordered body;
    resolved = is_resolved body shaped.shape;
    placed = is_placed;
    stamped = is_stamped body shaped.shape shaped.answers;
  }

  store_value : (i place log number : ℕ) → code i ≡ ExchangeCell place log (Fixed number) → number < 2 ^ 32
  store_value i place log number e =
      let s = of_store body i (ExchangeCell place log (Fixed number)) e refl in let f = s.2.from in let g = registers_before body f.n in
      let same : ExchangeCell place log (Fixed number) ≡ ExchangeCell (g.place s.0) (g.log s.0) (source_of g s.1) = s.2.same in
      let source : source_of g s.1 ≡ Fixed number = cc in
      small g s.1 number source (shaped.store_small f.n s.0 s.1 f.here)
    where
      small : (g : Registers) (value : Value) (number : ℕ) → source_of g value ≡ Fixed number → IsSmall value → number < 2 ^ 32
      small g (Const n) number e low = let same : n ≡ number = cc in omega arith
      small g (Of reg) number e low = cc
      small g (Made reg) number e low = cc

  outcome_check : (i place word : ℕ) → code i ≡ NestedHold place word → (log : ℕ) × (code (suc (suc (suc i))) ≡ CheckHeld place log word)
  outcome_check i place word e =
      let s = of_take body i (NestedHold place word) e refl in let f = s.2.from in let g = registers_before body f.n in
      let same : NestedHold place word ≡ NestedHold s.0 s.1 = s.2.same in
      let check : code (suc (suc (suc i))) ≡ CheckHeld s.0 (g.count + 1) s.1 = part_there body f (suc (suc (suc i))) 6 (let place = f.place in omega arith) (omega arith) in
      (g.count + 1, cc)

  pub is_whole : IsWholeLine code
  is_whole = record { store_value = store_value; outcome_check = outcome_check; start_raise = starts_unraised body }
