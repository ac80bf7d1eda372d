-- The registers of a line: what its checks and stores go by was loaded, tested or made before.
use Rattle.std.proofs.Common.{◌≡◌, ℕ, suc, ◌+◌, ◌*◌, ◌<◌, ◌≤◌, List, [], ◌∷◌, length, refl, sym, ap, ◌∙◌, subst, arith, ⊎_elim}
use Rattle.std.specs.Prelude.{slice_index_or, All, count_by, take, ◌⊎◌}
use Rattle.std.proofs.lemmas.List.{get_or_past}
use Rattle.structure_laws.specs.body_terms.specs.declared.value.Value.{Value}
use Rattle.structure_laws.specs.body_terms.specs.declared.value.Value.TheVariants.{Const, Of, Made}
use Rattle.structure_laws.specs.body_terms.specs.declared.step.Step.{Step}
use Rattle.structure_laws.specs.body_terms.specs.declared.step.Step.TheVariants.{Load, Want, Fresh, Make, Store}
use Rattle.structure_laws.specs.body_terms.specs.declared.micro.Source.{Source}
use Rattle.structure_laws.specs.body_terms.specs.declared.micro.Source.TheVariants.{Agreed}
use Rattle.structure_laws.specs.body_terms.specs.declared.micro.Micro.{Micro}
use Rattle.structure_laws.specs.body_terms.specs.declared.micro.Micro.TheVariants.{Commit, CheckWord, CheckFresh, PrivateStore, ExchangeCell}
use Rattle.structure_laws.specs.body_terms.specs.Line.{Registers, registers_before, source_of, line, begins, micro_at, micros, is_commit, committed}
use Rattle.structure_laws.specs.body_terms.specs.Shape.{IsStep, IsShaped, SetBefore, LoadedBefore, FreshBefore}
use Rattle.structure_laws.specs.body_terms.proofs.LineLemmas.{begins_next}
use Rattle.structure_laws.specs.body_terms.proofs.RegisterLemmas.{loaded_register, logged}
use Rattle.structure_laws.proofs.Bodies.{loaded_before}
use Rattle.section_lines.proofs.Places.{stands_there, begins_rises, step_inside}
use Rattle.section_lines.proofs.Counts.{counted_within}
use Rattle.section_lines.proofs.Sources.{of_want, of_fresh, of_make, of_store}
use Rattle.section_lines.proofs.Ordered.{fills, fill_of}
use Rattle.section_lines.specs.Line as lines
use Rattle.section_lines.specs.Line.{IsResolved, IsSourceBefore}

module _ (body : List Step) (shaped : IsShaped body) where
  abbrev code : ℕ → Micro
  code i = micro_at (line body) i

  abbrev slot : ℕ → ℕ
  slot i = committed (line body) i

  abbrev at_step : ℕ → Registers
  at_step n = registers_before body n

  within : (n : ℕ) (step : Step) → IsStep body n step → n ≤ length body
  within n step here = let inside = step_inside body n step here in omega arith

  -- the load of a register that was loaded before step n stands before each place of that step
  loaded : (n reg i : ℕ) (at : ℕ) → n ≤ length body → i ≡ begins body n + at → LoadedBefore body n reg → lines.LoadedBefore code i ((at_step n).place reg) ((at_step n).log reg)
  loaded n reg i at low place by =
      let is = loaded_register body shaped by.by by.place reg n by.loads by.earlier low in
      let there : code (begins body by.by + 1) ≡ Commit by.place (at_step by.by).count = stands_there body by.by 1 (Load by.place reg) by.loads (omega arith) in
      let next = begins_next body by.by (Load by.place reg) by.loads in
      let rises = begins_rises body (suc by.by) n by.earlier low in
      (begins body by.by + 1, (omega arith), (let a = is.0 in let b = is.1 in cc))

  word_loaded : (i p k w : ℕ) → code i ≡ CheckWord p k w → lines.LoadedBefore code i p k
  word_loaded i p k w e =
      let s = of_want body i (CheckWord p k w) e refl in let f = s.2.from in let g = at_step f.n in
      let same : CheckWord p k w ≡ CheckWord (g.place s.0) (g.log s.0) s.1 = s.2.same in
      let by = loaded_before body shaped f.n s.0 (Want s.0 s.1) [] f.here refl in
      let there = loaded f.n s.0 i 0 (within f.n (Want s.0 s.1) f.here) f.place by in
      moved i p k (g.place s.0) (g.log s.0) (cc) (cc) there
    where
      moved : (i p k p' k' : ℕ) → p' ≡ p → k' ≡ k → lines.LoadedBefore code i p' k' → lines.LoadedBefore code i p k
      moved i p k p' k' a b there = (there.0, there.1, (let c = there.2 in cc))

  fresh_loaded : (i p k : ℕ) → code i ≡ CheckFresh p k → lines.LoadedBefore code i p k
  fresh_loaded i p k e =
      let s = of_fresh body i (CheckFresh p k) e refl in let f = s.1.from in let g = at_step f.n in
      let same : CheckFresh p k ≡ CheckFresh (g.place s.0) (g.log s.0) = s.1.same in
      let by = loaded_before body shaped f.n s.0 (Fresh s.0) [] f.here refl in
      let there = loaded f.n s.0 i 0 (within f.n (Fresh s.0) f.here) f.place by in
      (there.0, there.1, (let c = there.2 in cc))

  store_loaded : (i p k : ℕ) (v : Source) → code i ≡ ExchangeCell p k v → lines.LoadedBefore code i p k
  store_loaded i p k v e =
      let s = of_store body i (ExchangeCell p k v) e refl in let f = s.2.from in let g = at_step f.n in
      let same : ExchangeCell p k v ≡ ExchangeCell (g.place s.0) (g.log s.0) (source_of g s.1) = s.2.same in
      let by = loaded_before body shaped f.n s.0 (Store s.0 s.1) (s.1 ∷ []) f.here refl in
      let there = loaded f.n s.0 i 0 (within f.n (Store s.0 s.1) f.here) f.place by in
      (there.0, there.1, (let c = there.2 in cc))

  -- a test of a register before step n is one of the register as it stands there
  tested : (n reg i : ℕ) → n ≤ length body → i ≡ begins body n + 0 → LoadedBefore body n reg → FreshBefore body n reg → (j : ℕ) × (j < i) × (code j ≡ CheckFresh ((at_step n).place reg) ((at_step n).log reg))
  tested n reg i low place by test =
      let earlier = loaded_before body shaped test.by reg (Fresh reg) [] test.tests refl in
      let inside = within test.by (Fresh reg) test.tests in
      let then = loaded_register body shaped earlier.by earlier.place reg test.by earlier.loads earlier.earlier inside in
      let now = loaded_register body shaped earlier.by earlier.place reg n earlier.loads (let a = earlier.earlier in let b = test.earlier in omega arith) low in
      let there : code (begins body test.by + 0) ≡ CheckFresh ((at_step test.by).place reg) ((at_step test.by).log reg) = stands_there body test.by 0 (Fresh reg) test.tests (omega arith) in
      let next = begins_next body test.by (Fresh reg) test.tests in
      let rises = begins_rises body (suc test.by) n test.earlier low in
      (begins body test.by + 0, (omega arith), (let a = then.0 in let b = then.1 in let c = now.0 in let d = now.1 in cc))

  store_fresh : (i p k : ℕ) (v : Source) → code i ≡ ExchangeCell p k v → (j : ℕ) × (j < i) × (code j ≡ CheckFresh p k)
  store_fresh i p k v e =
      let s = of_store body i (ExchangeCell p k v) e refl in let f = s.2.from in let g = at_step f.n in
      let same : ExchangeCell p k v ≡ ExchangeCell (g.place s.0) (g.log s.0) (source_of g s.1) = s.2.same in
      let by = loaded_before body shaped f.n s.0 (Store s.0 s.1) (s.1 ∷ []) f.here refl in
      let test = shaped.fresh f.n s.0 s.1 f.here in
      let there = tested f.n s.0 i (within f.n (Store s.0 s.1) f.here) f.place by test in
      (there.0, there.1, (let c = there.2 in cc))

  -- a value that a step uses is a number, or was agreed before the step
  set_source : (n k : ℕ) (value : Value) → n ≤ length body → SetBefore body n value → source_of (at_step n) value ≡ Agreed k → k < (at_step n).count
  set_source n k (Const number) low by e = cc
  set_source n k (Of reg) low by e = let below = logged body shaped n (Of reg) low by in let same : (at_step n).log reg ≡ k = cc in omega arith
  set_source n k (Made reg) low by e = let below = logged body shaped n (Made reg) low by in let same : (at_step n).log reg ≡ k = cc in omega arith

  store_source : (i p k : ℕ) (v : Source) → code i ≡ ExchangeCell p k v → IsSourceBefore code slot i v
  store_source i p k v e a is =
      let s = of_store body i (ExchangeCell p k v) e refl in let f = s.2.from in let g = at_step f.n in
      let same : ExchangeCell p k v ≡ ExchangeCell (g.place s.0) (g.log s.0) (source_of g s.1) = s.2.same in
      let inside = within f.n (Store s.0 s.1) f.here in
      let used = shaped.used f.n (Store s.0 s.1) f.here in
      let resolved : source_of g s.1 ≡ Agreed a = cc in
      let below = set_source f.n a s.1 inside (second s.0 s.1 f.n used) resolved in
      let count : slot i ≡ g.count + 0 = ap slot f.place ∙ counted_within body f.n 0 (Store s.0 s.1) f.here inside (omega arith) in
      omega arith
    where
      second : (reg : ℕ) (value : Value) (n : ℕ) → All (SetBefore body n) (Of reg ∷ value ∷ []) → SetBefore body n value
      second reg value n all = all 1 (Const 0) (omega arith)

  fill_source : (i c k : ℕ) (v : Source) → code i ≡ PrivateStore c k v → IsSourceBefore code slot i v
  fill_source i c k v e a is =
      let s = of_make body i (PrivateStore c k v) e refl in let f = s.2.from in let g = at_step f.n in
      let part = f.within in
      let same : PrivateStore c k v ≡ PrivateStore c g.count (fill_of g s.0 c) = s.2.same ∙ (fills g s.0 s.1 c (omega arith)).store in
      let inside = within f.n (Make s.0 s.1) f.here in
      let resolved : source_of g (slice_index_or s.0.cells c (Const 0)) ≡ Agreed a = cc in
      let below = set_source f.n a (slice_index_or s.0.cells c (Const 0)) inside (each f.n c s.0.cells (shaped.used f.n (Make s.0 s.1) f.here)) resolved in
      let count : slot i ≡ g.count + count_by is_commit (take (1 + 2 * c) (micros g (Make s.0 s.1))) = ap slot f.place ∙ counted_within body f.n (1 + 2 * c) (Make s.0 s.1) f.here inside (omega arith) in
      omega arith
    where
      each : (n c : ℕ) (cells : List Value) → All (SetBefore body n) cells → SetBefore body n (slice_index_or cells c (Const 0))
      each n c cells all = ⊎_elim (λ low. all c (Const 0) low) (λ past. subst (SetBefore body n) (sym (get_or_past cells c (Const 0) past)) tt) (order c (length cells))
        where
          order : (c n : ℕ) → (c < n) ⊎ (n ≤ c)
          order c n = search arith

  pub is_resolved : IsResolved code slot
  is_resolved = record { word_loaded = word_loaded; fresh_loaded = fresh_loaded; store_loaded = store_loaded; store_fresh = store_fresh; store_source = store_source; fill_source = fill_source }
