-- Which atomic steps stand next to one another in a line.
use Rattle.std.proofs.Common.{◌≡◌, ℕ, zero, suc, ◌+◌, ◌*◌, ◌<◌, List, refl, ◌∙◌, arith}
use Rattle.std.specs.Prelude.{slice_index_or}
use Rattle.structure_laws.specs.body_terms.specs.declared.value.Init.{Init}
use Rattle.structure_laws.specs.body_terms.specs.declared.value.Value.TheVariants.{Const}
use Rattle.structure_laws.specs.body_terms.specs.declared.step.Step.{Step}
use Rattle.structure_laws.specs.body_terms.specs.declared.step.Step.TheVariants.{Make}
use Rattle.structure_laws.specs.body_terms.specs.declared.micro.Source.{Source}
use Rattle.structure_laws.specs.body_terms.specs.declared.micro.Micro.{Micro}
use Rattle.structure_laws.specs.body_terms.specs.declared.micro.Micro.TheVariants.{LoadCell, Commit, NestedLoad, NestedCommit, CheckFree, NestedHold, OutcomeLoad, OutcomeCommit, CheckHeld, PrivateLoad, PrivateStore, MakeCommit, ClockLoad, StampExchange, ClockRaise, EpochForRetire, RetireCommit}
use Rattle.structure_laws.specs.body_terms.specs.Line.{Registers, registers_before, source_of, line, begins, micro_at}
use Rattle.section_lines.proofs.Steps.{part_of}
use Rattle.section_lines.proofs.Sources.{part_there, of_load, of_take, of_make, of_stamp, of_retire}
use Rattle.section_lines.specs.Line.{IsOrdered}

-- what a Make's slot gets in this cell
abbrev pub fill_of : Registers → Init → ℕ → Source
fill_of g init cell = source_of g (slice_index_or init.cells cell (Const 0))

-- the load and the store of each cell of a Make's slot
pub record Fills (g : Registers) (init : Init) (into cell : ℕ) : Type 0 where
  pub load : part_of g (Make init into) (2 * cell) ≡ PrivateLoad cell g.count
  pub store : part_of g (Make init into) (1 + 2 * cell) ≡ PrivateStore cell g.count (fill_of g init cell)

pub fills : (g : Registers) (init : Init) (into cell : ℕ) → cell < 5 → Fills g init into cell
fills g init into zero within = record { load = refl; store = refl }
fills g init into (suc zero) within = record { load = refl; store = refl }
fills g init into (suc (suc zero)) within = record { load = refl; store = refl }
fills g init into (suc (suc (suc zero))) within = record { load = refl; store = refl }
fills g init into (suc (suc (suc (suc zero)))) within = record { load = refl; store = refl }
fills g init into (suc (suc (suc (suc (suc cell))))) within = absurd (omega arith)

-- a Make's slot has five cells
pub few_loads : (g : Registers) (init : Init) (into cell k : ℕ) → 2 * cell < 11 → PrivateLoad cell k ≡ part_of g (Make init into) (2 * cell) → cell < 5
few_loads g init into zero k within same = omega arith
few_loads g init into (suc zero) k within same = omega arith
few_loads g init into (suc (suc zero)) k within same = omega arith
few_loads g init into (suc (suc (suc zero))) k within same = omega arith
few_loads g init into (suc (suc (suc (suc zero)))) k within same = omega arith
few_loads g init into (suc (suc (suc (suc (suc zero))))) k within same = let made : PrivateLoad 5 k ≡ MakeCommit g.count = same in cc
few_loads g init into (suc (suc (suc (suc (suc (suc cell)))))) k within same = absurd (omega arith)

module _ (body : List Step) where
  abbrev code : ℕ → Micro
  code i = micro_at (line body) i

  load_next : (i p k : ℕ) → code i ≡ LoadCell p k → code (suc i) ≡ Commit p k
  load_next i p k e =
      let s = of_load body i (LoadCell p k) e refl in let f = s.2.from in let g = registers_before body f.n in
      let same : LoadCell p k ≡ LoadCell s.0 g.count = s.2.same in
      let next : code (suc i) ≡ Commit s.0 g.count = part_there body f (suc i) 1 (let place = f.place in omega arith) (omega arith) in cc

  commit_before : (i p k : ℕ) → code i ≡ Commit p k → (j : ℕ) × (i ≡ suc j) × (code j ≡ LoadCell p k)
  commit_before i p k e =
      let s = of_load body i (Commit p k) e refl in let f = s.2.from in let g = registers_before body f.n in
      let same : Commit p k ≡ Commit s.0 g.count = s.2.same in
      let first : code (begins body f.n) ≡ LoadCell s.0 g.count = part_there body f (begins body f.n) 0 (omega arith) (omega arith) in
      (begins body f.n, (let place = f.place in omega arith), cc)

  nested_next : (i p k : ℕ) → code i ≡ NestedLoad p k → code (suc i) ≡ NestedCommit p k
  nested_next i p k e =
      let s = of_take body i (NestedLoad p k) e refl in let f = s.2.from in let g = registers_before body f.n in
      let same : NestedLoad p k ≡ NestedLoad s.0 g.count = s.2.same in
      let next : code (suc i) ≡ NestedCommit s.0 g.count = part_there body f (suc i) 1 (let place = f.place in omega arith) (omega arith) in cc

  nested_before : (i p k : ℕ) → code i ≡ NestedCommit p k → (j : ℕ) × (i ≡ suc j) × (code j ≡ NestedLoad p k)
  nested_before i p k e =
      let s = of_take body i (NestedCommit p k) e refl in let f = s.2.from in let g = registers_before body f.n in
      let same : NestedCommit p k ≡ NestedCommit s.0 g.count = s.2.same in
      let first : code (begins body f.n) ≡ NestedLoad s.0 g.count = part_there body f (begins body f.n) 0 (omega arith) (omega arith) in
      (begins body f.n, (let place = f.place in omega arith), cc)

  free_before : (i p k w : ℕ) → code i ≡ CheckFree p k w → (j : ℕ) × (i ≡ suc j) × (code j ≡ NestedCommit p k)
  free_before i p k w e =
      let s = of_take body i (CheckFree p k w) e refl in let f = s.2.from in let g = registers_before body f.n in
      let same : CheckFree p k w ≡ CheckFree s.0 g.count s.1 = s.2.same in
      let first : code (begins body f.n + 1) ≡ NestedCommit s.0 g.count = part_there body f (begins body f.n + 1) 1 refl (omega arith) in
      (begins body f.n + 1, (let place = f.place in omega arith), cc)

  hold_next : (i p w : ℕ) → code i ≡ NestedHold p w → (k : ℕ) × (code (suc i) ≡ OutcomeLoad p k)
  hold_next i p w e =
      let s = of_take body i (NestedHold p w) e refl in let f = s.2.from in let g = registers_before body f.n in
      let same : NestedHold p w ≡ NestedHold s.0 s.1 = s.2.same in
      let next : code (suc i) ≡ OutcomeLoad s.0 (g.count + 1) = part_there body f (suc i) 4 (let place = f.place in omega arith) (omega arith) in
      (g.count + 1, cc)

  hold_before : (i p w : ℕ) → code i ≡ NestedHold p w → (j k : ℕ) × (i ≡ suc j) × (code j ≡ CheckFree p k w)
  hold_before i p w e =
      let s = of_take body i (NestedHold p w) e refl in let f = s.2.from in let g = registers_before body f.n in
      let same : NestedHold p w ≡ NestedHold s.0 s.1 = s.2.same in
      let first : code (begins body f.n + 2) ≡ CheckFree s.0 g.count s.1 = part_there body f (begins body f.n + 2) 2 refl (omega arith) in
      (begins body f.n + 2, g.count, (let place = f.place in omega arith), cc)

  outcome_next : (i p k : ℕ) → code i ≡ OutcomeLoad p k → code (suc i) ≡ OutcomeCommit p k
  outcome_next i p k e =
      let s = of_take body i (OutcomeLoad p k) e refl in let f = s.2.from in let g = registers_before body f.n in
      let same : OutcomeLoad p k ≡ OutcomeLoad s.0 (g.count + 1) = s.2.same in
      let next : code (suc i) ≡ OutcomeCommit s.0 (g.count + 1) = part_there body f (suc i) 5 (let place = f.place in omega arith) (omega arith) in cc

  outcome_load_before : (i p k : ℕ) → code i ≡ OutcomeLoad p k → (j w : ℕ) × (i ≡ suc j) × (code j ≡ NestedHold p w)
  outcome_load_before i p k e =
      let s = of_take body i (OutcomeLoad p k) e refl in let f = s.2.from in let g = registers_before body f.n in
      let same : OutcomeLoad p k ≡ OutcomeLoad s.0 (g.count + 1) = s.2.same in
      let first : code (begins body f.n + 3) ≡ NestedHold s.0 s.1 = part_there body f (begins body f.n + 3) 3 refl (omega arith) in
      (begins body f.n + 3, s.1, (let place = f.place in omega arith), cc)

  outcome_before : (i p k : ℕ) → code i ≡ OutcomeCommit p k → (j : ℕ) × (i ≡ suc j) × (code j ≡ OutcomeLoad p k)
  outcome_before i p k e =
      let s = of_take body i (OutcomeCommit p k) e refl in let f = s.2.from in let g = registers_before body f.n in
      let same : OutcomeCommit p k ≡ OutcomeCommit s.0 (g.count + 1) = s.2.same in
      let first : code (begins body f.n + 4) ≡ OutcomeLoad s.0 (g.count + 1) = part_there body f (begins body f.n + 4) 4 refl (omega arith) in
      (begins body f.n + 4, (let place = f.place in omega arith), cc)

  held_before : (i p k w : ℕ) → code i ≡ CheckHeld p k w → (j : ℕ) × (i ≡ suc (suc (suc j))) × (code j ≡ NestedHold p w) × (code (suc (suc j)) ≡ OutcomeCommit p k)
  held_before i p k w e =
      let s = of_take body i (CheckHeld p k w) e refl in let f = s.2.from in let g = registers_before body f.n in
      let same : CheckHeld p k w ≡ CheckHeld s.0 (g.count + 1) s.1 = s.2.same in
      let third : code (begins body f.n + 3) ≡ NestedHold s.0 s.1 = part_there body f (begins body f.n + 3) 3 refl (omega arith) in
      let fifth : code (suc (suc (begins body f.n + 3))) ≡ OutcomeCommit s.0 (g.count + 1) = part_there body f (suc (suc (begins body f.n + 3))) 5 (omega arith) (omega arith) in
      (begins body f.n + 3, (let place = f.place in omega arith), cc, cc)

  make_before : (i k : ℕ) → code i ≡ MakeCommit k → (j : ℕ) × (v : Source) × (i ≡ suc j) × (code j ≡ PrivateStore 4 k v)
  make_before i k e =
      let s = of_make body i (MakeCommit k) e refl in let f = s.2.from in let g = registers_before body f.n in
      let same : MakeCommit k ≡ MakeCommit g.count = s.2.same in
      let last : code (begins body f.n + 9) ≡ PrivateStore 4 g.count (fill_of g s.0 4) = part_there body f (begins body f.n + 9) 9 refl (omega arith) in
      (begins body f.n + 9, fill_of g s.0 4, (let place = f.place in omega arith), cc)

  fill_before : (i c k : ℕ) (v : Source) → code i ≡ PrivateStore c k v → (j : ℕ) × (i ≡ suc j) × (code j ≡ PrivateLoad c k)
  fill_before i c k v e =
      let s = of_make body i (PrivateStore c k v) e refl in let f = s.2.from in let g = registers_before body f.n in
      let within = f.within in
      let fill = fills g s.0 s.1 c (omega arith) in
      let same : PrivateStore c k v ≡ PrivateStore c g.count (fill_of g s.0 c) = s.2.same ∙ fill.store in
      let load = part_there body f (begins body f.n + 2 * c) (2 * c) refl (omega arith) ∙ fill.load in
      (begins body f.n + 2 * c, (let place = f.place in omega arith), cc)

  fill_next : (i c k : ℕ) → code i ≡ PrivateLoad c k → (v : Source) × (code (suc i) ≡ PrivateStore c k v)
  fill_next i c k e =
      let s = of_make body i (PrivateLoad c k) e refl in let f = s.2.from in let g = registers_before body f.n in
      let few = few_loads g s.0 s.1 c k f.within s.2.same in
      let fill = fills g s.0 s.1 c few in
      let same : PrivateLoad c k ≡ PrivateLoad c g.count = s.2.same ∙ fill.load in
      let store = part_there body f (suc i) (1 + 2 * c) (let place = f.place in omega arith) (omega arith) ∙ fill.store in
      (fill_of g s.0 c, cc)

  refill_before : (i c k : ℕ) → code i ≡ PrivateLoad (suc c) k → (j : ℕ) × (v : Source) × (i ≡ suc j) × (code j ≡ PrivateStore c k v)
  refill_before i c k e =
      let s = of_make body i (PrivateLoad (suc c) k) e refl in let f = s.2.from in let g = registers_before body f.n in
      let few = few_loads g s.0 s.1 (suc c) k f.within s.2.same in
      let same : PrivateLoad (suc c) k ≡ PrivateLoad (suc c) g.count = s.2.same ∙ (fills g s.0 s.1 (suc c) few).load in
      let store = part_there body f (begins body f.n + (1 + 2 * c)) (1 + 2 * c) refl (omega arith) ∙ (fills g s.0 s.1 c (omega arith)).store in
      (begins body f.n + (1 + 2 * c), fill_of g s.0 c, (let place = f.place in omega arith), cc)

  clock_next : (i m : ℕ) → code i ≡ ClockLoad → m ≡ suc i → code m ≡ StampExchange
  clock_next i m e next = let f = (of_stamp body i ClockLoad e refl).from in part_there body f m 1 (let place = f.place in omega arith) (omega arith)

  stamp_before : (i m : ℕ) → code m ≡ StampExchange → m ≡ suc i → code i ≡ ClockLoad
  stamp_before i m e next = let f = (of_stamp body m StampExchange e refl).from in part_there body f i 0 (let place = f.place in omega arith) (omega arith)

  stamp_next : (i m : ℕ) → code i ≡ StampExchange → m ≡ suc i → code m ≡ ClockRaise
  stamp_next i m e next = let f = (of_stamp body i StampExchange e refl).from in part_there body f m 2 (let place = f.place in omega arith) (omega arith)

  raise_before : (i m : ℕ) → code m ≡ ClockRaise → m ≡ suc i → code i ≡ StampExchange
  raise_before i m e next = let f = (of_stamp body m ClockRaise e refl).from in part_there body f i 1 (let place = f.place in omega arith) (omega arith)

  retire_next : (i s k : ℕ) → code i ≡ EpochForRetire s k → code (suc i) ≡ RetireCommit s k
  retire_next i t k e =
      let s = of_retire body i (EpochForRetire t k) e refl in let f = s.1.from in let g = registers_before body f.n in
      let same : EpochForRetire t k ≡ EpochForRetire s.0 g.count = s.1.same in
      let next : code (suc i) ≡ RetireCommit s.0 g.count = part_there body f (suc i) 1 (let place = f.place in omega arith) (omega arith) in cc

  retire_before : (i s k : ℕ) → code i ≡ RetireCommit s k → (j : ℕ) × (i ≡ suc j) × (code j ≡ EpochForRetire s k)
  retire_before i t k e =
      let s = of_retire body i (RetireCommit t k) e refl in let f = s.1.from in let g = registers_before body f.n in
      let same : RetireCommit t k ≡ RetireCommit s.0 g.count = s.1.same in
      let first : code (begins body f.n) ≡ EpochForRetire s.0 g.count = part_there body f (begins body f.n) 0 (omega arith) (omega arith) in
      (begins body f.n, (let place = f.place in omega arith), cc)

  -- the steps of a body's line stand in this order
  pub is_ordered : IsOrdered code
  is_ordered = record {
    load_next = load_next;
    commit_before = commit_before;
    nested_next = nested_next;
    nested_before = nested_before;
    free_before = free_before;
    hold_next = hold_next;
    hold_before = hold_before;
    outcome_next = outcome_next;
    outcome_load_before = outcome_load_before;
    outcome_before = outcome_before;
    held_before = held_before;
    make_before = make_before;
    fill_before = fill_before;
    fill_next = fill_next;
    refill_before = refill_before;
    clock_next = clock_next;
    stamp_before = stamp_before;
    stamp_next = stamp_next;
    raise_before = raise_before;
    retire_next = retire_next;
    retire_before = retire_before;
  }
