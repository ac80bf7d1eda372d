-- The private stores of a Make: where they stand in the log, and that no cell is stored to twice.
use Rattle.std.proofs.Common.{◌≡◌, ℕ, zero, suc, ◌+◌, ◌*◌, ◌<◌, List, refl, sym, ap, ◌∙◌, ⊎_elim, arith}
use Rattle.std.specs.Prelude.{count_by, take, slice_index_or}
use Rattle.std.proofs.lemmas.Bool.{cases_eq, cases_lt}
use Rattle.structure_laws.specs.body_terms.specs.declared.step.Step.{Step}
use Rattle.structure_laws.specs.body_terms.specs.declared.step.Step.TheVariants.{Make}
use Rattle.structure_laws.specs.body_terms.specs.declared.value.Init.{Init}
use Rattle.structure_laws.specs.body_terms.specs.declared.value.Value.TheVariants.{Const}
use Rattle.structure_laws.specs.body_terms.specs.declared.micro.Source.{Source}
use Rattle.structure_laws.specs.body_terms.specs.declared.micro.Micro.{Micro}
use Rattle.structure_laws.specs.body_terms.specs.declared.micro.Micro.TheVariants.{PrivateStore}
use Rattle.structure_laws.specs.body_terms.specs.Line.{Registers, registers_before, source_of, micros, line, begins, micro_at, is_commit, committed}
use Rattle.structure_laws.specs.body_terms.specs.Shape.{IsShaped, IsStep}
use Rattle.structure_laws.specs.body_terms.proofs.RegisterLemmas.{committed_below}
use Rattle.section_lines.proofs.Places.{step_inside}
use Rattle.section_lines.proofs.Counts.{counted_within}
use Rattle.section_lines.proofs.Sources.{of_make}
use Rattle.section_lines.proofs.Ordered.{fill_of, fills}

-- before its commit a Make commits nothing
none_committed : (g : Registers) (init : Init) (into cell : ℕ) → cell < 5
    → count_by is_commit (take (1 + 2 * cell) (micros g (Make init into))) ≡ 0
none_committed g init into zero low = refl
none_committed g init into (suc zero) low = refl
none_committed g init into (suc (suc zero)) low = refl
none_committed g init into (suc (suc (suc zero))) low = refl
none_committed g init into (suc (suc (suc (suc zero)))) low = refl
none_committed g init into (suc (suc (suc (suc (suc cell))))) low = absurd (omega arith)

-- the Make of a private store, and where it stands
pub record Fill (body : List Step) (at cell log : ℕ) (value : Source) : Type 0 where
  pub step : ℕ
  pub init : Init
  pub register : ℕ
  pub here : IsStep body step (Make init register)
  pub low : cell < 5
  pub place : at ≡ begins body step + (1 + 2 * cell)
  pub count : log ≡ (registers_before body step).count
  pub source : value ≡ source_of (registers_before body step) (slice_index_or init.cells cell (Const 0))

module _ (body : List Step) where
  abbrev code : ℕ → Micro
  code i = micro_at (line body) i

  pub fill_at : (i cell log : ℕ) (value : Source) → code i ≡ PrivateStore cell log value → Fill body i cell log value
  fill_at i cell log value is =
      let s = of_make body i (PrivateStore cell log value) is refl in let f = s.2.from in let g = registers_before body f.n in
      let low : cell < 5 = (let within = f.within in omega arith) in
      let same : PrivateStore cell log value ≡ PrivateStore cell g.count (fill_of g s.0 cell) = s.2.same ∙ (fills g s.0 s.1 cell low).store in
      let count : log ≡ g.count = cc in let source : value ≡ fill_of g s.0 cell = cc in
      record { step = f.n; init = s.0; register = s.1; here = f.here; low = low; place = f.place; count = count; source = source }

  -- its place in the log is the number of words committed before it
  pub fill_log : (i cell log : ℕ) (value : Source) → code i ≡ PrivateStore cell log value → log ≡ committed (line body) i
  fill_log i cell log value is =
      let f = fill_at i cell log value is in
      let inside = step_inside body f.step (Make f.init f.register) f.here in
      let below = counted_within body f.step (1 + 2 * cell) (Make f.init f.register) f.here (omega arith) (let low = f.low in omega arith) in
      let none = none_committed (registers_before body f.step) f.init f.register cell f.low in
      let here = ap (committed (line body)) f.place in
      let count = f.count in omega arith

  -- one Make stores to a cell once
  pub fill_once : IsShaped body → (i j cell log : ℕ) (v w : Source) → code i ≡ PrivateStore cell log v → code j ≡ PrivateStore cell log w → i ≡ j
  fill_once shaped i j cell log v w is is' =
      let f = fill_at i cell log v is in let g = fill_at j cell log w is' in
      let inside = step_inside body f.step (Make f.init f.register) f.here in
      let inside' = step_inside body g.step (Make g.init g.register) g.here in
      let count = f.count in let count' = g.count in
      ⊎_elim (λ same. f.place ∙ (ap (λ n. begins body n + (1 + 2 * cell)) same ∙ sym g.place))
      (λ ne. ⊎_elim
      (λ lt. absurd (let less = committed_below body shaped f.step g.step (Make f.init f.register) f.here (omega arith) lt (omega arith) in omega arith))
      (λ le. absurd (let less = committed_below body shaped g.step f.step (Make g.init g.register) g.here (omega arith) (omega arith) (omega arith) in
      omega arith)) (cases_lt f.step g.step)) (cases_eq f.step g.step)
