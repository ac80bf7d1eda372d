-- The places of an open section's line up to its edge, as steps of its body.
use Rattle.std.proofs.Common.{◌≡◌, ℕ, suc, ◌≤◌, List, length, refl, sym, ap, ◌∙◌, subst, ⊎_elim, arith, ◌<◌}
use Rattle.std.proofs.lemmas.Bool.{cases_lt}
use Rattle.agreement_core.specs.body_terms.specs.declared.step.Step.{Step}
use Rattle.agreement_core.specs.body_terms.specs.declared.step.Step.TheVariants.{Load, Make, Retire}
use Rattle.agreement_core.specs.body_terms.specs.declared.value.Init.{Init}
use Rattle.agreement_core.specs.body_terms.specs.declared.value.Value.TheVariants.{Const}
use Rattle.agreement_core.specs.body_terms.specs.declared.micro.Source.{Source}
use Rattle.agreement_core.specs.body_terms.specs.declared.micro.Micro.TheVariants as micros
use Rattle.agreement_core.specs.body_terms.specs.Line.{registers_before, line, begins, micro_at, source_of}
use Rattle.agreement_core.specs.body_terms.specs.Shape.{IsStep}
use Rattle.agreement_core.specs.body_terms.proofs.LineLemmas.{begins_next}
use Rattle.std.specs.Prelude.{slice_index_or}
use Rattle.agreement_core.specs.section_lines.specs.Progress.{passed_steps}
use Rattle.agreement_core.specs.section_lines.proofs.Places.{stands, whole_line, begins_rises, step_inside}
use Rattle.agreement_core.specs.section_lines.proofs.Progress.{passed_at, passed_all}
use Rattle.agreement_core.specs.section_lines.proofs.Sources.{of_load, of_make, of_retire}
use Rattle.agreement_core.specs.section_lines.proofs.Ordered.{fill_of, fills}

-- from a step's beginning on that step is come to
pub passed_from : (body : List Step) (edge n : ℕ) → n ≤ length body → begins body n ≤ edge → n ≤ passed_steps body edge
passed_from body edge n within from = ⊎_elim
    (λ low.
    let s = stands body edge low in
    let at : passed_steps body edge ≡ s.n = ap (passed_steps body) s.place ∙ passed_at body s.n s.at s.step s.here s.within in
    let inside = step_inside body s.n s.step s.here in
    ⊎_elim (λ before. absurd (let rises = begins_rises body (suc s.n) n before within in let next = begins_next body s.n s.step s.here in
    let place = s.place in let more = s.within in omega arith))
    (λ le. omega arith) (cases_lt s.n n))
    (λ past. let all = passed_all body edge (let whole = whole_line body in omega arith) in omega arith)
    (cases_lt edge (length (line body)))

-- a Load that a run has come to, and where it stands in the body
pub record LoadStep (body : List Step) (edge place : ℕ) : Type 0 where
  pub step : ℕ
  pub register : ℕ
  pub here : IsStep body step (Load place register)
  pub passed : step ≤ passed_steps body edge

pub come_load : (body : List Step) (edge at place log : ℕ) → at ≤ edge → micro_at (line body) at ≡ micros.Commit place log
    → LoadStep body edge place
come_load body edge at place log below is =
    let s = of_load body at (micros.Commit place log) is refl in let f = s.2.from in
    let same : micros.Commit place log ≡ micros.Commit s.0 (registers_before body f.n).count = s.2.same in
    let there : s.0 ≡ place = cc in
    record {
      step = f.n;
      register = s.1;
      here = subst (λ q. IsStep body f.n (Load q s.1)) there f.here;
      passed = passed_from body edge f.n (let inside = step_inside body f.n (Load s.0 s.1) f.here in omega arith)
          (let at = f.place in omega arith);
    }

-- the Load at the edge
pub load_here : (body : List Step) (edge place log : ℕ) → micro_at (line body) edge ≡ micros.LoadCell place log → LoadStep body edge place
load_here body edge place log is =
    let s = of_load body edge (micros.LoadCell place log) is refl in let f = s.2.from in
    let same : micros.LoadCell place log ≡ micros.LoadCell s.0 (registers_before body f.n).count = s.2.same in
    let there : s.0 ≡ place = cc in
    record {
      step = f.n;
      register = s.1;
      here = subst (λ q. IsStep body f.n (Load q s.1)) there f.here;
      passed = passed_from body edge f.n (let inside = step_inside body f.n (Load s.0 s.1) f.here in omega arith)
          (let at = f.place in omega arith);
    }

-- at the load of the epoch for a Retire the next step is that Retire
pub retire_here : (body : List Step) (edge t log : ℕ) → micro_at (line body) edge ≡ micros.EpochForRetire t log
    → IsStep body (passed_steps body edge) (Retire t)
retire_here body edge t log is =
    let s = of_retire body edge (micros.EpochForRetire t log) is refl in let f = s.1.from in
    let same : micros.EpochForRetire t log ≡ micros.EpochForRetire s.0 (registers_before body f.n).count = s.1.same in
    let there : s.0 ≡ t = cc in
    subst (λ n. IsStep body n (Retire t)) (sym (ap (passed_steps body) f.place ∙ passed_at body f.n 0 (Retire s.0) f.here (omega arith)))
    (subst (λ q. IsStep body f.n (Retire q)) there f.here)

-- a private store is that of a cell of a Make's slot, with its value for this cell
pub record FillStep (body : List Step) (cell : ℕ) (value : Source) : Type 0 where
  pub step : ℕ
  pub init : Init
  pub register : ℕ
  pub here : IsStep body step (Make init register)
  pub low : cell < 5
  pub source : value ≡ source_of (registers_before body step) (slice_index_or init.cells cell (Const 0))

pub fill_here : (body : List Step) (at cell log : ℕ) (value : Source) → micro_at (line body) at ≡ micros.PrivateStore cell log value
    → FillStep body cell value
fill_here body at cell log value is =
    let s = of_make body at (micros.PrivateStore cell log value) is refl in let f = s.2.from in
    let low : cell < 5 = (let within = f.within in omega arith) in
    let same : micros.PrivateStore cell log value
    ≡ micros.PrivateStore cell (registers_before body f.n).count (fill_of (registers_before body f.n) s.0 cell) = s.2.same
    ∙ (fills (registers_before body f.n) s.0 s.1 cell low).store in
    record { step = f.n; init = s.0; register = s.1; here = f.here; low = low; source = cc }
