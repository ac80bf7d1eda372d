-- A list of steps has the shape of a body where none of its steps has a fault; for a body that is written out that is computed.
use Rattle.std.proofs.Common.{◌≡◌, ℕ, zero, suc, ◌<◌, ◌≤◌, sym, subst, List, length, arith, ⊎_elim}
use Rattle.std.specs.Prelude.{None}
use Rattle.std.proofs.lemmas.Bool.{cases_eq}
use Rattle.structure_laws.specs.body_terms.specs.declared.step.Step.{Step}
use Rattle.structure_laws.specs.body_terms.specs.Shape.{IsShaped}
use Rattle.structure_laws.specs.body_terms.specs.Fault.{fault_at, end_fault}
use Rattle.structure_laws.specs.body_terms.proofs.ShapeLemmas.{shaped_without}

-- the first n steps have no fault, and nothing is missing at the end
abbrev pub AreFaultless : List Step → ℕ → Type 0
AreFaultless body zero = end_fault body ≡ None
AreFaultless body (suc n) = AreFaultless body n × (fault_at body n ≡ None)

ends : (body : List Step) (n : ℕ) → AreFaultless body n → end_fault body ≡ None
ends body zero h = h
ends body (suc n) h = ends body n h.0

below : (body : List Step) (n : ℕ) → AreFaultless body n → (i : ℕ) → i < n → fault_at body i ≡ None
below body zero h i low = absurd (omega arith)
below body (suc n) h i low = ⊎_elim (λ e. subst (λ k. fault_at body k ≡ None) (sym e) h.1) (λ ne. below body n h.0 i (omega arith)) (cases_eq i n)

pub shaped_by : (body : List Step) → length body ≤ 32 → AreFaultless body (length body) → IsShaped body
shaped_by body short faultless = shaped_without body (length body) short (omega arith) (below body (length body) faultless) (ends body (length body) faultless)
