-- A section over a key's cells retires nothing.
use Rattle.std.proofs.Common.{ℕ, zero, suc, ◌≤◌, Bool, true, false, arith}
use Rattle.std.specs.Prelude.{◌==◌, count_by}
use Rattle.runner_parts.specs.structure_laws.specs.body_terms.specs.Shape.{is_retire}
use Rattle.runner_parts.specs.structure_laws.specs.body_terms.specs.declared.thunk.Thunk.{Thunk}
use Rattle.section_body.specs.Bucket.{operand}
use Rattle.key_cells.specs.Steps.{cell_steps}
use Rattle.key_cells.specs.Keyed.{Keyed, IsKeyed, cell_place, wanted, new_of, key_in, key_body}

few_retires : (cell want new : ℕ → ℕ) (reply : ℕ) (w : Bool) (n : ℕ) → n ≤ 3
    → count_by is_retire (cell_steps cell want new reply w n) ≤ 2
few_retires cell want new reply true zero few = omega arith
few_retires cell want new reply true (suc zero) few = omega arith
few_retires cell want new reply true (suc (suc zero)) few = omega arith
few_retires cell want new reply true (suc (suc (suc zero))) few = omega arith
few_retires cell want new reply false zero few = omega arith
few_retires cell want new reply false (suc zero) few = omega arith
few_retires cell want new reply false (suc (suc zero)) few = omega arith
few_retires cell want new reply false (suc (suc (suc zero))) few = omega arith
few_retires cell want new reply w (suc (suc (suc (suc n)))) few = absurd (omega (arith, few))

pub keyed_retires : (c : Keyed) → IsKeyed c → (t : Thunk) → count_by is_retire (key_body c t) ≤ 2
keyed_retires c is t =
    few_retires (cell_place c (key_in c t)) (wanted t) (new_of t) (operand t 6) (t.form == 2) c.count is.few
