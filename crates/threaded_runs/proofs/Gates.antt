-- The gates of the workers that came back, as a list.
use Rattle.std.specs.Prelude.{◌-◌, ◌*◌, ◌^◌, min, Bool, true, false}
use Rattle.std.proofs.Common.{◌≡◌, ℕ, zero, suc, ◌+◌, ◌<◌, ◌≤◌, List, [], ◌∷◌, length, get_or, refl, ap, arith}
use Rattle.free_serving.specs.Left.{least_asks}
use Rattle.threaded_runs.specs.declared.job.Finished.{Finished}
use Rattle.threaded_runs.specs.Jobs.{gates_of}

-- so many served requests, and one that others served for a halted worker
pub often_so : (reads_free : Bool) (count served halts asked : ℕ) → served ≤ count + halts → min (least_asks reads_free * count) (2 ^ 64 - 1) ≤ asked
    → min (least_asks reads_free * (served - halts)) (2 ^ 64 - 1) ≤ asked
often_so true count served halts asked few low =
    let before : min (8 * count) (2 ^ 64 - 1) ≤ asked = low in
    let behind : min (8 * (served - halts)) (2 ^ 64 - 1) ≤ asked = omega (arith, few, before) in behind
often_so false count served halts asked few low =
    let before : min (16 * count) (2 ^ 64 - 1) ≤ asked = low in
    let behind : min (16 * (served - halts)) (2 ^ 64 - 1) ≤ asked = omega (arith, few, before) in behind

module _ {T H : Type 0} where
  pub length-gates_of : (finished : List (Finished T H)) → length (gates_of finished) ≡ length finished
  length-gates_of [] = refl
  length-gates_of (f ∷ finished) = ap suc (length-gates_of finished)

  pub gate_at : (finished : List (Finished T H)) (i : ℕ) (d : H) (e : Finished T H) → i < length finished → get_or (gates_of finished) i d ≡ (get_or finished i e).gate
  gate_at [] i d e low = absurd (omega (arith, low))
  gate_at (f ∷ finished) zero d e low = refl
  gate_at (f ∷ finished) (suc i) d e low = gate_at finished i d e (omega (arith, low))
