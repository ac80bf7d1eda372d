-- A walk in readings that were made already is the walk that a thunk is tested by.
use Rattle.std.proofs.Common.{◌≡◌, ◌^◌, [], ◌∷◌, Bool, true, false, cond, refl, ap, ◌∙◌}
use Rattle.bucket_walks.specs.section_body.specs.Bucket.{bucket_index}
use Rattle.machine_states.specs.structure_laws.specs.Scene.{Readings}
use Rattle.bucket_walks.specs.bucket_laws.specs.Walk.{Walk, is_wanted, walk}
use Rattle.lock_walks.specs.Followed.{followed}
use Rattle.lock_walks.proofs.Following.{same_test}
use Rattle.hash_table.specs.Walking.{Walking, wanted_by, fed_by}
use Rattle.hash_table.specs.Planned.{bucket_way}

pub in_readings : (w : Walking) (readings : Readings)
    → followed bucket_way w readings ≡ record w { walk = walk (2 ^ w.bits) (λ key. bucket_index key w.bits) w.bounds w.op w.walk readings }
unfolding walk
in_readings w [] = refl
in_readings w (reading ∷ readings) =
    ap (λ b. cond b (followed bucket_way (fed_by w reading.1) readings) w) (same_test is_wanted (λ place. refl) (λ wanted place. refl) (wanted_by w) reading.0)
    ∙ by (is_wanted (wanted_by w) reading.0) _ _ (in_readings (fed_by w reading.1) readings)
  where
    by : (b : Bool) (next : Walking) (later : Walk) → next ≡ record w { walk = later } → cond b next w ≡ record w { walk = cond b later w.walk }
    by true next later e = e
    by false next later e = refl
