-- A walk in readings that were made already is the walk that a thunk is tested by.
use Rattle.std.proofs.Common.{◌≡◌, [], ◌∷◌, Bool, true, false, cond, refl, ap, ◌∙◌}
use Rattle.tree_walks.specs.structure_laws.specs.Scene.{Readings}
use Rattle.tree_walks.specs.tree_laws.specs.bucket_laws.specs.Walk.{is_wanted}
use Rattle.tree_walks.specs.tree_laws.specs.node_laws.specs.Walked.{walked}
use Rattle.tree_walks.specs.tree_laws.specs.Walk.{Walk}
use Rattle.tree_walks.specs.Walking.{wanted_by, fed_by, followed_by}
use Rattle.lock_walks.specs.Followed.{followed}
use Rattle.lock_walks.proofs.Following.{same_test}
use Rattle.leaf_tree.specs.declared.walker.LeafWalk.{LeafWalk}
use Rattle.leaf_tree.specs.Planned.{tree_way}

pub in_readings : (w : LeafWalk) (readings : Readings) → followed tree_way w readings ≡ record { walk = followed_by w.walk readings }
unfolding walked
in_readings w [] = refl
in_readings w (reading ∷ readings) =
    ap (λ b. cond b (followed tree_way (record { walk = fed_by w.walk reading.1 }) readings) w) (same_test is_wanted (λ place. refl) (λ wanted place. refl) (wanted_by w.walk) reading.0)
    ∙ by (is_wanted (wanted_by w.walk) reading.0) _ _ (in_readings (record { walk = fed_by w.walk reading.1 }) readings)
  where
    by : (b : Bool) (next : LeafWalk) (later : Walk) → next ≡ record { walk = record (w.walk) { walk = later } } → cond b next w ≡ record { walk = record (w.walk) { walk = cond b later w.walk.walk } }
    by true next later e = e
    by false next later e = refl
