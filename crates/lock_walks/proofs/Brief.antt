-- A walk is no longer than its walker says.
use Rattle.std.proofs.Common.{◌≡◌, ◌≤◌, List, [], ◌∷◌, ◌++◌, length, append_assoc, refl, sym, ap, subst, ◌∙◌, arith, Some}
use Rattle.std.specs.Prelude.{slice_get}
use Rattle.std.proofs.Math.Seq.{take-append_seam}
use Rattle.machine_states.specs.table_words.specs.declared.layout.Layout.{Layout}
use Rattle.machine_states.specs.structure_laws.specs.Scene.{Readings}
use Rattle.machine_states.specs.structure_laws.specs.Meaning.{Meaning}
use Rattle.try_lock.specs.Plans.{IsWalk}
use Rattle.lock_walks.specs.Way.{Way, fed_all, IsLedBy, Leads}
use Rattle.lock_walks.proofs.Each.{each_none}
use Rattle.lock_walks.proofs.Leading.{fed_more, led_more}

get_behind : {X : Type 0} (xs : List X) (y : X) (ys : List X) → slice_get (xs ++ y ∷ ys) (length xs) ≡ Some y
get_behind [] y ys = refl
get_behind (x ∷ xs) y ys = get_behind xs y ys

module _ {W : Type 0} (m : Meaning) (way : Way W) (layout : Layout) (walk : W) (leads : Leads way m layout walk) where
  -- behind readings that lead it, so many loads are left for the others
  few_behind : (before readings : Readings) → IsLedBy way walk before → IsWalk m (way.planning walk) layout (way.op walk) (before ++ readings)
      → length readings ≤ way.left (fed_all way walk before)
  few_behind before [] led walks = omega arith
  few_behind before (reading ∷ readings) led walks =
      let wants = sym (leads.wanted before led)
      ∙ (ap ((way.planning walk).wants layout (way.op walk)) (sym (take-append_seam before (reading ∷ readings)))
      ∙ walks (length before) reading.0 reading.1 (get_behind before reading readings)) in
      let others = few_behind (before ++ reading ∷ []) readings (led_more m way layout walk leads before reading.0 reading.1 led wants)
      (subst (IsWalk m (way.planning walk) layout (way.op walk)) (sym (append_assoc before (reading ∷ []) readings)) walks) in
      let behind = ap way.left (fed_more m way walk before reading.0 reading.1) in
      let nearer = leads.shorter (fed_all way walk before) reading.0 reading.1 wants in
      omega (arith, others, behind, nearer)

  -- a walk has no more readings than its walker says are left
  pub brief_walk : (readings : Readings) → IsWalk m (way.planning walk) layout (way.op walk) readings → length readings ≤ way.left walk
  brief_walk readings walks = few_behind [] readings (each_none (λ rs p w. way.wants (fed_all way walk rs) ≡ Some p)) walks
