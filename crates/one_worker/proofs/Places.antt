-- A place that an entered worker's walk knows is in no slot that is in a hand, free or worn.
use Rattle.std.specs.Prelude.{◌⊎◌, cond, Bool, true, false, slice_get}
use Rattle.std.proofs.Common.{◌≡◌, ℕ, ◌+◌, ◌*◌, ◌<◌, ◌≤◌, List, refl, sym, ap, ◌∙◌, subst, ⊎_elim, arith, Some, None}
use Rattle.machine_states.specs.map_history.specs.declared.op.Request.{Request}
use Rattle.machine_states.specs.table_words.specs.declared.layout.Layout.{Layout}
use Rattle.machine_states.specs.structure_laws.specs.Meaning.{Meaning}
use Rattle.machine_states.specs.structure_laws.specs.Scene.{Scene, Status, Free, Live, Retired}
use Rattle.machine_states.specs.structure_laws.specs.Sound.{IsRead}
use Rattle.machine_states.specs.structure_laws.specs.Cells.{IsSafe, IsKnown}
use Rattle.machine_states.specs.epoch_core.specs.declared.stage.Stage.TheVariants.{Entered}
use Rattle.machine_states.specs.epoch_core.specs.declared.location.Location.{Location}
use Rattle.machine_states.specs.epoch_core.specs.declared.location.Location.TheVariants as locations
use Rattle.machine_states.specs.epoch_core.specs.Lists.{in_hand, in_free, in_worn}
use Rattle.machine_states.specs.epoch_core.specs.State.{IsKept, entry_of}
use Rattle.machine_states.specs.Sight.{Sight}
use Rattle.resource_bounds.specs.machine_epochs.specs.Entries.{counts_of}
use Rattle.resource_bounds.specs.machine_scenes.specs.Shown.{scene_of, status_at}
use Rattle.runner_facts.specs.machine_facts.specs.machine_invariant.specs.Slots.{node_count, NodesStand}
use Rattle.runner_facts.specs.machine_facts.specs.machine_invariant.specs.Whole.{states_of, IsWhole}
use Rattle.runner_facts.specs.machine_facts.specs.machine_invariant.proofs.Asked.{entered_at}
use Rattle.runner_facts.specs.machine_facts.specs.machine_invariant.proofs.Slots.{nodes_stand}
use Rattle.resource_bounds.specs.reached_histories.specs.Laws.{HasHistory}
use Rattle.one_worker.specs.Alone.{ReadingsStand}
use Rattle.one_worker.proofs.Kept.{IsIdlePlace, Holds}

-- a location in a hand, a free list or a worn one
pub record IsIdle (x : Location) : Type 0 where
  pub free : status_at x ≡ Free
  pub unkept : (g : ℕ) → IsKept x g → ⊥

idle_at : (x : Location) (r : ℕ) → 1 ≤ in_hand r x + (in_free r x + in_worn r x) → IsIdle x
idle_at locations.Fixed r some = absurd (omega (arith, some))
idle_at locations.Live r some = absurd (omega (arith, some))
idle_at (locations.Limbo r' y) r some = absurd (omega (arith, some))
idle_at (locations.Hand r') r some = record { free = refl; unkept = λ g h. h }
idle_at (locations.Free r') r some = record { free = refl; unkept = λ g h. h }
idle_at (locations.Worn r') r some = record { free = refl; unkept = λ g h. h }
idle_at (locations.OnBoard i) r some = record { free = refl; unkept = λ g h. h }

free_not_live : (a : Status) → a ≡ Free → a ≡ Live → ⊥
free_not_live a one two = cc

free_not_retired : (a : Status) (y : ℕ) → a ≡ Free → a ≡ Retired y → ⊥
free_not_retired a y one two = cc

same_slot : (fixed t i slot cell : ℕ) → i < 5 → cell < 5 → fixed + 5 * slot + cell ≡ fixed + 5 * t + i → slot ≡ t
same_slot fixed t i slot cell low low' e = omega (arith, low, low', e)

either : (b : Bool) (x : Status) → x ≡ Free → cond b x Free ≡ Free
either true x e = e
either false x e = refl

module _ (m : Meaning) (l : Layout) (rs : List Request) (s : Sight) (history : HasHistory m l rs s) (holds : Holds m s) where
  whole : IsWhole m l history.beside s
  whole = history.whole

  abbrev location : ℕ → Location
  location = history.beside.epochs.location

  nodes : NodesStand m l location s
  nodes = nodes_stand m l history.beside.epochs s whole.slots

  abbrev scene : Scene
  scene = scene_of m (counts_of m l) (states_of history.beside s)

  module _ (entry : ℕ) (entered : (s.part 0).stage ≡ Entered entry) (place : ℕ) (idle : IsIdlePlace m s place) where
    pub node : idle.slot < node_count m l
    node = nodes.within idle.runner idle.slot (let some = idle.idle in omega (arith, some))

    pub out : IsIdle (location idle.slot)
    out = idle_at (location idle.slot) idle.runner
        (let some = idle.idle in let hand = nodes.hand idle.runner idle.slot node in let free = nodes.free idle.runner idle.slot node in
        let worn = nodes.worn idle.runner idle.slot node in omega (arith, some, hand, free, worn))

    pub is_free : scene.status idle.slot ≡ Free
    is_free = either _ (status_at (location idle.slot)) out.free

    reads : IsRead m scene (s.part 0).reads.walk
    reads = whole.kept.lawful.sound.readers 0 (s.part 0).reads.walk
        (ap (λ b. cond b (Some (s.part 0).reads.walk) None) (entered_at m l history.beside.epochs s whole.slots 0 entry entered))

    -- it isn't a cell that is no lock
    pub unread : (i word : ℕ) → slice_get (s.part 0).reads.walk i ≡ Some (place, word) → m.is_lock place ≡ false → ⊥
    unread i word at unlocked = ⊎_elim
        (λ low. let same = idle.is in absurd (omega (arith, low, same)))
        (λ more. ⊎_elim
        (λ lock. let both = sym lock ∙ unlocked in cc)
        (λ slot. safe slot.0 (same_slot m.fixed_cells slot.0 slot.1.0 idle.slot idle.cell slot.1.1 idle.low (sym idle.is ∙ slot.1.2)) slot.2)
        more)
        (reads.outside i place word at)
      where
        safe : (t : ℕ) → idle.slot ≡ t → IsSafe scene t → ⊥
        safe t same is = ⊎_elim
            (λ live. free_not_live (scene.status idle.slot) is_free (ap scene.status same ∙ live))
            (λ retired. free_not_retired (scene.status idle.slot) retired.0 is_free (ap scene.status same ∙ retired.1))
            is

    -- and no walk knows it
    unknown : IsKnown m (s.part 0).reads.walk place → ⊥
    unknown known = ⊎_elim
        (λ low. let same = idle.is in absurd (omega (arith, low, same)))
        (λ slot. at_slot slot.0 (same_slot m.fixed_cells slot.0 slot.1.0 idle.slot idle.cell slot.1.1 idle.low (sym idle.is ∙ slot.1.2)) slot.2)
        known
      where
        at_slot : (t : ℕ) → idle.slot ≡ t → (t < m.fixed_slots) ⊎ (m.reaches (s.part 0).reads.walk t ≡ true) → ⊥
        at_slot t same by = ⊎_elim
            (λ fixed. free_not_live (scene.status idle.slot) is_free (ap scene.status same ∙ whole.kept.lawful.sound.fixed t fixed))
            (λ reach. out.unkept (entry_of (history.beside.epochs.stage 0))
            (subst (λ i. IsKept (location i) (entry_of (history.beside.epochs.stage 0))) (sym same)
            (whole.slots.sound.held 0 t ((whole.slots.tied 0).reached t (entered_at m l history.beside.epochs s whole.slots 0 entry entered)
            (subst (λ i. i < node_count m l) same node) reach))))
            by

  pub readings_stand : ReadingsStand m s
  readings_stand entry i place word entered none at steady = ⊎_elim
      (λ stands. stands)
      (λ idle. absurd (⊎_elim (λ unlocked. unread entry entered place idle i word at unlocked) (λ known. unknown entry entered place idle known) steady))
      (holds.read entry i place word entered none at)
