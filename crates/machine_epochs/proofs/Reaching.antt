-- What a runner holds it may hold; and most events leave the descriptors where they are.
use Rattle.std.specs.Prelude.{Bool, true, false}
use Rattle.std.proofs.Common.{◌≡◌, ◌≢◌, ℕ, ◌+◌, ◌<◌, refl, ap, ◌∙◌, arith}
use Rattle.std.proofs.lemmas.Bool.Decides.{nat_tests}
use Rattle.machine_states.specs.epoch_core.specs.declared.location.Location.{Location}
use Rattle.machine_states.specs.epoch_core.specs.Update.{upd}
use Rattle.machine_states.specs.epoch_core.specs.State.{Counts, EpochState, MayHold}
use Rattle.machine_states.specs.epoch_core.specs.Events.{Event, after, Enabled, slot_of}
use Rattle.machine_states.specs.epoch_core.specs.Events as events
use Rattle.machine_states.specs.epoch_core.specs.Sound.{IsSound, is_for_nodes}
use Rattle.machine_states.specs.epoch_core.proofs.Collecting.{descriptor_kept}

-- what a runner holds it may hold
pub may_hold : (c : Counts) (w : EpochState) → IsSound c w → (r t : ℕ) → (w.holds r t ≡ false → MayHold w r t) → MayHold w r t
may_hold c w sound r t may = by_test (w.holds r t) refl
  where
    by_test : (b : Bool) → w.holds r t ≡ b → MayHold w r t
    by_test false out = may out
    by_test true had = record { kept = sound.held r t had; retires = λ r' pending same. sound.retire_holders r' r pending (ap (λ u. w.holds r u) same ∙ had) }

-- an event that leaves every descriptor where it is
abbrev pub leaves_descriptors : Event → Bool
leaves_descriptors (events.Publish r d roles) = false
leaves_descriptors (events.RetireDescriptor r d) = false
leaves_descriptors (events.Sweep r descriptors) = false
leaves_descriptors _ = true

module _ (c : Counts) (w : EpochState) where
  -- a node slot's place is no descriptor's
  node_place : (t : ℕ) (p : Location) → t < c.nodes → (d : ℕ) → upd w.location t p (slot_of c d) ≡ w.location (slot_of c d)
  node_place t p low d = other_place w.location (slot_of c d) t p (λ e. absurd (omega arith))
    where
      other_place : (f : ℕ → Location) (i t : ℕ) (p : Location) → i ≢ t → upd f t p i ≡ f i
      other_place f i t p ne = grind (arith, nat_tests)

  pub descriptors_stay : (v : Event) → Enabled c w v → IsSound c w → leaves_descriptors v ≡ true → (d : ℕ) → (after c w v).location (slot_of c d) ≡ w.location (slot_of c d)
  descriptors_stay (events.Publish r d' roles) ok sound e d = absurd (let x = e in cc)
  descriptors_stay (events.RetireDescriptor r d') ok sound e d = absurd (let x = e in cc)
  descriptors_stay (events.Sweep r descriptors) ok sound e d = absurd (let x = e in cc)
  descriptors_stay (events.ScanLast r epoch next clear) ok sound e d = descriptor_kept c w.location r epoch d
  descriptors_stay (events.Advance r epoch next) ok sound e d = descriptor_kept c w.location r (epoch + 1) d
  descriptors_stay (events.Test r t worn) ok sound e d = node_place t _ (sound.for_nodes t (ap is_for_nodes ok)) d
  descriptors_stay (events.TakeSlot r t) ok sound e d = node_place t _ ok.1 d
  descriptors_stay (events.GiveBoard r t i) ok sound e d = node_place t _ ok.1 d
  descriptors_stay (events.TakeBoard r t i) ok sound e d = node_place t _ (sound.for_nodes t (ap is_for_nodes ok)) d
  descriptors_stay (events.MakeCommit r d' k t worn) ok sound e d = node_place t _ (sound.for_nodes t (ap is_for_nodes ok.2)) d
  descriptors_stay (events.RetireCommit r) ok sound e d = node_place ((w.retire r).slot) _ (sound.retire_node r ok) d
  descriptors_stay _ ok sound e d = refl
