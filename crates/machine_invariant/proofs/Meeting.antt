-- Before a runner reads a cell outside a run, it comes to hold what it meets there.
use Rattle.std.specs.Prelude.{◌&&◌, Bool, true, false, nat_lt, All}
use Rattle.std.proofs.Common.{◌≡◌, ℕ, ◌+◌, ◌≤◌, List, [], ◌∷◌, length, refl, sym, subst, arith, Some}
use Rattle.std.proofs.lemmas.Bool.Decides.{nat_tests}
use Rattle.machine_states.specs.map_history.specs.declared.op.Request.{Request}
use Rattle.machine_states.specs.table_words.specs.declared.layout.Layout.{Layout}
use Rattle.machine_states.specs.table_words.specs.declared.spot.Spot.{Spot}
use Rattle.machine_states.specs.table_words.specs.declared.access.Access.{Access}
use Rattle.machine_states.specs.table_words.specs.Limits.{IsWithinLimits}
use Rattle.machine_states.specs.structure_laws.specs.Meaning.{Meaning}
use Rattle.machine_states.specs.structure_laws.specs.Laws.{Laws}
use Rattle.machine_states.specs.structure_laws.specs.Sections.{IsAllowed}
use Rattle.machine_states.specs.runner_parts.specs.declared.event.EventKind.{EventKind}
use Rattle.machine_states.specs.runner_parts.specs.declared.event.EventKind.TheVariants as kinds
use Rattle.machine_states.specs.runner_steps.specs.Asks.{asks}
use Rattle.machine_states.specs.epoch_core.specs.State.{Counts}
use Rattle.machine_states.specs.epoch_core.specs.Events.{Event, Reach, slot_of}
use Rattle.machine_states.specs.epoch_core.specs.Schedules.{AllEnabled, after_all}
use Rattle.machine_states.specs.Sight.{Sight}
use Rattle.machine_blocks.specs.machine_guards.specs.machine_agreement.specs.machine_epochs.specs.Entries.{counts_of}
use Rattle.machine_blocks.specs.machine_guards.specs.machine_agreement.specs.machine_scenes.specs.Steps.{MeetsBy}
use Rattle.machine_invariant.specs.Whole.{Beside, states_of, IsWhole}
use Rattle.machine_invariant.proofs.Reaching.{now_held, whole_reached}
use Rattle.machine_invariant.proofs.SuppliesSlots.{slots_met, by_met, HoldsMet, meets_reach}

-- the event before a step of this kind, where the cells have these words
abbrev pub meets_first : Meaning → Counts → (ℕ → ℕ) → ℕ → EventKind → List Event
meets_first m c cells r (kinds.LoadCell (Some place)) = Reach r (slots_met m c cells place) ∷ []
meets_first m c cells r _ = []

-- the states after it
abbrev pub having_met : Meaning → Layout → Beside → ℕ → EventKind → Beside
having_met m l g r kind = record g
    { epochs = after_all (counts_of m l) g.epochs (meets_first m (counts_of m l) g.agreement.shared.cells r kind) }

-- it is enabled and keeps the whole, and the runner holds what its event meets
pub record HasMet (m : Meaning) (l : Layout) (g : Beside) (s : Sight) (r : ℕ) (kind : EventKind) : Type 0 where
  pub enabled : AllEnabled (counts_of m l) g.epochs (meets_first m (counts_of m l) g.agreement.shared.cells r kind)
  pub whole : IsWhole m l (having_met m l g r kind) s
  pub holds : HoldsMet m l (having_met m l g r kind) s r kind

-- what is met are node slots
met_apart : (m : Meaning) (c : Counts) (cells : ℕ → ℕ) (place d : ℕ) → slots_met m c cells place (slot_of c d) ≡ false
met_apart m c cells place d = alone _ _ (above c.nodes d)
  where
    alone : (a b : Bool) → a ≡ false → (a && b) ≡ false
    alone false b e = refl
    alone true b e = absurd (let y = e in cc)

    above : (n d : ℕ) → nat_lt (n + d) n ≡ false
    above n d = grind (arith, nat_tests)

same_place : {p p' : ℕ} → kinds.LoadCell (Some p) ≡ kinds.LoadCell (Some p') → p ≡ p'
same_place e = cc

module _ (m : Meaning) (laws : Laws m) (l : Layout) (limits : IsWithinLimits l) (rs : List Request) (few : length rs ≤ 131072)
    (allowed : All (λ (q : Request). IsAllowed q.op) rs) (g : Beside) (s : Sight) (whole : IsWhole m l g s) (r : ℕ)
    (x : Spot × Access) where
  pub has_met : (kind : EventKind) → asks m l rs r kind (s.part r) ≡ Some x → HasMet m l g s r kind
  has_met (kinds.LoadCell (Some place)) asked =
      let slots = slots_met m (counts_of m l) g.agreement.shared.cells place in
      let ok = meets_reach m laws l limits rs few allowed g s whole r (kinds.LoadCell (Some place)) x asked place refl in
      record {
        enabled = (ok, tt);
        whole = whole_reached m laws l limits g s r slots (met_apart m (counts_of m l) g.agreement.shared.cells place) whole ok;
        holds = λ place' t is low by. now_held g.epochs.holds slots r t (by_met m l (counts_of m l) (states_of g s) place t low
            (subst (λ n. MeetsBy m l (counts_of m l) (states_of g s) n t) (sym (same_place is)) by));
      }
  has_met _ asked = record { enabled = tt; whole = whole; holds = λ place t is low by. absurd (let y = is in cc) }
