-- Events of the machine as events of the components, with what these changed and won.
use Rattle.std.specs.Prelude.{◌≡◌, ℕ, Bool, List, [], ◌∷◌, ◌++◌, map, replicate, Some}
use Rattle.machine_states.specs.map_history.specs.declared.op.Request.{Request}
use Rattle.machine_states.specs.table_words.specs.declared.layout.Layout.{Layout}
use Rattle.machine_states.specs.table_words.specs.declared.spot.Spot.{Spot}
use Rattle.machine_states.specs.table_words.specs.declared.spot.Spot.TheVariants.{Cell}
use Rattle.machine_states.specs.table_words.specs.declared.access.Access.{Access}
use Rattle.machine_states.specs.structure_laws.specs.Meaning.{Meaning}
use Rattle.machine_states.specs.runner_parts.specs.declared.event.EventKind.{EventKind}
use Rattle.machine_states.specs.runner_parts.specs.declared.event.Event.{Event}
use Rattle.machine_states.specs.runner_steps.specs.Asks.{asks}
use Rattle.machine_states.specs.epoch_core.specs.State.{EpochState}
use Rattle.machine_states.specs.epoch_core.specs.Events as epoch_events
use Rattle.machine_states.specs.epoch_core.specs.Schedules as epoch_schedules
use Rattle.machine_states.specs.epoch_core.specs.Sound as epoch_sound
use Rattle.machine_states.specs.epoch_core.specs.History as epoch_history
use Rattle.agreement_core.specs.State.{AgreementState}
use Rattle.agreement_core.specs.Events as agreement_events
use Rattle.agreement_core.specs.Schedules as agreement_schedules
use Rattle.agreement_core.specs.Sound as agreement_sound
use Rattle.agreement_core.specs.History as agreement_history
use Rattle.machine_states.specs.World.{World, happens}
use Rattle.machine_states.specs.First.{IsFirst}
use Rattle.machine_states.specs.Sight.{Sight, sight}
use Rattle.machine_blocks.specs.machine_guards.specs.machine_agreement.specs.machine_epochs.specs.Entries.{counts_of}
use Rattle.machine_blocks.specs.machine_guards.specs.machine_agreement.specs.machine_epochs.specs.Firsts.{first_place}
use Rattle.machine_blocks.specs.machine_guards.specs.machine_agreement.specs.machine_epochs.specs.Chunks as slots
use Rattle.machine_blocks.specs.machine_guards.specs.machine_agreement.specs.machine_scenes.specs.Shown.{rules_of}
use Rattle.machine_blocks.specs.machine_guards.specs.machine_agreement.specs.Chunks as sections

-- the components' states, what the exchanges of cells, stamps and replies changed so far, and which commits
-- of Makes and Retires won
pub record Components : Type 0 where
  pub agreement : AgreementState
  pub changes : agreement_history.History
  pub epochs : EpochState
  pub wins : epoch_history.History

-- a runner comes to hold slots
abbrev pub reaches_of : List (ℕ × (ℕ → Bool)) → List epoch_events.Event
reaches_of xs = map (λ x. epoch_events.Reach x.0 x.1) xs

module _ (m : Meaning) (l : Layout) where
  -- at first, where this is the machine's state
  abbrev pub first_components : Sight → Components
  first_components s = record {
    agreement = agreement_schedules.first_state (λ p. s.word (Cell p));
    changes = agreement_history.no_history;
    epochs = epoch_schedules.first_state (first_place m l);
    wins = epoch_history.no_history;
  }

  -- after these events of agreement and these of epochs and slots
  abbrev pub components_after : Components → List agreement_events.Event → List epoch_events.Event → Components
  components_after k es vs = record {
    agreement = agreement_schedules.after_all (rules_of m l) k.agreement es;
    changes = agreement_history.noted_all k.agreement k.changes es;
    epochs = epoch_schedules.after_all (counts_of m l) k.epochs vs;
    wins = epoch_history.noted_all (counts_of m l) k.epochs k.wins vs;
  }

  -- these events of the components, each enabled where it comes, are this runner's step of this kind on a
  -- word: in agreement those of its kind and then a Pass for each check behind them that passes; in epochs
  -- and slots those of its kind, and before them runners may come to hold slots
  pub record AreEventsOf (requests : List Request) (k : Components) (s : Sight) (r : ℕ) (kind : EventKind)
      (es : List agreement_events.Event)
      (vs : List epoch_events.Event) : Type 0 where
    pub ask : Spot × Access
    pub asked : asks m l requests r kind (s.part r) ≡ Some ask
    pub heads : List agreement_events.Event
    pub passes : ℕ
    pub in_sections : sections.IsChunk m l k.agreement r kind (s.part r) (s.part r).run (s.word ask.0) heads
    pub all_heads : es ≡ heads ++ replicate passes (agreement_events.Pass r)
    pub reaches : List (ℕ × (ℕ → Bool))
    pub tails : List epoch_events.Event
    pub in_slots : slots.IsChunk m l r kind (s.part r) (s.part r).run (s.word ask.0) tails
    pub all_tails : vs ≡ reaches_of reaches ++ tails
    pub enabled : agreement_schedules.AllEnabled (rules_of m l) k.agreement es
    pub enabled_slots : epoch_schedules.AllEnabled (counts_of m l) k.epochs vs

  -- from these on the components go along with these events of the machine, which lead to this state
  abbrev pub GoAlong : List Request → World → Components → List Event → World → Components → Type 0
  GoAlong requests w k [] w' k' = (w' ≡ w) × (k' ≡ k)
  GoAlong requests w k (e ∷ events) w' k' = (v : World) × (happens m l requests w e ≡ Some v)
      × (es : List agreement_events.Event) × (vs : List epoch_events.Event)
      × AreEventsOf requests k (sight m l requests w) e.runner e.kind es vs
      × GoAlong requests v (components_after k es vs) events w' k'

  -- the components' states are sound, and their histories say what happened
  pub record AreExact (k : Components) : Type 0 where
    pub agreement : agreement_sound.IsSound (rules_of m l) k.agreement
    pub changes : agreement_history.IsExact k.agreement k.changes
    pub epochs : epoch_sound.IsSound (counts_of m l) k.epochs
    pub wins : epoch_history.IsExact (counts_of m l) k.epochs k.wins

  -- so they are after whatever events of the machine with which they go along
  abbrev pub StayExact : List Request → Type 0
  StayExact requests = (w : World) (k : Components) (events : List Event) (w' : World) (k' : Components)
      → GoAlong requests w k events w' k' → AreExact k → AreExact k'

  -- and at first, where the machine begins
  abbrev pub BeginExact : List Request → Type 0
  BeginExact requests = (w : World) → IsFirst m l requests w → AreExact (first_components (sight m l requests w))
