-- A step of the machine as an event of the component of guards.
use Rattle.std.specs.Prelude.{ℕ, ◌≡◌, List, []}
use Rattle.machine_states.specs.map_history.specs.declared.op.Request.{Request}
use Rattle.machine_states.specs.table_words.specs.declared.layout.Layout.{Layout}
use Rattle.machine_states.specs.table_words.specs.declared.spot.Spot.TheVariants.{Cell}
use Rattle.agreement_core.specs.State.{AgreementState}
use Rattle.agreement_core.specs.Events as agreement
use Rattle.agreement_core.specs.Schedules as agreement_schedules
use Rattle.machine_states.specs.structure_laws.specs.Meaning.{Meaning}
use Rattle.machine_states.specs.runner_parts.specs.declared.event.EventKind.{EventKind}
use Rattle.machine_states.specs.epoch_core.specs.State.{EpochState}
use Rattle.machine_states.specs.epoch_core.specs.Events as epochs
use Rattle.machine_states.specs.epoch_core.specs.Events.{slot_of}
use Rattle.machine_states.specs.epoch_core.specs.Schedules as epoch_schedules
use Rattle.machine_states.specs.guard_core.specs.Events as guards
use Rattle.machine_states.specs.guard_core.specs.Frame.{IsSame}
use Rattle.machine_states.specs.guard_core.specs.Schedules.{AllEnabled, after_all}
use Rattle.machine_states.specs.World.{World}
use Rattle.machine_states.specs.First.{IsFirst}
use Rattle.machine_states.specs.Sight.{Sight, sight, Steps}
use Rattle.machine_agreement.specs.machine_epochs.specs.Entries.{counts_of}
use Rattle.machine_agreement.specs.machine_epochs.specs.Firsts.{first_place}
use Rattle.machine_agreement.specs.machine_epochs.specs.Joined.{IsJoinedToEpochs}
use Rattle.machine_agreement.specs.machine_epochs.specs.Chunks as slots
use Rattle.machine_agreement.specs.Joined.{IsJoinedToAgreement}
use Rattle.machine_agreement.specs.Chunks as sections
use Rattle.machine_agreement.specs.Goes as sections_goes
use Rattle.machine_guards.specs.State.{guard_counts, guards_of}
use Rattle.machine_guards.specs.Stands.{GuardsStand}
use Rattle.machine_guards.specs.Supplied.{GuardsAreSupplied}
use Rattle.machine_guards.specs.Chunks.{chain_after, guard_events}

module _ (m : Meaning) (l : Layout) where
  -- the events of agreement, and of epochs and slots, that this runner's step of this kind is which found this word,
  -- lead from the one states to the others
  pub record OthersGo (a a' : AgreementState) (e e' : EpochState) (s : Sight) (r : ℕ) (kind : EventKind)
      (found : ℕ) : Type 0 where
    pub heads : List agreement.Event
    pub in_sections : sections.IsChunk m l a r kind (s.part r) (s.part r).run found heads
    pub leads : sections_goes.Leads m l r heads a a'
    pub tails : List epochs.Event
    pub in_slots : slots.IsChunk m l r kind (s.part r) (s.part r).run found tails
    pub enabled : epoch_schedules.AllEnabled (counts_of m l) e tails
    pub there : epoch_schedules.after_all (counts_of m l) e tails ≡ e'

  -- these events of guards may come, and lead to what belongs to the machine's state after the step, in which guards
  -- stand again
  pub record Goes (events : List guards.Event) (chain chain' : ℕ → List ℕ) (a a' : AgreementState) (e e' : EpochState)
      (s s' : Sight) : Type 0 where
    pub enabled : AllEnabled (guard_counts l) (guards_of m l chain a e s) events
    pub same : IsSame (after_all (guards_of m l chain a e s) events) (guards_of m l chain' a' e' s')
    pub stands : GuardsStand m l chain' a' e' s'

  -- each step of the machine is the event of guards of its kind, or none, where it is supplied
  abbrev pub StepsAreEvents : List Request → Type 0
  StepsAreEvents requests = (chain : ℕ → List ℕ) (a a' : AgreementState) (e e' : EpochState) (s s' : Sight) (r : ℕ)
      (kind : EventKind) → IsJoinedToAgreement m l a s → IsJoinedToEpochs m l e s
      → GuardsStand m l chain a e s → (step : Steps m l requests s s' r kind)
      → GuardsAreSupplied m l chain a e s r kind (s.word (step.ask.0))
      → OthersGo a a' e e' s r kind (s.word (step.ask.0))
      → Goes (guard_events m l r kind (s.part r) (s.part r).run (s.word (step.ask.0))) chain
      (chain_after chain kind (s.part r) (s.word (step.ask.0))) a a' e e' s s'

  -- in the first state nobody guards anything, each descriptor and each block is free, and no block is linked
  abbrev pub StartsStanding : List Request → Type 0
  StartsStanding requests = (w : World) → IsFirst m l requests w → GuardsStand m l (λ d. [])
      (agreement_schedules.first_state (λ p. (sight m l requests w).word (Cell p)))
      (epoch_schedules.first_state (first_place m l)) (sight m l requests w)

  -- of the other components only the places of descriptors count, and which sections a run of theirs brought to an end
  abbrev pub StandsByPlaces : Type 0
  StandsByPlaces = (chain : ℕ → List ℕ) (a a' : AgreementState) (e e' : EpochState) (s : Sight)
      → ((d : ℕ) → a'.over d ≡ a.over d)
      → ((d : ℕ) → e'.location (slot_of (counts_of m l) d) ≡ e.location (slot_of (counts_of m l) d))
      → GuardsStand m l chain a e s → GuardsStand m l chain a' e' s
