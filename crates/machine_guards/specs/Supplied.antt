-- What guards need of the other components, step by step.
use Rattle.std.specs.Prelude.{ℕ, suc, ◌<◌, ◌≡◌, true, false, List, length, Some}
use Rattle.machine_states.specs.body_terms.specs.Word.{value_of}
use Rattle.machine_states.specs.table_words.specs.declared.layout.Layout.{Layout}
use Rattle.agreement_core.specs.State.{AgreementState}
use Rattle.machine_states.specs.structure_laws.specs.Meaning.{Meaning}
use Rattle.machine_states.specs.runner_parts.specs.declared.event.EventKind.{EventKind}
use Rattle.machine_states.specs.runner_parts.specs.declared.event.EventKind.TheVariants as kinds
use Rattle.machine_states.specs.runner_parts.specs.declared.entries.Published.{Published}
use Rattle.machine_states.specs.runner_parts.specs.State.{RunState}
use Rattle.machine_states.specs.epoch_core.specs.declared.location.Location.TheVariants.{Live}
use Rattle.machine_states.specs.epoch_core.specs.State.{EpochState}
use Rattle.machine_states.specs.epoch_core.specs.Events.{slot_of}
use Rattle.machine_states.specs.guard_core.specs.State.{most_linked}
use Rattle.machine_states.specs.Sight.{Sight}
use Rattle.machine_agreement.specs.machine_epochs.specs.Entries.{counts_of}

-- what is needed for this runner's event of this kind that found this word
pub record GuardsAreSupplied (m : Meaning) (l : Layout) (chain : ℕ → List ℕ) (a : AgreementState) (e : EpochState)
    (s : Sight) (r : ℕ) (kind : EventKind) (found : ℕ) : Type 0 where
  -- a live descriptor was published by somebody who hasn't run its section to its end
  pub published : (d : ℕ) → e.location (slot_of (counts_of m l) d) ≡ Live
      → (q : ℕ) × (x : Published) × ((s.part q).published ≡ Some x) × (x.descriptor ≡ d)
  -- a descriptor that a lock names is live, and no run of its section came to its end
  pub live : (place d : ℕ) → kind ≡ kinds.LoadCell (Some place) → m.is_lock place ≡ true → value_of found ≡ suc d
      → e.location (slot_of (counts_of m l) d) ≡ Live
  pub unended : (place d : ℕ) → kind ≡ kinds.LoadCell (Some place) → m.is_lock place ≡ true → value_of found ≡ suc d
      → a.over d ≡ false
  -- a link that is won has fewer than eight before it
  pub few : (b : ℕ) (q : RunState) → kind ≡ kinds.LinkCommit b → (s.part r).run ≡ Some q → found ≡ 0
      → length (chain q.descriptor) < most_linked
