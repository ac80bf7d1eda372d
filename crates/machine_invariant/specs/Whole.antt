-- The machine's state beside states of agreement and of epochs and slots, all joined.
use Rattle.std.specs.Prelude.{ℕ, ◌<◌, ◌≡◌, true, Option, Some, None, slice_get}
use Rattle.machine_states.specs.map_history.specs.declared.op.Request.{Request}
use Rattle.machine_states.specs.body_terms.specs.declared.thunk.Thunk.{Thunk}
use Rattle.machine_states.specs.table_words.specs.declared.layout.Layout.{Layout}
use Rattle.machine_states.specs.structure_laws.specs.Meaning.{Meaning}
use Rattle.machine_states.specs.runner_parts.specs.declared.entries.Published.{Published}
use Rattle.machine_states.specs.runner_parts.specs.State.{RunState, PartState}
use Rattle.agreement_core.specs.State.{AgreementState}
use Rattle.machine_states.specs.epoch_core.specs.declared.location.Location.TheVariants.{Live}
use Rattle.machine_states.specs.epoch_core.specs.State.{EpochState}
use Rattle.machine_states.specs.epoch_core.specs.Events.{slot_of}
use Rattle.machine_states.specs.epoch_core.specs.History.{is_out}
use Rattle.machine_states.specs.Sight.{Sight}
use Rattle.machine_blocks.specs.machine_guards.specs.machine_agreement.specs.machine_epochs.specs.Entries.{counts_of}
use Rattle.machine_blocks.specs.machine_guards.specs.machine_agreement.specs.machine_epochs.specs.Slots.{thunk_in}
use Rattle.machine_blocks.specs.machine_guards.specs.machine_agreement.specs.machine_epochs.specs.Joined as joins
use Rattle.machine_blocks.specs.machine_guards.specs.machine_agreement.specs.machine_scenes.specs.Shown.{Publications, States}
use Rattle.machine_blocks.specs.machine_guards.specs.machine_agreement.specs.machine_scenes.specs.Kept.{IsKept}
use Rattle.machine_blocks.specs.machine_guards.specs.machine_agreement.specs.Joined as sections
use Rattle.machine_slots.specs.Hands.{Made, LocksAreHeld, SlotsAreFilled}
use Rattle.machine_blocks.specs.Stands.{LogsHold}

-- what stands beside the machine's state: the components' states, and what was published
pub record Beside : Type 0 where
  pub agreement : AgreementState
  pub epochs : EpochState
  pub publications : Publications

-- these, with what the runners have read outside their runs
abbrev pub states_of : Beside → Sight → States
states_of g s =
    record {
      agreement = g.agreement;
      epochs = g.epochs;
      publications = g.publications;
      walk = λ r. (s.part r).reads.walk;
    }

-- the slot that a run's Make fills
abbrev pub made_in : Option RunState → Option ℕ
made_in None = None
made_in (Some q) = q.made

-- by runner
abbrev pub made_of : Sight → Made
made_of s r = made_in (s.part r).run

module _ (m : Meaning) (l : Layout) where
  -- the runner has published the section of this thunk that this descriptor has, and hasn't retired it
  abbrev pub HasPublished : PartState → ℕ → Thunk → Type 0
  HasPublished p d t = (x : Published) × (p.published ≡ Some x) × (x.descriptor ≡ d) × (x.thunk ≡ t)

  -- what the components say of descriptors belongs together
  pub record AreTied (g : Beside) (s : Sight) : Type 0 where
    -- a descriptor is used where it was given out, and its section isn't retired where it is live; all
    -- these are the table's
    pub used : (d : ℕ) → g.agreement.used d ≡ is_out (g.epochs.location (slot_of (counts_of m l) d))
    pub live : (d : ℕ) → g.agreement.live d ≡ true → g.epochs.location (slot_of (counts_of m l) d) ≡ Live
    pub is_live : (d : ℕ) → g.epochs.location (slot_of (counts_of m l) d) ≡ Live → g.agreement.live d ≡ true
    pub within : (d : ℕ) → g.agreement.used d ≡ true → d < (counts_of m l).descriptors
    -- a section that isn't retired is its publisher's
    pub publisher : (d : ℕ) → g.agreement.live d ≡ true
        → HasPublished (s.part (g.publications.runner d)) d (g.publications.thunk d)
    -- the thunk of a used descriptor stands in its words
    pub thunk : (d : ℕ) → g.agreement.used d ≡ true → g.publications.thunk d ≡ thunk_in s.word d
    -- its request is one of the requests, of the published operation
    pub op : (d : ℕ) → g.agreement.used d ≡ true
        → (q : Request) × (slice_get g.publications.requests (g.publications.thunk d).request ≡ Some q)
        × (q.op ≡ g.publications.op d)

  -- the machine's whole invariant
  pub record IsWhole (g : Beside) (s : Sight) : Type 0 where
    -- the components' states belong to the machine's
    pub sections : sections.IsJoinedToAgreement m l g.agreement s
    pub slots : joins.IsJoinedToEpochs m l g.epochs s
    -- they belong together, and show a lawful scene
    pub tied : AreTied g s
    pub kept : IsKept m l (counts_of m l) (states_of g s)
    -- who holds the slots of locks, and what stands in the slots that Makes fill
    pub held : LocksAreHeld m (counts_of m l) (states_of g s)
    pub filled : SlotsAreFilled m (counts_of m l) (states_of g s) (made_of s)
    -- a descriptor of which a runner is sure is given out to nobody; where the words of the sections' logs stand
    pub logs : LogsHold m l g.agreement g.epochs s
