-- The machine's state and the component's state of epochs and slots, joined.
use Rattle.std.specs.Prelude.{ℕ, ◌<◌, ◌≡◌, true, length, slice_index, None, Some}
use Rattle.machine_states.specs.table_words.specs.declared.layout.Layout.{Layout}
use Rattle.machine_states.specs.table_words.specs.declared.spot.Spot.{Spot}
use Rattle.machine_states.specs.table_words.specs.declared.spot.Spot.TheVariants.{ThunkWord}
use Rattle.machine_states.specs.structure_laws.specs.Meaning.{Meaning}
use Rattle.machine_states.specs.runner_parts.specs.declared.entries.Published.{Published}
use Rattle.machine_states.specs.runner_parts.specs.State.{RunState, PartState}
use Rattle.machine_states.specs.runner_parts.specs.Tests.{has, last_stored}
use Rattle.machine_states.specs.runner_steps.specs.Outside.{descriptor_spot, is_sure_of}
use Rattle.machine_states.specs.epoch_core.specs.declared.location.Location.TheVariants.{Live, Hand}
use Rattle.machine_states.specs.epoch_core.specs.State.{EpochState, is_entered}
use Rattle.machine_states.specs.epoch_core.specs.Events.{slot_of}
use Rattle.machine_states.specs.epoch_core.specs.Sound.{IsSound}
use Rattle.machine_states.specs.epoch_core.specs.History.{is_out}
use Rattle.machine_states.specs.epoch_core.specs.Lists.{IsListed}
use Rattle.machine_states.specs.Sight.{Sight}
use Rattle.machine_epochs.specs.Entries.{counts_of}
use Rattle.machine_epochs.specs.Roles.{role_at}
use Rattle.machine_epochs.specs.Slots.{lists_of, retiring_of, thunk_in, ShowsEntries, ShowsBoard}

module _ (m : Meaning) (l : Layout) where
  -- what a runner's part has to do with the component's state, where these are the table's words
  pub record IsTied (w : EpochState) (word : Spot → ℕ) (r : ℕ) (p : PartState) : Type 0 where
    -- who is in a run holds its descriptor, and the thunk words that it has loaded stand there
    pub run_held : (q : RunState) → p.run ≡ Some q → w.holds r (slot_of (counts_of m l) q.descriptor) ≡ true
    pub run_opened : (q : RunState) (j : ℕ) → p.run ≡ Some q → j < length q.opened → j < 12
        → slice_index q.opened j ≡ word (ThunkWord q.descriptor j)
    -- a run stands at the start of its line until all its words are loaded
    pub run_begins : (q : RunState) → p.run ≡ Some q → length q.opened < 13 → q.at ≡ 0
    -- the slot that a Make fills is in the runner's hand
    pub run_made : (q : RunState) (t : ℕ) → p.run ≡ Some q → q.made ≡ Some t → w.location t ≡ Hand r
    -- the Retire at which it is
    pub retire : w.retire r ≡ retiring_of m p.run
    -- the published descriptor is live
    pub published : (x : Published) → p.published ≡ Some x → w.location (slot_of (counts_of m l) x.descriptor) ≡ Live
    -- who runs a section is sure of its descriptor, and so is who has published one
    pub run_sure : (q : RunState) → p.run ≡ Some q → is_sure_of p.guards q.descriptor ≡ true
    pub published_sure : (x : Published) → p.published ≡ Some x → is_sure_of p.guards x.descriptor ≡ true
    -- a guard word names a descriptor that the table has
    pub numbered : (d : ℕ) → p.guards.named ≡ Some d → d < (counts_of m l).descriptors
    -- a runner holds the descriptor of which it is sure, and no other one; an entered runner holds the slots that its
    -- readings reach
    pub sure : (d : ℕ) → is_sure_of p.guards d ≡ true → w.holds r (slot_of (counts_of m l) d) ≡ true
    pub sure_alone : (d : ℕ) → w.holds r (slot_of (counts_of m l) d) ≡ true → is_sure_of p.guards d ≡ true
    pub reached : (t : ℕ) → is_entered (w.stage r) ≡ true → t < (counts_of m l).nodes
        → m.reaches p.reads.walk t ≡ true → w.holds r t ≡ true
    -- what was last stored into a word of a free descriptor stands there, and nothing was stored into others
    pub stored_free : (d j n : ℕ) → last_stored p.descriptors.stored d j None ≡ Some n → has p.descriptors.free d ≡ true
    pub stored : (d j n : ℕ) → has p.descriptors.free d ≡ true
        → last_stored p.descriptors.stored d j None ≡ Some n → word (descriptor_spot d j) ≡ n

  -- the component's state belongs to the machine's: it meets its invariant, and has the machine's epochs,
  -- lists and sections
  pub record IsJoinedToEpochs (w : EpochState) (s : Sight) : Type 0 where
    pub sound : IsSound (counts_of m l) w
    pub listed : IsListed (counts_of m l) w (λ r. lists_of (s.part r))
    pub entries : ShowsEntries w s
    pub board : ShowsBoard w s
    -- a descriptor that isn't free again commits what its thunk's body does
    pub roles : (d k : ℕ) → is_out (w.location (slot_of (counts_of m l) d)) ≡ true
        → w.role d k ≡ role_at (m.body (thunk_in s.word d)) k
    -- no two runners have published the same descriptor
    pub published_once : (r r' : ℕ) (x x' : Published) → (s.part r).published ≡ Some x → (s.part r').published ≡ Some x'
        → x.descriptor ≡ x'.descriptor → r ≡ r'
    pub tied : (r : ℕ) → IsTied w s.word r (s.part r)
