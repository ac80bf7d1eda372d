-- What the component of epochs and slots sees of slots, lists and sections.
use Rattle.std.specs.Prelude.{ℕ, suc, ◌≡◌, true, [], ◌∷◌, map, Option, Some, None}
use Rattle.machine_states.specs.body_terms.specs.declared.micro.Micro.{Micro}
use Rattle.machine_states.specs.body_terms.specs.declared.micro.Micro.TheVariants.{RetireCommit}
use Rattle.machine_states.specs.body_terms.specs.declared.thunk.Thunk.{Thunk}
use Rattle.machine_states.specs.body_terms.specs.Line.{micro_at}
use Rattle.machine_states.specs.table_words.specs.declared.spot.Spot.{Spot}
use Rattle.machine_states.specs.table_words.specs.declared.spot.Spot.TheVariants.{Epoch, Announcement, ThunkWord, Board}
use Rattle.machine_states.specs.structure_laws.specs.Meaning.{Meaning}
use Rattle.machine_states.specs.runner_parts.specs.declared.entries.Retired.{Retired}
use Rattle.machine_states.specs.runner_parts.specs.State.{RunState, PartState}
use Rattle.machine_states.specs.runner_steps.specs.Sections.{thunk_of, line_of}
use Rattle.machine_states.specs.epoch_core.specs.declared.location.Location.TheVariants.{OnBoard}
use Rattle.machine_states.specs.epoch_core.specs.State.{EpochState, Retiring, no_retire}
use Rattle.machine_states.specs.epoch_core.specs.Lists.{Entry, Lists}
use Rattle.machine_states.specs.Sight.{Sight}

-- a slot in limbo, as the component names it
abbrev pub entry_of : Retired → Entry
entry_of x = record { slot = x.slot; epoch = x.epoch }

-- a runner's lists
abbrev pub lists_of : PartState → Lists
lists_of p = record {
  hand = p.nodes.hand;
  free = p.nodes.free;
  worn = p.nodes.worn;
  limbo = map entry_of p.nodes.limbo;
  free_descriptors = p.descriptors.free;
  limbo_descriptors = p.descriptors.limbo;
}

-- the Retire for which a run that stands before this step has loaded an epoch
abbrev pub retire_before : RunState → Micro → Retiring
retire_before q (RetireCommit slot log) =
    record { loaded = true; descriptor = q.descriptor; index = log; slot = slot; epoch = q.word }
retire_before q _ = no_retire

-- the Retire at which a runner is
abbrev pub retiring_of : Meaning → Option RunState → Retiring
retiring_of m None = no_retire
retiring_of m (Some q) = retire_before q (micro_at (line_of m q) q.at)

-- the thunk in a descriptor's words
abbrev pub thunk_in : (Spot → ℕ) → ℕ → Thunk
thunk_in word d = let w : ℕ → ℕ = λ j. word (ThunkWord d j) in
    thunk_of (w 0 ∷ w 1 ∷ w 2 ∷ w 3 ∷ w 4 ∷ w 5 ∷ w 6 ∷ w 7 ∷ w 8 ∷ w 9 ∷ w 10 ∷ w 11 ∷ [])

-- the component's state has the machine's epoch, announcements and stages
pub record ShowsEntries (w : EpochState) (s : Sight) : Type 0 where
  pub epoch : w.epoch ≡ s.word Epoch
  pub announced : (r : ℕ) → w.announced r ≡ s.word (Announcement r)
  pub stage : (r : ℕ) → w.stage r ≡ (s.part r).stage

-- a word of the board names a slot exactly where the component has that slot there
pub record ShowsBoard (w : EpochState) (s : Sight) : Type 0 where
  pub word : (t i : ℕ) → w.location t ≡ OnBoard i → s.word (Board i) ≡ suc t
  pub slot : (i t : ℕ) → s.word (Board i) ≡ suc t → w.location t ≡ OnBoard i
