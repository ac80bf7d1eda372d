-- The machine's state as the component of guards sees it.
use Rattle.std.specs.Prelude.{ℕ, ◌==◌, List, [], ◌∷◌, Option, Some, None, if◌then◌else◌}
use Rattle.machine_states.specs.table_words.specs.declared.layout.Layout.{Layout}
use Rattle.machine_states.specs.table_words.specs.Places.{descriptor_count, worker_blocks, block_count}
use Rattle.agreement_core.specs.State.{AgreementState}
use Rattle.machine_states.specs.structure_laws.specs.Meaning.{Meaning}
use Rattle.machine_states.specs.runner_parts.specs.declared.entries.Waiting.{Waiting}
use Rattle.machine_states.specs.runner_parts.specs.State.{RunState, PartState}
use Rattle.machine_states.specs.runner_parts.specs.Tests.{has}
use Rattle.machine_states.specs.epoch_core.specs.declared.location.Location as places
use Rattle.machine_states.specs.epoch_core.specs.declared.location.Location.TheVariants as epochs
use Rattle.machine_states.specs.epoch_core.specs.State.{EpochState, is_entered}
use Rattle.machine_states.specs.epoch_core.specs.Events.{slot_of}
use Rattle.machine_states.specs.guard_core.specs.State as guards
use Rattle.machine_states.specs.guard_core.specs.State.{Counts, GuardState}
use Rattle.machine_states.specs.Sight.{Sight}
use Rattle.machine_agreement.specs.machine_epochs.specs.Entries.{counts_of}
use Rattle.machine_agreement.specs.machine_epochs.specs.Firsts.{owner_of}

-- how many workers, descriptors and blocks there are
abbrev pub guard_counts : Layout → Counts
guard_counts l = record { runners = l.runners; descriptors = descriptor_count l; blocks = block_count l }

-- where guards have a descriptor that is here. A live one is its owner's, and one in limbo lies there under itself; no
-- descriptor is in a hand, worn, fixed or on the board
abbrev pub place_of : Layout → ℕ → places.Location → guards.Location
place_of l d (epochs.Free r) = guards.Free r
place_of l d (epochs.Limbo r y) = guards.Limbo r d
place_of l d epochs.Live = guards.Live (owner_of l.sections l.runners d)
place_of l d (epochs.Hand r) = guards.Free r
place_of l d (epochs.Worn r) = guards.Free r
place_of l d (epochs.OnBoard i) = guards.Free (owner_of l.sections l.runners d)
place_of l d epochs.Fixed = guards.Free (owner_of l.sections l.runners d)

-- the descriptor that a runner runs
abbrev pub run_of : Option RunState → Option ℕ
run_of None = None
run_of (Some q) = Some q.descriptor

-- the blocks that the run in progress linked itself, and the one in its hand
abbrev pub won_of : Option RunState → List ℕ
won_of None = []
won_of (Some q) = q.won

abbrev pub hand_of : Option RunState → Option ℕ
hand_of None = None
hand_of (Some q) = q.block

-- whose block this is. It stays so, and so where a block is can be read off its owner's part
abbrev pub block_owner : Layout → ℕ → ℕ
block_owner l b = owner_of (worker_blocks l) l.runners b

-- the descriptor under which a block lies in limbo, if it does
abbrev pub under_in : List Waiting → ℕ → Option ℕ
under_in [] b = None
under_in (x ∷ xs) b = if x.block == b then Some x.descriptor else under_in xs b

abbrev pub waits_under : ℕ → Option ℕ → guards.Location
waits_under r None = guards.Free r
waits_under r (Some d) = guards.Limbo r d

-- where a runner with this part has its block: live in its run, in its limbo, or else free or in its hand
abbrev pub block_with : ℕ → PartState → ℕ → guards.Location
block_with r p b = if has (won_of p.run) b then guards.Live r else waits_under r (under_in p.blocks.limbo b)

abbrev pub block_of : Layout → Sight → ℕ → guards.Location
block_of l s b = block_with (block_owner l b) (s.part (block_owner l b)) b

-- the state of guards that belongs to the machine's and to those of agreement and of epochs and slots; `chain` has the
-- blocks that are linked in each descriptor's latest publication
abbrev pub guards_of : Meaning → Layout → (ℕ → List ℕ) → AgreementState → EpochState → Sight → GuardState
guards_of m l chain a e s = record {
  entered = λ r. is_entered (s.part r).stage;
  guard = λ r. (s.part r).guards.named;
  sure = λ r. (s.part r).guards.sure;
  run = λ r. run_of (s.part r).run;
  looked = λ r. (s.part r).guards.looked;
  descriptor = λ d. place_of l d (e.location (slot_of (counts_of m l) d));
  block = block_of l s;
  linked = chain;
  over = a.over;
}
