-- What the keeper leaves once it has settled a table.
use Rattle.std.specs.Prelude.{◌≡◌, ◌≢◌, ℕ, ◌+◌, ◌*◌, ◌<◌, ◌≤◌, ◌++◌, true, List, length, slice_get, Some}
use Rattle.machine_states.specs.body_terms.specs.Word.{value_of}
use Rattle.machine_states.specs.table_words.specs.declared.spot.Spot.TheVariants.{Cell, Stamp, Reply}
use Rattle.machine_states.specs.table_words.specs.Places.{keeper_blocks}
use Rattle.machine_states.specs.structure_laws.specs.Scene.{Readings}
use Rattle.machine_states.specs.structure_laws.specs.Meaning.{Meaning}
use Rattle.machine_states.specs.runner_parts.specs.Tests.{has}
use Rattle.machine_states.specs.World.{World, seat_of}
use Rattle.machine_states.specs.Reached.{Reached}
use Rattle.machine_states.specs.Sight.{Sight, sight}
use Rattle.keeper_facts.specs.Freed.{IsFreed}
use Rattle.try_lock.specs.commit_log.specs.version_words.specs.RunnerState.{RunnerState}
use Rattle.try_lock.specs.commit_log.specs.version_words.specs.TableState.{TableState, HasJoinedAll}
use Rattle.try_lock.specs.epoch_slots.specs.Collects.{IsTidy}
use Rattle.try_lock.specs.section_runs.specs.Reached.{IsReached}

-- the one list is the other's front
pub record IsFront {A : Type 0} (front whole : List A) : Type 0 where
  pub back : List A
  pub parts : whole ≡ front ++ back

module _ {T : Type 0} where
  -- the keeper has joined all workers, is idle, and has all its own node slots free: two for each worker and two more;
  -- and all its own blocks
  pub record MaySettle (t : TableState T) (r : RunnerState T) : Type 0 where
    pub joined : HasJoinedAll t r
    pub told : (worker : ℕ) → worker < t.layout.runners → has r.part.records.joined worker ≡ true
    pub tidy : IsTidy r
    pub free : length r.part.nodes.free ≡ 2 * t.layout.runners + 2
    pub blocks : length r.part.blocks.free ≡ keeper_blocks t.layout

module _ (m : Meaning) where
  -- each place in these readings is a lock
  abbrev pub LoadsLocks : Readings → Type 0
  LoadsLocks readings = (i place word : ℕ) → slice_get readings i ≡ Some (place, word) → m.is_lock place ≡ true

  -- no lock names a section, and each request that has a stamp has its reply
  pub record IsSettled (s : Sight) : Type 0 where
    pub free : (place : ℕ) → m.is_lock place ≡ true → value_of (s.word (Cell place)) ≡ 0
    pub replied : (n : ℕ) → s.word (Stamp n) ≢ 0 → s.word (Reply n) ≢ 0

  module _ {T : Type 0} where
    -- so it is in each state that the machine reaches in which the keeper has this part: whatever it doesn't know of it
    abbrev pub IsSettledFor : RunnerState T → Type 0
    IsSettledFor r = (w : World) → Reached m r.layout r.requests w
        → slice_get w.parts (seat_of r.layout r.number) ≡ Some r.part → IsSettled (sight m r.layout r.requests w)

    -- the table is settled, as what the keeper keeps says; the keeper is idle, keeps whom it has joined and their
    -- parts, and knows what it knew
    pub record Settles (old new : RunnerState T) : Type 0 where
      pub settled : IsSettledFor new
      pub reached : IsReached m new
      pub tidy : IsTidy new
      pub number : new.number ≡ old.number
      pub joined : new.joined ≡ old.joined
      pub told : new.part.records.joined ≡ old.part.records.joined
      -- it joined nobody, so whether its steps may have crossed a worker's is as it was
      pub crosses : new.part.records.crosses ≡ old.part.records.crosses
      pub known : IsFront old.part.records.known new.part.records.known
      -- outside its runs it loaded no cell but locks
      pub loaded : LoadsLocks new.part.reads.walk
      -- it brought at most as many runs to their end as there are workers
      pub few : length new.part.records.finished ≤ length old.part.records.finished + old.layout.runners
      -- where it freed no section, it ran none, and its node slots are where they were
      pub quiet : ((d : ℕ) → IsFreed m new.part.records.left d → ⊥) → (new.part.nodes ≡ old.part.nodes)
          × (length new.part.records.finished ≡ length old.part.records.finished)
