-- When a run can't end for want of slots or of versions, and which requests are served then.
use Rattle.std.specs.Prelude.{◌≡◌, ◌≢◌, ◌⊎◌, ◌%◌, ℕ, ◌<◌, Bool, false, List, length, slice_get, Some}
use Rattle.machine_states.specs.map_history.specs.declared.op.Request.{Request}
use Rattle.machine_states.specs.table_words.specs.declared.spot.Spot.TheVariants.{Stamp}
use Rattle.machine_states.specs.structure_laws.specs.Meaning.{Meaning}
use Rattle.threaded_runs.specs.free_serving.specs.serving.specs.declared.answers.Served.{Served}
use Rattle.threaded_runs.specs.free_serving.specs.serving.specs.declared.answers.Served.TheVariants.{Halted}
use Rattle.threaded_runs.specs.Room.{HasEnoughSlots, HasEnoughVersions, HasRoomForAll}
use Rattle.version_words.specs.TableState.{WordsState, word_of}

module _ {T : Type 0} (m : Meaning) (w : WordsState T) where
  -- each request has an entry
  abbrev pub IsAnswered : Type 0
  IsAnswered = (number : ℕ) → number < length w.requests → word_of m w (Stamp number) ≢ 0

  -- a run that waits out a want of slots doesn't end for one where it had enough of them, and none ends for want of
  -- versions of which it left enough
  pub record Completes (waits : Bool) (number : ℕ) : Type 0 where
    pub slots : waits ≢ false → HasEnoughSlots m w → number ≢ 5
    pub versions : HasEnoughVersions m w → number ≢ 6

  -- a request without an entry is one of a runner that a gate halted
  abbrev pub OthersAreServed : List Served → Type 0
  OthersAreServed answers = (number : ℕ) (q : Request) → slice_get w.requests number ≡ Some q
      → word_of m w (Stamp number) ≡ 0 → slice_get answers (q.trace % w.layout.runners) ≡ Some Halted

  -- whoever stops, the others are served, where there is room for all: then the status says that all were served, that
  -- a runner was halted, or that the sink failed
  pub record SparesOthers (answers : List Served) (number : ℕ) : Type 0 where
    pub statuses : HasRoomForAll m w → (number ≡ 0) ⊎ (number ≡ 1) ⊎ (number ≡ 9)
    pub served : HasRoomForAll m w → OthersAreServed answers
