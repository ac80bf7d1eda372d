-- What a run leaves where there is one worker.
use Rattle.std.specs.Prelude.{◌≡◌, ◌≢◌, ℕ, ◌+◌, ◌*◌, ◌%◌, ◌≤◌, Bool, true, List, length, Some, slice_get}
use Rattle.machine_states.specs.map_history.specs.declared.op.Op.TheVariants.{Get}
use Rattle.machine_states.specs.map_history.specs.declared.op.Request.{Request}
use Rattle.map_sizes.specs.Sizes.{peak}
use Rattle.machine_states.specs.body_terms.specs.Word.{version_of}
use Rattle.machine_states.specs.table_words.specs.declared.spot.Spot.TheVariants.{Cell}
use Rattle.machine_states.specs.structure_laws.specs.Meaning.{Meaning}
use Rattle.version_words.specs.TableState.{WordsState, word_of}
use Rattle.settled_tables.specs.settling.specs.epoch_slots.specs.declared.reserves.Kind.TheVariants as kinds
use Rattle.settled_tables.specs.settling.specs.epoch_slots.specs.declared.reserves.Short.{Short}
use Rattle.free_serving.specs.serving.specs.declared.answers.Served.{Served}
use Rattle.free_serving.specs.serving.specs.declared.answers.Served.TheVariants as answers
use Rattle.threaded_runs.specs.Runs.{stamp_of}

module _ {T : Type 0} (m : Meaning) (per_pair : ℕ) (w : WordsState T) where
  -- what the one worker leaves with this answer
  pub record AreServedAlone (given : List Served) : Type 0 where
    -- each request was run once at most, and one of them once more; each run raised a cell's version by four at most
    pub versions : (place : ℕ) → version_of (word_of m w (Cell place)) ≤ 4 * length w.requests + 5
    -- where it lacked node slots: all its own are free, in limbo or worn, but for so many at most for each pair of the
    -- largest map that its requests leave on their way
    pub slots : (short : Short) → slice_get given 0 ≡ Some (answers.Short short) → short.kind ≡ kinds.Node
        → w.layout.nodes ≤ short.free + (short.limbo + short.worn) + per_pair * peak w.requests
    -- where its words have versions enough: of the kind that it lacked none is in limbo, whether or not such a want is
    -- waited out
    pub limbo : (short : Short) → 8 * length w.requests + 8 ≤ w.layout.version_max
        → slice_get given 0 ≡ Some (answers.Short short)
        → short.limbo ≡ 0

  -- so it is with one worker that wasn't halted
  abbrev pub ServesAlone : List Served → Type 0
  ServesAlone given = w.layout.runners ≡ 1 → slice_get given 0 ≢ Some answers.Halted → AreServedAlone given

module _ {T : Type 0} (m : Meaning) (w : WordsState T) where
  -- with one worker, where each `get` is read first: each `get` that has an entry has a read's stamp, an odd one,
  -- whatever the worker answered
  abbrev pub ReadsAlone : Bool → Type 0
  ReadsAlone reads_free = reads_free ≡ true → w.layout.runners ≡ 1 → (i key : ℕ) (q : Request)
      → slice_get w.requests i ≡ Some q → q.op ≡ Get key → stamp_of m w q ≢ 0 → stamp_of m w q % 2 ≡ 1
