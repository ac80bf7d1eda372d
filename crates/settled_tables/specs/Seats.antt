-- The workers of a run: as they are given out, and as they come back.
use Rattle.std.specs.Prelude.{◌≡◌, ℕ, ◌<◌, List, [], length, slice_index_or}
use Rattle.closed_words.specs.version_words.specs.RunnerState.{RunnerState}
use Rattle.closed_words.specs.version_words.specs.TableState.{TableState, IsOf}
use Rattle.settling.specs.epoch_slots.specs.Collects.{IsTidy}

module _ {T : Type 0} (t : TableState T) where
  -- the table's worker with this number, as it is made: idle with an empty hand, and it knows no request
  pub record IsNewWorker (number : ℕ) (r : RunnerState T) : Type 0 where
    pub own : IsOf t r
    pub number_is : r.number ≡ number
    pub tidy : IsTidy r
    pub known : r.part.records.known ≡ []

  -- the workers in order of number
  abbrev pub AreNewWorkers : List (RunnerState T) → Type 0
  AreNewWorkers workers = (i : ℕ) (d : RunnerState T) → i < length workers
      → IsNewWorker i (slice_index_or workers i d)

  -- this worker came back with what it reports, wherever it stands
  pub record CameBack {A : Type 0} (worker : RunnerState T) (back : RunnerState T × A) : Type 0 where
    pub own : IsOf t back.0
    pub number : back.0.number ≡ worker.number

  abbrev pub AllCameBack : {A : Type 0} → List (RunnerState T) → List (RunnerState T × A) → Type 0
  AllCameBack {A} workers backs = (i : ℕ) (d : RunnerState T) (e : RunnerState T × A) → i < length workers
      → CameBack (slice_index_or workers i d) (slice_index_or backs i e)

  -- the table's worker with this number, wherever it stands
  pub record IsBack (number : ℕ) (r : RunnerState T) : Type 0 where
    pub own : IsOf t r
    pub number_is : r.number ≡ number

  -- they come back in that order, each with what it reports
  abbrev pub AreBack : {A : Type 0} → List (RunnerState T × A) → Type 0
  AreBack {A} backs = (i : ℕ) (d : RunnerState T × A) → i < length backs → IsBack i (slice_index_or backs i d).0

-- each one's report, in the order of the workers
abbrev pub AreReports : {W A : Type 0} → List (W × A) → List A → Type 0
AreReports {W} {A} backs reports = (i : ℕ) (a : A) → i < length reports → (d : W × A)
    → slice_index_or reports i a ≡ (slice_index_or backs i d).1
