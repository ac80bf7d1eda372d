-- One step of a run in one go: what it needs, and what it leaves.
use Rattle.std.specs.Prelude.{◌≡◌, ℕ, zero, suc, ◌+◌, ◌^◌, ◌<◌, List, Bool, true, false, length, slice_index, slice_set, All, Option}
use Rattle.body_terms.specs.Word.{version_of, next_word, held_word}
use Rattle.body_terms.specs.Trail.{Agreed as Agreement}
use Rattle.body_terms.specs.Memory.{PlainMemory, cell_of}
use Rattle.body_terms.specs.Line.{Registers}
use Rattle.body_terms.specs.Run.{Setting, Run, is_takable}
use Rattle.body_terms.specs.Plain.{memory_after}
use Rattle.body_terms.specs.declared.value.Value.{Value}
use Rattle.body_terms.specs.declared.value.Value.TheVariants.{Const, Of, Made}
use Rattle.body_terms.specs.declared.step.Step.{Step}
use Rattle.body_terms.specs.declared.step.Step.TheVariants.{Load, Want, Fresh, Take, Make, Stamp, Store, Retire, Answer}
use Rattle.body_terms.specs.declared.outcome.Outcome.{Outcome}

-- this memory, this trail and this outcome are what this run for this request has left, which began over `start`
pub record Shows (request : ℕ) (start : PlainMemory) (run : Run)
    (memory : PlainMemory) (trail : Agreement) (outcome : Option Outcome) : Type 0 where
  pub left : memory ≡ memory_after request start run
  pub agreed : trail ≡ record { words = run.trail; late = false }
  pub ended : run.outcome ≡ outcome

-- the agreed word of this value's register stands in a log of this length
abbrev pub IsLogged : Registers → ℕ → Value → Type 0
IsLogged g count (Const number) = Unit {0}
IsLogged g count (Of reg) = g.log reg < count
IsLogged g count (Made reg) = g.log reg < count

-- the slot that a Make is given has its cells, none of them at the last version of a word
pub record SlotFits (memory : PlainMemory) : Type 0 where
  pub there : 0 < length memory.free
  pub within : (cell : ℕ) → cell < 5 → cell_of memory.fixed_cells (slice_index memory.free 0) cell < length memory.cells
  pub room : (cell : ℕ) → cell < 5
      → version_of (slice_index memory.cells (cell_of memory.fixed_cells (slice_index memory.free 0) cell)) + 1 < 2 ^ 32

-- a Store has its cell and its agreed word, and the word isn't the last of its cell
pub record StoreFits (memory : PlainMemory) (trail : List ℕ) (place log : ℕ) : Type 0 where
  pub within : place < length memory.cells
  pub logged : log < length trail
  pub room : slice_index memory.cells place ≡ slice_index trail log → version_of (slice_index trail log) + 1 < 2 ^ 32

-- what a step needs of the memory and of the words agreed so far
abbrev pub StepFits : ℕ → PlainMemory → List ℕ → Registers → Bool → Step → Type 0
StepFits request memory trail g got (Load place into) = place < length memory.cells
StepFits request memory trail g got (Want reg word) = g.log reg < length trail
StepFits request memory trail g got (Fresh reg) = g.log reg < length trail
StepFits request memory trail g got (Take place word) =
    (place < length memory.cells) × (got ≡ true → version_of word + 1 < 2 ^ 32)
StepFits request memory trail g got (Make init into) = SlotFits memory × All (IsLogged g (length trail)) init.cells
StepFits request memory trail g got Stamp = (request < length memory.stamps) × (memory.clock < 2 ^ 62)
StepFits request memory trail g got (Store reg value) =
    StoreFits memory trail (g.place reg) (g.log reg) × IsLogged g (length trail) value
StepFits request memory trail g got (Retire slot) = length memory.retired < memory.room
StepFits request memory trail g got (Answer reply) = request < length memory.replies

-- the choices at a Take whose lock is got: its free word, which may be taken, and the held one
pub record GotSuits (s : Setting) (log word : ℕ) : Type 0 where
  pub free : s.taken log ≡ word
  pub held : s.taken (log + 1) ≡ held_word s.descriptor word
  pub descriptor : s.descriptor ≡ 0
  pub takable : is_takable s word word ≡ true
  pub going : s.refused log ≡ false

-- the choices at a Take whose lock isn't got: the word that stands there
pub record BusySuits (s : Setting) (memory : PlainMemory) (log place : ℕ) : Type 0 where
  pub standing : s.taken log ≡ slice_index memory.cells place
  pub refused : s.refused log ≡ true

-- the choices at a Take
abbrev pub LockSuits : Setting → PlainMemory → Bool → ℕ → ℕ → ℕ → Type 0
LockSuits s memory true log place word = GotSuits s log word
LockSuits s memory false log place word = BusySuits s memory log place

-- the choices at a Make: the next free slot, with the words that stand in its cells
pub record SlotSuits (s : Setting) (memory : PlainMemory) (log : ℕ) : Type 0 where
  pub fixed_cells : s.fixed_cells ≡ memory.fixed_cells
  pub slot : s.slot log ≡ slice_index memory.free 0
  pub first : (cell : ℕ) → cell < 5
      → s.first log cell ≡ slice_index memory.cells (cell_of memory.fixed_cells (slice_index memory.free 0) cell)

-- a setting goes with the memory as it is at this step
abbrev pub StepSuits : Setting → PlainMemory → Bool → ℕ → Step → Type 0
StepSuits s memory got log (Fresh reg) = s.version_max ≡ memory.version_max
StepSuits s memory got log (Take place word) = LockSuits s memory got log place word
StepSuits s memory got log (Make init into) = SlotSuits s memory log
StepSuits s memory got log Stamp = s.clock ≡ memory.clock
StepSuits s memory got log _ = Unit {0}

-- the cells after the first k cells of a node slot were given these values
abbrev pub filled : ℕ → ℕ → List ℕ → List ℕ → ℕ → List ℕ
filled fixed_cells slot values cells zero = cells
filled fixed_cells slot values cells (suc k) =
    slice_set (filled fixed_cells slot values cells k) (cell_of fixed_cells slot k)
    (next_word (slice_index cells (cell_of fixed_cells slot k)) (slice_index values k))
