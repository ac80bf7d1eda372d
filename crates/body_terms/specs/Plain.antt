-- One run of a body in one go, over a memory of its own.
use Rattle.std.specs.Prelude.{◌≡◌, ◌≢◌, ◌+◌, ◌<◌, ◌≤◌, All, count_by, take, ℕ, map, List, [], ◌∷◌, ◌++◌, Bool, true, false, drop, length, slice_index, slice_index_or, slice_set, None}
use Rattle.std.specs.List.{range_with_len}
use Rattle.body_terms.specs.Word.{version_of, held_word, is_free, is_spent}
use Rattle.body_terms.specs.Memory.{PlainMemory, cell_of}
use Rattle.body_terms.specs.Line.{line}
use Rattle.body_terms.specs.Shape.{IsStep, is_take, is_make, is_retire}
use Rattle.body_terms.specs.Run.{Setting, Run, ran}
use Rattle.body_terms.specs.declared.step.Step.{Step}
use Rattle.body_terms.specs.declared.step.Step.TheVariants.{Load, Want, Fresh, Take, Make, Stamp, Store, Retire, Answer}

-- what a run in one go is given for one place of its log: a Take's word and whether it is refused, or a Make's slot
pub record Choice : Type 0 where
  pub word : ℕ
  pub refused : Bool
  pub slot : ℕ

-- at the place of a Load or a Retire
abbrev pub no_choice : Choice
no_choice = record { word = 0; refused = false; slot = 0 }

-- a lock that is got gives its free word and the held one, by descriptor 0; one that isn't got gives the
-- word that stands there
abbrev pub lock_choices : Bool → ℕ → ℕ → List Choice
lock_choices true standing free = record no_choice { word = free } ∷ record no_choice { word = held_word 0 free } ∷ []
lock_choices false standing free = record { word = standing; refused = true; slot = 0 } ∷ no_choice ∷ []

-- the choices of a run in one go over these cells: each Take is got as `taken` says in turn, and each Make
-- gets the next free slot
abbrev pub choices : List ℕ → List Step → List Bool → List ℕ → List Choice
choices cells [] taken free = []
choices cells (Load place into ∷ steps) taken free = no_choice ∷ choices cells steps taken free
choices cells (Want reg word ∷ steps) taken free = choices cells steps taken free
choices cells (Fresh reg ∷ steps) taken free = choices cells steps taken free
choices cells (Take place word ∷ steps) taken free =
    lock_choices (slice_index_or taken 0 false) (slice_index cells place) word
    ++ choices cells steps (drop 1 taken) free
choices cells (Make init into ∷ steps) taken free =
    record no_choice { slot = slice_index free 0 } ∷ choices cells steps taken (drop 1 free)
choices cells (Stamp ∷ steps) taken free = choices cells steps taken free
choices cells (Store reg value ∷ steps) taken free = choices cells steps taken free
choices cells (Retire slot ∷ steps) taken free = no_choice ∷ choices cells steps taken free
choices cells (Answer reply ∷ steps) taken free = choices cells steps taken free

-- the choice at this place of the log
abbrev pub choice_at : List Step → List Bool → PlainMemory → ℕ → Choice
choice_at body taken memory log = slice_index_or (choices memory.cells body taken memory.free) log no_choice

-- the setting of a run in one go
abbrev pub plain_setting : List Step → List Bool → PlainMemory → Setting
plain_setting body taken memory = record {
  version_max = memory.version_max;
  fixed_cells = memory.fixed_cells;
  descriptor = 0;
  taken = λ log. (choice_at body taken memory log).word;
  refused = λ log. (choice_at body taken memory log).refused;
  slot = λ log. (choice_at body taken memory log).slot;
  first = λ log cell. slice_index memory.cells (cell_of memory.fixed_cells (choice_at body taken memory log).slot cell);
  clock = memory.clock;
}

-- a run for this request that has done nothing yet
abbrev pub unstarted : ℕ → PlainMemory → Run
unstarted request memory = record {
  cells = slice_index memory.cells;
  clock = memory.clock;
  stamp = slice_index memory.stamps request;
  reply = slice_index memory.replies request;
  trail = [];
  made = [];
  retired = [];
  outcome = None;
}

-- one run of this body in one go for this request, where `taken` says of each Take in turn whether its lock is got
abbrev pub plain_run : List Step → ℕ → PlainMemory → List Bool → Run
plain_run body request memory taken = ran (plain_setting body taken memory) (unstarted request memory) (line body)

-- the first n values of a function
abbrev pub first_values : ℕ → (ℕ → ℕ) → List ℕ
first_values n f = map f (range_with_len 0 n)

-- the memory in which this run left its cells, its slots, its clock and its request's words
abbrev pub memory_after : ℕ → PlainMemory → Run → PlainMemory
memory_after request memory r = record memory {
  cells = first_values (length memory.cells) r.cells;
  free = drop (length r.made) memory.free;
  retired = memory.retired ++ r.retired;
  clock = r.clock;
  stamps = slice_set memory.stamps request r.stamp;
  replies = slice_set memory.replies request r.reply;
}

-- the places that a body loads and locks are cells of this memory
pub record PlacesFit (body : List Step) (memory : PlainMemory) : Type 0 where
  pub loads : (i place into : ℕ) → IsStep body i (Load place into) → place < length memory.cells
  pub locks : (i place word : ℕ) → IsStep body i (Take place word) → place < length memory.cells

-- the first free slots, one for each Make, are there and are different, and none of their cells is at the
-- greatest version
pub record SlotsFit (body : List Step) (memory : PlainMemory) : Type 0 where
  pub there : count_by is_make body ≤ length memory.free
  pub different : (i j : ℕ) → i < j → j < count_by is_make body → slice_index memory.free i ≢ slice_index memory.free j
  pub within : (i cell : ℕ) → i < count_by is_make body → cell < 5
      → cell_of memory.fixed_cells (slice_index memory.free i) cell < length memory.cells
  pub unworn : (i cell : ℕ) → i < count_by is_make body → cell < 5
      → version_of (slice_index memory.cells (cell_of memory.fixed_cells (slice_index memory.free i) cell))
      ≢ memory.version_max

-- `taken` has an entry for each Take, and a Take whose lock is got expects a free word that isn't spent
pub record LocksFit (body : List Step) (memory : PlainMemory) (taken : List Bool) : Type 0 where
  pub given : count_by is_take body ≤ length taken
  pub takable : (i place word : ℕ) → IsStep body i (Take place word)
      → slice_index_or taken (count_by is_take (take i body)) false ≡ true
      → (is_free word ≡ true) × (is_spent memory.version_max word ≡ false)

-- the request's words are there
abbrev pub HasRequest : ℕ → PlainMemory → Type 0
HasRequest request memory = (request < length memory.stamps) × (request < length memory.replies)

-- there is room for the slots that this body retires
abbrev pub HasRoom : List Step → PlainMemory → Type 0
HasRoom body memory = length memory.retired + count_by is_retire body ≤ memory.room

-- no version among these cells is above the greatest one
abbrev pub VersionsFit : PlainMemory → Type 0
VersionsFit memory = All (λ word. version_of word ≤ memory.version_max) memory.cells
