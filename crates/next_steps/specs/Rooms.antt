-- The numbers that the steps of runs ask for fit their words.
use Rattle.std.specs.Prelude.{ℕ, zero, suc, ◌+◌, ◌*◌, ◌/◌, ◌<◌, ◌≤◌, ◌≡◌, ◌==◌, cond, true, false, List, length, Option, Some, None}
use Rattle.machine_states.specs.map_history.specs.declared.op.Request.{Request}
use Rattle.machine_states.specs.body_terms.specs.Line.{line, micro_at}
use Rattle.machine_states.specs.body_terms.specs.Memory.{cell_of}
use Rattle.machine_states.specs.body_terms.specs.Word.{version_of}
use Rattle.machine_states.specs.body_terms.specs.declared.micro.Micro.{Micro}
use Rattle.machine_states.specs.body_terms.specs.declared.micro.Micro.TheVariants as micros
use Rattle.machine_states.specs.body_terms.specs.declared.thunk.Thunk.{Thunk}
use Rattle.machine_states.specs.table_words.specs.Places.{slot_count, descriptor_count}
use Rattle.machine_states.specs.table_words.specs.declared.layout.Layout.{Layout}
use Rattle.machine_states.specs.table_words.specs.declared.spot.Spot.{Spot}
use Rattle.machine_states.specs.table_words.specs.declared.spot.Spot.TheVariants.{Clock, Stamp, Cell, Board}
use Rattle.machine_states.specs.structure_laws.specs.Meaning.{Meaning}
use Rattle.machine_states.specs.runner_steps.specs.AfterInRun.{place_of}
use Rattle.machine_states.specs.runner_steps.specs.Sections.{line_of}
use Rattle.machine_states.specs.runner_parts.specs.Lists.{test_of}
use Rattle.machine_states.specs.runner_parts.specs.State.{RunState, PartState}
use Rattle.machine_states.specs.runner_parts.specs.Tests.{has}
use Rattle.machine_states.specs.Sight.{Sight}
use Rattle.machine_invariant.specs.machine_blocks.specs.machine_guards.specs.machine_agreement.specs.machine_epochs.specs.Slots.{thunk_in}

-- how many of the first requests have a stamp
abbrev pub stamped : (Spot → ℕ) → ℕ → ℕ
stamped word zero = 0
stamped word (suc n) = stamped word n + cond (word (Stamp n) == 0) 0 1

-- neither the clock nor half of any stamp is more than the number of requests that have a stamp
pub record ClockIsSmall (requests : List Request) (s : Sight) : Type 0 where
  pub clock : s.word Clock ≤ stamped s.word (length requests)
  pub stamps : (q : ℕ) → s.word (Stamp q) / 2 ≤ stamped s.word (length requests)

-- how many cells the table has
abbrev pub cell_count : Meaning → Layout → ℕ
cell_count m l = m.fixed_cells + 5 * slot_count l m.fixed_slots

-- the numbers that a thunk and its body's line give are the table's: the request, the outer lock, and each
-- cell that a step meets
pub record ThunkFits (m : Meaning) (l : Layout) (requests : List Request) (t : Thunk) : Type 0 where
  pub request : t.request < length requests
  pub lock : t.lock < cell_count m l
  pub places : (i : ℕ) → place_of (micro_at (line (m.body t)) i) < cell_count m l

-- so are those of each published section, until its descriptor is free again
abbrev pub ThunksFit : Meaning → Layout → List Request → Sight → Type 0
ThunksFit m l requests s = (d : ℕ) → d < descriptor_count l → ((r : ℕ) → has (s.part r).descriptors.free d ≡ false)
    → ThunkFits m l requests (thunk_in s.word d)

-- the first cell of its slot to which a Make hasn't stored that stands before this step, if it does
abbrev pub filling : Micro → Option ℕ
filling (micros.PrivateLoad cell log) = Some cell
filling (micros.PrivateStore cell log value) = Some cell
filling (micros.MakeCommit log) = Some 5
filling _ = None

module _ (m : Meaning) (l : Layout) (word : Spot → ℕ) where
  -- the cell of this slot can be changed once more
  abbrev pub CellHasRoom : ℕ → ℕ → Type 0
  CellHasRoom t i = version_of (word (Cell (cell_of m.fixed_cells t i))) < l.version_max

  -- a run's Make: which cells of its slot have room, to which it has and hasn't stored
  pub record MakeHasRoom (q : RunState) (t : ℕ) : Type 0 where
    pub opened : length q.opened ≡ 13
    pub next : ℕ
    pub at : filling (micro_at (line_of m q) q.at) ≡ Some next
    pub room : (i : ℕ) → next ≤ i → i < 5 → CellHasRoom t i
    -- where none of those is worn to which it has stored
    pub all : (i : ℕ) → q.worn ≡ false → i < 5 → CellHasRoom t i

  -- the cells of a runner's free slots, of the slot that its Make fills, and those that it has looked at in its hand
  pub record SlotsHaveRoom (p : PartState) : Type 0 where
    pub free : (t i : ℕ) → has p.nodes.free t ≡ true → i < 5 → CellHasRoom t i
    pub made : (q : RunState) (t : ℕ) → p.run ≡ Some q → q.made ≡ Some t → MakeHasRoom q t
    pub looked : (t i : ℕ) → has p.nodes.hand t ≡ true → (test_of p.nodes.tests t).worn ≡ false
        → i < (test_of p.nodes.tests t).cells → i < 5
        → CellHasRoom t i
    -- it has looked at none of any other slot, nor of the one that the Make fills
    pub unlooked : (t : ℕ) → has p.nodes.hand t ≡ false → (test_of p.nodes.tests t).cells ≡ 0
    pub unlooked_made : (q : RunState) (t : ℕ) → p.run ≡ Some q → q.made ≡ Some t → (test_of p.nodes.tests t).cells ≡ 0

  -- the cells of the slots that the words of the board name
  abbrev pub BoardHasRoom : Type 0
  BoardHasRoom = (i t j : ℕ) → word (Board i) ≡ suc t → j < 5 → CellHasRoom t j

-- so there is in the slots of all runners, and in those on the board
pub record RoomsStand (m : Meaning) (l : Layout) (s : Sight) : Type 0 where
  pub own : (r : ℕ) → SlotsHaveRoom m l s.word (s.part r)
  pub board : BoardHasRoom m l s.word
