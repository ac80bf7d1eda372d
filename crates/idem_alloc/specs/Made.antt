-- The filling of a new node's cells in a run.
use Rattle.std.specs.Prelude.{◌≡◌, ℕ, ◌+◌, ◌*◌, ◌<◌, ◌≤◌, List, length, Bool, true, ◌||◌, ◌==◌, if◌then◌else◌, slice_index, slice_index_or, None, Some}
use Rattle.runner_steps.specs.body_terms.specs.declared.value.Init.{Init}
use Rattle.runner_steps.specs.body_terms.specs.declared.value.Value.TheVariants.{Const}
use Rattle.runner_steps.specs.body_terms.specs.declared.step.Step.TheVariants.{Make}
use Rattle.runner_steps.specs.body_terms.specs.declared.micro.Source.{Source}
use Rattle.runner_steps.specs.body_terms.specs.declared.micro.Micro.TheVariants.{PrivateLoad, PrivateStore, MakeCommit}
use Rattle.runner_steps.specs.body_terms.specs.Line.{begins, registers_before, source_of}
use Rattle.runner_steps.specs.body_terms.specs.Run.{source_value}
use Rattle.runner_steps.specs.body_terms.specs.Shape.{IsStep}
use Rattle.runner_steps.specs.body_terms.specs.Word.{version_of, next_word}
use Rattle.section_lines.specs.structure_laws.specs.Meaning.{Meaning}
use Rattle.runner_steps.specs.runner_parts.specs.State.{RunState}
use Rattle.runner_steps.specs.runner_parts.specs.Lists.{slot_taken, slot_made, slot_back}
use Rattle.runner_steps.specs.InRun.{make_slot, last_of}
use Rattle.runner_steps.specs.Sections.{thunk_of}
use Rattle.runner_steps.specs.AfterInRun.{goes_on, agrees}
use Rattle.commit_log.specs.next_steps.specs.Stages.{filling_slot, nodes_taking, unfilled}
use Rattle.commit_log.specs.version_words.specs.RunnerState.{RunnerState}
use Rattle.commit_log.specs.Runs.{IsRunning, Stepped, Ran}
use Rattle.commit_log.specs.Links.{HasRoom, HasLinked}

-- this run stands so many atomic steps into a Make with these values
pub record IsInMake (m : Meaning) (init : Init) (past : ℕ) (q : RunState) : Type 0 where
  pub step : ℕ
  pub into : ℕ
  pub makes : IsStep (m.body (thunk_of q.opened)) step (Make init into)
  pub at : q.at ≡ begins (m.body (thunk_of q.opened)) step + past

-- what this cell of the new node gets
abbrev pub fills_with : (m : Meaning) (init : Init) (cell past : ℕ) (q : RunState) → IsInMake m init past q → Source
fills_with m init cell past q is = source_of (registers_before (m.body (thunk_of q.opened)) is.step)
    (slice_index_or init.cells cell (Const 0))

module _ {T : Type 0} (m : Meaning) where
  -- the next two steps of this run fill this cell of this slot with this value
  pub record MayFill (r : RunnerState T) (slot cell value : ℕ) (q : RunState) : Type 0 where
    pub running : IsRunning m r q
    pub init : Init
    pub next : IsInMake m init (2 * cell) q
    pub few : cell < 5
    pub slot_is : make_slot q.made r.part.nodes.free ≡ Some slot
    pub given : value ≡ source_value q.trail (fills_with m init cell (2 * cell) q next)

  -- the cell was loaded, and holds the value with the next version; the run goes on, with the slot in the hand, and
  -- knows whether a cell of it came to the greatest version
  pub record HasFilled (slot cell value : ℕ) (old new : RunnerState T) (q : RunState) : Type 0 where
    pub log : ℕ
    pub source : Source
    pub found : ℕ
    pub over : ℕ
    pub middle : RunnerState T
    pub load : Stepped m q (PrivateLoad cell log) found old middle
    pub store : Stepped m (goes_on m old.layout (filling_slot q.made q slot) found) (PrivateStore cell log source) over
        middle new
    pub nodes : new.part.nodes ≡ nodes_taking q.made old.part.nodes slot
    pub behind : RunState
    pub goes_on : IsRunning m new behind
    pub at : behind.at ≡ q.at + 2
    pub made : behind.made ≡ Some slot
    pub trail : behind.trail ≡ q.trail
    pub opened : behind.opened ≡ q.opened
    pub descriptor : behind.descriptor ≡ q.descriptor
    pub ended : behind.ended ≡ q.ended
    pub links : behind.links ≡ q.links
    pub block : behind.block ≡ q.block
    pub blocks : new.part.blocks ≡ old.part.blocks
    pub worn : behind.worn ≡ ((filling_slot q.made q slot).worn || version_of (next_word found value) ==
        old.layout.version_max)

  -- the next step of this run makes a node with these values, a slot is free for it, and there is a block for its word
  -- where one is to be linked
  pub record MayMake (r : RunnerState T) (values : List ℕ) (q : RunState) : Type 0 where
    pub running : IsRunning m r q
    pub init : Init
    pub next : IsInMake m init 0 q
    pub none : q.made ≡ None
    pub reserve : 1 ≤ length r.part.nodes.free
    pub room : HasRoom 1 r.part q
    pub given : (cell : ℕ) → cell < 5 → slice_index values cell ≡ source_value q.trail (fills_with m init cell 0 q next)

  -- so many cells of the slot are filled, and the run stands behind them
  pub record IsFilling (slot count : ℕ) (old new : RunnerState T) (q : RunState) : Type 0 where
    pub behind : RunState
    pub running : IsRunning m new behind
    pub ran : Ran m (2 * count) old new
    pub at : behind.at ≡ q.at + 2 * count
    pub made : behind.made ≡ (if count == 0 then None else Some slot)
    pub trail : behind.trail ≡ q.trail
    pub opened : behind.opened ≡ q.opened
    pub descriptor : behind.descriptor ≡ q.descriptor
    pub ended : behind.ended ≡ q.ended
    pub links : behind.links ≡ q.links
    pub block : behind.block ≡ q.block
    pub blocks : new.part.blocks ≡ old.part.blocks
    pub nodes : new.part.nodes ≡ (if count == 0 then old.part.nodes else slot_taken old.part.nodes slot)

  -- the last free slot was filled, the part for its word linked where that was due, and a slot agreed on. Where this
  -- commit was the first one it is the own slot, which is live then; else the own one is free again, or worn where one
  -- of its cells came to the greatest version. The run goes on with the agreed slot
  pub record HasMade (agreed : ℕ) (old new : RunnerState T) (q : RunState) : Type 0 where
    pub slot : ℕ
    pub free : last_of old.part.nodes.free ≡ Some slot
    pub log : ℕ
    pub first : Bool
    pub full : RunnerState T
    pub filled : IsFilling slot 5 old full q
    pub between : RunState
    pub linked : RunnerState T
    pub links : HasLinked m full linked filled.behind between
    pub commit : Stepped m between (MakeCommit log) (if first then 0 else agreed + 1) linked new
    pub own : first ≡ true → agreed ≡ slot
    pub nodes : new.part.nodes ≡ (if first then slot_made (slot_taken old.part.nodes slot) slot
        else slot_back (slot_taken old.part.nodes slot) slot filled.behind.worn)
    pub goes_on : IsRunning m new (agrees m full.layout (unfilled between) (agreed + 1))
