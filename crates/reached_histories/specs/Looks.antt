-- What runners have seen for a read without a lock, as the history's state has it.
use Rattle.std.specs.Prelude.{ℕ, ◌≡◌, ◌<◌, ◌≤◌, ◌⊎◌, true, false, Bool, List, Some, None, drop, length}
use Rattle.machine_states.specs.map_history.specs.declared.op.Request.{Request}
use Rattle.machine_states.specs.body_terms.specs.Word.{version_of}
use Rattle.machine_states.specs.table_words.specs.declared.layout.Layout.{Layout}
use Rattle.machine_states.specs.table_words.specs.declared.spot.Spot.TheVariants.{Cell}
use Rattle.machine_states.specs.structure_laws.specs.Meaning.{Meaning}
use Rattle.machine_states.specs.epoch_core.specs.declared.stage.Stage.TheVariants.{Entered}
use Rattle.machine_states.specs.runner_parts.specs.declared.entries.Look.{Look}
use Rattle.machine_states.specs.runner_parts.specs.State.{PartState}
use Rattle.machine_states.specs.runner_parts.specs.Tests.{has_pair, knows, is_looked, is_replied, is_between}
use Rattle.machine_states.specs.runner_steps.specs.Sections.{reply_in}
use Rattle.machine_states.specs.runner_steps.specs.Reads.{is_fit}
use Rattle.machine_history.specs.history_core.specs.State as history
use Rattle.machine_history.specs.history_core.specs.State.{HistoryState}
use Rattle.machine_states.specs.Sight.{Sight}

-- the history has this look as what the worker has seen, with its reply written, or not
pub record HasSeen (m : Meaning) (w : HistoryState) (r : ℕ) (x : Look) (replied : Bool) : Type 0 where
  pub seen : history.Seen
  pub looked : w.look r ≡ Some seen
  pub number : seen.number ≡ x.thunk.request
  pub clock : seen.clock ≡ x.clock
  pub answer : seen.answer ≡ reply_in (m.body x.thunk)
  pub written : seen.replied ≡ replied

-- the clock was loaded too late for this look: its lock had another word by then, as it has for good, and so the
-- worker hasn't read the lock with that word again
pub record CameLate (s : Sight) (p : PartState) (x : Look) : Type 0 where
  pub past : version_of x.thunk.word < version_of (s.word (Cell x.thunk.lock))
  pub unread : has_pair (drop x.walked p.reads.walk) x.thunk.lock x.thunk.word ≡ false

-- its reply was written, which the worker knows, and it has no section that it hasn't retired
pub record HasReplied (m : Meaning) (w : HistoryState) (r : ℕ) (p : PartState) (x : Look) : Type 0 where
  pub seen : HasSeen m w r x true
  pub told : knows p.records.known x.thunk.request true ≡ true
  pub unpublished : p.published ≡ None

-- a runner with this part has loaded the clock for the look that the history has so, and not written its stamp
pub record IsLookOf (p : PartState) (seen : history.Seen) : Type 0 where
  pub look : Look
  pub looked : p.reads.look ≡ Some look
  pub request : look.thunk.request ≡ seen.number
  pub begun : (is_looked look.stage ≡ true) ⊎ (is_replied look.stage ≡ true)

module _ (m : Meaning) (l : Layout) (requests : List Request) where
  -- a runner's look
  pub record LookIsKept (s : Sight) (w : HistoryState) (r : ℕ) (p : PartState) (x : Look) : Type 0 where
    -- it began within what the runner has read and knows
    pub walked : x.walked ≤ length p.reads.walk
    pub known : x.known ≤ length p.records.known
    -- where it is a read, the history has seen it, or it came too late
    pub looked : is_looked x.stage ≡ true → is_fit m l requests r x p.records.known p.reads.walk ≡ true
        → HasSeen m w r x false ⊎ CameLate s p x
    pub replied : is_replied x.stage ≡ true → HasReplied m w r p x

  -- the looks of all entered runners. The history has a reply without its stamp only where a runner has, and nothing
  -- seen but of a look that a runner has
  pub record LooksAreKept (s : Sight) (w : HistoryState) : Type 0 where
    pub kept : (r : ℕ) (x : Look) → (s.part r).reads.look ≡ Some x → (g : ℕ) → (s.part r).stage ≡ Entered g
        → LookIsKept s w r (s.part r) x
    pub settled : (r : ℕ) → is_between (s.part r).reads.look ≡ false → history.is_replied (w.look r) ≡ false
    pub only : (r : ℕ) (seen : history.Seen) → w.look r ≡ Some seen → IsLookOf (s.part r) seen
