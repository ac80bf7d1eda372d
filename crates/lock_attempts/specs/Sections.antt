-- Attempts of sections, where a request is a ticket for one section: what each answer says.
use Rattle.std.specs.Prelude.{◌≡◌, ℕ, ◌+◌, ◌≤◌, Bool, true, false, List, [], ◌∷◌, length, Result, Ok, Err}
use Rattle.machine_states.specs.map_history.specs.declared.op.Request.{Request}
use Rattle.machine_states.specs.body_terms.specs.Trail.{Agreed}
use Rattle.machine_states.specs.body_terms.specs.declared.micro.Source.{Source}
use Rattle.machine_states.specs.body_terms.specs.declared.micro.Micro.TheVariants.{CheckWord, ExchangeCell}
use Rattle.machine_states.specs.body_terms.specs.declared.outcome.Outcome.TheVariants.{Answered}
use Rattle.machine_states.specs.body_terms.specs.declared.thunk.Thunk.{Thunk}
use Rattle.machine_states.specs.table_words.specs.declared.spot.Spot.TheVariants.{Stamp, Reply}
use Rattle.runner_gate.specs.Asks.{Asks}
use Rattle.machine_states.specs.structure_laws.specs.Scene.{Readings}
use Rattle.machine_states.specs.structure_laws.specs.Meaning.{Meaning}
use Rattle.machine_states.specs.structure_laws.specs.Cells.{slots}
use Rattle.agreement_core.specs.Checks.{stored_word}
use Rattle.agreement_core.specs.History.{Change, change_of}
use Rattle.machine_states.specs.runner_parts.specs.Tests.{is_answered}
use Rattle.machine_states.specs.runner_steps.specs.Sections.{reply_in}
use Rattle.machine_states.specs.Sight.{Sight, sight}
use Rattle.version_words.specs.machine_invariant.specs.Along.{Components}
use Rattle.version_words.specs.machine_invariant.specs.Trails.{thunk_at, step_at, log_of}
use Rattle.version_words.specs.machine_invariant.specs.Sections.{IsAnswered}
use Rattle.version_words.specs.RunnerState.{RunnerState}
use Rattle.attempts.specs.epoch_slots.specs.Collects.{IsTidy}
use Rattle.attempts.specs.epoch_slots.specs.Entries.{Exits}
use Rattle.attempts.specs.try_lock.specs.Planning.{Planning}
use Rattle.attempts.specs.try_lock.specs.Reached.{IsReached}
use Rattle.attempts.specs.caller_facts.specs.Knowing.{KnowsMore, LearnsNoOther}
use Rattle.attempts.specs.caller_facts.specs.Counted.{IsCounted}
use Rattle.attempts.specs.Course.{HasRun}
use Rattle.attempts.specs.Attempts.{most_of_attempt, Attempts}
use Rattle.attempts.specs.declared.answers.Attempt.{Attempt}
use Rattle.attempts.specs.declared.answers.Attempt.TheVariants as answers

-- a map's request was served; no attempt of a section answers so
abbrev pub is_done : Attempt → Bool
is_done (answers.Done reply stamp) = true
is_done _ = false

-- the section in this descriptor happened once: each word that it wanted is the agreed one, each of its Stores moved
-- its cell in one event, from the agreed word to the new one, no other step of its line changed a cell, and its
-- ticket's stamp and reply were each written by one event
pub record HappenedOnce (m : Meaning) (k : Components) (s : Sight) (d : ℕ) : Type 0 where
  pub answered : IsAnswered m k.agreement s d
  pub wanted : (i place log word : ℕ) → step_at m k.agreement s d i ≡ CheckWord place log word
      → log_of m k.agreement s d log ≡ word
  pub stored : (i place log : ℕ) (value : Source) → step_at m k.agreement s d i ≡ ExchangeCell place log value
      → k.changes.moved (k.changes.section d) i
      ≡ record {
        place = place;
        old = log_of m k.agreement s d log;
        new = stored_word (log_of m k.agreement s d) log value;
      } ∷ []
  pub changed : (i : ℕ) → k.changes.moved (k.changes.section d) i
      ≡ change_of (log_of m k.agreement s d) (step_at m k.agreement s d i)
  pub stamped : k.changes.stamps (thunk_at m k.agreement s d).request
      ≡ s.word (Stamp (thunk_at m k.agreement s d).request) ∷ []
  pub replied : k.changes.replies (thunk_at m k.agreement s d).request
      ≡ s.word (Reply (thunk_at m k.agreement s d).request) ∷ []

-- `own` is the thunk that is asked for, by the readings of its walk
module _ {T : Type 0} (m : Meaning) (planning : Planning) (request : Request) (own : Readings → Thunk) where
  -- the section that was planned was published and run to its end, and the guard let go; its thunk is the one that is
  -- asked for, by the readings with which it was published, it answered with its body's number, and happened once. The
  -- runner knows both words of the ticket, and left: it is idle, with an empty hand
  pub record HasAnswered (reply : ℕ) (old new : RunnerState T) : Type 0 where
    pub thunk : Thunk
    pub trail : Agreed
    pub unguarded : RunnerState T
    pub run : HasRun m planning request thunk (Answered reply) trail old unguarded
    pub is_own : thunk ≡ own run.ended.tries.readings
    pub answer : reply ≡ reply_in (m.body thunk)
    pub once : HappenedOnce m run.ended.ends.components
        (sight m run.ran.layout run.ran.requests run.ended.ends.reached.world) run.section.descriptor
    pub exits : Exits m unguarded new
    pub knows : is_answered new.part.records.known request.number ≡ true
    pub tidy : IsTidy new
    pub reached : IsReached m new

  -- what the exchanges of its section changed, by their places in its line
  abbrev pub changed_by : (reply : ℕ) (old new : RunnerState T) → HasAnswered reply old new → ℕ → List Change
  changed_by reply old new is =
      let changes = is.run.ended.ends.components.changes in changes.moved (changes.section is.run.section.descriptor)

  -- so many steps are counted: the loads of the plan, and the steps of the run
  abbrev pub answered_steps : (reply : ℕ) (old new : RunnerState T) → HasAnswered reply old new → ℕ
  answered_steps reply old new is = length is.run.ended.tries.readings + is.run.ended.made

  -- an attempt that was answered: the gate was asked behind each counted step, behind the entry, and behind the
  -- exchange that published, and let the runner go on each time
  pub record Answers (reply : ℕ) (old new : RunnerState T) (halts halts' : ℕ) (asks asks' : Asks) (steps steps' : ℕ)
      : Type 0 where
    pub made : ℕ
    pub answers : HasAnswered reply old new
    pub made_is : made ≡ answered_steps reply old new answers
    pub knows : KnowsMore old new
    pub no_other : LearnsNoOther request.number old new
    pub asked : IsCounted made 2 true halts halts' asks asks' steps steps'
    pub runs : length new.part.records.finished ≡ length old.part.records.finished + 1
    pub few : made ≤ most_of_attempt (slots m old.layout)

  -- what an attempt does: it was answered, or refused or halted as `Attempts` says of each such answer
  abbrev pub SectionAttempts : (answer : Result ℕ Attempt) (old new : RunnerState T) (Seen : ℕ → Asks → Type 0)
      (halts halts' : ℕ) (asks asks' : Asks) (steps steps' : ℕ) → Type 0
  SectionAttempts (Ok reply) old new Seen halts halts' asks asks' steps steps' =
      Answers reply old new halts halts' asks asks' steps steps'
  SectionAttempts (Err answer) old new Seen halts halts' asks asks' steps steps' =
      (is_done answer ≡ false)
      × Attempts m planning request answer old new Seen halts halts' asks asks' steps steps'
