-- What a run of generated requests leaves.
use Rattle.std.specs.Prelude.{◌≡◌, ◌≢◌, ◌⊎◌, ℕ, Bool, List, Option, Some, true, codes}
use Rattle.std.specs.FinMap.{len}
use Rattle.machine_states.specs.map_history.specs.declared.op.Entry.{Entry}
use Rattle.machine_states.specs.map_history.specs.Replay.{Pairs}
use Rattle.machine_states.specs.map_history.specs.Requests.{AreInOrder}
use Rattle.machine_states.specs.structure_laws.specs.Meaning.{Meaning}
use Rattle.command_line.specs.trace_reader.specs.Generator.{generated}
use Rattle.command_line.specs.trace_reader.specs.declared.generator.Gen.{Gen}
use Rattle.load_counts.specs.run_reports.specs.report_text.specs.Sink.{Extends, ExtendsInPart}
use Rattle.version_words.specs.TableState.{WordsState}
use Rattle.threaded_runs.specs.Asks.{AreAsked}
use Rattle.load_counts.specs.run_reports.specs.Reports.{HaveContents, HaveEntries, unserved_in}
use Rattle.load_counts.specs.Apart.{load_text}
use Rattle.load_counts.specs.Tallies.{IsAlone, IsTally}
use Rattle.command_line.specs.Options.{are_free}
use Rattle.command_line.specs.declared.generated.LoadOptions.{LoadOptions}
use Rattle.flock_tool.specs.declared.load.Counted.{Counted}
use Rattle.flock_tool.specs.declared.ran.Ran.{Ran}
use Rattle.flock_tool.specs.Complete.{Completes, SparesOthers}
use Rattle.flock_tool.specs.Finish.{any_halted, finish_by, finish_status, TellsFinish}
use Rattle.flock_tool.specs.Runs.{words_in, answers_in, meaning_of, AreGiven, IsRunOf, IsRunStatus, LacksMemory}
use Rattle.flock_tool.specs.Streams.{Fails, Gating, Stream, Told}

-- these are the counts of the closed words, and the pairs that they hold
pub record IsCounted {T : Type 0} (m : Meaning) (w : WordsState T) (counted : Counted) : Type 0 where
  pub tally : IsTally m w counted.tally
  pub alone : IsAlone m w counted.tally
  pub size : (pairs : Pairs) → HaveContents m w pairs → counted.size ≡ len pairs

-- the text of a plan whose requests the words have
abbrev pub IsPlanText : Ran → List ℕ → Type 0
IsPlanText ran text = (plan : Gen) → plan.apart ≡ true → (words_in ran).requests ≡ generated plan
    → AreInOrder (words_in ran).requests plan.traces → text ≡ load_text plan

-- the counts were printed where each request is served and nothing was printed elsewhere; the status and the line are
-- those of the answers. A want of slots was waited out, or wasn't
pub record HasCounted (ran : Ran) (waits : Bool) (number : ℕ) (sink faults : Stream) : Type 0 where
  pub entries : List (Option Entry)
  pub shown : HaveEntries (meaning_of ran) (words_in ran) entries
  pub text : List ℕ
  pub text_is : unserved_in entries ≡ 0 → IsPlanText ran text
  pub all : (number ≡ 0) ⊎ (number ≡ 9) → unserved_in entries ≡ 0
  pub whole : number ≡ 0 → Extends sink.before text sink.after
  pub in_part : number ≡ 9 → ExtendsInPart sink.before text sink.after × Fails sink
  pub silent : number ≢ 0 → number ≢ 9 → sink.after ≡ sink.before
  pub steady : number ≢ 9 → sink.faults_after ≡ sink.faults_before
  pub status : number ≢ 9 → number ≡ finish_status (finish_by (answers_in ran) (unserved_in entries))
  -- with slots and versions enough it isn't 5, where a want of slots is waited out, and isn't 6
  pub enough : Completes (meaning_of ran) (words_in ran) waits number
  -- whoever stops, the others are served
  pub others : SparesOthers (meaning_of ran) (words_in ran) (answers_in ran) number
  pub line : number ≢ 9 → TellsFinish (finish_by (answers_in ran) (unserved_in entries)) faults
  pub failed : number ≡ 9 → Told (codes "flock: write fault\n") faults
  pub halted : number ≡ 1 → any_halted (answers_in ran) ≡ true

-- the run comes back with its status
pub record EndsLoad (ran : Ran) (waits : Bool) (result : ℕ × Option Ran) (sink faults : Stream) : Type 0 where
  pub status : IsRunStatus result.0
  pub back : result.1 ≡ Some ran
  pub counted : HasCounted ran waits result.0 sink faults

-- what comes of the counts of a run
abbrev pub HasLoaded : Ran → Bool → ℕ × Option Ran → (sink faults : Stream) → Type 0
HasLoaded ran waits result sink faults = EndsLoad ran waits result sink faults ⊎ LacksMemory result sink faults

-- a run that the options of `load` ask for, whose requests are of format 1; its gates were given out and came back
pub record HasLoadRun (load : LoadOptions) (ran : Ran) (gates : Gating) : Type 0 where
  pub requests : (words_in ran).requests ≡ generated load.plan
  pub run : IsRunOf load.run 1 load.plan.traces ran
  pub asked : AreAsked (meaning_of ran) (words_in ran) (are_free load.run.reads) (answers_in ran) gates.asks_before
      gates.asks_after
  pub given : AreGiven load.run.halts (words_in ran).layout.runners (answers_in ran) gates
