-- Whose gates the runners of a run had, from what is said of the run on one table to the top call.
use Rattle.std.specs.Prelude.{◌<◌, slice_get, Result, IfOk, IfSome}
use Rattle.std.proofs.Common.{◌≡◌, ℕ, Bool, List, length, Option, None, Some, Ok, Err, sym, ap, ◌∙◌, ⊎_elim, subst}
use Rattle.machine_states.specs.map_history.specs.declared.op.Request.{Request}
use Rattle.machine_states.specs.structure_laws.specs.Meaning.{Meaning}
use Rattle.machine_states.specs.table_words.specs.declared.layout.Layout.{Layout}
use Rattle.version_words.specs.TableState.{WordsState}
use Rattle.threaded_runs.specs.free_serving.specs.serving.specs.declared.answers.Served.{Served}
use Rattle.threaded_runs.specs.runner_gate.specs.Asks.{Asks}
use Rattle.threaded_runs.specs.Gates.{GatesCameBack}
use Rattle.threaded_runs.specs.Runs.{IsMadeWith}
use Rattle.command_line.specs.Commands.{IsCommand}
use Rattle.command_line.specs.Halts.{ask_of}
use Rattle.command_line.specs.Options.{are_free}
use Rattle.command_line.specs.declared.command.Command.{Command}
use Rattle.command_line.specs.declared.halts.Halt.{Halt}
use Rattle.command_line.specs.declared.options.RunOptions.{RunOptions}
use Rattle.flock_tool.specs.Gates.{GatesAreOwn, HaveOwnGates, halts_named}
use Rattle.flock_tool.specs.Loads.{HasLoaded}
use Rattle.flock_tool.specs.Reads.{reads_freely}
use Rattle.flock_tool.specs.Runs.{words_in, answers_in, meaning_of, HasReported}
use Rattle.flock_tool.specs.Streams.{Gating, Stream}
use Rattle.flock_tool.specs.declared.plan.Plan.{Plan}
use Rattle.flock_tool.specs.declared.ran.Ran.{Ran}
use Rattle.flock_tool.proofs.Reported.{reported_back}
use Rattle.flock_tool.proofs.Running.{if_none}

-- what a call answered well, by two of its clauses
pub if_both : {X E : Type 0} (P Q R : X → Type 0) (result : Result X E) → IfOk result P → IfOk result Q → ((x : X) → P x → Q x → R x) → IfOk result R
if_both P Q R (Ok x) p q step = step x p q
if_both P Q R (Err error) p q step = tt

module _ {H : Type 0} (halts : H → ℕ) (asks : H → Asks) where
  -- on one table, from what the call of its run says
  pub own_on : {T : Type 0} (meaning : T → Meaning) (structure : T) (plan : Plan) (words : WordsState T) (answers : List Served) (gates : Gating)
      (requests : List Request) (items entries : List (Option ℕ)) (reads : Bool) → entries ≡ items → reads ≡ are_free plan.options.reads
      → length items ≡ plan.layout.runners
      → ((runner : ℕ) → runner < plan.layout.runners → slice_get items runner ≡ Some (ask_of plan.options.halts runner))
      → IsMadeWith structure plan.layout requests words
      → GatesCameBack (meaning structure) words reads halts asks entries answers gates.asks_before gates.asks_after
      → HaveOwnGates halts asks (meaning words.structure) words answers plan.options.halts (are_free plan.options.reads) gates
  own_on meaning structure plan words answers gates requests items entries reads entries_are reads_are each named made back = record {
    entries = items;
    each = each ∙ ap (λ (l : Layout). l.runners) (sym made.layout);
    ask = λ runner low. named runner (subst (λ (l : Layout). runner < l.runners) made.layout low);
    back = subst (λ s. GatesCameBack (meaning s) words (are_free plan.options.reads) halts asks items answers gates.asks_before gates.asks_after)
        (sym made.structure)
        (subst (λ (b : Bool). GatesCameBack (meaning structure) words b halts asks items answers gates.asks_before gates.asks_after) reads_are
        (subst (λ (es : List (Option ℕ)). GatesCameBack (meaning structure) words reads halts asks es answers gates.asks_before gates.asks_after)
        entries_are back));
  }

  module _ (result : ℕ × Option Ran) (gates : Gating) where
    -- nothing came back
    pub none_own : (named : List Halt) (reads : Bool) → result.1 ≡ None → GatesAreOwn halts asks named reads result gates
    none_own named reads none =
        if_none (λ ran. HaveOwnGates halts asks (meaning_of ran) (words_in ran) (answers_in ran) named reads gates) result.1 none

    module _ (plan : Plan) (options : RunOptions) (given : plan.options ≡ options) (ran : Ran)
        (own : HaveOwnGates halts asks (meaning_of ran) (words_in ran) (answers_in ran) plan.options.halts (are_free plan.options.reads) gates) where
      of_options : HaveOwnGates halts asks (meaning_of ran) (words_in ran) (answers_in ran) options.halts (are_free options.reads) gates
      of_options = subst
          (λ (o : RunOptions). HaveOwnGates halts asks (meaning_of ran) (words_in ran) (answers_in ran) o.halts (are_free o.reads) gates) given own

      -- the report of the run was begun, or memory was wanting
      pub reported_own : (traces : ℕ) (waits : Bool) (sink faults : Stream) → HasReported ran traces waits result sink faults
          → GatesAreOwn halts asks options.halts (are_free options.reads) result gates
      reported_own traces waits sink faults reported = reported_back ran traces waits result sink faults reported
          (λ back. HaveOwnGates halts asks (meaning_of back) (words_in back) (answers_in back) options.halts (are_free options.reads) gates)
          (λ ends. of_options)

      -- or its counts
      pub loaded_own : (waits : Bool) (sink faults : Stream) → HasLoaded ran waits result sink faults
          → GatesAreOwn halts asks options.halts (are_free options.reads) result gates
      loaded_own waits sink faults loaded = ⊎_elim
          (λ ends. subst (λ (back : Option Ran). IfSome back
          (λ ran. HaveOwnGates halts asks (meaning_of ran) (words_in ran) (answers_in ran) options.halts (are_free options.reads) gates))
          (sym ends.back) of_options)
          (λ lacks. none_own options.halts (are_free options.reads) lacks.none) loaded

    -- what holds of the command that was read holds of each that the words are
    pub own_of_one : (words : List (List ℕ)) (read : Command)
        → ((first second : Command) → IsCommand words first → IsCommand words second → first ≡ second) → IsCommand words read
        → GatesAreOwn halts asks (halts_named read) (reads_freely read) result gates
        → (command : Command) → IsCommand words command → GatesAreOwn halts asks (halts_named command) (reads_freely command) result gates
    own_of_one words read one is own command other =
        subst (λ (c : Command). GatesAreOwn halts asks (halts_named c) (reads_freely c) result gates) (one read command is other) own
