-- What comes of a run.
use Rattle.std.proofs.Common.{◌≡◌, ◌≢◌, ℕ, Bool, List, Option, Some, codes, refl, sym, ap, ◌∙◌, inr, ⊎_elim, subst, arith}
use Rattle.std.specs.Prelude.{not}
use Rattle.machine_states.specs.table_words.specs.Limits.{IsWithinLimits}
use Rattle.machine_states.specs.table_words.specs.declared.layout.Layout.{Layout}
use Rattle.machine_states.specs.structure_laws.specs.Meaning.{Meaning}
use Rattle.version_words.specs.machine_invariant.specs.After.{AreAllowed}
use Rattle.version_words.specs.TableState.{WordsState}
use Rattle.command_line.specs.trace_reader.specs.Answer.{AreTracesOf}
use Rattle.command_line.specs.trace_reader.specs.Formats.{AreOfFormat}
use Rattle.load_counts.specs.run_reports.specs.Reports.{Prints}
use Rattle.load_counts.specs.run_reports.specs.Stops.{StopsPrinting}
use Rattle.load_counts.specs.run_reports.specs.declared.printing.PrintError.{PrintError}
use Rattle.load_counts.specs.run_reports.specs.declared.printing.PrintError.TheVariants as printing
use Rattle.threaded_runs.specs.Asks.{AreAsked}
use Rattle.threaded_runs.specs.Runs.{AreServed}
use Rattle.command_line.specs.declared.generated.LoadOptions.{LoadOptions}
use Rattle.command_line.specs.declared.options.RunOptions.{RunOptions}
use Rattle.command_line.specs.Halts.{names_below}
use Rattle.command_line.specs.Options.{are_free}
use Rattle.flock_tool.specs.End.{stop_of}
use Rattle.flock_tool.specs.Finish.{finish_by, finish_status, TellsFinish}
use Rattle.flock_tool.specs.Loads.{HasLoadRun}
use Rattle.flock_tool.specs.Plans.{IsLoadPlanned, IsPlanned, layout_by}
use Rattle.flock_tool.specs.Runs.{words_in, answers_in, meaning_of, AreGiven, HasRunPlan, HasRun, IsRunOf, EndsRun, StopsReport, IsRunStatus}
use Rattle.flock_tool.specs.Streams.{Gating, Stream, Told}
use Rattle.flock_tool.specs.declared.plan.Plan.{Plan}
use Rattle.flock_tool.specs.declared.ran.Ran.{Ran}
use Rattle.flock_tool.specs.declared.status.Stop.TheVariants.{WriteFault}
use Rattle.flock_tool.proofs.Ends.{IfSome-from}
use Rattle.flock_tool.proofs.Enough.{completes, ends_otherwise}
use Rattle.flock_tool.proofs.Finishing.{finish_run, zero_all, one_halted}
use Rattle.flock_tool.proofs.Others.{spares_others, spares_at_nine}
use Rattle.flock_tool.proofs.Whole.{all_served}

-- a run of a plan is one of its options and requests
pub run_of : (plan : Plan) (ran : Ran) (gates : Gating) → plan.layout ≡ layout_by plan.options plan.traces.count plan.traces.requests
    → HasRunPlan plan ran gates → IsRunOf plan.options plan.traces.format plan.traces.count ran
run_of plan ran gates layout r = record {
  table = r.table;
  layout = r.layout ∙ layout ∙ ap (layout_by plan.options plan.traces.count) (sym r.requests);
  served = subst (λ n. AreServed (meaning_of ran) (words_in ran) (not (names_below plan.options.halts n)) (are_free plan.options.reads) (answers_in ran)) (ap (λ (l : Layout). l.runners) (sym r.layout)) r.served;
  lone = r.lone;
  read = r.read;
}

pub given_of : (plan : Plan) (ran : Ran) (gates : Gating) → HasRunPlan plan ran gates
    → AreGiven plan.options.halts (words_in ran).layout.runners (answers_in ran) gates
given_of plan ran gates r = subst (λ n. AreGiven plan.options.halts n (answers_in ran) gates) (ap (λ (l : Layout). l.runners) (sym r.layout)) r.given

-- and so one that the options and the text ask for
pub run_is : (options : RunOptions) (left : Option (List ℕ)) (plan : Plan) (ran : Ran) (gates : Gating) → IsPlanned options left plan
    → HasRunPlan plan ran gates → HasRun options left plan.traces.count ran gates
run_is options left plan ran gates p r =
    subst (λ (o : RunOptions). HasRun o left plan.traces.count ran gates) p.given
    (record {
      format = plan.traces.format;
      text = IfSome-from (AreTracesOf plan.traces)
          (AreTracesOf (record { format = plan.traces.format; count = plan.traces.count; requests = (words_in ran).requests })) left p.text
          (λ text are. record {
            accepted = are.accepted;
            format = are.format;
            count = are.count;
            requests = r.requests ∙ are.requests;
            formats = subst (AreOfFormat plan.traces.format) (sym r.requests) are.formats;
          });
      run = run_of plan ran gates p.layout r;
      asked = r.asked;
      given = given_of plan ran gates r;
    })

-- or the options of `load`
pub load_run_is : (load : LoadOptions) (plan : Plan) (ran : Ran) (gates : Gating) → IsLoadPlanned load plan → HasRunPlan plan ran gates
    → HasLoadRun load ran gates
load_run_is load plan ran gates p r = record {
  requests = r.requests ∙ p.requests;
  run = subst (λ (o : RunOptions). IsRunOf o 1 load.plan.traces ran) p.given
      (subst (λ n. IsRunOf plan.options 1 n ran) p.count
      (subst (λ n. IsRunOf plan.options n plan.traces.count ran) p.header (run_of plan ran gates p.layout r)));
  asked = subst (λ (o : RunOptions). AreAsked (meaning_of ran) (words_in ran) (are_free o.reads) (answers_in ran) gates.asks_before gates.asks_after) p.given r.asked;
  given = subst (λ (o : RunOptions). AreGiven o.halts (words_in ran).layout.runners (answers_in ran) gates) p.given (given_of plan ran gates r);
}

-- its report was printed whole
pub ended_whole : {reads : Bool} (ran : Ran) (traces : ℕ) (waits : Bool) (unserved status : ℕ) (sink faults : Stream)
    → IsWithinLimits (words_in ran).layout → AreAllowed (words_in ran).requests → AreServed (meaning_of ran) (words_in ran) waits reads (answers_in ran)
    → status ≡ finish_status (finish_by (answers_in ran) unserved) → Prints (meaning_of ran) (words_in ran) traces unserved sink.before sink.after
    → TellsFinish (finish_by (answers_in ran) unserved) faults → sink.faults_after ≡ sink.faults_before → EndsRun ran traces waits (status, Some ran) sink faults
ended_whole ran traces waits unserved status sink faults limits allowed served is prints told_is steady =
    let run = finish_run (finish_by (answers_in ran) unserved) in
    let not_nine : status ≢ 9 = λ nine. run.1 (sym is ∙ nine) in
    record {
      status = subst IsRunStatus (sym is) run.0;
      back = refl;
      ended = record {
        unserved = unserved;
        report = prints.0;
        is_report = prints.1.0;
        whole = λ _. prints.1.1;
        in_part = λ nine. absurd (not_nine nine);
        status = λ _. is;
        all = λ none. ⊎_elim (λ zero. zero)
            (λ all. prints.1.0.counted ∙ all_served (meaning_of ran) (words_in ran) allowed waits (answers_in ran) served limits.some_runners all prints.1.0.entries prints.1.0.shown)
            (zero_all (answers_in ran) unserved (sym is ∙ none));
        enough = completes (meaning_of ran) (words_in ran) waits (answers_in ran) served unserved limits.some_sections status is;
        others = spares_others (meaning_of ran) (words_in ran) allowed waits (answers_in ran) served limits.some_runners unserved status is;
        line = λ _. told_is;
        failed = λ nine. absurd (not_nine nine);
      };
      steady = λ _. steady;
      halted = λ one. one_halted (answers_in ran) unserved (sym is ∙ one);
    }

-- the sink failed, and holds a part of it
pub ended_part : {reads : Bool} (ran : Ran) (traces : ℕ) (waits : Bool) (status : ℕ) (sink faults : Stream)
    → IsWithinLimits (words_in ran).layout → AreAllowed (words_in ran).requests → AreServed (meaning_of ran) (words_in ran) waits reads (answers_in ran)
    → status ≡ 9 → StopsReport (meaning_of ran) (words_in ran) traces WriteFault sink
    → Told (codes "flock: write fault\n") faults → EndsRun ran traces waits (status, Some ran) sink faults
ended_part ran traces waits status sink faults limits allowed served nine stops tells = record {
  status = inr (inr (inr (inr nine)));
  back = refl;
  ended = record {
    unserved = stops.0.0;
    report = stops.0.1;
    is_report = stops.0.2.0;
    whole = λ not. absurd (not nine);
    in_part = λ _. (stops.0.2.1, stops.1);
    status = λ not. absurd (not nine);
    all = λ none. absurd (omega (arith, none, nine));
    enough = ends_otherwise (meaning_of ran) (words_in ran) waits status (λ five. omega (arith, five, nine)) (λ six. omega (arith, six, nine));
    others = spares_at_nine (meaning_of ran) (words_in ran) allowed waits (answers_in ran) served limits.some_runners status nine;
    line = λ not. absurd (not nine);
    failed = λ _. tells;
  };
  steady = λ not. absurd (not nine);
  halted = λ one. absurd (omega (arith, one, nine));
}

-- why the printing stopped
pub stops_report : {T : Type 0} (m : Meaning) (w : WordsState T) (traces : ℕ) (error : PrintError) (sink : Stream)
    → StopsPrinting m w traces error sink.before sink.after sink.faults_before sink.faults_after → StopsReport m w traces (stop_of error) sink
stops_report m w traces printing.Memory sink stops = (refl, stops.0, stops.1)
stops_report m w traces printing.Failed sink stops = stops
