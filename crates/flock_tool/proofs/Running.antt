-- How the command `run` ends.
use Rattle.std.proofs.Common.{◌≡◌, ℕ, Bool, List, [], Option, None, Result, Ok, Err, IfSome, codes, sym, ap, ◌∙◌, ⊎_elim, inl, inr, subst, arith}
use Rattle.std.specs.Prelude.{◌⊎◌}
use Rattle.machine_states.specs.map_history.specs.declared.op.Entry.{Entry}
use Rattle.machine_states.specs.map_history.specs.declared.op.Request.{Request}
use Rattle.machine_states.specs.map_history.specs.Requests.{AreInOrder}
use Rattle.machine_states.specs.table_words.specs.declared.layout.Layout.{Layout}
use Rattle.load_counts.specs.run_reports.specs.Reports.{HaveEntries}
use Rattle.command_line.specs.trace_reader.specs.Answer.{StopsBefore}
use Rattle.command_line.specs.trace_reader.specs.Text.{IsAccepted, IsFirstRefusal}
use Rattle.command_line.specs.trace_reader.specs.declared.traces.TraceError.{TraceError}
use Rattle.command_line.specs.trace_reader.specs.declared.traces.TraceError.TheVariants.{ReadFault}
use Rattle.command_line.specs.Halts.{names_below}
use Rattle.command_line.specs.declared.halts.Halt.{Halt}
use Rattle.command_line.specs.declared.options.RunOptions.{RunOptions}
use Rattle.flock_tool.specs.Commands.{RunEnds}
use Rattle.flock_tool.specs.End.{error_status, stop_line, stop_status}
use Rattle.flock_tool.specs.Plans.{IsPlanned, IsRefusedPlan, MustPlan}
use Rattle.flock_tool.specs.Runs.{words_in, answers_in, meaning_of, waits_out, AreServedInOrder, HasReported, HasRun, HasEnded, HasRunPlan, IsRunStatus}
use Rattle.flock_tool.specs.Streams.{Fails, Gating, IsIdle, Stream, Told}
use Rattle.flock_tool.specs.declared.plan.Plan.{Plan}
use Rattle.flock_tool.specs.declared.ran.Ran.{Ran}
use Rattle.flock_tool.specs.declared.status.Stop.{Stop}
use Rattle.flock_tool.specs.declared.status.Stop.TheVariants.{Text}
use Rattle.flock_tool.proofs.Ends.{AnotherAt, GrammaticalAt, another_refused, another_stop, any_text, complete_refused, first_refused, limit_stop, malformed_stop, none_ran, not_run, planned_another, planned_refused, stop_at_7, stop_at_8}
use Rattle.flock_tool.proofs.Reported.{none_back, not_seven, reported_back, reported_halted, reported_memory, reported_ran, reported_read, reported_status, reported_write}
use Rattle.flock_tool.proofs.Ordered.{served_in_order}
use Rattle.flock_tool.proofs.Reporting.{run_is}

-- nothing comes back
pub if_none : (P : Ran → Type 0) (back : Option Ran) → back ≡ None → IfSome back P
if_none P back none = subst (λ (back : Option Ran). IfSome back P) (sym none) tt

not_two : (n : ℕ) → IsRunStatus n ⊎ (n ≡ 7) → n ≡ 2 → ⊥
not_two n (inl run) two = absurd (grind arith)
not_two n (inr seven) two = absurd (omega (arith, seven, two))

not_three : (n : ℕ) → IsRunStatus n ⊎ (n ≡ 7) → n ≡ 3 → ⊥
not_three n (inl run) three = absurd (grind arith)
not_three n (inr seven) three = absurd (omega (arith, seven, three))

not_four : (n : ℕ) → IsRunStatus n ⊎ (n ≡ 7) → n ≡ 4 → ⊥
not_four n (inl run) four = absurd (grind arith)
not_four n (inr seven) four = absurd (omega (arith, seven, four))

not_refused : (n : ℕ) → IsRunStatus n ⊎ (n ≡ 7) → (n ≡ 2) ⊎ (n ≡ 3) ⊎ (n ≡ 4) ⊎ (n ≡ 8) → ⊥
not_refused n (inl run) refused = absurd (grind arith)
not_refused n (inr seven) refused = absurd (grind arith)

module _ (options : RunOptions) (result : ℕ × Option Ran) (source sink faults : Stream) (gates : Gating) where
  abbrev Complete : List ℕ → Type 0
  Complete text = IsAccepted text → GrammaticalAt options source.before result.0

  abbrev Refused : List ℕ → Type 0
  Refused text = (error : TraceError) → IsFirstRefusal text error → (result.0 ≡ error_status error) ⊎ (result.0 ≡ 7)

  abbrev Ended : Ran → Type 0
  Ended back = (traces : ℕ)
      × HasRun options source.before traces back gates
      × HasEnded back traces (waits_out options.halts (words_in back).layout.runners) result.0 sink faults

  abbrev InOrder : Ran → Type 0
  InOrder back = (words_in back).layout.runners ≡ 1
      → (entries : List (Option Entry)) → HaveEntries (meaning_of back) (words_in back) entries → AreServedInOrder entries

  -- without a plan
  pub run_refused : (stop : Stop) → IsRefusedPlan options source.before stop → result.0 ≡ stop_status stop → result.1 ≡ None → Told (stop_line stop) faults → IsIdle gates
      → ((Fails source → ⊥) → IfSome source.before (MustPlan options (Err stop)))
      → (◌≡◌ {A = Result Plan Stop} (Err stop) (Err (Text ReadFault)) → Fails source × StopsBefore source.before source.after)
      → RunEnds options result source sink faults gates
  run_refused stop refused status none told idle must read = record {
    ran = none_ran options source.before stop result.0 result.1 refused status none;
    ended = if_none Ended result.1 none;
    in_order = if_none InOrder result.1 none;
    halted = λ one. absurd (not_run options source.before stop refused (inr (inl (sym status ∙ one))));
    idle = λ _. idle;
    unplanned = λ _. idle.plans;
    grammatical = λ steady. complete_refused options source.before stop result.0 status refused (must steady);
    another = λ steady. another_refused options source.before stop result.0 status (must steady);
    refused = λ steady. first_refused options source.before stop result.0 status (must steady);
    words = λ two. another_stop options source.before faults.before faults.after faults.faults_before faults.faults_after stop refused told (sym status ∙ two);
    malformed = λ three. malformed_stop options source.before faults.before faults.after faults.faults_before faults.faults_after stop refused told (sym status ∙ three);
    limit = λ four. limit_stop options source.before faults.before faults.after faults.faults_before faults.faults_after stop refused told (sym status ∙ four);
    memory = λ seven. subst (λ (s : Stop). Told (stop_line s) faults) (stop_at_7 stop (sym status ∙ seven)) told;
    read = λ eight.
        let same = stop_at_8 stop (sym status ∙ eight) in
        let parts = read (ap Err same) in
        (parts.0, parts.1, subst (λ (s : Stop). Told (stop_line s) faults) same told);
    write = λ nine. absurd (not_run options source.before stop refused (inr (inr (inr (inr (sym status ∙ nine))))));
  }

  -- for want of memory
  pub run_lacks : result.0 ≡ 7 → result.1 ≡ None → Told (codes "flock: memory\n") faults → (options.halts ≡ [] → gates.plans_after ≡ gates.plans_before)
      → RunEnds options result source sink faults gates
  run_lacks seven none told unplanned = record {
    ran = (λ some. absurd (none_back result.1 none some), λ run. absurd (not_seven result.0 run seven));
    ended = if_none Ended result.1 none;
    in_order = if_none InOrder result.1 none;
    halted = λ one. absurd (omega (arith, one, seven));
    idle = λ refused. absurd (grind (arith, refused, seven));
    unplanned = unplanned;
    grammatical = λ steady. any_text Complete source.before (λ text accepted. inr (inl seven));
    another = λ steady. any_text (AnotherAt options result.0) source.before (λ text traces are is_for. inr seven);
    refused = λ steady. any_text Refused source.before (λ text error first. inr seven);
    words = λ two. absurd (omega (arith, two, seven));
    malformed = λ three. absurd (omega (arith, three, seven));
    limit = λ four. absurd (omega (arith, four, seven));
    memory = λ _. told;
    read = λ eight. absurd (omega (arith, eight, seven));
    write = λ nine. absurd (omega (arith, nine, seven));
  }

  -- with a report
  pub run_reported : (plan : Plan) (ran : Ran) → IsPlanned options source.before plan
      → HasRunPlan plan ran gates
      → ((Fails source → ⊥) → IfSome source.before (MustPlan options (Ok plan)))
      → HasReported ran plan.traces.count (waits_out plan.options.halts plan.layout.runners) result sink faults
      → RunEnds options result source sink faults gates
  run_reported plan ran planned run must reported = record {
    ran = reported_ran ran plan.traces.count waits result sink faults reported;
    ended = reported_back ran plan.traces.count waits result sink faults reported Ended
        (λ ends. (
          plan.traces.count,
          run_is options source.before plan ran gates planned run,
          subst (λ (b : Bool). HasEnded ran plan.traces.count b result.0 sink faults) waits_are ends.ended,
        ));
    in_order = reported_back ran plan.traces.count waits result sink faults reported InOrder
        (λ ends one entries shown. served_in_order (meaning_of ran) (words_in ran) waits (answers_in ran) run.served one plan.traces.count
        (subst (λ (rs : List Request). AreInOrder rs plan.traces.count) (sym run.requests) planned.ordered) entries shown);
    idle = λ refused. absurd (not_refused result.0 status refused);
    unplanned = λ none. run.given.unplanned (ap (λ (o : RunOptions). names_below o.halts plan.layout.runners) planned.given
        ∙ ap (λ (hs : List Halt). names_below hs plan.layout.runners) none);
    halted = λ one. reported_halted ran plan.traces.count waits result sink faults reported gates run.given.halted one;
    grammatical = λ steady. any_text Complete source.before (λ text accepted. ⊎_elim (λ ends. inl ends) (λ seven. inr (inl seven)) status);
    another = λ steady. planned_another options source.before plan result.0 (must steady);
    refused = λ steady. planned_refused options source.before plan result.0 (must steady);
    words = λ two. absurd (not_two result.0 status two);
    malformed = λ three. absurd (not_three result.0 status three);
    limit = λ four. absurd (not_four result.0 status four);
    memory = λ seven. reported_memory ran plan.traces.count waits result sink faults reported seven;
    read = λ eight. absurd (reported_read ran plan.traces.count waits result sink faults reported eight);
    write = λ nine. reported_write ran plan.traces.count waits result sink faults reported nine;
  }
    where
      waits : Bool
      waits = waits_out plan.options.halts plan.layout.runners

      waits_are : waits ≡ waits_out options.halts (words_in ran).layout.runners
      waits_are = ap (λ (o : RunOptions). waits_out o.halts plan.layout.runners) planned.given
          ∙ ap (λ (l : Layout). waits_out options.halts l.runners) (sym run.layout)

      status : IsRunStatus result.0 ⊎ (result.0 ≡ 7)
      status = reported_status ran plan.traces.count waits result sink faults reported
