-- How the command `load` ends.
use Rattle.std.proofs.Common.{◌≡◌, ℕ, ◌<◌, Bool, true, List, [], Option, None, IfSome, codes, refl, sym, ap, ◌∙◌, ⊎_elim, inl, inr, subst, arith}
use Rattle.std.specs.Prelude.{◌⊎◌, ◌≤◌}
use Rattle.threaded_runs.specs.runner_gate.specs.fault_count.specs.Rose.{Rose}
use Rattle.machine_states.specs.map_history.specs.declared.op.Request.{Request}
use Rattle.machine_states.specs.map_history.specs.Requests.{AreInOrder}
use Rattle.machine_states.specs.table_words.specs.declared.layout.Layout.{Layout}
use Rattle.load_counts.specs.run_reports.specs.report_text.specs.Sink.{Extends, ExtendsInPart}
use Rattle.command_line.specs.trace_reader.specs.Generator.{generated}
use Rattle.command_line.specs.trace_reader.specs.declared.traces.TraceError.TheVariants.{ReadFault, Memory, TooLarge, Malformed, TooManyTraces, TooManyRequests}
use Rattle.load_counts.specs.Apart.{load_text}
use Rattle.command_line.specs.Halts.{names_below}
use Rattle.command_line.specs.declared.generated.LoadOptions.{LoadOptions}
use Rattle.command_line.specs.declared.halts.Halt.{Halt}
use Rattle.command_line.specs.declared.options.RunOptions.{RunOptions}
use Rattle.flock_tool.specs.Commands.{LoadRuns}
use Rattle.flock_tool.specs.End.{error_line, nodes_line, stop_line, stop_status}
use Rattle.flock_tool.specs.Loads.{EndsLoad, HasCounted, HasLoaded, HasLoadRun}
use Rattle.flock_tool.specs.Plans.{IsLoadPlanned, IsRefusedLoad, IsTooMuch, LoadAsksTooMuch, all_nodes, all_requests, layout_by}
use Rattle.flock_tool.specs.Runs.{words_in, answers_in, waits_out, HasRunPlan, IsRunStatus}
use Rattle.flock_tool.specs.Streams.{Gating, IsIdle, IsUntouched, Stream, Told}
use Rattle.flock_tool.specs.declared.plan.Plan.{Plan}
use Rattle.flock_tool.specs.declared.ran.Ran.{Ran}
use Rattle.flock_tool.specs.declared.status.Stop.{Stop}
use Rattle.flock_tool.specs.declared.status.Stop.TheVariants.{Words, Text, Nodes, WriteFault}
use Rattle.flock_tool.proofs.Finishing.{halts_rise}
use Rattle.flock_tool.proofs.Reported.{none_back, not_seven, some_back}
use Rattle.flock_tool.proofs.Reporting.{load_run_is}
use Rattle.flock_tool.proofs.Running.{if_none}

-- too many node slots for generated requests
pub load_nodes : (load : LoadOptions) (count : ℕ) (requests : List Request) (stop : Stop) → count ≡ load.plan.traces → requests ≡ generated load.plan
    → all_requests load.plan ≤ 131072 → IsTooMuch (layout_by load.run count requests) stop → IsRefusedLoad load stop
load_nodes load count requests Words counted are few much = much
load_nodes load count requests (Text error) counted are few much = absurd much
load_nodes load count requests WriteFault counted are few much = much
load_nodes load count requests (Nodes slots) counted are few much = (
  few,
  record {
    count = much.0 ∙ ap (λ n. all_nodes (layout_by load.run n requests)) counted ∙ ap (λ (r : List Request). all_nodes (layout_by load.run load.plan.traces r)) are;
    much = much.1;
  },
)

-- the status where there is no plan
refused_status : (load : LoadOptions) (stop : Stop) → IsRefusedLoad load stop → (stop_status stop ≡ 4) ⊎ (stop_status stop ≡ 7)
refused_status load Words refused = absurd refused
refused_status load (Text ReadFault) refused = absurd refused
refused_status load (Text Memory) refused = inr refl
refused_status load (Text (TooLarge bytes)) refused = absurd refused
refused_status load (Text (Malformed line kind)) refused = absurd refused
refused_status load (Text (TooManyTraces count)) refused = absurd refused
refused_status load (Text (TooManyRequests count)) refused = inl refl
refused_status load (Nodes count) refused = inl refl
refused_status load WriteFault refused = absurd refused

no_run : (n : ℕ) → (n ≡ 4) ⊎ (n ≡ 7) → IsRunStatus n → ⊥
no_run n (inl four) run = absurd (grind arith)
no_run n (inr seven) run = absurd (grind arith)

no_4 : (n : ℕ) → IsRunStatus n → n ≡ 4 → ⊥
no_4 n run four = absurd (grind arith)

module _ (load : LoadOptions) (faults : Stream) where
  refused_limit : (stop : Stop) → IsRefusedLoad load stop → Told (stop_line stop) faults → stop_status stop ≡ 4
      → ((131072 < all_requests load.plan) × Told (error_line (TooManyRequests (all_requests load.plan))) faults)
      ⊎ ((all_requests load.plan ≤ 131072) × ((count : ℕ) × (LoadAsksTooMuch load count × Told (nodes_line count) faults)))
  refused_limit Words refused told four = absurd refused
  refused_limit (Text ReadFault) refused told four = absurd refused
  refused_limit (Text Memory) refused told four = absurd (omega (arith, four))
  refused_limit (Text (TooLarge bytes)) refused told four = absurd refused
  refused_limit (Text (Malformed line kind)) refused told four = absurd refused
  refused_limit (Text (TooManyTraces count)) refused told four = absurd refused
  refused_limit (Text (TooManyRequests count)) refused told four =
      inl (subst (λ n. 131072 < n) refused.0 refused.1, subst (λ n. Told (error_line (TooManyRequests n)) faults) refused.0 told)
  refused_limit (Nodes count) refused told four = inr (refused.0, (count, (refused.1, told)))
  refused_limit WriteFault refused told four = absurd refused

  refused_memory : (stop : Stop) → IsRefusedLoad load stop → Told (stop_line stop) faults → stop_status stop ≡ 7 → Told (codes "flock: memory\n") faults
  refused_memory Words refused told seven = absurd refused
  refused_memory (Text ReadFault) refused told seven = absurd refused
  refused_memory (Text Memory) refused told seven = told
  refused_memory (Text (TooLarge bytes)) refused told seven = absurd refused
  refused_memory (Text (Malformed line kind)) refused told seven = absurd refused
  refused_memory (Text (TooManyTraces count)) refused told seven = absurd refused
  refused_memory (Text (TooManyRequests count)) refused told seven = absurd (omega (arith, seven))
  refused_memory (Nodes count) refused told seven = absurd (omega (arith, seven))
  refused_memory WriteFault refused told seven = absurd refused

module _ (load : LoadOptions) (result : ℕ × Option Ran) (sink faults : Stream) (gates : Gating) where
  abbrev Ended : Ran → Type 0
  Ended back =
      HasLoadRun load back gates
      × HasCounted back (waits_out load.run.halts (words_in back).layout.runners) result.0 sink faults

  -- without a plan
  pub load_refused : (stop : Stop) → IsRefusedLoad load stop → result.0 ≡ stop_status stop → result.1 ≡ None → Told (stop_line stop) faults → IsUntouched sink → (result.0 ≡ 4 → IsIdle gates)
      → (load.run.halts ≡ [] → gates.plans_after ≡ gates.plans_before) → LoadRuns load result sink faults gates
  load_refused stop refused status none told untouched idle unplanned = record {
    ran = (λ some. absurd (none_back result.1 none some), λ run. absurd (no_run result.0 is run));
    statuses = ⊎_elim (λ four. inr (inl four)) (λ seven. inr (inr seven)) is;
    ended = if_none Ended result.1 none;
    printed = λ zero. absurd (no_run result.0 is (inl zero));
    halted = λ one. absurd (no_run result.0 is (inr (inl one)));
    limit = λ four. refused_limit load faults stop refused told (sym status ∙ four);
    idle = idle;
    unplanned = unplanned;
    many = λ much. is;
    memory = λ seven. refused_memory load faults stop refused told (sym status ∙ seven);
    write = λ nine. absurd (no_run result.0 is (inr (inr (inr (inr nine)))));
    silent = λ _. untouched.same;
    steady = λ _. untouched.steady;
  }
    where
      is : (result.0 ≡ 4) ⊎ (result.0 ≡ 7)
      is = ⊎_elim (λ four. inl (status ∙ four)) (λ seven. inr (status ∙ seven)) (refused_status load stop refused)

  unplanned_by : (plan : Plan) (ran : Ran) → IsLoadPlanned load plan → HasRunPlan plan ran gates → load.run.halts ≡ [] → gates.plans_after ≡ gates.plans_before
  unplanned_by plan ran planned run none = run.given.unplanned (ap (λ (o : RunOptions). names_below o.halts plan.layout.runners) planned.given
      ∙ ap (λ (hs : List Halt). names_below hs plan.layout.runners) none)

  -- with counts
  pub load_ended : (plan : Plan) (ran : Ran) → IsLoadPlanned load plan → load.plan.apart ≡ true
      → HasRunPlan plan ran gates → (131072 < all_requests load.plan → ⊥)
      → EndsLoad ran (waits_out plan.options.halts plan.layout.runners) result sink faults
      → LoadRuns load result sink faults gates
  load_ended plan ran planned own run few ends = record {
    ran = (λ some. ends.status, λ status. some_back result.1 ran ends.back);
    statuses = inl ends.status;
    ended = subst (λ (back : Option Ran). IfSome back Ended) (sym ends.back)
        (load_run_is load plan ran gates planned run, subst (λ (b : Bool). HasCounted ran b result.0 sink faults) waits_are ends.counted);
    printed = λ zero. subst (λ (t : List ℕ). Extends sink.before t sink.after) (text_is (inl zero)) (ends.counted.whole zero);
    halted = λ one. subst (Rose gates.halts_before) (sym run.given.halted) (halts_rise gates.halts_before (answers_in ran) (ends.counted.halted one));
    limit = λ four. absurd (no_4 result.0 ends.status four);
    idle = λ four. absurd (no_4 result.0 ends.status four);
    unplanned = unplanned_by plan ran planned run;
    many = λ much. absurd (few much);
    memory = λ seven. absurd (not_seven result.0 ends.status seven);
    write = λ nine.
        let part = ends.counted.in_part nine in
        (part.1, subst (λ (t : List ℕ). ExtendsInPart sink.before t sink.after) (text_is (inr nine)) part.0, ends.counted.failed nine);
    silent = λ not. absurd (not ends.status);
    steady = ends.counted.steady;
  }
    where
      waits_are : waits_out plan.options.halts plan.layout.runners ≡ waits_out load.run.halts (words_in ran).layout.runners
      waits_are = ap (λ (o : RunOptions). waits_out o.halts plan.layout.runners) planned.given
          ∙ ap (λ (l : Layout). waits_out load.run.halts l.runners) (sym run.layout)

      requests : (words_in ran).requests ≡ generated load.plan
      requests = run.requests ∙ planned.requests

      ordered : AreInOrder (words_in ran).requests load.plan.traces
      ordered = subst (AreInOrder (words_in ran).requests) planned.count (subst (λ (r : List Request). AreInOrder r plan.traces.count) (sym run.requests) planned.ordered)

      text_is : (result.0 ≡ 0) ⊎ (result.0 ≡ 9) → ends.counted.text ≡ load_text load.plan
      text_is printed = ends.counted.text_is (ends.counted.all printed) load.plan own requests ordered

  pub load_loaded : (plan : Plan) (ran : Ran) → IsLoadPlanned load plan → load.plan.apart ≡ true
      → HasRunPlan plan ran gates → (131072 < all_requests load.plan → ⊥)
      → HasLoaded ran (waits_out plan.options.halts plan.layout.runners) result sink faults
      → LoadRuns load result sink faults gates
  load_loaded plan ran planned own run few loaded =
      ⊎_elim (load_ended plan ran planned own run few)
      (λ lacks. load_refused (Text Memory) tt lacks.status lacks.none lacks.memory (record { same = lacks.silent; steady = lacks.steady })
      (λ four. absurd (omega (arith, four, lacks.status))) (unplanned_by plan ran planned run)) loaded
