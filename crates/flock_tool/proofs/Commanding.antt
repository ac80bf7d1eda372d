-- From how each command ends to the clauses of the top call.
use Rattle.std.proofs.Common.{◌≡◌, ◌≢◌, ℕ, List, Option, None, Some, IsSome, codes, refl, sym, ◌∙◌, ⊎_elim, inl, inr, subst, arith}
use Rattle.std.specs.Prelude.{◌⊎◌, ◌↔◌, ◌≤◌}
use Rattle.command_line.specs.trace_reader.specs.declared.generator.Gen.{Gen}
use Rattle.command_line.specs.trace_reader.specs.declared.traces.TraceError.TheVariants.{ReadFault, Memory, TooLarge, Malformed, TooManyTraces, TooManyRequests}
use Rattle.command_line.specs.Commands.{AreAccepted, IsCommand}
use Rattle.command_line.specs.declared.command.Command.{Command}
use Rattle.command_line.specs.declared.command.Command.TheVariants as commands
use Rattle.command_line.specs.declared.generated.LoadOptions.{LoadOptions}
use Rattle.flock_tool.specs.Commands.{Ends, GenPrints, IsNoCommand, LoadRuns, RefusedEnds}
use Rattle.flock_tool.specs.End.{stop_line, stop_status}
use Rattle.flock_tool.specs.Runs.{IsRunStatus}
use Rattle.flock_tool.specs.Streams.{Gating, IsIdle, IsUntouched, Stream, Told}
use Rattle.flock_tool.specs.declared.ran.Ran.{Ran}
use Rattle.flock_tool.specs.declared.status.Stop.{Stop}
use Rattle.flock_tool.specs.declared.status.Stop.TheVariants.{Words, Text, Nodes, WriteFault}
use Rattle.flock_tool.proofs.CheckPrinting.{check_lacks}
use Rattle.flock_tool.proofs.Ends.{stop_at_2, stop_at_7}
use Rattle.flock_tool.proofs.Loading.{load_refused}
use Rattle.flock_tool.proofs.Reported.{some_back}
use Rattle.flock_tool.proofs.Running.{run_lacks}

abbrev IsOne : List (List ℕ) → Type 0
IsOne words = (first second : Command) → IsCommand words first → IsCommand words second → first ≡ second

module _ (result : ℕ × Option Ran) (source sink faults : Stream) (gates : Gating) where
  -- what holds of the command that was read holds of each that the words are
  pub of_one : (words : List (List ℕ)) (read : Command) → IsOne words → IsCommand words read → Ends read result source sink faults gates
      → (command : Command) → IsCommand words command → Ends command result source sink faults gates
  of_one words read one is ends command other = subst (λ (c : Command). Ends c result source sink faults gates) (one read command is other) ends

  -- for want of memory
  lacks : (command : Command) → result.0 ≡ 7 → result.1 ≡ None → Told (codes "flock: memory\n") faults → IsUntouched source → IsUntouched sink
      → IsIdle gates → Ends command result source sink faults gates
  lacks (commands.Run options) seven none told unread untouched idle = run_lacks options result source sink faults gates seven none told (λ _. idle.plans)
  lacks (commands.Gen plan) seven none told unread untouched idle = record {
    none = none;
    unread = unread;
    idle = idle;
    prints = record {
      statuses = inr (inr (inl seven));
      printed = λ zero. absurd (omega (arith, zero, seven));
      limit = λ four. absurd (omega (arith, four, seven));
      many = λ _. inr seven;
      memory = λ _. told;
      write = λ nine. absurd (omega (arith, nine, seven));
      silent = λ _ _. untouched.same;
      steady = λ _. untouched.steady;
    };
  }
  lacks (commands.Load load) seven none told unread untouched idle = record {
    unread = unread;
    runs = load_refused load result sink faults gates (Text Memory) tt seven none told untouched (λ _. idle) (λ _. idle.plans);
  }
  lacks commands.Check seven none told unread untouched idle = record {
    none = none;
    idle = idle;
    prints = check_lacks result.0 source sink faults seven told unread untouched;
  }

  -- no command was read
  pub of_none : (words : List (List ℕ)) (stop : Stop) → IsNoCommand words stop → result.0 ≡ stop_status stop → result.1 ≡ None → Told (stop_line stop) faults
      → IsUntouched source → IsUntouched sink → IsIdle gates → (command : Command) → IsCommand words command → Ends command result source sink faults gates
  of_none words Words refused status none told unread untouched idle command is = absurd (refused (command, is))
  of_none words (Text ReadFault) refused status none told unread untouched idle command is = absurd refused
  of_none words (Text Memory) refused status none told unread untouched idle command is = lacks command status none told unread untouched idle
  of_none words (Text (TooLarge bytes)) refused status none told unread untouched idle command is = absurd refused
  of_none words (Text (Malformed line kind)) refused status none told unread untouched idle command is = absurd refused
  of_none words (Text (TooManyTraces count)) refused status none told unread untouched idle command is = absurd refused
  of_none words (Text (TooManyRequests count)) refused status none told unread untouched idle command is = absurd refused
  of_none words (Nodes count) refused status none told unread untouched idle command is = absurd refused
  of_none words WriteFault refused status none told unread untouched idle command is = absurd refused

-- the status where no command was read
pub none_status : (words : List (List ℕ)) (stop : Stop) → IsNoCommand words stop → (stop_status stop ≡ 2) ⊎ (stop_status stop ≡ 7)
none_status words Words refused = inl refl
none_status words (Text ReadFault) refused = absurd refused
none_status words (Text Memory) refused = inr refl
none_status words (Text (TooLarge bytes)) refused = absurd refused
none_status words (Text (Malformed line kind)) refused = absurd refused
none_status words (Text (TooManyTraces count)) refused = absurd refused
none_status words (Text (TooManyRequests count)) refused = absurd refused
none_status words (Nodes count) refused = absurd refused
none_status words WriteFault refused = absurd refused

-- words that are no command are refused
pub refused_ends : (result : ℕ × Option Ran) (source sink faults : Stream) (gates : Gating) (words : List (List ℕ)) (stop : Stop) → IsNoCommand words stop
    → result.0 ≡ stop_status stop → result.1 ≡ None → Told (stop_line stop) faults → IsUntouched source → IsUntouched sink → IsIdle gates
    → RefusedEnds result source sink faults gates
refused_ends result source sink faults gates words stop refused status none told unread untouched idle = record {
  status = ⊎_elim (λ two. inl (status ∙ two)) (λ seven. inr (status ∙ seven)) (none_status words stop refused);
  none = none;
  unread = unread;
  silent = untouched;
  idle = idle;
  words = λ two. subst (λ (s : Stop). Told (stop_line s) faults) (stop_at_2 stop (sym status ∙ two)) told;
  memory = λ seven. subst (λ (s : Stop). Told (stop_line s) faults) (stop_at_7 stop (sym status ∙ seven)) told;
}

-- where nothing was run nothing comes back
pub back_none : (result : ℕ × Option Ran) → IsSome result.1 ↔ IsRunStatus result.0 → (IsRunStatus result.0 → ⊥) → result.1 ≡ None
back_none result ran not = by result.1 (λ some. not (ran.0 some))
  where
    by : (back : Option Ran) → (IsSome back → ⊥) → back ≡ None
    by None absent = refl
    by (Some ran) absent = absurd (absent (some_back (Some ran) ran refl))

pub none_accepted : (words : List (List ℕ)) (stop : Stop) → IsNoCommand words stop → AreAccepted words → stop_status stop ≢ 2
none_accepted words Words refused accepted two = refused accepted
none_accepted words (Text ReadFault) refused accepted two = refused
none_accepted words (Text Memory) refused accepted two = absurd (omega (arith, two))
none_accepted words (Text (TooLarge bytes)) refused accepted two = refused
none_accepted words (Text (Malformed line kind)) refused accepted two = refused
none_accepted words (Text (TooManyTraces count)) refused accepted two = refused
none_accepted words (Text (TooManyRequests count)) refused accepted two = refused
none_accepted words (Nodes count) refused accepted two = refused
none_accepted words WriteFault refused accepted two = refused

-- the clauses on every status, from those on one command
pub gen_few : (plan : Gen) (number : ℕ) (sink faults : Stream) → GenPrints plan number sink faults → (number ≢ 2) × (number ≤ 9)
gen_few plan number sink faults prints = (λ two. absurd (grind (arith, prints.statuses)), grind (arith, prints.statuses))

pub load_few : (load : LoadOptions) (result : ℕ × Option Ran) (sink faults : Stream) (gates : Gating) → LoadRuns load result sink faults gates → (result.0 ≢ 2) × (result.0 ≤ 9)
load_few load result sink faults gates runs = (λ two. absurd (grind (arith, runs.statuses)), grind (arith, runs.statuses))
