-- How the command `gen` ends.
use Rattle.std.proofs.Common.{◌≡◌, ℕ, ◌<◌, refl, inl, inr, subst, arith}
use Rattle.command_line.specs.trace_reader.specs.declared.generator.Gen.{Gen}
use Rattle.command_line.specs.trace_reader.specs.declared.traces.TraceError.TheVariants as errors
use Rattle.printed_traces.specs.Ends.{IsPlanInRange, IsRead, Prints, Stops}
use Rattle.printed_traces.specs.declared.print.PrintStop.{PrintStop}
use Rattle.printed_traces.specs.declared.print.PrintStop.TheVariants.{TooManyRequests, Memory, WriteFault}
use Rattle.command_line.specs.Generated.{ArePlanRanges}
use Rattle.flock_tool.specs.Commands.{GenPrints}
use Rattle.flock_tool.specs.End.{error_line, print_stop, stop_line, stop_status}
use Rattle.flock_tool.specs.Plans.{all_requests}
use Rattle.flock_tool.specs.Streams.{IsUntouched, Stream, Told}

pub in_range : (plan : Gen) → ArePlanRanges plan → IsPlanInRange plan
in_range plan ranges = record { seed = ranges.seed; traces = ranges.traces; count = ranges.count; some_keys = ranges.some_keys; keys = ranges.keys }

pub gen_done : (plan : Gen) (sink faults : Stream) → Prints plan sink.before sink.after → IsRead plan → sink.faults_after ≡ sink.faults_before → IsUntouched faults
    → (131072 < all_requests plan → ⊥) → GenPrints plan 0 sink faults
gen_done plan sink faults prints read steady untouched few = record {
  statuses = inl refl;
  printed = λ _. (prints, read, untouched);
  limit = λ four. absurd (omega (arith, four));
  many = λ much. absurd (few much);
  memory = λ seven. absurd (omega (arith, seven));
  write = λ nine. absurd (omega (arith, nine));
  silent = λ not _. absurd (not refl);
  steady = λ _. steady;
}

pub gen_stopped : (plan : Gen) (error : PrintStop) (number : ℕ) (sink faults : Stream) → Stops error plan sink.before sink.after sink.faults_before sink.faults_after
    → number ≡ stop_status (print_stop error) → Told (stop_line (print_stop error)) faults → (131072 < all_requests plan → error ≡ TooManyRequests (all_requests plan))
    → GenPrints plan number sink faults
gen_stopped plan (TooManyRequests count) number sink faults stops is told many = record {
  statuses = inr (inl is);
  printed = λ zero. absurd (omega (arith, zero, is));
  limit = λ _. (subst (λ n. 131072 < n) stops.0 stops.1, subst (λ n. Told (error_line (errors.TooManyRequests n)) faults) stops.0 told);
  many = λ _. inl is;
  memory = λ seven. absurd (omega (arith, seven, is));
  write = λ nine. absurd (omega (arith, nine, is));
  silent = λ _ _. stops.2;
  steady = λ _. stops.3;
}
gen_stopped plan Memory number sink faults stops is told many = record {
  statuses = inr (inr (inl is));
  printed = λ zero. absurd (omega (arith, zero, is));
  limit = λ four. absurd (omega (arith, four, is));
  many = λ _. inr is;
  memory = λ _. told;
  write = λ nine. absurd (omega (arith, nine, is));
  silent = λ _ _. stops.0;
  steady = λ _. stops.1;
}
gen_stopped plan WriteFault number sink faults stops is told many = record {
  statuses = inr (inr (inr is));
  printed = λ zero. absurd (omega (arith, zero, is));
  limit = λ four. absurd (omega (arith, four, is));
  many = λ much. absurd (other (many much));
  memory = λ seven. absurd (omega (arith, seven, is));
  write = λ _. (stops.0, stops.1, told);
  silent = λ _ not. absurd (not is);
  steady = λ not. absurd (not is);
}
  where
    other : WriteFault ≡ TooManyRequests (all_requests plan) → ⊥
    other same = cc
