-- What a source that tells what it has left had before the reading.
use Rattle.std.proofs.Common.{◌≡◌, ℕ, List, [], ◌++◌, Option, None, Some, Result, Ok, Err, refl, sym, ap, ◌∙◌, subst, append_assoc, arith, ◌≤◌}
use Rattle.std.specs.Prelude.{IfSome, IsErrOf}
use Rattle.std.proofs.lemmas.List.{append-nil}
use Rattle.std.specs.Io.KnownBytes.{Keeps}
use Rattle.trace_reader.specs.declared.traces.Traces.{Traces}
use Rattle.trace_reader.specs.declared.traces.TraceError.{TraceError}
use Rattle.trace_reader.specs.declared.traces.TraceError.TheVariants.{ReadFault, Memory, TooLarge, Malformed, TooManyTraces, TooManyRequests}
use Rattle.trace_reader.specs.Answer.{Answers, IsAnswered, StopsBefore}
use Rattle.trace_reader.specs.Reader.{Refuses, StandsAt}
use Rattle.trace_reader.specs.declared.reader.Reader.{Reader}
use Rattle.trace_reader.specs.Lines.{ended}
use Rattle.trace_reader.proofs.Lines.{ended-append}
use Rattle.trace_reader.specs.Source.{Moves, EndsAt}

-- two reads, one after the other
pub Moves-append : (before between after : Option (List ℕ)) (first second : List ℕ) → Moves before first between → Moves between second after → Moves before (first ++ second) after
Moves-append None between after first second a b = tt
Moves-append (Some text) None after first second a b = absurd a
Moves-append (Some text) (Some rest) None first second a b = absurd b
Moves-append (Some text) (Some rest) (Some last) first second a b = a ∙ ap (λ l. first ++ l) b ∙ sym (append_assoc first second last)

-- no read yet
pub Moves-none : (left : Option (List ℕ)) → Moves left [] left
Moves-none None = tt
Moves-none (Some rest) = refl

-- a read that moved nothing
pub Moves-kept : (before between after : Option (List ℕ)) (bytes : List ℕ) → Moves before bytes between → Keeps between after → Moves before bytes after
Moves-kept None between after bytes a kept = tt
Moves-kept (Some text) None after bytes a kept = absurd a
Moves-kept (Some text) (Some rest) None bytes a kept = absurd kept
Moves-kept (Some text) (Some rest) (Some last) bytes a kept = a ∙ ap (λ l. bytes ++ l) (sym kept)

-- the whole text, where nothing is left behind what was read
pub whole_told : (before after : Option (List ℕ)) (text : List ℕ) (answer : Result Traces TraceError) → Moves before text after → EndsAt after → IsAnswered answer text → IfSome before (Answers answer)
whole_told None after text answer moved ends is = tt
whole_told (Some whole) None text answer moved ends is = absurd moved
whole_told (Some whole) (Some rest) text answer moved ends is =
    subst (λ (t : List ℕ). Answers answer t) (sym (moved ∙ ap (λ r. text ++ r) ends ∙ append-nil text)) (weaker answer is)
  where
    weaker : (answer : Result Traces TraceError) → IsAnswered answer text → Answers answer text
    weaker (Ok traces) is = is
    weaker (Err ReadFault) is = tt
    weaker (Err Memory) is = tt
    weaker (Err (TooLarge bytes)) is = is
    weaker (Err (Malformed line kind)) is = is
    weaker (Err (TooManyTraces count)) is = is
    weaker (Err (TooManyRequests count)) is = is

-- a refusal in the middle is that of the whole text
pub refused_told : (before after : Option (List ℕ)) (text : List ℕ) (error : TraceError) → Moves before text after → ((rest : List ℕ) → Refuses error (text ++ rest)) → IfSome before (Answers (Err error))
refused_told None after text error moved refuses = tt
refused_told (Some whole) None text error moved refuses = absurd moved
refused_told (Some whole) (Some rest) text error moved refuses = subst (λ (t : List ℕ). Answers (Err error) t) (sym moved) (weaker error (text ++ rest) (refuses rest))
  where
    weaker : (error : TraceError) (text : List ℕ) → Refuses error text → Answers (Err error) text
    weaker ReadFault text is = tt
    weaker Memory text is = tt
    weaker (TooLarge bytes) text is = is
    weaker (Malformed line kind) text is = is
    weaker (TooManyTraces count) text is = is
    weaker (TooManyRequests count) text is = is

-- a refusal of the text is no read fault
pub no_fault_refused : (error : TraceError) (text : List ℕ) → Refuses error text → ◌≡◌ {A = Result Traces TraceError} (Err error) (Err ReadFault) → ⊥
no_fault_refused ReadFault text refuses is = refuses
no_fault_refused Memory text refuses is = cc
no_fault_refused (TooLarge bytes) text refuses is = cc
no_fault_refused (Malformed line kind) text refuses is = cc
no_fault_refused (TooManyTraces count) text refuses is = cc
no_fault_refused (TooManyRequests count) text refuses is = cc

pub no_fault_answered : (answer : Result Traces TraceError) (text : List ℕ) → IsAnswered answer text → IsErrOf answer ReadFault → ⊥
no_fault_answered (Ok traces) text is fault = cc
no_fault_answered (Err ReadFault) text is fault = is
no_fault_answered (Err Memory) text is fault = cc
no_fault_answered (Err (TooLarge bytes)) text is fault = cc
no_fault_answered (Err (Malformed line kind)) text is fault = cc
no_fault_answered (Err (TooManyTraces count)) text is fault = cc
no_fault_answered (Err (TooManyRequests count)) text is fault = cc

-- the reading stops at a failed read, behind what was read before
pub stops : (before between : Option (List ℕ)) (reader : Reader) (text : List ℕ) → reader.bytes ≤ 4194304 → StandsAt reader text → Moves before text between → StopsBefore before between
stops before between reader text few at moved = record {
  text = text;
  taken = moved;
  within = omega (arith, at.bytes, few);
  none_refused = rw (ap ended at.cut ∙ ended-append at.lines reader.line.items [] ∙ append-nil at.lines) at.behind.none_refused;
}
