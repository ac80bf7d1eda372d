-- What the check of a whole input answers.
use Rattle.std.proofs.Common.{◌≡◌, ℕ, ◌+◌, ◌<◌, ◌≤◌, List, Result, Ok, Err, length, drop, inl, inr, refl, subst, sym, ap, arith}
use Rattle.std.specs.Result.{IsErr, IsErrAnd}
use Rattle.std.proofs.lemmas.List.{drop-drop, drop_all, length-drop}
use Rattle.report_check.specs.Parts.{IsLineAtFront}
use Rattle.report_check.specs.Inputs.{IsAnswerOf, IsTextOf}
use Rattle.report_check.specs.declared.verdict.Verdict.{Verdict}
use Rattle.report_check.specs.declared.whole.CheckError.{CheckError}
use Rattle.report_check.specs.declared.whole.CheckError.TheVariants.{Text}
use Rattle.trace_reader.specs.Answer.{IsAnswered}
use Rattle.trace_reader.specs.Lines.{lines_of}
use Rattle.trace_reader.specs.Text.{IsFirstRefusal}
use Rattle.trace_reader.specs.declared.traces.TraceError.{TraceError}
use Rattle.trace_reader.specs.declared.traces.TraceError.TheVariants.{ReadFault, Memory, TooLarge, Malformed, TooManyTraces, TooManyRequests}

-- so many lines were counted
pub record Counted (bytes : List ℕ) (at count : ℕ) : Type 0 where
  pub within : at ≤ length bytes
  pub few : count ≤ at
  pub lines : length (lines_of bytes) ≡ count + length (lines_of (drop at bytes))

pub counted_none : (bytes : List ℕ) → Counted bytes 0 0
counted_none bytes = record { within = omega arith; few = omega arith; lines = omega arith }

pub counted_more : (bytes : List ℕ) (at count end next : ℕ) → at < length bytes → Counted bytes at count → IsLineAtFront (drop at bytes) end next → Counted bytes (at + next) (count + 1)
counted_more bytes at count end next early counted front = record {
  within = omega (arith, front.ends, length-drop at bytes, early);
  few = omega (arith, counted.few, front.ends, length-drop at bytes, early);
  lines = omega (arith, counted.lines, ap length front.lines, ap (λ l. length (lines_of l)) (drop-drop next at bytes));
}

pub counted_all : (bytes : List ℕ) (at count : ℕ) → length bytes ≤ at → Counted bytes at count → count ≡ length (lines_of bytes)
counted_all bytes at count past counted = omega (arith, counted.lines, ap (λ l. length (lines_of l)) (drop_all at bytes past))

-- the text of the input is refused, or memory was wanting
module _ (input text : List ℕ) (within : length input ≤ 8388608) (is_text : IsTextOf input text) where
  refused_so : (error : TraceError) → IsFirstRefusal text error → IsAnswerOf (Err (Text error)) input
  refused_so error first = inr (inr (inl (record { within = within; text = text; is_text = is_text; why = error; first = first; is = refl })))

  pub refused_for : (error : TraceError) → IsAnswered (Err error) text → IsAnswerOf (Err (Text error)) input
  refused_for ReadFault answer = absurd answer
  refused_for Memory answer = inl (inl refl)
  refused_for (TooLarge bytes) answer = refused_so (TooLarge bytes) answer
  refused_for (Malformed line kind) answer = refused_so (Malformed line kind) answer
  refused_for (TooManyTraces count) answer = refused_so (TooManyTraces count) answer
  refused_for (TooManyRequests count) answer = refused_so (TooManyRequests count) answer

  pub refused_answer : (answer : Result Verdict CheckError) (error : TraceError) → IsAnswered (Err error) text → IsErr answer → IsErrAnd answer (λ e. e ≡ Text error) → IsAnswerOf answer input
  refused_answer (Ok verdict) error answered fails is = absurd (cc)
  refused_answer (Err e) error answered fails is = subst (λ (x : CheckError). IsAnswerOf (Err x) input) (sym is) (refused_for error answered)
