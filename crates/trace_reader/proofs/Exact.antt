-- A text has one first refusal, or none: so the answer to it is settled.
use Rattle.std.proofs.Common.{◌≡◌, ℕ, List, Option, None, Some, Result, Ok, Err, refl, sym, ap, ◌∙◌, arith, ⊎_elim, inl, inr, IfSome, rules}
use Rattle.std.specs.Prelude.{IsErrOf}
use Rattle.std.proofs.lemmas.Bool.{cases_lt}
use Rattle.trace_reader.specs.declared.traces.Traces.{Traces}
use Rattle.trace_reader.specs.declared.traces.TraceError.{TraceError}
use Rattle.trace_reader.specs.declared.traces.TraceError.TheVariants.{ReadFault, Memory, TooLarge, Malformed, TooManyTraces, TooManyRequests}
use Rattle.trace_reader.specs.Answer.{Answers, IsExact}
use Rattle.trace_reader.specs.Text.{refusal_at, IsFirstRefusal, IsAccepted}

nothing : {A : Type 0} (e : TraceError) (o : Option TraceError) → o ≡ Some e → o ≡ None → A
nothing e o some none = absurd (cc)

-- an accepted text has no refusal
accepted_only : (text : List ℕ) (error : TraceError) → IsAccepted text → IsFirstRefusal text error → ⊥
accepted_only text error accepted first = nothing error _ first.refused (accepted first.place first.within)

some_same : (a b : TraceError) → ◌≡◌ {A = Option TraceError} (Some a) (Some b) → a ≡ b
some_same a b e = cc

-- two first refusals are one
one_first : (text : List ℕ) (a b : TraceError) → IsFirstRefusal text a → IsFirstRefusal text b → a ≡ b
one_first text a b first second =
    ⊎_elim
    (λ before. nothing a _ first.refused (second.none_before first.place before))
    (λ not_before. ⊎_elim
    (λ behind. nothing b _ second.refused (first.none_before second.place behind))
    (λ not_behind.
    let same : first.place ≡ second.place = omega arith in
    some_same a b (sym first.refused ∙ ap (refusal_at text) same ∙ second.refused))
    (cases_lt second.place first.place))
    (cases_lt first.place second.place)

by_refusal : (text : List ℕ) (error : TraceError) → IsFirstRefusal text error → ◌≡◌ {A = Result Traces TraceError} (Err error) (Err error) → IsExact (Err error) text
by_refusal text error is e = record {
  accepted = λ accepted. absurd (accepted_only text error accepted is);
  refused = λ other first. inl (ap Err (one_first text error other is first));
}

exact : (text : List ℕ) (answer : Result Traces TraceError) → Answers answer text → (IsErrOf answer ReadFault → ⊥) → IsExact answer text
exact text (Ok traces) is no_fault = record {
  accepted = λ accepted. inl (search rules);
  refused = λ error first. absurd (accepted_only text error is.accepted first);
}
exact text (Err ReadFault) is no_fault = absurd (no_fault refl)
exact text (Err Memory) is no_fault = record { accepted = λ accepted. inr refl; refused = λ error first. inr refl }
exact text (Err (TooLarge bytes)) is no_fault = by_refusal text _ is refl
exact text (Err (Malformed line kind)) is no_fault = by_refusal text _ is refl
exact text (Err (TooManyTraces count)) is no_fault = by_refusal text _ is refl
exact text (Err (TooManyRequests count)) is no_fault = by_refusal text _ is refl

pub exact_told : (left : Option (List ℕ)) (answer : Result Traces TraceError) → IfSome left (Answers answer) → (IsErrOf answer ReadFault → ⊥) → IfSome left (IsExact answer)
exact_told None answer is no_fault = tt
exact_told (Some text) answer is no_fault = exact text answer is no_fault
