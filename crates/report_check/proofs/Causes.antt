-- The causes of the answers to an input exclude one another.
use Rattle.std.proofs.Common.{◌≡◌, ◌⊎◌, ℕ, List, [], ◌∷◌, ◌++◌, Option, None, Some, IfSome, Result, Ok, Err, length, take, drop, ⊎_elim, inl, inr, refl, sym, ap, ◌∙◌, subst, arith}
use Rattle.std.specs.Prelude.{flat_map}
use Rattle.std.proofs.lemmas.List.Elements.{All-head, All-tail}
use Rattle.report_check.specs.Inputs.{ArePartsOf, HasLegalReport, HasReport, IsAnswerOf, IsJudged, IsRefusedFor, IsExactOf, IsTextOf, IsWant, Lacks}
use Rattle.report_check.specs.Parts.{AreParted, IsReportLine, NonePart}
use Rattle.report_check.specs.Verdicts.{IsLegalReport}
use Rattle.report_check.specs.declared.verdict.Verdict.{Verdict}
use Rattle.report_check.specs.declared.verdict.Verdict.TheVariants.{Legal}
use Rattle.report_check.specs.declared.whole.CheckError.{CheckError}
use Rattle.report_check.specs.declared.whole.CheckError.TheVariants.{Text}
use Rattle.trace_reader.specs.Lines.{lines_of}
use Rattle.trace_reader.specs.Printed.{with_feed}
use Rattle.trace_reader.specs.Text.{IsAccepted, IsFirstRefusal, refusal_at, requests_of, traces_of}
use Rattle.trace_reader.specs.declared.traces.Traces.{Traces}
use Rattle.trace_reader.specs.declared.traces.TraceError.{TraceError}
use Rattle.trace_reader.specs.declared.traces.TraceError.TheVariants.{ReadFault, Memory, TooLarge, Malformed, TooManyTraces, TooManyRequests}
use Rattle.trace_reader.proofs.Exact.{exact_told}

abbrev Other : List ℕ → Type 0
Other line = IsReportLine line → ⊥

-- ---- the line that parts an input is its first one

-- of two ways to come to a first such line both come to the same
first_once : (before also : List (List ℕ)) (line other : List ℕ) (after more : List (List ℕ)) → NonePart before → NonePart also → IsReportLine line → IsReportLine other
    → before ++ line ∷ after ≡ also ++ other ∷ more → (before ≡ also) × (line ≡ other)
first_once [] [] line other after more none none_also is is_other same = (refl, cc)
first_once [] (x ∷ also) line other after more none none_also is is_other same =
    let first : line ≡ x = cc in absurd (All-head Other x also none_also (subst IsReportLine first is))
first_once (x ∷ before) [] line other after more none none_also is is_other same =
    let first : other ≡ x = cc in absurd (All-head Other x before none (subst IsReportLine first is_other))
first_once (x ∷ before) (y ∷ also) line other after more none none_also is is_other same =
    let first : x ≡ y = cc in
    let rest : before ++ line ∷ after ≡ also ++ other ∷ more = cc in
    let once = first_once before also line other after more (All-tail Other x before none) (All-tail Other y also none_also) is is_other rest in
    ((λ i. first i ∷ once.0 i), once.1)

-- where it stands, some line parts the input
some_parts : (before : List (List ℕ)) (line : List ℕ) (after : List (List ℕ)) → NonePart (before ++ line ∷ after) → IsReportLine line → ⊥
some_parts [] line after none is = All-head Other line after none is
some_parts (x ∷ before) line after none is = some_parts before line after (All-tail Other x (before ++ line ∷ after) none) is

parted_or_none : (input : List ℕ) (begin end : ℕ) → AreParted input begin end → NonePart (lines_of input) → ⊥
parted_or_none input begin end parted none = some_parts parted.before parted.line parted.after (subst NonePart parted.lines none) parted.is

-- an input has one text, and one report
parts_once : (input text report other more : List ℕ) → ArePartsOf input text report → ArePartsOf input other more → (text ≡ other) × (report ≡ more)
parts_once input text report other more one also =
    let a = one.parted in
    let b = also.parted in
    let once = first_once a.before b.before a.line b.line a.after b.after a.none_before b.none_before a.is b.is (sym a.lines ∙ b.lines) in
    let begins : one.begin ≡ also.begin = a.begins ∙ ap (λ (l : List (List ℕ)). length (flat_map with_feed l)) once.0 ∙ sym b.begins in
    let ends : one.end ≡ also.end = omega (arith, a.ends, b.ends, begins, ap length once.1) in
    (one.text_is ∙ ap (λ n. take n input) begins ∙ sym also.text_is, one.report_is ∙ ap (λ n. drop n input) ends ∙ sym also.report_is)

text_once : (input text other : List ℕ) → IsTextOf input text → IsTextOf input other → text ≡ other
text_once input text other (inl (report, parts)) (inl (more, also)) = (parts_once input text report other more parts also).0
text_once input text other (inl (report, parts)) (inr (none, same)) = absurd (parted_or_none input parts.begin parts.end parts.parted none)
text_once input text other (inr (none, same)) (inl (report, parts)) = absurd (parted_or_none input parts.begin parts.end parts.parted none)
text_once input text other (inr (none, same)) (inr (also, is)) = same ∙ sym is

-- ---- a text is refused for one thing, or for none

accepted_only : (text : List ℕ) (error : TraceError) → IsAccepted text → IsFirstRefusal text error → ⊥
accepted_only text error accepted first = clash error (refusal_at text first.place) first.refused (accepted first.place first.within)
  where
    clash : (e : TraceError) (o : Option TraceError) → o ≡ Some e → o ≡ None → ⊥
    clash e o some none = cc

err_same : (a b : TraceError) → ◌≡◌ {A = Result Traces TraceError} (Err a) (Err b) → a ≡ b
err_same a b e = cc

same_or_memory : (a b : TraceError) → (◌≡◌ {A = Result Traces TraceError} (Err a) (Err b)) ⊎ (◌≡◌ {A = Result Traces TraceError} (Err a) (Err Memory)) → (a ≡ b) ⊎ (a ≡ Memory) ⊎ (a ≡ ReadFault)
same_or_memory a b (inl same) = inl (err_same a b same)
same_or_memory a b (inr memory) = inr (inl (err_same a Memory memory))

-- two first refusals are one, where they are refusals
one_refusal : (text : List ℕ) (a b : TraceError) → IsFirstRefusal text a → IsFirstRefusal text b → (a ≡ b) ⊎ (a ≡ Memory) ⊎ (a ≡ ReadFault)
one_refusal text ReadFault b first second = inr (inr refl)
one_refusal text Memory b first second = inr (inl refl)
one_refusal text (TooLarge bytes) b first second =
    same_or_memory _ b ((exact_told (Some text) (Err (TooLarge bytes)) first (λ is. cc)).refused b second)
one_refusal text (Malformed line kind) b first second =
    same_or_memory _ b ((exact_told (Some text) (Err (Malformed line kind)) first (λ is. cc)).refused b second)
one_refusal text (TooManyTraces count) b first second =
    same_or_memory _ b ((exact_told (Some text) (Err (TooManyTraces count)) first (λ is. cc)).refused b second)
one_refusal text (TooManyRequests count) b first second =
    same_or_memory _ b ((exact_told (Some text) (Err (TooManyRequests count)) first (λ is. cc)).refused b second)

-- ---- an input has one cause

judged_has : (verdict : Verdict) (input : List ℕ) → IsJudged verdict input → HasReport input
judged_has verdict input judged = record { within = judged.within; text = judged.text; report = judged.report; parts = judged.parts; accepted = judged.are.accepted }

legal_has : (input : List ℕ) → HasLegalReport input → HasReport input
legal_has input has = record { within = has.within; text = has.text; report = has.report; parts = has.parts; accepted = has.accepted }

-- an input with a report isn't refused
never_refused : (input : List ℕ) (error : CheckError) → HasReport input → IsRefusedFor input error → ⊥
never_refused input error has (inl (large, is)) = let within = has.within in omega (arith, within, large)
never_refused input error has (inr (inl refused)) =
    let same = text_once input has.text refused.text (inl (has.report, has.parts)) refused.is_text in
    accepted_only refused.text refused.why (subst IsAccepted same has.accepted) refused.first
never_refused input error has (inr (inr lacks)) = parted_or_none input has.parts.begin has.parts.end has.parts.parted lacks.none

-- a legal report is judged legal
legal_judged : (verdict : Verdict) (input : List ℕ) → IsJudged verdict input → HasLegalReport input → verdict ≡ Legal
legal_judged verdict input judged has =
    let same = parts_once input has.text has.report judged.text judged.report has.parts judged.parts in
    let counts : traces_of has.text ≡ judged.traces.count = ap traces_of same.0 ∙ sym judged.are.count in
    let requests = ap requests_of same.0 ∙ sym judged.are.requests in
    judged.legal (subst (λ r. IsLegalReport judged.traces.count judged.traces.requests r) same.1
    (subst (λ rs. IsLegalReport judged.traces.count rs has.report) requests
    (subst (λ n. IsLegalReport n (requests_of has.text) has.report) counts has.legal)))

error_same : (a b : CheckError) → a ≡ b → ◌≡◌ {A = Result Verdict CheckError} (Err a) (Err b)
error_same a b is = ap Err is

-- two causes are one
one_cause : (input : List ℕ) (a b : CheckError) → IsRefusedFor input a → IsRefusedFor input b → (◌≡◌ {A = Result Verdict CheckError} (Err a) (Err b)) ⊎ Lacks (Err a)
one_cause input a b (inl (large, is)) (inl (also, is_b)) = inl (error_same a b (is ∙ sym is_b))
one_cause input a b (inl (large, is)) (inr (inl refused)) = let within = refused.within in absurd (omega (arith, within, large))
one_cause input a b (inl (large, is)) (inr (inr lacks)) = let within = lacks.within in absurd (omega (arith, within, large))
one_cause input a b (inr (inl refused)) (inl (large, is)) = let within = refused.within in absurd (omega (arith, within, large))
one_cause input a b (inr (inl refused)) (inr (inl also)) =
    let same = text_once input also.text refused.text also.is_text refused.is_text in
    ⊎_elim
    (λ is. inl (error_same a b (refused.is ∙ ap Text is ∙ sym also.is)))
    (⊎_elim
    (λ memory. inr (inl (error_same a (Text Memory) (refused.is ∙ ap Text memory))))
    (λ read. inr (inr (error_same a (Text ReadFault) (refused.is ∙ ap Text read)))))
    (one_refusal refused.text refused.why also.why refused.first (subst (λ t. IsFirstRefusal t also.why) same also.first))
one_cause input a b (inr (inl refused)) (inr (inr lacks)) =
    let same = text_once input input refused.text (inr (lacks.none, refl)) refused.is_text in
    absurd (accepted_only refused.text refused.why (subst IsAccepted same lacks.accepted) refused.first)
one_cause input a b (inr (inr lacks)) (inl (large, is)) = let within = lacks.within in absurd (omega (arith, within, large))
one_cause input a b (inr (inr lacks)) (inr (inl refused)) =
    let same = text_once input input refused.text (inr (lacks.none, refl)) refused.is_text in
    absurd (accepted_only refused.text refused.why (subst IsAccepted same lacks.accepted) refused.first)
one_cause input a b (inr (inr lacks)) (inr (inr also)) = inl (error_same a b (lacks.is ∙ sym also.is))

wants : (error : CheckError) → IsWant error → Lacks (Err error)
wants error (inl memory) = inl (error_same error (Text Memory) memory)
wants error (inr read) = inr (error_same error (Text ReadFault) read)

exact : (answer : Result Verdict CheckError) (input : List ℕ) → IsAnswerOf answer input → IsExactOf answer input
exact (Ok verdict) input judged = record {
  judged = λ has. inl refl;
  legal = λ has. inl (ap Ok (legal_judged verdict input judged has));
  refused = λ error refused. absurd (never_refused input error (judged_has verdict input judged) refused);
}
exact (Err error) input (inl want) = record {
  judged = λ has. inr (wants error want);
  legal = λ has. inr (wants error want);
  refused = λ other refused. inr (wants error want);
}
exact (Err error) input (inr refused) = record {
  judged = λ has. absurd (never_refused input error has refused);
  legal = λ has. absurd (never_refused input error (legal_has input has) refused);
  refused = λ other also. one_cause input error other refused also;
}

pub one_answer : (left : Option (List ℕ)) (answer : Result Verdict CheckError) → IfSome left (IsAnswerOf answer) → IfSome left (IsExactOf answer)
one_answer None answer known = tt
one_answer (Some input) answer known = exact answer input known
