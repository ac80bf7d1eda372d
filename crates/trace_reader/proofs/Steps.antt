-- What a reader in the middle of a text knows after the next line.
use Rattle.std.proofs.Common.{◌≡◌, ℕ, ◌+◌, Bool, true, false, ◌&&◌, cond, ltb, eqb, List, [], ◌∷◌, ◌++◌, Option, None, Some, is_some, length, refl, sym, ap, ◌∙◌, subst, arith, length-append, ⊎_elim}
use Rattle.std.specs.Option.{option_or}
use Rattle.std.proofs.lemmas.Bool.{ne_eqb, ltb-true}
use Rattle.trace_reader.specs.declared.line.Line.{Line}
use Rattle.trace_reader.specs.declared.line.Line.TheVariants.{Skipped, Header, Trace, Ask}
use Rattle.trace_reader.specs.declared.reader.Reader.{Reader}
use Rattle.trace_reader.specs.declared.traces.Traces.{Traces}
use Rattle.trace_reader.specs.declared.traces.BadLine.{BadLine}
use Rattle.trace_reader.specs.declared.traces.TraceError.{TraceError}
use Rattle.trace_reader.specs.declared.traces.TraceError.TheVariants.{Malformed, TooManyTraces, TooManyRequests}
use Rattle.trace_reader.specs.Line.{fault_of, header_in, asked, begins_trace}
use Rattle.trace_reader.specs.Text.{traces_in, asks_in, fault_behind, refusal_by, refusal_of}
use Rattle.trace_reader.specs.Said.{Says, IsPlaced, format_after, is_begin, operation_in}
use Rattle.trace_reader.specs.Answer.{AreTracesIn}
use Rattle.trace_reader.specs.Reader.{AreAskedIn, AreRead, StandsBehind, IsRefusedFor, TracesAfter, ExcessOf}
use Rattle.trace_reader.proofs.Asked.{AreTracesIn-none, AreTracesIn-trace, AreTracesIn-ask, format_in-push, length-requests_in}
use Rattle.trace_reader.proofs.Formats.{formats_behind, keys_low}
use Rattle.trace_reader.proofs.Ordered.{AreInOrder-trace, AreInOrder-ask}
use Rattle.trace_reader.proofs.Refusals.{NoneRefused-push}
use Rattle.map_history.specs.Requests.{AreInOrder}

-- the fault of the next line is by what the reader keeps
pub fault_known : (finished : ℕ) (format : Option ℕ) (traces : Traces) (lines : List (List ℕ)) (line : List ℕ) (fault : Option BadLine) → AreRead finished format traces lines → fault_of format (ltb 0 traces.count) line ≡ fault → fault_behind lines line ≡ fault
fault_known finished format traces lines line fault behind is =
    ap (λ f. fault_of f (ltb 0 (traces_in lines)) line) (sym behind.header)
    ∙ ap (λ n. fault_of format (ltb 0 n) line) (sym behind.traces.count) ∙ is

-- a line with a fault
pub malformed_line : (reader : Reader) (lines : List (List ℕ)) (line : List ℕ) (kind : BadLine) → StandsBehind reader lines → fault_of reader.format (ltb 0 reader.traces.count) line ≡ Some kind → refusal_of lines line ≡ Some (Malformed (reader.lines + 1) kind)
malformed_line reader lines line kind behind is =
    ap (λ f. refusal_by f lines line) (fault_known reader.lines reader.format reader.traces lines line (Some kind) behind is)
    ∙ ap (λ n. Some (Malformed (n + 1) kind)) (sym behind.count)

-- the excess of a line, by what it says and the counts behind which it stands
abbrev excess_by : Bool → Bool → ℕ → ℕ → Option TraceError
excess_by begins asks traces requests =
    cond (begins && eqb traces 64) (Some (TooManyTraces 65)) (cond (asks && eqb requests 131072) (Some (TooManyRequests 131073)) None)

excess_known : (finished : ℕ) (format : Option ℕ) (traces : Traces) (lines : List (List ℕ)) (line : List ℕ) (said : Line) → AreRead finished format traces lines → Says said format (ltb 0 traces.count) line → refusal_of lines line ≡ excess_by (is_begin said) (is_some (operation_in said)) traces.count (length traces.requests)
excess_known finished format traces lines line said behind says =
    ap (λ f. refusal_by f lines line) (fault_known finished format traces lines line None behind says.fault)
    ∙ ap (λ b. excess_by b (is_some (asked line)) (traces_in lines) (asks_in lines)) says.trace
    ∙ ap (λ o. excess_by (is_begin said) (is_some o) (traces_in lines) (asks_in lines)) says.operation
    ∙ ap (λ n. excess_by (is_begin said) (is_some (operation_in said)) n (asks_in lines)) (sym behind.traces.count)
    ∙ ap (λ n. excess_by (is_begin said) (is_some (operation_in said)) traces.count n) (sym (length-requests_in lines) ∙ sym (ap length behind.traces.requests))

excess_full : (said : Line) (traces : Traces) (error : TraceError) → ExcessOf said traces error → IsRefusedFor error (excess_by (is_begin said) (is_some (operation_in said)) traces.count (length traces.requests))
excess_full Skipped traces error excess = absurd excess
excess_full (Header number) traces error excess = absurd excess
excess_full Trace traces error (is, full) =
    let P : TraceError → ℕ → Type 0 = λ e n. IsRefusedFor e (excess_by true false n (length traces.requests)) in
    rw (is, full) refl
excess_full (Ask op) traces error excess =
    ⊎_elim
    (λ want. rw want tt)
    (λ full. rw (full.0, full.1) refl)
    excess

-- a line that is one too many
pub excess_line : (reader : Reader) (lines : List (List ℕ)) (line : List ℕ) (said : Line) (error : TraceError) → StandsBehind reader lines → Says said reader.format (ltb 0 reader.traces.count) line → ExcessOf said reader.traces error → IsRefusedFor error (refusal_of lines line)
excess_line reader lines line said error behind says excess = rw (excess_known reader.lines reader.format reader.traces lines line said behind says) (excess_full said reader.traces error excess)

no_excess : (said : Line) (before after : Traces) → TracesAfter said before after → excess_by (is_begin said) (is_some (operation_in said)) before.count (length before.requests) ≡ None
no_excess Skipped before after same = refl
no_excess (Header number) before after same = refl
no_excess Trace before after (more, few, same) = ap (λ b. cond b (Some (TooManyTraces 65)) None) (ne_eqb before.count 64 (λ full. absurd (omega arith)))
no_excess (Ask op) before after (same, more, few) =
    let longer : length after.requests ≡ length before.requests + 1 = ap length more ∙ length-append before.requests _ in
    ap (λ b. cond b (Some (TooManyRequests 131073)) None) (ne_eqb (length before.requests) 131072 (λ full. absurd (omega arith)))

traces_behind : (said : Line) (before after : Traces) (lines : List (List ℕ)) (line : List ℕ) → begins_trace line ≡ is_begin said → asked line ≡ operation_in said → TracesAfter said before after → AreTracesIn before lines → AreTracesIn after (lines ++ line ∷ [])
traces_behind Skipped before after lines line begins asks (same, still) are = AreTracesIn-none before after lines line begins asks same still are
traces_behind (Header number) before after lines line begins asks (same, still) are = AreTracesIn-none before after lines line begins asks same still are
traces_behind Trace before after lines line begins asks (more, few, still) are = AreTracesIn-trace before after lines line begins asks more still are
traces_behind (Ask op) before after lines line begins asks (same, more, few) are = AreTracesIn-ask before after lines line op begins asks same more are

same_order : (before after : Traces) → after.count ≡ before.count → after.requests ≡ before.requests → AreInOrder before.requests before.count → AreInOrder after.requests after.count
same_order before after same still are = rw (same, still) are

ordered_behind : (said : Line) (format : Option ℕ) (before after : Traces) → IsPlaced said format (ltb 0 before.count) → TracesAfter said before after → AreInOrder before.requests before.count → AreInOrder after.requests after.count
ordered_behind Skipped format before after placed (same, still) are = same_order before after same still are
ordered_behind (Header number) format before after placed (same, still) are = same_order before after same still are
ordered_behind Trace format before after placed (more, few, still) are = rw still (AreInOrder-trace before.requests before.count after.count more few are)
ordered_behind (Ask op) format before after (headed, begun, low) (same, more, few) are =
    rw same (AreInOrder-ask before.requests after.requests before.count op (ltb-true _ _ begun) (keys_low op low) more few are)

-- a line that is taken in
pub line_more : (finished : ℕ) (format : Option ℕ) (before : Traces) (finished_after : ℕ) (next : Option ℕ) (read : Traces) (lines : List (List ℕ)) (line : List ℕ) (said : Line) → AreRead finished format before lines → Says said format (ltb 0 before.count) line → TracesAfter said before read → next ≡ format_after format said → finished_after ≡ finished + 1 → AreRead finished_after next read (lines ++ line ∷ [])
line_more finished format before finished_after next read lines line said behind says taken headed count = record {
  count = omega (arith, count, behind.count, length-append lines (line ∷ []));
  header = headed ∙ sym says.header ∙ ap (λ f. option_or f (header_in line)) behind.header ∙ sym (format_in-push lines line);
  none_refused = NoneRefused-push lines line behind.none_refused (excess_known finished format before lines line said behind says ∙ no_excess said before read taken);
  traces = traces_behind said before read lines line says.trace says.operation taken behind.traces;
  ordered = ordered_behind said format before read says.placed taken behind.ordered;
  formats = subst (λ f. AreAskedIn f read.requests) (sym headed) (formats_behind said format (ltb 0 before.count) before read says.placed taken behind.formats);
}

pub fine_line : (before : Reader) (finished : ℕ) (next : Option ℕ) (read : Traces) (lines : List (List ℕ)) (line : List ℕ) (said : Line) → StandsBehind before lines → Says said before.format (ltb 0 before.traces.count) line → TracesAfter said before.traces read → next ≡ format_after before.format said → finished ≡ before.lines + 1 → AreRead finished next read (lines ++ line ∷ [])
fine_line before finished next read lines line said behind says taken header count = line_more before.lines before.format before.traces finished next read lines line said behind says taken header count
