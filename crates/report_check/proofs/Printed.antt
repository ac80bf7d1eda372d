-- The text of a report with small numbers says its lines.
use Rattle.std.proofs.Common.{ℕ, zero, suc, ◌+◌, ◌-◌, ◌<◌, ◌≤◌, ◌^◌, List, [], ◌∷◌, ◌++◌, None, Some, codes, map, refl, sym, ap, ◌∙◌, append_assoc, arith}
use Rattle.std.specs.Prelude.{decimal}
use Rattle.std.specs.List.{AllByRecursion, flat_map, range_with_len}
use Rattle.report_text.specs.Report.{Line, Row, line_text, reply_text}
use Rattle.report_text.specs.Report.Line.{trace_line, answer_line, final_line}
use Rattle.report_check.specs.Lines.{SayAll, Says}
use Rattle.report_check.specs.Verdicts.{HasReply}
use Rattle.report_check.proofs.Forms.{lines_behind, traces_from}
use Rattle.report_check.proofs.Legals.{IsSmall, IsSmallLine, all_append, text_is}
use Rattle.report_check.proofs.Numerals.{numeral_decimal}

-- a line with numbers of 32 bits
abbrev pub IsSayable : Line → Type 0
IsSayable (trace_line trace) = trace < 2 ^ 32
IsSayable (answer_line answer) = IsSmall answer × HasReply answer
IsSayable (final_line size) = size < 2 ^ 32

sayable_text : (line : Line) → IsSayable line → (text : List ℕ) × Says line text
sayable_text (trace_line trace) small = (codes "trace " ++ decimal trace, refl)
sayable_text (answer_line None) small = (codes "- unserved", refl)
sayable_text (answer_line (Some answer)) small = (
  decimal answer.rank ++ 32 ∷ reply_text answer.reply,
  record { digits = decimal answer.rank; rank = numeral_decimal answer.rank small.0; reply = small.1; is = refl },
)
sayable_text (final_line size) small = (codes "final " ++ decimal size, record { digits = decimal size; numeral = numeral_decimal size small; is = refl })

small_line : (line : Line) → IsSayable line → IsSmallLine line
small_line (trace_line trace) small = tt
small_line (answer_line answer) small = small.0
small_line (final_line size) small = small

-- a text of such lines says them
pub text_says : (lines : List Line) → AllByRecursion IsSayable lines → SayAll lines (flat_map line_text lines)
text_says [] small = refl
text_says (line ∷ lines) small =
    let (text, says) = sayable_text line small.0 in
    let more = flat_map line_text lines in
    (text, more, says, ap (λ l. l ++ more) (sym (text_is line text (small_line line small.0) says)) ∙ append_assoc text (10 ∷ []) more, text_says lines small.1)

traces_sayable : (n begun : ℕ) → begun + n ≤ 2 ^ 32 → AllByRecursion IsSayable (map trace_line (range_with_len begun n))
traces_sayable zero begun few = tt
traces_sayable (suc n) begun few = (omega (arith, few), traces_sayable n (begun + 1) (omega (arith, few)))

-- a row whose line is such a one
abbrev pub IsSayableRow : Row → Type 0
IsSayableRow row = (row.request.trace < 2 ^ 32) × IsSmall row.answer × HasReply row.answer

pub lines_sayable : (begun : ℕ) (rows : List Row) (traces size : ℕ) → begun ≤ 2 ^ 32 → traces < 2 ^ 32 → AllByRecursion IsSayableRow rows → size < 2 ^ 32 → AllByRecursion IsSayable (lines_behind begun rows traces size)
lines_sayable begun [] traces size begin few small last =
    all_append IsSayable (traces_from begun traces) (final_line size ∷ []) (traces_sayable (traces - begun) begun (omega (arith, begin, few))) (last, tt)
lines_sayable begun (row ∷ rows) traces size begin few small last =
    all_append IsSayable (traces_from begun (row.request.trace + 1)) (answer_line row.answer ∷ lines_behind (row.request.trace + 1) rows traces size)
    (traces_sayable (row.request.trace + 1 - begun) begun (omega (arith, begin, small.0.0)))
    ((small.0.1, small.0.2), lines_sayable (row.request.trace + 1) rows traces size (omega (arith, small.0.0)) few small.1 last)
