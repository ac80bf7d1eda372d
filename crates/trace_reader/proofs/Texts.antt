-- What a reader knows of the text that it has read, after the next byte and at the end.
use Rattle.std.proofs.Common.{◌≡◌, ◌≢◌, ℕ, ◌+◌, ◌≤◌, ◌<◌, List, [], ◌∷◌, ◌++◌, None, Some, length, refl, sym, ap, ◌∙◌, subst, arith, length-append, Err}
use Rattle.std.proofs.lemmas.List.{append-nil}
use Rattle.trace_reader.specs.declared.reader.Reader.{Reader}
use Rattle.trace_reader.specs.declared.traces.TraceError.{TraceError}
use Rattle.trace_reader.specs.declared.traces.TraceError.TheVariants.{ReadFault, Memory, TooLarge, Malformed, TooManyTraces, TooManyRequests}
use Rattle.trace_reader.specs.declared.traces.BadLine.TheVariants.{NoHeader}
use Rattle.trace_reader.specs.Lines.{last_line, lines_of, pieces_of, IsOneLine}
use Rattle.trace_reader.specs.Text.{format_in, lines_read, refusal_of, traces_in, requests_in, IsFirstRefusal}
use Rattle.trace_reader.specs.Answer.{AreTracesOf, IsAnswered}
use Rattle.trace_reader.specs.Formats.{AreOfFormat}
use Rattle.trace_reader.specs.Reader.{AreAskedIn, StandsBehind, StandsAt, StandsAtEnd, IfOfText, IsRefusedFor, Refuses}
use Rattle.trace_reader.proofs.Lines.{pieces_of-feed, pieces_of-onward, last_line-begun}
use Rattle.trace_reader.proofs.Refusals.{first_refused, end_refused, all_accepted, line_read, too_large, ended_lines, end_refusal-within, lines_of-read}

IfOfText-from : (error : TraceError) (A B : Type 0) → IfOfText error A → (A → B) → IfOfText error B
IfOfText-from Memory A B known step = tt
IfOfText-from ReadFault A B known step = known
IfOfText-from (TooLarge bytes) A B known step = step known
IfOfText-from (Malformed line kind) A B known step = step known
IfOfText-from (TooManyTraces count) A B known step = step known
IfOfText-from (TooManyRequests count) A B known step = step known

-- a line feed ends the line
pub line_ended : (old new : Reader) (byte : ℕ) → byte ≡ 10
    → ((lines : List (List ℕ)) → StandsBehind old lines → StandsBehind new (lines ++ old.line.items ∷ []))
    → new.line.items ≡ [] → new.bytes ≡ old.bytes + 1 → (text : List ℕ) → StandsAt old text → StandsAt new (text ++ byte ∷ [])
line_ended old new byte feed behind cleared longer text at = rw feed (record {
  lines = at.lines ++ old.line.items ∷ [];
  behind = behind at.lines at.behind;
  cut = pieces_of-feed text [] ∙ ap (λ pieces. pieces ++ [] ∷ []) at.cut ∙ ap (λ line. (at.lines ++ old.line.items ∷ []) ++ line ∷ []) (sym cleared);
  bytes = omega (arith, at.bytes, longer, length-append text (10 ∷ []));
})

-- other bytes go onto it
pub line_longer : (old new : Reader) (bytes : List ℕ) → IsOneLine bytes
    → ((lines : List (List ℕ)) → StandsBehind old lines → StandsBehind new lines)
    → new.line.items ≡ old.line.items ++ bytes → new.bytes ≡ old.bytes + length bytes → (text : List ℕ) → StandsAt old text → StandsAt new (text ++ bytes)
line_longer old new bytes one behind pushed longer text at = record {
  lines = at.lines;
  behind = behind at.lines at.behind;
  cut = pieces_of-onward bytes text at.lines old.line.items one at.cut ∙ ap (λ line. at.lines ++ line ∷ []) (sym pushed);
  bytes = omega (arith, at.bytes, longer, length-append text bytes);
}

-- a whole line is read, with its line feed
line_cut : (old : Reader) (line : List ℕ) → IsOneLine line → old.line.items ≡ [] → (text : List ℕ) (at : StandsAt old text) → pieces_of (text ++ line) ≡ at.lines ++ line ∷ []
line_cut old line one begins text at = pieces_of-onward line text at.lines [] one (at.cut ∙ ap (λ l. at.lines ++ l ∷ []) begins)

pub line_taken : (old new : Reader) (line : List ℕ) → IsOneLine line → old.line.items ≡ [] → new.line.items ≡ []
    → ((lines : List (List ℕ)) → StandsBehind old lines → StandsBehind new (lines ++ line ∷ []))
    → new.bytes ≡ old.bytes + length line + 1 → (text : List ℕ) → StandsAt old text → StandsAt new (text ++ line ++ 10 ∷ [])
line_taken old new line one begins cleared behind longer text at = record {
  lines = at.lines ++ line ∷ [];
  behind = behind at.lines at.behind;
  cut = pieces_of-feed (text ++ line) [] ∙ ap (λ pieces. pieces ++ [] ∷ []) (line_cut old line one begins text at)
      ∙ ap (λ l. (at.lines ++ line ∷ []) ++ l ∷ []) (sym cleared);
  bytes = omega (arith, at.bytes, longer, length-append text line, length-append (text ++ line) (10 ∷ []));
}

-- or it is refused
pub taken_refused : (old : Reader) (line : List ℕ) → IsOneLine line → old.line.items ≡ [] → old.bytes + length line < 4194304 → (error : TraceError)
    → ((lines : List (List ℕ)) → StandsBehind old lines → IsRefusedFor error (refusal_of lines line))
    → (text rest : List ℕ) → StandsAt old text → Refuses error (text ++ line ++ 10 ∷ rest)
taken_refused old line one begins room error refused text rest at =
    let within : length (text ++ line) < 4194304 = omega (arith, at.bytes, room, length-append text line) in
    let r = line_read (text ++ line) rest at.lines line (line_cut old line one begins text at) within in
    IfOfText-from error _ _ (refused at.lines at.behind)
    (λ is. first_refused (text ++ line ++ 10 ∷ rest) at.lines line r.more error r.is at.behind.none_refused is)

-- a line that is refused at its line feed
pub line_refused : (old : Reader) (byte : ℕ) → byte ≡ 10 → old.bytes ≢ 4194304 → old.bytes ≤ 4194304 → (error : TraceError)
    → ((lines : List (List ℕ)) → StandsBehind old lines → IsRefusedFor error (refusal_of lines old.line.items))
    → (text rest : List ℕ) → StandsAt old text → Refuses error (text ++ byte ∷ rest)
line_refused old byte feed room few error refused text rest at = rw feed (
    let within : length text < 4194304 = omega (arith, at.bytes, room, few) in
    let r = line_read text rest at.lines old.line.items at.cut within in
    IfOfText-from error _ _ (refused at.lines at.behind)
    (λ is. first_refused (text ++ 10 ∷ rest) at.lines old.line.items r.more error r.is at.behind.none_refused is))

pub text_too_large : (old : Reader) (byte : ℕ) → old.bytes ≡ 4194304 → (text rest : List ℕ) → StandsAt old text → IsFirstRefusal (text ++ byte ∷ rest) (TooLarge 4194305)
text_too_large old byte full text rest at = too_large text rest byte at.lines old.line.items at.cut (at.bytes ∙ full) at.behind.none_refused

-- the text ends behind a line feed
pub ends_clean : (reader : Reader) → length reader.line.items ≡ 0 → reader.bytes ≤ 4194304 → (text : List ℕ) → StandsAt reader text → StandsAtEnd reader text
ends_clean reader empty few text at =
    let within : length text ≤ 4194304 = omega (arith, at.bytes, few) in
    let none : reader.line.items ≡ [] = no_items reader.line.items empty in
    record {
      lines = at.lines;
      behind = at.behind;
      read = ended_lines text at.lines reader.line.items at.cut within ∙ ap (λ line. at.lines ++ last_line line) none ∙ append-nil at.lines;
      within = within;
    }
  where
    no_items : (items : List ℕ) → length items ≡ 0 → items ≡ []
    no_items [] empty = refl
    no_items (x ∷ items) empty = absurd (omega arith)

-- the text ends with a line
whole_line : (reader : Reader) (text : List ℕ) (at : StandsAt reader text) → length reader.line.items ≢ 0 → length text ≤ 4194304 → lines_read text ≡ at.lines ++ reader.line.items ∷ []
whole_line reader text at begun within = ended_lines text at.lines reader.line.items at.cut within ∙ ap (λ last. at.lines ++ last) (last_line-begun reader.line.items begun)

pub ends_with_line : (old new : Reader) → length old.line.items ≢ 0 → old.bytes ≤ 4194304
    → ((lines : List (List ℕ)) → StandsBehind old lines → StandsBehind new (lines ++ old.line.items ∷ []))
    → (text : List ℕ) → StandsAt old text → StandsAtEnd new text
ends_with_line old new begun few behind text at =
    let within : length text ≤ 4194304 = omega (arith, at.bytes, few) in
    record {
      lines = at.lines ++ old.line.items ∷ [];
      behind = behind at.lines at.behind;
      read = whole_line old text at begun within;
      within = within;
    }

pub last_line_refused : (old : Reader) → length old.line.items ≢ 0 → old.bytes ≤ 4194304 → (error : TraceError)
    → ((lines : List (List ℕ)) → StandsBehind old lines → IsRefusedFor error (refusal_of lines old.line.items))
    → (text : List ℕ) → StandsAt old text → Refuses error text
last_line_refused old begun few error refused text at =
    IfOfText-from error _ _ (refused at.lines at.behind)
    (λ is. first_refused text at.lines old.line.items [] error (whole_line old text at begun (omega (arith, at.bytes, few))) at.behind.none_refused is)

-- what the end answers
pub no_header : (reader : Reader) (text : List ℕ) → StandsAtEnd reader text → reader.format ≡ None → IsFirstRefusal text (Malformed (reader.lines + 1) NoHeader)
no_header reader text at none =
    rw at.behind.count (end_refused text at.lines _ at.read at.behind.none_refused (end_refusal-within text at.lines None at.within at.read (sym at.behind.header ∙ none)))

pub formats_read : (reader : Reader) (text : List ℕ) (format : ℕ) → StandsAtEnd reader text → reader.format ≡ Some format → AreOfFormat format reader.traces.requests
formats_read reader text format at header = subst (λ f. AreAskedIn f reader.traces.requests) header at.behind.formats

pub accepted : (reader : Reader) (text : List ℕ) (format : ℕ) → StandsAtEnd reader text → reader.format ≡ Some format → AreTracesOf (record reader.traces { format = format }) text
accepted reader text format at header =
    let same : lines_of text ≡ at.lines = lines_of-read text at.lines at.within at.read in
    let named : format_in at.lines ≡ Some format = sym at.behind.header ∙ header in
    record {
      accepted = all_accepted text at.lines at.read at.behind.none_refused (end_refusal-within text at.lines (Some format) at.within at.read named);
      format = ap format_in same ∙ named;
      count = at.behind.traces.count ∙ ap traces_in (sym same);
      requests = at.behind.traces.requests ∙ ap requests_in (sym same);
      formats = formats_read reader text format at header;
    }

pub answered : (error : TraceError) (text : List ℕ) → Refuses error text → IsAnswered (Err error) text
answered Memory text refused = tt
answered ReadFault text refused = refused
answered (TooLarge bytes) text refused = refused
answered (Malformed line kind) text refused = refused
answered (TooManyTraces count) text refused = refused
answered (TooManyRequests count) text refused = refused
