-- The first refusal of a text that is known up to a line.
use Rattle.std.proofs.Common.{◌≡◌, ℕ, suc, ◌+◌, ◌-◌, ◌<◌, ◌≤◌, Bool, true, false, cond, leb, List, [], ◌∷◌, ◌++◌, Option, None, Some, is_some, length, take, get_or, refl, sym, ap, ◌∙◌, arith, length-append, below_more, append_assoc}
use Rattle.std.proofs.lemmas.Bool.{lt-ltb, le-ltb, le-leb, lt-leb}
use Rattle.std.proofs.lemmas.List.{take-append-le, append-nil}
use Rattle.std.proofs.Math.ListN.{get_or-append}
use Rattle.std.proofs.Math.Seq.{get_or-append_seam, take-append_seam, take-append-add}
use Rattle.trace_reader.specs.declared.traces.TraceError.{TraceError}
use Rattle.trace_reader.specs.declared.traces.TraceError.TheVariants.{TooLarge, Malformed}
use Rattle.trace_reader.specs.declared.traces.BadLine.TheVariants.{NoHeader}
use Rattle.trace_reader.specs.Lines.{pieces_of, ended, last_line, lines_in, lines_of}
use Rattle.trace_reader.specs.Text.{format_in, lines_read, line_at, refusal_of, end_refusal, refusal_at, IsFirstRefusal, IsAccepted}
use Rattle.trace_reader.specs.Answer.{NoneRefused}
use Rattle.trace_reader.proofs.Lines.{IsCut, is_cut, pieces_of-feed, ended-append, lines_in-append}

-- the refusal of a line that is read is by the lines before it
refusal_at-line : (text : List ℕ) (lines : List (List ℕ)) (place : ℕ) → lines_read text ≡ lines → place < length lines → refusal_at text place ≡ refusal_of (take place lines) (line_at lines place)
refusal_at-line text lines place read within =
    rw read (ap (λ b. cond b (refusal_of (take place lines) (line_at lines place)) (end_refusal text)) (lt-ltb place (length lines) within))

refusal_at-end : (text : List ℕ) (lines : List (List ℕ)) → lines_read text ≡ lines → refusal_at text (length lines) ≡ end_refusal text
refusal_at-end text lines read =
    rw read (ap (λ b. cond b (refusal_of (take (length lines) lines) (line_at lines (length lines))) (end_refusal text)) (le-ltb (length lines) (length lines) (omega arith)))

-- the lines before one are the same, whatever stands behind them
front_refusal : (lines more : List (List ℕ)) (place : ℕ) → place < length lines → refusal_of (take place (lines ++ more)) (line_at (lines ++ more) place) ≡ refusal_of (take place lines) (line_at lines place)
front_refusal lines more place within =
    let front : take place (lines ++ more) ≡ take place lines = take-append-le place lines more (omega arith) in
    let line : get_or (lines ++ more) place [] ≡ get_or lines place [] = get_or-append lines more [] place within in
    rw (front, line) refl

seam_refusal : (lines : List (List ℕ)) (line : List ℕ) (more : List (List ℕ)) → refusal_of (take (length lines) (lines ++ line ∷ more)) (line_at (lines ++ line ∷ more) (length lines)) ≡ refusal_of lines line
seam_refusal lines line more =
    let front : take (length lines) (lines ++ line ∷ more) ≡ lines = take-append_seam lines (line ∷ more) in
    let here : get_or (lines ++ line ∷ more) (length lines) [] ≡ line = get_or-append_seam lines line more [] in
    rw (front, here) refl

-- a line that is refused behind lines that are not is the first
pub first_refused : (text : List ℕ) (lines : List (List ℕ)) (line : List ℕ) (more : List (List ℕ)) (error : TraceError) → lines_read text ≡ lines ++ line ∷ more → NoneRefused lines → refusal_of lines line ≡ Some error → IsFirstRefusal text error
first_refused text lines line more error read none refused =
    let longer : length (lines ++ line ∷ more) ≡ length lines + length (line ∷ more) = length-append lines (line ∷ more) in
    record {
      place = length lines;
      within = rw read (omega (arith, longer));
      refused = refusal_at-line text (lines ++ line ∷ more) (length lines) read (omega (arith, longer)) ∙ seam_refusal lines line more ∙ refused;
      none_before = λ earlier before.
          refusal_at-line text (lines ++ line ∷ more) earlier read (omega (arith, longer))
          ∙ front_refusal lines (line ∷ more) earlier before ∙ none earlier before;
    }

-- the end is refused behind lines that are not
pub end_refused : (text : List ℕ) (lines : List (List ℕ)) (error : TraceError) → lines_read text ≡ lines → NoneRefused lines → end_refusal text ≡ Some error → IsFirstRefusal text error
end_refused text lines error read none refused = record {
  place = length lines;
  within = rw read (omega arith);
  refused = refusal_at-end text lines read ∙ refused;
  none_before = λ earlier before. refusal_at-line text lines earlier read before ∙ none earlier before;
}

-- nothing is refused
pub all_accepted : (text : List ℕ) (lines : List (List ℕ)) → lines_read text ≡ lines → NoneRefused lines → end_refusal text ≡ None → IsAccepted text
all_accepted text lines read none end place within =
    below_more (λ k. refusal_at text k ≡ None) (length lines)
    (λ k early. refusal_at-line text lines k read early ∙ none k early)
    (refusal_at-end text lines read ∙ end)
    place (let e = ap length read in omega arith)

pub NoneRefused-push : (lines : List (List ℕ)) (line : List ℕ) → NoneRefused lines → refusal_of lines line ≡ None → NoneRefused (lines ++ line ∷ [])
NoneRefused-push lines line none fine place within =
    below_more (λ k. refusal_of (take k (lines ++ line ∷ [])) (line_at (lines ++ line ∷ []) k) ≡ None) (length lines)
    (λ k early. front_refusal lines (line ∷ []) k early ∙ none k early)
    (seam_refusal lines line [] ∙ fine)
    place (omega (arith, length-append lines (line ∷ [])))

-- the lines that are read of a text within the limit, and of one that goes past it
lines_read-within : (text : List ℕ) → length text ≤ 4194304 → lines_read text ≡ lines_of text
lines_read-within text within = ap (λ b. cond b (lines_of text) (ended (pieces_of (take 4194304 text)))) (le-leb (length text) 4194304 within)

lines_read-past : (text : List ℕ) → 4194304 < length text → lines_read text ≡ ended (pieces_of (take 4194304 text))
lines_read-past text past = ap (λ b. cond b (lines_of text) (ended (pieces_of (take 4194304 text)))) (lt-leb (length text) 4194304 past)

-- a line that a line feed ends within the limit is read, whatever comes behind it
pub record IsRead (text : List ℕ) (lines : List (List ℕ)) (line : List ℕ) : Type 0 where
  pub more : List (List ℕ)
  pub is : lines_read text ≡ lines ++ line ∷ more

cut_at_feed : (text rest : List ℕ) (lines : List (List ℕ)) (line : List ℕ) (c : IsCut (pieces_of rest)) → pieces_of text ≡ lines ++ line ∷ [] → pieces_of (text ++ 10 ∷ rest) ≡ lines ++ line ∷ c.first ∷ c.more
cut_at_feed text rest lines line c cut =
    pieces_of-feed text rest ∙ ap (λ pieces. pieces ++ pieces_of rest) cut ∙ append_assoc lines (line ∷ []) (pieces_of rest) ∙ ap (λ pieces. lines ++ line ∷ pieces) c.is

front_of : (text rest : List ℕ) (n : ℕ) → length text < n → take n (text ++ 10 ∷ rest) ≡ text ++ 10 ∷ take (n - length text - 1) rest
front_of text rest n within =
    let split : n ≡ length text + suc (n - length text - 1) = omega arith in
    ap (λ k. take k (text ++ 10 ∷ rest)) split ∙ take-append-add text (10 ∷ rest) (suc (n - length text - 1))

pub line_read : (text rest : List ℕ) (lines : List (List ℕ)) (line : List ℕ) → pieces_of text ≡ lines ++ line ∷ [] → length text < 4194304 → IsRead (text ++ 10 ∷ rest) lines line
line_read text rest lines line cut within = by_size (leb (length (text ++ 10 ∷ rest)) 4194304) refl
  where
    by_size : (fits : Bool) → leb (length (text ++ 10 ∷ rest)) 4194304 ≡ fits → IsRead (text ++ 10 ∷ rest) lines line
    by_size true fits =
        let c = is_cut rest in
        record {
          more = lines_in (c.first ∷ c.more);
          is = ap (λ b. cond b (lines_of (text ++ 10 ∷ rest)) (ended (pieces_of (take 4194304 (text ++ 10 ∷ rest))))) fits
              ∙ ap lines_in (cut_at_feed text rest lines line c cut) ∙ lines_in-append lines line (c.first ∷ c.more);
        }
    by_size false past =
        let front = take (4194304 - length text - 1) rest in
        let c = is_cut front in
        record {
          more = ended (c.first ∷ c.more);
          is = ap (λ b. cond b (lines_of (text ++ 10 ∷ rest)) (ended (pieces_of (take 4194304 (text ++ 10 ∷ rest))))) past
              ∙ ap (λ t. ended (pieces_of t)) (front_of text rest 4194304 within)
              ∙ ap ended (cut_at_feed text front lines line c cut) ∙ ended-append lines line (c.first ∷ c.more);
        }

-- a text that is read to the limit, and goes on
pub too_large : (text rest : List ℕ) (byte : ℕ) (lines : List (List ℕ)) (line : List ℕ) → pieces_of text ≡ lines ++ line ∷ [] → length text ≡ 4194304 → NoneRefused lines → IsFirstRefusal (text ++ byte ∷ rest) (TooLarge 4194305)
too_large text rest byte lines line cut full none =
    let past : 4194304 < length (text ++ byte ∷ rest) = omega (arith, full, length-append text (byte ∷ rest)) in
    let front : take 4194304 (text ++ byte ∷ rest) ≡ text = ap (λ n. take n (text ++ byte ∷ rest)) (sym full) ∙ take-append_seam text (byte ∷ rest) in
    let read : lines_read (text ++ byte ∷ rest) ≡ lines =
    lines_read-past _ past ∙ ap (λ t. ended (pieces_of t)) front ∙ ap ended cut ∙ ended-append lines line [] ∙ append-nil lines in
    end_refused _ lines _ read none (ap (λ b. cond b (Some (TooLarge 4194305)) (cond (is_some (format_in (lines_of (text ++ byte ∷ rest)))) None (Some (Malformed (length (lines_of (text ++ byte ∷ rest)) + 1) NoHeader)))) (lt-ltb 4194304 _ past))

-- the lines of a text that ends here: with the last piece, where it isn't empty
pub ended_lines : (text : List ℕ) (lines : List (List ℕ)) (line : List ℕ) → pieces_of text ≡ lines ++ line ∷ [] → length text ≤ 4194304 → lines_read text ≡ lines ++ last_line line
ended_lines text lines line cut within = lines_read-within text within ∙ ap lines_in cut ∙ lines_in-append lines line []

pub lines_of-read : (text : List ℕ) (lines : List (List ℕ)) → length text ≤ 4194304 → lines_read text ≡ lines → lines_of text ≡ lines
lines_of-read text lines within read = sym (lines_read-within text within) ∙ read

-- what the end of a text within the limit is refused for
pub end_refusal-within : (text : List ℕ) (lines : List (List ℕ)) (format : Option ℕ) → length text ≤ 4194304 → lines_read text ≡ lines → format_in lines ≡ format → end_refusal text ≡ cond (is_some format) None (Some (Malformed (length lines + 1) NoHeader))
end_refusal-within text lines format within read header =
    let same : lines_of text ≡ lines = lines_of-read text lines within read in
    ap (λ b. cond b (Some (TooLarge 4194305)) (cond (is_some (format_in (lines_of text))) None (Some (Malformed (length (lines_of text) + 1) NoHeader)))) (le-ltb 4194304 (length text) within)
    ∙ ap (λ l. cond (is_some (format_in l)) None (Some (Malformed (length l + 1) NoHeader))) same
    ∙ ap (λ f. cond (is_some f) None (Some (Malformed (length lines + 1) NoHeader))) header
