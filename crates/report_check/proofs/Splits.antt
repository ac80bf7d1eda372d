-- A text that is gone through line by line, up to a line that parts it.
use Rattle.std.proofs.Common.{◌≡◌, ℕ, ◌+◌, ◌<◌, ◌≤◌, List, [], ◌∷◌, ◌++◌, None, Some, length, length-append, take, drop, refl, sym, ap, ◌∙◌, subst, append_assoc, arith, length-drop, length-take}
use Rattle.std.specs.Prelude.{◌==◌, flat_map, position}
use Rattle.std.proofs.lemmas.List.{append-nil, drop-drop, drop_all, take_all}
use Rattle.std.proofs.lemmas.List.Concat.{flat_map-append}
use Rattle.std.proofs.lemmas.List.Elements.{All-append, All-cons, All-nil}
use Rattle.std.proofs.lemmas.List.Splits.{slice_split_none}
use Rattle.report_check.specs.Parts.{AreParted, IsLineAtFront, IsReportLine, NonePart}
use Rattle.trace_reader.specs.Lines.{IsOneLine, lines_in, lines_of, pieces_of}
use Rattle.trace_reader.specs.Printed.{with_feed}
use Rattle.trace_reader.proofs.Lines.{is_cut, lines_in-append, pieces_of-feed, last_line-begun}
use Rattle.trace_reader.proofs.Pieces.{found_within, front_line, one_line, parted}

-- the first line of a text, where a line feed ends it, and where none does
pub lines_first : (line more : List ℕ) → IsOneLine line → lines_of (line ++ 10 ∷ more) ≡ line ∷ lines_of more
lines_first line more one =
    let cut = is_cut more in
    ap lines_in (pieces_of-feed line more ∙ ap (λ front. front ++ pieces_of more) (slice_split_none (λ byte. byte == 10) line one) ∙ ap (λ pieces. line ∷ pieces) cut.is)
    ∙ lines_in-append (line ∷ []) cut.first cut.more
    ∙ ap (λ pieces. line ∷ lines_in pieces) (sym cut.is)

pub lines_last : (line : List ℕ) → IsOneLine line → 0 < length line → lines_of line ≡ line ∷ []
lines_last line one some = ap lines_in (slice_split_none (λ byte. byte == 10) line one) ∙ last_line-begun line (λ none. omega (arith, some, none))

pub front_found : (bytes : List ℕ) (end : ℕ) → position (λ byte. byte == 10) bytes ≡ Some end → IsLineAtFront bytes end (end + 1)
front_found bytes end found =
    let within = found_within bytes end found in
    record {
      within = omega (arith, within);
      ends = omega (arith, within);
      lines = ap lines_of (sym (parted bytes end found)) ∙ lines_first (take end bytes) (drop (end + 1) bytes) (front_line bytes end found);
    }

pub front_none : (bytes : List ℕ) → 0 < length bytes → position (λ byte. byte == 10) bytes ≡ None → IsLineAtFront bytes (length bytes) (length bytes)
front_none bytes some none = record {
  within = omega arith;
  ends = omega arith;
  lines = lines_last bytes (one_line bytes none) some
      ∙ ap (λ line. line ∷ []) (sym (take_all (length bytes) bytes (omega arith)))
      ∙ ap (λ rest. take (length bytes) bytes ∷ lines_of rest) (sym (drop_all (length bytes) bytes (omega arith)));
}

-- the lines before a place were gone through, and none of them parts the text
pub record GoneThrough (bytes : List ℕ) (at : ℕ) : Type 0 where
  pub before : List (List ℕ)
  pub none : NonePart before
  pub lines : lines_of bytes ≡ before ++ lines_of (drop at bytes)
  pub within : at ≤ length bytes
  pub ends : at < length bytes → at ≡ length (flat_map with_feed before)

pub gone_none : (bytes : List ℕ) → GoneThrough bytes 0
gone_none bytes = record {
  before = [];
  none = All-nil (λ line. IsReportLine line → ⊥);
  lines = refl;
  within = omega arith;
  ends = λ some. refl;
}

feed_length : (line : List ℕ) (before : List (List ℕ)) → length (flat_map with_feed (before ++ line ∷ [])) ≡ length (flat_map with_feed before) + (length line + 1)
feed_length line before =
    ap length (flat_map-append with_feed before (line ∷ []))
    ∙ length-append (flat_map with_feed before) (flat_map with_feed (line ∷ []))
    ∙ ap (λ n. length (flat_map with_feed before) + n) (length-append (line ++ 10 ∷ []) [] ∙ omega (arith, length-append line (10 ∷ [])))

lines_after : (bytes : List ℕ) (at end next : ℕ) (gone : GoneThrough bytes at) → IsLineAtFront (drop at bytes) end next
    → lines_of bytes ≡ gone.before ++ take end (drop at bytes) ∷ lines_of (drop (at + next) bytes)
lines_after bytes at end next gone front =
    gone.lines ∙ ap (λ lines. gone.before ++ lines) (front.lines ∙ ap (λ rest. take end (drop at bytes) ∷ lines_of rest) (drop-drop next at bytes))

-- one more line, which doesn't
pub gone_more : (bytes : List ℕ) (at end next : ℕ) → at < length bytes → GoneThrough bytes at → IsLineAtFront (drop at bytes) end next
    → (IsReportLine (take end (drop at bytes)) → ⊥) → GoneThrough bytes (at + next)
gone_more bytes at end next early gone front other =
    let line = take end (drop at bytes) in
    record {
      before = gone.before ++ line ∷ [];
      none = All-append (λ l. IsReportLine l → ⊥) gone.before (line ∷ []) gone.none (All-cons (λ l. IsReportLine l → ⊥) line [] other (All-nil (λ l. IsReportLine l → ⊥)));
      lines = lines_after bytes at end next gone front ∙ sym (append_assoc gone.before (line ∷ []) (lines_of (drop (at + next) bytes)));
      within = omega (arith, front.ends, length-drop at bytes);
      ends = λ more. omega (arith, gone.ends early, feed_length line gone.before, front.ends, front.within, length-take end (drop at bytes), length-drop at bytes, more);
    }

-- the line does
pub parted_here : (bytes : List ℕ) (at end next : ℕ) → at < length bytes → GoneThrough bytes at → IsLineAtFront (drop at bytes) end next
    → IsReportLine (take end (drop at bytes)) → AreParted bytes at (at + next)
parted_here bytes at end next early gone front is = record {
  before = gone.before;
  line = take end (drop at bytes);
  after = lines_of (drop (at + next) bytes);
  lines = lines_after bytes at end next gone front;
  none_before = gone.none;
  is = is;
  begins = gone.ends early;
  ends = omega (arith, front.ends, front.within, length-take end (drop at bytes), length-drop at bytes);
}

-- all were gone through
pub none_parts : (bytes : List ℕ) (at : ℕ) → length bytes ≤ at → GoneThrough bytes at → NonePart (lines_of bytes)
none_parts bytes at past gone =
    subst NonePart (sym (gone.lines ∙ ap (λ rest. gone.before ++ lines_of rest) (drop_all at bytes past) ∙ append-nil gone.before)) gone.none
