-- The lines of a text that goes on.
use Rattle.std.proofs.Common.{◌≡◌, ◌≢◌, ℕ, suc, Bool, true, false, eqb, List, [], ◌∷◌, ◌++◌, length, refl, sym, ap, ◌∙◌, append_assoc, arith}
use Rattle.std.proofs.lemmas.List.{append-nil}
use Rattle.std.specs.List.{onto_first}
use Rattle.std.proofs.lemmas.List.Splits.{slice_split-cons_yes, slice_split-cons_no}
use Rattle.trace_reader.specs.Lines.{pieces_of, ended, last_line, lines_in, IsOneLine}

abbrev is_feed : ℕ → Bool
is_feed byte = eqb byte 10

-- there is a first piece
pub record IsCut (pieces : List (List ℕ)) : Type 0 where
  pub first : List ℕ
  pub more : List (List ℕ)
  pub is : pieces ≡ first ∷ more

is_cut-cons : (byte : ℕ) (text : List ℕ) (feed : Bool) → is_feed byte ≡ feed → IsCut (pieces_of text) → IsCut (pieces_of (byte ∷ text))
is_cut-cons byte text true is cut = record { first = []; more = pieces_of text; is = slice_split-cons_yes is_feed byte text is }
is_cut-cons byte text false is cut = record { first = byte ∷ cut.first; more = cut.more; is = slice_split-cons_no is_feed byte text is ∙ ap (onto_first byte) cut.is }

pub is_cut : (text : List ℕ) → IsCut (pieces_of text)
is_cut [] = record { first = []; more = []; is = refl }
is_cut (byte ∷ text) = is_cut-cons byte text (is_feed byte) refl (is_cut text)

-- a line feed parts what stands before it from what stands behind it
feed-cons : (byte : ℕ) (text rest : List ℕ) (feed : Bool) → is_feed byte ≡ feed → IsCut (pieces_of text) → pieces_of (text ++ 10 ∷ rest) ≡ pieces_of text ++ pieces_of rest → pieces_of (byte ∷ text ++ 10 ∷ rest) ≡ pieces_of (byte ∷ text) ++ pieces_of rest
feed-cons byte text rest true is cut again =
    slice_split-cons_yes is_feed byte (text ++ 10 ∷ rest) is ∙ ap (λ pieces. [] ∷ pieces) again
    ∙ ap (λ pieces. pieces ++ pieces_of rest) (sym (slice_split-cons_yes is_feed byte text is))
feed-cons byte text rest false is cut again =
    slice_split-cons_no is_feed byte (text ++ 10 ∷ rest) is ∙ ap (onto_first byte) (again ∙ ap (λ pieces. pieces ++ pieces_of rest) cut.is)
    ∙ ap (λ pieces. pieces ++ pieces_of rest) (sym (slice_split-cons_no is_feed byte text is ∙ ap (onto_first byte) cut.is))

pub pieces_of-feed : (text rest : List ℕ) → pieces_of (text ++ 10 ∷ rest) ≡ pieces_of text ++ pieces_of rest
pieces_of-feed [] rest = refl
pieces_of-feed (byte ∷ text) rest = feed-cons byte text rest (is_feed byte) refl (is_cut text) (pieces_of-feed text rest)

-- any other byte goes onto the last piece
onto_last : ℕ → List (List ℕ) → List (List ℕ)
onto_last byte [] = []
onto_last byte (piece ∷ []) = (piece ++ byte ∷ []) ∷ []
onto_last byte (piece ∷ next ∷ pieces) = piece ∷ onto_last byte (next ∷ pieces)

onto_last-onto_first : (byte next : ℕ) (first : List ℕ) (more : List (List ℕ)) → onto_last next (onto_first byte (first ∷ more)) ≡ onto_first byte (onto_last next (first ∷ more))
unfolding onto_last
onto_last-onto_first byte next first [] = refl
onto_last-onto_first byte next first (piece ∷ more) = refl

onto_last-skip : (next : ℕ) (first : List ℕ) (more : List (List ℕ)) → onto_last next ([] ∷ first ∷ more) ≡ [] ∷ onto_last next (first ∷ more)
unfolding onto_last
onto_last-skip next first more = refl

byte-cons : (byte next : ℕ) (text : List ℕ) (feed : Bool) → is_feed byte ≡ feed → IsCut (pieces_of text) → pieces_of (text ++ next ∷ []) ≡ onto_last next (pieces_of text) → pieces_of (byte ∷ text ++ next ∷ []) ≡ onto_last next (pieces_of (byte ∷ text))
byte-cons byte next text true is cut again =
    slice_split-cons_yes is_feed byte (text ++ next ∷ []) is ∙ ap (λ pieces. [] ∷ pieces) (again ∙ ap (onto_last next) cut.is)
    ∙ sym (ap (onto_last next) (slice_split-cons_yes is_feed byte text is ∙ ap (λ pieces. [] ∷ pieces) cut.is) ∙ onto_last-skip next cut.first cut.more)
byte-cons byte next text false is cut again =
    slice_split-cons_no is_feed byte (text ++ next ∷ []) is ∙ ap (onto_first byte) (again ∙ ap (onto_last next) cut.is)
    ∙ sym (ap (onto_last next) (slice_split-cons_no is_feed byte text is ∙ ap (onto_first byte) cut.is) ∙ onto_last-onto_first byte next cut.first cut.more)

one_byte : (next : ℕ) → is_feed next ≡ false → pieces_of (next ∷ []) ≡ onto_last next (pieces_of [])
unfolding onto_last
one_byte next other = slice_split-cons_no is_feed next [] other

pieces_of-byte : (text : List ℕ) (next : ℕ) → is_feed next ≡ false → pieces_of (text ++ next ∷ []) ≡ onto_last next (pieces_of text)
pieces_of-byte [] next other = one_byte next other
pieces_of-byte (byte ∷ text) next other = byte-cons byte next text (is_feed byte) refl (is_cut text) (pieces_of-byte text next other)

onto_last-last : (lines : List (List ℕ)) (line : List ℕ) (next : ℕ) → onto_last next (lines ++ line ∷ []) ≡ lines ++ (line ++ next ∷ []) ∷ []
unfolding onto_last
onto_last-last [] line next = refl
onto_last-last (x ∷ []) line next = refl
onto_last-last (x ∷ y ∷ lines) line next = ap (λ pieces. x ∷ pieces) (onto_last-last (y ∷ lines) line next)

pub pieces_of-longer : (text : List ℕ) (lines : List (List ℕ)) (line : List ℕ) (next : ℕ) → is_feed next ≡ false → pieces_of text ≡ lines ++ line ∷ [] → pieces_of (text ++ next ∷ []) ≡ lines ++ (line ++ next ∷ []) ∷ []
pieces_of-longer text lines line next other cut = pieces_of-byte text next other ∙ ap (onto_last next) cut ∙ onto_last-last lines line next

-- bytes without a line feed go onto the last piece
pub pieces_of-onward : (bytes text : List ℕ) (lines : List (List ℕ)) (line : List ℕ) → IsOneLine bytes → pieces_of text ≡ lines ++ line ∷ [] → pieces_of (text ++ bytes) ≡ lines ++ (line ++ bytes) ∷ []
pieces_of-onward [] text lines line one cut = ap pieces_of (append-nil text) ∙ cut ∙ ap (λ l. lines ++ l ∷ []) (sym (append-nil line))
pieces_of-onward (byte ∷ bytes) text lines line one cut =
    ap pieces_of (sym (append_assoc text (byte ∷ []) bytes))
    ∙ pieces_of-onward bytes (text ++ byte ∷ []) lines (line ++ byte ∷ []) (λ i d lt. one (suc i) d (omega arith))
    (pieces_of-longer text lines line byte (one 0 0 (omega arith)) cut)
    ∙ ap (λ l. lines ++ l ∷ []) (append_assoc line (byte ∷ []) bytes)

-- the ended pieces and the lines of pieces that go on
pub ended-append : (lines : List (List ℕ)) (piece : List ℕ) (pieces : List (List ℕ)) → ended (lines ++ piece ∷ pieces) ≡ lines ++ ended (piece ∷ pieces)
ended-append [] piece pieces = refl
ended-append (x ∷ []) piece pieces = refl
ended-append (x ∷ y ∷ lines) piece pieces = ap (λ more. x ∷ more) (ended-append (y ∷ lines) piece pieces)

pub lines_in-append : (lines : List (List ℕ)) (piece : List ℕ) (pieces : List (List ℕ)) → lines_in (lines ++ piece ∷ pieces) ≡ lines ++ lines_in (piece ∷ pieces)
lines_in-append [] piece pieces = refl
lines_in-append (x ∷ []) piece pieces = refl
lines_in-append (x ∷ y ∷ lines) piece pieces = ap (λ more. x ∷ more) (lines_in-append (y ∷ lines) piece pieces)

pub last_line-begun : (line : List ℕ) → length line ≢ 0 → last_line line ≡ line ∷ []
last_line-begun [] begun = absurd (begun refl)
last_line-begun (byte ∷ line) begun = refl
