-- A text with a piece behind it, which is read line by line.
use Rattle.std.proofs.Common.{◌≡◌, ℕ, ◌+◌, ◌-◌, ◌<◌, ◌≤◌, Bool, true, false, cond, eqb, List, [], ◌∷◌, ◌++◌, Option, Some, None, take, drop, get_or, length, refl, sym, ap, ◌∙◌, append_assoc, add-one, drop-cons, arith, length-take}
use Rattle.std.specs.Prelude.{position, nat_lt}
use Rattle.std.specs.List.{position_or_len}
use Rattle.std.proofs.lemmas.Bool.{eqb-true, le-ltb, lt-ltb, ltb-false}
use Rattle.std.proofs.lemmas.List.{take-append-drop, take_rest, get_or-take}
use Rattle.std.proofs.lemmas.List.Quantifiers.{position-Some}
use Rattle.std.proofs.lemmas.List.Sums.{fails_before_first, position_or_len_is}
use Rattle.small_lemmas.proofs.Bools.{not_true as fails}
use Rattle.memchr.specs.Find.{IsFirstByte}
use Rattle.trace_reader.specs.Lines.{IsOneLine}

abbrev is_feed : ℕ → Bool
is_feed byte = eqb byte 10

whole_piece : (piece : List ℕ) (i byte : ℕ) → i < length piece → byte ≡ get_or piece i 0 → take i piece ++ byte ∷ drop (i + 1) piece ≡ piece
whole_piece piece i byte within is =
    ap (λ b. take i piece ++ b ∷ drop (i + 1) piece) is
    ∙ ap (λ l. take i piece ++ l) (sym (rw add-one (drop-cons piece i 0 within)))
    ∙ take-append-drop i piece

-- a byte, and what stands round it
pub text_around : (text piece rest : List ℕ) (i byte : ℕ) → i < length piece → byte ≡ get_or piece i 0 → (text ++ take i piece) ++ byte ∷ (drop (i + 1) piece ++ rest) ≡ text ++ piece ++ rest
text_around text piece rest i byte within is =
    append_assoc text (take i piece) (byte ∷ (drop (i + 1) piece ++ rest))
    ∙ ap (λ l. text ++ l) (sym (append_assoc (take i piece) (byte ∷ drop (i + 1) piece) rest) ∙ ap (λ l. l ++ rest) (whole_piece piece i byte within is))
    ∙ sym (append_assoc text piece rest)

-- what a search for the first byte of a kind finds
pub first_is : (test : ℕ → Bool) (bytes : List ℕ) (found : Option ℕ) → IsFirstByte test bytes found → found ≡ position test bytes
first_is test bytes None nowhere =
    let at : position_or_len test bytes ≡ length bytes =
    position_or_len_is test bytes (length bytes) 0 (omega arith) (λ k early. fails (test (get_or bytes k 0)) (nowhere k (omega arith) early)) (λ past. absurd (omega arith)) in
    sym (ap (λ b. cond b (Some (position_or_len test bytes)) None) (le-ltb (position_or_len test bytes) (length bytes) (omega (arith, at))))
first_is test bytes (Some i) (none, passes) =
    let at : position_or_len test bytes ≡ i =
    position_or_len_is test bytes i 0 (omega (arith, none.high)) (λ k early. fails (test (get_or bytes k 0)) (none.before k (omega arith) early)) (λ within. passes) in
    ap Some (sym at)
    ∙ sym (ap (λ b. cond b (Some (position_or_len test bytes)) None) (lt-ltb (position_or_len test bytes) (length bytes) (omega (arith, at, none.high))))

-- bytes in which no line feed was found, and those before the first one
pub one_line : (bytes : List ℕ) → position is_feed bytes ≡ None → IsOneLine bytes
one_line bytes none = λ k d lt. let past : length bytes ≤ position_or_len is_feed bytes = late (nat_lt (position_or_len is_feed bytes) (length bytes)) refl none in fails_before_first is_feed bytes k d (omega arith)
  where
    late : (found : Bool) → nat_lt (position_or_len is_feed bytes) (length bytes) ≡ found → cond found (Some (position_or_len is_feed bytes)) None ≡ None → length bytes ≤ position_or_len is_feed bytes
    late true is none = absurd (cc)
    late false is none = ltb-false _ _ is

pub front_line : (bytes : List ℕ) (end : ℕ) → position is_feed bytes ≡ Some end → IsOneLine (take end bytes)
front_line bytes end found = λ k d lt.
    let within : k < end = omega (arith, lt, length-take end bytes) in
    ap is_feed (get_or-take end bytes k d within) ∙ (position-Some is_feed bytes end d found).2 k within

pub found_within : (bytes : List ℕ) (end : ℕ) → position is_feed bytes ≡ Some end → end < length bytes
found_within bytes end found = (position-Some is_feed bytes end 0 found).0

-- the first line feed parts the bytes before it from those behind it
pub parted : (bytes : List ℕ) (end : ℕ) → position is_feed bytes ≡ Some end → take end bytes ++ 10 ∷ drop (end + 1) bytes ≡ bytes
parted bytes end found =
    let at = position-Some is_feed bytes end 0 found in
    whole_piece bytes end 10 at.0 (sym (eqb-true _ _ at.1))

-- a text with bytes behind it of which a part was read, and more behind that
pub text_cut : (text part last bytes more : List ℕ) → part ++ last ≡ bytes → (text ++ part) ++ (last ++ more) ≡ (text ++ bytes) ++ more
text_cut text part last bytes more parts =
    sym (append_assoc (text ++ part) last more) ∙ ap (λ l. l ++ more) (append_assoc text part last ∙ ap (λ l. text ++ l) parts)

-- a line of the piece was read, with its line feed
pub piece_on : (front rest piece : List ℕ) (end : ℕ) → front ++ rest ≡ piece → take end rest ++ 10 ∷ drop (end + 1) rest ≡ rest
    → ((front ++ take end rest) ++ 10 ∷ []) ++ take (length rest - (end + 1)) (drop (end + 1) rest) ≡ piece
piece_on front rest piece end whole parts =
    ap (λ l. ((front ++ take end rest) ++ 10 ∷ []) ++ l) (take_rest rest (end + 1))
    ∙ append_assoc (front ++ take end rest) (10 ∷ []) (drop (end + 1) rest)
    ∙ append_assoc front (take end rest) (10 ∷ drop (end + 1) rest)
    ∙ ap (λ l. front ++ l) parts ∙ whole

pub text_on : (text front part : List ℕ) → ((text ++ front) ++ part) ++ 10 ∷ [] ≡ text ++ ((front ++ part) ++ 10 ∷ [])
text_on text front part = ap (λ l. l ++ 10 ∷ []) (append_assoc text front part) ∙ append_assoc text (front ++ part) (10 ∷ [])
