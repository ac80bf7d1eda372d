-- The words of a line, one after the other.
use Rattle.std.proofs.Common.{◌≡◌, ℕ, zero, suc, ◌+◌, ◌-◌, ◌<◌, ◌≤◌, Bool, true, false, cond, not, List, [], ◌∷◌, Option, None, Some, length, get_or, take, drop, add-zero, refl, sym, ap, ◌∙◌, subst, arith, length-drop, length-take}
use Rattle.std.specs.Prelude.{◌==◌, ◌&&◌, filter, unwrap_or, position, nat_lt}
use Rattle.std.specs.List.{list_all, position_or_len, slice_split, onto_first}
use Rattle.std.proofs.lemmas.List.{take_all, drop_all, get_or-take, get_or-drop}
use Rattle.std.proofs.lemmas.List.Splits.{slice_split-cons_yes, slice_split-cons_no}
use Rattle.std.proofs.Math.Numerals.{one-add}
use Rattle.std.proofs.lemmas.Bool.{le-ltb, ltb-true, ltb-false, lt-ltb, and_parts}
use Rattle.trace_reader.specs.Fields.{is_blank, is_comment, fields_in}

abbrev is_word : List ℕ → Bool
is_word word = nat_lt 0 (length word)

abbrev starts : ℕ → Bool
starts byte = not (is_blank byte)

-- how many blanks the bytes begin with, and how many bytes the word has with which they begin
abbrev blanks_in : List ℕ → ℕ
blanks_in bytes = position_or_len starts bytes

abbrev word_len : List ℕ → ℕ
word_len bytes = position_or_len is_blank bytes

-- the bytes cut at blanks are the word with which they begin, and pieces
record FirstPiece (bytes : List ℕ) : Type 0 where
  more : List (List ℕ)
  cut : slice_split is_blank bytes ≡ take (word_len bytes) bytes ∷ more
  rest : filter is_word more ≡ fields_in (drop (word_len bytes) bytes)

word_len-blank : (byte : ℕ) (bytes : List ℕ) → is_blank byte ≡ true → word_len (byte ∷ bytes) ≡ 0
word_len-blank byte bytes is = ap (λ b. cond (not b) (1 + word_len bytes) 0) is

word_len-letter : (byte : ℕ) (bytes : List ℕ) → is_blank byte ≡ false → word_len (byte ∷ bytes) ≡ suc (word_len bytes)
word_len-letter byte bytes is = ap (λ b. cond (not b) (1 + word_len bytes) 0) is ∙ one-add (word_len bytes)

blanks_in-blank : (byte : ℕ) (bytes : List ℕ) → is_blank byte ≡ true → blanks_in (byte ∷ bytes) ≡ suc (blanks_in bytes)
blanks_in-blank byte bytes is = ap (λ b. cond (not (not b)) (1 + blanks_in bytes) 0) is ∙ one-add (blanks_in bytes)

blanks_in-letter : (byte : ℕ) (bytes : List ℕ) → is_blank byte ≡ false → blanks_in (byte ∷ bytes) ≡ 0
blanks_in-letter byte bytes is = ap (λ b. cond (not (not b)) (1 + blanks_in bytes) 0) is

-- a blank is no part of a field
fields_in-blank : (byte : ℕ) (bytes : List ℕ) → is_blank byte ≡ true → fields_in (byte ∷ bytes) ≡ fields_in bytes
fields_in-blank byte bytes is = ap (filter is_word) (slice_split-cons_yes is_blank byte bytes is)

first_piece-cons : (byte : ℕ) (bytes : List ℕ) (blank : Bool) → is_blank byte ≡ blank → FirstPiece bytes → FirstPiece (byte ∷ bytes)
first_piece-cons byte bytes true is p = record {
  more = slice_split is_blank bytes;
  cut = slice_split-cons_yes is_blank byte bytes is ∙ ap (λ n. take n (byte ∷ bytes) ∷ slice_split is_blank bytes) (sym (word_len-blank byte bytes is));
  rest = sym (ap (λ n. fields_in (drop n (byte ∷ bytes))) (word_len-blank byte bytes is) ∙ fields_in-blank byte bytes is);
}
first_piece-cons byte bytes false is p = record {
  more = p.more;
  cut =
      slice_split-cons_no is_blank byte bytes is ∙ ap (onto_first byte) p.cut
      ∙ ap (λ n. take n (byte ∷ bytes) ∷ p.more) (sym (word_len-letter byte bytes is));
  rest = p.rest ∙ ap (λ n. fields_in (drop n (byte ∷ bytes))) (sym (word_len-letter byte bytes is));
}

first_piece : (bytes : List ℕ) → FirstPiece bytes
first_piece [] = record { more = []; cut = refl; rest = refl }
first_piece (byte ∷ bytes) = first_piece-cons byte bytes (is_blank byte) refl (first_piece bytes)

skip-cons : (byte : ℕ) (bytes : List ℕ) (blank : Bool) → is_blank byte ≡ blank → fields_in bytes ≡ fields_in (drop (blanks_in bytes) bytes) → fields_in (byte ∷ bytes) ≡ fields_in (drop (blanks_in (byte ∷ bytes)) (byte ∷ bytes))
skip-cons byte bytes true is again = fields_in-blank byte bytes is ∙ again ∙ ap (λ n. fields_in (drop n (byte ∷ bytes))) (sym (blanks_in-blank byte bytes is))
skip-cons byte bytes false is again = ap (λ n. fields_in (drop n (byte ∷ bytes))) (sym (blanks_in-letter byte bytes is))

skip : (bytes : List ℕ) → fields_in bytes ≡ fields_in (drop (blanks_in bytes) bytes)
skip [] = refl
skip (byte ∷ bytes) = skip-cons byte bytes (is_blank byte) refl (skip bytes)

-- behind the blanks a word begins, or nothing is left
word_behind-cons : (byte : ℕ) (bytes : List ℕ) (blank : Bool) → is_blank byte ≡ blank → blanks_in (byte ∷ bytes) < length (byte ∷ bytes) → (blanks_in bytes < length bytes → 0 < word_len (drop (blanks_in bytes) bytes)) → 0 < word_len (drop (blanks_in (byte ∷ bytes)) (byte ∷ bytes))
word_behind-cons byte bytes true is within again =
    let e = blanks_in-blank byte bytes is in
    rw e (again (omega (arith, e)))
word_behind-cons byte bytes false is within again = rw (blanks_in-letter byte bytes is) (omega (arith, word_len-letter byte bytes is))

word_behind : (bytes : List ℕ) → blanks_in bytes < length bytes → 0 < word_len (drop (blanks_in bytes) bytes)
word_behind [] within = absurd (omega arith)
word_behind (byte ∷ bytes) within = word_behind-cons byte bytes (is_blank byte) refl within (λ w. word_behind bytes w)

word_len-within-cons : (byte : ℕ) (bytes : List ℕ) (blank : Bool) → is_blank byte ≡ blank → word_len bytes ≤ length bytes → word_len (byte ∷ bytes) ≤ length (byte ∷ bytes)
word_len-within-cons byte bytes true is again = omega (arith, word_len-blank byte bytes is)
word_len-within-cons byte bytes false is again = omega (arith, word_len-letter byte bytes is)

word_len-within : (bytes : List ℕ) → word_len bytes ≤ length bytes
word_len-within [] = omega arith
word_len-within (byte ∷ bytes) = word_len-within-cons byte bytes (is_blank byte) refl (word_len-within bytes)

-- the word with which the bytes begin is their first field
word_first : (bytes : List ℕ) → 0 < word_len bytes → fields_in bytes ≡ take (word_len bytes) bytes ∷ fields_in (drop (word_len bytes) bytes)
word_first bytes begun =
    let p = first_piece bytes in
    let whole : nat_lt 0 (length (take (word_len bytes) bytes)) ≡ true = lt-ltb 0 _ (omega (arith, length-take (word_len bytes) bytes, word_len-within bytes)) in
    ap (filter is_word) p.cut ∙ ap (λ b. cond b (take (word_len bytes) bytes ∷ filter is_word p.more) (filter is_word p.more)) whole ∙ ap (λ rest. take (word_len bytes) bytes ∷ rest) p.rest

none_found : (b : Bool) (n : ℕ) → cond b (Some n) None ≡ None → b ≡ false
none_found true n e = cc
none_found false n e = refl

some_found : (b : Bool) (n m : ℕ) → cond b (Some n) None ≡ Some m → (b ≡ true) × (n ≡ m)
some_found true n m e = (refl, cc)
some_found false n m e = cc

-- where no word begins there is no field
pub fields_in-none : (bytes : List ℕ) (found : Option ℕ) → found ≡ position starts bytes → found ≡ None → fields_in bytes ≡ []
fields_in-none bytes found e is =
    let all : length bytes ≤ blanks_in bytes = ltb-false _ _ (none_found _ _ (sym e ∙ is)) in
    skip bytes ∙ ap fields_in (drop_all (blanks_in bytes) bytes all)

-- what stands behind the blanks
abbrev behind : ℕ → List ℕ → List ℕ
behind start bytes = take (length bytes - start) (drop start bytes)

behind-drop : (start : ℕ) (bytes : List ℕ) → behind start bytes ≡ drop start bytes
behind-drop start bytes = take_all _ _ (omega (arith, length-drop start bytes))

unwrap_position : (bytes : List ℕ) → unwrap_or (position is_blank bytes) (length bytes) ≡ word_len bytes
unwrap_position bytes = by_test (nat_lt (word_len bytes) (length bytes)) refl
  where
    by_test : (b : Bool) → nat_lt (word_len bytes) (length bytes) ≡ b → unwrap_or (cond b (Some (word_len bytes)) None) (length bytes) ≡ word_len bytes
    by_test true is = refl
    by_test false is = omega (arith, ltb-false _ _ is, word_len-within bytes)

-- where one begins, it is the first field, and what stands behind it has the others
pub record IsFirstField (bytes : List ℕ) (start end : ℕ) : Type 0 where
  pub fields : fields_in bytes ≡ take end (behind start bytes) ∷ fields_in (behind end (behind start bytes))
  pub begun : 0 < length (take end (behind start bytes))

pub first_field : (bytes : List ℕ) (start end : ℕ) → position starts bytes ≡ Some start → end ≡ unwrap_or (position is_blank (behind start bytes)) (length (behind start bytes)) → IsFirstField bytes start end
first_field bytes start end found ends =
    let at = some_found _ _ _ found in
    let words : behind start bytes ≡ drop (blanks_in bytes) bytes = behind-drop start bytes ∙ ap (λ n. drop n bytes) (sym at.1) in
    let len : end ≡ word_len (behind start bytes) = ends ∙ unwrap_position (behind start bytes) in
    let begun : 0 < word_len (behind start bytes) = subst (λ (w : List ℕ). 0 < word_len w) (sym words) (word_behind bytes (ltb-true _ _ at.0)) in
    record {
      fields = skip bytes ∙ ap fields_in (sym words) ∙ word_first (behind start bytes) begun
          ∙ ap (λ n. take n (behind start bytes) ∷ fields_in (drop n (behind start bytes))) (sym len)
          ∙ ap (λ rest. take end (behind start bytes) ∷ fields_in rest) (sym (behind-drop end (behind start bytes)));
      begun = omega (arith, len, begun, length-take end (behind start bytes), word_len-within (behind start bytes));
    }

-- blanks that were tested before a word is looked for
blanks_past : (bytes : List ℕ) (n : ℕ) → n ≤ length bytes → list_all is_blank (take n bytes) ≡ true → blanks_in bytes ≡ n + blanks_in (drop n bytes)
blanks_past bytes zero within all = omega arith
blanks_past [] (suc n) within all = absurd (omega arith)
blanks_past (byte ∷ bytes) (suc n) within all =
    let parts = and_parts (is_blank byte) (list_all is_blank (take n bytes)) all in
    let again = blanks_past bytes n (omega arith) parts.1 in
    omega (arith, again, blanks_in-blank byte bytes parts.0)

behind-length : (bytes : List ℕ) (n : ℕ) → length (behind n bytes) ≡ length bytes - n
behind-length bytes n = ap length (behind-drop n bytes) ∙ length-drop n bytes

pub word_past : (bytes : List ℕ) (n start : ℕ) → n ≤ length bytes → list_all is_blank (take n bytes) ≡ true → position starts (behind n bytes) ≡ Some start → Some (n + start) ≡ position starts bytes
word_past bytes n start within all found =
    let at = some_found _ _ _ found in
    let whole : blanks_in bytes ≡ n + start = blanks_past bytes n within all ∙ ap (λ l. n + blanks_in l) (sym (behind-drop n bytes)) ∙ ap (λ m. n + m) at.1 in
    ap Some (sym whole)
    ∙ sym (ap (λ b. cond b (Some (blanks_in bytes)) None) (lt-ltb (blanks_in bytes) (length bytes) (omega (arith, whole, ltb-true _ _ at.0, at.1, behind-length bytes n))))

pub no_word_past : (bytes : List ℕ) (n : ℕ) → n ≤ length bytes → list_all is_blank (take n bytes) ≡ true → position starts (behind n bytes) ≡ None → None ≡ position starts bytes
no_word_past bytes n within all none =
    let past : length (behind n bytes) ≤ blanks_in (behind n bytes) = ltb-false _ _ (none_found _ _ none) in
    let whole : blanks_in bytes ≡ n + blanks_in (behind n bytes) = blanks_past bytes n within all ∙ ap (λ l. n + blanks_in l) (sym (behind-drop n bytes)) in
    sym (ap (λ b. cond b (Some (blanks_in bytes)) None) (le-ltb (blanks_in bytes) (length bytes) (omega (arith, whole, past, behind-length bytes n))))

-- one more run of blanks
pub run_more : (bytes : List ℕ) (n run : ℕ) → list_all is_blank (take n bytes) ≡ true → list_all is_blank (take run (drop n bytes)) ≡ true → list_all is_blank (take (n + run) bytes) ≡ true
run_more bytes zero run all more =
    let next : 0 + run ≡ run = omega arith in
    ap (λ k. list_all is_blank (take k bytes)) next ∙ more
run_more [] (suc n) run all more = ap (list_all is_blank) (take-nil (suc n + run))
  where
    take-nil : (n : ℕ) → take {A = ℕ} n [] ≡ []
    take-nil zero = refl
    take-nil (suc n) = refl
run_more (byte ∷ bytes) (suc n) run all more =
    let parts = and_parts (is_blank byte) (list_all is_blank (take n bytes)) all in
    let next : suc n + run ≡ suc (n + run) = omega arith in
    ap (λ k. list_all is_blank (take k (byte ∷ bytes))) next ∙ ap (λ b. b && list_all is_blank (take (n + run) bytes)) parts.0 ∙ run_more bytes n run parts.1 more

-- the byte at which a word begins is that word's first
pub comment_found : (bytes : List ℕ) (start : ℕ) → position starts bytes ≡ Some start → (get_or bytes start 0 == 35) ≡ is_comment (fields_in bytes)
comment_found bytes start found =
    let end = unwrap_or (position is_blank (behind start bytes)) (length (behind start bytes)) in
    let p = first_field bytes start end found refl in
    let some : 0 < end = omega (arith, p.begun, length-take end (behind start bytes)) in
    let first : get_or (take end (behind start bytes)) 0 0 ≡ get_or bytes start 0 = get_or-take end (behind start bytes) 0 0 some ∙ ap (λ l. get_or l 0 0) (behind-drop start bytes) ∙ get_or-drop start bytes 0 0 ∙ ap (λ n. get_or bytes n 0) (add-zero start) in
    ap (λ byte. byte == 35) (sym first) ∙ ap is_comment (sym p.fields)
