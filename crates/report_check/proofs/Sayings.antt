-- What a line says, and what stands in it where it says it.
use Rattle.std.proofs.Common.{◌≡◌, ℕ, ◌+◌, ◌-◌, ◌<◌, ◌^◌, Bool, true, false, List, [], ◌∷◌, ◌++◌, Option, None, Some, codes, length, get_or, take, drop, refl, sym, ap, ◌∙◌, subst, arith, length-append, add-one, drop-cons}
use Rattle.std.specs.Prelude.{◌==◌, ◌&&◌, decimal, nat_lt, not, position}
use Rattle.std.specs.Char.{is_ascii_digit}
use Rattle.std.specs.List.{list_all}
use Rattle.std.proofs.lemmas.Bool.{eqb-true, ne_eqb}
use Rattle.std.proofs.Math.ListN.{get_or-append}
use Rattle.std.proofs.Math.Seq.{drop-append_seam, get_or-append_seam, take-append_seam}
use Rattle.std.proofs.lemmas.List.{append_cancel_left, drop-drop, take-append-drop, take_rest}
use Rattle.std.proofs.lemmas.List.Folds.{list_all-append}
use Rattle.std.proofs.lemmas.List.Quantifiers.{position-Some}
use Rattle.std.proofs.lemmas.List.Sums.{AllPass-from_list_all}
use Rattle.small_lemmas.proofs.Bools.{both_of, from_both, negated}
use Rattle.small_lemmas.proofs.Lists.{none_not_some, same_number}
use Rattle.history_orders.specs.map_history.specs.declared.reply.Reply.{Reply}
use Rattle.history_orders.specs.map_history.specs.declared.reply.Reply.TheVariants.{New, Dup, Val, Gone, Absent, Was, Moved}
use Rattle.history_orders.specs.map_history.specs.Words.{IsReply}
use Rattle.report_text.specs.Report.{Answer, Line, reply_text}
use Rattle.report_text.specs.Report.Line.{trace_line, answer_line, final_line}
use Rattle.trace_reader.specs.Lines.{IsOneLine}
use Rattle.trace_reader.proofs.Digits.{digit_bounds}
use Rattle.trace_reader.proofs.Pieces.{first_is}
use Rattle.report_check.specs.Lines.{IsNumeral, NoneStands, Says, SaysAnswer, SaysSize}
use Rattle.report_check.specs.Said.{IsCut, SaysNumber}
use Rattle.report_check.proofs.Cuts.{cut_once, none_cut}
use Rattle.report_check.proofs.Numerals.{numeral_decimal, numeral_once}

-- a numeral behind a word is one number
pub number_once : (word text : List ℕ) (a b : ℕ) → SaysNumber word text a → SaysNumber word text b → a ≡ b
number_once word text a b one other =
    let same = append_cancel_left word one.digits other.digits (sym one.is ∙ other.is) in
    numeral_once other.digits a b (subst (λ (d : List ℕ). IsNumeral d a) same one.numeral) other.numeral

pub number_decimal : (word text : List ℕ) (n : ℕ) → n < 2 ^ 32 → text ≡ word ++ decimal n → SaysNumber word text n
number_decimal word text n small is = record { digits = decimal n; numeral = numeral_decimal n small; is = is }

abbrev is_other : ℕ → Bool
is_other byte = not (byte == 10)

abbrev AreOther : List ℕ → Type 0
AreOther bytes = list_all is_other bytes ≡ true

pub others_one : (bytes : List ℕ) → AreOther bytes → IsOneLine bytes
others_one bytes are = λ k d within. negated (get_or bytes k d == 10) (AllPass-from_list_all is_other bytes are k d within)

others_append : (front back : List ℕ) → AreOther front → AreOther back → AreOther (front ++ back)
others_append front back one other = list_all-append is_other front back ∙ ap (λ b. b && list_all is_other back) one ∙ other

digits_other : (digits : List ℕ) → list_all is_ascii_digit digits ≡ true → AreOther digits
digits_other [] are = refl
digits_other (digit ∷ digits) are =
    let both = both_of (is_ascii_digit digit) (list_all is_ascii_digit digits) are in
    let bounds = digit_bounds digit both.0 in
    ap (λ b. not b && list_all is_other digits) (ne_eqb digit 10 (λ same. absurd (omega (arith, same, bounds.0)))) ∙ digits_other digits both.1

numeral_other : (digits : List ℕ) (n : ℕ) → IsNumeral digits n → AreOther digits
numeral_other digits n is = digits_other digits (both_of (nat_lt 0 (length digits)) (list_all is_ascii_digit digits) is.number).1

reply_other : (reply : Reply) → IsReply reply → AreOther (reply_text reply)
reply_other New is = refl
reply_other Dup is = refl
reply_other (Val value) is = numeral_other (decimal value) value (numeral_decimal value is)
reply_other Gone is = refl
reply_other Absent is = refl
reply_other (Was value) is = numeral_other (decimal value) value (numeral_decimal value is)
reply_other Moved is = refl

-- what can stand in a place is one line
pub answer_other : (any : Option Answer) (text : List ℕ) → Says (answer_line any) text → AreOther text
answer_other None text says = subst AreOther (sym says) refl
answer_other (Some answer) text says =
    subst AreOther (sym says.is)
    (others_append says.digits (32 ∷ reply_text answer.reply) (numeral_other says.digits answer.rank says.rank) (reply_other answer.reply says.reply))

pub size_other : (size : ℕ) (text : List ℕ) → SaysSize size text → AreOther text
size_other size text says = subst AreOther (sym says.is) (numeral_other says.digits size says.numeral)

pub trace_other : (trace : ℕ) (text : List ℕ) → trace < 2 ^ 32 → Says (trace_line trace) text → AreOther text
trace_other trace text small says = subst AreOther (sym says) (numeral_other (decimal trace) trace (numeral_decimal trace small))

-- no line is cut off, or one is that can't stand in this place
pub none_at_all : (line : Line) (bytes : List ℕ) → IsOneLine bytes → NoneStands line bytes
none_at_all line bytes one text more stands is = none_cut bytes text more one is

same_cut : (bytes line more text rest : List ℕ) → IsCut bytes line more → IsOneLine text → bytes ≡ text ++ 10 ∷ rest → text ≡ line
same_cut bytes line more text rest cut one is = (cut_once text line rest more one cut.one (sym is ∙ cut.cut)).0

pub none_trace : (trace : ℕ) (bytes line more : List ℕ) → trace < 2 ^ 32 → IsCut bytes line more → (Says (trace_line trace) line → ⊥) → NoneStands (trace_line trace) bytes
none_trace trace bytes line more small cut none text rest stands is =
    none (subst (Says (trace_line trace)) (same_cut bytes line more text rest cut (others_one text (trace_other trace text small stands)) is) stands)

pub none_answer : (bytes line more : List ℕ) → IsCut bytes line more → ((any : Option Answer) → Says (answer_line any) line → ⊥) → NoneStands (answer_line None) bytes
none_answer bytes line more cut none text rest stands is =
    none stands.0 (subst (Says (answer_line stands.0)) (same_cut bytes line more text rest cut (others_one text (answer_other stands.0 text stands.1)) is) stands.1)

pub none_size : (bytes line more : List ℕ) → IsCut bytes line more → ((any : ℕ) → SaysSize any line → ⊥) → NoneStands (final_line 0) bytes
none_size bytes line more cut none text rest stands is =
    none stands.0 (subst (SaysSize stands.0) (same_cut bytes line more text rest cut (others_one text (size_other stands.0 text stands.1)) is) stands.1)

-- a numeral behind the first word of the last line
pub number_size : (size : ℕ) (text : List ℕ) → SaysNumber (codes "final ") text size → SaysSize size text
number_size size text says = record { digits = says.digits; numeral = says.numeral; is = says.is }

pub size_number : (size : ℕ) (text : List ℕ) → SaysSize size text → SaysNumber (codes "final ") text size
size_number size text says = record { digits = says.digits; numeral = says.numeral; is = says.is }

-- the first space of a request's line stands behind its rank
no_space : (digits : List ℕ) (k : ℕ) → list_all is_ascii_digit digits ≡ true → k < length digits → (get_or digits k 0 == 32) ≡ false
no_space digits k are within = ne_eqb (get_or digits k 0) 32 (λ same. absurd (omega (arith, same, (digit_bounds (get_or digits k 0) (AllPass-from_list_all is_ascii_digit digits are k 0 within)).0)))

pub space_found : (digits text : List ℕ) → list_all is_ascii_digit digits ≡ true → position (λ byte. byte == 32) (digits ++ 32 ∷ text) ≡ Some (length digits)
space_found digits text are =
    sym (first_is (λ byte. byte == 32) (digits ++ 32 ∷ text) (Some (length digits)) (
      record {
        low = omega arith;
        high = omega (arith, length-append digits (32 ∷ text));
        before = λ k low early pass. from_both (get_or (digits ++ 32 ∷ text) k 0 == 32) pass (ap (λ byte. byte == 32) (get_or-append digits (32 ∷ text) 0 k early) ∙ no_space digits k are early);
      },
      ap (λ byte. byte == 32) (get_or-append_seam digits 32 text 0),
    ))

-- where it stands, what stands before it, and what behind
pub record IsSpaceAt (line digits text : List ℕ) (end : ℕ) : Type 0 where
  pub digits_are : take end line ≡ digits
  pub text_is : take (length line - (end + 1)) (drop (end + 1) line) ≡ text

pub space_at : (answer : Answer) (line : List ℕ) (end : ℕ) (says : SaysAnswer answer line) → position (λ byte. byte == 32) line ≡ Some end → IsSpaceAt line says.digits (reply_text answer.reply) end
space_at answer line end says found =
    let text = reply_text answer.reply in
    let are = (both_of (nat_lt 0 (length says.digits)) (list_all is_ascii_digit says.digits) says.rank.number).1 in
    let same : end ≡ length says.digits = same_number end (length says.digits) (sym found ∙ ap (position (λ byte. byte == 32)) says.is ∙ space_found says.digits text are) in
    record {
      digits_are = (λ i. take (same i) (says.is i)) ∙ take-append_seam says.digits (32 ∷ text);
      text_is = take_rest line (end + 1) ∙ (λ i. drop (same i + 1) (says.is i)) ∙ sym (drop-drop 1 (length says.digits) (says.digits ++ 32 ∷ text)) ∙ ap (drop 1) (drop-append_seam says.digits (32 ∷ text));
    }

pub no_space_found : (answer : Answer) (line : List ℕ) → SaysAnswer answer line → position (λ byte. byte == 32) line ≡ None → ⊥
no_space_found answer line says none =
    let are = (both_of (nat_lt 0 (length says.digits)) (list_all is_ascii_digit says.digits) says.rank.number).1 in
    none_not_some (length says.digits) (sym none ∙ ap (position (λ byte. byte == 32)) says.is ∙ space_found says.digits (reply_text answer.reply) are)

-- a line is what stands before its first space, the space, and what stands behind
pub spaced : (line : List ℕ) (end : ℕ) → position (λ byte. byte == 32) line ≡ Some end → line ≡ take end line ++ 32 ∷ take (length line - (end + 1)) (drop (end + 1) line)
spaced line end found =
    let at = position-Some (λ byte. byte == 32) line end 0 found in
    sym (ap (λ l. take end line ++ 32 ∷ l) (take_rest line (end + 1))
    ∙ ap (λ byte. take end line ++ byte ∷ drop (end + 1) line) (sym (eqb-true _ _ at.1))
    ∙ ap (λ l. take end line ++ l) (sym (rw add-one (drop-cons line end 0 at.0)))
    ∙ take-append-drop end line)
