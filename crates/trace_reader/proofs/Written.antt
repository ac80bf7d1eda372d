-- A request as it is mostly written: its line is one line, and says what it asks.
use Rattle.std.proofs.Common.{◌≡◌, ℕ, ◌+◌, ◌-◌, ◌*◌, ◌≤◌, Bool, true, false, cond, List, [], ◌∷◌, ◌++◌, Option, None, Some, codes, length, refl, sym, ap, ◌∙◌, arith, get_or, take, drop, append_assoc, length-append, subst, zero, suc, add-one}
use Rattle.std.specs.Prelude.{◌==◌, ◌&&◌, ◌||◌, All, filter, nat_le, nat_lt, not, slice_index}
use Rattle.std.specs.Char.{is_ascii, is_ascii_digit}
use Rattle.std.specs.List.{list_all, IsSplitAt}
use Rattle.std.specs.Str.{bytes_eq}
use Rattle.std.proofs.lemmas.Bool.{le-leb, le-ltb, leb-true, lt-ltb, ltb-true, ne_eqb, and_parts}
use Rattle.std.proofs.lemmas.List.{take-append-drop}
use Rattle.std.proofs.lemmas.List.Folds.{list_all-append}
use Rattle.std.proofs.lemmas.List.Splits.{slice_split_at, slice_split_none}
use Rattle.std.proofs.lemmas.List.Sums.{AllPass-from_list_all, fold-append}
use Rattle.std.proofs.lemmas.Slice.Eq.{bytes_eq-Decides}
use Rattle.std.proofs.Math.Seq.{take-append_seam}
use Rattle.small_lemmas.proofs.Bools.{negated as not_true}
use Rattle.map_history.specs.declared.op.Op.{Op}
use Rattle.map_history.specs.declared.op.Op.TheVariants.{Get, Ins, Del, Put, Mov}
use Rattle.map_history.specs.Keys.{least_format}
use Rattle.trace_reader.specs.declared.line.Line.TheVariants.{Ask}
use Rattle.trace_reader.specs.declared.traces.BadLine.TheVariants.{BadNumber, KeyTooLarge, NotAscii, UnknownWord, ValueTooLarge}
use Rattle.trace_reader.specs.Fields.{content_of, fields_in, fields_of, is_blank, is_comment, is_number, value_of}
use Rattle.trace_reader.specs.Line.{asked_by, asked_by_words, begun_by_words, counts, fault_of_counted, fault_of_words, first_found, is_trace, request_tests, tests_of, words_count}
use Rattle.trace_reader.specs.Lines.{IsOneLine}
use Rattle.trace_reader.specs.Plain.{AreDigits, BeginWithNumber, BeginWithPair, BeginWithRequest, IsRequestAt, text_of}
use Rattle.trace_reader.specs.declared.plain.Word.{Word}
use Rattle.trace_reader.specs.Said.{HasLowKeys, Says}
use Rattle.trace_reader.proofs.Digits.{are_number, digit_bounds}

-- what lines are printed with: from a space to a tilde
abbrev is_printed : ℕ → Bool
is_printed byte = nat_le 32 byte && nat_le byte 126

printed_bounds : (byte : ℕ) → is_printed byte ≡ true → (32 ≤ byte) × (byte ≤ 126)
printed_bounds byte is = let parts = and_parts (nat_le 32 byte) (nat_le byte 126) is in (leb-true 32 byte parts.0, leb-true byte 126 parts.1)

imply : (p q : ℕ → Bool) → ((byte : ℕ) → p byte ≡ true → q byte ≡ true) → (bytes : List ℕ) → list_all p bytes ≡ true → list_all q bytes ≡ true
imply p q f [] e = refl
imply p q f (byte ∷ bytes) e =
    let parts = and_parts (p byte) (list_all p bytes) e in
    ap (λ b. b && list_all q bytes) (f byte parts.0) ∙ imply p q f bytes parts.1

printed_ascii : (bytes : List ℕ) → list_all is_printed bytes ≡ true → list_all is_ascii bytes ≡ true
printed_ascii bytes are = imply is_printed is_ascii (λ byte is. lt-ltb byte 128 (omega (arith, (printed_bounds byte is).1))) bytes are

pub digits_printed : (digits : List ℕ) → list_all is_ascii_digit digits ≡ true → list_all is_printed digits ≡ true
digits_printed digits are = imply is_ascii_digit is_printed (λ byte is.
    let bounds = digit_bounds byte is in
    ap (λ b. b && nat_le byte 126) (le-leb 32 byte (omega (arith, bounds.0))) ∙ le-leb byte 126 (omega (arith, bounds.1))) digits are

pub printed_one_line : (line : List ℕ) → list_all is_printed line ≡ true → IsOneLine line
printed_one_line line are = λ k d within. ne_eqb (get_or line k d) 10 (λ same. absurd (omega (arith, same, (printed_bounds (get_or line k d) (AllPass-from_list_all is_printed line are k d within)).0)))

-- a printed line ends in no carriage return
content_printed : (line : List ℕ) → list_all is_printed line ≡ true → content_of line ≡ line
content_printed line are = by_test (nat_lt 0 (length line)) refl
  where
    by_test : (b : Bool) → nat_lt 0 (length line) ≡ b → content_of line ≡ line
    by_test true some =
        let last = AllPass-from_list_all is_printed line are (length line - 1) 0 (omega (arith, ltb-true _ _ some)) in
        let other : (slice_index line (length line - 1) == 13) ≡ false = ne_eqb (slice_index line (length line - 1)) 13 (λ same. absurd (omega (arith, same, (printed_bounds (slice_index line (length line - 1)) last).0))) in
        ap (λ b. cond (b && (slice_index line (length line - 1) == 13)) (take (length line - 1) line) line) some
        ∙ ap (λ b. cond b (take (length line - 1) line) line) other
    by_test false none = ap (λ b. cond (b && (slice_index line (length line - 1) == 13)) (take (length line - 1) line) line) none

abbrev is_letter : ℕ → Bool
is_letter byte = not (is_blank byte)

no_blank : (word : List ℕ) → list_all is_letter word ≡ true → All (λ byte. is_blank byte ≡ false) word
no_blank word are = λ k d within. not_true _ (AllPass-from_list_all is_letter word are k d within)

digits_letters : (digits : List ℕ) → list_all is_ascii_digit digits ≡ true → list_all is_letter digits ≡ true
digits_letters digits are = imply is_ascii_digit is_letter (λ byte is.
    let bounds = digit_bounds byte is in
    ap (λ b. not (b || byte == 9)) (ne_eqb byte 32 (λ same. absurd (omega (arith, same, bounds.0))))
    ∙ ap not (ne_eqb byte 9 (λ same. absurd (omega (arith, same, bounds.0))))) digits are

abbrev is_word : List ℕ → Bool
is_word word = nat_lt 0 (length word)

first_word : (word rest : List ℕ) → list_all is_letter word ≡ true → is_word word ≡ true → fields_in (word ++ 32 ∷ rest) ≡ word ∷ fields_in rest
first_word word rest letters some =
    ap (filter is_word) (slice_split_at is_blank word 32 rest (no_blank word letters) refl)
    ∙ ap (λ b. cond b (word ∷ fields_in rest) (fields_in rest)) some

last_word : (word : List ℕ) → list_all is_letter word ≡ true → is_word word ≡ true → fields_in word ≡ word ∷ []
last_word word letters some =
    ap (filter is_word) (slice_split_none is_blank word (no_blank word letters)) ∙ ap (λ b. cond b (word ∷ []) []) some

-- a line behind a header with this format and a trace, by its words
record SaysSo (op : Op) (format : ℕ) (line word : List ℕ) (numbers : List (List ℕ)) : Type 0 where
  fields : fields_of line ≡ word ∷ numbers
  ascii : list_all is_ascii (content_of line) ≡ true
  comment : is_comment (word ∷ numbers) ≡ false
  fault : first_found (tests_of format true word numbers) ≡ None
  trace : is_trace word ≡ false
  operation : asked_by word numbers ≡ Some op

said : (op : Op) (format : ℕ) (line word : List ℕ) (numbers : List (List ℕ)) → SaysSo op format line word numbers → least_format op ≤ format → HasLowKeys op → Says (Ask op) (Some format) true line
said op format line word numbers so known small =
    let counted : counts line ≡ true = ap words_count so.fields ∙ ap not so.comment in
    record {
      fault = ap (λ b. cond b (fault_of_counted (Some format) true line) None) counted
          ∙ ap (λ b. cond (not b) (Some NotAscii) (fault_of_words format true (fields_of line))) so.ascii
          ∙ ap (fault_of_words format true) so.fields ∙ so.fault;
      header = refl;
      trace = ap begun_by_words so.fields ∙ so.trace;
      operation = ap asked_by_words so.fields ∙ so.operation;
      placed = (known, refl, small);
    }

one_number : (digits : List ℕ) (key : ℕ) → AreDigits key digits → key ≤ 4294967293 → cond (not (is_number digits && true)) (Some BadNumber) (cond (nat_lt 4294967293 (value_of digits)) (Some KeyTooLarge) None) ≡ None
one_number digits key are small =
    ap (λ b. cond (not (b && true)) (Some BadNumber) (cond (nat_lt 4294967293 (value_of digits)) (Some KeyTooLarge) None)) (are_number key digits are)
    ∙ ap (λ n. cond (nat_lt 4294967293 n) (Some KeyTooLarge) None) are.value
    ∙ ap (λ b. cond b (Some KeyTooLarge) None) (le-ltb 4294967293 key small)

two_numbers : (digits more : List ℕ) (key value : ℕ) → AreDigits key digits → AreDigits value more → key ≤ 4294967293 → value ≤ 4294967295
    → cond (not (is_number digits && (is_number more && true))) (Some BadNumber) (cond (nat_lt 4294967293 (value_of digits)) (Some KeyTooLarge) (cond (nat_lt 4294967295 (value_of more)) (Some ValueTooLarge) None)) ≡ None
two_numbers digits more key value are also small fits =
    ap (λ b. cond (not (b && (is_number more && true))) (Some BadNumber) (cond (nat_lt 4294967293 (value_of digits)) (Some KeyTooLarge) (cond (nat_lt 4294967295 (value_of more)) (Some ValueTooLarge) None))) (are_number key digits are)
    ∙ ap (λ b. cond (not (b && true)) (Some BadNumber) (cond (nat_lt 4294967293 (value_of digits)) (Some KeyTooLarge) (cond (nat_lt 4294967295 (value_of more)) (Some ValueTooLarge) None))) (are_number value more also)
    ∙ ap (λ n. cond (nat_lt 4294967293 n) (Some KeyTooLarge) (cond (nat_lt 4294967295 (value_of more)) (Some ValueTooLarge) None)) are.value
    ∙ ap (λ b. cond b (Some KeyTooLarge) (cond (nat_lt 4294967295 (value_of more)) (Some ValueTooLarge) None)) (le-ltb 4294967293 key small)
    ∙ ap (λ n. cond (nat_lt 4294967295 n) (Some ValueTooLarge) None) also.value
    ∙ ap (λ b. cond b (Some ValueTooLarge) None) (le-ltb 4294967295 value fits)

two_keys : (digits more : List ℕ) (from to : ℕ) → AreDigits from digits → AreDigits to more → from ≤ 4294967293 → to ≤ 4294967293
    → cond (not (is_number digits && (is_number more && true))) (Some BadNumber) (cond (nat_lt 4294967293 (value_of digits)) (Some KeyTooLarge) (cond (nat_lt 4294967293 (value_of more)) (Some KeyTooLarge) (cond (nat_lt 4294967295 (value_of more)) (Some ValueTooLarge) None))) ≡ None
two_keys digits more from to are also small low =
    ap (λ b. cond (not (b && (is_number more && true))) (Some BadNumber) (cond (nat_lt 4294967293 (value_of digits)) (Some KeyTooLarge) (cond (nat_lt 4294967293 (value_of more)) (Some KeyTooLarge) (cond (nat_lt 4294967295 (value_of more)) (Some ValueTooLarge) None)))) (are_number from digits are)
    ∙ ap (λ b. cond (not (b && true)) (Some BadNumber) (cond (nat_lt 4294967293 (value_of digits)) (Some KeyTooLarge) (cond (nat_lt 4294967293 (value_of more)) (Some KeyTooLarge) (cond (nat_lt 4294967295 (value_of more)) (Some ValueTooLarge) None)))) (are_number to more also)
    ∙ ap (λ n. cond (nat_lt 4294967293 n) (Some KeyTooLarge) (cond (nat_lt 4294967293 (value_of more)) (Some KeyTooLarge) (cond (nat_lt 4294967295 (value_of more)) (Some ValueTooLarge) None))) are.value
    ∙ ap (λ b. cond b (Some KeyTooLarge) (cond (nat_lt 4294967293 (value_of more)) (Some KeyTooLarge) (cond (nat_lt 4294967295 (value_of more)) (Some ValueTooLarge) None))) (le-ltb 4294967293 from small)
    ∙ ap (λ n. cond (nat_lt 4294967293 n) (Some KeyTooLarge) (cond (nat_lt 4294967295 n) (Some ValueTooLarge) None)) also.value
    ∙ ap (λ b. cond b (Some KeyTooLarge) (cond (nat_lt 4294967295 to) (Some ValueTooLarge) None)) (le-ltb 4294967293 to low)
    ∙ ap (λ b. cond b (Some ValueTooLarge) None) (le-ltb 4294967295 to (omega (arith, low)))

-- the line of a look-up and of a deletion, with these digits
abbrev pub get_line : List ℕ → List ℕ
get_line digits = codes "get " ++ digits

abbrev pub del_line : List ℕ → List ℕ
del_line digits = codes "del " ++ digits

pub get_one_line : (key : ℕ) (digits : List ℕ) → AreDigits key digits → IsOneLine (get_line digits)
get_one_line key digits are = printed_one_line (get_line digits) (digits_printed digits are.each)

pub del_one_line : (key : ℕ) (digits : List ℕ) → AreDigits key digits → IsOneLine (del_line digits)
del_one_line key digits are = printed_one_line (del_line digits) (digits_printed digits are.each)

pub get_said : (format key : ℕ) (digits : List ℕ) → 1 ≤ format → AreDigits key digits → key ≤ 4294967293 → Says (Ask (Get key)) (Some format) true (get_line digits)
get_said format key digits known are small =
    let printed = digits_printed digits are.each in
    let content = content_printed (get_line digits) printed in
    said (Get key) format (get_line digits) (codes "get") (digits ∷ []) (record {
      fields = ap fields_in content ∙ first_word (codes "get") digits refl refl
          ∙ ap (λ more. codes "get" ∷ more) (last_word digits (digits_letters digits are.each) (lt-ltb 0 _ are.some));
      ascii = ap (list_all is_ascii) content ∙ printed_ascii (get_line digits) printed;
      comment = refl;
      fault = one_number digits key are small;
      trace = refl;
      operation = ap (λ n. Some (Get n)) are.value;
    }) known small

pub del_said : (format key : ℕ) (digits : List ℕ) → 1 ≤ format → AreDigits key digits → key ≤ 4294967293 → Says (Ask (Del key)) (Some format) true (del_line digits)
del_said format key digits known are small =
    let printed = digits_printed digits are.each in
    let content = content_printed (del_line digits) printed in
    said (Del key) format (del_line digits) (codes "del") (digits ∷ []) (record {
      fields = ap fields_in content ∙ first_word (codes "del") digits refl refl
          ∙ ap (λ more. codes "del" ∷ more) (last_word digits (digits_letters digits are.each) (lt-ltb 0 _ are.some));
      ascii = ap (list_all is_ascii) content ∙ printed_ascii (del_line digits) printed;
      comment = refl;
      fault = one_number digits key are small;
      trace = refl;
      operation = ap (λ n. Some (Del n)) are.value;
    }) known small

-- a line with a word and two numbers
abbrev pub pair_line : List ℕ → List ℕ → List ℕ → List ℕ
pair_line word digits more = word ++ 32 ∷ (digits ++ 32 ∷ more)

-- its word
record IsLetters (word : List ℕ) : Type 0 where
  printed : list_all is_printed word ≡ true
  letters : list_all is_letter word ≡ true
  some : is_word word ≡ true

pair_printed : (word digits more : List ℕ) → list_all is_printed word ≡ true → list_all is_ascii_digit digits ≡ true → list_all is_ascii_digit more ≡ true → list_all is_printed (pair_line word digits more) ≡ true
pair_printed word digits more one are also =
    list_all-append is_printed word (32 ∷ (digits ++ 32 ∷ more))
    ∙ ap (λ b. b && list_all is_printed (digits ++ 32 ∷ more)) one
    ∙ list_all-append is_printed digits (32 ∷ more)
    ∙ ap (λ b. b && list_all is_printed more) (digits_printed digits are)
    ∙ digits_printed more also

pair_one_line : (word : List ℕ) (key value : ℕ) (digits more : List ℕ) → list_all is_printed word ≡ true → AreDigits key digits → AreDigits value more → IsOneLine (pair_line word digits more)
pair_one_line word key value digits more one are also = printed_one_line (pair_line word digits more) (pair_printed word digits more one are.each also.each)

pair_fields : (word : List ℕ) (key value : ℕ) (digits more : List ℕ) → IsLetters word → AreDigits key digits → AreDigits value more → fields_in (pair_line word digits more) ≡ word ∷ digits ∷ more ∷ []
pair_fields word key value digits more one are also =
    first_word word (digits ++ 32 ∷ more) one.letters one.some
    ∙ ap (λ words. word ∷ words) (
    first_word digits more (digits_letters digits are.each) (lt-ltb 0 _ are.some)
    ∙ ap (λ words. digits ∷ words) (last_word more (digits_letters more also.each) (lt-ltb 0 _ also.some)))

-- what it says, where the format has the word
pair_said : (op : Op) (format : ℕ) (word : List ℕ) (key value : ℕ) (digits more : List ℕ) → IsLetters word → is_comment (word ∷ digits ∷ more ∷ []) ≡ false → AreDigits key digits → AreDigits value more
    → first_found (tests_of format true word (digits ∷ more ∷ [])) ≡ None → is_trace word ≡ false → asked_by word (digits ∷ more ∷ []) ≡ Some op → least_format op ≤ format → HasLowKeys op
    → Says (Ask op) (Some format) true (pair_line word digits more)
pair_said op format word key value digits more one comment are also fault trace asks known small =
    let printed = pair_printed word digits more one.printed are.each also.each in
    let content = content_printed (pair_line word digits more) printed in
    said op format (pair_line word digits more) word (digits ∷ more ∷ []) (record {
      fields = ap fields_in content ∙ pair_fields word key value digits more one are also;
      ascii = ap (list_all is_ascii) content ∙ printed_ascii (pair_line word digits more) printed;
      comment = comment;
      fault = fault;
      trace = trace;
      operation = asks;
    }) known small

-- the line of an insertion, of a `put` and of a `mov`
abbrev pub ins_line : List ℕ → List ℕ → List ℕ
ins_line digits more = pair_line (codes "ins") digits more

abbrev pub put_line : List ℕ → List ℕ → List ℕ
put_line digits more = pair_line (codes "put") digits more

abbrev pub mov_line : List ℕ → List ℕ → List ℕ
mov_line digits more = pair_line (codes "mov") digits more

pub ins_one_line : (key value : ℕ) (digits more : List ℕ) → AreDigits key digits → AreDigits value more → IsOneLine (ins_line digits more)
ins_one_line key value digits more are also = pair_one_line (codes "ins") key value digits more refl are also

pub put_one_line : (key value : ℕ) (digits more : List ℕ) → AreDigits key digits → AreDigits value more → IsOneLine (put_line digits more)
put_one_line key value digits more are also = pair_one_line (codes "put") key value digits more refl are also

pub mov_one_line : (from to : ℕ) (digits more : List ℕ) → AreDigits from digits → AreDigits to more → IsOneLine (mov_line digits more)
mov_one_line from to digits more are also = pair_one_line (codes "mov") from to digits more refl are also

pub ins_said : (format key value : ℕ) (digits more : List ℕ) → 1 ≤ format → AreDigits key digits → AreDigits value more → key ≤ 4294967293 → value ≤ 4294967295 → Says (Ask (Ins key value)) (Some format) true (ins_line digits more)
ins_said format key value digits more known are also small fits =
    pair_said (Ins key value) format (codes "ins") key value digits more (record { printed = refl; letters = refl; some = refl }) refl are also
    (two_numbers digits more key value are also small fits) refl
    (ap (λ n. Some (Ins n (value_of more))) are.value ∙ ap (λ n. Some (Ins key n)) also.value) known small

pub put_said : (format key value : ℕ) (digits more : List ℕ) → 2 ≤ format → AreDigits key digits → AreDigits value more → key ≤ 4294967293 → value ≤ 4294967295 → Says (Ask (Put key value)) (Some format) true (put_line digits more)
put_said format key value digits more known are also small fits =
    pair_said (Put key value) format (codes "put") key value digits more (record { printed = refl; letters = refl; some = refl }) refl are also
    (ap (λ b. cond (not b) (Some UnknownWord) (first_found (request_tests true 2 false (digits ∷ more ∷ [])))) (le-leb 2 format known) ∙ two_numbers digits more key value are also small fits) refl
    (ap (λ n. Some (Put n (value_of more))) are.value ∙ ap (λ n. Some (Put key n)) also.value) known small

pub mov_said : (format from to : ℕ) (digits more : List ℕ) → 3 ≤ format → AreDigits from digits → AreDigits to more → from ≤ 4294967293 → to ≤ 4294967293 → Says (Ask (Mov from to)) (Some format) true (mov_line digits more)
mov_said format from to digits more known are also small low =
    pair_said (Mov from to) format (codes "mov") from to digits more (record { printed = refl; letters = refl; some = refl }) refl are also
    (ap (λ b. cond (not b) (Some UnknownWord) (first_found (request_tests true 2 true (digits ∷ more ∷ [])))) (le-leb 3 format known) ∙ two_keys digits more from to are also small low) refl
    (ap (λ n. Some (Mov n (value_of more))) are.value ∙ ap (λ n. Some (Mov from n)) also.value) known (small, low)

-- bytes that begin with a word of four bytes
pub word_first : (bytes word numbers : List ℕ) (is one : Word) → IsSplitAt bytes 4 word numbers → bytes_eq word (text_of is) ≡ true → is ≡ one → bytes ≡ text_of one ++ numbers
word_first bytes word numbers is one split same e =
    sym (take-append-drop 4 bytes)
    ∙ ap (λ l. l ++ drop 4 bytes) (sym split.1 ∙ (bytes_eq-Decides word (text_of is)).0 same ∙ ap text_of e)
    ∙ ap (λ l. text_of one ++ l) (sym split.2)

-- bytes that begin with such a line
pub get_read : (format : ℕ) (bytes number : List ℕ) (key : ℕ) (rest : List ℕ) → 1 ≤ format → bytes ≡ codes "get " ++ number → BeginWithNumber number key 10 rest → BeginWithRequest (Some format) bytes (Get key) rest
get_read format bytes number key rest known is begin = record {
  line = get_line begin.digits;
  one = get_one_line key begin.digits begin.are;
  says = get_said format key begin.digits known begin.are (omega (arith, begin.small));
  cut = is ∙ ap (λ l. codes "get " ++ l) begin.cut;
}

pub del_read : (format : ℕ) (bytes number : List ℕ) (key : ℕ) (rest : List ℕ) → 1 ≤ format → bytes ≡ codes "del " ++ number → BeginWithNumber number key 10 rest → BeginWithRequest (Some format) bytes (Del key) rest
del_read format bytes number key rest known is begin = record {
  line = del_line begin.digits;
  one = del_one_line key begin.digits begin.are;
  says = del_said format key begin.digits known begin.are (omega (arith, begin.small));
  cut = is ∙ ap (λ l. codes "del " ++ l) begin.cut;
}

-- the digits of two numbers, with a blank between them and a line feed behind them
pair_cut : (bytes : List ℕ) (key value : ℕ) (rest : List ℕ) (pair : BeginWithPair bytes key value rest) → bytes ≡ (pair.first.digits ++ 32 ∷ pair.second.digits) ++ 10 ∷ rest
pair_cut bytes key value rest pair =
    pair.first.cut ∙ ap (λ l. pair.first.digits ++ 32 ∷ l) pair.second.cut ∙ sym (append_assoc pair.first.digits (32 ∷ pair.second.digits) (10 ∷ rest))

pub ins_read : (format : ℕ) (bytes numbers : List ℕ) (key value : ℕ) (rest : List ℕ) → 1 ≤ format → bytes ≡ codes "ins " ++ numbers → BeginWithPair numbers key value rest → BeginWithRequest (Some format) bytes (Ins key value) rest
ins_read format bytes numbers key value rest known is pair = record {
  line = ins_line pair.first.digits pair.second.digits;
  one = ins_one_line key value pair.first.digits pair.second.digits pair.first.are pair.second.are;
  says = ins_said format key value pair.first.digits pair.second.digits known pair.first.are pair.second.are (omega (arith, pair.first.small)) (omega (arith, pair.second.small));
  cut = is ∙ ap (λ l. codes "ins " ++ l) (pair_cut numbers key value rest pair);
}

pub put_read : (format : ℕ) (bytes numbers : List ℕ) (key value : ℕ) (rest : List ℕ) → 2 ≤ format → bytes ≡ codes "put " ++ numbers → BeginWithPair numbers key value rest → BeginWithRequest (Some format) bytes (Put key value) rest
put_read format bytes numbers key value rest known is pair = record {
  line = put_line pair.first.digits pair.second.digits;
  one = put_one_line key value pair.first.digits pair.second.digits pair.first.are pair.second.are;
  says = put_said format key value pair.first.digits pair.second.digits known pair.first.are pair.second.are (omega (arith, pair.first.small)) (omega (arith, pair.second.small));
  cut = is ∙ ap (λ l. codes "put " ++ l) (pair_cut numbers key value rest pair);
}

pub mov_read : (format : ℕ) (bytes numbers : List ℕ) (from to : ℕ) (rest : List ℕ) → 3 ≤ format → bytes ≡ codes "mov " ++ numbers → BeginWithPair numbers from to rest → BeginWithRequest (Some format) bytes (Mov from to) rest
mov_read format bytes numbers from to rest known is pair = record {
  line = mov_line pair.first.digits pair.second.digits;
  one = mov_one_line from to pair.first.digits pair.second.digits pair.first.are pair.second.are;
  says = mov_said format from to pair.first.digits pair.second.digits known pair.first.are pair.second.are (omega (arith, pair.first.small)) (omega (arith, pair.second.small));
  cut = is ∙ ap (λ l. codes "mov " ++ l) (pair_cut numbers from to rest pair);
}

-- a request stands where its line ends
pub request_at : (format : Option ℕ) (bytes : List ℕ) (op : Op) (rest : List ℕ) (end : ℕ) → BeginWithRequest format bytes op rest → end ≡ length bytes - length rest - 1 → IsRequestAt format bytes op end
request_at format bytes op rest end begin is =
    let len : length bytes ≡ length begin.line + (length rest + 1) = ap length begin.cut ∙ length-append begin.line (10 ∷ rest) ∙ ap (λ n. length begin.line + n) (sym (add-one (length rest))) in
    let same : end ≡ length begin.line = omega (arith, is, len) in
    let front : take end bytes ≡ begin.line = ap (λ l. take end l) begin.cut ∙ ap (λ n. take n (begin.line ++ 10 ∷ rest)) same ∙ take-append_seam begin.line (10 ∷ rest) in
    let last : drop (end + 1) bytes ≡ rest =
    ap (λ l. drop (end + 1) l) begin.cut ∙ ap (λ n. drop n (begin.line ++ 10 ∷ rest)) (ap (λ n. n + 1) same ∙ add-one (length begin.line)) ∙ drop_past begin.line rest in
    record {
      within = omega (arith, same, len);
      one = subst (λ (l : List ℕ). IsOneLine l) (sym front) begin.one;
      says = subst (λ (l : List ℕ). Says (Ask op) format true l) (sym front) begin.says;
      cut = ap (λ l. l ++ 10 ∷ drop (end + 1) bytes) front ∙ ap (λ l. begin.line ++ 10 ∷ l) last ∙ sym begin.cut;
    }
  where
    drop_past : (line rest : List ℕ) → drop (suc (length line)) (line ++ 10 ∷ rest) ≡ rest
    drop_past [] rest = refl
    drop_past (byte ∷ line) rest = drop_past line rest

-- digits with one more behind them
pub digit_more : (bytes : List ℕ) (number len digit : ℕ) → len + 1 ≤ length bytes → is_ascii_digit (get_or bytes len 0) ≡ true → digit ≡ get_or bytes len 0 - 48
    → list_all is_ascii_digit (take len bytes) ≡ true → value_of (take len bytes) ≡ number
    → (list_all is_ascii_digit (take (len + 1) bytes) ≡ true) × (value_of (take (len + 1) bytes) ≡ number * 10 + digit)
digit_more bytes number len digit within is same are value =
    let longer : take (len + 1) bytes ≡ take len bytes ++ get_or bytes len 0 ∷ [] = ap (λ n. take n bytes) (add-one len) ∙ take-next bytes len within in (
      ap (list_all is_ascii_digit) longer ∙ list_all-append is_ascii_digit (take len bytes) (get_or bytes len 0 ∷ []) ∙ ap (λ b. b && (is_ascii_digit (get_or bytes len 0) && true)) are ∙ ap (λ b. b && true) is,
      ap value_of longer ∙ fold-append (λ value digit. value * 10 + (digit - 48)) 0 (take len bytes) (get_or bytes len 0 ∷ [])
          ∙ ap (λ v. v * 10 + (get_or bytes len 0 - 48)) value ∙ ap (λ d. number * 10 + d) (sym same),
    )
  where
    take-next : (bytes : List ℕ) (len : ℕ) → len + 1 ≤ length bytes → take (suc len) bytes ≡ take len bytes ++ get_or bytes len 0 ∷ []
    take-next [] len within = absurd (omega arith)
    take-next (byte ∷ bytes) zero within = refl
    take-next (byte ∷ bytes) (suc len) within = ap (λ l. byte ∷ l) (take-next bytes len (omega arith))

-- a request says the same where its trace has begun
pub says_there : (op : Op) (format : Option ℕ) (begun : Bool) (line : List ℕ) → begun ≡ true → Says (Ask op) format true line → Says (Ask op) format begun line
says_there op format begun line begins says = rw begins says
