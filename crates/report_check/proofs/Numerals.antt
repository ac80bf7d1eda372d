-- Numbers as they are printed, and as they are read.
use Rattle.std.proofs.Common.{◌≡◌, ℕ, ◌+◌, ◌-◌, ◌*◌, ◌^◌, ◌<◌, ◌⊎◌, true, List, length, sym, ap, ◌∙◌, inl, inr, ⊎_elim, arith, rules}
use Rattle.std.specs.Prelude.{decimal, fold, slice_index, nat_lt}
use Rattle.std.specs.Char.{is_ascii_digit}
use Rattle.std.specs.List.{list_all}
use Rattle.std.proofs.lemmas.Fmt.{decimal-digits_value, decimal_digit, first_decimal}
use Rattle.std.proofs.lemmas.Str.Parse.{IsNumeralModel, numerals_by_fold}
use Rattle.small_lemmas.proofs.Bools.{both_of}
use Rattle.small_lemmas.proofs.Numbers.{tested_less, zero_or_some}
use Rattle.trace_reader.specs.Fields.{value_of}
use Rattle.trace_reader.proofs.Digits.{are_number, printed_digits}
use Rattle.report_check.specs.Lines.{IsNumeral}

own : IsNumeralModel (λ ds. list_all is_ascii_digit ds ≡ true) value_of
own = numerals_by_fold (λ ds. list_all is_ascii_digit ds ≡ true) (search rules) (λ n ds. fold (λ value digit. value * 10 + (digit - 48)) n ds) (search rules)

shortest_decimal : (n : ℕ) → n < 2 ^ 32 → (n ≡ 0) ⊎ (0 < n) → slice_index (decimal n) 0 ≡ 48 → length (decimal n) ≡ 1
shortest_decimal n small (inl none) first = ap (λ k. length (decimal k)) none ∙ ap length (decimal_digit 0 (omega arith))
shortest_decimal n small (inr some) first = let high = first_decimal n some (omega (arith, small)) in omega arith

-- a number that is printed is read
pub numeral_decimal : (n : ℕ) → n < 2 ^ 32 → IsNumeral (decimal n) n
numeral_decimal n small =
    let are = printed_digits n (omega (arith, small)) in
    record {
      number = are_number n (decimal n) are;
      shortest = shortest_decimal n small (⊎_elim (λ none. inl none) (λ some. inr (omega arith)) (zero_or_some n));
      stands = omega (arith, are.value, small);
    }

-- a number that is read is printed so
pub decimal_numeral : (digits : List ℕ) (n : ℕ) → IsNumeral digits n → n < 2 ^ 32 → digits ≡ decimal n
decimal_numeral digits n is small =
    let value : value_of digits ≡ n = omega (arith, is.stands) in
    let both = both_of (nat_lt 0 (length digits)) (list_all is_ascii_digit digits) is.number in
    sym (decimal-digits_value own digits both.1 (tested_less 0 (length digits) both.0) is.shortest (omega arith)) ∙ ap decimal value

-- a numeral is one number
pub numeral_once : (digits : List ℕ) (a b : ℕ) → IsNumeral digits a → IsNumeral digits b → a ≡ b
numeral_once digits a b one other = one.stands ∙ sym other.stands
