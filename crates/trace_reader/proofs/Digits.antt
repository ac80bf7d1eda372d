-- The digits with which a number is printed.
use Rattle.std.proofs.Common.{◌≡◌, ℕ, ◌+◌, ◌-◌, ◌*◌, ◌/◌, ◌%◌, ◌^◌, ◌<◌, ◌≤◌, Bool, true, false, List, [], ◌∷◌, ◌++◌, length, length-append, refl, ap, ◌∙◌, arith}
use Rattle.std.specs.Prelude.{◌&&◌, decimal, nat_le}
use Rattle.std.specs.Char.{is_ascii_digit}
use Rattle.std.specs.List.{list_all}
use Rattle.std.proofs.lemmas.Bool.{le-leb, leb-true, lt-ltb}
use Rattle.std.proofs.lemmas.Fmt.{decimal_by_steps, length-decimal-le}
use Rattle.std.proofs.lemmas.List.Folds.{list_all-append}
use Rattle.std.proofs.lemmas.List.Sums.{fold-append}
use Rattle.std.proofs.lemmas.Nat.{div-add-mod', mod_below}
use Rattle.trace_reader.specs.Fields.{is_number}
use Rattle.trace_reader.specs.Plain.{AreDigits}

digit : (n : ℕ) → n < 10 → is_ascii_digit (48 + n) ≡ true
digit n small = ap (λ b. b && nat_le (48 + n) 57) (le-leb 48 (48 + n) (omega arith)) ∙ le-leb (48 + n) 57 (omega (arith, small))

one : (n : ℕ) → n < 10 → AreDigits n ((48 + n) ∷ [])
one n small = record {
  each = ap (λ b. b && true) (digit n small);
  value = omega arith;
  some = omega arith;
}

one_more : (n : ℕ) (digits : List ℕ) → 10 ≤ n → AreDigits (n / 10) digits → AreDigits n (digits ++ (48 + n % 10) ∷ [])
one_more n digits large are =
    let small : n % 10 < 10 = mod_below n 10 (omega arith) in
    record {
      each = list_all-append is_ascii_digit digits ((48 + n % 10) ∷ [])
          ∙ ap (λ b. b && (is_ascii_digit (48 + n % 10) && true)) are.each ∙ ap (λ b. b && true) (digit (n % 10) small);
      value = fold-append (λ value digit. value * 10 + (digit - 48)) 0 digits ((48 + n % 10) ∷ [])
          ∙ ap (λ value. value * 10 + (48 + n % 10 - 48)) are.value ∙ omega (arith, div-add-mod' n 10);
      some = omega (arith, length-append digits ((48 + n % 10) ∷ []));
    }

pub printed_digits : (n : ℕ) → n < 2 ^ 64 → AreDigits n (decimal n)
printed_digits n small = decimal_by_steps AreDigits one one_more n small

pub are_number : (n : ℕ) (digits : List ℕ) → AreDigits n digits → is_number digits ≡ true
are_number n digits are = ap (λ b. b && list_all is_ascii_digit digits) (lt-ltb 0 (length digits) are.some) ∙ are.each

pub digits_length : (n : ℕ) → n < 2 ^ 32 → length (decimal n) ≤ 10
digits_length n small = length-decimal-le 10 n (omega arith) (omega (arith, small)) (omega (arith, small))

pub digit_bounds : (byte : ℕ) → is_ascii_digit byte ≡ true → (48 ≤ byte) × (byte ≤ 57)
digit_bounds byte is = by_test (nat_le 48 byte) refl is
  where
    by_test : (b : Bool) → nat_le 48 byte ≡ b → (b && nat_le byte 57) ≡ true → (48 ≤ byte) × (byte ≤ 57)
    by_test true low high = (leb-true 48 byte low, leb-true byte 57 high)
    by_test false low high = cc
