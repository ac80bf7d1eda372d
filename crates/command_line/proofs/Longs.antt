-- Words that begin with two dashes, as clap takes them apart.
use Rattle.std.proofs.Common.{◌≡◌, ℕ, zero, suc, ◌+◌, Bool, true, false, cond, not, [], ◌∷◌, ◌++◌, Option, None, Some, codes, drop, refl, sym, ap, ◌∙◌, subst, arith, take, ◌≢◌, true≢false}
use Rattle.std.specs.Prelude.{◌==◌, ◌||◌, option_and_then}
use Rattle.std.specs.List.{after_first, before_first, list_any, position_or_len}
use Rattle.std.proofs.Math.Numerals.{one-add}
use Rattle.std.proofs.lemmas.Bool.Decides.{nat_tests}
use Rattle.clap.specs.Lexer.{long_of, long_of_rest, strip_byte}
use Rattle.clap.proofs.CutLemmas.{Lacks, before_first-Lacks}
use Rattle.clap.proofs.LexerLemmas.{name_and_value-at, name_and_value-without}
use Rattle.command_line.specs.Written.{Text}

abbrev is_equals : ℕ → Bool
is_equals byte = byte == 61

-- the name of an option: it isn't empty, and has no equals sign
abbrev pub is_clean : Text → Bool
is_clean [] = false
is_clean (byte ∷ bytes) = not (list_any is_equals (byte ∷ bytes))

lacks : (text : Text) → list_any is_equals text ≡ false → Lacks 61 text
lacks [] e i within = absurd (omega arith)
lacks (byte ∷ text) e i within = by_test (lacks text) (is_equals byte) refl i within
  where
    by_test : (list_any is_equals text ≡ false → Lacks 61 text) → (b : Bool) → is_equals byte ≡ b → Lacks 61 (byte ∷ text)
    by_test again true is i within = let no : true ≡ false = sym (ap (λ b. b || list_any is_equals text) is) ∙ e in absurd (true≢false no)
    by_test again false is zero within = let other : byte ≢ 61 = grind (arith, nat_tests) in other
    by_test again false is (suc i) within = again (sym (ap (λ b. b || list_any is_equals text) is) ∙ e) i (omega arith)

not_any : (text : Text) → not (list_any is_equals text) ≡ true → list_any is_equals text ≡ false
not_any text e = by_test (list_any is_equals text) refl
  where
    by_test : (b : Bool) → list_any is_equals text ≡ b → list_any is_equals text ≡ false
    by_test true is = let no : false ≡ true = sym (ap not is) ∙ e in cc
    by_test false is = is

pub long_joined : (name text : Text) → is_clean name ≡ true → long_of (codes "--" ++ name ++ (codes "=" ++ text)) ≡ Some (name, Some text)
long_joined [] text e = cc
long_joined (byte ∷ name) text e = ap Some (name_and_value-at (byte ∷ name) text (lacks (byte ∷ name) (not_any (byte ∷ name) e)))

pub long_alone : (name : Text) → is_clean name ≡ true → long_of (codes "--" ++ name) ≡ Some (name, None)
long_alone [] e = cc
long_alone (byte ∷ name) e = ap Some (name_and_value-without (byte ∷ name) (lacks (byte ∷ name) (not_any (byte ∷ name) e)))

abbrev place : Text → ℕ
place text = position_or_len is_equals text

place-equals : (byte : ℕ) (text : Text) → is_equals byte ≡ true → place (byte ∷ text) ≡ 0
place-equals byte text is = ap (λ b. cond (not b) (1 + place text) 0) is

place-other : (byte : ℕ) (text : Text) → is_equals byte ≡ false → place (byte ∷ text) ≡ suc (place text)
place-other byte text is = ap (λ b. cond (not b) (1 + place text) 0) is ∙ one-add (place text)

joined_again : (text : Text) → list_any is_equals text ≡ true → text ≡ before_first is_equals text ++ 61 ∷ after_first is_equals text
joined_again [] e = cc
joined_again (byte ∷ text) e = by_test (joined_again text) (is_equals byte) refl
  where
    by_test : (list_any is_equals text ≡ true → text ≡ before_first is_equals text ++ 61 ∷ after_first is_equals text) → (b : Bool) → is_equals byte ≡ b → byte ∷ text ≡ before_first is_equals (byte ∷ text) ++ 61 ∷ after_first is_equals (byte ∷ text)
    by_test again true is =
        let at = place-equals byte text is in
        let same : byte ≡ 61 = grind (arith, nat_tests) in
        ap (λ b. b ∷ text) same ∙ sym (ap (λ n. take n (byte ∷ text) ++ 61 ∷ drop (n + 1) (byte ∷ text)) at)
    by_test again false is =
        let at = place-other byte text is in
        let more : suc (place text) + 1 ≡ suc (place text + 1) = omega arith in
        ap (λ t. byte ∷ t) (again (sym (ap (λ b. b || list_any is_equals text) is) ∙ e))
        ∙ ap (λ n. byte ∷ (before_first is_equals text ++ 61 ∷ drop n (byte ∷ text))) (sym more)
        ∙ sym (ap (λ n. take n (byte ∷ text) ++ 61 ∷ drop (n + 1) (byte ∷ text)) at)

dashes_again : (word text : Text) → option_and_then (strip_byte 45) (strip_byte 45 word) ≡ Some text → word ≡ codes "--" ++ text
dashes_again [] text e = cc
dashes_again (first ∷ []) text e = by_test (first == 45) refl
  where
    by_test : (b : Bool) → (first == 45) ≡ b → first ∷ [] ≡ codes "--" ++ text
    by_test true is = let none : option_and_then (strip_byte 45) (cond true (Some []) None) ≡ Some text = subst (λ b. option_and_then (strip_byte 45) (cond b (Some []) None) ≡ Some text) is e in cc
    by_test false is = let none : option_and_then (strip_byte 45) (cond false (Some []) None) ≡ Some text = subst (λ b. option_and_then (strip_byte 45) (cond b (Some []) None) ≡ Some text) is e in cc
dashes_again (first ∷ second ∷ rest) text e = by_test (first == 45) (second == 45) refl refl
  where
    by_test : (a b : Bool) → (first == 45) ≡ a → (second == 45) ≡ b → first ∷ second ∷ rest ≡ codes "--" ++ text
    by_test false b is also = let none : option_and_then (strip_byte 45) (cond false (Some (second ∷ rest)) None) ≡ Some text = subst (λ b. option_and_then (strip_byte 45) (cond b (Some (second ∷ rest)) None) ≡ Some text) is e in cc
    by_test true false is also =
        let one : cond (second == 45) (Some rest) None ≡ Some text = subst (λ b. option_and_then (strip_byte 45) (cond b (Some (second ∷ rest)) None) ≡ Some text) is e in
        let none : None ≡ Some text = subst (λ b. cond b (Some rest) None ≡ Some text) also one in
        cc
    by_test true true is also =
        let one : cond (second == 45) (Some rest) None ≡ Some text = subst (λ b. option_and_then (strip_byte 45) (cond b (Some (second ∷ rest)) None) ≡ Some text) is e in
        let all : Some rest ≡ Some text = subst (λ b. cond b (Some rest) None ≡ Some text) also one in
        let same : rest ≡ text = cc in
        let a : first ≡ 45 = grind (arith, nat_tests) in
        let b : second ≡ 45 = grind (arith, nat_tests) in
        ap (λ n. n ∷ second ∷ rest) a ∙ ap (λ n. 45 ∷ n ∷ rest) b ∙ ap (λ t. 45 ∷ 45 ∷ t) same

abbrev pub word_for : Text → Option Text → Text
word_for name None = codes "--" ++ name
word_for name (Some text) = codes "--" ++ name ++ (codes "=" ++ text)

abbrev pair : Text → Option Text → Text × Option Text
pair name attached = (name, attached)

same_pair : (a b : Text × Option Text) → Some a ≡ Some b → a ≡ b
same_pair a b e = cc

no_pair : (a : Text × Option Text) → None ≡ Some a → ⊥
no_pair a e = cc

rest_again : (text name : Text) (attached : Option Text) → long_of_rest text ≡ Some (pair name attached) → codes "--" ++ text ≡ word_for name attached
rest_again [] name attached e = absurd (no_pair (pair name attached) e)
rest_again (byte ∷ bytes) name attached e = by_test (list_any is_equals (byte ∷ bytes)) refl
  where
    by_test : (b : Bool) → list_any is_equals (byte ∷ bytes) ≡ b → codes "--" ++ byte ∷ bytes ≡ word_for name attached
    by_test true is =
        let text = byte ∷ bytes in
        let cut = sym (ap (λ b. Some (pair (before_first is_equals text) (cond b (Some (after_first is_equals text)) None))) is) ∙ e in
        let parts = same_pair (pair (before_first is_equals text) (Some (after_first is_equals text))) (pair name attached) cut in
        ap (λ t. codes "--" ++ t) (joined_again text is) ∙ ap (λ (p : Text × Option Text). word_for p.0 p.1) parts
    by_test false is =
        let text = byte ∷ bytes in
        let cut = sym (ap (λ b. Some (pair (before_first is_equals text) (cond b (Some (after_first is_equals text)) None))) is) ∙ e in
        let parts = same_pair (pair (before_first is_equals text) None) (pair name attached) cut in
        ap (λ t. codes "--" ++ t) (sym (before_first-Lacks 61 text (lacks text is))) ∙ ap (λ (p : Text × Option Text). word_for p.0 p.1) parts

-- a word that clap takes for an option is that option as it is written
pub long_again : (word name : Text) (attached : Option Text) → long_of word ≡ Some (name, attached) → word ≡ word_for name attached
long_again word name attached e = by_text (option_and_then (strip_byte 45) (strip_byte 45 word)) refl
  where
    by_text : (text : Option Text) → option_and_then (strip_byte 45) (strip_byte 45 word) ≡ text → word ≡ word_for name attached
    by_text None is = absurd (no_pair (pair name attached) (sym (ap (option_and_then long_of_rest) is) ∙ e))
    by_text (Some text) is = dashes_again word text is ∙ rest_again text name attached (sym (ap (option_and_then long_of_rest) is) ∙ e)
