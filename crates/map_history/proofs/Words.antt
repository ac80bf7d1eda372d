-- The words of replies: they tell them apart, and which say that a pair was added.
use Rattle.std.proofs.Common.{◌≡◌, ◌≢◌, ℕ, zero, suc, Bool, true, false, cond, Option, None, Some, is_some, ◌+◌, ◌*◌, ◌^◌, ◌<◌, ◌==◌, refl, sym, ap, ◌∙◌, arith}
use Rattle.std.specs.Prelude.{◌/◌, ◌||◌}
use Rattle.std.proofs.lemmas.Bool.{ne_eqb}
use Rattle.std.specs.FinMap.{get}
use Rattle.map_history.specs.declared.op.Op.{Op}
use Rattle.map_history.specs.declared.op.Op.TheVariants.{Get, Ins, Del, Put, Mov}
use Rattle.map_history.specs.declared.reply.Reply.{Reply}
use Rattle.map_history.specs.declared.reply.Reply.TheVariants.{New, Dup, Val, Gone, Absent, Was, Moved}
use Rattle.map_history.specs.Keys.{may_add}
use Rattle.map_history.specs.Replay.{Pairs, found, reply_of}
use Rattle.map_history.specs.Words.{word_of, IsReply, adds_by}

-- a reply's word tells the reply
abbrev code_of : Reply → ℕ
code_of New = 1
code_of Dup = 2
code_of (Val value) = 3
code_of Gone = 4
code_of Absent = 5
code_of (Was value) = 6
code_of Moved = 7

abbrev value_in : Reply → ℕ
value_in New = 0
value_in Dup = 0
value_in (Val value) = value
value_in Gone = 0
value_in Absent = 0
value_in (Was value) = value
value_in Moved = 0

abbrev reply_with : ℕ → ℕ → Reply
reply_with zero value = Absent
reply_with (suc zero) value = New
reply_with (suc (suc zero)) value = Dup
reply_with (suc (suc (suc zero))) value = Val value
reply_with (suc (suc (suc (suc zero)))) value = Gone
reply_with (suc (suc (suc (suc (suc zero))))) value = Absent
reply_with (suc (suc (suc (suc (suc (suc zero)))))) value = Was value
reply_with (suc (suc (suc (suc (suc (suc (suc code))))))) value = Moved

same_parts : (r : Reply) → reply_with (code_of r) (value_in r) ≡ r
same_parts New = refl
same_parts Dup = refl
same_parts (Val value) = refl
same_parts Gone = refl
same_parts Absent = refl
same_parts (Was value) = refl
same_parts Moved = refl

word_parts : (r : Reply) → IsReply r → (word_of r ≡ code_of r * 2 ^ 32 + value_in r) × (value_in r < 2 ^ 32)
word_parts New fits = (omega arith, omega arith)
word_parts Dup fits = (omega arith, omega arith)
word_parts (Val value) fits = (refl, fits)
word_parts Gone fits = (omega arith, omega arith)
word_parts Absent fits = (omega arith, omega arith)
word_parts (Was value) fits = (refl, fits)
word_parts Moved fits = (omega arith, omega arith)

pub same_reply : (a b : Reply) → IsReply a → IsReply b → word_of a ≡ word_of b → a ≡ b
same_reply a b fits fits' same =
    let of_a = word_parts a fits in
    let of_b = word_parts b fits' in
    let sums : code_of a * 2 ^ 32 + value_in a ≡ code_of b * 2 ^ 32 + value_in b = sym of_a.0 ∙ same ∙ of_b.0 in
    let codes : code_of a ≡ code_of b = omega (arith, sums, of_a.1, of_b.1) in
    let values : value_in a ≡ value_in b = omega (arith, sums, of_a.1, of_b.1) in
    sym (same_parts a) ∙ (λ i. reply_with (codes i) (values i)) ∙ same_parts b

-- no reply's word is 0
pub reply_some : (reply : Reply) → 0 < word_of reply
reply_some New = omega arith
reply_some Dup = omega arith
reply_some (Val value) = omega arith
reply_some Gone = omega arith
reply_some Absent = omega arith
reply_some (Was value) = omega arith
reply_some Moved = omega arith

-- a word is told from those that say that a pair was added
adds_none : (word : ℕ) → word ≢ 1 * 2 ^ 32 → word / 2 ^ 32 ≢ 6 → word ≢ 7 * 2 ^ 32 → adds_by word ≡ false
adds_none word new was moved =
    ap (λ b. b || ((word / 2 ^ 32 == 6) || (word == word_of Moved))) (ne_eqb word (word_of New) new)
    ∙ (ap (λ b. b || (word == word_of Moved)) (ne_eqb (word / 2 ^ 32) 6 was) ∙ ne_eqb word (word_of Moved) moved)

value_adds_none : (value : ℕ) → value < 2 ^ 32 → adds_by (word_of (Val value)) ≡ false
value_adds_none value low = adds_none (word_of (Val value)) (λ e. absurd (omega arith)) (λ e. absurd (omega arith)) (λ e. absurd (omega arith))

-- such a reply answers an operation that may add
pub adds_for : (pairs : Pairs) (op : Op) → IsReply (reply_of pairs op) → adds_by (word_of (reply_of pairs op)) ≡ true → may_add op ≡ true
adds_for pairs (Get key) fits e = by (get pairs key) fits e
  where
    by : (had : Option ℕ) → IsReply (found had) → adds_by (word_of (found had)) ≡ true → false ≡ true
    by None fits e = e
    by (Some value) fits e = sym (value_adds_none value fits) ∙ e
adds_for pairs (Ins key value) fits e = refl
adds_for pairs (Del key) fits e = by (is_some (get pairs key)) e
  where
    by : (b : Bool) → adds_by (word_of (cond b Gone Absent)) ≡ true → false ≡ true
    by true e = e
    by false e = e
adds_for pairs (Put key value) fits e = refl
adds_for pairs (Mov from to) fits e = refl

-- the words that say that a pair was added
pub new_adds : adds_by (word_of New) ≡ true
new_adds = refl

pub was_adds : (value : ℕ) → value < 2 ^ 32 → adds_by (word_of (Was value)) ≡ true
was_adds value low = middle (word_of (Was value) == word_of New) (word_of (Was value) / 2 ^ 32 == 6) (word_of (Was value) == word_of Moved)
    (tested (word_of (Was value) / 2 ^ 32) 6 (code_six value low))
  where
    code_six : (value : ℕ) → value < 2 ^ 32 → (6 * 2 ^ 32 + value) / 2 ^ 32 ≡ 6
    code_six value low = omega arith

    tested : (a b : ℕ) → a ≡ b → (a == b) ≡ true
    tested a b e = grind arith

    middle : (a b c : Bool) → b ≡ true → (a || (b || c)) ≡ true
    middle a b c e = grind arith

pub moved_adds : adds_by (word_of Moved) ≡ true
moved_adds = refl

-- none of them is 0
pub adds_some : (word : ℕ) → adds_by word ≡ true → word ≢ 0
adds_some word adds none = absurd (false_true (ap adds_by (sym none) ∙ adds))
  where
    false_true : false ≡ true → ⊥
    false_true e = cc

pub ruleset words_tell = (same_reply, adds_for)
