-- Parts of a legal history on some keys, the replies of a legal history, and how many pairs it leaves.
use Rattle.std.proofs.Common.{◌≡◌, ℕ, zero, suc, ◌+◌, ◌-◌, ◌≤◌, Bool, true, false, true≢false, cond, List, [], ◌∷◌, Option, None, Some, map, refl, sym, ap, ◌∙◌, subst, arith}
use Rattle.std.specs.Prelude.{◌==◌, count_by, filter, is_some}
use Rattle.std.specs.Ordering.{nat_cmp}
use Rattle.std.specs.FinMap.{contains_key, empty, empty_of_len, get, get-empty, insert, len, len-insert, len-remove, remove}
use Rattle.std.proofs.lemmas.Bool.Decides.{nat_tests}
use Rattle.std.proofs.lemmas.Cmp.{nat_cmp_total}
use Rattle.std.proofs.lemmas.List.Sums.{sum_by-cons}
use Rattle.structure_laws.specs.map_history.specs.declared.op.Op.{Op}
use Rattle.structure_laws.specs.map_history.specs.declared.op.Op.TheVariants.{Get, Ins, Del, Put, Mov}
use Rattle.structure_laws.specs.map_history.specs.declared.reply.Reply.TheVariants as replies
use Rattle.structure_laws.specs.map_history.specs.History.{Answered, AreOneKeyed, IsLegalFrom, on_key}
use Rattle.structure_laws.specs.map_history.specs.Keys.{key_of, IsOneKeyed}
use Rattle.structure_laws.specs.map_history.specs.Replay.{Pairs, found, replaced, map_after, map_after_all, replies_of, reply_of}
use Rattle.structure_laws.specs.map_history.proofs.ByKey.{by_key}
use Rattle.load_counts.specs.Counts.{is_of}
use Rattle.load_counts.specs.declared.counts.Kind.TheVariants as kinds

-- the part of a history on the keys of a number
abbrev pub on_part : (ℕ → ℕ) → ℕ → List Answered → List Answered
on_part part t history = filter (λ (answered : Answered). part (key_of answered.op) == t) history

-- on one key it is the whole history there, or nothing
on_one : (part : ℕ → ℕ) (t key : ℕ) (history : List Answered) (mine : Bool) → (part key == t) ≡ mine → on_key key (on_part part t history) ≡ cond mine (on_key key history) []
on_one part t key [] true is = refl
on_one part t key [] false is = refl
on_one part t key (x ∷ xs) mine is = by (on_one part t key xs) (part (key_of x.op) == t) refl (key_of x.op == key) refl mine is
  where
    same : (key_of x.op == key) ≡ true → (part (key_of x.op) == t) ≡ (part key == t)
    same here = let e : key_of x.op ≡ key = grind (arith, nat_tests) in ap (λ k. part k == t) e

    by : ((mine : Bool) → (part key == t) ≡ mine → on_key key (on_part part t xs) ≡ cond mine (on_key key xs) [])
        → (a : Bool) → (part (key_of x.op) == t) ≡ a → (b : Bool) → (key_of x.op == key) ≡ b → (mine : Bool) → (part key == t) ≡ mine
        → on_key key (cond a (x ∷ on_part part t xs) (on_part part t xs)) ≡ cond mine (cond b (x ∷ on_key key xs) (on_key key xs)) []
    by again true first true second true is = ap (λ b. cond b (x ∷ on_key key (on_part part t xs)) (on_key key (on_part part t xs))) second ∙ ap (λ rest. x ∷ rest) (again true is)
    by again true first true second false is = let no : true ≡ false = sym first ∙ same second ∙ is in absurd (cc)
    by again true first false second mine is = ap (λ b. cond b (x ∷ on_key key (on_part part t xs)) (on_key key (on_part part t xs))) second ∙ again mine is
    by again false first true second true is = let no : true ≡ false = sym is ∙ sym (same second) ∙ first in absurd (cc)
    by again false first true second false is = again false is
    by again false first false second mine is = again mine is

-- so the part is legal
pub part_legal : (part : ℕ → ℕ) (t : ℕ) (history : List Answered) → AreOneKeyed history → AreOneKeyed (on_part part t history) → IsLegalFrom empty history → IsLegalFrom empty (on_part part t history)
part_legal part t history one own legal = (by_key empty (on_part part t history) own).1 (λ key. each key (part key == t) refl)
  where
    nothing : (key : ℕ) (mine : Bool) → IsLegalFrom empty (on_key key history) → IsLegalFrom empty (cond mine (on_key key history) [])
    nothing key true there = there
    nothing key false there = tt

    each : (key : ℕ) (mine : Bool) → (part key == t) ≡ mine → IsLegalFrom empty (on_key key (on_part part t history))
    each key mine is = subst (IsLegalFrom empty) (sym (on_one part t key history mine is)) (nothing key mine ((by_key empty history one).0 legal key))

-- a legal history has the map's replies
pub legal_replies : (pairs : Pairs) (history : List Answered) → IsLegalFrom pairs history
    → map (λ (x : Answered). x.reply) history ≡ replies_of pairs (map (λ (x : Answered). x.op) history)
legal_replies pairs [] legal = refl
legal_replies pairs (x ∷ xs) legal = λ i. legal.0 i ∷ legal_replies (map_after pairs x.op) xs legal.1 i

-- how many of the replies are of the kind that adds a pair, and of the one that takes one out
abbrev pub added : List Answered → ℕ
added history = count_by (λ (x : Answered). is_of kinds.New x.reply) history

abbrev pub taken : List Answered → ℕ
taken history = count_by (λ (x : Answered). is_of kinds.Gone x.reply) history

abbrev one_if : Bool → ℕ
one_if b = cond b 1 0

looked : (o : Option ℕ) → (one_if (is_of kinds.Gone (found o)) ≡ 0) × (one_if (is_of kinds.New (found o)) ≡ 0)
looked None = (refl, refl)
looked (Some value) = (refl, refl)

no_key : (key : ℕ) → contains_key {X = ℕ} {R = nat_cmp} empty key ≡ false
no_key key = ap is_some (get-empty nat_cmp key)

-- a key that is there is one of the pairs
some_pair : (pairs : Pairs) (key : ℕ) → contains_key pairs key ≡ true → 1 ≤ len pairs
some_pair pairs key is = by (len pairs) refl
  where
    by : (count : ℕ) → len pairs ≡ count → 1 ≤ count
    by zero none =
        let nothing : contains_key pairs key ≡ false = ap (λ (m : Pairs). contains_key m key) (empty_of_len pairs none) ∙ no_key key in
        absurd (true≢false (sym is ∙ nothing))
    by (suc count) some = omega arith

one_step : (pairs : Pairs) (op : Op) → IsOneKeyed op → len (map_after pairs op) + one_if (is_of kinds.Gone (reply_of pairs op)) ≡ len pairs + one_if (is_of kinds.New (reply_of pairs op))
one_step pairs (Get key) one = let none = looked (get pairs key) in omega (arith, none.0, none.1)
one_step pairs (Ins key value) one = by (contains_key pairs key) refl
  where
    by : (b : Bool) → contains_key pairs key ≡ b
        → len (cond b pairs (insert pairs key value)) + one_if (is_of kinds.Gone (cond b replies.Dup replies.New)) ≡ len pairs + one_if (is_of kinds.New (cond b replies.Dup replies.New))
    by true is = omega arith
    by false is = omega (arith, len-insert nat_cmp_total pairs key value ∙ ap (λ b. cond b (len pairs) (len pairs + 1)) is)
one_step pairs (Del key) one = by (contains_key pairs key) refl
  where
    by : (b : Bool) → contains_key pairs key ≡ b
        → len (remove pairs key) + one_if (is_of kinds.Gone (cond b replies.Gone replies.Absent)) ≡ len pairs + one_if (is_of kinds.New (cond b replies.Gone replies.Absent))
    by true is = omega (arith, some_pair pairs key is, len-remove nat_cmp_total pairs key ∙ ap (λ b. cond b (len pairs - 1) (len pairs)) is)
    by false is = omega (arith, len-remove nat_cmp_total pairs key ∙ ap (λ b. cond b (len pairs - 1) (len pairs)) is)
one_step pairs (Put key value) one = by (get pairs key) refl
  where
    by : (had : Option ℕ) → get pairs key ≡ had
        → len (insert pairs key value) + one_if (is_of kinds.Gone (replaced had)) ≡ len pairs + one_if (is_of kinds.New (replaced had))
    by None is = omega (arith, len-insert nat_cmp_total pairs key value ∙ ap (λ (o : Option ℕ). cond (is_some o) (len pairs) (len pairs + 1)) is)
    by (Some old) is = omega (arith, len-insert nat_cmp_total pairs key value ∙ ap (λ (o : Option ℕ). cond (is_some o) (len pairs) (len pairs + 1)) is)
one_step pairs (Mov from to) one = absurd (let z = one in cc)

-- the pairs that a legal history leaves
pub legal_pairs : (pairs : Pairs) (history : List Answered) → AreOneKeyed history → IsLegalFrom pairs history
    → len (map_after_all pairs (map (λ (x : Answered). x.op) history)) + taken history ≡ len pairs + added history
legal_pairs pairs [] one legal = refl
legal_pairs pairs (x ∷ xs) one legal =
    let rest = legal_pairs (map_after pairs x.op) xs (λ k d low. one (suc k) d (omega (arith, low))) legal.1 in
    let step = one_step pairs x.op (one 0 x (omega arith)) in
    let gone = ap (λ r. one_if (is_of kinds.Gone r)) legal.0 in
    let new = ap (λ r. one_if (is_of kinds.New r)) legal.0 in
    omega (
      arith,
      rest,
      step,
      gone,
      new,
      sum_by-cons (λ (x : Answered). one_if (is_of kinds.Gone x.reply)) x xs,
      sum_by-cons (λ (x : Answered). one_if (is_of kinds.New x.reply)) x xs,
    )
