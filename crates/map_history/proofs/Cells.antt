-- What a map has at one key after an operation: the operation's own keys follow it, every other key stays.
use Rattle.std.proofs.Common.{◌≡◌, ◌≢◌, ℕ, Bool, true, false, cond, Option, None, Some, is_some, refl, sym, ap, ◌∙◌, ◌==◌, inl, inr, ⊎_elim, arith}
use Rattle.std.specs.Prelude.{◌⊎◌}
use Rattle.std.proofs.lemmas.Bool.{cases_eq}
use Rattle.std.proofs.lemmas.Cmp.{nat_cmp_total}
use Rattle.std.specs.Cmp.{unsigned_tied}
use Rattle.std.specs.FinMap.{get, insert, remove, get-insert, get-remove, same_map, nat_cmp-IsAntisymmetric}
use Rattle.map_history.specs.declared.op.Op.{Op}
use Rattle.map_history.specs.declared.op.Op.TheVariants.{Get, Ins, Del, Put, Mov}
use Rattle.map_history.specs.declared.reply.Reply.TheVariants.{New, Dup, Gone, Absent}
use Rattle.map_history.specs.AtKey.{Change, Keeps, Gets, Loses, is_change, reply_at, change_at, changes_at, left_by, left_at}
use Rattle.map_history.specs.Keys.{key_of, other_key_of, value_given, DependsOn, IsOneKeyed, is_format_1}
use Rattle.map_history.specs.Replay.{Pairs, found, replaced, moved, after_move, reply_of, map_after}

-- two maps with the same cells are one
pub same_pairs : (a b : Pairs) → ((q : ℕ) → get a q ≡ get b q) → a ≡ b
same_pairs a b same = same_map nat_cmp_total nat_cmp-IsAntisymmetric a b same

pub get-insert_key : (pairs : Pairs) (key value q : ℕ) → get (insert pairs key value) q ≡ cond (q == key) (Some value) (get pairs q)
get-insert_key pairs key value q = get-insert nat_cmp_total pairs key value q ∙ ap (λ b. cond b (Some value) (get pairs q)) (unsigned_tied q key)

pub get-remove_key : (pairs : Pairs) (key q : ℕ) → get (remove pairs key) q ≡ cond (q == key) None (get pairs q)
get-remove_key pairs key q = get-remove nat_cmp_total pairs key q ∙ ap (λ b. cond b None (get pairs q)) (unsigned_tied q key)

-- the key by itself
pub same_there : {C : Type 0} (f : ℕ → C) (key q : ℕ) → f q ≡ cond (q == key) (f key) (f q)
same_there f key q = grind arith

not_here : {C : Type 0} (q k : ℕ) (x y : C) → q ≢ k → cond (q == k) x y ≡ y
not_here q k x y ne = grind arith

-- an operation depends on a key or it doesn't
pub depends : (op : Op) (q : ℕ) → DependsOn op q ⊎ (DependsOn op q → ⊥)
depends op q = ⊎_elim (λ own. inl (inl own)) (λ other. by (other_key_of op) refl other) (cases_eq (key_of op) q)
  where
    none_some : (k : ℕ) → None ≡ Some k → ⊥
    none_some k e = cc

    unlike : (k : ℕ) → k ≢ q → Some k ≡ Some q → ⊥
    unlike k ne e = ne (some_same k q e)
      where
        some_same : (a b : ℕ) → Some a ≡ Some b → a ≡ b
        some_same a b e = cc

    by : (other : Option ℕ) → other_key_of op ≡ other → key_of op ≢ q → DependsOn op q ⊎ (DependsOn op q → ⊥)
    by None is ne = inr (λ on. ⊎_elim ne (λ second. none_some q (sym is ∙ second)) on)
    by (Some k) is ne = ⊎_elim (λ same. inl (inr (is ∙ ap (λ n. Some n) same)))
        (λ apart. inr (λ on. ⊎_elim ne (λ second. unlike k apart (sym is ∙ second)) on)) (cases_eq k q)

-- the reply depends on what the map has at the operation's keys alone
pub same_replies : (a b : Pairs) (op : Op) → ((key : ℕ) → DependsOn op key → get a key ≡ get b key) → reply_of a op ≡ reply_of b op
same_replies a b (Get key) same = ap found (same key (inl refl))
same_replies a b (Ins key value) same = ap (λ (c : Option ℕ). cond (is_some c) Dup New) (same key (inl refl))
same_replies a b (Del key) same = ap (λ (c : Option ℕ). cond (is_some c) Gone Absent) (same key (inl refl))
same_replies a b (Put key value) same = ap replaced (same key (inl refl))
same_replies a b (Mov from to) same = ap (λ c. moved c (get a to)) (same from (inl refl)) ∙ ap (moved (get b from)) (same to (inr refl))

-- every other key stays
pub elsewhere : (pairs : Pairs) (op : Op) (q : ℕ) → (DependsOn op q → ⊥) → get (map_after pairs op) q ≡ get pairs q
elsewhere pairs (Get key) q off = refl
elsewhere pairs (Ins key value) q off = by (is_some (get pairs key))
  where
    by : (b : Bool) → get (cond b pairs (insert pairs key value)) q ≡ get pairs q
    by true = refl
    by false = get-insert_key pairs key value q ∙ not_here q key _ _ (λ e. off (inl (sym e)))
elsewhere pairs (Del key) q off = get-remove_key pairs key q ∙ not_here q key _ _ (λ e. off (inl (sym e)))
elsewhere pairs (Put key value) q off = get-insert_key pairs key value q ∙ not_here q key _ _ (λ e. off (inl (sym e)))
elsewhere pairs (Mov from to) q off = by (get pairs from) (get pairs to)
  where
    by : (c d : Option ℕ) → get (after_move pairs from to c d) q ≡ get pairs q
    by None d = refl
    by (Some value) (Some there) = refl
    by (Some value) None = get-insert_key (remove pairs from) to value q ∙ not_here q to _ _ (λ e. off (inr (ap (λ n. Some n) (sym e))))
        ∙ (get-remove_key pairs from q ∙ not_here q from _ _ (λ e. off (inl (sym e))))

-- what the map has at a key afterwards depends on what it had there and at the operation's keys
pub alike_after : (a b : Pairs) (op : Op) → ((key : ℕ) → DependsOn op key → get a key ≡ get b key)
    → (q : ℕ) → get a q ≡ get b q → get (map_after a op) q ≡ get (map_after b op) q
alike_after a b (Get key) same q here = here
alike_after a b (Ins key value) same q here =
    ap (λ (c : Option ℕ). get (cond (is_some c) a (insert a key value)) q) (same key (inl refl)) ∙ by (is_some (get b key))
  where
    by : (t : Bool) → get (cond t a (insert a key value)) q ≡ get (cond t b (insert b key value)) q
    by true = here
    by false = get-insert_key a key value q ∙ (ap (cond (q == key) (Some value)) here ∙ sym (get-insert_key b key value q))
alike_after a b (Del key) same q here = get-remove_key a key q ∙ (ap (cond (q == key) None) here ∙ sym (get-remove_key b key q))
alike_after a b (Put key value) same q here = get-insert_key a key value q ∙ (ap (cond (q == key) (Some value)) here ∙ sym (get-insert_key b key value q))
alike_after a b (Mov from to) same q here =
    ap (λ c. get (after_move a from to c (get a to)) q) (same from (inl refl))
    ∙ (ap (λ d. get (after_move a from to (get b from) d) q) (same to (inr refl)) ∙ by (get b from) (get b to))
  where
    taken : get (remove a from) q ≡ get (remove b from) q
    taken = get-remove_key a from q ∙ (ap (cond (q == from) None) here ∙ sym (get-remove_key b from q))

    by : (c d : Option ℕ) → get (after_move a from to c d) q ≡ get (after_move b from to c d) q
    by None d = here
    by (Some value) (Some there) = here
    by (Some value) None = get-insert_key (remove a from) to value q
        ∙ (ap (cond (q == to) (Some value)) taken ∙ sym (get-insert_key (remove b from) to value q))

-- an operation with one key depends on no other
pub key_is : (op : Op) (key : ℕ) → IsOneKeyed op → DependsOn op key → key_of op ≡ key
key_is op key one on = ⊎_elim (λ same. same) (λ second. absurd (none_some (sym one ∙ second))) on
  where
    none_some : None ≡ Some key → ⊥
    none_some e = cc

two_keyed : (to : ℕ) → Some to ≡ None → ⊥
two_keyed to e = cc

-- the operations of format 1 have one key
pub format_1_one_keyed : (op : Op) → is_format_1 op ≡ true → IsOneKeyed op
format_1_one_keyed (Get key) is = refl
format_1_one_keyed (Ins key value) is = refl
format_1_one_keyed (Del key) is = refl
format_1_one_keyed (Put key value) is = refl
format_1_one_keyed (Mov from to) is = absurd (cc)

-- its reply, by what its key had
pub reply_of-at : (pairs : Pairs) (op : Op) → IsOneKeyed op → reply_of pairs op ≡ reply_at (get pairs (key_of op)) op
reply_of-at pairs (Get key) one = refl
reply_of-at pairs (Ins key value) one = refl
reply_of-at pairs (Del key) one = refl
reply_of-at pairs (Put key value) one = refl
reply_of-at pairs (Mov from to) one = absurd (two_keyed to one)

-- and the map afterwards
pub get-left : (pairs : Pairs) (op : Op) (q : ℕ) → IsOneKeyed op
    → get (map_after pairs op) q ≡ cond (q == key_of op) (left_at (get pairs (key_of op)) op) (get pairs q)
get-left pairs (Get key) q one = same_there (get pairs) key q
get-left pairs (Ins key value) q one = by (get pairs key) refl
  where
    by : (c : Option ℕ) → get pairs key ≡ c → get (cond (is_some c) pairs (insert pairs key value)) q ≡ cond (q == key) (left_at c (Ins key value)) (get pairs q)
    by None is = get-insert_key pairs key value q
    by (Some old) is = same_there (get pairs) key q ∙ ap (λ c. cond (q == key) c (get pairs q)) is
get-left pairs (Del key) q one = get-remove_key pairs key q ∙ ap (λ c. cond (q == key) c (get pairs q)) (by (get pairs key))
  where
    by : (c : Option ℕ) → None ≡ left_at c (Del key)
    by None = refl
    by (Some old) = refl
get-left pairs (Put key value) q one = get-insert_key pairs key value q
get-left pairs (Mov from to) q one = absurd (two_keyed to one)

-- what an operation with one key leaves its key, by itself
pub left_own : (pairs : Pairs) (op : Op) (had : Option ℕ) → IsOneKeyed op → get pairs (key_of op) ≡ had → left_at had op ≡ get (map_after pairs op) (key_of op)
left_own pairs op had one is = sym (get-left pairs op (key_of op) one ∙ (here (key_of op) _ _ ∙ ap (λ o. left_at o op) is))
  where
    here : {C : Type 0} (q : ℕ) (x y : C) → cond (q == q) x y ≡ x
    here q x y = grind arith

-- what a key gets is the value that the operation gives
pub gets_given : (had : Option ℕ) (op : Op) (value : ℕ) → change_at had op ≡ Gets value → value_given op ≡ Some value
gets_given had (Get key) value e = absurd (cc)
gets_given None (Ins key given) value e = cc
gets_given (Some old) (Ins key given) value e = absurd (cc)
gets_given None (Del key) value e = absurd (cc)
gets_given (Some old) (Del key) value e = absurd (cc)
gets_given had (Put key given) value e = cc
gets_given had (Mov from to) value e = absurd (cc)

-- an operation that changes nothing leaves what the key had
pub unchanged : (had : Option ℕ) (op : Op) → changes_at had op ≡ false → left_at had op ≡ had
unchanged had op none = by (change_at had op) none
  where
    by : (change : Change) → is_change change ≡ false → left_by had change ≡ had
    by Keeps none = refl
    by (Gets value) none = absurd (cc)
    by Loses none = absurd (cc)

pub ruleset by_own_key = (reply_of-at, get-left, format_1_one_keyed)
