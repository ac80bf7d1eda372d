-- The map after an operation, as a look-up; and the reply, by what is looked up.
use Rattle.std.proofs.Common.{◌≡◌, ℕ, ◌*◌, Bool, true, false, cond, refl, sym, ap, ◌∙◌, arith, ◌+◌}
use Rattle.std.proofs.lemmas.Cmp.{nat_cmp_total}
use Rattle.std.specs.Prelude.{◌==◌, ◌&&◌, not, ◌^◌, Option, Some, None, if◌then◌else◌, is_some, slice_index}
use Rattle.std.specs.Ordering.{nat_cmp, eq_by_cmp}
use Rattle.std.specs.FinMap.{get, contains_key, insert, remove, get-insert, get-remove}
use mathlib.Core.Logic.{dite}
use native.Mathlib.Decide.{ℕ_discrete}
use Rattle.structure_laws.specs.map_history.specs.declared.op.Op.{Op}
use Rattle.structure_laws.specs.map_history.specs.declared.op.Op.TheVariants.{Get, Ins, Del, Put, Mov}
use Rattle.structure_laws.specs.map_history.specs.declared.reply.Reply.TheVariants.{New, Dup, Gone, Absent}
use Rattle.structure_laws.specs.map_history.specs.Keys.{key_of}
use Rattle.structure_laws.specs.map_history.specs.AtKey.{Gets}
use Rattle.structure_laws.specs.map_history.specs.Replay.{Pairs, found, replaced, moved, after_move, reply_of, map_after}
use Rattle.structure_laws.specs.map_history.specs.Words.{word_of}
use Rattle.structure_laws.specs.body_terms.specs.Update.{upd}
use Rattle.structure_laws.proofs.Changes.{upd_same, upd_other}
use Rattle.bucket_laws.specs.Walk.{Walk, is_del, form_for, operands_for}
use Rattle.bucket_laws.proofs.Fit.{PutsIn, keeps_gets}

same_keys : (q k : ℕ) → eq_by_cmp nat_cmp q k ≡ (q == k)
same_keys q k = grind arith

get_inserted : (pairs : Pairs) (key value q : ℕ) → get (insert pairs key value) q ≡ upd (get pairs) key (Some value) q
get_inserted pairs key value q = get-insert nat_cmp_total pairs key value q ∙ ap (λ b. cond b (Some value) (get pairs q)) (same_keys q key)

pub get_removed : (pairs : Pairs) (key q : ℕ) → get (remove pairs key) q ≡ upd (get pairs) key None q
get_removed pairs key q = get-remove nat_cmp_total pairs key q ∙ ap (λ b. cond b None (get pairs q)) (same_keys q key)

is_there : (pairs : Pairs) (key value : ℕ) → get pairs key ≡ Some value → contains_key pairs key ≡ true
is_there pairs key value h = ap is_some h

is_missing : (pairs : Pairs) (key : ℕ) → get pairs key ≡ None → contains_key pairs key ≡ false
is_missing pairs key h = ap is_some h

absent_same : (lookup : ℕ → Option ℕ) (key q : ℕ) → lookup key ≡ None → upd lookup key None q ≡ lookup q
absent_same lookup key q h = dite (ℕ_discrete q key) (λ e. upd_same lookup key q None e ∙ sym h ∙ ap lookup (sym e)) (λ ne. upd_other lookup key q None ne)

-- the reply word of a thunk that changes nothing
pub read_reply : (buckets : ℕ) (pairs : Pairs) (op : Op) (w : Walk) (there : Bool) → form_for op there ≡ 1 → (there ≡ true → get pairs (key_of op) ≡ Some w.value) → (there ≡ false → get pairs (key_of op) ≡ None)
    → slice_index (operands_for buckets op w there) 1 ≡ word_of (reply_of pairs op)
read_reply buckets pairs (Get key) w true form some none = ap (λ o. word_of (found o)) (sym (some refl))
read_reply buckets pairs (Get key) w false form some none = ap (λ o. word_of (found o)) (sym (none refl))
read_reply buckets pairs (Ins key value) w true form some none = ap (λ b. word_of (if b then Dup else New)) (sym (is_there pairs key w.value (some refl)))
read_reply buckets pairs (Ins key value) w false form some none = absurd (omega arith)
read_reply buckets pairs (Del key) w true form some none = absurd (omega arith)
read_reply buckets pairs (Del key) w false form some none = ap (λ b. word_of (if b then Gone else Absent)) (sym (is_missing pairs key (none refl)))
read_reply buckets pairs (Put key value) w true form some none = absurd (omega arith)
read_reply buckets pairs (Put key value) w false form some none = absurd (omega arith)
read_reply buckets pairs (Mov from to) w there form some none = absurd (omega arith)

-- and of one that puts a key in, or takes it out
pub insert_reply : (pairs : Pairs) (op : Op) (there : Bool) → form_for op there ≡ 2 → get pairs (key_of op) ≡ None → 1 * 2 ^ 32 ≡ word_of (reply_of pairs op)
insert_reply pairs (Get key) there form none = absurd (omega arith)
insert_reply pairs (Ins key value) true form none = absurd (omega arith)
insert_reply pairs (Ins key value) false form none = ap (λ b. word_of (if b then Dup else New)) (sym (is_missing pairs key none))
insert_reply pairs (Del key) true form none = absurd (omega arith)
insert_reply pairs (Del key) false form none = absurd (omega arith)
insert_reply pairs (Put key value) true form none = absurd (omega arith)
insert_reply pairs (Put key value) false form none = ap (λ o. word_of (replaced o)) (sym none)
insert_reply pairs (Mov from to) there form none = absurd (omega arith)

pub remove_reply : (pairs : Pairs) (op : Op) (value : ℕ) → is_del op ≡ true → get pairs (key_of op) ≡ Some value → 4 * 2 ^ 32 ≡ word_of (reply_of pairs op)
remove_reply pairs (Get key) value del some = absurd (cc)
remove_reply pairs (Ins key v) value del some = absurd (cc)
remove_reply pairs (Del key) value del some = ap (λ b. word_of (if b then Gone else Absent)) (sym (is_there pairs key value some))
remove_reply pairs (Put key v) value del some = absurd (cc)
remove_reply pairs (Mov from to) value del some = absurd (cc)

-- what is looked up after an operation
pub read_map : (pairs : Pairs) (op : Op) (value : ℕ) (there : Bool) → form_for op there ≡ 1 → (there ≡ true → get pairs (key_of op) ≡ Some value) → (there ≡ false → get pairs (key_of op) ≡ None)
    → (q : ℕ) → get pairs q ≡ get (map_after pairs op) q
read_map pairs (Get key) value there form some none q = refl
read_map pairs (Ins key v) value true form some none q = ap (λ b. get (if b then pairs else insert pairs key v) q) (sym (is_there pairs key value (some refl)))
read_map pairs (Ins key v) value false form some none q = absurd (omega arith)
read_map pairs (Del key) value true form some none q = absurd (omega arith)
read_map pairs (Del key) value false form some none q = sym (get_removed pairs key q ∙ absent_same (get pairs) key q (none refl))
read_map pairs (Put key v) value true form some none q = absurd (omega arith)
read_map pairs (Put key v) value false form some none q = absurd (omega arith)
read_map pairs (Mov from to) value there form some none q = absurd (omega arith)

gets_same : (a b : ℕ) → Gets a ≡ Gets b → a ≡ b
gets_same a b e = cc

pub insert_map : (pairs : Pairs) (op : Op) (key value : ℕ) → PutsIn op key value → get pairs key ≡ None → (q : ℕ) → upd (get pairs) key (Some value) q ≡ get (map_after pairs op) q
insert_map pairs (Get k) key value is none q = absurd (keeps_gets value is.1)
insert_map pairs (Ins k v) key value is none q =
    (λ i. upd (get pairs) (sym is.0 i) (Some (sym (gets_same v value is.1) i)) q) ∙ sym (ap (λ b. get (if b then pairs else insert pairs k v) q) (is_missing pairs k (ap (get pairs) is.0 ∙ none)) ∙ get_inserted pairs k v q)
insert_map pairs (Del k) key value is none q = absurd (keeps_gets value is.1)
insert_map pairs (Put k v) key value is none q = (λ i. upd (get pairs) (sym is.0 i) (Some (sym (gets_same v value is.1) i)) q) ∙ sym (get_inserted pairs k v q)
insert_map pairs (Mov from to) key value is none q = absurd (keeps_gets value is.1)

-- and of one that sets the value of a key that is there
pub set_reply : (pairs : Pairs) (op : Op) (key value before : ℕ) → op ≡ Put key value → get pairs (key_of op) ≡ Some before → 6 * 2 ^ 32 + before ≡ word_of (reply_of pairs op)
set_reply pairs op key value before e some = ap (λ o. word_of (replaced o)) (sym (ap (λ op. get pairs (key_of op)) (sym e) ∙ some)) ∙ ap (λ op. word_of (reply_of pairs op)) (sym e)

pub set_map : (pairs : Pairs) (op : Op) (key value : ℕ) → op ≡ Put key value → (q : ℕ) → upd (get pairs) (key_of op) (Some value) q ≡ get (map_after pairs op) q
set_map pairs op key value e q = ap (λ op. upd (get pairs) (key_of op) (Some value) q) e ∙ sym (get_inserted pairs key value q) ∙ ap (λ op. get (map_after pairs op) q) (sym e)

pub remove_map : (pairs : Pairs) (op : Op) → is_del op ≡ true → (q : ℕ) → upd (get pairs) (key_of op) None q ≡ get (map_after pairs op) q
remove_map pairs (Get key) del q = absurd (cc)
remove_map pairs (Ins key value) del q = absurd (cc)
remove_map pairs (Del key) del q = sym (get_removed pairs key q)
remove_map pairs (Put key value) del q = absurd (cc)
remove_map pairs (Mov from to) del q = absurd (cc)

-- the reply where both keys of a `mov` are there, and the map then
dup : (pairs : Pairs) (from to : ℕ) → ((v : ℕ) × (get pairs from ≡ Some v)) → ((v : ℕ) × (get pairs to ≡ Some v))
    → (2 * 2 ^ 32 ≡ word_of (reply_of pairs (Mov from to))) × (pairs ≡ map_after pairs (Mov from to))
dup pairs from to first second = (
  ap (λ o. word_of (moved (Some first.0) o)) (sym second.1)
      ∙ ap (λ o. word_of (moved o (get pairs to))) (sym first.1),
  ap (λ o. after_move pairs from to (Some first.0) o) (sym second.1)
      ∙ ap (λ o. after_move pairs from to o (get pairs to)) (sym first.1),
)

-- where the value doesn't move
pub still_moved : (pairs : Pairs) (from to : ℕ) (there there' same : Bool)
    → (there ≡ true → (v : ℕ) × (get pairs from ≡ Some v)) → (there ≡ false → get pairs from ≡ None)
    → (same ≡ true → to ≡ from) → (same ≡ false → there' ≡ true → (v : ℕ) × (get pairs to ≡ Some v))
    → (there && (not there' && not same)) ≡ false
    → (cond there (2 * 2 ^ 32) (5 * 2 ^ 32) ≡ word_of (reply_of pairs (Mov from to)))
    × (pairs ≡ map_after pairs (Mov from to))
still_moved pairs from to false there' same some none one other stays = (
  ap (λ o. word_of (moved o (get pairs to))) (sym (none refl)),
  ap (λ o. after_move pairs from to o (get pairs to)) (sym (none refl)),
)
still_moved pairs from to true there' true some none one other stays = dup pairs from to (some refl)
    ((some refl).0, ap (get pairs) (one refl) ∙ (some refl).1)
still_moved pairs from to true true false some none one other stays = dup pairs from to (some refl) (other refl refl)
still_moved pairs from to true false false some none one other stays = absurd (cc)

-- and where it moves
pub moved_reply : (pairs : Pairs) (from to v : ℕ) → get pairs from ≡ Some v → get pairs to ≡ None
    → 7 * 2 ^ 32 ≡ word_of (reply_of pairs (Mov from to))
moved_reply pairs from to v some none = ap (λ o. word_of (moved (Some v) o)) (sym none)
    ∙ ap (λ o. word_of (moved o (get pairs to))) (sym some)

pub moved_map : (pairs : Pairs) (from to v : ℕ) → get pairs from ≡ Some v → get pairs to ≡ None → (q : ℕ)
    → upd (upd (get pairs) from None) to (Some v) q ≡ get (map_after pairs (Mov from to)) q
moved_map pairs from to v some none q =
    upd_agree (upd (get pairs) from None) (get (remove pairs from)) to (Some v) q
    (sym (get_removed pairs from q))
    ∙ sym (get_inserted (remove pairs from) to v q)
    ∙ ap (λ o. get (after_move pairs from to (Some v) o) q) (sym none)
    ∙ ap (λ o. get (after_move pairs from to o (get pairs to)) q) (sym some)
  where
    upd_agree : (f g : ℕ → Option ℕ) (k : ℕ) (v : Option ℕ) (q : ℕ) → f q ≡ g q → upd f k v q ≡ upd g k v q
    upd_agree f g k v q same = ap (λ r. cond (q == k) v r) same
