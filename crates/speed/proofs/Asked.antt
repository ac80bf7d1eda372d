-- What is asked of the table is in order, and each request stands at its number.
use Rattle.std.proofs.Common.{◌≡◌, ℕ, ◌+◌, ◌*◌, ◌/◌, ◌%◌, ◌-◌, ◌<◌, ◌≤◌, Bool, true, false, cond, List, [], ◌∷◌, length, map, get_or, refl, sym, ap, ◌∙◌, subst, arith, Some}
use Rattle.std.specs.Prelude.{◌==◌, All, is_none, nat_lt, slice_get}
use Rattle.std.specs.List.{range_with_len}
use Rattle.std.proofs.lemmas.List.FromFn.{get_or-map-range_with_len, length-map-range_with_len}
use Rattle.std.proofs.lemmas.Nat.{mod_below}
use Rattle.std.proofs.lemmas.Option.{slice_get_within, get_or_from_slice_get}
use Rattle.machine_states.specs.map_history.specs.declared.op.Op.TheVariants.{Ins, Del}
use Rattle.machine_states.specs.map_history.specs.declared.op.Request.{Request}
use Rattle.machine_states.specs.map_history.specs.declared.op.Op.{Op}
use Rattle.machine_states.specs.map_history.specs.Keys.{key_of, DependsOn, IsOneKeyed}
use Rattle.machine_states.specs.map_history.specs.Requests.{AreInOrder}
use Rattle.machine_states.specs.map_history.proofs.Cells.{key_is}
use Rattle.leaf_tree.specs.tree_laws.specs.bucket_laws.specs.Walk.{has_one_key}
use Rattle.speed.specs.declared.attempt_rounds.kinds.Kind.{Kind}
use Rattle.speed.specs.declared.attempt_rounds.kinds.Kind.TheVariants as kinds
use Rattle.speed.specs.Asked.{key_at, asked_by, request_at, requests_of}

numbers : (kind : Kind) (ks : List ℕ) → map (λ request. request.number) (map (request_at kind) ks) ≡ ks
numbers kind [] = refl
numbers kind (k ∷ ks) = ap (λ rest. k ∷ rest) (numbers kind ks)

-- keys are small
small_key : (turn : ℕ) → key_at turn < 1000
small_key turn = mod_below (7919 * turn) 1000 (omega arith)

asks_small : (kind : Kind) (turn : ℕ) → key_of (asked_by kind turn) ≤ 4294967293
asks_small kinds.Found turn = let small = small_key turn in omega (arith, small)
asks_small kinds.Missed turn = let small = small_key turn in omega (arith, small)
asks_small kinds.Refused turn = let small = small_key turn in omega (arith, small)
asks_small kinds.Turns turn = by_test (turn % 2 == 0)
  where
    by_test : (b : Bool) → key_of (cond b (Ins (2 * key_at (turn / 2) + 1) 1) (Del (2 * key_at (turn / 2) + 1))) ≤ 4294967293
    by_test true = let small = small_key (turn / 2) in omega (arith, small)
    by_test false = let small = small_key (turn / 2) in omega (arith, small)

small : (kind : Kind) (number : ℕ) → key_of (request_at kind number).op ≤ 4294967293
small kind number = by_test (nat_lt number 1000)
  where
    by_test : (b : Bool) → key_of (cond b (Ins (2 * key_at number) (key_at number)) (asked_by kind (number - 1000))) ≤ 4294967293
    by_test true = let low = small_key number in omega (arith, low)
    by_test false = asks_small kind (number - 1000)

asks_one : (kind : Kind) (turn : ℕ) → IsOneKeyed (asked_by kind turn)
asks_one kinds.Found turn = refl
asks_one kinds.Missed turn = refl
asks_one kinds.Refused turn = refl
asks_one kinds.Turns turn = by_test (turn % 2 == 0)
  where
    by_test : (b : Bool) → IsOneKeyed (cond b (Ins (2 * key_at (turn / 2) + 1) 1) (Del (2 * key_at (turn / 2) + 1)))
    by_test true = refl
    by_test false = refl

one_keyed : (kind : Kind) (number : ℕ) → IsOneKeyed (request_at kind number).op
one_keyed kind number = by_test (nat_lt number 1000)
  where
    by_test : (b : Bool) → IsOneKeyed (cond b (Ins (2 * key_at number) (key_at number)) (asked_by kind (number - 1000)))
    by_test true = refl
    by_test false = asks_one kind (number - 1000)

-- each asks for one key
pub requests_one_key : (kind : Kind) (count : ℕ) → All (λ (q : Request). has_one_key q.op ≡ true) (requests_of kind count)
requests_one_key kind count =
    let size : length (requests_of kind count) ≡ count = length-map-range_with_len (request_at kind) 0 count in
    λ k d early. subst (λ (q : Request). has_one_key q.op ≡ true)
    (sym (get_or-map-range_with_len (request_at kind) 0 count k k d (omega (arith, early, size)) (omega arith)))
    (ap is_none (one_keyed kind k))

keys_low : (op : Op) → IsOneKeyed op → key_of op ≤ 4294967293 → (key : ℕ) → DependsOn op key → key ≤ 4294967293
keys_low op one low key on = subst (λ n. n ≤ 4294967293) (key_is op key one on) low

pub requests_in_order : (kind : Kind) (count : ℕ) → count ≤ 131072 → AreInOrder (requests_of kind count) 64
requests_in_order kind count few =
    let size : length (requests_of kind count) ≡ count = length-map-range_with_len (request_at kind) 0 count in
    let at : (k : ℕ) (d : Request) → k < count → get_or (requests_of kind count) k d ≡ request_at kind k = λ k d early. get_or-map-range_with_len (request_at kind) 0 count k k d early (omega arith) in
    record {
      few_traces = omega arith;
      few = omega (arith, size, few);
      numbered = numbers kind (range_with_len 0 count) ∙ ap (range_with_len 0) (sym size);
      within = λ k d early. rw (at k d (omega (arith, size))) (omega arith);
      rising = λ i j d le early. rw (at i d (omega (arith, size)), at j d (omega (arith, size))) (omega arith);
      keys = λ k d early. rw (at k d (omega (arith, size))) (keys_low (request_at kind k).op (one_keyed kind k) (small kind k));
    }

-- a request stands at its number
pub numbered : (kind : Kind) (count i : ℕ) (q : Request) → slice_get (requests_of kind count) i ≡ Some q → q.number ≡ i
numbered kind count i q e =
    let size : length (requests_of kind count) ≡ count = length-map-range_with_len (request_at kind) 0 count in
    let low = slice_get_within (requests_of kind count) i q e in
    let same : q ≡ request_at kind i = sym (get_or_from_slice_get (requests_of kind count) i q q e) ∙ get_or-map-range_with_len (request_at kind) 0 count i i q (omega (arith, low, size)) (omega arith) in
    ap (λ (x : Request). x.number) same
