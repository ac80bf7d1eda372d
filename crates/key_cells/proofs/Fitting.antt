-- What a thunk that fits is.
use Rattle.std.proofs.Common.{◌≡◌, ℕ, zero, suc, ◌+◌, ◌<◌, ◌≤◌, Bool, true, false, cond, refl, ap, ◌∙◌, arith}
use Rattle.std.specs.Prelude.{◌==◌, ◌&&◌, ◌||◌, nat_lt, is_none, Option, None, Some}
use Rattle.runner_parts.specs.structure_laws.specs.map_history.specs.declared.op.Op.{Op}
use Rattle.runner_parts.specs.structure_laws.specs.map_history.specs.Keys.{key_of, other_key_of, IsOneKeyed}
use Rattle.runner_parts.specs.structure_laws.specs.map_history.specs.Words.{word_of}
use Rattle.section_body.specs.Bucket.{operand}
use Rattle.runner_parts.specs.structure_laws.specs.body_terms.specs.declared.thunk.Thunk.{Thunk}
use Rattle.runner_parts.specs.structure_laws.specs.Scene.{Readings}
use Rattle.runner_parts.specs.structure_laws.proofs.Changes.{equal_of, both_true}
use Rattle.runner_parts.specs.Tests.{has_pair}
use Rattle.runner_parts.specs.structure_laws.specs.map_history.specs.AtKey.{reply_at, left_at, changes_at}
use Rattle.shared_laws.proofs.Numbers.{lt_of, lt_true}
use Rattle.key_cells.specs.Keyed.{Keyed, lock_place, cell_place, each_of, wanted, new_of, has_one_key, key_in, body_by, key_body, was_read, is_for, key_fits}

-- the test of each of the numbers, and the other way
pub each_at : (n : ℕ) (test : ℕ → Bool) → n ≤ 3 → each_of n test ≡ true → (i : ℕ) → i < n → test i ≡ true
each_at n test few h zero low = grind (arith, h, low)
each_at n test few h (suc zero) low = grind (arith, h, low)
each_at n test few h (suc (suc zero)) low = grind (arith, h, low)
each_at n test few h (suc (suc (suc i))) low = absurd (omega (arith, few, low))

pub each_all : (n : ℕ) (test : ℕ → Bool) → ((i : ℕ) → i < n → test i ≡ true) → each_of n test ≡ true
each_all n test is = (λ k. one 0 k && (one 1 k && one 2 k))
  where
    one : (i : ℕ) → (nat_lt n (i + 1) || test i) ≡ true
    one i = by (nat_lt i n) refl
      where
        by : (b : Bool) → nat_lt i n ≡ b → (nat_lt n (i + 1) || test i) ≡ true
        by true e = let here = is i (lt_of i n e) in grind (arith, here)
        by false e = grind (arith, e)

no_other : (other : Option ℕ) → is_none other ≡ true → other ≡ None
no_other None h = refl
no_other (Some key) h = absurd (cc)

module _ (c : Keyed) where
  pub record Fit (op : Op) (readings : Readings) (t : Thunk) : Type 0 where
    pub one : IsOneKeyed op
    pub low : key_of op < c.keys
    pub lock : t.lock ≡ lock_place c (key_of op)
    pub key : operand t 7 ≡ key_of op
    pub read : (i : ℕ) → i < c.count → has_pair readings (cell_place c (key_of op) i) (wanted t i) ≡ true
    pub form : t.form ≡ cond (changes_at (c.held (wanted t)) op) 2 1
    pub reply : operand t 6 ≡ word_of (reply_at (c.held (wanted t)) op)
    pub new : (i : ℕ) → i < c.count → new_of t i ≡ c.value (left_at (c.held (wanted t)) op) i

  pub fit_of : (op : Op) (readings : Readings) (t : Thunk) → c.count ≤ 3 → key_fits c op readings t ≡ true → Fit op readings t
  fit_of op readings t few fits =
      let served = both_true _ _ fits in
      let is = both_true (has_one_key op) (nat_lt (key_of op) c.keys) served.0 in
      let rest = both_true (was_read c (key_of op) readings t) (is_for c op (c.held (wanted t)) t) served.1 in
      let lock = both_true _ _ rest.0 in
      let key = both_true _ _ lock.1 in
      let read = both_true _ _ key.1 in
      let form = both_true _ _ rest.1 in
      let reply = both_true _ _ form.1 in
      record {
        one = no_other (other_key_of op) is.0;
        low = lt_of (key_of op) c.keys is.1;
        lock = equal_of t.lock (lock_place c (key_of op)) lock.0;
        key = equal_of (operand t 7) (key_of op) key.0;
        read = each_at c.count (λ i. has_pair readings (cell_place c (key_of op) i) (wanted t i)) few read.0;
        form = equal_of t.form _ form.0;
        reply = equal_of (operand t 6) _ reply.0;
        new = λ i low. equal_of (new_of t i) _ (each_at c.count (λ i. new_of t i == c.value (left_at (c.held (wanted t)) op) i) few reply.1 i low);
      }

  module _ (op : Op) (readings : Readings) (t : Thunk) (fit : Fit op readings t) where
    -- its key is the operation's
    pub key_own : key_in c t ≡ key_of op
    key_own = ap (λ k. cond (nat_lt k c.keys) k 0) fit.key ∙ ap (λ b. cond b (key_of op) 0) (lt_true (key_of op) c.keys fit.low)

    -- its body is the one of its form
    pub form_own : (t.form == 2) ≡ changes_at (c.held (wanted t)) op
    form_own = ap (λ n. n == 2) fit.form ∙ by (changes_at (c.held (wanted t)) op)
      where
        by : (b : Bool) → (cond b 2 1 == 2) ≡ b
        by true = refl
        by false = refl

    pub body_own : key_body c t ≡ body_by c (changes_at (c.held (wanted t)) op) (key_of op) t
    body_own = (λ i. body_by c (form_own i) (key_own i) t)
