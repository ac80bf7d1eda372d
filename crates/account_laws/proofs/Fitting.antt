-- What a thunk that fits is, and that it fits longer readings too.
use Rattle.std.proofs.Common.{◌≡◌, ℕ, ◌+◌, ◌<◌, true, false}
use Rattle.std.specs.Prelude.{◌++◌, ◌==◌, ◌&&◌, not, nat_lt}
use Rattle.runner_parts.specs.structure_laws.specs.body_terms.specs.Word.{value_of, is_free, is_spent}
use Rattle.runner_parts.specs.structure_laws.specs.body_terms.specs.declared.thunk.Thunk.{Thunk}
use Rattle.runner_parts.specs.structure_laws.specs.Scene.{Readings}
use Rattle.runner_parts.specs.structure_laws.proofs.Changes.{equal_of, both_true}
use Rattle.runner_parts.specs.Tests.{has_pair}
use Rattle.runner_parts.specs.epoch_core.specs.small_lemmas.proofs.Bools.{negated}
use Rattle.shared_laws.proofs.Numbers.{lt_of, lt_true, eq_true}
use Rattle.shared_laws.proofs.Still.{any_on}
use Rattle.account_laws.specs.Accounts.{lock_of, balance_of, wanted_lower, wanted_upper, new_lower, new_upper, upper_word, lower_in, upper_in, is_in_order, was_read, is_takeable, keeps_sum, is_transfer}

module _ (accounts version_max : ℕ) where
  pub record Fit (readings : Readings) (t : Thunk) : Type 0 where
    pub order : lower_in accounts t < upper_in accounts t
    pub low : upper_in accounts t < accounts
    pub lock : t.lock ≡ lock_of (lower_in accounts t)
    pub read_lower : has_pair readings (balance_of (lower_in accounts t)) (wanted_lower t) ≡ true
    pub read_upper : has_pair readings (balance_of (upper_in accounts t)) (wanted_upper t) ≡ true
    pub read_lock : has_pair readings (lock_of (upper_in accounts t)) (upper_word t) ≡ true
    pub free : is_free (upper_word t) ≡ true
    pub unspent : is_spent version_max (upper_word t) ≡ false
    pub sum : new_lower t + new_upper t ≡ value_of (wanted_lower t) + value_of (wanted_upper t)

  pub fit_of : (readings : Readings) (t : Thunk) → is_transfer accounts version_max readings t ≡ true → Fit readings t
  fit_of readings t fits =
      let parts = both_true (is_in_order accounts t) (was_read accounts readings t && (is_takeable version_max t && keeps_sum t)) fits in
      let order = both_true (nat_lt (lower_in accounts t) (upper_in accounts t)) (nat_lt (upper_in accounts t) accounts && t.lock == lock_of (lower_in accounts t)) parts.0 in
      let lock = both_true (nat_lt (upper_in accounts t) accounts) (t.lock == lock_of (lower_in accounts t)) order.1 in
      let rest = both_true (was_read accounts readings t) (is_takeable version_max t && keeps_sum t) parts.1 in
      let lower = both_true (has_pair readings (balance_of (lower_in accounts t)) (wanted_lower t)) _ rest.0 in
      let upper = both_true (has_pair readings (balance_of (upper_in accounts t)) (wanted_upper t)) (has_pair readings (lock_of (upper_in accounts t)) (upper_word t)) lower.1 in
      let last = both_true (is_takeable version_max t) (keeps_sum t) rest.1 in
      let free = both_true (is_free (upper_word t)) (not (is_spent version_max (upper_word t))) last.0 in
      record {
        order = lt_of (lower_in accounts t) (upper_in accounts t) order.0;
        low = lt_of (upper_in accounts t) accounts lock.0;
        lock = equal_of t.lock (lock_of (lower_in accounts t)) lock.1;
        read_lower = lower.0;
        read_upper = upper.0;
        read_lock = upper.1;
        free = free.0;
        unspent = negated (is_spent version_max (upper_word t)) free.1;
        sum = equal_of (new_lower t + new_upper t) (value_of (wanted_lower t) + value_of (wanted_upper t)) last.1;
      }

  -- and the other way
  pub fits_of : (readings : Readings) (t : Thunk) → Fit readings t → is_transfer accounts version_max readings t ≡ true
  fits_of readings t fit =
      let order = lt_true (lower_in accounts t) (upper_in accounts t) fit.order in
      let low = lt_true (upper_in accounts t) accounts fit.low in
      let lock = eq_true t.lock (lock_of (lower_in accounts t)) fit.lock in
      let spent = fit.unspent in
      let sum = eq_true (new_lower t + new_upper t) (value_of (wanted_lower t) + value_of (wanted_upper t)) fit.sum in
      (λ i. (order i && (low i && lock i)) && ((fit.read_lower i && (fit.read_upper i && fit.read_lock i)) && ((fit.free i && not (spent i)) && sum i)))

  pub fits_on : (readings more : Readings) (t : Thunk) → is_transfer accounts version_max readings t ≡ true
      → is_transfer accounts version_max (readings ++ more) t ≡ true
  fits_on readings more t fits =
      let fit = fit_of readings t fits in
      fits_of (readings ++ more) t (record {
        order = fit.order;
        low = fit.low;
        lock = fit.lock;
        read_lower = any_on _ readings more fit.read_lower;
        read_upper = any_on _ readings more fit.read_upper;
        read_lock = any_on _ readings more fit.read_lock;
        free = fit.free;
        unspent = fit.unspent;
        sum = fit.sum;
      })
