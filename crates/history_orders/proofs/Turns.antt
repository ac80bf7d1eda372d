-- Turns are in one strict order.
use Rattle.std.proofs.Common.{◌≡◌, ◌≢◌, ◌<◌, ◌≤◌, true, false, ⊎_elim, arith}
use Rattle.std.proofs.lemmas.Bool.Decides.{nat_tests}
use Rattle.history_orders.specs.Turns.{Turn, comes_before, Follows}

pub before_itself : (a : Turn) → comes_before a a ≡ false
before_itself a = grind (arith, nat_tests)

pub before_turns : (a b : Turn) → comes_before a b ≡ true → comes_before b a ≡ false
before_turns a b before = grind (arith, nat_tests)

pub before_joins : (a b c : Turn) → comes_before a b ≡ true → comes_before b c ≡ true → comes_before a c ≡ true
before_joins a b c first second = grind (arith, nat_tests)

-- by the stamps, where they don't fall, and the numbers, where they rise
pub before_from : (a b : Turn) → a.0 ≤ b.0 → a.1 < b.1 → comes_before a b ≡ true
before_from a b stamps numbers = grind (arith, nat_tests)

-- of two different numbers one comes before the other
pub before_either : (a b : Turn) → a.1 ≢ b.1 → comes_before a b ≡ false → comes_before b a ≡ true
before_either a b apart after = grind (arith, nat_tests)

-- by the stamps alone
pub before_by_stamp : (a b : Turn) → a.0 < b.0 → comes_before a b ≡ true
before_by_stamp a b lower = grind (arith, nat_tests)

-- what comes after the second comes after what comes before this one
pub after_before : (a b c : Turn) → comes_before a b ≡ false → comes_before c b ≡ true → comes_before a c ≡ false
after_before a b c after before = grind (arith, nat_tests)

pub after_joins : (a b c : Turn) → comes_before a b ≡ false → comes_before b c ≡ false → comes_before a c ≡ false
after_joins a b c first second = grind (arith, nat_tests)

-- between two turns with one stamp there is no other stamp
pub between_equal : (a b c : Turn) → b.0 ≡ c.0 → comes_before a b ≡ false → comes_before a c ≡ true → a.0 ≡ b.0
between_equal a b c same after before = grind (arith, nat_tests)

-- two turns with one stamp of which neither comes before the other have one number
pub one_number : (a b : Turn) → a.0 ≡ b.0 → comes_before a b ≡ false → comes_before b a ≡ false → a.1 ≡ b.1
one_number a b same after also = grind (arith, nat_tests)

-- what doesn't come before has no lower stamp
pub late_stamp : (a b : Turn) → comes_before a b ≡ false → b.0 ≤ a.0
late_stamp a b after = grind (arith, nat_tests)

-- stamps that follow one another order rising numbers
pub before_following : (a b : Turn) → Follows a.0 b.0 → a.1 < b.1 → comes_before a b ≡ true
before_following a b follows numbers =
    ⊎_elim (λ lower. before_by_stamp a b lower) (λ same. before_from a b (let is = same.0 in omega arith) numbers) follows
