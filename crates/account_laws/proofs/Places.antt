-- The places of accounts.
use Rattle.std.proofs.Common.{◌≡◌, ℕ, ◌+◌, ◌*◌, ◌<◌, true, false, arith}
use Rattle.std.specs.Prelude.{◌==◌, ◌&&◌, ◌-◌, ◌%◌, nat_lt}
use Rattle.shared_laws.proofs.Numbers.{lt_true, eq_false, and_false}
use Rattle.account_laws.specs.Accounts.{lock_of, balance_of}

-- an account's lock is one
pub lock_there : (accounts account : ℕ) → account < accounts
    → (lock_of account < 2 * accounts) × ((nat_lt (lock_of account) (2 * accounts) && (lock_of account % 2 == 0)) ≡ true)
lock_there accounts account low =
    let below : 2 * account < 2 * accounts = omega (arith, low) in
    let rest : 2 * account % 2 ≡ 0 = omega arith in
    (below, (λ i. lt_true (2 * account) (2 * accounts) below i && (rest i == 0)))

-- its balance is none, and is guarded by its lock
pub balance_there : (accounts account : ℕ) → account < accounts → (balance_of account < 2 * accounts)
    × ((nat_lt (balance_of account) (2 * accounts) && (balance_of account % 2 == 0)) ≡ false)
    × (balance_of account - balance_of account % 2 ≡ lock_of account)
balance_there accounts account low =
    let rest : (2 * account + 1) % 2 ≡ 1 = omega arith in
    (omega (arith, low), and_false _ _ (eq_false (balance_of account % 2) 0 (λ e. omega (arith, rest, e))), omega (arith, rest))
