-- Accounts: each has a lock and a balance. A section moves money from one of them to another.
use Rattle.std.specs.Prelude.{◌≡◌, ℕ, ◌+◌, ◌-◌, ◌*◌, ◌%◌, ◌==◌, ◌&&◌, Bool, false, not, nat_lt, cond, List, [], ◌∷◌}
use Rattle.runner_parts.specs.structure_laws.specs.body_terms.specs.Word.{value_of, is_free, is_spent}
use Rattle.runner_parts.specs.structure_laws.specs.body_terms.specs.declared.value.Value.TheVariants.{Const}
use Rattle.runner_parts.specs.structure_laws.specs.body_terms.specs.declared.step.Step.{Step}
use Rattle.runner_parts.specs.structure_laws.specs.body_terms.specs.declared.step.Step.TheVariants.{Load, Want, Fresh, Take, Stamp, Store, Answer}
use Rattle.runner_parts.specs.structure_laws.specs.body_terms.specs.declared.thunk.Thunk.{Thunk}
use Rattle.section_body.specs.Bucket.{operand}
use Rattle.runner_parts.specs.structure_laws.specs.Scene.{Cells, Readings}
use Rattle.runner_parts.specs.structure_laws.specs.Meaning.{Meaning}
use Rattle.runner_parts.specs.Tests.{has_pair}
use Rattle.shared_laws.specs.Nodeless.{NoneLive}
use Rattle.account_laws.specs.Money.{total}

-- the lock of an account, and its balance
abbrev pub lock_of : ℕ → ℕ
lock_of account = 2 * account

abbrev pub balance_of : ℕ → ℕ
balance_of account = 2 * account + 1

-- how far apart two numbers are
abbrev pub apart : ℕ → ℕ → ℕ
apart a b = (a - b) + (b - a)

-- a thunk's operands: the words that it wants in the two balances, the words whose values it stores there, the two
-- accounts, and the word with which the upper account's lock was read
abbrev pub wanted_lower : Thunk → ℕ
wanted_lower t = operand t 0

abbrev pub wanted_upper : Thunk → ℕ
wanted_upper t = operand t 1

abbrev pub new_lower : Thunk → ℕ
new_lower t = value_of (operand t 2)

abbrev pub new_upper : Thunk → ℕ
new_upper t = value_of (operand t 3)

abbrev pub upper_word : Thunk → ℕ
upper_word t = operand t 6

-- the section: under the lower account's lock it loads the lower balance and wants the word that was read, takes the
-- upper account's lock, does the same with the upper balance, and stores both. It answers how much it moved, and one
abbrev pub transfer_steps : (lower upper : ℕ) (t : Thunk) → List Step
transfer_steps lower upper t =
    Load (balance_of lower) 0 ∷ Want 0 (wanted_lower t) ∷ Fresh 0 ∷
    Take (lock_of upper) (upper_word t) ∷
    Load (balance_of upper) 1 ∷ Want 1 (wanted_upper t) ∷ Fresh 1 ∷
    Stamp ∷
    Store 0 (Const (new_lower t)) ∷
    Store 1 (Const (new_upper t)) ∷
    Answer (apart (new_lower t) (value_of (wanted_lower t)) + 1) ∷ []

-- the upper account's lock was free, and had versions left
abbrev pub is_takeable : ℕ → Thunk → Bool
is_takeable version_max t = is_free (upper_word t) && not (is_spent version_max (upper_word t))

-- both balances together stay what they were
abbrev pub keeps_sum : Thunk → Bool
keeps_sum t = (new_lower t + new_upper t == value_of (wanted_lower t) + value_of (wanted_upper t))

-- over so many accounts
module _ (accounts : ℕ) where
  -- the account that an operand names, where it is one
  abbrev pub account_in : Thunk → ℕ → ℕ
  account_in t i = cond (nat_lt (operand t i) accounts) (operand t i) 0

  abbrev pub lower_in : Thunk → ℕ
  lower_in t = account_in t 4

  abbrev pub upper_in : Thunk → ℕ
  upper_in t = account_in t 5

  abbrev pub transfer_body : Thunk → List Step
  transfer_body t = transfer_steps (lower_in t) (upper_in t) t

  -- the outer lock is that of the lower one of two accounts
  abbrev pub is_in_order : Thunk → Bool
  is_in_order t =
      nat_lt (lower_in t) (upper_in t) && (nat_lt (upper_in t) accounts && t.lock == lock_of (lower_in t))

  -- the words that it wants and expects were read
  abbrev pub was_read : Readings → Thunk → Bool
  was_read readings t =
      has_pair readings (balance_of (lower_in t)) (wanted_lower t)
      && (has_pair readings (balance_of (upper_in t)) (wanted_upper t)
      && has_pair readings (lock_of (upper_in t)) (upper_word t))

  -- a thunk moves money between two accounts whose balances and locks were read
  abbrev pub is_transfer : ℕ → Readings → Thunk → Bool
  is_transfer version_max readings t =
      is_in_order t && (was_read readings t && (is_takeable version_max t && keeps_sum t))

  -- all balances together
  abbrev pub money : Cells → ℕ
  money cells = total accounts (λ account. value_of (cells (balance_of account)))

  -- what accounts mean: they serve no map; each has so much at first; a section may be any transfer, and all balances
  -- together stay what they were
  abbrev pub accounts_of : ℕ → Meaning
  accounts_of opening = record {
    is_map = false;
    fixed_cells = 2 * accounts;
    fixed_slots = 0;
    first_value = λ place. cond (place % 2 == 1) opening 0;
    is_lock = λ place. nat_lt place (2 * accounts) && (place % 2 == 0);
    body = transfer_body;
    reaches = λ readings slot. false;
    fits = λ layout op readings thunk. is_transfer layout.version_max readings thunk;
    is_link = λ cells place. false;
    guard = λ cells place. place - place % 2;
    stands = λ layout cells pairs. money cells ≡ accounts * opening;
    walked = λ layout op readings. Unit {0};
    kept = λ layout s. NoneLive s;
  }
