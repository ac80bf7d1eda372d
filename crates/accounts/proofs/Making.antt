-- The section of a transfer's own thunk makes the transfer.
use Rattle.std.proofs.Common.{◌≡◌, ◌≢◌, ℕ, ◌+◌, ◌<◌, [], ◌∷◌, List, Bool, true, false, cond, refl, sym, ap, ◌∙◌, arith, None, Some}
use Rattle.std.specs.Prelude.{◌-◌, ◌^◌, nat_lt, is_some}
use Rattle.std.proofs.lemmas.Option.{none-some}
use Rattle.agreement_core.specs.section_lines.specs.small_lemmas.proofs.Lists.{same_number as some_eq}
use Rattle.agreement_core.specs.map_history.specs.declared.op.Op.{Op}
use Rattle.agreement_core.specs.body_terms.specs.Line.{line, micro_at}
use Rattle.agreement_core.specs.body_terms.specs.Word.{value_of, next_word}
use Rattle.agreement_core.specs.body_terms.specs.declared.thunk.Thunk.{Thunk}
use Rattle.agreement_core.specs.table_words.specs.declared.layout.Layout.{Layout}
use Rattle.agreement_core.specs.section_lines.specs.structure_laws.specs.Scene.{Readings}
use Rattle.agreement_core.specs.section_lines.specs.structure_laws.specs.Meaning.{Meaning}
use Rattle.agreement_core.specs.section_lines.specs.structure_laws.proofs.Changes.{value_small}
use Rattle.agreement_core.specs.section_lines.specs.structure_laws.proofs.Limits.{value-small}
use Rattle.agreement_core.specs.History.{Change, change_of}
use Rattle.runner_steps.specs.runner_parts.specs.Tests.{has_pair}
use Rattle.runner_steps.specs.Sections.{reply_in}
use Rattle.account_laws.specs.shared_laws.proofs.Numbers.{lt_true, read_pair}
use Rattle.account_laws.specs.Accounts.{lock_of, balance_of, apart, lower_in, upper_in, new_lower, new_upper, accounts_of, transfer_steps, transfer_body}
use Rattle.lock_walks.specs.try_lock.specs.Planning.{Planning}
use Rattle.lock_walks.specs.try_lock.specs.Plans.{IsWalk, NoneRefuses}
use Rattle.lock_walks.specs.Own.{own_thunk}
use Rattle.accounts.specs.Moves.{lower_of, upper_of, moved, lower_after, upper_after}
use Rattle.accounts.specs.Walk.{is_open, begun, transfer_planning, transfer_way}
use Rattle.accounts.specs.Made.{SetsBalance, IsMade, HasHappened, Makes}
use Rattle.accounts.specs.declared.transfer.Transfer.{Transfer}
use Rattle.accounts.specs.declared.walk.Found.TheVariants.{Balances}
use Rattle.accounts.proofs.Leading.{stopped, refuses}

-- the balances afterwards have 32 bits
small_by : (b : Bool) (amount x y : ℕ) → x < 2 ^ 32 → y < 2 ^ 32
    → (cond b (x - moved amount x y) (x + moved amount y x) < 2 ^ 32) × (cond b (y + moved amount x y) (y - moved amount y x) < 2 ^ 32)
small_by true amount x y small small' = (omega arith, omega arith)
small_by false amount x y small small' = (omega arith, omega arith)

-- how far apart the lower balance is from what it was
apart_by : (b : Bool) (amount x y : ℕ) → x < 2 ^ 32 → y < 2 ^ 32
    → apart (cond b (x - moved amount x y) (x + moved amount y x)) x ≡ cond b (moved amount x y) (moved amount y x)
apart_by true amount x y small small' = omega arith
apart_by false amount x y small small' = omega arith

-- both balances were set, whichever account is the lower one
made_by : (changed : ℕ → List Change) (t : Transfer) (readings : Readings) (b : Bool) (x y answer : ℕ)
    → has_pair readings (balance_of (cond b t.from t.to)) x ≡ true → has_pair readings (balance_of (cond b t.to t.from)) y ≡ true
    → (sets : SetsBalance changed (cond b t.from t.to) x (cond b (value_of x - moved t.amount (value_of x) (value_of y)) (value_of x + moved t.amount (value_of y) (value_of x))))
    → (sets' : SetsBalance changed (cond b t.to t.from) y (cond b (value_of y + moved t.amount (value_of x) (value_of y)) (value_of y - moved t.amount (value_of y) (value_of x))))
    → ((i : ℕ) → i ≢ sets.at → i ≢ sets'.at → changed i ≡ [])
    → answer ≡ cond b (moved t.amount (value_of x) (value_of y)) (moved t.amount (value_of y) (value_of x)) + 1
    → IsMade changed t readings answer
made_by changed t readings true x y answer read read' sets sets' only is =
    record { source = x; target = y; read_source = read; read_target = read'; gives = sets; takes = sets'; only = only; answers = is }
made_by changed t readings false x y answer read read' sets sets' only is =
    record { source = y; target = x; read_source = read'; read_target = read; gives = sets'; takes = sets; only = λ i ne ne'. only i ne' ne; answers = is }

-- no other step of a transfer's line changes a cell
quiet : (lower upper : ℕ) (thunk : Thunk) (log : ℕ → ℕ) (i : ℕ) → i ≢ 18 → i ≢ 19 → change_of log (micro_at (line (transfer_steps lower upper thunk)) i) ≡ []
quiet lower upper thunk log i ne ne' = grind arith

module _ (accounts opening version_max : ℕ) (start : Op) (t : Transfer) (order : lower_of t < upper_of t) (low : upper_of t < accounts) where
  abbrev m : Meaning
  m = accounts_of accounts opening

  -- all four words were read
  module _ (number : ℕ) (log : ℕ → ℕ) (changed : ℕ → List Change) (a b c d : ℕ × ℕ)
      (first : balance_of (lower_of t) ≡ a.0) (second : balance_of (upper_of t) ≡ b.0) where
    abbrev readings : Readings
    readings = a ∷ b ∷ c ∷ d ∷ []

    abbrev thunk : Thunk
    thunk = own_thunk transfer_way (begun t version_max start) number readings

    abbrev is_lower : Bool
    is_lower = nat_lt t.from t.to

    own_lower : lower_in accounts thunk ≡ lower_of t
    own_lower = ap (λ is. cond is (lower_of t) 0) (lt_true (lower_of t) accounts (omega (arith, order, low)))

    own_upper : upper_in accounts thunk ≡ upper_of t
    own_upper = ap (λ is. cond is (upper_of t) 0) (lt_true (upper_of t) accounts low)

    small : (lower_after t (value_of a.1) (value_of b.1) < 2 ^ 32) × (upper_after t (value_of a.1) (value_of b.1) < 2 ^ 32)
    small = small_by is_lower t.amount (value_of a.1) (value_of b.1) (value_small a.1) (value_small b.1)

    new_is : new_lower thunk ≡ lower_after t (value_of a.1) (value_of b.1)
    new_is = value-small (lower_after t (value_of a.1) (value_of b.1)) small.0

    new_is' : new_upper thunk ≡ upper_after t (value_of a.1) (value_of b.1)
    new_is' = value-small (upper_after t (value_of a.1) (value_of b.1)) small.1

    made : HasHappened changed (transfer_body accounts thunk) log → IsMade changed t readings (reply_in (transfer_body accounts thunk))
    made did =
        let agreed : log 0 ≡ a.1 = did.wanted 2 (balance_of (lower_in accounts thunk)) 0 a.1 refl in
        let agreed' : log 3 ≡ b.1 = did.wanted 13 (balance_of (upper_in accounts thunk)) 3 b.1 refl in
        made_by changed t readings is_lower a.1 b.1 (reply_in (transfer_body accounts thunk))
        (read_pair readings (balance_of (lower_of t)) a.1 0 (ap (λ p. Some (p, a.1)) (sym first)))
        (read_pair readings (balance_of (upper_of t)) b.1 1 (ap (λ p. Some (p, b.1)) (sym second)))
        (record {
          at = 18;
          once = did.changes 18
              ∙ (λ i. record { place = balance_of (own_lower i); old = agreed i; new = next_word (agreed i) (new_is i) } ∷ []);
        })
        (record {
          at = 19;
          once = did.changes 19
              ∙ (λ i. record { place = balance_of (own_upper i); old = agreed' i; new = next_word (agreed' i) (new_is' i) } ∷ []);
        })
        (λ i ne ne'. did.changes i ∙ quiet (lower_in accounts thunk) (upper_in accounts thunk) thunk log i ne ne')
        (ap (λ n. apart n (value_of a.1) + 1) new_is
        ∙ ap (λ n. n + 1) (apart_by is_lower t.amount (value_of a.1) (value_of b.1) (value_small a.1) (value_small b.1)))

  module _ (layout : Layout) (op : Op) (number : ℕ) (log : ℕ → ℕ) (changed : ℕ → List Change) where
    abbrev plans : Planning
    plans = transfer_planning t

    makes_by : (readings : Readings) → IsWalk m plans layout op readings → plans.wants layout op readings ≡ None → NoneRefuses m plans layout op readings
        → HasHappened changed (m.body (own_thunk transfer_way (begun t version_max start) number readings)) log
        → IsMade changed t readings (reply_in (m.body (own_thunk transfer_way (begun t version_max start) number readings)))
    makes_by [] walk whole none did = absurd (none-some _ (sym whole))
    makes_by (a ∷ []) walk whole none did = absurd (none-some _ (sym whole))
    makes_by (a ∷ b ∷ []) walk whole none did = absurd (none-some _ (sym whole))
    makes_by (a ∷ b ∷ c ∷ []) walk whole none did =
        absurd (stopped (is_open layout.version_max c.1) (lock_of (lower_of t)) whole
        (refuses accounts opening layout op t order low (Balances a.1 b.1) (a ∷ b ∷ []) c.0 c.1 (walk 2 c.0 c.1 refl) ∙ ap (λ o. is_some o) (none 2 c.0 c.1 refl)))
    makes_by (a ∷ b ∷ c ∷ d ∷ []) walk whole none did =
        made number log changed a b c d (some_eq _ a.0 (walk 0 a.0 a.1 refl)) (some_eq _ b.0 (walk 1 b.0 b.1 refl)) did
    makes_by (a ∷ b ∷ c ∷ d ∷ e ∷ more) walk whole none did = absurd (none-some e.0 (walk 4 e.0 e.1 refl))

  pub makes : Makes m t (begun t version_max start)
  makes layout op number readings log changed walk whole none did = makes_by layout op number log changed readings walk whole none did
