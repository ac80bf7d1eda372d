-- The walk of a transfer leads a runner as a transfer plans.
use Rattle.std.proofs.Common.{◌≡◌, ℕ, ◌+◌, ◌*◌, ◌<◌, [], ◌∷◌, Bool, true, false, cond, refl, sym, ap, subst, ◌∙◌, arith, Option, Some, None}
use Rattle.std.specs.Prelude.{◌&&◌, ◌||◌, not, ◌-◌, ◌/◌, nat_lt, is_some, if◌then◌else◌}
use Rattle.std.proofs.lemmas.Option.{none-some}
use Rattle.agreement_core.specs.section_lines.specs.small_lemmas.proofs.Lists.{same_number as some_eq}
use Rattle.agreement_core.specs.section_lines.specs.small_lemmas.proofs.Bools.{negated}
use Rattle.agreement_core.specs.map_history.specs.declared.op.Op.{Op}
use Rattle.agreement_core.specs.body_terms.specs.Word.{value_of, is_free, is_spent}
use Rattle.agreement_core.specs.body_terms.specs.declared.thunk.Thunk.{Thunk}
use Rattle.agreement_core.specs.table_words.specs.declared.layout.Layout.{Layout}
use Rattle.agreement_core.specs.section_lines.specs.structure_laws.specs.Scene.{Readings}
use Rattle.agreement_core.specs.section_lines.specs.structure_laws.specs.Meaning.{Meaning}
use Rattle.agreement_core.specs.section_lines.specs.structure_laws.specs.Cells.{slots}
use Rattle.agreement_core.specs.section_lines.specs.structure_laws.proofs.Changes.{both_true, value_small}
use Rattle.runner_steps.specs.runner_parts.specs.Tests.{has_pair, is_readable}
use Rattle.account_laws.specs.shared_laws.proofs.Numbers.{lt_true, read_pair}
use Rattle.account_laws.specs.Accounts.{lock_of, balance_of, lower_in, upper_in, accounts_of}
use Rattle.account_laws.proofs.Places.{lock_there, balance_there}
use Rattle.account_laws.proofs.Fitting.{Fit, fits_of}
use Rattle.lock_walks.specs.try_lock.specs.declared.planned.Planned.{Planned}
use Rattle.lock_walks.specs.try_lock.specs.declared.planned.Planned.TheVariants as answers
use Rattle.lock_walks.specs.try_lock.specs.Plans.{refused_by_lock, refused_at}
use Rattle.lock_walks.specs.Way.{fed_all, IsLedBy, IsThunkFor, Leads}
use Rattle.accounts.specs.Moves.{lower_of, upper_of}
use Rattle.accounts.specs.Walk.{is_open, next_place, found_after, found_in, loads_left, is_refused, begun, thunk_by, thunk_of, transfer_planning, transfer_way}
use Rattle.accounts.specs.declared.transfer.Transfer.{Transfer}
use Rattle.accounts.specs.declared.walk.Found.{Found}
use Rattle.accounts.specs.declared.walk.Found.TheVariants.{Nothing, Lower, Balances, Locked, All}
use Rattle.accounts.specs.declared.walk.TransferWalk.{TransferWalk}
use Rattle.accounts.proofs.Sums.{sum_after}

-- what a lock's word means to the walk is what it means to the plan
lock_refuses : (free spent : Bool) (a b : Planned) → not (free && not spent) ≡ is_some (if free then (if spent then Some a else None) else Some b)
lock_refuses true true a b = refl
lock_refuses true false a b = refl
lock_refuses false spent a b = refl

locked : (lock refused : Bool) (o p : Option Planned) → lock ≡ true → refused ≡ is_some o → refused ≡ is_some (if lock then o else p)
locked true refused o p e h = h
locked false refused o p e h = absurd (cc)

unlocked : (lock : Bool) (o : Option Planned) → lock ≡ false → false ≡ is_some (if lock then o else None)
unlocked true o e = absurd (cc)
unlocked false o e = refl

-- a lock that the walk passes was open
pub opened : (free : Bool) (place wanted : ℕ) → cond free (Some wanted) None ≡ Some place → (free ≡ true) × (wanted ≡ place)
opened true place wanted e = (refl, some_eq wanted place e)
opened false place wanted e = absurd (none-some place e)

pub stopped : (free : Bool) (wanted : ℕ) → cond free (Some wanted) None ≡ None → not free ≡ false → ⊥
stopped true wanted e goes = none-some wanted (sym e)
stopped false wanted e goes = cc

-- each load brings the walk nearer to its end
nearer : (version_max lower upper place word : ℕ) (found : Found) → next_place version_max lower upper found ≡ Some place → loads_left (found_after found word) < loads_left found
nearer version_max lower upper place word Nothing e = omega arith
nearer version_max lower upper place word (Lower first) e = omega arith
nearer version_max lower upper place word (Balances first second) e = omega arith
nearer version_max lower upper place word (Locked first second inner) e = omega arith
nearer version_max lower upper place word (All first second inner outer) e = absurd (none-some place e)

-- the walk behind some readings
behind : (w : TransferWalk) (readings : Readings) → fed_all transfer_way w readings ≡ record w { found = found_in w.found readings }
behind w [] = refl
behind w (reading ∷ readings) = behind (record w { found = found_after w.found reading.1 }) readings

module _ (accounts opening : ℕ) (layout : Layout) (op : Op) (t : Transfer) where
  abbrev m : Meaning
  m = accounts_of accounts opening

  abbrev lower : ℕ
  lower = lower_of t

  abbrev upper : ℕ
  upper = upper_of t

  -- the walk at its beginning
  abbrev starts : TransferWalk
  starts = begun t layout.version_max op

  abbrev next : Found → Option ℕ
  next = next_place layout.version_max lower upper

  wanted_in : (readings : Readings) (place : Option ℕ) → transfer_way.wants (fed_all transfer_way starts readings) ≡ place → next (found_in Nothing readings) ≡ place
  wanted_in readings place e = sym (ap transfer_way.wants (behind starts readings)) ∙ e

  module _ (order : lower < upper) (low : upper < accounts) where
    lower_low : lower < accounts
    lower_low = omega (arith, order, low)

    -- the places are fixed cells
    fixed : (found : Found) (place : ℕ) → next found ≡ Some place → place < 2 * accounts
    fixed Nothing place e = subst (λ p. p < 2 * accounts) (some_eq _ place e) (balance_there accounts lower lower_low).0
    fixed (Lower first) place e = subst (λ p. p < 2 * accounts) (some_eq _ place e) (balance_there accounts upper low).0
    fixed (Balances first second) place e = subst (λ p. p < 2 * accounts) (some_eq _ place e) (lock_there accounts upper low).0
    fixed (Locked first second inner) place e = subst (λ p. p < 2 * accounts) (opened _ place _ e).1 (lock_there accounts lower lower_low).0
    fixed (All first second inner outer) place e = absurd (none-some place e)

    readable : (readings : Readings) (place : ℕ) → place < 2 * accounts → (is_readable m readings place ≡ true) × (place < 2 * accounts + 5 * slots m layout)
    readable readings place below =
        (ap (λ b. b || (m.is_lock place || (nat_lt ((place - m.fixed_cells) / 5) m.fixed_slots || m.reaches readings ((place - m.fixed_cells) / 5)))) (lt_true place m.fixed_cells below), omega (arith, below))

    -- a reading refuses the walk where it refuses the plan
    pub refuses : (found : Found) (readings : Readings) (place word : ℕ) → next found ≡ Some place
        → is_refused layout.version_max (found_after found word) ≡ is_some (refused_at m (transfer_planning t) layout op readings place word)
    refuses Nothing readings place word e = unlocked (m.is_lock place) (refused_by_lock layout.version_max place word)
        (subst (λ p. m.is_lock p ≡ false) (some_eq _ place e) (balance_there accounts lower lower_low).1)
    refuses (Lower first) readings place word e = unlocked (m.is_lock place) (refused_by_lock layout.version_max place word)
        (subst (λ p. m.is_lock p ≡ false) (some_eq _ place e) (balance_there accounts upper low).1)
    refuses (Balances first second) readings place word e = locked (m.is_lock place) _ (refused_by_lock layout.version_max place word) _
        (subst (λ p. m.is_lock p ≡ true) (some_eq _ place e) (lock_there accounts upper low).1)
        (lock_refuses (is_free word) (is_spent layout.version_max word) (answers.Spent place word) (answers.Busy place word))
    refuses (Locked first second inner) readings place word e = locked (m.is_lock place) _ (refused_by_lock layout.version_max place word) _
        (subst (λ p. m.is_lock p ≡ true) (opened _ place _ e).1 (lock_there accounts lower lower_low).1)
        (lock_refuses (is_free word) (is_spent layout.version_max word) (answers.Spent place word) (answers.Busy place word))
    refuses (All first second inner outer) readings place word e = absurd (none-some place e)

    -- where it wants a word it isn't refused
    goes : (found : Found) (place : ℕ) → next found ≡ Some place → is_refused layout.version_max found ≡ false
    goes Nothing place e = refl
    goes (Lower first) place e = refl
    goes (Balances first second) place e = refl
    goes (Locked first second inner) place e = ap not (opened _ place _ e).0
    goes (All first second inner outer) place e = absurd (none-some place e)

    -- the thunk of a whole walk moves money between the two accounts
    module _ (number : ℕ) (a b c d : ℕ × ℕ)
        (first : balance_of lower ≡ a.0) (second : balance_of upper ≡ b.0) (third : lock_of upper ≡ c.0) (last : lock_of lower ≡ d.0)
        (inner : is_open layout.version_max c.1 ≡ true) (outer : is_open layout.version_max d.1 ≡ true) where
      abbrev readings : Readings
      readings = a ∷ b ∷ c ∷ d ∷ []

      abbrev thunk : Thunk
      thunk = thunk_by t (lock_of lower) number a.1 b.1 c.1 d.1

      own_lower : lower_in accounts thunk ≡ lower
      own_lower = ap (λ is. cond is lower 0) (lt_true lower accounts lower_low)

      own_upper : upper_in accounts thunk ≡ upper
      own_upper = ap (λ is. cond is upper 0) (lt_true upper accounts low)

      fit : Fit accounts layout.version_max readings thunk
      fit = record {
        order = omega (arith, own_lower, own_upper, order);
        low = omega (arith, own_upper, low);
        lock = ap lock_of (sym own_lower);
        read_lower = ap (λ account. has_pair readings (balance_of account) a.1) own_lower ∙ read_pair readings (balance_of lower) a.1 0 (ap (λ p. Some (p, a.1)) (sym first));
        read_upper = ap (λ account. has_pair readings (balance_of account) b.1) own_upper ∙ read_pair readings (balance_of upper) b.1 1 (ap (λ p. Some (p, b.1)) (sym second));
        read_lock = ap (λ account. has_pair readings (lock_of account) c.1) own_upper ∙ read_pair readings (lock_of upper) c.1 2 (ap (λ p. Some (p, c.1)) (sym third));
        free = (both_true (is_free c.1) (not (is_spent layout.version_max c.1)) inner).0;
        unspent = negated (is_spent layout.version_max c.1) (both_true (is_free c.1) (not (is_spent layout.version_max c.1)) inner).1;
        sum = sum_after t (value_of a.1) (value_of b.1) (value_small a.1) (value_small b.1);
      }

      whole_fits : IsThunkFor transfer_way m layout starts number readings thunk
      whole_fits = record {
        fits = fits_of accounts layout.version_max readings thunk fit;
        request = refl;
        operands = refl;
        free = (both_true (is_free d.1) (not (is_spent layout.version_max d.1)) outer).0;
        unspent = negated (is_spent layout.version_max d.1) (both_true (is_free d.1) (not (is_spent layout.version_max d.1)) outer).1;
        read = read_pair readings (lock_of lower) d.1 3 (ap (λ p. Some (p, d.1)) (sym last));
      }

    fits : (number : ℕ) (readings : Readings) → IsLedBy transfer_way starts readings → next (found_in Nothing readings) ≡ None
        → is_refused layout.version_max (found_in Nothing readings) ≡ false
        → IsThunkFor transfer_way m layout starts number readings (thunk_of t (lock_of lower) number (found_in Nothing readings))
    fits number [] led none on = absurd (none-some _ (sym none))
    fits number (a ∷ []) led none on = absurd (none-some _ (sym none))
    fits number (a ∷ b ∷ []) led none on = absurd (none-some _ (sym none))
    fits number (a ∷ b ∷ c ∷ []) led none on = absurd (stopped _ _ none on)
    fits number (a ∷ b ∷ c ∷ d ∷ []) led none on =
        let last = opened (is_open layout.version_max c.1) d.0 (lock_of lower) (led 3 d.0 d.1 refl) in
        whole_fits number a b c d (some_eq _ a.0 (led 0 a.0 a.1 refl)) (some_eq _ b.0 (led 1 b.0 b.1 refl)) (some_eq _ c.0 (led 2 c.0 c.1 refl)) last.1 last.0 (unrefused (is_open layout.version_max d.1) on)
      where
        unrefused : (free : Bool) → not free ≡ false → free ≡ true
        unrefused true e = refl
        unrefused false e = absurd (cc)
    fits number (a ∷ b ∷ c ∷ d ∷ e ∷ more) led none on = absurd (none-some e.0 (led 4 e.0 e.1 refl))

    pub leads : Leads transfer_way m layout starts
    leads = record {
      begins = (balance_of lower, refl);
      shorter = λ other place word wants. nearer other.version_max (lower_of other.transfer) (upper_of other.transfer) place word other.found wants;
      steady = λ readings. ap (λ w. transfer_planning w.transfer) (behind starts readings);
      wanted = λ readings led. sym (ap transfer_way.wants (behind starts readings));
      readable = λ readings place led wants known. readable readings place (fixed (found_in Nothing readings) place (wanted_in readings (Some place) wants));
      refuses = λ readings place word led wants known. ap (λ w. transfer_way.refused (transfer_way.fed w word)) (behind starts readings)
          ∙ refuses (found_in Nothing readings) readings place word (wanted_in readings (Some place) wants);
      goes_on = λ readings place led wants. ap transfer_way.refused (behind starts readings) ∙ goes (found_in Nothing readings) place (wanted_in readings (Some place) wants);
      fits = λ number readings led none on.
          subst (IsThunkFor transfer_way m layout starts number readings) (sym (ap (λ w. transfer_way.thunk w number) (behind starts readings)))
          (fits number readings led (wanted_in readings None none) (sym (ap transfer_way.refused (behind starts readings)) ∙ on));
      few = omega arith;
    }
