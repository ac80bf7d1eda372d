-- What follows from the facts of a line.
use Rattle.std.proofs.Common.{◌≡◌, ◌≢◌, ℕ, zero, suc, ◌<◌, Bool, true, false, refl, sym, ap, ◌∙◌, subst, ⊎_elim, arith}
use Rattle.std.proofs.lemmas.Bool.{cases_lt}
use Rattle.section_lines.specs.structure_laws.specs.body_terms.specs.Line.{is_commit, is_event}
use Rattle.std.specs.Prelude.{◌==◌, ◌&&◌, ◌||◌, ◌^◌, not}
use Rattle.section_lines.specs.structure_laws.specs.body_terms.specs.Word.{is_free, is_spent, held_word, next_word, version_of, value_of}
use Rattle.section_lines.specs.structure_laws.specs.body_terms.specs.declared.micro.Source.{Source}
use Rattle.section_lines.specs.structure_laws.specs.body_terms.specs.declared.micro.Source.TheVariants.{Fixed, Agreed}
use Rattle.section_lines.specs.structure_laws.specs.body_terms.specs.declared.micro.Micro.{Micro}
use Rattle.section_lines.specs.structure_laws.specs.body_terms.specs.declared.micro.Micro.TheVariants as micros
use Rattle.section_lines.specs.Line.{phase, IsLine, IsWholeLine, is_clock_raise}
use Rattle.agreement_core.specs.State.{CellRules}
use Rattle.agreement_core.specs.Checks.{passes, is_stop, source_in, stored_word, is_stamp_exchange}
use Rattle.agreement_core.proofs.Words.{value_small, version_next}

-- a step on the shared words is no stop
pub event_goes : (c : CellRules) (d : ℕ) (log : ℕ → ℕ) (micro : Micro) → is_event micro ≡ true → is_stop c d log micro ≡ false
event_goes c d log micro event = grind arith

-- a check that passes is no stop
pub pass_goes : (c : CellRules) (d : ℕ) (log : ℕ → ℕ) (micro : Micro) → passes c d log micro ≡ true → is_stop c d log micro ≡ false
pass_goes c d log micro pass = grind arith

not_both : (a b : Bool) → a ≡ b → a ≡ true → b ≡ false → ⊥
not_both a b e x y = grind arith

raise_is : (m : Micro) → is_clock_raise m ≡ true → m ≡ micros.ClockRaise
raise_is micros.ClockRaise h = refl
raise_is m h = grind arith

stamp_is : (m : Micro) → is_stamp_exchange m ≡ true → m ≡ micros.StampExchange
stamp_is micros.StampExchange h = refl
stamp_is m h = grind arith

module _ (c : CellRules) (lock : ℕ) (code : ℕ → Micro) (slot : ℕ → ℕ) (line : IsLine c.is_lock c.version_max lock code slot) where
  -- the steps of a Take before its outcome's commit
  pub hold_of_outcome : (i p k : ℕ) → code i ≡ micros.OutcomeCommit p k → (j w : ℕ) × (i ≡ suc (suc j)) × (code j ≡ micros.NestedHold p w)
  hold_of_outcome i p k e =
      let a = line.ordered.outcome_before i p k e in
      let b = line.ordered.outcome_load_before a.0 p k a.2 in
      (b.0, b.1, a.1 ∙ ap suc b.2, b.3)

  -- the load of a Take before its exchange
  pub load_of_hold : (i p w : ℕ) → code i ≡ micros.NestedHold p w
      → (j k : ℕ) × (i ≡ suc (suc (suc j))) × (code j ≡ micros.NestedLoad p k) × (code (suc j) ≡ micros.NestedCommit p k) ×
      (code (suc (suc j)) ≡ micros.CheckFree p k w)
  load_of_hold i p w e =
      let a = line.ordered.hold_before i p w e in
      let b = line.ordered.free_before a.0 p a.1 w a.3 in
      let n = line.ordered.nested_before b.0 p a.1 b.2 in (
        n.0,
        a.1,
        a.2 ∙ ap suc (b.1 ∙ ap suc n.1),
        n.2,
        subst (λ x. code x ≡ micros.NestedCommit p a.1) n.1 b.2,
        subst
            (λ x. code x ≡ micros.CheckFree p a.1 w) (b.1 ∙ ap suc n.1) a.3,
      )

  pub hold_lock : (i p w : ℕ) → code i ≡ micros.NestedHold p w → c.is_lock p ≡ true
  hold_lock i p w e = let a = load_of_hold i p w e in line.placed.take_lock a.0 p a.1 a.3

  pub outcome_lock : (i p k : ℕ) → code i ≡ micros.OutcomeCommit p k → c.is_lock p ≡ true
  outcome_lock i p k e = let a = hold_of_outcome i p k e in hold_lock a.0 p a.1 a.3

  pub hold_inner : (i p w : ℕ) → code i ≡ micros.NestedHold p w → p ≢ lock
  hold_inner i p w e = let a = load_of_hold i p w e in line.placed.take_inner a.0 p a.1 a.3

  pub hold_once : (i j p w w' : ℕ) → code i ≡ micros.NestedHold p w → code j ≡ micros.NestedHold p w' → i ≡ j
  hold_once i j p w w' e e' =
      let a = load_of_hold i p w e in
      let b = load_of_hold j p w' e' in
      a.2 ∙ ap (λ x. suc (suc (suc x))) (line.placed.take_once a.0 b.0 p a.1 b.1 a.3 b.3) ∙ sym b.2

  pub hold_free : (i p w : ℕ) → code i ≡ micros.NestedHold p w → is_free w ≡ true
  hold_free i p w e = let a = load_of_hold i p w e in line.placed.take_free (suc (suc a.0)) p a.1 w a.5

  pub hold_unspent : (i p w : ℕ) → code i ≡ micros.NestedHold p w → is_spent c.version_max w ≡ false
  hold_unspent i p w e = let a = load_of_hold i p w e in line.placed.take_unspent (suc (suc a.0)) p a.1 w a.5

  -- a loaded cell is no lock
  pub commit_unlocked : (i p k : ℕ) → code i ≡ micros.Commit p k → c.is_lock p ≡ false
  commit_unlocked i p k e = let a = line.ordered.commit_before i p k e in line.placed.load_unlocked a.0 p k a.2

  pub exchange_unlocked : (i p k : ℕ) (v : Source) → code i ≡ micros.ExchangeCell p k v → c.is_lock p ≡ false
  exchange_unlocked i p k v e = let a = line.resolved.store_loaded i p k v e in commit_unlocked a.0 p k a.2

  -- each commit of a cell stands before each store
  pub commit_first : (i j p k p' k' : ℕ) (v : Source) → code i ≡ micros.ExchangeCell p k v → code j ≡ micros.Commit p' k' → j < i
  commit_first i j p k p' k' v e e' =
      ⊎_elim (λ lt. lt) (λ le. absurd (let h = line.in_phases.phases i j le in let a : phase (code i) ≡ 4 = ap phase e in
      let b : phase (code j) ≡ 1 = ap phase e' in omega arith)) (cases_lt j i)

  -- an agreed word's place in the log is below the number of words that are committed later
  pub logged : (i j p k : ℕ) → code j ≡ micros.Commit p k → j < i → k < slot i
  logged i j p k e lt =
      let a = line.counted.commit_log j p k e in
      let b = line.counted.slot_commit j (ap is_commit e) in
      let r = line.counted.slot_rises (suc j) i lt in
      omega arith

  pub nested_logged : (i j p k : ℕ) → code j ≡ micros.NestedCommit p k → j < i → k < slot i
  nested_logged i j p k e lt =
      let a = line.counted.nested_log j p k e in
      let b = line.counted.slot_commit j (ap is_commit e) in
      let r = line.counted.slot_rises (suc j) i lt in
      omega arith

  pub outcome_logged : (i j p k : ℕ) → code j ≡ micros.OutcomeCommit p k → j < i → k < slot i
  outcome_logged i j p k e lt =
      let a = line.counted.outcome_log j p k e in
      let b = line.counted.slot_commit j (ap is_commit e) in
      let r = line.counted.slot_rises (suc j) i lt in
      omega arith

  pub retire_logged : (i j t k : ℕ) → code j ≡ micros.RetireCommit t k → j < i → k < slot i
  retire_logged i j t k e lt =
      let a = line.counted.retire_log j t k e in
      let b = line.counted.slot_commit j (ap is_commit e) in
      let r = line.counted.slot_rises (suc j) i lt in
      omega arith

  pub free_logged : (i p k w : ℕ) → code i ≡ micros.CheckFree p k w → k < slot i
  free_logged i p k w e = let a = line.ordered.free_before i p k w e in nested_logged i a.0 p k a.2 (omega arith)

  pub held_logged : (i p k w : ℕ) → code i ≡ micros.CheckHeld p k w → k < slot i
  held_logged i p k w e = let a = line.ordered.held_before i p k w e in outcome_logged i (suc (suc a.0)) p k a.3 (omega arith)

  pub word_logged : (i p k w : ℕ) → code i ≡ micros.CheckWord p k w → k < slot i
  word_logged i p k w e = let a = line.resolved.word_loaded i p k w e in logged i a.0 p k a.2 a.1

  pub fresh_logged : (i p k : ℕ) → code i ≡ micros.CheckFresh p k → k < slot i
  fresh_logged i p k e = let a = line.resolved.fresh_loaded i p k e in logged i a.0 p k a.2 a.1

  pub store_logged : (i p k : ℕ) (v : Source) → code i ≡ micros.ExchangeCell p k v → k < slot i
  store_logged i p k v e = let a = line.resolved.store_loaded i p k v e in logged i a.0 p k a.2 a.1

  -- a check goes by words that were committed before it
  passes_with : (d i : ℕ) (f g : ℕ → ℕ) → ((k : ℕ) → k < slot i → f k ≡ g k) → (m : Micro) → code i ≡ m → passes c d f m ≡ passes c d g m
  passes_with d i f g same (micros.CheckWord p k w) e = ap (λ x. x == w) (same k (word_logged i p k w e))
  passes_with d i f g same (micros.CheckFresh p k) e = ap (λ x. not (version_of x == c.version_max)) (same k (fresh_logged i p k e))
  passes_with d i f g same (micros.CheckFree p k w) e = ap
      (λ x. x == w && (is_free w && not (is_spent c.version_max w))) (same k (free_logged i p k w e))
  passes_with d i f g same (micros.CheckHeld p k w) e = ap (λ x. x == held_word d w) (same k (held_logged i p k w e))
  passes_with d i f g same m e = refl

  pub passes_same : (d i : ℕ) (f g : ℕ → ℕ) → ((k : ℕ) → k < slot i → f k ≡ g k) → passes c d f (code i) ≡ passes c d g (code i)
  passes_same d i f g same = passes_with d i f g same (code i) refl

  pub stop_same : (d i : ℕ) (f g : ℕ → ℕ) → ((k : ℕ) → k < slot i → f k ≡ g k) → is_stop c d f (code i) ≡ is_stop c d g (code i)
  stop_same d i f g same = ap (λ b. not (is_event (code i) || b)) (passes_same d i f g same)

  source_with : (i : ℕ) (f g : ℕ → ℕ) (v : Source) → ((k : ℕ) → k < slot i → f k ≡ g k) → ((k : ℕ) → v ≡ Agreed k → k < slot i)
      → source_in f v ≡ source_in g v
  source_with i f g (Fixed n) same within = refl
  source_with i f g (Agreed k) same within = ap value_of (same k (within k refl))

  -- a store's word goes by words that were committed before it
  pub stored_same : (i p k : ℕ) (v : Source) (f g : ℕ → ℕ) → code i ≡ micros.ExchangeCell p k v → ((k : ℕ) → k < slot i → f k ≡ g k)
      → stored_word f k v ≡ stored_word g k v
  stored_same i p k v f g e same =
      ap (λ x. next_word x (source_in f v)) (same k (store_logged i p k v e)) ∙ ap
      (λ y. next_word (g k) y) (source_with i f g v same (line.resolved.store_source i p k v e))

  -- what a store writes is a value
  value_of_source : (f : ℕ → ℕ) (v : Source) → ((n : ℕ) → v ≡ Fixed n → n < 2 ^ 32) → source_in f v < 2 ^ 32
  value_of_source f (Fixed n) small = small n refl
  value_of_source f (Agreed k) small = value_small (f k)

  pub source_small : IsWholeLine code → (i p k : ℕ) (v : Source) (f : ℕ → ℕ) → code i ≡ micros.ExchangeCell p k v → source_in f v < 2 ^ 32
  source_small whole i p k v f e = value_of_source f v (λ n q. whole.store_value i p k n (e ∙ ap (micros.ExchangeCell p k) q))

  pub version_stored : IsWholeLine code → (i p k : ℕ) (v : Source) (f : ℕ → ℕ) → code i ≡ micros.ExchangeCell p k v
      → version_of (stored_word f k v) ≡ suc (version_of (f k))
  version_stored whole i p k v f e = version_next (f k) (source_in f v) (source_small whole i p k v f e)

  -- a raise of the clock follows the exchange of the stamp word
  pub stamp_of_raise : IsWholeLine code → (i : ℕ) → is_clock_raise (code i) ≡ true
      → (j : ℕ) × (i ≡ suc j) × (is_stamp_exchange (code j) ≡ true)
  stamp_of_raise whole zero e = absurd (not_both _ _ refl e whole.start_raise)
  stamp_of_raise whole (suc j) e = (j, refl, ap is_stamp_exchange (line.ordered.raise_before j (suc j) (raise_is _ e) refl))

  -- the step before one that goes by a number
  pub load_of_commit : (n p k : ℕ) → code (suc n) ≡ micros.Commit p k → code n ≡ micros.LoadCell p k
  load_of_commit n p k e = let j = line.ordered.commit_before (suc n) p k e in
      subst (λ i. code i ≡ micros.LoadCell p k) (let q = j.1 in omega arith) j.2

  pub load_of_nested : (n p k : ℕ) → code (suc n) ≡ micros.NestedCommit p k → code n ≡ micros.NestedLoad p k
  load_of_nested n p k e = let j = line.ordered.nested_before (suc n) p k e in
      subst (λ i. code i ≡ micros.NestedLoad p k) (let q = j.1 in omega arith) j.2

  pub load_of_outcome : (n p k : ℕ) → code (suc n) ≡ micros.OutcomeCommit p k → code n ≡ micros.OutcomeLoad p k
  load_of_outcome n p k e = let j = line.ordered.outcome_before (suc n) p k e in
      subst (λ i. code i ≡ micros.OutcomeLoad p k) (let q = j.1 in omega arith) j.2

  pub clock_of_stamp : (n : ℕ) → is_stamp_exchange (code (suc n)) ≡ true → code n ≡ micros.ClockLoad
  clock_of_stamp n e = line.ordered.stamp_before n (suc n) (stamp_is _ e) refl

  pub exchange_of_raise : (n : ℕ) → is_clock_raise (code (suc n)) ≡ true → code n ≡ micros.StampExchange
  exchange_of_raise n e = line.ordered.raise_before n (suc n) (raise_is _ e) refl

  -- no line begins with a commit of a loaded word, or with a raise of the clock
  pub start_commit : (p k : ℕ) → code 0 ≢ micros.Commit p k
  start_commit p k e = let j = line.ordered.commit_before 0 p k e in let q = j.1 in omega arith

  pub start_nested : (p k : ℕ) → code 0 ≢ micros.NestedCommit p k
  start_nested p k e = let j = line.ordered.nested_before 0 p k e in let q = j.1 in omega arith

  pub start_outcome : (p k : ℕ) → code 0 ≢ micros.OutcomeCommit p k
  start_outcome p k e = let j = line.ordered.outcome_before 0 p k e in let q = j.1 in omega arith

  -- the Take whose outcome was found to be held
  pub hold_of_held : (i p k w : ℕ) → code i ≡ micros.CheckHeld p k w → (j : ℕ) × (code j ≡ micros.NestedHold p w)
  hold_of_held i p k w e = let j = line.ordered.held_before i p k w e in (j.0, j.2)

  -- the steps behind the exchange of a Take
  pub after_hold : IsWholeLine code → (i p w : ℕ) → code i ≡ micros.NestedHold p w
      → (k : ℕ) × (is_event (code (suc i)) ≡ true) × (code (suc (suc i)) ≡ micros.OutcomeCommit p k) ×
      (code (suc (suc (suc i))) ≡ micros.CheckHeld p k w)
  after_hold whole i p w e =
      let load = line.ordered.hold_next i p w e in
      let check = whole.outcome_check i p w e in
      let j = line.ordered.held_before (suc (suc (suc i))) p check.0 w check.1 in (
        check.0,
        ap is_event load.1,
        subst (λ n. code (suc (suc n)) ≡ micros.OutcomeCommit p check.0) (let q = j.1 in omega arith) j.3,
        check.1,
      )
