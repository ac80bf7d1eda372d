-- What the core relies on in the line of atomic steps of a published section's body.
use Rattle.std.specs.Prelude.{ℕ, suc, ◌<◌, ◌≤◌, ◌^◌, ◌≡◌, ◌≢◌, Bool, true, false}
use Rattle.structure_laws.specs.body_terms.specs.Line.{is_check, is_commit}
use Rattle.structure_laws.specs.body_terms.specs.Word.{is_free, is_spent}
use Rattle.structure_laws.specs.body_terms.specs.declared.micro.Source.TheVariants.{Fixed, Agreed}
use Rattle.structure_laws.specs.body_terms.specs.declared.micro.Source.{Source}
use Rattle.structure_laws.specs.body_terms.specs.declared.micro.Micro.{Micro}
use Rattle.structure_laws.specs.body_terms.specs.declared.micro.Micro.TheVariants.{LoadCell, Commit, CheckWord, CheckFresh, NestedLoad, NestedCommit, CheckFree, NestedHold, OutcomeLoad, OutcomeCommit, CheckHeld, PrivateLoad, PrivateStore, MakeCommit, ClockLoad, StampExchange, ClockRaise, ExchangeCell, EpochForRetire, RetireCommit, ReplyExchange, End, SetDone, Release}

-- the phase of an atomic step, that of the body's step to which it belongs; the end has the last one
abbrev pub phase : Micro → ℕ
phase (LoadCell place log) = 1
phase (Commit place log) = 1
phase (CheckWord place log word) = 1
phase (CheckFresh place log) = 1
phase (NestedLoad place log) = 1
phase (NestedCommit place log) = 1
phase (CheckFree place log word) = 1
phase (NestedHold place word) = 1
phase (OutcomeLoad place log) = 1
phase (OutcomeCommit place log) = 1
phase (CheckHeld place log word) = 1
phase (PrivateLoad cell log) = 2
phase (PrivateStore cell log value) = 2
phase (MakeCommit log) = 2
phase ClockLoad = 3
phase StampExchange = 3
phase ClockRaise = 3
phase (ExchangeCell place log value) = 4
phase (EpochForRetire slot log) = 5
phase (RetireCommit slot log) = 5
phase (ReplyExchange reply) = 6
phase End = 7
phase SetDone = 8
phase (Release place word) = 8

-- the raise of the clock
abbrev pub is_clock_raise : Micro → Bool
is_clock_raise ClockRaise = true
is_clock_raise _ = false

-- the line is a function of the place
module _ (code : ℕ → Micro) where
  -- how long it is, and that its phases never fall
  pub record IsInPhases : Type 0 where
    pub length : ℕ
    pub short : length < 440
    pub inside : (i : ℕ) → i < length → phase (code i) < 7
    pub outside : (i : ℕ) → length ≤ i → code i ≡ End
    pub phases : (i j : ℕ) → i ≤ j → phase (code i) ≤ phase (code j)
    -- it doesn't begin with a check
    pub start : is_check (code 0) ≡ false

  -- which steps stand next to one another
  pub record IsOrdered : Type 0 where
    -- a Load is a load and a commit
    pub load_next : (i p k : ℕ) → code i ≡ LoadCell p k → code (suc i) ≡ Commit p k
    pub commit_before : (i p k : ℕ) → code i ≡ Commit p k → (j : ℕ) × (i ≡ suc j) × (code j ≡ LoadCell p k)
    -- a Take is a load, a commit, a check, an exchange, a load, a commit and a check
    pub nested_next : (i p k : ℕ) → code i ≡ NestedLoad p k → code (suc i) ≡ NestedCommit p k
    pub nested_before : (i p k : ℕ) → code i ≡ NestedCommit p k → (j : ℕ) × (i ≡ suc j) × (code j ≡ NestedLoad p k)
    pub free_before : (i p k w : ℕ) → code i ≡ CheckFree p k w → (j : ℕ) × (i ≡ suc j) × (code j ≡ NestedCommit p k)
    pub hold_next : (i p w : ℕ) → code i ≡ NestedHold p w → (k : ℕ) × (code (suc i) ≡ OutcomeLoad p k)
    pub hold_before : (i p w : ℕ) → code i ≡ NestedHold p w → (j k : ℕ) × (i ≡ suc j) × (code j ≡ CheckFree p k w)
    pub outcome_next : (i p k : ℕ) → code i ≡ OutcomeLoad p k → code (suc i) ≡ OutcomeCommit p k
    pub outcome_load_before : (i p k : ℕ) → code i ≡ OutcomeLoad p k
        → (j w : ℕ) × (i ≡ suc j) × (code j ≡ NestedHold p w)
    pub outcome_before : (i p k : ℕ) → code i ≡ OutcomeCommit p k → (j : ℕ) × (i ≡ suc j) × (code j ≡ OutcomeLoad p k)
    pub held_before : (i p k w : ℕ) → code i ≡ CheckHeld p k w
        → (j : ℕ) × (i ≡ suc (suc (suc j))) × (code j ≡ NestedHold p w) × (code (suc (suc j)) ≡ OutcomeCommit p k)
    -- a Make ends with a commit, right after a private store; a private store stands right after the load of its cell
    pub make_before : (i k : ℕ) → code i ≡ MakeCommit k
        → (j : ℕ) × (v : Source) × (i ≡ suc j) × (code j ≡ PrivateStore 4 k v)
    pub fill_before : (i c k : ℕ) (v : Source) → code i ≡ PrivateStore c k v
        → (j : ℕ) × (i ≡ suc j) × (code j ≡ PrivateLoad c k)
    pub fill_next : (i c k : ℕ) → code i ≡ PrivateLoad c k → (v : Source) × (code (suc i) ≡ PrivateStore c k v)
    pub refill_before : (i c k : ℕ) → code i ≡ PrivateLoad (suc c) k
        → (j : ℕ) × (v : Source) × (i ≡ suc j) × (code j ≡ PrivateStore c k v)
    -- the Stamp is a load of the clock, an exchange and a raise
    pub clock_next : (i m : ℕ) → code i ≡ ClockLoad → m ≡ suc i → code m ≡ StampExchange
    pub stamp_before : (i m : ℕ) → code m ≡ StampExchange → m ≡ suc i → code i ≡ ClockLoad
    pub stamp_next : (i m : ℕ) → code i ≡ StampExchange → m ≡ suc i → code m ≡ ClockRaise
    pub raise_before : (i m : ℕ) → code m ≡ ClockRaise → m ≡ suc i → code i ≡ StampExchange
    -- a Retire is a load of the epoch and a commit
    pub retire_next : (i s k : ℕ) → code i ≡ EpochForRetire s k → code (suc i) ≡ RetireCommit s k
    pub retire_before : (i s k : ℕ) → code i ≡ RetireCommit s k → (j : ℕ) × (i ≡ suc j) × (code j ≡ EpochForRetire s k)

  -- a Load before this place agrees on the word at this place of the log
  abbrev pub LoadedBefore : ℕ → ℕ → ℕ → Type 0
  LoadedBefore i p k = (j : ℕ) × (j < i) × (code j ≡ Commit p k)

  -- one Stamp and one Answer
  pub record IsStamped : Type 0 where
    pub stamp : ℕ
    pub stamps : code stamp ≡ StampExchange
    pub stamp_once : (i : ℕ) → code i ≡ StampExchange → i ≡ stamp
    pub answer : ℕ
    pub reply : ℕ
    pub answers : code answer ≡ ReplyExchange reply
    pub answer_once : (i n : ℕ) → code i ≡ ReplyExchange n → i ≡ answer
    pub replies : reply ≢ 0

-- `slot` gives how many words the steps below a place commit
module _ (code : ℕ → Micro) (slot : ℕ → ℕ) where
  -- commits, and the places in the log
  pub record IsCounted : Type 0 where
    pub slot_start : slot 0 ≡ 0
    pub slot_commit : (i : ℕ) → is_commit (code i) ≡ true → slot (suc i) ≡ suc (slot i)
    pub slot_same : (i : ℕ) → is_commit (code i) ≡ false → slot (suc i) ≡ slot i
    pub slot_rises : (i j : ℕ) → i ≤ j → slot i ≤ slot j
    pub slot_most : (i : ℕ) → slot i ≤ 64
    -- a commit's place in the log is the number of words committed before it
    pub commit_log : (i p k : ℕ) → code i ≡ Commit p k → k ≡ slot i
    pub nested_log : (i p k : ℕ) → code i ≡ NestedCommit p k → k ≡ slot i
    pub outcome_log : (i p k : ℕ) → code i ≡ OutcomeCommit p k → k ≡ slot i
    pub make_log : (i k : ℕ) → code i ≡ MakeCommit k → k ≡ slot i
    pub retire_log : (i s k : ℕ) → code i ≡ RetireCommit s k → k ≡ slot i

  -- what a store writes is a number, or the value of a word agreed before
  abbrev pub IsSourceBefore : ℕ → Source → Type 0
  IsSourceBefore i v = (k : ℕ) → v ≡ Agreed k → k < slot i

  -- what the steps go by
  pub record IsResolved : Type 0 where
    pub word_loaded : (i p k w : ℕ) → code i ≡ CheckWord p k w → LoadedBefore code i p k
    pub fresh_loaded : (i p k : ℕ) → code i ≡ CheckFresh p k → LoadedBefore code i p k
    pub store_loaded : (i p k : ℕ) (v : Source) → code i ≡ ExchangeCell p k v → LoadedBefore code i p k
    pub store_fresh : (i p k : ℕ) (v : Source) → code i ≡ ExchangeCell p k v
        → (j : ℕ) × (j < i) × (code j ≡ CheckFresh p k)
    pub store_source : (i p k : ℕ) (v : Source) → code i ≡ ExchangeCell p k v → IsSourceBefore i v
    pub fill_source : (i c k : ℕ) (v : Source) → code i ≡ PrivateStore c k v → IsSourceBefore i v

-- `lock` is the section's outer lock
module _ (is_lock : ℕ → Bool) (version_max lock : ℕ) (code : ℕ → Micro) where
  -- the places of its cells and locks
  pub record IsPlaced : Type 0 where
    pub outer_lock : is_lock lock ≡ true
    pub load_unlocked : (i p k : ℕ) → code i ≡ LoadCell p k → is_lock p ≡ false
    pub take_lock : (i p k : ℕ) → code i ≡ NestedLoad p k → is_lock p ≡ true
    pub take_inner : (i p k : ℕ) → code i ≡ NestedLoad p k → p ≢ lock
    pub take_free : (i p k w : ℕ) → code i ≡ CheckFree p k w → is_free w ≡ true
    pub take_unspent : (i p k w : ℕ) → code i ≡ CheckFree p k w → is_spent version_max w ≡ false
    -- no place is loaded twice, taken twice, or stored to twice
    pub load_once : (i j p k k' : ℕ) → code i ≡ LoadCell p k → code j ≡ LoadCell p k' → i ≡ j
    pub take_once : (i j p k k' : ℕ) → code i ≡ NestedLoad p k → code j ≡ NestedLoad p k' → i ≡ j
    pub store_once : (i j p k k' : ℕ) (v v' : Source) → code i ≡ ExchangeCell p k v
        → code j ≡ ExchangeCell p k' v' → i ≡ j

-- the fixed numbers that a line stores have 32 bits, a Take's outcome is followed by its check, and it
-- doesn't begin with a raise of the clock
pub record IsWholeLine (code : ℕ → Micro) : Type 0 where
  pub store_value : (i place log number : ℕ) → code i ≡ ExchangeCell place log (Fixed number) → number < 2 ^ 32
  pub outcome_check : (i place word : ℕ) → code i ≡ NestedHold place word
      → (log : ℕ) × (code (suc (suc (suc i))) ≡ CheckHeld place log word)
  pub start_raise : is_clock_raise (code 0) ≡ false

-- the line of a section whose thunk has the shape
pub record IsLine (is_lock : ℕ → Bool) (version_max lock : ℕ) (code : ℕ → Micro) (slot : ℕ → ℕ) : Type 0 where
  pub in_phases : IsInPhases code
  pub counted : IsCounted code slot
  pub ordered : IsOrdered code
  pub resolved : IsResolved code slot
  pub placed : IsPlaced is_lock version_max lock code
  pub stamped : IsStamped code
