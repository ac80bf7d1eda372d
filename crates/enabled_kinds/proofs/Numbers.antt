-- Kinds by their numbers.
use Rattle.std.specs.Prelude.{Bool, Option, Some, None}
use Rattle.machine_states.specs.epoch_core.specs.small_lemmas.proofs.Lists.{none_not_some as absent, some_not_none as present, some_the_same as the_same}
use Rattle.machine_states.specs.body_terms.specs.declared.thunk.Thunk.{Thunk}
use Rattle.std.proofs.Common.{◌≡◌, ◌≢◌, ◌<◌, ℕ, refl, arith}
use Rattle.machine_states.specs.runner_parts.specs.declared.event.EventKind.{EventKind}
use Rattle.machine_states.specs.runner_parts.specs.declared.event.EventKind.TheVariants as kinds
use Rattle.enabled_kinds.specs.Kinds.{kind_number, plain_kind, IsGiven}

-- a kind whose events carry no argument has one event
pub plain_only : (k k' : EventKind) → plain_kind (kind_number k) ≡ Some k' → k ≡ k'
plain_only kinds.EnterLoad k' e = the_same kinds.EnterLoad k' e
plain_only kinds.Announce k' e = the_same kinds.Announce k' e
plain_only kinds.EnterAgain k' e = the_same kinds.EnterAgain k' e
plain_only kinds.Idle k' e = the_same kinds.Idle k' e
plain_only kinds.ScanEpoch k' e = the_same kinds.ScanEpoch k' e
plain_only (kinds.ScanOne n) k' e = absurd (absent k' e)
plain_only kinds.Advance k' e = the_same kinds.Advance k' e
plain_only kinds.Split k' e = the_same kinds.Split k' e
plain_only kinds.Commit k' e = the_same kinds.Commit k' e
plain_only (kinds.LoadCell place) k' e = absurd (absent k' e)
plain_only kinds.ExchangeCell k' e = the_same kinds.ExchangeCell k' e
plain_only (kinds.PrivateLoad slot word) k' e = absurd (absent k' e)
plain_only (kinds.PrivateStore slot word number) k' e = absurd (absent k' e)
plain_only kinds.MakeCommit k' e = the_same kinds.MakeCommit k' e
plain_only kinds.RetireCommit k' e = the_same kinds.RetireCommit k' e
plain_only kinds.EpochForRetire k' e = the_same kinds.EpochForRetire k' e
plain_only (kinds.LoadThunk d) k' e = absurd (absent k' e)
plain_only kinds.LoadDone k' e = the_same kinds.LoadDone k' e
plain_only (kinds.Hold thunk d) k' e = absurd (absent k' e)
plain_only kinds.SetDone k' e = the_same kinds.SetDone k' e
plain_only kinds.Release k' e = the_same kinds.Release k' e
plain_only kinds.ClockLoad k' e = absurd (absent k' e)
plain_only (kinds.ReadPlan thunk) k' e = absurd (absent k' e)
plain_only kinds.ReadClock k' e = absurd (absent k' e)
plain_only (kinds.LinkCommit b) k' e = absurd (absent k' e)
plain_only (kinds.BoardLoad word) k' e = absurd (absent k' e)
plain_only (kinds.BoardTake word link) k' e = absurd (absent k' e)
plain_only (kinds.BoardGive word slot) k' e = absurd (absent k' e)
plain_only (kinds.Guard d) k' e = absurd (absent k' e)
plain_only (kinds.LoadGuard n) k' e = absurd (absent k' e)
plain_only kinds.StampExchange k' e = the_same kinds.StampExchange k' e
plain_only kinds.ClockRaise k' e = the_same kinds.ClockRaise k' e
plain_only kinds.ReplyExchange k' e = the_same kinds.ReplyExchange k' e
plain_only (kinds.Join worker) k' e = absurd (absent k' e)
plain_only (kinds.LoadEntry request reply) k' e = absurd (absent k' e)
plain_only kinds.NestedLoad k' e = the_same kinds.NestedLoad k' e
plain_only kinds.NestedHold k' e = the_same kinds.NestedHold k' e
plain_only kinds.OutcomeLoad k' e = the_same kinds.OutcomeLoad k' e
plain_only kinds.OutcomeCommit k' e = the_same kinds.OutcomeCommit k' e
plain_only kinds.ReadReply k' e = the_same kinds.ReadReply k' e
plain_only kinds.ReadStamp k' e = the_same kinds.ReadStamp k' e

-- the kinds whose events carry arguments have these numbers
pub argued : (k : EventKind) → plain_kind (kind_number k) ≡ None → kind_number k ≢ 5 → kind_number k ≢ 9 → kind_number k ≢ 11 → kind_number k ≢ 12 → kind_number k ≢ 16 → kind_number k ≢ 18 → kind_number k ≢ 21 → kind_number k ≢ 25 → kind_number k ≢ 26 → kind_number k ≢ 31 → kind_number k ≢ 32 → kind_number k ≢ 33 → kind_number k ≢ 34 → kind_number k ≢ 37 → kind_number k ≢ 38 → kind_number k ≢ 39 → ⊥
argued (kinds.ScanOne n) e n5 n9 n11 n12 n16 n18 n21 n25 n26 n31 n32 n33 n34 n37 n38 n39 = n5 refl
argued (kinds.LoadCell place) e n5 n9 n11 n12 n16 n18 n21 n25 n26 n31 n32 n33 n34 n37 n38 n39 = n9 refl
argued (kinds.PrivateLoad slot word) e n5 n9 n11 n12 n16 n18 n21 n25 n26 n31 n32 n33 n34 n37 n38 n39 = n11 refl
argued (kinds.PrivateStore slot word number) e n5 n9 n11 n12 n16 n18 n21 n25 n26 n31 n32 n33 n34 n37 n38 n39 = n12 refl
argued (kinds.LoadThunk d) e n5 n9 n11 n12 n16 n18 n21 n25 n26 n31 n32 n33 n34 n37 n38 n39 = n16 refl
argued (kinds.Hold thunk d) e n5 n9 n11 n12 n16 n18 n21 n25 n26 n31 n32 n33 n34 n37 n38 n39 = n18 refl
argued kinds.ClockLoad e n5 n9 n11 n12 n16 n18 n21 n25 n26 n31 n32 n33 n34 n37 n38 n39 = n21 refl
argued kinds.ReadClock e n5 n9 n11 n12 n16 n18 n21 n25 n26 n31 n32 n33 n34 n37 n38 n39 = n21 refl
argued (kinds.Join worker) e n5 n9 n11 n12 n16 n18 n21 n25 n26 n31 n32 n33 n34 n37 n38 n39 = n25 refl
argued (kinds.LoadEntry request reply) e n5 n9 n11 n12 n16 n18 n21 n25 n26 n31 n32 n33 n34 n37 n38 n39 = n26 refl
argued (kinds.ReadPlan thunk) e n5 n9 n11 n12 n16 n18 n21 n25 n26 n31 n32 n33 n34 n37 n38 n39 = n39 refl
argued (kinds.Guard d) e n5 n9 n11 n12 n16 n18 n21 n25 n26 n31 n32 n33 n34 n37 n38 n39 = n37 refl
argued (kinds.LoadGuard n) e n5 n9 n11 n12 n16 n18 n21 n25 n26 n31 n32 n33 n34 n37 n38 n39 = n38 refl
argued (kinds.LinkCommit b) e n5 n9 n11 n12 n16 n18 n21 n25 n26 n31 n32 n33 n34 n37 n38 n39 = n31 refl
argued (kinds.BoardLoad word) e n5 n9 n11 n12 n16 n18 n21 n25 n26 n31 n32 n33 n34 n37 n38 n39 = n32 refl
argued (kinds.BoardTake word link) e n5 n9 n11 n12 n16 n18 n21 n25 n26 n31 n32 n33 n34 n37 n38 n39 = n33 refl
argued (kinds.BoardGive word slot) e n5 n9 n11 n12 n16 n18 n21 n25 n26 n31 n32 n33 n34 n37 n38 n39 = n34 refl
argued _ e n5 n9 n11 n12 n16 n18 n21 n25 n26 n31 n32 n33 n34 n37 n38 n39 = absurd (present _ e)

pub given_plain : (k k' : EventKind) → plain_kind (kind_number k) ≡ Some k' → IsGiven k
given_plain (kinds.Hold thunk d) k' e = absurd (absent k' e)
given_plain (kinds.ReadPlan thunk) k' e = absurd (absent k' e)
given_plain _ k' e = tt

-- an event of a kind by its number
module _ (P : EventKind → Type 0) where
  pub only_scan : ((n : ℕ) → P (kinds.ScanOne n)) → (k : EventKind) → kind_number k ≡ 5 → P k
  only_scan each (kinds.ScanOne n) e = each n
  only_scan each _ e = absurd (omega (arith, e))

  pub only_cell : ((place : Option ℕ) → P (kinds.LoadCell place)) → (k : EventKind) → kind_number k ≡ 9 → P k
  only_cell each (kinds.LoadCell place) e = each place
  only_cell each _ e = absurd (omega (arith, e))

  pub only_private_load : ((slot word : ℕ) → P (kinds.PrivateLoad slot word)) → (k : EventKind) → kind_number k ≡ 11 → P k
  only_private_load each (kinds.PrivateLoad slot word) e = each slot word
  only_private_load each _ e = absurd (omega (arith, e))

  pub only_private_store : ((slot word number : ℕ) → P (kinds.PrivateStore slot word number)) → (k : EventKind) → kind_number k ≡ 12 → P k
  only_private_store each (kinds.PrivateStore slot word number) e = each slot word number
  only_private_store each _ e = absurd (omega (arith, e))

  pub only_thunk : ((d : Option ℕ) → P (kinds.LoadThunk d)) → (k : EventKind) → kind_number k ≡ 16 → P k
  only_thunk each (kinds.LoadThunk d) e = each d
  only_thunk each _ e = absurd (omega (arith, e))

  pub only_hold : ((thunk : Thunk) (d : ℕ) → P (kinds.Hold thunk d)) → (k : EventKind) → kind_number k ≡ 18 → P k
  only_hold each (kinds.Hold thunk d) e = each thunk d
  only_hold each _ e = absurd (omega (arith, e))

  pub only_clock : P kinds.ClockLoad → P kinds.ReadClock → (k : EventKind) → kind_number k ≡ 21 → P k
  only_clock inside outside kinds.ClockLoad e = inside
  only_clock inside outside kinds.ReadClock e = outside
  only_clock inside outside _ e = absurd (omega (arith, e))

  pub only_link : ((b : ℕ) → P (kinds.LinkCommit b)) → (k : EventKind) → kind_number k ≡ 31 → P k
  only_link each (kinds.LinkCommit b) e = each b
  only_link each _ e = absurd (omega (arith, e))

  pub only_board_load : ((word : ℕ) → P (kinds.BoardLoad word)) → (k : EventKind) → kind_number k ≡ 32 → P k
  only_board_load each (kinds.BoardLoad word) e = each word
  only_board_load each _ e = absurd (omega (arith, e))

  pub only_take : ((word link : ℕ) → P (kinds.BoardTake word link)) → (k : EventKind) → kind_number k ≡ 33 → P k
  only_take each (kinds.BoardTake word link) e = each word link
  only_take each _ e = absurd (omega (arith, e))

  pub only_give : ((word slot : ℕ) → P (kinds.BoardGive word slot)) → (k : EventKind) → kind_number k ≡ 34 → P k
  only_give each (kinds.BoardGive word slot) e = each word slot
  only_give each _ e = absurd (omega (arith, e))

  pub only_join : ((worker : ℕ) → P (kinds.Join worker)) → (k : EventKind) → kind_number k ≡ 25 → P k
  only_join each (kinds.Join worker) e = each worker
  only_join each _ e = absurd (omega (arith, e))

  pub only_plan : ((thunk : Thunk) → P (kinds.ReadPlan thunk)) → (k : EventKind) → kind_number k ≡ 39 → P k
  only_plan each (kinds.ReadPlan thunk) e = each thunk
  only_plan each _ e = absurd (omega (arith, e))

  pub only_guard : ((d : Option ℕ) → P (kinds.Guard d)) → (k : EventKind) → kind_number k ≡ 37 → P k
  only_guard each (kinds.Guard d) e = each d
  only_guard each _ e = absurd (omega (arith, e))

  pub only_sweep : ((n : ℕ) → P (kinds.LoadGuard n)) → (k : EventKind) → kind_number k ≡ 38 → P k
  only_sweep each (kinds.LoadGuard n) e = each n
  only_sweep each _ e = absurd (omega (arith, e))

  pub only_entry : ((request : ℕ) (reply : Bool) → P (kinds.LoadEntry request reply)) → (k : EventKind) → kind_number k ≡ 26 → P k
  only_entry each (kinds.LoadEntry request reply) e = each request reply
  only_entry each _ e = absurd (omega (arith, e))

pub few_kinds : (k : EventKind) → kind_number k < 40
few_kinds kinds.EnterLoad = omega arith
few_kinds kinds.Announce = omega arith
few_kinds kinds.EnterAgain = omega arith
few_kinds kinds.Idle = omega arith
few_kinds kinds.ScanEpoch = omega arith
few_kinds (kinds.ScanOne n) = omega arith
few_kinds kinds.Advance = omega arith
few_kinds kinds.Split = omega arith
few_kinds kinds.Commit = omega arith
few_kinds (kinds.LoadCell place) = omega arith
few_kinds kinds.ExchangeCell = omega arith
few_kinds (kinds.PrivateLoad slot word) = omega arith
few_kinds (kinds.PrivateStore slot word number) = omega arith
few_kinds kinds.MakeCommit = omega arith
few_kinds kinds.RetireCommit = omega arith
few_kinds kinds.EpochForRetire = omega arith
few_kinds (kinds.LoadThunk d) = omega arith
few_kinds kinds.LoadDone = omega arith
few_kinds (kinds.Hold thunk d) = omega arith
few_kinds kinds.SetDone = omega arith
few_kinds kinds.Release = omega arith
few_kinds kinds.ClockLoad = omega arith
few_kinds kinds.StampExchange = omega arith
few_kinds kinds.ClockRaise = omega arith
few_kinds kinds.ReplyExchange = omega arith
few_kinds (kinds.Join worker) = omega arith
few_kinds (kinds.LoadEntry request reply) = omega arith
few_kinds kinds.NestedLoad = omega arith
few_kinds kinds.NestedHold = omega arith
few_kinds kinds.OutcomeLoad = omega arith
few_kinds kinds.OutcomeCommit = omega arith
few_kinds (kinds.LinkCommit b) = omega arith
few_kinds (kinds.BoardLoad word) = omega arith
few_kinds (kinds.BoardTake word link) = omega arith
few_kinds (kinds.BoardGive word slot) = omega arith
few_kinds (kinds.ReadPlan thunk) = omega arith
few_kinds kinds.ReadClock = omega arith
few_kinds kinds.ReadReply = omega arith
few_kinds kinds.ReadStamp = omega arith
few_kinds (kinds.Guard d) = omega arith
few_kinds (kinds.LoadGuard n) = omega arith
