-- What late runs change, and what nobody changes in an open section.
use Rattle.std.specs.Prelude.{ℕ, suc, ◌<◌, ◌≡◌, ◌⊎◌, true, Option, Some, None}
use Rattle.section_lines.specs.structure_laws.specs.body_terms.specs.Word.{value_of}
use Rattle.agreement_core.specs.State.{CellRules, AgreementState, section_of, IsOpen}
use Rattle.agreement_core.specs.Events.{Event, Release, LoadCell, Commit, NestedLoad, NestedCommit, NestedHold, OutcomeLoad, OutcomeCommit, PrivateLoad, MakeCommit, ClockLoad, StampExchange, ClockRaise, ExchangeCell, EpochForRetire, RetireCommit, ReplyExchange}

-- the runner of a step of a line, but for the private store of a cell of its own slot
abbrev pub stepper : Event → Option ℕ
stepper (LoadCell r place log) = Some r
stepper (Commit r place log) = Some r
stepper (NestedLoad r place log) = Some r
stepper (NestedCommit r place log) = Some r
stepper (NestedHold r place word) = Some r
stepper (OutcomeLoad r place log) = Some r
stepper (OutcomeCommit r place log) = Some r
stepper (PrivateLoad r cell log place) = Some r
stepper (MakeCommit r log proposal) = Some r
stepper (ClockLoad r) = Some r
stepper (StampExchange r) = Some r
stepper (ClockRaise r) = Some r
stepper (ExchangeCell r place log value) = Some r
stepper (EpochForRetire r slot log epoch) = Some r
stepper (RetireCommit r slot log) = Some r
stepper (ReplyExchange r reply) = Some r
stepper _ = None

-- the runner's run is behind the furthest one of its section
abbrev pub IsLate : AgreementState → ℕ → Type 0
IsLate w r = (w.run r).at < (section_of w r).edge

-- no cell, clock, stamp or reply is changed, and nothing in any section
pub record IsUnchanged (w w' : AgreementState) : Type 0 where
  pub cells : (p : ℕ) → w'.shared.cells p ≡ w.shared.cells p
  pub clock : w'.shared.clock ≡ w.shared.clock
  pub stamp : (q : ℕ) → w'.shared.stamp q ≡ w.shared.stamp q
  pub reply : (q : ℕ) → w'.shared.reply q ≡ w.shared.reply q
  pub section : (d : ℕ) → w'.section d ≡ w.section d

-- the locks that open sections hold stand
abbrev pub LocksStay : CellRules → AgreementState → AgreementState → Type 0
LocksStay c w w' = (d p : ℕ) → IsOpen w d → c.is_lock p ≡ true → value_of (w.shared.cells p) ≡ suc d
    → w'.shared.cells p ≡ w.shared.cells p

-- the event releases this lock, in a run of the section that this descriptor has
abbrev pub IsReleaseOf : AgreementState → Event → ℕ → ℕ → Type 0
IsReleaseOf w e d p = (r word : ℕ) × (e ≡ Release r p word) × ((w.run r).running ≡ true) × ((w.run r).descriptor ≡ d)

-- a lock that names a section stands, or a run of that section releases it
abbrev pub LocksLeave : CellRules → AgreementState → Event → AgreementState → Type 0
LocksLeave c w e w' = (d p : ℕ) → c.is_lock p ≡ true → value_of (w.shared.cells p) ≡ suc d
    → (w'.shared.cells p ≡ w.shared.cells p) ⊎ IsReleaseOf w e d p
