-- An example: one section is run by two runners, one of them late; its effects come once.
use Rattle.std.specs.Prelude.{ℕ, ◌≡◌, ◌==◌, nat_lt, false, cond, List, [], ◌∷◌, ◌++◌}
use Rattle.section_lines.specs.structure_laws.specs.body_terms.specs.Word.{pack}
use Rattle.section_lines.specs.structure_laws.specs.body_terms.specs.declared.micro.Source.TheVariants.{Fixed}
use Rattle.section_lines.specs.structure_laws.specs.body_terms.specs.declared.micro.Micro.{Micro}
use Rattle.section_lines.specs.structure_laws.specs.body_terms.specs.declared.micro.Micro.TheVariants as micros
use Rattle.agreement_core.specs.State.{CellRules, AgreementState}
use Rattle.agreement_core.specs.Events.{Event, Publish, RetireDescriptor, Free, Open, Pass, SetDone, Release, Finish, LoadCell, Commit, ClockLoad, StampExchange, ClockRaise, ExchangeCell, ReplyExchange}
use Rattle.agreement_core.specs.Schedules.{IsFirst, first_state, AllEnabled, after_all}
use Rattle.agreement_core.specs.Sound.{AreEqual}
use Rattle.agreement_core.specs.History.{History, no_history, noted_all}

-- the lock stands at place 0, and no version is above 9
abbrev pub few : CellRules
few = record { is_lock = λ p. p == 0; version_max = 9 }

-- each cell has the value 0 and the version 1
abbrev pub fresh : ℕ → ℕ
fresh p = pack 0 1

-- the line of a body that loads the cell 1, stores 5 there and answers 7
abbrev pub code : ℕ → Micro
code i = cond (i == 0) (micros.LoadCell 1 0) (cond (i == 1) (micros.Commit 1 0) (cond (i == 2) (micros.CheckFresh 1 0)
    (cond (i == 3) micros.ClockLoad (cond (i == 4) micros.StampExchange (cond (i == 5) micros.ClockRaise
    (cond (i == 6) (micros.ExchangeCell 1 0 (Fixed 5)) (cond (i == 7) (micros.ReplyExchange 7) micros.End)))))))

-- how many words it has committed below a place
abbrev pub slot : ℕ → ℕ
slot i = cond (nat_lt i 2) 0 1

-- this runner runs its line
abbrev pub runs_line : ℕ → List Event
runs_line r = LoadCell r 1 0 ∷ Commit r 1 0 ∷ Pass r ∷ ClockLoad r ∷ StampExchange r ∷ ClockRaise r
    ∷ ExchangeCell r 1 0 (Fixed 5) ∷ ReplyExchange r 7 ∷ []

-- and ends
abbrev pub ends : ℕ → List Event
ends r = SetDone r ∷ Release r 0 (pack 0 1) ∷ Finish r ∷ []

-- section 0 is published for request 3; runner 1 begins to run it and loads the cell; runner 0 runs it to its end
abbrev pub leading : List Event
leading = Publish 0 0 (pack 0 1) 3 code slot ∷ Open 1 0 ∷ LoadCell 1 1 0 ∷ Open 0 0 ∷ runs_line 0 ++ ends 0

-- runner 1 goes on late
abbrev pub late : List Event
late = Commit 1 1 0 ∷ Pass 1 ∷ ClockLoad 1 ∷ StampExchange 1 ∷ ClockRaise 1 ∷ ExchangeCell 1 1 0 (Fixed 5)
    ∷ ReplyExchange 1 7 ∷ ends 1

-- and then the descriptor is retired and free again
abbrev pub helping : List Event
helping = late ++ RetireDescriptor 0 ∷ Free 0 ∷ []

-- the states after each part, and the history
abbrev pub led : AgreementState
led = after_all few (first_state fresh) leading

abbrev pub helped : AgreementState
helped = after_all few led helping

abbrev pub kept : History
kept = noted_all (first_state fresh) no_history (leading ++ helping)

-- every event may come; the cell and the lock were changed once each way, by the first runner; and both
-- runners keep one trail
pub record IsHelped : Type 0 where
  pub first : IsFirst few fresh
  pub leads : AllEnabled few (first_state fresh) leading
  pub helps : AllEnabled few led helping
  pub cell_led : led.shared.cells 1 ≡ pack 5 2
  pub lock_led : led.shared.cells 0 ≡ pack 0 3
  pub cell : helped.shared.cells 1 ≡ pack 5 2
  pub lock : helped.shared.cells 0 ≡ pack 0 3
  pub reply : helped.shared.reply 3 ≡ 7
  pub moved : kept.moved 1 6 ≡ record { place = 1; old = pack 0 1; new = pack 5 2 } ∷ []
  pub stamps : kept.stamps 3 ≡ 2 ∷ []
  pub replies : kept.replies 3 ≡ 7 ∷ []
  pub free : helped.used 0 ≡ false
  pub one_trail : AreEqual (helped.finished 0 0) (helped.finished 1 0)
