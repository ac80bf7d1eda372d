-- How the history's state is tied to the joint states.
use Rattle.std.specs.Prelude.{ℕ, ◌<◌, ◌≤◌, ◌≡◌, ◌≢◌, ◌==◌, ◌&&◌, not, Bool, true}
use Rattle.agreement_core.specs.body_terms.specs.declared.micro.Micro.{Micro}
use Rattle.agreement_core.specs.body_terms.specs.declared.micro.Micro.TheVariants as micros
use Rattle.agreement_core.specs.State.{Section, Run, AgreementState, section_of}
use Rattle.agreement_core.specs.Checks.{is_stamp_exchange}
use Rattle.history_core.specs.State.{Requests, HistoryState}
use Rattle.machine_scenes.specs.Shown.{Publications, States}

-- how far a section has come with its stamp once this step is passed, 0 for every other step
abbrev pub rank : Micro → ℕ
rank micros.ClockLoad = 1
rank micros.StampExchange = 2
rank micros.ClockRaise = 3
rank (micros.ReplyExchange reply) = 4
rank _ = 0

abbrev pub is_done : Section → Bool
is_done s = not (s.done == 0)

-- the run stands before the exchange of its section's stamp
abbrev pub is_loading : AgreementState → ℕ → Bool
is_loading a r = (a.run r).running && (not (a.run r).ended && is_stamp_exchange ((section_of a r).code ((a.run r).at)))

-- a published section
pub record SectionIsTied (c : Requests) (p : Publications) (w : HistoryState) (d : ℕ) (s : Section) : Type 0 where
  pub done : w.done d ≡ is_done s
  pub request : w.request d ≡ s.request
  pub op : c.op (w.request d) ≡ p.op d
  pub answer : (i n : ℕ) → s.code i ≡ micros.ReplyExchange n → w.answer d ≡ n
  -- it has come behind exactly the steps that are passed
  pub passed : (i : ℕ) → rank (s.code i) ≢ 0 → i < s.edge → rank (s.code i) ≤ w.stage d
  pub unpassed : (i : ℕ) → rank (s.code i) ≢ 0 → s.edge ≤ i → w.stage d < rank (s.code i)

-- a run that has loaded the clock and not yet tried to stamp
pub record RunIsTied (w : HistoryState) (r : ℕ) (q : Run) : Type 0 where
  pub run : w.run r ≡ q.descriptor
  pub hand : w.hand r ≡ q.word

pub record AreTied (c : Requests) (j : States) (w : HistoryState) : Type 0 where
  pub clock : w.clock ≡ j.agreement.shared.clock
  pub stamp : (n : ℕ) → w.stamp n ≡ j.agreement.shared.stamp n
  pub reply : (n : ℕ) → w.reply n ≡ j.agreement.shared.reply n
  pub used : (d : ℕ) → w.used d ≡ j.agreement.used d
  pub sections : (d : ℕ) → j.agreement.used d ≡ true
      → SectionIsTied c j.publications w d (j.agreement.section d)
  pub loaded : (r : ℕ) → w.loaded r ≡ is_loading j.agreement r
  pub runs : (r : ℕ) → is_loading j.agreement r ≡ true → RunIsTied w r (j.agreement.run r)
