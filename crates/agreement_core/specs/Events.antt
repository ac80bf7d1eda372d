-- The events of agreement, when each may come, and the state after it.
use Rattle.std.specs.Prelude.{ℕ, suc, ◌+◌, ◌*◌, ◌/◌, ◌^◌, ◌<◌, ◌≤◌, ◌≡◌, ◌≢◌, ◌⊎◌, max, true, false}
use Rattle.section_lines.specs.structure_laws.specs.body_terms.specs.Update.{upd}
use Rattle.section_lines.specs.structure_laws.specs.body_terms.specs.Word.{value_of, version_of, next_word, held_word, is_free, is_spent}
use Rattle.section_lines.specs.structure_laws.specs.body_terms.specs.Run.{written_once}
use Rattle.section_lines.specs.structure_laws.specs.body_terms.specs.declared.micro.Source.{Source}
use Rattle.section_lines.specs.structure_laws.specs.body_terms.specs.declared.micro.Micro.{Micro}
use Rattle.section_lines.specs.structure_laws.specs.body_terms.specs.declared.micro.Micro.TheVariants as micros
use Rattle.section_lines.specs.Line.{IsLine, IsWholeLine}
use Rattle.agreement_core.specs.Update.{upd2}
use Rattle.agreement_core.specs.State.{CellRules, Section, Run, Finished, AgreementState, section_of, IsOpen}
use Rattle.agreement_core.specs.Checks.{passes, is_stop, stored_word, exchanged, came}

-- what may happen; `r` is the runner, `d` a descriptor, `log` a place in a log
pub data Event : Type 0 where
  -- a section with an empty log is published; a published descriptor is retired; a retired one is free again;
  -- words of a free one are stored
  Publish : (d lock word request : ℕ) (code : ℕ → Micro) (slot : ℕ → ℕ) → Event
  RetireDescriptor : (d : ℕ) → Event
  Free : (d : ℕ) → Event
  StoreLog : (d log word : ℕ) → Event
  StoreDone : (d word : ℕ) → Event
  -- a cell is read outside a run
  Read : (place : ℕ) → Event
  -- a run begins, goes on behind a check that passes, sets the done word, releases a lock, and is over
  Open : (r d : ℕ) → Event
  Pass : (r : ℕ) → Event
  SetDone : (r : ℕ) → Event
  Release : (r place word : ℕ) → Event
  Finish : (r : ℕ) → Event
  -- the steps of a run's line
  LoadCell : (r place log : ℕ) → Event
  Commit : (r place log : ℕ) → Event
  NestedLoad : (r place log : ℕ) → Event
  NestedCommit : (r place log : ℕ) → Event
  NestedHold : (r place word : ℕ) → Event
  OutcomeLoad : (r place log : ℕ) → Event
  OutcomeCommit : (r place log : ℕ) → Event
  -- a Make's private load and store at a cell's place, and its commit with a proposal
  PrivateLoad : (r cell log place : ℕ) → Event
  PrivateStore : (r cell log : ℕ) (value : Source) (place word : ℕ) → Event
  MakeCommit : (r log proposal : ℕ) → Event
  ClockLoad : (r : ℕ) → Event
  StampExchange : (r : ℕ) → Event
  ClockRaise : (r : ℕ) → Event
  ExchangeCell : (r place log : ℕ) (value : Source) → Event
  EpochForRetire : (r slot log epoch : ℕ) → Event
  RetireCommit : (r slot log : ℕ) → Event
  ReplyExchange : (r reply : ℕ) → Event
  -- outside a run and without a lock: the reply of a read is written to its request's word, and then its stamp
  ReadReply : (request reply : ℕ) → Event
  ReadStamp : (request stamp : ℕ) → Event

-- a run at the start of its line
abbrev pub begun : ℕ → Run
begun d = record {
  running = true;
  descriptor = d;
  at = 0;
  word = 0;
  count = 0;
  trail = λ k. 0;
  ended = false;
  released = λ p. false;
}

-- the run goes on behind its step, with this number to go by
abbrev pub goes_on : AgreementState → ℕ → ℕ → AgreementState
goes_on w r word = let q = w.run r in record w {
  run = upd w.run r (record q { at = suc q.at; word = word });
  section = upd w.section q.descriptor (came (section_of w r) (suc q.at));
}

-- the run goes on with the word that stands in the log, or else with the proposal
abbrev pub agrees : AgreementState → ℕ → ℕ → ℕ → AgreementState
agrees w r log proposal =
    let q = w.run r in let s = section_of w r in let agreed = written_once (s.log log) proposal in record w {
      run = upd w.run r (record q { at = suc q.at; count = suc q.count; trail = upd q.trail q.count agreed });
      section = upd w.section q.descriptor (came (record s { log = upd s.log log agreed }) (suc q.at));
    }

-- the state after a cell was changed, and after one was read
abbrev pub with_cell : AgreementState → ℕ → ℕ → AgreementState
with_cell w place word = record w { shared = record (w.shared) { cells = upd w.shared.cells place word } }

abbrev pub reads : AgreementState → ℕ → AgreementState
reads w place = record w { shared = record (w.shared) { seen = upd2 w.shared.seen place (w.shared.cells place) true } }

-- what is kept of this run
abbrev pub finished_of : Section → Run → Finished
finished_of s q = record { lock = s.lock; word = s.word; descriptor = q.descriptor; count = q.count; trail = q.trail }

-- the state after an event
abbrev pub after : AgreementState → Event → AgreementState
after w (Publish d lock word request code slot) = record (with_cell w lock (held_word d word)) {
  section = upd w.section d
      (record (w.section d)
      { lock = lock; word = word; request = request; code = code; slot = slot; log = λ k. 0; edge = 0 });
  used = upd w.used d true;
  live = upd w.live d true;
  over = upd w.over d false;
}
after w (RetireDescriptor d) = record w { live = upd w.live d false }
after w (Free d) = record w { used = upd w.used d false }
after w (StoreLog d log word) =
    record w { section = upd w.section d (record (w.section d) { log = upd ((w.section d).log) log word }) }
after w (StoreDone d word) = record w { section = upd w.section d (record (w.section d) { done = word }) }
after w (Read place) = reads w place
after w (Open r d) = record w { run = upd w.run r (begun d) }
after w (Pass r) = goes_on w r ((w.run r).word)
after w (SetDone r) = let q = w.run r in record w {
  run = upd w.run r (record q { ended = true });
  section = upd w.section q.descriptor (record (section_of w r) { done = written_once ((section_of w r).done) 1 });
}
after w (Release r place word) = let q = w.run r in let held = held_word q.descriptor word in
    record (with_cell w place (exchanged (w.shared.cells place) held (next_word held 0))) {
      run = upd w.run r (record q { released = upd q.released place true });
    }
after w (Finish r) = let q = w.run r in record w {
  run = upd w.run r (record q { running = false });
  over = upd w.over q.descriptor true;
  finishes = upd w.finishes r (suc (w.finishes r));
  finished = upd2 w.finished r (w.finishes r) (finished_of (section_of w r) q);
}
after w (LoadCell r place log) = reads (goes_on w r (w.shared.cells place)) place
after w (Commit r place log) = agrees w r log ((w.run r).word)
after w (NestedLoad r place log) = reads (goes_on w r (w.shared.cells place)) place
after w (NestedCommit r place log) = agrees w r log ((w.run r).word)
after w (NestedHold r place word) = with_cell (goes_on w r ((w.run r).word)) place
    (exchanged (w.shared.cells place) word (held_word ((w.run r).descriptor) word))
after w (OutcomeLoad r place log) = reads (goes_on w r (w.shared.cells place)) place
after w (OutcomeCommit r place log) = agrees w r log ((w.run r).word)
after w (PrivateLoad r cell log place) = reads (goes_on w r (w.shared.cells place)) place
after w (PrivateStore r cell log value place word) = with_cell (goes_on w r ((w.run r).word)) place word
after w (MakeCommit r log proposal) = agrees w r log proposal
after w (ClockLoad r) = goes_on w r (w.shared.clock)
after w (StampExchange r) = let q = w.run r in let request = (section_of w r).request in
    let stamp = written_once (w.shared.stamp request) (2 * (q.word + 1)) in
    record (goes_on w r stamp) { shared = record (w.shared) { stamp = upd w.shared.stamp request stamp } }
after w (ClockRaise r) = record (goes_on w r ((w.run r).word)) {
  shared = record (w.shared) { clock = max w.shared.clock ((w.run r).word / 2) };
}
after w (ExchangeCell r place log value) = let q = w.run r in
    with_cell (goes_on w r q.word) place
    (exchanged (w.shared.cells place) (q.trail log) (stored_word q.trail log value))
after w (EpochForRetire r slot log epoch) = goes_on w r epoch
after w (RetireCommit r slot log) = agrees w r log (suc slot)
after w (ReplyExchange r reply) = let request = (section_of w r).request in
    record (goes_on w r ((w.run r).word)) {
      shared = record (w.shared) { reply = upd w.shared.reply request (written_once (w.shared.reply request) reply) };
    }
after w (ReadReply request reply) = record w {
  shared = record (w.shared) { reply = upd w.shared.reply request (written_once (w.shared.reply request) reply) };
}
after w (ReadStamp request stamp) = record w {
  shared = record (w.shared) { stamp = upd w.shared.stamp request (written_once (w.shared.stamp request) stamp) };
}

-- a run of the section has come to a commit of a word of this cell
abbrev pub HasCome : Section → ℕ → Type 0
HasCome s place = (at : ℕ) × (log : ℕ) × (at ≤ s.edge) × (s.code at ≡ micros.Commit place log)

-- the step of its line before which a runner's run stands
abbrev pub step_of : AgreementState → ℕ → Micro
step_of w r = (section_of w r).code ((w.run r).at)

-- the runner is in a run that hasn't ended, before this step of its line
pub record IsBefore (w : AgreementState) (r : ℕ) (micro : Micro) : Type 0 where
  pub running : (w.run r).running ≡ true
  pub going : (w.run r).ended ≡ false
  pub next : step_of w r ≡ micro

-- a run at this place has taken this lock, free with this word: the outer one, or a nested one that it found to be held
abbrev pub HasTaken : Section → ℕ → ℕ → ℕ → Type 0
HasTaken s at place word = ((place ≡ s.lock) × (word ≡ s.word))
    ⊎ ((i : ℕ) × (log : ℕ) × (i < at) × (s.code i ≡ micros.CheckHeld place log word))

-- a section that may be published: its line, a descriptor's number whose link is a value, and a free word
-- that can be taken
pub record IsPublishable (c : CellRules) (d lock word : ℕ) (code : ℕ → Micro) (slot : ℕ → ℕ) : Type 0 where
  pub line : IsLine c.is_lock c.version_max lock code slot
  pub whole : IsWholeLine code
  pub link : suc d < 2 ^ 32
  pub free : is_free word ≡ true
  pub unspent : is_spent c.version_max word ≡ false

-- a private store of this word: no open section has come to the cell, a lock is free before and after, and
-- the version rises by one
pub record IsPrivateStore (c : CellRules) (w : AgreementState) (place word : ℕ) : Type 0 where
  pub apart : (d : ℕ) → IsOpen w d → HasCome (w.section d) place → ⊥
  pub free_before : c.is_lock place ≡ true → value_of (w.shared.cells place) ≡ 0
  pub free_after : c.is_lock place ≡ true → value_of word ≡ 0
  pub rises : version_of word ≡ suc (version_of (w.shared.cells place))
  pub bounded : version_of word ≤ c.version_max

-- a runner that loads this cell as the first of its section: no other open section has come to the cell
abbrev pub IsAlone : AgreementState → ℕ → ℕ → Type 0
IsAlone w d place = (d' : ℕ) → d' ≢ d → IsOpen w d' → HasCome (w.section d') place → ⊥

module _ (c : CellRules) where
  -- when an event may come; what it asks for beside the runner's step is what the machine supplies
  abbrev pub Enabled : AgreementState → Event → Type 0
  Enabled w (Publish d lock word request code slot) = (w.used d ≡ false) × (w.shared.cells lock ≡ word)
      × IsPublishable c d lock word code slot × ((w.section d).done ≡ 0)
  Enabled w (RetireDescriptor d) = (w.live d ≡ true) × (w.over d ≡ true)
  Enabled w (Free d) = (w.live d ≡ false) × ((r : ℕ) → (w.run r).running ≡ true → (w.run r).descriptor ≢ d)
  Enabled w (StoreLog d log word) = w.used d ≡ false
  Enabled w (StoreDone d word) = w.used d ≡ false
  Enabled w (Read place) = Unit {0}
  Enabled w (Open r d) = ((w.run r).running ≡ false) × (w.used d ≡ true)
  Enabled w (Pass r) = ((w.run r).running ≡ true) × ((w.run r).ended ≡ false)
      × (passes c ((w.run r).descriptor) ((w.run r).trail) (step_of w r) ≡ true)
  Enabled w (SetDone r) = ((w.run r).running ≡ true) × ((w.run r).ended ≡ false)
      × (is_stop c ((w.run r).descriptor) ((w.run r).trail) (step_of w r) ≡ true)
  Enabled w (Release r place word) = ((w.run r).running ≡ true) × ((w.run r).ended ≡ true)
      × HasTaken (section_of w r) ((w.run r).at) place word
  Enabled w (Finish r) = ((w.run r).running ≡ true) × ((w.run r).ended ≡ true)
      × ((place word : ℕ) → HasTaken (section_of w r) ((w.run r).at) place word → (w.run r).released place ≡ true)
  Enabled w (LoadCell r place log) = IsBefore w r (micros.LoadCell place log)
      × ((w.run r).at ≡ (section_of w r).edge → (section_of w r).done ≡ 0 → IsAlone w ((w.run r).descriptor) place)
  Enabled w (Commit r place log) = IsBefore w r (micros.Commit place log)
  Enabled w (NestedLoad r place log) = IsBefore w r (micros.NestedLoad place log)
  Enabled w (NestedCommit r place log) = IsBefore w r (micros.NestedCommit place log)
  Enabled w (NestedHold r place word) = IsBefore w r (micros.NestedHold place word)
  Enabled w (OutcomeLoad r place log) = IsBefore w r (micros.OutcomeLoad place log)
  Enabled w (OutcomeCommit r place log) = IsBefore w r (micros.OutcomeCommit place log)
  Enabled w (PrivateLoad r cell log place) = IsBefore w r (micros.PrivateLoad cell log)
  Enabled w (PrivateStore r cell log value place word) =
      IsBefore w r (micros.PrivateStore cell log value) × IsPrivateStore c w place word
  Enabled w (MakeCommit r log proposal) = IsBefore w r (micros.MakeCommit log) × (proposal ≢ 0)
  Enabled w (ClockLoad r) = IsBefore w r micros.ClockLoad
  Enabled w (StampExchange r) = IsBefore w r micros.StampExchange
  Enabled w (ClockRaise r) = IsBefore w r micros.ClockRaise
  Enabled w (ExchangeCell r place log value) = IsBefore w r (micros.ExchangeCell place log value)
  Enabled w (EpochForRetire r slot log epoch) = IsBefore w r (micros.EpochForRetire slot log)
  Enabled w (RetireCommit r slot log) = IsBefore w r (micros.RetireCommit slot log)
  Enabled w (ReplyExchange r reply) = IsBefore w r (micros.ReplyExchange reply)
  Enabled w (ReadReply request reply) = reply ≢ 0
  Enabled w (ReadStamp request stamp) = stamp ≢ 0
