-- Each event keeps the invariant, and so does each list of enabled events.
use Rattle.std.proofs.Common.{◌≡◌, ℕ, suc, List, [], ◌∷◌, refl, sym, ◌∙◌, arith}
use Rattle.agreement_core.specs.State.{CellRules, AgreementState}
use Rattle.agreement_core.specs.Events.{Event, Enabled, after}
use Rattle.agreement_core.specs.Events.{Publish, RetireDescriptor, Free, StoreLog, StoreDone, Read, Open, Pass, SetDone, Release, Finish, LoadCell, Commit, NestedLoad, NestedCommit, NestedHold, OutcomeLoad, OutcomeCommit, PrivateLoad, PrivateStore, MakeCommit, ClockLoad, StampExchange, ClockRaise, ExchangeCell, EpochForRetire, RetireCommit, ReplyExchange, ReadReply, ReadStamp}
use Rattle.agreement_core.specs.Sound.{IsSound}
use Rattle.agreement_core.specs.Schedules.{IsFirst, first_state, AllEnabled, after_all}
use Rattle.agreement_core.proofs.Frame.{not_both}
use Rattle.agreement_core.proofs.Reading.{reads_sound, stamps_sound, replies_sound}
use Rattle.agreement_core.proofs.LineEvents.{load_cell, commit, nested_load, nested_commit, nested_hold, outcome_load, outcome_commit, private_load, private_store, make_commit, clock_load, stamp_exchange, clock_raise, exchange_cell, epoch_for_retire, retire_commit, reply_exchange}
use Rattle.agreement_core.proofs.EndEvents.{pass, open_run, done_sound}
use Rattle.agreement_core.proofs.Releasing.{release_sound}
use Rattle.agreement_core.proofs.Finishing.{finish_sound}
use Rattle.agreement_core.proofs.Publishing.{publish_sound, retire_descriptor, free_descriptor, store_log, store_done}

module _ (c : CellRules) where
  pub keeps : (w : AgreementState) (e : Event) → Enabled c w e → IsSound c w → IsSound c (after w e)
  keeps w (Publish d lock word request code slot) ok old = publish_sound c w old d lock word request code slot ok
  keeps w (RetireDescriptor d) ok old = retire_descriptor c w old d ok
  keeps w (Free d) ok old = free_descriptor c w old d ok
  keeps w (StoreLog d log word) ok old = store_log c w old d log word ok
  keeps w (StoreDone d word) ok old = store_done c w old d word ok
  keeps w (Read place) ok old = reads_sound c w place old
  keeps w (Open r d) ok old = open_run c w old r d ok
  keeps w (Pass r) ok old = pass c w old r ok
  keeps w (SetDone r) ok old = done_sound c w old r ok.0 ok.2
  keeps w (Release r place word) ok old = release_sound c w old r place word ok
  keeps w (Finish r) ok old = finish_sound c w old r ok
  keeps w (LoadCell r place log) ok old = load_cell c w old r place log ok
  keeps w (Commit r place log) ok old = commit c w old r place log ok
  keeps w (NestedLoad r place log) ok old = nested_load c w old r place log ok
  keeps w (NestedCommit r place log) ok old = nested_commit c w old r place log ok
  keeps w (NestedHold r place word) ok old = nested_hold c w old r place word ok
  keeps w (OutcomeLoad r place log) ok old = outcome_load c w old r place log ok
  keeps w (OutcomeCommit r place log) ok old = outcome_commit c w old r place log ok
  keeps w (PrivateLoad r cell log place) ok old = private_load c w old r cell log place ok
  keeps w (PrivateStore r cell log value place word) ok old = private_store c w old r cell log value place word ok
  keeps w (MakeCommit r log proposal) ok old = make_commit c w old r log proposal ok
  keeps w (ClockLoad r) ok old = clock_load c w old r ok
  keeps w (StampExchange r) ok old = stamp_exchange c w old r ok
  keeps w (ClockRaise r) ok old = clock_raise c w old r ok
  keeps w (ExchangeCell r place log value) ok old = exchange_cell c w old r place log value ok
  keeps w (EpochForRetire r slot log epoch) ok old = epoch_for_retire c w old r slot log epoch ok
  keeps w (RetireCommit r slot log) ok old = retire_commit c w old r slot log ok
  keeps w (ReplyExchange r reply) ok old = reply_exchange c w old r reply ok
  keeps w (ReadReply request reply) ok old = replies_sound c w request reply old
  keeps w (ReadStamp request stamp) ok old = stamps_sound c w request stamp old

  pub keeps_all : (w : AgreementState) (es : List Event) → AllEnabled c w es → IsSound c w → IsSound c (after_all c w es)
  keeps_all w [] ok old = old
  keeps_all w (e ∷ es) ok old = keeps_all (after w e) es ok.1 (keeps w e ok.0 old)

  pub first : (cells : ℕ → ℕ) → IsFirst c cells → IsSound c (first_state cells)
  first cells start = record {
    versions = record {
      positive = start.positive;
      bounded = start.bounded;
      past = λ p v h. absurd (not_both _ h refl);
      read_positive = λ p v h. absurd (not_both _ h refl);
    };
    sections = λ d u. absurd (not_both _ u refl);
    runs = λ r is. absurd (not_both _ is refl);
    running_used = λ r is. absurd (not_both _ is refl);
    live_used = λ d h. absurd (not_both _ h refl);
    named = λ p d lock v. absurd (let z : suc d ≡ 0 = sym v ∙ start.free p lock in omega arith);
    apart = λ d1 d2 p ne o1. absurd (not_both _ o1.used refl);
    single = λ d1 d2 u1. absurd (not_both _ u1 refl);
    finished = record {
      past = λ r i lt. absurd (omega arith);
      ended = λ r i d lt. absurd (omega arith);
      whole = λ r i d lt. absurd (omega arith);
      equal = λ r i r' i' lt. absurd (omega arith);
    };
  }
