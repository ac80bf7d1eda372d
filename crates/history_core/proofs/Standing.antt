-- What stands for good, and states that are the same everywhere.
use Rattle.std.proofs.Common.{◌≡◌, ◌≢◌, ℕ, ◌≤◌, Option, Some, None, Bool, true, false, cond, refl, sym, ap, ◌∙◌, subst, inr, arith}
use Rattle.std.specs.Prelude.{◌==◌, Contains}
use mathlib.Core.Logic.{dite}
use native.Mathlib.Decide.{ℕ_discrete}
use Rattle.body_terms.specs.Update.{upd}
use Rattle.body_terms.specs.Run.{written_once}
use Rattle.history_orders.proofs.Entries.{put_in-contains}
use Rattle.history_core.specs.State.{Requests, Seen, HistoryState}
use Rattle.history_core.specs.Events.{Event, Publish, Over, LoadClock, StampExchange, RaiseClock, WriteReply, SetDone, Learn, Free, Look, Forget, ReadReply, ReadStamp, stamp_by, read_stamp_by, entry_by, entry_seen, stamped, replied_by, read, read_by, after}
use Rattle.history_core.specs.Sound.{IsSound}
use Rattle.history_core.specs.Legal.{WordsStand}
use Rattle.history_core.specs.Frame.{IsSame}
use Rattle.history_core.proofs.Changes.{upd_same, upd_other}

-- all of these words are as before
all_stand : (w w' : HistoryState) → w'.stamp ≡ w.stamp → w'.reply ≡ w.reply → w'.known ≡ w.known → w'.saw ≡ w.saw → w'.history ≡ w.history → w.clock ≤ w'.clock → WordsStand w w'
all_stand w w' stamp reply known saw history clock = record {
  stamps = λ n some. ap (λ stamp. stamp n) stamp;
  replies = λ n some. ap (λ reply. reply n) reply;
  known = λ r n know. ap (λ known. known r n) known ∙ know;
  saw = λ n k some. ap (λ saw. saw n k) saw;
  entries = λ e at. subst (λ history. Contains history e) (sym history) at;
  clock = clock;
}

zero_of : (n : ℕ) → (n == 0) ≡ true → n ≡ 0
zero_of n is = grind arith

-- a word that is written once stands
word_stands : (f : ℕ → ℕ) (k word n : ℕ) → f n ≢ 0 → upd f k (written_once (f k) word) n ≡ f n
word_stands f k word n some = dite (ℕ_discrete n k)
    (λ same. upd_same f k n (written_once (f k) word) same ∙ stands (f k) word (λ none. some (ap f same ∙ none)) ∙ ap f (sym same))
    (λ other. upd_other f k n (written_once (f k) word) other)
  where
    stands : (there word : ℕ) → there ≢ 0 → written_once there word ≡ there
    stands there word some = grind arith

-- what has no word isn't what has one
unlike : (f : ℕ → ℕ) (k n : ℕ) → f k ≡ 0 → f n ≢ 0 → n ≢ k
unlike f k n none some same = some (ap f same ∙ none)

module _ (c : Requests) (w : HistoryState) where
  stamp_stands : (r : ℕ) → WordsStand w (after c w (StampExchange r))
  stamp_stands r = by_test (w.stamp (w.request (w.run r)) == 0) refl
    where
      by_test : (b : Bool) → (w.stamp (w.request (w.run r)) == 0) ≡ b → WordsStand w (cond b (stamped c w r) (record w { loaded = upd w.loaded r false }))
      by_test true is =
          let none = zero_of (w.stamp (w.request (w.run r))) is in
          record {
            stamps = λ n some. upd_other w.stamp (w.request (w.run r)) n (stamp_by (w.hand r)) (unlike w.stamp (w.request (w.run r)) n none some);
            replies = λ n some. refl;
            known = λ r' n know. know;
            saw = λ n k some. ap (λ saw. saw k) (upd_other w.saw (w.request (w.run r)) n (w.knew (w.run r)) (unlike w.stamp (w.request (w.run r)) n none some));
            entries = λ e at. put_in-contains (entry_by c w (w.request (w.run r)) (stamp_by (w.hand r))) e w.history (inr at);
            clock = omega arith;
          }
      by_test false is = all_stand w (record w { loaded = upd w.loaded r false }) refl refl refl refl refl (omega arith)

  write_stands : (d : ℕ) → WordsStand w (after c w (WriteReply d))
  write_stands d = record {
    stamps = λ n some. refl;
    replies = λ n some. word_stands w.reply (w.request d) (w.answer d) n some;
    known = λ r n know. know;
    saw = λ n k some. refl;
    entries = λ e at. at;
    clock = omega arith;
  }

  learn_stands : (r n : ℕ) → WordsStand w (after c w (Learn r n))
  learn_stands r n = record {
    stamps = λ k some. refl;
    replies = λ k some. refl;
    known = λ r' k know. grind arith;
    saw = λ m k some. refl;
    entries = λ e at. at;
    clock = omega arith;
  }

  replied_stands : (r : ℕ) (o : Option Seen) → WordsStand w (replied_by c w r o)
  replied_stands r None = all_stand w w refl refl refl refl refl (omega arith)
  replied_stands r (Some seen) = record {
    stamps = λ n some. refl;
    replies = λ n some. word_stands w.reply seen.number seen.answer n some;
    known = λ r' n know. know;
    saw = λ n k some. refl;
    entries = λ e at. at;
    clock = omega arith;
  }

  read_stands : (r : ℕ) (o : Option Seen) → WordsStand w (read_by c w r o)
  read_stands r None = all_stand w w refl refl refl refl refl (omega arith)
  read_stands r (Some seen) = by_test (w.stamp seen.number == 0) refl
    where
      by_test : (b : Bool) → (w.stamp seen.number == 0) ≡ b → WordsStand w (cond b (read c w r seen) w)
      by_test true is =
          let none = zero_of (w.stamp seen.number) is in
          record {
            stamps = λ n some. upd_other w.stamp seen.number n (read_stamp_by seen.clock) (unlike w.stamp seen.number n none some);
            replies = λ n some. refl;
            known = λ r' n know. grind arith;
            saw = λ n k some. ap (λ saw. saw k) (upd_other w.saw seen.number n seen.known (unlike w.stamp seen.number n none some));
            entries = λ e at. put_in-contains (entry_seen c seen) e w.history (inr at);
            clock = omega arith;
          }
      by_test false is = all_stand w w refl refl refl refl refl (omega arith)

  pub words_stand : (e : Event) → WordsStand w (after c w e)
  words_stand (Publish r d n answer) = all_stand w _ refl refl refl refl refl (omega arith)
  words_stand (Over r) = all_stand w _ refl refl refl refl refl (omega arith)
  words_stand (LoadClock r d) = all_stand w _ refl refl refl refl refl (omega arith)
  words_stand (StampExchange r) = stamp_stands r
  words_stand (RaiseClock d) = all_stand w _ refl refl refl refl refl (omega arith)
  words_stand (WriteReply d) = write_stands d
  words_stand (SetDone d) = all_stand w _ refl refl refl refl refl (omega arith)
  words_stand (Learn r n) = learn_stands r n
  words_stand (Free d) = all_stand w _ refl refl refl refl refl (omega arith)
  words_stand (Look r n answer) = all_stand w _ refl refl refl refl refl (omega arith)
  words_stand (Forget r) = all_stand w _ refl refl refl refl refl (omega arith)
  words_stand (ReadReply r) = replied_stands r (w.look r)
  words_stand (ReadStamp r) = read_stands r (w.look r)

-- two states with the same words are one
one_state : (w w' : HistoryState) → IsSame w w' → w' ≡ w
one_state w w' same = λ i. record {
  clock = same.clock i;
  stamp = λ n. same.stamp n i;
  reply = λ n. same.reply n i;
  history = same.history i;
  pairs = same.pairs i;
  used = λ d. same.used d i;
  done = λ d. same.done d i;
  request = λ d. same.request d i;
  answer = λ d. same.answer d i;
  stage = λ d. same.stage d i;
  floor = λ d. same.floor d i;
  knew = λ d n. same.knew d n i;
  by = λ n. same.by n i;
  saw = λ n k. same.saw n k i;
  loaded = λ r. same.loaded r i;
  run = λ r. same.run r i;
  hand = λ r. same.hand r i;
  published = λ r. same.published r i;
  known = λ r n. same.known r n i;
  look = λ r. same.look r i;
}

pub same_sound : (c : Requests) (w w' : HistoryState) → IsSame w w' → IsSound c w → IsSound c w'
same_sound c w w' same sound = subst (IsSound c) (sym (one_state w w' same)) sound
