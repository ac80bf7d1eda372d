-- Where no read without a lock is made.
use Rattle.std.proofs.Common.{◌≡◌, ℕ, ◌<◌, Bool, true, false, List, [], ◌∷◌, None, cond, refl, sym, ap, ◌∙◌, subst, ⊎_elim, arith}
use Rattle.std.specs.Prelude.{◌==◌, ◌%◌}
use mathlib.Core.Logic.{dite}
use native.Mathlib.Decide.{ℕ_discrete}
use Rattle.body_terms.specs.Update.{upd}
use Rattle.history_orders.specs.Turns.{Follows}
use Rattle.history_core.specs.State.{Requests, HistoryState, has_replied}
use Rattle.history_core.specs.Events.{Event, Publish, Over, LoadClock, StampExchange, RaiseClock, WriteReply, SetDone, Learn, Free, Look, Forget, ReadReply, ReadStamp, stamp_by, stamped, replied_by, read_by, after}
use Rattle.history_core.specs.Sound.{IsSound}
use Rattle.history_core.specs.Schedules.{first_state, after_all}
use Rattle.history_core.specs.Legal.{HasNoReads, is_look, StampsRise}
use Rattle.history_core.proofs.Changes.{upd_same, upd_other}
use Rattle.history_core.proofs.Looks.{not_both}

-- events that make no read
abbrev pub MakeNoReads : List Event → Type 0
MakeNoReads [] = Unit {0}
MakeNoReads (e ∷ es) = (is_look e ≡ false) × MakeNoReads es

pub first_reads : HasNoReads first_state
first_reads = record { looks = λ r. refl; even = λ n. refl }

-- of an even stamp the next one is greater
pub strictly : (s t : ℕ) → s % 2 ≡ 0 → Follows s t → s < t
strictly s t even follows = ⊎_elim (λ lower. lower) (λ same. absurd (let odd = same.1 in omega arith)) follows

module _ (c : Requests) (w : HistoryState) (none : HasNoReads w) where
  none_stamped : (r : ℕ) (b : Bool) → HasNoReads (cond b (stamped c w r) (record w { loaded = upd w.loaded r false }))
  none_stamped r false = record { looks = none.looks; even = none.even }
  none_stamped r true = record {
    looks = none.looks;
    even = λ n. dite (ℕ_discrete n (w.request (w.run r)))
        (λ own. let now = upd_same w.stamp (w.request (w.run r)) n (stamp_by (w.hand r)) own in omega arith)
        (λ other. ap (λ s. s % 2) (upd_other w.stamp (w.request (w.run r)) n (stamp_by (w.hand r)) other) ∙ none.even n);
  }

  none_forgotten : (r i : ℕ) → upd w.look r None i ≡ None
  none_forgotten r i = dite (ℕ_discrete i r)
      (λ own. upd_same w.look r i None own)
      (λ other. upd_other w.look r i None other ∙ none.looks i)

  pub none_after : (e : Event) → is_look e ≡ false → HasNoReads (after c w e)
  none_after (Publish r d n answer) not = record { looks = none.looks; even = none.even }
  none_after (Over r) not = record { looks = none.looks; even = none.even }
  none_after (LoadClock r d) not = record { looks = none.looks; even = none.even }
  none_after (StampExchange r) not = none_stamped r (w.stamp (w.request (w.run r)) == 0)
  none_after (RaiseClock d) not = record { looks = none.looks; even = none.even }
  none_after (WriteReply d) not = record { looks = none.looks; even = none.even }
  none_after (SetDone d) not = record { looks = none.looks; even = none.even }
  none_after (Learn r n) not = record { looks = none.looks; even = none.even }
  none_after (Free d) not = record { looks = none.looks; even = none.even }
  none_after (Look r n answer) not = absurd (not_both not)
  none_after (Forget r) not = record { looks = none_forgotten r; even = none.even }
  none_after (ReadReply r) not = subst (λ o. HasNoReads (replied_by c w r o)) (sym (none.looks r)) none
  none_after (ReadStamp r) not = subst (λ o. HasNoReads (read_by c w r o)) (sym (none.looks r)) none

  pub rises : IsSound c w → StampsRise c w
  rises s = record {
    stamped = λ n some. s.stamps.replied n some (ap (λ o. has_replied o n) (none.looks (c.worker n)));
    rising = λ k n lt same some. let h = s.order.traces k n lt same some in
        (h.0, strictly (w.stamp k) (w.stamp n) (none.even k) h.1);
  }

pub none_after_all : (c : Requests) (w : HistoryState) → HasNoReads w → (es : List Event) → MakeNoReads es → HasNoReads (after_all c w es)
none_after_all c w none [] make = none
none_after_all c w none (e ∷ es) make = none_after_all c (after c w e) (none_after c w none e make.0) es make.1
