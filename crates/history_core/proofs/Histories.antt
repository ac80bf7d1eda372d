-- Each event but a stamp keeps what is said of the history.
use Rattle.std.proofs.Common.{◌≡◌, ℕ, zero, suc, ◌≤◌, true, false, refl, sym, ap, ◌∙◌, subst, arith}
use Rattle.std.specs.Prelude.{max, Contains}
use mathlib.Core.Logic.{dite}
use native.Mathlib.Decide.{ℕ_discrete}
use Rattle.history_orders.specs.map_history.specs.Words.{word_of}
use Rattle.body_terms.specs.Update.{upd}
use Rattle.body_terms.specs.Run.{written_once}
use Rattle.history_orders.specs.Stamped.{Stamped}
use Rattle.history_core.specs.State.{Requests, HistoryState}
use Rattle.history_core.specs.Events.{Publish, LoadClock, RaiseClock, WriteReply, Free, after}
use Rattle.history_core.specs.Sound.{HistoryIsSound}
use Rattle.history_core.proofs.Changes.{upd_same, upd_other}

module _ (c : Requests) (w : HistoryState) (h : HistoryIsSound c w) where
  -- a section that comes further had its request stamped, or hasn't
  came : (d stage : ℕ) → (2 ≤ stage → 2 ≤ w.stage d) → (e : ℕ) → 2 ≤ upd w.stage d (max (w.stage d) stage) e → 2 ≤ w.stage e
  came d stage before e far = grind arith

  pub publish_history : (r d n answer : ℕ) → HistoryIsSound c (after c w (Publish r d n answer))
  publish_history r d n answer = record {
    history = h.history;
    replayed = h.replayed;
    pairs = h.pairs;
    answers = λ map e x used far at same. dite (ℕ_discrete e d)
        (λ own. let none = upd_same w.stage d e 0 own in absurd (omega arith))
        (λ other. upd_other w.answer d e answer other ∙ h.answers map e x (sym (upd_other w.used d e true other) ∙ used)
        (subst (λ stage. 2 ≤ stage) (upd_other w.stage d e 0 other) far) at (same ∙ upd_other w.request d e n other));
    replies = h.replies;
  }

  pub load_history : (r d : ℕ) → HistoryIsSound c (after c w (LoadClock r d))
  load_history r d = record {
    history = h.history;
    replayed = h.replayed;
    pairs = h.pairs;
    answers = λ map e x used far at same. h.answers map e x used (came d 1 (λ two. absurd (omega arith)) e far) at same;
    replies = h.replies;
  }

  pub raise_history : (d : ℕ) → 2 ≤ w.stage d → HistoryIsSound c (after c w (RaiseClock d))
  raise_history d before = record {
    history = h.history;
    replayed = h.replayed;
    pairs = h.pairs;
    answers = λ map e x used far at same. h.answers map e x used (came d 3 (λ three. before) e far) at same;
    replies = h.replies;
  }

  pub write_history : (d : ℕ) → w.used d ≡ true → 3 ≤ w.stage d → HistoryIsSound c (after c w (WriteReply d))
  write_history d used before = record {
    history = h.history;
    replayed = h.replayed;
    pairs = h.pairs;
    answers = λ map e x used' far at same. h.answers map e x used' (came d 4 (λ four. omega arith) e far) at same;
    replies = λ map x at some. dite (ℕ_discrete x.number (w.request d))
        (λ own. upd_same w.reply (w.request d) x.number _ own ∙ by_word map x at own (w.reply (w.request d)) refl)
        (λ other. let still = upd_other w.reply (w.request d) x.number (written_once (w.reply (w.request d)) (w.answer d)) other in
        still ∙ h.replies map x at (λ none. some (still ∙ none)));
  }
    where
      kept : (word answer : ℕ) → written_once (suc word) answer ≡ suc word
      kept word answer = grind arith

      -- the word that stands there is the section's answer, or the one that was there
      by_word : c.is_map ≡ true → (x : Stamped) → Contains w.history x → x.number ≡ w.request d → (word : ℕ) → w.reply (w.request d) ≡ word
          → written_once word (w.answer d) ≡ word_of x.reply
      by_word map x at own zero is = h.answers map d x used (omega arith) at own
      by_word map x at own (suc word) is = kept word (w.answer d) ∙ sym is ∙ ap w.reply (sym own) ∙ h.replies map x at (λ none. let stands = ap w.reply own ∙ is in omega arith)

  pub free_history : (d : ℕ) → HistoryIsSound c (after c w (Free d))
  free_history d = record {
    history = h.history;
    replayed = h.replayed;
    pairs = h.pairs;
    answers = λ map e x used far at same. h.answers map e x (still d e used) far at same;
    replies = h.replies;
  }
    where
      still : (d e : ℕ) → upd w.used d false e ≡ true → w.used e ≡ true
      still d e used = grind arith
