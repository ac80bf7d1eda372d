-- Each event keeps the invariant: replies, done words, and what is known.
use Rattle.std.proofs.Common.{◌≡◌, ◌≢◌, ℕ, ◌≤◌, true, sym, ◌∙◌, subst, arith}
use Rattle.std.specs.Prelude.{◌⊎◌}
use mathlib.Core.Logic.{dite}
use native.Mathlib.Decide.{ℕ_discrete}
use Rattle.body_terms.specs.Run.{written_once}
use Rattle.history_core.specs.State.{Requests, HistoryState}
use Rattle.history_core.specs.Events.{WriteReply, SetDone, Learn, after}
use Rattle.history_core.specs.Sound.{SectionsAreSound, StampsAreSound, ClockIsSound, OrderIsSound}
use Rattle.history_core.proofs.Changes.{upd_other}

module _ (c : Requests) (w : HistoryState) where
  pub write_sections : (d : ℕ) → w.used d ≡ true → 3 ≤ w.stage d → SectionsAreSound c w → StampsAreSound c w → ClockIsSound c w → OrderIsSound c w → SectionsAreSound c (after c w (WriteReply d))
  write_sections d used far sections stamps clock order = record {
    within = grind arith;
    positive = grind arith;
    ended = grind arith;
    owned = grind arith;
    published = grind arith;
    running = grind arith;
  }

  pub write_stamps : (d : ℕ) → w.used d ≡ true → 3 ≤ w.stage d → SectionsAreSound c w → StampsAreSound c w → ClockIsSound c w → OrderIsSound c w → StampsAreSound c (after c w (WriteReply d))
  write_stamps d used far sections stamps clock order = record {
    fresh = grind arith;
    stamped = grind arith;
    by_section = grind arith;
    told = grind arith;
    replied = λ n some not. dite (ℕ_discrete n (w.request d))
        (λ own. subst (λ k. w.stamp k ≢ 0) (sym own) (stamps.stamped d used (omega arith)).0)
        (λ other. stamps.replied n (λ none. some (upd_other w.reply (w.request d) n (written_once (w.reply (w.request d)) (w.answer d)) other ∙ none)) not);
    answered = grind arith;
    closed = grind arith;
    known = grind arith;
  }

  pub write_clock : (d : ℕ) → w.used d ≡ true → 3 ≤ w.stage d → SectionsAreSound c w → StampsAreSound c w → ClockIsSound c w → OrderIsSound c w → ClockIsSound c (after c w (WriteReply d))
  write_clock d used far sections stamps clock order = record {
    raised = grind arith;
    replied = grind arith;
    floor = grind arith;
    above = grind arith;
    hand = grind arith;
    keys = λ map r' k key loaded at stamped a b. let old = clock.keys map r' k key loaded in grind arith;
    small = grind arith;
    half = grind arith;
  }

  pub write_order : (d : ℕ) → w.used d ≡ true → 3 ≤ w.stage d → SectionsAreSound c w → StampsAreSound c w → ClockIsSound c w → OrderIsSound c w → OrderIsSound c (after c w (WriteReply d))
  write_order d used far sections stamps clock order = record {
    prior = grind arith;
    knew = grind arith;
    saw = order.saw;
    traces = order.traces;
  }

  pub set_done_sections : (d : ℕ) → w.used d ≡ true → (w.stage d ≡ 0) ⊎ (w.stage d ≡ 4) → SectionsAreSound c w → StampsAreSound c w → ClockIsSound c w → OrderIsSound c w → SectionsAreSound c (after c w (SetDone d))
  set_done_sections d used at sections stamps clock order = record {
    within = grind arith;
    positive = grind arith;
    ended = grind arith;
    owned = grind arith;
    published = grind arith;
    running = grind arith;
  }

  pub set_done_stamps : (d : ℕ) → w.used d ≡ true → (w.stage d ≡ 0) ⊎ (w.stage d ≡ 4) → SectionsAreSound c w → StampsAreSound c w → ClockIsSound c w → OrderIsSound c w → StampsAreSound c (after c w (SetDone d))
  set_done_stamps d used at sections stamps clock order = record {
    fresh = grind arith;
    stamped = grind arith;
    by_section = grind arith;
    told = grind arith;
    replied = stamps.replied;
    answered = grind arith;
    closed = grind arith;
    known = grind arith;
  }

  pub set_done_clock : (d : ℕ) → w.used d ≡ true → (w.stage d ≡ 0) ⊎ (w.stage d ≡ 4) → SectionsAreSound c w → StampsAreSound c w → ClockIsSound c w → OrderIsSound c w → ClockIsSound c (after c w (SetDone d))
  set_done_clock d used at sections stamps clock order = record {
    raised = grind arith;
    replied = grind arith;
    floor = grind arith;
    above = grind arith;
    hand = grind arith;
    keys = grind arith;
    small = grind arith;
    half = grind arith;
  }

  pub set_done_order : (d : ℕ) → w.used d ≡ true → (w.stage d ≡ 0) ⊎ (w.stage d ≡ 4) → SectionsAreSound c w → StampsAreSound c w → ClockIsSound c w → OrderIsSound c w → OrderIsSound c (after c w (SetDone d))
  set_done_order d used at sections stamps clock order = record {
    prior = grind arith;
    knew = grind arith;
    saw = order.saw;
    traces = order.traces;
  }

  pub learn_sections : (r n : ℕ) → w.stamp n ≢ 0 → w.reply n ≢ 0 → SectionsAreSound c w → StampsAreSound c w → ClockIsSound c w → OrderIsSound c w → SectionsAreSound c (after c w (Learn r n))
  learn_sections r n stamped replied sections stamps clock order = record {
    within = grind arith;
    positive = grind arith;
    ended = grind arith;
    owned = grind arith;
    published = grind arith;
    running = grind arith;
  }

  pub learn_stamps : (r n : ℕ) → w.stamp n ≢ 0 → w.reply n ≢ 0 → SectionsAreSound c w → StampsAreSound c w → ClockIsSound c w → OrderIsSound c w → StampsAreSound c (after c w (Learn r n))
  learn_stamps r n stamped replied sections stamps clock order = record {
    fresh = grind arith;
    stamped = grind arith;
    by_section = grind arith;
    told = grind arith;
    replied = stamps.replied;
    answered = grind arith;
    closed = grind arith;
    known = λ r' k know. let old = stamps.known r' k in grind arith;
  }

  pub learn_clock : (r n : ℕ) → w.stamp n ≢ 0 → w.reply n ≢ 0 → SectionsAreSound c w → StampsAreSound c w → ClockIsSound c w → OrderIsSound c w → ClockIsSound c (after c w (Learn r n))
  learn_clock r n stamped replied sections stamps clock order = record {
    raised = grind arith;
    replied = grind arith;
    floor = grind arith;
    above = grind arith;
    hand = grind arith;
    keys = grind arith;
    small = grind arith;
    half = grind arith;
  }

  pub learn_order : (r n : ℕ) → w.stamp n ≢ 0 → w.reply n ≢ 0 → SectionsAreSound c w → StampsAreSound c w → ClockIsSound c w → OrderIsSound c w → OrderIsSound c (after c w (Learn r n))
  learn_order r n stamped replied sections stamps clock order = record {
    prior = grind arith;
    knew = grind arith;
    saw = order.saw;
    traces = order.traces;
  }
