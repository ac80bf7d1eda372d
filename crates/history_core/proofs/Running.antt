-- Each event keeps the invariant: the clock is loaded and raised.
use Rattle.std.proofs.Common.{◌≡◌, ◌≢◌, ℕ, zero, suc, ◌≤◌, true, refl, sym, ap, subst, arith}
use Rattle.std.specs.Prelude.{◌/◌, max}
use mathlib.Core.Logic.{dite}
use native.Mathlib.Decide.{ℕ_discrete}
use Rattle.history_orders.specs.map_history.specs.Keys.{DependsOn}
use Rattle.body_terms.specs.Update.{upd}
use Rattle.history_core.specs.State.{Requests, HistoryState}
use Rattle.history_core.specs.Events.{LoadClock, RaiseClock, MayLoad, after}
use Rattle.history_core.specs.Sound.{SectionsAreSound, StampsAreSound, ClockIsSound, OrderIsSound}

module _ (c : Requests) (w : HistoryState) where
  pub load_sections : (r d : ℕ) → MayLoad c w d → SectionsAreSound c w → StampsAreSound c w → ClockIsSound c w → OrderIsSound c w → SectionsAreSound c (after c w (LoadClock r d))
  load_sections r d may sections stamps clock order = record {
    within = grind arith;
    positive = grind arith;
    ended = grind arith;
    owned = grind arith;
    published = grind arith;
    running = grind arith;
  }

  pub load_stamps : (r d : ℕ) → MayLoad c w d → SectionsAreSound c w → StampsAreSound c w → ClockIsSound c w → OrderIsSound c w → StampsAreSound c (after c w (LoadClock r d))
  load_stamps r d may sections stamps clock order = record {
    fresh = grind arith;
    stamped = grind arith;
    by_section = grind arith;
    told = grind arith;
    replied = stamps.replied;
    answered = grind arith;
    closed = grind arith;
    known = grind arith;
  }

  -- a stamped request with a key that no section has between its stamp and its raise: the clock was raised for it
  pub raised_for : (key : ℕ) → ((e : ℕ) → w.used e ≡ true → w.stage e ≡ 2 → DependsOn (c.op (w.request e)) key → ⊥)
      → StampsAreSound c w → ClockIsSound c w → (k : ℕ) → w.stamp k ≢ 0 → DependsOn (c.op k) key → w.stamp k / 2 ≤ w.clock
  raised_for key alone stamps clock k stamped a = by_link (w.by k) refl
    where
      by_link : (link : ℕ) → w.by k ≡ link → w.stamp k / 2 ≤ w.clock
      by_link zero none = clock.replied k (stamps.closed k stamped none)
      by_link (suc e) is =
          let by = stamps.by_section k e is in
          dite (ℕ_discrete (w.stage e) 2)
          (λ two. absurd (alone e by.0 two (subst (λ n. DependsOn (c.op n) key) (sym by.1) a)))
          (λ other. subst (λ n. w.stamp n / 2 ≤ w.clock) by.1 (clock.raised e by.0 (let far = by.2 in omega arith)))

  -- so it was for each one with a key in common with a section that may be the first to load the clock
  passed_clock : (d : ℕ) → MayLoad c w d → StampsAreSound c w → ClockIsSound c w → c.is_map ≡ true → w.stage d ≤ 1 → (k key : ℕ) → w.stamp k ≢ 0
      → DependsOn (c.op k) key → DependsOn (c.op (w.request d)) key → w.stamp k / 2 ≤ w.clock
  passed_clock d may stamps clock map low k key stamped a b = raised_for key
      (λ e used two on. may.alone map low e (λ same. let at = ap w.stage same in omega arith) used (omega arith) (omega arith) key b on)
      stamps clock k stamped a

  load_keys : (r d : ℕ) → MayLoad c w d → SectionsAreSound c w → StampsAreSound c w → ClockIsSound c w → c.is_map ≡ true → (r' k key : ℕ) → upd w.loaded r true r' ≡ true
      → upd w.stage d (max (w.stage d) 1) (upd w.run r d r') ≡ 1 → w.stamp k ≢ 0 → DependsOn (c.op k) key → DependsOn (c.op (w.request (upd w.run r d r'))) key → w.stamp k / 2 ≤ upd w.hand r w.clock r'
  load_keys r d may sections stamps clock map r' k key ready at stamped a b = dite (ℕ_discrete r' r)
      (λ same.
      let here : upd w.run r d r' ≡ d = grind arith in
      let low : w.stage d ≤ 1 = grind arith in
      let up = passed_clock d may stamps clock map low k key stamped a (subst (λ e. DependsOn (c.op (w.request e)) key) here b) in
      grind arith)
      (λ other.
      let here : upd w.run r d r' ≡ w.run r' = grind arith in
      let before : w.loaded r' ≡ true = grind arith in
      let run = sections.running r' before in
      let far : w.stage (w.run r') ≡ 1 = grind arith in
      let up = clock.keys map r' k key before far stamped a (subst (λ e. DependsOn (c.op (w.request e)) key) here b) in
      grind arith)

  pub load_clock : (r d : ℕ) → MayLoad c w d → SectionsAreSound c w → StampsAreSound c w → ClockIsSound c w → OrderIsSound c w → ClockIsSound c (after c w (LoadClock r d))
  load_clock r d may sections stamps clock order = record {
    raised = grind arith;
    replied = grind arith;
    floor = grind arith;
    above = grind arith;
    hand = grind arith;
    keys = λ map r' k key ready at stamped a b. load_keys r d may sections stamps clock map r' k key ready at stamped a b;
    small = grind arith;
    half = grind arith;
  }

  pub load_order : (r d : ℕ) → MayLoad c w d → SectionsAreSound c w → StampsAreSound c w → ClockIsSound c w → OrderIsSound c w → OrderIsSound c (after c w (LoadClock r d))
  load_order r d may sections stamps clock order = record {
    prior = grind arith;
    knew = grind arith;
    saw = order.saw;
    traces = order.traces;
  }

  pub raise_sections : (d : ℕ) → w.used d ≡ true → 2 ≤ w.stage d → SectionsAreSound c w → StampsAreSound c w → ClockIsSound c w → OrderIsSound c w → SectionsAreSound c (after c w (RaiseClock d))
  raise_sections d used far sections stamps clock order = record {
    within = grind arith;
    positive = grind arith;
    ended = grind arith;
    owned = grind arith;
    published = grind arith;
    running = grind arith;
  }

  pub raise_stamps : (d : ℕ) → w.used d ≡ true → 2 ≤ w.stage d → SectionsAreSound c w → StampsAreSound c w → ClockIsSound c w → OrderIsSound c w → StampsAreSound c (after c w (RaiseClock d))
  raise_stamps d used far sections stamps clock order = record {
    fresh = grind arith;
    stamped = grind arith;
    by_section = grind arith;
    told = grind arith;
    replied = stamps.replied;
    answered = grind arith;
    closed = grind arith;
    known = grind arith;
  }

  pub raise_clock : (d : ℕ) → w.used d ≡ true → 2 ≤ w.stage d → SectionsAreSound c w → StampsAreSound c w → ClockIsSound c w → OrderIsSound c w → ClockIsSound c (after c w (RaiseClock d))
  raise_clock d used far sections stamps clock order = record {
    raised = grind arith;
    replied = grind arith;
    floor = grind arith;
    above = grind arith;
    hand = grind arith;
    keys = λ map r' k key loaded at stamped a b. let old = clock.keys map r' k key loaded in grind arith;
    small = grind arith;
    half = grind arith;
  }

  pub raise_order : (d : ℕ) → w.used d ≡ true → 2 ≤ w.stage d → SectionsAreSound c w → StampsAreSound c w → ClockIsSound c w → OrderIsSound c w → OrderIsSound c (after c w (RaiseClock d))
  raise_order d used far sections stamps clock order = record {
    prior = grind arith;
    knew = grind arith;
    saw = order.saw;
    traces = order.traces;
  }
