-- Each event keeps the invariant: publications, the ends of runs, and descriptors that are free again.
use Rattle.std.proofs.Common.{◌≡◌, ◌≢◌, ℕ, suc, true, false, cond, sym, ap, ◌∙◌, arith}
use Rattle.std.specs.Prelude.{◌==◌}
use mathlib.Core.Logic.{dite}
use native.Mathlib.Decide.{ℕ_discrete}
use Rattle.body_terms.specs.Update.{upd}
use Rattle.history_core.specs.State.{Requests, HistoryState}
use Rattle.history_core.specs.Events.{Publish, Over, Free, MayPublish, IsOver, MayFree, after}
use Rattle.history_core.specs.Sound.{SectionsAreSound, StampsAreSound, ClockIsSound, OrderIsSound}
use Rattle.history_core.proofs.Changes.{upd_same, upd_other}

module _ (c : Requests) (w : HistoryState) where
  pub publish_sections : (r d n answer : ℕ) → MayPublish c w r d n answer → SectionsAreSound c w → StampsAreSound c w → ClockIsSound c w → OrderIsSound c w → SectionsAreSound c (after c w (Publish r d n answer))
  publish_sections r d n answer may sections stamps clock order = record {
    within = grind arith;
    positive = grind arith;
    ended = grind arith;
    owned = grind arith;
    published = grind arith;
    running = grind arith;
  }

  pub publish_stamps : (r d n answer : ℕ) → MayPublish c w r d n answer → SectionsAreSound c w → StampsAreSound c w → ClockIsSound c w → OrderIsSound c w → StampsAreSound c (after c w (Publish r d n answer))
  publish_stamps r d n answer may sections stamps clock order = record {
    fresh = grind arith;
    stamped = grind arith;
    by_section = grind arith;
    told = grind arith;
    replied = stamps.replied;
    answered = grind arith;
    closed = grind arith;
    known = grind arith;
  }

  pub publish_clock : (r d n answer : ℕ) → MayPublish c w r d n answer → SectionsAreSound c w → StampsAreSound c w → ClockIsSound c w → OrderIsSound c w → ClockIsSound c (after c w (Publish r d n answer))
  publish_clock r d n answer may sections stamps clock order = record {
    raised = grind arith;
    replied = grind arith;
    floor = grind arith;
    above = grind arith;
    hand = grind arith;
    keys = λ map r' k key loaded at stamped a b. let run = sections.running r' loaded in let old = clock.keys map r' k key loaded in grind arith;
    small = grind arith;
    half = grind arith;
  }

  pub publish_order : (r d n answer : ℕ) → MayPublish c w r d n answer → SectionsAreSound c w → StampsAreSound c w → ClockIsSound c w → OrderIsSound c w → OrderIsSound c (after c w (Publish r d n answer))
  publish_order r d n answer may sections stamps clock order = record {
    prior = grind arith;
    knew = λ d' k used know. let old = order.knew d' k in let read = stamps.known r k in let low = clock.replied k in grind arith;
    saw = order.saw;
    traces = order.traces;
  }

  pub over_sections : (r : ℕ) → IsOver c w r → SectionsAreSound c w → StampsAreSound c w → ClockIsSound c w → OrderIsSound c w → SectionsAreSound c (after c w (Over r))
  over_sections r may sections stamps clock order = record {
    within = grind arith;
    positive = grind arith;
    ended = grind arith;
    owned = grind arith;
    published = grind arith;
    running = grind arith;
  }

  pub over_stamps : (r : ℕ) → IsOver c w r → SectionsAreSound c w → StampsAreSound c w → ClockIsSound c w → OrderIsSound c w → StampsAreSound c (after c w (Over r))
  over_stamps r may sections stamps clock order = record {
    fresh = grind arith;
    stamped = grind arith;
    by_section = grind arith;
    told = grind arith;
    replied = stamps.replied;
    answered = grind arith;
    closed = grind arith;
    known = grind arith;
  }

  pub over_clock : (r : ℕ) → IsOver c w r → SectionsAreSound c w → StampsAreSound c w → ClockIsSound c w → OrderIsSound c w → ClockIsSound c (after c w (Over r))
  over_clock r may sections stamps clock order = record {
    raised = grind arith;
    replied = grind arith;
    floor = grind arith;
    above = grind arith;
    hand = grind arith;
    keys = grind arith;
    small = grind arith;
    half = grind arith;
  }

  pub over_order : (r : ℕ) → IsOver c w r → SectionsAreSound c w → StampsAreSound c w → ClockIsSound c w → OrderIsSound c w → OrderIsSound c (after c w (Over r))
  over_order r may sections stamps clock order = record {
    prior = grind arith;
    knew = grind arith;
    saw = order.saw;
    traces = order.traces;
  }

  pub free_sections : (d : ℕ) → MayFree c w d → SectionsAreSound c w → StampsAreSound c w → ClockIsSound c w → OrderIsSound c w → SectionsAreSound c (after c w (Free d))
  free_sections d may sections stamps clock order = record {
    within = grind arith;
    positive = grind arith;
    ended = grind arith;
    owned = grind arith;
    published = grind arith;
    running = grind arith;
  }

  used_before : (d e : ℕ) → upd w.used d false e ≡ true → w.used e ≡ true
  used_before d e used = grind arith

  -- a link that stands at a request is that of another section than the one whose descriptor is free again
  pub by_still : (d : ℕ) → StampsAreSound c w → (k e : ℕ) → upd w.by (w.request d) (cond (w.by (w.request d) == suc d) 0 (w.by (w.request d))) k ≡ suc e → (w.by k ≡ suc e) × (e ≢ d)
  by_still d stamps k e is = dite (ℕ_discrete k (w.request d)) (λ same. here (sym (upd_same w.by (w.request d) k _ same) ∙ is) same)
      (λ other. let before = sym (upd_other w.by (w.request d) k _ other) ∙ is in
      (before, λ same. other (sym (stamps.by_section k d (before ∙ ap suc same)).1)))
    where
      chosen : (a b e : ℕ) → cond (a == suc b) 0 a ≡ suc e → (a ≡ suc e) × (e ≢ b)
      chosen a b e is = grind arith

      here : cond (w.by (w.request d) == suc d) 0 (w.by (w.request d)) ≡ suc e → k ≡ w.request d → (w.by k ≡ suc e) × (e ≢ d)
      here is same = let found = chosen (w.by (w.request d)) d e is in (ap w.by same ∙ found.0, found.1)

  other_used : (d e : ℕ) → upd w.used d false e ≡ true → e ≢ d
  other_used d e used = grind arith

  -- and that of another section stands
  by_stands : (d e : ℕ) → e ≢ d → w.by (w.request e) ≡ suc e
      → upd w.by (w.request d) (cond (w.by (w.request d) == suc d) 0 (w.by (w.request d))) (w.request e) ≡ suc e
  by_stands d e other is = dite (ℕ_discrete (w.request e) (w.request d))
      (λ same. upd_same w.by (w.request d) (w.request e) _ same ∙ kept (w.by (w.request d)) (ap w.by (sym same) ∙ is))
      (λ apart. upd_other w.by (w.request d) (w.request e) _ apart ∙ is)
    where
      kept : (link : ℕ) → link ≡ suc e → cond (link == suc d) 0 link ≡ suc e
      kept link is = grind arith

  pub free_stamps : (d : ℕ) → MayFree c w d → SectionsAreSound c w → StampsAreSound c w → ClockIsSound c w → OrderIsSound c w → StampsAreSound c (after c w (Free d))
  free_stamps d may sections stamps clock order = record {
    fresh = λ e used going low. stamps.fresh e (used_before d e used) going low;
    stamped = λ e used far. let old = stamps.stamped e (used_before d e used) far in
        (old.0, by_stands d e (other_used d e used) old.1);
    by_section = λ k e is. let still = by_still d stamps k e is in let by = stamps.by_section k e still.0 in (upd_other w.used d e false still.1 ∙ by.0, by.1, by.2);
    told = grind arith;
    replied = stamps.replied;
    answered = grind arith;
    closed = grind arith;
    known = grind arith;
  }

  pub free_clock : (d : ℕ) → MayFree c w d → SectionsAreSound c w → StampsAreSound c w → ClockIsSound c w → OrderIsSound c w → ClockIsSound c (after c w (Free d))
  free_clock d may sections stamps clock order = record {
    raised = grind arith;
    replied = grind arith;
    floor = grind arith;
    above = grind arith;
    hand = grind arith;
    keys = grind arith;
    small = grind arith;
    half = grind arith;
  }

  pub free_order : (d : ℕ) → MayFree c w d → SectionsAreSound c w → StampsAreSound c w → ClockIsSound c w → OrderIsSound c w → OrderIsSound c (after c w (Free d))
  free_order d may sections stamps clock order = record {
    prior = grind arith;
    knew = grind arith;
    saw = order.saw;
    traces = order.traces;
  }
