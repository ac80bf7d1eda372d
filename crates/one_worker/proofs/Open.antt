-- With one worker every section is its own.
use Rattle.std.specs.Prelude.{◌==◌, ◌%◌, not, true, false}
use Rattle.std.proofs.Common.{◌≡◌, ◌≢◌, ℕ, zero, suc, List, refl, sym, ap, ◌∙◌, arith, Option, Some, None}
use Rattle.machine_states.specs.map_history.specs.declared.op.Request.{Request}
use Rattle.machine_states.specs.body_terms.specs.Word.{value_of}
use Rattle.machine_states.specs.table_words.specs.declared.layout.Layout.{Layout}
use Rattle.machine_states.specs.structure_laws.specs.Meaning.{Meaning}
use Rattle.machine_states.specs.runner_parts.specs.declared.entries.Published.{Published}
use Rattle.agreement_core.specs.State.{AgreementState}
use Rattle.resource_bounds.specs.reached_histories.specs.history_core.specs.State.{Requests, HistoryState}
use Rattle.resource_bounds.specs.reached_histories.specs.history_core.specs.Sound.{IsSound}
use Rattle.machine_states.specs.Sight.{Sight}
use Rattle.resource_bounds.specs.reached_histories.specs.machine_history.specs.Tied.{AreTied}
use Rattle.runner_facts.specs.machine_facts.specs.machine_agreement.proofs.RunPlaces.{used_here}
use Rattle.runner_facts.specs.machine_facts.specs.machine_invariant.specs.Whole.{states_of, IsWhole}
use Rattle.resource_bounds.specs.reached_histories.specs.Requests.{requests_of}
use Rattle.resource_bounds.specs.reached_histories.specs.Kept.{link_of}
use Rattle.resource_bounds.specs.reached_histories.specs.Laws.{HasHistory}
use Rattle.resource_bounds.specs.Versions.{open_count}
use Rattle.one_worker.specs.Alone.{NoneIsOpen}

module _ (m : Meaning) (l : Layout) (rs : List Request) (s : Sight) (stands : HasHistory m l rs s) (one : l.runners ≡ 1) where
  abbrev c : Requests
  c = requests_of m l rs

  abbrev a : AgreementState
  a = stands.beside.agreement

  abbrev h : HistoryState
  h = stands.state

  whole : IsWhole m l stands.beside s
  whole = stands.whole

  sound : IsSound c h
  sound = stands.joined.sound

  tied : AreTied c (states_of stands.beside s) h
  tied = stands.joined.tied

  -- each request is the worker's
  pub only : (n : ℕ) → c.worker n ≡ 0
  only n = rest (l.runners) one
    where
      by_one : (k : ℕ) → k % 1 ≡ 0
      by_one k = omega arith

      rest : (k : ℕ) → k ≡ 1 → c.trace n % k ≡ 0
      rest k e = ap (λ i. c.trace n % i) e ∙ by_one (c.trace n)

  -- who has published a section is the worker
  pub owner : (r d : ℕ) → link_of (s.part r).published ≡ suc d → r ≡ 0
  owner r d e = sym (sound.sections.owned r d (stands.kept.published r ∙ e)).1 ∙ only (h.request d)

  module _ (quiet : open_count (s.part 0).published ≡ 0) where
    no_link : (o : Option Published) → open_count o ≡ 0 → link_of o ≡ 0
    no_link None e = refl
    no_link (Some x) e = absurd (omega (arith, e))

    none : link_of (s.part 0).published ≡ 0
    none = no_link (s.part 0).published quiet

    -- so each published section is done
    pub done_used : (d : ℕ) → a.used d ≡ true → (a.section d).done ≢ 0
    done_used d used undone =
        let going : h.done d ≡ false = (tied.sections d used).done ∙ ap (λ n. not (n == 0)) undone in
        let open_one = sound.sections.published d (tied.used d ∙ used) going in
        let first : h.published 0 ≡ suc d = ap h.published (sym (only (h.request d))) ∙ open_one in
        let kept = stands.kept.published 0 in let nothing = none in absurd (omega (arith, first, kept, nothing))

    -- and no lock names one
    unlocked : (p : ℕ) → m.is_lock p ≡ true → value_of (a.shared.cells p) ≡ 0
    unlocked p lock = by (value_of (a.shared.cells p)) refl
      where
        by : (n : ℕ) → value_of (a.shared.cells p) ≡ n → n ≡ 0
        by zero e = refl
        by (suc d) e =
            let live = whole.kept.agreement.named p d lock e in
            let there = whole.tied.publisher d live in
            owned (stands.beside.publications.runner d) there.0 there.1 there.2
          where
            owned : (r : ℕ) (x : Published) → (s.part r).published ≡ Some x → x.descriptor ≡ d → suc d ≡ 0
            owned r x is at =
                let link : link_of (s.part r).published ≡ suc d = ap link_of is ∙ ap suc at in
                let first : link_of (s.part 0).published ≡ suc d = ap (λ i. link_of (s.part i).published) (sym (owner r d link)) ∙ link in
                let nothing = none in absurd (omega (arith, first, nothing))

    pub none_open : NoneIsOpen m s
    none_open = record {
      unlocked = λ p lock. ap value_of (sym (whole.sections.words.cells p)) ∙ unlocked p lock;
      done = λ r q is e. done_used q.descriptor (used_here m l a s whole.sections r q is) ((whole.sections.sections q.descriptor).done ∙ e);
    }
