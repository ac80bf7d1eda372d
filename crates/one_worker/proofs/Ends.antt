-- How a run of the section that is under way ends.
use Rattle.std.specs.Prelude.{◌==◌, ◌&&◌, not, cond, Bool, true, false, slice_index}
use Rattle.std.proofs.Common.{◌≡◌, ◌≢◌, ℕ, ◌<◌, ◌≤◌, List, length, refl, sym, ap, ◌∙◌, subst, arith, Option, Some, None}
use Rattle.machine_states.specs.epoch_core.specs.small_lemmas.proofs.Numbers.{equal_tested as same_test}
use Rattle.machine_states.specs.map_history.specs.declared.op.Request.{Request}
use Rattle.machine_states.specs.body_terms.specs.Line.{line, micro_at}
use Rattle.machine_states.specs.body_terms.specs.Run.{leaves, is_takable, refusal}
use Rattle.machine_states.specs.body_terms.specs.Word.{version_of, held_word, is_free, is_spent}
use Rattle.machine_states.specs.body_terms.specs.declared.outcome.Outcome.{Outcome}
use Rattle.machine_states.specs.body_terms.specs.declared.outcome.Outcome.TheVariants.{Spent, Stale}
use Rattle.machine_states.specs.body_terms.specs.declared.micro.Micro.{Micro}
use Rattle.machine_states.specs.body_terms.specs.declared.micro.Micro.TheVariants as micros
use Rattle.machine_states.specs.body_terms.specs.declared.thunk.Thunk.{Thunk}
use Rattle.agreement_core.specs.section_lines.specs.Line.{IsLine}
use Rattle.machine_states.specs.table_words.specs.declared.layout.Layout.{Layout}
use Rattle.machine_states.specs.structure_laws.specs.Meaning.{Meaning}
use Rattle.machine_states.specs.runner_parts.specs.State.{RunState}
use Rattle.machine_states.specs.runner_steps.specs.Sections.{thunk_of, line_of, setting_of, outcome_or, outcome_of, reply_in}
use Rattle.agreement_core.specs.State.{Section}
use Rattle.agreement_core.proofs.Lines.{word_logged, free_logged, held_logged}
use Rattle.machine_states.specs.Sight.{Sight}
use Rattle.resource_bounds.specs.machine_epochs.specs.Slots.{thunk_in}
use Rattle.resource_bounds.specs.machine_scenes.specs.Shown.{rules_of}
use Rattle.runner_facts.specs.machine_facts.specs.machine_agreement.proofs.RunPlaces.{opened_thunk}
use Rattle.runner_facts.specs.machine_facts.specs.machine_invariant.specs.Whole.{IsWhole}
use Rattle.resource_bounds.specs.reached_histories.specs.Laws.{HasHistory}
use Rattle.one_worker.specs.Lone.{IsAnswerOrSpent}
use Rattle.one_worker.proofs.Cells as cells_of
use Rattle.machine_states.specs.body_terms.specs.block_words.specs.Blocks.{log_in}
use Rattle.machine_states.specs.runner_steps.specs.Outside.{is_sure_of}
use Rattle.runner_facts.specs.machine_facts.specs.machine_invariant.proofs.LogSteps.{IsSure}
use Rattle.one_worker.proofs.State.{in_line, code_is, sound, log_same}
use Rattle.one_worker.proofs.Goes.{Goes}

-- no other refusal
abbrev pub NoRefusal : Option Outcome → Type 0
NoRefusal None = Unit {0}
NoRefusal (Some outcome) = IsAnswerOrSpent outcome

no_refusal : (o : Option Outcome) (reply : ℕ) → NoRefusal o → IsAnswerOrSpent (outcome_or o reply)
no_refusal None reply h = tt
no_refusal (Some outcome) reply h = h

module _ (m : Meaning) (l : Layout) (rs : List Request) (s : Sight) (history : HasHistory m l rs s) (d : ℕ) (t : Thunk)
    (used : history.beside.agreement.used d ≡ true) (thunk_is : thunk_in s.word d ≡ t) (goes : Goes m s d t)
    (r : ℕ) (q : RunState) (runs : (s.part r).run ≡ Some q) (of : q.descriptor ≡ d) (all : length q.opened ≡ 13) where
  whole : IsWhole m l history.beside s
  whole = history.whole

  abbrev x : Section
  x = history.beside.agreement.section d

  line_is : IsLine m.is_lock l.version_max x.lock x.code x.slot
  line_is = in_line m l rs s history d t used thunk_is

  abbrev micro : Micro
  micro = micro_at (line_of m q) q.at

  code_t : micro_at (line (m.body t)) q.at ≡ micro
  code_t =
      let thunk : thunk_of q.opened ≡ t = sym (opened_thunk m l history.beside.agreement s whole.sections r q runs all) ∙ (ap (thunk_in s.word) of ∙ thunk_is) in
      sym (ap (λ (u : Thunk). micro_at (line (m.body u)) q.at) thunk)

  -- the runner is sure of the section's descriptor
  sure : IsSure s d
  sure = (r, subst (λ e. is_sure_of (s.part r).guards e ≡ true) of ((whole.slots.tied r).run_sure q runs))

  -- what the run has agreed on stands in the log
  agreed : (k : ℕ) → k < x.slot q.at → (slice_index q.trail k ≡ log_in s.word d k) × (log_in s.word d k ≢ 0)
  agreed k low =
      let behind = subst (λ e. q.at ≤ (history.beside.agreement.section e).edge) of (cells_of.behind m l history.beside s whole r q runs all) in
      let rises = line_is.counted.slot_rises q.at x.edge behind in
      let full = (sound m l rs s history d t used thunk_is).section.in_log.full k (omega (arith, low, rises)) in
      let same = log_same m l rs s history d t used thunk_is sure k in (
        subst (λ e. k < (history.beside.agreement.section e).slot q.at → slice_index q.trail k ≡ (history.beside.agreement.section e).log k) of
            (cells_of.trail_is m l history.beside s whole r q runs all k) low ∙ same,
        λ z. omega (arith, full, same, z),
      )

  code_x : (y : Micro) → micro ≡ y → x.code q.at ≡ y
  code_x y e = code_is m l rs s history d t used thunk_is q.at y (code_t ∙ e)

  no_leave : (y : Micro) → micro ≡ y → NoRefusal (leaves (setting_of l q.descriptor) q.trail y)
  no_leave (micros.CheckWord p k w) e =
      let low = word_logged (rules_of m l) x.lock x.code x.slot line_is q.at p k w (code_x _ e) in
      let known = agreed k low in
      let same = known.0 ∙ goes.wanted q.at p k w (code_t ∙ e) known.1 in
      subst (λ b. NoRefusal (cond b None (Some (Stale p w (slice_index q.trail k))))) (sym (same_test (slice_index q.trail k) w same)) tt
  no_leave (micros.CheckFresh p k) e = by (version_of (slice_index q.trail k) == l.version_max)
    where
      by : (b : Bool) → NoRefusal (cond b (Some (Spent p (slice_index q.trail k))) None)
      by true = tt
      by false = tt
  no_leave (micros.CheckFree p k w) e =
      let low = free_logged (rules_of m l) x.lock x.code x.slot line_is q.at p k w (code_x _ e) in
      let known = agreed k low in
      let same = known.0 ∙ goes.free q.at p k w (code_t ∙ e) known.1 in
      let free = line_is.placed.take_free q.at p k w (code_x _ e) in
      let unspent = line_is.placed.take_unspent q.at p k w (code_x _ e) in
      let takable : is_takable (setting_of l q.descriptor) w (slice_index q.trail k) ≡ true = passes (slice_index q.trail k) w same free unspent in
      subst (λ b. NoRefusal (cond b None (Some (refusal (setting_of l q.descriptor) p w (slice_index q.trail k))))) (sym takable) tt
    where
      passes : (n w : ℕ) → n ≡ w → is_free w ≡ true → is_spent l.version_max w ≡ false → (n == w && (is_free n && not (is_spent l.version_max n))) ≡ true
      passes n w same free unspent = subst (λ i. (i == w && (is_free i && not (is_spent l.version_max i))) ≡ true) (sym same)
          (ap (λ b. b && (is_free w && not (is_spent l.version_max w))) (same_test w w refl)
          ∙ (ap (λ b. b && not (is_spent l.version_max w)) free ∙ ap not unspent))
  no_leave (micros.CheckHeld p k w) e =
      let low = held_logged (rules_of m l) x.lock x.code x.slot line_is q.at p k w (code_x _ e) in
      let known = agreed k low in
      let same = known.0 ∙ (goes.held q.at p k w (code_t ∙ e) known.1 ∙ ap (λ n. held_word n w) (sym of)) in
      subst (λ b. NoRefusal (cond b None (Some (refusal (setting_of l q.descriptor) p w (slice_index q.trail k)))))
      (sym (same_test (slice_index q.trail k) (held_word q.descriptor w) same)) tt
  no_leave y e = tt

  pub ends_so : IsAnswerOrSpent (outcome_of m l q)
  ends_so = no_refusal _ (reply_in (m.body (thunk_of q.opened))) (no_leave micro refl)
