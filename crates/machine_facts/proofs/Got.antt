-- A lock that a section has got by a Take has the section's word until the section is done.
use Rattle.std.specs.Prelude.{slice_index}
use Rattle.std.proofs.Common.{◌≡◌, ℕ, suc, ◌<◌, true, List, length, Some, refl, sym, ap, ◌∙◌, subst, ⊎_elim, arith}
use Rattle.std.proofs.lemmas.Bool.{cases_lt}
use Rattle.std.proofs.lemmas.Option.{slice_get_within, get_or_from_slice_get}
use Rattle.machine_states.specs.map_history.specs.declared.op.Request.{Request}
use Rattle.machine_states.specs.body_terms.specs.Line.{line, micro_at}
use Rattle.machine_states.specs.body_terms.specs.Word.{value_of, held_word}
use Rattle.machine_states.specs.body_terms.specs.declared.thunk.Thunk.{Thunk}
use Rattle.machine_states.specs.body_terms.proofs.ValueLemmas.{get_or-first_values}
use Rattle.machine_states.specs.table_words.specs.declared.layout.Layout.{Layout}
use Rattle.machine_states.specs.table_words.specs.declared.spot.Spot.TheVariants.{Cell, DoneWord}
use Rattle.machine_states.specs.structure_laws.specs.Meaning.{Meaning}
use Rattle.machine_states.specs.structure_laws.specs.Laws.{Laws}
use Rattle.machine_states.specs.runner_parts.specs.State.{RunState}
use Rattle.machine_states.specs.runner_steps.specs.Sections.{line_of}
use Rattle.agreement_core.specs.State.{AgreementState}
use Rattle.agreement_core.proofs.Standing.{takes_stand}
use Rattle.agreement_core.proofs.Words.{value_held}
use Rattle.machine_states.specs.Sight.{Sight, sight}
use Rattle.machine_invariant.specs.machine_blocks.specs.machine_guards.specs.machine_agreement.specs.machine_epochs.proofs.Places.{run_thunk}
use Rattle.machine_invariant.specs.machine_blocks.specs.machine_guards.specs.machine_agreement.specs.machine_scenes.specs.Shown.{rules_of}
use Rattle.machine_invariant.specs.Trails.{log_of}
use Rattle.machine_invariant.specs.Whole.{Beside, IsWhole}
use Rattle.machine_invariant.proofs.After.{reached_whole}
use Rattle.machine_invariant.proofs.Trails.{run_used, trails_agree}
use Rattle.machine_facts.specs.Got.{HasGot, ReachedGotLocksAreHeld}

module _ (m : Meaning) (l : Layout) (g : Beside) (s : Sight) (whole : IsWhole m l g s) (r place free : ℕ) (q : RunState)
    (is : (s.part r).run ≡ Some q) (opened : length q.opened ≡ 13) (got : HasGot m q place free) where
  abbrev a : AgreementState
  a = g.agreement

  abbrev d : ℕ
  d = q.descriptor

  used : a.used d ≡ true
  used = run_used m l a s whole.sections r q is

  code_is : (i : ℕ) → (a.section d).code i ≡ micro_at (line_of m q) i
  code_is i = (whole.sections.thunks d used).code i
      ∙ ap (λ (t : Thunk). micro_at (line (m.body t)) i) (run_thunk m l g.epochs s whole.slots r q is opened)

  -- what the trail says, the log says
  log_is : (a.section d).log got.log ≡ held_word d free
  log_is =
      let within = slice_get_within q.trail got.log (held_word d free) got.agreed in
      let prefix = (trails_agree m l a s whole.sections).prefix r q is in
      sym (get_or-first_values (length q.trail) (log_of m a s d) got.log within)
      ∙ (ap (λ (xs : List ℕ). slice_index xs got.log) (sym prefix)
      ∙ get_or_from_slice_get q.trail got.log (held_word d free) 0 got.agreed)

  -- a word that isn't 0 was agreed on below the edge
  below : suc (suc got.at) < (a.section d).edge
  below = ⊎_elim (λ lt. lt)
      (λ ge.
      let own = whole.sections.sound.sections d used in
      let counted = own.published.line.counted in
      let here = counted.outcome_log (suc (suc got.at)) place got.log (code_is (suc (suc got.at)) ∙ got.commits) in
      let rises = counted.slot_rises ((a.section d).edge) (suc (suc got.at)) ge in
      let none = own.section.in_log.empty got.log (omega arith) in
      let named : value_of 0 ≡ suc d = subst (λ w. value_of w ≡ suc d) (sym log_is ∙ none) (value_held d free own.published.link) in
      absurd (omega arith))
      (cases_lt (suc (suc got.at)) ((a.section d).edge))

  held : s.word (DoneWord d) ≡ 0 → s.word (Cell place) ≡ held_word d free
  held none = sym (whole.sections.words.cells place)
      ∙ (takes_stand (rules_of m l) a whole.sections.sound d used).held
      (record { used = used; undone = (whole.sections.sections d).done ∙ none }) place free (held_word d free)
      (record {
        at = got.at;
        log = got.log;
        passed = below;
        hold = code_is got.at ∙ got.takes;
        commit = code_is (suc (suc got.at)) ∙ got.commits;
        agreed = sym log_is;
      }) refl

pub reached_got_held : (m : Meaning) → Laws m → (l : Layout) (rs : List Request) → ReachedGotLocksAreHeld m l rs
reached_got_held m laws l rs limits allowed w reached r place free q is opened got =
    let whole = reached_whole m laws l rs reached.events w limits allowed reached.after in
    held m l whole.0 (sight m l rs w) whole.1 r place free q is opened got
