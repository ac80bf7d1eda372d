-- Runs of sections.
use Rattle.std.proofs.Common.{◌≡◌, ℕ, ◌-◌, ◌≤◌, false, sym, ap, ◌∙◌, subst, arith, Some}
use Rattle.std.proofs.lemmas.Bool.Decides.{nat_tests}
use Rattle.machine_states.specs.body_terms.specs.Trail.{Agreed}
use Rattle.machine_states.specs.body_terms.specs.Word.{value_of, is_free}
use Rattle.machine_states.specs.body_terms.specs.declared.outcome.Outcome.{Outcome}
use Rattle.machine_states.specs.body_terms.specs.declared.thunk.Thunk.{Thunk}
use Rattle.machine_states.specs.table_words.specs.Limits.{IsWithinLimits}
use Rattle.machine_states.specs.structure_laws.specs.Meaning.{Meaning}
use Rattle.machine_states.specs.structure_laws.specs.Laws.{Laws}
use Rattle.machine_states.specs.runner_parts.specs.declared.entries.Published.{Published}
use Rattle.machine_states.specs.runner_parts.specs.State.{RunState, PartState}
use Rattle.machine_states.specs.runner_steps.specs.Sections.{thunk_of}
use Rattle.machine_epochs.specs.Slots.{thunk_in}
use Rattle.machine_states.specs.Sight.{Sight, sight, part_or_first}
use Rattle.section_runs.specs.commit_log.specs.version_words.specs.RunnerState.{RunnerState}
use Rattle.section_runs.specs.machine_facts.specs.machine_agreement.proofs.RunPlaces.{opened_thunk}
use Rattle.section_runs.specs.machine_facts.specs.machine_invariant.specs.After.{AreAllowed}
use Rattle.section_runs.specs.machine_facts.specs.After.{AreFactsAfter}
use Rattle.section_runs.specs.machine_facts.proofs.Following.{facts_after}
use Rattle.section_runs.specs.Reached.{MayBegin, run_or, run_of}
use Rattle.section_runs.specs.Opened.{opening}
use Rattle.section_runs.specs.Ended.{EndsSo}
use Rattle.try_lock.specs.Reached.{IsSectionOf, MayRunSection, MayHelp}
use Rattle.try_lock.specs.declared.section.Section.{Section}

module _ {T : Type 0} (m : Meaning) where
  pub own_begins : (r : RunnerState T) (t : Thunk) (s : Section) → MayRunSection m r t s → MayBegin m r s.descriptor
  own_begins r t s may = record { epoch = may.epoch; published = may.published; at = may.at; sure = may.section.sure; reached = may.reached }

  pub help_begins : (r : RunnerState T) (held d : ℕ) → d ≡ value_of held - 1 → MayHelp m r held → MayBegin m r d
  help_begins r held d e may = subst (MayBegin m r) (sym e) (record { epoch = may.epoch; published = may.published; at = may.at; sure = may.sure; reached = may.reached })

  -- the thunk of the own section is the one with which it was published: it stands in the descriptor as the run is opened
  module _ (laws : Laws m) (d : ℕ) (t' : Thunk) (o : Outcome) (trail : Agreed) (made : ℕ) (old new : RunnerState T) (limits : IsWithinLimits old.layout) (allowed : AreAllowed old.requests)
      (ends : EndsSo m d t' o trail made old new) where
    abbrev r : RunnerState T
    r = ends.opened

    abbrev s : Sight
    s = sight m r.layout r.requests ends.opening.inside.inside.world

    facts : AreFactsAfter m r.layout r.requests ends.opening.inside.inside.reached.events ends.opening.inside.inside.world ends.opening.inside.inside.reached.after
    facts = facts_after m laws r.layout r.requests ends.opening.inside.inside.reached.events ends.opening.inside.inside.world
        (subst IsWithinLimits (sym ends.opening.stays.layout) limits) (subst AreAllowed (sym ends.opening.stays.requests) allowed) ends.opening.inside.inside.reached.after

    part : s.part r.number ≡ r.part
    part = ap part_or_first ends.opening.inside.inside.own

    q_is : run_of r ≡ opening d ends.opening.words
    q_is = ap run_or ends.opening.run

    loaded : thunk_in s.word d ≡ t'
    loaded = ap (λ (q : RunState). thunk_in s.word q.descriptor) (sym q_is)
        ∙ (opened_thunk m r.layout facts.components.agreement s facts.here.sound.sections.joined r.number (run_of r) (ap (λ (p : PartState). p.run) part ∙ ends.opening.inside.inside.running) ends.opening.inside.opened
        ∙ (ap (λ (q : RunState). thunk_of q.opened) q_is ∙ ends.opening.thunk))

    pub own_thunk : (t : Thunk) (x : Published) → old.part.published ≡ Some x → x.descriptor ≡ d → x.thunk ≡ t → t' ≡ t
    own_thunk t x own of_descriptor with_thunk =
        sym loaded ∙ (ap (thunk_in s.word) (sym of_descriptor)
        ∙ (facts.here.sound.sections.in_published.thunk r.number x (ap (λ (p : PartState). p.published) part ∙ (ends.opening.stays.published ∙ own)) ∙ with_thunk))

    pub own_ends : (t : Thunk) (s : Section) → s.descriptor ≡ d → IsSectionOf old t s → EndsSo m d t o trail made old new
    own_ends t s e section = subst (λ (x : Thunk). EndsSo m d x o trail made old new)
        (own_thunk t section.published section.own (section.descriptor ∙ e) section.thunk) ends

-- a word that names a section has a value
pub some_value : (word value : ℕ) → value ≡ value_of word → is_free word ≡ false → 1 ≤ value
some_value word value e named = grind (arith, nat_tests, e, named)
