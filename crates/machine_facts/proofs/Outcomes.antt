-- The outcomes of runs that came to their end agree.
use Rattle.std.specs.Prelude.{true, slice_get, replicate}
use Rattle.std.proofs.Common.{◌≡◌, ◌≢◌, ℕ, zero, suc, ◌<◌, List, [], ◌∷◌, ◌++◌, length, sym, ap, ◌∙◌, subst, ⊎_elim, arith, Option, Some}
use Rattle.std.proofs.lemmas.Bool.Decides.{nat_tests}
use Rattle.machine_states.specs.map_history.specs.declared.op.Request.{Request}
use Rattle.machine_states.specs.body_terms.specs.Line.{line, micro_at}
use Rattle.machine_states.specs.body_terms.specs.Run.{leaves}
use Rattle.machine_states.specs.body_terms.specs.declared.outcome.Outcome.{Outcome}
use Rattle.machine_states.specs.body_terms.specs.declared.thunk.Thunk.{Thunk}
use Rattle.machine_states.specs.table_words.specs.declared.layout.Layout.{Layout}
use Rattle.machine_states.specs.structure_laws.specs.Meaning.{Meaning}
use Rattle.machine_states.specs.runner_parts.specs.declared.event.EventKind.{EventKind}
use Rattle.machine_states.specs.runner_parts.specs.declared.event.EventKind.TheVariants as kinds
use Rattle.machine_states.specs.runner_parts.specs.State.{RunState, FinishedState}
use Rattle.machine_states.specs.runner_steps.specs.Sections.{thunk_of, is_open_run, setting_of, outcome_or, reply_in}
use Rattle.agreement_core.specs.State.{AgreementState}
use Rattle.agreement_core.specs.Events as agreement
use Rattle.agreement_core.specs.Schedules as agreement_schedules
use Rattle.machine_states.specs.Sight.{Sight, Steps}
use Rattle.machine_invariant.specs.machine_blocks.specs.machine_guards.specs.machine_agreement.specs.machine_epochs.proofs.Joining.{thunk_same}
use Rattle.machine_invariant.specs.machine_blocks.specs.machine_guards.specs.machine_agreement.specs.machine_scenes.specs.Shown.{rules_of}
use Rattle.machine_invariant.specs.machine_blocks.specs.machine_guards.specs.machine_agreement.specs.Chunks as sections
use Rattle.machine_invariant.specs.machine_blocks.specs.machine_guards.specs.machine_agreement.specs.Joined.{IsJoinedToAgreement, IsRunOf}
use Rattle.machine_invariant.specs.machine_blocks.specs.machine_guards.specs.machine_agreement.proofs.RunPlaces.{run_here, used_here, opened_thunk}
use Rattle.machine_invariant.specs.Along.{Components, components_after, AreEventsOf, AreExact}
use Rattle.machine_invariant.specs.States.{StateIsSound}
use Rattle.machine_invariant.specs.Trails.{thunk_at, step_at, IsEndOf}
use Rattle.machine_facts.specs.Steps.{WordsStand}
use Rattle.machine_facts.specs.States.{NumberAlike}
use Rattle.machine_facts.proofs.Agreement.{Lasts, ends_all}
use Rattle.machine_facts.proofs.Going.{goes, goes_inside}
use Rattle.machine_facts.proofs.FinishedParts as parts

-- how runs of the section end that this descriptor has, by these agreed words: at the check at which they rest, or with the body's answer
abbrev pub end_of : Meaning → Layout → AgreementState → Sight → ℕ → List ℕ → Outcome
end_of m l a s d trail = outcome_or (leaves (setting_of l d) trail (step_at m a s d ((a.section d).edge))) (reply_in (m.body (thunk_at m a s d)))

-- what is kept of each run is how its section's runs end, and equal for all runs of one section
pub record OutcomesKept (m : Meaning) (l : Layout) (a : AgreementState) (s : Sight) : Type 0 where
  pub ended : (r d : ℕ) (f : FinishedState) → a.used d ≡ true → IsEndOf m a s r d f → f.outcome ≡ end_of m l a s d f.trail
  pub equal : (r r' i i' : ℕ) (f f' : FinishedState) → slice_get (s.part r).records.finished i ≡ Some f
      → slice_get (s.part r').records.finished i' ≡ Some f' → f.lock ≡ f'.lock → f.word ≡ f'.word → f.outcome ≡ f'.outcome

open_length : (q : RunState) → is_open_run q ≡ true → length q.opened ≡ 13
open_length q e = grind (arith, nat_tests)

within : {A : Type 0} (xs : List A) (i : ℕ) (x : A) → slice_get xs i ≡ Some x → i < length xs
within [] i x e = absurd (let no : ⊥ = cc in no)
within (y ∷ xs) zero x e = omega arith
within (y ∷ xs) (suc i) x e = let low = within xs i x e in omega arith

module _ (m : Meaning) (l : Layout) (rs : List Request) (k : Components) (s s' : Sight) (sound : StateIsSound m l s k) (exact : AreExact m l k)
    (alike : NumberAlike k) (r : ℕ) (kind : EventKind) (step : Steps m l rs s s' r kind)
    (es : List agreement.Event) (vs : List _) (are : AreEventsOf m l rs k s r kind es vs) (sound' : StateIsSound m l s' (components_after m l k es vs))
    (words : WordsStand k.agreement.used s.word s'.word) (old : OutcomesKept m l k.agreement s) where
  abbrev j : Components
  j = components_after m l k es vs

  joined : IsJoinedToAgreement m l k.agreement s
  joined = sound.sections.joined

  joined' : IsJoinedToAgreement m l j.agreement s'
  joined' = sound'.sections.joined

  -- the runner's run is over by this step, and this is kept of it
  abbrev IsNew : ℕ → FinishedState → Type 0
  IsNew r1 f = parts.IsNew m l rs s s' r kind step r1 f

  -- the thunk of a used descriptor stands
  thunk_stands : (d : ℕ) → k.agreement.used d ≡ true → thunk_at m j.agreement s' d ≡ thunk_at m k.agreement s d
  thunk_stands d used = thunk_same s'.word s.word d (λ i. words.thunk d i used)

  -- and where its section is done, so does the furthest place of its runs
  edge_stands : (d : ℕ) → k.agreement.used d ≡ true → (k.agreement.section d).done ≢ 0 → (j.agreement.section d).edge ≡ (k.agreement.section d).edge
  edge_stands d used done = ⊎_elim (λ lasts. lasts.edge done) (λ same. ap (λ x. x.edge) same)
      (goes m l rs k s joined exact alike r kind es vs are d used)

  end_stands : (d : ℕ) (trail : List ℕ) → k.agreement.used d ≡ true → (k.agreement.section d).done ≢ 0
      → end_of m l j.agreement s' d trail ≡ end_of m l k.agreement s d trail
  end_stands d trail used done =
      ap (λ (t : Thunk). outcome_or (leaves (setting_of l d) trail (micro_at (line (m.body t)) ((j.agreement.section d).edge))) (reply_in (m.body t)))
      (thunk_stands d used)
      ∙ ap (λ e. outcome_or (leaves (setting_of l d) trail (micro_at (line (m.body (thunk_at m k.agreement s d))) e))
      (reply_in (m.body (thunk_at m k.agreement s d)))) (edge_stands d used done)

  -- what was kept before
  ended_before : (r1 d i : ℕ) (f : FinishedState) → j.agreement.used d ≡ true → slice_get (s.part r1).records.finished i ≡ Some f
      → f.lock ≡ (thunk_at m j.agreement s' d).lock → f.word ≡ (thunk_at m j.agreement s' d).word → f.outcome ≡ end_of m l j.agreement s' d f.trail
  ended_before r1 d i f used at lock word =
      let kept = (joined.tied r1).finished i f at in
      let is' = joined'.thunks d used in
      let low : i < k.agreement.finishes r1 = subst (λ n. i < n) (sym (joined.tied r1).finishes) (within (s.part r1).records.finished i f at) in
      let there = ends_all (rules_of m l) k.agreement es are.enabled joined.sound d r1 i low used
      (record { lock = kept.lock ∙ (lock ∙ sym is'.lock); word = kept.word ∙ (word ∙ sym is'.word) }) in
      let is = joined.thunks d there.used in
      let end : IsEndOf m k.agreement s r1 d f = record {
        at = i;
        kept = at;
        lock = sym kept.lock ∙ (there.of_section.lock ∙ is.lock);
        word = sym kept.word ∙ (there.of_section.word ∙ is.word);
      } in
      let done : (k.agreement.section d).done ≢ 0 = λ z. sound.sections.in_trails.done r1 d f there.used end (sym (joined.sections d).done ∙ z) in
      old.ended r1 d f there.used end ∙ sym (end_stands d f.trail there.used done)

  -- a run that is over with the step
  module _ (r1 : ℕ) (f : FinishedState) (new : IsNew r1 f) where
    abbrev q : RunState
    q = new.run

    lasts : Lasts (rules_of m l) k.agreement j.agreement q.descriptor
    lasts = goes_inside m l rs k s joined exact alike r kind es vs are q new.runs q.descriptor (used_here m l k.agreement s joined r q new.runs)

    used_q : k.agreement.used q.descriptor ≡ true
    used_q = used_here m l k.agreement s joined r q new.runs

    opened : thunk_at m k.agreement s q.descriptor ≡ thunk_of q.opened
    opened = opened_thunk m l k.agreement s joined r q new.runs (open_length q new.open_run)

    -- it has set the done word, and stands at the edge
    ended : (k.agreement.run r).ended ≡ true
    ended = released (subst (λ (o : Option RunState). sections.IsChunk m l k.agreement r kind (s.part r) o (s.word are.ask.0) are.heads) new.runs are.in_sections)
      where
        by_heads : (place word : ℕ) (rest : List agreement.Event) → are.heads ≡ agreement.Read place ∷ agreement.Release r place word ∷ rest
            → (k.agreement.run r).ended ≡ true
        by_heads place word rest is = (subst (agreement_schedules.AllEnabled (rules_of m l) k.agreement) (are.all_heads ∙ ap (λ hs. hs ++ replicate are.passes (agreement.Pass r)) is) are.enabled).1.0.1

        at_release : (kind' : EventKind) → kind' ≡ kinds.Release → sections.IsLineChunk m l k.agreement r kind' (s.part r) q (s.word are.ask.0) are.heads
            → (k.agreement.run r).ended ≡ true
        at_release kinds.Release is chunk = ⊎_elim (λ h. by_heads chunk.0 chunk.1 [] h.1)
            (λ h. by_heads chunk.0 chunk.1 (agreement.Finish r ∷ sections.retires_own (s.part r).published q.descriptor) h.1) chunk.3
        at_release kind' is chunk = absurd (let no : ⊥ = cc in no)

        released : sections.IsInsideChunk m l k.agreement r (is_open_run q) kind (s.part r) q (s.word are.ask.0) are.heads → (k.agreement.run r).ended ≡ true
        released chunk = at_release kind new.release (subst (λ b. sections.IsInsideChunk m l k.agreement r b kind (s.part r) q (s.word are.ask.0) are.heads) new.open_run chunk)

    run_is : IsRunOf (k.agreement.run r) q
    run_is = run_here m l k.agreement s joined r q new.runs

    done_q : (k.agreement.section q.descriptor).done ≢ 0
    done_q = subst (λ d. (k.agreement.section d).done ≢ 0) run_is.descriptor ((joined.sound.runs r run_is.running).in_trail.ended_done ended)

    edge_q : (k.agreement.section q.descriptor).edge ≡ q.at
    edge_q = sym (subst (λ d. (k.agreement.run r).at ≡ (k.agreement.section d).edge) run_is.descriptor ((joined.sound.runs r run_is.running).in_trail.ended_edge ended))
        ∙ run_is.at

    -- what is kept of it is of its section
    new_lock : f.lock ≡ (thunk_at m j.agreement s' q.descriptor).lock
    new_lock = ap (λ (x : FinishedState). x.lock) (sym new.is) ∙ ap (λ (t : Thunk). t.lock) (sym opened ∙ sym (thunk_stands q.descriptor used_q))

    new_word : f.word ≡ (thunk_at m j.agreement s' q.descriptor).word
    new_word = ap (λ (x : FinishedState). x.word) (sym new.is) ∙ ap (λ (t : Thunk). t.word) (sym opened ∙ sym (thunk_stands q.descriptor used_q))

    new_ended : f.outcome ≡ end_of m l j.agreement s' q.descriptor f.trail
    new_ended = subst (λ (x : FinishedState). x.outcome ≡ end_of m l j.agreement s' q.descriptor x.trail) new.is
        (ap (λ e. outcome_or (leaves (setting_of l q.descriptor) q.trail (micro_at (line (m.body (thunk_of q.opened))) e)) (reply_in (m.body (thunk_of q.opened))))
        (sym edge_q)
        ∙ (ap (λ (t : Thunk). outcome_or (leaves (setting_of l q.descriptor) q.trail (micro_at (line (m.body t)) ((k.agreement.section q.descriptor).edge)))
        (reply_in (m.body t))) (sym opened)
        ∙ sym (end_stands q.descriptor q.trail used_q done_q)))

    -- no other descriptor has it
    one_descriptor : (d : ℕ) → j.agreement.used d ≡ true → f.lock ≡ (thunk_at m j.agreement s' d).lock → f.word ≡ (thunk_at m j.agreement s' d).word
        → q.descriptor ≡ d
    one_descriptor d used lock word =
        let is = joined'.thunks d used in
        let is_q = joined'.thunks q.descriptor lasts.used in
        joined'.sound.single q.descriptor d lasts.used used (is_q.lock ∙ (sym new_lock ∙ (lock ∙ sym is.lock))) (is_q.word ∙ (sym new_word ∙ (word ∙ sym is.word)))

  ended_after : (r1 d : ℕ) (f : FinishedState) → j.agreement.used d ≡ true → IsEndOf m j.agreement s' r1 d f → f.outcome ≡ end_of m l j.agreement s' d f.trail
  ended_after r1 d f used x = ⊎_elim
      (λ before. ended_before r1 d x.at f used before x.lock x.word)
      (λ new. subst (λ n. f.outcome ≡ end_of m l j.agreement s' n f.trail) (one_descriptor r1 f new d used x.lock x.word) (new_ended r1 f new))
      (parts.entry m l rs s s' r kind step r1 x.at f x.kept)

  -- two kept runs of one section, of which the one is over with the step
  equal_new : (r1 r2 i i' : ℕ) (f f' : FinishedState) → IsNew r1 f → slice_get (s'.part r1).records.finished i ≡ Some f
      → slice_get (s'.part r2).records.finished i' ≡ Some f' → f.lock ≡ f'.lock → f.word ≡ f'.word → f.outcome ≡ f'.outcome
  equal_new r1 r2 i i' f f' new at at' lock word =
      let d = new.run.descriptor in
      let used = (lasts r1 f new).used in
      let here : IsEndOf m j.agreement s' r1 d f = record { at = i; kept = at; lock = new_lock r1 f new; word = new_word r1 f new } in
      let there : IsEndOf m j.agreement s' r2 d f' = record {
        at = i';
        kept = at';
        lock = sym lock ∙ new_lock r1 f new;
        word = sym word ∙ new_word r1 f new;
      } in
      ended_after r1 d f used here ∙ (ap (end_of m l j.agreement s' d) (sound'.sections.in_trails.equal r1 r2 i i' f f' at at' lock word)
      ∙ sym (ended_after r2 d f' used there))

  equal_after : (r1 r2 i i' : ℕ) (f f' : FinishedState) → slice_get (s'.part r1).records.finished i ≡ Some f
      → slice_get (s'.part r2).records.finished i' ≡ Some f' → f.lock ≡ f'.lock → f.word ≡ f'.word → f.outcome ≡ f'.outcome
  equal_after r1 r2 i i' f f' at at' lock word = ⊎_elim
      (λ before. ⊎_elim
      (λ before'. old.equal r1 r2 i i' f f' before before' lock word)
      (λ new'. sym (equal_new r2 r1 i' i f' f new' at' at (sym lock) (sym word)))
      (parts.entry m l rs s s' r kind step r2 i' f' at'))
      (λ new. equal_new r1 r2 i i' f f' new at at' lock word)
      (parts.entry m l rs s s' r kind step r1 i f at)

  pub outcomes_kept : OutcomesKept m l j.agreement s'
  outcomes_kept = record { ended = ended_after; equal = equal_after }
