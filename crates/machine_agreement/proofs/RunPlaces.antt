-- Where a run stands in its line.
use Rattle.std.specs.Prelude.{◌||◌, ◌%◌, ◌^◌, not, Bool, true, false, nat_le, slice_index}
use Rattle.std.proofs.Common.{◌≡◌, ℕ, ◌<◌, [], ◌∷◌, length, refl, sym, ap, ◌∙◌, subst, arith, Some}
use Rattle.std.proofs.lemmas.Bool.Decides.{nat_tests}
use Rattle.machine_states.specs.body_terms.specs.declared.micro.Micro.{Micro}
use Rattle.machine_states.specs.body_terms.specs.Line.{micro_at, is_event}
use Rattle.machine_states.specs.table_words.specs.declared.layout.Layout.{Layout}
use Rattle.machine_states.specs.table_words.specs.declared.spot.Spot.TheVariants as spots
use Rattle.machine_states.specs.structure_laws.specs.Meaning.{Meaning}
use Rattle.machine_states.specs.runner_parts.specs.State.{RunState}
use Rattle.machine_states.specs.runner_steps.specs.Sections.{thunk_of, line_of, next_of}
use Rattle.agreement_core.specs.State.{AgreementState, section_of}
use Rattle.agreement_core.specs.Checks.{is_stop, passes}
use Rattle.agreement_core.specs.Events.{IsBefore}
use Rattle.machine_states.specs.Sight.{Sight}
use Rattle.machine_epochs.specs.Slots.{thunk_in}
use Rattle.machine_epochs.proofs.RunPlaces.{is_of_end, next_in_line}
use Rattle.machine_scenes.specs.Shown.{rules_of, IsOfThunk}
use Rattle.machine_agreement.specs.Joined.{IsRunOf, ShowsRun, IsJoinedToAgreement}

module _ (m : Meaning) (l : Layout) (w : AgreementState) (s : Sight) (old : IsJoinedToAgreement m l w s) (r : ℕ) (q : RunState) (is : (s.part r).run ≡ Some q) where
  -- the component's run
  pub run_here : IsRunOf (w.run r) q
  run_here = subst (ShowsRun (w.run r)) is (old.tied r).run

  pub used_here : w.used q.descriptor ≡ true
  used_here = ap w.used (sym run_here.descriptor) ∙ old.sound.running_used r run_here.running

  module _ (all : length q.opened ≡ 13) where
    opened_word : (j : ℕ) → j < 12 → slice_index q.opened j ≡ s.word (spots.ThunkWord q.descriptor j)
    opened_word j low = (old.tied r).opened q j is (omega arith) low

    -- the words that it has loaded are its descriptor's thunk
    pub opened_thunk : thunk_in s.word q.descriptor ≡ thunk_of q.opened
    opened_thunk = sym (λ i. record {
      form = opened_word 0 (omega arith) i;
      request = opened_word 1 (omega arith) i % 2 ^ 32;
      lock = opened_word 2 (omega arith) i % 2 ^ 32;
      word = opened_word 3 (omega arith) i;
      operands = opened_word 4 (omega arith) i ∷ opened_word 5 (omega arith) i ∷ opened_word 6 (omega arith) i ∷ opened_word 7 (omega arith) i
          ∷ opened_word 8 (omega arith) i ∷ opened_word 9 (omega arith) i ∷ opened_word 10 (omega arith) i ∷ opened_word 11 (omega arith) i ∷ [];
    })

    -- its section is that of its thunk
    pub of_thunk : IsOfThunk m (w.section q.descriptor) (thunk_of q.opened)
    of_thunk = subst (IsOfThunk m (w.section q.descriptor)) opened_thunk (old.thunks q.descriptor used_here)

    pub code_here : (i : ℕ) → (w.section q.descriptor).code i ≡ micro_at (line_of m q) i
    code_here = of_thunk.code

    pub code_at : (section_of w r).code ((w.run r).at) ≡ micro_at (line_of m q) q.at
    code_at = ap (λ d. (w.section d).code ((w.run r).at)) run_here.descriptor ∙ (ap (λ k. (w.section q.descriptor).code k) run_here.at ∙ code_here q.at)

    ended_by : (b : Bool) → (w.run r).ended ≡ b → is_event (micro_at (line_of m q) q.at) ≡ true → q.ended ≡ 0
    ended_by false going event = let same : nat_le 1 q.ended ≡ false = sym run_here.ended ∙ going in none q.ended same
      where
        none : (n : ℕ) → nat_le 1 n ≡ false → n ≡ 0
        none n e = grind (arith, nat_tests)
    ended_by true done event = absurd (
        let run = old.sound.runs r run_here.running in
        let stops = (old.sound.sections ((w.run r).descriptor) (old.sound.running_used r run_here.running)) in
        let x = section_of w r in
        let stop : is_stop (rules_of m l) ((w.run r).descriptor) x.log (x.code x.edge) ≡ true = stops.section.in_log.stops (run.in_trail.ended_done done) in
        let edge : x.code x.edge ≡ micro_at (line_of m q) q.at = ap x.code (sym (run.in_trail.ended_edge done)) ∙ code_at in
        let no_stop : is_stop (rules_of m l) ((w.run r).descriptor) x.log (x.code x.edge) ≡ false = ap (is_stop (rules_of m l) ((w.run r).descriptor) x.log) edge ∙ ap (λ b. not (b || passes (rules_of m l) ((w.run r).descriptor) x.log (micro_at (line_of m q) q.at))) event in
        let both = sym stop ∙ no_stop in cc)

    -- a run before an event of its line has made no exchange of its end
    pub not_ended : is_event (micro_at (line_of m q) q.at) ≡ true → q.ended ≡ 0
    not_ended event = ended_by ((w.run r).ended) refl event

    -- the component's run stands before this step
    pub before : (micro : Micro) → is_of_end micro ≡ false → is_event micro ≡ true → next_of m q ≡ micro → IsBefore w r micro
    before micro inner event next =
        let here = next_in_line m q micro inner next in
        record {
          running = run_here.running;
          going = run_here.ended ∙ ap (nat_le 1) (not_ended (ap is_event here ∙ event));
          next = code_at ∙ here;
        }
