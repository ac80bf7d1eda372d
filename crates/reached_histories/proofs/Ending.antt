-- What a runner comes to know, and the end of its own run.
use Rattle.std.specs.Prelude.{◌==◌, ◌&&◌, not, nat_le, true, false}
use Rattle.std.proofs.Common.{◌≡◌, ◌≢◌, ℕ, ◌<◌, ◌≤◌, sym, ap, ◌∙◌, subst, ⊎_elim, arith, Some}
use Rattle.std.proofs.lemmas.Bool.{cases_lt, and_parts}
use Rattle.std.proofs.lemmas.Bool.Decides.{nat_tests}
use Rattle.machine_states.specs.body_terms.specs.Line.{micro_at}
use Rattle.still_reads.specs.agreement_core.specs.section_lines.specs.Line.{IsStamped}
use Rattle.machine_states.specs.table_words.specs.declared.layout.Layout.{Layout}
use Rattle.machine_states.specs.structure_laws.specs.Meaning.{Meaning}
use Rattle.machine_states.specs.runner_parts.specs.State.{RunState}
use Rattle.machine_states.specs.runner_parts.specs.Tests.{knows, is_answered}
use Rattle.machine_states.specs.runner_steps.specs.Sections.{thunk_of, line_of, is_open_run}
use Rattle.still_reads.specs.agreement_core.specs.State.{AgreementState, Section}
use Rattle.machine_history.specs.history_core.specs.State.{Requests, HistoryState}
use Rattle.machine_history.specs.history_core.specs.Sound.{IsSound}
use Rattle.machine_states.specs.Sight.{Sight}
use Rattle.machine_facts.specs.machine_agreement.specs.machine_epochs.proofs.RunPlaces.{open_run}
use Rattle.machine_facts.specs.machine_agreement.proofs.RunPlaces.{run_here, used_here, of_thunk, code_here}
use Rattle.machine_facts.specs.machine_invariant.specs.Whole.{Beside, states_of, IsWhole}
use Rattle.machine_history.specs.Tied.{rank, SectionIsTied, AreTied}
use Rattle.reached_histories.specs.Kept.{AreKept}
use Rattle.machine_facts.specs.Told.{IsTold, RunsAreTold}
use Rattle.reached_histories.specs.Supplies.{AnsweredAreLearned, EndsAreOver}
use Rattle.reached_histories.proofs.First.{word_of_known}

pub answered_learned : (m : Meaning) (l : Layout) → AnsweredAreLearned m l
answered_learned m l c g s w whole tied stand r n known =
    let h = and_parts (knows (s.part r).records.known n false) (knows (s.part r).records.known n true) known in (
      λ none. word_of_known s stand r n false h.0 (sym (tied.stamp n ∙ whole.sections.words.stamp n) ∙ none),
      λ none. word_of_known s stand r n true h.1 (sym (tied.reply n ∙ whole.sections.words.reply n) ∙ none),
    )

done_some : (n : ℕ) → n ≢ 0 → not (n == 0) ≡ true
done_some n some = grind (arith, nat_tests)

one_test : (n : ℕ) → 1 ≤ n → nat_le 1 n ≡ true
one_test n h = grind (arith, nat_tests)

module _ (m : Meaning) (l : Layout) (c : Requests) (g : Beside) (s : Sight) (w : HistoryState) (whole : IsWhole m l g s) (tied : AreTied c (states_of g s) w)
    (sound : IsSound c w) (kept : AreKept s w) (told : RunsAreTold m s) (r : ℕ) (q : RunState) (is : (s.part r).run ≡ Some q) (opened : is_open_run q ≡ true)
    (ended : 1 ≤ q.ended) where
  abbrev a : AgreementState
  a = g.agreement

  abbrev d : ℕ
  d = q.descriptor

  abbrev x : Section
  x = a.section d

  used : a.used d ≡ true
  used = used_here m l a s whole.sections r q is

  tie : SectionIsTied c g.publications w d x
  tie = tied.sections d used

  stamped : IsStamped x.code
  stamped = (whole.sections.sound.sections d used).published.line.stamped

  has_ended : (a.run r).ended ≡ true
  has_ended = (run_here m l a s whole.sections r q is).ended ∙ one_test q.ended ended

  same : (a.run r).descriptor ≡ d
  same = (run_here m l a s whole.sections r q is).descriptor

  -- the section is done, and the run is at its edge
  section_done : x.done ≢ 0
  section_done none = (whole.sections.sound.runs r (run_here m l a s whole.sections r q is).running).in_trail.ended_done has_ended (ap (λ e. (a.section e).done) same ∙ none)

  at_edge : q.at ≡ x.edge
  at_edge = sym (run_here m l a s whole.sections r q is).at
      ∙ ((whole.sections.sound.runs r (run_here m l a s whole.sections r q is).running).in_trail.ended_edge has_ended ∙ ap (λ e. (a.section e).edge) same)

  done_here : w.done d ≡ true
  done_here = tie.done ∙ done_some x.done section_done

  -- what is below the section's stage was passed by this run
  passed : (i : ℕ) → rank (x.code i) ≢ 0 → rank (x.code i) ≤ w.stage d → i < q.at
  passed i some far = ⊎_elim (λ lt. subst (λ n. i < n) (sym at_edge) lt)
      (λ le. let low = tie.unpassed i some le in absurd (omega arith))
      (cases_lt i x.edge)

  code : (i : ℕ) → x.code i ≡ micro_at (line_of m q) i
  code = code_here m l a s whole.sections r q is (open_run q opened)

  request : w.request d ≡ (thunk_of q.opened).request
  request = tie.request ∙ (of_thunk m l a s whole.sections r q is (open_run q opened)).request

  stage_last : 2 ≤ w.stage d → w.stage d ≡ 4
  stage_last far = ⊎_elim (λ none. absurd (omega arith)) (λ four. four) (sound.sections.ended d (tied.used d ∙ used) done_here)

  stamp_known : 2 ≤ w.stage d → knows (s.part r).records.known (thunk_of q.opened).request false ≡ true
  stamp_known far = subst (IsTold (s.part r).records.known (thunk_of q.opened).request) (sym (code stamped.stamp) ∙ stamped.stamps)
      ((told r).told q is stamped.stamp (passed stamped.stamp (λ none. let two = ap rank stamped.stamps in omega arith) (let two = ap rank stamped.stamps in omega arith)))

  reply_known : 2 ≤ w.stage d → knows (s.part r).records.known (thunk_of q.opened).request true ≡ true
  reply_known far = subst (IsTold (s.part r).records.known (thunk_of q.opened).request) (sym (code stamped.answer) ∙ stamped.answers)
      ((told r).told q is stamped.answer (passed stamped.answer (λ none. let four = ap rank stamped.answers in omega arith)
      (let four = ap rank stamped.answers in let last = stage_last far in omega arith)))

  knows_request : 2 ≤ w.stage d → w.known r (w.request d) ≡ true
  knows_request far = kept.known r (w.request d) ∙ (ap (is_answered (s.part r).records.known) request
      ∙ (ap (λ b. b && knows (s.part r).records.known (thunk_of q.opened).request true) (stamp_known far) ∙ reply_known far))

pub ends_over : (m : Meaning) (l : Layout) → EndsAreOver m l
ends_over m l c g s w whole tied sound kept told r q is opened ended published = record {
  section = q.descriptor;
  own = published;
  done = done_here m l c g s w whole tied sound kept told r q is opened ended;
  knows = knows_request m l c g s w whole tied sound kept told r q is opened ended;
}
