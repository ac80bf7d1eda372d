-- What a run releases at its end is a lock, and its section is done.
use Rattle.std.specs.Prelude.{slice_index_or, nat_le, true}
use Rattle.std.proofs.Common.{◌≡◌, ◌≢◌, ℕ, zero, suc, ◌<◌, List, [], ◌∷◌, length, take, ⊎_elim, sym, refl, ap, ◌∙◌, subst, arith, Some}
use Rattle.std.proofs.lemmas.Bool.Decides.{nat_tests}
use Rattle.machine_states.specs.map_history.specs.declared.op.Request.{Request}
use Rattle.machine_states.specs.body_terms.specs.declared.micro.Micro.{Micro}
use Rattle.machine_states.specs.body_terms.specs.declared.micro.Micro.TheVariants as micros
use Rattle.machine_states.specs.body_terms.specs.declared.thunk.Thunk.{Thunk}
use Rattle.machine_states.specs.body_terms.specs.Line.{micro_at, ending}
use Rattle.agreement_core.specs.section_lines.specs.Line.{IsLine}
use Rattle.machine_states.specs.table_words.specs.declared.layout.Layout.{Layout}
use Rattle.machine_states.specs.structure_laws.specs.Meaning.{Meaning}
use Rattle.machine_states.specs.runner_parts.specs.State.{RunState}
use Rattle.machine_states.specs.runner_steps.specs.Sections.{thunk_of, is_open_run, line_of, next_of}
use Rattle.agreement_core.specs.Runs.{TrailIsSound}
use Rattle.agreement_core.specs.State.{Section}
use Rattle.agreement_core.proofs.Lines.{hold_lock}
use Rattle.machine_states.specs.Sight.{Sight}
use Rattle.machine_epochs.proofs.RunPlaces.{open_run}
use Rattle.machine_scenes.specs.Shown.{rules_of}
use Rattle.reached_histories.specs.machine_facts.specs.machine_agreement.proofs.RunPlaces.{run_here, used_here, code_here, of_thunk}
use Rattle.reached_histories.specs.machine_facts.specs.machine_agreement.proofs.Ends.{at_end}
use Rattle.reached_histories.specs.machine_facts.specs.machine_agreement.proofs.Endings.{TakesIn, release_taken}
use Rattle.reached_histories.specs.machine_facts.specs.machine_invariant.specs.Whole.{Beside, IsWhole}

-- a step below a place of a line stands in the line
taken_at : (ms : List Micro) (n i : ℕ) → i < length (take n ms) → micro_at (take n ms) i ≡ micro_at ms i
taken_at [] zero i low = refl
taken_at [] (suc n) i low = refl
taken_at (x ∷ ms) zero i low = absurd (omega arith)
taken_at (x ∷ ms) (suc n) zero low = refl
taken_at (x ∷ ms) (suc n) (suc i) low = taken_at ms n i (omega arith)

module _ (m : Meaning) (l : Layout) (rs : List Request) (g : Beside) (s : Sight) (whole : IsWhole m l g s) (r : ℕ) (q : RunState)
    (is : (s.part r).run ≡ Some q) (opened : is_open_run q ≡ true) where
  abbrev t : Thunk
  t = thunk_of q.opened

  abbrev x : Section
  x = g.agreement.section q.descriptor

  in_line : IsLine m.is_lock l.version_max x.lock x.code x.slot
  in_line = (whole.sections.sound.sections q.descriptor (used_here m l g.agreement s whole.sections r q is)).published.line

  behind : (p w : ℕ) → (n : ℕ) → slice_index_or (ending (line_of m q) q.at t.lock t.word) n micros.End ≡ micros.Release p w
      → TakesIn (take q.at (line_of m q)) t.lock t.word p w
  behind p w zero e = absurd (let z : micros.SetDone ≡ micros.Release p w = e in cc)
  behind p w (suc n) e = release_taken (take q.at (line_of m q)) t.lock t.word p w n e

  pub released_lock : (p w : ℕ) → next_of m q ≡ micros.Release p w → m.is_lock p ≡ true
  released_lock p w next =
      let all = open_run q opened in
      let place = at_end m l rs g.agreement s whole.sections r q is opened (micros.Release p w) (omega arith) next in
      ⊎_elim
      (λ outer. ap m.is_lock (outer.0 ∙ sym (of_thunk m l g.agreement s whole.sections r q is all).lock) ∙ in_line.placed.outer_lock)
      (λ nested.
      let here : micro_at (line_of m q) nested.0 ≡ micros.CheckHeld p nested.1 w = sym (taken_at (line_of m q) q.at nested.0 nested.2) ∙ nested.3 in
      let held = in_line.ordered.held_before nested.0 p nested.1 w (code_here m l g.agreement s whole.sections r q is all nested.0 ∙ here) in
      hold_lock (rules_of m l) x.lock x.code x.slot in_line held.0 p w held.2)
      (behind p w q.ended place.1)

  -- it does so behind the store of the section's done word
  pub released_done : (p w : ℕ) → next_of m q ≡ micros.Release p w → x.done ≢ 0
  released_done p w next =
      let here = run_here m l g.agreement s whole.sections r q is in
      let trail = subst (λ i. TrailIsSound (g.agreement.section i) (g.agreement.run r)) here.descriptor (whole.sections.sound.runs r here.running).in_trail in
      let place = at_end m l rs g.agreement s whole.sections r q is opened (micros.Release p w) (omega arith) next in
      trail.ended_done (here.ended ∙ past q.ended place.1)
    where
      past : (n : ℕ) → slice_index_or (ending (line_of m q) q.at t.lock t.word) n micros.End ≡ micros.Release p w → nat_le 1 n ≡ true
      past zero e = absurd (let z : micros.SetDone ≡ micros.Release p w = e in cc)
      past (suc n) e = grind (arith, nat_tests)
