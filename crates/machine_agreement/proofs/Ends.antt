-- The end of a run: the done word, the releases, and what is kept of it, each kind of step joined.
use Rattle.std.specs.Prelude.{◌==◌, ◌||◌, not, Bool, true, false, nat_le, slice_index, slice_index_or, slice_get, cond}
use Rattle.std.proofs.Common.{◌≡◌, ◌≢◌, ℕ, zero, suc, ◌+◌, ◌<◌, ◌≤◌, List, [], ◌∷◌, length, take, sym, refl, ap, ◌∙◌, subst, arith, ⊎_elim, Some}
use Rattle.std.specs.Prelude.{◌⊎◌}
use Rattle.std.proofs.lemmas.Bool.Decides.{nat_tests}
use Rattle.machine_states.specs.map_history.specs.declared.op.Request.{Request}
use Rattle.machine_states.specs.body_terms.specs.declared.micro.Micro.{Micro}
use Rattle.machine_states.specs.body_terms.specs.declared.micro.Micro.TheVariants as micros
use Rattle.machine_states.specs.body_terms.specs.Line.{micro_at, is_event, ending}
use Rattle.machine_states.specs.body_terms.specs.Run.{written_once}
use Rattle.agreement_core.specs.section_lines.specs.Line.{phase}
use Rattle.machine_states.specs.table_words.specs.declared.layout.Layout.{Layout}
use Rattle.machine_states.specs.table_words.specs.declared.spot.Spot.{Spot}
use Rattle.machine_states.specs.table_words.specs.declared.spot.Spot.TheVariants as spots
use Rattle.machine_states.specs.table_words.specs.declared.access.Access.{Access}
use Rattle.machine_states.specs.table_words.specs.declared.access.Access.TheVariants.{Exchanges}
use Rattle.machine_states.specs.table_words.specs.Seen.{put}
use Rattle.machine_states.specs.table_words.specs.Seen as table
use Rattle.machine_states.specs.structure_laws.specs.Meaning.{Meaning}
use Rattle.machine_states.specs.runner_parts.specs.declared.event.EventKind.{EventKind}
use Rattle.machine_states.specs.runner_parts.specs.declared.event.EventKind.TheVariants as kinds
use Rattle.machine_states.specs.runner_parts.specs.State.{RunState, PartState}
use Rattle.machine_states.specs.runner_steps.specs.Sections.{thunk_of, is_open_run, next_of, line_of, settles}
use Rattle.machine_states.specs.runner_steps.specs.Asks.{asks}
use Rattle.machine_states.specs.runner_steps.specs.AfterInRun.{ended_more, done_set}
use Rattle.agreement_core.specs.State.{CellRules, Run, AgreementState, section_of}
use Rattle.agreement_core.specs.Checks.{passes, is_stop, exchanged}
use Rattle.agreement_core.specs.Events as events
use Rattle.agreement_core.specs.Events.{HasTaken, with_cell, reads}
use Rattle.machine_states.specs.Sight.{Sight, sight_after}
use Rattle.machine_states.proofs.Updates.{upd_here, upd_else, upd_split}
use Rattle.machine_scenes.specs.Shown.{rules_of}
use Rattle.machine_agreement.specs.Joined.{has_released, IsRunOf, ShowsSection, IsJoinedToAgreement}
use Rattle.machine_agreement.proofs.Passes.{resting, same_check}
use Rattle.machine_agreement.proofs.RunPlaces as places
use Rattle.machine_agreement.proofs.LineAsked as asked
use Rattle.machine_agreement.proofs.Frames.{HasSameText}
use Rattle.machine_agreement.specs.Chunks.{IsLineChunk}
use Rattle.machine_agreement.specs.Goes.{Goes}
use Rattle.machine_agreement.proofs.Assembly.{plain_goes, thunks_kept}
use Rattle.machine_agreement.proofs.Endings.{no_done}
use Rattle.machine_agreement.proofs.LineKinds.{noting, noted_finished, after_line, one, all}

-- what comes next at a run's end
end_next : (b : Bool) (here rest micro : Micro) → is_event here ≡ b → phase here ≤ 7 → 8 ≤ phase micro → cond b here rest ≡ micro → (is_event here ≡ false) × (rest ≡ micro)
end_next true here rest micro is low high e = absurd (let same = ap phase e in omega arith)
end_next false here rest micro is low high e = (is, e)

module _ (m : Meaning) (l : Layout) (rs : List Request) (w : AgreementState) (s : Sight) (old : IsJoinedToAgreement m l w s) (r : ℕ) (q : RunState) (is : (s.part r).run ≡ Some q) (opened : is_open_run q ≡ true) where
  abbrev c : CellRules
  c = rules_of m l

  -- the step leads to a joined state, by the events of its kind
  abbrev After : EventKind → Spot × Access → Type 0
  After kind x = (heads : List events.Event) × IsLineChunk m l w r kind (s.part r) q (s.word x.0) heads × Goes m l r heads w (sight_after m l s r kind x)

  run_here : IsRunOf (w.run r) q
  run_here = places.run_here m l w s old r q is

  long : length q.opened ≡ 13
  long = all m l rs w s old r q is opened

  abbrev t : Rattle.machine_states.specs.body_terms.specs.declared.thunk.Thunk.Thunk
  t = thunk_of q.opened

  abbrev ms : List Micro
  ms = line_of m q

  -- no exchange of an end stands in the line
  phase_here : phase (micro_at ms q.at) ≤ 7
  phase_here =
      let line = (old.sound.sections q.descriptor (places.used_here m l w s old r q is)).published.line.in_phases in
      let here = places.code_here m l w s old r q is long q.at in
      ⊎_elim (λ low. let six = line.inside q.at low in let same = ap phase here in omega arith) (λ high. let end = ap phase (line.outside q.at high) in let same = ap phase here in omega arith) (order q.at line.length)
    where
      order : (i n : ℕ) → (i < n) ⊎ (n ≤ i)
      order i n = search arith

  -- the run stands at the end of its line, or at a check, before an exchange of its end
  pub at_end : (micro : Micro) → 8 ≤ phase micro → next_of m q ≡ micro → (is_event (micro_at ms q.at) ≡ false) × (slice_index_or (ending ms q.at t.lock t.word) q.ended micros.End ≡ micro)
  at_end micro high next = end_next (is_event (micro_at ms q.at)) (micro_at ms q.at) (slice_index_or (ending ms q.at t.lock t.word) q.ended micros.End) micro refl phase_here high next

  done_first : (n : ℕ) → slice_index_or (ending ms q.at t.lock t.word) n micros.End ≡ micros.SetDone → n ≡ 0
  done_first zero e = refl
  done_first (suc n) e = absurd (no_done (take q.at ms) t.lock t.word n e)

  -- the run goes no further
  stops : is_event (micro_at ms q.at) ≡ false → is_stop c ((w.run r).descriptor) ((w.run r).trail) ((section_of w r).code ((w.run r).at)) ≡ true
  stops none =
      let here = places.code_at m l w s old r q is long in
      let no_pass : passes c q.descriptor ((w.run r).trail) (micro_at ms q.at) ≡ false = sym (same_check m l q.descriptor q.trail ((w.run r).trail) (micro_at ms q.at) run_here.trail) ∙ resting m l q ((old.tied r).rests q is long) in
      ap (is_stop c ((w.run r).descriptor) ((w.run r).trail)) here
      ∙ (ap (λ d. is_stop c d ((w.run r).trail) (micro_at ms q.at)) run_here.descriptor
      ∙ (ap (λ b. not (b || passes c q.descriptor ((w.run r).trail) (micro_at ms q.at))) none ∙ ap (λ b. not (false || b)) no_pass))

  -- one more exchange of the end
  rests_more : settles m l q ≡ q → settles m l (ended_more q) ≡ ended_more q
  rests_more rest = ap (λ (y : RunState). ended_more y) rest

  -- none has been released before the first release
  none_yet : (place : ℕ) → q.ended ≡ 0 → has_released ms q.at t.lock t.word (q.ended + 1) place ≡ true → ⊥
  none_yet place going has = let nought : has_released ms q.at t.lock t.word (0 + 1) place ≡ true = subst (λ n. has_released ms q.at t.lock t.word (n + 1) place ≡ true) going has in cc

  -- the component's run after it has set the done word
  done_run : q.ended ≡ 0 → IsRunOf ((events.after w (events.SetDone r)).run r) (ended_more q)
  done_run going = subst (λ (y : Run). IsRunOf y (ended_more q)) (sym (upd_here w.run r (record (w.run r) { ended = true })))
      (record { running = run_here.running; descriptor = run_here.descriptor; at = run_here.at; word = run_here.word; count = run_here.count; trail = run_here.trail; ended = one_more q.ended })
    where
      one_more : (n : ℕ) → true ≡ nat_le 1 (n + 1)
      one_more n = grind (arith, nat_tests)

  -- the done word after it
  done_sections : (new : ℕ) → written_once ((section_of w r).done) 1 ≡ new → (d : ℕ) → ShowsSection ((events.after w (events.SetDone r)).section d) (put s.word (spots.DoneWord q.descriptor) new) d
  done_sections new same = upd_split w.section (w.run r).descriptor (record (section_of w r) { done = written_once ((section_of w r).done) 1 }) (λ i y. ShowsSection y (put s.word (spots.DoneWord q.descriptor) new) i)
      (record { done = same ∙ sym (ap (λ b. cond b new (s.word (spots.DoneWord ((w.run r).descriptor)))) (at ((w.run r).descriptor) q.descriptor run_here.descriptor)) })
      (λ i ne. record { done = (old.sections i).done ∙ sym (ap (λ b. cond b new (s.word (spots.DoneWord i))) (other i q.descriptor (λ e. ne (e ∙ sym run_here.descriptor)))) })
    where
      at : (i d : ℕ) → i ≡ d → (i == d) ≡ true
      at i d e = grind (arith, nat_tests)

      other : (i d : ℕ) → i ≢ d → (i == d) ≡ false
      other i d ne = grind (arith, nat_tests)

  pub set_done : (x : Spot × Access) → asks m l rs r kinds.SetDone (s.part r) ≡ Some x → After kinds.SetDone x
  set_done x e =
      let h = asked.set_done_asked q x (next_of m q) (asked.line_asked m l rs r kinds.SetDone (s.part r) q x e is opened) in
      let place = at_end micros.SetDone (omega arith) h.0 in
      subst (After kinds.SetDone) h.1 (done_goes h.0 place.0 (done_first q.ended place.1))
    where
      done_goes : next_of m q ≡ micros.SetDone → is_event (micro_at ms q.at) ≡ false → q.ended ≡ 0 → After kinds.SetDone (spots.DoneWord q.descriptor, Exchanges 0 1)
      done_goes next none going =
          let x : Spot × Access = (spots.DoneWord q.descriptor, Exchanges 0 1) in
          let found = s.word (spots.DoneWord q.descriptor) in
          let q1 = ended_more q in
          let w1 = events.after w (events.SetDone r) in
          let word' = put s.word (spots.DoneWord q.descriptor) (exchanged found 0 1) in
          let text : (d : ℕ) → HasSameText (w1.section d) (w.section d) = upd_split w.section (w.run r).descriptor (record (section_of w r) { done = written_once ((section_of w r).done) 1 }) (λ i y. HasSameText y (w.section i))
          (record { lock = refl; word = refl; request = refl; code = refl; slot = refl }) (λ i ne. record { lock = refl; word = refl; request = refl; code = refl; slot = refl }) in (
            events.SetDone r ∷ [],
            (next, refl),
            subst (λ (p : PartState). Goes m l r (events.SetDone r ∷ []) w (record { word = word'; part = table.upd s.part r p })) (sym (after_line m l r kinds.SetDone x (s.part r) found q micros.SetDone is opened next))
                (plain_goes m l (events.SetDone r ∷ []) w w1 s r word' (noting m l r kinds.SetDone (spots.DoneWord q.descriptor) (Exchanges 0 1) found (s.part r) (done_set (s.part r) q)) old
                (one m l rs w s old r q is opened (events.SetDone r) (run_here.running, run_here.ended ∙ ap (nat_le 1) going, stops none))
                (record { others = λ i ne. upd_else w.run r _ i ne; finishes = λ i ne. refl; finished = λ i k ne. refl; seen = λ p word e. e })
                (let y = old.words in record { cells = y.cells; clock = y.clock; stamp = y.stamp; reply = y.reply })
                (done_sections (exchanged found 0 1) (ap (λ d. written_once ((w.section d).done) 1) run_here.descriptor ∙ ap (λ n. written_once n 1) (old.sections q.descriptor).done))
                (thunks_kept m l w w1 s word' old refl text (λ d j. refl)) (λ d j. refl)
                (record {
                  run = done_run going;
                  opened = λ k j e low more. let same : q1 ≡ k = cc in subst (λ (y : RunState). j < length y.opened → slice_index y.opened j ≡ word' (spots.ThunkWord y.descriptor j)) same (λ low. (old.tied r).opened q j is low more) low;
                  begins = λ k e low. let same : q1 ≡ k = cc in absurd (let n = ap (λ (y : RunState). length y.opened) same in let all = long in omega arith);
                  rests = λ k e all. let same : q1 ≡ k = cc in subst (λ (y : RunState). settles m l y ≡ y) same (rests_more ((old.tied r).rests q is long));
                  released = λ k place e has. let same : q1 ≡ k = cc in absurd (none_yet place going (subst (λ (y : RunState). has_released (line_of m y) y.at ((thunk_of y.opened).lock) ((thunk_of y.opened).word) y.ended place ≡ true) (sym same) has));
                  read = (old.tied r).read;
                  finishes = (old.tied r).finishes ∙ ap length (sym (noted_finished l r kinds.SetDone (spots.DoneWord q.descriptor) (Exchanges 0 1) found (s.part r).records));
                  finished = λ i f e. (old.tied r).finished i f (ap (λ xs. slice_get xs i) (sym (noted_finished l r kinds.SetDone (spots.DoneWord q.descriptor) (Exchanges 0 1) found (s.part r).records)) ∙ e);
                })),
          )
