-- A run that commits a lock's word next loaded it with its last step.
use Rattle.std.specs.Prelude.{◌⊎◌, cond, Bool, true, false, if◌then◌else◌}
use Rattle.std.proofs.Common.{◌≡◌, ℕ, suc, ◌+◌, List, [], ◌∷◌, length, length-append, refl, sym, ap, ◌∙◌, subst, ⊎_elim, inl, inr, arith, Option, Some, None}
use Rattle.machine_states.specs.map_history.specs.declared.op.Request.{Request}
use Rattle.machine_states.specs.body_terms.specs.Line.{line, micro_at, is_event, is_check}
use Rattle.machine_states.specs.body_terms.specs.Run.{settled}
use Rattle.machine_states.specs.body_terms.specs.declared.micro.Micro.{Micro}
use Rattle.machine_states.specs.body_terms.specs.declared.micro.Micro.TheVariants as micros
use Rattle.machine_states.specs.body_terms.specs.declared.step.Step.{Step}
use Rattle.agreement_core.specs.section_lines.specs.Line.{IsLine}
use Rattle.agreement_core.specs.section_lines.proofs.Sources.{of_take}
use Rattle.machine_states.specs.table_words.specs.declared.layout.Layout.{Layout}
use Rattle.machine_states.specs.table_words.specs.declared.spot.Spot.{Spot}
use Rattle.machine_states.specs.table_words.specs.declared.spot.Spot.TheVariants as spots
use Rattle.machine_states.specs.table_words.specs.declared.access.Access.{Access}
use Rattle.machine_states.specs.structure_laws.specs.Meaning.{Meaning}
use Rattle.machine_states.specs.runner_parts.specs.declared.event.EventKind.{EventKind}
use Rattle.machine_states.specs.runner_parts.specs.State.{RunState, PartState}
use Rattle.machine_states.specs.runner_steps.specs.Asks.{opening_ask}
use Rattle.machine_states.specs.runner_steps.specs.Asks.{ask_by, line_ask}
use Rattle.machine_states.specs.runner_steps.specs.After.{after_by, line_after}
use Rattle.machine_states.specs.runner_steps.specs.AfterInRun.{opened_more}
use Rattle.machine_states.specs.runner_steps.specs.Sections.{thunk_of, is_open_run, line_of, next_of, setting_of}
use Rattle.agreement_core.specs.State.{Section}
use Rattle.machine_states.specs.Sight.{Sight}
use Rattle.machine_states.proofs.Sights.{unless_gone, joins}
use Rattle.machine_states.proofs.Steps.{some_same, none_some}
use Rattle.machine_epochs.proofs.RunPlaces.{open_run}
use Rattle.runner_facts.specs.machine_facts.specs.machine_agreement.proofs.RunPlaces.{code_here}
use Rattle.runner_facts.specs.machine_facts.specs.machine_invariant.proofs.Trails.{run_used}
use Rattle.runner_facts.specs.machine_facts.specs.machine_invariant.proofs.Keeping.{IsStep}
use Rattle.runner_facts.specs.next_steps.proofs.Parts.{each_part}
use Rattle.runner_facts.proofs.Lines.{rests_behind}
use Rattle.runner_facts.proofs.Runs as runs_of
use Rattle.runner_facts.proofs.Runs.{loads_lock, nested_kind, outcome_kind}
use Rattle.lock_words.specs.Taken.{CommitsLock}
use Rattle.lock_words.proofs.Facts.{line_of_section}

-- no line begins with such a commit
not_first : (body : List Step) (i place log : ℕ) → CommitsLock (micro_at (line body) i) place log → i ≡ 0 → ⊥
not_first body i place log commits zero = ⊎_elim
    (λ nested. let o = of_take body i (micros.NestedCommit place log) nested refl in absurd (let at = o.2.from.place in omega (arith, at, zero)))
    (λ outcome. let o = of_take body i (micros.OutcomeCommit place log) outcome refl in absurd (let at = o.2.from.place in omega (arith, at, zero)))
    commits

-- an event that stands at a run's place comes next
event_next : (m : Meaning) (q : RunState) (micro : Micro) → micro_at (line_of m q) q.at ≡ micro → is_event micro ≡ true → next_of m q ≡ micro
event_next m q micro e event = picks (is_event (micro_at (line_of m q) q.at)) _ _ micro (ap is_event e ∙ event) e
  where
    picks : (b : Bool) (one two three : Micro) → b ≡ true → one ≡ three → cond b one two ≡ three
    picks true one two three is same = same
    picks false one two three is same = absurd (let z = is in cc)

module _ (m : Meaning) (l : Layout) (rs : List Request) (s s' : Sight) (r : ℕ) (kind : EventKind) (st : IsStep m l rs s s' r kind) where
  abbrev p : PartState
  p = s.part r

  abbrev x : Spot × Access
  x = st.step.ask

  abbrev found : ℕ
  found = s.word x.0

  -- the runner was in this run already, at the same place with the same word, or has found the word in the cell
  pub record Was (i : ℕ) (q' : RunState) (place : ℕ) : Type 0 where
    pub run : RunState
    pub runs : (s.part i).run ≡ Some run
    pub descriptor : run.descriptor ≡ q'.descriptor
    pub opened : run.opened ≡ q'.opened
    pub by : ((run.at ≡ q'.at) × (run.word ≡ q'.word)) ⊎ ((q'.word ≡ s.word (spots.Cell place)) × (q'.at ≡ suc run.at))

  abbrev Loaded : ℕ → PartState → Type 0
  Loaded i p' = (q' : RunState) (place log : ℕ) → p'.run ≡ Some q' → length q'.opened ≡ 13
      → CommitsLock (micro_at (line_of m q') q'.at) place log → Was i q' place

  abbrev section_of : RunState → Section
  section_of q = st.beside.agreement.section q.descriptor

  in_line : (q : RunState) → p.run ≡ Some q → is_open_run q ≡ true → line_ask m l kind p.nodes.free p.blocks.free q (next_of m q) ≡ Some x
      → Loaded r (line_after m l kind p q (next_of m q) found)
  in_line q runs open_q e q' place log is all commits = ⊎_elim
      (λ over. absurd (none_some q' (sym is ∙ over)))
      (λ more. by_run more.0 (some_same more.0 q' (sym more.1 ∙ is)) more.2)
      (runs_of.line_runs m l p found kind q runs kind refl (next_of m q)).run
    where
      full : length q.opened ≡ 13
      full = open_run q open_q

      section_line : IsLine m.is_lock l.version_max (section_of q).lock (section_of q).code (section_of q).slot
      section_line = line_of_section m l st.beside s st.whole q.descriptor (run_used m l st.beside.agreement s st.whole.sections r q runs)

      code : (i : ℕ) → (section_of q).code i ≡ micro_at (line_of m q) i
      code = code_here m l st.beside.agreement s st.whole.sections r q runs full

      by_run : (q1 : RunState) → q1 ≡ q' → runs_of.Goes m l p found kind q q1 → Was r q' place
      by_run q1 same goes = record {
        run = q;
        runs = runs;
        descriptor = sym goes.descriptor ∙ ap (λ (u : RunState). u.descriptor) same;
        opened = opened;
        by = ⊎_elim
            (λ waits. inl (sym waits.0 ∙ ap (λ (u : RunState). u.at) same, sym waits.1 ∙ ap (λ (u : RunState). u.word) same))
            (λ rests. let h = rested rests.0 (sym (ap (λ (u : RunState). u.at) same) ∙ rests.1) rests.2 in inr (sym (ap (λ (u : RunState). u.word) same) ∙ h.0, h.1))
            goes.at;
      }
        where
          opened : q.opened ≡ q'.opened
          opened = sym goes.opened ∙ ap (λ (u : RunState). u.opened) same

          same_line : (i : ℕ) → micro_at (line_of m q) i ≡ micro_at (line_of m q') i
          same_line i = ap (λ words. micro_at (line (m.body (thunk_of words))) i) opened

          here : CommitsLock ((section_of q).code q'.at) place log
          here = subst (λ (micro : Micro). CommitsLock micro place log) (sym (code q'.at ∙ same_line q'.at)) commits

          rested : (trail : List ℕ) → q'.at ≡ settled (setting_of l q.descriptor) trail (line_of m q) (q.at + 1)
              → (loads_lock kind ≡ true → q1.word ≡ found) → (q1.word ≡ s.word (spots.Cell place)) × (q'.at ≡ suc q.at)
          rested trail at word = ⊎_elim
              (λ nested.
              let load = section_line.ordered.nested_before q'.at place log nested in
              let in_run = sym (code load.0) ∙ load.2 in
              let back = rests_behind (setting_of l q.descriptor) trail (line_of m q) q.at load.0 (sym at ∙ load.1) (ap is_check in_run) in
              let event = event_next m q (micros.NestedLoad place log) (ap (micro_at (line_of m q)) (sym back) ∙ in_run) refl in
              let asks = nested_kind m l p.nodes.free p.blocks.free q x place log kind (ap (λ u. line_ask m l kind p.nodes.free p.blocks.free q u) (sym event) ∙ e) in
              (word (ap loads_lock asks.0) ∙ ap (λ (u : Spot × Access). s.word u.0) (sym asks.1), load.1 ∙ ap suc back))
              (λ outcome.
              let load = section_line.ordered.outcome_before q'.at place log outcome in
              let in_run = sym (code load.0) ∙ load.2 in
              let back = rests_behind (setting_of l q.descriptor) trail (line_of m q) q.at load.0 (sym at ∙ load.1) (ap is_check in_run) in
              let event = event_next m q (micros.OutcomeLoad place log) (ap (micro_at (line_of m q)) (sym back) ∙ in_run) refl in
              let asks = outcome_kind m l p.nodes.free p.blocks.free q x place log kind (ap (λ u. line_ask m l kind p.nodes.free p.blocks.free q u) (sym event) ∙ e) in
              (word (ap loads_lock asks.0) ∙ ap (λ (u : Spot × Access). s.word u.0) (sym asks.1), load.1 ∙ ap suc back))
              here

  in_opening : (q : RunState) → p.run ≡ Some q → Loaded r (opened_more p q found)
  in_opening q runs q' place log is all commits =
      let same = some_same _ q' is in
      let long = ap (λ (u : RunState). length u.opened) same in
      let sum = length-append q.opened (found ∷ []) in
      let begins = ((st.whole.sections.tied r).begins q runs (omega (arith, long, sum, all))).0 in
      absurd (not_first (m.body (thunk_of q'.opened)) q'.at place log commits (sym (ap (λ (u : RunState). u.at) same) ∙ begins))

  own : (o : Option RunState) → p.run ≡ o → ask_by m l rs r kind p o ≡ Some x → Loaded r (after_by m l kind p o found)
  own None is e = λ q' place log now all commits. absurd (
      let one = (runs_of.outside_runs m l p found kind is kind).run q' now in omega (arith, one, all))
  own (Some q) is e = by (is_open_run q) refl e
    where
      by : (b : Bool) → is_open_run q ≡ b → (if b then line_ask m l kind p.nodes.free p.blocks.free q (next_of m q) else opening_ask kind q) ≡ Some x
          → Loaded r (if b then line_after m l kind p q (next_of m q) found else opened_more p q found)
      by true opened e = in_line q is opened e
      by false opened e = in_opening q is

  pub loaded_before : (i : ℕ) (q' : RunState) (place log : ℕ) → (s'.part i).run ≡ Some q' → length q'.opened ≡ 13
      → CommitsLock (micro_at (line_of m q') q'.at) place log → Was i q' place
  loaded_before i = subst (λ (y : Sight). Loaded i (y.part i)) (sym st.step.next)
      (each_part m l s r x (λ k p'. Loaded k p') (λ k p' blocks board records gone h. h) kind (joins m l rs kind r p x st.step.asked)
      (own p.run refl (unless_gone _ p.gone _ x st.step.asked).1)
      (λ k ne q place log is all commits. record { run = q; runs = is; descriptor = refl; opened = refl; by = inl (refl, refl) }) i)
