-- A Take, by its answer.
use Rattle.std.proofs.Common.{◌≡◌, ℕ, suc, ◌+◌, ◌<◌, ◌≤◌, List, [], ◌∷◌, ◌++◌, length-append, append_assoc, false, refl, sym, ap, ◌∙◌, subst, arith, ⊎_elim, Option, Some, None}
use Rattle.std.specs.Prelude.{slice_index, take, is_err}
use Rattle.idem_cell.specs.machine_states.specs.body_terms.specs.declared.micro.Micro.{Micro}
use Rattle.idem_cell.specs.machine_states.specs.body_terms.specs.declared.micro.Micro.TheVariants as micros
use Rattle.idem_cell.specs.machine_states.specs.body_terms.specs.declared.outcome.Outcome.{Outcome}
use Rattle.idem_cell.specs.machine_states.specs.body_terms.specs.declared.step.Step.TheVariants.{Take}
use Rattle.idem_cell.specs.machine_states.specs.body_terms.specs.Line.{begins, line, micros, micro_at, is_check, is_event, registers_before, releases}
use Rattle.idem_cell.specs.machine_states.specs.body_terms.specs.Run.{Setting, leaves, settled}
use Rattle.idem_cell.specs.machine_states.specs.body_terms.specs.Shape.{IsStep}
use Rattle.idem_cell.specs.machine_states.specs.body_terms.proofs.LineLemmas.{begins_next}
use Rattle.idem_cell.specs.section_lines.specs.Rests.{taken_releases}
use Rattle.idem_cell.specs.section_lines.proofs.Resting.{run_rests, rests_at}
use Rattle.idem_cell.specs.machine_states.specs.table_words.specs.declared.layout.Layout.{Layout}
use Rattle.idem_cell.specs.machine_states.specs.structure_laws.specs.Meaning.{Meaning}
use Rattle.idem_cell.specs.machine_states.specs.runner_parts.specs.State.{RunState}
use Rattle.idem_cell.specs.machine_states.specs.runner_steps.specs.Sections.{thunk_of, line_of, setting_of, settles, outcome_or, reply_in}
use Rattle.idem_cell.specs.machine_states.specs.runner_steps.specs.AfterInRun.{goes_on, agrees}
use Rattle.idem_alloc.specs.commit_log.specs.version_words.specs.RunnerState.{RunnerState}
use Rattle.idem_alloc.specs.commit_log.specs.next_steps.specs.Steps.{stock}
use Rattle.idem_alloc.specs.commit_log.specs.Runs.{IsRunning}
use Rattle.idem_alloc.specs.commit_log.specs.Links.{with_links}
use Rattle.idem_alloc.specs.commit_log.proofs.Committing.{commit_blocks}
use Rattle.idem_alloc.specs.commit_log.proofs.Next.{settled_at}
use Rattle.nested_lock.specs.Answers.{first_outcome, second_outcome, outcome_at}
use Rattle.nested_lock.specs.Taken.{MayTake, HasRead, HasHeld, HasTaken}
use Rattle.nested_lock.specs.declared.takes.TakeEnd.{TakeEnd}
use Rattle.nested_lock.proofs.Reading.{index_last}
use Rattle.nested_lock.proofs.Halves.{ok_none}
use Rattle.section_runs.specs.Reached.{run_of}
use Rattle.section_runs.specs.Bodies.{body_of, IsBefore, MayGo, IsSameRun, StandsOver, IsOver, GoesOn, Leaves}
use Rattle.section_runs.specs.Takes.{word_of, words_of}
use Rattle.section_runs.proofs.Going.{run_is, stock_same, nodes_same, begins_here, stands, arrives_at, has_room, same_run}
use Rattle.section_runs.proofs.Cases.{commit_nodes}

pub may_take : {T : Type 0} (m : Meaning) (r : RunnerState T) (place word : ℕ) → MayGo m (Take place word) r → MayTake m r place word (run_of r)
may_take m r place word may = record {
  running = may.before.running;
  next = record {
    step = may.n;
    takes = may.here;
    at = let b = begins_here m r may.n (Take place word) may.before may.here refl in omega (arith, b);
  };
  room = has_room m r (Take place word) may;
}

module _ {T : Type 0} (m : Meaning) (r : RunnerState T) (place word n : ℕ) (before : IsBefore m n r) (here : IsStep (body_of m r) n (Take place word)) (end : TakeEnd) (new : RunnerState T) where
  abbrev q : RunState
  q = run_of r

  abbrev log : ℕ
  log = (registers_before (body_of m r) n).count

  abbrev s : Setting
  s = setting_of r.layout q.descriptor

  abbrev ms : List Micro
  ms = line_of m q

  abbrev first_trail : List ℕ
  first_trail = q.trail ++ end.first ∷ []

  there : (i at : ℕ) → i < 7 → at ≡ q.at + i → micro_at ms at ≡ micro_at (micros (registers_before (body_of m r) n) (Take place word)) i
  there i at low e = stands m r n (Take place word) before here i at refl low e

  locks_at : (i at : ℕ) → i < 7 → at ≡ q.at + i → releases (take at ms) ≡ taken_releases (take n (body_of m r))
  locks_at i at low e = ap (λ k. releases (take k ms)) (let b = begins_here m r n (Take place word) before here refl in let z : at ≡ begins (body_of m r) n + i = omega (arith, b, e) in z)
      ∙ (run_rests s q.trail (body_of m r)).taken n i (Take place word) here low

  -- a run that stands at a check of the Take that doesn't pass
  leaves_at : (y : RunState) (i : ℕ) (check : Micro) (outcome : Outcome) → IsRunning m new y → new.layout ≡ r.layout → y.opened ≡ q.opened → y.descriptor ≡ q.descriptor
      → y.made ≡ None → y.ended ≡ 0 → i < 7 → y.at ≡ q.at + i → micro_at (micros (registers_before (body_of m r) n) (Take place word)) i ≡ check → is_event check ≡ false
      → leaves s y.trail check ≡ Some outcome → IsOver m n outcome new
  leaves_at y i check outcome running layout opened descriptor none unended low at part event left =
      let stands_here : micro_at ms y.at ≡ check = there i y.at low at ∙ part in
      let line_same : line_of m y ≡ ms = ap (λ xs. line (m.body (thunk_of xs))) opened in
      subst (StandsOver m n outcome new) (run_is m new y running) (record {
        running = running;
        unended = unended;
        none = none;
        no_event = ap (λ xs. is_event (micro_at xs y.at)) line_same ∙ (ap is_event stands_here ∙ event);
        locks = ap (λ xs. releases (take y.at xs)) line_same ∙ (locks_at i y.at low at ∙ ap (λ xs. taken_releases (take n (m.body (thunk_of xs)))) (sym opened));
        outcome = (λ i. outcome_or (leaves (setting_of (layout i) (descriptor i)) y.trail (micro_at (line_same i) y.at)) (reply_in (m.body (thunk_of y.opened))))
            ∙ (ap (λ c. outcome_or (leaves s y.trail c) (reply_in (m.body (thunk_of y.opened)))) stands_here
            ∙ ap (λ (o : Option Outcome). outcome_or o (reply_in (m.body (thunk_of y.opened)))) left);
      })

  module _ (between : RunnerState T) (behind : RunState) (reads : HasRead m place end.first r between q behind) where
    abbrev q1 : RunState
    q1 = goes_on m r.layout q reads.loaded

    -- with the block that it may have linked
    abbrev k1 : RunState
    k1 = with_links q1 reads.between

    abbrev b : RunState
    b = agrees m r.layout k1 end.first

    q1_at : q1.at ≡ q.at + 1
    q1_at = ap (λ (y : RunState). y.at) (settled_at m r.layout (record q { at = q.at + 1; word = reads.loaded }) (micros.NestedCommit place log) (there 1 (q.at + 1) (omega arith) refl) refl)

    next_at : q1.at + 1 ≡ q.at + 2
    next_at = let a = q1_at in omega (arith, a)

    check : micro_at ms (q1.at + 1) ≡ micros.CheckFree place log word
    check = there 2 (q1.at + 1) (omega arith) next_at

    first_word : slice_index first_trail log ≡ end.first
    first_word = index_last q.trail end.first log (sym before.count)

    first_leaves : leaves s first_trail (micro_at ms (q1.at + 1)) ≡ first_outcome r.layout.version_max place word end.first
    first_leaves = ap (leaves s first_trail) check ∙ ap (first_outcome r.layout.version_max place word) first_word

    running : IsRunning m between b
    running = subst (λ (y : RunState). IsRunning m between (agrees m r.layout y end.first)) reads.links.line
        (subst (λ (y : RunState). IsRunning m between y) reads.after reads.goes_on)

    layout : between.layout ≡ r.layout
    layout = ap (λ (y : RunnerState T). y.layout) reads.commit.step.event.made ∙ (reads.links.same.layout ∙ ap (λ (y : RunnerState T). y.layout) reads.load.event.made)

    nodes : between.part.nodes ≡ r.part.nodes
    nodes = commit_nodes m reads.linked between reads.between end.first reads.first reads.commit ∙ (reads.links.same.nodes ∙ reads.load.behind.nodes)

    kept : stock r.part q ≤ stock between.part b
    kept = let one = stock_same r.part reads.middle.part q reads.load.behind.blocks in
        let two : stock reads.middle.part q ≤ stock reads.linked.part reads.between = reads.links.blocks in
        let three = stock_same reads.linked.part between.part reads.between (commit_blocks m reads.linked between reads.between end.first reads.first reads.commit) in omega (arith, one, two, three)

    -- a first word that refuses
    module _ (same : new ≡ between) (outcome : Outcome) (told : first_outcome r.layout.version_max place word end.first ≡ Some outcome) where
      left : leaves s first_trail (micro_at ms (q1.at + 1)) ≡ Some outcome
      left = first_leaves ∙ told

      b_at : b.at ≡ q1.at + 1
      b_at = (rests_at s first_trail ms).leaves (q1.at + 1) outcome left

      new_running : IsRunning m new b
      new_running = subst (λ (y : RunnerState T). IsRunning m y b) (sym same) running

      new_layout : new.layout ≡ r.layout
      new_layout = ap (λ (y : RunnerState T). y.layout) same ∙ layout

      pub first_over : IsOver m n outcome new
      first_over = leaves_at b 2 (micros.CheckFree place log word) outcome new_running new_layout refl refl before.none before.unended (omega arith)
          (b_at ∙ next_at) refl refl (ap (λ (c : Micro). leaves s first_trail c) (sym check) ∙ left)

      pub first_same : IsSameRun m r new
      first_same = same_run m r new b new_running new_layout refl refl

      pub first_nodes : new.part.nodes ≡ r.part.nodes
      first_nodes = ap (λ (y : RunnerState T). y.part.nodes) same ∙ nodes

      pub first_trail_is : first_trail ≡ (run_of new).trail
      first_trail_is = ap (λ (y : RunState). y.trail) (run_is m new b new_running)

    -- a first word with which the lock may be taken
    module _ (told : first_outcome r.layout.version_max place word end.first ≡ None) (read : ℕ) (tried : HasHeld m place word read end.answer between new b) where
      hold_at : b.at ≡ q.at + 3
      hold_at =
          let hold : micro_at ms (suc (q1.at + 1)) ≡ micros.NestedHold place word = there 3 (suc (q1.at + 1)) (omega arith) (let a = next_at in omega (arith, a)) in
          let a = next_at in
          let e : b.at ≡ suc (q1.at + 1) = (rests_at s first_trail ms).goes (q1.at + 1) (ap is_check check) (first_leaves ∙ told)
          ∙ (rests_at s first_trail ms).stays (suc (q1.at + 1)) (ap is_check hold) in omega (arith, a, e)

      abbrev l : Layout
      l = between.layout

      abbrev q2 : RunState
      q2 = goes_on m l b b.word

      abbrev q3 : RunState
      q3 = goes_on m l q2 tried.loaded

      abbrev k3 : RunState
      k3 = with_links q3 tried.between

      abbrev q4 : RunState
      q4 = agrees m l k3 read

      q2_at : q2.at ≡ q.at + 4
      q2_at = let h = hold_at in let e : b.at + 1 ≡ q.at + 4 = omega (arith, h) in
          ap (λ (y : RunState). y.at) (settled_at m l (record b { at = b.at + 1; word = b.word }) (micros.OutcomeLoad place (log + 1)) (there 4 (b.at + 1) (omega arith) e) refl) ∙ e

      q3_at : q3.at ≡ q.at + 5
      q3_at = let h = q2_at in let e : q2.at + 1 ≡ q.at + 5 = omega (arith, h) in
          ap (λ (y : RunState). y.at) (settled_at m l (record q2 { at = q2.at + 1; word = tried.loaded }) (micros.OutcomeCommit place (log + 1)) (there 5 (q2.at + 1) (omega arith) e) refl) ∙ e

      q4_next : q3.at + 1 ≡ q.at + 6
      q4_next = let h = q3_at in omega (arith, h)

      abbrev both : List ℕ
      both = first_trail ++ read ∷ []

      check_held : micro_at ms (q3.at + 1) ≡ micros.CheckHeld place (log + 1) word
      check_held = there 6 (q3.at + 1) (omega arith) q4_next

      second_word : slice_index both (log + 1) ≡ read
      second_word = index_last first_trail read (log + 1) (let c = before.count in let k = length-append q.trail (end.first ∷ []) in omega (arith, c, k))

      second_leaves : leaves s both (micro_at ms (q3.at + 1)) ≡ second_outcome r.layout.version_max q.descriptor place word read
      second_leaves = ap (leaves s both) check_held ∙ ap (second_outcome r.layout.version_max q.descriptor place word) second_word

      told_here : second_outcome r.layout.version_max q.descriptor place word read ≡ outcome_at place end.answer
      told_here = ap (λ (x : Layout). second_outcome x.version_max q.descriptor place word read) (sym layout) ∙ tried.told

      -- the run behind it, by the layout that doesn't change
      last_running : IsRunning m new q4
      last_running = subst (λ (y : RunState). IsRunning m new (agrees m l y read)) tried.links.line tried.goes_on

      last_layout : new.layout ≡ r.layout
      last_layout = ap (λ (y : RunnerState T). y.layout) tried.commit.event.made
          ∙ (tried.links.same.layout ∙ (ap (λ (y : RunnerState T). y.layout) tried.load.event.made ∙ (ap (λ (y : RunnerState T). y.layout) tried.hold.event.made ∙ layout)))

      q4_at : q4.at ≡ settled s both ms (q3.at + 1)
      q4_at = ap (λ (x : Layout). settled (setting_of x q.descriptor) both ms (q3.at + 1)) layout

      pub second_same : IsSameRun m r new
      second_same = same_run m r new q4 last_running last_layout refl refl

      pub second_nodes : new.part.nodes ≡ r.part.nodes
      second_nodes = tried.commit.behind.nodes ∙ (tried.links.same.nodes ∙ (tried.load.behind.nodes ∙ (tried.hold.behind.nodes ∙ nodes)))

      kept_on : stock r.part q ≤ stock new.part q4
      kept_on = let one = kept in
          let two = stock_same between.part tried.looking.part b (tried.load.behind.blocks ∙ tried.hold.behind.blocks) in
          let three : stock tried.looking.part b ≤ stock tried.linked.part tried.between = tried.links.blocks in
          let four = stock_same tried.linked.part new.part tried.between tried.commit.behind.blocks in omega (arith, one, two, three, four)

      pub second_trail_is : both ≡ (run_of new).trail
      second_trail_is = ap (λ (y : RunState). y.trail) (run_is m new q4 last_running)

      -- a second word that doesn't name the section
      module _ (outcome : Outcome) (answered : outcome_at place end.answer ≡ Some outcome) where
        left_then : leaves s both (micro_at ms (q3.at + 1)) ≡ Some outcome
        left_then = second_leaves ∙ (told_here ∙ answered)

        pub second_over : IsOver m n outcome new
        second_over = leaves_at q4 6 (micros.CheckHeld place (log + 1) word) outcome last_running last_layout refl refl before.none before.unended (omega arith)
            (q4_at ∙ ((rests_at s both ms).leaves (q3.at + 1) outcome left_then ∙ q4_next)) refl refl (ap (λ (c : Micro). leaves s both c) (sym check_held) ∙ left_then)

      -- one that does
      pub second_goes : outcome_at place end.answer ≡ None → IsBefore m (suc n) new
      second_goes answered =
          let none : leaves s both (micro_at ms (q3.at + 1)) ≡ None = second_leaves ∙ (told_here ∙ answered) in
          let bb = begins_here m r n (Take place word) before here refl in
          let k = q4_next in
          arrives_at m r n (Take place word) before here new (record k3 { at = q3.at + 1; trail = q3.trail ++ read ∷ [] }) (end.first ∷ read ∷ [])
          (subst (λ (x : Layout). IsRunning m new (settles m x (record k3 { at = q3.at + 1; trail = q3.trail ++ read ∷ [] }))) layout last_running)
          last_layout refl refl (append_assoc q.trail (end.first ∷ []) (read ∷ [])) refl before.none before.unended kept_on
          ((rests_at s both ms).goes (q3.at + 1) (ap is_check check_held) none
          ∙ ap (settled s both ms) ((let z : suc (q3.at + 1) ≡ begins (body_of m r) n + 7 = omega (arith, bb, k) in z) ∙ sym (begins_next (body_of m r) n (Take place word) here)))

-- a Take whose lock was taken goes on, and one that was refused leaves
module _ {T : Type 0} (m : Meaning) (r : RunnerState T) (place word : ℕ) (may : MayGo m (Take place word) r) (end : TakeEnd) (new : RunnerState T) (has : HasTaken m place word end r new (run_of r)) where
  abbrev went_on : RunState
  went_on = agrees m r.layout (with_links (goes_on m r.layout (run_of r) has.reads.loaded) has.reads.between) end.first

  behind_is : has.behind ≡ went_on
  behind_is = has.reads.after ∙ ap (λ (y : RunState). agrees m r.layout y end.first) has.reads.links.line

  held_by : (read : ℕ) → HasHeld m place word read end.answer has.between new has.behind → HasHeld m place word read end.answer has.between new went_on
  held_by read held = subst (λ (y : RunState). HasHeld m place word read end.answer has.between new y) behind_is held

  pub take_goes : is_err end.answer ≡ false → GoesOn m (Take place word) r new
  take_goes ok = ⊎_elim
      (λ refused. absurd (let a = refused.refused in let b = ok in cc))
      (λ tried. record {
        before = λ n before here. second_goes m r place word n before here end new has.between has.behind has.reads tried.told tried.read (held_by tried.read tried.held) (ok_none place end.answer ok);
        same = second_same m r place word may.n may.before may.here end new has.between has.behind has.reads tried.told tried.read (held_by tried.read tried.held);
        nodes = nodes_same (Take place word) r.part.nodes new.part.nodes (second_nodes m r place word may.n may.before may.here end new has.between has.behind has.reads tried.told tried.read (held_by tried.read tried.held));
      }) has.ends

  pub take_leaves : (outcome : Outcome) → outcome_at place end.answer ≡ Some outcome → Leaves m (Take place word) outcome r new
  take_leaves outcome answered = ⊎_elim
      (λ refused. let told = refused.told ∙ answered in record {
        over = λ n before here. first_over m r place word n before here end new has.between has.behind has.reads refused.same outcome told;
        same = first_same m r place word may.n may.before may.here end new has.between has.behind has.reads refused.same outcome told;
        nodes = first_nodes m r place word may.n may.before may.here end new has.between has.behind has.reads refused.same outcome told;
      })
      (λ tried. record {
        over = λ n before here. second_over m r place word n before here end new has.between has.behind has.reads tried.told tried.read (held_by tried.read tried.held) outcome answered;
        same = second_same m r place word may.n may.before may.here end new has.between has.behind has.reads tried.told tried.read (held_by tried.read tried.held);
        nodes = second_nodes m r place word may.n may.before may.here end new has.between has.behind has.reads tried.told tried.read (held_by tried.read tried.held);
      }) has.ends

  pub take_trail : (run_of r).trail ++ words_of end ≡ (run_of new).trail
  take_trail = ⊎_elim
      (λ refused. ap (λ (o : Option ℕ). (run_of r).trail ++ end.first ∷ word_of o) refused.alone ∙ (ap (λ (y : RunState). y.trail) (sym behind_is)
      ∙ ap (λ (y : RunState). y.trail) (run_is m new has.behind (subst (λ (y : RunnerState T). IsRunning m y has.behind) (sym refused.same) has.reads.goes_on))))
      (λ tried. ap (λ (o : Option ℕ). (run_of r).trail ++ end.first ∷ word_of o) tried.again ∙ (sym (append_assoc (run_of r).trail (end.first ∷ []) (tried.read ∷ []))
      ∙ second_trail_is m r place word may.n may.before may.here end new has.between has.behind has.reads tried.told tried.read (held_by tried.read tried.held))) has.ends
