-- A run goes on from one step of its body to the next one.
use Rattle.std.specs.Prelude.{is_some, if◌then◌else◌}
use Rattle.std.proofs.Common.{◌≡◌, ℕ, suc, ◌+◌, ◌<◌, ◌≤◌, List, [], ◌++◌, length, length-append, true, false, refl, sym, ap, ◌∙◌, subst, arith, None}
use Rattle.idem_cell.specs.section_lines.specs.small_lemmas.proofs.Lists.{append_none}
use Rattle.idem_cell.specs.machine_states.specs.body_terms.specs.declared.micro.Micro.{Micro}
use Rattle.idem_cell.specs.machine_states.specs.body_terms.specs.declared.step.Step.{Step}
use Rattle.idem_cell.specs.machine_states.specs.body_terms.specs.Line.{Registers, begins, line, micros, micro_at, micro_count, log_words, is_event, registers_before}
use Rattle.idem_cell.specs.machine_states.specs.body_terms.specs.Run.{settled}
use Rattle.idem_cell.specs.machine_states.specs.body_terms.specs.Cost.{run_cost}
use Rattle.idem_cell.specs.machine_states.specs.body_terms.specs.Shape.{IsStep, IsShaped}
use Rattle.idem_cell.specs.machine_states.specs.body_terms.proofs.LineLemmas.{micro_within, begins_next, registers_before_next, count_after}
use Rattle.idem_cell.specs.machine_states.specs.body_terms.proofs.RegisterLemmas.{count_le, count_rises}
use Rattle.idem_cell.specs.section_lines.specs.Rests.{is_test, rests}
use Rattle.idem_cell.specs.section_lines.proofs.Places.{step_inside}
use Rattle.idem_cell.specs.section_lines.proofs.Progress.{some_micros}
use Rattle.idem_cell.specs.section_lines.proofs.Resting.{run_rests}
use Rattle.idem_cell.specs.machine_states.specs.table_words.specs.Limits.{IsWithinLimits}
use Rattle.idem_cell.specs.machine_states.specs.structure_laws.specs.Meaning.{Meaning}
use Rattle.idem_cell.specs.machine_states.specs.structure_laws.specs.Laws.{Laws}
use Rattle.idem_cell.specs.machine_states.specs.structure_laws.specs.Shape.{most_of_run}
use Rattle.idem_cell.specs.machine_states.specs.body_terms.specs.block_words.specs.Blocks.{blocks_for}
use Rattle.idem_cell.specs.machine_states.specs.runner_parts.specs.State.{RunState, NodesState, BlocksState, PartState}
use Rattle.idem_cell.specs.machine_states.specs.runner_steps.specs.Sections.{thunk_of, line_of, next_of, setting_of, settles}
use Rattle.nested_lock.specs.machine_facts.specs.machine_invariant.specs.After.{AreAllowed}
use Rattle.idem_alloc.specs.commit_log.specs.next_steps.specs.Steps.{stock}
use Rattle.idem_alloc.specs.commit_log.specs.next_steps.proofs.Stages.{in_table}
use Rattle.idem_alloc.specs.commit_log.specs.version_words.specs.RunnerState.{RunnerState}
use Rattle.idem_alloc.specs.commit_log.specs.version_words.specs.TableState.{TableState, IsOf}
use Rattle.idem_alloc.specs.commit_log.specs.Runs.{IsRunning}
use Rattle.idem_alloc.specs.commit_log.specs.Links.{HasRoom}
use Rattle.idem_alloc.specs.commit_log.proofs.Next.{next_here}
use Rattle.section_runs.specs.Reached.{run_or, run_of}
use Rattle.section_runs.specs.Bodies.{body_words, body_blocks, NodesStepped, body_of, StandsBefore, IsBefore, MayGo, IsSameRun}

-- the run that a runner is in
pub run_is : {T : Type 0} (m : Meaning) (r : RunnerState T) (q : RunState) → IsRunning m r q → q ≡ run_of r
run_is m r q is = ap run_or (sym is.inside.running)

-- own node slots that no step touched
pub nodes_same : (step : Step) (old new : NodesState) → new ≡ old → NodesStepped step old new
nodes_same step old new e = subst (NodesStepped step old) (sym e) (record {
  free = omega arith;
  hand = refl;
  tests = λ none. none;
  more = [];
  limbo = sym (append_none old.limbo);
  few = omega arith;
  same = λ make retire. refl;
})

-- blocks that a step left as they were
pub stock_same : (p p' : PartState) (q : RunState) → p'.blocks ≡ p.blocks → stock p q ≤ stock p' q
stock_same p p' q same =
    let e : stock p' q ≡ stock p q = ap (λ (b : BlocksState). length q.links + (if is_some q.block then 1 else 0) + length b.free) same in omega (arith, e)

-- room for all words is room for some
room_rises : (a b c d : ℕ) → a ≡ b → b ≤ c → c ≤ d → a ≤ d
room_rises a b c d same low kept = omega (arith, same, low, kept)

room_for : (some all has : ℕ) → some ≤ all → blocks_for all ≤ has → blocks_for some ≤ has
room_for some all has low room = omega (arith, low, room)

module _ {T : Type 0} (m : Meaning) (r : RunnerState T) (n : ℕ) (step : Step) (before : IsBefore m n r) (here : IsStep (body_of m r) n step) where
  abbrev q : RunState
  q = run_of r

  -- before a step that isn't a check alone the run rests where the step begins
  pub begins_here : is_test step ≡ false → q.at ≡ begins (body_of m r) n
  begins_here test = before.at ∙ (run_rests (setting_of r.layout q.descriptor) q.trail (body_of m r)).before n step here test

  -- so this is the atomic step so many places further
  pub stands : (i at : ℕ) → is_test step ≡ false → i < micro_count step → at ≡ q.at + i
      → micro_at (line_of m q) at ≡ micro_at (micros (registers_before (body_of m r) n) step) i
  stands i at test within e =
      ap (micro_at (line_of m q)) (let b = begins_here test in let z : at ≡ begins (body_of m r) n + i = omega (arith, b, e) in z)
      ∙ micro_within (body_of m r) n i step here within

  -- and the first one comes next
  pub comes_next : (micro : Micro) → is_test step ≡ false → micro_at (micros (registers_before (body_of m r) n) step) 0 ≡ micro → is_event micro ≡ true → next_of m q ≡ micro
  comes_next micro test first event = next_here m q micro
      (stands 0 q.at test (some_micros step) (omega arith) ∙ first) event

  -- where a run comes to the next step
  pub arrives_at : (new : RunnerState T) (q0 : RunState) (words : List ℕ) → IsRunning m new (settles m r.layout q0) → new.layout ≡ r.layout
      → q0.opened ≡ q.opened → q0.descriptor ≡ q.descriptor → q0.trail ≡ q.trail ++ words → length words ≡ log_words step → q0.made ≡ None → q0.ended ≡ 0 → stock r.part q ≤ stock new.part q0
      → settled (setting_of r.layout q0.descriptor) q0.trail (line_of m q0) q0.at ≡ rests (setting_of r.layout q0.descriptor) q0.trail (body_of m r) (suc n)
      → IsBefore m (suc n) new
  arrives_at new q0 words running layout opened descriptor trail many none unended kept at =
      subst (StandsBefore m (suc n) new) (run_is m new (settles m r.layout q0) running) (record {
        running = running;
        at = at ∙ (λ i. rests (setting_of (sym layout i) q0.descriptor) q0.trail (m.body (thunk_of (sym opened i))) (suc n));
        count = ap length trail ∙ (length-append q.trail words
            ∙ ((let c = before.count in let z : length q.trail + length words ≡ (registers_before (body_of m r) n).count + log_words step = omega (arith, c, many) in z)
            ∙ (sym (ap (λ (g : Registers). g.count) (registers_before_next (body_of m r) n step here) ∙ count_after (registers_before (body_of m r) n) step)
            ∙ ap (λ xs. (registers_before (m.body (thunk_of xs)) (suc n)).count) (sym opened))));
        none = none;
        unended = unended;
        room = room_rises (body_blocks (m.body (thunk_of q0.opened))) (body_blocks (body_of m r)) (stock r.part q) (stock new.part q0)
            (ap (λ xs. body_blocks (m.body (thunk_of xs))) opened) before.room kept;
      })

  -- as behind its last atomic step
  pub arrives : (new : RunnerState T) (q0 : RunState) (words : List ℕ) → IsRunning m new (settles m r.layout q0) → new.layout ≡ r.layout
      → q0.opened ≡ q.opened → q0.descriptor ≡ q.descriptor → q0.trail ≡ q.trail ++ words → length words ≡ log_words step → q0.made ≡ None → q0.ended ≡ 0 → stock r.part q ≤ stock new.part q0
      → q0.at ≡ begins (body_of m r) n + micro_count step → IsBefore m (suc n) new
  arrives new q0 words running layout opened descriptor trail many none unended kept at =
      arrives_at new q0 words running layout opened descriptor trail many none unended kept
      (λ i. settled (setting_of r.layout q0.descriptor) q0.trail (line (m.body (thunk_of (opened i)))) ((at ∙ sym (begins_next (body_of m r) n step here)) i))

-- the log of the body has a word for each on which a step agrees, so there are blocks for them
module _ {T : Type 0} (m : Meaning) (r : RunnerState T) (step : Step) (may : MayGo m step r) where
  words_fit : length (run_of r).trail + log_words step ≤ body_words (body_of m r)
  words_fit =
      let body = body_of m r in
      let next = ap (λ (g : Registers). g.count) (registers_before_next body may.n step may.here) ∙ count_after (registers_before body may.n) step in
      let inside = step_inside body may.n step may.here in
      let rises = count_rises body (suc may.n) (length body) (omega (arith, inside)) (omega arith) in
      let count = may.before.count in
      omega (arith, next, rises, count)

  pub has_room : HasRoom (log_words step) r.part (run_of r)
  has_room = room_for (length (run_of r).trail + log_words step) (body_words (body_of m r)) (stock r.part (run_of r)) words_fit may.before.room

-- and stays in its run
pub same_run : {T : Type 0} (m : Meaning) (old new : RunnerState T) (q : RunState) → IsRunning m new q → new.layout ≡ old.layout
    → q.opened ≡ (run_of old).opened → q.descriptor ≡ (run_of old).descriptor → IsSameRun m old new
same_run m old new q is layout opened descriptor =
    let e = run_is m new q is in
    record {
      opened = ap (λ (y : RunState). y.opened) (sym e) ∙ opened;
      descriptor = ap (λ (y : RunState). y.descriptor) (sym e) ∙ descriptor;
      layout = layout;
    }

-- what a trail is whose run came so far
pub trail_is : {T : Type 0} (m : Meaning) (new : RunnerState T) (q : RunState) → IsRunning m new q → (words : List ℕ) → q.trail ≡ words → words ≡ (run_of new).trail
trail_is m new q is words e = sym e ∙ ap (λ (y : RunState). y.trail) (run_is m new q is)

module _ {T : Type 0} (m : Meaning) (laws : Laws m) (t : TableState T) (limits : IsWithinLimits t.layout) (allowed : AreAllowed t.requests) (r : RunnerState T) (own : IsOf t r) where
  -- the body of a run has the shape
  pub shaped : (q : RunState) → IsRunning m r q → IsShaped (m.body (thunk_of q.opened))
  shaped q is = (in_table m laws r.layout (subst IsWithinLimits (sym own.layout) limits) r.requests (subst AreAllowed (sym own.requests) allowed)
      r.number r.part q is.inside).body is.opened

  -- and costs few steps
  pub brief : (q : RunState) → IsRunning m r q → run_cost (m.body (thunk_of q.opened)) ≤ most_of_run
  brief q is = (in_table m laws r.layout (subst IsWithinLimits (sym own.layout) limits) r.requests (subst AreAllowed (sym own.requests) allowed)
      r.number r.part q is.inside).brief is.opened

  -- the log has room for what a step agrees on
  pub log_room : (step : Step) → MayGo m step r → length (run_of r).trail + log_words step ≤ 64
  log_room step may =
      let body = body_of m r in
      let whole = shaped (run_of r) may.before.running in
      let next = ap (λ (g : Registers). g.count) (registers_before_next body may.n step may.here) ∙ count_after (registers_before body may.n) step in
      let inside = step_inside body may.n step may.here in
      let most = count_le body (suc may.n) (omega (arith, inside)) in
      let short = whole.short in
      let count = may.before.count in
      omega (arith, next, inside, most, short, count)
