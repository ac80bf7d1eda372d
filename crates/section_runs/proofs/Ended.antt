-- A whole run, put together.
use Rattle.std.proofs.Common.{◌≡◌, ◌≢◌, ℕ, ◌+◌, ◌≤◌, List, [], ◌∷◌, ◌++◌, Bool, true, refl, sym, ap, ◌∙◌, subst, arith, Option, Some, None}
use Rattle.std.specs.Prelude.{if◌then◌else◌}
use Rattle.idem_cell.specs.machine_states.specs.body_terms.specs.Cost.{cost_of}
use Rattle.idem_cell.specs.machine_states.specs.body_terms.specs.Line.{line, micro_at}
use Rattle.idem_cell.specs.machine_states.specs.body_terms.specs.Run.{leaves}
use Rattle.idem_cell.specs.machine_states.specs.body_terms.specs.Trail.{Agreed}
use Rattle.idem_cell.specs.machine_states.specs.body_terms.specs.declared.outcome.Outcome.{Outcome}
use Rattle.idem_cell.specs.machine_states.specs.body_terms.specs.declared.outcome.Outcome.TheVariants as outcomes
use Rattle.idem_cell.specs.machine_states.specs.body_terms.specs.declared.step.Step.{Step}
use Rattle.idem_cell.specs.machine_states.specs.body_terms.specs.declared.thunk.Thunk.{Thunk}
use Rattle.idem_cell.specs.machine_states.specs.table_words.specs.Limits.{IsWithinLimits}
use Rattle.idem_cell.specs.machine_states.specs.table_words.specs.declared.layout.Layout.{Layout}
use Rattle.idem_cell.specs.machine_states.specs.structure_laws.specs.Meaning.{Meaning}
use Rattle.idem_cell.specs.machine_states.specs.structure_laws.specs.Laws.{Laws}
use Rattle.idem_cell.specs.machine_states.specs.runner_parts.specs.State.{RunState, FinishedState, NodesState, BlocksState, ReadsState}
use Rattle.idem_cell.specs.machine_states.specs.runner_parts.specs.Tests.{is_answered}
use Rattle.idem_cell.specs.machine_states.specs.runner_steps.specs.AfterInRun.{ended_more, kept_unless, retired_if, finished_of}
use Rattle.idem_cell.specs.machine_states.specs.runner_steps.specs.Outside.{is_sure_of}
use Rattle.idem_cell.specs.machine_states.specs.runner_steps.specs.Sections.{thunk_of, outcome_of, outcome_or, setting_of, settles, is_late}
use Rattle.nested_lock.specs.machine_facts.specs.machine_invariant.specs.After.{AreAllowed}
use Rattle.idem_alloc.specs.commit_log.specs.version_words.specs.RunnerState.{RunnerState}
use Rattle.idem_alloc.specs.commit_log.specs.version_words.specs.TableState.{TableState, IsOf}
use Rattle.idem_alloc.specs.commit_log.specs.Runs.{Ran}
use Rattle.idem_alloc.specs.commit_log.proofs.Running.{ran_one, ran_more}
use Rattle.section_runs.specs.Reached.{run_or, run_of, events_after}
use Rattle.section_runs.specs.Opened.{Learns, ReadsOthers, HasOpened, StandsOpened, opening}
use Rattle.section_runs.specs.Bodies.{body_blocks, body_links, NodesGone, body_of, HasWalked}
use Rattle.section_runs.specs.Ends.{HasEnded}
use Rattle.idem_cell.specs.machine_states.specs.Sight.{sight}
use Rattle.idem_cell.specs.machine_states.specs.runner_steps.specs.After.{counted}
use Rattle.section_runs.specs.Ended.{NodesRan, BlocksRan, IsDone, EndsSo}
use Rattle.section_runs.proofs.Going.{run_is}
use Rattle.section_runs.proofs.Staying.{Passed, learns_more, reads_more, still_of, step_events, step_learns, ran_passed, ran_own, events_more}
use Rattle.section_runs.proofs.OwnBlocks.{Stands, stands_first, ran_stands, last_blocks}
use Rattle.section_runs.proofs.Readings.{step_reads}
use Rattle.section_runs.proofs.Walking.{sum_most, made_by, retired_by}
use Rattle.section_runs.proofs.Facts.{EndShows, end_shows, end_rests}
use Rattle.section_runs.proofs.Told.{answered_told}

nodes_ran : (body : List Step) (n : ℕ) (old new : NodesState) → NodesGone body n old new → NodesRan body old new
nodes_ran body n old new gone = record {
  free = let f = gone.free in let k = sum_most made_by body n in omega (arith, f, k);
  hand = gone.hand;
  tests = gone.tests;
  more = gone.more;
  limbo = gone.limbo;
  few = let f = gone.few in let k = sum_most retired_by body n in omega (arith, f, k);
}

-- an outcome that isn't an answer is that of a check
left_by : (x : Option Outcome) (reply : ℕ) (o : Outcome) → outcome_or x reply ≡ o → ((n : ℕ) → o ≢ outcomes.Answered n) → x ≡ Some o
left_by None reply o e other = absurd (other reply (sym e))
left_by (Some y) reply o e other = ap (λ (z : Outcome). Some z) e

-- one event more at the end
one_more : (count n : ℕ) → events_after (events_after count n) 1 ≡ events_after count (n + 1)
one_more count n = events_more count n 1

module _ {T : Type 0} (m : Meaning) (laws : Laws m) (t : TableState T) (limits : IsWithinLimits t.layout) (allowed : AreAllowed t.requests) (r1 r2 new : RunnerState T) (own : IsOf t r1)
    (d : ℕ) (thunk : Thunk) (late : Bool) (opened : StandsOpened m d thunk late r1)
    (n : ℕ) (o : Outcome) (walked : HasWalked m n o r1 r2) (made : ℕ) (went : Ran m made r1 r2) (ended : HasEnded m r2 new) where
  abbrev last : RunnerState T
  last = ended.last

  abbrev q : RunState
  q = run_of last

  abbrev q2 : RunState
  q2 = run_of r2

  run1 : run_of r1 ≡ opening d opened.words
  run1 = ap run_or opened.run

  q_descriptor : q.descriptor ≡ d
  q_descriptor = ap (λ (y : RunState). y.descriptor) ended.on.run ∙ (walked.same.descriptor ∙ ap (λ (y : RunState). y.descriptor) run1)

  q_opened : q.opened ≡ opened.words
  q_opened = ap (λ (y : RunState). y.opened) ended.on.run ∙ (walked.same.opened ∙ ap (λ (y : RunState). y.opened) run1)

  q_thunk : thunk_of q.opened ≡ thunk
  q_thunk = ap thunk_of q_opened ∙ opened.thunk

  body1 : body_of m r1 ≡ m.body thunk
  body1 = ap (λ (y : RunState). m.body (thunk_of y.opened)) run1 ∙ ap m.body opened.thunk

  passed : Passed (made + ended.count) thunk r1 last
  passed = ran_passed m laws t limits allowed (made + ended.count) thunk r1 last own (ran_more m made ended.count r1 r2 last went ended.ran) q ended.inside
      (λ p is. ap (λ (y : RunState). thunk_of y.opened) (run_is m r1 p is ∙ run1) ∙ opened.thunk)

  last_own : IsOf t last
  last_own = ran_own m laws t limits allowed (made + ended.count) r1 last own (ran_more m made ended.count r1 r2 last went ended.ran)

  new_own : IsOf t new
  new_own = still_of m laws t limits allowed last new last_own q _ ended.released.found ended.released.step

  -- what it leaves of the own blocks
  blocks : BlocksRan (body_blocks (m.body thunk)) d r1.part.blocks new.part.blocks
  blocks = subst (λ k. BlocksRan (body_blocks (m.body thunk)) k r1.part.blocks new.part.blocks) q_descriptor
      (subst (λ (x : Thunk). BlocksRan (body_blocks (m.body x)) q.descriptor r1.part.blocks new.part.blocks) q_thunk
      (last_blocks m laws t limits allowed r1.part.blocks last new last_own q _ _ ended.released.found ended.released.step ended.released.over
      (ran_stands m laws t limits allowed r1.part.blocks (made + ended.count) r1 last own (ran_more m made ended.count r1 r2 last went ended.ran) q ended.inside
      (λ p is. subst (λ (y : RunState). Stands m r1.part.blocks r1 y) (sym (run_is m r1 p is ∙ run1)) (stands_first m r1 d opened.words)))))

  stage : new.part.stage ≡ r1.part.stage
  stage = ended.released.step.behind.stage ∙ passed.stays.stage

  guards : new.part.guards ≡ r1.part.guards
  guards = ended.released.step.behind.guards ∙ passed.stays.guards

  -- it is sure of the descriptor on
  sure_on : is_sure_of new.part.guards q.descriptor ≡ true
  sure_on = (λ i. is_sure_of (guards i) (q_descriptor i)) ∙ opened.sure

  abbrev f : FinishedState
  f = finished_of m last.layout (ended_more q)

  shows : EndShows m d thunk f new
  shows = subst (λ (x : Thunk). EndShows m d x f new) q_thunk (subst (λ i. EndShows m i (thunk_of q.opened) f new) q_descriptor
      (end_shows m laws last new (subst IsWithinLimits (sym new_own.layout) limits) (subst AreAllowed (sym new_own.requests) allowed) q _ _ ended.released.found ended.released.step
      ended.released.over sure_on))

  -- it rests behind the checks that pass
  rests : settles m last.layout q ≡ q
  rests = subst (λ (l : Layout). settles m l q ≡ q) (ap (λ (y : RunnerState T). y.layout) ended.released.step.event.made)
      (end_rests m laws last new (subst IsWithinLimits (sym new_own.layout) limits) (subst AreAllowed (sym new_own.requests) allowed) q _ _ ended.released.found ended.released.step
      ended.released.over sure_on)

  outcome_is : f.outcome ≡ o
  outcome_is = ap (λ (y : RunState). outcome_of m last.layout (ended_more y)) ended.on.run ∙ (ap (λ (l : Layout). outcome_of m l q2) ended.on.layout ∙ walked.over.outcome)

  pub ends_so : (old : RunnerState T) → HasOpened m d thunk late old r1 → (trail : Agreed) → trail.words ≡ q2.trail → trail.late ≡ late
      → 13 + (made + (ended.count + 1)) ≤ cost_of (m.body thunk) + body_links (m.body thunk) → EndsSo m d thunk o trail (13 + (made + (ended.count + 1))) old new
  ends_so old hop trail words is_late_so few =
      let over = ended.released.over in
      let behind = ended.released.step.behind in
      let made_same = ended.released.step.event.made in
      record {
        finished = f;
        kept = behind.finished ∙ (ap (λ b. if b then last.part.records.finished ++ f ∷ [] else last.part.records.finished) over ∙ ap (λ xs. xs ++ f ∷ []) (passed.stays.finished ∙ hop.stays.finished));
        of_descriptor = q_descriptor;
        lock = ap (λ (x : Thunk). x.lock) q_thunk;
        word = ap (λ (x : Thunk). x.word) q_thunk;
        same_outcome = outcome_is;
        same_trail = ap (λ (y : RunState). y.trail) ended.on.run ∙ sym words;
        same_late = ap (λ xs. is_late (opening d xs)) q_opened ∙ (opened.found ∙ sym is_late_so);
        reached = shows.reached;
        is_done = subst (λ xs. IsDone m d thunk xs (sight m new.layout new.requests shows.reached.world)) (ap (λ (y : RunState). y.trail) ended.on.run ∙ sym words) shows.is_done;
        components = shows.components;
        facts = shows.facts;
        used = shows.used;
        ends = shows.ends;
        opened = r1;
        opening = subst (λ (b : Bool). HasOpened m d thunk b old r1) (sym is_late_so) hop;
        count = made + (ended.count + 1);
        ran = ran_more m made (ended.count + 1) r1 r2 new went (ran_more m ended.count 1 r2 last new ended.ran (ran_one m q _ ended.released.found last new ended.released.step));
        counted = refl;
        few = few;
        events = step_events m laws t limits allowed last new last_own q _ ended.released.found ended.released.step
            ∙ (ap counted passed.events ∙ (one_more r1.part.records.events (made + ended.count)
            ∙ ((let e : made + ended.count + 1 ≡ made + (ended.count + 1) = omega arith in ap (events_after r1.part.records.events) e)
            ∙ (ap (λ k. events_after k (made + (ended.count + 1))) hop.events ∙ events_more old.part.records.events 13 (made + (ended.count + 1))))));
        layout = ap (λ (y : RunnerState T). y.layout) made_same ∙ (passed.stays.layout ∙ hop.stays.layout);
        number = ap (λ (y : RunnerState T). y.number) made_same ∙ (passed.stays.number ∙ hop.stays.number);
        present = behind.present ∙ (passed.stays.present ∙ hop.stays.present);
        stage = stage ∙ hop.stays.stage;
        resting = behind.run ∙ ap (λ b. if b then None else Some (ended_more q)) over;
        published = behind.published ∙ (ap (λ b. if b then kept_unless last.part.published q.descriptor else last.part.published) over
            ∙ (λ i. kept_unless ((passed.stays.published ∙ hop.stays.published) i) (q_descriptor i)));
        descriptors = behind.descriptors ∙ (ap (λ b. if b then retired_if last.part.descriptors last.part.published q.descriptor else last.part.descriptors) over
            ∙ (λ i. retired_if ((passed.stays.descriptors ∙ hop.stays.descriptors) i) ((passed.stays.published ∙ hop.stays.published) i) (q_descriptor i)));
        nodes = subst (λ (ns : NodesState). NodesRan (m.body thunk) ns new.part.nodes) hop.nodes (subst (λ xs. NodesRan xs r1.part.nodes new.part.nodes) body1
            (nodes_ran (body_of m r1) walked.passed r1.part.nodes new.part.nodes (subst (NodesGone (body_of m r1) walked.passed r1.part.nodes) (sym (behind.nodes ∙ ended.on.nodes)) walked.nodes)));
        blocks = subst (λ (x : BlocksState). BlocksRan (body_blocks (m.body thunk)) d x new.part.blocks) hop.blocks blocks;
        left_nodes = λ other. behind.nodes ∙ (ended.on.nodes ∙ (walked.left other ∙ hop.nodes));
        guards = guards ∙ hop.stays.guards;
        walk = ap (λ (s : ReadsState). s.walk) behind.reads ∙ (passed.stays.walk ∙ hop.stays.walk);
        look = ap (λ (s : ReadsState). s.look) behind.reads ∙ (passed.stays.look ∙ hop.stays.look);
        cells = subst (λ (xs : ReadsState). ReadsOthers thunk.lock thunk.word xs.cells new.part.reads.cells) hop.reads
            (reads_more thunk.lock thunk.word r1.part.reads.cells last.part.reads.cells new.part.reads.cells passed.cells
            (subst (λ (x : Thunk). ReadsOthers x.lock x.word last.part.reads.cells new.part.reads.cells) q_thunk
            (step_reads m laws t limits allowed last new last_own new_own q ended.released.found _ ended.released.step)));
        learns = subst (λ ks. Learns thunk.request ks new.part.records.known) hop.known (learns_more thunk.request r1.part.records.known last.part.records.known new.part.records.known passed.learns
            (subst (λ (x : Thunk). Learns x.request last.part.records.known new.part.records.known) q_thunk
            (step_learns m laws t limits allowed last new last_own q _ ended.released.found ended.released.step)));
        told = λ answer answered. ap (λ (x : Thunk). is_answered new.part.records.known x.request) (sym q_thunk)
            ∙ answered_told m laws t limits allowed last new last_own q _ _ ended.released.found ended.released.step rests answer (outcome_is ∙ answered);
        cause = λ other. (q2.at, cause_of other);
      }
    where
      -- the check at which it left
      cause_of : ((reply : ℕ) → o ≢ outcomes.Answered reply) → leaves (setting_of new.layout d) trail.words (micro_at (line (m.body thunk)) q2.at) ≡ Some o
      cause_of other = (λ i. leaves (setting_of ((ap (λ (y : RunnerState T). y.layout) ended.released.step.event.made ∙ ended.on.layout) i)
          ((sym q_descriptor ∙ ap (λ (y : RunState). y.descriptor) ended.on.run) i)) (words i)
          (micro_at (line (m.body ((sym q_thunk ∙ ap (λ (y : RunState). thunk_of y.opened) ended.on.run) i))) q2.at))
          ∙ left_by (leaves (setting_of r2.layout q2.descriptor) q2.trail (micro_at (line (m.body (thunk_of q2.opened))) q2.at)) _ o walked.over.outcome other
