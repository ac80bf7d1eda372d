-- What no step of a run changes but the last one, and how its steps are counted.
use Rattle.std.proofs.Common.{◌≡◌, ◌≢◌, ℕ, zero, suc, ◌+◌, inl, inr, List, [], ◌∷◌, ◌++◌, Bool, true, false, refl, sym, ap, ◌∙◌, subst, arith, Some, None, append_assoc}
use Rattle.std.specs.Prelude.{slice_get, if◌then◌else◌}
use Rattle.idem_cell.specs.machine_states.specs.body_terms.specs.declared.micro.Micro.{Micro}
use Rattle.idem_cell.specs.machine_states.specs.body_terms.specs.declared.micro.Micro.TheVariants as micros
use Rattle.idem_cell.specs.machine_states.specs.body_terms.specs.declared.thunk.Thunk.{Thunk}
use Rattle.idem_cell.specs.machine_states.specs.body_terms.specs.Line.{is_end}
use Rattle.idem_cell.specs.machine_states.specs.table_words.specs.declared.layout.Layout.{Layout}
use Rattle.idem_cell.specs.machine_states.specs.table_words.specs.declared.access.Access.{Access}
use Rattle.idem_cell.specs.machine_states.specs.table_words.specs.declared.spot.Spot.{Spot}
use Rattle.idem_cell.specs.machine_states.specs.table_words.specs.Limits.{IsWithinLimits}
use Rattle.idem_cell.specs.machine_states.specs.structure_laws.specs.Meaning.{Meaning}
use Rattle.idem_cell.specs.machine_states.specs.structure_laws.specs.Laws.{Laws}
use Rattle.idem_cell.specs.machine_states.specs.runner_parts.specs.declared.entries.Known.{Known}
use Rattle.idem_cell.specs.machine_states.specs.runner_parts.specs.State.{RunState, ReadsState, PartState}
use Rattle.idem_cell.specs.machine_states.specs.runner_steps.specs.Sections.{thunk_of, is_open_run, next_of}
use Rattle.idem_cell.specs.machine_states.specs.runner_steps.specs.AfterInRun.{ended_more, kept_unless, retired_if, finished_of}
use Rattle.idem_cell.specs.machine_states.specs.runner_steps.specs.After.{line_after, after, counted}
use Rattle.nested_lock.specs.machine_facts.specs.machine_invariant.specs.After.{AreAllowed}
use Rattle.idem_alloc.specs.commit_log.specs.next_steps.specs.Steps.{kind_at}
use Rattle.idem_alloc.specs.commit_log.specs.next_steps.specs.Stages.{run_behind, reads_behind, published_behind, descriptors_behind, finished_behind}
use Rattle.idem_alloc.specs.commit_log.specs.next_steps.proofs.Stages.{in_table}
use Rattle.idem_alloc.specs.commit_log.specs.version_words.specs.RunnerState.{RunnerState}
use Rattle.idem_alloc.specs.commit_log.specs.version_words.specs.TableState.{TableState, IsOf}
use Rattle.idem_alloc.specs.commit_log.specs.Runs.{IsRunning, Stepped, Moved, Ran}
use Rattle.idem_alloc.specs.commit_log.proofs.Running.{opened_stays, moved_running, one_run}
use Rattle.section_runs.specs.Reached.{events_after}
use Rattle.section_runs.specs.Opened.{Stays, Learns, ReadsOthers}
use Rattle.section_runs.proofs.Noted.{noting, after_line}
use Rattle.section_runs.proofs.Readings.{reads_none, step_reads}
use Rattle.section_runs.proofs.Linked.{link_line, link_own, link_stays, link_known, link_events}
use Rattle.section_runs.proofs.Records.{noted_known, noted_events, learns_none, line_leaves}

module _ (m : Meaning) (l : Layout) (p : PartState) (q : RunState) (found : ℕ) where
  walk_stays : (micro : Micro) → (reads_behind p q micro found).walk ≡ p.reads.walk
  walk_stays (micros.LoadCell place log) = refl
  walk_stays (micros.NestedLoad place log) = refl
  walk_stays (micros.NestedHold place word) = refl
  walk_stays (micros.OutcomeLoad place log) = refl
  walk_stays (micros.ExchangeCell place log value) = refl
  walk_stays (micros.Release place word) = refl
  walk_stays _ = refl

  look_stays : (micro : Micro) → (reads_behind p q micro found).look ≡ p.reads.look
  look_stays (micros.LoadCell place log) = refl
  look_stays (micros.NestedLoad place log) = refl
  look_stays (micros.NestedHold place word) = refl
  look_stays (micros.OutcomeLoad place log) = refl
  look_stays (micros.ExchangeCell place log value) = refl
  look_stays (micros.Release place word) = refl
  look_stays _ = refl

  published_stays : (micro : Micro) (after : RunState) → run_behind m l p q micro found ≡ Some after → published_behind m p q micro ≡ p.published
  published_stays (micros.Release place word) after e = by (is_end (next_of m (ended_more q))) e
    where
      by : (b : Bool) → (if b then None else Some (ended_more q)) ≡ Some after → (if b then kept_unless p.published q.descriptor else p.published) ≡ p.published
      by true e = absurd (let z = e in cc)
      by false e = refl
  published_stays _ after e = refl

  descriptors_stays : (micro : Micro) (after : RunState) → run_behind m l p q micro found ≡ Some after → descriptors_behind m p q micro ≡ p.descriptors
  descriptors_stays (micros.Release place word) after e = by (is_end (next_of m (ended_more q))) e
    where
      by : (b : Bool) → (if b then None else Some (ended_more q)) ≡ Some after → (if b then retired_if p.descriptors p.published q.descriptor else p.descriptors) ≡ p.descriptors
      by true e = absurd (let z = e in cc)
      by false e = refl
  descriptors_stays _ after e = refl

  finished_stays : (micro : Micro) (after : RunState) → run_behind m l p q micro found ≡ Some after → finished_behind m l p q micro ≡ p.records.finished
  finished_stays (micros.Release place word) after e = by (is_end (next_of m (ended_more q))) e
    where
      by : (b : Bool) → (if b then None else Some (ended_more q)) ≡ Some after
          → (if b then p.records.finished ++ finished_of m l (ended_more q) ∷ [] else p.records.finished) ≡ p.records.finished
      by true e = absurd (let z = e in cc)
      by false e = refl
  finished_stays _ after e = refl

-- where nothing happened, and one after the other
module _ {T : Type 0} where
  pub stays_same : (r : RunnerState T) → Stays r r
  stays_same r = record {
    layout = refl;
    requests = refl;
    number = refl;
    present = refl;
    stage = refl;
    published = refl;
    descriptors = refl;
    finished = refl;
    guards = refl;
    walk = refl;
    look = refl;
  }

  pub stays_more : (a b c : RunnerState T) → Stays a b → Stays b c → Stays a c
  stays_more a b c one two = record {
    layout = two.layout ∙ one.layout;
    requests = two.requests ∙ one.requests;
    number = two.number ∙ one.number;
    present = two.present ∙ one.present;
    stage = two.stage ∙ one.stage;
    published = two.published ∙ one.published;
    descriptors = two.descriptors ∙ one.descriptors;
    finished = two.finished ∙ one.finished;
    guards = two.guards ∙ one.guards;
    walk = two.walk ∙ one.walk;
    look = two.look ∙ one.look;
  }

-- what holds of each of two lists holds of each of both
each_more : {A : Type 0} (P : A → Type 0) (xs ys : List A) → ((i : ℕ) (x : A) → slice_get xs i ≡ Some x → P x)
    → ((i : ℕ) (x : A) → slice_get ys i ≡ Some x → P x) → (i : ℕ) (x : A) → slice_get (xs ++ ys) i ≡ Some x → P x
each_more P [] ys one two i x at = two i x at
each_more P (y ∷ xs) ys one two zero x at = one 0 x at
each_more P (y ∷ xs) ys one two (suc i) x at = each_more P xs ys (λ k z here. one (suc k) z here) two i x at

pub learns_more : (request : ℕ) (a b c : List Known) → Learns request a b → Learns request b c → Learns request a c
learns_more request a b c one two = record {
  more = one.more ++ two.more;
  adds = two.adds ∙ (ap (λ xs. xs ++ two.more) one.adds ∙ append_assoc a one.more two.more);
  only = each_more (λ (x : Known). x.request ≡ request) one.more two.more one.only two.only;
}

pub reads_more : (place word : ℕ) (a b c : List (ℕ × ℕ)) → ReadsOthers place word a b → ReadsOthers place word b c → ReadsOthers place word a c
reads_more place word a b c one two = record {
  more = one.more ++ two.more;
  adds = two.adds ∙ (ap (λ xs. xs ++ two.more) one.adds ∙ append_assoc a one.more two.more);
  others = λ i at. each_more (λ (x : ℕ × ℕ). x ≢ (place, word)) one.more two.more
      (λ k x here same. one.others k (here ∙ ap (λ (y : ℕ × ℕ). Some y) same)) (λ k x here same. two.others k (here ∙ ap (λ (y : ℕ × ℕ). Some y) same))
      i (place, word) at refl;
}

-- what so many steps of a run of this section left, that is still in progress
pub record Passed {T : Type 0} (n : ℕ) (thunk : Thunk) (old new : RunnerState T) : Type 0 where
  pub stays : Stays old new
  pub events : new.part.records.events ≡ events_after old.part.records.events n
  pub learns : Learns thunk.request old.part.records.known new.part.records.known
  pub cells : ReadsOthers thunk.lock thunk.word old.part.reads.cells new.part.reads.cells

module _ {T : Type 0} (m : Meaning) (laws : Laws m) (t : TableState T) (limits : IsWithinLimits t.layout) (allowed : AreAllowed t.requests) where
  pub run_open : (r : RunnerState T) → IsOf t r → (q : RunState) → IsRunning m r q → is_open_run q ≡ true
  run_open r own q is = (in_table m laws r.layout (subst IsWithinLimits (sym own.layout) limits) r.requests (subst AreAllowed (sym own.requests) allowed)
      r.number r.part q is.inside).goes is.opened

  module _ (a b : RunnerState T) (own : IsOf t a) (q : RunState) (micro : Micro) (found : ℕ) (step : Stepped m q micro found a b) where
    pub still_of : IsOf t b
    still_of = let made = step.event.made in record {
      table = ap (λ (y : RunnerState T). y.table) made ∙ own.table;
      structure = ap (λ (y : RunnerState T). y.structure) made ∙ own.structure;
      layout = ap (λ (y : RunnerState T). y.layout) made ∙ own.layout;
      requests = ap (λ (y : RunnerState T). y.requests) made ∙ own.requests;
      limits = own.limits;
      allowed = own.allowed;
    }

    -- the part after the step, as its line says, and then as it is noted
    abbrev x : Spot × Access
    x = step.event.met

    abbrev then_part : PartState
    then_part = line_after m a.layout (kind_at a.part q micro) a.part q micro found

    part_is : b.part ≡ after m a.layout a.number (kind_at a.part q micro) x.0 x.1 a.part found
    part_is = ap (λ (y : RunnerState T). y.part) step.event.made

    noted_is : after m a.layout a.number (kind_at a.part q micro) x.0 x.1 a.part found ≡ noting m a.layout a.number (kind_at a.part q micro) x.0 x.1 a.part found then_part
    noted_is = after_line m a.layout a.number (kind_at a.part q micro) x.0 x.1 a.part found q micro step.running.inside.running (run_open a own q step.running) step.next

    pub step_events : b.part.records.events ≡ counted a.part.records.events
    step_events = ap (λ (p : PartState). p.records.events) (part_is ∙ noted_is)
        ∙ (noted_events a.layout a.number (kind_at a.part q micro) x.0 x.1 found then_part.records ∙ ap counted (line_leaves m a.layout a.part q found micro).events)

    pub step_learns : Learns (thunk_of q.opened).request a.part.records.known b.part.records.known
    step_learns = subst (Learns (thunk_of q.opened).request a.part.records.known)
        (sym (ap (λ (p : PartState). p.records.known) (part_is ∙ noted_is) ∙ noted_known a.layout a.number (kind_at a.part q micro) x.0 x.1 found then_part.records))
        (line_leaves m a.layout a.part q found micro).learns

    pub step_stays : (behind : RunState) → b.part.run ≡ Some behind → Stays a b
    step_stays behind runs =
        let e : run_behind m a.layout a.part q micro found ≡ Some behind = sym step.behind.run ∙ runs in
        let made = step.event.made in
        record {
          layout = ap (λ (y : RunnerState T). y.layout) made;
          requests = ap (λ (y : RunnerState T). y.requests) made;
          number = ap (λ (y : RunnerState T). y.number) made;
          present = step.behind.present;
          stage = step.behind.stage;
          published = step.behind.published ∙ published_stays m a.layout a.part q found micro behind e;
          descriptors = step.behind.descriptors ∙ descriptors_stays m a.layout a.part q found micro behind e;
          finished = step.behind.finished ∙ finished_stays m a.layout a.part q found micro behind e;
          guards = step.behind.guards;
          walk = ap (λ (s : ReadsState). s.walk) step.behind.reads ∙ walk_stays m a.layout a.part q found micro;
          look = ap (λ (s : ReadsState). s.look) step.behind.reads ∙ look_stays m a.layout a.part q found micro;
        }

  -- a step of either kind
  pub moved_own : (a b : RunnerState T) → IsOf t a → (q : RunState) (found : ℕ) → Moved m q found a b → IsOf t b
  moved_own a b own q found (inl step) = still_of a b own q step.0 found step.1
  moved_own a b own q found (inr step) = link_own m a b q found step t own

  -- behind which the runner is still in its run
  moved_passed : (thunk : Thunk) (a b : RunnerState T) → IsOf t a → IsOf t b → (q : RunState) (found : ℕ) → thunk_of q.opened ≡ thunk → (behind : RunState) → b.part.run ≡ Some behind
      → Moved m q found a b → Passed 1 thunk a b
  moved_passed thunk a b own own' q found same behind runs (inl step) = record {
    stays = step_stays a b own q step.0 found step.1 behind runs;
    events = step_events a b own q step.0 found step.1;
    learns = subst (λ (x : Thunk). Learns x.request a.part.records.known b.part.records.known) same (step_learns a b own q step.0 found step.1);
    cells = subst (λ (x : Thunk). ReadsOthers x.lock x.word a.part.reads.cells b.part.reads.cells) same (step_reads m laws t limits allowed a b own own' q found step.0 step.1);
  }
  moved_passed thunk a b own own' q found same behind runs (inr step) = record {
    stays = link_stays m a b q found step;
    events = link_events m a b q found step (run_open a own q step.running);
    learns = subst (Learns thunk.request a.part.records.known) (sym (link_known m a b q found step (run_open a own q step.running))) (learns_none thunk.request a.part.records.known);
    cells = subst (λ (s : ReadsState). ReadsOthers thunk.lock thunk.word a.part.reads.cells s.cells) (sym step.behind.reads) (reads_none thunk.lock thunk.word a.part.reads.cells);
  }

  -- it has loaded the same then
  moved_opened : (a b : RunnerState T) (q : RunState) (found : ℕ) (behind : RunState) → b.part.run ≡ Some behind → Moved m q found a b → behind.opened ≡ q.opened
  moved_opened a b q found behind runs (inl step) = opened_stays m a.layout a.part q found step.0 behind (sym step.1.behind.run ∙ runs)
  moved_opened a b q found behind runs (inr step) = ap (λ (y : RunState). y.opened) (link_line m a b q found step behind runs)

  -- a runner that made more steps was in a run
  was_running : (n : ℕ) (a b : RunnerState T) → Ran m n a b → (q : RunState) → IsRunning m b q → (p : RunState) × IsRunning m a p
  was_running zero a b same q is = (q, subst (λ (y : RunnerState T). IsRunning m y q) same is)
  was_running (suc n) a b ran q is = (ran.1, moved_running m ran.1 ran.2 a ran.0 ran.3)

  pub ran_passed : (n : ℕ) (thunk : Thunk) (a b : RunnerState T) → IsOf t a → Ran m n a b → (q : RunState) → IsRunning m b q
      → ((p : RunState) → IsRunning m a p → thunk_of p.opened ≡ thunk) → Passed n thunk a b
  ran_passed zero thunk a b own same q is of = subst (λ (y : RunnerState T). Passed 0 thunk a y) (sym same)
      (record { stays = stays_same a; events = refl; learns = learns_none thunk.request a.part.records.known; cells = reads_none thunk.lock thunk.word a.part.reads.cells })
  ran_passed (suc n) thunk a b own ran q is of =
      let r = ran.0 in let p = ran.1 in
      let between = was_running n r b ran.4 q is in
      let behind : r.part.run ≡ Some between.0 = between.1.inside.running in
      let opened = moved_opened a r p ran.2 between.0 behind ran.3 in
      let same = of p (moved_running m p ran.2 a r ran.3) in
      let own1 = moved_own a r own p ran.2 ran.3 in
      let one = moved_passed thunk a r own own1 p ran.2 same between.0 behind ran.3 in
      let rest = ran_passed n thunk r b own1 ran.4 q is
      (λ p' is'. ap (λ (y : RunState). thunk_of y.opened) (one_run m r p' between.0 is' between.1) ∙ (ap thunk_of opened ∙ same)) in
      record {
        stays = stays_more a r b one.stays rest.stays;
        events = rest.events ∙ ap (λ k. events_after k n) one.events;
        learns = learns_more thunk.request a.part.records.known r.part.records.known b.part.records.known one.learns rest.learns;
        cells = reads_more thunk.lock thunk.word a.part.reads.cells r.part.reads.cells b.part.reads.cells one.cells rest.cells;
      }

  pub ran_own : (n : ℕ) (a b : RunnerState T) → IsOf t a → Ran m n a b → IsOf t b
  ran_own zero a b own same = subst (IsOf t) (sym same) own
  ran_own (suc n) a b own ran = ran_own n ran.0 b (moved_own a ran.0 own ran.1 ran.2 ran.3) ran.4

-- counting on
pub events_more : (count n k : ℕ) → events_after (events_after count n) k ≡ events_after count (n + k)
events_more count zero k = let e : k ≡ 0 + k = omega arith in ap (events_after count) e
events_more count (suc n) k = events_more (counted count) n k ∙ (let e : suc (n + k) ≡ suc n + k = omega arith in ap (events_after count) e)
