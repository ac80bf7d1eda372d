-- What a runner knows along a run of a section, step by step.
use Rattle.std.specs.Prelude.{Bool, true, false, slice_get}
use Rattle.std.proofs.Common.{◌≡◌, ◌≢◌, ℕ, zero, suc, ◌<◌, List, [], ◌∷◌, ◌++◌, refl, sym, ap, ◌∙◌, subst, ⊎_elim, inl, inr, arith, Some, None}
use Rattle.std.proofs.lemmas.Bool.{cases_eq, cases_lt}
use Rattle.machine_states.specs.body_terms.specs.declared.micro.Micro.{Micro}
use Rattle.machine_states.specs.body_terms.specs.declared.micro.Micro.TheVariants as micros
use Rattle.machine_states.specs.body_terms.specs.declared.thunk.Thunk.{Thunk}
use Rattle.machine_states.specs.body_terms.specs.Line.{line, micro_at, is_check}
use Rattle.machine_states.specs.body_terms.specs.Shape.{IsShaped}
use Rattle.section_lines.proofs.Phases.{is_in_phases}
use Rattle.section_lines.proofs.Resting.{rests_at}
use Rattle.machine_states.specs.table_words.specs.declared.layout.Layout.{Layout}
use Rattle.machine_states.specs.table_words.specs.Limits.{IsWithinLimits}
use Rattle.machine_states.specs.structure_laws.specs.Meaning.{Meaning}
use Rattle.machine_states.specs.structure_laws.specs.Laws.{Laws}
use Rattle.machine_states.specs.runner_parts.specs.declared.entries.Known.{Known}
use Rattle.machine_states.specs.runner_parts.specs.State.{RunState, PartState}
use Rattle.machine_states.specs.runner_steps.specs.Sections.{thunk_of, line_of, setting_of, settles}
use Rattle.machine_states.specs.runner_steps.specs.After.{line_after}
use Rattle.lock_words.specs.machine_epochs.proofs.RunPlaces.{is_of_end, next_in_line}
use Rattle.caller_facts.specs.section_runs.proofs.Noted.{after_line}
use Rattle.machine_facts.specs.machine_invariant.specs.After.{AreAllowed}
use Rattle.machine_states.specs.World.{seat_of}
use Rattle.machine_states.specs.Reached.{Reached}
use Rattle.machine_states.proofs.Steps.{some_same, none_some}
use Rattle.caller_facts.specs.lock_walks.specs.runner_facts.specs.next_steps.specs.Steps.{kind_at}
use Rattle.version_words.specs.RunnerState.{RunnerState}
use Rattle.version_words.specs.TableState.{TableState, IsOf}
use Rattle.caller_facts.specs.section_runs.specs.commit_log.specs.Links.{with_links}
use Rattle.caller_facts.specs.section_runs.specs.commit_log.specs.Runs.{IsRunning, Stepped, LinkStepped, Moved, Ran}
use Rattle.caller_facts.specs.section_runs.specs.commit_log.proofs.Running.{moved_same}
use Rattle.caller_facts.specs.section_runs.specs.commit_log.proofs.Next.{next_here}
use Rattle.caller_facts.specs.section_runs.specs.Reached.{IsReached, run_or}
use Rattle.caller_facts.specs.section_runs.specs.Opened.{Stays, Learns, HasOpened, opening}
use Rattle.caller_facts.specs.section_runs.proofs.Going.{shaped}
use Rattle.caller_facts.specs.section_runs.proofs.Records.{noted_known}
use Rattle.caller_facts.specs.section_runs.proofs.Told.{HasStamp, stamp_of}
use Rattle.caller_facts.specs.section_runs.proofs.Linked.{link_line, link_runs, link_stays, link_known}
use Rattle.caller_facts.specs.section_runs.proofs.Staying.{run_open, moved_own, step_learns, step_stays, learns_more}
use Rattle.attempts.specs.Learned.{StoodAtStamp, HasLearned}
use Rattle.caller_facts.proofs.Knowing.{append_none}
use Rattle.attempts.proofs.Placing.{tells, IsOn, is_on, quiet_known}

module _ {T : Type 0} (m : Meaning) (laws : Laws m) (t : TableState T) (limits : IsWithinLimits t.layout) (allowed : AreAllowed t.requests)
    (old : RunnerState T) (d : ℕ) (thunk : Thunk) where
  abbrev code : ℕ → Micro
  code i = micro_at (line (m.body thunk)) i

  -- a runner in this run of the section, which has told it this much
  pub record IsAlong (r : RunnerState T) (q : RunState) (more : List Known) : Type 0 where
    pub descriptor : q.descriptor ≡ d
    pub thunk_is : thunk_of q.opened ≡ thunk
    pub published : r.part.published ≡ old.part.published
    pub finished : r.part.records.finished ≡ old.part.records.finished
    -- behind the exchange of the stamp it stood before it
    pub passed : (i : ℕ) → code i ≡ micros.StampExchange → i < q.at → StoodAtStamp m d thunk old
    -- where it was told anything it is behind it
    pub told : more ≢ [] → (i : ℕ) × (code i ≡ micros.StampExchange) × (i < q.at)
    -- it rests before no check that passes
    pub rests : settles m r.layout q ≡ q

  -- a runner that was told so much in the run of this section, and is still in it or at its end
  pub record IsTelling (r : RunnerState T) : Type 0 where
    pub layout : r.layout ≡ old.layout
    pub requests : r.requests ≡ old.requests
    pub number : r.number ≡ old.number
    pub learns : Learns thunk.request old.part.records.known r.part.records.known
    pub stood : learns.more ≢ [] → StoodAtStamp m d thunk old
    pub along : (q : RunState) → IsRunning m r q → IsAlong r q learns.more
    pub reached : IsReached m r

  pub telling_learned : (r : RunnerState T) → IsTelling r → HasLearned m d thunk old r
  telling_learned r is = record { learns = is.learns; stood = is.stood }

  -- one step further
  module _ (a b : RunnerState T) (own : IsOf t a) (q : RunState) (micro : Micro) (found : ℕ) (step : Stepped m q micro found a b) (is : IsTelling a) where
    here : IsAlong a q is.learns.more
    here = is.along q step.running

    whole : IsShaped (m.body thunk)
    whole = subst (λ (x : Thunk). IsShaped (m.body x)) here.thunk_is (shaped m laws t limits allowed a own q step.running)

    stamp : HasStamp code
    stamp = stamp_of (m.body thunk) whole

    code_is : (i : ℕ) → micro_at (line_of m q) i ≡ code i
    code_is i = ap (λ (x : Thunk). micro_at (line (m.body x)) i) here.thunk_is

    -- the step stands at the run's place
    inner : (x : Micro) → tells x ≡ true → is_of_end x ≡ false
    inner micros.StampExchange e = refl
    inner (micros.ReplyExchange reply) e = refl
    inner micros.End e = absurd (let z = e in cc)
    inner micros.SetDone e = absurd (let z = e in cc)
    inner (micros.Release place word) e = absurd (let z = e in cc)
    inner _ e = refl

    at_place : tells micro ≡ true → code q.at ≡ micro
    at_place telling = sym (code_is q.at) ∙ next_in_line m q micro (inner micro telling) step.next

    -- before the exchange of its stamp, where it was told nothing yet
    stands : micro ≡ micros.StampExchange → is.learns.more ≡ [] → StoodAtStamp m d thunk old
    stands exchange none = record {
      world = step.running.inside.world;
      reached = subst (λ l. Reached m l old.requests step.running.inside.world) is.layout
          (subst (λ rs. Reached m a.layout rs step.running.inside.world) is.requests step.running.inside.reached);
      part = a.part;
      own = (λ i. slice_get step.running.inside.world.parts (seat_of (sym is.layout i) (sym is.number i))) ∙ step.running.inside.own;
      run = q;
      runs = step.running.inside.running;
      of_descriptor = here.descriptor;
      opened = step.running.opened;
      next = step.next ∙ exchange;
      thunk = here.thunk_is;
      known = is.learns.adds ∙ (ap (λ xs. old.part.records.known ++ xs) none ∙ append_none old.part.records.known);
      published = here.published;
    }

    stood_by : (more : List Known) → is.learns.more ≡ more → micro ≡ micros.StampExchange → StoodAtStamp m d thunk old
    stood_by [] none exchange = stands exchange none
    stood_by (x ∷ more) some exchange = is.stood (λ none. none_here (sym some ∙ none))
      where
        none_here : x ∷ more ≡ [] → ⊥
        none_here e = let z = e in cc

    stood_at : (x : Micro) → micro ≡ x → tells x ≡ true → StoodAtStamp m d thunk old
    stood_at micros.StampExchange same telling = stood_by is.learns.more refl same
    stood_at (micros.ReplyExchange reply) same telling = here.passed stamp.place stamp.here
        (stamp.before q.at reply (at_place (ap tells same) ∙ same))
    stood_at micros.End same e = absurd (let z = e in cc)
    stood_at micros.SetDone same e = absurd (let z = e in cc)
    stood_at _ same e = absurd (let z = e in cc)

    -- what it was told by this step, if anything
    quiet : tells micro ≡ false → b.part.records.known ≡ a.part.records.known
    quiet silent =
        let x = step.event.met in
        let kind = kind_at a.part q micro in
        ap (λ (p : PartState). p.records.known) (ap (λ (y : RunnerState T). y.part) step.event.made
        ∙ after_line m a.layout a.number kind x.0 x.1 a.part found q micro step.running.inside.running (run_open m laws t limits allowed a own q step.running) step.next)
        ∙ (noted_known a.layout a.number kind x.0 x.1 found (line_after m a.layout kind a.part q micro found).records
        ∙ quiet_known m a.layout a.part q found micro silent)

    learns_here : Learns thunk.request a.part.records.known b.part.records.known
    learns_here = subst (λ (x : Thunk). Learns x.request a.part.records.known b.part.records.known) here.thunk_is
        (step_learns m laws t limits allowed a b own q micro found step)

    reached_behind : IsReached m b
    reached_behind = record { world = step.event.shown.world; reached = step.event.shown.reached; own = step.event.shown.own }

    -- where it stands behind the step
    module _ (y : RunState) (runs : IsRunning m b y) where
      goes : IsOn m a.layout a.part q found micro y
      goes = is_on m a.layout a.part q found micro y (sym step.behind.run ∙ runs.inside.running)

      -- a place that it has passed is one that it had passed before, the one of this step, or one of a check
      place_passed : (i : ℕ) → code i ≡ micros.StampExchange → i < y.at → StoodAtStamp m d thunk old
      place_passed i exchange low = ⊎_elim
          (λ before. here.passed i exchange before)
          (λ from. ⊎_elim
          (λ same. let at : micro_at (line_of m q) q.at ≡ micros.StampExchange = code_is q.at ∙ (ap code (sym same) ∙ exchange) in
          stood_by is.learns.more refl (sym step.next ∙ next_here m q micros.StampExchange at refl))
          (λ ne. absurd (no_check (sym (ap is_check (code_is i ∙ exchange)) ∙ goes.checks i (omega (arith, from, ne)) low)))
          (cases_eq i q.at))
          (cases_lt i q.at)
        where
          no_check : false ≡ true → ⊥
          no_check e = let z = e in cc

      told_at : (x : Micro) → micro ≡ x → tells x ≡ true → (i : ℕ) × (code i ≡ micros.StampExchange) × (i < y.at)
      told_at micros.StampExchange same telling = (q.at, at_place (ap tells same) ∙ same, goes.past (ap tells same))
      told_at (micros.ReplyExchange reply) same telling =
          let low = stamp.before q.at reply (at_place (ap tells same) ∙ same) in
          let past = goes.past (ap tells same) in
          (stamp.place, stamp.here, omega (arith, low, past))
      told_at micros.End same e = absurd (let z = e in cc)
      told_at micros.SetDone same e = absurd (let z = e in cc)
      told_at _ same e = absurd (let z = e in cc)

      told_on : (more : List Known) → (more ≢ [] → is.learns.more ≢ []) → more ≢ []
          → (i : ℕ) × (code i ≡ micros.StampExchange) × (i < y.at)
      told_on more from some =
          let at = here.told (from some) in
          let on = goes.on in
          let low = at.2 in
          (at.0, at.1, omega (arith, low, on))

      along_by : (more : List Known) → (more ≢ [] → (i : ℕ) × (code i ≡ micros.StampExchange) × (i < y.at)) → IsAlong b y more
      along_by more told =
          let stays = step_stays m laws t limits allowed a b own q micro found step y runs.inside.running in
          record {
            descriptor = goes.descriptor ∙ here.descriptor;
            thunk_is = ap thunk_of goes.opened ∙ here.thunk_is;
            published = stays.published ∙ here.published;
            finished = stays.finished ∙ here.finished;
            passed = place_passed;
            told = told;
            rests = ap (λ (l : Layout). settles m l y) (ap (λ (x : RunnerState T). x.layout) step.event.made) ∙ goes.rests here.rests;
          }

    telling_by : (learns : Learns thunk.request old.part.records.known b.part.records.known) → (learns.more ≢ [] → StoodAtStamp m d thunk old)
        → ((y : RunState) → IsRunning m b y → learns.more ≢ [] → (i : ℕ) × (code i ≡ micros.StampExchange) × (i < y.at)) → IsTelling b
    telling_by learns stood told = record {
      layout = ap (λ (x : RunnerState T). x.layout) step.event.made ∙ is.layout;
      requests = ap (λ (x : RunnerState T). x.requests) step.event.made ∙ is.requests;
      number = ap (λ (x : RunnerState T). x.number) step.event.made ∙ is.number;
      learns = learns;
      stood = stood;
      along = λ y runs. along_by y runs learns.more (told y runs);
      reached = reached_behind;
    }

    step_by : (telling : Bool) → tells micro ≡ telling → IsTelling b
    step_by true telling = telling_by
        (learns_more thunk.request old.part.records.known a.part.records.known b.part.records.known is.learns learns_here)
        (λ some. stood_at micro refl telling) (λ y runs some. told_at y runs micro refl telling)
    step_by false silent = telling_by
        (record { more = is.learns.more; adds = quiet silent ∙ is.learns.adds; only = is.learns.only })
        is.stood (λ y runs. told_on y runs is.learns.more (λ some. some))

    pub step_tells : IsTelling b
    step_tells = step_by (tells micro) refl

    pub step_quiet : tells micro ≡ false → b.part.records.known ≡ a.part.records.known
    step_quiet silent = quiet silent

  -- behind the opening it was told nothing
  module _ (late : Bool) (r : RunnerState T) (own : IsOf t r) (opened : HasOpened m d thunk late old r) where
    whole_opened : IsShaped (m.body (thunk_of opened.words))
    whole_opened = shaped m laws t limits allowed r own (opening d opened.words) (subst (IsRunning m r) (ap run_or opened.run) opened.inside)

    rests_opened : settles m r.layout (opening d opened.words) ≡ opening d opened.words
    rests_opened = ap (λ n. record (opening d opened.words) { at = n })
        ((rests_at (setting_of r.layout d) [] (line (m.body (thunk_of opened.words)))).stays 0 (is_in_phases _ whole_opened).start)

    along_opened : IsAlong r (opening d opened.words) []
    along_opened = record {
      descriptor = refl;
      thunk_is = opened.thunk;
      published = opened.stays.published;
      finished = opened.stays.finished;
      passed = λ i exchange low. absurd (omega (arith, low));
      told = λ some. absurd (some refl);
      rests = rests_opened;
    }

    pub opened_tells : IsTelling r
    opened_tells = record {
      layout = opened.stays.layout;
      requests = opened.stays.requests;
      number = opened.stays.number;
      learns = record { more = []; adds = opened.known ∙ sym (append_none old.part.records.known); only = λ i x at. absurd (none_some x (sym at)) };
      stood = λ some. absurd (some refl);
      along = λ q runs. subst (λ (y : RunState). IsAlong r y []) (some_same (opening d opened.words) q (sym opened.run ∙ runs.inside.running)) along_opened;
      reached = record { world = opened.inside.inside.world; reached = opened.inside.inside.reached; own = opened.inside.inside.own };
    }

  -- a step by which it links a block tells it nothing, and leaves it where it stood
  module _ (a b : RunnerState T) (own : IsOf t a) (q : RunState) (found : ℕ) (link : LinkStepped m q found a b) (is : IsTelling a) where
    still : Stays a b
    still = link_stays m a b q found link

    along_linked : (y : RunState) → IsRunning m b y → IsAlong b y is.learns.more
    along_linked y runs =
        let same = link_line m a b q found link y runs.inside.running in
        let here = is.along q link.running in
        record {
          descriptor = ap (λ (z : RunState). z.descriptor) same ∙ here.descriptor;
          thunk_is = ap (λ (z : RunState). thunk_of z.opened) same ∙ here.thunk_is;
          published = still.published ∙ here.published;
          finished = still.finished ∙ here.finished;
          passed = λ i exchange low. here.passed i exchange (subst (λ (z : RunState). i < z.at) same low);
          told = λ some. let at = here.told some in (at.0, at.1, subst (λ (z : RunState). at.0 < z.at) (sym same) at.2);
          rests = ap (λ (l : Layout). settles m l y) still.layout
              ∙ (ap (settles m a.layout) same ∙ (ap (λ (z : RunState). with_links z y) here.rests ∙ sym same));
        }

    pub link_tells : IsTelling b
    link_tells = record {
      layout = still.layout ∙ is.layout;
      requests = still.requests ∙ is.requests;
      number = still.number ∙ is.number;
      learns = record {
        more = is.learns.more;
        adds = link_known m a b q found link (run_open m laws t limits allowed a own q link.running) ∙ is.learns.adds;
        only = is.learns.only;
      };
      stood = is.stood;
      along = along_linked;
      reached = record { world = link.event.shown.world; reached = link.event.shown.reached; own = link.event.shown.own };
    }

  -- a step of either kind
  moved_tells : (a b : RunnerState T) → IsOf t a → (q : RunState) (found : ℕ) → Moved m q found a b → IsTelling a → IsTelling b
  moved_tells a b own q found (inl step) is = step_tells a b own q step.0 found step.1 is
  moved_tells a b own q found (inr link) is = link_tells a b own q found link is

  pub moved_stays : (a b : RunnerState T) → IsOf t a → (q : RunState) (found : ℕ) → Moved m q found a b → (y : RunState) → b.part.run ≡ Some y → Stays a b
  moved_stays a b own q found (inl step) y runs = step_stays m laws t limits allowed a b own q step.0 found step.1 y runs
  moved_stays a b own q found (inr link) y runs = link_stays m a b q found link

  -- so many steps further
  pub ran_tells : (n : ℕ) (a b : RunnerState T) → IsOf t a → Ran m n a b → IsTelling a → IsTelling b
  ran_tells zero a b own same is = subst IsTelling (sym same) is
  ran_tells (suc n) a b own ran is = ran_tells n ran.0 b (moved_own m laws t limits allowed a ran.0 own ran.1 ran.2 ran.3) ran.4 (moved_tells a ran.0 own ran.1 ran.2 ran.3 is)

  -- the last one of them
  pub record HasLastMove (b : RunnerState T) : Type 0 where
    pub before : RunnerState T
    pub own : IsOf t before
    pub run : RunState
    pub found : ℕ
    pub moved : Moved m run found before b
    pub telling : IsTelling before

  -- and where that was one of its line
  pub record HasLastStep (b : RunnerState T) : Type 0 where
    pub before : RunnerState T
    pub own : IsOf t before
    pub run : RunState
    pub micro : Micro
    pub found : ℕ
    pub step : Stepped m run micro found before b
    pub telling : IsTelling before

  pub ran_last : (n : ℕ) (a b : RunnerState T) → IsOf t a → Ran m (suc n) a b → IsTelling a → HasLastMove b
  ran_last zero a b own ran is = record {
    before = a;
    own = own;
    run = ran.1;
    found = ran.2;
    moved = subst (λ (y : RunnerState T). Moved m ran.1 ran.2 a y) (sym ran.4) ran.3;
    telling = is;
  }
  ran_last (suc n) a b own ran is = ran_last n ran.0 b (moved_own m laws t limits allowed a ran.0 own ran.1 ran.2 ran.3) ran.4 (moved_tells a ran.0 own ran.1 ran.2 ran.3 is)

  -- the one behind which the run is over was no link
  pub last_step : (b : RunnerState T) → HasLastMove b → b.part.run ≡ None → HasLastStep b
  last_step b last over = by last.moved
    where
      by : Moved m last.run last.found last.before b → HasLastStep b
      by (inl step) = record { before = last.before; own = last.own; run = last.run; micro = step.0; found = last.found; step = step.1; telling = last.telling }
      by (inr link) = absurd (link_runs m last.before b last.run last.found link over)

module _ {T : Type 0} where
  -- the runner of a run is of its table from the run's beginning on
  pub ran_back : (m : Meaning) (t : TableState T) (n : ℕ) (a b : RunnerState T) → Ran m n a b → IsOf t b → IsOf t a
  ran_back m t zero a b same own = subst (IsOf t) same own
  ran_back m t (suc n) a b ran own =
      let same = moved_same m ran.1 ran.2 a ran.0 ran.3 in
      let there = ran_back m t n ran.0 b ran.4 own in
      record {
        table = ap (λ (y : RunnerState T). y.table) (sym same) ∙ there.table;
        structure = ap (λ (y : RunnerState T). y.structure) (sym same) ∙ there.structure;
        layout = ap (λ (y : RunnerState T). y.layout) (sym same) ∙ there.layout;
        requests = ap (λ (y : RunnerState T). y.requests) (sym same) ∙ there.requests;
        limits = there.limits;
        allowed = there.allowed;
      }
