-- How far a read came, and what its runner is at there.
use Rattle.std.specs.Prelude.{true, false, take}
use Rattle.std.proofs.Common.{◌≡◌, ℕ, ◌+◌, ◌*◌, ◌≤◌, [], ◌∷◌, ◌++◌, length, refl, sym, ap, ◌∙◌, subst, Option, Some, None}
use Rattle.std.specs.List.{list_all}
use Rattle.machine_states.specs.map_history.specs.declared.op.Request.{Request}
use Rattle.machine_states.specs.body_terms.specs.Shape.{is_look, loaded_places}
use Rattle.machine_states.specs.body_terms.specs.declared.thunk.Thunk.{Thunk}
use Rattle.machine_states.specs.table_words.specs.declared.layout.Layout.{Layout}
use Rattle.caller_facts.specs.section_runs.specs.runner_gate.specs.Asks.{Asks}
use Rattle.machine_states.specs.structure_laws.specs.Scene.{Readings}
use Rattle.machine_states.specs.structure_laws.specs.Meaning.{Meaning}
use Rattle.machine_states.specs.structure_laws.specs.Cells.{slots}
use Rattle.machine_states.specs.epoch_core.specs.declared.stage.Stage.TheVariants as stages
use Rattle.machine_states.specs.runner_parts.specs.declared.entries.Look.{Look}
use Rattle.machine_states.specs.runner_parts.specs.declared.entries.LookStage.TheVariants.{Looked, Replied, Stamped}
use Rattle.machine_states.specs.runner_parts.specs.declared.event.EventKind.{EventKind}
use Rattle.machine_states.specs.runner_parts.specs.declared.event.EventKind.TheVariants as kinds
use Rattle.machine_states.specs.runner_parts.specs.State.{GuardsState, ReadsState}
use Rattle.machine_states.specs.runner_steps.specs.Reads.{are_of, plan_by, only_loads_after}
use Rattle.machine_states.specs.runner_steps.specs.After.{after_by}
use Rattle.machine_states.specs.runner_parts.specs.State.{RunState}
use Rattle.caller_facts.specs.version_words.specs.RunnerState.{RunnerState}
use Rattle.caller_facts.specs.version_words.specs.TableState.{TableState, IsOf}
use Rattle.caller_facts.specs.version_words.specs.Events.{Makes}
use Rattle.caller_facts.specs.version_words.specs.Stages.{IsAt}
use Rattle.caller_facts.specs.version_words.proofs.Asked.{in_no_run}
use Rattle.caller_facts.specs.epoch_slots.specs.Entries.{Enters, HasLeave, KeepsOwn}
use Rattle.caller_facts.specs.epoch_slots.proofs.Outside.{guards_made, own_kept}
use Rattle.caller_facts.specs.try_lock.specs.declared.planned.Planned.{Planned}
use Rattle.caller_facts.specs.try_lock.specs.declared.planned.Planned.TheVariants as plans
use Rattle.caller_facts.specs.try_lock.specs.Planning.{Planning}
use Rattle.caller_facts.specs.try_lock.specs.Plans as plan
use Rattle.caller_facts.specs.try_lock.specs.Reached.{IsReached}
use Rattle.caller_facts.specs.try_lock.proofs.Watching.{same_named, same_looked}
use Rattle.caller_facts.specs.Asking.{MayAttempt}
use Rattle.seq_read.specs.Course.{IsReading, HasEntered, HasPlanned, HasLoaded, HasFound, HasAnnounced, HasClock, HasLock, HasReplied, HasStamped}
use Rattle.seq_read.proofs.Events.{IsHere, at_here, loads_on, plan_on, clock_on, load_on, reply_on, stamp_on}

-- a reading runner may leave: its guard word names nothing, as before
pub may_leave : {T : Type 0} (planning : Planning) (request : Request) (old r : RunnerState T) → MayAttempt planning request old → IsReading old r → HasLeave r
may_leave planning request old r may reading = record { epoch = reading.epoch; at = reading.at; unguarded = reading.slots.guarded ∙ may.tidy.unguarded }

module _ {T : Type 0} (m : Meaning) (planning : Planning) (request : Request) (old : RunnerState T) where
  -- a step that leaves the own slots and what is known leaves the runner reading
  pub reading_on : (k : EventKind) (found : ℕ) (r r' : RunnerState T) (made : Makes m k found r r') → IsReading old r → KeepsOwn r r'
      → r'.part.guards.named ≡ r.part.guards.named → r'.part.guards.looked ≡ r.part.guards.looked → (epoch : ℕ)
      → IsAt r' (stages.Entered epoch) None → IsReading old r'
  reading_on k found r r' made was keeps guarded looked epoch at = record {
    epoch = epoch;
    at = at;
    slots = record {
      nodes = keeps.nodes ∙ was.slots.nodes;
      descriptors = keeps.descriptors ∙ was.slots.descriptors;
      guarded = guarded ∙ was.slots.guarded;
      looked = looked ∙ was.slots.looked;
    };
    still = record {
      layout = ap (λ (y : RunnerState T). y.layout) made.made ∙ was.still.layout;
      requests = ap (λ (y : RunnerState T). y.requests) made.made ∙ was.still.requests;
      number = keeps.number ∙ was.still.number;
      known = keeps.known ∙ was.still.known;
      finished = keeps.finished ∙ was.still.finished;
    };
  }

  -- it enters
  pub entered_of : (t : TableState T) (r : RunnerState T) → IsOf t old → IsOf t r → MayAttempt planning request old → Enters m old r
      → HasEntered m planning request old r
  entered_of t r own_old own_new may enters = record {
    may = may;
    enters = enters;
    reading = record {
      epoch = enters.epoch;
      at = enters.at;
      slots = record {
        nodes = enters.keeps.nodes;
        descriptors = enters.keeps.descriptors;
        guarded = ap (λ (g : GuardsState). g.named) enters.guards;
        looked = ap (λ (g : GuardsState). g.looked) enters.guards ∙ sym may.tidy.looked;
      };
      still = record {
        layout = own_new.layout ∙ sym own_old.layout;
        requests = own_new.requests ∙ sym own_old.requests;
        number = enters.keeps.number;
        known = enters.keeps.known;
        finished = enters.keeps.finished;
      };
    };
  }

  module _ (r : RunnerState T) (is : HasEntered m planning request old r) where
    pub waiting_none : is.enters.waiting.part.run ≡ None
    waiting_none = in_no_run m is.enters.waiting kinds.EnterAgain refl (record { met = is.enters.again.met; asked = is.enters.again.asked })

    pub entered_here : IsHere r is.enters.epoch None [] true
    entered_here = record {
      present = is.enters.at.present;
      resting = is.enters.at.resting;
      at = is.enters.at.at;
      unpublished = is.enters.at.published;
      looked = ap (λ (s : ReadsState). s.look) is.enters.reads;
      has_read = ap (λ (s : ReadsState). s.walk) is.enters.reads;
      loads_only = ap (λ (y : RunnerState T). y.part.records.only_loads) is.enters.again.made
          ∙ ap (λ (o : Option RunState). only_loads_after kinds.EnterAgain (after_by m is.enters.waiting.layout kinds.EnterAgain is.enters.waiting.part o is.enters.epoch).records.only_loads) waiting_none;
      seated = is.enters.at.seated;
    }

  -- it plans
  abbrev pub planned_of : (r : RunnerState T) (enters : HasEntered m planning request old r) (answer : Planned) (new : RunnerState T)
      (halts halts' : ℕ) (asks asks' : Asks) (steps steps' : ℕ)
      → (is : plan.HasPlanned m planning request answer r new halts halts' asks asks' steps steps')
      → HasPlanned m planning request is.readings answer old new
  planned_of r enters answer new halts halts' asks asks' steps steps' is = record {
    entered = r;
    enters = enters;
    walk = subst (λ l. plan.IsWalk m planning l request.op is.readings) enters.reading.still.layout is.walk;
    walked = is.walked;
    answers = subst (λ l. plan.Answers m planning l request.op request.number is.readings answer) enters.reading.still.layout is.answers;
    few = subst (λ (l : Layout). length is.readings ≤ 6 * slots m l + 44) enters.reading.still.layout is.few;
    reading = record {
      epoch = enters.enters.epoch;
      at = is.walked.at enters.enters.epoch None enters.enters.at;
      slots = record {
        nodes = is.walked.keeps.nodes ∙ enters.reading.slots.nodes;
        descriptors = is.walked.keeps.descriptors ∙ enters.reading.slots.descriptors;
        guarded = is.walked.guarded ∙ enters.reading.slots.guarded;
        looked = is.walked.looked ∙ enters.reading.slots.looked;
      };
      still = record {
        layout = ap (λ (y : RunnerState T). y.layout) is.walked.same ∙ enters.reading.still.layout;
        requests = ap (λ (y : RunnerState T). y.requests) is.walked.same ∙ enters.reading.still.requests;
        number = is.walked.keeps.number ∙ enters.reading.still.number;
        known = is.walked.keeps.known ∙ enters.reading.still.known;
        finished = is.walked.keeps.finished ∙ enters.reading.still.finished;
      };
    };
    reached = is.reached;
  }

  pub planned_here : (readings : Readings) (answer : Planned) (r : RunnerState T) (is : HasPlanned m planning request readings answer old r)
      → IsHere r is.enters.enters.epoch None readings true
  planned_here readings answer r is =
      loads_on m is.enters.enters.epoch None true readings [] is.entered r (entered_here is.entered is.enters) is.walked.loads

  -- it loads cells of the body
  abbrev pub loaded_of : (readings : Readings) (thunk : Thunk) (found : Readings) (planned r : RunnerState T)
      → HasPlanned m planning request readings (plans.Thunk thunk) old planned → list_all is_look (m.body thunk) ≡ true
      → are_of (take (length found) (loaded_places (m.body thunk))) found ≡ true
      → plan.HasWalked m found planned r → IsReached m r → HasLoaded m planning request thunk found old r
  loaded_of readings thunk found planned r is looks cells walked reached = record {
    readings = readings;
    planned = planned;
    plans = is;
    looks = looks;
    cells = cells;
    loads = walked;
    reading = record {
      epoch = is.reading.epoch;
      at = walked.at is.reading.epoch None is.reading.at;
      slots = record {
        nodes = walked.keeps.nodes ∙ is.reading.slots.nodes;
        descriptors = walked.keeps.descriptors ∙ is.reading.slots.descriptors;
        guarded = walked.guarded ∙ is.reading.slots.guarded;
        looked = walked.looked ∙ is.reading.slots.looked;
      };
      still = record {
        layout = ap (λ (y : RunnerState T). y.layout) walked.same ∙ is.reading.still.layout;
        requests = ap (λ (y : RunnerState T). y.requests) walked.same ∙ is.reading.still.requests;
        number = walked.keeps.number ∙ is.reading.still.number;
        known = walked.keeps.known ∙ is.reading.still.known;
        finished = walked.keeps.finished ∙ is.reading.still.finished;
      };
    };
    reached = reached;
  }

  module _ (thunk : Thunk) (found : Readings) where
    module _ (r : RunnerState T) (is : HasLoaded m planning request thunk found old r) where
      abbrev pub epoch_of : ℕ
      epoch_of = is.plans.enters.enters.epoch

      pub loaded_here : IsHere r epoch_of None (is.readings ++ found) true
      loaded_here = loads_on m epoch_of None true found is.readings is.planned r (planned_here is.readings (plans.Thunk thunk) is.planned is.plans) is.loads.loads

    -- it announces the read
    module _ (r r' : RunnerState T) (is : HasFound m planning request thunk found old r) (none : ℕ) (made : Makes m (kinds.ReadPlan thunk) none r r') where
      pub announcing_here : IsHere r' (epoch_of r is.loads) (Some (plan_by thunk)) (is.loads.readings ++ found) true
      announcing_here = plan_on m (epoch_of r is.loads) (is.loads.readings ++ found) r r' thunk none (loaded_here r is.loads) made

      abbrev pub announced_of : HasAnnounced m planning request thunk found old r'
      announced_of = record {
        loaded = r;
        finds = is;
        announces = record { found = none; event = made };
        reading = reading_on (kinds.ReadPlan thunk) none r r' made is.loads.reading
            (own_kept m (kinds.ReadPlan thunk) none r r' made (loaded_here r is.loads).resting refl refl refl)
            (ap (λ (g : GuardsState). g.named) (guards_made m (kinds.ReadPlan thunk) none r r' made (loaded_here r is.loads).resting))
            (ap (λ (g : GuardsState). g.looked) (guards_made m (kinds.ReadPlan thunk) none r r' made (loaded_here r is.loads).resting)) (epoch_of r is.loads)
            (at_here r' (epoch_of r is.loads) (Some (plan_by thunk)) (is.loads.readings ++ found) true announcing_here refl);
      }

    module _ (r : RunnerState T) (is : HasAnnounced m planning request thunk found old r) where
      abbrev pub epoch_announced : ℕ
      epoch_announced = epoch_of is.loaded is.finds.loads

      abbrev pub walk_announced : Readings
      walk_announced = is.finds.loads.readings ++ found

      pub announced_here : IsHere r epoch_announced (Some (plan_by thunk)) walk_announced true
      announced_here = announcing_here is.loaded r is.finds is.announces.found is.announces.event

    -- it loads the clock
    abbrev pub look_at : Readings → ℕ → Look
    look_at walk clock = record { thunk = thunk; clock = clock; walked = length walk; known = length old.part.records.known; stage = Looked }

    module _ (r r' : RunnerState T) (clock : ℕ) (is : HasAnnounced m planning request thunk found old r) (made : Makes m kinds.ReadClock clock r r') where
      pub clocking_here : IsHere r' (epoch_announced r is) (Some (look_at (walk_announced r is) clock)) (walk_announced r is) true
      clocking_here = clock_on m (epoch_announced r is) (walk_announced r is) r r' thunk clock (length old.part.records.known)
          (ap length is.reading.still.known) (announced_here r is) made

      abbrev pub clock_of : HasClock m planning request thunk found clock old r'
      clock_of = record {
        announced = r;
        announces = is;
        loads = made;
        reading = reading_on kinds.ReadClock clock r r' made is.reading
            (own_kept m kinds.ReadClock clock r r' made (announced_here r is).resting refl refl refl)
            (ap (λ (g : GuardsState). g.named) (guards_made m kinds.ReadClock clock r r' made (announced_here r is).resting))
            (ap (λ (g : GuardsState). g.looked) (guards_made m kinds.ReadClock clock r r' made (announced_here r is).resting)) (epoch_announced r is)
            (at_here r' (epoch_announced r is) (Some (look_at (walk_announced r is) clock)) (walk_announced r is) true clocking_here refl);
      }

    module _ (clock : ℕ) where
      pub clock_here : (r : RunnerState T) (is : HasClock m planning request thunk found clock old r)
          → IsHere r (epoch_announced is.announced is.announces) (Some (look_at (walk_announced is.announced is.announces) clock)) (walk_announced is.announced is.announces) true
      clock_here r is = clocking_here is.announced r clock is.announces is.loads

      -- it loads the lock once more
      module _ (r r' : RunnerState T) (word : ℕ) (is : HasClock m planning request thunk found clock old r) (made : Makes m (kinds.LoadCell (Some thunk.lock)) word r r') where
        pub locking_here : IsHere r' (epoch_announced is.announced is.announces) (Some (look_at (walk_announced is.announced is.announces) clock))
            (walk_announced is.announced is.announces ++ (thunk.lock, word) ∷ []) true
        locking_here = load_on m (epoch_announced is.announced is.announces) (walk_announced is.announced is.announces) r r'
            (Some (look_at (walk_announced is.announced is.announces) clock)) true thunk.lock word (clock_here r is) made

        abbrev pub lock_of : HasLock m planning request thunk found clock word old r'
        lock_of = record {
          clocked = r;
          clocks = is;
          loads = made;
          reading = reading_on (kinds.LoadCell (Some thunk.lock)) word r r' made is.reading
              (own_kept m (kinds.LoadCell (Some thunk.lock)) word r r' made (clock_here r is).resting refl refl refl)
              (ap (λ (g : GuardsState). g.named) (guards_made m (kinds.LoadCell (Some thunk.lock)) word r r' made (clock_here r is).resting)
              ∙ same_named r.part.guards (m.is_lock thunk.lock) word)
              (ap (λ (g : GuardsState). g.looked) (guards_made m (kinds.LoadCell (Some thunk.lock)) word r r' made (clock_here r is).resting)
              ∙ same_looked r.part.guards (m.is_lock thunk.lock) word)
              (epoch_announced is.announced is.announces)
              (at_here r' (epoch_announced is.announced is.announces) (Some (look_at (walk_announced is.announced is.announces) clock))
              (walk_announced is.announced is.announces ++ (thunk.lock, word) ∷ []) true locking_here refl);
        }

      module _ (word : ℕ) (r : RunnerState T) (is : HasLock m planning request thunk found clock word old r) where
        abbrev pub epoch_locked : ℕ
        epoch_locked = epoch_announced is.clocks.announced is.clocks.announces

        abbrev pub walk_locked : Readings
        walk_locked = walk_announced is.clocks.announced is.clocks.announces

        pub lock_here : IsHere r epoch_locked (Some (look_at walk_locked clock)) (walk_locked ++ (thunk.lock, word) ∷ []) true
        lock_here = locking_here is.clocked r word is.clocks is.loads

      -- it wrote the reply, and the stamp
      pub replied_here : (r : RunnerState T) (is : HasReplied m planning request thunk found clock old r)
          → IsHere r (epoch_locked thunk.word is.again is.unmoved) (Some (record (look_at (walk_locked thunk.word is.again is.unmoved) clock) { stage = Replied }))
          (walk_locked thunk.word is.again is.unmoved ++ (thunk.lock, thunk.word) ∷ []) false
      replied_here r is = reply_on m (epoch_locked thunk.word is.again is.unmoved) (walk_locked thunk.word is.again is.unmoved ++ (thunk.lock, thunk.word) ∷ []) is.again r
          (look_at (walk_locked thunk.word is.again is.unmoved) clock) 0 (lock_here thunk.word is.again is.unmoved) is.writes

      pub stamped_here : (r : RunnerState T) (is : HasStamped m planning request thunk found clock old r)
          → IsHere r (epoch_locked thunk.word is.replies.again is.replies.unmoved)
          (Some (record (look_at (walk_locked thunk.word is.replies.again is.replies.unmoved) clock) { stage = Stamped }))
          (walk_locked thunk.word is.replies.again is.replies.unmoved ++ (thunk.lock, thunk.word) ∷ []) false
      stamped_here r is = stamp_on m (epoch_locked thunk.word is.replies.again is.replies.unmoved)
          (walk_locked thunk.word is.replies.again is.replies.unmoved ++ (thunk.lock, thunk.word) ∷ []) is.replied r
          (record (look_at (walk_locked thunk.word is.replies.again is.replies.unmoved) clock) { stage = Replied }) 0 (replied_here is.replied is.replies) is.writes

      -- the table and the requests are the same
      pub replied_layout : (r : RunnerState T) (is : HasReplied m planning request thunk found clock old r) → r.layout ≡ old.layout
      replied_layout r is = ap (λ (y : RunnerState T). y.layout) is.writes.made ∙ is.unmoved.reading.still.layout

      pub replied_requests : (r : RunnerState T) (is : HasReplied m planning request thunk found clock old r) → r.requests ≡ old.requests
      replied_requests r is = ap (λ (y : RunnerState T). y.requests) is.writes.made ∙ is.unmoved.reading.still.requests
