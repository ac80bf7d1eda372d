-- The end of a run: what the words of the closed table hold, by what the workers and the keeper did.
use Rattle.std.specs.Prelude.{◌%◌, ◌*◌, ◌-◌, ◌^◌, ◌==◌, ◌⊎◌, min, not, count_by, slice_get, Bool, false}
use Rattle.std.proofs.Common.{◌≡◌, ◌≢◌, ℕ, suc, ◌+◌, ◌<◌, ◌≤◌, List, length, sym, ap, ◌∙◌, subst, arith, true, Option, None, Some, get_or, eq-eqb, if◌then◌else◌, ⊎_elim, inl, inr}
use Rattle.std.proofs.lemmas.Option.{slice_get_within, get_or_from_slice_get}
use Rattle.std.proofs.Math.Nat.{mod-lt}
use Rattle.machine_states.specs.map_history.specs.declared.op.Request.{Request}
use Rattle.machine_states.specs.map_history.specs.Requests.{AreInOrder}
use Rattle.machine_states.specs.body_terms.specs.Word.{value_of}
use Rattle.machine_states.specs.table_words.specs.declared.layout.Layout.{Layout}
use Rattle.machine_states.specs.table_words.specs.declared.spot.Spot.TheVariants.{Cell, DoneWord}
use Rattle.machine_states.specs.structure_laws.specs.Meaning.{Meaning}
use Rattle.machine_states.specs.structure_laws.specs.Planner.{PlannerLaws}
use Rattle.machine_states.specs.World.{seat_of}
use Rattle.machine_states.specs.Reached.{Reached}
use Rattle.machine_states.specs.runner_steps.specs.After.{leaves}
use Rattle.machine_states.specs.Sight.{sight}
use Rattle.settled_tables.specs.settling.specs.runner_gate.specs.Asks.{Asks, asked_on, unasked_of}
use Rattle.free_serving.specs.resource_bounds.specs.Makes as makes
use Rattle.reached_facts.specs.Facts.{HasFacts, KeepsFacts}
use Rattle.version_words.specs.RunnerState.{RunnerState}
use Rattle.version_words.specs.Shown.{left_part}
use Rattle.version_words.specs.TableState.{TableState, WordsState, IsOf, IsClosing, word_of}
use Rattle.settled_tables.specs.closed_words.specs.Histories.{HaveHistory, HoldsNoLock}
use Rattle.settled_tables.specs.settling.specs.try_lock.specs.Planning.{Planning}
use Rattle.settled_tables.specs.settling.specs.Settled.{Settles, IsSettled}
use Rattle.settled_tables.specs.settling.specs.epoch_slots.specs.declared.reserves.Kind.TheVariants as slots
use Rattle.settled_tables.specs.settling.specs.epoch_slots.specs.declared.reserves.Short.{Short}
use Rattle.free_serving.specs.Services.{is_get}
use Rattle.free_serving.specs.Left.{least_asks, WasReadInVain}
use Rattle.lone_reads.specs.seq_read.specs.caller_facts.specs.Counted.{IsSeen}
use Rattle.free_serving.specs.serving.specs.declared.answers.Served.{Served}
use Rattle.free_serving.specs.serving.specs.declared.answers.Served.TheVariants as stops
use Rattle.threaded_runs.specs.declared.job.Job.{Job}
use Rattle.threaded_runs.specs.declared.job.Finished.{Finished}
use Rattle.threaded_runs.specs.Own.{own_requests}
use Rattle.threaded_runs.specs.Asks.{halted_in, AsksOften}
use Rattle.threaded_runs.specs.Counts.{halted}
use Rattle.threaded_runs.specs.Jobs.{AllSeated, AllUnhalted, AllGiven, AllRun, AllKept, HasRun, IsSeated, IsKept, gates_of, asks_counted}
use Rattle.threaded_runs.specs.Gates.{served_by, IsGateOf, GatesCameBack}
use Rattle.threaded_runs.proofs.Gates.{length-gates_of, gate_at, often_so}
use Rattle.threaded_runs.specs.Runs.{HasServed, AreServed, served_in, stamp_of}
use Rattle.threaded_runs.proofs.Sparing.{all_or_halted}
use Rattle.threaded_runs.proofs.Seats.{some_of}
use Rattle.threaded_runs.proofs.Owning.{own_there, own_trace, own_once}
use Rattle.threaded_runs.proofs.Closing.{above_is, end, word_is, added_is, part_is, descriptors_done, has_served, few_entered, read_odd}
use Rattle.threaded_runs.proofs.Asked.{all_placed, counted_least, often_asked, same_at, sum_below}

least_turned : (reads_free : Bool) (n made : ℕ) → n * least_asks reads_free ≤ made → least_asks reads_free * n ≤ made
least_turned true n made least = let few : n * 8 ≤ made = least in let turned : 8 * n ≤ made = omega (arith, few) in turned
least_turned false n made least = let few : n * 16 ≤ made = least in let turned : 16 * n ≤ made = omega (arith, few) in turned

-- so many asks before a halt, where others served one request more at most
let_turned : (reads_free : Bool) (full served halts more : ℕ) → halts ≤ 1 → served ≤ full + halts → full * least_asks reads_free ≤ more + 1
    → least_asks reads_free * (served - 1) ≤ more + 1
let_turned true full served halts more one few least =
    let so : full * 8 ≤ more + 1 = least in let turned : 8 * (served - 1) ≤ more + 1 = omega (arith, one, few, so) in turned
let_turned false full served halts more one few least =
    let so : full * 16 ≤ more + 1 = least in let turned : 16 * (served - 1) ≤ more + 1 = omega (arith, one, few, so) in turned

halted_once : (answer : Served) → halted answer ≤ 1
halted_once stops.Halted = omega arith
halted_once stops.All = omega arith
halted_once (stops.Short short) = omega arith
halted_once (stops.Spent place word) = omega arith

-- what is known of a table that a planner runs on: each state that the machine reaches over it has its facts
pub record IsLawful {T : Type 0} (m : Meaning) (planning : Planning) (t : TableState T) : Type 0 where
  pub facts : KeepsFacts m t.layout t.requests
  pub planner : PlannerLaws m planning.per_pair

module _ {T : Type 0} (m : Meaning) (planning : Planning) (retry_short reads_free : Bool) (t : TableState T) (lawful : IsLawful m planning t) (gathered keeper : RunnerState T) (w : WordsState T)
    (own : IsOf t keeper) (number : keeper.number ≡ t.layout.runners) (settles : Settles m gathered keeper) (closing : IsClosing m t keeper w) where
  -- those of the state in which it was closed
  pub facts : HasFacts m t.layout t.requests (end m t keeper w closing)
  facts = lawful.facts.reached closing.world closing.reached

  seat_is : seat_of keeper.layout keeper.number ≡ 0
  seat_is = ap (λ (b : Bool). if b then 0 else suc keeper.number) (eq-eqb keeper.number keeper.layout.runners (number ∙ sym (ap (λ (l : Layout). l.runners) own.layout)))

  pub settled : IsSettled m (end m t keeper w closing)
  settled = subst (λ (l : Layout). IsSettled m (sight m l t.requests closing.world)) own.layout
      (subst (λ (rs : List Request). IsSettled m (sight m keeper.layout rs closing.world)) own.requests
      (settles.settled closing.world
      (subst (λ (l : Layout). Reached m l keeper.requests closing.world) (sym own.layout) (subst (λ (rs : List Request). Reached m t.layout rs closing.world) (sym own.requests) closing.reached))
      (ap (slice_get closing.world.parts) seat_is ∙ closing.keeper_part)))

  -- no lock names a section
  pub holds_none : HoldsNoLock m w
  holds_none p lock = ap value_of (word_is m t keeper w closing (Cell p)) ∙ settled.free p lock

  module _ {H : Type 0} (halts : H → ℕ) (asks : H → Asks) (jobs : List (Job T H)) (finished : List (Finished T H)) (answers : List Served) (each : length answers ≡ t.layout.runners) (as_many : length jobs ≡ t.layout.runners)
      (back : length finished ≡ length jobs) (seated : AllSeated planning t jobs) (run : AllRun m planning retry_short reads_free halts asks t jobs finished) (kept : AllKept gathered answers finished) (history : HaveHistory m w) where
    -- one worker
    module _ (worker : ℕ) (low : worker < t.layout.runners) where
      answers_too : worker < length answers
      answers_too = subst (λ (n : ℕ). worker < n) (sym each) low

      seat : worker < length jobs
      seat = subst (λ (n : ℕ). worker < n) (sym as_many) low

      comes : worker < length finished
      comes = subst (λ (n : ℕ). worker < n) (sym back) seat

      abbrev j : Job T H
      j = get_or jobs worker (some_of jobs worker seat)

      abbrev f : Finished T H
      f = get_or finished worker (some_of finished worker comes)

      is_seated : IsSeated planning t worker j
      is_seated = seated worker (some_of jobs worker seat) seat

      has_run : HasRun m planning retry_short reads_free halts asks t j f
      has_run = run worker (some_of jobs worker seat) (some_of finished worker comes) seat

      is_kept : (a : Served) → IsKept gathered worker (get_or answers worker a) f
      is_kept a = kept worker a (some_of finished worker comes) answers_too

      part : (end m t keeper w closing).part worker ≡ leaves f.runner.part
      part = part_is m t keeper w closing worker f.runner.part low (ap (λ js. left_part js worker) settles.joined ∙ (is_kept stops.All).part)

      above : ((end m t keeper w closing).part worker).records.gave_above ≡ true
      above = above_is m t keeper w closing worker f.runner.part low (ap (λ js. left_part js worker) settles.joined ∙ (is_kept stops.All).part)

      order : AreInOrder t.requests 64
      order = lawful.facts.allowed.in_order

      own_of : (i : ℕ) (q : Request) → slice_get j.requests.items i ≡ Some q → slice_get (own_requests t.layout.runners worker t.requests) i ≡ Some q
      own_of i q e = subst (λ (rs : List Request). slice_get rs i ≡ Some q) is_seated.requests e

      there : (i : ℕ) (q : Request) → slice_get j.requests.items i ≡ Some q → slice_get t.requests q.number ≡ Some q
      there i q e = own_there t.layout.runners worker t.requests order i q (own_of i q e)

      trace : (i : ℕ) (q : Request) → slice_get j.requests.items i ≡ Some q → q.trace % t.layout.runners ≡ worker
      trace i q e = own_trace t.layout.runners worker t.requests order i q (own_of i q e)

      once : (i k : ℕ) (q q' : Request) → slice_get j.requests.items i ≡ Some q → slice_get j.requests.items k ≡ Some q' → q.number ≡ q'.number → i ≡ k
      once i k q q' e e' = own_once t.layout.runners worker t.requests order i k q q' (own_of i q e) (own_of k q' e')

      made : t.layout.nodes ≤ makes.slots_left ((end m t keeper w closing).part worker).nodes + 2 * makes.added (end m t keeper w closing).word (length t.requests)
      made = facts.makes planning.per_pair lawful.planner settled.free worker low above

      served_so : HasServed m w retry_short reads_free (own_requests t.layout.runners worker t.requests) f.answer
      served_so = subst (λ (rs : List Request). HasServed m w retry_short reads_free rs f.answer) is_seated.requests
          (has_served m t keeper w closing lawful.planner.serves facts.history facts.callers
          worker j.requests.items retry_short reads_free planning f.answer j.runner f.runner part _ _ _ _ _ has_run.serves.left there trace once
          low has_run.own (has_run.serves.left.knows.number ∙ is_seated.number) facts.descriptors facts.blocks facts.spent facts.worn (facts.worn_once worker) made facts.lists)

      -- so many of its requests have an entry, and one more at most where it was halted
      few_own : count_by (λ (q : Request). not (stamp_of m w q == 0)) (own_requests t.layout.runners worker t.requests) ≤ has_run.serves.left.full + halted f.answer
      few_own = subst (λ (rs : List Request). count_by (λ (q : Request). not (stamp_of m w q == 0)) rs ≤ has_run.serves.left.full + halted f.answer) is_seated.requests
          (few_entered m t keeper w closing lawful.planner.serves facts.history facts.callers
          worker j.requests.items retry_short reads_free planning f.answer j.runner f.runner part _ _ _ _ _ has_run.serves.left there trace once
          low has_run.own (has_run.serves.left.knows.number ∙ is_seated.number) facts.descriptors facts.blocks facts.spent facts.worn (facts.worn_once worker) made facts.lists)

      -- and its gate was asked for each that it served
      asked_own : min (least_asks reads_free * has_run.serves.left.full) (2 ^ 64 - 1) ≤ (asks f.gate).count
      asked_own = subst (λ (a : Asks). min (least_asks reads_free * has_run.serves.left.full) (2 ^ 64 - 1) ≤ a.count) (sym has_run.serves.left.asked)
          (counted_least (asks j.gate).count has_run.serves.left.made (least_asks reads_free * has_run.serves.left.full) (least_turned reads_free has_run.serves.left.full has_run.serves.left.made has_run.serves.left.least))

      done_so : (short : Short) → f.answer ≡ stops.Short short → short.kind ≡ slots.Descriptor
          → (d : ℕ) → w.layout.sections * worker ≤ d → d < w.layout.sections * worker + w.layout.sections → word_of m w (DoneWord d) ≡ 1
      done_so short is kind = descriptors_done m t keeper w closing lawful.planner.serves facts.history facts.callers
          worker j.requests.items retry_short reads_free planning f.answer j.runner f.runner part _ _ _ _ _ has_run.serves.left there trace once
          low has_run.own (has_run.serves.left.knows.number ∙ is_seated.number) facts.descriptors facts.blocks facts.spent facts.worn (facts.worn_once worker) made facts.lists
          facts.own facts.limbo short is kind

      -- where it reads each `get` first, each of its own that has an entry has a read's stamp, or was read in vain
      pub read_so : reads_free ≡ true → (i : ℕ) (q : Request) → slice_get (own_requests t.layout.runners worker t.requests) i ≡ Some q → is_get q.op ≡ true
          → stamp_of m w q ≢ 0
          → (stamp_of m w q % 2 ≡ 1) ⊎ ((r : RunnerState T) × (r.layout ≡ t.layout) × (r.requests ≡ t.requests) × WasReadInVain m planning q r)
      read_so free i q at get some = ⊎_elim inl (λ vain. inr (j.runner, is_seated.may.own.layout, is_seated.may.own.requests, vain))
          (read_odd m t keeper w closing lawful.planner.serves facts.history facts.callers
          worker j.requests.items retry_short reads_free planning f.answer j.runner f.runner part _ _ _ _ _ has_run.serves.left there trace once
          low has_run.own (has_run.serves.left.knows.number ∙ is_seated.number) facts.descriptors facts.blocks facts.spent facts.worn (facts.worn_once worker) made facts.lists
          free i q (subst (λ (rs : List Request). slice_get rs i ≡ Some q) (sym is_seated.requests) at) get some)

    -- the worker with this answer is one
    is_one : (worker : ℕ) (answer : Served) → slice_get answers worker ≡ Some answer → worker < t.layout.runners
    is_one worker answer at = subst (λ (n : ℕ). worker < n) each (slice_get_within answers worker answer at)

    answered : (worker : ℕ) (answer : Served) (at : slice_get answers worker ≡ Some answer) → answer ≡ (f worker (is_one worker answer at)).answer
    answered worker answer at = sym (get_or_from_slice_get answers worker answer answer at) ∙ (is_kept worker (is_one worker answer at) answer).same

    pub worker_served : (worker : ℕ) (answer : Served) → slice_get answers worker ≡ Some answer → HasServed m w retry_short reads_free (own_requests t.layout.runners worker t.requests) answer
    worker_served worker answer at = subst (HasServed m w retry_short reads_free (own_requests t.layout.runners worker t.requests)) (sym (answered worker answer at))
        (served_so worker (is_one worker answer at))

    worker_done : (worker : ℕ) (short : Short) → slice_get answers worker ≡ Some (stops.Short short) → short.kind ≡ slots.Descriptor
        → (d : ℕ) → w.layout.sections * worker ≤ d → d < w.layout.sections * worker + w.layout.sections → word_of m w (DoneWord d) ≡ 1
    worker_done worker short at kind = done_so worker (is_one worker (stops.Short short) at) short (sym (answered worker (stops.Short short) at)) kind

    -- so all gates were asked often
    pub asked_often : (before behind : ℕ) → behind ≡ asks_counted asks before finished → 0 < t.layout.runners → AsksOften m w reads_free answers before behind
    asked_often before behind counted some =
        subst (λ (n : ℕ). min (before + least_asks reads_free * (served_in m w - halted_in answers)) (2 ^ 64 - 1) ≤ n) (sym counted)
        (often_asked reads_free asks before finished answers (λ worker. count_by (λ (q : Request). not (stamp_of m w q == 0)) (own_requests t.layout.runners worker t.requests))
        (each ∙ (sym as_many ∙ sym back))
        (λ worker seat d a. let low : worker < t.layout.runners = subst (λ (n : ℕ). worker < n) (back ∙ as_many) seat in (
          (has_run worker low).serves.left.full,
          subst (λ (n : ℕ). min (least_asks reads_free * (has_run worker low).serves.left.full) (2 ^ 64 - 1) ≤ n) (ap (λ (x : Finished T H). (asks x.gate).count) (same_at finished worker _ d seat)) (asked_own worker low),
          subst (λ (x : Served). count_by (λ (q : Request). not (stamp_of m w q == 0)) (own_requests t.layout.runners worker t.requests) ≤ (has_run worker low).serves.left.full + halted x)
              (sym (is_kept worker low a).same) (few_own worker low),
        ))
        (served_in m w)
        (subst (λ (rs : List Request). count_by (λ (q : Request). not (stamp_of m w q == 0)) rs
        ≤ sum_below (λ worker. count_by (λ (q : Request). not (stamp_of m w q == 0)) (own_requests t.layout.runners worker t.requests)) (length finished))
        (sym closing.requests)
        (subst (λ (n : ℕ). count_by (λ (q : Request). not (stamp_of m w q == 0)) t.requests
        ≤ sum_below (λ worker. count_by (λ (q : Request). not (stamp_of m w q == 0)) (own_requests t.layout.runners worker t.requests)) n)
        (sym (back ∙ as_many))
        (all_placed (λ (q : Request). not (stamp_of m w q == 0)) (λ (q : Request). q.trace % t.layout.runners) t.layout.runners (λ q. mod-lt q.trace some) t.requests))))

    -- the gates came back from the workers to which they were given
    module _ (entries : List (Option ℕ)) (unhalted : AllUnhalted halts jobs) (given : AllGiven asks entries jobs) where
      gate_is : (worker : ℕ) (low : worker < t.layout.runners) (a : Served) → IsGateOf m w reads_free halts asks entries worker (get_or answers worker a) (f worker low).gate
      gate_is worker low a = record {
        given = ap (λ (x : Asks). x.plan) (has_run worker low).serves.left.asked ∙ ap (λ (x : Asks). x.plan) (given worker (some_of jobs worker (seat worker low)) (seat worker low));
        stopped = λ e. (has_run worker low).halted still (sym same ∙ e);
        went = λ other. (has_run worker low).went still (λ e. other (same ∙ e));
        let_go = λ e. let was = (has_run worker low).serves.left.let_go (sym same ∙ e) in (
          was.0,
          let_turned reads_free (has_run worker low).serves.left.full (served_by m w worker) (halted (get_or answers worker a)) was.0 (halted_once (get_or answers worker a)) few was.1,
          subst (λ (h : ℕ). IsSeen halts asks h (asked_on (unasked_of worker (get_or entries worker None)) was.0)) still
              (subst (λ (x : Asks). IsSeen halts asks (halts (j worker low).gate) (asked_on x was.0)) (given worker (some_of jobs worker (seat worker low)) (seat worker low)) was.2),
        );
        often = often_so reads_free (has_run worker low).serves.left.full (served_by m w worker) (halted (get_or answers worker a)) (asks (f worker low).gate).count few (asked_own worker low);
      }
        where
          same : get_or answers worker a ≡ (f worker low).answer
          same = (is_kept worker low a).same

          still : halts (j worker low).gate ≡ 0
          still = unhalted worker (some_of jobs worker (seat worker low)) (seat worker low)

          few : served_by m w worker ≤ (has_run worker low).serves.left.full + halted (get_or answers worker a)
          few = subst (λ (x : Served). served_by m w worker ≤ (has_run worker low).serves.left.full + halted x) (sym same)
              (subst (λ (l : Layout). count_by (λ (q : Request). not (stamp_of m w q == 0)) (own_requests l.runners worker w.requests) ≤ (has_run worker low).serves.left.full + halted (f worker low).answer)
              (sym closing.layout)
              (subst (λ (rs : List Request). count_by (λ (q : Request). not (stamp_of m w q == 0)) (own_requests t.layout.runners worker rs) ≤ (has_run worker low).serves.left.full + halted (f worker low).answer)
              (sym closing.requests) (few_own worker low)))

      pub gates_came_back : (before behind : ℕ) → behind ≡ asks_counted asks before finished → GatesCameBack m w reads_free halts asks entries answers before behind
      gates_came_back before behind counted = record {
        gates = gates_of finished;
        each = length-gates_of finished ∙ (back ∙ (as_many ∙ sym each));
        of_worker = λ worker a d here.
            let few : worker < length finished = subst (λ (n : ℕ). worker < n) (length-gates_of finished) here in
            let low : worker < t.layout.runners = subst (λ (n : ℕ). worker < n) (back ∙ as_many) few in
            subst (IsGateOf m w reads_free halts asks entries worker (get_or answers worker a)) (sym (gate_at finished worker d (some_of finished worker (comes worker low)) few)) (gate_is worker low a);
        asked = counted;
      }

    pairs_added : makes.added (word_of m w) (length w.requests) ≤ makes.inserts w.requests
    pairs_added = subst (λ (n : ℕ). n ≤ makes.inserts w.requests) (sym (added_is m t keeper w closing))
        (subst (λ (rs : List Request). makes.added (end m t keeper w closing).word (length t.requests) ≤ makes.inserts rs) (sym closing.requests)
        (facts.added lawful.planner.serves))

    of_words : (worker : ℕ) (answer : Served) → slice_get answers worker ≡ Some answer → HasServed m w retry_short reads_free (own_requests w.layout.runners worker w.requests) answer
    of_words worker answer at = subst (λ (l : Layout). HasServed m w retry_short reads_free (own_requests l.runners worker w.requests) answer) (sym closing.layout)
        (subst (λ (rs : List Request). HasServed m w retry_short reads_free (own_requests t.layout.runners worker rs) answer) (sym closing.requests) (worker_served worker answer at))

    pub all_served : AreServed m w retry_short reads_free answers
    all_served = record {
      each = each ∙ ap (λ (l : Layout). l.runners) (sym closing.layout);
      served = of_words;
      free = holds_none;
      replied = (history.settled holds_none).replied;
      done = worker_done;
      few_added = pairs_added;
      others = λ room worker answer at. all_or_halted m w room pairs_added retry_short reads_free (own_requests w.layout.runners worker w.requests) answer (of_words worker answer at);
    }
