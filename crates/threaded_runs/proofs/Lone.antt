-- The end of a run with one worker.
use Rattle.std.specs.Prelude.{◌*◌, Bool, slice_get, ◌==◌, not, count_by}
use Rattle.std.proofs.Common.{◌≡◌, ◌≢◌, ℕ, ◌+◌, ◌^◌, ◌<◌, ◌≤◌, List, length, refl, sym, ap, ◌∙◌, subst, arith, ⊎_elim, true, false, Option, Some, get_or, ne_eqb}
use Rattle.std.proofs.lemmas.Nat.{mul-le}
use Rattle.std.proofs.lemmas.Option.{slice_get-get_or, get_or_from_slice_get}
use Rattle.machine_states.specs.map_history.specs.declared.op.Request.{Request}
use Rattle.map_sizes.specs.Sizes.{peak}
use Rattle.machine_states.specs.body_terms.specs.Word.{version_of}
use Rattle.machine_states.specs.table_words.specs.declared.layout.Layout.{Layout}
use Rattle.machine_states.specs.table_words.specs.declared.spot.Spot.TheVariants.{Cell}
use Rattle.machine_states.specs.table_words.specs.Limits.{IsWithinLimits}
use Rattle.machine_states.specs.structure_laws.specs.Cells as cells
use Rattle.machine_states.specs.structure_laws.specs.Meaning.{Meaning}
use Rattle.machine_states.specs.runner_parts.specs.State.{PartState}
use Rattle.machine_states.specs.runner_parts.specs.Tests.{has, is_answered}
use Rattle.machine_states.specs.runner_steps.specs.After.{leaves}
use Rattle.machine_states.specs.First.{keeper_part}
use Rattle.version_words.specs.machine_invariant.specs.After.{AreAllowed}
use Rattle.machine_states.specs.runner_parts.specs.Lists.{entry_count}
use Rattle.reached_facts.specs.Facts.{HasFacts}
use Rattle.lone_reads.specs.lone_plans.specs.one_worker.specs.Ungiven.{IsBare}
use Rattle.version_words.specs.RunnerState.{RunnerState}
use Rattle.version_words.specs.Shown.{left_part}
use Rattle.version_words.specs.TableState.{TableState, WordsState, IsOf, IsClosing, word_of}
use Rattle.settled_tables.specs.settling.specs.runner_gate.specs.Asks.{Asks}
use Rattle.settled_tables.specs.settling.specs.epoch_slots.specs.Collects.{IsTidy}
use Rattle.settled_tables.specs.settling.specs.epoch_slots.specs.Reserves.{counts_of}
use Rattle.settled_tables.specs.settling.specs.epoch_slots.specs.declared.reserves.Kind.TheVariants as slots
use Rattle.settled_tables.specs.settling.specs.epoch_slots.specs.declared.reserves.Short.{Short}
use Rattle.settled_tables.specs.settling.specs.try_lock.specs.Planning.{Planning}
use Rattle.free_serving.specs.serving.specs.Serving.{Try, WasCrossed, is_crossed, most_asks}
use Rattle.free_serving.specs.Services.{is_get, is_refusal}
use Rattle.free_serving.specs.Left.{MostRuns, WasReadInVain, Ends}
use Rattle.lone_reads.specs.seq_read.specs.Course.{IsRefused}
use Rattle.lone_reads.specs.seq_read.specs.declared.answers.Read.{Read}
use Rattle.lone_reads.specs.seq_read.specs.declared.answers.Read.TheVariants as reads
use Rattle.lone_reads.specs.lone_plans.specs.Lone.{IsLone as IsLoneReader}
use Rattle.lone_reads.specs.Lone.{LoneReadsAreServed, NobodyCameBetween as ReadMetNobody}
use Rattle.free_serving.specs.serving.specs.attempts.specs.declared.answers.Attempt.{Attempt}
use Rattle.free_serving.specs.serving.specs.attempts.specs.declared.answers.Attempt.TheVariants as attempts
use Rattle.free_serving.specs.serving.specs.attempt_bounds.specs.Lone.{IsLone, LoneAttemptsAreServed, NobodyCameBetween}
use Rattle.free_serving.specs.serving.specs.attempt_bounds.specs.Spared.{AttemptsSpareSlots}
use Rattle.free_serving.specs.serving.specs.declared.answers.Served.{Served}
use Rattle.free_serving.specs.serving.specs.declared.answers.Served.TheVariants as stops
use Rattle.settled_tables.specs.closed_words.specs.Histories.{HaveHistory}
use Rattle.reached_facts.specs.keeper_facts.specs.Freed.{IsFreed}
use Rattle.settled_tables.specs.settling.specs.Settled.{Settles}
use Rattle.threaded_runs.specs.declared.job.Job.{Job}
use Rattle.threaded_runs.specs.declared.job.Finished.{Finished}
use Rattle.threaded_runs.specs.Own.{own_requests}
use Rattle.threaded_runs.specs.Jobs.{AllSeated, AllGiven, AllRun, AllKept, HasRun, IsSeated, asks_counted}
use Rattle.threaded_runs.specs.Asks.{AsksAlone}
use Rattle.threaded_runs.specs.Lone.{AreServedAlone, ReadsAlone}
use Rattle.threaded_runs.specs.Runs.{AreEntered, HasServed, served_in, stamp_of}
use Rattle.threaded_runs.proofs.Seats.{some_of}
use Rattle.threaded_runs.proofs.Closing.{end, known_entry, part_is, above_is}
use Rattle.threaded_runs.proofs.Counting.{asks_of_one, rises_within}
use Rattle.threaded_runs.proofs.Picked.{front_passes}
use Rattle.threaded_runs.proofs.Ending.{IsLawful, facts, settled, worker_served, read_so}
use Rattle.threaded_runs.proofs.Alone.{second_is, all_own, none_freed, few_versions, few_slots}

-- the keeper once it has joined the workers and before it settles the table: it has run nothing
pub record IsFresh {T : Type 0} (m : Meaning) (t : TableState T) (keeper : RunnerState T) : Type 0 where
  pub told : (worker : ℕ) → worker < t.layout.runners → has keeper.part.records.joined worker ≡ true
  pub nodes : keeper.part.nodes ≡ (keeper_part m t.layout).nodes
  pub finished : length keeper.part.records.finished ≡ 0
  pub apart : keeper.part.records.crosses ≡ false

not_crossed : (answer : Attempt) → is_crossed answer ≡ true → NobodyCameBetween answer → ⊥
not_crossed (attempts.Busy place word) crossed nobody = nobody
not_crossed (attempts.Stale place expected read) crossed nobody = nobody
not_crossed (attempts.Far loads) crossed nobody = nobody
not_crossed (attempts.Done reply stamp) crossed nobody = absurd (let z = crossed in cc)
not_crossed (attempts.Short short) crossed nobody = absurd (let z = crossed in cc)
not_crossed (attempts.Spent place word) crossed nobody = absurd (let z = crossed in cc)
not_crossed attempts.Halted crossed nobody = absurd (let z = crossed in cc)

most_runs : (answer : Served) (count before behind : ℕ) → MostRuns answer count before behind → behind ≤ before + (count + 1)
most_runs stops.All count before behind runs = omega (arith, runs)
most_runs (stops.Short short) count before behind runs = omega (arith, runs)
most_runs (stops.Spent place word) count before behind runs = runs
most_runs stops.Halted count before behind runs = runs

-- the asks for so many requests, where no fewer are served
asks_within : (before behind count served most : ℕ) → behind ≤ before + (count + 1) * most → before ≡ 0 → count ≤ served → behind ≤ (served + 1) * most
asks_within before behind count served most asked none few =
    let more : (count + 1) * most ≤ (served + 1) * most = mul-le (count + 1) most (served + 1) most (omega (arith, few)) (omega arith) in
    omega (arith, asked, none, more)

module _ {T H : Type 0} (m : Meaning) (planning : Planning) (retry_short reads_free : Bool) (t : TableState T) (lawful : IsLawful m planning t) (gathered keeper : RunnerState T) (w : WordsState T)
    (own : IsOf t keeper) (number : keeper.number ≡ t.layout.runners) (settles : Settles m gathered keeper) (closing : IsClosing m t keeper w)
    (halts : H → ℕ) (asks : H → Asks) (jobs : List (Job T H)) (finished : List (Finished T H)) (answers : List Served) (each : length answers ≡ t.layout.runners) (as_many : length jobs ≡ t.layout.runners)
    (back : length finished ≡ length jobs) (seated : AllSeated planning t jobs) (run : AllRun m planning retry_short reads_free halts asks t jobs finished) (kept : AllKept gathered answers finished) (history : HaveHistory m w)
    (fresh : IsFresh m t gathered) (one : t.layout.runners ≡ 1)
    (attempts_go : LoneAttemptsAreServed T m planning) (spare : AttemptsSpareSlots T m planning) where
  -- what holds of the state in which the table was closed
  reached : HasFacts m t.layout t.requests (end m t keeper w closing)
  reached = facts m planning retry_short reads_free t lawful gathered keeper w own number settles closing

  low : 0 < t.layout.runners
  low = omega (arith, one)

  here : 0 < length answers
  here = omega (arith, each, one)

  seat : 0 < length jobs
  seat = omega (arith, as_many, one)

  abbrev answer : Served
  answer = get_or answers 0 stops.All

  at : slice_get answers 0 ≡ Some answer
  at = slice_get-get_or answers 0 stops.All here

  abbrev j : Job T H
  j = get_or jobs 0 (some_of jobs 0 seat)

  abbrev f : Finished T H
  f = get_or finished 0 (some_of finished 0 (subst (λ (n : ℕ). 0 < n) (sym back) seat))

  has_run : HasRun m planning retry_short reads_free halts asks t j f
  has_run = run 0 (some_of jobs 0 seat) (some_of finished 0 (subst (λ (n : ℕ). 0 < n) (sym back) seat)) seat

  is_seated : IsSeated planning t 0 j
  is_seated = seated 0 (some_of jobs 0 seat) seat

  same : answer ≡ f.answer
  same = (kept 0 stops.All (some_of finished 0 (subst (λ (n : ℕ). 0 < n) (sym back) seat)) here).same

  abbrev p : PartState
  p = f.runner.part

  p_is : (end m t keeper w closing).part 0 ≡ leaves p
  p_is = part_is m t keeper w closing 0 p low (ap (λ js. left_part js 0) settles.joined ∙ (kept 0 stops.All (some_of finished 0 (subst (λ (n : ℕ). 0 < n) (sym back) seat)) here).part)

  -- a runner of this table is one of a table with one worker
  lone_of : (r : RunnerState T) → r.layout ≡ t.layout → r.requests ≡ t.requests → IsLone r
  lone_of r layout requests = record {
    limits = subst IsWithinLimits (sym layout) lawful.facts.limits;
    allowed = subst AreAllowed (sym requests) lawful.facts.allowed;
    one = ap (λ (l : Layout). l.runners) layout ∙ one;
  }

  -- no attempt was refused since another one came between
  uncrossed : (tries : List Try) → WasCrossed m planning tries j.runner → ⊥
  uncrossed tries is =
      not_crossed is.answer is.crossed (attempts_go.refused is.request is.answer is.before is.cut (lone_of is.before (is.layout ∙ is_seated.may.own.layout) (is.requests ∙ is_seated.may.own.requests)) is.refused)

  few_runs : length p.records.finished ≤ length t.requests + 1
  few_runs = ⊎_elim (λ crossed. absurd (uncrossed has_run.serves.tries crossed)) (λ brief. by f.answer brief.runs) has_run.serves.left.brief
    where
      served : has_run.serves.left.count ≤ length t.requests
      served = subst (λ (rs : List Request). has_run.serves.left.count ≤ length rs)
          (is_seated.requests ∙ (ap (λ n. own_requests n 0 t.requests) one ∙ all_own t.requests)) has_run.serves.left.served.few

      by : (a : Served) → MostRuns a has_run.serves.left.count (length j.runner.part.records.finished) (length p.records.finished)
          → length p.records.finished ≤ length t.requests + 1
      by a runs = let most = most_runs a has_run.serves.left.count (length j.runner.part.records.finished) (length p.records.finished) runs in
          let none : length j.runner.part.records.finished ≡ 0 = ap length is_seated.fresh in omega (arith, most, none, served)

  -- each request that the worker has served has its entry
  all_entered : has_run.serves.left.count ≤ served_in m w
  all_entered = subst (λ (rs : List Request). has_run.serves.left.count ≤ count_by (λ (q : Request). not (stamp_of m w q == 0)) rs)
      (is_seated.requests ∙ (ap (λ n. own_requests n 0 t.requests) one ∙ (all_own t.requests ∙ sym closing.requests)))
      (front_passes (λ (q : Request). not (stamp_of m w q == 0)) j.requests.items has_run.serves.left.count has_run.serves.left.served.few
      (λ i q low e. ap not (ne_eqb (stamp_of m w q) 0 (known_entry m t keeper w closing reached.history 0 q.number
      (ap (λ (x : PartState). is_answered x.records.known q.number) p_is ∙ has_run.serves.left.served.answered i q low e)))))

  few_asks : (asks j.gate).count ≡ 0 → (asks f.gate).count ≤ (served_in m w + 1) * most_asks (cells.slots m w.layout)
  few_asks none = ⊎_elim (λ crossed. absurd (uncrossed has_run.serves.tries crossed))
      (λ brief. asks_within (asks j.gate).count (asks f.gate).count has_run.serves.left.count (served_in m w) (most_asks (cells.slots m w.layout))
      (subst (λ (l : Layout). (asks f.gate).count ≤ (asks j.gate).count + (has_run.serves.left.count + 1) * most_asks (cells.slots m l)) (is_seated.may.own.layout ∙ sym closing.layout) brief.asked)
      none all_entered)
      has_run.serves.left.brief

  pub asked_alone : (before behind : ℕ) (entries : List (Option ℕ)) → AllGiven asks entries jobs → behind ≡ asks_counted asks before finished → AsksAlone m w before behind
  asked_alone before behind entries given counted = λ _.
      rises_within before behind (asks_counted asks before finished) (asks f.gate).count ((served_in m w + 1) * most_asks (cells.slots m w.layout)) counted
      (asks_of_one asks before finished (some_of finished 0 (subst (λ (n : ℕ). 0 < n) (sym back) seat)) (back ∙ (as_many ∙ one)))
      (few_asks (ap (λ (a : Asks). a.count) (given 0 (some_of jobs 0 seat) seat)))

  -- where each `get` is read first, each that has an entry has a read's stamp: no read came to nothing
  module _ (reads_go : LoneReadsAreServed T m planning) where
    own_is : own_requests t.layout.runners 0 t.requests ≡ w.requests
    own_is = ap (λ n. own_requests n 0 t.requests) one ∙ (all_own t.requests ∙ sym closing.requests)

    not_in_vain : (q : Request) (r : RunnerState T) → r.layout ≡ t.layout → r.requests ≡ t.requests → WasReadInVain m planning q r → ⊥
    not_in_vain q r layout requests vain = by vain.answer refl
      where
        was : IsRefused m planning q vain.answer vain.refused.before vain.refused.cut
        was = vain.refused.refused

        lone : IsLone vain.refused.before
        lone = lone_of vain.refused.before (vain.refused.layout ∙ layout) (vain.refused.requests ∙ requests)

        reader : IsLoneReader vain.refused.before
        reader = record { limits = lone.limits; allowed = lone.allowed; one = lone.one }

        nobody : ReadMetNobody vain.answer
        nobody = reads_go.refused q vain.answer vain.refused.before vain.refused.cut reader was

        refusal : is_refusal 1 vain.answer ≡ true
        refusal = subst (λ n. is_refusal n vain.answer ≡ true) (ap (λ (l : Layout). l.runners) layout ∙ one) vain.refusal

        by : (a : Read) → vain.answer ≡ a → ⊥
        by (reads.Busy place word) e = absurd (subst ReadMetNobody e nobody)
        by (reads.Stale place expected read) e = absurd (subst ReadMetNobody e nobody)
        by (reads.Far loads) e = absurd (subst ReadMetNobody e nobody)
        by (reads.Locked step) e = absurd (vain.looks lawful.planner.serves step e)
        by (reads.Done reply stamp) e = absurd (let z = sym (ap (is_refusal 1) e) ∙ refusal in cc)
        by (reads.Spent place word) e = absurd (let z = sym (ap (is_refusal 1) e) ∙ refusal in cc)
        by reads.Halted e = absurd (let z = sym (ap (is_refusal 1) e) ∙ refusal in cc)

    pub reads_alone : ReadsAlone m w reads_free
    reads_alone free only i key q there get some = ⊎_elim (λ odd. odd) (λ vain. absurd (not_in_vain q vain.0 vain.1 vain.2 vain.3))
        (read_so m planning retry_short reads_free t lawful gathered keeper w own number settles closing halts asks jobs finished answers each as_many back seated run kept history 0 low
        free i q (ap (λ (rs : List Request). slice_get rs i) own_is ∙ there) (ap is_get get) some)

  module _ (went : answer ≢ stops.Halted) where
    tidy : IsTidy f.runner
    tidy = by f.answer (λ e. went (same ∙ e)) has_run.serves.left.ends
      where
        by : (a : Served) → a ≢ stops.Halted → Ends m planning retry_short j.requests.items a has_run.serves.left.count has_run.serves.tries j.runner f.runner → IsTidy f.runner
        by stops.All not ends = ends.1
        by (stops.Short short) not ends = ends.2.tidy
        by (stops.Spent place word) not ends = ends.2.tidy
        by stops.Halted not ends = absurd (not refl)

    none : (d : ℕ) → IsFreed m keeper.part.records.left d → ⊥
    none = none_freed m t keeper w closing one p p_is tidy.at.published reached.locks
        (λ worker few. ap (λ xs. has xs worker) settles.told ∙ fresh.told worker few)

    versions : (place : ℕ) → version_of (word_of m w (Cell place)) ≤ 4 * length w.requests + 5
    versions = few_versions m t keeper w closing one p p_is tidy.at.published reached.versions tidy.at.resting
        settles.tidy.at.resting settles.tidy.at.published ((settles.quiet none).1 ∙ fresh.finished) few_runs

    apart : ((end m t keeper w closing).part 1).records.crosses ≡ false
    apart = ap (λ (x : PartState). x.records.crosses) (second_is m t keeper w closing one p p_is tidy.at.published) ∙ (settles.crosses ∙ fresh.apart)

    -- the board is empty
    bare : IsBare (end m t keeper w closing)
    bare = (reached.ungiven one).behind (ap (λ (x : PartState). x.gone) p_is) apart
        (above_is m t keeper w closing 0 p low (ap (λ js. left_part js 0) settles.joined ∙ (kept 0 stops.All (some_of finished 0 (subst (λ (n : ℕ). 0 < n) (sym back) seat)) here).part))

    slots_at : (short : Short) → slice_get answers 0 ≡ Some (stops.Short short) → short.kind ≡ slots.Node
        → w.layout.nodes ≤ short.free + (short.limbo + short.worn) + planning.per_pair * peak w.requests
    slots_at short is kind =
        let free : short.free ≡ length p.nodes.free = ap (λ (x : Short). x.free) counts in
        let limbo : short.limbo ≡ length p.nodes.limbo = ap (λ (x : Short). x.limbo) counts in
        let worn_out : short.worn ≡ length p.nodes.worn = ap (λ (x : Short). x.worn) counts in
        let hand : length p.nodes.hand ≡ 0 = ap length tidy.hand in
        let nodes : w.layout.nodes ≡ t.layout.nodes = ap (λ (l : Layout). l.nodes) closing.layout in
        let largest : planning.per_pair * peak w.requests ≡ planning.per_pair * peak t.requests = ap (λ (rs : List Request). planning.per_pair * peak rs) closing.requests in
        omega (arith, few, free, limbo, worn_out, hand, nodes, largest)
      where
        is_short : f.answer ≡ stops.Short short
        is_short = sym same ∙ get_or_from_slice_get answers 0 (stops.Short short) stops.All is

        ends : Ends m planning retry_short j.requests.items (stops.Short short) has_run.serves.left.count has_run.serves.tries j.runner f.runner
        ends = subst (λ (a : Served). Ends m planning retry_short j.requests.items a has_run.serves.left.count has_run.serves.tries j.runner f.runner) is_short has_run.serves.left.ends

        counts : short ≡ counts_of f.runner slots.Node
        counts = ends.2.stops.cause.counts ∙ ap (counts_of f.runner) kind

        served : HasServed m w retry_short reads_free (own_requests t.layout.runners 0 t.requests) (stops.Short short)
        served = worker_served m planning retry_short reads_free t lawful gathered keeper w own number settles closing halts asks jobs finished answers each as_many back seated run kept history 0 (stops.Short short) is

        entered : AreEntered m w reads_free t.requests served.count
        entered = subst (λ (rs : List Request). AreEntered m w reads_free rs served.count) (ap (λ n. own_requests n 0 t.requests) one ∙ all_own t.requests) served.entered

        few : t.layout.nodes ≤ entry_count p.nodes + planning.per_pair * peak t.requests
        few = few_slots m t keeper w closing one p p_is tidy.at.published planning.per_pair (reached.in_use planning.per_pair lawful.planner) bare
            (settled m planning retry_short reads_free t lawful gathered keeper w own number settles closing).free
            reached.history lawful.planner.serves lawful.facts.allowed.in_order
            ((settles.quiet none).0 ∙ fresh.nodes) served.count reads_free entered

    -- nobody crossed its steps
    alone_here : p.records.crossed ≡ false
    alone_here = ap (λ (x : PartState). x.records.crossed) (sym p_is)
        ∙ (reached.uncrossed one).behind (ap (λ (x : PartState). x.gone) p_is) apart

    limbo_at : (short : Short) → 8 * length w.requests + 8 ≤ w.layout.version_max → slice_get answers 0 ≡ Some (stops.Short short) → short.limbo ≡ 0
    limbo_at short versions_enough is = ⊎_elim unwaited (λ none. none.0) ends.2.stops.over
      where
        is_short : f.answer ≡ stops.Short short
        is_short = sym same ∙ get_or_from_slice_get answers 0 (stops.Short short) stops.All is

        ends : Ends m planning retry_short j.requests.items (stops.Short short) has_run.serves.left.count has_run.serves.tries j.runner f.runner
        ends = subst (λ (a : Served). Ends m planning retry_short j.requests.items a has_run.serves.left.count has_run.serves.tries j.runner f.runner) is_short has_run.serves.left.ends

        low : length p.records.finished < 2 ^ 59
        low = below (length p.records.finished) (length t.requests) t.layout.version_max few_runs
            (subst (λ (rs : List Request). 8 * length rs + 8 ≤ t.layout.version_max) closing.requests
            (subst (λ (l : Layout). 8 * length w.requests + 8 ≤ l.version_max) closing.layout versions_enough)) lawful.facts.limits.few_versions
          where
            below : (n k v : ℕ) → n ≤ k + 1 → 8 * k + 8 ≤ v → v < 2 ^ 32 → n < 2 ^ 59
            below n k v few room low = omega (arith, few, room, low)

        unwaited : retry_short ≡ false → short.limbo ≡ 0
        unwaited is_so = ⊎_elim
            (λ crossed. absurd (uncrossed has_run.serves.tries crossed))
            (λ spared. spare.short short ends.0.number ends.2.before f.runner spared ends.2.stops.cause alone_here low)
            (ends.2.spared is_so (spare.first j.runner is_seated.unmet))

  pub served_alone : slice_get answers 0 ≢ Some stops.Halted → AreServedAlone m planning.per_pair w answers
  served_alone unhalted =
      let went : answer ≢ stops.Halted = λ e. unhalted (at ∙ ap Some e) in
      record { versions = versions went; slots = slots_at went; limbo = limbo_at went }
