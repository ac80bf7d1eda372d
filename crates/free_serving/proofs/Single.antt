-- One request that is served under its lock: what this leaves, by what `serve` says of a list of one.
use Rattle.std.specs.Prelude.{◌*◌, ◌⊎◌, Bool, true, false, slice_get}
use Rattle.std.proofs.Common.{◌≡◌, ℕ, ◌+◌, ◌<◌, ◌≤◌, [], ◌∷◌, length, refl, sym, ap, subst, inl, inr, arith, Some, ⊎_elim}
use Rattle.machine_states.specs.map_history.specs.declared.op.Request.{Request}
use Rattle.seq_read.specs.history_orders.specs.Turns.{Follows}
use Rattle.machine_states.specs.table_words.specs.Limits.{IsWithinLimits}
use Rattle.machine_states.specs.table_words.specs.declared.layout.Layout.{Layout}
use Rattle.seq_read.specs.runner_gate.specs.Asks.{Asks}
use Rattle.machine_states.specs.structure_laws.specs.Meaning.{Meaning}
use Rattle.machine_states.specs.structure_laws.specs.Cells.{slots}
use Rattle.machine_states.specs.structure_laws.specs.Laws.{Laws}
use Rattle.machine_states.specs.runner_parts.specs.declared.entries.Known.{Known}
use Rattle.machine_states.specs.runner_parts.specs.Tests.{is_answered}
use Rattle.version_words.specs.RunnerState.{RunnerState}
use Rattle.version_words.specs.TableState.{TableState, IsOf}
use Rattle.version_words.specs.machine_invariant.specs.After.{AreAllowed}
use Rattle.seq_read.specs.caller_facts.specs.request_facts.specs.Laws.{HasEntry}
use Rattle.seq_read.specs.caller_facts.specs.Knowing.{LearnsNoOther, IsOwn}
use Rattle.serving.specs.attempts.specs.Attempts.{most_of_attempt}
use Rattle.seq_read.specs.caller_facts.specs.try_lock.specs.Planning.{Planning}
use Rattle.serving.specs.attempt_bounds.specs.Spared.{AttemptsSpareSlots}
use Rattle.serving.specs.Serving as serving
use Rattle.serving.specs.Serving.{Try, most_asks, WasCrossed, WasHalted, IsTry, ServedRuns, Serves}
use Rattle.serving.specs.declared.answers.Served.{Served}
use Rattle.serving.specs.declared.answers.Served.TheVariants as answers
use Rattle.serving.proofs.Standing.{entry_on, answered_more, one_stamp}
use Rattle.free_serving.specs.Services.{is_get}
use Rattle.free_serving.specs.Left.{MostRuns, WasReadInVain, HasStopped}
use Rattle.free_serving.specs.One.{Ends, IsBrief, LeavesOne}
use Rattle.free_serving.proofs.Same.{Same}
use Rattle.free_serving.proofs.Chain.{only_place, HasServed, chain_served, chain_asks, chain_reached, any_attempt}

-- so many runs, whatever the answer
pub runs_few : (answer : Served) (count before behind : ℕ) → ServedRuns answer count before behind → MostRuns answer count before behind
runs_few answers.All count before behind runs = omega (arith, runs)
runs_few (answers.Short short) count before behind runs = omega (arith, runs)
runs_few (answers.Spent place word) count before behind runs = runs
runs_few answers.Halted count before behind runs = runs

-- fewer asks than those for one request
asks_one : (tries count most : ℕ) → tries ≤ most + 2 → count ≤ 1 → tries + count ≤ most + 3
asks_one tries count most few one = omega (arith, few, one)

most_is : (count : ℕ) → most_of_attempt count + 3 ≤ most_asks count
most_is count = omega arith

-- so many runs came to their end, and the gate was asked at most so often
pub record IsWithin {T : Type 0} (answer : Served) (count asked most : ℕ) (old new : RunnerState T) : Type 0 where
  pub runs : MostRuns answer count (length old.part.records.finished) (length new.part.records.finished)
  pub few : asked ≤ most

module _ {T : Type 0} (m : Meaning) (laws : Laws m) (planning : Planning) (retry_short : Bool) (q : Request) (t : TableState T)
    (limits : IsWithinLimits t.layout) (allowed : AreAllowed t.requests) (old new : RunnerState T) (of_old : IsOf t old) (of_new : IsOf t new)
    (answer : Served) (Seen : ℕ → Asks → Type 0) (halts : ℕ) (asks asks' : Asks) (steps steps' : ℕ)
    (serves : Serves m planning retry_short (q ∷ []) answer old new Seen halts asks asks' steps steps')
    (own : IsOwn old q) (spare : AttemptsSpareSlots T m planning) where
  abbrev pub count : ℕ
  count = serving.served_in serves.tries

  abbrev pub asked : ℕ
  asked = serving.asks_in serves.tries + serving.served_in serves.tries

  limits_new : IsWithinLimits new.layout
  limits_new = subst IsWithinLimits (sym of_new.layout) limits

  allowed_new : AreAllowed new.requests
  allowed_new = subst AreAllowed (sym of_new.requests) allowed

  few_count : count ≤ 1
  few_count = let few = serves.served.few in let is = serves.count_is in omega (arith, few, is)

  no_other : LearnsNoOther q.number old new
  no_other x mine other = serves.others x mine (λ i there. other (ap (λ (y : Request). y.number) (sym (only_place q x i there).1)))

  -- where it served the request
  module _ (one : count ≡ 1) where
    done : HasServed m planning retry_short q serves.tries old new
    done = chain_served m planning retry_short q serves.tries old new serves.tried one

    answered_now : is_answered new.part.records.known q.number ≡ true
    answered_now = serves.served.answered 0 q (let is = serves.count_is in omega (arith, is, one)) refl

    stamp_now : (y : Known) → HasEntry new.part.records.known y → y.reply ≡ false → y.request ≡ q.number → y.number ≡ done.stamp
    stamp_now y h is request = one_stamp m laws new limits_new allowed_new done.done.reached y (record { request = q.number; reply = false; number = done.stamp }) h
        done.done.knows_stamp request is refl

    above : (x y : Known) → HasEntry old.part.records.known x → x.reply ≡ false → is_answered old.part.records.known x.request ≡ true
        → HasEntry new.part.records.known y → y.reply ≡ false → y.request ≡ q.number → Follows x.number y.number
    above x y hx isx was hy isy ofy = inl (subst (λ n. x.number < n) (sym (stamp_now y hy isy ofy))
        (done.done.above x (entry_on old.part.records.known done.before.part.records.known done.knew.known x hx) isx
        (answered_more old.part.records.known done.before.part.records.known done.knew.known x.request was)))

  -- how often the gate was asked, where each attempt that isn't crossed counts at most so many steps
  pub within : (most : ℕ) → ((x : Try) (r s : RunnerState T) → Same old r → q ≡ x.request → IsTry m planning x r s → x.crossed ≡ false → x.made ≤ most)
      → WasCrossed m planning serves.tries old ⊎ IsWithin answer count asked (most + 3) old new
  within most each = ⊎_elim
      inl
      (λ brief. ⊎_elim
      inl
      (λ few. inr (record {
        runs = subst (λ n. MostRuns answer n (length old.part.records.finished) (length new.part.records.finished)) serves.count_is
            (runs_few answer serves.count (length old.part.records.finished) (length new.part.records.finished) brief.runs);
        few = asks_one (serving.asks_in serves.tries) count most few few_count;
      }))
      (chain_asks m planning retry_short q most serves.tries old new serves.tried each))
      serves.brief

  general : WasCrossed m planning serves.tries old ⊎ IsBrief m planning retry_short q answer count asked old new
  general = ⊎_elim inl
      (λ is. inr (record { runs = is.runs; few = let few = is.few in let most = most_is (slots m old.layout) in omega (arith, few, most) }))
      (within (most_of_attempt (slots m old.layout)) (λ x r s same of_q is e. subst (λ (l : Layout). x.made ≤ most_of_attempt (slots m l)) same.0 (any_attempt m planning retry_short q x r s is e)))

  none_of : (n : ℕ) (x : Request) → slice_get (q ∷ []) n ≡ Some x → n ≡ serves.count → count ≡ 0
  none_of n x there same = let zero = (only_place q x n there).0 in let is = serves.count_is in omega (arith, zero, same, is)

  abbrev Stops : Served → Type 0
  Stops a = HasStopped m planning retry_short a q serves.tries old new

  ends_so : (a : Served) → serving.Ends m planning retry_short (q ∷ []) a serves.count serves.tries old new → Ends m planning retry_short q a count serves.tries old new
  ends_so answers.All is = ((let all = is.0 in let same = serves.count_is in omega (arith, all, same)), is.1)
  ends_so answers.Halted is = subst (λ n. WasHalted (q ∷ []) n new) serves.count_is is
  ends_so (answers.Short short) is = let stopped = is.2 in (
    none_of serves.count is.0 is.1 refl,
    subst (λ (y : Request). HasStopped m planning retry_short (answers.Short short) y serves.tries old new) (sym (only_place q is.0 serves.count is.1).1) (record {
      before = stopped.before;
      number = stopped.knew.number;
      spared = stopped.spared;
      stops = stopped.stops;
      tidy = stopped.tidy;
      unanswered = stopped.unanswered;
    }),
  )
  ends_so (answers.Spent place word) is = let stopped = is.2 in (
    none_of serves.count is.0 is.1 refl,
    subst (λ (y : Request). HasStopped m planning retry_short (answers.Spent place word) y serves.tries old new) (sym (only_place q is.0 serves.count is.1).1) (record {
      before = stopped.before;
      number = stopped.knew.number;
      spared = stopped.spared;
      stops = inl stopped.stops;
      tidy = stopped.tidy;
      unanswered = stopped.unanswered;
    }),
  )

  least_now : count * 8 ≤ asked
  least_now = let least = serves.least in let is = serves.count_is in omega (arith, least, is)

  all_of : answer ≡ answers.All → count ≡ 1
  all_of e = (subst (λ (a : Served). Ends m planning retry_short q a count serves.tries old new) e (ends_so answer serves.ends)).0

  -- what is left of it; a `get` was read in vain before
  pub single_leaves : (is_get q.op ≡ true → WasReadInVain m planning q old) → LeavesOne m planning retry_short q answer count count asked serves.tries old new
  single_leaves vain = record {
    most = few_count;
    served = λ one. record {
      answered = answered_now one;
      behind = above one;
      odd = λ get. inr (vain get);
    };
    ends = ends_so answer serves.ends;
    reached = chain_reached m planning retry_short q serves.tries old new serves.tried;
    knows = serves.knows;
    no_other = no_other;
    least = least_now;
    whole = inl refl;
    brief = general;
    spared = λ all unwaited was. (done (all_of all)).spared unwaited was spare;
    next = λ get none was. vain get;
  }
