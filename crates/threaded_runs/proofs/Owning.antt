-- A worker that was just made may serve the requests of its traces.
use Rattle.std.specs.Prelude.{◌==◌, ◌%◌, Bool, true, false, map, slice_get, All}
use Rattle.std.specs.List.{range_with_len}
use Rattle.std.proofs.Common.{◌≡◌, ℕ, ◌<◌, List, length, sym, ap, ◌∙◌, subst, Some, None, option_map, eq-eqb, inr}
use Rattle.std.proofs.lemmas.Option.{slice_get-map, slice_get_within, slice_get-get_or, get_or_from_slice_get}
use Rattle.std.proofs.lemmas.List.FromFn.{get_or-range_with_len, length-range_with_len}
use Rattle.machine_states.specs.epoch_core.specs.small_lemmas.proofs.Numbers.{tested_equal as same_test, from_zero as from_none}
use Rattle.machine_states.specs.map_history.specs.declared.op.Request.{Request}
use Rattle.machine_states.specs.map_history.specs.Requests.{AreInOrder}
use Rattle.machine_states.specs.structure_laws.specs.Meaning.{Meaning}
use Rattle.machine_states.specs.epoch_core.specs.declared.stage.Stage.TheVariants as stages
use Rattle.machine_states.specs.runner_parts.specs.Tests.{is_answered}
use Rattle.machine_states.proofs.Steps.{some_same}
use Rattle.version_words.specs.RunnerState.{RunnerState}
use Rattle.version_words.specs.Stages.{IsAt, IsKeeper}
use Rattle.version_words.specs.TableState.{TableState, IsOf}
use Rattle.version_words.specs.Events.{next_worker}
use Rattle.version_words.proofs.Stages.{next_is_idle}
use Rattle.settled_tables.specs.settling.specs.epoch_slots.specs.Collects.{IsTidy}
use Rattle.settled_tables.specs.settling.specs.try_lock.specs.Planning.{Planning}
use Rattle.free_serving.specs.serving.specs.Serving.{MayServe}
use Rattle.threaded_runs.specs.Own.{own_requests}
use Rattle.threaded_runs.proofs.Picked.{picked, kept, before, count_before}

-- requests are numbered by their place
pub numbered : (requests : List Request) → AreInOrder requests 64 → (n : ℕ) (q : Request) → slice_get requests n ≡ Some q → q.number ≡ n
numbered requests order n q at = some_same q.number n (sym by_map ∙ (ap (λ xs. slice_get xs n) order.numbered ∙ by_range))
  where
    low : n < length requests
    low = slice_get_within requests n q at

    by_map : slice_get (map (λ (x : Request). x.number) requests) n ≡ Some q.number
    by_map = slice_get-map (λ (x : Request). x.number) requests n ∙ ap (option_map (λ (x : Request). x.number)) at

    by_range : slice_get (range_with_len 0 (length requests)) n ≡ Some n
    by_range = slice_get-get_or (range_with_len 0 (length requests)) n 0 (subst (λ k. n < k) (sym (length-range_with_len 0 (length requests))) low)
        ∙ ap (λ (k : ℕ). Some k) (get_or-range_with_len 0 (length requests) n 0 low ∙ from_none n)

module _ (runners worker : ℕ) (requests : List Request) (order : AreInOrder requests 64) where
  abbrev is_own : Request → Bool
  is_own q = q.trace % runners == worker

  abbrev own : List Request
  own = own_requests runners worker requests

  -- a request of the worker's stands in the whole list at its number
  pub own_there : (i : ℕ) (q : Request) → slice_get own i ≡ Some q → slice_get requests q.number ≡ Some q
  own_there i q e = let p = picked is_own requests i q e in subst (λ (n : ℕ). slice_get requests n ≡ Some q) (sym (numbered requests order p.at q p.here)) p.here

  pub own_trace : (i : ℕ) (q : Request) → slice_get own i ≡ Some q → q.trace % runners ≡ worker
  own_trace i q e = same_test (q.trace % runners) worker (picked is_own requests i q e).passes

  -- where it stands among the worker's
  pub own_at : (i : ℕ) (q : Request) → slice_get own i ≡ Some q → count_before is_own requests q.number ≡ i
  own_at i q e = let p = picked is_own requests i q e in ap (count_before is_own requests) (numbered requests order p.at q p.here) ∙ p.index

  pub own_once : (i j : ℕ) (q q' : Request) → slice_get own i ≡ Some q → slice_get own j ≡ Some q' → q.number ≡ q'.number → i ≡ j
  own_once i j q q' e e' same = sym (own_at i q e) ∙ (ap (count_before is_own requests) same ∙ own_at j q' e')

  -- an earlier one of the worker's stands before it
  pub own_earlier : (i : ℕ) (q q' : Request) → slice_get own i ≡ Some q → slice_get requests q'.number ≡ Some q' → q'.trace % runners ≡ worker → q'.number < q.number
      → (j : ℕ) × (j < i) × (slice_get own j ≡ Some q')
  own_earlier i q q' e there trace low =
      let passes : is_own q' ≡ true = eq-eqb (q'.trace % runners) worker trace in
      let at = count_before is_own requests q'.number in
      let few : at < count_before is_own requests q.number = before is_own requests q'.number q.number q' there passes low in (
        at,
        subst (λ (n : ℕ). at < n) (own_at i q e) few,
        kept is_own requests q'.number q' there passes,
      )

  -- what holds of each request of the list holds of each of the worker's
  pub own_all : (P : Request → Type 0) → All P requests → (i : ℕ) (q : Request) → slice_get own i ≡ Some q → P q
  own_all P all i q e = subst P (get_or_from_slice_get requests q.number q q (own_there i q e)) (all q.number q (slice_get_within requests q.number q (own_there i q e)))

module _ {T : Type 0} (m : Meaning) (planning : Planning) (t : TableState T) (keeper r : RunnerState T) (splits : ℕ) (made : r ≡ next_worker m keeper) (own : IsOf t r) (is : IsKeeper keeper splits)
    (few : splits < keeper.layout.runners) (order : AreInOrder t.requests 64) (served : All (λ (q : Request). planning.serves q.op ≡ true) t.requests) where
  number : r.number ≡ splits
  number = ap (λ (y : RunnerState T). y.number) made ∙ is.as_many

  at : IsAt r stages.Idle None
  at = next_is_idle m keeper r splits made is few

  tidy : IsTidy r
  tidy = record {
    at = at;
    hand = ap (λ (y : RunnerState T). y.part.nodes.hand) made;
    tests = ap (λ (y : RunnerState T). y.part.nodes.tests) made;
    looked = ap (λ (y : RunnerState T). y.part.guards.looked) made;
    unguarded = ap (λ (y : RunnerState T). y.part.guards.named) made;
  }

  unknown : (n : ℕ) → is_answered r.part.records.known n ≡ false
  unknown n = ap (λ (y : RunnerState T). is_answered y.part.records.known n) made

  pub worker_may_serve : (runners : ℕ) → runners ≡ t.layout.runners → MayServe planning (own_requests runners splits t.requests) r
  worker_may_serve runners as_many = record {
    tidy = tidy;
    own = λ i q e. record {
      there = subst (λ (rs : List Request). slice_get rs q.number ≡ Some q) (sym own.requests) (own_there runners splits t.requests order i q e);
      own = ap (λ (n : ℕ). q.trace % n) (workers ∙ sym as_many) ∙ (own_trace runners splits t.requests order i q e ∙ sym number);
    };
    served = λ i q e. own_all runners splits t.requests order (λ (q : Request). planning.serves q.op ≡ true) served i q e;
    once = λ i j q q' e e' same. own_once runners splits t.requests order i j q q' e e' same;
    unanswered = λ i q e. unknown q.number;
    earlier = λ i q q' e other trace low. inr (own_earlier runners splits t.requests order i q q' e
        (subst (λ (rs : List Request). slice_get rs q'.number ≡ Some q') own.requests other.there)
        (ap (λ (n : ℕ). q'.trace % n) (as_many ∙ sym workers) ∙ (other.own ∙ number)) low);
  }
    where
      workers : r.layout.runners ≡ t.layout.runners
      workers = ap (λ l. l.runners) own.layout
