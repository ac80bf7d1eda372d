-- The requests of a runner that has served all of its own have an entry; so where each has, none is unserved.
use Rattle.std.proofs.Common.{◌≡◌, ◌≢◌, ℕ, zero, suc, ◌<◌, ◌%◌, ◌==◌, Bool, true, false, cond, List, [], ◌∷◌, Option, None, Some, IsSome, get_or, length, refl, sym, ap, ◌∙◌, subst, arith, rules, zero-add}
use Rattle.std.specs.Prelude.{not, is_some, filter, map, slice_get}
use Rattle.std.proofs.lemmas.Bool.Decides.{nat_tests}
use Rattle.std.proofs.lemmas.List.Sums.{sum_by-cons}
use Rattle.std.specs.List.{range_with_len}
use Rattle.std.specs.Option.{option_map}
use Rattle.std.proofs.lemmas.List.FromFn.{get_or-range_with_len, length-range_with_len}
use Rattle.std.proofs.lemmas.Option.{slice_get-map, slice_get_within, slice_get-get_or}
use Rattle.machine_states.specs.map_history.specs.declared.op.Entry.{Entry}
use Rattle.machine_states.specs.map_history.specs.declared.op.Op.TheVariants.{Get}
use Rattle.machine_states.specs.map_history.specs.declared.op.Request.{Request}
use Rattle.machine_states.specs.table_words.specs.declared.spot.Spot.TheVariants.{Stamp}
use Rattle.machine_states.specs.structure_laws.specs.Meaning.{Meaning}
use Rattle.machine_states.specs.map_history.specs.Requests.{AreInOrder}
use Rattle.machine_states.proofs.Steps.{some_same}
use Rattle.version_words.specs.machine_invariant.specs.After.{AreAllowed}
use Rattle.version_words.specs.TableState.{WordsState, word_of}
use Rattle.load_counts.specs.run_reports.specs.Reports.{HaveEntries, unserved_in}
use Rattle.threaded_runs.specs.free_serving.specs.serving.specs.declared.answers.Served.{Served}
use Rattle.threaded_runs.specs.free_serving.specs.serving.specs.declared.answers.Served.TheVariants as answers
use Rattle.threaded_runs.specs.Own.{own_requests}
use Rattle.threaded_runs.specs.Runs.{AreServed, HasServed, stamp_of}

-- a request that passes the test stands in the filtered list
filtered : {X : Type 0} (p : X → Bool) (xs : List X) (k : ℕ) (x : X) → slice_get xs k ≡ Some x → p x ≡ true → (i : ℕ) × (slice_get (filter p xs) i ≡ Some x)
filtered p [] k x is passes = absurd (cc)
filtered p (y ∷ xs) zero x is passes = by (p y) (ap p same ∙ passes)
  where
    same : y ≡ x
    same = cc

    by : (b : Bool) → b ≡ true → (i : ℕ) × (slice_get (cond b (y ∷ filter p xs) (filter p xs)) i ≡ Some x)
    by true e = (0, ap Some same)
    by false e = absurd (cc)
filtered p (y ∷ xs) (suc k) x is passes = by (filtered p xs k x is passes) (p y)
  where
    by : (i : ℕ) × (slice_get (filter p xs) i ≡ Some x) → (b : Bool) → (i : ℕ) × (slice_get (cond b (y ∷ filter p xs) (filter p xs)) i ≡ Some x)
    by rest true = (suc rest.0, rest.1)
    by rest false = rest

-- where each entry is there, none is unserved
none_unserved : (entries : List (Option Entry)) → ((n : ℕ) (entry : Option Entry) → slice_get entries n ≡ Some entry → IsSome entry) → unserved_in entries ≡ 0
none_unserved [] there = refl
none_unserved (None ∷ entries) there = absurd (no_entry (there 0 None refl))
  where
    no_entry : IsSome {T = Entry} None → ⊥
    no_entry some = cc
none_unserved (Some entry ∷ entries) there =
    let first = sum_by-cons (λ (e : Option Entry). cond (not (is_some e)) 1 0) (Some entry) entries in
    let rest = none_unserved entries (λ n e is. there (suc n) e is) in
    omega (arith, first, rest)

-- requests are numbered by their place
pub numbered : (requests : List Request) (traces : ℕ) → AreInOrder requests traces → (n : ℕ) (q : Request) → slice_get requests n ≡ Some q → q.number ≡ n
numbered requests traces order n q at = some_same q.number n (sym by_map ∙ (ap (λ xs. slice_get xs n) order.numbered ∙ by_range))
  where
    low : n < length requests
    low = slice_get_within requests n q at

    by_map : slice_get (map (λ (x : Request). x.number) requests) n ≡ Some q.number
    by_map = slice_get-map (λ (x : Request). x.number) requests n ∙ ap (option_map (λ (x : Request). x.number)) at

    by_range : slice_get (range_with_len 0 (length requests)) n ≡ Some n
    by_range = slice_get-get_or (range_with_len 0 (length requests)) n 0 (omega (arith, low, length-range_with_len 0 (length requests)))
        ∙ ap (λ (k : ℕ). Some k) (get_or-range_with_len 0 (length requests) n 0 low ∙ zero-add n)

module _ {T : Type 0} {reads : Bool} (m : Meaning) (w : WordsState T) (allowed : AreAllowed w.requests) (retry_short : Bool) (list : List Served)
    (served : AreServed m w retry_short reads list) (some : 0 < w.layout.runners) where
  -- the answer of the runner that serves this request
  pub answer_for : (q : Request) → (answer : Served) × (slice_get list (q.trace % w.layout.runners) ≡ Some answer)
  answer_for q = (_, slice_get-get_or list (q.trace % w.layout.runners) answers.All (omega (arith, served.each, some)))

  -- where it has served all of its requests, this one has a stamp
  pub stamped : (n : ℕ) (q : Request) → slice_get w.requests n ≡ Some q → slice_get list (q.trace % w.layout.runners) ≡ Some answers.All
      → word_of m w (Stamp n) ≢ 0
  stamped n q is there = subst (λ k. word_of m w (Stamp k) ≢ 0) (numbered w.requests 64 allowed.in_order n q is) here
    where
      worker : ℕ
      worker = q.trace % w.layout.runners

      own : HasServed m w retry_short reads (own_requests w.layout.runners worker w.requests) answers.All
      own = served.served worker answers.All there

      place : (i : ℕ) × (slice_get (own_requests w.layout.runners worker w.requests) i ≡ Some q)
      place = filtered (λ (request : Request). request.trace % w.layout.runners == worker) w.requests n q is (grind (arith, nat_tests))

      here : stamp_of m w q ≢ 0
      here = own.entered.entries place.0 q (omega (arith, slice_get_within _ place.0 q place.1, own.cause)) place.1

  pub all_served : ((i : ℕ) (answer : Served) → slice_get list i ≡ Some answer → answer ≡ answers.All)
      → (entries : List (Option Entry)) → HaveEntries m w entries → unserved_in entries ≡ 0
  all_served all entries shown = none_unserved entries there
    where
      there : (n : ℕ) (entry : Option Entry) → slice_get entries n ≡ Some entry → IsSome entry
      there n (Some entry) is = search rules
      there n None is =
          let inside : n < length w.requests = omega (arith, slice_get_within entries n None is, shown.one_each) in
          let at = slice_get-get_or w.requests n (record { trace = 0; number = 0; op = Get 0 }) inside in
          let own = answer_for (get_or w.requests n (record { trace = 0; number = 0; op = Get 0 })) in
          absurd (stamped n _ at (own.1 ∙ ap Some (all _ own.0 own.1)) (shown.each n None is))
