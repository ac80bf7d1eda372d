-- The requests of two workers.
use Rattle.std.proofs.Common.{◌≡◌, ◌≢◌, ℕ, zero, suc, ◌<◌, ◌≤◌, List, [], true, refl, sym, ap, subst, ◌∙◌, arith, Some}
use Rattle.std.specs.Prelude.{◌==◌, ◌&&◌, ◌%◌, slice_get, slice_index_or}
use Rattle.machine_states.specs.map_history.specs.declared.op.Request.{Request}
use Rattle.machine_states.specs.map_history.specs.declared.op.Op.{Op}
use Rattle.machine_states.specs.map_history.specs.Keys.{key_of, other_key_of, DependsOn}
use Rattle.machine_states.specs.map_history.proofs.Cells.{key_is}
use Rattle.machine_states.specs.map_history.specs.Requests.{AreInOrder}
use Rattle.machine_states.specs.table_words.specs.declared.layout.Layout.{Layout}
use Rattle.machine_states.specs.runner_parts.specs.Tests.{is_next}
use Rattle.lock_tests.proofs.Numbered.{none_of}
use Rattle.settled_tables.specs.closed_words.specs.version_words.specs.RunnerState.{RunnerState}
use Rattle.leaf_tree.specs.tree_laws.specs.bucket_laws.specs.Walk.{has_one_key}
use Rattle.lock_tests.specs.Workers.{IsReady}
use Rattle.lock_tests.specs.Asked.{IsDue}
use Rattle.lock_tests.specs.HashScene.{two_requests, asked}

-- one request in each of two traces, with keys that the map has
pub two_in_order : (a b : Op) → key_of a ≤ 4294967293 → key_of b ≤ 4294967293 → has_one_key a ≡ true
    → has_one_key b ≡ true → AreInOrder (two_requests a b) 64
two_in_order a b one two first second = record {
  few_traces = omega arith;
  few = omega arith;
  numbered = refl;
  within = within;
  rising = rising;
  keys = keys;
}
  where
    within : (k : ℕ) (d : Request) → k < 2 → (slice_index_or (two_requests a b) k d).trace < 64
    within zero d low = omega arith
    within (suc zero) d low = omega arith
    within (suc (suc k)) d low = absurd (omega (arith, low))

    rising : (i j : ℕ) (d : Request) → i ≤ j → j < 2 → (slice_index_or (two_requests a b) i d).trace ≤ (slice_index_or (two_requests a b) j d).trace
    rising zero zero d le low = omega arith
    rising zero (suc zero) d le low = omega arith
    rising (suc zero) (suc zero) d le low = omega arith
    rising (suc i) zero d le low = absurd (omega (arith, le))
    rising (suc (suc i)) (suc zero) d le low = absurd (omega (arith, le))
    rising i (suc (suc j)) d le low = absurd (omega (arith, low))

    own : (op : Op) → has_one_key op ≡ true → key_of op ≤ 4294967293 → (key : ℕ) → DependsOn op key → key ≤ 4294967293
    own op one small key on = subst (λ n. n ≤ 4294967293) (key_is op key (none_of (other_key_of op) one) on) small

    keys : (k : ℕ) (d : Request) → k < 2 → (key : ℕ) → DependsOn (slice_index_or (two_requests a b) k d).op key → key ≤ 4294967293
    keys zero d low = own a first one
    keys (suc zero) d low = own b second two
    keys (suc (suc k)) d low = absurd (omega (arith, low))

pub asked_first : (a b : Op) (n : ℕ) → n ≡ 0 → record { trace = 0; number = 0; op = a } ≡ asked a b n
asked_first a b n first = ap (asked a b) (sym first)

pub asked_other : (a b : Op) (n : ℕ) → n ≢ 0 → record { trace = 1; number = 1; op = b } ≡ asked a b n
asked_other a b zero other = absurd (other refl)
asked_other a b (suc n) other = refl

-- it stands among the table's requests
pub asked_there : (a b : Op) (requests : List Request) (n k : ℕ) (q : Request) → requests ≡ two_requests a b → k ≡ n → n < 2 → q ≡ asked a b k → slice_get requests q.number ≡ Some q
asked_there a b requests n k q same number few is =
    (λ i. slice_get (same i) (is i).number) ∙ (at k (subst (λ j. j < 2) (sym number) few) ∙ ap Some (sym is))
  where
    at : (j : ℕ) → j < 2 → slice_get (two_requests a b) (asked a b j).number ≡ Some (asked a b j)
    at zero low = refl
    at (suc zero) low = refl
    at (suc (suc j)) low = absurd (omega (arith, low))

-- each worker's request is due
pub is_due_of_two : {T : Type 0} (a b : Op) (r : RunnerState T) → r.layout.runners ≡ 2 → r.requests ≡ two_requests a b → r.number < 2 → IsReady r.number r
    → (request : Request) → request ≡ asked a b r.number → IsDue request r
is_due_of_two a b r two same few ready request is = record {
  tidy = ready.fresh.tidy;
  reserve = ready.reserve;
  there = asked_there a b r.requests r.number r.number request same refl few is;
  next = (λ i. is_next (r.layout) r.number (same i) (ready.fresh.knows i) (Some (is i))) ∙ next r.layout r.number two few;
}
  where
    next : (l : Layout) (k : ℕ) → l.runners ≡ 2 → k < 2 → is_next l k (two_requests a b) [] (Some (asked a b k)) ≡ true
    next l zero two low = (λ i. 0 % two i == 0 && true)
    next l (suc zero) two low = (λ i. 1 % two i == 1 && true)
    next l (suc (suc k)) two low = absurd (omega (arith, low))

-- where both have one key, so has each worker's
pub asked_one_key : (a b : Op) (n : ℕ) → has_one_key a ≡ true → has_one_key b ≡ true
    → has_one_key (asked a b n).op ≡ true
asked_one_key a b zero first second = first
asked_one_key a b (suc n) first second = second
