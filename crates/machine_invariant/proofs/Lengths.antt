-- A list in which each number stands at most once, and which has numbers below a bound alone, is no longer than the bound.
-- So a runner's lists of node slots are no longer than there are node slots.
use Rattle.std.proofs.Common.{◌≡◌, ℕ, zero, suc, ◌+◌, ◌<◌, ◌≤◌, List, [], ◌∷◌, ◌++◌, length, refl, sym, ap, subst, arith, length-append}
use Rattle.std.specs.Prelude.{◌==◌, nat_lt, cond}
use Rattle.std.proofs.lemmas.Bool.Decides.{nat_tests}
use Rattle.std.proofs.lemmas.List.{length-map}
use Rattle.machine_states.specs.table_words.specs.declared.layout.Layout.{Layout}
use Rattle.machine_states.specs.structure_laws.specs.Meaning.{Meaning}
use Rattle.machine_states.specs.runner_parts.specs.declared.entries.Retired.{Retired}
use Rattle.machine_states.specs.runner_parts.specs.State.{NodesState}
use Rattle.machine_states.specs.runner_parts.specs.Lists.{slots_of, entry_count}
use Rattle.machine_states.specs.epoch_core.specs.declared.location.Location.{Location}
use Rattle.machine_states.specs.epoch_core.specs.Lists.{times}
use Rattle.machine_states.specs.epoch_core.proofs.Times.{times-append}
use Rattle.machine_states.specs.Sight.{Sight}
use Rattle.machine_blocks.specs.machine_guards.specs.machine_agreement.specs.machine_epochs.specs.Descriptors.{times_limbo}
use Rattle.machine_invariant.specs.Slots.{node_count, times_among, NodesStand}
use Rattle.machine_invariant.specs.Lengths.{ListsAreShort}
use Rattle.machine_invariant.specs.Whole.{Beside, IsWhole}
use Rattle.machine_invariant.proofs.Slots.{nodes_stand}

-- how many entries of a list are below a number
abbrev below : ℕ → List ℕ → ℕ
below n [] = 0
below n (x ∷ xs) = cond (nat_lt x n) (1 + below n xs) (below n xs)

below_none : (xs : List ℕ) → below 0 xs ≡ 0
below_none [] = refl
below_none (x ∷ xs) = let rest = below_none xs in grind (arith, nat_tests)

below_more : (n : ℕ) (xs : List ℕ) → below (suc n) xs ≡ below n xs + times n xs
below_more n [] = refl
below_more n (x ∷ xs) = let rest = below_more n xs in grind (arith, nat_tests)

-- where each number stands at most once
below_few : (n : ℕ) (xs : List ℕ) → ((t : ℕ) → times t xs ≤ 1) → below n xs ≤ n
below_few zero xs once = let none = below_none xs in omega arith
below_few (suc n) xs once =
    let before = below_few n xs once in
    let here = once n in
    let more = below_more n xs in omega arith

-- where all entries are below it
below_all : (n : ℕ) (xs : List ℕ) → ((t : ℕ) → 1 ≤ times t xs → t < n) → below n xs ≡ length xs
below_all n [] within = refl
below_all n (x ∷ xs) within =
    let here : x < n = within x (grind (arith, nat_tests)) in
    let rest = below_all n xs (λ t h. within t (grind (arith, nat_tests))) in grind (arith, nat_tests)

-- numbers below a bound, each at most once, are no more than the bound
short_once : (n : ℕ) (xs : List ℕ) → ((t : ℕ) → times t xs ≤ 1) → ((t : ℕ) → 1 ≤ times t xs → t < n) → length xs ≤ n
short_once n xs once within = subst (λ a. a ≤ n) (below_all n xs within) (below_few n xs once)

limbo_times : (t : ℕ) (xs : List Retired) → times_limbo t xs ≡ times t (slots_of xs)
limbo_times t [] = refl
limbo_times t (x ∷ xs) = ap (λ a. cond (x.slot == t) (1 + a) a) (limbo_times t xs)

-- the slots in a runner's lists, one list after the other
abbrev slots_among : NodesState → List ℕ
slots_among n = n.hand ++ (n.free ++ (n.worn ++ slots_of n.limbo))

among_times : (n : NodesState) (t : ℕ) → times_among n t ≡ times t (slots_among n)
among_times n t =
    let first = times-append t n.hand (n.free ++ (n.worn ++ slots_of n.limbo)) in
    let second = times-append t n.free (n.worn ++ slots_of n.limbo) in
    let third = times-append t n.worn (slots_of n.limbo) in
    let last = limbo_times t n.limbo in omega arith

among_length : (n : NodesState) → length (slots_among n) ≡ entry_count n
among_length n =
    let first = length-append n.hand (n.free ++ (n.worn ++ slots_of n.limbo)) in
    let second = length-append n.free (n.worn ++ slots_of n.limbo) in
    let third = length-append n.worn (slots_of n.limbo) in
    let last : length (slots_of n.limbo) ≡ length n.limbo = length-map n.limbo (λ x. x.slot) in omega arith

-- a runner's lists in which each slot stands at most once, and which have slots below a bound alone
entries_few : (n : NodesState) (bound : ℕ) → ((t : ℕ) → times_among n t ≤ 1) → ((t : ℕ) → 1 ≤ times_among n t → t < bound)
    → entry_count n ≤ bound
entries_few n bound once within = subst (λ a. a ≤ bound) (among_length n)
    (short_once bound (slots_among n)
    (λ t. subst (λ a. a ≤ 1) (among_times n t) (once t))
    (λ t h. within t (subst (λ a. 1 ≤ a) (sym (among_times n t)) h)))

pub lists_short : (m : Meaning) (l : Layout) (location : ℕ → Location) (s : Sight) → NodesStand m l location s → ListsAreShort m l s
lists_short m l location s stand = record {
  all = few;
  hand = λ r. let h = few r in omega arith;
  free = λ r. let h = few r in omega arith;
  worn = λ r. let h = few r in omega arith;
  limbo = λ r. let h = few r in omega arith;
}
  where
    few : (r : ℕ) → entry_count (s.part r).nodes ≤ node_count m l
    few r = entries_few (s.part r).nodes (node_count m l) (stand.once r) (stand.within r)

-- a state that meets the whole invariant
pub whole_short : (m : Meaning) (l : Layout) (g : Beside) (s : Sight) → IsWhole m l g s → ListsAreShort m l s
whole_short m l g s whole = lists_short m l g.epochs.location s (nodes_stand m l g.epochs s whole.slots)
