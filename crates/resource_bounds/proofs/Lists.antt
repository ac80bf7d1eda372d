-- Numbers that all stand in a list are no more than it is long.
use Rattle.std.specs.Prelude.{◌==◌, ◌&&◌, nat_lt, cond, map, Bool, true, false}
use Rattle.std.proofs.Common.{◌≡◌, ℕ, zero, suc, ◌+◌, ◌<◌, ◌≤◌, List, [], ◌∷◌, ◌++◌, length, length-append, refl, sym, ap, ◌∙◌, subst, ⊎_elim, arith}
use Rattle.std.proofs.lemmas.Bool.{cases_eq}
use Rattle.std.proofs.lemmas.Bool.Decides.{nat_tests}
use Rattle.std.proofs.lemmas.List.{length-map}
use Rattle.machine_states.specs.table_words.specs.declared.spot.Spot.{Spot}
use Rattle.machine_states.specs.table_words.specs.declared.spot.Spot.TheVariants.{Board}
use Rattle.machine_states.specs.runner_parts.specs.declared.entries.Retired.{Retired}
use Rattle.machine_states.specs.runner_parts.specs.State.{NodesState, PartState}
use Rattle.machine_states.specs.runner_parts.specs.Lists.{slots_of, entry_count}
use Rattle.machine_states.specs.epoch_core.specs.Lists.{times, times_retired}
use Rattle.machine_states.specs.epoch_core.proofs.Times.{times-append}
use Rattle.machine_epochs.specs.Descriptors.{times_limbo}
use Rattle.machine_epochs.specs.Slots.{entry_of}
use Rattle.reached_histories.specs.machine_facts.specs.machine_invariant.specs.Slots.{times_among}
use Rattle.resource_bounds.specs.InUse.{entries_below, named_below}

-- how many entries are below a number
abbrev below : ℕ → List ℕ → ℕ
below n [] = 0
below n (x ∷ xs) = cond (nat_lt x n) (1 + below n xs) (below n xs)

below_more : (n : ℕ) (xs : List ℕ) → below (suc n) xs ≡ below n xs + times n xs
below_more n [] = refl
below_more n (x ∷ xs) = let rest = below_more n xs in grind (arith, nat_tests)

below_most : (n : ℕ) (xs : List ℕ) → below n xs ≤ length xs
below_most n [] = omega arith
below_most n (x ∷ xs) = let rest = below_most n xs in grind (arith, nat_tests)

all_below : (a : ℕ) (xs : List ℕ) (k : ℕ) → ((t : ℕ) → a ≤ t → t < a + k → 1 ≤ times t xs) → k ≤ below (a + k) xs
all_below a xs zero h = omega arith
all_below a xs (suc k) h =
    let rest = all_below a xs k (λ t low high. h t low (omega (arith, high))) in
    let one = h (a + k) (omega arith) (omega arith) in
    let step : suc (a + k) ≡ a + suc k = omega arith in
    let more = subst (λ n. below n xs ≡ below (a + k) xs + times (a + k) xs) step (below_more (a + k) xs) in
    omega (arith, rest, one, more)

-- these numbers all stand in the list
pub covered : (a k : ℕ) (xs : List ℕ) → ((t : ℕ) → a ≤ t → t < a + k → 1 ≤ times t xs) → k ≤ length xs
covered a k xs h = let all = all_below a xs k h in let most = below_most (a + k) xs in omega (arith, all, most)

-- the slots in a runner's lists, one list after the other
abbrev slots_among : NodesState → List ℕ
slots_among n = n.hand ++ (n.free ++ (n.worn ++ slots_of n.limbo))

limbo_times : (t : ℕ) (xs : List Retired) → times_limbo t xs ≡ times t (slots_of xs)
limbo_times t [] = refl
limbo_times t (x ∷ xs) = let rest = limbo_times t xs in grind (arith, nat_tests)

among_times : (n : NodesState) (t : ℕ) → times_among n t ≡ times t (slots_among n)
among_times n t =
    let first = times-append t n.hand (n.free ++ (n.worn ++ slots_of n.limbo)) in
    let second = times-append t n.free (n.worn ++ slots_of n.limbo) in
    let third = times-append t n.worn (slots_of n.limbo) in
    let last = limbo_times t n.limbo in omega (arith, first, second, third, last)

among_length : (n : NodesState) → length (slots_among n) ≡ entry_count n
among_length n =
    let first = length-append n.hand (n.free ++ (n.worn ++ slots_of n.limbo)) in
    let second = length-append n.free (n.worn ++ slots_of n.limbo) in
    let third = length-append n.worn (slots_of n.limbo) in
    let last : length (slots_of n.limbo) ≡ length n.limbo = length-map n.limbo (λ x. x.slot) in omega (arith, first, second, third, last)

-- and in the lists of the first runners
abbrev pub slots_below : (ℕ → PartState) → ℕ → List ℕ
slots_below part zero = []
slots_below part (suc n) = slots_below part n ++ slots_among (part n).nodes

pub below_length : (part : ℕ → PartState) (n : ℕ) → length (slots_below part n) ≡ entries_below part n
below_length part zero = refl
below_length part (suc n) =
    let rest = below_length part n in let one = among_length (part n).nodes in
    let sum = length-append (slots_below part n) (slots_among (part n).nodes) in omega (arith, rest, one, sum)

pub below_times : (part : ℕ → PartState) (r t n : ℕ) → r < n → 1 ≤ times_among (part r).nodes t → 1 ≤ times t (slots_below part n)
below_times part r t zero low some = absurd (omega (arith, low))
below_times part r t (suc n) low some =
    let sum = times-append t (slots_below part n) (slots_among (part n).nodes) in
    ⊎_elim
    (λ e. let own = among_times (part n).nodes t in
    let here : 1 ≤ times_among (part n).nodes t = subst (λ i. 1 ≤ times_among (part i).nodes t) e some in omega (arith, sum, own, here))
    (λ ne. let rest = below_times part r t n (omega (arith, low, ne)) some in omega (arith, sum, rest))
    (cases_eq r n)

more_waits : (b c : Bool) (i k : ℕ) → i ≤ k → cond (b && c) (1 + i) i ≤ cond b (1 + k) k
more_waits true true i k le = omega (arith, le)
more_waits true false i k le = omega (arith, le)
more_waits false c i k le = omega (arith, le)

-- a slot that was retired with some epoch waits in limbo
pub retired_waits : (t y : ℕ) (xs : List Retired) → times_retired t y (map entry_of xs) ≤ times_limbo t xs
retired_waits t y [] = omega arith
retired_waits t y (x ∷ xs) = more_waits (x.slot == t) (x.epoch == y) _ _ (retired_waits t y xs)

-- the slot that a word of the board names, if it names one
abbrev slot_named : ℕ → List ℕ
slot_named zero = []
slot_named (suc t) = t ∷ []

-- those that the first words name
abbrev pub slots_named : (Spot → ℕ) → ℕ → List ℕ
slots_named word zero = []
slots_named word (suc n) = slots_named word n ++ slot_named (word (Board n))

pub named_length : (word : Spot → ℕ) (n : ℕ) → length (slots_named word n) ≡ named_below word n
named_length word zero = refl
named_length word (suc n) =
    let rest = named_length word n in let one = here (word (Board n)) in
    let sum = length-append (slots_named word n) (slot_named (word (Board n))) in omega (arith, rest, one, sum)
  where
    here : (v : ℕ) → length (slot_named v) ≡ cond (v == 0) 0 1
    here zero = refl
    here (suc t) = some t
      where
        some : (t : ℕ) → ◌≡◌ {A = ℕ} 1 (cond (suc t == 0) 0 1)
        some t = grind (arith, nat_tests)

pub named_times : (word : Spot → ℕ) (i t n : ℕ) → i < n → word (Board i) ≡ suc t → 1 ≤ times t (slots_named word n)
named_times word i t zero low named = absurd (omega (arith, low))
named_times word i t (suc n) low named =
    let sum = times-append t (slots_named word n) (slot_named (word (Board n))) in
    ⊎_elim
    (λ e. let here = one (word (Board n)) (ap (λ k. word (Board k)) (sym e) ∙ named) in omega (arith, sum, here))
    (λ ne. let rest = named_times word i t n (omega (arith, low, ne)) named in omega (arith, sum, rest))
    (cases_eq i n)
  where
    itself : (k : ℕ) → 1 ≤ cond (k == k) (1 + 0) 0
    itself k = grind (arith, nat_tests)

    one : (v : ℕ) → v ≡ suc t → 1 ≤ times t (slot_named v)
    one v is = subst (λ (u : ℕ). 1 ≤ times t (slot_named u)) (sym is) (itself t)
