-- Numbers that stand once in a list and are all in a range are no more than the range has.
use Rattle.std.specs.Prelude.{nat_lt, cond}
use Rattle.std.proofs.Common.{◌≡◌, ℕ, zero, suc, ◌+◌, ◌<◌, ◌≤◌, List, [], ◌∷◌, ◌++◌, length, length-append, refl, ap, ◌∙◌, ⊎_elim, arith}
use Rattle.std.specs.Prelude.{◌*◌, ◌==◌}
use Rattle.std.proofs.lemmas.Bool.{cases_eq, cases_lt}
use Rattle.std.proofs.lemmas.Bool.Decides.{nat_tests}
use Rattle.machine_states.specs.table_words.specs.declared.layout.Layout.{Layout}
use Rattle.machine_states.specs.structure_laws.specs.Meaning.{Meaning}
use Rattle.machine_states.specs.epoch_core.specs.declared.location.Location.{Location}
use Rattle.machine_states.specs.epoch_core.specs.declared.location.Location.TheVariants.{Fixed}
use Rattle.machine_states.specs.epoch_core.specs.Lists.{times, in_free}
use Rattle.machine_states.specs.epoch_core.proofs.Times.{times-append}
use Rattle.machine_states.specs.Sight.{Sight}
use Rattle.runner_facts.specs.machine_facts.specs.machine_invariant.specs.Slots.{node_count, NodesStand}

-- how many entries are below a number
abbrev below : ℕ → List ℕ → ℕ
below n [] = 0
below n (x ∷ xs) = cond (nat_lt x n) (1 + below n xs) (below n xs)

below_none : (xs : List ℕ) → below 0 xs ≡ 0
below_none [] = refl
below_none (x ∷ xs) = let rest = below_none xs in grind (arith, nat_tests)

below_more : (n : ℕ) (xs : List ℕ) → below (suc n) xs ≡ below n xs + times n xs
below_more n [] = refl
below_more n (x ∷ xs) = let rest = below_more n xs in grind (arith, nat_tests)

here_once : (x : ℕ) (n : ℕ) → 1 ≤ cond (x == x) (1 + n) n
here_once x n = grind (arith, nat_tests)

more_there : (x t n : ℕ) → n ≤ cond (x == t) (1 + n) n
more_there x t n = grind (arith, nat_tests)

one_below : (x n k : ℕ) → x < n → cond (nat_lt x n) (1 + k) k ≡ suc k
one_below x n k low = grind (arith, nat_tests)

-- where all entries are below the number, these are all
below_all : (n : ℕ) (xs : List ℕ) → ((t : ℕ) → 1 ≤ times t xs → t < n) → below n xs ≡ length xs
below_all n [] all = refl
below_all n (x ∷ xs) all =
    one_below x n (below n xs) (all x (here_once x (times x xs)))
    ∙ ap suc (below_all n xs (λ t some. all t (let more = more_there x t (times t xs) in omega (arith, some, more))))

-- below the range none stands, and in it each at most once
few_below : (a : ℕ) (xs : List ℕ) (k : ℕ) → ((t : ℕ) → times t xs ≤ 1) → ((t : ℕ) → 1 ≤ times t xs → a ≤ t) → below (a + k) xs ≤ k
few_below a xs zero once high =
    let rest = none a (omega arith) in
    let same : a + 0 ≡ a = omega arith in
    let is : below (a + 0) xs ≡ below a xs = ap (λ n. below n xs) same in
    omega (arith, rest, is)
  where
    none : (n : ℕ) → n ≤ a → below n xs ≤ 0
    none zero le = let e = below_none xs in omega (arith, e)
    none (suc n) le =
        let rest = none n (omega (arith, le)) in
        let more = below_more n xs in
        ⊎_elim
        (λ z. omega (arith, rest, more, z))
        (λ some. absurd (let at = high n (omega (arith, some)) in omega (arith, at, le)))
        (cases_eq (times n xs) 0)
few_below a xs (suc k) once high =
    let rest = few_below a xs k once high in
    let more = below_more (a + k) xs in
    let one = once (a + k) in
    let same : a + suc k ≡ suc (a + k) = omega arith in
    let is : below (a + suc k) xs ≡ below (suc (a + k)) xs = ap (λ n. below n xs) same in
    omega (arith, rest, more, one, is)

few_of : (a k : ℕ) (xs : List ℕ) → ((t : ℕ) → times t xs ≤ 1) → ((t : ℕ) → 1 ≤ times t xs → a ≤ t) → ((t : ℕ) → 1 ≤ times t xs → t < a + k) → length xs ≤ k
few_of a k xs once low high = let few = few_below a xs k once low in let all = below_all (a + k) xs high in omega (arith, few, all)

-- the worker's and the keeper's free slots are no more than the slots that there are
module _ (m : Meaning) (l : Layout) (location : ℕ → Location) (s : Sight) (stands : NodesStand m l location s) (fixed : (t : ℕ) → t < m.fixed_slots → location t ≡ Fixed) where
  abbrev own : List ℕ
  own = (s.part 0).nodes.free

  abbrev keeper : List ℕ
  keeper = (s.part 1).nodes.free

  sum : (t : ℕ) → times t (own ++ keeper) ≡ times t own + times t keeper
  sum t = times-append t own keeper

  once : (t : ℕ) → times t (own ++ keeper) ≤ 1
  once t =
      let all = sum t in let a = stands.once 0 t in let b = stands.once 1 t in
      ⊎_elim
      (λ z. omega (arith, all, b, z))
      (λ some. ⊎_elim
      (λ z. omega (arith, all, a, z))
      (λ too. absurd (let e = stands.apart 0 1 t (omega (arith, some)) (omega (arith, too)) in omega (arith, e)))
      (cases_eq (times t keeper) 0))
      (cases_eq (times t own) 0)

  within : (t : ℕ) → 1 ≤ times t (own ++ keeper) → t < node_count m l
  within t some =
      let all = sum t in
      ⊎_elim
      (λ z. stands.within 1 t (omega (arith, all, some, z)))
      (λ more. stands.within 0 t (omega (arith, more)))
      (cases_eq (times t own) 0)

  high : (t : ℕ) → 1 ≤ times t (own ++ keeper) → m.fixed_slots ≤ t
  high t some = ⊎_elim
      (λ low. absurd (
      let at = fixed t low in let node = within t some in let all = sum t in
      let a : times t own ≡ 0 = stands.free 0 t node ∙ ap (in_free 0) at in
      let b : times t keeper ≡ 0 = stands.free 1 t node ∙ ap (in_free 1) at in omega (arith, some, all, a, b)))
      (λ le. le)
      (cases_lt t m.fixed_slots)

  pub few : l.runners ≡ 1 → length own + length keeper ≤ l.nodes + 4
  few one =
      let all = few_of m.fixed_slots (l.nodes * l.runners + (2 * l.runners + 2)) (own ++ keeper) once high
      (λ t some. let node = within t some in omega (arith, node)) in
      let sum = length-append own keeper in
      let with : l.nodes * l.runners + (2 * l.runners + 2) ≡ l.nodes * 1 + (2 * 1 + 2) = ap (λ n. l.nodes * n + (2 * n + 2)) one in
      omega (arith, all, sum, with)
