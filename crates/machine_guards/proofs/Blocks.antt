-- Where a block is, and how often it stands with its runner, behind a change of the runner's lists.
use Rattle.std.specs.Prelude.{◌==◌, ◌&&◌, ◌||◌, not, cond, map, Bool, true, false, if◌then◌else◌}
use Rattle.std.specs.List.{filter}
use Rattle.std.proofs.Common.{◌≡◌, ◌≢◌, ℕ, ◌+◌, ◌≤◌, List, [], ◌∷◌, ◌++◌, refl, sym, ap, ◌∙◌, subst, arith, Option, Some, None}
use Rattle.std.proofs.lemmas.Bool.Decides.{nat_tests}
use Rattle.machine_states.specs.epoch_core.specs.small_lemmas.proofs.Numbers.{tested_equal as same_number, self_tested, other_tested}
use Rattle.machine_states.specs.runner_parts.specs.declared.entries.Waiting.{Waiting}
use Rattle.machine_states.specs.runner_parts.specs.Lists.{without, all_under}
use Rattle.machine_states.specs.runner_parts.specs.State.{PartState}
use Rattle.machine_states.specs.runner_parts.specs.Tests.{has}
use Rattle.machine_states.specs.epoch_core.specs.Lists.{times}
use Rattle.machine_states.specs.guard_core.specs.State as guards
use Rattle.machine_states.specs.guard_core.specs.Moves.{retired, freed}
use Rattle.machine_states.specs.guard_core.specs.Sweeps.{is_limbo_of}
use Rattle.machine_guards.specs.State.{won_of, hand_of, under_in, waits_under, block_with}
use Rattle.machine_guards.specs.Stands.{times_held, block_times}
use Rattle.machine_guards.proofs.Lists.{append_has, times_has, times_filter, times_append}

-- the blocks that lie in a limbo
abbrev blocks_of : List Waiting → List ℕ
blocks_of xs = map (λ x. x.block) xs

-- where a runner with these lists has its block
abbrev pub at : ℕ → List ℕ → List Waiting → ℕ → guards.Location
at r won limbo b = if has won b then guards.Live r else waits_under r (under_in limbo b)

-- it hangs on these lists alone
pub same_place : (r b : ℕ) (p p' : PartState) → won_of p'.run ≡ won_of p.run → p'.blocks ≡ p.blocks → block_with r p' b ≡ block_with r p b
same_place r b p p' won blocks = λ i. at r (won i) (blocks i).limbo b

pub same_times : (b : ℕ) (p p' : PartState) → won_of p'.run ≡ won_of p.run → hand_of p'.run ≡ hand_of p.run → p'.blocks ≡ p.blocks → block_times p' b ≡ block_times p b
same_times b p p' won hand blocks = λ i. times b (blocks i).free + (times b (blocks_of (blocks i).limbo) + (times b (won i) + times_held (hand i) b))

-- under what a block lies
under_none : (xs : List Waiting) (b : ℕ) → times b (blocks_of xs) ≡ 0 → under_in xs b ≡ None
under_none [] b none = refl
under_none (x ∷ xs) b none = by (x.block == b) (times b (blocks_of xs)) (under_none xs b) none
  where
    by : (k : Bool) (n : ℕ) → (n ≡ 0 → under_in xs b ≡ None) → cond k (1 + n) n ≡ 0 → cond k (Some x.descriptor) (under_in xs b) ≡ None
    by true n rest none = absurd (omega arith)
    by false n rest none = rest none

under_behind : (xs ys : List Waiting) (b : ℕ) → times b (blocks_of xs) ≡ 0 → under_in (xs ++ ys) b ≡ under_in ys b
under_behind [] ys b none = refl
under_behind (x ∷ xs) ys b none = by (x.block == b) (times b (blocks_of xs)) (under_behind xs ys b) none
  where
    by : (k : Bool) (n : ℕ) → (n ≡ 0 → under_in (xs ++ ys) b ≡ under_in ys b) → cond k (1 + n) n ≡ 0 → cond k (Some x.descriptor) (under_in (xs ++ ys) b) ≡ under_in ys b
    by true n rest none = absurd (omega arith)
    by false n rest none = rest none

under_before : (xs ys : List Waiting) (b : ℕ) → under_in ys b ≡ None → under_in (xs ++ ys) b ≡ under_in xs b
under_before [] ys b none = none
under_before (x ∷ xs) ys b none = ap (λ o. cond (x.block == b) (Some x.descriptor) o) (under_before xs ys b none)

under_all : (d : ℕ) (xs : List ℕ) (b : ℕ) → has xs b ≡ true → under_in (all_under d xs) b ≡ Some d
under_all d [] b is = absurd (let y = is in cc)
under_all d (x ∷ xs) b is = by (x == b) (has xs b) (under_all d xs b) is
  where
    by : (k k' : Bool) → (k' ≡ true → under_in (all_under d xs) b ≡ Some d) → (k || k') ≡ true → cond k (Some d) (under_in (all_under d xs) b) ≡ Some d
    by true k' rest is = refl
    by false k' rest is = rest is

under_all_none : (d : ℕ) (xs : List ℕ) (b : ℕ) → has xs b ≡ false → under_in (all_under d xs) b ≡ None
under_all_none d [] b is = refl
under_all_none d (x ∷ xs) b is = by (x == b) (has xs b) (under_all_none d xs b) is
  where
    by : (k k' : Bool) → (k' ≡ false → under_in (all_under d xs) b ≡ None) → (k || k') ≡ false → cond k (Some d) (under_in (all_under d xs) b) ≡ None
    by true k' rest is = absurd (let y = is in cc)
    by false k' rest is = rest is

-- how often a block lies there
times_both : (xs ys : List Waiting) (b : ℕ) → times b (blocks_of (xs ++ ys)) ≡ times b (blocks_of xs) + times b (blocks_of ys)
times_both [] ys b = nought (times b (blocks_of ys))
  where
    nought : (n : ℕ) → n ≡ 0 + n
    nought n = omega arith
times_both (x ∷ xs) ys b = by (x.block == b) (times b (blocks_of (xs ++ ys))) (times b (blocks_of xs)) (times b (blocks_of ys)) (times_both xs ys b)
  where
    by : (k : Bool) (n i j : ℕ) → n ≡ i + j → cond k (1 + n) n ≡ cond k (1 + i) i + j
    by true n i j rest = omega arith
    by false n i j rest = rest

blocks_under : (d : ℕ) (xs : List ℕ) → blocks_of (all_under d xs) ≡ xs
blocks_under d [] = refl
blocks_under d (x ∷ xs) = ap (λ ys. x ∷ ys) (blocks_under d xs)

pub times_split : (test : Waiting → Bool) (xs : List Waiting) (b : ℕ) → times b (blocks_of (filter test xs)) + times b (blocks_of (filter (λ x. not (test x)) xs)) ≡ times b (blocks_of xs)
times_split test [] b = refl
times_split test (x ∷ xs) b = by (test x) (times_split test xs b)
  where
    first : (k : Bool) (n i j : ℕ) → i + j ≡ n → cond k (1 + i) i + j ≡ cond k (1 + n) n
    first true n i j e = omega arith
    first false n i j e = e

    second : (k : Bool) (n i j : ℕ) → i + j ≡ n → i + cond k (1 + j) j ≡ cond k (1 + n) n
    second true n i j e = omega arith
    second false n i j e = e

    by : (k : Bool) → times b (blocks_of (filter test xs)) + times b (blocks_of (filter (λ y. not (test y)) xs)) ≡ times b (blocks_of xs)
        → times b (blocks_of (cond k (x ∷ (filter test xs)) (filter test xs))) + times b (blocks_of (cond (not k) (x ∷ (filter (λ y. not (test y)) xs)) (filter (λ y. not (test y)) xs))) ≡ cond (x.block == b) (1 + times b (blocks_of xs)) (times b (blocks_of xs))
    by true rest = first (x.block == b) (times b (blocks_of xs)) (times b (blocks_of (filter test xs))) (times b (blocks_of (filter (λ y. not (test y)) xs))) rest
    by false rest = second (x.block == b) (times b (blocks_of xs)) (times b (blocks_of (filter test xs))) (times b (blocks_of (filter (λ y. not (test y)) xs))) rest

-- what stands in a limbo once lies there
pub limbo_counts : (r : ℕ) (xs : List Waiting) (b : ℕ) → times b (blocks_of xs) ≤ 1
    → times b (blocks_of xs) ≤ cond (is_limbo_of r (waits_under r (under_in xs b))) 1 0
limbo_counts r [] b few = omega arith
limbo_counts r (x ∷ xs) b few = by (x.block == b) (times b (blocks_of xs)) (limbo_counts r xs b) few
  where
    by : (k : Bool) (n : ℕ) → (n ≤ 1 → n ≤ cond (is_limbo_of r (waits_under r (under_in xs b))) 1 0) → cond k (1 + n) n ≤ 1
        → cond k (1 + n) n ≤ cond (is_limbo_of r (waits_under r (cond k (Some x.descriptor) (under_in xs b)))) 1 0
    by true n rest few = subst (λ t. 1 + n ≤ cond t 1 0) (sym (self_tested r)) few
    by false n rest few = rest few

-- what lies in limbo under a descriptor that passes the test is free, and else it stays
module _ (r : ℕ) (test : ℕ → Bool) where
  abbrev stays : Waiting → Bool
  stays x = not (test x.descriptor)

  limbo_freed : (d : ℕ) → test d ≡ true → guards.Free r ≡ freed r test (guards.Limbo r d)
  limbo_freed d is = sym (ap (λ k. cond (k && test d) (guards.Free r) (guards.Limbo r d)) (self_tested r) ∙ ap (λ k. cond k (guards.Free r) (guards.Limbo r d)) is)

  limbo_stays : (d : ℕ) → test d ≡ false → guards.Limbo r d ≡ freed r test (guards.Limbo r d)
  limbo_stays d is = sym (ap (λ k. cond (k && test d) (guards.Free r) (guards.Limbo r d)) (self_tested r) ∙ ap (λ k. cond k (guards.Free r) (guards.Limbo r d)) is)

  freed_at : (xs : List Waiting) (b : ℕ) → times b (blocks_of xs) ≤ 1 → waits_under r (under_in (filter stays xs) b) ≡ freed r test (waits_under r (under_in xs b))
  freed_at [] b few = refl
  freed_at (x ∷ xs) b few = by (test x.descriptor) refl (λ h. freed_at xs b h)
    where
      less : (k : Bool) (n : ℕ) → cond k (1 + n) n ≤ 1 → n ≤ 1
      less true n h = omega arith
      less false n h = h

      none_left : times b (blocks_of xs) ≡ 0 → under_in (filter stays xs) b ≡ None
      none_left none = under_none (filter stays xs) b (let parts = times_split stays xs b in omega arith)

      taken : (k : Bool) → waits_under r (under_in (filter stays xs) b) ≡ freed r test (waits_under r (under_in xs b)) → test x.descriptor ≡ true → cond k (1 + times b (blocks_of xs)) (times b (blocks_of xs)) ≤ 1
          → waits_under r (under_in (filter stays xs) b) ≡ freed r test (waits_under r (cond k (Some x.descriptor) (under_in xs b)))
      taken true rest is h = ap (waits_under r) (none_left (omega arith)) ∙ limbo_freed x.descriptor is
      taken false rest is h = rest

      left : (k : Bool) → waits_under r (under_in (filter stays xs) b) ≡ freed r test (waits_under r (under_in xs b)) → test x.descriptor ≡ false
          → waits_under r (cond k (Some x.descriptor) (under_in (filter stays xs) b)) ≡ freed r test (waits_under r (cond k (Some x.descriptor) (under_in xs b)))
      left true rest is = limbo_stays x.descriptor is
      left false rest is = rest

      by : (t : Bool) → test x.descriptor ≡ t → (times b (blocks_of xs) ≤ 1 → waits_under r (under_in (filter stays xs) b) ≡ freed r test (waits_under r (under_in xs b)))
          → waits_under r (under_in (cond (not t) (x ∷ filter stays xs) (filter stays xs)) b) ≡ freed r test (waits_under r (under_in (x ∷ xs) b))
      by true is rest = taken (x.block == b) (rest (less (x.block == b) (times b (blocks_of xs)) few)) is few
      by false is rest = left (x.block == b) (rest (less (x.block == b) (times b (blocks_of xs)) few)) is

  pub freed_block : (won : List ℕ) (xs : List Waiting) (b : ℕ) → times b (blocks_of xs) ≤ 1 → at r won (filter stays xs) b ≡ freed r test (at r won xs b)
  freed_block won xs b few = by (has won b)
    where
      by : (k : Bool) → cond k (guards.Live r) (waits_under r (under_in (filter stays xs) b)) ≡ freed r test (cond k (guards.Live r) (waits_under r (under_in xs b)))
      by true = refl
      by false = freed_at xs b few

  -- another runner's stays
  pub freed_else : (j : ℕ) (won : List ℕ) (xs : List Waiting) (b : ℕ) → j ≢ r → at j won xs b ≡ freed r test (at j won xs b)
  freed_else j won xs b ne = by (has won b) (under_in xs b)
    where
      by : (k : Bool) (o : Option ℕ) → cond k (guards.Live j) (waits_under j o) ≡ freed r test (cond k (guards.Live j) (waits_under j o))
      by true o = refl
      by false None = refl
      by false (Some d) = sym (ap (λ k. cond (k && test d) (guards.Free r) (guards.Limbo j d)) (other_tested j r ne))

  pub freed_times : (free : List ℕ) (xs : List Waiting) (b n : ℕ)
      → times b (free ++ blocks_of (filter (λ x. test x.descriptor) xs)) + (times b (blocks_of (filter stays xs)) + n) ≡ times b free + (times b (blocks_of xs) + n)
  freed_times free xs b n =
      let both = times_append b free (blocks_of (filter (λ x. test x.descriptor) xs)) in
      let parts = times_split (λ x. test x.descriptor) xs b in omega arith

-- what a run linked comes to lie in limbo at its end
module _ (r d : ℕ) where
  pub retired_own : retired r d (guards.Live r) ≡ guards.Limbo r d
  retired_own = ap (λ k. cond k (guards.Limbo r d) (guards.Live r)) (self_tested r)

  pub retired_block : (won : List ℕ) (xs : List Waiting) (b : ℕ) → times b (blocks_of xs) + times b won ≤ 1 → at r [] (xs ++ all_under d won) b ≡ retired r d (at r won xs b)
  retired_block won xs b few = by (has won b) refl
    where
      waiting : (o : Option ℕ) → waits_under r o ≡ retired r d (waits_under r o)
      waiting None = refl
      waiting (Some e) = refl

      by : (k : Bool) → has won b ≡ k → waits_under r (under_in (xs ++ all_under d won) b) ≡ retired r d (cond k (guards.Live r) (waits_under r (under_in xs b)))
      by true is =
          let one = times_has won b is in
          ap (waits_under r) (under_behind xs (all_under d won) b (omega arith) ∙ under_all d won b is) ∙ sym retired_own
      by false is = ap (waits_under r) (under_before xs (all_under d won) b (under_all_none d won b is)) ∙ waiting (under_in xs b)

  pub retired_else : (j : ℕ) (won : List ℕ) (xs : List Waiting) (b : ℕ) → j ≢ r → at j won xs b ≡ retired r d (at j won xs b)
  retired_else j won xs b ne = by (has won b) (under_in xs b)
    where
      by : (k : Bool) (o : Option ℕ) → cond k (guards.Live j) (waits_under j o) ≡ retired r d (cond k (guards.Live j) (waits_under j o))
      by true o = sym (ap (λ k. cond k (guards.Limbo r d) (guards.Live j)) (other_tested j r ne))
      by false None = refl
      by false (Some e) = refl

  pub retired_times : (free : List ℕ) (xs : List Waiting) (won : List ℕ) (b : ℕ)
      → times b free + (times b (blocks_of (xs ++ all_under d won)) + (0 + 0)) ≡ times b free + (times b (blocks_of xs) + (times b won + 0))
  retired_times free xs won b =
      let both = times_both xs (all_under d won) b in
      let those = ap (times b) (blocks_under d won) in omega arith

-- a block is linked
same_sides : (i c : ℕ) → (i == c) ≡ (c == i)
same_sides i c = grind (arith, nat_tests)

or_none : (b : Bool) → (b || false) ≡ b
or_none true = refl
or_none false = refl

pub linked_block : (r c : ℕ) (won : List ℕ) (xs : List Waiting) (b : ℕ) → at r (won ++ c ∷ []) xs b ≡ cond (b == c) (guards.Live r) (at r won xs b)
linked_block r c won xs b =
    ap (λ k. cond k (guards.Live r) (waits_under r (under_in xs b))) (append_has won (c ∷ []) b ∙ ap (λ k. has won b || k) (or_none (c == b) ∙ sym (same_sides b c)))
    ∙ by (has won b) (b == c)
  where
    by : (k k' : Bool) → cond (k || k') (guards.Live r) (waits_under r (under_in xs b)) ≡ cond k' (guards.Live r) (cond k (guards.Live r) (waits_under r (under_in xs b)))
    by true true = refl
    by true false = refl
    by false true = refl
    by false false = refl

pub added_times : (c b : ℕ) (xs : List ℕ) → times b (xs ++ c ∷ []) ≡ times b xs + times_held (Some c) b
added_times c b xs = times_append b xs (c ∷ [])

-- one in the hand is in no other list, so it counts as free
pub held_free : (r c : ℕ) (won : List ℕ) (xs : List Waiting) → times c (blocks_of xs) ≡ 0 → times c won ≡ 0 → at r won xs c ≡ guards.Free r
held_free r c won xs none unlinked = by (has won c) refl
  where
    by : (k : Bool) → has won c ≡ k → cond k (guards.Live r) (waits_under r (under_in xs c)) ≡ guards.Free r
    by true is = absurd (let one = times_has won c is in omega arith)
    by false is = ap (waits_under r) (under_none xs c none)

-- a block is taken out of the free list
pub taken_times : (c b : ℕ) (free : List ℕ) → times c free ≡ 1 → times b (without free c) + times_held (Some c) b ≡ times b free
taken_times c b free one = ap (λ n. n + cond (c == b) 1 0) (times_filter (λ y. not (y == c)) free b) ∙ by (c == b) (b == c) (same_sides b c) (λ same. ap (λ i. times i free) (sym (same_number c b same)) ∙ one)
  where
    by : (k k' : Bool) → k' ≡ k → (k ≡ true → times b free ≡ 1) → cond (not k') (times b free) 0 + cond k 1 0 ≡ times b free
    by true true e here = sym (here refl)
    by false false e here = omega arith
    by true false e here = absurd (let y = e in cc)
    by false true e here = absurd (let y = e in cc)
