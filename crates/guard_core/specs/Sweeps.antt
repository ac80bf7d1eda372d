-- A sweep frees exactly what no guard names, and leaves enough free.
use Rattle.std.specs.Prelude.{ℕ, suc, ◌+◌, ◌*◌, ◌<◌, ◌≤◌, ◌≡◌, ◌≢◌, ◌⊎◌, ◌==◌, Bool, true, false, List, [], ◌∷◌, Some}
use Rattle.std.specs.Prelude.{None}
use Rattle.guard_core.specs.State.{Counts, Location, Free, Live, Limbo, GuardState, IsSureOf, most_linked}
use Rattle.guard_core.specs.Events.{Event, LoadLast, Enabled, with_next, after}
use Rattle.guard_core.specs.Schedules.{IsFirst, first_state, AllEnabled, after_all}
use Rattle.guard_core.specs.Update.{has, count}
use Rattle.guard_core.specs.Sound.{named}
use Rattle.guard_core.specs.Owners.{owner_of}

-- what the end of this runner's sweep does. `with_next w r` is the guard words that it read
pub record SweepsExactly (w : GuardState) (r : ℕ) : Type 0 where
  -- what lies in its own limbo under a descriptor that a word names stays, and all else there is free
  pub descriptor_freed : (d e : ℕ) → w.descriptor d ≡ Limbo r e → has (with_next w r) (suc e) ≡ false
      → (after w (LoadLast r)).descriptor d ≡ Free r
  pub descriptor_stays : (d e : ℕ) → w.descriptor d ≡ Limbo r e → has (with_next w r) (suc e) ≡ true
      → (after w (LoadLast r)).descriptor d ≡ Limbo r e
  pub block_freed : (b e : ℕ) → w.block b ≡ Limbo r e → has (with_next w r) (suc e) ≡ false
      → (after w (LoadLast r)).block b ≡ Free r
  pub block_stays : (b e : ℕ) → w.block b ≡ Limbo r e → has (with_next w r) (suc e) ≡ true
      → (after w (LoadLast r)).block b ≡ Limbo r e
  -- nothing else moves
  pub descriptor_kept : (d : ℕ) → ((e : ℕ) → w.descriptor d ≢ Limbo r e)
      → (after w (LoadLast r)).descriptor d ≡ w.descriptor d
  pub block_kept : (b : ℕ) → ((e : ℕ) → w.block b ≢ Limbo r e) → (after w (LoadLast r)).block b ≡ w.block b
  -- nobody is sure of a descriptor that it frees, and a block that it frees is linked in none that anybody is sure of
  pub unheld : (d p : ℕ) → (after w (LoadLast r)).descriptor d ≢ w.descriptor d → IsSureOf w p d → ⊥
  pub unlinked : (b p d : ℕ) → (after w (LoadLast r)).block b ≢ w.block b → IsSureOf w p d → has (w.linked d) b ≡ false

-- some guard word names this descriptor
abbrev pub IsNamed : GuardState → ℕ → Type 0
IsNamed w d = (p : ℕ) × (w.guard p ≡ Some d)

-- one does so in this state, or in one that these events lead to
abbrev pub IsNamedAlong : GuardState → List Event → ℕ → Type 0
IsNamedAlong w [] d = IsNamed w d
IsNamedAlong w (e ∷ es) d = IsNamed w d ⊎ IsNamedAlong (after w e) es d

-- all that lies in this runner's limbo under this descriptor is free at the end of the runner's sweep
pub record FreesUnder (w : GuardState) (r d : ℕ) : Type 0 where
  pub descriptors : (e : ℕ) → w.descriptor e ≡ Limbo r d → (after w (LoadLast r)).descriptor e ≡ Free r
  pub blocks : (b : ℕ) → w.block b ≡ Limbo r d → (after w (LoadLast r)).block b ≡ Free r

-- a sweep frees what lies under a descriptor that no guard word names from the beginning of the sweep to its end
abbrev pub FreesUnnamed : Counts → Type 0
FreesUnnamed c = (w : GuardState) (es : List Event) (r d : ℕ) → w.looked r ≡ [] → AllEnabled c w es
    → Enabled c (after_all w es) (LoadLast r) → (IsNamedAlong w es d → ⊥) → FreesUnder (after_all w es) r d

-- it lies in this runner's limbo
abbrev pub is_limbo_of : ℕ → Location → Bool
is_limbo_of r (Limbo q d) = q == r
is_limbo_of r (Free q) = false
is_limbo_of r (Live q) = false

-- it is in this runner's free list or hand
abbrev pub is_free_of : ℕ → Location → Bool
is_free_of r (Free q) = q == r
is_free_of r (Live q) = false
is_free_of r (Limbo q d) = false

-- it belongs to this runner
abbrev pub is_own : ℕ → Location → Bool
is_own r x = owner_of x == r

module _ (c : Counts) where
  -- how many descriptors are at a place that passes the test
  abbrev pub descriptors_that : (Location → Bool) → GuardState → ℕ
  descriptors_that f w = count (λ d. f (w.descriptor d)) c.descriptors

  -- the same of blocks
  abbrev pub blocks_that : (Location → Bool) → GuardState → ℕ
  blocks_that f w = count (λ b. f (w.block b)) c.blocks

  -- at the end of a sweep each other guard word keeps at most one own descriptor and eight own blocks in limbo;
  -- all the others are free
  pub record LeavesEnough (w : GuardState) (r : ℕ) : Type 0 where
    -- of the guard words that it read, its own names nothing, and the keeper's, the last one, may be empty too
    pub words : named (with_next w r) ≤ c.runners
    pub words_of_workers : r < c.runners → w.guard c.runners ≡ None → named (with_next w r) < c.runners
    pub few_descriptors : descriptors_that (is_limbo_of r) (after w (LoadLast r)) ≤ named (with_next w r)
    pub few_blocks : blocks_that (is_limbo_of r) (after w (LoadLast r)) ≤ most_linked * named (with_next w r)
    pub free_descriptors : descriptors_that (is_own r) w
        ≤ descriptors_that (is_free_of r) (after w (LoadLast r)) + named (with_next w r)
    pub free_blocks : blocks_that (is_own r) w
        ≤ blocks_that (is_free_of r) (after w (LoadLast r)) + most_linked * named (with_next w r)

  -- this runner has so many descriptors, eight blocks for each of them, and eight more
  pub record Owns (w : GuardState) (r sections : ℕ) : Type 0 where
    pub descriptors : descriptors_that (is_own r) w ≡ sections
    pub blocks : blocks_that (is_own r) w ≡ 8 * sections + 8

  -- it has a free descriptor, and the sixteen free blocks that two runs may link
  pub record HasEnough (w : GuardState) (r : ℕ) : Type 0 where
    pub descriptor : 1 ≤ descriptors_that (is_free_of r) w
    pub blocks : 16 ≤ blocks_that (is_free_of r) w

  -- so many descriptors are more than there are other guard words; the keeper's doesn't count for a worker while it
  -- is empty
  abbrev pub AreMore : GuardState → ℕ → ℕ → Type 0
  AreMore w r sections = (c.runners < sections)
      ⊎ ((r < c.runners) × (w.guard c.runners ≡ None) × (c.runners ≤ sections))

  -- a runner with more descriptors than there are other guard words has enough after each sweep, whatever the
  -- others do, and wherever one of them stops
  abbrev pub IsNeverShort : Type 0
  IsNeverShort = (descriptor block : ℕ → Location) (es : List Event) (r sections : ℕ) → IsFirst descriptor block
      → r ≤ c.runners → Owns (first_state descriptor block) r sections
      → AllEnabled c (first_state descriptor block) es
      → Enabled c (after_all (first_state descriptor block) es) (LoadLast r)
      → AreMore (after_all (first_state descriptor block) es) r sections
      → HasEnough (after (after_all (first_state descriptor block) es) (LoadLast r)) r
