-- The invariant of guards.
use Rattle.std.specs.Prelude.{ℕ, suc, ◌+◌, ◌≤◌, ◌<◌, ◌≡◌, ◌≢◌, ◌==◌, ◌&&◌, nat_lt, cond}
use Rattle.std.specs.Prelude.{Bool, true, false, List, [], ◌∷◌, length, Some, None}
use Rattle.guard_core.specs.State.{Counts, Location, Free, Live, Limbo, GuardState, IsSureOf, most_linked}
use Rattle.guard_core.specs.Update.{has, count, times}

-- it lies in this runner's limbo under this descriptor
abbrev pub is_under : ℕ → ℕ → Location → Bool
is_under r d (Limbo q e) = q == r && e == d
is_under r d (Free q) = false
is_under r d (Live q) = false

-- how many of these guard words name a descriptor
abbrev pub named : List ℕ → ℕ
named [] = 0
named (x ∷ xs) = cond (x == 0) (named xs) (suc (named xs))

module _ (c : Counts) where
  -- what holds after every list of enabled events
  pub record IsSound (w : GuardState) : Type 0 where
    -- a guard word that names something is that of an entered runner with a number up to the keeper's
    pub idle : (r : ℕ) → w.entered r ≡ false → w.guard r ≡ None
    pub numbered : (r d : ℕ) → w.guard r ≡ Some d → r ≤ c.runners
    -- who runs a section is sure of its descriptor
    pub running : (r d : ℕ) → w.run r ≡ Some d → IsSureOf w r d
    -- a descriptor that somebody is sure of is in no free list
    pub kept : (r d q : ℕ) → IsSureOf w r d → w.descriptor d ≢ Free q
    -- who published a descriptor is sure of it as long as it is live
    pub owner : (r d : ℕ) → w.descriptor d ≡ Live r → IsSureOf w r d
    -- a retired descriptor lies in limbo under itself, and its section is over
    pub own : (r d e : ℕ) → w.descriptor d ≡ Limbo r e → e ≡ d
    pub ended_own : (r d e : ℕ) → w.descriptor d ≡ Limbo r e → w.over d ≡ true
    -- of a descriptor that somebody is sure of, each linked block is live in a run of it, or in limbo under it
    pub held : (r d b q : ℕ) → IsSureOf w r d → has (w.linked d) b ≡ true → w.block b ≢ Free q
    pub held_live : (r d b q : ℕ) → IsSureOf w r d → has (w.linked d) b ≡ true → w.block b ≡ Live q → w.run q ≡ Some d
    pub held_limbo : (r d b q e : ℕ) → IsSureOf w r d → has (w.linked d) b ≡ true → w.block b ≡ Limbo q e → e ≡ d
    -- a live block is linked by a run in progress, in the descriptor that it runs
    pub winner : (b r : ℕ) → w.block b ≡ Live r → w.run r ≢ None
    pub won : (b r d : ℕ) → w.block b ≡ Live r → w.run r ≡ Some d → has (w.linked d) b ≡ true
    -- where a linked block of the latest publication is in limbo, that section is over
    pub ended : (b r d : ℕ) → w.block b ≡ Limbo r d → has (w.linked d) b ≡ true → w.over d ≡ true
    -- what lies in limbo under the descriptor that its runner is sure of is of the latest publication
    pub fresh : (b r d : ℕ) → w.block b ≡ Limbo r d → IsSureOf w r d → has (w.linked d) b ≡ true
    -- who is entered isn't in a sweep. Where no word that a sweep has read so far names a descriptor, of the runners
    -- read so far nobody is sure of it: if it lies in the sweeper's limbo itself, and if a block lies there under it
    -- that is linked in its latest publication
    pub sweeping : (r : ℕ) → w.entered r ≡ true → w.looked r ≡ []
    pub looked_most : (r : ℕ) → length (w.looked r) ≤ c.runners
    pub swept : (r p d : ℕ) → p < length (w.looked r) → has (w.looked r) (suc d) ≡ false → IsSureOf w p d
        → w.descriptor d ≢ Limbo r d
    pub swept_block : (r p d b : ℕ) → p < length (w.looked r) → has (w.looked r) (suc d) ≡ false → IsSureOf w p d
        → w.block b ≡ Limbo r d → has (w.linked d) b ≡ false
    -- a sweeper's own word names nothing
    pub others : (r : ℕ) → named (w.looked r) + cond (nat_lt r (length (w.looked r))) 1 0 ≤ length (w.looked r)
    -- a block is linked in a publication once
    pub once : (d b : ℕ) → times b (w.linked d) ≤ 1
    -- at most eight blocks are linked in a publication, and at most eight lie in a limbo under one descriptor
    pub few : (d : ℕ) → length (w.linked d) ≤ most_linked
    pub eight : (r d : ℕ) → count (λ b. is_under r d (w.block b)) c.blocks ≤ most_linked
