-- What a guard keeps: nothing that somebody is sure of is given out again.
use Rattle.std.specs.Prelude.{ℕ, ◌≤◌, ◌≡◌, ◌≢◌, ◌⊎◌, true, false, Some}
use Rattle.guard_core.specs.State.{Counts, Free, Live, Limbo, GuardState, IsSureOf, most_linked}
use Rattle.guard_core.specs.Update.{has, count, times}
use Rattle.guard_core.specs.Events.{Publish, Link, Enabled}
use Rattle.guard_core.specs.Sound.{is_under}

-- a block of this descriptor's latest publication is kept: it is live in a run of the descriptor that is in
-- progress, or in somebody's limbo under the descriptor
abbrev pub IsKeptUnder : GuardState → ℕ → ℕ → Type 0
IsKeptUnder w d b = ((q : ℕ) × (w.block b ≡ Live q) × (w.run q ≡ Some d)) ⊎ ((q : ℕ) × (w.block b ≡ Limbo q d))

pub record HeldAreSafe (w : GuardState) : Type 0 where
  -- a descriptor that somebody is sure of is published, or in a limbo: it is in no free list, and nobody gives it out
  pub kept : (r d : ℕ) → IsSureOf w r d
      → ((q : ℕ) × (w.descriptor d ≡ Live q)) ⊎ ((q : ℕ) × (w.descriptor d ≡ Limbo q d))
  pub unfree : (r d q : ℕ) → IsSureOf w r d → w.descriptor d ≢ Free q
  -- each block that is linked in it is kept: it is in no free list and in no hand
  pub held : (r d b : ℕ) → IsSureOf w r d → has (w.linked d) b ≡ true → IsKeptUnder w d b
  pub held_unfree : (r d b q : ℕ) → IsSureOf w r d → has (w.linked d) b ≡ true → w.block b ≢ Free q
  -- and it is linked in no other descriptor that somebody is sure of
  pub apart : (r d r' d' b : ℕ) → IsSureOf w r d → IsSureOf w r' d' → has (w.linked d) b ≡ true
      → has (w.linked d') b ≡ true → d ≡ d'
  -- a block is linked in a publication once
  pub once : (d b : ℕ) → times b (w.linked d) ≤ 1
  -- who runs a section is sure of its descriptor, and so is who published one, until it retires it
  pub running : (r d : ℕ) → w.run r ≡ Some d → IsSureOf w r d
  pub owner : (r d : ℕ) → w.descriptor d ≡ Live r → IsSureOf w r d
  -- as long as no run of a published section came to its end, each block that is linked in it is live, by the
  -- one run that linked it
  pub unended : (q d b : ℕ) → w.descriptor d ≡ Live q → w.over d ≡ false → has (w.linked d) b ≡ true
      → (p : ℕ) × (w.block b ≡ Live p) × (w.run p ≡ Some d)
  -- where a linked block is in limbo, a run of that section came to its end
  pub ended : (b r d : ℕ) → w.block b ≡ Limbo r d → has (w.linked d) b ≡ true → w.over d ≡ true

-- an event takes something out of a limbo only where nobody holds it: nobody is sure of the descriptor, and the block
-- is linked in none that somebody is sure of
pub record LeavesUnheld (w w' : GuardState) : Type 0 where
  pub descriptor : (d r e p : ℕ) → w.descriptor d ≡ Limbo r e → w'.descriptor d ≢ Limbo r e → IsSureOf w p d → ⊥
  pub block : (b r e p d : ℕ) → w.block b ≡ Limbo r e → w'.block b ≢ Limbo r e → IsSureOf w p d
      → has (w.linked d) b ≡ false

module _ (c : Counts) where
  -- nobody may publish a descriptor of which somebody is sure, nor link a block that is linked in one
  pub record GivenToNobody (w : GuardState) : Type 0 where
    pub descriptor : (r d q : ℕ) → IsSureOf w r d → Enabled c w (Publish q d) → ⊥
    pub block : (r d b q e : ℕ) → IsSureOf w r d → has (w.linked d) b ≡ true → Enabled c w (Link q e b) → ⊥

  -- each runner's limbo has at most eight blocks of each descriptor
  abbrev pub LimboIsSmall : GuardState → Type 0
  LimboIsSmall w = (r d : ℕ) → count (λ b. is_under r d (w.block b)) c.blocks ≤ most_linked
