-- Each descriptor and each block belongs to one runner for good, and goes from free to live, into limbo, and back.
use Rattle.std.specs.Prelude.{ℕ, ◌≡◌, ◌⊎◌, Some}
use Rattle.guard_core.specs.State.{Location, Free, Live, Limbo, GuardState}

-- the runner to whose lists it belongs
abbrev pub owner_of : Location → ℕ
owner_of (Free q) = q
owner_of (Live q) = q
owner_of (Limbo q d) = q

-- nothing changes hands
pub record StaysWithOwner (w w' : GuardState) : Type 0 where
  pub descriptor : (d : ℕ) → owner_of (w'.descriptor d) ≡ owner_of (w.descriptor d)
  pub block : (b : ℕ) → owner_of (w'.block b) ≡ owner_of (w.block b)

-- where an event may have moved what is now in this place: free from limbo, live from free, into limbo from live; a
-- block goes into limbo under the descriptor that its runner ran
pub record GoesRound (w w' : GuardState) : Type 0 where
  pub free : (d r : ℕ) → w'.descriptor d ≡ Free r → (w.descriptor d ≡ Free r) ⊎ (w.descriptor d ≡ Limbo r d)
  pub live : (d r : ℕ) → w'.descriptor d ≡ Live r → (w.descriptor d ≡ Live r) ⊎ (w.descriptor d ≡ Free r)
  pub limbo : (d r e : ℕ) → w'.descriptor d ≡ Limbo r e → (w.descriptor d ≡ Limbo r e) ⊎ (w.descriptor d ≡ Live r)
  pub free_block : (b r : ℕ) → w'.block b ≡ Free r → (w.block b ≡ Free r) ⊎ ((d : ℕ) × (w.block b ≡ Limbo r d))
  pub live_block : (b r : ℕ) → w'.block b ≡ Live r → (w.block b ≡ Live r) ⊎ (w.block b ≡ Free r)
  pub limbo_block : (b r d : ℕ) → w'.block b ≡ Limbo r d
      → (w.block b ≡ Limbo r d) ⊎ ((w.block b ≡ Live r) × (w.run r ≡ Some d))
