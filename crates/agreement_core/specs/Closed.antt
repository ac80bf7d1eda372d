-- What an event adds to the history of the sections that are open, and of no others.
use Rattle.std.specs.Prelude.{ℕ, suc, ◌≤◌, ◌≡◌, ◌≢◌, ◌⊎◌, true, false}
use Rattle.agreement_core.specs.State.{AgreementState, IsOpen}
use Rattle.agreement_core.specs.History.{History}

-- no open section has this number: its section is done, or its descriptor is free again, or it
-- isn't published yet
abbrev pub IsClosed : AgreementState → History → ℕ → Type 0
IsClosed w h n = (d : ℕ) → IsOpen w d → h.section d ≢ n

-- an event adds nothing to what was changed by a section that isn't open
pub record ClosedStay (w w' : AgreementState) (h h' : History) : Type 0 where
  pub moved : (n i : ℕ) → IsClosed w h n → h'.moved n i ≡ h.moved n i
  pub stamped : (n : ℕ) → IsClosed w h n → h'.stamped n ≡ h.stamped n
  pub replied : (n : ℕ) → IsClosed w h n → h'.replied n ≡ h.replied n
  -- and a published section that isn't open is never open again
  pub closed : (n : ℕ) → n ≤ h.published → IsClosed w h n → IsClosed w' h' n

-- an event publishes no section, or one, under the next number; the sections of the other used
-- descriptors keep their numbers
pub record NumbersStay (w w' : AgreementState) (h h' : History) : Type 0 where
  pub next : (h'.published ≡ h.published)
      ⊎ ((h'.published ≡ suc h.published) × ((d : ℕ) × (w.used d ≡ false) × (w'.used d ≡ true)
      × (h'.section d ≡ suc h.published)))
  pub same : (d : ℕ) → w.used d ≡ true → h'.section d ≡ h.section d
