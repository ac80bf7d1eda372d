-- What one event leaves of a section.
use Rattle.std.specs.Prelude.{ℕ, ◌<◌, ◌≤◌, ◌≡◌, ◌≢◌, true}
use Rattle.agreement_core.specs.State.{Section, AgreementState}
use Rattle.agreement_core.specs.Sound.{IsOf}

-- the section is the same, its agreed words stand, its runs have come as far or further, and done it stays done
pub record GoesOn (s s' : Section) : Type 0 where
  pub lock : s'.lock ≡ s.lock
  pub word : s'.word ≡ s.word
  pub request : s'.request ≡ s.request
  pub code : s'.code ≡ s.code
  pub slot : s'.slot ≡ s.slot
  pub log : (k : ℕ) → 0 < s.log k → s'.log k ≡ s.log k
  pub edge : s.edge ≤ s'.edge
  pub done : s.done ≢ 0 → s'.done ≡ s.done

-- what is kept of a run that came to its end stands for good
pub record RecordsStand (w w' : AgreementState) : Type 0 where
  pub more : (r : ℕ) → w.finishes r ≤ w'.finishes r
  pub same : (r i : ℕ) → i < w.finishes r → w'.finished r i ≡ w.finished r i

-- each section goes on whose descriptor isn't freed
abbrev pub SectionsGoOn : AgreementState → AgreementState → Type 0
SectionsGoOn w w' = (d : ℕ) → w.used d ≡ true → GoesOn (w.section d) (w'.section d)

-- a stamp word and a reply word that isn't 0 stands
pub record EntriesStand (w w' : AgreementState) : Type 0 where
  pub stamp : (q : ℕ) → 0 < w.shared.stamp q → w'.shared.stamp q ≡ w.shared.stamp q
  pub reply : (q : ℕ) → 0 < w.shared.reply q → w'.shared.reply q ≡ w.shared.reply q

-- once a section is done, its log and how far its runs have come stand
pub record DoneStand (w w' : AgreementState) : Type 0 where
  pub edge : (d : ℕ) → w.used d ≡ true → (w.section d).done ≢ 0 → (w'.section d).edge ≡ (w.section d).edge
  pub log : (d k : ℕ) → w.used d ≡ true → (w.section d).done ≢ 0 → (w'.section d).log k ≡ (w.section d).log k

-- a section of which a run had come to its end before the event isn't one that the event publishes
pub record EndsAreOld (w w' : AgreementState) : Type 0 where
  pub used : (d r i : ℕ) → i < w.finishes r → w'.used d ≡ true → IsOf (w.finished r i) (w'.section d) → w.used d ≡ true
  pub same : (d r i : ℕ) → i < w.finishes r → w'.used d ≡ true → IsOf (w.finished r i) (w'.section d)
      → IsOf (w.finished r i) (w.section d)
