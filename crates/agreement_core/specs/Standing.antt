-- What stands in the cells and the locks of a section.
use Rattle.std.specs.Prelude.{ℕ, suc, ◌<◌, ◌≡◌, ◌≢◌, ◌⊎◌, true}
use Rattle.section_lines.specs.structure_laws.specs.body_terms.specs.Word.{value_of, version_of, held_word}
use Rattle.section_lines.specs.structure_laws.specs.body_terms.specs.declared.micro.Source.{Source}
use Rattle.section_lines.specs.structure_laws.specs.body_terms.specs.declared.micro.Micro.TheVariants.{Commit, NestedHold, OutcomeCommit, ExchangeCell}
use Rattle.agreement_core.specs.State.{CellRules, Section, AgreementState, IsOpen}
use Rattle.agreement_core.specs.Checks.{is_stop, stored_word}
use Rattle.agreement_core.specs.Sections.{HoldsWith}

-- the section has agreed on the word at this place of its log, which its line loads from this cell
pub record HasLoaded (s : Section) (place log : ℕ) : Type 0 where
  pub at : ℕ
  pub passed : at < s.edge
  pub step : s.code at ≡ Commit place log

-- the section has stored this word to this cell, where the other one was agreed
pub record HasStored (s : Section) (place agreed word : ℕ) : Type 0 where
  pub at : ℕ
  pub log : ℕ
  pub value : Source
  pub passed : at < s.edge
  pub step : s.code at ≡ ExchangeCell place log value
  pub old : agreed ≡ s.log log
  pub new : word ≡ stored_word s.log log value

-- the section has agreed on this outcome of its Take of this lock, which is expected to be free with this word
pub record HasOutcome (s : Section) (place free outcome : ℕ) : Type 0 where
  pub at : ℕ
  pub log : ℕ
  pub passed : suc (suc at) < s.edge
  pub hold : s.code at ≡ NestedHold place free
  pub commit : s.code (suc (suc at)) ≡ OutcomeCommit place log
  pub agreed : outcome ≡ s.log log

-- a cell that a section has loaded holds the agreed word, or what the section has stored there, until it is done
pub record CellsStand (w : AgreementState) (d : ℕ) : Type 0 where
  pub loaded : IsOpen w d → (p k : ℕ) → HasLoaded (w.section d) p k
      → ((agreed word : ℕ) → HasStored (w.section d) p agreed word → ⊥)
      → w.shared.cells p ≡ (w.section d).log k
  pub stored : IsOpen w d → (p agreed word : ℕ) → HasStored (w.section d) p agreed word → w.shared.cells p ≡ word
  -- a stored word stands, or a later version, from then on
  pub lasting : (p agreed word : ℕ) → HasStored (w.section d) p agreed word
      → (w.shared.cells p ≡ word) ⊎ (version_of word < version_of (w.shared.cells p))

module _ (c : CellRules) where
  -- locks name sections that are published and not retired
  pub record LocksStand (w : AgreementState) : Type 0 where
    pub published : (p d : ℕ) → c.is_lock p ≡ true → value_of (w.shared.cells p) ≡ suc d → w.used d ≡ true
    pub live : (p d : ℕ) → c.is_lock p ≡ true → value_of (w.shared.cells p) ≡ suc d → w.live d ≡ true
    -- with the held word of the outer lock, or of a Take
    pub held : (p d : ℕ) → c.is_lock p ≡ true → value_of (w.shared.cells p) ≡ suc d
        → HoldsWith d (w.section d) p (w.shared.cells p)
    -- until a section is done it holds its outer lock
    pub outer : (d : ℕ) → IsOpen w d → w.shared.cells (w.section d).lock ≡ held_word d (w.section d).word

  -- a Take's outcome
  pub record TakesStand (w : AgreementState) (d : ℕ) : Type 0 where
    -- once it is agreed the lock is past the expected word, so that no run of the section takes it later
    pub past : (p free outcome : ℕ) → HasOutcome (w.section d) p free outcome
        → version_of free < version_of (w.shared.cells p)
    -- a lock that was agreed to be held has that word until the section is done
    pub held : IsOpen w d → (p free outcome : ℕ) → HasOutcome (w.section d) p free outcome → outcome ≡ held_word d free
        → w.shared.cells p ≡ outcome
    -- a lock whose outcome is another doesn't name the section
    pub refused : (p free outcome : ℕ) → HasOutcome (w.section d) p free outcome → outcome ≢ held_word d free
        → value_of (w.shared.cells p) ≢ suc d

  -- a section is done only after each exchange of its line up to where its runs stop
  pub record IsDoneLate (w : AgreementState) (d : ℕ) : Type 0 where
    pub stops : is_stop c d ((w.section d).log) ((w.section d).code ((w.section d).edge)) ≡ true
    pub stored : (p agreed word : ℕ) → HasStored (w.section d) p agreed word
        → version_of agreed < version_of (w.shared.cells p)
