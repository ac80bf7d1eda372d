-- Versions: what one event does to them, and what was read.
use Rattle.std.specs.Prelude.{ℕ, suc, ◌≤◌, ◌≡◌, ◌⊎◌, true}
use Rattle.section_lines.specs.structure_laws.specs.body_terms.specs.Word.{version_of}
use Rattle.agreement_core.specs.State.{AgreementState}

-- each cell is the same, or its version has risen by one
abbrev pub RiseByOne : AgreementState → AgreementState → Type 0
RiseByOne w w' =
    (p : ℕ) → (w'.shared.cells p ≡ w.shared.cells p)
    ⊎ (version_of (w'.shared.cells p) ≡ suc (version_of (w.shared.cells p)))

-- no word that was read has a later version than its cell
abbrev pub IsNotFuture : AgreementState → Type 0
IsNotFuture w = (p word : ℕ) → w.shared.seen p word ≡ true → version_of word ≤ version_of (w.shared.cells p)
