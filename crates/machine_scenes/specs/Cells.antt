-- What a step leaves of the links in the cells.
use Rattle.std.specs.Prelude.{ℕ, ◌<◌, ◌≡◌, ◌≢◌, true}
use Rattle.agreement_core.specs.section_lines.specs.structure_laws.specs.Scene.{Free, Retired, Scene}
use Rattle.agreement_core.specs.section_lines.specs.structure_laws.specs.Meaning.{Meaning}
use Rattle.agreement_core.specs.section_lines.specs.structure_laws.specs.Cells.{cell_of, IsCellOf}

-- no place becomes a link or stops to be one but in a free slot, and the links of retired slots stand
pub record LeavesLinks (m : Meaning) (s : Scene) (cells : ℕ → ℕ) : Type 0 where
  pub steady : (q : ℕ) → ((t : ℕ) → IsCellOf m t q → s.status t ≢ Free) → m.is_link cells q ≡ m.is_link s.cells q
  pub retired : (u z i : ℕ) → i < 5 → s.status u ≡ Retired z → m.is_link cells (cell_of m u i) ≡ true
      → cells (cell_of m u i) ≡ s.cells (cell_of m u i)
