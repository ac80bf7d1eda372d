-- The laws of a structure.
use Rattle.std.specs.Prelude.{ℕ, suc, ◌<◌, ◌≤◌, ◌^◌, ◌≡◌, true, false, nat_lt, cond, None}
use Rattle.std.specs.FinMap.{empty}
use Rattle.body_terms.specs.block_words.specs.table_words.specs.declared.layout.Layout.{Layout}
use Rattle.body_terms.specs.block_words.specs.table_words.specs.Limits.{IsWithinLimits}
use Rattle.structure_laws.specs.Scene.{Cells, Free, Live, Scene}
use Rattle.structure_laws.specs.Meaning.{Meaning}
use Rattle.structure_laws.specs.Cells.{IsFixed, first_word}
use Rattle.structure_laws.specs.Shape.{ShapeLaw}
use Rattle.structure_laws.specs.Fitting.{Fitting}
use Rattle.structure_laws.specs.InTurn.{InTurn}
use Rattle.structure_laws.specs.Keeps.{Keeps}
use Rattle.structure_laws.specs.Gives.{GivesLaw}

module _ (m : Meaning) where
  -- the first scene: each cell holds its first word, the fixed slots are live, no runner is entered, no section is open
  pub record IsFirst (s : Scene) : Type 0 where
    pub cells : (p : ℕ) → s.cells p ≡ first_word m p
    pub status : (t : ℕ) → s.status t ≡ cond (nat_lt t m.fixed_slots) Live Free
    pub reader : (r : ℕ) → s.reader r ≡ None
    pub section : (d : ℕ) → s.section d ≡ None

  -- the first memory, whatever the layout
  pub record FirstMemory : Type 0 where
    pub few_cells : m.fixed_cells ≤ 12288
    pub few_slots : m.fixed_slots ≤ 3
    -- first values have 32 bits, and those of locks are 0
    pub small : (p : ℕ) → IsFixed m p → m.first_value p < 2 ^ 32
    pub locks_free : (p : ℕ) → IsFixed m p → m.is_lock p ≡ true → m.first_value p ≡ 0
    -- fixed cells and fixed slots link fixed slots alone
    pub links : (p t : ℕ) → IsFixed m p → m.is_link (first_word m) p ≡ true → m.first_value p ≡ suc t
        → t < m.fixed_slots

  -- the laws over scenes of one layout
  pub record LawsOver (layout : Layout) : Type 0 where
    pub begins : (s : Scene) → IsFirst s → m.kept layout s
    pub empty : (s : Scene) → IsFirst s → m.stands layout s.cells empty
    pub shape : ShapeLaw m layout
    pub fitting : Fitting m layout
    pub in_turn : InTurn m layout
    pub keeps : Keeps m layout
    pub gives : GivesLaw m layout

  pub record Laws : Type 0 where
    pub first : FirstMemory
    -- a lock is no link
    pub unlinked_lock : (cells : Cells) (p : ℕ) → m.is_lock p ≡ true → m.is_link cells p ≡ false
    pub over : (layout : Layout) → IsWithinLimits layout → LawsOver layout
