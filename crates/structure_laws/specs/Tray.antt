-- The test structure: a lock, a number and a link.
use Rattle.std.specs.Prelude.{◌≡◌, ℕ, suc, ◌-◌, ◌≤◌, ◌==◌, ◌&&◌, not, cond, Bool, false, List, [], ◌∷◌, Some, slice_index}
use Rattle.std.specs.List.{list_any}
use Rattle.body_terms.specs.Word.{value_of}
use Rattle.body_terms.specs.declared.value.Value.TheVariants.{Const, Made}
use Rattle.body_terms.specs.declared.value.Init.{Init}
use Rattle.body_terms.specs.declared.step.Step.{Step}
use Rattle.body_terms.specs.declared.step.Step.TheVariants.{Load, Want, Fresh, Make, Stamp, Store, Retire, Answer}
use Rattle.body_terms.specs.declared.thunk.Thunk.{Thunk}
use Rattle.body_terms.specs.block_words.specs.table_words.specs.Places.{slot_count}
use Rattle.structure_laws.specs.Scene.{Readings, Section, Live, Scene}
use Rattle.structure_laws.specs.Meaning.{Meaning}

-- what a thunk's section does: it stores a number, makes a node behind the empty link, takes the linked
-- node out, or nothing
pub data Form : Type 0 where
  Number : Form
  Link : Form
  Unlink : Form
  Other : Form

-- the first operand
abbrev pub operand_of : Thunk → ℕ
operand_of thunk = slice_index thunk.operands 0

abbrev pub form_of_lock : ℕ → ℕ → Form
form_of_lock number value =
    cond (number == 101) Number (cond (number == 102
    && (value == 0)) Link (cond (number == 103 && not (value == 0)) Unlink Other))

-- the forms 101, 102 with a word of value 0, and 103 with a link, behind the lock at place 0
abbrev pub form_of : Thunk → Form
form_of thunk = cond (thunk.lock == 0) (form_of_lock thunk.form (value_of (operand_of thunk))) Other

-- a node of five zeros
abbrev pub zeros : Init
zeros = record { cells = Const 0 ∷ Const 0 ∷ Const 0 ∷ Const 0 ∷ Const 0 ∷ [] }

-- the body of each form
abbrev pub body_of : Form → ℕ → List Step
body_of Number word = Load 1 0 ∷ Fresh 0 ∷ Stamp ∷ Store 0 (Const (value_of word)) ∷ Answer 4294967296 ∷ []
body_of Link word = Load 2 0 ∷ Want 0 word ∷ Fresh 0 ∷ Make zeros 1 ∷ Stamp ∷ Store 0 (Made 1) ∷ Answer 4294967296 ∷ []
body_of Unlink word =
    Load 2 0 ∷ Want 0 word ∷ Fresh 0 ∷ Stamp ∷ Store 0 (Const 0) ∷ Retire (value_of word - 1) ∷ Answer 17179869184 ∷ []
body_of Other word = Stamp ∷ Answer 4294967296 ∷ []

abbrev pub tray_body : Thunk → List Step
tray_body thunk = body_of (form_of thunk) (operand_of thunk)

-- a word at place 2 that links this slot is among the readings
abbrev pub tray_reaches : Readings → ℕ → Bool
tray_reaches readings slot = list_any (λ reading. reading.0 == 2 && (value_of reading.1 == suc slot)) readings

-- the link leads to a live slot; the node that a section has made is live until it is linked; and the node that it has
-- unlinked is live, and nothing is linked, until it is retired
pub record TrayKept (s : Scene) : Type 0 where
  pub linked : (t : ℕ) → value_of (s.cells 2) ≡ suc t → s.status t ≡ Live
  pub made : (d : ℕ) (x : Section) → s.section d ≡ Some x → form_of x.thunk ≡ Link → 4 ≤ x.at → x.at ≤ 5
      → (t : ℕ) × (x.reg 1 ≡ suc t) × (s.status t ≡ Live)
  pub unlinked : (d : ℕ) (x : Section) → s.section d ≡ Some x → form_of x.thunk ≡ Unlink → x.at ≡ 5
      → (s.status (value_of (operand_of x.thunk) - 1) ≡ Live) × (value_of (s.cells 2) ≡ 0)

abbrev pub tray : Meaning
tray = record {
  is_map = false;
  fixed_cells = 3;
  fixed_slots = 0;
  first_value = λ place. 0;
  is_lock = λ place. place == 0;
  body = tray_body;
  reaches = tray_reaches;
  fits = λ layout op readings thunk. thunk.lock == 0;
  is_link = λ cells place. place == 2;
  guard = λ cells place. 0;
  stands = λ layout cells pairs. value_of (cells 2) ≤ slot_count layout 0;
  walked = λ layout op readings. Unit {0};
  kept = λ layout s. TrayKept s;
}
