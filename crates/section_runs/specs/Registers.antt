-- What a run's code keeps of the registers.
use Rattle.std.specs.Prelude.{◌≡◌, ℕ, ◌≤◌, All, length, slice_index}
use Rattle.idem_cell.specs.machine_states.specs.body_terms.specs.Line.{Registers}
use Rattle.idem_cell.specs.machine_states.specs.body_terms.specs.Shape.{set_registers}
use Rattle.idem_cell.specs.machine_states.specs.body_terms.specs.declared.step.Step.{Step}
use Rattle.idem_cell.specs.machine_states.specs.body_terms.specs.declared.value.Value.{Value}
use Rattle.idem_cell.specs.machine_states.specs.body_terms.specs.declared.value.Value.TheVariants.{Const, Of, Made}
use Rattle.section_runs.specs.declared.registers.Places.{Places}

-- the place of each register and the place of its word in the log are kept
pub record AreKept (kept : Places) (g : Registers) : Type 0 where
  pub places : length kept.places ≡ 16
  pub logs : length kept.logs ≡ 16
  pub place : (reg : ℕ) → reg ≤ 15 → slice_index kept.places reg ≡ g.place reg
  pub log : (reg : ℕ) → reg ≤ 15 → slice_index kept.logs reg ≡ g.log reg

-- a register that the step sets is one of the sixteen
abbrev pub IsWithin : Step → Type 0
IsWithin step = All (λ (reg : ℕ). reg ≤ 15) (set_registers step)

-- the register of this value is one of the sixteen
abbrev pub IsSmall : Value → Type 0
IsSmall (Const number) = Unit {0}
IsSmall (Of reg) = reg ≤ 15
IsSmall (Made reg) = reg ≤ 15
