-- What an event of the machine over the test structure does.
use Rattle.std.specs.Prelude.{◌≡◌, ℕ, Some}
use Rattle.machine_states.specs.structure_laws.specs.Tray.{tray}
use Rattle.machine_states.specs.runner_parts.specs.declared.event.EventKind.{EventKind}
use Rattle.machine_states.specs.First.{IsFirst}
use Rattle.machine_states.specs.World.{happens}
use Rattle.interleave_core.specs.Machine.{MachineState}

module _ {T : Type 0} where
  -- the machine is in its first state
  abbrev pub StandsFirst : MachineState T → Type 0
  StandsFirst s = IsFirst tray s.layout s.requests s.world

  -- this event of the runner is enabled, and leads to the new state
  abbrev pub Makes : ℕ → EventKind → MachineState T → MachineState T → Type 0
  Makes runner kind old new =
      happens tray old.layout old.requests old.world (record { runner = runner; kind = kind }) ≡ Some new.world
