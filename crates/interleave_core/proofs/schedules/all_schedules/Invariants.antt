use Rattle.std.proofs.Common.{◌≡◌, take, Some}
use Rattle.machine_states.specs.World.{run}
use Rattle.interleave_core.proofs.schedules.all_schedules.Given as goal

abbrev pub invariant-loop-at : goal.invariant-loop-at
invariant-loop-at g l = record {
  structure : l.machine.structure ≡ l.initial.machine.structure;
  layout : l.machine.layout ≡ l.initial.machine.layout;
  requests : l.machine.requests ≡ l.initial.machine.requests;
  so_far : run (g.S.Structure.meaning l.initial.machine.structure) l.initial.machine.layout l.initial.machine.requests l.initial.machine.world (take l.at l.events) ≡ Some l.machine.world;
}
