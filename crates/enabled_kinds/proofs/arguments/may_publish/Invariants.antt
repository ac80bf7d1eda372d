use Rattle.std.proofs.Common.{◌≡◌, ℕ, drop}
use Rattle.enabled_kinds.specs.Tried.{stored_thunk}
use Rattle.std.specs.List.{list_any}
use Rattle.machine_states.specs.runner_parts.specs.declared.event.EventKind.TheVariants as kinds
use Rattle.enabled_kinds.specs.May.{is_enabled}
use Rattle.enabled_kinds.proofs.arguments.may_publish.Given as goal

abbrev pub invariant-loop-descriptor : goal.invariant-loop-descriptor
invariant-loop-descriptor g l =
    let test = λ (d : ℕ). is_enabled (g.S.Structure.meaning l.structure) l.layout l.requests l.runner l.part (kinds.Hold (stored_thunk l.part.descriptors.stored d) d) in
    list_any test (drop l.descriptor-index l.part.descriptors.free) ≡ list_any test l.part.descriptors.free
