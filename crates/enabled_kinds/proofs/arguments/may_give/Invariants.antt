use Rattle.std.proofs.Common.{◌≡◌, ℕ, drop}
use Rattle.std.specs.List.{list_any}
use Rattle.machine_states.specs.runner_parts.specs.declared.event.EventKind.TheVariants as kinds
use Rattle.enabled_kinds.specs.May.{is_enabled}
use Rattle.enabled_kinds.proofs.arguments.may_give.Given as goal

abbrev pub invariant-loop-slot : goal.invariant-loop-slot
invariant-loop-slot g l =
    let test = λ (slot : ℕ). is_enabled (g.S.Structure.meaning l.structure) l.layout l.requests l.runner l.part (kinds.BoardGive 0 slot) in
    list_any test (drop l.slot-index l.part.nodes.free) ≡ list_any test l.part.nodes.free
