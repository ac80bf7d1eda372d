use Rattle.std.proofs.Common.{◌≡◌, ◌+◌, ℕ, drop}
use Rattle.std.specs.Prelude.{◌&&◌, nat_lt}
use Rattle.machine_states.specs.table_words.specs.Places.{slot_count, descriptor_count}
use Rattle.std.specs.List.{list_any}
use Rattle.machine_states.specs.runner_parts.specs.declared.event.EventKind.TheVariants as kinds
use Rattle.enabled_kinds.specs.May.{is_enabled}
use Rattle.enabled_kinds.proofs.arguments.may_reread.Given as goal

abbrev pub invariant-loop-descriptor : goal.invariant-loop-descriptor
invariant-loop-descriptor g l =
    let test = λ (d : ℕ). nat_lt d (descriptor_count l.layout) && is_enabled (g.S.Structure.meaning l.structure) l.layout l.requests l.runner l.part (kinds.PrivateLoad (slot_count l.layout (g.S.Structure.meaning l.structure).fixed_slots + d) 0) in
    list_any test (drop l.descriptor-index l.part.descriptors.free) ≡ list_any test l.part.descriptors.free
