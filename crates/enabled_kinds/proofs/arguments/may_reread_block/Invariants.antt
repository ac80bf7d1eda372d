use Rattle.std.proofs.Common.{◌≡◌, ◌+◌, ℕ, drop}
use Rattle.std.specs.Prelude.{◌&&◌, nat_lt}
use Rattle.machine_states.specs.table_words.specs.Places.{block_count}
use Rattle.runner_steps.specs.Outside.{blocks_from}
use Rattle.std.specs.List.{list_any}
use Rattle.machine_states.specs.runner_parts.specs.declared.event.EventKind.TheVariants as kinds
use Rattle.enabled_kinds.specs.May.{is_enabled}
use Rattle.enabled_kinds.proofs.arguments.may_reread_block.Given as goal

abbrev pub invariant-loop-block : goal.invariant-loop-block
invariant-loop-block g l =
    let test = λ (b : ℕ). nat_lt b (block_count l.layout) && is_enabled (g.S.Structure.meaning l.structure) l.layout l.requests l.runner l.part (kinds.PrivateLoad (blocks_from (g.S.Structure.meaning l.structure) l.layout + b) 0) in
    list_any test (drop l.block-index l.part.blocks.free) ≡ list_any test l.part.blocks.free
