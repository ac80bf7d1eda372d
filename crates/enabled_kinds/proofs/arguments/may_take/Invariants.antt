use Rattle.std.proofs.Common.{◌≡◌, drop}
use Rattle.std.specs.List.{list_any}
use Rattle.machine_states.specs.runner_parts.specs.declared.entries.BoardRead.{BoardRead}
use Rattle.machine_states.specs.runner_parts.specs.declared.event.EventKind.TheVariants as kinds
use Rattle.enabled_kinds.specs.May.{is_enabled}
use Rattle.enabled_kinds.proofs.arguments.may_take.Given as goal

abbrev pub invariant-loop-load : goal.invariant-loop-load
invariant-loop-load g l =
    let test = λ (load : BoardRead). is_enabled (g.S.Structure.meaning l.structure) l.layout l.requests l.runner l.part (kinds.BoardTake load.word load.read) in
    list_any test (drop l.load-index l.part.board) ≡ list_any test l.part.board
