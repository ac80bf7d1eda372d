use Rattle.std.proofs.Common.{◌≡◌, ◌<◌, ℕ, false, Some}
use Rattle.machine_states.specs.runner_parts.specs.declared.event.EventKind.TheVariants as kinds
use Rattle.enabled_kinds.specs.May.{is_enabled}
use Rattle.enabled_kinds.proofs.arguments.may_walk.Given as goal

abbrev pub invariant-loop-place : goal.invariant-loop-place
invariant-loop-place g l =
    (q : ℕ) → q < l.place → is_enabled (g.S.Structure.meaning l.structure) l.layout l.requests l.runner l.part (kinds.LoadCell (Some q)) ≡ false
