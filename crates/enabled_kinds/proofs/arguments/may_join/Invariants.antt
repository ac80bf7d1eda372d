use Rattle.std.proofs.Common.{◌≡◌, ◌<◌, ℕ, false}
use Rattle.machine_states.specs.runner_parts.specs.declared.event.EventKind.TheVariants as kinds
use Rattle.enabled_kinds.specs.May.{is_enabled}
use Rattle.enabled_kinds.proofs.arguments.may_join.Given as goal

abbrev pub invariant-loop-worker : goal.invariant-loop-worker
invariant-loop-worker g l =
    (q : ℕ) → q < l.worker → is_enabled (g.S.Structure.meaning l.structure) l.layout l.requests l.runner l.part (kinds.Join q) ≡ false
