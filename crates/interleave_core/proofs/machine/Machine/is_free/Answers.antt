use Rattle.std.proofs.Common.{sym, ap, ◌∙◌}
use Rattle.machine_states.specs.runner_parts.specs.State.{PartState}
use Rattle.machine_states.specs.runner_parts.specs.Tests.{has}
use Rattle.machine_states.proofs.Steps.{some_same}
use Rattle.interleave_core.proofs.machine.Machine.is_free.Goals as goal

pub returns : goal.returns
returns g c = λ p here. c.has_free.ensures ∙ ap (λ (q : PartState). has q.nodes.free c.args.slot) (some_same c.part.result.now p (sym c.part.ensures ∙ here))
