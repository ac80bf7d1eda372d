use Rattle.std.proofs.Common.{◌≡◌, None, drop}
use Rattle.runner_steps.specs.runner_parts.specs.Tests.{last_stored}
use Rattle.runner_asks.proofs.stores.last_stored.Given as goal

abbrev pub invariant-loop-x : goal.invariant-loop-x
invariant-loop-x l = last_stored (drop l.x-index l.stored) l.descriptor l.word l.last ≡ last_stored l.stored l.descriptor l.word None
