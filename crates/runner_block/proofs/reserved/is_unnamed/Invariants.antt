use Rattle.std.proofs.Common.{◌≡◌, drop}
use Rattle.machine_states.specs.guard_core.specs.Moves.{is_unnamed}
use Rattle.runner_block.proofs.reserved.is_unnamed.Given as goal

abbrev pub invariant-loop-word : goal.invariant-loop-word
invariant-loop-word l = is_unnamed (drop l.word-index l.words) l.descriptor ≡ is_unnamed l.words l.descriptor
