use Rattle.lock_tests.specs.Closing.{AreFreeBelow}
use Rattle.lock_tests.proofs.closing.is_unlocked.Given as goal

abbrev pub invariant-loop-place : goal.invariant-loop-place
invariant-loop-place g l = AreFreeBelow (g.S.Structure.meaning l.words.structure) l.words l.place
