use Rattle.std.specs.Prelude.{◌≡◌, drop}
use Rattle.lock_walks.specs.Followed.{followed}
use Rattle.lock_walks.proofs.walker.follow.Given as goal

abbrev pub invariant-loop-place : goal.invariant-loop-place
invariant-loop-place g l = record {
  rest : followed g.W.Walker.way l.fn.walker l.fn.readings ≡ followed g.W.Walker.way l.walker (drop l.place-index l.fn.readings);
}
