use Rattle.lock_walks.proofs.Onward.{goes_then, cut_short, gone_on}
use Rattle.lock_walks.proofs.plans.pass_node.Goals as goal

pub returns-then-not-going-clause-goes : goal.returns-then-not-going-clause-goes
returns-then-not-going-clause-goes g c = cut_short c.load_next-runner.ensures.goes c.if-not-going.true

pub load_next-runner-requires-2-clause-on_way : goal.load_next-runner-requires-2-clause-on_way
load_next-runner-requires-2-clause-on_way g c κs within =
    (c.requires.on_way.0, c.load_next-runner.ensures.goes.on c.requires.on_way.0 c.requires.on_way.1 c.if-not-going.false)

pub returns-then-not-going-2-clause-goes : goal.returns-then-not-going-2-clause-goes
returns-then-not-going-2-clause-goes g c =
    goes_then _ _ _ (gone_on c.load_next-runner.ensures.goes c.if-not-going.false) (cut_short c.load_next-runner-2.ensures.goes c.if-not-going-2.true)

pub returns-then-not-turns_aside-clause-goes : goal.returns-then-not-turns_aside-clause-goes
returns-then-not-turns_aside-clause-goes g c =
    goes_then _ _ _ (gone_on c.load_next-runner.ensures.goes c.if-not-going.false) (gone_on c.load_next-runner-2.ensures.goes c.if-not-going-2.false)

pub load_next-requires-clause-on_way : goal.load_next-requires-clause-on_way
load_next-requires-clause-on_way g c κs within = (
  c.requires.on_way.0,
  c.load_next-runner-2.ensures.goes.on c.requires.on_way.0
      (c.load_next-runner.ensures.goes.on c.requires.on_way.0 c.requires.on_way.1 c.if-not-going.false) c.if-not-going-2.false,
)

pub returns-clause-goes : goal.returns-clause-goes
returns-clause-goes g c = goes_then _ _ _
    (goes_then _ _ _ (gone_on c.load_next-runner.ensures.goes c.if-not-going.false) (gone_on c.load_next-runner-2.ensures.goes c.if-not-going-2.false))
    c.load_next.ensures.goes
