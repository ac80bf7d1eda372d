use Rattle.std.proofs.Common.{rules}
use Rattle.tree_bodies.proofs.bodies.fill_delete.Goals as goal

-- src/bodies.rt:256:1
pub returns-clause-steps : goal.returns-clause-steps
returns-clause-steps c =
    rw (
      c.refill.ensures,
      c.load.ensures,
      c.want.ensures,
      c.load-2.ensures,
      c.want-2.ensures,
      c.take.ensures,
      c.load-3.ensures,
      c.want-3.ensures,
      c.load-4.ensures,
      c.load-5.ensures,
      c.want-4.ensures,
      c.store.ensures,
      c.store-2.ensures,
      c.retire.ensures,
      c.retire-2.ensures,
    ) (search rules)
