use Rattle.std.proofs.Common.{sym, subst}
use Rattle.lock_walks.specs.Way.{Leads}
use Rattle.bucket_walks.specs.bucket_laws.specs.Buckets.{moves_meaning}
use Rattle.key_move.specs.Planned.{move_way}
use Rattle.key_move.proofs.Leads.{leads}
use Rattle.key_move.proofs.plan.MoveTablePlanner.walk.Goals as goal

pub returns-clause-leads : goal.returns-clause-leads
returns-clause-leads c =
    subst (λ walk. Leads move_way (moves_meaning c.args.self.now.bits) c.args.layout walk) (sym c.begin.ensures)
    (leads c.args.self.now.bits c.args.self.now.few c.args.layout c.args.op c.requires.allowed)
