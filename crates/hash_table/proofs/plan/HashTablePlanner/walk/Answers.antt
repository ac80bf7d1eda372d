use Rattle.std.proofs.Common.{sym, subst}
use Rattle.lock_walks.specs.Way.{Leads}
use Rattle.bucket_walks.specs.bucket_laws.specs.Buckets.{buckets_meaning}
use Rattle.hash_table.specs.Planned.{bucket_way}
use Rattle.hash_table.proofs.Leads.{leads}
use Rattle.hash_table.proofs.plan.HashTablePlanner.walk.Goals as goal

pub returns-clause-leads : goal.returns-clause-leads
returns-clause-leads c = subst (λ walk. Leads bucket_way (buckets_meaning c.args.self.now.bits) c.args.layout walk) (sym c.begin.ensures)
    (leads c.args.self.now.bits c.args.self.now.few c.args.layout c.args.op c.requires.served)
