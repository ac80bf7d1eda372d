use Rattle.std.proofs.Common.{arith}
use Rattle.hash_table.proofs.Places.{few_buckets}
use Rattle.key_move.proofs.table.MoveTable.cells.Goals as goal

pub returns-clause-few : goal.returns-clause-few
returns-clause-few c = let few = few_buckets c.args.self.now.bits c.args.self.now.few in omega (arith, few)
