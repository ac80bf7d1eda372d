use Rattle.std.proofs.Common.{arith}
use Rattle.hash_table.proofs.Places.{low_bucket}
use Rattle.hash_table.proofs.walk.BucketWalk.lock.Goals as goal

pub overflow_mul-result : goal.overflow_mul-result
overflow_mul-result c = let low = low_bucket c.self.inside.bits c.key.result c.self.invariant.0 in let h = c.bucket_of.ensures in omega (arith, low, h)

pub returns-clause-low : goal.returns-clause-low
returns-clause-low c = let low = low_bucket c.self.inside.bits c.key.result c.self.invariant.0 in let h = c.bucket_of.ensures in omega (arith, low, h)
