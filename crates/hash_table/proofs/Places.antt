-- How many buckets there are at most, and where their locks stand.
use Rattle.std.proofs.Common.{ℕ, ◌^◌, ◌<◌, ◌≤◌, arith}
use Rattle.std.proofs.Math.Nat.{pow-le-pow_right}
use Rattle.bucket_walks.specs.section_body.specs.Bucket.{bucket_index}
use Rattle.bucket_walks.specs.bucket_laws.proofs.TableLaws.{bucket_small}

pub few_buckets : (bits : ℕ) → bits ≤ 12 → 2 ^ bits ≤ 4096
few_buckets bits few = pow-le-pow_right (omega arith) few

pub low_bucket : (bits key : ℕ) → bits ≤ 12 → bucket_index key bits < 4096
low_bucket bits key few = let a = bucket_small bits key few in let b = few_buckets bits few in omega (arith, a, b)
