use Rattle.std.proofs.Common.{◌≡◌, ◌^◌, subst, arith}
use Rattle.std.proofs.lemmas.List.Sorted.{IsPermutation-sym}
use Rattle.bucket_walks.specs.section_body.specs.Bucket.{bucket_index}
use Rattle.bucket_walks.specs.bucket_laws.specs.Buckets.{nodes}
use Rattle.bucket_walks.specs.bucket_laws.proofs.TableLaws.{bucket_small}
use Rattle.hash_table.specs.Stands.{HasGathered}
use Rattle.hash_table.proofs.Places.{few_buckets}
use Rattle.hash_table.proofs.Ordering.{are_entries}
use Rattle.hash_table.proofs.Standing.{nothing}
use Rattle.hash_table.proofs.table.HashTable.pairs_in.Goals as goal

pub loop-bucket-init : goal.loop-bucket-init
loop-bucket-init g c = record {
  gathered = λ pairs stand. nothing c.args.self.now.bits c.args.words.now pairs stand c.new-items.result.items c.new-items.ensures.items;
}

pub returns : goal.returns
returns g c = record {
  contents = λ pairs stand.
      let bits = c.args.self.now.bits in
      let all : c.loop-bucket.bucket ≡ 2 ^ bits = (let few = few_buckets bits c.args.self.now.few in let end = c.loop-bucket-test.false in let past = c.loop-bucket.auto.bucket-end in omega (arith, few, end, past)) in
      are_entries (λ key. bucket_index key bits) (2 ^ bits) (λ key. bucket_small bits key c.args.self.now.few) (nodes (2 ^ bits) (λ key. bucket_index key bits) stand.cells) stand.stands.on
      stand.stands.rank stand.stands.chains pairs stand.stands.contents c.loop-bucket.items.items
      (subst (λ n. HasGathered bits c.args.words.now pairs stand n c.loop-bucket.items.items) all (c.loop-bucket.invariant.gathered pairs stand)) c.sort_unstable.new.self.items
      c.sort_unstable.ensures.permutation c.sort_unstable.ensures.sorted (IsPermutation-sym c.loop-bucket.items.items c.sort_unstable.new.self.items c.sort_unstable.ensures.permutation);
}
