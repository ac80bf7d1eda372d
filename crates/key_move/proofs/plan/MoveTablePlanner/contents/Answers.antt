use Rattle.std.proofs.Common.{sym, subst}
use Rattle.bucket_walks.specs.bucket_laws.specs.Buckets.{buckets_meaning}
use Rattle.lock_walks.specs.try_lock.specs.Contents.{StandFor}
use Rattle.key_move.proofs.Standing.{as_buckets, if_ok}
use Rattle.key_move.proofs.plan.MoveTablePlanner.contents.Goals as goal

pub pairs_in-requires-clause-stand : goal.pairs_in-requires-clause-stand
pairs_in-requires-clause-stand c _ =
    let stand = c.requires.stand in (
      stand.0,
      subst (λ bits. StandFor (buckets_meaning bits) c.args.words.now stand.0) (sym c.new.ensures)
          (as_buckets c.args.self.now.bits c.args.words.now stand.0 stand.1),
    )

pub returns : goal.returns
returns c = record {
  contents = if_ok _ _ c.pairs_in.result c.pairs_in.ensures.contents
      (λ items are pairs stand. are pairs (subst (λ bits. StandFor (buckets_meaning bits) c.args.words.now pairs)
      (sym c.new.ensures) (as_buckets c.args.self.now.bits c.args.words.now pairs stand)));
}
