use Rattle.bucket_laws.proofs.Near.{walks_are_short}
use Rattle.bucket_laws.proofs.steady.bucket_walks_are_short.Goals as goal

pub returns : goal.returns
returns c = walks_are_short c.args.bits c.requires
