use Rattle.bucket_walks.proofs.Gets.{only_look}
use Rattle.bucket_walks.proofs.laws.bucket_gets_only_look.Goals as goal

pub returns : goal.returns
returns c = only_look c.args.bits
