use Rattle.bucket_walks.proofs.Gets.{moves_only_look}
use Rattle.bucket_walks.proofs.laws.moves_gets_only_look.Goals as goal

pub returns : goal.returns
returns c = moves_only_look c.args.bits
