use Rattle.bucket_walks.proofs.Gets.{moves_few}
use Rattle.bucket_walks.proofs.laws.moves_make_few_loads.Goals as goal

pub returns : goal.returns
returns c = moves_few c.args.bits
