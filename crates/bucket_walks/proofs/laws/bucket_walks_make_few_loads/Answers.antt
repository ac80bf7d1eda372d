use Rattle.bucket_walks.proofs.Gets.{make_few_loads}
use Rattle.bucket_walks.proofs.laws.bucket_walks_make_few_loads.Goals as goal

pub returns : goal.returns
returns c = make_few_loads c.args.bits
