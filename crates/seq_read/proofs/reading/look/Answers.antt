use Rattle.std.proofs.Common.{arith}
use Rattle.seq_read.proofs.Glancing.{glance_short}
use Rattle.seq_read.proofs.reading.look.Goals as goal

pub look_asked-requires-clause-few : goal.look_asked-requires-clause-few
look_asked-requires-clause-few g c κs within = let few = glance_short c.in-Some.glance in omega (arith, few)
