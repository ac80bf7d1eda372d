use Rattle.bucket_laws.proofs.TableLaws.{moves_laws}
use Rattle.bucket_laws.proofs.laws.moves_meet_the_laws.Goals as goal

pub returns : goal.returns
returns c = moves_laws c.args.bits c.requires
