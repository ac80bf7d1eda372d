use Rattle.bucket_laws.proofs.TableLaws.{buckets_laws}
use Rattle.bucket_laws.proofs.laws.buckets_meet_the_laws.Goals as goal

pub returns : goal.returns
returns c = buckets_laws c.args.bits c.requires
