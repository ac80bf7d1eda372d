use Rattle.history_core.proofs.MakingReads.{made_with_reads}
use Rattle.history_core.proofs.laws.reads_are_made.Goals as goal

pub returns : goal.returns
returns c = made_with_reads
