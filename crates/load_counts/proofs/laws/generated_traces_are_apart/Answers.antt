use Rattle.load_counts.proofs.Generated.{generated_apart}
use Rattle.load_counts.proofs.laws.generated_traces_are_apart.Goals as goal

pub returns : goal.returns
returns c = generated_apart
