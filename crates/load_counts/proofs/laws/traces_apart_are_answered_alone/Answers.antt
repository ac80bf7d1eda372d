use Rattle.load_counts.proofs.Alone.{same_counts, same_pairs}
use Rattle.load_counts.proofs.laws.traces_apart_are_answered_alone.Goals as goal

pub returns : goal.returns
returns c = record { counts = same_counts; pairs = same_pairs }
