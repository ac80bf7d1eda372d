use Rattle.map_sizes.proofs.Peaks.{below_peak}
use Rattle.map_sizes.proofs.laws.sizes_are_below_the_peak.Goals as goal

pub returns : goal.returns
returns c = below_peak
