use Rattle.flock_tool.proofs.load.count_on.Goals as goal

pub returns : goal.returns
returns g c = record { tally = c.in_ok-tally.ensures.tally; alone = c.in_ok-tally.ensures.alone; size = c.in_ok-size.ensures }
