use Rattle.one_worker.proofs.EpochsReached.{reached_uncrossed}
use Rattle.one_worker.proofs.epochs.one_worker_is_uncrossed.Goals as goal

pub returns : goal.returns
returns g c = λ layout requests w reached one. reached_uncrossed (g.S.Structure.meaning c.args.structure.now) layout requests one w reached
