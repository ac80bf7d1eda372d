use Rattle.machine_blocks.proofs.AllKinds.{logs_kept}
use Rattle.machine_blocks.proofs.laws.steps_keep_logs.Goals as goal

pub returns : goal.returns
returns g c = λ layout requests chain a a' e e' s s' r kind sections slots stands old small step guarded go.
    logs_kept (g.S.Structure.meaning c.args.structure.now) layout requests chain a a' e e' s s' r kind sections slots stands old small step guarded go
