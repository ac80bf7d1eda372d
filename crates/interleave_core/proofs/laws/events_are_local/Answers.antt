use Rattle.interleave_core.proofs.Local.{local, joins_two}
use Rattle.interleave_core.proofs.laws.events_are_local.Goals as goal

pub returns-clause-others : goal.returns-clause-others
returns-clause-others g c = λ layout requests e alone. local (g.S.Structure.meaning c.args.structure.now) layout requests e alone

pub returns-clause-joins : goal.returns-clause-joins
returns-clause-joins g c = λ layout requests runner worker. joins_two (g.S.Structure.meaning c.args.structure.now) layout requests runner worker
