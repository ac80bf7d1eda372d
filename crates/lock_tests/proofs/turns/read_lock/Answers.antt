use Rattle.std.proofs.Common.{None}
use Rattle.settled_tables.specs.closed_words.specs.version_words.proofs.Stages.{may_load_fixed}
use Rattle.lock_tests.proofs.Reading.{then_read}
use Rattle.lock_tests.proofs.turns.read_lock.Goals as goal

pub load_cell-requires-clause-next : goal.load_cell-requires-clause-next
load_cell-requires-clause-next g c κs within = may_load_fixed (g.S.Structure.meaning c.args.table.now.structure) c.enter-runner.result c.enter-runner.ensures.enters.epoch c.args.place None c.enter-runner.ensures.enters.at c.requires.fixed

pub returns-clause-read : goal.returns-clause-read
returns-clause-read g c =
    let met = g.met.S.Structure g.world.𝓛 g.world.𝓜 g.world.𝓡 ((λ s allowed. allowed), (λ patient. patient), (λ alone. alone), (λ cuts. cuts)) in
    then_read (g.S.Structure.meaning c.args.table.now.structure) (met.laws c.args.table.now.structure) c.args.table.now c.args.runner c.enter-runner.result c.load_cell.result.0 c.requires.ready.0 c.args.place c.load_cell.result.1
    c.load_cell.ensures.own c.requires.lock c.requires.ready.1 c.enter-runner.ensures.enters c.load_cell.ensures.event
