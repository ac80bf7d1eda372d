use Rattle.std.proofs.Common.{None, arith}
use Rattle.machine_states.specs.structure_laws.specs.Tray.{tray}
use Rattle.table_steps.specs.version_words.proofs.Stages.{may_load_fixed}
use Rattle.speed.proofs.Whole.{then_read}
use Rattle.speed.proofs.sections.requests.enter_and_read.Goals as goal

pub load_cell-requires-clause-next : goal.load_cell-requires-clause-next
load_cell-requires-clause-next c κs = may_load_fixed tray c.enter-worker.result c.enter-worker.ensures.enters.epoch 0 None c.enter-worker.ensures.enters.at (omega arith)

pub returns-clause-read : goal.returns-clause-read
returns-clause-read c = then_read c.args.worker c.enter-worker.result c.load_cell.result.0 c.args.request c.load_cell.result.1 c.requires.before c.requires.nodes c.requires.descriptors c.requires.blocks c.enter-worker.ensures.enters c.load_cell.ensures.event
