use Rattle.machine_states.specs.structure_laws.specs.Tray.{tray}
use Rattle.std.proofs.Common.{None}
use Rattle.version_words.proofs.Stages.{may_load_fixed, then_loaded_cell, same_number}
use Rattle.table_steps.proofs.walks.look.Goals as goal

pub load_cell-requires-clause-next : goal.load_cell-requires-clause-next
load_cell-requires-clause-next c κs = may_load_fixed tray c.args.runner c.args.epoch c.args.place None c.requires.at c.requires.fixed

pub returns-clause-at : goal.returns-clause-at
returns-clause-at c = then_loaded_cell tray c.load_cell.result.1 c.args.epoch c.args.place c.args.runner c.load_cell.result.0 None c.load_cell.ensures.event c.requires.at

pub returns-clause-number : goal.returns-clause-number
returns-clause-number c = same_number tray _ c.load_cell.result.1 c.args.runner c.load_cell.result.0 c.load_cell.ensures.event
