use Rattle.std.proofs.Common.{◌<◌, None, false, sym, subst, length}
use Rattle.machine_states.specs.structure_laws.specs.Tray.{tray}
use Rattle.std.proofs.Common.{List}
use Rattle.machine_states.specs.map_history.specs.declared.op.Request.{Request}
use Rattle.version_words.proofs.Stages.{may_load_entry}
use Rattle.table_steps.proofs.walks.entry.Goals as goal

pub load_entry-requires-clause-next : goal.load_entry-requires-clause-next
load_entry-requires-clause-next c κs = may_load_entry tray c.args.runner None c.args.request false c.requires.at
    (subst (λ (rs : List Request). c.args.request < length rs) (sym c.requires.own.requests) c.requires.request)
