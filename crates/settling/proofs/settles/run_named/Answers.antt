use Rattle.std.proofs.Common.{◌-◌, refl}
use Rattle.machine_states.specs.body_terms.specs.Word.{value_of}
use Rattle.settling.specs.Clearing.{HasRun}
use Rattle.settling.proofs.Ran.{not_rose, at_end}
use Rattle.settling.proofs.settles.run_named.Goals as goal

pub returns-clause-ran : goal.returns-clause-ran
returns-clause-ran g c =
    at_end (HasRun (g.S.Structure.meaning c.args.table.now.structure) (value_of c.args.held - 1) c.args.keeper c.help-keeper.result.0) c.help-keeper.result.1
    (λ o trail e. let ran = c.help-keeper.ensures.done o trail e in record { thunk = ran.0; outcome = o; trail = trail; made = ran.1; ends = ran.2 })
    (λ e. let cut = c.help-keeper.ensures.halted e in not_rose (cut.2.halted refl))
