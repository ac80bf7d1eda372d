use Rattle.machine_guards.proofs.Safe.{sweep_safe, sweep_exact}
use Rattle.machine_guards.proofs.laws.sweeps_free_exactly_what_no_guard_names.Goals as goal

pub returns-clause-safe : goal.returns-clause-safe
returns-clause-safe g c = λ layout requests chain a e s s' r n joined old step last.
    sweep_safe (g.S.Structure.meaning c.args.structure.now) layout requests chain a e s s' r n joined old step last

pub returns-clause-exact : goal.returns-clause-exact
returns-clause-exact g c = λ layout requests chain a e s s' r n joined old step last.
    sweep_exact (g.S.Structure.meaning c.args.structure.now) layout requests chain a e s s' r n joined old step last
