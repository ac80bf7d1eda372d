use Rattle.std.proofs.Common.{◌∙◌, sym, subst, refl}
use Rattle.machine_states.specs.table_words.specs.Limits.{IsWithinLimits}
use Rattle.caller_facts.specs.version_words.specs.machine_invariant.specs.After.{AreAllowed}
use Rattle.caller_facts.specs.version_words.specs.Events.{Makes}
use Rattle.caller_facts.specs.version_words.specs.Naming.{load_of}
use Rattle.seq_read.proofs.Courses.{clock_here}
use Rattle.seq_read.proofs.Locking.{lock_asked}
use Rattle.seq_read.proofs.confirming.load_lock.Goals as goal

pub load_cell-runner-requires-clause-next : goal.load_cell-runner-requires-clause-next
load_cell-runner-requires-clause-next g c κs within =
    let met = g.met.S.Structure g.world.𝓛 g.world.𝓜 g.world.𝓡 ((λ s allowed. allowed), (λ patient. patient), (λ alone. alone), (λ cuts. cuts)) in
    let e = c.requires.clock in
    lock_asked (g.S.Structure.meaning c.args.table.now.structure) (met.laws c.args.table.now.structure) e.0 e.1 e.4
    (subst IsWithinLimits (sym c.requires.own.layout ∙ e.5.reading.still.layout) (c.requires.own.limits _ refl))
    (subst AreAllowed (sym c.requires.own.requests ∙ e.5.reading.still.requests) (c.requires.own.allowed _ refl))
    c.args.thunk.now e.2 e.3 c.args.runner e.5

pub returns-clause-event : goal.returns-clause-event
returns-clause-event g c =
    let m = g.S.Structure.meaning c.args.table.now.structure in
    let e = c.requires.clock in
    subst (λ o. Makes m (load_of o c.args.thunk.now.lock) c.load_cell-runner.result.1 c.args.runner c.load_cell-runner.result.0)
    (clock_here m e.0 e.1 e.4 c.args.thunk.now e.2 e.3 c.args.runner e.5).resting c.load_cell-runner.ensures.event
