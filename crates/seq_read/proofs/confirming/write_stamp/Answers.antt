use Rattle.std.proofs.Common.{◌∙◌, sym, subst, refl}
use Rattle.machine_states.specs.table_words.specs.Limits.{IsWithinLimits}
use Rattle.caller_facts.specs.version_words.specs.machine_invariant.specs.After.{AreAllowed}
use Rattle.machine_states.specs.runner_parts.specs.declared.event.EventKind.TheVariants as kinds
use Rattle.caller_facts.specs.version_words.specs.Events.{Makes}
use Rattle.seq_read.proofs.Courses.{replied_layout, replied_requests}
use Rattle.seq_read.proofs.Writing.{LooksStand, stamp_asked, stamp_left, stamp_zero}
use Rattle.seq_read.proofs.confirming.write_stamp.Goals as goal

pub read_stamp-runner-requires-clause-next : goal.read_stamp-runner-requires-clause-next
read_stamp-runner-requires-clause-next g c κs within =
    let met = g.met.S.Structure g.world.𝓛 g.world.𝓜 g.world.𝓡 ((λ s allowed. allowed), (λ patient. patient), (λ alone. alone), (λ cuts. cuts)) in
    let m = g.S.Structure.meaning c.args.table.now.structure in
    let e = c.requires.replied in
    stamp_asked m (met.laws c.args.table.now.structure) e.0 e.1 e.3
    (subst IsWithinLimits (sym c.requires.own.layout ∙ replied_layout m e.0 e.1 e.3 c.args.thunk.now e.2 c.args.clock c.args.runner e.4) (c.requires.own.limits _ refl))
    (subst AreAllowed (sym c.requires.own.requests ∙ replied_requests m e.0 e.1 e.3 c.args.thunk.now e.2 c.args.clock c.args.runner e.4) (c.requires.own.allowed _ refl))
    (subst (λ s. LooksStand (g.S.Structure.meaning s)) c.structure.ensures c.looks_are_small.ensures.stamps)
    c.args.thunk.now e.2 c.args.clock c.args.runner e.4

pub returns-clause-stamp : goal.returns-clause-stamp
returns-clause-stamp g c =
    let met = g.met.S.Structure g.world.𝓛 g.world.𝓜 g.world.𝓡 ((λ s allowed. allowed), (λ patient. patient), (λ alone. alone), (λ cuts. cuts)) in
    let m = g.S.Structure.meaning c.args.table.now.structure in
    let e = c.requires.replied in
    let made = c.read_stamp-runner.ensures.event in
    stamp_left m (met.laws c.args.table.now.structure) e.0 e.1 e.3
    (subst IsWithinLimits (sym c.requires.own.layout ∙ replied_layout m e.0 e.1 e.3 c.args.thunk.now e.2 c.args.clock c.args.runner e.4) (c.requires.own.limits _ refl))
    (subst AreAllowed (sym c.requires.own.requests ∙ replied_requests m e.0 e.1 e.3 c.args.thunk.now e.2 c.args.clock c.args.runner e.4) (c.requires.own.allowed _ refl))
    (subst (λ s. LooksStand (g.S.Structure.meaning s)) c.structure.ensures c.looks_are_small.ensures.stamps)
    c.args.thunk.now e.2 c.args.clock c.args.runner e.4 c.read_stamp-runner.result.0 made.found made.event c.read_stamp-runner.result.1 made.told

pub returns-clause-event : goal.returns-clause-event
returns-clause-event g c =
    let met = g.met.S.Structure g.world.𝓛 g.world.𝓜 g.world.𝓡 ((λ s allowed. allowed), (λ patient. patient), (λ alone. alone), (λ cuts. cuts)) in
    let m = g.S.Structure.meaning c.args.table.now.structure in
    let e = c.requires.replied in
    let made = c.read_stamp-runner.ensures.event in
    subst (λ n. Makes m kinds.ReadStamp n c.args.runner c.read_stamp-runner.result.0)
    (stamp_zero m (met.laws c.args.table.now.structure) e.0 e.1 e.3
    (subst IsWithinLimits (sym c.requires.own.layout ∙ replied_layout m e.0 e.1 e.3 c.args.thunk.now e.2 c.args.clock c.args.runner e.4) (c.requires.own.limits _ refl))
    (subst AreAllowed (sym c.requires.own.requests ∙ replied_requests m e.0 e.1 e.3 c.args.thunk.now e.2 c.args.clock c.args.runner e.4) (c.requires.own.allowed _ refl))
    (subst (λ s. LooksStand (g.S.Structure.meaning s)) c.structure.ensures c.looks_are_small.ensures.stamps)
    c.args.thunk.now e.2 c.args.clock c.args.runner e.4 c.read_stamp-runner.result.0 made.found made.event) made.event
