use Rattle.std.proofs.Common.{◌∙◌, sym, ap, subst, refl, Some}
use Rattle.machine_states.specs.table_words.specs.Limits.{IsWithinLimits}
use Rattle.machine_states.specs.table_words.specs.declared.spot.Spot.TheVariants.{Reply}
use Rattle.machine_states.specs.table_words.specs.declared.access.Access.TheVariants.{Exchanges}
use Rattle.caller_facts.specs.version_words.specs.machine_invariant.specs.After.{AreAllowed}
use Rattle.machine_states.specs.runner_parts.specs.declared.event.EventKind.TheVariants as kinds
use Rattle.caller_facts.specs.version_words.specs.Events.{Makes}
use Rattle.seq_read.proofs.Writing.{LooksStand, reply_asked, reply_left, reply_zero}
use Rattle.seq_read.proofs.confirming.write_reply.Goals as goal

pub read_reply-runner-requires-clause-next : goal.read_reply-runner-requires-clause-next
read_reply-runner-requires-clause-next g c κs within =
    let met = g.met.S.Structure g.world.𝓛 g.world.𝓜 g.world.𝓡 ((λ s allowed. allowed), (λ patient. patient), (λ alone. alone), (λ cuts. cuts)) in
    let e = c.requires.unmoved in
    reply_asked (g.S.Structure.meaning c.args.table.now.structure) (met.laws c.args.table.now.structure) e.0 e.1 e.4
    (subst IsWithinLimits (sym c.requires.own.layout ∙ e.5.reading.still.layout) (c.requires.own.limits _ refl))
    (subst AreAllowed (sym c.requires.own.requests ∙ e.5.reading.still.requests) (c.requires.own.allowed _ refl))
    (subst (λ s. LooksStand (g.S.Structure.meaning s)) c.structure.ensures c.looks_are_small.ensures.stamps)
    c.args.thunk.now e.2 e.3 c.args.runner e.5
    ∙ ap (λ n. Some (Reply c.args.thunk.now.request, Exchanges 0 n)) (sym c.requires.reply)

pub returns-clause-word : goal.returns-clause-word
returns-clause-word g c =
    let met = g.met.S.Structure g.world.𝓛 g.world.𝓜 g.world.𝓡 ((λ s allowed. allowed), (λ patient. patient), (λ alone. alone), (λ cuts. cuts)) in
    let e = c.requires.unmoved in
    let made = c.read_reply-runner.ensures.event in
    reply_left (g.S.Structure.meaning c.args.table.now.structure) (met.laws c.args.table.now.structure) e.0 e.1 e.4
    (subst IsWithinLimits (sym c.requires.own.layout ∙ e.5.reading.still.layout) (c.requires.own.limits _ refl))
    (subst AreAllowed (sym c.requires.own.requests ∙ e.5.reading.still.requests) (c.requires.own.allowed _ refl))
    (subst (λ s. LooksStand (g.S.Structure.meaning s)) c.structure.ensures c.looks_are_small.ensures.stamps)
    c.args.thunk.now e.2 e.3 c.args.runner e.5 c.read_reply-runner.result.0 made.found made.event c.read_reply-runner.result.1 made.told
    ∙ sym c.requires.reply

pub returns-clause-event : goal.returns-clause-event
returns-clause-event g c =
    let met = g.met.S.Structure g.world.𝓛 g.world.𝓜 g.world.𝓡 ((λ s allowed. allowed), (λ patient. patient), (λ alone. alone), (λ cuts. cuts)) in
    let m = g.S.Structure.meaning c.args.table.now.structure in
    let e = c.requires.unmoved in
    let made = c.read_reply-runner.ensures.event in
    subst (λ n. Makes m kinds.ReadReply n c.args.runner c.read_reply-runner.result.0)
    (reply_zero m (met.laws c.args.table.now.structure) e.0 e.1 e.4
    (subst IsWithinLimits (sym c.requires.own.layout ∙ e.5.reading.still.layout) (c.requires.own.limits _ refl))
    (subst AreAllowed (sym c.requires.own.requests ∙ e.5.reading.still.requests) (c.requires.own.allowed _ refl))
    (subst (λ s. LooksStand (g.S.Structure.meaning s)) c.structure.ensures c.looks_are_small.ensures.stamps)
    c.args.thunk.now e.2 e.3 c.args.runner e.5 c.read_reply-runner.result.0 made.found made.event) made.event
