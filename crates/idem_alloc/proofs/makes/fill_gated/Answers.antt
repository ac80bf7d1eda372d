use Rattle.std.proofs.Common.{◌+◌, ◌^◌, ◌<◌, arith, ap, sym, subst, ◌∙◌, refl}
use Rattle.runner_steps.specs.body_terms.specs.Word.{version_of, next_word}
use Rattle.runner_steps.specs.runner_parts.specs.State.{RunState}
use Rattle.commit_log.proofs.Halting.{halted_first, halted_more}
use Rattle.commit_log.proofs.Running.{one_run, ran_one}
use Rattle.idem_alloc.specs.Made.{HasFilled}
use Rattle.idem_alloc.proofs.Filling.{may_load, loads, may_store, few_versions, stores, then_filled}
use Rattle.idem_alloc.proofs.makes.fill_gated.Goals as goal

pub private_load-runner-requires-clause-next : goal.private_load-runner-requires-clause-next
private_load-runner-requires-clause-next g c κs within =
    let met = g.met.S.Structure g.world.𝓛 g.world.𝓜 g.world.𝓡 ((λ s allowed. allowed), (λ patient. patient), (λ alone. alone), (λ cuts. cuts)) in
    let m = g.S.Structure.meaning c.args.table.now.structure in
    let laws = met.laws c.args.table.now.structure in
    let may = c.requires.next.1 in
    may_load m laws c.args.table.now (c.requires.own.limits _ refl) (c.requires.own.allowed _ refl) _ c.requires.own _ _ _ _ may

pub returns-then-not-passes-clause-halted : goal.returns-then-not-passes-clause-halted
returns-then-not-passes-clause-halted g c = λ _.
    let met = g.met.S.Structure g.world.𝓛 g.world.𝓜 g.world.𝓡 ((λ s allowed. allowed), (λ patient. patient), (λ alone. alone), (λ cuts. cuts)) in
    let m = g.S.Structure.meaning c.args.table.now.structure in
    let laws = met.laws c.args.table.now.structure in
    let may = c.requires.next.1 in
    let load = loads m laws c.args.table.now (c.requires.own.limits _ refl) (c.requires.own.allowed _ refl) _ c.requires.own _ _ _ _ may _ _ c.private_load-runner.ensures.event in
    halted_first _ _ _ _ _ _ _ _ _ _ _ _ _ load c.if-not-passes.ensures (omega arith)

pub next-next-requires : goal.next-next-requires
next-next-requires g c =
    let met = g.met.S.Structure g.world.𝓛 g.world.𝓜 g.world.𝓡 ((λ s allowed. allowed), (λ patient. patient), (λ alone. alone), (λ cuts. cuts)) in
    let m = g.S.Structure.meaning c.args.table.now.structure in
    let laws = met.laws c.args.table.now.structure in
    let may = c.requires.next.1 in
    let load = loads m laws c.args.table.now (c.requires.own.limits _ refl) (c.requires.own.allowed _ refl) _ c.requires.own _ _ _ _ may _ _ c.private_load-runner.ensures.event in
    subst (λ n. version_of n + 1 < 2 ^ 32) (sym c.from_bits.ensures)
    (few_versions m laws c.args.table.now (c.requires.own.limits _ refl) (c.requires.own.allowed _ refl) _ c.requires.own _ _ _ _ may _ _ c.private_load-runner.ensures.own load)

pub private_store-runner-requires-clause-next : goal.private_store-runner-requires-clause-next
private_store-runner-requires-clause-next g c κs within =
    let met = g.met.S.Structure g.world.𝓛 g.world.𝓜 g.world.𝓡 ((λ s allowed. allowed), (λ patient. patient), (λ alone. alone), (λ cuts. cuts)) in
    let m = g.S.Structure.meaning c.args.table.now.structure in
    let laws = met.laws c.args.table.now.structure in
    let may = c.requires.next.1 in
    let load = loads m laws c.args.table.now (c.requires.own.limits _ refl) (c.requires.own.allowed _ refl) _ c.requires.own _ _ _ _ may _ _ c.private_load-runner.ensures.event in
    let number = c.bits.ensures.number ∙ (c.next-next.ensures ∙ ap (λ n. next_word n c.args.value) c.from_bits.ensures) in
    may_store m laws c.args.table.now (c.requires.own.limits _ refl) (c.requires.own.allowed _ refl) _ c.requires.own _ _ _ _ may _ _ c.private_load-runner.ensures.own load _ number

pub returns-then-not-passes-2-clause-halted : goal.returns-then-not-passes-2-clause-halted
returns-then-not-passes-2-clause-halted g c = λ _.
    let met = g.met.S.Structure g.world.𝓛 g.world.𝓜 g.world.𝓡 ((λ s allowed. allowed), (λ patient. patient), (λ alone. alone), (λ cuts. cuts)) in
    let m = g.S.Structure.meaning c.args.table.now.structure in
    let laws = met.laws c.args.table.now.structure in
    let may = c.requires.next.1 in
    let load = loads m laws c.args.table.now (c.requires.own.limits _ refl) (c.requires.own.allowed _ refl) _ c.requires.own _ _ _ _ may _ _ c.private_load-runner.ensures.event in
    let number = c.bits.ensures.number ∙ (c.next-next.ensures ∙ ap (λ n. next_word n c.args.value) c.from_bits.ensures) in
    let store = stores m laws c.args.table.now (c.requires.own.limits _ refl) (c.requires.own.allowed _ refl) _ c.requires.own _ _ _ _ may _ _ c.private_load-runner.ensures.own load _ _ _ number (c.private_store-runner.ensures.event 0) in
    halted_more _ _ 1 1 _ _ _ _ _ _ _ _ _ _ _ _ (ran_one _ _ _ _ _ _ load) c.if-not-passes.ensures
    (halted_first _ _ _ _ _ _ _ _ _ _ _ _ _ store c.if-not-passes-2.ensures (omega arith)) (omega arith)

pub returns-clause-filled : goal.returns-clause-filled
returns-clause-filled g c = λ _ q is.
    let met = g.met.S.Structure g.world.𝓛 g.world.𝓜 g.world.𝓡 ((λ s allowed. allowed), (λ patient. patient), (λ alone. alone), (λ cuts. cuts)) in
    let m = g.S.Structure.meaning c.args.table.now.structure in
    let laws = met.laws c.args.table.now.structure in
    let may = c.requires.next.1 in
    let load = loads m laws c.args.table.now (c.requires.own.limits _ refl) (c.requires.own.allowed _ refl) _ c.requires.own _ _ _ _ may _ _ c.private_load-runner.ensures.event in
    let number = c.bits.ensures.number ∙ (c.next-next.ensures ∙ ap (λ n. next_word n c.args.value) c.from_bits.ensures) in
    let store = stores m laws c.args.table.now (c.requires.own.limits _ refl) (c.requires.own.allowed _ refl) _ c.requires.own _ _ _ _ may _ _ c.private_load-runner.ensures.own load _ _ _ number (c.private_store-runner.ensures.event 0) in
    subst (λ (p : RunState). HasFilled m c.args.slot c.args.cell c.args.value c.args.runner c.private_store-runner.result p) (one_run m _ _ _ may.running is)
    (then_filled m laws c.args.table.now (c.requires.own.limits _ refl) (c.requires.own.allowed _ refl) _ c.requires.own _ _ _ _ may _ _ c.private_load-runner.ensures.own load _ _ store)
