use Rattle.std.proofs.Common.{arith, ap, refl}
use Rattle.idem_alloc.specs.commit_log.proofs.Running.{ran_one}
use Rattle.idem_alloc.specs.commit_log.proofs.Asked.{asked_more}
use Rattle.idem_alloc.specs.commit_log.proofs.Halting.{halted_first, halted_more, through_by, halted_by, asked_if}
use Rattle.std.specs.Prelude.{◌/◌}
use Rattle.section_runs.proofs.Stamping.{may_load, loads, few_clock, may_exchange, exchanges, stamp_is, may_raise, raises, stamp_ran, stamp_goes, stamp_trail}
use Rattle.section_runs.proofs.steps.stamp_step.Goals as goal

pub clock_load-runner-requires-clause-next : goal.clock_load-runner-requires-clause-next
clock_load-runner-requires-clause-next g c κs within =
    let met = g.met.S.Structure g.world.𝓛 g.world.𝓜 g.world.𝓡 ((λ s allowed. allowed), (λ patient. patient), (λ alone. alone), (λ cuts. cuts)) in
    let m = g.S.Structure.meaning c.args.table.now.structure in
    let laws = met.laws c.args.table.now.structure in
    let t = c.args.table.now in
    let limits = c.requires.own.limits _ refl in
    let allowed = c.requires.own.allowed _ refl in
    let r = c.args.runner in
    may_load m laws t limits allowed r c.requires.own c.requires.next

pub returns-then-not-passes-clause-halted : goal.returns-then-not-passes-clause-halted
returns-then-not-passes-clause-halted g c =
    let met = g.met.S.Structure g.world.𝓛 g.world.𝓜 g.world.𝓡 ((λ s allowed. allowed), (λ patient. patient), (λ alone. alone), (λ cuts. cuts)) in
    let m = g.S.Structure.meaning c.args.table.now.structure in
    let laws = met.laws c.args.table.now.structure in
    let t = c.args.table.now in
    let limits = c.requires.own.limits _ refl in
    let allowed = c.requires.own.allowed _ refl in
    let r = c.args.runner in
    let load = loads m laws t limits allowed r c.requires.own c.requires.next _ _ c.clock_load-runner.ensures.event in
    λ _. halted_first _ _ _ _ _ _ _ _ _ _ _ _ _ load c.if-not-passes.ensures (omega arith)

pub overflow_add-clock : goal.overflow_add-clock
overflow_add-clock g c =
    let met = g.met.S.Structure g.world.𝓛 g.world.𝓜 g.world.𝓡 ((λ s allowed. allowed), (λ patient. patient), (λ alone. alone), (λ cuts. cuts)) in
    let m = g.S.Structure.meaning c.args.table.now.structure in
    let laws = met.laws c.args.table.now.structure in
    let t = c.args.table.now in
    let limits = c.requires.own.limits _ refl in
    let allowed = c.requires.own.allowed _ refl in
    let r = c.args.runner in
    let load = loads m laws t limits allowed r c.requires.own c.requires.next _ _ c.clock_load-runner.ensures.event in
    let few = few_clock m laws t limits allowed r c.requires.own c.requires.next _ _ c.clock_load-runner.ensures.own load in omega (arith, few)

pub overflow_mul-clock : goal.overflow_mul-clock
overflow_mul-clock g c =
    let met = g.met.S.Structure g.world.𝓛 g.world.𝓜 g.world.𝓡 ((λ s allowed. allowed), (λ patient. patient), (λ alone. alone), (λ cuts. cuts)) in
    let m = g.S.Structure.meaning c.args.table.now.structure in
    let laws = met.laws c.args.table.now.structure in
    let t = c.args.table.now in
    let limits = c.requires.own.limits _ refl in
    let allowed = c.requires.own.allowed _ refl in
    let r = c.args.runner in
    let load = loads m laws t limits allowed r c.requires.own c.requires.next _ _ c.clock_load-runner.ensures.event in
    let few = few_clock m laws t limits allowed r c.requires.own c.requires.next _ _ c.clock_load-runner.ensures.own load in omega (arith, few)

pub stamp_exchange-runner-requires-clause-next : goal.stamp_exchange-runner-requires-clause-next
stamp_exchange-runner-requires-clause-next g c κs within =
    let met = g.met.S.Structure g.world.𝓛 g.world.𝓜 g.world.𝓡 ((λ s allowed. allowed), (λ patient. patient), (λ alone. alone), (λ cuts. cuts)) in
    let m = g.S.Structure.meaning c.args.table.now.structure in
    let laws = met.laws c.args.table.now.structure in
    let t = c.args.table.now in
    let limits = c.requires.own.limits _ refl in
    let allowed = c.requires.own.allowed _ refl in
    let r = c.args.runner in
    let load = loads m laws t limits allowed r c.requires.own c.requires.next _ _ c.clock_load-runner.ensures.event in
    may_exchange m laws t limits allowed r c.requires.own c.requires.next _ _ c.clock_load-runner.ensures.own load _ refl

pub returns-then-not-passes-2-clause-halted : goal.returns-then-not-passes-2-clause-halted
returns-then-not-passes-2-clause-halted g c =
    let met = g.met.S.Structure g.world.𝓛 g.world.𝓜 g.world.𝓡 ((λ s allowed. allowed), (λ patient. patient), (λ alone. alone), (λ cuts. cuts)) in
    let m = g.S.Structure.meaning c.args.table.now.structure in
    let laws = met.laws c.args.table.now.structure in
    let t = c.args.table.now in
    let limits = c.requires.own.limits _ refl in
    let allowed = c.requires.own.allowed _ refl in
    let r = c.args.runner in
    let load = loads m laws t limits allowed r c.requires.own c.requires.next _ _ c.clock_load-runner.ensures.event in
    let exchange = exchanges m laws t limits allowed r c.requires.own c.requires.next _ _ c.clock_load-runner.ensures.own load _ _ c.stamp_exchange-runner.ensures.event.event in
    λ _. halted_more _ _ 1 2 _ _ _ _ _ _ _ _ _ _ _ _ (ran_one _ _ _ _ _ _ load) c.if-not-passes.ensures
    (halted_first _ _ _ _ _ _ _ _ _ _ _ _ _ exchange c.if-not-passes-2.ensures (omega arith)) (omega arith)

pub clock_raise-runner-requires-clause-next : goal.clock_raise-runner-requires-clause-next
clock_raise-runner-requires-clause-next g c κs within =
    let met = g.met.S.Structure g.world.𝓛 g.world.𝓜 g.world.𝓡 ((λ s allowed. allowed), (λ patient. patient), (λ alone. alone), (λ cuts. cuts)) in
    let m = g.S.Structure.meaning c.args.table.now.structure in
    let laws = met.laws c.args.table.now.structure in
    let t = c.args.table.now in
    let limits = c.requires.own.limits _ refl in
    let allowed = c.requires.own.allowed _ refl in
    let r = c.args.runner in
    let load = loads m laws t limits allowed r c.requires.own c.requires.next _ _ c.clock_load-runner.ensures.event in
    let exchange = exchanges m laws t limits allowed r c.requires.own c.requires.next _ _ c.clock_load-runner.ensures.own load _ _ c.stamp_exchange-runner.ensures.event.event in
    may_raise m laws t limits allowed r c.requires.own c.requires.next _ _ c.clock_load-runner.ensures.own load _ _ c.stamp_exchange-runner.ensures.own exchange _
    (ap (λ n. n / 2) (stamp_is m laws t limits allowed r c.requires.own c.requires.next _ _ c.clock_load-runner.ensures.own load _ _ refl _ c.stamp_exchange-runner.ensures.event))

pub returns-clause-goes : goal.returns-clause-goes
returns-clause-goes g c =
    let met = g.met.S.Structure g.world.𝓛 g.world.𝓜 g.world.𝓡 ((λ s allowed. allowed), (λ patient. patient), (λ alone. alone), (λ cuts. cuts)) in
    let m = g.S.Structure.meaning c.args.table.now.structure in
    let laws = met.laws c.args.table.now.structure in
    let t = c.args.table.now in
    let limits = c.requires.own.limits _ refl in
    let allowed = c.requires.own.allowed _ refl in
    let r = c.args.runner in
    let load = loads m laws t limits allowed r c.requires.own c.requires.next _ _ c.clock_load-runner.ensures.event in
    let exchange = exchanges m laws t limits allowed r c.requires.own c.requires.next _ _ c.clock_load-runner.ensures.own load _ _ c.stamp_exchange-runner.ensures.event.event in
    let raise = raises m laws t limits allowed r c.requires.own c.requires.next _ _ c.clock_load-runner.ensures.own load _ _ c.stamp_exchange-runner.ensures.own exchange _ _ c.clock_raise-runner.ensures.event.event in
    λ _. stamp_goes m laws t limits allowed r c.requires.own c.requires.next _ _ c.clock_load-runner.ensures.own load _ _ c.stamp_exchange-runner.ensures.own exchange _ _ raise

pub returns-clause-trail : goal.returns-clause-trail
returns-clause-trail g c =
    let met = g.met.S.Structure g.world.𝓛 g.world.𝓜 g.world.𝓡 ((λ s allowed. allowed), (λ patient. patient), (λ alone. alone), (λ cuts. cuts)) in
    let m = g.S.Structure.meaning c.args.table.now.structure in
    let laws = met.laws c.args.table.now.structure in
    let t = c.args.table.now in
    let limits = c.requires.own.limits _ refl in
    let allowed = c.requires.own.allowed _ refl in
    let r = c.args.runner in
    let load = loads m laws t limits allowed r c.requires.own c.requires.next _ _ c.clock_load-runner.ensures.event in
    let exchange = exchanges m laws t limits allowed r c.requires.own c.requires.next _ _ c.clock_load-runner.ensures.own load _ _ c.stamp_exchange-runner.ensures.event.event in
    let raise = raises m laws t limits allowed r c.requires.own c.requires.next _ _ c.clock_load-runner.ensures.own load _ _ c.stamp_exchange-runner.ensures.own exchange _ _ c.clock_raise-runner.ensures.event.event in
    λ _. stamp_trail m laws t limits allowed r c.requires.own c.requires.next _ _ c.clock_load-runner.ensures.own load _ _ c.stamp_exchange-runner.ensures.own exchange _ _ raise

pub returns-clause-through : goal.returns-clause-through
returns-clause-through g c =
    let met = g.met.S.Structure g.world.𝓛 g.world.𝓜 g.world.𝓡 ((λ s allowed. allowed), (λ patient. patient), (λ alone. alone), (λ cuts. cuts)) in
    let m = g.S.Structure.meaning c.args.table.now.structure in
    let laws = met.laws c.args.table.now.structure in
    let t = c.args.table.now in
    let limits = c.requires.own.limits _ refl in
    let allowed = c.requires.own.allowed _ refl in
    let r = c.args.runner in
    let load = loads m laws t limits allowed r c.requires.own c.requires.next _ _ c.clock_load-runner.ensures.event in
    let exchange = exchanges m laws t limits allowed r c.requires.own c.requires.next _ _ c.clock_load-runner.ensures.own load _ _ c.stamp_exchange-runner.ensures.event.event in
    let raise = raises m laws t limits allowed r c.requires.own c.requires.next _ _ c.clock_load-runner.ensures.own load _ _ c.stamp_exchange-runner.ensures.own exchange _ _ c.clock_raise-runner.ensures.event.event in
    λ going. through_by m 3 3 _ _ _ _ _ _ _ _ (omega arith) (stamp_ran m laws t limits allowed r c.requires.own c.requires.next _ _ c.clock_load-runner.ensures.own load _ _ c.stamp_exchange-runner.ensures.own exchange _ _ raise)
    (asked_more 2 1 _ _ _ _ _ _ _ _ _ _ (asked_more 1 1 _ _ _ _ _ _ _ _ _ _ c.if-not-passes.ensures c.if-not-passes-2.ensures) (asked_if going c.passes-going.ensures))

pub returns-clause-halted : goal.returns-clause-halted
returns-clause-halted g c =
    let met = g.met.S.Structure g.world.𝓛 g.world.𝓜 g.world.𝓡 ((λ s allowed. allowed), (λ patient. patient), (λ alone. alone), (λ cuts. cuts)) in
    let m = g.S.Structure.meaning c.args.table.now.structure in
    let laws = met.laws c.args.table.now.structure in
    let t = c.args.table.now in
    let limits = c.requires.own.limits _ refl in
    let allowed = c.requires.own.allowed _ refl in
    let r = c.args.runner in
    let load = loads m laws t limits allowed r c.requires.own c.requires.next _ _ c.clock_load-runner.ensures.event in
    let exchange = exchanges m laws t limits allowed r c.requires.own c.requires.next _ _ c.clock_load-runner.ensures.own load _ _ c.stamp_exchange-runner.ensures.event.event in
    let raise = raises m laws t limits allowed r c.requires.own c.requires.next _ _ c.clock_load-runner.ensures.own load _ _ c.stamp_exchange-runner.ensures.own exchange _ _ c.clock_raise-runner.ensures.event.event in
    λ halted. halted_by m 3 3 _ _ _ _ _ _ _ _ (omega arith) (omega arith) (stamp_ran m laws t limits allowed r c.requires.own c.requires.next _ _ c.clock_load-runner.ensures.own load _ _ c.stamp_exchange-runner.ensures.own exchange _ _ raise)
    (asked_more 2 1 _ _ _ _ _ _ _ _ _ _ (asked_more 1 1 _ _ _ _ _ _ _ _ _ _ c.if-not-passes.ensures c.if-not-passes-2.ensures) (asked_if halted c.passes-going.ensures))
