use Rattle.std.proofs.Common.{arith, refl, sym, subst, ◌∙◌}
use Rattle.machine_states.specs.table_words.specs.Places.{block_words}
use Rattle.machine_states.specs.runner_parts.specs.State.{RunState}
use Rattle.commit_log.specs.Links.{link_cost, HasLinked}
use Rattle.commit_log.proofs.Running.{one_run, ran_link}
use Rattle.commit_log.proofs.Linking.{room_block}
use Rattle.commit_log.proofs.Halting.{halted_one, halted_more, halted_few, through_one, through_more, asked_if}
use Rattle.commit_log.proofs.Emptying.{may_commit_link, links_block, has_linked}
use Rattle.commit_log.proofs.links.link.Goals as goal

pub unreachable-requires : goal.unreachable-requires
unreachable-requires g c =
    let may = c.requires.next.1 in
    let some = room_block c.requires.next.0 may.running.enough c.args.runner.part may.room c.requires.next.2 in
    c.in_default.not-Some some.0 (c.next_block.ensures c.requires.next.0 may.running.inside.running ∙ some.1)

pub empty_gated-runner-requires-clause-next : goal.empty_gated-runner-requires-clause-next
empty_gated-runner-requires-clause-next g c κs within =
    let may = c.requires.next.1 in (
      c.requires.next.0,
      may,
      c.requires.next.2,
      sym (c.next_block.ensures c.requires.next.0 may.running.inside.running) ∙ c.in-Some.is,
    )

pub returns-then-not-emptied-clause-halted : goal.returns-then-not-emptied-clause-halted
returns-then-not-emptied-clause-halted g c = λ _.
    let m = g.S.Structure.meaning c.args.table.now.structure in
    halted_few m block_words link_cost _ _ _ _ _ _ _ _ (omega arith) (c.empty_gated-runner.ensures.halted c.if-not-emptied.true)

pub link_commit-runner-requires-clause-next : goal.link_commit-runner-requires-clause-next
link_commit-runner-requires-clause-next g c κs within =
    let met = g.met.S.Structure g.world.𝓛 g.world.𝓜 g.world.𝓡 ((λ s allowed. allowed), (λ patient. patient), (λ alone. alone), (λ cuts. cuts)) in
    let m = g.S.Structure.meaning c.args.table.now.structure in
    let laws = met.laws c.args.table.now.structure in
    let may = c.requires.next.1 in
    let now = c.empty_gated-runner.ensures.emptied c.if-not-emptied.false c.requires.next.0 may.running in
    may_commit_link m laws c.args.table.now (c.requires.own.limits _ refl) (c.requires.own.allowed _ refl) c.args.runner c.requires.next.0 may c.requires.next.2 c.in-Some.block block_words
    c.empty_gated-runner.result.0 c.empty_gated-runner.ensures.own now.0 now.1 refl

pub returns-clause-linked : goal.returns-clause-linked
returns-clause-linked g c = λ _ q is.
    let met = g.met.S.Structure g.world.𝓛 g.world.𝓜 g.world.𝓡 ((λ s allowed. allowed), (λ patient. patient), (λ alone. alone), (λ cuts. cuts)) in
    let m = g.S.Structure.meaning c.args.table.now.structure in
    let laws = met.laws c.args.table.now.structure in
    let may = c.requires.next.1 in
    let now = c.empty_gated-runner.ensures.emptied c.if-not-emptied.false c.requires.next.0 may.running in
    subst (λ (p : RunState). (q' : RunState) × HasLinked m c.args.runner c.link_commit-runner.result.0 p q') (one_run m _ _ _ may.running is)
    (has_linked m laws c.args.table.now (c.requires.own.limits _ refl) (c.requires.own.allowed _ refl) c.args.runner c.requires.next.0 may c.requires.next.2 c.in-Some.block block_words
    c.empty_gated-runner.result.0 c.empty_gated-runner.ensures.own now.0 now.1 refl _ _ c.link_commit-runner.ensures.event)

pub returns-clause-through : goal.returns-clause-through
returns-clause-through g c = λ going.
    let met = g.met.S.Structure g.world.𝓛 g.world.𝓜 g.world.𝓡 ((λ s allowed. allowed), (λ patient. patient), (λ alone. alone), (λ cuts. cuts)) in
    let m = g.S.Structure.meaning c.args.table.now.structure in
    let laws = met.laws c.args.table.now.structure in
    let may = c.requires.next.1 in
    let now = c.empty_gated-runner.ensures.emptied c.if-not-emptied.false c.requires.next.0 may.running in
    let step = links_block m laws c.args.table.now (c.requires.own.limits _ refl) (c.requires.own.allowed _ refl) c.args.runner c.requires.next.0 may c.requires.next.2 c.in-Some.block block_words
    c.empty_gated-runner.result.0 c.empty_gated-runner.ensures.own now.0 now.1 refl _ _ c.link_commit-runner.ensures.event in
    through_more m block_words 1 link_cost _ _ _ _ _ _ _ _ _ _ _ _ (c.empty_gated-runner.ensures.through c.if-not-emptied.false)
    (through_one m _ _ _ _ _ _ _ _ (ran_link m _ _ _ _ step) (asked_if going c.passes-going.ensures)) (omega arith)

pub returns-clause-halted : goal.returns-clause-halted
returns-clause-halted g c = λ halted.
    let met = g.met.S.Structure g.world.𝓛 g.world.𝓜 g.world.𝓡 ((λ s allowed. allowed), (λ patient. patient), (λ alone. alone), (λ cuts. cuts)) in
    let m = g.S.Structure.meaning c.args.table.now.structure in
    let laws = met.laws c.args.table.now.structure in
    let may = c.requires.next.1 in
    let now = c.empty_gated-runner.ensures.emptied c.if-not-emptied.false c.requires.next.0 may.running in
    let step = links_block m laws c.args.table.now (c.requires.own.limits _ refl) (c.requires.own.allowed _ refl) c.args.runner c.requires.next.0 may c.requires.next.2 c.in-Some.block block_words
    c.empty_gated-runner.result.0 c.empty_gated-runner.ensures.own now.0 now.1 refl _ _ c.link_commit-runner.ensures.event in
    let through = c.empty_gated-runner.ensures.through c.if-not-emptied.false in let few = through.few in
    halted_more m link_cost through.made 1 _ _ _ _ _ _ _ _ _ _ _ _ through.ran through.asked
    (halted_one m 1 _ _ _ _ _ _ _ _ (ran_link m _ _ _ _ step) (asked_if halted c.passes-going.ensures) (omega arith)) (omega (arith, few))
