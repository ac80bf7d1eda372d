use Rattle.std.proofs.Common.{ℕ, ◌+◌, ◌-◌, List, length, arith, ap, sym, subst, ◌∙◌, Some, refl}
use Rattle.std.specs.Prelude.{slice_index}
use Rattle.runner_steps.specs.runner_parts.specs.State.{RunState}
use Rattle.commit_log.specs.Links.{links_cost}
use Rattle.commit_log.proofs.Halting.{halted_first, halted_more, through_one, through_more}
use Rattle.commit_log.proofs.Running.{one_run, ran_one}
use Rattle.idem_alloc.specs.Made.{HasMade}
use Rattle.idem_alloc.proofs.Making.{last_is, same_cost, may_link, may_commit, knows, commits, has_made}
use Rattle.idem_alloc.proofs.makes.make_gated.Goals as goal

pub returns-then-not-filled-clause-halted : goal.returns-then-not-filled-clause-halted
returns-then-not-filled-clause-halted g c = λ q is.
    let halted = c.fill_all-runner.ensures.halted c.if-not-filled.true in let few = halted.few in
    record { made = halted.made; some = halted.some; few = omega (arith, few); ran = halted.ran; asked = halted.asked }

pub link_if_due-runner-requires-clause-next : goal.link_if_due-runner-requires-clause-next
link_if_due-runner-requires-clause-next g c κs within =
    let met = g.met.S.Structure g.world.𝓛 g.world.𝓜 g.world.𝓡 ((λ s allowed. allowed), (λ patient. patient), (λ alone. alone), (λ cuts. cuts)) in
    let m = g.S.Structure.meaning c.args.table.now.structure in
    let laws = met.laws c.args.table.now.structure in
    let may = c.requires.next.1 in
    let filled = c.fill_all-runner.ensures.filled c.if-not-filled.false c.requires.next.0 may.running in
    let free = last_is c.args.runner.part.nodes.free may.reserve ∙ ap (λ (xs : List ℕ). Some (slice_index xs (length xs - 1))) (sym c.free_nodes-free.ensures.list) in
    (filled.behind, may_link m laws c.args.table.now (c.requires.own.limits _ refl) (c.requires.own.allowed _ refl) _ _ _ may _ free _ c.fill_all-runner.ensures.own filled)

pub returns-then-not-linked-clause-halted : goal.returns-then-not-linked-clause-halted
returns-then-not-linked-clause-halted g c = λ q is.
    let met = g.met.S.Structure g.world.𝓛 g.world.𝓜 g.world.𝓡 ((λ s allowed. allowed), (λ patient. patient), (λ alone. alone), (λ cuts. cuts)) in
    let m = g.S.Structure.meaning c.args.table.now.structure in
    let laws = met.laws c.args.table.now.structure in
    let may = c.requires.next.1 in
    let filled = c.fill_all-runner.ensures.filled c.if-not-filled.false c.requires.next.0 may.running in
    let free = last_is c.args.runner.part.nodes.free may.reserve ∙ ap (λ (xs : List ℕ). Some (slice_index xs (length xs - 1))) (sym c.free_nodes-free.ensures.list) in
    let same = ap (links_cost 1) (one_run m _ _ _ may.running is) in
    let cost = same_cost m laws c.args.table.now (c.requires.own.limits _ refl) (c.requires.own.allowed _ refl) _ _ _ may _ free _ c.fill_all-runner.ensures.own filled in
    halted_more _ _ 10 (links_cost 1 filled.behind) _ _ _ _ _ _ _ _ _ _ _ _ filled.ran (c.fill_all-runner.ensures.asked c.if-not-filled.false)
    (c.link_if_due-runner.ensures.halted c.if-not-linked.true _ filled.running) (omega (arith, same, cost))

pub make_commit-runner-requires-clause-next : goal.make_commit-runner-requires-clause-next
make_commit-runner-requires-clause-next g c κs within =
    let met = g.met.S.Structure g.world.𝓛 g.world.𝓜 g.world.𝓡 ((λ s allowed. allowed), (λ patient. patient), (λ alone. alone), (λ cuts. cuts)) in
    let m = g.S.Structure.meaning c.args.table.now.structure in
    let laws = met.laws c.args.table.now.structure in
    let may = c.requires.next.1 in
    let filled = c.fill_all-runner.ensures.filled c.if-not-filled.false c.requires.next.0 may.running in
    let free = last_is c.args.runner.part.nodes.free may.reserve ∙ ap (λ (xs : List ℕ). Some (slice_index xs (length xs - 1))) (sym c.free_nodes-free.ensures.list) in
    let links = c.link_if_due-runner.ensures.linked c.if-not-linked.false _ filled.running in
    may_commit m laws c.args.table.now (c.requires.own.limits _ refl) (c.requires.own.allowed _ refl) _ _ _ may _ free _ c.fill_all-runner.ensures.own filled _ c.link_if_due-runner.ensures.own _ links.1

pub make_commit-runner-requires-clause-linked : goal.make_commit-runner-requires-clause-linked
make_commit-runner-requires-clause-linked g c κs within =
    let met = g.met.S.Structure g.world.𝓛 g.world.𝓜 g.world.𝓡 ((λ s allowed. allowed), (λ patient. patient), (λ alone. alone), (λ cuts. cuts)) in
    let m = g.S.Structure.meaning c.args.table.now.structure in
    let laws = met.laws c.args.table.now.structure in
    let may = c.requires.next.1 in
    let filled = c.fill_all-runner.ensures.filled c.if-not-filled.false c.requires.next.0 may.running in
    let free = last_is c.args.runner.part.nodes.free may.reserve ∙ ap (λ (xs : List ℕ). Some (slice_index xs (length xs - 1))) (sym c.free_nodes-free.ensures.list) in
    let links = c.link_if_due-runner.ensures.linked c.if-not-linked.false _ filled.running in
    knows m laws c.args.table.now (c.requires.own.limits _ refl) (c.requires.own.allowed _ refl) _ _ _ may _ free _ c.fill_all-runner.ensures.own filled _ c.link_if_due-runner.ensures.own _ links.1

pub returns-then-not-passes-clause-halted : goal.returns-then-not-passes-clause-halted
returns-then-not-passes-clause-halted g c = λ q is.
    let met = g.met.S.Structure g.world.𝓛 g.world.𝓜 g.world.𝓡 ((λ s allowed. allowed), (λ patient. patient), (λ alone. alone), (λ cuts. cuts)) in
    let m = g.S.Structure.meaning c.args.table.now.structure in
    let laws = met.laws c.args.table.now.structure in
    let may = c.requires.next.1 in
    let filled = c.fill_all-runner.ensures.filled c.if-not-filled.false c.requires.next.0 may.running in
    let free = last_is c.args.runner.part.nodes.free may.reserve ∙ ap (λ (xs : List ℕ). Some (slice_index xs (length xs - 1))) (sym c.free_nodes-free.ensures.list) in
    let links = c.link_if_due-runner.ensures.linked c.if-not-linked.false _ filled.running in
    let commit = commits m laws c.args.table.now (c.requires.own.limits _ refl) (c.requires.own.allowed _ refl) _ _ _ may _ free _ c.fill_all-runner.ensures.own filled
    _ c.link_if_due-runner.ensures.own _ links.1 _ _ _ c.make_commit-runner.ensures.event in
    let same = ap (links_cost 1) (one_run m _ _ _ may.running is) in
    let cost = same_cost m laws c.args.table.now (c.requires.own.limits _ refl) (c.requires.own.allowed _ refl) _ _ _ may _ free _ c.fill_all-runner.ensures.own filled in
    let through = c.link_if_due-runner.ensures.through c.if-not-linked.false _ filled.running in let few = through.few in
    halted_more _ _ 10 (through.made + 1) _ _ _ _ _ _ _ _ _ _ _ _ filled.ran (c.fill_all-runner.ensures.asked c.if-not-filled.false)
    (halted_more _ _ through.made 1 _ _ _ _ _ _ _ _ _ _ _ _ through.ran through.asked
    (halted_first _ _ _ _ _ _ _ _ _ _ _ _ _ commit c.if-not-passes.ensures (omega arith)) (omega arith)) (omega (arith, few, same, cost))

pub returns-clause-made : goal.returns-clause-made
returns-clause-made g c = λ q is.
    let met = g.met.S.Structure g.world.𝓛 g.world.𝓜 g.world.𝓡 ((λ s allowed. allowed), (λ patient. patient), (λ alone. alone), (λ cuts. cuts)) in
    let m = g.S.Structure.meaning c.args.table.now.structure in
    let laws = met.laws c.args.table.now.structure in
    let may = c.requires.next.1 in
    let filled = c.fill_all-runner.ensures.filled c.if-not-filled.false c.requires.next.0 may.running in
    let free = last_is c.args.runner.part.nodes.free may.reserve ∙ ap (λ (xs : List ℕ). Some (slice_index xs (length xs - 1))) (sym c.free_nodes-free.ensures.list) in
    let links = c.link_if_due-runner.ensures.linked c.if-not-linked.false _ filled.running in
    let commit = commits m laws c.args.table.now (c.requires.own.limits _ refl) (c.requires.own.allowed _ refl) _ _ _ may _ free _ c.fill_all-runner.ensures.own filled
    _ c.link_if_due-runner.ensures.own _ links.1 _ _ _ c.make_commit-runner.ensures.event in
    subst (λ (p : RunState). HasMade m c.make_commit-runner.result.1 c.args.runner c.make_commit-runner.result.0 p) (one_run m _ _ _ may.running is)
    (has_made m laws c.args.table.now (c.requires.own.limits _ refl) (c.requires.own.allowed _ refl) _ _ _ may _ free _ c.fill_all-runner.ensures.own filled
    _ c.link_if_due-runner.ensures.own _ links.1 _ _ _ c.make_commit-runner.ensures.proposal commit)

pub returns-clause-through : goal.returns-clause-through
returns-clause-through g c = λ q is.
    let met = g.met.S.Structure g.world.𝓛 g.world.𝓜 g.world.𝓡 ((λ s allowed. allowed), (λ patient. patient), (λ alone. alone), (λ cuts. cuts)) in
    let m = g.S.Structure.meaning c.args.table.now.structure in
    let laws = met.laws c.args.table.now.structure in
    let may = c.requires.next.1 in
    let filled = c.fill_all-runner.ensures.filled c.if-not-filled.false c.requires.next.0 may.running in
    let free = last_is c.args.runner.part.nodes.free may.reserve ∙ ap (λ (xs : List ℕ). Some (slice_index xs (length xs - 1))) (sym c.free_nodes-free.ensures.list) in
    let links = c.link_if_due-runner.ensures.linked c.if-not-linked.false _ filled.running in
    let commit = commits m laws c.args.table.now (c.requires.own.limits _ refl) (c.requires.own.allowed _ refl) _ _ _ may _ free _ c.fill_all-runner.ensures.own filled
    _ c.link_if_due-runner.ensures.own _ links.1 _ _ _ c.make_commit-runner.ensures.event in
    let same = ap (links_cost 1) (one_run m _ _ _ may.running is) in
    let cost = same_cost m laws c.args.table.now (c.requires.own.limits _ refl) (c.requires.own.allowed _ refl) _ _ _ may _ free _ c.fill_all-runner.ensures.own filled in
    through_more _ 10 (links_cost 1 filled.behind + 1) _ _ _ _ _ _ _ _ _ _ _ _ _ (record { made = 10; few = omega arith; ran = filled.ran; asked = c.fill_all-runner.ensures.asked c.if-not-filled.false })
    (through_more _ (links_cost 1 filled.behind) 1 _ _ _ _ _ _ _ _ _ _ _ _ _ (c.link_if_due-runner.ensures.through c.if-not-linked.false _ filled.running)
    (through_one _ _ _ _ _ _ _ _ _ (ran_one _ _ _ _ _ _ commit) c.if-not-passes.ensures) (omega arith)) (omega (arith, same, cost))
