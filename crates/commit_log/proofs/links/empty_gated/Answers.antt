use Rattle.std.proofs.Common.{◌≡◌, ◌+◌, ◌≤◌, arith, refl, subst}
use Rattle.machine_states.specs.table_words.specs.Places.{block_words}
use Rattle.machine_states.specs.runner_parts.specs.State.{RunState}
use Rattle.commit_log.specs.Links.{IsEmptying}
use Rattle.commit_log.proofs.Asked.{asked_none}
use Rattle.commit_log.proofs.Running.{one_run, ran_link}
use Rattle.commit_log.proofs.Halting.{halted_one, halted_more, through_one, through_more, through_few}
use Rattle.commit_log.proofs.Emptying.{most, may_empty, empties, emptied, nothing_changed}
use Rattle.commit_log.proofs.links.empty_gated.Goals as goal

pub loop-word-init : goal.loop-word-init
loop-word-init g c =
    let m = g.S.Structure.meaning c.args.table.now.structure in
    let may = c.requires.next.1 in
    record {
      own = c.requires.own;
      emptying = λ q is. subst (λ (p : RunState). (q' : RunState) × IsEmptying m c.args.block c.emptied-first.result c.args.runner c.args.runner p q') (one_run m _ _ _ may.running is)
          (c.requires.next.0, nothing_changed m c.args.runner c.requires.next.0 c.args.block c.emptied-first.result may c.requires.next.3 (c.emptied-first.ensures c.requires.next.0 may.running.inside.running));
      through = record { made = 0; few = omega arith; ran = refl; asked = asked_none _ _ _ };
    }

pub empty_word-runner-requires-clause-next : goal.empty_word-runner-requires-clause-next
empty_word-runner-requires-clause-next g c κs within =
    let met = g.met.S.Structure g.world.𝓛 g.world.𝓜 g.world.𝓡 ((λ s allowed. allowed), (λ patient. patient), (λ alone. alone), (λ cuts. cuts)) in
    let m = g.S.Structure.meaning c.args.table.now.structure in
    let laws = met.laws c.args.table.now.structure in
    let may = c.requires.next.1 in
    let now = c.loop-word.invariant.emptying c.requires.next.0 may.running in
    may_empty m laws c.args.table.now (c.requires.own.limits _ refl) (c.requires.own.allowed _ refl) c.args.runner c.requires.next.0 may c.requires.next.2 c.args.block c.loop-word.word
    c.loop-word.runner c.loop-word.invariant.own now.0 now.1 c.loop-word-test.true

pub returns-then-not-passes-clause-halted : goal.returns-then-not-passes-clause-halted
returns-then-not-passes-clause-halted g c = λ _.
    let met = g.met.S.Structure g.world.𝓛 g.world.𝓜 g.world.𝓡 ((λ s allowed. allowed), (λ patient. patient), (λ alone. alone), (λ cuts. cuts)) in
    let m = g.S.Structure.meaning c.args.table.now.structure in
    let laws = met.laws c.args.table.now.structure in
    let may = c.requires.next.1 in
    let now = c.loop-word.invariant.emptying c.requires.next.0 may.running in
    let step = empties m laws c.args.table.now (c.requires.own.limits _ refl) (c.requires.own.allowed _ refl) c.args.runner c.requires.next.0 may c.requires.next.2 c.args.block c.loop-word.word
    c.loop-word.runner c.loop-word.invariant.own now.0 now.1 c.loop-word-test.true _ (c.empty_word-runner.ensures.event 0) in
    let through = c.loop-word.invariant.through in let few = through.few in let low = c.loop-word-test.true in
    halted_more m block_words through.made 1 _ _ _ _ _ _ _ _ _ _ _ _ through.ran through.asked
    (halted_one m 1 _ _ _ _ _ _ _ _ (ran_link m _ _ _ _ step) c.if-not-passes.ensures (omega arith)) (omega (arith, few, low))

pub loop-word-preserved : goal.loop-word-preserved
loop-word-preserved g c =
    let met = g.met.S.Structure g.world.𝓛 g.world.𝓜 g.world.𝓡 ((λ s allowed. allowed), (λ patient. patient), (λ alone. alone), (λ cuts. cuts)) in
    let m = g.S.Structure.meaning c.args.table.now.structure in
    let laws = met.laws c.args.table.now.structure in
    let may = c.requires.next.1 in
    let now = c.loop-word.invariant.emptying c.requires.next.0 may.running in
    let step = empties m laws c.args.table.now (c.requires.own.limits _ refl) (c.requires.own.allowed _ refl) c.args.runner c.requires.next.0 may c.requires.next.2 c.args.block c.loop-word.word
    c.loop-word.runner c.loop-word.invariant.own now.0 now.1 c.loop-word-test.true _ (c.empty_word-runner.ensures.event 0) in
    let more = emptied m laws c.args.table.now (c.requires.own.limits _ refl) (c.requires.own.allowed _ refl) c.args.runner c.requires.next.0 may c.requires.next.2 c.args.block c.loop-word.word
    c.loop-word.runner c.loop-word.invariant.own now.0 now.1 c.loop-word-test.true _ (c.empty_word-runner.ensures.event 0) in
    record {
      own = c.empty_word-runner.ensures.own;
      emptying = λ q is. subst (λ (p : RunState). (q' : RunState) × IsEmptying m c.args.block (c.loop-word.word + 1) c.args.runner c.empty_word-runner.result p q') (one_run m _ _ _ may.running is) more;
      through = through_more m c.loop-word.word 1 (c.loop-word.word + 1) _ _ _ _ _ _ _ _ _ _ _ _ c.loop-word.invariant.through
          (through_one m _ _ _ _ _ _ _ _ (ran_link m _ _ _ _ step) c.if-not-passes.ensures) (omega arith);
    }

pub returns-clause-emptied : goal.returns-clause-emptied
returns-clause-emptied g c = λ _ q is.
    let met = g.met.S.Structure g.world.𝓛 g.world.𝓜 g.world.𝓡 ((λ s allowed. allowed), (λ patient. patient), (λ alone. alone), (λ cuts. cuts)) in
    let m = g.S.Structure.meaning c.args.table.now.structure in
    let laws = met.laws c.args.table.now.structure in
    let may = c.requires.next.1 in
    let few = most m laws c.args.table.now (c.requires.own.limits _ refl) (c.requires.own.allowed _ refl) c.args.runner c.requires.own c.requires.next.0 may.running in
    let first = c.emptied-first.ensures c.requires.next.0 may.running.inside.running in
    let last : c.loop-word.word ≡ block_words = (let a = c.loop-word-test.false in let b = c.loop-word.auto.word-end in omega (arith, a, b, few, first)) in
    subst (λ n. (q' : RunState) × IsEmptying m c.args.block n c.args.runner c.loop-word.runner q q') last (c.loop-word.invariant.emptying q is)

pub returns-clause-through : goal.returns-clause-through
returns-clause-through g c = λ _.
    let met = g.met.S.Structure g.world.𝓛 g.world.𝓜 g.world.𝓡 ((λ s allowed. allowed), (λ patient. patient), (λ alone. alone), (λ cuts. cuts)) in
    let m = g.S.Structure.meaning c.args.table.now.structure in
    let laws = met.laws c.args.table.now.structure in
    let may = c.requires.next.1 in
    let few = most m laws c.args.table.now (c.requires.own.limits _ refl) (c.requires.own.allowed _ refl) c.args.runner c.requires.own c.requires.next.0 may.running in
    let first = c.emptied-first.ensures c.requires.next.0 may.running.inside.running in
    let low : c.loop-word.word ≤ block_words = (let b = c.loop-word.auto.word-end in omega (arith, b, few, first)) in
    through_few m c.loop-word.word block_words _ _ _ _ _ _ _ _ low c.loop-word.invariant.through
