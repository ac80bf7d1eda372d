use Rattle.std.proofs.Common.{rules, ◌≡◌, ℕ, ◌+◌, ◌<◌, ◌++◌, ◌∷◌, [], length, get_or, vec_items, vec_len, ap, sym, subst, arith, refl}
use Rattle.std.specs.Vec.Iter.{into_iter_items, into_iter_len}
use Rattle.machine_states.specs.table_words.specs.declared.layout.Layout.{Layout}
use Rattle.closed_words.specs.version_words.specs.RunnerState.{RunnerState}
use Rattle.closed_words.specs.version_words.proofs.Stages.{may_join}
use Rattle.settled_tables.specs.Keeper.{IsIdleKeeper}
use Rattle.settled_tables.specs.Seats.{IsBack}
use Rattle.settled_tables.proofs.Keeping.{then_gathered}
use Rattle.settled_tables.proofs.Working.{rest_behind, reported_more}
use Rattle.settled_tables.proofs.workers.join_workers.Goals as goal

pub join_runner-keeper-requires-clause-worker : goal.join_runner-keeper-requires-clause-worker
join_runner-keeper-requires-clause-worker g c κs within =
    let was = c.loop-one.invariant in let past = vec_len c.loop-one.reports in let step = c.in-Some.ensures.steps in
    let here : (d : RunnerState g.row.S.Denot × g.row.A.Denot) → get_or (vec_items c.args.workers) past d ≡ c.in-Some.one = λ d. let h = was.3 0 d in grind rules in
    let low : past < length (vec_items c.args.workers) = (let sum = was.2 in grind rules) in
    (subst (λ (x : RunnerState g.row.S.Denot × g.row.A.Denot). IsBack c.args.table.now past x.0) (here c.in-Some.one) (c.requires.back past c.in-Some.one low)).own

pub join_runner-keeper-requires-clause-next : goal.join_runner-keeper-requires-clause-next
join_runner-keeper-requires-clause-next g c κs within =
    let was = c.loop-one.invariant in let past = vec_len c.loop-one.reports in let step = c.in-Some.ensures.steps in
    let here : (d : RunnerState g.row.S.Denot × g.row.A.Denot) → get_or (vec_items c.args.workers) past d ≡ c.in-Some.one = λ d. let h = was.3 0 d in grind rules in
    let low : past < length (vec_items c.args.workers) = (let sum = was.2 in grind rules) in
    let number = (subst (λ (x : RunnerState g.row.S.Denot × g.row.A.Denot). IsBack c.args.table.now past x.0) (here c.in-Some.one) (c.requires.back past c.in-Some.one low)).number_is in
    may_join _ c.loop-one.keeper c.in-Some.one.0.number (vec_len c.args.workers) past was.1.keeper was.1.joined number
    (let same = ap (λ (l : Layout). l.runners) was.0.layout in let each = c.requires.each in let few : past < vec_len c.args.workers = search rules in omega (arith, number, same, each, few))

pub loop-one-preserved : goal.loop-one-preserved
loop-one-preserved g c =
    let was = c.loop-one.invariant in let past = vec_len c.loop-one.reports in let step = c.in-Some.ensures.steps in
    let f = c.in-Some.one in
    let m = g.S.Structure.meaning c.args.table.now.structure in
    let given = vec_items c.loop-one.reports in
    let here : (d : RunnerState g.row.S.Denot × g.row.A.Denot) → get_or (vec_items c.args.workers) past d ≡ f = λ d. let h = was.3 0 d in grind rules in
    let low : past < length (vec_items c.args.workers) = (let sum = was.2 in grind rules) in
    let back = subst (λ (x : RunnerState g.row.S.Denot × g.row.A.Denot). IsBack c.args.table.now past x.0) (here f) (c.requires.back past f low) in
    let long : length given ≡ past = search rules in
    let pushed : vec_items c.push.new.self ≡ given ++ f.1 ∷ [] = c.in_ok-push.ensures.items in
    let longer : past + 1 ≡ vec_len c.push.new.self = search rules in (
      search rules,
      subst (λ (n : ℕ). IsIdleKeeper m (vec_len c.args.workers) n c.join_runner-keeper.result) longer
          (then_gathered m c.loop-one.keeper f.0 c.join_runner-keeper.result (vec_len c.args.workers) past c.join_runner-keeper.ensures.event was.1 back.number_is),
      search rules,
      rest_behind (vec_items c.args.workers) (into_iter_items c.loop-one.one-iterator) (into_iter_items c.next.new.self) f past (vec_len c.push.new.self) (into_iter_len c.loop-one.one-iterator)
          (into_iter_len c.next.new.self) step.0 step.1 was.3 longer,
      reported_more (vec_items c.args.workers) given (vec_items c.push.new.self) f.1 f pushed refl
          (λ d. subst (λ (n : ℕ). get_or (vec_items c.args.workers) n d ≡ f) (sym long) (here d)) was.4,
    )
