use Rattle.std.proofs.Common.{rules, ◌≡◌, ℕ, ◌+◌, ◌<◌, List, ◌++◌, ◌∷◌, [], length, take, get_or, vec_items, vec_len, ◌∙◌, ap, sym, subst, arith}
use Rattle.std.specs.Vec.Iter.{into_iter_items, into_iter_len}
use Rattle.machine_states.specs.table_words.specs.declared.layout.Layout.{Layout}
use Rattle.version_words.proofs.Stages.{may_join}
use Rattle.settled_tables.specs.settling.specs.runner_gate.specs.Counts.{plus, halts_after}
use Rattle.threaded_runs.specs.declared.job.Finished.{Finished}
use Rattle.settled_tables.specs.Keeper.{IsIdleKeeper}
use Rattle.threaded_runs.specs.Counts.{halts_counted, returns_counted}
use Rattle.threaded_runs.specs.Jobs.{IsBack, asks_counted}
use Rattle.settled_tables.proofs.Keeping.{then_gathered}
use Rattle.settled_tables.proofs.Working.{rest_behind}
use Rattle.threaded_runs.proofs.Seats.{kept_more}
use Rattle.threaded_runs.proofs.Counting.{halts_more, counted_so, asks_next, one_returned}
use Rattle.threaded_runs.proofs.seating.gather.Goals as goal

-- what comes next of a list is its element at this place, and there is one
first_item : {X : Type 0} (whole old new : List X) (x : X) (past many left : ℕ) → old ≡ x ∷ new → left + 1 ≡ many
    → ((k : ℕ) (d : X) → k < many → get_or old k d ≡ get_or whole (past + k) d) → (d : X) → get_or whole past d ≡ x
first_item whole old new x past many left is lens all d =
    let some : 0 < many = omega (arith, lens) in
    let same : past + 0 ≡ past = omega arith in
    ap (λ (n : ℕ). get_or whole n d) (sym same) ∙ (sym (all 0 d some) ∙ ap (λ xs. get_or xs 0 d) is)

one_left : (past many left all : ℕ) → past + many ≡ all → left + 1 ≡ many → past < all
one_left past many left all sum lens = omega (arith, sum, lens)

pub join_runner-keeper-requires-clause-next : goal.join_runner-keeper-requires-clause-next
join_runner-keeper-requires-clause-next g c κs within =
    let was = c.loop-one.invariant in let past = vec_len c.loop-one.answers in let step = c.in-Some.ensures.steps in
    let here : (d : Finished g.row.S.Denot g.row.G-Gate.Denot) → get_or (vec_items c.args.finished) past d ≡ c.in-Some.one = λ d. let h = was.3 0 d in grind rules in
    let low : past < length (vec_items c.args.finished) = (let sum = was.2 in grind rules) in
    let back = subst (IsBack g.G.Gate.Gate.halts c.args.table.now past) (here c.in-Some.one) (c.requires.back past c.in-Some.one low) in
    let number = back.number in
    may_join _ c.loop-one.keeper c.in-Some.one.runner.number (vec_len c.args.finished) past was.1.keeper was.1.joined number
    (let same = ap (λ (l : Layout). l.runners) was.0.layout in let each = c.requires.each in let few : past < vec_len c.args.finished = search rules in omega (arith, number, same, each, few))

pub loop-one-preserved : goal.loop-one-preserved
loop-one-preserved g c =
    let was = c.loop-one.invariant in let past = vec_len c.loop-one.answers in let step = c.in-Some.ensures.steps in
    let f = c.in-Some.one in
    let m = g.S.Structure.meaning c.args.table.now.structure in
    let given = vec_items c.loop-one.answers in
    let first = g.G.Gates.halts c.args.gates.now in
    let of_gate = g.G.Gate.Gate.halts f.gate in
    let asks = g.G.Gate.Gate.asks in
    let asked = g.G.Gates.asks c.args.gates.now in
    let here : (d : Finished g.row.S.Denot g.row.G-Gate.Denot) → get_or (vec_items c.args.finished) past d ≡ f =
    first_item (vec_items c.args.finished) (into_iter_items c.loop-one.one-iterator) (into_iter_items c.next.new.self) f past (into_iter_len c.loop-one.one-iterator) (into_iter_len c.next.new.self)
    step.0 step.1 was.3 in
    let few : past < vec_len c.args.finished = one_left past (into_iter_len c.loop-one.one-iterator) (into_iter_len c.next.new.self) (vec_len c.args.finished) was.2 step.1 in
    let low : past < length (vec_items c.args.finished) = omega (arith, few, c.args.finished.ok.0) in
    let back = subst (IsBack g.G.Gate.Gate.halts c.args.table.now past) (here f) (c.requires.back past f low) in
    let long : length given ≡ past = search rules in
    let pushed : vec_items c.push.new.self ≡ given ++ f.answer ∷ [] = c.in_ok-push.ensures.items in
    let longer : past + 1 ≡ vec_len c.push.new.self = search rules in (
      search rules,
      subst (λ (n : ℕ). IsIdleKeeper m (vec_len c.args.finished) n c.join_runner-keeper.result) longer
          (then_gathered m c.loop-one.keeper f.runner c.join_runner-keeper.result (vec_len c.args.finished) past c.join_runner-keeper.ensures.event was.1 back.number),
      search rules,
      rest_behind (vec_items c.args.finished) (into_iter_items c.loop-one.one-iterator) (into_iter_items c.next.new.self) f past (vec_len c.push.new.self) (into_iter_len c.loop-one.one-iterator)
          (into_iter_len c.next.new.self) step.0 step.1 was.3 longer,
      kept_more m c.loop-one.keeper c.join_runner-keeper.result given (vec_items c.push.new.self) (vec_items c.args.finished) f c.join_runner-keeper.ensures.event pushed
          (λ d. subst (λ (n : ℕ). get_or (vec_items c.args.finished) n d ≡ f) (sym long) (here d)) (back.number ∙ sym long) was.4,
      c.back.ensures.halts ∙ (ap (λ (h : ℕ). halts_after h of_gate) was.5 ∙ (counted_so (halts_counted first given) of_gate f.answer back.halted back.went
          ∙ (sym (halts_more first given f.answer) ∙ sym (ap (halts_counted first) pushed)))),
      c.back.ensures.plans ∙ was.6,
      c.back.ensures.planned ∙ was.7,
      c.back.ensures.asks ∙ (ap (λ (n : ℕ). plus n (asks f.gate).count) was.8 ∙ (sym (asks_next asks asked (vec_items c.args.finished) past f low here)
          ∙ ap (λ (n : ℕ). asks_counted asks asked (take n (vec_items c.args.finished))) longer)),
      c.back.ensures.returned ∙ (ap (λ (n : ℕ). plus n 1) was.9 ∙ (sym (one_returned (g.G.Gates.returned c.args.gates.now) past)
          ∙ ap (returns_counted (g.G.Gates.returned c.args.gates.now)) longer)),
    )
