use Rattle.std.proofs.Common.{rules, ◌≡◌, ℕ, ◌+◌, ◌<◌, ◌++◌, ◌∷◌, [], length, get_or, vec_items, vec_len, sym, subst, arith}
use Rattle.std.specs.Vec.Iter.{into_iter_items, into_iter_len}
use Rattle.accounts.specs.declared.table.Accounts.{Accounts}
use Rattle.settled_tables.specs.closed_words.specs.version_words.specs.RunnerState.{RunnerState}
use Rattle.settled_tables.specs.Seats.{CameBack}
use Rattle.settled_tables.proofs.Working.{one_more, rest_behind}
use Rattle.lock_tests.specs.Bank.{MayMove}
use Rattle.lock_tests.proofs.bank.stop_mover.Goals as goal

pub move_money-requires : goal.move_money-requires
move_money-requires c =
    let was = c.loop-runner.invariant in let past = vec_len c.loop-runner.backs in let step = c.in-Some.ensures.steps in
    let here : (d : RunnerState Accounts) → get_or (vec_items c.args.runners) past d ≡ c.in-Some.runner = λ d. let h = was.1 0 d in grind rules in
    let low : past < length (vec_items c.args.runners) = (let sum = was.0 in grind rules) in
    record {
      may = subst (MayMove c.args.table.now.structure.accounts c.args.table.now.layout.runners 1 c.args.table.now) (here c.in-Some.runner) (c.requires.may past c.in-Some.runner low);
    }

pub loop-runner-preserved : goal.loop-runner-preserved
loop-runner-preserved c =
    let was = c.loop-runner.invariant in let past = vec_len c.loop-runner.backs in let step = c.in-Some.ensures.steps in
    let f = c.in-Some.runner in
    let back = c.move_money.result in
    let here : (d : RunnerState Accounts) → get_or (vec_items c.args.runners) past d ≡ f = λ d. let h = was.1 0 d in grind rules in
    let long : length (vec_items c.loop-runner.backs) ≡ past = search rules in
    let pushed : vec_items c.push.new.self ≡ vec_items c.loop-runner.backs ++ back ∷ [] = c.in_ok-push.ensures.items in
    let longer : past + 1 ≡ vec_len c.push.new.self = search rules in (
      search rules,
      rest_behind (vec_items c.args.runners) (into_iter_items c.loop-runner.runner-iterator) (into_iter_items c.next.new.self) f past (vec_len c.push.new.self) (into_iter_len c.loop-runner.runner-iterator)
          (into_iter_len c.next.new.self) step.0 step.1 was.1 longer,
      one_more (λ (i : ℕ) (b : RunnerState Accounts × ℕ). (d : RunnerState Accounts) → CameBack c.args.table.now (get_or (vec_items c.args.runners) i d) b) (vec_items c.loop-runner.backs) (vec_items c.push.new.self) back pushed
          was.2
          (λ d. subst (λ (r : RunnerState Accounts). CameBack c.args.table.now r back) (sym (subst (λ (n : ℕ). get_or (vec_items c.args.runners) n d ≡ f) (sym long) (here d))) c.move_money.ensures.back),
    )

pub returns-clause-each : goal.returns-clause-each
returns-clause-each c = λ i d e low.
    let all : length (vec_items c.loop-runner.backs) ≡ length (vec_items c.args.runners) = search rules in
    c.loop-runner.invariant.2 i e (omega (arith, low, all)) d
