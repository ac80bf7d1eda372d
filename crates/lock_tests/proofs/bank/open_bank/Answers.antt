use Rattle.std.proofs.Common.{rules, ◌≡◌, length, refl, arith}
use Rattle.lock_attempts.specs.Tickets.{tickets_for}
use Rattle.lock_tests.proofs.Banks.{new_bank, all_may_move}
use Rattle.lock_tests.proofs.bank.open_bank.Goals as goal

pub open_table-requires-clause-limits : goal.open_table-requires-clause-limits
open_table-requires-clause-limits c κs =
    let some = c.requires.some.0 in let few = c.requires.workers in
    record {
      some_runners = some;
      few_runners = few;
      few_nodes = omega (arith, few);
      some_sections = omega arith;
      few_sections = omega arith;
      some_versions = omega arith;
      few_versions = omega arith;
    }

pub returns-clause-bank : goal.returns-clause-bank
returns-clause-bank c =
    let given : c.as_slice.result.now ≡ tickets_for c.args.workers c.args.each = search rules in
    new_bank c.args.accounts c.args.workers c.args.each c.in_ok-table.table _ _ _ c.in_ok-table.ensures.table c.new-bank.ensures.accounts c.new-bank.ensures.opening refl given

pub returns-clause-workers : goal.returns-clause-workers
returns-clause-workers c =
    let given : c.as_slice.result.now ≡ tickets_for c.args.workers c.args.each = search rules in
    let many : length c.in_ok-table.runners.items ≡ c.args.workers = (let len = c.in_ok-table.ensures.len in grind rules) in
    all_may_move c.args.accounts c.args.workers c.args.each c.in_ok-table.table _ _ _ c.in_ok-table.ensures.table c.new-bank.ensures.accounts c.new-bank.ensures.opening refl given
    c.requires.accounts.0 c.requires.some.1 c.requires.few c.in_ok-table.runners.items many c.in_ok-table.ensures.workers
