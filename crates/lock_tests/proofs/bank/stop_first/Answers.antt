use Rattle.std.proofs.Common.{rules, ◌≡◌, ℕ, length, sym, ◌∙◌, subst}
use Rattle.accounts.specs.account_laws.specs.Accounts.{accounts_of}
use Rattle.settled_tables.specs.Keeper.{IsIdleKeeper}
use Rattle.settled_tables.proofs.Working.{all_back}
use Rattle.lock_tests.proofs.Banks.{by_table}
use Rattle.lock_tests.proofs.bank.stop_first.Goals as goal

pub stop_mover-requires : goal.stop_mover-requires
stop_mover-requires c =
    record { may = by_table 2 2 1 c.in_ok-table.table c.in_ok-table.ensures.bank c.in_ok-table.runners.items c.in_ok-table.ensures.workers }

pub close_table-requires-clause-keeper : goal.close_table-requires-clause-keeper
close_table-requires-clause-keeper c κs =
    let t = c.in_ok-table.table in
    subst (λ (n : ℕ). IsIdleKeeper (accounts_of t.structure.accounts t.structure.opening) n 0 c.in_ok-table.keeper)
    (sym (c.in_ok-backs.ensures.len ∙ c.in_ok-table.ensures.len)) c.in_ok-table.ensures.keeper

pub close_table-requires-clause-back : goal.close_table-requires-clause-back
close_table-requires-clause-back c κs =
    let same : length c.in_ok-backs.backs.items ≡ length c.in_ok-table.runners.items = (let len = c.in_ok-backs.ensures.len in grind rules) in
    all_back c.in_ok-table.table c.in_ok-table.runners.items c.in_ok-backs.backs.items same c.in_ok-table.ensures.new c.in_ok-backs.ensures.each

pub close_table-requires-clause-each : goal.close_table-requires-clause-each
close_table-requires-clause-each c κs = c.in_ok-backs.ensures.len ∙ (c.in_ok-table.ensures.len ∙ sym c.in_ok-table.ensures.bank.workers_are)
