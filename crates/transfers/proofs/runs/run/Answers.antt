use Rattle.std.proofs.Common.{rules, ◌≡◌, ℕ, length, refl, sym, ap, ◌∙◌, subst}
use Rattle.agreement_core.specs.table_words.specs.declared.layout.Layout.{Layout}
use Rattle.accounts.specs.account_laws.specs.Accounts.{accounts_of}
use Rattle.lock_attempts.specs.Tickets.{tickets_for}
use Rattle.settled_tables.specs.Keeper.{IsIdleKeeper}
use Rattle.settled_tables.proofs.Working.{all_back}
use Rattle.transfers.proofs.Scenes.{all_may_work, scene, all_came, all_true}
use Rattle.transfers.proofs.runs.run.Goals as goal

pub run_workers-requires-clause-may : goal.run_workers-requires-clause-may
run_workers-requires-clause-may g c κs within =
    let given : c.as_slice.result.now ≡ tickets_for 4 100 = search rules in
    let four : length c.in_ok-table.workers.items ≡ 4 = (let len = c.in_ok-table.ensures.len in grind rules) in
    all_may_work c.in_ok-table.table _ _ _ c.in_ok-table.ensures.table c.new-bank.ensures.accounts refl given
    c.in_ok-table.workers.items four c.in_ok-table.ensures.workers

pub close_table-requires-clause-keeper : goal.close_table-requires-clause-keeper
close_table-requires-clause-keeper g c κs =
    let t = c.in_ok-table.table in
    subst (λ (n : ℕ). IsIdleKeeper (accounts_of t.structure.accounts t.structure.opening) n 0 c.in_ok-table.keeper)
    (sym (c.in_ok-backs.ensures.len ∙ c.in_ok-table.ensures.len)) c.in_ok-table.ensures.keeper

pub close_table-requires-clause-back : goal.close_table-requires-clause-back
close_table-requires-clause-back g c κs =
    let same : length c.in_ok-backs.backs.items ≡ length c.in_ok-table.workers.items = (let len = c.in_ok-backs.ensures.len in grind rules) in
    all_back c.in_ok-table.table c.in_ok-table.workers.items c.in_ok-backs.backs.items same c.in_ok-table.ensures.workers
    (all_came c.in_ok-table.table c.in_ok-table.workers.items c.in_ok-backs.backs.items c.in_ok-backs.ensures.each)

pub close_table-requires-clause-each : goal.close_table-requires-clause-each
close_table-requires-clause-each g c κs =
    c.in_ok-backs.ensures.len ∙ (c.in_ok-table.ensures.len ∙ sym (ap (λ (l : Layout). l.runners) c.in_ok-table.ensures.table.layout))

pub returns-clause-reports : goal.returns-clause-reports
returns-clause-reports g c =
    let t = c.in_ok-table.table in
    let given : c.as_slice.result.now ≡ tickets_for 4 100 = search rules in
    let same : length c.in_ok-backs.backs.items ≡ length c.in_ok-table.workers.items = (let len = c.in_ok-backs.ensures.len in grind rules) in
    let as_many : length c.in_ok-words.reports.items ≡ length c.in_ok-backs.backs.items = (let len = c.in_ok-words.ensures.len in grind rules) in
    all_true t (scene t _ _ _ c.in_ok-table.ensures.table c.new-bank.ensures.accounts refl given)
    c.in_ok-table.workers.items c.in_ok-backs.backs.items c.in_ok-words.reports.items as_many same c.in_ok-table.ensures.workers c.in_ok-backs.ensures.each c.in_ok-words.ensures.reports
