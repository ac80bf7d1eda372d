use Rattle.std.proofs.Common.{sym, ◌∙◌}
use Rattle.map_history.proofs.Entries.{moved_pairs}
use Rattle.map_history.proofs.book.Book.shift.Goals as goal

pub returns-in-New-clause-ok : goal.returns-in-New-clause-ok
returns-in-New-clause-ok c =
    c.remove.ensures.after
    ∙ moved_pairs _ _ c.args.from c.args.to c.in-Val.value (sym c.get.ensures ∙ c.in-Val.is)
    (sym c.in-New.is ∙ c.in_ok-insert.ensures.reply) c.in_ok-insert.ensures.ok
