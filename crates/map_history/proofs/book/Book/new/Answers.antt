use Rattle.std.proofs.Common.{sym, ◌∙◌}
use Rattle.map_history.proofs.Entries.{len-of_none}
use Rattle.map_history.proofs.book.Book.new.Goals as goal

pub invariant_of-result : goal.invariant_of-result
invariant_of-result c = len-of_none c.new.result.entries c.new.ensures.len ∙ sym c.new.ensures.len
