use Rattle.std.proofs.Common.{ap, sym}
use Rattle.map_history.specs.Replay.{found}
use Rattle.map_history.proofs.Entries.{get-seen}
use Rattle.map_history.proofs.book.Book.get.Goals as goal

pub returns-in-Some : goal.returns-in-Some
returns-in-Some c = ap found (sym (get-seen _ _ c.args.key c.self.view_is c.in-Some.ensures.value))

pub returns-in-None : goal.returns-in-None
returns-in-None c = ap found (sym (get-seen _ _ c.args.key c.self.view_is c.in-None.ensures.value))
