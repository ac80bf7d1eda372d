use Rattle.version_words.proofs.Calls.{start_seen}
use Rattle.version_words.proofs.table.FlockTable.descriptor_start.Goals as goal

pub returns : goal.returns
returns g c = let t = c.self.inside in
    start_seen g.S.Structure.meaning t.table.shared.table_id t.table.shared.key t.setup c.self.invariant c.args.self.now c.self.view_is c.args.descriptor c.descriptor_at.result c.descriptor_at.ensures
