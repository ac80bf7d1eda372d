use Rattle.std.proofs.Common.{ap, ◌∙◌}
use Rattle.lock_walks.specs.Followed.{followed}
use Rattle.key_move.specs.Moving.{Moving, fits_of}
use Rattle.key_move.specs.Planned.{move_way}
use Rattle.key_move.proofs.Following.{in_readings, fits_there}
use Rattle.key_move.proofs.table.MoveTableStructure.fits.Goals as goal

pub returns : goal.returns
returns c = c.fits.ensures ∙ ap (λ (m : Moving). fits_of m c.args.thunk.now)
    (c.follow-walk.ensures ∙ (ap (λ m. followed move_way m c.args.readings.now) c.begin.ensures
    ∙ in_readings c.args.self.now.bits c.args.layout c.args.op c.args.readings.now))
    ∙ fits_there c.args.self.now.bits c.args.layout c.args.op c.args.readings.now c.args.thunk.now
