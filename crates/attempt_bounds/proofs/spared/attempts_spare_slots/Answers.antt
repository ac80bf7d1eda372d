use Rattle.attempt_bounds.proofs.Attempted.{attempts_spare}
use Rattle.attempt_bounds.proofs.spared.attempts_spare_slots.Goals as goal

pub returns : goal.returns
returns g c =
    let structure = c.args.structure.now in
    attempts_spare (g.S.Structure.meaning structure) (g.S.Planner.planning structure)
