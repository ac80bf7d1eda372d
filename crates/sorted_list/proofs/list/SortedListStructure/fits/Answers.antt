use Rattle.std.proofs.Common.{ap, ◌∙◌}
use Rattle.list_walks.specs.list_laws.specs.Walk.{fits_walk}
use Rattle.lock_walks.specs.Followed.{followed}
use Rattle.sorted_list.specs.declared.walker.SortedWalk.{SortedWalk}
use Rattle.sorted_list.specs.Planned.{list_way}
use Rattle.sorted_list.proofs.Following.{in_readings}
use Rattle.sorted_list.proofs.list.SortedListStructure.fits.Goals as goal

pub returns : goal.returns
returns c = c.fits.ensures ∙ ap (λ (w : SortedWalk). fits_walk w.walk.op w.walk.walk c.args.thunk.now)
    (c.follow-whole.ensures ∙ (ap (λ w. followed list_way (record { walk = w }) c.args.readings.now) c.begin.ensures ∙ in_readings _ c.args.readings.now))
