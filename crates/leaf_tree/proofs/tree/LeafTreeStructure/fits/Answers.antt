use Rattle.std.proofs.Common.{ap, ◌∙◌}
use Rattle.tree_walks.specs.tree_laws.specs.Walk.{fits_walk}
use Rattle.lock_walks.specs.Followed.{followed}
use Rattle.leaf_tree.specs.declared.walker.LeafWalk.{LeafWalk}
use Rattle.leaf_tree.specs.Planned.{tree_way}
use Rattle.leaf_tree.proofs.Following.{in_readings}
use Rattle.leaf_tree.proofs.tree.LeafTreeStructure.fits.Goals as goal

pub returns : goal.returns
returns c = c.fits.ensures ∙ ap (λ (w : LeafWalk). fits_walk w.walk.op w.walk.walk c.args.thunk.now)
    (c.follow-whole.ensures ∙ (ap (λ w. followed tree_way (record { walk = w }) c.args.readings.now) c.begin.ensures ∙ in_readings _ c.args.readings.now))
