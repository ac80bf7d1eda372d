use Rattle.std.proofs.Common.{refl}
use Rattle.version_words.proofs.Stages.{may_idle, then_idle}
use Rattle.epoch_slots.proofs.Outside.{guards_made, own_kept}
use Rattle.epoch_slots.proofs.entry.exit.Goals as goal

pub idle-requires-clause-next : goal.idle-requires-clause-next
idle-requires-clause-next g c κs within = may_idle _ _ _ c.requires.entered.at c.requires.entered.unguarded

pub returns-clause-exits : goal.returns-clause-exits
returns-clause-exits g c = let announce = c.idle.ensures.event 0 in let entered = c.requires.entered.at in record {
  announce = record { found = 0; event = announce };
  at = then_idle _ _ _ _ _ _ announce entered;
  guards = guards_made _ _ _ _ _ announce entered.resting;
  keeps = own_kept _ _ _ _ _ announce entered.resting refl refl refl;
}
