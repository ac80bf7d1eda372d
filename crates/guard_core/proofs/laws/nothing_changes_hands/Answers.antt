use Rattle.guard_core.proofs.Owning.{stays_with_owner, goes_round}
use Rattle.guard_core.proofs.laws.nothing_changes_hands.Goals as goal

pub returns-clause-owner : goal.returns-clause-owner
returns-clause-owner c = stays_with_owner

pub returns-clause-round : goal.returns-clause-round
returns-clause-round c = goes_round
