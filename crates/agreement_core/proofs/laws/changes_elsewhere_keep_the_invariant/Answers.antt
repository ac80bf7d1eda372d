use Rattle.agreement_core.proofs.Same.{same_sound, same_exact}
use Rattle.agreement_core.proofs.laws.changes_elsewhere_keep_the_invariant.Goals as goal

pub returns-clause-sound : goal.returns-clause-sound
returns-clause-sound c = same_sound

pub returns-clause-exact : goal.returns-clause-exact
returns-clause-exact c = same_exact
