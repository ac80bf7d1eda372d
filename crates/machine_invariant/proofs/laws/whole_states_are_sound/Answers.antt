use Rattle.machine_invariant.proofs.States.{state_sound}
use Rattle.machine_invariant.proofs.laws.whole_states_are_sound.Goals as goal

pub returns : goal.returns
returns g c = λ layout b s k whole same_agreement same_epochs exact won.
    state_sound (g.S.Structure.meaning c.args.structure.now) layout b s whole k same_agreement same_epochs exact won
