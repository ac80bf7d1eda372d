use Rattle.machine_slots.proofs.Stores.{hands_begin}
use Rattle.machine_slots.proofs.laws.first_states_meet_it.Goals as goal

pub returns : goal.returns
returns g c = λ counts location p made. hands_begin (g.S.Structure.meaning c.args.structure.now) counts location p made
