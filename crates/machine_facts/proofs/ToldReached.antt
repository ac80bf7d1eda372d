-- In every state that the machine reaches, runners know the words to which their runs have written.
use Rattle.std.proofs.Common.{List}
use Rattle.machine_states.specs.map_history.specs.declared.op.Request.{Request}
use Rattle.machine_states.specs.table_words.specs.declared.layout.Layout.{Layout}
use Rattle.machine_states.specs.structure_laws.specs.Meaning.{Meaning}
use Rattle.machine_states.specs.structure_laws.specs.Laws.{Laws}
use Rattle.machine_invariant.proofs.Keeping.{reached_keeps}
use Rattle.machine_facts.specs.Told.{RunsAreTold, ReachedAreTold}
use Rattle.machine_facts.proofs.ToldSteps.{first_told, steps_tell}

pub reached_told : (m : Meaning) → Laws m → (l : Layout) (rs : List Request) → ReachedAreTold m l rs
reached_told m laws l rs limits allowed w reached =
    reached_keeps m laws l limits rs allowed (RunsAreTold m) (first_told m l rs)
    (λ s s' r kind is old. steps_tell m l rs is.beside s s' r kind is.whole is.step old) w reached
