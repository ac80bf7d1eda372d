-- The steps of a body as a read has it.
use Rattle.std.specs.Prelude.{List}
use Rattle.machine_states.specs.body_terms.specs.declared.step.Step.{Step}
use Rattle.caller_facts.specs.lock_walks.specs.Glances.{glanced}
use Rattle.seq_read.specs.declared.view.BodyView.{BodyView}
use Rattle.seq_read.specs.declared.view.BodyView.TheVariants.{Written, Glanced}

abbrev pub steps_in : BodyView → List Step
steps_in (Written steps) = steps.now
steps_in (Glanced glance) = glanced glance
