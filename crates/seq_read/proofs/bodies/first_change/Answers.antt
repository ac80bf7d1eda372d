use Rattle.std.specs.Prelude.{not, position}
use Rattle.std.proofs.Common.{◌∙◌, sym, ap}
use Rattle.machine_states.specs.body_terms.specs.Shape.{is_look}
use Rattle.seq_read.specs.View.{steps_in}
use Rattle.seq_read.proofs.Glancing.{glance_looks}
use Rattle.seq_read.proofs.bodies.first_change.Goals as goal

pub returns-in-Glanced : goal.returns-in-Glanced
returns-in-Glanced c = sym (ap (λ b. position (λ step. not (is_look step)) (steps_in b)) c.in-Glanced.is ∙ glance_looks c.in-Glanced.field-0)
