use Rattle.std.proofs.Common.{ap, ◌∙◌}
use Rattle.machine_states.specs.table_words.specs.Places.{board_words}
use Rattle.runner_block.specs.Marks.{lost_in, lost_links}
use Rattle.runner_block.proofs.Marking.{lost_marks}
use Rattle.version_words.proofs.runner.Runner.lost_links.Goals as goal

pub returns : goal.returns
returns g c = c.lost_links.ensures ∙ (ap (λ b. lost_in b.lists.marks) c.deref.ensures
    ∙ (ap lost_in c.self.invariant.marks ∙ (lost_marks c.self.inside.seat.me.0.part.board board_words ∙ ap (λ r. lost_links r.part.board) c.self.view_is)))
