use Rattle.std.proofs.Common.{ap, ◌∙◌, ◌+◌, length}
use Rattle.std.specs.Prelude.{nat_le}
use Rattle.machine_states.specs.table_words.specs.Places.{part_words}
use Rattle.version_words.proofs.LinkSteps.{link_due}
use Rattle.version_words.proofs.runner.Runner.is_link_due.Goals as goal

pub returns : goal.returns
returns g c = λ q there.
    let run = ap (λ r. r.part.run) c.self.view_is ∙ there in
    let links = c.self.invariant.blocks.links.of_run q run in let placed = c.self.invariant.place.run q run in
    let start = c.part_start.ensures ∙ (ap (λ b. b.lists.blocks.links.start) c.deref-2.ensures ∙ links.start) in
    let agreed = ap (λ b. b.place.agreed) c.deref.ensures ∙ placed.agreed in
    c.is_behind.ensures ∙ ((λ i. nat_le (start i + part_words) (agreed i)) ∙ link_due (length q.trail) (length q.links))
