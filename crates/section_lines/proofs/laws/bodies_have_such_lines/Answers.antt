use Rattle.section_lines.proofs.Phases.{is_in_phases}
use Rattle.section_lines.proofs.Ordered.{is_ordered}
use Rattle.section_lines.proofs.Counted.{is_counted}
use Rattle.section_lines.proofs.Resolved.{is_resolved}
use Rattle.section_lines.proofs.laws.bodies_have_such_lines.Goals as goal

pub returns-clause-phases : goal.returns-clause-phases
returns-clause-phases c = is_in_phases

pub returns-clause-order : goal.returns-clause-order
returns-clause-order c = is_ordered

pub returns-clause-counts : goal.returns-clause-counts
returns-clause-counts c = λ body shaped. is_counted body shaped.short

pub returns-clause-registers : goal.returns-clause-registers
returns-clause-registers c = is_resolved
