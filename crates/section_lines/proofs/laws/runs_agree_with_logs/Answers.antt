use Rattle.structure_laws.specs.body_terms.specs.Line.{line}
use Rattle.section_lines.proofs.Phases.{is_in_phases, one_answer}
use Rattle.section_lines.proofs.Counted.{is_counted}
use Rattle.section_lines.proofs.Runs.{agrees_with}
use Rattle.section_lines.proofs.laws.runs_agree_with_logs.Goals as goal

pub returns : goal.returns
returns c = λ body shaped s start log edge follows. agrees_with s start (line body) log (is_in_phases body shaped) (is_counted body shaped.short) (one_answer body shaped).0 (one_answer body shaped).1 edge follows
