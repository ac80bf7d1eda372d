use Rattle.std.proofs.Common.{◌≡◌, ◌≤◌, ◌*◌}
use Rattle.body_terms.specs.Line.{registers_before, begins}
use Rattle.body_terms.proofs.line.micro_in.Given as goal

abbrev pub invariant-loop-n : goal.invariant-loop-n
invariant-loop-n l = record {
  begin : l.begin ≡ begins l.steps l.n;
  past : l.begin ≤ l.at;
  log : l.log ≡ (registers_before l.steps l.n).count;
  early : l.begin ≤ 11 * l.n;
  few : l.log ≤ 2 * l.n;
}
