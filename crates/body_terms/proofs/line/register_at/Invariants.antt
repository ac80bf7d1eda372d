use Rattle.std.proofs.Common.{◌≡◌, ◌≤◌, ◌*◌}
use Rattle.body_terms.specs.Line.{registers_before}
use Rattle.body_terms.proofs.line.register_at.Given as goal

abbrev pub invariant-loop-i : goal.invariant-loop-i
invariant-loop-i l = record {
  place : l.register.place ≡ (registers_before l.steps l.i).place l.reg;
  log : l.register.log ≡ (registers_before l.steps l.i).log l.reg;
  count : l.count ≡ (registers_before l.steps l.i).count;
  few : l.count ≤ 2 * l.i;
}
