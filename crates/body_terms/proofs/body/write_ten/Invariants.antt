use Rattle.std.specs.Prelude.{◌≡◌, length, take}
use Rattle.body_terms.proofs.body.write_ten.Given as goal

abbrev pub invariant-loop-n : goal.invariant-loop-n
invariant-loop-n l = record {
  room : length l.place ≡ length l.steps;
  before : take l.n l.place ≡ take l.n l.steps;
}
