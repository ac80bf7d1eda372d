-- Where the steps of a line stand to one another.
use Rattle.std.proofs.Common.{◌≡◌, ℕ, suc, List, refl, arith}
use Rattle.machine_states.specs.body_terms.specs.declared.micro.Micro.TheVariants.{CheckFree, NestedHold}
use Rattle.machine_states.specs.body_terms.specs.declared.step.Step.{Step}
use Rattle.machine_states.specs.body_terms.specs.Line.{line, micro_at}
use Rattle.agreement_core.specs.section_lines.proofs.Sources.{of_take, part_there}

module _ (body : List Step) where
  -- behind the check of a Take's lock its exchange stands
  pub hold_behind : (i p k w : ℕ) → micro_at (line body) i ≡ CheckFree p k w → micro_at (line body) (suc i) ≡ NestedHold p w
  hold_behind i p k w e =
      let o = of_take body i (CheckFree p k w) e refl in
      let next = part_there body o.2.from (suc i) 3 (let place = o.2.from.place in omega (arith, place)) (omega arith) in
      let same = o.2.same in
      let place : p ≡ o.0 = cc in let word : w ≡ o.1 = cc in cc
