use Rattle.std.proofs.Common.{◌≡◌, ◌++◌, ◌∷◌, [], drop, take}
use Rattle.std.specs.Prelude.{slice_index_or}
use Rattle.runner_steps.specs.body_terms.specs.Line.{line, releases}
use Rattle.runner_steps.specs.body_terms.specs.declared.micro.Micro.TheVariants.{End, Release}
use Rattle.runner_asks.proofs.section.release_at.Given as goal

abbrev pub invariant-loop-i : goal.invariant-loop-i
invariant-loop-i l = slice_index_or (releases (drop l.i (take l.at (line l.body))) ++ Release l.lock l.word ∷ []) l.left End ≡ slice_index_or (releases (take l.at (line l.body)) ++ Release l.lock l.word ∷ []) l.number End
