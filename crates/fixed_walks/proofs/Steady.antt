-- A walk over fixed places is never too far, and there are no marks.
use Rattle.std.proofs.Common.{refl}
use Rattle.runner_parts.specs.epoch_core.specs.small_lemmas.proofs.Bools.{from_false as no_mark}
use Rattle.runner_parts.specs.structure_laws.specs.Meaning.{Meaning}
use Rattle.lock_walks.specs.Steady.{IsSteady}
use Rattle.fixed_walks.specs.Fixed.{Course, fixed_planning}

pub fixed_steady : (m : Meaning) (c : Course) → IsSteady m (fixed_planning c)
fixed_steady m c = record {
  unmarked = λ layout op readings walk i place word at free mark. no_mark mark;
  near = λ layout op readings walk. refl;
}
