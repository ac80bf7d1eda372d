-- What a structure means to those who plan requests on it, beside its meaning as a structure.
use Rattle.std.specs.Prelude.{ℕ, Bool, Option}
use Rattle.machine_states.specs.map_history.specs.declared.op.Op.{Op}
use Rattle.machine_states.specs.table_words.specs.declared.layout.Layout.{Layout}
use Rattle.machine_states.specs.structure_laws.specs.Scene.{Readings}

pub record Planning : Type 0 where
  -- whether it serves this operation
  pub serves : Op → Bool
  -- the place that the operation's walk loads after these readings, if they are one so far; None where it is at its
  -- end, or was refused
  pub wants : Layout → Op → Readings → Option ℕ
  -- whether the walk in these readings has loaded as many links as there are node slots, and eight more, and isn't at
  -- its end
  pub is_far : Layout → Op → Readings → Bool
  -- whether this place is a mark, which is 1 once its node was taken out
  pub is_mark : ℕ → Bool
  -- how many slots each pair of the map keeps in use, at most
  pub per_pair : ℕ
