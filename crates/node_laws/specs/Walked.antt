-- A walk that is read off a list of readings, by what it loads next and how it goes on.
use Rattle.std.specs.Prelude.{ℕ, Bool, cond, not, ◌&&◌, Option, [], ◌∷◌}
use Rattle.structure_laws.specs.body_terms.specs.Word.{is_free, is_spent}
use Rattle.structure_laws.specs.Scene.{Readings}
use Rattle.bucket_laws.specs.Walk.{Bounds, is_wanted}

-- a lock that is free and not spent
abbrev pub is_ready : Bounds → ℕ → Bool
is_ready b word = is_free word && not (is_spent b.version_max word)

module _ (W : Type 0) (wanted : W → Option ℕ) (fed : W → ℕ → W) where
  -- the walk in a list of readings: its longest prefix that is one
  unfoldable pub walked : W → Readings → W
  walked w [] = w
  walked w (reading ∷ readings) = cond (is_wanted (wanted w) reading.0) (walked (fed w reading.1) readings) w
