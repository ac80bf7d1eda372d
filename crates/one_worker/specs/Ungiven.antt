-- What the board holds where there is one worker.
use Rattle.std.specs.Prelude.{ℕ, ◌≡◌, true, false}
use Rattle.machine_states.specs.table_words.specs.declared.layout.Layout.{Layout}
use Rattle.machine_states.specs.table_words.specs.declared.spot.Spot.TheVariants.{Board}
use Rattle.machine_states.specs.Sight.{Sight}

-- no word of the board names a slot
abbrev pub IsBare : Sight → Type 0
IsBare s = (i : ℕ) → s.word (Board i) ≡ 0

-- where each give of the worker's, which has number 0, left it as many free slots as it had at first
pub record NothingIsGiven (s : Sight) : Type 0 where
  -- while the worker isn't joined and the own steps of the keeper, which has number 1, have not met the epoch
  pub before : (s.part 0).gone ≡ false → (s.part 1).records.epoch_seen ≡ 0 → (s.part 0).records.gave_above ≡ true
      → IsBare s
  -- once it is joined, where they had not met it then
  pub behind : (s.part 0).gone ≡ true → (s.part 1).records.crosses ≡ false → (s.part 0).records.gave_above ≡ true
      → IsBare s

-- so it is with one worker
abbrev pub LoneBoardIsEmpty : Layout → Sight → Type 0
LoneBoardIsEmpty l s = l.runners ≡ 1 → NothingIsGiven s
