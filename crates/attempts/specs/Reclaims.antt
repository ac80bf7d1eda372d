-- How a runner comes by free slots before it enters.
use Rattle.std.specs.Prelude.{◌≡◌, ℕ, ◌*◌, ◌/◌, ◌&&◌, ◌||◌, ◌==◌, Bool, true, false, nat_lt, nat_le, length, if◌then◌else◌}
use Rattle.std.specs.Int.{is_power_of_two}
use Rattle.machine_states.specs.table_words.specs.Places.{attempt_blocks}
use Rattle.machine_states.specs.structure_laws.specs.Meaning.{Meaning}
use Rattle.version_words.specs.RunnerState.{RunnerState}
use Rattle.caller_facts.specs.epoch_slots.specs.Collects.{IsTidy, Collects}
use Rattle.caller_facts.specs.epoch_slots.specs.Sweeps.{HasSwept}
use Rattle.caller_facts.specs.epoch_slots.specs.Board.{GivesAway, IsDrawn}

-- so many node slots in limbo, of as many as the layout gives each worker, are worth the steps of a scan: a quarter or
-- more, as long as that is fewer than 64; else 64 or 65, and again each time that they have doubled
abbrev pub is_much : ℕ → ℕ → Bool
is_much given limbo =
    if nat_lt limbo 64 then nat_lt 0 limbo && nat_le given (4 * limbo) else is_power_of_two (limbo / 2)

module _ {T : Type 0} where
  -- fewer node slots are free than an attempt needs
  abbrev pub lacks_slots : RunnerState T → Bool
  lacks_slots r = nat_lt (length r.part.nodes.free) 2

  -- no descriptor is free
  abbrev pub lacks_descriptor : RunnerState T → Bool
  lacks_descriptor r = length r.part.descriptors.free == 0

  -- fewer blocks are free than an attempt may want
  abbrev pub lacks_blocks : RunnerState T → Bool
  lacks_blocks r = nat_lt (length r.part.blocks.free) attempt_blocks

  -- a sweep of the guard words may bring back what lacks
  abbrev pub needs_sweep : RunnerState T → Bool
  needs_sweep r = lacks_descriptor r || lacks_blocks r

  -- so many of its own node slots are in limbo that a scan is worth its steps
  abbrev pub has_much_in_limbo : RunnerState T → Bool
  has_much_in_limbo r = is_much r.layout.nodes (length r.part.nodes.limbo)

  -- the runner is idle with an empty hand and no guard, and is who it was, knows what it knew, and has run what it had
  pub record IsRested (old new : RunnerState T) : Type 0 where
    pub tidy : IsTidy new
    pub number : new.number ≡ old.number
    pub known : new.part.records.known ≡ old.part.records.known
    pub finished : new.part.records.finished ≡ old.part.records.finished

  module _ (m : Meaning) where
    -- one scan, exactly where it is due
    abbrev pub CollectsWhere : Bool → RunnerState T → RunnerState T → Type 0
    CollectsWhere true old new = Collects m old new
    CollectsWhere false old new = new ≡ old

    -- what is free above the number that the layout gives each worker goes to the board, exactly where that is due
    abbrev pub SparesWhere : Bool → RunnerState T → RunnerState T → Type 0
    SparesWhere true old new = GivesAway m old new
    SparesWhere false old new = new ≡ old

    -- one sweep of the guard words, exactly where it is due
    abbrev pub SweepsWhere : Bool → RunnerState T → RunnerState T → Type 0
    SweepsWhere true old new = HasSwept m old new
    SweepsWhere false old new = new ≡ old

    -- where much is in limbo one scan, and what is free then above the number that the layout gives each worker goes to
    -- the board; then up to three scans in a row, as long as node slots lack; then one sweep where no descriptor is free,
    -- or too few blocks, and where node slots lack still a walk over the board for some. So where they lack behind that,
    -- three scans were made one behind the other, and all words of the board were loaded; and where a descriptor or
    -- blocks lack, each own descriptor in limbo, and that under which an own block lies there, is named by the guard word
    -- of another runner
    pub record Reclaims (old new : RunnerState T) : Type 0 where
      pub collected : RunnerState T
      pub spared : RunnerState T
      pub first : RunnerState T
      pub second : RunnerState T
      pub third : RunnerState T
      pub swept : RunnerState T
      pub collects : CollectsWhere (has_much_in_limbo old) old collected
      pub spares : SparesWhere (has_much_in_limbo old) collected spared
      pub once : CollectsWhere (lacks_slots spared) spared first
      pub twice : CollectsWhere (lacks_slots first) first second
      pub thrice : CollectsWhere (lacks_slots second) second third
      pub sweeps : SweepsWhere (needs_sweep third) third swept
      pub draws : IsDrawn m 2 swept new
      pub rested : IsRested old new
