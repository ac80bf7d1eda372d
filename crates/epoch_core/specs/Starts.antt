-- A first state: every slot is in the free lists of runner 0.
use Rattle.std.specs.Prelude.{ℕ, suc, zero, ◌==◌, cond, List, [], ◌∷◌}
use Rattle.epoch_core.specs.declared.location.Location.{Location}
use Rattle.epoch_core.specs.declared.location.Location.TheVariants.{Free}
use Rattle.epoch_core.specs.State.{Counts}
use Rattle.epoch_core.specs.Schedules.{IsFirst, first_state}
use Rattle.epoch_core.specs.Lists.{Lists, IsListed}

-- the numbers below this one, the greatest first
abbrev pub below : ℕ → List ℕ
below zero = []
below (suc n) = n ∷ below n

-- every slot is free
abbrev pub all_free : ℕ → Location
all_free s = Free 0

-- empty lists
abbrev pub no_lists : Lists
no_lists = record { hand = []; free = []; worn = []; limbo = []; free_descriptors = []; limbo_descriptors = [] }

-- runner 0 has them all
abbrev pub all_listed : Counts → ℕ → Lists
all_listed c r =
    cond (r == 0) (record no_lists { free = below c.nodes; free_descriptors = below c.descriptors }) no_lists

-- it is a first state, and its lists say where the slots are
pub record Starts (c : Counts) : Type 0 where
  pub first : IsFirst c all_free
  pub listed : IsListed c (first_state all_free) (all_listed c)
