-- The worn lists of the runners.
use Rattle.std.specs.Prelude.{◌≡◌, ℕ, Some, slice_get}
use Rattle.machine_states.specs.Sight.{Sight}

-- no slot stands twice in a runner's worn list
abbrev pub HasNoRepeats : Sight → Type 0
HasNoRepeats s = (r i j t : ℕ) → slice_get (s.part r).nodes.worn i ≡ Some t → slice_get (s.part r).nodes.worn j ≡ Some t
    → i ≡ j
