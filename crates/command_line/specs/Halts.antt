-- The halts that are named on the command line.
use Rattle.std.specs.Prelude.{ℕ, ◌==◌, Bool, true, not, ◌&&◌, List, [], ◌∷◌, ◌++◌, Option, None, Some, find, if◌then◌else◌, map, nat_lt, option_map}
use Rattle.std.specs.List.{list_any, before_first, after_first, slice_split}
use Rattle.command_line.specs.declared.halts.Halt.{Halt}
use Rattle.command_line.specs.Numbers.{number_in}

abbrev pub is_colon : ℕ → Bool
is_colon byte = byte == 58

abbrev pub is_comma : ℕ → Bool
is_comma byte = byte == 44

abbrev pub halt_of : Option ℕ → Option ℕ → Option Halt
halt_of (Some runner) (Some ask) = Some (record { runner = runner; ask = ask })
halt_of _ _ = None

-- a runner, a colon and the number of an ask
abbrev pub halt_in : List ℕ → Option Halt
halt_in text =
    if list_any is_colon text then halt_of (number_in 0 15 (before_first is_colon text))
    (number_in 1 1000000000000 (after_first is_colon text))
    else None

-- all of them, where each is there
abbrev pub together : Option Halt → Option (List Halt) → Option (List Halt)
together (Some halt) (Some halts) = Some (halt ∷ halts)
together _ _ = None

abbrev pub all_there : List (Option Halt) → Option (List Halt)
all_there [] = Some []
all_there (found ∷ more) = together found (all_there more)

-- the same behind halts that are there already
abbrev pub all_there_behind : List Halt → Option (List Halt) → Option (List Halt)
all_there_behind before halts = option_map (λ more. before ++ more) halts

abbrev pub names_runner : List Halt → ℕ → Bool
names_runner halts runner = list_any (λ (halt : Halt). halt.runner == runner) halts

-- no runner comes twice
abbrev pub runners_differ : List Halt → Bool
runners_differ [] = true
runners_differ (halt ∷ halts) = not (names_runner halts halt.runner) && runners_differ halts

abbrev pub if_runners_differ : Option (List Halt) → Option (List Halt)
if_runners_differ None = None
if_runners_differ (Some halts) = if runners_differ halts then Some halts else None

-- halts that commas part, each of another runner
abbrev pub halts_in : List ℕ → Option (List Halt)
halts_in text = if_runners_differ (all_there (map halt_in (slice_split is_comma text)))

-- the ask at which the runner is to halt, if it is named
abbrev pub ask_of : List Halt → ℕ → Option ℕ
ask_of halts runner = option_map (λ (halt : Halt). halt.ask) (find (λ (halt : Halt). halt.runner == runner) halts)

-- a runner below this number is named
abbrev pub names_below : List Halt → ℕ → Bool
names_below halts runners = list_any (λ (halt : Halt). nat_lt halt.runner runners) halts
