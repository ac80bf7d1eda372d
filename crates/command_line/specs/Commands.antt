-- The command line: which words are accepted, and what they mean.
use Rattle.std.specs.Prelude.{◌≡◌, List, [], ◌∷◌, codes, map}
use Rattle.std.specs.Borrow.{Bor}
use Rattle.command_line.specs.declared.command.Command.{Command}
use Rattle.command_line.specs.declared.command.Command.TheVariants as commands
use Rattle.command_line.specs.Generated.{AreLoadRanges, ArePlanRanges, IsGen, IsLoad}
use Rattle.command_line.specs.Options.{AreInRange, IsRun}
use Rattle.command_line.specs.Written.{Text}

abbrev pub texts : List (Bor Text) → List Text
texts words = map (λ word. word.now) words

-- the first word names the command, and its options follow in any order; `check` has none
abbrev pub IsCommand : List Text → Command → Type 0
IsCommand [] command = ⊥
IsCommand (word ∷ words) (commands.Run options) = (word ≡ codes "run") × IsRun words options
IsCommand (word ∷ words) (commands.Gen plan) = (word ≡ codes "gen") × IsGen words plan
IsCommand (word ∷ words) (commands.Load options) = (word ≡ codes "load") × IsLoad words options
IsCommand (word ∷ words) commands.Check = (word ≡ codes "check") × (words ≡ [])

-- the words are accepted
abbrev pub AreAccepted : List Text → Type 0
AreAccepted words = (command : Command) × IsCommand words command

abbrev pub HasRanges : Command → Type 0
HasRanges (commands.Run options) = AreInRange options
HasRanges (commands.Gen plan) = ArePlanRanges plan
HasRanges (commands.Load options) = AreLoadRanges options
HasRanges commands.Check = Unit {0}
