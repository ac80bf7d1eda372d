-- The command line as clap is told of it, and what clap's matches mean.
use Rattle.std.specs.Prelude.{◌≡◌, Bool, true, false, List, [], ◌∷◌, Option, None, Some, codes, map}
use Rattle.std.specs.Str.{bytes_eq}
use Rattle.clap.specs.Matches.{found_of}
use Rattle.clap.specs.Simple.{App, Shape, new_rule, new_shape}
use Rattle.clap.specs.Walk.{Row, Rule, first_of, rows_of}
use Rattle.clap.specs.declared.builder.action.ArgAction.TheVariants.{Set}
use Rattle.clap.specs.declared.builder.command.Command.TheViews.{out-Command}
use Rattle.clap.specs.declared.parser.matches.ArgMatches.{ArgMatches}
use Rattle.clap.specs.declared.builder.command.Command.{Command as ClapCommand}
use Rattle.command_line.specs.declared.command.Command.{Command}
use Rattle.command_line.specs.declared.command.Command.TheVariants as commands
use Rattle.command_line.specs.Generated.{MeanLoad, MeanPlan, gen_names, load_names}
use Rattle.command_line.specs.Options.{Mean, run_names}
use Rattle.command_line.specs.Written.{Text}

-- an option that takes one text
abbrev pub option_rule : Text → Rule
option_rule name = record (new_rule name) { long = Some name; action = Some Set }

abbrev pub shape_with : Text → List Text → Shape
shape_with name options = record (new_shape name) { rules = map option_rule options }

-- one of four subcommands is wanted; there is no help and no version
abbrev pub flock_app : App
flock_app = record {
  top = record (new_shape (codes "flock")) {
    is_leaf = false;
    no_binary_name = true;
    disable_help_flag = true;
    disable_help_subcommand = true;
    subcommand_required = true;
  };
  subs = shape_with (codes "run") run_names ∷ shape_with (codes "gen") gen_names ∷ shape_with (codes "load") load_names
      ∷ shape_with (codes "check") [] ∷ [];
}

-- an argument of the command is one of its subcommands' too
abbrev pub has_globals : ClapCommand → Bool
has_globals command = (out-Command command).has_globals

-- a word that clap passes over
abbrev pub is_dashes : Text → Bool
is_dashes word = bytes_eq word (codes "--")

-- what an option was given, by clap's rows
abbrev pub said_in : List Row → Text → Option Text
said_in rows name = first_of name rows

abbrev pub said_by : ArgMatches → Text → Option Text
said_by matches = said_in (rows_of (found_of matches))

-- the subcommand and its rows mean this command
abbrev pub IsMeant : Option (Text × List Row) → Command → Type 0
IsMeant None command = ⊥
IsMeant (Some sub) (commands.Run options) = (sub.0 ≡ codes "run") × Mean (said_in sub.1) options
IsMeant (Some sub) (commands.Gen plan) = (sub.0 ≡ codes "gen") × MeanPlan (said_in sub.1) false plan
IsMeant (Some sub) (commands.Load options) = (sub.0 ≡ codes "load") × MeanLoad (said_in sub.1) options
IsMeant (Some sub) commands.Check = sub.0 ≡ codes "check"

-- what they mean, where they mean a command
abbrev pub Means : Option (Text × List Row) → Option Command → Type 0
Means sub None = (command : Command) → IsMeant sub command → ⊥
Means sub (Some command) = IsMeant sub command
