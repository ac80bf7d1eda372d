use Rattle.std.proofs.Common.{◌≡◌, false, map, take}
use Rattle.clap.specs.Simple.{app_of}
use Rattle.command_line.specs.Commands.{texts}
use Rattle.command_line.specs.Parser.{has_globals, option_rule}
use Rattle.command_line.proofs.parser.with_options.Given as goal

abbrev pub invariant-loop-option : goal.invariant-loop-option
invariant-loop-option l =
    (app_of l.command ≡ record { top = record (app_of l.initial.command).top { rules = map option_rule (texts (take l.option-index l.options)) }; subs = (app_of l.initial.command).subs }) × (has_globals l.command ≡ false)
