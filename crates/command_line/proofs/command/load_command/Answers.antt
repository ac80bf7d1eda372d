use Rattle.clap.specs.Matches.{found_of}
use Rattle.clap.specs.Walk.{rows_of}
use Rattle.command_line.proofs.Meanings.{no_load}
use Rattle.command_line.proofs.command.load_command.Goals as goal

pub returns-in-None : goal.returns-in-None
returns-in-None c = no_load (rows_of (found_of c.args.options.now)) c.in_ok-options.field-0 c.in-None.is c.in_ok-options.ensures.refused
