use Rattle.clap.specs.Matches.{found_of}
use Rattle.clap.specs.Walk.{rows_of}
use Rattle.command_line.proofs.Meanings.{no_gen}
use Rattle.command_line.proofs.command.gen_command.Goals as goal

pub returns-in-None : goal.returns-in-None
returns-in-None c = no_gen (rows_of (found_of c.args.options.now)) c.plan_in.result c.in-None.is c.plan_in.ensures.refused
