use Rattle.clap.specs.Simple.{subcommand_of}
use Rattle.command_line.specs.Parser.{flock_app}
use Rattle.command_line.proofs.Lines.{taken}
use Rattle.command_line.proofs.Meanings.{meant_once}
use Rattle.command_line.proofs.command.words_mean_one_command.Goals as goal

pub returns : goal.returns
returns c = λ words first second one other. meant_once (subcommand_of flock_app words) first second (taken words first one).meant (taken words second other).meant
