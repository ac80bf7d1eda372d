use Rattle.std.proofs.Common.{◌∙◌}
use Rattle.clap.specs.Simple.{app_of}
use Rattle.command_line.specs.Commands.{texts}
use Rattle.command_line.proofs.Parses.{matches_are, no_fault, some_fault}
use Rattle.command_line.proofs.parser.parse.Goals as goal

pub returns-in-Ok-clause-faultless : goal.returns-in-Ok-clause-faultless
returns-in-Ok-clause-faultless c = no_fault (app_of c.in_ok-flock.field-0) (texts c.args.words.now) c.try_get_matches_from.result c.in-Ok.matches c.in_ok-flock.ensures c.try_get_matches_from.ensures.kinds c.in-Ok.is

pub returns-in-Ok-clause-matches : goal.returns-in-Ok-clause-matches
returns-in-Ok-clause-matches c = matches_are (app_of c.in_ok-flock.field-0) (texts c.args.words.now) c.in-Ok.matches c.in_ok-flock.ensures c.in-Ok.ensures.matches

pub returns : goal.returns
returns c = record {
  faultless = tt;
  matches = tt;
  refused = some_fault (app_of c.in_ok-flock.field-0) (texts c.args.words.now) c.try_get_matches_from.result c.in-Err.error c.in_ok-flock.ensures c.try_get_matches_from.ensures.kinds c.in-Err.is (λ memory. c.in_default.not-OutOfMemory (c.kind.ensures ∙ memory));
}
