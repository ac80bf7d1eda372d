use Rattle.std.proofs.Common.{◌≡◌, ◌∙◌, [], false, sym, true≢false}
use Rattle.std.specs.List.{list_any}
use Rattle.clap.specs.Faults.{fault_of}
use Rattle.clap.specs.Simple.{subcommand_of, subcommand_rows_of}
use Rattle.command_line.specs.Commands.{texts}
use Rattle.command_line.specs.Parser.{flock_app, is_dashes}
use Rattle.command_line.proofs.Bools.{list_any-map}
use Rattle.command_line.proofs.Lines.{ranges_answer, read_answer, refused_answer, taken}
use Rattle.command_line.proofs.Parses.{of_none, of_some}
use Rattle.command_line.proofs.command.read_words.Goals as goal

pub returns-then-has_dashes-clause-refused : goal.returns-then-has_dashes-clause-refused
returns-then-has_dashes-clause-refused c = λ command is.
    true≢false (sym c.if-has_dashes.true ∙ c.has_dashes.ensures ∙ sym (list_any-map is_dashes (λ word. word.now) c.args.words.now) ∙ (taken (texts c.args.words.now) command is).dashes)

pub returns-in-Some-clause-read : goal.returns-in-Some-clause-read
returns-in-Some-clause-read c =
    let words = texts c.args.words.now in
    let dashes : list_any is_dashes words ≡ false = list_any-map is_dashes (λ word. word.now) c.args.words.now ∙ sym c.has_dashes.ensures ∙ c.if-has_dashes.false in
    let none = of_some _ c.in-Some.matches (λ matches. fault_of flock_app words ≡ []) c.in-Some.is c.in_ok-matches.ensures.faultless in
    let same = of_some _ c.in-Some.matches (λ matches. subcommand_rows_of matches ≡ subcommand_of flock_app words) c.in-Some.is c.in_ok-matches.ensures.matches in
    read_answer words _ c.command_in.result dashes none same c.command_in.ensures

pub returns-in-Some-clause-refused : goal.returns-in-Some-clause-refused
returns-in-Some-clause-refused c =
    let words = texts c.args.words.now in
    let same = of_some _ c.in-Some.matches (λ matches. subcommand_rows_of matches ≡ subcommand_of flock_app words) c.in-Some.is c.in_ok-matches.ensures.matches in
    refused_answer words _ c.command_in.result same c.command_in.ensures

pub returns-in-Some-clause-ranges : goal.returns-in-Some-clause-ranges
returns-in-Some-clause-ranges c =
    let words = texts c.args.words.now in
    let dashes : list_any is_dashes words ≡ false = list_any-map is_dashes (λ word. word.now) c.args.words.now ∙ sym c.has_dashes.ensures ∙ c.if-has_dashes.false in
    let none = of_some _ c.in-Some.matches (λ matches. fault_of flock_app words ≡ []) c.in-Some.is c.in_ok-matches.ensures.faultless in
    let same = of_some _ c.in-Some.matches (λ matches. subcommand_rows_of matches ≡ subcommand_of flock_app words) c.in-Some.is c.in_ok-matches.ensures.matches in
    ranges_answer words c.command_in.result (read_answer words _ c.command_in.result dashes none same c.command_in.ensures)

pub returns-in-None-clause-refused : goal.returns-in-None-clause-refused
returns-in-None-clause-refused c =
    let words = texts c.args.words.now in
    λ command is. of_none _ (fault_of flock_app words ≡ [] → ⊥) c.in-None.is c.in_ok-matches.ensures.refused (taken words command is).none
