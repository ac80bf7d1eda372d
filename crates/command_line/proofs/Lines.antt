-- Whole command lines: clap finds no fault exactly where the words are a subcommand's name and options, and its matches say what these were given.
use Rattle.std.proofs.Common.{◌≡◌, Bool, true, false, cond, List, [], ◌∷◌, ◌++◌, Option, None, Some, codes, refl, sym, ap, ap₂, ◌∙◌, subst, append_assoc, append-nil, is_some, Result, Ok, Err}
use Rattle.std.specs.Prelude.{◌&&◌, ◌||◌, IfNone, IfOk, IfSome, find, fold, option_map}
use Rattle.std.specs.List.{list_any}
use Rattle.std.specs.Option.{option_map_or}
use Rattle.std.specs.Str.{bytes_eq}
use Rattle.std.proofs.lemmas.Slice.Eq.{bytes_eq-Decides}
use Rattle.clap.specs.Kinds.{Kinds, or_else}
use Rattle.clap.specs.Lexer.{long_of}
use Rattle.clap.specs.Faults.{check_fault, defaults_fault, entered_fault, fault_of, level_fault, other_fault, settle_fault, step_fault, turn_fault, walk_fault}
use Rattle.clap.specs.Simple.{App, Shape, built, entered, label_of, names_of, rows_at, subcommand_of}
use Rattle.clap.specs.Walk.{Names, Row, Rule, Walk, after_step, answers_to, finished, idle, nothing_held, settled, subcommand_met, subcommand_or_other, walk, walk_from, walked}
use Rattle.clap.specs.declared.error.kind.ErrorKind.TheVariants as kind
use Rattle.command_line.specs.declared.command.Command.{Command}
use Rattle.command_line.specs.declared.command.Command.TheVariants as commands
use Rattle.command_line.specs.Commands.{HasRanges, IsCommand}
use Rattle.command_line.specs.Generated.{MeanLoad, MeanPlan, gen_names, load_names}
use Rattle.command_line.specs.Options.{Mean, run_names}
use Rattle.command_line.specs.Parser.{IsMeant, Means, flock_app, is_dashes, said_in}
use Rattle.command_line.specs.Written.{AreOptionsOf, Text, Written, all_words_of, given}
use Rattle.command_line.proofs.Meanings.{gen_check, gen_load, load_check, run_check, run_gen, run_load}
use Rattle.command_line.proofs.Passes.{IsWritten, found, level, level_passes, level_read}
use Rattle.command_line.proofs.Plains.{gen_plain, load_plain, run_plain, values_plain}
use Rattle.command_line.proofs.Ranges.{command_in_range}
use Rattle.command_line.proofs.Turns.{both_none, built_with, or_else_none, stray, unknown_fault}
use Rattle.command_line.proofs.Walks.{neither}

abbrev whole : App
whole = built flock_app

abbrev tops : Names
tops = names_of whole

-- ---- the words behind a subcommand's name are its own

stopping : (c : List Rule) (names : Names) (w : Walk) (name : Text) (before line : List Text) → fold (walked c names) (record w { stopped = Some (name, before) }) line ≡ record w { stopped = Some (name, before ++ line) }
unfolding walked
stopping c names w name before [] = ap (λ words. record w { stopped = Some (name, words) }) (sym (append-nil before))
stopping c names w name before (word ∷ line) =
    stopping c names w name (before ++ word ∷ []) line
    ∙ ap (λ words. record w { stopped = Some (name, words) }) (append_assoc before (word ∷ []) line)

stopped_faults : (s : Shape) (names : Names) (w : Walk) (name : Text) (before line : List Text) → walk_fault s names (record w { stopped = Some (name, before) }) line ≡ []
unfolding walked walk_fault
stopped_faults s names w name before [] = refl
stopped_faults s names w name before (word ∷ line) = stopped_faults s names w name (before ++ word ∷ []) line

-- the faults of a whole line, by where the walk over it ends
abbrev ends : Walk → Kinds → Kinds
ends w none =
    or_else none (or_else (entered_fault whole w.stopped) (or_else (settle_fault whole.top.rules false w.held) (or_else (defaults_fault (settled whole.top.rules w.held).rows whole.top.rules)
    (check_fault whole.top (finished whole.top.rules w.held) (is_some (entered whole w.stopped))))))

abbrev over : List Text → Walk
over words = walk whole.top.rules tops nothing_held words

fault_ends : (words : List Text) → fault_of flock_app words ≡ ends (over words) (walk_fault whole.top tops (walk_from nothing_held) words)
fault_ends words = refl

no_help : (b : Bool) → cond (b && false) (kind.DisplayHelp ∷ kind.InvalidSubcommand ∷ []) [] ≡ []
no_help true = refl
no_help false = refl

module _ (name : Text) (options : List Text) (met : subcommand_met tops idle name ≡ Some name) (sub : find (λ (s : Shape). answers_to name (label_of s)) whole.subs ≡ Some (built_with name options)) where
  abbrev stop : List Text → Walk
  stop line = record (walk_from nothing_held) { stopped = Some (name, line) }

  first_word : walked whole.top.rules tops (walk_from nothing_held) name ≡ stop []
  unfolding walked
  first_word = ap (λ found. after_step whole.top.rules name (walk_from nothing_held) (subcommand_or_other whole.top.rules found idle 1 name nothing_held).0 (subcommand_or_other whole.top.rules found idle 1 name nothing_held).1) met

  over_named : (line : List Text) → over (name ∷ line) ≡ stop line
  over_named line = ap (λ w. fold (walked whole.top.rules tops) w line) first_word ∙ stopping whole.top.rules tops (walk_from nothing_held) name [] line

  first_fault : turn_fault whole.top tops (walk_from nothing_held) name ≡ []
  first_fault =
      ap (λ found. or_else (other_fault whole.top found name nothing_held) (step_fault whole.top 1 (subcommand_or_other whole.top.rules found idle 1 name nothing_held).0 (subcommand_or_other whole.top.rules found idle 1 name nothing_held).1)) met
      ∙ or_else_none _ ∙ no_help (bytes_eq name (codes "help"))

  faults_named : (line : List Text) → walk_fault whole.top tops (walk_from nothing_held) (name ∷ line) ≡ []
  unfolding walk_fault
  faults_named line = ap₂ or_else first_fault (ap (λ w. walk_fault whole.top tops w line) first_word ∙ stopped_faults whole.top tops (walk_from nothing_held) name [] line)

  ends_named : (line : List Text) → ends (stop line) [] ≡ level name options line
  unfolding defaults_fault
  ends_named line =
      ap (λ found. or_else (option_map_or (λ s. level_fault s [] nothing_held line false []) found []) (check_fault whole.top [] (is_some (option_map (λ s. rows_at s line) found)))) sub
      ∙ or_else_none (level name options line)

  pub fault_named : (line : List Text) → fault_of flock_app (name ∷ line) ≡ level name options line
  fault_named line = ap₂ ends (over_named line) (faults_named line) ∙ ends_named line

  pub sub_named : (line : List Text) → subcommand_of flock_app (name ∷ line) ≡ Some (name, found options line)
  sub_named line = ap (λ w. entered whole w.stopped) (over_named line) ∙ ap (option_map (λ s. rows_at s line)) sub

  -- the words behind the name are those of options, and the rows say what these were given
  pub read_named : (line : List Text) → list_any is_dashes line ≡ false → fault_of flock_app (name ∷ line) ≡ [] → IsWritten options line
  read_named line dashes none = level_read name options line dashes (sym (fault_named line) ∙ none)

-- ---- the first word

-- no words at all
nothing_fault : fault_of flock_app [] ≡ kind.MissingSubcommand ∷ []
unfolding walk_fault defaults_fault
nothing_fault = refl

-- a word is this name, or goes on to the other names
abbrev met_or : Bool → Text → Option (Text × List Text) → Option (Text × List Text)
met_or same name rest = cond (same || false) (Some (name, [])) rest

abbrev name_met : Option (Text × List Text) → Option Text
name_met met = option_map (λ (s : Text × List Text). s.0) met

unnamed : (word : Text) → bytes_eq (codes "run") word ≡ false → bytes_eq (codes "gen") word ≡ false → bytes_eq (codes "load") word ≡ false → bytes_eq (codes "check") word ≡ false → subcommand_met tops idle word ≡ None
unnamed word run gen load check =
    ap (λ b. name_met (met_or b (codes "run") (met_or (bytes_eq (codes "gen") word) (codes "gen") (met_or (bytes_eq (codes "load") word) (codes "load") (met_or (bytes_eq (codes "check") word) (codes "check") None))))) run
    ∙ ap (λ b. name_met (met_or b (codes "gen") (met_or (bytes_eq (codes "load") word) (codes "load") (met_or (bytes_eq (codes "check") word) (codes "check") None)))) gen
    ∙ ap (λ b. name_met (met_or b (codes "load") (met_or (bytes_eq (codes "check") word) (codes "check") None))) load
    ∙ ap (λ b. name_met (met_or b (codes "check") None)) check

first_turn : (word : Text) (line : List Text) → fault_of flock_app (word ∷ line) ≡ [] → turn_fault whole.top tops (walk_from nothing_held) word ≡ []
unfolding walk_fault
first_turn word line e =
    (both_none (turn_fault whole.top tops (walk_from nothing_held) word) (walk_fault whole.top tops (walked whole.top.rules tops (walk_from nothing_held) word) line)
    (both_none (walk_fault whole.top tops (walk_from nothing_held) (word ∷ line)) _ e).0).0

-- another word than a subcommand's name
other_refused : (word : Text) (line : List Text) → subcommand_met tops idle word ≡ None → is_dashes word ≡ false → fault_of flock_app (word ∷ line) ≡ [] → ⊥
other_refused word line unmet dashes e = by_long (long_of word) refl
  where
    by_long : (cut : Option (Text × Option Text)) → long_of word ≡ cut → ⊥
    by_long None long = stray (codes "flock") [] false true tops [] None word unmet dashes long (first_turn word line e)
    by_long (Some (name, attached)) long =
        let no : kind.UnknownArgument ∷ [] ≡ [] = sym (unknown_fault (codes "flock") [] false true tops [] None idle word name attached unmet dashes long refl) ∙ first_turn word line e in
        cc

-- ---- what is read is what is written

-- the same rows, as what each option was given
says : (names line : List Text) (written : IsWritten names line) → said_in (found names line) ≡ given written.options
says names line written = λ i name. written.says name i

run_said : (line : List Text) → IsWritten run_names line → (command : Command) → IsMeant (Some (codes "run", found run_names line)) command → IsCommand (codes "run" ∷ line) command
run_said line written (commands.Run options) is =
    (refl, record { options = written.options; words = written.words; options_of = written.options_of; mean = subst (λ (said : Text → Option Text). Mean said options) (says run_names line written) is.1 })
run_said line written (commands.Gen plan) is = absurd (run_gen is.0)
run_said line written (commands.Load options) is = absurd (run_load is.0)
run_said line written commands.Check is = absurd (run_check is)

gen_said : (line : List Text) → IsWritten gen_names line → (command : Command) → IsMeant (Some (codes "gen", found gen_names line)) command → IsCommand (codes "gen" ∷ line) command
gen_said line written (commands.Run options) is = absurd (run_gen (sym is.0))
gen_said line written (commands.Gen plan) is =
    (refl, record { options = written.options; words = written.words; options_of = written.options_of; mean = subst (λ (said : Text → Option Text). MeanPlan said false plan) (says gen_names line written) is.1 })
gen_said line written (commands.Load options) is = absurd (gen_load is.0)
gen_said line written commands.Check is = absurd (gen_check is)

load_said : (line : List Text) → IsWritten load_names line → (command : Command) → IsMeant (Some (codes "load", found load_names line)) command → IsCommand (codes "load" ∷ line) command
load_said line written (commands.Run options) is = absurd (run_load (sym is.0))
load_said line written (commands.Gen plan) is = absurd (gen_load (sym is.0))
load_said line written commands.Check is = absurd (load_check is)
load_said line written (commands.Load options) is =
    (refl, record { options = written.options; words = written.words; options_of = written.options_of; mean = subst (λ (said : Text → Option Text). MeanLoad said options) (says load_names line written) is.1 })

-- options with no name to choose from are none
no_options : (options : List Written) → AreOptionsOf [] options → options ≡ []
no_options [] of = refl
no_options (written ∷ options) of = let no = of.known in absurd (cc)

check_said : (line : List Text) → IsWritten [] line → (command : Command) → IsMeant (Some (codes "check", found [] line)) command → IsCommand (codes "check" ∷ line) command
check_said line written (commands.Run options) is = absurd (run_check (sym is.0))
check_said line written (commands.Gen plan) is = absurd (gen_check (sym is.0))
check_said line written (commands.Load options) is = absurd (load_check (sym is.0))
check_said line written commands.Check is = (refl, written.words ∙ ap all_words_of (no_options written.options written.options_of))

-- what clap takes and what has a meaning is a command
pub said : (words : List Text) → list_any is_dashes words ≡ false → fault_of flock_app words ≡ [] → (command : Command) → IsMeant (subcommand_of flock_app words) command → IsCommand words command
said [] dashes none command is = let no : kind.MissingSubcommand ∷ [] ≡ [] = sym nothing_fault ∙ none in cc
said (word ∷ line) dashes none command is = by_name (bytes_eq (codes "run") word) (bytes_eq (codes "gen") word) (bytes_eq (codes "load") word) (bytes_eq (codes "check") word) refl refl refl refl
  where
    rest : list_any is_dashes line ≡ false
    rest = (neither (is_dashes word) _ dashes).1

    by_name : (run gen load check : Bool) → bytes_eq (codes "run") word ≡ run → bytes_eq (codes "gen") word ≡ gen → bytes_eq (codes "load") word ≡ load → bytes_eq (codes "check") word ≡ check → IsCommand (word ∷ line) command
    by_name true gen load check run_is gen_is load_is check_is =
        let same : codes "run" ≡ word = (bytes_eq-Decides (codes "run") word).0 run_is in
        let written = read_named (codes "run") run_names refl refl line rest (ap (λ w. fault_of flock_app (w ∷ line)) same ∙ none) in
        let meant = subst (λ sub. IsMeant sub command) (ap (λ w. subcommand_of flock_app (w ∷ line)) (sym same) ∙ sub_named (codes "run") run_names refl refl line) is in
        subst (λ w. IsCommand (w ∷ line) command) same (run_said line written command meant)
    by_name false true load check run_is gen_is load_is check_is =
        let same : codes "gen" ≡ word = (bytes_eq-Decides (codes "gen") word).0 gen_is in
        let written = read_named (codes "gen") gen_names refl refl line rest (ap (λ w. fault_of flock_app (w ∷ line)) same ∙ none) in
        let meant = subst (λ sub. IsMeant sub command) (ap (λ w. subcommand_of flock_app (w ∷ line)) (sym same) ∙ sub_named (codes "gen") gen_names refl refl line) is in
        subst (λ w. IsCommand (w ∷ line) command) same (gen_said line written command meant)
    by_name false false true check run_is gen_is load_is check_is =
        let same : codes "load" ≡ word = (bytes_eq-Decides (codes "load") word).0 load_is in
        let written = read_named (codes "load") load_names refl refl line rest (ap (λ w. fault_of flock_app (w ∷ line)) same ∙ none) in
        let meant = subst (λ sub. IsMeant sub command) (ap (λ w. subcommand_of flock_app (w ∷ line)) (sym same) ∙ sub_named (codes "load") load_names refl refl line) is in
        subst (λ w. IsCommand (w ∷ line) command) same (load_said line written command meant)
    by_name false false false true run_is gen_is load_is check_is =
        let same : codes "check" ≡ word = (bytes_eq-Decides (codes "check") word).0 check_is in
        let written = read_named (codes "check") [] refl refl line rest (ap (λ w. fault_of flock_app (w ∷ line)) same ∙ none) in
        let meant = subst (λ sub. IsMeant sub command) (ap (λ w. subcommand_of flock_app (w ∷ line)) (sym same) ∙ sub_named (codes "check") [] refl refl line) is in
        subst (λ w. IsCommand (w ∷ line) command) same (check_said line written command meant)
    by_name false false false false run_is gen_is load_is check_is = absurd (other_refused word line (unnamed word run_is gen_is load_is check_is) (neither (is_dashes word) _ dashes).0 none)

-- and a command is taken, and has that meaning
pub record IsTaken (words : List Text) (command : Command) : Type 0 where
  pub dashes : list_any is_dashes words ≡ false
  pub none : fault_of flock_app words ≡ []
  pub meant : IsMeant (subcommand_of flock_app words) command

taken_named : (name : Text) (options : List Text) (met : subcommand_met tops idle name ≡ Some name) (sub : find (λ (s : Shape). answers_to name (label_of s)) whole.subs ≡ Some (built_with name options)) (line : List Text) (command : Command)
    → is_dashes name ≡ false → list_any is_dashes line ≡ false → level name options line ≡ [] → IsMeant (Some (name, found options line)) command → IsTaken (name ∷ line) command
taken_named name options met sub line command first dashes none meant = record {
  dashes = ap₂ ◌||◌ first dashes;
  none = fault_named name options met sub line ∙ none;
  meant = subst (λ sub. IsMeant sub command) (sym (sub_named name options met sub line)) meant;
}

pub taken : (words : List Text) (command : Command) → IsCommand words command → IsTaken words command
taken [] command is = absurd is
taken (word ∷ line) (commands.Run options) is =
    let run = is.1 in
    let passes = level_passes (codes "run") run_names line run.options refl run.words run.options_of (values_plain run_names run.options run.options_of (run_plain (given run.options) options run.mean)) in
    let same : said_in (found run_names line) ≡ given run.options = λ i name. passes.2 name i in
    let meant = subst (λ (said : Text → Option Text). Mean said options) (sym same) run.mean in
    subst (λ w. IsTaken (w ∷ line) (commands.Run options)) (sym is.0) (taken_named (codes "run") run_names refl refl line (commands.Run options) refl passes.0 passes.1 (refl, meant))
taken (word ∷ line) (commands.Gen plan) is =
    let gen = is.1 in
    let passes = level_passes (codes "gen") gen_names line gen.options refl gen.words gen.options_of (values_plain gen_names gen.options gen.options_of (gen_plain (given gen.options) plan gen.mean)) in
    let same : said_in (found gen_names line) ≡ given gen.options = λ i name. passes.2 name i in
    let meant = subst (λ (said : Text → Option Text). MeanPlan said false plan) (sym same) gen.mean in
    subst (λ w. IsTaken (w ∷ line) (commands.Gen plan)) (sym is.0) (taken_named (codes "gen") gen_names refl refl line (commands.Gen plan) refl passes.0 passes.1 (refl, meant))
taken (word ∷ line) (commands.Load options) is =
    let load = is.1 in
    let passes = level_passes (codes "load") load_names line load.options refl load.words load.options_of (values_plain load_names load.options load.options_of (load_plain (given load.options) options load.mean)) in
    let same : said_in (found load_names line) ≡ given load.options = λ i name. passes.2 name i in
    let meant = subst (λ (said : Text → Option Text). MeanLoad said options) (sym same) load.mean in
    subst (λ w. IsTaken (w ∷ line) (commands.Load options)) (sym is.0) (taken_named (codes "load") load_names refl refl line (commands.Load options) refl passes.0 passes.1 (refl, meant))
taken (word ∷ line) commands.Check is =
    let passes = level_passes (codes "check") [] line [] refl is.1 (record { known = refl; once = refl }) refl in
    subst (λ w. IsTaken (w ∷ line) commands.Check) (sym is.0) (taken_named (codes "check") [] refl refl line commands.Check refl passes.0 passes.1 refl)

-- ---- the answer of the code, by what clap found

pub read_answer : {E : Type 0} (words : List Text) (sub : Option (Text × List Row)) (answer : Result (Option Command) E) → list_any is_dashes words ≡ false → fault_of flock_app words ≡ [] → sub ≡ subcommand_of flock_app words → IfOk answer (Means sub)
    → IfOk answer (λ found. IfSome found (λ command. IsCommand words command))
read_answer words sub (Ok None) dashes none same means = tt
read_answer words sub (Ok (Some command)) dashes none same means = said words dashes none command (subst (λ (sub : Option (Text × List Row)). IsMeant sub command) same means)
read_answer words sub (Err e) dashes none same means = tt

pub refused_answer : {E : Type 0} (words : List Text) (sub : Option (Text × List Row)) (answer : Result (Option Command) E) → sub ≡ subcommand_of flock_app words → IfOk answer (Means sub)
    → IfOk answer (λ found. IfNone found ((command : Command) → IsCommand words command → ⊥))
refused_answer words sub (Ok None) same means = λ command is. means command (subst (λ (sub : Option (Text × List Row)). IsMeant sub command) (sym same) (taken words command is).meant)
refused_answer words sub (Ok (Some command)) same means = tt
refused_answer words sub (Err e) same means = tt

pub ranges_answer : {E : Type 0} (words : List Text) (answer : Result (Option Command) E) → IfOk answer (λ found. IfSome found (λ command. IsCommand words command)) → IfOk answer (λ found. IfSome found HasRanges)
ranges_answer words (Ok None) read = tt
ranges_answer words (Ok (Some command)) read = command_in_range words command read
ranges_answer words (Err e) read = tt
