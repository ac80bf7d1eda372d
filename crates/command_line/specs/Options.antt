-- The options of `run`, by their words.
use Rattle.std.specs.Prelude.{◌≡◌, ◌≤◌, ℕ, ◌*◌, ◌+◌, ◌/◌, Bool, true, false, List, [], ◌∷◌, All, IfSome, Option, None, Some, codes, if◌then◌else◌, max, min, nat_le, option_map, unwrap_or}
use Rattle.std.specs.Str.{bytes_eq}
use Rattle.command_line.specs.declared.halts.Halt.{Halt}
use Rattle.command_line.specs.declared.options.Reads.{Reads}
use Rattle.command_line.specs.declared.options.Reads.TheVariants.{Free, Lock}
use Rattle.command_line.specs.declared.options.RunOptions.{RunOptions}
use Rattle.command_line.specs.declared.options.TableKind.{TableKind}
use Rattle.command_line.specs.declared.options.TableKind.TheVariants as kinds
use Rattle.command_line.specs.Halts.{halts_in}
use Rattle.command_line.specs.Numbers.{exponent_in, number_in}
use Rattle.command_line.specs.Written.{AreOptionsOf, Text, Written, all_words_of, given}

abbrev pub table_in : Text → Option TableKind
table_in text =
    if bytes_eq text (codes "hash") then Some kinds.Hash else if bytes_eq text (codes "tree") then Some kinds.Tree else
    if bytes_eq text (codes "list") then Some kinds.List else None

abbrev pub reads_in : Text → Option Reads
reads_in text = if bytes_eq text (codes "lock") then Some Lock else if bytes_eq text (codes "free") then Some Free else
    None

-- reads are served without a lock
abbrev pub are_free : Reads → Bool
are_free Lock = false
are_free Free = true

-- what an option means: its default where it isn't given, else what its text says, if that is anything
abbrev pub meant_or : {X : Type 0} → X → (Text → Option X) → Option Text → Option X
meant_or default read None = Some default
meant_or default read (Some text) = read text

-- the same of an option whose default depends on the text that is run
abbrev pub meant : {X : Type 0} → (Text → Option X) → Option Text → Option (Option X)
meant read None = Some None
meant read (Some text) = option_map Some (read text)

-- the names of the options of `run`
abbrev pub run_names : List Text
run_names =
    codes "table" ∷ codes "runners" ∷ codes "buckets" ∷ codes "nodes" ∷ codes "sections" ∷ codes "version-max" ∷ codes
    "reads" ∷ codes "halt" ∷ []

-- what options mean of which this says what each was given
pub record Mean (said : Text → Option Text) (run : RunOptions) : Type 0 where
  pub table : meant_or kinds.Hash table_in (said (codes "table")) ≡ Some run.table
  pub runners : meant (number_in 1 16) (said (codes "runners")) ≡ Some run.runners
  pub bucket_bits : meant exponent_in (said (codes "buckets")) ≡ Some run.bucket_bits
  pub nodes : meant (number_in 0 262144) (said (codes "nodes")) ≡ Some run.nodes
  pub sections : meant_or 64 (number_in 1 1024) (said (codes "sections")) ≡ Some run.sections
  pub version_max : meant_or 4294967295 (number_in 3 4294967295) (said (codes "version-max")) ≡ Some run.version_max
  pub reads : meant_or Lock reads_in (said (codes "reads")) ≡ Some run.reads
  pub halts : meant_or [] halts_in (said (codes "halt")) ≡ Some run.halts

-- the words behind `run` are those of its options, each at most once, which mean this
pub record IsRun (line : List Text) (run : RunOptions) : Type 0 where
  pub options : List Written
  pub words : line ≡ all_words_of options
  pub options_of : AreOptionsOf run_names options
  pub mean : Mean (given options) run

-- one runner for each trace, but at least one and at most sixteen
abbrev pub runners_by : Option ℕ → ℕ → ℕ
runners_by runners traces = unwrap_or runners (max 1 (min traces 16))

-- the exponent of the least power of two that is at least 64 and at least an eighth of the insertions, but no more than
-- 4,096
abbrev pub bits_for : ℕ → ℕ
bits_for inserts =
    if nat_le inserts 512 then 6 else if nat_le inserts 1024 then 7 else if nat_le inserts 2048 then 8 else
    if nat_le inserts 4096 then 9 else if nat_le inserts 8192 then 10 else if nat_le inserts 16384 then 11 else 12

abbrev pub bits_by : Option ℕ → ℕ → ℕ
bits_by bits inserts = unwrap_or bits (bits_for inserts)

-- two node slots for each insertion and eight more, but no more of all runners together than 262,144
abbrev pub nodes_by : Option ℕ → (inserts runners : ℕ) → ℕ
nodes_by nodes inserts runners = unwrap_or nodes (min (2 * inserts + 8) (262144 / runners))

-- the options are in their ranges
pub record AreInRange (options : RunOptions) : Type 0 where
  pub runners : IfSome options.runners (λ runners. (1 ≤ runners) × (runners ≤ 16))
  pub bucket_bits : IfSome options.bucket_bits (λ bits. bits ≤ 12)
  pub nodes : IfSome options.nodes (λ nodes. nodes ≤ 262144)
  pub sections : (1 ≤ options.sections) × (options.sections ≤ 1024)
  pub version_max : 3 ≤ options.version_max
  pub halts : All (λ (halt : Halt). (halt.runner ≤ 15) × (1 ≤ halt.ask)) options.halts
