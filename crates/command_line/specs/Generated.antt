-- The options of `gen` and `load`, by their words.
use Rattle.std.specs.Prelude.{◌≡◌, ◌≤◌, Bool, false, true, List, [], ◌∷◌, Option, Some, codes, option_and_then}
use Rattle.trace_reader.specs.declared.generator.Gen.{Gen}
use Rattle.command_line.specs.declared.generated.LoadOptions.{LoadOptions}
use Rattle.command_line.specs.Numbers.{number_in}
use Rattle.command_line.specs.Options.{AreInRange, Mean}
use Rattle.command_line.specs.Written.{AreOptionsOf, Text, Written, all_words_of, given}

-- the names of the options of `gen`
abbrev pub gen_names : List Text
gen_names = codes "seed" ∷ codes "traces" ∷ codes "length" ∷ codes "keys" ∷ []

-- those of `load`: these, and those of `run` but for the halts
abbrev pub load_names : List Text
load_names =
    codes "seed" ∷ codes "traces" ∷ codes "length" ∷ codes "keys" ∷ codes "table" ∷ codes "runners" ∷ codes "buckets" ∷
    codes "nodes"
    ∷ codes "sections" ∷ codes "version-max" ∷ codes "reads" ∷ []

-- what options say is to be generated, of which this says what each was given: each of the four numbers is there
pub record MeanPlan (said : Text → Option Text) (own_keys : Bool) (plan : Gen) : Type 0 where
  pub seed : option_and_then (number_in 0 2147483647) (said (codes "seed")) ≡ Some plan.seed
  pub traces : option_and_then (number_in 0 64) (said (codes "traces")) ≡ Some plan.traces
  pub count : option_and_then (number_in 0 131072) (said (codes "length")) ≡ Some plan.length
  pub keys : option_and_then (number_in 1 32768) (said (codes "keys")) ≡ Some plan.keys
  pub apart : plan.apart ≡ own_keys

-- the words behind `gen` are those of its options, each at most once, which mean this
pub record IsGen (line : List Text) (plan : Gen) : Type 0 where
  pub options : List Written
  pub words : line ≡ all_words_of options
  pub options_of : AreOptionsOf gen_names options
  pub mean : MeanPlan (given options) false plan

-- what options of `load` mean; each trace has keys of its own
pub record MeanLoad (said : Text → Option Text) (load : LoadOptions) : Type 0 where
  pub plan : MeanPlan said true load.plan
  pub run : Mean said load.run

-- the words behind `load` are those of its options, each at most once, which mean this
pub record IsLoad (line : List Text) (load : LoadOptions) : Type 0 where
  pub options : List Written
  pub words : line ≡ all_words_of options
  pub options_of : AreOptionsOf load_names options
  pub mean : MeanLoad (given options) load

-- the numbers of what is to be generated are in their ranges
pub record ArePlanRanges (plan : Gen) : Type 0 where
  pub seed : plan.seed ≤ 2147483647
  pub traces : plan.traces ≤ 64
  pub count : plan.length ≤ 131072
  pub some_keys : 1 ≤ plan.keys
  pub keys : plan.keys ≤ 32768

-- so are the options of `load`, of which none names a halt
pub record AreLoadRanges (load : LoadOptions) : Type 0 where
  pub plan : ArePlanRanges load.plan
  pub apart : load.plan.apart ≡ true
  pub run : AreInRange load.run
  pub no_halts : load.run.halts ≡ []
