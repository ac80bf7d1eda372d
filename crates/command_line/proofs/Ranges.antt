-- Options that have a meaning are in their ranges.
use Rattle.std.proofs.Common.{◌≡◌, ◌≤◌, ℕ, Bool, true, false, cond, List, [], ◌∷◌, Option, None, Some, codes, map, refl, sym, ap, ◌∙◌, subst, arith}
use Rattle.std.specs.Prelude.{◌==◌, ◌&&◌, All, IfSome, find, nat_le, option_and_then, option_map, position}
use Rattle.std.specs.Str.{bytes_eq}
use Rattle.std.specs.List.{AllByRecursion, list_all, list_any, before_first, after_first, slice_split}
use Rattle.std.proofs.lemmas.Bool.{leb-true}
use Rattle.std.proofs.lemmas.List.Elements.{All-from_recursion}
use Rattle.std.proofs.lemmas.List.Quantifiers.{position-Some}
use Rattle.std.proofs.lemmas.Slice.Eq.{bytes_eq-Decides}
use Rattle.trace_reader.specs.declared.generator.Gen.{Gen}
use Rattle.command_line.specs.declared.command.Command.{Command}
use Rattle.command_line.specs.declared.command.Command.TheVariants as commands
use Rattle.command_line.specs.declared.generated.LoadOptions.{LoadOptions}
use Rattle.command_line.specs.Commands.{HasRanges, IsCommand}
use Rattle.command_line.specs.Generated.{AreLoadRanges, ArePlanRanges, MeanLoad, MeanPlan, load_names}
use Rattle.trace_reader.specs.Fields.{is_number, value_of}
use Rattle.command_line.specs.declared.halts.Halt.{Halt}
use Rattle.command_line.specs.declared.options.RunOptions.{RunOptions}
use Rattle.command_line.specs.Halts.{all_there, halt_in, halt_of, halts_in, if_runners_differ, is_colon, is_comma, runners_differ, together}
use Rattle.command_line.specs.Numbers.{exponent_in, number_in, powers}
use Rattle.command_line.specs.Options.{AreInRange, Mean, meant, meant_or}
use Rattle.command_line.specs.Written.{AreOptionsOf, Text, Written, given, is_among}
use Rattle.command_line.proofs.Bools.{both_true}

abbrev is_in : (least greatest : ℕ) → Text → Bool
is_in least greatest text = is_number text && (nat_le least (value_of text) && nat_le (value_of text) greatest)

pub number_bounds : (least greatest : ℕ) (text : Text) (number : ℕ) → number_in least greatest text ≡ Some number → (least ≤ number) × (number ≤ greatest)
number_bounds least greatest text number e = by_test (is_in least greatest text) refl
  where
    by_test : (b : Bool) → is_in least greatest text ≡ b → (least ≤ number) × (number ≤ greatest)
    by_test true is =
        let some : Some (value_of text) ≡ Some number = sym (ap (λ b. cond b (Some (value_of text)) None) is) ∙ e in
        let same : value_of text ≡ number = cc in
        let parts = both_true _ _ (both_true (is_number text) _ is).1 in
        (subst (λ n. least ≤ n) same (leb-true _ _ parts.0), subst (λ n. n ≤ greatest) same (leb-true _ _ parts.1))
    by_test false is =
        let none : None ≡ Some number = sym (ap (λ b. cond b (Some (value_of text)) None) is) ∙ e in
        cc

meant_bounds : (least greatest : ℕ) (text : Option Text) (number : Option ℕ) → meant (number_in least greatest) text ≡ Some number → IfSome number (λ number. (least ≤ number) × (number ≤ greatest))
meant_bounds least greatest None number e = let none : None ≡ number = cc in subst (λ number. IfSome number (λ number. (least ≤ number) × (number ≤ greatest))) none tt
meant_bounds least greatest (Some text) number e = by_number (number_in least greatest text) refl
  where
    by_number : (found : Option ℕ) → number_in least greatest text ≡ found → IfSome number (λ number. (least ≤ number) × (number ≤ greatest))
    by_number None is = let none : None ≡ Some number = sym (ap (option_map Some) is) ∙ e in cc
    by_number (Some found) is =
        let some : Some (Some found) ≡ Some number = sym (ap (option_map Some) is) ∙ e in
        let same : Some found ≡ number = cc in
        subst (λ number. IfSome number (λ number. (least ≤ number) × (number ≤ greatest))) same (number_bounds least greatest text found is)

default_bounds : (default least greatest : ℕ) (text : Option Text) (number : ℕ) → least ≤ default → default ≤ greatest → meant_or default (number_in least greatest) text ≡ Some number → (least ≤ number) × (number ≤ greatest)
default_bounds default least greatest None number low high e = let same : default ≡ number = cc in (subst (λ n. least ≤ n) same low, subst (λ n. n ≤ greatest) same high)
default_bounds default least greatest (Some text) number low high e = number_bounds least greatest text number e

exponent_bound : (text : Text) (bits : ℕ) → exponent_in text ≡ Some bits → bits ≤ 12
exponent_bound text bits e = by_number (number_in 1 4096 text) refl
  where
    by_number : (found : Option ℕ) → number_in 1 4096 text ≡ found → bits ≤ 12
    by_number None is = let none : None ≡ Some bits = sym (ap (option_and_then (λ number. position (λ power. power == number) powers)) is) ∙ e in cc
    by_number (Some number) is =
        let at : position (λ power. power == number) powers ≡ Some bits = sym (ap (option_and_then (λ number. position (λ power. power == number) powers)) is) ∙ e in
        omega (arith, (position-Some (λ power. power == number) powers bits 0 at).0)

meant_exponent_bound : (text : Option Text) (bits : Option ℕ) → meant exponent_in text ≡ Some bits → IfSome bits (λ n. n ≤ 12)
meant_exponent_bound None bits e = let none : None ≡ bits = cc in subst (λ bits. IfSome bits (λ n. n ≤ 12)) none tt
meant_exponent_bound (Some text) bits e = by_exponent (exponent_in text) refl
  where
    by_exponent : (found : Option ℕ) → exponent_in text ≡ found → IfSome bits (λ n. n ≤ 12)
    by_exponent None is = let none : None ≡ Some bits = sym (ap (option_map Some) is) ∙ e in cc
    by_exponent (Some found) is =
        let some : Some (Some found) ≡ Some bits = sym (ap (option_map Some) is) ∙ e in
        let same : Some found ≡ bits = cc in
        subst (λ bits. IfSome bits (λ n. n ≤ 12)) same (exponent_bound text found is)

abbrev IsNamedHalt : Halt → Type 0
IsNamedHalt halt = (halt.runner ≤ 15) × (1 ≤ halt.ask)

halt_of_bounds : (runner ask : Option ℕ) (halt : Halt) → IfSome runner (λ n. n ≤ 15) → IfSome ask (λ n. 1 ≤ n) → halt_of runner ask ≡ Some halt → IsNamedHalt halt
halt_of_bounds None ask halt r a e = cc
halt_of_bounds (Some runner) None halt r a e = cc
halt_of_bounds (Some runner) (Some ask) halt r a e = let same : record { runner = runner; ask = ask } ≡ halt = cc in subst IsNamedHalt same (r, a)

named_bounds : (least greatest : ℕ) (text : Text) → IfSome (number_in least greatest text) (λ n. (least ≤ n) × (n ≤ greatest))
named_bounds least greatest text = by_number (number_in least greatest text) refl
  where
    by_number : (found : Option ℕ) → number_in least greatest text ≡ found → IfSome found (λ n. (least ≤ n) × (n ≤ greatest))
    by_number None is = tt
    by_number (Some number) is = number_bounds least greatest text number is

weaker : (found : Option ℕ) (P Q : ℕ → Type 0) → ((n : ℕ) → P n → Q n) → IfSome found P → IfSome found Q
weaker None P Q f h = tt
weaker (Some n) P Q f h = f n h

halt_bounds : (text : Text) (halt : Halt) → halt_in text ≡ Some halt → IsNamedHalt halt
halt_bounds text halt e = by_test (list_any is_colon text) refl
  where
    by_test : (b : Bool) → list_any is_colon text ≡ b → IsNamedHalt halt
    by_test true is =
        let runner = number_in 0 15 (before_first is_colon text) in
        let ask = number_in 1 1000000000000 (after_first is_colon text) in
        halt_of_bounds runner ask halt (weaker runner (λ n. (0 ≤ n) × (n ≤ 15)) (λ n. n ≤ 15) (λ n h. h.1) (named_bounds 0 15 (before_first is_colon text))) (weaker ask (λ n. (1 ≤ n) × (n ≤ 1000000000000)) (λ n. 1 ≤ n) (λ n h. h.0) (named_bounds 1 1000000000000 (after_first is_colon text)))
        (sym (ap (λ b. cond b (halt_of runner ask) None) is) ∙ e)
    by_test false is =
        let none : None ≡ Some halt = sym (ap (λ b. cond b (halt_of (number_in 0 15 (before_first is_colon text)) (number_in 1 1000000000000 (after_first is_colon text))) None) is) ∙ e in
        cc

there_bounds : (parts : List Text) (halts : List Halt) → all_there (map halt_in parts) ≡ Some halts → AllByRecursion IsNamedHalt halts
there_bounds [] halts e = let none : [] ≡ halts = cc in subst (AllByRecursion IsNamedHalt) none tt
there_bounds (part ∷ parts) halts e = by_parts (halt_in part) (all_there (map halt_in parts)) refl refl (λ more is. there_bounds parts more is)
  where
    by_parts : (found : Option Halt) (rest : Option (List Halt)) → halt_in part ≡ found → all_there (map halt_in parts) ≡ rest → ((more : List Halt) → all_there (map halt_in parts) ≡ Some more → AllByRecursion IsNamedHalt more) → AllByRecursion IsNamedHalt halts
    by_parts None rest is also again = let none : None ≡ Some halts = sym (ap (λ found. together found (all_there (map halt_in parts))) is) ∙ e in cc
    by_parts (Some halt) None is also again =
        let none : None ≡ Some halts = sym (ap (λ found. together found (all_there (map halt_in parts))) is ∙ ap (together (Some halt)) also) ∙ e in
        cc
    by_parts (Some halt) (Some more) is also again =
        let some : Some (halt ∷ more) ≡ Some halts = sym (ap (λ found. together found (all_there (map halt_in parts))) is ∙ ap (together (Some halt)) also) ∙ e in
        let same : halt ∷ more ≡ halts = cc in
        subst (AllByRecursion IsNamedHalt) same (halt_bounds part halt is, again more also)

halts_bounds : (text : Option Text) (halts : List Halt) → meant_or [] halts_in text ≡ Some halts → All IsNamedHalt halts
halts_bounds None halts e = let none : [] ≡ halts = cc in All-from_recursion _ halts (subst (AllByRecursion IsNamedHalt) none tt)
halts_bounds (Some text) halts e = by_halts (all_there (map halt_in (slice_split is_comma text))) refl
  where
    by_halts : (found : Option (List Halt)) → all_there (map halt_in (slice_split is_comma text)) ≡ found → All IsNamedHalt halts
    by_halts None is = let none : None ≡ Some halts = sym (ap if_runners_differ is) ∙ e in cc
    by_halts (Some found) is = by_test (runners_differ found) refl
      where
        by_test : (b : Bool) → runners_differ found ≡ b → All IsNamedHalt halts
        by_test true also =
            let some : Some found ≡ Some halts = sym (ap if_runners_differ is ∙ ap (λ b. cond b (Some found) None) also) ∙ e in
            let same : found ≡ halts = cc in
            All-from_recursion _ halts (there_bounds (slice_split is_comma text) halts (is ∙ ap Some same))
        by_test false also = let none : None ≡ Some halts = sym (ap if_runners_differ is ∙ ap (λ b. cond b (Some found) None) also) ∙ e in cc

pub in_range : (said : Text → Option Text) (run : RunOptions) → Mean said run → AreInRange run
in_range said run mean = record {
  runners = meant_bounds 1 16 (said (codes "runners")) run.runners mean.runners;
  bucket_bits = meant_exponent_bound (said (codes "buckets")) run.bucket_bits mean.bucket_bits;
  nodes = weaker run.nodes (λ n. (0 ≤ n) × (n ≤ 262144)) (λ n. n ≤ 262144) (λ n h. h.1) (meant_bounds 0 262144 (said (codes "nodes")) run.nodes mean.nodes);
  sections = default_bounds 64 1 1024 (said (codes "sections")) run.sections (omega arith) (omega arith) mean.sections;
  version_max = (default_bounds 4294967295 3 4294967295 (said (codes "version-max")) run.version_max (omega arith) (omega arith) mean.version_max).0;
  halts = halts_bounds (said (codes "halt")) run.halts mean.halts;
}

given_bounds : (least greatest : ℕ) (text : Option Text) (number : ℕ) → option_and_then (number_in least greatest) text ≡ Some number → (least ≤ number) × (number ≤ greatest)
given_bounds least greatest None number e = cc
given_bounds least greatest (Some text) number e = number_bounds least greatest text number e

pub plan_in_range : (said : Text → Option Text) (own_keys : Bool) (plan : Gen) → MeanPlan said own_keys plan → ArePlanRanges plan
plan_in_range said own_keys plan mean =
    let keys = given_bounds 1 32768 (said (codes "keys")) plan.keys mean.keys in
    record {
      seed = (given_bounds 0 2147483647 (said (codes "seed")) plan.seed mean.seed).1;
      traces = (given_bounds 0 64 (said (codes "traces")) plan.traces mean.traces).1;
      count = (given_bounds 0 131072 (said (codes "length")) plan.length mean.count).1;
      some_keys = keys.0;
      keys = keys.1;
    }

-- an option of another name isn't given
pub not_given : (names : List Text) (name : Text) (options : List Written) → is_among names name ≡ false → list_all (λ (written : Written). is_among names written.name) options ≡ true → given options name ≡ None
not_given names name [] other known = refl
not_given names name (written ∷ options) other known =
    let parts = both_true (is_among names written.name) (list_all (λ (written : Written). is_among names written.name) options) known in
    by_test (not_given names name options other parts.1) parts.0 (bytes_eq written.name name) refl
  where
    by_test : given options name ≡ None → is_among names written.name ≡ true → (b : Bool) → bytes_eq written.name name ≡ b → given (written ∷ options) name ≡ None
    by_test again among true is =
        let same : written.name ≡ name = (bytes_eq-Decides written.name name).0 is in
        let no : true ≡ false = sym among ∙ ap (is_among names) same ∙ other in
        cc
    by_test again among false is =
        ap (λ b. option_map (λ (written : Written). written.value) (cond b (Some written) (find (λ (written : Written). bytes_eq written.name name) options))) is ∙ again

pub load_in_range : (options : List Written) (load : LoadOptions) → AreOptionsOf load_names options → MeanLoad (given options) load → AreLoadRanges load
load_in_range options load of mean = record {
  plan = plan_in_range (given options) true load.plan mean.plan;
  apart = mean.plan.apart;
  run = in_range (given options) load.run mean.run;
  no_halts = some_halts (sym (ap (meant_or [] halts_in) (not_given load_names (codes "halt") options refl of.known)) ∙ mean.run.halts);
}
  where
    some_halts : Some [] ≡ Some load.run.halts → load.run.halts ≡ []
    some_halts e = cc

pub command_in_range : (words : List Text) (command : Command) → IsCommand words command → HasRanges command
command_in_range [] command is = absurd is
command_in_range (word ∷ words) (commands.Run options) is = in_range (given is.1.options) options is.1.mean
command_in_range (word ∷ words) (commands.Gen plan) is = plan_in_range (given is.1.options) false plan is.1.mean
command_in_range (word ∷ words) (commands.Load options) is = load_in_range is.1.options options is.1.options_of is.1.mean
command_in_range (word ∷ words) commands.Check is = tt
