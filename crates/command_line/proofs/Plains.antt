-- What has a meaning doesn't begin with a dash.
use Rattle.std.proofs.Common.{◌≡◌, ℕ, Bool, true, false, cond, not, List, [], ◌∷◌, Option, None, Some, codes, length, map, take, refl, sym, ap, ◌∙◌, subst, arith, inl, inr}
use Rattle.std.specs.Prelude.{⊤, ◌⊎◌, ◌==◌, ◌&&◌, ◌||◌, IfSome, find, nat_le, nat_lt, option_and_then, option_map, position}
use Rattle.std.specs.Str.{bytes_eq}
use Rattle.std.specs.List.{after_first, before_first, list_any, onto_first, position_or_len, slice_split}
use Rattle.std.proofs.Math.Numerals.{one-add}
use Rattle.std.proofs.lemmas.Bool.Decides.{nat_tests}
use Rattle.std.proofs.lemmas.Slice.Eq.{bytes_eq-Decides}
use Rattle.small_lemmas.proofs.Lists.{none_not_some as no_some}
use Rattle.trace_reader.specs.Fields.{value_of}
use Rattle.trace_reader.specs.declared.generator.Gen.{Gen}
use Rattle.command_line.specs.declared.generated.LoadOptions.{LoadOptions}
use Rattle.command_line.specs.declared.options.Reads.TheVariants.{Lock}
use Rattle.command_line.specs.declared.options.RunOptions.{RunOptions}
use Rattle.command_line.specs.declared.options.TableKind.TheVariants.{Hash}
use Rattle.command_line.specs.Generated.{MeanLoad, MeanPlan, gen_names, load_names}
use Rattle.command_line.specs.Halts.{all_there, halt_in, halt_of, halts_in, if_runners_differ, is_colon, is_comma, together}
use Rattle.command_line.specs.Numbers.{exponent_in, number_in, powers}
use Rattle.command_line.specs.Options.{Mean, meant, meant_or, reads_in, run_names, table_in}
use Rattle.command_line.specs.Written.{AreOptionsOf, Text, Written, each_once, given, is_among}
use Rattle.command_line.proofs.Bools.{both_true, one_true}
use Rattle.command_line.proofs.Passes.{are_plain, differs, is_plain, names_of, or_later}
use Rattle.command_line.proofs.Walks.{are_known}

plain_from : (text : Text) → ((bytes : Text) → text ≡ 45 ∷ bytes → ⊥) → is_plain text ≡ true
plain_from [] other = refl
plain_from (byte ∷ bytes) other = by_test (byte == 45) refl
  where
    by_test : (b : Bool) → (byte == 45) ≡ b → is_plain (byte ∷ bytes) ≡ true
    by_test true is = let same : byte ≡ 45 = grind (arith, nat_tests) in absurd (other bytes (ap (λ b. b ∷ bytes) same))
    by_test false is = ap not is

-- a reading that refuses each text with a dash in front takes only others
plain_read : {X : Type 0} (read : Text → Option X) → ((bytes : Text) → read (45 ∷ bytes) ≡ None) → (text : Text) (x : X) → read text ≡ Some x → is_plain text ≡ true
plain_read read refuses text x is = plain_from text (λ bytes e. no_some x (sym (refuses bytes) ∙ sym (ap read e) ∙ is))

and_false : (a : Bool) → (a && false) ≡ false
and_false true = refl
and_false false = refl

same_either : {X : Type 0} (b : Bool) (x : X) → cond b x x ≡ x
same_either true x = refl
same_either false x = refl

dash_number : (least greatest : ℕ) (bytes : Text) → number_in least greatest (45 ∷ bytes) ≡ None
dash_number least greatest bytes =
    let value = value_of (45 ∷ bytes) in
    ap (λ b. cond (b && (nat_le least value && nat_le value greatest)) (Some value) None) (and_false (nat_lt 0 (length (45 ∷ bytes))))

dash_exponent : (bytes : Text) → exponent_in (45 ∷ bytes) ≡ None
dash_exponent bytes = ap (option_and_then (λ number. position (λ power. power == number) powers)) (dash_number 1 4096 bytes)

dash_table : (bytes : Text) → table_in (45 ∷ bytes) ≡ None
dash_table bytes = refl

dash_reads : (bytes : Text) → reads_in (45 ∷ bytes) ≡ None
dash_reads bytes = refl

dash_halt : (bytes : Text) → halt_in (45 ∷ bytes) ≡ None
dash_halt bytes =
    let text = 45 ∷ bytes in
    let place = position_or_len is_colon bytes in
    let runner : number_in 0 15 (before_first is_colon text) ≡ None = ap (λ n. number_in 0 15 (take n text)) (one-add place) ∙ dash_number 0 15 (take place bytes) in
    ap (λ found. cond (list_any is_colon text) (halt_of found (number_in 1 1000000000000 (after_first is_colon text))) None) runner ∙ same_either (list_any is_colon text) None

dash_parts : (parts : List Text) → if_runners_differ (all_there (map halt_in (onto_first 45 parts))) ≡ None
dash_parts [] = ap (λ found. if_runners_differ (together found (Some []))) (dash_halt [])
dash_parts (first ∷ rest) = ap (λ found. if_runners_differ (together found (all_there (map halt_in rest)))) (dash_halt first)

dash_halts : (bytes : Text) → halts_in (45 ∷ bytes) ≡ None
dash_halts bytes = dash_parts (slice_split is_comma bytes)

abbrev IsPlainIfGiven : Option Text → Type 0
IsPlainIfGiven text = IfSome text (λ text. is_plain text ≡ true)

meant_plain : {X : Type 0} (read : Text → Option X) → ((bytes : Text) → read (45 ∷ bytes) ≡ None) → (text : Option Text) (x : Option X) → meant read text ≡ Some x → IsPlainIfGiven text
meant_plain read refuses None x e = tt
meant_plain {X = X} read refuses (Some text) x e = by_found (read text) refl
  where
    by_found : (found : Option X) → read text ≡ found → is_plain text ≡ true
    by_found None is = absurd (no_some x (sym (ap (option_map Some) is) ∙ e))
    by_found (Some y) is = plain_read read refuses text y is

default_plain : {X : Type 0} (default : X) (read : Text → Option X) → ((bytes : Text) → read (45 ∷ bytes) ≡ None) → (text : Option Text) (x : X) → meant_or default read text ≡ Some x → IsPlainIfGiven text
default_plain default read refuses None x e = tt
default_plain default read refuses (Some text) x e = plain_read read refuses text x e

given_plain : {X : Type 0} (read : Text → Option X) → ((bytes : Text) → read (45 ∷ bytes) ≡ None) → (text : Option Text) (x : X) → option_and_then read text ≡ Some x → IsPlainIfGiven text
given_plain read refuses None x e = tt
given_plain read refuses (Some text) x e = plain_read read refuses text x e

-- a fact of each of these names
abbrev EachName : (Text → Type 0) → List Text → Type 0
EachName P [] = ⊤
EachName P (name ∷ names) = P name × EachName P names

of_name : (P : Text → Type 0) (names : List Text) → EachName P names → (name : Text) → is_among names name ≡ true → P name
of_name P [] all name e = let no : false ≡ true = e in cc
of_name P (first ∷ names) all name e = choose (λ later. of_name P names all.1 name later) (one_true _ _ e)
  where
    choose : (is_among names name ≡ true → P name) → (bytes_eq name first ≡ true) ⊎ (is_among names name ≡ true) → P name
    choose again (inl same) = subst P (sym ((bytes_eq-Decides name first).0 same)) all.0
    choose again (inr later) = again later

pub run_plain : (said : Text → Option Text) (run : RunOptions) → Mean said run → (name : Text) → is_among run_names name ≡ true → IsPlainIfGiven (said name)
run_plain said run mean = of_name (λ name. IsPlainIfGiven (said name)) run_names (
  default_plain Hash table_in dash_table (said (codes "table")) run.table mean.table,
  (
    meant_plain (number_in 1 16) (dash_number 1 16) (said (codes "runners")) run.runners mean.runners,
    (
      meant_plain exponent_in dash_exponent (said (codes "buckets")) run.bucket_bits mean.bucket_bits,
      (
        meant_plain (number_in 0 262144) (dash_number 0 262144) (said (codes "nodes")) run.nodes mean.nodes,
        (
          default_plain 64 (number_in 1 1024) (dash_number 1 1024) (said (codes "sections")) run.sections mean.sections,
          (
            default_plain 4294967295 (number_in 3 4294967295) (dash_number 3 4294967295) (said (codes "version-max")) run.version_max mean.version_max,
            (
              default_plain Lock reads_in dash_reads (said (codes "reads")) run.reads mean.reads,
              (
                default_plain [] halts_in dash_halts (said (codes "halt")) run.halts mean.halts,
                tt,
              ),
            ),
          ),
        ),
      ),
    ),
  ),
)

seed_plain : (said : Text → Option Text) (own_keys : Bool) (plan : Gen) → MeanPlan said own_keys plan → IsPlainIfGiven (said (codes "seed"))
seed_plain said own_keys plan mean = given_plain (number_in 0 2147483647) (dash_number 0 2147483647) (said (codes "seed")) plan.seed mean.seed

traces_plain : (said : Text → Option Text) (own_keys : Bool) (plan : Gen) → MeanPlan said own_keys plan → IsPlainIfGiven (said (codes "traces"))
traces_plain said own_keys plan mean = given_plain (number_in 0 64) (dash_number 0 64) (said (codes "traces")) plan.traces mean.traces

length_plain : (said : Text → Option Text) (own_keys : Bool) (plan : Gen) → MeanPlan said own_keys plan → IsPlainIfGiven (said (codes "length"))
length_plain said own_keys plan mean = given_plain (number_in 0 131072) (dash_number 0 131072) (said (codes "length")) plan.length mean.count

keys_plain : (said : Text → Option Text) (own_keys : Bool) (plan : Gen) → MeanPlan said own_keys plan → IsPlainIfGiven (said (codes "keys"))
keys_plain said own_keys plan mean = given_plain (number_in 1 32768) (dash_number 1 32768) (said (codes "keys")) plan.keys mean.keys

pub gen_plain : (said : Text → Option Text) (plan : Gen) → MeanPlan said false plan → (name : Text) → is_among gen_names name ≡ true → IsPlainIfGiven (said name)
gen_plain said plan mean = of_name (λ name. IsPlainIfGiven (said name)) gen_names (
  seed_plain said false plan mean,
  (
    traces_plain said false plan mean,
    (
      length_plain said false plan mean,
      (
        keys_plain said false plan mean,
        tt,
      ),
    ),
  ),
)

pub load_plain : (said : Text → Option Text) (load : LoadOptions) → MeanLoad said load → (name : Text) → is_among load_names name ≡ true → IsPlainIfGiven (said name)
load_plain said load mean = of_name (λ name. IsPlainIfGiven (said name)) load_names (
  seed_plain said true load.plan mean.plan,
  (
    traces_plain said true load.plan mean.plan,
    (
      length_plain said true load.plan mean.plan,
      (
        keys_plain said true load.plan mean.plan,
        (
          run_plain said load.run mean.run (codes "table") refl,
          (
            run_plain said load.run mean.run (codes "runners") refl,
            (
              run_plain said load.run mean.run (codes "buckets") refl,
              (
                run_plain said load.run mean.run (codes "nodes") refl,
                (
                  run_plain said load.run mean.run (codes "sections") refl,
                  (
                    run_plain said load.run mean.run (codes "version-max") refl,
                    (
                      run_plain said load.run mean.run (codes "reads") refl,
                      tt,
                    ),
                  ),
                ),
              ),
            ),
          ),
        ),
      ),
    ),
  ),
)

named_known : (names : List Text) (options : List Written) → are_known names options ≡ true → (name : Text) → is_among (names_of options) name ≡ true → is_among names name ≡ true
named_known names [] known name e = let no : false ≡ true = e in cc
named_known names (written ∷ options) known name e = choose (λ later. named_known names options (both_true _ _ known).1 name later) (one_true _ _ e)
  where
    choose : (is_among (names_of options) name ≡ true → is_among names name ≡ true) → (bytes_eq name written.name ≡ true) ⊎ (is_among (names_of options) name ≡ true) → is_among names name ≡ true
    choose again (inl same) = ap (is_among names) ((bytes_eq-Decides name written.name).0 same) ∙ (both_true _ _ known).0
    choose again (inr later) = again later

each_plain : (options : List Written) → each_once (names_of options) ≡ true → ((name : Text) → is_among (names_of options) name ≡ true → IsPlainIfGiven (given options name)) → are_plain options ≡ true
each_plain [] once plain = refl
each_plain (written ∷ options) once plain =
    let name = written.name in
    let parts = both_true (not (is_among (names_of options) name)) _ once in
    let same : bytes_eq name name ≡ true = (bytes_eq-Decides name name).1 refl in
    let value : is_plain written.value ≡ true =
    subst (λ b. IsPlainIfGiven (option_map (λ (w : Written). w.value) (cond b (Some written) (find (λ (w : Written). bytes_eq w.name name) options)))) same (plain name (ap (λ b. b || is_among (names_of options) name) same)) in
    ap (λ b. b && are_plain options) value
    ∙ each_plain options parts.1 (λ other among.
    subst (λ b. IsPlainIfGiven (option_map (λ (w : Written). w.value) (cond b (Some written) (find (λ (w : Written). bytes_eq w.name other) options)))) (differs (names_of options) name other parts.0 among)
    (plain other (or_later (bytes_eq other name) (is_among (names_of options) other) among)))

-- options of which each has a meaning have values without a dash in front
pub values_plain : (names : List Text) (options : List Written) → AreOptionsOf names options → ((name : Text) → is_among names name ≡ true → IsPlainIfGiven (given options name)) → are_plain options ≡ true
values_plain names options of plain = each_plain options of.once (λ name among. plain name (named_known names options of.known name among))
