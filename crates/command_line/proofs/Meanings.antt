-- What clap found means one command at most.
use Rattle.std.proofs.Common.{◌≡◌, Bool, false, true, List, Option, None, Some, codes, ℕ, get_or, refl, sym, ap, ◌∙◌, subst, arith}
use Rattle.std.specs.Prelude.{IfNone}
use Rattle.small_lemmas.proofs.Lists.{some_the_same as some_same}
use Rattle.clap.specs.Walk.{Row}
use Rattle.trace_reader.specs.declared.generator.Gen.{Gen}
use Rattle.command_line.specs.declared.command.Command.{Command}
use Rattle.command_line.specs.declared.command.Command.TheVariants as commands
use Rattle.command_line.specs.declared.generated.LoadOptions.{LoadOptions}
use Rattle.command_line.specs.declared.options.RunOptions.{RunOptions}
use Rattle.command_line.specs.Generated.{MeanLoad, MeanPlan}
use Rattle.command_line.specs.Options.{Mean}
use Rattle.command_line.specs.Parser.{IsMeant, said_in}
use Rattle.command_line.specs.Written.{Text}

-- the names of the commands differ
abbrev first_of : Text → ℕ
first_of word = get_or word 0 0

pub run_check : codes "run" ≡ codes "check" → ⊥
run_check e = let first : 114 ≡ 99 = ap first_of e in absurd (omega (arith, first))

pub gen_check : codes "gen" ≡ codes "check" → ⊥
gen_check e = let first : 103 ≡ 99 = ap first_of e in absurd (omega (arith, first))

pub load_check : codes "load" ≡ codes "check" → ⊥
load_check e = let first : 108 ≡ 99 = ap first_of e in absurd (omega (arith, first))

pub run_gen : codes "run" ≡ codes "gen" → ⊥
run_gen e = let first : 114 ≡ 103 = ap first_of e in absurd (omega (arith, first))

pub run_load : codes "run" ≡ codes "load" → ⊥
run_load e = let first : 114 ≡ 108 = ap first_of e in absurd (omega (arith, first))

pub gen_load : codes "gen" ≡ codes "load" → ⊥
gen_load e = let first : 103 ≡ 108 = ap first_of e in absurd (omega (arith, first))

same_value : {X : Type 0} (found : Option X) (a b : X) → found ≡ Some a → found ≡ Some b → a ≡ b
same_value found a b e f = some_same a b (sym e ∙ f)

one_meaning : (said : Text → Option Text) (a b : RunOptions) → Mean said a → Mean said b → a ≡ b
one_meaning said a b one other =
    ap (λ x. record { table = x; runners = a.runners; bucket_bits = a.bucket_bits; nodes = a.nodes; sections = a.sections; version_max = a.version_max; reads = a.reads; halts = a.halts }) (same_value _ _ _ one.table other.table)
    ∙ ap (λ x. record { table = b.table; runners = x; bucket_bits = a.bucket_bits; nodes = a.nodes; sections = a.sections; version_max = a.version_max; reads = a.reads; halts = a.halts }) (same_value _ _ _ one.runners other.runners)
    ∙ ap (λ x. record { table = b.table; runners = b.runners; bucket_bits = x; nodes = a.nodes; sections = a.sections; version_max = a.version_max; reads = a.reads; halts = a.halts }) (same_value _ _ _ one.bucket_bits other.bucket_bits)
    ∙ ap (λ x. record { table = b.table; runners = b.runners; bucket_bits = b.bucket_bits; nodes = x; sections = a.sections; version_max = a.version_max; reads = a.reads; halts = a.halts }) (same_value _ _ _ one.nodes other.nodes)
    ∙ ap (λ x. record { table = b.table; runners = b.runners; bucket_bits = b.bucket_bits; nodes = b.nodes; sections = x; version_max = a.version_max; reads = a.reads; halts = a.halts }) (same_value _ _ _ one.sections other.sections)
    ∙ ap (λ x. record { table = b.table; runners = b.runners; bucket_bits = b.bucket_bits; nodes = b.nodes; sections = b.sections; version_max = x; reads = a.reads; halts = a.halts }) (same_value _ _ _ one.version_max other.version_max)
    ∙ ap (λ x. record { table = b.table; runners = b.runners; bucket_bits = b.bucket_bits; nodes = b.nodes; sections = b.sections; version_max = b.version_max; reads = x; halts = a.halts }) (same_value _ _ _ one.reads other.reads)
    ∙ ap (λ x. record { table = b.table; runners = b.runners; bucket_bits = b.bucket_bits; nodes = b.nodes; sections = b.sections; version_max = b.version_max; reads = b.reads; halts = x }) (same_value _ _ _ one.halts other.halts)

one_plan : (said : Text → Option Text) (own_keys : Bool) (a b : Gen) → MeanPlan said own_keys a → MeanPlan said own_keys b → a ≡ b
one_plan said own_keys a b one other =
    ap (λ x. record { seed = x; traces = a.traces; length = a.length; keys = a.keys; apart = a.apart }) (same_value _ _ _ one.seed other.seed)
    ∙ ap (λ x. record { seed = b.seed; traces = x; length = a.length; keys = a.keys; apart = a.apart }) (same_value _ _ _ one.traces other.traces)
    ∙ ap (λ x. record { seed = b.seed; traces = b.traces; length = x; keys = a.keys; apart = a.apart }) (same_value _ _ _ one.count other.count)
    ∙ ap (λ x. record { seed = b.seed; traces = b.traces; length = b.length; keys = x; apart = a.apart }) (same_value _ _ _ one.keys other.keys)
    ∙ ap (λ x. record { seed = b.seed; traces = b.traces; length = b.length; keys = b.keys; apart = x }) (one.apart ∙ sym other.apart)

one_load : (said : Text → Option Text) (a b : LoadOptions) → MeanLoad said a → MeanLoad said b → a ≡ b
one_load said a b one other =
    ap (λ x. record { plan = x; run = a.run }) (one_plan said true a.plan b.plan one.plan other.plan)
    ∙ ap (λ x. record { plan = b.plan; run = x }) (one_meaning said a.run b.run one.run other.run)

pub meant_once : (sub : Option (Text × List Row)) (first second : Command) → IsMeant sub first → IsMeant sub second → first ≡ second
meant_once None first second one other = absurd one
meant_once (Some sub) (commands.Run a) (commands.Run b) one other = ap commands.Run (one_meaning (said_in sub.1) a b one.1 other.1)
meant_once (Some sub) (commands.Run a) (commands.Gen b) one other = absurd (run_gen (sym one.0 ∙ other.0))
meant_once (Some sub) (commands.Run a) (commands.Load b) one other = absurd (run_load (sym one.0 ∙ other.0))
meant_once (Some sub) (commands.Gen a) (commands.Run b) one other = absurd (run_gen (sym other.0 ∙ one.0))
meant_once (Some sub) (commands.Gen a) (commands.Gen b) one other = ap commands.Gen (one_plan (said_in sub.1) false a b one.1 other.1)
meant_once (Some sub) (commands.Gen a) (commands.Load b) one other = absurd (gen_load (sym one.0 ∙ other.0))
meant_once (Some sub) (commands.Load a) (commands.Run b) one other = absurd (run_load (sym other.0 ∙ one.0))
meant_once (Some sub) (commands.Load a) (commands.Gen b) one other = absurd (gen_load (sym other.0 ∙ one.0))
meant_once (Some sub) (commands.Load a) (commands.Load b) one other = ap commands.Load (one_load (said_in sub.1) a b one.1 other.1)
meant_once (Some sub) (commands.Run a) commands.Check one other = absurd (run_check (sym one.0 ∙ other))
meant_once (Some sub) (commands.Gen a) commands.Check one other = absurd (gen_check (sym one.0 ∙ other))
meant_once (Some sub) (commands.Load a) commands.Check one other = absurd (load_check (sym one.0 ∙ other))
meant_once (Some sub) commands.Check (commands.Run b) one other = absurd (run_check (sym other.0 ∙ one))
meant_once (Some sub) commands.Check (commands.Gen b) one other = absurd (gen_check (sym other.0 ∙ one))
meant_once (Some sub) commands.Check (commands.Load b) one other = absurd (load_check (sym other.0 ∙ one))
meant_once (Some sub) commands.Check commands.Check one other = refl

of_none : {X : Type 0} (found : Option X) (P : Type 0) → found ≡ None → IfNone found P → P
of_none {X = X} found P e h = subst (λ (found : Option X). IfNone found P) e h

-- where the options behind a name mean nothing, neither does the name with them
pub no_run : (rows : List Row) (found : Option RunOptions) → found ≡ None → IfNone found ((options : RunOptions) → Mean (said_in rows) options → ⊥)
    → (command : Command) → IsMeant (Some (codes "run", rows)) command → ⊥
no_run rows found none refused (commands.Run options) is = of_none found ((options : RunOptions) → Mean (said_in rows) options → ⊥) none refused options is.1
no_run rows found none refused (commands.Gen plan) is = run_gen is.0
no_run rows found none refused (commands.Load options) is = run_load is.0
no_run rows found none refused commands.Check is = run_check is

pub no_gen : (rows : List Row) (found : Option Gen) → found ≡ None → IfNone found ((plan : Gen) → MeanPlan (said_in rows) false plan → ⊥)
    → (command : Command) → IsMeant (Some (codes "gen", rows)) command → ⊥
no_gen rows found none refused (commands.Run options) is = run_gen (sym is.0)
no_gen rows found none refused (commands.Gen plan) is = of_none found ((plan : Gen) → MeanPlan (said_in rows) false plan → ⊥) none refused plan is.1
no_gen rows found none refused (commands.Load options) is = gen_load is.0
no_gen rows found none refused commands.Check is = gen_check is

pub no_load : (rows : List Row) (found : Option LoadOptions) → found ≡ None → IfNone found ((options : LoadOptions) → MeanLoad (said_in rows) options → ⊥)
    → (command : Command) → IsMeant (Some (codes "load", rows)) command → ⊥
no_load rows found none refused (commands.Run options) is = run_load (sym is.0)
no_load rows found none refused (commands.Gen plan) is = gen_load (sym is.0)
no_load rows found none refused commands.Check is = load_check is
no_load rows found none refused (commands.Load options) is = of_none found ((options : LoadOptions) → MeanLoad (said_in rows) options → ⊥) none refused options is.1
