-- What clap's own clauses say at this command.
use Rattle.std.proofs.Common.{◌≡◌, ℕ, zero, suc, ◌+◌, ◌<◌, true, List, [], ◌∷◌, ◌++◌, arith, get_or, length, map, take, Option, None, Some, Result, Ok, Err, inl, inr, refl, ap, ◌∙◌, subst}
use Rattle.std.specs.Prelude.{IfNone, IfSome}
use Rattle.clap.specs.Faults.{fault_of, is_simple_and_free}
use Rattle.clap.specs.Kinds.{FailsBy, HasKind, IsAmong, Kinds}
use Rattle.clap.specs.Simple.{App, HasMatchesOf, subcommand_of, subcommand_rows_of}
use Rattle.clap.specs.Values.{kind_of}
use Rattle.clap.specs.declared.error.Error.{Error}
use Rattle.clap.specs.declared.error.kind.ErrorKind.TheVariants.{OutOfMemory}
use Rattle.clap.specs.declared.parser.matches.ArgMatches.{ArgMatches}
use Rattle.std.specs.Borrow.{Bor}
use Rattle.command_line.specs.Commands.{texts}
use Rattle.command_line.specs.Parser.{flock_app, option_rule}
use Rattle.command_line.specs.Written.{Text}

fails : {T : Type 0} (app : App) (words : List Text) (answer : Result T Error) → app ≡ flock_app → (is_simple_and_free app ≡ true → FailsBy (fault_of app words) answer) → FailsBy (fault_of flock_app words) answer
fails {T = T} app words answer is says = subst (λ (a : App). is_simple_and_free a ≡ true → FailsBy (fault_of a words) answer) is says refl

-- an answer with matches comes only where there is no fault
pub no_fault : {T : Type 0} (app : App) (words : List Text) (answer : Result T Error) (matches : T) → app ≡ flock_app → (is_simple_and_free app ≡ true → FailsBy (fault_of app words) answer) → answer ≡ Ok matches → fault_of flock_app words ≡ []
no_fault {T = T} app words answer matches is says ok = subst (λ (answer : Result T Error). FailsBy (fault_of flock_app words) answer) ok (fails app words answer is says)

none_among : (kinds : Kinds) (e : Error) → HasKind kinds e → (kind_of e ≡ OutOfMemory → ⊥) → kinds ≡ [] → ⊥
none_among kinds e (inl memory) other none = other memory
none_among kinds e (inr among) other none = subst (λ (kinds : Kinds). IsAmong (kind_of e) kinds) none among

-- an error that isn't want of memory comes only where there is one
pub some_fault : {T : Type 0} (app : App) (words : List Text) (answer : Result T Error) (e : Error) → app ≡ flock_app → (is_simple_and_free app ≡ true → FailsBy (fault_of app words) answer) → answer ≡ Err e → (kind_of e ≡ OutOfMemory → ⊥) → fault_of flock_app words ≡ [] → ⊥
some_fault {T = T} app words answer e is says err other = none_among (fault_of flock_app words) e (subst (λ (answer : Result T Error). FailsBy (fault_of flock_app words) answer) err (fails app words answer is says)) other

pub matches_are : (app : App) (words : List Text) (matches : ArgMatches) → app ≡ flock_app → HasMatchesOf app words matches → subcommand_rows_of matches ≡ subcommand_of flock_app words
matches_are app words matches is has = (subst (λ (a : App). HasMatchesOf a words matches) is has refl).1

-- one option more
pub one_more_rule : (options : List (Bor Text)) (place : ℕ) (d : Bor Text) → place < length options → map option_rule (texts (take (place + 1) options)) ≡ map option_rule (texts (take place options)) ++ option_rule (get_or options place d).now ∷ []
one_more_rule [] place d within = absurd (omega arith)
one_more_rule (first ∷ options) zero d within = refl
one_more_rule (first ∷ options) (suc place) d within =
    let more : suc place + 1 ≡ suc (place + 1) = omega arith in
    ap (λ n. map option_rule (texts (take n (first ∷ options)))) more
    ∙ ap (λ rest. option_rule first.now ∷ rest) (one_more_rule options place d (omega arith))

-- facts of an answer
pub of_some : {X : Type 0} (found : Option X) (x : X) (P : X → Type 0) → found ≡ Some x → IfSome found P → P x
of_some {X = X} found x P e h = subst (λ (found : Option X). IfSome found P) e h

pub of_none : {X : Type 0} (found : Option X) (P : Type 0) → found ≡ None → IfNone found P → P
of_none {X = X} found P e h = subst (λ (found : Option X). IfNone found P) e h
