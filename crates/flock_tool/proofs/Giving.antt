-- How the gates of a run are given out and come back.
use Rattle.std.specs.Prelude.{◌||◌, ◌==◌, cond, find, nat_lt, not, option_map, slice_get, take, Result, IfOk, OnErr}
use Rattle.std.proofs.Common.{◌≡◌, ◌≢◌, ℕ, zero, suc, ◌+◌, ◌<◌, Bool, true, false, List, [], ◌∷◌, length, Option, None, Some, Ok, Err, refl, sym, ap, ◌∙◌, subst, arith}
use Rattle.std.proofs.lemmas.Bool.Decides.{nat_tests}
use Rattle.std.proofs.lemmas.Option.{slice_get_within}
use Rattle.machine_states.specs.map_history.specs.declared.op.Request.{Request}
use Rattle.machine_states.specs.structure_laws.specs.Meaning.{Meaning}
use Rattle.machine_states.proofs.Steps.{some_same}
use Rattle.threaded_runs.specs.runner_gate.specs.declared.counts.GatePlan.{GatePlan}
use Rattle.threaded_runs.specs.Counts.{halts_counted, plans_from, plans_given, returns_counted, GivesFront}
use Rattle.threaded_runs.specs.Asks.{AreAsked}
use Rattle.threaded_runs.specs.Lone.{ReadsAlone, ServesAlone}
use Rattle.threaded_runs.specs.Runs.{AreServed, IsMadeWith}
use Rattle.version_words.specs.TableState.{WordsState}
use Rattle.threaded_runs.specs.free_serving.specs.serving.specs.declared.answers.Served.{Served}
use Rattle.command_line.specs.Halts.{ask_of, names_below}
use Rattle.command_line.specs.Options.{are_free}
use Rattle.command_line.specs.declared.halts.Halt.{Halt}
use Rattle.flock_tool.specs.Runs.{AreGiven, AreHaltsOf, HasRunOn}
use Rattle.flock_tool.specs.Streams.{Gating}
use Rattle.flock_tool.specs.declared.plan.Plan.{Plan}

-- where no runner that there is is named, none has a plan
unnamed : (halts : List Halt) (runners runner : ℕ) → runner < runners → names_below halts runners ≡ false → ask_of halts runner ≡ None
unnamed [] runners runner low none = refl
unnamed (halt ∷ halts) runners runner low none =
    by (nat_lt halt.runner runners) refl (halt.runner == runner) refl none (λ rest. unnamed halts runners runner low rest)
  where
    by : (lower : Bool) → nat_lt halt.runner runners ≡ lower → (same : Bool) → (halt.runner == runner) ≡ same → (lower || names_below halts runners) ≡ false
        → (names_below halts runners ≡ false → ask_of halts runner ≡ None)
        → option_map (λ (h : Halt). h.ask) (cond same (Some halt) (find (λ (h : Halt). h.runner == runner) halts)) ≡ None
    by true e same f none rest = absurd (cc)
    by false e true f none rest = absurd (grind (arith, nat_tests))
    by false e false f none rest = rest none

-- plans of which none is to halt aren't counted
uncounted : (plans : ℕ) (list : List (Option ℕ)) → ((i : ℕ) (plan : Option ℕ) → slice_get list i ≡ Some plan → plan ≡ None) → plans_given plans list ≡ plans
uncounted plans [] none = refl
uncounted plans (None ∷ list) none = uncounted plans list (λ i plan is. none (suc i) plan is)
uncounted plans (Some ask ∷ list) none = let clash = none 0 (Some ask) refl in absurd (cc)

-- nor are the first ones of them
front_uncounted : (plans count : ℕ) (list : List (Option ℕ)) → ((i : ℕ) (plan : Option ℕ) → slice_get list i ≡ Some plan → plan ≡ None) → plans_given plans (take count list) ≡ plans
front_uncounted plans zero list none = refl
front_uncounted plans (suc count) [] none = refl
front_uncounted plans (suc count) (None ∷ list) none = front_uncounted plans count list (λ i plan is. none (suc i) plan is)
front_uncounted plans (suc count) (Some ask ∷ list) none = let clash = none 0 (Some ask) refl in absurd (cc)

-- where no halt is named, no gate is given with a plan
pub unplanned_front : (halts : List Halt) (runners plans plans' : ℕ) (planned planned' : List GatePlan) (asks : List (Option ℕ)) → length asks ≡ runners
    → ((runner : ℕ) → runner < runners → slice_get asks runner ≡ Some (ask_of halts runner)) → GivesFront plans plans' planned planned' asks → halts ≡ [] → plans' ≡ plans
unplanned_front halts runners plans plans' planned planned' asks each are front none = front.1 ∙ front_uncounted plans front.0 asks
    (λ i plan at.
    let low : i < runners = subst (λ n. i < n) each (slice_get_within asks i plan at) in
    some_same plan None (sym at ∙ are i low ∙ ap (λ (hs : List Halt). Some (ask_of hs i)) none))

-- the gates of the runners, in order of number
length-plans_from : (worker : ℕ) (list : List (Option ℕ)) → length (plans_from worker list) ≡ length list
length-plans_from worker [] = refl
length-plans_from worker (halt ∷ list) = ap suc (length-plans_from (worker + 1) list)

plan_at : (worker i : ℕ) (list : List (Option ℕ)) (halt : Option ℕ) → slice_get list i ≡ Some halt
    → slice_get (plans_from worker list) i ≡ Some (record { runner = worker + i; halt = halt })
plan_at worker i [] halt at = absurd (cc)
plan_at worker zero (first ∷ list) halt at =
    let same : first ≡ halt = some_same first halt at in let number : worker ≡ worker + 0 = omega arith in
    λ i. Some (record { runner = number i; halt = same i })
plan_at worker (suc i) (first ∷ list) halt at =
    plan_at (worker + 1) i list halt at ∙ ap (λ (k : ℕ). Some (record { runner = k; halt = halt })) (omega arith)

pub given_out : (halts : List Halt) (runners : ℕ) (answers : List Served) (asks : List (Option ℕ)) (gates : Gating) → length asks ≡ runners
    → ((runner : ℕ) → runner < runners → slice_get asks runner ≡ Some (ask_of halts runner))
    → gates.halts_after ≡ halts_counted gates.halts_before answers → gates.plans_after ≡ plans_given gates.plans_before asks
    → (gates.planned_before ≡ [] → gates.planned_after ≡ plans_from 0 asks) → gates.returned_after ≡ returns_counted gates.returned_before runners
    → AreGiven halts runners answers gates
given_out halts runners answers asks gates each are halted plans planned returned = record {
  halted = halted;
  returned = returned;
  planned = λ none. subst (AreHaltsOf halts runners) (sym (planned none)) (record {
    each = length-plans_from 0 asks ∙ each;
    asks = λ runner low. plan_at 0 runner asks (ask_of halts runner) (are runner low) ∙ ap (λ (k : ℕ). Some (record { runner = k; halt = ask_of halts runner })) (omega arith);
  });
  unplanned = λ absent. plans ∙ uncounted gates.plans_before asks (none absent);
}
  where
    none : names_below halts runners ≡ false → (i : ℕ) (plan : Option ℕ) → slice_get asks i ≡ Some plan → plan ≡ None
    none absent i plan at =
        let low : i < runners = subst (λ n. i < n) each (slice_get_within asks i plan at) in
        some_same plan None (sym at ∙ are i low ∙ ap Some (unnamed halts runners i low absent))

-- what an error leaves
pub on_err : {X E : Type 0} (fact : Type 0) (result : Result X E) → fact → OnErr result fact
on_err fact (Ok x) so = tt
on_err fact (Err error) so = so

pub on_err_then : {X E : Type 0} (fact more : Type 0) (result : Result X E) → OnErr result fact → (fact → more) → OnErr result more
on_err_then fact more (Ok x) so step = tt
on_err_then fact more (Err error) so step = step so

pub not_ok : {X E : Type 0} (fact : Type 0) (result : Result X E) → ((x : X) → result ≢ Ok x) → OnErr result fact → fact
not_ok fact (Ok x) not so = absurd (not x refl)
not_ok fact (Err error) not so = so

-- what a call answered well, by its clauses
pub if_ok : {X E : Type 0} (P Q R S V W U : X → Type 0) (result : Result X E) → IfOk result P → IfOk result Q → IfOk result R → IfOk result S → IfOk result V → IfOk result W
    → ((x : X) → P x → Q x → R x → S x → V x → W x → U x) → IfOk result U
if_ok P Q R S V W U (Ok x) p q r s v w step = step x p q r s v w
if_ok P Q R S V W U (Err error) p q r s v w step = tt

-- a run on one table, from what the call of it says
pub has_run_on : {T : Type 0} (meaning : T → Meaning) (per_pair : ℕ) (structure : T) (plan : Plan) (words : WordsState T) (answers : List Served) (gates : Gating)
    (requests : List Request) (items asks : List (Option ℕ)) (named reads : Bool) → requests ≡ plan.traces.requests → asks ≡ items
    → named ≡ names_below plan.options.halts plan.layout.runners → reads ≡ are_free plan.options.reads → length items ≡ plan.layout.runners
    → ((runner : ℕ) → runner < plan.layout.runners → slice_get items runner ≡ Some (ask_of plan.options.halts runner))
    → IsMadeWith structure plan.layout requests words → AreServed (meaning structure) words (not named) reads answers × ServesAlone (meaning structure) per_pair words answers
    × AreAsked (meaning structure) words reads answers gates.asks_before gates.asks_after × ReadsAlone (meaning structure) words reads
    → gates.halts_after ≡ halts_counted gates.halts_before answers → gates.plans_after ≡ plans_given gates.plans_before asks
    → (gates.planned_before ≡ [] → gates.planned_after ≡ plans_from 0 asks) → gates.returned_after ≡ returns_counted gates.returned_before plan.layout.runners → HasRunOn meaning per_pair structure plan words answers gates
has_run_on meaning per_pair structure plan words answers gates requests items asks named reads requests_are asks_are named_is reads_are each are made served halted plans planned returned = record {
  made = subst (λ rs. IsMadeWith structure plan.layout rs words) requests_are made;
  served = subst (λ s. AreServed (meaning s) words (not (names_below plan.options.halts plan.layout.runners)) (are_free plan.options.reads) answers) (sym made.structure)
      (subst (λ b. AreServed (meaning structure) words (not b) (are_free plan.options.reads) answers) named_is (subst (λ b. AreServed (meaning structure) words (not named) b answers) reads_are served.0));
  lone = subst (λ s. ServesAlone (meaning s) per_pair words answers) (sym made.structure) served.1;
  read = subst (λ s. ReadsAlone (meaning s) words (are_free plan.options.reads)) (sym made.structure) (subst (λ b. ReadsAlone (meaning structure) words b) reads_are served.3);
  asked = subst (λ s. AreAsked (meaning s) words (are_free plan.options.reads) answers gates.asks_before gates.asks_after) (sym made.structure)
      (subst (λ b. AreAsked (meaning structure) words b answers gates.asks_before gates.asks_after) reads_are served.2);
  given = given_out plan.options.halts plan.layout.runners answers items gates each are halted (plans ∙ ap (plans_given gates.plans_before) asks_are)
      (λ none. planned none ∙ ap (plans_from 0) asks_are) returned;
}
