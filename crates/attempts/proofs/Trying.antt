-- The publication of an attempt.
use Rattle.std.specs.Prelude.{◌⊎◌, ◌&&◌, ◌==◌, not, Bool, Result, Ok, true, false, if◌then◌else◌}
use Rattle.std.proofs.Common.{◌≡◌, ℕ, ◌+◌, ◌≤◌, length, refl, sym, ap, ◌∙◌, subst, arith, inl, inr, Option, Some, None}
use Rattle.std.proofs.lemmas.Bool.{true≢false}
use Rattle.machine_states.specs.map_history.specs.declared.op.Request.{Request}
use Rattle.machine_states.specs.body_terms.specs.declared.outcome.Refused.{Refused}
use Rattle.machine_states.specs.body_terms.specs.declared.outcome.Refused.TheVariants as refusals
use Rattle.machine_states.specs.body_terms.specs.declared.thunk.Thunk.{Thunk}
use Rattle.runner_gate.specs.Asks.{Asks}
use Rattle.machine_states.specs.structure_laws.specs.Scene.{Readings}
use Rattle.machine_states.specs.structure_laws.specs.Meaning.{Meaning}
use Rattle.machine_states.specs.runner_parts.specs.declared.entries.Published.{Published}
use Rattle.machine_states.specs.runner_parts.specs.State.{NodesState}
use Rattle.machine_states.specs.runner_parts.specs.Tests.{is_answered}
use Rattle.machine_states.specs.runner_steps.specs.AfterInRun.{kept_unless}
use Rattle.machine_states.specs.runner_steps.specs.AfterOutside.{published_by}
use Rattle.machine_states.proofs.Steps.{some_same, none_some}
use Rattle.version_words.specs.RunnerState.{RunnerState}
use Rattle.caller_facts.specs.try_lock.specs.declared.section.Section.{Section}
use Rattle.caller_facts.specs.try_lock.specs.declared.planned.Planned.TheVariants as plans
use Rattle.caller_facts.specs.try_lock.specs.Planning.{Planning}
use Rattle.caller_facts.specs.try_lock.specs.Publishes.{Publishes}
use Rattle.caller_facts.specs.Knowing.{IsStill, IsOwn}
use Rattle.attempts.specs.Course.{of_refusal, HasPlanned, HasTried}
use Rattle.caller_facts.specs.Asking.{MayAttempt}
use Rattle.attempts.specs.Attempts.{is_refusal, has_helped, IsBrief, BehindHold, IsHalted}
use Rattle.caller_facts.specs.Counted.{IsCounted}
use Rattle.attempts.specs.Rests.{Rests}
use Rattle.attempts.specs.declared.answers.Attempt.{Attempt}
use Rattle.attempts.specs.declared.answers.Attempt.TheVariants as answers
use Rattle.caller_facts.proofs.Knowing.{knows_same, knows_on, no_other_same, no_other_on, own_on}
use Rattle.attempts.proofs.Courses.{tried_at}
use Rattle.caller_facts.proofs.Standing.{may_own, may_unknown}

abbrev pub tried_of : {T : Type 0} (m : Meaning) (planning : Planning) (request : Request) (old : RunnerState T) (readings : Readings) (thunk : Thunk) (r : RunnerState T)
    → HasPlanned m planning request readings (plans.Thunk thunk) old r → (answer : Result Section Refused) (new : RunnerState T)
    → Publishes m thunk answer r new → new.layout ≡ r.layout → new.requests ≡ r.requests → HasTried m planning request thunk answer old new
tried_of m planning request old readings thunk r is answer new publishes layout requests = record {
  readings = readings;
  planned = r;
  plans = is;
  publishes = publishes;
  still = record {
    layout = layout ∙ is.still.layout;
    requests = requests ∙ is.still.requests;
    number = publishes.number ∙ is.still.number;
    known = publishes.known ∙ is.still.known;
    finished = publishes.finished ∙ is.still.finished;
  };
  hand = record {
    hand = ap (λ (n : NodesState). n.hand) publishes.nodes ∙ is.hand.hand;
    tests = ap (λ (n : NodesState). n.tests) publishes.nodes ∙ is.hand.tests;
    looked = publishes.looked ∙ is.hand.looked;
  };
  nodes = subst (λ (n : NodesState). 2 ≤ length n.free) (sym publishes.nodes) is.has.nodes;
  blocks = (let had = is.has.blocks in let more = publishes.blocks in omega (arith, had, more));
}

-- the rest from an earlier runner that knew the same
module _ {T : Type 0} (m : Meaning) (planning : Planning) (request : Request) (answer : Attempt) (old here mid new : RunnerState T) (still : IsStill here mid) where
  pub runs_from_still : (more : ℕ) → length new.part.records.finished ≡ length mid.part.records.finished + more
      → length new.part.records.finished ≡ length here.part.records.finished + more
  runs_from_still more e = subst (λ fs. length new.part.records.finished ≡ length fs + more) still.finished e

  pub few_from_still : (more : ℕ) → length new.part.records.finished ≤ length mid.part.records.finished + more
      → length new.part.records.finished ≤ length here.part.records.finished + more
  few_from_still more e = subst (λ fs. length new.part.records.finished ≤ length fs + more) still.finished e

  pub brief_from_still : (most runs made most' made' : ℕ) → (made ≤ most → made' ≤ most') → IsBrief most runs made mid new → IsBrief most' runs made' here new
  brief_from_still most runs made most' made' low brief = record {
    few_steps = low brief.few_steps;
    few_runs = few_from_still runs brief.few_runs;
  }

pub rests_from_still : {T : Type 0} (m : Meaning) (planning : Planning) (request : Request) (held : Bool) (before most : ℕ) (answer : Attempt) (old here mid new : RunnerState T)
    (Seen : ℕ → Asks → Type 0) (halts halts' : ℕ) (asks asks' : Asks) (steps steps' : ℕ) → IsStill here mid
    → Rests m planning request held before most answer old mid new Seen halts halts' asks asks' steps steps'
    → Rests m planning request held before most answer old here new Seen halts halts' asks asks' steps steps'
rests_from_still m planning request held before most answer old here mid new Seen halts halts' asks asks' steps steps' still rests = record {
  answers = rests.answers;
  knows = knows_on here mid new (knows_same here mid still.number still.known still.finished) rests.knows;
  no_other = no_other_on request.number here mid new still.requests still.layout still.number (no_other_same request.number here mid still.known) rests.no_other;
  made = rests.made;
  made_is = rests.made_is;
  published = rests.published;
  published_is = rests.published_is;
  late = rests.late;
  asked = rests.asked;
  let_go = rests.let_go;
  entered = rests.entered;
  runs = λ going. runs_from_still m planning request answer old here mid new still ((if rests.published && not held then 1 else 0) + (if has_helped m planning request answer old new rests.answers then 1 else 0)) (rests.runs going);
  few_runs = few_from_still m planning request answer old here mid new still (if held then 1 else 2) rests.few_runs;
  brief = λ none. brief_from_still m planning request answer old here mid new still most (if held then 0 else 1) rests.made most rests.made (λ low. low) (rests.brief none);
}

pub refusal_of_lock : (lock : ℕ) (e : Refused) → is_refusal (of_refusal lock e) ≡ true
refusal_of_lock lock (refusals.Busy word) = refl
refusal_of_lock lock (refusals.Stale expected read) = refl
refusal_of_lock lock (refusals.Spent word) = refl

-- what is still so of its request
module _ {T : Type 0} (planning : Planning) (request : Request) (old : RunnerState T) (may : MayAttempt planning request old) (here : RunnerState T) (still : IsStill old here) where
  pub own_here : IsOwn here request
  own_here = own_on old here still.requests still.layout still.number request (may_own planning request old may)

  pub unknown_here : is_answered here.part.records.known request.number ≡ false
  unknown_here = ap (λ xs. is_answered xs request.number) still.known ∙ may_unknown planning request old may

-- a gate halts the runner behind its publication
module _ {T : Type 0} (m : Meaning) (planning : Planning) (request : Request) (old : RunnerState T) (thunk : Thunk) (section : Section) (here : RunnerState T)
    (tried : HasTried m planning request thunk (Ok section) old here) where
  -- what it has published then is for the request
  pub published_for : (x : Published) → here.part.published ≡ Some x → x.thunk.request ≡ request.number
  published_for x is = ap (λ (y : Published). y.thunk.request)
      (some_same x (published_by thunk tried.publishes.descriptor tried.planned.part) (sym is ∙ (tried_at m planning request old thunk section here tried).published))
      ∙ tried.plans.answers.request

  pub is_published : here.part.published ≡ None → ⊥
  is_published none = none_some (published_by thunk tried.publishes.descriptor tried.planned.part)
      (sym (tried_at m planning request old thunk section here tried).published ∙ none)

  abbrev was_halted : IsHalted m planning request old here
  was_halted = record {
    at = BehindHold thunk section tried;
    published = published_for;
    unknown = λ none elsewhere. absurd (is_published none);
    ended = λ none. tt;
    reached = tried.publishes.reached;
  }

  none_more : (n : ℕ) → n + 0 ≡ n
  none_more n = omega arith

  pub halted_published : (Seen : ℕ → Asks → Type 0) (halts halts' : ℕ) (asks asks' : Asks) (steps : ℕ) → Seen halts asks
      → IsCounted 0 1 false halts halts' asks asks' steps steps
      → (most : ℕ) → Rests m planning request false (length tried.readings) most answers.Halted old here here Seen halts halts' asks asks' steps steps
  halted_published Seen halts halts' asks asks' steps seen asked most = record {
    answers = was_halted;
    knows = knows_same here here refl refl refl;
    no_other = λ q own ne. refl;
    made = 0;
    made_is = none_more (length tried.readings);
    published = true;
    published_is = refl;
    late = λ e. refl;
    asked = asked;
    let_go = λ e. (0, none_more (1 + length tried.readings), seen);
    entered = refl;
    runs = λ going. absurd (true≢false going);
    few_runs = let more : length here.part.records.finished ≤ length here.part.records.finished + 2 = omega arith in more;
    brief = λ none. record {
      few_steps = omega arith;
      few_runs = let more : length here.part.records.finished ≤ length here.part.records.finished + 1 = omega arith in more;
    };
  }

  -- or in its run
  module _ (d : ℕ) (new : RunnerState T) where
    over_thunk : (o : Option Published) (x : Published) → kept_unless o d ≡ Some x → ((y : Published) → o ≡ Some y → y.thunk.request ≡ request.number)
        → x.thunk.request ≡ request.number
    over_thunk None x e each = absurd (none_some x (sym e))
    over_thunk (Some y) x e each = by (y.descriptor == d) e
      where
        by : (b : Bool) → (if b then None else Some y) ≡ Some x → x.thunk.request ≡ request.number
        by true none = absurd (none_some x (sym none))
        by false some = ap (λ (z : Published). z.thunk.request) (sym (some_same y x some)) ∙ each y refl

    pub cut_published : (new.part.published ≡ here.part.published) ⊎ (new.part.published ≡ kept_unless here.part.published d)
        → (x : Published) → new.part.published ≡ Some x → x.thunk.request ≡ request.number
    cut_published (inl same) x is = published_for x (sym same ∙ is)
    cut_published (inr over) x is = over_thunk here.part.published x (sym over ∙ is) published_for
