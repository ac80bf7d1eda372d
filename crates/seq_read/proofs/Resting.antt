-- How a read ends, as the rest of it from any of its parts.
use Rattle.std.specs.Prelude.{not, Bool, true, false}
use Rattle.std.proofs.Common.{◌≡◌, ℕ, ◌+◌, refl, sym, ap, ◌∙◌, subst}
use Rattle.std.proofs.lemmas.Bool.{true≢false}
use Rattle.machine_states.specs.map_history.specs.declared.op.Request.{Request}
use Rattle.machine_states.specs.table_words.specs.Limits.{IsWithinLimits}
use Rattle.caller_facts.specs.section_runs.specs.runner_gate.specs.Asks.{Asks, asked_on}
use Rattle.machine_states.specs.structure_laws.specs.Meaning.{Meaning}
use Rattle.machine_states.specs.structure_laws.specs.Laws.{Laws}
use Rattle.machine_states.specs.runner_parts.specs.declared.event.EventKind.TheVariants as kinds
use Rattle.machine_states.specs.runner_parts.specs.State.{NodesState, GuardsState}
use Rattle.machine_states.specs.runner_parts.specs.Tests.{is_answered}
use Rattle.caller_facts.specs.version_words.specs.machine_invariant.specs.After.{AreAllowed}
use Rattle.caller_facts.specs.version_words.specs.RunnerState.{RunnerState}
use Rattle.caller_facts.specs.section_runs.specs.commit_log.specs.Asked.{IsAsked}
use Rattle.caller_facts.specs.epoch_slots.specs.Collects.{IsTidy}
use Rattle.caller_facts.specs.epoch_slots.specs.Entries.{Exits}
use Rattle.caller_facts.specs.try_lock.specs.Planning.{Planning}
use Rattle.caller_facts.specs.try_lock.specs.Reached.{IsReached}
use Rattle.caller_facts.specs.Asking.{MayAttempt, IsUntouched}
use Rattle.caller_facts.proofs.Knowing.{own_on}
use Rattle.caller_facts.proofs.Standing.{may_own, may_unknown, untouched, made_reached}
use Rattle.seq_read.specs.Course.{IsReading, IsRefused, refused_steps}
use Rattle.seq_read.specs.Reads.{is_halted, IsTurnedAway, Stops, stop_steps, stop_asks, has_replied, has_answered, IsHalted, Answers, steps_of}
use Rattle.seq_read.specs.Parts.{Rests}
use Rattle.seq_read.specs.declared.answers.Read.{Read}
use Rattle.seq_read.specs.declared.answers.Read.TheVariants as answers

-- an answer for which nothing was served, and the runner leaves
abbrev pub is_refusal : Read → Bool
is_refusal (answers.Done reply stamp) = false
is_refusal answers.Halted = false
is_refusal _ = true

refusal_goes : (answer : Read) → is_refusal answer ≡ true → is_halted answer ≡ false
refusal_goes (answers.Busy place word) e = refl
refusal_goes (answers.Stale place expected read) e = refl
refusal_goes (answers.Locked at) e = refl
refusal_goes (answers.Far loads) e = refl
refusal_goes (answers.Spent place word) e = refl
refusal_goes (answers.Done reply stamp) e = refl
refusal_goes answers.Halted e = absurd (let z = e in cc)

module _ {T : Type 0} (m : Meaning) (planning : Planning) (request : Request) (old new : RunnerState T) where
  -- a refusal as the answer, with its steps
  pub record Turned (answer : Read) (steps : ℕ) : Type 0 where
    pub answers : Answers m planning request answer old new
    pub steps_is : steps ≡ steps_of m planning request answer old new answers

  pub turned_by : (answer : Read) → is_refusal answer ≡ true → (away : IsTurnedAway m planning request answer old new)
      → Turned answer (refused_steps m planning request answer old away.cut away.cause)
  turned_by (answers.Busy place word) e away = record { answers = away; steps_is = refl }
  turned_by (answers.Stale place expected read) e away = record { answers = away; steps_is = refl }
  turned_by (answers.Locked at) e away = record { answers = away; steps_is = refl }
  turned_by (answers.Far loads) e away = record { answers = away; steps_is = refl }
  turned_by (answers.Spent place word) e away = record { answers = away; steps_is = refl }
  turned_by (answers.Done reply stamp) e away = absurd (let z = e in cc)
  turned_by answers.Halted e away = absurd (let z = e in cc)

module _ {T : Type 0} (m : Meaning) (laws : Laws m) (planning : Planning) (request : Request) (old : RunnerState T)
    (limits : IsWithinLimits old.layout) (allowed : AreAllowed old.requests) (may : MayAttempt planning request old) where
  -- a reading runner hasn't been served
  pub reading_untouched : (r : RunnerState T) → IsReading old r → IsReached m r → IsUntouched m request.number r
  reading_untouched r reading reached = untouched m laws r request
      (subst IsWithinLimits (sym reading.still.layout) limits) (subst AreAllowed (sym reading.still.requests) allowed)
      reached reading.at.published reading.at.settled
      (own_on old r reading.still.requests reading.still.layout reading.still.number request (may_own planning request old may))
      (ap (λ ks. is_answered ks request.number) reading.still.known ∙ may_unknown planning request old may)

  -- it leaves
  module _ (cut new : RunnerState T) (reading : IsReading old cut) (exits : Exits m cut new) where
    layout_left : new.layout ≡ old.layout
    layout_left = ap (λ (y : RunnerState T). y.layout) exits.announce.event.made ∙ reading.still.layout

    requests_left : new.requests ≡ old.requests
    requests_left = ap (λ (y : RunnerState T). y.requests) exits.announce.event.made ∙ reading.still.requests

    left_tidy : IsTidy new
    left_tidy = record {
      at = exits.at;
      hand = ap (λ (n : NodesState). n.hand) (exits.keeps.nodes ∙ reading.slots.nodes) ∙ may.tidy.hand;
      tests = ap (λ (n : NodesState). n.tests) (exits.keeps.nodes ∙ reading.slots.nodes) ∙ may.tidy.tests;
      looked = ap (λ (g : GuardsState). g.looked) exits.guards ∙ (reading.slots.looked ∙ may.tidy.looked);
      unguarded = ap (λ (g : GuardsState). g.named) exits.guards ∙ (reading.slots.guarded ∙ may.tidy.unguarded);
    }

    left_untouched : IsUntouched m request.number new
    left_untouched = untouched m laws new request
        (subst IsWithinLimits (sym layout_left) limits) (subst AreAllowed (sym requests_left) allowed)
        (made_reached m kinds.Idle exits.announce.found cut new exits.announce.event) exits.at.published exits.at.settled
        (own_on old new requests_left layout_left (exits.keeps.number ∙ reading.still.number) request (may_own planning request old may))
        (ap (λ ks. is_answered ks request.number) (exits.keeps.known ∙ reading.still.known) ∙ may_unknown planning request old may)

    pub refused_rests : (answer : Read) → is_refusal answer ≡ true → (cause : IsRefused m planning request answer old cut) → (before made : ℕ)
        → before + made ≡ refused_steps m planning request answer old cut cause
        → (Seen : ℕ → Asks → Type 0) (halts halts' : ℕ) (asks asks' : Asks) (steps steps' : ℕ) → IsAsked made true halts halts' asks asks' steps steps'
        → Rests m planning request before answer old new Seen halts halts' asks asks' steps steps'
    refused_rests answer is cause before made made_is Seen halts halts' asks asks' steps steps' asked =
        let turned = turned_by m planning request old new answer is (record { cut = cut; cause = cause; exits = exits; tidy = left_tidy; untouched = left_untouched }) in record {
          answers = turned.answers;
          made = made;
          made_is = made_is ∙ turned.steps_is;
          asked = subst (λ b. IsAsked made b halts halts' asks asks' steps steps') (ap not (sym (refusal_goes answer is))) asked;
          let_go = λ halted. absurd (true≢false (sym halted ∙ refusal_goes answer is));
        }

  -- a gate halts it
  pub halted_rests : (new : RunnerState T) (is : IsHalted m planning request old new) (before made more : ℕ)
      → before + made ≡ stop_steps m planning request old new is.at → 1 + before + more ≡ stop_asks m planning request old new is.at
      → (Seen : ℕ → Asks → Type 0) (halts halts' : ℕ) (asks asks' : Asks) (steps steps' : ℕ) → IsAsked made false halts halts' asks asks' steps steps'
      → Seen halts (asked_on asks more)
      → Rests m planning request before answers.Halted old new Seen halts halts' asks asks' steps steps'
  halted_rests new is before made more made_is more_is Seen halts halts' asks asks' steps steps' asked seen = record {
    answers = is;
    made = made;
    made_is = made_is;
    asked = asked;
    let_go = λ halted. (more, more_is, seen);
  }

  -- as it reads
  abbrev pub reading_halted : (new : RunnerState T) (at : Stops m planning request old new) → has_replied m planning request old new at ≡ false
      → has_answered m planning request old new at ≡ false → IsReading old new → IsReached m new → IsHalted m planning request old new
  reading_halted new at unreplied unanswered reading reached = record {
    at = at;
    unpublished = reading.at.published;
    untouched = λ e. reading_untouched new reading reached;
    answered = ap (λ ks. is_answered ks request.number) reading.still.known ∙ (may_unknown planning request old may ∙ sym unanswered);
    reached = reached;
  }
