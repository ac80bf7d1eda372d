-- A read from its entry on.
use Rattle.std.specs.Prelude.{not, true, false}
use Rattle.std.proofs.Common.{◌≡◌, ℕ, ◌+◌, ◌*◌, ◌≤◌, length, refl, sym, ◌∙◌, subst, arith}
use Rattle.machine_states.specs.map_history.specs.declared.op.Request.{Request}
use Rattle.machine_states.specs.table_words.specs.Limits.{IsWithinLimits}
use Rattle.caller_facts.specs.section_runs.specs.runner_gate.specs.Asks.{Asks, asked_on}
use Rattle.machine_states.specs.structure_laws.specs.Scene.{Readings}
use Rattle.machine_states.specs.structure_laws.specs.Meaning.{Meaning}
use Rattle.machine_states.specs.structure_laws.specs.Laws.{Laws}
use Rattle.machine_states.specs.structure_laws.specs.Cells.{slots}
use Rattle.machine_states.specs.runner_parts.specs.declared.event.EventKind.TheVariants as kinds
use Rattle.caller_facts.specs.version_words.specs.machine_invariant.specs.After.{AreAllowed}
use Rattle.caller_facts.specs.version_words.specs.RunnerState.{RunnerState}
use Rattle.caller_facts.specs.section_runs.specs.commit_log.specs.Asked.{IsAsked}
use Rattle.caller_facts.specs.section_runs.specs.commit_log.proofs.Asked.{asked_none}
use Rattle.caller_facts.specs.epoch_slots.specs.Entries.{Exits}
use Rattle.caller_facts.specs.try_lock.specs.declared.planned.Planned.{Planned}
use Rattle.caller_facts.specs.try_lock.specs.declared.planned.Planned.TheVariants as plans
use Rattle.caller_facts.specs.try_lock.specs.Planning.{Planning}
use Rattle.caller_facts.specs.lock_walks.specs.Gets.{GetsAreLight}
use Rattle.caller_facts.specs.Counted.{IsCounted}
use Rattle.caller_facts.proofs.Counting.{counted_steps, asked_then, steps_then, seen_then}
use Rattle.caller_facts.proofs.Standing.{made_reached}
use Rattle.seq_read.specs.Course.{of_plan, HasEntered, HasPlanned, ByPlan}
use Rattle.seq_read.specs.Reads.{most_of_get, is_halted, AtEntry, InPlan, Answers, steps_of, asks_before, Reads}
use Rattle.seq_read.specs.Parts.{Rests}
use Rattle.seq_read.specs.declared.answers.Read.{Read}
use Rattle.seq_read.specs.declared.answers.Read.TheVariants as answers
use Rattle.seq_read.proofs.Keeping.{kept_knows, answers_kept, few_steps}
use Rattle.seq_read.proofs.Resting.{refused_rests, reading_halted}
use Rattle.seq_read.proofs.Light.{get_few, get_looks}
use Rattle.seq_read.proofs.Refusing.{refuses, refusal_of_plan, plan_stale}

module _ {T : Type 0} (m : Meaning) (laws : Laws m) (planning : Planning) (light : GetsAreLight m planning) (request : Request) (old : RunnerState T)
    (limits : IsWithinLimits old.layout) (allowed : AreAllowed old.requests) where
  -- an answer with its steps and asks
  reads_by : (answer : Read) (new : RunnerState T) (is : Answers m planning request answer old new) (made : ℕ)
      → made ≡ steps_of m planning request answer old new is
      → (Seen : ℕ → Asks → Type 0) (halts halts' : ℕ) (asks asks' : Asks) (steps steps' : ℕ)
      → IsCounted made 1 (not (is_halted answer)) halts halts' asks asks' steps steps'
      → (is_halted answer ≡ true → Seen halts (asked_on asks (asks_before m planning request answer old new is)))
      → Reads m planning request answer old new Seen halts halts' asks asks' steps steps'
  reads_by answer new is made made_is Seen halts halts' asks asks' steps steps' asked let_go =
      let kept = answers_kept m planning request old answer new is in record {
        answers = is;
        made = made;
        made_is = made_is;
        few = subst (λ k. k ≤ most + 35) (sym made_is) (few_steps m laws planning request old limits allowed most (λ readings refusal r plans. plans.few) answer new is);
        brief = λ key get. subst (λ k. k ≤ most_of_get (slots m old.layout)) (sym made_is)
            (few_steps m laws planning request old limits allowed (3 * slots m old.layout + 28) (get_few m planning light request key get old limits allowed) answer new is);
        looks = λ map key at get same. let turned = subst (λ a. Answers m planning request a old new) same is in get_looks m planning light request key get old map at turned.cut turned.cause;
        owns = kept.slots;
        finished = kept.finished;
        knows = kept_knows request.number old new kept;
        no_other = kept.no_other;
        asked = asked;
        let_go = let_go;
      }
    where
      most : ℕ
      most = 6 * slots m old.layout + 44

  -- a gate halts it behind the entry
  module _ (here : RunnerState T) (enters : HasEntered m planning request old here) (halts : ℕ) (asks : Asks) where
    pub entry_halted : (Seen : ℕ → Asks → Type 0) (halts' : ℕ) (asks' : Asks) (steps : ℕ) → Seen halts asks
        → IsCounted 0 1 false halts halts' asks asks' steps steps
        → Reads m planning request answers.Halted old here Seen halts halts' asks asks' steps steps
    entry_halted Seen halts' asks' steps seen asked = reads_by answers.Halted here
        (reading_halted m laws planning request old limits allowed enters.may here (AtEntry enters) refl refl enters.reading
        (made_reached m kinds.EnterAgain enters.enters.epoch enters.enters.waiting here enters.enters.again))
        0 refl Seen halts halts' asks asks' steps steps asked (λ e. seen)

    module _ (halts1 : ℕ) (asks1 : Asks) (steps : ℕ) (ask : IsCounted 0 1 true halts halts1 asks asks1 steps steps) where
      -- or in its plan
      pub plan_halted : (readings : Readings) (new : RunnerState T) (is : HasPlanned m planning request readings plans.Halted old new)
          → (Seen : ℕ → Asks → Type 0) (halts' : ℕ) (asks' : Asks) (steps' : ℕ) → Seen halts1 asks1
          → IsAsked (length readings) false halts1 halts' asks1 asks' steps steps'
          → Reads m planning request answers.Halted old new Seen halts halts' asks asks' steps steps'
      plan_halted readings new is Seen halts' asks' steps' seen asked = reads_by answers.Halted new
          (reading_halted m laws planning request old limits allowed enters.may new (InPlan readings is) refl refl is.reading is.reached) (length readings) refl Seen halts halts' asks asks' steps steps'
          (asked_then 1 (length readings) 0 false halts halts1 halts' asks asks1 asks' steps steps' ask
          (counted_steps (length readings) false halts1 halts' asks1 asks' steps steps' asked))
          (λ e. seen_then Seen halts halts1 asks asks1 1 0 (ask.went refl) ask.asked seen)

      -- or the rest follows, behind so many steps
      pub reads_so : (before : ℕ) (answer : Read) (new : RunnerState T) (Seen : ℕ → Asks → Type 0) (halts2 halts' : ℕ) (asks2 asks' : Asks) (steps2 steps' : ℕ)
          → IsAsked before true halts1 halts2 asks1 asks2 steps steps2
          → Rests m planning request before answer old new Seen halts2 halts' asks2 asks' steps2 steps'
          → Reads m planning request answer old new Seen halts halts' asks asks' steps steps'
      reads_so before answer new Seen halts2 halts' asks2 asks' steps2 steps' walked rests =
          reads_by answer new rests.answers (before + rests.made) rests.made_is Seen halts halts' asks asks' steps steps'
          (asked_then 1 (before + rests.made) 0 (not (is_halted answer)) halts halts1 halts' asks asks1 asks' steps steps' ask
          (steps_then before rests.made 0 (not (is_halted answer)) halts1 halts2 halts' asks1 asks2 asks' steps steps2 steps' walked
          (counted_steps rests.made (not (is_halted answer)) halts2 halts' asks2 asks' steps2 steps' rests.asked)))
          (λ e. let last = rests.let_go e in
          subst (λ k. Seen halts (asked_on asks k)) (sums before last.0 ∙ last.1)
          (seen_then Seen halts halts1 asks asks1 1 (before + last.0) (ask.went refl) ask.asked
          (seen_then Seen halts1 halts2 asks1 asks2 before last.0 (walked.went refl) walked.asked last.2)))
        where
          sums : (a b : ℕ) → 1 + (a + b) ≡ 1 + a + b
          sums a b = omega arith

      -- or a reading refused the plan, and it leaves
      pub plan_refused_reads : (readings : Readings) (refusal : Planned) (cut new : RunnerState T) (is : HasPlanned m planning request readings refusal old cut)
          → refuses refusal ≡ true → Exits m cut new
          → (Seen : ℕ → Asks → Type 0) (halts' : ℕ) (asks' : Asks) (steps' : ℕ) → IsAsked (length readings) true halts1 halts' asks1 asks' steps steps'
          → Reads m planning request (of_plan refusal) old new Seen halts halts' asks asks' steps steps'
      plan_refused_reads readings refusal cut new is refused exits Seen halts' asks' steps' asked =
          reads_so (length readings) (of_plan refusal) new Seen halts' halts' asks' asks' steps' steps' asked
          (refused_rests m laws planning request old limits allowed is.enters.may cut new is.reading exits (of_plan refusal) (refusal_of_plan refusal refused)
          (ByPlan (record {
            readings = readings;
            refusal = refusal;
            plans = is;
            same = refl;
            stale = λ place expected read e. plan_stale m planning old.layout request.op place expected read request.number readings refusal is.answers e;
          })) (length readings) 0 (omega arith) Seen halts' halts' asks' asks' steps' steps' (asked_none halts' asks' steps'))
