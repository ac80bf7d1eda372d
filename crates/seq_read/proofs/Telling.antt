-- Asks that are counted apart, and told in the end.
use Rattle.std.specs.Prelude.{not, Bool}
use Rattle.std.proofs.Common.{◌≡◌, ℕ, arith, subst, ap}
use Rattle.machine_states.specs.map_history.specs.declared.op.Request.{Request}
use Rattle.caller_facts.specs.section_runs.specs.runner_gate.specs.Asks.{Asks}
use Rattle.caller_facts.specs.section_runs.specs.commit_log.specs.Asked.{IsAsked}
use Rattle.machine_states.specs.structure_laws.specs.Meaning.{Meaning}
use Rattle.caller_facts.specs.version_words.specs.RunnerState.{RunnerState}
use Rattle.caller_facts.specs.try_lock.specs.Planning.{Planning}
use Rattle.seq_read.specs.Reads.{is_halted}
use Rattle.seq_read.specs.Parts.{Rests}
use Rattle.seq_read.specs.declared.answers.Read.{Read}

-- the rest of a read whose gate never halts, and was told how often it would have been asked
pub told_rests : {T : Type 0} (m : Meaning) (planning : Planning) (request : Request) (before : ℕ) (answer : Read) (old new : RunnerState T)
    (Apart Seen : ℕ → Asks → Type 0) (halts halts' : ℕ) (asks0 asks0' asks asks' : Asks) (steps0 made steps steps' : ℕ) → steps0 ≡ 0
    → Rests m planning request before answer old new Apart 0 0 asks0 asks0' steps0 made
    → ((n : ℕ) (going : Bool) (from to : Asks) → IsAsked n going 0 0 from to 0 made → IsAsked n going halts halts' asks asks' steps steps')
    → Rests m planning request before answer old new Seen halts halts' asks asks' steps steps'
told_rests m planning request before answer old new Apart Seen halts halts' asks0 asks0' asks asks' steps0 made steps steps' none is told =
    let asked = subst (λ k. IsAsked is.made (not (is_halted answer)) 0 0 asks0 asks0' k made) none is.asked in record {
      answers = is.answers;
      made = is.made;
      made_is = is.made_is;
      asked = told is.made (not (is_halted answer)) asks0 asks0' asked;
      let_go = λ e. absurd (let rose = asked.halted (ap not e) in omega (arith, rose));
    }
