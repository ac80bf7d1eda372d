-- The plan of an attempt.
use Rattle.std.proofs.Common.{◌≡◌, ℕ, ◌≤◌, length, sym, ap, ◌∙◌, subst, arith}
use Rattle.machine_states.specs.map_history.specs.declared.op.Request.{Request}
use Rattle.runner_gate.specs.Asks.{Asks}
use Rattle.machine_states.specs.structure_laws.specs.Meaning.{Meaning}
use Rattle.machine_states.specs.runner_parts.specs.State.{NodesState, DescriptorsState}
use Rattle.version_words.specs.RunnerState.{RunnerState}
use Rattle.caller_facts.specs.try_lock.specs.declared.planned.Planned.{Planned}
use Rattle.caller_facts.specs.try_lock.specs.Planning.{Planning}
use Rattle.caller_facts.specs.try_lock.specs.Plans as plan
use Rattle.attempts.specs.Course.{HasEntered, HasPlanned}

-- what the plan says, as a part of the course
pub planned_of : {T : Type 0} (m : Meaning) (planning : Planning) (request : Request) (old r : RunnerState T) → HasEntered m planning request old r
    → (answer : Planned) (new : RunnerState T) (halts halts' : ℕ) (asks asks' : Asks) (steps steps' : ℕ)
    → (is : plan.HasPlanned m planning request answer r new halts halts' asks asks' steps steps') → new.layout ≡ r.layout → new.requests ≡ r.requests
    → HasPlanned m planning request is.readings answer old new
planned_of m planning request old r enters answer new halts halts' asks asks' steps steps' is layout requests = record {
  entered = r;
  enters = enters;
  walk = subst (λ l. plan.IsWalk m planning l request.op is.readings) enters.still.layout is.walk;
  walked = is.walked;
  answers = subst (λ l. plan.Answers m planning l request.op request.number is.readings answer) enters.still.layout is.answers;
  reached = is.reached;
  still = record {
    layout = layout ∙ enters.still.layout;
    requests = requests ∙ enters.still.requests;
    number = is.walked.keeps.number ∙ enters.still.number;
    known = is.walked.keeps.known ∙ enters.still.known;
    finished = is.walked.keeps.finished ∙ enters.still.finished;
  };
  hand = record {
    hand = ap (λ (n : NodesState). n.hand) is.walked.keeps.nodes ∙ enters.hand.hand;
    tests = ap (λ (n : NodesState). n.tests) is.walked.keeps.nodes ∙ enters.hand.tests;
    looked = is.walked.looked ∙ enters.hand.looked;
  };
  has = record {
    nodes = subst (λ (n : NodesState). 2 ≤ length n.free) (sym is.walked.keeps.nodes) enters.has.nodes;
    descriptors = subst (λ (d : DescriptorsState). 1 ≤ length d.free) (sym is.walked.keeps.descriptors) enters.has.descriptors;
    blocks = (let had = enters.has.blocks in let more = is.walked.keeps.blocks in omega (arith, had, more));
  };
}
