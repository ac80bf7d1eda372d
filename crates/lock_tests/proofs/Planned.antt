-- What a plan of the worker's next request gives to the publication of its section, and this to its run.
use Rattle.std.proofs.Common.{◌≡◌, ℕ, ◌≤◌, ◌++◌, length, true, sym, ap, subst, ◌∙◌, arith, Some, None}
use Rattle.std.specs.Prelude.{◌&&◌, not, slice_get}
use Rattle.machine_states.specs.map_history.specs.declared.op.Request.{Request}
use Rattle.machine_states.specs.body_terms.specs.Word.{is_spent}
use Rattle.machine_states.specs.body_terms.specs.declared.thunk.Thunk.{Thunk}
use Rattle.settled_tables.specs.settling.specs.runner_gate.specs.Asks.{Asks}
use Rattle.machine_states.specs.table_words.specs.Places.{attempt_blocks}
use Rattle.machine_states.specs.structure_laws.specs.Meaning.{Meaning}
use Rattle.machine_states.specs.runner_parts.specs.State.{DescriptorsState, GuardsState, NodesState, ReadsState}
use Rattle.machine_states.specs.runner_parts.specs.Tests.{has_pair, is_next, serves}
use Rattle.settled_tables.specs.closed_words.specs.version_words.specs.RunnerState.{RunnerState}
use Rattle.hash_table.specs.try_lock.specs.epoch_slots.specs.Entries.{Enters}
use Rattle.hash_table.specs.try_lock.specs.declared.planned.Planned.{Planned}
use Rattle.hash_table.specs.try_lock.specs.declared.planned.Planned.TheVariants as answers
use Rattle.hash_table.specs.try_lock.specs.Planning.{Planning}
use Rattle.hash_table.specs.try_lock.specs.Plans.{MayPlan, HasPlanned}
use Rattle.hash_table.specs.try_lock.specs.Publishes.{MayPublish}
use Rattle.lock_tests.specs.Workers.{IsEmptyHanded}
use Rattle.lock_tests.specs.Asked.{IsDue}

module _ {T : Type 0} (m : Meaning) (idle entered : RunnerState T) (enters : Enters m idle entered) where
  pub may_plan : MayPlan entered
  may_plan = record { epoch = enters.epoch; section = None; at = enters.at; fresh = ap (λ (s : ReadsState). s.walk) enters.reads }

  -- what a plan changes of the worker beside its readings: nothing
  module _ (plans : Planning) (request : Request) (r : RunnerState T) (answer : Planned) (halts halts' : ℕ) (asks asks' : Asks) (steps steps' : ℕ)
      (so : HasPlanned m plans request answer entered r halts halts' asks asks' steps steps') where
    pub planned_number : r.number ≡ idle.number
    planned_number = so.walked.keeps.number ∙ enters.keeps.number

    pub planned_known : r.part.records.known ≡ idle.part.records.known
    planned_known = so.walked.keeps.known ∙ enters.keeps.known

    module _ (due : IsDue request idle) where
      pub planned_nodes : 2 ≤ length r.part.nodes.free
      planned_nodes = subst (λ (x : NodesState). 2 ≤ length x.free) (sym (so.walked.keeps.nodes ∙ enters.keeps.nodes)) due.reserve.nodes

      pub planned_blocks : attempt_blocks ≤ length r.part.blocks.free
      planned_blocks = let had = due.reserve.blocks in let entered_too = enters.keeps.blocks in let more = so.walked.keeps.blocks in omega (arith, had, entered_too, more)

      pub planned_hand : IsEmptyHanded r
      planned_hand = let nodes = so.walked.keeps.nodes ∙ enters.keeps.nodes in record {
        hand = ap (λ (x : NodesState). x.hand) nodes ∙ due.tidy.hand;
        tests = ap (λ (x : NodesState). x.tests) nodes ∙ due.tidy.tests;
        looked = so.walked.looked ∙ ap (λ (g : GuardsState). g.looked) enters.guards;
      }

  -- the thunk that was planned may be published
  module _ (plans : Planning) (request : Request) (r : RunnerState T) (thunk : Thunk) (halts halts' : ℕ) (asks asks' : Asks) (steps steps' : ℕ)
      (so : HasPlanned m plans request (answers.Thunk thunk) entered r halts halts' asks asks' steps steps') (due : IsDue request idle) where
    pub may_publish : entered.layout ≡ idle.layout → entered.requests ≡ idle.requests → MayPublish m r thunk
    may_publish same_layout same_requests =
        let fit = so.answers in
        let layout : r.layout ≡ entered.layout = ap (λ (y : RunnerState T). y.layout) so.walked.same in
        let requests : r.requests ≡ idle.requests = ap (λ (y : RunnerState T). y.requests) so.walked.same ∙ same_requests in
        let number = planned_number plans request r (answers.Thunk thunk) halts halts' asks asks' steps steps' so in
        let known = planned_known plans request r (answers.Thunk thunk) halts halts' asks asks' steps steps' so in
        let walk : r.part.reads.walk ≡ so.readings = ap (λ (s : ReadsState). s.walk) so.walked.reads ∙ ap (λ (s : ReadsState). s.walk ++ so.readings) enters.reads in
        let cells : r.part.reads.cells ≡ so.readings = ap (λ (s : ReadsState). s.cells) so.walked.reads ∙ ap (λ (s : ReadsState). s.cells ++ so.readings) enters.reads in
        let fits : m.fits r.layout request.op r.part.reads.walk thunk ≡ true = (λ i. m.fits (layout i) request.op (walk i) thunk) ∙ fit.fits in
        let there : slice_get r.requests thunk.request ≡ Some request = (λ i. slice_get (requests i) (fit.request i)) ∙ due.there in
        let next : is_next r.layout r.number r.requests r.part.records.known (Some request) ≡ true
        = (λ i. is_next ((layout ∙ same_layout) i) (number i) (requests i) (known i) (Some request)) ∙ due.next in
        record {
          epoch = enters.epoch;
          at = so.walked.at enters.epoch None enters.at;
          unlocked = (λ i. fit.free i && (not (is_spent (layout i).version_max thunk.word) && has_pair (cells i) thunk.lock thunk.word)) ∙ (λ i. not (fit.unspent i) && fit.read i);
          due = (λ i. is_next r.layout r.number r.requests r.part.records.known (there i) && serves m r.layout r.part.reads.walk thunk (there i)) ∙ (λ i. next i && fits i);
          reserve = subst (λ (d : DescriptorsState). 1 ≤ length d.free) (sym (so.walked.keeps.descriptors ∙ enters.keeps.descriptors)) due.reserve.descriptors;
          reached = so.reached;
        }

-- what was planned, over the structure of the table and with the thunk that was answered
pub told : {T X : Type 0} (meaning : X → Meaning) (planning : X → Planning) (s s' : X) → s ≡ s' → (request : Request) (answer : Planned) (thunk : Thunk) → answer ≡ answers.Thunk thunk → (old new : RunnerState T)
    (halts halts' : ℕ) (asks asks' : Asks) (steps steps' : ℕ) → HasPlanned (meaning s) (planning s) request answer old new halts halts' asks asks' steps steps'
    → HasPlanned (meaning s') (planning s') request (answers.Thunk thunk) old new halts halts' asks asks' steps steps'
told {T} {X} meaning planning s s' same request answer thunk is old new halts halts' asks asks' steps steps' so =
    subst (λ (z : X). HasPlanned (meaning z) (planning z) request (answers.Thunk thunk) old new halts halts' asks asks' steps steps') same
    (subst (λ a. HasPlanned (meaning s) (planning s) request a old new halts halts' asks asks' steps steps') is so)

-- the same whatever was answered
pub told_all : {T X : Type 0} (meaning : X → Meaning) (planning : X → Planning) (s s' : X) → s ≡ s' → (request : Request) (answer : Planned) (old new : RunnerState T)
    (halts halts' : ℕ) (asks asks' : Asks) (steps steps' : ℕ) → HasPlanned (meaning s) (planning s) request answer old new halts halts' asks asks' steps steps'
    → HasPlanned (meaning s') (planning s') request answer old new halts halts' asks asks' steps steps'
told_all {T} {X} meaning planning s s' same request answer old new halts halts' asks asks' steps steps' so =
    subst (λ (z : X). HasPlanned (meaning z) (planning z) request answer old new halts halts' asks asks' steps steps') same so
