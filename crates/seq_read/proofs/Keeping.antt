-- What a read leaves of its runner, by how far it came, and how many steps it counts at most.
use Rattle.std.specs.Prelude.{Bool, true, false, cond, take, slice_get, count_by}
use Rattle.std.proofs.lemmas.List.Sums.{sum_by-cons}
use Rattle.std.proofs.Common.{◌≡◌, ℕ, zero, suc, ◌+◌, ◌≤◌, List, [], ◌∷◌, ◌++◌, length, sym, ap, ◌∙◌, arith, Some}
use Rattle.machine_states.specs.map_history.specs.declared.op.Request.{Request}
use Rattle.machine_states.specs.map_history.specs.declared.reply.Reply.{Reply}
use Rattle.machine_states.specs.body_terms.specs.Shape.{IsShaped, is_stamp, is_answer, loaded_places}
use Rattle.machine_states.specs.body_terms.specs.declared.step.Step.{Step}
use Rattle.machine_states.specs.body_terms.specs.declared.step.Step.TheVariants.{Load, Want, Fresh, Take, Make, Stamp, Store, Retire, Answer}
use Rattle.machine_states.specs.body_terms.specs.declared.thunk.Thunk.{Thunk}
use Rattle.machine_states.specs.table_words.specs.Limits.{IsWithinLimits}
use Rattle.machine_states.specs.structure_laws.specs.Scene.{Readings}
use Rattle.machine_states.specs.structure_laws.specs.Meaning.{Meaning}
use Rattle.machine_states.specs.structure_laws.specs.Laws.{Laws}
use Rattle.machine_states.specs.runner_parts.specs.declared.entries.Known.{Known}
use Rattle.machine_states.specs.runner_parts.specs.declared.event.EventKind.TheVariants as kinds
use Rattle.machine_states.specs.runner_parts.specs.State.{GuardsState}
use Rattle.machine_states.specs.runner_parts.specs.Tests.{is_answered}
use Rattle.caller_facts.specs.version_words.specs.machine_invariant.specs.After.{AreAllowed}
use Rattle.caller_facts.specs.version_words.specs.RunnerState.{RunnerState}
use Rattle.caller_facts.specs.epoch_slots.specs.Entries.{Exits}
use Rattle.caller_facts.specs.epoch_slots.proofs.Outside.{finished_made}
use Rattle.caller_facts.specs.try_lock.specs.declared.planned.Planned.{Planned}
use Rattle.caller_facts.specs.try_lock.specs.declared.planned.Planned.TheVariants as plans
use Rattle.caller_facts.specs.try_lock.specs.Planning.{Planning}
use Rattle.machine_states.specs.runner_steps.specs.Reads.{read_stamp_after}
use Rattle.machine_states.specs.runner_steps.specs.Sections.{reply_in}
use Rattle.machine_states.proofs.Steps.{some_same, none_some}
use Rattle.caller_facts.specs.Knowing.{IsFront, KnowsMore, LearnsNoOther}
use Rattle.caller_facts.proofs.Knowing.{front_same, front_on, no_other_same, no_other_on, answered_of_other}
use Rattle.seq_read.specs.Course.{KeepsSlots, IsReading, HasPlanned, HasLoaded, HasReplied, HasStamped, IsRefused, ByPlan, ByBody, ByCell, ByLock, refused_steps, loaded_steps}
use Rattle.seq_read.specs.Reads.{IsTurnedAway, HasRead, Stops, AtEntry, InPlan, BehindCell, BehindPlan, BehindClock, BehindLock, BehindReply, BehindStamp, stop_steps, Answers, steps_of, read_steps}
use Rattle.seq_read.specs.declared.answers.Read.{Read}
use Rattle.seq_read.specs.declared.answers.Read.TheVariants as answers
use Rattle.seq_read.proofs.Looking.{as_many}
use Rattle.seq_read.proofs.Courses.{lock_here, replied_here}
use Rattle.seq_read.proofs.Writing.{planned_shaped}

-- what a read leaves of its runner
pub record IsKept {T : Type 0} (number : ℕ) (old new : RunnerState T) : Type 0 where
  pub layout : new.layout ≡ old.layout
  pub requests : new.requests ≡ old.requests
  pub same_number : new.number ≡ old.number
  pub slots : KeepsSlots old new
  pub finished : new.part.records.finished ≡ old.part.records.finished
  pub known : IsFront old.part.records.known new.part.records.known
  pub no_other : LearnsNoOther number old new

module _ {T : Type 0} where
  pub kept_knows : (number : ℕ) (old new : RunnerState T) → IsKept number old new → KnowsMore old new
  kept_knows number old new is = record {
    number = is.same_number;
    known = is.known;
    finished = front_same old.part.records.finished new.part.records.finished is.finished;
  }

  reading_kept : (number : ℕ) (old r : RunnerState T) → IsReading old r → IsKept number old r
  reading_kept number old r is = record {
    layout = is.still.layout;
    requests = is.still.requests;
    same_number = is.still.number;
    slots = is.slots;
    finished = is.still.finished;
    known = front_same old.part.records.known r.part.records.known is.still.known;
    no_other = no_other_same number old r is.still.known;
  }

  -- one more word of this request is known
  told_kept : (number : ℕ) (old r r' : RunnerState T) (reply : Bool) (word : ℕ) → IsKept number old r → r'.layout ≡ r.layout → r'.requests ≡ r.requests
      → r'.number ≡ r.number → KeepsSlots old r' → r'.part.records.finished ≡ r.part.records.finished
      → r'.part.records.known ≡ r.part.records.known ++ record { request = number; reply = reply; number = word } ∷ [] → IsKept number old r'
  told_kept number old r r' reply word is layout requests same its finished known = record {
    layout = layout ∙ is.layout;
    requests = requests ∙ is.requests;
    same_number = same ∙ is.same_number;
    slots = its;
    finished = finished ∙ is.finished;
    known = front_on old.part.records.known r.part.records.known r'.part.records.known is.known
        (record { back = record { request = number; reply = reply; number = word } ∷ []; parts = known });
    no_other = no_other_on number old r r' is.requests is.layout is.same_number is.no_other
        (λ q own other. ap (λ ks. is_answered ks q.number) known
        ∙ answered_of_other r.part.records.known (record { request = number; reply = reply; number = word } ∷ []) q.number number only (λ e. other (sym e)));
  }
    where
      only : (i : ℕ) (x : Known) → slice_get (record { request = number; reply = reply; number = word } ∷ []) i ≡ Some x → x.request ≡ number
      only zero x e = ap (λ (y : Known). y.request) (sym (some_same _ x e))
      only (suc i) x e = absurd (none_some x (sym e))

module _ {T : Type 0} (m : Meaning) where
  exits_kept : (number : ℕ) (old r new : RunnerState T) → IsKept number old r → Exits m r new → IsKept number old new
  exits_kept number old r new is exits = record {
    layout = ap (λ (y : RunnerState T). y.layout) exits.announce.event.made ∙ is.layout;
    requests = ap (λ (y : RunnerState T). y.requests) exits.announce.event.made ∙ is.requests;
    same_number = exits.keeps.number ∙ is.same_number;
    slots = record {
      nodes = exits.keeps.nodes ∙ is.slots.nodes;
      descriptors = exits.keeps.descriptors ∙ is.slots.descriptors;
      guarded = ap (λ (g : GuardsState). g.named) exits.guards ∙ is.slots.guarded;
      looked = ap (λ (g : GuardsState). g.looked) exits.guards ∙ is.slots.looked;
    };
    finished = exits.keeps.finished ∙ is.finished;
    known = front_on old.part.records.known r.part.records.known new.part.records.known is.known
        (front_same r.part.records.known new.part.records.known exits.keeps.known);
    no_other = no_other_on number old r new is.requests is.layout is.same_number is.no_other (no_other_same number r new exits.keeps.known);
  }

  module _ (planning : Planning) (request : Request) (old : RunnerState T) where
    replied_kept : (thunk : Thunk) (found : Readings) (clock : ℕ) (r : RunnerState T) → HasReplied m planning request thunk found clock old r
        → IsKept request.number old r
    replied_kept thunk found clock r is = told_kept request.number old is.again r true (reply_in (m.body thunk)) (reading_kept request.number old is.again is.unmoved.reading)
        (ap (λ (y : RunnerState T). y.layout) is.writes.made) (ap (λ (y : RunnerState T). y.requests) is.writes.made) (ap (λ (y : RunnerState T). y.number) is.writes.made)
        is.slots
        (finished_made m kinds.ReadReply 0 is.again r is.writes (lock_here m planning request old thunk found clock thunk.word is.again is.unmoved).resting)
        (is.known ∙ ap (λ ks. ks ++ record { request = request.number; reply = true; number = reply_in (m.body thunk) } ∷ []) (sym is.unmoved.reading.still.known))

    stamped_kept : (thunk : Thunk) (found : Readings) (clock : ℕ) (r : RunnerState T) → HasStamped m planning request thunk found clock old r
        → IsKept request.number old r
    stamped_kept thunk found clock r is = told_kept request.number old is.replied r false (read_stamp_after clock) (replied_kept thunk found clock is.replied is.replies)
        (ap (λ (y : RunnerState T). y.layout) is.writes.made) (ap (λ (y : RunnerState T). y.requests) is.writes.made) (ap (λ (y : RunnerState T). y.number) is.writes.made)
        is.slots
        (finished_made m kinds.ReadStamp 0 is.replied r is.writes (replied_here m planning request old thunk found clock is.replied is.replies).resting)
        is.known

    read_kept : (reply : Reply) (stamp : ℕ) (r : RunnerState T) → HasRead m planning request reply stamp old r → IsKept request.number old r
    read_kept reply stamp r is = stamped_kept is.thunk is.found is.clock r is.stamps

    stop_kept : (new : RunnerState T) → Stops m planning request old new → IsKept request.number old new
    stop_kept new (AtEntry enters) = reading_kept request.number old new enters.reading
    stop_kept new (InPlan readings plans) = reading_kept request.number old new plans.reading
    stop_kept new (BehindCell thunk found some loads) = reading_kept request.number old new loads.reading
    stop_kept new (BehindPlan thunk found is) = reading_kept request.number old new is.reading
    stop_kept new (BehindClock thunk found clock is) = reading_kept request.number old new is.reading
    stop_kept new (BehindLock thunk found clock word is) = reading_kept request.number old new is.reading
    stop_kept new (BehindReply thunk found clock is) = replied_kept thunk found clock new is
    stop_kept new (BehindStamp reply stamp is in_time) = read_kept reply stamp new is

    cause_kept : (answer : Read) (cut : RunnerState T) → IsRefused m planning request answer old cut → IsKept request.number old cut
    cause_kept answer cut (ByPlan is) = reading_kept request.number old cut is.plans.reading
    cause_kept answer cut (ByBody at same is) = reading_kept request.number old cut is.plans.reading
    cause_kept answer cut (ByCell place expected read same is) = reading_kept request.number old cut is.loads.reading
    cause_kept answer cut (ByLock is) = reading_kept request.number old cut is.locks.reading

    away_kept : (answer : Read) (new : RunnerState T) → IsTurnedAway m planning request answer old new → IsKept request.number old new
    away_kept answer new is = exits_kept request.number old is.cut new (cause_kept answer is.cut is.cause) is.exits

    pub answers_kept : (answer : Read) (new : RunnerState T) → Answers m planning request answer old new → IsKept request.number old new
    answers_kept (answers.Done reply stamp) new is = exits_kept request.number old is.stamped new (read_kept reply stamp is.stamped is.read) is.exits
    answers_kept answers.Halted new is = stop_kept new is.at
    answers_kept (answers.Busy place word) new is = away_kept (answers.Busy place word) new is
    answers_kept (answers.Stale place expected read) new is = away_kept (answers.Stale place expected read) new is
    answers_kept (answers.Locked at) new is = away_kept (answers.Locked at) new is
    answers_kept (answers.Far loads) new is = away_kept (answers.Far loads) new is
    answers_kept (answers.Spent place word) new is = away_kept (answers.Spent place word) new is

-- a body that runs loads at most thirty cells
counts_within : (body : List Step) → length (loaded_places body) + (count_by is_stamp body + count_by is_answer body) ≤ length body
counts_within [] = omega arith
counts_within (Load place into ∷ steps) =
    let h = counts_within steps in
    let a : count_by is_stamp (Load place into ∷ steps) ≡ 0 + count_by is_stamp steps = sum_by-cons (λ s. cond (is_stamp s) 1 0) (Load place into) steps in
    let b : count_by is_answer (Load place into ∷ steps) ≡ 0 + count_by is_answer steps = sum_by-cons (λ s. cond (is_answer s) 1 0) (Load place into) steps in
    omega (arith, h, a, b)
counts_within (Want reg word ∷ steps) =
    let h = counts_within steps in
    let a : count_by is_stamp (Want reg word ∷ steps) ≡ 0 + count_by is_stamp steps = sum_by-cons (λ s. cond (is_stamp s) 1 0) (Want reg word) steps in
    let b : count_by is_answer (Want reg word ∷ steps) ≡ 0 + count_by is_answer steps = sum_by-cons (λ s. cond (is_answer s) 1 0) (Want reg word) steps in
    omega (arith, h, a, b)
counts_within (Fresh reg ∷ steps) =
    let h = counts_within steps in
    let a : count_by is_stamp (Fresh reg ∷ steps) ≡ 0 + count_by is_stamp steps = sum_by-cons (λ s. cond (is_stamp s) 1 0) (Fresh reg) steps in
    let b : count_by is_answer (Fresh reg ∷ steps) ≡ 0 + count_by is_answer steps = sum_by-cons (λ s. cond (is_answer s) 1 0) (Fresh reg) steps in
    omega (arith, h, a, b)
counts_within (Take place word ∷ steps) =
    let h = counts_within steps in
    let a : count_by is_stamp (Take place word ∷ steps) ≡ 0 + count_by is_stamp steps = sum_by-cons (λ s. cond (is_stamp s) 1 0) (Take place word) steps in
    let b : count_by is_answer (Take place word ∷ steps) ≡ 0 + count_by is_answer steps = sum_by-cons (λ s. cond (is_answer s) 1 0) (Take place word) steps in
    omega (arith, h, a, b)
counts_within (Make init into ∷ steps) =
    let h = counts_within steps in
    let a : count_by is_stamp (Make init into ∷ steps) ≡ 0 + count_by is_stamp steps = sum_by-cons (λ s. cond (is_stamp s) 1 0) (Make init into) steps in
    let b : count_by is_answer (Make init into ∷ steps) ≡ 0 + count_by is_answer steps = sum_by-cons (λ s. cond (is_answer s) 1 0) (Make init into) steps in
    omega (arith, h, a, b)
counts_within (Stamp ∷ steps) =
    let h = counts_within steps in
    let a : count_by is_stamp (Stamp ∷ steps) ≡ 1 + count_by is_stamp steps = sum_by-cons (λ s. cond (is_stamp s) 1 0) Stamp steps in
    let b : count_by is_answer (Stamp ∷ steps) ≡ 0 + count_by is_answer steps = sum_by-cons (λ s. cond (is_answer s) 1 0) Stamp steps in
    omega (arith, h, a, b)
counts_within (Store reg value ∷ steps) =
    let h = counts_within steps in
    let a : count_by is_stamp (Store reg value ∷ steps) ≡ 0 + count_by is_stamp steps = sum_by-cons (λ s. cond (is_stamp s) 1 0) (Store reg value) steps in
    let b : count_by is_answer (Store reg value ∷ steps) ≡ 0 + count_by is_answer steps = sum_by-cons (λ s. cond (is_answer s) 1 0) (Store reg value) steps in
    omega (arith, h, a, b)
counts_within (Retire slot ∷ steps) =
    let h = counts_within steps in
    let a : count_by is_stamp (Retire slot ∷ steps) ≡ 0 + count_by is_stamp steps = sum_by-cons (λ s. cond (is_stamp s) 1 0) (Retire slot) steps in
    let b : count_by is_answer (Retire slot ∷ steps) ≡ 0 + count_by is_answer steps = sum_by-cons (λ s. cond (is_answer s) 1 0) (Retire slot) steps in
    omega (arith, h, a, b)
counts_within (Answer reply ∷ steps) =
    let h = counts_within steps in
    let a : count_by is_stamp (Answer reply ∷ steps) ≡ 0 + count_by is_stamp steps = sum_by-cons (λ s. cond (is_stamp s) 1 0) (Answer reply) steps in
    let b : count_by is_answer (Answer reply ∷ steps) ≡ 1 + count_by is_answer steps = sum_by-cons (λ s. cond (is_answer s) 1 0) (Answer reply) steps in
    omega (arith, h, a, b)

few_places : (body : List Step) → IsShaped body → length (loaded_places body) ≤ 30
few_places body shaped =
    let h = counts_within body in let short = shaped.short in let one = shaped.stamps in let two = shaped.answers in omega (arith, h, short, one, two)

take_few : {A : Type 0} (n : ℕ) (xs : List A) → length (take n xs) ≤ length xs
take_few zero xs = omega arith
take_few (suc n) [] = omega arith
take_few (suc n) (x ∷ xs) = let h = take_few n xs in omega (arith, h)

module _ {T : Type 0} (m : Meaning) (laws : Laws m) (planning : Planning) (request : Request) (old : RunnerState T)
    (limits : IsWithinLimits old.layout) (allowed : AreAllowed old.requests) where
  few_found : (thunk : Thunk) (found : Readings) (r : RunnerState T) → HasLoaded m planning request thunk found old r → length found ≤ 30
  few_found thunk found r is =
      let many = as_many (take (length found) (loaded_places (m.body thunk))) found is.cells in
      let few = take_few (length found) (loaded_places (m.body thunk)) in
      let thirty = few_places (m.body thunk) (planned_shaped m laws planning request old limits allowed thunk is.readings is.planned is.plans).shape in
      omega (arith, many, few, thirty)

  -- where the plans of such reads load so many cells at most
  module _ (most : ℕ) (few : (readings : Readings) (answer : Planned) (r : RunnerState T) → HasPlanned m planning request readings answer old r → length readings ≤ most) where
    few_loaded : (thunk : Thunk) (found : Readings) (r : RunnerState T) (is : HasLoaded m planning request thunk found old r)
        → loaded_steps m planning request thunk found old r is ≤ most + 30
    few_loaded thunk found r is = let plan = few is.readings (plans.Thunk thunk) is.planned is.plans in let cells = few_found thunk found r is in omega (arith, plan, cells)

    few_read : (reply : Reply) (stamp : ℕ) (r : RunnerState T) (is : HasRead m planning request reply stamp old r)
        → read_steps m planning request reply stamp old r is ≤ most + 35
    few_read reply stamp r is =
        let h = few_loaded is.thunk is.found is.stamps.replies.unmoved.clocks.announces.loaded is.stamps.replies.unmoved.clocks.announces.finds.loads in omega (arith, h)

    few_stop : (new : RunnerState T) (at : Stops m planning request old new) → stop_steps m planning request old new at ≤ most + 35
    few_stop new (AtEntry enters) = omega arith
    few_stop new (InPlan readings plan) = let h = few readings plans.Halted new plan in omega (arith, h)
    few_stop new (BehindCell thunk found some loads) = let h = few_loaded thunk found new loads in omega (arith, h)
    few_stop new (BehindPlan thunk found is) = let h = few_loaded thunk found is.loaded is.finds.loads in omega (arith, h)
    few_stop new (BehindClock thunk found clock is) = let h = few_loaded thunk found is.announces.loaded is.announces.finds.loads in omega (arith, h)
    few_stop new (BehindLock thunk found clock word is) =
        let h = few_loaded thunk found is.clocks.announces.loaded is.clocks.announces.finds.loads in omega (arith, h)
    few_stop new (BehindReply thunk found clock is) =
        let h = few_loaded thunk found is.unmoved.clocks.announces.loaded is.unmoved.clocks.announces.finds.loads in omega (arith, h)
    few_stop new (BehindStamp reply stamp is in_time) = few_read reply stamp new is

    few_cause : (answer : Read) (cut : RunnerState T) (cause : IsRefused m planning request answer old cut)
        → refused_steps m planning request answer old cut cause ≤ most + 35
    few_cause answer cut (ByPlan is) = let h = few is.readings is.refusal cut is.plans in omega (arith, h)
    few_cause answer cut (ByBody at same is) = let h = few is.readings (plans.Thunk is.thunk) cut is.plans in omega (arith, h)
    few_cause answer cut (ByCell place expected read same is) = let h = few_loaded is.thunk is.found cut is.loads in omega (arith, h)
    few_cause answer cut (ByLock is) =
        let h = few_loaded is.thunk is.found is.locks.clocks.announces.loaded is.locks.clocks.announces.finds.loads in omega (arith, h)

    pub few_steps : (answer : Read) (new : RunnerState T) (is : Answers m planning request answer old new)
        → steps_of m planning request answer old new is ≤ most + 35
    few_steps (answers.Done reply stamp) new is = few_read reply stamp is.stamped is.read
    few_steps answers.Halted new is = few_stop new is.at
    few_steps (answers.Busy place word) new is = few_cause (answers.Busy place word) is.cut is.cause
    few_steps (answers.Stale place expected read) new is = few_cause (answers.Stale place expected read) is.cut is.cause
    few_steps (answers.Locked at) new is = few_cause (answers.Locked at) is.cut is.cause
    few_steps (answers.Far loads) new is = few_cause (answers.Far loads) is.cut is.cause
    few_steps (answers.Spent place word) new is = few_cause (answers.Spent place word) is.cut is.cause
