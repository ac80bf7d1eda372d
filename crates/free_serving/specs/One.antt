-- What the serving of one request does and leaves, in which a `get` is read first.
use Rattle.std.specs.Prelude.{◌≡◌, ℕ, ◌+◌, ◌*◌, ◌≤◌, ◌⊎◌, List, [], ◌∷◌, length, Bool, true, false}
use Rattle.machine_states.specs.map_history.specs.declared.op.Request.{Request}
use Rattle.machine_states.specs.body_terms.specs.Counted.{counted_on}
use Rattle.seq_read.specs.runner_gate.specs.Asks.{Asks, asked_on}
use Rattle.machine_states.specs.structure_laws.specs.Meaning.{Meaning}
use Rattle.machine_states.specs.structure_laws.specs.Cells.{slots}
use Rattle.machine_states.specs.runner_parts.specs.declared.entries.Known.{Known}
use Rattle.machine_states.specs.runner_parts.specs.Tests.{is_answered}
use Rattle.version_words.specs.RunnerState.{RunnerState}
use Rattle.seq_read.specs.caller_facts.specs.epoch_slots.specs.Collects.{IsTidy}
use Rattle.seq_read.specs.caller_facts.specs.try_lock.specs.Planning.{Planning}
use Rattle.seq_read.specs.caller_facts.specs.try_lock.specs.Reached.{IsReached}
use Rattle.seq_read.specs.caller_facts.specs.request_facts.specs.Laws.{HasEntry}
use Rattle.seq_read.specs.caller_facts.specs.Knowing.{KnowsMore, LearnsNoOther}
use Rattle.serving.specs.attempt_bounds.specs.Spared.{IsSpared}
use Rattle.serving.specs.Serving.{Try, most_asks, WasCrossed, WasHalted}
use Rattle.serving.specs.declared.answers.Served.{Served}
use Rattle.serving.specs.declared.answers.Served.TheVariants as answers
use Rattle.free_serving.specs.Services.{is_get, Service, request_of, served_by, full_by, steps_by, asks_by, tries_by, IsEnd, IsService, asks_let}
use Rattle.free_serving.specs.Left.{Rises, IsOdd, least_asks, MostRuns, AreAskedWholly, WasPublished, WasReadInVain, HasStopped}

module _ {T : Type 0} (m : Meaning) (planning : Planning) (retry_short : Bool) (request : Request) where
  -- the request is answered, with a stamp behind those that were known; where it is a `get`, the stamp is a read's, or
  -- its read came to nothing
  pub record IsServed (old new : RunnerState T) : Type 0 where
    pub answered : is_answered new.part.records.known request.number ≡ true
    pub behind : (x y : Known) → HasEntry old.part.records.known x → x.reply ≡ false
        → is_answered old.part.records.known x.request ≡ true → HasEntry new.part.records.known y → y.reply ≡ false
        → y.request ≡ request.number → Rises true x.number y.number
    pub odd : is_get request.op ≡ true
        → IsOdd new.part.records.known request ⊎ WasReadInVain m planning request old

  -- how it ended, so many requests served of the one
  abbrev pub Ends : Served → ℕ → List Try → RunnerState T → RunnerState T → Type 0
  Ends answers.All count tries old new = (count ≡ 1) × IsTidy new
  Ends answers.Halted count tries old new = WasHalted (request ∷ []) count new
  Ends answer count tries old new = (count ≡ 0) × HasStopped m planning retry_short answer request tries old new

  -- so many runs came to their end, and the gate was asked at most so often for one request
  pub record IsBrief (answer : Served) (count asked : ℕ) (old new : RunnerState T) : Type 0 where
    pub runs : MostRuns answer count (length old.part.records.finished) (length new.part.records.finished)
    pub few : asked ≤ most_asks (slots m old.layout)

  -- what is left of it, by these attempts
  pub record LeavesOne (answer : Served) (count full asked : ℕ) (tries : List Try) (old new : RunnerState T)
      : Type 0 where
    pub most : count ≤ 1
    pub served : count ≡ 1 → IsServed old new
    pub ends : Ends answer count tries old new
    -- in a state that the machine reaches it has this part, or it is as it was
    pub reached : IsReached m new ⊎ (new ≡ old)
    pub knows : KnowsMore old new
    pub no_other : LearnsNoOther request.number old new
    pub least : full * least_asks true ≤ asked
    pub whole : AreAskedWholly (request ∷ []) answer count full new
    pub brief : WasCrossed m planning tries old ⊎ IsBrief answer count asked old new
    pub spared : answer ≡ answers.All → retry_short ≡ false → IsSpared old
        → WasCrossed m planning tries old ⊎ IsSpared new
    -- a `get` whose section was published was read in vain before
    pub next : is_get request.op ≡ true → count ≡ 0 → WasPublished request new
        → WasReadInVain m planning request old

  pub record ServesOne (answer : Served) (old new : RunnerState T) (Seen : ℕ → Asks → Type 0)
      (halts : ℕ) (asks asks' : Asks) (steps steps' : ℕ) : Type 0 where
    pub service : Service
    pub of_request : request_of service ≡ request
    pub is : IsService m planning retry_short service old new
    pub ends : IsEnd (request ∷ []) (service ∷ []) answer
    pub counted : steps' ≡ counted_on steps (steps_by service)
    pub asked : asks' ≡ asked_on asks (asks_by service)
    pub let_go : answer ≡ answers.Halted
        → Seen halts (asked_on asks (asks_let m planning retry_short service old new is))
    pub let_least : answer ≡ answers.Halted
        → full_by service * least_asks true ≤ asks_let m planning retry_short service old new is + 1
    pub left : LeavesOne answer (served_by service) (full_by service) (asks_by service) (tries_by service) old new
