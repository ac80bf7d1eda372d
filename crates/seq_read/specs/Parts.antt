-- What the parts of a read do.
use Rattle.std.specs.Prelude.{◌≡◌, ℕ, ◌+◌, ◌-◌, ◌≤◌, List, Bool, true, false, not, length, take}
use Rattle.std.specs.List.{list_all}
use Rattle.machine_states.specs.map_history.specs.declared.op.Request.{Request}
use Rattle.machine_states.specs.body_terms.specs.Shape.{IsShaped, is_look}
use Rattle.machine_states.specs.body_terms.specs.declared.step.Step.{Step}
use Rattle.machine_states.specs.body_terms.specs.declared.thunk.Thunk.{Thunk}
use Rattle.caller_facts.specs.section_runs.specs.runner_gate.specs.Asks.{Asks, asked_on}
use Rattle.machine_states.specs.structure_laws.specs.Scene.{Readings}
use Rattle.machine_states.specs.structure_laws.specs.Meaning.{Meaning}
use Rattle.caller_facts.specs.version_words.specs.RunnerState.{RunnerState}
use Rattle.caller_facts.specs.section_runs.specs.commit_log.specs.Asked.{IsAsked}
use Rattle.caller_facts.specs.try_lock.specs.declared.planned.Planned.TheVariants as plans
use Rattle.caller_facts.specs.try_lock.specs.Planning.{Planning}
use Rattle.caller_facts.specs.try_lock.specs.Reached.{IsReached}
use Rattle.caller_facts.specs.try_lock.specs.Plans.{HasWalked}
use Rattle.seq_read.specs.Wants.{AreFirst, readings_of, cells_of, loads_in}
use Rattle.seq_read.specs.Course.{HasPlanned}
use Rattle.seq_read.specs.Reads.{is_halted, Answers, steps_of, asks_before}
use Rattle.seq_read.specs.declared.answers.Read.{Read}
use Rattle.seq_read.specs.declared.cells.Loaded.{Loaded}

module _ {T : Type 0} (m : Meaning) where
  -- it loaded the cells of the first steps, so many
  pub record HasCells (steps : List Step) (count : ℕ) (xs : List Loaded) (r r' : RunnerState T)
      (halts halts' : ℕ) (asks asks' : Asks) (made made' : ℕ) : Type 0 where
    pub cells : cells_of xs ≡ loads_in (take count steps)
    pub loads : HasWalked m (readings_of xs) r r'
    pub reached : IsReached m r'
    pub asked : IsAsked (length xs) true halts halts' asks asks' made made'

  -- it loaded the cells of these steps, or a gate halted it behind one of them, which was seen with all asks but that
  pub record HasLoadedCells (steps : List Step) (xs : List Loaded) (going : Bool) (r r' : RunnerState T)
      (Seen : ℕ → Asks → Type 0) (halts halts' : ℕ) (asks asks' : Asks) (made made' : ℕ) : Type 0 where
    pub cells : AreFirst steps xs
    pub all : going ≡ true → length xs ≡ length (loads_in steps)
    pub loads : HasWalked m (readings_of xs) r r'
    pub reached : IsReached m r'
    pub asked : IsAsked (length xs) going halts halts' asks asks' made made'
    pub some : going ≡ false → 1 ≤ length xs
    pub let_go : going ≡ false → Seen halts (asked_on asks (length xs - 1))

module _ {T : Type 0} (m : Meaning) (planning : Planning) (request : Request) where
  -- the runner has planned this thunk, whose body has these steps, and may load their cells: they change nothing
  pub record MayLoad (steps : List Step) (thunk : Thunk) (readings : Readings) (old r : RunnerState T) : Type 0 where
    pub plans : HasPlanned m planning request readings (plans.Thunk thunk) old r
    pub body : steps ≡ m.body thunk
    pub shaped : IsShaped steps
    pub looks : list_all is_look steps ≡ true

  -- the rest of a read that began with `old`, from here on; `before` is how many steps were counted before. The gate
  -- was asked behind each of these, and behind the entry
  pub record Rests (before : ℕ) (answer : Read) (old new : RunnerState T)
      (Seen : ℕ → Asks → Type 0) (halts halts' : ℕ) (asks asks' : Asks) (steps steps' : ℕ) : Type 0 where
    pub answers : Answers m planning request answer old new
    pub made : ℕ
    pub made_is : before + made ≡ steps_of m planning request answer old new answers
    pub asked : IsAsked made (not (is_halted answer)) halts halts' asks asks' steps steps'
    -- where the gate halted the runner, it was seen with so many more asks before it did
    pub let_go : is_halted answer ≡ true → (more : ℕ)
        × (1 + before + more ≡ asks_before m planning request answer old new answers)
        × Seen halts (asked_on asks more)
