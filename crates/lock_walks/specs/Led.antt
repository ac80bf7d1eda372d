-- How far a runner has come on a walk.
use Rattle.std.specs.Prelude.{◌≡◌, ℕ, ◌+◌, ◌<◌, ◌≤◌, [], ◌∷◌, ◌++◌, Bool, true, false, length, Some, None}
use Rattle.machine_states.specs.table_words.specs.declared.layout.Layout.{Layout}
use Rattle.try_lock.specs.section_runs.specs.runner_gate.specs.Asks.{Asks}
use Rattle.machine_states.specs.structure_laws.specs.Scene.{Readings}
use Rattle.machine_states.specs.structure_laws.specs.Meaning.{Meaning}
use Rattle.machine_states.specs.structure_laws.specs.Sections.{IsAllowed}
use Rattle.try_lock.specs.commit_log.specs.version_words.specs.RunnerState.{RunnerState}
use Rattle.try_lock.specs.commit_log.specs.Asked.{IsAsked}
use Rattle.try_lock.specs.Reached.{IsReached}
use Rattle.try_lock.specs.Plans.{MayPlan, IsWalk, NoneRefuses, HasWalked}
use Rattle.lock_walks.specs.Way.{Way, fed_all, IsLedBy, Leads}

module _ {W : Type 0} (m : Meaning) (layout : Layout) (way : Way W) where
  -- the last of these readings, and those before it, of which none refuses; they are those of a state that the machine
  -- reaches
  pub record IsLast (walk : W) (readings : Readings) (place word : ℕ) : Type 0 where
    pub before : Readings
    pub last : readings ≡ before ++ (place, word) ∷ []
    pub led : IsLedBy way walk before
    pub wanted : way.wants (fed_all way walk before) ≡ Some place
    pub none : NoneRefuses m (way.planning walk) layout (way.op walk) before
    pub stands : m.walked layout (way.op walk) readings

module _ {W T : Type 0} (m : Meaning) (layout : Layout) (way : Way W) where
  -- the walker led the runner by these readings, so many; the gate was asked after each, and let it go on. The walker
  -- is behind them, and this is the last one
  pub record IsAlong (made : ℕ) (walk walk' : W) (place word : ℕ) (old new : RunnerState T)
      (halts halts' : ℕ) (asks asks' : Asks) (steps steps' : ℕ) : Type 0 where
    pub readings : Readings
    pub each : length readings ≡ made
    pub led : IsLedBy way walk readings
    pub walks : IsWalk m (way.planning walk) layout (way.op walk) readings
    pub behind : walk' ≡ fed_all way walk readings
    pub walked : HasWalked m readings old new
    pub left : way.left walk' + made ≤ way.left walk
    pub last : 0 < made → IsLast m layout way walk readings place word
    pub reached : 0 < made → IsReached m new
    pub asked : IsAsked made true halts halts' asks asks' steps steps'

  -- so it led the runner, to the end of its walk or to a reading behind which the gate halted
  pub record HasLed (walk walk' : W) (place word : ℕ) (going : Bool) (old new : RunnerState T)
      (halts halts' : ℕ) (asks asks' : Asks) (steps steps' : ℕ) : Type 0 where
    pub readings : Readings
    pub led : IsLedBy way walk readings
    pub walks : IsWalk m (way.planning walk) layout (way.op walk) readings
    pub behind : walk' ≡ fed_all way walk readings
    pub walked : HasWalked m readings old new
    pub few : length readings ≤ way.left walk
    pub last : IsLast m layout way walk readings place word
    pub ends : going ≡ true → way.wants walk' ≡ None
    pub reached : IsReached m new
    pub asked : IsAsked (length readings) going halts halts' asks asks' steps steps'

-- where a walk began: with which walker and runner, at how many halts and asks of the gate, and at how many steps
pub record Start (W T : Type 0) : Type 0 where
  pub walk : W
  pub runner : RunnerState T
  pub halts : ℕ
  pub asks : Asks
  pub steps : ℕ

module _ {W T : Type 0} (m : Meaning) (layout : Layout) (way : Way W) where
  -- the walk that began there has come this far: a walk that leads a plan, from a runner that may plan
  pub record IsOnWay (start : Start W T) (walk : W) (place word : ℕ) (runner : RunnerState T)
      (halts : ℕ) (asks : Asks) (steps : ℕ) : Type 0 where
    pub allowed : IsAllowed (way.op start.walk)
    pub leads : Leads way m layout start.walk
    pub entered : MayPlan start.runner
    pub made : ℕ
    pub along : IsAlong m layout way made start.walk walk place word start.runner runner
        start.halts halts start.asks asks start.steps steps

  -- it has come to its end, or to a reading behind which the gate halted
  abbrev pub IsThrough : Start W T → W → ℕ → ℕ → Bool → RunnerState T → ℕ → Asks → ℕ → Type 0
  IsThrough start walk place word going runner halts asks steps =
      HasLed m layout way start.walk walk place word going start.runner runner
      start.halts halts start.asks asks start.steps steps

  -- wherever it began, it comes from here to there, or the gate halts there
  pub record GoesOn (walk walk' : W) (place word place' word' : ℕ) (going : Bool)
      (runner runner' : RunnerState T) (halts halts' : ℕ) (asks asks' : Asks) (steps steps' : ℕ) : Type 0 where
    pub on : (start : Start W T) → IsOnWay start walk place word runner halts asks steps → going ≡ true
        → IsOnWay start walk' place' word' runner' halts' asks' steps'
    pub cut : (start : Start W T) → IsOnWay start walk place word runner halts asks steps → going ≡ false
        → IsThrough start walk' place' word' false runner' halts' asks' steps'

  -- wherever it began, it comes from here to its end, or the gate halts before
  abbrev pub GoesThrough : (walk walk' : W) (place word place' word' : ℕ) (going : Bool)
      (runner runner' : RunnerState T) (halts halts' : ℕ) (asks asks' : Asks) (steps steps' : ℕ) → Type 0
  GoesThrough walk walk' place word place' word' going runner runner' halts halts' asks asks' steps steps' =
      (start : Start W T) → IsOnWay start walk place word runner halts asks steps
      → IsThrough start walk' place' word' going runner' halts' asks' steps'
