-- What holds of the joint states with the history.
use Rattle.std.specs.Prelude.{ℕ, ◌≡◌, List, [], ◌∷◌}
use Rattle.agreement_core.specs.table_words.specs.declared.layout.Layout.{Layout}
use Rattle.agreement_core.specs.section_lines.specs.structure_laws.specs.Meaning.{Meaning}
use Rattle.agreement_core.specs.section_lines.specs.structure_laws.specs.Cells.{slots}
use Rattle.agreement_core.specs.State.{IsOpen}
use Rattle.epoch_core.specs.declared.location.Location.{Location}
use Rattle.epoch_core.specs.State.{Counts}
use Rattle.history_core.specs.State.{Requests}
use Rattle.history_core.specs.Sound.{IsSound}
use Rattle.history_core.specs.Legal.{HistoryIsLegal, ClockStands, KnowledgeStands, ReadsStand, StampsRise, IsClosed, HasNoReads}
use Rattle.history_core.specs.Schedules as schedules
use Rattle.machine_scenes.specs.Shown.{Publications}
use Rattle.machine_scenes.specs.Kept.{IsKept}
use Rattle.machine_scenes.specs.Schedules.{first_states, IsFirst}
use Rattle.machine_history.specs.Memory.{MemoryStands}
use Rattle.machine_history.specs.Tied.{AreTied}
use Rattle.machine_history.specs.Steps.{HistoryStates, Step, Enabled, after}

-- no section is open
abbrev pub AreAllClosed : HistoryStates → Type 0
AreAllClosed h = (d : ℕ) → IsOpen h.joint.agreement d → ⊥

module _ (m : Meaning) (layout : Layout) (c : Counts) (requests : Requests) where
  -- the joint states are kept, the history is sound, the two are tied, and the completed memory stands for the
  -- history's map
  pub record IsJoined (h : HistoryStates) : Type 0 where
    pub kept : IsKept m layout c h.joint
    pub sound : IsSound requests h.history
    pub tied : AreTied requests h.joint h.history
    pub memory : MemoryStands m layout c h.joint h.history.pairs

  -- what they say: the history is legal, reads without a lock stand, stamps rise strictly along a trace where there is
  -- no read, the completed memory stands for its final map, what is known stands, and where no section is open each
  -- stamped request has its reply and the cells themselves stand for that map
  pub record HistoryStands (h : HistoryStates) : Type 0 where
    pub legal : HistoryIsLegal requests h.history
    pub reads : ReadsStand requests h.history
    pub rises : HasNoReads h.history → StampsRise requests h.history
    pub clock : ClockStands requests h.history
    pub known : KnowledgeStands requests h.history
    pub memory : MemoryStands m layout c h.joint h.history.pairs
    pub answered : AreAllClosed h → IsClosed requests h.history
    pub settled : AreAllClosed h → m.stands layout h.joint.agreement.shared.cells h.history.pairs

  -- each step of the list is enabled in the states to which the steps before it lead
  abbrev pub AllEnabled : HistoryStates → List Step → Type 0
  AllEnabled h [] = Unit {0}
  AllEnabled h (step ∷ steps) = Enabled m layout c requests h step × AllEnabled (after m layout c requests h step) steps

  -- the states after a list of steps
  abbrev pub after_all : HistoryStates → List Step → HistoryStates
  after_all h [] = h
  after_all h (step ∷ steps) = after_all (after m layout c requests h step) steps

module _ (m : Meaning) (layout : Layout) where
  abbrev pub first : (ℕ → Location) → Publications → HistoryStates
  first location p = record { joint = first_states m location p; history = schedules.first_state }

  -- the first states are joined, and each step keeps that
  abbrev pub FirstIsJoined : Type 0
  FirstIsJoined = (c : Counts) → c.nodes ≡ slots m layout → (requests : Requests)
      → requests.is_map ≡ m.is_map → (location : ℕ → Location) → IsFirst m c location → (p : Publications)
      → IsJoined m layout c requests (first location p)

  abbrev pub StepsKeepJoined : Type 0
  StepsKeepJoined = (c : Counts) → c.nodes ≡ slots m layout → (requests : Requests)
      → requests.is_map ≡ m.is_map → (h : HistoryStates) (step : Step)
      → Enabled m layout c requests h step → IsJoined m layout c requests h
      → IsJoined m layout c requests (after m layout c requests h step)

  -- so after every list of enabled steps they are joined, and the history stands
  abbrev pub SchedulesKeepJoined : Type 0
  SchedulesKeepJoined = (c : Counts) → c.nodes ≡ slots m layout → (requests : Requests)
      → requests.is_map ≡ m.is_map → (location : ℕ → Location) → IsFirst m c location → (p : Publications)
      → (steps : List Step) → AllEnabled m layout c requests (first location p) steps
      → IsJoined m layout c requests (after_all m layout c requests (first location p) steps)

  abbrev pub JoinedStands : Type 0
  JoinedStands = (c : Counts) → c.nodes ≡ slots m layout → (requests : Requests) → (h : HistoryStates)
      → IsJoined m layout c requests h → HistoryStands m layout c requests h
