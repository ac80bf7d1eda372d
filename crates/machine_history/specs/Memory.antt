-- The completed memory in the joint states, and the map for which it stands.
use Rattle.std.specs.Prelude.{ℕ, zero, suc, ◌++◌, ◌≡◌, ◌≢◌, ◌==◌, ◌||◌, Bool, true, false, cond}
use Rattle.std.specs.FinMap.{empty}
use Rattle.agreement_core.specs.map_history.specs.declared.op.Op.{Op}
use Rattle.agreement_core.specs.map_history.specs.Keys.{HaveNoCommonKey}
use Rattle.agreement_core.specs.map_history.specs.Replay.{Pairs, reply_of, map_after}
use Rattle.agreement_core.specs.map_history.specs.Words.{word_of}
use Rattle.agreement_core.specs.body_terms.specs.declared.micro.Micro.{Micro}
use Rattle.agreement_core.specs.body_terms.specs.declared.micro.Micro.TheVariants as micros
use Rattle.agreement_core.specs.body_terms.specs.declared.step.Step.TheVariants.{Answer}
use Rattle.agreement_core.specs.body_terms.specs.declared.thunk.Thunk.{Thunk}
use Rattle.agreement_core.specs.table_words.specs.declared.layout.Layout.{Layout}
use Rattle.agreement_core.specs.section_lines.specs.structure_laws.specs.Scene.{Cells, Readings}
use Rattle.agreement_core.specs.section_lines.specs.structure_laws.specs.Meaning.{Meaning}
use Rattle.agreement_core.specs.section_lines.specs.structure_laws.specs.Cells.{slots}
use Rattle.agreement_core.specs.section_lines.specs.structure_laws.specs.Shape.{HasStep}
use Rattle.agreement_core.specs.State.{AgreementState, section_of, IsOpen}
use Rattle.agreement_core.specs.Checks.{is_stamp_exchange}
use Rattle.agreement_core.specs.Events as agreement
use Rattle.epoch_core.specs.declared.location.Location.{Location}
use Rattle.epoch_core.specs.State.{Counts, is_entered}
use Rattle.read_answers.specs.completed_memory.specs.Pending.{Marks, IsCompleted}
use Rattle.read_answers.specs.Looks.{ReadsStand, IsLook}
use Rattle.machine_scenes.specs.Shown.{Publications, States, scene_of}
use Rattle.machine_scenes.specs.Steps.{Step, Agreement, descriptor_of, Enabled, after}
use Rattle.machine_scenes.specs.Kept.{IsKept}
use Rattle.machine_scenes.specs.Schedules.{first_states, IsFirst}

-- the exchange of the stamp is below this place of the line
abbrev pub passed_stamp : (ℕ → Micro) → ℕ → Bool
passed_stamp code zero = false
passed_stamp code (suc n) = is_stamp_exchange (code n) || passed_stamp code n

-- by descriptor, whether a run of the section has passed that exchange
abbrev pub marks_of : AgreementState → Marks
marks_of a d = passed_stamp ((a.section d).code) ((a.section d).edge)

-- this run is one of the furthest of its section
abbrev pub is_furthest : AgreementState → ℕ → Bool
is_furthest a r = (a.run r).at == (section_of a r).edge

-- the map after a step: the first exchange of a section's stamp leads it on by the section's operation
abbrev pub pairs_after : States → Step → Pairs → Pairs
pairs_after j (Agreement (agreement.StampExchange r)) pairs = cond (is_furthest j.agreement r)
    (map_after pairs (j.publications.op (descriptor_of j r))) pairs
pairs_after j step pairs = pairs

-- the section stands at its Stamp: its furthest runs are before the load of the clock, the exchange
-- of the stamp, or the raise
abbrev pub is_of_stamp : Micro → Bool
is_of_stamp micros.ClockLoad = true
is_of_stamp micros.StampExchange = true
is_of_stamp micros.ClockRaise = true
is_of_stamp _ = false

module _ (m : Meaning) (layout : Layout) (c : Counts) where
  -- the completed memory stands for this map
  pub record MemoryStands (j : States) (pairs : Pairs) : Type 0 where
    pub cells : Cells
    pub completed : IsCompleted m (scene_of m c j) (marks_of j.agreement) cells
    pub stands : m.stands layout cells pairs

module _ (m : Meaning) (layout : Layout) where
  -- an entered runner has made this look outside a run, its lock has the word that was read first, and what the runner
  -- has read stands
  pub record HasLooked (j : States) (r : ℕ) (op : Op) (thunk : Thunk) : Type 0 where
    pub planned : Readings
    pub found : Readings
    pub entered : is_entered (j.epochs.stage r) ≡ true
    pub walk : j.walk r ≡ planned ++ found
    pub look : IsLook m layout planned found op thunk
    pub here : j.agreement.shared.cells thunk.lock ≡ thunk.word
    pub stand : ReadsStand m j.agreement.shared.cells (j.walk r)

  -- at first it stands for the empty map
  abbrev pub FirstMemoryStands : Type 0
  FirstMemoryStands = (c : Counts) → c.nodes ≡ slots m layout → (location : ℕ → Location)
      → IsFirst m c location → (p : Publications)
      → MemoryStands m layout c (first_states m location p) empty

  -- a step leads it on as said
  abbrev pub StepsKeepMemory : Type 0
  StepsKeepMemory = (c : Counts) → c.nodes ≡ slots m layout → (j : States) (step : Step) (pairs : Pairs)
      → Enabled m layout c j step → IsKept m layout c j
      → MemoryStands m layout c j pairs
      → MemoryStands m layout c (after m layout c j step) (pairs_after j step pairs)

  -- a section of which a run is the first at the exchange of the stamp answers what that map does
  abbrev pub StampsAnswer : Type 0
  StampsAnswer = (c : Counts) → c.nodes ≡ slots m layout → (j : States) (r : ℕ) (pairs : Pairs)
      → IsKept m layout c j → MemoryStands m layout c j pairs
      → m.is_map ≡ true → agreement.IsBefore j.agreement r micros.StampExchange
      → is_furthest j.agreement r ≡ true
      → (i n : ℕ) → (section_of j.agreement r).code i ≡ micros.ReplyExchange n
      → n ≡ word_of (reply_of pairs (j.publications.op (descriptor_of j r)))

  -- two open sections that stand at their Stamps have no key in common
  abbrev pub StampsApart : Type 0
  StampsApart = (c : Counts) → c.nodes ≡ slots m layout → (j : States) (d e : ℕ) → IsKept m layout c j
      → m.is_map ≡ true → d ≢ e
      → IsOpen j.agreement d → IsOpen j.agreement e
      → is_of_stamp ((j.agreement.section d).code ((j.agreement.section d).edge)) ≡ true
      → is_of_stamp ((j.agreement.section e).code ((j.agreement.section e).edge)) ≡ true
      → HaveNoCommonKey (j.publications.op d) (j.publications.op e)

  -- a look answers what that map does, and its operation leaves the map
  abbrev pub LooksAnswer : Type 0
  LooksAnswer = (c : Counts) → c.nodes ≡ slots m layout → (j : States) (r : ℕ) (pairs : Pairs) (op : Op) (thunk : Thunk)
      → IsKept m layout c j → MemoryStands m layout c j pairs
      → m.is_map ≡ true → HasLooked j r op thunk
      → (i n : ℕ) → HasStep m thunk i (Answer n)
      → n ≡ word_of (reply_of pairs op)

  abbrev pub LooksLeave : Type 0
  LooksLeave = (c : Counts) → c.nodes ≡ slots m layout → (j : States) (r : ℕ) (pairs : Pairs) (op : Op) (thunk : Thunk)
      → IsKept m layout c j → MemoryStands m layout c j pairs
      → m.is_map ≡ true → HasLooked j r op thunk
      → map_after pairs op ≡ pairs

  -- an open section that stands at its Stamp has no key in common with a look
  abbrev pub LooksApart : Type 0
  LooksApart = (c : Counts) → c.nodes ≡ slots m layout → (j : States) (r d : ℕ) (op : Op) (thunk : Thunk)
      → IsKept m layout c j
      → m.is_map ≡ true → HasLooked j r op thunk → IsOpen j.agreement d
      → is_of_stamp ((j.agreement.section d).code ((j.agreement.section d).edge)) ≡ true
      → HaveNoCommonKey op (j.publications.op d)

  -- where no section is open, the cells themselves stand for the map
  abbrev pub ClosedMemoryStands : Type 0
  ClosedMemoryStands = (c : Counts) → c.nodes ≡ slots m layout → (j : States) (pairs : Pairs)
      → MemoryStands m layout c j pairs
      → ((d : ℕ) → IsOpen j.agreement d → ⊥) → m.stands layout j.agreement.shared.cells pairs
