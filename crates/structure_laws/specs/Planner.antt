-- What a structure gives to those who plan sections on it, besides the laws: what its thunks expect was
-- read, what its Makes are for, and how many slots stay in use.
use Rattle.std.specs.Prelude.{ℕ, ◌*◌, ◌^◌, ◌<◌, ◌≤◌, ◌≡◌, ◌⊎◌, true, List, None, Some, slice_get, length}
use Rattle.std.specs.FinMap.{len}
use Rattle.map_history.specs.declared.op.Op.{Op}
use Rattle.map_history.specs.declared.op.Op.TheVariants.{Get, Ins, Del, Put, Mov}
use Rattle.map_history.specs.declared.reply.Reply.TheVariants.{New, Was, Moved}
use Rattle.map_history.specs.Replay.{Pairs}
use Rattle.map_history.specs.Words.{word_of}
use Rattle.body_terms.specs.declared.value.Init.{Init}
use Rattle.body_terms.specs.declared.step.Step.TheVariants.{Load, Want, Make, Answer}
use Rattle.body_terms.specs.declared.thunk.Thunk.{Thunk}
use Rattle.body_terms.specs.block_words.specs.table_words.specs.declared.layout.Layout.{Layout}
use Rattle.body_terms.specs.block_words.specs.table_words.specs.Limits.{IsWithinLimits}
use Rattle.structure_laws.specs.Scene.{Readings, Live, Scene}
use Rattle.structure_laws.specs.Meaning.{Meaning}
use Rattle.structure_laws.specs.Sections.{IsAllowed}
use Rattle.structure_laws.specs.Shape.{HasStep}
use Rattle.structure_laws.specs.InTurn.{StandsFor}

-- the reply word says that the operation added a pair, or put a new one in the place of another
abbrev pub Adds : Op → ℕ → Type 0
Adds (Get key) reply = ⊥
Adds (Ins key value) reply = reply ≡ word_of New
Adds (Del key) reply = ⊥
Adds (Put key value) reply =
    (reply ≡ word_of New) ⊎ ((before : ℕ) × (before < 2 ^ 32) × (reply ≡ word_of (Was before)))
Adds (Mov from to) reply = reply ≡ word_of Moved

module _ (m : Meaning) where
  -- no section is open, so what the memory stands for is what every section left
  abbrev pub IsQuiet : Scene → Type 0
  IsQuiet s = (d : ℕ) → s.section d ≡ None

  -- different slots, each live and not fixed
  pub record AreInUse (s : Scene) (slots : List ℕ) : Type 0 where
    pub once : (i j t : ℕ) → slice_get slots i ≡ Some t → slice_get slots j ≡ Some t → i ≡ j
    pub live : (i t : ℕ) → slice_get slots i ≡ Some t → s.status t ≡ Live
    pub unfixed : (i t : ℕ) → slice_get slots i ≡ Some t → m.fixed_slots ≤ t

  -- the laws over one layout; each pair of the map keeps so many slots in use, at most
  pub record PlannerLawsOver (layout : Layout) (per_pair : ℕ) : Type 0 where
    -- a word that a fitting thunk wants in a cell was read there
    pub want_read : (readings : Readings) (op : Op) (thunk : Thunk) → IsAllowed op
        → m.fits layout op readings thunk ≡ true → (i j p r w : ℕ)
        → HasStep m thunk i (Load p r) → HasStep m thunk j (Want r w) → (k : ℕ) × (slice_get readings k ≡ Some (p, w))
    -- a fitting thunk whose body makes a node is for an operation that adds a pair, or one that puts a new one in
    -- the place of another, and answers so
    pub make_adds : (readings : Readings) (op : Op) (thunk : Thunk) → IsAllowed op
        → m.fits layout op readings thunk ≡ true → (i j r reply : ℕ) (init : Init)
        → HasStep m thunk i (Make init r) → HasStep m thunk j (Answer reply) → Adds op reply
    -- where nothing is open, the slots in use are few
    pub sized : (s : Scene) (pairs : Pairs) (slots : List ℕ) → StandsFor m layout s pairs → IsQuiet s
        → AreInUse s slots → length slots ≤ per_pair * len pairs

  pub record PlannerLaws (per_pair : ℕ) : Type 0 where
    -- it serves the map
    pub serves : m.is_map ≡ true
    pub over : (layout : Layout) → IsWithinLimits layout → PlannerLawsOver layout per_pair
