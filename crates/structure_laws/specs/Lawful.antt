-- The core's side: what it keeps of a scene, and the moves that keep it.
use Rattle.std.specs.Prelude.{ℕ, suc, ◌+◌, ◌<◌, ◌≤◌, ◌≡◌, ◌≢◌, true, false, [], None, Some, slice_get}
use Rattle.map_history.specs.declared.op.Op.{Op}
use Rattle.body_terms.specs.Word.{value_of, version_of, next_word}
use Rattle.body_terms.specs.declared.value.Value.{Value}
use Rattle.body_terms.specs.declared.value.Init.{Init}
use Rattle.body_terms.specs.declared.step.Step.TheVariants.{Load, Want, Fresh, Take, Make, Stamp, Store, Retire, Answer}
use Rattle.body_terms.specs.declared.thunk.Thunk.{Thunk}
use Rattle.body_terms.specs.block_words.specs.table_words.specs.declared.layout.Layout.{Layout}
use Rattle.structure_laws.specs.Scene.{Readings, Section, Free, Live, Retired, Scene, with_cell, with_reader, with_section, with_status, with_reading, opened, passes, sets}
use Rattle.structure_laws.specs.Meaning.{Meaning}
use Rattle.structure_laws.specs.Sections.{value_in, Here, IsStep, Unheld, Settled, Ended}
use Rattle.structure_laws.specs.Cells.{IsReader, cell_of, IsCellOf, Links, IsLoadable}
use Rattle.structure_laws.specs.Sound.{Sound}
use Rattle.structure_laws.specs.Shape.{Shaped}
use Rattle.structure_laws.specs.Keeps.{Publishes, IsPrepared}
use Rattle.structure_laws.specs.Laws.{IsFirst}

module _ (m : Meaning) where
  -- a scene as the core keeps it: it is sound, the structure keeps it, and each open section has a body of the shape
  pub record IsLawful (layout : Layout) (s : Scene) : Type 0 where
    pub sound : Sound m layout s
    pub kept : m.kept layout s
    pub shaped : (d : ℕ) (x : Section) → Here s d x → Shaped m layout x.readings x.thunk

  -- what readings lead to, and the slots whose cells they read, were retired in this epoch or are not retired
  pub record IsRecent (s : Scene) (readings : Readings) : Type 0 where
    pub targets : (i p w t y : ℕ) → slice_get readings i ≡ Some (p, w) → m.is_link s.cells p ≡ true
        → value_of w ≡ suc t → s.status t ≡ Retired y → s.epoch ≤ y
    pub places : (i p w t y : ℕ) → slice_get readings i ≡ Some (p, w) → m.is_lock p ≡ false → IsCellOf m t p
        → s.status t ≡ Retired y → s.epoch ≤ y

  -- a move leads from a lawful scene to a lawful scene
  abbrev pub Leads : Layout → Scene → Scene → Type 0
  Leads layout s s' = IsLawful layout s → IsLawful layout s'

  -- what the core has to show for each move, and nothing else
  pub record Moves (layout : Layout) : Type 0 where
    pub first : (s : Scene) → IsFirst m s → IsLawful layout s
    -- the runners outside a run
    pub enters : (s : Scene) (r : ℕ) → Leads layout s (with_reader s r (Some []))
    pub reads : (s : Scene) (r p : ℕ) (readings : Readings) → s.reader r ≡ Some readings
        → IsLoadable m readings p → Leads layout s (with_reading s r readings p)
    pub leaves : (s : Scene) (r : ℕ) → Leads layout s (with_reader s r None)
    -- a section, from its publication to its end
    pub holds : (s : Scene) (r d : ℕ) (readings : Readings) (op : Op) (thunk : Thunk)
        → s.reader r ≡ Some readings → Publishes m layout s readings op thunk → s.section d ≡ None
        → Leads layout s (with_section s d (Some (opened op thunk readings)))
    pub load : (s : Scene) (d p r : ℕ) (x : Section) → Here s d x → IsStep m x x.at (Load p r)
        → Leads layout s (sets s d x r (s.cells p))
    pub want : (s : Scene) (d r w : ℕ) (x : Section) → Here s d x → IsStep m x x.at (Want r w) → x.reg r ≡ w
        → Leads layout s (passes s d x)
    pub fresh : (s : Scene) (d r : ℕ) (x : Section) → Here s d x → IsStep m x x.at (Fresh r)
        → version_of (x.reg r) ≢ layout.version_max → Leads layout s (passes s d x)
    pub take : (s : Scene) (d l w : ℕ) (x : Section) → Here s d x → IsStep m x x.at (Take l w)
        → Unheld m s l → Leads layout s (passes s d x)
    pub make : (s : Scene) (d t r : ℕ) (x : Section) (init : Init) → Here s d x
        → IsStep m x x.at (Make init r) → IsPrepared m layout s x t init
        → Leads layout s (with_status (sets s d x r (suc t)) t Live)
    pub stamp : (s : Scene) (d : ℕ) (x : Section) → Here s d x → IsStep m x x.at Stamp → Leads layout s (passes s d x)
    pub store : (s : Scene) (d j p r : ℕ) (x : Section) (v : Value) → Here s d x
        → IsStep m x x.at (Store r v) → j < x.at → IsStep m x j (Load p r) → s.cells p ≡ x.reg r
        → Leads layout s (with_cell (passes s d x) p (next_word (x.reg r) (value_in x.reg v)))
    pub retire : (s : Scene) (d t y : ℕ) (x : Section) → Here s d x → IsStep m x x.at (Retire t)
        → y ≤ s.epoch → s.epoch ≤ y + 1
        → ((q z i : ℕ) → i < 5 → s.status q ≡ Retired z → Links m s (cell_of m q i) t → z ≤ y)
        → Leads layout s (with_status (passes s d x) t (Retired y))
    pub answer : (s : Scene) (d n : ℕ) (x : Section) → Here s d x → IsStep m x x.at (Answer n)
        → Leads layout s (passes s d x)
    pub done : (s : Scene) (d : ℕ) (x : Section) → Here s d x → (Settled m x → Ended m x)
        → Leads layout s (with_section s d None)
    -- the cells, the slots and the epoch
    pub lock : (s : Scene) (p w : ℕ) → m.is_lock p ≡ true → version_of (s.cells p) < version_of w
        → Leads layout s (with_cell s p w)
    pub hand : (s : Scene) (t i w : ℕ) → s.status t ≡ Free → i < 5
        → version_of (s.cells (cell_of m t i)) < version_of w → Leads layout s (with_cell s (cell_of m t i) w)
    pub collect : (s : Scene) (t y : ℕ) → s.status t ≡ Retired y → y + 2 ≤ s.epoch
        → Leads layout s (with_status s t Free)
    pub advance : (s : Scene) → ((readings : Readings) → IsReader s readings → IsRecent s readings)
        → Leads layout s (record s { epoch = suc s.epoch })
