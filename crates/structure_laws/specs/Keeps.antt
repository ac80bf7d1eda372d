-- The third law: every move leads from a kept scene to a kept scene.
use Rattle.std.specs.Prelude.{ℕ, suc, ◌+◌, ◌<◌, ◌≤◌, ◌≡◌, ◌≢◌, true, false, [], None, Some, slice_get}
use Rattle.map_history.specs.declared.op.Op.{Op}
use Rattle.body_terms.specs.Word.{value_of, version_of, next_word, is_free, is_spent}
use Rattle.body_terms.specs.declared.value.Value.{Value}
use Rattle.body_terms.specs.declared.value.Init.{Init}
use Rattle.body_terms.specs.declared.step.Step.TheVariants.{Load, Want, Fresh, Take, Make, Stamp, Store, Retire, Answer}
use Rattle.body_terms.specs.declared.thunk.Thunk.{Thunk}
use Rattle.body_terms.specs.block_words.specs.table_words.specs.declared.layout.Layout.{Layout}
use Rattle.structure_laws.specs.Scene.{Readings, Section, Free, Live, Retired, Scene, with_cell, with_reader, with_section, with_status, with_reading, opened, passes, sets}
use Rattle.structure_laws.specs.Meaning.{Meaning}
use Rattle.structure_laws.specs.Sections.{IsAllowed, value_in, Here, IsStep, Unheld, Settled, Ended}
use Rattle.structure_laws.specs.Cells.{cell_of, slots, Links, IsLoadable}
use Rattle.structure_laws.specs.Sound.{Sound}

module _ (m : Meaning) where
  -- an entered runner may publish a section: the thunk fits its readings, and the outer lock stands free
  -- with the thunk's word. That the runner has read this word in a walk is asked only as far as `fits` asks
  -- for it
  pub record Publishes (layout : Layout) (s : Scene) (readings : Readings) (op : Op) (thunk : Thunk) : Type 0 where
    pub allowed : IsAllowed op
    pub fits : m.fits layout op readings thunk ≡ true
    pub free : is_free thunk.word ≡ true
    pub unspent : is_spent layout.version_max thunk.word ≡ false
    pub found : s.cells thunk.lock ≡ thunk.word
    pub unheld : Unheld m s thunk.lock

  -- a slot of a hand is prepared for a Make: its cells hold what the Init gives
  pub record IsPrepared (layout : Layout) (s : Scene) (x : Section) (t : ℕ) (init : Init) : Type 0 where
    pub in_hand : s.status t ≡ Free
    pub within : t < slots m layout
    pub cells : (i : ℕ) (v : Value) → i < 5 → slice_get init.cells i ≡ Some v
        → value_of (s.cells (cell_of m t i)) ≡ value_in x.reg v

  -- a move between sound scenes leads from a kept one to a kept one
  abbrev pub Onward : Layout → Scene → Scene → Type 0
  Onward layout s s' = Sound m layout s → m.kept layout s → Sound m layout s' → m.kept layout s'

  pub record Keeps (layout : Layout) : Type 0 where
    -- a runner enters, loads a place outside a run, leaves
    pub enters : (s : Scene) (r : ℕ) → Onward layout s (with_reader s r (Some []))
    pub reads : (s : Scene) (r p : ℕ) (readings : Readings) → s.reader r ≡ Some readings
        → IsLoadable m readings p → Onward layout s (with_reading s r readings p)
    pub leaves : (s : Scene) (r : ℕ) → Onward layout s (with_reader s r None)
    -- a section is published, passes its next step, is done: at its end, or before its Makes where it leaves at an exit
    pub holds : (s : Scene) (r d : ℕ) (readings : Readings) (op : Op) (thunk : Thunk)
        → s.reader r ≡ Some readings → Publishes layout s readings op thunk
        → s.section d ≡ None → Onward layout s (with_section s d (Some (opened op thunk readings)))
    pub load : (s : Scene) (d p r : ℕ) (x : Section) → Here s d x → IsStep m x x.at (Load p r)
        → Onward layout s (sets s d x r (s.cells p))
    pub want : (s : Scene) (d r w : ℕ) (x : Section) → Here s d x → IsStep m x x.at (Want r w) → x.reg r ≡ w
        → Onward layout s (passes s d x)
    pub fresh : (s : Scene) (d r : ℕ) (x : Section) → Here s d x → IsStep m x x.at (Fresh r)
        → version_of (x.reg r) ≢ layout.version_max → Onward layout s (passes s d x)
    pub take : (s : Scene) (d l w : ℕ) (x : Section) → Here s d x → IsStep m x x.at (Take l w)
        → Unheld m s l → Onward layout s (passes s d x)
    pub make : (s : Scene) (d t r : ℕ) (x : Section) (init : Init) → Here s d x
        → IsStep m x x.at (Make init r) → IsPrepared layout s x t init
        → Onward layout s (with_status (sets s d x r (suc t)) t Live)
    pub stamp : (s : Scene) (d : ℕ) (x : Section) → Here s d x → IsStep m x x.at Stamp → Onward layout s (passes s d x)
    pub store : (s : Scene) (d j p r : ℕ) (x : Section) (v : Value) → Here s d x
        → IsStep m x x.at (Store r v) → j < x.at → IsStep m x j (Load p r) → s.cells p ≡ x.reg r
        → Onward layout s (with_cell (passes s d x) p (next_word (x.reg r) (value_in x.reg v)))
    pub retire : (s : Scene) (d t y : ℕ) (x : Section) → Here s d x → IsStep m x x.at (Retire t)
        → y ≤ s.epoch → s.epoch ≤ y + 1
        → ((q z i : ℕ) → i < 5 → s.status q ≡ Retired z → Links m s (cell_of m q i) t → z ≤ y)
        → Onward layout s (with_status (passes s d x) t (Retired y))
    pub answer : (s : Scene) (d n : ℕ) (x : Section) → Here s d x → IsStep m x x.at (Answer n)
        → Onward layout s (passes s d x)
    pub done : (s : Scene) (d : ℕ) (x : Section) → Here s d x → (Settled m x → Ended m x)
        → Onward layout s (with_section s d None)
    -- a lock changes; a cell of a slot in a hand changes; a slot leaves limbo; the epoch rises
    pub lock : (s : Scene) (p w : ℕ) → m.is_lock p ≡ true → Onward layout s (with_cell s p w)
    pub hand : (s : Scene) (t i w : ℕ) → s.status t ≡ Free → i < 5 → Onward layout s (with_cell s (cell_of m t i) w)
    pub collect : (s : Scene) (t y : ℕ) → s.status t ≡ Retired y → y + 2 ≤ s.epoch
        → Onward layout s (with_status s t Free)
    pub advance : (s : Scene) → Onward layout s (record s { epoch = suc s.epoch })
