-- The fourth law: what the core may rely on in a kept scene.
use Rattle.std.specs.Prelude.{ℕ, suc, ◌+◌, ◌<◌, ◌≤◌, ◌≡◌, ◌≢◌, ◌⊎◌, true, Some, slice_get}
use Rattle.map_history.specs.declared.op.Op.{Op}
use Rattle.map_history.specs.Keys.{HaveNoCommonKey}
use Rattle.body_terms.specs.Word.{value_of, next_word}
use Rattle.body_terms.specs.declared.value.Value.{Value}
use Rattle.body_terms.specs.declared.step.Step.TheVariants.{Load, Store, Retire}
use Rattle.body_terms.specs.block_words.specs.table_words.specs.declared.layout.Layout.{Layout}
use Rattle.body_terms.specs.Update.{upd}
use Rattle.structure_laws.specs.Scene.{Readings, Section, Free, Live, Retired, Scene}
use Rattle.structure_laws.specs.Meaning.{Meaning}
use Rattle.structure_laws.specs.Sections.{IsAllowed, value_in, Here, IsStep, Holds, Settled, Unstored}
use Rattle.structure_laws.specs.Cells.{IsReader, cell_of, IsCellOf, InUse, Links}
use Rattle.structure_laws.specs.Sound.{Sound}

module _ (m : Meaning) where
  pub record Gives (layout : Layout) (s : Scene) : Type 0 where
    -- each cell that an open section has loaded, or comes to load now, is guarded by a lock that the section holds
    pub guarded : (d j p r : ℕ) (x : Section) → Here s d x → j ≤ x.at → IsStep m x j (Load p r)
        → Holds m x (m.guard s.cells p)
    -- what a walk may take from an entered runner's readings
    pub walked : (r : ℕ) (readings : Readings) (op : Op) → s.reader r ≡ Some readings → IsAllowed op
        → m.walked layout op readings
    -- what readings reach, they reach by a link that was read
    pub reach : (readings : Readings) (t : ℕ) → IsReader s readings → m.reaches readings t ≡ true
        → (i p w : ℕ) × (slice_get readings i ≡ Some (p, w)) × (m.is_link s.cells p ≡ true) × (value_of w ≡ suc t)
    -- no Store, no change of a lock, and no change in a hand makes or ends a link elsewhere
    pub steady_store : (d j p q r : ℕ) (x : Section) (v : Value) → Here s d x → IsStep m x x.at (Store r v)
        → IsStep m x j (Load p r)
        → m.is_link (upd s.cells p (next_word (x.reg r) (value_in x.reg v))) q ≡ m.is_link s.cells q
    pub steady_lock : (p q w : ℕ) → m.is_lock p ≡ true → m.is_link (upd s.cells p w) q ≡ m.is_link s.cells q
    pub steady_hand : (t i q w : ℕ) → s.status t ≡ Free → i < 5 → (IsCellOf m t q → ⊥)
        → m.is_link (upd s.cells (cell_of m t i) w) q ≡ m.is_link s.cells q
    -- nor does one change the lock that guards a place elsewhere
    pub steady_guard_store : (d j p q r : ℕ) (x : Section) (v : Value) → Here s d x
        → IsStep m x x.at (Store r v) → IsStep m x j (Load p r)
        → m.guard (upd s.cells p (next_word (x.reg r) (value_in x.reg v))) q ≡ m.guard s.cells q
    pub steady_guard_lock : (p q w : ℕ) → m.is_lock p ≡ true → m.guard (upd s.cells p w) q ≡ m.guard s.cells q
    pub steady_guard_hand : (t i q w : ℕ) → s.status t ≡ Free → i < 5 → (IsCellOf m t q → ⊥)
        → m.guard (upd s.cells (cell_of m t i) w) q ≡ m.guard s.cells q
    -- a fixed cell or a live slot links live slots alone
    pub live : (p t : ℕ) → InUse m s p → Links m s p t → s.status t ≡ Live
    -- a slot that was retired a short while ago links only slots that are live or were retired in no earlier epoch
    pub limbo : (q y t i : ℕ) → s.status q ≡ Retired y → s.epoch ≤ y + 1 → i < 5 → Links m s (cell_of m q i) t
        → (s.status t ≡ Live) ⊎ ((z : ℕ) × (s.status t ≡ Retired z) × (y ≤ z))
    -- what a settled section has still to retire is live and not fixed, and no other Retire names it
    pub retire_live : (d j t : ℕ) (x : Section) → Here s d x → Settled m x → x.at ≤ j
        → IsStep m x j (Retire t) → s.status t ≡ Live
    pub retire_unfixed : (d j t : ℕ) (x : Section) → Here s d x → Settled m x → x.at ≤ j
        → IsStep m x j (Retire t) → m.fixed_slots ≤ t
    pub retire_once : (d e i j t : ℕ) (x y : Section) → Here s d x → Here s e y → Settled m x → Settled m y
        → x.at ≤ i → y.at ≤ j
        → IsStep m x i (Retire t) → IsStep m y j (Retire t) → (d ≡ e) × (i ≡ j)
    -- when it comes to be retired, no fixed cell and no live slot links it
    pub retire_unlinked : (d t p : ℕ) (x : Section) → Here s d x → IsStep m x x.at (Retire t) → InUse m s p
        → Links m s p t → ⊥
    -- a cell that a settled section has still to store to is a fixed cell or one of a live slot
    pub store_used : (d i j p r : ℕ) (x : Section) (v : Value) → Here s d x → Settled m x → x.at ≤ i
        → IsStep m x i (Store r v) → IsStep m x j (Load p r) → InUse m s p
    -- of two settled sections with a key in common, one has made a Store
    pub one_key : m.is_map ≡ true → (d e : ℕ) (x y : Section) → Here s d x → Here s e y → d ≢ e
        → Settled m x → Settled m y → Unstored m x → Unstored m y
        → HaveNoCommonKey x.op y.op

  abbrev pub GivesLaw : Layout → Type 0
  GivesLaw layout = (s : Scene) → Sound m layout s → m.kept layout s → Gives layout s
