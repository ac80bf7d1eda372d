-- What a reader without a lock has found, and what of it stands.
use Rattle.std.specs.Prelude.{ℕ, ◌<◌, ◌++◌, ◌≡◌, true, false, Some, slice_get}
use Rattle.section_lines.specs.structure_laws.specs.map_history.specs.declared.op.Op.{Op}
use Rattle.section_lines.specs.structure_laws.specs.body_terms.specs.Word.{is_free, is_spent}
use Rattle.section_lines.specs.structure_laws.specs.body_terms.specs.Shape.{is_look}
use Rattle.section_lines.specs.structure_laws.specs.body_terms.specs.declared.step.Step.{Step}
use Rattle.section_lines.specs.structure_laws.specs.body_terms.specs.declared.step.Step.TheVariants.{Load, Want}
use Rattle.section_lines.specs.structure_laws.specs.body_terms.specs.declared.thunk.Thunk.{Thunk}
use Rattle.section_lines.specs.structure_laws.specs.table_words.specs.declared.layout.Layout.{Layout}
use Rattle.section_lines.specs.structure_laws.specs.Scene.{Cells, Readings, Scene}
use Rattle.section_lines.specs.structure_laws.specs.Meaning.{Meaning}
use Rattle.section_lines.specs.structure_laws.specs.Sections.{IsAllowed, Unheld}
use Rattle.section_lines.specs.structure_laws.specs.Shape.{HasStep}

module _ (m : Meaning) where
  -- the thunk's body changes nothing
  abbrev pub LooksOnly : Thunk → Type 0
  LooksOnly thunk = (j : ℕ) (step : Step) → HasStep m thunk j step → is_look step ≡ true

  -- where these readings have a lock's free word, and behind it a place that this lock guards, the place holds what was
  -- read as long as the lock holds that word
  abbrev pub ReadsStand : Cells → Readings → Type 0
  ReadsStand cells readings = (i j lock free place word : ℕ) → i < j
      → slice_get readings i ≡ Some (lock, free) → slice_get readings j ≡ Some (place, word)
      → m.is_lock lock ≡ true → is_free free ≡ true → cells lock ≡ free
      → m.is_lock place ≡ false → m.guard cells place ≡ lock → cells place ≡ word

  -- a look: a thunk that only looks, fits what was read for the plan and has its lock's word from there; and behind
  -- the plan its reader has found in the cells what the thunk's Wants want there
  pub record IsLook (layout : Layout) (planned found : Readings) (op : Op) (thunk : Thunk) : Type 0 where
    pub allowed : IsAllowed op
    pub fits : m.fits layout op planned thunk ≡ true
    pub looks : LooksOnly thunk
    pub lock : (i : ℕ) × (slice_get planned i ≡ Some (thunk.lock, thunk.word))
    pub free : is_free thunk.word ≡ true
    pub unspent : is_spent layout.version_max thunk.word ≡ false
    pub wanted : (i j place reg word : ℕ) → HasStep m thunk i (Load place reg) → HasStep m thunk j (Want reg word)
        → (k : ℕ) × (slice_get found k ≡ Some (place, word))

  -- an entered runner has made this look, the lock still has the word that was read first, no open section holds it,
  -- and the readings stand
  pub record LookStands (layout : Layout) (s : Scene) (r : ℕ) (op : Op) (thunk : Thunk) : Type 0 where
    pub planned : Readings
    pub found : Readings
    pub reader : s.reader r ≡ Some (planned ++ found)
    pub look : IsLook layout planned found op thunk
    pub here : s.cells thunk.lock ≡ thunk.word
    pub unheld : Unheld m s thunk.lock
    pub stand : ReadsStand s.cells (planned ++ found)
