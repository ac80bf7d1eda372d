-- Walks over the same places whatever they read: some cells, and a lock last.
use Rattle.std.specs.Prelude.{◌≡◌, ℕ, ◌<◌, ◌≤◌, List, [], ◌∷◌, ◌++◌, Bool, true, false, not, ◌&&◌, ◌==◌, cond, map, length, Option, Some, None}
use Rattle.runner_parts.specs.structure_laws.specs.map_history.specs.declared.op.Op.{Op}
use Rattle.runner_parts.specs.structure_laws.specs.body_terms.specs.Word.{is_free, is_spent}
use Rattle.runner_parts.specs.structure_laws.specs.body_terms.specs.declared.thunk.Thunk.{Thunk}
use Rattle.runner_parts.specs.block_words.specs.table_words.specs.declared.layout.Layout.{Layout}
use Rattle.runner_parts.specs.structure_laws.specs.Scene.{Readings}
use Rattle.runner_parts.specs.structure_laws.specs.Meaning.{Meaning}
use Rattle.runner_parts.specs.Tests.{has_pair}
use Rattle.lock_walks.specs.try_lock.specs.Planning.{Planning}

-- the walks of a structure: which operations it serves; the cells that the walk of one loads, in order, and the lock
-- behind them; and the section's form and operands by the words that were found
pub record Course : Type 0 where
  pub serves : Op → Bool
  pub cells : Op → List ℕ
  pub lock : Op → ℕ
  pub form : Op → List ℕ → ℕ
  pub operands : Op → List ℕ → List ℕ

abbrev pub first_of : List ℕ → Option ℕ
first_of [] = None
first_of (p ∷ ps) = Some p

abbrev pub first_or : ℕ → List ℕ → ℕ
first_or other [] = other
first_or other (p ∷ ps) = p

abbrev pub rest_of : List ℕ → List ℕ
rest_of [] = []
rest_of (p ∷ ps) = ps

-- the places that are left after so many readings
abbrev pub ahead_of : List ℕ → Readings → List ℕ
ahead_of places [] = places
ahead_of places (reading ∷ readings) = ahead_of (rest_of places) readings

-- words are kept while there is room for them
abbrev pub with_word : List ℕ → ℕ → List ℕ
with_word words word = cond (length words == 16) words (words ++ word ∷ [])

-- a walk with nothing ahead is refused where the last word, which is the lock's, is held or spent
abbrev pub refused_by : ℕ → List ℕ → ℕ → Bool
refused_by version_max [] word = not (is_free word && not (is_spent version_max word))
refused_by version_max (p ∷ ps) word = false

module _ (c : Course) where
  -- the places that the walk of an operation loads
  abbrev pub places_for : Op → List ℕ
  places_for op = c.cells op ++ c.lock op ∷ []

  -- the thunk of a whole walk, with these words, and the lock with its word
  abbrev pub thunk_for : Op → List ℕ → ℕ → ℕ → ℕ → Thunk
  thunk_for op words lock word number = record {
    form = c.form op words;
    request = number;
    lock = lock;
    word = word;
    operands = c.operands op words;
  }

  -- how such a structure plans: no place is a mark, and no pair keeps a slot in use
  abbrev pub fixed_planning : Planning
  fixed_planning = record {
    serves = c.serves;
    wants = λ layout op readings. first_of (ahead_of (places_for op) readings);
    is_far = λ layout op readings. false;
    is_mark = λ place. false;
    per_pair = 0;
  }

module _ (m : Meaning) where
  -- these are fixed cells, and no locks
  abbrev pub AreCells : List ℕ → Type 0
  AreCells [] = Unit {0}
  AreCells (p ∷ ps) = (p < m.fixed_cells) × (m.is_lock p ≡ false) × AreCells ps

  -- what is to be shown of a course, for an operation that is served
  pub record Suits (c : Course) (layout : Layout) (op : Op) : Type 0 where
    pub few : length (c.cells op) ≤ 15
    pub cells : AreCells (c.cells op)
    pub lock : (c.lock op < m.fixed_cells) × (m.is_lock (c.lock op) ≡ true)
    pub operands : (words : List ℕ) → length (c.operands op words) ≡ 8
    -- what was read in these places gives a thunk that fits; `read_at` finds in the readings the word of each place
    pub fits : (readings : Readings) (word number : ℕ) → map (λ reading. reading.0) readings ≡ places_for c op
        → has_pair readings (c.lock op) word ≡ true
        → m.fits layout op readings (thunk_for c op (map (λ reading. reading.1) readings) (c.lock op) word number)
        ≡ true
