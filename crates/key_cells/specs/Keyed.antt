-- Structures that give each key below a bound some cells of its own, at most three, under one lock.
use Rattle.std.specs.Prelude.{◌≡◌, ℕ, ◌+◌, ◌-◌, ◌<◌, ◌≤◌, ◌^◌, ◌==◌, ◌&&◌, ◌||◌, Bool, true, false, not, cond, nat_lt, is_none, List, Option, None, Some}
use Rattle.std.specs.FinMap.{get}
use Rattle.runner_parts.specs.structure_laws.specs.map_history.specs.declared.op.Op.{Op}
use Rattle.runner_parts.specs.structure_laws.specs.map_history.specs.Keys.{key_of, other_key_of}
use Rattle.runner_parts.specs.structure_laws.specs.map_history.specs.Words.{word_of}
use Rattle.runner_parts.specs.structure_laws.specs.body_terms.specs.Word.{value_of, next_word}
use Rattle.section_body.specs.Bucket.{operand}
use Rattle.runner_parts.specs.structure_laws.specs.body_terms.specs.declared.step.Step.{Step}
use Rattle.runner_parts.specs.structure_laws.specs.body_terms.specs.declared.thunk.Thunk.{Thunk}
use Rattle.runner_parts.specs.structure_laws.specs.Scene.{Cells, Readings}
use Rattle.runner_parts.specs.structure_laws.specs.Meaning.{Meaning}
use Rattle.runner_parts.specs.Tests.{has_pair}
use Rattle.runner_parts.specs.structure_laws.specs.map_history.specs.AtKey.{reply_at, left_at, changes_at}
use Rattle.shared_laws.specs.Nodeless.{NoneLive}
use Rattle.key_cells.specs.Steps.{cell_steps}

-- what an author chooses
pub record Keyed : Type 0 where
  -- it serves the keys below this number
  pub keys : ℕ
  -- the first of its places: those below are no cells of a key and no locks, and all places here count from it
  pub base : ℕ
  -- how many fixed cells it has from there on, locks and all
  pub fixed : ℕ
  -- the lock of a key; how many cells a key has, and the place of each by its number
  pub lock_of : ℕ → ℕ
  pub count : ℕ
  pub cell : ℕ → ℕ → ℕ
  -- whether a place is a lock, and the lock that guards a place
  pub is_lock : ℕ → Bool
  pub guard : ℕ → ℕ
  -- what a key has, by the words of its cells; and the other way the values of the cells of a key that has it
  pub held : (ℕ → ℕ) → Option ℕ
  pub value : Option ℕ → ℕ → ℕ

-- and what is to be shown of it
pub record IsKeyed (c : Keyed) : Type 0 where
  pub few_cells : c.base + c.fixed ≤ 12288
  pub few : c.count ≤ 3
  -- a key's lock is one; its cells are none, and are guarded by it
  pub lock : (key : ℕ) → key < c.keys → (c.lock_of key < c.fixed) × (c.is_lock (c.lock_of key) ≡ true)
  pub cell : (key i : ℕ) → key < c.keys → i < c.count
      → (c.cell key i < c.fixed) × (c.is_lock (c.cell key i) ≡ false)
      × (c.guard (c.cell key i) ≡ c.lock_of key)
  -- each cell is of one key, and has one number
  pub apart : (key q i j : ℕ) → key < c.keys → q < c.keys → i < c.count → j < c.count
      → c.cell key i ≡ c.cell q j → (key ≡ q) × (i ≡ j)
  -- what a key has is said by its own cells, has 32 bits, and is nothing where all values are 0
  pub looks : (words others : ℕ → ℕ) → ((i : ℕ) → i < c.count → words i ≡ others i)
      → c.held words ≡ c.held others
  pub small : (words : ℕ → ℕ) (v : ℕ) → c.held words ≡ Some v → v < 2 ^ 32
  pub absent : (words : ℕ → ℕ) → ((i : ℕ) → value_of (words i) ≡ 0) → c.held words ≡ None
  -- what is stored for a key is read as this
  pub stored : (has : Option ℕ) (old : ℕ → ℕ) → ((v : ℕ) → has ≡ Some v → v < 2 ^ 32)
      → c.held (λ i. next_word (old i) (value_of (c.value has i))) ≡ has

-- the test holds of each number below n, which is at most three
abbrev pub each_of : ℕ → (ℕ → Bool) → Bool
each_of n test = (nat_lt n 1 || test 0) && ((nat_lt n 2 || test 1) && (nat_lt n 3 || test 2))

-- a thunk's operands: the words that are wanted, at most three; the new values, from 3 on; the reply word;
-- the key
abbrev pub wanted : Thunk → ℕ → ℕ
wanted t i = operand t i

abbrev pub new_of : Thunk → ℕ → ℕ
new_of t i = operand t (3 + i)

-- the operation depends on no second key
abbrev pub has_one_key : Op → Bool
has_one_key op = is_none (other_key_of op)

module _ (c : Keyed) where
  -- in the memory: the lock of a key, its cells, whether a place is a lock, and the lock that guards a place
  abbrev pub lock_place : ℕ → ℕ
  lock_place key = c.base + c.lock_of key

  abbrev pub cell_place : ℕ → ℕ → ℕ
  cell_place key i = c.base + c.cell key i

  abbrev pub is_lock_place : ℕ → Bool
  is_lock_place place = not (nat_lt place c.base) && c.is_lock (place - c.base)

  abbrev pub guard_place : ℕ → ℕ
  guard_place place = c.base + c.guard (place - c.base)

  -- the thunk's key, where it is one
  abbrev pub key_in : Thunk → ℕ
  key_in t = cond (nat_lt (operand t 7) c.keys) (operand t 7) 0

  -- form 1, nothing changes: the cells are loaded and wanted; form 2, they are stored too
  abbrev pub body_by : Bool → ℕ → Thunk → List Step
  body_by w key t = cell_steps (cell_place key) (wanted t) (new_of t) (operand t 6) w c.count

  abbrev pub key_body : Thunk → List Step
  key_body t = body_by (t.form == 2) (key_in t) t

  -- the thunk's form, new values and reply word are those of an operation on a key that had this
  abbrev pub is_for : Op → Option ℕ → Thunk → Bool
  is_for op had t =
      (t.form == cond (changes_at had op) 2 1) && ((operand t 6 == word_of (reply_at had op)) &&
      each_of c.count (λ i. new_of t i == c.value (left_at had op) i))

  -- its lock and key are this key's, and the words that it wants, and its lock's, were read in its places
  abbrev pub was_read : ℕ → Readings → Thunk → Bool
  was_read key readings t =
      (t.lock == lock_place key) && ((operand t 7 == key) &&
      (each_of c.count (λ i. has_pair readings (cell_place key i) (wanted t i)) &&
      has_pair readings (lock_place key) t.word))

  -- the operation has one key, below the bound
  abbrev pub serves_key : Op → Bool
  serves_key op = has_one_key op && nat_lt (key_of op) c.keys

  abbrev pub key_fits : Op → Readings → Thunk → Bool
  key_fits op readings t =
      serves_key op && (was_read (key_of op) readings t && is_for op (c.held (wanted t)) t)

  -- what a key has in these cells
  abbrev pub held_in : Cells → ℕ → Option ℕ
  held_in cells key = cond (nat_lt key c.keys) (c.held (λ i. cells (cell_place key i))) None

  -- what such a structure means
  abbrev pub keyed : Meaning
  keyed = record {
    is_map = true;
    fixed_cells = c.base + c.fixed;
    fixed_slots = 0;
    first_value = λ place. 0;
    is_lock = is_lock_place;
    body = key_body;
    reaches = λ readings slot. false;
    fits = λ layout op readings thunk. key_fits op readings thunk;
    is_link = λ cells place. false;
    guard = λ cells place. guard_place place;
    stands = λ layout cells pairs. (key : ℕ) → get pairs key ≡ held_in cells key;
    walked = λ layout op readings. Unit {0};
    kept = λ layout s. NoneLive s;
  }
