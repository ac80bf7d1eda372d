-- The walk of a key through its bucket, read off a list of readings, and the thunk that is the one for it.
use Rattle.std.specs.Prelude.{ℕ, suc, ◌+◌, ◌*◌, ◌-◌, ◌^◌, Bool, true, false, cond, not, ◌&&◌, ◌==◌, nat_le}
use Rattle.std.specs.Prelude.{is_none, List, [], ◌∷◌, Option, None, Some}
use Rattle.structure_laws.specs.map_history.specs.declared.op.Op.{Op}
use Rattle.structure_laws.specs.map_history.specs.declared.op.Op.TheVariants.{Get, Ins, Del, Put, Mov}
use Rattle.structure_laws.specs.map_history.specs.Keys.{key_of, other_key_of}
use Rattle.structure_laws.specs.body_terms.specs.Memory.{cell_of}
use Rattle.structure_laws.specs.body_terms.specs.Word.{value_of, is_free, is_spent}
use Rattle.bucket_bodies.specs.section_body.specs.Bucket.{bucket_lock, bucket_edition, bucket_head}
use Rattle.structure_laws.specs.body_terms.specs.declared.thunk.Thunk.{Thunk}
use Rattle.structure_laws.specs.Scene.{Readings}

-- what the walk loads next; it is at its end, or was refused
pub data Stage : Type 0 where
  AtEdition : Stage
  AtLink : Stage
  AtKey : Stage
  AtValue : Stage
  AtNext : Stage
  AtLock : Stage
  AtEnd : Stage
  Refused : Stage

-- how far a walk has come: how many links it has loaded, the edition word, the head link, the place of the last link,
-- the slot that it leads to, the value and the next link of the key's node, whether there is one, and the lock word
pub record Walk : Type 0 where
  pub stage : Stage
  pub links : ℕ
  pub edition : ℕ
  pub head : ℕ
  pub place : ℕ
  pub slot : ℕ
  pub value : ℕ
  pub next : ℕ
  pub found : Bool
  pub word : ℕ

abbrev pub start : Walk
start = record {
  stage = AtEdition;
  links = 0;
  edition = 0;
  head = 0;
  place = 0;
  slot = 0;
  value = 0;
  next = 0;
  found = false;
  word = 0;
}

abbrev pub is_del : Op → Bool
is_del (Get key) = false
is_del (Ins key value) = false
is_del (Del key) = true
is_del (Put key value) = false
is_del (Mov from to) = false

abbrev pub is_end : Stage → Bool
is_end AtEnd = true
is_end AtEdition = false
is_end AtLink = false
is_end AtKey = false
is_end AtValue = false
is_end AtNext = false
is_end AtLock = false
is_end Refused = false

-- whether this is the place that is wanted
abbrev pub is_wanted : Option ℕ → ℕ → Bool
is_wanted None place = false
is_wanted (Some wanted) place = wanted == place

-- the same numbers in the same order
abbrev pub same_numbers : List ℕ → List ℕ → Bool
same_numbers [] [] = true
same_numbers [] (y ∷ ys) = false
same_numbers (x ∷ xs) [] = false
same_numbers (x ∷ xs) (y ∷ ys) = (x == y) && same_numbers xs ys

-- the limit on loads of links, and the greatest version
pub record Bounds : Type 0 where
  pub links : ℕ
  pub version_max : ℕ

-- the table has thunks for operations with one key
abbrev pub has_one_key : Op → Bool
has_one_key op = is_none (other_key_of op)

-- the form of the thunk for a whole walk; 0 where the table doesn't serve the operation
abbrev pub form_for : Op → Bool → ℕ
form_for (Get key) found = 1
form_for (Ins key value) true = 1
form_for (Ins key value) false = 2
form_for (Del key) true = 3
form_for (Del key) false = 1
form_for (Put key value) true = 4
form_for (Put key value) false = 2
form_for (Mov from to) found = 0

-- its operands, in a table of so many buckets
abbrev pub operands_for : ℕ → Op → Walk → Bool → List ℕ
operands_for buckets (Get key) w true = w.edition ∷ (3 * 2 ^ 32 + w.value) ∷ 0 ∷ 0 ∷ 0 ∷ 0 ∷ 0 ∷ 0 ∷ []
operands_for buckets (Get key) w false = w.edition ∷ 5 * 2 ^ 32 ∷ 0 ∷ 0 ∷ 0 ∷ 0 ∷ 0 ∷ 0 ∷ []
operands_for buckets (Ins key value) w true = w.edition ∷ 2 * 2 ^ 32 ∷ 0 ∷ 0 ∷ 0 ∷ 0 ∷ 0 ∷ 0 ∷ []
operands_for buckets (Ins key value) w false = w.edition ∷ key ∷ value ∷ w.head ∷ 0 ∷ 0 ∷ 0 ∷ 0 ∷ []
operands_for buckets (Del key) w true = w.edition ∷ w.place ∷ w.slot ∷ w.next ∷ 0 ∷ 0 ∷ 0 ∷ 0 ∷ []
operands_for buckets (Del key) w false = w.edition ∷ 5 * 2 ^ 32 ∷ 0 ∷ 0 ∷ 0 ∷ 0 ∷ 0 ∷ 0 ∷ []
operands_for buckets (Put key value) w true =
    w.edition ∷ cell_of (3 * buckets) w.slot 2 ∷ value ∷ (6 * 2 ^ 32 + w.value) ∷ 0 ∷ 0 ∷ 0 ∷ 0 ∷ []
operands_for buckets (Put key value) w false = w.edition ∷ key ∷ value ∷ w.head ∷ 0 ∷ 0 ∷ 0 ∷ 0 ∷ []
operands_for buckets (Mov from to) w found = w.edition ∷ 0 ∷ 0 ∷ 0 ∷ 0 ∷ 0 ∷ 0 ∷ 0 ∷ []

module _ (buckets : ℕ) (bucket : ℕ → ℕ) where
  abbrev pub cell_at : ℕ → ℕ → ℕ
  cell_at slot cell = cell_of (3 * buckets) slot cell

  -- the place that the walk of a key of bucket i loads next
  abbrev pub wanted_at : ℕ → Walk → Stage → Option ℕ
  wanted_at i w AtEdition = Some (bucket_edition i)
  wanted_at i w AtLink = Some w.place
  wanted_at i w AtKey = Some (cell_at w.slot 1)
  wanted_at i w AtValue = Some (cell_at w.slot 2)
  wanted_at i w AtNext = Some (cell_at w.slot 3)
  wanted_at i w AtLock = Some (bucket_lock i)
  wanted_at i w AtEnd = None
  wanted_at i w Refused = None

  -- where a walk goes on from a link
  abbrev pub after_link : Bounds → ℕ → ℕ → Stage
  after_link b links link = cond (link == 0) AtLock (cond (nat_le b.links (suc links)) Refused AtKey)

  -- the walk after the load that it wants has given this word
  abbrev pub fed : Bounds → Op → Walk → Stage → ℕ → Walk
  fed b op w AtEdition word = record w { stage = AtLink; edition = word; place = bucket_head (bucket (key_of op)) }
  fed b op w AtLink word = record w {
    stage = after_link b w.links (value_of word);
    links = suc w.links;
    head = cond (w.place == bucket_head (bucket (key_of op))) (value_of word) w.head;
    slot = value_of word - 1;
    found = false;
  }
  fed b op w AtKey word = cond (value_of word == key_of op) (record w { stage = AtValue })
      (record w { stage = AtLink; place = cell_at w.slot 3 })
  fed b op w AtValue word = record w { stage = cond (is_del op) AtNext AtLock; value = value_of word; found = true }
  fed b op w AtNext word = record w { stage = AtLock; next = value_of word; found = true }
  fed b op w AtLock word = record w {
    stage = cond (is_free word && not (is_spent b.version_max word)) AtEnd Refused;
    word = word;
  }
  fed b op w AtEnd word = w
  fed b op w Refused word = w

  -- the walk in a list of readings: its longest prefix that is one
  unfoldable pub walk : Bounds → Op → Walk → Readings → Walk
  walk b op w [] = w
  walk b op w (reading ∷ readings) = cond (is_wanted (wanted_at (bucket (key_of op)) w w.stage) reading.0)
      (walk b op (fed b op w w.stage reading.1) readings) w

  -- the operation has one key, the walk is whole and met no refusal, and the thunk is the one for it
  abbrev pub fits_walk : Op → Walk → Thunk → Bool
  fits_walk op w thunk = has_one_key op && (is_end w.stage &&
      ((thunk.form == form_for op w.found) &&
      ((thunk.lock == bucket_lock (bucket (key_of op))) &&
      ((thunk.word == w.word) && same_numbers thunk.operands (operands_for buckets op w w.found)))))
