-- The hash table: its meaning, and what it keeps in every scene.
use Rattle.std.specs.Prelude.{ℕ, suc, ◌+◌, ◌*◌, ◌-◌, ◌/◌, ◌%◌, ◌^◌, ◌<◌, ◌≤◌, ◌≡◌, ◌≢◌, ◌⊎◌}
use Rattle.std.specs.Prelude.{Bool, true, false, cond, ◌&&◌, ◌==◌, nat_lt, Some, slice_get}
use Rattle.std.specs.List.{list_any}
use Rattle.std.specs.FinMap.{get}
use Rattle.structure_laws.specs.map_history.specs.declared.op.Op.{Op}
use Rattle.structure_laws.specs.map_history.specs.Keys.{key_of}
use Rattle.structure_laws.specs.map_history.specs.Replay.{Pairs}
use Rattle.structure_laws.specs.body_terms.specs.Word.{value_of}
use Rattle.bucket_bodies.specs.section_body.specs.Bucket.{bucket_index, bucket_lock, bucket_edition, bucket_head}
use Rattle.structure_laws.specs.table_words.specs.declared.layout.Layout.{Layout}
use Rattle.structure_laws.specs.table_words.specs.Places.{slot_count}
use Rattle.structure_laws.specs.Scene.{Cells, Readings, Section, Live, Retired, Scene}
use Rattle.structure_laws.specs.Meaning.{Meaning}
use Rattle.bucket_laws.specs.Chain.{Nodes, Chains, Contents}
use Rattle.bucket_laws.specs.Halves.{Kind, Look, Insert, Remove, Set, Rename, Side, Half, steps}
use Rattle.bucket_laws.specs.Halves.{HasHalf, IsMaking, IsTaking, IsPending, Owns}
use Rattle.bucket_laws.specs.Walk.{Stage, AtEdition, AtLink, AtKey, AtValue, AtNext, AtLock, AtEnd, Refused}
use Rattle.bucket_laws.specs.Walk.{Walk, start, is_del, Bounds, cell_at, walk}
use Rattle.bucket_laws.specs.TwoWalk.{side_op, side_walk, fits_by}

module _ (buckets : ℕ) (bucket : ℕ → ℕ) where
  -- the links of the chains
  abbrev pub is_link_place : ℕ → Bool
  is_link_place p = cond (nat_lt p (3 * buckets)) (p % 3 == 2) ((p - 3 * buckets) % 5 == 3)

  -- the lock of the bucket: of a fixed cell by its place, of a node's cell by the node's key
  abbrev pub guard_of : Cells → ℕ → ℕ
  guard_of cells p = cond (nat_lt p (3 * buckets)) (p - p % 3)
      (bucket_lock (bucket (value_of (cells (cell_at buckets bucket ((p - 3 * buckets) / 5) 1)))))

  -- the values of heads and nodes
  abbrev pub nodes : Cells → Nodes
  nodes cells = record {
    head = λ i. cond (nat_lt i buckets) (value_of (cells (bucket_head i))) 0;
    key = λ t. value_of (cells (cell_at buckets bucket t 1));
    value = λ t. value_of (cells (cell_at buckets bucket t 2));
    next = λ t. value_of (cells (cell_at buckets bucket t 3));
  }

  -- a slot with a key of bucket i that stands in a chain
  abbrev pub IsNode : Cells → (ℕ → Bool) → ℕ → ℕ → Type 0
  IsNode cells on i t = (on t ≡ true) × (bucket (value_of (cells (cell_at buckets bucket t 1))) ≡ i)

  -- this place is a link of the chain of bucket i
  abbrev pub IsLinkOf : Cells → (ℕ → Bool) → ℕ → ℕ → Type 0
  IsLinkOf cells on i p = (p ≡ bucket_head i) ⊎ ((t : ℕ) × IsNode cells on i t × (p ≡ cell_at buckets bucket t 3))

  -- this place is the cell of a value in the chain of bucket i
  abbrev pub IsValueOf : Cells → (ℕ → Bool) → ℕ → ℕ → Type 0
  IsValueOf cells on i p = (t : ℕ) × IsNode cells on i t × (p ≡ cell_at buckets bucket t 2)

  -- this place is what a half of this kind changes in bucket i
  abbrev pub IsTargetOf : Kind → Cells → (ℕ → Bool) → ℕ → ℕ → Type 0
  IsTargetOf Look cells on i p = ⊥
  IsTargetOf Insert cells on i p = p ≡ bucket_head i
  IsTargetOf Remove cells on i p = IsLinkOf cells on i p
  IsTargetOf Set cells on i p = IsValueOf cells on i p
  IsTargetOf Rename cells on i p = IsLinkOf cells on i p

  -- a node with this key stands at this link or behind it
  abbrev pub IsAhead : Cells → (ℕ → Bool) → (ℕ → ℕ) → ℕ → ℕ → Type 0
  IsAhead cells on rank key link = (u : ℕ) → on u ≡ true → value_of (cells (cell_at buckets bucket u 1)) ≡ key
      → (t : ℕ) × (link ≡ suc t) × (rank u ≤ rank t)

  -- the walk's last link still leads to its slot
  abbrev pub IsReached : Cells → (ℕ → Bool) → ℕ → Walk → Type 0
  IsReached cells on i w = IsLinkOf cells on i w.place × (value_of (cells w.place) ≡ suc w.slot)

  -- what the walk has read of the key's node stands there still
  abbrev pub IsFound : Cells → (ℕ → Bool) → Op → Walk → Type 0
  IsFound cells on op w = IsReached cells on (bucket (key_of op)) w
      × (value_of (cells (cell_at buckets bucket w.slot 1)) ≡ key_of op)
      × (value_of (cells (cell_at buckets bucket w.slot 2)) ≡ w.value)
      × (is_del op ≡ true → value_of (cells (cell_at buckets bucket w.slot 3)) ≡ w.next)

  -- no node has the key
  abbrev pub IsMissing : Cells → (ℕ → Bool) → ℕ → Type 0
  IsMissing cells on key = (u : ℕ) → on u ≡ true → value_of (cells (cell_at buckets bucket u 1)) ≢ key

  -- what a walk knows at each stage, as long as its bucket stands as it read it
  abbrev pub Knows : Cells → (ℕ → Bool) → (ℕ → ℕ) → Op → Walk → Stage → Type 0
  Knows cells on rank op w AtEdition = Unit {0}
  Knows cells on rank op w AtLink = let i = bucket (key_of op) in
      IsLinkOf cells on i w.place × IsAhead cells on rank (key_of op) (value_of (cells w.place))
      × (w.place ≢ bucket_head i → w.head ≡ value_of (cells (bucket_head i)))
  Knows cells on rank op w AtKey = let i = bucket (key_of op) in
      IsReached cells on i w × IsAhead cells on rank (key_of op) (suc w.slot)
      × (w.head ≡ value_of (cells (bucket_head i)))
  Knows cells on rank op w AtValue = let i = bucket (key_of op) in
      IsReached cells on i w × (value_of (cells (cell_at buckets bucket w.slot 1)) ≡ key_of op)
      × (w.head ≡ value_of (cells (bucket_head i)))
  Knows cells on rank op w AtNext = let i = bucket (key_of op) in
      IsReached cells on i w × (value_of (cells (cell_at buckets bucket w.slot 1)) ≡ key_of op)
      × (value_of (cells (cell_at buckets bucket w.slot 2)) ≡ w.value) × (w.head ≡ value_of (cells (bucket_head i)))
  Knows cells on rank op w AtLock = (w.head ≡ value_of (cells (bucket_head (bucket (key_of op)))))
      × (w.found ≡ true → IsFound cells on op w) × (w.found ≡ false → IsMissing cells on (key_of op))
  Knows cells on rank op w AtEnd = (w.head ≡ value_of (cells (bucket_head (bucket (key_of op)))))
      × (w.found ≡ true → IsFound cells on op w) × (w.found ≡ false → IsMissing cells on (key_of op))
  Knows cells on rank op w Refused = Unit {0}

  abbrev pub bounds : Layout → Bounds
  bounds layout = record { links = slot_count layout 0 + 8; version_max = layout.version_max }

  abbrev pub walk_of : Layout → Op → Readings → Walk
  walk_of layout op readings = walk buckets bucket (bounds layout) op start readings

  -- the walk of each key of the operation
  abbrev pub walk_by : Layout → Op → Readings → Side → Walk
  walk_by layout op readings side = side_walk buckets bucket (bounds layout) op readings side

  -- the bucket of each key
  abbrev pub bucket_by : Op → Side → ℕ
  bucket_by op side = bucket (key_of (side_op op side))

  -- a new node holds what this half's Make gave
  pub record IsMade (cells : Cells) (h : Half) (slot : ℕ) : Type 0 where
    pub key : value_of (cells (cell_at buckets bucket slot 1)) ≡ h.key
    pub value : value_of (cells (cell_at buckets bucket slot 2)) ≡ h.value
    pub next : value_of (cells (cell_at buckets bucket slot 3)) ≡ h.next

  -- a node of bucket i was taken out: its link leads into the chain of its bucket
  pub record IsTaken (cells : Cells) (on : ℕ → Bool) (gone i : ℕ) : Type 0 where
    pub key : bucket (value_of (cells (cell_at buckets bucket gone 1))) ≡ i
    pub next : (t : ℕ) → value_of (cells (cell_at buckets bucket gone 3)) ≡ suc t → IsNode cells on i t

module _ (two : Bool) (buckets : ℕ) (bucket : ℕ → ℕ) where
  -- as long as the bucket's edition is the one that the walk read, and no change is pending, the walk knows this
  abbrev pub IsWalked : Scene → (ℕ → Bool) → (ℕ → ℕ) → Op → Walk → Type 0
  IsWalked s on rank op w = let i = bucket (key_of op) in
      s.cells (bucket_edition i) ≡ w.edition
      → ((d : ℕ) (x : Section) → s.section d ≡ Some x → IsPending two x i → ⊥)
      → Knows buckets bucket s.cells on rank op w w.stage

  -- the walk of each key of an operation does
  abbrev pub AreWalked : Layout → Scene → (ℕ → Bool) → (ℕ → ℕ) → Op → Readings → Type 0
  AreWalked layout s on rank op readings = (side : Side)
      → IsWalked s on rank (side_op op side) (walk_by buckets bucket layout op readings side)

  pub record BucketsKept (layout : Layout) (s : Scene) : Type 0 where
    pub on : ℕ → Bool
    pub rank : ℕ → ℕ
    pub chains : Chains bucket (nodes buckets bucket s.cells) on rank
    pub on_live : (t : ℕ) → on t ≡ true → s.status t ≡ Live
    pub readers : (r : ℕ) (readings : Readings) (op : Op) → s.reader r ≡ Some readings
        → AreWalked layout s on rank op readings
    pub sections : (d : ℕ) (x : Section) → s.section d ≡ Some x → AreWalked layout s on rank x.op x.readings
    -- the node that a half has made and not linked; what a half changes, once it is loaded; and the node that it has
    -- taken out and not retired
    pub made : (d : ℕ) (x : Section) (h : Half) → s.section d ≡ Some x → HasHalf two x h → IsMaking x h
        → (t : ℕ) × (x.reg h.node_reg ≡ suc t) × IsMade buckets bucket s.cells h t
    pub target : (d : ℕ) (x : Section) (h : Half) (i : ℕ) → s.section d ≡ Some x → HasHalf two x h
        → h.lock ≡ bucket_lock i → h.change < h.edition → h.load ≤ x.at
        → IsTargetOf buckets bucket h.kind s.cells on i h.target
    pub taken : (d : ℕ) (x : Section) (h : Half) (i : ℕ) → s.section d ≡ Some x → HasHalf two x h
        → h.lock ≡ bucket_lock i → IsTaking x h → IsTaken buckets bucket s.cells on h.gone i
    -- what a section holds is live and in no chain, and a live slot stands in a chain, or a section holds it
    pub owned : (d : ℕ) (x : Section) (t : ℕ) → s.section d ≡ Some x → Owns two x t
        → (s.status t ≡ Live) × (on t ≡ false)
    pub live : (t : ℕ) → s.status t ≡ Live
        → (on t ≡ true) ⊎ ((d : ℕ) × (x : Section) × (s.section d ≡ Some x) × Owns two x t)
    pub limbo : (q y t : ℕ) → s.status q ≡ Retired y → s.epoch ≤ y + 1
        → value_of (s.cells (cell_at buckets bucket q 3)) ≡ suc t
        → (s.status t ≡ Live) ⊎ ((z : ℕ) × (s.status t ≡ Retired z) × (y ≤ z))

module _ (buckets : ℕ) (bucket : ℕ → ℕ) where
  -- the chains end, no slot stands twice, keys differ and belong to their bucket; the slots in chains are among the
  -- memory's, of which there are so many; and the pairs are the map's
  pub record BucketsStand (slots : ℕ) (cells : Cells) (pairs : Pairs) : Type 0 where
    pub on : ℕ → Bool
    pub rank : ℕ → ℕ
    pub within : (t : ℕ) → on t ≡ true → t < slots
    pub chains : Chains bucket (nodes buckets bucket cells) on rank
    pub contents : Contents (nodes buckets bucket cells) on (get pairs)

  -- every link that was read leads to a node slot
  abbrev pub LinksWithin : Layout → Readings → Type 0
  LinksWithin layout readings = (i p w t : ℕ) → slice_get readings i ≡ Some (p, w)
      → is_link_place buckets bucket p ≡ true → value_of w ≡ suc t → t < slot_count layout 0

-- the table over any number of buckets; where `two`, it also serves operations over two keys
abbrev pub table : Bool → (buckets : ℕ) (bucket : ℕ → ℕ) → Meaning
table two buckets bucket = record {
  is_map = true;
  fixed_cells = 3 * buckets;
  fixed_slots = 0;
  first_value = λ place. 0;
  is_lock = λ place. nat_lt place (3 * buckets) && (place % 3 == 0);
  body = steps two;
  reaches = λ readings slot. list_any (λ reading. is_link_place buckets bucket reading.0
      && (value_of reading.1 == suc slot)) readings;
  fits = λ layout op readings thunk. fits_by buckets bucket (bounds buckets bucket layout) two op readings thunk;
  is_link = λ cells place. is_link_place buckets bucket place;
  guard = guard_of buckets bucket;
  stands = λ layout cells pairs. BucketsStand buckets bucket (slot_count layout 0) cells pairs;
  walked = λ layout op readings. LinksWithin buckets bucket layout readings;
  kept = λ layout s. BucketsKept two buckets bucket layout s;
}

-- the hash table with 2 ^ bits buckets
abbrev pub buckets_meaning : ℕ → Meaning
buckets_meaning bits = table false (2 ^ bits) (λ key. bucket_index key bits)

-- and the one that moves keys, too
abbrev pub moves_meaning : ℕ → Meaning
moves_meaning bits = table true (2 ^ bits) (λ key. bucket_index key bits)
