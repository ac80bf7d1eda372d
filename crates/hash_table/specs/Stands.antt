-- What was gathered of the words of a closed table.
use Rattle.std.specs.Prelude.{◌≡◌, ℕ, ◌*◌, ◌^◌, List}
use Rattle.machine_states.specs.map_history.specs.Replay.{Pairs}
use Rattle.machine_states.specs.structure_laws.specs.Meaning.{Meaning}
use Rattle.bucket_walks.specs.section_body.specs.Bucket.{bucket_index}
use Rattle.bucket_walks.specs.bucket_laws.specs.Buckets.{buckets_meaning, nodes}
use Rattle.lock_walks.specs.version_words.specs.TableState.{WordsState}
use Rattle.lock_walks.specs.try_lock.specs.Contents.{StandFor}
use Rattle.hash_table.specs.Gathered.{IsGathered, IsGathering}

-- a structure has so many buckets: their cells are its fixed ones, and no slot is fixed
abbrev pub HasBuckets : ℕ → Meaning → Type 0
HasBuckets bits m = (m.fixed_cells ≡ 3 * 2 ^ bits) × (m.fixed_slots ≡ 0)

module _ {T : Type 0} (bits : ℕ) (words : WordsState T) (pairs : Pairs)
    (stand : StandFor (buckets_meaning bits) words pairs) where
  -- the pairs of the chains of all buckets below this one
  abbrev pub HasGathered : ℕ → List (ℕ × ℕ) → Type 0
  HasGathered below items = IsGathered (λ key. bucket_index key bits)
      (nodes (2 ^ bits) (λ key. bucket_index key bits) stand.cells) stand.stands.on below items

  -- and those of this one's own, before the slot to which this link leads
  abbrev pub Gathers : ℕ → ℕ → ℕ → List (ℕ × ℕ) → Type 0
  Gathers bucket link made items = IsGathering (λ key. bucket_index key bits)
      (nodes (2 ^ bits) (λ key. bucket_index key bits) stand.cells)
      stand.stands.on stand.stands.rank bucket link made items
