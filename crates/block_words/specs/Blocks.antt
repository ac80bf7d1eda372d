-- Where the words of a section's log stand: the first ones in its descriptor, and further ones in each block that is
-- linked to it. A log is kept in parts, each followed by a link to the next one.
use Rattle.std.specs.Prelude.{ℕ, zero, suc, ◌+◌, ◌-◌, ◌*◌, ◌/◌, ◌%◌, ◌<◌, ◌≤◌, ◌≡◌, ◌==◌, Bool, true, not, nat_lt, cond, List, [], ◌∷◌, length, take, slice_index}
use Rattle.std.specs.List.{list_any}
use Rattle.table_words.specs.declared.spot.Spot.{Spot}
use Rattle.table_words.specs.declared.spot.Spot.TheVariants.{LogWord, LinkWord, BlockWord, BlockLink}
use Rattle.table_words.specs.Places.{part_words}

-- word j of part i, for a descriptor with these blocks: the descriptor has part 0
abbrev pub part_spot : ℕ → List ℕ → ℕ → ℕ → Spot
part_spot d blocks zero j = LogWord d j
part_spot d blocks (suc i) j = BlockWord (slice_index blocks i) j

-- the link behind part i
abbrev pub link_spot : ℕ → List ℕ → ℕ → Spot
link_spot d blocks zero = LinkWord d
link_spot d blocks (suc i) = BlockLink (slice_index blocks i)

-- where log word k stands
abbrev pub log_spot : ℕ → List ℕ → ℕ → Spot
log_spot d blocks k = part_spot d blocks (k / part_words) (k % part_words)

-- how many log words the descriptor and its blocks have room for
abbrev pub room : List ℕ → ℕ
room blocks = part_words * (length blocks + 1)

-- a log goes on in at most so many blocks
abbrev pub most_blocks : ℕ
most_blocks = 8

-- how many blocks a log of so many words needs
abbrev pub blocks_for : ℕ → ℕ
blocks_for words = (words + (part_words - 1)) / part_words - 1

-- this is one of the blocks
abbrev pub has_block : List ℕ → ℕ → Bool
has_block blocks b = list_any (λ x. x == b) blocks

-- the link of part i: the number of the next block plus one, and 0 behind the last one
abbrev pub link_at : List ℕ → ℕ → ℕ
link_at blocks i = cond (nat_lt i (length blocks)) (slice_index blocks i + 1) 0

-- the descriptor has these blocks, in the order of the links, and its log is this one
pub record HasBlocks (log : ℕ → ℕ) (word : Spot → ℕ) (d : ℕ) (blocks : List ℕ) : Type 0 where
  pub links : (i : ℕ) → i ≤ length blocks → word (link_spot d blocks i) ≡ link_at blocks i
  pub words : (i j : ℕ) → i ≤ length blocks → j < part_words → word (part_spot d blocks i j) ≡ log (part_words * i + j)
  pub rest : (k : ℕ) → room blocks ≤ k → log k ≡ 0
  -- no block is linked twice
  pub once : (i i' : ℕ) → i < length blocks → i' < length blocks → slice_index blocks i ≡ slice_index blocks i' → i ≡ i'

-- a block that may be linked: its words and its link are 0
pub record IsEmpty (word : Spot → ℕ) (b : ℕ) : Type 0 where
  pub words : (j : ℕ) → j < part_words → word (BlockWord b j) ≡ 0
  pub link : word (BlockLink b) ≡ 0

-- no word of this descriptor's log and no link of it stands at this spot
abbrev pub is_apart : ℕ → List ℕ → Spot → Bool
is_apart d blocks (LogWord d' j) = not (d' == d)
is_apart d blocks (LinkWord d') = not (d' == d)
is_apart d blocks (BlockWord b j) = not (has_block blocks b)
is_apart d blocks (BlockLink b) = not (has_block blocks b)
is_apart d blocks _ = true

-- these are the first ones of the blocks
abbrev pub IsPrefix : List ℕ → List ℕ → Type 0
IsPrefix links blocks = take (length links) blocks ≡ links

-- the blocks to which this link leads, at most so many
abbrev pub linked_from : (Spot → ℕ) → ℕ → ℕ → List ℕ
linked_from word zero link = []
linked_from word (suc n) link =
    cond (link == 0) [] ((link - 1) ∷ linked_from word n (word (BlockLink (link - 1))))

-- the blocks of a descriptor, and log word k, read off the words
abbrev pub blocks_in : (Spot → ℕ) → ℕ → List ℕ
blocks_in word d = linked_from word most_blocks (word (LinkWord d))

abbrev pub log_in : (Spot → ℕ) → ℕ → ℕ → ℕ
log_in word d k = cond (nat_lt k (room (blocks_in word d))) (word (log_spot d (blocks_in word d) k)) 0
