-- The word of a log is found along its links.
use Rattle.std.specs.Prelude.{◌==◌, ◌&&◌, ◌-◌, ◌/◌, ◌%◌, cond, slice_index, nat_lt, Bool, true, false}
use Rattle.std.proofs.Common.{◌≡◌, ℕ, zero, suc, ◌+◌, ◌*◌, ◌<◌, ◌≤◌, List, [], ◌∷◌, length, refl, sym, ap, ◌∙◌, arith}
use Rattle.std.proofs.lemmas.Bool.Decides.{nat_tests}
use Rattle.machine_states.specs.epoch_core.specs.small_lemmas.proofs.Numbers.{tested_equal, less_tested, not_less_tested}
use Rattle.machine_states.specs.table_words.specs.declared.sizes.Sizes.{Sizes}
use Rattle.machine_states.specs.table_words.specs.declared.spot.Spot.{Spot}
use Rattle.machine_states.specs.table_words.specs.declared.spot.Spot.TheVariants.{LogWord, LinkWord, BlockWord, BlockLink}
use Rattle.machine_states.specs.table_words.specs.Places.{part_words, Fits, fits}
use Rattle.machine_states.specs.table_words.proofs.Seen.{fits_means}
use Rattle.machine_states.specs.table_words.specs.Seen.{blank, seen}
use Rattle.machine_states.specs.body_terms.specs.block_words.specs.Blocks.{part_spot, room, most_blocks, linked_from, blocks_in, log_in}
use Rattle.machine_states.specs.body_terms.specs.block_words.proofs.Parts.{taken, left}
use Rattle.interleave_core.specs.Logs.{link_behind, word_behind, link_after}

-- a word that the table has, by its test
pub there : (s : Sizes) (spot : Spot) → fits s spot ≡ true → Fits s spot
there = fits_means

-- where the table has no such word, it is blank
pub unseen : (s : Sizes) (words : List ℕ) (spot : Spot) → blank spot ≡ 0 → fits s spot ≡ false → 0 ≡ seen s words spot
unseen s words spot none off = sym (left (fits s spot) _ (blank spot) off ∙ none)

-- nor has it one of a block behind its last
pub no_link : (s : Sizes) (words : List ℕ) (link : ℕ) → s.blocks < link → 0 ≡ link_behind (seen s words) link
no_link s words link far = by (link == 0)
  where
    by : (b : Bool) → 0 ≡ cond b 0 (seen s words (BlockLink (link - 1)))
    by true = refl
    by false = unseen s words (BlockLink (link - 1)) refl (not_less_tested (link - 1) s.blocks (omega (arith, far)))

pub no_word : (s : Sizes) (words : List ℕ) (link j : ℕ) → s.blocks < link → 0 ≡ word_behind (seen s words) link j
no_word s words link j far = by (link == 0)
  where
    off : (b : Bool) → nat_lt (link - 1) s.blocks ≡ b → b ≡ false → fits s (BlockWord (link - 1) j) ≡ false
    off b is none = ap (λ c. c && nat_lt j part_words) (is ∙ none)

    by : (b : Bool) → 0 ≡ cond b 0 (seen s words (BlockWord (link - 1) j))
    by true = refl
    by false = unseen s words (BlockWord (link - 1) j) refl (off (nat_lt (link - 1) s.blocks) refl (not_less_tested (link - 1) s.blocks (omega (arith, far))))

module _ (word : Spot → ℕ) where
  -- the links may be followed from the front too
  from_front : (i link : ℕ) → link_after word i (link_behind word link) ≡ link_after word (suc i) link
  from_front zero link = refl
  from_front (suc i) link = ap (link_behind word) (from_front i link)

  -- behind the last part there is none
  none_after : (i : ℕ) → link_after word i 0 ≡ 0
  none_after zero = refl
  none_after (suc i) = ap (link_behind word) (none_after i)

  few_linked : (n link : ℕ) → length (linked_from word n link) ≤ n
  few_linked zero link = omega arith
  few_linked (suc n) link = by (few_linked n (word (BlockLink (link - 1)))) (link == 0)
    where
      by : length (linked_from word n (word (BlockLink (link - 1)))) ≤ n → (b : Bool)
          → length (cond b [] ((link - 1) ∷ linked_from word n (word (BlockLink (link - 1))))) ≤ suc n
      by rest true = omega arith
      by rest false = omega (arith, rest)

  -- what is read of a list of blocks at one place
  abbrev read_at : List ℕ → ℕ → ℕ → ℕ
  read_at blocks i j = cond (nat_lt i (length blocks)) (word (BlockWord (slice_index blocks i) j)) 0

  read_next : (b i j : ℕ) (blocks : List ℕ) → read_at (b ∷ blocks) (suc i) j ≡ read_at blocks i j
  read_next b i j blocks = ap (λ (t : Bool). cond t (word (BlockWord (slice_index blocks i) j)) 0) same
    where
      same : nat_lt (suc i) (suc (length blocks)) ≡ nat_lt i (length blocks)
      same = grind (arith, nat_tests)

  -- what is read of the blocks to which a link leads is found along the links
  abbrev IsFound : ℕ → ℕ → ℕ → Type 0
  IsFound n link j = (i : ℕ) → i < n → read_at (linked_from word n link) i j ≡ word_behind word (link_after word i link) j

  found_next : (n link j : ℕ) → IsFound n (word (BlockLink (link - 1))) j → (link == 0) ≡ false → (i : ℕ) → i < suc n
      → read_at ((link - 1) ∷ linked_from word n (word (BlockLink (link - 1)))) i j ≡ word_behind word (link_after word i link) j
  found_next n link j next some zero low =
      taken (nat_lt 0 (length ((link - 1) ∷ linked_from word n (word (BlockLink (link - 1)))))) _ 0 (less_tested 0 _ (omega arith)) ∙ sym (left (link == 0) 0 _ some)
  found_next n link j next some (suc i) low =
      read_next (link - 1) i j (linked_from word n (word (BlockLink (link - 1))))
      ∙ (next i (omega (arith, low))
      ∙ (ap (λ x. word_behind word (link_after word i x) j) (sym (left (link == 0) 0 _ some))
      ∙ ap (λ x. word_behind word x j) (from_front i link)))

  linked : (n link j : ℕ) → IsFound n link j
  linked zero link j i low = absurd (omega (arith, low))
  linked (suc n) link j i low = by (linked n (word (BlockLink (link - 1))) j) (link == 0) refl
    where
      by : IsFound n (word (BlockLink (link - 1))) j → (b : Bool) → (link == 0) ≡ b
          → read_at (cond b [] ((link - 1) ∷ linked_from word n (word (BlockLink (link - 1))))) i j ≡ word_behind word (link_after word i link) j
      by next true e = left (nat_lt i 0) _ 0 (not_less_tested i 0 (omega arith))
          ∙ sym (ap (λ x. word_behind word x j) (ap (link_after word i) (tested_equal link 0 e) ∙ none_after i))
      by next false e = found_next n link j next e i low

  module _ (d k : ℕ) where
    abbrev blocks : List ℕ
    blocks = blocks_in word d

    -- in the descriptor
    pub own_word : k / part_words ≡ 0 → log_in word d k ≡ word (LogWord d (k % part_words))
    own_word first = taken (nat_lt k (room blocks)) _ 0 (less_tested k (room blocks) (omega (arith, first)))
        ∙ ap (λ p. word (part_spot d blocks p (k % part_words))) first

    -- in a block
    pub block_word : (i : ℕ) → k / part_words ≡ suc i → i < most_blocks
        → log_in word d k ≡ word_behind word (link_after word i (word (LinkWord d))) (k % part_words)
    block_word i part low =
        ap (λ (t : Bool). cond t (word (part_spot d blocks (k / part_words) (k % part_words))) 0) (same (length blocks))
        ∙ (ap (λ p. cond (nat_lt i (length blocks)) (word (part_spot d blocks p (k % part_words))) 0) part
        ∙ linked most_blocks (word (LinkWord d)) (k % part_words) i low)
      where
        same : (n : ℕ) → nat_lt k (part_words * (n + 1)) ≡ nat_lt i n
        same n = grind (arith, nat_tests, part)

    -- and behind the most that are linked nothing stands
    pub no_part : most_blocks < k / part_words → log_in word d k ≡ 0
    no_part far =
        let few = few_linked most_blocks (word (LinkWord d)) in
        left (nat_lt k (room blocks)) _ 0 (not_less_tested k (room blocks) (omega (arith, few, far)))
