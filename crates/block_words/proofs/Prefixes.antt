-- What is found by who knows the first blocks alone.
use Rattle.std.specs.Prelude.{◌/◌, ◌%◌, ◌⊎◌, slice_index, nat_lt}
use Rattle.std.proofs.Common.{◌≡◌, ℕ, zero, suc, ◌+◌, ◌*◌, ◌<◌, ◌≤◌, List, [], ◌∷◌, ◌++◌, length, take, sym, refl, ap, ◌∙◌, inl, inr, arith}
use Rattle.std.proofs.lemmas.Bool.{cases_lt}
use Rattle.std.proofs.lemmas.List.{get_or-take, length-append, length-take}
use Rattle.std.proofs.Math.Seq.{take-length, take-suc}
use Rattle.table_words.specs.small_lemmas.proofs.Numbers.{less_tested, not_less_tested}
use Rattle.table_words.specs.declared.spot.Spot.{Spot}
use Rattle.table_words.specs.declared.spot.Spot.TheVariants.{BlockWord, BlockLink}
use Rattle.table_words.specs.Places.{part_words}
use Rattle.block_words.specs.Blocks.{part_spot, link_spot, log_spot, room, link_at, HasBlocks, IsPrefix}
use Rattle.block_words.proofs.Parts.{taken, left}

module _ (links blocks : List ℕ) (first : IsPrefix links blocks) where
  pub no_more : length links ≤ length blocks
  no_more = let all = ap length first in let most = length-take (length links) blocks in omega (arith, all, most)

  same_block : (i : ℕ) → i < length links → slice_index links i ≡ slice_index blocks i
  same_block i few = ap (λ (xs : List ℕ). slice_index xs i) (sym first) ∙ get_or-take (length links) blocks i 0 few

  same_part : (d i j : ℕ) → i ≤ length links → part_spot d links i j ≡ part_spot d blocks i j
  same_part d zero j few = refl
  same_part d (suc i) j few = ap (λ x. BlockWord x j) (same_block i (omega (arith, few)))

  pub same_spot : (d k : ℕ) → k < room links → log_spot d links k ≡ log_spot d blocks k
  same_spot d k low = same_part d (k / part_words) (k % part_words) (omega (arith, low))

  pub same_link : (d : ℕ) → link_spot d links (length links) ≡ link_spot d blocks (length links)
  same_link d = by (length links) (omega arith)
    where
      by : (i : ℕ) → i ≤ length links → link_spot d links i ≡ link_spot d blocks i
      by zero few = refl
      by (suc i) few = ap BlockLink (same_block i (omega (arith, few)))

  pub log_word : (log : ℕ → ℕ) (word : Spot → ℕ) (d k : ℕ) → HasBlocks log word d blocks → k < room links
      → word (log_spot d links k) ≡ log k
  log_word log word d k has low = ap word (same_spot d k low)
      ∙ (has.words (k / part_words) (k % part_words) (let few = no_more in omega (arith, low, few)) (omega arith) ∙ ap log whole)
    where
      whole : part_words * (k / part_words) + k % part_words ≡ k
      whole = omega arith

  pub link_word : (log : ℕ → ℕ) (word : Spot → ℕ) (d : ℕ) → HasBlocks log word d blocks
      → word (link_spot d links (length links)) ≡ link_at blocks (length links)
  link_word log word d has = ap word (same_link d) ∙ has.links (length links) no_more

  pub last : link_at blocks (length links) ≡ 0 → links ≡ blocks
  last none = by (cases_lt (length links) (length blocks))
    where
      by : (length links < length blocks) ⊎ (length blocks ≤ length links) → links ≡ blocks
      by (inl more) =
          let next = sym (taken (nat_lt (length links) (length blocks)) (slice_index blocks (length links) + 1) 0 (less_tested _ _ more)) ∙ none in
          absurd (omega (arith, next))
      by (inr all) = sym first ∙ (ap (λ i. take i blocks) (let few = no_more in omega (arith, all, few)) ∙ take-length blocks)

  pub next : (b : ℕ) → link_at blocks (length links) ≡ suc b → IsPrefix (links ++ b ∷ []) blocks
  next b some = by (cases_lt (length links) (length blocks))
    where
      by : (length links < length blocks) ⊎ (length blocks ≤ length links) → IsPrefix (links ++ b ∷ []) blocks
      by (inl more) =
          let number = sym (taken (nat_lt (length links) (length blocks)) (slice_index blocks (length links) + 1) 0 (less_tested _ _ more)) ∙ some in
          let is : slice_index blocks (length links) ≡ b = omega (arith, number) in
          ap (λ i. take i blocks) (length-append links (b ∷ []) ∙ one_more)
          ∙ (take-suc blocks (length links) 0 more ∙ (ap (λ xs. xs ++ slice_index blocks (length links) ∷ []) first
          ∙ ap (λ x. links ++ x ∷ []) is))
        where
          one_more : length links + 1 ≡ suc (length links)
          one_more = omega arith
      by (inr all) =
          let none = sym (left (nat_lt (length links) (length blocks)) (slice_index blocks (length links) + 1) 0 (not_less_tested _ _ all)) ∙ some in
          absurd (omega (arith, none))
