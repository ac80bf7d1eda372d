-- Blocks and logs read off the words.
use Rattle.std.specs.Prelude.{◌==◌, ◌-◌, ◌⊎◌, cond, slice_index, nat_lt}
use Rattle.std.proofs.Common.{◌≡◌, ℕ, zero, suc, ◌+◌, ◌<◌, ◌≤◌, List, [], ◌∷◌, length, drop, sym, ap, ◌∙◌, inl, inr, arith}
use Rattle.std.proofs.lemmas.Bool.{cases_lt}
use Rattle.std.proofs.lemmas.List.{drop_more, drop_all}
use Rattle.std.proofs.Math.Seq.{take-length}
use Rattle.table_words.specs.small_lemmas.proofs.Numbers.{less_tested, not_less_tested, other_tested}
use Rattle.table_words.specs.declared.spot.Spot.{Spot}
use Rattle.table_words.specs.declared.spot.Spot.TheVariants.{BlockLink}
use Rattle.block_words.specs.Blocks.{log_spot, room, most_blocks, link_at, HasBlocks, linked_from, blocks_in, log_in}
use Rattle.block_words.proofs.Parts.{taken, left}
use Rattle.block_words.proofs.Prefixes.{log_word}

module _ (log : ℕ → ℕ) (word : Spot → ℕ) (d : ℕ) (blocks : List ℕ) (has : HasBlocks log word d blocks) where
  -- so many steps along the links lead to the blocks that are left
  from : (n i : ℕ) → i ≤ length blocks → length blocks ≤ n + i → linked_from word n (link_at blocks i) ≡ drop i blocks
  from zero i few all = sym (drop_all i blocks (omega (arith, all)))
  from (suc n) i few all = by (λ more. from n (suc i) more (omega (arith, all))) (cases_lt i (length blocks))
    where
      by : (i < length blocks → linked_from word n (link_at blocks (suc i)) ≡ drop (suc i) blocks)
          → (i < length blocks) ⊎ (length blocks ≤ i) → linked_from word (suc n) (link_at blocks i) ≡ drop i blocks
      by next (inr end) = ap (linked_from word (suc n)) (left (nat_lt i (length blocks)) _ 0 (not_less_tested i _ end))
          ∙ sym (drop_all i blocks end)
      by next (inl more) = ap (linked_from word (suc n)) (taken (nat_lt i (length blocks)) _ 0 (less_tested i _ more))
          ∙ (left ((slice_index blocks i + 1) == 0) [] _ (other_tested _ 0 (omega arith))
          ∙ (ap (λ x. x ∷ linked_from word n (word (BlockLink x))) less
          ∙ (ap (λ x. slice_index blocks i ∷ linked_from word n x) (has.links (suc i) more)
          ∙ (ap (λ xs. slice_index blocks i ∷ xs) (next more)
          ∙ (ap (λ k. slice_index blocks i ∷ drop k blocks) one_more ∙ sym (drop_more blocks i 0 more))))))
        where
          less : slice_index blocks i + 1 - 1 ≡ slice_index blocks i
          less = omega arith

          one_more : suc i ≡ i + 1
          one_more = omega arith

  pub read_blocks : length blocks ≤ most_blocks → blocks_in word d ≡ blocks
  read_blocks few = ap (linked_from word most_blocks) (has.links 0 (omega arith)) ∙ from most_blocks 0 (omega arith) (omega (arith, few))

  pub read_log : (k : ℕ) → length blocks ≤ most_blocks → log_in word d k ≡ log k
  read_log k few = ap (λ xs. cond (nat_lt k (room xs)) (word (log_spot d xs k)) 0) (read_blocks few) ∙ by (cases_lt k (room blocks))
    where
      by : (k < room blocks) ⊎ (room blocks ≤ k) → cond (nat_lt k (room blocks)) (word (log_spot d blocks k)) 0 ≡ log k
      by (inl low) = taken (nat_lt k (room blocks)) _ 0 (less_tested k _ low)
          ∙ log_word blocks blocks (take-length blocks) log word d k has low
      by (inr high) = left (nat_lt k (room blocks)) _ 0 (not_less_tested k _ high) ∙ sym (has.rest k high)
