-- The pairs of a closed table are the map's.
use Rattle.std.proofs.Common.{◌≡◌, ℕ, zero, suc, ◌<◌, List, [], ◌∷◌, Bool, true, false, cond, refl, sym, ap, ◌∙◌, arith, None}
use Rattle.std.specs.Prelude.{nat_lt, slice_index}
use Rattle.std.specs.FinMap.{get, entries}
use Rattle.runner_parts.specs.structure_laws.specs.map_history.specs.Replay.{Pairs}
use Rattle.runner_parts.specs.structure_laws.specs.Meaning.{Meaning}
use Rattle.runner_parts.specs.block_words.specs.table_words.specs.declared.spot.Spot.TheVariants.{Cell}
use Rattle.key_cells.specs.shared_laws.specs.Listing.{listed}
use Rattle.key_cells.specs.shared_laws.proofs.Listing.{are_entries}
use Rattle.key_cells.specs.shared_laws.proofs.Numbers.{lt_of, lt_true}
use Rattle.key_cells.specs.Keyed.{Keyed, IsKeyed, cell_place}
use Rattle.key_cells.proofs.Places.{cell_there}
use Rattle.lock_walks.specs.version_words.specs.TableState.{WordsState, HasWord, word_of}
use Rattle.lock_walks.specs.try_lock.specs.Contents.{StandFor}
use Rattle.fixed_walks.specs.Keys.{Means, word_at, held_by}

module _ {T : Type 0} (c : Keyed) (is : IsKeyed c) (m : Meaning) (means : Means c m) (words : WordsState T) where
  -- the table has the words of a key's cells
  pub has_word : (key i : ℕ) → key < c.keys → i < c.count → HasWord m words (Cell (cell_place c key i))
  has_word key i low few = let cell = (cell_there c is key i low few).0 in let fixed = means.fixed in omega (arith, cell, fixed)

  module _ (pairs : Pairs) (stand : StandFor m words pairs) where
    -- a key's cells hold what the words say
    same : (key i : ℕ) → key < c.keys → i < c.count → stand.cells (cell_place c key i) ≡ slice_index (word_at c m words key 0 ∷ word_at c m words key 1 ∷ word_at c m words key 2 ∷ []) i
    same key i low few = stand.same (cell_place c key i) (has_word key i low few) ∙ (by i few ∙ at i (let three = is.few in omega (arith, three, few)))
      where
        by : (i : ℕ) → i < c.count → word_of m words (Cell (cell_place c key i)) ≡ word_at c m words key i
        by i few = sym (ap (λ b. cond b (word_of m words (Cell (cell_place c key i))) 0) (lt_true i c.count few))

        at : (i : ℕ) → i < 3 → word_at c m words key i ≡ slice_index (word_at c m words key 0 ∷ word_at c m words key 1 ∷ word_at c m words key 2 ∷ []) i
        at zero low = refl
        at (suc zero) low = refl
        at (suc (suc zero)) low = refl
        at (suc (suc (suc i))) low = absurd (omega (arith, low))

    -- the map has what the words say
    looked : (q : ℕ) → get pairs q ≡ cond (nat_lt q c.keys) (held_by c m words q) None
    looked q = means.stands words.layout stand.cells pairs stand.stands q ∙ by (nat_lt q c.keys) refl
      where
        by : (b : Bool) → nat_lt q c.keys ≡ b → cond b (c.held (λ i. stand.cells (cell_place c q i))) None ≡ cond b (held_by c m words q) None
        by true e = is.looks (λ i. stand.cells (cell_place c q i)) _ (λ i few. same q i (lt_of q c.keys e) few)
        by false e = refl

    pub the_maps : (items : List (ℕ × ℕ)) → items ≡ listed (held_by c m words) 0 c.keys → items ≡ entries pairs
    the_maps items are = are ∙ are_entries (held_by c m words) c.keys pairs looked
