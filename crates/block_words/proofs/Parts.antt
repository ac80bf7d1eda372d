-- A link, a commit, and a write elsewhere, for a descriptor with its blocks.
use Rattle.std.specs.Prelude.{◌==◌, ◌/◌, ◌%◌, ◌⊎◌, cond, not, slice_index, nat_lt, Bool, true, false}
use Rattle.std.proofs.Common.{◌≡◌, ◌≢◌, ℕ, zero, suc, ◌+◌, ◌*◌, ◌<◌, ◌≤◌, List, [], ◌∷◌, ◌++◌, length, sym, refl, ap, ◌∙◌, inl, inr, arith}
use Rattle.std.proofs.lemmas.Bool.{cases_eq, cases_lt}
use Rattle.std.proofs.lemmas.List.{get_or_append_left, get_or_push, length-append}
use Rattle.std.proofs.lemmas.List.Folds.{list_any_at}
use Rattle.table_words.specs.small_lemmas.proofs.Bools.{not_both}
use Rattle.table_words.specs.small_lemmas.proofs.Numbers.{self_tested, equal_tested, other_tested, less_tested, not_less_tested}
use Rattle.table_words.specs.declared.spot.Spot.{Spot}
use Rattle.table_words.specs.declared.spot.Spot.TheVariants.{LogWord, LinkWord, BlockWord, BlockLink}
use Rattle.table_words.specs.Places.{part_words}
use Rattle.table_words.specs.Seen.{put, upd}
use Rattle.table_words.proofs.Seen.{put_here, put_elsewhere}
use Rattle.block_words.specs.Blocks.{part_spot, link_spot, log_spot, room, has_block, link_at, HasBlocks, IsEmpty, is_apart}

-- what a choice is where its test is known
pub taken : {A : Type 0} (t : Bool) (x y : A) → t ≡ true → cond t x y ≡ x
taken t x y e = ap (λ b. cond b x y) e

pub left : {A : Type 0} (t : Bool) (x y : A) → t ≡ false → cond t x y ≡ y
left t x y e = ap (λ b. cond b x y) e

-- a block of the list is found there
pub found_block : (blocks : List ℕ) (i b : ℕ) → i < length blocks → slice_index blocks i ≡ b → has_block blocks b ≡ true
found_block blocks i b few e = list_any_at (λ x. x == b) blocks i 0 few (equal_tested _ _ e)

-- one that isn't found is none of them
pub unlinked : (blocks : List ℕ) (i b : ℕ) → has_block blocks b ≡ false → i < length blocks → slice_index blocks i ≢ b
unlinked blocks i b new few e = not_both (found_block blocks i b few e) new

-- which words of logs stand at one spot
module _ (d : ℕ) (blocks : List ℕ) where
  abbrev IsOnce : Type 0
  IsOnce = (i i' : ℕ) → i < length blocks → i' < length blocks → slice_index blocks i ≡ slice_index blocks i' → i ≡ i'

  link_is_no_part : (i i' j : ℕ) → part_spot d blocks i' j ≢ link_spot d blocks i
  link_is_no_part zero zero j e = absurd (let x = e in cc)
  link_is_no_part zero (suc i') j e = absurd (let x = e in cc)
  link_is_no_part (suc i) zero j e = absurd (let x = e in cc)
  link_is_no_part (suc i) (suc i') j e = absurd (let x = e in cc)

  one_word : (i i' j j' : ℕ) → part_spot d blocks i j ≡ part_spot d blocks i' j' → j ≡ j'
  one_word zero zero j j' e = let x = e in cc
  one_word zero (suc i') j j' e = absurd (let x = e in cc)
  one_word (suc i) zero j j' e = absurd (let x = e in cc)
  one_word (suc i) (suc i') j j' e = let x = e in cc

  one_part : IsOnce → (i i' j j' : ℕ) → i ≤ length blocks → i' ≤ length blocks
      → part_spot d blocks i j ≡ part_spot d blocks i' j' → i ≡ i'
  one_part once zero zero j j' few few' e = refl
  one_part once zero (suc i') j j' few few' e = absurd (let x = e in cc)
  one_part once (suc i) zero j j' few few' e = absurd (let x = e in cc)
  one_part once (suc i) (suc i') j j' few few' e =
      let same : slice_index blocks i ≡ slice_index blocks i' = let x = e in cc in
      ap suc (once i i' (omega (arith, few)) (omega (arith, few')) same)

  one_link : IsOnce → (i i' : ℕ) → i ≤ length blocks → i' ≤ length blocks → link_spot d blocks i ≡ link_spot d blocks i' → i ≡ i'
  one_link once zero zero few few' e = refl
  one_link once zero (suc i') few few' e = absurd (let x = e in cc)
  one_link once (suc i) zero few few' e = absurd (let x = e in cc)
  one_link once (suc i) (suc i') few few' e =
      let same : slice_index blocks i ≡ slice_index blocks i' = let x = e in cc in
      ap suc (once i i' (omega (arith, few)) (omega (arith, few')) same)

  -- none of them is apart
  part_here : (i j : ℕ) → i ≤ length blocks → is_apart d blocks (part_spot d blocks i j) ≡ false
  part_here zero j few = ap not (self_tested d)
  part_here (suc i) j few = ap not (found_block blocks i _ (omega (arith, few)) refl)

  link_here : (i : ℕ) → i ≤ length blocks → is_apart d blocks (link_spot d blocks i) ≡ false
  link_here zero few = ap not (self_tested d)
  link_here (suc i) few = ap not (found_block blocks i _ (omega (arith, few)) refl)

pub alone : (log : ℕ → ℕ) (word : Spot → ℕ) (d : ℕ) → ((k : ℕ) → log k ≡ 0)
    → ((j : ℕ) → j < part_words → word (LogWord d j) ≡ 0) → word (LinkWord d) ≡ 0 → HasBlocks log word d []
alone log word d empty words link = record {
  links = links;
  words = own;
  rest = λ k h. empty k;
  once = λ i i' few few' e. absurd (omega (arith, few));
}
  where
    links : (i : ℕ) → i ≤ 0 → word (link_spot d [] i) ≡ link_at [] i
    links zero few = link
    links (suc i) few = absurd (omega (arith, few))

    own : (i j : ℕ) → i ≤ 0 → j < part_words → word (part_spot d [] i j) ≡ log (part_words * i + j)
    own zero j few less = words j less ∙ sym (empty (part_words * 0 + j))
    own (suc i) j few less = absurd (omega (arith, few))

pub elsewhere : (log : ℕ → ℕ) (word : Spot → ℕ) (d v : ℕ) (blocks : List ℕ) (a : Spot) → HasBlocks log word d blocks
    → is_apart d blocks a ≡ true → HasBlocks log (put word a v) d blocks
elsewhere log word d v blocks a has apart = record {
  links = λ i few. put_elsewhere word a v _ (λ e. not_both apart (ap (is_apart d blocks) (sym e) ∙ link_here d blocks i few))
      ∙ has.links i few;
  words = λ i j few less. put_elsewhere word a v _ (λ e. not_both apart (ap (is_apart d blocks) (sym e) ∙ part_here d blocks i j few))
      ∙ has.words i j few less;
  rest = has.rest;
  once = has.once;
}

pub committed : (log : ℕ → ℕ) (word : Spot → ℕ) (d k v : ℕ) (blocks : List ℕ) → HasBlocks log word d blocks
    → k < room blocks → HasBlocks (upd log k v) (put word (log_spot d blocks k) v) d blocks
committed log word d k v blocks has low = record {
  links = λ i few. put_elsewhere word _ v _ (λ e. link_is_no_part d blocks i (k / part_words) (k % part_words) (sym e)) ∙ has.links i few;
  words = λ i j few less. by i j few less (cases_eq (part_words * i + j) k);
  rest = λ n high. left (n == k) v (log n) (other_tested n k (λ e. omega (arith, e, high, low))) ∙ has.rest n high;
  once = has.once;
}
  where
    by : (i j : ℕ) → i ≤ length blocks → j < part_words → (part_words * i + j ≡ k) ⊎ (part_words * i + j ≢ k)
        → put word (log_spot d blocks k) v (part_spot d blocks i j) ≡ upd log k v (part_words * i + j)
    by i j few less (inl same) =
        ap (λ n. put word (log_spot d blocks k) v (part_spot d blocks n j)) (part_is i j less same)
        ∙ (ap (λ n. put word (log_spot d blocks k) v (part_spot d blocks (k / part_words) n)) (word_is i j less same)
        ∙ (put_here word (log_spot d blocks k) v ∙ sym (taken (part_words * i + j == k) v _ (equal_tested _ _ same))))
      where
        part_is : (i j : ℕ) → j < part_words → part_words * i + j ≡ k → i ≡ k / part_words
        part_is i j less same = omega (arith, less, same)

        word_is : (i j : ℕ) → j < part_words → part_words * i + j ≡ k → j ≡ k % part_words
        word_is i j less same = omega (arith, less, same)
    by i j few less (inr ne) =
        put_elsewhere word (log_spot d blocks k) v _
        (λ e. let part = one_part d blocks has.once i (k / part_words) j (k % part_words) few (omega (arith, low)) e in
        let own = one_word d blocks i (k / part_words) j (k % part_words) e in ne (omega (arith, part, own)))
        ∙ (has.words i j few less ∙ sym (left (part_words * i + j == k) v _ (other_tested _ _ ne)))

module _ (log : ℕ → ℕ) (word : Spot → ℕ) (d b : ℕ) (blocks : List ℕ) (has : HasBlocks log word d blocks)
    (new : has_block blocks b ≡ false) (empty : IsEmpty word b) where
  abbrev more : List ℕ
  more = blocks ++ b ∷ []

  abbrev n : ℕ
  n = length blocks

  abbrev word' : Spot → ℕ
  word' = put word (link_spot d blocks n) (b + 1)

  longer : length more ≡ n + 1
  longer = length-append blocks (b ∷ [])

  old_block : (i : ℕ) → i < n → slice_index more i ≡ slice_index blocks i
  old_block i few = get_or_append_left blocks (b ∷ []) 0 i few

  new_block : (i : ℕ) → n ≡ i → slice_index more i ≡ b
  new_block i at = get_or_push blocks b 0 i at

  -- what stood in the descriptor and its blocks
  old_part : (i j : ℕ) → i ≤ n → part_spot d more i j ≡ part_spot d blocks i j
  old_part zero j few = refl
  old_part (suc i) j few = ap (λ x. BlockWord x j) (old_block i (omega (arith, few)))

  old_link : (i : ℕ) → i ≤ n → link_spot d more i ≡ link_spot d blocks i
  old_link zero few = refl
  old_link (suc i) few = ap BlockLink (old_block i (omega (arith, few)))

  old_number : (i : ℕ) → i < n → link_at more i ≡ link_at blocks i
  old_number i few = taken (nat_lt i (length more)) _ 0 (less_tested i _ (omega (arith, longer, few)))
      ∙ (ap (λ x. x + 1) (old_block i few) ∙ sym (taken (nat_lt i n) _ 0 (less_tested i n few)))

  -- the new block
  new_part : (i j : ℕ) → n ≡ i → part_spot d more (suc i) j ≡ BlockWord b j
  new_part i j at = ap (λ x. BlockWord x j) (new_block i at)

  new_link : (i : ℕ) → n ≡ i → link_spot d more (suc i) ≡ BlockLink b
  new_link i at = ap BlockLink (new_block i at)

  new_number : link_at more n ≡ b + 1
  new_number = taken (nat_lt n (length more)) _ 0 (less_tested n _ (omega (arith, longer))) ∙ ap (λ x. x + 1) (new_block n refl)

  last_number : (i : ℕ) → n ≡ i → link_at more (suc i) ≡ 0
  last_number i at = left (nat_lt (suc i) (length more)) _ 0 (not_less_tested (suc i) _ (omega (arith, longer, at)))

  -- it isn't where the link is put
  word_apart : (j : ℕ) → BlockWord b j ≢ link_spot d blocks n
  word_apart j e = not_both (ap not new) (ap (is_apart d blocks) e ∙ link_here d blocks n (omega arith))

  link_apart : BlockLink b ≢ link_spot d blocks n
  link_apart e = not_both (ap not new) (ap (is_apart d blocks) e ∙ link_here d blocks n (omega arith))

  by_link : (i : ℕ) → i ≤ length more → (i < n) ⊎ (n ≤ i) → word' (link_spot d more i) ≡ link_at more i
  by_link i few (inl low) = ap word' (old_link i (omega (arith, low)))
      ∙ (put_elsewhere word (link_spot d blocks n) (b + 1) (link_spot d blocks i)
      (λ e. let same = one_link d blocks has.once i n (omega (arith, low)) (omega arith) e in omega (arith, same, low))
      ∙ (has.links i (omega (arith, low)) ∙ sym (old_number i low)))
  by_link i few (inr high) = at (cases_eq n i)
    where
      behind : (k : ℕ) → n ≡ k → i ≡ suc k → word' (link_spot d more i) ≡ link_at more i
      behind k here is = ap (λ x. word' (link_spot d more x)) is
          ∙ (ap word' (new_link k here) ∙ (put_elsewhere word (link_spot d blocks n) (b + 1) (BlockLink b) link_apart
          ∙ (empty.link ∙ (sym (last_number k here) ∙ ap (link_at more) (sym is)))))

      at : (n ≡ i) ⊎ (n ≢ i) → word' (link_spot d more i) ≡ link_at more i
      at (inl here) = ap (λ x. word' (link_spot d more x)) (sym here) ∙ (ap word' (old_link n (omega arith))
          ∙ (put_here word (link_spot d blocks n) (b + 1) ∙ (sym new_number ∙ ap (link_at more) here)))
      at (inr ne) = behind n refl (omega (arith, ne, high, few, longer))

  by_word : (i j : ℕ) → i ≤ length more → j < part_words → (i < n + 1) ⊎ (n + 1 ≤ i)
      → word' (part_spot d more i j) ≡ log (part_words * i + j)
  by_word i j few less (inl low) = ap word' (old_part i j (omega (arith, low)))
      ∙ (put_elsewhere word (link_spot d blocks n) (b + 1) _ (link_is_no_part d blocks n i j) ∙ has.words i j (omega (arith, low)) less)
  by_word i j few less (inr high) = ap (λ x. word' (part_spot d more x j)) is
      ∙ (ap word' (new_part n j refl) ∙ (put_elsewhere word (link_spot d blocks n) (b + 1) (BlockWord b j) (word_apart j)
      ∙ (empty.words j less ∙ sym (has.rest (part_words * i + j) (omega (arith, high))))))
    where
      is : i ≡ suc n
      is = omega (arith, high, few, longer)

  by_once : (i i' : ℕ) → i < length more → i' < length more → slice_index more i ≡ slice_index more i'
      → (i < n) ⊎ (n ≤ i) → (i' < n) ⊎ (n ≤ i') → i ≡ i'
  by_once i i' few few' same (inl x) (inl y) = has.once i i' x y (sym (old_block i x) ∙ (same ∙ old_block i' y))
  by_once i i' few few' same (inl x) (inr y) =
      absurd (unlinked blocks i b new x (sym (old_block i x) ∙ (same ∙ new_block i' (omega (arith, y, few', longer)))))
  by_once i i' few few' same (inr x) (inl y) =
      absurd (unlinked blocks i' b new y (sym (old_block i' y) ∙ (sym same ∙ new_block i (omega (arith, x, few, longer)))))
  by_once i i' few few' same (inr x) (inr y) = omega (arith, x, y, few, few', longer)

  pub linked : HasBlocks log word' d more
  linked = record {
    links = λ i few. by_link i few (cases_lt i n);
    words = λ i j few less. by_word i j few less (cases_lt i (n + 1));
    rest = λ k high. has.rest k (omega (arith, high, longer));
    once = λ i i' few few' same. by_once i i' few few' same (cases_lt i n) (cases_lt i' n);
  }
