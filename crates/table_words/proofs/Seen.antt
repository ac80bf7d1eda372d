-- A changed list of words, seen by what its words are.
use Rattle.std.specs.Prelude.{◌==◌, ◌&&◌, ◌-◌, ◌/◌, ◌%◌, cond, slice_index, slice_set, nat_lt, nat_le, Bool, true, false}
use Rattle.std.proofs.Common.{◌≡◌, ◌≢◌, ℕ, ◌+◌, ◌*◌, ◌<◌, ◌≤◌, List, length, sym, refl, ap, ◌∙◌, subst, arith}
use Rattle.std.proofs.lemmas.Bool.Decides.{nat_tests}
use Rattle.std.proofs.lemmas.List.{get_or-set_same, get_or-set_other}
use mathlib.Core.Path.{fun_ext}
use Rattle.small_lemmas.proofs.Bools.{both_of, both_hold, from_both}
use Rattle.small_lemmas.proofs.Numbers.{tested_equal, self_tested, other_tested, tested_other, tested_less, less_tested, not_less_tested, tested_most}
use Rattle.table_words.specs.declared.sizes.Sizes.{Sizes}
use Rattle.table_words.specs.declared.spot.Spot.{Spot}
use Rattle.table_words.specs.declared.spot.Spot.TheVariants.{Seat, Epoch, Clock, Announcement, Guard, Stamp, Reply, Cell, ThunkWord, DoneWord, LogWord, LinkWord, BlockWord, BlockLink, Board}
use Rattle.table_words.specs.Places.{part_words, descriptor_words, block_words, entries_at, cells_at, descriptor_at, block_at, board_at, size, address, Fits, fits}
use Rattle.table_words.specs.Seen.{blank, seen, put}

is_most : (a b : ℕ) → a ≤ b → nat_le a b ≡ true
is_most a b h = grind (arith, nat_tests)

both_less : (a b c d : ℕ) → (nat_lt a b && nat_lt c d) ≡ true → (a < b) × (c < d)
both_less a b c d e = let x = both_of (nat_lt a b) (nat_lt c d) e in (tested_less a b x.0, tested_less c d x.1)

both_tested : (a b c d : ℕ) → (a < b) × (c < d) → (nat_lt a b && nat_lt c d) ≡ true
both_tested a b c d h = both_hold (nat_lt a b) (nat_lt c d) (less_tested a b h.0) (less_tested c d h.1)

-- a word that the table has stands within it
pub within : (s : Sizes) (a : Spot) → Fits s a → address s a < size s
within s Seat h = omega arith
within s Epoch h = omega arith
within s Clock h = omega arith
within s (Announcement r) h = omega arith
within s (Guard r) h = omega arith
within s (Stamp q) h = omega arith
within s (Reply q) h = omega arith
within s (Cell p) h = omega arith
within s (ThunkWord d j) h = let a = h.0 in let b = h.1 in omega arith
within s (DoneWord d) h = omega arith
within s (LogWord d k) h = let a = h.0 in let b = h.1 in omega arith
within s (LinkWord d) h = omega arith
within s (BlockWord b k) h = let x = h.0 in let y = h.1 in omega arith
within s (BlockLink b) h = omega arith
within s (Board i) h = omega arith

-- the test says what it says
pub fits_means : (s : Sizes) (a : Spot) → fits s a ≡ true → Fits s a
fits_means s Seat h = tt
fits_means s Epoch h = tt
fits_means s Clock h = tt
fits_means s (Announcement r) h = tested_most _ _ h
fits_means s (Guard r) h = tested_most _ _ h
fits_means s (Stamp q) h = tested_less _ _ h
fits_means s (Reply q) h = tested_less _ _ h
fits_means s (Cell p) h = tested_less _ _ h
fits_means s (ThunkWord d j) h = both_less _ _ _ _ h
fits_means s (DoneWord d) h = tested_less _ _ h
fits_means s (LogWord d k) h = both_less _ _ _ _ h
fits_means s (LinkWord d) h = tested_less _ _ h
fits_means s (BlockWord b k) h = both_less _ _ _ _ h
fits_means s (BlockLink b) h = tested_less _ _ h
fits_means s (Board i) h = tested_less _ _ h

pub fits_is : (s : Sizes) (a : Spot) → Fits s a → fits s a ≡ true
fits_is s Seat h = refl
fits_is s Epoch h = refl
fits_is s Clock h = refl
fits_is s (Announcement r) h = is_most _ _ h
fits_is s (Guard r) h = is_most _ _ h
fits_is s (Stamp q) h = less_tested _ _ h
fits_is s (Reply q) h = less_tested _ _ h
fits_is s (Cell p) h = less_tested _ _ h
fits_is s (ThunkWord d j) h = both_tested _ _ _ _ h
fits_is s (DoneWord d) h = less_tested _ _ h
fits_is s (LogWord d k) h = both_tested _ _ _ _ h
fits_is s (LinkWord d) h = less_tested _ _ h
fits_is s (BlockWord b k) h = both_tested _ _ _ _ h
fits_is s (BlockLink b) h = less_tested _ _ h
fits_is s (Board i) h = less_tested _ _ h

-- what is seen at a word that the table has is what stands there
pub seen_here : (s : Sizes) (words : List ℕ) (a : Spot) → Fits s a → seen s words a ≡ slice_index words (address s a)
seen_here s words a h = ap (λ b. cond b (slice_index words (address s a)) (blank a)) (fits_is s a h)

-- An address is read back to the spot that stands there, so two spots of a table have two addresses.

-- the words of the table's beginning, of requests, of descriptors and of blocks, by their numbers there
abbrev low_spot : Sizes → ℕ → Spot
low_spot s n = cond (nat_lt n 16) Seat (cond (nat_lt n 32) Epoch (cond (nat_lt n 48) Clock
    (cond (nat_lt n (16 * (4 + s.runners))) (Announcement (n / 16 - 3)) (Guard (n / 16 - (4 + s.runners))))))

abbrev entry_at : ℕ → ℕ → Spot
entry_at q n = cond (n == 0) (Stamp q) (Reply q)

abbrev descriptor_part : ℕ → ℕ → Spot
descriptor_part d n = cond (nat_lt n 12) (ThunkWord d n) (cond (nat_lt n 13) (DoneWord d)
    (cond (nat_lt n (13 + part_words)) (LogWord d (n - 13)) (LinkWord d)))

abbrev block_part : ℕ → ℕ → Spot
block_part b n = cond (nat_lt n part_words) (BlockWord b n) (BlockLink b)

abbrev spot_at : Sizes → ℕ → Spot
spot_at s n = cond (nat_lt n (entries_at s)) (low_spot s n)
    (cond (nat_lt n (cells_at s)) (entry_at ((n - entries_at s) / 2) ((n - entries_at s) % 2))
    (cond (nat_lt n (descriptor_at s 0)) (Cell (n - cells_at s))
    (cond (nat_lt n (block_at s 0))
    (descriptor_part ((n - descriptor_at s 0) / descriptor_words) ((n - descriptor_at s 0) % descriptor_words))
    (cond (nat_lt n (board_at s)) (block_part ((n - block_at s 0) / block_words) ((n - block_at s 0) % block_words))
    (Board (n - board_at s))))))

module _ (x y : Spot) (n k : ℕ) where
  before : n < k → cond (nat_lt n k) x y ≡ x
  before h = ap (λ b. cond b x y) (less_tested n k h)

  behind : k ≤ n → cond (nat_lt n k) x y ≡ y
  behind h = ap (λ b. cond b x y) (not_less_tested n k h)

two_same : (f : ℕ → ℕ → Spot) (a b a' b' : ℕ) → a ≡ a' → b ≡ b' → f a b ≡ f a' b'
two_same f a b a' b' same same' = ap (λ x. f x b) same ∙ ap (f a') same'

module _ (s : Sizes) where
  -- the groups of words, one behind the other
  in_low : (n : ℕ) → n < entries_at s → spot_at s n ≡ low_spot s n
  in_low n h = before _ _ n (entries_at s) h

  in_entries : (n q i : ℕ) → n ≡ entries_at s + 2 * q + i → i < 2 → q < s.requests → spot_at s n ≡ entry_at q i
  in_entries n q i e few less = behind _ _ n (entries_at s) (omega (arith, e)) ∙ before _ _ n (cells_at s) (omega (arith, e, few, less))
      ∙ two_same entry_at _ _ _ _ (omega (arith, e, few)) (omega (arith, e, few))

  in_cells : (n p : ℕ) → n ≡ cells_at s + p → p < s.cells → spot_at s n ≡ Cell p
  in_cells n p e less = behind _ _ n (entries_at s) (omega (arith, e)) ∙ behind _ _ n (cells_at s) (omega (arith, e))
      ∙ before _ _ n (descriptor_at s 0) (omega (arith, e, less)) ∙ ap Cell (omega (arith, e))

  in_descriptors : (n d i : ℕ) → n ≡ descriptor_at s d + i → i < descriptor_words → d < s.descriptors → spot_at s n ≡ descriptor_part d i
  in_descriptors n d i e few less = behind _ _ n (entries_at s) (omega (arith, e)) ∙ behind _ _ n (cells_at s) (omega (arith, e))
      ∙ behind _ _ n (descriptor_at s 0) (omega (arith, e)) ∙ before _ _ n (block_at s 0) (omega (arith, e, few, less))
      ∙ two_same descriptor_part ((n - descriptor_at s 0) / descriptor_words) ((n - descriptor_at s 0) % descriptor_words) d i
      (omega (arith, e, few)) (omega (arith, e, few))

  in_blocks : (n b i : ℕ) → n ≡ block_at s b + i → i < block_words → b < s.blocks → spot_at s n ≡ block_part b i
  in_blocks n b i e few less = behind _ _ n (entries_at s) (omega (arith, e)) ∙ behind _ _ n (cells_at s) (omega (arith, e))
      ∙ behind _ _ n (descriptor_at s 0) (omega (arith, e)) ∙ behind _ _ n (block_at s 0) (omega (arith, e))
      ∙ before _ _ n (board_at s) (omega (arith, e, few, less))
      ∙ two_same block_part _ _ _ _ (omega (arith, e, few)) (omega (arith, e, few))

  in_board : (n i : ℕ) → n ≡ board_at s + i → spot_at s n ≡ Board i
  in_board n i e = behind _ _ n (entries_at s) (omega (arith, e)) ∙ behind _ _ n (cells_at s) (omega (arith, e))
      ∙ behind _ _ n (descriptor_at s 0) (omega (arith, e)) ∙ behind _ _ n (block_at s 0) (omega (arith, e))
      ∙ behind _ _ n (board_at s) (omega (arith, e)) ∙ ap Board (omega (arith, e))

  read_back : (a : Spot) → Fits s a → spot_at s (address s a) ≡ a
  read_back Seat h = in_low 0 (omega arith)
  read_back Epoch h = in_low 16 (omega arith)
  read_back Clock h = in_low 32 (omega arith)
  read_back (Announcement r) h = let n : ℕ = 16 * (3 + r) in in_low n (omega arith)
      ∙ behind _ _ n 16 (omega arith) ∙ behind _ _ n 32 (omega arith) ∙ behind _ _ n 48 (omega arith)
      ∙ before _ _ n (16 * (4 + s.runners)) (omega arith) ∙ ap Announcement (omega arith)
  read_back (Guard r) h = let n : ℕ = 16 * (4 + s.runners + r) in in_low n (omega arith)
      ∙ behind _ _ n 16 (omega arith) ∙ behind _ _ n 32 (omega arith) ∙ behind _ _ n 48 (omega arith)
      ∙ behind _ _ n (16 * (4 + s.runners)) (omega arith) ∙ ap Guard (omega arith)
  read_back (Stamp q) h = in_entries _ q 0 (omega arith) (omega arith) h
  read_back (Reply q) h = in_entries _ q 1 (omega arith) (omega arith) h
  read_back (Cell p) h = in_cells _ p refl h
  read_back (ThunkWord d j) h = in_descriptors _ d j refl (let x = h.1 in omega arith) h.0 ∙ before _ _ j 12 h.1
  read_back (DoneWord d) h = in_descriptors _ d 12 refl (omega arith) h
  read_back (LogWord d k) h = in_descriptors _ d (13 + k) (omega arith) (let x = h.1 in omega arith) h.0
      ∙ behind _ _ (13 + k) 12 (omega arith) ∙ behind _ _ (13 + k) 13 (omega arith)
      ∙ before _ _ (13 + k) (13 + part_words) (let x = h.1 in omega arith) ∙ ap (LogWord d) (omega arith)
  read_back (LinkWord d) h = in_descriptors _ d (13 + part_words) (omega arith) (omega arith) h
  read_back (BlockWord b k) h = in_blocks _ b k refl (let x = h.1 in omega arith) h.0 ∙ before _ _ k part_words h.1
  read_back (BlockLink b) h = in_blocks _ b part_words refl (omega arith) h
  read_back (Board i) h = in_board _ i refl

  one_spot : (a b : Spot) → Fits s a → Fits s b → address s a ≡ address s b → a ≡ b
  one_spot a b h h' e = sym (read_back a h) ∙ ap (spot_at s) e ∙ read_back b h'

-- where the numbers of two spots of one form are the same, or aren't
module _ (v x i j : ℕ) where
  same_number : cond (i == i) v x ≡ v
  same_number = ap (λ b. cond b v x) (self_tested i)

  other_number : i ≢ j → cond (i == j) v x ≡ x
  other_number ne = ap (λ b. cond b v x) (other_tested i j ne)

same_numbers : (v x i j : ℕ) → cond (i == i) (cond (j == j) v x) x ≡ v
same_numbers v x i j = same_number (cond (j == j) v x) x i 0 ∙ same_number v x j 0

other_numbers : (v x i i' j j' : ℕ) → (i ≡ i' → j ≡ j' → ⊥) → cond (i == i') (cond (j == j') v x) x ≡ x
other_numbers v x i i' j j' ne = by (i == i') (j == j') refl refl
  where
    by : (b b' : Bool) → i == i' ≡ b → j == j' ≡ b' → cond b (cond b' v x) x ≡ x
    by false b' e e' = refl
    by true false e e' = refl
    by true true e e' = absurd (ne (tested_equal i i' e) (tested_equal j j' e'))

-- what is put at a spot stands there
pub put_here : (f : Spot → ℕ) (a : Spot) (v : ℕ) → put f a v a ≡ v
put_here f Seat v = refl
put_here f Epoch v = refl
put_here f Clock v = refl
put_here f (Announcement r) v = same_number v _ r 0
put_here f (Guard r) v = same_number v _ r 0
put_here f (Stamp q) v = same_number v _ q 0
put_here f (Reply q) v = same_number v _ q 0
put_here f (Cell p) v = same_number v _ p 0
put_here f (ThunkWord d j) v = same_numbers v _ d j
put_here f (DoneWord d) v = same_number v _ d 0
put_here f (LogWord d k) v = same_numbers v _ d k
put_here f (LinkWord d) v = same_number v _ d 0
put_here f (BlockWord b k) v = same_numbers v _ b k
put_here f (BlockLink b) v = same_number v _ b 0
put_here f (Board i) v = same_number v _ i 0

-- and changes nothing at another one
pub put_elsewhere : (f : Spot → ℕ) (a : Spot) (v : ℕ) (b : Spot) → b ≢ a → put f a v b ≡ f b
put_elsewhere f Seat v Seat ne = absurd (ne refl)
put_elsewhere f Seat v b ne = refl
put_elsewhere f Epoch v Epoch ne = absurd (ne refl)
put_elsewhere f Epoch v b ne = refl
put_elsewhere f Clock v Clock ne = absurd (ne refl)
put_elsewhere f Clock v b ne = refl
put_elsewhere f (Announcement r) v (Announcement r') ne = other_number v _ r' r (λ e. ne (ap Announcement e))
put_elsewhere f (Announcement r) v b ne = refl
put_elsewhere f (Guard r) v (Guard r') ne = other_number v _ r' r (λ e. ne (ap Guard e))
put_elsewhere f (Guard r) v b ne = refl
put_elsewhere f (Stamp q) v (Stamp q') ne = other_number v _ q' q (λ e. ne (ap Stamp e))
put_elsewhere f (Stamp q) v b ne = refl
put_elsewhere f (Reply q) v (Reply q') ne = other_number v _ q' q (λ e. ne (ap Reply e))
put_elsewhere f (Reply q) v b ne = refl
put_elsewhere f (Cell p) v (Cell p') ne = other_number v _ p' p (λ e. ne (ap Cell e))
put_elsewhere f (Cell p) v b ne = refl
put_elsewhere f (ThunkWord d j) v (ThunkWord d' j') ne = other_numbers v _ d' d j' j (λ e e'. ne (two_same ThunkWord _ _ _ _ e e'))
put_elsewhere f (ThunkWord d j) v b ne = refl
put_elsewhere f (DoneWord d) v (DoneWord d') ne = other_number v _ d' d (λ e. ne (ap DoneWord e))
put_elsewhere f (DoneWord d) v b ne = refl
put_elsewhere f (LogWord d k) v (LogWord d' k') ne = other_numbers v _ d' d k' k (λ e e'. ne (two_same LogWord _ _ _ _ e e'))
put_elsewhere f (LogWord d k) v b ne = refl
put_elsewhere f (LinkWord d) v (LinkWord d') ne = other_number v _ d' d (λ e. ne (ap LinkWord e))
put_elsewhere f (LinkWord d) v b ne = refl
put_elsewhere f (BlockWord b k) v (BlockWord b' k') ne = other_numbers v _ b' b k' k (λ e e'. ne (two_same BlockWord _ _ _ _ e e'))
put_elsewhere f (BlockWord b k) v a ne = refl
put_elsewhere f (BlockLink b) v (BlockLink b') ne = other_number v _ b' b (λ e. ne (ap BlockLink e))
put_elsewhere f (BlockLink b) v a ne = refl
put_elsewhere f (Board i) v (Board i') ne = other_number v _ i' i (λ e. ne (ap Board e))
put_elsewhere f (Board i) v b ne = refl

module _ (s : Sizes) (words : List ℕ) (v : ℕ) (room : size s ≤ length words) where
  inside : (a : Spot) → Fits s a → address s a < length words
  inside a h = let w = within s a h in omega arith

  -- where the table has no word at a spot, that isn't where the write was
  unseen : (a b : Spot) → Fits s a → fits s b ≡ false → b ≢ a
  unseen a b h lacks same = from_both (fits s a) (fits_is s a h) (ap (fits s) (sym same) ∙ lacks)

  -- a write at one spot is seen there, and nowhere else
  pub seen_set : (a b : Spot) → Fits s a → seen s (slice_set words (address s a) v) b ≡ put (seen s words) a v b
  seen_set a b h = by (fits s b) (address s b == address s a) refl refl
    where
      by : (ok same : Bool) → fits s b ≡ ok → address s b == address s a ≡ same
          → seen s (slice_set words (address s a) v) b ≡ put (seen s words) a v b
      by false same lacks e = ap (λ x. cond x (slice_index (slice_set words (address s a) v) (address s b)) (blank b)) lacks
          ∙ sym (ap (λ x. cond x (slice_index words (address s b)) (blank b)) lacks)
          ∙ sym (put_elsewhere (seen s words) a v b (unseen a b h lacks))
      by true true has e = subst (λ c. seen s (slice_set words (address s a) v) c ≡ put (seen s words) a v c)
          (sym (one_spot s b a (fits_means s b has) h (tested_equal _ _ e)))
          (seen_here s _ a h ∙ get_or-set_same words (address s a) v 0 (inside a h) ∙ sym (put_here (seen s words) a v))
      by true false has e = seen_here s _ b (fits_means s b has)
          ∙ get_or-set_other words (address s a) (address s b) v 0 (tested_other _ _ e)
          ∙ sym (seen_here s words b (fits_means s b has))
          ∙ sym (put_elsewhere (seen s words) a v b (λ same. tested_other _ _ e (ap (address s) same)))

  -- the words after a write, whole
  pub seen_put : (a : Spot) → Fits s a → seen s (slice_set words (address s a) v) ≡ put (seen s words) a v
  seen_put a h = fun_ext (λ b. seen_set a b h)
