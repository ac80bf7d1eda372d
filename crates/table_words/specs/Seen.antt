-- The words as a function of what they are.
use Rattle.std.specs.Prelude.{ℕ, List, ◌==◌, slice_index, cond}
use Rattle.table_words.specs.declared.sizes.Sizes.{Sizes}
use Rattle.table_words.specs.declared.spot.Spot.{Spot}
use Rattle.table_words.specs.declared.spot.Spot.TheVariants.{Seat, Epoch, Clock, Announcement, Guard, Stamp, Reply, Cell, ThunkWord, DoneWord, LogWord, LinkWord, BlockWord, BlockLink, Board}
use Rattle.table_words.specs.Places.{address, fits}

-- a function that is changed at one number
abbrev pub upd : {A : Type 0} → (ℕ → A) → ℕ → A → ℕ → A
upd f k v i = cond (i == k) v (f i)

-- what is seen where the table has no word: a cell's first word, and 0 otherwise
abbrev pub blank : Spot → ℕ
blank Seat = 0
blank Epoch = 0
blank Clock = 0
blank (Announcement r) = 0
blank (Guard r) = 0
blank (Stamp q) = 0
blank (Reply q) = 0
blank (Cell p) = 4294967296
blank (ThunkWord d j) = 0
blank (DoneWord d) = 0
blank (LogWord d k) = 0
blank (LinkWord d) = 0
blank (BlockWord b k) = 0
blank (BlockLink b) = 0
blank (Board i) = 0

-- the word at a spot
abbrev pub seen : Sizes → List ℕ → Spot → ℕ
seen s words a = cond (fits s a) (slice_index words (address s a)) (blank a)

-- the words after the one at a spot has become `v`
abbrev pub put : (Spot → ℕ) → Spot → ℕ → Spot → ℕ
put f Seat v Seat = v
put f Seat v b = f b
put f Epoch v Epoch = v
put f Epoch v b = f b
put f Clock v Clock = v
put f Clock v b = f b
put f (Announcement r) v (Announcement r') = cond (r' == r) v (f (Announcement r'))
put f (Announcement r) v b = f b
put f (Guard r) v (Guard r') = cond (r' == r) v (f (Guard r'))
put f (Guard r) v b = f b
put f (Stamp q) v (Stamp q') = cond (q' == q) v (f (Stamp q'))
put f (Stamp q) v b = f b
put f (Reply q) v (Reply q') = cond (q' == q) v (f (Reply q'))
put f (Reply q) v b = f b
put f (Cell p) v (Cell p') = cond (p' == p) v (f (Cell p'))
put f (Cell p) v b = f b
put f (ThunkWord d j) v (ThunkWord d' j') =
    cond (d' == d) (cond (j' == j) v (f (ThunkWord d' j'))) (f (ThunkWord d' j'))
put f (ThunkWord d j) v b = f b
put f (DoneWord d) v (DoneWord d') = cond (d' == d) v (f (DoneWord d'))
put f (DoneWord d) v b = f b
put f (LogWord d k) v (LogWord d' k') = cond (d' == d) (cond (k' == k) v (f (LogWord d' k'))) (f (LogWord d' k'))
put f (LogWord d k) v b = f b
put f (LinkWord d) v (LinkWord d') = cond (d' == d) v (f (LinkWord d'))
put f (LinkWord d) v b = f b
put f (BlockWord b k) v (BlockWord b' k') =
    cond (b' == b) (cond (k' == k) v (f (BlockWord b' k'))) (f (BlockWord b' k'))
put f (BlockWord b k) v a = f a
put f (BlockLink b) v (BlockLink b') = cond (b' == b) v (f (BlockLink b'))
put f (BlockLink b) v a = f a
put f (Board i) v (Board i') = cond (i' == i) v (f (Board i'))
put f (Board i) v b = f b
