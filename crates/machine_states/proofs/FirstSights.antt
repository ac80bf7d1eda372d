-- The first state, seen without its lists.
use Rattle.std.specs.Prelude.{◌==◌, cond, nat_lt, slice_get, slice_index, Bool, true, false}
use Rattle.std.proofs.Common.{◌≡◌, ℕ, zero, suc, List, [], ◌∷◌, ◌++◌, length, sym, refl, ap, ◌∙◌, arith, le_of_eq}
use Rattle.std.proofs.lemmas.Bool.Decides.{nat_tests}
use Rattle.runner_steps.specs.map_history.specs.declared.op.Request.{Request}
use Rattle.runner_steps.specs.table_words.specs.declared.layout.Layout.{Layout}
use Rattle.runner_steps.specs.table_words.specs.declared.spot.Spot.TheVariants.{Announcement, LogWord}
use Rattle.runner_steps.specs.table_words.specs.Places.{address, fits}
use Rattle.runner_steps.specs.table_words.specs.Seen.{seen}
use Rattle.runner_steps.specs.table_words.proofs.Seen as words
use Rattle.runner_steps.specs.runner_parts.specs.structure_laws.specs.Meaning.{Meaning}
use Rattle.runner_steps.specs.runner_parts.specs.State.{PartState}
use Rattle.runner_steps.specs.Asks.{sizes_for}
use Rattle.machine_states.specs.World.{World}
use Rattle.machine_states.specs.First.{IsFirst, first_part, keeper_part, worker_part, workers}
use Rattle.machine_states.specs.Sight.{part_or_first, part_of, IsWhole}
use Rattle.machine_states.proofs.Firsts.{length_workers, length_parts}

here_test : (i n : ℕ) (v w : PartState) → cond (i == 0) v w ≡ cond (suc i == 1) v w
here_test i n v w = grind (arith, nat_tests)

-- a part more at the end
at_push : (xs : List PartState) (y : PartState) (i : ℕ) → part_or_first (slice_get (xs ++ y ∷ []) i) ≡ cond (i == length xs) y (part_or_first (slice_get xs i))
at_push [] y zero = refl
at_push [] y (suc i) = after_one i y (first_part [] [] [])
  where
    after_one : (i : ℕ) (v w : PartState) → w ≡ cond (suc i == 0) v w
    after_one i v w = grind (arith, nat_tests)
at_push (x ∷ xs) y zero = before (length xs) y x
  where
    before : (n : ℕ) (v w : PartState) → w ≡ cond (0 == suc n) v w
    before n v w = grind (arith, nat_tests)
at_push (x ∷ xs) y (suc i) = at_push xs y i ∙ both_more i (length xs) y (part_or_first (slice_get xs i))
  where
    both_more : (i n : ℕ) (v w : PartState) → cond (i == n) v w ≡ cond (suc i == suc n) v w
    both_more i n v w = grind (arith, nat_tests)

none_below : (i : ℕ) (v w : PartState) → w ≡ cond (nat_lt i 0) v w
none_below i v w = grind (arith, nat_tests)

one_more : (i n : ℕ) (v v' w : PartState) → (i ≡ n → v' ≡ v) → cond (i == n) v' (cond (nat_lt i n) v w) ≡ cond (nat_lt i (suc n)) v w
one_more i n v v' w same = grind (arith, nat_tests)

module _ (m : Meaning) (l : Layout) where
  workers_at : (n i : ℕ) → part_or_first (slice_get (workers m l n) i) ≡ cond (nat_lt i n) (worker_part m l i) (first_part [] [] [])
  workers_at zero i = none_below i (worker_part m l i) (first_part [] [] [])
  workers_at (suc n) i =
      at_push (workers m l n) (worker_part m l n) i
      ∙ (ap (λ k. cond (i == k) (worker_part m l n) (part_or_first (slice_get (workers m l n) i))) (length_workers m l n)
      ∙ (ap (λ (q : PartState). cond (i == n) (worker_part m l n) q) (workers_at n i)
      ∙ one_more i n (worker_part m l i) (worker_part m l n) (first_part [] [] []) (λ e. ap (worker_part m l) (sym e))))

  -- the keeper's first part, a worker's, or that of no runner
  abbrev pub first_part_of : ℕ → PartState
  first_part_of r = cond (r == l.runners) (keeper_part m l) (cond (nat_lt r l.runners) (worker_part m l r) (first_part [] [] []))

  seats : (r : ℕ) (keeper : PartState) (xs : List PartState) → part_of l (keeper ∷ xs) r ≡ cond (r == l.runners) keeper (part_or_first (slice_get xs r))
  seats r keeper xs = by_test (r == l.runners)
    where
      by_test : (b : Bool) → part_or_first (slice_get (keeper ∷ xs) (cond b 0 (suc r))) ≡ cond b keeper (part_or_first (slice_get xs r))
      by_test true = refl
      by_test false = refl

  pub first_parts : (parts : List PartState) → parts ≡ keeper_part m l ∷ workers m l l.runners → (r : ℕ) → part_of l parts r ≡ first_part_of r
  first_parts parts is r =
      ap (λ (xs : List PartState). part_of l xs r) is ∙ (seats r (keeper_part m l) (workers m l l.runners)
      ∙ ap (λ (q : PartState). cond (r == l.runners) (keeper_part m l) q) (workers_at l.runners r))

  module _ (rs : List Request) (w : World) (first : IsFirst m l rs w) where
    -- no announcement is made
    pub unannounced : (r : ℕ) → seen (sizes_for m l rs) w.words (Announcement r) ≡ 0
    unannounced r = by_fit (fits (sizes_for m l rs) (Announcement r)) refl
      where
        by_fit : (b : Bool) → fits (sizes_for m l rs) (Announcement r) ≡ b → seen (sizes_for m l rs) w.words (Announcement r) ≡ 0
        by_fit true e = first.words.seen (Announcement r) (words.fits_means (sizes_for m l rs) (Announcement r) e)
        by_fit false e = ap (λ b. cond b (slice_index w.words (address (sizes_for m l rs) (Announcement r))) 0) e

    -- all words and all parts are there
    pub first_whole : IsWhole m l rs w
    first_whole = record { words = le_of_eq (sym first.words.room); parts = ap length first.parts ∙ length_parts m l }

    -- every log is empty
    pub unlogged : (d k : ℕ) → seen (sizes_for m l rs) w.words (LogWord d k) ≡ 0
    unlogged d k = by_fit (fits (sizes_for m l rs) (LogWord d k)) refl
      where
        by_fit : (b : Bool) → fits (sizes_for m l rs) (LogWord d k) ≡ b → seen (sizes_for m l rs) w.words (LogWord d k) ≡ 0
        by_fit true e = first.words.seen (LogWord d k) (words.fits_means (sizes_for m l rs) (LogWord d k) e)
        by_fit false e = ap (λ b. cond b (slice_index w.words (address (sizes_for m l rs) (LogWord d k))) 0) e
