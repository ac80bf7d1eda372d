-- The lists of each runner, beside the state: a descriptor or a block stands in a list exactly where its place
-- says so, and there once.
use Rattle.std.specs.Prelude.{ℕ, zero, suc, ◌+◌, ◌<◌, ◌≡◌, Bool, false, not, ◌==◌, ◌&&◌, cond, List, [], ◌∷◌, ◌++◌, map}
use Rattle.std.specs.List.{filter}
use Rattle.guard_core.specs.State.{Counts, Location, Free, Live, Limbo, GuardState}
use Rattle.guard_core.specs.Update.{upd, times}
use Rattle.guard_core.specs.Moves.{is_unnamed}
use Rattle.guard_core.specs.Events.{Event, Validate, Publish, Link, Finish, LoadLast, with_next, after}
use Rattle.guard_core.specs.Sound.{is_under}
use Rattle.guard_core.specs.Sweeps.{is_free_of, is_limbo_of}
use Rattle.guard_core.specs.Schedules.{IsFirst, first_state}

-- a block in limbo, with the descriptor under which it lies
pub record Entry : Type 0 where
  pub block : ℕ
  pub descriptor : ℕ

-- the lists of a runner. Its free blocks are those in its free list and the one in its hand, and the won ones are
-- those that its run in progress has linked
pub record Lists : Type 0 where
  pub free_descriptors : List ℕ
  pub limbo_descriptors : List ℕ
  pub free_blocks : List ℕ
  pub won_blocks : List ℕ
  pub limbo_blocks : List Entry

-- the list without this number
abbrev pub without : List ℕ → ℕ → List ℕ
without xs x = filter (λ y. not (y == x)) xs

-- the blocks that lie under a descriptor which passes the test, and the other entries
abbrev pub blocks_under : (ℕ → Bool) → List Entry → List ℕ
blocks_under test xs = map (λ x. x.block) (filter (λ x. test x.descriptor) xs)

abbrev pub not_under : (ℕ → Bool) → List Entry → List Entry
not_under test xs = filter (λ x. not (test x.descriptor)) xs

-- these blocks under this descriptor
abbrev pub all_under : ℕ → List ℕ → List Entry
all_under d xs = map (λ b. record { block = b; descriptor = d }) xs

-- blocks under a descriptor that passes the test go to the free list
abbrev pub freed_lists : (ℕ → Bool) → Lists → Lists
freed_lists test l = record l {
  free_blocks = l.free_blocks ++ blocks_under test l.limbo_blocks;
  limbo_blocks = not_under test l.limbo_blocks;
}

-- so do descriptors and blocks at the end of a sweep that read these words
abbrev pub swept_lists : List ℕ → Lists → Lists
swept_lists words l = record (freed_lists (is_unnamed words) l) {
  free_descriptors = l.free_descriptors ++ filter (is_unnamed words) l.limbo_descriptors;
  limbo_descriptors = filter (λ d. not (is_unnamed words d)) l.limbo_descriptors;
}

-- it is live, and this runner has it
abbrev pub is_live_of : ℕ → Location → Bool
is_live_of r (Live q) = q == r
is_live_of r (Free q) = false
is_live_of r (Limbo q d) = false

-- the won blocks of a run go into limbo under its descriptor, and with them the descriptor if it is the runner's own
abbrev pub retired_lists : Bool → ℕ → Lists → Lists
retired_lists own d l = record l {
  limbo_descriptors = cond own (l.limbo_descriptors ++ d ∷ []) l.limbo_descriptors;
  won_blocks = [];
  limbo_blocks = l.limbo_blocks ++ all_under d l.won_blocks;
}

-- the runners' lists after an event
abbrev pub listed : GuardState → (ℕ → Lists) → Event → ℕ → Lists
listed w l (Validate r d) = upd l r (freed_lists (λ e. e == d) (l r))
listed w l (Publish r d) =
    upd l r (record (freed_lists (λ e. e == d) (l r)) { free_descriptors = without (l r).free_descriptors d })
listed w l (Link r d b) =
    upd l r (record (l r) { free_blocks = without (l r).free_blocks b; won_blocks = (l r).won_blocks ++ b ∷ [] })
listed w l (Finish r d) = upd l r (retired_lists (is_live_of r (w.descriptor d)) d (l r))
listed w l (LoadLast r) = upd l r (swept_lists (with_next w r) (l r))
listed w l _ = l

-- the lists after a list of events
abbrev pub listed_all : GuardState → (ℕ → Lists) → List Event → ℕ → Lists
listed_all w l [] = l
listed_all w l (e ∷ es) = listed_all (after w e) (listed w l e) es

-- how often a block stands in limbo under this descriptor
abbrev pub times_under : ℕ → ℕ → List Entry → ℕ
times_under b d [] = 0
times_under b d (x ∷ xs) = cond (x.block == b && x.descriptor == d) (1 + times_under b d xs) (times_under b d xs)

-- 1 where it is so
abbrev pub once : Bool → ℕ
once so = cond so 1 0

-- the numbers below this one, the greatest first
abbrev pub below : ℕ → List ℕ
below zero = []
below (suc n) = n ∷ below n

-- empty lists, and those of a start at which runner 0 has all descriptors and all blocks
abbrev pub no_lists : Lists
no_lists = record {
  free_descriptors = [];
  limbo_descriptors = [];
  free_blocks = [];
  won_blocks = [];
  limbo_blocks = [];
}

abbrev pub first_lists : Counts → ℕ → Lists
first_lists c r =
    cond (r == 0) (record no_lists { free_descriptors = below c.descriptors; free_blocks = below c.blocks }) no_lists

module _ (c : Counts) where
  -- each descriptor and each block stands once in the list that its place names, and in no other list of any runner
  pub record IsListed (w : GuardState) (l : ℕ → Lists) : Type 0 where
    pub free_descriptors : (r d : ℕ) → d < c.descriptors
        → times d (l r).free_descriptors ≡ once (is_free_of r (w.descriptor d))
    pub limbo_descriptors : (r d : ℕ) → d < c.descriptors
        → times d (l r).limbo_descriptors ≡ once (is_limbo_of r (w.descriptor d))
    pub free_blocks : (r b : ℕ) → b < c.blocks → times b (l r).free_blocks ≡ once (is_free_of r (w.block b))
    pub won_blocks : (r b : ℕ) → b < c.blocks → times b (l r).won_blocks ≡ once (is_live_of r (w.block b))
    pub limbo_blocks : (r b d : ℕ) → b < c.blocks
        → times_under b d (l r).limbo_blocks ≡ once (is_under r d (w.block b))

  -- with all of them in the free lists of runner 0 the machine can start
  pub record Starts : Type 0 where
    pub first : IsFirst (λ d. Free 0) (λ b. Free 0)
    pub listed : IsListed (first_state (λ d. Free 0) (λ b. Free 0)) (first_lists c)
