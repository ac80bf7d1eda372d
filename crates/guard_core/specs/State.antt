-- The state of guards: what each runner guards, where descriptors and blocks are, and which blocks are linked.
use Rattle.std.specs.Prelude.{ℕ, suc, ◌≡◌, Bool, true, List, Option, Some, None}

-- the number of workers, which is the keeper's number too, so that there is one guard word more; how many
-- descriptors and how many blocks there are
pub record Counts : Type 0 where
  pub runners : ℕ
  pub descriptors : ℕ
  pub blocks : ℕ

-- where a descriptor or a block is. `runner` is the one to whose lists it belongs
pub data Location : Type 0 where
  -- in the runner's free list, or in its hand
  Free : (runner : ℕ) → Location
  -- given out: a descriptor that the runner published, or a block that its run linked
  Live : (runner : ℕ) → Location
  -- retired, in the runner's limbo, until no guard names this descriptor: for a descriptor itself, for a
  -- block the one in whose publication it was linked
  Limbo : (runner descriptor : ℕ) → Location

pub record GuardState : Type 0 where
  -- by runner: it has begun to enter and hasn't exited. Who isn't entered may sweep
  pub entered : ℕ → Bool
  -- the descriptor that its guard word names (its hazard pointer)
  pub guard : ℕ → Option ℕ
  -- it has seen that descriptor published while its guard word named it
  pub sure : ℕ → Bool
  -- the descriptor whose section it runs
  pub run : ℕ → Option ℕ
  -- the guard words that it has read in the sweep in progress, in the order of the runners
  pub looked : ℕ → List ℕ
  -- where each descriptor and each block is
  pub descriptor : ℕ → Location
  pub block : ℕ → Location
  -- by descriptor: the blocks linked in its latest publication, and whether a run of that came to its end
  pub linked : ℕ → List ℕ
  pub over : ℕ → Bool

-- a guard word: 0 names nothing, and `d + 1` names descriptor `d`
abbrev pub word_of : Option ℕ → ℕ
word_of None = 0
word_of (Some d) = suc d

-- a runner is sure of the descriptor that its guard names: then it holds it
abbrev pub IsSureOf : GuardState → ℕ → ℕ → Type 0
IsSureOf w r d = (w.guard r ≡ Some d) × (w.sure r ≡ true)

-- at most so many blocks are linked in one publication
abbrev pub most_linked : ℕ
most_linked = 8
