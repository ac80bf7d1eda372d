-- What a store into a log, into its links, or into a block leaves alone.
use Rattle.std.specs.Prelude.{◌==◌, ◌/◌, ◌%◌, Bool, true, false, slice_index, cond}
use Rattle.std.proofs.Common.{◌≡◌, ◌≢◌, ℕ, zero, suc, List, refl}
use Rattle.machine_states.specs.body_terms.specs.block_words.specs.Blocks.{part_spot, link_spot, log_spot}
use Rattle.machine_states.specs.table_words.specs.declared.spot.Spot.{Spot}
use Rattle.machine_states.specs.table_words.specs.declared.spot.Spot.TheVariants.{Epoch, Announcement, ThunkWord, Board, BlockWord, BlockLink}
use Rattle.machine_states.specs.table_words.specs.Places.{part_words}
use Rattle.machine_states.specs.table_words.specs.Seen.{put}
use Rattle.machine_states.specs.runner_steps.specs.Outside.{descriptor_spot, block_spot}
use Rattle.machine_epochs.proofs.Places.{log_elsewhere, link_elsewhere}
use Rattle.machine_epochs.proofs.Joining.{IsSameBut, descriptor_same}

-- a store of this number leaves alone what the epochs see but for the log of this descriptor
pub record LeavesRest (f : Spot → ℕ) (a : Spot) (v d : ℕ) : Type 0 where
  pub epoch : put f a v Epoch ≡ f Epoch
  pub announced : (i : ℕ) → put f a v (Announcement i) ≡ f (Announcement i)
  pub board : (i : ℕ) → put f a v (Board i) ≡ f (Board i)
  pub thunk : (d' j : ℕ) → put f a v (ThunkWord d' j) ≡ f (ThunkWord d' j)
  pub elsewhere : (d' j : ℕ) → d' ≢ d → put f a v (descriptor_spot d' j) ≡ f (descriptor_spot d' j)

module _ (f : Spot → ℕ) (v : ℕ) where
  pub but_block_word : (b j : ℕ) → IsSameBut (put f (BlockWord b j) v) f
  but_block_word b j = record { epoch = refl; announced = λ r. refl; thunk = λ d i. refl; done = λ d. refl; log = λ d k. refl; link = λ d. refl; board = λ i. refl }

  pub but_block_link : (b : ℕ) → IsSameBut (put f (BlockLink b) v) f
  but_block_link b = record { epoch = refl; announced = λ r. refl; thunk = λ d i. refl; done = λ d. refl; log = λ d k. refl; link = λ d. refl; board = λ i. refl }

  -- a word of a block is none that the epochs see
  pub but_block : (b j : ℕ) → IsSameBut (put f (block_spot b j) v) f
  but_block b j = by (j == part_words)
    where
      by : (c : Bool) → IsSameBut (put f (cond c (BlockLink b) (BlockWord b j)) v) f
      by true = but_block_link b
      by false = but_block_word b j

  -- a store that changes none of these words leaves them alone
  pub same_leaves : (a : Spot) (d : ℕ) → IsSameBut (put f a v) f → LeavesRest f a v d
  same_leaves a d same = record {
    epoch = same.epoch;
    announced = same.announced;
    board = same.board;
    thunk = same.thunk;
    elsewhere = λ d' j ne. descriptor_same (put f a v) f same d' j;
  }

  module _ (d : ℕ) where
    part_leaves : (links : List ℕ) (i j : ℕ) → LeavesRest f (part_spot d links i j) v d
    part_leaves links zero j =
        record { epoch = refl; announced = λ i. refl; board = λ i. refl; thunk = λ d' i. refl; elsewhere = λ d' i ne. log_elsewhere f d j v d' i ne }
    part_leaves links (suc i) j = same_leaves (BlockWord (slice_index links i) j) d (but_block_word (slice_index links i) j)

    -- a store into one of the links
    pub link_leaves : (links : List ℕ) (i : ℕ) → LeavesRest f (link_spot d links i) v d
    link_leaves links zero =
        record { epoch = refl; announced = λ i. refl; board = λ i. refl; thunk = λ d' i. refl; elsewhere = λ d' i ne. link_elsewhere f d v d' i ne }
    link_leaves links (suc i) = same_leaves (BlockLink (slice_index links i)) d (but_block_link (slice_index links i))

    -- a store into a word of the descriptor's log
    pub log_leaves : (links : List ℕ) (k : ℕ) → LeavesRest f (log_spot d links k) v d
    log_leaves links k = part_leaves links (k / part_words) (k % part_words)
