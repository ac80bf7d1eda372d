-- A runner's own blocks, and the blocks of its run, as its code keeps them.
use Rattle.std.specs.Prelude.{◌≡◌, ℕ, ◌+◌, ◌-◌, ◌<◌, ◌≤◌, ◌^◌, List, [], ◌∷◌, ◌++◌, Bool, false, not, ◌==◌, ◌&&◌, nat_lt, Option, Some, None, if◌then◌else◌}
use Rattle.machine_states.specs.body_terms.specs.Word.{value_of, is_free}
use Rattle.machine_states.specs.table_words.specs.Places.{part_words, block_words}
use Rattle.machine_states.specs.runner_parts.specs.State.{BlocksState}
use Rattle.machine_states.specs.runner_parts.specs.Tests.{is_some_of}
use Rattle.machine_states.specs.runner_parts.specs.Lists.{block_taken, block_back, blocks_retired}
use Rattle.machine_states.specs.runner_steps.specs.Blocks.{block_in_hand}

-- of a run: the place in the log at which its section's last part begins, and the block that has this part, if it isn't
-- the descriptor; the own block that it empties to link it, and how many of that block's words it has made 0; and the
-- blocks that it linked itself
pub record LinksKept : Type 0 where
  pub start : ℕ
  pub last : Option ℕ
  pub block : Option ℕ
  pub emptied : ℕ
  pub won : List ℕ

-- a run that has linked nothing and has no block in the hand, or none at all
abbrev pub no_links : LinksKept
no_links = record { start = 0; last = None; block = None; emptied = 0; won = [] }

-- the lists of own blocks, and the links of the run
pub record BlocksKept : Type 0 where
  pub lists : BlocksState
  pub links : LinksKept

abbrev pub first_blocks : List ℕ → BlocksKept
first_blocks free = record { lists = record { free = free; limbo = [] }; links = no_links }

-- other lists
abbrev pub blocks_are : BlocksKept → BlocksState → BlocksKept
blocks_are b lists = record b { lists = lists }

-- this block is taken out of the free list into the hand
abbrev pub block_in_run : BlocksKept → ℕ → BlocksKept
block_in_run b block = record { lists = block_taken b.lists block; links = record (b.links) { block = Some block } }

-- one more word of this block is 0, which is in the hand from the first one on
abbrev pub block_emptied : BlocksKept → ℕ → BlocksKept
block_emptied b block = record {
  lists = block_in_hand b.lists block b.links.block;
  links = record (b.links)
      { block = Some block; emptied = (if nat_lt b.links.emptied block_words then b.links.emptied + 1 else b.links.emptied) };
}

-- the exchange of a link that was to link this block found this number: where that was 0 the block is linked, and else
-- it comes back, and the one that the number names is
abbrev pub block_linked : BlocksKept → ℕ → ℕ → BlocksKept
block_linked b block found = record {
  lists = (if found == 0 then b.lists else block_back b.lists block);
  links = record {
    start = b.links.start + part_words;
    last = Some (if found == 0 then block else value_of (found - 1));
    block = None;
    emptied = 0;
    won = (if found == 0 then b.links.won ++ block ∷ [] else b.links.won);
  };
}

-- this word, if it is a lock's, names the descriptor that the guard word names
abbrev pub names : Option ℕ → ℕ → Bool
names named word = not (is_free word) && is_some_of named (value_of word - 1)

-- a run of this descriptor is over: the blocks that it linked go into limbo under it
abbrev pub links_over : BlocksKept → ℕ → BlocksKept
links_over b descriptor = record { lists = blocks_retired b.lists b.links.won descriptor; links = no_links }

-- a block in the hand will be linked or come back
abbrev pub in_hand : Option ℕ → ℕ
in_hand None = 0
in_hand (Some block) = 1

-- what the lists of own blocks hold together, with those that the run has, fits the room of each; and where no run has
-- taken a block or linked one, the links are none
pub record BlocksFit (filled free limbo won : ℕ) (used : Bool) (links : LinksKept) : Type 0 where
  pub fits : filled ≤ free
  pub few : free < 2 ^ 32
  pub limbo_room : limbo ≡ free
  pub won_room : won ≡ free
  pub unused : used ≡ false → links ≡ no_links
