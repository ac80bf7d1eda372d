-- The words of a log along its links.
use Rattle.std.specs.Prelude.{ℕ, zero, suc, ◌-◌, ◌==◌, cond}
use Rattle.machine_states.specs.table_words.specs.declared.spot.Spot.{Spot}
use Rattle.machine_states.specs.table_words.specs.declared.spot.Spot.TheVariants.{BlockWord, BlockLink}

-- the link of the block that a link names, and 0 behind the last part
abbrev pub link_behind : (Spot → ℕ) → ℕ → ℕ
link_behind word link = cond (link == 0) 0 (word (BlockLink (link - 1)))

-- word `j` of the block that a link names, and 0 behind the last part
abbrev pub word_behind : (Spot → ℕ) → ℕ → ℕ → ℕ
word_behind word link j = cond (link == 0) 0 (word (BlockWord (link - 1) j))

-- the link that stands so many parts behind this one
abbrev pub link_after : (Spot → ℕ) → ℕ → ℕ → ℕ
link_after word zero link = link
link_after word (suc i) link = link_behind word (link_after word i link)
