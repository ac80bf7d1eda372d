-- How many atomic steps one run of a body makes.
use Rattle.std.specs.Prelude.{ℕ, ◌+◌, ◌*◌, List, count_by, sum_by, take, length}
use Rattle.block_words.specs.Blocks.{blocks_for}
use Rattle.block_words.specs.table_words.specs.Places.{block_words}
use Rattle.body_terms.specs.Line.{line, is_event, ending, registers_before}
use Rattle.body_terms.specs.Shape.{is_take}
use Rattle.body_terms.specs.declared.step.Step.{Step}
use Rattle.body_terms.specs.declared.step.Step.TheVariants.{Load, Want, Fresh, Take, Make, Stamp, Store, Retire, Answer}

-- the loads with which a run opens: the thunk's twelve words and the done word
abbrev pub opening_cost : ℕ
opening_cost = 13

-- the atomic steps of one step
abbrev pub step_cost : Step → ℕ
step_cost (Load place into) = 2
step_cost (Want reg word) = 0
step_cost (Fresh reg) = 0
step_cost (Take place word) = 5
step_cost (Make init into) = 11
step_cost Stamp = 3
step_cost (Store reg value) = 1
step_cost (Retire slot) = 2
step_cost (Answer reply) = 1

-- the opening, the steps, and the end: the done word, each nested lock and the outer one
abbrev pub cost_of : List Step → ℕ
cost_of body = opening_cost + sum_by step_cost body + (1 + (count_by is_take body + 1))

-- a run of a body that goes through all its steps agrees on so many words
abbrev pub body_words : List Step → ℕ
body_words body = (registers_before body (length body)).count

-- so many blocks its log needs beside the descriptor
abbrev pub body_blocks : List Step → ℕ
body_blocks body = blocks_for (body_words body)

-- a link takes so many steps: each word of the block is made 0, and then the block is put into the link behind the last
-- part
abbrev pub link_cost : ℕ
link_cost = block_words + 1

-- so many steps at most a run makes to link the blocks
abbrev pub body_links : List Step → ℕ
body_links body = link_cost * body_blocks body

-- and so many with those of its line
abbrev pub run_cost : List Step → ℕ
run_cost body = cost_of body + body_links body

-- how many atomic steps on shared words a run makes, by its line, that comes to this place of it and no
-- further: the opening, those below the place, and the end of a section with this outer lock and free word
abbrev pub steps_to : List Step → ℕ → ℕ → ℕ → ℕ
steps_to body at lock word =
    opening_cost + (count_by is_event (take at (line body)) + length (ending (line body) at lock word))
