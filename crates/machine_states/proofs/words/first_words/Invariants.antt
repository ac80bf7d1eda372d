use Rattle.std.proofs.Common.{◌≡◌, ◌+◌, ◌-◌, ◌≤◌, ℕ, ◌++◌, replicate, length, vec_items}
use Rattle.std.specs.Vec.{vec_capacity}
use Rattle.runner_steps.specs.table_words.specs.Places.{cells_at, size}
use Rattle.machine_states.specs.First.{IsFilled}
use Rattle.machine_states.proofs.words.first_words.Given as goal

-- with zeros in the place of what is left, these are the words in which so many cells have been filled
abbrev pub invariant-loop-place : goal.invariant-loop-place
invariant-loop-place g l = record {
  long : length (vec_items l.words) ≡ cells_at l.sizes + l.place;
  room : size l.sizes ≤ vec_capacity l.words;
  filled : IsFilled (g.S.Structure.meaning l.structure) l.sizes l.place (vec_items l.words ++ replicate {A = ℕ} (size l.sizes - (cells_at l.sizes + l.place)) 0);
}

abbrev pub invariant-loop-word : goal.invariant-loop-word
invariant-loop-word g l = record {
  long : length (vec_items l.words) ≡ l.word;
  room : size l.fn.sizes ≤ vec_capacity l.words;
  filled : IsFilled (g.S.Structure.meaning l.fn.structure) l.fn.sizes l.fn.sizes.cells (vec_items l.words ++ replicate {A = ℕ} (size l.fn.sizes - l.word) 0);
}
