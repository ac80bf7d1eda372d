use Rattle.std.proofs.Common.{◌≡◌, ◌≤◌, ℕ, replicate, vec_items}
use Rattle.std.specs.Vec.{vec_capacity}
use Rattle.runner_steps.specs.table_words.specs.Places.{size}
use Rattle.machine_states.proofs.words.words_before_cells.Given as goal

abbrev pub invariant-loop-word : goal.invariant-loop-word
invariant-loop-word l = record {
  zeros : vec_items l.words ≡ replicate {A = ℕ} l.word 0;
  room : size l.sizes ≤ vec_capacity l.words;
}
