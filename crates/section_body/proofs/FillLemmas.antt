-- Cells that a Make fills.
use Rattle.std.proofs.Common.{◌≡◌, ◌≢◌, ℕ, zero, suc, ◌+◌, ◌≤◌, List, length, refl, ap, ◌∙◌, arith, get_or, set, get_or-set_other, length-set}
use Rattle.body_terms.specs.Word.{next_word}
use Rattle.body_terms.specs.Memory.{PlainMemory, cell_of}
use Rattle.body_terms.specs.Act.{filled}

-- filling cells keeps their number
pub length-filled : (fixed_cells slot : ℕ) (values cells : List ℕ) (k : ℕ) → length (filled fixed_cells slot values cells k) ≡ length cells
length-filled fixed_cells slot values cells zero = refl
length-filled fixed_cells slot values cells (suc k) = length-set _ _ _ ∙ length-filled fixed_cells slot values cells k

-- a cell that isn't filled yet keeps its word
pub filled_later : (fixed_cells slot : ℕ) (values cells : List ℕ) (k j : ℕ) → k ≤ j → get_or (filled fixed_cells slot values cells k) (cell_of fixed_cells slot j) 0 ≡ get_or cells (cell_of fixed_cells slot j) 0
filled_later fixed_cells slot values cells zero j later = refl
filled_later fixed_cells slot values cells (suc k) j later =
    let other : cell_of fixed_cells slot j ≢ cell_of fixed_cells slot k = omega arith in
    rw get_or-set_other (filled_later fixed_cells slot values cells k j (omega arith))

-- one more filled cell
pub filled_next : (before now after : PlainMemory) (slot k value : ℕ) (values : List ℕ) → now ≡ record before { cells = filled before.fixed_cells slot values before.cells k } → value ≡ get_or values k 0 → after ≡ record now { cells = set now.cells (cell_of now.fixed_cells slot k) (next_word (get_or now.cells (cell_of now.fixed_cells slot k) 0) value) } → after ≡ record before { cells = filled before.fixed_cells slot values before.cells (k + 1) }
filled_next before now after slot k value values is same next =
    let place = cell_of before.fixed_cells slot k in
    let cells = filled before.fixed_cells slot values before.cells k in
    let fill : PlainMemory → PlainMemory = λ m. record m { cells = set m.cells (cell_of m.fixed_cells slot k) (next_word (get_or m.cells (cell_of m.fixed_cells slot k) 0) value) } in
    let more : suc k ≡ k + 1 = omega arith in
    next ∙ (ap fill is ∙ (ap (λ old. record before { cells = set cells place (next_word old value) }) (filled_later before.fixed_cells slot values before.cells k k (omega arith))
    ∙ (ap (λ v. record before { cells = set cells place (next_word (get_or before.cells place 0) v) }) same
    ∙ ap (λ n. record before { cells = filled before.fixed_cells slot values before.cells n }) more)))
