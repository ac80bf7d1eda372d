-- The numbers that a new node's cells get.
use Rattle.std.specs.Prelude.{ℕ, List, [], ◌∷◌, slice_index_or}
use Rattle.runner_steps.specs.body_terms.specs.declared.value.Init.{Init}
use Rattle.runner_steps.specs.body_terms.specs.declared.value.Value.{Value}
use Rattle.runner_steps.specs.body_terms.specs.declared.value.Value.TheVariants.{Const}

-- the number that this value gives a cell, where it names no register
abbrev pub number_of : Value → ℕ
number_of (Const number) = number
number_of _ = 0

-- the numbers of a node's five values
abbrev pub numbers_of : Init → List ℕ
numbers_of init = let at : ℕ → ℕ = λ cell. number_of (slice_index_or init.cells cell (Const 0)) in
    at 0 ∷ at 1 ∷ at 2 ∷ at 3 ∷ at 4 ∷ []
