-- The bodies over a key's cells: each cell is loaded and wanted, and where the key changes each is stored.
use Rattle.std.specs.Prelude.{ℕ, List, [], ◌∷◌, ◌++◌, Bool, true, false, nat_lt, cond}
use Rattle.runner_parts.specs.structure_laws.specs.body_terms.specs.Word.{value_of}
use Rattle.runner_parts.specs.structure_laws.specs.body_terms.specs.declared.value.Value.TheVariants.{Const}
use Rattle.runner_parts.specs.structure_laws.specs.body_terms.specs.declared.step.Step.{Step}
use Rattle.runner_parts.specs.structure_laws.specs.body_terms.specs.declared.step.Step.TheVariants.{Load, Want, Fresh, Stamp, Store, Answer}

-- what is written for the cell with this number, where there are so many
abbrev pub part : {A : Type 0} → ℕ → ℕ → List A → List A
part n i items = cond (nat_lt i n) items []

-- by the cell's number: its place, the word that is wanted there, and the word whose value is stored there
module _ (cell want new : ℕ → ℕ) where
  -- cell number i is loaded into register i; a body that writes asks whether its version may still rise
  abbrev pub read_of : Bool → ℕ → List Step
  read_of true i = Load (cell i) i ∷ Want i (want i) ∷ Fresh i ∷ []
  read_of false i = Load (cell i) i ∷ Want i (want i) ∷ []

  abbrev pub store_of : Bool → ℕ → List Step
  store_of true i = Store i (Const (value_of (new i))) ∷ []
  store_of false i = []

  -- of n cells, at most three
  abbrev pub reads_of : Bool → ℕ → List Step
  reads_of w n = (part n 0 (read_of w 0) ++ part n 1 (read_of w 1)) ++ part n 2 (read_of w 2)

  abbrev pub cell_steps : ℕ → Bool → ℕ → List Step
  cell_steps reply w n =
      ((((reads_of w n ++ Stamp ∷ []) ++ part n 0 (store_of w 0)) ++ part n 1 (store_of w 1))
      ++ part n 2 (store_of w 2)) ++ Answer reply ∷ []
