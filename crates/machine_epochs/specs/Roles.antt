-- What a section commits at each place of its log.
use Rattle.std.specs.Prelude.{ℕ, List, [], ◌∷◌, ◌++◌, slice_index_or}
use Rattle.machine_states.specs.body_terms.specs.declared.step.Step.{Step}
use Rattle.machine_states.specs.body_terms.specs.declared.step.Step.TheVariants.{Load, Take, Make, Retire}
use Rattle.machine_states.specs.epoch_core.specs.State.{Role, Agrees, Makes, Retires}

-- the words that a step commits, in order
abbrev pub step_roles : Step → List Role
step_roles (Load place into) = Agrees ∷ []
step_roles (Take place word) = Agrees ∷ Agrees ∷ []
step_roles (Make init into) = Makes ∷ []
step_roles (Retire slot) = Retires slot ∷ []
step_roles _ = []

-- those of a body
abbrev pub body_roles : List Step → List Role
body_roles [] = []
body_roles (step ∷ steps) = step_roles step ++ body_roles steps

-- what the body commits at this place of the log
abbrev pub role_at : List Step → ℕ → Role
role_at body index = slice_index_or (body_roles body) index Agrees
