-- The words that a Take agrees on, and how it ends a run.
use Rattle.std.specs.Prelude.{ℕ, List, [], ◌∷◌, Option, Some, None, Result, Ok, Err}
use Rattle.idem_cell.specs.machine_states.specs.body_terms.specs.declared.outcome.Refused.{Refused}
use Rattle.nested_lock.specs.Answers.{outcome_by}
use Rattle.nested_lock.specs.declared.takes.TakeEnd.{TakeEnd}
use Rattle.section_runs.specs.declared.passed.Passed.{Passed}
use Rattle.section_runs.specs.declared.passed.Passed.TheVariants.{On, Left}

abbrev pub word_of : Option ℕ → List ℕ
word_of None = []
word_of (Some word) = word ∷ []

-- one word, or two where the lock was to be taken
abbrev pub words_of : TakeEnd → List ℕ
words_of end = end.first ∷ word_of end.second

-- a Take that was refused leaves, and any other goes on
abbrev pub passed_by : ℕ → Result (Unit {0}) Refused → Passed
passed_by place (Ok taken) = On
passed_by place (Err refused) = Left (outcome_by place refused)
