-- The run of a line in one go that goes by a log.
use Rattle.std.specs.Prelude.{ℕ, suc, ◌<◌, ◌≡◌, List, [], true, take, Some, None}
use Rattle.structure_laws.specs.body_terms.specs.Line.{is_check, committed, micro_at}
use Rattle.structure_laws.specs.body_terms.specs.Plain.{first_values}
use Rattle.structure_laws.specs.body_terms.specs.Run.{Setting, Run, leaves, ran}
use Rattle.structure_laws.specs.body_terms.specs.declared.outcome.Outcome.{Outcome}
use Rattle.structure_laws.specs.body_terms.specs.declared.micro.Micro.{Micro}
use Rattle.structure_laws.specs.body_terms.specs.declared.micro.Micro.TheVariants.{Commit, NestedCommit, OutcomeCommit, MakeCommit, RetireCommit, End}

-- the first words of a log that are agreed below this place of the line
abbrev pub agreed : List Micro → (ℕ → ℕ) → ℕ → List ℕ
agreed line log edge = first_values (committed line edge) log

-- the cells and the choices of a run in one go give what the log says, up to this place of the line, and
-- each check below it passes
pub record Follows (s : Setting) (start : Run) (line : List Micro) (log : ℕ → ℕ) (edge : ℕ) : Type 0 where
  pub unbegun : start.trail ≡ []
  pub unended : start.outcome ≡ None
  pub loaded : (i p k : ℕ) → i < edge → micro_at line i ≡ Commit p k → start.cells p ≡ log k
  pub nested : (i p k : ℕ) → i < edge → micro_at line i ≡ NestedCommit p k → s.taken k ≡ log k
  pub outcome : (i p k : ℕ) → i < edge → micro_at line i ≡ OutcomeCommit p k → s.taken k ≡ log k
  pub made : (i k : ℕ) → i < edge → micro_at line i ≡ MakeCommit k → suc (s.slot k) ≡ log k
  pub retired : (i t k : ℕ) → i < edge → micro_at line i ≡ RetireCommit t k → suc t ≡ log k
  pub passed : (i : ℕ) → i < edge → is_check (micro_at line i) ≡ true
      → leaves s (agreed line log i) (micro_at line i) ≡ None

-- the trail of the run in one go is what was agreed, as far as the line was gone, and the whole run's trail
-- begins with it
pub record AgreesWith (s : Setting) (start : Run) (line : List Micro) (log : ℕ → ℕ) (edge : ℕ) : Type 0 where
  pub so_far : (ran s start (take edge line)).trail ≡ agreed line log edge
  pub prefix : take (committed line edge) (ran s start line).trail ≡ agreed line log edge
  -- where the line is over, or a run leaves at the check that stands there, what was agreed is the whole trail
  pub at_end : micro_at line edge ≡ End → (ran s start line).trail ≡ agreed line log edge
  pub at_exit : (outcome : Outcome) → leaves s (agreed line log edge) (micro_at line edge) ≡ Some outcome
      → (ran s start line).trail ≡ agreed line log edge
  pub leaves_with : (outcome : Outcome)
      → leaves s (agreed line log edge) (micro_at line edge) ≡ Some outcome → (ran s start line).outcome ≡ Some outcome
