-- A section's log and the plain run of its body.
use Rattle.std.specs.Prelude.{ℕ, zero, suc, ◌-◌, ◌<◌, ◌≡◌, ◌≢◌, List, [], false, take, Some, None}
use Rattle.section_lines.specs.structure_laws.specs.body_terms.specs.Update.{upd}
use Rattle.section_lines.specs.structure_laws.specs.body_terms.specs.Line.{line, micro_at, committed}
use Rattle.section_lines.specs.structure_laws.specs.body_terms.specs.Shape.{IsShaped}
use Rattle.section_lines.specs.structure_laws.specs.body_terms.specs.Run.{Setting, Run, leaves, ran}
use Rattle.section_lines.specs.structure_laws.specs.body_terms.specs.declared.outcome.Outcome.{Outcome}
use Rattle.section_lines.specs.structure_laws.specs.body_terms.specs.declared.outcome.Outcome.TheVariants.{Answered}
use Rattle.section_lines.specs.structure_laws.specs.body_terms.specs.declared.step.Step.{Step}
use Rattle.section_lines.specs.structure_laws.specs.body_terms.specs.declared.micro.Micro.{Micro}
use Rattle.section_lines.specs.structure_laws.specs.body_terms.specs.declared.micro.Micro.TheVariants.{Commit, ReplyExchange}
use Rattle.section_lines.specs.Runs.{agreed}
use Rattle.agreement_core.specs.State.{CellRules, Section}
use Rattle.agreement_core.specs.History.{HasAnswered, HasLeft}

-- the section's line is that of this body
pub record IsOfBody (s : Section) (body : List Step) : Type 0 where
  pub shaped : IsShaped body
  pub code : s.code ≡ micro_at (line body)
  pub slot : s.slot ≡ committed (line body)

-- the choices that the section's log tells so far: the agreed words of its Takes and the slots of its
-- Makes. The number of fixed cells, the words that stood in the cells of the slots, and the clock are any
abbrev pub chosen : CellRules → ℕ → Section → ℕ → (ℕ → ℕ → ℕ) → ℕ → Setting
chosen c d s fixed_cells first clock = record {
  version_max = c.version_max;
  fixed_cells = fixed_cells;
  descriptor = d;
  taken = s.log;
  refused = λ k. false;
  slot = λ k. s.log k - 1;
  first = first;
  clock = clock;
}

-- a run that begins over cells in which each cell that the section has loaded holds the agreed word
pub record IsOver (s : Section) (start : Run) : Type 0 where
  pub unbegun : start.trail ≡ []
  pub unended : start.outcome ≡ None
  pub loaded : (i p k : ℕ) → i < s.edge → s.code i ≡ Commit p k → start.cells p ≡ s.log k

-- the cells after a Load has agreed on its word
abbrev pub with_loaded : (ℕ → ℕ) → (ℕ → ℕ) → Micro → ℕ → ℕ
with_loaded log cells (Commit place k) = upd cells place (log k)
with_loaded log cells _ = cells

-- cells in which each one holds the word on which a Load below this place of a line agreed, and the others 0
abbrev pub loaded_cells : (ℕ → Micro) → (ℕ → ℕ) → ℕ → ℕ → ℕ
loaded_cells code log zero = λ p. 0
loaded_cells code log (suc n) = with_loaded log (loaded_cells code log n) (code n)

-- a run that begins over the words that a section has loaded
abbrev pub start_over : Section → Run
start_over s = record {
  cells = loaded_cells s.code s.log s.edge;
  clock = 0;
  stamp = 0;
  reply = 0;
  trail = [];
  made = [];
  retired = [];
  outcome = None;
}

-- what was agreed is the trail of the plain run as far as its runs have come, and the whole run's trail
-- begins with it; once the section is done it is the whole run's trail
pub record FollowsPlainRun (s : Section) (body : List Step) (setting : Setting) (start : Run) : Type 0 where
  pub so_far : (ran setting start (take s.edge (line body))).trail ≡ agreed (line body) s.log s.edge
  pub prefix : take (committed (line body) s.edge) (ran setting start (line body)).trail
      ≡ agreed (line body) s.log s.edge
  pub whole : s.done ≢ 0 → (ran setting start (line body)).trail ≡ agreed (line body) s.log s.edge
  -- where the section has left at a check, the whole run leaves there, with that check's outcome
  pub left : HasLeft s → (outcome : Outcome) × (leaves setting (agreed (line body) s.log s.edge)
      (micro_at (line body) s.edge) ≡ Some outcome)
      × ((ran setting start (line body)).outcome ≡ Some outcome)
  -- where the section has answered, the run ends with that answer
  pub answer : HasAnswered s → (i reply : ℕ) → s.code i ≡ ReplyExchange reply
      → (ran setting start (line body)).outcome ≡ Some (Answered reply)
