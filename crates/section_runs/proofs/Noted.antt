-- A runner's part after a step, as it is noted.
use Rattle.std.specs.Prelude.{if◌then◌else◌}
use Rattle.std.proofs.Common.{◌≡◌, ℕ, Bool, true, ap, ◌∙◌, Option, Some}
use Rattle.idem_cell.specs.machine_states.specs.body_terms.specs.declared.micro.Micro.{Micro}
use Rattle.idem_cell.specs.machine_states.specs.table_words.specs.declared.layout.Layout.{Layout}
use Rattle.idem_cell.specs.machine_states.specs.table_words.specs.declared.access.Access.{Access}
use Rattle.idem_cell.specs.machine_states.specs.table_words.specs.declared.spot.Spot.{Spot}
use Rattle.idem_cell.specs.machine_states.specs.structure_laws.specs.Meaning.{Meaning}
use Rattle.idem_cell.specs.machine_states.specs.runner_parts.specs.declared.event.EventKind.{EventKind}
use Rattle.idem_cell.specs.machine_states.specs.runner_parts.specs.State.{RunState, PartState}
use Rattle.idem_cell.specs.machine_states.specs.runner_steps.specs.Sections.{is_open_run, next_of}
use Rattle.idem_cell.specs.machine_states.specs.runner_steps.specs.AfterInRun.{opened_more}
use Rattle.idem_cell.specs.machine_states.specs.runner_steps.specs.After.{line_after, after_by, after, noted}
use Rattle.idem_cell.specs.machine_states.specs.runner_steps.specs.Blocks.{blocks_after}
use Rattle.idem_cell.specs.machine_states.specs.runner_steps.specs.Board.{board_after}

module _ (m : Meaning) (l : Layout) (r : ℕ) (kind : EventKind) (spot : Spot) (access : Access) (p : PartState) (found : ℕ) where
  -- a part that a step makes of this one, with what is noted of the step, and what becomes of the blocks and of the
  -- board's loads
  abbrev pub noting : PartState → PartState
  noting y =
      record y {
        blocks = blocks_after m l kind p p.run found;
        board = board_after kind p.board found;
        records = noted l r kind spot access found y.records;
      }

  -- the part after an event of an open run that stands before this step
  pub after_line : (q : RunState) (micro : Micro) → p.run ≡ Some q → is_open_run q ≡ true → next_of m q ≡ micro
      → after m l r kind spot access p found ≡ noting (line_after m l kind p q micro found)
  after_line q micro is opened next = ap noting
      (ap (λ (o : Option RunState). after_by m l kind p o found) is
      ∙ (ap (λ b. if b then line_after m l kind p q (next_of m q) found else opened_more p q found) opened
      ∙ ap (λ (k : Micro). line_after m l kind p q k found) next))
