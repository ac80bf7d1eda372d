-- How often the gates of a run are asked.
use Rattle.std.specs.Prelude.{◌≡◌, ℕ, ◌+◌, ◌-◌, ◌*◌, ◌≤◌, Bool, List, [], ◌∷◌}
use Rattle.machine_states.specs.structure_laws.specs.Cells as cells
use Rattle.machine_states.specs.structure_laws.specs.Meaning.{Meaning}
use Rattle.settled_tables.specs.settling.specs.runner_gate.specs.Counts.{plus}
use Rattle.version_words.specs.TableState.{WordsState}
use Rattle.free_serving.specs.serving.specs.Serving.{most_asks}
use Rattle.free_serving.specs.serving.specs.declared.answers.Served.{Served}
use Rattle.free_serving.specs.Left.{least_asks}
use Rattle.threaded_runs.specs.Counts.{halted}
use Rattle.threaded_runs.specs.Runs.{served_in}

-- how many of these answers are Halted
abbrev pub halted_in : List Served → ℕ
halted_in [] = 0
halted_in (answer ∷ answers) = halted answer + halted_in answers

module _ {T : Type 0} (m : Meaning) (w : WordsState T) where
  -- at least so often: for each served request, but for one at most of each worker that was halted, whose section
  -- somebody may have run to its end. A request that is read is asked about less often
  abbrev pub AsksOften : Bool → List Served → (before behind : ℕ) → Type 0
  AsksOften reads_free given before behind =
      plus before (least_asks reads_free * (served_in m w - halted_in given)) ≤ behind

  -- and with one worker, whatever it answered, at most so many asks for each served request, and once more so many
  abbrev pub AsksAlone : (before behind : ℕ) → Type 0
  AsksAlone before behind = w.layout.runners ≡ 1
      → behind ≤ before + (served_in m w + 1) * most_asks (cells.slots m w.layout)

  -- how far a count of asks rose in a run of workers with these answers
  pub record AreAsked (reads_free : Bool) (given : List Served) (before behind : ℕ) : Type 0 where
    pub often : AsksOften reads_free given before behind
    pub alone : AsksAlone before behind
