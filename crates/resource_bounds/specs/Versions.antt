-- How often the versions of cells were raised, by the runs of sections.
use Rattle.std.specs.Prelude.{ℕ, zero, suc, ◌+◌, ◌*◌, ◌≤◌, length, Option, Some, None}
use Rattle.machine_states.specs.body_terms.specs.Word.{version_of}
use Rattle.machine_states.specs.table_words.specs.declared.layout.Layout.{Layout}
use Rattle.machine_states.specs.table_words.specs.declared.spot.Spot.TheVariants.{Cell}
use Rattle.machine_states.specs.runner_parts.specs.declared.entries.Published.{Published}
use Rattle.machine_states.specs.runner_parts.specs.State.{RunState, PartState}
use Rattle.machine_states.specs.Sight.{Sight}

-- a run in progress
abbrev pub run_count : Option RunState → ℕ
run_count None = 0
run_count (Some q) = 1

-- a section that was published and that its publisher hasn't run to its end
abbrev pub open_count : Option Published → ℕ
open_count None = 0
open_count (Some x) = 1

-- the runs of a runner: those that came to their end, the one in progress, and one for a section that it has
-- published and not yet run to its end
abbrev pub runs_of : PartState → ℕ
runs_of p = length p.records.finished + (run_count p.run + open_count p.published)

-- those of the runners with the first numbers, so many
abbrev pub runs_below : (ℕ → PartState) → ℕ → ℕ
runs_below part zero = 0
runs_below part (suc n) = runs_below part n + runs_of (part n)

-- a cell's version began with 1, and each run of any runner has raised it four times at most
abbrev pub VersionsAreCounted : Layout → Sight → Type 0
VersionsAreCounted l s = (p : ℕ) → version_of (s.word (Cell p)) ≤ 1 + 4 * runs_below s.part (suc l.runners)
