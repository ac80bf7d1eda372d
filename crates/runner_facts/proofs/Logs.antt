-- Commits, by their places in the log.
use Rattle.std.specs.Prelude.{Bool, true}
use Rattle.std.proofs.Common.{◌≡◌, ℕ, refl, Some}
use Rattle.machine_states.specs.body_terms.specs.Line.{is_commit}
use Rattle.machine_states.specs.body_terms.specs.declared.micro.Micro.{Micro}
use Rattle.machine_states.specs.body_terms.specs.declared.micro.Micro.TheVariants as micros
use Rattle.section_lines.specs.Line.{IsLine}
use Rattle.machine_states.specs.runner_steps.specs.Sections.{commits_to}
use Rattle.machine_states.proofs.Sights.{some_none}
use Rattle.machine_states.proofs.Steps.{some_same}

-- the place in the log to which a commit goes
abbrev pub log_of : Micro → ℕ
log_of (micros.Commit place log) = log
log_of (micros.NestedCommit place log) = log
log_of (micros.OutcomeCommit place log) = log
log_of (micros.MakeCommit log) = log
log_of (micros.RetireCommit slot log) = log
log_of _ = 0

pub commit_of : (micro : Micro) (k : ℕ) → commits_to micro ≡ Some k → (is_commit micro ≡ true) × (log_of micro ≡ k)
commit_of (micros.Commit p log) k e = (refl, some_same log k e)
commit_of (micros.NestedCommit p log) k e = (refl, some_same log k e)
commit_of (micros.OutcomeCommit p log) k e = (refl, some_same log k e)
commit_of (micros.MakeCommit log) k e = (refl, some_same log k e)
commit_of (micros.RetireCommit slot log) k e = (refl, some_same log k e)
commit_of _ k e = some_none k e

-- the place in the log of a line's commit
pub log_place : (is_lock : ℕ → Bool) (version_max lock : ℕ) (code : ℕ → Micro) (slot : ℕ → ℕ) → IsLine is_lock version_max lock code slot
    → (i : ℕ) (micro : Micro) → code i ≡ micro → is_commit micro ≡ true → log_of micro ≡ slot i
log_place is_lock version_max lock code slot line i (micros.Commit p k) e commit = line.counted.commit_log i p k e
log_place is_lock version_max lock code slot line i (micros.NestedCommit p k) e commit = line.counted.nested_log i p k e
log_place is_lock version_max lock code slot line i (micros.OutcomeCommit p k) e commit = line.counted.outcome_log i p k e
log_place is_lock version_max lock code slot line i (micros.MakeCommit k) e commit = line.counted.make_log i k e
log_place is_lock version_max lock code slot line i (micros.RetireCommit t k) e commit = line.counted.retire_log i t k e
log_place is_lock version_max lock code slot line i micro e commit = absurd (let z = commit in cc)
