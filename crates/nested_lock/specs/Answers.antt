-- How a Take ends, by the words that were agreed on.
use Rattle.std.specs.Prelude.{ℕ, ◌==◌, ◌&&◌, not, cond, Result, Ok, Err, Option, Some, None}
use Rattle.machine_states.specs.body_terms.specs.Word.{is_free, is_spent, held_word}
use Rattle.machine_states.specs.body_terms.specs.declared.outcome.Refused.{Refused}
use Rattle.machine_states.specs.body_terms.specs.declared.outcome.Refused.TheVariants as refusals
use Rattle.machine_states.specs.body_terms.specs.declared.outcome.Outcome.{Outcome}
use Rattle.machine_states.specs.body_terms.specs.declared.outcome.Outcome.TheVariants as outcomes

-- why a lock with this expected word isn't got, by the word that was read: it names a descriptor, is free and has no
-- version left, or isn't the expected one
abbrev pub refused_by : ℕ → ℕ → ℕ → Refused
refused_by version_max expected read =
    cond (is_free read) (cond (is_spent version_max read) (refusals.Spent read) (refusals.Stale expected read))
    (refusals.Busy read)

-- the outcome of a Take of this lock that doesn't go on with this word
abbrev pub left_by : ℕ → ℕ → ℕ → ℕ → Outcome
left_by version_max place expected read = cond (is_free read)
    (cond (is_spent version_max read) (outcomes.Spent place read) (outcomes.Stale place expected read))
    (outcomes.Busy place read)

-- the outcome of a Take of this lock that was refused so
abbrev pub outcome_by : ℕ → Refused → Outcome
outcome_by place (refusals.Busy read) = outcomes.Busy place read
outcome_by place (refusals.Stale expected read) = outcomes.Stale place expected read
outcome_by place (refusals.Spent read) = outcomes.Spent place read

-- the outcome by the word before the lock is taken: none where it is the expected one, free and not spent
abbrev pub first_outcome : ℕ → ℕ → ℕ → ℕ → Option Outcome
first_outcome version_max place expected read =
    cond (read == expected && (is_free read && not (is_spent version_max read))) None
    (Some (left_by version_max place expected read))

-- and by the word after the exchange: none where it names the section
abbrev pub second_outcome : ℕ → ℕ → ℕ → ℕ → ℕ → Option Outcome
second_outcome version_max descriptor place expected read =
    cond (read == held_word descriptor expected) None (Some (left_by version_max place expected read))

-- and of one that gave this answer
abbrev pub outcome_at : ℕ → Result (Unit {0}) Refused → Option Outcome
outcome_at place (Ok taken) = None
outcome_at place (Err refused) = Some (outcome_by place refused)
