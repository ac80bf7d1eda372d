-- A run's section, and what comes next in it.
use Rattle.std.specs.Prelude.{ℕ, ◌/◌, ◌%◌, ◌^◌, List, [], ◌∷◌, Bool, false, not, ◌==◌, ◌&&◌, nat_lt, length, slice_index, Option, None, Some}
use Rattle.runner_parts.specs.structure_laws.specs.body_terms.specs.declared.thunk.Thunk.{Thunk}
use Rattle.runner_parts.specs.structure_laws.specs.body_terms.specs.declared.micro.Micro.{Micro}
use Rattle.runner_parts.specs.structure_laws.specs.body_terms.specs.declared.micro.Micro.TheVariants.{CheckHeld, Commit, NestedCommit, OutcomeCommit, MakeCommit, RetireCommit}
use Rattle.runner_parts.specs.structure_laws.specs.body_terms.specs.declared.step.Step.{Step}
use Rattle.runner_parts.specs.structure_laws.specs.body_terms.specs.declared.step.Step.TheVariants.{Answer}
use Rattle.runner_parts.specs.structure_laws.specs.body_terms.specs.declared.outcome.Outcome.{Outcome}
use Rattle.runner_parts.specs.structure_laws.specs.body_terms.specs.declared.outcome.Outcome.TheVariants.{Answered}
use Rattle.runner_parts.specs.structure_laws.specs.body_terms.specs.Line.{line, micro_at, next_micro}
use Rattle.runner_parts.specs.structure_laws.specs.body_terms.specs.Run.{Setting, leaves, settled}
use Rattle.runner_parts.specs.block_words.specs.table_words.specs.declared.layout.Layout.{Layout}
use Rattle.runner_parts.specs.block_words.specs.table_words.specs.Places.{part_words}
use Rattle.runner_parts.specs.structure_laws.specs.Meaning.{Meaning}
use Rattle.runner_parts.specs.State.{RunState}

-- the thunk that these words hold
abbrev pub thunk_of : List ℕ → Thunk
thunk_of words = record {
  form = slice_index words 0;
  request = slice_index words 1 % 2 ^ 32;
  lock = slice_index words 2 % 2 ^ 32;
  word = slice_index words 3;
  operands = slice_index words 4 ∷ slice_index words 5 ∷ slice_index words 6 ∷ slice_index words 7
      ∷ slice_index words 8 ∷ slice_index words 9 ∷ slice_index words 10 ∷ slice_index words 11 ∷ [];
}

-- no run comes to this place of its line, or makes as many exchanges at its end
abbrev pub line_limit : ℕ
line_limit = 440

-- the thunk words and the done word have all been loaded
abbrev pub is_open_run : RunState → Bool
is_open_run q = length q.opened == 13 && (nat_lt q.at line_limit && nat_lt q.ended line_limit)

-- the run found its section done
abbrev pub is_late : RunState → Bool
is_late q = not (slice_index q.opened 12 == 0)

-- the line of the run's body
abbrev pub line_of : Meaning → RunState → List Micro
line_of m q = line (m.body (thunk_of q.opened))

-- the step on a shared word that comes next
abbrev pub next_of : Meaning → RunState → Micro
next_of m q = let t = thunk_of q.opened in next_micro (line_of m q) q.at q.ended t.lock t.word

-- the place in the log to which a step commits, if it does
abbrev pub commits_to : Micro → Option ℕ
commits_to (Commit place log) = Some log
commits_to (NestedCommit place log) = Some log
commits_to (OutcomeCommit place log) = Some log
commits_to (MakeCommit log) = Some log
commits_to (RetireCommit slot log) = Some log
commits_to _ = None

-- this place is in a part of the log that isn't linked yet, as far as the run knows
abbrev pub is_beyond : RunState → Option ℕ → Bool
is_beyond q None = false
is_beyond q (Some log) = nat_lt (length q.links) (log / part_words)

-- before this step the run links a block
abbrev pub needs_link : RunState → Micro → Bool
needs_link q micro = is_beyond q (commits_to micro)

-- by what the checks of this run go
abbrev pub setting_of : Layout → ℕ → Setting
setting_of l descriptor = record {
  version_max = l.version_max;
  fixed_cells = 0;
  descriptor = descriptor;
  taken = λ log. 0;
  refused = λ log. false;
  slot = λ log. 0;
  first = λ log cell. 0;
  clock = 0;
}

-- the run behind the checks that pass
abbrev pub settles : Meaning → Layout → RunState → RunState
settles m l q = record q { at = settled (setting_of l q.descriptor) q.trail (line_of m q) q.at }

-- the nested lock that this step found to be held, with the free word that it had before
abbrev pub lock_of : Micro → Option (ℕ × ℕ)
lock_of (CheckHeld place log word) = Some (place, word)
lock_of _ = None

-- the reply of a body's Answer
abbrev pub reply_in : List Step → ℕ
reply_in [] = 0
reply_in (Answer reply ∷ steps) = reply
reply_in (step ∷ steps) = reply_in steps

abbrev pub outcome_or : Option Outcome → ℕ → Outcome
outcome_or None reply = Answered reply
outcome_or (Some outcome) reply = outcome

-- how a run ends that rests here: it leaves at a check, or it went through
abbrev pub outcome_of : Meaning → Layout → RunState → Outcome
outcome_of m l q =
    outcome_or (leaves (setting_of l q.descriptor) q.trail (micro_at (line_of m q) q.at))
    (reply_in (m.body (thunk_of q.opened)))
