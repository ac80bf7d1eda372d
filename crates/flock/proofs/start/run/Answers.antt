use Rattle.std.proofs.Common.{◌≡◌, ℕ, Option, sym, ◌∙◌, ⊎_elim, inl, inr, subst, refl, arith}
use Rattle.flock_tool.specs.command_line.specs.declared.command.Command.{Command}
use Rattle.flock_tool.specs.Alone.{KeepsVersions}
use Rattle.flock_tool.specs.Commands.{Ends}
use Rattle.flock_tool.specs.Runs.{IsRunStatus}
use Rattle.flock_tool.specs.Streams.{Gating, Stream}
use Rattle.flock_tool.specs.declared.ran.Ran.{Ran}
use Rattle.flock.proofs.start.run.Goals as goal

-- the call's status is that of the program
ends_as : (command : Command) (number : ℕ) (result : ℕ × Option Ran) (source sink faults : Stream) (gates : Gating) → number ≡ result.0
    → Ends command result source sink faults gates → Ends command (number, result.1) source sink faults gates
ends_as command number result source sink faults gates same ends = subst (λ (n : ℕ). Ends command (n, result.1) source sink faults gates) (sym same) ends

versions_as : (number : ℕ) (result : ℕ × Option Ran) → number ≡ result.0 → KeepsVersions result → KeepsVersions (number, result.1)
versions_as number result same keeps = subst (λ (n : ℕ). KeepsVersions (n, result.1)) (sym same) keeps

pub returns-clause-commands : goal.returns-clause-commands
returns-clause-commands g c = λ command is. let left = c.flock-status.ensures in record {
  back = c.flock-status.result.1;
  ends = ends_as command _ c.flock-status.result _ _ _ _ c.from.ensures (left.commands command is);
  complete = λ valid nothing. ⊎_elim
      (λ whole. inl (record { status = c.from.ensures ∙ whole.status; answered = whole.answered }))
      (λ seven. inr (c.from.ensures ∙ seven))
      (left.complete command is valid nothing);
  versions = versions_as _ c.flock-status.result c.from.ensures left.versions;
  few = left.asks;
  often = left.often command is;
  own = left.gates command is;
  odd = left.odd command is;
  none = λ not. left.none (λ run. not (subst IsRunStatus (sym c.from.ensures) run));
}

pub returns-clause-alone : goal.returns-clause-alone
returns-clause-alone g c = λ command is valid stops.
    ⊎_elim (λ whole. inl (c.from.ensures ∙ whole.status)) (λ seven. inr (c.from.ensures ∙ seven)) (c.flock-status.ensures.alone command is valid stops)

pub returns-clause-accepted : goal.returns-clause-accepted
returns-clause-accepted g c = λ accepted two. c.flock-status.ensures.accepted accepted (sym c.from.ensures ∙ two)

pub returns-clause-words : goal.returns-clause-words
returns-clause-words g c = λ not. let ends = c.flock-status.ensures.words not in record {
  status = ⊎_elim (λ two. inl (c.from.ensures ∙ two)) (λ seven. inr (c.from.ensures ∙ seven)) ends.status;
  none = refl;
  unread = ends.unread;
  silent = ends.silent;
  idle = ends.idle;
  words = λ two. ends.words (sym c.from.ensures ∙ two);
  memory = λ seven. ends.memory (sym c.from.ensures ∙ seven);
}

pub returns-clause-silent : goal.returns-clause-silent
returns-clause-silent g c = λ not ten.
    c.flock-status.ensures.silent (λ run. not (subst IsRunStatus (sym c.from.ensures) run)) (λ is. ten (c.from.ensures ∙ is))

pub returns-clause-statuses : goal.returns-clause-statuses
returns-clause-statuses g c = omega (arith, c.from.ensures, c.flock-status.ensures.statuses)

pub returns-clause-checks : goal.returns-clause-checks
returns-clause-checks g c = λ ten. c.flock-status.ensures.checks (sym c.from.ensures ∙ ten)
