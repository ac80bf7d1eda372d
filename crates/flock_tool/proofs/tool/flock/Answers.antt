use Rattle.std.proofs.Common.{refl, sym, ◌∙◌, inl, inr, ⊎_elim, subst, arith, None}
use Rattle.command_line.specs.Commands.{IsCommand, texts}
use Rattle.command_line.specs.declared.command.Command.TheVariants as commands
use Rattle.flock_tool.proofs.Asking.{asks_often, load_asks, reads_first, run_asks}
use Rattle.flock_tool.proofs.CheckPrinting.{check_few, check_silent, check_writes}
use Rattle.flock_tool.proofs.Commanding.{back_none, gen_few, load_few, none_accepted, none_status, of_none, of_one, refused_ends}
use Rattle.flock_tool.proofs.Completing.{load_keeps, none_keeps, run_keeps, whole, whole_alone}
use Rattle.flock_tool.proofs.Owned.{none_own, own_of_one}
use Rattle.flock_tool.proofs.Running.{if_none}
use Rattle.flock_tool.proofs.tool.flock.Goals as goal

pub returns-in-Err-clause-commands : goal.returns-in-Err-clause-commands
returns-in-Err-clause-commands g c =
    of_none c.refuse.result _ _ _ _ (texts c.args.words.now) c.in-Err.stop c.in-Err.ensures.refused c.refuse.ensures.status c.refuse.ensures.none c.refuse.ensures.told
    (record { same = refl; steady = refl }) (record { same = refl; steady = refl }) (record { returned = refl; halts = refl; asks = refl; plans = refl; planned = refl })

pub returns-in-Err-clause-complete : goal.returns-in-Err-clause-complete
returns-in-Err-clause-complete g c = λ command is. whole c.refuse.result _ _ _ _ command (returns-in-Err-clause-commands g c command is)

pub returns-in-Err-clause-alone : goal.returns-in-Err-clause-alone
returns-in-Err-clause-alone g c = λ command is. whole_alone c.refuse.result _ _ _ _ command (returns-in-Err-clause-commands g c command is)

pub returns-in-Err-clause-versions : goal.returns-in-Err-clause-versions
returns-in-Err-clause-versions g c = none_keeps c.refuse.result c.refuse.ensures.none

pub returns-in-Err-clause-asks : goal.returns-in-Err-clause-asks
returns-in-Err-clause-asks g c = if_none _ c.refuse.result.1 c.refuse.ensures.none

pub returns-in-Err-clause-often : goal.returns-in-Err-clause-often
returns-in-Err-clause-often g c = λ command is. asks_often command c.refuse.result _ _ _ _ (returns-in-Err-clause-commands g c command is)

pub returns-in-Err-clause-odd : goal.returns-in-Err-clause-odd
returns-in-Err-clause-odd g c = λ command is. reads_first command c.refuse.result _ _ _ _ (returns-in-Err-clause-commands g c command is)

pub returns-in-Err-clause-accepted : goal.returns-in-Err-clause-accepted
returns-in-Err-clause-accepted g c = λ accepted two. absurd (none_accepted (texts c.args.words.now) c.in-Err.stop c.in-Err.ensures.refused accepted (sym c.refuse.ensures.status ∙ two))

pub returns-in-Err-clause-words : goal.returns-in-Err-clause-words
returns-in-Err-clause-words g c = λ _.
    refused_ends c.refuse.result _ _ _ _ (texts c.args.words.now) c.in-Err.stop c.in-Err.ensures.refused c.refuse.ensures.status c.refuse.ensures.none c.refuse.ensures.told
    (record { same = refl; steady = refl }) (record { same = refl; steady = refl }) (record { returned = refl; halts = refl; asks = refl; plans = refl; planned = refl })

pub returns-in-Err-clause-none : goal.returns-in-Err-clause-none
returns-in-Err-clause-none g c = λ _. c.refuse.ensures.none

pub returns-in-Err-clause-statuses : goal.returns-in-Err-clause-statuses
returns-in-Err-clause-statuses g c =
    ⊎_elim (λ two. omega (arith, two, c.refuse.ensures.status)) (λ seven. omega (arith, seven, c.refuse.ensures.status))
    (none_status (texts c.args.words.now) c.in-Err.stop c.in-Err.ensures.refused)

pub returns-in-Run-clause-commands : goal.returns-in-Run-clause-commands
returns-in-Run-clause-commands g c =
    of_one c.run_command.result _ _ _ _ (texts c.args.words.now) (commands.Run c.in-Run.options) (c.words_mean_one_command.ensures (texts c.args.words.now))
    (subst (IsCommand (texts c.args.words.now)) c.in-Run.is c.in-Ok.ensures.read) c.run_command.ensures.ends

pub returns-in-Run-clause-complete : goal.returns-in-Run-clause-complete
returns-in-Run-clause-complete g c = λ command is. whole c.run_command.result _ _ _ _ command (returns-in-Run-clause-commands g c command is)

pub returns-in-Run-clause-alone : goal.returns-in-Run-clause-alone
returns-in-Run-clause-alone g c = λ command is. whole_alone c.run_command.result _ _ _ _ command (returns-in-Run-clause-commands g c command is)

pub returns-in-Run-clause-versions : goal.returns-in-Run-clause-versions
returns-in-Run-clause-versions g c = run_keeps c.in-Run.options c.run_command.result _ _ _ _ c.run_command.ensures.ends

pub returns-in-Run-clause-asks : goal.returns-in-Run-clause-asks
returns-in-Run-clause-asks g c = run_asks c.in-Run.options c.run_command.result _ _ _ _ c.run_command.ensures.ends

pub returns-in-Run-clause-often : goal.returns-in-Run-clause-often
returns-in-Run-clause-often g c = λ command is. asks_often command c.run_command.result _ _ _ _ (returns-in-Run-clause-commands g c command is)

pub returns-in-Run-clause-odd : goal.returns-in-Run-clause-odd
returns-in-Run-clause-odd g c = λ command is. reads_first command c.run_command.result _ _ _ _ (returns-in-Run-clause-commands g c command is)

pub returns-in-Run-clause-accepted : goal.returns-in-Run-clause-accepted
returns-in-Run-clause-accepted g c = λ accepted two. record {
  options = c.in-Run.options;
  command = subst (IsCommand (texts c.args.words.now)) c.in-Run.is c.in-Ok.ensures.read;
  another = (c.run_command.ensures.ends.words two).0;
}

pub returns-in-Run-clause-words : goal.returns-in-Run-clause-words
returns-in-Run-clause-words g c = λ not. absurd (not (c.in-Ok.command, c.in-Ok.ensures.read))

pub returns-in-Run-clause-none : goal.returns-in-Run-clause-none
returns-in-Run-clause-none g c = back_none c.run_command.result c.run_command.ensures.ends.ran

pub returns-in-Gen-clause-commands : goal.returns-in-Gen-clause-commands
returns-in-Gen-clause-commands g c =
    of_one _ _ _ _ _ (texts c.args.words.now) (commands.Gen c.in-Gen.plan) (c.words_mean_one_command.ensures (texts c.args.words.now))
    (subst (IsCommand (texts c.args.words.now)) c.in-Gen.is c.in-Ok.ensures.read)
    (record { none = refl; unread = record { same = refl; steady = refl }; idle = record { returned = refl; halts = refl; asks = refl; plans = refl; planned = refl }; prints = c.gen_command.ensures })

pub returns-in-Gen-clause-complete : goal.returns-in-Gen-clause-complete
returns-in-Gen-clause-complete g c = λ command is. whole _ _ _ _ _ command (returns-in-Gen-clause-commands g c command is)

pub returns-in-Gen-clause-alone : goal.returns-in-Gen-clause-alone
returns-in-Gen-clause-alone g c = λ command is. whole_alone _ _ _ _ _ command (returns-in-Gen-clause-commands g c command is)

pub returns-in-Gen-clause-versions : goal.returns-in-Gen-clause-versions
returns-in-Gen-clause-versions g c = none_keeps (c.gen_command.result, None) refl

pub returns-in-Gen-clause-asks : goal.returns-in-Gen-clause-asks
returns-in-Gen-clause-asks g c = tt

pub returns-in-Gen-clause-often : goal.returns-in-Gen-clause-often
returns-in-Gen-clause-often g c = λ command is. asks_often command _ _ _ _ _ (returns-in-Gen-clause-commands g c command is)

pub returns-in-Gen-clause-odd : goal.returns-in-Gen-clause-odd
returns-in-Gen-clause-odd g c = λ command is. reads_first command _ _ _ _ _ (returns-in-Gen-clause-commands g c command is)

pub returns-in-Gen-clause-accepted : goal.returns-in-Gen-clause-accepted
returns-in-Gen-clause-accepted g c = λ accepted two. absurd ((gen_few c.in-Gen.plan c.gen_command.result _ _ c.gen_command.ensures).0 two)

pub returns-in-Gen-clause-words : goal.returns-in-Gen-clause-words
returns-in-Gen-clause-words g c = λ not. absurd (not (c.in-Ok.command, c.in-Ok.ensures.read))

pub returns-in-Gen-clause-none : goal.returns-in-Gen-clause-none
returns-in-Gen-clause-none g c = λ _. refl

pub returns-in-Gen-clause-writes : goal.returns-in-Gen-clause-writes
returns-in-Gen-clause-writes g c = c.gen_command.ensures.steady

pub returns-in-Gen-clause-silent : goal.returns-in-Gen-clause-silent
returns-in-Gen-clause-silent g c = λ not ten. c.gen_command.ensures.silent (λ zero. not (inl zero)) (λ nine. not (inr (inr (inr (inr nine)))))

pub returns-in-Gen-clause-statuses : goal.returns-in-Gen-clause-statuses
returns-in-Gen-clause-statuses g c = omega (arith, (gen_few c.in-Gen.plan c.gen_command.result _ _ c.gen_command.ensures).1)

pub returns-in-Load-clause-commands : goal.returns-in-Load-clause-commands
returns-in-Load-clause-commands g c =
    of_one c.load_command.result _ _ _ _ (texts c.args.words.now) (commands.Load c.in-Load.load) (c.words_mean_one_command.ensures (texts c.args.words.now))
    (subst (IsCommand (texts c.args.words.now)) c.in-Load.is c.in-Ok.ensures.read)
    (record { unread = record { same = refl; steady = refl }; runs = c.load_command.ensures.runs })

pub returns-in-Load-clause-complete : goal.returns-in-Load-clause-complete
returns-in-Load-clause-complete g c = λ command is. whole c.load_command.result _ _ _ _ command (returns-in-Load-clause-commands g c command is)

pub returns-in-Load-clause-alone : goal.returns-in-Load-clause-alone
returns-in-Load-clause-alone g c = λ command is. whole_alone c.load_command.result _ _ _ _ command (returns-in-Load-clause-commands g c command is)

pub returns-in-Load-clause-versions : goal.returns-in-Load-clause-versions
returns-in-Load-clause-versions g c = load_keeps c.in-Load.load c.load_command.result _ _ _ c.load_command.ensures.runs

pub returns-in-Load-clause-asks : goal.returns-in-Load-clause-asks
returns-in-Load-clause-asks g c = load_asks c.in-Load.load c.load_command.result _ _ _ c.load_command.ensures.runs

pub returns-in-Load-clause-often : goal.returns-in-Load-clause-often
returns-in-Load-clause-often g c = λ command is. asks_often command c.load_command.result _ _ _ _ (returns-in-Load-clause-commands g c command is)

pub returns-in-Load-clause-odd : goal.returns-in-Load-clause-odd
returns-in-Load-clause-odd g c = λ command is. reads_first command c.load_command.result _ _ _ _ (returns-in-Load-clause-commands g c command is)

pub returns-in-Load-clause-accepted : goal.returns-in-Load-clause-accepted
returns-in-Load-clause-accepted g c = λ accepted two. absurd ((load_few c.in-Load.load c.load_command.result _ _ _ c.load_command.ensures.runs).0 two)

pub returns-in-Load-clause-words : goal.returns-in-Load-clause-words
returns-in-Load-clause-words g c = λ not. absurd (not (c.in-Ok.command, c.in-Ok.ensures.read))

pub returns-in-Load-clause-none : goal.returns-in-Load-clause-none
returns-in-Load-clause-none g c = back_none c.load_command.result c.load_command.ensures.runs.ran

pub returns-in-Load-clause-writes : goal.returns-in-Load-clause-writes
returns-in-Load-clause-writes g c = c.load_command.ensures.runs.steady

pub returns-in-Load-clause-silent : goal.returns-in-Load-clause-silent
returns-in-Load-clause-silent g c = λ not ten. c.load_command.ensures.runs.silent not

pub returns-in-Load-clause-statuses : goal.returns-in-Load-clause-statuses
returns-in-Load-clause-statuses g c = omega (arith, (load_few c.in-Load.load c.load_command.result _ _ _ c.load_command.ensures.runs).1)

pub returns-in-Check-clause-commands : goal.returns-in-Check-clause-commands
returns-in-Check-clause-commands g c =
    of_one _ _ _ _ _ (texts c.args.words.now) commands.Check (c.words_mean_one_command.ensures (texts c.args.words.now))
    (subst (IsCommand (texts c.args.words.now)) c.in-Check.is c.in-Ok.ensures.read)
    (record { none = refl; idle = record { returned = refl; halts = refl; asks = refl; plans = refl; planned = refl }; prints = c.check_command.ensures })

pub returns-in-Check-clause-complete : goal.returns-in-Check-clause-complete
returns-in-Check-clause-complete g c = λ command is. whole _ _ _ _ _ command (returns-in-Check-clause-commands g c command is)

pub returns-in-Check-clause-alone : goal.returns-in-Check-clause-alone
returns-in-Check-clause-alone g c = λ command is. whole_alone _ _ _ _ _ command (returns-in-Check-clause-commands g c command is)

pub returns-in-Check-clause-versions : goal.returns-in-Check-clause-versions
returns-in-Check-clause-versions g c = none_keeps (c.check_command.result, None) refl

pub returns-in-Check-clause-asks : goal.returns-in-Check-clause-asks
returns-in-Check-clause-asks g c = tt

pub returns-in-Check-clause-often : goal.returns-in-Check-clause-often
returns-in-Check-clause-often g c = λ command is. asks_often command _ _ _ _ _ (returns-in-Check-clause-commands g c command is)

pub returns-in-Check-clause-odd : goal.returns-in-Check-clause-odd
returns-in-Check-clause-odd g c = λ command is. reads_first command _ _ _ _ _ (returns-in-Check-clause-commands g c command is)

pub returns-in-Check-clause-accepted : goal.returns-in-Check-clause-accepted
returns-in-Check-clause-accepted g c = λ accepted two. absurd ((check_few c.check_command.result _ _ _ c.check_command.ensures).0 two)

pub returns-in-Check-clause-words : goal.returns-in-Check-clause-words
returns-in-Check-clause-words g c = λ not. absurd (not (c.in-Ok.command, c.in-Ok.ensures.read))

pub returns-in-Check-clause-none : goal.returns-in-Check-clause-none
returns-in-Check-clause-none g c = λ _. refl

pub returns-in-Check-clause-reads : goal.returns-in-Check-clause-reads
returns-in-Check-clause-reads g c = c.check_command.ensures.reads

pub returns-in-Check-clause-writes : goal.returns-in-Check-clause-writes
returns-in-Check-clause-writes g c = check_writes c.check_command.result _ _ _ c.check_command.ensures

pub returns-in-Check-clause-silent : goal.returns-in-Check-clause-silent
returns-in-Check-clause-silent g c = λ not ten. check_silent c.check_command.result _ _ _ c.check_command.ensures (λ zero. not (inl zero)) ten (λ nine. not (inr (inr (inr (inr nine)))))

pub returns-in-Check-clause-statuses : goal.returns-in-Check-clause-statuses
returns-in-Check-clause-statuses g c = (check_few c.check_command.result _ _ _ c.check_command.ensures).1

pub returns-in-Check-clause-checks : goal.returns-in-Check-clause-checks
returns-in-Check-clause-checks g c = λ _. subst (IsCommand (texts c.args.words.now)) c.in-Check.is c.in-Ok.ensures.read

-- no other command ends with 10
pub returns-in-Err-clause-checks : goal.returns-in-Err-clause-checks
returns-in-Err-clause-checks g c = λ ten.
    absurd (⊎_elim (λ two. omega (arith, ten, two, c.refuse.ensures.status)) (λ seven. omega (arith, ten, seven, c.refuse.ensures.status))
    (none_status (texts c.args.words.now) c.in-Err.stop c.in-Err.ensures.refused))

pub returns-in-Run-clause-checks : goal.returns-in-Run-clause-checks
returns-in-Run-clause-checks g c = λ ten. absurd (omega (arith, ten, c.run_command.ensures.statuses))

pub returns-in-Gen-clause-checks : goal.returns-in-Gen-clause-checks
returns-in-Gen-clause-checks g c = λ ten. absurd (omega (arith, ten, (gen_few c.in-Gen.plan c.gen_command.result _ _ c.gen_command.ensures).1))

pub returns-in-Load-clause-checks : goal.returns-in-Load-clause-checks
returns-in-Load-clause-checks g c = λ ten. absurd (omega (arith, ten, (load_few c.in-Load.load c.load_command.result _ _ _ c.load_command.ensures.runs).1))

-- the gates that the runners had
pub returns-in-Err-clause-gates : goal.returns-in-Err-clause-gates
returns-in-Err-clause-gates g c = λ command is. none_own _ _ c.refuse.result _ _ _ c.refuse.ensures.none

pub returns-in-Run-clause-gates : goal.returns-in-Run-clause-gates
returns-in-Run-clause-gates g c =
    own_of_one _ _ c.run_command.result _ (texts c.args.words.now) (commands.Run c.in-Run.options) (c.words_mean_one_command.ensures (texts c.args.words.now))
    (subst (IsCommand (texts c.args.words.now)) c.in-Run.is c.in-Ok.ensures.read) c.run_command.ensures.gates

pub returns-in-Gen-clause-gates : goal.returns-in-Gen-clause-gates
returns-in-Gen-clause-gates g c = λ command is. tt

pub returns-in-Load-clause-gates : goal.returns-in-Load-clause-gates
returns-in-Load-clause-gates g c =
    own_of_one _ _ c.load_command.result _ (texts c.args.words.now) (commands.Load c.in-Load.load) (c.words_mean_one_command.ensures (texts c.args.words.now))
    (subst (IsCommand (texts c.args.words.now)) c.in-Load.is c.in-Ok.ensures.read) c.load_command.ensures.gates

pub returns-in-Check-clause-gates : goal.returns-in-Check-clause-gates
returns-in-Check-clause-gates g c = λ command is. tt
