use Rattle.std.proofs.Common.{◌+◌, Option, Some, ℕ, ap, arith, subst, sym, ◌∙◌}
use Rattle.std.specs.FinMap.{len}
use Rattle.report_check.proofs.Replays.{Replaying, legal_line, none_line, replaying_right, replaying_wrong, size_is, some_line, turn_is, wrong_within}
use Rattle.report_check.proofs.replay.replay.Goals.{then-not-is_answered, else-not-is_answered}
use Rattle.report_check.proofs.replay.replay.Goals as goal

pub bounds-requests-place : goal.bounds-requests-place
bounds-requests-place c = (turn_is c.args.requests.now c.args.answers.now c.args.turns.now c.requires.one_each c.requires.all c.requires.ranked c.loop-k.k c.loop-k-test.true).1.within

pub bounds-answers-place : goal.bounds-answers-place
bounds-answers-place c =
    let within = (turn_is c.args.requests.now c.args.answers.now c.args.turns.now c.requires.one_each c.requires.all c.requires.ranked c.loop-k.k c.loop-k-test.true).1.within in
    omega (arith, within, c.requires.one_each)

pub loop-k-preserved : goal.loop-k-preserved
loop-k-preserved c =
    let requests = c.args.requests.now in
    let answers = c.args.answers.now in
    let turns = c.args.turns.now in
    let k = c.loop-k.k in
    let found = turn_is requests answers turns c.requires.one_each c.requires.all c.requires.ranked k c.loop-k-test.true in
    let is = found.1 in
    let on = λ (o : Option ℕ). Replaying requests answers turns (k + 1) c.apply.new.self o in
    elim c.if-not-is_answered.branch [
      | then-not-is_answered w ↦ subst on (sym (w.wrong-is ∙ ap Some w.first_of.ensures))
          (replaying_wrong requests answers turns c.requires.one_each c.requires.all c.requires.ranked k c.loop-k.book c.loop-k.wrong found.0 c.in_ok-reply.reply is c.loop-k.invariant c.in_ok-reply.ensures.reply
          c.apply.new.self c.loop-k-test.true c.in_ok-reply.ensures.ok (c.is_answered.ensures.no found.0 is.said w.if-not-is_answered.true))
      | else-not-is_answered w ↦ subst on (sym w.wrong-is)
          (replaying_right requests answers turns c.requires.one_each c.requires.all c.requires.ranked k c.loop-k.book c.loop-k.wrong found.0 c.in_ok-reply.reply is c.loop-k.invariant c.in_ok-reply.ensures.reply
          c.apply.new.self c.loop-k-test.true c.in_ok-reply.ensures.ok (c.is_answered.ensures.yes found.0 is.said w.if-not-is_answered.false))
    ]

pub line_of-requires-clause-within : goal.line_of-requires-clause-within
line_of-requires-clause-within c = wrong_within c.args.requests.now c.args.answers.now c.args.turns.now c.loop-k.k c.loop-k.book c.loop-k.wrong c.loop-k.invariant

pub returns-clause-some : goal.returns-clause-some
returns-clause-some c = some_line c.args.requests.now c.args.answers.now c.args.turns.now c.requires.one_each c.requires.all c.requires.ranked c.loop-k.k c.loop-k.book c.loop-k.wrong c.line_of.result c.loop-k-test.false c.loop-k.invariant c.line_of.ensures

pub returns-clause-none : goal.returns-clause-none
returns-clause-none c = none_line c.args.requests.now c.args.answers.now c.args.turns.now c.requires.one_each c.requires.all c.requires.ranked c.loop-k.k c.loop-k.book c.loop-k.wrong c.line_of.result c.loop-k-test.false c.loop-k.invariant c.line_of.ensures

pub returns-clause-legal : goal.returns-clause-legal
returns-clause-legal c = legal_line c.args.requests.now c.args.answers.now c.args.turns.now c.requires.one_each c.requires.all c.requires.ranked c.loop-k.k c.loop-k.book c.loop-k.wrong c.line_of.result c.loop-k-test.false c.loop-k.invariant c.line_of.ensures

pub returns-clause-size : goal.returns-clause-size
returns-clause-size c = c.len.ensures ∙ ap len (size_is c.args.requests.now c.args.answers.now c.args.turns.now c.requires.one_each c.requires.all c.requires.ranked c.loop-k.k c.loop-k.book c.loop-k.wrong c.loop-k-test.false c.loop-k.invariant)
