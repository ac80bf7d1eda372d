use Rattle.std.proofs.Common.{subst}
use Rattle.seq_read.specs.Wants.{IsTested}
use Rattle.seq_read.proofs.Testing.{tested_still, tested_next}
use Rattle.seq_read.proofs.wants.missed_with.Goals as goal

pub returns-in-Some : goal.returns-in-Some
returns-in-Some c = λ xs is. tested_still c.args.steps.now xs c.args.cell.now c.in-Some.first
    (subst (λ o. IsTested c.args.steps.now xs o) c.in-Some.is is)

pub returns-in-None : goal.returns-in-None
returns-in-None c = λ xs is. tested_next c.args.steps.now xs c.args.cell.now c.first_missed.result
    (subst (λ o. IsTested c.args.steps.now xs o) c.in-None.is is) c.first_missed.ensures.some c.first_missed.ensures.none
