use Rattle.std.proofs.Common.{subst}
use Rattle.seq_read.specs.Wants.{IsTested}
use Rattle.seq_read.proofs.Testing.{tested_still, tested_one}
use Rattle.seq_read.proofs.wants.missed_behind.Goals as goal

pub returns-in-Some : goal.returns-in-Some
returns-in-Some c = λ steps reg xs one is. tested_still steps xs (record { place = c.args.wanted.now.place; into = reg; word = c.args.found }) c.in-Some.first
    (subst (λ o. IsTested steps xs o) c.in-Some.is is)

pub returns-in-None : goal.returns-in-None
returns-in-None c = λ steps reg xs one is. tested_one steps xs c.args.wanted.now c.args.found reg c.missed_of.result one
    (subst (λ o. IsTested steps xs o) c.in-None.is is) c.missed_of.ensures.some c.missed_of.ensures.none
