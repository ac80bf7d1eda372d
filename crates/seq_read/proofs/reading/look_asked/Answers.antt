use Rattle.caller_facts.specs.Counted.{IsSeen}
use Rattle.seq_read.proofs.Telling.{told_rests}
use Rattle.seq_read.proofs.reading.look_asked.Goals as goal

-- what was counted apart is told the gate
pub returns-clause-rests : goal.returns-clause-rests
returns-clause-rests g c = λ readings old is.
    told_rests _ _ _ _ _ _ _ _ (IsSeen g.G.Gate.halts g.G.Gate.asks) _ _ _ _ _ _ _ _ _ _ c.new-made.ensures
    (c.look_at-runner.ensures.rests readings old is) c.tell.ensures.told
