use Rattle.speed.proofs.attempt_rounds.rounds.serve_all.Goals as goal

pub returns-clause-number : goal.returns-clause-number
returns-clause-number g c = c.serve-worker.ensures.serves.knows.number
