use Rattle.speed.proofs.Asked.{requests_one_key}
use Rattle.speed.proofs.attempt_rounds.rounds.serve_round.Goals as goal

pub serve_on-requires-clause-serves : goal.serve_on-requires-clause-serves
serve_on-requires-clause-serves g c κs within = requests_one_key c.args.round.kind c.args.round.count

pub serve_on-requires-in-Tree-clause-serves : goal.serve_on-requires-in-Tree-clause-serves
serve_on-requires-in-Tree-clause-serves g c κs within = requests_one_key c.args.round.kind c.args.round.count
