use Rattle.std.proofs.Common.{arith}
use Rattle.body_terms.proofs.CostLemmas.{words_in, whole_run, part_run}
use Rattle.body_terms.proofs.costs.cost.Goals as goal

pub returns-clause-exact : goal.returns-clause-exact
returns-clause-exact c = let words = words_in c.args.body.now in grind arith

pub returns-clause-whole : goal.returns-clause-whole
returns-clause-whole c = λ lock word. let whole = whole_run c.args.body.now lock word in let words = words_in c.args.body.now in grind arith

pub returns-clause-most : goal.returns-clause-most
returns-clause-most c = λ at lock word. let most = part_run c.args.body.now at lock word in let words = words_in c.args.body.now in grind arith
