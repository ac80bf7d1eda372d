use Rattle.machine_invariant.proofs.After.{log_words_after}
use Rattle.machine_invariant.proofs.LogWords.{log_words_say}
use Rattle.machine_invariant.proofs.laws.log_words_follow_runs.Goals as goal

pub returns-clause-whole : goal.returns-clause-whole
returns-clause-whole g c = λ layout b s whole. log_words_say (g.S.Structure.meaning c.args.structure.now) layout b s whole

pub returns-clause-reached : goal.returns-clause-reached
returns-clause-reached g c = λ layout requests events w limits allowed after.
    let met = g.met.S.Structure g.world.𝓛 g.world.𝓜 g.world.𝓡 ((λ s allowed. allowed), (λ patient. patient), (λ alone. alone), (λ cuts. cuts)) in
    log_words_after (g.S.Structure.meaning c.args.structure.now) (met.laws c.args.structure.now) layout requests events w limits allowed after
