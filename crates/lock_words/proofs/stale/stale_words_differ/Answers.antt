use Rattle.lock_words.proofs.StaleReached.{reached_stale}
use Rattle.lock_words.proofs.stale.stale_words_differ.Goals as goal

pub returns : goal.returns
returns g c = λ layout requests w limits allowed reached.
    let met = g.met.S.Structure g.world.𝓛 g.world.𝓜 g.world.𝓡 ((λ s allowed. allowed), (λ patient. patient), (λ alone. alone), (λ cuts. cuts)) in
    reached_stale (g.S.Structure.meaning c.args.structure.now) (met.laws c.args.structure.now) layout limits requests allowed w reached
