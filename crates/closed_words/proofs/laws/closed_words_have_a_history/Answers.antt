use Rattle.closed_words.proofs.Reading.{have_history}
use Rattle.closed_words.proofs.laws.closed_words_have_a_history.Goals as goal

pub returns : goal.returns
returns g c =
    let met = g.met.S.Structure g.world.𝓛 g.world.𝓜 g.world.𝓡 ((λ s allowed. allowed), (λ patient. patient), (λ alone. alone), (λ cuts. cuts)) in
    have_history (g.S.Structure.meaning c.args.words.now.structure) (met.laws c.args.words.now.structure) c.args.words.now
    c.words_are_reached.ensures.limits c.words_are_reached.ensures.requests c.words_are_reached.ensures.shown
