use Rattle.one_worker.proofs.BoardReached.{reached_bare}
use Rattle.one_worker.proofs.board.lone_board_is_empty.Goals as goal

pub returns : goal.returns
returns g c = λ layout requests w limits allowed reached one.
    let met = g.met.S.Structure g.world.𝓛 g.world.𝓜 g.world.𝓡 ((λ s allowed. allowed), (λ patient. patient), (λ alone. alone), (λ cuts. cuts)) in
    reached_bare (g.S.Structure.meaning c.args.structure.now) (met.laws c.args.structure.now) layout limits requests allowed one w reached
