use Rattle.epoch_slots.proofs.Boarding.{may_board_load, may_board_give, ready_loaded, given_own, given_none, given_one, left_enough}
use Rattle.epoch_slots.proofs.board.spare_one.Goals as goal

pub board_load-runner-requires-clause-next : goal.board_load-runner-requires-clause-next
board_load-runner-requires-clause-next g c κs within = may_board_load _ _ c.requires.ready _ c.requires.few

pub board_give-runner-requires-clause-next : goal.board_give-runner-requires-clause-next
board_give-runner-requires-clause-next g c κs within =
    let load = c.board_load-runner.ensures.event in
    may_board_give _ _ (ready_loaded _ _ _ c.requires.few _ _ c.requires.ready load) _ _ c.requires.few
    (given_own _ _ _ c.requires.few _ _ c.requires.ready load _ c.free_nodes-free.ensures.list c.requires.many)

pub board_give-runner-requires-clause-above : goal.board_give-runner-requires-clause-above
board_give-runner-requires-clause-above g c κs within =
    let met = g.met.S.Structure g.world.𝓛 g.world.𝓜 g.world.𝓡 ((λ s allowed. allowed), (λ patient. patient), (λ alone. alone), (λ cuts. cuts)) in
    let own = c.board_load-runner.ensures.own in
    left_enough _ _ _ c.requires.few _ _ c.requires.ready c.board_load-runner.ensures.event (met.laws c.args.table.now.structure) (own.limits _ own.layout) (own.allowed _ own.requests) _ c.requires.many

pub returns-then-link-eq0-clause-one : goal.returns-then-link-eq0-clause-one
returns-then-link-eq0-clause-one g c =
    let met = g.met.S.Structure g.world.𝓛 g.world.𝓜 g.world.𝓡 ((λ s allowed. allowed), (λ patient. patient), (λ alone. alone), (λ cuts. cuts)) in
    let own = c.board_load-runner.ensures.own in
    given_one _ _ _ c.requires.few _ _ c.requires.ready c.board_load-runner.ensures.event _ _ _ c.if-link-eq0.true c.board_give-runner.ensures.event
    (met.laws c.args.table.now.structure) (own.limits _ own.layout) (own.allowed _ own.requests) c.requires.many

pub returns-else-link-eq0-clause-one : goal.returns-else-link-eq0-clause-one
returns-else-link-eq0-clause-one g c = given_none _ _ _ c.requires.few _ _ c.requires.ready c.board_load-runner.ensures.event c.if-link-eq0.false
