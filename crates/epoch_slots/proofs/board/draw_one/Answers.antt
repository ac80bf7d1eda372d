use Rattle.epoch_slots.proofs.Boarding.{may_board_load, may_board_take, ready_loaded, read_loaded, taken_none, taken_one}
use Rattle.epoch_slots.proofs.board.draw_one.Goals as goal

pub board_load-runner-requires-clause-next : goal.board_load-runner-requires-clause-next
board_load-runner-requires-clause-next g c κs within = may_board_load _ _ c.requires.ready _ c.requires.few

pub board_take-runner-requires-clause-next : goal.board_take-runner-requires-clause-next
board_take-runner-requires-clause-next g c κs within =
    let load = c.board_load-runner.ensures.event in
    may_board_take _ _ (ready_loaded _ _ _ c.requires.few _ _ c.requires.ready load) _ _ c.requires.few c.if-link-eq0.false (read_loaded _ _ _ c.requires.few _ _ c.requires.ready load)

pub returns-then-link-eq0-clause-one : goal.returns-then-link-eq0-clause-one
returns-then-link-eq0-clause-one g c = taken_none _ _ _ c.requires.few _ _ c.requires.ready c.board_load-runner.ensures.event c.if-link-eq0.true

pub returns-else-link-eq0-clause-one : goal.returns-else-link-eq0-clause-one
returns-else-link-eq0-clause-one g c = taken_one _ _ _ c.requires.few _ _ c.requires.ready c.board_load-runner.ensures.event _ _ c.if-link-eq0.false c.board_take-runner.ensures.event
