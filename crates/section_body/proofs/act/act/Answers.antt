use Rattle.std.proofs.Common.{◌∷◌, [], ◌++◌, ap, ◌∙◌}
use Rattle.body_terms.specs.Line.{registers_before}
use Rattle.section_body.proofs.ActLemmas.{load_shows, answer_shows, stamp_shows, exchange_shows, make_shows, take_shows}
use Rattle.section_body.proofs.act.act.Goals as goal

pub returns-in-Load : goal.returns-in-Load
returns-in-Load c start s run shows suits count stamps replies =
    let pushed = c.agree.ensures ∙ ap (λ w. record c.args.trail.now { words = c.args.trail.now.words ++ w ∷ [] }) (c.bits.ensures.number ∙ c.word.ensures) in
    rw c.in-Load.is (load_shows c.args.request start s run c.args.memory.now c.args.trail.now shows (registers_before c.args.steps.now c.args.n) c.in-Load.place c.in-Load.into c.agree.new.self (rw c.in-Load.is at c.requires.fits) pushed)

pub returns-in-Take : goal.returns-in-Take
returns-in-Take c start s run shows suits count stamps replies =
    let fits = rw c.in-Take.is at c.requires.fits in
    rw c.in-Take.is (take_shows c.args.request start s run c.args.memory.now c.args.trail.now shows (registers_before c.args.steps.now c.args.n) c.in-Take.place c.in-Take.word c.args.got c.take_lock.new.trail c.take_lock.result fits.0 count (rw c.in-Take.is at suits) c.take_lock.ensures.taken c.take_lock.ensures.refused)

pub returns-in-Make : goal.returns-in-Make
returns-in-Make c start s run shows suits count stamps replies =
    rw c.in-Make.is (make_shows c.args.request start s run c.args.memory.now c.args.trail.now shows (registers_before c.args.steps.now c.args.n) c.in-Make.init c.in-Make.into c.make_node.new.memory c.make_node.new.trail (rw c.in-Make.is at suits) c.make_node.ensures.memory c.make_node.ensures.trail)

pub returns-in-Stamp : goal.returns-in-Stamp
returns-in-Stamp c start s run shows suits count stamps replies =
    rw c.in-Stamp.is (stamp_shows c.args.request start s run c.args.memory.now c.args.trail.now shows (registers_before c.args.steps.now c.args.n) c.stamp.new.self stamps (rw c.in-Stamp.is at suits) c.stamp.ensures)

pub returns-in-Store : goal.returns-in-Store
returns-in-Store c start s run shows suits count stamps replies =
    let fits = rw c.in-Store.is at c.requires.fits in
    rw c.in-Store.is (exchange_shows c.args.request start s run c.args.memory.now c.args.trail.now shows (registers_before c.args.steps.now c.args.n) c.in-Store.reg _ _ _ _ c.in-Store.value c.exchange.new.self c.register_at-place-in-Store.ensures.place c.register_at-place-in-Store.ensures.log fits.0.within c.word-old.ensures c.value_at-number.ensures c.exchange.ensures)

pub returns-in-Answer : goal.returns-in-Answer
returns-in-Answer c start s run shows suits count stamps replies =
    rw c.in-Answer.is (answer_shows c.args.request start s run c.args.memory.now c.args.trail.now shows (registers_before c.args.steps.now c.args.n) c.in-Answer.reply c.answer.new.self replies c.answer.ensures)
