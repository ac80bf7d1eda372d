use Rattle.std.proofs.Common.{sym, ◌∙◌, arith}
use Rattle.std.proofs.lemmas.List.{take_all}
use Rattle.body_terms.proofs.body.write_over.Goals as goal

pub returns : goal.returns
returns c =
    let few = c.requires.few in
    let room = c.write_ten-4.ensures.room in
    sym (take_all 40 c.write_ten-4.new.place (omega (arith, few, room))) ∙ (c.write_ten-4.ensures.written ∙ take_all 40 c.args.steps.now few)
