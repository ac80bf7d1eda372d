use Rattle.machine_blocks.proofs.Finding.{linked_few}
use Rattle.machine_blocks.proofs.laws.linked_blocks_are_few.Goals as goal

pub returns : goal.returns
returns g c = λ layout requests chain a e s s' r b k q joined old step at commits none.
    linked_few (g.S.Structure.meaning c.args.structure.now) layout requests chain a e s joined old r b step.ask step.asked q at k commits none
