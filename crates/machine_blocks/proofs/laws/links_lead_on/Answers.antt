use Rattle.machine_blocks.proofs.Finding.{link_finds}
use Rattle.machine_blocks.proofs.laws.links_lead_on.Goals as goal

pub returns : goal.returns
returns g c = λ layout requests chain a e s s' r b q joined old step at.
    link_finds (g.S.Structure.meaning c.args.structure.now) layout requests chain a e s joined old r b step.ask step.asked q at
