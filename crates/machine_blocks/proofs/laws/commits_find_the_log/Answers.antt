use Rattle.machine_blocks.proofs.Finding.{commit_finds}
use Rattle.machine_blocks.proofs.laws.commits_find_the_log.Goals as goal

pub returns : goal.returns
returns g c = λ layout requests chain a e s s' r k kind q joined old step at opened commits near.
    commit_finds (g.S.Structure.meaning c.args.structure.now) layout requests chain a e s joined old r kind step.ask step.asked q at opened k commits near
