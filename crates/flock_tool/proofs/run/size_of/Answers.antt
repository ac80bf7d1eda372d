use Rattle.std.proofs.Common.{arith, subst, sym, ◌∙◌}
use Rattle.hash_table.specs.try_lock.specs.Contents.{StandFor}
use Rattle.flock_tool.proofs.Sizes.{stand_for, counted}
use Rattle.flock_tool.proofs.run.size_of.Goals as goal

pub contents-requires-clause-stand : goal.contents-requires-clause-stand
contents-requires-clause-stand g c =
    let p = c.contents_stand.ensures in (
      p.0,
      subst (λ s. StandFor (g.S.Structure.meaning s) c.args.words.now p.0) (sym c.structure.ensures)
          (stand_for (g.S.Structure.meaning c.args.words.now.structure) c.args.words.now p.0 p.1),
    )

pub overflow_cast-result : goal.overflow_cast-result
overflow_cast-result g c =
    let p = c.contents_stand.ensures in
    let stand = subst (λ s. StandFor (g.S.Structure.meaning s) c.args.words.now p.0) (sym c.structure.ensures)
    (stand_for (g.S.Structure.meaning c.args.words.now.structure) c.args.words.now p.0 p.1) in
    let same = counted p.0 c.in_ok-pairs.pairs.items c.len.result (c.in_ok-pairs.ensures.contents p.0 stand) (c.len.ensures ∙ c.in_ok-pairs.pairs.ok.0) in
    omega (arith, same, p.2)

pub returns : goal.returns
returns g c = λ pairs stands.
    let stand = subst (λ s. StandFor (g.S.Structure.meaning s) c.args.words.now pairs) (sym c.structure.ensures)
    (stand_for (g.S.Structure.meaning c.args.words.now.structure) c.args.words.now pairs stands) in
    counted pairs c.in_ok-pairs.pairs.items c.len.result (c.in_ok-pairs.ensures.contents pairs stand) (c.len.ensures ∙ c.in_ok-pairs.pairs.ok.0)
