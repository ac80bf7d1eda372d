use Rattle.std.proofs.Common.{◌+◌, ℕ, sym, subst}
use Rattle.enabled_kinds.proofs.Bits.{Gathered, one_kept, one_set, all_told}
use Rattle.enabled_kinds.proofs.kinds.enabled.Goals as goal
use Rattle.enabled_kinds.proofs.kinds.enabled.Goals.{then-may_make, else-may_make}

pub loop-number-preserved : goal.loop-number-preserved
loop-number-preserved g c =
    elim c.if-may_make.branch [
      | then-may_make w ↦ one_set (g.S.Structure.meaning c.args.structure.now) c.args.layout c.args.requests.now c.args.runner c.args.part.now c.loop-number.bits c.loop-number.number c.if-may_make.bits c.loop-number-test.true w.bits-is c.loop-number.invariant (c.may_make.ensures.found w.if-may_make.true)
      | else-may_make w ↦ subst (λ (bits : ℕ). Gathered (g.S.Structure.meaning c.args.structure.now) c.args.layout c.args.requests.now c.args.runner c.args.part.now bits (c.loop-number.number + 1)) (sym w.bits-is) (one_kept (g.S.Structure.meaning c.args.structure.now) c.args.layout c.args.requests.now c.args.runner c.args.part.now c.loop-number.bits c.loop-number.number c.loop-number.invariant (c.may_make.ensures.missed w.if-may_make.false))
    ]

pub returns : goal.returns
returns g c = all_told (g.S.Structure.meaning c.args.structure.now) c.args.layout c.args.requests.now c.args.runner c.args.part.now c.loop-number.bits c.loop-number.number c.loop-number.invariant c.loop-number-test.false
