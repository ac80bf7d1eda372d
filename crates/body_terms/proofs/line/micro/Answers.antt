use Rattle.body_terms.specs.Line.{registers_before}
use Rattle.body_terms.proofs.line.micro.Goals as goal

pub returns-in-Take : goal.returns-in-Take
returns-in-Take c = rw c.in-Take.is (c.take_micro.ensures (registers_before c.args.steps.now c.args.n) c.requires.log)

pub returns-in-Make : goal.returns-in-Make
returns-in-Make c = rw c.in-Make.is (c.make_micro.ensures c.requires.log c.in-Make.into)

pub returns-in-Stamp : goal.returns-in-Stamp
returns-in-Stamp c = rw c.in-Stamp.is (c.stamp_micro.ensures (registers_before c.args.steps.now c.args.n))
