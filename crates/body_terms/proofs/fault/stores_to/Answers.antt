use Rattle.std.proofs.Common.{sym, ap, ◌∙◌}
use Rattle.std.specs.Prelude.{◌==◌}
use Rattle.std.specs.List.{list_any}
use Rattle.body_terms.specs.Line.{no_registers}
use Rattle.body_terms.specs.Fault.{stored_places}
use Rattle.body_terms.proofs.LineLemmas.{take_all}
use Rattle.body_terms.proofs.FaultLemmas.{none_more, some_found}
use Rattle.body_terms.proofs.fault.stores_to.Goals as goal

pub loop-n-preserved : goal.loop-n-preserved
loop-n-preserved c = none_more c.args.steps.now c.loop-n.n c.args.place c.index-steps-n.result c.step_stores_to.result c.loop-n-test.true c.index-steps-n.is c.loop-n.invariant c.step_stores_to.ensures c.if-step_stores_to.false

pub returns-then-step_stores_to : goal.returns-then-step_stores_to
returns-then-step_stores_to c = some_found c.args.steps.now c.loop-n.n c.args.place c.index-steps-n.result c.step_stores_to.result c.loop-n-test.true c.index-steps-n.is c.step_stores_to.ensures c.if-step_stores_to.true

pub returns : goal.returns
returns c = sym (ap (λ steps. list_any (λ stored. stored == c.args.place) (stored_places no_registers steps)) (sym (take_all c.args.steps.now c.loop-n.n c.loop-n-test.false)) ∙ c.loop-n.invariant)
