use Rattle.std.proofs.Common.{List, length, drop, sym, ap, ◌∙◌, arith}
use Rattle.std.proofs.lemmas.List.{at_drop_all}
use Rattle.runner_steps.specs.body_terms.specs.Shape.{loaded_places}
use Rattle.runner_steps.specs.body_terms.specs.declared.step.Step.{Step}
use Rattle.runner_steps.specs.Reads.{are_of}
use Rattle.runner_asks.proofs.Loads.{ends_at}
use Rattle.runner_asks.proofs.reads.are_loads.Goals as goal

pub returns : goal.returns
returns c =
    ends_at c.args.found.now c.loop-step.at c.loop-step.invariant.within
    ∙ (sym (at_drop_all (λ (xs : List Step). are_of (loaded_places xs) (drop c.loop-step.at c.args.found.now)) c.args.body.now c.loop-step.step-index
    (omega (arith, ap length c.as_slice-step-items.ensures.value, ap length c.body.view_is, c.loop-step-test.false)))
    ∙ c.loop-step.invariant.rest)
