use Rattle.std.proofs.Common.{subst}
use Rattle.try_lock.specs.commit_log.specs.Asked.{uncounted, IsAsked}
use Rattle.lock_walks.proofs.Onward.{told_of}
use Rattle.lock_walks.proofs.plans.lead.Goals as goal

pub returns-clause-led : goal.returns-clause-led
returns-clause-led g c = told_of _ _ _ _ _ _ c.walk_on-led.ensures.led
    (λ n asked. c.tell.ensures.told n _ _ _ (subst (λ k. IsAsked n c.walk_on-led.result.3 0 0 uncounted uncounted k c.walk_on-led.new.steps.count) c.new-made.ensures asked))
