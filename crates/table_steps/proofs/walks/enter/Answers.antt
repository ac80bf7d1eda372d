use Rattle.std.proofs.Common.{◌∙◌}
use Rattle.version_words.proofs.Stages.{may_enter_load, may_announce, may_enter_again, then_loaded, then_announced, then_entered, same_number}
use Rattle.table_steps.proofs.walks.enter.Goals as goal

pub enter_load-runner-requires-clause-next : goal.enter_load-runner-requires-clause-next
enter_load-runner-requires-clause-next c κs = may_enter_load _ _ _ c.requires.at

pub announce-runner-requires-clause-next : goal.announce-runner-requires-clause-next
announce-runner-requires-clause-next c κs = may_announce _ _ _ _ (then_loaded _ _ _ _ _ c.enter_load-runner.ensures.event c.requires.at)

pub enter_again-requires-clause-next : goal.enter_again-requires-clause-next
enter_again-requires-clause-next c κs = may_enter_again _ _ _ (then_announced _ _ _ _ _ _ (c.announce-runner.ensures.event 0) (then_loaded _ _ _ _ _ c.enter_load-runner.ensures.event c.requires.at))

pub returns-clause-at : goal.returns-clause-at
returns-clause-at c = then_entered _ _ _ _ _ c.enter_again.ensures.event (then_announced _ _ _ _ _ _ (c.announce-runner.ensures.event 0) (then_loaded _ _ _ _ _ c.enter_load-runner.ensures.event c.requires.at))

pub returns-clause-number : goal.returns-clause-number
returns-clause-number c = same_number _ _ _ _ _ c.enter_again.ensures.event ∙ (same_number _ _ _ _ _ (c.announce-runner.ensures.event 0) ∙ same_number _ _ _ _ _ c.enter_load-runner.ensures.event)
