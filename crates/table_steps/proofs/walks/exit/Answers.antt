use Rattle.std.proofs.Common.{refl, ◌∙◌, None}
use Rattle.version_words.proofs.Stages.{may_guard, may_idle, then_guarded, then_unguarded, then_idle, same_number}
use Rattle.table_steps.proofs.walks.exit.Goals as goal

pub guard-runner-requires-clause-next : goal.guard-runner-requires-clause-next
guard-runner-requires-clause-next c κs = may_guard _ _ _ None c.requires.at refl

pub idle-requires-clause-next : goal.idle-requires-clause-next
idle-requires-clause-next c κs =
    let let_go = c.guard-runner.ensures.event 0 in
    may_idle _ _ _ (then_guarded _ _ _ _ _ _ None let_go c.requires.at) (then_unguarded _ _ _ _ let_go c.requires.at.resting)

pub returns-clause-at : goal.returns-clause-at
returns-clause-at c = then_idle _ _ _ _ _ _ (c.idle.ensures.event 0) (then_guarded _ _ _ _ _ _ None (c.guard-runner.ensures.event 0) c.requires.at)

pub returns-clause-number : goal.returns-clause-number
returns-clause-number c = same_number _ _ _ _ _ (c.idle.ensures.event 0) ∙ same_number _ _ _ _ _ (c.guard-runner.ensures.event 0)
