use Rattle.attempts.proofs.Resting.{rested_by}
use Rattle.attempts.proofs.reclaims.spare_where.Goals as goal

pub returns-then-due-clause-rested : goal.returns-then-due-clause-rested
returns-then-due-clause-rested g c =
    rested_by c.args.runner c.spare.result c.requires.tidy c.spare.ensures.spared.spared.keeps c.spare.ensures.spared.spared.ready
