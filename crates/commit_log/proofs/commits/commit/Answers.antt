use Rattle.std.proofs.Common.{subst, refl}
use Rattle.machine_states.specs.runner_parts.specs.State.{RunState}
use Rattle.commit_log.specs.Committed.{HasCommitted}
use Rattle.commit_log.proofs.Running.{one_run, knows_part}
use Rattle.commit_log.proofs.Committing.{may_commit, then_committed}
use Rattle.commit_log.proofs.commits.commit.Goals as goal

pub commit_word-requires-clause-next : goal.commit_word-requires-clause-next
commit_word-requires-clause-next g c κs within =
    let met = g.met.S.Structure g.world.𝓛 g.world.𝓜 g.world.𝓡 ((λ s allowed. allowed), (λ patient. patient), (λ alone. alone), (λ cuts. cuts)) in
    may_commit (g.S.Structure.meaning c.args.table.now.structure) (met.laws c.args.table.now.structure) c.args.table.now (c.requires.own.limits _ refl) (c.requires.own.allowed _ refl) _ c.requires.own _ _ c.requires.next.1

pub commit_word-requires-clause-linked : goal.commit_word-requires-clause-linked
commit_word-requires-clause-linked g c κs within =
    let may = c.requires.next.1 in knows_part (g.S.Structure.meaning c.args.table.now.structure) _ _ may.running may.linked

pub returns-clause-commits : goal.returns-clause-commits
returns-clause-commits g c = λ q is.
    let met = g.met.S.Structure g.world.𝓛 g.world.𝓜 g.world.𝓡 ((λ s allowed. allowed), (λ patient. patient), (λ alone. alone), (λ cuts. cuts)) in
    let may = c.requires.next in
    subst (λ (p : RunState). HasCommitted (g.S.Structure.meaning c.args.table.now.structure) c.commit_word.result.1 c.commit_word.result.2 c.args.runner c.commit_word.result.0 p)
    (one_run (g.S.Structure.meaning c.args.table.now.structure) _ _ _ may.1.running is)
    (then_committed (g.S.Structure.meaning c.args.table.now.structure) (met.laws c.args.table.now.structure) c.args.table.now (c.requires.own.limits _ refl) (c.requires.own.allowed _ refl) _ c.requires.own _ _ may.1 _ _ _ c.commit_word.ensures.event)
