use Rattle.std.proofs.Common.{◌<◌, length, true, false, sym, subst, ◌∙◌, None}
use Rattle.std.specs.Prelude.{◌&&◌}
use Rattle.machine_states.specs.epoch_core.specs.declared.stage.Stage.TheVariants as stages
use Rattle.settled_tables.specs.closed_words.specs.version_words.proofs.Stages.{may_load_entry, then_knows}
use Rattle.lock_tests.proofs.Serving.{loaded_tidy, loaded_others, loaded_knows, loaded_still}
use Rattle.lock_tests.proofs.courses.read_entry.Goals as goal

pub load_entry-runner-requires-clause-next : goal.load_entry-runner-requires-clause-next
load_entry-runner-requires-clause-next g c κs within =
    may_load_entry (g.S.Structure.meaning c.args.table.now.structure) c.args.runner None c.args.number false c.requires.tidy.at
    (subst (λ rs. c.args.number < length rs) (sym c.requires.own.requests) c.requires.request)

pub load_entry-runner-requires-2-clause-next : goal.load_entry-runner-requires-2-clause-next
load_entry-runner-requires-2-clause-next g c κs within =
    may_load_entry (g.S.Structure.meaning c.args.table.now.structure) c.load_entry-runner.result.0 None c.args.number true
    (then_knows (g.S.Structure.meaning c.args.table.now.structure) c.load_entry-runner.result.1 c.args.runner c.load_entry-runner.result.0 None stages.Idle c.args.number false c.load_entry-runner.ensures.event c.requires.tidy.at)
    (subst (λ rs. c.args.number < length rs) (sym c.load_entry-runner.ensures.own.requests) c.requires.request)

pub returns-then-stamp-eq0-clause-others : goal.returns-then-stamp-eq0-clause-others
returns-then-stamp-eq0-clause-others g c = λ k ne.
    let m = g.S.Structure.meaning c.args.table.now.structure in
    let tidy = loaded_tidy m c.args.number false c.load_entry-runner.result.1 c.args.runner c.load_entry-runner.result.0 c.load_entry-runner.ensures.event c.requires.tidy in
    loaded_others m c.args.number true c.load_entry-runner-2.result.1 c.load_entry-runner.result.0 c.load_entry-runner-2.result.0 c.load_entry-runner-2.ensures.event tidy k ne
    ∙ loaded_others m c.args.number false c.load_entry-runner.result.1 c.args.runner c.load_entry-runner.result.0 c.load_entry-runner.ensures.event c.requires.tidy k ne

pub returns-clause-others : goal.returns-clause-others
returns-clause-others g c = λ k ne.
    let m = g.S.Structure.meaning c.args.table.now.structure in
    let tidy = loaded_tidy m c.args.number false c.load_entry-runner.result.1 c.args.runner c.load_entry-runner.result.0 c.load_entry-runner.ensures.event c.requires.tidy in
    loaded_others m c.args.number true c.load_entry-runner-2.result.1 c.load_entry-runner.result.0 c.load_entry-runner-2.result.0 c.load_entry-runner-2.ensures.event tidy k ne
    ∙ loaded_others m c.args.number false c.load_entry-runner.result.1 c.args.runner c.load_entry-runner.result.0 c.load_entry-runner.ensures.event c.requires.tidy k ne

pub returns-clause-answered : goal.returns-clause-answered
returns-clause-answered g c =
    let m = g.S.Structure.meaning c.args.table.now.structure in
    let tidy = loaded_tidy m c.args.number false c.load_entry-runner.result.1 c.args.runner c.load_entry-runner.result.0 c.load_entry-runner.ensures.event c.requires.tidy in
    let stamp = loaded_knows m c.args.number false c.load_entry-runner.result.1 c.args.runner c.load_entry-runner.result.0 c.load_entry-runner.ensures.event c.requires.tidy c.if-stamp-eq0.false in
    let still = loaded_still m c.args.number true c.load_entry-runner-2.result.1 c.load_entry-runner.result.0 c.load_entry-runner-2.result.0 c.load_entry-runner-2.ensures.event tidy false c.if-reply-eq0.false stamp in
    let reply = loaded_knows m c.args.number true c.load_entry-runner-2.result.1 c.load_entry-runner.result.0 c.load_entry-runner-2.result.0 c.load_entry-runner-2.ensures.event tidy c.if-reply-eq0.false in
    (λ i. still i && reply i)
