use Rattle.std.proofs.Common.{◌<◌, length, true, false, sym, subst, ap, ◌∙◌, None, refl}
use Rattle.std.proofs.lemmas.Option.{slice_get_within}
use Rattle.machine_states.specs.table_words.specs.Limits.{IsWithinLimits}
use Rattle.machine_states.proofs.Steps.{some_same, none_some}
use Rattle.machine_facts.specs.machine_invariant.specs.After.{AreAllowed}
use Rattle.version_words.proofs.Stages.{may_load_entry, then_knows}
use Rattle.machine_states.specs.epoch_core.specs.declared.stage.Stage.TheVariants as stages
use Rattle.attempts.specs.declared.answers.Attempt.TheVariants as answers
use Rattle.attempts.proofs.Learning.{is_known, same_word, has_learnt}
use Rattle.attempts.proofs.learns.learn.Goals as goal

pub load_entry-runner-requires-clause-next : goal.load_entry-runner-requires-clause-next
load_entry-runner-requires-clause-next g c κs within =
    may_load_entry _ c.exit-runner.result None c.args.request.now.number false c.exit-runner.ensures.exits.at
    (subst (λ rs. c.args.request.now.number < length rs) (c.requires.own.requests ∙ sym c.exit-runner.ensures.own.requests)
    (slice_get_within c.args.runner.requests c.args.request.now.number _ c.requires.next.there))

pub load_entry-runner-requires-2-clause-next : goal.load_entry-runner-requires-2-clause-next
load_entry-runner-requires-2-clause-next g c κs within =
    may_load_entry _ c.load_entry-runner.result.0 None c.args.request.now.number true
    (then_knows _ _ c.exit-runner.result c.load_entry-runner.result.0 None stages.Idle c.args.request.now.number false c.load_entry-runner.ensures.event c.exit-runner.ensures.exits.at)
    (subst (λ rs. c.args.request.now.number < length rs) (c.requires.own.requests ∙ sym c.load_entry-runner.ensures.own.requests)
    (slice_get_within c.args.runner.requests c.args.request.now.number _ c.requires.next.there))

pub unreachable-requires : goal.unreachable-requires
unreachable-requires g c =
    let met = g.met.S.Structure g.world.𝓛 g.world.𝓜 g.world.𝓡 ((λ s allowed. allowed), (λ patient. patient), (λ alone. alone), (λ cuts. cuts)) in
    let plans = g.met.S.Planner g.world.𝓛 g.world.𝓜 g.world.𝓡 ((λ s allowed. allowed), (λ patient. patient), (λ alone. alone), (λ cuts. cuts)) in
    let m = g.S.Structure.meaning c.args.table.now.structure in
    let old = c.requires.own in
    let zero = c.exit-runner.ensures.own in
    let one = c.load_entry-runner.ensures.own in
    let two = c.load_entry-runner-2.ensures.own in
    let limits = subst IsWithinLimits (sym two.layout) (c.requires.own.limits _ refl) in
    let allowed = subst AreAllowed (sym two.requests) (c.requires.own.allowed _ refl) in
    let known = is_known m (met.laws c.args.table.now.structure) (plans.plans_lawfully c.args.table.now.structure).serves c.args.request.now c.args.runner c.exit-runner.result c.load_entry-runner.result.0 c.load_entry-runner-2.result.0
    c.requires.next c.exit-runner.ensures.exits c.load_entry-runner.result.1 c.load_entry-runner-2.result.1 c.load_entry-runner.ensures.event c.load_entry-runner-2.ensures.event
    limits allowed (one.layout ∙ sym two.layout) (one.requests ∙ sym two.requests) (zero.layout ∙ sym old.layout) (zero.requests ∙ sym old.requests) (one.layout ∙ sym zero.layout) (one.requests ∙ sym zero.requests) in
    let word = same_word m (met.laws c.args.table.now.structure) (plans.plans_lawfully c.args.table.now.structure).serves c.args.request.now c.args.runner c.exit-runner.result c.load_entry-runner.result.0 c.load_entry-runner-2.result.0
    c.requires.next c.exit-runner.ensures.exits c.load_entry-runner.result.1 c.load_entry-runner-2.result.1 c.load_entry-runner.ensures.event c.load_entry-runner-2.ensures.event
    limits allowed (one.layout ∙ sym two.layout) (one.requests ∙ sym two.requests) (zero.layout ∙ sym old.layout) (zero.requests ∙ sym old.requests) (one.layout ∙ sym zero.layout) (one.requests ∙ sym zero.requests) in
    none_some known.reply (sym (c.from_word.ensures.whole known.reply known.served.is_reply (sym word)) ∙ c.in-None.is)

pub returns-clause-learnt : goal.returns-clause-learnt
returns-clause-learnt g c =
    let met = g.met.S.Structure g.world.𝓛 g.world.𝓜 g.world.𝓡 ((λ s allowed. allowed), (λ patient. patient), (λ alone. alone), (λ cuts. cuts)) in
    let plans = g.met.S.Planner g.world.𝓛 g.world.𝓜 g.world.𝓡 ((λ s allowed. allowed), (λ patient. patient), (λ alone. alone), (λ cuts. cuts)) in
    let m = g.S.Structure.meaning c.args.table.now.structure in
    let old = c.requires.own in
    let zero = c.exit-runner.ensures.own in
    let one = c.load_entry-runner.ensures.own in
    let two = c.load_entry-runner-2.ensures.own in
    let limits = subst IsWithinLimits (sym two.layout) (c.requires.own.limits _ refl) in
    let allowed = subst AreAllowed (sym two.requests) (c.requires.own.allowed _ refl) in
    let known = is_known m (met.laws c.args.table.now.structure) (plans.plans_lawfully c.args.table.now.structure).serves c.args.request.now c.args.runner c.exit-runner.result c.load_entry-runner.result.0 c.load_entry-runner-2.result.0
    c.requires.next c.exit-runner.ensures.exits c.load_entry-runner.result.1 c.load_entry-runner-2.result.1 c.load_entry-runner.ensures.event c.load_entry-runner-2.ensures.event
    limits allowed (one.layout ∙ sym two.layout) (one.requests ∙ sym two.requests) (zero.layout ∙ sym old.layout) (zero.requests ∙ sym old.requests) (one.layout ∙ sym zero.layout) (one.requests ∙ sym zero.requests) in
    let word = same_word m (met.laws c.args.table.now.structure) (plans.plans_lawfully c.args.table.now.structure).serves c.args.request.now c.args.runner c.exit-runner.result c.load_entry-runner.result.0 c.load_entry-runner-2.result.0
    c.requires.next c.exit-runner.ensures.exits c.load_entry-runner.result.1 c.load_entry-runner-2.result.1 c.load_entry-runner.ensures.event c.load_entry-runner-2.ensures.event
    limits allowed (one.layout ∙ sym two.layout) (one.requests ∙ sym two.requests) (zero.layout ∙ sym old.layout) (zero.requests ∙ sym old.requests) (one.layout ∙ sym zero.layout) (one.requests ∙ sym zero.requests) in
    let same = some_same c.in-Some.reply known.reply (sym c.in-Some.is ∙ c.from_word.ensures.whole known.reply known.served.is_reply (sym word)) in (
      known.reply,
      c.load_entry-runner.result.1,
      ap (λ r. answers.Done r c.load_entry-runner.result.1) same,
      has_learnt m (met.laws c.args.table.now.structure) (plans.plans_lawfully c.args.table.now.structure).serves c.args.request.now c.args.runner c.exit-runner.result c.load_entry-runner.result.0 c.load_entry-runner-2.result.0
          c.requires.next c.exit-runner.ensures.exits c.load_entry-runner.result.1 c.load_entry-runner-2.result.1 c.load_entry-runner.ensures.event c.load_entry-runner-2.ensures.event
          limits allowed (one.layout ∙ sym two.layout) (one.requests ∙ sym two.requests) (zero.layout ∙ sym old.layout) (zero.requests ∙ sym old.requests) (one.layout ∙ sym zero.layout) (one.requests ∙ sym zero.requests),
    )
