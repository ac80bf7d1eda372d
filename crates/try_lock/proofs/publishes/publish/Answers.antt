use Rattle.std.proofs.Common.{◌≡◌, ◌-◌, ◌<◌, length, true, false, sym, ap, subst, ◌∙◌, arith, refl}
use Rattle.std.specs.Prelude.{◌==◌, slice_index}
use Rattle.std.proofs.lemmas.Bool.Decides.{nat_tests}
use Rattle.machine_states.specs.table_words.specs.declared.layout.Layout.{Layout}
use Rattle.machine_states.specs.table_words.specs.Limits.{IsWithinLimits}
use Rattle.machine_states.specs.table_words.specs.Places.{descriptor_count}
use Rattle.section_runs.specs.machine_facts.specs.machine_invariant.specs.After.{AreAllowed}
use Rattle.section_runs.specs.commit_log.specs.version_words.proofs.Holds.{can_publish}
use Rattle.try_lock.specs.Publishes.{refused_by}
use Rattle.try_lock.proofs.Publishing.{last_is_free, may_prepare, guarded, may_hold, publishes_won, publishes_lost}
use Rattle.try_lock.proofs.Guarding.{may_guard}
use Rattle.try_lock.proofs.publishes.publish.Goals as goal

pub prepare-runner-requires-clause-free : goal.prepare-runner-requires-clause-free
prepare-runner-requires-clause-free g c κs within =
    let met = g.met.S.Structure g.world.𝓛 g.world.𝓜 g.world.𝓡 ((λ s allowed. allowed), (λ patient. patient), (λ alone. alone), (λ cuts. cuts)) in
    let r = c.args.runner in let may = c.requires.publishable in let xs = c.free_descriptors-free.result.now in
    may_prepare (g.S.Structure.meaning c.args.table.now.structure) (met.laws c.args.table.now.structure) r c.args.thunk.now
    (subst IsWithinLimits (sym c.requires.own.layout) (c.requires.own.limits _ refl)) (subst AreAllowed (sym c.requires.own.requests) (c.requires.own.allowed _ refl)) may
    (slice_index xs (length xs - 1)) (last_is_free r.part.descriptors.free xs c.free_descriptors-free.ensures.list may.reserve)

pub guard-runner-requires-clause-next : goal.guard-runner-requires-clause-next
guard-runner-requires-clause-next g c κs within =
    let met = g.met.S.Structure g.world.𝓛 g.world.𝓜 g.world.𝓡 ((λ s allowed. allowed), (λ patient. patient), (λ alone. alone), (λ cuts. cuts)) in
    let m = g.S.Structure.meaning c.args.table.now.structure in
    let r = c.args.runner in let may = c.requires.publishable in let xs = c.free_descriptors-free.result.now in let d = slice_index xs (length xs - 1) in
    let ready = c.prepare-runner.ensures.ready in
    let limits = subst IsWithinLimits (sym c.requires.own.layout) (c.requires.own.limits _ refl) in
    let allowed = subst AreAllowed (sym c.requires.own.requests) (c.requires.own.allowed _ refl) in
    may_guard m d c.prepare-runner.result may.epoch (ready.at may.epoch may.at)
    (subst (λ (l : Layout). d < descriptor_count l) (sym ready.keeps.layout)
    (may_prepare m (met.laws c.args.table.now.structure) r c.args.thunk.now limits allowed may d (last_is_free r.part.descriptors.free xs c.free_descriptors-free.ensures.list may.reserve)).free.few)

pub hold-runner-requires-clause-next : goal.hold-runner-requires-clause-next
hold-runner-requires-clause-next g c κs within =
    let met = g.met.S.Structure g.world.𝓛 g.world.𝓜 g.world.𝓡 ((λ s allowed. allowed), (λ patient. patient), (λ alone. alone), (λ cuts. cuts)) in
    let r = c.args.runner in let may = c.requires.publishable in let xs = c.free_descriptors-free.result.now in
    let m = g.S.Structure.meaning c.args.table.now.structure in let d = slice_index xs (length xs - 1) in
    may_hold m r c.guard-runner.result c.args.thunk.now d may
    (guarded m d c.args.thunk.now r c.prepare-runner.result c.guard-runner.result may.epoch may.at c.prepare-runner.ensures.ready (record { found = 0; event = c.guard-runner.ensures.event 0 })) (met.laws c.args.table.now.structure)
    (subst IsWithinLimits (sym c.requires.own.layout) (c.requires.own.limits _ refl)) (subst AreAllowed (sym c.requires.own.requests) (c.requires.own.allowed _ refl))
    (last_is_free r.part.descriptors.free xs c.free_descriptors-free.ensures.list may.reserve) c.has_eight_operands.ensures

pub held_word-held-requires-clause-descriptor : goal.held_word-held-requires-clause-descriptor
held_word-held-requires-clause-descriptor g c =
    let m = g.S.Structure.meaning c.args.table.now.structure in let xs = c.free_descriptors-free.result.now in
    let event = c.hold-runner.ensures.event in
    (can_publish m c.guard-runner.result c.args.thunk.now (slice_index xs (length xs - 1)) (subst IsWithinLimits (sym c.guard-runner.ensures.own.layout) (c.requires.own.limits _ refl))
    (record { met = event.met; asked = event.asked })).few

pub held_word-held-requires-clause-version : goal.held_word-held-requires-clause-version
held_word-held-requires-clause-version g c =
    let m = g.S.Structure.meaning c.args.table.now.structure in let xs = c.free_descriptors-free.result.now in
    let event = c.hold-runner.ensures.event in
    (can_publish m c.guard-runner.result c.args.thunk.now (slice_index xs (length xs - 1)) (subst IsWithinLimits (sym c.guard-runner.ensures.own.layout) (c.requires.own.limits _ refl))
    (record { met = event.met; asked = event.asked })).low

pub returns-then-won-clause-publishes : goal.returns-then-won-clause-publishes
returns-then-won-clause-publishes g c =
    let met = g.met.S.Structure g.world.𝓛 g.world.𝓜 g.world.𝓡 ((λ s allowed. allowed), (λ patient. patient), (λ alone. alone), (λ cuts. cuts)) in
    let r = c.args.runner in let may = c.requires.publishable in let xs = c.free_descriptors-free.result.now in let t = c.args.thunk.now in let found = c.hold-runner.result.1 in
    let test : found == t.word ≡ true = sym c.hold-runner.ensures.published ∙ c.if-won.true in
    publishes_won (g.S.Structure.meaning c.args.table.now.structure) (met.laws c.args.table.now.structure) r c.prepare-runner.result c.guard-runner.result c.hold-runner.result.0 t (slice_index xs (length xs - 1)) found
    (subst IsWithinLimits (sym c.requires.own.layout) (c.requires.own.limits _ refl)) (subst AreAllowed (sym c.requires.own.requests) (c.requires.own.allowed _ refl)) may
    (last_is_free r.part.descriptors.free xs c.free_descriptors-free.ensures.list may.reserve) c.prepare-runner.ensures.ready (record { found = 0; event = c.guard-runner.ensures.event 0 }) c.hold-runner.ensures.event
    (grind (arith, nat_tests, test)) _ (ap (λ h. record { descriptor = slice_index xs (length xs - 1); place = t.lock; held = h }) c.held_word-held.ensures)

pub returns-else-won-clause-publishes : goal.returns-else-won-clause-publishes
returns-else-won-clause-publishes g c =
    let met = g.met.S.Structure g.world.𝓛 g.world.𝓜 g.world.𝓡 ((λ s allowed. allowed), (λ patient. patient), (λ alone. alone), (λ cuts. cuts)) in
    let r = c.args.runner in let may = c.requires.publishable in let xs = c.free_descriptors-free.result.now in let t = c.args.thunk.now in let found = c.hold-runner.result.1 in
    let test : found == t.word ≡ false = sym c.hold-runner.ensures.published ∙ c.if-won.false in
    publishes_lost (g.S.Structure.meaning c.args.table.now.structure) (met.laws c.args.table.now.structure) r c.prepare-runner.result c.guard-runner.result c.hold-runner.result.0 t (slice_index xs (length xs - 1)) found
    (subst IsWithinLimits (sym c.requires.own.layout) (c.requires.own.limits _ refl)) (subst AreAllowed (sym c.requires.own.requests) (c.requires.own.allowed _ refl)) may
    (last_is_free r.part.descriptors.free xs c.free_descriptors-free.ensures.list may.reserve) c.prepare-runner.ensures.ready (record { found = 0; event = c.guard-runner.ensures.event 0 }) c.hold-runner.ensures.event
    test _ (c.refused-refusal.ensures.why ∙ ap (λ (l : Layout). refused_by l.version_max t.word found) (c.layout.ensures ∙ sym c.requires.own.layout))
