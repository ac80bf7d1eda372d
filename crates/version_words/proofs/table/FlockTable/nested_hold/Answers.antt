use Rattle.std.proofs.Common.{ℕ, ◌<◌, ◌^◌, ◌-◌, refl, sym, ap, subst, ◌∙◌}
use Rattle.machine_states.specs.table_words.specs.declared.spot.Spot.TheVariants.{Cell}
use Rattle.machine_states.specs.table_words.specs.declared.access.Access.TheVariants.{Exchanges}
use Rattle.machine_states.specs.table_words.specs.Limits.{IsWithinLimits}
use Rattle.machine_states.specs.runner_parts.specs.declared.event.EventKind.TheVariants.{NestedHold}
use Rattle.version_words.specs.Place.{held_by_run}
use Rattle.version_words.proofs.Inside.{may_nest, has_run, quiet_kept}
use Rattle.version_words.proofs.table.FlockTable.nested_hold.Goals as goal

pub held_word-held-requires-clause-descriptor : goal.held_word-held-requires-clause-descriptor
held_word-held-requires-clause-descriptor g c =
    let m = g.S.Structure.meaning c.args.self.now.structure in let r = c.args.runner in let held = held_by_run r.part.run c.args.word in
    let run = has_run m r NestedHold (Cell c.args.place, Exchanges c.args.word held) refl c.requires.next in
    let limits = subst IsWithinLimits (sym (c.requires.own.layout ∙ ap (λ t. t.layout) (sym c.self.view_is))) c.self.invariant.limits in
    let is = (c.runner.invariant.place.run run.0 (ap (λ y. y.part.run) c.runner.view_is ∙ run.1)).descriptor in
    subst (λ (n : ℕ). n < 2 ^ 32 - 1) (sym (ap (λ b. b.place.descriptor) c.deref.ensures ∙ is)) (may_nest m r run.0 c.args.place c.args.word held limits run.1 c.requires.next).few

pub held_word-held-requires-clause-version : goal.held_word-held-requires-clause-version
held_word-held-requires-clause-version g c =
    let m = g.S.Structure.meaning c.args.self.now.structure in let r = c.args.runner in let held = held_by_run r.part.run c.args.word in
    let run = has_run m r NestedHold (Cell c.args.place, Exchanges c.args.word held) refl c.requires.next in
    let limits = subst IsWithinLimits (sym (c.requires.own.layout ∙ ap (λ t. t.layout) (sym c.self.view_is))) c.self.invariant.limits in
    (may_nest m r run.0 c.args.place c.args.word held limits run.1 c.requires.next).low

pub invariant_of-runner : goal.invariant_of-runner
invariant_of-runner g c =
    let seat = c.runner.inside.seat in let new = c.exchange.new.seat in
    quiet_kept g.S.Structure.meaning c.args.self.now.structure NestedHold c.exchange.result c.runner.inside.number c.runner.inside.kept.value seat.table_id new.table_id seat.me new.me
    (ap (λ r. r.structure) c.runner.view_is ∙ c.requires.own.structure) c.exchange.ensures.event c.exchange.ensures.slots c.runner.invariant refl refl refl
