use Rattle.std.proofs.Common.{◌≡◌, ℕ, ◌<◌, ◌+◌, ◌^◌, ◌-◌, Some, refl, sym, ap, subst, ◌∙◌}
use Rattle.machine_states.specs.body_terms.specs.Word.{version_of, held_word, next_word}
use Rattle.machine_states.specs.table_words.specs.declared.spot.Spot.TheVariants.{Cell}
use Rattle.machine_states.specs.table_words.specs.declared.access.Access.TheVariants.{Exchanges}
use Rattle.machine_states.specs.table_words.specs.Limits.{IsWithinLimits}
use Rattle.machine_states.specs.runner_parts.specs.declared.event.EventKind.TheVariants.{Release}
use Rattle.std.specs.Prelude.{Option}
use Rattle.machine_states.specs.runner_parts.specs.State.{RunState}
use Rattle.runner_block.specs.declared.block.Block.{Block}
use Rattle.version_words.specs.Kept.{IsKept}
use Rattle.version_words.specs.Place.{held_by_run}
use Rattle.runner_block.specs.Blocks.{block_released}
use Rattle.machine_invariant.specs.After.{AreAllowed}
use Rattle.version_words.specs.Events.{met_by}
use Rattle.version_words.proofs.Inside.{may_release, has_run}
use Rattle.version_words.proofs.Releases.{released_kept}
use Rattle.version_words.proofs.table.FlockTable.release.Goals as goal

pub held_word-held-requires-clause-descriptor : goal.held_word-held-requires-clause-descriptor
held_word-held-requires-clause-descriptor g c =
    let m = g.S.Structure.meaning c.args.self.now.structure in let r = c.args.runner in let word = c.args.word in let held = held_by_run r.part.run word in
    let run = has_run m r Release (Cell c.args.place, Exchanges held (next_word held 0)) refl c.requires.next in
    let limits = subst IsWithinLimits (sym (c.requires.own.layout ∙ ap (λ t. t.layout) (sym c.self.view_is))) c.self.invariant.limits in
    let next = c.requires.next ∙ ap (λ (o : Option RunState). Some (Cell c.args.place, Exchanges (held_by_run o word) (next_word (held_by_run o word) 0))) run.1 in
    let can = may_release m r run.0 c.args.place word (next_word (held_word run.0.descriptor word) 0) limits run.1 next in
    let is = ap (λ b. b.place.descriptor) c.deref.ensures ∙ (c.runner.invariant.place.run run.0 (ap (λ y. y.part.run) c.runner.view_is ∙ run.1)).descriptor in
    subst (λ (n : ℕ). n < 2 ^ 32 - 1) (sym is) can.0.few

pub held_word-held-requires-clause-version : goal.held_word-held-requires-clause-version
held_word-held-requires-clause-version g c =
    let m = g.S.Structure.meaning c.args.self.now.structure in let r = c.args.runner in let word = c.args.word in let held = held_by_run r.part.run word in
    let run = has_run m r Release (Cell c.args.place, Exchanges held (next_word held 0)) refl c.requires.next in
    let limits = subst IsWithinLimits (sym (c.requires.own.layout ∙ ap (λ t. t.layout) (sym c.self.view_is))) c.self.invariant.limits in
    let next = c.requires.next ∙ ap (λ (o : Option RunState). Some (Cell c.args.place, Exchanges (held_by_run o word) (next_word (held_by_run o word) 0))) run.1 in
    let can = may_release m r run.0 c.args.place word (next_word (held_word run.0.descriptor word) 0) limits run.1 next in
    can.0.low

pub next-free-requires : goal.next-free-requires
next-free-requires g c =
    let m = g.S.Structure.meaning c.args.self.now.structure in let r = c.args.runner in let word = c.args.word in let held = held_by_run r.part.run word in
    let run = has_run m r Release (Cell c.args.place, Exchanges held (next_word held 0)) refl c.requires.next in
    let limits = subst IsWithinLimits (sym (c.requires.own.layout ∙ ap (λ t. t.layout) (sym c.self.view_is))) c.self.invariant.limits in
    let next = c.requires.next ∙ ap (λ (o : Option RunState). Some (Cell c.args.place, Exchanges (held_by_run o word) (next_word (held_by_run o word) 0))) run.1 in
    let can = may_release m r run.0 c.args.place word (next_word (held_word run.0.descriptor word) 0) limits run.1 next in
    let is = ap (λ b. b.place.descriptor) c.deref.ensures ∙ (c.runner.invariant.place.run run.0 (ap (λ y. y.part.run) c.runner.view_is ∙ run.1)).descriptor in
    subst (λ (n : ℕ). version_of n + 1 < 2 ^ 32) (sym (c.held_word-held.ensures ∙ ap (λ (d : ℕ). held_word d word) is)) can.1

pub invariant_of-runner : goal.invariant_of-runner
invariant_of-runner g c =
    let mean = g.S.Structure.meaning in let s = c.args.self.now.structure in let seat = c.runner.inside.seat in let new = c.exchange.new.seat in let number = c.runner.inside.number in let tells = c.exchange.ensures in
    let held = held_by_run seat.me.0.part.run c.args.word in
    let asked = subst (λ r. met_by (mean s) r Release ≡ Some (Cell c.args.place, Exchanges (held_by_run r.part.run c.args.word) (next_word (held_by_run r.part.run c.args.word) 0))) (sym c.runner.view_is) c.requires.next in
    let met = g.met.S.Structure g.world.𝓛 g.world.𝓜 g.world.𝓡 ((λ s allowed. allowed), (λ patient. patient), (λ alone. alone), (λ cuts. cuts)) in
    let limits = subst IsWithinLimits (sym (tells.own.layout ∙ ap (λ t. t.layout) (sym c.self.view_is))) c.self.invariant.limits in
    let requests = subst AreAllowed (sym (tells.own.requests ∙ ap (λ t. t.requests) (sym c.self.view_is))) c.self.invariant.allowed in
    subst (λ (b : Block). IsKept mean number b new.me) (sym (c.released.ensures ∙ ap (λ (b : Block). block_released b c.args.place) c.deref_mut.ensures.value))
    (released_kept mean s c.exchange.result number c.args.place (Exchanges held (next_word held 0)) c.runner.inside.kept.value seat.table_id new.table_id seat.me new.me
    (ap (λ r. r.structure) c.runner.view_is ∙ c.requires.own.structure) tells.event tells.slots c.runner.invariant asked (met.laws s) limits requests)
