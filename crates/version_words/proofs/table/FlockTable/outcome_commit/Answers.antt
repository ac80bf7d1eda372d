use Rattle.std.proofs.Common.{◌≡◌, ◌≤◌, ℕ, ◌+◌, Some, refl, sym, subst, ap, ◌∙◌, arith}
use Rattle.machine_states.specs.table_words.specs.declared.access.Access.TheVariants.{Exchanges}
use Rattle.machine_states.specs.runner_parts.specs.declared.event.EventKind.TheVariants.{OutcomeCommit}
use Rattle.runner_block.specs.declared.block.Block.{Block}
use Rattle.version_words.specs.Place.{next_log, KnowsPart, kept_log}
use Rattle.version_words.specs.Kept.{IsKept}
use Rattle.version_words.specs.Events.{met_by}
use Rattle.version_words.proofs.Inside.{has_run, commit_kept}
use Rattle.version_words.proofs.NextWords.{part_begins, next_named, next_apart, outcome_commits, commit_low}
use Rattle.version_words.proofs.table.FlockTable.outcome_commit.Goals as goal

pub next_spot-spot-requires : goal.next_spot-spot-requires
next_spot-spot-requires g c =
    let mean = g.S.Structure.meaning in let m = mean c.args.self.now.structure in let seat = c.runner.inside.seat in
    let run = has_run m c.args.runner OutcomeCommit (next_log c.args.runner.part.run, Exchanges 0 c.args.word) refl c.requires.next in
    subst (λ (b : Block). b.lists.blocks.links.start ≤ b.place.agreed) (sym c.deref-2.ensures)
    (part_begins mean c.runner.inside.number c.runner.inside.kept.value seat.table_id seat.me c.runner.invariant run.0 (ap (λ r. r.part.run) c.runner.view_is ∙ run.1))

pub exchange-found-requires-clause-named : goal.exchange-found-requires-clause-named
exchange-found-requires-clause-named g c =
    let mean = g.S.Structure.meaning in let m = mean c.args.self.now.structure in let seat = c.runner.inside.seat in
    let run = has_run m c.args.runner OutcomeCommit (next_log c.args.runner.part.run, Exchanges 0 c.args.word) refl c.requires.next in
    let next = subst (λ r. met_by m r OutcomeCommit ≡ Some (next_log r.part.run, Exchanges 0 c.args.word)) (sym c.runner.view_is) c.requires.next
    ∙ ap (λ (n : ℕ). Some (next_log seat.me.0.part.run, Exchanges 0 n)) (sym c.bits.ensures.number) in
    let linked = subst (λ r. KnowsPart r.part.run) (sym c.runner.view_is) c.requires.linked in
    let is = c.next_spot-spot.ensures ∙ ap (λ (b : Block). kept_log b.place b.lists.blocks.links) c.deref-2.ensures in
    λ κs lives. next_named mean c.runner.inside.number c.runner.inside.kept.value seat.table_id seat.me c.runner.invariant run.0 (ap (λ r. r.part.run) c.runner.view_is ∙ run.1) linked
    c.next_spot-spot.result is m OutcomeCommit c.args.self.now c.bits.result refl next

pub exchange-found-requires-clause-apart : goal.exchange-found-requires-clause-apart
exchange-found-requires-clause-apart g c =
    let mean = g.S.Structure.meaning in let m = mean c.args.self.now.structure in let seat = c.runner.inside.seat in
    let run = has_run m c.args.runner OutcomeCommit (next_log c.args.runner.part.run, Exchanges 0 c.args.word) refl c.requires.next in
    let linked = subst (λ r. KnowsPart r.part.run) (sym c.runner.view_is) c.requires.linked in
    let is = c.next_spot-spot.ensures ∙ ap (λ (b : Block). kept_log b.place b.lists.blocks.links) c.deref-2.ensures in
    λ κs lives. next_apart mean c.runner.inside.number c.runner.inside.kept.value seat.table_id seat.me c.runner.invariant run.0 (ap (λ r. r.part.run) c.runner.view_is ∙ run.1) linked
    c.next_spot-spot.result is

pub overflow_add-place : goal.overflow_add-place
overflow_add-place g c =
    let mean = g.S.Structure.meaning in let s = c.args.self.now.structure in let seat = c.runner.inside.seat in let new = c.exchange-found.new.seat in let tells = c.exchange-found.ensures in
    let met = g.met.S.Structure g.world.𝓛 g.world.𝓜 g.world.𝓡 ((λ s allowed. allowed), (λ patient. patient), (λ alone. alone), (λ cuts. cuts)) in
    let limits = tells.own.limits new.me.0.layout tells.own.layout in let requests = tells.own.allowed new.me.0.requests tells.own.requests in
    let low = commit_low mean s OutcomeCommit c.exchange-found.result c.runner.inside.number c.runner.inside.kept.value seat.table_id new.table_id seat.me new.me tells.event c.runner.invariant refl outcome_commits
    (met.laws s) limits requests in
    let same = ap (λ (b : Block). b.place.agreed) c.deref.ensures in omega (arith, low, same)

pub invariant_of-runner : goal.invariant_of-runner
invariant_of-runner g c =
    let mean = g.S.Structure.meaning in let seat = c.runner.inside.seat in let new = c.exchange-found.new.seat in
    let kept = c.runner.inside.kept.value in let number = c.runner.inside.number in
    let after_commit = commit_kept mean c.args.self.now.structure OutcomeCommit c.exchange-found.result number kept seat.table_id new.table_id seat.me new.me
    (ap (λ r. r.structure) c.runner.view_is ∙ c.requires.own.structure) c.exchange-found.ensures.event c.exchange-found.ensures.slots c.runner.invariant refl refl in
    subst (λ (b : Block). IsKept mean number (record b { place = record (b.place) { agreed = c.deref.result.now.place.agreed + 1 } }) new.me) (sym c.deref_mut.ensures.value)
    (subst (λ (b : Block). IsKept mean number (record kept { place = record (kept.place) { agreed = b.place.agreed + 1 } }) new.me) (sym c.deref.ensures) after_commit)
