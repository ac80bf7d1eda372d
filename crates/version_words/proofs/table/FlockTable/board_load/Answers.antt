use Rattle.std.specs.Prelude.{slice_set}
use Rattle.std.proofs.Common.{sym, subst, ap, ◌∙◌}
use Rattle.machine_states.specs.runner_parts.specs.declared.event.EventKind.TheVariants.{BoardLoad}
use Rattle.version_words.specs.TableState.{IsOf}
use Rattle.version_words.specs.Events.{IsEnabled, Makes, seen_seat}
use Rattle.runner_block.specs.declared.block.Block.{Block}
use Rattle.runner_block.specs.Kept.{with_marks}
use Rattle.runner_block.specs.Marks.{mark_loaded}
use Rattle.version_words.specs.Kept.{IsKept}
use Rattle.version_words.proofs.BoardSteps.{load_word, load_named, load_event, load_kept}
use Rattle.version_words.proofs.table.FlockTable.board_load.Goals as goal

pub load-found-requires-clause-named : goal.load-found-requires-clause-named
load-found-requires-clause-named g c =
    let t = c.args.self.now in let m = g.S.Structure.meaning t.structure in let seat = c.runner.inside.seat in
    let own = subst (λ r. IsOf t r) (sym c.runner.view_is) c.requires.own in
    let next = subst (IsEnabled m (BoardLoad c.args.word)) (sym c.runner.view_is) c.requires.next in
    λ κs lives. load_named m t (seen_seat seat.table_id seat.me) own c.args.word next

pub load_board-requires : goal.load_board-requires
load_board-requires g c =
    let t = c.args.self.now in let m = g.S.Structure.meaning t.structure in let seat = c.runner.inside.seat in
    let own = subst (λ r. IsOf t r) (sym c.runner.view_is) c.requires.own in
    let next = subst (IsEnabled m (BoardLoad c.args.word)) (sym c.runner.view_is) c.requires.next in
    load_word m t (seen_seat seat.table_id seat.me) own c.args.word next

pub invariant_of-runner : goal.invariant_of-runner
invariant_of-runner g c =
    let t = c.args.self.now in let mean = g.S.Structure.meaning in let s = t.structure in let seat = c.runner.inside.seat in let new = c.load-found.new.seat in let found = c.load-found.result in
    let own = subst (λ r. IsOf t r) (sym c.runner.view_is) c.requires.own in
    let next = subst (IsEnabled (mean s) (BoardLoad c.args.word)) (sym c.runner.view_is) c.requires.next in
    let event = load_event (mean s) t (seen_seat seat.table_id seat.me) own c.args.word next found (seen_seat new.table_id new.me) c.load-found.ensures.event in
    subst (λ (b : Block). IsKept mean c.runner.inside.number (record b { lists = c.load_board.new.self }) new.me) (sym c.deref_mut.ensures.value)
    (load_kept mean s c.args.word c.runner.inside.number c.runner.inside.kept.value seat.table_id seat.me own.structure c.runner.invariant found new.table_id new.me c.load-found.ensures.slots event c.load_board.new.self
    (c.load_board.ensures ∙ ap (λ (b : Block). with_marks b.lists (slice_set b.lists.marks c.args.word (mark_loaded found))) c.deref_mut.ensures.value))

pub returns-clause-event : goal.returns-clause-event
returns-clause-event g c =
    let t = c.args.self.now in let m = g.S.Structure.meaning t.structure in let seat = c.runner.inside.seat in let new = c.load-found.new.seat in let found = c.load-found.result in
    let own = subst (λ r. IsOf t r) (sym c.runner.view_is) c.requires.own in
    let next = subst (IsEnabled m (BoardLoad c.args.word)) (sym c.runner.view_is) c.requires.next in
    subst (λ r. Makes m (BoardLoad c.args.word) found r (seen_seat new.table_id new.me)) c.runner.view_is
    (load_event m t (seen_seat seat.table_id seat.me) own c.args.word next found (seen_seat new.table_id new.me) c.load-found.ensures.event)
