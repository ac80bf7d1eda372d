use Rattle.std.specs.Prelude.{◌&&◌, not, Bool, true, false}
use Rattle.std.proofs.Common.{◌≡◌, List, sym, ap, ◌∙◌}
use Rattle.std.specs.List.{list_any}
use Rattle.machine_states.specs.map_history.specs.declared.op.Request.{Request}
use Rattle.machine_states.specs.table_words.specs.Places.{board_words}
use Rattle.machine_states.specs.runner_steps.specs.Asks.{sizes_for}
use Rattle.interleave_core.specs.Machine.{MachineState, is_live}
use Rattle.interleave_core.specs.Parts.{is_on_board, owns}
use Rattle.interleave_core.proofs.machine.Machine.is_live.Goals as goal

in_no_list : (owned on a b : Bool) → owned ≡ false → owned ≡ a → on ≡ b → not on ≡ (not a && not b)
in_no_list owned on true b none e f = absurd (let z = sym none ∙ e in cc)
in_no_list owned on false b none e f = ap not f

in_a_list : (owned a b : Bool) → owned ≡ true → owned ≡ a → not owned ≡ (not a && not b)
in_a_list owned true b some e = ap not some
in_a_list owned false b some e = absurd (let z = sym some ∙ e in cc)

pub returns-then-not-some_owns : goal.returns-then-not-some_owns
returns-then-not-some_owns g c =
    let m = g.S.Structure.meaning in let s = c.self.inside in
    let sizes = c.sizes_for-sizes.ensures ∙ ap (λ (rs : List Request). sizes_for (m s.structure) s.layout rs) c.deref.ensures.value in
    let listed = c.some_owns.ensures ∙ ap (list_any (λ p. owns p c.args.slot)) c.deref-2.ensures.value in
    let on = c.is_on_board.ensures ∙ (λ i. is_on_board (sizes i) (c.deref-then-not-some_owns.ensures.value i) c.args.slot board_words) in
    in_no_list c.some_owns.result c.is_on_board.result _ _ c.if-not-some_owns.true listed on
    ∙ ap (λ (x : MachineState g.row.S.Denot). is_live (m x.structure) x c.args.slot) c.self.view_is

pub returns-else-not-some_owns : goal.returns-else-not-some_owns
returns-else-not-some_owns g c =
    let m = g.S.Structure.meaning in let s = c.self.inside in
    let listed = c.some_owns.ensures ∙ ap (list_any (λ p. owns p c.args.slot)) c.deref-2.ensures.value in
    in_a_list c.some_owns.result _ (is_on_board (sizes_for (m s.structure) s.layout s.requests.items) s.words.items c.args.slot board_words) c.if-not-some_owns.false listed
    ∙ ap (λ (x : MachineState g.row.S.Denot). is_live (m x.structure) x c.args.slot) c.self.view_is
