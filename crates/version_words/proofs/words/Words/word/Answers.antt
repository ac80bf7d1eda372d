use Rattle.std.proofs.Common.{sym, ap, ◌∙◌}
use Rattle.std.specs.Prelude.{slice_index}
use Rattle.std.specs.Slots.{slots_items}
use Rattle.machine_states.specs.table_words.specs.declared.sizes.Sizes.{Sizes}
use Rattle.machine_states.specs.table_words.specs.Places.{address, Fits}
use Rattle.machine_states.specs.table_words.proofs.Seen.{seen_here}
use Rattle.machine_states.specs.runner_steps.specs.Asks.{sizes_for}
use Rattle.version_words.proofs.Lists.{read}
use Rattle.version_words.proofs.words.Words.word.Goals as goal

pub returns : goal.returns
returns g c =
    let w = c.self.inside in let m = g.S.Structure.meaning w.setup.structure in let held = slots_items w.closed.words in
    let sizes = sizes_for m w.setup.layout w.setup.requests.items in
    let fits : Fits sizes c.args.spot = rw (← c.self.view_is) at c.requires in
    let at_is = c.address.ensures ∙ ap (λ (z : Sizes). address z c.args.spot) c.self.invariant.as_sized in
    rw (← c.self.view_is) (read held c.address.result c.word.result 0 c.word.ensures ∙ (ap (slice_index held) at_is ∙ sym (seen_here sizes held c.args.spot fits)))
