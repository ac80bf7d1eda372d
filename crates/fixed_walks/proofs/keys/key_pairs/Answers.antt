use Rattle.std.proofs.Common.{ap, ◌∙◌, rules}
use Rattle.std.proofs.lemmas.Result.{IfOk-weaker}
use Rattle.key_cells.specs.shared_laws.specs.Listing.{listed}
use Rattle.fixed_walks.specs.Keys.{held_by}
use Rattle.fixed_walks.proofs.Gathering.{the_maps}
use Rattle.fixed_walks.proofs.keys.key_pairs.Goals as goal

pub returns : goal.returns
returns g c =
    let met = g.met.C.KeyCells g.world.𝓛 g.world.𝓜 g.world.𝓡 ((λ s allowed. allowed), (λ patient. patient), (λ alone. alone), (λ cuts. cuts)) in
    let cells = c.args.cells.now in
    let keyed = g.C.KeyCells.keyed cells in
    let meaning = g.C.Structure.meaning cells in
    let words = c.args.words.now in
    record {
      contents = IfOk-weaker c.pairs_by_key.result _ _
          (λ items are pairs stand. the_maps keyed (met.lawful cells) meaning c.requires.means words pairs stand items.items
          (are (held_by keyed meaning words) (λ key o low post. search rules) ∙ ap (λ n. listed (held_by keyed meaning words) 0 n) c.keys.ensures.keys))
          c.pairs_by_key.ensures;
    }
