use Rattle.std.specs.Prelude.{not, position}
use Rattle.std.proofs.Common.{◌∙◌, sym, ap}
use Rattle.machine_states.specs.body_terms.specs.Shape.{is_look}
use Rattle.seq_read.proofs.Light.{get_changes_none}
use Rattle.seq_read.proofs.reading.change_in.Goals as goal

-- a `get` of a structure that serves the map changes nothing
pub returns-in-Get : goal.returns-in-Get
returns-in-Get g c =
    let met = g.met.S.Structure g.world.𝓛 g.world.𝓜 g.world.𝓡 ((λ s allowed. allowed), (λ patient. patient), (λ alone. alone), (λ cuts. cuts)) in
    let plans = g.met.S.Planner g.world.𝓛 g.world.𝓜 g.world.𝓡 ((λ s allowed. allowed), (λ patient. patient), (λ alone. alone), (λ cuts. cuts)) in
    let s = c.args.table.now.structure in
    let e = c.requires.planned in
    sym (ap (position (λ step. not (is_look step))) c.requires.body
    ∙ get_changes_none (g.S.Structure.meaning s) (g.S.Planner.planning s) (plans.gets_are_light s) c.args.request.now c.in-Get.field-0 c.in-Get.is e.1
    (met.serves s ∙ (sym c.MAP.ensures ∙ c.if-MAP.true)) e.0 c.args.thunk.now e.2 e.3)
