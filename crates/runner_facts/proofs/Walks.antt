-- The readings of an entered runner are as walks may take them, and what fits them is shaped.
use Rattle.std.specs.Prelude.{cond}
use Rattle.std.proofs.Common.{List, Bool, ap, Some, None}
use Rattle.machine_states.specs.map_history.specs.declared.op.Request.{Request}
use Rattle.machine_states.specs.table_words.specs.declared.layout.Layout.{Layout}
use Rattle.machine_states.specs.table_words.specs.Limits.{IsWithinLimits}
use Rattle.machine_states.specs.structure_laws.specs.Meaning.{Meaning}
use Rattle.machine_states.specs.structure_laws.specs.Laws.{Laws}
use Rattle.machine_states.specs.World.{World}
use Rattle.machine_states.specs.Reached.{Reached}
use Rattle.machine_states.specs.Sight.{Sight, sight}
use Rattle.machine_facts.specs.machine_agreement.specs.machine_epochs.specs.Entries.{counts_of}
use Rattle.machine_facts.specs.machine_agreement.specs.machine_scenes.specs.Shown.{scene_of}
use Rattle.machine_facts.specs.machine_agreement.specs.machine_scenes.proofs.Links.{gives}
use Rattle.machine_facts.specs.machine_invariant.specs.After.{AreAllowed}
use Rattle.machine_facts.specs.machine_invariant.specs.Whole.{Beside, states_of, IsWhole}
use Rattle.machine_facts.specs.machine_invariant.proofs.After.{reached_whole}
use Rattle.machine_facts.specs.machine_invariant.proofs.Asked.{entered_at}
use Rattle.runner_facts.specs.Facts.{WalksStand, FittingAreShaped}

walks_stand : (m : Meaning) (laws : Laws m) (l : Layout) (limits : IsWithinLimits l) (g : Beside) (s : Sight) → IsWhole m l g s → WalksStand m l s
walks_stand m laws l limits g s whole r entry op at allowed =
    let scene = scene_of m (counts_of m l) (states_of g s) in
    let walk = (s.part r).reads.walk in
    (gives m laws l limits scene whole.kept.lawful).walked r walk op
    (ap (λ (b : Bool). cond b (Some walk) None) (entered_at m l g.epochs s whole.slots r entry at)) allowed

pub reached_walks : (m : Meaning) → Laws m → (l : Layout) → IsWithinLimits l → (rs : List Request) → AreAllowed rs → (w : World)
    → Reached m l rs w → WalksStand m l (sight m l rs w)
reached_walks m laws l limits rs allowed w reached =
    let whole = reached_whole m laws l rs reached.events w limits allowed reached.after in
    walks_stand m laws l limits whole.0 (sight m l rs w) whole.1

fitting_shaped : (m : Meaning) (laws : Laws m) (l : Layout) (limits : IsWithinLimits l) (g : Beside) (s : Sight) → IsWhole m l g s → FittingAreShaped m l s
fitting_shaped m laws l limits g s whole r entry op thunk at allowed fits =
    let scene = scene_of m (counts_of m l) (states_of g s) in
    let walk = (s.part r).reads.walk in
    (laws.over l limits).shape scene whole.kept.lawful.sound whole.kept.lawful.kept r walk op thunk
    (ap (λ (b : Bool). cond b (Some walk) None) (entered_at m l g.epochs s whole.slots r entry at)) allowed fits

pub reached_shaped : (m : Meaning) → Laws m → (l : Layout) → IsWithinLimits l → (rs : List Request) → AreAllowed rs → (w : World)
    → Reached m l rs w → FittingAreShaped m l (sight m l rs w)
reached_shaped m laws l limits rs allowed w reached =
    let whole = reached_whole m laws l rs reached.events w limits allowed reached.after in
    fitting_shaped m laws l limits whole.0 (sight m l rs w) whole.1
