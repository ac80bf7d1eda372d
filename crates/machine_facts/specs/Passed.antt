-- The states that events of the machine pass, each with all that is known of it.
use Rattle.std.specs.Prelude.{◌≡◌, List, [], ◌∷◌, Some}
use Rattle.machine_states.specs.map_history.specs.declared.op.Request.{Request}
use Rattle.machine_states.specs.table_words.specs.declared.layout.Layout.{Layout}
use Rattle.machine_states.specs.structure_laws.specs.Meaning.{Meaning}
use Rattle.machine_states.specs.runner_parts.specs.declared.event.Event.{Event}
use Rattle.agreement_core.specs.Events as agreement
use Rattle.machine_states.specs.epoch_core.specs.Events as epochs
use Rattle.machine_states.specs.epoch_core.specs.Freed.{SlotsMove}
use Rattle.machine_states.specs.World.{World, happens}
use Rattle.machine_states.specs.Sight.{sight}
use Rattle.machine_invariant.specs.machine_blocks.specs.machine_guards.specs.machine_agreement.specs.machine_epochs.specs.Entries.{counts_of}
use Rattle.machine_invariant.specs.Along.{Components, components_after, AreEventsOf}
use Rattle.machine_facts.specs.Steps.{WordsStand, LocksStand}
use Rattle.machine_facts.specs.States.{FactsStand}

module _ (m : Meaning) (l : Layout) (requests : List Request) where
  -- an event leads from the one state to the other; the components go along by exactly the events
  -- of its kind
  pub record Leads (w : World) (k : Components) (e : Event) (v : World) (j : Components) : Type 0 where
    pub happens : happens m l requests w e ≡ Some v
    pub sections : List agreement.Event
    pub slots : List epochs.Event
    pub events : AreEventsOf m l requests k (sight m l requests w) e.runner e.kind sections slots
    pub next : j ≡ components_after m l k sections slots
    -- the words that stand
    pub words : WordsStand k.agreement.used (sight m l requests w).word (sight m l requests v).word
    pub locks : LocksStand m ((sight m l requests w).part e.runner) e.kind
        (sight m l requests w).word (sight m l requests v).word
    -- where the node slots go, and which commits win
    pub moves : SlotsMove (counts_of m l) k.epochs j.epochs k.wins j.wins

  -- these events lead from the one state to the other, and all facts hold of each state that they
  -- pass
  abbrev pub GoSoundly : World → Components → List Event → World → Components → Type 0
  GoSoundly w k [] w' k' = (w' ≡ w) × (k' ≡ k) × FactsStand m l (sight m l requests w) k
  GoSoundly w k (e ∷ events) w' k' = FactsStand m l (sight m l requests w) k
      × (v : World) × (j : Components) × Leads w k e v j × GoSoundly v j events w' k'
