-- A state of the machine, with all that is known of its slots and of its sections.
use Rattle.std.specs.Prelude.{◌≡◌, ℕ, ◌+◌, true}
use Rattle.machine_states.specs.table_words.specs.declared.layout.Layout.{Layout}
use Rattle.machine_states.specs.structure_laws.specs.Meaning.{Meaning}
use Rattle.machine_states.specs.epoch_core.specs.declared.location.Location.TheVariants.{Live}
use Rattle.machine_states.specs.epoch_core.specs.History as epoch_history
use Rattle.agreement_core.specs.History as agreement_history
use Rattle.machine_states.specs.Sight.{Sight}
use Rattle.machine_blocks.specs.machine_guards.specs.machine_agreement.specs.machine_epochs.specs.Entries.{counts_of}
use Rattle.machine_blocks.specs.Stands.{LogsHold}
use Rattle.machine_invariant.specs.Slots.{node_count, is_used, SlotsAreSound}
use Rattle.machine_invariant.specs.Sections.{SectionsAreSound}
use Rattle.machine_invariant.specs.Along.{Components}
use Rattle.machine_invariant.specs.Whole.{Beside, IsWhole}

-- a state of the machine beside these states and histories of the components
pub record StateIsSound (m : Meaning) (l : Layout) (s : Sight) (k : Components) : Type 0 where
  pub slots : SlotsAreSound m l k.epochs.location k.epochs.holds s k.epochs.log k.wins
  pub sections : SectionsAreSound m l k.agreement s k.changes k.wins
  -- a descriptor of which a runner is sure is given out to nobody; both components have the same logs, and these stand
  -- in the descriptors and in the blocks that are linked to them
  pub logs : LogsHold m l k.agreement k.epochs s
  -- the components say the same of descriptors: a section was published there and the descriptor isn't free
  -- again, or isn't even retired
  pub used : (d : ℕ) → k.agreement.used d ≡ is_used m l k.epochs.location d
  pub live : (d : ℕ) → k.agreement.live d ≡ true → k.epochs.location (node_count m l + d) ≡ Live
  pub is_live : (d : ℕ) → k.epochs.location (node_count m l + d) ≡ Live → k.agreement.live d ≡ true

-- so a state of the machine is that meets the whole invariant beside these states of the components, whose
-- histories say what happened
abbrev pub WholeStatesAreSound : Meaning → Layout → Type 0
WholeStatesAreSound m l = (g : Beside) (s : Sight) (k : Components) → IsWhole m l g s
    → k.agreement ≡ g.agreement → k.epochs ≡ g.epochs
    → agreement_history.IsExact k.agreement k.changes
    → epoch_history.IsExact (counts_of m l) k.epochs k.wins → StateIsSound m l s k
