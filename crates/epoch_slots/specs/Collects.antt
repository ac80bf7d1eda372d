-- What a scan of the announcements finds, and what comes out of limbo.
use Rattle.std.specs.Prelude.{◌≡◌, ℕ, ◌+◌, List, [], ◌∷◌, ◌++◌, Bool, true, false, not, ◌==◌, ◌&&◌, nat_lt, length, None, Some, slice_get}
use Rattle.std.specs.List.{filter, list_any, list_all}
use Rattle.machine_states.specs.body_terms.specs.Word.{version_of}
use Rattle.machine_states.specs.structure_laws.specs.Meaning.{Meaning}
use Rattle.machine_states.specs.runner_parts.specs.declared.event.EventKind.TheVariants as kinds
use Rattle.machine_states.specs.epoch_core.specs.declared.stage.Stage.TheVariants as stages
use Rattle.machine_states.specs.runner_parts.specs.State.{NodesState}
use Rattle.machine_states.specs.runner_parts.specs.Lists.{is_old, slots_of, nodes_collected}
use Rattle.machine_states.specs.epoch_core.specs.State.{last_epoch}
use Rattle.machine_states.specs.epoch_core.specs.Moves.{is_clear}
use Rattle.version_words.specs.RunnerState.{RunnerState}
use Rattle.machine_states.specs.World.{World, seat_of}
use Rattle.machine_states.specs.Reached.{Reached}
use Rattle.version_words.specs.Events.{Makes, Tries}
use Rattle.version_words.specs.Stages.{IsAt}
use Rattle.epoch_slots.specs.Entries.{KeepsOwn}

-- of these slots those with no cell at the greatest version, and those with one
abbrev pub unworn : List ℕ → List Bool → List ℕ
unworn (slot ∷ slots) (false ∷ wears) = slot ∷ unworn slots wears
unworn (slot ∷ slots) (true ∷ wears) = unworn slots wears
unworn _ _ = []

abbrev pub worn_out : List ℕ → List Bool → List ℕ
worn_out (slot ∷ slots) (true ∷ wears) = slot ∷ worn_out slots wears
worn_out (slot ∷ slots) (false ∷ wears) = worn_out slots wears
worn_out _ _ = []

-- slots that were in limbo come back: the worn ones to the worn list, the others to the free list
abbrev pub come_back : ℕ → NodesState → List Bool → NodesState
come_back epoch n wears = let slots = slots_of (filter (is_old epoch) n.limbo) in record {
  free = n.free ++ unworn slots wears;
  hand = [];
  tests = [];
  limbo = filter (λ x. not (is_old epoch x)) n.limbo;
  worn = n.worn ++ worn_out slots wears;
}

module _ {T : Type 0} where
  -- the runner is idle, has no slot in its hand and no sweep in progress, and its guard word names nothing
  pub record IsTidy (r : RunnerState T) : Type 0 where
    pub at : IsAt r stages.Idle None
    pub hand : r.part.nodes.hand ≡ []
    pub tests : r.part.nodes.tests ≡ []
    pub looked : r.part.guards.looked ≡ []
    pub unguarded : r.part.guards.named ≡ None

  module _ (m : Meaning) where
    -- the machine reaches a state in which the runner has this part
    pub record IsShown (r : RunnerState T) : Type 0 where
      pub world : World
      pub reached : Reached m r.layout r.requests world
      pub own : slice_get world.parts (seat_of r.layout r.number) ≡ Some r.part

    -- the announcements from this one on are loaded, one after the other, and hold this
    abbrev pub Scans : ℕ → List ℕ → RunnerState T → RunnerState T → Type 0
    Scans next [] r r' = r' ≡ r
    Scans next (found ∷ rest) r r' =
        (s : RunnerState T) × Makes m (kinds.ScanOne next) found r s × Scans (next + 1) rest s r'

    -- the cells of a slot from this one on are loaded, one after the other, and hold these words
    abbrev pub Looks : ℕ → ℕ → List ℕ → RunnerState T → RunnerState T → Type 0
    Looks slot cell [] r r' = r' ≡ r
    Looks slot cell (word ∷ rest) r r' = (s : RunnerState T) × Makes m (kinds.PrivateLoad slot cell) word r s
        × Looks slot (cell + 1) rest s r'

    -- all five cells of a slot are loaded, and whether one is at the greatest version
    pub record IsTested (slot : ℕ) (worn : Bool) (r r' : RunnerState T) : Type 0 where
      pub words : List ℕ
      pub five : length words ≡ 5
      pub looks : Looks slot 0 words r r'
      pub told : worn ≡ list_any (λ word. version_of word == r.layout.version_max) words

    -- these slots are tested, one after the other
    abbrev pub AreTested : List ℕ → List Bool → RunnerState T → RunnerState T → Type 0
    AreTested [] wears r r' = (wears ≡ []) × (r' ≡ r)
    AreTested (slot ∷ slots) [] r r' = ⊥
    AreTested (slot ∷ slots) (worn ∷ wears) r r' =
        (s : RunnerState T) × IsTested slot worn r s × AreTested slots wears s r'

    -- an advance is tried exactly where it may be: the scan is for the epoch after it then, won or lost
    abbrev pub Advances : ℕ → Bool → ℕ → RunnerState T → RunnerState T → Type 0
    Advances epoch true reached r r' = (won : Bool) × Tries m kinds.Advance won r r' × (reached ≡ epoch + 1)
    Advances epoch false reached r r' = (r' ≡ r) × (reached ≡ epoch)

    -- the epoch is loaded, and then the announcements of so many runners; whether each was idle or the epoch
    pub record HasScanned (runners epoch : ℕ) (clear : Bool) (old new : RunnerState T) : Type 0 where
      pub begun : RunnerState T
      pub found : List ℕ
      pub load : Makes m kinds.ScanEpoch epoch old begun
      pub scans : Scans 0 found begun new
      pub each : length found ≡ runners
      pub told : clear ≡ list_all (is_clear epoch) found
      pub at : IsAt new (stages.Scanning epoch runners clear) None
      pub guards : new.part.guards ≡ old.part.guards
      pub keeps : KeepsOwn old new

    -- the last announcement is loaded, and the advance tried where it may be: the node slots that were retired two
    -- epochs before the one reached leave limbo
    pub record EndsScan (last epoch : ℕ) (clear : Bool) (old new : RunnerState T) : Type 0 where
      pub found : ℕ
      pub reached : ℕ
      pub scanned : RunnerState T
      pub scan : Makes m (kinds.ScanOne last) found old scanned
      pub advances : Advances epoch ((clear && is_clear epoch found) && nat_lt epoch last_epoch) reached scanned new
      pub nodes : new.part.nodes ≡ nodes_collected reached old.part.nodes
      pub descriptors : new.part.descriptors ≡ old.part.descriptors
      pub guards : new.part.guards ≡ old.part.guards
      pub at : IsAt new stages.Idle None
      pub number : new.number ≡ old.number
      pub known : new.part.records.known ≡ old.part.records.known
      pub finished : new.part.records.finished ≡ old.part.records.finished
      pub shown : IsShown new

    -- one scan: the epoch is loaded, then every announcement; where each was idle or the epoch, and that
    -- isn't the last one, one exchange takes the epoch on; the node slots that were retired two epochs before
    -- the one reached leave limbo, nothing else does, and each of them is tested
    pub record Collects (old new : RunnerState T) : Type 0 where
      pub epoch : ℕ
      pub found : List ℕ
      pub reached : ℕ
      pub wears : List Bool
      pub begun : RunnerState T
      pub scanned : RunnerState T
      pub over : RunnerState T
      pub load : Makes m kinds.ScanEpoch epoch old begun
      pub scans : Scans 0 found begun scanned
      pub each : length found ≡ old.layout.runners + 1
      pub advances : Advances epoch (list_all (is_clear epoch) found && nat_lt epoch last_epoch) reached scanned over
      pub tested : AreTested (slots_of (filter (is_old reached) old.part.nodes.limbo)) wears over new
      pub nodes : new.part.nodes ≡ come_back reached old.part.nodes wears
      pub descriptors : new.part.descriptors ≡ old.part.descriptors
      pub guards : new.part.guards ≡ old.part.guards
      pub tidy : IsTidy new
      pub number : new.number ≡ old.number
      pub known : new.part.records.known ≡ old.part.records.known
      pub finished : new.part.records.finished ≡ old.part.records.finished
