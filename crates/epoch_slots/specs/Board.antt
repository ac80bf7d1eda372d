-- What a worker takes from the board, and what it gives to it.
use Rattle.std.specs.Prelude.{◌≡◌, ◌≢◌, ◌==◌, ℕ, ◌+◌, ◌<◌, ◌≤◌, ◌⊎◌, List, [], ◌∷◌, true, false, cond, length, None}
use Rattle.machine_states.specs.table_words.specs.Places.{board_words}
use Rattle.machine_states.specs.structure_laws.specs.Meaning.{Meaning}
use Rattle.machine_states.specs.runner_parts.specs.declared.entries.BoardRead.{BoardRead}
use Rattle.machine_states.specs.runner_parts.specs.declared.entries.Tried.{Tried}
use Rattle.machine_states.specs.runner_parts.specs.declared.entries.Tried.TheVariants as tries
use Rattle.machine_states.specs.runner_parts.specs.declared.event.EventKind.TheVariants as kinds
use Rattle.machine_states.specs.epoch_core.specs.declared.stage.Stage.TheVariants as stages
use Rattle.version_words.specs.runner_block.specs.Marks.{lost_links}
use Rattle.version_words.specs.RunnerState.{RunnerState}
use Rattle.version_words.specs.Events.{Makes, Tries}
use Rattle.version_words.specs.Stages.{IsAt}

-- the loads of a call, the latest first, before those that were there
abbrev pub behind : List BoardRead → List BoardRead → List BoardRead
behind [] board = board
behind (x ∷ xs) board = behind xs (x ∷ board)

-- 1 where a link was read and the exchange behind it lost, as another runner took that slot first; else 0
abbrev pub lost_one : ℕ → Tried → ℕ
lost_one read tries.Lost = cond (read == 0) 0 1
lost_one read _ = 0

-- how many links were lost so, of these loads
abbrev pub lost_among : List BoardRead → ℕ
lost_among [] = 0
lost_among (x ∷ xs) = lost_one x.read x.tried + lost_among xs

module _ {T : Type 0} where
  -- the runner is an idle worker, in no run
  pub record MayUseBoard (r : RunnerState T) : Type 0 where
    pub at : IsAt r stages.Idle None
    pub worker : r.number < r.layout.runners

  -- of the own slots only the free node slots change, and nothing else of what the runner has
  pub record KeepsAside (old new : RunnerState T) : Type 0 where
    pub number : new.number ≡ old.number
    pub layout : new.layout ≡ old.layout
    pub nodes : new.part.nodes ≡ record (old.part.nodes) { free = new.part.nodes.free }
    pub descriptors : new.part.descriptors ≡ old.part.descriptors
    pub blocks : new.part.blocks ≡ old.part.blocks
    pub guards : new.part.guards ≡ old.part.guards
    pub known : new.part.records.known ≡ old.part.records.known
    pub finished : new.part.records.finished ≡ old.part.records.finished

  module _ (m : Meaning) where
    -- behind a load that found this in a word of the board: for a link one exchange tries to take the slot, and wins or
    -- loses; for a 0 none is made
    abbrev pub TakesSo : ℕ → ℕ → Tried → RunnerState T → RunnerState T → Type 0
    TakesSo word read tries.Not r r' = (read ≡ 0) × (r' ≡ r)
    TakesSo word read tries.Won r r' = (read ≢ 0) × Tries m (kinds.BoardTake word read) true r r'
    TakesSo word read tries.Lost r r' = (read ≢ 0) × Tries m (kinds.BoardTake word read) false r r'

    -- for a 0 one exchange tries to give an own free slot
    abbrev pub GivesSo : ℕ → ℕ → Tried → RunnerState T → RunnerState T → Type 0
    GivesSo word read tries.Not r r' = (read ≢ 0) × (r' ≡ r)
    GivesSo word read tries.Won r r' = (read ≡ 0) × (slot : ℕ) × Tries m (kinds.BoardGive word slot) true r r'
    GivesSo word read tries.Lost r r' = (read ≡ 0) × (slot : ℕ) × Tries m (kinds.BoardGive word slot) false r r'

    -- one word of the board is loaded, and then its slot taken, or a slot given to it; the runner keeps what it read
    -- there and what became of it
    pub record Visits (So : ℕ → ℕ → Tried → RunnerState T → RunnerState T → Type 0) (word : ℕ) (x : BoardRead)
        (old new : RunnerState T) : Type 0 where
      pub loaded : RunnerState T
      pub named : x.word ≡ word
      pub load : Makes m (kinds.BoardLoad word) x.read old loaded
      pub exchange : So word x.read x.tried loaded new
      pub kept : new.part.board ≡ x ∷ old.part.board

    pub record TakesOne (word : ℕ) (old new : RunnerState T) : Type 0 where
      pub entry : BoardRead
      pub visit : Visits TakesSo word entry old new
      pub more : length old.part.nodes.free ≤ length new.part.nodes.free
      pub ready : MayUseBoard new
      pub keeps : KeepsAside old new

    pub record GivesOne (word : ℕ) (old new : RunnerState T) : Type 0 where
      pub entry : BoardRead
      pub visit : Visits GivesSo word entry old new
      pub left : (length old.part.nodes.free ≤ length new.part.nodes.free)
          ⊎ (new.layout.nodes ≤ length new.part.nodes.free)
      pub ready : MayUseBoard new
      pub keeps : KeepsAside old new

    -- so the words of the board from this one on are visited, one after the other, each while fewer are free
    abbrev pub Draws : ℕ → ℕ → List BoardRead → RunnerState T → RunnerState T → Type 0
    Draws n next [] r r' = r' ≡ r
    Draws n next (x ∷ rest) r r' = (s : RunnerState T) × (length r.part.nodes.free < n) × Visits TakesSo next x r s
        × Draws n (next + 1) rest s r'

    -- and each while more are free than the layout gives a worker
    abbrev pub Spares : ℕ → List BoardRead → RunnerState T → RunnerState T → Type 0
    Spares next [] r r' = r' ≡ r
    Spares next (x ∷ rest) r r' = (s : RunnerState T) × (r.layout.nodes < length r.part.nodes.free)
        × Visits GivesSo next x r s × Spares (next + 1) rest s r'

    -- so many words were visited; no fewer slots are free behind them
    pub record HasDrawn (n count : ℕ) (old new : RunnerState T) : Type 0 where
      pub found : List BoardRead
      pub each : length found ≡ count
      pub draws : Draws n 0 found old new
      pub more : length old.part.nodes.free ≤ length new.part.nodes.free
      pub kept : new.part.board ≡ behind found old.part.board
      pub ready : MayUseBoard new
      pub keeps : KeepsAside old new

    -- so many words were visited; none was given, or as many slots are left free as the layout gives a worker
    pub record HasSpared (count : ℕ) (old new : RunnerState T) : Type 0 where
      pub found : List BoardRead
      pub each : length found ≡ count
      pub spares : Spares 0 found old new
      pub left : (length old.part.nodes.free ≤ length new.part.nodes.free)
          ⊎ (new.layout.nodes ≤ length new.part.nodes.free)
      pub kept : new.part.board ≡ behind found old.part.board
      pub ready : MayUseBoard new
      pub keeps : KeepsAside old new

    -- a walk over the board's words, in their order, which ends where enough slots are free, or behind the last word;
    -- behind the last word the runner tells how many links this walk lost
    pub record IsDrawn (n : ℕ) (old new : RunnerState T) : Type 0 where
      pub count : ℕ
      pub drawn : HasDrawn n count old new
      pub enough : (n ≤ length new.part.nodes.free) ⊎ (count ≡ board_words)
      pub lost : count ≡ board_words → lost_links new.part.board ≡ lost_among drawn.found

    -- and which ends where no more are free than the layout gives a worker
    pub record GivesAway (old new : RunnerState T) : Type 0 where
      pub count : ℕ
      pub spared : HasSpared count old new
      pub few : (length new.part.nodes.free ≤ new.layout.nodes) ⊎ (count ≡ board_words)
