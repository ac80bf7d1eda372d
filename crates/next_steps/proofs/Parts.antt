-- The runners' parts after a step.
use Rattle.std.specs.Prelude.{Bool, true}
use Rattle.std.proofs.Common.{◌≡◌, ◌≢◌, ℕ, ◌<◌, List, arith}
use Rattle.machine_states.specs.table_words.specs.declared.layout.Layout.{Layout}
use Rattle.machine_states.specs.table_words.specs.declared.spot.Spot.{Spot}
use Rattle.machine_states.specs.table_words.specs.declared.access.Access.{Access}
use Rattle.machine_states.specs.table_words.specs.Seen.{upd}
use Rattle.machine_states.specs.structure_laws.specs.Meaning.{Meaning}
use Rattle.machine_states.specs.runner_parts.specs.declared.event.EventKind.{EventKind}
use Rattle.machine_states.specs.runner_parts.specs.declared.event.EventKind.TheVariants as kinds
use Rattle.machine_states.specs.runner_parts.specs.declared.entries.BoardRead.{BoardRead}
use Rattle.machine_states.specs.runner_parts.specs.State.{BlocksState, RecordsState, PartState}
use Rattle.machine_states.specs.runner_steps.specs.After.{knows_also, leaves}
use Rattle.machine_states.specs.runner_steps.specs.After.{after, after_by}
use Rattle.machine_states.specs.Sight.{Sight, sight_after}
use Rattle.machine_states.proofs.Sights.{Joins}
use Rattle.machine_states.proofs.Updates.{upd_split}

-- what doesn't depend on a part's records, on its blocks and on its loads of the board
abbrev pub IsBlind : (ℕ → PartState → Type 0) → Type 0
IsBlind Q = (i : ℕ) (p : PartState) (blocks : BlocksState) (board : List BoardRead) (records : RecordsState) (gone : Bool) → Q i p
    → Q i (record p { blocks = blocks; board = board; records = records; gone = gone })

module _ (m : Meaning) (l : Layout) (s : Sight) (r : ℕ) (x : Spot × Access) (Q : ℕ → PartState → Type 0) (blind : IsBlind Q) where
  apart : (r worker runners : ℕ) → r ≡ runners → worker < runners → worker ≢ r
  apart r worker runners is low same = let a = is in let b = same in omega arith

  -- it holds of each part after a step where it does of the stepping runner's, and of each other one before
  pub each_part : (kind : EventKind) → Joins l kind r → Q r (after_by m l kind (s.part r) (s.part r).run (s.word x.0))
      → ((i : ℕ) → i ≢ r → Q i (s.part i)) → (i : ℕ) → Q i ((sight_after m l s r kind x).part i)
  each_part (kinds.Join worker) joins own rest i =
      let p' = after m l r (kinds.Join worker) x.0 x.1 (s.part r) (s.word x.0) in
      let keeper = knows_also p' (s.part worker) in
      let own' : Q r p' = blind r _ p'.blocks p'.board p'.records p'.gone own in
      upd_split (upd s.part r keeper) worker (leaves (s.part worker)) Q
      (blind worker (s.part worker) (s.part worker).blocks (s.part worker).board (s.part worker).records true (rest worker (apart r worker l.runners joins.0 joins.1)))
      (λ k ne. upd_split s.part r keeper Q (blind r p' p'.blocks p'.board keeper.records p'.gone own') rest k) i
  each_part kind joins own rest i =
      let p' = after m l r kind x.0 x.1 (s.part r) (s.word x.0) in
      upd_split s.part r p' Q (blind r _ p'.blocks p'.board p'.records p'.gone own) rest i
