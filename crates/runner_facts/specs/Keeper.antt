-- What stands once the keeper has joined all workers.
use Rattle.std.specs.Prelude.{ℕ, ◌<◌, ◌≡◌, ◌≢◌, true, List, slice_get, Some, None}
use Rattle.machine_states.specs.table_words.specs.declared.layout.Layout.{Layout}
use Rattle.machine_states.specs.runner_parts.specs.declared.entries.Left.{Left}
use Rattle.machine_states.specs.runner_parts.specs.Tests.{has}
use Rattle.machine_states.specs.Sight.{Sight}

-- the keeper has joined every worker
abbrev pub AllJoined : Layout → Sight → Type 0
AllJoined l s = (worker : ℕ) → worker < l.runners → has (s.part l.runners).records.joined worker ≡ true

-- the entry is the last one for its word
pub record IsLastLeft (left : List Left) (x : Left) : Type 0 where
  pub at : ℕ
  pub here : slice_get left at ≡ Some x
  pub last : (i : ℕ) (y : Left) → at < i → slice_get left i ≡ Some y → y.spot ≢ x.spot

-- once all workers are joined, what the keeper's steps left last in a word stands there
abbrev pub LeftStands : Layout → Sight → Type 0
LeftStands l s = AllJoined l s → (x : Left) → IsLastLeft (s.part l.runners).records.left x → s.word x.spot ≡ x.number

pub record KeeperStands (l : Layout) (s : Sight) : Type 0 where
  pub left : LeftStands l s
  -- and the keeper publishes no section
  pub unpublished : (s.part l.runners).published ≡ None
