-- The kinds of step that a runner may make in a state.
use Rattle.std.specs.Prelude.{◌≡◌, ◌≢◌, ◌↔◌, ℕ, List, None}
use Rattle.std.specs.Int.{bit_at}
use Rattle.machine_states.specs.map_history.specs.declared.op.Request.{Request}
use Rattle.machine_states.specs.table_words.specs.declared.layout.Layout.{Layout}
use Rattle.machine_states.specs.structure_laws.specs.Meaning.{Meaning}
use Rattle.machine_states.specs.runner_parts.specs.declared.event.EventKind.{EventKind}
use Rattle.machine_states.specs.runner_parts.specs.declared.event.Event.{Event}
use Rattle.enabled_kinds.specs.Kinds.{kind_number, IsGiven}
use Rattle.machine_states.specs.World.{World, happens}
use Rattle.machine_states.specs.Schedules.{StopsAt}

-- some event of this runner, of the kind with this number, is enabled in this state
pub record MayHappen (m : Meaning) (l : Layout) (requests : List Request) (w : World) (r number : ℕ) : Type 0 where
  pub kind : EventKind
  pub is_of : kind_number kind ≡ number
  pub given : IsGiven kind
  pub enabled : happens m l requests w (record { runner = r; kind = kind }) ≢ None

-- bit k of the number is set exactly where some event of this runner, of the kind with number k, is enabled
abbrev pub NamesEnabled : Meaning → Layout → List Request → World → ℕ → ℕ → Type 0
NamesEnabled m l requests w r enabled = (k : ℕ) → bit_at enabled k ≡ 1 ↔ MayHappen m l requests w r k

-- the event with number `at` is the first that isn't enabled, and `enabled` names the kinds that are
pub record StopsNaming (m : Meaning) (l : Layout) (requests : List Request) (events : List Event)
    (at enabled : ℕ) : Type 0 where
  pub stop : StopsAt m l requests events at
  pub kinds : NamesEnabled m l requests stop.world stop.event.runner enabled
