-- The kinds of step that a runner may make next.
use Rattle.std.specs.Prelude.{◌≡◌, ◌↔◌, ℕ, List, Bool, true, false, Option, Some, None, is_some}
use Rattle.std.specs.Int.{bit_at}
use Rattle.machine_states.specs.map_history.specs.declared.op.Request.{Request}
use Rattle.machine_states.specs.table_words.specs.declared.layout.Layout.{Layout}
use Rattle.machine_states.specs.structure_laws.specs.Meaning.{Meaning}
use Rattle.machine_states.specs.runner_parts.specs.declared.event.EventKind.{EventKind}
use Rattle.machine_states.specs.runner_parts.specs.State.{PartState}
use Rattle.runner_steps.specs.Asks.{asks}
use Rattle.enabled_kinds.specs.Kinds.{kind_number, IsGiven}

-- the event is enabled on this part
abbrev pub is_enabled : Meaning → Layout → List Request → ℕ → PartState → EventKind → Bool
is_enabled m l requests r p kind = is_some (asks m l requests r kind p)

module _ (m : Meaning) (l : Layout) (requests : List Request) (r : ℕ) (p : PartState) where
  -- some event of the kind with this number is enabled
  pub record May (number : ℕ) : Type 0 where
    pub kind : EventKind
    pub is_of : kind_number kind ≡ number
    pub given : IsGiven kind
    pub enabled : is_enabled m l requests r p kind ≡ true

  -- none of them is
  abbrev pub MayNot : ℕ → Type 0
  MayNot number = (kind : EventKind) → kind_number kind ≡ number → IsGiven kind
      → is_enabled m l requests r p kind ≡ false

  -- a test tells whether some event of the kind with this number is enabled
  pub record Tells (number : ℕ) (test : Bool) : Type 0 where
    pub found : test ≡ true → May number
    pub missed : test ≡ false → MayNot number

  -- bit k of the number is set exactly where some event of the kind with number k is enabled
  abbrev pub AreEnabled : ℕ → Type 0
  AreEnabled bits = (k : ℕ) → bit_at bits k ≡ 1 ↔ May k

  -- the event is there and is enabled
  abbrev pub is_enabled_if : Option EventKind → Bool
  is_enabled_if None = false
  is_enabled_if (Some kind) = is_enabled m l requests r p kind
