-- What the type of a closed table's words says.
use Rattle.std.specs.Prelude.{◌≡◌}
use Rattle.std.specs.Slots.{slots_items, slots_len, IsFull}
use Rattle.atomic_table.specs.declared.owned.Closed.{Closed}
use Rattle.machine_states.specs.body_terms.specs.declared.thunk.Thunk.{Thunk}
use Rattle.machine_states.specs.table_words.specs.Limits.{IsWithinLimits}
use Rattle.machine_states.specs.table_words.specs.Places.{size}
use Rattle.machine_states.specs.structure_laws.specs.Meaning.{Meaning}
use Rattle.machine_states.specs.runner_steps.specs.Asks.{sizes_for}
use Rattle.machine_invariant.specs.After.{AreAllowed}
use Rattle.version_words.specs.declared.rule.Setup.{Setup}
use Rattle.version_words.specs.TableState.{AreShown}

-- all words are there, within the limits, and they are those of a state that enabled events lead to, in which each
-- worker was joined
pub record IsLaid {T H : Type 0} (m : Meaning) (closed : Closed Thunk H) (built : Setup T) : Type 0 where
  pub full : IsFull closed.words
  pub empty : slots_len closed.slots ≡ 0
  pub counted : slots_len closed.words ≡ size built.sizes
  pub as_sized : built.sizes ≡ sizes_for m built.layout built.requests.items
  pub limits : IsWithinLimits built.layout
  pub allowed : AreAllowed built.requests.items
  pub shown : AreShown m built.layout built.requests.items (slots_items closed.words)
