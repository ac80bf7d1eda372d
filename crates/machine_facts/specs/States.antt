-- What is known of a state of the machine that its events reach, beside states and histories of the
-- components.
use Rattle.std.specs.Prelude.{◌≡◌, ℕ, ◌<◌, ◌≤◌, true, Some, None}
use Rattle.machine_states.specs.table_words.specs.declared.layout.Layout.{Layout}
use Rattle.machine_states.specs.table_words.specs.declared.spot.Spot.TheVariants.{DoneWord}
use Rattle.machine_states.specs.structure_laws.specs.Meaning.{Meaning}
use Rattle.machine_states.specs.runner_parts.specs.Tests.{has, last_stored}
use Rattle.machine_states.specs.runner_steps.specs.Outside.{descriptor_spot}
use Rattle.machine_states.specs.epoch_core.specs.declared.location.Location.TheVariants.{Fixed}
use Rattle.machine_states.specs.Sight.{Sight}
use Rattle.machine_invariant.specs.Along.{Components, AreExact}
use Rattle.machine_invariant.specs.States.{StateIsSound}
use Rattle.machine_facts.specs.Outcomes.{OutcomesAgree}
use Rattle.machine_facts.specs.Known.{KnownStand}

-- both histories give one number to one section
pub record NumberAlike (k : Components) : Type 0 where
  pub published : k.wins.published ≡ k.changes.published
  pub section : (d : ℕ) → k.wins.section d ≡ k.changes.section d

-- all that is known of a state
pub record FactsStand (m : Meaning) (l : Layout) (s : Sight) (k : Components) : Type 0 where
  pub sound : StateIsSound m l s k
  pub exact : AreExact m l k
  pub numbers : NumberAlike k
  -- what is kept of runs that came to their end is what the plain run of the section's body gives
  pub outcomes : OutcomesAgree m l k.agreement s
  -- what runners know of stamp and reply words stands
  pub known : KnownStand s
  -- what a runner stored last into a word of an own free descriptor, since that came into its free
  -- list, stands there
  pub stored : (r d i number : ℕ) → has (s.part r).descriptors.free d ≡ true
      → last_stored (s.part r).descriptors.stored d i None ≡ Some number
      → s.word (descriptor_spot d i) ≡ number
  -- the structure's fixed slots are fixed, so they stand in nobody's lists
  pub fixed : (t : ℕ) → t < m.fixed_slots → k.epochs.location t ≡ Fixed
  -- the done word of a section is 0 or 1 until its descriptor is free again
  pub done_most : (d : ℕ) → k.agreement.used d ≡ true → s.word (DoneWord d) ≤ 1
