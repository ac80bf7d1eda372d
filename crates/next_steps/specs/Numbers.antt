-- The numbers that the runners keep are the table's.
use Rattle.std.specs.Prelude.{ℕ, ◌<◌, ◌≡◌, true, Some}
use Rattle.machine_states.specs.table_words.specs.Places.{slot_count, descriptor_count}
use Rattle.machine_states.specs.table_words.specs.declared.layout.Layout.{Layout}
use Rattle.machine_states.specs.structure_laws.specs.Meaning.{Meaning}
use Rattle.machine_states.specs.runner_parts.specs.declared.entries.Published.{Published}
use Rattle.machine_states.specs.epoch_core.specs.declared.stage.Stage.TheVariants.{Entered}
use Rattle.machine_states.specs.runner_parts.specs.State.{PartState}
use Rattle.machine_states.specs.runner_parts.specs.Tests.{has, has_pair}
use Rattle.machine_states.specs.Sight.{Sight}
use Rattle.next_steps.specs.Rooms.{cell_count}

-- a runner's own descriptors, and the places that it has read since it entered
pub record PartFits (m : Meaning) (l : Layout) (p : PartState) : Type 0 where
  pub free : (d : ℕ) → has p.descriptors.free d ≡ true → d < descriptor_count l
  pub limbo : (d : ℕ) → has p.descriptors.limbo d ≡ true → d < descriptor_count l
  pub published : (x : Published) → p.published ≡ Some x → x.descriptor < descriptor_count l
  pub read : (place word : ℕ) → has_pair p.reads.cells place word ≡ true → place < cell_count m l
  pub walked : (place word : ℕ) → has_pair p.reads.walk place word ≡ true → place < cell_count m l

-- these of all runners, the descriptor that a runner's guard word names, and the slots that an entered one's readings
-- reach
pub record NumbersFit (m : Meaning) (l : Layout) (s : Sight) : Type 0 where
  pub parts : (r : ℕ) → PartFits m l (s.part r)
  pub guarded : (r d : ℕ) → (s.part r).guards.named ≡ Some d → d < descriptor_count l
  pub reached : (r entry t : ℕ) → (s.part r).stage ≡ Entered entry
      → m.reaches (s.part r).reads.walk t ≡ true → t < slot_count l m.fixed_slots
