-- Descriptors, limbo lists and the epochs of Retires, in every state that the machine reaches.
use Rattle.std.specs.Prelude.{◌≡◌, ℕ, ◌+◌, ◌<◌, ◌≤◌, ◌==◌, cond, List, [], ◌∷◌, Option, Some, None, All}
use Rattle.machine_states.specs.map_history.specs.declared.op.Request.{Request}
use Rattle.machine_states.specs.body_terms.specs.Line.{micro_at}
use Rattle.machine_states.specs.body_terms.specs.declared.micro.Micro.TheVariants.{RetireCommit}
use Rattle.machine_states.specs.table_words.specs.declared.layout.Layout.{Layout}
use Rattle.machine_states.specs.table_words.specs.declared.spot.Spot.TheVariants.{Epoch}
use Rattle.machine_states.specs.table_words.specs.Places.{descriptor_count}
use Rattle.machine_states.specs.structure_laws.specs.Meaning.{Meaning}
use Rattle.machine_states.specs.epoch_core.specs.declared.stage.Stage.TheVariants.{Entered}
use Rattle.machine_states.specs.runner_parts.specs.declared.entries.Retired.{Retired}
use Rattle.machine_states.specs.runner_parts.specs.declared.entries.Published.{Published}
use Rattle.machine_states.specs.runner_parts.specs.declared.event.Event.{Event}
use Rattle.machine_states.specs.runner_parts.specs.State.{RunState, PartState}
use Rattle.machine_states.specs.runner_steps.specs.Sections.{line_of}
use Rattle.machine_states.specs.epoch_core.specs.Lists.{times}
use Rattle.machine_states.specs.World.{World}
use Rattle.machine_states.specs.Schedules.{IsAfter}
use Rattle.machine_states.specs.Sight.{Sight, sight}
use Rattle.machine_epochs.specs.Firsts.{owner_of}

-- how often a slot stands in a limbo list
abbrev pub times_limbo : ℕ → List Retired → ℕ
times_limbo slot [] = 0
times_limbo slot (x ∷ xs) = cond (x.slot == slot) (1 + times_limbo slot xs) (times_limbo slot xs)

-- 1 where this descriptor is the published one
abbrev pub times_published : ℕ → Option Published → ℕ
times_published d None = 0
times_published d (Some x) = cond (x.descriptor == d) 1 0

-- how often a descriptor stands with a runner: in its free list, in its limbo, and as its published one
abbrev pub times_with : PartState → ℕ → ℕ
times_with p d = times d p.descriptors.free + (times d p.descriptors.limbo + times_published d p.published)

pub record DescriptorsAreSound (m : Meaning) (l : Layout) (s : Sight) : Type 0 where
  -- each descriptor stands once with its owner, free, in limbo or published, and with no other runner
  pub once : (r d : ℕ) → d < descriptor_count l
      → times_with (s.part r) d ≡ cond (owner_of l.sections l.runners d == r) 1 0
  -- no node slot was retired in an epoch to come
  pub nodes_most : (r : ℕ) → All (λ x. x.epoch ≤ s.word Epoch) (s.part r).nodes.limbo
  -- at the commit of a Retire the run of an entered runner goes by an epoch that is no earlier than the
  -- runner entered, and not to come
  pub retire_recent : (r g slot log : ℕ) (q : RunState) → (s.part r).stage ≡ Entered g → (s.part r).run ≡ Some q
      → micro_at (line_of m q) q.at ≡ RetireCommit slot log → (g ≤ q.word) × (q.word ≤ s.word Epoch)

-- where these events lead from a first state to this one, its descriptors are sound
abbrev pub DescriptorsSoundAfter : Meaning → Layout → List Request → List Event → World → Type 0
DescriptorsSoundAfter m l requests events w = IsAfter m l requests events w
    → DescriptorsAreSound m l (sight m l requests w)
