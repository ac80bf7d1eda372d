-- What guards keep, in the machine's state.
use Rattle.std.specs.Prelude.{ℕ, ◌+◌, ◌<◌, ◌≡◌, ◌==◌, ◌&&◌, nat_lt, cond, true, List, map, Option, Some, None}
use Rattle.machine_states.specs.table_words.specs.declared.layout.Layout.{Layout}
use Rattle.machine_states.specs.table_words.specs.declared.spot.Spot.TheVariants.{Guard}
use Rattle.machine_states.specs.table_words.specs.Places.{descriptor_count, block_count}
use Rattle.agreement_core.specs.State.{AgreementState}
use Rattle.machine_states.specs.structure_laws.specs.Meaning.{Meaning}
use Rattle.machine_states.specs.runner_parts.specs.declared.entries.Published.{Published}
use Rattle.machine_states.specs.runner_parts.specs.State.{RunState, PartState}
use Rattle.machine_states.specs.runner_parts.specs.Tests.{has}
use Rattle.machine_states.specs.runner_steps.specs.Sections.{is_open_run, next_of, needs_link}
use Rattle.machine_states.specs.epoch_core.specs.Lists.{times}
use Rattle.machine_states.specs.epoch_core.specs.State.{EpochState}
use Rattle.machine_states.specs.epoch_core.specs.Events.{slot_of}
use Rattle.machine_states.specs.guard_core.specs.Owners as places
use Rattle.machine_states.specs.guard_core.specs.State.{word_of}
use Rattle.machine_states.specs.guard_core.specs.Sound.{IsSound}
use Rattle.machine_states.specs.Sight.{Sight}
use Rattle.machine_agreement.specs.machine_epochs.specs.Entries.{counts_of}
use Rattle.machine_agreement.specs.machine_epochs.specs.Firsts.{owner_of}
use Rattle.machine_guards.specs.State.{guard_counts, place_of, won_of, hand_of, block_owner, guards_of}

-- 1 where this block is in the hand
abbrev pub times_held : Option ℕ → ℕ → ℕ
times_held None b = 0
times_held (Some c) b = cond (c == b) 1 0

-- how often a block stands with a runner: free, in limbo, linked by its run in progress, or in its hand
abbrev pub block_times : PartState → ℕ → ℕ
block_times p b =
    times b p.blocks.free + (times b (map (λ x. x.block) p.blocks.limbo)
    + (times b (won_of p.run) + times_held (hand_of p.run) b))

-- a run that has a block in its hand stands before a commit into a part of its log that isn't linked yet
pub record StandsAtLink (m : Meaning) (q : RunState) : Type 0 where
  pub is_open : is_open_run q ≡ true
  pub linking : needs_link q (next_of m q) ≡ true

-- the machine's state, beside those of agreement and of epochs and slots, is one that guards keep sound
pub record GuardsStand (m : Meaning) (l : Layout) (chain : ℕ → List ℕ) (a : AgreementState) (e : EpochState)
    (s : Sight) : Type 0 where
  -- the guard words are what the runners have stored
  pub words : (r : ℕ) → s.word (Guard r) ≡ word_of (s.part r).guards.named
  -- the invariant of guards
  pub sound : IsSound (guard_counts l) (guards_of m l chain a e s)
  -- a descriptor stays with its owner: in its free list, in its limbo, or published by it
  pub owned : (d : ℕ) → places.owner_of (place_of l d (e.location (slot_of (counts_of m l) d)))
      ≡ owner_of l.sections l.runners d
  pub publisher : (r : ℕ) (x : Published) → (s.part r).published ≡ Some x
      → owner_of l.sections l.runners x.descriptor ≡ r
  -- what lies in a limbo are descriptors that the table has
  pub within : (r d : ℕ) → has (s.part r).descriptors.limbo d ≡ true → d < descriptor_count l
  -- each block of the table stands once with its owner, and nothing else stands with anybody
  pub blocks : (r b : ℕ) → block_times (s.part r) b ≡ cond (nat_lt b (block_count l) && block_owner l b == r) 1 0
  -- who has one in its hand is about to link it
  pub hand : (r b : ℕ) (q : RunState) → (s.part r).run ≡ Some q → q.block ≡ Some b → StandsAtLink m q
