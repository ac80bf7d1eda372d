-- What the log words and the done word of a section may be that a runner runs, and to which log word it commits next.
use Rattle.std.specs.Prelude.{◌≡◌, ℕ, suc, ◌<◌, ◌≤◌, ◌⊎◌, false, List, length, Some}
use Rattle.machine_states.specs.map_history.specs.declared.op.Request.{Request}
use Rattle.machine_states.specs.body_terms.specs.Line.{micro_at, committed}
use Rattle.machine_states.specs.body_terms.specs.declared.micro.Micro.TheVariants.{MakeCommit, RetireCommit}
use Rattle.machine_states.specs.table_words.specs.Limits.{IsWithinLimits}
use Rattle.machine_states.specs.table_words.specs.declared.layout.Layout.{Layout}
use Rattle.machine_states.specs.table_words.specs.Places.{block_count}
use Rattle.machine_states.specs.table_words.specs.declared.spot.Spot.TheVariants.{DoneWord}
use Rattle.machine_states.specs.structure_laws.specs.Meaning.{Meaning}
use Rattle.machine_states.specs.runner_parts.specs.State.{RunState}
use Rattle.machine_states.specs.runner_steps.specs.Sections.{line_of, commits_to, is_beyond}
use Rattle.machine_blocks.specs.block_words.specs.Blocks.{link_spot, log_spot}
use Rattle.machine_states.specs.runner_parts.specs.declared.event.Event.{Event}
use Rattle.machine_states.specs.World.{World}
use Rattle.machine_states.specs.Schedules.{IsAfter}
use Rattle.machine_states.specs.Sight.{Sight, sight}
use Rattle.machine_invariant.specs.After.{AreAllowed}
use Rattle.machine_invariant.specs.Slots.{node_count}
use Rattle.machine_invariant.specs.Whole.{Beside, IsWhole}

-- what the log words say at the Makes and Retires of a run that has loaded its thunk and the done word, how
-- far its trail goes, and what the done word of any run says
pub record LogWordsSay (m : Meaning) (l : Layout) (s : Sight) : Type 0 where
  -- the log word of a Make, where the run knows the part of the log in which it stands, is 0 or the number plus one of
  -- a node slot
  pub made : (r i k : ℕ) (q : RunState) → (s.part r).run ≡ Some q → length q.opened ≡ 13
      → micro_at (line_of m q) i ≡ MakeCommit k → is_beyond q (Some k) ≡ false
      → s.word (log_spot q.descriptor q.links k) ≤ node_count m l
  -- that of a Retire is 0 or the number plus one of the slot that it retires
  pub retired : (r i slot k : ℕ) (q : RunState) → (s.part r).run ≡ Some q → length q.opened ≡ 13
      → micro_at (line_of m q) i ≡ RetireCommit slot k → is_beyond q (Some k) ≡ false
      → (s.word (log_spot q.descriptor q.links k) ≡ 0) ⊎ (s.word (log_spot q.descriptor q.links k) ≡ suc slot)
  -- a section commits at most 64 words
  pub few : (r i k : ℕ) (q : RunState) → (s.part r).run ≡ Some q → length q.opened ≡ 13
      → commits_to (micro_at (line_of m q) i) ≡ Some k → k < 64
  -- the link behind the last part of the log that a run knows is 0 or the number plus one of a block of the table
  pub linked : (r : ℕ) (q : RunState) → (s.part r).run ≡ Some q
      → s.word (link_spot q.descriptor q.links (length q.links)) ≤ block_count l
  -- the run has agreed on as many words as its line commits below where it stands
  pub agreed : (r : ℕ) (q : RunState) → (s.part r).run ≡ Some q → length q.opened ≡ 13
      → length q.trail ≡ committed (line_of m q) q.at
  -- so the commit at which it stands goes to the log word behind those
  pub next : (r k : ℕ) (q : RunState) → (s.part r).run ≡ Some q → length q.opened ≡ 13
      → commits_to (micro_at (line_of m q) q.at) ≡ Some k → k ≡ length q.trail
  -- the done word is 0 or 1
  pub done : (r : ℕ) (q : RunState) → (s.part r).run ≡ Some q → s.word (DoneWord q.descriptor) ≤ 1

-- so they say in each state that meets the whole invariant
abbrev pub WholeLogWordsSay : Meaning → Layout → Type 0
WholeLogWordsSay m l = (g : Beside) (s : Sight) → IsWhole m l g s → LogWordsSay m l s

-- and so in each state that the machine reaches
abbrev pub LogWordsSayAfter : Meaning → Layout → List Request → List Event → World → Type 0
LogWordsSayAfter m l requests events w = IsWithinLimits l → AreAllowed requests → IsAfter m l requests events w
    → LogWordsSay m l (sight m l requests w)
