-- Links: what a run does before it commits a word into a part of its log that isn't linked yet.
use Rattle.std.specs.Prelude.{◌≡◌, ℕ, ◌+◌, ◌-◌, ◌*◌, ◌≤◌, Bool, false, length, Some, if◌then◌else◌}
pub use Rattle.machine_states.specs.body_terms.specs.Cost.{link_cost}
use Rattle.machine_states.specs.structure_laws.specs.Meaning.{Meaning}
use Rattle.machine_states.specs.body_terms.specs.block_words.specs.Blocks.{blocks_for}
use Rattle.machine_states.specs.runner_parts.specs.State.{RunState, PartState}
use Rattle.machine_states.specs.runner_steps.specs.Sections.{next_of, commits_to, is_beyond}
use Rattle.version_words.specs.RunnerState.{RunnerState}
use Rattle.next_steps.specs.Steps.{next_block, stock}
use Rattle.commit_log.specs.Runs.{IsRunning}

-- so many steps at most a run makes to link the parts for so many more words of its log
abbrev pub links_cost : ℕ → RunState → ℕ
links_cost n q = link_cost * (blocks_for (length q.trail + n) - length q.links)

-- the next word of this run's log is in a part that isn't linked yet, as far as the run knows
abbrev pub is_due : RunState → Bool
is_due q = is_beyond q (Some (length q.trail))

-- there are enough for so many more words
abbrev pub HasRoom : ℕ → PartState → RunState → Type 0
HasRoom n p q = blocks_for (length q.trail + n) ≤ stock p q

-- the first run, with what the other one has linked and has in its hand
abbrev pub with_links : RunState → RunState → RunState
with_links q q' = record q { links = q'.links; block = q'.block; emptied = q'.emptied; won = q'.won }

-- nothing of a runner changed but what its run has linked, and its own blocks
pub record IsSameLine {T : Type 0} (old new : RunnerState T) : Type 0 where
  pub layout : new.layout ≡ old.layout
  pub requests : new.requests ≡ old.requests
  pub number : new.number ≡ old.number
  pub nodes : new.part.nodes ≡ old.part.nodes
  pub reads : new.part.reads ≡ old.part.reads
  pub published : new.part.published ≡ old.part.published
  pub finished : new.part.records.finished ≡ old.part.records.finished
  pub descriptors : new.part.descriptors ≡ old.part.descriptors
  pub guards : new.part.guards ≡ old.part.guards
  pub stage : new.part.stage ≡ old.part.stage
  pub present : new.part.gone ≡ old.part.gone

module _ {T : Type 0} (m : Meaning) where
  -- the next step of this run commits a word, and there is a block for it where one is to be linked
  pub record MayLink (r : RunnerState T) (q : RunState) : Type 0 where
    pub running : IsRunning m r q
    pub commits : commits_to (next_of m q) ≡ Some (length q.trail)
    pub room : HasRoom 1 r.part q

  -- the runner's run is this one now. It stands where the first one stood, and the part of its next log word is linked:
  -- where that was due, it knows one block more, and else it is the first one
  pub record HasLinked (old new : RunnerState T) (q q' : RunState) : Type 0 where
    pub running : IsRunning m new q'
    pub line : q' ≡ with_links q q'
    pub linked : is_due q' ≡ false
    pub links : length q'.links ≡ length q.links + (if is_due q then 1 else 0)
    pub none : is_due q ≡ false → q' ≡ q
    pub blocks : stock old.part q ≤ stock new.part q'
    pub same : IsSameLine old new

  -- so many words are 0 of the block that the run is to link, which is this one, and else it stands where it stood
  pub record IsEmptying (block count : ℕ) (old new : RunnerState T) (q q' : RunState) : Type 0 where
    pub running : IsRunning m new q'
    pub line : q' ≡ record q { block = q'.block; emptied = count }
    pub next : next_block new.part q' ≡ Some block
    pub blocks : stock old.part q ≤ stock new.part q'
    pub same : IsSameLine old new
