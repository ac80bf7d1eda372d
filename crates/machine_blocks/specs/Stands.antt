-- Where the words of the sections' logs stand, in the machine's state.
use Rattle.std.specs.Prelude.{ℕ, ◌<◌, ◌≤◌, ◌≡◌, true, List, Some, None}
use Rattle.block_words.specs.Blocks.{room, HasBlocks, IsPrefix}
use Rattle.machine_states.specs.table_words.specs.declared.spot.Spot.TheVariants.{LogWord}
use Rattle.machine_states.specs.table_words.specs.Places.{part_words, block_words}
use Rattle.machine_states.specs.runner_parts.specs.State.{RunState}
use Rattle.machine_states.specs.runner_steps.specs.Outside.{block_spot, is_sure_of}
use Rattle.agreement_core.specs.State.{AgreementState}
use Rattle.machine_states.specs.epoch_core.specs.State.{EpochState}
use Rattle.machine_states.specs.table_words.specs.declared.layout.Layout.{Layout}
use Rattle.machine_states.specs.structure_laws.specs.Meaning.{Meaning}
use Rattle.machine_states.specs.Sight.{Sight}
use Rattle.machine_guards.specs.Stands.{GuardsStand}

-- the components have the same logs, and these stand in the descriptors and their blocks; `chain` has the blocks that
-- are linked in each descriptor's latest publication. Of a descriptor of which nobody is sure its own log words are known
-- alone: its blocks may be in use again, and its owner may have cleared its link
pub record LogsStand (chain : ℕ → List ℕ) (a : AgreementState) (e : EpochState) (s : Sight) : Type 0 where
  pub same : (d k : ℕ) → e.log d k ≡ (a.section d).log k
  -- the first part of a log stands in the descriptor
  pub own : (d k : ℕ) → k < part_words → s.word (LogWord d k) ≡ (a.section d).log k
  -- no log goes on behind its blocks
  pub rest : (d k : ℕ) → room (chain d) ≤ k → (a.section d).log k ≡ 0
  -- where somebody is sure of a descriptor, its log stands in it and in its blocks
  pub logs : (r d : ℕ) → is_sure_of (s.part r).guards d ≡ true → HasBlocks (a.section d).log s.word d (chain d)
  -- the blocks on which a run agreed are the first ones of its section
  pub agreed : (r : ℕ) (q : RunState) → (s.part r).run ≡ Some q → IsPrefix q.links (chain q.descriptor)
  -- the words of the block in a hand are 0 that its run made so
  pub emptied : (r b j : ℕ) (q : RunState) → (s.part r).run ≡ Some q → q.block ≡ Some b → j < q.emptied
      → s.word (block_spot b j) ≡ 0
  pub begun : (r : ℕ) (q : RunState) → (s.part r).run ≡ Some q → q.block ≡ None → q.emptied ≡ 0
  pub most : (r : ℕ) (q : RunState) → (s.part r).run ≡ Some q → q.emptied ≤ block_words

-- guards and the logs stand, with the blocks that are linked
pub record LogsHold (m : Meaning) (l : Layout) (a : AgreementState) (e : EpochState) (s : Sight) : Type 0 where
  pub chain : ℕ → List ℕ
  pub guards : GuardsStand m l chain a e s
  pub stands : LogsStand chain a e s
  -- no descriptor has log words beyond its part
  pub beyond : (d k : ℕ) → part_words ≤ k → s.word (LogWord d k) ≡ 0
