-- How far a run has come in the parts of its section's log that it knows.
use Rattle.std.specs.Prelude.{ℕ, ◌*◌, ◌≤◌, ◌≡◌, false, List, [], ◌∷◌, ◌++◌, length, Some}
use Rattle.machine_states.specs.map_history.specs.declared.op.Request.{Request}
use Rattle.machine_states.specs.body_terms.specs.declared.micro.Micro.{Micro}
use Rattle.machine_states.specs.table_words.specs.declared.layout.Layout.{Layout}
use Rattle.machine_states.specs.table_words.specs.Places.{part_words}
use Rattle.machine_states.specs.structure_laws.specs.Meaning.{Meaning}
use Rattle.machine_states.specs.body_terms.specs.block_words.specs.Blocks.{room}
use Rattle.machine_states.specs.runner_parts.specs.State.{RunState, PartState}
use Rattle.machine_states.specs.runner_steps.specs.Sections.{next_of, needs_link}
use Rattle.machine_states.specs.Sight.{Sight}
use Rattle.next_steps.specs.Stages.{IsInRun}

-- these parts have room for the words, and all but the last one are full of them: the first part and one for each link
abbrev pub AreFilled : List ℕ → List ℕ → Type 0
AreFilled trail links = (length trail ≤ room links) × (part_words * length links ≤ length trail)

-- so it is with the words on which a run has agreed, and the parts that it knows
abbrev pub LinksReach : Sight → Type 0
LinksReach s = (r : ℕ) (q : RunState) → (s.part r).run ≡ Some q → AreFilled q.trail q.links

-- so before a step a run lacks one link at most: behind it, none
abbrev pub OneLinkIsEnough : Meaning → Layout → List Request → Type 0
OneLinkIsEnough m l requests = (r b : ℕ) (p : PartState) (q q' : RunState) (micro : Micro) → IsInRun m l requests r p q
    → length q.opened ≡ 13 → next_of m q ≡ micro → q'.links ≡ q.links ++ b ∷ [] → needs_link q' micro ≡ false
