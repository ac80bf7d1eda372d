-- A runner in a run, and the steps that it makes there.
use Rattle.std.specs.Prelude.{◌≡◌, ℕ, zero, suc, ◌*◌, ◌≤◌, ◌⊎◌, length, true, false, Some}
use Rattle.machine_states.specs.body_terms.specs.declared.micro.Micro.{Micro}
use Rattle.machine_states.specs.table_words.specs.Places.{part_words}
use Rattle.machine_states.specs.structure_laws.specs.Meaning.{Meaning}
use Rattle.machine_states.specs.runner_parts.specs.State.{RunState}
use Rattle.machine_states.specs.runner_steps.specs.Sections.{next_of, needs_link}
use Rattle.version_words.specs.RunnerState.{RunnerState}
use Rattle.version_words.specs.Events.{Makes}
use Rattle.next_steps.specs.Steps.{kind_at, link_kind}
use Rattle.next_steps.specs.Stages.{IsInRun, IsBehind, IsLinked}

module _ {T : Type 0} (m : Meaning) where
  -- the runner is in this run, which has loaded its thunk and its done word, in a state that the machine reaches. The
  -- run knows the parts of its log so far that one link more is enough for the next word
  pub record IsRunning (r : RunnerState T) (q : RunState) : Type 0 where
    pub inside : IsInRun m r.layout r.requests r.number r.part q
    pub opened : length q.opened ≡ 13
    pub enough : length q.trail ≤ part_words * suc (length q.links)

  -- the runner made this step of this run, which found this number. Where it is still in a run, it may make the next
  -- step
  pub record Stepped (q : RunState) (micro : Micro) (found : ℕ) (old new : RunnerState T) : Type 0 where
    pub running : IsRunning old q
    pub next : next_of m q ≡ micro
    pub linked : needs_link q micro ≡ false
    pub event : Makes m (kind_at old.part q micro) found old new
    pub behind : IsBehind m old.layout old.part q micro found new.part
    pub goes_on : (after : RunState) → new.part.run ≡ Some after → IsRunning new after

  -- or a step by which the run links a block
  pub record LinkStepped (q : RunState) (found : ℕ) (old new : RunnerState T) : Type 0 where
    pub running : IsRunning old q
    pub due : needs_link q (next_of m q) ≡ true
    pub event : Makes m (link_kind m old.layout old.part q) found old new
    pub behind : IsLinked m old.layout old.part q found new.part
    pub goes_on : (after : RunState) → new.part.run ≡ Some after → IsRunning new after

  -- a step of either kind
  abbrev pub Moved : RunState → ℕ → RunnerState T → RunnerState T → Type 0
  Moved q found old new = ((micro : Micro) × Stepped q micro found old new) ⊎ LinkStepped q found old new

  -- the runner made so many steps of its run, and no others
  abbrev pub Ran : ℕ → RunnerState T → RunnerState T → Type 0
  Ran zero old new = new ≡ old
  Ran (suc n) old new = (r : RunnerState T) × (q : RunState) × (found : ℕ) × Moved q found old r × Ran n r new
