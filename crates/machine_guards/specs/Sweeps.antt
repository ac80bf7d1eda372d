-- Nothing that a runner is sure of is given out, and what a sweep does.
use Rattle.std.specs.Prelude.{ℕ, ◌*◌, ◌<◌, ◌≤◌, ◌≡◌, not, ◌&&◌, ◌||◌, true, false, List, [], ◌∷◌, ◌++◌, length, None}
use Rattle.machine_states.specs.map_history.specs.declared.op.Request.{Request}
use Rattle.machine_states.specs.table_words.specs.declared.layout.Layout.{Layout}
use Rattle.agreement_core.specs.State.{AgreementState}
use Rattle.machine_states.specs.structure_laws.specs.Meaning.{Meaning}
use Rattle.machine_states.specs.runner_parts.specs.declared.event.EventKind.TheVariants as kinds
use Rattle.machine_states.specs.runner_parts.specs.Lists.{blocks_freed}
use Rattle.machine_states.specs.runner_parts.specs.Tests.{has}
use Rattle.machine_states.specs.runner_steps.specs.Guards.{is_last_guard}
use Rattle.machine_states.specs.runner_steps.specs.Outside.{is_sure_of}
use Rattle.machine_states.specs.epoch_core.specs.State.{EpochState}
use Rattle.machine_states.specs.epoch_core.specs.Lists.{times}
use Rattle.machine_states.specs.guard_core.specs.State.{most_linked}
use Rattle.machine_states.specs.guard_core.specs.Moves.{is_unnamed}
use Rattle.machine_states.specs.guard_core.specs.Sound.{named}
use Rattle.machine_states.specs.Sight.{Sight, Steps}
use Rattle.machine_agreement.specs.machine_epochs.specs.Joined.{IsJoinedToEpochs}
use Rattle.machine_guards.specs.Stands.{GuardsStand}

-- the guard words that a runner has read in its sweep, with the one that it reads now
abbrev pub words_read : Sight → ℕ → ℕ → List ℕ
words_read s r found = (s.part r).guards.looked ++ found ∷ []

-- the end of this runner's sweep, which found this word last
pub record SweepIsExact (l : Layout) (s s' : Sight) (r found : ℕ) : Type 0 where
  -- of the runner's retired descriptors exactly those stay in its limbo that a word names which it read, and exactly
  -- the others come to its free list
  pub limbo : (d : ℕ) → has (s'.part r).descriptors.limbo d
      ≡ (has (s.part r).descriptors.limbo d && not (is_unnamed (words_read s r found) d))
  pub free : (d : ℕ) → has (s'.part r).descriptors.free d
      ≡ (has (s.part r).descriptors.free d
      || (has (s.part r).descriptors.limbo d && is_unnamed (words_read s r found) d))
  -- for each word that names something at most one stays
  pub few : length (s'.part r).descriptors.limbo ≤ named (words_read s r found)
  -- of its blocks in limbo exactly those come to its free list that lie under a descriptor which no word names, and for
  -- each word that names something at most eight stay
  pub blocks : (s'.part r).blocks ≡ blocks_freed (is_unnamed (words_read s r found)) (s.part r).blocks
  pub few_blocks : length (s'.part r).blocks.limbo ≤ most_linked * named (words_read s r found)
  -- its own word names nothing, nor does the keeper's where that is empty
  pub words : named (words_read s r found) ≤ l.runners
  pub words_of_workers : r < l.runners → (s.part (l.runners)).guards.named ≡ None
      → named (words_read s r found) < l.runners

module _ (m : Meaning) (l : Layout) where
  -- a descriptor of which somebody is sure stands in no free list
  abbrev pub SureAreKept : Type 0
  SureAreKept = (chain : ℕ → List ℕ) (a : AgreementState) (e : EpochState) (s : Sight)
      → IsJoinedToEpochs m l e s → GuardsStand m l chain a e s
      → (r r' d : ℕ) → is_sure_of (s.part r).guards d ≡ true → times d (s.part r').descriptors.free ≡ 0

  -- at the end of a sweep nobody is sure of a descriptor in the runner's limbo that no word names which it read
  abbrev pub SweepsAreSafe : List Request → Type 0
  SweepsAreSafe requests = (chain : ℕ → List ℕ) (a : AgreementState) (e : EpochState) (s s' : Sight) (r n : ℕ)
      → IsJoinedToEpochs m l e s → GuardsStand m l chain a e s
      → (step : Steps m l requests s s' r (kinds.LoadGuard n))
      → is_last_guard l (s.part r).guards.looked ≡ true
      → (d q : ℕ) → has (s.part r).descriptors.limbo d ≡ true
      → is_unnamed (words_read s r (s.word (step.ask.0))) d ≡ true → is_sure_of (s.part q).guards d ≡ false

  -- what it reads are the guard words, one after the other, and what it does is exact
  abbrev pub SweepsAreExact : List Request → Type 0
  SweepsAreExact requests = (chain : ℕ → List ℕ) (a : AgreementState) (e : EpochState) (s s' : Sight) (r n : ℕ)
      → IsJoinedToEpochs m l e s → GuardsStand m l chain a e s
      → (step : Steps m l requests s s' r (kinds.LoadGuard n))
      → is_last_guard l (s.part r).guards.looked ≡ true
      → SweepIsExact l s s' r (s.word (step.ask.0))
