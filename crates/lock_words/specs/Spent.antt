-- Words behind which too few versions are left, as runners keep them.
use Rattle.std.specs.Prelude.{◌≡◌, ℕ, ◌+◌, ◌<◌, ◌⊎◌, false, true, Some, slice_get}
use Rattle.machine_states.specs.body_terms.specs.Word.{is_free, version_of}
use Rattle.machine_states.specs.body_terms.specs.declared.outcome.Outcome.TheVariants.{Spent}
use Rattle.machine_states.specs.table_words.specs.declared.layout.Layout.{Layout}
use Rattle.machine_states.specs.table_words.specs.declared.spot.Spot.{Spot}
use Rattle.machine_states.specs.table_words.specs.declared.spot.Spot.TheVariants.{Cell}
use Rattle.machine_states.specs.structure_laws.specs.Meaning.{Meaning}
use Rattle.machine_states.specs.runner_parts.specs.State.{FinishedState}
use Rattle.machine_states.specs.runner_parts.specs.Tests.{has_pair}
use Rattle.machine_states.specs.Sight.{Sight}

-- this word stands at the place, or a word of a later version does
abbrev pub IsPast : (Spot → ℕ) → ℕ → ℕ → Type 0
IsPast word place old = (word (Cell place) ≡ old) ⊎ (version_of old < version_of (word (Cell place)))

-- fewer than two versions are left behind the word
abbrev pub IsLate : Layout → ℕ → Type 0
IsLate l word = l.version_max < version_of word + 2

-- too few versions are left behind the word: it is a lock's and free, and the hold and the release of a lock need two;
-- or it is one of a cell, and has the greatest version
abbrev pub IsSpentAt : Meaning → Layout → ℕ → ℕ → Type 0
IsSpentAt m l place word = ((m.is_lock place ≡ true) × (is_free word ≡ true) × IsLate l word)
    ⊎ ((m.is_lock place ≡ false) × (version_of word ≡ l.version_max))

-- a word by which a section left, since too few versions were behind it
pub record WasSpent (m : Meaning) (l : Layout) (word : Spot → ℕ) (place spent : ℕ) : Type 0 where
  pub late : IsSpentAt m l place spent
  pub past : IsPast word place spent

pub record SpentStand (m : Meaning) (l : Layout) (s : Sight) : Type 0 where
  -- a section that a runner has run to its end, as it keeps it, left by such a word
  pub finished : (r i place spent : ℕ) (f : FinishedState) → slice_get (s.part r).records.finished i ≡ Some f
      → f.outcome ≡ Spent place spent → WasSpent m l s.word place spent
  -- a word that a runner has read since it entered last
  pub read : (r place found : ℕ) → has_pair (s.part r).reads.cells place found ≡ true → IsPast s.word place found
