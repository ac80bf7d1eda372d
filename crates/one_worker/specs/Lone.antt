-- How the sections of the one worker end.
use Rattle.std.specs.Prelude.{ℕ, ◌≡◌, ◌≢◌, ◌<◌, List, length, slice_get, Some}
use Rattle.machine_states.specs.body_terms.specs.declared.outcome.Outcome.{Outcome}
use Rattle.machine_states.specs.body_terms.specs.declared.outcome.Outcome.TheVariants.{Answered, Busy, Stale, Spent}
use Rattle.machine_states.specs.table_words.specs.declared.layout.Layout.{Layout}
use Rattle.machine_states.specs.structure_laws.specs.Meaning.{Meaning}
use Rattle.machine_states.specs.runner_parts.specs.declared.entries.Published.{Published}
use Rattle.machine_states.specs.runner_parts.specs.State.{RunState}
use Rattle.machine_states.specs.runner_steps.specs.Sections.{outcome_of}
use Rattle.machine_states.specs.Sight.{Sight}

-- an answer, or a word behind which too few versions are left
abbrev pub IsAnswerOrSpent : Outcome → Type 0
IsAnswerOrSpent (Answered reply) = Unit {0}
IsAnswerOrSpent (Spent place word) = Unit {0}
IsAnswerOrSpent (Busy place word) = ⊥
IsAnswerOrSpent (Stale place expected read) = ⊥

-- this is the last reading of a cell that gave this word there
pub record IsLastReading (cells : List (ℕ × ℕ)) (at place word : ℕ) : Type 0 where
  pub here : slice_get cells at ≡ Some (place, word)
  pub last : (i : ℕ) → at < i → slice_get cells i ≢ Some (place, word)

-- the section in this descriptor is the first that the worker has published since it entered, and it is published
-- still: with the publication the worker read the lock's free word for the last time, and before it only in its walks
pub record IsFirstPublished (s : Sight) (d : ℕ) : Type 0 where
  pub section : Published
  pub published : (s.part 0).published ≡ Some section
  pub descriptor : section.descriptor ≡ d
  pub first : IsLastReading (s.part 0).reads.cells section.walked section.thunk.lock section.thunk.word

-- each run of it, the worker's or the keeper's, that ends where it is ends so
abbrev pub LoneSectionsGoThrough : Meaning → Layout → Sight → Type 0
LoneSectionsGoThrough m l s = l.runners ≡ 1 → (d r : ℕ) (q : RunState) → IsFirstPublished s d → (s.part r).run ≡ Some q
    → q.descriptor ≡ d → length q.opened ≡ 13 → IsAnswerOrSpent (outcome_of m l q)
