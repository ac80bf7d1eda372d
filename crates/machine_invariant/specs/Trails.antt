-- Agreement in the machine's own words: the logs, the runs' trails, and what is kept of runs that came to their end.
use Rattle.std.specs.Prelude.{◌≡◌, ◌≢◌, ℕ, suc, ◌<◌, ◌≤◌, ◌⊎◌, true, length, slice_get, Some}
use Rattle.machine_states.specs.body_terms.specs.Line.{line, committed, micro_at}
use Rattle.machine_states.specs.body_terms.specs.Plain.{first_values}
use Rattle.machine_states.specs.body_terms.specs.Word.{value_of, version_of, held_word}
use Rattle.machine_states.specs.body_terms.specs.declared.thunk.Thunk.{Thunk}
use Rattle.machine_states.specs.body_terms.specs.declared.micro.Micro.{Micro}
use Rattle.machine_states.specs.body_terms.specs.declared.micro.Micro.TheVariants.{NestedHold}
use Rattle.machine_states.specs.table_words.specs.declared.spot.Spot.TheVariants.{Cell, DoneWord}
use Rattle.machine_states.specs.structure_laws.specs.Meaning.{Meaning}
use Rattle.machine_states.specs.runner_parts.specs.declared.entries.Published.{Published}
use Rattle.machine_states.specs.runner_parts.specs.State.{RunState, FinishedState}
use Rattle.machine_states.specs.runner_parts.specs.Tests.{has_pair}
use Rattle.agreement_core.specs.State.{AgreementState}
use Rattle.machine_states.specs.Sight.{Sight}
use Rattle.machine_blocks.specs.machine_guards.specs.machine_agreement.specs.machine_epochs.specs.Slots.{thunk_in}

-- `a` says of each descriptor whether a section was published there and the descriptor isn't free again, how far its
-- runs have come, and which words its log has. `LogsStand` of machine_blocks says where these stand
module _ (m : Meaning) (a : AgreementState) (s : Sight) where
  -- the thunk in a descriptor's words, its body's line, and its section's log
  abbrev pub thunk_at : ℕ → Thunk
  thunk_at d = thunk_in s.word d

  abbrev pub step_at : ℕ → ℕ → Micro
  step_at d = micro_at (line (m.body (thunk_at d)))

  abbrev pub log_of : ℕ → ℕ → ℕ
  log_of d k = (a.section d).log k

  -- how many words the section has agreed on: as many as the line commits up to where its runs have come
  abbrev pub agreed_words : ℕ → ℕ
  agreed_words d = committed (line (m.body (thunk_at d))) ((a.section d).edge)

  -- a runner has run this section, by its lock and free word, to its end
  pub record IsEndOf (r d : ℕ) (f : FinishedState) : Type 0 where
    pub at : ℕ
    pub kept : slice_get (s.part r).records.finished at ≡ Some f
    pub lock : f.lock ≡ (thunk_at d).lock
    pub word : f.word ≡ (thunk_at d).word

  -- all runs of a section agree
  pub record TrailsAgree : Type 0 where
    -- the log is words that aren't 0 and then zeros, until the descriptor is free again
    pub full : (d k : ℕ) → a.used d ≡ true → k < agreed_words d → 0 < log_of d k
    pub empty : (d k : ℕ) → a.used d ≡ true → agreed_words d ≤ k → log_of d k ≡ 0
    -- a run in progress is of such a section, and its trail is the log's first words
    pub running : (r : ℕ) (q : RunState) → (s.part r).run ≡ Some q → a.used q.descriptor ≡ true
    pub short : (r : ℕ) (q : RunState) → (s.part r).run ≡ Some q → length q.trail ≤ agreed_words q.descriptor
    pub prefix : (r : ℕ) (q : RunState) → (s.part r).run ≡ Some q
        → q.trail ≡ first_values (length q.trail) (log_of q.descriptor)
    -- where a run came to its end, its trail is the whole log and the section is done, until the descriptor
    -- is free again
    pub whole : (r d : ℕ) (f : FinishedState) → a.used d ≡ true → IsEndOf r d f
        → f.trail ≡ first_values (agreed_words d) (log_of d)
    pub done : (r d : ℕ) (f : FinishedState) → a.used d ≡ true → IsEndOf r d f → s.word (DoneWord d) ≢ 0
    -- and the trails of any two runs of one section that came to their end are equal, for good
    pub equal : (r r' i i' : ℕ) (f f' : FinishedState) → slice_get (s.part r).records.finished i ≡ Some f
        → slice_get (s.part r').records.finished i' ≡ Some f' → f.lock ≡ f'.lock → f.word ≡ f'.word → f.trail ≡ f'.trail

  -- the section's outer lock with its held word, or a Take's
  abbrev pub IsLockOf : ℕ → ℕ → ℕ → Type 0
  IsLockOf d place word = ((place ≡ (thunk_at d).lock) × (word ≡ held_word d (thunk_at d).word))
      ⊎ ((i free : ℕ) × (step_at d i ≡ NestedHold place free) × (word ≡ held_word d free))

  -- locks name live sections
  pub record LocksNameSections : Type 0 where
    -- a lock word that names a descriptor names one that some runner has published and hasn't retired
    pub published : (p d : ℕ) → m.is_lock p ≡ true → value_of (s.word (Cell p)) ≡ suc d
        → (r : ℕ) × (x : Published) × ((s.part r).published ≡ Some x) × (x.descriptor ≡ d)
    pub used : (p d : ℕ) → m.is_lock p ≡ true → value_of (s.word (Cell p)) ≡ suc d → a.used d ≡ true
    -- it is the held word of that section's outer lock, or of one of its Takes
    pub held : (p d : ℕ) → m.is_lock p ≡ true → value_of (s.word (Cell p)) ≡ suc d → IsLockOf d p (s.word (Cell p))
    -- until a section is done its outer lock has its held word
    pub outer : (d : ℕ) → a.used d ≡ true → s.word (DoneWord d) ≡ 0
        → s.word (Cell (thunk_at d).lock) ≡ held_word d (thunk_at d).word
    -- where a run of it came to its end, no lock names it
    pub unnamed : (r d p : ℕ) (f : FinishedState) → a.used d ≡ true → IsEndOf r d f → m.is_lock p ≡ true
        → value_of (s.word (Cell p)) ≢ suc d

  -- what a runner has published and hasn't retired is a section in its descriptor, whose words hold the
  -- thunk of its publication
  pub record PublishedStand : Type 0 where
    pub used : (r : ℕ) (x : Published) → (s.part r).published ≡ Some x → a.used x.descriptor ≡ true
    pub thunk : (r : ℕ) (x : Published) → (s.part r).published ≡ Some x → thunk_at x.descriptor ≡ x.thunk

  -- words of cells
  pub record CellsArePast (version_max : ℕ) : Type 0 where
    pub positive : (p : ℕ) → 0 < version_of (s.word (Cell p))
    pub bounded : (p : ℕ) → version_of (s.word (Cell p)) ≤ version_max
    -- a word that a runner has read since it entered stands there still, or a later version does
    pub read : (r p word : ℕ) → has_pair (s.part r).reads.cells p word ≡ true
        → (s.word (Cell p) ≡ word) ⊎ (version_of word < version_of (s.word (Cell p)))
