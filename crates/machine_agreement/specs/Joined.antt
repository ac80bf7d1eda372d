-- The machine's state and the component's state of agreement, joined.
use Rattle.std.specs.Prelude.{◌≡◌, ℕ, ◌-◌, ◌<◌, List, Bool, true, false, ◌==◌, nat_le, length, take, drop, slice_get, slice_index, Option, Some, None}
use Rattle.std.specs.List.{list_any}
use Rattle.machine_states.specs.body_terms.specs.declared.micro.Micro.{Micro}
use Rattle.machine_states.specs.body_terms.specs.Line.{ending}
use Rattle.machine_states.specs.table_words.specs.declared.layout.Layout.{Layout}
use Rattle.machine_states.specs.table_words.specs.declared.spot.Spot.{Spot}
use Rattle.machine_states.specs.table_words.specs.declared.spot.Spot.TheVariants.{Clock, Stamp, Reply, Cell, ThunkWord, DoneWord}
use Rattle.machine_states.specs.structure_laws.specs.Meaning.{Meaning}
use Rattle.machine_states.specs.runner_parts.specs.State.{RunState, FinishedState, PartState}
use Rattle.machine_states.specs.runner_parts.specs.Tests.{has_pair}
use Rattle.machine_states.specs.runner_steps.specs.Sections.{thunk_of, line_of, settles}
use Rattle.machine_states.specs.runner_steps.specs.AfterInRun.{place_of}
use Rattle.agreement_core.specs.State.{Section, Run, Finished, Shared, AgreementState}
use Rattle.agreement_core.specs.Sound.{IsSound}
use Rattle.machine_states.specs.Sight.{Sight}
use Rattle.machine_scenes.specs.Shown.{rules_of, IsOfThunk}
use Rattle.machine_epochs.specs.Slots.{thunk_in}

-- the releases of a run's end, in order
abbrev pub end_releases : List Micro → ℕ → ℕ → ℕ → List Micro
end_releases ms at lock word = drop 1 (ending ms at lock word)

-- a run that has made so many exchanges of its end has released the lock at this place
abbrev pub has_released : List Micro → ℕ → ℕ → ℕ → ℕ → ℕ → Bool
has_released ms at lock word ended p = list_any (λ x. place_of x == p) (take (ended - 1) (end_releases ms at lock word))

-- the component's run is the machine's, at its place in its line and with its trail
pub record IsRunOf (run : Run) (q : RunState) : Type 0 where
  pub running : run.running ≡ true
  pub descriptor : run.descriptor ≡ q.descriptor
  pub at : run.at ≡ q.at
  pub word : run.word ≡ q.word
  pub count : run.count ≡ length q.trail
  pub trail : (k : ℕ) → run.trail k ≡ slice_index q.trail k
  pub ended : run.ended ≡ nat_le 1 q.ended

-- where the runs are that the machine has
abbrev pub ShowsRun : Run → Option RunState → Type 0
ShowsRun run None = run.running ≡ false
ShowsRun run (Some q) = IsRunOf run q

-- what is kept of a run that came to its end
pub record IsFinishOf (x : Finished) (f : FinishedState) : Type 0 where
  pub lock : x.lock ≡ f.lock
  pub word : x.word ≡ f.word
  pub descriptor : x.descriptor ≡ f.descriptor
  pub count : x.count ≡ length f.trail
  pub trail : (k : ℕ) → x.trail k ≡ slice_index f.trail k

-- the component's shared words are the machine's
pub record ShowsWords (x : Shared) (word : Spot → ℕ) : Type 0 where
  pub cells : (p : ℕ) → x.cells p ≡ word (Cell p)
  pub clock : x.clock ≡ word Clock
  pub stamp : (q : ℕ) → x.stamp q ≡ word (Stamp q)
  pub reply : (q : ℕ) → x.reply q ≡ word (Reply q)

-- the component's section of a descriptor has the machine's done word. Where the words of its log stand isn't said here
pub record ShowsSection (x : Section) (word : Spot → ℕ) (d : ℕ) : Type 0 where
  pub done : x.done ≡ word (DoneWord d)

module _ (m : Meaning) (l : Layout) where
  -- a run rests behind the checks that pass
  abbrev pub IsAtRest : RunState → Type 0
  IsAtRest q = settles m l q ≡ q

  -- what a runner's part has to do with the component's state, where these are the table's words
  pub record IsTied (w : AgreementState) (word : Spot → ℕ) (r : ℕ) (p : PartState) : Type 0 where
    pub run : ShowsRun (w.run r) p.run
    -- the thunk words that a run has loaded stand there; it stands at the start of its line until it has
    -- loaded all its words, and rests from then on
    pub opened : (q : RunState) (j : ℕ) → p.run ≡ Some q → j < length q.opened → j < 12
        → slice_index q.opened j ≡ word (ThunkWord q.descriptor j)
    pub begins : (q : RunState) → p.run ≡ Some q → length q.opened < 13 → (q.at ≡ 0) × (q.ended ≡ 0)
    pub rests : (q : RunState) → p.run ≡ Some q → length q.opened ≡ 13 → IsAtRest q
    -- the locks that it has released in its end
    pub released : (q : RunState) (place : ℕ) → p.run ≡ Some q
        → has_released (line_of m q) q.at ((thunk_of q.opened).lock) ((thunk_of q.opened).word) q.ended place ≡ true
        → (w.run r).released place ≡ true
    -- the words that it has read, and the runs that it has brought to their end
    pub read : (place found : ℕ) → has_pair p.reads.cells place found ≡ true → w.shared.seen place found ≡ true
    pub finishes : w.finishes r ≡ length p.records.finished
    pub finished : (i : ℕ) (f : FinishedState) → slice_get p.records.finished i ≡ Some f → IsFinishOf (w.finished r i) f

  -- the component's state belongs to the machine's: it meets its invariant, and has the machine's words and runs
  pub record IsJoinedToAgreement (w : AgreementState) (s : Sight) : Type 0 where
    pub sound : IsSound (rules_of m l) w
    pub words : ShowsWords w.shared s.word
    pub sections : (d : ℕ) → ShowsSection (w.section d) s.word d
    pub thunks : (d : ℕ) → w.used d ≡ true → IsOfThunk m (w.section d) (thunk_in s.word d)
    pub tied : (r : ℕ) → IsTied w s.word r (s.part r)
