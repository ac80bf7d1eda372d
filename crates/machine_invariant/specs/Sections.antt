-- What holds of the sections in a state of the machine, by the state of agreement that belongs to it.
use Rattle.std.specs.Prelude.{◌≡◌, ◌≢◌, ℕ, ◌-◌, ◌<◌, ◌⊎◌, true, [], ◌∷◌}
use Rattle.machine_states.specs.body_terms.specs.Line.{is_check, is_end}
use Rattle.machine_states.specs.body_terms.specs.Run.{Run}
use Rattle.machine_states.specs.body_terms.specs.declared.micro.Source.{Source}
use Rattle.machine_states.specs.body_terms.specs.declared.micro.Micro.TheVariants.{ExchangeCell, MakeCommit, RetireCommit}
use Rattle.machine_states.specs.table_words.specs.declared.layout.Layout.{Layout}
use Rattle.machine_states.specs.table_words.specs.declared.spot.Spot.TheVariants.{Stamp, Reply, DoneWord}
use Rattle.machine_states.specs.structure_laws.specs.Meaning.{Meaning}
use Rattle.machine_states.specs.epoch_core.specs.History as epochs
use Rattle.agreement_core.specs.State.{AgreementState}
use Rattle.agreement_core.specs.Checks.{stored_word}
use Rattle.agreement_core.specs.Sound.{IsOf}
use Rattle.agreement_core.specs.Trails.{RunsAgree, HoldsNothing}
use Rattle.agreement_core.specs.Rising.{IsNotFuture}
use Rattle.agreement_core.specs.Standing.{CellsStand, LocksStand, TakesStand, IsDoneLate}
use Rattle.agreement_core.specs.PlainRuns.{chosen, IsOver, start_over, FollowsPlainRun}
use Rattle.agreement_core.specs.History.{History, written, IsExact, HasAnswered, HasLeft, HappenedOnce, NothingHappened}
use Rattle.machine_states.specs.Sight.{Sight}
use Rattle.machine_blocks.specs.machine_guards.specs.machine_agreement.specs.machine_scenes.specs.Shown.{rules_of}
use Rattle.machine_blocks.specs.machine_guards.specs.machine_agreement.specs.Joined.{IsJoinedToAgreement}
use Rattle.machine_invariant.specs.Trails.{thunk_at, step_at, log_of, TrailsAgree, LocksNameSections, PublishedStand, CellsArePast}

module _ (m : Meaning) (a : AgreementState) (s : Sight) where
  -- a section that is done and answered: its runs came to the end of its line; and one that left at a check
  pub record IsAnswered (d : ℕ) : Type 0 where
    pub used : a.used d ≡ true
    pub done : s.word (DoneWord d) ≢ 0
    pub ended : is_end (step_at m a s d ((a.section d).edge)) ≡ true

  pub record IsLeft (d : ℕ) : Type 0 where
    pub used : a.used d ≡ true
    pub done : s.word (DoneWord d) ≢ 0
    pub check : is_check (step_at m a s d ((a.section d).edge)) ≡ true

  -- each effect comes once: by what the exchanges of cells, stamps and replies changed, and by what the
  -- commits of Makes and Retires won
  pub record EffectsComeOnce (changes : History) (wins : epochs.History) : Type 0 where
    -- a section that is done has answered or left
    pub over : (d : ℕ) → a.used d ≡ true → s.word (DoneWord d) ≢ 0 → IsAnswered d ⊎ IsLeft d
    -- each Store of a section that answered moved its cell in one event, from the agreed word to the new one
    pub stored : (d i place k : ℕ) (value : Source) → IsAnswered d → step_at m a s d i ≡ ExchangeCell place k value
        → changes.moved (changes.section d) i
        ≡ record { place = place; old = log_of m a s d k; new = stored_word (log_of m a s d) k value } ∷ []
    -- its request's stamp and reply were each written by one event, with the word that stands there
    pub stamped : (d : ℕ) → IsAnswered d
        → changes.stamps (thunk_at m a s d).request ≡ s.word (Stamp (thunk_at m a s d).request) ∷ []
    pub replied : (d : ℕ) → IsAnswered d
        → changes.replies (thunk_at m a s d).request ≡ s.word (Reply (thunk_at m a s d).request) ∷ []
    -- each of its Makes was committed by one runner, with the agreed slot, and each of its Retires by one,
    -- with one epoch
    pub made : (d i k : ℕ) → IsAnswered d → step_at m a s d i ≡ MakeCommit k
        → wins.made (wins.section d) k ≡ (log_of m a s d k - 1) ∷ []
    pub retired : (d i slot k : ℕ) → IsAnswered d → step_at m a s d i ≡ RetireCommit slot k
        → (epoch : ℕ) × (wins.retired (wins.section d) k ≡ epoch ∷ [])
    -- a section that left moved no cell and wrote no stamp and no reply
    pub unmoved : (d i : ℕ) → IsLeft d → changes.moved (changes.section d) i ≡ []
    pub unstamped : (d : ℕ) → IsLeft d → changes.stamped (changes.section d) ≡ []
    pub unreplied : (d : ℕ) → IsLeft d → changes.replied (changes.section d) ≡ []
    -- and it committed no Make and no Retire
    pub unmade : (d k : ℕ) → IsLeft d → wins.made (wins.section d) k ≡ []
    pub unretired : (d k : ℕ) → IsLeft d → wins.retired (wins.section d) k ≡ []
    -- each stamp word and each reply word that isn't 0 was written once
    pub stamps : (q : ℕ) → changes.stamps q ≡ written (s.word (Stamp q))
    pub replies : (q : ℕ) → changes.replies q ≡ written (s.word (Reply q))

module _ (m : Meaning) (l : Layout) (a : AgreementState) (s : Sight) where
  -- the laws of agreement, for the section of each descriptor that isn't free again
  pub record LawsHold (changes : History) : Type 0 where
    pub agree : RunsAgree a
    pub over : (r i d : ℕ) → i < a.finishes r → a.used d ≡ true → IsOf (a.finished r i) (a.section d)
        → HoldsNothing (rules_of m l) a d
    -- its log follows the plain run of its thunk's body with the choices so far
    pub start : (d : ℕ) → a.used d ≡ true → IsOver (a.section d) (start_over (a.section d))
    pub follow : (d fixed_cells : ℕ) (first : ℕ → ℕ → ℕ) (clock : ℕ) (start : Run) → a.used d ≡ true
        → IsOver (a.section d) start
        → FollowsPlainRun (a.section d) (m.body (thunk_at m a s d))
        (chosen (rules_of m l) d (a.section d) fixed_cells first clock) start
    pub not_future : IsNotFuture a
    pub cells : (d : ℕ) → a.used d ≡ true → CellsStand a d
    pub locks : LocksStand (rules_of m l) a
    pub takes : (d : ℕ) → a.used d ≡ true → TakesStand (rules_of m l) a d
    pub done_late : (d : ℕ) → a.used d ≡ true → (a.section d).done ≢ 0 → IsDoneLate (rules_of m l) a d
    pub answered_or_left : (d : ℕ) → a.used d ≡ true → (a.section d).done ≢ 0
        → HasAnswered (a.section d) ⊎ HasLeft (a.section d)
    pub answered : (d : ℕ) → a.used d ≡ true → HasAnswered (a.section d) → HappenedOnce a changes d
    pub left : (d : ℕ) → a.used d ≡ true → HasLeft (a.section d) → NothingHappened changes (changes.section d)

  -- a state of agreement belongs to the machine's state, the laws of agreement hold of it, and so, in the
  -- machine's words: trails agree, locks name live sections, words that were read are not from the future,
  -- and each effect comes once
  pub record SectionsAreSound (changes : History) (wins : epochs.History) : Type 0 where
    pub joined : IsJoinedToAgreement m l a s
    pub exact : IsExact a changes
    pub laws : LawsHold changes
    pub in_trails : TrailsAgree m a s
    pub in_locks : LocksNameSections m a s
    pub in_published : PublishedStand m a s
    pub in_cells : CellsArePast m a s l.version_max
    pub in_effects : EffectsComeOnce m a s changes wins
