-- Each section once, for good: also where its descriptor is free again and was used again.
use Rattle.std.specs.Prelude.{◌≡◌, ◌≢◌, ℕ, ◌-◌, ◌≤◌, ◌⊎◌, true, List, [], ◌∷◌, ◌++◌, length}
use Rattle.machine_states.specs.map_history.specs.declared.op.Request.{Request}
use Rattle.machine_states.specs.body_terms.specs.declared.micro.Source.{Source}
use Rattle.machine_states.specs.body_terms.specs.declared.micro.Micro.TheVariants.{ExchangeCell, MakeCommit, RetireCommit}
use Rattle.machine_states.specs.table_words.specs.declared.layout.Layout.{Layout}
use Rattle.machine_states.specs.table_words.specs.declared.spot.Spot.TheVariants.{Stamp, Reply, DoneWord}
use Rattle.machine_states.specs.structure_laws.specs.Meaning.{Meaning}
use Rattle.machine_states.specs.runner_parts.specs.declared.event.Event.{Event}
use Rattle.agreement_core.specs.State.{AgreementState}
use Rattle.agreement_core.specs.Checks.{stored_word}
use Rattle.machine_states.specs.World.{World}
use Rattle.machine_states.specs.Sight.{Sight, sight}
use Rattle.machine_invariant.specs.Along.{Components}
use Rattle.machine_invariant.specs.Trails.{thunk_at, step_at, log_of}
use Rattle.machine_invariant.specs.Sections.{IsAnswered, IsLeft}
use Rattle.machine_facts.specs.Passed.{GoSoundly}

-- the section with this number is the one that this descriptor has, which isn't free again
pub record IsSection (k : Components) (d n : ℕ) : Type 0 where
  pub used : k.agreement.used d ≡ true
  pub number : k.changes.section d ≡ n

module _ (m : Meaning) (a : AgreementState) (s : Sight) where
  -- the effects of the section with this number, which this descriptor has in this state, in these
  -- histories
  pub record EffectsAreOnce (d n : ℕ) (k : Components) : Type 0 where
    -- a section that is done has answered or left
    pub over : s.word (DoneWord d) ≢ 0 → IsAnswered m a s d ⊎ IsLeft m a s d
    -- where it answered, each Store moved its cell in one event, from the agreed word to the new
    -- one
    pub stored : (i place log : ℕ) (value : Source) → IsAnswered m a s d
        → step_at m a s d i ≡ ExchangeCell place log value
        → k.changes.moved n i
        ≡ record { place = place; old = log_of m a s d log; new = stored_word (log_of m a s d) log value } ∷ []
    -- its request's stamp and reply were each written by one event
    pub stamped : IsAnswered m a s d
        → k.changes.stamps (thunk_at m a s d).request ≡ s.word (Stamp (thunk_at m a s d).request) ∷ []
    pub replied : IsAnswered m a s d
        → k.changes.replies (thunk_at m a s d).request ≡ s.word (Reply (thunk_at m a s d).request) ∷ []
    -- each Make was won by one commit, with the agreed slot, and each Retire by one, with one epoch
    pub made : (i log : ℕ) → IsAnswered m a s d → step_at m a s d i ≡ MakeCommit log
        → k.wins.made n log ≡ (log_of m a s d log - 1) ∷ []
    pub retired : (i slot log : ℕ) → IsAnswered m a s d → step_at m a s d i ≡ RetireCommit slot log
        → (epoch : ℕ) × (k.wins.retired n log ≡ epoch ∷ [])
    -- where it left, it had none of these effects
    pub unmoved : (i : ℕ) → IsLeft m a s d → k.changes.moved n i ≡ []
    pub unstamped : IsLeft m a s d → k.changes.stamped n ≡ []
    pub unreplied : IsLeft m a s d → k.changes.replied n ≡ []
    pub unmade : (log : ℕ) → IsLeft m a s d → k.wins.made n log ≡ []
    pub unretired : (log : ℕ) → IsLeft m a s d → k.wins.retired n log ≡ []
    -- and no section ever had an effect twice
    pub moved_once : (i : ℕ) → length (k.changes.moved n i) ≤ 1
    pub stamped_once : length (k.changes.stamped n) ≤ 1
    pub replied_once : length (k.changes.replied n) ≤ 1
    pub made_once : (log : ℕ) → length (k.wins.made n log) ≤ 1
    pub retired_once : (log : ℕ) → length (k.wins.retired n log) ≤ 1

module _ (m : Meaning) (l : Layout) (requests : List Request) (w : World) (k : Components)
    (events : List Event) (w' : World) (k' : Components) where
  -- the last state that the events pass in which the section with this number is in its
  -- descriptor: the one to which they lead, or the one before the event that frees the
  -- descriptor, and there it is done
  pub record LastState (n : ℕ) : Type 0 where
    pub front : List Event
    pub back : List Event
    pub whole : events ≡ front ++ back
    pub world : World
    pub components : Components
    pub before : GoSoundly m l requests w k front world components
    pub after : GoSoundly m l requests world components back w' k'
    pub descriptor : ℕ
    pub is : IsSection components descriptor n
    pub last : (back ≡ []) ⊎ ((sight m l requests world).word (DoneWord descriptor) ≢ 0)
    -- what the histories say of it at the end
    pub effects : EffectsAreOnce m components.agreement (sight m l requests world) descriptor n k'

  -- so it is for each section that was published
  abbrev pub EachSectionOnce : Type 0
  EachSectionOnce = (n : ℕ) → 1 ≤ n → n ≤ k'.changes.published → LastState n
