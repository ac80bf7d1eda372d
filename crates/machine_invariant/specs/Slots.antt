-- Where the slots are and who holds them, in the machine's own words.
use Rattle.std.specs.Prelude.{◌≡◌, ℕ, suc, ◌+◌, ◌<◌, ◌≤◌, Bool, true, false, cond, [], length, map, Some}
use Rattle.machine_states.specs.body_terms.specs.declared.micro.Micro.TheVariants.{RetireCommit}
use Rattle.machine_states.specs.body_terms.specs.Line.{micro_at}
use Rattle.machine_states.specs.table_words.specs.declared.layout.Layout.{Layout}
use Rattle.machine_states.specs.table_words.specs.declared.spot.Spot.TheVariants.{Epoch, Board}
use Rattle.machine_states.specs.table_words.specs.Places.{slot_count, descriptor_count}
use Rattle.machine_states.specs.structure_laws.specs.Meaning.{Meaning}
use Rattle.machine_states.specs.epoch_core.specs.declared.stage.Stage.TheVariants.{Entered}
use Rattle.machine_states.specs.runner_parts.specs.declared.entries.Published.{Published}
use Rattle.machine_states.specs.runner_parts.specs.State.{RunState, NodesState}
use Rattle.machine_states.specs.runner_steps.specs.Outside.{is_sure_of}
use Rattle.machine_states.specs.runner_steps.specs.Sections.{line_of}
use Rattle.machine_states.specs.epoch_core.specs.declared.location.Location.{Location}
use Rattle.machine_states.specs.epoch_core.specs.declared.location.Location.TheVariants.{Live, Hand, Limbo, OnBoard}
use Rattle.machine_states.specs.epoch_core.specs.State.{IsKept}
use Rattle.machine_states.specs.epoch_core.specs.Sound.{is_for_nodes}
use Rattle.machine_states.specs.epoch_core.specs.Lists.{times, times_retired, in_hand, in_free, in_worn, in_limbo, in_any_limbo}
use Rattle.machine_states.specs.epoch_core.specs.History.{History, is_out, is_makes, is_retires, agreed_slot, agreed_count}
use Rattle.machine_states.specs.Sight.{Sight}
use Rattle.machine_blocks.specs.machine_guards.specs.machine_agreement.specs.machine_epochs.specs.Slots.{entry_of, thunk_in}
use Rattle.machine_blocks.specs.machine_guards.specs.machine_agreement.specs.machine_epochs.specs.Roles.{role_at}
use Rattle.machine_blocks.specs.machine_guards.specs.machine_agreement.specs.machine_epochs.specs.Descriptors.{times_limbo}

-- how many node slots there are; the descriptors are numbered after them
abbrev pub node_count : Meaning → Layout → ℕ
node_count m l = slot_count l m.fixed_slots

-- how often a slot stands in a runner's lists of node slots
abbrev pub times_among : NodesState → ℕ → ℕ
times_among n t = times t n.hand + (times t n.free + (times t n.worn + times_limbo t n.limbo))

-- a runner's run has loaded this epoch for the Retire of this slot at this place of its section's log,
-- where nothing is agreed yet; `log` has the sections' logs
pub record IsRetiring (m : Meaning) (log : ℕ → ℕ → ℕ) (s : Sight) (r d index slot epoch : ℕ) : Type 0 where
  pub run : RunState
  pub runs : (s.part r).run ≡ Some run
  pub step : micro_at (line_of m run) run.at ≡ RetireCommit slot index
  pub of_section : run.descriptor ≡ d
  pub loaded : run.word ≡ epoch
  pub unagreed : log d index ≡ 0

-- whether a section was published at this descriptor, and the descriptor isn't free again
abbrev pub is_used : Meaning → Layout → (ℕ → Location) → ℕ → Bool
is_used m l location d = is_out (location (node_count m l + d))

-- `location` says where each slot is
module _ (m : Meaning) (l : Layout) (location : ℕ → Location) (s : Sight) where
  -- each node slot stands once in the list that its location names and in no other; a fixed one, a live one and one
  -- on the board stand in none
  pub record NodesStand : Type 0 where
    pub hand : (r t : ℕ) → t < node_count m l → times t (s.part r).nodes.hand ≡ in_hand r (location t)
    pub free : (r t : ℕ) → t < node_count m l → times t (s.part r).nodes.free ≡ in_free r (location t)
    pub worn : (r t : ℕ) → t < node_count m l → times t (s.part r).nodes.worn ≡ in_worn r (location t)
    pub limbo : (r t y : ℕ) → t < node_count m l
        → times_retired t y (map entry_of (s.part r).nodes.limbo) ≡ in_limbo r y (location t)
    -- so no slot stands twice with a runner, or with two runners, and these lists have node slots alone
    pub once : (r t : ℕ) → times_among (s.part r).nodes t ≤ 1
    pub apart : (r r' t : ℕ) → 1 ≤ times_among (s.part r).nodes t → 1 ≤ times_among (s.part r').nodes t → r ≡ r'
    pub within : (r t : ℕ) → 1 ≤ times_among (s.part r).nodes t → t < node_count m l
    -- a word of the board names a slot exactly where that slot is there
    pub board : (t i : ℕ) → location t ≡ OnBoard i → s.word (Board i) ≡ suc t
    pub on_board : (i t : ℕ) → s.word (Board i) ≡ suc t → location t ≡ OnBoard i
    -- the slot that a Make fills is in the runner's hand
    pub made : (r t : ℕ) (q : RunState) → (s.part r).run ≡ Some q → q.made ≡ Some t → location t ≡ Hand r

  -- each descriptor is free with one runner, in limbo with one, or live; a published one is live, and its
  -- publisher's alone
  pub record DescriptorsStand : Type 0 where
    pub free : (r d : ℕ) → d < descriptor_count l
        → times d (s.part r).descriptors.free ≡ in_free r (location (node_count m l + d))
    pub limbo : (r d : ℕ) → d < descriptor_count l
        → times d (s.part r).descriptors.limbo ≡ in_any_limbo r (location (node_count m l + d))
    pub other : (d : ℕ) → is_for_nodes (location (node_count m l + d)) ≡ false
    pub published : (r : ℕ) (x : Published) → (s.part r).published ≡ Some x
        → location (node_count m l + x.descriptor) ≡ Live
    pub publisher : (r r' : ℕ) (x x' : Published) → (s.part r).published ≡ Some x → (s.part r').published ≡ Some x'
        → x.descriptor ≡ x'.descriptor → r ≡ r'

  -- `history` says which commits of Makes and Retires won
  pub record CommitsAreWonOnce (log : ℕ → ℕ → ℕ) (history : History) : Type 0 where
    -- no two descriptors have the same section there
    pub named : (d : ℕ) → is_used m l location d ≡ true → 1 ≤ history.section d
    pub apart : (d d' : ℕ) → 1 ≤ history.section d → history.section d ≡ history.section d' → d ≡ d'
    -- while a section's descriptor isn't free again, one commit of each Make won that is agreed, with the
    -- agreed slot, and none of any other
    pub made : (d k : ℕ) → is_used m l location d ≡ true → history.made (history.section d) k
        ≡ cond (is_makes (role_at (m.body (thunk_in s.word d)) k)) (agreed_slot (log d k)) []
    -- and one commit of each Retire that is agreed, with one epoch, and none of any other
    pub retired : (d k : ℕ) → is_used m l location d ≡ true → length (history.retired (history.section d) k)
        ≡ cond (is_retires (role_at (m.body (thunk_in s.word d)) k)) (agreed_count (log d k)) 0
    -- no Make and no Retire of any section was won twice
    pub made_once : (n k : ℕ) → length (history.made n k) ≤ 1
    pub retired_once : (n k : ℕ) → length (history.retired n k) ≤ 1

-- `holds` says which runner holds which slot
module _ (m : Meaning) (l : Layout) (location : ℕ → Location) (holds : ℕ → ℕ → Bool) (s : Sight) where
  -- what the runners hold
  pub record HeldStand : Type 0 where
    -- a holder is entered, and the slot is fixed, live, or was retired no earlier than in the epoch with
    -- which the holder entered
    pub kept : (r t : ℕ) → holds r t ≡ true → (g : ℕ) × ((s.part r).stage ≡ Entered g) × IsKept (location t) g
    -- so it stands in nobody's free list, worn list or hand, and a descriptor in nobody's free list
    pub unfree : (r r' t : ℕ) → t < node_count m l → holds r t ≡ true → times t (s.part r').nodes.free ≡ 0
    pub unworn : (r r' t : ℕ) → t < node_count m l → holds r t ≡ true → times t (s.part r').nodes.worn ≡ 0
    pub unhanded : (r r' t : ℕ) → t < node_count m l → holds r t ≡ true → times t (s.part r').nodes.hand ≡ 0
    pub unfree_descriptor : (r r' d : ℕ) → d < descriptor_count l → holds r (node_count m l + d) ≡ true
        → times d (s.part r').descriptors.free ≡ 0
    -- an entered runner holds the slots that its readings reach; a runner holds the descriptor of which it is sure, and
    -- no other one
    pub reached : (r g t : ℕ) → (s.part r).stage ≡ Entered g → t < node_count m l
        → m.reaches (s.part r).reads.walk t ≡ true
        → holds r t ≡ true
    pub named : (r d : ℕ) → is_sure_of (s.part r).guards d ≡ true → holds r (node_count m l + d) ≡ true
    pub alone : (r d : ℕ) → holds r (node_count m l + d) ≡ true → is_sure_of (s.part r).guards d ≡ true
    -- whoever runs a section holds its descriptor
    pub run : (r : ℕ) (q : RunState) → (s.part r).run ≡ Some q → holds r (node_count m l + q.descriptor) ≡ true

  -- so what a runner may still come to is in nobody's free list, worn list or hand: what an entered one's readings
  -- reach, the descriptor of which it is sure, and that of the section that it runs
  pub record InUseAreKept : Type 0 where
    pub unfree : (r r' g t : ℕ) → (s.part r).stage ≡ Entered g → t < node_count m l
        → m.reaches (s.part r).reads.walk t ≡ true
        → times t (s.part r').nodes.free ≡ 0
    pub unworn : (r r' g t : ℕ) → (s.part r).stage ≡ Entered g → t < node_count m l
        → m.reaches (s.part r).reads.walk t ≡ true
        → times t (s.part r').nodes.worn ≡ 0
    pub unhanded : (r r' g t : ℕ) → (s.part r).stage ≡ Entered g → t < node_count m l
        → m.reaches (s.part r).reads.walk t ≡ true
        → times t (s.part r').nodes.hand ≡ 0
    pub named : (r r' d : ℕ) → is_sure_of (s.part r).guards d ≡ true → times d (s.part r').descriptors.free ≡ 0
    pub run : (r r' : ℕ) (q : RunState) → (s.part r).run ≡ Some q → q.descriptor < descriptor_count l
        → times q.descriptor (s.part r').descriptors.free ≡ 0

  -- as long as a Retire isn't agreed whose epoch a runner has loaded
  pub record RetiresStand (log : ℕ → ℕ → ℕ) : Type 0 where
    -- its slot is a live node slot, and the epoch isn't to come
    pub node : (r d k t y : ℕ) → IsRetiring m log s r d k t y → t < node_count m l
    pub live : (r d k t y : ℕ) → IsRetiring m log s r d k t y → location t ≡ Live
    pub recent : (r d k t y : ℕ) → IsRetiring m log s r d k t y → y ≤ s.word Epoch
    -- each runner that holds the slot entered in that epoch or before
    pub holders : (r d k t y r' g : ℕ) → IsRetiring m log s r d k t y → (s.part r').stage ≡ Entered g
        → holds r' t ≡ true → g ≤ y
    -- no other such Retire names the slot
    pub once : (r d k t y r' d' k' y' : ℕ) → IsRetiring m log s r d k t y → IsRetiring m log s r' d' k' t y'
        → (d ≡ d') × (k ≡ k')

  -- where the slots are, who holds them, and which commits won
  pub record SlotsAreSound (log : ℕ → ℕ → ℕ) (history : History) : Type 0 where
    pub in_nodes : NodesStand m l location s
    pub in_descriptors : DescriptorsStand m l location s
    -- no slot was retired in an epoch to come
    pub recent : (t r y : ℕ) → location t ≡ Limbo r y → y ≤ s.word Epoch
    pub in_held : HeldStand
    pub in_use : InUseAreKept
    pub in_retires : RetiresStand log
    pub in_commits : CommitsAreWonOnce m l location s log history
