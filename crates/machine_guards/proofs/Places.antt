-- Which events of the other components leave the places of descriptors, and which sections a run came to an end of.
use Rattle.std.specs.Prelude.{◌==◌, ◌-◌, Bool, true, false, nat_lt, replicate, if◌then◌else◌}
use Rattle.std.proofs.Common.{◌≡◌, ℕ, zero, suc, List, [], ◌∷◌, ◌++◌, ◌+◌, refl, sym, ◌∙◌, subst, ⊎_elim, Some, None}
use Rattle.machine_states.specs.body_terms.specs.declared.micro.Micro.{Micro}
use Rattle.machine_states.specs.body_terms.specs.Word.{value_of}
use Rattle.machine_states.specs.table_words.specs.declared.layout.Layout.{Layout}
use Rattle.machine_states.specs.table_words.specs.Places.{part_words, slot_count}
use Rattle.agreement_core.specs.State.{CellRules, AgreementState}
use Rattle.agreement_core.specs.Events as agreement
use Rattle.agreement_core.specs.Schedules as agreement_schedules
use Rattle.machine_states.specs.structure_laws.specs.Meaning.{Meaning}
use Rattle.machine_states.specs.runner_parts.specs.declared.event.EventKind.{EventKind}
use Rattle.machine_states.specs.runner_parts.specs.declared.event.EventKind.TheVariants as kinds
use Rattle.machine_states.specs.runner_parts.specs.State.{RunState, NodesState, PartState}
use Rattle.machine_states.specs.runner_parts.specs.Lists.{test_of, one_more}
use Rattle.machine_states.specs.runner_steps.specs.Guards.{is_last_guard}
use Rattle.machine_states.specs.runner_steps.specs.Outside.{blocks_from}
use Rattle.machine_states.specs.runner_steps.specs.Sections.{next_of}
use Rattle.machine_states.specs.epoch_core.specs.State.{Counts, EpochState}
use Rattle.machine_states.specs.epoch_core.specs.Events as epochs
use Rattle.machine_states.specs.epoch_core.specs.Events.{slot_of}
use Rattle.machine_states.specs.epoch_core.specs.Schedules as epoch_schedules
use Rattle.machine_states.specs.epoch_core.specs.Sound as epoch_sound
use Rattle.machine_states.specs.epoch_core.proofs.Keeping as epoch_keeping
use Rattle.machine_agreement.specs.machine_epochs.specs.Chunks as slots
use Rattle.machine_agreement.specs.machine_epochs.proofs.Reaching.{leaves_descriptors, descriptors_stay}
use Rattle.machine_agreement.specs.Chunks as sections
use Rattle.machine_guards.proofs.Views.{is_release}

-- a try to publish
abbrev pub is_hold : EventKind → Bool
is_hold (kinds.Hold t d) = true
is_hold _ = false

-- each event of the list passes the test
abbrev pub AllAre : {A : Type 0} → (A → Bool) → List A → Type 0
AllAre test [] = Unit {0}
AllAre test (x ∷ xs) = (test x ≡ true) × AllAre test xs

pub append_are : {A : Type 0} (test : A → Bool) (xs ys : List A) → AllAre test xs → AllAre test ys → AllAre test (xs ++ ys)
append_are test [] ys one two = two
append_are test (x ∷ xs) ys one two = (one.0, append_are test xs ys one.1 two)

-- an event of agreement by which no section is published, and no run comes to its end
abbrev pub leaves_over : agreement.Event → Bool
leaves_over (agreement.Publish d lock word request code slot) = false
leaves_over (agreement.Finish r) = false
leaves_over _ = true

over_stays : (w : AgreementState) (v : agreement.Event) → leaves_over v ≡ true → (agreement.after w v).over ≡ w.over
over_stays w (agreement.Publish d lock word request code slot) e = absurd (let y = e in cc)
over_stays w (agreement.Finish r) e = absurd (let y = e in cc)
over_stays w _ e = refl

pub over_all : (c : CellRules) (w : AgreementState) (vs : List agreement.Event) → AllAre leaves_over vs → (agreement_schedules.after_all c w vs).over ≡ w.over
over_all c w [] are = refl
over_all c w (v ∷ vs) are = over_all c (agreement.after w v) vs are.1 ∙ over_stays w v are.0

pub passes_are : (r n : ℕ) → AllAre leaves_over (replicate n (agreement.Pass r))
passes_are r zero = tt
passes_are r (suc n) = (refl, passes_are r n)

-- behind these events checks pass
pub over_passes : (c : CellRules) (w : AgreementState) (vs : List agreement.Event) (r n : ℕ) → AllAre leaves_over vs
    → (agreement_schedules.after_all c w (vs ++ replicate n (agreement.Pass r))).over ≡ w.over
over_passes c w vs r n are = over_all c w (vs ++ replicate n (agreement.Pass r)) (append_are leaves_over vs (replicate n (agreement.Pass r)) are (passes_are r n))

-- events of epochs and slots that leave every descriptor where it is
pub places_all : (c : Counts) (w : EpochState) (vs : List epochs.Event) → epoch_schedules.AllEnabled c w vs → epoch_sound.IsSound c w → AllAre leaves_descriptors vs
    → (d : ℕ) → (epoch_schedules.after_all c w vs).location (slot_of c d) ≡ w.location (slot_of c d)
places_all c w [] ok sound are d = refl
places_all c w (v ∷ vs) ok sound are d =
    places_all c (epochs.after c w v) vs ok.1 (epoch_keeping.keeps c w v ok.0 sound) are.1 d ∙ descriptors_stay c w v ok.0 sound are.0 d

-- the events of most kinds of step are such
module _ (m : Meaning) (l : Layout) (w : AgreementState) (r : ℕ) where
  one_of : (v : agreement.Event) (heads : List agreement.Event) → leaves_over v ≡ true → heads ≡ v ∷ [] → AllAre leaves_over heads
  one_of v heads is e = subst (AllAre leaves_over) (sym e) (is, tt)

  read_and : (place : ℕ) (v : agreement.Event) (heads : List agreement.Event) → leaves_over v ≡ true → heads ≡ agreement.Read place ∷ v ∷ [] → AllAre leaves_over heads
  read_and place v heads is e = subst (AllAre leaves_over) (sym e) (refl, (is, tt))

  none_of : (heads : List agreement.Event) → heads ≡ [] → AllAre leaves_over heads
  none_of heads e = subst (AllAre leaves_over) (sym e) tt

  line_over : (kind : EventKind) (p : PartState) (q : RunState) (found : ℕ) (heads : List agreement.Event) → is_release kind ≡ false
      → sections.IsLineChunk m l w r kind p q found heads → AllAre leaves_over heads
  line_over kinds.Commit p q found heads k chunk = ⊎_elim (λ h. one_of _ heads refl h.1) (λ h. one_of _ heads refl h.1) chunk.2
  line_over (kinds.LoadCell None) p q found heads k chunk = one_of _ heads refl chunk.3
  line_over kinds.ExchangeCell p q found heads k chunk = read_and _ _ heads refl chunk.4
  line_over (kinds.PrivateLoad slot cell) p q found heads k chunk = one_of _ heads refl chunk.2
  line_over (kinds.PrivateStore slot cell number) p q found heads k chunk = ⊎_elim (λ link. none_of heads link.1) (λ fills. one_of _ heads refl fills.4) chunk
  line_over kinds.MakeCommit p q found heads k chunk = one_of _ heads refl chunk.4
  line_over kinds.EpochForRetire p q found heads k chunk = one_of _ heads refl chunk.3
  line_over kinds.RetireCommit p q found heads k chunk = one_of _ heads refl chunk.3
  line_over kinds.ClockLoad p q found heads k chunk = one_of _ heads refl chunk.1
  line_over kinds.StampExchange p q found heads k chunk = one_of _ heads refl chunk.1
  line_over kinds.ClockRaise p q found heads k chunk = one_of _ heads refl chunk.1
  line_over kinds.ReplyExchange p q found heads k chunk = one_of _ heads refl chunk.2
  line_over kinds.NestedLoad p q found heads k chunk = one_of _ heads refl chunk.3
  line_over kinds.NestedHold p q found heads k chunk = read_and _ _ heads refl chunk.3
  line_over kinds.OutcomeLoad p q found heads k chunk = one_of _ heads refl chunk.3
  line_over kinds.OutcomeCommit p q found heads k chunk = one_of _ heads refl chunk.3
  line_over kinds.SetDone p q found heads k chunk = one_of _ heads refl chunk.1
  line_over kinds.Release p q found heads k chunk = absurd (let y = k in cc)
  line_over _ p q found heads k chunk = none_of heads chunk

  pub inside_over : (kind : EventKind) (p : PartState) (q : RunState) (found : ℕ) (heads : List agreement.Event) (b : Bool) → is_release kind ≡ false
      → sections.IsInsideChunk m l w r b kind p q found heads → AllAre leaves_over heads
  inside_over kind p q found heads true k chunk = line_over kind p q found heads k chunk
  inside_over kind p q found heads false k chunk = none_of heads chunk

  stored_over : (d word number : ℕ) → AllAre leaves_over (sections.stored d word number)
  stored_over d word number = by (nat_lt word 12) (word == 12) (word == 13 + part_words)
    where
      by : (b b' b'' : Bool) → AllAre leaves_over (if b then [] else (if b' then agreement.StoreDone d number ∷ [] else (if b'' then [] else agreement.StoreLog d (word - 13) number ∷ [])))
      by true b' b'' = tt
      by false true b'' = (refl, tt)
      by false false true = tt
      by false false false = (refl, tt)

  if_over : (b : Bool) (heads : List agreement.Event) → AllAre leaves_over heads → AllAre leaves_over (if b then heads else [])
  if_over true heads are = are
  if_over false heads are = tt

  frees_over : (ds : List ℕ) → AllAre leaves_over (sections.frees ds)
  frees_over [] = tt
  frees_over (d ∷ ds) = (refl, frees_over ds)

  -- what a sweep frees
  swept_over : (p : PartState) (found : ℕ) → AllAre leaves_over (sections.swept l p found)
  swept_over p found = by (is_last_guard l p.guards.looked)
    where
      by : (b : Bool) → AllAre leaves_over (if b then sections.frees (sections.unnamed (p.guards.looked ++ found ∷ []) p) else [])
      by true = frees_over (sections.unnamed (p.guards.looked ++ found ∷ []) p)
      by false = tt

  pub outside_over : (kind : EventKind) (p : PartState) (found : ℕ) (heads : List agreement.Event) → is_hold kind ≡ false
      → sections.IsOutsideChunk m l w r kind p found heads → AllAre leaves_over heads
  outside_over (kinds.Hold t d) p found heads k chunk = absurd (let y = k in cc)
  outside_over (kinds.LoadGuard n) p found heads k chunk = subst (AllAre leaves_over) (sym chunk) (swept_over p found)
  outside_over (kinds.LoadCell (Some place)) p found heads k chunk = one_of _ heads refl chunk
  outside_over (kinds.LoadThunk (Some d)) p found heads k chunk = one_of _ heads refl chunk
  outside_over (kinds.PrivateStore slot word number) p found heads k chunk = subst (AllAre leaves_over) (sym chunk.1) (if_over (nat_lt slot (blocks_from m l)) (sections.stored (slot - slot_count l m.fixed_slots) word number) (stored_over (slot - slot_count l m.fixed_slots) word number))
  outside_over kinds.ReadReply p found heads k chunk = one_of _ heads refl chunk.2
  outside_over kinds.ReadStamp p found heads k chunk = one_of _ heads refl chunk.2
  outside_over _ p found heads k chunk = none_of heads chunk

-- it publishes a section, or ends a sweep
abbrev pub moves_descriptors : EventKind → Bool
moves_descriptors (kinds.Hold t d) = true
moves_descriptors (kinds.LoadGuard n) = true
moves_descriptors _ = false

module _ (m : Meaning) (l : Layout) (r : ℕ) where
  one_slot : (v : epochs.Event) (vs : List epochs.Event) → leaves_descriptors v ≡ true → vs ≡ v ∷ [] → AllAre leaves_descriptors vs
  one_slot v vs is e = subst (AllAre leaves_descriptors) (sym e) (is, tt)

  no_slot : (vs : List epochs.Event) → vs ≡ [] → AllAre leaves_descriptors vs
  no_slot vs e = subst (AllAre leaves_descriptors) (sym e) tt

  line_places : (kind : EventKind) (p : PartState) (q : RunState) (micro : Micro) (found : ℕ) (vs : List epochs.Event) → is_release kind ≡ false
      → slots.IsLineChunk m l r kind p q micro found vs → AllAre leaves_descriptors vs
  line_places kinds.Commit p q micro found vs k chunk = one_slot _ vs refl chunk.3
  line_places kinds.OutcomeCommit p q micro found vs k chunk = one_slot _ vs refl chunk.3
  line_places kinds.Release p q micro found vs k chunk = absurd (let y = k in cc)
  line_places (kinds.PrivateLoad slot cell) p q micro found vs k chunk = ⊎_elim (λ h. one_slot _ vs refl h.1) (λ h. no_slot vs h.1) chunk
  line_places kinds.MakeCommit p q micro found vs k chunk = one_slot _ vs refl chunk.4
  line_places kinds.EpochForRetire p q micro found vs k chunk = one_slot _ vs refl chunk.3
  line_places kinds.RetireCommit p q micro found vs k chunk = one_slot _ vs refl chunk.3
  line_places _ p q micro found vs k chunk = no_slot vs chunk

  pub inside_places : (kind : EventKind) (p : PartState) (q : RunState) (found : ℕ) (vs : List epochs.Event) (b : Bool) → is_release kind ≡ false
      → slots.IsInsideChunk m l r b kind p q found vs → AllAre leaves_descriptors vs
  inside_places kind p q found vs true k chunk = line_places kind p q (next_of m q) found vs k chunk
  inside_places kind p q found vs false k chunk = no_slot vs chunk

  looked_places : (n : NodesState) (slot cell found : ℕ) → AllAre leaves_descriptors (slots.looked l r n slot cell found)
  looked_places n slot cell found = by (slots.is_last_look n slot cell)
    where
      by : (b : Bool) → AllAre leaves_descriptors (if b then epochs.Test r slot (one_more l (test_of n.tests slot) found).worn ∷ [] else [])
      by true = (refl, tt)
      by false = tt

  stored_places : (d word number : ℕ) → AllAre leaves_descriptors (slots.stored r d word number)
  stored_places d word number = by (nat_lt word 12) (word == 12) (word == 13 + part_words)
    where
      by : (b b' b'' : Bool) → AllAre leaves_descriptors (if b then [] else (if b' then [] else (if b'' then [] else epochs.StoreLog r d (word - 13) number ∷ [])))
      by true b' b'' = tt
      by false true b'' = tt
      by false false true = tt
      by false false false = (refl, tt)

  if_places : (b : Bool) (vs : List epochs.Event) → AllAre leaves_descriptors vs → AllAre leaves_descriptors (if b then vs else [])
  if_places true vs are = are
  if_places false vs are = tt

  taken_places : (word link found : ℕ) → AllAre leaves_descriptors (slots.takes r word link found)
  taken_places word link found = by (found == link)
    where
      by : (b : Bool) → AllAre leaves_descriptors (if b then epochs.TakeBoard r (value_of (link - 1)) word ∷ [] else [])
      by true = (refl, tt)
      by false = tt

  given_places : (word slot found : ℕ) → AllAre leaves_descriptors (slots.gives r word slot found)
  given_places word slot found = by (found == 0)
    where
      by : (b : Bool) → AllAre leaves_descriptors (if b then epochs.GiveBoard r slot word ∷ [] else [])
      by true = (refl, tt)
      by false = tt

  pub outside_places : (kind : EventKind) (p : PartState) (found : ℕ) (vs : List epochs.Event) → moves_descriptors kind ≡ false
      → slots.IsOutsideChunk m l r kind p found vs → AllAre leaves_descriptors vs
  outside_places kinds.EnterLoad p found vs k chunk = one_slot _ vs refl chunk
  outside_places kinds.Announce p found vs k chunk = one_slot _ vs refl chunk.2
  outside_places kinds.EnterAgain p found vs k chunk = one_slot _ vs refl chunk
  outside_places kinds.Idle p found vs k chunk = one_slot _ vs refl chunk
  outside_places kinds.ScanEpoch p found vs k chunk = one_slot _ vs refl chunk
  outside_places (kinds.ScanOne n) p found vs k chunk = ⊎_elim (λ h. one_slot _ vs refl h.1) (λ h. one_slot _ vs refl h.1) chunk.3
  outside_places kinds.Advance p found vs k chunk = one_slot _ vs refl chunk.4
  outside_places (kinds.LoadCell (Some place)) p found vs k chunk = one_slot _ vs refl chunk
  outside_places (kinds.PrivateLoad slot cell) p found vs k chunk = subst (AllAre leaves_descriptors) (sym chunk) (looked_places p.nodes slot cell found)
  outside_places (kinds.PrivateStore slot word number) p found vs k chunk = subst (AllAre leaves_descriptors) (sym chunk) (if_places (nat_lt slot (blocks_from m l)) (slots.stored r (slot - slot_count l m.fixed_slots) word number) (stored_places (slot - slot_count l m.fixed_slots) word number))
  outside_places (kinds.Hold t d) p found vs k chunk = absurd (let y = k in cc)
  outside_places (kinds.BoardTake word link) p found vs k chunk = subst (AllAre leaves_descriptors) (sym chunk) (taken_places word link found)
  outside_places (kinds.BoardGive word slot) p found vs k chunk = subst (AllAre leaves_descriptors) (sym chunk) (given_places word slot found)
  outside_places (kinds.Guard d) p found vs k chunk = one_slot _ vs refl chunk
  outside_places (kinds.LoadGuard n) p found vs k chunk = absurd (let y = k in cc)
  outside_places _ p found vs k chunk = no_slot vs chunk
