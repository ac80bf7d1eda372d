-- Of what sort the events are that a step of the machine is.
use Rattle.std.specs.Prelude.{Bool, true, false, nat_lt, ◌==◌, ◌-◌, if◌then◌else◌}
use Rattle.std.proofs.Common.{◌≡◌, ℕ, List, [], ◌∷◌, sym, refl, subst, ⊎_elim, Option, Some, None, ◌+◌}
use Rattle.machine_states.specs.body_terms.specs.declared.micro.Micro.{Micro}
use Rattle.machine_states.specs.table_words.specs.declared.layout.Layout.{Layout}
use Rattle.machine_states.specs.table_words.specs.Places.{slot_count, part_words}
use Rattle.machine_states.specs.structure_laws.specs.Meaning.{Meaning}
use Rattle.machine_states.specs.runner_parts.specs.declared.event.EventKind.{EventKind}
use Rattle.machine_states.specs.runner_parts.specs.declared.event.EventKind.TheVariants as kinds
use Rattle.machine_states.specs.runner_parts.specs.State.{RunState, PartState}
use Rattle.machine_states.specs.runner_steps.specs.Outside.{blocks_from}
use Rattle.machine_states.specs.runner_steps.specs.Sections.{is_open_run, next_of}
use Rattle.agreement_core.specs.State.{AgreementState}
use Rattle.agreement_core.specs.Events as agreement
use Rattle.machine_states.specs.epoch_core.specs.Events as epochs
use Rattle.machine_blocks.specs.machine_guards.specs.machine_agreement.specs.machine_epochs.proofs.Reaching.{leaves_descriptors}
use Rattle.machine_blocks.specs.machine_guards.specs.machine_agreement.specs.machine_epochs.specs.Chunks as slots
use Rattle.machine_blocks.specs.machine_guards.specs.machine_agreement.specs.machine_scenes.specs.Kinds.{is_alone}
use Rattle.machine_blocks.specs.machine_guards.specs.machine_agreement.specs.Chunks as sections
use Rattle.machine_invariant.proofs.Runs.{AllAre}
use Rattle.machine_invariant.proofs.Quiet.{is_still}

-- nothing is published, retired or freed by these
pub record AreCalm (heads : List agreement.Event) : Type 0 where
  pub still : AllAre is_still heads

-- and by these nobody enters or leaves, no Make or Retire is concerned, and no descriptor goes anywhere
pub record AreSteady (vs : List epochs.Event) : Type 0 where
  pub alone : AllAre is_alone vs
  pub leaves : AllAre leaves_descriptors vs

none_calm : AreCalm []
none_calm = record { still = tt }

none_steady : AreSteady []
none_steady = record { alone = tt; leaves = tt }

one_calm : (e : agreement.Event) → is_still e ≡ true → AreCalm (e ∷ [])
one_calm e still = record { still = (still, tt) }

read_calm : (place : ℕ) (e : agreement.Event) → is_still e ≡ true → AreCalm (agreement.Read place ∷ e ∷ [])
read_calm place e still = record { still = (refl, (still, tt)) }

one_steady : (v : epochs.Event) → is_alone v ≡ true → leaves_descriptors v ≡ true → AreSteady (v ∷ [])
one_steady v alone leaves = record { alone = (alone, tt); leaves = (leaves, tt) }

-- the steps in runs that concern no slot of a Make and no Retire, and are no release
abbrev pub is_plain_line : EventKind → Bool
is_plain_line (kinds.PrivateLoad slot word) = false
is_plain_line (kinds.PrivateStore slot word number) = false
is_plain_line kinds.MakeCommit = false
is_plain_line (kinds.Hold thunk d) = false
is_plain_line kinds.RetireCommit = false
is_plain_line kinds.EpochForRetire = false
is_plain_line kinds.Release = false
is_plain_line _ = true

module _ (m : Meaning) (l : Layout) (w : AgreementState) (r : ℕ) where
  line_calm : (kind : EventKind) (p : PartState) (q : RunState) (found : ℕ) (heads : List agreement.Event) → is_plain_line kind ≡ true
      → sections.IsLineChunk m l w r kind p q found heads → AreCalm heads
  line_calm kinds.Commit p q found heads plain chunk =
      ⊎_elim (λ h. subst AreCalm (sym h.1) (one_calm _ refl)) (λ h. subst AreCalm (sym h.1) (one_calm _ refl)) chunk.2
  line_calm (kinds.LoadCell None) p q found heads plain chunk = subst AreCalm (sym chunk.3) (one_calm _ refl)
  line_calm kinds.ExchangeCell p q found heads plain chunk = subst AreCalm (sym chunk.4) (read_calm _ _ refl)
  line_calm (kinds.PrivateLoad slot cell) p q found heads plain chunk = absurd (cc)
  line_calm (kinds.PrivateStore slot cell number) p q found heads plain chunk = absurd (cc)
  line_calm kinds.MakeCommit p q found heads plain chunk = absurd (cc)
  line_calm kinds.RetireCommit p q found heads plain chunk = absurd (cc)
  line_calm kinds.EpochForRetire p q found heads plain chunk = absurd (cc)
  line_calm kinds.Release p q found heads plain chunk = absurd (cc)
  line_calm kinds.NestedLoad p q found heads plain chunk = subst AreCalm (sym chunk.3) (one_calm _ refl)
  line_calm kinds.OutcomeLoad p q found heads plain chunk = subst AreCalm (sym chunk.3) (one_calm _ refl)
  line_calm kinds.ClockLoad p q found heads plain chunk = subst AreCalm (sym chunk.1) (one_calm _ refl)
  line_calm kinds.StampExchange p q found heads plain chunk = subst AreCalm (sym chunk.1) (one_calm _ refl)
  line_calm kinds.ClockRaise p q found heads plain chunk = subst AreCalm (sym chunk.1) (one_calm _ refl)
  line_calm kinds.ReplyExchange p q found heads plain chunk = subst AreCalm (sym chunk.2) (one_calm _ refl)
  line_calm kinds.NestedHold p q found heads plain chunk = subst AreCalm (sym chunk.3) (read_calm _ _ refl)
  line_calm kinds.OutcomeCommit p q found heads plain chunk = subst AreCalm (sym chunk.3) (one_calm _ refl)
  line_calm kinds.SetDone p q found heads plain chunk = subst AreCalm (sym chunk.1) (one_calm _ refl)
  line_calm _ p q found heads plain chunk = subst AreCalm (sym chunk) none_calm

  pub inside_calm : (kind : EventKind) (p : PartState) (q : RunState) (found : ℕ) (heads : List agreement.Event) (b : Bool) → is_plain_line kind ≡ true
      → sections.IsInsideChunk m l w r b kind p q found heads → AreCalm heads
  inside_calm kind p q found heads true plain chunk = line_calm kind p q found heads plain chunk
  inside_calm kind p q found heads false plain chunk = subst AreCalm (sym chunk) none_calm

  line_steady : (kind : EventKind) (p : PartState) (q : RunState) (micro : Micro) (found : ℕ) (vs : List epochs.Event)
      → is_plain_line kind ≡ true
      → slots.IsLineChunk m l r kind p q micro found vs → AreSteady vs
  line_steady kinds.Commit p q micro found vs plain chunk = subst AreSteady (sym chunk.3) (one_steady _ refl refl)
  line_steady kinds.OutcomeCommit p q micro found vs plain chunk = subst AreSteady (sym chunk.3) (one_steady _ refl refl)
  line_steady kinds.Release p q micro found vs plain chunk = absurd (cc)
  line_steady (kinds.PrivateLoad slot cell) p q micro found vs plain chunk = absurd (cc)
  line_steady kinds.MakeCommit p q micro found vs plain chunk = absurd (cc)
  line_steady kinds.EpochForRetire p q micro found vs plain chunk = absurd (cc)
  line_steady kinds.RetireCommit p q micro found vs plain chunk = absurd (cc)
  line_steady _ p q micro found vs plain chunk = subst AreSteady (sym chunk) none_steady

  pub inside_steady : (kind : EventKind) (p : PartState) (q : RunState) (found : ℕ) (vs : List epochs.Event) (b : Bool)
      → is_plain_line kind ≡ true
      → slots.IsInsideChunk m l r b kind p q found vs → AreSteady vs
  inside_steady kind p q found vs true plain chunk = line_steady kind p q (next_of m q) found vs plain chunk
  inside_steady kind p q found vs false plain chunk = subst AreSteady (sym chunk) none_steady

-- the steps outside runs by which nobody enters, leaves, reads a cell, publishes, goes on with a sweep or writes a word of
-- a read, but for joins
abbrev pub is_plain_outside : EventKind → Bool
is_plain_outside kinds.EnterAgain = false
is_plain_outside kinds.Idle = false
is_plain_outside (kinds.LoadCell (Some place)) = false
is_plain_outside (kinds.Hold thunk d) = false
is_plain_outside (kinds.LoadGuard n) = false
is_plain_outside (kinds.Join worker) = false
is_plain_outside kinds.ReadReply = false
is_plain_outside kinds.ReadStamp = false
is_plain_outside _ = true

module _ (m : Meaning) (l : Layout) (w : AgreementState) (r : ℕ) where
  if_calm : (b : Bool) (heads : List agreement.Event) → AreCalm heads → AreCalm (if b then heads else [])
  if_calm true heads calm = calm
  if_calm false heads calm = none_calm

  stored_calm : (d word number : ℕ) → AreCalm (sections.stored d word number)
  stored_calm d word number = by (nat_lt word 12) (word == 12) (word == 13 + part_words)
    where
      by : (b b' b'' : Bool) → AreCalm (if b then [] else (if b' then agreement.StoreDone d number ∷ [] else (if b'' then [] else agreement.StoreLog d (word - 13) number ∷ [])))
      by true b' b'' = none_calm
      by false true b'' = one_calm _ refl
      by false false true = none_calm
      by false false false = one_calm _ refl

  pub outside_calm : (kind : EventKind) (p : PartState) (found : ℕ) (heads : List agreement.Event) → is_plain_outside kind ≡ true
      → sections.IsOutsideChunk m l w r kind p found heads → AreCalm heads
  outside_calm kinds.EnterAgain p found heads plain chunk = absurd (cc)
  outside_calm kinds.Idle p found heads plain chunk = absurd (cc)
  outside_calm (kinds.LoadCell (Some place)) p found heads plain chunk = absurd (cc)
  outside_calm (kinds.Hold thunk d) p found heads plain chunk = absurd (cc)
  outside_calm (kinds.LoadGuard n) p found heads plain chunk = absurd (cc)
  outside_calm (kinds.Join worker) p found heads plain chunk = absurd (cc)
  outside_calm kinds.ReadReply p found heads plain chunk = absurd (cc)
  outside_calm kinds.ReadStamp p found heads plain chunk = absurd (cc)
  outside_calm (kinds.LoadThunk (Some d)) p found heads plain chunk = subst AreCalm (sym chunk) (one_calm _ refl)
  outside_calm (kinds.PrivateStore slot word number) p found heads plain chunk =
      subst AreCalm (sym chunk.1) (if_calm (nat_lt slot (blocks_from m l)) (sections.stored (slot - slot_count l m.fixed_slots) word number) (stored_calm (slot - slot_count l m.fixed_slots) word number))
  outside_calm _ p found heads plain chunk = subst AreCalm (sym chunk) none_calm

  -- an event that comes or not
  if_steady : (b : Bool) (v : epochs.Event) → is_alone v ≡ true → leaves_descriptors v ≡ true → AreSteady (if b then v ∷ [] else [])
  if_steady true v alone leaves = one_steady v alone leaves
  if_steady false v alone leaves = none_steady

  all_steady : (b : Bool) (vs : List epochs.Event) → AreSteady vs → AreSteady (if b then vs else [])
  all_steady true vs are = are
  all_steady false vs are = none_steady

  stored_steady : (d word number : ℕ) → AreSteady (slots.stored r d word number)
  stored_steady d word number = by (nat_lt word 12) (word == 12) (word == 13 + part_words)
    where
      by : (b b' b'' : Bool) → AreSteady (if b then [] else (if b' then [] else (if b'' then [] else epochs.StoreLog r d (word - 13) number ∷ [])))
      by true b' b'' = none_steady
      by false true b'' = none_steady
      by false false true = none_steady
      by false false false = one_steady _ refl refl

  pub outside_steady : (kind : EventKind) (p : PartState) (found : ℕ) (vs : List epochs.Event) → is_plain_outside kind ≡ true
      → slots.IsOutsideChunk m l r kind p found vs → AreSteady vs
  outside_steady kinds.EnterLoad p found vs plain chunk = subst AreSteady (sym chunk) (one_steady _ refl refl)
  outside_steady kinds.Announce p found vs plain chunk = subst AreSteady (sym chunk.2) (one_steady _ refl refl)
  outside_steady kinds.EnterAgain p found vs plain chunk = absurd (cc)
  outside_steady kinds.Idle p found vs plain chunk = absurd (cc)
  outside_steady kinds.ScanEpoch p found vs plain chunk = subst AreSteady (sym chunk) (one_steady _ refl refl)
  outside_steady (kinds.ScanOne n) p found vs plain chunk = ⊎_elim
      (λ goes. subst AreSteady (sym goes.1) (one_steady _ refl refl)) (λ ends. subst AreSteady (sym ends.1) (one_steady _ refl refl)) chunk.3
  outside_steady kinds.Advance p found vs plain chunk = subst AreSteady (sym chunk.4) (one_steady _ refl refl)
  outside_steady (kinds.LoadCell (Some place)) p found vs plain chunk = absurd (cc)
  outside_steady (kinds.Hold thunk d) p found vs plain chunk = absurd (cc)
  outside_steady (kinds.Guard d) p found vs plain chunk = subst AreSteady (sym chunk) (one_steady _ refl refl)
  outside_steady (kinds.LoadGuard n) p found vs plain chunk = absurd (cc)
  outside_steady (kinds.Join worker) p found vs plain chunk = absurd (cc)
  outside_steady (kinds.PrivateLoad slot cell) p found vs plain chunk = subst AreSteady (sym chunk) (if_steady (slots.is_last_look p.nodes slot cell) _ refl refl)
  outside_steady (kinds.PrivateStore slot word number) p found vs plain chunk =
      subst AreSteady (sym chunk) (all_steady (nat_lt slot (blocks_from m l)) (slots.stored r (slot - slot_count l m.fixed_slots) word number) (stored_steady (slot - slot_count l m.fixed_slots) word number))
  outside_steady (kinds.BoardTake word link) p found vs plain chunk = subst AreSteady (sym chunk) (if_steady (found == link) _ refl refl)
  outside_steady (kinds.BoardGive word slot) p found vs plain chunk = subst AreSteady (sym chunk) (if_steady (found == 0) _ refl refl)
  outside_steady _ p found vs plain chunk = subst AreSteady (sym chunk) none_steady

  -- a join is no event of the components
  pub join_calm : (worker : ℕ) (p : PartState) (o : Option RunState) (found : ℕ) (heads : List agreement.Event)
      → sections.IsChunk m l w r (kinds.Join worker) p o found heads → AreCalm heads
  join_calm worker p None found heads chunk = subst AreCalm (sym chunk) none_calm
  join_calm worker p (Some q) found heads chunk = by (is_open_run q) chunk
    where
      by : (b : Bool) → sections.IsInsideChunk m l w r b (kinds.Join worker) p q found heads → AreCalm heads
      by true chunk = subst AreCalm (sym chunk) none_calm
      by false chunk = subst AreCalm (sym chunk) none_calm

  pub join_steady : (worker : ℕ) (p : PartState) (o : Option RunState) (found : ℕ) (vs : List epochs.Event)
      → slots.IsChunk m l r (kinds.Join worker) p o found vs → AreSteady vs
  join_steady worker p None found vs chunk = subst AreSteady (sym chunk) none_steady
  join_steady worker p (Some q) found vs chunk = by (is_open_run q) chunk
    where
      by : (b : Bool) → slots.IsInsideChunk m l r b (kinds.Join worker) p q found vs → AreSteady vs
      by true chunk = subst AreSteady (sym chunk) none_steady
      by false chunk = subst AreSteady (sym chunk) none_steady
