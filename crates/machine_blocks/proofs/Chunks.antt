-- Which steps are events that leave the logs as they are.
use Rattle.std.specs.Prelude.{◌==◌, Bool, true, false, if◌then◌else◌}
use Rattle.std.proofs.Common.{◌≡◌, ℕ, List, [], ◌∷◌, ◌++◌, refl, sym, subst, ⊎_elim, Option, Some, None}
use Rattle.machine_states.specs.body_terms.specs.declared.micro.Micro.{Micro}
use Rattle.machine_states.specs.body_terms.specs.Line.{is_end}
use Rattle.machine_states.specs.table_words.specs.declared.layout.Layout.{Layout}
use Rattle.machine_states.specs.structure_laws.specs.Meaning.{Meaning}
use Rattle.machine_states.specs.runner_parts.specs.declared.entries.Published.{Published}
use Rattle.machine_states.specs.runner_parts.specs.declared.event.EventKind.{EventKind}
use Rattle.machine_states.specs.runner_parts.specs.declared.event.EventKind.TheVariants as kinds
use Rattle.machine_states.specs.runner_parts.specs.State.{RunState, PartState}
use Rattle.machine_states.specs.runner_steps.specs.AfterInRun.{ended_more}
use Rattle.machine_states.specs.runner_steps.specs.Guards.{is_last_guard}
use Rattle.machine_states.specs.runner_steps.specs.Sections.{next_of}
use Rattle.agreement_core.specs.State.{AgreementState}
use Rattle.agreement_core.specs.Events as agreement
use Rattle.machine_states.specs.epoch_core.specs.Events as epochs
use Rattle.machine_guards.specs.machine_agreement.specs.machine_epochs.specs.Chunks as slots
use Rattle.machine_guards.specs.machine_agreement.specs.Chunks as sections
use Rattle.machine_guards.proofs.Places.{AllAre}
use Rattle.machine_blocks.proofs.Events.{leaves_logs, leaves_log}

-- a step of a run's line that commits a word
abbrev pub is_commit : EventKind → Bool
is_commit kinds.Commit = true
is_commit kinds.OutcomeCommit = true
is_commit kinds.MakeCommit = true
is_commit kinds.RetireCommit = true
is_commit _ = false

-- a store outside a run
abbrev pub is_store : EventKind → Bool
is_store (kinds.PrivateStore slot word number) = true
is_store _ = false

-- or a try to publish, by which a log is emptied
abbrev pub is_writing : EventKind → Bool
is_writing (kinds.PrivateStore slot word number) = true
is_writing (kinds.Hold t d) = true
is_writing _ = false

pub not_store : (kind : EventKind) → is_writing kind ≡ false → is_store kind ≡ false
not_store (kinds.PrivateStore slot word number) k = absurd (let y = k in cc)
not_store _ k = refl

-- the events of agreement
module _ (m : Meaning) (l : Layout) (w : AgreementState) (r : ℕ) where
  one_of : (v : agreement.Event) (heads : List agreement.Event) → leaves_logs v ≡ true → heads ≡ v ∷ [] → AllAre leaves_logs heads
  one_of v heads is e = subst (AllAre leaves_logs) (sym e) (is, tt)

  read_and : (place : ℕ) (v : agreement.Event) (heads : List agreement.Event) → leaves_logs v ≡ true → heads ≡ agreement.Read place ∷ v ∷ [] → AllAre leaves_logs heads
  read_and place v heads is e = subst (AllAre leaves_logs) (sym e) (refl, (is, tt))

  none_of : (heads : List agreement.Event) → heads ≡ [] → AllAre leaves_logs heads
  none_of heads e = subst (AllAre leaves_logs) (sym e) tt

  retires_leave : (o : Option Published) (d : ℕ) → AllAre leaves_logs (sections.retires_own o d)
  retires_leave None d = tt
  retires_leave (Some x) d = by (x.descriptor == d)
    where
      by : (b : Bool) → AllAre leaves_logs (if b then agreement.RetireDescriptor d ∷ [] else [])
      by true = (refl, tt)
      by false = tt

  line_logs : (kind : EventKind) (p : PartState) (q : RunState) (found : ℕ) (heads : List agreement.Event) → is_commit kind ≡ false
      → sections.IsLineChunk m l w r kind p q found heads → AllAre leaves_logs heads
  line_logs kinds.Commit p q found heads k chunk = absurd (let y = k in cc)
  line_logs (kinds.LoadCell None) p q found heads k chunk = one_of _ heads refl chunk.3
  line_logs kinds.ExchangeCell p q found heads k chunk = read_and _ _ heads refl chunk.4
  line_logs (kinds.PrivateLoad slot cell) p q found heads k chunk = one_of _ heads refl chunk.2
  line_logs (kinds.PrivateStore slot cell number) p q found heads k chunk = ⊎_elim (λ link. none_of heads link.1) (λ fills. one_of _ heads refl fills.4) chunk
  line_logs kinds.MakeCommit p q found heads k chunk = absurd (let y = k in cc)
  line_logs kinds.EpochForRetire p q found heads k chunk = one_of _ heads refl chunk.3
  line_logs kinds.RetireCommit p q found heads k chunk = absurd (let y = k in cc)
  line_logs kinds.ClockLoad p q found heads k chunk = one_of _ heads refl chunk.1
  line_logs kinds.StampExchange p q found heads k chunk = one_of _ heads refl chunk.1
  line_logs kinds.ClockRaise p q found heads k chunk = one_of _ heads refl chunk.1
  line_logs kinds.ReplyExchange p q found heads k chunk = one_of _ heads refl chunk.2
  line_logs kinds.NestedLoad p q found heads k chunk = one_of _ heads refl chunk.3
  line_logs kinds.NestedHold p q found heads k chunk = read_and _ _ heads refl chunk.3
  line_logs kinds.OutcomeLoad p q found heads k chunk = one_of _ heads refl chunk.3
  line_logs kinds.OutcomeCommit p q found heads k chunk = absurd (let y = k in cc)
  line_logs kinds.SetDone p q found heads k chunk = one_of _ heads refl chunk.1
  line_logs kinds.Release p q found heads k chunk = ⊎_elim
      (λ h. read_and _ _ heads refl h.1)
      (λ h. subst (AllAre leaves_logs) (sym h.1) (refl, (refl, (refl, retires_leave p.published q.descriptor))))
      chunk.3
  line_logs _ p q found heads k chunk = none_of heads chunk

  pub inside_logs : (kind : EventKind) (p : PartState) (q : RunState) (found : ℕ) (heads : List agreement.Event) (b : Bool) → is_commit kind ≡ false
      → sections.IsInsideChunk m l w r b kind p q found heads → AllAre leaves_logs heads
  inside_logs kind p q found heads true k chunk = line_logs kind p q found heads k chunk
  inside_logs kind p q found heads false k chunk = none_of heads chunk

  frees_leave : (ds : List ℕ) → AllAre leaves_logs (sections.frees ds)
  frees_leave [] = tt
  frees_leave (d ∷ ds) = (refl, frees_leave ds)

  swept_leave : (p : PartState) (found : ℕ) → AllAre leaves_logs (sections.swept l p found)
  swept_leave p found = by (is_last_guard l p.guards.looked)
    where
      by : (b : Bool) → AllAre leaves_logs (if b then sections.frees (sections.unnamed (p.guards.looked ++ found ∷ []) p) else [])
      by true = frees_leave (sections.unnamed (p.guards.looked ++ found ∷ []) p)
      by false = tt

  pub outside_logs : (kind : EventKind) (p : PartState) (found : ℕ) (heads : List agreement.Event) → is_writing kind ≡ false
      → sections.IsOutsideChunk m l w r kind p found heads → AllAre leaves_logs heads
  outside_logs (kinds.Hold t d) p found heads k chunk = absurd (let y = k in cc)
  outside_logs (kinds.LoadGuard n) p found heads k chunk = subst (AllAre leaves_logs) (sym chunk) (swept_leave p found)
  outside_logs (kinds.LoadCell (Some place)) p found heads k chunk = one_of _ heads refl chunk
  outside_logs (kinds.LoadThunk (Some d)) p found heads k chunk = one_of _ heads refl chunk
  outside_logs (kinds.PrivateStore slot word number) p found heads k chunk = absurd (let y = k in cc)
  outside_logs kinds.ReadReply p found heads k chunk = one_of _ heads refl chunk.2
  outside_logs kinds.ReadStamp p found heads k chunk = one_of _ heads refl chunk.2
  outside_logs _ p found heads k chunk = none_of heads chunk

-- those of epochs and slots
module _ (m : Meaning) (l : Layout) (r : ℕ) where
  one_slot : (v : epochs.Event) (vs : List epochs.Event) → leaves_log v ≡ true → vs ≡ v ∷ [] → AllAre leaves_log vs
  one_slot v vs is e = subst (AllAre leaves_log) (sym e) (is, tt)

  no_slot : (vs : List epochs.Event) → vs ≡ [] → AllAre leaves_log vs
  no_slot vs e = subst (AllAre leaves_log) (sym e) tt

  -- one that comes or not
  if_leaves : (b : Bool) (v : epochs.Event) → leaves_log v ≡ true → AllAre leaves_log (if b then v ∷ [] else [])
  if_leaves true v is = (is, tt)
  if_leaves false v is = tt

  retired_leave : (o : Option Published) (d : ℕ) → AllAre leaves_log (slots.retires_own r o d)
  retired_leave None d = tt
  retired_leave (Some x) d = if_leaves (x.descriptor == d) (epochs.RetireDescriptor r d) refl

  released_leave : (p : PartState) (q : RunState) (b : Bool) → AllAre leaves_log (if b then slots.retires_own r p.published q.descriptor else [])
  released_leave p q true = retired_leave p.published q.descriptor
  released_leave p q false = tt

  line_log : (kind : EventKind) (p : PartState) (q : RunState) (micro : Micro) (found : ℕ) (vs : List epochs.Event) → is_commit kind ≡ false
      → slots.IsLineChunk m l r kind p q micro found vs → AllAre leaves_log vs
  line_log kinds.Commit p q micro found vs k chunk = absurd (let y = k in cc)
  line_log kinds.OutcomeCommit p q micro found vs k chunk = absurd (let y = k in cc)
  line_log kinds.Release p q micro found vs k chunk = subst (AllAre leaves_log) (sym chunk) (released_leave p q (is_end (next_of m (ended_more q))))
  line_log (kinds.PrivateLoad slot cell) p q micro found vs k chunk = ⊎_elim (λ h. one_slot _ vs refl h.1) (λ h. no_slot vs h.1) chunk
  line_log kinds.MakeCommit p q micro found vs k chunk = absurd (let y = k in cc)
  line_log kinds.EpochForRetire p q micro found vs k chunk = one_slot _ vs refl chunk.3
  line_log kinds.RetireCommit p q micro found vs k chunk = absurd (let y = k in cc)
  line_log _ p q micro found vs k chunk = no_slot vs chunk

  pub inside_log : (kind : EventKind) (p : PartState) (q : RunState) (found : ℕ) (vs : List epochs.Event) (b : Bool) → is_commit kind ≡ false
      → slots.IsInsideChunk m l r b kind p q found vs → AllAre leaves_log vs
  inside_log kind p q found vs true k chunk = line_log kind p q (next_of m q) found vs k chunk
  inside_log kind p q found vs false k chunk = no_slot vs chunk

  pub outside_log : (kind : EventKind) (p : PartState) (found : ℕ) (vs : List epochs.Event) → is_writing kind ≡ false
      → slots.IsOutsideChunk m l r kind p found vs → AllAre leaves_log vs
  outside_log kinds.EnterLoad p found vs k chunk = one_slot _ vs refl chunk
  outside_log kinds.Announce p found vs k chunk = one_slot _ vs refl chunk.2
  outside_log kinds.EnterAgain p found vs k chunk = one_slot _ vs refl chunk
  outside_log kinds.Idle p found vs k chunk = one_slot _ vs refl chunk
  outside_log kinds.ScanEpoch p found vs k chunk = one_slot _ vs refl chunk
  outside_log (kinds.ScanOne n) p found vs k chunk = ⊎_elim (λ h. one_slot _ vs refl h.1) (λ h. one_slot _ vs refl h.1) chunk.3
  outside_log kinds.Advance p found vs k chunk = one_slot _ vs refl chunk.4
  outside_log (kinds.LoadCell (Some place)) p found vs k chunk = one_slot _ vs refl chunk
  outside_log (kinds.PrivateLoad slot cell) p found vs k chunk = subst (AllAre leaves_log) (sym chunk) (if_leaves (slots.is_last_look p.nodes slot cell) _ refl)
  outside_log (kinds.PrivateStore slot word number) p found vs k chunk = absurd (let y = k in cc)
  outside_log (kinds.Hold t d) p found vs k chunk = absurd (let y = k in cc)
  outside_log (kinds.Guard d) p found vs k chunk = one_slot _ vs refl chunk
  outside_log (kinds.LoadGuard n) p found vs k chunk = subst (AllAre leaves_log) (sym chunk) (if_leaves (is_last_guard l p.guards.looked) _ refl)
  outside_log (kinds.BoardTake word link) p found vs k chunk = subst (AllAre leaves_log) (sym chunk) (if_leaves (found == link) _ refl)
  outside_log (kinds.BoardGive word slot) p found vs k chunk = subst (AllAre leaves_log) (sym chunk) (if_leaves (found == 0) _ refl)
  outside_log _ p found vs k chunk = no_slot vs chunk
