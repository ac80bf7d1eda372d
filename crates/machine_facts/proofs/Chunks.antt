-- Of what sort the events are that a step of the machine is: they publish and free nothing, or publish one section, or free descriptors.
use Rattle.std.specs.Prelude.{◌-◌, ◌==◌, nat_lt, if◌then◌else◌}
use Rattle.std.proofs.Common.{◌≡◌, ℕ, Bool, true, false, List, [], ◌∷◌, ◌++◌, refl, sym, ◌∙◌, subst, inl, inr, ⊎_elim, Option, Some, None, ◌+◌}
use Rattle.std.specs.Prelude.{◌⊎◌}
use Rattle.machine_states.specs.body_terms.specs.declared.micro.Micro.{Micro}
use Rattle.machine_states.specs.body_terms.specs.Word.{value_of}
use Rattle.machine_states.specs.body_terms.specs.declared.thunk.Thunk.{Thunk}
use Rattle.machine_states.specs.table_words.specs.declared.layout.Layout.{Layout}
use Rattle.machine_states.specs.table_words.specs.Places.{slot_count, part_words}
use Rattle.machine_states.specs.structure_laws.specs.Meaning.{Meaning}
use Rattle.machine_states.specs.runner_parts.specs.declared.event.EventKind.{EventKind}
use Rattle.machine_states.specs.runner_parts.specs.declared.event.EventKind.TheVariants as kinds
use Rattle.machine_states.specs.runner_parts.specs.State.{RunState, NodesState, PartState}
use Rattle.machine_states.specs.runner_parts.specs.Lists.{test_of, one_more}
use Rattle.machine_states.specs.runner_steps.specs.Outside.{blocks_from}
use Rattle.machine_states.specs.runner_steps.specs.Sections.{is_open_run, next_of}
use Rattle.agreement_core.specs.State.{AgreementState}
use Rattle.agreement_core.specs.Events as agreement
use Rattle.machine_states.specs.epoch_core.specs.State.{Role}
use Rattle.machine_states.specs.epoch_core.specs.Events as epochs
use Rattle.machine_invariant.specs.machine_blocks.specs.machine_guards.specs.machine_agreement.specs.machine_epochs.specs.Chunks as slots
use Rattle.machine_invariant.specs.machine_blocks.specs.machine_guards.specs.machine_agreement.specs.Chunks as sections
use Rattle.machine_states.specs.body_terms.specs.Line.{is_end}
use Rattle.machine_states.specs.guard_core.specs.Moves.{is_unnamed}
use Rattle.machine_states.specs.runner_parts.specs.declared.entries.Published.{Published}
use Rattle.machine_states.specs.runner_steps.specs.AfterInRun.{ended_more}
use Rattle.machine_states.specs.runner_steps.specs.Guards.{is_last_guard}
use Rattle.machine_invariant.proofs.Runs.{AllAre}
use Rattle.machine_facts.proofs.Agreement.{is_unfreeing, is_unpublishing}
use Rattle.machine_facts.proofs.Epochs.{IsChain, is_unpublished}

-- an event that neither publishes a section nor frees a descriptor
abbrev pub is_lasting : agreement.Event → Bool
is_lasting (agreement.Publish d lock word request code slot) = false
is_lasting (agreement.Free d) = false
is_lasting _ = true

lasting_unfreeing : (e : agreement.Event) → is_lasting e ≡ true → is_unfreeing e ≡ true
lasting_unfreeing (agreement.Free d) is = absurd (let no : ⊥ = cc in no)
lasting_unfreeing _ is = refl

lasting_unpublishing : (e : agreement.Event) → is_lasting e ≡ true → is_unpublishing e ≡ true
lasting_unpublishing (agreement.Publish d lock word request code slot) is = absurd (let no : ⊥ = cc in no)
lasting_unpublishing _ is = refl

pub all_unfreeing : (es : List agreement.Event) → AllAre is_lasting es → AllAre is_unfreeing es
all_unfreeing [] are = tt
all_unfreeing (e ∷ es) are = (lasting_unfreeing e are.0, all_unfreeing es are.1)

pub all_unpublishing : (es : List agreement.Event) → AllAre is_lasting es → AllAre is_unpublishing es
all_unpublishing [] are = tt
all_unpublishing (e ∷ es) are = (lasting_unpublishing e are.0, all_unpublishing es are.1)

-- in each of these events but the last no slot moves, and none publishes a section
pub record AreCalm (tails : List epochs.Event) : Type 0 where
  pub chain : IsChain tails
  pub unpublished : AllAre is_unpublished tails

none_calm : AreCalm []
none_calm = record { chain = tt; unpublished = tt }

one_calm : (v : epochs.Event) → is_unpublished v ≡ true → AreCalm (v ∷ [])
one_calm v is = record { chain = tt; unpublished = (is, tt) }

-- a section is published
pub record Publishes (m : Meaning) (r : ℕ) (heads : List agreement.Event) (tails : List epochs.Event) : Type 0 where
  pub descriptor : ℕ
  pub thunk : Thunk
  pub roles : ℕ → Role
  pub heads_are : heads ≡ agreement.Read thunk.lock ∷ sections.publication m descriptor thunk ∷ []
  pub tails_are : tails ≡ epochs.Publish r descriptor roles ∷ []

-- descriptors are freed
pub record FreesSome (run : Option RunState) (heads : List agreement.Event) (tails : List epochs.Event) : Type 0 where
  pub descriptors : List ℕ
  pub outside : run ≡ None
  pub heads_are : heads ≡ sections.frees descriptors
  pub tails_are : AreCalm tails

-- neither
pub record IsQuiet (heads : List agreement.Event) (tails : List epochs.Event) : Type 0 where
  pub lasting : AllAre is_lasting heads
  pub tails_are : AreCalm tails

abbrev pub Sort : Meaning → ℕ → Option RunState → List agreement.Event → List epochs.Event → Type 0
Sort m r run heads tails = IsQuiet heads tails ⊎ (Publishes m r heads tails ⊎ FreesSome run heads tails)

module _ (m : Meaning) (l : Layout) (w : AgreementState) (r : ℕ) where
  abbrev Last : List agreement.Event → Type 0
  Last heads = AllAre is_lasting heads

  retired_heads : (o : Option Published) (d : ℕ) → Last (sections.retires_own o d)
  retired_heads None d = tt
  retired_heads (Some x) d = by (x.descriptor == d)
    where
      by : (b : Bool) → Last (if b then agreement.RetireDescriptor d ∷ [] else [])
      by true = (refl, tt)
      by false = tt

  line_heads : (kind : EventKind) (p : PartState) (q : RunState) (found : ℕ) (heads : List agreement.Event)
      → sections.IsLineChunk m l w r kind p q found heads → Last heads
  line_heads kinds.Commit p q found heads chunk =
      ⊎_elim (λ h. subst Last (sym h.1) (refl, tt)) (λ h. subst Last (sym h.1) (refl, tt)) chunk.2
  line_heads (kinds.LoadCell None) p q found heads chunk = subst Last (sym chunk.3) (refl, tt)
  line_heads kinds.ExchangeCell p q found heads chunk = subst Last (sym chunk.4) (refl, (refl, tt))
  line_heads (kinds.PrivateLoad slot cell) p q found heads chunk = subst Last (sym chunk.2) (refl, tt)
  line_heads (kinds.PrivateStore slot cell number) p q found heads chunk = ⊎_elim (λ link. subst Last (sym link.1) tt) (λ fills. subst Last (sym fills.4) (refl, tt)) chunk
  line_heads kinds.MakeCommit p q found heads chunk = subst Last (sym chunk.4) (refl, tt)
  line_heads kinds.RetireCommit p q found heads chunk = subst Last (sym chunk.3) (refl, tt)
  line_heads kinds.EpochForRetire p q found heads chunk = subst Last (sym chunk.3) (refl, tt)
  line_heads kinds.NestedLoad p q found heads chunk = subst Last (sym chunk.3) (refl, tt)
  line_heads kinds.OutcomeLoad p q found heads chunk = subst Last (sym chunk.3) (refl, tt)
  line_heads kinds.ClockLoad p q found heads chunk = subst Last (sym chunk.1) (refl, tt)
  line_heads kinds.StampExchange p q found heads chunk = subst Last (sym chunk.1) (refl, tt)
  line_heads kinds.ClockRaise p q found heads chunk = subst Last (sym chunk.1) (refl, tt)
  line_heads kinds.ReplyExchange p q found heads chunk = subst Last (sym chunk.2) (refl, tt)
  line_heads kinds.NestedHold p q found heads chunk = subst Last (sym chunk.3) (refl, (refl, tt))
  line_heads kinds.OutcomeCommit p q found heads chunk = subst Last (sym chunk.3) (refl, tt)
  line_heads kinds.SetDone p q found heads chunk = subst Last (sym chunk.1) (refl, tt)
  line_heads kinds.Release p q found heads chunk = ⊎_elim (λ h. subst Last (sym h.1) (refl, (refl, tt)))
      (λ h. subst Last (sym h.1) (refl, (refl, (refl, retired_heads p.published q.descriptor)))) chunk.3
  line_heads _ p q found heads chunk = subst Last (sym chunk) tt

  inside_heads : (kind : EventKind) (p : PartState) (q : RunState) (found : ℕ) (heads : List agreement.Event) (b : Bool)
      → sections.IsInsideChunk m l w r b kind p q found heads → Last heads
  inside_heads kind p q found heads true chunk = line_heads kind p q found heads chunk
  inside_heads kind p q found heads false chunk = subst Last (sym chunk) tt

  retired_tails : (o : Option Published) (d : ℕ) → AreCalm (slots.retires_own r o d)
  retired_tails None d = none_calm
  retired_tails (Some x) d = by (x.descriptor == d)
    where
      by : (b : Bool) → AreCalm (if b then epochs.RetireDescriptor r d ∷ [] else [])
      by true = one_calm _ refl
      by false = none_calm

  released_tails : (b : Bool) (o : Option Published) (d : ℕ) → AreCalm (if b then slots.retires_own r o d else [])
  released_tails true o d = retired_tails o d
  released_tails false o d = none_calm

  line_tails : (kind : EventKind) (p : PartState) (q : RunState) (micro : Micro) (found : ℕ) (vs : List epochs.Event)
      → slots.IsLineChunk m l r kind p q micro found vs → AreCalm vs
  line_tails kinds.Commit p q micro found vs chunk = subst AreCalm (sym chunk.3) (one_calm _ refl)
  line_tails kinds.OutcomeCommit p q micro found vs chunk = subst AreCalm (sym chunk.3) (one_calm _ refl)
  line_tails kinds.Release p q micro found vs chunk =
      subst AreCalm (sym chunk) (released_tails (is_end (next_of m (ended_more q))) p.published q.descriptor)
  line_tails (kinds.PrivateLoad slot cell) p q micro found vs chunk =
      ⊎_elim (λ h. subst AreCalm (sym h.1) (one_calm _ refl)) (λ h. subst AreCalm (sym h.1) none_calm) chunk
  line_tails kinds.MakeCommit p q micro found vs chunk = subst AreCalm (sym chunk.4) (one_calm _ refl)
  line_tails kinds.EpochForRetire p q micro found vs chunk = subst AreCalm (sym chunk.3) (one_calm _ refl)
  line_tails kinds.RetireCommit p q micro found vs chunk = subst AreCalm (sym chunk.3) (one_calm _ refl)
  line_tails _ p q micro found vs chunk = subst AreCalm (sym chunk) none_calm

  inside_tails : (kind : EventKind) (p : PartState) (q : RunState) (found : ℕ) (vs : List epochs.Event) (b : Bool)
      → slots.IsInsideChunk m l r b kind p q found vs → AreCalm vs
  inside_tails kind p q found vs true chunk = line_tails kind p q (next_of m q) found vs chunk
  inside_tails kind p q found vs false chunk = subst AreCalm (sym chunk) none_calm

  if_heads : (b : Bool) (heads : List agreement.Event) → Last heads → Last (if b then heads else [])
  if_heads true heads last = last
  if_heads false heads last = tt

  stored_heads : (d word number : ℕ) → Last (sections.stored d word number)
  stored_heads d word number = by (nat_lt word 12) (word == 12) (word == 13 + part_words)
    where
      by : (b b' c : Bool) → Last (if b then [] else (if b' then agreement.StoreDone d number ∷ [] else (if c then [] else agreement.StoreLog d (word - 13) number ∷ [])))
      by true b' c = tt
      by false true c = (refl, tt)
      by false false true = tt
      by false false false = (refl, tt)

  looked_tails : (n : NodesState) (slot cell found : ℕ) → AreCalm (slots.looked l r n slot cell found)
  looked_tails n slot cell found = by (slots.is_last_look n slot cell)
    where
      by : (b : Bool) → AreCalm (if b then epochs.Test r slot (one_more l (test_of n.tests slot) found).worn ∷ [] else [])
      by true = one_calm _ refl
      by false = none_calm

  if_tails : (b : Bool) (vs : List epochs.Event) → AreCalm vs → AreCalm (if b then vs else [])
  if_tails true vs calm = calm
  if_tails false vs calm = none_calm

  stored_tails : (d word number : ℕ) → AreCalm (slots.stored r d word number)
  stored_tails d word number = by (nat_lt word 12) (word == 12) (word == 13 + part_words)
    where
      by : (b b' c : Bool) → AreCalm (if b then [] else (if b' then [] else (if c then [] else epochs.StoreLog r d (word - 13) number ∷ [])))
      by true b' c = none_calm
      by false true c = none_calm
      by false false true = none_calm
      by false false false = one_calm _ refl

  -- a sweep may end, and then some descriptors are freed
  pub swept_frees : (p : PartState) (found : ℕ) → (ds : List ℕ) × (sections.swept l p found ≡ sections.frees ds)
  swept_frees p found = by (is_last_guard l p.guards.looked)
    where
      by : (b : Bool) → (ds : List ℕ)
          × ((if b then sections.frees (sections.unnamed (p.guards.looked ++ found ∷ []) p) else []) ≡ sections.frees ds)
      by true = (_, refl)
      by false = ([], refl)

  sweep_tails : (p : PartState) (found : ℕ) → AreCalm (slots.sweeps l r p found)
  sweep_tails p found = by (is_last_guard l p.guards.looked)
    where
      by : (b : Bool) → AreCalm (if b then epochs.Sweep r (is_unnamed (p.guards.looked ++ found ∷ [])) ∷ [] else [])
      by true = one_calm _ refl
      by false = none_calm

  taken_tails : (word link found : ℕ) → AreCalm (slots.takes r word link found)
  taken_tails word link found = by (found == link)
    where
      by : (b : Bool) → AreCalm (if b then epochs.TakeBoard r (value_of (link - 1)) word ∷ [] else [])
      by true = one_calm _ refl
      by false = none_calm

  given_tails : (word slot found : ℕ) → AreCalm (slots.gives r word slot found)
  given_tails word slot found = by (found == 0)
    where
      by : (b : Bool) → AreCalm (if b then epochs.GiveBoard r slot word ∷ [] else [])
      by true = one_calm _ refl
      by false = none_calm

  quiet : (heads : List agreement.Event) (vs : List epochs.Event) → Last heads → AreCalm vs → Sort m r None heads vs
  quiet heads vs lasting calm = inl (record { lasting = lasting; tails_are = calm })

  outside_sort : (kind : EventKind) (p : PartState) (found : ℕ) (heads : List agreement.Event) (vs : List epochs.Event)
      → sections.IsOutsideChunk m l w r kind p found heads → slots.IsOutsideChunk m l r kind p found vs → Sort m r None heads vs
  outside_sort kinds.EnterLoad p found heads vs chunk slots = quiet heads vs (subst Last (sym chunk) tt) (subst AreCalm (sym slots) (one_calm _ refl))
  outside_sort kinds.Announce p found heads vs chunk slots = quiet heads vs (subst Last (sym chunk) tt) (subst AreCalm (sym slots.2) (one_calm _ refl))
  outside_sort kinds.EnterAgain p found heads vs chunk slots = quiet heads vs (subst Last (sym chunk) tt) (subst AreCalm (sym slots) (one_calm _ refl))
  outside_sort kinds.Idle p found heads vs chunk slots = quiet heads vs (subst Last (sym chunk) tt) (subst AreCalm (sym slots) (one_calm _ refl))
  outside_sort kinds.ScanEpoch p found heads vs chunk slots = quiet heads vs (subst Last (sym chunk) tt) (subst AreCalm (sym slots) (one_calm _ refl))
  outside_sort (kinds.ScanOne n) p found heads vs chunk slots = quiet heads vs (subst Last (sym chunk) tt)
      (⊎_elim (λ h. subst AreCalm (sym h.1) (one_calm _ refl)) (λ h. subst AreCalm (sym h.1) (one_calm _ refl)) slots.3)
  outside_sort kinds.Advance p found heads vs chunk slots = quiet heads vs (subst Last (sym chunk) tt)
      (subst AreCalm (sym slots.4) (one_calm _ refl))
  outside_sort (kinds.BoardTake word link) p found heads vs chunk slots = quiet heads vs (subst Last (sym chunk) tt) (subst AreCalm (sym slots) (taken_tails word link found))
  outside_sort (kinds.BoardGive word slot) p found heads vs chunk slots = quiet heads vs (subst Last (sym chunk) tt) (subst AreCalm (sym slots) (given_tails word slot found))
  outside_sort (kinds.Guard d) p found heads vs chunk slots = quiet heads vs (subst Last (sym chunk) tt) (subst AreCalm (sym slots) (one_calm _ refl))
  outside_sort (kinds.LoadGuard n) p found heads vs chunk slots =
      let some = swept_frees p found in
      inr (inr (record { descriptors = some.0; outside = refl; heads_are = chunk ∙ some.1; tails_are = subst AreCalm (sym slots) (sweep_tails p found) }))
  outside_sort (kinds.LoadCell (Some place)) p found heads vs chunk slots =
      quiet heads vs (subst Last (sym chunk) (refl, tt)) (subst AreCalm (sym slots) (one_calm _ refl))
  outside_sort (kinds.PrivateLoad slot cell) p found heads vs chunk slots =
      quiet heads vs (subst Last (sym chunk) tt) (subst AreCalm (sym slots) (looked_tails p.nodes slot cell found))
  outside_sort (kinds.PrivateStore slot word number) p found heads vs chunk slots =
      quiet heads vs (subst Last (sym chunk.1) (if_heads (nat_lt slot (blocks_from m l)) (sections.stored (slot - slot_count l m.fixed_slots) word number) (stored_heads (slot - slot_count l m.fixed_slots) word number)))
      (subst AreCalm (sym slots) (if_tails (nat_lt slot (blocks_from m l)) _ (stored_tails (slot - slot_count l m.fixed_slots) word number)))
  outside_sort (kinds.Hold t d) p found heads vs chunk slots = ⊎_elim
      (λ won. ⊎_elim
      (λ published. inr (inl (record {
        descriptor = d;
        thunk = t;
        roles = _;
        heads_are = won.1;
        tails_are = published.1;
      })))
      (λ lost. absurd (lost.0 won.0)) slots)
      (λ lost. ⊎_elim (λ published. absurd (lost.0 published.0))
      (λ none. quiet heads vs (subst Last (sym lost.1) (refl, tt)) (subst AreCalm (sym none.1) none_calm)) slots)
      chunk
  outside_sort kinds.ReadReply p found heads vs chunk slots =
      quiet heads vs (subst Last (sym chunk.2) (refl, tt)) (subst AreCalm (sym slots) none_calm)
  outside_sort kinds.ReadStamp p found heads vs chunk slots =
      quiet heads vs (subst Last (sym chunk.2) (refl, tt)) (subst AreCalm (sym slots) none_calm)
  outside_sort (kinds.LoadThunk (Some d)) p found heads vs chunk slots =
      quiet heads vs (subst Last (sym chunk) (refl, tt)) (subst AreCalm (sym slots) none_calm)
  outside_sort _ p found heads vs chunk slots = quiet heads vs (subst Last (sym chunk) tt) (subst AreCalm (sym slots) none_calm)

  pub sort_of : (kind : EventKind) (p : PartState) (run : Option RunState) (found : ℕ) (heads : List agreement.Event) (vs : List epochs.Event)
      → sections.IsChunk m l w r kind p run found heads → slots.IsChunk m l r kind p run found vs → Sort m r run heads vs
  sort_of kind p None found heads vs chunk slots = outside_sort kind p found heads vs chunk slots
  sort_of kind p (Some q) found heads vs chunk slots = inl (record {
    lasting = inside_heads kind p q found heads (is_open_run q) chunk;
    tails_are = inside_tails kind p q found vs (is_open_run q) slots;
  })
