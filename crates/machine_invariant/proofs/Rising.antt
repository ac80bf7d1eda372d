-- Each step of the machine raises the versions of cells by one at most.
use Rattle.std.specs.Prelude.{◌⊎◌, Bool, true, false, nat_lt, ◌==◌, ◌-◌, replicate, if◌then◌else◌}
use Rattle.std.proofs.Common.{◌≡◌, ℕ, suc, ◌+◌, List, [], ◌∷◌, ◌++◌, sym, refl, ap, ◌∙◌, subst, inl, inr, ⊎_elim, Option, Some, None}
use Rattle.machine_states.specs.map_history.specs.declared.op.Request.{Request}
use Rattle.machine_states.specs.body_terms.specs.Word.{version_of}
use Rattle.machine_states.specs.table_words.specs.declared.layout.Layout.{Layout}
use Rattle.machine_states.specs.table_words.specs.Places.{part_words, slot_count}
use Rattle.machine_states.specs.structure_laws.specs.Meaning.{Meaning}
use Rattle.machine_states.specs.structure_laws.specs.Laws.{Laws}
use Rattle.machine_states.specs.runner_parts.specs.declared.event.Event.{Event}
use Rattle.machine_states.specs.runner_parts.specs.declared.event.EventKind.{EventKind}
use Rattle.machine_states.specs.runner_parts.specs.declared.event.EventKind.TheVariants as kinds
use Rattle.machine_states.specs.runner_parts.specs.State.{RunState, PartState}
use Rattle.machine_states.specs.runner_steps.specs.Sections.{is_open_run}
use Rattle.agreement_core.specs.State.{CellRules, AgreementState}
use Rattle.agreement_core.specs.Events as agreement
use Rattle.agreement_core.specs.Schedules.{AllEnabled, after_all}
use Rattle.agreement_core.specs.Sound.{IsSound}
use Rattle.agreement_core.specs.Rising.{RiseByOne}
use Rattle.agreement_core.specs.History as agreement_history
use Rattle.agreement_core.proofs.Keeping.{keeps}
use Rattle.agreement_core.proofs.Rising.{rises}
use Rattle.machine_states.specs.epoch_core.specs.Events as epochs
use Rattle.machine_states.specs.epoch_core.specs.Schedules as epoch_schedules
use Rattle.machine_states.specs.epoch_core.specs.History as epoch_history
use Rattle.machine_states.specs.World.{World, happens, run}
use Rattle.machine_states.specs.Sight.{Sight, sight, Steps}
use Rattle.machine_states.specs.Sight as states
use Rattle.machine_states.proofs.Sights.{happens_steps}
use Rattle.machine_states.proofs.Reached.{run_has}
use Rattle.machine_states.proofs.FirstSights as firsts
use Rattle.machine_blocks.specs.machine_guards.specs.machine_agreement.specs.machine_epochs.specs.Entries.{counts_of}
use Rattle.machine_blocks.specs.machine_guards.specs.machine_agreement.specs.machine_scenes.specs.Shown.{rules_of}
use Rattle.machine_blocks.specs.machine_guards.specs.machine_agreement.specs.Chunks as sections
use Rattle.machine_blocks.specs.machine_guards.specs.machine_agreement.specs.Joined.{IsJoinedToAgreement}
use Rattle.machine_states.specs.runner_steps.specs.Guards.{is_last_guard}
use Rattle.machine_states.specs.runner_steps.specs.Outside.{blocks_from}
use Rattle.machine_states.specs.runner_parts.specs.declared.entries.Published.{Published}
use Rattle.machine_invariant.specs.Along.{Components, AreEventsOf}
use Rattle.machine_invariant.specs.Rising.{CellsRise, StepsRise, RisesAfter}
use Rattle.machine_invariant.specs.Whole.{Beside, IsWhole}
use Rattle.machine_invariant.proofs.Runs.{AllAre, passes_are, append_are}
use Rattle.machine_invariant.proofs.First.{first_beside, first_whole}
use Rattle.machine_invariant.proofs.States.{with_histories}
use Rattle.machine_invariant.proofs.Following.{StepsWhole}
use Rattle.machine_invariant.proofs.Freeing.{frees_are}
use Rattle.machine_invariant.proofs.AllKinds.{step_whole}

-- the event changes no cell
abbrev leaves_cells : agreement.Event → Bool
leaves_cells (agreement.Publish d lock word request code slot) = false
leaves_cells (agreement.Release r place word) = false
leaves_cells (agreement.NestedHold r place word) = false
leaves_cells (agreement.PrivateStore r cell log value place word) = false
leaves_cells (agreement.ExchangeCell r place log value) = false
leaves_cells _ = true

leaves_same : (w : AgreementState) (e : agreement.Event) → leaves_cells e ≡ true → (agreement.after w e).shared.cells ≡ w.shared.cells
leaves_same w (agreement.Publish d lock word request code slot) leaves = absurd (cc)
leaves_same w (agreement.Release r place word) leaves = absurd (cc)
leaves_same w (agreement.NestedHold r place word) leaves = absurd (cc)
leaves_same w (agreement.PrivateStore r cell log value place word) leaves = absurd (cc)
leaves_same w (agreement.ExchangeCell r place log value) leaves = absurd (cc)
leaves_same w _ leaves = refl

all_same : (c : CellRules) (w : AgreementState) (es : List agreement.Event) → AllAre leaves_cells es
    → (after_all c w es).shared.cells ≡ w.shared.cells
all_same c w [] leave = refl
all_same c w (e ∷ es) leave = all_same c (agreement.after w e) es leave.1 ∙ leaves_same w e leave.0

-- at most one event of the list changes a cell
abbrev ChangeOnce : List agreement.Event → Type 0
ChangeOnce [] = Unit {0}
ChangeOnce (e ∷ es) = ((leaves_cells e ≡ true) × ChangeOnce es) ⊎ AllAre leaves_cells es

all_once : (es : List agreement.Event) → AllAre leaves_cells es → ChangeOnce es
all_once [] leave = tt
all_once (e ∷ es) leave = inr leave.1

append_once : (es fs : List agreement.Event) → ChangeOnce es → AllAre leaves_cells fs → ChangeOnce (es ++ fs)
append_once [] fs once leave = all_once fs leave
append_once (e ∷ es) fs once leave = ⊎_elim
    (λ h. inl (h.0, append_once es fs h.1 leave)) (λ h. inr (append_are leaves_cells es fs h leave)) once

-- such a list raises each version by one at most
once_rises : (c : CellRules) (w : AgreementState) (es : List agreement.Event) → ChangeOnce es → AllEnabled c w es → IsSound c w
    → RiseByOne w (after_all c w es)
once_rises c w [] once ok old p = inl refl
once_rises c w (e ∷ es) once ok old p = ⊎_elim
    (λ h. subst (λ (cells : ℕ → ℕ). (now p ≡ cells p) ⊎ (version_of (now p) ≡ suc (version_of (cells p)))) (leaves_same w e h.0)
    (once_rises c (agreement.after w e) es h.1 ok.1 (keeps c w e ok.0 old) p))
    (λ h. subst (λ (cells : ℕ → ℕ). (cells p ≡ w.shared.cells p) ⊎ (version_of (cells p) ≡ suc (version_of (w.shared.cells p))))
    (sym (all_same c (agreement.after w e) es h)) (rises c w e ok.0 old p)) once
  where
    now : ℕ → ℕ
    now = (after_all c (agreement.after w e) es).shared.cells

swept_once : (l : Layout) (p : PartState) (found : ℕ) → ChangeOnce (sections.swept l p found)
swept_once l p found = by (is_last_guard l p.guards.looked)
  where
    by : (b : Bool) → ChangeOnce (if b then sections.frees (sections.unnamed (p.guards.looked ++ found ∷ []) p) else [])
    by true = all_once _ (frees_are leaves_cells (λ d. refl) _)
    by false = tt

-- the retirement of the own section changes no cell
retires_same : (o : Option Published) (d : ℕ) → AllAre leaves_cells (sections.retires_own o d)
retires_same None d = tt
retires_same (Some x) d = by (x.descriptor == d)
  where
    by : (b : Bool) → AllAre leaves_cells (if b then agreement.RetireDescriptor d ∷ [] else [])
    by true = (refl, tt)
    by false = tt

stored_once : (d word number : ℕ) → ChangeOnce (sections.stored d word number)
stored_once d word number = by (nat_lt word 12) (word == 12) (word == 13 + part_words)
  where
    by : (b b' b'' : Bool) → ChangeOnce (if b then [] else (
        if b' then agreement.StoreDone d number ∷ [] else (if b'' then [] else agreement.StoreLog d (word - 13) number ∷ [])))
    by true b' b'' = tt
    by false true b'' = inr tt
    by false false true = tt
    by false false false = inr tt

-- no event, one event, one behind a reading, and a release that is the last
none_once : (heads : List agreement.Event) → heads ≡ [] → ChangeOnce heads
none_once heads is = subst ChangeOnce (sym is) tt

one_once : (heads : List agreement.Event) {e : agreement.Event} → heads ≡ e ∷ [] → ChangeOnce heads
one_once heads is = subst ChangeOnce (sym is) (inr tt)

read_once : (heads : List agreement.Event) {place : ℕ} {e : agreement.Event} → heads ≡ agreement.Read place ∷ e ∷ [] → ChangeOnce heads
read_once heads is = subst ChangeOnce (sym is) (inl (refl, inr tt))

last_once : (heads : List agreement.Event) {r p place word : ℕ} (o : Option Published) (d : ℕ)
    → heads ≡ agreement.Read p ∷ agreement.Release r place word ∷ agreement.Finish r ∷ sections.retires_own o d → ChangeOnce heads
last_once heads o d is = subst ChangeOnce (sym is) (inl (refl, inr (refl, retires_same o d)))

-- events that come or not
if_once : (b : Bool) (heads : List agreement.Event) → ChangeOnce heads → ChangeOnce (if b then heads else [])
if_once true heads once = once
if_once false heads once = none_once [] refl

module _ (m : Meaning) (l : Layout) (w : AgreementState) (r : ℕ) where
  line_once : (kind : EventKind) (p : PartState) (q : RunState) (found : ℕ) (heads : List agreement.Event)
      → sections.IsLineChunk m l w r kind p q found heads → ChangeOnce heads
  line_once kinds.Commit p q found heads chunk = ⊎_elim (λ h. one_once heads h.1) (λ h. one_once heads h.1) chunk.2
  line_once (kinds.LoadCell None) p q found heads chunk = one_once heads chunk.3
  line_once kinds.ExchangeCell p q found heads chunk = read_once heads chunk.4
  line_once (kinds.PrivateLoad slot cell) p q found heads chunk = one_once heads chunk.2
  line_once (kinds.PrivateStore slot cell number) p q found heads chunk = ⊎_elim (λ link. none_once heads link.1) (λ fills. one_once heads fills.4) chunk
  line_once kinds.MakeCommit p q found heads chunk = one_once heads chunk.4
  line_once kinds.EpochForRetire p q found heads chunk = one_once heads chunk.3
  line_once kinds.RetireCommit p q found heads chunk = one_once heads chunk.3
  line_once kinds.ClockLoad p q found heads chunk = one_once heads chunk.1
  line_once kinds.StampExchange p q found heads chunk = one_once heads chunk.1
  line_once kinds.ClockRaise p q found heads chunk = one_once heads chunk.1
  line_once kinds.ReplyExchange p q found heads chunk = one_once heads chunk.2
  line_once kinds.NestedLoad p q found heads chunk = one_once heads chunk.3
  line_once kinds.NestedHold p q found heads chunk = read_once heads chunk.3
  line_once kinds.OutcomeLoad p q found heads chunk = one_once heads chunk.3
  line_once kinds.OutcomeCommit p q found heads chunk = one_once heads chunk.3
  line_once kinds.SetDone p q found heads chunk = one_once heads chunk.1
  line_once kinds.Release p q found heads chunk = ⊎_elim (λ h. read_once heads h.1) (λ h. last_once heads p.published q.descriptor h.1) chunk.3
  line_once _ p q found heads chunk = none_once heads chunk

  outside_once : (kind : EventKind) (p : PartState) (found : ℕ) (heads : List agreement.Event)
      → sections.IsOutsideChunk m l w r kind p found heads → ChangeOnce heads
  outside_once (kinds.Hold thunk d) p found heads chunk = ⊎_elim (λ h. read_once heads h.1) (λ h. one_once heads h.1) chunk
  outside_once kinds.ReadReply p found heads chunk = one_once heads chunk.2
  outside_once kinds.ReadStamp p found heads chunk = one_once heads chunk.2
  outside_once (kinds.LoadGuard n) p found heads chunk = subst ChangeOnce (sym chunk) (swept_once l p found)
  outside_once (kinds.LoadCell (Some place)) p found heads chunk = one_once heads chunk
  outside_once (kinds.LoadThunk (Some d)) p found heads chunk = one_once heads chunk
  outside_once (kinds.PrivateStore slot word number) p found heads chunk =
      subst ChangeOnce (sym chunk.1) (if_once (nat_lt slot (blocks_from m l)) (sections.stored (slot - slot_count l m.fixed_slots) word number) (stored_once (slot - slot_count l m.fixed_slots) word number))
  outside_once _ p found heads chunk = none_once heads chunk

  inside_once : (kind : EventKind) (p : PartState) (q : RunState) (found : ℕ) (heads : List agreement.Event) (b : Bool)
      → sections.IsInsideChunk m l w r b kind p q found heads → ChangeOnce heads
  inside_once kind p q found heads true chunk = line_once kind p q found heads chunk
  inside_once kind p q found heads false chunk = none_once heads chunk

  -- in the events of a step at most one changes a cell
  chunk_once : (kind : EventKind) (p : PartState) (o : Option RunState) (found : ℕ) (heads : List agreement.Event)
      → sections.IsChunk m l w r kind p o found heads → ChangeOnce heads
  chunk_once kind p None found heads chunk = outside_once kind p found heads chunk
  chunk_once kind p (Some q) found heads chunk = inside_once kind p q found heads (is_open_run q) chunk

-- the words of two states of the machine, by the cells of states of agreement that belong to them
joined_rises : (m : Meaning) (l : Layout) (a a' : AgreementState) (s s' : Sight) → IsJoinedToAgreement m l a s → IsJoinedToAgreement m l a' s' → RiseByOne a a'
    → CellsRise s.word s'.word
joined_rises m l a a' s s' old new up p = ⊎_elim
    (λ same. inl (sym (new.words.cells p) ∙ (same ∙ old.words.cells p)))
    (λ one. inr (ap version_of (sym (new.words.cells p)) ∙ (one ∙ ap (λ word. suc (version_of word)) (old.words.cells p)))) (up p)

module _ (m : Meaning) (l : Layout) (requests : List Request) where
  -- the events of agreement of a step raise each version by one at most
  chunk_rises : (k : Components) (s s' : Sight) (r : ℕ) (kind : EventKind) (es : List agreement.Event) (vs : List epochs.Event)
      → IsSound (rules_of m l) k.agreement → AreEventsOf m l requests k s r kind es vs → IsJoinedToAgreement m l k.agreement s
      → IsJoinedToAgreement m l (after_all (rules_of m l) k.agreement es) s' → CellsRise s.word s'.word
  chunk_rises k s s' r kind es vs sound of_step old new =
      let heads = chunk_once m l k.agreement r kind (s.part r) (s.part r).run (s.word of_step.ask.0) of_step.heads of_step.in_sections in
      let all = append_once of_step.heads (replicate of_step.passes (agreement.Pass r)) heads
      (passes_are leaves_cells (agreement.Pass r) refl of_step.passes) in
      joined_rises m l k.agreement (after_all (rules_of m l) k.agreement es) s s' old new
      (once_rises (rules_of m l) k.agreement es (subst ChangeOnce (sym of_step.all_heads) all) of_step.enabled sound)

  -- a step that keeps the whole invariant raises each version by one at most
  pub step_rises : (g : Beside) (s s' : Sight) (r : ℕ) (kind : EventKind) → IsWhole m l g s → StepsWhole m l requests g s s' r kind
      → CellsRise s.word s'.word
  step_rises g s s' r kind whole step =
      chunk_rises (with_histories g agreement_history.no_history epoch_history.no_history) s s' r kind step.es step.vs whole.sections.sound
      (step.events agreement_history.no_history epoch_history.no_history) whole.sections step.whole.sections

  module _ (each : (g : Beside) (s s' : Sight) (r : ℕ) (kind : EventKind) → IsWhole m l g s → g.publications.requests ≡ requests → Steps m l requests s s' r kind
      → StepsWhole m l requests g s s' r kind) where
    -- so each event does that is enabled in a state of the machine which meets the whole invariant, where each step keeps this
    steps_rise : (g : Beside) (w : World) → states.IsWhole m l requests w → IsWhole m l g (sight m l requests w)
        → g.publications.requests ≡ requests → StepsRise m l requests w
    steps_rise g w all whole of e v goes =
        let step = happens_steps m l requests w v e all goes in
        step_rises g (sight m l requests w) (sight m l requests v) e.runner e.kind whole
        (each g (sight m l requests w) (sight m l requests v) e.runner e.kind whole of step.0)

    -- there are states of the components beside which the machine's state meets the whole invariant
    abbrev Stands : World → Type 0
    Stands w = (g : Beside) × states.IsWhole m l requests w × IsWhole m l g (sight m l requests w) × (g.publications.requests ≡ requests)

    next_stands : (w v : World) (e : Event) → Stands w → happens m l requests w e ≡ Some v → Stands v
    next_stands w v e (g, all, whole, of) goes =
        let step = happens_steps m l requests w v e all goes in
        let one = each g (sight m l requests w) (sight m l requests v) e.runner e.kind whole of step.0 in (
          record {
            agreement = after_all (rules_of m l) g.agreement one.es;
            epochs = epoch_schedules.after_all (counts_of m l) g.epochs one.vs;
            publications = one.publications;
          },
          step.1,
          one.whole,
          one.requests ∙ of,
        )

    -- and so it is after whatever events
    rise_after : (events : List Event) (g : Beside) (w v : World) → states.IsWhole m l requests w → IsWhole m l g (sight m l requests w)
        → g.publications.requests ≡ requests → run m l requests w events ≡ Some v → StepsRise m l requests v
    rise_after events g w v all whole of runs =
        let there : Stands v = run_has m l requests Stands next_stands events w v (g, all, whole, of) runs in
        steps_rise there.0 v there.1 there.2 there.3

-- each event that is enabled in a state that the machine reaches raises each version by one at most
pub rises_after : (m : Meaning) → Laws m → (l : Layout) (requests : List Request) (events : List Event) (w : World)
    → RisesAfter m l requests events w
rises_after m laws l requests events w limits allowed after =
    rise_after m l requests
    (λ g s s' r kind whole of step. step_whole m laws l limits requests allowed.in_order.few allowed.each g s s' r kind whole of step)
    events (first_beside m laws l limits requests after.start after.first) after.start w
    (firsts.first_whole m l requests after.start after.first) (first_whole m laws l limits requests after.start after.first) refl after.runs
