-- Each step of the machine keeps the whole invariant.
use Rattle.std.specs.Prelude.{All, Bool, true, false, if◌then◌else◌}
use Rattle.std.proofs.Common.{◌≡◌, ℕ, ◌≤◌, List, [], ◌∷◌, length, sym, refl, ap, ◌∙◌, subst, Option, Some, None}
use Rattle.machine_states.specs.map_history.specs.declared.op.Request.{Request}
use Rattle.machine_states.specs.table_words.specs.declared.layout.Layout.{Layout}
use Rattle.machine_states.specs.table_words.specs.declared.spot.Spot.{Spot}
use Rattle.machine_states.specs.table_words.specs.declared.access.Access.{Access}
use Rattle.machine_states.specs.table_words.specs.Limits.{IsWithinLimits}
use Rattle.machine_states.specs.table_words.specs.Places.{Fits}
use Rattle.machine_states.specs.structure_laws.specs.Meaning.{Meaning}
use Rattle.machine_states.specs.structure_laws.specs.Laws.{Laws}
use Rattle.machine_states.specs.structure_laws.specs.Sections.{IsAllowed}
use Rattle.machine_states.specs.runner_parts.specs.declared.event.EventKind.{EventKind}
use Rattle.machine_states.specs.runner_parts.specs.declared.event.EventKind.TheVariants as kinds
use Rattle.machine_states.specs.runner_parts.specs.State.{RunState, PartState}
use Rattle.machine_states.specs.runner_steps.specs.Sections.{is_open_run, next_of}
use Rattle.machine_states.specs.runner_steps.specs.Asks.{opening_ask, sizes_for}
use Rattle.machine_states.specs.runner_steps.specs.Asks.{line_ask, asks}
use Rattle.machine_states.specs.World.{is_join}
use Rattle.machine_states.specs.Sight.{Sight, sight_after, Steps}
use Rattle.machine_states.proofs.Sights.{some_none}
use Rattle.machine_blocks.specs.machine_guards.specs.machine_agreement.specs.machine_epochs.specs.Entries.{counts_of}
use Rattle.machine_blocks.specs.machine_guards.specs.machine_agreement.proofs.LineAsked.{line_asked}
use Rattle.machine_invariant.specs.Whole.{Beside, IsWhole}
use Rattle.machine_invariant.proofs.Asked.{asked_by}
use Rattle.machine_invariant.proofs.SuppliesSlots.{HoldsMet, slots_met}
use Rattle.machine_invariant.proofs.Meeting.{having_met, has_met}
use Rattle.machine_invariant.proofs.Chunked.{is_plain_line}
use Rattle.machine_invariant.proofs.Pieces.{Pieces, KeepsWhole, pieces}
use Rattle.machine_invariant.proofs.Plain.{plain_whole, outside_whole, join_whole}
use Rattle.machine_invariant.proofs.Makes.{private_load_whole, private_store_whole, make_commit_whole}
use Rattle.machine_invariant.proofs.Retires.{retire_commit_whole, epoch_for_retire_whole}
use Rattle.machine_invariant.proofs.Entering.{enter_again_whole, idle_whole}
use Rattle.machine_invariant.proofs.Walking.{load_cell_whole}
use Rattle.machine_invariant.proofs.Publishing.{hold_whole}
use Rattle.machine_invariant.proofs.Freeing.{load_guard_whole}
use Rattle.machine_invariant.proofs.SectionsRetired.{release_whole}
use Rattle.machine_invariant.proofs.Reading.{read_reply_whole, read_stamp_whole}
use Rattle.machine_invariant.proofs.Following.{StepsWhole, assembled, goes_reached}

-- a load of a cell outside a run
abbrev is_read : EventKind → Bool
is_read (kinds.LoadCell (Some place)) = true
is_read _ = false

module _ (m : Meaning) (laws : Laws m) (l : Layout) (limits : IsWithinLimits l) (rs : List Request) (few : length rs ≤ 131072)
    (allowed : All (λ (q : Request). IsAllowed q.op) rs) (g : Beside) (s : Sight) (whole : IsWhole m l g s) (of : g.publications.requests ≡ rs) (r : ℕ) (some : r ≤ l.runners)
    (x : Spot × Access)
    (fits : Fits (sizes_for m l rs) x.0) where
  abbrev p : PartState
  p = s.part r

  abbrev here : EventKind → Sight
  here kind = sight_after m l s r kind x

  abbrev To : EventKind → Type 0
  To kind = StepsWhole m l rs g s (here kind) r kind

  -- where the step is on this word
  abbrev step_of : (kind : EventKind) → asks m l rs r kind p ≡ Some x → Steps m l rs s (here kind) r kind
  step_of kind asked = record { runner = some; ask = x; asked = asked; has_word = fits; next = refl }

  no_read : (kind : EventKind) → is_read kind ≡ false → HoldsMet m l g s r kind
  no_read kind other place t is low by = absurd (let clash : true ≡ false = sym (ap is_read is) ∙ other in cc)

  -- a step before which nobody comes to hold anything
  direct : (kind : EventKind) → asks m l rs r kind p ≡ Some x → is_read kind ≡ false
      → ((parts : Pieces m l g s (here kind) r kind x) → KeepsWhole m l g s (here kind) r kind x parts) → To kind
  direct kind asked other keeps =
      let parts = pieces m laws l limits rs few allowed g s (here kind) whole r kind (step_of kind asked) (no_read kind other) in
      let kept = keeps parts in assembled m l rs g s (here kind) r kind [] tt (step_of kind asked) parts kept kept.goes

  -- the steps of a run
  module _ (q : RunState) (is : p.run ≡ Some q) where
    asked_inside : (kind : EventKind) → asks m l rs r kind p ≡ Some x
        → (if is_open_run q then line_ask m l kind p.nodes.free p.blocks.free q (next_of m q) else opening_ask kind q) ≡ Some x
    asked_inside kind asked = asked_by m l r kind p rs x (Some q) is asked

    plain : (kind : EventKind) → asks m l rs r kind p ≡ Some x → is_read kind ≡ false → is_join kind ≡ false → is_plain_line kind ≡ true
        → To kind
    plain kind asked other j is_plain = direct kind asked other (plain_whole m laws l limits rs g s whole r x kind asked q is j is_plain)

    module _ (opened : is_open_run q ≡ true) where
      line : (kind : EventKind) → asks m l rs r kind p ≡ Some x → To kind
      line (kinds.PrivateLoad slot cell) asked = direct (kinds.PrivateLoad slot cell) asked refl
          (private_load_whole m laws l limits rs few allowed g s whole r x slot cell asked q is opened)
      line (kinds.PrivateStore slot cell number) asked = direct (kinds.PrivateStore slot cell number) asked refl
          (private_store_whole m laws l limits rs few allowed g s whole r x slot cell number asked q is opened)
      line kinds.MakeCommit asked =
          direct kinds.MakeCommit asked refl (make_commit_whole m laws l limits rs few allowed g s whole r x asked q is opened)
      line kinds.RetireCommit asked =
          direct kinds.RetireCommit asked refl (retire_commit_whole m laws l limits rs few allowed g s whole r x asked q is opened)
      line kinds.EpochForRetire asked =
          direct kinds.EpochForRetire asked refl (epoch_for_retire_whole m laws l limits rs few allowed g s whole r x asked q is opened)
      line kinds.Release asked =
          direct kinds.Release asked refl (release_whole m laws l limits rs few allowed g s whole r x asked q is opened)
      line (kinds.LoadCell (Some place)) asked = some_none x (line_asked m l rs r (kinds.LoadCell (Some place)) p q x asked is opened)
      line (kinds.Hold t d) asked = some_none x (line_asked m l rs r (kinds.Hold t d) p q x asked is opened)
      line (kinds.Join worker) asked = direct (kinds.Join worker) asked refl (join_whole m laws l limits rs g s whole r x worker asked)
      line kind asked = plain kind asked refl refl refl

    module _ (unopened : is_open_run q ≡ false) where
      asked_opening : (kind : EventKind) → asks m l rs r kind p ≡ Some x → opening_ask kind q ≡ Some x
      asked_opening kind asked = ap (λ b. if b then line_ask m l kind p.nodes.free p.blocks.free q (next_of m q) else opening_ask kind q) (sym unopened)
          ∙ asked_inside kind asked

      opening : (kind : EventKind) → asks m l rs r kind p ≡ Some x → To kind
      opening (kinds.LoadThunk None) asked = plain (kinds.LoadThunk None) asked refl refl refl
      opening kinds.LoadDone asked = plain kinds.LoadDone asked refl refl refl
      opening kind asked = some_none x (asked_opening kind asked)

    inside : (kind : EventKind) → asks m l rs r kind p ≡ Some x → To kind
    inside kind asked = by (is_open_run q) refl
      where
        by : (b : Bool) → is_open_run q ≡ b → To kind
        by true opened = line opened kind asked
        by false unopened = opening unopened kind asked

  -- the steps of a runner in no run
  module _ (none : p.run ≡ None) where
    -- a load of a cell, before which the runner comes to hold what it meets
    reads_cell : (place : ℕ) → asks m l rs r (kinds.LoadCell (Some place)) p ≡ Some x → To (kinds.LoadCell (Some place))
    reads_cell place asked =
        let kind = kinds.LoadCell (Some place) in
        let had = has_met m laws l limits rs few allowed g s whole r x kind asked in
        let parts = pieces m laws l limits rs few allowed (having_met m l g r kind) s (here kind) had.whole r kind
        (step_of kind asked) had.holds in
        let reaches = (r, slots_met m (counts_of m l) g.agreement.shared.cells place) ∷ [] in
        let kept = load_cell_whole m laws l limits rs few allowed (having_met m l g r kind) s had.whole r x place asked none had.holds parts in
        assembled m l rs g s (here kind) r kind reaches had.enabled (step_of kind asked) parts kept
        (goes_reached m l rs g s r kind (s.word x.0) _ reaches had.enabled refl refl kept.goes)

    outside : (kind : EventKind) → asks m l rs r kind p ≡ Some x → To kind
    outside kinds.EnterAgain asked =
        direct kinds.EnterAgain asked refl (enter_again_whole m laws l limits rs few allowed g s whole r x asked none)
    outside kinds.Idle asked = direct kinds.Idle asked refl (idle_whole m laws l limits rs few allowed g s whole r x asked none)
    outside (kinds.LoadGuard n) asked =
        direct (kinds.LoadGuard n) asked refl (load_guard_whole m laws l limits rs few allowed g s whole r x n asked none)
    outside (kinds.LoadCell (Some place)) asked = reads_cell place asked
    outside (kinds.Hold t d) asked =
        direct (kinds.Hold t d) asked refl (hold_whole m laws l limits rs few allowed g s whole of r x t d asked none)
    outside (kinds.Join worker) asked = direct (kinds.Join worker) asked refl (join_whole m laws l limits rs g s whole r x worker asked)
    outside kinds.ReadReply asked = direct kinds.ReadReply asked refl (read_reply_whole m laws l limits rs g s whole r x asked none)
    outside kinds.ReadStamp asked = direct kinds.ReadStamp asked refl (read_stamp_whole m laws l limits rs g s whole r x asked none)
    outside kind asked = direct kind asked refl (outside_whole m laws l limits rs g s whole r x kind asked none refl)

  at_once : (kind : EventKind) → asks m l rs r kind p ≡ Some x → To kind
  at_once kind asked = by p.run refl
    where
      by : (o : Option RunState) → p.run ≡ o → To kind
      by None none = outside none kind asked
      by (Some q) is = inside q is kind asked

-- each step of the machine keeps the whole invariant
pub step_whole : (m : Meaning) → Laws m → (l : Layout) → IsWithinLimits l → (rs : List Request) → length rs ≤ 131072
    → All (λ (q : Request). IsAllowed q.op) rs
    → (g : Beside) (s s' : Sight) (r : ℕ) (kind : EventKind) → IsWhole m l g s → g.publications.requests ≡ rs → Steps m l rs s s' r kind
    → StepsWhole m l rs g s s' r kind
step_whole m laws l limits rs few allowed g s s' r kind whole of step =
    subst (λ (t : Sight). StepsWhole m l rs g s t r kind) (sym step.next)
    (at_once m laws l limits rs few allowed g s whole of r step.runner step.ask step.has_word kind step.asked)
