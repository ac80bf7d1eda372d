-- A runner that enters, and one that leaves, keep the whole invariant.
use Rattle.std.specs.Prelude.{replicate, true, All}
use Rattle.std.proofs.Common.{◌≡◌, ◌≢◌, ℕ, ◌≤◌, List, [], ◌∷◌, length, sym, refl, ap, ◌∙◌, Some, None}
use Rattle.machine_states.specs.map_history.specs.declared.op.Request.{Request}
use Rattle.machine_states.specs.table_words.specs.declared.layout.Layout.{Layout}
use Rattle.machine_states.specs.table_words.specs.declared.spot.Spot.{Spot}
use Rattle.machine_states.specs.table_words.specs.declared.access.Access.{Access}
use Rattle.machine_states.specs.table_words.specs.Limits.{IsWithinLimits}
use Rattle.machine_states.specs.structure_laws.specs.Meaning.{Meaning}
use Rattle.machine_states.specs.structure_laws.specs.Laws.{Laws}
use Rattle.machine_states.specs.structure_laws.specs.Sections.{IsAllowed}
use Rattle.machine_states.specs.structure_laws.proofs.Changes.{upd_same, upd_other}
use Rattle.machine_states.specs.runner_parts.specs.declared.event.EventKind.TheVariants as kinds
use Rattle.machine_states.specs.runner_parts.specs.State.{ReadsState, PartState}
use Rattle.machine_blocks.specs.machine_guards.specs.machine_agreement.specs.machine_epochs.proofs.OutsideAsked.{idle_away}
use Rattle.machine_states.specs.runner_steps.specs.Asks.{asks}
use Rattle.machine_states.specs.runner_steps.specs.After.{after_by, after}
use Rattle.machine_states.specs.table_words.specs.Seen.{upd}
use Rattle.agreement_core.specs.State.{IsOpen}
use Rattle.agreement_core.specs.Events as agreement
use Rattle.machine_states.specs.epoch_core.specs.State.{Counts}
use Rattle.machine_states.specs.epoch_core.specs.Events as epochs
use Rattle.machine_states.specs.Sight.{Sight, sight_after}
use Rattle.machine_states.proofs.Updates.{upd_split}
use Rattle.machine_blocks.specs.machine_guards.specs.machine_agreement.specs.machine_epochs.specs.Entries.{counts_of}
use Rattle.machine_blocks.specs.machine_guards.specs.machine_agreement.specs.machine_scenes.specs.Steps as steps
use Rattle.machine_invariant.specs.Whole.{Beside, states_of, made_of, IsWhole}
use Rattle.machine_invariant.proofs.Runs.{is_calm, step_stands, agreement_stands, passes_are}
use Rattle.machine_invariant.proofs.Quiet.{is_still, hands_of, stands_now}
use Rattle.machine_invariant.proofs.Thunks.{outside_leaves}
use Rattle.machine_invariant.proofs.Sights.{thunks_after, outside_quiet}
use Rattle.machine_invariant.proofs.Jointly.{IsWholeAfter, no_hold}
use Rattle.machine_invariant.proofs.Pieces.{Pieces, KeepsWhole, Leads, led, keeps_by}
use Rattle.machine_invariant.proofs.Outside.{outside_asked, outside_heads, outside_events, made_outside, published_after, onward_whole}

module _ (m : Meaning) (laws : Laws m) (l : Layout) (limits : IsWithinLimits l) (rs : List Request) (few : length rs ≤ 131072)
    (allowed : All (λ (q : Request). IsAllowed q.op) rs) (g : Beside) (s : Sight) (whole : IsWhole m l g s) (r : ℕ)
    (x : Spot × Access) where
  abbrev p : PartState
  p = s.part r

  abbrev c : Counts
  c = counts_of m l

  -- a runner that enters has read nothing
  module _ (asked : asks m l rs r kinds.EnterAgain p ≡ Some x) (none : p.run ≡ None) where
    abbrev entered_sight : Sight
    entered_sight = sight_after m l s r kinds.EnterAgain x

    abbrev entered_part : PartState
    entered_part = after m l r kinds.EnterAgain x.0 x.1 p (s.word x.0)

    enter_again : (go : Leads m l g entered_sight r [] (epochs.EnterAgain r ∷ []))
        → IsWholeAfter m l (states_of g s) (led m l g r [] go.passes (epochs.EnterAgain r ∷ []) g.publications) entered_sight
    enter_again go =
        let reads = ap (λ o. (after_by m l kinds.EnterAgain p o (s.word x.0)).reads) none in
        let kept = ap (λ o. (after_by m l kinds.EnterAgain p o (s.word x.0)).published) none in
        let one = step_stands m laws l limits (states_of g s) (made_of s) (made_of s) (steps.Enter r) go.enabled_slots.0 tt tt
        (hands_of m laws l limits g.epochs s whole.slots) (λ i. refl) (stands_now m laws l limits g s whole) in
        let two = agreement_stands m laws l limits (replicate go.passes (agreement.Pass r))
        (steps.after m l c (states_of g s) (steps.Enter r)) (made_of s)
        (passes_are is_calm (agreement.Pass r) refl go.passes) go.enabled (hands_of m laws l limits g.epochs s whole.slots) one in
        onward_whole m laws l limits g s entered_sight whole (replicate go.passes (agreement.Pass r))
        (passes_are is_still (agreement.Pass r) refl go.passes) go.joined
        (epochs.after c g.epochs (epochs.EnterAgain r)) go.joined_slots
        (λ d. refl)
        (published_after m l s.part r entered_part kept)
        (thunks_after m l s r kinds.EnterAgain x (outside_leaves m l rs r p x kinds.EnterAgain refl
        (outside_asked m l rs g s entered_sight r kinds.EnterAgain x none asked)))
        (upd (λ i. (s.part i).reads.walk) r [])
        (upd_split s.part r entered_part (λ i y. y.reads.walk ≡ upd (λ i. (s.part i).reads.walk) r [] i)
        (ap (λ (y : ReadsState). y.walk) reads ∙ sym (upd_same (λ i. (s.part i).reads.walk) r r [] refl))
        (λ i ne. sym (upd_other (λ i. (s.part i).reads.walk) r i [] ne)))
        (made_outside m l s r kinds.EnterAgain x refl none) two go.logs

    pub enter_again_whole : (pieces : Pieces m l g s entered_sight r kinds.EnterAgain x)
        → KeepsWhole m l g s entered_sight r kinds.EnterAgain x pieces
    enter_again_whole pieces = keeps_by m l g s entered_sight r kinds.EnterAgain x pieces [] (epochs.EnterAgain r ∷ [])
        (outside_heads m l rs g s entered_sight r kinds.EnterAgain x none pieces)
        (outside_events m l rs g s entered_sight r kinds.EnterAgain x none pieces)
        g.publications refl (no_hold m l kinds.EnterAgain (s.word x.0) refl) refl enter_again

  -- a runner that leaves has no section that isn't retired
  module _ (asked : asks m l rs r kinds.Idle p ≡ Some x) (none : p.run ≡ None) where
    abbrev left_sight : Sight
    left_sight = sight_after m l s r kinds.Idle x

    unowned : (d : ℕ) → g.agreement.live d ≡ true → g.publications.runner d ≢ r
    unowned d live same =
        let there = whole.tied.publisher d live in
        let gone = (idle_away r p x (outside_asked m l rs g s left_sight r kinds.Idle x none asked)).0 in
        let both = sym gone ∙ (ap (λ i. (s.part i).published) (sym same) ∙ there.1) in cc

    open_live : (d : ℕ) → IsOpen g.agreement d → g.agreement.live d ≡ true
    open_live d undone = (whole.sections.sound.sections d undone.used).open_live undone.undone

    leave : (go : Leads m l g left_sight r [] (epochs.Exit r ∷ []))
        → IsWholeAfter m l (states_of g s) (led m l g r [] go.passes (epochs.Exit r ∷ []) g.publications) left_sight
    leave go =
        let quiet = outside_quiet m l s r kinds.Idle x none refl refl in
        let one = step_stands m laws l limits (states_of g s) (made_of s) (made_of s) (steps.Leave r)
        (go.enabled_slots.0, λ d undone. unowned d (open_live d undone)) unowned tt
        (hands_of m laws l limits g.epochs s whole.slots) (λ i. refl) (stands_now m laws l limits g s whole) in
        let two = agreement_stands m laws l limits (replicate go.passes (agreement.Pass r))
        (steps.after m l c (states_of g s) (steps.Leave r)) (made_of s)
        (passes_are is_calm (agreement.Pass r) refl go.passes) go.enabled (hands_of m laws l limits g.epochs s whole.slots) one in
        onward_whole m laws l limits g s left_sight whole (replicate go.passes (agreement.Pass r))
        (passes_are is_still (agreement.Pass r) refl go.passes) go.joined
        (epochs.after c g.epochs (epochs.Exit r)) go.joined_slots
        (λ d. refl) quiet.stay.published
        (thunks_after m l s r kinds.Idle x (outside_leaves m l rs r p x kinds.Idle refl
        (outside_asked m l rs g s left_sight r kinds.Idle x none asked)))
        (λ i. (s.part i).reads.walk) quiet.stay.walk quiet.made two go.logs

    pub idle_whole : (pieces : Pieces m l g s left_sight r kinds.Idle x) → KeepsWhole m l g s left_sight r kinds.Idle x pieces
    idle_whole pieces = keeps_by m l g s left_sight r kinds.Idle x pieces [] (epochs.Exit r ∷ [])
        (outside_heads m l rs g s left_sight r kinds.Idle x none pieces) (outside_events m l rs g s left_sight r kinds.Idle x none pieces)
        g.publications refl (no_hold m l kinds.Idle (s.word x.0) refl) refl leave
