-- A runner that reads a cell outside its runs keeps the whole invariant.
use Rattle.std.specs.Prelude.{replicate, true, All}
use Rattle.std.proofs.Common.{◌≡◌, ℕ, ◌≤◌, List, [], ◌∷◌, ◌++◌, length, sym, refl, ap, ◌∙◌, Some, None}
use Rattle.machine_states.specs.map_history.specs.declared.op.Request.{Request}
use Rattle.machine_states.specs.table_words.specs.declared.layout.Layout.{Layout}
use Rattle.machine_states.specs.table_words.specs.declared.spot.Spot.{Spot}
use Rattle.machine_states.specs.table_words.specs.declared.access.Access.{Access}
use Rattle.machine_states.specs.table_words.specs.Limits.{IsWithinLimits}
use Rattle.machine_states.specs.table_words.specs.Seen.{upd}
use Rattle.machine_states.specs.structure_laws.specs.Meaning.{Meaning}
use Rattle.machine_states.specs.structure_laws.specs.Laws.{Laws}
use Rattle.machine_states.specs.structure_laws.specs.Sections.{IsAllowed}
use Rattle.machine_states.specs.structure_laws.proofs.Changes.{upd_same, upd_other}
use Rattle.machine_states.specs.runner_parts.specs.declared.event.EventKind.{EventKind}
use Rattle.machine_states.specs.runner_parts.specs.declared.event.EventKind.TheVariants as kinds
use Rattle.machine_states.specs.runner_parts.specs.State.{PartState}
use Rattle.machine_states.specs.runner_parts.specs.Tests.{is_readable}
use Rattle.machine_states.specs.runner_steps.specs.Outside.{read_ask}
use Rattle.machine_states.specs.runner_steps.specs.Asks.{asks}
use Rattle.machine_states.specs.runner_steps.specs.After.{after_by, after}
use Rattle.agreement_core.specs.Events as agreement
use Rattle.machine_states.specs.epoch_core.specs.State.{Counts}
use Rattle.machine_states.specs.epoch_core.specs.Events as epochs
use Rattle.machine_states.specs.epoch_core.specs.Events.{Event}
use Rattle.machine_states.specs.Sight.{Sight, sight_after}
use Rattle.machine_states.proofs.Updates.{upd_split}
use Rattle.machine_states.proofs.Sights.{if_some}
use Rattle.machine_blocks.specs.machine_guards.specs.machine_agreement.specs.machine_epochs.specs.Entries.{counts_of}
use Rattle.machine_blocks.specs.machine_guards.specs.machine_agreement.specs.machine_epochs.specs.Supplied.{comes_outside}
use Rattle.machine_blocks.specs.machine_guards.specs.machine_agreement.specs.machine_epochs.proofs.OutsideAsked as outside
use Rattle.machine_blocks.specs.machine_guards.specs.machine_agreement.specs.machine_scenes.specs.Steps as steps
use Rattle.machine_invariant.specs.Whole.{Beside, states_of, made_of, IsWhole}
use Rattle.machine_invariant.proofs.Basics.{both}
use Rattle.machine_invariant.proofs.Asked.{entered_at}
use Rattle.machine_invariant.proofs.Runs.{is_calm, step_stands, agreement_stands, epochs_stand, passes_are}
use Rattle.machine_invariant.proofs.Quiet.{is_still, hands_of, all_stay, stands_now}
use Rattle.machine_invariant.proofs.Thunks.{outside_leaves}
use Rattle.machine_invariant.proofs.Sights.{thunks_after}
use Rattle.machine_invariant.proofs.SuppliesSlots.{loadable_by, HoldsMet}
use Rattle.machine_invariant.proofs.Jointly.{IsWholeAfter, no_hold}
use Rattle.machine_invariant.proofs.Pieces.{Pieces, KeepsWhole, Leads, led, keeps_by}
use Rattle.machine_invariant.proofs.Outside.{outside_asked, outside_heads, outside_events, made_outside, published_after, onward_whole}

-- what is read may be read
readable : (m : Meaning) (place : ℕ) (p : PartState) (x : Spot × Access) → read_ask m place p ≡ Some x
    → is_readable m p.reads.walk place ≡ true
readable m place p x e = (both _ _ (if_some _ _ x e).0).1

module _ (m : Meaning) (laws : Laws m) (l : Layout) (limits : IsWithinLimits l) (rs : List Request) (few : length rs ≤ 131072)
    (allowed : All (λ (q : Request). IsAllowed q.op) rs) (g : Beside) (s : Sight) (whole : IsWhole m l g s) (r : ℕ)
    (x : Spot × Access) where
  abbrev p : PartState
  p = s.part r

  abbrev c : Counts
  c = counts_of m l

  -- who reads a cell holds what it meets there
  module _ (place : ℕ) (asked : asks m l rs r (kinds.LoadCell (Some place)) p ≡ Some x) (none : p.run ≡ None)
      (met : HoldsMet m l g s r (kinds.LoadCell (Some place))) where
    abbrev kind : EventKind
    kind = kinds.LoadCell (Some place)

    abbrev read_sight : Sight
    read_sight = sight_after m l s r kind x

    abbrev read_part : PartState
    read_part = after m l r kind x.0 x.1 p (s.word x.0)

    abbrev reach : List Event
    reach = epochs.Reach r (comes_outside m c kind p (s.word x.0)) ∷ []

    reads : read_ask m place p ≡ Some x
    reads = outside_asked m l rs g s read_sight r kind x none asked

    may_read : steps.MayRead m l c (states_of g s) r place
    may_read = record {
      entered = let h = outside.read_asked m place p x reads in entered_at m l g.epochs s whole.slots r h.0 h.1;
      loadable = loadable_by m p.reads.walk place (readable m place p x reads);
      holds = λ t low by. met place t refl low by;
    }

    -- the readings go on with the word that stood there
    found_is : s.word x.0 ≡ g.agreement.shared.cells place
    found_is = let h = outside.read_asked m place p x reads in
        ap (λ (y : Spot × Access). s.word y.0) (sym h.2) ∙ sym (whole.sections.words.cells place)

    walked : read_part.reads.walk ≡ p.reads.walk ++ (place, g.agreement.shared.cells place) ∷ []
    walked = ap (λ o. (after_by m l kind p o (s.word x.0)).reads.walk) none ∙ ap (λ n. p.reads.walk ++ (place, n) ∷ []) found_is

    load_cell : (go : Leads m l g read_sight r (agreement.Read place ∷ []) reach)
        → IsWholeAfter m l (states_of g s) (led m l g r (agreement.Read place ∷ []) go.passes reach g.publications) read_sight
    load_cell go =
        let passes = replicate go.passes (agreement.Pass r) in
        let one = step_stands m laws l limits (states_of g s) (made_of s) (made_of s) (steps.Read r place) may_read tt tt
        (hands_of m laws l limits g.epochs s whole.slots) (λ i. refl) (stands_now m laws l limits g s whole) in
        let two = agreement_stands m laws l limits (agreement.Read place ∷ passes)
        (steps.after m l c (states_of g s) (steps.Read r place)) (made_of s)
        (refl, passes_are is_calm (agreement.Pass r) refl go.passes) go.enabled (hands_of m laws l limits g.epochs s whole.slots) one in
        let three = epochs_stand m laws l limits reach _ (made_of s) (refl, tt) go.enabled_slots two in
        onward_whole m laws l limits g s read_sight whole (agreement.Read place ∷ passes)
        (refl, passes_are is_still (agreement.Pass r) refl go.passes) go.joined
        _ go.joined_slots
        (all_stay c reach g.epochs go.enabled_slots whole.slots.sound (refl, tt))
        (published_after m l s.part r read_part (ap (λ o. (after_by m l kind p o (s.word x.0)).published) none))
        (thunks_after m l s r kind x (outside_leaves m l rs r p x kind refl reads))
        (upd (λ i. (s.part i).reads.walk) r (p.reads.walk ++ (place, g.agreement.shared.cells place) ∷ []))
        (upd_split s.part r read_part
        (λ i y. y.reads.walk ≡ upd (λ i. (s.part i).reads.walk) r (p.reads.walk ++ (place, g.agreement.shared.cells place) ∷ []) i)
        (walked ∙ sym (upd_same (λ i. (s.part i).reads.walk) r r _ refl)) (λ i ne. sym (upd_other (λ i. (s.part i).reads.walk) r i _ ne)))
        (made_outside m l s r kind x refl none) three go.logs

    pub load_cell_whole : (pieces : Pieces m l g s read_sight r kind x) → KeepsWhole m l g s read_sight r kind x pieces
    load_cell_whole pieces = keeps_by m l g s read_sight r kind x pieces (agreement.Read place ∷ []) reach
        (outside_heads m l rs g s read_sight r kind x none pieces) (outside_events m l rs g s read_sight r kind x none pieces)
        g.publications refl (no_hold m l kind (s.word x.0) refl) refl load_cell
