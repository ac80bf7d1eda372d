-- The load of the epoch for a Retire, and a Retire's commit, keep the whole invariant.
use Rattle.std.specs.Prelude.{cond, true, slice_index_or, replicate, All}
use Rattle.std.proofs.Common.{◌≡◌, ℕ, ◌≤◌, List, [], ◌∷◌, length, sym, refl, ap, ◌∙◌, subst, Some}
use Rattle.machine_states.specs.map_history.specs.declared.op.Request.{Request}
use Rattle.machine_states.specs.body_terms.specs.declared.micro.Micro.{Micro}
use Rattle.machine_states.specs.body_terms.specs.declared.micro.Micro.TheVariants as micros
use Rattle.machine_states.specs.body_terms.specs.Line.{micro_at, is_event, ending}
use Rattle.machine_states.specs.table_words.specs.declared.layout.Layout.{Layout}
use Rattle.machine_states.specs.table_words.specs.declared.spot.Spot.{Spot}
use Rattle.machine_states.specs.table_words.specs.declared.access.Access.{Access}
use Rattle.machine_states.specs.table_words.specs.Limits.{IsWithinLimits}
use Rattle.machine_states.specs.structure_laws.specs.Meaning.{Meaning}
use Rattle.machine_states.specs.structure_laws.specs.Laws.{Laws}
use Rattle.machine_states.specs.structure_laws.specs.Sections.{IsAllowed}
use Rattle.machine_states.specs.runner_parts.specs.declared.event.EventKind.TheVariants as kinds
use Rattle.machine_states.specs.runner_parts.specs.State.{RunState}
use Rattle.machine_states.specs.runner_steps.specs.Sections.{thunk_of, is_open_run, line_of, next_of, setting_of}
use Rattle.machine_states.specs.runner_steps.specs.AfterInRun.{goes_on}
use Rattle.machine_states.specs.runner_steps.specs.Asks.{asks}
use Rattle.agreement_core.specs.Events as agreement
use Rattle.machine_states.specs.epoch_core.specs.State.{Counts, Retiring}
use Rattle.machine_states.specs.epoch_core.specs.Events as epochs
use Rattle.machine_states.specs.Sight.{Sight, sight_after}
use Rattle.machine_blocks.specs.machine_guards.specs.machine_agreement.specs.machine_epochs.specs.Entries.{counts_of}
use Rattle.machine_blocks.specs.machine_guards.specs.machine_agreement.specs.machine_epochs.specs.Slots.{retire_before, retiring_of}
use Rattle.machine_blocks.specs.machine_guards.specs.machine_agreement.specs.machine_epochs.proofs.RunPlaces.{next_in_line, open_run, retire_next}
use Rattle.machine_blocks.specs.machine_guards.specs.machine_agreement.specs.machine_scenes.specs.Shown.{States}
use Rattle.machine_blocks.specs.machine_guards.specs.machine_agreement.specs.machine_scenes.specs.Steps.{LoadEpoch, Retire, MayLoadEpoch, MayRetire}
use Rattle.machine_blocks.specs.machine_guards.specs.machine_agreement.specs.machine_scenes.specs.Steps as steps
use Rattle.machine_blocks.specs.machine_guards.specs.machine_agreement.specs.Joined.{IsRunOf}
use Rattle.machine_blocks.specs.machine_guards.specs.machine_agreement.proofs.RunPlaces.{run_here, before}
use Rattle.machine_invariant.specs.Whole.{Beside, states_of, made_of, IsWhole}
use Rattle.machine_invariant.proofs.Asked.{line_heads, line_events}
use Rattle.machine_invariant.proofs.Runs.{InHands, Stands, is_calm, agreement_stands, passes_are, step_stands}
use Rattle.machine_invariant.proofs.Quiet.{hands_of, stands_now}
use Rattle.machine_invariant.proofs.Jointly.{no_hold}
use Rattle.machine_invariant.proofs.Pieces.{Pieces, KeepsWhole, Leads, led, keeps_by}
use Rattle.machine_invariant.proofs.SlotSteps.{run_after, made_same, stays_read, thunks_stay, passes_stand, line_whole}

one_retire : (t t' k k' : ℕ) (x : Micro) → x ≡ micros.EpochForRetire t k → x ≡ micros.EpochForRetire t' k' → (t ≡ t') × (k ≡ k')
one_retire t t' k k' x e e' = (cc, cc)

module _ (m : Meaning) (laws : Laws m) (l : Layout) (limits : IsWithinLimits l) (rs : List Request) (few : length rs ≤ 131072)
    (allowed : All (λ (q : Request). IsAllowed q.op) rs) (g : Beside) (s : Sight) (whole : IsWhole m l g s) (r : ℕ)
    (x : Spot × Access) where
  abbrev c : Counts
  c = counts_of m l

  -- a Retire is committed
  module _ (asked : asks m l rs r kinds.RetireCommit (s.part r) ≡ Some x) (q : RunState) (is : (s.part r).run ≡ Some q)
      (opened : is_open_run q ≡ true) where
    abbrev retired : Sight
    retired = sight_after m l s r kinds.RetireCommit x

    retire_stands : (slot log : ℕ) → next_of m q ≡ micros.RetireCommit slot log
        → (go : Leads m l g retired r (agreement.RetireCommit r slot log ∷ []) (epochs.RetireCommit r ∷ []))
        → Stands m laws l limits (states_of g s) (record (states_of g s) {
          agreement = (led m l g r (agreement.RetireCommit r slot log ∷ []) go.passes
              (epochs.RetireCommit r ∷ []) g.publications).agreement;
          epochs = (led m l g r (agreement.RetireCommit r slot log ∷ []) go.passes (epochs.RetireCommit r ∷ []) g.publications).epochs;
        }) (made_of retired)
    retire_stands slot log next go =
        let d = (g.agreement.run r).descriptor in
        let e = epochs.after c g.epochs (epochs.RetireCommit r) in
        let at : g.epochs.retire r ≡ retire_before q (micros.RetireCommit slot log) = (whole.slots.tied r).retire
        ∙ (ap (retiring_of m) is ∙ ap (retire_before q) (next_in_line m q (micros.RetireCommit slot log) refl next)) in
        let may : MayRetire m l c (states_of g s) r log slot = record {
          enabled = go.enabled.0;
          loaded = ap (λ (y : Retiring). y.loaded) at;
          descriptor = ap (λ (y : Retiring). y.descriptor) at ∙ sym (run_here m l g.agreement s whole.sections r q is).descriptor;
          index = ap (λ (y : Retiring). y.index) at;
          slot = ap (λ (y : Retiring). y.slot) at;
          word = whole.logs.stands.same d log;
        } in
        passes_stand m laws l limits r go.passes (steps.after m l c (states_of g s) (Retire r log slot)) (made_of retired) go.enabled.1
        (hands_of m laws l limits e retired go.joined_slots)
        (step_stands m laws l limits (states_of g s) (made_of s) (made_of retired) (Retire r log slot) may tt tt
        (hands_of m laws l limits g.epochs s whole.slots) (made_same m l s r kinds.RetireCommit x refl q is opened refl)
        (stands_now m laws l limits g s whole))

    pub retire_commit_whole : (pieces : Pieces m l g s retired r kinds.RetireCommit x)
        → KeepsWhole m l g s retired r kinds.RetireCommit x pieces
    retire_commit_whole pieces =
        let heads = line_heads m l r kinds.RetireCommit (s.part r) q is opened (s.word x.0) g.agreement pieces.heads pieces.in_sections in
        let events = line_events m l r kinds.RetireCommit (s.part r) q is opened (s.word x.0) pieces.events pieces.in_slots in
        let v : agreement.Event = agreement.RetireCommit r heads.0 heads.1 in
        let stay = stays_read m l s r kinds.RetireCommit x refl q is opened refl in
        let thunks = thunks_stay m l s r kinds.RetireCommit x refl q is opened rs asked in
        keeps_by m l g s retired r kinds.RetireCommit x pieces (v ∷ []) (epochs.RetireCommit r ∷ []) heads.3 events.3 g.publications refl
        (no_hold m l kinds.RetireCommit (s.word x.0) refl) refl
        (λ go. line_whole m laws l limits g s retired whole stay thunks r v (epochs.RetireCommit r ∷ []) go
        (record { used = refl; live = refl }) (refl, tt)
        (retire_stands heads.0 heads.1 heads.2 go))

  -- the epoch for a Retire is loaded
  module _ (asked : asks m l rs r kinds.EpochForRetire (s.part r) ≡ Some x) (q : RunState) (is : (s.part r).run ≡ Some q)
      (opened : is_open_run q ≡ true) where
    abbrev known : Sight
    known = sight_after m l s r kinds.EpochForRetire x

    abbrev loads : ℕ → ℕ → agreement.Event
    loads slot log = agreement.EpochForRetire r slot log (s.word x.0)

    abbrev retires : ℕ → ℕ → epochs.Event
    retires slot log = epochs.RetireEpoch r q.descriptor log slot

    -- the run behind the load stands before the Retire's commit
    abbrev behind : RunState
    behind = goes_on m l q (s.word x.0)

    behind_next : (slot log : ℕ) → next_of m q ≡ micros.EpochForRetire slot log → next_of m behind ≡ micros.RetireCommit slot log
    behind_next slot log next =
        let t = thunk_of q.opened in
        let here : micro_at (line_of m q) behind.at ≡ micros.RetireCommit slot log =
        retire_next (m.body t) (setting_of l q.descriptor) q.trail q.at slot log
        (next_in_line m q (micros.EpochForRetire slot log) refl next) in
        ap (λ (μ : Micro). cond (is_event μ) μ (slice_index_or (ending (line_of m q) behind.at t.lock t.word) q.ended micros.End)) here

    epoch_stands : (slot log : ℕ) → next_of m q ≡ micros.EpochForRetire slot log
        → (go : Leads m l g known r (loads slot log ∷ []) (retires slot log ∷ []))
        → Stands m laws l limits (states_of g s) (record (states_of g s) {
          agreement = (led m l g r (loads slot log ∷ []) go.passes (retires slot log ∷ []) g.publications).agreement;
          epochs = (led m l g r (loads slot log ∷ []) go.passes (retires slot log ∷ []) g.publications).epochs;
        }) (made_of known)
    epoch_stands slot log next go =
        let w = (led m l g r (loads slot log ∷ []) go.passes (retires slot log ∷ []) g.publications).agreement in
        let j : States = record (states_of g s) { agreement = w } in
        let hands : InHands m laws l limits g.epochs (made_of s) = hands_of m laws l limits g.epochs s whole.slots in
        let is' : (known.part r).run ≡ Some behind = run_after m l s r kinds.EpochForRetire x refl q is opened in
        let here : IsRunOf (w.run r) behind = run_here m l w known go.joined r behind is' in
        let gone : Stands m laws l limits (states_of g s) j (made_of s) = agreement_stands m laws l limits
        (loads slot log ∷ replicate go.passes (agreement.Pass r))
        (states_of g s) (made_of s) (refl, passes_are is_calm (agreement.Pass r) refl go.passes) go.enabled hands
        (stands_now m laws l limits g s whole) in
        let may : MayLoadEpoch m l c j r log slot = record {
          enabled = subst (λ d. epochs.Enabled c g.epochs (epochs.RetireEpoch r d log slot)) (sym here.descriptor) go.enabled_slots.0;
          before = before m l w known go.joined r behind is' (open_run q opened) (micros.RetireCommit slot log) refl refl
              (behind_next slot log next);
          word = go.logs.stands.same ((w.run r).descriptor) log;
        } in
        subst (λ d. Stands m laws l limits (states_of g s) (record j { epochs = epochs.after c g.epochs (epochs.RetireEpoch r d log slot) })
        (made_of known)) here.descriptor
        (step_stands m laws l limits j (made_of s) (made_of known) (LoadEpoch r log slot) may tt tt hands
        (made_same m l s r kinds.EpochForRetire x refl q is opened refl) gone)

    pub epoch_for_retire_whole : (pieces : Pieces m l g s known r kinds.EpochForRetire x)
        → KeepsWhole m l g s known r kinds.EpochForRetire x pieces
    epoch_for_retire_whole pieces =
        let heads = line_heads m l r kinds.EpochForRetire (s.part r) q is opened (s.word x.0) g.agreement pieces.heads pieces.in_sections in
        let events = line_events m l r kinds.EpochForRetire (s.part r) q is opened (s.word x.0) pieces.events pieces.in_slots in
        let slot = heads.0 in
        let log = heads.1 in
        let same = one_retire events.0 slot events.1 log (next_of m q) events.2 heads.2 in
        let retired : pieces.events ≡ retires slot log ∷ [] = events.3
        ∙ (ap (λ t. epochs.RetireEpoch r q.descriptor events.1 t ∷ []) same.0
        ∙ ap (λ k. epochs.RetireEpoch r q.descriptor k slot ∷ []) same.1) in
        let stay = stays_read m l s r kinds.EpochForRetire x refl q is opened refl in
        let thunks = thunks_stay m l s r kinds.EpochForRetire x refl q is opened rs asked in
        keeps_by m l g s known r kinds.EpochForRetire x pieces (loads slot log ∷ []) (retires slot log ∷ []) heads.3 retired g.publications refl
        (no_hold m l kinds.EpochForRetire (s.word x.0) refl) refl
        (λ go. line_whole m laws l limits g s known whole stay thunks r (loads slot log) (retires slot log ∷ []) go
        (record { used = refl; live = refl }) (refl, tt)
        (epoch_stands slot log heads.2 go))
