-- The epoch that a run loaded last for a retirement.
use Rattle.std.proofs.Common.{◌≡◌, ℕ, ◌+◌, ◌<◌, List, length, Bool, true, false, refl, sym, ap, subst, ◌∙◌, arith, Some, None, if◌then◌else◌}
use Rattle.std.specs.Prelude.{cond, slice_index_or}
use Rattle.std.proofs.lemmas.Option.{none-some}
use Rattle.std.proofs.lemmas.Bool.{true≢false}
use Rattle.machine_states.specs.body_terms.specs.declared.micro.Micro.{Micro}
use Rattle.machine_states.specs.body_terms.specs.declared.micro.Micro.TheVariants as micros
use Rattle.machine_states.specs.body_terms.specs.Line.{is_event, line, micro_at, ending}
use Rattle.machine_states.specs.body_terms.specs.Run.{settled}
use Rattle.machine_states.specs.table_words.specs.declared.layout.Layout.{Layout}
use Rattle.machine_states.specs.table_words.specs.declared.spot.Spot.{Spot}
use Rattle.machine_states.specs.table_words.specs.declared.access.Access.{Access}
use Rattle.machine_states.specs.structure_laws.specs.Meaning.{Meaning}
use Rattle.machine_states.specs.runner_parts.specs.declared.event.EventKind.{EventKind}
use Rattle.machine_states.specs.runner_parts.specs.declared.event.EventKind.TheVariants as kinds
use Rattle.machine_states.specs.runner_parts.specs.State.{RunState, PartState}
use Rattle.machine_states.specs.runner_steps.specs.Sections.{is_open_run, next_of, thunk_of, line_of, setting_of}
use Rattle.machine_states.specs.runner_steps.specs.AfterInRun.{ended_more}
use Rattle.machine_invariant.specs.machine_blocks.specs.machine_guards.specs.machine_agreement.specs.machine_epochs.proofs.RunPlaces.{no_retire_next, open_run}
use Rattle.machine_states.proofs.Steps.{some_same}
use Rattle.machine_states.specs.runner_steps.specs.Asks.{line_ask}
use Rattle.version_words.specs.Place.{HasEpoch}

-- the load of the epoch for a retirement
abbrev pub is_epoch : EventKind → Bool
is_epoch kinds.EpochForRetire = true
is_epoch _ = false

module _ (m : Meaning) (l : Layout) (free blocks : List ℕ) (q : RunState) where
  -- where the epoch is to be loaded no other kind of step is asked for
  epoch_asks : (k : EventKind) → is_epoch k ≡ false → (slot log : ℕ) → line_ask m l k free blocks q (micros.EpochForRetire slot log) ≡ None
  epoch_asks kinds.EpochForRetire n slot log = absurd (true≢false n)
  epoch_asks (kinds.LoadCell None) n slot log = refl
  epoch_asks (kinds.LoadCell (Some place)) n slot log = refl
  epoch_asks _ n slot log = refl

  module _ (k : EventKind) (x : Spot × Access) (other : is_epoch k ≡ false) (asked : line_ask m l k free blocks q (next_of m q) ≡ Some x) where
    no_load : (slot log : ℕ) → micro_at (line_of m q) q.at ≡ micros.EpochForRetire slot log → ⊥
    no_load slot log e =
        let t = thunk_of q.opened in
        let there : next_of m q ≡ micros.EpochForRetire slot log = ap (λ (micro : Micro). cond (is_event micro) micro (slice_index_or (ending (line_of m q) q.at t.lock t.word) q.ended micros.End)) e in
        none-some x (sym (ap (line_ask m l k free blocks q) there ∙ epoch_asks k other slot log) ∙ asked)

    module _ (ready : is_open_run q ≡ true) (epoch : ℕ) (q' : RunState) (trail : List ℕ) (same : q'.opened ≡ q.opened)
        (rests : q'.at ≡ settled (setting_of l q.descriptor) trail (line_of m q) (q.at + 1)) where
      -- a run that went on by another step comes to no commit of a retirement
      unretired : (slot log : ℕ) → micro_at (line_of m q') q'.at ≡ micros.RetireCommit slot log → ⊥
      unretired slot log e = no_retire_next (m.body (thunk_of q.opened)) (setting_of l q.descriptor) trail q.at no_load slot log
          (sym (ap (λ (i : ℕ). micro_at (line_of m q) i) rests) ∙ (sym (ap (λ (xs : List ℕ). micro_at (line (m.body (thunk_of xs))) q'.at) same) ∙ e))

      all_loaded : length q'.opened ≡ 13
      all_loaded = ap length same ∙ open_run q ready

      pub goes_epoch : HasEpoch m epoch (Some q')
      goes_epoch = record {
        opening = λ y e few. let is : length y.opened ≡ 13 = ap (λ (z : RunState). length z.opened) (sym (some_same q' y e)) ∙ all_loaded in absurd (omega (arith, is, few));
        retiring = λ y slot log e at. absurd (unretired slot log (ap (λ (z : RunState). micro_at (line_of m z) z.at) (some_same q' y e) ∙ at));
      }

-- a run that loaded this number last
pub loaded_epoch : (m : Meaning) (q : RunState) → HasEpoch m q.word (Some q)
loaded_epoch m q = record { opening = λ y e few. ap (λ (z : RunState). z.word) (some_same q y e); retiring = λ y slot log e at. ap (λ (z : RunState). z.word) (some_same q y e) }

-- at its end a run is where it was
pub ended_epoch : (m : Meaning) (epoch : ℕ) (q : RunState) → HasEpoch m epoch (Some q) → HasEpoch m epoch (Some (ended_more q))
ended_epoch m epoch q was = record {
  opening = λ y e few. was.opening q refl (subst (λ (z : RunState). length z.opened < 13) (sym (some_same (ended_more q) y e)) few) ∙ ap (λ (z : RunState). z.word) (some_same (ended_more q) y e);
  retiring = λ y slot log e at. was.retiring q slot log refl (ap (λ (z : RunState). micro_at (line_of m z) z.at) (some_same (ended_more q) y e) ∙ at) ∙ ap (λ (z : RunState). z.word) (some_same (ended_more q) y e);
}

pub epoch_if : (m : Meaning) (epoch : ℕ) (b : Bool) (p p' : PartState) → HasEpoch m epoch p.run → HasEpoch m epoch p'.run → HasEpoch m epoch (if b then p else p').run
epoch_if m epoch true p p' h h' = h
epoch_if m epoch false p p' h h' = h'
