-- What a step leaves of a runner's run, and of what it has published.
use Rattle.std.specs.Prelude.{◌==◌, ◌&&◌, ◌⊎◌, not, nat_lt, nat_le, Bool, true, false, if◌then◌else◌, ◌-◌}
use Rattle.std.proofs.Common.{◌≡◌, ℕ, ◌+◌, List, [], ◌∷◌, ◌++◌, length, refl, sym, ap, ◌∙◌, inl, inr, Option, Some, None}
use Rattle.machine_states.specs.body_terms.specs.Line.{is_end}
use Rattle.machine_states.specs.body_terms.specs.Run.{settled, written_once}
use Rattle.machine_states.specs.body_terms.specs.declared.micro.Micro.{Micro}
use Rattle.machine_states.specs.body_terms.specs.declared.micro.Micro.TheVariants as micros
use Rattle.machine_states.specs.table_words.specs.declared.layout.Layout.{Layout}
use Rattle.machine_states.specs.table_words.specs.declared.spot.Spot.{Spot}
use Rattle.machine_states.specs.table_words.specs.declared.spot.Spot.TheVariants as spots
use Rattle.machine_states.specs.table_words.specs.declared.access.Access.{Access}
use Rattle.machine_states.specs.table_words.specs.declared.access.Access.TheVariants.{Loads}
use Rattle.machine_states.specs.table_words.specs.Places.{slot_count}
use Rattle.machine_states.specs.structure_laws.specs.Meaning.{Meaning}
use Rattle.machine_states.specs.epoch_core.specs.Moves.{is_clear}
use Rattle.machine_states.specs.epoch_core.specs.declared.stage.Stage.{Stage}
use Rattle.machine_states.specs.epoch_core.specs.declared.stage.Stage.TheVariants as stages
use Rattle.machine_states.specs.runner_parts.specs.declared.event.EventKind.{EventKind}
use Rattle.machine_states.specs.runner_parts.specs.declared.event.EventKind.TheVariants as kinds
use Rattle.machine_states.specs.runner_parts.specs.State.{RunState, PartState}
use Rattle.machine_states.specs.runner_steps.specs.Sections.{line_of, next_of, setting_of, needs_link}
use Rattle.machine_states.specs.epoch_core.specs.State.{last_epoch}
use Rattle.machine_states.specs.runner_steps.specs.Asks.{line_ask}
use Rattle.machine_states.specs.runner_steps.specs.After.{line_after, outside_after}
use Rattle.machine_states.specs.runner_steps.specs.InRun.{last_clock}
use Rattle.machine_states.specs.runner_steps.specs.AfterInRun as inside
use Rattle.machine_states.specs.runner_steps.specs.AfterOutside as outside
use Rattle.machine_states.proofs.Sights.{some_none}
use Rattle.machine_states.proofs.Steps.{some_same}
use Rattle.machine_states.specs.runner_steps.specs.Outside.{blocks_from}

-- a load of a lock's word for a Take
abbrev pub loads_lock : EventKind → Bool
loads_lock kinds.NestedLoad = true
loads_lock kinds.OutcomeLoad = true
loads_lock _ = false

-- a run that stands before the load of a lock loads it
pub nested_kind : (m : Meaning) (l : Layout) (free blocks : List ℕ) (q : RunState) (x : Spot × Access) (p k : ℕ) (kind : EventKind)
    → line_ask m l kind free blocks q (micros.NestedLoad p k) ≡ Some x → (kind ≡ kinds.NestedLoad) × ((spots.Cell p, Loads) ≡ x)
nested_kind m l free blocks q x p k kinds.NestedLoad e = (refl, some_same _ _ e)
nested_kind m l free blocks q x p k (kinds.LoadCell None) e = some_none x e
nested_kind m l free blocks q x p k (kinds.LoadCell (Some place)) e = some_none x e
nested_kind m l free blocks q x p k _ e = some_none x e

pub outcome_kind : (m : Meaning) (l : Layout) (free blocks : List ℕ) (q : RunState) (x : Spot × Access) (p k : ℕ) (kind : EventKind)
    → line_ask m l kind free blocks q (micros.OutcomeLoad p k) ≡ Some x → (kind ≡ kinds.OutcomeLoad) × ((spots.Cell p, Loads) ≡ x)
outcome_kind m l free blocks q x p k kinds.OutcomeLoad e = (refl, some_same _ _ e)
outcome_kind m l free blocks q x p k (kinds.LoadCell None) e = some_none x e
outcome_kind m l free blocks q x p k (kinds.LoadCell (Some place)) e = some_none x e
outcome_kind m l free blocks q x p k _ e = some_none x e

module _ (m : Meaning) (l : Layout) (y : PartState) (found : ℕ) (kind : EventKind) where
  -- the run after a step of a run that has loaded its words
  module _ (q : RunState) where
    pub record Goes (q' : RunState) : Type 0 where
      pub opened : q'.opened ≡ q.opened
      pub descriptor : q'.descriptor ≡ q.descriptor
      -- it stays at its place with its number, or it rests behind the step
      pub at : ((q'.at ≡ q.at) × (q'.word ≡ q.word))
          ⊎ ((trail : List ℕ) × (q'.at ≡ settled (setting_of l q.descriptor) trail (line_of m q) (q.at + 1)) × (loads_lock kind ≡ true → q'.word ≡ found))

    pub record Runs (z : PartState) : Type 0 where
      pub run : (z.run ≡ None) ⊎ ((q' : RunState) × (z.run ≡ Some q') × Goes q')

    waits : (z : PartState) (q' : RunState) → z.run ≡ Some q' → q'.opened ≡ q.opened → q'.descriptor ≡ q.descriptor → q'.at ≡ q.at → q'.word ≡ q.word → Runs z
    waits z q' is opened descriptor at word = record { run = inr (q', is, record { opened = opened; descriptor = descriptor; at = inl (at, word) }) }

    rests : (z : PartState) (q' : RunState) (trail : List ℕ) → z.run ≡ Some q' → q'.opened ≡ q.opened → q'.descriptor ≡ q.descriptor
        → q'.at ≡ settled (setting_of l q.descriptor) trail (line_of m q) (q.at + 1) → (loads_lock kind ≡ true → q'.word ≡ found) → Runs z
    rests z q' trail is opened descriptor at word = record { run = inr (q', is, record { opened = opened; descriptor = descriptor; at = inr (trail, at, word) }) }

    either : (b : Bool) (z z' : PartState) → Runs z → Runs z' → Runs (if b then z else z')
    either true z z' one two = one
    either false z z' one two = two

    no_load : {A : Type 0} {kind' : EventKind} → kind ≡ kind' → loads_lock kind' ≡ false → loads_lock kind ≡ true → A
    no_load same none e = absurd (let z = sym e ∙ (ap loads_lock same ∙ none) in cc)

    module _ (runs : y.run ≡ Some q) where
      as_is : Runs y
      as_is = waits y q runs refl refl refl refl

      fill : (slot : ℕ) (made : Option ℕ) → (loads_lock kind ≡ true → ⊥) → Runs (inside.fill_loaded m l slot y q made found)
      fill slot None other = rests _ _ q.trail refl refl refl refl (λ e. absurd (other e))
      fill slot (Some t) other = rests _ _ q.trail refl refl refl refl (λ e. absurd (other e))

      make : (made : Option ℕ) → (loads_lock kind ≡ true → ⊥) → Runs (inside.make_committed m l y q made found)
      make None other = as_is
      make (Some t) other = rests _ _ (q.trail ++ written_once found (t + 1) ∷ []) refl refl refl refl (λ e. absurd (other e))

      released : (place : ℕ) → Runs (inside.lock_released m l place y q found)
      released place = either (is_end (next_of m (inside.ended_more q))) _ _ (record { run = inl refl }) (waits _ _ refl refl refl refl refl)

      pub line_runs : (kind' : EventKind) → kind ≡ kind' → (micro : Micro) → Runs (line_after m l kind' y q micro found)
      line_runs kinds.Commit of_kind micro = rests _ _ (q.trail ++ written_once found q.word ∷ []) refl refl refl refl (no_load of_kind refl)
      line_runs (kinds.LoadCell place) of_kind micro = rests _ _ q.trail refl refl refl refl (no_load of_kind refl)
      line_runs kinds.ExchangeCell of_kind micro = rests _ _ q.trail refl refl refl refl (no_load of_kind refl)
      line_runs (kinds.PrivateLoad slot word) of_kind micro = fill slot q.made (no_load of_kind refl)
      line_runs (kinds.PrivateStore slot word number) of_kind micro = by (needs_link q micro)
        where
          by : (b : Bool) → Runs (inside.with_run y (if b then inside.block_emptied (slot - blocks_from m l) q else inside.filled m l number q))
          by true = waits _ _ refl refl refl refl refl
          by false = rests _ _ q.trail refl refl refl refl (no_load of_kind refl)
      line_runs (kinds.LinkCommit b) of_kind micro = waits _ _ refl refl refl refl refl
      line_runs kinds.MakeCommit of_kind micro = make q.made (no_load of_kind refl)
      line_runs kinds.RetireCommit of_kind micro = rests _ _ (q.trail ++ written_once found (inside.retired_slot_of micro + 1) ∷ []) refl refl refl refl (no_load of_kind refl)
      line_runs kinds.EpochForRetire of_kind micro = rests _ _ q.trail refl refl refl refl (no_load of_kind refl)
      line_runs kinds.SetDone of_kind micro = waits _ _ refl refl refl refl refl
      line_runs kinds.Release of_kind micro = released (inside.place_of micro)
      line_runs kinds.ClockLoad of_kind micro = rests _ _ q.trail refl refl refl refl (no_load of_kind refl)
      line_runs kinds.StampExchange of_kind micro = either (nat_lt q.word last_clock) _ _
          (rests _ _ q.trail refl refl refl refl (no_load of_kind refl)) as_is
      line_runs kinds.ClockRaise of_kind micro = rests _ _ q.trail refl refl refl refl (no_load of_kind refl)
      line_runs kinds.ReplyExchange of_kind micro = rests _ _ q.trail refl refl refl refl (no_load of_kind refl)
      line_runs kinds.NestedLoad of_kind micro = rests _ _ q.trail refl refl refl refl (λ e. refl)
      line_runs kinds.NestedHold of_kind micro = rests _ _ q.trail refl refl refl refl (no_load of_kind refl)
      line_runs kinds.OutcomeLoad of_kind micro = rests _ _ q.trail refl refl refl refl (λ e. refl)
      line_runs kinds.OutcomeCommit of_kind micro = rests _ _ (q.trail ++ written_once found q.word ∷ []) refl refl refl refl (no_load of_kind refl)
      line_runs kind' of_kind micro = as_is

  -- a runner in no run is in none behind its step, or has loaded one word
  pub record Begins (z : PartState) : Type 0 where
    pub run : (q' : RunState) → z.run ≡ Some q' → length q'.opened ≡ 1

  module _ (none : y.run ≡ None) where
    still : (z : PartState) → z.run ≡ y.run → Begins z
    still z same = record { run = λ q' is. absurd (let e = sym (same ∙ none) ∙ is in cc) }

    begins_either : (b : Bool) (z z' : PartState) → Begins z → Begins z' → Begins (if b then z else z')
    begins_either true z z' one two = one
    begins_either false z z' one two = two

    scan : (stage : Stage) → Begins (outside.scan_one_after l y stage found)
    scan (stages.Scanning x next clear) = begins_either (nat_le next l.runners) _ _
        (begins_either (next == l.runners && not ((clear && is_clear x found) && nat_lt x last_epoch)) _ _ (still _ refl) (still _ refl)) (still y refl)
    scan _ = still y refl

    advance : (stage : Stage) → Begins (outside.advance_after y stage)
    advance (stages.Scanning x next clear) = begins_either (nat_lt x last_epoch) _ _ (still _ refl) (still y refl)
    advance _ = still y refl

    opens : (d : ℕ) → Begins (outside.open_after d y found)
    opens d = record { run = λ q' is. by q' is }
      where
        by : (q' : RunState) → Some (outside.opened d found) ≡ Some q' → length q'.opened ≡ 1
        by q' is = sym (ap (λ (o : Option RunState). opened_of o) is)
          where
            opened_of : Option RunState → ℕ
            opened_of None = 0
            opened_of (Some q) = length q.opened

    pub outside_runs : (kind' : EventKind) → Begins (outside_after m l kind' y found)
    outside_runs kinds.EnterLoad = still _ refl
    outside_runs kinds.Announce = still _ refl
    outside_runs kinds.EnterAgain = still _ refl
    outside_runs kinds.Idle = still _ refl
    outside_runs kinds.ScanEpoch = still _ refl
    outside_runs (kinds.ScanOne n) = scan y.stage
    outside_runs kinds.Advance = advance y.stage
    outside_runs kinds.Split = begins_either (nat_lt y.records.splits l.runners) _ _ (still _ refl) (still y refl)
    outside_runs (kinds.Join worker) = still _ refl
    outside_runs (kinds.LoadCell (Some place)) = still _ refl
    outside_runs (kinds.LoadEntry request reply) = still _ refl
    outside_runs (kinds.PrivateLoad slot word) = begins_either (nat_lt slot (slot_count l m.fixed_slots)) _ _ (still _ refl) (still _ refl)
    outside_runs (kinds.PrivateStore slot word number) = still _ refl
    outside_runs (kinds.Hold t d) = begins_either (found == t.word) _ _ (still _ refl) (still _ refl)
    outside_runs (kinds.LoadThunk (Some d)) = opens d
    outside_runs kind' = still _ refl
