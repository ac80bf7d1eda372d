-- What a step leaves of the section that a runner has published, where it has published one in its entry.
use Rattle.std.specs.Prelude.{◌==◌, ◌&&◌, ◌⊎◌, not, nat_lt, nat_le, Bool, true, false, if◌then◌else◌}
use Rattle.std.proofs.Common.{◌≡◌, ℕ, [], ◌∷◌, ◌++◌, refl, sym, ◌∙◌, inl, inr, arith, Option, Some, None}
use Rattle.std.proofs.lemmas.Bool.Decides.{nat_tests}
use Rattle.machine_states.specs.body_terms.specs.Line.{is_end}
use Rattle.machine_states.specs.body_terms.specs.declared.micro.Micro.{Micro}
use Rattle.machine_states.specs.body_terms.specs.declared.thunk.Thunk.{Thunk}
use Rattle.machine_states.specs.table_words.specs.declared.layout.Layout.{Layout}
use Rattle.machine_states.specs.table_words.specs.Places.{slot_count}
use Rattle.machine_states.specs.structure_laws.specs.Meaning.{Meaning}
use Rattle.machine_states.specs.epoch_core.specs.Moves.{is_clear}
use Rattle.machine_states.specs.runner_parts.specs.declared.entries.Published.{Published}
use Rattle.machine_states.specs.epoch_core.specs.declared.stage.Stage.{Stage}
use Rattle.machine_states.specs.epoch_core.specs.declared.stage.Stage.TheVariants as stages
use Rattle.machine_states.specs.runner_parts.specs.declared.event.EventKind.{EventKind}
use Rattle.machine_states.specs.runner_parts.specs.declared.event.EventKind.TheVariants as kinds
use Rattle.machine_states.specs.runner_parts.specs.State.{RunState, ReadsState, PartState}
use Rattle.machine_states.specs.runner_parts.specs.Lists.{cell_read, descriptor_taken, published_seen}
use Rattle.machine_states.specs.runner_steps.specs.Sections.{is_open_run, next_of}
use Rattle.machine_states.specs.epoch_core.specs.State.{last_epoch}
use Rattle.machine_states.specs.runner_steps.specs.InRun.{last_clock}
use Rattle.machine_states.specs.runner_steps.specs.AfterInRun as inside
use Rattle.machine_states.specs.runner_steps.specs.AfterOutside as outside
use Rattle.machine_states.specs.runner_steps.specs.After.{line_after, inside_after, outside_after}
use Rattle.machine_states.proofs.Steps.{some_same, none_some}

module _ (m : Meaning) (l : Layout) (y : PartState) (found : ℕ) (kind : EventKind) where
  module _ (reads : ReadsState) (published : Option Published) where
    -- the readings are as before, or one more
    abbrev pub Grows : Type 0
    Grows = (reads.cells ≡ y.reads.cells) ⊎ ((u : ℕ × ℕ) × (reads.cells ≡ y.reads.cells ++ u ∷ []))

    -- what is published was so before
    pub record Had (x' : Published) : Type 0 where
      pub is : y.published ≡ Some x'
      pub grows : Grows

    -- or it is published by the step
    pub record Published' (x' : Published) : Type 0 where
      pub thunk : Thunk
      pub descriptor : ℕ
      pub is : kind ≡ kinds.Hold thunk descriptor
      pub won : found ≡ thunk.word
      pub section : x' ≡ outside.published_by thunk descriptor y
      pub read : reads.cells ≡ y.reads.cells ++ (thunk.lock, found) ∷ []
      pub walk : reads.walk ≡ y.reads.walk

    abbrev pub KeepsBy : Type 0
    KeepsBy = (x' : Published) → published ≡ Some x' → (reads.cells ≡ [] → ⊥) → Had x' ⊎ Published' x'

  pub record Keeps (z : PartState) : Type 0 where
    pub by : KeepsBy z.reads z.published

  as_before : (z : PartState) → z.reads.cells ≡ y.reads.cells → z.published ≡ y.published → Keeps z
  as_before z cells own = record {
    by = λ x' is some. inl (record { is = sym own ∙ is; grows = inl cells });
  }

  -- one more reading
  read_more : (z : PartState) (u : ℕ × ℕ) → z.reads.cells ≡ y.reads.cells ++ u ∷ [] → z.published ≡ y.published → Keeps z
  read_more z u cells own = record {
    by = λ x' is some. inl (record { is = sym own ∙ is; grows = inr (u, cells) });
  }

  either : (b : Bool) (z z' : PartState) → Keeps z → Keeps z' → Keeps (if b then z else z')
  either true z z' one two = one
  either false z z' one two = two

  module _ (q : RunState) where
    fill : (slot : ℕ) (made : Option ℕ) → Keeps (inside.fill_loaded m l slot y q made found)
    fill slot None = as_before _ refl refl
    fill slot (Some t) = as_before _ refl refl

    make : (made : Option ℕ) → Keeps (inside.make_committed m l y q made found)
    make None = as_before y refl refl
    make (Some t) = as_before _ refl refl

    over_had : (o : Option Published) (x' : Published) → inside.kept_unless o q.descriptor ≡ Some x' → o ≡ Some x'
    over_had None x' e = absurd (none_some x' (sym e))
    over_had (Some x) x' e = by (x.descriptor == q.descriptor) e
      where
        by : (b : Bool) → (if b then None else Some x) ≡ Some x' → Some x ≡ Some x'
        by true e = absurd (none_some x' (sym e))
        by false e = e

    released : (place : ℕ) → Keeps (inside.lock_released m l place y q found)
    released place = either (is_end (next_of m (inside.ended_more q))) _ _
        (record { by = λ x' is some. inl (record { is = over_had y.published x' is; grows = inr ((place, found), refl) }) })
        (read_more _ (place, found) refl refl)

    line_keeps : (kind' : EventKind) (micro : Micro) → Keeps (line_after m l kind' y q micro found)
    line_keeps kinds.Commit micro = as_before _ refl refl
    line_keeps (kinds.LoadCell place) micro = read_more _ _ refl refl
    line_keeps kinds.ExchangeCell micro = read_more _ _ refl refl
    line_keeps (kinds.PrivateLoad slot word) micro = fill slot q.made
    line_keeps (kinds.PrivateStore slot word number) micro = as_before _ refl refl
    line_keeps (kinds.LinkCommit b) micro = as_before _ refl refl
    line_keeps kinds.MakeCommit micro = make q.made
    line_keeps kinds.RetireCommit micro = as_before _ refl refl
    line_keeps kinds.EpochForRetire micro = as_before _ refl refl
    line_keeps kinds.SetDone micro = as_before _ refl refl
    line_keeps kinds.Release micro = released (inside.place_of micro)
    line_keeps kinds.ClockLoad micro = as_before _ refl refl
    line_keeps kinds.StampExchange micro = either (nat_lt q.word last_clock) _ _ (as_before _ refl refl) (as_before y refl refl)
    line_keeps kinds.ClockRaise micro = as_before _ refl refl
    line_keeps kinds.ReplyExchange micro = as_before _ refl refl
    line_keeps kinds.NestedLoad micro = read_more _ _ refl refl
    line_keeps kinds.NestedHold micro = read_more _ _ refl refl
    line_keeps kinds.OutcomeLoad micro = read_more _ _ refl refl
    line_keeps kinds.OutcomeCommit micro = as_before _ refl refl
    line_keeps kind' micro = as_before y refl refl

    pub inside_keeps : (kind' : EventKind) → Keeps (inside_after m l kind' y q found)
    inside_keeps kind' = either (is_open_run q) _ _ (line_keeps kind' (next_of m q)) (as_before _ refl refl)

  scan : (stage : Stage) → Keeps (outside.scan_one_after l y stage found)
  scan (stages.Scanning x next clear) = either (nat_le next l.runners) _ _
      (either (next == l.runners && not ((clear && is_clear x found) && nat_lt x last_epoch)) _ _ (as_before _ refl refl) (as_before _ refl refl)) (as_before y refl refl)
  scan _ = as_before y refl refl

  advance : (stage : Stage) → Keeps (outside.advance_after y stage)
  advance (stages.Scanning x next clear) = either (nat_lt x last_epoch) _ _ (as_before _ refl refl) (as_before y refl refl)
  advance _ = as_before y refl refl

  hold : (t : Thunk) (d : ℕ) → kind ≡ kinds.Hold t d → Keeps (outside.hold_after t d y found)
  hold t d of_kind = by (found == t.word) refl
    where
      same_number : (a b : ℕ) → (a == b) ≡ true → a ≡ b
      same_number a b e = grind (arith, nat_tests)

      by : (b : Bool) → (found == t.word) ≡ b → Keeps (if b then record y {
        published = Some (outside.published_by t d y);
        descriptors = descriptor_taken y.descriptors d;
        guards = published_seen y.guards d;
        reads = cell_read y.reads t.lock found;
      } else record y { reads = cell_read y.reads t.lock found })
      by true e = record {
        by = λ x' is some. inr (record {
          thunk = t;
          descriptor = d;
          is = of_kind;
          won = same_number found t.word e;
          section = sym (some_same (outside.published_by t d y) x' is);
          read = refl;
          walk = refl;
        });
      }
      by false e = read_more _ (t.lock, found) refl refl

  -- a runner that enters has read nothing in its entry
  enters : Keeps (outside.entered y found)
  enters = record { by = λ x' is some. absurd (some refl) }

  pub outside_keeps : (kind' : EventKind) → kind ≡ kind' → Keeps (outside_after m l kind' y found)
  outside_keeps kinds.EnterLoad is = as_before _ refl refl
  outside_keeps kinds.Announce is = as_before _ refl refl
  outside_keeps kinds.EnterAgain is = enters
  outside_keeps kinds.Idle is = as_before _ refl refl
  outside_keeps kinds.ScanEpoch is = as_before _ refl refl
  outside_keeps (kinds.ScanOne n) is = scan y.stage
  outside_keeps kinds.Advance is = advance y.stage
  outside_keeps kinds.Split is = either (nat_lt y.records.splits l.runners) _ _ (as_before _ refl refl) (as_before y refl refl)
  outside_keeps (kinds.Join worker) is = as_before _ refl refl
  outside_keeps (kinds.LoadCell (Some place)) is = read_more _ (place, found) refl refl
  outside_keeps (kinds.LoadEntry request reply) is = as_before _ refl refl
  outside_keeps (kinds.PrivateLoad slot word) is = either (nat_lt slot (slot_count l m.fixed_slots)) _ _ (as_before _ refl refl) (as_before _ refl refl)
  outside_keeps (kinds.PrivateStore slot word number) is = as_before _ refl refl
  outside_keeps (kinds.Hold t d) is = hold t d is
  outside_keeps (kinds.LoadThunk (Some d)) is = as_before _ refl refl
  outside_keeps kind' is = as_before _ refl refl
