-- What a step leaves of a runner's part.
use Rattle.std.specs.Prelude.{◌==◌, ◌&&◌, not, Bool, true, false, nat_lt, nat_le, if◌then◌else◌, ◌-◌}
use Rattle.std.proofs.Common.{◌≡◌, ℕ, refl, sym, ap, ◌∙◌, Option, Some, None}
use Rattle.machine_states.specs.body_terms.specs.declared.micro.Micro.{Micro}
use Rattle.machine_states.specs.body_terms.specs.Line.{is_end}
use Rattle.machine_states.specs.table_words.specs.declared.layout.Layout.{Layout}
use Rattle.machine_states.specs.table_words.specs.declared.spot.Spot.{Spot}
use Rattle.machine_states.specs.table_words.specs.declared.access.Access.{Access}
use Rattle.machine_states.specs.structure_laws.specs.Meaning.{Meaning}
use Rattle.machine_states.specs.epoch_core.specs.Moves.{is_clear}
use Rattle.machine_states.specs.runner_parts.specs.declared.entries.Published.{Published}
use Rattle.machine_states.specs.runner_parts.specs.declared.event.EventKind.{EventKind}
use Rattle.machine_states.specs.runner_parts.specs.declared.event.EventKind.TheVariants as kinds
use Rattle.machine_states.specs.epoch_core.specs.declared.stage.Stage.{Stage}
use Rattle.machine_states.specs.epoch_core.specs.declared.stage.Stage.TheVariants as stages
use Rattle.machine_states.specs.runner_parts.specs.State.{RunState, PartState}
use Rattle.machine_states.specs.runner_parts.specs.Lists.{cell_read}
use Rattle.machine_states.specs.runner_steps.specs.Sections.{is_open_run, next_of, needs_link}
use Rattle.machine_states.specs.runner_steps.specs.InRun.{last_clock}
use Rattle.machine_states.specs.epoch_core.specs.State.{last_epoch}
use Rattle.machine_states.specs.runner_steps.specs.AfterInRun as inside
use Rattle.machine_states.specs.runner_steps.specs.AfterOutside as outside
use Rattle.machine_states.specs.runner_steps.specs.After.{outside_after, line_after, inside_after, after_by, after}
use Rattle.machine_invariant.specs.Whole.{HasPublished, made_in}
use Rattle.machine_states.specs.table_words.specs.Places.{slot_count}
use Rattle.machine_states.specs.body_terms.specs.declared.thunk.Thunk.{Thunk}
use Rattle.machine_states.specs.runner_steps.specs.Outside.{blocks_from}

-- no entry, no load of a cell and no publication
abbrev pub is_other : EventKind → Bool
is_other kinds.EnterAgain = false
is_other (kinds.LoadCell (Some place)) = false
is_other (kinds.Hold thunk d) = false
is_other _ = true

-- an exchange of a run's end that releases a lock: with the last one the own section is retired
abbrev pub is_release : EventKind → Bool
is_release kinds.Release = true
is_release _ = false

-- a step that takes a slot for a Make, or commits one
abbrev pub is_making : EventKind → Bool
is_making (kinds.PrivateLoad slot word) = true
is_making kinds.MakeCommit = true
is_making _ = false

module _ (m : Meaning) (l : Layout) where
  -- the runner has read the same outside its runs, and has to retire what it had to retire
  pub record IsSamePart (p p' : PartState) : Type 0 where
    pub walk : p'.reads.walk ≡ p.reads.walk
    pub published : (d : ℕ) (t : Thunk) → HasPublished m l p d t → HasPublished m l p' d t

  part_same : (p : PartState) → IsSamePart p p
  part_same p = record { walk = refl; published = λ d t h. h }

  -- a part with these reads, and what it published as before
  pub by_reads : (p p' : PartState) → p'.reads.walk ≡ p.reads.walk → p'.published ≡ p.published → IsSamePart p p'
  by_reads p p' walk published = record { walk = walk; published = λ d t h. (h.0, published ∙ h.1, h.2, h.3) }

  if_same : (b : Bool) (p x y : PartState) → IsSamePart p x → IsSamePart p y → IsSamePart p (if b then x else y)
  if_same true p x y one two = one
  if_same false p x y one two = two

  module _ (p : PartState) (q : RunState) (found : ℕ) where
    load_same : (slot : ℕ) (made : Option ℕ) → IsSamePart p (inside.fill_loaded m l slot p q made found)
    load_same slot None = by_reads p _ refl refl
    load_same slot (Some t) = by_reads p _ refl refl

    make_same : (made : Option ℕ) → IsSamePart p (inside.make_committed m l p q made found)
    make_same None = part_same p
    make_same (Some t) = by_reads p _ refl refl

    stamp_same : IsSamePart p (inside.stamp_agreed m l p q found)
    stamp_same = if_same (nat_lt q.word last_clock) p _ _ (by_reads p _ refl refl) (part_same p)

    -- what a release leaves of the published section: with the last one the own one is retired
    abbrev pub published_behind : Option Published
    published_behind = if is_end (next_of m (inside.ended_more q)) then inside.kept_unless p.published q.descriptor else p.published

    pub released_is : (place : ℕ) → ((inside.lock_released m l place p q found).reads.walk ≡ p.reads.walk)
        × ((inside.lock_released m l place p q found).published ≡ published_behind)
    released_is place = by (is_end (next_of m (inside.ended_more q)))
      where
        released : PartState
        released = record p { reads = cell_read p.reads place found }

        by : (b : Bool) → ((if b then inside.run_over m l released (inside.ended_more q) else inside.with_run released (inside.ended_more q)).reads.walk
            ≡ p.reads.walk)
            × ((if b then inside.run_over m l released (inside.ended_more q) else inside.with_run released (inside.ended_more q)).published
            ≡ (if b then inside.kept_unless p.published q.descriptor else p.published))
        by true = (refl, refl)
        by false = (refl, refl)

    line_same : (kind : EventKind) (micro : Micro) → is_release kind ≡ false → IsSamePart p (line_after m l kind p q micro found)
    line_same kinds.Commit micro other = by_reads p _ refl refl
    line_same (kinds.LoadCell place) micro other = by_reads p _ refl refl
    line_same kinds.ExchangeCell micro other = by_reads p _ refl refl
    line_same (kinds.PrivateLoad slot word) micro other = load_same slot q.made
    line_same (kinds.PrivateStore slot word number) micro other = by_reads p _ refl refl
    line_same (kinds.LinkCommit b) micro other = by_reads p _ refl refl
    line_same kinds.MakeCommit micro other = make_same q.made
    line_same kinds.RetireCommit micro other = by_reads p _ refl refl
    line_same kinds.EpochForRetire micro other = by_reads p _ refl refl
    line_same kinds.SetDone micro other = by_reads p _ refl refl
    line_same kinds.Release micro other = absurd (cc)
    line_same kinds.ClockLoad micro other = by_reads p _ refl refl
    line_same kinds.StampExchange micro other = stamp_same
    line_same kinds.ClockRaise micro other = by_reads p _ refl refl
    line_same kinds.ReplyExchange micro other = by_reads p _ refl refl
    line_same kinds.NestedLoad micro other = by_reads p _ refl refl
    line_same kinds.NestedHold micro other = by_reads p _ refl refl
    line_same kinds.OutcomeLoad micro other = by_reads p _ refl refl
    line_same kinds.OutcomeCommit micro other = by_reads p _ refl refl
    line_same _ micro other = part_same p

    -- no step in a run but a release changes what the whole invariant sees beside the run
    pub inside_same : (kind : EventKind) → is_release kind ≡ false → IsSamePart p (inside_after m l kind p q found)
    inside_same kind other = if_same (is_open_run q) p _ _ (line_same kind (next_of m q) other) (by_reads p _ refl refl)

  module _ (p : PartState) (found : ℕ) where
    scan_same : (stage : Stage) → IsSamePart p (outside.scan_one_after l p stage found)
    scan_same (stages.Scanning x next clear) = if_same (nat_le next l.runners) p _ _
        (if_same (next == l.runners && not ((clear && is_clear x found) && nat_lt x last_epoch)) p _ _
        (by_reads p _ refl refl) (by_reads p _ refl refl))
        (part_same p)
    scan_same _ = part_same p

    advance_same : (stage : Stage) → IsSamePart p (outside.advance_after p stage)
    advance_same (stages.Scanning x next clear) = if_same (nat_lt x last_epoch) p _ _ (by_reads p _ refl refl) (part_same p)
    advance_same _ = part_same p

    split_same : IsSamePart p (outside.split_after l p)
    split_same = if_same (nat_lt p.records.splits l.runners) p _ _ (by_reads p _ refl refl) (part_same p)

    -- a step outside a run that is no entry, no load of a cell and no publication
    pub outside_same : (kind : EventKind) → is_other kind ≡ true → IsSamePart p (outside_after m l kind p found)
    outside_same kinds.EnterLoad is = by_reads p _ refl refl
    outside_same kinds.Announce is = by_reads p _ refl refl
    outside_same kinds.Idle is = by_reads p _ refl refl
    outside_same kinds.ScanEpoch is = by_reads p _ refl refl
    outside_same (kinds.ScanOne n) is = scan_same p.stage
    outside_same kinds.Advance is = advance_same p.stage
    outside_same kinds.Split is = split_same
    outside_same (kinds.Join worker) is = by_reads p _ refl refl
    outside_same (kinds.LoadEntry request reply) is = by_reads p _ refl refl
    outside_same (kinds.PrivateLoad slot word) is = if_same (nat_lt slot (slot_count l m.fixed_slots)) p _ _ (by_reads p _ refl refl) (by_reads p _ refl refl)
    outside_same (kinds.PrivateStore slot word number) is = by_reads p _ refl refl
    outside_same (kinds.LoadThunk (Some d)) is = by_reads p _ refl refl
    outside_same kinds.EnterAgain is = absurd (cc)
    outside_same (kinds.LoadCell (Some place)) is = absurd (cc)
    outside_same (kinds.Hold thunk d) is = absurd (cc)
    outside_same _ is = by_reads p _ refl refl

  -- what is noted of a step changes nothing of that
  pub noted_same : (r : ℕ) (kind : EventKind) (spot : Spot) (access : Access) (p : PartState) (found : ℕ)
      → IsSamePart p (after_by m l kind p p.run found)
      → IsSamePart p (after m l r kind spot access p found)
  noted_same r kind spot access p found same = record { walk = same.walk; published = same.published }

  -- the slot that a Make fills changes only with a private load or with the Make's commit
  module _ (p : PartState) (q : RunState) (at : p.run ≡ Some q) (found : ℕ) where
    pub record HasMade (p' : PartState) : Type 0 where
      pub same : (q' : RunState) → p'.run ≡ Some q' → q'.made ≡ q.made

    if_made : (b : Bool) (x y : PartState) → HasMade x → HasMade y → HasMade (if b then x else y)
    if_made true x y one two = one
    if_made false x y one two = two

    by_run : (p' : PartState) → made_in p'.run ≡ q.made → HasMade p'
    by_run p' e = record { same = λ q' is. sym (ap made_in is) ∙ e }

    unchanged : HasMade p
    unchanged = by_run p (ap made_in at)

    -- a private store leaves it, be it one into a block or into the slot
    pub store_made : (b number : ℕ) (c : Bool) → (if c then inside.block_emptied b q else inside.filled m l number q).made ≡ q.made
    store_made b number true = refl
    store_made b number false = refl

    line_made : (kind : EventKind) (micro : Micro) → is_making kind ≡ false → HasMade (line_after m l kind p q micro found)
    line_made kinds.Commit micro is = by_run _ refl
    line_made (kinds.LoadCell place) micro is = by_run _ refl
    line_made kinds.ExchangeCell micro is = by_run _ refl
    line_made (kinds.PrivateLoad slot word) micro is = absurd (cc)
    line_made (kinds.PrivateStore slot word number) micro is = by_run _ (store_made (slot - blocks_from m l) number (needs_link q micro))
    line_made (kinds.LinkCommit b) micro is = by_run _ refl
    line_made kinds.MakeCommit micro is = absurd (cc)
    line_made kinds.RetireCommit micro is = by_run _ refl
    line_made kinds.EpochForRetire micro is = by_run _ refl
    line_made kinds.SetDone micro is = by_run _ refl
    line_made kinds.Release micro is = if_made (is_end (next_of m (inside.ended_more q))) _ _ (record { same = λ q' e. absurd (cc) })
        (by_run _ refl)
    line_made kinds.ClockLoad micro is = by_run _ refl
    line_made kinds.StampExchange micro is = if_made (nat_lt q.word last_clock) _ _ (by_run _ refl) unchanged
    line_made kinds.ClockRaise micro is = by_run _ refl
    line_made kinds.ReplyExchange micro is = by_run _ refl
    line_made kinds.NestedLoad micro is = by_run _ refl
    line_made kinds.NestedHold micro is = by_run _ refl
    line_made kinds.OutcomeLoad micro is = by_run _ refl
    line_made kinds.OutcomeCommit micro is = by_run _ refl
    line_made _ micro is = unchanged

    pub inside_made : (kind : EventKind) → is_making kind ≡ false → HasMade (inside_after m l kind p q found)
    inside_made kind is = if_made (is_open_run q) _ _ (line_made kind (next_of m q) is) (by_run _ refl)

  -- a step outside a run begins a run that is in no Make, or none
  module _ (p : PartState) (none : p.run ≡ None) (found : ℕ) where
    pub record MakesNothing (p' : PartState) : Type 0 where
      pub nothing : (q' : RunState) → p'.run ≡ Some q' → q'.made ≡ None

    if_nothing : (b : Bool) (x y : PartState) → MakesNothing x → MakesNothing y → MakesNothing (if b then x else y)
    if_nothing true x y one two = one
    if_nothing false x y one two = two

    as_before : (p' : PartState) → p'.run ≡ p.run → MakesNothing p'
    as_before p' e = record { nothing = λ q' is. absurd (let h = sym is ∙ (e ∙ none) in cc) }

    scan_nothing : (stage : Stage) → MakesNothing (outside.scan_one_after l p stage found)
    scan_nothing (stages.Scanning x next clear) = if_nothing (nat_le next l.runners) _ _
        (if_nothing (next == l.runners && not ((clear && is_clear x found) && nat_lt x last_epoch)) _ _ (as_before _ refl)
        (as_before _ refl))
        (as_before _ refl)
    scan_nothing _ = as_before _ refl

    advance_nothing : (stage : Stage) → MakesNothing (outside.advance_after p stage)
    advance_nothing (stages.Scanning x next clear) = if_nothing (nat_lt x last_epoch) _ _ (as_before _ refl) (as_before _ refl)
    advance_nothing _ = as_before _ refl

    pub outside_made : (kind : EventKind) → MakesNothing (outside_after m l kind p found)
    outside_made kinds.EnterLoad = as_before _ refl
    outside_made kinds.Announce = as_before _ refl
    outside_made kinds.EnterAgain = as_before _ refl
    outside_made kinds.Idle = as_before _ refl
    outside_made kinds.ScanEpoch = as_before _ refl
    outside_made (kinds.ScanOne n) = scan_nothing p.stage
    outside_made kinds.Advance = advance_nothing p.stage
    outside_made kinds.Split = if_nothing (nat_lt p.records.splits l.runners) _ _ (as_before _ refl) (as_before _ refl)
    outside_made (kinds.Join worker) = as_before _ refl
    outside_made (kinds.LoadCell (Some place)) = as_before _ refl
    outside_made (kinds.LoadEntry request reply) = as_before _ refl
    outside_made (kinds.PrivateLoad slot word) = if_nothing (nat_lt slot (slot_count l m.fixed_slots)) _ _ (as_before _ refl) (as_before _ refl)
    outside_made (kinds.PrivateStore slot word number) = as_before _ refl
    outside_made (kinds.Hold thunk d) = if_nothing (found == thunk.word) _ _ (as_before _ refl) (as_before _ refl)
    outside_made (kinds.LoadThunk (Some d)) = record { nothing = λ q' e. sym (ap made_in e) }
    outside_made _ = as_before _ refl
