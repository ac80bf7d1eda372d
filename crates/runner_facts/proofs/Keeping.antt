-- What each step leaves of a runner's part: whom it has joined and what its steps left since then, whether it goes on, and how many own descriptors it has.
use Rattle.std.specs.Prelude.{◌==◌, ◌&&◌, not, nat_lt, nat_le, Bool, true, false, if◌then◌else◌}
use Rattle.std.specs.List.{filter}
use Rattle.std.proofs.Common.{◌≡◌, ℕ, ◌+◌, List, [], ◌∷◌, ◌++◌, length, length-append, refl, ap, arith, Option, Some, None}
use Rattle.std.proofs.lemmas.List.Filters.{length-filter_both}
use Rattle.machine_states.specs.body_terms.specs.Line.{is_end}
use Rattle.machine_states.specs.body_terms.specs.declared.micro.Micro.{Micro}
use Rattle.machine_states.specs.body_terms.specs.declared.thunk.Thunk.{Thunk}
use Rattle.machine_states.specs.table_words.specs.declared.layout.Layout.{Layout}
use Rattle.machine_states.specs.table_words.specs.Places.{slot_count}
use Rattle.machine_states.specs.structure_laws.specs.Meaning.{Meaning}
use Rattle.machine_states.specs.epoch_core.specs.Moves.{is_clear}
use Rattle.machine_states.specs.guard_core.specs.Moves.{is_unnamed}
use Rattle.machine_states.specs.runner_parts.specs.declared.entries.Left.{Left}
use Rattle.machine_states.specs.runner_parts.specs.declared.entries.Published.{Published}
use Rattle.machine_states.specs.epoch_core.specs.declared.stage.Stage.{Stage}
use Rattle.machine_states.specs.epoch_core.specs.declared.stage.Stage.TheVariants as stages
use Rattle.machine_states.specs.runner_parts.specs.declared.event.EventKind.{EventKind}
use Rattle.machine_states.specs.runner_parts.specs.declared.event.EventKind.TheVariants as kinds
use Rattle.machine_states.specs.runner_parts.specs.State.{RunState, DescriptorsState, GuardsState, RecordsState, PartState}
use Rattle.machine_states.specs.runner_parts.specs.Lists.{descriptor_retired, descriptors_swept, learned}
use Rattle.machine_states.specs.runner_steps.specs.Sections.{is_open_run, next_of}
use Rattle.machine_states.specs.epoch_core.specs.State.{last_epoch}
use Rattle.machine_states.specs.runner_steps.specs.InRun.{last_clock}
use Rattle.machine_states.specs.runner_steps.specs.AfterInRun as inside
use Rattle.machine_states.specs.runner_steps.specs.AfterOutside as outside
use Rattle.machine_states.specs.runner_steps.specs.After.{line_after, inside_after, outside_after}
use Rattle.machine_states.specs.runner_steps.specs.Guards.{is_last_guard}
use Rattle.machine_states.specs.epoch_core.specs.Lists.{times}
use Rattle.machine_states.specs.World.{is_join}
use Rattle.next_steps.proofs.Stocks.{without_length}
use Rattle.runner_facts.specs.Facts.{published_count, descriptors_of}

-- whom the keeper has joined, and what its steps since then left
abbrev pub kept_by : RecordsState → List ℕ × List Left
kept_by z = (z.joined, z.left)

pub record Keeps (p p' : PartState) : Type 0 where
  pub records : kept_by p'.records ≡ kept_by p.records
  pub gone : p'.gone ≡ p.gone
  pub count : descriptors_of p' ≡ descriptors_of p

learned_keeps : (z : RecordsState) (request : ℕ) (reply : Bool) (n : ℕ) → kept_by (learned z request reply n) ≡ kept_by z
learned_keeps z request reply n = by (n == 0)
  where
    by : (b : Bool) → kept_by (if b then z else record z { known = z.known ++ record { request = request; reply = reply; number = n } ∷ [] }) ≡ kept_by z
    by true = refl
    by false = refl

-- the own section that a run ended is in limbo instead of published
over_count : (ds : DescriptorsState) (o : Option Published) (d : ℕ)
    → length (inside.retired_if ds o d).free + (length (inside.retired_if ds o d).limbo + published_count (inside.kept_unless o d))
    ≡ length ds.free + (length ds.limbo + published_count o)
over_count ds None d = refl
over_count ds (Some x) d = by (x.descriptor == d)
  where
    by : (b : Bool) → length (if b then descriptor_retired ds d else ds).free + (length (if b then descriptor_retired ds d else ds).limbo + published_count (if b then None else Some x))
        ≡ length ds.free + (length ds.limbo + published_count (Some x))
    by true = let more = length-append ds.limbo (d ∷ []) in omega arith
    by false = refl

module _ (m : Meaning) (l : Layout) (p : PartState) where
  keeps : (p' : PartState) → kept_by p'.records ≡ kept_by p.records → p'.gone ≡ p.gone → descriptors_of p' ≡ descriptors_of p → Keeps p p'
  keeps p' records gone count = record { records = records; gone = gone; count = count }

  either : (b : Bool) (y z : PartState) → Keeps p y → Keeps p z → Keeps p (if b then y else z)
  either true y z one two = one
  either false y z one two = two

  same : Keeps p p
  same = keeps p refl refl refl

  module _ (q : RunState) (found : ℕ) where
    fill_keeps : (slot : ℕ) (made : Option ℕ) → Keeps p (inside.fill_loaded m l slot p q made found)
    fill_keeps slot None = keeps _ refl refl refl
    fill_keeps slot (Some t) = keeps _ refl refl refl

    make_keeps : (made : Option ℕ) → Keeps p (inside.make_committed m l p q made found)
    make_keeps None = same
    make_keeps (Some t) = keeps _ refl refl refl

    over_keeps : (place : ℕ) → Keeps p (inside.lock_released m l place p q found)
    over_keeps place = either (is_end (next_of m (inside.ended_more q))) _ _
        (keeps _ refl refl (over_count p.descriptors p.published q.descriptor))
        (keeps _ refl refl refl)

    line_keeps : (kind : EventKind) (micro : Micro) → Keeps p (line_after m l kind p q micro found)
    line_keeps kinds.Commit micro = keeps _ refl refl refl
    line_keeps (kinds.LoadCell place) micro = keeps _ refl refl refl
    line_keeps kinds.ExchangeCell micro = keeps _ refl refl refl
    line_keeps (kinds.PrivateLoad slot word) micro = fill_keeps slot q.made
    line_keeps (kinds.PrivateStore slot word number) micro = keeps _ refl refl refl
    line_keeps (kinds.LinkCommit b) micro = keeps _ refl refl refl
    line_keeps kinds.MakeCommit micro = make_keeps q.made
    line_keeps kinds.RetireCommit micro = keeps _ refl refl refl
    line_keeps kinds.EpochForRetire micro = keeps _ refl refl refl
    line_keeps kinds.SetDone micro = keeps _ refl refl refl
    line_keeps kinds.Release micro = over_keeps (inside.place_of micro)
    line_keeps kinds.ClockLoad micro = keeps _ refl refl refl
    line_keeps kinds.StampExchange micro = either (nat_lt q.word last_clock) _ _ (keeps _ (learned_keeps p.records _ false _) refl refl) same
    line_keeps kinds.ClockRaise micro = keeps _ refl refl refl
    line_keeps kinds.ReplyExchange micro = keeps _ (learned_keeps p.records _ true _) refl refl
    line_keeps kinds.NestedLoad micro = keeps _ refl refl refl
    line_keeps kinds.NestedHold micro = keeps _ refl refl refl
    line_keeps kinds.OutcomeLoad micro = keeps _ refl refl refl
    line_keeps kinds.OutcomeCommit micro = keeps _ refl refl refl
    line_keeps _ micro = same

    pub inside_keeps : (kind : EventKind) → Keeps p (inside_after m l kind p q found)
    inside_keeps kind = either (is_open_run q) _ _ (line_keeps kind (next_of m q)) (keeps _ refl refl refl)

  -- the end of a scan moves no descriptors
  collected_keeps : (epoch : ℕ) → Keeps p (outside.collected p epoch)
  collected_keeps epoch = keeps (outside.collected p epoch) refl refl refl

  -- the end of a sweep moves descriptors from limbo to the free list
  sweep_keeps : (last : Bool) (words : List ℕ) (guards : GuardsState)
      → Keeps p (record p { descriptors = (if last then descriptors_swept words p.descriptors else p.descriptors); guards = guards })
  sweep_keeps true words guards = keeps _ refl refl
      (let all = length-filter_both (is_unnamed words) (λ x. not (is_unnamed words x)) (λ x. refl) p.descriptors.limbo in
      let free = length-append p.descriptors.free (filter (is_unnamed words) p.descriptors.limbo) in omega arith)
  sweep_keeps false words guards = keeps _ refl refl refl

  module _ (found : ℕ) where
    scan_keeps : (stage : Stage) → Keeps p (outside.scan_one_after l p stage found)
    scan_keeps (stages.Scanning x next clear) = either (nat_le next l.runners) _ _
        (either (next == l.runners && not ((clear && is_clear x found) && nat_lt x last_epoch)) _ _ (collected_keeps x) (keeps _ refl refl refl)) same
    scan_keeps _ = same

    advance_keeps : (stage : Stage) → Keeps p (outside.advance_after p stage)
    advance_keeps (stages.Scanning x next clear) = either (nat_lt x last_epoch) _ _ (collected_keeps (x + 1)) same
    advance_keeps _ = same

    hold_keeps : (t : Thunk) (d : ℕ) → times d p.descriptors.free ≡ 1 → p.published ≡ None → Keeps p (outside.hold_after t d p found)
    hold_keeps t d once none = either (found == t.word) _ _
        (keeps _ refl refl (let less = without_length p.descriptors.free d in let zero = ap published_count none in omega arith))
        (keeps _ refl refl refl)

    -- a publication is one of an own free descriptor, with no other section published
    abbrev pub MayHold : EventKind → Type 0
    MayHold (kinds.Hold t d) = (times d p.descriptors.free ≡ 1) × (p.published ≡ None)
    MayHold _ = Unit {0}

    pub outside_keeps : (kind : EventKind) → is_join kind ≡ false → MayHold kind → Keeps p (outside_after m l kind p found)
    outside_keeps kinds.EnterLoad h may = keeps _ refl refl refl
    outside_keeps kinds.Announce h may = keeps _ refl refl refl
    outside_keeps kinds.EnterAgain h may = keeps _ refl refl refl
    outside_keeps kinds.Idle h may = keeps _ refl refl refl
    outside_keeps kinds.ScanEpoch h may = keeps _ refl refl refl
    outside_keeps (kinds.ScanOne n) h may = scan_keeps p.stage
    outside_keeps kinds.Advance h may = advance_keeps p.stage
    outside_keeps kinds.Split h may = either (nat_lt p.records.splits l.runners) _ _ (keeps _ refl refl refl) same
    outside_keeps (kinds.Join worker) h may = absurd (let z = h in cc)
    outside_keeps (kinds.LoadCell (Some place)) h may = keeps _ refl refl refl
    outside_keeps (kinds.LoadEntry request reply) h may = keeps _ (learned_keeps p.records request reply found) refl refl
    outside_keeps (kinds.PrivateLoad slot word) h may = either (nat_lt slot (slot_count l m.fixed_slots)) _ _ (keeps _ refl refl refl)
        (keeps _ refl refl refl)
    outside_keeps (kinds.PrivateStore slot word number) h may = keeps _ refl refl refl
    outside_keeps (kinds.Hold t d) h may = hold_keeps t d may.0 may.1
    outside_keeps (kinds.LoadThunk (Some d)) h may = keeps _ refl refl refl
    outside_keeps (kinds.LoadGuard n) h may = sweep_keeps (is_last_guard l p.guards.looked) _ _
    outside_keeps _ h may = keeps _ refl refl refl
