-- What a step makes of what is kept of the epoch, is made as the step is noted, and not before.
use Rattle.std.specs.Prelude.{◌==◌, ◌&&◌, not, nat_lt, nat_le, Bool, true, false, if◌then◌else◌}
use Rattle.std.proofs.Common.{◌≡◌, ℕ, [], ◌∷◌, ◌++◌, refl, Option, Some, None}
use Rattle.runner_steps.specs.body_terms.specs.Line.{is_end}
use Rattle.runner_steps.specs.body_terms.specs.declared.micro.Micro.{Micro}
use Rattle.runner_steps.specs.table_words.specs.declared.layout.Layout.{Layout}
use Rattle.runner_steps.specs.table_words.specs.Places.{slot_count}
use Rattle.runner_steps.specs.runner_parts.specs.structure_laws.specs.Meaning.{Meaning}
use Rattle.runner_steps.specs.runner_parts.specs.epoch_core.specs.Moves.{is_clear}
use Rattle.runner_steps.specs.runner_parts.specs.epoch_core.specs.declared.stage.Stage.{Stage}
use Rattle.runner_steps.specs.runner_parts.specs.epoch_core.specs.declared.stage.Stage.TheVariants as stages
use Rattle.runner_steps.specs.runner_parts.specs.declared.event.EventKind.{EventKind}
use Rattle.runner_steps.specs.runner_parts.specs.declared.event.EventKind.TheVariants as kinds
use Rattle.runner_steps.specs.runner_parts.specs.State.{RunState, RecordsState, PartState}
use Rattle.runner_steps.specs.runner_parts.specs.Lists.{learned}
use Rattle.runner_steps.specs.Sections.{is_open_run, next_of}
use Rattle.runner_steps.specs.runner_parts.specs.epoch_core.specs.State.{last_epoch}
use Rattle.runner_steps.specs.InRun.{last_clock}
use Rattle.runner_steps.specs.AfterInRun as inside
use Rattle.runner_steps.specs.AfterOutside as outside
use Rattle.runner_steps.specs.After.{line_after, inside_after, outside_after, after_by}

-- what is kept of the epoch: the one seen, whether others crossed the own steps, and whether the own ones crossed others'
abbrev pub marks : RecordsState → ℕ × (Bool × Bool)
marks z = (z.epoch_seen, (z.crossed, z.crosses))

learned_keeps : (z : RecordsState) (request : ℕ) (reply : Bool) (n : ℕ) → marks (learned z request reply n) ≡ marks z
learned_keeps z request reply n = by (n == 0)
  where
    by : (b : Bool) → marks (if b then z else record z { known = z.known ++ record { request = request; reply = reply; number = n } ∷ [] }) ≡ marks z
    by true = refl
    by false = refl

-- the marks stay, and whether the runner was joined
pub record Stays (p p' : PartState) : Type 0 where
  pub kept : marks p'.records ≡ marks p.records
  pub gone : p'.gone ≡ p.gone

module _ (m : Meaning) (l : Layout) (p : PartState) (found : ℕ) where
  abbrev Keeps : PartState → Type 0
  Keeps p' = Stays p p'

  same : (p' : PartState) → marks p'.records ≡ marks p.records → p'.gone ≡ p.gone → Keeps p'
  same p' e e' = record { kept = e; gone = e' }

  either : (b : Bool) (y z : PartState) → Keeps y → Keeps z → Keeps (if b then y else z)
  either true y z one two = one
  either false y z one two = two

  module _ (q : RunState) where
    fill_keeps : (slot : ℕ) (made : Option ℕ) → Keeps (inside.fill_loaded m l slot p q made found)
    fill_keeps slot None = same _ refl refl
    fill_keeps slot (Some t) = same _ refl refl

    make_keeps : (made : Option ℕ) → Keeps (inside.make_committed m l p q made found)
    make_keeps None = same p refl refl
    make_keeps (Some t) = same _ refl refl

    line_keeps : (kind : EventKind) (micro : Micro) → Keeps (line_after m l kind p q micro found)
    line_keeps kinds.Commit micro = same _ refl refl
    line_keeps (kinds.LoadCell place) micro = same _ refl refl
    line_keeps kinds.ExchangeCell micro = same _ refl refl
    line_keeps (kinds.PrivateLoad slot word) micro = fill_keeps slot q.made
    line_keeps (kinds.PrivateStore slot word number) micro = same _ refl refl
    line_keeps (kinds.LinkCommit b) micro = same _ refl refl
    line_keeps kinds.MakeCommit micro = make_keeps q.made
    line_keeps kinds.RetireCommit micro = same _ refl refl
    line_keeps kinds.EpochForRetire micro = same _ refl refl
    line_keeps kinds.SetDone micro = same _ refl refl
    line_keeps kinds.Release micro = either (is_end (next_of m (inside.ended_more q))) _ _ (same _ refl refl) (same _ refl refl)
    line_keeps kinds.ClockLoad micro = same _ refl refl
    line_keeps kinds.StampExchange micro = either (nat_lt q.word last_clock) _ _ (same _ (learned_keeps p.records _ false _) refl) (same p refl refl)
    line_keeps kinds.ClockRaise micro = same _ refl refl
    line_keeps kinds.ReplyExchange micro = same _ (learned_keeps p.records _ true _) refl
    line_keeps kinds.NestedLoad micro = same _ refl refl
    line_keeps kinds.NestedHold micro = same _ refl refl
    line_keeps kinds.OutcomeLoad micro = same _ refl refl
    line_keeps kinds.OutcomeCommit micro = same _ refl refl
    line_keeps _ micro = same p refl refl

    inside_keeps : (kind : EventKind) → Keeps (inside_after m l kind p q found)
    inside_keeps kind = either (is_open_run q) _ _ (line_keeps kind (next_of m q)) (same _ refl refl)

  scan_keeps : (stage : Stage) → Keeps (outside.scan_one_after l p stage found)
  scan_keeps (stages.Scanning x next clear) = either (nat_le next l.runners) _ _
      (either (next == l.runners && not ((clear && is_clear x found) && nat_lt x last_epoch)) _ _ (same _ refl refl) (same _ refl refl)) (same p refl refl)
  scan_keeps _ = same p refl refl

  advance_keeps : (stage : Stage) → Keeps (outside.advance_after p stage)
  advance_keeps (stages.Scanning x next clear) = either (nat_lt x last_epoch) _ _ (same _ refl refl) (same p refl refl)
  advance_keeps _ = same p refl refl

  outside_keeps : (kind : EventKind) → Keeps (outside_after m l kind p found)
  outside_keeps kinds.EnterLoad = same _ refl refl
  outside_keeps kinds.Announce = same _ refl refl
  outside_keeps kinds.EnterAgain = same _ refl refl
  outside_keeps kinds.Idle = same _ refl refl
  outside_keeps kinds.ScanEpoch = same _ refl refl
  outside_keeps (kinds.ScanOne n) = scan_keeps p.stage
  outside_keeps kinds.Advance = advance_keeps p.stage
  outside_keeps kinds.Split = either (nat_lt p.records.splits l.runners) _ _ (same _ refl refl) (same p refl refl)
  outside_keeps (kinds.Join worker) = same _ refl refl
  outside_keeps (kinds.LoadCell (Some place)) = same _ refl refl
  outside_keeps (kinds.LoadEntry request reply) = same _ (learned_keeps p.records request reply found) refl
  outside_keeps (kinds.PrivateLoad slot word) = either (nat_lt slot (slot_count l m.fixed_slots)) _ _ (same _ refl refl) (same _ refl refl)
  outside_keeps (kinds.PrivateStore slot word number) = same _ refl refl
  outside_keeps (kinds.Hold thunk d) = either (found == thunk.word) _ _ (same _ refl refl) (same _ refl refl)
  outside_keeps (kinds.LoadThunk (Some d)) = same _ refl refl
  outside_keeps _ = same _ refl refl

  pub stays : (kind : EventKind) (run : Option RunState) → Stays p (after_by m l kind p run found)
  stays kind None = outside_keeps kind
  stays kind (Some q) = inside_keeps q kind
