-- The steps that leave a runner's slots with it as they are.
use Rattle.std.specs.Prelude.{◌==◌, nat_lt, Bool, true, false, if◌then◌else◌}
use Rattle.std.proofs.Common.{◌≡◌, ℕ, refl, ap, Some}
use Rattle.machine_states.specs.body_terms.specs.Line.{is_end}
use Rattle.machine_states.specs.body_terms.specs.declared.micro.Micro.{Micro}
use Rattle.machine_states.specs.table_words.specs.declared.layout.Layout.{Layout}
use Rattle.machine_states.specs.structure_laws.specs.Meaning.{Meaning}
use Rattle.machine_states.specs.runner_parts.specs.declared.event.EventKind.{EventKind}
use Rattle.machine_states.specs.runner_parts.specs.declared.event.EventKind.TheVariants as kinds
use Rattle.machine_states.specs.runner_parts.specs.State.{RunState, PartState, NodesState}
use Rattle.machine_states.specs.runner_parts.specs.Lists.{slot_retired}
use Rattle.machine_states.specs.runner_steps.specs.Sections.{is_open_run, next_of}
use Rattle.machine_states.specs.runner_steps.specs.InRun.{last_clock}
use Rattle.machine_states.specs.runner_steps.specs.AfterInRun as inside
use Rattle.machine_states.specs.runner_steps.specs.After.{line_after, inside_after, outside_after}
use Rattle.next_steps.proofs.Filling.{fills_slot}
use Rattle.next_steps.proofs.RoomParts.{SameNodes, same_nodes}

-- the slots that Makes may take or look at, and what was looked at, are the same
pub record Same (p p' : PartState) : Type 0 where
  pub nodes : SameNodes p.nodes p'.nodes

module _ (m : Meaning) (l : Layout) (p : PartState) (found : ℕ) where
  same : (p' : PartState) → p'.nodes ≡ p.nodes → Same p p'
  same p' e = record {
    nodes = record {
      free = ap (λ (n : NodesState). n.free) e;
      hand = ap (λ (n : NodesState). n.hand) e;
      tests = ap (λ (n : NodesState). n.tests) e;
    };
  }

  either : (b : Bool) (y z : PartState) → Same p y → Same p z → Same p (if b then y else z)
  either true y z one two = one
  either false y z one two = two

  module _ (q : RunState) where
    retired_same : (slot : ℕ) (b : Bool) → SameNodes p.nodes (if b then slot_retired p.nodes slot q.word else p.nodes)
    retired_same slot true = record { free = refl; hand = refl; tests = refl }
    retired_same slot false = same_nodes p.nodes

    line_same : (kind : EventKind) (micro : Micro) → fills_slot kind ≡ false → Same p (line_after m l kind p q micro found)
    line_same kinds.Commit micro h = same _ refl
    line_same (kinds.LoadCell place) micro h = same _ refl
    line_same kinds.ExchangeCell micro h = same _ refl
    line_same (kinds.PrivateLoad slot word) micro h = absurd (let z = h in cc)
    line_same (kinds.PrivateStore slot word number) micro h = absurd (let z = h in cc)
    line_same (kinds.LinkCommit b) micro h = absurd (let z = h in cc)
    line_same kinds.MakeCommit micro h = absurd (let z = h in cc)
    line_same kinds.RetireCommit micro h = record { nodes = retired_same (inside.retired_slot_of micro) (found == 0) }
    line_same kinds.EpochForRetire micro h = same _ refl
    line_same kinds.SetDone micro h = same _ refl
    line_same kinds.Release micro h = either (is_end (next_of m (inside.ended_more q))) _ _ (same _ refl) (same _ refl)
    line_same kinds.ClockLoad micro h = same _ refl
    line_same kinds.StampExchange micro h = either (nat_lt q.word last_clock) _ _ (same _ refl) (same _ refl)
    line_same kinds.ClockRaise micro h = same _ refl
    line_same kinds.ReplyExchange micro h = same _ refl
    line_same kinds.NestedLoad micro h = same _ refl
    line_same kinds.NestedHold micro h = same _ refl
    line_same kinds.OutcomeLoad micro h = same _ refl
    line_same kinds.OutcomeCommit micro h = same _ refl
    line_same _ micro h = same _ refl

    -- a step of a run that is none of a Make
    pub inside_slots : (kind : EventKind) → fills_slot kind ≡ false → Same p (inside_after m l kind p q found)
    inside_slots kind h = either (is_open_run q) _ _ (line_same kind (next_of m q) h) (same _ refl)

  -- a private load, what may end a scan, and a take or a give of the board
  abbrev pub moves_slots : EventKind → Bool
  moves_slots (kinds.PrivateLoad slot word) = true
  moves_slots (kinds.ScanOne n) = true
  moves_slots kinds.Advance = true
  moves_slots (kinds.BoardTake word link) = true
  moves_slots (kinds.BoardGive word slot) = true
  moves_slots _ = false

  -- another step outside a run
  pub outside_slots : (kind : EventKind) → moves_slots kind ≡ false → Same p (outside_after m l kind p found)
  outside_slots kinds.EnterLoad h = same _ refl
  outside_slots kinds.Announce h = same _ refl
  outside_slots kinds.EnterAgain h = same _ refl
  outside_slots kinds.Idle h = same _ refl
  outside_slots kinds.ScanEpoch h = same _ refl
  outside_slots (kinds.ScanOne n) h = absurd (let z = h in cc)
  outside_slots kinds.Advance h = absurd (let z = h in cc)
  outside_slots kinds.Split h = either (nat_lt p.records.splits l.runners) _ _ (same _ refl) (same _ refl)
  outside_slots (kinds.Join worker) h = same _ refl
  outside_slots (kinds.LoadCell (Some place)) h = same _ refl
  outside_slots (kinds.LoadEntry request reply) h = same _ refl
  outside_slots (kinds.PrivateLoad slot word) h = absurd (let z = h in cc)
  outside_slots (kinds.PrivateStore slot word number) h = same _ refl
  outside_slots (kinds.Hold thunk d) h = either (found == thunk.word) _ _ (same _ refl) (same _ refl)
  outside_slots (kinds.LoadThunk (Some d)) h = same _ refl
  outside_slots (kinds.BoardTake word link) h = absurd (let z = h in cc)
  outside_slots (kinds.BoardGive word slot) h = absurd (let z = h in cc)
  outside_slots _ h = same _ refl
