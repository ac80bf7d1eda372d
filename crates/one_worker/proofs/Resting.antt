-- Who is idle in no run, has no slot in its hand and isn't a worker keeps its node slots, and stays in no run.
use Rattle.std.specs.Prelude.{◌==◌, ◌&&◌, nat_lt, Bool, true, false, if◌then◌else◌}
use Rattle.std.proofs.Common.{◌≡◌, ℕ, ◌≤◌, List, [], refl, sym, ap, ◌∙◌, arith, Some}
use Rattle.machine_states.specs.map_history.specs.declared.op.Request.{Request}
use Rattle.machine_states.specs.table_words.specs.declared.layout.Layout.{Layout}
use Rattle.machine_states.specs.table_words.specs.declared.spot.Spot.{Spot}
use Rattle.machine_states.specs.table_words.specs.declared.access.Access.{Access}
use Rattle.machine_states.specs.table_words.specs.Places.{slot_count}
use Rattle.machine_states.specs.structure_laws.specs.Meaning.{Meaning}
use Rattle.machine_states.specs.epoch_core.specs.declared.stage.Stage.TheVariants.{Idle}
use Rattle.machine_states.specs.runner_parts.specs.declared.event.EventKind.{EventKind}
use Rattle.machine_states.specs.runner_parts.specs.declared.event.EventKind.TheVariants as kinds
use Rattle.machine_states.specs.runner_parts.specs.State.{PartState}
use Rattle.machine_states.specs.runner_parts.specs.Lists.{nodes_looked, slot_tested, one_more, test_of}
use Rattle.machine_states.specs.runner_parts.specs.Tests.{has}
use Rattle.machine_states.specs.runner_steps.specs.Asks.{outside_ask}
use Rattle.machine_states.specs.runner_steps.specs.After.{outside_after}
use Rattle.resource_bounds.specs.machine_epochs.proofs.OutsideAsked as asked
use Rattle.resource_bounds.specs.machine_epochs.proofs.BoardAsked.{board_take_asked, board_give_asked}

-- the node slots stay, and the run
pub record Rests (p p' : PartState) : Type 0 where
  pub nodes : p'.nodes ≡ p.nodes
  pub run : p'.run ≡ p.run

module _ (m : Meaning) (l : Layout) (rs : List Request) (r : ℕ) (p : PartState) (found : ℕ) (x : Spot × Access)
    (idle : p.stage ≡ Idle) (empty : p.nodes.hand ≡ []) (beyond : l.runners ≤ r) where
  same : (p' : PartState) → p'.nodes ≡ p.nodes → p'.run ≡ p.run → Rests p p'
  same p' nodes run = record { nodes = nodes; run = run }

  either : (b : Bool) (y z : PartState) → Rests p y → Rests p z → Rests p (if b then y else z)
  either true y z one two = one
  either false y z one two = two

  looked : (slot word : ℕ) → nodes_looked l p.nodes slot word found ≡ p.nodes
  looked slot word = ap (λ (hand : List ℕ). if has hand slot && (word == (test_of p.nodes.tests slot).cells && nat_lt word 5)
      then slot_tested p.nodes (one_more l (test_of p.nodes.tests slot) found) else p.nodes) empty

  pub rests : (kind : EventKind) → outside_ask m l rs r kind p ≡ Some x → Rests p (outside_after m l kind p found)
  rests kinds.EnterLoad e = same _ refl refl
  rests kinds.Announce e = same _ refl refl
  rests kinds.EnterAgain e = same _ refl refl
  rests kinds.Idle e = same _ refl refl
  rests kinds.ScanEpoch e = same _ refl refl
  rests (kinds.ScanOne n) e = absurd (let z = sym idle ∙ (asked.scan_one_asked l n p.stage x e).2 in cc)
  rests kinds.Advance e = absurd (let z = sym idle ∙ (asked.advance_asked l p.stage x e).2 in cc)
  rests kinds.Split e = either (nat_lt p.records.splits l.runners) _ _ (same _ refl refl) (same p refl refl)
  rests (kinds.Join worker) e = same _ refl refl
  rests (kinds.LoadCell (Some place)) e = same _ refl refl
  rests (kinds.LoadEntry request reply) e = same _ refl refl
  rests (kinds.PrivateLoad slot word) e = either (nat_lt slot (slot_count l m.fixed_slots)) _ _ (same _ (looked slot word) refl) (same _ refl refl)
  rests (kinds.PrivateStore slot word number) e = same _ refl refl
  rests (kinds.Hold t d) e = either (found == t.word) _ _ (same _ refl refl) (same _ refl refl)
  rests (kinds.LoadThunk (Some d)) e = absurd (let z = sym idle ∙ (asked.open_asked d p x e).1 in cc)
  rests (kinds.BoardTake word link) e = absurd (let low = (board_take_asked l r word link p x e).worker in omega (arith, low, beyond))
  rests (kinds.BoardGive word slot) e = absurd (let low = (board_give_asked l r word slot p x e).worker in omega (arith, low, beyond))
  rests kind e = same _ refl refl
