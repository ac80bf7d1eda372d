-- No step but a join changes whom the keeper has joined; each step adds one entry to the record of what its steps left.
use Rattle.std.specs.Prelude.{◌==◌, ◌&&◌, not, nat_lt, nat_le, Bool, true, false, if◌then◌else◌}
use Rattle.std.proofs.Common.{◌≡◌, ℕ, List, [], ◌∷◌, ◌++◌, refl, ap, ◌∙◌, arith, Option, Some, None}
use Rattle.std.proofs.lemmas.Bool.Decides.{nat_tests}
use Rattle.machine_states.specs.body_terms.specs.Line.{is_end}
use Rattle.machine_states.specs.body_terms.specs.declared.micro.Micro.{Micro}
use Rattle.machine_states.specs.table_words.specs.declared.layout.Layout.{Layout}
use Rattle.machine_states.specs.table_words.specs.declared.spot.Spot.{Spot}
use Rattle.machine_states.specs.table_words.specs.declared.access.Access.{Access}
use Rattle.machine_states.specs.table_words.specs.Access.{written}
use Rattle.machine_states.specs.table_words.specs.Places.{slot_count}
use Rattle.machine_states.specs.structure_laws.specs.Meaning.{Meaning}
use Rattle.machine_states.specs.epoch_core.specs.Moves.{is_clear}
use Rattle.machine_states.specs.runner_parts.specs.declared.entries.Left.{Left}
use Rattle.machine_states.specs.epoch_core.specs.declared.stage.Stage.{Stage}
use Rattle.machine_states.specs.epoch_core.specs.declared.stage.Stage.TheVariants as stages
use Rattle.machine_states.specs.runner_parts.specs.declared.event.EventKind.{EventKind}
use Rattle.machine_states.specs.runner_parts.specs.declared.event.EventKind.TheVariants as kinds
use Rattle.machine_states.specs.runner_parts.specs.State.{RunState, RecordsState, PartState}
use Rattle.machine_states.specs.runner_parts.specs.Lists.{learned}
use Rattle.machine_states.specs.runner_steps.specs.Sections.{is_open_run, next_of}
use Rattle.machine_states.specs.epoch_core.specs.State.{last_epoch}
use Rattle.machine_states.specs.runner_steps.specs.InRun.{last_clock}
use Rattle.machine_states.specs.runner_steps.specs.AfterInRun as inside
use Rattle.machine_states.specs.runner_steps.specs.AfterOutside as outside
use Rattle.machine_states.specs.runner_steps.specs.After.{left_more, noted}
use Rattle.machine_states.specs.runner_steps.specs.After.{line_after, inside_after, outside_after, after_by}
use Rattle.machine_states.specs.World.{is_join}

-- whom the keeper has joined, and what its steps since then left
abbrev pub kept_by : RecordsState → List ℕ × List Left
kept_by z = (z.joined, z.left)

learned_keeps : (z : RecordsState) (request : ℕ) (reply : Bool) (n : ℕ) → kept_by (learned z request reply n) ≡ kept_by z
learned_keeps z request reply n = by (n == 0)
  where
    by : (b : Bool) → kept_by (if b then z else record z { known = z.known ++ record { request = request; reply = reply; number = n } ∷ [] }) ≡ kept_by z
    by true = refl
    by false = refl

module _ (m : Meaning) (l : Layout) (p : PartState) (found : ℕ) where
  abbrev Keeps : PartState → Type 0
  Keeps p' = kept_by p'.records ≡ kept_by p.records

  either : (b : Bool) (y z : PartState) → Keeps y → Keeps z → Keeps (if b then y else z)
  either true y z one two = one
  either false y z one two = two

  module _ (q : RunState) where
    fill_keeps : (slot : ℕ) (made : Option ℕ) → Keeps (inside.fill_loaded m l slot p q made found)
    fill_keeps slot None = refl
    fill_keeps slot (Some t) = refl

    make_keeps : (made : Option ℕ) → Keeps (inside.make_committed m l p q made found)
    make_keeps None = refl
    make_keeps (Some t) = refl

    line_keeps : (kind : EventKind) (micro : Micro) → Keeps (line_after m l kind p q micro found)
    line_keeps kinds.Commit micro = refl
    line_keeps (kinds.PrivateLoad slot word) micro = fill_keeps slot q.made
    line_keeps kinds.MakeCommit micro = make_keeps q.made
    line_keeps kinds.Release micro = either (is_end (next_of m (inside.ended_more q))) _ _ refl refl
    line_keeps kinds.StampExchange micro = either (nat_lt q.word last_clock) _ _ (learned_keeps p.records _ false _) refl
    line_keeps kinds.ReplyExchange micro = learned_keeps p.records _ true _
    line_keeps _ micro = refl

    inside_keeps : (kind : EventKind) → Keeps (inside_after m l kind p q found)
    inside_keeps kind = either (is_open_run q) _ _ (line_keeps kind (next_of m q)) refl

  scan_keeps : (stage : Stage) → Keeps (outside.scan_one_after l p stage found)
  scan_keeps (stages.Scanning x next clear) = either (nat_le next l.runners) _ _
      (either (next == l.runners && not ((clear && is_clear x found) && nat_lt x last_epoch)) _ _ refl refl) refl
  scan_keeps _ = refl

  advance_keeps : (stage : Stage) → Keeps (outside.advance_after p stage)
  advance_keeps (stages.Scanning x next clear) = either (nat_lt x last_epoch) _ _ refl refl
  advance_keeps _ = refl

  outside_keeps : (kind : EventKind) → is_join kind ≡ false → Keeps (outside_after m l kind p found)
  outside_keeps (kinds.ScanOne n) other = scan_keeps p.stage
  outside_keeps kinds.Advance other = advance_keeps p.stage
  outside_keeps kinds.Split other = either (nat_lt p.records.splits l.runners) _ _ refl refl
  outside_keeps (kinds.Join worker) other = absurd (let z = other in cc)
  outside_keeps (kinds.LoadEntry request reply) other = learned_keeps p.records request reply found
  outside_keeps (kinds.PrivateLoad slot word) other = either (nat_lt slot (slot_count l m.fixed_slots)) _ _ refl refl
  outside_keeps (kinds.Hold t d) other = either (found == t.word) _ _ refl refl
  outside_keeps (kinds.LoadCell (Some place)) other = refl
  outside_keeps (kinds.LoadThunk (Some d)) other = refl
  outside_keeps _ other = refl

  -- before a step is noted these are as they were
  pub after_keeps : (kind : EventKind) → is_join kind ≡ false → (run : Option RunState) → kept_by (after_by m l kind p run found).records ≡ kept_by p.records
  after_keeps kind other None = outside_keeps kind other
  after_keeps kind other (Some q) = inside_keeps q kind

pub noted_joined : (l : Layout) (r : ℕ) (kind : EventKind) (spot : Spot) (access : Access) (n : ℕ) (z : RecordsState)
    → (noted l r kind spot access n z).joined ≡ z.joined
noted_joined l r kind spot access n z = refl

left_pushed : (before : List Left) (kind : EventKind) (spot : Spot) (n : ℕ) → is_join kind ≡ false
    → left_more kind spot n before ≡ before ++ record { spot = spot; number = n } ∷ []
left_pushed before (kinds.Join worker) spot n other = absurd (let e = other in cc)
left_pushed before _ spot n other = refl

-- what the keeper's step adds to its record
pub noted_left : (l : Layout) (r : ℕ) → r ≡ l.runners → (kind : EventKind) (spot : Spot) (access : Access) (found : ℕ) (z : RecordsState) → is_join kind ≡ false
    → (noted l r kind spot access found z).left ≡ z.left ++ record { spot = spot; number = written access found } ∷ []
noted_left l r is kind spot access found z other =
    ap (λ (b : Bool). if b then left_more kind spot (written access found) z.left else z.left) (same r l.runners is)
    ∙ left_pushed z.left kind spot (written access found) other
  where
    same : (a b : ℕ) → a ≡ b → (a == b) ≡ true
    same a b e = grind (arith, nat_tests)
