-- No event but a split changes how many workers were split off, and none but a give whether each give of the runner's
-- left it enough slots.
use Rattle.std.proofs.Common.{◌≡◌, ℕ, ◌+◌, length, Bool, true, false, refl, sym, ap, ◌∙◌, Option, Some, None, if◌then◌else◌}
use Rattle.std.specs.Prelude.{◌==◌, ◌&&◌, nat_lt, nat_le}
use Rattle.std.proofs.lemmas.Bool.{true≢false}
use Rattle.machine_states.specs.body_terms.specs.declared.micro.Micro.{Micro}
use Rattle.machine_states.specs.table_words.specs.declared.layout.Layout.{Layout}
use Rattle.machine_states.specs.table_words.specs.declared.spot.Spot.{Spot}
use Rattle.machine_states.specs.table_words.specs.declared.access.Access.{Access}
use Rattle.machine_states.specs.structure_laws.specs.Meaning.{Meaning}
use Rattle.machine_states.specs.runner_parts.specs.declared.event.EventKind.{EventKind}
use Rattle.machine_states.specs.runner_parts.specs.declared.event.EventKind.TheVariants as kinds
use Rattle.machine_states.specs.epoch_core.specs.declared.stage.Stage.{Stage}
use Rattle.machine_states.specs.epoch_core.specs.declared.stage.Stage.TheVariants as stages
use Rattle.machine_states.specs.runner_parts.specs.State.{RunState, PartState, RecordsState}
use Rattle.machine_states.specs.runner_steps.specs.Sections.{is_open_run, next_of, thunk_of}
use Rattle.machine_states.specs.body_terms.specs.Run.{written_once}
use Rattle.machine_states.specs.runner_steps.specs.InRun.{stamp_after, last_clock}
use Rattle.machine_states.specs.runner_parts.specs.Lists.{learned, slot_given}
use Rattle.machine_states.specs.runner_steps.specs.AfterOutside.{scan_one_after, advance_after}
use Rattle.machine_states.specs.runner_steps.specs.AfterInRun.{goes_on, opened_more, fill_loaded, make_committed, stamp_agreed}
use Rattle.machine_states.specs.runner_steps.specs.After.{outside_after, line_after, after_by, stepped, noted, after}
use Rattle.version_words.specs.Naming.{is_plain}

abbrev pub is_split : EventKind → Bool
is_split kinds.Split = true
is_split _ = false

-- a node slot goes onto the board
abbrev pub is_give : EventKind → Bool
is_give (kinds.BoardGive word slot) = true
is_give _ = false

-- both of a runner's records
abbrev both : RecordsState → ℕ × Bool
both s = (s.splits, s.gave_above)

abbrev splits : PartState → ℕ × Bool
splits p = both p.records

-- of two parts that have the same, the one that a test chooses has it
chosen : (b : Bool) (p q : PartState) (n : ℕ × Bool) → splits p ≡ n → splits q ≡ n → splits (if b then p else q) ≡ n
chosen true p q n left right = left
chosen false p q n left right = right

known_chosen : (b : Bool) (s t : RecordsState) (n : ℕ × Bool) → both s ≡ n → both t ≡ n → both (if b then s else t) ≡ n
known_chosen true s t n left right = left
known_chosen false s t n left right = right

learns_both : (s : RecordsState) (request : ℕ) (reply : Bool) (number : ℕ) → both (learned s request reply number) ≡ both s
learns_both s request reply number = known_chosen (number == 0) s _ (both s) refl refl

pub learns : (s : RecordsState) (request : ℕ) (reply : Bool) (number : ℕ) → (learned s request reply number).splits ≡ s.splits
learns s request reply number = ap (λ (z : ℕ × Bool). z.0) (learns_both s request reply number)

pub notes : (l : Layout) (r : ℕ) (k : EventKind) (spot : Spot) (access : Access) (found : ℕ) (s : RecordsState) → (noted l r k spot access found s).splits ≡ s.splits
notes l r k spot access found s = refl

scans : (l : Layout) (p : PartState) (stage : Stage) (found : ℕ) → splits (scan_one_after l p stage found) ≡ splits p
scans l p (stages.Scanning x next clear) found = chosen (nat_le next l.runners) _ p (splits p) (chosen _ _ _ (splits p) refl refl) refl
scans l p _ found = refl

advances : (p : PartState) (stage : Stage) → splits (advance_after p stage) ≡ splits p
advances p (stages.Scanning x next clear) = chosen _ _ p (splits p) refl refl
advances p _ = refl

module _ (m : Meaning) (l : Layout) where
  outside : (k : EventKind) (p : PartState) (found : ℕ) → is_split k ≡ false → is_give k ≡ false → splits (outside_after m l k p found) ≡ splits p
  outside kinds.Split p found e g = absurd (true≢false e)
  outside (kinds.ScanOne n) p found e g = scans l p p.stage found
  outside kinds.Advance p found e g = advances p p.stage
  outside (kinds.LoadCell (Some place)) p found e g = refl
  outside (kinds.LoadCell None) p found e g = refl
  outside (kinds.LoadEntry request reply) p found e g = learns_both p.records request reply found
  outside (kinds.PrivateLoad slot word) p found e g = chosen _ _ _ (splits p) refl refl
  outside (kinds.Hold thunk d) p found e g = chosen _ _ _ (splits p) refl refl
  outside (kinds.LoadThunk (Some d)) p found e g = refl
  outside (kinds.LoadThunk None) p found e g = refl
  outside (kinds.BoardGive word slot) p found e g = absurd (true≢false g)
  outside _ p found e g = refl

  fills : (slot : ℕ) (p : PartState) (q : RunState) (made : Option ℕ) (found : ℕ) → splits (fill_loaded m l slot p q made found) ≡ splits p
  fills slot p q None found = refl
  fills slot p q (Some s) found = refl

  makes : (p : PartState) (q : RunState) (made : Option ℕ) (found : ℕ) → splits (make_committed m l p q made found) ≡ splits p
  makes p q None found = refl
  makes p q (Some s) found = refl

  stamps : (p : PartState) (q : RunState) (found : ℕ) → splits (stamp_agreed m l p q found) ≡ splits p
  stamps p q found = let stamp = written_once found (stamp_after q.word) in let request = (thunk_of q.opened).request in
      chosen (nat_lt q.word last_clock) (record p { run = Some (goes_on m l q stamp); records = learned p.records request false stamp }) p (splits p) (learns_both p.records request false stamp) refl

  inside : (k : EventKind) (p : PartState) (q : RunState) (micro : Micro) (found : ℕ) → splits (line_after m l k p q micro found) ≡ splits p
  inside (kinds.PrivateLoad slot word) p q micro found = fills slot p q q.made found
  inside kinds.MakeCommit p q micro found = makes p q q.made found
  inside kinds.Release p q micro found = chosen _ _ _ (splits p) refl refl
  inside kinds.StampExchange p q micro found = stamps p q found
  inside kinds.ReplyExchange p q micro found = learns_both p.records _ _ _
  inside _ p q micro found = refl

  by_run : (k : EventKind) (p : PartState) (o : Option RunState) (found : ℕ) → is_split k ≡ false → is_give k ≡ false → splits (after_by m l k p o found) ≡ splits p
  by_run k p None found e g = outside k p found e g
  by_run k p (Some q) found e g = chosen (is_open_run q) _ _ (splits p) (inside k p q (next_of m q) found) refl

  -- a give splits off nobody
  given : (word slot : ℕ) (p : PartState) (o : Option RunState) (found : ℕ) → (after_by m l (kinds.BoardGive word slot) p o found).records.splits ≡ p.records.splits
  given word slot p None found = refl
  given word slot p (Some q) found = by (is_open_run q)
    where
      by : (b : Bool) → (if b then line_after m l (kinds.BoardGive word slot) p q (next_of m q) found else opened_more p q found).records.splits ≡ p.records.splits
      by true = refl
      by false = refl

  -- and where it leaves as many free as the layout gives a worker, that stays true
  left : (word slot : ℕ) (p : PartState) (o : Option RunState) (found : ℕ) → nat_le l.nodes (length (slot_given p.nodes slot).free) ≡ true → p.records.gave_above ≡ true
      → (after_by m l (kinds.BoardGive word slot) p o found).records.gave_above ≡ true
  left word slot p None found many above = by (found == 0)
    where
      by : (b : Bool) → (if b then p.records.gave_above && nat_le l.nodes (length (slot_given p.nodes slot).free) else p.records.gave_above) ≡ true
      by true = λ i. above i && many i
      by false = above
  left word slot p (Some q) found many above = by (is_open_run q)
    where
      by : (b : Bool) → (if b then line_after m l (kinds.BoardGive word slot) p q (next_of m q) found else opened_more p q found).records.gave_above ≡ true
      by true = above
      by false = above

  module _ (r : ℕ) (spot : Spot) (access : Access) (p : PartState) (found : ℕ) where
    pub kept_splits : (k : EventKind) → is_split k ≡ false → (after m l r k spot access p found).records.splits ≡ p.records.splits
    kept_splits (kinds.BoardGive word slot) e = given word slot p p.run found
    kept_splits k e = notes l r k spot access found (stepped m l k p found).records ∙ ap (λ (x : ℕ × Bool). x.0) (by_run k p p.run found e refl)

    pub kept_above : (k : EventKind) → is_plain l p k ≡ true → p.records.gave_above ≡ true → (after m l r k spot access p found).records.gave_above ≡ true
    kept_above kinds.Split plain above = absurd (true≢false (sym plain))
    kept_above (kinds.Join worker) plain above = absurd (true≢false (sym plain))
    kept_above (kinds.BoardGive word slot) plain above = left word slot p p.run found plain above
    kept_above k plain above = ap (λ (x : ℕ × Bool). x.1) (by_run k p p.run found refl refl) ∙ above

    pub join_above : (worker : ℕ) → (after m l r (kinds.Join worker) spot access p found).records.gave_above ≡ p.records.gave_above
    join_above worker = ap (λ (x : ℕ × Bool). x.1) (by_run (kinds.Join worker) p p.run found refl refl)

  pub split_above : (r : ℕ) (spot : Spot) (access : Access) (p : PartState) (found : ℕ) → p.run ≡ None → (after m l r kinds.Split spot access p found).records.gave_above ≡ p.records.gave_above
  split_above r spot access p found none = ap (λ (o : Option RunState). (after_by m l kinds.Split p o found).records.gave_above) none ∙ by (nat_lt p.records.splits l.runners)
    where
      by : (b : Bool) → (if b then record p { records = record (p.records) { splits = p.records.splits + 1 } } else p).records.gave_above ≡ p.records.gave_above
      by true = refl
      by false = refl
