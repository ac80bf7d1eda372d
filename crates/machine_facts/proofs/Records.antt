-- What a step does to the records of a runner: of the runs that came to their end it keeps all, and a release may add one.
use Rattle.std.specs.Prelude.{◌==◌, ◌&&◌, not, nat_lt, nat_le, Bool, true, false, if◌then◌else◌}
use Rattle.std.proofs.Common.{◌≡◌, ℕ, [], ◌∷◌, ◌++◌, refl, ap, inl, inr, ⊎_elim, Option, Some, None}
use Rattle.std.specs.Prelude.{◌⊎◌}
use Rattle.machine_states.specs.body_terms.specs.declared.micro.Micro.{Micro}
use Rattle.machine_states.specs.body_terms.specs.Line.{is_end}
use Rattle.machine_states.specs.table_words.specs.declared.layout.Layout.{Layout}
use Rattle.machine_states.specs.structure_laws.specs.Meaning.{Meaning}
use Rattle.machine_states.specs.epoch_core.specs.Moves.{is_clear}
use Rattle.machine_states.specs.runner_parts.specs.declared.event.EventKind.{EventKind}
use Rattle.machine_states.specs.runner_parts.specs.declared.event.EventKind.TheVariants as kinds
use Rattle.machine_states.specs.epoch_core.specs.declared.stage.Stage.{Stage}
use Rattle.machine_states.specs.epoch_core.specs.declared.stage.Stage.TheVariants as stages
use Rattle.machine_states.specs.runner_parts.specs.State.{RunState, RecordsState, PartState}
use Rattle.machine_states.specs.runner_parts.specs.Lists.{learned, cell_read}
use Rattle.machine_states.specs.runner_steps.specs.Sections.{is_open_run, next_of}
use Rattle.machine_states.specs.runner_steps.specs.InRun.{last_clock}
use Rattle.machine_states.specs.epoch_core.specs.State.{last_epoch}
use Rattle.machine_states.specs.runner_steps.specs.AfterInRun as inside
use Rattle.machine_states.specs.runner_steps.specs.AfterOutside as outside
use Rattle.machine_states.specs.runner_steps.specs.After.{outside_after, line_after, inside_after, after_by, stepped}
use Rattle.machine_states.specs.table_words.specs.Places.{slot_count}

-- the runs that came to their end are the same
abbrev pub Same : PartState → PartState → Type 0
Same p p' = p'.records.finished ≡ p.records.finished

if_same : (b : Bool) (p x y : PartState) → Same p x → Same p y → Same p (if b then x else y)
if_same true p x y one two = one
if_same false p x y one two = two

learned_same : (s : RecordsState) (request : ℕ) (reply : Bool) (number : ℕ) → (learned s request reply number).finished ≡ s.finished
learned_same s request reply number = by (number == 0)
  where
    by : (b : Bool) → (if b then s else record s { known = s.known ++ record { request = request; reply = reply; number = number } ∷ [] }).finished
        ≡ s.finished
    by true = refl
    by false = refl

module _ (m : Meaning) (l : Layout) where
  scan_same : (p : PartState) (stage : Stage) (found : ℕ) → Same p (outside.scan_one_after l p stage found)
  scan_same p (stages.Scanning x next clear) found = if_same (nat_le next l.runners) p _ _
      (if_same (next == l.runners && not ((clear && is_clear x found) && nat_lt x last_epoch)) p _ _ refl refl) refl
  scan_same p _ found = refl

  advance_same : (p : PartState) (stage : Stage) → Same p (outside.advance_after p stage)
  advance_same p (stages.Scanning x next clear) = if_same (nat_lt x last_epoch) p _ _ refl refl
  advance_same p _ = refl

  outside_same : (kind : EventKind) (p : PartState) (found : ℕ) → Same p (outside_after m l kind p found)
  outside_same (kinds.ScanOne n) p found = scan_same p p.stage found
  outside_same kinds.Advance p found = advance_same p p.stage
  outside_same kinds.Split p found = if_same (nat_lt p.records.splits l.runners) p _ _ refl refl
  outside_same (kinds.LoadEntry request reply) p found = learned_same p.records request reply found
  outside_same (kinds.PrivateLoad slot word) p found = if_same (nat_lt slot (slot_count l m.fixed_slots)) p _ _ refl refl
  outside_same (kinds.Hold thunk d) p found = if_same (found == thunk.word) p _ _ refl refl
  outside_same (kinds.LoadCell (Some place)) p found = refl
  outside_same (kinds.LoadThunk (Some d)) p found = refl
  outside_same _ p found = refl

  -- a release goes on to the next one, or the run is over
  released_same : (p : PartState) (q : RunState) → ((is_end (next_of m q) ≡ true)
      × ((inside.released_more m l p q).records.finished ≡ p.records.finished ++ inside.finished_of m l q ∷ []))
      ⊎ ((inside.released_more m l p q).records.finished ≡ p.records.finished)
  released_same p q = by (is_end (next_of m q)) refl
    where
      by : (b : Bool) → is_end (next_of m q) ≡ b → ((is_end (next_of m q) ≡ true)
          × ((inside.released_more m l p q).records.finished ≡ p.records.finished ++ inside.finished_of m l q ∷ []))
          ⊎ ((inside.released_more m l p q).records.finished ≡ p.records.finished)
      by true e = inl (e, ap (λ (b : Bool). (if b then inside.run_over m l p q else inside.with_run p q).records.finished) e)
      by false e = inr (ap (λ (b : Bool). (if b then inside.run_over m l p q else inside.with_run p q).records.finished) e)

  -- the run that is over with this release
  pub record Ends (p : PartState) (q : RunState) (kind : EventKind) (p' : PartState) : Type 0 where
    pub release : kind ≡ kinds.Release
    pub open_run : is_open_run q ≡ true
    pub over : is_end (next_of m (inside.ended_more q)) ≡ true
    pub more : p'.records.finished ≡ p.records.finished ++ inside.finished_of m l (inside.ended_more q) ∷ []

  module _ (p : PartState) (q : RunState) (found : ℕ) where
    fill_same : (slot : ℕ) (made : Option ℕ) → Same p (inside.fill_loaded m l slot p q made found)
    fill_same slot None = refl
    fill_same slot (Some t) = refl

    make_same : (made : Option ℕ) → Same p (inside.make_committed m l p q made found)
    make_same None = refl
    make_same (Some t) = refl

    stamp_same : Same p (inside.stamp_agreed m l p q found)
    stamp_same = if_same (nat_lt q.word last_clock) p _ _ (learned_same p.records _ false _) refl

    line_same : (kind : EventKind) (micro : Micro) → is_open_run q ≡ true
        → Same p (line_after m l kind p q micro found) ⊎ Ends p q kind (line_after m l kind p q micro found)
    line_same (kinds.PrivateLoad slot word) micro opened = inl (fill_same slot q.made)
    line_same kinds.MakeCommit micro opened = inl (make_same q.made)
    line_same kinds.StampExchange micro opened = inl stamp_same
    line_same kinds.ReplyExchange micro opened = inl (learned_same p.records _ true _)
    line_same kinds.Release micro opened = ⊎_elim
        (λ x. inr (record { release = refl; open_run = opened; over = x.0; more = x.1 }))
        (λ same. inl same)
        (released_same (record p { reads = cell_read p.reads (inside.place_of micro) found }) (inside.ended_more q))
    line_same _ micro opened = inl refl

    inside_same : (kind : EventKind) → Same p (inside_after m l kind p q found) ⊎ Ends p q kind (inside_after m l kind p q found)
    inside_same kind = by (is_open_run q) refl
      where
        by : (b : Bool) → is_open_run q ≡ b
            → Same p (if b then line_after m l kind p q (next_of m q) found else inside.opened_more p q found)
            ⊎ Ends p q kind (if b then line_after m l kind p q (next_of m q) found else inside.opened_more p q found)
        by true e = line_same kind (next_of m q) e
        by false e = inl refl

  -- a step keeps what came to its end, or its runner's run is over with it
  pub stepped_same : (kind : EventKind) (p : PartState) (found : ℕ) → Same p (stepped m l kind p found)
      ⊎ ((q : RunState) × (p.run ≡ Some q) × Ends p q kind (stepped m l kind p found))
  stepped_same kind p found = by p.run refl
    where
      by : (run : Option RunState) → p.run ≡ run → Same p (after_by m l kind p run found)
          ⊎ ((q : RunState) × (p.run ≡ Some q) × Ends p q kind (after_by m l kind p run found))
      by None is = inl (outside_same kind p found)
      by (Some q) is = ⊎_elim (λ same. inl same) (λ ends. inr (q, is, ends)) (inside_same p q found kind)
