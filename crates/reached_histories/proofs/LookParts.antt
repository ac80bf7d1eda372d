-- What a step leaves of a runner's look, and of what it has read outside its runs.
use Rattle.std.specs.Prelude.{◌⊎◌, ◌==◌, ◌&&◌, not, nat_lt, nat_le, Bool, true, false, if◌then◌else◌}
use Rattle.std.proofs.Common.{◌≡◌, ℕ, List, [], ◌∷◌, ◌++◌, inl, inr, refl, sym, ap, ◌∙◌, subst, ⊎_elim, Option, Some, None, ◌≢◌}
use Rattle.std.proofs.lemmas.Bool.{cases_eq}
use Rattle.machine_states.specs.map_history.specs.declared.op.Request.{Request}
use Rattle.machine_states.specs.body_terms.specs.Line.{is_end}
use Rattle.machine_states.specs.body_terms.specs.declared.micro.Micro.{Micro}
use Rattle.machine_states.specs.table_words.specs.declared.layout.Layout.{Layout}
use Rattle.machine_states.specs.table_words.specs.Places.{slot_count}
use Rattle.machine_states.specs.table_words.specs.Seen.{upd}
use Rattle.machine_states.specs.structure_laws.specs.Meaning.{Meaning}
use Rattle.machine_states.specs.epoch_core.specs.Moves.{is_clear}
use Rattle.machine_states.specs.epoch_core.specs.State.{last_epoch}
use Rattle.machine_states.specs.epoch_core.specs.declared.stage.Stage.{Stage}
use Rattle.machine_states.specs.epoch_core.specs.declared.stage.Stage.TheVariants as stages
use Rattle.machine_states.specs.runner_parts.specs.declared.event.EventKind.{EventKind}
use Rattle.machine_states.specs.runner_parts.specs.declared.event.EventKind.TheVariants as kinds
use Rattle.machine_states.specs.runner_parts.specs.State.{RunState, ReadsState, PartState}
use Rattle.machine_states.specs.runner_steps.specs.Sections.{is_open_run, next_of}
use Rattle.machine_states.specs.runner_steps.specs.InRun.{last_clock}
use Rattle.machine_states.specs.runner_steps.specs.AfterInRun as inside
use Rattle.machine_states.specs.runner_steps.specs.AfterOutside as outside
use Rattle.machine_states.specs.runner_steps.specs.After.{knows_also, leaves}
use Rattle.machine_states.specs.runner_steps.specs.After.{line_after, inside_after, outside_after, after_by, after}
use Rattle.machine_states.specs.Sight.{Sight, Steps, parts_after}
use Rattle.machine_states.proofs.Updates.{upd_here, upd_else}

-- a step of a read without a lock, or an entry, which changes the look
abbrev pub is_looking_kind : EventKind → Bool
is_looking_kind kinds.EnterAgain = true
is_looking_kind (kinds.ReadPlan thunk) = true
is_looking_kind kinds.ReadClock = true
is_looking_kind kinds.ReadReply = true
is_looking_kind kinds.ReadStamp = true
is_looking_kind _ = false

-- the look is the same, and who is entered was so; and so is what was read, unless this step is the load of a cell outside a run
pub record LooksOn (kind : EventKind) (found : ℕ) (p p' : PartState) : Type 0 where
  pub look : p'.reads.look ≡ p.reads.look
  pub stage : (g : ℕ) → p'.stage ≡ stages.Entered g → p.stage ≡ stages.Entered g
  pub walk : (p'.reads.walk ≡ p.reads.walk)
      ⊎ ((place : ℕ) × (kind ≡ kinds.LoadCell (Some place)) × (p.run ≡ None) × (p'.reads.walk ≡ p.reads.walk ++ (place, found) ∷ []))

module _ (m : Meaning) (l : Layout) (p : PartState) (found : ℕ) where
  module _ (kind : EventKind) where
    stay : (p' : PartState) → p'.stage ≡ p.stage → p'.reads.look ≡ p.reads.look → p'.reads.walk ≡ p.reads.walk → LooksOn kind found p p'
    stay p' same look walk = record { look = look; stage = λ g e. sym same ∙ e; walk = inl walk }

    -- a step behind which nobody is entered
    out : (p' : PartState) → ((g : ℕ) → p'.stage ≡ stages.Entered g → ⊥) → p'.reads.look ≡ p.reads.look → p'.reads.walk ≡ p.reads.walk → LooksOn kind found p p'
    out p' away look walk = record { look = look; stage = λ g e. absurd (away g e); walk = inl walk }

    either : (b : Bool) (y z : PartState) → LooksOn kind found p y → LooksOn kind found p z → LooksOn kind found p (if b then y else z)
    either true y z one two = one
    either false y z one two = two

  module _ (q : RunState) where
    fill : (slot word : ℕ) (made : Option ℕ) → LooksOn (kinds.PrivateLoad slot word) found p (inside.fill_loaded m l slot p q made found)
    fill slot word None = stay (kinds.PrivateLoad slot word) _ refl refl refl
    fill slot word (Some t) = stay (kinds.PrivateLoad slot word) _ refl refl refl

    make : (made : Option ℕ) → LooksOn kinds.MakeCommit found p (inside.make_committed m l p q made found)
    make None = stay kinds.MakeCommit _ refl refl refl
    make (Some t) = stay kinds.MakeCommit _ refl refl refl

    line_looks : (kind : EventKind) (micro : Micro) → LooksOn kind found p (line_after m l kind p q micro found)
    line_looks (kinds.PrivateLoad slot word) micro = fill slot word q.made
    line_looks kinds.MakeCommit micro = make q.made
    line_looks kinds.Release micro =
        either kinds.Release (is_end (next_of m (inside.ended_more q))) _ _ (stay kinds.Release _ refl refl refl) (stay kinds.Release _ refl refl refl)
    line_looks kinds.StampExchange micro =
        either kinds.StampExchange (nat_lt q.word last_clock) _ _ (stay kinds.StampExchange _ refl refl refl) (stay kinds.StampExchange _ refl refl refl)
    line_looks kind micro = stay kind _ refl refl refl

    inside_looks : (kind : EventKind) → LooksOn kind found p (inside_after m l kind p q found)
    inside_looks kind = either kind (is_open_run q) _ _ (line_looks kind (next_of m q)) (stay kind _ refl refl refl)

  scan : (n : ℕ) (stage : Stage) → LooksOn (kinds.ScanOne n) found p (outside.scan_one_after l p stage found)
  scan n (stages.Scanning y next clear) = either (kinds.ScanOne n) (nat_le next l.runners) _ _
      (either (kinds.ScanOne n) (next == l.runners && not ((clear && is_clear y found) && nat_lt y last_epoch)) _ _
      (out (kinds.ScanOne n) _ (λ g e. let z = e in cc) refl refl) (out (kinds.ScanOne n) _ (λ g e. let z = e in cc) refl refl))
      (stay (kinds.ScanOne n) _ refl refl refl)
  scan n _ = stay (kinds.ScanOne n) _ refl refl refl

  advance : (stage : Stage) → LooksOn kinds.Advance found p (outside.advance_after p stage)
  advance (stages.Scanning y next clear) =
      either kinds.Advance (nat_lt y last_epoch) _ _ (out kinds.Advance _ (λ g e. let z = e in cc) refl refl) (stay kinds.Advance _ refl refl refl)
  advance _ = stay kinds.Advance _ refl refl refl

  outside_looks : (kind : EventKind) → p.run ≡ None → is_looking_kind kind ≡ false → LooksOn kind found p (outside_after m l kind p found)
  outside_looks kinds.EnterAgain none plain = absurd (let z = plain in cc)
  outside_looks (kinds.ReadPlan thunk) none plain = absurd (let z = plain in cc)
  outside_looks kinds.ReadClock none plain = absurd (let z = plain in cc)
  outside_looks kinds.ReadReply none plain = absurd (let z = plain in cc)
  outside_looks kinds.ReadStamp none plain = absurd (let z = plain in cc)
  outside_looks kinds.EnterLoad none plain = out kinds.EnterLoad _ (λ g e. let z = e in cc) refl refl
  outside_looks kinds.Announce none plain = out kinds.Announce _ (λ g e. let z = e in cc) refl refl
  outside_looks kinds.Idle none plain = out kinds.Idle _ (λ g e. let z = e in cc) refl refl
  outside_looks kinds.ScanEpoch none plain = out kinds.ScanEpoch _ (λ g e. let z = e in cc) refl refl
  outside_looks (kinds.ScanOne n) none plain = scan n p.stage
  outside_looks kinds.Advance none plain = advance p.stage
  outside_looks kinds.Split none plain =
      either kinds.Split (nat_lt p.records.splits l.runners) _ _ (stay kinds.Split _ refl refl refl) (stay kinds.Split _ refl refl refl)
  outside_looks (kinds.LoadCell (Some place)) none plain = record { look = refl; stage = λ g e. e; walk = inr (place, refl, none, refl) }
  outside_looks (kinds.LoadCell None) none plain = stay (kinds.LoadCell None) _ refl refl refl
  outside_looks (kinds.PrivateLoad slot word) none plain = either (kinds.PrivateLoad slot word) (nat_lt slot (slot_count l m.fixed_slots)) _ _
      (stay (kinds.PrivateLoad slot word) _ refl refl refl) (stay (kinds.PrivateLoad slot word) _ refl refl refl)
  outside_looks (kinds.Hold thunk d) none plain = either (kinds.Hold thunk d) (found == thunk.word) _ _
      (stay (kinds.Hold thunk d) _ refl refl refl) (stay (kinds.Hold thunk d) _ refl refl refl)
  outside_looks (kinds.LoadThunk (Some d)) none plain = stay (kinds.LoadThunk (Some d)) _ refl refl refl
  outside_looks (kinds.LoadThunk None) none plain = stay (kinds.LoadThunk None) _ refl refl refl
  outside_looks kind none plain = stay kind _ refl refl refl

  by_looks : (kind : EventKind) (o : Option RunState) → p.run ≡ o → is_looking_kind kind ≡ false → LooksOn kind found p (after_by m l kind p o found)
  by_looks kind None is plain = outside_looks kind is plain
  by_looks kind (Some q) is plain = inside_looks q kind

-- a part with the same reads, at the same stage
pub record SameReads (p p' : PartState) : Type 0 where
  pub reads : p'.reads ≡ p.reads
  pub stage : p'.stage ≡ p.stage

same_part : (p p' : PartState) → p' ≡ p → SameReads p p'
same_part p p' e = record { reads = ap (λ (y : PartState). y.reads) e; stage = ap (λ (y : PartState). y.stage) e }

-- the part of each runner
module _ (m : Meaning) (l : Layout) (rs : List Request) (s s' : Sight) (r : ℕ) (kind : EventKind) (step : Steps m l rs s s' r kind) where
  part1 : PartState
  part1 = after m l r kind step.ask.0 step.ask.1 (s.part r) (s.word step.ask.0)

  -- of another runner the reads and the stage stay
  pub other_reads : (i : ℕ) → i ≢ r → SameReads (s.part i) (s'.part i)
  unfolding part1
  other_reads i ne = subst (λ (t : Sight). SameReads (s.part i) (t.part i)) (sym step.next) (at_kind kind)
    where
      one : (p' : PartState) → SameReads (s.part i) (upd s.part r p' i)
      one p' = same_part (s.part i) (upd s.part r p' i) (upd_else s.part r p' i ne)

      joining : (worker : ℕ) (p' : PartState) → SameReads (s.part i) (upd (upd s.part r p') worker (leaves (s.part worker)) i)
      joining worker p' = ⊎_elim
          (λ e. subst (λ k. SameReads (s.part k) (upd (upd s.part r p') worker (leaves (s.part worker)) i)) (sym e)
          (subst (SameReads (s.part worker)) (sym (ap (upd (upd s.part r p') worker (leaves (s.part worker))) e ∙ upd_here (upd s.part r p') worker (leaves (s.part worker))))
          (record { reads = refl; stage = refl })))
          (λ no. subst (SameReads (s.part i)) (sym (upd_else (upd s.part r p') worker (leaves (s.part worker)) i no)) (one p'))
          (cases_eq i worker)

      at_kind : (kind' : EventKind) → SameReads (s.part i) (parts_after kind' s.part r part1 i)
      at_kind (kinds.Join worker) = joining worker (knows_also part1 (s.part worker))
      at_kind kind' = one part1

  -- of the runner itself they are those after its step
  own_reads : SameReads part1 (s'.part r) ⊎ SameReads (s.part r) (s'.part r)
  unfolding part1
  own_reads = subst (λ (t : Sight). SameReads part1 (t.part r) ⊎ SameReads (s.part r) (t.part r)) (sym step.next) (at_kind kind)
    where
      joining : (worker : ℕ) → SameReads part1 (upd (upd s.part r (knows_also part1 (s.part worker))) worker (leaves (s.part worker)) r)
          ⊎ SameReads (s.part r) (upd (upd s.part r (knows_also part1 (s.part worker))) worker (leaves (s.part worker)) r)
      joining worker =
          let f = upd s.part r (knows_also part1 (s.part worker)) in
          ⊎_elim
          (λ e. inr (subst (λ k. SameReads (s.part k) (upd f worker (leaves (s.part worker)) r)) (sym e)
          (subst (SameReads (s.part worker)) (sym (ap (upd f worker (leaves (s.part worker))) e ∙ upd_here f worker (leaves (s.part worker))))
          (record { reads = refl; stage = refl }))))
          (λ no. inl (subst (SameReads part1) (sym (upd_else f worker (leaves (s.part worker)) r no ∙ upd_here s.part r (knows_also part1 (s.part worker))))
          (record { reads = refl; stage = refl })))
          (cases_eq r worker)

      at_kind : (kind' : EventKind) → SameReads part1 (parts_after kind' s.part r part1 r) ⊎ SameReads (s.part r) (parts_after kind' s.part r part1 r)
      at_kind (kinds.Join worker) = joining worker
      at_kind kind' = inl (same_part part1 (upd s.part r part1 r) (upd_here s.part r part1))

  pub own_looks : is_looking_kind kind ≡ false → LooksOn kind (s.word step.ask.0) (s.part r) (s'.part r)
  unfolding part1
  own_looks plain = ⊎_elim
      (λ own. let h = by_looks m l (s.part r) (s.word step.ask.0) kind (s.part r).run refl plain in record {
        look = ap (λ (y : ReadsState). y.look) own.reads ∙ h.look;
        stage = λ g e. h.stage g (sym own.stage ∙ e);
        walk = subst (λ (y : ReadsState). (y.walk ≡ (s.part r).reads.walk)
            ⊎ ((place : ℕ) × (kind ≡ kinds.LoadCell (Some place)) × ((s.part r).run ≡ None) × (y.walk ≡ (s.part r).reads.walk ++ (place, s.word step.ask.0) ∷ []))) (sym own.reads) h.walk;
      })
      (λ same. record { look = ap (λ (y : ReadsState). y.look) same.reads; stage = λ g e. sym same.stage ∙ e; walk = inl (ap (λ (y : ReadsState). y.walk) same.reads) })
      own_reads
