-- What each step of a runner leaves of where its descriptors are.
use Rattle.std.specs.Prelude.{◌==◌, ◌&&◌, ◌||◌, ◌⊎◌, not, nat_lt, nat_le, Bool, true, false, if◌then◌else◌}
use Rattle.std.specs.List.{filter}
use Rattle.std.proofs.Common.{◌≡◌, ◌≢◌, ℕ, ◌+◌, List, [], ◌∷◌, refl, sym, ap, ◌∙◌, inl, inr, ⊎_elim, arith, Option, Some, None}
use Rattle.std.proofs.lemmas.Bool.{cases_eq}
use Rattle.std.proofs.lemmas.Bool.Decides.{nat_tests}
use Rattle.section_lines.specs.small_lemmas.proofs.Bools.{or_true as or_right}
use Rattle.machine_states.specs.body_terms.specs.Line.{is_end}
use Rattle.machine_states.specs.body_terms.specs.declared.micro.Micro.{Micro}
use Rattle.machine_states.specs.body_terms.specs.declared.thunk.Thunk.{Thunk}
use Rattle.machine_states.specs.table_words.specs.declared.layout.Layout.{Layout}
use Rattle.machine_states.specs.table_words.specs.Places.{slot_count}
use Rattle.machine_states.specs.structure_laws.specs.Meaning.{Meaning}
use Rattle.machine_states.specs.epoch_core.specs.Moves.{is_clear}
use Rattle.machine_states.specs.guard_core.specs.Moves.{is_unnamed}
use Rattle.machine_states.specs.runner_parts.specs.declared.entries.Published.{Published}
use Rattle.machine_states.specs.epoch_core.specs.declared.stage.Stage.{Stage}
use Rattle.machine_states.specs.epoch_core.specs.declared.stage.Stage.TheVariants as stages
use Rattle.machine_states.specs.runner_parts.specs.declared.event.EventKind.{EventKind}
use Rattle.machine_states.specs.runner_parts.specs.declared.event.EventKind.TheVariants as kinds
use Rattle.machine_states.specs.runner_parts.specs.State.{RunState, GuardsState, PartState}
use Rattle.machine_states.specs.runner_parts.specs.Lists.{without, descriptor_retired, descriptors_swept}
use Rattle.machine_states.specs.runner_parts.specs.Tests.{has}
use Rattle.machine_states.specs.runner_steps.specs.Sections.{is_open_run, next_of}
use Rattle.machine_states.specs.epoch_core.specs.State.{last_epoch}
use Rattle.machine_states.specs.runner_steps.specs.InRun.{last_clock}
use Rattle.machine_states.specs.runner_steps.specs.AfterInRun as inside
use Rattle.machine_states.specs.runner_steps.specs.AfterOutside as outside
use Rattle.machine_states.specs.runner_steps.specs.After.{line_after, inside_after, outside_after}
use Rattle.machine_states.specs.runner_steps.specs.Guards.{is_last_guard}
use Rattle.machine_states.proofs.Steps.{some_same, none_some}
use Rattle.machine_facts.specs.machine_agreement.specs.machine_epochs.proofs.Places.{has_append}
use Rattle.runner_facts.specs.Own.{HasOwn}

-- what stands in a list stands there still where it isn't the number that is taken out
without_has : (xs : List ℕ) (d d0 : ℕ) → d ≢ d0 → has xs d ≡ true → has (without xs d0) d ≡ true
without_has [] d d0 ne h = h
without_has (x ∷ xs) d d0 ne h = by (x == d0) refl (x == d) refl h (without_has xs d d0 ne)
  where
    clash : (x d d0 : ℕ) → (x == d0) ≡ true → (x == d) ≡ true → d ≡ d0
    clash x d d0 a b = grind (arith, nat_tests)

    by : (a : Bool) → (x == d0) ≡ a → (b : Bool) → (x == d) ≡ b → (b || has xs d) ≡ true → (has xs d ≡ true → has (without xs d0) d ≡ true)
        → has (if not a then x ∷ without xs d0 else without xs d0) d ≡ true
    by true ea true eb h rest = absurd (ne (clash x d d0 ea eb))
    by true ea false eb h rest = rest h
    by false ea true eb h rest = ap (λ c. c || has (without xs d0) d) eb
    by false ea false eb h rest = ap (λ c. c || has (without xs d0) d) eb ∙ rest h

-- of a list each is among those that pass a test or among the others
split_has : (f : ℕ → Bool) (xs : List ℕ) (d : ℕ) → has xs d ≡ true
    → (has (filter f xs) d ≡ true) ⊎ (has (filter (λ x. not (f x)) xs) d ≡ true)
split_has f [] d h = inl h
split_has f (x ∷ xs) d h = by (f x) (x == d) refl h (split_has f xs d)
  where
    more : (c : Bool) (ys : List ℕ) → has ys d ≡ true → has (if c then x ∷ ys else ys) d ≡ true
    more true ys e = ap (λ b. (x == d) || b) e ∙ or_right (x == d)
    more false ys e = e

    by : (c b : Bool) → (x == d) ≡ b → (b || has xs d) ≡ true
        → (has xs d ≡ true → (has (filter f xs) d ≡ true) ⊎ (has (filter (λ y. not (f y)) xs) d ≡ true))
        → (has (if c then x ∷ filter f xs else filter f xs) d ≡ true)
        ⊎ (has (if not c then x ∷ filter (λ y. not (f y)) xs else filter (λ y. not (f y)) xs) d ≡ true)
    by true true eb h rest = inl (ap (λ a. a || has (filter f xs) d) eb)
    by false true eb h rest = inr (ap (λ a. a || has (filter (λ y. not (f y)) xs) d) eb)
    by c false eb h rest = ⊎_elim (λ e. inl (more c (filter f xs) e)) (λ e. inr (more (not c) (filter (λ y. not (f y)) xs) e)) (rest h)

module _ (m : Meaning) (l : Layout) (d : ℕ) (p : PartState) (found : ℕ) where
  -- the descriptor stays with the runner
  pub record Keeps (p' : PartState) : Type 0 where
    pub own : HasOwn p d → HasOwn p' d

  same : (p' : PartState) → p'.descriptors.free ≡ p.descriptors.free → p'.descriptors.limbo ≡ p.descriptors.limbo → p'.published ≡ p.published → Keeps p'
  same p' free limbo published = record {
    own = λ own. ⊎_elim (λ h. inl (ap (λ xs. has xs d) free ∙ h))
        (λ more. ⊎_elim (λ h. inr (inl (ap (λ xs. has xs d) limbo ∙ h))) (λ h. inr (inr (h.0, published ∙ h.1, h.2))) more) own;
  }

  either : (b : Bool) (y z : PartState) → Keeps y → Keeps z → Keeps (if b then y else z)
  either true y z one two = one
  either false y z one two = two

  -- the own section that a run ended goes into limbo
  over : (o : Option Published) (d0 : ℕ) → p.published ≡ o → HasOwn p d
      → HasOwn (record p { published = inside.kept_unless o d0; descriptors = inside.retired_if p.descriptors o d0 }) d
  over None d0 is own = ⊎_elim (λ h. inl h) (λ more. ⊎_elim (λ h. inr (inl h)) (λ h. absurd (none_some h.0 (sym h.1 ∙ is))) more) own
  over (Some y) d0 is own = by (y.descriptor == d0) refl
    where
      same : (a b : ℕ) → (a == b) ≡ true → a ≡ b
      same a b e = grind (arith, nat_tests)

      by : (b : Bool) → (y.descriptor == d0) ≡ b
          → HasOwn (record p { published = (if b then None else Some y); descriptors = (if b then descriptor_retired p.descriptors d0 else p.descriptors) }) d
      by false e = ⊎_elim (λ h. inl h) (λ more. ⊎_elim (λ h. inr (inl h)) (λ h. inr (inr (y, refl, ap (λ (z : Published). z.descriptor) (some_same y h.0 (sym is ∙ h.1)) ∙ h.2))) more) own
      by true e = ⊎_elim (λ h. inl h) (λ more. inr (inl (has_append p.descriptors.limbo (d0 ∷ []) d ∙ ⊎_elim
          (λ h. ap (λ b. b || has (d0 ∷ []) d) h)
          (λ h. ap (λ b. has p.descriptors.limbo d || b) (one d0 d (sym (same y.descriptor d0 e) ∙ (ap (λ (z : Published). z.descriptor) (some_same y h.0 (sym is ∙ h.1)) ∙ h.2)))
          ∙ or_right (has p.descriptors.limbo d))
          more))) own
        where
          one : (a b : ℕ) → a ≡ b → ((a == b) || false) ≡ true
          one a b e = grind (arith, nat_tests)

  module _ (q : RunState) where
    fill : (slot : ℕ) (made : Option ℕ) → Keeps (inside.fill_loaded m l slot p q made found)
    fill slot None = same _ refl refl refl
    fill slot (Some t) = same _ refl refl refl

    make : (made : Option ℕ) → Keeps (inside.make_committed m l p q made found)
    make None = same p refl refl refl
    make (Some t) = same _ refl refl refl

    released : (place : ℕ) → Keeps (inside.lock_released m l place p q found)
    released place = either (is_end (next_of m (inside.ended_more q))) _ _
        (record { own = over p.published q.descriptor refl })
        (same _ refl refl refl)

    line_keeps : (kind : EventKind) (micro : Micro) → Keeps (line_after m l kind p q micro found)
    line_keeps kinds.Commit micro = same _ refl refl refl
    line_keeps (kinds.LoadCell place) micro = same _ refl refl refl
    line_keeps kinds.ExchangeCell micro = same _ refl refl refl
    line_keeps (kinds.PrivateLoad slot word) micro = fill slot q.made
    line_keeps (kinds.PrivateStore slot word number) micro = same _ refl refl refl
    line_keeps (kinds.LinkCommit b) micro = same _ refl refl refl
    line_keeps kinds.MakeCommit micro = make q.made
    line_keeps kinds.RetireCommit micro = same _ refl refl refl
    line_keeps kinds.EpochForRetire micro = same _ refl refl refl
    line_keeps kinds.SetDone micro = same _ refl refl refl
    line_keeps kinds.Release micro = released (inside.place_of micro)
    line_keeps kinds.ClockLoad micro = same _ refl refl refl
    line_keeps kinds.StampExchange micro = either (nat_lt q.word last_clock) _ _ (same _ refl refl refl) (same p refl refl refl)
    line_keeps kinds.ClockRaise micro = same _ refl refl refl
    line_keeps kinds.ReplyExchange micro = same _ refl refl refl
    line_keeps kinds.NestedLoad micro = same _ refl refl refl
    line_keeps kinds.NestedHold micro = same _ refl refl refl
    line_keeps kinds.OutcomeLoad micro = same _ refl refl refl
    line_keeps kinds.OutcomeCommit micro = same _ refl refl refl
    line_keeps kind micro = same p refl refl refl

    pub inside_keeps : (kind : EventKind) → Keeps (inside_after m l kind p q found)
    inside_keeps kind = either (is_open_run q) _ _ (line_keeps kind (next_of m q)) (same _ refl refl refl)

  -- the end of a scan moves no descriptors
  collected : (epoch : ℕ) → Keeps (outside.collected p epoch)
  collected epoch = same _ refl refl refl

  -- the end of a sweep moves descriptors from limbo to the free list
  swept : (last : Bool) (words : List ℕ) (guards : GuardsState)
      → Keeps (record p { descriptors = (if last then descriptors_swept words p.descriptors else p.descriptors); guards = guards })
  swept true words guards = record {
    own = λ own. ⊎_elim
        (λ h. inl (has_append p.descriptors.free (filter (is_unnamed words) p.descriptors.limbo) d ∙ ap (λ b. b || has (filter (is_unnamed words) p.descriptors.limbo) d) h))
        (λ more. ⊎_elim
        (λ h. ⊎_elim
        (λ unnamed. inl (has_append p.descriptors.free (filter (is_unnamed words) p.descriptors.limbo) d
        ∙ (ap (λ b. has p.descriptors.free d || b) unnamed ∙ or_right (has p.descriptors.free d))))
        (λ named. inr (inl named)) (split_has (is_unnamed words) p.descriptors.limbo d h))
        (λ h. inr (inr h)) more) own;
  }
  swept false words guards = same _ refl refl refl

  scan : (stage : Stage) → Keeps (outside.scan_one_after l p stage found)
  scan (stages.Scanning x next clear) = either (nat_le next l.runners) _ _
      (either (next == l.runners && not ((clear && is_clear x found) && nat_lt x last_epoch)) _ _ (collected x) (same _ refl refl refl)) (same p refl refl refl)
  scan _ = same p refl refl refl

  advance : (stage : Stage) → Keeps (outside.advance_after p stage)
  advance (stages.Scanning x next clear) = either (nat_lt x last_epoch) _ _ (collected (x + 1)) (same p refl refl refl)
  advance _ = same p refl refl refl

  -- a published descriptor leaves the free list
  hold : (t : Thunk) (d0 : ℕ) → p.published ≡ None → Keeps (outside.hold_after t d0 p found)
  hold t d0 none = either (found == t.word) _ _
      (record {
        own = λ own. ⊎_elim
            (λ h. ⊎_elim (λ e. inr (inr (outside.published_by t d0 p, refl, sym e))) (λ ne. inl (without_has p.descriptors.free d d0 ne h)) (cases_eq d d0))
            (λ more. ⊎_elim (λ h. inr (inl h)) (λ h. absurd (none_some h.0 (sym h.1 ∙ none))) more) own;
      })
      (same _ refl refl refl)

  -- a publication comes where nothing is published
  abbrev pub MayHold : EventKind → Type 0
  MayHold (kinds.Hold t d0) = p.published ≡ None
  MayHold _ = Unit {0}

  pub outside_keeps : (kind : EventKind) → MayHold kind → Keeps (outside_after m l kind p found)
  outside_keeps kinds.EnterLoad may = same _ refl refl refl
  outside_keeps kinds.Announce may = same _ refl refl refl
  outside_keeps kinds.EnterAgain may = same _ refl refl refl
  outside_keeps kinds.Idle may = same _ refl refl refl
  outside_keeps kinds.ScanEpoch may = same _ refl refl refl
  outside_keeps (kinds.ScanOne n) may = scan p.stage
  outside_keeps kinds.Advance may = advance p.stage
  outside_keeps kinds.Split may = either (nat_lt p.records.splits l.runners) _ _ (same _ refl refl refl) (same p refl refl refl)
  outside_keeps (kinds.Join worker) may = same _ refl refl refl
  outside_keeps (kinds.LoadCell (Some place)) may = same _ refl refl refl
  outside_keeps (kinds.LoadEntry request reply) may = same _ refl refl refl
  outside_keeps (kinds.PrivateLoad slot word) may = either (nat_lt slot (slot_count l m.fixed_slots)) _ _ (same _ refl refl refl) (same _ refl refl refl)
  outside_keeps (kinds.PrivateStore slot word number) may = same _ refl refl refl
  outside_keeps (kinds.Hold t d0) may = hold t d0 may
  outside_keeps (kinds.LoadThunk (Some d0)) may = same _ refl refl refl
  outside_keeps (kinds.LoadGuard n) may = swept (is_last_guard l p.guards.looked) _ _
  outside_keeps kind may = same _ refl refl refl
