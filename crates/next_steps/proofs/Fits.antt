-- The numbers that the thunks of published sections give are the table's.
use Rattle.std.specs.Prelude.{◌==◌, ◌||◌, ◌&&◌, ◌*◌, ◌⊎◌, not, nat_lt, nat_le, cond, Bool, true, false, if◌then◌else◌}
use Rattle.std.proofs.Common.{◌≡◌, ◌≢◌, ℕ, ◌+◌, ◌<◌, ◌≤◌, List, [], ◌∷◌, ◌++◌, inr, ⊎_elim, sym, refl, ap, ◌∙◌, subst, arith, Option, Some, None}
use Rattle.std.proofs.lemmas.Bool.Decides.{nat_tests}
use Rattle.machine_states.specs.body_terms.specs.declared.micro.Micro.{Micro}
use Rattle.machine_states.specs.body_terms.specs.declared.micro.Micro.TheVariants as micros
use Rattle.machine_states.specs.body_terms.specs.declared.step.Step.{Step}
use Rattle.machine_states.specs.body_terms.specs.declared.thunk.Thunk.{Thunk}
use Rattle.machine_states.specs.body_terms.specs.Line.{line, micro_at, is_end}
use Rattle.agreement_core.specs.section_lines.proofs.Sources.{of_load, of_take}
use Rattle.agreement_core.specs.section_lines.specs.Line.{phase}
use Rattle.agreement_core.specs.section_lines.proofs.Ordered.{is_ordered}
use Rattle.agreement_core.specs.section_lines.proofs.Phases.{is_in_phases}
use Rattle.agreement_core.specs.section_lines.proofs.Resolved.{is_resolved}
use Rattle.machine_states.specs.table_words.specs.declared.layout.Layout.{Layout}
use Rattle.machine_states.specs.table_words.specs.Places.{slot_count, descriptor_count}
use Rattle.machine_states.specs.table_words.specs.Limits.{IsWithinLimits}
use Rattle.machine_states.specs.structure_laws.specs.Scene.{Readings, Free, Live, Retired, Scene}
use Rattle.machine_states.specs.structure_laws.specs.Scene as scenes
use Rattle.machine_states.specs.structure_laws.specs.Meaning.{Meaning}
use Rattle.machine_states.specs.structure_laws.specs.Cells.{IsSafe, IsKnown}
use Rattle.machine_states.specs.structure_laws.specs.Shape.{Shaped}
use Rattle.machine_states.specs.structure_laws.specs.Laws.{Laws}
use Rattle.machine_states.specs.epoch_core.specs.Moves.{is_clear}
use Rattle.machine_states.specs.epoch_core.specs.declared.stage.Stage.{Stage}
use Rattle.machine_states.specs.epoch_core.specs.declared.stage.Stage.TheVariants as stages
use Rattle.machine_states.specs.runner_parts.specs.declared.entries.Published.{Published}
use Rattle.machine_states.specs.runner_parts.specs.declared.event.EventKind.{EventKind}
use Rattle.machine_states.specs.runner_parts.specs.declared.event.EventKind.TheVariants as kinds
use Rattle.machine_states.specs.runner_parts.specs.State.{RunState, PartState, GuardsState}
use Rattle.machine_states.specs.runner_parts.specs.Tests.{has}
use Rattle.machine_states.specs.runner_parts.specs.Lists.{without, descriptors_swept, descriptor_retired}
use Rattle.machine_states.specs.runner_steps.specs.Sections.{is_open_run, next_of}
use Rattle.machine_states.specs.epoch_core.specs.State.{last_epoch}
use Rattle.machine_states.specs.runner_steps.specs.InRun.{last_clock}
use Rattle.machine_states.specs.runner_steps.specs.AfterInRun as inside
use Rattle.machine_states.specs.runner_steps.specs.AfterInRun.{place_of}
use Rattle.machine_states.specs.runner_steps.specs.AfterOutside as outside
use Rattle.machine_states.specs.runner_steps.specs.After.{line_after, inside_after, outside_after}
use Rattle.machine_states.specs.runner_steps.specs.Guards.{is_last_guard}
use Rattle.machine_states.specs.epoch_core.specs.declared.location.Location.{Location}
use Rattle.machine_states.specs.epoch_core.specs.declared.location.Location.TheVariants as locations
use Rattle.machine_states.specs.epoch_core.specs.Events.{slot_of}
use Rattle.machine_states.specs.epoch_core.specs.History.{is_out}
use Rattle.machine_states.specs.epoch_core.specs.Sound.{is_for_nodes}
use Rattle.machine_states.specs.epoch_core.specs.Lists.{times, in_free}
use Rattle.machine_states.specs.Sight.{Sight}
use Rattle.machine_invariant.specs.machine_blocks.specs.machine_guards.specs.machine_agreement.specs.machine_epochs.specs.Entries.{counts_of}
use Rattle.machine_invariant.specs.machine_blocks.specs.machine_guards.specs.machine_agreement.specs.machine_epochs.proofs.Places.{free_descriptor, has_append}
use Rattle.machine_invariant.specs.machine_blocks.specs.machine_guards.specs.machine_agreement.specs.machine_scenes.specs.Shown.{section_with, scene_of}
use Rattle.machine_invariant.specs.machine_blocks.specs.machine_guards.specs.machine_agreement.specs.machine_scenes.proofs.Shown.{shown_open}
use Rattle.machine_invariant.specs.machine_blocks.specs.machine_guards.specs.machine_agreement.specs.machine_scenes.proofs.Links.{gives}
use Rattle.machine_invariant.specs.Whole.{Beside, states_of, IsWhole}
use Rattle.next_steps.specs.Rooms.{cell_count}
use Rattle.machine_invariant.proofs.Basics.{not_both}

-- a number that a list doesn't have
pub unlisted : (xs : List ℕ) (d : ℕ) → has xs d ≡ false → times d xs ≡ 0
unlisted [] d e = refl
unlisted (x ∷ xs) d e = by (x == d) (has xs d) refl e (unlisted xs d)
  where
    by : (b c : Bool) → has xs d ≡ c → (b || c) ≡ false → (has xs d ≡ false → times d xs ≡ 0) → cond b (1 + times d xs) (times d xs) ≡ 0
    by true c is e rest = absurd (let z = e in cc)
    by false true is e rest = absurd (let z = e in cc)
    by false false is e rest = rest is

-- the line of a shaped body meets cells that its publisher's readings give
module _ (m : Meaning) (l : Layout) (readings : Readings) (t : Thunk) (shaped : Shaped m l readings t) (n : ℕ) (some : 0 < n)
    (known : (p : ℕ) → IsKnown m readings p → p < n) where
  abbrev body : List Step
  body = m.body t

  loads : (i p k : ℕ) → micro_at (line body) i ≡ micros.LoadCell p k → p < n
  loads i p k e =
      let o = of_load body i (micros.LoadCell p k) e refl in
      let same : p ≡ o.0 = let s = o.2.same in cc in
      subst (λ a. a < n) (sym same) (known o.0 (shaped.load_known o.2.from.n o.0 o.1 o.2.from.here))

  takes : (i p k : ℕ) → micro_at (line body) i ≡ micros.NestedLoad p k → p < n
  takes i p k e =
      let o = of_take body i (micros.NestedLoad p k) e refl in
      let same : p ≡ o.0 = let s = o.2.same in cc in
      subst (λ a. a < n) (sym same) (known o.0 (shaped.take_known o.2.from.n o.0 o.1 o.2.from.here))

  holds : (i p w : ℕ) → micro_at (line body) i ≡ micros.NestedHold p w → p < n
  holds i p w e =
      let o = of_take body i (micros.NestedHold p w) e refl in
      let same : p ≡ o.0 = let s = o.2.same in cc in
      subst (λ a. a < n) (sym same) (known o.0 (shaped.take_known o.2.from.n o.0 o.1 o.2.from.here))

  looks : (i p k : ℕ) → micro_at (line body) i ≡ micros.OutcomeLoad p k → p < n
  looks i p k e =
      let o = of_take body i (micros.OutcomeLoad p k) e refl in
      let same : p ≡ o.0 = let s = o.2.same in cc in
      subst (λ a. a < n) (sym same) (known o.0 (shaped.take_known o.2.from.n o.0 o.1 o.2.from.here))

  line_fits : (i : ℕ) (micro : Micro) → micro_at (line body) i ≡ micro → place_of micro < n
  line_fits i (micros.LoadCell p k) e = loads i p k e
  line_fits i (micros.NestedLoad p k) e = takes i p k e
  line_fits i (micros.NestedHold p w) e = holds i p w e
  line_fits i (micros.OutcomeLoad p k) e = looks i p k e
  line_fits i (micros.ExchangeCell p k v) e =
      let by = (is_resolved body shaped.shape).store_loaded i p k v e in
      let at = (is_ordered body).commit_before by.0 p k by.2 in loads at.0 p k at.2
  line_fits i (micros.Release p w) e = released i p w e
    where
      order : (i n : ℕ) → (i < n) ⊎ (n ≤ i)
      order i n = search arith

      released : (i p w : ℕ) → micro_at (line body) i ≡ micros.Release p w → p < n
      released i p w e =
          let phases = is_in_phases body shaped.shape in
          ⊎_elim (λ low. let h = phases.inside i low in let f = ap phase e in absurd (omega arith))
          (λ high. let h = sym (phases.outside i high) ∙ e in absurd (let z = h in cc)) (order i phases.length)
  line_fits i _ e = some

module _ (m : Meaning) (laws : Laws m) (l : Layout) (limits : IsWithinLimits l) (g : Beside) (s : Sight) (whole : IsWhole m l g s) where
  abbrev scene : Scene
  scene = scene_of m (counts_of m l) (states_of g s)

  -- a safe slot is one of the table's
  pub safe_within : (t : ℕ) → IsSafe scene t → t < slot_count l m.fixed_slots
  safe_within t safe = whole.kept.lawful.sound.within t (⊎_elim (λ e. live e) (λ h. retired h.0 h.1) safe)
    where
      live : scene.status t ≡ Live → scene.status t ≢ Free
      live e f = let z = sym e ∙ f in cc

      retired : (y : ℕ) → scene.status t ≡ Retired y → scene.status t ≢ Free
      retired y e f = let z = sym e ∙ f in cc

  -- a place that the readings of an open section give is one of the table's
  module _ (d : ℕ) (used : g.agreement.used d ≡ true) (undone : (g.agreement.section d).done ≡ 0) where
    abbrev x : scenes.Section
    x = section_with m g.publications d ((g.agreement.section d).log) ((g.agreement.section d).edge)

    reached_within : (t : ℕ) → m.reaches (g.publications.readings d) t ≡ true → t < slot_count l m.fixed_slots
    reached_within t reaches =
        let here = shown_open m g.publications d (g.agreement.used d) (g.agreement.section d) used undone in
        let by = (gives m laws l limits scene whole.kept.lawful).reach (g.publications.readings d) t (inr (d, x, here, refl)) reaches in
        safe_within t ((whole.kept.lawful.sound.published d x here).safe by.0 by.1 by.2 t by.3 by.4 by.5)

    cell_low : (first slots t i p : ℕ) → i < 5 → p ≡ first + 5 * t + i → t < slots → p < first + 5 * slots
    cell_low first slots t i p five is low = omega arith

    known_within : (p : ℕ) → IsKnown m (g.publications.readings d) p → p < cell_count m l
    known_within p known = ⊎_elim
        (λ fixed. omega arith)
        (λ slot. cell_low m.fixed_cells (slot_count l m.fixed_slots) slot.0 slot.1.0 p slot.1.1 slot.1.2
        (⊎_elim (λ low. omega arith) (λ reaches. reached_within slot.0 reaches) slot.2))
        known

    -- the section's thunk gives such places alone
    pub open_fits : (t : Thunk) → g.publications.thunk d ≡ t
        → (t.lock < cell_count m l) × ((i : ℕ) → place_of (micro_at (line (m.body t)) i) < cell_count m l)
    open_fits t is =
        let shaped : Shaped m l (g.publications.readings d) t = subst (Shaped m l (g.publications.readings d)) is (whole.kept.shaped d used) in (
          known_within t.lock shaped.outer_known,
          (λ i. line_fits m l (g.publications.readings d) t shaped (cell_count m l) (omega arith) known_within i (micro_at (line (m.body t)) i) refl),
        )

  -- a descriptor that is in nobody's free list has a published section
  pub used_here : (d : ℕ) → d < descriptor_count l → ((r : ℕ) → has (s.part r).descriptors.free d ≡ false) → g.agreement.used d ≡ true
  used_here d few unfree = whole.tied.used d ∙ out (g.epochs.location at) refl
    where
      at : ℕ
      at = slot_of (counts_of m l) d

      beyond : is_for_nodes (g.epochs.location at) ≡ false
      beyond = by (is_for_nodes (g.epochs.location at)) refl
        where
          by : (b : Bool) → is_for_nodes (g.epochs.location at) ≡ b → b ≡ false
          by true e = absurd (let low = whole.slots.sound.for_nodes at e in omega arith)
          by false e = refl

      self : (r : ℕ) → in_free r (locations.Free r) ≡ 1
      self r = grind (arith, nat_tests)

      out : (p : Location) → g.epochs.location at ≡ p → is_out p ≡ true
      out locations.Fixed e = not_both (ap is_for_nodes e) beyond
      out (locations.Hand r) e = not_both (ap is_for_nodes e) beyond
      out (locations.Worn r) e = not_both (ap is_for_nodes e) beyond
      out (locations.OnBoard i) e = not_both (ap is_for_nodes e) beyond
      out locations.Live e = refl
      out (locations.Limbo r y) e = refl
      out (locations.Free r) e = absurd (
          let none = unlisted (s.part r).descriptors.free d (unfree r) in
          let listed = whole.slots.listed.free_descriptors r d few ∙ ap (in_free r) e in
          let one = self r in omega arith)

  -- and one that has is in nobody's
  pub unfree_here : (d : ℕ) → g.agreement.used d ≡ true → (r : ℕ) → has (s.part r).descriptors.free d ≡ false
  unfree_here d used r = by (has (s.part r).descriptors.free d) refl
    where
      by : (b : Bool) → has (s.part r).descriptors.free d ≡ b → b ≡ false
      by true e = absurd (
          let free = free_descriptor m l g.epochs s whole.slots r d (whole.tied.within d used) e in
          let z = sym used ∙ (whole.tied.used d ∙ ap is_out free) in cc)
      by false e = refl

-- the part of a runner after a step by which a descriptor didn't leave its free list
pub record LeavesFree (d : ℕ) (p p' : PartState) : Type 0 where
  pub back : has p'.descriptors.free d ≡ false → has p.descriptors.free d ≡ false

module _ (m : Meaning) (l : Layout) (d : ℕ) (p : PartState) where
  pub by_same : (p' : PartState) → p'.descriptors.free ≡ p.descriptors.free → LeavesFree d p p'
  by_same p' e = record { back = λ h. ap (λ xs. has xs d) (sym e) ∙ h }

  if_free : (b : Bool) (y z : PartState) → LeavesFree d p y → LeavesFree d p z → LeavesFree d p (if b then y else z)
  if_free true y z one two = one
  if_free false y z one two = two

  module _ (q : RunState) (found : ℕ) where
    fill_free : (slot : ℕ) (made : Option ℕ) → LeavesFree d p (inside.fill_loaded m l slot p q made found)
    fill_free slot None = by_same _ refl
    fill_free slot (Some t) = by_same _ refl

    make_free : (made : Option ℕ) → LeavesFree d p (inside.make_committed m l p q made found)
    make_free None = by_same _ refl
    make_free (Some t) = by_same _ refl

    -- with its last release the own section's descriptor goes into limbo
    over_free : (o : Option Published) → (inside.retired_if p.descriptors o q.descriptor).free ≡ p.descriptors.free
    over_free None = refl
    over_free (Some x) = by (x.descriptor == q.descriptor)
      where
        by : (b : Bool) → (if b then descriptor_retired p.descriptors q.descriptor else p.descriptors).free ≡ p.descriptors.free
        by true = refl
        by false = refl

    line_free : (kind : EventKind) (micro : Micro) → LeavesFree d p (line_after m l kind p q micro found)
    line_free kinds.Commit micro = by_same _ refl
    line_free (kinds.LoadCell place) micro = by_same _ refl
    line_free kinds.ExchangeCell micro = by_same _ refl
    line_free (kinds.PrivateLoad slot word) micro = fill_free slot q.made
    line_free (kinds.PrivateStore slot word number) micro = by_same _ refl
    line_free kinds.MakeCommit micro = make_free q.made
    line_free kinds.RetireCommit micro = by_same _ refl
    line_free kinds.EpochForRetire micro = by_same _ refl
    line_free kinds.SetDone micro = by_same _ refl
    line_free kinds.Release micro = if_free (is_end (next_of m (inside.ended_more q))) _ _ (by_same _ (over_free p.published)) (by_same _ refl)
    line_free kinds.ClockLoad micro = by_same _ refl
    line_free kinds.StampExchange micro = if_free (nat_lt q.word last_clock) _ _ (by_same _ refl) (by_same _ refl)
    line_free kinds.ClockRaise micro = by_same _ refl
    line_free kinds.ReplyExchange micro = by_same _ refl
    line_free kinds.NestedLoad micro = by_same _ refl
    line_free kinds.NestedHold micro = by_same _ refl
    line_free kinds.OutcomeLoad micro = by_same _ refl
    line_free kinds.OutcomeCommit micro = by_same _ refl
    line_free _ micro = by_same _ refl

    pub inside_free : (kind : EventKind) → LeavesFree d p (inside_after m l kind p q found)
    inside_free kind = if_free (is_open_run q) _ _ (line_free kind (next_of m q)) (by_same _ refl)

  -- the end of a sweep adds to the list
  more_free : (xs ys : List ℕ) → has (xs ++ ys) d ≡ false → has xs d ≡ false
  more_free xs ys h = by (has xs d) refl
    where
      by : (b : Bool) → has xs d ≡ b → b ≡ false
      by true e = absurd (let z = sym (ap (λ b. b || has ys d) e) ∙ (sym (has_append xs ys d) ∙ h) in cc)
      by false e = refl

  sweep_free : (last : Bool) (words : List ℕ) (guards : GuardsState)
      → LeavesFree d p (record p { descriptors = (if last then descriptors_swept words p.descriptors else p.descriptors); guards = guards })
  sweep_free true words guards = record { back = λ h. more_free p.descriptors.free _ h }
  sweep_free false words guards = by_same _ refl

  module _ (found : ℕ) where
    scan_free : (stage : Stage) → LeavesFree d p (outside.scan_one_after l p stage found)
    scan_free (stages.Scanning x next clear) = if_free (nat_le next l.runners) _ _
        (if_free (next == l.runners && not ((clear && is_clear x found) && nat_lt x last_epoch)) _ _ (by_same _ refl)
        (by_same _ refl))
        (by_same _ refl)
    scan_free _ = by_same _ refl

    advance_free : (stage : Stage) → LeavesFree d p (outside.advance_after p stage)
    advance_free (stages.Scanning x next clear) = if_free (nat_lt x last_epoch) _ _ (by_same _ refl) (by_same _ refl)
    advance_free _ = by_same _ refl

    -- a publication at another descriptor
    other_taken : (xs : List ℕ) (d' : ℕ) → d ≢ d' → has (without xs d') d ≡ has xs d
    other_taken [] d' ne = refl
    other_taken (x ∷ xs) d' ne = let rest = other_taken xs d' ne in grind (arith, nat_tests)

    hold_free : (t : Thunk) (d' : ℕ) → d ≢ d' → LeavesFree d p (outside.hold_after t d' p found)
    hold_free t d' ne = if_free (found == t.word) _ _ (record { back = λ h. sym (other_taken p.descriptors.free d' ne) ∙ h })
        (by_same _ refl)

    abbrev pub publishes_at : EventKind → Bool
    publishes_at (kinds.Hold t d') = d' == d
    publishes_at _ = false

    pub outside_free : (kind : EventKind) → publishes_at kind ≡ false → LeavesFree d p (outside_after m l kind p found)
    outside_free kinds.EnterLoad h = by_same _ refl
    outside_free kinds.Announce h = by_same _ refl
    outside_free kinds.EnterAgain h = by_same _ refl
    outside_free kinds.Idle h = by_same _ refl
    outside_free kinds.ScanEpoch h = by_same _ refl
    outside_free (kinds.ScanOne n) h = scan_free p.stage
    outside_free kinds.Advance h = advance_free p.stage
    outside_free kinds.Split h = if_free (nat_lt p.records.splits l.runners) _ _ (by_same _ refl) (by_same _ refl)
    outside_free (kinds.Join worker) h = by_same _ refl
    outside_free (kinds.LoadCell (Some place)) h = by_same _ refl
    outside_free (kinds.LoadEntry request reply) h = by_same _ refl
    outside_free (kinds.PrivateLoad slot word) h = if_free (nat_lt slot (slot_count l m.fixed_slots)) _ _ (by_same _ refl) (by_same _ refl)
    outside_free (kinds.PrivateStore slot word number) h = by_same _ refl
    outside_free (kinds.Hold t d') h = hold_free t d' (not_at d' h)
      where
        not_at : (d' : ℕ) → (d' == d) ≡ false → d ≢ d'
        not_at d' e same = grind (arith, nat_tests)
    outside_free (kinds.LoadThunk (Some d')) h = by_same _ refl
    outside_free (kinds.LoadGuard n) h = sweep_free (is_last_guard l p.guards.looked) _ _
    outside_free _ h = by_same _ refl
