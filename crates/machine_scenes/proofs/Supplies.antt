-- What states that meet the invariant supply to the components.
use Rattle.std.proofs.Common.{◌≡◌, ℕ, suc, ◌+◌, ◌<◌, ◌≤◌, Bool, true, false, refl, sym, ap, ◌∙◌, subst, inl, inr, ⊎_elim, arith, List, zero, length}
use Rattle.std.specs.Prelude.{◌⊎◌, ◌^◌, nat_lt, cond, Some, [], slice_get, slice_index_or, ◌∷◌}
use Rattle.std.proofs.lemmas.Bool.{cases_lt}
use Rattle.std.proofs.lemmas.Bool.Decides.{nat_tests}
use Rattle.agreement_core.specs.map_history.specs.declared.op.Op.{Op}
use Rattle.agreement_core.specs.body_terms.specs.Line.{registers_before, source_of, line, micro_at, committed, is_event}
use Rattle.agreement_core.specs.body_terms.specs.Word.{is_free, is_spent}
use Rattle.agreement_core.specs.body_terms.specs.declared.step.Step.TheVariants.{Retire}
use Rattle.agreement_core.specs.body_terms.specs.declared.value.Value.{Value}
use Rattle.agreement_core.specs.body_terms.specs.declared.value.Value.TheVariants.{Const}
use Rattle.agreement_core.specs.body_terms.specs.declared.micro.Source.{Source}
use Rattle.agreement_core.specs.body_terms.specs.declared.micro.Source.TheVariants.{Fixed}
use Rattle.agreement_core.specs.body_terms.specs.declared.micro.Micro.{Micro}
use Rattle.agreement_core.specs.body_terms.specs.declared.micro.Micro.TheVariants as micros
use Rattle.agreement_core.specs.body_terms.specs.declared.thunk.Thunk.{Thunk}
use Rattle.agreement_core.specs.table_words.specs.declared.layout.Layout.{Layout}
use Rattle.agreement_core.specs.table_words.specs.Limits.{IsWithinLimits}
use Rattle.agreement_core.specs.section_lines.specs.structure_laws.specs.Scene.{Status, Free, Live, Retired, with_reader}
use Rattle.agreement_core.specs.section_lines.specs.structure_laws.specs.Scene as scenes
use Rattle.agreement_core.specs.section_lines.specs.structure_laws.specs.Meaning.{Meaning}
use Rattle.agreement_core.specs.section_lines.specs.structure_laws.specs.Sections.{IsAllowed, Here, IsStep, Settled}
use Rattle.agreement_core.specs.section_lines.specs.structure_laws.specs.Cells.{cell_of, IsCellOf, InUse, Links, IsLoadable, slots}
use Rattle.agreement_core.specs.section_lines.specs.structure_laws.specs.Laws.{Laws}
use Rattle.agreement_core.specs.section_lines.specs.structure_laws.specs.Gives.{Gives}
use Rattle.agreement_core.specs.section_lines.specs.structure_laws.specs.Shape.{Shaped}
use Rattle.agreement_core.specs.section_lines.specs.structure_laws.proofs.Bodies.{no_exit_after}
use Rattle.agreement_core.specs.section_lines.specs.structure_laws.proofs.Changes.{upd_same}
use Rattle.agreement_core.specs.section_lines.specs.structure_laws.proofs.Moves.{moves}
use Rattle.agreement_core.specs.section_lines.specs.structure_laws.proofs.Readings.{known_outside}
use Rattle.agreement_core.specs.section_lines.proofs.Moves.{retire_moves}
use Rattle.agreement_core.specs.section_lines.proofs.Placed.{is_line, is_whole}
use Rattle.agreement_core.specs.State.{Section, AgreementState, IsOpen}
use Rattle.agreement_core.specs.Events.{HasCome, IsBefore, IsAlone, IsPublishable}
use Rattle.agreement_core.specs.Sound.{UsedIsSound}
use Rattle.agreement_core.proofs.Frame.{undone}
use Rattle.agreement_core.proofs.Lines.{event_goes}
use Rattle.epoch_core.specs.declared.location.Location.{Location}
use Rattle.epoch_core.specs.declared.location.Location.TheVariants as locations
use Rattle.epoch_core.specs.State.{Counts, EpochState, is_entered, entry_of, IsKept, IsPending, MayHold}
use Rattle.epoch_core.specs.Follows.{is_in_use}
use Rattle.epoch_core.proofs.Reusing.{may_follow}
use Rattle.machine_scenes.specs.Shown.{Publications, States, rules_of, status_at, section_with, scene_of}
use Rattle.machine_scenes.specs.Steps.{descriptor_of, HasWord, MeetsBy}
use Rattle.machine_scenes.specs.Kept as kept_states
use Rattle.machine_scenes.specs.Supplied.{IsRetirable, SuppliesAgreement, SuppliesEpochs}
use Rattle.machine_scenes.proofs.Shown.{shown_open}
use Rattle.machine_scenes.proofs.Running.{event_open}
use Rattle.machine_scenes.proofs.Readers.{entered_reads}
use Rattle.machine_scenes.proofs.Links.{true_false, one_slot, no_slot, gives, outside_used}
use Rattle.machine_scenes.proofs.JointSteps.{hand_status}
use Rattle.machine_scenes.proofs.Places.{come_load, load_here, retire_here, fill_here}

module _ (m : Meaning) (laws : Laws m) (layout : Layout) (limits : IsWithinLimits layout) (c : Counts) (nodes : c.nodes ≡ slots m layout)
    (j : States) (kept : kept_states.IsKept m layout c j) where
  abbrev a : AgreementState
  a = j.agreement

  abbrev e : EpochState
  e = j.epochs

  abbrev p : Publications
  p = j.publications

  abbrev scene : scenes.Scene
  scene = scene_of m c j

  abbrev shown_at : ℕ → scenes.Section
  shown_at d = section_with m p d ((a.section d).log) ((a.section d).edge)

  here : (d : ℕ) → IsOpen a d → Here scene d (shown_at d)
  here d is = shown_open m p d (a.used d) (a.section d) is.used is.undone

  -- a run whose next step is on the shared words is at the edge of an open section, if it is at the edge
  run_open : (r : ℕ) (x : Micro) → IsBefore a r x → is_event x ≡ true → (a.run r).at ≡ (a.section (descriptor_of j r)).edge
      → IsOpen a (descriptor_of j r)
  run_open r x before event at = record {
    used = kept.agreement.running_used r before.running;
    undone = event_open m layout p a kept.agreement kept.thunks r before.running before.going (ap is_event before.next ∙ event) at;
  }

  alone : (r place log : ℕ) → IsBefore a r (micros.LoadCell place log) → (a.run r).at ≡ (a.section (descriptor_of j r)).edge
      → IsAlone a (descriptor_of j r) place
  alone r place log before at d' ne is come =
      let d = descriptor_of j r in let open_here = run_open r (micros.LoadCell place log) before refl at in
      let code = sym ((kept.thunks d open_here.used).code ((a.section d).edge)) ∙ (ap ((a.section d).code) (sym at) ∙ before.next) in
      let load = load_here (m.body (p.thunk d)) ((a.section d).edge) place log code in
      let other = come_load (m.body (p.thunk d')) ((a.section d').edge) come.0 place come.1 come.2
      (sym ((kept.thunks d' is.used).code come.0) ∙ come.3) in
      let given = gives m laws layout limits scene kept.lawful in
      kept.lawful.sound.apart d' d (shown_at d') (shown_at d) (here d' is) (here d open_here) ne (m.guard a.shared.cells place)
      (given.guarded d' other.step place other.register (shown_at d') (here d' is) other.passed other.here)
      (given.guarded d load.step place load.register (shown_at d) (here d open_here) load.passed load.here)

  apart : (r t cell : ℕ) → e.location t ≡ locations.Hand r → cell < 5 → (d : ℕ) → IsOpen a d → HasCome (a.section d) (cell_of m t cell) → ⊥
  apart r t cell in_hand low d is come =
      let load = come_load (m.body (p.thunk d)) ((a.section d).edge) come.0 (cell_of m t cell) come.1 come.2
      (sym ((kept.thunks d is.used).code come.0) ∙ come.3) in
      let shaped = kept.lawful.shaped d (shown_at d) (here d is) in
      let known = shaped.load_known load.step (cell_of m t cell) load.register load.here in
      outside_used m laws layout limits scene kept.lawful (cell_of m t cell)
      (⊎_elim inl inr (known_outside m layout scene kept.lawful.sound (gives m laws layout limits scene kept.lawful) (p.readings d)
      (inr (d, shown_at d, here d is, refl))
      (kept.lawful.sound.published d (shown_at d) (here d is)) (cell_of m t cell) known))
      (shaped.load_unlocked load.step (cell_of m t cell) load.register load.here) t (cell, low, refl) (hand_status c e.location t r in_hand)

  publishable : (r d : ℕ) (op : Op) (thunk : Thunk) → is_entered (e.stage r) ≡ true → IsAllowed op
      → m.fits layout op (j.walk r) thunk ≡ true
      → is_free thunk.word ≡ true → is_spent layout.version_max thunk.word ≡ false → suc d < 2 ^ 32
      → IsPublishable (rules_of m layout) d thunk.lock thunk.word (λ i. micro_at (line (m.body thunk)) i)
      (λ i. committed (line (m.body thunk)) i)
  publishable r d op thunk entered allowed fits free unspent link =
      let shaped : Shaped m layout (j.walk r) thunk = (laws.over layout limits).shape scene kept.lawful.sound kept.lawful.kept r
      (j.walk r) op thunk (entered_reads (e.stage r) (j.walk r) entered) allowed fits in
      record {
        line = is_line m layout (j.walk r) thunk shaped;
        whole = is_whole m layout
            (j.walk r) thunk shaped;
        link = link;
        free = free;
        unspent = unspent;
      }

  unlocked : (r cell log t : ℕ) (value : Source) → IsBefore a r (micros.PrivateStore cell log value) → m.is_lock (cell_of m t cell) ≡ true
      → value ≡ Fixed 0
  unlocked r cell log t value before lock =
      let d = descriptor_of j r in let used = kept.agreement.running_used r before.running in
      let fill = fill_here (m.body (p.thunk d)) ((a.run r).at) cell log value
      (sym ((kept.thunks d used).code ((a.run r).at)) ∙ before.next) in
      let shaped = kept.shaped d used in
      let whole = shaped.make_whole fill.step fill.register fill.init fill.here in
      let zero = shaped.make_unlocked fill.step fill.register cell t fill.init (slice_index_or fill.init.cells cell (Const 0)) fill.here
      (get_within fill.init.cells cell (Const 0) (let low = fill.low in omega arith)) lock in
      fill.source ∙ ap (source_of (registers_before (m.body (p.thunk d)) fill.step)) zero
    where
      get_within : (cells : List Value) (cell : ℕ) (value : Value) → cell < length cells
          → slice_get cells cell ≡ Some (slice_index_or cells cell value)
      get_within [] cell value low = absurd (omega arith)
      get_within (first ∷ cells) zero value low = refl
      get_within (first ∷ cells) (suc cell) value low = get_within cells cell value (omega arith)

  pub supplies_agreement : SuppliesAgreement m layout c j
  supplies_agreement = record { alone = alone; apart = apart; unlocked = unlocked; publishable = publishable }

  -- a structure reaches nothing without a reading
  unread : (t : ℕ) → m.reaches [] t ≡ false
  unread t = by_answer (m.reaches [] t) refl
    where
      entered : scenes.Scene
      entered = with_reader scene 0 (Some [])

      by_answer : (b : Bool) → m.reaches [] t ≡ b → m.reaches [] t ≡ false
      by_answer false is = is
      by_answer true is = absurd
          (let lawful = (moves m laws layout limits).enters scene 0 kept.lawful in
          let read = (gives m laws layout limits (with_reader scene 0 (Some [])) lawful).reach [] t
          (inl (0, upd_same (scene.reader) 0 0 (Some []) refl)) is in
          none read.0 (read.1, read.2) read.3)
        where
          none : (i : ℕ) (x : ℕ × ℕ) → slice_get [] i ≡ Some x → ⊥
          none i x h = cc

  reached : (r t : ℕ) → is_entered (e.stage r) ≡ true → t < c.nodes → m.reaches (j.walk r) t ≡ true → e.holds r t ≡ true
  reached r t entered low reaches =
      let by = (gives m laws layout limits scene kept.lawful).reach (j.walk r) t
      (inl (r, entered_reads (e.stage r) (j.walk r) entered)) reaches in
      kept.met r t entered low (record { index = by.0; place = by.1; word = by.2; read = by.3; by = inl (by.4, by.5) })

  -- the statuses and the locations of node slots
  inside : (t : ℕ) → t < c.nodes → scene.status t ≡ status_at (e.location t)
  inside t low = below t c.nodes (status_at (e.location t)) low
    where
      below : (t n : ℕ) (x : Status) → t < n → cond (nat_lt t n) x Free ≡ x
      below t n x lt = grind (arith, nat_tests)

  live_used : (l : Location) → status_at l ≡ Live → is_in_use l ≡ true
  live_used locations.Fixed is = refl
  live_used locations.Live is = refl
  live_used (locations.Limbo r y) is = absurd (cc)
  live_used (locations.Hand r) is = absurd (cc)
  live_used (locations.Free r) is = absurd (cc)
  live_used (locations.Worn r) is = absurd (cc)
  live_used (locations.OnBoard i) is = absurd (cc)

  -- a section before the commit of a Retire of a slot that is linked in a place in use: there is none
  pending_unlinked : (r t q : ℕ) → IsPending e r → (e.retire r).slot ≡ t → InUse m scene q → Links m scene q t → ⊥
  pending_unlinked r t q pending slot used links =
      let x = e.retire r in let stands = kept.retires.stands r pending in
      let d = (e.retire r).descriptor in let s = a.section ((e.retire r).descriptor) in
      let step = retire_moves (m.body (p.thunk d)) (p.op d) (p.thunk d) (p.readings d) s.log s.edge ((e.retire r).slot)
      ((e.retire r).index) 0 (sym ((kept.thunks d stands.open_section.used).code s.edge) ∙ stands.next) in
      (gives m laws layout limits scene kept.lawful).retire_unlinked d ((e.retire r).slot) q (shown_at d)
      (here d stands.open_section) step.0 used (subst (Links m scene q) (sym slot) links)

  -- what a place in use links may be held
  met_live : (r q t : ℕ) → is_entered (e.stage r) ≡ true → t < c.nodes → InUse m scene q → Links m scene q t → MayHold e r t
  met_live r q t entered low used links = (may_follow c e kept.epochs).from_live r t entered
      (live_used (e.location t) (sym (inside t low) ∙ (gives m laws layout limits scene kept.lawful).live q t used links))
      (λ r' pending slot. pending_unlinked r' t q pending slot used links)

  -- what a held slot that was retired links may be held
  met_retired : (r u i t y o : ℕ) → e.holds r u ≡ true → u < c.nodes → e.location u ≡ locations.Limbo o y → i < 5 → t < c.nodes
      → Links m scene (cell_of m u i) t → MayHold e r t
  met_retired r u i t y o held low_u limbo low low_t links = (may_follow c e kept.epochs).from_retired r u o y t held limbo
      (⊎_elim (λ live. kept_live (e.location t) (sym (inside t low_t) ∙ live))
      (λ later. kept_later (e.location t) later.0 (sym (inside t low_t) ∙ later.1) later.2)
      ((gives m laws layout limits scene kept.lawful).limbo u y t i retired recent low links))
      (λ r' pending slot. kept.retires.linked r' pending u y i low retired (subst (Links m scene (cell_of m u i)) (sym slot) links))
    where
      retired : scene.status u ≡ Retired y
      retired = inside u low_u ∙ ap status_at limbo

      recent : scene.epoch ≤ y + 1
      recent =
          let entry = subst (λ l. IsKept l (entry_of (e.stage r))) limbo (kept.epochs.held r u held) in
          let least = kept.epochs.entered_least r (kept.epochs.holder r u held) in omega arith

      kept_live : (l : Location) → status_at l ≡ Live → IsKept l y
      kept_live locations.Fixed is = tt
      kept_live locations.Live is = tt
      kept_live (locations.Limbo r z) is = absurd (cc)
      kept_live (locations.Hand r) is = absurd (cc)
      kept_live (locations.Free r) is = absurd (cc)
      kept_live (locations.Worn r) is = absurd (cc)
      kept_live (locations.OnBoard i) is = absurd (cc)

      kept_later : (l : Location) (z : ℕ) → status_at l ≡ Retired z → y ≤ z → IsKept l y
      kept_later locations.Fixed z is le = absurd (cc)
      kept_later locations.Live z is le = absurd (cc)
      kept_later (locations.Limbo r x) z is le = let same = epoch_of x z is in omega arith
        where
          epoch_of : (x z : ℕ) → Retired x ≡ Retired z → x ≡ z
          epoch_of x z e = cc
      kept_later (locations.Hand r) z is le = absurd (cc)
      kept_later (locations.Free r) z is le = absurd (cc)
      kept_later (locations.Worn r) z is le = absurd (cc)
      kept_later (locations.OnBoard i) z is le = absurd (cc)

  -- a cell of a held slot
  met_held : (r u i t : ℕ) → e.holds r u ≡ true → u < c.nodes → i < 5 → t < c.nodes → Links m scene (cell_of m u i) t → MayHold e r t
  met_held r u i t held low_u low low_t links = by_location (e.location u) refl (kept.epochs.held r u held)
    where
      in_use : status_at (e.location u) ≡ Live → MayHold e r t
      in_use live = met_live r (cell_of m u i) t (kept.epochs.holder r u held) low_t (inr (u, (i, low, refl), inside u low_u ∙ live)) links

      by_location : (l : Location) → e.location u ≡ l → IsKept (e.location u) (entry_of (e.stage r)) → MayHold e r t
      by_location locations.Fixed is held_kept = in_use (ap status_at is)
      by_location locations.Live is held_kept = in_use (ap status_at is)
      by_location (locations.Limbo o y) is held_kept = met_retired r u i t y o held low_u is low low_t links
      by_location (locations.Hand o) is held_kept = absurd (subst (λ l. IsKept l (entry_of (e.stage r))) is held_kept)
      by_location (locations.Free o) is held_kept = absurd (subst (λ l. IsKept l (entry_of (e.stage r))) is held_kept)
      by_location (locations.Worn o) is held_kept = absurd (subst (λ l. IsKept l (entry_of (e.stage r))) is held_kept)
      by_location (locations.OnBoard i) is held_kept = absurd (subst (λ l. IsKept l (entry_of (e.stage r))) is held_kept)

  -- a fixed slot
  met_fixed : (r t : ℕ) → is_entered (e.stage r) ≡ true → t < c.nodes → t < m.fixed_slots → MayHold e r t
  met_fixed r t entered low fixed = (may_follow c e kept.epochs).from_live r t entered
      (live_used (e.location t) (sym (inside t low) ∙ kept.lawful.sound.fixed t fixed))
      (λ r' pending slot.
      let stands = kept.retires.stands r' pending in
      let d = (e.retire r').descriptor in let s = a.section ((e.retire r').descriptor) in
      let step = retire_moves (m.body (p.thunk d)) (p.op d) (p.thunk d) (p.readings d) s.log s.edge ((e.retire r').slot)
      ((e.retire r').index) 0 (sym ((kept.thunks d stands.open_section.used).code s.edge) ∙ stands.next) in
      let shaped = kept.lawful.shaped d (shown_at d) (here d stands.open_section) in
      let high = (gives m laws layout limits scene kept.lawful).retire_unfixed d ((shown_at d).at) ((e.retire r').slot) (shown_at d)
      (here d stands.open_section)
      (λ k other le there. no_exit_after (m.body (p.thunk d)) shaped.shape ((shown_at d).at) k
      (Retire ((e.retire r').slot)) other step.0 there (omega arith) le) (omega arith) step.0 in
      omega arith)

  reached_node : (r u : ℕ) → is_entered (e.stage r) ≡ true → m.reaches (j.walk r) u ≡ true → u < c.nodes
  reached_node r u entered reaches =
      let by = (gives m laws layout limits scene kept.lawful).reach (j.walk r) u
      (inl (r, entered_reads (e.stage r) (j.walk r) entered)) reaches in
      let safe = (kept.lawful.sound.readers r (j.walk r) (entered_reads (e.stage r) (j.walk r) entered)).safe by.0 by.1 by.2 u by.3 by.4
      by.5 in
      subst (λ n. u < n) (sym nodes) (kept.lawful.sound.within u
      (λ free. ⊎_elim (λ live. live_free (sym live ∙ free)) (λ retired. retired_free retired.0 (sym retired.1 ∙ free)) safe))
    where
      live_free : Live ≡ Free → ⊥
      live_free e = cc

      retired_free : (y : ℕ) → Retired y ≡ Free → ⊥
      retired_free y e = cc

  fixed_node : (t : ℕ) → t < m.fixed_slots → t < c.nodes
  fixed_node t fixed = subst (λ n. t < n) (sym nodes)
      (kept.lawful.sound.within t (λ free. live_free (sym (kept.lawful.sound.fixed t fixed) ∙ free)))
    where
      live_free : Live ≡ Free → ⊥
      live_free e = cc

  -- a link in a place that the runner may load
  met_link : (r place t : ℕ) → is_entered (e.stage r) ≡ true → IsLoadable m (j.walk r) place → t < c.nodes → Links m scene place t
      → MayHold e r t
  met_link r place t entered loadable low links = ⊎_elim
      (λ known. ⊎_elim (λ fixed. met_live r place t entered low (inl fixed) links)
      (λ slot. ⊎_elim
      (λ fixed. met_live r place t entered low (inr (slot.0, slot.1, kept.lawful.sound.fixed slot.0 fixed)) links)
      (λ reaches. let low_u = reached_node r slot.0 entered reaches in
      met_held r slot.0 slot.1.0 t (reached r slot.0 entered low_u reaches) low_u slot.1.1 low
      (subst (λ q. Links m scene q t) slot.1.2 links)) slot.2) known)
      (λ lock. absurd (true_false links.0 (laws.unlinked_lock a.shared.cells place lock))) loadable

  -- a cell of a slot, at a place that the runner may load
  met_cell : (r place t : ℕ) → is_entered (e.stage r) ≡ true → IsLoadable m (j.walk r) place → t < c.nodes → m.is_lock place ≡ false
      → IsCellOf m t place → MayHold e r t
  met_cell r place t entered loadable low unlocked cell = ⊎_elim
      (λ known. ⊎_elim (λ fixed. absurd (no_slot m.fixed_cells t cell.0 place fixed cell.2))
      (λ slot. let same = one_slot m.fixed_cells slot.0 t slot.1.0 cell.0 place slot.1.1 cell.1 slot.1.2 cell.2 in ⊎_elim
      (λ fixed. met_fixed r t entered low (subst (λ n. n < m.fixed_slots) same fixed))
      (λ reaches. let held = reached r t entered low (subst (λ n. m.reaches (j.walk r) n ≡ true) same reaches) in
      record {
        kept = kept.epochs.held r t held;
        retires = λ r' pending slot'. kept.epochs.retire_holders r' r pending
            (subst (λ n. e.holds r n ≡ true) (sym slot') held);
      }) slot.2) known)
      (λ lock. absurd (true_false lock unlocked)) loadable

  met : (r place t : ℕ) → is_entered (e.stage r) ≡ true → IsLoadable m (j.walk r) place → t < c.nodes → MeetsBy m layout c j place t
      → MayHold e r t
  met r place t entered loadable low by = ⊎_elim (λ link. met_link r place t entered loadable low link)
      (λ cell. met_cell r place t entered loadable low cell.0 cell.1) by

  -- the section is open, and its next step is this Retire
  record AtRetire (d t log : ℕ) : Type 0 where
    open_section : IsOpen a d
    step : IsStep m (shown_at d) ((shown_at d).at) (Retire t)
    next : ((a.section d).code ((a.section d).edge) ≡ micros.EpochForRetire t log)
        ⊎ ((a.section d).code ((a.section d).edge) ≡ micros.RetireCommit t log)

  -- a section whose furthest runs stand before a Retire's commit
  at_commit : (d t log : ℕ) → IsOpen a d → (a.section d).code ((a.section d).edge) ≡ micros.RetireCommit t log → AtRetire d t log
  at_commit d t log is next = record {
    open_section = is;
    step = (retire_moves (m.body (p.thunk d)) (p.op d) (p.thunk d) (p.readings d) ((a.section d).log) ((a.section d).edge) t log 0
        (sym ((kept.thunks d is.used).code ((a.section d).edge)) ∙ next)).0;
    next = inr next;
  }

  at_load : (r t log : ℕ) → IsBefore a r (micros.EpochForRetire t log) → (suc ((a.run r).at) < (a.section (descriptor_of j r)).edge → ⊥)
      → AtRetire (descriptor_of j r) t log
  at_load r t log before not_past = ⊎_elim
      (λ lt. at_commit d t log (record {
        used = used;
        undone = undone (rules_of m layout) d s own.section.in_log
            (event_goes (rules_of m layout) d s.log (s.code s.edge) (ap is_event (behind lt)));
      }) (behind lt))
      (λ le.
      let at : (a.run r).at ≡ s.edge = (let most = (kept.agreement.runs r before.running).in_trail.behind in omega arith) in
      let is = run_open r (micros.EpochForRetire t log) before refl at in
      let next = ap s.code (sym at) ∙ before.next in
      record {
        open_section = is;
        step = retire_here (m.body (p.thunk d)) s.edge t log (sym ((kept.thunks d is.used).code s.edge) ∙ next);
        next = inl next;
      })
      (cases_lt ((a.run r).at) s.edge)
    where
      d : ℕ
      d = descriptor_of j r

      s : Section
      s = a.section d

      used : a.used d ≡ true
      used = kept.agreement.running_used r before.running

      own : UsedIsSound (rules_of m layout) a.shared (a.live d) (a.over d) d s
      own = kept.agreement.sections d used

      commit : s.code (suc ((a.run r).at)) ≡ micros.RetireCommit t log
      commit = own.published.line.ordered.retire_next ((a.run r).at) t log before.next

      behind : (a.run r).at < s.edge → s.code s.edge ≡ micros.RetireCommit t log
      behind lt = ⊎_elim (λ past. absurd (not_past past))
          (λ le. let edge : suc ((a.run r).at) ≡ s.edge = omega arith in ap s.code (sym edge) ∙ commit)
          (cases_lt (suc ((a.run r).at)) s.edge)

  settled : (d t log : ℕ) → AtRetire d t log → Settled m (shown_at d)
  settled d t log at k other le there = no_exit_after (m.body (p.thunk d))
      (kept.lawful.shaped d (shown_at d) (here d at.open_section)).shape ((shown_at d).at) k (Retire t) other at.step there (omega arith) le

  -- of two Retires at which one section stands the places in the log are one
  one_index : (x : Micro) (t t' k k' : ℕ) → x ≡ micros.RetireCommit t' k' → (x ≡ micros.EpochForRetire t k)
      ⊎ (x ≡ micros.RetireCommit t k) → k' ≡ k
  one_index x t t' k k' is next = ⊎_elim (λ load. absurd (no_load (sym is ∙ load))) (λ commit. index_of (sym is ∙ commit)) next
    where
      no_load : micros.RetireCommit t' k' ≡ micros.EpochForRetire t k → ⊥
      no_load e = cc

      index_of : micros.RetireCommit t' k' ≡ micros.RetireCommit t k → k' ≡ k
      index_of e = cc

  -- what is known where a section's next step is a Retire
  record IsNext (d t log : ℕ) : Type 0 where
    node : t < c.nodes
    live : e.location t ≡ locations.Live
    once : (r : ℕ) → IsPending e r → (e.retire r).slot ≡ t → ((e.retire r).descriptor ≡ d) × ((e.retire r).index ≡ log)

  is_next : (d t log : ℕ) → AtRetire d t log → IsNext d t log
  is_next d t log at = record { node = low; live = by_location (e.location t) refl (sym (inside t low) ∙ live); once = once }
    where
      given : Gives m layout scene
      given = gives m laws layout limits scene kept.lawful

      live : scene.status t ≡ Live
      live = given.retire_live d ((shown_at d).at) t (shown_at d) (here d at.open_section) (settled d t log at) (omega arith) at.step

      high : m.fixed_slots ≤ t
      high = given.retire_unfixed d ((shown_at d).at) t (shown_at d) (here d at.open_section) (settled d t log at) (omega arith) at.step

      low : t < c.nodes
      low = subst (λ n. t < n) (sym nodes) (kept.lawful.sound.within t (λ free. live_free (sym live ∙ free)))
        where
          live_free : Live ≡ Free → ⊥
          live_free e = cc

      by_location : (l : Location) → e.location t ≡ l → status_at (e.location t) ≡ Live → e.location t ≡ locations.Live
      by_location locations.Fixed is used = absurd (let fixed = kept.fixed t is in let unfixed = high in omega arith)
      by_location locations.Live is used = is
      by_location (locations.Limbo r y) is used = absurd (cc)
      by_location (locations.Hand r) is used = absurd (cc)
      by_location (locations.Free r) is used = absurd (cc)
      by_location (locations.Worn r) is used = absurd (cc)
      by_location (locations.OnBoard i) is used = absurd (cc)

      once : (r : ℕ) → IsPending e r → (e.retire r).slot ≡ t → ((e.retire r).descriptor ≡ d) × ((e.retire r).index ≡ log)
      once r pending slot =
          let d' = (e.retire r).descriptor in let index = (e.retire r).index in let stands = kept.retires.stands r pending in
          let other = at_commit ((e.retire r).descriptor) t ((e.retire r).index) stands.open_section
          (subst (λ n. (a.section ((e.retire r).descriptor)).code ((a.section ((e.retire r).descriptor)).edge) ≡ micros.RetireCommit n
          ((e.retire r).index)) slot stands.next) in
          let same = (given.retire_once d' d ((shown_at d').at) ((shown_at d).at) t (shown_at d') (shown_at d)
          (here d' stands.open_section) (here d at.open_section)
          (settled d' t index other) (settled d t log at) (omega arith) (omega arith) other.step at.step).0 in (
            same,
            one_index ((a.section d).code ((a.section d).edge)) t ((e.retire r).slot) log index
                (subst (λ n. (a.section n).code ((a.section n).edge) ≡ micros.RetireCommit ((e.retire r).slot) ((e.retire r).index)) same
                stands.next) at.next,
          )

  retirable : (r t log : ℕ) → IsBefore a r (micros.EpochForRetire t log) → HasWord j (descriptor_of j r) log
      → IsRetirable c j (descriptor_of j r) log t
  retirable r t log before word = ⊎_elim past next (cases_lt (suc ((a.run r).at)) s.edge)
    where
      d : ℕ
      d = descriptor_of j r

      s : Section
      s = a.section d

      used : a.used d ≡ true
      used = kept.agreement.running_used r before.running

      own : UsedIsSound (rules_of m layout) a.shared (a.live d) (a.over d) d s
      own = kept.agreement.sections d used

      commit : s.code (suc ((a.run r).at)) ≡ micros.RetireCommit t log
      commit = own.published.line.ordered.retire_next ((a.run r).at) t log before.next

      past : suc ((a.run r).at) < s.edge → IsRetirable c j d log t
      past lt = record {
        node = kept.nodes d (suc ((a.run r).at)) t log used lt commit;
        live = λ none. absurd (some lt (sym word ∙ none));
        once = λ none. absurd (some lt (sym word ∙ none));
      }
        where
          some : suc ((a.run r).at) < s.edge → s.log log ≡ 0 → ⊥
          some lt none = let agreed = own.section.in_log.retired (suc ((a.run r).at)) t log lt commit in omega arith

      next : s.edge ≤ suc ((a.run r).at) → IsRetirable c j d log t
      next le =
          let is = is_next d t log (at_load r t log before (λ lt. omega arith)) in
          record { node = is.node; live = λ none. is.live; once = λ none. is.once }

  pub supplies_epochs : SuppliesEpochs m layout c j
  supplies_epochs = record { unread = unread; reached = reached; met = met; retirable = retirable }
