-- A step changes no cell of a slot that is in a runner's hand, free or on the board, but where a Make stores there.
use Rattle.std.specs.Prelude.{◌==◌, ◌⊎◌, nat_lt, cond, slice_index, Bool, true}
use Rattle.std.proofs.Common.{◌≡◌, ◌≢◌, ℕ, suc, ◌<◌, List, ⊎_elim, sym, refl, ap, ◌∙◌, subst, arith, Some, None}
use Rattle.std.proofs.lemmas.Bool.Decides.{nat_tests}
use Rattle.std.proofs.lemmas.Bool.{cases_eq, cases_lt}
use Rattle.machine_states.specs.map_history.specs.declared.op.Request.{Request}
use Rattle.machine_states.specs.body_terms.specs.declared.micro.Micro.TheVariants as micros
use Rattle.machine_states.specs.body_terms.specs.declared.thunk.Thunk.{Thunk}
use Rattle.machine_states.specs.body_terms.specs.Memory.{cell_of}
use Rattle.machine_states.specs.body_terms.specs.Run.{source_value}
use Rattle.machine_states.specs.body_terms.specs.Word.{value_of, next_word, held_word}
use Rattle.machine_states.specs.table_words.specs.declared.layout.Layout.{Layout}
use Rattle.machine_states.specs.table_words.specs.declared.spot.Spot.{Spot}
use Rattle.machine_states.specs.table_words.specs.declared.spot.Spot.TheVariants as spots
use Rattle.machine_states.specs.table_words.specs.declared.access.Access.{Access}
use Rattle.machine_states.specs.table_words.specs.declared.access.Access.TheVariants.{Exchanges}
use Rattle.machine_states.specs.table_words.specs.Access.{written, exchanged}
use Rattle.machine_states.specs.table_words.specs.Limits.{IsWithinLimits}
use Rattle.machine_states.specs.table_words.specs.Seen.{put}
use Rattle.machine_states.specs.structure_laws.specs.Scene.{Free, Status}
use Rattle.machine_states.specs.structure_laws.specs.Meaning.{Meaning}
use Rattle.machine_states.specs.structure_laws.specs.Laws.{Laws}
use Rattle.machine_states.specs.structure_laws.specs.Cells.{IsKnown}
use Rattle.machine_states.specs.structure_laws.proofs.Changes.{upd_same}
use Rattle.machine_invariant.specs.After.{AreAllowed}
use Rattle.machine_invariant.proofs.Keeping.{IsStep}
use Rattle.machine_states.specs.runner_parts.specs.declared.event.EventKind.{EventKind}
use Rattle.machine_states.specs.runner_parts.specs.declared.event.EventKind.TheVariants as kinds
use Rattle.machine_states.specs.runner_parts.specs.State.{PartState}
use Rattle.machine_states.specs.runner_parts.specs.Tests.{has}
use Rattle.machine_states.specs.runner_steps.specs.Sections.{next_of}
use Rattle.agreement_core.specs.Checks as checks
use Rattle.agreement_core.specs.Events as agreement
use Rattle.agreement_core.proofs.Words.{value_held}
use Rattle.machine_states.specs.epoch_core.specs.State.{Counts}
use Rattle.machine_states.specs.epoch_core.specs.Sound.{is_for_nodes}
use Rattle.machine_states.specs.Sight.{Sight}
use Rattle.machine_invariant.specs.machine_blocks.specs.machine_guards.specs.machine_agreement.specs.machine_epochs.specs.Entries.{counts_of}
use Rattle.machine_invariant.specs.machine_blocks.specs.machine_guards.specs.machine_agreement.specs.machine_epochs.proofs.OutsideAsked.{hold_asked}
use Rattle.machine_invariant.specs.machine_blocks.specs.machine_guards.specs.machine_agreement.specs.machine_epochs.proofs.Places.{has_times, free_node, hand_node}
use Rattle.machine_invariant.specs.machine_blocks.specs.machine_guards.specs.machine_agreement.specs.machine_epochs.proofs.RunPlaces.{open_run}
use Rattle.machine_invariant.specs.machine_blocks.specs.machine_guards.specs.machine_agreement.specs.machine_scenes.specs.Shown.{rules_of, status_at, status_of, scene_of}
use Rattle.machine_invariant.specs.machine_blocks.specs.machine_guards.specs.machine_agreement.specs.machine_scenes.specs.Kinds.{is_plain}
use Rattle.machine_invariant.specs.machine_blocks.specs.machine_guards.specs.machine_agreement.specs.machine_scenes.specs.Steps.{Agreement}
use Rattle.machine_invariant.specs.machine_blocks.specs.machine_guards.specs.machine_agreement.proofs.LineAsked.{exchange_asked, nested_hold_asked, release_asked}
use Rattle.machine_invariant.specs.machine_blocks.specs.machine_guards.specs.machine_agreement.proofs.RunPlaces.{before}
use Rattle.machine_invariant.specs.machine_slots.proofs.Cells.{hands_stand}
use Rattle.machine_invariant.specs.machine_slots.proofs.Locks.{held_used, unfixed, locks_free, known_held}
use Rattle.machine_invariant.specs.Whole.{Beside, states_of, IsWhole}
use Rattle.machine_invariant.proofs.Asked.{entered_at, source_same}
use Rattle.machine_invariant.proofs.SuppliesSections.{request_allowed}
use Rattle.machine_invariant.proofs.Thunks.{is_private_store}
use Rattle.next_steps.proofs.Touched.{asked_may, cell_same}
use Rattle.next_steps.proofs.Runs.{in_line, out_of_run, here, section_sound}
use Rattle.next_steps.proofs.Releases.{released_lock, section_lock}

-- the slot is free with the runner, or in its hand
abbrev pub IsOwn : PartState → ℕ → Type 0
IsOwn p t = (has p.nodes.free t ≡ true) ⊎ (has p.nodes.hand t ≡ true)

-- it is so with one of the runners, or on the board
abbrev pub IsSpare : Sight → ℕ → Type 0
IsSpare s t = ((i : ℕ) × IsOwn (s.part i) t) ⊎ ((i : ℕ) × (s.word (spots.Board i) ≡ suc t))

module _ (m : Meaning) (laws : Laws m) (l : Layout) (limits : IsWithinLimits l) (g : Beside) (s : Sight) (whole : IsWhole m l g s) where
  abbrev c : Counts
  c = counts_of m l

  -- such a slot is one of the table's, and free for the structure's laws
  pub own_node : (i t : ℕ) → IsOwn (s.part i) t → t < c.nodes
  own_node i t own = ⊎_elim (λ low. low)
      (λ high. absurd (⊎_elim
      (λ free. let one = has_times (s.part i).nodes.free t free in let none = whole.slots.listed.free_nodes i t high in omega arith)
      (λ hand. let one = has_times (s.part i).nodes.hand t hand in let none = whole.slots.listed.hand_nodes i t high in omega arith) own))
      (cases_lt t c.nodes)

  inside : (t : ℕ) → t < c.nodes → (x : Status) → cond (nat_lt t c.nodes) x Free ≡ x
  inside t low x = grind (arith, nat_tests)

  pub own_free : (i t : ℕ) → IsOwn (s.part i) t → status_of c g.epochs.location t ≡ Free
  own_free i t own =
      let low = own_node i t own in
      inside t low (status_at (g.epochs.location t)) ∙ ⊎_elim
      (λ free. ap status_at (free_node m l g.epochs s whole.slots i t low free))
      (λ hand. ap status_at (hand_node m l g.epochs s whole.slots i t low hand)) own

  pub board_node : (i t : ℕ) → s.word (spots.Board i) ≡ suc t → t < c.nodes
  board_node i t named = whole.slots.sound.for_nodes t (ap is_for_nodes (whole.slots.board.slot i t named))

  spare_node : (t : ℕ) → IsSpare s t → t < c.nodes
  spare_node t spare = ⊎_elim (λ own. own_node own.0 t own.1) (λ there. board_node there.0 t there.1) spare

  spare_free : (t : ℕ) → IsSpare s t → status_of c g.epochs.location t ≡ Free
  spare_free t spare = ⊎_elim
      (λ own. own_free own.0 t own.1)
      (λ there. inside t (board_node there.0 t there.1) (status_at (g.epochs.location t)) ∙ ap status_at (whole.slots.board.slot there.0 t there.1)) spare

  module _ (t j : ℕ) (spare : IsSpare s t) (five : j < 5) where
    abbrev place : ℕ
    place = cell_of m.fixed_cells t j

    -- a lock there is free
    pub unlocked : m.is_lock place ≡ true → value_of (s.word (spots.Cell place)) ≡ 0
    unlocked lock = ap value_of (sym (whole.sections.words.cells place))
        ∙ locks_free m laws l limits c refl (states_of g s) whole.kept whole.held t j (spare_node t spare) five (spare_free t spare) lock

    -- no event of agreement changes the cell
    pub stands : (v : agreement.Event) → agreement.Enabled (rules_of m l) g.agreement v → is_plain v ≡ true
        → (agreement.after g.agreement v).shared.cells place ≡ g.agreement.shared.cells place
    stands v ok plain = hands_stand m laws l limits c refl (states_of g s) whole.kept whole.held t j (spare_node t spare) five (spare_free t spare)
        (Agreement v) (plain, ok) tt

-- a cell that an exchange meets, or another one
at_cell : (f : Spot → ℕ) (p old new place : ℕ) → (place ≡ p → exchanged (f (spots.Cell p)) old new ≡ f (spots.Cell p))
    → put f (spots.Cell p) (exchanged (f (spots.Cell p)) old new) (spots.Cell place) ≡ f (spots.Cell place)
at_cell f p old new place same = ⊎_elim
    (λ e. here place p e ∙ (same e ∙ ap (λ n. f (spots.Cell n)) (sym e)))
    (λ ne. other place p ne) (cases_eq place p)
  where
    here : (a b : ℕ) → a ≡ b → cond (a == b) (exchanged (f (spots.Cell p)) old new) (f (spots.Cell a)) ≡ exchanged (f (spots.Cell p)) old new
    here a b e = grind (arith, nat_tests)

    other : (a b : ℕ) → a ≢ b → cond (a == b) (exchanged (f (spots.Cell p)) old new) (f (spots.Cell a)) ≡ f (spots.Cell a)
    other a b ne = grind (arith, nat_tests)

-- an exchange from another word fails
fails : (found old new : ℕ) → found ≢ old → exchanged found old new ≡ found
fails found old new ne = grind (arith, nat_tests)

module _ (m : Meaning) (laws : Laws m) (l : Layout) (limits : IsWithinLimits l) (rs : List Request) (allowed : AreAllowed rs) (s s' : Sight) (r : ℕ)
    (t j : ℕ) (spare : IsSpare s t) (five : j < 5) where
  abbrev there : ℕ
  there = cell_of m.fixed_cells t j

  -- where a step's exchange of a cell changes nothing there, the cell stands
  by_exchange : (kind : EventKind) (st : IsStep m l rs s s' r kind) (p old new : ℕ) → (spots.Cell p, Exchanges old new) ≡ st.step.ask
      → (there ≡ p → exchanged (s.word (spots.Cell p)) old new ≡ s.word (spots.Cell p)) → s'.word (spots.Cell there) ≡ s.word (spots.Cell there)
  by_exchange kind st p old new is same =
      ap (λ (y : Sight). y.word (spots.Cell there)) st.step.next
      ∙ subst (λ (y : Spot × Access). put s.word y.0 (written y.1 (s.word y.0)) (spots.Cell there) ≡ s.word (spots.Cell there)) is
      (at_cell s.word p old new there same)

  exchange_still : IsStep m l rs s s' r kinds.ExchangeCell → s'.word (spots.Cell there) ≡ s.word (spots.Cell there)
  exchange_still st =
      let at = in_line m l rs r kinds.ExchangeCell (s.part r) st.step.ask refl (λ q. refl) st.step.asked in
      let q = at.run in
      let h = exchange_asked q st.step.ask l (next_of m q) at.asked in
      let a = st.beside.agreement in
      let run = a.run r in
      let is = here m l st.beside s st.whole r q at.runs in
      let ok = before m l a s st.whole.sections r q at.runs (open_run q at.opened) (micros.ExchangeCell h.0 h.1 h.2) refl refl h.3 in
      let old : run.trail h.1 ≡ slice_index q.trail h.1 = is.trail h.1 in
      let value : checks.source_in run.trail h.2 ≡ source_value q.trail h.2 = source_same run q is h.2 in
      let cell : a.shared.cells h.0 ≡ s.word (spots.Cell h.0) = st.whole.sections.words.cells h.0 in
      by_exchange kinds.ExchangeCell st h.0 (slice_index q.trail h.1) (next_word (slice_index q.trail h.1) (source_value q.trail h.2)) h.4
      (λ same.
      let stand = stands m laws l limits st.beside s st.whole t j spare five (agreement.ExchangeCell r h.0 h.1 h.2) ok refl in
      let same' : checks.exchanged (a.shared.cells h.0) (run.trail h.1) (checks.stored_word run.trail h.1 h.2) ≡ a.shared.cells h.0 =
      sym (upd_same a.shared.cells h.0 there (checks.exchanged (a.shared.cells h.0) (run.trail h.1) (checks.stored_word run.trail h.1 h.2)) same)
      ∙ (stand ∙ ap a.shared.cells same) in
      (λ k. exchanged (sym cell k) (sym old k) (next_word (sym old k) (sym value k))) ∙ (same' ∙ cell))

  hold_still : IsStep m l rs s s' r kinds.NestedHold → s'.word (spots.Cell there) ≡ s.word (spots.Cell there)
  hold_still st =
      let at = in_line m l rs r kinds.NestedHold (s.part r) st.step.ask refl (λ q. refl) st.step.asked in
      let q = at.run in
      let h = nested_hold_asked q st.step.ask l (next_of m q) at.asked in
      let a = st.beside.agreement in
      let run = a.run r in
      let is = here m l st.beside s st.whole r q at.runs in
      let ok = before m l a s st.whole.sections r q at.runs (open_run q at.opened) (micros.NestedHold h.0 h.1) refl refl h.2 in
      let cell : a.shared.cells h.0 ≡ s.word (spots.Cell h.0) = st.whole.sections.words.cells h.0 in
      by_exchange kinds.NestedHold st h.0 h.1 (held_word q.descriptor h.1) h.3
      (λ same.
      let stand = stands m laws l limits st.beside s st.whole t j spare five (agreement.NestedHold r h.0 h.1) ok refl in
      let same' : checks.exchanged (a.shared.cells h.0) h.1 (held_word run.descriptor h.1) ≡ a.shared.cells h.0 =
      sym (upd_same a.shared.cells h.0 there (checks.exchanged (a.shared.cells h.0) h.1 (held_word run.descriptor h.1)) same)
      ∙ (stand ∙ ap a.shared.cells same) in
      (λ k. exchanged (sym cell k) h.1 (held_word (sym is.descriptor k) h.1)) ∙ (same' ∙ cell))

  release_still : IsStep m l rs s s' r kinds.Release → s'.word (spots.Cell there) ≡ s.word (spots.Cell there)
  release_still st =
      let at = in_line m l rs r kinds.Release (s.part r) st.step.ask refl (λ q. refl) st.step.asked in
      let q = at.run in
      let h = release_asked q st.step.ask l (next_of m q) at.asked in
      let lock = released_lock m l rs st.beside s st.whole r q at.runs at.opened h.0 h.1 h.2 in
      let is_lock = (section_lock m l st.beside s st.whole r q at.runs (open_run q at.opened) h.0 h.1 lock).0 in
      let link = (section_sound m l st.beside s st.whole r q at.runs).published.link in
      let held = held_word q.descriptor h.1 in
      by_exchange kinds.Release st h.0 held (next_word held 0) h.3
      (λ same. fails (s.word (spots.Cell h.0)) held (next_word held 0) (λ finds.
      let zero = unlocked m laws l limits st.beside s st.whole t j spare five (subst (λ p. m.is_lock p ≡ true) (sym same) is_lock) in
      let one = ap value_of (ap (λ p. s.word (spots.Cell p)) same ∙ finds) ∙ value_held q.descriptor h.1 link in
      absurd (let z = sym zero ∙ one in cc)))

  -- a section's outer lock is none of these, since its publisher holds its slot
  publish_still : (thunk : Thunk) (d : ℕ) → IsStep m l rs s s' r (kinds.Hold thunk d) → s'.word (spots.Cell there) ≡ s.word (spots.Cell there)
  publish_still thunk d st =
      let out = out_of_run m l rs r (kinds.Hold thunk d) (s.part r) st.step.ask (λ q. refl) (λ q. refl) st.step.asked in
      let h = hold_asked m l rs r thunk d (s.part r) st.step.ask out.asked in
      let g = st.beside in
      let j0 = states_of g s in
      let entered = entered_at m l g.epochs s st.whole.slots r h.entry h.entered in
      let walk = (s.part r).reads.walk in
      let low = spare_node m laws l limits g s st.whole t spare in
      let free = spare_free m laws l limits g s st.whole t spare in
      let op = request_allowed m laws l limits rs allowed.in_order.few allowed.each g s st.whole r (kinds.Hold thunk d) st.step.ask st.step.asked
      thunk.request h.request h.of_request in
      let shaped = (laws.over l limits).shape (scene_of m (counts_of m l) j0) st.whole.kept.lawful.sound st.whole.kept.lawful.kept r walk h.request.op thunk
      (ap (λ (b : Bool). cond b (Some walk) None) entered) op h.serves in
      by_exchange (kinds.Hold thunk d) st thunk.lock thunk.word (held_word d thunk.word) h.is
      (λ same. absurd (held_used (counts_of m l) g.epochs st.whole.slots.sound r t
      (known_held m laws l limits (counts_of m l) refl j0 st.whole.kept r t j entered low five
      (unfixed m laws l limits (counts_of m l) refl j0 st.whole.kept t free)
      (subst (IsKnown m walk) (sym same) shaped.outer_known)) low free))

  put_else : (f : Spot → ℕ) (a : Spot) (v p : ℕ) → a ≢ spots.Cell p → put f a v (spots.Cell p) ≡ f (spots.Cell p)
  put_else f (spots.Cell q) v p ne = other p q (λ e. ne (ap (λ n. spots.Cell n) (sym e)))
    where
      other : (a b : ℕ) → a ≢ b → cond (a == b) v (f (spots.Cell a)) ≡ f (spots.Cell a)
      other a b ne = grind (arith, nat_tests)
  put_else f _ v p ne = refl

  -- no step changes such a cell, but a private store there
  pub cell_stands : (kind : EventKind) (st : IsStep m l rs s s' r kind) → (is_private_store m l kind ≡ true → st.step.ask.0 ≢ spots.Cell there)
      → s'.word (spots.Cell there) ≡ s.word (spots.Cell there)
  cell_stands kinds.ExchangeCell st apart = exchange_still st
  cell_stands kinds.NestedHold st apart = hold_still st
  cell_stands kinds.Release st apart = release_still st
  cell_stands (kinds.Hold thunk d) st apart = publish_still thunk d st
  cell_stands (kinds.PrivateStore slot word number) st apart = ap (λ (y : Sight). y.word (spots.Cell there)) st.step.next
      ∙ put_else s.word st.step.ask.0 (written st.step.ask.1 (s.word st.step.ask.0)) there (apart refl)
  cell_stands kind st apart = ap (λ (y : Sight). y.word (spots.Cell there)) st.step.next
      ∙ cell_same s.word st.step.ask.0 kind st.step.ask.1 there refl (asked_may m l rs r (s.part r) st.step.ask kind st.step.asked)
