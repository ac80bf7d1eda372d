-- The whole invariant supplies what the join of epochs and slots asks for, step by step.
use Rattle.std.specs.Prelude.{◌*◌, ◌/◌, ◌%◌, ◌-◌, ◌^◌, ◌&&◌, ◌||◌, ◌==◌, not, Bool, true, false, nat_lt, nat_le, All, if◌then◌else◌}
use Rattle.std.proofs.Common.{◌≡◌, ◌⊎◌, inl, inr, ℕ, suc, ◌+◌, ◌<◌, ◌≤◌, List, [], ◌∷◌, ◌++◌, length, refl, sym, ap, ◌∙◌, subst, arith}
use Rattle.std.proofs.Common.{Option, Some, None, ⊎_elim}
use Rattle.std.proofs.lemmas.Bool.{cases_lt}
use Rattle.std.proofs.lemmas.Bool.Decides.{nat_tests}
use Rattle.machine_states.specs.epoch_core.specs.small_lemmas.proofs.Bools.{one_of as either}
use Rattle.machine_states.specs.map_history.specs.declared.op.Request.{Request}
use Rattle.machine_states.specs.body_terms.specs.declared.micro.Micro.{Micro}
use Rattle.machine_states.specs.body_terms.specs.declared.micro.Micro.TheVariants as micros
use Rattle.machine_states.specs.body_terms.specs.Line.{is_event}
use Rattle.machine_states.specs.body_terms.specs.Word.{value_of, is_free}
use Rattle.machine_states.specs.table_words.specs.declared.layout.Layout.{Layout}
use Rattle.machine_states.specs.table_words.specs.declared.spot.Spot.{Spot}
use Rattle.machine_states.specs.table_words.specs.declared.spot.Spot.TheVariants.{Cell}
use Rattle.machine_states.specs.table_words.specs.declared.access.Access.{Access}
use Rattle.machine_states.specs.table_words.specs.Limits.{IsWithinLimits}
use Rattle.machine_states.specs.structure_laws.specs.Scene.{Readings}
use Rattle.machine_states.specs.structure_laws.specs.Meaning.{Meaning}
use Rattle.machine_states.specs.structure_laws.specs.Laws.{Laws}
use Rattle.machine_states.specs.structure_laws.specs.Cells.{cell_of, IsLoadable}
use Rattle.machine_states.specs.structure_laws.specs.Sections.{IsAllowed}
use Rattle.machine_states.specs.structure_laws.proofs.Changes.{upd_same}
use Rattle.machine_states.specs.runner_parts.specs.declared.event.EventKind.{EventKind}
use Rattle.machine_states.specs.runner_parts.specs.declared.event.EventKind.TheVariants as kinds
use Rattle.machine_states.specs.runner_parts.specs.State.{RunState, GuardsState, PartState}
use Rattle.machine_states.specs.runner_parts.specs.Tests.{is_readable}
use Rattle.machine_states.specs.runner_steps.specs.Asks.{opening_ask}
use Rattle.machine_states.specs.runner_steps.specs.Asks.{asks, ask_by, outside_ask, line_ask}
use Rattle.machine_states.specs.runner_steps.specs.Outside.{read_ask}
use Rattle.machine_states.specs.runner_steps.specs.Sections.{is_open_run, next_of, commits_to, needs_link}
use Rattle.agreement_core.specs.State.{AgreementState}
use Rattle.agreement_core.specs.Events.{IsBefore}
use Rattle.machine_states.specs.epoch_core.specs.State.{Counts, is_entered, entry_of, IsKept, MayHold}
use Rattle.machine_states.specs.epoch_core.specs.Events.{Reach, Enabled, slot_of}
use Rattle.machine_states.specs.epoch_core.proofs.Reusing.{may_follow}
use Rattle.machine_states.specs.Sight.{Sight}
use Rattle.machine_states.proofs.Sights.{unless_gone, some_none, if_some}
use Rattle.machine_blocks.specs.machine_guards.specs.machine_agreement.specs.machine_epochs.specs.Entries.{counts_of}
use Rattle.machine_blocks.specs.machine_guards.specs.machine_agreement.specs.machine_epochs.specs.Supplied.{sees_slot, comes_outside, comes_by, MayRetire}
use Rattle.machine_blocks.specs.machine_guards.specs.machine_agreement.specs.machine_epochs.specs.Supplied as supplied
use Rattle.machine_blocks.specs.machine_guards.specs.machine_agreement.specs.machine_epochs.proofs.OutsideAsked as outside
use Rattle.machine_blocks.specs.machine_guards.specs.machine_agreement.specs.machine_epochs.proofs.RunPlaces.{open_run, is_of_end}
use Rattle.machine_blocks.specs.machine_guards.specs.machine_agreement.specs.machine_scenes.specs.Shown.{States}
use Rattle.machine_blocks.specs.machine_guards.specs.machine_agreement.specs.machine_scenes.specs.Steps as steps
use Rattle.machine_blocks.specs.machine_guards.specs.machine_agreement.specs.machine_scenes.specs.Steps.{MeetsBy}
use Rattle.machine_blocks.specs.machine_guards.specs.machine_agreement.specs.machine_scenes.specs.Supplied.{SuppliesEpochs}
use Rattle.machine_blocks.specs.machine_guards.specs.machine_agreement.specs.machine_scenes.proofs.Supplies.{supplies_epochs}
use Rattle.machine_blocks.specs.machine_guards.specs.machine_agreement.specs.machine_scenes.proofs.Kept.{step_kept}
use Rattle.machine_blocks.specs.machine_guards.specs.machine_agreement.specs.Joined.{IsRunOf}
use Rattle.machine_blocks.specs.machine_guards.specs.machine_agreement.proofs.RunPlaces.{run_here, before}
use Rattle.machine_blocks.specs.machine_guards.specs.Supplied.{GuardsAreSupplied}
use Rattle.machine_invariant.specs.Whole.{Beside, states_of, IsWhole}
use Rattle.machine_invariant.proofs.Basics.{not_both, by_bool, both, below_test, same_test}
use Rattle.machine_invariant.proofs.Asked.{asked_by, entered_at}
use Rattle.machine_invariant.proofs.Limbo.{SweepsSafely}
use Rattle.machine_blocks.proofs.Finding.{commit_finds}
use Rattle.machine_invariant.proofs.Linked.{link_few}

-- a lock's word that names the guarded descriptor with this slot number has that descriptor in its value
names : (c : Counts) (g : GuardsState) (word t : ℕ) → sees_slot c g word t ≡ true → (d : ℕ) × (slot_of c d ≡ t) × (value_of word ≡ suc d)
names c g word t e =
    let h = both (nat_le c.nodes t) _ e in
    let v = (both (value_of word == t - c.nodes + 1) _ (both (not (is_free word)) _ h.1).1).0 in
    (t - c.nodes, back c.nodes t h.0, same_test (value_of word) (t - c.nodes + 1) v ∙ one_more (t - c.nodes))
  where
    back : (n t : ℕ) → nat_le n t ≡ true → n + (t - n) ≡ t
    back n t e = grind (arith, nat_tests)

    one_more : (n : ℕ) → n + 1 ≡ suc n
    one_more n = omega arith

-- a place that a runner may read by the test is one that it may load
pub loadable_by : (m : Meaning) (walk : Readings) (place : ℕ) → is_readable m walk place ≡ true → IsLoadable m walk place
loadable_by m walk place e = ⊎_elim
    (λ low. inl (inl (below_test place m.fixed_cells low)))
    (λ rest. ⊎_elim inr (λ slot. in_slot (cases_lt place m.fixed_cells) slot) (either (m.is_lock place) _ rest))
    (either (nat_lt place m.fixed_cells) _ e)
  where
    t : ℕ
    t = (place - m.fixed_cells) / 5

    at_cell : (n p : ℕ) → n ≤ p → p ≡ n + 5 * ((p - n) / 5) + (p - n) % 5
    at_cell n p h = omega arith

    low_cell : (k : ℕ) → k % 5 < 5
    low_cell k = omega arith

    in_slot : (place < m.fixed_cells) ⊎ (m.fixed_cells ≤ place) → (nat_lt t m.fixed_slots || m.reaches walk t) ≡ true
        → IsLoadable m walk place
    in_slot above slot = ⊎_elim (λ lt. inl (inl lt)) (λ le. inl (inr (
      t,
      ((place - m.fixed_cells) % 5, low_cell (place - m.fixed_cells), at_cell m.fixed_cells place le),
      ⊎_elim (λ fixed. inl (below_test t m.fixed_slots fixed)) inr (either (nat_lt t m.fixed_slots) _ slot),
    ))) above

-- the slots that are met at this place, where the cells have these words
abbrev pub slots_met : Meaning → Counts → (ℕ → ℕ) → ℕ → ℕ → Bool
slots_met m c cells place t = nat_lt t c.nodes && ((m.is_link cells place && value_of (cells place) == suc t)
    || (not (m.is_lock place) && (nat_le (cell_of m t 0) place && nat_lt place (cell_of m t 5))))

module _ (m : Meaning) (l : Layout) (c : Counts) (j : States) (place t : ℕ) where
  met_low : slots_met m c j.agreement.shared.cells place t ≡ true → t < c.nodes
  met_low e = below_test t c.nodes (both (nat_lt t c.nodes) _ e).0

  met_by : slots_met m c j.agreement.shared.cells place t ≡ true → MeetsBy m l c j place t
  met_by e = ⊎_elim
      (λ link. let h = both (m.is_link j.agreement.shared.cells place) _ link in inl (h.0, same_test _ _ h.1))
      (λ cell. let h = both (not (m.is_lock place)) _ cell in inr (not_so _ h.0, in_cell m.fixed_cells t place h.1))
      (either (m.is_link j.agreement.shared.cells place && value_of (j.agreement.shared.cells place) == suc t) _
      (both (nat_lt t c.nodes) _ e).1)
    where
      not_so : (b : Bool) → not b ≡ true → b ≡ false
      not_so false e = refl
      not_so true e = absurd (let x = e in cc)

      tests : (a b p : ℕ) → (nat_le a p && nat_lt p b) ≡ true → (a ≤ p) × (p < b)
      tests a b p e = grind (arith, nat_tests)

      in_cell : (n t p : ℕ) → (nat_le (n + 5 * t + 0) p && nat_lt p (n + 5 * t + 5)) ≡ true → (i : ℕ) × (i < 5) × (p ≡ n + 5 * t + i)
      in_cell n t p e = let h = tests (n + 5 * t + 0) (n + 5 * t + 5) p e in let low = h.0 in let high = h.1 in
          (p - (n + 5 * t), omega arith, omega arith)

  pub by_met : t < c.nodes → MeetsBy m l c j place t → slots_met m c j.agreement.shared.cells place t ≡ true
  by_met low by = ⊎_elim
      (λ link. linked t c.nodes _ _ _ low link.0 link.1)
      (λ cell. inside m.fixed_cells t c.nodes place cell.1.0 (m.is_lock place) _ low cell.0 cell.1.1 cell.1.2) by
    where
      linked : (t n v : ℕ) (link b : Bool) → t < n → link ≡ true → v ≡ suc t → (nat_lt t n && ((link && v == suc t) || b)) ≡ true
      linked t n v link b low is same = grind (arith, nat_tests)

      inside : (k t n p i : ℕ) (lock b : Bool) → t < n → lock ≡ false → i < 5 → p ≡ k + 5 * t + i
          → (nat_lt t n && (b || (not lock && (nat_le (k + 5 * t + 0) p && nat_lt p (k + 5 * t + 5))))) ≡ true
      inside k t n p i lock b low is five same = grind (arith, nat_tests)

-- a runner whose event reads a cell outside a run holds what it meets there
abbrev pub HoldsMet : Meaning → Layout → Beside → Sight → ℕ → EventKind → Type 0
HoldsMet m l g s r kind = (place t : ℕ) → kind ≡ kinds.LoadCell (Some place) → t < (counts_of m l).nodes
    → MeetsBy m l (counts_of m l) (states_of g s) place t → g.epochs.holds r t ≡ true

-- a descriptor that a lock's word names is live
pub named_live : (m : Meaning) (l : Layout) (g : Beside) (s : Sight) → IsWhole m l g s → (place d : ℕ) → m.is_lock place ≡ true
    → value_of (s.word (Cell place)) ≡ suc d → g.agreement.live d ≡ true
named_live m l g s whole place d lock value =
    whole.sections.sound.named place d lock (ap value_of (whole.sections.words.cells place) ∙ value)

-- so it may be held by whoever is entered
pub named_may : (m : Meaning) (l : Layout) (g : Beside) (s : Sight) → IsWhole m l g s → (i place t : ℕ) → m.is_lock place ≡ true
    → is_entered (g.epochs.stage i) ≡ true → sees_slot (counts_of m l) (s.part i).guards (s.word (Cell place)) t ≡ true → MayHold g.epochs i t
named_may m l g s whole i place t lock entered is =
    let h = names (counts_of m l) (s.part i).guards (s.word (Cell place)) t is in
    let at_live = whole.tied.live h.0 (named_live m l g s whole place h.0 lock h.2) in
    subst (λ n. MayHold g.epochs i n) h.1 ((may_follow (counts_of m l) g.epochs whole.slots.sound).descriptor i h.0 entered
    (subst (λ n. IsKept n (entry_of (g.epochs.stage i))) (sym at_live) tt))

module _ (m : Meaning) (laws : Laws m) (l : Layout) (limits : IsWithinLimits l) (rs : List Request) (few : length rs ≤ 131072)
    (allowed : All (λ (q : Request). IsAllowed q.op) rs) (g : Beside) (s : Sight) (whole : IsWhole m l g s) (r : ℕ) (kind : EventKind)
    (x : Spot × Access) (asked : asks m l rs r kind (s.part r) ≡ Some x) where
  abbrev p : PartState
  p = s.part r

  abbrev a : AgreementState
  a = g.agreement

  abbrev c : Counts
  c = counts_of m l

  abbrev supplies : SuppliesEpochs m l c (states_of g s)
  supplies = supplies_epochs m laws l limits c refl (states_of g s) whole.kept

  may_name : (place t : ℕ) → m.is_lock place ≡ true → is_entered (g.epochs.stage r) ≡ true → sees_slot c p.guards (s.word (Cell place)) t ≡ true
      → MayHold g.epochs r t
  may_name place t lock entered is = named_may m l g s whole r place t lock entered is

  -- a reading outside a run
  module _ (place : ℕ) (reads : read_ask m place p ≡ Some x) where
    read_entered : is_entered (g.epochs.stage r) ≡ true
    read_entered = let h = outside.read_asked m place p x reads in entered_at m l g.epochs s whole.slots r h.0 h.1

    read_spot : (Cell place) ≡ x.0
    read_spot = let h = outside.read_asked m place p x reads in ap (λ (y : Spot × Access). y.0) h.2

    loadable : IsLoadable m p.reads.walk place
    loadable = loadable_by m p.reads.walk place (both _ _ (if_some _ _ x reads).0).1

    -- what the readings reach with this one is held already
    reaches_held : HoldsMet m l g s r (kinds.LoadCell (Some place)) → (t : ℕ) → t < c.nodes
        → m.reaches (p.reads.walk ++ (place, s.word (Cell place)) ∷ []) t ≡ true → g.epochs.holds r t ≡ true
    reaches_held met t low reach =
        let now = states_of g s in
        let kept = step_kept m laws l limits c refl now (steps.Read r place)
        (record { entered = read_entered; loadable = loadable; holds = λ u low by. met place u refl low by }) whole.kept in
        let walk = upd_same now.walk r r (p.reads.walk ++ (place, a.shared.cells place) ∷ []) refl in
        (supplies_epochs m laws l limits c refl (steps.after m l c now (steps.Read r place)) kept).reached r t read_entered low
        (ap (λ (w : Readings). m.reaches w t) walk
        ∙ (ap (λ n. m.reaches (p.reads.walk ++ (place, n) ∷ []) t) (whole.sections.words.cells place) ∙ reach))

    read_held : HoldsMet m l g s r (kinds.LoadCell (Some place)) → (t : ℕ)
        → comes_outside m c (kinds.LoadCell (Some place)) p (s.word (Cell place)) t ≡ true
        → g.epochs.holds r t ≡ false → MayHold g.epochs r t
    read_held met t comes out = ⊎_elim
        (λ reach. let h = both (nat_lt t c.nodes) _ reach in not_both (reaches_held met t (below_test t c.nodes h.0) h.1) out)
        (λ named. let h = both (m.is_lock place) _ named in may_name place t h.0 read_entered h.1)
        (either _ _ comes)

    -- what is met at this place may be held
    reads_met : Enabled c g.epochs (Reach r (slots_met m c a.shared.cells place))
    reads_met = (
      read_entered,
      λ t is. supplies.met r place t read_entered loadable (met_low m l c (states_of g s) place t is)
          (met_by m l c (states_of g s) place t is),
    )

  -- outside a run
  outside_held : (k : EventKind) → outside_ask m l rs r k p ≡ Some x → asks m l rs r k p ≡ Some x → HoldsMet m l g s r k → (t : ℕ)
      → comes_outside m c k p (s.word x.0) t ≡ true
      → g.epochs.holds r t ≡ false → MayHold g.epochs r t
  outside_held (kinds.LoadCell (Some place)) e all met t comes out = read_held place e met t
      (ap (λ y. comes_outside m c (kinds.LoadCell (Some place)) p (s.word y) t) (read_spot place e) ∙ comes) out
  outside_held _ e all met t comes out = absurd (let y = comes in cc)

  -- the runner's run
  module _ (q : RunState) (is : (s.part r).run ≡ Some q) where
    abbrev here : IsRunOf (a.run r) q
    here = run_here m l a s whole.sections r q is

    abbrev d : ℕ
    d = (a.run r).descriptor

    abbrev next : Micro
    next = next_of m q

    before_next : (micro : Micro) → is_open_run q ≡ true → is_of_end micro ≡ false → is_event micro ≡ true → next ≡ micro
        → IsBefore a r micro
    before_next micro opened inner event ahead = before m l a s whole.sections r q is (open_run q opened) micro inner event ahead

    -- a Retire before which the run stands may be made
    retires : (t k : ℕ) → is_open_run q ≡ true → next ≡ micros.EpochForRetire t k → MayRetire c g.epochs q.descriptor k t
    retires t k opened ahead =
        let may = supplies.retirable r t k (before_next (micros.EpochForRetire t k) opened refl refl ahead) (whole.logs.stands.same d k) in
        subst (λ n. MayRetire c g.epochs n k t) here.descriptor (record { node = may.node; live = may.live; once = may.once })

  held : HoldsMet m l g s r kind → (t : ℕ) → (run : Option RunState) → p.run ≡ run → comes_by m c kind p run (s.word x.0) t ≡ true
      → g.epochs.holds r t ≡ false → MayHold g.epochs r t
  held met t None at comes out = outside_held kind
      (asked_by m l r kind p rs x _ at asked) asked met t comes out
  held met t (Some q) at comes out = absurd (let y = comes in cc)

  -- a commit of the run finds what the log has there
  logged : (q : RunState) (k : ℕ) → p.run ≡ Some q → is_open_run q ≡ true → commits_to (next_of m q) ≡ Some k → needs_link q (next_of m q) ≡ false
      → g.epochs.log q.descriptor k ≡ s.word x.0
  logged q k is opened commits near = whole.logs.stands.same q.descriptor k
      ∙ sym (commit_finds m l rs whole.logs.chain a g.epochs s whole.slots whole.logs.stands r kind x asked q is opened k commits near)

  -- the table has few node slots
  few_slots : c.nodes ≤ 2 ^ 32
  few_slots = let nodes = limits.few_nodes in let runners = limits.few_runners in let fixed = laws.first.few_slots in omega (arith, nodes, runners, fixed)

  -- all of it, where a runner that reads a cell holds what it meets there
  pub slots_supplied : HoldsMet m l g s r kind → SweepsSafely l s r kind (s.word x.0) → supplied.EpochsAreSupplied m l g.epochs s r kind x.0
  slots_supplied met swept = record {
    unread = supplies.unread;
    held = λ t comes out. held met t p.run refl comes out;
    logged = logged;
    retires = λ q t k is opened ahead. retires q is t k opened ahead;
    swept = swept;
    small = few_slots;
  }

  -- a read is one outside a run
  read_outside : (place : ℕ) (run : Option RunState) → ask_by m l rs r (kinds.LoadCell (Some place)) p run ≡ Some x
      → read_ask m place p ≡ Some x
  read_outside place None e = e
  read_outside place (Some q) e = by (is_open_run q) e
    where
      by : (b : Bool)
          → (if b then line_ask m l (kinds.LoadCell (Some place)) p.nodes.free p.blocks.free q (next_of m q) else opening_ask (kinds.LoadCell (Some place)) q)
          ≡ Some x → read_ask m place p ≡ Some x
      by true e = some_none x e
      by false e = some_none x e

  -- a runner that reads a cell may come to hold what it meets there
  pub meets_reach : (place : ℕ) → kind ≡ kinds.LoadCell (Some place) → Enabled c g.epochs (Reach r (slots_met m c a.shared.cells place))
  meets_reach place is = reads_met place (read_outside place p.run
      (ap (λ k. ask_by m l rs r k p p.run) (sym is) ∙ (unless_gone _ p.gone _ x asked).1))

  -- guards are supplied as well
  pub guards_supplied : GuardsAreSupplied m l whole.logs.chain a g.epochs s r kind (s.word x.0)
  guards_supplied = record {
    published = λ d is. let there = whole.tied.publisher d (whole.tied.is_live d is) in (g.publications.runner d, there.0, there.1, there.2);
    live = λ place d is lock value. whole.tied.live d (named_live m l g s whole place d lock (found place d is value));
    unended = λ place d is lock value.
        let word = found place d is value in
        let own = whole.sections.sound.sections d (whole.sections.sound.live_used d (named_live m l g s whole place d lock word)) in
        by_bool (a.over d) (λ over. own.over_unnamed over place lock (ap value_of (whole.sections.words.cells place) ∙ word));
    few = λ b q is at won. link_few m l rs g s whole r b x (subst (λ k. asks m l rs r k p ≡ Some x) is asked) q at won;
  }
    where
      -- the word is the cell's
      found : (place d : ℕ) → kind ≡ kinds.LoadCell (Some place) → value_of (s.word x.0) ≡ suc d → value_of (s.word (Cell place)) ≡ suc d
      found place d is value = ap (λ y. value_of (s.word y)) (read_spot place (read_outside place p.run
          (ap (λ k. ask_by m l rs r k p p.run) (sym is) ∙ (unless_gone _ p.gone _ x asked).1))) ∙ value
