-- Each step raises a place's version no further than its runner's runs may.
use Rattle.std.specs.Prelude.{◌==◌, ◌-◌, ◌%◌, ◌^◌, ◌⊎◌, ◌&&◌, ◌||◌, not, cond, Bool, true, false, if◌then◌else◌}
use Rattle.std.proofs.Common.{◌≡◌, ◌≢◌, ℕ, zero, suc, ◌+◌, ◌*◌, ◌<◌, ◌≤◌, List, length, refl, sym, ap, ◌∙◌, subst, ⊎_elim, inl, inr, arith, Option, Some, None}
use Rattle.std.proofs.lemmas.Bool.{cases_eq}
use Rattle.std.proofs.lemmas.Bool.Decides.{nat_tests}
use Rattle.machine_states.specs.epoch_core.specs.small_lemmas.proofs.Numbers.{one_at_most as flag_few, tested_equal as test_same}
use Rattle.machine_states.specs.map_history.specs.declared.op.Request.{Request}
use Rattle.machine_states.specs.body_terms.specs.Line.{micro_at}
use Rattle.machine_states.specs.body_terms.specs.Memory.{cell_of}
use Rattle.machine_states.specs.body_terms.specs.Word.{value_of, version_of, next_word, held_word}
use Rattle.machine_states.specs.body_terms.specs.declared.micro.Micro.{Micro}
use Rattle.machine_states.specs.body_terms.specs.declared.micro.Micro.TheVariants as micros
use Rattle.machine_states.specs.body_terms.specs.declared.thunk.Thunk.{Thunk}
use Rattle.agreement_core.specs.section_lines.specs.Line.{IsLine}
use Rattle.machine_states.specs.table_words.specs.declared.layout.Layout.{Layout}
use Rattle.machine_states.specs.table_words.specs.declared.spot.Spot.{Spot}
use Rattle.machine_states.specs.table_words.specs.declared.spot.Spot.TheVariants as spots
use Rattle.machine_states.specs.table_words.specs.declared.access.Access.{Access}
use Rattle.machine_states.specs.table_words.specs.declared.access.Access.TheVariants.{Exchanges}
use Rattle.machine_states.specs.table_words.specs.Access.{written, exchanged}
use Rattle.machine_states.specs.table_words.specs.Seen.{upd, put}
use Rattle.machine_states.specs.table_words.specs.Limits.{IsWithinLimits}
use Rattle.machine_states.specs.structure_laws.specs.Meaning.{Meaning}
use Rattle.machine_states.specs.structure_laws.specs.Laws.{Laws}
use Rattle.machine_states.specs.runner_parts.specs.declared.entries.Published.{Published}
use Rattle.machine_states.specs.runner_parts.specs.declared.event.EventKind.{EventKind}
use Rattle.machine_states.specs.runner_parts.specs.declared.event.EventKind.TheVariants as kinds
use Rattle.machine_states.specs.runner_parts.specs.State.{RunState, PartState}
use Rattle.machine_states.specs.runner_steps.specs.Asks.{opening_ask}
use Rattle.machine_states.specs.runner_steps.specs.Asks.{ask_by, line_ask, outside_ask}
use Rattle.machine_states.specs.runner_steps.specs.After.{after, after_by, line_after, outside_after}
use Rattle.machine_states.specs.runner_steps.specs.InRun.{is_slot, fill_store_ask}
use Rattle.machine_states.specs.runner_steps.specs.Sections.{thunk_of, is_open_run, line_of, next_of, needs_link}
use Rattle.machine_states.specs.runner_steps.specs.AfterInRun.{goes_on, opened_more, place_of, with_run, block_emptied, filled}
use Rattle.machine_states.specs.runner_steps.specs.After.{knows_also, leaves}
use Rattle.agreement_core.specs.State.{Section}
use Rattle.agreement_core.proofs.Lines.{exchange_unlocked}
use Rattle.machine_states.specs.Sight.{Sight, parts_after}
use Rattle.machine_states.proofs.Sights.{some_none, unless_gone, Joins, joins}
use Rattle.machine_states.proofs.Steps.{some_same}
use Rattle.machine_states.proofs.Updates.{upd_here, upd_else, upd_split}
use Rattle.machine_epochs.specs.Entries.{counts_of}
use Rattle.machine_epochs.specs.Slots.{thunk_in}
use Rattle.machine_epochs.proofs.InsideAsked as inside
use Rattle.machine_epochs.proofs.OutsideAsked.{HoldAsked, hold_asked}
use Rattle.machine_epochs.proofs.RunPlaces.{next_in_line, open_run}
use Rattle.machine_scenes.specs.Shown.{rules_of}
use Rattle.machine_scenes.proofs.JointSteps.{hand_status}
use Rattle.reached_histories.specs.machine_facts.specs.machine_slots.proofs.Locks.{locks_free}
use Rattle.reached_histories.specs.machine_facts.specs.machine_slots.proofs.Runs.{fill_low}
use Rattle.machine_states.specs.epoch_core.specs.declared.location.Location.TheVariants.{Hand}
use Rattle.machine_states.specs.epoch_core.specs.History.{is_out}
use Rattle.machine_states.specs.epoch_core.specs.Sound.{is_for_nodes}
use Rattle.reached_histories.specs.machine_facts.specs.machine_agreement.proofs.RunPlaces.{used_here, code_here, opened_thunk}
use Rattle.reached_histories.specs.machine_facts.specs.machine_agreement.proofs.LineAsked as asked_line
use Rattle.reached_histories.specs.machine_facts.specs.machine_agreement.proofs.LineKinds.{noted_finished}
use Rattle.reached_histories.specs.machine_facts.specs.machine_invariant.specs.Rising.{CellsRise}
use Rattle.reached_histories.specs.machine_facts.specs.machine_invariant.specs.Whole.{Beside, states_of, IsWhole}
use Rattle.next_steps.proofs.Parts.{each_part}
use Rattle.reached_histories.specs.machine_facts.specs.machine_invariant.proofs.Keeping.{IsStep}
use Rattle.resource_bounds.proofs.Weights.{weight, spent}
use Rattle.resource_bounds.proofs.Releases.{released_lock}
use Rattle.resource_bounds.proofs.Runs.{run_most, outer_most}
use Rattle.resource_bounds.proofs.Parts.{index, charge, same_charge, exchanged as gains_exchanged, stored as gains_stored, line_keeps, opening_keeps, held as gains_held, MayGo, outside_keeps}
use Rattle.resource_bounds.proofs.Words.{Stays, block_stays, line_stays, opening_stays, outside_stays}
use Rattle.resource_bounds.proofs.Sums.{sum_to, one_changed}
use Rattle.machine_states.specs.runner_steps.specs.Outside.{blocks_from}

-- 1 where the place is a lock that isn't free
abbrev pub held : Meaning → ℕ → ℕ → ℕ
held m p word = cond (m.is_lock p && not (value_of word == 0)) 1 0

-- what the runs of the runners may have raised bounds the version; a lock that isn't free is to be released still
abbrev pub Bounded : Meaning → Layout → Sight → Type 0
Bounded m l s = (p : ℕ) → version_of (s.word (spots.Cell p)) + held m p (s.word (spots.Cell p))
    ≤ 1 + sum_to (λ i. charge m p (s.part i)) (suc l.runners)

module _ (m : Meaning) (p : ℕ) where
  held_few : (word : ℕ) → held m p word ≤ 1
  held_few word = flag_few (m.is_lock p && not (value_of word == 0))

  unlocked : (word : ℕ) → m.is_lock p ≡ false → held m p word ≡ 0
  unlocked word e = ap {B = ℕ} (λ b. cond (b && not (value_of word == 0)) 1 0) e

  pub free : (word : ℕ) → (m.is_lock p ≡ true → value_of word ≡ 0) → held m p word ≡ 0
  free word h = by (m.is_lock p) refl
    where
      by : (b : Bool) → m.is_lock p ≡ b → ◌≡◌ {A = ℕ} (cond (b && not (value_of word == 0)) 1 0) 0
      by true e = ap {B = ℕ} (λ n. cond (not (n == 0)) 1 0) (h e)
      by false e = refl

  holds : (word : ℕ) → m.is_lock p ≡ true → value_of word ≢ 0 → held m p word ≡ 1
  holds word e some = ap {B = ℕ} (λ b. cond (b && not (value_of word == 0)) 1 0) e ∙ by (value_of word) some
    where
      by : (n : ℕ) → n ≢ 0 → ◌≡◌ {A = ℕ} (cond (not (n == 0)) 1 0) 1
      by zero ne = absurd (ne refl)
      by (suc n) ne = grind (arith, nat_tests)

same_weight : (a b k : ℕ) → a ≡ b → cond (a == b) k 0 ≡ k
same_weight a b k e = grind (arith, nat_tests)

cell_index : (fixed slot cell p : ℕ) → cell < 5 → p ≡ fixed + 5 * slot + cell → cell ≡ (p - fixed) % 5
cell_index fixed slot cell p low e = omega (arith, low, e)

-- an exchange that finds another word leaves it
lost : (found old new : ℕ) → (found == old) ≡ false → exchanged found old new ≡ found
lost found old new e = ap (λ b. if b then new else found) e

won : (found old new : ℕ) → (found == old) ≡ true → exchanged found old new ≡ new
won found old new e = ap (λ b. if b then new else found) e

-- the value of a released lock, and of a held one
released_value : (word : ℕ) → value_of (next_word word 0) ≡ 0
released_value word = omega arith

module _ (m : Meaning) (l : Layout) (g : Beside) (s : Sight) (whole : IsWhole m l g s) where
  -- the thunk of a published section stands in its descriptor
  thunk_there : (r : ℕ) (x : Published) → (s.part r).published ≡ Some x → thunk_in s.word x.descriptor ≡ x.thunk
  thunk_there r x is =
      let used = whole.tied.used x.descriptor ∙ ap is_out ((whole.slots.tied r).published x is) in
      let there = whole.tied.publisher x.descriptor (whole.tied.is_live x.descriptor ((whole.slots.tied r).published x is)) in
      let one = whole.slots.published_once r (g.publications.runner x.descriptor) x there.0 is there.1 (sym there.2) in
      let same : x ≡ there.0 = some_same x there.0 (sym is ∙ (ap (λ i. (s.part i).published) one ∙ there.1)) in
      sym (whole.tied.thunk x.descriptor used) ∙ (sym there.3 ∙ ap (λ (y : Published). y.thunk) (sym same))

  module _ (laws : Laws m) (limits : IsWithinLimits l) (r : ℕ) (q : RunState) (is : (s.part r).run ≡ Some q) where
    -- a lock in the slot that a Make fills is free
    hand_free : (t cell : ℕ) → q.made ≡ Some t → cell < 5 → m.is_lock (cell_of m.fixed_cells t cell) ≡ true
        → value_of (s.word (spots.Cell (cell_of m.fixed_cells t cell))) ≡ 0
    hand_free t cell made low lock =
        let here : g.epochs.location t ≡ Hand r = (whole.slots.tied r).run_made q t is made in
        let node = whole.slots.sound.for_nodes t (ap is_for_nodes here) in
        ap value_of (sym (whole.sections.words.cells (cell_of m.fixed_cells t cell)))
        ∙ locks_free m laws l limits (counts_of m l) refl (states_of g s) whole.kept whole.held t cell node low
        (hand_status (counts_of m l) g.epochs.location t r here) lock

-- the charges of the parts after a step
module _ (m : Meaning) (l : Layout) (p : ℕ) (part : ℕ → PartState) (r : ℕ) (z : PartState) (Q : ℕ → ℕ → Type 0) where
  apart : (worker : ℕ) → r ≡ l.runners → worker < l.runners → worker ≢ r
  apart worker is low same = absurd (omega (arith, is, low, same))

  each_charge : (kind : EventKind) → Joins l kind r → Q r (charge m p z) → ((i : ℕ) → i ≢ r → Q i (charge m p (part i))) → (i : ℕ)
      → Q i (charge m p (parts_after kind part r z i))
  each_charge (kinds.Join worker) join own rest i =
      upd_split (upd part r (knows_also z (part worker))) worker (leaves (part worker)) (λ k y. Q k (charge m p y))
      (rest worker (apart worker join.0 join.1)) (λ k ne. upd_split part r (knows_also z (part worker)) (λ k y. Q k (charge m p y)) own rest k) i
  each_charge kind join own rest i = upd_split part r z (λ k y. Q k (charge m p y)) own rest i

-- one step
module _ (m : Meaning) (laws : Laws m) (l : Layout) (limits : IsWithinLimits l) (rs : List Request) (s s' : Sight) (r : ℕ) (kind : EventKind)
    (st : IsStep m l rs s s' r kind) (p : ℕ) where
  abbrev y : PartState
  y = s.part r

  abbrev x : Spot × Access
  x = st.step.ask

  abbrev f : Spot → ℕ
  f = s.word

  abbrev found : ℕ
  found = f x.0

  abbrev word : ℕ
  word = f (spots.Cell p)

  abbrev word' : ℕ
  word' = put f x.0 (written x.1 found) (spots.Cell p)

  -- the cell is as it was, or the runs may have raised it by as much
  abbrev Fine : PartState → Type 0
  Fine z = (Stays f p x × (charge m p y ≤ charge m p z)) ⊎ (held m p word' + (charge m p y + 1) ≤ charge m p z + held m p word)

  asked : ask_by m l rs r kind y y.run ≡ Some x
  asked = (unless_gone _ y.gone _ x st.step.asked).1

  -- another cell, and the cell itself
  other : (place : ℕ) (access : Access) → (spots.Cell place, access) ≡ x → p ≢ place → Stays f p x
  other place access is ne = subst (Stays f p) is (upd_else (λ i. f (spots.Cell i)) place (written access (f (spots.Cell place))) p ne)

  it : (place : ℕ) (access : Access) → (spots.Cell place, access) ≡ x → p ≡ place → word' ≡ written access (f (spots.Cell p))
  it place access is e =
      subst (λ (u : Spot × Access). put f u.0 (written u.1 (f u.0)) (spots.Cell p) ≡ written access (f (spots.Cell p))) is
      (subst (λ i. put f (spots.Cell place) (written access (f (spots.Cell place))) (spots.Cell i) ≡ written access (f (spots.Cell i))) (sym e)
      (upd_here (λ i. f (spots.Cell i)) place (written access (f (spots.Cell place)))))

  module _ (q : RunState) (runs : y.run ≡ Some q) (opened : is_open_run q ≡ true) where
    all : length q.opened ≡ 13
    all = open_run q opened

    used : st.beside.agreement.used q.descriptor ≡ true
    used = used_here m l st.beside.agreement s st.whole.sections r q runs

    abbrev section : Section
    section = st.beside.agreement.section q.descriptor

    in_line : IsLine m.is_lock l.version_max section.lock section.code section.slot
    in_line = (st.whole.sections.sound.sections q.descriptor used).published.line

    code : (micro : Micro) → micro_at (line_of m q) q.at ≡ micro → section.code q.at ≡ micro
    code micro here = code_here m l st.beside.agreement s st.whole.sections r q runs all q.at ∙ here

    most : spent (weight p (index m p)) q.at (line_of m q) ≤ 4
    most = run_most m l st.beside s st.whole r q runs all p (index m p)

    outer : (z : Published) → y.published ≡ Some z → z.descriptor ≡ q.descriptor → (z.thunk.lock == p) ≡ true
        → spent (weight p (index m p)) q.at (line_of m q) ≤ 2
    outer z is own lock =
        let same : thunk_of q.opened ≡ z.thunk =
        sym (opened_thunk m l st.beside.agreement s st.whole.sections r q runs all) ∙ (ap (thunk_in s.word) (sym own) ∙ thunk_there m l st.beside s st.whole r z is) in
        outer_most m l st.beside s st.whole r q runs all p (index m p) (ap (λ (t : Thunk). t.lock) same ∙ test_same z.thunk.lock p lock)

    keeps : (kind' : EventKind) → charge m p y ≤ charge m p (line_after m l kind' y q (next_of m q) found)
    keeps kind' = (line_keeps m p l y found q runs all most outer kind' (next_of m q)).up

    -- a step that the run has gone past counts
    counts : (k : ℕ) (z : PartState) (micro : Micro) → micro_at (line_of m q) q.at ≡ micro → weight p (index m p) micro ≡ k
        → charge m p y + weight p (index m p) (micro_at (line_of m q) q.at) ≤ charge m p z → charge m p y + k ≤ charge m p z
    counts k z micro here is more = let same = ap (weight p (index m p)) here ∙ is in omega (arith, same, more)

    -- a Store
    store_fine : line_ask m l kinds.ExchangeCell y.nodes.free y.blocks.free q (next_of m q) ≡ Some x → Fine (line_after m l kinds.ExchangeCell y q (next_of m q) found)
    store_fine e =
        let h = asked_line.exchange_asked q x l (next_of m q) e in
        let here = next_in_line m q (micros.ExchangeCell h.0 h.1 h.2) refl h.3 in
        ⊎_elim
        (λ at. inr (
        let no_lock : m.is_lock p ≡ false = ap m.is_lock at
        ∙ exchange_unlocked (rules_of m l) section.lock section.code section.slot in_line q.at h.0 h.1 h.2 (code _ here) in
        let more = counts 1 (line_after m l kinds.ExchangeCell y q (next_of m q) found) _ here (same_weight h.0 p 1 (sym at))
        (gains_exchanged m p l y found q runs all (place_of (next_of m q))).up in
        let one = unlocked m p word' no_lock in omega (arith, more, one)))
        (λ ne. inl (other h.0 _ h.4 ne, keeps kinds.ExchangeCell))
        (cases_eq p h.0)

    -- a Take
    take_fine : line_ask m l kinds.NestedHold y.nodes.free y.blocks.free q (next_of m q) ≡ Some x → Fine (line_after m l kinds.NestedHold y q (next_of m q) found)
    take_fine e =
        let h = asked_line.nested_hold_asked q x l (next_of m q) e in
        let here = next_in_line m q (micros.NestedHold h.0 h.1) refl h.2 in
        ⊎_elim
        (λ at. inr (
        let more = counts 2 (line_after m l kinds.NestedHold y q (next_of m q) found) _ here (same_weight h.0 p 2 (sym at))
        (gains_exchanged m p l y found q runs all (place_of (next_of m q))).up in
        let one = held_few m p word' in omega (arith, more, one)))
        (λ ne. inl (other h.0 _ h.3 ne, keeps kinds.NestedHold))
        (cases_eq p h.0)

    -- a release
    release_fine : line_ask m l kinds.Release y.nodes.free y.blocks.free q (next_of m q) ≡ Some x → Fine (line_after m l kinds.Release y q (next_of m q) found)
    release_fine e =
        let h = asked_line.release_asked q x l (next_of m q) e in
        ⊎_elim (λ at. by h.0 h.1 h.2 h.3 at (word == held_word q.descriptor h.1) refl) (λ ne. inl (other h.0 _ h.3 ne, keeps kinds.Release)) (cases_eq p h.0)
      where
        link : suc q.descriptor < 2 ^ 32
        link = (st.whole.sections.sound.sections q.descriptor used).published.link

        held_value : (d w : ℕ) → suc d < 2 ^ 32 → value_of (held_word d w) ≢ 0
        held_value d w low none = absurd (omega (arith, low, none))

        by : (place w : ℕ) → next_of m q ≡ micros.Release place w
            → (spots.Cell place, Exchanges (held_word q.descriptor w) (next_word (held_word q.descriptor w) 0)) ≡ x → p ≡ place
            → (b : Bool) → (word == held_word q.descriptor w) ≡ b → Fine (line_after m l kinds.Release y q (next_of m q) found)
        by place w next is at true e =
            let lock = released_lock m l rs st.beside s st.whole r q runs opened place w next in
            let now = it place _ is at ∙ won word (held_word q.descriptor w) (next_word (held_word q.descriptor w) 0) e in
            let after = free m p word' (λ k. ap value_of now ∙ released_value (held_word q.descriptor w)) in
            let before = holds m p word (ap m.is_lock at ∙ lock)
            (λ z. held_value q.descriptor w link (ap value_of (sym (test_same word (held_word q.descriptor w) e)) ∙ z)) in
            let more = keeps kinds.Release in inr (omega (arith, after, before, more))
        by place w next is at false e = inl (it place _ is at ∙ lost word (held_word q.descriptor w) (next_word (held_word q.descriptor w) 0) e, keeps kinds.Release)

    -- a store of a Make into the slot that it fills
    run_now : (s'.part r).run ≡ (after_by m l kind y y.run found).run
    run_now = subst (λ (t : Sight). (t.part r).run ≡ (after_by m l kind y y.run found).run) (sym st.step.next)
        (each_part m l s r x (λ i z. i ≡ r → z.run ≡ (after_by m l kind y y.run found).run) (λ i z blocks board records gone h. h) kind
        (joins m l rs kind r y x st.step.asked) (λ e. refl) (λ i ne e. absurd (ne e)) r refl)

    own_slot : (made : Option ℕ) (t : ℕ) → is_slot made t ≡ true → made ≡ Some t
    own_slot None t e = absurd (let no = e in cc)
    own_slot (Some u) t e = ap (λ k. Some k) (test_same u t e)

    -- the run after it
    abbrev fill_stored_run : ℕ → RunState
    fill_stored_run number = goes_on m l (record q { worn = q.worn || version_of number == l.version_max }) q.word

    -- the part after a private store: of a Make, or into a block to be linked
    abbrev stored_part : ℕ → ℕ → Bool → PartState
    stored_part t number b = with_run y (if b then block_emptied (t - blocks_from m l) q else filled m l number q)

    fill_fine : (t cell number : ℕ) → kind ≡ kinds.PrivateStore t cell number → needs_link q (next_of m q) ≡ false
        → fill_store_ask m l t cell number q (next_of m q) ≡ Some x
        → Fine (line_after m l (kinds.PrivateStore t cell number) y q (next_of m q) found)
    fill_fine t cell number of_kind linked e =
        let h = asked_line.fill_store_asked q x m l t cell number (next_of m q) e in
        let here = next_in_line m q (micros.PrivateStore cell h.0 h.1) refl h.2 in
        let low = fill_low m l (counts_of m l) (states_of st.beside s) st.whole.kept q.descriptor q.at cell h.0 h.1 used (code _ here) in
        let made = own_slot q.made t h.3 in
        let gains = (gains_stored m p l y found q runs all number).up in
        subst (λ b. Fine (stored_part t number b)) (sym linked) (⊎_elim
        (λ at. inr (
        let more = counts 1 (stored_part t number false) _ here (same_weight cell (index m p) 1 (cell_index m.fixed_cells t cell p low at)) gains in
        let after = free m p word' (λ lock. ap value_of (sym (ap (λ (u : Sight). u.word (spots.Cell p)) st.step.next))
        ∙ (ap (λ i. value_of (s'.word (spots.Cell i))) at
        ∙ hand_free m l st.beside' s' st.whole' laws limits r (fill_stored_run number) run_is t cell made low (ap m.is_lock (sym at) ∙ lock))) in
        omega (arith, more, after)))
        (λ ne. inl (other (cell_of m.fixed_cells t cell) _ h.6 ne, omega (arith, gains)))
        (cases_eq p (cell_of m.fixed_cells t cell)))
      where
        run_is : (s'.part r).run ≡ Some (fill_stored_run number)
        run_is = run_now ∙ (ap (λ k. (after_by m l k y y.run found).run) of_kind
            ∙ (ap (λ o. (after_by m l (kinds.PrivateStore t cell number) y o found).run) runs
            ∙ (ap (λ b. (if b then line_after m l (kinds.PrivateStore t cell number) y q (next_of m q) found else opened_more y q found).run) opened
            ∙ ap (λ b. (stored_part t number b).run) linked)))

    line_fine : (kind' : EventKind) → kind ≡ kind' → line_ask m l kind' y.nodes.free y.blocks.free q (next_of m q) ≡ Some x → Fine (line_after m l kind' y q (next_of m q) found)
    line_fine kinds.ExchangeCell of_kind e = store_fine e
    line_fine (kinds.PrivateStore t cell number) of_kind e = ⊎_elim
        (λ block. inl (subst (Stays f p) block.1 (block_stays f p (t - blocks_from m l) cell number), keeps (kinds.PrivateStore t cell number)))
        (λ fills. fill_fine t cell number of_kind fills.0 fills.1)
        (asked_line.run_store_asked q x m l t cell number y.blocks.free (next_of m q) e)
    line_fine kinds.NestedHold of_kind e = take_fine e
    line_fine kinds.Release of_kind e = release_fine e
    line_fine kind' of_kind e = inl (line_stays f p m l q x kind' y.nodes.free y.blocks.free (next_of m q) refl e, keeps kind')

  module _ (q : RunState) (runs : y.run ≡ Some q) where
    opening_few : (kind' : EventKind) → opening_ask kind' q ≡ Some x → (length q.opened == 13) ≡ false
    opening_few (kinds.LoadThunk None) e = below (length q.opened) (inside.open_more_asked q x e).0
      where
        below : (n : ℕ) → n < 12 → (n == 13) ≡ false
        below n low = grind (arith, nat_tests)
    opening_few kinds.LoadDone e = ap (λ n. n == 13) (inside.load_done_asked q x e).0
    opening_few _ e = some_none x e

    inside_fine : (b : Bool) → is_open_run q ≡ b
        → (if b then line_ask m l kind y.nodes.free y.blocks.free q (next_of m q) else opening_ask kind q) ≡ Some x
        → Fine (if b then line_after m l kind y q (next_of m q) found else opened_more y q found)
    inside_fine true opened e = line_fine q runs opened kind refl e
    inside_fine false opened e = inl (opening_stays f p m l q x kind e, (opening_keeps m p l y found q runs (opening_few kind e)).up)

  may_go : (kind' : EventKind) → outside_ask m l rs r kind' y ≡ Some x → MayGo m p l y found kind'
  may_go (kinds.Hold t d) e = (hold_asked m l rs r t d y x e).unpublished
  may_go _ e = tt

  hold_fine : (none : y.run ≡ None) (t : Thunk) (d : ℕ) → outside_ask m l rs r (kinds.Hold t d) y ≡ Some x → Fine (outside_after m l (kinds.Hold t d) y found)
  hold_fine none t d e =
      ⊎_elim (λ at. by at (word == t.word) refl) (λ ne. inl (other t.lock _ a.is ne, keeps)) (cases_eq p t.lock)
    where
      a : HoldAsked m l rs t d y x
      a = hold_asked m l rs r t d y x e

      keeps : charge m p y ≤ charge m p (outside_after m l (kinds.Hold t d) y found)
      keeps = (outside_keeps m p l y found none (kinds.Hold t d) a.unpublished).up

      by : p ≡ t.lock → (b : Bool) → (word == t.word) ≡ b → Fine (outside_after m l (kinds.Hold t d) y found)
      by at true same = inr (
          let there : found ≡ t.word = ap (λ (u : Spot × Access). f u.0) (sym a.is) ∙ (ap (λ i. f (spots.Cell i)) (sym at) ∙ test_same word t.word same) in
          let more = gains_held m p l y found t d a.unpublished there (sym at) in
          let one = held_few m p word' in omega (arith, more, one))
      by at false other_word = inl (it t.lock _ a.is at ∙ lost word t.word (held_word d t.word) other_word, keeps)

  outside_fine : (none : y.run ≡ None) (kind' : EventKind) → outside_ask m l rs r kind' y ≡ Some x → Fine (outside_after m l kind' y found)
  outside_fine none (kinds.Hold t d) e = hold_fine none t d e
  outside_fine none kind' e = inl (outside_stays f p m l rs r y x kind' refl e, (outside_keeps m p l y found none kind' (may_go kind' e)).up)

  fine : Fine (after_by m l kind y y.run found)
  fine = by y.run refl asked
    where
      by : (o : Option RunState) → y.run ≡ o → ask_by m l rs r kind y o ≡ Some x → Fine (after_by m l kind y o found)
      by None is e = outside_fine is kind e
      by (Some q) is e = inside_fine q is (is_open_run q) refl e

  -- the parts after the step
  abbrev stepped_part : PartState
  stepped_part = after m l r kind x.0 x.1 y found

  own_charge : charge m p stepped_part ≡ charge m p (after_by m l kind y y.run found)
  own_charge = same_charge m p (after_by m l kind y y.run found) stepped_part
      (noted_finished l r kind x.0 x.1 found (after_by m l kind y y.run found).records) refl refl

  charge_now : (i : ℕ) → charge m p (s'.part i) ≡ charge m p (parts_after kind s.part r stepped_part i)
  charge_now i = ap (λ (t : Sight). charge m p (t.part i)) st.step.next

  join : Joins l kind r
  join = joins m l rs kind r y x st.step.asked

  others : (i : ℕ) → (i ≡ r → ⊥) → charge m p (s'.part i) ≡ charge m p (s.part i)
  others i ne = charge_now i ∙ each_charge m l p s.part r stepped_part (λ i n. (i ≡ r → ⊥) → n ≡ charge m p (s.part i)) kind join
      (λ ne. absurd (ne refl)) (λ i ne ne'. refl) i ne

  mine : charge m p (s'.part r) ≡ charge m p (after_by m l kind y y.run found)
  mine = charge_now r ∙ (each_charge m l p s.part r stepped_part (λ i n. i ≡ r → n ≡ charge m p stepped_part) kind join
      (λ e. refl) (λ i ne e. absurd (ne e)) r refl ∙ own_charge)

  pub kept : CellsRise s.word s'.word → version_of word + held m p word ≤ 1 + sum_to (λ i. charge m p (s.part i)) (suc l.runners)
      → version_of (s'.word (spots.Cell p)) + held m p (s'.word (spots.Cell p)) ≤ 1 + sum_to (λ i. charge m p (s'.part i)) (suc l.runners)
  kept rise old =
      let sums = one_changed (λ i. charge m p (s.part i)) (λ i. charge m p (s'.part i)) r others (suc l.runners)
      (let low = st.step.runner in omega (arith, low)) in
      let own = mine in
      let now : s'.word (spots.Cell p) ≡ word' = ap (λ (t : Sight). t.word (spots.Cell p)) st.step.next in
      ⊎_elim
      (λ stays. let same : s'.word (spots.Cell p) ≡ word = now ∙ stays.0 in
      let v = ap version_of same in let h = ap (held m p) same in let up = stays.1 in omega (arith, sums, own, old, v, h, up))
      (λ up. let h = ap (held m p) now in
      ⊎_elim (λ same. let v = ap version_of same in omega (arith, sums, own, old, v, h, up))
      (λ more. omega (arith, sums, own, old, more, h, up)) (rise p))
      fine
