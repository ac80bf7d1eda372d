-- In every reached state the next step of a run is enabled.
use Rattle.std.specs.Prelude.{◌⊎◌, ◌==◌, ◌&&◌, ◌*◌, ◌/◌, ◌%◌, ◌-◌, cond, not, nat_lt, nat_le, is_some, slice_index, Bool, true, false, if◌then◌else◌}
use Rattle.std.proofs.Common.{◌≡◌, ◌≢◌, ℕ, zero, suc, ◌+◌, ◌<◌, ◌≤◌, List, length, inl, inr, ⊎_elim, sym, refl, ap, ◌∙◌, subst, arith, Option, Some, None}
use Rattle.std.proofs.lemmas.Bool.Decides.{nat_tests}
use Rattle.std.proofs.lemmas.Option.{none-some}
use Rattle.machine_states.specs.epoch_core.specs.small_lemmas.proofs.Numbers.{less_tested as below_test, self_tested as same_test, tested_less, tested_not_less, tested_other}
use Rattle.machine_states.specs.map_history.specs.declared.op.Request.{Request}
use Rattle.machine_states.specs.body_terms.specs.declared.micro.Micro.{Micro}
use Rattle.machine_states.specs.body_terms.specs.declared.micro.Micro.TheVariants as micros
use Rattle.machine_states.specs.body_terms.specs.declared.micro.Source.{Source}
use Rattle.machine_states.specs.body_terms.specs.declared.thunk.Thunk.{Thunk}
use Rattle.machine_states.specs.body_terms.specs.Memory.{cell_of}
use Rattle.machine_states.specs.body_terms.specs.Run.{source_value}
use Rattle.machine_states.specs.body_terms.specs.Word.{version_of, next_word, held_word}
use Rattle.machine_states.specs.body_terms.specs.Line.{is_check, is_commit, is_end, micro_at}
use Rattle.agreement_core.specs.section_lines.proofs.Counted.{is_counted}
use Rattle.agreement_core.specs.section_lines.proofs.Resolved.{is_resolved}
use Rattle.machine_states.specs.body_terms.specs.Line.{committed}
use Rattle.machine_states.specs.table_words.specs.declared.layout.Layout.{Layout}
use Rattle.machine_states.specs.table_words.specs.declared.sizes.Sizes.{Sizes}
use Rattle.machine_states.specs.table_words.specs.declared.spot.Spot.{Spot}
use Rattle.machine_states.specs.table_words.specs.declared.spot.Spot.TheVariants as spots
use Rattle.machine_states.specs.table_words.specs.declared.access.Access.{Access}
use Rattle.machine_states.specs.table_words.specs.declared.access.Access.TheVariants.{Loads, Stores, Exchanges}
use Rattle.machine_states.specs.table_words.specs.Limits.{IsWithinLimits}
use Rattle.machine_states.specs.table_words.specs.Places.{part_words, block_words, fits, slot_count, descriptor_count, block_count}
use Rattle.machine_states.specs.structure_laws.specs.Meaning.{Meaning}
use Rattle.machine_states.specs.structure_laws.specs.Laws.{Laws}
use Rattle.machine_states.specs.runner_parts.specs.declared.event.EventKind.{EventKind}
use Rattle.machine_states.specs.runner_parts.specs.declared.event.EventKind.TheVariants as kinds
use Rattle.machine_states.specs.runner_parts.specs.State.{RunState, PartState}
use Rattle.machine_states.specs.runner_parts.specs.Tests.{has}
use Rattle.machine_states.specs.runner_steps.specs.Sections.{thunk_of, is_open_run, line_of, next_of, commits_to, is_beyond, needs_link}
use Rattle.machine_states.specs.runner_steps.specs.InRun.{can_hold, make_slot, is_slot, last_clock}
use Rattle.machine_states.specs.runner_steps.specs.InRun.{commit_to, make_commit_to, block_empty_ask, fill_store_ask}
use Rattle.machine_states.specs.body_terms.specs.block_words.specs.Blocks.{part_spot, link_spot, log_spot}
use Rattle.machine_states.specs.runner_steps.specs.Asks.{line_ask, inside_ask, ask_by}
use Rattle.machine_states.specs.runner_steps.specs.AfterInRun.{place_of}
use Rattle.machine_states.specs.runner_steps.specs.Outside.{Ask, when, block_spot, blocks_from}
use Rattle.machine_states.specs.runner_steps.specs.Asks.{opening_ask, fitting, sizes_for}
use Rattle.agreement_core.specs.State.{section_of}
use Rattle.agreement_core.specs.Checks.{passes}
use Rattle.agreement_core.proofs.Words.{unspent_room, version_held}
use Rattle.machine_states.specs.World.{World}
use Rattle.machine_states.specs.Sight.{Sight, sight}
use Rattle.machine_states.specs.Reached.{Reached}
use Rattle.machine_states.proofs.Steps.{some_same}
use Rattle.machine_invariant.specs.machine_blocks.specs.machine_guards.specs.machine_agreement.specs.machine_scenes.specs.Shown.{rules_of}
use Rattle.machine_invariant.specs.machine_blocks.specs.machine_guards.specs.machine_agreement.specs.machine_epochs.proofs.RunPlaces.{is_of_end, next_in_line}
use Rattle.machine_invariant.specs.machine_blocks.specs.machine_guards.specs.machine_agreement.proofs.RunPlaces.{opened_thunk, of_thunk, before}
use Rattle.machine_invariant.specs.After.{AreAllowed}
use Rattle.machine_invariant.specs.Whole.{Beside, made_in, IsWhole}
use Rattle.machine_invariant.proofs.After.{reached_whole}
use Rattle.next_steps.specs.Steps.{slot_in, kind_at, ask_at, next_block, link_kind, link_ask, opening_kind, opened_next, has_slot}
use Rattle.next_steps.specs.Rooms.{ClockIsSmall, cell_count, ThunkFits, ThunksFit, filling, RoomsStand}
use Rattle.next_steps.specs.Enabled.{Meets, IsInTable, NextIsEnabled}
use Rattle.machine_states.specs.epoch_core.specs.Lists.{times}
use Rattle.machine_invariant.specs.machine_blocks.specs.machine_guards.specs.State.{hand_of}
use Rattle.machine_invariant.specs.machine_blocks.specs.machine_guards.specs.Stands.{times_held}
use Rattle.machine_invariant.specs.machine_blocks.specs.machine_guards.proofs.Lists.{times_has}
use Rattle.machine_invariant.specs.machine_blocks.proofs.Apart.{in_table}
use Rattle.machine_invariant.specs.machine_blocks.proofs.Finding.{known_in_table}
use Rattle.machine_invariant.specs.machine_blocks.proofs.Steps.{in_hand}
use Rattle.next_steps.proofs.Tests.{last_listed}
use Rattle.next_steps.proofs.Runs.{section, run, here, used, few_descriptors, section_sound, run_sound, code}
use Rattle.next_steps.proofs.Clock.{stamped_few, clock_word, reached_small}
use Rattle.next_steps.proofs.Ends.{RunsHaveNext, reached_next}
use Rattle.next_steps.proofs.Fits.{unfree_here}
use Rattle.next_steps.proofs.FitsKept.{reached_fits}
use Rattle.next_steps.proofs.Releases.{IsLockWith, released_lock, section_lock}
use Rattle.next_steps.proofs.Standing.{IsOwn, own_node}
use Rattle.next_steps.proofs.Filling.{low_cell, fill_log}
use Rattle.next_steps.proofs.RoomsKept.{made_hand}
use Rattle.next_steps.proofs.RoomsReached.{reached_rooms}
use Rattle.next_steps.proofs.Lines.{next_no_check, shape, brief, ordered, run_open}
use Rattle.machine_invariant.proofs.Basics.{both_hold}

-- a cell of a slot of the table is one of the table's
cell_low : (first slots t i : ℕ) → t < slots → i < 5 → first + 5 * t + i < first + 5 * slots
cell_low first slots t i low five = omega arith

asks_when : (test : Bool) (a : Spot) (access : Access) → test ≡ true → when test a access ≡ Some (a, access)
asks_when test a access e = rw e refl

-- what is known of a state in which the next steps are enabled
pub record IsKnown (m : Meaning) (l : Layout) (rs : List Request) (s : Sight) : Type 0 where
  pub beside : Beside
  pub whole : IsWhole m l beside s
  pub next : RunsHaveNext m s
  pub clock : ClockIsSmall rs s
  pub thunks : ThunksFit m l rs s
  pub rooms : RoomsStand m l s

module _ (m : Meaning) (laws : Laws m) (l : Layout) (limits : IsWithinLimits l) (rs : List Request) (few : length rs ≤ 131072) (s : Sight)
    (known : IsKnown m l rs s) (r : ℕ) (q : RunState) (is : (s.part r).run ≡ Some q) where
  abbrev g : Beside
  g = known.beside

  abbrev whole : IsWhole m l g s
  whole = known.whole

  abbrev p : PartState
  p = s.part r

  abbrev sizes : Sizes
  sizes = sizes_for m l rs

  descriptor : q.descriptor < descriptor_count l
  descriptor = few_descriptors m l g s whole r q is

  -- an event that is asked for, on a word of the table, is enabled
  enabled_by : (kind : EventKind) (x : Spot × Access) → p.gone ≡ false → inside_ask m l kind p.nodes.free p.blocks.free q ≡ Some x → fits sizes x.0 ≡ true
      → Meets m l rs r p kind x
  enabled_by kind x there asked fit = by p.gone there (ap (ask_by m l rs r kind p) is ∙ asked)
    where
      fitted : (a : Ask) → a ≡ Some x → fitting sizes a ≡ Some x
      fitted None e = absurd (none-some _ e)
      fitted (Some y) e = let one : y ≡ x = cc in ap (λ (z : Spot × Access). if fits sizes z.0 then Some z else None) one
          ∙ ap (λ b. if b then Some x else None) fit

      by : (b : Bool) → b ≡ false → ask_by m l rs r kind p p.run ≡ Some x
          → (if b then None else fitting sizes (ask_by m l rs r kind p p.run)) ≡ Some x
      by true e asked = absurd (let z = e in cc)
      by false e asked = fitted (ask_by m l rs r kind p p.run) asked

  -- the opening
  opening_enabled : p.gone ≡ false → length q.opened < 13 → Meets m l rs r p (opening_kind q) (opened_next q)
  opening_enabled there low = by (nat_lt (length q.opened) 12) refl
    where
      closed : (n : ℕ) (b : Bool) → n < 13 → (n == 13 && b) ≡ false
      closed n b low = grind (arith, nat_tests)

      opens : (kind : EventKind) (x : Spot × Access) → opening_ask kind q ≡ Some x → inside_ask m l kind p.nodes.free p.blocks.free q ≡ Some x
      opens kind x e = ap (λ b. if b then line_ask m l kind p.nodes.free p.blocks.free q (next_of m q) else opening_ask kind q) (closed (length q.opened) _ low) ∙ e

      last : (n : ℕ) → n < 13 → nat_lt n 12 ≡ false → n ≡ 12
      last n low e = grind (arith, nat_tests)

      by : (b : Bool) → nat_lt (length q.opened) 12 ≡ b → Meets m l rs r p (if b then kinds.LoadThunk None else kinds.LoadDone)
          (if b then (spots.ThunkWord q.descriptor (length q.opened), Loads) else (spots.DoneWord q.descriptor, Loads))
      by true e = enabled_by (kinds.LoadThunk None) (spots.ThunkWord q.descriptor (length q.opened), Loads) there
          (opens (kinds.LoadThunk None) _ (asks_when _ _ _ e))
          (both_hold _ _ (below_test q.descriptor (descriptor_count l) descriptor) e)
      by false e = enabled_by kinds.LoadDone (spots.DoneWord q.descriptor, Loads) there
          (opens kinds.LoadDone _ (asks_when _ _ _ (ap (λ n. n == 12) (last (length q.opened) low e))))
          (below_test q.descriptor (descriptor_count l) descriptor)

  module _ (all : length q.opened ≡ 13) where
    opened : is_open_run q ≡ true
    opened = run_open m l g s whole r q is all (known.next r q is)

    abbrev t : Thunk
    t = thunk_of q.opened

    pub fits_here : ThunkFits m l rs t
    fits_here = subst (ThunkFits m l rs) (opened_thunk m l g.agreement s whole.sections r q is all)
        (known.thunks q.descriptor descriptor (unfree_here m laws l limits g s whole q.descriptor (used m l g s whole r q is)))

    -- the blocks that the run knows are the table's
    known_block : (i : ℕ) → i < length q.links → slice_index q.links i < block_count l
    known_block i low = known_in_table m l whole.logs.chain g.agreement g.epochs s whole.slots whole.logs.stands r q is whole.logs.guards i low

    -- a step that is asked for, on a word of the table
    record Goes (kind : EventKind) (micro : Micro) : Type 0 where
      asked : line_ask m l kind p.nodes.free p.blocks.free q micro ≡ Some (ask_at m p q micro)
      fit : fits sizes ((ask_at m p q micro).0) ≡ true

    module _ (micro : Micro) (ahead : next_of m q ≡ micro) where
      line_at : is_of_end micro ≡ false → micro_at (line_of m q) q.at ≡ micro
      line_at inner = next_in_line m q micro inner ahead

      -- a step on a cell
      cell_fit : is_of_end micro ≡ false → fits sizes (spots.Cell (place_of micro)) ≡ true
      cell_fit inner = below_test (place_of micro) (cell_count m l)
          (subst (λ (x : Micro). place_of x < cell_count m l) (line_at inner) (fits_here.places q.at))

      -- a commit, whose part of the log is linked
      module _ (near : needs_link q micro ≡ false) (k : ℕ) (commits : commits_to micro ≡ Some k) where
        not_beyond : is_beyond q (Some k) ≡ false
        not_beyond = ap (is_beyond q) (sym commits) ∙ near

        log_fit : fits sizes (log_spot q.descriptor q.links k) ≡ true
        log_fit = by (k / part_words) (k % part_words) (tested_not_less (length q.links) (k / part_words) not_beyond) (omega arith)
          where
            by : (i j : ℕ) → i ≤ length q.links → j < part_words → fits sizes (part_spot q.descriptor q.links i j) ≡ true
            by zero j few low = both_hold _ _ (below_test q.descriptor (descriptor_count l) descriptor) (below_test j part_words low)
            by (suc i) j few low = both_hold _ _ (below_test (slice_index q.links i) (block_count l) (known_block i (omega (arith, few)))) (below_test j part_words low)

        log_asks : (v : ℕ) → commit_to q k v ≡ Some (log_spot q.descriptor q.links k, Exchanges 0 v)
        log_asks v = asks_when _ (log_spot q.descriptor q.links k) (Exchanges 0 v) (ap not not_beyond)

      -- a lock of the section: a word in the table, and room for two versions
      lock_fit : (place word : ℕ) → IsLockWith m t place word → place < cell_count m l
      lock_fit place word lock = ⊎_elim (λ outer. subst (λ n. n < cell_count m l) (sym outer.0) fits_here.lock)
          (λ nested. subst (λ (x : Micro). place_of x < cell_count m l) nested.1 (fits_here.places nested.0)) lock

      lock_room : (place word : ℕ) → IsLockWith m t place word → suc (suc (version_of word)) ≤ l.version_max
      lock_room place word lock = let h = section_lock m l g s whole r q is all place word lock in unspent_room l.version_max word h.1 h.2

    done_fit : fits sizes (spots.DoneWord q.descriptor) ≡ true
    done_fit = below_test q.descriptor (descriptor_count l) descriptor

    hold_test : (word : ℕ) → suc (suc (version_of word)) ≤ l.version_max → can_hold l q.descriptor word ≡ true
    hold_test word room = both_hold _ _ (below_test q.descriptor (descriptor_count l) descriptor) (below_test (version_of word) l.version_max (omega arith))

    -- the agreed word of a Store's register passed its check
    module _ (place k : ℕ) (v : Source) (at : micro_at (line_of m q) q.at ≡ micros.ExchangeCell place k v) where
      stored_room : version_of (slice_index q.trail k) < l.version_max
      stored_room =
          let x = section m l g s whole r q is in
          let own = section_sound m l g s whole r q is in
          let mine = run_sound m l g s whole r q is in
          let res = is_resolved (m.body t) (shape m l g s whole r q is all) in
          let fresh = res.store_fresh q.at place k v at in
          let loaded = res.store_loaded q.at place k v at in
          let edge : q.at ≤ x.edge = subst (λ n. n ≤ x.edge) (here m l g s whole r q is).at mine.in_trail.behind in
          let pass = own.section.in_log.passed fresh.0 (omega arith) (ap is_check (code m l g s whole r q is all fresh.0 ∙ fresh.2)) in
          let ne = not_max (version_of (x.log k)) l.version_max
          (sym (ap (passes (rules_of m l) q.descriptor x.log) (code m l g s whole r q is all fresh.0 ∙ fresh.2)) ∙ pass) in
          let seen = own.section.in_cells.read loaded.0 place k (omega arith) (code m l g s whole r q is all loaded.0 ∙ loaded.2) in
          let most = within (version_of (x.log k)) (version_of (g.agreement.shared.cells place)) l.version_max
          (whole.sections.sound.versions.bounded place) (⊎_elim (λ e. inl (ap version_of e)) (λ lt. inr lt) (whole.sections.sound.versions.past place (x.log k) seen)) in
          let counts = own.published.line.counted in
          let commit = counts.commit_log loaded.0 place k (code m l g s whole r q is all loaded.0 ∙ loaded.2) in
          let more = counts.slot_commit loaded.0 (ap is_commit (code m l g s whole r q is all loaded.0 ∙ loaded.2)) in
          let rise = counts.slot_rises (suc loaded.0) q.at (omega arith) in
          let count : (run m l g s whole r q is).count ≡ x.slot q.at = mine.in_trail.counted ∙ ap x.slot (here m l g s whole r q is).at in
          let agreed = mine.in_trail.agreed k (omega arith) in
          let word : slice_index q.trail k ≡ x.log k = sym ((here m l g s whole r q is).trail k) ∙ agreed in
          subst (λ n. version_of n < l.version_max) (sym word) (strict (version_of (x.log k)) l.version_max most ne)
        where
          not_max : (a b : ℕ) → not (a == b) ≡ true → a ≢ b
          not_max a b e = grind (arith, nat_tests)

          within : (a b n : ℕ) → b ≤ n → (b ≡ a) ⊎ (a < b) → a ≤ n
          within a b n le h = ⊎_elim (λ e. omega arith) (λ lt. omega arith) h

          strict : (a b : ℕ) → a ≤ b → a ≢ b → a < b
          strict a b le ne = search arith

    -- a Make has committed nothing since it began
    count_now : (run m l g s whole r q is).count ≡ committed (line_of m q) q.at
    count_now = (run_sound m l g s whole r q is).in_trail.counted
        ∙ (ap ((section m l g s whole r q is).slot) (here m l g s whole r q is).at ∙ (of_thunk m l g.agreement s whole.sections r q is all).slot q.at)

    -- so the slot that it fills is known where it has stored to a cell
    stored_made : (i cell k : ℕ) (v : Source) → i < q.at → micro_at (line_of m q) i ≡ micros.PrivateStore cell k v
        → k ≡ committed (line_of m q) q.at → (slot : ℕ) × (q.made ≡ Some slot)
    stored_made i cell k v before at count =
        let fills = whole.filled.filled r i cell k v (here m l g s whole r q is).running
        (subst (λ n. i < n) (sym (here m l g s whole r q is).at) before) (code_now i ∙ at) (count ∙ sym count_now) in
        (fills.0, sym (ap made_in is) ∙ fills.1)
      where
        code_now : (i : ℕ) → (section_of g.agreement r).code i ≡ micro_at (line_of m q) i
        code_now i = ap (λ d. (g.agreement.section d).code i) (here m l g s whole r q is).descriptor ∙ code m l g s whole r q is all i

    -- a Make's private load
    module _ (cell k : ℕ) (ahead : next_of m q ≡ micros.PrivateLoad cell k) (has_it : has_slot p q (micros.PrivateLoad cell k) ≡ true) where
      at_load : micro_at (line_of m q) q.at ≡ micros.PrivateLoad cell k
      at_load = next_in_line m q (micros.PrivateLoad cell k) refl ahead

      -- it has a slot, or takes the last free one
      the_slot : is_some (make_slot q.made p.nodes.free) ≡ true
      the_slot = by cell at_load has_it
        where
          by : (c : ℕ) → micro_at (line_of m q) q.at ≡ micros.PrivateLoad c k → has_slot p q (micros.PrivateLoad c k) ≡ true
              → is_some (make_slot q.made p.nodes.free) ≡ true
          by zero at has = has
          by (suc c) at has =
              let before = (ordered m l g s whole r q is all).refill_before q.at c k at in
              let made = stored_made before.0 c k before.1 (let e = before.2 in omega arith) before.3
              (fill_log (m.body t) (shape m l g s whole r q is all) 5 q.at (suc c) k (omega arith) at) in
              ap (λ (o : Option ℕ). is_some (make_slot o p.nodes.free)) made.1

      own : (o : Option ℕ) → make_slot q.made p.nodes.free ≡ o → is_some o ≡ true
          → (is_slot o (slot_in o) ≡ true) × (slot_in o < slot_count l m.fixed_slots)
      own None e some = absurd (let z = some in cc)
      own (Some slot) e some = (same_test slot, own_node m laws l limits g s whole r slot (by q.made refl e))
        where
          by : (o : Option ℕ) → q.made ≡ o → make_slot o p.nodes.free ≡ Some slot → IsOwn p slot
          by None made e = inl (last_listed p.nodes.free slot (ap (λ (o : Option ℕ). is_slot o slot) e ∙ same_test slot))
          by (Some n) made e = inr (made_hand m l g s whole r slot q is (made ∙ e))

      load_goes : Goes (kinds.PrivateLoad (slot_in (make_slot q.made p.nodes.free)) cell) (micros.PrivateLoad cell k)
      load_goes =
          let slot = slot_in (make_slot q.made p.nodes.free) in
          let mine = own (make_slot q.made p.nodes.free) refl the_slot in
          let five = low_cell (m.body t) (shape m l g s whole r q is all) q.at cell k at_load in record {
            asked = asks_when _ _ _ (both_hold _ _
                (both_hold _ _ (below_test slot (slot_count l m.fixed_slots) mine.1) (below_test cell 5 five))
                (both_hold _ _ mine.0 (same_test cell)));
            fit = below_test (cell_of m.fixed_cells slot cell) (cell_count m l) (cell_low m.fixed_cells (slot_count l m.fixed_slots) slot cell mine.1 five);
          }

    -- a Make's private store
    module _ (cell k : ℕ) (v : Source) (ahead : next_of m q ≡ micros.PrivateStore cell k v) where
      at_store : micro_at (line_of m q) q.at ≡ micros.PrivateStore cell k v
      at_store = next_in_line m q (micros.PrivateStore cell k v) refl ahead

      store_goes : Goes (kinds.PrivateStore (slot_in q.made) cell (next_word q.word (source_value q.trail v))) (micros.PrivateStore cell k v)
      store_goes =
          let load = (ordered m l g s whole r q is all).fill_before q.at cell k v at_store in
          let five = low_cell (m.body t) (shape m l g s whole r q is all) load.0 cell k load.2 in
          let looked = whole.filled.looked r cell k v (before m l g.agreement s whole.sections r q is all (micros.PrivateStore cell k v) refl refl ahead) in
          let made : q.made ≡ Some looked.0 = sym (ap made_in is) ∙ looked.1 in
          let slot = looked.0 in
          let hand = made_hand m l g s whole r slot q is made in
          let low = own_node m laws l limits g s whole r slot (inr hand) in
          let word : q.word ≡ s.word (spots.Cell (cell_of m.fixed_cells slot cell)) = sym (here m l g s whole r q is).word
          ∙ (looked.2 ∙ whole.sections.words.cells (cell_of m.fixed_cells slot cell)) in
          let make = (known.rooms.own r).made q slot is made in
          let next : make.next ≡ cell = some_same make.next cell (sym make.at ∙ ap filling at_store) in
          let room : version_of q.word < l.version_max = subst (λ n. version_of n < l.version_max) (sym word) (make.room cell (omega arith) five) in
          let same : slot_in q.made ≡ slot = ap slot_in made in record {
            asked = asks_when _ _ _ (both_hold _ _
                (both_hold _ _ (below_test (slot_in q.made) (slot_count l m.fixed_slots) (subst (λ n. n < slot_count l m.fixed_slots) (sym same) low))
                (below_test cell 5 five))
                (both_hold _ _ (ap (λ (o : Option ℕ). is_slot o (slot_in o)) made ∙ same_test slot)
                (both_hold _ _ (same_test cell) (both_hold _ _ (below_test (version_of q.word) l.version_max room)
                (same_test (next_word q.word (source_value q.trail v)))))));
            fit = below_test (cell_of m.fixed_cells (slot_in q.made) cell) (cell_count m l)
                (cell_low m.fixed_cells (slot_count l m.fixed_slots) (slot_in q.made) cell (subst (λ n. n < slot_count l m.fixed_slots) (sym same) low) five);
          }

    -- a Make's commit
    commit_goes : (k : ℕ) → next_of m q ≡ micros.MakeCommit k → needs_link q (micros.MakeCommit k) ≡ false → Goes kinds.MakeCommit (micros.MakeCommit k)
    commit_goes k ahead near =
        let at = next_in_line m q (micros.MakeCommit k) refl ahead in
        let before = (ordered m l g s whole r q is all).make_before q.at k at in
        let made = stored_made before.0 4 k before.1 (let e = before.2 in omega arith) before.3
        ((is_counted (m.body t) (shape m l g s whole r q is all).short).make_log q.at k at) in record {
          asked = ap (make_commit_to q k) made.1 ∙ (log_asks (micros.MakeCommit k) ahead near k refl (made.0 + 1)
              ∙ ap (λ (o : Option ℕ). Some (log_spot q.descriptor q.links k, Exchanges 0 (slot_in o + 1))) (sym made.1));
          fit = log_fit (micros.MakeCommit k) ahead near k refl;
        }

    -- the exchange of a stamp, from a clock number that the number of requests bounds
    stamp_goes : next_of m q ≡ micros.StampExchange → Goes kinds.StampExchange micros.StampExchange
    stamp_goes ahead =
        let read = clock_word m l g s whole r q is opened ahead in
        let clock = known.clock.clock in
        let most = stamped_few s.word (length rs) in record {
          asked = asks_when _ _ _ (below_test q.word last_clock (omega arith));
          fit = below_test t.request (length rs) fits_here.request;
        }

    -- the step that comes next
    next_goes : (micro : Micro) → next_of m q ≡ micro → needs_link q micro ≡ false → has_slot p q micro ≡ true → Goes (kind_at p q micro) micro
    next_goes (micros.LoadCell place log) ahead near has = record {
      asked = refl;
      fit = cell_fit (micros.LoadCell place log) ahead refl;
    }
    next_goes (micros.Commit place log) ahead near has = record {
      asked = log_asks (micros.Commit place log) ahead near log refl q.word;
      fit = log_fit (micros.Commit place log) ahead near log refl;
    }
    next_goes (micros.NestedLoad place log) ahead near has = record {
      asked = refl;
      fit = cell_fit (micros.NestedLoad place log) ahead refl;
    }
    next_goes (micros.NestedCommit place log) ahead near has = record {
      asked = log_asks (micros.NestedCommit place log) ahead near log refl q.word;
      fit = log_fit (micros.NestedCommit place log) ahead near log refl;
    }
    next_goes (micros.NestedHold place word) ahead near has =
        let lock : IsLockWith m t place word = inr (q.at, line_at (micros.NestedHold place word) ahead refl) in record {
          asked = asks_when _ _ _ (hold_test word (lock_room (micros.NestedHold place word) ahead place word lock));
          fit = cell_fit (micros.NestedHold place word) ahead refl;
        }
    next_goes (micros.OutcomeLoad place log) ahead near has = record {
      asked = refl;
      fit = cell_fit (micros.OutcomeLoad place log) ahead refl;
    }
    next_goes (micros.OutcomeCommit place log) ahead near has = record {
      asked = log_asks (micros.OutcomeCommit place log) ahead near log refl q.word;
      fit = log_fit (micros.OutcomeCommit place log) ahead near log refl;
    }
    next_goes (micros.PrivateLoad cell log) ahead near has = load_goes cell log ahead has
    next_goes (micros.PrivateStore cell log value) ahead near has = store_goes cell log value ahead
    next_goes (micros.MakeCommit log) ahead near has = commit_goes log ahead near
    next_goes micros.ClockLoad ahead near has = record { asked = refl; fit = refl }
    next_goes micros.StampExchange ahead near has = stamp_goes ahead
    next_goes micros.ClockRaise ahead near has = record { asked = refl; fit = refl }
    next_goes (micros.ExchangeCell place log value) ahead near has =
        let old = slice_index q.trail log in record {
          asked = asks_when _ _ _ (below_test (version_of old) l.version_max
              (stored_room place log value (line_at (micros.ExchangeCell place log value) ahead refl)));
          fit = cell_fit (micros.ExchangeCell place log value) ahead refl;
        }
    next_goes (micros.EpochForRetire slot log) ahead near has = record { asked = refl; fit = refl }
    next_goes (micros.RetireCommit slot log) ahead near has = record {
      asked = log_asks (micros.RetireCommit slot log) ahead near log refl (slot + 1);
      fit = log_fit (micros.RetireCommit slot log) ahead near log refl;
    }
    next_goes (micros.ReplyExchange reply) ahead near has = record {
      asked = refl;
      fit = below_test t.request (length rs) fits_here.request;
    }
    next_goes micros.SetDone ahead near has = record { asked = refl; fit = done_fit }
    next_goes (micros.Release place word) ahead near has =
        let lock = released_lock m l rs g s whole r q is opened place word ahead in
        let room = lock_room (micros.Release place word) ahead place word lock in
        let held = held_word q.descriptor word in
        let risen = version_held q.descriptor word (section_sound m l g s whole r q is).published.link in record {
          asked = asks_when _ _ _ (both_hold _ _ (hold_test word room) (below_test (version_of held) l.version_max (omega arith)));
          fit = below_test place (cell_count m l) (lock_fit (micros.Release place word) ahead place word lock);
        }
    next_goes micros.End ahead near has = absurd (let z = sym ((known.next r q is).next all) ∙ ap is_end ahead in cc)
    next_goes (micros.CheckWord place log word) ahead near has = absurd (let z = sym (next_no_check m q) ∙ ap is_check ahead in cc)
    next_goes (micros.CheckFresh place log) ahead near has = absurd (let z = sym (next_no_check m q) ∙ ap is_check ahead in cc)
    next_goes (micros.CheckFree place log word) ahead near has = absurd (let z = sym (next_no_check m q) ∙ ap is_check ahead in cc)
    next_goes (micros.CheckHeld place log word) ahead near has = absurd (let z = sym (next_no_check m q) ∙ ap is_check ahead in cc)

    inside_enabled : p.gone ≡ false → needs_link q (next_of m q) ≡ false → has_slot p q (next_of m q) ≡ true
        → Meets m l rs r p (kind_at p q (next_of m q)) (ask_at m p q (next_of m q))
    inside_enabled there near has =
        let goes = next_goes (next_of m q) refl near has in
        enabled_by (kind_at p q (next_of m q)) (ask_at m p q (next_of m q)) there
        (ap (λ b. if b then line_ask m l (kind_at p q (next_of m q)) p.nodes.free p.blocks.free q (next_of m q) else opening_ask (kind_at p q (next_of m q)) q) opened
        ∙ goes.asked) goes.fit

    -- before a commit into a part that isn't linked a block is
    module _ (needs : needs_link q (next_of m q) ≡ true) (some : is_some (next_block p q) ≡ true) where
      -- a step of that, on a word of the table
      record Links (kind : EventKind) (x : Spot × Access) : Type 0 where
        asked : line_ask m l kind p.nodes.free p.blocks.free q (next_of m q) ≡ Some x
        fit : fits sizes x.0 ≡ true

      -- the block is one that the table has
      in_table_by : (o : Option ℕ) → next_block p q ≡ o → is_some o ≡ true → (is_slot o (slot_in o) ≡ true) × (slot_in o < block_count l)
      in_table_by None e has = absurd (let z = has in cc)
      in_table_by (Some b) e has = (same_test b, in_table m l whole.logs.chain g.agreement g.epochs s whole.logs.guards r b (own q.block refl e))
        where
          own : (o : Option ℕ) → q.block ≡ o → make_slot o p.blocks.free ≡ Some b → 1 ≤ times b p.blocks.free + times_held (hand_of p.run) b
          own None held last =
              let free = times_has p.blocks.free b (last_listed p.blocks.free b (ap (λ (o : Option ℕ). is_slot o b) last ∙ same_test b)) in
              omega (arith, free)
          own (Some c) held last = in_hand (times b p.blocks.free) b (hand_of p.run) (ap hand_of is ∙ (held ∙ last))

      abbrev block : ℕ
      block = slot_in (next_block p q)

      mine : (is_slot (next_block p q) block ≡ true) × (block < block_count l)
      mine = in_table_by (next_block p q) refl some

      -- one more word of it becomes 0
      empties : nat_lt q.emptied block_words ≡ true → Links (kinds.PrivateStore (blocks_from m l + block) q.emptied 0) (block_spot block q.emptied, Stores 0)
      empties less = record {
        asked = ap (λ b. if b then block_empty_ask m l (blocks_from m l + block) q.emptied 0 p.blocks.free q else fill_store_ask m l (blocks_from m l + block) q.emptied 0 q (next_of m q)) needs
            ∙ (asks_when _ (block_spot (blocks_from m l + block - blocks_from m l) q.emptied) (Stores 0)
            (both_hold _ _ (le_test (blocks_from m l) block)
            (both_hold _ _ (ap (is_slot (next_block p q)) back ∙ mine.0) (both_hold _ _ (same_test q.emptied) (both_hold _ _ less refl))))
            ∙ ap (λ (c : ℕ). Some (block_spot c q.emptied, Stores 0)) back);
        fit = by (q.emptied == part_words) refl;
      }
        where
          back : blocks_from m l + block - blocks_from m l ≡ block
          back = behind (blocks_from m l) block
            where
              behind : (n b : ℕ) → n + b - n ≡ b
              behind n b = omega arith

          le_test : (n b : ℕ) → nat_le n (n + b) ≡ true
          le_test n b = grind (arith, nat_tests)

          by : (c : Bool) → (q.emptied == part_words) ≡ c → fits sizes (cond c (spots.BlockLink block) (spots.BlockWord block q.emptied)) ≡ true
          by true e = below_test block (block_count l) mine.1
          by false e = both_hold _ _ (below_test block (block_count l) mine.1)
              (below_test q.emptied part_words (let low = tested_less q.emptied block_words less in let ne = tested_other q.emptied part_words e in omega (arith, low, ne)))

      -- or it goes into the link behind the last part
      links : nat_lt q.emptied block_words ≡ false
          → Links (kinds.LinkCommit (slot_in q.block)) (link_spot q.descriptor q.links (length q.links), Exchanges 0 (slot_in q.block + 1))
      links full = by q.block refl
        where
          whole_block : q.emptied ≡ block_words
          whole_block = let most = whole.logs.stands.most r q is in let high = tested_not_less q.emptied block_words full in omega (arith, most, high)

          link_fit : (i : ℕ) → i ≤ length q.links → fits sizes (link_spot q.descriptor q.links i) ≡ true
          link_fit zero few = below_test q.descriptor (descriptor_count l) descriptor
          link_fit (suc i) few = below_test (slice_index q.links i) (block_count l) (known_block i (omega (arith, few)))

          by : (o : Option ℕ) → q.block ≡ o → Links (kinds.LinkCommit (slot_in q.block)) (link_spot q.descriptor q.links (length q.links), Exchanges 0 (slot_in q.block + 1))
          by None none = absurd (let zero_yet = whole.logs.stands.begun r q is none in let all = whole_block in omega (arith, zero_yet, all))
          by (Some b) held =
              let here : next_block p q ≡ q.block = ap (λ (o : Option ℕ). make_slot o p.blocks.free) held ∙ sym held in record {
                asked = asks_when _ (link_spot q.descriptor q.links (length q.links)) (Exchanges 0 (slot_in q.block + 1))
                    (both_hold _ _ needs (both_hold _ _ (ap (λ n. n == block_words) whole_block ∙ same_test block_words)
                    (both_hold _ _ (ap (λ (o : Option ℕ). is_slot o (slot_in o)) (sym here) ∙ mine.0)
                    (below_test (slot_in q.block) (block_count l) (subst (λ (o : Option ℕ). slot_in o < block_count l) here mine.1)))));
                fit = link_fit (length q.links) (omega arith);
              }

      linking_enabled : p.gone ≡ false → Meets m l rs r p (link_kind m l p q) (link_ask p q)
      linking_enabled there = by (nat_lt q.emptied block_words) refl
        where
          meets : (kind : EventKind) (x : Spot × Access) → Links kind x → Meets m l rs r p kind x
          meets kind x goes = enabled_by kind x there
              (ap (λ b. if b then line_ask m l kind p.nodes.free p.blocks.free q (next_of m q) else opening_ask kind q) opened ∙ goes.asked) goes.fit

          by : (b : Bool) → nat_lt q.emptied block_words ≡ b → Meets m l rs r p
              (if b then kinds.PrivateStore (blocks_from m l + block) q.emptied 0 else kinds.LinkCommit (slot_in q.block))
              (if b then (block_spot block q.emptied, Stores 0) else (link_spot q.descriptor q.links (length q.links), Exchanges 0 (slot_in q.block + 1)))
          by true less = meets _ _ (empties less)
          by false full = meets _ _ (links full)

  run_in_table : IsInTable m l rs q
  run_in_table = record {
    descriptor = descriptor;
    most = (known.next r q is).most;
    thunk = λ all. fits_here all;
    body = λ all. shape m l g s whole r q is all;
    brief = λ all. brief m l g s whole r q is all;
    goes = λ all. opened all;
  }

-- so it is in such a state
pub next_enabled : (m : Meaning) → Laws m → (l : Layout) → IsWithinLimits l → (rs : List Request) → length rs ≤ 131072 → (s : Sight)
    → IsKnown m l rs s → NextIsEnabled m l rs s
next_enabled m laws l limits rs few s known = record {
  runs = λ r q is. run_in_table m laws l limits rs few s known r q is;
  opening = λ r q there is low. opening_enabled m laws l limits rs few s known r q is there low;
  linking = λ r q there is all needs some. linking_enabled m laws l limits rs few s known r q is all needs some there;
  inside = λ r q there is all near has. inside_enabled m laws l limits rs few s known r q is all there near has;
}

-- and in every reached one
pub reached_known : (m : Meaning) → Laws m → (l : Layout) → IsWithinLimits l → (rs : List Request) → AreAllowed rs → (w : World)
    → Reached m l rs w → IsKnown m l rs (sight m l rs w)
reached_known m laws l limits rs allowed w reached =
    let whole = reached_whole m laws l rs reached.events w limits allowed reached.after in record {
      beside = whole.0;
      whole = whole.1;
      next = reached_next m laws l limits rs allowed w reached;
      clock = reached_small m laws l limits rs allowed w reached;
      thunks = reached_fits m laws l limits rs allowed w reached;
      rooms = reached_rooms m laws l limits rs allowed w reached;
    }

pub reached_enabled : (m : Meaning) → Laws m → (l : Layout) → IsWithinLimits l → (rs : List Request) → AreAllowed rs → (w : World)
    → Reached m l rs w → NextIsEnabled m l rs (sight m l rs w)
reached_enabled m laws l limits rs allowed w reached =
    next_enabled m laws l limits rs allowed.in_order.few (sight m l rs w) (reached_known m laws l limits rs allowed w reached)
