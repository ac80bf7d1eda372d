-- Each step leaves room in the cells of the runners' slots, and of those on the board.
use Rattle.std.specs.Prelude.{◌==◌, ◌||◌, ◌&&◌, ◌*◌, ◌-◌, ◌^◌, ◌⊎◌, not, nat_lt, nat_le, cond, Bool, true, false, if◌then◌else◌}
use Rattle.std.proofs.Common.{◌≡◌, ◌≢◌, ℕ, suc, ◌+◌, ◌<◌, ◌≤◌, List, [], ◌∷◌, ◌++◌, length, inl, inr, ⊎_elim, sym, refl, ap, ◌∙◌, subst, arith, Option, Some, None}
use Rattle.std.proofs.lemmas.Bool.Decides.{nat_tests}
use Rattle.std.proofs.lemmas.Bool.{cases_eq}
use Rattle.machine_states.specs.epoch_core.specs.small_lemmas.proofs.Numbers.{tested_equal as same_number}
use Rattle.machine_states.specs.map_history.specs.declared.op.Request.{Request}
use Rattle.machine_states.specs.body_terms.specs.Memory.{cell_of}
use Rattle.machine_states.specs.body_terms.specs.Word.{value_of, version_of}
use Rattle.machine_states.specs.body_terms.specs.Line.{is_check, line, micro_at}
use Rattle.machine_states.specs.body_terms.specs.Run.{settled, written_once}
use Rattle.machine_states.specs.body_terms.specs.declared.micro.Micro.{Micro}
use Rattle.machine_states.specs.body_terms.specs.declared.micro.Micro.TheVariants as micros
use Rattle.machine_states.specs.body_terms.specs.declared.micro.Source.{Source}
use Rattle.agreement_core.specs.section_lines.proofs.Ordered.{is_ordered}
use Rattle.machine_states.specs.table_words.specs.declared.layout.Layout.{Layout}
use Rattle.machine_states.specs.table_words.specs.declared.spot.Spot.{Spot}
use Rattle.machine_states.specs.table_words.specs.declared.spot.Spot.TheVariants as spots
use Rattle.machine_states.specs.table_words.specs.declared.access.Access.{Access}
use Rattle.machine_states.specs.table_words.specs.declared.access.Access.TheVariants.{Loads, Stores}
use Rattle.machine_states.specs.table_words.specs.Access.{written}
use Rattle.machine_states.specs.table_words.specs.Places.{slot_count, part_words}
use Rattle.machine_states.specs.table_words.specs.Seen.{put}
use Rattle.machine_states.specs.table_words.specs.Limits.{IsWithinLimits}
use Rattle.machine_states.specs.structure_laws.specs.Meaning.{Meaning}
use Rattle.machine_states.specs.structure_laws.specs.Laws.{Laws}
use Rattle.machine_states.specs.epoch_core.specs.Moves.{is_clear}
use Rattle.machine_states.specs.epoch_core.specs.declared.stage.Stage.{Stage}
use Rattle.machine_states.specs.epoch_core.specs.declared.stage.Stage.TheVariants as stages
use Rattle.machine_states.specs.runner_parts.specs.declared.event.EventKind.{EventKind}
use Rattle.machine_states.specs.runner_parts.specs.declared.event.EventKind.TheVariants as kinds
use Rattle.machine_states.specs.runner_parts.specs.State.{RunState, PartState}
use Rattle.machine_states.specs.runner_parts.specs.Tests.{has, is_resting}
use Rattle.machine_states.specs.runner_parts.specs.Lists.{test_of, slot_made, slot_back, slot_given, slot_drawn, nodes_looked}
use Rattle.machine_states.specs.runner_steps.specs.Sections.{thunk_of, is_open_run, line_of, next_of, setting_of}
use Rattle.machine_states.specs.runner_steps.specs.InRun.{is_slot, make_slot, fill_store_ask}
use Rattle.machine_states.specs.runner_steps.specs.Outside.{when, descriptor_spot, block_spot, blocks_from, private_load_ask, private_store_ask}
use Rattle.machine_states.specs.runner_steps.specs.Board.{free_if, board_take_ask, board_give_ask, board_take_after, board_give_after}
use Rattle.machine_states.specs.runner_steps.specs.Asks.{ask_by, line_ask, outside_ask}
use Rattle.machine_states.specs.runner_steps.specs.After.{outside_after, after_by}
use Rattle.machine_states.specs.epoch_core.specs.State.{last_epoch}
use Rattle.machine_states.specs.runner_steps.specs.Asks.{opening_ask}
use Rattle.machine_states.specs.runner_steps.specs.AfterInRun as inside
use Rattle.machine_states.specs.runner_steps.specs.AfterOutside as outside
use Rattle.machine_states.specs.epoch_core.specs.declared.location.Location.TheVariants as locations
use Rattle.machine_states.specs.epoch_core.specs.Lists.{in_hand}
use Rattle.machine_states.specs.epoch_core.specs.Sound.{is_for_nodes}
use Rattle.machine_states.specs.Sight.{Sight}
use Rattle.machine_states.proofs.Sights.{if_some, some_none, unless_gone, joins}
use Rattle.machine_states.proofs.Steps.{some_same}
use Rattle.machine_invariant.specs.machine_blocks.specs.machine_guards.specs.machine_agreement.specs.machine_epochs.specs.Entries.{counts_of}
use Rattle.machine_invariant.specs.machine_blocks.specs.machine_guards.specs.machine_agreement.specs.machine_epochs.proofs.InsideAsked as asked
use Rattle.machine_invariant.specs.machine_blocks.specs.machine_guards.specs.machine_agreement.specs.machine_epochs.proofs.OutsideAsked.{private_store_cases}
use Rattle.machine_invariant.specs.machine_blocks.specs.machine_guards.specs.machine_agreement.specs.machine_epochs.proofs.BoardAsked.{board_take_asked, board_give_asked}
use Rattle.machine_invariant.specs.machine_blocks.specs.machine_guards.specs.machine_agreement.specs.machine_epochs.proofs.Places.{free_node, hand_node}
use Rattle.machine_invariant.specs.machine_blocks.specs.machine_guards.specs.machine_agreement.specs.machine_epochs.proofs.RunPlaces.{next_in_line, open_run}
use Rattle.machine_invariant.specs.machine_blocks.specs.machine_guards.specs.machine_agreement.proofs.LineAsked.{fill_load_asked, fill_store_asked, make_commit_asked, run_store_asked}
use Rattle.machine_invariant.specs.After.{AreAllowed}
use Rattle.machine_invariant.specs.Whole.{Beside, IsWhole}
use Rattle.machine_invariant.proofs.Parts.{is_making, inside_made, outside_made}
use Rattle.machine_invariant.proofs.Thunks.{is_private_store}
use Rattle.next_steps.specs.Rooms.{filling, CellHasRoom, MakeHasRoom, SlotsHaveRoom, BoardHasRoom, RoomsStand}
use Rattle.machine_invariant.proofs.Keeping.{IsStep}
use Rattle.next_steps.proofs.Parts.{each_part}
use Rattle.next_steps.proofs.Tests.{last_listed, either_has, without_has}
use Rattle.next_steps.proofs.Fits.{unlisted}
use Rattle.next_steps.proofs.Runs.{out_of_run}
use Rattle.next_steps.proofs.Touched.{asked_may, board_same}
use Rattle.next_steps.proofs.Standing.{IsOwn, own_node, board_node, cell_stands}
use Rattle.next_steps.proofs.Filling.{store_next, rests_behind, fills_slot, in_no_make}
use Rattle.next_steps.proofs.RoomParts.{SameNodes, same_nodes, MakesNone, kept_room, collected_room, back_room, looked_room, taken_room, going_room, made_room, one_has}
use Rattle.next_steps.proofs.SlotFrames.{inside_slots, outside_slots}
use Rattle.machine_invariant.proofs.Basics.{not_both}

module _ (m : Meaning) (l : Layout) (g : Beside) (s : Sight) (whole : IsWhole m l g s) where
  -- the slot that a Make fills is in the hand, and not free
  pub made_hand : (i t : ℕ) (q : RunState) → (s.part i).run ≡ Some q → q.made ≡ Some t → has (s.part i).nodes.hand t ≡ true
  made_hand i t q is made = by (has (s.part i).nodes.hand t) refl
    where
      self : (r : ℕ) → in_hand r (locations.Hand r) ≡ 1
      self r = grind (arith, nat_tests)

      at : g.epochs.location t ≡ locations.Hand i
      at = (whole.slots.tied i).run_made q t is made

      by : (b : Bool) → has (s.part i).nodes.hand t ≡ b → b ≡ true
      by true e = refl
      by false e = absurd (
          let low = whole.slots.sound.for_nodes t (ap is_for_nodes at) in
          let none = unlisted (s.part i).nodes.hand t e in
          let listed = whole.slots.listed.hand i t low ∙ ap (in_hand i) at in
          let one = self i in omega arith)

  pub hand_unfree : (i j t : ℕ) → t < (counts_of m l).nodes → has (s.part i).nodes.hand t ≡ true → has (s.part j).nodes.free t ≡ true → ⊥
  hand_unfree i j t low hand free =
      let a = hand_node m l g.epochs s whole.slots i t low hand in
      let b = free_node m l g.epochs s whole.slots j t low free in
      let z = sym a ∙ b in cc

  -- versions are within the greatest
  pub version_most : (p : ℕ) → version_of (s.word (spots.Cell p)) ≤ l.version_max
  version_most p = subst (λ n. version_of n ≤ l.version_max) (whole.sections.words.cells p) (whole.sections.sound.versions.bounded p)

-- a private store outside a Make meets no cell
descriptor_no_cell : (d word place : ℕ) → descriptor_spot d word ≡ spots.Cell place → ⊥
descriptor_no_cell d word place = by (nat_lt word 12) (word == 12) (word == 13 + part_words)
  where
    by : (b b' c : Bool) → (if b then spots.ThunkWord d word else (if b' then spots.DoneWord d else (if c then spots.LinkWord d else spots.LogWord d (word - 13)))) ≡ spots.Cell place → ⊥
    by true b' c e = let z = e in cc
    by false true c e = let z = e in cc
    by false false true e = let z = e in cc
    by false false false e = let z = e in cc

block_no_cell : (b word place : ℕ) → block_spot b word ≡ spots.Cell place → ⊥
block_no_cell b word place = by (word == part_words)
  where
    by : (c : Bool) → (if c then spots.BlockLink b else spots.BlockWord b word) ≡ spots.Cell place → ⊥
    by true e = let z = e in cc
    by false e = let z = e in cc

private_no_cell : (m : Meaning) (l : Layout) (slot word number place : ℕ) (p : PartState) (x : Spot × Access) → private_store_ask m l slot word number p ≡ Some x
    → x.0 ≢ spots.Cell place
private_no_cell m l slot word number place p x e met = ⊎_elim
    (λ own. descriptor_no_cell _ word place (ap (λ (y : Spot × Access). y.0) own.2 ∙ met))
    (λ block. block_no_cell _ word place (ap (λ (y : Spot × Access). y.0) block.1 ∙ met))
    (private_store_cases m l slot word number p x e)

-- a private load or store of a Make is one of a cell of its slot
five_test : (a b c : Bool) (cell : ℕ) → ((a && nat_lt cell 5) && b) ≡ true → cell < 5
five_test a b c cell e = grind (arith, nat_tests)

module _ (m : Meaning) (laws : Laws m) (l : Layout) (limits : IsWithinLimits l) (rs : List Request) (allowed : AreAllowed rs) (s s' : Sight) (r : ℕ) where
  abbrev p : PartState
  p = s.part r

  -- what has room has room behind the step, where the cells of the runner's slots stand
  pub words_room : (g : Beside) → IsWhole m l g s → (i : ℕ)
      → ((t j : ℕ) → IsOwn (s.part i) t → j < 5 → s'.word (spots.Cell (cell_of m.fixed_cells t j)) ≡ s.word (spots.Cell (cell_of m.fixed_cells t j)))
      → SlotsHaveRoom m l s.word (s.part i) → SlotsHaveRoom m l s'.word (s.part i)
  words_room g whole i stands old = record {
    free = λ t j own five. moves t j (inl own) five (old.free t j own five);
    made = λ q t is made. let x = old.made q t is made in
        let own : IsOwn (s.part i) t = inr (made_hand m l g s whole i t q is made) in record {
          opened = x.opened;
          next = x.next;
          at = x.at;
          room = λ j le five. moves t j own five (x.room j le five);
          all = λ j unworn five. moves t j own five (x.all j unworn five);
        };
    looked = λ t j own unworn low five. moves t j (inr own) five (old.looked t j own unworn low five);
    unlooked = old.unlooked;
    unlooked_made = old.unlooked_made;
  }
    where
      moves : (t j : ℕ) → IsOwn (s.part i) t → j < 5 → CellHasRoom m l s.word t j → CellHasRoom m l s'.word t j
      moves t j own five = subst (λ n. version_of n < l.version_max) (sym (stands t j own five))

  making_fills : (kind : EventKind) → fills_slot kind ≡ false → is_making kind ≡ false
  making_fills (kinds.PrivateLoad slot word) h = h
  making_fills kinds.MakeCommit h = h
  making_fills _ h = refl

  storing_fills : (kind : EventKind) → fills_slot kind ≡ false → is_private_store m l kind ≡ true → ⊥
  storing_fills (kinds.PrivateStore slot word number) h e = not_both e h
  storing_fills _ h e = not_both e refl

  none_some : {A : Type 0} {n : ℕ} {o : Option ℕ} → o ≡ None → o ≡ Some n → A
  none_some e e' = absurd (cc)

  module _ (old : SlotsHaveRoom m l s.word p) where
    -- no step but a private store changes the words of the runner's slots
    same_words : (kind : EventKind) → IsStep m l rs s s' r kind → (is_private_store m l kind ≡ true → ⊥) → SlotsHaveRoom m l s'.word p
    same_words kind st other = words_room st.beside st.whole r
        (λ t j own five. cell_stands m laws l limits rs allowed s s' r t j (inl (r, own)) five kind st (λ is. absurd (other is))) old

    module _ (q : RunState) (is : p.run ≡ Some q) where
      -- a run before a step that is none of a Make is in no Make
      module _ (kind : EventKind) (x : Spot × Access) (other : fills_slot kind ≡ false) where
        opening_short : opening_ask kind q ≡ Some x → length q.opened < 13
        opening_short = by kind
          where
            by : (k : EventKind) → opening_ask k q ≡ Some x → length q.opened < 13
            by (kinds.LoadThunk None) e = let low = (asked.open_more_asked q x e).0 in omega arith
            by kinds.LoadDone e = let low = (asked.load_done_asked q x e).0 in omega arith
            by _ e = some_none x e

        unmade : ask_by m l rs r kind p (Some q) ≡ Some x → (t : ℕ) → q.made ≡ Some t → ⊥
        unmade e t made = by (is_open_run q) e
          where
            has_room : MakeHasRoom m l s.word q t
            has_room = old.made q t is made

            by : (b : Bool) → (if b then line_ask m l kind p.nodes.free p.blocks.free q (next_of m q) else opening_ask kind q) ≡ Some x → ⊥
            by true e = none_some (in_no_make m l q x p.nodes.free p.blocks.free kind other e) has_room.at
            by false e = let low = opening_short e in let all = has_room.opened in omega arith

      other_step : (kind : EventKind) (st : IsStep m l rs s s' r kind) → fills_slot kind ≡ false
          → ask_by m l rs r kind p (Some q) ≡ Some st.step.ask → SlotsHaveRoom m l s'.word (after_by m l kind p (Some q) (s.word st.step.ask.0))
      other_step kind st other e =
          let found = s.word st.step.ask.0 in
          let p' = after_by m l kind p (Some q) found in
          kept_room m l s'.word p p' (inside_slots m l p found q kind other).nodes
          (record {
            never = λ q' t at made. unmade kind st.step.ask other e t
                (sym ((inside_made m l p q is found kind (making_fills kind other)).same q' at) ∙ made);
          })
          (same_words kind st (storing_fills kind other))

      module _ (opened : is_open_run q ≡ true) where
        all_opened : length q.opened ≡ 13
        all_opened = open_run q opened

        -- the run right behind its step, before this one of its line
        behind : (q1 : RunState) → q1.opened ≡ q.opened → (trail : List ℕ) → q1.at ≡ settled (setting_of l q.descriptor) trail (line_of m q) (q.at + 1)
            → (micro : Micro) → micro_at (line_of m q) (suc q.at) ≡ micro → is_check micro ≡ false → filling (micro_at (line_of m q1) q1.at) ≡ filling micro
        behind q1 same trail at micro next no_check =
            ap (λ (xs : List ℕ). filling (micro_at (line (m.body (thunk_of xs))) q1.at)) same
            ∙ (ap (λ n. filling (micro_at (line_of m q) n)) at
            ∙ ap filling (rests_behind (setting_of l q.descriptor) trail (line_of m q) q.at micro next no_check))

        -- a Make looks at its slot's next cell
        load_step : (slot cell : ℕ) (st : IsStep m l rs s s' r (kinds.PrivateLoad slot cell))
            → line_ask m l (kinds.PrivateLoad slot cell) p.nodes.free p.blocks.free q (next_of m q) ≡ Some st.step.ask
            → SlotsHaveRoom m l s'.word (inside.fill_loaded m l slot p q q.made (s.word st.step.ask.0))
        load_step slot cell st e = by q.made refl
          where
            h : (k : ℕ) × (next_of m q ≡ micros.PrivateLoad cell k) × (is_slot (make_slot q.made p.nodes.free) slot ≡ true)
            h = let a = fill_load_asked q st.step.ask m l slot cell p.nodes.free (next_of m q) e in (a.0, a.1, a.2)

            here : micro_at (line_of m q) q.at ≡ micros.PrivateLoad cell h.0
            here = next_in_line m q (micros.PrivateLoad cell h.0) refl h.1

            store : (v : Source) × (micro_at (line_of m q) (suc q.at) ≡ micros.PrivateStore cell h.0 v)
            store = (is_ordered (m.body (thunk_of q.opened))).fill_next q.at cell h.0 here

            words : SlotsHaveRoom m l s'.word p
            words = same_words (kinds.PrivateLoad slot cell) st (λ z. not_both z refl)

            found : ℕ
            found = s.word st.step.ask.0

            same_test : (a b : ℕ) → (a == b) ≡ true → a ≡ b
            same_test a b e = grind (arith, nat_tests)

            no_hand : has p.nodes.free slot ≡ true → (b : Bool) → has p.nodes.hand slot ≡ b → b ≡ false
            no_hand free true hand = absurd (hand_unfree m l st.beside s st.whole r r slot (own_node m laws l limits st.beside s st.whole r slot (inr hand)) hand free)
            no_hand free false hand = refl

            by : (o : Option ℕ) → q.made ≡ o → SlotsHaveRoom m l s'.word (inside.fill_loaded m l slot p q o found)
            by None none =
                let free = last_listed p.nodes.free slot (ap (λ (o : Option ℕ). is_slot (make_slot o p.nodes.free) slot) (sym none) ∙ h.2) in
                let q1 : RunState = inside.goes_on m l (record q { made = Some slot; worn = false }) found in
                taken_room m l s'.word p slot words (no_hand free (has p.nodes.hand slot) refl)
                (inside.fill_loaded m l slot p q None found) refl
                (λ q' t at made. let one : q1 ≡ q' = some_same q1 q' at in
                let same : slot ≡ t = some_same slot t (ap (λ (y : RunState). y.made) one ∙ made) in (
                  sym same,
                  subst (λ (y : RunState). MakeHasRoom m l s'.word y t) one (subst (λ n. MakeHasRoom m l s'.word q1 n) same (record {
                    opened = all_opened;
                    next = cell;
                    at = behind q1 refl q.trail refl (micros.PrivateStore cell h.0 store.0) store.1 refl;
                    room = λ i le five. words.free slot i free five;
                    all = λ i unworn five. words.free slot i free five;
                  })),
                ))
            by (Some t0) some =
                let same : t0 ≡ slot = same_test t0 slot (ap (λ (o : Option ℕ). is_slot (make_slot o p.nodes.free) slot) (sym some) ∙ h.2) in
                let q1 : RunState = inside.goes_on m l q found in
                let before = words.made q t0 is some in
                let next : before.next ≡ cell = some_same before.next cell (sym before.at ∙ ap filling here) in
                going_room m l s'.word p (inside.with_run p q1) (same_nodes p.nodes) words
                (λ q' t at made. let one : q1 ≡ q' = some_same q1 q' at in
                let same' : t0 ≡ t = some_same t0 t (sym some ∙ (ap (λ (y : RunState). y.made) one ∙ made)) in (
                  subst (λ (y : RunState). MakeHasRoom m l s'.word y t) one (subst (λ n. MakeHasRoom m l s'.word q1 n) same' (record {
                    opened = all_opened;
                    next = cell;
                    at = behind q1 refl q.trail refl (micros.PrivateStore cell h.0 store.0) store.1 refl;
                    room = λ i le five. before.room i (subst (λ n. n ≤ i) (sym next) le) five;
                    all = before.all;
                  })),
                  ap (λ n. (test_of p.nodes.tests n).cells) (sym same') ∙ words.unlooked_made q t0 is some,
                ))

        -- a Make's commit
        commit_step : (st : IsStep m l rs s s' r kinds.MakeCommit)
            → line_ask m l kinds.MakeCommit p.nodes.free p.blocks.free q (next_of m q) ≡ Some st.step.ask
            → SlotsHaveRoom m l s'.word (inside.make_committed m l p q q.made (s.word st.step.ask.0))
        commit_step st e =
            let h = make_commit_asked q st.step.ask (next_of m q) e in
            subst (λ (o : Option ℕ). SlotsHaveRoom m l s'.word (inside.make_committed m l p q o (s.word st.step.ask.0))) (sym h.3) (by h.1 h.3 (s.word st.step.ask.0 == 0))
          where
            words : SlotsHaveRoom m l s'.word p
            words = same_words kinds.MakeCommit st (λ z. not_both z refl)

            found : ℕ
            found = s.word st.step.ask.0

            by : (slot : ℕ) → q.made ≡ Some slot → (b : Bool) → SlotsHaveRoom m l s'.word (record p {
              run = Some (inside.agrees m l (record q { made = None; worn = false }) (written_once found (slot + 1)));
              nodes = (if b then slot_made p.nodes slot else slot_back p.nodes slot q.worn);
            })
            by slot made true = made_room m l s'.word p slot words (words.unlooked_made q slot is made) _ refl
                (record { never = λ q' t at made'. none_some (ap (λ (y : RunState). y.made) (sym (some_same _ q' at))) made' })
            by slot made false = back_room m l s'.word p slot q.worn words (λ unworn i five. (words.made q slot is made).all i unworn five) _ refl
                (record { never = λ q' t at made'. none_some (ap (λ (y : RunState). y.made) (sym (some_same _ q' at))) made' })

        -- a Make stores into its slot's next cell
        module _ (slot cell number : ℕ) (st : IsStep m l rs s s' r (kinds.PrivateStore slot cell number))
            (e : fill_store_ask m l slot cell number q (next_of m q) ≡ Some st.step.ask) where
          abbrev store : EventKind
          store = kinds.PrivateStore slot cell number

          same_slot : (o : Option ℕ) → is_slot o slot ≡ true → o ≡ Some slot
          same_slot None h = absurd (let z = h in cc)
          same_slot (Some t) h = ap (λ n. Some n) (same t slot h)
            where
              same : (a b : ℕ) → (a == b) ≡ true → a ≡ b
              same a b e = grind (arith, nat_tests)

          pub record Stored : Type 0 where
            pub log : ℕ
            pub value : Source
            pub next : next_of m q ≡ micros.PrivateStore cell log value
            pub made : q.made ≡ Some slot
            pub asks_it : (spots.Cell (cell_of m.fixed_cells slot cell), Stores number) ≡ st.step.ask

          stored : Stored
          stored = let h = fill_store_asked q st.step.ask m l slot cell number (next_of m q) e in
              record { log = h.0; value = h.1; next = h.2; made = same_slot q.made h.3; asks_it = h.6 }

          -- the next cell has this number, and the other cells stand
          new_word : s'.word (spots.Cell (cell_of m.fixed_cells slot cell)) ≡ number
          new_word = ap (λ (y : Sight). y.word (spots.Cell (cell_of m.fixed_cells slot cell))) st.step.next
              ∙ subst (λ (y : Spot × Access). put s.word y.0 (written y.1 (s.word y.0)) (spots.Cell (cell_of m.fixed_cells slot cell)) ≡ number) stored.asks_it
              (here (cell_of m.fixed_cells slot cell) (s.word (spots.Cell (cell_of m.fixed_cells slot cell))))
            where
              here : (a w : ℕ) → cond (a == a) number w ≡ number
              here a w = grind (arith, nat_tests)

          cell_apart : (first t u i k : ℕ) → i < 5 → k < 5 → first + 5 * t + i ≡ first + 5 * u + k → (t ≡ u) × (i ≡ k)
          cell_apart first t u i k low low' e = ((omega arith), (omega arith))

          cell_place : {a b : ℕ} → spots.Cell a ≡ spots.Cell b → a ≡ b
          cell_place e = cc

          stands_else : (t j : ℕ) → IsOwn p t → j < 5 → (t ≡ slot → j ≡ cell → ⊥)
              → s'.word (spots.Cell (cell_of m.fixed_cells t j)) ≡ s.word (spots.Cell (cell_of m.fixed_cells t j))
          stands_else t j own five apart = cell_stands m laws l limits rs allowed s s' r t j (inl (r, own)) five store st
              (λ z met. let same : cell_of m.fixed_cells slot cell ≡ cell_of m.fixed_cells t j = cell_place (ap (λ (y : Spot × Access). y.0) stored.asks_it ∙ met) in
              let at = cell_apart m.fixed_cells slot t cell j low_cell five same in absurd (apart (sym at.0) (sym at.1)))
            where
              low_cell : cell < 5
              low_cell = five_test _ _ true cell (if_some _ _ st.step.ask (ap (λ (micro : Micro). fill_store_ask m l slot cell number q micro) (sym stored.next) ∙ e)).0

          moves : (t j : ℕ) → IsOwn p t → j < 5 → (t ≡ slot → j ≡ cell → ⊥) → CellHasRoom m l s.word t j → CellHasRoom m l s'.word t j
          moves t j own five apart = subst (λ n. version_of n < l.version_max) (sym (stands_else t j own five apart))

          hand : has p.nodes.hand slot ≡ true
          hand = made_hand m l st.beside s st.whole r slot q is stored.made

          free_apart : (t : ℕ) → has p.nodes.free t ≡ true → t ≢ slot
          free_apart t free same = hand_unfree m l st.beside s st.whole r r t
              (own_node m laws l limits st.beside s st.whole r t (inl free)) (ap (has p.nodes.hand) same ∙ hand) free

          split : (w : Bool) (v max : ℕ) → (w || v == max) ≡ false → (w ≡ false) × (v ≢ max)
          split w v max e = grind (arith, nat_tests)

          below_max : (v max : ℕ) → v ≤ max → v ≢ max → v < max
          below_max v max le ne = search arith

          abbrev q1 : RunState
          q1 = inside.goes_on m l (record q { worn = q.worn || version_of number == l.version_max }) q.word

          -- how the run's Make goes on
          going : MakeHasRoom m l s'.word q1 slot
          going =
              let x = old.made q slot is stored.made in
              let here = next_in_line m q (micros.PrivateStore cell stored.log stored.value) refl stored.next in
              let next : x.next ≡ cell = some_same x.next cell (sym x.at ∙ ap filling here) in
              let at : (n : ℕ) → (micro : Micro) → micro_at (line_of m q) (suc q.at) ≡ micro → is_check micro ≡ false → filling micro ≡ Some n
              → suc cell ≤ n → MakeHasRoom m l s'.word q1 slot =
              λ n micro behind_it no_check fills le. record {
                opened = all_opened;
                next = n;
                at = behind q1 refl q.trail refl micro behind_it no_check ∙ fills;
                room = λ i above five. moves slot i (inr hand) five (λ same here. absurd (omega arith)) (x.room i (omega arith) five);
                all = λ i unworn five. let h = split q.worn (version_of number) l.version_max unworn in ⊎_elim
                    (λ last. subst (λ k. CellHasRoom m l s'.word slot k) (sym last)
                    (subst (λ w. version_of w < l.version_max) (sym new_word) (below_max (version_of number) l.version_max
                    (subst (λ w. version_of w ≤ l.version_max) new_word (version_most m l st.beside' s' st.whole' (cell_of m.fixed_cells slot cell))) h.1)))
                    (λ ne. moves slot i (inr hand) five (λ same here. ne here) (x.all i h.0 five))
                    (cases_eq i cell);
              } in
              ⊎_elim
              (λ load. at (suc cell) (micros.PrivateLoad (suc cell) stored.log) load refl refl (omega arith))
              (λ commit. at 5 (micros.MakeCommit stored.log) commit refl refl low_cell)
              (store_next (m.body (thunk_of q.opened)) q.at cell stored.log stored.value here)
            where
              low_cell : suc cell ≤ 5
              low_cell = five_test _ _ true cell (if_some _ _ st.step.ask (ap (λ (micro : Micro). fill_store_ask m l slot cell number q micro) (sym stored.next) ∙ e)).0

          store_step : SlotsHaveRoom m l s'.word (inside.with_run p (inside.filled m l number q))
          store_step = record {
            free = λ t i own five. moves t i (inl own) five (λ same. absurd (free_apart t own same)) (old.free t i own five);
            made = λ q' t at made. let one : q1 ≡ q' = some_same q1 q' at in
                let same : slot ≡ t = some_same slot t (sym stored.made ∙ (ap (λ (y : RunState). y.made) one ∙ made)) in
                subst (λ (y : RunState). MakeHasRoom m l s'.word y t) one (subst (λ n. MakeHasRoom m l s'.word q1 n) same going);
            looked = λ t i own unworn low five. ⊎_elim
                (λ same. absurd (let none = old.unlooked_made q slot is stored.made in
                let some : i < (test_of p.nodes.tests slot).cells = subst (λ n. i < (test_of p.nodes.tests n).cells) same low in omega arith))
                (λ ne. moves t i (inr own) five (λ same. absurd (ne same)) (old.looked t i own unworn low five))
                (cases_eq t slot);
            unlooked = old.unlooked;
            unlooked_made = λ q' t at made. let one : q1 ≡ q' = some_same q1 q' at in
                old.unlooked_made q t is (ap (λ (y : RunState). y.made) one ∙ made);
          }

        -- a step by which the run links a block leaves its Make as it is
        module _ (links : List ℕ) (block : Option ℕ) (emptied : ℕ) (won : List ℕ) where
          abbrev q2 : RunState
          q2 = record q { links = links; block = block; emptied = emptied; won = won }

          link_room : SlotsHaveRoom m l s'.word p → SlotsHaveRoom m l s'.word (inside.with_run p q2)
          link_room words = going_room m l s'.word p (inside.with_run p q2) (same_nodes p.nodes) words (λ q' t at made.
              let one : q2 ≡ q' = some_same q2 q' at in
              let was : q.made ≡ Some t = ap (λ (y : RunState). y.made) one ∙ made in
              let x = words.made q t is was in (
                subst (λ (y : RunState). MakeHasRoom m l s'.word y t) one (record { opened = x.opened; next = x.next; at = x.at; room = x.room; all = x.all }),
                words.unlooked_made q t is was,
              ))

        -- it stores into a word of the block
        block_step : (slot word number : ℕ) (st : IsStep m l rs s s' r (kinds.PrivateStore slot word number))
            → (block_spot (slot - blocks_from m l) word, Stores number) ≡ st.step.ask
            → SlotsHaveRoom m l s'.word (inside.with_run p (inside.block_emptied (slot - blocks_from m l) q))
        block_step slot word number st asks_it = link_room q.links (Some (slot - blocks_from m l)) (inside.emptied_more q) q.won
            (words_room st.beside st.whole r (λ t j own five.
            cell_stands m laws l limits rs allowed s s' r t j (inl (r, own)) five (kinds.PrivateStore slot word number) st (λ store met.
            absurd (block_no_cell (slot - blocks_from m l) word _ (ap (λ (y : Spot × Access). y.0) asks_it ∙ met)))) old)

  opens : (b : Bool) (y z : PartState) → b ≡ true → SlotsHaveRoom m l s'.word y → SlotsHaveRoom m l s'.word (if b then y else z)
  opens true y z e h = h
  opens false y z e h = not_both e refl

  -- a step of a run
  module _ (old : SlotsHaveRoom m l s.word p) (q : RunState) (is : p.run ≡ Some q) where
    line_room : (kind : EventKind) (st : IsStep m l rs s s' r kind) → is_open_run q ≡ true
        → line_ask m l kind p.nodes.free p.blocks.free q (next_of m q) ≡ Some st.step.ask
        → ask_by m l rs r kind p (Some q) ≡ Some st.step.ask → SlotsHaveRoom m l s'.word (after_by m l kind p (Some q) (s.word st.step.ask.0))
    line_room (kinds.PrivateLoad slot cell) st opened e whole_ask = opens (is_open_run q) _ _ opened (load_step old q is opened slot cell st e)
    line_room (kinds.PrivateStore slot cell number) st opened e whole_ask =
        opens (is_open_run q) _ _ opened (⊎_elim
        (λ block. subst (λ b. SlotsHaveRoom m l s'.word (inside.with_run p (if b then inside.block_emptied (slot - blocks_from m l) q else inside.filled m l number q))) (sym block.0) (block_step old q is opened slot cell number st block.1))
        (λ fills. subst (λ b. SlotsHaveRoom m l s'.word (inside.with_run p (if b then inside.block_emptied (slot - blocks_from m l) q else inside.filled m l number q))) (sym fills.0) (store_step old q is opened slot cell number st fills.1))
        (run_store_asked q st.step.ask m l slot cell number p.blocks.free (next_of m q) e))
    line_room (kinds.LinkCommit b) st opened e whole_ask = opens (is_open_run q) _ _ opened
        (link_room old q is opened _ None 0 _ (same_words old (kinds.LinkCommit b) st (λ store. not_both store refl)))
    line_room kinds.MakeCommit st opened e whole_ask = opens (is_open_run q) _ _ opened (commit_step old q is opened st e)
    line_room kind st opened e whole_ask = other_step old q is kind st refl whole_ask

    inside_room : (kind : EventKind) (st : IsStep m l rs s s' r kind) → ask_by m l rs r kind p (Some q) ≡ Some st.step.ask
        → SlotsHaveRoom m l s'.word (after_by m l kind p (Some q) (s.word st.step.ask.0))
    inside_room kind st e = by (is_open_run q) refl e
      where
        opening_fills : (k : EventKind) → opening_ask k q ≡ Some st.step.ask → fills_slot k ≡ false
        opening_fills (kinds.LoadThunk None) a = refl
        opening_fills kinds.LoadDone a = refl
        opening_fills _ a = some_none st.step.ask a

        by : (b : Bool) → is_open_run q ≡ b
            → (if b then line_ask m l kind p.nodes.free p.blocks.free q (next_of m q) else opening_ask kind q) ≡ Some st.step.ask
            → SlotsHaveRoom m l s'.word (after_by m l kind p (Some q) (s.word st.step.ask.0))
        by true opened a = line_room kind st opened a e
        by false opened a = other_step old q is kind st (opening_fills kind a) e

  module _ (old : SlotsHaveRoom m l s.word p) where
    -- it is no cell of a slot that isn't in the runner's hand
    store_apart : (t j : ℕ) → j < 5 → (kind : EventKind) (st : IsStep m l rs s s' r kind) → t < (counts_of m l).nodes
        → st.beside.epochs.location t ≢ locations.Hand r
        → is_private_store m l kind ≡ true → st.step.ask.0 ≢ spots.Cell (cell_of m.fixed_cells t j)
    store_apart t j five (kinds.PrivateStore slot cell number) st node ne is met = by p.run refl (unless_gone _ p.gone _ st.step.ask st.step.asked).1
      where
        by : (o : Option RunState) → p.run ≡ o → ask_by m l rs r (kinds.PrivateStore slot cell number) p o ≡ Some st.step.ask → ⊥
        by None none e = private_no_cell m l slot cell number _ p st.step.ask e met
        by (Some q) is e = open_by (is_open_run q) refl e
          where
            open_by : (b : Bool) → is_open_run q ≡ b
                → (if b then line_ask m l (kinds.PrivateStore slot cell number) p.nodes.free p.blocks.free q (next_of m q) else opening_ask (kinds.PrivateStore slot cell number) q)
                ≡ Some st.step.ask → ⊥
            open_by false opened a = some_none st.step.ask a
            open_by true opened a = ⊎_elim
                (λ block. block_no_cell _ cell _ (ap (λ (y : Spot × Access). y.0) block.1 ∙ met))
                (λ fills. fills_other opened fills.1)
                (run_store_asked q st.step.ask m l slot cell number p.blocks.free (next_of m q) a)
              where
                fills_other : is_open_run q ≡ true → fill_store_ask m l slot cell number q (next_of m q) ≡ Some st.step.ask → ⊥
                fills_other opened a =
                    let x = stored old q is opened slot cell number st a in
                    let place : cell_of m.fixed_cells slot cell ≡ cell_of m.fixed_cells t j =
                    cell_place old q is opened slot cell number st a (ap (λ (y : Spot × Access). y.0) x.asks_it ∙ met) in
                    let low = five_test _ _ true cell (if_some _ _ st.step.ask
                    (ap (λ (micro : Micro). fill_store_ask m l slot cell number q micro) (sym x.next) ∙ a)).0 in
                    let same : slot ≡ t = (cell_apart old q is opened slot cell number st a m.fixed_cells slot t cell j low five place).0 in
                    let hand = hand old q is opened slot cell number st a in
                    ne (hand_node m l st.beside.epochs s st.whole.slots r t node (ap (has p.nodes.hand) (sym same) ∙ hand))
    store_apart t j five kind st node ne is met = not_both is refl

    -- so it is none of another runner's slots
    others_apart : (i t j : ℕ) → i ≢ r → IsOwn (s.part i) t → j < 5 → (kind : EventKind) (st : IsStep m l rs s s' r kind)
        → is_private_store m l kind ≡ true → st.step.ask.0 ≢ spots.Cell (cell_of m.fixed_cells t j)
    others_apart i t j ne own five kind st = store_apart t j five kind st node elsewhere
      where
        node : t < (counts_of m l).nodes
        node = own_node m laws l limits st.beside s st.whole i t own

        hand_same : (a b : ℕ) → locations.Hand a ≡ locations.Hand b → a ≡ b
        hand_same a b e = cc

        elsewhere : st.beside.epochs.location t ≢ locations.Hand r
        elsewhere at = ⊎_elim
            (λ free. let z = sym (free_node m l st.beside.epochs s st.whole.slots i t node free) ∙ at in absurd (cc))
            (λ held. ne (hand_same i r (sym (hand_node m l st.beside.epochs s st.whole.slots i t node held) ∙ at)))
            own

    -- and of none on the board
    board_apart : (i t j : ℕ) → s.word (spots.Board i) ≡ suc t → j < 5 → (kind : EventKind) (st : IsStep m l rs s s' r kind)
        → is_private_store m l kind ≡ true → st.step.ask.0 ≢ spots.Cell (cell_of m.fixed_cells t j)
    board_apart i t j named five kind st = store_apart t j five kind st (board_node m laws l limits st.beside s st.whole i t named)
        (λ at. let z = sym (st.whole.slots.board.slot i t named) ∙ at in absurd (cc))

    -- so what was on the board has room behind the step
    board_room : BoardHasRoom m l s.word → (kind : EventKind) → IsStep m l rs s s' r kind → (i t j : ℕ) → s.word (spots.Board i) ≡ suc t → j < 5
        → CellHasRoom m l s'.word t j
    board_room boarded kind st i t j named five = subst (λ n. version_of n < l.version_max)
        (sym (cell_stands m laws l limits rs allowed s s' r t j (inr (i, named)) five kind st (board_apart i t j named five kind st))) (boarded i t j named five)

  -- a step outside a run
  module _ (old : SlotsHaveRoom m l s.word p) (boarded : BoardHasRoom m l s.word) (none : p.run ≡ None) where
    outside_words : (kind : EventKind) (st : IsStep m l rs s s' r kind) → outside_ask m l rs r kind p ≡ Some st.step.ask → SlotsHaveRoom m l s'.word p
    outside_words (kinds.PrivateStore slot word number) st e = words_room st.beside st.whole r
        (λ t j own five. cell_stands m laws l limits rs allowed s s' r t j (inl (r, own)) five (kinds.PrivateStore slot word number) st (λ store met.
        absurd (private_no_cell m l slot word number _ p st.step.ask e met))) old
    outside_words kind st e = same_words old kind st (λ store. not_both store refl)

    makes_none : (kind : EventKind) (found : ℕ) → MakesNone (outside_after m l kind p found)
    makes_none kind found = record { never = λ q t at made. none_some ((outside_made m l p none found kind).nothing q at) made }

    -- a private load
    look_step : (slot cell : ℕ) (st : IsStep m l rs s s' r (kinds.PrivateLoad slot cell))
        → private_load_ask m l slot cell p ≡ Some st.step.ask
        → SlotsHaveRoom m l s'.word (outside_after m l (kinds.PrivateLoad slot cell) p (s.word st.step.ask.0))
    look_step slot cell st e = by (nat_lt slot (slot_count l m.fixed_slots)) (makes_none (kinds.PrivateLoad slot cell) (s.word st.step.ask.0))
      where
        below_test : (a b : ℕ) → a < b → nat_lt a b ≡ true
        below_test a b h = grind (arith, nat_tests)

        place : has p.nodes.hand slot ≡ true → spots.Cell (cell_of m.fixed_cells slot cell) ≡ st.step.ask.0
        place hand =
            let low = own_node m laws l limits st.beside s st.whole r slot (inr hand) in
            let test : nat_lt slot (slot_count l m.fixed_slots) ≡ true = below_test slot (slot_count l m.fixed_slots) low in
            ap (λ (y : Spot × Access). y.0) (if_some _ _ st.step.ask
            (ap (λ b. if b
            then when (is_resting p.stage p.run && (nat_lt cell 5 && (has p.nodes.free slot || has p.nodes.hand slot))) (spots.Cell (cell_of m.fixed_cells slot cell)) Loads
            else (if nat_lt slot (blocks_from m l)
            then when (is_resting p.stage p.run && has p.descriptors.free (slot - slot_count l m.fixed_slots)) (descriptor_spot (slot - slot_count l m.fixed_slots) cell) Loads
            else when (is_resting p.stage p.run && has p.blocks.free (slot - blocks_from m l)) (block_spot (slot - blocks_from m l) cell) Loads))
            (sym test) ∙ e)).1

        found : ℕ
        found = s.word st.step.ask.0

        words : SlotsHaveRoom m l s'.word p
        words = outside_words (kinds.PrivateLoad slot cell) st e

        finds : has p.nodes.hand slot ≡ true → cell < 5
            → (found ≡ s'.word (spots.Cell (cell_of m.fixed_cells slot cell))) × (version_of found ≤ l.version_max)
        finds hand low =
            let met = place hand in
            let stands = cell_stands m laws l limits rs allowed s s' r slot cell (inl (r, inr hand)) low (kinds.PrivateLoad slot cell) st
            (λ store. not_both store refl) in (
              ap s.word (sym met) ∙ sym stands,
              subst (λ n. version_of n ≤ l.version_max) (ap s.word met) (version_most m l st.beside s st.whole (cell_of m.fixed_cells slot cell)),
            )

        by : (b : Bool) → MakesNone (if b then record p { nodes = nodes_looked l p.nodes slot cell found }
            else outside.descriptor_known m l slot cell p found)
            → SlotsHaveRoom m l s'.word (if b then record p { nodes = nodes_looked l p.nodes slot cell found }
            else outside.descriptor_known m l slot cell p found)
        by true none = looked_room m l s'.word p slot cell found words finds _ refl none
        by false none = kept_room m l s'.word p _ (same_nodes p.nodes) none words

    either_room : (b : Bool) (y z : PartState) → (MakesNone y → SlotsHaveRoom m l s'.word y) → (MakesNone z → SlotsHaveRoom m l s'.word z)
        → MakesNone (if b then y else z) → SlotsHaveRoom m l s'.word (if b then y else z)
    either_room true y z one two makes = one makes
    either_room false y z one two makes = two makes

    kept : (words : SlotsHaveRoom m l s'.word p) (p' : PartState) → SameNodes p.nodes p'.nodes → MakesNone p' → SlotsHaveRoom m l s'.word p'
    kept words p' same makes = kept_room m l s'.word p p' same makes words

    scan_step : (words : SlotsHaveRoom m l s'.word p) (stage : Stage) (found : ℕ) → MakesNone (outside.scan_one_after l p stage found)
        → SlotsHaveRoom m l s'.word (outside.scan_one_after l p stage found)
    scan_step words (stages.Scanning x next clear) found = either_room (nat_le next l.runners) _ _
        (either_room (next == l.runners && not ((clear && is_clear x found) && nat_lt x last_epoch)) _ _
        (λ makes. collected_room m l s'.word p x words makes)
        (λ makes. kept words _ (same_nodes p.nodes) makes))
        (λ makes. words)
    scan_step words _ found = λ makes. words

    advance_step : (words : SlotsHaveRoom m l s'.word p) (stage : Stage) → MakesNone (outside.advance_after p stage)
        → SlotsHaveRoom m l s'.word (outside.advance_after p stage)
    advance_step words (stages.Scanning x next clear) = either_room (nat_lt x last_epoch) _ _
        (λ makes. collected_room m l s'.word p (x + 1) words makes) (λ makes. words)
    advance_step words _ = λ makes. words

    -- the table has few node slots
    few_slots : (counts_of m l).nodes ≤ 2 ^ 32
    few_slots = let nodes = limits.few_nodes in let runners = limits.few_runners in let fixed = laws.first.few_slots in omega (arith, nodes, runners, fixed)

    -- what was on the board is in the free list
    take_step : (word link : ℕ) (st : IsStep m l rs s s' r (kinds.BoardTake word link)) → board_take_ask l r word link p ≡ Some st.step.ask
        → SlotsHaveRoom m l s'.word (board_take_after link p (s.word st.step.ask.0))
    take_step word link st e = by (s.word st.step.ask.0 == link) refl
      where
        words : SlotsHaveRoom m l s'.word p
        words = outside_words (kinds.BoardTake word link) st e

        slot : ℕ
        slot = value_of (link - 1)

        -- the link that was found there names the slot
        named : (s.word st.step.ask.0 == link) ≡ true → s.word (spots.Board word) ≡ suc slot
        named won =
            let asked = board_take_asked l r word link p st.step.ask e in
            let finds : s.word (spots.Board word) ≡ link = ap (λ (y : Spot × Access). s.word y.0) asked.is ∙ same_number _ _ won in
            let behind : link ≡ suc (link - 1) = let some = asked.some in omega arith in
            let node = board_node m laws l limits st.beside s st.whole word (link - 1) (finds ∙ behind) in
            let small = few_slots in
            let value : value_of (link - 1) ≡ link - 1 = omega (arith, node, small) in finds ∙ (behind ∙ ap suc (sym value))

        taken : s.word (spots.Board word) ≡ suc slot → SlotsHaveRoom m l s'.word (record p { nodes = record (p.nodes) { free = p.nodes.free ++ slot ∷ [] } })
        taken there = record {
          free = λ t j own five. ⊎_elim
              (λ was. words.free t j was five)
              (λ new. board_room old boarded (kinds.BoardTake word link) st word t j (there ∙ ap suc (sym (one_has slot t new))) five)
              (either_has p.nodes.free (slot ∷ []) t own);
          made = words.made;
          looked = words.looked;
          unlooked = words.unlooked;
          unlooked_made = words.unlooked_made;
        }

        kept_all : SlotsHaveRoom m l s'.word (record p { nodes = record (p.nodes) { free = p.nodes.free } })
        kept_all = record { free = words.free; made = words.made; looked = words.looked; unlooked = words.unlooked; unlooked_made = words.unlooked_made }

        by : (b : Bool) → (s.word st.step.ask.0 == link) ≡ b
            → SlotsHaveRoom m l s'.word (record p { nodes = free_if b (slot_drawn p.nodes slot) p.nodes })
        by true won = taken (named won)
        by false lost = kept_all

    -- a free slot goes onto the board
    give_step : (word slot : ℕ) (st : IsStep m l rs s s' r (kinds.BoardGive word slot)) → board_give_ask l r word slot p ≡ Some st.step.ask
        → SlotsHaveRoom m l s'.word (board_give_after l slot p (s.word st.step.ask.0))
    give_step word slot st e = by (s.word st.step.ask.0 == 0)
      where
        words : SlotsHaveRoom m l s'.word p
        words = outside_words (kinds.BoardGive word slot) st e

        by : (b : Bool) → SlotsHaveRoom m l s'.word (record p {
          nodes = free_if b (slot_given p.nodes slot) p.nodes;
          records = record (p.records) {
            gave_above = (if b then p.records.gave_above && nat_le l.nodes (length (slot_given p.nodes slot).free) else p.records.gave_above);
          };
        })
        by true = record {
          free = λ t j own five. words.free t j (without_has p.nodes.free slot t own).0 five;
          made = words.made;
          looked = words.looked;
          unlooked = words.unlooked;
          unlooked_made = words.unlooked_made;
        }
        by false = record { free = words.free; made = words.made; looked = words.looked; unlooked = words.unlooked; unlooked_made = words.unlooked_made }

    outside_room : (kind : EventKind) (st : IsStep m l rs s s' r kind) → outside_ask m l rs r kind p ≡ Some st.step.ask
        → SlotsHaveRoom m l s'.word (outside_after m l kind p (s.word st.step.ask.0))
    outside_room (kinds.PrivateLoad slot cell) st e = look_step slot cell st e
    outside_room (kinds.ScanOne n) st e = scan_step (outside_words (kinds.ScanOne n) st e) p.stage (s.word st.step.ask.0) (makes_none (kinds.ScanOne n) (s.word st.step.ask.0))
    outside_room (kinds.BoardTake word link) st e = take_step word link st e
    outside_room (kinds.BoardGive word slot) st e = give_step word slot st e
    outside_room kinds.Advance st e = advance_step (outside_words kinds.Advance st e) p.stage (makes_none kinds.Advance (s.word st.step.ask.0))
    outside_room kind st e = kept_room m l s'.word p (outside_after m l kind p (s.word st.step.ask.0))
        (outside_slots m l p (s.word st.step.ask.0) kind refl).nodes (makes_none kind (s.word st.step.ask.0)) (outside_words kind st e)

  -- each step keeps the room of all slots
  module _ (old : RoomsStand m l s) (kind : EventKind) (st : IsStep m l rs s s' r kind) where
    own_room : (o : Option RunState) → p.run ≡ o → ask_by m l rs r kind p o ≡ Some st.step.ask
        → SlotsHaveRoom m l s'.word (after_by m l kind p o (s.word st.step.ask.0))
    own_room None none e = outside_room (old.own r) old.board none kind st e
    own_room (Some q) is e = inside_room (old.own r) q is kind st e

    parts_kept : (i : ℕ) → SlotsHaveRoom m l s'.word (s'.part i)
    parts_kept i = subst (λ (y : Sight). SlotsHaveRoom m l s'.word (y.part i)) (sym st.step.next)
        (each_part m l s r st.step.ask (λ k p'. SlotsHaveRoom m l s'.word p')
        (λ k p' blocks board records gone h. record { free = h.free; made = h.made; looked = h.looked; unlooked = h.unlooked; unlooked_made = h.unlooked_made })
        kind (joins m l rs kind r p st.step.ask st.step.asked)
        (own_room p.run refl (unless_gone _ p.gone _ st.step.ask st.step.asked).1)
        (λ k ne. words_room st.beside st.whole k (λ t j own five. cell_stands m laws l limits rs allowed s s' r t j (inl (k, own)) five kind st
        (others_apart (old.own r) k t j ne own five kind st)) (old.own k)) i)

  module _ (old : RoomsStand m l s) where
    -- the words of the board behind an exchange there
    board_is : (kind : EventKind) (st : IsStep m l rs s s' r kind) (word i : ℕ) (access : Access) → (spots.Board word, access) ≡ st.step.ask
        → s'.word (spots.Board i) ≡ cond (i == word) (written access (s.word (spots.Board word))) (s.word (spots.Board i))
    board_is kind st word i access is = ap (λ (y : Sight). y.word (spots.Board i)) st.step.next
        ∙ sym (ap (λ (y : Spot × Access). put s.word y.0 (written y.1 (s.word y.0)) (spots.Board i)) is)

    -- a take leaves a word as it was, or makes it 0
    took : (word link : ℕ) → IsStep m l rs s s' r (kinds.BoardTake word link) → (i t : ℕ) → s'.word (spots.Board i) ≡ suc t → s.word (spots.Board i) ≡ suc t
    took word link st i t named =
        let out = out_of_run m l rs r (kinds.BoardTake word link) p st.step.ask (λ q. refl) (λ q. refl) st.step.asked in
        let asked = board_take_asked l r word link p st.step.ask out.asked in
        was i word link t (λ n. s.word (spots.Board n)) (sym (board_is (kinds.BoardTake word link) st word i _ asked.is) ∙ named)
      where
        was : (i word link t : ℕ) (on : ℕ → ℕ) → cond (i == word) (cond (on word == link) 0 (on word)) (on i) ≡ suc t → on i ≡ suc t
        was i word link t on e = ⊎_elim
            (λ same. ap on same ∙ kept (on word) link t (sym (this i word (cond (on word == link) 0 (on word)) (on i) same) ∙ e))
            (λ ne. sym (that i word (cond (on word == link) 0 (on word)) (on i) ne) ∙ e) (cases_eq i word)
          where
            kept : (found link t : ℕ) → cond (found == link) 0 found ≡ suc t → found ≡ suc t
            kept found link t e = grind (arith, nat_tests)

            this : (i word a b : ℕ) → i ≡ word → cond (i == word) a b ≡ a
            this i word a b e = grind (arith, nat_tests)

            that : (i word a b : ℕ) → i ≢ word → cond (i == word) a b ≡ b
            that i word a b ne = grind (arith, nat_tests)

    -- what a word of the board names has room behind the step
    named_room : (kind : EventKind) → IsStep m l rs s s' r kind → BoardHasRoom m l s'.word
    named_room (kinds.BoardTake word link) st i t j named five = board_room (old.own r) old.board (kinds.BoardTake word link) st i t j (took word link st i t named) five
    named_room (kinds.BoardGive word slot) st i t j named five =
        let out = out_of_run m l rs r (kinds.BoardGive word slot) p st.step.ask (λ q. refl) (λ q. refl) st.step.asked in
        let asked = board_give_asked l r word slot p st.step.ask out.asked in
        ⊎_elim
        (λ was. board_room (old.own r) old.board (kinds.BoardGive word slot) st i t j was five)
        (λ given. let free : has p.nodes.free t ≡ true = ap (has p.nodes.free) given ∙ asked.own in
        subst (λ n. version_of n < l.version_max)
        (sym (cell_stands m laws l limits rs allowed s s' r t j (inl (r, inl free)) five (kinds.BoardGive word slot) st (λ store. not_both store refl)))
        ((old.own r).free t j free five))
        (by i word slot t (s.word (spots.Board word)) (s.word (spots.Board i)) (ap (λ n. s.word (spots.Board n)))
        (sym (board_is (kinds.BoardGive word slot) st word i _ asked.is) ∙ named))
      where
        by : (i word slot t found here : ℕ) → (i ≡ word → here ≡ found) → cond (i == word) (cond (found == 0) (slot + 1) found) here ≡ suc t → (here ≡ suc t) ⊎ (t ≡ slot)
        by i word slot t found here same e = grind (arith, nat_tests)
    named_room kind st i t j named five = board_room (old.own r) old.board kind st i t j (sym unchanged ∙ named) five
      where
        unchanged : s'.word (spots.Board i) ≡ s.word (spots.Board i)
        unchanged = ap (λ (y : Sight). y.word (spots.Board i)) st.step.next
            ∙ board_same s.word st.step.ask.0 kind st.step.ask.1 i refl (asked_may m l rs r p st.step.ask kind st.step.asked)

    pub rooms_kept : (kind : EventKind) → IsStep m l rs s s' r kind → RoomsStand m l s'
    rooms_kept kind st = record { own = parts_kept old kind st; board = named_room kind st }
