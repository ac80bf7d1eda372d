-- Steps on the board: their names, and what is kept behind them.
use Rattle.std.specs.Prelude.{◌==◌, ◌||◌, nat_le, slice_set}
use Rattle.std.proofs.Common.{◌≡◌, ℕ, ◌+◌, ◌-◌, ◌<◌, ◌≤◌, List, [], ◌∷◌, ◌++◌, length, Bool, true, false, refl, sym, ap, subst, ◌∙◌, arith, Some, None}
use Rattle.std.proofs.lemmas.Bool.Decides.{nat_tests}
use Rattle.atomic_table.specs.Table.{Me}
use Rattle.atomic_table.specs.Seated.{TableId}
use Rattle.machine_states.specs.body_terms.specs.declared.thunk.Thunk.{Thunk}
use Rattle.machine_states.specs.body_terms.specs.Word.{value_of}
use Rattle.machine_states.specs.table_words.specs.declared.spot.Spot.{Spot}
use Rattle.machine_states.specs.table_words.specs.declared.spot.Spot.TheVariants.{Board}
use Rattle.machine_states.specs.table_words.specs.declared.access.Access.{Access}
use Rattle.machine_states.specs.table_words.specs.declared.access.Access.TheVariants.{Loads, Exchanges}
use Rattle.machine_states.specs.table_words.specs.Access.{written}
use Rattle.machine_states.specs.table_words.specs.Limits.{IsWithinLimits}
use Rattle.machine_states.specs.table_words.specs.Places.{address, board_at, board_words, slot_count, Fits}
use Rattle.machine_states.specs.structure_laws.specs.Meaning.{Meaning}
use Rattle.machine_states.specs.structure_laws.specs.Laws.{Laws}
use Rattle.machine_states.specs.runner_parts.specs.declared.event.EventKind.{EventKind}
use Rattle.machine_states.specs.runner_parts.specs.declared.event.EventKind.TheVariants as kinds
use Rattle.machine_states.specs.runner_parts.specs.State.{PartState, NodesState}
use Rattle.machine_states.specs.runner_parts.specs.Tests.{has}
use Rattle.machine_states.specs.runner_parts.specs.Lists.{slot_given, slot_drawn, board_tried}
use Rattle.machine_states.proofs.Steps.{asked_fits}
use Rattle.machine_states.specs.runner_steps.specs.Asks.{sizes_for}
use Rattle.machine_states.specs.runner_steps.specs.Board.{free_if, board_take_after}
use Rattle.machine_states.specs.epoch_core.specs.Lists.{times}
use Rattle.machine_invariant.specs.machine_blocks.specs.machine_guards.specs.machine_agreement.specs.machine_epochs.proofs.BoardAsked as asked
use Rattle.machine_invariant.specs.machine_blocks.specs.machine_guards.specs.machine_agreement.specs.machine_epochs.proofs.Places.{has_append}
use Rattle.machine_invariant.specs.After.{AreAllowed}
use Rattle.runner_block.specs.declared.block.Block.{Block}
use Rattle.runner_block.specs.declared.marks.Mark.{Mark}
use Rattle.runner_block.specs.Kept.{KeptState, with_nodes, with_marks}
use Rattle.runner_block.specs.Marks.{mark_loaded, slot_tried, marks_of}
use Rattle.runner_block.proofs.Marking.{marks_read, marks_tried}
use Rattle.runner_block.specs.Room.{AreFew}
use Rattle.version_words.specs.declared.view.View.{View}
use Rattle.version_words.specs.RunnerState.{RunnerState}
use Rattle.version_words.specs.TableState.{TableState, IsOf}
use Rattle.version_words.specs.Kept.{IsKept}
use Rattle.version_words.specs.Events.{met_by, IsEnabled, IsNamed, Makes, Tries, step_at, nothing, seen_seat}
use Rattle.version_words.specs.Naming.{is_plain}
use Rattle.version_words.proofs.Asked.{outer, in_no_run}
use Rattle.version_words.proofs.Bounds.{few_seen, node_low, node_once}
use Rattle.version_words.proofs.Keeps.{marked_kept}
use Rattle.version_words.proofs.Shows.{seen_then}
use Rattle.version_words.proofs.Told.{told_outside}

module _ {T : Type 0} (m : Meaning) (t : TableState T) (r : RunnerState T) (own : IsOf t r) (word : ℕ) where
  -- the word of the board, by the address that a step meets
  abbrev place : ℕ
  place = address (sizes_for m t.layout t.requests) (Board word) - board_at (sizes_for m r.layout r.requests)

  place_is : place ≡ word
  place_is = (λ i. address (sizes_for m (sym own.layout i) (sym own.requests i)) (Board word) - board_at (sizes_for m r.layout r.requests))
      ∙ behind (board_at (sizes_for m r.layout r.requests)) word
    where
      behind : (at n : ℕ) → at + n - at ≡ n
      behind at n = omega arith

  -- a load
  module _ (enabled : IsEnabled m (kinds.BoardLoad word) r) where
    loads : asked.BoardLoadAsked r.layout r.number word r.part enabled.met
    loads = asked.board_load_asked r.layout r.number word r.part enabled.met (outer m r.layout r.requests r.number (kinds.BoardLoad word) r.part enabled.met refl enabled.asked).1

    pub load_word : word < board_words
    load_word = subst (λ (x : Spot × Access). Fits (sizes_for m r.layout r.requests) x.0) (sym loads.is)
        (asked_fits m r.layout r.requests [] [] (record { runner = r.number; kind = kinds.BoardLoad word }) r.part enabled.met enabled.asked)

    pub load_named : IsNamed m (λ m' l' rs' p' made. kinds.BoardLoad (made.word - board_at (sizes_for m' l' rs'))) r (step_at m t (Board word) 0 0 nothing) (Board word, Loads)
    load_named = record { asked = ap (λ n. met_by m r (kinds.BoardLoad n)) place_is ∙ (enabled.asked ∙ ap Some (sym loads.is)); plain = refl }

    pub load_event : (found : ℕ) (r' : RunnerState T) → Makes m (kinds.BoardLoad place) found r r' → Makes m (kinds.BoardLoad word) found r r'
    load_event found r' made = subst (λ (n : ℕ). Makes m (kinds.BoardLoad n) found r r') place_is made

  -- a take
  module _ (link : ℕ) (enabled : IsEnabled m (kinds.BoardTake word link) r) where
    takes : asked.BoardTakeAsked r.layout r.number word link r.part enabled.met
    takes = asked.board_take_asked r.layout r.number word link r.part enabled.met (outer m r.layout r.requests r.number (kinds.BoardTake word link) r.part enabled.met refl enabled.asked).1

    pub take_word : word < board_words
    take_word = subst (λ (x : Spot × Access). Fits (sizes_for m r.layout r.requests) x.0) (sym takes.is)
        (asked_fits m r.layout r.requests [] [] (record { runner = r.number; kind = kinds.BoardTake word link }) r.part enabled.met enabled.asked)

    pub link_some : 0 < link
    link_some = takes.some

    pub take_named : IsNamed m (λ m' l' rs' p' made. kinds.BoardTake (made.word - board_at (sizes_for m' l' rs')) made.first) r (step_at m t (Board word) link 0 nothing) (Board word, Exchanges link 0)
    take_named = record { asked = ap (λ n. met_by m r (kinds.BoardTake n link)) place_is ∙ (enabled.asked ∙ ap Some (sym takes.is)); plain = refl }

    pub take_event : (found : ℕ) (r' : RunnerState T) → Makes m (kinds.BoardTake place link) found r r' → Makes m (kinds.BoardTake word link) found r r'
    take_event found r' made = subst (λ (n : ℕ). Makes m (kinds.BoardTake n link) found r r') place_is made

    pub take_tries : (won : Bool) (r' : RunnerState T) → Tries m (kinds.BoardTake place link) won r r' → Tries m (kinds.BoardTake word link) won r r'
    take_tries won r' tried = subst (λ (n : ℕ). Tries m (kinds.BoardTake n link) won r r') place_is tried

  -- a give
  module _ (slot : ℕ) (enabled : IsEnabled m (kinds.BoardGive word slot) r) where
    gives : asked.BoardGiveAsked r.layout r.number word slot r.part enabled.met
    gives = asked.board_give_asked r.layout r.number word slot r.part enabled.met (outer m r.layout r.requests r.number (kinds.BoardGive word slot) r.part enabled.met refl enabled.asked).1

    pub give_word : word < board_words
    give_word = subst (λ (x : Spot × Access). Fits (sizes_for m r.layout r.requests) x.0) (sym gives.is)
        (asked_fits m r.layout r.requests [] [] (record { runner = r.number; kind = kinds.BoardGive word slot }) r.part enabled.met enabled.asked)

    give_kind : kinds.BoardGive place (slot + 1 - 1) ≡ kinds.BoardGive word slot
    give_kind = (λ i. kinds.BoardGive (place_is i) (same i))
      where
        same : slot + 1 - 1 ≡ slot
        same = omega arith

    left : (a b : ℕ) → a ≤ b → nat_le a b ≡ true
    left a b few = grind (arith, nat_tests)

    pub give_named : r.layout.nodes ≤ length (slot_given r.part.nodes slot).free
        → IsNamed m (λ m' l' rs' p' made. kinds.BoardGive (made.word - board_at (sizes_for m' l' rs')) (made.second - 1)) r (step_at m t (Board word) 0 (slot + 1) nothing) (Board word, Exchanges 0 (slot + 1))
    give_named above = record {
      asked = ap (met_by m r) give_kind ∙ (enabled.asked ∙ ap Some (sym gives.is));
      plain = ap (is_plain r.layout r.part) give_kind ∙ left r.layout.nodes (length (slot_given r.part.nodes slot).free) above;
    }

    pub give_event : (found : ℕ) (r' : RunnerState T) → Makes m (kinds.BoardGive place (slot + 1 - 1)) found r r' → Makes m (kinds.BoardGive word slot) found r r'
    give_event found r' made = subst (λ (k : EventKind). Makes m k found r r') give_kind made

    pub give_tries : (won : Bool) (r' : RunnerState T) → Tries m (kinds.BoardGive place (slot + 1 - 1)) won r r' → Tries m (kinds.BoardGive word slot) won r r'
    give_tries won r' tried = subst (λ (k : EventKind). Tries m k won r r') give_kind tried

last_has : (xs : List ℕ) (x : ℕ) → has (xs ++ x ∷ []) x ≡ true
last_has xs x = has_append xs (x ∷ []) x ∙ there x (has xs x)
  where
    there : (x : ℕ) (b : Bool) → (b || (x == x || false)) ≡ true
    there x b = grind (arith, nat_tests)

module _ {T : Type 0} (mean : T → Meaning) (s : T) (word number : ℕ) (kept : Block) (own_table : TableId) (me : Me Thunk (View T)) (live : me.0.structure ≡ Some s) (was : IsKept mean number kept me)
    (found : ℕ) (new_table : TableId) (me' : Me Thunk (View T)) (slots : me'.1 ≡ me.1) where
  abbrev nodes : NodesState
  nodes = kept.lists.part.nodes

  pub load_kept : Makes (mean s) (kinds.BoardLoad word) found (seen_seat own_table me) (seen_seat new_table me')
      → (lists : KeptState) → lists ≡ with_marks kept.lists (slice_set kept.lists.marks word (mark_loaded found)) → IsKept mean number (record kept { lists = lists }) me'
  load_kept made lists is = marked_kept mean s (kinds.BoardLoad word) found number kept own_table new_table me me' live made slots was refl refl lists
      (λ (p : PartState). p) (slice_set kept.lists.marks word (mark_loaded found)) is refl
      (ap (λ (marks : List Mark). slice_set marks word (mark_loaded found)) was.marks ∙ sym (marks_read me.0.part.board word found board_words))

  -- the marks behind an exchange
  tried_marks : word < board_words → (won : Bool) → slot_tried kept.lists.marks word won ≡ marks_of (board_tried me.0.part.board word won)
  tried_marks few won = ap (λ (marks : List Mark). slot_tried marks word won) was.marks ∙ sym (marks_tried me.0.part.board word won board_words few)

  -- where a take won the slot is a node slot for which the lists have room
  module _ (link : ℕ) (made : Makes (mean s) (kinds.BoardTake word link) found (seen_seat own_table me) (seen_seat new_table me')) where
    abbrev slot : ℕ
    slot = value_of (link - 1)

    resting : me.0.part.run ≡ None
    resting = in_no_run (mean s) (seen_seat own_table me) (kinds.BoardTake word link) refl (record { met = made.met; asked = made.asked })

    after_nodes : me'.0.part.nodes ≡ (board_take_after link me.0.part found).nodes
    after_nodes = ap (λ (r : RunnerState T). r.part.nodes) made.made
        ∙ ap (λ (p : PartState). p.nodes) (told_outside (mean s) me.0.layout me.0.number (kinds.BoardTake word link) made.met.0 made.met.1 me.0.part found resting)

    taken : found == link ≡ true → me'.0.part.nodes ≡ slot_drawn nodes slot
    taken won = after_nodes ∙ (ap (λ b. free_if b (slot_drawn me.0.part.nodes slot) me.0.part.nodes) won
        ∙ ap (λ (n : NodesState). slot_drawn n slot) (sym (ap (λ (p : PartState). p.nodes) was.lists)))

    room_is : slot_count me'.0.layout (mean s).fixed_slots ≡ kept.lists.room
    room_is = ap (λ (r : RunnerState T). slot_count r.layout (mean s).fixed_slots) made.made ∙ sym (was.of_table s live).room

    module _ (laws : Laws (mean s)) (limits : IsWithinLimits me'.0.layout) (allowed : AreAllowed me'.0.requests) where
      pub take_low : found == link ≡ true → slot < kept.lists.room
      take_low won = subst (λ n. slot < n) room_is
          (node_low (mean s) laws me'.0.layout me'.0.requests me'.0.number me'.0.part made.met.0 (written made.met.1 found) limits allowed (seen_then _ _ _ _ _ _ _ _ _ made.shown) slot
          (ap (λ (n : NodesState). has n.free slot) (taken won) ∙ last_has nodes.free slot))

      pub take_room : found == link ≡ true → AreFew kept.lists.room (slot_drawn nodes slot)
      take_room won = subst (λ n. AreFew n (slot_drawn nodes slot)) room_is
          (subst (λ (n : NodesState). AreFew (slot_count me'.0.layout (mean s).fixed_slots) n) (taken won)
          (few_seen (mean s) laws me'.0.layout me'.0.requests me'.0.number me'.0.part made.met.0 (written made.met.1 found) limits allowed (seen_then _ _ _ _ _ _ _ _ _ made.shown)))

    pub take_kept : word < board_words → (lists : KeptState)
        → lists ≡ with_marks (with_nodes kept.lists (free_if (found == link) (slot_drawn nodes slot) nodes)) (slot_tried kept.lists.marks word (found == link))
        → IsKept mean number (record kept { lists = lists }) me'
    take_kept few lists is = marked_kept mean s (kinds.BoardTake word link) found number kept own_table new_table me me' live made slots was refl refl lists
        (λ (p : PartState). record p { nodes = free_if (found == link) (slot_drawn p.nodes slot) p.nodes }) (slot_tried kept.lists.marks word (found == link)) is refl
        (tried_marks few (found == link))

  -- a given slot was free, and stands in the list once
  module _ (slot : ℕ) (made : Makes (mean s) (kinds.BoardGive word slot) found (seen_seat own_table me) (seen_seat new_table me')) where
    pub give_once : Laws (mean s) → IsWithinLimits me'.0.layout → AreAllowed me'.0.requests → times slot nodes.free ≤ 1
    give_once laws limits allowed = subst (λ (p : PartState). times slot p.nodes.free ≤ 1) (sym was.lists)
        (node_once (mean s) me'.0.layout me'.0.requests me'.0.number (kinds.BoardGive word slot) me.0.part me'.0.part made.met found made.shown laws limits allowed slot)

    pub give_own : has nodes.free slot ≡ true
    give_own = ap (λ (p : PartState). has p.nodes.free slot) was.lists ∙ (asked.board_give_asked me.0.layout me.0.number word slot me.0.part made.met
        (outer (mean s) me.0.layout me.0.requests me.0.number (kinds.BoardGive word slot) me.0.part made.met refl made.asked).1).own

    pub give_kept : word < board_words → (lists : KeptState)
        → lists ≡ with_marks (with_nodes kept.lists (free_if (found == 0) (slot_given nodes slot) nodes)) (slot_tried kept.lists.marks word (found == 0))
        → IsKept mean number (record kept { lists = lists }) me'
    give_kept few lists is = marked_kept mean s (kinds.BoardGive word slot) found number kept own_table new_table me me' live made slots was refl refl lists
        (λ (p : PartState). record p { nodes = free_if (found == 0) (slot_given p.nodes slot) p.nodes }) (slot_tried kept.lists.marks word (found == 0)) is refl
        (tried_marks few (found == 0))
