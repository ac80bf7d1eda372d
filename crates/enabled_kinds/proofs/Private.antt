-- What the tests tell of the private steps and of a publication.
use Rattle.std.specs.Prelude.{Bool, true, false, ◌==◌, ◌&&◌, ◌||◌, nat_lt, nat_le, ◌-◌, if◌then◌else◌}
use Rattle.std.specs.List.{list_any}
use Rattle.std.proofs.Common.{◌≡◌, ◌+◌, ◌≤◌, ℕ, List, ◌⊎◌, inl, inr, ⊎_elim, sym, refl, ap, ◌∙◌, Option, Some, None, arith}
use Rattle.std.proofs.lemmas.Bool.Decides.{nat_tests}
use Rattle.machine_states.specs.epoch_core.specs.small_lemmas.proofs.Bools.{both_hold as all_of}
use Rattle.machine_states.specs.epoch_core.specs.small_lemmas.proofs.Numbers.{tested_not_less as not_below, tested_most as at_most}
use Rattle.machine_states.specs.map_history.specs.declared.op.Request.{Request}
use Rattle.machine_states.specs.body_terms.specs.declared.micro.Micro.{Micro}
use Rattle.machine_states.specs.body_terms.specs.declared.micro.Micro.TheVariants as micros
use Rattle.machine_states.specs.body_terms.specs.Word.{next_word}
use Rattle.machine_states.specs.body_terms.specs.Run.{source_value}
use Rattle.machine_states.specs.body_terms.specs.Memory.{cell_of}
use Rattle.machine_states.specs.table_words.specs.declared.layout.Layout.{Layout}
use Rattle.machine_states.specs.table_words.specs.declared.sizes.Sizes.{Sizes}
use Rattle.machine_states.specs.table_words.specs.declared.spot.Spot.{Spot}
use Rattle.machine_states.specs.table_words.specs.declared.spot.Spot.TheVariants as spots
use Rattle.machine_states.specs.table_words.specs.declared.access.Access.{Access}
use Rattle.machine_states.specs.table_words.specs.declared.access.Access.TheVariants.{Loads, Stores}
use Rattle.machine_states.specs.table_words.specs.Places.{fits, part_words, block_count, slot_count, descriptor_count, block_words}
use Rattle.machine_states.specs.structure_laws.specs.Meaning.{Meaning}
use Rattle.machine_states.specs.runner_parts.specs.declared.event.EventKind.{EventKind}
use Rattle.machine_states.specs.runner_parts.specs.declared.event.EventKind.TheVariants as kinds
use Rattle.machine_states.specs.runner_parts.specs.State.{RunState, PartState}
use Rattle.machine_states.specs.runner_parts.specs.Tests.{has, is_resting}
use Rattle.runner_steps.specs.Outside.{when, descriptor_spot, block_spot, blocks_from, private_load_ask, private_store_ask}
use Rattle.runner_steps.specs.Sections.{is_open_run, next_of, needs_link}
use Rattle.runner_steps.specs.InRun.{make_slot, is_slot, is_cell, can_raise, fill_load_ask, fill_store_ask, block_empty_ask, private_store_in_run_ask}
use Rattle.runner_steps.specs.Asks.{ask_by, sizes_for}
use Rattle.enabled_kinds.specs.Kinds.{kind_number, IsGiven}
use Rattle.enabled_kinds.specs.May.{is_enabled, is_enabled_if, May, Tells}
use Rattle.enabled_kinds.specs.Tried.{load_at, made_load, store_at, made_store, emptied_at, stored_next}
use Rattle.enabled_kinds.proofs.Asked.{absent, the_same, not_both, not_true, both, either, neither, equal, some_passes, none_passes, when_asks, asks_when, below, is_below, resting_asks, Asked, asked, enabled}
use Rattle.enabled_kinds.proofs.Numbers.{only_private_load, only_private_store}

within : (a d n : ℕ) → nat_lt d n ≡ true → nat_lt (a + d) (a + n) ≡ true
within a d n h = grind (arith, nat_tests)

beyond : (a n d : ℕ) → nat_lt (a + n + d) a ≡ false
beyond a n d = grind (arith, nat_tests)

past : (a d : ℕ) → nat_lt (a + d) a ≡ false
past a d = grind (arith, nat_tests)

is_at_most : (a d : ℕ) → nat_le a (a + d) ≡ true
is_at_most a d = grind (arith, nat_tests)

slot_is : (o : Option ℕ) (slot : ℕ) → is_slot o slot ≡ true → o ≡ Some slot
slot_is None slot e = absurd (not_both false e refl)
slot_is (Some s) slot e = ap (λ (n : ℕ). Some n) (equal s slot e)

-- a word of a descriptor that the table has
spot_below : (s : Sizes) (d word : ℕ) (first done link : Bool)
    → fits s (if first then spots.ThunkWord d word else (if done then spots.DoneWord d else (if link then spots.LinkWord d else spots.LogWord d (word - 13)))) ≡ true
    → nat_lt d s.descriptors ≡ true
spot_below s d word true done link e = (both (nat_lt d s.descriptors) (nat_lt word 12) e).0
spot_below s d word false true link e = e
spot_below s d word false false true e = e
spot_below s d word false false false e = (both (nat_lt d s.descriptors) (nat_lt (word - 13) part_words) e).0

-- a word of a block that the table has
block_below : (s : Sizes) (b word : ℕ) (link : Bool) → fits s (if link then spots.BlockLink b else spots.BlockWord b word) ≡ true → nat_lt b s.blocks ≡ true
block_below s b word true e = e
block_below s b word false e = (both (nat_lt b s.blocks) (nat_lt word part_words) e).0

module _ (m : Meaning) (l : Layout) where
  load_is : (slot word : ℕ) (free : List ℕ) (q : RunState) (micro : Micro) (x : Spot × Access) → fill_load_ask m l slot word free q micro ≡ Some x → load_at (make_slot q.made free) micro ≡ Some (kinds.PrivateLoad slot word)
  load_is slot word free q (micros.PrivateLoad cell log) x e =
      let test = (when_asks _ _ _ x e).0 in
      let rest = both (is_slot (make_slot q.made free) slot) (word == cell) (both (is_cell m l slot word) _ test).1 in
      ap (λ (o : Option ℕ). load_at o (micros.PrivateLoad cell log)) (slot_is (make_slot q.made free) slot rest.0)
      ∙ ap (λ (n : ℕ). Some (kinds.PrivateLoad slot n)) (sym (equal word cell rest.1))
  load_is slot word free q _ x e = absurd (absent x e)

  load_inside : (b : Bool) (slot word : ℕ) (free : List ℕ) (q : RunState) (micro : Micro) (x : Spot × Access) → (if b then fill_load_ask m l slot word free q micro else None) ≡ Some x
      → (if b then load_at (make_slot q.made free) micro else None) ≡ Some (kinds.PrivateLoad slot word)
  load_inside true slot word free q micro x e = load_is slot word free q micro x e
  load_inside false slot word free q micro x e = absurd (absent x e)

  load_number : (o : Option ℕ) (micro : Micro) (k : EventKind) → load_at o micro ≡ Some k → (slot : ℕ) × (word : ℕ) × (k ≡ kinds.PrivateLoad slot word)
  load_number None micro k e = absurd (absent k e)
  load_number (Some slot) (micros.PrivateLoad cell log) k e = (slot, cell, sym (the_same (kinds.PrivateLoad slot cell) k e))
  load_number (Some slot) _ k e = absurd (absent k e)

  made_load_by : (b : Bool) (o : Option ℕ) (micro : Micro) (k : EventKind) → (if b then load_at o micro else None) ≡ Some k → (slot : ℕ) × (word : ℕ) × (k ≡ kinds.PrivateLoad slot word)
  made_load_by true o micro k e = load_number o micro k e
  made_load_by false o micro k e = absurd (absent k e)

  made_load_is : (free : List ℕ) (o : Option RunState) (k : EventKind) → made_load m free o ≡ Some k → (slot : ℕ) × (word : ℕ) × (k ≡ kinds.PrivateLoad slot word)
  made_load_is free None k e = absurd (absent k e)
  made_load_is free (Some q) k e = made_load_by (is_open_run q) (make_slot q.made free) (next_of m q) k e

  store_if : (b : Bool) (slot cell word number next : ℕ) → (b && number == next) ≡ true → word ≡ cell → (if b then Some (kinds.PrivateStore slot cell next) else None) ≡ Some (kinds.PrivateStore slot word number)
  store_if true slot cell word number next e same = λ i. Some (kinds.PrivateStore slot (sym same i) (sym (equal number next e) i))
  store_if false slot cell word number next e same = absurd (not_both false e refl)

  store_is : (slot word number : ℕ) (q : RunState) (micro : Micro) (x : Spot × Access) → fill_store_ask m l slot word number q micro ≡ Some x → store_at l q q.made micro ≡ Some (kinds.PrivateStore slot word number)
  store_is slot word number q (micros.PrivateStore cell log value) x e =
      let test = (when_asks _ _ _ x e).0 in
      let rest = both (is_slot q.made slot) _ (both (is_cell m l slot word) _ test).1 in
      let last = both (word == cell) (can_raise l q.word && number == next_word q.word (source_value q.trail value)) rest.1 in
      ap (λ (o : Option ℕ). store_at l q o (micros.PrivateStore cell log value)) (slot_is q.made slot rest.0)
      ∙ store_if (can_raise l q.word) slot cell word number (next_word q.word (source_value q.trail value)) last.1 (equal word cell last.0)
  store_is slot word number q _ x e = absurd (absent x e)

  -- a store into a block to be linked
  emptied_is : (slot word number : ℕ) (blocks : List ℕ) (q : RunState) (x : Spot × Access) → block_empty_ask m l slot word number blocks q ≡ Some x
      → nat_lt (slot - blocks_from m l) (block_count l) ≡ true → emptied_at m l q (make_slot q.block blocks) ≡ Some (kinds.PrivateStore slot word number)
  emptied_is slot word number blocks q x e low =
      let test = both (nat_le (blocks_from m l) slot) _ (when_asks _ _ _ x e).0 in
      let own = both (is_slot (make_slot q.block blocks) (slot - blocks_from m l)) _ test.1 in
      let next = both (word == q.emptied) _ own.1 in
      let last = both (nat_lt word block_words) (number == 0) next.1 in
      let back : blocks_from m l + (slot - blocks_from m l) ≡ slot = let past = at_most (blocks_from m l) slot test.0 in omega (arith, past) in
      ap (emptied_at m l q) (slot_is (make_slot q.block blocks) (slot - blocks_from m l) own.0)
      ∙ (ap (λ (b : Bool). if b then Some (kinds.PrivateStore (blocks_from m l + (slot - blocks_from m l)) q.emptied 0) else None) low
      ∙ (λ i. Some (kinds.PrivateStore (back i) (sym (equal word q.emptied next.0) i) (sym (equal number 0 last.1) i))))

  -- a run's private store is the one that it makes next
  store_inside : (b : Bool) (slot word number : ℕ) (blocks : List ℕ) (q : RunState) (micro : Micro) (x : Spot × Access)
      → ((n j : ℕ) (access : Access) → (block_spot n j, access) ≡ x → nat_lt n (block_count l) ≡ true) → (if b then private_store_in_run_ask m l slot word number blocks q micro else None) ≡ Some x
      → (if b then stored_next m l blocks q micro else None) ≡ Some (kinds.PrivateStore slot word number)
  store_inside true slot word number blocks q micro x low e = by (needs_link q micro) e
    where
      by : (linked : Bool) → (if linked then block_empty_ask m l slot word number blocks q else fill_store_ask m l slot word number q micro) ≡ Some x
          → (if linked then emptied_at m l q (make_slot q.block blocks) else store_at l q q.made micro) ≡ Some (kinds.PrivateStore slot word number)
      by true e = emptied_is slot word number blocks q x e (low (slot - blocks_from m l) word (Stores number) (when_asks _ _ _ x e).1)
      by false e = store_is slot word number q micro x e
  store_inside false slot word number blocks q micro x low e = absurd (absent x e)

  store_raised : (b : Bool) (slot cell next : ℕ) (k : EventKind) → (if b then Some (kinds.PrivateStore slot cell next) else None) ≡ Some k → kinds.PrivateStore slot cell next ≡ k
  store_raised true slot cell next k e = the_same (kinds.PrivateStore slot cell next) k e
  store_raised false slot cell next k e = absurd (absent k e)

  store_number : (q : RunState) (o : Option ℕ) (micro : Micro) (k : EventKind) → store_at l q o micro ≡ Some k → (slot : ℕ) × (word : ℕ) × (number : ℕ) × (k ≡ kinds.PrivateStore slot word number)
  store_number q None micro k e = absurd (absent k e)
  store_number q (Some slot) (micros.PrivateStore cell log value) k e = (slot, cell, _, sym (store_raised (can_raise l q.word) slot cell (next_word q.word (source_value q.trail value)) k e))
  store_number q (Some slot) _ k e = absurd (absent k e)

  abbrev IsStore : EventKind → Type 0
  IsStore k = (slot : ℕ) × (word : ℕ) × (number : ℕ) × (k ≡ kinds.PrivateStore slot word number)

  emptied_number : (q : RunState) (o : Option ℕ) (k : EventKind) → emptied_at m l q o ≡ Some k → IsStore k
  emptied_number q None k e = absurd (absent k e)
  emptied_number q (Some block) k e = (blocks_from m l + block, q.emptied, 0, sym (raised (nat_lt block (block_count l)) (kinds.PrivateStore (blocks_from m l + block) q.emptied 0) k e))
    where
      raised : (b : Bool) (k' k : EventKind) → (if b then Some k' else None) ≡ Some k → k' ≡ k
      raised true k' k e = the_same k' k e
      raised false k' k e = absurd (absent k e)

  next_number : (b : Bool) (blocks : List ℕ) (q : RunState) (micro : Micro) (k : EventKind)
      → (if b then emptied_at m l q (make_slot q.block blocks) else store_at l q q.made micro) ≡ Some k → IsStore k
  next_number true blocks q micro k e = emptied_number q (make_slot q.block blocks) k e
  next_number false blocks q micro k e = store_number q q.made micro k e

  made_store_by : (b : Bool) (blocks : List ℕ) (q : RunState) (micro : Micro) (k : EventKind) → (if b then stored_next m l blocks q micro else None) ≡ Some k → IsStore k
  made_store_by true blocks q micro k e = next_number (needs_link q micro) blocks q micro k e
  made_store_by false blocks q micro k e = absurd (absent k e)

  made_store_is : (blocks : List ℕ) (o : Option RunState) (k : EventKind) → made_store m l blocks o ≡ Some k → (slot : ℕ) × (word : ℕ) × (number : ℕ) × (k ≡ kinds.PrivateStore slot word number)
  made_store_is blocks None k e = absurd (absent k e)
  made_store_is blocks (Some q) k e = made_store_by (is_open_run q) blocks q (next_of m q) k e

module _ (m : Meaning) (l : Layout) (rs : List Request) (r : ℕ) (p : PartState) where
  abbrev can : EventKind → Bool
  can k = is_enabled m l rs r p k

  abbrev slots : ℕ
  slots = slot_count l m.fixed_slots

  abbrev from : ℕ
  from = blocks_from m l

  abbrev sizes : Sizes
  sizes = sizes_for m l rs

  one : (n : ℕ) (k : EventKind) → IsGiven k → can k ≡ true → kind_number k ≡ n → May m l rs r p n
  one n k given e is = record { kind = k; is_of = is; given = given; enabled = e }

  -- what an enabled private load outside a run is of
  record OwnNode (slot : ℕ) : Type 0 where
    resting : is_resting p.stage p.run ≡ true
    listed : (has p.nodes.free slot || has p.nodes.hand slot) ≡ true
    node : nat_lt slot slots ≡ true
    first : nat_lt (cell_of m.fixed_cells slot 0) sizes.cells ≡ true

  record OwnDescriptor (slot : ℕ) : Type 0 where
    resting : is_resting p.stage p.run ≡ true
    listed : has p.descriptors.free (slot - slots) ≡ true
    past_nodes : slots ≤ slot
    there : nat_lt (slot - slots) sizes.descriptors ≡ true

  record OwnBlock (slot : ℕ) : Type 0 where
    resting : is_resting p.stage p.run ≡ true
    listed : has p.blocks.free (slot - from) ≡ true
    past_all : from ≤ slot
    there : nat_lt (slot - from) (block_count l) ≡ true

  -- a word of a block is one of those that the table has
  block_low : (b word : ℕ) (access : Access) (x : Spot × Access) → (block_spot b word, access) ≡ x → fits sizes x.0 ≡ true → nat_lt b (block_count l) ≡ true
  block_low b word access x is fitting = block_below sizes b word (word == part_words) (ap (λ (y : Spot × Access). fits sizes y.0) is ∙ fitting)

  own_load : (b c : Bool) (slot word : ℕ) (x : Spot × Access) → nat_lt slot slots ≡ b → nat_lt slot from ≡ c
      → (if b then when (is_resting p.stage p.run && (nat_lt word 5 && (has p.nodes.free slot || has p.nodes.hand slot))) (spots.Cell (cell_of m.fixed_cells slot word)) Loads
      else (if c then when (is_resting p.stage p.run && has p.descriptors.free (slot - slots)) (descriptor_spot (slot - slots) word) Loads
      else when (is_resting p.stage p.run && has p.blocks.free (slot - blocks_from m l)) (block_spot (slot - blocks_from m l) word) Loads)) ≡ Some x
      → fits sizes x.0 ≡ true → OwnNode slot ⊎ (OwnDescriptor slot ⊎ OwnBlock slot)
  own_load true c slot word x node first e fitting =
      let is = when_asks (is_resting p.stage p.run && (nat_lt word 5 && (has p.nodes.free slot || has p.nodes.hand slot))) (spots.Cell (cell_of m.fixed_cells slot word)) Loads x e in
      let test = both (is_resting p.stage p.run) (nat_lt word 5 && (has p.nodes.free slot || has p.nodes.hand slot)) is.0 in
      let inside = below (cell_of m.fixed_cells slot word) sizes.cells (ap (λ (y : Spot × Access). fits sizes y.0) is.1 ∙ fitting) in
      inl (record { resting = test.0; listed = (both (nat_lt word 5) _ test.1).1; node = node; first = is_below (cell_of m.fixed_cells slot 0) sizes.cells (omega (arith, inside)) })
  own_load false false slot word x node first e fitting =
      let is = when_asks (is_resting p.stage p.run && has p.blocks.free (slot - from)) (block_spot (slot - from) word) Loads x e in
      let test = both (is_resting p.stage p.run) (has p.blocks.free (slot - from)) is.0 in
      inr (inr (record { resting = test.0; listed = test.1; past_all = not_below slot from first; there = block_low (slot - from) word Loads x is.1 fitting }))
  own_load false true slot word x node first e fitting =
      let is = when_asks (is_resting p.stage p.run && has p.descriptors.free (slot - slots)) (descriptor_spot (slot - slots) word) Loads x e in
      let test = both (is_resting p.stage p.run) (has p.descriptors.free (slot - slots)) is.0 in
      inr (inl (record { resting = test.0; listed = test.1; past_nodes = not_below slot slots node; there = spot_below sizes (slot - slots) word (nat_lt word 12) (word == 12) (word == 13 + part_words) (ap (λ (y : Spot × Access). fits sizes y.0) is.1 ∙ fitting) }))

  look_first : (slot : ℕ) → p.gone ≡ false → OwnNode slot → can (kinds.PrivateLoad slot 0) ≡ true
  look_first slot stays own =
      let a = spots.Cell (cell_of m.fixed_cells slot 0) in
      let asks : private_load_ask m l slot 0 p ≡ Some (a, Loads) = rw own.node (asks_when _ a Loads (all_of _ _ own.resting (all_of _ _ refl own.listed))) in
      enabled m l rs r p (kinds.PrivateLoad slot 0) (a, Loads) stays (resting_asks m l rs r p (kinds.PrivateLoad slot 0) (a, Loads) own.resting asks) own.first

  reread_first : (slot : ℕ) → p.gone ≡ false → OwnDescriptor slot → can (kinds.PrivateLoad (slots + (slot - slots)) 0) ≡ true
  reread_first slot stays own =
      let d = slot - slots in
      let a = spots.ThunkWord d 0 in
      let back : slots + d - slots ≡ d = omega arith in
      let asks : private_load_ask m l (slots + d) 0 p ≡ Some (a, Loads) = rw (past slots d, within slots d (descriptor_count l) own.there, back) (asks_when _ a Loads (all_of _ _ own.resting own.listed)) in
      enabled m l rs r p (kinds.PrivateLoad (slots + d) 0) (a, Loads) stays (resting_asks m l rs r p (kinds.PrivateLoad (slots + d) 0) (a, Loads) own.resting asks) (all_of _ _ own.there refl)

  -- a block's first word, by the block's number
  block_first : (slot : ℕ) → p.gone ≡ false → OwnBlock slot → can (kinds.PrivateLoad (from + (slot - from)) 0) ≡ true
  block_first slot stays own =
      let b = slot - from in
      let a = spots.BlockWord b 0 in
      let back : from + b - from ≡ b = omega arith in
      let asks : private_load_ask m l (from + b) 0 p ≡ Some (a, Loads) = rw (beyond slots (descriptor_count l) b, past from b, back) (asks_when _ a Loads (all_of _ _ own.resting own.listed)) in
      enabled m l rs r p (kinds.PrivateLoad (from + b) 0) (a, Loads) stays (resting_asks m l rs r p (kinds.PrivateLoad (from + b) 0) (a, Loads) own.resting asks) (all_of _ _ own.there refl)

  empty_first : (slot : ℕ) → p.gone ≡ false → OwnBlock slot → can (kinds.PrivateStore (from + (slot - from)) 0 0) ≡ true
  empty_first slot stays own =
      let b = slot - from in
      let a = spots.BlockWord b 0 in
      let back : from + b - from ≡ b = omega arith in
      let asks : private_store_ask m l (from + b) 0 0 p ≡ Some (a, Stores 0) = rw (past from b, back) (asks_when _ a (Stores 0) (all_of _ _ own.resting (all_of _ _ own.listed refl))) in
      enabled m l rs r p (kinds.PrivateStore (from + b) 0 0) (a, Stores 0) stays (resting_asks m l rs r p (kinds.PrivateStore (from + b) 0 0) (a, Stores 0) own.resting asks) (all_of _ _ own.there refl)

  abbrev looks : ℕ → Bool
  looks slot = can (kinds.PrivateLoad slot 0)

  abbrev rereads : ℕ → Bool
  rereads d = nat_lt d (descriptor_count l) && can (kinds.PrivateLoad (slots + d) 0)

  abbrev prepares : ℕ → Bool
  prepares d = nat_lt d (descriptor_count l) && can (kinds.PrivateStore (slots + d) 0 0)

  abbrev rereads_block : ℕ → Bool
  rereads_block b = nat_lt b (block_count l) && can (kinds.PrivateLoad (from + b) 0)

  abbrev empties : ℕ → Bool
  empties b = nat_lt b (block_count l) && can (kinds.PrivateStore (from + b) 0 0)

  record NoLoad : Type 0 where
    free : list_any looks p.nodes.free ≡ false
    hand : list_any looks p.nodes.hand ≡ false
    descriptors : list_any rereads p.descriptors.free ≡ false
    blocks : list_any rereads_block p.blocks.free ≡ false
    made : is_enabled_if m l rs r p (made_load m p.nodes.free p.run) ≡ false

  no_node : (slot : ℕ) → NoLoad → p.gone ≡ false → OwnNode slot → ⊥
  no_node slot none stays own = not_both (looks slot) (look_first slot stays own)
      (⊎_elim (λ free. none_passes looks p.nodes.free slot none.free free) (λ hand. none_passes looks p.nodes.hand slot none.hand hand) (either (has p.nodes.free slot) (has p.nodes.hand slot) own.listed))

  no_descriptor : (slot : ℕ) → NoLoad → p.gone ≡ false → OwnDescriptor slot → ⊥
  no_descriptor slot none stays own = not_both (rereads (slot - slots)) (all_of _ _ own.there (reread_first slot stays own)) (none_passes rereads p.descriptors.free (slot - slots) none.descriptors own.listed)

  no_block : (slot : ℕ) → NoLoad → p.gone ≡ false → OwnBlock slot → ⊥
  no_block slot none stays own = not_both (rereads_block (slot - from)) (all_of _ _ own.there (block_first slot stays own)) (none_passes rereads_block p.blocks.free (slot - from) none.blocks own.listed)

  no_load : (slot word : ℕ) → NoLoad → (a : Asked m l rs r p (kinds.PrivateLoad slot word)) → can (kinds.PrivateLoad slot word) ≡ true → (o : Option RunState) → p.run ≡ o → ask_by m l rs r (kinds.PrivateLoad slot word) p o ≡ Some a.ask → ⊥
  no_load slot word none a e None here e' = ⊎_elim (no_node slot none a.stays) (⊎_elim (no_descriptor slot none a.stays) (no_block slot none a.stays)) (own_load (nat_lt slot slots) (nat_lt slot from) slot word a.ask refl refl e' a.fitting)
  no_load slot word none a e (Some q) here e' =
      let is = ap (made_load m p.nodes.free) here ∙ load_inside m l (is_open_run q) slot word p.nodes.free q (next_of m q) a.ask e' in
      not_both (can (kinds.PrivateLoad slot word)) e (ap (is_enabled_if m l rs r p) (sym is) ∙ none.made)

  -- what is tried of the private loads
  abbrev pub loads : Bool
  loads = list_any looks p.nodes.free || (list_any looks p.nodes.hand || (list_any rereads p.descriptors.free || (list_any rereads_block p.blocks.free || is_enabled_if m l rs r p (made_load m p.nodes.free p.run))))

  found_looks : (xs : List ℕ) → list_any looks xs ≡ true → May m l rs r p 11
  found_looks xs h = let x = some_passes looks xs h in one 11 (kinds.PrivateLoad x.0 0) tt x.1 refl

  found_rereads : list_any rereads p.descriptors.free ≡ true → May m l rs r p 11
  found_rereads h = let x = some_passes rereads p.descriptors.free h in one 11 (kinds.PrivateLoad (slots + x.0) 0) tt (both (nat_lt x.0 (descriptor_count l)) (can (kinds.PrivateLoad (slots + x.0) 0)) x.1).1 refl

  found_block : list_any rereads_block p.blocks.free ≡ true → May m l rs r p 11
  found_block h = let x = some_passes rereads_block p.blocks.free h in one 11 (kinds.PrivateLoad (from + x.0) 0) tt (both (nat_lt x.0 (block_count l)) (can (kinds.PrivateLoad (from + x.0) 0)) x.1).1 refl

  found_load : (o : Option EventKind) → ((k : EventKind) → o ≡ Some k → (slot : ℕ) × (word : ℕ) × (k ≡ kinds.PrivateLoad slot word)) → is_enabled_if m l rs r p o ≡ true → May m l rs r p 11
  found_load None is h = absurd (not_both false h refl)
  found_load (Some k) is h = let x = is k refl in one 11 (kinds.PrivateLoad x.0 x.1) tt (ap can (sym x.2) ∙ h) refl

  pub load_tells : Tells m l rs r p 11 loads
  load_tells = record {
    found = λ h. ⊎_elim (found_looks p.nodes.free) (λ h1. ⊎_elim (found_looks p.nodes.hand) (λ h2. ⊎_elim found_rereads (λ h3. ⊎_elim found_block (found_load (made_load m p.nodes.free p.run) (made_load_is m l p.nodes.free p.run)) (either _ _ h3)) (either _ _ h2)) (either _ _ h1)) (either _ _ h);
    missed = λ h. let n1 = neither _ _ h in let n2 = neither _ _ n1.1 in let n3 = neither _ _ n2.1 in let n4 = neither _ _ n3.1 in
        let none : NoLoad = record { free = n1.0; hand = n2.0; descriptors = n3.0; blocks = n4.0; made = n4.1 } in
        only_private_load (λ k. IsGiven k → can k ≡ false) (λ slot word given. not_true (can (kinds.PrivateLoad slot word)) (λ e.
        let a = asked m l rs r p (kinds.PrivateLoad slot word) e in no_load slot word none a e p.run refl a.asked));
  }

  descriptor_store : (slot word number : ℕ) (x : Spot × Access)
      → when (nat_le slots slot && (is_resting p.stage p.run && has p.descriptors.free (slot - slots))) (descriptor_spot (slot - slots) word) (Stores number) ≡ Some x
      → fits sizes x.0 ≡ true → OwnDescriptor slot
  descriptor_store slot word number x e fitting =
      let is = when_asks (nat_le slots slot && (is_resting p.stage p.run && has p.descriptors.free (slot - slots))) (descriptor_spot (slot - slots) word) (Stores number) x e in
      let test = both (nat_le slots slot) (is_resting p.stage p.run && has p.descriptors.free (slot - slots)) is.0 in
      let rest = both (is_resting p.stage p.run) (has p.descriptors.free (slot - slots)) test.1 in
      record { resting = rest.0; listed = rest.1; past_nodes = at_most slots slot test.0; there = spot_below sizes (slot - slots) word (nat_lt word 12) (word == 12) (word == 13 + part_words) (ap (λ (y : Spot × Access). fits sizes y.0) is.1 ∙ fitting) }

  own_store : (slot word number : ℕ) (x : Spot × Access) → private_store_ask m l slot word number p ≡ Some x → fits sizes x.0 ≡ true → OwnDescriptor slot ⊎ OwnBlock slot
  own_store slot word number x e fitting = by (nat_lt slot from) refl e
    where
      by : (b : Bool) → nat_lt slot from ≡ b
          → (if b then when (nat_le slots slot && (is_resting p.stage p.run && has p.descriptors.free (slot - slots))) (descriptor_spot (slot - slots) word) (Stores number)
          else when (is_resting p.stage p.run && (has p.blocks.free (slot - from) && number == 0)) (block_spot (slot - from) word) (Stores number)) ≡ Some x → OwnDescriptor slot ⊎ OwnBlock slot
      by true first e = inl (descriptor_store slot word number x e fitting)
      by false first e =
          let is = when_asks (is_resting p.stage p.run && (has p.blocks.free (slot - from) && number == 0)) (block_spot (slot - from) word) (Stores number) x e in
          let test = both (is_resting p.stage p.run) (has p.blocks.free (slot - from) && number == 0) is.0 in
          inr (record { resting = test.0; listed = (both (has p.blocks.free (slot - from)) (number == 0) test.1).0; past_all = not_below slot from first; there = block_low (slot - from) word (Stores number) x is.1 fitting })

  prepare_first : (slot : ℕ) → p.gone ≡ false → OwnDescriptor slot → can (kinds.PrivateStore (slots + (slot - slots)) 0 0) ≡ true
  prepare_first slot stays own =
      let d = slot - slots in
      let a = spots.ThunkWord d 0 in
      let back : slots + d - slots ≡ d = omega arith in
      let asks : private_store_ask m l (slots + d) 0 0 p ≡ Some (a, Stores 0) = rw (within slots d (descriptor_count l) own.there, back) (asks_when _ a (Stores 0) (all_of _ _ (is_at_most slots d) (all_of _ _ own.resting own.listed))) in
      enabled m l rs r p (kinds.PrivateStore (slots + d) 0 0) (a, Stores 0) stays (resting_asks m l rs r p (kinds.PrivateStore (slots + d) 0 0) (a, Stores 0) own.resting asks) (all_of _ _ own.there refl)

  -- what is tried of the private stores
  abbrev pub stores : Bool
  stores = list_any prepares p.descriptors.free || (list_any empties p.blocks.free || is_enabled_if m l rs r p (made_store m l p.blocks.free p.run))

  no_prepared : (slot : ℕ) → list_any prepares p.descriptors.free ≡ false → p.gone ≡ false → OwnDescriptor slot → ⊥
  no_prepared slot none stays own = not_both (prepares (slot - slots)) (all_of _ _ own.there (prepare_first slot stays own)) (none_passes prepares p.descriptors.free (slot - slots) none own.listed)

  no_empty : (slot : ℕ) → list_any empties p.blocks.free ≡ false → p.gone ≡ false → OwnBlock slot → ⊥
  no_empty slot none stays own = not_both (empties (slot - from)) (all_of _ _ own.there (empty_first slot stays own)) (none_passes empties p.blocks.free (slot - from) none own.listed)

  record NoStore : Type 0 where
    descriptors : list_any prepares p.descriptors.free ≡ false
    blocks : list_any empties p.blocks.free ≡ false
    made : is_enabled_if m l rs r p (made_store m l p.blocks.free p.run) ≡ false

  no_store : (slot word number : ℕ) → NoStore → (a : Asked m l rs r p (kinds.PrivateStore slot word number)) → can (kinds.PrivateStore slot word number) ≡ true
      → (o : Option RunState) → p.run ≡ o → ask_by m l rs r (kinds.PrivateStore slot word number) p o ≡ Some a.ask → ⊥
  no_store slot word number none a e None here e' = ⊎_elim (no_prepared slot none.descriptors a.stays) (no_empty slot none.blocks a.stays) (own_store slot word number a.ask e' a.fitting)
  no_store slot word number none a e (Some q) here e' =
      let is = ap (made_store m l p.blocks.free) here
      ∙ store_inside m l (is_open_run q) slot word number p.blocks.free q (next_of m q) a.ask (λ n j access is. block_low n j access a.ask is a.fitting) e' in
      not_both (can (kinds.PrivateStore slot word number)) e (ap (is_enabled_if m l rs r p) (sym is) ∙ none.made)

  found_prepares : list_any prepares p.descriptors.free ≡ true → May m l rs r p 12
  found_prepares h = let x = some_passes prepares p.descriptors.free h in one 12 (kinds.PrivateStore (slots + x.0) 0 0) tt (both (nat_lt x.0 (descriptor_count l)) (can (kinds.PrivateStore (slots + x.0) 0 0)) x.1).1 refl

  found_empties : list_any empties p.blocks.free ≡ true → May m l rs r p 12
  found_empties h = let x = some_passes empties p.blocks.free h in one 12 (kinds.PrivateStore (from + x.0) 0 0) tt (both (nat_lt x.0 (block_count l)) (can (kinds.PrivateStore (from + x.0) 0 0)) x.1).1 refl

  found_store : (o : Option EventKind) → ((k : EventKind) → o ≡ Some k → (slot : ℕ) × (word : ℕ) × (number : ℕ) × (k ≡ kinds.PrivateStore slot word number)) → is_enabled_if m l rs r p o ≡ true → May m l rs r p 12
  found_store None is h = absurd (not_both false h refl)
  found_store (Some k) is h = let x = is k refl in one 12 (kinds.PrivateStore x.0 x.1 x.2) tt (ap can (sym x.3) ∙ h) refl

  pub store_tells : Tells m l rs r p 12 stores
  store_tells = record {
    found = λ h. ⊎_elim found_prepares (λ h1. ⊎_elim found_empties (found_store (made_store m l p.blocks.free p.run) (made_store_is m l p.blocks.free p.run)) (either _ _ h1)) (either _ _ h);
    missed = λ h. let n1 = neither _ _ h in let n2 = neither _ _ n1.1 in
        let none : NoStore = record { descriptors = n1.0; blocks = n2.0; made = n2.1 } in
        only_private_store (λ k. IsGiven k → can k ≡ false) (λ slot word number given. not_true (can (kinds.PrivateStore slot word number)) (λ e.
        let a = asked m l rs r p (kinds.PrivateStore slot word number) e in no_store slot word number none a e p.run refl a.asked));
  }
