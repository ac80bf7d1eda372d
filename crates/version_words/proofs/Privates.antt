-- Stores into the words of own slots.
use Rattle.std.proofs.Common.{◌≡◌, ℕ, [], ◌+◌, ◌-◌, ◌*◌, ◌/◌, ◌<◌, ◌≤◌, ◌⊎◌, inl, inr, ⊎_elim, List, Bool, true, false, refl, sym, ap, subst, ◌∙◌, length, arith, Option, Some, None, if◌then◌else◌}
use Rattle.std.specs.Prelude.{◌||◌, ◌%◌, ◌^◌, ◌==◌, ◌&&◌, nat_lt, nat_le}
use Rattle.std.proofs.lemmas.Bool.Decides.{nat_tests}
use Rattle.std.proofs.lemmas.Option.{none-some}
use Rattle.std.proofs.lemmas.Bool.{true≢false}
use Rattle.atomic_table.specs.Table.{Me}
use Rattle.atomic_table.specs.Seated.{TableId}
use Rattle.machine_states.specs.map_history.specs.declared.op.Request.{Request}
use Rattle.machine_states.specs.body_terms.specs.declared.thunk.Thunk.{Thunk}
use Rattle.machine_states.specs.body_terms.specs.declared.micro.Micro.{Micro}
use Rattle.machine_states.specs.body_terms.specs.declared.micro.Micro.TheVariants as micros
use Rattle.machine_states.specs.body_terms.specs.Memory.{cell_of}
use Rattle.machine_states.specs.body_terms.specs.Run.{source_value}
use Rattle.machine_states.specs.body_terms.specs.Word.{next_word, version_of}
use Rattle.machine_states.specs.table_words.specs.declared.layout.Layout.{Layout}
use Rattle.machine_states.specs.table_words.specs.declared.sizes.Sizes.{Sizes}
use Rattle.machine_states.specs.table_words.specs.declared.spot.Spot.{Spot}
use Rattle.machine_states.specs.table_words.specs.declared.spot.Spot.TheVariants as spots
use Rattle.machine_states.specs.table_words.specs.declared.access.Access.{Access}
use Rattle.machine_states.specs.table_words.specs.declared.access.Access.TheVariants.{Stores}
use Rattle.machine_states.specs.table_words.specs.Places.{address, Fits, part_words, slot_count, descriptor_count, block_count, cells_at, descriptor_at, descriptor_words, block_at, block_words}
use Rattle.machine_states.specs.structure_laws.specs.Meaning.{Meaning}
use Rattle.machine_states.specs.runner_parts.specs.declared.event.EventKind.{EventKind}
use Rattle.machine_states.specs.runner_parts.specs.declared.event.EventKind.TheVariants as kinds
use Rattle.machine_states.specs.runner_parts.specs.State.{RunState, BlocksState, PartState, RecordsState}
use Rattle.machine_states.specs.runner_steps.specs.Blocks.{blocks_after}
use Rattle.machine_states.specs.runner_parts.specs.Tests.{has, is_resting}
use Rattle.machine_states.specs.runner_steps.specs.Sections.{is_open_run, next_of, needs_link, line_of}
use Rattle.machine_states.specs.runner_steps.specs.Outside.{when, blocks_from, descriptor_spot, block_spot}
use Rattle.machine_states.specs.runner_steps.specs.InRun.{is_cell, is_slot, make_slot, can_raise, fill_store_ask, block_empty_ask, private_store_in_run_ask}
use Rattle.machine_states.specs.runner_steps.specs.Asks.{asks, opening_ask, sizes_for}
use Rattle.machine_states.specs.runner_steps.specs.AfterInRun.{block_emptied, goes_on, filled, with_run}
use Rattle.machine_states.specs.runner_steps.specs.AfterOutside.{private_store_after}
use Rattle.machine_states.specs.runner_steps.specs.After.{line_after, after_by, after, counted, epoch_after, is_moved, left_more, noted, stepped}
use Rattle.machine_states.specs.body_terms.specs.Line.{micro_at}
use Rattle.machine_states.proofs.Steps.{asked_fits, some_same}
use Rattle.machine_states.specs.runner_steps.specs.Outside.{private_store_ask}
use Rattle.machine_states.specs.runner_steps.specs.Asks.{ask_by, line_ask}
use Rattle.version_words.specs.declared.view.View.{View}
use Rattle.runner_block.specs.declared.block.Block.{Block}
use Rattle.version_words.specs.RunnerState.{RunnerState}
use Rattle.version_words.specs.TableState.{TableState, IsOf}
use Rattle.version_words.specs.Private.{IsWithin, private_spot, slot_at, word_at}
use Rattle.runner_block.specs.Blocks.{block_stored, block_cleared}
use Rattle.runner_block.specs.Kept.{KeptState, with_blocks}
use Rattle.runner_block.specs.Links as links
use Rattle.version_words.specs.Kept.{KeepsBlocks, IsKept}
use Rattle.version_words.specs.Events.{met_by, IsEnabled, IsNamed, IsBlind, Makes, step_at, address_of, start_of, nothing, seen_seat}
use Rattle.version_words.proofs.Asked.{unless_gone, tested}
use Rattle.machine_states.specs.structure_laws.specs.Laws.{Laws}
use Rattle.machine_states.specs.table_words.specs.Limits.{IsWithinLimits}
use Rattle.machine_states.specs.table_words.proofs.Counts.{few_blocks}
use Rattle.machine_states.specs.epoch_core.specs.small_lemmas.proofs.Numbers.{not_less_tested}
use Rattle.machine_states.specs.epoch_core.specs.Lists.{times}
use Rattle.machine_invariant.specs.After.{AreAllowed}
use Rattle.version_words.proofs.Bounds.{block_once}
use Rattle.version_words.proofs.BlockSteps.{stored_outside, stored_inside, emptied}
use Rattle.version_words.proofs.Keeps.{KeepsPart, no_epoch, was_part, part_is, then_kept_with}
use Rattle.version_words.proofs.Epochs.{goes_epoch}
use Rattle.version_words.proofs.Inside.{HasOpenRun, PlacesRun, both_true, few_descriptors, goes_inside, places, step_is}

-- where a descriptor's word stands
pub record StandsAt (s : Sizes) (d word at : ℕ) : Type 0 where
  pub is : at ≡ descriptor_at s d + word
  pub few : word < descriptor_words
  pub own : d < s.descriptors

stands_by : (s : Sizes) (d word : ℕ) (b b' b'' : Bool) → nat_lt word 12 ≡ b → word == 12 ≡ b' → word == 13 + part_words ≡ b''
    → Fits s (if b then spots.ThunkWord d word else (if b' then spots.DoneWord d else (if b'' then spots.LinkWord d else spots.LogWord d (word - 13))))
    → StandsAt s d word (address s (if b then spots.ThunkWord d word else (if b' then spots.DoneWord d else (if b'' then spots.LinkWord d else spots.LogWord d (word - 13)))))
stands_by s d word true b' b'' e e' e'' fits = let a = fits.1 in record { is = refl; few = omega (arith, a); own = fits.0 }
stands_by s d word false true b'' e e' e'' fits = let a : word ≡ 12 = grind (arith, nat_tests) in record { is = omega (arith, a); few = omega (arith, a); own = fits }
stands_by s d word false false true e e' e'' fits = let a : word ≡ 13 + part_words = grind (arith, nat_tests) in record { is = omega (arith, a); few = omega (arith, a); own = fits }
stands_by s d word false false false e e' e'' fits = let a : 13 ≤ word = grind (arith, nat_tests) in let b = fits.1 in record { is = omega (arith, a); few = omega (arith, a, b); own = fits.0 }

pub word_stands : (s : Sizes) (d word : ℕ) → Fits s (descriptor_spot d word) → StandsAt s d word (address s (descriptor_spot d word))
word_stands s d word fits = stands_by s d word (nat_lt word 12) (word == 12) (word == 13 + part_words) refl refl refl fits

-- where a block's word stands
pub record BlockStandsAt (s : Sizes) (b word at : ℕ) : Type 0 where
  pub is : at ≡ block_at s b + word
  pub few : word < block_words
  pub own : b < s.blocks

block_by : (s : Sizes) (b word : ℕ) (t : Bool) → word == part_words ≡ t → Fits s (if t then spots.BlockLink b else spots.BlockWord b word)
    → BlockStandsAt s b word (address s (if t then spots.BlockLink b else spots.BlockWord b word))
block_by s b word true e fits = let a : word ≡ part_words = grind (arith, nat_tests) in record { is = omega (arith, a); few = omega (arith, a); own = fits }
block_by s b word false e fits = let a = fits.1 in record { is = refl; few = omega (arith, a); own = fits.0 }

pub block_stands : (s : Sizes) (b word : ℕ) → Fits s (block_spot b word) → BlockStandsAt s b word (address s (block_spot b word))
block_stands s b word fits = block_by s b word (word == part_words) refl fits

fifth : (a f slot word at : ℕ) → at ≡ a + (f + 5 * slot + word) → word < 5 → ((at - (a + f)) / 5 ≡ slot) × ((at - (a + f)) % 5 ≡ word)
fifth a f slot word at is few = (grind arith, grind arith)

within : (a d word at : ℕ) → at ≡ a + descriptor_words * d + word → word < descriptor_words → ((at - (a + descriptor_words * 0)) / descriptor_words ≡ d) × ((at - (a + descriptor_words * 0)) % descriptor_words ≡ word)
within a d word at is few = (grind arith, grind arith)

within_block : (a b word at : ℕ) → at ≡ a + block_words * b + word → word < block_words → ((at - (a + block_words * 0)) / block_words ≡ b) × ((at - (a + block_words * 0)) % block_words ≡ word)
within_block a b word at is few = (grind arith, grind arith)

module _ (m : Meaning) (l : Layout) (rs : List Request) where
  abbrev s : Sizes
  s = sizes_for m l rs

  abbrev slots : ℕ
  slots = slot_count l m.fixed_slots

  abbrev blocks : ℕ
  blocks = blocks_from m l

  -- the slot and its word, by where an address lies
  abbrev slot_by : Bool → Bool → ℕ → ℕ
  slot_by b b' at = if b then (at - (cells_at s + m.fixed_cells)) / 5
      else (if b' then slots + (at - descriptor_at s 0) / descriptor_words else blocks + (at - block_at s 0) / block_words)

  abbrev word_by : Bool → Bool → ℕ → ℕ
  word_by b b' at = if b then (at - (cells_at s + m.fixed_cells)) % 5
      else (if b' then (at - descriptor_at s 0) % descriptor_words else (at - block_at s 0) % block_words)

  -- the slot and the word are those that stand at the address
  pub record IsThere (slot word at : ℕ) : Type 0 where
    pub slot_is : slot_at m l rs at ≡ slot
    pub word_is : word_at m l rs at ≡ word

  there_cell : (slot word : ℕ) → word < 5 → Fits s (spots.Cell (cell_of m.fixed_cells slot word)) → IsThere slot word (address s (spots.Cell (cell_of m.fixed_cells slot word)))
  there_cell slot word few fits =
      let at = address s (spots.Cell (cell_of m.fixed_cells slot word)) in
      let inside : nat_lt at (descriptor_at s 0) ≡ true = grind (arith, nat_tests, fits) in
      let f = fifth (cells_at s) m.fixed_cells slot word at refl few in
      record {
        slot_is = ap (λ (b : Bool). slot_by b (nat_lt at (block_at s 0)) at) inside ∙ f.0;
        word_is = ap (λ (b : Bool). word_by b (nat_lt at (block_at s 0)) at) inside ∙ f.1;
      }

  there_word : (slot word : ℕ) → slots ≤ slot → Fits s (descriptor_spot (slot - slots) word) → IsThere slot word (address s (descriptor_spot (slot - slots) word))
  there_word slot word past fits =
      let at = address s (descriptor_spot (slot - slots) word) in
      let st = word_stands s (slot - slots) word fits in let a = st.is in
      let few = st.few in let own = st.own in
      let behind : nat_lt at (descriptor_at s 0) ≡ false = grind (arith, nat_tests, a) in
      let low : at < block_at s 0 = omega (arith, a, few, own) in
      let before : nat_lt at (block_at s 0) ≡ true = grind (arith, nat_tests, low) in
      let f = within (cells_at s + s.cells) (slot - slots) word at a few in
      record {
        slot_is = (λ i. slot_by (behind i) (before i) at) ∙ (ap (λ n. slots + n) f.0 ∙ omega (arith, past));
        word_is = (λ i. word_by (behind i) (before i) at) ∙ f.1;
      }

  there_block : (slot word : ℕ) → blocks ≤ slot → Fits s (block_spot (slot - blocks) word) → IsThere slot word (address s (block_spot (slot - blocks) word))
  there_block slot word past fits =
      let at = address s (block_spot (slot - blocks) word) in
      let st = block_stands s (slot - blocks) word fits in let a = st.is in
      let behind : nat_lt at (descriptor_at s 0) ≡ false = grind (arith, nat_tests, a) in
      let beyond : nat_lt at (block_at s 0) ≡ false = grind (arith, nat_tests, a) in
      let f = within_block (descriptor_at s s.descriptors) (slot - blocks) word at a st.few in
      record {
        slot_is = (λ i. slot_by (behind i) (beyond i) at) ∙ (ap (λ n. blocks + n) f.0 ∙ omega (arith, past));
        word_is = (λ i. word_by (behind i) (beyond i) at) ∙ f.1;
      }

  abbrev pub spot_by : ℕ → ℕ → Bool → Bool → Spot
  spot_by slot word b b' = if b then spots.Cell (cell_of m.fixed_cells slot word) else (if b' then descriptor_spot (slot - slots) word else block_spot (slot - blocks) word)

  there_by : (slot word : ℕ) (b b' : Bool) → nat_lt slot slots ≡ b → nat_lt slot blocks ≡ b' → (slot < slots → word < 5) → Fits s (spot_by slot word b b') → IsThere slot word (address s (spot_by slot word b b'))
  there_by slot word true b' e e' few fits = there_cell slot word (few (grind (arith, nat_tests, e))) fits
  there_by slot word false true e e' few fits = there_word slot word (grind (arith, nat_tests, e)) fits
  there_by slot word false false e e' few fits = there_block slot word (grind (arith, nat_tests, e')) fits

  pub is_there : (slot word : ℕ) → (slot < slots → word < 5) → Fits s (private_spot m l slot word) → IsThere slot word (address s (private_spot m l slot word))
  is_there slot word few fits = there_by slot word (nat_lt slot slots) (nat_lt slot blocks) refl refl few fits

-- what an enabled step on a word of an own slot asks
pub record IsPrivate (m : Meaning) (l : Layout) (slot word : ℕ) (access : Access) (x : Spot × Access) : Type 0 where
  pub met : x ≡ (private_spot m l slot word, access)
  pub cell : IsWithin m l slot word

pub of_cell : (m : Meaning) (l : Layout) (slot word : ℕ) (access : Access) (x : Spot × Access) → nat_lt slot (slot_count l m.fixed_slots) ≡ true → nat_lt word 5 ≡ true
    → (spots.Cell (cell_of m.fixed_cells slot word), access) ≡ x → IsPrivate m l slot word access x
of_cell m l slot word access x e few is = record {
  met = sym is ∙ sym (ap (λ (b : Bool). (spot_by m l [] slot word b (nat_lt slot (blocks_from m l)), access)) e);
  cell = record { cell = λ h. grind (arith, nat_tests, few) };
}

pub of_block : (m : Meaning) (l : Layout) (slot word : ℕ) (access : Access) (x : Spot × Access) → nat_lt slot (slot_count l m.fixed_slots) ≡ false → nat_lt slot (blocks_from m l) ≡ false
    → (block_spot (slot - blocks_from m l) word, access) ≡ x → IsPrivate m l slot word access x
of_block m l slot word access x e e' is = record {
  met = sym is ∙ sym (λ i. (spot_by m l [] slot word (e i) (e' i), access));
  cell = record { cell = λ h. absurd (let no : ⊥ = grind (arith, nat_tests, e, h) in no) };
}

pub of_word : (m : Meaning) (l : Layout) (slot word : ℕ) (access : Access) (x : Spot × Access) → nat_lt slot (slot_count l m.fixed_slots) ≡ false → nat_lt slot (blocks_from m l) ≡ true
    → (descriptor_spot (slot - slot_count l m.fixed_slots) word, access) ≡ x → IsPrivate m l slot word access x
of_word m l slot word access x e e' is = record {
  met = sym is ∙ sym (λ i. (spot_by m l [] slot word (e i) (e' i), access));
  cell = record { cell = λ h. absurd (let no : ⊥ = grind (arith, nat_tests, e, h) in no) };
}

pub not_below : (a b : ℕ) → nat_le a b ≡ true → nat_lt b a ≡ false
not_below a b e = grind (arith, nat_tests)

-- what stands behind the descriptors stands behind the node slots
pub behind_blocks : (m : Meaning) (l : Layout) (slot : ℕ) → nat_lt slot (blocks_from m l) ≡ false → nat_lt slot (slot_count l m.fixed_slots) ≡ false
behind_blocks m l slot e = below_both (slot_count l m.fixed_slots) (descriptor_count l) slot e
  where
    below_both : (a b n : ℕ) → nat_lt n (a + b) ≡ false → nat_lt n a ≡ false
    below_both a b n e = grind (arith, nat_tests)

store_chosen : (m : Meaning) (l : Layout) (slot word number : ℕ) (p : PartState) (x : Spot × Access) (b : Bool) → nat_lt slot (blocks_from m l) ≡ b
    → (if b then when (nat_le (slot_count l m.fixed_slots) slot && (is_resting p.stage p.run && has p.descriptors.free (slot - slot_count l m.fixed_slots))) (descriptor_spot (slot - slot_count l m.fixed_slots) word) (Stores number)
    else when (is_resting p.stage p.run && (has p.blocks.free (slot - blocks_from m l) && number == 0)) (block_spot (slot - blocks_from m l) word) (Stores number)) ≡ Some x
    → IsPrivate m l slot word (Stores number) x
store_chosen m l slot word number p x true is h =
    let slots = slot_count l m.fixed_slots in
    let t = tested (nat_le slots slot && (is_resting p.stage p.run && has p.descriptors.free (slot - slots))) (descriptor_spot (slot - slots) word) (Stores number) x h in
    of_word m l slot word (Stores number) x (not_below slots slot (both_true (nat_le slots slot) _ t.0).0) is t.1
store_chosen m l slot word number p x false is h =
    of_block m l slot word (Stores number) x (behind_blocks m l slot is) is
    (tested (is_resting p.stage p.run && (has p.blocks.free (slot - blocks_from m l) && number == 0)) (block_spot (slot - blocks_from m l) word) (Stores number) x h).1

store_outside : (m : Meaning) (l : Layout) (slot word number : ℕ) (p : PartState) (x : Spot × Access) → private_store_ask m l slot word number p ≡ Some x → IsPrivate m l slot word (Stores number) x
store_outside m l slot word number p x e = store_chosen m l slot word number p x (nat_lt slot (blocks_from m l)) refl e

store_inside : (m : Meaning) (l : Layout) (slot word number : ℕ) (q : RunState) (micro : Micro) (x : Spot × Access) → fill_store_ask m l slot word number q micro ≡ Some x → IsPrivate m l slot word (Stores number) x
store_inside m l slot word number q (micros.PrivateStore cell log value) x e =
    let t = tested (is_cell m l slot word && (is_slot q.made slot && (word == cell && (can_raise l q.word && number == next_word q.word (source_value q.trail value))))) (spots.Cell (cell_of m.fixed_cells slot word)) (Stores number) x e in
    let b = both_true (nat_lt slot (slot_count l m.fixed_slots)) (nat_lt word 5) (both_true (is_cell m l slot word) _ t.0).0 in
    of_cell m l slot word (Stores number) x b.0 b.1 t.1
store_inside m l slot word number q _ x e = absurd (none-some x e)

-- a run stores 0 into the words of the block that it is to link
empty_inside : (m : Meaning) (l : Layout) (slot word number : ℕ) (blocks : List ℕ) (q : RunState) (x : Spot × Access) → block_empty_ask m l slot word number blocks q ≡ Some x
    → IsPrivate m l slot word (Stores number) x × (nat_lt slot (blocks_from m l) ≡ false) × (is_slot (make_slot q.block blocks) (slot - blocks_from m l) ≡ true)
empty_inside m l slot word number blocks q x e =
    let t = tested (nat_le (blocks_from m l) slot && (is_slot (make_slot q.block blocks) (slot - blocks_from m l) && (word == q.emptied && (nat_lt word block_words && number == 0))))
    (block_spot (slot - blocks_from m l) word) (Stores number) x e in
    let two = both_true (nat_le (blocks_from m l) slot) _ t.0 in
    let past = not_below (blocks_from m l) slot two.0 in
    (of_block m l slot word (Stores number) x (behind_blocks m l slot past) past t.1, past, (both_true (is_slot (make_slot q.block blocks) (slot - blocks_from m l)) _ two.1).0)

run_store_by : (m : Meaning) (l : Layout) (slot word number : ℕ) (blocks : List ℕ) (q : RunState) (micro : Micro) (x : Spot × Access) (b : Bool)
    → (if b then block_empty_ask m l slot word number blocks q else fill_store_ask m l slot word number q micro) ≡ Some x → IsPrivate m l slot word (Stores number) x
run_store_by m l slot word number blocks q micro x true e = (empty_inside m l slot word number blocks q x e).0
run_store_by m l slot word number blocks q micro x false e = store_inside m l slot word number q micro x e

pub slot_is : (o : Option ℕ) (slot : ℕ) → is_slot o slot ≡ true → o ≡ Some slot
slot_is None slot e = absurd (true≢false (sym e))
slot_is (Some s) slot e = ap (λ (n : ℕ). Some n) (let same : s ≡ slot = grind (arith, nat_tests, e) in same)

-- a run that has loaded its opening, and whose next step is of this kind
pub record IsOpenFor (m : Meaning) (l : Layout) (k : EventKind) (p : PartState) (x : Spot × Access) : Type 0 where
  pub open_run : HasOpenRun p
  pub asks_so : line_ask m l k p.nodes.free p.blocks.free open_run.run (next_of m open_run.run) ≡ Some x

-- in no run, or in such a one
abbrev pub Stands : Meaning → Layout → EventKind → PartState → Spot × Access → Type 0
Stands m l k p x = (p.run ≡ None) ⊎ IsOpenFor m l k p x

pub open_inside : (m : Meaning) (l : Layout) (k : EventKind) (p : PartState) (q : RunState) (b : Bool) (x : Spot × Access) → opening_ask k q ≡ None → is_open_run q ≡ b
    → (if b then line_ask m l k p.nodes.free p.blocks.free q (next_of m q) else opening_ask k q) ≡ Some x → (is_open_run q ≡ true) × (line_ask m l k p.nodes.free p.blocks.free q (next_of m q) ≡ Some x)
open_inside m l k p q true x none e h = (e, h)
open_inside m l k p q false x none e h = absurd (none-some x (sym none ∙ h))

module _ (m : Meaning) (l : Layout) (rs : List Request) (r : ℕ) (slot word number : ℕ) (p : PartState) (x : Spot × Access) where
  abbrev kind : EventKind
  kind = kinds.PrivateStore slot word number

  store_by : (o : Option RunState) → p.run ≡ o → ask_by m l rs r kind p o ≡ Some x → IsPrivate m l slot word (Stores number) x × Stands m l kind p x
  store_by None run e = (store_outside m l slot word number p x e, inl run)
  store_by (Some q) run e = let h = open_inside m l kind p q (is_open_run q) x refl refl e in
      (run_store_by m l slot word number p.blocks.free q (next_of m q) x (needs_link q (next_of m q)) h.1, inr (record { open_run = record { run = q; there = run; ready = h.0 }; asks_so = h.1 }))

  store_asked : asks m l rs r kind p ≡ Some x → IsPrivate m l slot word (Stores number) x × Stands m l kind p x
  store_asked e = store_by p.run refl (unless_gone (sizes_for m l rs) p.gone (ask_by m l rs r kind p p.run) x e)

-- the own slots of a table have numbers of 32 bits
pub few_own_blocks : (m : Meaning) → Laws m → (l : Layout) → IsWithinLimits l → blocks_from m l + block_count l < 2 ^ 32
few_own_blocks m laws l limits =
    let a = laws.first.few_slots in let b = limits.few_nodes in let c = limits.few_runners in let d = few_descriptors l limits in
    let e = few_blocks l limits in omega (arith, a, b, c, d, e)

-- a block of which a word is stored is one of the table's
pub store_block : (m : Meaning) (l : Layout) (rs : List Request) (r block word number : ℕ) (p : PartState) (x : Spot × Access)
    → asks m l rs r (kinds.PrivateStore (blocks_from m l + block) word number) p ≡ Some x → block < block_count l
store_block m l rs r block word number p x e =
    let slot = blocks_from m l + block in let s = sizes_for m l rs in
    let past : nat_lt slot (blocks_from m l) ≡ false = not_before (blocks_from m l) block in
    let at : slot - blocks_from m l ≡ block = behind (blocks_from m l) block in
    let is : x.0 ≡ block_spot block word =
    ap (λ (y : Spot × Access). y.0) ((store_asked m l rs r slot word number p x e).0).met
    ∙ ((λ i. spot_by m l rs slot word (behind_blocks m l slot past i) (past i)) ∙ ap (λ n. block_spot n word) at) in
    (block_stands s block word (subst (Fits s) is (asked_fits m l rs [] [] (record { runner = r; kind = kinds.PrivateStore slot word number }) p x e))).own
  where
    not_before : (a n : ℕ) → nat_lt (a + n) a ≡ false
    not_before a n = not_less_tested (a + n) a (omega arith)

    behind : (a n : ℕ) → a + n - a ≡ n
    behind a n = omega arith

store_node : (m : Meaning) (l : Layout) (slot word number : ℕ) (q : RunState) (micro : Micro) (x : Spot × Access) → fill_store_ask m l slot word number q micro ≡ Some x → nat_lt slot (slot_count l m.fixed_slots) ≡ true
store_node m l slot word number q (micros.PrivateStore cell log value) x e =
    let t = tested (is_cell m l slot word && (is_slot q.made slot && (word == cell && (can_raise l q.word && number == next_word q.word (source_value q.trail value))))) (spots.Cell (cell_of m.fixed_cells slot word)) (Stores number) x e in
    (both_true (nat_lt slot (slot_count l m.fixed_slots)) (nat_lt word 5) (both_true (is_cell m l slot word) _ t.0).0).0
store_node m l slot word number q _ x e = absurd (none-some x e)

not_past : (slot n : ℕ) → nat_lt slot n ≡ true → n ≤ slot → ⊥
not_past slot n e past = grind (arith, nat_tests, e, past)

both_ways : (b : Bool) → b ≡ true → b ≡ false → ⊥
both_ways b e e' = true≢false (sym e ∙ e')

-- a run stores into a block exactly where a link is due
module _ (m : Meaning) (l : Layout) (slot word number : ℕ) (blocks : List ℕ) (q : RunState) (micro : Micro) (x : Spot × Access) (asked : private_store_in_run_ask m l slot word number blocks q micro ≡ Some x) where
  pub links_behind : nat_lt slot (blocks_from m l) ≡ true → needs_link q micro ≡ false
  links_behind before = by (needs_link q micro) refl asked
    where
      by : (b : Bool) → needs_link q micro ≡ b → (if b then block_empty_ask m l slot word number blocks q else fill_store_ask m l slot word number q micro) ≡ Some x → b ≡ false
      by true e h = absurd (both_ways _ before (empty_inside m l slot word number blocks q x h).1)
      by false e h = refl

  pub fills : needs_link q micro ≡ false → fill_store_ask m l slot word number q micro ≡ Some x
  fills e = sym (ap (λ (b : Bool). if b then block_empty_ask m l slot word number blocks q else fill_store_ask m l slot word number q micro) e) ∙ asked

  pub empties : nat_lt slot (slot_count l m.fixed_slots) ≡ false → (needs_link q micro ≡ true) × (is_slot (make_slot q.block blocks) (slot - blocks_from m l) ≡ true)
  empties past = by (needs_link q micro) refl asked
    where
      by : (b : Bool) → needs_link q micro ≡ b → (if b then block_empty_ask m l slot word number blocks q else fill_store_ask m l slot word number q micro) ≡ Some x
          → (b ≡ true) × (is_slot (make_slot q.block blocks) (slot - blocks_from m l) ≡ true)
      by true e h = (refl, (empty_inside m l slot word number blocks q x h).2)
      by false e h = absurd (both_ways _ (store_node m l slot word number q micro x h) past)

-- in a run no word of a descriptor is stored
not_in_run : (m : Meaning) (l : Layout) (slot word number : ℕ) (p : PartState) (x : Spot × Access) → slot_count l m.fixed_slots ≤ slot → nat_lt slot (blocks_from m l) ≡ true
    → Stands m l (kinds.PrivateStore slot word number) p x → p.run ≡ None
not_in_run m l slot word number p x past before at = ⊎_elim
    (λ (none : p.run ≡ None). none)
    (λ (h : IsOpenFor m l (kinds.PrivateStore slot word number) p x).
    let q = h.open_run.run in let micro = next_of m q in let alone = links_behind m l slot word number p.blocks.free q micro x h.asks_so before in
    absurd (not_past slot (slot_count l m.fixed_slots) (store_node m l slot word number q micro x (fills m l slot word number p.blocks.free q micro x h.asks_so alone)) past)) at

-- the part afterwards doesn't go by what was found
stored_alike : (m : Meaning) (l : Layout) (slot word number : ℕ) (p : PartState) (x : Spot × Access) → Stands m l (kinds.PrivateStore slot word number) p x → (a b : ℕ) → stepped m l (kinds.PrivateStore slot word number) p a ≡ stepped m l (kinds.PrivateStore slot word number) p b
stored_alike m l slot word number p x at a b = ⊎_elim
    (λ (none : p.run ≡ None). ap (λ (o : Option RunState). after_by m l (kinds.PrivateStore slot word number) p o a) none ∙ sym (ap (λ (o : Option RunState). after_by m l (kinds.PrivateStore slot word number) p o b) none))
    (λ (h : IsOpenFor m l (kinds.PrivateStore slot word number) p x). step_is m l (kinds.PrivateStore slot word number) p a h.open_run ∙ sym (step_is m l (kinds.PrivateStore slot word number) p b h.open_run)) at

-- a word of an own slot isn't the epoch
descriptor_unmoved : (thunk done link : Bool) (d word n epoch : ℕ)
    → is_moved (if thunk then spots.ThunkWord d word else (if done then spots.DoneWord d else (if link then spots.LinkWord d else spots.LogWord d (word - 13)))) n epoch ≡ false
descriptor_unmoved true done link d word n epoch = refl
descriptor_unmoved false true link d word n epoch = refl
descriptor_unmoved false false true d word n epoch = refl
descriptor_unmoved false false false d word n epoch = refl

block_unmoved : (link : Bool) (b word n epoch : ℕ) → is_moved (if link then spots.BlockLink b else spots.BlockWord b word) n epoch ≡ false
block_unmoved true b word n epoch = refl
block_unmoved false b word n epoch = refl

own_unmoved : (node descriptor : Bool) (place d b word n epoch : ℕ)
    → is_moved (if node then spots.Cell place else (if descriptor then descriptor_spot d word else block_spot b word)) n epoch ≡ false
own_unmoved true descriptor place d b word n epoch = refl
own_unmoved false true place d b word n epoch = descriptor_unmoved (nat_lt word 12) (word == 12) (word == 13 + part_words) d word n epoch
own_unmoved false false place d b word n epoch = block_unmoved (word == part_words) b word n epoch

-- so what is noted of a store there doesn't go by what was found
noted_alike : (l : Layout) (r slot word number : ℕ) (spot : Spot) (a b : ℕ) (z : RecordsState) → is_moved spot a z.epoch_seen ≡ is_moved spot b z.epoch_seen
    → noted l r (kinds.PrivateStore slot word number) spot (Stores number) a z ≡ noted l r (kinds.PrivateStore slot word number) spot (Stores number) b z
noted_alike l r slot word number spot a b z e = ap (λ (moved : Bool). record z {
  events = counted z.events;
  epoch_seen = epoch_after spot number z.epoch_seen;
  crossed = (moved || z.crossed);
  left = (if r == l.runners then left_more (kinds.PrivateStore slot word number) spot number z.left else z.left);
  only_loads = false;
}) e

-- nor do the blocks
blocks_alike : (m : Meaning) (l : Layout) (slot word number : ℕ) (p : PartState) (run : Option RunState) (a b : ℕ)
    → blocks_after m l (kinds.PrivateStore slot word number) p run a ≡ blocks_after m l (kinds.PrivateStore slot word number) p run b
blocks_alike m l slot word number p None a b = refl
blocks_alike m l slot word number p (Some q) a b = refl

module _ {T : Type 0} (m : Meaning) (t : TableState T) (r : RunnerState T) (own : IsOf t r) (slot word number : ℕ) (enabled : IsEnabled m (kinds.PrivateStore slot word number) r) where
  asked : IsPrivate m r.layout slot word (Stores number) enabled.met × Stands m r.layout (kinds.PrivateStore slot word number) r.part enabled.met
  asked = store_asked m r.layout r.requests r.number slot word number r.part enabled.met enabled.asked

  pub few_cells : IsWithin m t.layout slot word
  few_cells = subst (λ (l : Layout). IsWithin m l slot word) own.layout asked.0.cell

  module _ (spot : Spot) (spot_is : spot ≡ private_spot m t.layout slot word) where
    own_spot : enabled.met ≡ (spot, Stores number)
    own_spot = asked.0.met ∙ (ap (λ (l : Layout). (private_spot m l slot word, Stores number)) own.layout ∙ sym (ap (λ (z : Spot). (z, Stores number)) spot_is))

    fits_there : Fits (sizes_for m t.layout t.requests) (private_spot m t.layout slot word)
    fits_there = subst (λ (z : Spot). Fits (sizes_for m t.layout t.requests) z) (ap (λ (z : Spot × Access). z.0) own_spot ∙ spot_is)
        (subst (λ (z : Sizes). Fits z enabled.met.0) (λ i. sizes_for m (own.layout i) (own.requests i))
        (asked_fits m r.layout r.requests [] [] (record { runner = r.number; kind = kinds.PrivateStore slot word number }) r.part enabled.met enabled.asked))

    abbrev at : ℕ
    at = address (sizes_for m t.layout t.requests) spot

    -- where the word stands, if it is a descriptor's
    pub store_at : (d : ℕ) → private_spot m t.layout slot word ≡ descriptor_spot d word → address_of m t spot ≡ start_of m t d + word
    store_at d there =
        let s' = sizes_for m t.layout t.requests in
        ap (address s') (spot_is ∙ there) ∙ (word_stands s' d word (subst (λ (z : Spot). Fits s' z) there fits_there)).is

    -- the step's name is that of the event
    pub store_name : kinds.PrivateStore (slot_at m r.layout r.requests at) (word_at m r.layout r.requests at) number ≡ kinds.PrivateStore slot word number
    store_name =
        let there = is_there m t.layout t.requests slot word few_cells.cell fits_there in
        let at_is = ap (address (sizes_for m t.layout t.requests)) spot_is in
        (λ i. kinds.PrivateStore (slot_at m (own.layout i) (own.requests i) (at_is i)) (word_at m (own.layout i) (own.requests i) (at_is i)) number)
        ∙ (λ i. kinds.PrivateStore (there.slot_is i) (there.word_is i) number)

    pub store_event : (found : ℕ) (r' : RunnerState T) → Makes m (kinds.PrivateStore (slot_at m r.layout r.requests at) (word_at m r.layout r.requests at) number) found r r' → Makes m (kinds.PrivateStore slot word number) found r r'
    store_event found r' made = subst (λ (k : EventKind). Makes m k found r r') store_name made

    pub store_named : IsNamed m (λ m' l' rs' p' made. kinds.PrivateStore (slot_at m' l' rs' made.word) (word_at m' l' rs' made.word) made.first) r (step_at m t spot number 0 nothing) (spot, Stores number)
    store_named = record { asked = ap (met_by m r) store_name ∙ (enabled.asked ∙ ap Some own_spot); plain = refl }

    stored_here : (a b : ℕ) → stepped m r.layout (kinds.PrivateStore (slot_at m r.layout r.requests at) (word_at m r.layout r.requests at) number) r.part a ≡ stepped m r.layout (kinds.PrivateStore (slot_at m r.layout r.requests at) (word_at m r.layout r.requests at) number) r.part b
    stored_here a b = subst (λ (k : EventKind). stepped m r.layout k r.part a ≡ stepped m r.layout k r.part b) (sym store_name) (stored_alike m r.layout slot word number r.part enabled.met asked.1 a b)

    unmoved : (n epoch : ℕ) → is_moved spot n epoch ≡ false
    unmoved n epoch = ap (λ (z : Spot). is_moved z n epoch) spot_is
        ∙ own_unmoved (nat_lt slot (slot_count t.layout m.fixed_slots)) (nat_lt slot (blocks_from m t.layout)) (cell_of m.fixed_cells slot word)
        (slot - slot_count t.layout m.fixed_slots) (slot - blocks_from m t.layout) word n epoch

    pub store_blind : IsBlind m (kinds.PrivateStore (slot_at m r.layout r.requests at) (word_at m r.layout r.requests at) number) (spot, Stores number) r
    store_blind = record {
      same = λ found other. ap (λ (q : PartState). record q { blocks = (blocks_after m r.layout (kinds.PrivateStore (slot_at m r.layout r.requests at) (word_at m r.layout r.requests at) number) r.part r.part.run found); board = r.part.board; records = noted r.layout r.number (kinds.PrivateStore (slot_at m r.layout r.requests at) (word_at m r.layout r.requests at) number) spot (Stores number) found q.records }) (stored_here found other)
          ∙ (ap (λ (b : BlocksState). record (stepped m r.layout (kinds.PrivateStore (slot_at m r.layout r.requests at) (word_at m r.layout r.requests at) number) r.part other)
          { blocks = b; board = r.part.board; records = noted r.layout r.number (kinds.PrivateStore (slot_at m r.layout r.requests at) (word_at m r.layout r.requests at) number) spot (Stores number) found (stepped m r.layout (kinds.PrivateStore (slot_at m r.layout r.requests at) (word_at m r.layout r.requests at) number) r.part other).records })
          (blocks_alike m r.layout (slot_at m r.layout r.requests at) (word_at m r.layout r.requests at) number r.part r.part.run found other)
          ∙ ap (λ (z : RecordsState). record (stepped m r.layout (kinds.PrivateStore (slot_at m r.layout r.requests at) (word_at m r.layout r.requests at) number) r.part other) { blocks = (blocks_after m r.layout (kinds.PrivateStore (slot_at m r.layout r.requests at) (word_at m r.layout r.requests at) number) r.part r.part.run other); board = r.part.board; records = z })
          (noted_alike r.layout r.number (slot_at m r.layout r.requests at) (word_at m r.layout r.requests at) number spot found other
          (stepped m r.layout (kinds.PrivateStore (slot_at m r.layout r.requests at) (word_at m r.layout r.requests at) number) r.part other).records (unmoved found _ ∙ sym (unmoved other _))));
    }

-- what the code keeps after such a store
module _ {T : Type 0} (mean : T → Meaning) (s : T) (slot word number found own_number : ℕ) (kept : Block) (old_table new_table : TableId) (me me' : Me Thunk (View T)) (live : me.0.structure ≡ Some s)
    (made : Makes (mean s) (kinds.PrivateStore slot word number) found (seen_seat old_table me) (seen_seat new_table me')) (same_slots : me'.1 ≡ me.1) (was : IsKept mean own_number kept me) where
  abbrev m : Meaning
  m = mean s

  abbrev l : Layout
  l = me.0.layout

  abbrev p : PartState
  p = me.0.part

  abbrev k : EventKind
  k = kinds.PrivateStore slot word number

  abbrev kept' : Block
  kept' = block_stored l kept number

  abbrev before : KeepsPart m kept p
  before = was_part mean s k found own_number kept old_table new_table me me' live made same_slots was

  -- outside a run, whatever the block says of the last Make's slot
  store_resting : (worn : Bool) → p.run ≡ None → KeepsPart m (record kept { place = record (kept.place) { worn = worn } }) (private_store_after m l slot word number p)
  store_resting worn none = record {
    lists = was.lists;
    place = record {
      run = λ q e. absurd (none-some q (sym none ∙ e));
      outside = λ e. was.place.outside none;
      in_hand = λ q made e f. absurd (none-some q (sym none ∙ e));
    };
    run = record { ending = λ q e. absurd (none-some q (sym none ∙ e)) };
    epoch = no_epoch m kept.place.epoch p.run (λ q e. none-some q (sym none ∙ e));
  }

  store_running : (h : HasOpenRun p) (x : Spot × Access) → line_ask m l k p.nodes.free p.blocks.free h.run (next_of m h.run) ≡ Some x → KeepsPart m kept' (with_run p (filled m l number h.run))
  store_running h x asks_so =
      let q = h.run in let is = was.place.run q h.there in
      let run : PlacesRun kept'.place q.made (with_run p (filled m l number q)).run = places kept'.place q.made (goes_on m l (record q { worn = q.worn || version_of number == l.version_max }) q.word)
      (record {
        descriptor = is.descriptor;
        some = is.some;
        request = is.request;
        lock = is.lock;
        agreed = is.agreed;
        making = is.making;
        worn = ap (λ (b : Bool). b || version_of number == l.version_max) is.worn;
      }) refl in
      record {
        lists = was.lists;
        place = record {
          run = λ y e. (run y e).0;
          outside = λ none. absurd (none-some _ (sym none));
          in_hand = λ y made e f. was.place.in_hand q made h.there (sym (run y e).1 ∙ f);
        };
        run = record { ending = λ y e ready closed. absurd (goes_inside m l kept p q k x before h.there h.ready refl asks_so closed) };
        epoch = goes_epoch m l p.nodes.free p.blocks.free q k x refl asks_so h.ready kept.place.epoch (goes_on m l (record q { worn = q.worn || version_of number == l.version_max }) q.word) q.trail refl refl;
      }

  -- a store before the blocks
  module _ (before_blocks : nat_lt slot (blocks_from m l) ≡ true) where
    alone : (h : IsOpenFor m l k p made.met) → needs_link h.open_run.run (next_of m h.open_run.run) ≡ false
    alone h = links_behind m l slot word number p.blocks.free h.open_run.run (next_of m h.open_run.run) made.met h.asks_so before_blocks

    filled_after : (h : IsOpenFor m l k p made.met) → line_after m l k p h.open_run.run (next_of m h.open_run.run) found ≡ with_run p (filled m l number h.open_run.run)
    filled_after h = ap (λ (b : Bool). with_run p (if b then block_emptied (slot - blocks_from m l) h.open_run.run else filled m l number h.open_run.run)) (alone h)

    stored_blocks : KeepsBlocks kept.lists me'.0.part
    stored_blocks = subst (KeepsBlocks kept.lists) (sym (part_is mean s k found own_number kept old_table new_table me me' live made same_slots was)) (⊎_elim
        (λ (none : p.run ≡ None). stored_outside m l me.0.number made.met.0 made.met.1 p found kept.lists was.blocks none slot word number)
        (λ (h : IsOpenFor m l k p made.met). stored_inside m l me.0.number made.met.0 made.met.1 p found kept.lists was.blocks h.open_run.run h.open_run.there h.open_run.ready slot word number (alone h))
        (store_asked m l me.0.requests me.0.number slot word number p made.met made.asked).1)

    pub store_kept : IsKept mean own_number kept' me'
    store_kept = then_kept_with mean s k found own_number kept old_table new_table me me' live made same_slots was refl kept' refl refl stored_blocks
        (⊎_elim
        (λ (none : p.run ≡ None). subst (KeepsPart m kept') (sym (ap (λ (o : Option RunState). after_by m l k p o found) none)) (store_resting kept'.place.worn none))
        (λ (h : IsOpenFor m l k p made.met). subst (KeepsPart m kept') (sym (step_is m l k p found h.open_run ∙ filled_after h)) (store_running h.open_run made.met h.asks_so))
        (store_asked m l me.0.requests me.0.number slot word number p made.met made.asked).1)

    -- a descriptor's word is stored outside a run, and the block stays as it was
    pub store_kept_of : slot_count l m.fixed_slots ≤ slot → IsKept mean own_number kept me'
    store_kept_of past =
        let none = not_in_run m l slot word number p made.met past before_blocks (store_asked m l me.0.requests me.0.number slot word number p made.met made.asked).1 in
        then_kept_with mean s k found own_number kept old_table new_table me me' live made same_slots was refl kept refl refl stored_blocks
        (subst (KeepsPart m kept) (sym (ap (λ (o : Option RunState). after_by m l k p o found) none)) (store_resting kept.place.worn none))

  -- a store into a block
  module _ (past : nat_lt slot (blocks_from m l) ≡ false) where
    abbrev block : ℕ
    block = slot - blocks_from m l

    due : (h : IsOpenFor m l k p made.met) → (needs_link h.open_run.run (next_of m h.open_run.run) ≡ true) × (is_slot (make_slot h.open_run.run.block p.blocks.free) block ≡ true)
    due h = empties m l slot word number p.blocks.free h.open_run.run (next_of m h.open_run.run) made.met h.asks_so (behind_blocks m l slot past)

    abbrev emptying : RunState → RunState
    emptying q = block_emptied block q

    -- the block in the hand, or else the last free one
    pub next_block : kept.place.inside ≡ true → make_slot kept.lists.blocks.links.block kept.lists.blocks.lists.free ≡ Some block
    next_block inside = ⊎_elim
        (λ (none : p.run ≡ None). absurd (both_ways _ inside (was.place.outside none)))
        (λ (h : IsOpenFor m l k p made.met).
        (λ i. make_slot ((was.blocks.links.of_run h.open_run.run h.open_run.there).block i) (was.blocks.lists i).free)
        ∙ slot_is (make_slot h.open_run.run.block p.blocks.free) block (due h).1)
        (store_asked m l me.0.requests me.0.number slot word number p made.met made.asked).1

    pub clear_once : Laws m → IsWithinLimits me'.0.layout → AreAllowed me'.0.requests → times block kept.lists.blocks.lists.free ≤ 1
    clear_once laws limits allowed = subst (λ (b : BlocksState). times block b.free ≤ 1) (sym was.blocks.lists)
        (block_once m me'.0.layout me'.0.requests me'.0.number k p me'.0.part made.met found made.shown laws limits allowed block)

    emptied_part : (h : IsOpenFor m l k p made.met) → KeepsPart m kept (with_run p (emptying h.open_run.run))
    emptied_part h =
        let q = h.open_run.run in let is = was.place.run q h.open_run.there in let epoch = before.epoch in
        let run : PlacesRun kept.place q.made (Some (emptying q)) = places kept.place q.made (emptying q)
        (record { descriptor = is.descriptor; some = is.some; request = is.request; lock = is.lock; agreed = is.agreed; making = is.making; worn = is.worn }) refl in
        record {
          lists = was.lists;
          place = record {
            run = λ y e. (run y e).0;
            outside = λ none. absurd (none-some _ (sym none));
            in_hand = λ y made e f. was.place.in_hand q made h.open_run.there (sym (run y e).1 ∙ f);
          };
          run = record { ending = λ y e ready closed. absurd (goes_inside m l kept p q k made.met before h.open_run.there h.open_run.ready refl h.asks_so closed) };
          epoch = record {
            opening = λ y e few. epoch.opening q h.open_run.there (subst (λ (z : RunState). length z.opened < 13) (sym (some_same (emptying q) y e)) few) ∙ ap (λ (z : RunState). z.word) (some_same (emptying q) y e);
            retiring = λ y slot log e at. epoch.retiring q slot log h.open_run.there (ap (λ (z : RunState). micro_at (line_of m z) z.at) (some_same (emptying q) y e) ∙ at) ∙ ap (λ (z : RunState). z.word) (some_same (emptying q) y e);
          };
        }

    emptied_after : (h : IsOpenFor m l k p made.met) → line_after m l k p h.open_run.run (next_of m h.open_run.run) found ≡ with_run p (emptying h.open_run.run)
    emptied_after h = ap (λ (b : Bool). with_run p (if b then emptying h.open_run.run else filled m l number h.open_run.run)) (due h).0

    pub clear_kept : IsKept mean own_number (block_cleared kept block) me'
    clear_kept = by kept.place.inside refl
      where
        there : {b : KeptState} → KeepsBlocks b (after m l me.0.number k made.met.0 made.met.1 p found) → KeepsBlocks b me'.0.part
        there {b} = subst (KeepsBlocks b) (sym (part_is mean s k found own_number kept old_table new_table me me' live made same_slots was))

        by : (b : Bool) → kept.place.inside ≡ b
            → IsKept mean own_number (if b then record kept { lists = with_blocks kept.lists (links.block_emptied kept.lists.blocks block) } else kept) me'
        by true inside = ⊎_elim
            (λ (none : p.run ≡ None). absurd (both_ways _ inside (was.place.outside none)))
            (λ (h : IsOpenFor m l k p made.met).
            let kept'' : Block = record kept { lists = with_blocks kept.lists (links.block_emptied kept.lists.blocks block) } in
            then_kept_with mean s k found own_number kept old_table new_table me me' live made same_slots was refl kept'' refl refl
            (there (emptied m l me.0.number made.met.0 made.met.1 p found kept.lists was.blocks h.open_run.run h.open_run.there h.open_run.ready slot word number block (due h).0 refl))
            (let part = emptied_part h in subst (KeepsPart m kept'') (sym (step_is m l k p found h.open_run ∙ emptied_after h))
            (record { lists = part.lists; place = part.place; run = part.run; epoch = part.epoch })))
            (store_asked m l me.0.requests me.0.number slot word number p made.met made.asked).1
        by false outside = ⊎_elim
            (λ (none : p.run ≡ None). then_kept_with mean s k found own_number kept old_table new_table me me' live made same_slots was refl kept refl refl
            (there (stored_outside m l me.0.number made.met.0 made.met.1 p found kept.lists was.blocks none slot word number))
            (subst (KeepsPart m kept) (sym (ap (λ (o : Option RunState). after_by m l k p o found) none)) (store_resting kept.place.worn none)))
            (λ (h : IsOpenFor m l k p made.met). absurd (goes_inside m l kept p h.open_run.run k made.met before h.open_run.there h.open_run.ready refl h.asks_so outside))
            (store_asked m l me.0.requests me.0.number slot word number p made.met made.asked).1
