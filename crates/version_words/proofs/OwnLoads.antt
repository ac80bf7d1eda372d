-- Private loads.
use Rattle.std.proofs.Common.{◌≡◌, ℕ, zero, suc, [], ◌+◌, ◌-◌, ◌<◌, ◌≤◌, inl, inr, ⊎_elim, List, ◌∷◌, ◌++◌, length, Bool, true, false, refl, sym, ap, subst, ◌∙◌, arith, Option, Some, None, if◌then◌else◌}
use Rattle.std.specs.Prelude.{◌==◌, ◌&&◌, ◌||◌, nat_lt, slice_index, ◌-◌}
use Rattle.std.specs.Option.{is_some}
use Rattle.std.proofs.lemmas.Bool.Decides.{nat_tests}
use Rattle.std.proofs.lemmas.Option.{none-some}
use Rattle.std.proofs.lemmas.Bool.{true≢false}
use Rattle.machine_states.specs.epoch_core.specs.small_lemmas.proofs.Numbers.{not_less_tested as not_node}
use Rattle.atomic_table.specs.Table.{Me}
use Rattle.atomic_table.specs.Seated.{TableId}
use Rattle.machine_states.specs.map_history.specs.declared.op.Request.{Request}
use Rattle.machine_states.specs.epoch_core.specs.small_lemmas.proofs.Numbers.{less_tested}
use Rattle.machine_states.specs.body_terms.specs.declared.thunk.Thunk.{Thunk}
use Rattle.machine_states.specs.body_terms.specs.declared.micro.Micro.{Micro}
use Rattle.machine_states.specs.body_terms.specs.declared.micro.Micro.TheVariants as micros
use Rattle.machine_states.specs.body_terms.specs.Memory.{cell_of}
use Rattle.machine_states.specs.table_words.specs.declared.layout.Layout.{Layout}
use Rattle.machine_states.specs.table_words.specs.declared.sizes.Sizes.{Sizes}
use Rattle.machine_states.specs.table_words.specs.declared.spot.Spot.{Spot}
use Rattle.machine_states.specs.table_words.specs.declared.spot.Spot.TheVariants as spots
use Rattle.machine_states.specs.table_words.specs.declared.access.Access.{Access}
use Rattle.machine_states.specs.table_words.specs.declared.access.Access.TheVariants.{Loads}
use Rattle.machine_states.specs.table_words.specs.Places.{address, Fits, slot_count, descriptor_count}
use Rattle.machine_states.specs.table_words.specs.Limits.{IsWithinLimits}
use Rattle.machine_states.specs.structure_laws.specs.Meaning.{Meaning}
use Rattle.machine_states.specs.structure_laws.specs.Laws.{Laws}
use Rattle.machine_states.specs.runner_parts.specs.declared.event.EventKind.{EventKind}
use Rattle.machine_states.specs.runner_parts.specs.declared.event.EventKind.TheVariants as kinds
use Rattle.machine_states.specs.runner_parts.specs.State.{RunState, PartState}
use Rattle.machine_states.specs.runner_parts.specs.Tests.{has, is_resting}
use Rattle.machine_states.specs.epoch_core.specs.Lists.{times}
use Rattle.machine_states.specs.runner_parts.specs.Lists.{slot_taken, nodes_looked}
use Rattle.machine_states.specs.runner_steps.specs.Sections.{is_open_run, next_of}
use Rattle.machine_states.specs.runner_steps.specs.Outside.{when, descriptor_spot, block_spot, blocks_from}
use Rattle.machine_states.specs.runner_steps.specs.InRun.{is_cell, is_slot, make_slot, fill_load_ask}
use Rattle.machine_states.specs.runner_steps.specs.Asks.{asks, sizes_for}
use Rattle.machine_states.specs.runner_steps.specs.AfterInRun.{goes_on, fill_loaded}
use Rattle.machine_states.specs.runner_steps.specs.AfterOutside.{descriptor_known, private_load_after}
use Rattle.machine_states.specs.runner_steps.specs.After.{after_by, stepped}
use Rattle.machine_states.proofs.Steps.{some_same, asked_fits}
use Rattle.machine_invariant.specs.After.{AreAllowed}
use Rattle.machine_states.specs.runner_steps.specs.Outside.{private_load_ask}
use Rattle.machine_states.specs.runner_steps.specs.Asks.{ask_by, line_ask}
use Rattle.version_words.specs.declared.view.View.{View}
use Rattle.runner_block.specs.declared.place.RunPlace.{RunPlace}
use Rattle.runner_block.specs.declared.block.Block.{Block}
use Rattle.runner_block.specs.Kept.{KeptState}
use Rattle.version_words.specs.RunnerState.{RunnerState, told_part}
use Rattle.version_words.specs.TableState.{TableState, IsOf}
use Rattle.version_words.specs.Private.{IsWithin, private_spot, slot_at, word_at}
use Rattle.version_words.specs.Place.{IsPlaced, HasEpoch}
use Rattle.runner_block.specs.Blocks.{block_looked, block_filling, block_found}
use Rattle.version_words.specs.Kept.{IsKept}
use Rattle.runner_block.specs.Looks.{MayTake}
use Rattle.version_words.specs.Events.{met_by, IsEnabled, IsNamed, Makes, step_at, address_of, start_of, nothing, seen_seat}
use Rattle.version_words.proofs.Asked.{unless_gone, tested}
use Rattle.version_words.proofs.Bounds.{node_once}
use Rattle.version_words.proofs.Keeps.{KeepsPart, beside, no_epoch, was_part, then_kept}
use Rattle.version_words.proofs.Epochs.{goes_epoch}
use Rattle.version_words.proofs.Inside.{is_ender, HasOpenRun, PlacesRun, both_true, goes_inside, places, same_place, step_is}
use Rattle.version_words.proofs.Privates.{IsPrivate, IsOpenFor, Stands, spot_by, of_cell, of_word, of_block, is_there, open_inside, word_stands}

not_past : (slot n : ℕ) → nat_lt slot n ≡ true → n ≤ slot → ⊥
not_past slot n e past = grind (arith, nat_tests, e, past)

-- a descriptor's word, by the number that it has among all slots
pub before_blocks : (m : Meaning) (l : Layout) (d : ℕ) → d < descriptor_count l → nat_lt (slot_count l m.fixed_slots + d) (blocks_from m l) ≡ true
before_blocks m l d few = less_tested (slot_count l m.fixed_slots + d) (blocks_from m l) (omega (arith, few))

pub descriptor_there : (m : Meaning) (l : Layout) (d word : ℕ) → d < descriptor_count l → private_spot m l (slot_count l m.fixed_slots + d) word ≡ descriptor_spot d word
descriptor_there m l d word few =
    let slots = slot_count l m.fixed_slots in
    let beyond = not_node (slots + d) slots (omega arith) in
    let before = before_blocks m l d few in
    let own : slots + d - slots ≡ d = omega arith in
    (λ i. spot_by m l [] (slots + d) word (beyond i) (before i)) ∙ ap (λ n. descriptor_spot n word) own

-- a private load outside a run
load_chosen : (m : Meaning) (l : Layout) (slot word : ℕ) (p : PartState) (x : Spot × Access) (b b' : Bool) → nat_lt slot (slot_count l m.fixed_slots) ≡ b → nat_lt slot (blocks_from m l) ≡ b'
    → (if b then when (is_resting p.stage p.run && (nat_lt word 5 && (has p.nodes.free slot || has p.nodes.hand slot))) (spots.Cell (cell_of m.fixed_cells slot word)) Loads
    else (if b' then when (is_resting p.stage p.run && has p.descriptors.free (slot - slot_count l m.fixed_slots)) (descriptor_spot (slot - slot_count l m.fixed_slots) word) Loads
    else when (is_resting p.stage p.run && has p.blocks.free (slot - blocks_from m l)) (block_spot (slot - blocks_from m l) word) Loads)) ≡ Some x
    → IsPrivate m l slot word Loads x
load_chosen m l slot word p x true b' e e' h =
    let t = tested (is_resting p.stage p.run && (nat_lt word 5 && (has p.nodes.free slot || has p.nodes.hand slot))) (spots.Cell (cell_of m.fixed_cells slot word)) Loads x h in
    of_cell m l slot word Loads x e (both_true (nat_lt word 5) _ (both_true (is_resting p.stage p.run) _ t.0).1).0 t.1
load_chosen m l slot word p x false true e e' h =
    let t = tested (is_resting p.stage p.run && has p.descriptors.free (slot - slot_count l m.fixed_slots)) (descriptor_spot (slot - slot_count l m.fixed_slots) word) Loads x h in
    of_word m l slot word Loads x e e' t.1
load_chosen m l slot word p x false false e e' h =
    of_block m l slot word Loads x e e' (tested (is_resting p.stage p.run && has p.blocks.free (slot - blocks_from m l)) (block_spot (slot - blocks_from m l) word) Loads x h).1

load_outside : (m : Meaning) (l : Layout) (slot word : ℕ) (p : PartState) (x : Spot × Access) → private_load_ask m l slot word p ≡ Some x → IsPrivate m l slot word Loads x
load_outside m l slot word p x e = load_chosen m l slot word p x (nat_lt slot (slot_count l m.fixed_slots)) (nat_lt slot (blocks_from m l)) refl refl e

load_inside : (m : Meaning) (l : Layout) (slot word : ℕ) (free : List ℕ) (q : RunState) (micro : Micro) (x : Spot × Access) → fill_load_ask m l slot word free q micro ≡ Some x
    → IsPrivate m l slot word Loads x × (is_slot (make_slot q.made free) slot ≡ true) × (nat_lt slot (slot_count l m.fixed_slots) ≡ true)
load_inside m l slot word free q (micros.PrivateLoad cell log) x e =
    let t = tested (is_cell m l slot word && (is_slot (make_slot q.made free) slot && word == cell)) (spots.Cell (cell_of m.fixed_cells slot word)) Loads x e in
    let two = both_true (is_cell m l slot word) (is_slot (make_slot q.made free) slot && word == cell) t.0 in
    let b = both_true (nat_lt slot (slot_count l m.fixed_slots)) (nat_lt word 5) two.0 in
    (of_cell m l slot word Loads x b.0 b.1 t.1, (both_true (is_slot (make_slot q.made free) slot) (word == cell) two.1).0, b.0)
load_inside m l slot word free q _ x e = absurd (none-some x e)

module _ (m : Meaning) (l : Layout) (rs : List Request) (r : ℕ) (slot word : ℕ) (p : PartState) (x : Spot × Access) where
  load_by : (o : Option RunState) → p.run ≡ o → ask_by m l rs r (kinds.PrivateLoad slot word) p o ≡ Some x → IsPrivate m l slot word Loads x × Stands m l (kinds.PrivateLoad slot word) p x
  load_by None run e = (load_outside m l slot word p x e, inl run)
  load_by (Some q) run e = let h = open_inside m l (kinds.PrivateLoad slot word) p q (is_open_run q) x refl refl e in
      ((load_inside m l slot word p.nodes.free q (next_of m q) x h.1).0, inr (record { open_run = record { run = q; there = run; ready = h.0 }; asks_so = h.1 }))

  load_asked : asks m l rs r (kinds.PrivateLoad slot word) p ≡ Some x → IsPrivate m l slot word Loads x × Stands m l (kinds.PrivateLoad slot word) p x
  load_asked e = load_by p.run refl (unless_gone (sizes_for m l rs) p.gone (ask_by m l rs r (kinds.PrivateLoad slot word) p p.run) x e)

module _ {T : Type 0} (m : Meaning) (t : TableState T) (r : RunnerState T) (own : IsOf t r) (slot word : ℕ) (enabled : IsEnabled m (kinds.PrivateLoad slot word) r) where
  asked : IsPrivate m r.layout slot word Loads enabled.met × Stands m r.layout (kinds.PrivateLoad slot word) r.part enabled.met
  asked = load_asked m r.layout r.requests r.number slot word r.part enabled.met enabled.asked

  pub load_within : IsWithin m t.layout slot word
  load_within = subst (λ (l : Layout). IsWithin m l slot word) own.layout asked.0.cell

  module _ (spot : Spot) (spot_is : spot ≡ private_spot m t.layout slot word) where
    own_spot : enabled.met ≡ (spot, Loads)
    own_spot = asked.0.met ∙ (ap (λ (l : Layout). (private_spot m l slot word, Loads)) own.layout ∙ sym (ap (λ (z : Spot). (z, Loads)) spot_is))

    fits_there : Fits (sizes_for m t.layout t.requests) (private_spot m t.layout slot word)
    fits_there = subst (λ (z : Spot). Fits (sizes_for m t.layout t.requests) z) (ap (λ (z : Spot × Access). z.0) own_spot ∙ spot_is)
        (subst (λ (z : Sizes). Fits z enabled.met.0) (λ i. sizes_for m (own.layout i) (own.requests i))
        (asked_fits m r.layout r.requests [] [] (record { runner = r.number; kind = kinds.PrivateLoad slot word }) r.part enabled.met enabled.asked))

    abbrev at : ℕ
    at = address (sizes_for m t.layout t.requests) spot

    -- where the word stands, if it is a descriptor's
    pub load_at : (d : ℕ) → private_spot m t.layout slot word ≡ descriptor_spot d word → address_of m t spot ≡ start_of m t d + word
    load_at d there =
        let s' = sizes_for m t.layout t.requests in
        ap (address s') (spot_is ∙ there) ∙ (word_stands s' d word (subst (λ (z : Spot). Fits s' z) there fits_there)).is

    -- the step's name is that of the event
    pub load_name : kinds.PrivateLoad (slot_at m r.layout r.requests at) (word_at m r.layout r.requests at) ≡ kinds.PrivateLoad slot word
    load_name =
        let there = is_there m t.layout t.requests slot word load_within.cell fits_there in
        let at_is = ap (address (sizes_for m t.layout t.requests)) spot_is in
        (λ i. kinds.PrivateLoad (slot_at m (own.layout i) (own.requests i) (at_is i)) (word_at m (own.layout i) (own.requests i) (at_is i)))
        ∙ (λ i. kinds.PrivateLoad (there.slot_is i) (there.word_is i))

    pub load_event : (found : ℕ) (r' : RunnerState T) → Makes m (kinds.PrivateLoad (slot_at m r.layout r.requests at) (word_at m r.layout r.requests at)) found r r' → Makes m (kinds.PrivateLoad slot word) found r r'
    load_event found r' made = subst (λ (k : EventKind). Makes m k found r r') load_name made

    pub load_named : IsNamed m (λ m' l' rs' p' made. kinds.PrivateLoad (slot_at m' l' rs' made.word) (word_at m' l' rs' made.word)) r (step_at m t spot 0 0 nothing) (spot, Loads)
    load_named = record { asked = ap (met_by m r) load_name ∙ (enabled.asked ∙ ap Some own_spot); plain = refl }

-- the last of a list is in it
last_in : (xs : List ℕ) (i slot : ℕ) → i < length xs → slice_index xs i ≡ slot → has xs slot ≡ true
last_in [] i slot low is = absurd (omega arith)
last_in (x ∷ xs) zero slot low is = ap (λ (b : Bool). b || has xs slot) (let same : x == slot ≡ true = grind (arith, nat_tests, is) in same)
last_in (x ∷ xs) (suc i) slot low is = let rest = last_in xs i slot (omega arith) is in grind (arith, nat_tests, rest)

last_free : (xs : List ℕ) (slot : ℕ) (b : Bool) → length xs == 0 ≡ b → is_slot (if b then None else Some (slice_index xs (length xs - 1))) slot ≡ true → has xs slot ≡ true
last_free xs slot true e h = absurd (true≢false (sym h))
last_free xs slot false e h = last_in xs (length xs - 1) slot (grind (arith, nat_tests, e)) (let same : slice_index xs (length xs - 1) ≡ slot = grind (arith, nat_tests, h) in same)

has_pushed : (xs : List ℕ) (slot : ℕ) → has (xs ++ slot ∷ []) slot ≡ true
has_pushed [] slot = ap (λ (b : Bool). b || false) (let same : slot == slot ≡ true = grind (arith, nat_tests) in same)
has_pushed (x ∷ xs) slot = let rest = has_pushed xs slot in grind (arith, nat_tests, rest)

-- a Make without a slot takes a free one
taken_free : (o : Option ℕ) (free : List ℕ) (slot : ℕ) → is_some o ≡ false → is_slot (make_slot o free) slot ≡ true → has free slot ≡ true
taken_free None free slot e h = last_free free slot (length free == 0) refl h
taken_free (Some s) free slot e h = absurd (true≢false e)

-- a run whose next step leaves all but its number to go by
pub goes_on_part : (m : Meaning) (l : Layout) (k : EventKind) (kept : Block) (epoch : ℕ) (p : PartState) (h : HasOpenRun p) (x : Spot × Access) (found : ℕ) → KeepsPart m kept p → is_ender k ≡ false
    → line_ask m l k p.nodes.free p.blocks.free h.run (next_of m h.run) ≡ Some x → HasEpoch m epoch (Some (goes_on m l h.run found))
    → KeepsPart m (record kept { place = record (kept.place) { epoch = epoch } }) (record p { run = Some (goes_on m l h.run found) })
goes_on_part m l k kept epoch p h x found was n asked has_epoch =
    let q = h.run in let is = was.place.run q h.there in
    let place' : RunPlace = record (kept.place) { epoch = epoch } in
    let is' : IsPlaced place' q = record { descriptor = is.descriptor; some = is.some; request = is.request; lock = is.lock; agreed = is.agreed; making = is.making; worn = is.worn } in
    let run : PlacesRun place' q.made (Some (goes_on m l q found)) = places place' q.made (goes_on m l q found) (same_place place' q (goes_on m l q found) refl refl refl refl refl is') refl in
    record {
      lists = was.lists;
      place = record {
        run = λ y e. (run y e).0;
        outside = λ none. absurd (none-some (goes_on m l q found) (sym none));
        in_hand = λ y slot e made. was.place.in_hand q slot h.there (sym (run y e).1 ∙ made);
      };
      run = record { ending = λ y e ready closed. absurd (goes_inside m l kept p q k x was h.there h.ready n asked closed) };
      epoch = has_epoch;
    }

module _ (m : Meaning) (l : Layout) (slot word found : ℕ) (kept : Block) (p : PartState) (x : Spot × Access) (was : KeepsPart m kept p) where
  abbrev k : EventKind
  k = kinds.PrivateLoad slot word

  pub may_take : kept.lists.room ≡ slot_count l m.fixed_slots → Stands m l k p x → times slot p.nodes.free ≤ 1 → MayTake kept slot
  may_take room at once = record {
    free = λ inside unmade. ⊎_elim
        (λ (none : p.run ≡ None). absurd (true≢false (sym inside ∙ was.place.outside none)))
        (λ (h : IsOpenFor m l k p x).
        let q = h.open_run.run in
        ap (λ (y : PartState). has y.nodes.free slot) was.lists
        ∙ taken_free q.made p.nodes.free slot (sym (was.place.run q h.open_run.there).making ∙ unmade) (load_inside m l slot word p.nodes.free q (next_of m q) x h.asks_so).1) at;
    once = λ inside unmade. subst (λ (y : PartState). times slot y.nodes.free ≤ 1) (sym was.lists) once;
    outside = λ past. ⊎_elim
        (λ (none : p.run ≡ None). was.place.outside none)
        (λ (h : IsOpenFor m l k p x).
        let q = h.open_run.run in let node = (load_inside m l slot word p.nodes.free q (next_of m q) x h.asks_so).2 in
        absurd (not_past slot (slot_count l m.fixed_slots) node (subst (λ (n : ℕ). n ≤ slot) room past))) at;
  }

  -- outside a run
  looked_part : kept.lists.room ≡ slot_count l m.fixed_slots → p.run ≡ None → KeepsPart m (block_looked l kept slot word found) (private_load_after m l slot word p found)
  looked_part room none =
      subst (λ (b : Bool). KeepsPart m (if b then block_filling kept slot kept.place.making else block_found l kept slot word found (nat_lt slot kept.lists.room)) (private_load_after m l slot word p found)) (sym (was.place.outside none))
      (subst (λ (n : ℕ). KeepsPart m (block_found l kept slot word found (nat_lt slot n)) (private_load_after m l slot word p found)) (sym room) (by (nat_lt slot (slot_count l m.fixed_slots))))
    where
      in_place : (p' : PartState) → p'.run ≡ p.run → (kept' : KeptState) → kept'.part ≡ told_part p' → KeepsPart m (record kept { lists = kept' }) p'
      in_place p' same kept' told = record {
        lists = told;
        place = record {
          run = λ q e. absurd (none-some q (sym (same ∙ none) ∙ e));
          outside = λ e. was.place.outside none;
          in_hand = λ q s e f. absurd (none-some q (sym (same ∙ none) ∙ e));
        };
        run = record { ending = λ q e. absurd (none-some q (sym (same ∙ none) ∙ e)) };
        epoch = no_epoch m kept.place.epoch p'.run (λ q e. none-some q (sym (same ∙ none) ∙ e));
      }

      by : (b : Bool) → KeepsPart m (block_found l kept slot word found b)
          (if b then record p { nodes = nodes_looked l p.nodes slot word found } else descriptor_known m l slot word p found)
      by true = in_place (record p { nodes = nodes_looked l p.nodes slot word found }) refl _ (ap (λ (y : PartState). record y { nodes = nodes_looked l y.nodes slot word found }) was.lists)
      by false = in_place (descriptor_known m l slot word p found) refl kept.lists was.lists

  module _ (h : IsOpenFor m l k p x) where
    abbrev q : RunState
    q = h.open_run.run

    abbrev placed : IsPlaced kept.place q
    placed = was.place.run q h.open_run.there

    -- the first load of a Make
    taking_part : q.made ≡ None → KeepsPart m (block_filling kept slot false) (fill_loaded m l slot p q None found)
    taking_part unmade =
        let q' : RunState = goes_on m l (record q { made = Some slot; worn = false }) found in
        let kept' : Block = block_filling kept slot false in
        let run : PlacesRun kept'.place (Some slot) (Some q') = places kept'.place (Some slot) q' (record { descriptor = placed.descriptor; some = placed.some; request = placed.request; lock = placed.lock; agreed = placed.agreed; making = refl; worn = refl }) refl in
        record {
          lists = ap (λ (y : PartState). record y { nodes = slot_taken y.nodes slot }) was.lists;
          place = record {
            run = λ y e. (run y e).0;
            outside = λ none. absurd (none-some q' (sym none));
            in_hand = λ y s e made. subst (λ (n : ℕ). has (p.nodes.hand ++ slot ∷ []) n ≡ true) (some_same slot s (sym (run y e).1 ∙ made)) (has_pushed p.nodes.hand slot);
          };
          run = record { ending = λ y e ready closed. absurd (goes_inside m l kept p q k x was h.open_run.there h.open_run.ready refl h.asks_so closed) };
          epoch = goes_epoch m l p.nodes.free p.blocks.free q k x refl h.asks_so h.open_run.ready kept.place.epoch q' q.trail refl refl;
        }

    filling_part : (o : Option ℕ) (b : Bool) → q.made ≡ o → kept.place.making ≡ b → KeepsPart m (block_filling kept slot b) (fill_loaded m l slot p q o found)
    filling_part None false made e = taking_part made
    filling_part None true made e = absurd (true≢false (sym e ∙ (placed.making ∙ ap is_some made)))
    filling_part (Some s) false made e = absurd (true≢false (sym (sym e ∙ (placed.making ∙ ap is_some made))))
    filling_part (Some s) true made e = goes_on_part m l k kept kept.place.epoch p h.open_run x found was refl h.asks_so
        (goes_epoch m l p.nodes.free p.blocks.free q k x refl h.asks_so h.open_run.ready kept.place.epoch (goes_on m l q found) q.trail refl refl)

    in_run_by : (b : Bool) → kept.place.inside ≡ b
        → KeepsPart m (if b then block_filling kept slot kept.place.making else block_found l kept slot word found (nat_lt slot kept.lists.room)) (fill_loaded m l slot p q q.made found)
    in_run_by true e = filling_part q.made kept.place.making refl refl
    in_run_by false e = absurd (goes_inside m l kept p q k x was h.open_run.there h.open_run.ready refl h.asks_so e)

  -- the block after the load is that of the part
  pub load_part : kept.lists.room ≡ slot_count l m.fixed_slots → Stands m l k p x → KeepsPart m (block_looked l kept slot word found) (stepped m l k p found)
  load_part room at = ⊎_elim
      (λ (none : p.run ≡ None). subst (KeepsPart m (block_looked l kept slot word found)) (sym (ap (λ (o : Option RunState). after_by m l k p o found) none)) (looked_part room none))
      (λ (h : IsOpenFor m l k p x). subst (KeepsPart m (block_looked l kept slot word found)) (sym (step_is m l k p found h.open_run)) (in_run_by h kept.place.inside refl)) at

module _ {T : Type 0} (mean : T → Meaning) (s : T) (slot word found number : ℕ) (kept : Block) (old_table new_table : TableId) (me me' : Me Thunk (View T)) (live : me.0.structure ≡ Some s)
    (made : Makes (mean s) (kinds.PrivateLoad slot word) found (seen_seat old_table me) (seen_seat new_table me')) (slots : me'.1 ≡ me.1) (was : IsKept mean number kept me) where
  abbrev stands : Stands (mean s) me.0.layout (kinds.PrivateLoad slot word) me.0.part made.met
  stands = (load_asked (mean s) me.0.layout me.0.requests me.0.number slot word me.0.part made.met made.asked).1

  abbrev before : KeepsPart (mean s) kept me.0.part
  before = was_part mean s (kinds.PrivateLoad slot word) found number kept old_table new_table me me' live made slots was

  pub takes_free : Laws (mean s) → IsWithinLimits me'.0.layout → AreAllowed me'.0.requests → MayTake kept slot
  takes_free laws limits allowed = may_take (mean s) me.0.layout slot word found kept me.0.part made.met before (was.of_table s live).room stands
      (node_once (mean s) me'.0.layout me'.0.requests me'.0.number (kinds.PrivateLoad slot word) me.0.part me'.0.part made.met found made.shown laws limits allowed slot)

  same_room : (b b' b'' : Bool) → beside (if b then block_filling kept slot b' else block_found me.0.layout kept slot word found b'').lists ≡ beside kept.lists
  same_room true true b'' = refl
  same_room true false b'' = refl
  same_room false b' true = refl
  same_room false b' false = refl

  pub load_kept : IsKept mean number (block_looked me.0.layout kept slot word found) me'
  load_kept = then_kept mean s (kinds.PrivateLoad slot word) found number kept old_table new_table me me' live made slots was refl (block_looked me.0.layout kept slot word found) (same_room kept.place.inside kept.place.making (nat_lt slot kept.lists.room))
      (load_part (mean s) me.0.layout slot word found kept me.0.part made.met before (was.of_table s live).room stands)

  -- a descriptor's word is loaded outside a run
  no_run : slot_count me.0.layout (mean s).fixed_slots ≤ slot → me.0.part.run ≡ None
  no_run past = ⊎_elim
      (λ (none : me.0.part.run ≡ None). none)
      (λ (h : IsOpenFor (mean s) me.0.layout (kinds.PrivateLoad slot word) me.0.part made.met).
      let q = h.open_run.run in let node = (load_inside (mean s) me.0.layout slot word me.0.part.nodes.free q (next_of (mean s) q) made.met h.asks_so).2 in
      absurd (not_past slot (slot_count me.0.layout (mean s).fixed_slots) node past)) stands

  -- and the block stays as it was
  pub load_kept_of : slot_count me.0.layout (mean s).fixed_slots ≤ slot → IsKept mean number kept me'
  load_kept_of past =
      let outside : kept.place.inside ≡ false = before.place.outside (no_run past) in
      let beyond : nat_lt slot kept.lists.room ≡ false = subst (λ (n : ℕ). nat_lt slot n ≡ false) (sym (was.of_table s live).room) (not_node slot (slot_count me.0.layout (mean s).fixed_slots) past) in
      let same : block_looked me.0.layout kept slot word found ≡ kept = (λ i. if outside i then block_filling kept slot kept.place.making else block_found me.0.layout kept slot word found (beyond i)) in
      subst (λ (b : Block). IsKept mean number b me') same load_kept
