-- A runner's code keeps the place of a run that is being opened.
use Rattle.std.proofs.Common.{◌≡◌, ℕ, ◌+◌, ◌<◌, ◌≤◌, List, [], ◌∷◌, ◌++◌, length, Bool, true, false, refl, sym, ap, subst, ◌∙◌, arith, Option, Some, None, if◌then◌else◌, length-append, ne_eqb, suc, ◌-◌, ◌/◌}
use Rattle.std.specs.Prelude.{◌%◌, ◌^◌, ◌==◌, nat_lt, slice_index}
use Rattle.std.proofs.lemmas.Bool.Decides.{nat_tests}
use Rattle.std.proofs.lemmas.Option.{none-some}
use Rattle.std.proofs.lemmas.Bool.{true≢false}
use Rattle.atomic_table.specs.Table.{Me}
use Rattle.atomic_table.specs.Seated.{TableId}
use Rattle.machine_states.specs.body_terms.specs.declared.thunk.Thunk.{Thunk}
use Rattle.machine_states.specs.table_words.specs.declared.layout.Layout.{Layout}
use Rattle.machine_states.specs.table_words.specs.declared.spot.Spot.{Spot}
use Rattle.machine_states.specs.table_words.specs.declared.spot.Spot.TheVariants as spots
use Rattle.machine_states.specs.table_words.specs.declared.access.Access.{Access}
use Rattle.machine_states.specs.table_words.specs.declared.access.Access.TheVariants.{Loads}
use Rattle.machine_states.specs.table_words.specs.declared.sizes.Sizes.{Sizes}
use Rattle.machine_states.specs.table_words.specs.Access.{written}
use Rattle.machine_states.specs.table_words.specs.Limits.{IsWithinLimits}
use Rattle.machine_states.specs.table_words.specs.Places.{address, descriptor_at, descriptor_words}
use Rattle.machine_states.specs.structure_laws.specs.Meaning.{Meaning}
use Rattle.machine_states.specs.structure_laws.specs.Laws.{Laws}
use Rattle.machine_states.specs.runner_parts.specs.declared.event.EventKind.TheVariants as kinds
use Rattle.machine_states.specs.runner_parts.specs.State.{RunState, PartState}
use Rattle.machine_states.specs.runner_steps.specs.Sections.{is_open_run, next_of}
use Rattle.machine_states.specs.runner_steps.specs.InRun.{open_more_ask, load_done_ask}
use Rattle.machine_states.specs.runner_parts.specs.Tests.{has}
use Rattle.machine_states.specs.runner_steps.specs.Asks.{sizes_for}
use Rattle.machine_states.specs.runner_steps.specs.AfterOutside.{opened}
use Rattle.machine_states.specs.runner_steps.specs.AfterInRun.{opened_more}
use Rattle.machine_states.specs.runner_steps.specs.After.{line_after, after_by}
use Rattle.machine_invariant.specs.After.{AreAllowed}
use Rattle.machine_states.specs.runner_steps.specs.Asks.{ask_by, line_ask}
use Rattle.version_words.specs.declared.view.View.{View}
use Rattle.version_words.specs.ReachedWith.{ReachedWith}
use Rattle.runner_block.specs.declared.place.RunPlace.{RunPlace}
use Rattle.runner_block.specs.declared.block.Block.{Block}
use Rattle.version_words.specs.Naming.{open_of}
use Rattle.runner_block.specs.Kept.{KeptState}
use Rattle.version_words.specs.RunnerState.{RunnerState, told_part}
use Rattle.runner_block.specs.Places.{begun_place, opened_place}
use Rattle.version_words.specs.Place.{IsPlaced, HasEpoch, opened_of}
use Rattle.version_words.specs.Kept.{IsKept}
use Rattle.version_words.specs.Events.{met_by, Makes, seen_seat}
use Rattle.version_words.proofs.Asked.{unless_gone, tested}
use Rattle.version_words.proofs.Founds.{done_word}
use Rattle.version_words.proofs.Keeps.{KeepsPart, then_kept}
use Rattle.version_words.proofs.Epochs.{loaded_epoch}
use Rattle.version_words.proofs.Inside.{opened_all}
use Rattle.machine_states.proofs.Steps.{some_same}
use Rattle.version_words.proofs.Shows.{seen_then}

-- a run that loads one more thunk word isn't open yet
opens_by : (m : Meaning) (l : Layout) (free blocks : List ℕ) (q : RunState) (x : Spot × Access) (b : Bool) → (if b then line_ask m l (kinds.LoadThunk None) free blocks q (next_of m q) else open_more_ask q) ≡ Some x → (b ≡ false) × (open_more_ask q ≡ Some x)
opens_by m l free blocks q x true e = absurd (none-some x e)
opens_by m l free blocks q x false e = (refl, e)

still_closed : (m : Meaning) (l : Layout) (p : PartState) (q : RunState) (found : ℕ) → is_open_run q ≡ false → after_by m l (kinds.LoadThunk None) p (Some q) found ≡ opened_more p q found
still_closed m l p q found e = ap (λ (b : Bool). if b then line_after m l (kinds.LoadThunk None) p q (next_of m q) found else opened_more p q found) e

abbrev spot_descriptor : Spot → ℕ
spot_descriptor (spots.ThunkWord d j) = d
spot_descriptor _ = 0

-- the second word stays when more are loaded, and so does the third
first_of : (xs : List ℕ) (found : ℕ) → length xs ≡ 12 → slice_index xs 1 % 2 ^ 32 ≡ slice_index (xs ++ found ∷ []) 1 % 2 ^ 32
first_of [] found e = absurd (omega arith)
first_of (x ∷ []) found e = absurd (omega arith)
first_of (x ∷ y ∷ xs) found e = refl

third_of : (xs : List ℕ) (found : ℕ) → length xs ≡ 12 → slice_index xs 2 % 2 ^ 32 ≡ slice_index (xs ++ found ∷ []) 2 % 2 ^ 32
third_of [] found e = absurd (omega arith)
third_of (x ∷ []) found e = absurd (omega arith)
third_of (x ∷ y ∷ []) found e = absurd (omega arith)
third_of (x ∷ y ∷ z ∷ xs) found e = refl

module _ (kept : RunPlace) (q : RunState) (found descriptor index : ℕ) (is : IsPlaced kept q) (at : index ≡ length q.opened) where
  longer : length (q.opened ++ found ∷ []) ≡ length q.opened + 1
  longer = length-append q.opened (found ∷ [])

  -- the place after one more word, of which the second is the request and the third the lock
  abbrev place_by : Bool → Bool → RunPlace
  place_by second third = if second then record kept { request = found % 2 ^ 32 } else if third then record kept { lock = found % 2 ^ 32 } else kept

  abbrev place_after : RunPlace
  place_after = place_by (index == 1) (index == 2)

  request_at : (xs : List ℕ) (kept_request : ℕ) → 0 < length xs → (1 < length xs → kept_request ≡ slice_index xs 1 % 2 ^ 32)
      → (if length xs == 1 then found % 2 ^ 32 else kept_request) ≡ slice_index (xs ++ found ∷ []) 1 % 2 ^ 32
  request_at [] n some was = absurd (omega arith)
  request_at (x ∷ []) n some was = refl
  request_at (x ∷ y ∷ xs) n some was = ap (λ (b : Bool). if b then found % 2 ^ 32 else n) (ne_eqb (suc (suc (length xs))) 1 (λ e. omega arith)) ∙ was (omega arith)

  lock_at : (xs : List ℕ) (kept_lock : ℕ) → 0 < length xs → (2 < length xs → kept_lock ≡ slice_index xs 2 % 2 ^ 32) → 2 < length (xs ++ found ∷ [])
      → (if length xs == 1 then kept_lock else if length xs == 2 then found % 2 ^ 32 else kept_lock) ≡ slice_index (xs ++ found ∷ []) 2 % 2 ^ 32
  lock_at [] n some was many = absurd (omega (arith, some))
  lock_at (x ∷ []) n some was many = absurd (omega (arith, many))
  lock_at (x ∷ y ∷ []) n some was many = refl
  lock_at (x ∷ y ∷ z ∷ xs) n some was many =
      let count = suc (suc (suc (length xs))) in
      ap (λ (b : Bool). if b then n else if count == 2 then found % 2 ^ 32 else n) (ne_eqb count 1 (λ e. omega (arith, e)))
      ∙ (ap (λ (b : Bool). if b then found % 2 ^ 32 else n) (ne_eqb count 2 (λ e. omega (arith, e))) ∙ was (omega arith))

  placed_by : (b b' : Bool) → (if b then found % 2 ^ 32 else kept.request) ≡ slice_index (q.opened ++ found ∷ []) 1 % 2 ^ 32
      → (2 < length (q.opened ++ found ∷ []) → (if b then kept.lock else if b' then found % 2 ^ 32 else kept.lock) ≡ slice_index (q.opened ++ found ∷ []) 2 % 2 ^ 32)
      → IsPlaced (place_by b b') (record q { opened = q.opened ++ found ∷ [] })
  placed_by true b' e f = record { descriptor = is.descriptor; some = omega (arith, longer); request = λ some. e; lock = f; agreed = is.agreed; making = is.making; worn = is.worn }
  placed_by false true e f = record { descriptor = is.descriptor; some = omega (arith, longer); request = λ some. e; lock = f; agreed = is.agreed; making = is.making; worn = is.worn }
  placed_by false false e f = record { descriptor = is.descriptor; some = omega (arith, longer); request = λ some. e; lock = f; agreed = is.agreed; making = is.making; worn = is.worn }

  place_more : IsPlaced place_after (record q { opened = q.opened ++ found ∷ [] })
  place_more = placed_by (index == 1) (index == 2) (ap (λ (n : ℕ). if n == 1 then found % 2 ^ 32 else kept.request) at ∙ request_at q.opened kept.request is.some is.request)
      (λ many. ap (λ (n : ℕ). if n == 1 then kept.lock else if n == 2 then found % 2 ^ 32 else kept.lock) at ∙ lock_at q.opened kept.lock is.some is.lock many)

  opened_is : opened_place kept descriptor index found ≡ place_after
  opened_is = let some : index == 0 ≡ false = (let a = is.some in grind (arith, nat_tests, at, a)) in
      ap (λ (b : Bool). if b then begun_place kept descriptor else place_after) some

-- the block is that of a part in which a run is being opened
module _ (m : Meaning) (kept : Block) (lists : KeptState) (p : PartState) (q : RunState) (there : p.run ≡ Some q) (told_is : lists.part ≡ told_part p) (place : RunPlace) (is : IsPlaced place q) (opens : is_open_run q ≡ true → place.inside ≡ true) (epoch : place.epoch ≡ q.word)
    (in_hand : (slot : ℕ) → q.made ≡ Some slot → has p.nodes.hand slot ≡ true) where
  opening_part : KeepsPart m (record { lists = lists; place = place }) p
  opening_part = record {
    lists = told_is;
    place = record {
      run = λ y e. subst (IsPlaced place) (some_same q y (sym there ∙ e)) is;
      outside = λ e. absurd (none-some q (sym e ∙ there));
      in_hand = λ y slot e made. in_hand slot (ap (λ (z : RunState). z.made) (some_same q y (sym there ∙ e)) ∙ made);
    };
    run = record { ending = λ y e ready closed. absurd (true≢false (sym (opens (ap is_open_run (some_same q y (sym there ∙ e)) ∙ ready)) ∙ closed)) };
    epoch = subst (HasEpoch m place.epoch) (sym there) (subst (λ (n : ℕ). HasEpoch m n (Some q)) (sym epoch) (loaded_epoch m q));
  }

-- a run isn't open before its done word was loaded
not_open : (q : RunState) → length q.opened < 13 → is_open_run q ≡ true → ⊥
not_open q few ready = let all = opened_all q ready in omega (arith, few, all)

module _ {T : Type 0} (mean : T → Meaning) (s : T) (descriptor index found number : ℕ) (kept : Block) (old_table new_table : TableId) (me me' : Me Thunk (View T)) (live : me.0.structure ≡ Some s) (slots : me'.1 ≡ me.1) (was : IsKept mean number kept me) where
  abbrev p : PartState
  p = me.0.part

  abbrev l : Layout
  l = me.0.layout

  abbrev m : Meaning
  m = mean s

  abbrev kept' : Block
  kept' = record kept { place = opened_place kept.place descriptor index found }

  -- what the code keeps when a run begins
  begins_kept : p.run ≡ None → index ≡ 0 → Makes m (kinds.LoadThunk (Some descriptor)) found (seen_seat old_table me) (seen_seat new_table me') → IsKept mean number kept' me'
  begins_kept none first made =
      let step = ap (λ (o : Option RunState). after_by m l (kinds.LoadThunk (Some descriptor)) p o found) none in
      let place_is : begun_place kept.place descriptor ≡ opened_place kept.place descriptor index found = (λ i. opened_place kept.place descriptor (sym first i) found) in
      then_kept mean s (kinds.LoadThunk (Some descriptor)) found number kept old_table new_table me me' live made slots was refl kept' refl
      (subst (KeepsPart m kept') (sym step)
      (subst (λ (place : RunPlace). KeepsPart m (record kept { place = place }) (record p { run = Some (opened descriptor found) })) place_is
      (opening_part m kept kept.lists (record p { run = Some (opened descriptor found) }) (opened descriptor found) refl was.lists (begun_place kept.place descriptor)
      (record { descriptor = refl; some = omega arith; request = λ some. absurd (omega arith); lock = λ some. absurd (omega arith); agreed = refl; making = refl; worn = refl })
      (λ ready. absurd (not_open (opened descriptor found) (omega arith) ready)) refl (λ slot e. absurd (none-some slot e)))))

  -- what the code keeps when one more thunk word was loaded
  more_kept : (q : RunState) → p.run ≡ Some q → index ≡ length q.opened → met_by m (seen_seat old_table me) (kinds.LoadThunk None) ≡ Some (spots.ThunkWord descriptor index, Loads)
      → Makes m (kinds.LoadThunk None) found (seen_seat old_table me) (seen_seat new_table me') → IsKept mean number kept' me'
  more_kept q there at asked made =
      let o = opens_by m l p.nodes.free p.blocks.free q (spots.ThunkWord descriptor index, Loads) (is_open_run q)
      (sym (ap (ask_by m l me.0.requests me.0.number (kinds.LoadThunk None) p) there) ∙ unless_gone (sizes_for m l me.0.requests) p.gone (ask_by m l me.0.requests me.0.number (kinds.LoadThunk None) p p.run) (spots.ThunkWord descriptor index, Loads) asked) in
      let t = tested (nat_lt (length q.opened) 12) (spots.ThunkWord q.descriptor (length q.opened)) Loads (spots.ThunkWord descriptor index, Loads) o.1 in
      let more : length q.opened < 12 = (let a = t.0 in grind (arith, nat_tests)) in
      let is = was.place.run q there in let was_epoch = (was.of_table s live).epoch in let longer = length-append q.opened (found ∷ []) in
      let place = place_after kept.place q found descriptor index is at in
      let step = ap (λ (o : Option RunState). after_by m l (kinds.LoadThunk None) p o found) there ∙ still_closed m l p q found o.0 in
      then_kept mean s (kinds.LoadThunk None) found number kept old_table new_table me me' live made slots was refl kept' refl
      (subst (KeepsPart m kept') (sym step)
      (subst (λ (place : RunPlace). KeepsPart m (record kept { place = place }) (opened_more p q found)) (sym (opened_is kept.place q found descriptor index is at))
      (opening_part m kept kept.lists (opened_more p q found) (record q { opened = q.opened ++ found ∷ [] }) refl was.lists place (place_more kept.place q found descriptor index is at)
      (λ ready. absurd (not_open (record q { opened = q.opened ++ found ∷ [] }) (omega (arith, more, longer)) ready))
      (same_epoch (index == 1) (index == 2) ∙ was_epoch.opening q there (omega (arith, more)))
      (λ slot e. was.place.in_hand q slot there e))))
    where
      same_epoch : (b b' : Bool) → (if b then record (kept.place) { request = found % 2 ^ 32 } else if b' then record (kept.place) { lock = found % 2 ^ 32 } else kept.place).epoch ≡ kept.place.epoch
      same_epoch true b' = refl
      same_epoch false true = refl
      same_epoch false false = refl

  -- the done word is loaded after the thunk words
  done_opens : (q : RunState) (x : Spot × Access) (b : Bool) → (if b then line_ask m l kinds.LoadDone p.nodes.free p.blocks.free q (next_of m q) else load_done_ask q) ≡ Some x → (b ≡ false) × (load_done_ask q ≡ Some x)
  done_opens q x true e = absurd (none-some x e)
  done_opens q x false e = (refl, e)

  done_by : (o : Option RunState) → p.run ≡ o → (x : Spot × Access) → ask_by m l me.0.requests me.0.number kinds.LoadDone p o ≡ Some x → Makes m kinds.LoadDone found (seen_seat old_table me) (seen_seat new_table me')
      → IsKept mean number (record kept { place = record (kept.place) { inside = true } }) me'
  done_by None there x e made = absurd (none-some x e)
  done_by (Some q) there x e made =
      let o = done_opens q x (is_open_run q) e in
      let t = tested (length q.opened == 12) (spots.DoneWord q.descriptor) Loads x o.1 in
      let full : length q.opened ≡ 12 = (let a = t.0 in grind (arith, nat_tests, a)) in
      let is = was.place.run q there in let was_epoch = (was.of_table s live).epoch in let longer = length-append q.opened (found ∷ []) in
      let step = ap (λ (o : Option RunState). after_by m l kinds.LoadDone p o found) there ∙ ap (λ (b : Bool). if b then line_after m l kinds.LoadDone p q (next_of m q) found else opened_more p q found) o.0 in
      then_kept mean s kinds.LoadDone found number kept old_table new_table me me' live made slots was refl (record kept { place = record (kept.place) { inside = true } }) refl
      (subst (KeepsPart m (record kept { place = record (kept.place) { inside = true } })) (sym step)
      (opening_part m kept kept.lists (opened_more p q found) (record q { opened = q.opened ++ found ∷ [] }) refl was.lists (record (kept.place) { inside = true })
      (record {
        descriptor = is.descriptor;
        some = omega (arith, longer);
        request = λ some. is.request (omega (arith, full)) ∙ first_of q.opened found full;
        lock = λ some. is.lock (omega (arith, full)) ∙ third_of q.opened found full;
        agreed = is.agreed;
        making = is.making;
        worn = is.worn;
      }) (λ ready. refl) (was_epoch.opening q there (omega (arith, full))) (λ slot e. was.place.in_hand q slot there e)))

  -- what the code keeps once the done word was loaded
  pub done_kept : Makes m kinds.LoadDone found (seen_seat old_table me) (seen_seat new_table me') → IsKept mean number (record kept { place = record (kept.place) { inside = true } }) me'
  done_kept made = done_by p.run refl made.met (unless_gone (sizes_for m l me.0.requests) p.gone (ask_by m l me.0.requests me.0.number kinds.LoadDone p p.run) made.met made.asked) made

  done_found_by : Laws m → IsWithinLimits me'.0.layout → AreAllowed me'.0.requests → (made : Makes m kinds.LoadDone found (seen_seat old_table me) (seen_seat new_table me')) (o : Option RunState) → p.run ≡ o
      → ask_by m l me.0.requests me.0.number kinds.LoadDone p o ≡ Some made.met → found ≤ 1
  done_found_by laws limits allowed made None there e = absurd (none-some made.met e)
  done_found_by laws limits allowed made (Some q) there e =
      let o = done_opens q made.met (is_open_run q) e in
      let step = ap (λ (o : Option RunState). after_by m l kinds.LoadDone p o found) there ∙ ap (λ (b : Bool). if b then line_after m l kinds.LoadDone p q (next_of m q) found else opened_more p q found) o.0 in
      let runs : me'.0.part.run ≡ Some (record q { opened = q.opened ++ found ∷ [] }) = ap (λ (r : RunnerState T). r.part.run) made.made ∙ ap (λ (y : PartState). y.run) step in
      let left = subst (λ (x : Spot × Access). ReachedWith m me'.0.layout me'.0.requests me'.0.number me'.0.part x.0 (written x.1 found)) (sym (tested (length q.opened == 12) (spots.DoneWord q.descriptor) Loads made.met o.1).1) (seen_then _ _ _ _ _ _ _ _ _ made.shown) in
      done_word m laws me'.0.layout me'.0.requests me'.0.number me'.0.part (spots.DoneWord q.descriptor) found limits allowed left (record q { opened = q.opened ++ found ∷ [] }) runs refl

  -- the done word is 0 or 1
  pub done_found : Laws m → IsWithinLimits me'.0.layout → AreAllowed me'.0.requests → Makes m kinds.LoadDone found (seen_seat old_table me) (seen_seat new_table me') → found ≤ 1
  done_found laws limits allowed made = done_found_by laws limits allowed made p.run refl (unless_gone (sizes_for m l me.0.requests) p.gone (ask_by m l me.0.requests me.0.number kinds.LoadDone p p.run) made.met made.asked)

  by_run : (o : Option RunState) → p.run ≡ o → index ≡ opened_of o → met_by m (seen_seat old_table me) (open_of o descriptor) ≡ Some (spots.ThunkWord descriptor index, Loads)
      → Makes m (open_of o descriptor) found (seen_seat old_table me) (seen_seat new_table me') → IsKept mean number kept' me'
  by_run None e at asked made = begins_kept e at made
  by_run (Some q) e at asked made = more_kept q e at asked made

  -- what the code keeps after a load of a thunk word
  pub opening_kept : index ≡ opened_of p.run → met_by m (seen_seat old_table me) (open_of p.run descriptor) ≡ Some (spots.ThunkWord descriptor index, Loads)
      → Makes m (open_of p.run descriptor) found (seen_seat old_table me) (seen_seat new_table me') → IsKept mean number kept' me'
  opening_kept at asked made = by_run p.run refl at asked made

-- the name of the step is that of the event
named_by : (s : Sizes) (o : Option RunState) (d index : ℕ) → index ≡ opened_of o → open_of o ((address s (spots.ThunkWord d index) - descriptor_at s 0) / descriptor_words) ≡ open_of o d
named_by s (Some q) d index at = refl
named_by s None d index at = ap (λ n. kinds.LoadThunk (Some ((address s (spots.ThunkWord d n) - descriptor_at s 0) / descriptor_words))) at ∙ ap (λ n. kinds.LoadThunk (Some n)) (grind arith)

pub thunk_named : (s s' : Sizes) (p : PartState) (d index : ℕ) → s ≡ s' → index ≡ opened_of p.run → open_of p.run ((address s (spots.ThunkWord d index) - descriptor_at s' 0) / descriptor_words) ≡ open_of p.run d
thunk_named s s' p d index same at = ap (λ (z : Sizes). open_of p.run ((address s (spots.ThunkWord d index) - descriptor_at z 0) / descriptor_words)) (sym same) ∙ named_by s p.run d index at
