-- What a step of a run in one go needs is there, and its setting suits it.
use Rattle.std.proofs.Common.{◌≡◌, ◌≢◌, ℕ, zero, suc, ◌+◌, ◌^◌, ◌<◌, ◌≤◌, List, [], ◌∷◌, ◌++◌, length, take, drop, refl, sym, ap, ◌∙◌, subst, arith, length-append, length-drop, length-set, None}
use Rattle.std.specs.Prelude.{Bool, true, false, count_by, slice_index, slice_index_or, ◌==◌, ◌&&◌, not, nat_lt}
use Rattle.std.proofs.lemmas.Bool.Decides.{nat_tests}
use Rattle.std.proofs.lemmas.Option.{slice_get_within}
use Rattle.body_terms.specs.Word.{version_of, is_free, is_spent}
use Rattle.body_terms.specs.Trail.{Agreed as Agreement}
use Rattle.body_terms.specs.Memory.{PlainMemory, cell_of}
use Rattle.body_terms.specs.Line.{registers_before, log_words}
use Rattle.body_terms.specs.Run.{Run}
use Rattle.body_terms.specs.Plain.{Choice, no_choice, lock_choices, choices, choice_at, PlacesFit, SlotsFit, LocksFit, HasRequest, HasRoom, VersionsFit}
use Rattle.body_terms.specs.Shape.{IsStep, IsShaped, SetBefore, LoadedBefore, is_take, is_make, is_stamp, is_retire}
use Rattle.body_terms.specs.Act.{Shows, IsLogged, SlotFits, StoreFits, StepFits, LockSuits, SlotSuits, StepSuits}
use Rattle.body_terms.specs.declared.value.Value.{Value}
use Rattle.body_terms.specs.declared.value.Value.TheVariants.{Of}
use Rattle.body_terms.specs.declared.value.Init.{Init}
use Rattle.body_terms.specs.declared.step.Step.{Step}
use Rattle.body_terms.specs.declared.step.Step.TheVariants.{Load, Want, Fresh, Take, Make, Stamp, Store, Retire, Answer}
use Rattle.body_terms.proofs.RegisterLemmas.{loaded_register, logged, count_le}
use Rattle.body_terms.proofs.LineLemmas.{log_words_le}
use Rattle.body_terms.proofs.ChoiceLemmas.{choices_here}
use Rattle.section_body.proofs.ActLemmas.{same_length, cell_is}
use Rattle.body_terms.proofs.SoundLemmas.{Sound, setting, counted, choice_slot, fresh_slot, first_dropped, unwritten}

-- a version that is at most the greatest and isn't it has a next one
next_version : (version max : ℕ) → version ≤ max → version ≢ max → max < 2 ^ 32 → version + 1 < 2 ^ 32
next_version version max most ne small = omega arith

-- the first entry behind the first m
first_taken : (m : ℕ) (xs : List Bool) → slice_index_or (drop m xs) 0 false ≡ slice_index_or xs m false
first_taken zero xs = same xs
  where
    same : (xs : List Bool) → slice_index_or (drop 0 xs) 0 false ≡ slice_index_or xs 0 false
    same [] = refl
    same (x ∷ xs) = refl
first_taken (suc m) [] = refl
first_taken (suc m) (x ∷ xs) = first_taken m xs

module _ (body : List Step) (start : PlainMemory) (taken : List Bool) (shaped : IsShaped body) (request : ℕ) (n : ℕ) (r : Run) (sound : Sound body start taken shaped n r) (memory : PlainMemory) (trail : Agreement) (shows : Shows request start r memory trail None) (small : start.version_max < 2 ^ 32) where
  inside : (step : Step) → IsStep body n step → n ≤ length body
  inside step here = let w = slice_get_within body n step here in omega arith

  pub long : length trail.words ≡ (registers_before body n).count
  long = ap (λ (t : Agreement). length t.words) shows.agreed ∙ sound.count

  -- the word of a register that was set stands in the trail
  in_trail : (value : Value) → n ≤ length body → SetBefore body n value → IsLogged (registers_before body n) (length trail.words) value
  in_trail value high before = subst (λ k. IsLogged (registers_before body n) k value) (sym long) (logged body shaped n value high before)

  free_is : memory.free ≡ drop (length r.made) start.free
  free_is = ap (λ (m : PlainMemory). m.free) shows.left

  slot_is : slice_index memory.free 0 ≡ slice_index start.free (length r.made)
  slot_is = ap (λ free. slice_index free 0) free_is ∙ first_dropped (length r.made) start.free

  fixed_is : memory.fixed_cells ≡ start.fixed_cells
  fixed_is = ap (λ (m : PlainMemory). m.fixed_cells) shows.left

  same_cells : length memory.cells ≡ length start.cells
  same_cells = same_length request start (setting body start taken shaped) r memory trail shows

  cell_here : (p : ℕ) → p < length memory.cells → slice_index memory.cells p ≡ r.cells p
  cell_here p within = cell_is request start (setting body start taken shaped) r memory trail shows p within

  place_is : (cell : ℕ) → cell_of memory.fixed_cells (slice_index memory.free 0) cell ≡ cell_of start.fixed_cells (slice_index start.free (length r.made)) cell
  place_is cell = ap (λ f. cell_of f (slice_index memory.free 0) cell) fixed_is ∙ ap (λ t. cell_of start.fixed_cells t cell) slot_is

  module _ (slots : SlotsFit body start) (init : Init) (into : ℕ) (here : IsStep body n (Make init into)) where
    made_here : length r.made + 1 ≤ count_by is_make body
    made_here = let c = counted is_make body n (Make init into) here refl in let m = sound.made in omega arith

    slot_within : (cell : ℕ) → cell < 5 → cell_of memory.fixed_cells (slice_index memory.free 0) cell < length memory.cells
    slot_within cell low =
        subst (λ p. p < length memory.cells) (sym (place_is cell)) (let w = slots.within (length r.made) cell (let m = made_here in omega arith) low in let l = same_cells in omega arith)

    -- each cell of the slot holds what stood there at the start
    slot_word : (cell : ℕ) → cell < 5 → slice_index memory.cells (cell_of memory.fixed_cells (slice_index memory.free 0) cell) ≡ slice_index start.cells (cell_of start.fixed_cells (slice_index start.free (length r.made)) cell)
    slot_word cell low =
        cell_here _ (slot_within cell low) ∙ (ap r.cells (place_is cell) ∙ fresh_slot body start taken shaped n (Make init into) here r sound slots init into refl cell low)

    slot_fits : VersionsFit start → SlotFits memory
    slot_fits versions = record {
      there = subst (λ free. 0 < length free) (sym free_is) (let d = length-drop (length r.made) start.free in let t = slots.there in let m = made_here in omega arith);
      within = slot_within;
      room = λ cell low.
          let place = cell_of start.fixed_cells (slice_index start.free (length r.made)) cell in
          let below = slots.within (length r.made) cell (let m = made_here in omega arith) low in
          subst (λ w. version_of w + 1 < 2 ^ 32) (sym (slot_word cell low))
          (next_version (version_of (slice_index start.cells place)) start.version_max (versions place 0 below) (slots.unworn (length r.made) cell (let m = made_here in omega arith) low) small);
    }

    slot_suits : SlotSuits (setting body start taken shaped) memory (registers_before body n).count
    slot_suits =
        let chosen = choice_slot body start taken shaped n (Make init into) here r sound init into refl in
        record {
          fixed_cells = sym fixed_is;
          slot = chosen ∙ sym slot_is;
          first = λ cell low. ap (λ t. slice_index start.cells (cell_of start.fixed_cells t cell)) chosen ∙ sym (slot_word cell low);
        }

  store_fits : (reg : ℕ) (value : Value) → PlacesFit body start → IsStep body n (Store reg value) → StoreFits memory trail.words ((registers_before body n).place reg) ((registers_before body n).log reg)
  store_fits reg value places here =
      let inside : n ≤ length body = (let w = slice_get_within body n (Store reg value) here in omega arith) in
      let tested = shaped.fresh n reg value here in
      let before : LoadedBefore body tested.by reg = shaped.used tested.by (Fresh reg) tested.tests 0 (Of reg) (omega arith) in
      let first = loaded_register body shaped before.by before.place reg tested.by before.loads before.earlier (let e = tested.earlier in omega arith) in
      let now = loaded_register body shaped before.by before.place reg n before.loads (let e = before.earlier in let f = tested.earlier in omega arith) inside in
      let same_log : (registers_before body tested.by).log reg ≡ (registers_before body n).log reg = first.1 ∙ sym now.1 in
      let read = slice_index r.trail ((registers_before body n).log reg) in
      let word : slice_index trail.words ((registers_before body n).log reg) ≡ read = ap (λ (t : Agreement). slice_index t.words ((registers_before body n).log reg)) shows.agreed in
      let most : version_of read ≤ start.version_max = subst (λ k. version_of (slice_index r.trail k) ≤ start.version_max) (sym now.1) (sound.loaded before.by before.place reg (let e = before.earlier in let f = tested.earlier in omega arith) before.loads) in
      let other : version_of read ≢ start.version_max = subst (λ k. version_of (slice_index r.trail k) ≢ start.version_max) same_log (sound.fresh tested.by reg tested.earlier tested.tests) in
      record {
        within = subst (λ p. p < length memory.cells) (sym now.0) (let p = places.loads before.by before.place reg before.loads in let l = same_cells in omega arith);
        logged = in_trail (Of reg) inside (shaped.used n (Store reg value) here 0 (Of reg) (omega arith));
        room = λ _. subst (λ w. version_of w + 1 < 2 ^ 32) (sym word) (next_version (version_of read) start.version_max most other small);
      }

  -- a free word that isn't spent has a next version
  takable_room : (word : ℕ) → is_free word ≡ true → is_spent start.version_max word ≡ false → version_of word + 1 < 2 ^ 32
  takable_room word free unspent = unspent_room (is_free word) free unspent
    where
      unspent_room : (b : Bool) → b ≡ true → (b && nat_lt start.version_max (version_of word + 2)) ≡ false → version_of word + 1 < 2 ^ 32
      unspent_room false is e = cc
      unspent_room true is e = let most : version_of word + 2 ≤ start.version_max = not_below _ _ e in omega arith
        where
          not_below : (a b : ℕ) → nat_lt a b ≡ false → b ≤ a
          not_below a b e = grind (arith, nat_tests)

  module _ (place word : ℕ) (here : IsStep body n (Take place word)) where
    -- the choice for the j-th word of the Take
    choice_is : (j : ℕ) → choice_at body taken start ((registers_before body n).count + j) ≡ slice_index_or (choices start.cells (Take place word ∷ drop (suc n) body) (drop (count_by is_take (take n body)) taken) (drop (count_by is_make (take n body)) start.free)) j no_choice
    choice_is j = choices_here start.cells body taken start.free n (Take place word) here j

    got_choice : (j : ℕ) → (b : Bool) → slice_index_or taken (count_by is_take (take n body)) false ≡ b → choice_at body taken start ((registers_before body n).count + j) ≡ slice_index_or (lock_choices b (slice_index start.cells place) word ++ choices start.cells (drop (suc n) body) (drop 1 (drop (count_by is_take (take n body)) taken)) (drop (count_by is_make (take n body)) start.free)) j no_choice
    got_choice j b is =
        choice_is j ∙ ap (λ got. slice_index_or (lock_choices got (slice_index start.cells place) word ++ choices start.cells (drop (suc n) body) (drop 1 (drop (count_by is_take (take n body)) taken)) (drop (count_by is_make (take n body)) start.free)) j no_choice) (first_taken (count_by is_take (take n body)) taken ∙ is)

    -- the choice for the first word
    first_choice : choice_at body taken start (registers_before body n).count ≡ choice_at body taken start ((registers_before body n).count + 0)
    first_choice = let more : (registers_before body n).count ≡ (registers_before body n).count + 0 = omega arith in ap (choice_at body taken start) more

    lock_suits : LocksFit body start taken → place < length memory.cells → (got : Bool) → slice_index_or taken (count_by is_take (take n body)) false ≡ got → LockSuits (setting body start taken shaped) memory got (registers_before body n).count place word
    lock_suits locks within true is =
        let can = locks.takable n place word here is in
        record {
          free = ap (λ (c : Choice). c.word) (first_choice ∙ got_choice 0 true is);
          held = ap (λ (c : Choice). c.word) (got_choice 1 true is);
          descriptor = refl;
          takable = takable_word can.0 can.1;
          going = ap (λ (c : Choice). c.refused) (first_choice ∙ got_choice 0 true is);
        }
      where
        same_number : (k : ℕ) → (k == k) ≡ true
        same_number k = grind (arith, nat_tests)

        takable_word : is_free word ≡ true → is_spent start.version_max word ≡ false → (word == word && (is_free word && not (is_spent start.version_max word))) ≡ true
        takable_word free unspent = ap (λ b. b && (is_free word && not (is_spent start.version_max word))) (same_number word) ∙ (ap (λ b. b && not (is_spent start.version_max word)) free ∙ ap not unspent)
    lock_suits locks within false is = record {
      standing = ap (λ (c : Choice). c.word) (first_choice ∙ got_choice 0 false is) ∙ sym (cell_here place within ∙ unwritten body start taken shaped n (Take place word) here r sound place (omega arith));
      refused = ap (λ (c : Choice). c.refused) (first_choice ∙ got_choice 0 false is);
    }

  -- the setting suits each step
  pub suits : (step : Step) → IsStep body n step → PlacesFit body start → SlotsFit body start → LocksFit body start taken → (got : Bool) → got ≡ (is_take step && slice_index_or taken (count_by is_take (take n body)) false) → StepSuits (setting body start taken shaped) memory got (registers_before body n).count step
  suits (Load place into) here places slots locks got is = tt
  suits (Want reg word) here places slots locks got is = tt
  suits (Fresh reg) here places slots locks got is = sym (ap (λ (m : PlainMemory). m.version_max) shows.left)
  suits (Take place word) here places slots locks got is = lock_suits place word here locks (let p = places.locks n place word here in let l = same_cells in omega arith) got (sym is)
  suits (Make init into) here places slots locks got is = slot_suits slots init into here
  suits Stamp here places slots locks got is =
      sym (ap (λ (m : PlainMemory). m.clock) shows.left ∙ sound.clock (let c = counted is_stamp body n Stamp here refl in let s = shaped.stamps in omega arith))
  suits (Store reg value) here places slots locks got is = tt
  suits (Retire slot) here places slots locks got is = tt
  suits (Answer reply) here places slots locks got is = tt

  -- a Take whose lock is got has room for the held word
  take_room : (place word : ℕ) → IsStep body n (Take place word) → LocksFit body start taken → slice_index_or taken (count_by is_take (take n body)) false ≡ true → version_of word + 1 < 2 ^ 32
  take_room place word here locks is = let can = locks.takable n place word here is in takable_room word can.0 can.1

  -- the parts of a memory that a run leaves as long as they were
  stamps_there : HasRequest request start → request < length memory.stamps
  stamps_there has = subst (λ (m : PlainMemory). request < length m.stamps) (sym shows.left) (subst (λ k. request < k) (sym (length-set start.stamps request r.stamp)) has.0)

  replies_there : HasRequest request start → request < length memory.replies
  replies_there has = subst (λ (m : PlainMemory). request < length m.replies) (sym shows.left) (subst (λ k. request < k) (sym (length-set start.replies request r.reply)) has.1)

  room_there : (slot : ℕ) → IsStep body n (Retire slot) → HasRoom body start → length memory.retired < memory.room
  room_there slot here room =
      subst (λ (m : PlainMemory). length m.retired < m.room) (sym shows.left)
      (let c = counted is_retire body n (Retire slot) here refl in let s = sound.retired in let l = length-append start.retired r.retired in omega arith)

  -- a step has what it needs
  pub fits : (step : Step) → IsStep body n step → PlacesFit body start → SlotsFit body start → LocksFit body start taken → VersionsFit start → HasRequest request start → HasRoom body start → start.clock < 2 ^ 62 → (got : Bool) → got ≡ (is_take step && slice_index_or taken (count_by is_take (take n body)) false) → StepFits request memory trail.words (registers_before body n) got step
  fits (Load place into) here places slots locks versions has room early got is = let p = places.loads n place into here in let l = same_cells in omega arith
  fits (Want reg word) here places slots locks versions has room early got is = in_trail (Of reg) (inside (Want reg word) here) (shaped.used n (Want reg word) here 0 (Of reg) (omega arith))
  fits (Fresh reg) here places slots locks versions has room early got is = in_trail (Of reg) (inside (Fresh reg) here) (shaped.used n (Fresh reg) here 0 (Of reg) (omega arith))
  fits (Take place word) here places slots locks versions has room early got is = (let p = places.locks n place word here in let l = same_cells in omega arith, λ yes_got. take_room place word here locks (sym is ∙ yes_got))
  fits (Make init into) here places slots locks versions has room early got is = (slot_fits slots init into here versions, λ k d below. in_trail _ (inside (Make init into) here) (shaped.used n (Make init into) here k d below))
  fits Stamp here places slots locks versions has room early got is = (stamps_there has, (let c = sym (suits Stamp here places slots locks got is) in omega arith))
  fits (Store reg value) here places slots locks versions has room early got is = (store_fits reg value places here, in_trail value (inside (Store reg value) here) (shaped.used n (Store reg value) here 1 value (omega arith)))
  fits (Retire slot) here places slots locks versions has room early got is = room_there slot here room
  fits (Answer reply) here places slots locks versions has room early got is = replies_there has

  -- the trail has room for the words of one more step
  pub space : (step : Step) → IsStep body n step → length trail.words + log_words step ≤ 64
  space step here =
      let w = log_words_le step in let below = slice_get_within body n step here in let few = count_le body n (inside step here) in let l = long in let s = shaped.short in omega arith
