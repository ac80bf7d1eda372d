-- A walk over fixed places leads a runner as its structure plans.
use Rattle.std.proofs.Common.{◌≡◌, ℕ, suc, ◌+◌, ◌*◌, ◌<◌, ◌≤◌, List, [], ◌∷◌, ◌++◌, length, map, Bool, true, false, cond, refl, sym, ap, subst, ◌∙◌, arith, Option, Some, None, inl, inr}
use Rattle.std.specs.Prelude.{◌⊎◌, ◌&&◌, ◌||◌, not, ◌-◌, ◌/◌, nat_lt, is_some, slice_get, if◌then◌else◌}
use Rattle.std.proofs.lemmas.List.{append_assoc, append-nil, length-append, length-map}
use Rattle.std.proofs.lemmas.Option.{none-some}
use Rattle.runner_parts.specs.epoch_core.specs.small_lemmas.proofs.Lists.{same_number as some_eq}
use Rattle.runner_parts.specs.structure_laws.specs.map_history.specs.declared.op.Op.{Op}
use Rattle.runner_parts.specs.structure_laws.specs.body_terms.specs.Word.{is_free, is_spent}
use Rattle.runner_parts.specs.block_words.specs.table_words.specs.declared.layout.Layout.{Layout}
use Rattle.runner_parts.specs.structure_laws.specs.Scene.{Readings}
use Rattle.runner_parts.specs.structure_laws.specs.Meaning.{Meaning}
use Rattle.runner_parts.specs.structure_laws.specs.Cells.{slots}
use Rattle.runner_parts.specs.Tests.{is_readable}
use Rattle.key_cells.specs.shared_laws.proofs.Numbers.{lt_true, eq_false, read_pair}
use Rattle.lock_walks.specs.try_lock.specs.declared.planned.Planned.{Planned}
use Rattle.lock_walks.specs.try_lock.specs.declared.planned.Planned.TheVariants as answers
use Rattle.lock_walks.specs.try_lock.specs.Plans.{refused_by_lock, refused_at}
use Rattle.lock_walks.specs.Way.{fed_all, IsLedBy, IsThunkFor, Leads}
use Rattle.fixed_walks.specs.Fixed.{Course, first_of, first_or, rest_of, ahead_of, with_word, refused_by, places_for, thunk_for, fixed_planning, AreCells, Suits}
use Rattle.fixed_walks.specs.Walk.{fed_by, fixed_way}
use Rattle.fixed_walks.specs.declared.walk.FixedWalk.{FixedWalk}

-- the first places of the readings, and their words
abbrev places_in : Readings → List ℕ
places_in readings = map (λ reading. reading.0) readings

abbrev words_in : Readings → List ℕ
words_in readings = map (λ reading. reading.1) readings

-- lists by their first element
whole : (ps : List ℕ) (p : ℕ) → first_of ps ≡ Some p → ps ≡ p ∷ rest_of ps
whole [] p e = absurd (none-some p e)
whole (q ∷ ps) p e = ap (λ r. r ∷ ps) (some_eq q p e)

empty_of : (ps : List ℕ) → first_of ps ≡ None → ps ≡ []
empty_of [] e = refl
empty_of (q ∷ ps) e = absurd (none-some q (sym e))

shorter_rest : (ps : List ℕ) (p : ℕ) → first_of ps ≡ Some p → length (rest_of ps) < length ps
shorter_rest [] p e = absurd (none-some p e)
shorter_rest (q ∷ ps) p e = omega arith

goes : (v word p : ℕ) (ps : List ℕ) → first_of ps ≡ Some p → refused_by v ps word ≡ false
goes v word p [] e = absurd (none-some p e)
goes v word p (q ∷ ps) e = refl

module _ {C : Type 0} (course : C → Course) where
  abbrev Walk : Type 0
  Walk = FixedWalk C

  abbrev all : Walk → Readings → Walk
  all = fed_all (fixed_way course)

  abbrev Led : Walk → Readings → Type 0
  Led = IsLedBy (fixed_way course)

  -- what no reading changes
  same_course : (w : Walk) (readings : Readings) → (all w readings).course ≡ w.course
  same_course w [] = refl
  same_course w (x ∷ readings) = same_course (fed_by course w x.1) readings

  same_op : (w : Walk) (readings : Readings) → (all w readings).op ≡ w.op
  same_op w [] = refl
  same_op w (x ∷ readings) = same_op (fed_by course w x.1) readings

  same_max : (w : Walk) (readings : Readings) → (all w readings).version_max ≡ w.version_max
  same_max w [] = refl
  same_max w (x ∷ readings) = same_max (fed_by course w x.1) readings

  -- what is ahead after them
  ahead_all : (w : Walk) (readings : Readings) → (all w readings).ahead.items ≡ ahead_of w.ahead.items readings
  ahead_all w [] = refl
  ahead_all w (x ∷ readings) = ahead_all (fed_by course w x.1) readings

  -- a walk was led along its own places
  behind : (w : Walk) (readings : Readings) → Led w readings → w.ahead.items ≡ places_in readings ++ (all w readings).ahead.items
  behind w [] led = refl
  behind w (x ∷ readings) led = whole w.ahead.items x.0 (led 0 x.0 x.1 refl) ∙ ap (λ ps. x.0 ∷ ps) (behind (fed_by course w x.1) readings (λ i place word h. led (suc i) place word h))

  -- and has the words that were found, while there is room for them
  words_all : (w : Walk) (readings : Readings) → length w.words.items + length readings ≤ 16 → (all w readings).words.items ≡ w.words.items ++ words_in readings
  words_all w [] room = sym (append-nil w.words.items)
  words_all w (x ∷ readings) room =
      words_all (fed_by course w x.1) readings (let more = one_more in omega (arith, room, more)) ∙ (ap (λ ws. ws ++ words_in readings) added ∙ append_assoc w.words.items (x.1 ∷ []) (words_in readings))
    where
      added : with_word w.words.items x.1 ≡ w.words.items ++ x.1 ∷ []
      added = ap (λ b. cond b w.words.items (w.words.items ++ x.1 ∷ [])) (eq_false (length w.words.items) 16 (λ full. omega (arith, room, full)))

      one_more : length (with_word w.words.items x.1) ≡ length w.words.items + 1
      one_more = ap length added ∙ length-append w.words.items (x.1 ∷ [])

  -- at its end the last place was read, with the word that the walk kept last
  last_read : (w : Walk) (readings : Readings) (cells : List ℕ) (end : ℕ) → Led w readings → w.ahead.items ≡ cells ++ end ∷ [] → first_of (all w readings).ahead.items ≡ None
      → (slice_get readings (length cells) ≡ Some (end, (all w readings).word)) × ((all w readings).place ≡ end)
  last_read w [] [] end led is none = absurd (none-some end (sym (ap first_of (sym is) ∙ none)))
  last_read w [] (c ∷ cells) end led is none = absurd (none-some c (sym (ap first_of (sym is) ∙ none)))
  last_read w (x ∷ []) [] end led is none = (ap (λ p. Some (p, x.1)) (some_eq x.0 end (sym (led 0 x.0 x.1 refl) ∙ ap first_of is)), ap (first_or w.place) is)
  last_read w (x ∷ y ∷ readings) [] end led is none = absurd (none-some y.0 (sym (ap (λ ps. first_of (rest_of ps)) is) ∙ led 1 y.0 y.1 refl))
  last_read w (x ∷ readings) (c ∷ cells) end led is none = last_read (fed_by course w x.1) readings cells end (λ i place word h. led (suc i) place word h) (ap rest_of is) none

-- what is left of the places is cells and the same last place, or nothing
abbrev IsEnd : Meaning → ℕ → List ℕ → Type 0
IsEnd m end ps = (ps ≡ []) ⊎ ((cells : List ℕ) × AreCells m cells × (ps ≡ cells ++ end ∷ []))

rest_end : (m : Meaning) (end : ℕ) (ps : List ℕ) → IsEnd m end ps → IsEnd m end (rest_of ps)
rest_end m end ps (inl none) = inl (ap rest_of none)
rest_end m end ps (inr ([], are, is)) = inl (ap rest_of is)
rest_end m end ps (inr (c ∷ cells, are, is)) = inr (cells, are.2, ap rest_of is)

ahead_end : (m : Meaning) (end : ℕ) (ps : List ℕ) (readings : Readings) → IsEnd m end ps → IsEnd m end (ahead_of ps readings)
ahead_end m end ps [] is = is
ahead_end m end ps (x ∷ readings) is = ahead_end m end (rest_of ps) readings (rest_end m end ps is)

-- how the next of these places reads, by whether it is the last one
some_first : (cells : List ℕ) (end : ℕ) → (place : ℕ) × (first_of (cells ++ end ∷ []) ≡ Some place)
some_first [] end = (end, refl)
some_first (c ∷ cells) end = (c, refl)

still_ahead : (v word : ℕ) (cells : List ℕ) (end : ℕ) → refused_by v (cells ++ end ∷ []) word ≡ false
still_ahead v word [] end = refl
still_ahead v word (c ∷ cells) end = refl

-- what the lock's word means to the walk is what it means to the plan
lock_refuses : (free spent : Bool) (a b : Planned) → not (free && not spent) ≡ is_some (if free then (if spent then Some a else None) else Some b)
lock_refuses true true a b = refl
lock_refuses true false a b = refl
lock_refuses false spent a b = refl

locked : (lock refused : Bool) (o p : Option Planned) → lock ≡ true → refused ≡ is_some o → refused ≡ is_some (if lock then o else p)
locked true refused o p e h = h
locked false refused o p e h = absurd (cc)

unlocked : (lock : Bool) (o : Option Planned) → lock ≡ false → false ≡ is_some (if lock then o else None)
unlocked true o e = absurd (cc)
unlocked false o e = refl

passed : (free spent : Bool) → not (free && not spent) ≡ false → (free ≡ true) × (spent ≡ false)
passed true true e = absurd (cc)
passed true false e = (refl, refl)
passed false spent e = absurd (cc)

module _ {C : Type 0} (course : C → Course) (m : Meaning) (layout : Layout) (given : C) (op : Op) where
  abbrev c : Course
  c = course given

  -- the walk at its beginning
  abbrev starts : FixedWalk C
  starts = record {
    course = given;
    version_max = layout.version_max;
    op = op;
    ahead = record { items = places_for c op };
    words = record { items = [] };
    place = 0;
    word = 0;
  }

  abbrev Behind : Readings → FixedWalk C
  Behind readings = fed_all (fixed_way course) starts readings

  module _ (suits : Suits m c layout op) where
    ahead_is : (readings : Readings) → IsEnd m (c.lock op) (Behind readings).ahead.items
    ahead_is readings = subst (IsEnd m (c.lock op)) (sym (ahead_all course starts readings))
        (ahead_end m (c.lock op) (places_for c op) readings (inr (c.cells op, suits.cells, refl)))

    -- a place that is ahead is a fixed cell
    fixed_first : (ps : List ℕ) (place : ℕ) → IsEnd m (c.lock op) ps → first_of ps ≡ Some place → place < m.fixed_cells
    fixed_first ps place (inl none) first = absurd (none-some place (sym (ap first_of none) ∙ first))
    fixed_first ps place (inr ([], are, is)) first = subst (λ p. p < m.fixed_cells) (some_eq (c.lock op) place (sym (ap first_of is) ∙ first)) suits.lock.0
    fixed_first ps place (inr (x ∷ cells, are, is)) first = subst (λ p. p < m.fixed_cells) (some_eq x place (sym (ap first_of is) ∙ first)) are.0

    readable : (readings : Readings) (place : ℕ) → place < m.fixed_cells → (is_readable m readings place ≡ true) × (place < m.fixed_cells + 5 * slots m layout)
    readable readings place low = (ap (λ b. b || (m.is_lock place || (nat_lt ((place - m.fixed_cells) / 5) m.fixed_slots || m.reaches readings ((place - m.fixed_cells) / 5)))) (lt_true place m.fixed_cells low), omega (arith, low))

    -- a reading refuses the walk where it refuses the plan
    refuses : (ps : List ℕ) (before : Readings) (place word : ℕ) → IsEnd m (c.lock op) ps → first_of ps ≡ Some place
        → refused_by layout.version_max (rest_of ps) word ≡ is_some (refused_at m (fixed_planning c) layout op before place word)
    refuses ps before place word (inl none) first = absurd (none-some place (sym (ap first_of none) ∙ first))
    refuses ps before place word (inr ([], are, is)) first =
        ap (λ qs. refused_by layout.version_max (rest_of qs) word) is
        ∙ locked (m.is_lock place) _ (refused_by_lock layout.version_max place word) _
        (subst (λ p. m.is_lock p ≡ true) (some_eq (c.lock op) place (sym (ap first_of is) ∙ first)) suits.lock.1)
        (lock_refuses (is_free word) (is_spent layout.version_max word) (answers.Spent place word) (answers.Busy place word))
    refuses ps before place word (inr (x ∷ cells, are, is)) first =
        ap (λ qs. refused_by layout.version_max (rest_of qs) word) is ∙ (still_ahead layout.version_max word cells (c.lock op)
        ∙ unlocked (m.is_lock place) (refused_by_lock layout.version_max place word)
        (subst (λ p. m.is_lock p ≡ false) (some_eq x place (sym (ap first_of is) ∙ first)) are.1))

    few_readings : (readings : Readings) → IsLedBy (fixed_way course) starts readings → length readings ≤ 16
    few_readings readings led =
        let few = suits.few in
        let places = length-append (c.cells op) (c.lock op ∷ []) in
        let sum = ap length (behind course starts readings led) ∙ length-append (places_in readings) (Behind readings).ahead.items in
        let same = length-map readings (λ reading. reading.0) in
        omega (arith, few, places, sum, same)

    -- its walk keeps all the words, and the lock
    same_thunk : (number : ℕ) (readings : Readings) → IsLedBy (fixed_way course) starts readings → first_of (Behind readings).ahead.items ≡ None
        → thunk_for c op (words_in readings) (c.lock op) (Behind readings).word number ≡ (fixed_way course).thunk (Behind readings) number
    same_thunk number readings led none =
        (λ i. thunk_for (course (sym (same_course course starts readings) i)) (sym (same_op course starts readings) i)
        (sym (words_all course starts readings room) i)
        (sym (last_read course starts readings (c.cells op) (c.lock op) led refl none).1 i) (Behind readings).word number)
      where
        room : 0 + length readings ≤ 16
        room = let few = few_readings readings led in omega (arith, few)

    -- the thunk of a whole walk
    fits : (number : ℕ) (readings : Readings) → IsLedBy (fixed_way course) starts readings → first_of (Behind readings).ahead.items ≡ None
        → refused_by layout.version_max [] (Behind readings).word ≡ false
        → IsThunkFor (fixed_way course) m layout starts number readings ((fixed_way course).thunk (Behind readings) number)
    fits number readings led none goes =
        let word = (Behind readings).word in
        let read = read_pair readings (c.lock op) word (length (c.cells op)) (last_read course starts readings (c.cells op) (c.lock op) led refl none).0 in
        let ok = passed (is_free word) (is_spent layout.version_max word) goes in
        subst (IsThunkFor (fixed_way course) m layout starts number readings) (same_thunk number readings led none) (record {
          fits = suits.fits readings word number
              (sym (behind course starts readings led ∙ (ap (λ ps. places_in readings ++ ps) (empty_of _ none) ∙ append-nil (places_in readings)))) read;
          request = refl;
          operands = suits.operands (words_in readings);
          free = ok.0;
          unspent = ok.1;
          read = read;
        })

    pub leads : Leads (fixed_way course) m layout starts
    leads = record {
      begins = some_first (c.cells op) (c.lock op);
      shorter = λ other place word wants. shorter_rest other.ahead.items place wants;
      steady = λ readings. ap (λ g. fixed_planning (course g)) (same_course course starts readings);
      wanted = λ readings led. sym (ap first_of (ahead_all course starts readings));
      readable = λ readings place led wants known. readable readings place (fixed_first (Behind readings).ahead.items place (ahead_is readings) wants);
      refuses = λ readings place word led wants known.
          (λ i. refused_by (same_max course starts readings i) (rest_of (Behind readings).ahead.items) word)
          ∙ refuses (Behind readings).ahead.items readings place word (ahead_is readings) wants;
      goes_on = λ readings place led wants. goes _ _ place (Behind readings).ahead.items wants;
      fits = λ number readings led none goes. fits number readings led none
          (sym (λ i. refused_by (same_max course starts readings i) (empty_of (Behind readings).ahead.items none i) (Behind readings).word) ∙ goes);
      few = let few = suits.few in let places = length-append (c.cells op) (c.lock op ∷ []) in omega (arith, few, places);
    }
