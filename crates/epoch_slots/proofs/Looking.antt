-- The slots of a hand, looked at and given back.
use Rattle.std.proofs.Common.{◌≡◌, ℕ, zero, suc, ◌+◌, ◌-◌, ◌<◌, ◌≤◌, List, [], ◌∷◌, ◌++◌, length, length-append, take, drop, get_or, Bool, true, false, refl, sym, ap, subst, ◌∙◌, eq-eqb, cond, arith, None}
use Rattle.std.specs.Prelude.{◌==◌, ◌&&◌, ◌||◌, nat_lt, not, if◌then◌else◌}
use Rattle.std.specs.List.{list_any}
use Rattle.std.proofs.lemmas.Bool.Decides.{nat_tests}
use Rattle.std.proofs.lemmas.List.{append_assoc, append-nil, length-take-le}
use Rattle.std.proofs.Math.Seq.{drop-cons, take-suc}
use Rattle.machine_states.specs.body_terms.specs.Word.{version_of}
use Rattle.machine_states.specs.body_terms.specs.Memory.{cell_of}
use Rattle.machine_states.specs.table_words.specs.declared.layout.Layout.{Layout}
use Rattle.machine_states.specs.table_words.specs.declared.spot.Spot.TheVariants as spots
use Rattle.machine_states.specs.table_words.specs.declared.access.Access.TheVariants.{Loads}
use Rattle.machine_states.specs.table_words.specs.Places.{slot_count}
use Rattle.machine_states.specs.structure_laws.specs.Meaning.{Meaning}
use Rattle.machine_states.specs.runner_parts.specs.declared.entries.Tested.{Tested}
use Rattle.machine_states.specs.runner_parts.specs.declared.event.EventKind.TheVariants as kinds
use Rattle.machine_states.specs.epoch_core.specs.declared.stage.Stage.TheVariants as stages
use Rattle.machine_states.specs.runner_parts.specs.State.{NodesState, PartState}
use Rattle.machine_states.specs.runner_parts.specs.Tests.{has, is_resting}
use Rattle.machine_states.specs.runner_parts.specs.Lists.{without, test_of, tests_without, slot_back, slot_tested, one_more, nodes_looked}
use Rattle.machine_states.specs.runner_steps.specs.AfterOutside.{descriptor_known}
use Rattle.machine_states.specs.runner_steps.specs.After.{outside_after}
use Rattle.machine_states.specs.runner_steps.specs.Outside.{when, blocks_from, descriptor_spot, block_spot}
use Rattle.machine_states.specs.epoch_core.specs.Lists.{times}
use Rattle.version_words.specs.RunnerState.{RunnerState}
use Rattle.version_words.specs.Events.{IsEnabled, Makes}
use Rattle.version_words.specs.Stages.{IsAt}
use Rattle.version_words.proofs.Stages.{enabled, then_loaded_word}
use Rattle.epoch_slots.specs.Collects.{unworn, worn_out, Looks, IsTested, AreTested}
use Rattle.epoch_slots.specs.Hands.{looked, given_back, IsLookedAt, HandIsOwn, IsBack}
use Rattle.epoch_slots.proofs.Outside.{nodes_made, descriptors_made, guards_made, known_made, finished_made}

-- one test that is kept
test_here : (slot cells : ℕ) (worn : Bool) → test_of (record { slot = slot; cells = cells; worn = worn } ∷ []) slot ≡ record { slot = slot; cells = cells; worn = worn }
test_here slot cells worn = ap (λ (b : Bool). if b then record { slot = slot; cells = cells; worn = worn } else test_of [] slot) (eq-eqb slot slot refl)

tests_gone : (slot cells : ℕ) (worn : Bool) → tests_without (record { slot = slot; cells = cells; worn = worn } ∷ []) slot ≡ []
tests_gone slot cells worn = grind (arith, nat_tests, eq-eqb slot slot refl)

-- a slot that comes back, by the tests that are left
back_by : (n : NodesState) (ts ts' : List Tested) (slot : ℕ) (worn : Bool) → tests_without ts slot ≡ tests_without ts' slot → slot_back (record n { tests = ts }) slot worn ≡ slot_back (record n { tests = ts' }) slot worn
back_by n ts ts' slot true e = ap (λ (us : List Tested). record n { hand = without n.hand slot; tests = us; worn = n.worn ++ slot ∷ [] }) e
back_by n ts ts' slot false e = ap (λ (us : List Tested). record n { hand = without n.hand slot; tests = us; free = n.free ++ slot ∷ [] }) e

module _ (l : Layout) (n : NodesState) (slot word : ℕ) (worn : Bool) (hand : has n.hand slot ≡ true) where
  abbrev more : Bool
  more = worn || version_of word == l.version_max

  -- the nodes after a look, by the slot's test
  abbrev look_by : NodesState → ℕ → Tested → NodesState
  look_by n' cell x = if has n.hand slot && (cell == x.cells && nat_lt cell 5) then slot_tested n' (one_more l x word) else n'

  -- a look behind the first, before the last
  look_later : (cell : ℕ) → nodes_looked l (record n { tests = record { slot = slot; cells = cell; worn = worn } ∷ [] }) slot cell word
      ≡ (if has n.hand slot && (cell == cell && nat_lt cell 5) then slot_tested (record n { tests = record { slot = slot; cells = cell; worn = worn } ∷ [] }) (record { slot = slot; cells = cell + 1; worn = more })
      else record n { tests = record { slot = slot; cells = cell; worn = worn } ∷ [] })
  look_later cell = ap (look_by (record n { tests = record { slot = slot; cells = cell; worn = worn } ∷ [] }) cell) (test_here slot cell worn)

  kept_test : (cell : ℕ) → ◌≡◌ {A = NodesState} (record n { tests = tests_without (record { slot = slot; cells = cell; worn = worn } ∷ []) slot ++ record { slot = slot; cells = cell + 1; worn = more } ∷ [] })
      (record n { tests = record { slot = slot; cells = cell + 1; worn = more } ∷ [] })
  kept_test cell = ap (λ (us : List Tested). record n { tests = us ++ record { slot = slot; cells = cell + 1; worn = more } ∷ [] }) (tests_gone slot cell worn)

  look_one : nodes_looked l (looked n slot 1 worn) slot 1 word ≡ looked n slot 2 more
  look_one = look_later 1 ∙ (ap (λ (b : Bool). if b && true then slot_tested (looked n slot 1 worn) (record { slot = slot; cells = 2; worn = more }) else looked n slot 1 worn) hand ∙ kept_test 1)

  look_two : nodes_looked l (looked n slot 2 worn) slot 2 word ≡ looked n slot 3 more
  look_two = look_later 2 ∙ (ap (λ (b : Bool). if b && true then slot_tested (looked n slot 2 worn) (record { slot = slot; cells = 3; worn = more }) else looked n slot 2 worn) hand ∙ kept_test 2)

  look_three : nodes_looked l (looked n slot 3 worn) slot 3 word ≡ looked n slot 4 more
  look_three = look_later 3 ∙ (ap (λ (b : Bool). if b && true then slot_tested (looked n slot 3 worn) (record { slot = slot; cells = 4; worn = more }) else looked n slot 3 worn) hand ∙ kept_test 3)

  look_four : n.tests ≡ [] → nodes_looked l (looked n slot 4 worn) slot 4 word ≡ looked n slot 5 more
  look_four none = look_later 4 ∙ (ap (λ (b : Bool). if b && true then slot_tested (looked n slot 4 worn) (record { slot = slot; cells = 5; worn = more }) else looked n slot 4 worn) hand
      ∙ back_by n (record { slot = slot; cells = 4; worn = worn } ∷ []) n.tests slot more (tests_gone slot 4 worn ∙ ap (λ ts. tests_without ts slot) (sym none)))

  look_first : n.tests ≡ [] → worn ≡ false → nodes_looked l n slot 0 word ≡ looked n slot 1 more
  look_first none fresh = ap (look_by n 0) (ap (λ ts. test_of ts slot) none)
      ∙ (ap (λ (b : Bool). if b && true then slot_tested n (record { slot = slot; cells = 1; worn = false || version_of word == l.version_max }) else n) hand
      ∙ (ap (λ (ts : List Tested). record n { tests = tests_without ts slot ++ record { slot = slot; cells = 1; worn = false || version_of word == l.version_max } ∷ [] }) none
      ∙ ap (λ (b : Bool). record n { tests = record { slot = slot; cells = 1; worn = b || version_of word == l.version_max } ∷ [] }) (sym fresh)))

  pub look_next : (cell : ℕ) → n.tests ≡ [] → cell < 5 → (cell ≡ 0 → worn ≡ false) → nodes_looked l (looked n slot cell worn) slot cell word ≡ looked n slot (cell + 1) more
  look_next zero none few fresh = look_first none (fresh refl)
  look_next (suc zero) none few fresh = look_one
  look_next (suc (suc zero)) none few fresh = look_two
  look_next (suc (suc (suc zero))) none few fresh = look_three
  look_next (suc (suc (suc (suc zero)))) none few fresh = look_four none
  look_next (suc (suc (suc (suc (suc cell))))) none few fresh = absurd (omega (arith, few))

pub hand_stays : (n : NodesState) (slot cell : ℕ) (worn : Bool) → cell < 5 → (looked n slot cell worn).hand ≡ n.hand
hand_stays n slot zero worn few = refl
hand_stays n slot (suc zero) worn few = refl
hand_stays n slot (suc (suc zero)) worn few = refl
hand_stays n slot (suc (suc (suc zero))) worn few = refl
hand_stays n slot (suc (suc (suc (suc zero)))) worn few = refl
hand_stays n slot (suc (suc (suc (suc (suc cell))))) worn few = absurd (omega (arith, few))

-- a list of Booleans with one more
any_more : (f : ℕ → Bool) (xs : List ℕ) (x : ℕ) → list_any f (xs ++ x ∷ []) ≡ (list_any f xs || f x)
any_more f [] x = last_one (f x)
  where
    last_one : (b : Bool) → (b || false) ≡ b
    last_one true = refl
    last_one false = refl
any_more f (y ∷ xs) x = ap (λ b. f y || b) (any_more f xs x) ∙ sym (grouped (f y) (list_any f xs) (f x))
  where
    grouped : (a b c : Bool) → ((a || b) || c) ≡ (a || (b || c))
    grouped true b c = refl
    grouped false b c = refl

none_left : (f : ℕ → Bool) (xs : List ℕ) → length xs ≡ 0 → list_any f xs ≡ false
none_left f [] e = refl
none_left f (x ∷ xs) e = absurd (omega (arith, e))

module _ {T : Type 0} (m : Meaning) where
  looks_more : (words : List ℕ) (slot cell word : ℕ) (r s r' : RunnerState T) → Looks m slot cell words r s → Makes m (kinds.PrivateLoad slot (cell + length words)) word s r'
      → Looks m slot cell (words ++ word ∷ []) r r'
  looks_more [] slot cell word r s r' same made =
      (r', subst (λ y. Makes m (kinds.PrivateLoad slot cell) word y r') same (subst (λ n. Makes m (kinds.PrivateLoad slot n) word s r') (let e : cell + 0 ≡ cell = omega arith in e) made), refl)
  looks_more (x ∷ words) slot cell word r s r' (y, one, rest) made =
      (y, one, looks_more words slot (cell + 1) word y s r' rest (subst (λ n. Makes m (kinds.PrivateLoad slot n) word s r') (let e : cell + suc (length words) ≡ cell + 1 + length words = omega arith in e) made))

  -- a runner with nothing looked at yet
  pub looks_begin : (slot : ℕ) (r : RunnerState T) → IsAt r stages.Idle None → IsLookedAt m slot 0 r r
  looks_begin slot r at = record {
    words = [];
    count = refl;
    looks = refl;
    nodes = refl;
    at = at;
    rest = record { number = refl; layout = refl; descriptors = refl; guards = refl; known = refl; finished = refl };
  }

  module _ (old r : RunnerState T) (slot cell : ℕ) (so : IsLookedAt m slot cell old r) (few : cell < 5) (hand : has old.part.nodes.hand slot ≡ true) (none : old.part.nodes.tests ≡ []) where
    in_hand : has r.part.nodes.hand slot ≡ true
    in_hand = ap (λ (n : NodesState). has n.hand slot) so.nodes
        ∙ (ap (λ xs. has xs slot) (hand_stays old.part.nodes slot cell (list_any (λ word. version_of word == old.layout.version_max) so.words) few) ∙ hand)

    -- the next cell may be loaded
    pub may_look : slot < slot_count old.layout m.fixed_slots → IsEnabled m (kinds.PrivateLoad slot cell) r
    may_look low =
        let wide = ap (λ (l : Layout). slot_count l m.fixed_slots) so.rest.layout in
        let within : nat_lt slot (slot_count r.layout m.fixed_slots) ≡ true = grind (arith, nat_tests, low, wide) in
        let small : nat_lt cell 5 ≡ true = grind (arith, nat_tests, few) in
        enabled m r (kinds.PrivateLoad slot cell) (spots.Cell (cell_of m.fixed_cells slot cell), Loads) so.at.present so.at.resting
        (ap (λ (b : Bool). if b then when (is_resting r.part.stage r.part.run && (nat_lt cell 5 && (has r.part.nodes.free slot || has r.part.nodes.hand slot))) (spots.Cell (cell_of m.fixed_cells slot cell)) Loads else
        (if nat_lt slot (blocks_from m r.layout)
        then when (is_resting r.part.stage r.part.run && has r.part.descriptors.free (slot - slot_count r.layout m.fixed_slots)) (descriptor_spot (slot - slot_count r.layout m.fixed_slots) cell) Loads
        else when (is_resting r.part.stage r.part.run && has r.part.blocks.free (slot - blocks_from m r.layout)) (block_spot (slot - blocks_from m r.layout) cell) Loads)) within
        ∙ ap (λ (b : Bool). when b (spots.Cell (cell_of m.fixed_cells slot cell)) Loads)
        ((λ i. is_resting (so.at.at i) (so.at.resting i) && (small i && (has r.part.nodes.free slot || in_hand i))) ∙ either_true (has r.part.nodes.free slot)))
        (let a = low in let b = few in omega (arith, a, b, wide))
      where
        either_true : (b : Bool) → (true && (true && (b || true))) ≡ true
        either_true true = refl
        either_true false = refl

    pub looks_on : slot < slot_count old.layout m.fixed_slots → (word : ℕ) (r' : RunnerState T) → Makes m (kinds.PrivateLoad slot cell) word r r'
        → IsLookedAt m slot (cell + 1) old r'
    looks_on low word r' made =
        let wide = ap (λ (l : Layout). slot_count l m.fixed_slots) so.rest.layout in
        let within : nat_lt slot (slot_count r.layout m.fixed_slots) ≡ true = grind (arith, nat_tests, low, wide) in
        let part : ◌≡◌ {A = PartState} (outside_after m r.layout (kinds.PrivateLoad slot cell) r.part word) (record (r.part) { nodes = nodes_looked r.layout r.part.nodes slot cell word }) =
        ap (λ (b : Bool). if b then record (r.part) { nodes = nodes_looked r.layout r.part.nodes slot cell word }
        else descriptor_known m r.layout slot cell r.part word) within in
        let f = λ (w : ℕ). version_of w == old.layout.version_max in
        let resting = so.at.resting in
        record {
          words = so.words ++ word ∷ [];
          count = length-append so.words (word ∷ []) ∙ (let e = so.count in omega (arith, e));
          looks = looks_more so.words slot 0 word old r r' so.looks (subst (λ n. Makes m (kinds.PrivateLoad slot n) word r r') (let a = so.count in let e : cell ≡ 0 + length so.words = omega (arith, a) in e) made);
          nodes = nodes_made m (kinds.PrivateLoad slot cell) word r r' made resting
              ∙ (ap (λ (p : PartState). p.nodes) part ∙ (λ i. nodes_looked (so.rest.layout i) (so.nodes i) slot cell word)
              ∙ (look_next old.layout old.part.nodes slot word (list_any f so.words) hand cell none few (λ e. none_left f so.words (so.count ∙ e))
              ∙ ap (looked old.part.nodes slot (cell + 1)) (sym (any_more f so.words word))));
          at = then_loaded_word m word r r' stages.Idle None slot cell so.at made;
          rest = record {
            number = ap (λ (y : RunnerState T). y.number) made.made ∙ so.rest.number;
            layout = ap (λ (y : RunnerState T). y.layout) made.made ∙ so.rest.layout;
            descriptors = descriptors_made m (kinds.PrivateLoad slot cell) word r r' made resting ∙ (ap (λ (p : PartState). p.descriptors) part ∙ so.rest.descriptors);
            guards = guards_made m (kinds.PrivateLoad slot cell) word r r' made resting ∙ (ap (λ (p : PartState). p.guards) part ∙ so.rest.guards);
            known = known_made m (kinds.PrivateLoad slot cell) word r r' made resting ∙ (ap (λ (p : PartState). p.records.known) part ∙ so.rest.known);
            finished = finished_made m (kinds.PrivateLoad slot cell) word r r' made resting ∙ (ap (λ (p : PartState). p.records.finished) part ∙ so.rest.finished);
          };
        }

-- slots that come back, with one more
unworn_more : (slots : List ℕ) (wears : List Bool) (slot : ℕ) (worn : Bool) → length slots ≡ length wears
    → unworn (slots ++ slot ∷ []) (wears ++ worn ∷ []) ≡ unworn slots wears ++ unworn (slot ∷ []) (worn ∷ [])
unworn_more [] [] slot worn same = refl
unworn_more [] (w ∷ wears) slot worn same = absurd (omega (arith, same))
unworn_more (x ∷ slots) [] slot worn same = absurd (omega (arith, same))
unworn_more (x ∷ slots) (true ∷ wears) slot worn same = unworn_more slots wears slot worn (omega (arith, same))
unworn_more (x ∷ slots) (false ∷ wears) slot worn same = ap (λ xs. x ∷ xs) (unworn_more slots wears slot worn (omega (arith, same)))

worn_more : (slots : List ℕ) (wears : List Bool) (slot : ℕ) (worn : Bool) → length slots ≡ length wears
    → worn_out (slots ++ slot ∷ []) (wears ++ worn ∷ []) ≡ worn_out slots wears ++ worn_out (slot ∷ []) (worn ∷ [])
worn_more [] [] slot worn same = refl
worn_more [] (w ∷ wears) slot worn same = absurd (omega (arith, same))
worn_more (x ∷ slots) [] slot worn same = absurd (omega (arith, same))
worn_more (x ∷ slots) (false ∷ wears) slot worn same = worn_more slots wears slot worn (omega (arith, same))
worn_more (x ∷ slots) (true ∷ wears) slot worn same = ap (λ xs. x ∷ xs) (worn_more slots wears slot worn (omega (arith, same)))

-- a slot that doesn't stand in a list isn't taken out of it
gone_one : (slot x : ℕ) (xs : List ℕ) (b : Bool) → x == slot ≡ b → times slot (x ∷ xs) ≡ 0 → (times slot xs ≡ 0 → without xs slot ≡ xs) → without (x ∷ xs) slot ≡ x ∷ xs
gone_one slot x xs true e none rest = absurd (let a : times slot (x ∷ xs) ≡ 1 + times slot xs = ap (λ b. cond b (1 + times slot xs) (times slot xs)) e in omega (arith, a, none))
gone_one slot x xs false e none rest = let a : times slot (x ∷ xs) ≡ times slot xs = ap (λ b. cond b (1 + times slot xs) (times slot xs)) e in
    ap (λ b. if not b then x ∷ without xs slot else without xs slot) e ∙ ap (λ ys. x ∷ ys) (rest (omega (arith, a, none)))

gone_from : (slot : ℕ) (xs : List ℕ) → times slot xs ≡ 0 → without xs slot ≡ xs
gone_from slot [] none = refl
gone_from slot (x ∷ xs) none = gone_one slot x xs (x == slot) refl none (gone_from slot xs)

first_gone : (slot : ℕ) (xs : List ℕ) → times slot (slot ∷ xs) ≤ 1 → without (slot ∷ xs) slot ≡ xs
first_gone slot xs once = let same = eq-eqb slot slot refl in
    let a : times slot (slot ∷ xs) ≡ 1 + times slot xs = ap (λ b. cond b (1 + times slot xs) (times slot xs)) same in
    ap (λ b. if not b then slot ∷ without xs slot else without xs slot) same ∙ gone_from slot xs (omega (arith, a, once))

times_more : (slot x n : ℕ) (xs : List ℕ) (b : Bool) → x == slot ≡ b → n ≤ times slot xs → n ≤ times slot (x ∷ xs)
times_more slot x n xs true e low = let a : times slot (x ∷ xs) ≡ 1 + times slot xs = ap (λ b. cond b (1 + times slot xs) (times slot xs)) e in omega (arith, a, low)
times_more slot x n xs false e low = let a : times slot (x ∷ xs) ≡ times slot xs = ap (λ b. cond b (1 + times slot xs) (times slot xs)) e in omega (arith, a, low)

times_drop : (slot : ℕ) (xs : List ℕ) (i : ℕ) → times slot (drop i xs) ≤ times slot xs
times_drop slot xs zero = omega arith
times_drop slot [] (suc i) = omega arith
times_drop slot (x ∷ xs) (suc i) = times_more slot x (times slot (drop i xs)) xs (x == slot) refl (times_drop slot xs i)

-- a member stands at least once
has_here : (slot : ℕ) (xs : List ℕ) → has (slot ∷ xs) slot ≡ true
has_here slot xs = ap (λ b. b || has xs slot) (eq-eqb slot slot refl)

has_more : (slot x : ℕ) (xs : List ℕ) → has xs slot ≡ true → has (x ∷ xs) slot ≡ true
has_more slot x xs is = ap (λ b. (x == slot) || b) is ∙ or_true (x == slot)
  where
    or_true : (b : Bool) → (b || true) ≡ true
    or_true true = refl
    or_true false = refl

has_drop : (slot : ℕ) (xs : List ℕ) (i : ℕ) → has (drop i xs) slot ≡ true → has xs slot ≡ true
has_drop slot xs zero is = is
has_drop slot [] (suc i) is = is
has_drop slot (x ∷ xs) (suc i) is = has_more slot x xs (has_drop slot xs i is)

plus_one : (n : ℕ) → suc n ≡ n + 1
plus_one n = omega arith

-- the own slots once one more came back: the front of the hand
module _ (n : NodesState) (done : List ℕ) (slot : ℕ) (rest : List ℕ) (wears : List Bool) (each : length done ≡ length wears) (none : n.tests ≡ []) (once : times slot (slot ∷ rest) ≤ 1) where
  no_test : tests_without n.tests slot ≡ n.tests
  no_test = ap (λ ts. tests_without ts slot) none ∙ sym none

  pub back_more : (worn : Bool) → slot_back (given_back n done (slot ∷ rest) wears) slot worn ≡ given_back n (done ++ slot ∷ []) rest (wears ++ worn ∷ [])
  back_more true = (λ i. record n {
    free = n.free ++ sides i;
    hand = first_gone slot rest once i;
    tests = no_test i;
    worn = ends i;
  })
    where
      sides : unworn done wears ≡ unworn (done ++ slot ∷ []) (wears ++ true ∷ [])
      sides = sym (unworn_more done wears slot true each ∙ append-nil (unworn done wears))

      ends : (n.worn ++ worn_out done wears) ++ slot ∷ [] ≡ n.worn ++ worn_out (done ++ slot ∷ []) (wears ++ true ∷ [])
      ends = append_assoc n.worn (worn_out done wears) (slot ∷ []) ∙ ap (λ xs. n.worn ++ xs) (sym (worn_more done wears slot true each))
  back_more false = (λ i. record n {
    free = ends i;
    hand = first_gone slot rest once i;
    tests = no_test i;
    worn = n.worn ++ sides i;
  })
    where
      sides : worn_out done wears ≡ worn_out (done ++ slot ∷ []) (wears ++ false ∷ [])
      sides = sym (worn_more done wears slot false each ∙ append-nil (worn_out done wears))

      ends : (n.free ++ unworn done wears) ++ slot ∷ [] ≡ n.free ++ unworn (done ++ slot ∷ []) (wears ++ false ∷ [])
      ends = append_assoc n.free (unworn done wears) (slot ∷ []) ∙ ap (λ xs. n.free ++ xs) (sym (unworn_more done wears slot false each))

module _ {T : Type 0} (m : Meaning) where
  tested_more : (slots : List ℕ) (wears : List Bool) (slot : ℕ) (worn : Bool) (r s r' : RunnerState T) → AreTested m slots wears r s → IsTested m slot worn s r'
      → AreTested m (slots ++ slot ∷ []) (wears ++ worn ∷ []) r r'
  tested_more [] [] slot worn r s r' (none, same) one = (r', subst (λ y. IsTested m slot worn y r') same one, (refl, refl))
  tested_more [] (w ∷ wears) slot worn r s r' (none, same) one = absurd (no_list none)
    where
      no_list : w ∷ wears ≡ [] → ⊥
      no_list e = cc
  tested_more (x ∷ slots) [] slot worn r s r' never one = absurd never
  tested_more (x ∷ slots) (w ∷ wears) slot worn r s r' (y, first, rest) one = (y, first, tested_more slots wears slot worn y s r' rest one)

  pub back_begins : (r : RunnerState T) → IsAt r stages.Idle None → IsBack m 0 r r
  back_begins r at = record {
    wears = [];
    each = refl;
    tested = (refl, refl);
    nodes = (λ i. record (r.part.nodes) { free = sym (append-nil r.part.nodes.free) i; worn = sym (append-nil r.part.nodes.worn) i });
    at = at;
    rest = record { number = refl; layout = refl; descriptors = refl; guards = refl; known = refl; finished = refl };
  }

  module _ (old r : RunnerState T) (count : ℕ) (so : IsBack m count old r) (few : count < length old.part.nodes.hand) (none : old.part.nodes.tests ≡ []) (own : HandIsOwn m old) where
    abbrev slot_next : ℕ
    slot_next = get_or old.part.nodes.hand count 0

    abbrev left : List ℕ
    left = drop (suc count) old.part.nodes.hand

    split : drop count old.part.nodes.hand ≡ slot_next ∷ left
    split = drop-cons old.part.nodes.hand count 0 few

    pub in_front : r.part.nodes.hand ≡ slot_next ∷ left
    in_front = ap (λ (n : NodesState). n.hand) so.nodes ∙ split

    pub untested : r.part.nodes.tests ≡ []
    untested = ap (λ (n : NodesState). n.tests) so.nodes ∙ none

    pub is_own : slot_next < slot_count r.layout m.fixed_slots
    is_own = let low = own.within slot_next (has_drop slot_next old.part.nodes.hand count (ap (λ xs. has xs slot_next) split ∙ has_here slot_next left)) in
        let wide = ap (λ (l : Layout). slot_count l m.fixed_slots) so.rest.layout in omega (arith, low, wide)

    once : times slot_next (slot_next ∷ left) ≤ 1
    once = let a = times_drop slot_next old.part.nodes.hand count in let b = own.once slot_next in let c = ap (times slot_next) split in omega (arith, a, b, c)

    pub back_on : (r' : RunnerState T) → IsLookedAt m slot_next 5 r r' → IsBack m (count + 1) old r'
    back_on r' one =
        let worn = list_any (λ word. version_of word == r.layout.version_max) one.words in
        let done = take count old.part.nodes.hand in
        let more : take (count + 1) old.part.nodes.hand ≡ done ++ slot_next ∷ [] = ap (λ k. take k old.part.nodes.hand) (sym (plus_one count)) ∙ take-suc old.part.nodes.hand count 0 few in
        let each : length done ≡ length so.wears = length-take-le count old.part.nodes.hand (omega (arith, few)) ∙ sym so.each in
        record {
          wears = so.wears ++ worn ∷ [];
          each = length-append so.wears (worn ∷ []) ∙ (let e = so.each in omega (arith, e));
          tested = subst (λ xs. AreTested m xs (so.wears ++ worn ∷ []) old r') (sym more)
              (tested_more done so.wears slot_next worn old r r' so.tested (record { words = one.words; five = one.count; looks = one.looks; told = refl }));
          nodes = one.nodes ∙ (ap (λ (n : NodesState). slot_back n slot_next worn) (so.nodes ∙ ap (λ xs. given_back old.part.nodes done xs so.wears) split)
              ∙ (back_more old.part.nodes done slot_next left so.wears each none once worn
              ∙ (λ i. given_back old.part.nodes (sym more i) (drop (plus_one count i) old.part.nodes.hand) (so.wears ++ worn ∷ []))));
          at = one.at;
          rest = record {
            number = one.rest.number ∙ so.rest.number;
            layout = one.rest.layout ∙ so.rest.layout;
            descriptors = one.rest.descriptors ∙ so.rest.descriptors;
            guards = one.rest.guards ∙ so.rest.guards;
            known = one.rest.known ∙ so.rest.known;
            finished = one.rest.finished ∙ so.rest.finished;
          };
        }
