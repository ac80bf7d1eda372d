-- How the room of a runner's slots changes with its part, where the words are these.
use Rattle.std.specs.Prelude.{◌==◌, ◌||◌, ◌&&◌, nat_lt, Bool, true, false, if◌then◌else◌}
use Rattle.std.proofs.Common.{◌≡◌, ◌≢◌, ℕ, ◌<◌, ◌≤◌, List, [], ◌∷◌, ◌++◌, ⊎_elim, sym, refl, ap, ◌∙◌, subst, arith, Some}
use Rattle.std.proofs.lemmas.Bool.Decides.{nat_tests}
use Rattle.std.proofs.lemmas.Bool.{cases_eq}
use Rattle.machine_states.specs.body_terms.specs.Memory.{cell_of}
use Rattle.machine_states.specs.body_terms.specs.Word.{version_of}
use Rattle.machine_states.specs.table_words.specs.declared.layout.Layout.{Layout}
use Rattle.machine_states.specs.table_words.specs.declared.spot.Spot.{Spot}
use Rattle.machine_states.specs.table_words.specs.declared.spot.Spot.TheVariants.{Cell}
use Rattle.machine_states.specs.structure_laws.specs.Meaning.{Meaning}
use Rattle.machine_states.specs.runner_parts.specs.declared.entries.Tested.{Tested}
use Rattle.machine_states.specs.runner_parts.specs.State.{RunState, PartState, NodesState}
use Rattle.machine_states.specs.runner_parts.specs.Tests.{has}
use Rattle.machine_states.specs.runner_parts.specs.Lists.{without, test_of, tests_without, slot_back, slot_tested, one_more, nodes_looked, slot_taken, slot_made}
use Rattle.machine_states.specs.runner_steps.specs.AfterOutside as outside
use Rattle.machine_invariant.specs.machine_blocks.specs.machine_guards.specs.machine_agreement.specs.machine_epochs.proofs.Places.{has_append}
use Rattle.next_steps.specs.Rooms.{CellHasRoom, MakeHasRoom, SlotsHaveRoom}
use Rattle.next_steps.proofs.Tests.{without_has, without_not, either_has, test_slot, tests_without_other, tests_without_own, tests_push_own, tests_push_other}
use Rattle.machine_invariant.proofs.Basics.{not_both}

-- the slots that Makes may take or look at, and what was looked at, are the same
pub record SameNodes (n n' : NodesState) : Type 0 where
  pub free : n'.free ≡ n.free
  pub hand : n'.hand ≡ n.hand
  pub tests : n'.tests ≡ n.tests

pub same_nodes : (n : NodesState) → SameNodes n n
same_nodes n = record { free = refl; hand = refl; tests = refl }

-- the part is in no Make
pub record MakesNone (p : PartState) : Type 0 where
  pub never : (q : RunState) (t : ℕ) → p.run ≡ Some q → q.made ≡ Some t → ⊥

first_no : (xs ys : List ℕ) (t : ℕ) → has (xs ++ ys) t ≡ false → has xs t ≡ false
first_no xs ys t e = by (has xs t) refl
  where
    by : (b : Bool) → has xs t ≡ b → b ≡ false
    by true one = not_both (has_append xs ys t ∙ ap (λ b. b || has ys t) one) e
    by false one = refl

pub one_has : (a t : ℕ) → has (a ∷ []) t ≡ true → t ≡ a
one_has a t e = grind (arith, nat_tests)

module _ (m : Meaning) (l : Layout) (word : Spot → ℕ) where
  abbrev Rooms : PartState → Type 0
  Rooms p = SlotsHaveRoom m l word p

  -- a part with the same slots that is in no Make
  pub kept_room : (p p' : PartState) → SameNodes p.nodes p'.nodes → MakesNone p' → Rooms p → Rooms p'
  kept_room p p' same none old = record {
    free = λ t i own. old.free t i (ap (λ xs. has xs t) (sym same.free) ∙ own);
    made = λ q t is made. absurd (none.never q t is made);
    looked = λ t i own unworn low. old.looked t i (ap (λ xs. has xs t) (sym same.hand) ∙ own)
        (ap (λ (xs : List Tested). (test_of xs t).worn) (sym same.tests) ∙ unworn)
        (subst (λ (xs : List Tested). i < (test_of xs t).cells) same.tests low);
    unlooked = λ t no_hand. ap (λ (xs : List Tested). (test_of xs t).cells) same.tests
        ∙ old.unlooked t (ap (λ xs. has xs t) (sym same.hand) ∙ no_hand);
    unlooked_made = λ q t is made. absurd (none.never q t is made);
  }

  -- slots come out of limbo
  pub collected_room : (p : PartState) (epoch : ℕ) → Rooms p → MakesNone (outside.collected p epoch) → Rooms (outside.collected p epoch)
  collected_room p epoch old none = record {
    free = old.free;
    made = λ q t is made. absurd (none.never q t is made);
    looked = λ t i own unworn low five. by t i (has p.nodes.hand t) refl unworn low five;
    unlooked = λ t no_hand. old.unlooked t (first_no p.nodes.hand _ t no_hand);
    unlooked_made = λ q t is made. absurd (none.never q t is made);
  }
    where
      by : (t i : ℕ) (b : Bool) → has p.nodes.hand t ≡ b → (test_of p.nodes.tests t).worn ≡ false → i < (test_of p.nodes.tests t).cells → i < 5
          → CellHasRoom m l word t i
      by t i true own unworn low five = old.looked t i own unworn low five
      by t i false no_hand unworn low five = absurd (let none = old.unlooked t no_hand in omega arith)

  -- what was looked at of the slots that stay in the hand where one leaves it
  module _ (p : PartState) (slot : ℕ) (old : Rooms p) where
    looked_back : (t i : ℕ) → has (without p.nodes.hand slot) t ≡ true → (test_of (tests_without p.nodes.tests slot) t).worn ≡ false
        → i < (test_of (tests_without p.nodes.tests slot) t).cells → i < 5 → CellHasRoom m l word t i
    looked_back t i own unworn low five =
        let h = without_has p.nodes.hand slot t own in
        let same = tests_without_other p.nodes.tests slot t h.1 in
        old.looked t i h.0 (ap (λ (x : Tested). x.worn) (sym same) ∙ unworn) (subst (λ (x : Tested). i < x.cells) same low) five

    unlooked_back : (t : ℕ) → has (without p.nodes.hand slot) t ≡ false → (test_of (tests_without p.nodes.tests slot) t).cells ≡ 0
    unlooked_back t no_hand = ⊎_elim
        (λ same. ap (λ n. (test_of (tests_without p.nodes.tests slot) n).cells) same ∙ tests_without_own p.nodes.tests slot)
        (λ ne. ap (λ (x : Tested). x.cells) (tests_without_other p.nodes.tests slot t ne)
        ∙ old.unlooked t (sym (without_not p.nodes.hand slot t ne) ∙ no_hand))
        (cases_eq t slot)

  -- a slot of the hand comes back
  pub back_room : (p : PartState) (slot : ℕ) (worn : Bool) → Rooms p → (worn ≡ false → (i : ℕ) → i < 5 → CellHasRoom m l word slot i)
      → (p' : PartState) → p'.nodes ≡ slot_back p.nodes slot worn → MakesNone p' → Rooms p'
  back_room p slot true old all p' is none = subst (λ (n : NodesState). Rooms (record p' { nodes = n })) (sym is) (record {
    free = old.free;
    made = λ q t at made. absurd (none.never q t at made);
    looked = λ t i own unworn low five. looked_back p slot old t i own unworn low five;
    unlooked = λ t no_hand. unlooked_back p slot old t no_hand;
    unlooked_made = λ q t at made. absurd (none.never q t at made);
  })
  back_room p slot false old all p' is none = subst (λ (n : NodesState). Rooms (record p' { nodes = n })) (sym is) (record {
    free = λ t i own five. ⊎_elim (λ before. old.free t i before five)
        (λ new. subst (λ n. CellHasRoom m l word n i) (sym (one_has slot t new)) (all refl i five)) (either_has p.nodes.free (slot ∷ []) t own);
    made = λ q t at made. absurd (none.never q t at made);
    looked = λ t i own unworn low five. looked_back p slot old t i own unworn low five;
    unlooked = λ t no_hand. unlooked_back p slot old t no_hand;
    unlooked_made = λ q t at made. absurd (none.never q t at made);
  })

  -- a slot of the hand in which one more cell was looked at
  looked_more : (p : PartState) (x : Tested) → Rooms p → has p.nodes.hand x.slot ≡ true
      → (x.worn ≡ false → (i : ℕ) → i < x.cells → i < 5 → CellHasRoom m l word x.slot i)
      → (p' : PartState) → p'.nodes ≡ record (p.nodes) { tests = tests_without p.nodes.tests x.slot ++ x ∷ [] } → MakesNone p' → Rooms p'
  looked_more p x old own room p' is none = subst (λ (n : NodesState). Rooms (record p' { nodes = n })) (sym is) (record {
    free = old.free;
    made = λ q t at made. absurd (none.never q t at made);
    looked = λ t i hand unworn low five. ⊎_elim
        (λ same. subst (λ n. CellHasRoom m l word n i) (sym same)
        (let entry = ap (test_of (tests_without p.nodes.tests x.slot ++ x ∷ [])) same ∙ tests_push_own p.nodes.tests x in
        room (ap (λ (y : Tested). y.worn) (sym entry) ∙ unworn) i (subst (λ (y : Tested). i < y.cells) entry low) five))
        (λ ne. let entry = tests_push_other p.nodes.tests x t ne in
        old.looked t i hand (ap (λ (y : Tested). y.worn) (sym entry) ∙ unworn) (subst (λ (y : Tested). i < y.cells) entry low) five)
        (cases_eq t x.slot);
    unlooked = λ t no_hand. ⊎_elim
        (λ same. not_both (ap (has p.nodes.hand) same ∙ own) no_hand)
        (λ ne. ap (λ (y : Tested). y.cells) (tests_push_other p.nodes.tests x t ne) ∙ old.unlooked t no_hand)
        (cases_eq t x.slot);
    unlooked_made = λ q t at made. absurd (none.never q t at made);
  })

  pub tested_room : (p : PartState) (x : Tested) → Rooms p → has p.nodes.hand x.slot ≡ true
      → (x.worn ≡ false → (i : ℕ) → i < x.cells → i < 5 → CellHasRoom m l word x.slot i)
      → (p' : PartState) → p'.nodes ≡ slot_tested p.nodes x → MakesNone p' → Rooms p'
  tested_room p x old own room p' is none = by (x.cells == 5) refl is
    where
      five : (a i : ℕ) → (a == 5) ≡ true → i < 5 → i < a
      five a i e low = grind (arith, nat_tests)

      by : (b : Bool) → (x.cells == 5) ≡ b
          → p'.nodes ≡ (if b then slot_back p.nodes x.slot x.worn else record (p.nodes) { tests = tests_without p.nodes.tests x.slot ++ x ∷ [] }) → Rooms p'
      by true e is = back_room p x.slot x.worn old (λ unworn i low. room unworn i (five x.cells i e low) low) p' is none
      by false e is = looked_more p x old own room p' is none

  -- a private load outside a run
  module _ (p : PartState) (slot cell found : ℕ) (old : Rooms p)
      (finds : has p.nodes.hand slot ≡ true → cell < 5 → (found ≡ word (Cell (cell_of m.fixed_cells slot cell))) × (version_of found ≤ l.version_max)) where
    abbrev x : Tested
    x = test_of p.nodes.tests slot

    three : (a : Bool) (cell n : ℕ) → (a && (cell == n && nat_lt cell 5)) ≡ true → (a ≡ true) × (cell ≡ n) × (cell < 5)
    three a cell n e = grind (arith, nat_tests)

    split : (w : Bool) (v max : ℕ) → (w || v == max) ≡ false → (w ≡ false) × (v ≢ max)
    split w v max e = grind (arith, nat_tests)

    below_max : (v max : ℕ) → v ≤ max → v ≢ max → v < max
    below_max v max le ne = search arith

    more : (own : has p.nodes.hand slot ≡ true) → cell ≡ x.cells → cell < 5 → (one_more l x found).worn ≡ false
        → (i : ℕ) → i < (one_more l x found).cells → i < 5 → CellHasRoom m l word slot i
    more own here low unworn i below five =
        let f = finds own low in
        let h = split x.worn (version_of found) l.version_max unworn in
        ⊎_elim
        (λ last. subst (λ n. CellHasRoom m l word slot n) (sym (last ∙ sym here))
        (subst (λ n. version_of n < l.version_max) f.0 (below_max (version_of found) l.version_max f.1 h.1)))
        (λ ne. old.looked slot i own h.0 (omega arith) five)
        (cases_eq i x.cells)

    pub looked_room : (p' : PartState) → p'.nodes ≡ nodes_looked l p.nodes slot cell found → MakesNone p' → Rooms p'
    looked_room p' is none = by (has p.nodes.hand slot && (cell == x.cells && nat_lt cell 5)) refl is
      where
        by : (b : Bool) → (has p.nodes.hand slot && (cell == x.cells && nat_lt cell 5)) ≡ b
            → p'.nodes ≡ (if b then slot_tested p.nodes (one_more l x found) else p.nodes) → Rooms p'
        by true e is =
            let h = three _ cell x.cells e in
            let same = test_slot p.nodes.tests slot in
            tested_room p (one_more l x found) old (ap (has p.nodes.hand) same ∙ h.0)
            (λ unworn i low five. subst (λ n. CellHasRoom m l word n i) (sym same) (more h.0 h.1 h.2 unworn i low five)) p' is none
        by false e is = kept_room p p' (subst (SameNodes p.nodes) (sym is) (same_nodes p.nodes)) none old

  -- the first private load of a Make takes a free slot
  pub taken_room : (p : PartState) (slot : ℕ) → Rooms p → has p.nodes.hand slot ≡ false
      → (p' : PartState) → p'.nodes ≡ slot_taken p.nodes slot
      → ((q : RunState) (t : ℕ) → p'.run ≡ Some q → q.made ≡ Some t → (t ≡ slot) × MakeHasRoom m l word q t) → Rooms p'
  taken_room p slot old no_hand p' is makes = subst (λ (n : NodesState). Rooms (record p' { nodes = n })) (sym is) (record {
    free = λ t i own five. old.free t i (without_has p.nodes.free slot t own).0 five;
    made = λ q t at made. (makes q t at made).1;
    looked = λ t i own unworn low five. by t i (has p.nodes.hand t) refl unworn low five;
    unlooked = λ t none. old.unlooked t (first_no p.nodes.hand (slot ∷ []) t none);
    unlooked_made = λ q t at made. ap (λ n. (test_of p.nodes.tests n).cells) (makes q t at made).0 ∙ old.unlooked slot no_hand;
  })
    where
      by : (t i : ℕ) (b : Bool) → has p.nodes.hand t ≡ b → (test_of p.nodes.tests t).worn ≡ false → i < (test_of p.nodes.tests t).cells → i < 5
          → CellHasRoom m l word t i
      by t i true own unworn low five = old.looked t i own unworn low five
      by t i false none unworn low five = absurd (let nothing = old.unlooked t none in omega arith)

  -- a Make goes on
  pub going_room : (p p' : PartState) → SameNodes p.nodes p'.nodes → Rooms p
      → ((q : RunState) (t : ℕ) → p'.run ≡ Some q → q.made ≡ Some t → MakeHasRoom m l word q t × ((test_of p.nodes.tests t).cells ≡ 0)) → Rooms p'
  going_room p p' same old makes = record {
    free = λ t i own. old.free t i (ap (λ xs. has xs t) (sym same.free) ∙ own);
    made = λ q t is made. (makes q t is made).0;
    looked = λ t i own unworn low. old.looked t i (ap (λ xs. has xs t) (sym same.hand) ∙ own)
        (ap (λ (xs : List Tested). (test_of xs t).worn) (sym same.tests) ∙ unworn)
        (subst (λ (xs : List Tested). i < (test_of xs t).cells) same.tests low);
    unlooked = λ t no_hand. ap (λ (xs : List Tested). (test_of xs t).cells) same.tests
        ∙ old.unlooked t (ap (λ xs. has xs t) (sym same.hand) ∙ no_hand);
    unlooked_made = λ q t is made. ap (λ (xs : List Tested). (test_of xs t).cells) same.tests ∙ (makes q t is made).1;
  }

  -- a Make's commit won
  pub made_room : (p : PartState) (slot : ℕ) → Rooms p → (test_of p.nodes.tests slot).cells ≡ 0
      → (p' : PartState) → p'.nodes ≡ slot_made p.nodes slot → MakesNone p' → Rooms p'
  made_room p slot old nothing p' is none = subst (λ (n : NodesState). Rooms (record p' { nodes = n })) (sym is) (record {
    free = old.free;
    made = λ q t at made. absurd (none.never q t at made);
    looked = λ t i own. old.looked t i (without_has p.nodes.hand slot t own).0;
    unlooked = λ t no_hand. ⊎_elim
        (λ same. ap (λ n. (test_of p.nodes.tests n).cells) same ∙ nothing)
        (λ ne. old.unlooked t (sym (without_not p.nodes.hand slot t ne) ∙ no_hand))
        (cases_eq t slot);
    unlooked_made = λ q t at made. absurd (none.never q t at made);
  })
