-- A walk that is refused by no lock and by no mark of 1 is a long one.
use Rattle.std.proofs.Common.{◌≡◌, ◌≢◌, ℕ, suc, ◌<◌, ◌≤◌, inl, inr, ⊎_elim, [], ◌∷◌, ◌++◌, length, Bool, true, false, cond, refl, sym, ap, subst, ◌∙◌, arith, Some}
use Rattle.std.specs.Prelude.{◌==◌, ◌&&◌, ◌||◌, not, ◌-◌, ◌%◌, ◌^◌, nat_lt, nat_le, slice_get}
use Rattle.std.specs.List.{list_any}
use Rattle.std.proofs.lemmas.Bool.Decides.{nat_tests}
use Rattle.std.proofs.lemmas.Option.{none-some}
use Rattle.std.proofs.lemmas.Bool.{and_from}
use Rattle.runner_parts.specs.epoch_core.specs.small_lemmas.proofs.Bools.{from_false as false_true}
use Rattle.runner_parts.specs.epoch_core.specs.small_lemmas.proofs.Lists.{same_number as some_eq, get_last as get_new}
use Rattle.runner_parts.specs.epoch_core.specs.small_lemmas.proofs.Numbers.{tested_most as below}
use Rattle.runner_parts.specs.structure_laws.specs.map_history.specs.declared.op.Op.{Op}
use Rattle.runner_parts.specs.structure_laws.specs.map_history.specs.Keys.{key_of}
use Rattle.tree_laws.specs.node_laws.proofs.Cells.{lock_cell}
use Rattle.tree_laws.specs.shared_laws.proofs.Numbers.{get_longer}
use Rattle.tree_laws.specs.section_body.specs.Bucket.{is_small}
use Rattle.runner_parts.specs.structure_laws.specs.body_terms.specs.Word.{value_of}
use Rattle.runner_parts.specs.structure_laws.specs.body_terms.proofs.ShapeLemmas.{any_found, found_any}
use Rattle.runner_parts.specs.block_words.specs.table_words.specs.declared.layout.Layout.{Layout}
use Rattle.runner_parts.specs.block_words.specs.table_words.specs.Limits.{IsWithinLimits}
use Rattle.runner_parts.specs.block_words.specs.table_words.specs.Places.{slot_count}
use Rattle.runner_parts.specs.structure_laws.specs.Scene.{Readings}
use Rattle.runner_parts.specs.structure_laws.specs.Sections.{IsAllowed}
use Rattle.runner_parts.specs.structure_laws.proofs.Changes.{both_true, equal_of}
use Rattle.tree_laws.specs.bucket_laws.specs.Walk.{Bounds, is_del}
use Rattle.tree_laws.specs.tree_bodies.specs.Tree.{lock_of, key_cell, left_of, right_of, mark_of}
use Rattle.tree_laws.specs.Walk.{Stage, AtRoot, AtLeft, AtKey, AtRight, AtValue, AtGrandLock, AtGrandMark, AtLock, AtMark, AtEnd, Refused, Walk, start, node_of, wanted_at, is_end, after_leaf, at_key, fed}
use Rattle.tree_laws.specs.Leaves.{bounds, walk_of, is_lock_place, is_left_place, is_right_place, shows_inner, shows_link, TreeWalked}
use Rattle.tree_laws.proofs.WalkReads.{IsAmong, IsGiven, IsFrom, walk_reads}
use Rattle.tree_walks.specs.Walking.{lock_by, is_refused_at, is_refused_in}
use Rattle.tree_walks.specs.Leading.{is_mark_place, FarLaw}
use Rattle.tree_walks.proofs.Knowing.{Knows, knows_walked}
use Rattle.tree_walks.proofs.Leading.{low_slot}

not_zero : (a : ℕ) → 0 < a → (a == 0) ≡ false
not_zero a some = grind (arith, nat_tests)

is_zero : (a : ℕ) → (a == 0) ≡ true → a ≡ 0
is_zero a h = grind arith

module _ (readings : Readings) (last : ℕ × ℕ) where
  abbrev all : Readings
  all = readings ++ last ∷ []

  any_more : (f g : ℕ × ℕ → Bool) → ((x : ℕ × ℕ) → f x ≡ true → g x ≡ true) → list_any f readings ≡ true → list_any g all ≡ true
  any_more f g passes any = let found = any_found f readings any in
      found_any g all found.at found.element (get_longer readings last found.element found.at found.here)
      (passes found.element found.passes)

  inner_more : (p : ℕ) → shows_inner readings p ≡ true → shows_inner all p ≡ true
  inner_more p shows = any_more (λ reading. reading.0 == p && nat_lt 0 (value_of reading.1)) (λ reading. reading.0 == p && nat_lt 0 (value_of reading.1)) (λ x passes. passes) shows

  link_more : (p : ℕ) → shows_link readings p ≡ true → shows_link all p ≡ true
  link_more p shows = by (is_left_place p) (is_right_place p) (shows_inner readings (p - 1)) shows (inner_more (p - 1))
    where
      by : (left right inner : Bool) → (left || (right && inner)) ≡ true → (inner ≡ true → shows_inner all (p - 1) ≡ true) → (left || (right && shows_inner all (p - 1))) ≡ true
      by true right inner e more = refl
      by false true true e more = more refl
      by false true false e more = false_true e
      by false false inner e more = false_true e

  given_more : (t : ℕ) → IsGiven readings t → IsGiven all t
  given_more t given = any_more (λ reading. shows_link readings reading.0 && (value_of reading.1 == suc t)) (λ reading. shows_link all reading.0 && (value_of reading.1 == suc t))
      (λ x passes. let tests = both_true (shows_link readings x.0) (value_of x.1 == suc t) passes in and_from (shows_link all x.0) (value_of x.1 == suc t) (link_more x.0 tests.0) tests.1) given

  from_more : (t : ℕ) → IsFrom readings t → IsFrom all t
  from_more t (inl fixed) = inl fixed
  from_more t (inr given) = inr (given_more t given)

-- behind a link that isn't 0
link_far : (c none far : Bool) → none ≡ false
    → (is_refused_at (cond none Refused (cond far Refused AtLeft)) || (is_end (cond none Refused (cond far Refused AtLeft)) && c)) ≡ true → far ≡ true
link_far c true far some e = false_true (sym some)
link_far c false true some e = refl
link_far c false false some e = false_true e

module _ (layout : Layout) (limits : IsWithinLimits layout) (op : Op) (allowed : IsAllowed op) (all : Readings) (walked : TreeWalked layout all) where
  abbrev b : Bounds
  b = bounds layout

  small_lock : (t : ℕ) → t < slot_count layout 3 → is_small (lock_of t) ≡ true
  small_lock t low = let nodes = limits.few_nodes in let runners = limits.few_runners in let less : lock_of t < 2 ^ 32 = omega (arith, nodes, runners, low) in test (lock_of t) less
    where
      test : (n : ℕ) → n < 2 ^ 32 → is_small n ≡ true
      test n less = grind arith

  -- a mark is 0 or 1
  module _ (t place word : ℕ) (is : mark_of t ≡ place) (among : IsAmong all place word) (inner : shows_inner all (left_of t) ≡ true) (unmarked : is_mark_place place ≡ true → value_of word ≢ 1) where
    mark_test : is_mark_place place ≡ true
    mark_test = let rest : place % 5 ≡ 4 = omega (arith, is) in test (place % 5) rest
      where
        test : (n : ℕ) → n ≡ 4 → (n == 4) ≡ true
        test n e = grind arith

    mark_zero : value_of word ≡ 0
    mark_zero = let few = walked.marks among.0 t word (subst (λ p. slice_get all among.0 ≡ Some (p, word)) (sym is) among.1) inner in let ne = unmarked mark_test in omega (arith, few, ne)

  module _ (w : Walk) (from : IsFrom all w.last.from) (grand_from : IsFrom all w.grand.from) where
    small_outer : is_small (lock_by op w) ≡ true
    small_outer = by (is_del op && w.found)
      where
        by : (removes : Bool) → is_small (cond removes (lock_of w.grand.from) (lock_of w.last.from)) ≡ true
        by true = small_lock w.grand.from (low_slot layout all (inr walked) w.grand.from grand_from)
        by false = small_lock w.last.from (low_slot layout all (inr walked) w.last.from from)

    abbrev IsFar : Stage → ℕ → Type 0
    IsFar stage word = is_refused_in op (fed b op w stage word) ≡ true → b.links ≤ (fed b op w stage word).links

    -- a removal's leaf isn't the first sentinel
    not_first : (word : ℕ) → w.deep ≡ false → Knows b op all w AtKey → value_of w.left ≡ 0 → IsAmong all (key_cell (node_of w)) word → value_of word ≡ key_of op → ⊥
    not_first word shallow known leaf among found =
        let top = known.0.top shallow in let left = known.1 in
        ⊎_elim
        (λ first. (let key = walked.first_key among.0 word (subst (λ t. slice_get all among.0 ≡ Some (key_cell t, word)) first among.1) in
        let low = allowed.keys (key_of op) (inl refl) in omega (arith, key, low, found)))
        (λ some. omega (arith, some, leaf))
        (walked.under_root top.0 left.0 w.last.word w.left top.1 left.1)

    far_key : (leaf less : Bool) (word : ℕ) → (value_of w.left == 0) ≡ leaf → Knows b op all w AtKey → IsAmong all (key_cell (node_of w)) word
        → is_refused_in op (at_key b op w leaf less word) ≡ true → b.links ≤ (at_key b op w leaf less word).links
    far_key true less word test known among refused = absurd (by (is_del op) w.deep (value_of word == key_of op) refl refl refused)
      where
        by : (del deep found : Bool) → w.deep ≡ deep → (value_of word == key_of op) ≡ found
            → (is_refused_at (after_leaf op deep found) || (is_end (after_leaf op deep found) && not (is_small (lock_by op (record w { stage = after_leaf op deep found; key = value_of word; found = found }))))) ≡ true → ⊥
        by del deep false is has e = false_true e
        by del true true is has e = no_refusal (is_del op) e
          where
            no_refusal : (del : Bool) → (is_refused_at (cond del AtGrandLock AtValue) || (is_end (cond del AtGrandLock AtValue) && not (is_small (lock_by op (record w { key = value_of word; found = true }))))) ≡ true → ⊥
            no_refusal true e = false_true e
            no_refusal false e = false_true e
        by del false true is has e = not_first word is known (is_zero (value_of w.left) test) among (equal_of (value_of word) (key_of op) has)
    far_key false true word test known among refused = below b.links (suc w.links) (link_far _ (value_of w.left == 0) (nat_le b.links (suc w.links)) test refused)
    far_key false false word test known among refused = false_true refused

    far_at : (stage : Stage) (place word : ℕ) → Knows b op all w stage → wanted_at w stage ≡ Some place → IsAmong all place word → is_lock_place place ≡ false
        → (is_mark_place place ≡ true → value_of word ≢ 1) → IsFar stage word
    far_at AtRoot place word known wants among lock mark refused =
        let some = walked.root_left among.0 word (subst (λ p. slice_get all among.0 ≡ Some (p, word)) (sym (some_eq (left_of 0) place wants)) among.1) in
        below b.links 1 (link_far _ (value_of word == 0) (nat_le b.links 1) (not_zero (value_of word) some) refused)
    far_at AtLeft place word known wants among lock mark refused = false_true refused
    far_at AtKey place word known wants among lock mark refused = far_key (value_of w.left == 0) (nat_lt (key_of op) (value_of word)) word refl known
        (subst (λ p. IsAmong all p word) (sym (some_eq (key_cell (node_of w)) place wants)) among) refused
    far_at AtRight place word known wants among lock mark refused =
        let some = walked.right_some among.0 (node_of w) word (subst (λ p. slice_get all among.0 ≡ Some (p, word)) (sym (some_eq (right_of (node_of w)) place wants)) among.1) known.1 in
        below b.links (suc w.links) (link_far _ (value_of word == 0) (nat_le b.links (suc w.links)) (not_zero (value_of word) some) refused)
    far_at AtValue place word known wants among lock mark refused = false_true refused
    far_at AtGrandLock place word known wants among lock mark refused = false_true (sym lock ∙ lock_cell w.grand.from place (some_eq (lock_of w.grand.from) place wants))
    far_at AtGrandMark place word known wants among lock mark refused =
        let zero = mark_zero w.grand.from place word (some_eq (mark_of w.grand.from) place wants) among (known.0.grand_inner known.2) mark in
        false_true (sym (ap (λ v. is_refused_at (cond (v == 0) AtLock Refused) || (is_end (cond (v == 0) AtLock Refused) && not (is_small (lock_by op (fed b op w AtGrandMark word))))) zero) ∙ refused)
    far_at AtLock place word known wants among lock mark refused = false_true (sym lock ∙ lock_cell w.last.from place (some_eq (lock_of w.last.from) place wants))
    far_at AtMark place word known wants among lock mark refused =
        let zero = mark_zero w.last.from place word (some_eq (mark_of w.last.from) place wants) among known.0.inner mark in
        false_true (sym (ap (λ v. is_refused_at (cond (v == 0) AtEnd Refused) || (is_end (cond (v == 0) AtEnd Refused) && not (is_small (lock_by op w)))) zero ∙ ap not small_outer) ∙ refused)
    far_at AtEnd place word known wants among lock mark refused = absurd (none-some place wants)
    far_at Refused place word known wants among lock mark refused = absurd (none-some place wants)

pub far_law : (layout : Layout) (op : Op) → IsWithinLimits layout → IsAllowed op → FarLaw layout op
far_law layout op limits allowed readings place word wants walked lock mark refused =
    let w = walk_of layout op readings in
    let reads = walk_reads readings (bounds layout) op in
    far_at layout limits op allowed (readings ++ (place, word) ∷ []) walked w (from_more readings (place, word) w.last.from reads.last_from) (from_more readings (place, word) w.grand.from reads.grand_from)
    w.stage place word
    (knows_walked (bounds layout) op (readings ++ (place, word) ∷ []) start readings
    (λ i reading h. (i, get_longer readings (place, word) reading i h)) refl)
    wants (length readings, get_new readings (place, word)) lock mark refused
