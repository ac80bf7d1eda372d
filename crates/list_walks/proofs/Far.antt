-- A walk that is refused by no lock and by no mark of 1 is a long one.
use Rattle.std.proofs.Common.{◌≡◌, ◌≢◌, ℕ, suc, ◌<◌, ◌≤◌, ◌⊎◌, inl, inr, ⊎_elim, [], ◌∷◌, ◌++◌, length, Bool, true, false, cond, refl, sym, ap, subst, ◌∙◌, arith, Some}
use Rattle.std.specs.Prelude.{◌==◌, ◌&&◌, ◌||◌, not, ◌%◌, ◌^◌, nat_lt, nat_le, slice_get}
use Rattle.std.proofs.lemmas.Bool.Decides.{nat_tests}
use Rattle.std.proofs.lemmas.Option.{none-some}
use Rattle.runner_parts.specs.epoch_core.specs.small_lemmas.proofs.Bools.{from_false}
use Rattle.runner_parts.specs.epoch_core.specs.small_lemmas.proofs.Lists.{same_number, get_last}
use Rattle.runner_parts.specs.epoch_core.specs.small_lemmas.proofs.Numbers.{tested_most, tested_less, equal_tested, less_tested}
use Rattle.runner_parts.specs.structure_laws.specs.map_history.specs.declared.op.Op.{Op}
use Rattle.runner_parts.specs.structure_laws.specs.map_history.specs.Keys.{key_of}
use Rattle.list_laws.specs.node_laws.proofs.Cells.{lock_cell}
use Rattle.list_laws.specs.node_laws.proofs.Walked.{walk_keeps}
use Rattle.list_laws.specs.shared_laws.proofs.Numbers.{get_longer}
use Rattle.list_laws.specs.section_body.specs.Bucket.{is_small}
use Rattle.runner_parts.specs.structure_laws.specs.body_terms.specs.Word.{value_of}
use Rattle.runner_parts.specs.structure_laws.specs.body_terms.proofs.ShapeLemmas.{any_found, found_any}
use Rattle.runner_parts.specs.block_words.specs.table_words.specs.declared.layout.Layout.{Layout}
use Rattle.runner_parts.specs.block_words.specs.table_words.specs.Limits.{IsWithinLimits}
use Rattle.runner_parts.specs.block_words.specs.table_words.specs.Places.{slot_count}
use Rattle.runner_parts.specs.structure_laws.specs.Scene.{Readings}
use Rattle.runner_parts.specs.structure_laws.specs.Sections.{IsAllowed}
use Rattle.list_laws.specs.bucket_laws.specs.Walk.{Bounds, is_del}
use Rattle.list_laws.specs.list_bodies.specs.List.{lock_of, key_cell, next_of, mark_of}
use Rattle.list_laws.specs.Walk.{Stage, AtLink, AtKey, AtValue, AtLock, AtMark, AtNodeLock, AtNodeMark, AtEnd, Refused}
use Rattle.list_laws.specs.Walk.{Walk, start, node_of, wanted_at, is_end, takes_out, at_key, fed, walk}
use Rattle.list_laws.specs.Nodes.{bounds, walk_of, is_lock_place, is_link_place, ListWalked}
use Rattle.list_laws.proofs.WalkReads.{IsAmong, IsFrom, walk_reads}
use Rattle.list_walks.specs.Walking.{lock_by, is_refused_at, is_refused_in}
use Rattle.list_walks.specs.Leading.{is_mark_place, FarLaw}
use Rattle.list_walks.proofs.Leading.{low_slot}

from_more : (readings : Readings) (last : ℕ × ℕ) (t : ℕ) → IsFrom readings t → IsFrom (readings ++ last ∷ []) t
from_more readings last t (inl fixed) = inl fixed
from_more readings last t (inr given) =
    let found = any_found (λ reading. is_link_place reading.0 && (value_of reading.1 == suc t)) readings given in
    inr (found_any (λ reading. is_link_place reading.0 && (value_of reading.1 == suc t)) (readings ++ last ∷ []) found.at
    found.element (get_longer readings last found.element found.at found.here) found.passes)

-- the predecessor is the head, or its key was read and lies below the wanted one
module _ (b : Bounds) (op : Op) (all : Readings) where
  abbrev pub IsBefore : ℕ → Type 0
  IsBefore t = (t ≡ 0) ⊎ ((word : ℕ) × IsAmong all (key_cell t) word × (value_of word < key_of op))

  key_before : (w : Walk) (less : Bool) (word : ℕ) → nat_lt (value_of word) (key_of op) ≡ less
      → IsAmong all (key_cell (node_of w)) word → IsBefore w.from → IsBefore (at_key op w less word).from
  key_before w true word test among is = inr (word, among, tested_less (value_of word) (key_of op) test)
  key_before w false word test among is = is

  fed_before : (w : Walk) (stage : Stage) (place word : ℕ) → wanted_at w stage ≡ Some place → IsAmong all place word
      → IsBefore w.from → IsBefore (fed b op w stage word).from
  fed_before w AtLink place word wants among is = is
  fed_before w AtKey place word wants among is = key_before w (nat_lt (value_of word) (key_of op)) word refl
      (subst (λ p. IsAmong all p word) (sym (same_number (key_cell (node_of w)) place wants)) among) is
  fed_before w AtValue place word wants among is = is
  fed_before w AtLock place word wants among is = is
  fed_before w AtMark place word wants among is = is
  fed_before w AtNodeLock place word wants among is = is
  fed_before w AtNodeMark place word wants among is = is
  fed_before w AtEnd place word wants among is = is
  fed_before w Refused place word wants among is = is

  pub walk_before : (w : Walk) (readings : Readings)
      → ((i : ℕ) (reading : ℕ × ℕ) → slice_get readings i ≡ Some reading → (j : ℕ) × (slice_get all j ≡ Some reading))
      → IsBefore w.from → IsBefore (walk b op w readings).from
  walk_before = walk_keeps _ _ _ (λ w. IsBefore w.from) (λ reading. (j : ℕ) × (slice_get all j ≡ Some reading))
      (λ w reading want here is. fed_before w w.stage reading.0 reading.1 want (here.0, here.1) is)

-- behind a link that isn't 0
link_far : (c none far : Bool) → none ≡ false
    → (is_refused_at (cond none Refused (cond far Refused AtKey))
    || (is_end (cond none Refused (cond far Refused AtKey)) && c)) ≡ true → far ≡ true
link_far c true far some e = from_false (sym some)
link_far c false true some e = refl
link_far c false false some e = from_false e

module _ (layout : Layout) (limits : IsWithinLimits layout) (op : Op) (allowed : IsAllowed op) (all : Readings)
    (walked : ListWalked layout all) where
  abbrev b : Bounds
  b = bounds layout

  small_lock : (t : ℕ) → t < slot_count layout 2 → is_small (lock_of t) ≡ true
  small_lock t low = let nodes = limits.few_nodes in let runners = limits.few_runners in
      less_tested (lock_of t) (2 ^ 32) (omega (arith, nodes, runners, low))

  -- a mark is 0 or 1
  mark_zero : (t place word : ℕ) → mark_of t ≡ place → IsAmong all place word
      → (is_mark_place place ≡ true → value_of word ≢ 1) → value_of word ≡ 0
  mark_zero t place word is among unmarked =
      let few = walked.marks among.0 t word (subst (λ p. slice_get all among.0 ≡ Some (p, word)) (sym is) among.1) in
      let ne = unmarked (equal_tested (place % 5) 4 (omega (arith, is))) in
      zero (value_of word) few ne
    where
      zero : (v : ℕ) → v ≤ 1 → v ≢ 1 → v ≡ 0
      zero v few ne = search arith

  module _ (w : Walk) (from : IsFrom all w.from) (before : IsBefore b op all w.from) where
    small_outer : is_small (lock_by w) ≡ true
    small_outer = small_lock w.from (low_slot layout all (inr walked) w.from from)

    -- the predecessor isn't the tail
    no_tail : w.from ≢ 1
    no_tail e = ⊎_elim (λ head. omega (arith, head, e))
        (λ read. let among = read.1 in let less = read.2 in
        let key = walked.tail_key among.0 read.0 (subst (λ t. slice_get all among.0 ≡ Some (key_cell t, read.0)) e among.1) in
        let low = allowed.keys (key_of op) (inl refl) in omega (arith, less, key, low)) before

    -- the stages behind the last key
    stop_goes : (found del c : Bool) → (is_refused_at (cond (found && not del) AtValue AtLock)
        || (is_end (cond (found && not del) AtValue AtLock) && c)) ≡ true → ⊥
    stop_goes true true c e = from_false e
    stop_goes true false c e = from_false e
    stop_goes false del c e = from_false e

    -- and behind the mark
    takes_goes : (takes c : Bool) → c ≡ false
        → (is_refused_at (cond takes AtNodeLock AtEnd) || (is_end (cond takes AtNodeLock AtEnd) && c)) ≡ true → ⊥
    takes_goes true c is e = from_false e
    takes_goes false c is e = from_false (sym is ∙ e)

    abbrev IsFar : Stage → ℕ → Type 0
    IsFar stage word = is_refused_in (fed b op w stage word) ≡ true → b.links ≤ (fed b op w stage word).links

    far_key : (less : Bool) (word : ℕ) → is_refused_in (at_key op w less word) ≡ true
        → b.links ≤ (at_key op w less word).links
    far_key true word refused = from_false refused
    far_key false word refused = absurd (stop_goes (value_of word == key_of op) (is_del op) _ refused)

    far_at : (stage : Stage) (place word : ℕ) → wanted_at w stage ≡ Some place → IsAmong all place word
        → is_lock_place place ≡ false → (is_mark_place place ≡ true → value_of word ≢ 1) → IsFar stage word
    far_at AtLink place word wants among lock mark refused =
        let some = walked.next_some among.0 w.from word (subst (λ p. slice_get all among.0 ≡ Some (p, word))
        (sym (same_number (next_of w.from) place wants)) among.1) no_tail in
        tested_most b.links (suc w.links) (link_far _ (value_of word == 0) (nat_le b.links (suc w.links))
        (not_zero (value_of word) some) refused)
      where
        not_zero : (a : ℕ) → 0 < a → (a == 0) ≡ false
        not_zero a some = grind (arith, nat_tests)
    far_at AtKey place word wants among lock mark refused =
        far_key (nat_lt (value_of word) (key_of op)) word refused
    far_at AtValue place word wants among lock mark refused = from_false refused
    far_at AtLock place word wants among lock mark refused =
        from_false (sym lock ∙ lock_cell w.from place (same_number (lock_of w.from) place wants))
    far_at AtMark place word wants among lock mark refused =
        let zero = mark_zero w.from place word (same_number (mark_of w.from) place wants) among mark in
        absurd (takes_goes (takes_out op && w.found) (not (is_small (lock_by w))) (ap not small_outer)
        (sym (ap (λ v. is_refused_at (cond (v == 0) (cond (takes_out op && w.found) AtNodeLock AtEnd) Refused)
        || (is_end (cond (v == 0) (cond (takes_out op && w.found) AtNodeLock AtEnd) Refused)
        && not (is_small (lock_by w)))) zero) ∙ refused))
    far_at AtNodeLock place word wants among lock mark refused =
        from_false (sym lock ∙ lock_cell (node_of w) place (same_number (lock_of (node_of w)) place wants))
    far_at AtNodeMark place word wants among lock mark refused =
        let zero = mark_zero (node_of w) place word (same_number (mark_of (node_of w)) place wants) among mark in
        from_false (sym (ap (λ v. is_refused_at (cond (v == 0) AtEnd Refused)
        || (is_end (cond (v == 0) AtEnd Refused) && not (is_small (lock_by w)))) zero ∙ ap not small_outer) ∙ refused)
    far_at AtEnd place word wants among lock mark refused = absurd (none-some place wants)
    far_at Refused place word wants among lock mark refused = absurd (none-some place wants)

pub far_law : (layout : Layout) (op : Op) → IsWithinLimits layout → IsAllowed op → FarLaw layout op
far_law layout op limits allowed readings place word wants walked lock mark refused =
    let w = walk_of layout op readings in
    let reads = walk_reads readings (bounds layout) op in
    far_at layout limits op allowed (readings ++ (place, word) ∷ []) walked w
    (from_more readings (place, word) w.from reads.from)
    (walk_before (bounds layout) op (readings ++ (place, word) ∷ []) start readings
    (λ i reading h. (i, get_longer readings (place, word) reading i h)) (inl refl))
    w.stage place word wants (length readings, get_last readings (place, word)) lock mark refused
