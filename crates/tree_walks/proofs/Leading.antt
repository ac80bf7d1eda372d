-- The walk of the tree leads a plan.
use Rattle.std.proofs.Common.{◌≡◌, ℕ, suc, ◌*◌, ◌<◌, ◌⊎◌, inl, inr, [], length, Bool, true, false, cond, refl, sym, ap, subst, ◌∙◌, arith, Some, None}
use Rattle.std.specs.Prelude.{◌==◌, ◌&&◌, ◌||◌, not, ◌-◌, ◌/◌, nat_lt}
use Rattle.std.specs.List.{list_any}
use Rattle.std.proofs.lemmas.Option.{none-some}
use Rattle.runner_parts.specs.epoch_core.specs.small_lemmas.proofs.Bools.{from_false as false_true}
use Rattle.runner_parts.specs.epoch_core.specs.small_lemmas.proofs.Lists.{same_number as some_eq}
use Rattle.runner_parts.specs.epoch_core.specs.small_lemmas.proofs.Numbers.{self_tested as same_test}
use Rattle.runner_parts.specs.structure_laws.specs.map_history.specs.declared.op.Op.{Op}
use Rattle.tree_laws.specs.node_laws.proofs.Cells.{slot_is, no_cell}
use Rattle.tree_laws.specs.node_laws.proofs.Forms.{same_self, free_of}
use Rattle.tree_laws.specs.node_laws.proofs.Forms as forms
use Rattle.tree_laws.specs.shared_laws.proofs.Numbers.{read_pair}
use Rattle.tree_laws.specs.Walk.{look_operands, insert_operands, delete_operands, replace_operands}
use Rattle.tree_laws.specs.section_body.specs.Bucket.{is_small}
use Rattle.runner_parts.specs.structure_laws.specs.body_terms.specs.Memory.{cell_of}
use Rattle.runner_parts.specs.structure_laws.specs.body_terms.specs.Word.{value_of, is_free, is_spent}
use Rattle.runner_parts.specs.block_words.specs.table_words.specs.declared.layout.Layout.{Layout}
use Rattle.runner_parts.specs.block_words.specs.table_words.specs.Places.{slot_count}
use Rattle.runner_parts.specs.structure_laws.specs.Scene.{Readings}
use Rattle.runner_parts.specs.structure_laws.proofs.Changes.{both_true, equal_of}
use Rattle.runner_parts.specs.Tests.{has_pair, is_readable}
use Rattle.tree_laws.specs.bucket_laws.specs.Walk.{Bounds, is_del, has_one_key}
use Rattle.tree_laws.specs.tree_bodies.specs.Tree.{lock_of, key_cell, left_of, right_of, mark_of}
use Rattle.tree_laws.specs.Walk.{Stage, AtRoot, AtLeft, AtKey, AtRight, AtValue, AtGrandLock, AtGrandMark, AtLock, AtMark, AtEnd, Refused, Walk, node_of, wanted_at, is_end, is_ready, fed, form_for, operands_for, word_for}
use Rattle.tree_laws.specs.Leaves.{tree, bounds, walk_of, is_lock_place, shows_link, TreeWalked}
use Rattle.tree_laws.proofs.Shown.{some_of}
use Rattle.tree_laws.proofs.WalkReads.{is_past, is_locked, IsAmong, IsGiven, IsFrom, Reads, walk_reads}
use Rattle.tree_walks.specs.Walking.{lock_by, is_refused_at, is_refused_in, thunk_by}
use Rattle.tree_walks.specs.Leading.{is_mark_place, first_walk, IsThunkOf, WalkLeads}
use Rattle.tree_walks.proofs.Knowing.{HasGrand, Knows, knows}
use Rattle.tree_walks.proofs.Steps.{walk_nearer}

some_none : {A : Type 0} (a : ℕ) → Some a ≡ None → A
some_none a e = cc

-- a place that a runner may load
module _ (layout : Layout) (readings : Readings) where
  abbrev pub IsLow : ℕ → Type 0
  IsLow place = (is_readable tree readings place ≡ true) × (place < 5 * slot_count layout 3)

  readable_lock : (place : ℕ) → is_lock_place place ≡ true → is_readable tree readings place ≡ true
  readable_lock place lock = ap (λ b. nat_lt place 0 || (b || (nat_lt ((place - 0) / 5) 3 || tree.reaches readings ((place - 0) / 5)))) lock ∙ lasts (nat_lt place 0)
    where
      lasts : (a : Bool) → (a || true) ≡ true
      lasts true = refl
      lasts false = refl

  readable_slot : (t place : ℕ) → (place - 0) / 5 ≡ t → (t < 3) ⊎ (tree.reaches readings t ≡ true) → is_readable tree readings place ≡ true
  readable_slot t place slot from = ap (λ u. nat_lt place 0 || (is_lock_place place || (nat_lt u 3 || tree.reaches readings u))) slot ∙ lasts (nat_lt place 0) (is_lock_place place) from
    where
      lt_true : (a b : ℕ) → a < b → nat_lt a b ≡ true
      lt_true a b low = grind arith

      lasts : (a b : Bool) → (t < 3) ⊎ (tree.reaches readings t ≡ true) → (a || (b || (nat_lt t 3 || tree.reaches readings t))) ≡ true
      lasts true b from = refl
      lasts false true from = refl
      lasts false false (inl low) = ap (λ c. c || tree.reaches readings t) (lt_true t 3 low)
      lasts false false (inr given) = ap (λ c. nat_lt t 3 || c) given ∙ or_true (nat_lt t 3)
        where
          or_true : (c : Bool) → (c || true) ≡ true
          or_true true = refl
          or_true false = refl

  module _ (known : (readings ≡ []) ⊎ TreeWalked layout readings) where
    -- the slots that the readings give are the layout's
    given_low : (t : ℕ) → IsGiven readings t → t < slot_count layout 3
    given_low t given = by known
      where
        by : (readings ≡ []) ⊎ TreeWalked layout readings → t < slot_count layout 3
        by (inl none) = false_true (ap (λ rs. list_any (λ reading. shows_link rs reading.0 && (value_of reading.1 == suc t)) rs) (sym none) ∙ given)
        by (inr walked) =
            let link = some_of (λ reading. shows_link readings reading.0 && (value_of reading.1 == suc t)) readings given in
            let tests = both_true (shows_link readings link.1) (value_of link.2 == suc t) link.4 in
            walked.within link.0 link.1 link.2 t link.3 tests.0 (equal_of (value_of link.2) (suc t) tests.1)

    pub low_slot : (t : ℕ) → IsFrom readings t → t < slot_count layout 3
    low_slot t (inl fixed) = omega (arith, fixed)
    low_slot t (inr given) = given_low t given

    low_cell : (t k place : ℕ) → k < 5 → cell_of 0 t k ≡ place → IsFrom readings t → IsLow place
    low_cell t k place few is from = (readable_slot t place (slot_is t k place few is) from, (let low = low_slot t from in omega (arith, low, few, is)))

    low_at : (b : Bounds) (op : Op) (w : Walk) → Reads readings b op w → (stage : Stage) → w.stage ≡ stage → (place : ℕ) → wanted_at w stage ≡ Some place → IsLow place
    low_at b op w reads AtRoot at place wants = low_cell 0 2 place (omega arith) (some_eq (left_of 0) place wants) (inl (omega arith))
    low_at b op w reads AtLeft at place wants = low_cell (node_of w) 2 place (omega arith) (some_eq (left_of (node_of w)) place wants) (inr (reads.node (ap is_past at)))
    low_at b op w reads AtKey at place wants = low_cell (node_of w) 1 place (omega arith) (some_eq (key_cell (node_of w)) place wants) (inr (reads.node (ap is_past at)))
    low_at b op w reads AtRight at place wants = low_cell (node_of w) 3 place (omega arith) (some_eq (right_of (node_of w)) place wants) (inr (reads.node (ap is_past at)))
    low_at b op w reads AtValue at place wants = low_cell (node_of w) 3 place (omega arith) (some_eq (right_of (node_of w)) place wants) (inr (reads.node (ap is_past at)))
    low_at b op w reads AtGrandLock at place wants = low_cell w.grand.from 0 place (omega arith) (some_eq (lock_of w.grand.from) place wants) reads.grand_from
    low_at b op w reads AtGrandMark at place wants = low_cell w.grand.from 4 place (omega arith) (some_eq (mark_of w.grand.from) place wants) reads.grand_from
    low_at b op w reads AtLock at place wants = low_cell w.last.from 0 place (omega arith) (some_eq (lock_of w.last.from) place wants) reads.last_from
    low_at b op w reads AtMark at place wants = low_cell w.last.from 4 place (omega arith) (some_eq (mark_of w.last.from) place wants) reads.last_from
    low_at b op w reads AtEnd at place wants = absurd (none-some place wants)
    low_at b op w reads Refused at place wants = absurd (none-some place wants)

-- how a walk is refused
module _ (b : Bounds) (op : Op) (w : Walk) where
  goes_at : (stage : Stage) (place : ℕ) → wanted_at w stage ≡ Some place → (is_refused_at stage || (is_end stage && not (is_small (lock_by op w)))) ≡ false
  goes_at AtRoot place wants = refl
  goes_at AtLeft place wants = refl
  goes_at AtKey place wants = refl
  goes_at AtRight place wants = refl
  goes_at AtValue place wants = refl
  goes_at AtGrandLock place wants = refl
  goes_at AtGrandMark place wants = refl
  goes_at AtLock place wants = refl
  goes_at AtMark place wants = refl
  goes_at AtEnd place wants = absurd (none-some place wants)
  goes_at Refused place wants = absurd (none-some place wants)

  tested : (ready c : Bool) (stage : Stage) → is_refused_at stage ≡ false → is_end stage ≡ false
      → (is_refused_at (cond ready stage Refused) || (is_end (cond ready stage Refused) && c)) ≡ not ready
  tested true c stage goes more = (λ i. goes i || (more i && c))
  tested false c stage goes more = refl

  lock_at : (stage : Stage) (place word : ℕ) → wanted_at w stage ≡ Some place → is_lock_place place ≡ true → is_refused_in op (fed b op w stage word) ≡ not (is_ready b word)
  lock_at AtRoot place word wants lock = absurd (no_cell 0 2 0 place (omega arith) (omega arith) (some_eq (left_of 0) place wants) lock)
  lock_at AtLeft place word wants lock = absurd (no_cell (node_of w) 2 0 place (omega arith) (omega arith) (some_eq (left_of (node_of w)) place wants) lock)
  lock_at AtKey place word wants lock = absurd (no_cell (node_of w) 1 0 place (omega arith) (omega arith) (some_eq (key_cell (node_of w)) place wants) lock)
  lock_at AtRight place word wants lock = absurd (no_cell (node_of w) 3 0 place (omega arith) (omega arith) (some_eq (right_of (node_of w)) place wants) lock)
  lock_at AtValue place word wants lock = absurd (no_cell (node_of w) 3 0 place (omega arith) (omega arith) (some_eq (right_of (node_of w)) place wants) lock)
  lock_at AtGrandLock place word wants lock = tested (is_ready b word) (not (is_small (lock_by op (fed b op w AtGrandLock word)))) AtGrandMark refl refl
  lock_at AtGrandMark place word wants lock = absurd (no_cell w.grand.from 4 0 place (omega arith) (omega arith) (some_eq (mark_of w.grand.from) place wants) lock)
  lock_at AtLock place word wants lock = tested (is_ready b word) (not (is_small (lock_by op (fed b op w AtLock word)))) AtMark refl refl
  lock_at AtMark place word wants lock = absurd (no_cell w.last.from 4 0 place (omega arith) (omega arith) (some_eq (mark_of w.last.from) place wants) lock)
  lock_at AtEnd place word wants lock = absurd (none-some place wants)
  lock_at Refused place word wants lock = absurd (none-some place wants)

  one_refuses : (word : ℕ) (stage : Stage) (c : Bool) → value_of word ≡ 1
      → (is_refused_at (cond (value_of word == 0) stage Refused) || (is_end (cond (value_of word == 0) stage Refused) && c)) ≡ true
  one_refuses word stage c one = ap (λ v. is_refused_at (cond (v == 0) stage Refused) || (is_end (cond (v == 0) stage Refused) && c)) one

  mark_at : (stage : Stage) (place word : ℕ) → wanted_at w stage ≡ Some place → is_mark_place place ≡ true → value_of word ≡ 1 → is_refused_in op (fed b op w stage word) ≡ true
  mark_at AtRoot place word wants mark one = absurd (no_cell 0 2 4 place (omega arith) (omega arith) (some_eq (left_of 0) place wants) mark)
  mark_at AtLeft place word wants mark one = absurd (no_cell (node_of w) 2 4 place (omega arith) (omega arith) (some_eq (left_of (node_of w)) place wants) mark)
  mark_at AtKey place word wants mark one = absurd (no_cell (node_of w) 1 4 place (omega arith) (omega arith) (some_eq (key_cell (node_of w)) place wants) mark)
  mark_at AtRight place word wants mark one = absurd (no_cell (node_of w) 3 4 place (omega arith) (omega arith) (some_eq (right_of (node_of w)) place wants) mark)
  mark_at AtValue place word wants mark one = absurd (no_cell (node_of w) 3 4 place (omega arith) (omega arith) (some_eq (right_of (node_of w)) place wants) mark)
  mark_at AtGrandLock place word wants mark one = absurd (no_cell w.grand.from 0 4 place (omega arith) (omega arith) (some_eq (lock_of w.grand.from) place wants) mark)
  mark_at AtGrandMark place word wants mark one = one_refuses word AtLock (not (is_small (lock_by op (fed b op w AtGrandMark word)))) one
  mark_at AtLock place word wants mark one = absurd (no_cell w.last.from 0 4 place (omega arith) (omega arith) (some_eq (lock_of w.last.from) place wants) mark)
  mark_at AtMark place word wants mark one = one_refuses word AtEnd (not (is_small (lock_by op (fed b op w AtMark word)))) one
  mark_at AtEnd place word wants mark one = absurd (none-some place wants)
  mark_at Refused place word wants mark one = absurd (none-some place wants)

  ends_at : (stage : Stage) (c : Bool) → wanted_at w stage ≡ None → (is_refused_at stage || (is_end stage && not c)) ≡ false → (stage ≡ AtEnd) × (c ≡ true)
  ends_at AtRoot c wants goes = some_none (left_of 0) wants
  ends_at AtLeft c wants goes = some_none (left_of (node_of w)) wants
  ends_at AtKey c wants goes = some_none (key_cell (node_of w)) wants
  ends_at AtRight c wants goes = some_none (right_of (node_of w)) wants
  ends_at AtValue c wants goes = some_none (right_of (node_of w)) wants
  ends_at AtGrandLock c wants goes = some_none (lock_of w.grand.from) wants
  ends_at AtGrandMark c wants goes = some_none (mark_of w.grand.from) wants
  ends_at AtLock c wants goes = some_none (lock_of w.last.from) wants
  ends_at AtMark c wants goes = some_none (mark_of w.last.from) wants
  ends_at AtEnd true wants goes = (refl, refl)
  ends_at AtEnd false wants goes = absurd (cc)
  ends_at Refused c wants goes = absurd (cc)

eight : (op : Op) (w : Walk) (found : Bool) → length (operands_for op w found) ≡ 8
eight op w = forms.eight (look_operands w) (insert_operands w) (delete_operands w) (replace_operands w) w.value 0
    (λ reply. refl) (λ key value. refl) refl (λ key value reply. refl) op

-- the outer lock was read, free and not spent
module _ (b : Bounds) (op : Op) (readings : Readings) (w : Walk) (reads : Reads readings b op w) (at : w.stage ≡ AtEnd) (grand : HasGrand b op readings w) where
  abbrev IsOuter : Bool → Type 0
  IsOuter removes = IsAmong readings (cond removes (lock_of w.grand.from) (lock_of w.last.from)) (cond removes w.grand_lock w.lock)
      × (is_ready b (cond removes w.grand_lock w.lock) ≡ true)

  outer : IsOuter (is_del op && w.found)
  outer = by (is_del op) w.found refl refl
    where
      by : (del found : Bool) → is_del op ≡ del → w.found ≡ found → IsOuter (del && found)
      by true true is has = grand is has
      by true false is has = (reads.lock_read (ap is_locked at), reads.lock_ready (ap is_locked at))
      by false found is has = (reads.lock_read (ap is_locked at), reads.lock_ready (ap is_locked at))

module _ (layout : Layout) (op : Op) where
  abbrev walked : Readings → Walk
  walked readings = walk_of layout op readings

  thunk_of : has_one_key op ≡ true → (number : ℕ) (readings : Readings) → (walked readings).stage ≡ AtEnd → is_small
      (lock_by op (walked readings)) ≡ true
      → IsThunkOf layout op readings (thunk_by (record (first_walk layout op) { walk = walked readings }) number)
  thunk_of served number readings at small =
      let w = walked readings in
      let lock : cond (is_small (lock_by op w)) (lock_by op w) 0 ≡ lock_by op w = ap (λ c. cond c (lock_by op w) 0) small in
      let known : Knows (bounds layout) op readings w AtEnd = subst (Knows (bounds layout) op readings w) at (knows (bounds layout) op readings) in
      let out = outer (bounds layout) op readings w (walk_reads readings (bounds layout) op) at known.1 in
      let ready = free_of (is_free (word_for op w w.found)) (is_spent layout.version_max (word_for op w w.found)) out.1 in
      record {
        fits = (λ i. served i && (is_end (at i) && (same_test (form_for op w.found) i
            && ((lock i == lock_by op w) && (same_test (word_for op w w.found) i && same_self (operands_for op w w.found) i)))))
            ∙ ap (λ c. true && (true && (true && (c && (true && true))))) (same_test (lock_by op w));
        operands = eight op w w.found;
        free = ready.0;
        unspent = ready.1;
        read = ap (λ p. has_pair readings p (word_for op w w.found)) lock
            ∙ read_pair readings (lock_by op w) (word_for op w w.found) out.0.0 out.0.1;
      }

  pub walk_leads : has_one_key op ≡ true → WalkLeads layout op
  walk_leads served = record {
    shorter = walk_nearer;
    few = omega arith;
    readable = λ readings place wants known. low_at layout readings known (bounds layout) op (walked readings) (walk_reads readings (bounds layout) op) (walked readings).stage refl place wants;
    goes_on = λ readings place wants. goes_at (bounds layout) op (walked readings) (walked readings).stage place wants;
    by_lock = λ readings place word wants lock. lock_at (bounds layout) op (walked readings) (walked readings).stage place word wants lock;
    by_mark = λ readings place word wants mark one. mark_at (bounds layout) op (walked readings) (walked readings).stage place word wants mark one;
    whole = λ number readings wants goes.
        let ends = ends_at (bounds layout) op (walked readings) (walked readings).stage (is_small (lock_by op (walked readings))) wants goes in
        thunk_of served number readings ends.0 ends.1;
  }
