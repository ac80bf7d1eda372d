-- The walk of the list leads a plan.
use Rattle.std.proofs.Common.{◌≡◌, ℕ, suc, ◌*◌, ◌<◌, ◌≤◌, ◌⊎◌, inl, inr, [], length, Bool, true, false, cond, refl, sym, ap, subst, ◌∙◌, arith, Some, None}
use Rattle.std.specs.Prelude.{◌==◌, ◌&&◌, ◌||◌, not, ◌-◌, ◌/◌, nat_lt}
use Rattle.std.specs.List.{list_any}
use Rattle.std.proofs.lemmas.Option.{none-some}
use Rattle.runner_parts.specs.epoch_core.specs.small_lemmas.proofs.Bools.{from_false, both_hold, or_true}
use Rattle.runner_parts.specs.epoch_core.specs.small_lemmas.proofs.Lists.{same_number}
use Rattle.runner_parts.specs.epoch_core.specs.small_lemmas.proofs.Numbers.{self_tested, equal_tested, less_tested}
use Rattle.runner_parts.specs.structure_laws.specs.map_history.specs.declared.op.Op.{Op}
use Rattle.list_laws.specs.node_laws.proofs.Cells.{slot_is, no_cell}
use Rattle.list_laws.specs.node_laws.proofs.Forms.{same_self, free_of}
use Rattle.list_laws.specs.node_laws.proofs.Forms as forms
use Rattle.list_laws.specs.shared_laws.proofs.Numbers.{read_pair}
use Rattle.list_laws.specs.Walk.{look_operands, insert_operands, remove_operands, replace_operands}
use Rattle.list_laws.specs.section_body.specs.Bucket.{is_small}
use Rattle.runner_parts.specs.structure_laws.specs.body_terms.specs.Memory.{cell_of}
use Rattle.runner_parts.specs.structure_laws.specs.body_terms.specs.Word.{value_of, is_free, is_spent}
use Rattle.runner_parts.specs.block_words.specs.table_words.specs.declared.layout.Layout.{Layout}
use Rattle.runner_parts.specs.block_words.specs.table_words.specs.Places.{slot_count}
use Rattle.runner_parts.specs.structure_laws.specs.Scene.{Readings}
use Rattle.runner_parts.specs.Tests.{has_pair, is_readable}
use Rattle.list_laws.specs.bucket_laws.specs.Walk.{Bounds, has_one_key}
use Rattle.list_laws.specs.bucket_laws.proofs.TableGives.{reached}
use Rattle.list_laws.specs.list_bodies.specs.List.{lock_of, key_cell, next_of, value_cell, mark_of}
use Rattle.list_laws.specs.Walk.{Stage, AtLink, AtKey, AtValue, AtLock, AtMark, AtNodeLock, AtNodeMark, AtEnd, Refused}
use Rattle.list_laws.specs.Walk.{Walk, node_of, wanted_at, is_end, is_ready, takes_out, fed, form_for, operands_for}
use Rattle.list_laws.specs.Nodes.{list, bounds, walk_of, is_lock_place, is_link_place, ListWalked}
use Rattle.list_laws.proofs.WalkReads.{level, IsGiven, IsFrom, Reads, walk_reads, end_reads}
use Rattle.list_walks.specs.Walking.{lock_by, is_refused_at, is_refused_in, thunk_by}
use Rattle.list_walks.specs.Leading.{is_mark_place, first_walk, IsThunkOf, WalkLeads}
use Rattle.list_walks.proofs.Steps.{walk_nearer}

some_none : {A : Type 0} (a : ℕ) → Some a ≡ None → A
some_none a e = cc

-- a place that a runner may load
module _ (layout : Layout) (readings : Readings) where
  abbrev pub IsLow : ℕ → Type 0
  IsLow place = (is_readable list readings place ≡ true) × (place < 5 * slot_count layout 2)

  readable_slot : (t place : ℕ) → (place - 0) / 5 ≡ t → (t < 2) ⊎ (list.reaches readings t ≡ true)
      → is_readable list readings place ≡ true
  readable_slot t place slot from =
      ap (λ u. nat_lt place 0 || (is_lock_place place || (nat_lt u 2 || list.reaches readings u))) slot
      ∙ lasts (nat_lt place 0) (is_lock_place place) from
    where
      lasts : (a b : Bool) → (t < 2) ⊎ (list.reaches readings t ≡ true)
          → (a || (b || (nat_lt t 2 || list.reaches readings t))) ≡ true
      lasts true b from = refl
      lasts false true from = refl
      lasts false false (inl low) = ap (λ c. c || list.reaches readings t) (less_tested t 2 low)
      lasts false false (inr given) = ap (λ c. nat_lt t 2 || c) given ∙ or_true (nat_lt t 2)

  module _ (known : (readings ≡ []) ⊎ ListWalked layout readings) where
    -- the slots that the readings give are the layout's
    given_low : (t : ℕ) → IsGiven readings t → t < slot_count layout 2
    given_low t given = by known
      where
        by : (readings ≡ []) ⊎ ListWalked layout readings → t < slot_count layout 2
        by (inl none) = from_false
            (ap (list_any (λ reading. is_link_place reading.0 && (value_of reading.1 == suc t))) (sym none) ∙ given)
        by (inr walked) = let link = reached is_link_place readings t given in
            walked.within link.0 link.1 link.2 t link.3 link.4 link.5

    pub low_slot : (t : ℕ) → IsFrom readings t → t < slot_count layout 2
    low_slot t (inl fixed) = omega (arith, fixed)
    low_slot t (inr given) = given_low t given

    low_cell : (t k place : ℕ) → k < 5 → cell_of 0 t k ≡ place → IsFrom readings t → IsLow place
    low_cell t k place few is from =
        (readable_slot t place (slot_is t k place few is) from, (let low = low_slot t from in omega (arith, low, few, is)))

    low_at : (b : Bounds) (op : Op) (w : Walk) → Reads readings b op w → (stage : Stage) → w.stage ≡ stage → (place : ℕ)
        → wanted_at w stage ≡ Some place → IsLow place
    low_at b op w reads stage at place wants = by stage at wants
      where
        node : (stage : Stage) → w.stage ≡ stage → 1 ≤ level stage → IsFrom readings (node_of w)
        node stage at some = inr (reads.node (subst (λ stage. 1 ≤ level stage) (sym at) some))

        by : (stage : Stage) → w.stage ≡ stage → wanted_at w stage ≡ Some place → IsLow place
        by AtLink at wants = low_cell w.from 2 place (omega arith) (same_number (next_of w.from) place wants) reads.from
        by AtKey at wants = low_cell (node_of w) 1 place (omega arith) (same_number (key_cell (node_of w)) place wants)
            (node AtKey at (omega arith))
        by AtValue at wants = low_cell (node_of w) 3 place (omega arith)
            (same_number (value_cell (node_of w)) place wants) (node AtValue at (omega arith))
        by AtLock at wants = low_cell w.from 0 place (omega arith) (same_number (lock_of w.from) place wants) reads.from
        by AtMark at wants = low_cell w.from 4 place (omega arith) (same_number (mark_of w.from) place wants) reads.from
        by AtNodeLock at wants = low_cell (node_of w) 0 place (omega arith)
            (same_number (lock_of (node_of w)) place wants) (node AtNodeLock at (omega arith))
        by AtNodeMark at wants = low_cell (node_of w) 4 place (omega arith)
            (same_number (mark_of (node_of w)) place wants) (node AtNodeMark at (omega arith))
        by AtEnd at wants = absurd (none-some place wants)
        by Refused at wants = absurd (none-some place wants)

-- a walk that wants something wasn't refused
goes_at : (stage : Stage) (w : Walk) (c : Bool) (place : ℕ) → wanted_at w stage ≡ Some place
    → (is_refused_at stage || (is_end stage && c)) ≡ false
goes_at AtLink w c place wants = refl
goes_at AtKey w c place wants = refl
goes_at AtValue w c place wants = refl
goes_at AtLock w c place wants = refl
goes_at AtMark w c place wants = refl
goes_at AtNodeLock w c place wants = refl
goes_at AtNodeMark w c place wants = refl
goes_at AtEnd w c place wants = absurd (none-some place wants)
goes_at Refused w c place wants = absurd (none-some place wants)

-- a lock that is ready leads to a stage that is neither the end nor a refusal
tested : (passes c : Bool) (stage : Stage) → is_refused_at stage ≡ false → is_end stage ≡ false
    → (is_refused_at (cond passes stage Refused) || (is_end (cond passes stage Refused) && c)) ≡ not passes
tested true c stage goes whole = ap (λ r. r || (is_end stage && c)) goes ∙ ap (λ e. e && c) whole
tested false c stage goes whole = refl

module _ (b : Bounds) (op : Op) (w : Walk) where
  lock_at : (stage : Stage) (place word : ℕ) → wanted_at w stage ≡ Some place → is_lock_place place ≡ true
      → is_refused_in (fed b op w stage word) ≡ not (is_ready b word)
  lock_at AtLink place word wants lock = absurd (no_cell w.from 2 0 place (omega arith) (λ e. omega (arith, e))
      (same_number (next_of w.from) place wants) lock)
  lock_at AtKey place word wants lock = absurd (no_cell (node_of w) 1 0 place (omega arith) (λ e. omega (arith, e))
      (same_number (key_cell (node_of w)) place wants) lock)
  lock_at AtValue place word wants lock = absurd (no_cell (node_of w) 3 0 place (omega arith) (λ e. omega (arith, e))
      (same_number (value_cell (node_of w)) place wants) lock)
  lock_at AtLock place word wants lock = tested (is_ready b word) _ AtMark refl refl
  lock_at AtMark place word wants lock = absurd (no_cell w.from 4 0 place (omega arith) (λ e. omega (arith, e))
      (same_number (mark_of w.from) place wants) lock)
  lock_at AtNodeLock place word wants lock = tested (is_ready b word) _ AtNodeMark refl refl
  lock_at AtNodeMark place word wants lock = absurd (no_cell (node_of w) 4 0 place (omega arith) (λ e. omega (arith, e))
      (same_number (mark_of (node_of w)) place wants) lock)
  lock_at AtEnd place word wants lock = absurd (none-some place wants)
  lock_at Refused place word wants lock = absurd (none-some place wants)

  one_refuses : (word : ℕ) (stage : Stage) (c : Bool) → value_of word ≡ 1
      → (is_refused_at (cond (value_of word == 0) stage Refused) || (is_end (cond (value_of word == 0) stage Refused) && c))
      ≡ true
  one_refuses word stage c one =
      ap (λ v. is_refused_at (cond (v == 0) stage Refused) || (is_end (cond (v == 0) stage Refused) && c)) one

  mark_at : (stage : Stage) (place word : ℕ) → wanted_at w stage ≡ Some place → is_mark_place place ≡ true
      → value_of word ≡ 1 → is_refused_in (fed b op w stage word) ≡ true
  mark_at AtLink place word wants mark one = absurd (no_cell w.from 2 4 place (omega arith) (λ e. omega (arith, e))
      (same_number (next_of w.from) place wants) mark)
  mark_at AtKey place word wants mark one = absurd (no_cell (node_of w) 1 4 place (omega arith) (λ e. omega (arith, e))
      (same_number (key_cell (node_of w)) place wants) mark)
  mark_at AtValue place word wants mark one = absurd (no_cell (node_of w) 3 4 place (omega arith)
      (λ e. omega (arith, e)) (same_number (value_cell (node_of w)) place wants) mark)
  mark_at AtLock place word wants mark one = absurd (no_cell w.from 0 4 place (omega arith) (λ e. omega (arith, e))
      (same_number (lock_of w.from) place wants) mark)
  mark_at AtMark place word wants mark one =
      one_refuses word (cond (takes_out op && w.found) AtNodeLock AtEnd) _ one
  mark_at AtNodeLock place word wants mark one = absurd (no_cell (node_of w) 0 4 place (omega arith)
      (λ e. omega (arith, e)) (same_number (lock_of (node_of w)) place wants) mark)
  mark_at AtNodeMark place word wants mark one = one_refuses word AtEnd _ one
  mark_at AtEnd place word wants mark one = absurd (none-some place wants)
  mark_at Refused place word wants mark one = absurd (none-some place wants)

  ends_at : (stage : Stage) (c : Bool) → wanted_at w stage ≡ None → (is_refused_at stage || (is_end stage && not c)) ≡ false
      → (stage ≡ AtEnd) × (c ≡ true)
  ends_at AtLink c wants goes = some_none (next_of w.from) wants
  ends_at AtKey c wants goes = some_none (key_cell (node_of w)) wants
  ends_at AtValue c wants goes = some_none (value_cell (node_of w)) wants
  ends_at AtLock c wants goes = some_none (lock_of w.from) wants
  ends_at AtMark c wants goes = some_none (mark_of w.from) wants
  ends_at AtNodeLock c wants goes = some_none (lock_of (node_of w)) wants
  ends_at AtNodeMark c wants goes = some_none (mark_of (node_of w)) wants
  ends_at AtEnd true wants goes = (refl, refl)
  ends_at AtEnd false wants goes = absurd (cc)
  ends_at Refused c wants goes = absurd (cc)

eight : (op : Op) (w : Walk) (found : Bool) → length (operands_for op w found) ≡ 8
eight op w = forms.eight (look_operands w) (insert_operands w) (remove_operands w) (replace_operands w) w.value 0
    (λ reply. refl) (λ key value. refl) refl (λ key value reply. refl) op

module _ (layout : Layout) (op : Op) where
  abbrev walked : Readings → Walk
  walked readings = walk_of layout op readings

  thunk_of : has_one_key op ≡ true → (number : ℕ) (readings : Readings) → (walked readings).stage ≡ AtEnd
      → is_small (lock_by (walked readings)) ≡ true
      → IsThunkOf layout op readings (thunk_by (record (first_walk layout op) { walk = walked readings }) number)
  thunk_of served number readings at small =
      let w = walked readings in
      let lock : cond (is_small (lock_by w)) (lock_by w) 0 ≡ lock_by w = ap (λ c. cond c (lock_by w) 0) small in
      let reads = end_reads readings (bounds layout) op w at (walk_reads readings (bounds layout) op) in
      let ready = free_of (is_free w.lock) (is_spent layout.version_max w.lock) (reads.lock_ready (omega arith)) in
      record {
        fits = both_hold _ _ served (both_hold _ _ (ap is_end at) (both_hold _ _ (self_tested (form_for op w.found))
            (both_hold _ _ (equal_tested _ (lock_by w) lock) (both_hold _ _ (self_tested w.lock)
            (same_self (operands_for op w w.found))))));
        operands = eight op w w.found;
        free = ready.0;
        unspent = ready.1;
        read = ap (λ p. has_pair readings p w.lock) lock
            ∙ (let among = reads.lock_read (omega arith) in read_pair readings (lock_by w) w.lock among.0 among.1);
      }

  pub walk_leads : has_one_key op ≡ true → WalkLeads layout op
  walk_leads served = record {
    shorter = walk_nearer;
    few = omega arith;
    readable = λ readings place wants known. low_at layout readings known (bounds layout) op (walked readings)
        (walk_reads readings (bounds layout) op) (walked readings).stage refl place wants;
    goes_on = λ readings place wants. goes_at (walked readings).stage (walked readings) _ place wants;
    by_lock = λ readings place word wants lock.
        lock_at (bounds layout) op (walked readings) (walked readings).stage place word wants lock;
    by_mark = λ readings place word wants mark one.
        mark_at (bounds layout) op (walked readings) (walked readings).stage place word wants mark one;
    whole = λ number readings wants goes.
        let ends = ends_at (bounds layout) op (walked readings) (walked readings).stage
        (is_small (lock_by (walked readings))) wants goes in
        thunk_of served number readings ends.0 ends.1;
  }
