-- A kept scene of the tree gives the core what it relies on.
use Rattle.std.specs.Prelude.{◌==◌, ◌&&◌, ◌||◌, not, ◌⊎◌, ◌-◌, ◌%◌, ◌^◌, nat_lt, cond, Bool, true, false, Some, List, [], slice_get}
use Rattle.std.proofs.Common.{◌≡◌, ◌≢◌, ℕ, suc, ◌+◌, ◌*◌, ◌<◌, ◌≤◌, refl, sym, ap, ◌∙◌, subst, inl, inr, ⊎_elim, arith}
use Rattle.std.proofs.lemmas.Bool.{cases_eq, both_ways}
use Rattle.structure_laws.specs.table_words.specs.small_lemmas.proofs.Numbers.{suc_equal as suc_eq}
use Rattle.structure_laws.specs.map_history.specs.Keys.{key_of, DependsOn, HaveNoCommonKey}
use Rattle.structure_laws.specs.map_history.proofs.Cells.{key_is}
use Rattle.structure_laws.specs.body_terms.specs.Word.{value_of, next_word}
use Rattle.structure_laws.specs.body_terms.specs.Update.{upd}
use Rattle.bucket_laws.specs.bucket_bodies.specs.section_body.specs.Bucket.{operand}
use Rattle.structure_laws.specs.body_terms.specs.declared.value.Value.{Value}
use Rattle.structure_laws.specs.body_terms.specs.declared.value.Value.TheVariants.{Const, Of, Made}
use Rattle.structure_laws.specs.body_terms.specs.declared.step.Step.{Step}
use Rattle.structure_laws.specs.body_terms.specs.declared.step.Step.TheVariants.{Load, Want, Fresh, Take, Store, Retire}
use Rattle.structure_laws.specs.body_terms.specs.declared.thunk.Thunk.{Thunk}
use Rattle.structure_laws.specs.table_words.specs.declared.layout.Layout.{Layout}
use Rattle.structure_laws.specs.table_words.specs.Limits.{IsWithinLimits}
use Rattle.structure_laws.specs.Scene.{Cells, Readings, Section, Free, Live, Retired, Scene}
use Rattle.structure_laws.specs.Sections.{value_in, is_exit, Here, IsStep, Holds, Settled, Unstored}
use Rattle.structure_laws.specs.Cells.{IsReader, IsCellOf, InUse, Links}
use Rattle.structure_laws.specs.Sound.{Sound}
use Rattle.structure_laws.specs.Gives.{Gives}
use Rattle.structure_laws.proofs.Changes.{upd_other, upd_same, equal_of, both_true, or_cases, value-next_word, value_small}
use Rattle.bucket_laws.proofs.TableGives.{reached}
use Rattle.tree_bodies.specs.Tree.{lock_of, left_of, right_of, mark_of, child_of, slot_in, Form, Look, Insert, Delete}
use Rattle.tree_bodies.specs.Tree.{Replace}
use Rattle.tree_bodies.specs.Tree.{Empty, form_of, body_of, look_steps, insert_steps, delete_steps, parent_in, leaf_in}
use Rattle.tree_bodies.specs.Tree.{sibling_of, is_left, old_leaf}
use Rattle.tree_laws.specs.Search.{Nodes, IsInner, IsLeaf}
use Rattle.tree_laws.specs.Walk.{Walk, node_of}
use Rattle.tree_laws.specs.Leaves.{is_left_place, is_right_place, is_link_in, shows_inner, shows_link, nodes, bounds}
use Rattle.tree_laws.specs.Leaves.{walk_of}
use Rattle.tree_laws.specs.Leaves.{TreeWalked, IsAsRead, IsTaken, IsReplaced, HasInner, HasTaken, IsBetween}
use Rattle.tree_laws.specs.Leaves.{NewLeaf, NewInner, OldParent, OldLeaf, ReplacedLeaf, TreeKept, tree}
use Rattle.tree_laws.specs.Landing.{HasLanded}
use Rattle.tree_laws.proofs.Fit.{fit_of}
use Rattle.tree_laws.proofs.Forms.{look_load, insert_load, delete_load, replace_load}
use Rattle.tree_laws.proofs.Forms.{look_store, insert_store, delete_store, replace_store, replace_retire}
use Rattle.tree_laws.proofs.Found.{walk_keyed}
use Rattle.tree_laws.proofs.Shown.{some_of, below_of, shown_now}
use Rattle.tree_laws.proofs.WalkReads.{is_late}
use Rattle.tree_laws.proofs.Open as open_section
use Rattle.tree_laws.proofs.Open.{side_cell, child_cell, side_low, side_high}

some_eq : (a b : Section) → Some a ≡ Some b → a ≡ b
some_eq a b e = cc

zero_or : (n : ℕ) → (n ≡ 0) ⊎ (0 < n)
zero_or n = search arith

-- an empty body has no step
abbrev no_steps : List Step
no_steps = []

no_step : (step : Step) (j : ℕ) → slice_get no_steps j ≡ Some step → ⊥
no_step step j e = let z = e in cc

-- the lock that guards a cell of a node
guard_is : (p t k : ℕ) → k < 5 → p ≡ 0 + 5 * t + k → p - p % 5 ≡ lock_of t
guard_is p t k low e = omega (arith, low, e)

unfixed : (n : ℕ) → (n ≡ 0 → ⊥) → (n ≡ 1 → ⊥) → (n ≡ 2 → ⊥) → 3 ≤ n
unfixed n zero one two = search arith

-- what a removal retires; the forms 11 and 12 retire nothing
pub delete_retire : (t : Thunk) (j slot : ℕ) → slice_get (delete_steps t) j ≡ Some (Retire slot) → ((j ≡ 15) × (slot ≡ parent_in t)) ⊎ ((j ≡ 16) × (slot ≡ leaf_in t))
delete_retire t j slot h = grind arith

pub look_retire : (t : Thunk) (j slot : ℕ) → slice_get (look_steps t) j ≡ Some (Retire slot) → ⊥
look_retire t j slot h = grind arith

pub insert_retire : (t : Thunk) (j slot : ℕ) → slice_get (insert_steps t) j ≡ Some (Retire slot) → ⊥
insert_retire t j slot h = grind arith

-- a removal's loads by their registers
abbrev pub Loads : Thunk → ℕ → ℕ → ℕ → Type 0
Loads t j p r = ((j ≡ 0) × (r ≡ 0) × (p ≡ operand t 0)) ⊎ ((j ≡ 3) × (r ≡ 1) × (p ≡ t.lock + 4))
    ⊎ ((j ≡ 6) × (r ≡ 2) × (p ≡ operand t 4)) ⊎ ((j ≡ 8) × (r ≡ 3) × (p ≡ sibling_of t)) ⊎ ((j ≡ 9) × (r ≡ 4) × (p ≡ mark_of (parent_in t)))

pub first_load : (t : Thunk) (j p r : ℕ) → r ≡ 0 → Loads t j p r → p ≡ operand t 0
first_load t j p r is (inl a) = a.2
first_load t j p r is (inr (inl a)) = absurd (let e = a.1 in omega (arith, e, is))
first_load t j p r is (inr (inr (inl a))) = absurd (let e = a.1 in omega (arith, e, is))
first_load t j p r is (inr (inr (inr (inl a)))) = absurd (let e = a.1 in omega (arith, e, is))
first_load t j p r is (inr (inr (inr (inr a)))) = absurd (let e = a.1 in omega (arith, e, is))

pub fourth_load : (t : Thunk) (j p r : ℕ) → r ≡ 4 → Loads t j p r → p ≡ mark_of (parent_in t)
fourth_load t j p r is (inl a) = absurd (let e = a.1 in omega (arith, e, is))
fourth_load t j p r is (inr (inl a)) = absurd (let e = a.1 in omega (arith, e, is))
fourth_load t j p r is (inr (inr (inl a))) = absurd (let e = a.1 in omega (arith, e, is))
fourth_load t j p r is (inr (inr (inr (inl a)))) = absurd (let e = a.1 in omega (arith, e, is))
fourth_load t j p r is (inr (inr (inr (inr a)))) = a.2

sibling_cell : (t : Thunk) → sibling_of t ≡ 0 + 5 * parent_in t + cond (is_left t) 3 2
sibling_cell t = by (is_left t)
  where
    by : (b : Bool) → cond b (right_of (parent_in t)) (left_of (parent_in t)) ≡ 0 + 5 * parent_in t + cond b 3 2
    by true = refl
    by false = refl

sibling_low : (b : Bool) → cond {A = ℕ} b 3 2 < 5
sibling_low true = omega arith
sibling_low false = omega arith

-- a change of another place than the left link before it leaves whether a place is a link
link_stays : (cells : Cells) (p w q : ℕ) → (is_right_place q ≡ true → q - 1 ≡ p → nat_lt 0 (value_of w) ≡ nat_lt 0 (value_of (cells p)))
    → is_link_in (upd cells p w) q ≡ is_link_in cells q
link_stays cells p w q same = by (is_right_place q) refl
  where
    value : is_right_place q ≡ true → nat_lt 0 (value_of (upd cells p w (q - 1))) ≡ nat_lt 0 (value_of (cells (q - 1)))
    value right = ⊎_elim
        (λ here. ap (λ c. nat_lt 0 (value_of c)) (upd_same cells p (q - 1) w here) ∙ (same right here ∙ ap (λ k. nat_lt 0 (value_of (cells k))) (sym here)))
        (λ else_. ap (λ c. nat_lt 0 (value_of c)) (upd_other cells p (q - 1) w else_))
        (cases_eq (q - 1) p)

    by : (b : Bool) → is_right_place q ≡ b → (is_left_place q || (is_right_place q && nat_lt 0 (value_of (upd cells p w (q - 1))))) ≡ (is_left_place q || (is_right_place q && nat_lt 0 (value_of (cells (q - 1)))))
    by true right = ap (λ c. is_left_place q || (is_right_place q && c)) (value right)
    by false right = ap (λ c. is_left_place q || (c && nat_lt 0 (value_of (upd cells p w (q - 1))))) right ∙ ap (λ c. is_left_place q || (c && nat_lt 0 (value_of (cells (q - 1))))) (sym right)

right_of_place : (q : ℕ) → is_right_place q ≡ true → q % 5 ≡ 3
right_of_place q e = equal_of (q % 5) 3 e

some_test : (n k : ℕ) → 0 < n → 0 < k → nat_lt 0 n ≡ nat_lt 0 k
some_test n k a b = grind arith

-- a link of a node in use, by its side
record IsLinkOf (n : Nodes) (q t : ℕ) : Type 0 where
  side : Bool
  inner : IsInner n q
  leads : n.child side q ≡ suc t

link_of_node : (s : Scene) (q i t : ℕ) → i < 5 → is_link_in s.cells (0 + 5 * q + i) ≡ true → value_of (s.cells (0 + 5 * q + i)) ≡ suc t → IsLinkOf (nodes s.cells) q t
link_of_node s q i t low link leads = or_cases (is_left_place (0 + 5 * q + i)) (is_right_place (0 + 5 * q + i) && nat_lt 0 (value_of (s.cells (0 + 5 * q + i - 1)))) link
    (λ left. let two = second i low (equal_of ((0 + 5 * q + i) % 5) 2 left) in
    let at : value_of (s.cells (left_of q)) ≡ suc t = ap (λ k. value_of (s.cells (0 + 5 * q + k))) (sym two) ∙ leads in
    record { side = true; inner = omega (arith, at); leads = at })
    (λ right. let sides = both_true _ _ right in
    let three = third i low (equal_of ((0 + 5 * q + i) % 5) 3 sides.0) in
    record {
      side = false;
      inner = subst (λ k. 0 < value_of (s.cells k)) (before i three) (below_of 0 _ sides.1);
      leads = ap (λ k. value_of (s.cells (0 + 5 * q + k))) (sym three) ∙ leads;
    })
  where
    second : (i : ℕ) → i < 5 → (0 + 5 * q + i) % 5 ≡ 2 → i ≡ 2
    second i low e = omega (arith, low, e)

    third : (i : ℕ) → i < 5 → (0 + 5 * q + i) % 5 ≡ 3 → i ≡ 3
    third i low e = omega (arith, low, e)

    before : (i : ℕ) → i ≡ 3 → 0 + 5 * q + i - 1 ≡ left_of q
    before i e = omega (arith, e)

module _ (layout : Layout) (limits : IsWithinLimits layout) (s : Scene) (sound : Sound tree layout s) (kept : TreeKept layout s) where
  abbrev now : Nodes
  now = nodes s.cells

  abbrev w : Section → Walk
  w x = walk_of layout x.op x.readings

  -- readings as they stand
  as_read : (readings : Readings) → IsReader s readings → IsAsRead now readings
  as_read readings (inl reader) = kept.readers reader.0 readings reader.1
  as_read readings (inr section) = subst (IsAsRead now) (sym section.3) (kept.published section.0 section.1 section.2)

  shown_inner : (readings : Readings) → IsAsRead now readings → (t : ℕ) → shows_inner readings (left_of t) ≡ true → IsInner now t
  shown_inner readings read t shows =
      let by = some_of (λ reading. reading.0 == left_of t && nat_lt 0 (value_of reading.1)) readings shows in
      let test = both_true _ _ by.4 in
      read.inner by.0 t by.2 (subst (λ q. slice_get readings by.0 ≡ Some (q, by.2)) (equal_of by.1 (left_of t) test.0) by.3) (below_of 0 (value_of by.2) test.1)

  walked : (r : ℕ) (readings : Readings) → s.reader r ≡ Some readings → TreeWalked layout readings
  walked r readings reader =
      let read = kept.readers r readings reader in
      record {
        within = λ i p w t h link leads. sound.within t (safe_used t ((sound.readers r readings reader).safe i p w t h (shown_now s.cells readings read p link) leads));
        root_left = λ i w h. ⊎_elim (λ two. omega (arith, two)) (λ node. let at = node.1 in omega (arith, at)) (read.under_root i w h);
        right_some = λ i t w h shows. read.right i t w h (shown_inner readings read t shows);
        under_root = λ i j v w h h'. ⊎_elim (λ two. inl (let z : slot_in v ≡ 1 = omega (arith, two) in z))
            (λ node. ⊎_elim
            (λ none. absurd (leaf_inner (node.0) (read.leaf j node.0 w (subst (λ k. slice_get readings j ≡ Some (left_of k, w)) (let at = node.1 in let z : slot_in v ≡ node.0 = omega (arith, at) in z) h') none) node.2))
            (λ some. inr some) (zero_or (value_of w))) (read.under_root i v h);
        first_key = λ i w h. read.key i 1 w h ∙ kept.sentinels.first_key;
        marks = λ i t w h shows. read.marks i t w h (shown_inner readings read t shows);
      }
    where
      leaf_inner : (t : ℕ) → IsLeaf now t → IsInner now t → ⊥
      leaf_inner t leaf inner = omega (arith, leaf, inner)

      safe_used : (t : ℕ) → (s.status t ≡ Live) ⊎ ((y : ℕ) × (s.status t ≡ Retired y) × (s.epoch ≤ y + 1)) → s.status t ≢ Free
      safe_used t safe = ⊎_elim live_free (λ retired. retired_free retired.0 retired.1) safe
        where
          live_free : s.status t ≡ Live → s.status t ≢ Free
          live_free live free = cc

          retired_free : (y : ℕ) → s.status t ≡ Retired y → s.status t ≢ Free
          retired_free y retired free = cc

  reach : (readings : Readings) (t : ℕ) → IsReader s readings → tree.reaches readings t ≡ true
      → (i p w : ℕ) × (slice_get readings i ≡ Some (p, w)) × (is_link_in s.cells p ≡ true) × (value_of w ≡ suc t)
  reach readings t reader h =
      let by = reached (shows_link readings) readings t h in
      (by.0, by.1, by.2, by.3, shown_now s.cells readings (as_read readings reader) by.1 by.4, by.5)

  leaf_no_inner : (t : ℕ) → IsLeaf now t → IsInner now t → ⊥
  leaf_no_inner t leaf inner = omega (arith, leaf, inner)

  -- an open section
  module _ (d : ℕ) (x : Section) (here : Here s d x) where
    leaf_is : IsLeaf now (node_of (w x))
    leaf_is = open_section.leaf_is layout s sound kept d x here

    parent_inner : IsInner now (w x).last.from
    parent_inner = (open_section.last_link layout s sound kept d x here).inner

    removing : form_of x.thunk ≡ Delete → open_section.IsRemoving layout s sound kept d x here
    removing form = open_section.delete_is_removing layout s sound kept d x here form

    -- which locks it holds
    outer : (l : ℕ) → l ≡ x.thunk.lock → Holds tree x l
    outer l e = inl e

    pub taken_lock : form_of x.thunk ≡ Delete → 5 < x.at → (l : ℕ) → l ≡ lock_of (w x).last.from → Holds tree x l
    taken_lock form at l e = inr (
      5,
      operand x.thunk 3,
      at,
      subst (λ k. IsStep tree x 5 (Take k (operand x.thunk 3))) (sym (e ∙ ap lock_of (sym (removing form).parent)))
          (open_section.step_is layout s sound kept d x here Delete form 5 (Take (lock_of (parent_in x.thunk)) (operand x.thunk 3)) refl),
    )

    child_guard : (b : Bool) (t p : ℕ) → p ≡ child_of b t → p - p % 5 ≡ lock_of t
    child_guard b t p e = guard_is p t (side_cell b) (let high = side_high b in omega (arith, high)) (e ∙ child_cell b t)

    mark_guard : (t p : ℕ) → x.thunk.lock ≡ lock_of t → p ≡ x.thunk.lock + 4 → p - p % 5 ≡ x.thunk.lock
    mark_guard t p lock e = guard_is p t 4 (omega arith) (let z : p ≡ 0 + 5 * t + 4 = omega (arith, lock, e) in z) ∙ sym lock

    guarded : (j p r : ℕ) → j ≤ x.at → IsStep tree x j (Load p r) → Holds tree x (p - p % 5)
    guarded j p r le load = by (form_of x.thunk) refl
      where
        plain : open_section.IsPlain layout s sound kept d x here → (p ≡ operand x.thunk 0) ⊎ (p ≡ x.thunk.lock + 4) → Holds tree x (p - p % 5)
        plain is (inl link) = outer (p - p % 5) (child_guard (w x).last.side (w x).last.from p (link ∙ is.place) ∙ sym is.lock)
        plain is (inr mark) = outer (p - p % 5) (mark_guard (w x).last.from p is.lock mark)

        by : (f : Form) → form_of x.thunk ≡ f → Holds tree x (p - p % 5)
        by Look form = plain (open_section.look_is_plain layout s sound kept d x here form)
            (⊎_elim (λ a. inl a.2) (λ a. inr a.2) (look_load x.thunk j p r (open_section.step_as layout s sound kept d x here Look form j (Load p r) load)))
        by Insert form = plain (open_section.insert_is_plain layout s sound kept d x here form)
            (⊎_elim (λ a. inl a.2) (λ a. inr a.2) (insert_load x.thunk j p r (open_section.step_as layout s sound kept d x here Insert form j (Load p r) load)))
        by Replace form = plain (open_section.replace_is_plain layout s sound kept d x here form)
            (⊎_elim (λ a. inl a.2) (λ a. inr a.2) (replace_load x.thunk j p r
            (open_section.step_as layout s sound kept d x here Replace form j (Load p r) load)))
        by Delete form =
            let is = removing form in
            ⊎_elim (λ a. outer (p - p % 5) (child_guard (w x).grand.side (w x).grand.from p (a.2 ∙ is.place) ∙ sym is.lock))
            (⊎_elim (λ a. outer (p - p % 5) (mark_guard (w x).grand.from p is.lock a.2))
            (⊎_elim (λ a. let six = a.0 in taken_lock form (omega (arith, le, six)) (p - p % 5) (child_guard (w x).last.side (w x).last.from p (a.2 ∙ is.leaf_place)))
            (⊎_elim (λ a. let eight = a.0 in taken_lock form (omega (arith, le, eight)) (p - p % 5) (guard_is p (w x).last.from (cond (is_left x.thunk) 3 2) (sibling_low (is_left x.thunk)) (a.2 ∙ sibling_cell x.thunk ∙ ap (λ t. 0 + 5 * t + cond (is_left x.thunk) 3 2) is.parent)))
            (λ a. let nine = a.0 in taken_lock form (omega (arith, le, nine)) (p - p % 5) (guard_is p (w x).last.from 4 (omega arith) (a.2 ∙ ap mark_of is.parent))))))
            (delete_load x.thunk j p r (open_section.step_as layout s sound kept d x here Delete form j (Load p r) load))
        by Empty form = absurd (no_step (Load p r) j (open_section.step_as layout s sound kept d x here Empty form j (Load p r) load))

    -- a section that can't leave any more has passed its exits
    past_exit : (f : Form) → form_of x.thunk ≡ f → (j : ℕ) (step : Step) → slice_get (body_of f x.thunk) j ≡ Some step → is_exit step ≡ true → Settled tree x → j < x.at
    past_exit f form j step at exit settled = above j x.at (λ low. both_ways _ (settled j step low (open_section.step_is layout s sound kept d x here f form j step at)) exit)
      where
        above : (j n : ℕ) → (n ≤ j → ⊥) → j < n
        above j n none = search arith

    look_settled : form_of x.thunk ≡ Look → Settled tree x → 4 ≤ x.at
    look_settled form settled = let low = past_exit Look form 3 (Want 1 (operand x.thunk 2)) refl refl settled in omega (arith, low)

    insert_settled : form_of x.thunk ≡ Insert → Settled tree x → 5 ≤ x.at
    insert_settled form settled = let low = past_exit Insert form 4 (Want 1 (operand x.thunk 2)) refl refl settled in omega (arith, low)

    replace_settled : form_of x.thunk ≡ Replace → Settled tree x → 5 ≤ x.at
    replace_settled form settled = let low = past_exit Replace form 4 (Want 1 (operand x.thunk 2)) refl refl settled in
        omega (arith, low)

    delete_settled : form_of x.thunk ≡ Delete → Settled tree x → 12 ≤ x.at
    delete_settled form settled = let low = past_exit Delete form 11 (Fresh 4) refl refl settled in omega (arith, low)

    -- the parent and the leaf that a section takes out
    found : form_of x.thunk ≡ Delete → 8 ≤ x.at → x.at ≤ 14 → open_section.HasFound layout s sound kept d x here
    found form at few = open_section.delete_found layout s sound kept d x here form at few

    out : form_of x.thunk ≡ Delete → 15 ≤ x.at → x.at ≤ 16 → IsTaken s kept.covers kept.once x
    out form at few = kept.taken d x here (form, at, few)

    early_or : (n : ℕ) → n ≤ 16 → (n ≤ 14) ⊎ (15 ≤ n)
    early_or n few = search arith

    leaf_up : form_of x.thunk ≡ Delete → 8 ≤ x.at → x.at ≤ 16 → kept.covers.up (node_of (w x)) ≡ (w x).last.from
    leaf_up form at few = ⊎_elim (λ early. (found form at early).leaf_up)
        (λ late. let is = removing form in ap kept.covers.up (sym is.leaf) ∙ ((out form late few).leaf_up ∙ is.parent))
        (early_or x.at few)

    leaf_live : form_of x.thunk ≡ Delete → 8 ≤ x.at → x.at ≤ 16 → s.status (node_of (w x)) ≡ Live
    leaf_live form at few = ⊎_elim (λ early. kept.linked_live (node_of (w x)) (found form at early).leaf_linked)
        (λ late. ap s.status (sym (removing form).leaf) ∙ (out form late few).leaf_live)
        (early_or x.at few)

    parent_live : form_of x.thunk ≡ Delete → 8 ≤ x.at → x.at ≤ 15 → s.status (w x).last.from ≡ Live
    parent_live form at few = ⊎_elim (λ early. kept.linked_live (w x).last.from (found form at early).parent_linked)
        (λ late. ap s.status (sym (removing form).parent) ∙ (out form late (omega (arith, few))).parent_live (let z : x.at ≡ 15 = omega (arith, few, late) in z))
        (early_or x.at (omega (arith, few)))

    -- a section that puts a leaf in the place of another: its numbers, and where the old leaf stands
    replacing : form_of x.thunk ≡ Replace → open_section.IsReplacing layout s sound kept d x here
    replacing form = open_section.replace_is_replacing layout s sound kept d x here form

    plain_lock : form_of x.thunk ≡ Replace → x.thunk.lock ≡ lock_of (w x).last.from
    plain_lock form = (open_section.replace_is_plain layout s sound kept d x here form).lock

    old_out : form_of x.thunk ≡ Replace → x.at ≡ 8 → IsReplaced s kept.covers kept.once x
    old_out form at = kept.replaced d x here (form, at)

    unstored_or : (n : ℕ) → n ≤ 8 → (n ≤ 7) ⊎ (n ≡ 8)
    unstored_or n few = search arith

    old_up : form_of x.thunk ≡ Replace → 5 ≤ x.at → x.at ≤ 8 → kept.covers.up (node_of (w x)) ≡ (w x).last.from
    old_up form at few = ⊎_elim
        (λ early. (open_section.replace_landed layout s sound kept d x here form at early).up)
        (λ late. ap kept.covers.up (sym (replacing form).leaf)
        ∙ same_node (kept.covers.up (old_leaf x.thunk)) (w x).last.from (sym (old_out form late).leaf_up
        ∙ plain_lock form))
        (unstored_or x.at few)
      where
        same_node : (t u : ℕ) → lock_of t ≡ lock_of u → t ≡ u
        same_node t u e = omega (arith, e)

    old_live : form_of x.thunk ≡ Replace → 5 ≤ x.at → x.at ≤ 8 → s.status (node_of (w x)) ≡ Live
    old_live form at few = ⊎_elim
        (λ early. kept.linked_live (node_of (w x))
        (open_section.replace_landed layout s sound kept d x here form at early).node.linked)
        (λ late. ap s.status (sym (replacing form).leaf) ∙ (old_out form late).leaf_live)
        (unstored_or x.at few)

    -- a key that was found is a request's, so its leaf is no sentinel
    found_key : (w x).found ≡ true → now.key (node_of (w x)) ≤ 4294967293
    found_key hit =
        let read = open_section.leaf_key_is layout s sound kept d x here in
        let keyed = walk_keyed (bounds layout) x.op x.readings (ap is_late (open_section.stage_is layout s sound kept d x here)) in
        let same : (w x).key ≡ key_of x.op = equal_of _ _ (sym keyed ∙ hit) in
        let low = (sound.allowed d x here).keys (key_of x.op) (inl refl) in omega (arith, read, same, low)

    pub found_unfixed : (w x).found ≡ true → 3 ≤ node_of (w x)
    found_unfixed hit = unfixed (node_of (w x))
        (λ zero. leaf_no_inner (node_of (w x)) leaf_is (subst (IsInner now) (sym zero) kept.tree.root_inner))
        (λ one. let at = ap now.key one ∙ kept.sentinels.first_key in let low = found_key hit in omega (arith, at, low))
        (λ two. let at = ap now.key two ∙ kept.sentinels.last_key in let low = found_key hit in omega (arith, at, low))

    pub leaf_unfixed : form_of x.thunk ≡ Delete → 3 ≤ node_of (w x)
    leaf_unfixed form = found_unfixed (removing form).found

    pub parent_unfixed : form_of x.thunk ≡ Delete → 8 ≤ x.at → x.at ≤ 15 → 3 ≤ (w x).last.from
    parent_unfixed form at few = ⊎_elim
        (λ early. unfixed (w x).last.from
        (λ zero. no_root (found form at early) zero (w x).grand.side refl)
        (λ one. leaf_no_inner 1 kept.sentinels.first_leaf (subst (IsInner now) one parent_inner))
        (λ two. leaf_no_inner 2 kept.sentinels.last_leaf (subst (IsInner now) two parent_inner)))
        (λ late. subst (λ t. 3 ≤ t) (removing form).parent (out form late (omega (arith, few))).parent_unfixed)
        (early_or x.at (omega (arith, few)))
      where
        -- the root is no child: a child covers fewer keys
        no_root : open_section.HasFound layout s sound kept d x here → (w x).last.from ≡ 0 → (side : Bool) → (w x).grand.side ≡ side → ⊥
        no_root is zero side at = by side
            (subst (λ b. now.child b (w x).grand.from ≡ suc 0) at (is.grand_link ∙ ap suc zero))
          where
            inner : (kept.covers.lo (w x).grand.from < now.key (w x).grand.from) × (now.key (w x).grand.from < kept.covers.hi (w x).grand.from)
            inner = kept.tree.inner_key (w x).grand.from is.grand_linked is.grand_inner

            by : (side : Bool) → now.child side (w x).grand.from ≡ suc 0 → ⊥
            by true link = let hi = kept.tree.child_hi true (w x).grand.from 0 is.grand_linked is.grand_inner link in
                let all = kept.tree.root_hi in let top = kept.tree.top (w x).grand.from is.grand_linked in let low = inner.1 in omega (arith, hi, all, top, low)
            by false link = let lo = kept.tree.child_lo false (w x).grand.from 0 is.grand_linked is.grand_inner link in
                let all = kept.tree.root_lo in let low = inner.0 in omega (arith, lo, all, low)

    -- its link to the leaf and the other one
    leaf_link : form_of x.thunk ≡ Delete → 8 ≤ x.at → now.child (w x).last.side (w x).last.from ≡ (suc (node_of (w x)))
    leaf_link form at =
        let stands = ap value_of (open_section.leaf_link layout s sound kept d x here form at) in
        let some = (open_section.last_link layout s sound kept d x here).some in
        let z : value_of (w x).last.word ≡ suc (node_of (w x)) = omega (arith, some) in stands ∙ z

    sibling_link : form_of x.thunk ≡ Delete → value_of (s.cells (sibling_of x.thunk)) ≡ now.child (not (w x).last.side) (w x).last.from
    sibling_link form = ap (λ p. value_of (s.cells p)) (open_section.sibling_place layout s sound kept d x here (removing form))

    -- what it retires: a parent and its leaf, or a leaf in whose place it has put another
    data IsRetiring (j t : ℕ) : Type 0 where
      Parent : form_of x.thunk ≡ Delete → j ≡ 15 → t ≡ (w x).last.from → IsRetiring j t
      Leaf : form_of x.thunk ≡ Delete → j ≡ 16 → t ≡ node_of (w x) → IsRetiring j t
      Old : form_of x.thunk ≡ Replace → j ≡ 8 → t ≡ node_of (w x) → IsRetiring j t

    retiring : (j t : ℕ) → IsStep tree x j (Retire t) → IsRetiring j t
    retiring j t h = by (form_of x.thunk) refl
      where
        step : (f : Form) → form_of x.thunk ≡ f → slice_get (body_of f x.thunk) j ≡ Some (Retire t)
        step f form = open_section.step_as layout s sound kept d x here f form j (Retire t) h

        by : (f : Form) → form_of x.thunk ≡ f → IsRetiring j t
        by Look form = absurd (look_retire x.thunk j t (step Look form))
        by Insert form = absurd (insert_retire x.thunk j t (step Insert form))
        by Delete form = ⊎_elim (λ a. Parent form a.0 (a.1 ∙ (removing form).parent))
            (λ a. Leaf form a.0 (a.1 ∙ (removing form).leaf)) (delete_retire x.thunk j t (step Delete form))
        by Replace form = let a = replace_retire x.thunk j t (step Replace form) in
            Old form a.0 (a.1 ∙ (replacing form).leaf)
        by Empty form = absurd (no_step (Retire t) j (step Empty form))

    retire_live : (j t : ℕ) → Settled tree x → x.at ≤ j → IsStep tree x j (Retire t) → s.status t ≡ Live
    retire_live j t settled le h = by (retiring j t h)
      where
        by : IsRetiring j t → s.status t ≡ Live
        by (Parent form j15 is) = let past = delete_settled form settled in
            ap s.status is ∙ parent_live form (omega (arith, past)) (omega (arith, le, j15))
        by (Leaf form j16 is) = let past = delete_settled form settled in
            ap s.status is ∙ leaf_live form (omega (arith, past)) (omega (arith, le, j16))
        by (Old form j8 is) = ap s.status is ∙ old_live form (replace_settled form settled) (omega (arith, le, j8))

    retire_unfixed : (j t : ℕ) → Settled tree x → x.at ≤ j → IsStep tree x j (Retire t) → 3 ≤ t
    retire_unfixed j t settled le h = by (retiring j t h)
      where
        by : IsRetiring j t → 3 ≤ t
        by (Parent form j15 is) = let past = delete_settled form settled in
            subst (λ k. 3 ≤ k) (sym is) (parent_unfixed form (omega (arith, past)) (omega (arith, le, j15)))
        by (Leaf form j16 is) = subst (λ k. 3 ≤ k) (sym is) (leaf_unfixed form)
        by (Old form j8 is) = subst (λ k. 3 ≤ k) (sym is) (found_unfixed (replacing form).found)

    -- a leaf that it retires has the walk's last parent, whose lock it holds
    record IsOldLeaf (t : ℕ) : Type 0 where
      up : kept.covers.up t ≡ (w x).last.from
      holds : Holds tree x (lock_of (w x).last.from)

    old_leaf_at : form_of x.thunk ≡ Replace → 5 ≤ x.at → x.at ≤ 8 → IsOldLeaf (node_of (w x))
    old_leaf_at form at few = record {
      up = old_up form at few;
      holds = outer (lock_of (w x).last.from) (sym (plain_lock form));
    }

    taken_leaf_at : form_of x.thunk ≡ Delete → 8 ≤ x.at → x.at ≤ 16 → IsOldLeaf (node_of (w x))
    taken_leaf_at form at few = record {
      up = leaf_up form at few;
      holds = taken_lock form (omega (arith, at)) (lock_of (w x).last.from) refl;
    }

    -- a section that can't leave any more and has stored nothing holds the lock of its leaf's parent, and the leaf covers its key
    record IsStanding : Type 0 where
      holds : Holds tree x (lock_of (w x).last.from)
      linked : kept.covers.linked (node_of (w x)) ≡ true
      up : kept.covers.up (node_of (w x)) ≡ (w x).last.from
      lo : kept.covers.lo (node_of (w x)) ≤ key_of x.op
      hi : key_of x.op < kept.covers.hi (node_of (w x))

    standing : Settled tree x → Unstored tree x → IsStanding
    standing settled unstored = by (open_section.kind layout s sound kept d x here limits)
      where
        plain : open_section.IsPlain layout s sound kept d x here → HasLanded kept.covers (key_of x.op) (w x) → IsStanding
        plain is landed = record { holds = outer (lock_of (w x).last.from) (sym is.lock); linked = landed.node.linked; up = landed.up; lo = landed.node.lo; hi = landed.node.hi }

        by : open_section.Kind layout s sound kept d x here limits → IsStanding
        by (open_section.Looks form) = plain (open_section.look_is_plain layout s sound kept d x here form)
            (open_section.look_landed layout s sound kept d x here form (look_settled form settled))
        by (open_section.Inserts form) = plain (open_section.insert_is_plain layout s sound kept d x here form)
            (open_section.insert_landed layout s sound kept d x here form (insert_settled form settled)
            (unstored 8 0 (Made 3) (open_section.step_is layout s sound kept d x here Insert form 8 (Store 0 (Made 3)) refl)))
        by (open_section.Replaces form) = plain (open_section.replace_is_plain layout s sound kept d x here form)
            (open_section.replace_landed layout s sound kept d x here form (replace_settled form settled)
            (unstored 7 0 (Made 2) (open_section.step_is layout s sound kept d x here Replace form 7 (Store 0
            (Made 2)) refl)))
        by (open_section.Deletes form) =
            let past = delete_settled form settled in
            let few = unstored 13 4 (Const 1) (open_section.step_is layout s sound kept d x here Delete form 13 (Store 4 (Const 1)) refl) in
            let is = found form (omega (arith, past)) (omega (arith, few)) in
            record { holds = taken_lock form (omega (arith, past)) (lock_of (w x).last.from) refl; linked = is.leaf_linked; up = is.leaf_up; lo = is.leaf_lo; hi = is.leaf_hi }

    -- what it has still to store to is a cell of a linked node
    store_used : (i j p r : ℕ) (v : Value) → Settled tree x → x.at ≤ i → IsStep tree x i (Store r v) → IsStep tree x j (Load p r) → InUse tree s p
    store_used i j p r v settled le store load = by (form_of x.thunk) refl
      where
        cell : (t k : ℕ) → k < 5 → kept.covers.linked t ≡ true → p ≡ 0 + 5 * t + k → InUse tree s p
        cell t k low linked at = inr (t, (k, low, at), kept.linked_live t linked)

        child : (b : Bool) (t : ℕ) → kept.covers.linked t ≡ true → p ≡ child_of b t → InUse tree s p
        child b t linked at = cell t (side_cell b) (let high = side_high b in omega (arith, high)) linked (at ∙ child_cell b t)

        by : (f : Form) → form_of x.thunk ≡ f → InUse tree s p
        by Look form = absurd (look_store x.thunk i r v (open_section.step_as layout s sound kept d x here Look form i (Store r v) store))
        by Insert form =
            let at = insert_store x.thunk i r v (open_section.step_as layout s sound kept d x here Insert form i (Store r v) store) in
            let eight = at.0 in let zero = at.1 in
            let is = open_section.insert_is_plain layout s sound kept d x here form in
            let landed = open_section.insert_landed layout s sound kept d x here form (insert_settled form settled) (omega (arith, le, eight)) in
            ⊎_elim (λ a. child (w x).last.side (w x).last.from landed.parent.linked (a.2 ∙ is.place))
            (λ a. absurd (let one = a.1 in omega (arith, one, zero)))
            (insert_load x.thunk j p r (open_section.step_as layout s sound kept d x here Insert form j (Load p r) load))
        by Replace form =
            let at = replace_store x.thunk i r v
            (open_section.step_as layout s sound kept d x here Replace form i (Store r v) store) in
            let seven = at.0 in let zero = at.1 in
            let is = open_section.replace_is_plain layout s sound kept d x here form in
            let landed = open_section.replace_landed layout s sound kept d x here form (replace_settled form settled)
            (omega (arith, le, seven)) in
            ⊎_elim (λ a. child (w x).last.side (w x).last.from landed.parent.linked (a.2 ∙ is.place))
            (λ a. absurd (let one = a.1 in omega (arith, one, zero)))
            (replace_load x.thunk j p r
            (open_section.step_as layout s sound kept d x here Replace form j (Load p r) load))
        by Delete form =
            let past = delete_settled form settled in
            let is = removing form in
            let loads = delete_load x.thunk j p r (open_section.step_as layout s sound kept d x here Delete form j (Load p r) load) in
            ⊎_elim
            (λ mark. let at = mark.0 in let four = mark.1 in let stands = found form (omega (arith, past)) (omega (arith, le, at)) in
            cell (w x).last.from 4 (omega arith) stands.parent_linked (fourth_load x.thunk j p r four loads ∙ ap mark_of is.parent))
            (λ link. let at = link.0 in let zero = link.1 in let stands = found form (omega (arith, past)) (omega (arith, le, at)) in
            child (w x).grand.side (w x).grand.from stands.grand_linked (first_load x.thunk j p r zero loads ∙ is.place))
            (delete_store x.thunk i r v (open_section.step_as layout s sound kept d x here Delete form i (Store r v) store))
        by Empty form = absurd (no_step (Store r v) i (open_section.step_as layout s sound kept d x here Empty form i (Store r v) store))

  -- two sections that hold the lock of one node are one
  one_holder : (d e : ℕ) (x y : Section) → Here s d x → Here s e y → (t u : ℕ) → Holds tree x (lock_of t)
      → Holds tree y (lock_of u) → t ≡ u → d ≡ e
  one_holder d e x y here there t u holds holds' same = ⊎_elim (λ one. one)
      (λ ne. absurd (sound.apart d e x y here there ne (lock_of t) holds
      (subst (λ k. Holds tree y (lock_of k)) (sym same) holds')))
      (cases_eq d e)

  one_section : (d e : ℕ) (x y : Section) → Here s d x → Here s e y → d ≡ e → x ≡ y
  one_section d e x y here there one = some_eq x y (sym here ∙ (ap s.section one ∙ there))

  delete_replace : (x y : Section) → x ≡ y → form_of x.thunk ≡ Delete → form_of y.thunk ≡ Replace → ⊥
  delete_replace x y same form form' = two (sym form ∙ (ap (λ (z : Section). form_of z.thunk) same ∙ form'))
    where
      two : Delete ≡ Replace → ⊥
      two e = cc

  -- two sections that retire one leaf are one
  one_leaf : (d e : ℕ) (x y : Section) (here : Here s d x) (there : Here s e y) (t : ℕ) → t ≡ node_of (w x)
      → t ≡ node_of (w y) → IsOldLeaf d x here (node_of (w x)) → IsOldLeaf e y there (node_of (w y)) → d ≡ e
  one_leaf d e x y here there t is is' a b = one_holder d e x y here there (w x).last.from
      (w y).last.from a.holds b.holds
      (sym a.up ∙ (ap kept.covers.up (sym is ∙ is') ∙ b.up))

  retire_once : (d e i j t : ℕ) (x y : Section) → Here s d x → Here s e y → Settled tree x → Settled tree y
      → x.at ≤ i → y.at ≤ j
      → IsStep tree x i (Retire t) → IsStep tree y j (Retire t) → (d ≡ e) × (i ≡ j)
  retire_once d e i j t x y here there settled settled' le le' h h' = by (retiring d x here i t h)
      (retiring e y there j t h')
    where
      taken : (d : ℕ) (x : Section) (here : Here s d x) → Settled tree x → form_of x.thunk ≡ Delete → (i : ℕ) → x.at ≤ i
          → i ≡ 16 → IsOldLeaf d x here (node_of (w x))
      taken d x here settled form i le i16 = let past = delete_settled d x here form settled in
          taken_leaf_at d x here form (omega (arith, past)) (omega (arith, le, i16))

      old : (d : ℕ) (x : Section) (here : Here s d x) → Settled tree x → form_of x.thunk ≡ Replace → (i : ℕ) → x.at ≤ i
          → i ≡ 8 → IsOldLeaf d x here (node_of (w x))
      old d x here settled form i le i8 = old_leaf_at d x here form (replace_settled d x here form settled)
          (omega (arith, le, i8))

      holds : (d : ℕ) (x : Section) (here : Here s d x) → Settled tree x → form_of x.thunk ≡ Delete
          → Holds tree x (lock_of (w x).last.from)
      holds d x here settled form = let past = delete_settled d x here form settled in
          taken_lock d x here form (omega (arith, past)) (lock_of (w x).last.from) refl

      not_both : (d e : ℕ) (x y : Section) (here : Here s d x) (there : Here s e y) → t ≡ (w x).last.from
          → t ≡ node_of (w y) → ⊥
      not_both d e x y here there is is' = leaf_no_inner t (subst (IsLeaf now) (sym is') (leaf_is e y there))
          (subst (IsInner now) (sym is) (parent_inner d x here))

      by : IsRetiring d x here i t → IsRetiring e y there j t → (d ≡ e) × (i ≡ j)
      by (Parent form i15 is) (Parent form' j15 is') = (
        one_holder d e x y here there (w x).last.from (w y).last.from (holds d x here settled form)
            (holds e y there settled' form') (sym is ∙ is'),
        i15 ∙ sym j15,
      )
      by (Parent form i15 is) (Leaf form' j16 is') = absurd (not_both d e x y here there is is')
      by (Parent form i15 is) (Old form' j8 is') = absurd (not_both d e x y here there is is')
      by (Leaf form i16 is) (Parent form' j15 is') = absurd (not_both e d y x there here is' is)
      by (Old form i8 is) (Parent form' j15 is') = absurd (not_both e d y x there here is' is)
      by (Leaf form i16 is) (Leaf form' j16 is') = (
        one_leaf d e x y here there t is is' (taken d x here settled form i le i16)
            (taken e y there settled' form' j le' j16),
        i16 ∙ sym j16,
      )
      by (Old form i8 is) (Old form' j8 is') = (
        one_leaf d e x y here there t is is' (old d x here settled form i le i8)
            (old e y there settled' form' j le' j8),
        i8 ∙ sym j8,
      )
      by (Leaf form i16 is) (Old form' j8 is') = absurd (delete_replace x y (one_section d e x y here there
          (one_leaf d e x y here there t is is' (taken d x here settled form i le i16)
          (old e y there settled' form' j le' j8))) form form')
      by (Old form i8 is) (Leaf form' j16 is') = absurd (delete_replace y x (sym (one_section d e x y here there
          (one_leaf d e x y here there t is is' (old d x here settled form i le i8)
          (taken e y there settled' form' j le' j16)))) form' form)

  one_key : (d e : ℕ) (x y : Section) → Here s d x → Here s e y → d ≢ e → Settled tree x → Settled tree y → Unstored tree x → Unstored tree y → HaveNoCommonKey x.op y.op
  one_key d e x y here there ne settled settled' unstored unstored' key depends depends' = ⊎_elim
      (λ same. sound.apart d e x y here there ne (lock_of (w x).last.from) a.holds
      (subst (λ t. Holds tree y (lock_of t)) (sym b.up ∙ (ap kept.covers.up (sym same) ∙ a.up)) b.holds))
      (λ differ. ⊎_elim
      (λ below. let lo = b.lo in let hi = a.hi in omega (arith, below, lo, hi, mine, theirs))
      (λ below. let lo = a.lo in let hi = b.hi in omega (arith, below, lo, hi, mine, theirs))
      (kept.tree.leaves (node_of (w x)) (node_of (w y)) a.linked b.linked (leaf_is d x here) (leaf_is e y there) differ))
      (cases_eq (node_of (w x)) (node_of (w y)))
    where
      a : IsStanding d x here
      a = standing d x here settled unstored

      b : IsStanding e y there
      b = standing e y there settled' unstored'

      own_key : (c : ℕ) (z : Section) → Here s c z → DependsOn z.op key → key_of z.op ≡ key
      own_key c z at on = key_is z.op key (fit_of z.op (w z) z.thunk (sound.fits c z at)).one on

      mine : key_of x.op ≡ key
      mine = own_key d x here depends

      theirs : key_of y.op ≡ key
      theirs = own_key e y there depends'

  -- where a link in use leads: to a linked node, to a new leaf, or to a leaf that was taken out with its parent
  data Leads (t : ℕ) : Type 0 where
    Linked : kept.covers.linked t ≡ true → Leads t
    New : (d : ℕ) (x : Section) → Here s d x → HasInner x → x.reg 2 ≡ suc t → Leads t
    Taken : (d : ℕ) (x : Section) → Here s d x → HasTaken x → x.at ≡ 15 → node_of (w x) ≡ t → Leads t

  new_leads : (d : ℕ) (x : Section) → Here s d x → HasInner x → (q t : ℕ) (b : Bool) → x.reg 3 ≡ suc q → now.child b q ≡ suc t → Leads t
  new_leads d x here has q t b reg link =
      let is = kept.new_inner d x here has in
      let same : is.slot ≡ q = suc_eq is.slot q (sym is.link ∙ reg) in
      ⊎_elim (λ new. New d x here has new) (λ old. Linked (leaf_linked old))
      (sides b (nat_lt (operand x.thunk 3) (operand x.thunk 5))
      (ap (now.child (nat_lt (operand x.thunk 3) (operand x.thunk 5))) (sym same) ∙ is.new_side)
      (ap (now.child (not (nat_lt (operand x.thunk 3) (operand x.thunk 5)))) (sym same) ∙ is.old_side) link)
    where
      sides : (b h : Bool) → now.child h q ≡ x.reg 2 → now.child (not h) q ≡ value_of (operand x.thunk 1) → now.child b q ≡ suc t
          → (x.reg 2 ≡ suc t) ⊎ (value_of (operand x.thunk 1) ≡ suc t)
      sides true true new old link = inl (sym new ∙ link)
      sides true false new old link = inr (sym old ∙ link)
      sides false true new old link = inr (sym old ∙ link)
      sides false false new old link = inl (sym new ∙ link)

      leaf_linked : value_of (operand x.thunk 1) ≡ suc t → kept.covers.linked t ≡ true
      leaf_linked old =
          let plain = open_section.insert_is_plain layout s sound kept d x here has.0 in
          let low = has.1 in
          let landed = open_section.insert_landed layout s sound kept d x here has.0 (omega (arith, low)) has.2 in
          let at : node_of (w x) ≡ t = (let z = ap value_of (sym plain.word) ∙ old in omega (arith, z)) in
          subst (λ k. kept.covers.linked k ≡ true) at landed.node.linked

  taken_leads : (d : ℕ) (x : Section) → Here s d x → HasTaken x → x.at ≡ 15 → (t : ℕ) (b : Bool) → now.child b (w x).last.from ≡ suc t → Leads t
  taken_leads d x here has at t b link = sides (w x).last.side refl
    where
      leaf_there : now.child (w x).last.side (w x).last.from ≡ suc (node_of (w x))
      leaf_there = leaf_link d x here has.0 (omega (arith, at))

      other : now.child (not (w x).last.side) (w x).last.from ≡ suc t → Leads t
      other there = Linked ((kept.taken d x here has).sibling t (sibling_link d x here has.0 ∙ there))

      mine : now.child (w x).last.side (w x).last.from ≡ suc t → Leads t
      mine there = Taken d x here has at (suc_eq (node_of (w x)) t (sym leaf_there ∙ there))

      sides : (side : Bool) → (w x).last.side ≡ side → Leads t
      sides side e = by b side e link
        where
          by : (b side : Bool) → (w x).last.side ≡ side → now.child b (w x).last.from ≡ suc t → Leads t
          by true true e link = mine (ap (λ c. now.child c (w x).last.from) e ∙ link)
          by false false e link = mine (ap (λ c. now.child c (w x).last.from) e ∙ link)
          by true false e link = other (ap (λ c. now.child (not c) (w x).last.from) e ∙ link)
          by false true e link = other (ap (λ c. now.child (not c) (w x).last.from) e ∙ link)

  between_leads : (d : ℕ) (x : Section) → Here s d x → (q t : ℕ) (b : Bool) → IsInner now q → now.child b q ≡ suc t → IsBetween x q → Leads t
  between_leads d x here q t b inner link (ReplacedLeaf has leaf) =
      absurd (leaf_no_inner q (subst (IsLeaf now) (sym (replacing d x here has.0).leaf ∙ leaf)
      (leaf_is d x here)) inner)
  between_leads d x here q t b inner link (NewLeaf has reg) =
      let is = kept.new_leaf d x here has in
      absurd (leaf_no_inner q (subst (IsLeaf now) (suc_eq is.slot q (sym is.link ∙ reg)) is.leaf) inner)
  between_leads d x here q t b inner link (NewInner has reg) = new_leads d x here has q t b reg link
  between_leads d x here q t b inner link (OldParent has at parent) =
      taken_leads d x here has at t b (ap (now.child b) (sym (removing d x here has.0).parent ∙ parent) ∙ link)
  between_leads d x here q t b inner link (OldLeaf has leaf) =
      absurd (leaf_no_inner q (subst (IsLeaf now) (sym (removing d x here has.0).leaf ∙ leaf) (leaf_is d x here)) inner)

  node_leads : (q t : ℕ) (b : Bool) → s.status q ≡ Live → IsInner now q → now.child b q ≡ suc t → Leads t
  node_leads q t b live inner link = ⊎_elim
      (λ linked. Linked (kept.tree.child_linked b q t linked inner link))
      (λ between. between_leads between.0 between.1 between.2 q t b inner link between.3)
      (kept.live q live)

  link_in : (q i p t : ℕ) → i < 5 → p ≡ 0 + 5 * q + i → Links tree s p t → IsLinkOf now q t
  link_in q i p t low at links = link_of_node s q i t low
      (ap (is_link_in s.cells) (sym at) ∙ links.0) (ap (λ k. value_of (s.cells k)) (sym at) ∙ links.1)

  used_leads : (p t : ℕ) → InUse tree s p → Links tree s p t → Leads t
  used_leads p t (inl low) links = absurd (omega (arith, low))
  used_leads p t (inr slot) links =
      let is = link_in slot.0 slot.1.0 p t slot.1.1 slot.1.2 links in
      node_leads slot.0 t is.side slot.2 is.inner is.leads

  new_leaf_at : (d : ℕ) (x : Section) (here : Here s d x) → HasInner x → (t : ℕ) → x.reg 2 ≡ suc t → (s.status t ≡ Live) × (kept.once t ≡ false)
  new_leaf_at d x here has t reg =
      let low = has.1 in
      let is = kept.new_leaf d x here (inl (has.0, omega (arith, low), has.2)) in
      let same : is.slot ≡ t = suc_eq is.slot t (sym is.link ∙ reg) in
      (ap s.status (sym same) ∙ is.live, ap kept.once (sym same) ∙ is.new)

  live : (p t : ℕ) → InUse tree s p → Links tree s p t → s.status t ≡ Live
  live p t used links = by (used_leads p t used links)
    where
      by : Leads t → s.status t ≡ Live
      by (Linked linked) = kept.linked_live t linked
      by (New d x here has reg) = (new_leaf_at d x here has t reg).0
      by (Taken d x here has at same) = ap s.status (sym same) ∙ leaf_live d x here has.0 (omega (arith, at)) (omega (arith, at))

  limbo : (q y t i : ℕ) → s.status q ≡ Retired y → s.epoch ≤ y + 1 → i < 5 → Links tree s (0 + 5 * q + i) t
      → (s.status t ≡ Live) ⊎ ((z : ℕ) × (s.status t ≡ Retired z) × (y ≤ z))
  limbo q y t i retired recent low links =
      let is = link_in q i (0 + 5 * q + i) t low refl links in
      kept.limbo q y t is.side retired recent is.inner is.leads

  -- what a section retires was linked once and isn't linked; a leaf has the parent whose lock the section holds
  record IsGone (d : ℕ) (x : Section) (here : Here s d x) (t : ℕ) : Type 0 where
    out : kept.covers.linked t ≡ false
    once : kept.once t ≡ true
    leaf : IsLeaf now t → (t ≡ node_of (w x)) × IsOldLeaf d x here (node_of (w x))

  gone : (d : ℕ) (x : Section) (here : Here s d x) (t : ℕ) → IsRetiring d x here x.at t → IsGone d x here t
  gone d x here t (Parent form at is) =
      let was = out d x here form (omega (arith, at)) (omega (arith, at)) in
      let same = is ∙ sym (removing d x here form).parent in
      record {
        out = ap kept.covers.linked same ∙ was.parent_out;
        once = ap kept.once same ∙ was.parent_once;
        leaf = λ leaf. absurd (leaf_no_inner t leaf (subst (IsInner now) (sym is) (parent_inner d x here)));
      }
  gone d x here t (Leaf form at is) =
      let was = out d x here form (omega (arith, at)) (omega (arith, at)) in
      let same = is ∙ sym (removing d x here form).leaf in
      record {
        out = ap kept.covers.linked same ∙ was.leaf_out;
        once = ap kept.once same ∙ was.leaf_once;
        leaf = λ leaf. (is, taken_leaf_at d x here form (omega (arith, at)) (omega (arith, at)));
      }
  gone d x here t (Old form at is) =
      let was = old_out d x here form at in
      let same = is ∙ sym (replacing d x here form).leaf in
      record {
        out = ap kept.covers.linked same ∙ was.leaf_out;
        once = ap kept.once same ∙ was.leaf_once;
        leaf = λ leaf. (is, old_leaf_at d x here form (omega (arith, at)) (omega (arith, at)));
      }

  -- a section that has the leaf of a taken parent before it retires the parent isn't at another Retire
  late_other : (d : ℕ) (x y : Section) (here : Here s d x) (t : ℕ) → x ≡ y → IsRetiring d x here x.at t
      → IsLeaf now t → form_of y.thunk ≡ Delete → y.at ≡ 15 → ⊥
  late_other d x y here t same (Parent form at is) leaf form' at' =
      leaf_no_inner t leaf (subst (IsInner now) (sym is) (parent_inner d x here))
  late_other d x y here t same (Leaf form at is) leaf form' at' = let places = ap (λ (z : Section). z.at) same in
      omega (arith, at, at', places)
  late_other d x y here t same (Old form at is) leaf form' at' = let places = ap (λ (z : Section). z.at) same in
      omega (arith, at, at', places)

  retire_unlinked : (d t p : ℕ) (x : Section) → Here s d x → IsStep tree x x.at (Retire t) → InUse tree s p → Links tree s p t → ⊥
  retire_unlinked d t p x here h used links = by (used_leads p t used links)
    where
      is : IsRetiring d x here x.at t
      is = retiring d x here x.at t h

      by : Leads t → ⊥
      by (Linked linked) = both_ways _ (gone d x here t is).out linked
      by (New e y there has reg) = both_ways _ (new_leaf_at e y there has t reg).1 (gone d x here t is).once
      by (Taken e y there has at15 same) =
          let leaf = subst (IsLeaf now) same (leaf_is e y there) in
          let mine = (gone d x here t is).leaf leaf in
          let its = taken_leaf_at e y there has.0 (omega (arith, at15)) (omega (arith, at15)) in
          late_other d x y here t (one_section d e x y here there
          (one_leaf d e x y here there t mine.0 (sym same) mine.1 its)) is leaf has.0 at15

  -- a link before a Store and behind it leads to a node
  pub record StoresLink (x : Section) (p r : ℕ) (v : Value) : Type 0 where
    pub before : 0 < value_of (s.cells p)
    pub after : 0 < value_in x.reg v

  left_inner : (b : Bool) (t p : ℕ) → p ≡ child_of b t → p % 5 ≡ 2 → IsInner now t → 0 < value_of (s.cells p)
  left_inner true t p at two inner = subst (λ k. 0 < value_of (s.cells k)) (sym at) inner
  left_inner false t p at two inner = absurd (omega (arith, at, two))

  -- a Store into a left link stores a link in a link's place
  stores_link : (d j p r : ℕ) (x : Section) (v : Value) → Here s d x → IsStep tree x x.at (Store r v) → IsStep tree x j (Load p r) → p % 5 ≡ 2 → StoresLink x p r v
  stores_link d j p r x v here store load two = by (form_of x.thunk) refl
    where
      never : form_of x.thunk ≡ Delete → (i : ℕ) (u : Value) → IsStep tree x i (Store 3 u) → x.at ≤ i
      never form i u h = absurd (⊎_elim (λ mark. let e = mark.1 in omega (arith, e)) (λ link. let e = link.1 in omega (arith, e))
          (delete_store x.thunk i 3 u (open_section.step_as layout s sound kept d x here Delete form i (Store 3 u) h)))

      live_free : (t : ℕ) → s.status t ≡ Live → s.status t ≡ Free → ⊥
      live_free t live free = cc

      small_some : (n : ℕ) → suc n < 2 ^ 32 → 0 < value_of (suc n)
      small_some n low = omega (arith, low)

      by : (f : Form) → form_of x.thunk ≡ f → StoresLink x p r v
      by Look form = absurd (look_store x.thunk x.at r v (open_section.step_as layout s sound kept d x here Look form x.at (Store r v) store))
      by Insert form =
          let at = insert_store x.thunk x.at r v (open_section.step_as layout s sound kept d x here Insert form x.at (Store r v) store) in
          let eight = at.0 in let zero = at.1 in
          let plain = open_section.insert_is_plain layout s sound kept d x here form in
          let new = kept.new_inner d x here (form, omega (arith, eight), omega (arith, eight)) in
          let few = sound.within new.slot (λ free. live_free new.slot new.live free) in
          let nodes = limits.few_nodes in let runners = limits.few_runners in
          record {
            before = ⊎_elim (λ a. left_inner (w x).last.side (w x).last.from p (a.2 ∙ plain.place) two (parent_inner d x here))
                (λ a. absurd (let one = a.1 in omega (arith, one, zero)))
                (insert_load x.thunk j p r (open_section.step_as layout s sound kept d x here Insert form j (Load p r) load));
            after = subst (λ (u : Value). 0 < value_in x.reg u) (sym at.2) (subst (λ k. 0 < value_of k) (sym new.link) (small_some new.slot (omega (arith, few, nodes, runners))));
          }
      by Replace form =
          let at = replace_store x.thunk x.at r v
          (open_section.step_as layout s sound kept d x here Replace form x.at (Store r v) store) in
          let seven = at.0 in let zero = at.1 in
          let plain = open_section.replace_is_plain layout s sound kept d x here form in
          let new = kept.new_leaf d x here (inr (form, omega (arith, seven), omega (arith, seven))) in
          let few = sound.within new.slot (λ free. live_free new.slot new.live free) in
          let nodes = limits.few_nodes in let runners = limits.few_runners in
          record {
            before = ⊎_elim
                (λ a. left_inner (w x).last.side (w x).last.from p (a.2 ∙ plain.place) two (parent_inner d x here))
                (λ a. absurd (let one = a.1 in omega (arith, one, zero)))
                (replace_load x.thunk j p r
                (open_section.step_as layout s sound kept d x here Replace form j (Load p r) load));
            after = subst (λ (u : Value). 0 < value_in x.reg u) (sym at.2)
                (subst (λ k. 0 < value_of k) (sym new.link) (small_some new.slot (omega (arith, few, nodes, runners))));
          }
      by Delete form =
          let is = removing d x here form in
          let loads = delete_load x.thunk j p r (open_section.step_as layout s sound kept d x here Delete form j (Load p r) load) in
          ⊎_elim
          (λ mark. let four = mark.1 in absurd (no_mark (fourth_load x.thunk j p r four loads)))
          (λ link.
          let at = link.0 in let zero = link.1 in
          let stands = found d x here form (omega (arith, at)) (omega (arith, at)) in
          let read = sound.loaded d x here 8 (sibling_of x.thunk) 3 (omega (arith, at)) (open_section.step_is layout s sound kept d x here Delete form 8 (Load (sibling_of x.thunk) 3) refl) (λ i u h. never form i u h) in
          record {
            before = left_inner (w x).grand.side (w x).grand.from p (first_load x.thunk j p r zero loads ∙ is.place) two stands.grand_inner;
            after = subst (λ (u : Value). 0 < value_in x.reg u) (sym link.2) (subst (λ k. 0 < value_of k) read (subst (λ n. 0 < n) (sym (sibling_link d x here form))
                (kept.tree.child_some (not (w x).last.side) (w x).last.from stands.parent_linked (parent_inner d x here))));
          })
          (delete_store x.thunk x.at r v (open_section.step_as layout s sound kept d x here Delete form x.at (Store r v) store))
        where
          no_mark : p ≡ mark_of (parent_in x.thunk) → ⊥
          no_mark at = omega (arith, at, two)
      by Empty form = absurd (no_step (Store r v) x.at (open_section.step_as layout s sound kept d x here Empty form x.at (Store r v) store))

  steady_store : (d j p q r : ℕ) (x : Section) (v : Value) → Here s d x → IsStep tree x x.at (Store r v) → IsStep tree x j (Load p r)
      → is_link_in (upd s.cells p (next_word (x.reg r) (value_in x.reg v))) q ≡ is_link_in s.cells q
  steady_store d j p q r x v here store load = link_stays s.cells p (next_word (x.reg r) (value_in x.reg v)) q (λ right same.
      let three = right_of_place q right in
      let is = stores_link d j p r x v here store load (omega (arith, three, same)) in
      some_test _ _ (subst (λ n. 0 < n) (sym (value-next_word (x.reg r) (value_in x.reg v) (value_low d x here v store))) is.after) is.before)
    where
      no_made : (n k : ℕ) → Const n ≡ Made k → ⊥
      no_made n k e = cc

      no_of : (n : ℕ) → Const n ≡ Of 3 → ⊥
      no_of n e = cc

      one_low : (n : ℕ) → Const n ≡ Const 1 → n < 2 ^ 32
      one_low n e = let z : n ≡ 1 = const_eq n 1 e in omega (arith, z)
        where
          const_eq : (a b : ℕ) → Const a ≡ Const b → a ≡ b
          const_eq a b e = cc

      const_low : (d : ℕ) (x : Section) (here : Here s d x) (n : ℕ) → IsStep tree x x.at (Store r (Const n)) → (f : Form) → form_of x.thunk ≡ f → n < 2 ^ 32
      const_low d x here n store Look form = absurd (look_store x.thunk x.at r (Const n) (open_section.step_as layout s sound kept d x here Look form x.at (Store r (Const n)) store))
      const_low d x here n store Insert form = absurd (no_made n 3 (insert_store x.thunk x.at r (Const n)
          (open_section.step_as layout s sound kept d x here Insert form x.at (Store r (Const n)) store)).2)
      const_low d x here n store Replace form = absurd (no_made n 2 (replace_store x.thunk x.at r (Const n)
          (open_section.step_as layout s sound kept d x here Replace form x.at (Store r (Const n)) store)).2)
      const_low d x here n store Delete form = ⊎_elim (λ mark. one_low n mark.2) (λ link. absurd (no_of n link.2))
          (delete_store x.thunk x.at r (Const n) (open_section.step_as layout s sound kept d x here Delete form x.at (Store r (Const n)) store))
      const_low d x here n store Empty form = absurd (no_step (Store r (Const n)) x.at (open_section.step_as layout s sound kept d x here Empty form x.at (Store r (Const n)) store))

      value_low : (d : ℕ) (x : Section) → Here s d x → (v : Value) → IsStep tree x x.at (Store r v) → value_in x.reg v < 2 ^ 32
      value_low d x here (Const n) store = const_low d x here n store (form_of x.thunk) refl
      value_low d x here (Of k) store = value_small (x.reg k)
      value_low d x here (Made k) store = value_small (x.reg k)

  pub tree_gives : Gives tree layout s
  tree_gives = record {
    guarded = λ d j p r x here le load. guarded d x here j p r le load;
    walked = λ r readings op reader allowed. walked r readings reader;
    reach = reach;
    steady_store = steady_store;
    steady_lock = λ p q w lock. link_stays s.cells p w q (λ right same. absurd (lock_apart p q (equal_of (p % 5) 0 lock) (right_of_place q right) same));
    steady_hand = λ t i q w free low other. link_stays s.cells (0 + 5 * t + i) w q (λ right same. absurd (other (own_cell t i q low (right_of_place q right) same)));
    steady_guard_store = λ d j p q r x v here store load. refl;
    steady_guard_lock = λ p q w lock. refl;
    steady_guard_hand = λ t i q w free low other. refl;
    live = live;
    limbo = limbo;
    retire_live = λ d j t x here settled le h. retire_live d x here j t settled le h;
    retire_unfixed = λ d j t x here settled le h. retire_unfixed d x here j t settled le h;
    retire_once = retire_once;
    retire_unlinked = retire_unlinked;
    store_used = λ d i j p r x v here settled le store load. store_used d x here i j p r v settled le store load;
    one_key = λ map. one_key;
  }
    where
      lock_apart : (p q : ℕ) → p % 5 ≡ 0 → q % 5 ≡ 3 → q - 1 ≡ p → ⊥
      lock_apart p q zero three same = omega (arith, zero, three, same)

      own_cell : (t i q : ℕ) → i < 5 → q % 5 ≡ 3 → q - 1 ≡ 0 + 5 * t + i → IsCellOf tree t q
      own_cell t i q low three same = (3, omega arith, (let z : q ≡ 0 + 5 * t + 3 = omega (arith, low, three, same) in z))
