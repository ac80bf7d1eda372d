-- The tree keeps what it keeps, by a section's steps that change no cell and no status, and by the moves around it.
use Rattle.std.specs.Prelude.{◌⊎◌, ◌%◌, Bool, true, false, Option, Some, None, [], slice_get}
use Rattle.std.proofs.Common.{◌≡◌, ◌≢◌, ℕ, suc, ◌+◌, ◌*◌, ◌<◌, ◌≤◌, refl, sym, ap, ◌∙◌, subst, inl, inr, ⊎_elim, arith}
use Rattle.std.proofs.lemmas.Bool.{cases_eq}
use Rattle.std.proofs.lemmas.Option.{none-some}
use Rattle.structure_laws.specs.table_words.specs.small_lemmas.proofs.Lists.{some_same as some_inj}
use Rattle.structure_laws.specs.map_history.specs.declared.op.Op.{Op}
use Rattle.structure_laws.specs.map_history.specs.Keys.{key_of}
use Rattle.structure_laws.specs.body_terms.specs.Update.{upd}
use Rattle.structure_laws.specs.body_terms.specs.Word.{value_of, version_of}
use Rattle.structure_laws.specs.body_terms.specs.declared.value.Value.{Value}
use Rattle.structure_laws.specs.body_terms.specs.declared.value.Value.TheVariants.{Of, Made}
use Rattle.structure_laws.specs.body_terms.specs.declared.value.Init.{Init}
use Rattle.structure_laws.specs.body_terms.specs.declared.step.Step.{Step}
use Rattle.structure_laws.specs.body_terms.specs.declared.step.Step.TheVariants.{Load, Want, Fresh, Take, Make, Stamp, Store, Retire, Answer}
use Rattle.structure_laws.specs.body_terms.specs.declared.thunk.Thunk.{Thunk}
use Rattle.structure_laws.specs.table_words.specs.declared.layout.Layout.{Layout}
use Rattle.structure_laws.specs.Scene.{Readings, Section, Free, Scene, with_cell, with_reader, with_section, opened, passes, sets}
use Rattle.structure_laws.specs.Sections.{Here, IsStep, Settled, Ended, Unheld, is_exit}
use Rattle.structure_laws.specs.Sound.{Sound}
use Rattle.structure_laws.specs.Keeps.{Publishes, Onward}
use Rattle.structure_laws.proofs.Changes.{upd_same, upd_other, upd_some, upd_none, equal_of}
use Rattle.structure_laws.proofs.Progress.{stepped}
use Rattle.tree_bodies.specs.Tree.{child_of, Form, Insert, Delete, Replace, form_of, body_of, leaf_init, inner_init}
use Rattle.tree_bodies.specs.Tree.{insert_steps, delete_steps, replace_steps, parent_in, leaf_in, old_leaf}
use Rattle.tree_laws.specs.Leaves.{is_lock_place, nodes, HasLeaf, HasInner, IsNewLeaf, IsNewInner, TreeKept, tree}
use Rattle.tree_laws.specs.Leaves.{IsBetween, NewLeaf, NewInner, OldParent, OldLeaf, ReplacedLeaf}
use Rattle.node_laws.specs.Walked.{walked}
use Rattle.tree_laws.proofs.KeepsFrame.{IsSameNode, IsKeptSection, IsKeptReader, passing_kept}

-- each cell of a node stands
same_cells : (s s' : Scene) (t : ℕ) → ((k : ℕ) → 0 < k → k < 5 → s'.cells (0 + 5 * t + k) ≡ s.cells (0 + 5 * t + k))
    → IsSameNode (nodes s.cells) (nodes s'.cells) t
same_cells s s' t same = record {
  key = ap value_of (same 1 (omega arith) (omega arith));
  child = side;
  mark = ap value_of (same 4 (omega arith) (omega arith));
}
  where
    side : (b : Bool) → value_of (s'.cells (child_of b t)) ≡ value_of (s.cells (child_of b t))
    side true = ap value_of (same 2 (omega arith) (omega arith))
    side false = ap value_of (same 3 (omega arith) (omega arith))

-- a step that a section doesn't come to, by its form
module _ (x : Section) (b : Step) (h : IsStep tree x x.at b) where
  pub step_known : (f : Form) → form_of x.thunk ≡ f → (j : ℕ) (known : Step) → slice_get
      (body_of f x.thunk) j ≡ Some known → x.at ≡ j → b ≡ known
  step_known f form j known is at = some_inj (sym h ∙ (ap (λ g. slice_get (body_of g x.thunk) x.at) form
      ∙ (ap (slice_get (body_of f x.thunk)) at ∙ is)))

split_two : (n k : ℕ) → n ≤ k → k ≤ suc n → (k ≡ n) ⊎ (k ≡ suc n)
split_two n k low high = search arith

split_three : (n k : ℕ) → n ≤ k → k ≤ suc (suc n) → (k ≡ n) ⊎ (k ≡ suc n) ⊎ (k ≡ suc (suc n))
split_three n k low high = search arith

-- a section that comes to neither a Make nor a Store nor a Retire
module _ (layout : Layout) (s : Scene) (sound : Sound tree layout s) (kept : TreeKept layout s) (d : ℕ) (x : Section)
    (here : Here s d x)
    (b : Step) (h : IsStep tree x x.at b) (no_make : (init : Init) (r : ℕ) → b ≢ Make init r)
    (no_store : (r : ℕ) (v : Value) → b ≢ Store r v)
    (no_retire : (t : ℕ) → b ≢ Retire t) (reg : ℕ → ℕ) (regs : b ≡ Stamp → (r : ℕ) → reg r ≡ x.reg r) where
  abbrev s' : Scene
  s' = record s { section = upd s.section d (Some (stepped x reg)) }

  -- with new nodes it stands at its Stamp
  at_stamp : form_of x.thunk ≡ Insert → 5 ≤ x.at → x.at ≤ 8 → x.at ≡ 7
  at_stamp form low high = go x.at refl low high
    where
      go : (n : ℕ) → x.at ≡ n → 5 ≤ n → n ≤ 8 → x.at ≡ 7
      go n at low high = ⊎_elim (λ five. absurd (no_make (leaf_init x.thunk) 2
          (step_known x b h Insert form 5 (Make (leaf_init x.thunk) 2) refl (at ∙ five))))
          (⊎_elim (λ six. absurd (no_make (inner_init x.thunk) 3
          (step_known x b h Insert form 6 (Make (inner_init x.thunk) 3) refl (at ∙ six))))
          (⊎_elim (λ seven. at ∙ seven)
          (λ eight. absurd (no_store 0 (Made 3) (step_known x b h Insert form 8 (Store 0 (Made 3)) refl
          (at ∙ eight)))))) (four n low high)
        where
          four : (n : ℕ) → 5 ≤ n → n ≤ 8 → (n ≡ 5) ⊎ (n ≡ 6) ⊎ (n ≡ 7) ⊎ (n ≡ 8)
          four n low high = search arith

  stamp_regs : form_of x.thunk ≡ Insert → x.at ≡ 7 → (r : ℕ) → reg r ≡ x.reg r
  stamp_regs form at = regs (step_known x b h Insert form 7 Stamp refl at)

  -- so it does with a new leaf for the place of another, of which it has retired none
  replace_stamp : form_of x.thunk ≡ Replace → 5 ≤ x.at → x.at ≤ 7 → x.at ≡ 6
  replace_stamp form low high = ⊎_elim (λ five. absurd (no_make (leaf_init x.thunk) 2
      (step_known x b h Replace form 5 (Make (leaf_init x.thunk) 2) refl five)))
      (⊎_elim (λ six. six)
      (λ seven. absurd (no_store 0 (Made 2) (step_known x b h Replace form 7 (Store 0 (Made 2)) refl seven))))
      (split_three 5 x.at low high)

  not_replacing : form_of x.thunk ≡ Replace → 7 ≤ x.at → x.at ≤ 8 → ⊥
  not_replacing form low high = ⊎_elim
      (λ seven. no_store 0 (Made 2) (step_known x b h Replace form 7 (Store 0 (Made 2)) refl seven))
      (λ eight. no_retire (old_leaf x.thunk)
      (step_known x b h Replace form 8 (Retire (old_leaf x.thunk)) refl eight))
      (split_two 7 x.at low high)

  -- it has made its leaf and stands at its Stamp
  leaf_before : HasLeaf (stepped x reg) → HasLeaf x × ((r : ℕ) → reg r ≡ x.reg r)
  leaf_before (inl insert) =
      let low = insert.1 in let high = insert.2 in
      let seven = at_stamp insert.0 (omega (arith, low)) (omega (arith, high)) in
      (inl (insert.0, omega (arith, seven), omega (arith, seven)), stamp_regs insert.0 seven)
  leaf_before (inr replace) =
      let low = replace.1 in let high = replace.2 in
      let six = replace_stamp replace.0 (omega (arith, low)) (omega (arith, high)) in (
        inr (replace.0, omega (arith, six), omega (arith, six)),
        regs (step_known x b h Replace replace.0 6 Stamp refl six),
      )

  leaf_onward : HasLeaf x → HasLeaf (stepped x reg) × ((r : ℕ) → reg r ≡ x.reg r)
  leaf_onward (inl insert) =
      let low = insert.1 in
      let seven = at_stamp insert.0 (omega (arith, low)) insert.2 in
      (inl (insert.0, omega (arith, seven), omega (arith, seven)), stamp_regs insert.0 seven)
  leaf_onward (inr replace) =
      let low = replace.1 in
      let six = replace_stamp replace.0 (omega (arith, low)) replace.2 in (
        inr (replace.0, omega (arith, six), omega (arith, six)),
        regs (step_known x b h Replace replace.0 6 Stamp refl six),
      )

  -- it has taken nothing out
  not_taking : form_of x.thunk ≡ Delete → 14 ≤ x.at → x.at ≤ 16 → ⊥
  not_taking form low high = ⊎_elim (λ at. no_store 0 (Of 3) (step_known x b h Delete form 14 (Store 0 (Of 3)) refl at))
      (⊎_elim (λ at. no_retire (parent_in x.thunk) (step_known x b h Delete form 15
      (Retire (parent_in x.thunk)) refl at))
      (λ at. no_retire (leaf_in x.thunk) (step_known x b h Delete form 16 (Retire (leaf_in x.thunk)) refl at)))
      (split_three 14 x.at low high)

  leaf : HasLeaf (stepped x reg) → IsNewLeaf s' kept.once (stepped x reg)
  leaf has =
      let before = leaf_before has in
      let was = kept.new_leaf d x here before.0 in
      record {
        slot = was.slot;
        link = before.1 2 ∙ was.link;
        live = was.live;
        new = was.new;
        key = was.key;
        leaf = was.leaf;
        value = was.value;
      }

  inner : HasInner (stepped x reg) → IsNewInner s' kept.once (stepped x reg)
  inner has =
      let low = has.1 in
      let high = has.2 in
      let seven = at_stamp has.0 (omega (arith, low)) (omega (arith, high)) in
      let was = kept.new_inner d x here (has.0, omega (arith, seven), omega (arith, seven)) in
      record {
        slot = was.slot;
        link = stamp_regs has.0 seven 3 ∙ was.link;
        live = was.live;
        new = was.new;
        other = λ e. was.other (sym (stamp_regs has.0 seven 3) ∙ (e ∙ stamp_regs has.0 seven 2));
        key = was.key;
        new_side = was.new_side ∙ sym (stamp_regs has.0 seven 2);
        old_side = was.old_side;
        unmarked = was.unmarked;
      }

  -- what was between is so still
  onward : (t : ℕ) → IsBetween x t → IsBetween (stepped x reg) t
  onward t (NewLeaf has link) = let after = leaf_onward has in NewLeaf after.0 (after.1 2 ∙ link)
  onward t (NewInner has link) = let low = has.1 in let high = has.2 in
      let seven = at_stamp has.0 (omega (arith, low)) (omega (arith, high)) in
      NewInner (has.0, omega (arith, seven), omega (arith, seven)) (stamp_regs has.0 seven 3 ∙ link)
  onward t (OldParent has at is) = let low = has.1 in let high = has.2 in
      absurd (not_taking has.0 (omega (arith, low)) high)
  onward t (OldLeaf has is) = let low = has.1 in let high = has.2 in absurd (not_taking has.0 (omega (arith, low)) high)
  onward t (ReplacedLeaf has is) = let at = has.1 in
      absurd (not_replacing has.0 (omega (arith, at)) (omega (arith, at)))

  is_x : (e : ℕ) (y : Section) → s.section e ≡ Some y → e ≡ d → y ≡ x
  is_x e y there same = some_inj (sym there ∙ (ap s.section same ∙ here))

  pub calm_kept : TreeKept layout s'
  calm_kept = passing_kept layout s s' sound kept (record {
    same = λ t used. record { key = refl; child = λ b. refl; mark = refl };
    status = λ t. refl;
    epoch = le_self s.epoch;
    marked = λ e y there form at. upd_other s.section d e (Some (stepped x reg)) (λ same.
        let is = is_x e y there same in
        not_taking (ap (λ y. form_of y.thunk) (sym is) ∙ form) (subst (λ y. 14 ≤ y.at) is (omega (arith, at)))
        (subst (λ y. y.at ≤ 16) is (omega (arith, at)))) ∙ there;
    between = λ e y t there between. ⊎_elim
        (λ same. (
          d,
          stepped x reg,
          upd_same s.section d d (Some (stepped x reg)) refl,
          onward t
              (subst (λ y. IsBetween y t) (is_x e y there same) between),
        ))
        (λ ne. (e, y, upd_other s.section d e (Some (stepped x reg)) ne ∙ there, between)) (cases_eq e d);
    section = λ e y there. ⊎_elim (λ same. inr (subst (IsKeptSection layout s s' sound kept) same.1 own))
        (λ other. inl other.1) (upd_some s.section d e (stepped x reg) y there);
    reader = λ r readings reader. inl reader;
  })
    where
      le_self : (k : ℕ) → k ≤ k
      le_self k = omega arith

      own : IsKeptSection layout s s' sound kept (stepped x reg)
      own = record {
        leaf = leaf;
        inner = inner;
        taken = λ has. let low = has.1 in let high = has.2 in
            absurd (not_taking has.0 (omega (arith, low)) (omega (arith, high)));
        replaced = λ has. let at = has.1 in absurd (not_replacing has.0 (omega (arith, at)) (omega (arith, at)));
        read = kept.published d x here;
        walk = kept.sections d x here;
      }

-- the steps one by one
pub keeps_load : (layout : Layout) (s : Scene) (d p r : ℕ) (x : Section) → Here s d x → IsStep tree x x.at (Load p r)
    → Onward tree layout s (sets s d x r (s.cells p))
keeps_load layout s d p r x here h sound kept sound' = calm_kept layout s sound kept d x here (Load p r) h
    (λ init k e. cc) (λ k v e. cc) (λ t e. cc) (upd x.reg r (s.cells p)) (λ e. absurd (let z = e in cc))

pub keeps_want : (layout : Layout) (s : Scene) (d r w : ℕ) (x : Section) → Here s d x → IsStep tree x x.at (Want r w)
    → x.reg r ≡ w → Onward tree layout s (passes s d x)
keeps_want layout s d r w x here h is sound kept sound' = calm_kept layout s sound kept d x here (Want r w) h
    (λ init k e. cc) (λ k v e. cc) (λ t e. cc) x.reg (λ e k. refl)

pub keeps_fresh : (layout : Layout) (s : Scene) (d r : ℕ) (x : Section) → Here s d x → IsStep tree x x.at (Fresh r)
    → version_of (x.reg r) ≢ layout.version_max
    → Onward tree layout s (passes s d x)
keeps_fresh layout s d r x here h fresh sound kept sound' = calm_kept layout s sound kept d x here (Fresh r) h
    (λ init k e. cc) (λ k v e. cc) (λ t e. cc) x.reg (λ e k. refl)

pub keeps_take : (layout : Layout) (s : Scene) (d l w : ℕ) (x : Section) → Here s d x → IsStep tree x x.at (Take l w)
    → Unheld tree s l → Onward tree layout s (passes s d x)
keeps_take layout s d l w x here h unheld sound kept sound' = calm_kept layout s sound kept d x here (Take l w) h
    (λ init k e. cc) (λ k v e. cc) (λ t e. cc) x.reg (λ e k. refl)

pub keeps_stamp : (layout : Layout) (s : Scene) (d : ℕ) (x : Section) → Here s d x → IsStep tree x x.at Stamp
    → Onward tree layout s (passes s d x)
keeps_stamp layout s d x here h sound kept sound' = calm_kept layout s sound kept d x here Stamp h (λ init k e. cc)
    (λ k v e. cc) (λ t e. cc) x.reg (λ e k. refl)

pub keeps_answer : (layout : Layout) (s : Scene) (d n : ℕ) (x : Section) → Here s d x → IsStep tree x x.at (Answer n)
    → Onward tree layout s (passes s d x)
keeps_answer layout s d n x here h sound kept sound' = calm_kept layout s sound kept d x here (Answer n) h
    (λ init k e. cc) (λ k v e. cc) (λ t e. cc) x.reg (λ e k. refl)

le_same : (k : ℕ) → k ≤ k
le_same k = omega arith

-- a section is published with the readings of an entered runner
pub keeps_holds : (layout : Layout) (s : Scene) (r d : ℕ) (readings : Readings) (op : Op) (thunk : Thunk)
    → s.reader r ≡ Some readings → Publishes tree layout s readings op thunk
    → s.section d ≡ None → Onward tree layout s (with_section s d (Some (opened op thunk readings)))
keeps_holds layout s r d readings op thunk reader publishes none sound kept sound' =
    passing_kept layout s (with_section s d (Some (opened op thunk readings))) sound kept (record {
      same = λ t used. record { key = refl; child = λ b. refl; mark = refl };
      status = λ t. refl;
      epoch = le_same s.epoch;
      marked = λ e y there form at. stays e y there;
      between = λ e y t there between. (e, y, stays e y there, between);
      section = λ e y there. ⊎_elim (λ same. inr (subst (IsKeptSection layout s
          (with_section s d (Some (opened op thunk readings))) sound kept) same.1 own)) (λ other. inl other.1)
          (upd_some s.section d e (opened op thunk readings) y there);
      reader = λ q others h. inl h;
    })
  where
    stays : (e : ℕ) (y : Section) → s.section e ≡ Some y → upd s.section d (Some (opened op thunk readings)) e ≡ Some y
    stays e y there = upd_other s.section d e (Some (opened op thunk readings))
        (λ same. none-some y (sym none ∙ (ap s.section (sym same) ∙ there))) ∙ there

    low : key_of op < 4294967294
    low = let key = publishes.allowed.keys (key_of op) (inl refl) in omega (arith, key)

    own : IsKeptSection layout s (with_section s d (Some (opened op thunk readings))) sound kept
        (opened op thunk readings)
    own = record {
      leaf = λ has. ⊎_elim (λ insert. absurd (let at = insert.1 in omega (arith, at)))
          (λ replace. absurd (let at = replace.1 in omega (arith, at))) has;
      inner = λ has. absurd (let at = has.1 in omega (arith, at));
      taken = λ has. absurd (let at = has.1 in omega (arith, at));
      replaced = λ has. absurd (let at = has.1 in omega (arith, at));
      read = kept.readers r readings reader;
      walk = kept.walks r readings op reader low;
    }

insert_late : (t : Thunk) (j : ℕ) (step : Step) → slice_get (insert_steps t) j ≡ Some step → 5 ≤ j
    → is_exit step ≡ false
insert_late t j step h low = grind arith

delete_late : (t : Thunk) (j : ℕ) (step : Step) → slice_get (delete_steps t) j ≡ Some step → 12 ≤ j
    → is_exit step ≡ false
delete_late t j step h low = grind arith

replace_late : (t : Thunk) (j : ℕ) (step : Step) → slice_get (replace_steps t) j ≡ Some step → 5 ≤ j
    → is_exit step ≡ false
replace_late t j step h low = grind arith

replace_whole : (t : Thunk) (j : ℕ) → slice_get (replace_steps t) j ≡ None → j ≤ 9 → ⊥
replace_whole t j h low = grind arith

insert_whole : (t : Thunk) (j : ℕ) → slice_get (insert_steps t) j ≡ None → j ≤ 9 → ⊥
insert_whole t j h low = grind arith

delete_whole : (t : Thunk) (j : ℕ) → slice_get (delete_steps t) j ≡ None → j ≤ 17 → ⊥
delete_whole t j h low = grind arith

-- a section past its exits isn't done before its last step
module _ (x : Section) (ended : Settled tree x → Ended tree x) where
  insert_unended : form_of x.thunk ≡ Insert → 5 ≤ x.at → x.at ≤ 9 → ⊥
  insert_unended form low high = insert_whole x.thunk x.at (ap (λ f. slice_get (body_of f x.thunk) x.at) (sym form)
      ∙ ended (λ j step le h.
      insert_late x.thunk j step (ap (λ f. slice_get (body_of f x.thunk) j) (sym form) ∙ h)
      (omega (arith, low, le)))) high

  delete_unended : form_of x.thunk ≡ Delete → 12 ≤ x.at → x.at ≤ 17 → ⊥
  delete_unended form low high = delete_whole x.thunk x.at (ap (λ f. slice_get (body_of f x.thunk) x.at) (sym form)
      ∙ ended (λ j step le h.
      delete_late x.thunk j step (ap (λ f. slice_get (body_of f x.thunk) j) (sym form) ∙ h)
      (omega (arith, low, le)))) high

  replace_unended : form_of x.thunk ≡ Replace → 5 ≤ x.at → x.at ≤ 9 → ⊥
  replace_unended form low high = replace_whole x.thunk x.at (ap (λ f. slice_get (body_of f x.thunk) x.at) (sym form)
      ∙ ended (λ j step le h.
      replace_late x.thunk j step (ap (λ f. slice_get (body_of f x.thunk) j) (sym form) ∙ h)
      (omega (arith, low, le)))) high

  holds_none : (t : ℕ) → IsBetween x t → ⊥
  holds_none t (NewLeaf has link) = ⊎_elim
      (λ insert. let low = insert.1 in let high = insert.2 in
      insert_unended insert.0 (omega (arith, low)) (omega (arith, high)))
      (λ replace. let low = replace.1 in let high = replace.2 in
      replace_unended replace.0 (omega (arith, low)) (omega (arith, high))) has
  holds_none t (ReplacedLeaf has is) = let at = has.1 in replace_unended has.0 (omega (arith, at)) (omega (arith, at))
  holds_none t (NewInner has link) = let low = has.1 in let high = has.2 in insert_unended has.0 (omega (arith, low))
      (omega (arith, high))
  holds_none t (OldParent has at is) = let low = has.1 in let high = has.2 in delete_unended has.0
      (omega (arith, low)) (omega (arith, high))
  holds_none t (OldLeaf has is) = let low = has.1 in let high = has.2 in delete_unended has.0 (omega (arith, low))
      (omega (arith, high))

-- a section is done
pub keeps_done : (layout : Layout) (s : Scene) (d : ℕ) (x : Section) → Here s d x → (Settled tree x → Ended tree x)
    → Onward tree layout s (with_section s d None)
keeps_done layout s d x here ended sound kept sound' = passing_kept layout s (with_section s d None) sound kept
    (record {
      same = λ t used. record { key = refl; child = λ b. refl; mark = refl };
      status = λ t. refl;
      epoch = le_same s.epoch;
      marked = λ e y there form at. upd_other s.section d e None (λ same.
          let is = is_x e y there same in
          delete_unended x ended (ap (λ y. form_of y.thunk) (sym is) ∙ form)
          (subst (λ y. 12 ≤ y.at) is (omega (arith, at))) (subst (λ y. y.at ≤ 17) is (omega (arith, at)))) ∙ there;
      between = λ e y t there between. (
        e,
        y,
        upd_other s.section d e None (λ same. holds_none x ended t
            (subst (λ y. IsBetween y t) (is_x e y there same) between)) ∙ there,
        between,
      );
      section = λ e y there. inl (upd_none s.section d e y there).1;
      reader = λ q readings h. inl h;
    })
  where
    is_x : (e : ℕ) (y : Section) → s.section e ≡ Some y → e ≡ d → y ≡ x
    is_x e y there same = some_inj (sym there ∙ (ap s.section same ∙ here))

-- a cell changes that is in no node in use, or is a lock
cell_kept : (layout : Layout) (s : Scene) (p w : ℕ) → ((t k : ℕ) → s.status t ≢ Free → 0 < k → k < 5
    → 0 + 5 * t + k ≢ p) → Sound tree layout s → TreeKept layout s → TreeKept layout (with_cell s p w)
cell_kept layout s p w others sound kept = passing_kept layout s (with_cell s p w) sound kept (record {
  same = λ t used. same_cells s (with_cell s p w) t (λ k low high. upd_other s.cells p (0 + 5 * t + k) w
      (others t k used low high));
  status = λ t. refl;
  epoch = le_same s.epoch;
  marked = λ e y there form at. there;
  between = λ e y t there between. (e, y, there, between);
  section = λ e y there. inl there;
  reader = λ q readings h. inl h;
})

pub keeps_lock : (layout : Layout) (s : Scene) (p w : ℕ) → is_lock_place p ≡ true → Onward tree layout s
    (with_cell s p w)
keeps_lock layout s p w lock sound kept sound' = cell_kept layout s p w
    (λ t k used low high e. let zero = equal_of (p % 5) 0 lock in omega (arith, zero, low, high, e)) sound kept

pub keeps_hand : (layout : Layout) (s : Scene) (t i w : ℕ) → s.status t ≡ Free → i < 5 → Onward tree layout s
    (with_cell s (0 + 5 * t + i) w)
keeps_hand layout s t i w free low sound kept sound' = cell_kept layout s (0 + 5 * t + i) w
    (λ u k used some high e. used (ap s.status (same u k high e) ∙ free)) sound kept
  where
    same : (u k : ℕ) → k < 5 → 0 + 5 * u + k ≡ 0 + 5 * t + i → u ≡ t
    same u k high e = omega (arith, high, low, e)

-- the epoch rises
pub keeps_advance : (layout : Layout) (s : Scene) → Onward tree layout s (record s { epoch = suc s.epoch })
keeps_advance layout s sound kept sound' = passing_kept layout s (record s { epoch = suc s.epoch }) sound kept (record {
  same = λ t used. record { key = refl; child = λ b. refl; mark = refl };
  status = λ t. refl;
  epoch = le_next s.epoch;
  marked = λ e y there form at. there;
  between = λ e y t there between. (e, y, there, between);
  section = λ e y there. inl there;
  reader = λ q readings h. inl h;
})
  where
    le_next : (k : ℕ) → k ≤ suc k
    le_next k = omega arith

-- the readings of a runner change
pub reader_kept : (layout : Layout) (s : Scene) (r : ℕ) (new : Option Readings) (sound : Sound tree layout s)
    (kept : TreeKept layout s)
    → ((readings : Readings) → new ≡ Some readings → IsKeptReader layout s (with_reader s r new) sound kept readings)
    → TreeKept layout (with_reader s r new)
reader_kept layout s r new sound kept own = passing_kept layout s (with_reader s r new) sound kept (record {
  same = λ t used. record { key = refl; child = λ b. refl; mark = refl };
  status = λ t. refl;
  epoch = le_same s.epoch;
  marked = λ e y there form at. there;
  between = λ e y t there between. (e, y, there, between);
  section = λ e y there. inl there;
  reader = λ q readings h. ⊎_elim (λ same. inr (own readings (sym (upd_same s.reader r q new same) ∙ h)))
      (λ ne. inl (sym (upd_other s.reader r q new ne) ∙ h)) (cases_eq q r);
})

-- a runner enters, with no readings
pub keeps_enters : (layout : Layout) (s : Scene) (r : ℕ) → Onward tree layout s (with_reader s r (Some []))
unfolding walked
keeps_enters layout s r sound kept sound' = reader_kept layout s r (Some []) sound kept
    (λ readings e. subst (IsKeptReader layout s (with_reader s r (Some [])) sound kept) (some_inj e) none)
  where
    none : IsKeptReader layout s (with_reader s r (Some [])) sound kept []
    none = record {
      read = record {
        inner = λ i t w h. absurd (let z = h in cc);
        leaf = λ i t w h. absurd (let z = h in cc);
        key = λ i t w h. absurd (let z = h in cc);
        value = λ i t w h. absurd (let z = h in cc);
        right = λ i t w h. absurd (let z = h in cc);
        under_root = λ i v h. absurd (let z = h in cc);
        marks = λ i t w h. absurd (let z = h in cc);
      };
      walks = λ op low. record {
        grand = λ going deep. absurd (let z = deep in cc);
        joined = λ going deep. absurd (let z = deep in cc);
        last = λ going some. absurd (some refl);
        knows = tt;
      };
    }

pub keeps_leaves : (layout : Layout) (s : Scene) (r : ℕ) → Onward tree layout s (with_reader s r None)
keeps_leaves layout s r sound kept sound' = reader_kept layout s r None sound kept
    (λ readings e. absurd (let z = e in cc))
