-- The tree keeps what it keeps where a section makes its new leaf, or its new inner node.
use Rattle.std.specs.Prelude.{◌⊎◌, ◌+◌, ◌*◌, nat_lt, cond, not, Bool, true, false, Some, slice_get}
use Rattle.std.proofs.Common.{◌≡◌, ◌≢◌, ℕ, suc, ◌<◌, ◌≤◌, refl, sym, ap, ◌∙◌, subst, inl, inr, ⊎_elim, arith}
use Rattle.std.proofs.lemmas.Bool.{both_ways}
use mathlib.Core.Logic.{dite}
use native.Mathlib.Decide.{ℕ_discrete}
use Rattle.structure_laws.specs.table_words.specs.small_lemmas.proofs.Numbers.{suc_equal as suc_eq}
use Rattle.bucket_laws.specs.bucket_bodies.specs.section_body.specs.Bucket.{operand}
use Rattle.structure_laws.specs.body_terms.specs.Update.{upd}
use Rattle.structure_laws.specs.body_terms.specs.Word.{value_of}
use Rattle.structure_laws.specs.body_terms.specs.declared.value.Value.{Value}
use Rattle.structure_laws.specs.body_terms.specs.declared.value.Value.TheVariants.{Const, Made}
use Rattle.structure_laws.specs.body_terms.specs.declared.value.Init.{Init}
use Rattle.structure_laws.specs.body_terms.specs.declared.step.Step.TheVariants.{Make}
use Rattle.structure_laws.specs.table_words.specs.declared.layout.Layout.{Layout}
use Rattle.structure_laws.specs.table_words.specs.Limits.{IsWithinLimits}
use Rattle.structure_laws.specs.Scene.{Section, Status, Free, Live, Retired, Scene, with_status, sets}
use Rattle.structure_laws.specs.Sections.{Here, IsStep, value_in}
use Rattle.structure_laws.specs.Sound.{Sound}
use Rattle.structure_laws.specs.Keeps.{IsPrepared}
use Rattle.structure_laws.proofs.Changes.{upd_same, upd_other}
use Rattle.structure_laws.proofs.Progress.{stepped}
use Rattle.tree_bodies.specs.Tree.{Form, Look, Insert, Delete, Replace, Empty, form_of, body_of, inner_with, leaf_init}
use Rattle.tree_bodies.specs.Tree.{inner_init}
use Rattle.tree_laws.specs.Search.{Nodes, IsInner, IsLeaf}
use Rattle.tree_laws.specs.Leaves.{nodes, IsNewLeaf, IsNewInner, HasLeaf, HasInner, TreeKept, tree}
use Rattle.tree_laws.specs.Leaves.{IsBetween, NewLeaf, NewInner, OldParent, OldLeaf, ReplacedLeaf}
use Rattle.tree_laws.proofs.Forms.{look_make, insert_make, delete_make, replace_make}
use Rattle.tree_laws.proofs.KeepsFrame.{between_live}
use Rattle.tree_laws.proofs.KeepsSlots.{step_kept}
use Rattle.tree_laws.proofs.Open as open_section

some_eq : (a b : Section) → Some a ≡ Some b → a ≡ b
some_eq a b e = cc

-- the values of a new inner node, by the side of the new leaf
inner_by : (h : Bool) (a b : ℕ) (new old : Value) → cond h (inner_with b new old) (inner_with a old new) ≡ inner_with
    (cond h b a) (cond h new old) (cond h old new)
inner_by true a b new old = refl
inner_by false a b new old = refl

-- what the two links of a new node hold, by that side
by_side : (h : Bool) (left right : ℕ) (reg : ℕ → ℕ) (new old : Value) → left ≡ value_in reg (cond h new old)
    → right ≡ value_in reg (cond h old new)
    → (cond h left right ≡ value_in reg new) × (cond (not h) left right ≡ value_in reg old)
by_side true left right reg new old l r = (l, r)
by_side false left right reg new old l r = (r, l)

child_cond : (n : Nodes) (h : Bool) (t : ℕ) → n.child h t ≡ cond h (n.child true t) (n.child false t)
child_cond n true t = refl
child_cond n false t = refl

some_right : (h : Bool) (reg : ℕ → ℕ) (new old : Value) → 0 < value_in reg new → 0 < value_in reg old
    → 0 < value_in reg (cond h old new)
some_right true reg new old a b = b
some_right false reg new old a b = a

module _ (layout : Layout) (limits : IsWithinLimits layout) (s : Scene) (sound : Sound tree layout s)
    (kept : TreeKept layout s) (d : ℕ) (x : Section) (here : Here s d x)
    (t r : ℕ) (init : Init) (h : IsStep tree x x.at (Make init r)) (prepared : IsPrepared tree layout s x t init) where
  abbrev now : Nodes
  now = nodes s.cells

  abbrev status : ℕ → Status
  status = upd s.status t Live

  abbrev reg : ℕ → ℕ
  reg = upd x.reg r (suc t)

  abbrev after : Section
  after = stepped x reg

  abbrev next : Scene
  next = with_status (sets s d x r (suc t)) t Live

  other : (u : ℕ) → u ≢ t → status u ≡ s.status u
  other u ne = upd_other s.status t u Live ne

  live_too : (u : ℕ) → s.status u ≡ Live → status u ≡ Live
  live_too u live = dite (ℕ_discrete u t) (λ e. upd_same s.status t u Live e) (λ ne. other u ne ∙ live)

  free_live : (u : ℕ) → s.status u ≡ Free → s.status u ≡ Live → ⊥
  free_live u free live = cc

  free_retired : (u y : ℕ) → s.status u ≡ Free → s.status u ≡ Retired y → ⊥
  free_retired u y free retired = cc

  insert_delete : form_of x.thunk ≡ Insert → form_of x.thunk ≡ Delete → ⊥
  insert_delete a b = cc

  insert_replace : form_of x.thunk ≡ Insert → form_of x.thunk ≡ Replace → ⊥
  insert_replace a b = cc

  replace_delete : form_of x.thunk ≡ Replace → form_of x.thunk ≡ Delete → ⊥
  replace_delete a b = cc

  never : kept.once t ≡ false
  never = by (kept.once t) refl
    where
      by : (b : Bool) → kept.once t ≡ b → kept.once t ≡ false
      by true e = absurd (kept.once_used t e prepared.in_hand)
      by false e = e

  -- which step is made: a leaf, of either form, or an inner node
  data IsMaking : Type 0 where
    Leaf : (form_of x.thunk ≡ Insert) ⊎ (form_of x.thunk ≡ Replace) → x.at ≡ 5 → r ≡ 2 → init ≡ leaf_init x.thunk
        → IsMaking
    Inner : form_of x.thunk ≡ Insert → x.at ≡ 6 → r ≡ 3 → init ≡ inner_init x.thunk → IsMaking

  making : IsMaking
  making = by (form_of x.thunk) refl
    where
      step : (f : Form) → form_of x.thunk ≡ f → slice_get (body_of f x.thunk) x.at ≡ Some (Make init r)
      step f form = open_section.step_as layout s sound kept d x here f form x.at (Make init r) h

      by : (f : Form) → form_of x.thunk ≡ f → IsMaking
      by Look form = absurd (look_make x.thunk x.at r init (step Look form))
      by Insert form = ⊎_elim (λ leaf. Leaf (inl form) leaf.0 leaf.1 leaf.2)
          (λ inner. Inner form inner.0 inner.1 inner.2) (insert_make x.thunk x.at r init (step Insert form))
      by Delete form = absurd (delete_make x.thunk x.at r init (step Delete form))
      by Replace form = let leaf = replace_make x.thunk x.at r init (step Replace form) in
          Leaf (inr form) leaf.0 leaf.1 leaf.2
      by Empty form = absurd (let z = step Empty form in cc)

  cell : (known : Init) → init ≡ known → (k : ℕ) (v : Value) → k < 5 → slice_get known.cells k ≡ Some v
      → value_of (s.cells (0 + 5 * t + k)) ≡ value_in x.reg v
  cell known same k v low at = prepared.cells k v low (ap (λ (init : Init). slice_get init.cells k) same ∙ at)

  -- what has to be shown of the new node
  record IsMade : Type 0 where
    takes_none : form_of x.thunk ≡ Delete → ⊥
    early : x.at ≤ 6
    own : (u : ℕ) → u ≡ t → IsBetween after u
    carried : (u : ℕ) → IsBetween x u → IsBetween after u
    fresh : IsInner now t → (0 < now.child false t) × (now.mark t ≤ 1)
    new_leaf : HasLeaf after → IsNewLeaf next kept.once after
    new_inner : HasInner after → IsNewInner next kept.once after

  made_kept : IsMade → TreeKept layout next
  made_kept made = step_kept layout s sound kept d x here status reg (record {
    linked = λ u on. live_too u (kept.linked_live u on);
    retired = λ u y is. dite (ℕ_discrete u t) (λ e. absurd (live_retired y (sym (upd_same s.status t u Live e) ∙ is)))
        (λ ne. kept.retired_once u y (sym (other u ne) ∙ is));
    used = λ u once free. dite (ℕ_discrete u t) (λ e. live_free (sym (upd_same s.status t u Live e) ∙ free))
        (λ ne. kept.once_used u once (sym (other u ne) ∙ free));
    fresh = λ u some. dite (ℕ_discrete u t)
        (λ e. inr (subst (λ k. IsInner now k → (0 < now.child false k) × (now.mark k ≤ 1)) (sym e) made.fresh))
        (λ ne. inl (λ free. some (other u ne ∙ free)));
    safe = λ u once safe. let back = sym (other u (λ e. both_ways _ (ap kept.once e ∙ never) once)) in
        ⊎_elim (λ live. inl (back ∙ live)) (λ retired. inr (retired.0, back ∙ retired.1, retired.2)) safe;
    marks_none = λ form at. made.takes_none form;
    live = λ u live. dite (ℕ_discrete u t) (λ e. inr (inr (made.own u e)))
        (λ ne. ⊎_elim inl (λ between. dite (ℕ_discrete between.0 d)
        (λ same. inr (inr (made.carried u (subst (λ z. IsBetween z u) (some_eq between.1 x (sym between.2
        ∙ (ap s.section same ∙ here))) between.3))))
        (λ ne'. inr (inl (between.0, between.1, ne', between.2, between.3)))) (kept.live u (sym (other u ne) ∙ live)));
    limbo = λ q y u b is recent inner link. dite (ℕ_discrete q t)
        (λ e. absurd (live_retired y (sym (upd_same s.status t q Live e) ∙ is)))
        (λ ne. ⊎_elim (λ live. inl (live_too u live))
        (λ late. inr (
          late.0,
          other u (λ e. free_retired u late.0 (ap s.status e ∙ prepared.in_hand) late.1)
              ∙ late.1,
          late.2,
        ))
        (kept.limbo q y u b (sym (other q ne) ∙ is) recent inner link));
    others = λ e z u ne there between. live_too u (between_live layout s kept e z u there between);
    new_leaf = made.new_leaf;
    new_inner = made.new_inner;
    taken = λ has. absurd (made.takes_none has.0);
    replaced = λ has. absurd (let early = made.early in let at = has.1 in omega (arith, early, at));
  })
    where
      live_retired : (y : ℕ) → Live ≡ Retired y → ⊥
      live_retired y e = cc

      live_free : Live ≡ Free → ⊥
      live_free e = cc

  leaf_made : (form_of x.thunk ≡ Insert) ⊎ (form_of x.thunk ≡ Replace) → x.at ≡ 5 → r ≡ 2 → init ≡ leaf_init x.thunk
      → IsMade
  leaf_made form at two same = record {
    takes_none = λ delete. ⊎_elim (λ insert. insert_delete insert delete)
        (λ replace. replace_delete replace delete) form;
    early = omega (arith, at);
    own = λ u e. NewLeaf (has_leaf form) (link ∙ ap suc (sym e));
    carried = λ u between. absurd (none u between);
    fresh = λ inner. absurd (no_inner inner);
    new_leaf = λ has. record {
      slot = t;
      link = link;
      live = upd_same s.status t t Live refl;
      new = never;
      key = cell (leaf_init x.thunk) same 1 (Const (operand x.thunk 3)) (omega arith) refl;
      leaf = leaf;
      value = cell (leaf_init x.thunk) same 3 (Const (operand x.thunk 4)) (omega arith) refl;
    };
    new_inner = λ has. absurd (let low = has.1 in omega (arith, at, low));
  }
    where
      has_leaf : (form_of x.thunk ≡ Insert) ⊎ (form_of x.thunk ≡ Replace) → HasLeaf after
      has_leaf (inl insert) = inl (insert, omega (arith, at), omega (arith, at))
      has_leaf (inr replace) = inr (replace, omega (arith, at), omega (arith, at))

      link : reg 2 ≡ suc t
      link = upd_same x.reg r 2 (suc t) (sym two)

      leaf : IsLeaf now t
      leaf = cell (leaf_init x.thunk) same 2 (Const 0) (omega arith) refl

      no_inner : IsInner now t → ⊥
      no_inner inner = omega (arith, inner, leaf)

      none : (u : ℕ) → IsBetween x u → ⊥
      none u (NewLeaf has is) = ⊎_elim (λ insert. let low = insert.1 in omega (arith, at, low))
          (λ replace. let low = replace.1 in omega (arith, at, low)) has
      none u (NewInner has is) = let low = has.1 in omega (arith, at, low)
      none u (OldParent has is parent) = let low = has.1 in omega (arith, at, low)
      none u (OldLeaf has is) = let low = has.1 in omega (arith, at, low)
      none u (ReplacedLeaf has is) = let late = has.1 in omega (arith, at, late)

  inner_made : form_of x.thunk ≡ Insert → x.at ≡ 6 → r ≡ 3 → init ≡ inner_init x.thunk → IsMade
  inner_made form at three same = record {
    takes_none = insert_delete form;
    early = omega (arith, at);
    own = λ u e. NewInner (form, omega (arith, at), omega (arith, at)) (link ∙ ap suc (sym e));
    carried = carried;
    fresh = λ inner. (
      subst (λ k. 0 < k) (sym right) (some_right side x.reg (Made 2) (Const old) (subst (λ k. 0 < k) (sym small)
          (subst (λ k. 0 < k) (sym was.link) (omega arith))) old_some),
      (let zero_mark = cell known is 4 (Const 0) (omega arith) refl in omega (arith, zero_mark)),
    );
    new_leaf = λ has. record {
      slot = was.slot;
      link = kept_reg ∙ was.link;
      live = live_too was.slot was.live;
      new = was.new;
      key = was.key;
      leaf = was.leaf;
      value = was.value;
    };
    new_inner = λ has. record {
      slot = t;
      link = link;
      live = upd_same s.status t t Live refl;
      new = never;
      other = λ e. free_live t prepared.in_hand
          (ap s.status (suc_eq t was.slot (sym link ∙ (e ∙ (kept_reg ∙ was.link)))) ∙ was.live);
      key = cell known is 1 (Const (cond side (operand x.thunk 5) (operand x.thunk 3))) (omega arith) refl;
      new_side = child_cond now side t ∙ (sides.0 ∙ (small ∙ sym kept_reg));
      old_side = child_cond now (not side) t ∙ sides.1;
      unmarked = cell known is 4 (Const 0) (omega arith) refl;
    };
  }
    where
      side : Bool
      side = nat_lt (operand x.thunk 3) (operand x.thunk 5)

      old : ℕ
      old = value_of (operand x.thunk 1)

      known : Init
      known = inner_with (cond side (operand x.thunk 5) (operand x.thunk 3)) (cond side (Made 2) (Const old))
          (cond side (Const old) (Made 2))

      is : init ≡ known
      is = same ∙ inner_by side (operand x.thunk 3) (operand x.thunk 5) (Made 2) (Const old)

      link : reg 3 ≡ suc t
      link = upd_same x.reg r 3 (suc t) (sym three)

      kept_reg : reg 2 ≡ x.reg 2
      kept_reg = upd_other x.reg r 2 (suc t) (λ e. omega (arith, e, three))

      was : IsNewLeaf s kept.once x
      was = kept.new_leaf d x here (inl (form, omega (arith, at), omega (arith, at)))

      small : value_of (x.reg 2) ≡ x.reg 2
      small =
          let few = sound.within was.slot (λ free. free_live was.slot free was.live) in
          let nodes = limits.few_nodes in let runners = limits.few_runners in let at = was.link in
          omega (arith, few, nodes, runners, at)

      old_some : 0 < old
      old_some = subst (λ w. 0 < value_of w)
          (sym (open_section.insert_is_plain layout s sound kept d x here form).word)
          (open_section.last_link layout s sound kept d x here).some

      left : now.child true t ≡ value_in x.reg (cond side (Made 2) (Const old))
      left = cell known is 2 (cond side (Made 2) (Const old)) (omega arith) refl

      right : now.child false t ≡ value_in x.reg (cond side (Const old) (Made 2))
      right = cell known is 3 (cond side (Const old) (Made 2)) (omega arith) refl

      sides : (cond side (now.child true t) (now.child false t) ≡ value_of (x.reg 2))
          × (cond (not side) (now.child true t) (now.child false t) ≡ old)
      sides = by_side side (now.child true t) (now.child false t) x.reg (Made 2) (Const old) left right

      carried : (u : ℕ) → IsBetween x u → IsBetween after u
      carried u (NewLeaf has reg) = NewLeaf (inl (form, omega (arith, at), omega (arith, at))) (kept_reg ∙ reg)
      carried u (NewInner has reg) = absurd (let low = has.1 in omega (arith, at, low))
      carried u (OldParent has at parent) = absurd (insert_delete form has.0)
      carried u (OldLeaf has leaf) = absurd (insert_delete form has.0)
      carried u (ReplacedLeaf has leaf) = absurd (insert_replace form has.0)

  pub make_kept : TreeKept layout next
  make_kept = made_kept (by making)
    where
      by : IsMaking → IsMade
      by (Leaf form at two same) = leaf_made form at two same
      by (Inner form at three same) = inner_made form at three same
