-- A section on the tree passes a step that changes no cell, while slots change where they are.
use Rattle.std.specs.Prelude.{◌⊎◌, ◌+◌, ◌*◌, ◌&&◌, ◌-◌, ◌%◌, nat_lt, Bool, true, false, Some}
use Rattle.std.proofs.Common.{◌≡◌, ◌≢◌, ℕ, suc, ◌<◌, ◌≤◌, refl, sym, ap, ◌∙◌, subst, inl, inr, ⊎_elim, arith}
use Rattle.structure_laws.specs.table_words.specs.small_lemmas.proofs.Bools.{or_first as or_left, or_second as or_right}
use Rattle.structure_laws.specs.body_terms.specs.Update.{upd}
use Rattle.structure_laws.specs.body_terms.specs.Word.{value_of}
use Rattle.structure_laws.specs.table_words.specs.declared.layout.Layout.{Layout}
use Rattle.structure_laws.specs.table_words.specs.Limits.{IsWithinLimits}
use Rattle.structure_laws.specs.Scene.{Cells, Section, Status, Free, Live, Retired, Scene}
use Rattle.structure_laws.specs.Sections.{Here}
use Rattle.structure_laws.specs.Cells.{IsSafe, InUse}
use Rattle.structure_laws.specs.Sound.{Sound}
use Rattle.structure_laws.proofs.Changes.{upd_same, upd_other, upd_some}
use Rattle.structure_laws.proofs.Progress.{stepped}
use Rattle.tree_bodies.specs.Tree.{left_of, right_of, child_of, Delete, form_of}
use Rattle.tree_laws.specs.Search.{Nodes, IsInner}
use Rattle.tree_laws.specs.Leaves.{is_left_place, is_right_place, is_link_in, nodes, IsNewLeaf, IsNewInner, IsTaken}
use Rattle.tree_laws.specs.Leaves.{IsReplaced}
use Rattle.tree_laws.specs.Leaves.{HasLeaf, HasInner, HasTaken, HasOld, IsBetween, TreeKept, tree}
use Rattle.tree_laws.proofs.Gives.{tree_gives}
use Rattle.tree_laws.proofs.KeepsFrame.{IsSameNode, IsKeptSection, frame_kept}
use Rattle.tree_laws.proofs.Open.{side_cell, child_cell, side_high}
use Rattle.tree_laws.proofs.Shown.{lt_test}
use Rattle.tree_laws.proofs.WalkReads.{both, eq_test}

some_eq : (a b : Section) → Some a ≡ Some b → a ≡ b
some_eq a b e = cc

-- a left link is a link, whatever it holds; so is each link of an inner node
pub left_link : (cells : Cells) (t : ℕ) → is_link_in cells (left_of t) ≡ true
left_link cells t = or_left (is_left_place (left_of t)) (is_right_place (left_of t) && nat_lt 0
    (value_of (cells (left_of t - 1)))) (eq_test ((0 + 5 * t + 2) % 5) 2 (omega arith))

pub node_link : (cells : Cells) (t : ℕ) (b : Bool) → IsInner (nodes cells) t → is_link_in cells (child_of b t) ≡ true
node_link cells t true inner = left_link cells t
node_link cells t false inner = or_right (is_left_place (right_of t)) (is_right_place (right_of t) && nat_lt 0
    (value_of (cells (right_of t - 1))))
    (both _ _ (eq_test ((0 + 5 * t + 3) % 5) 3 (omega arith)) (lt_test 0 (value_of (cells (right_of t - 1))) (subst
    (λ p. 0 < value_of (cells p)) (sym before) inner)))
  where
    before : right_of t - 1 ≡ left_of t
    before = omega arith

module _ (layout : Layout) (limits : IsWithinLimits layout) (s : Scene) (sound : Sound tree layout s)
    (kept : TreeKept layout s) where
  pub cell_in_use : (q : ℕ) (b : Bool) → s.status q ≡ Live → InUse tree s (child_of b q)
  cell_in_use q b live = let high = side_high b in inr (q, (side_cell b, omega (arith, high), child_cell b q), live)

  -- a live inner node's links lead to live slots
  pub child_live : (q u : ℕ) (b : Bool) → s.status q ≡ Live → IsInner (nodes s.cells) q
      → (nodes s.cells).child b q ≡ suc u → s.status u ≡ Live
  child_live q u b live inner link = (tree_gives layout limits s sound kept).live (child_of b q) u
      (cell_in_use q b live) (node_link s.cells q b inner, link)

-- nothing of a node changes
pub no_change : (n : Nodes) (t : ℕ) → IsSameNode n n t
no_change n t = record { key = refl; child = λ b. refl; mark = refl }

module _ (layout : Layout) (s : Scene) (sound : Sound tree layout s) (kept : TreeKept layout s) (d : ℕ) (x : Section)
    (here : Here s d x) (status : ℕ → Status) (reg : ℕ → ℕ) where
  abbrev now : Nodes
  now = nodes s.cells

  abbrev pub after : Section
  after = stepped x reg

  abbrev pub next : Scene
  next = record s { status = status; section = upd s.section d (Some after) }

  -- what has to be shown of the slots, and of this section
  pub record StepKeeps : Type 0 where
    pub linked : (t : ℕ) → kept.covers.linked t ≡ true → status t ≡ Live
    pub retired : (t y : ℕ) → status t ≡ Retired y → kept.once t ≡ true
    pub used : (t : ℕ) → kept.once t ≡ true → status t ≢ Free
    pub fresh : (t : ℕ) → status t ≢ Free → (s.status t ≢ Free) ⊎ (IsInner now t → (0 < now.child false t)
        × (now.mark t ≤ 1))
    pub safe : (t : ℕ) → kept.once t ≡ true → IsSafe next t → IsSafe s t
    pub marks_none : form_of x.thunk ≡ Delete → x.at ≡ 14 → ⊥
    pub live : (t : ℕ) → status t ≡ Live → (kept.covers.linked t ≡ true) ⊎ ((e : ℕ) × (z : Section) × (e ≢ d)
        × Here s e z × IsBetween z t) ⊎ IsBetween after t
    pub limbo : (t y u : ℕ) (b : Bool) → status t ≡ Retired y → s.epoch ≤ y + 1 → IsInner now t → now.child b t ≡ suc u
        → (status u ≡ Live) ⊎ ((z : ℕ) × (status u ≡ Retired z) × (y ≤ z))
    pub others : (e : ℕ) (z : Section) (t : ℕ) → e ≢ d → Here s e z → IsBetween z t → status t ≡ Live
    pub new_leaf : HasLeaf after → IsNewLeaf next kept.once after
    pub new_inner : HasInner after → IsNewInner next kept.once after
    pub taken : HasTaken after → IsTaken next kept.covers kept.once after
    pub replaced : HasOld after → IsReplaced next kept.covers kept.once after

  pub step_kept : StepKeeps → TreeKept layout next
  step_kept keeps = frame_kept layout s next sound kept (record {
    same = λ t used. no_change now t;
    fresh = keeps.fresh;
    linked_live = keeps.linked;
    retired_once = keeps.retired;
    once_used = keeps.used;
    safe = keeps.safe;
    live = λ t live. ⊎_elim inl (⊎_elim
        (λ other. inr (other.0, other.1, upd_other s.section d other.0 (Some after) other.2 ∙ other.3, other.4))
        (λ own. inr (d, after, upd_same s.section d d (Some after) refl, own))) (keeps.live t live);
    limbo = keeps.limbo;
    marked = λ e z there form at. upd_other s.section d e (Some after) (λ same.
        let one = some_eq z x (sym there ∙ (ap s.section same ∙ here)) in
        keeps.marks_none (ap (λ (z : Section). form_of z.thunk) (sym one) ∙ form) (ap (λ (z : Section). z.at)
        (sym one) ∙ at)) ∙ there;
    section = λ e z h. ⊎_elim
        (λ same. inr (subst (IsKeptSection layout s next sound kept) same.1 (record {
          leaf = keeps.new_leaf;
          inner = keeps.new_inner;
          taken = keeps.taken;
          replaced = keeps.replaced;
          read = kept.published d x here;
          walk = kept.sections d x here;
        })))
        (λ other. inl (other.1, λ t between. keeps.others e z t other.0 other.1 between))
        (upd_some s.section d e after z h);
    reader = λ r readings h. inl h;
  })
