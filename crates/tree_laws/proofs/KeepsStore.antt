-- Each Store of a section of the tree keeps what the tree keeps.
use Rattle.std.specs.Prelude.{◌^◌, Some, slice_get}
use Rattle.std.proofs.Common.{◌≡◌, ℕ, suc, ◌<◌, ◌≤◌, sym, ap, ◌∙◌, subst, inr, ⊎_elim, arith}
use Rattle.structure_laws.specs.body_terms.specs.Word.{value_of, next_word}
use Rattle.structure_laws.specs.body_terms.specs.declared.value.Value.{Value}
use Rattle.structure_laws.specs.body_terms.specs.declared.value.Value.TheVariants.{Const, Of, Made}
use Rattle.structure_laws.specs.body_terms.specs.declared.step.Step.TheVariants.{Load, Store}
use Rattle.structure_laws.specs.table_words.specs.declared.layout.Layout.{Layout}
use Rattle.structure_laws.specs.table_words.specs.Limits.{IsWithinLimits}
use Rattle.structure_laws.specs.Scene.{Section, Status, Free, Live, Scene, with_cell, passes}
use Rattle.structure_laws.specs.Sections.{Here, IsStep, value_in}
use Rattle.structure_laws.specs.Sound.{Sound}
use Rattle.structure_laws.specs.Keeps.{Onward}
use Rattle.structure_laws.proofs.Changes.{value-next_word, value_small}
use Rattle.structure_laws.proofs.Limits.{links_small, value-small}
use Rattle.tree_bodies.specs.Tree.{mark_of, child_of, Form, Look, Insert, Delete, Replace, form_of, body_of}
use Rattle.tree_laws.specs.Walk.{Walk}
use Rattle.tree_laws.specs.Leaves.{walk_of, IsNewLeaf, IsNewInner, TreeKept, tree}
use Rattle.tree_laws.proofs.Forms.{insert_load, delete_load, replace_load}
use Rattle.tree_laws.proofs.Forms.{look_store, insert_store, delete_store, replace_store}
use Rattle.tree_laws.proofs.Gives.{first_load, fourth_load}
use Rattle.tree_laws.proofs.InsertStore.{insert_kept}
use Rattle.tree_laws.proofs.LinkStore.{link_kept}
use Rattle.tree_laws.proofs.MarkStore.{mark_kept}
use Rattle.tree_laws.proofs.Open as open_section
use Rattle.tree_laws.proofs.Removing as removing
use Rattle.tree_laws.proofs.ReplaceStore.{replace_kept}

module _ (layout : Layout) (limits : IsWithinLimits layout) (s : Scene) (sound : Sound tree layout s)
    (kept : TreeKept layout s) (d : ℕ) (x : Section) (here : Here s d x) (j p r : ℕ) (v : Value)
    (store : IsStep tree x x.at (Store r v)) (load : IsStep tree x j (Load p r)) where
  abbrev w : Walk
  w = walk_of layout x.op x.readings

  abbrev word : ℕ
  word = next_word (x.reg r) (value_in x.reg v)

  abbrev Kept : Type 0
  Kept = TreeKept layout (with_cell (passes s d x) p word)

  -- the step and its load in the body of a form
  stores_as : (f : Form) → form_of x.thunk ≡ f → slice_get (body_of f x.thunk) x.at ≡ Some (Store r v)
  stores_as f form = open_section.step_as layout s sound kept d x here f form x.at (Store r v) store

  loads_as : (f : Form) → form_of x.thunk ≡ f → slice_get (body_of f x.thunk) j ≡ Some (Load p r)
  loads_as f form = open_section.step_as layout s sound kept d x here f form j (Load p r) load

  live_free : (status : Status) → status ≡ Live → status ≡ Free → ⊥
  live_free status live free = cc

  -- the word that is stored leads to the live slot whose link the register has
  leads_to : (k slot : ℕ) → v ≡ Made k → x.reg k ≡ suc slot → s.status slot ≡ Live → value_of word ≡ suc slot
  leads_to k slot made link live =
      ap (λ n. value_of (next_word (x.reg r) n)) value ∙ value-next_word (x.reg r) (suc slot) few
    where
      few : suc slot < 2 ^ 32
      few = links_small layout 3 slot limits (omega arith) (sound.within slot (live_free (s.status slot) live))

      value : value_in x.reg v ≡ suc slot
      value = ap (value_in x.reg) made ∙ (ap value_of link ∙ value-small (suc slot) few)

  -- an insertion's Store leads to its new inner node
  insert_link : form_of x.thunk ≡ Insert → Kept
  insert_link form = insert_kept layout s sound kept d x here form at.0 p word place
      (leads_to 3 new.slot at.2 new.link new.live)
    where
      at : (x.at ≡ 8) × (r ≡ 0) × (v ≡ Made 3)
      at = insert_store x.thunk x.at r v (stores_as Insert form)

      place : p ≡ child_of w.last.side w.last.from
      place = ⊎_elim
          (λ link. link.2 ∙ (open_section.insert_is_plain layout s sound kept d x here form).place)
          (λ mark. absurd (let one = mark.1 in let zero = at.1 in omega (arith, one, zero)))
          (insert_load x.thunk j p r (loads_as Insert form))

      new : IsNewInner s kept.once x
      new = let eight = at.0 in kept.new_inner d x here (form, omega (arith, eight), omega (arith, eight))

  -- that of a replacement to its new leaf
  replace_link : form_of x.thunk ≡ Replace → Kept
  replace_link form = replace_kept layout limits s sound kept d x here form at.0 p word place
      (leads_to 2 new.slot at.2 new.link new.live)
    where
      at : (x.at ≡ 7) × (r ≡ 0) × (v ≡ Made 2)
      at = replace_store x.thunk x.at r v (stores_as Replace form)

      place : p ≡ child_of w.last.side w.last.from
      place = ⊎_elim
          (λ link. link.2 ∙ (open_section.replace_is_plain layout s sound kept d x here form).place)
          (λ mark. absurd (let one = mark.1 in let zero = at.1 in omega (arith, one, zero)))
          (replace_load x.thunk j p r (loads_as Replace form))

      new : IsNewLeaf s kept.once x
      new = let seven = at.0 in kept.new_leaf d x here (inr (form, omega (arith, seven), omega (arith, seven)))

  -- a removal's first Store marks its parent
  delete_mark : form_of x.thunk ≡ Delete → (x.at ≡ 13) × (r ≡ 4) × (v ≡ Const 1) → Kept
  delete_mark form at = subst (λ q. TreeKept layout (with_cell (passes s d x) q word)) (sym place)
      (mark_kept layout s sound kept d x here form at.0 word marks)
    where
      place : p ≡ mark_of w.last.from
      place = fourth_load x.thunk j p r at.1 (delete_load x.thunk j p r (loads_as Delete form))
          ∙ ap mark_of (removing.removing layout s sound kept d x here form).parent

      marks : value_of word ≡ 1
      marks = ap (λ u. value_of (next_word (x.reg r) (value_in x.reg u))) at.2
          ∙ value-next_word (x.reg r) 1 (omega arith)

  -- its second one leads to the sibling
  delete_link : form_of x.thunk ≡ Delete → (x.at ≡ 14) × (r ≡ 0) × (v ≡ Of 3) → Kept
  delete_link form at = link_kept layout limits s sound kept d x here form at.0 p word place stores
    where
      place : p ≡ child_of w.grand.side w.grand.from
      place = first_load x.thunk j p r at.1 (delete_load x.thunk j p r (loads_as Delete form))
          ∙ (removing.removing layout s sound kept d x here form).place

      past : 8 ≤ x.at
      past = let now = at.0 in omega (arith, now)

      late : 9 ≤ x.at
      late = let now = at.0 in omega (arith, now)

      few : x.at ≤ 14
      few = let now = at.0 in omega (arith, now)

      stores : value_of word ≡ suc (removing.b layout s sound kept d x here form)
      stores = ap (λ u. value_of (next_word (x.reg r) (value_in x.reg u))) at.2
          ∙ (value-next_word (x.reg r) (value_of (x.reg 3)) (value_small (x.reg 3))
          ∙ (ap value_of (sym (removing.sibling_read layout s sound kept d x here form late))
          ∙ (removing.sibling_link layout s sound kept d x here form
          ∙ removing.sibling_there layout s sound kept d x here form past few)))

  stored : Kept
  stored = by (open_section.kind layout s sound kept d x here limits)
    where
      by : open_section.Kind layout s sound kept d x here limits → Kept
      by (open_section.Looks form) = absurd (look_store x.thunk x.at r v (stores_as Look form))
      by (open_section.Inserts form) = insert_link form
      by (open_section.Replaces form) = replace_link form
      by (open_section.Deletes form) = ⊎_elim (delete_mark form) (delete_link form)
          (delete_store x.thunk x.at r v (stores_as Delete form))

pub keeps_store : (layout : Layout) → IsWithinLimits layout → (s : Scene) (d j p r : ℕ) (x : Section) (v : Value)
    → Here s d x → IsStep tree x x.at (Store r v) → j < x.at → IsStep tree x j (Load p r) → s.cells p ≡ x.reg r
    → Onward tree layout s (with_cell (passes s d x) p (next_word (x.reg r) (value_in x.reg v)))
keeps_store layout limits s d j p r x v here store earlier load found sound kept sound' =
    stored layout limits s sound kept d x here j p r v store load
