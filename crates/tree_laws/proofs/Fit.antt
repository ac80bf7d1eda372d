-- What a thunk that fits a walk of the tree has for numbers, and its form.
use Rattle.std.proofs.Common.{◌≡◌, ℕ, Bool, true, false, refl, arith}
use Rattle.std.specs.Prelude.{[], ◌&&◌, ◌⊎◌}
use Rattle.structure_laws.specs.map_history.specs.declared.op.Op.{Op}
use Rattle.structure_laws.specs.map_history.specs.declared.op.Op.TheVariants.{Get, Ins, Del, Put, Mov}
use Rattle.structure_laws.specs.map_history.specs.Keys.{other_key_of, IsOneKeyed}
use Rattle.structure_laws.specs.body_terms.specs.declared.thunk.Thunk.{Thunk}
use Rattle.structure_laws.proofs.Changes.{equal_of, both_true}
use Rattle.bucket_laws.specs.Walk.{is_del}
use Rattle.bucket_laws.proofs.Fit.{same_list}
use Rattle.node_laws.proofs.Forms.{no_other, Numbers, numbers_by}
use Rattle.node_laws.proofs.Forms as forms
use Rattle.tree_bodies.specs.Tree.{Look, Insert, Delete, Replace, form_of}
use Rattle.tree_bodies.specs.Tree.{fits_look, fits_insert, fits_delete, fits_replace}
use Rattle.tree_laws.specs.Walk.{Stage, AtRoot, AtLeft, AtKey, AtRight, AtValue, AtGrandLock, AtGrandMark, AtLock}
use Rattle.tree_laws.specs.Walk.{AtMark, AtEnd, Refused, Walk, is_end, form_for, reply_for, lock_for, word_for}
use Rattle.tree_laws.specs.Walk.{look_operands, insert_operands, delete_operands, replace_operands, operands_for, fits_walk}

at_end : (stage : Stage) → is_end stage ≡ true → stage ≡ AtEnd
at_end AtEnd h = refl
at_end AtRoot h = absurd (cc)
at_end AtLeft h = absurd (cc)
at_end AtKey h = absurd (cc)
at_end AtRight h = absurd (cc)
at_end AtValue h = absurd (cc)
at_end AtGrandLock h = absurd (cc)
at_end AtGrandMark h = absurd (cc)
at_end AtLock h = absurd (cc)
at_end AtMark h = absurd (cc)
at_end Refused h = absurd (cc)

-- a thunk that fits a walk
pub record IsFit (op : Op) (w : Walk) (t : Thunk) : Type 0 where
  pub one : IsOneKeyed op
  pub stage : w.stage ≡ AtEnd
  pub form : t.form ≡ form_for op w.found
  pub lock : t.lock ≡ lock_for op w w.found
  pub word : t.word ≡ word_for op w w.found
  pub operands : t.operands ≡ operands_for op w w.found

pub fit_of : (op : Op) (w : Walk) (t : Thunk) → fits_walk op w t ≡ true → IsFit op w t
fit_of op w t h =
    let z = both_true _ _ h in
    let a = both_true _ _ z.1 in
    let b = both_true _ _ a.1 in
    let c = both_true _ _ b.1 in
    let d = both_true _ _ c.1 in
    record {
      one = no_other (other_key_of op) z.0;
      stage = at_end w.stage a.0;
      form = equal_of _ _ b.0;
      lock = equal_of _ _ c.0;
      word = equal_of _ _ d.0;
      operands = same_list _ _ d.1;
    }

-- the four forms and what their operands are
pub cases : (op : Op) (found : Bool) → IsOneKeyed op → (form_for op found ≡ 11) ⊎ (form_for op found ≡ 12)
    ⊎ (form_for op found ≡ 13) ⊎ (form_for op found ≡ 14)
cases = forms.cases 11

pub look_numbers : (op : Op) (w : Walk) (found : Bool) → form_for op found ≡ 11
    → operands_for op w found ≡ look_operands w (reply_for op w found)
look_numbers op w = forms.look_numbers (look_operands w) (insert_operands w) (delete_operands w)
    (replace_operands w) w.value 11 op

pub is_look : (t : Thunk) → t.form ≡ 11 → fits_look t ≡ true → form_of t ≡ Look
is_look t = forms.is_look 11 t.form (fits_look t) (fits_insert t) (fits_delete t) (fits_replace t)

pub is_insert : (t : Thunk) → t.form ≡ 12 → fits_insert t ≡ true → form_of t ≡ Insert
is_insert t = forms.is_insert 11 t.form (fits_look t) (fits_insert t) (fits_delete t) (fits_replace t)

pub is_delete : (t : Thunk) → t.form ≡ 13 → fits_delete t ≡ true → form_of t ≡ Delete
is_delete t = forms.is_remove 11 t.form (fits_look t) (fits_insert t) (fits_delete t) (fits_replace t)

pub is_replace : (t : Thunk) → t.form ≡ 14 → fits_replace t ≡ true → form_of t ≡ Replace
is_replace t = forms.is_replace 11 t.form (fits_look t) (fits_insert t) (fits_delete t) (fits_replace t)

pub numbers_of : (t : Thunk) → Numbers 11 (form_of t) t.form
numbers_of t = numbers_by 11 t.form (fits_look t) (fits_insert t) (fits_delete t) (fits_replace t)

abbrev pub Inserts : Op → Walk → Bool → Type 0
Inserts op w found = forms.Inserts (look_operands w) (insert_operands w) (delete_operands w)
    (replace_operands w) w.value 11 op found

pub inserts : (op : Op) (w : Walk) (found : Bool) → form_for op found ≡ 12 → Inserts op w found
inserts op w = forms.inserts (look_operands w) (insert_operands w) (delete_operands w)
    (replace_operands w) w.value 11 op

pub deletes : (op : Op) (found : Bool) → form_for op found ≡ 13 → (key : ℕ) × (op ≡ Del key) × (found ≡ true)
deletes op found h = let is = forms.removes (λ reply. []) (λ key value. []) []
    (λ key value reply. []) 0 11 op found h in (is.key, is.del, is.hit)

abbrev pub Replaces : Op → Walk → Bool → Type 0
Replaces op w found = forms.Replaces (look_operands w) (insert_operands w) (delete_operands w)
    (replace_operands w) w.value 11 op found

pub replaces : (op : Op) (w : Walk) (found : Bool) → form_for op found ≡ 14 → Replaces op w found
replaces op w = forms.replaces (look_operands w) (insert_operands w) (delete_operands w)
    (replace_operands w) w.value 11 op

-- the outer lock is the parent's, but for an operation that takes a leaf out
pub no_removal : (op : Op) (found : Bool) → (form_for op found ≡ 13 → ⊥) → (is_del op && found) ≡ false
no_removal (Get key) found h = refl
no_removal (Ins key value) found h = refl
no_removal (Del key) true h = absurd (h refl)
no_removal (Del key) false h = refl
no_removal (Put key value) found h = refl
no_removal (Mov from to) found h = refl

pub look_outer : (op : Op) (found : Bool) → form_for op found ≡ 11 → (is_del op && found) ≡ false
look_outer op found h = no_removal op found (λ e. omega (arith, h, e))

pub insert_outer : (op : Op) (found : Bool) → form_for op found ≡ 12 → (is_del op && found) ≡ false
insert_outer op found h = no_removal op found (λ e. omega (arith, h, e))

pub replace_outer : (op : Op) (found : Bool) → form_for op found ≡ 14 → (is_del op && found) ≡ false
replace_outer op found h = no_removal op found (λ e. omega (arith, h, e))
