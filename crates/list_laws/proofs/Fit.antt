-- What a thunk that fits a walk of the list has for numbers, and its form.
use Rattle.std.proofs.Common.{◌≡◌, Bool, true, false, refl, ap, ◌∙◌, inl, inr, arith}
use Rattle.std.specs.Prelude.{◌&&◌, ◌⊎◌, slice_index}
use Rattle.structure_laws.specs.map_history.specs.declared.op.Op.{Op}
use Rattle.structure_laws.specs.map_history.specs.declared.op.Op.TheVariants.{Get, Ins, Del, Put, Mov}
use Rattle.structure_laws.specs.map_history.specs.Keys.{other_key_of, IsOneKeyed}
use Rattle.bucket_laws.specs.bucket_bodies.specs.section_body.specs.Bucket.{operand}
use Rattle.structure_laws.specs.body_terms.specs.declared.thunk.Thunk.{Thunk}
use Rattle.structure_laws.proofs.Changes.{equal_of, both_true}
use Rattle.bucket_laws.proofs.Fit.{same_list}
use Rattle.node_laws.proofs.Forms.{no_other, Numbers, numbers_by}
use Rattle.node_laws.proofs.Forms as forms
use Rattle.list_bodies.specs.List.{lock_of, node_in, Look, Insert, Remove, Replace, form_of}
use Rattle.list_bodies.specs.List.{slot_in, fits_look, fits_insert, fits_remove, fits_replace}
use Rattle.list_laws.specs.Walk.{Stage, AtLink, AtKey, AtValue, AtLock, AtMark, AtNodeLock, AtNodeMark, AtEnd, Refused}
use Rattle.list_laws.specs.Walk.{Walk, node_of, is_end, takes_out, form_for, reply_for}
use Rattle.list_laws.specs.Walk.{look_operands, insert_operands, remove_operands, replace_operands, operands_for, fits_walk}

at_end : (stage : Stage) → is_end stage ≡ true → stage ≡ AtEnd
at_end AtEnd h = refl
at_end AtLink h = absurd (cc)
at_end AtKey h = absurd (cc)
at_end AtValue h = absurd (cc)
at_end AtLock h = absurd (cc)
at_end AtMark h = absurd (cc)
at_end AtNodeLock h = absurd (cc)
at_end AtNodeMark h = absurd (cc)
at_end Refused h = absurd (cc)

-- what the operands 1 and 2 are
front_numbers : (op : Op) (w : Walk) (found : Bool) → (slice_index (operands_for op w found) 1 ≡ w.link)
    × (slice_index (operands_for op w found) 2 ≡ w.mark)
front_numbers (Get key) w found = (refl, refl)
front_numbers (Ins key value) w true = (refl, refl)
front_numbers (Ins key value) w false = (refl, refl)
front_numbers (Del key) w true = (refl, refl)
front_numbers (Del key) w false = (refl, refl)
front_numbers (Put key value) w true = (refl, refl)
front_numbers (Put key value) w false = (refl, refl)
front_numbers (Mov from to) w found = (refl, refl)

-- a thunk that fits a walk
pub record IsFit (op : Op) (w : Walk) (t : Thunk) : Type 0 where
  pub one : IsOneKeyed op
  pub stage : w.stage ≡ AtEnd
  pub form : t.form ≡ form_for op w.found
  pub lock : t.lock ≡ lock_of w.from
  pub word : t.word ≡ w.lock
  pub operands : t.operands ≡ operands_for op w w.found
  -- whatever its form
  pub link : operand t 1 ≡ w.link
  pub mark : operand t 2 ≡ w.mark
  pub node : node_in t ≡ node_of w

pub fit_of : (op : Op) (w : Walk) (t : Thunk) → fits_walk op w t ≡ true → IsFit op w t
fit_of op w t h =
    let z = both_true _ _ h in
    let a = both_true _ _ z.1 in
    let b = both_true _ _ a.1 in
    let c = both_true _ _ b.1 in
    let d = both_true _ _ c.1 in
    let operands = same_list _ _ d.1 in
    let front = front_numbers op w w.found in
    let link = ap (λ numbers. slice_index numbers 1) operands ∙ front.0 in
    record {
      one = no_other (other_key_of op) z.0;
      stage = at_end w.stage a.0;
      form = equal_of _ _ b.0;
      lock = equal_of _ _ c.0;
      word = equal_of _ _ d.0;
      operands = operands;
      link = link;
      mark = ap (λ numbers. slice_index numbers 2) operands ∙ front.1;
      node = ap slot_in link;
    }

-- the four forms and what their operands are
pub cases : (op : Op) (found : Bool) → IsOneKeyed op → (form_for op found ≡ 31) ⊎ (form_for op found ≡ 32)
    ⊎ (form_for op found ≡ 33) ⊎ (form_for op found ≡ 34)
cases = forms.cases 31

pub look_numbers : (op : Op) (w : Walk) (found : Bool) → form_for op found ≡ 31
    → operands_for op w found ≡ look_operands w (reply_for op w found)
look_numbers op w = forms.look_numbers (look_operands w) (insert_operands w) (remove_operands w)
    (replace_operands w) w.value 31 op

pub is_look : (t : Thunk) → t.form ≡ 31 → fits_look t ≡ true → form_of t ≡ Look
is_look t = forms.is_look 31 t.form (fits_look t) (fits_insert t) (fits_remove t) (fits_replace t)

pub is_insert : (t : Thunk) → t.form ≡ 32 → fits_insert t ≡ true → form_of t ≡ Insert
is_insert t = forms.is_insert 31 t.form (fits_look t) (fits_insert t) (fits_remove t) (fits_replace t)

pub is_remove : (t : Thunk) → t.form ≡ 33 → fits_remove t ≡ true → form_of t ≡ Remove
is_remove t = forms.is_remove 31 t.form (fits_look t) (fits_insert t) (fits_remove t) (fits_replace t)

pub is_replace : (t : Thunk) → t.form ≡ 34 → fits_replace t ≡ true → form_of t ≡ Replace
is_replace t = forms.is_replace 31 t.form (fits_look t) (fits_insert t) (fits_remove t) (fits_replace t)

pub numbers_of : (t : Thunk) → Numbers 31 (form_of t) t.form
numbers_of t = numbers_by 31 t.form (fits_look t) (fits_insert t) (fits_remove t) (fits_replace t)

abbrev pub Inserts : Op → Walk → Bool → Type 0
Inserts op w found = forms.Inserts (look_operands w) (insert_operands w) (remove_operands w)
    (replace_operands w) w.value 31 op found

pub inserts : (op : Op) (w : Walk) (found : Bool) → form_for op found ≡ 32 → Inserts op w found
inserts op w = forms.inserts (look_operands w) (insert_operands w) (remove_operands w)
    (replace_operands w) w.value 31 op

abbrev pub Removes : Op → Walk → Bool → Type 0
Removes op w found = forms.Removes (look_operands w) (insert_operands w) (remove_operands w)
    (replace_operands w) w.value 31 op found

pub removes : (op : Op) (w : Walk) (found : Bool) → form_for op found ≡ 33 → Removes op w found
removes op w = forms.removes (look_operands w) (insert_operands w) (remove_operands w)
    (replace_operands w) w.value 31 op

abbrev pub Replaces : Op → Walk → Bool → Type 0
Replaces op w found = forms.Replaces (look_operands w) (insert_operands w) (remove_operands w)
    (replace_operands w) w.value 31 op found

pub replaces : (op : Op) (w : Walk) (found : Bool) → form_for op found ≡ 34 → Replaces op w found
replaces op w = forms.replaces (look_operands w) (insert_operands w) (remove_operands w)
    (replace_operands w) w.value 31 op

-- a form that takes a node out is for an operation that found it
pub takes_both : (op : Op) (found : Bool) → ((form_for op found ≡ 33) ⊎ (form_for op found ≡ 34)) → (found ≡ true)
    × ((takes_out op && found) ≡ true)
takes_both (Get key) found (inl h) = absurd (omega (arith, h))
takes_both (Get key) found (inr h) = absurd (omega (arith, h))
takes_both (Ins key value) true (inl h) = absurd (omega (arith, h))
takes_both (Ins key value) true (inr h) = absurd (omega (arith, h))
takes_both (Ins key value) false (inl h) = absurd (omega (arith, h))
takes_both (Ins key value) false (inr h) = absurd (omega (arith, h))
takes_both (Del key) true h = (refl, refl)
takes_both (Del key) false (inl h) = absurd (omega (arith, h))
takes_both (Del key) false (inr h) = absurd (omega (arith, h))
takes_both (Put key value) true h = (refl, refl)
takes_both (Put key value) false (inl h) = absurd (omega (arith, h))
takes_both (Put key value) false (inr h) = absurd (omega (arith, h))
takes_both (Mov from to) found (inl h) = absurd (omega (arith, h))
takes_both (Mov from to) found (inr h) = absurd (omega (arith, h))
