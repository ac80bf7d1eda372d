-- What a thunk that fits a walk has for operands.
use Rattle.std.proofs.Common.{◌≡◌, ℕ, ◌+◌, ◌≤◌, Bool, true, false, refl, sym, ap, ◌∙◌, subst, arith}
use Rattle.std.specs.Prelude.{◌==◌, ◌*◌, ◌^◌, List, [], ◌∷◌, None, Some, is_none, Option, slice_index}
use Rattle.structure_laws.specs.table_words.specs.small_lemmas.proofs.Bools.{both_of as both_true}
use Rattle.structure_laws.specs.table_words.specs.small_lemmas.proofs.Numbers.{tested_equal as equal_of}
use Rattle.structure_laws.specs.map_history.specs.declared.op.Op.{Op}
use Rattle.structure_laws.specs.map_history.specs.declared.op.Op.TheVariants.{Get, Ins, Del, Put, Mov}
use Rattle.structure_laws.specs.map_history.specs.Keys.{key_of, other_key_of, value_given, IsOneKeyed}
use Rattle.structure_laws.specs.map_history.specs.AtKey.{Keeps, Gets, change_at}
use Rattle.bucket_bodies.specs.section_body.specs.Bucket.{bucket_lock, operand}
use Rattle.structure_laws.specs.body_terms.specs.Memory.{cell_of}
use Rattle.structure_laws.specs.body_terms.specs.declared.thunk.Thunk.{Thunk}
use Rattle.bucket_laws.specs.Walk.{Stage, AtEdition, AtLink, AtKey, AtValue, AtNext, AtLock, AtEnd, Refused, Walk, is_del, is_end, same_numbers, form_for, operands_for, fits_walk}

pub no_other : (other : Option ℕ) → is_none other ≡ true → other ≡ None
no_other None h = refl
no_other (Some key) h = absurd (cc)

pub at_end : (stage : Stage) → is_end stage ≡ true → stage ≡ AtEnd
at_end AtEnd h = refl
at_end AtEdition h = absurd (cc)
at_end AtLink h = absurd (cc)
at_end AtKey h = absurd (cc)
at_end AtValue h = absurd (cc)
at_end AtNext h = absurd (cc)
at_end AtLock h = absurd (cc)
at_end Refused h = absurd (cc)

pub same_list : (xs ys : List ℕ) → same_numbers xs ys ≡ true → xs ≡ ys
same_list [] [] h = refl
same_list [] (y ∷ ys) h = absurd (cc)
same_list (x ∷ xs) [] h = absurd (cc)
same_list (x ∷ xs) (y ∷ ys) h = let both = both_true (x == y) (same_numbers xs ys) h in ap (λ z. z ∷ xs) (equal_of x y both.0) ∙ ap (λ zs. y ∷ zs) (same_list xs ys both.1)

-- the operation gives this value to this key, where the key is absent
abbrev pub PutsIn : Op → ℕ → ℕ → Type 0
PutsIn op key v = (key_of op ≡ key) × (change_at None op ≡ Gets v)

pub puts_ins : (op : Op) (key v : ℕ) → op ≡ Ins key v → PutsIn op key v
puts_ins op key v e = (ap key_of e, ap (change_at None) e)

pub keeps_gets : (v : ℕ) → Keeps ≡ Gets v → ⊥
keeps_gets v e = cc

-- so it gives this value
pub puts_given : (op : Op) (key v : ℕ) → PutsIn op key v → value_given op ≡ Some v
puts_given (Get k) key v is = absurd (keeps_gets v is.1)
puts_given (Ins k value) key v is = ap Some (gets_same value v is.1)
  where
    gets_same : (a b : ℕ) → Gets a ≡ Gets b → a ≡ b
    gets_same a b e = cc
puts_given (Del k) key v is = absurd (keeps_gets v is.1)
puts_given (Put k value) key v is = ap Some (gets_same value v is.1)
  where
    gets_same : (a b : ℕ) → Gets a ≡ Gets b → a ≡ b
    gets_same a b e = cc
puts_given (Mov from to) key v is = absurd (keeps_gets v is.1)

-- what the operands are, by the operation and whether the walk found its key
abbrev InsertFit : Op → Walk → List ℕ → Type 0
InsertFit op w numbers = (key v : ℕ) × PutsIn op key v × (slice_index numbers 1 ≡ key) × (slice_index numbers 2 ≡ v) × (slice_index numbers 3 ≡ w.head)

abbrev RemoveFit : Op → Walk → List ℕ → Type 0
RemoveFit op w numbers = (is_del op ≡ true) × (slice_index numbers 1 ≡ w.place) × (slice_index numbers 2 ≡ w.slot) × (slice_index numbers 3 ≡ w.next)

abbrev SetFit : ℕ → Op → Walk → List ℕ → Type 0
SetFit buckets op w numbers = (key v : ℕ) × (op ≡ Put key v) × (slice_index numbers 1 ≡ cell_of (3 * buckets) w.slot 2) × (slice_index numbers 2 ≡ v) × (slice_index numbers 3 ≡ 6 * 2 ^ 32 + w.value)

first_operand : (buckets : ℕ) (op : Op) (w : Walk) (found : Bool) → slice_index (operands_for buckets op w found) 0 ≡ w.edition
first_operand buckets (Get key) w true = refl
first_operand buckets (Get key) w false = refl
first_operand buckets (Ins key value) w true = refl
first_operand buckets (Ins key value) w false = refl
first_operand buckets (Del key) w true = refl
first_operand buckets (Del key) w false = refl
first_operand buckets (Put key value) w true = refl
first_operand buckets (Put key value) w false = refl
first_operand buckets (Mov from to) w there = refl

pub insert_operands : (buckets : ℕ) (op : Op) (w : Walk) (found : Bool) → form_for op found ≡ 2 → (found ≡ false) × InsertFit op w (operands_for buckets op w found)
insert_operands buckets (Get key) w found h = absurd (omega arith)
insert_operands buckets (Ins key value) w true h = absurd (omega arith)
insert_operands buckets (Ins key value) w false h = (refl, (key, value, (refl, refl), refl, refl, refl))
insert_operands buckets (Del key) w true h = absurd (omega arith)
insert_operands buckets (Del key) w false h = absurd (omega arith)
insert_operands buckets (Put key value) w true h = absurd (omega arith)
insert_operands buckets (Put key value) w false h = (refl, (key, value, (refl, refl), refl, refl, refl))
insert_operands buckets (Mov from to) w there h = absurd (omega arith)

pub remove_operands : (buckets : ℕ) (op : Op) (w : Walk) (found : Bool) → form_for op found ≡ 3 → (found ≡ true) × RemoveFit op w (operands_for buckets op w found)
remove_operands buckets (Get key) w found h = absurd (omega arith)
remove_operands buckets (Ins key value) w true h = absurd (omega arith)
remove_operands buckets (Ins key value) w false h = absurd (omega arith)
remove_operands buckets (Del key) w true h = (refl, (refl, refl, refl, refl))
remove_operands buckets (Del key) w false h = absurd (omega arith)
remove_operands buckets (Put key value) w true h = absurd (omega arith)
remove_operands buckets (Put key value) w false h = absurd (omega arith)
remove_operands buckets (Mov from to) w there h = absurd (omega arith)

pub set_operands : (buckets : ℕ) (op : Op) (w : Walk) (found : Bool) → form_for op found ≡ 4 → (found ≡ true) × SetFit buckets op w (operands_for buckets op w found)
set_operands buckets (Get key) w found h = absurd (omega arith)
set_operands buckets (Ins key value) w true h = absurd (omega arith)
set_operands buckets (Ins key value) w false h = absurd (omega arith)
set_operands buckets (Del key) w true h = absurd (omega arith)
set_operands buckets (Del key) w false h = absurd (omega arith)
set_operands buckets (Put key value) w true h = (refl, (key, value, refl, refl, refl, refl))
set_operands buckets (Put key value) w false h = absurd (omega arith)
set_operands buckets (Mov from to) w there h = absurd (omega arith)

-- the forms over one key
pub form_few : (op : Op) (found : Bool) → form_for op found ≤ 4
form_few (Get key) found = omega arith
form_few (Ins key value) true = omega arith
form_few (Ins key value) false = omega arith
form_few (Del key) true = omega arith
form_few (Del key) false = omega arith
form_few (Put key value) true = omega arith
form_few (Put key value) false = omega arith
form_few (Mov from to) found = omega arith

module _ (buckets : ℕ) (bucket : ℕ → ℕ) where
  -- a thunk that fits a walk
  pub record IsFit (op : Op) (w : Walk) (t : Thunk) : Type 0 where
    pub one : IsOneKeyed op
    pub stage : w.stage ≡ AtEnd
    pub form : t.form ≡ form_for op w.found
    pub lock : t.lock ≡ bucket_lock (bucket (key_of op))
    pub operands : t.operands ≡ operands_for buckets op w w.found
    pub edition : operand t 0 ≡ w.edition
    pub insert : t.form ≡ 2 → (w.found ≡ false) × InsertFit op w t.operands
    pub remove : t.form ≡ 3 → (w.found ≡ true) × RemoveFit op w t.operands
    pub sets : t.form ≡ 4 → (w.found ≡ true) × SetFit buckets op w t.operands

  pub fit_of : (op : Op) (w : Walk) (t : Thunk) → fits_walk buckets bucket op w t ≡ true → IsFit op w t
  fit_of op w t h =
      let z = both_true _ _ h in
      let a = both_true _ _ z.1 in
      let b = both_true _ _ a.1 in
      let c = both_true _ _ b.1 in
      let d = both_true _ _ c.1 in
      let form : t.form ≡ form_for op w.found = equal_of _ _ b.0 in
      let operands : t.operands ≡ operands_for buckets op w w.found = same_list _ _ d.1 in
      record {
        one = no_other (other_key_of op) z.0;
        stage = at_end w.stage a.0;
        form = form;
        lock = equal_of _ _ c.0;
        operands = operands;
        edition = ap (λ numbers. slice_index numbers 0) operands ∙ first_operand buckets op w w.found;
        insert = λ e. let fit = insert_operands buckets op w w.found (sym form ∙ e) in
            (fit.0, subst (InsertFit op w) (sym operands) fit.1);
        remove = λ e. let fit = remove_operands buckets op w w.found (sym form ∙ e) in
            (fit.0, subst (RemoveFit op w) (sym operands) fit.1);
        sets = λ e. let fit = set_operands buckets op w w.found (sym form ∙ e) in
            (fit.0, subst (SetFit buckets op w) (sym operands) fit.1);
      }
