-- The walk of a key makes few loads, and the section of a `get` changes nothing.
use Rattle.std.proofs.Common.{◌≡◌, ℕ, zero, suc, ◌≤◌, [], ◌∷◌, length, length-append, true, false, refl, sym, subst, arith}
use Rattle.std.specs.Prelude.{◌==◌}
use Rattle.std.specs.List.{list_all}
use Rattle.runner_parts.specs.structure_laws.specs.map_history.specs.declared.op.Op.{Op}
use Rattle.runner_parts.specs.structure_laws.specs.map_history.specs.declared.op.Op.TheVariants.{Get}
use Rattle.runner_parts.specs.structure_laws.specs.body_terms.specs.Shape.{is_look}
use Rattle.runner_parts.specs.structure_laws.specs.body_terms.specs.declared.thunk.Thunk.{Thunk}
use Rattle.key_cells.specs.section_body.specs.Bucket.{operand}
use Rattle.runner_parts.specs.block_words.specs.table_words.specs.declared.layout.Layout.{Layout}
use Rattle.runner_parts.specs.structure_laws.specs.Scene.{Readings}
use Rattle.runner_parts.specs.structure_laws.specs.Meaning.{Meaning}
use Rattle.runner_parts.specs.structure_laws.proofs.Changes.{both_true, equal_of}
use Rattle.key_cells.specs.Steps.{cell_steps}
use Rattle.key_cells.specs.Keyed.{Keyed, IsKeyed, cell_place, wanted, new_of, key_in, key_body, body_by, was_read, serves_key, keyed}
use Rattle.lock_walks.specs.try_lock.specs.Plans.{IsWalk}
use Rattle.lock_walks.specs.Gets.{GetsAreLight}
use Rattle.lock_walks.proofs.Brief.{brief_walk}
use Rattle.fixed_walks.specs.Fixed.{Course, fixed_planning, Suits}
use Rattle.fixed_walks.specs.Keys.{key_course}
use Rattle.fixed_walks.specs.Walk.{fixed_way}
use Rattle.fixed_walks.proofs.KeySuits.{key_suits}
use Rattle.fixed_walks.proofs.Leading.{leads}

-- a walk over fixed places loads each of them once
pub fixed_few : (m : Meaning) (c : Course) (layout : Layout) (op : Op) → Suits m c layout op → (readings : Readings) → IsWalk m (fixed_planning c) layout op readings → length readings ≤ 16
fixed_few m c layout op suits readings walks =
    let few = brief_walk m (fixed_way (λ (x : Course). x)) layout _ (leads (λ (x : Course). x) m layout c op suits) readings walks in
    let places = length-append (c.cells op) (c.lock op ∷ []) in
    let cells = suits.few in
    omega (arith, few, places, cells)

-- a body that writes nothing
looks_in : (cell want new : ℕ → ℕ) (reply n : ℕ) → n ≤ 3 → list_all is_look (cell_steps cell want new reply false n) ≡ true
looks_in cell want new reply zero few = refl
looks_in cell want new reply (suc zero) few = refl
looks_in cell want new reply (suc (suc zero)) few = refl
looks_in cell want new reply (suc (suc (suc zero))) few = refl
looks_in cell want new reply (suc (suc (suc (suc n)))) few = absurd (omega (arith, few))

-- form 1
looks_at : (c : Keyed) → IsKeyed c → (t : Thunk) → t.form ≡ 1 → list_all is_look (key_body c t) ≡ true
looks_at c is t one = subst (λ form. list_all is_look (body_by c (form == 2) (key_in c t) t) ≡ true) (sym one)
    (looks_in (cell_place c (key_in c t)) (wanted t) (new_of t) (operand t 6) c.count is.few)

-- a `get` of a structure of keys' cells
pub key_gets : (c : Keyed) → IsKeyed c → GetsAreLight (keyed c) (fixed_planning (key_course c))
key_gets c is = record {
  looks = λ is_map layout key readings thunk fits.
      let whole = both_true (serves_key c (Get key)) _ fits in
      let parts = both_true (was_read c key readings thunk) _ whole.1 in
      let form = both_true (thunk.form == 1) _ parts.1 in
      looks_at c is thunk (equal_of thunk.form 1 form.0);
  few = λ layout key readings limits allowed served walks.
      let few = fixed_few (keyed c) (key_course c) layout (Get key) (key_suits c is layout (Get key) served) readings walks in
      omega (arith, few);
}
