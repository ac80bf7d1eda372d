-- The list's bodies have the shape of a body: the test of each of their steps comes to nothing.
use Rattle.std.proofs.Common.{◌≡◌, ◌≢◌, ℕ, ◌+◌, ◌≤◌, length, false, cond, refl, ap, arith}
use Rattle.std.specs.Prelude.{◌==◌, ◌||◌, Some, None}
use Rattle.structure_laws.specs.table_words.specs.small_lemmas.proofs.Numbers.{other_tested}
use Rattle.structure_laws.specs.body_terms.specs.declared.misshape.Misshape.TheVariants.{StoredTwice}
use Rattle.structure_laws.specs.body_terms.specs.declared.thunk.Thunk.{Thunk}
use Rattle.structure_laws.specs.body_terms.specs.Shape.{IsShaped}
use Rattle.shared_laws.proofs.Shaping.{shaped_by}
use Rattle.list_bodies.specs.List.{Form, Look, Insert, Remove, Replace, Empty, body_of}
use Rattle.list_bodies.specs.List.{next_of, mark_of, node_in}
use Rattle.list_bodies.specs.List.{look_steps, insert_steps, remove_steps, replace_steps}

module _ (t : Thunk) where
  pub look_shaped : IsShaped (look_steps t)
  look_shaped = shaped_by (look_steps t) (omega arith) ((((((refl, refl), refl), refl), refl), refl), refl)

  pub insert_shaped : IsShaped (insert_steps t)
  insert_shaped = shaped_by (insert_steps t) (omega arith)
      (((((((((refl, refl), refl), refl), refl), refl), refl), refl), refl), refl)

  -- a removal stores in two places
  pub remove_shaped : mark_of (node_in t) ≢ t.lock + 2 → IsShaped (remove_steps t)
  remove_shaped apart = shaped_by (remove_steps t) (omega arith) (
    (
      (
        ((((((((((((refl, refl), refl), refl), refl), refl), refl), refl), refl), refl), refl), refl), refl),
        ap (λ b. cond ((b || false) || false) (Some (StoredTwice 12)) None)
            (other_tested (mark_of (node_in t)) (t.lock + 2) apart),
      ),
      refl,
    ),
    refl,
  )

  -- and a replacement in three
  pub replace_shaped : mark_of (node_in t) ≢ t.lock + 2 → next_of (node_in t) ≢ t.lock + 2 → IsShaped (replace_steps t)
  replace_shaped mark_apart next_apart = shaped_by (replace_steps t) (omega arith) (
    (
      (
        (
          ((((((((((((((refl, refl), refl), refl), refl), refl), refl), refl), refl), refl), refl), refl), refl), refl), refl),
          ap (λ b. cond ((b || false) || false) (Some (StoredTwice 14)) None) (own (node_in t)),
        ),
        λ i. cond ((other_tested (mark_of (node_in t)) (t.lock + 2) mark_apart i
            || (other_tested (next_of (node_in t)) (t.lock + 2) next_apart i || false)) || false)
            (Some (StoredTwice 15)) None,
      ),
      refl,
    ),
    refl,
  )
    where
      own : (n : ℕ) → (mark_of n == next_of n) ≡ false
      own n = other_tested (mark_of n) (next_of n) (λ e. omega (arith, e))

  -- there are few steps
  pub few_steps : (f : Form) → length (body_of f t) ≤ 23
  few_steps Look = omega arith
  few_steps Insert = omega arith
  few_steps Remove = omega arith
  few_steps Replace = omega arith
  few_steps Empty = omega arith
