-- Replies of operations that leave their key what it had, and tests that go on to hold of longer lists.
use Rattle.std.proofs.Common.{◌≡◌, Bool, true, false, refl, List, [], ◌∷◌, inl, inr}
use Rattle.std.specs.Prelude.{◌||◌, ◌++◌, ℕ, Option, Some, None}
use Rattle.std.specs.List.{list_any}
use Rattle.structure_laws.specs.map_history.specs.declared.op.Op.{Op}
use Rattle.structure_laws.specs.map_history.specs.declared.op.Op.TheVariants.{Get, Ins, Del, Put, Mov}
use Rattle.structure_laws.specs.map_history.specs.Words.{word_of}
use Rattle.structure_laws.specs.Fitting.{Leaves}
use Rattle.structure_laws.specs.map_history.specs.AtKey.{reply_at, changes_at}

-- where an operation leaves its key what it had, its reply says so
pub reply_leaves : (had : Option ℕ) (op : Op) → changes_at had op ≡ false → Leaves op (word_of (reply_at had op))
reply_leaves had (Get key) h = tt
reply_leaves (Some v) (Ins key value) h = refl
reply_leaves None (Ins key value) h = absurd (cc)
reply_leaves (Some v) (Del key) h = absurd (cc)
reply_leaves None (Del key) h = refl
reply_leaves had (Put key value) h = absurd (cc)
reply_leaves (Some v) (Mov from to) h = inl refl
reply_leaves None (Mov from to) h = inr refl

-- what holds of one item of a list holds of one of a longer list
pub any_on : {A : Type 0} (test : A → Bool) (xs more : List A) → list_any test xs ≡ true → list_any test (xs ++ more) ≡ true
any_on test [] more h = absurd (cc)
any_on test (x ∷ xs) more h = by (test x) (any_on test xs more) h
  where
    by : (b : Bool) → (list_any test xs ≡ true → list_any test (xs ++ more) ≡ true) → (b || list_any test xs) ≡ true → (b || list_any test (xs ++ more)) ≡ true
    by true rest h = refl
    by false rest h = rest h
