-- All bodies of the hash table: the three forms that `section_body` has, and a new value for a key that is there.
use Rattle.std.specs.Prelude.{ℕ, ◌+◌, List, [], ◌∷◌, Bool, ◌&&◌, ◌==◌, cond}
use Rattle.body_terms.specs.declared.value.Value.TheVariants.{Const}
use Rattle.body_terms.specs.declared.step.Step.{Step}
use Rattle.body_terms.specs.declared.step.Step.TheVariants.{Load, Want, Fresh, Stamp, Store, Answer}
use Rattle.body_terms.specs.declared.thunk.Thunk.{Thunk}
use Rattle.section_body.specs.Bucket.{operand, is_small, bucket_steps}

-- form 4, a new value: edition word, place of the value's cell, the value, reply word
abbrev pub set_steps : Thunk → List Step
set_steps t =
    Load (t.lock + 1) 0 ∷ Want 0 (operand t 0) ∷ Fresh 0 ∷ Load (operand t 1) 1 ∷ Fresh 1 ∷
    Stamp ∷ Store 1 (Const (operand t 2)) ∷ Store 0 (Const 0) ∷ Answer (operand t 3) ∷ []

-- each place and value of it fits
abbrev pub fits_set : Thunk → Bool
fits_set t = is_small (t.lock + 1) && (is_small (operand t 1) && is_small (operand t 2))

-- the body of a thunk; empty for another form, and where a number of the form doesn't fit
abbrev pub table_steps : Thunk → List Step
table_steps t = cond (t.form == 4) (cond (fits_set t) (set_steps t) []) (bucket_steps t)
