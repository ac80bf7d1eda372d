-- The hash table: its places, its hash and its bodies.
use Rattle.std.specs.Prelude.{ℕ, ◌+◌, ◌-◌, ◌*◌, ◌/◌, ◌%◌, ◌^◌, List, [], ◌∷◌, Bool, ◌&&◌, ◌==◌, cond, nat_lt, slice_index}
use Rattle.body_terms.specs.declared.value.Value.TheVariants.{Const, Made}
use Rattle.body_terms.specs.declared.step.Step.{Step}
use Rattle.body_terms.specs.declared.step.Step.TheVariants.{Load, Want, Fresh, Make, Stamp, Store, Retire, Answer}
use Rattle.body_terms.specs.declared.thunk.Thunk.{Thunk}

-- the bucket of a key among 2 ^ bits buckets (Fibonacci hashing)
abbrev pub bucket_index : ℕ → ℕ → ℕ
bucket_index key bits = cond (bits == 0) 0 ((key * 2654435769 % 2 ^ 32) / 2 ^ (32 - bits))

-- the places of a bucket
abbrev pub bucket_lock : ℕ → ℕ
bucket_lock bucket = 3 * bucket

abbrev pub bucket_edition : ℕ → ℕ
bucket_edition bucket = 3 * bucket + 1

abbrev pub bucket_head : ℕ → ℕ
bucket_head bucket = 3 * bucket + 2

-- an operand of a thunk
abbrev pub operand : Thunk → ℕ → ℕ
operand thunk n = slice_index thunk.operands n

-- a number that fits a place, a slot, a key, a value or a link
abbrev pub is_small : ℕ → Bool
is_small number = nat_lt number (2 ^ 32)

-- form 1, reads alone: edition word, reply word
abbrev pub read_steps : Thunk → List Step
read_steps t =
    Load (t.lock + 1) 0 ∷ Want 0 (operand t 0) ∷ Stamp ∷ Answer (operand t 1) ∷ []

-- form 2, a new node at the head: edition word, key, value, link in the head
abbrev pub insert_steps : Thunk → List Step
insert_steps t =
    Load (t.lock + 1) 0 ∷ Want 0 (operand t 0) ∷ Fresh 0 ∷ Load (t.lock + 2) 1 ∷ Fresh 1 ∷
    Make (record {
      cells = Const 0 ∷ Const (operand t 1) ∷ Const (operand t 2) ∷ Const (operand t 3)
          ∷ Const 0 ∷ [];
    }) 2 ∷
    Stamp ∷ Store 1 (Made 2) ∷ Store 0 (Const 0) ∷ Answer (1 * 2 ^ 32) ∷ []

-- form 3, a node taken out: edition word, place of the link to the node, the node's slot, its next link
abbrev pub remove_steps : Thunk → List Step
remove_steps t =
    Load (t.lock + 1) 0 ∷ Want 0 (operand t 0) ∷ Fresh 0 ∷ Load (operand t 1) 1 ∷ Fresh 1 ∷
    Stamp ∷ Store 1 (Const (operand t 3)) ∷ Store 0 (Const 0) ∷ Retire (operand t 2) ∷ Answer (4 * 2 ^ 32) ∷ []

-- each place, slot, key, value and link of these forms fits
abbrev pub fits_read : Thunk → Bool
fits_read t = is_small (t.lock + 1)

abbrev pub fits_insert : Thunk → Bool
fits_insert t = is_small (t.lock + 2) && (is_small (operand t 1) && (is_small (operand t 2) && is_small (operand t 3)))

abbrev pub fits_remove : Thunk → Bool
fits_remove t = is_small (t.lock + 1) && (is_small (operand t 1) && (is_small (operand t 2) && is_small (operand t 3)))

-- the body of a hash table's thunk; empty for another form, and where a place, slot, key, value or link doesn't fit
abbrev pub bucket_steps : Thunk → List Step
bucket_steps t =
    cond (t.form == 1) (cond (fits_read t) (read_steps t) [])
    (cond (t.form == 2) (cond (fits_insert t) (insert_steps t) [])
    (cond (t.form == 3) (cond (fits_remove t) (remove_steps t) [])
    []))
