-- The bodies of sections over two keys: the value of key a is moved to key b. The forms 21 and 22 lock two buckets, the
-- lower one first; form 23 has both keys in one bucket.
use Rattle.std.specs.Prelude.{ℕ, ◌+◌, ◌*◌, ◌^◌, List, [], ◌∷◌, Bool, ◌&&◌, ◌==◌, cond}
use Rattle.body_terms.specs.Word.{value_of, version_of}
use Rattle.body_terms.specs.declared.value.Value.TheVariants.{Const, Made}
use Rattle.body_terms.specs.declared.value.Init.{Init}
use Rattle.body_terms.specs.declared.step.Step.{Step}
use Rattle.body_terms.specs.declared.step.Step.TheVariants.{Load, Want, Fresh, Take, Make, Stamp, Store, Retire, Answer}
use Rattle.body_terms.specs.declared.thunk.Thunk.{Thunk}
use Rattle.section_body.specs.Bucket.{operand, is_small}
use Rattle.bucket_bodies.specs.Table.{table_steps}

-- the halves of an operand that holds two numbers
abbrev pub low_half : Thunk → ℕ → ℕ
low_half t n = value_of (operand t n)

abbrev pub high_half : Thunk → ℕ → ℕ
high_half t n = version_of (operand t n)

-- The outer lock is that of the lower bucket. Operand 0 is the lower edition's word, 1 the higher lock's word and 2 the
-- higher edition's word, in the forms 21 and 22.

-- form 21, reads alone: the higher lock's place in operand 3, and the reply word in operand 7
abbrev pub look_two_steps : Thunk → List Step
look_two_steps t =
    Load (t.lock + 1) 0 ∷ Want 0 (operand t 0) ∷ Take (operand t 3) (operand t 1) ∷
    Load (operand t 3 + 1) 1 ∷ Want 1 (operand t 2) ∷ Stamp ∷ Answer (operand t 7) ∷ []

-- the higher lock's place in form 22, whether the bucket of a is the lower one, and the lock of b's bucket
abbrev pub higher_lock : Thunk → ℕ
higher_lock t = low_half t 3

abbrev pub takes_lower : Thunk → Bool
takes_lower t = high_half t 3 == 1

abbrev pub target_lock : Thunk → ℕ
target_lock t = cond (takes_lower t) (higher_lock t) t.lock

-- the first values of the new node
abbrev pub moved_node : ℕ → ℕ → ℕ → Init
moved_node key value next = record { cells = Const 0 ∷ Const key ∷ Const value ∷ Const next ∷ Const 0 ∷ [] }

-- form 22, a node of one bucket is taken out and one put in at the head of the other: the higher lock's place and
-- whether the first bucket is the lower one; the place of the link to the node, and the node's slot; its next link,
-- and the link in the other head; the new key, and the value
abbrev pub move_steps : Thunk → List Step
move_steps t =
    Load (t.lock + 1) 0 ∷ Want 0 (operand t 0) ∷ Fresh 0 ∷
    Take (higher_lock t) (operand t 1) ∷ Load (higher_lock t + 1) 1 ∷ Want 1 (operand t 2) ∷ Fresh 1 ∷
    Load (low_half t 4) 2 ∷ Fresh 2 ∷ Load (target_lock t + 2) 3 ∷ Fresh 3 ∷
    Make (moved_node (low_half t 6) (high_half t 6) (high_half t 5)) 4 ∷
    Stamp ∷ Store 2 (Const (low_half t 5)) ∷ Store 3 (Made 4) ∷ Store 0 (Const 0) ∷ Store 1 (Const 0) ∷
    Retire (high_half t 4) ∷ Answer (7 * 2 ^ 32) ∷ []

-- form 23, a new node takes the place of the old one in its chain: edition word, place of the link to the old node, its
-- slot and its next link, the new key, the value
abbrev pub rename_steps : Thunk → List Step
rename_steps t =
    Load (t.lock + 1) 0 ∷ Want 0 (operand t 0) ∷ Fresh 0 ∷ Load (operand t 1) 1 ∷ Fresh 1 ∷
    Make (moved_node (operand t 4) (operand t 5) (operand t 3)) 2 ∷
    Stamp ∷ Store 1 (Made 2) ∷ Store 0 (Const 0) ∷ Retire (operand t 2) ∷ Answer (7 * 2 ^ 32) ∷ []

-- each place, slot, key, value and link of these forms fits; what stands in a half of an operand does
abbrev pub fits_look_two : Thunk → Bool
fits_look_two t = is_small (t.lock + 2) && is_small (operand t 3 + 2)

abbrev pub fits_move : Thunk → Bool
fits_move t = is_small (t.lock + 2) && is_small (higher_lock t + 2)

abbrev pub fits_rename : Thunk → Bool
fits_rename t = is_small (t.lock + 2) && (is_small (operand t 1) && (is_small (operand t 2)
    && (is_small (operand t 3) && (is_small (operand t 4) && is_small (operand t 5)))))

-- the body of a thunk on the table that moves keys, too; empty for another form, and where a number of the form doesn't
-- fit
abbrev pub two_steps : Thunk → List Step
two_steps t =
    cond (t.form == 21) (cond (fits_look_two t) (look_two_steps t) [])
    (cond (t.form == 22) (cond (fits_move t) (move_steps t) [])
    (cond (t.form == 23) (cond (fits_rename t) (rename_steps t) [])
    (table_steps t)))
