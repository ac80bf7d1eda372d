-- The search tree: the places of its nodes and its bodies.
use Rattle.std.specs.Prelude.{ℕ, ◌+◌, ◌*◌, ◌^◌, List, [], ◌∷◌, Bool, ◌&&◌, ◌||◌, ◌==◌, cond, nat_lt}
use Rattle.body_terms.specs.Memory.{cell_of}
use Rattle.body_terms.specs.Word.{value_of}
use Rattle.body_steps.specs.Forms.{form_by}
pub use Rattle.body_steps.specs.Forms.{Form, Look, Insert, Remove as Delete, Replace, Empty}
pub use Rattle.body_steps.specs.Node.{lock_of, key_cell, mark_of, slot_in, is_lock_place, is_mark_place}
use Rattle.section_body.specs.Bucket.{operand, is_small}
use Rattle.body_terms.specs.declared.value.Value.{Value}
use Rattle.body_terms.specs.declared.value.Value.TheVariants.{Const, Of, Made}
use Rattle.body_terms.specs.declared.value.Init.{Init}
use Rattle.body_terms.specs.declared.step.Step.{Step}
use Rattle.body_terms.specs.declared.step.Step.TheVariants.{Load, Want, Fresh, Take, Make, Stamp, Store, Retire, Answer}
use Rattle.body_terms.specs.declared.thunk.Thunk.{Thunk}

-- the cells of a node: its lock, its key, its links to the left and to the right, of which a leaf has its value in the
-- second, and its mark. There are no fixed cells
abbrev pub left_of : ℕ → ℕ
left_of slot = cell_of 0 slot 2

abbrev pub right_of : ℕ → ℕ
right_of slot = cell_of 0 slot 3

-- the link of a node to this side; true is left
abbrev pub child_of : Bool → ℕ → ℕ
child_of left slot = cond left (left_of slot) (right_of slot)

-- form 11, reads alone: place and word of the link from the parent to the leaf, the parent's mark word, the reply word
abbrev pub look_steps : Thunk → List Step
look_steps t =
    Load (operand t 0) 0 ∷ Want 0 (operand t 1) ∷ Load (t.lock + 4) 1 ∷ Want 1 (operand t 2) ∷
    Stamp ∷ Answer (operand t 3) ∷ []

-- the first values of a leaf, and those of an inner node over two links
abbrev pub leaf_with : ℕ → ℕ → Init
leaf_with key value = record { cells = Const 0 ∷ Const key ∷ Const 0 ∷ Const value ∷ Const 0 ∷ [] }

abbrev pub inner_with : ℕ → Value → Value → Init
inner_with key left right = record { cells = Const 0 ∷ Const key ∷ left ∷ right ∷ Const 0 ∷ [] }

-- the new leaf, and the new inner node over it and the old leaf, whose key is the greater of both keys
abbrev pub leaf_init : Thunk → Init
leaf_init t = leaf_with (operand t 3) (operand t 4)

abbrev pub inner_init : Thunk → Init
inner_init t = cond (nat_lt (operand t 3) (operand t 5))
    (inner_with (operand t 5) (Made 2) (Const (value_of (operand t 1))))
    (inner_with (operand t 3) (Const (value_of (operand t 1))) (Made 2))

-- form 12, a new leaf: the same link and mark word, key, value, the old leaf's key
abbrev pub insert_steps : Thunk → List Step
insert_steps t =
    Load (operand t 0) 0 ∷ Want 0 (operand t 1) ∷ Fresh 0 ∷ Load (t.lock + 4) 1 ∷ Want 1 (operand t 2) ∷
    Make (leaf_init t) 2 ∷ Make (inner_init t) 3 ∷ Stamp ∷ Store 0 (Made 3) ∷ Answer (1 * 2 ^ 32) ∷ []

-- the leaf that form 14 takes out
abbrev pub old_leaf : Thunk → ℕ
old_leaf t = slot_in (operand t 1)

-- form 14, a new leaf in the place of one with the same key: the same link and mark word, key, value, the reply word
abbrev pub replace_steps : Thunk → List Step
replace_steps t =
    Load (operand t 0) 0 ∷ Want 0 (operand t 1) ∷ Fresh 0 ∷ Load (t.lock + 4) 1 ∷
    Want 1 (operand t 2) ∷ Make (leaf_init t) 2 ∷ Stamp ∷ Store 0 (Made 2) ∷ Retire (old_leaf t) ∷
    Answer (operand t 5) ∷ []

-- the slots of the parent and the leaf that form 13 takes out, on which side of the parent the leaf is, and the place
-- of the parent's other link
abbrev pub parent_in : Thunk → ℕ
parent_in t = slot_in (operand t 1)

abbrev pub leaf_in : Thunk → ℕ
leaf_in t = slot_in (operand t 5)

abbrev pub is_left : Thunk → Bool
is_left t = operand t 4 == left_of (parent_in t)

abbrev pub is_right : Thunk → Bool
is_right t = operand t 4 == right_of (parent_in t)

abbrev pub sibling_of : Thunk → ℕ
sibling_of t = cond (is_left t) (right_of (parent_in t)) (left_of (parent_in t))

-- form 13, a parent and its leaf are taken out: place and word of the link from the grandparent to the parent, the
-- grandparent's mark word, the parent's lock word, place and word of the link from the parent to the leaf, the parent's
-- mark word
abbrev pub delete_steps : Thunk → List Step
delete_steps t =
    Load (operand t 0) 0 ∷ Want 0 (operand t 1) ∷ Fresh 0 ∷ Load (t.lock + 4) 1 ∷ Want 1 (operand t 2) ∷
    Take (lock_of (parent_in t)) (operand t 3) ∷
    Load (operand t 4) 2 ∷ Want 2 (operand t 5) ∷ Load (sibling_of t) 3 ∷
    Load (mark_of (parent_in t)) 4 ∷ Want 4 (operand t 6) ∷ Fresh 4 ∷
    Stamp ∷ Store 4 (Const 1) ∷ Store 0 (Of 3) ∷ Retire (parent_in t) ∷ Retire (leaf_in t) ∷ Answer (4 * 2 ^ 32) ∷ []

-- both links of form 13 lead to slots, the parent's cells have places, and the link to the leaf is one of the parent's
abbrev pub names_removed : Thunk → Bool
names_removed t = nat_lt 0 (value_of (operand t 1)) && (nat_lt 0 (value_of (operand t 5))
    && (is_small (mark_of (parent_in t)) && (is_left t || is_right t)))

-- each place, slot, key and value of a form fits
abbrev pub fits_look : Thunk → Bool
fits_look t = is_small (t.lock + 4) && is_small (operand t 0)

abbrev pub fits_insert : Thunk → Bool
fits_insert t = is_small (t.lock + 4) && (is_small (operand t 0)
    && (is_small (operand t 3) && (is_small (operand t 4) && is_small (operand t 5))))

abbrev pub fits_delete : Thunk → Bool
fits_delete t = is_small (t.lock + 4) && (is_small (operand t 0) && names_removed t)

abbrev pub fits_replace : Thunk → Bool
fits_replace t = is_small (t.lock + 4) && (is_small (operand t 0)
    && (is_small (operand t 3) && (is_small (operand t 4) && nat_lt 0 (value_of (operand t 1)))))

-- what a thunk's section does
abbrev pub form_of : Thunk → Form
form_of t = form_by 11 t.form (fits_look t) (fits_insert t) (fits_delete t) (fits_replace t)

abbrev pub body_of : Form → Thunk → List Step
body_of Look t = look_steps t
body_of Insert t = insert_steps t
body_of Delete t = delete_steps t
body_of Replace t = replace_steps t
body_of Empty t = []

-- the body of a search tree's thunk; empty for another form, and where a number of the form doesn't fit
abbrev pub tree_steps : Thunk → List Step
tree_steps t = body_of (form_of t) t
