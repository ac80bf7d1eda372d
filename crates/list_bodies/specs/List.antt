-- The sorted list: the places of its nodes and its bodies.
use Rattle.std.specs.Prelude.{ℕ, ◌+◌, ◌*◌, ◌^◌, List, [], ◌∷◌, Bool, ◌&&◌, nat_lt}
use Rattle.body_terms.specs.Memory.{cell_of}
use Rattle.body_terms.specs.Word.{value_of}
use Rattle.body_steps.specs.Forms.{form_by}
pub use Rattle.body_steps.specs.Forms.{Form, Look, Insert, Remove, Replace, Empty}
pub use Rattle.body_steps.specs.Node.{lock_of, key_cell, mark_of, slot_in, is_lock_place, is_mark_place}
use Rattle.section_body.specs.Bucket.{operand, is_small}
use Rattle.body_terms.specs.declared.value.Value.{Value}
use Rattle.body_terms.specs.declared.value.Value.TheVariants.{Const, Of, Made}
use Rattle.body_terms.specs.declared.value.Init.{Init}
use Rattle.body_terms.specs.declared.step.Step.{Step}
use Rattle.body_terms.specs.declared.step.Step.TheVariants.{Load, Want, Fresh, Take, Make, Stamp, Store, Retire, Answer}
use Rattle.body_terms.specs.declared.thunk.Thunk.{Thunk}

-- the cells of a node: its lock, its key, its link to the next node, its value, and its mark. There are no fixed cells
abbrev pub next_of : ℕ → ℕ
next_of slot = cell_of 0 slot 2

abbrev pub value_cell : ℕ → ℕ
value_cell slot = cell_of 0 slot 3

-- The outer lock is that of a node, the predecessor; its link and its mark stand behind its lock. The operands 1 and 2
-- are the words that the walk read of this link and of this mark, and operand 0 isn't used.

-- form 31, reads alone: the reply word
abbrev pub look_steps : Thunk → List Step
look_steps t =
    Load (t.lock + 2) 0 ∷ Want 0 (operand t 1) ∷ Load (t.lock + 4) 1 ∷ Want 1 (operand t 2) ∷
    Stamp ∷ Answer (operand t 3) ∷ []

-- the first values of a node
abbrev pub node_with : ℕ → Value → ℕ → Init
node_with key next value = record { cells = Const 0 ∷ Const key ∷ next ∷ Const value ∷ Const 0 ∷ [] }

-- form 32, a new node behind the predecessor, before the node to which its link leads: key, value
abbrev pub insert_steps : Thunk → List Step
insert_steps t =
    Load (t.lock + 2) 0 ∷ Want 0 (operand t 1) ∷ Fresh 0 ∷ Load (t.lock + 4) 1 ∷ Want 1 (operand t 2) ∷
    Make (node_with (operand t 3) (Const (value_of (operand t 1))) (operand t 4)) 2 ∷
    Stamp ∷ Store 0 (Made 2) ∷ Answer (1 * 2 ^ 32) ∷ []

-- the node behind the predecessor, which forms 33 and 34 take out
abbrev pub node_in : Thunk → ℕ
node_in t = slot_in (operand t 1)

-- form 33, the node behind the predecessor is taken out: this node's lock word and mark word
abbrev pub remove_steps : Thunk → List Step
remove_steps t =
    Load (t.lock + 2) 0 ∷ Want 0 (operand t 1) ∷ Fresh 0 ∷ Load (t.lock + 4) 1 ∷ Want 1 (operand t 2) ∷
    Take (lock_of (node_in t)) (operand t 3) ∷ Load (next_of (node_in t)) 2 ∷
    Load (mark_of (node_in t)) 3 ∷ Want 3 (operand t 4) ∷ Fresh 3 ∷
    Stamp ∷ Store 3 (Const 1) ∷ Store 0 (Of 2) ∷ Retire (node_in t) ∷ Answer (4 * 2 ^ 32) ∷ []

-- form 34, a new node in the place of one with the same key: as form 33, then key, value and the reply word. The old
-- node leads to the new one before the predecessor does
abbrev pub replace_steps : Thunk → List Step
replace_steps t =
    Load (t.lock + 2) 0 ∷ Want 0 (operand t 1) ∷ Fresh 0 ∷ Load (t.lock + 4) 1 ∷ Want 1 (operand t 2) ∷
    Take (lock_of (node_in t)) (operand t 3) ∷ Load (next_of (node_in t)) 2 ∷
    Load (mark_of (node_in t)) 3 ∷ Want 3 (operand t 4) ∷ Fresh 3 ∷ Fresh 2 ∷
    Make (node_with (operand t 5) (Of 2) (operand t 6)) 4 ∷
    Stamp ∷ Store 3 (Const 1) ∷ Store 2 (Made 4) ∷ Store 0 (Made 4) ∷ Retire (node_in t) ∷ Answer (operand t 7) ∷ []

-- the link leads to a slot, whose cells have places
abbrev pub names_node : Thunk → Bool
names_node t = nat_lt 0 (value_of (operand t 1)) && is_small (mark_of (node_in t))

-- each place, slot, key and value of a form fits
abbrev pub fits_look : Thunk → Bool
fits_look t = is_small (t.lock + 4)

abbrev pub fits_insert : Thunk → Bool
fits_insert t = is_small (t.lock + 4) && (is_small (operand t 3) && is_small (operand t 4))

abbrev pub fits_remove : Thunk → Bool
fits_remove t = is_small (t.lock + 4) && names_node t

abbrev pub fits_replace : Thunk → Bool
fits_replace t = is_small (t.lock + 4) && (names_node t && (is_small (operand t 5) && is_small (operand t 6)))

-- what a thunk's section does
abbrev pub form_of : Thunk → Form
form_of t = form_by 31 t.form (fits_look t) (fits_insert t) (fits_remove t) (fits_replace t)

abbrev pub body_of : Form → Thunk → List Step
body_of Look t = look_steps t
body_of Insert t = insert_steps t
body_of Remove t = remove_steps t
body_of Replace t = replace_steps t
body_of Empty t = []

-- the body of a sorted list's thunk; empty for another form, and where a number of the form doesn't fit
abbrev pub list_steps : Thunk → List Step
list_steps t = body_of (form_of t) t
