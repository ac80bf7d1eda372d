-- The walk of a key from the root to a leaf, read off a list of readings, and the thunk that is the one for it.
use Rattle.std.specs.Prelude.{ℕ, suc, Bool, true, false, cond, ◌&&◌, ◌==◌, nat_lt, nat_le, List, [], ◌∷◌, Option, None, Some}
use Rattle.structure_laws.specs.map_history.specs.declared.op.Op.{Op}
use Rattle.structure_laws.specs.map_history.specs.Keys.{key_of}
use Rattle.structure_laws.specs.body_terms.specs.Word.{value_of}
use Rattle.structure_laws.specs.body_terms.specs.declared.thunk.Thunk.{Thunk}
use Rattle.structure_laws.specs.Scene.{Readings}
pub use Rattle.node_laws.specs.Walked.{is_ready}
use Rattle.node_laws.specs.Walked.{walked}
use Rattle.node_laws.specs.Forms.{form_from, reply_from, operands_from}
use Rattle.bucket_laws.specs.Walk.{Bounds, is_del, same_numbers, has_one_key}
use Rattle.tree_bodies.specs.Tree.{lock_of, key_cell, left_of, right_of, mark_of, child_of, slot_in}

-- what the walk loads next; it is at its end, or was refused
pub data Stage : Type 0 where
  AtRoot : Stage
  AtLeft : Stage
  AtKey : Stage
  AtRight : Stage
  AtValue : Stage
  AtGrandLock : Stage
  AtGrandMark : Stage
  AtLock : Stage
  AtMark : Stage
  AtEnd : Stage
  Refused : Stage

-- one link that was followed: the node in which it stands, its side, its word
pub record Step : Type 0 where
  pub from : ℕ
  pub side : Bool
  pub word : ℕ

abbrev pub step_place : Step → ℕ
step_place step = child_of step.side step.from

abbrev pub step_to : Step → ℕ
step_to step = slot_in step.word

-- how far a walk has come: how many links it has followed, whether one leads to the parent of the last
-- node, this link, the last link, the last node's left link and key, the value of the key's leaf, whether
-- there is one, and the words of locks and marks
pub record Walk : Type 0 where
  pub stage : Stage
  pub links : ℕ
  pub deep : Bool
  pub grand : Step
  pub last : Step
  pub left : ℕ
  pub key : ℕ
  pub value : ℕ
  pub found : Bool
  pub grand_lock : ℕ
  pub grand_mark : ℕ
  pub lock : ℕ
  pub mark : ℕ

-- the link from the root to the left
abbrev pub first_step : Step
first_step = record { from = 0; side = true; word = 0 }

abbrev pub start : Walk
start = record {
  stage = AtRoot;
  links = 0;
  deep = false;
  grand = first_step;
  last = first_step;
  left = 0;
  key = 0;
  value = 0;
  found = false;
  grand_lock = 0;
  grand_mark = 0;
  lock = 0;
  mark = 0;
}

abbrev pub is_end : Stage → Bool
is_end AtEnd = true
is_end AtRoot = false
is_end AtLeft = false
is_end AtKey = false
is_end AtRight = false
is_end AtValue = false
is_end AtGrandLock = false
is_end AtGrandMark = false
is_end AtLock = false
is_end AtMark = false
is_end Refused = false

-- the node to which the last link leads
abbrev pub node_of : Walk → ℕ
node_of w = step_to w.last

-- the place that the walk loads next
abbrev pub wanted_at : Walk → Stage → Option ℕ
wanted_at w AtRoot = Some (left_of 0)
wanted_at w AtLeft = Some (left_of (node_of w))
wanted_at w AtKey = Some (key_cell (node_of w))
wanted_at w AtRight = Some (right_of (node_of w))
wanted_at w AtValue = Some (right_of (node_of w))
wanted_at w AtGrandLock = Some (lock_of w.grand.from)
wanted_at w AtGrandMark = Some (mark_of w.grand.from)
wanted_at w AtLock = Some (lock_of w.last.from)
wanted_at w AtMark = Some (mark_of w.last.from)
wanted_at w AtEnd = None
wanted_at w Refused = None

-- the walk goes on along a link that leads to a node, unless it has followed so many links
abbrev pub after_link : Bounds → ℕ → ℕ → Stage
after_link b links word = cond (value_of word == 0) Refused (cond (nat_le b.links links) Refused AtLeft)

-- the walk follows a link of its last node
abbrev pub followed : Bounds → Walk → Bool → ℕ → Walk
followed b w side word = record w {
  stage = after_link b (suc w.links) word;
  links = suc w.links;
  deep = true;
  grand = w.last;
  last = record { from = node_of w; side = side; word = word };
}

-- what is loaded after a leaf's key: its value, where it is the key's and is to stay; or the locks. A
-- removal needs a link to the parent
abbrev pub after_leaf : Op → Bool → Bool → Stage
after_leaf op deep true = cond (is_del op) (cond deep AtGrandLock Refused) AtValue
after_leaf op deep false = AtLock

-- the walk after its last node's key is loaded: at a leaf it ends; of an inner node it follows the link on
-- its key's side
abbrev pub at_key : Bounds → Op → Walk → Bool → Bool → ℕ → Walk
at_key b op w true left word = record w {
  stage = after_leaf op w.deep (value_of word == key_of op);
  key = value_of word;
  found = value_of word == key_of op;
}
at_key b op w false true word = followed b w true w.left
at_key b op w false false word = record w { stage = AtRight; key = value_of word }

-- the walk after the load that it wants has given this word
abbrev pub fed : Bounds → Op → Walk → Stage → ℕ → Walk
fed b op w AtRoot word = record w {
  stage = after_link b 1 word;
  links = 1;
  last = record { from = 0; side = true; word = word };
}
fed b op w AtLeft word = record w { stage = AtKey; left = word }
fed b op w AtKey word = at_key b op w (value_of w.left == 0) (nat_lt (key_of op) (value_of word)) word
fed b op w AtRight word = followed b w false word
fed b op w AtValue word = record w { stage = AtLock; value = value_of word }
fed b op w AtGrandLock word = record w { stage = cond (is_ready b word) AtGrandMark Refused; grand_lock = word }
fed b op w AtGrandMark word = record w { stage = cond (value_of word == 0) AtLock Refused; grand_mark = word }
fed b op w AtLock word = record w { stage = cond (is_ready b word) AtMark Refused; lock = word }
fed b op w AtMark word = record w { stage = cond (value_of word == 0) AtEnd Refused; mark = word }
fed b op w AtEnd word = w
fed b op w Refused word = w

-- the walk in a list of readings: its longest prefix that is one
abbrev pub walk : Bounds → Op → Walk → Readings → Walk
walk b op = walked Walk (λ w. wanted_at w w.stage) (λ w word. fed b op w w.stage word)

-- the form of the thunk for a whole walk; 0 where the tree doesn't serve the operation
abbrev pub form_for : Op → Bool → ℕ
form_for = form_from 11

-- the reply word of an operation that neither adds nor removes a pair
abbrev pub reply_for : Op → Walk → Bool → ℕ
reply_for op w = reply_from op w.value

-- the operands of the four forms
abbrev pub look_operands : Walk → ℕ → List ℕ
look_operands w reply = step_place w.last ∷ w.last.word ∷ w.mark ∷ reply ∷ 0 ∷ 0 ∷ 0 ∷ 0 ∷ []

abbrev pub insert_operands : Walk → ℕ → ℕ → List ℕ
insert_operands w key value = step_place w.last ∷ w.last.word ∷ w.mark ∷ key ∷ value ∷ w.key ∷ 0 ∷ 0 ∷ []

abbrev pub replace_operands : Walk → ℕ → ℕ → ℕ → List ℕ
replace_operands w key value reply = step_place w.last ∷ w.last.word ∷ w.mark ∷ key ∷ value ∷ reply ∷ 0 ∷ 0 ∷ []

abbrev pub delete_operands : Walk → List ℕ
delete_operands w =
    step_place w.grand ∷ w.grand.word ∷ w.grand_mark ∷ w.lock ∷ step_place w.last ∷ w.last.word ∷ w.mark ∷ 0 ∷ []

abbrev pub operands_for : Op → Walk → Bool → List ℕ
operands_for op w found =
    operands_from (look_operands w) (insert_operands w) (delete_operands w) (replace_operands w) op w.value found

-- the outer lock: of the parent of the last node, and for a removal of the parent's parent
abbrev pub lock_for : Op → Walk → Bool → ℕ
lock_for op w found = cond (is_del op && found) (lock_of w.grand.from) (lock_of w.last.from)

abbrev pub word_for : Op → Walk → Bool → ℕ
word_for op w found = cond (is_del op && found) w.grand_lock w.lock

-- the operation has one key, the walk is whole and met no refusal, and the thunk is the one for it
abbrev pub fits_walk : Op → Walk → Thunk → Bool
fits_walk op w thunk = has_one_key op && (is_end w.stage && ((thunk.form == form_for op w.found)
    && ((thunk.lock == lock_for op w w.found) && ((thunk.word == word_for op w w.found)
    && same_numbers thunk.operands (operands_for op w w.found)))))
