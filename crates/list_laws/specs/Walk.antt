-- The walk of a key along the list, read off a list of readings, and the thunk that is the one for it.
use Rattle.std.specs.Prelude.{ℕ, suc, Bool, true, false, cond, not, ◌&&◌, ◌==◌, nat_lt, nat_le, List, [], ◌∷◌, Option, None, Some}
use Rattle.structure_laws.specs.map_history.specs.declared.op.Op.{Op}
use Rattle.structure_laws.specs.map_history.specs.declared.op.Op.TheVariants.{Get, Ins, Del, Put, Mov}
use Rattle.structure_laws.specs.map_history.specs.Keys.{key_of}
use Rattle.structure_laws.specs.body_terms.specs.Word.{value_of}
use Rattle.structure_laws.specs.body_terms.specs.declared.thunk.Thunk.{Thunk}
use Rattle.structure_laws.specs.Scene.{Readings}
pub use Rattle.node_laws.specs.Walked.{is_ready}
use Rattle.node_laws.specs.Walked.{walked}
use Rattle.node_laws.specs.Forms.{form_from, reply_from, operands_from}
use Rattle.bucket_laws.specs.Walk.{Bounds, is_del, same_numbers, has_one_key}
use Rattle.list_bodies.specs.List.{lock_of, key_cell, next_of, value_cell, mark_of, slot_in}

-- what the walk loads next; it is at its end, or was refused
pub data Stage : Type 0 where
  AtLink : Stage
  AtKey : Stage
  AtValue : Stage
  AtLock : Stage
  AtMark : Stage
  AtNodeLock : Stage
  AtNodeMark : Stage
  AtEnd : Stage
  Refused : Stage

-- how far a walk has come: how many links it has loaded, the predecessor, the word of its link, the key that was loaded
-- last, the value of the key's node, whether there is one, and the words of locks and marks: of the predecessor, and of
-- the node to which its link leads
pub record Walk : Type 0 where
  pub stage : Stage
  pub links : ℕ
  pub from : ℕ
  pub link : ℕ
  pub key : ℕ
  pub value : ℕ
  pub found : Bool
  pub lock : ℕ
  pub mark : ℕ
  pub node_lock : ℕ
  pub node_mark : ℕ

-- it begins with the head as predecessor
abbrev pub start : Walk
start = record {
  stage = AtLink;
  links = 0;
  from = 0;
  link = 0;
  key = 0;
  value = 0;
  found = false;
  lock = 0;
  mark = 0;
  node_lock = 0;
  node_mark = 0;
}

abbrev pub is_end : Stage → Bool
is_end AtEnd = true
is_end AtLink = false
is_end AtKey = false
is_end AtValue = false
is_end AtLock = false
is_end AtMark = false
is_end AtNodeLock = false
is_end AtNodeMark = false
is_end Refused = false

-- it has loaded its last link, and was not refused there
abbrev pub is_past : Stage → Bool
is_past AtLink = false
is_past AtKey = true
is_past AtValue = true
is_past AtLock = true
is_past AtMark = true
is_past AtNodeLock = true
is_past AtNodeMark = true
is_past AtEnd = true
is_past Refused = false

-- the node to which the last link leads
abbrev pub node_of : Walk → ℕ
node_of w = slot_in w.link

-- the place that the walk loads next
abbrev pub wanted_at : Walk → Stage → Option ℕ
wanted_at w AtLink = Some (next_of w.from)
wanted_at w AtKey = Some (key_cell (node_of w))
wanted_at w AtValue = Some (value_cell (node_of w))
wanted_at w AtLock = Some (lock_of w.from)
wanted_at w AtMark = Some (mark_of w.from)
wanted_at w AtNodeLock = Some (lock_of (node_of w))
wanted_at w AtNodeMark = Some (mark_of (node_of w))
wanted_at w AtEnd = None
wanted_at w Refused = None

-- the walk goes on along a link that leads to a node, unless it has loaded so many links
abbrev pub after_link : Bounds → ℕ → ℕ → Stage
after_link b links word = cond (value_of word == 0) Refused (cond (nat_le b.links links) Refused AtKey)

-- what is loaded behind the last key: the value of the key's node, unless it is taken out for good; or the locks
abbrev pub after_key : Op → Bool → Stage
after_key op found = cond (found && not (is_del op)) AtValue AtLock

-- the operation takes out the key's node, for good or for a new one in its place
abbrev pub takes_out : Op → Bool
takes_out (Get key) = false
takes_out (Ins key value) = false
takes_out (Del key) = true
takes_out (Put key value) = true
takes_out (Mov from to) = false

-- the walk after its node's key is loaded: below the wanted key the node becomes the predecessor, else the walk stops
abbrev pub at_key : Op → Walk → Bool → ℕ → Walk
at_key op w true word = record w { stage = AtLink; from = node_of w; key = value_of word }
at_key op w false word = record w {
  stage = after_key op (value_of word == key_of op);
  key = value_of word;
  found = value_of word == key_of op;
}

-- the walk after the load that it wants has given this word
abbrev pub fed : Bounds → Op → Walk → Stage → ℕ → Walk
fed b op w AtLink word = record w { stage = after_link b (suc w.links) word; links = suc w.links; link = word }
fed b op w AtKey word = at_key op w (nat_lt (value_of word) (key_of op)) word
fed b op w AtValue word = record w { stage = AtLock; value = value_of word }
fed b op w AtLock word = record w { stage = cond (is_ready b word) AtMark Refused; lock = word }
fed b op w AtMark word = record w {
  stage = cond (value_of word == 0) (cond (takes_out op && w.found) AtNodeLock AtEnd) Refused;
  mark = word;
}
fed b op w AtNodeLock word = record w { stage = cond (is_ready b word) AtNodeMark Refused; node_lock = word }
fed b op w AtNodeMark word = record w { stage = cond (value_of word == 0) AtEnd Refused; node_mark = word }
fed b op w AtEnd word = w
fed b op w Refused word = w

-- the walk in a list of readings: its longest prefix that is one
abbrev pub walk : Bounds → Op → Walk → Readings → Walk
walk b op = walked Walk (λ w. wanted_at w w.stage) (λ w word. fed b op w w.stage word)

-- the form of the thunk for a whole walk; 0 where the list doesn't serve the operation
abbrev pub form_for : Op → Bool → ℕ
form_for = form_from 31

-- the reply word of an operation that neither adds nor removes a pair
abbrev pub reply_for : Op → Walk → Bool → ℕ
reply_for op w = reply_from op w.value

-- the operands of the four forms
abbrev pub look_operands : Walk → ℕ → List ℕ
look_operands w reply = 0 ∷ w.link ∷ w.mark ∷ reply ∷ 0 ∷ 0 ∷ 0 ∷ 0 ∷ []

abbrev pub insert_operands : Walk → ℕ → ℕ → List ℕ
insert_operands w key value = 0 ∷ w.link ∷ w.mark ∷ key ∷ value ∷ 0 ∷ 0 ∷ 0 ∷ []

abbrev pub remove_operands : Walk → List ℕ
remove_operands w = 0 ∷ w.link ∷ w.mark ∷ w.node_lock ∷ w.node_mark ∷ 0 ∷ 0 ∷ 0 ∷ []

abbrev pub replace_operands : Walk → ℕ → ℕ → ℕ → List ℕ
replace_operands w key value reply =
    0 ∷ w.link ∷ w.mark ∷ w.node_lock ∷ w.node_mark ∷ key ∷ value ∷ reply ∷ []

abbrev pub operands_for : Op → Walk → Bool → List ℕ
operands_for op w found =
    operands_from (look_operands w) (insert_operands w) (remove_operands w) (replace_operands w) op w.value found

-- the operation has one key, the walk is whole and met no refusal, and the thunk is the one for it; its outer lock is
-- the predecessor's
abbrev pub fits_walk : Op → Walk → Thunk → Bool
fits_walk op w thunk = has_one_key op && (is_end w.stage && ((thunk.form == form_for op w.found)
    && ((thunk.lock == lock_of w.from) && ((thunk.word == w.lock)
    && same_numbers thunk.operands (operands_for op w w.found)))))
