-- What a body does in each bucket that it locks: its halves. A body over one key has one half; one that moves a key to
-- another bucket has two.
use Rattle.std.specs.Prelude.{ℕ, ◌+◌, ◌<◌, ◌≤◌, ◌≡◌, ◌⊎◌, ◌==◌, ◌&&◌, suc, cond, Bool, true, false}
use Rattle.std.specs.Prelude.{List, [], ◌∷◌, Contains}
use Rattle.bucket_bodies.specs.section_body.specs.Bucket.{bucket_lock, operand, fits_read, fits_insert, fits_remove}
use Rattle.bucket_bodies.specs.section_body.specs.Bucket.{read_steps, insert_steps, remove_steps}
use Rattle.bucket_bodies.specs.Table.{fits_set, set_steps, table_steps}
use Rattle.bucket_bodies.specs.Two.{low_half, high_half, higher_lock, takes_lower, fits_look_two, fits_move}
use Rattle.bucket_bodies.specs.Two.{fits_rename, look_two_steps, move_steps, rename_steps, two_steps}
use Rattle.structure_laws.specs.body_terms.specs.declared.step.Step.{Step}
use Rattle.structure_laws.specs.body_terms.specs.declared.thunk.Thunk.{Thunk}
use Rattle.structure_laws.specs.Scene.{Section}

-- it reads alone, puts a new node at the head, takes a node out, sets the value of one, or puts a new node in the place
-- of one that it takes out
pub data Kind : Type 0 where
  Look : Kind
  Insert : Kind
  Remove : Kind
  Set : Kind
  Rename : Kind

-- of an operation's two keys, its own and the other one
pub data Side : Type 0 where
  Own : Side
  Other : Side

-- One bucket's side of a body: its kind, the key of its new node, the place of the bucket's lock and the place that it
-- changes; the registers of the edition, of that place and of a new node; the edition word that it wants, the slot that
-- it takes out, the key and the value of its new node, and a link; and where its steps stand in the body. From `held`
-- on the bucket's lock is held, and from `wanted` on the edition is known. At `load` it loads the place that it
-- changes, at `made` it makes the node, at `change` it stores to the place, at `edition` to the edition, and at
-- `retire` it retires the node. What it doesn't do stands at `change`.
pub record Half : Type 0 where
  pub kind : Kind
  pub side : Side
  pub lock : ℕ
  pub target : ℕ
  pub edition_reg : ℕ
  pub target_reg : ℕ
  pub node_reg : ℕ
  pub word : ℕ
  pub gone : ℕ
  pub key : ℕ
  pub value : ℕ
  pub next : ℕ
  pub held : ℕ
  pub wanted : ℕ
  pub load : ℕ
  pub made : ℕ
  pub change : ℕ
  pub edition : ℕ
  pub retire : ℕ

-- a half that reads alone, in the bucket of the thunk's lock, of a body with one half
abbrev pub look_half : Thunk → Half
look_half t = record {
  kind = Look;
  side = Own;
  lock = t.lock;
  target = t.lock;
  edition_reg = 0;
  target_reg = 1;
  node_reg = 2;
  word = operand t 0;
  gone = 0;
  key = 0;
  value = 0;
  next = 0;
  held = 0;
  wanted = 2;
  load = 3;
  made = 4;
  change = 4;
  edition = 4;
  retire = 4;
}

abbrev pub insert_half : Thunk → Half
insert_half t = record (look_half t) {
  kind = Insert;
  target = t.lock + 2;
  key = operand t 1;
  value = operand t 2;
  next = operand t 3;
  made = 5;
  change = 7;
  edition = 8;
  retire = 7;
}

abbrev pub remove_half : Thunk → Half
remove_half t = record (look_half t) {
  kind = Remove;
  target = operand t 1;
  gone = operand t 2;
  next = operand t 3;
  made = 6;
  change = 6;
  edition = 7;
  retire = 8;
}

abbrev pub set_half : Thunk → Half
set_half t = record (look_half t) {
  kind = Set;
  target = operand t 1;
  value = operand t 2;
  made = 6;
  change = 6;
  edition = 7;
  retire = 6;
}

abbrev pub rename_half : Thunk → Half
rename_half t = record (look_half t) {
  kind = Rename;
  side = Other;
  target = operand t 1;
  gone = operand t 2;
  key = operand t 4;
  value = operand t 5;
  next = operand t 3;
  made = 5;
  change = 7;
  edition = 8;
  retire = 9;
}

-- Of a body that locks two buckets: the half of the lower bucket, or of the higher one. The edition of the lower one is
-- known from 2 on, and its word stands in register 0; that of the higher one is in register 1.
abbrev pub look_two_half : Bool → Thunk → Half
look_two_half lower t = record (look_half t) {
  lock = cond lower t.lock (operand t 3);
  target = cond lower t.lock (operand t 3);
  edition_reg = cond lower 0 1;
  target_reg = cond lower 2 3;
  node_reg = 4;
  word = cond lower (operand t 0) (operand t 2);
  held = cond lower 0 3;
  wanted = cond lower 2 5;
  load = 6;
  made = 7;
  change = 7;
  edition = 7;
  retire = 7;
}

-- the half that takes the node out, where it is in the lower bucket or in the higher one
abbrev pub taking_half : Bool → Thunk → Half
taking_half lower t = record (look_half t) {
  kind = Remove;
  lock = cond lower t.lock (higher_lock t);
  target = low_half t 4;
  edition_reg = cond lower 0 1;
  target_reg = 2;
  node_reg = 4;
  word = cond lower (operand t 0) (operand t 2);
  gone = high_half t 4;
  next = low_half t 5;
  held = cond lower 0 4;
  wanted = cond lower 2 6;
  load = 7;
  made = 13;
  change = 13;
  edition = cond lower 15 16;
  retire = 17;
}

-- and the one that puts the new node in, which is in the other bucket
abbrev pub putting_half : Bool → Thunk → Half
putting_half lower t = record (look_half t) {
  kind = Insert;
  side = Other;
  lock = cond lower (higher_lock t) t.lock;
  target = cond lower (higher_lock t) t.lock + 2;
  edition_reg = cond lower 1 0;
  target_reg = 3;
  node_reg = 4;
  word = cond lower (operand t 2) (operand t 0);
  key = low_half t 6;
  value = high_half t 6;
  next = high_half t 5;
  held = cond lower 4 0;
  wanted = cond lower 6 2;
  load = 9;
  made = 11;
  change = 14;
  edition = cond lower 16 15;
  retire = 14;
}

-- what a thunk's section does: it reads alone, puts a node in, takes one out, sets a value, reads alone in two buckets,
-- moves a node from one bucket to another, puts a node in the place of another one, or has no body
pub data Form : Type 0 where
  Reads : Form
  Inserts : Form
  Removes : Form
  Sets : Form
  ReadsTwo : Form
  Moves : Form
  Renames : Form
  Empty : Form

-- those of an operation over one key
abbrev pub one_form : Thunk → Form
one_form t =
    cond (t.form == 4) (cond (fits_set t) Sets Empty)
    (cond (t.form == 1) (cond (fits_read t) Reads Empty)
    (cond (t.form == 2) (cond (fits_insert t) Inserts Empty)
    (cond (t.form == 3) (cond (fits_remove t) Removes Empty)
    Empty)))

-- where the table moves keys, too, also those of an operation over two
unfoldable pub form_of : Bool → Thunk → Form
form_of two t =
    cond (two && (t.form == 21)) (cond (fits_look_two t) ReadsTwo Empty)
    (cond (two && (t.form == 22)) (cond (fits_move t) Moves Empty)
    (cond (two && (t.form == 23)) (cond (fits_rename t) Renames Empty)
    (one_form t)))

-- the body
abbrev pub steps_of : Form → Thunk → List Step
steps_of Reads t = read_steps t
steps_of Inserts t = insert_steps t
steps_of Removes t = remove_steps t
steps_of Sets t = set_steps t
steps_of ReadsTwo t = look_two_steps t
steps_of Moves t = move_steps t
steps_of Renames t = rename_steps t
steps_of Empty t = []

abbrev pub steps : Bool → Thunk → List Step
steps two t = cond two (two_steps t) (table_steps t)

-- and its halves
abbrev pub halves_of : Form → Thunk → List Half
halves_of Reads t = look_half t ∷ []
halves_of Inserts t = insert_half t ∷ []
halves_of Removes t = remove_half t ∷ []
halves_of Sets t = set_half t ∷ []
halves_of ReadsTwo t = look_two_half true t ∷ look_two_half false t ∷ []
halves_of Moves t = taking_half (takes_lower t) t ∷ putting_half (takes_lower t) t ∷ []
halves_of Renames t = rename_half t ∷ []
halves_of Empty t = []

module _ (two : Bool) where
  -- this is a half of the section's body
  abbrev pub HasHalf : Section → Half → Type 0
  HasHalf x h = Contains (halves_of (form_of two x.thunk) x.thunk) h

  -- the section has changed the chain of bucket i, or a value in it, and not yet its edition
  abbrev pub IsPending : Section → ℕ → Type 0
  IsPending x i = (h : Half) × HasHalf x h × (h.lock ≡ bucket_lock i) × (h.change < x.at) × (x.at ≤ h.edition)

-- its half has made a node and not linked it yet
abbrev pub IsMaking : Section → Half → Type 0
IsMaking x h = (h.made < x.at) × (x.at ≤ h.change)

-- its half has taken a node out and not retired it yet
abbrev pub IsTaking : Section → Half → Type 0
IsTaking x h = (h.change < x.at) × (x.at ≤ h.retire)

-- the section's half holds this slot: its new node, or the node that it has taken out
abbrev pub OwnsBy : Section → Half → ℕ → Type 0
OwnsBy x h t = (IsMaking x h × (x.reg h.node_reg ≡ suc t)) ⊎ (IsTaking x h × (h.gone ≡ t))

module _ (two : Bool) where
  abbrev pub Owns : Section → ℕ → Type 0
  Owns x t = (h : Half) × HasHalf two x h × OwnsBy x h t
