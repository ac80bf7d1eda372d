-- The four forms of section that a map's structure of nodes has.
use Rattle.std.specs.Prelude.{ℕ, ◌+◌, Bool, ◌==◌, cond}

-- what a thunk's section does: it reads alone, puts a new node in, takes one out, puts a new one in the place of an old
-- one, or has no body
pub data Form : Type 0 where
  Look : Form
  Insert : Form
  Remove : Form
  Replace : Form
  Empty : Form

-- the form by its number, of which these four begin with the first, and by whether the thunk's numbers fit each
abbrev pub form_by : ℕ → ℕ → Bool → Bool → Bool → Bool → Form
form_by first number look insert remove replace =
    cond (number == first) (cond look Look Empty)
    (cond (number == first + 1) (cond insert Insert Empty)
    (cond (number == first + 2) (cond remove Remove Empty)
    (cond (number == first + 3) (cond replace Replace Empty)
    Empty)))
