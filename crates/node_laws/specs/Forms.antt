-- The thunk for a whole walk, by the operation and by whether the walk found its key: its form, its reply, its
-- operands.
use Rattle.std.specs.Prelude.{ℕ, ◌+◌, ◌*◌, ◌^◌, Bool, true, false, List}
use Rattle.structure_laws.specs.map_history.specs.declared.op.Op.{Op}
use Rattle.structure_laws.specs.map_history.specs.declared.op.Op.TheVariants.{Get, Ins, Del, Put, Mov}

-- its form, of four that begin with this one; 0 where the structure doesn't serve the operation
abbrev pub form_from : ℕ → Op → Bool → ℕ
form_from first (Get key) found = first
form_from first (Ins key value) true = first
form_from first (Ins key value) false = first + 1
form_from first (Del key) true = first + 2
form_from first (Del key) false = first
form_from first (Put key value) true = first + 3
form_from first (Put key value) false = first + 1
form_from first (Mov from to) found = 0

-- the reply word of an operation that neither adds nor removes a pair, where the key has this value
abbrev pub reply_from : Op → ℕ → Bool → ℕ
reply_from (Get key) old true = 3 * 2 ^ 32 + old
reply_from (Get key) old false = 5 * 2 ^ 32
reply_from (Ins key value) old found = 2 * 2 ^ 32
reply_from (Del key) old found = 5 * 2 ^ 32
reply_from (Put key value) old found = 6 * 2 ^ 32 + old
reply_from (Mov from to) old found = 5 * 2 ^ 32

-- its operands, by those of the four forms
module _ (look : ℕ → List ℕ) (insert : ℕ → ℕ → List ℕ) (remove : List ℕ) (replace : ℕ → ℕ → ℕ → List ℕ) where
  abbrev pub operands_from : Op → ℕ → Bool → List ℕ
  operands_from (Get key) old found = look (reply_from (Get key) old found)
  operands_from (Ins key value) old true = look (reply_from (Ins key value) old true)
  operands_from (Ins key value) old false = insert key value
  operands_from (Del key) old true = remove
  operands_from (Del key) old false = look (reply_from (Del key) old false)
  operands_from (Put key value) old true = replace key value (reply_from (Put key value) old true)
  operands_from (Put key value) old false = insert key value
  operands_from (Mov from to) old found = look (reply_from (Mov from to) old found)
