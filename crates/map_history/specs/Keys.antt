-- The keys on which an operation depends, the value that it gives, and the first format of texts that has it.
use Rattle.std.specs.Prelude.{◌≡◌, ◌<◌, ◌^◌, ℕ, ◌⊎◌, ◌==◌, Bool, true, false, Option, None, Some}
use Rattle.map_history.specs.declared.op.Op.{Op}
use Rattle.map_history.specs.declared.op.Op.TheVariants.{Get, Ins, Del, Put, Mov}

abbrev pub key_of : Op → ℕ
key_of (Get key) = key
key_of (Ins key value) = key
key_of (Del key) = key
key_of (Put key value) = key
key_of (Mov from to) = from

-- a second key
abbrev pub other_key_of : Op → Option ℕ
other_key_of (Get key) = None
other_key_of (Ins key value) = None
other_key_of (Del key) = None
other_key_of (Put key value) = None
other_key_of (Mov from to) = Some to

-- the operation depends on this key
abbrev pub DependsOn : Op → ℕ → Type 0
DependsOn op key = (key_of op ≡ key) ⊎ (other_key_of op ≡ Some key)

-- it depends on no second key
abbrev pub IsOneKeyed : Op → Type 0
IsOneKeyed op = other_key_of op ≡ None

-- the value that the operation gives to a key
abbrev pub value_given : Op → Option ℕ
value_given (Get key) = None
value_given (Ins key value) = Some value
value_given (Del key) = None
value_given (Put key value) = Some value
value_given (Mov from to) = None

-- it has 32 bits
abbrev pub GivesSmall : Op → Type 0
GivesSmall op = (value : ℕ) → value_given op ≡ Some value → value < 2 ^ 32

-- the least format of a text in which it can be asked
abbrev pub least_format : Op → ℕ
least_format (Get key) = 1
least_format (Ins key value) = 1
least_format (Del key) = 1
least_format (Put key value) = 2
least_format (Mov from to) = 3

-- whether it can be asked in a text of format 1: it is get, ins or del
abbrev pub is_format_1 : Op → Bool
is_format_1 op = least_format op == 1

-- whether the operation may add a pair, or put a new one in the place of another
abbrev pub may_add : Op → Bool
may_add (Get key) = false
may_add (Ins key value) = true
may_add (Del key) = false
may_add (Put key value) = true
may_add (Mov from to) = true

abbrev pub HaveNoCommonKey : Op → Op → Type 0
HaveNoCommonKey a b = (key : ℕ) → DependsOn a key → DependsOn b key → ⊥
