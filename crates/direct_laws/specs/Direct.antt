-- The direct table: a map of keys below a bound, where each key has a lock, a flag and a value of its own.
use Rattle.std.specs.Prelude.{ℕ, ◌+◌, ◌*◌, ◌-◌, ◌%◌, ◌==◌, ◌&&◌, Bool, cond, nat_lt}
use Rattle.structure_laws.specs.map_history.specs.declared.op.Op.{Op}
use Rattle.structure_laws.specs.map_history.specs.Keys.{key_of}
use Rattle.structure_laws.specs.Meaning.{Meaning}
use Rattle.key_cells.specs.shared_laws.specs.Flagged.{held, flag_for, value_for}
use Rattle.key_cells.specs.Keyed.{Keyed, has_one_key, keyed}

-- from its first place on, the lock of a key, and its cells: the flag is its cell 0, and the value its cell 1
abbrev pub lock_of : ℕ → ℕ
lock_of key = 3 * key

abbrev pub cell_of : ℕ → ℕ → ℕ
cell_of key i = 3 * key + (1 + i)

abbrev pub direct_cells : ℕ → ℕ → Keyed
direct_cells first bound = record {
  keys = bound;
  base = first;
  fixed = 3 * bound;
  lock_of = lock_of;
  count = 2;
  cell = cell_of;
  is_lock = λ place. nat_lt place (3 * bound) && (place % 3 == 0);
  guard = λ place. place - place % 3;
  held = λ words. held (words 0) (words 1);
  value = λ has i. cond (i == 0) (flag_for has) (value_for has);
}

abbrev pub direct : ℕ → ℕ → Meaning
direct base keys = keyed (direct_cells base keys)

-- the operation has one key, below the bound
abbrev pub serves : ℕ → Op → Bool
serves keys op = has_one_key op && nat_lt (key_of op) keys
