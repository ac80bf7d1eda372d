-- Words of cells: a value in the low half, a version in the high half.
use Rattle.std.specs.Prelude.{ℕ, ◌+◌, ◌*◌, ◌/◌, ◌%◌, ◌^◌, ◌==◌, ◌&&◌, Bool, nat_lt}

-- the value of a word
abbrev pub value_of : ℕ → ℕ
value_of word = word % 2 ^ 32

-- the version of a word
abbrev pub version_of : ℕ → ℕ
version_of word = word / 2 ^ 32

-- the word with this value and this version
abbrev pub pack : ℕ → ℕ → ℕ
pack value version = 2 ^ 32 * version + value

-- the word that follows `old` in its cell, with this value
abbrev pub next_word : ℕ → ℕ → ℕ
next_word old value = pack value (version_of old + 1)

-- the word of a lock that was free with the word `free`, once a descriptor's section holds it
abbrev pub held_word : ℕ → ℕ → ℕ
held_word descriptor free = next_word free (descriptor + 1)

-- no descriptor holds a lock with this word
abbrev pub is_free : ℕ → Bool
is_free word = value_of word == 0

-- a free lock word that can't be taken and released once more within the greatest version
abbrev pub is_spent : ℕ → ℕ → Bool
is_spent version_max word = is_free word && nat_lt version_max (version_of word + 2)
