-- A key's value in two words: a flag that is 1 where the key has one, and the value. Any other flag says that it has
-- none.
use Rattle.std.specs.Prelude.{ℕ, ◌==◌, cond, Option, None, Some}
use Rattle.structure_laws.specs.body_terms.specs.Word.{value_of}

-- what a key has, by the words of its flag and of its value
abbrev pub held : ℕ → ℕ → Option ℕ
held flag value = cond (value_of flag == 1) (Some (value_of value)) None

-- the flag and the value of a key that has this
abbrev pub flag_for : Option ℕ → ℕ
flag_for None = 0
flag_for (Some value) = 1

abbrev pub value_for : Option ℕ → ℕ
value_for None = 0
value_for (Some value) = value
