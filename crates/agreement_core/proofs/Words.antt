-- Words of cells, and words that are written once.
use Rattle.std.proofs.Common.{◌≡◌, ℕ, suc, ◌^◌, ◌<◌, ◌≤◌, true, false, arith}
use Rattle.std.specs.Prelude.{◌⊎◌}
use Rattle.std.proofs.lemmas.Grind.{common_steps}
use Rattle.section_lines.specs.structure_laws.specs.body_terms.specs.Word.{value_of, version_of, next_word, held_word, is_free, is_spent}

pub version_next : (old v : ℕ) → v < 2 ^ 32 → version_of (next_word old v) ≡ suc (version_of old)
version_next old v small = grind (arith, common_steps)

pub value_next : (old v : ℕ) → v < 2 ^ 32 → value_of (next_word old v) ≡ v
value_next old v small = grind (arith, common_steps)

pub version_held : (d free : ℕ) → suc d < 2 ^ 32 → version_of (held_word d free) ≡ suc (version_of free)
version_held d free small = grind (arith, common_steps)

pub value_held : (d free : ℕ) → suc d < 2 ^ 32 → value_of (held_word d free) ≡ suc d
value_held d free small = grind (arith, common_steps)

pub value_small : (word : ℕ) → value_of word < 2 ^ 32
value_small word = grind (arith, common_steps)

pub free_value : (word : ℕ) → is_free word ≡ true → value_of word ≡ 0
free_value word free = grind arith

-- a number below a word's version is below that of the word that stands there later
past_later_by : (f : ℕ → ℕ) (v old new : ℕ) → v < f old → (new ≡ old) ⊎ (f old < f new) → v < f new
past_later_by f v old new before rise = grind arith

pub past_later : (v old new : ℕ) → v < version_of old → (new ≡ old) ⊎ (version_of old < version_of new) → v < version_of new
past_later v old new before rise = past_later_by version_of v old new before rise

-- the first version after one that was passed is still that of the same word
first_later_by : (f : ℕ → ℕ) (v old new : ℕ) → v < f old → (new ≡ old) ⊎ (f old < f new) → f new ≡ suc v → new ≡ old
first_later_by f v old new before rise is = grind arith

pub first_later : (v old new : ℕ) → v < version_of old → (new ≡ old) ⊎ (version_of old < version_of new) → version_of new ≡ suc v
    → new ≡ old
first_later v old new before rise is = first_later_by version_of v old new before rise is

-- a free word that isn't spent leaves room for two versions
pub unspent_room : (version_max word : ℕ) → is_free word ≡ true → is_spent version_max word ≡ false
    → suc (suc (version_of word)) ≤ version_max
unspent_room version_max word free unspent = grind arith
