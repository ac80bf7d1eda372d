-- What readings reach, and the states of a slot.
use Rattle.std.proofs.Common.{◌≡◌, ◌≢◌, ℕ, suc, Bool, true, false, refl}
use Rattle.std.specs.Prelude.{◌==◌, ◌&&◌, ◌||◌, Some, [], ◌∷◌, slice_get}
use Rattle.std.specs.List.{list_any}
use Rattle.structure_laws.specs.table_words.specs.small_lemmas.proofs.Bools.{both_of as both_true}
use Rattle.structure_laws.specs.table_words.specs.small_lemmas.proofs.Numbers.{tested_equal as equal_of}
use Rattle.structure_laws.specs.body_terms.specs.Word.{value_of}
use Rattle.structure_laws.specs.Scene.{Readings, Status, Free, Live, Retired}

or_cases : {A : Type 0} → (a b : Bool) → (a || b) ≡ true → (a ≡ true → A) → (b ≡ true → A) → A
or_cases true b h f g = f refl
or_cases false b h f g = g h

pub live_free : (x : Status) → x ≡ Live → x ≢ Free
live_free x live free = cc

pub retired_free : (x : Status) (y : ℕ) → x ≡ Retired y → x ≢ Free
retired_free x y retired free = cc

pub live_retired : (x : Status) (y : ℕ) → x ≡ Live → x ≡ Retired y → ⊥
live_retired x y live retired = cc

-- what readings reach, they reach by a word of a link
pub reached : (is_link : ℕ → Bool) (readings : Readings) (t : ℕ) → list_any (λ reading. is_link reading.0 && (value_of reading.1 == suc t)) readings ≡ true
    → (i p w : ℕ) × (slice_get readings i ≡ Some (p, w)) × (is_link p ≡ true) × (value_of w ≡ suc t)
reached is_link [] t h = absurd (cc)
reached is_link (reading ∷ readings) t h = or_cases (is_link reading.0 && (value_of reading.1 == suc t)) (list_any (λ reading. is_link reading.0 && (value_of reading.1 == suc t)) readings) h
    (λ a. let both = both_true _ _ a in (0, reading.0, reading.1, refl, both.0, equal_of _ _ both.1))
    (λ b. let later = reached is_link readings t b in (suc later.0, later.1, later.2, later.3, later.4, later.5))
