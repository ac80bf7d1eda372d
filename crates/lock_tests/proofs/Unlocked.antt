-- Where no lock within the table is held, none is.
use Rattle.std.specs.Prelude.{◌==◌, ◌&&◌, not, cond, nat_lt, slice_index}
use Rattle.std.proofs.Common.{◌≡◌, ℕ, ◌+◌, ◌<◌, ◌≤◌, Bool, true, false, refl, sym, ap, subst, arith}
use Rattle.std.proofs.lemmas.Bool.Decides.{nat_tests}
use Rattle.machine_states.specs.body_terms.specs.Word.{value_of}
use Rattle.machine_states.specs.table_words.specs.Places.{address}
use Rattle.machine_states.specs.table_words.specs.declared.spot.Spot.TheVariants.{Cell}
use Rattle.machine_states.specs.table_words.specs.Seen.{blank}
use Rattle.machine_states.specs.structure_laws.specs.Meaning.{Meaning}
use Rattle.machine_states.specs.runner_steps.specs.Asks.{sizes_for}
use Rattle.settled_tables.specs.closed_words.specs.version_words.specs.TableState.{WordsState, word_of}
use Rattle.settled_tables.specs.closed_words.specs.Histories.{HoldsNoLock}
use Rattle.lock_tests.specs.Closing.{cells_of, AreFreeBelow}

module _ {T : Type 0} (m : Meaning) (w : WordsState T) where
  beyond : (p : ℕ) → cells_of m w ≤ p → value_of (word_of m w (Cell p)) ≡ 0
  beyond p high = ap (λ b. value_of (cond b (slice_index w.words (address (sizes_for m w.layout w.requests) (Cell p))) (blank (Cell p)))) (far p (cells_of m w) high)
    where
      far : (a b : ℕ) → b ≤ a → nat_lt a b ≡ false
      far a b le = grind (arith, nat_tests, le)

  pub holds_none : AreFreeBelow m w (cells_of m w) → HoldsNoLock m w
  holds_none free p lock = by (nat_lt p (cells_of m w)) refl
    where
      within : nat_lt p (cells_of m w) ≡ true → p < cells_of m w
      within e = grind (arith, nat_tests, e)

      outside : nat_lt p (cells_of m w) ≡ false → cells_of m w ≤ p
      outside e = grind (arith, nat_tests, e)

      by : (b : Bool) → nat_lt p (cells_of m w) ≡ b → value_of (word_of m w (Cell p)) ≡ 0
      by true e = free p (within e) lock
      by false e = beyond p (outside e)

  -- one place more
  pub free_more : (place : ℕ) → AreFreeBelow m w place → (m.is_lock place && not (value_of (word_of m w (Cell place)) == 0)) ≡ false → AreFreeBelow m w (place + 1)
  free_more place free none p low lock = by (p == place) refl
    where
      not_held : (lock : Bool) (value : ℕ) → lock ≡ true → (lock && not (value == 0)) ≡ false → value ≡ 0
      not_held true value is e = grind (arith, nat_tests, e)
      not_held false value is e = absurd (let z = is in cc)

      by : (b : Bool) → (p == place) ≡ b → value_of (word_of m w (Cell p)) ≡ 0
      by true e = let same : p ≡ place = grind (arith, nat_tests, e) in
          not_held (m.is_lock p) (value_of (word_of m w (Cell p))) lock (subst (λ q. (m.is_lock q && not (value_of (word_of m w (Cell q)) == 0)) ≡ false) (sym same) none)
      by false e = free p (let ne : ¬ (p ≡ place) = λ same. grind (arith, nat_tests, e, same) in omega (arith, low, ne)) lock
