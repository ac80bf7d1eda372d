-- What a walk does with more readings, and what it keeps.
use Rattle.std.proofs.Common.{◌≡◌, ℕ, suc, ◌<◌, ◌≤◌, Bool, true, false, cond, refl, sym, ap, subst, ◌∙◌, inl, inr, ⊎_elim, arith}
use Rattle.std.specs.Prelude.{◌⊎◌, Option, Some, None, [], ◌∷◌, ◌++◌, length, take, slice_get}
use Rattle.structure_laws.specs.Scene.{Cells, Readings}
use Rattle.bucket_laws.specs.Walk.{is_wanted}
use Rattle.bucket_laws.proofs.Walks.{wanted_eq}
use Rattle.shared_laws.proofs.Numbers.{bool_cases, eq_true, get_more}
use Rattle.node_laws.specs.Walked.{walked}

module _ (W : Type 0) (wanted : W → Option ℕ) (fed : W → ℕ → W) where
  abbrev goes : W → Readings → W
  goes = walked W wanted fed

  -- of two walks, of which one goes on and the other stops
  either : (one more stopped : W) (c : Bool) → (wanted one ≡ None → more ≡ one) → wanted (cond c one stopped) ≡ None
      → cond c more stopped ≡ cond c one stopped
  either one more stopped true h e = h e
  either one more stopped false h e = refl

  -- a walk at its end wants nothing more
  at_its_end : (w : W) (more : Readings) → wanted w ≡ None → goes w more ≡ w
  unfolding walked
  at_its_end w [] e = refl
  at_its_end w (reading ∷ more) e = ap (λ o. cond (is_wanted o reading.0) (goes (fed w reading.1) more) w) e

  pub walk_on : (w : W) (readings more : Readings) → wanted (goes w readings) ≡ None
      → goes w (readings ++ more) ≡ goes w readings
  unfolding walked
  walk_on w [] more e = at_its_end w more e
  walk_on w (reading ∷ readings) more e = either _ _ w (is_wanted (wanted w) reading.0)
      (walk_on (fed w reading.1) readings more) e

  -- one more reading: the walk stays as it was, or goes on by it
  abbrev pub GoesOn : ℕ → ℕ → W → W → Type 0
  GoesOn p n w after = (after ≡ w) ⊎ ((wanted w ≡ Some p) × (after ≡ fed w n))

  pub walk_push : (p n : ℕ) (w : W) (readings : Readings)
      → GoesOn p n (goes w readings) (goes w (readings ++ (p, n) ∷ []))
  unfolding walked
  walk_push p n w [] = bool_cases (is_wanted (wanted w) p)
      (λ e. inr (wanted_eq _ p e, ap (λ c. cond c (fed w n) w) e))
      (λ e. inl (ap (λ c. cond c (fed w n) w) e))
  walk_push p n w (reading ∷ readings) = go (is_wanted (wanted w) reading.0) (walk_push p n (fed w reading.1) readings)
    where
      go : (c : Bool) → GoesOn p n (goes (fed w reading.1) readings) (goes (fed w reading.1) (readings ++ (p, n) ∷ []))
          → GoesOn p n (cond c (goes (fed w reading.1) readings) w)
          (cond c (goes (fed w reading.1) (readings ++ (p, n) ∷ [])) w)
      go true h = h
      go false h = inl refl

  -- what each load keeps that a walk makes of these readings, the walk keeps
  pub walk_keeps : (P : W → Type 0) (Q : ℕ × ℕ → Type 0)
      → ((w : W) (reading : ℕ × ℕ) → wanted w ≡ Some reading.0 → Q reading → P w → P (fed w reading.1))
      → (w : W) (readings : Readings) → ((i : ℕ) (reading : ℕ × ℕ) → slice_get readings i ≡ Some reading → Q reading)
      → P w → P (goes w readings)
  unfolding walked
  walk_keeps P Q step w [] each at = at
  walk_keeps P Q step w (reading ∷ readings) each at = go (is_wanted (wanted w) reading.0) refl
      (walk_keeps P Q step (fed w reading.1) readings (λ i other h. each (suc i) other h))
    where
      go : (c : Bool) → is_wanted (wanted w) reading.0 ≡ c → (P (fed w reading.1) → P (goes (fed w reading.1) readings))
          → P (cond c (goes (fed w reading.1) readings) w)
      go true e again = again (step w reading (wanted_eq (wanted w) reading.0 e) (each 0 reading refl) at)
      go false e again = at

  -- readings each of which the walk wants are no more than it had left
  goes_on : (w : W) (place word : ℕ) (readings : Readings) → wanted w ≡ Some place
      → goes w ((place, word) ∷ readings) ≡ goes (fed w word) readings
  unfolding walked
  goes_on w place word readings wants = ap (λ c. cond c (goes (fed w word) readings) w)
      (ap (λ o. is_wanted o place) wants ∙ eq_true place place refl)

  pub few_left : (left : W → ℕ) → ((w : W) (place word : ℕ) → wanted w ≡ Some place → left (fed w word) < left w)
      → (w : W) (readings : Readings)
      → ((i place word : ℕ) → slice_get readings i ≡ Some (place, word)
      → wanted (goes w (take i readings)) ≡ Some place) → length readings ≤ left w
  unfolding walked
  few_left left nearer w [] walks = omega arith
  few_left left nearer w (reading ∷ readings) walks =
      let wants = walks 0 reading.0 reading.1 refl in
      let others = few_left left nearer (fed w reading.1) readings
      (λ i place word here. subst (λ v. wanted v ≡ Some place) (goes_on w reading.0 reading.1 (take i readings) wants)
      (walks (suc i) place word here)) in
      let near = nearer w reading.0 reading.1 wants in
      omega (arith, others, near)

-- with one more reading, of what stands in its cell: each is one of the old ones, or is of this place
pub by_place : {A : Type 0} (cells : Cells) (readings : Readings) (p i q v : ℕ)
    → slice_get (readings ++ (p, cells p) ∷ []) i ≡ Some (q, v)
    → (slice_get readings i ≡ Some (q, v) → A) → (p ≡ q → v ≡ cells q → A) → A
by_place cells readings p i q v h before now_read = ⊎_elim before (λ last. now_read (place last) (word last))
    (get_more readings (p, cells p) (q, v) i h)
  where
    place : ◌≡◌ {A = ℕ × ℕ} (p, cells p) (q, v) → p ≡ q
    place e = ap (λ reading. reading.0) e

    word : ◌≡◌ {A = ℕ × ℕ} (p, cells p) (q, v) → v ≡ cells q
    word e = sym (ap (λ reading. reading.1) e) ∙ ap cells (place e)
