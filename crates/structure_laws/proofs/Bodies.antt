-- What the shape of a body says of the steps before and after a place.
use Rattle.std.proofs.Common.{◌≡◌, ◌≢◌, ℕ, ◌<◌, ◌≤◌, false, refl, sym, ap, ◌∙◌, subst, ⊎_elim, arith}
use Rattle.std.proofs.lemmas.List.Elements.{All-head, Contains-push}
use Rattle.std.specs.Prelude.{◌⊎◌, List, [], ◌∷◌, slice_get, All, Contains}
use Rattle.body_terms.specs.block_words.specs.table_words.specs.small_lemmas.proofs.Lists.{some_same as some_inj}
use Rattle.body_terms.specs.declared.value.Value.{Value}
use Rattle.body_terms.specs.declared.value.Value.TheVariants.{Of}
use Rattle.body_terms.specs.declared.step.Step.{Step}
use Rattle.body_terms.specs.declared.step.Step.TheVariants.{Load, Want, Fresh, Take, Make, Stamp, Store, Retire, Answer}
use Rattle.body_terms.specs.Shape.{IsShaped, IsStep, SetBefore, LoadedBefore, phase, set_registers, used_values}
use Rattle.structure_laws.specs.Sections.{is_exit}

-- two different steps stand at different places
pub apart_steps : (body : List Step) (i j : ℕ) (a b : Step) → IsStep body i a → IsStep body j b → a ≢ b → i ≢ j
apart_steps body i j a b h h' ne e = ne (some_inj (sym h ∙ ap (slice_get body) e ∙ h'))

-- the two steps at one place are one
pub same_step : (body : List Step) (i j : ℕ) (a b : Step) → IsStep body i a → IsStep body j b → i ≡ j → a ≡ b
same_step body i j a b h h' e = some_inj (sym h ∙ ap (slice_get body) e ∙ h')

module _ (body : List Step) (shaped : IsShaped body) where
  -- no Store stands before a step of an earlier phase
  pub no_store_before : (i j r : ℕ) (v : Value) (b : Step) → IsStep body i (Store r v) → IsStep body j b → phase b ≤ 3 → i < j → ⊥
  no_store_before i j r v b store h low lt = let order = shaped.phases i j (Store r v) b lt store h in omega arith

  -- behind a step of a later phase no run can leave
  pub no_exit_after : (i j : ℕ) (a b : Step) → IsStep body i a → IsStep body j b → 2 ≤ phase a → i ≤ j → is_exit b ≡ false
  no_exit_after i j a b h h' low le = exit_phase b (⊎_elim
      (λ lt. let order = shaped.phases i j a b lt h h' in omega arith)
      (λ e. let same = ap phase (same_step body i j a b h h' e) in omega arith) (split i j le))
    where
      split : (i j : ℕ) → i ≤ j → (i < j) ⊎ (i ≡ j)
      split i j le = search arith

      exit_phase : (b : Step) → 2 ≤ phase b → is_exit b ≡ false
      exit_phase (Load place into) low = absurd (omega arith)
      exit_phase (Want reg word) low = absurd (omega arith)
      exit_phase (Fresh reg) low = absurd (omega arith)
      exit_phase (Take place word) low = absurd (omega arith)
      exit_phase (Make init into) low = refl
      exit_phase Stamp low = refl
      exit_phase (Store reg value) low = refl
      exit_phase (Retire slot) low = refl
      exit_phase (Answer reply) low = refl

  -- a register that is used as a loaded word was loaded before
  pub loaded_before : (i r : ℕ) (step : Step) (rest : List Value) → IsStep body i step → used_values step ≡ Of r ∷ rest → LoadedBefore body i r
  loaded_before i r step rest h uses = All-head (SetBefore body i) (Of r) rest (subst (λ values. All (SetBefore body i) values) uses (shaped.used i step h))

  -- a register that a step sets was not set by an earlier Load
  pub fresh_register : (i j p q r : ℕ) (b : Step) → IsStep body i (Load p q) → IsStep body j b → i < j → set_registers b ≡ r ∷ [] → q ≢ r
  fresh_register i j p q r b load h lt sets e = shaped.set_once i j r (Load p q) b lt load h (subst (λ q. Contains (q ∷ []) r) (sym e) (Contains-push [] r)) (subst (λ rs. Contains rs r) (sym sets) (Contains-push [] r))

  -- a register is loaded once
  pub one_load : (i j p q r : ℕ) → IsStep body i (Load p r) → IsStep body j (Load q r) → i ≡ j
  one_load i j p q r h h' = ⊎_elim (λ lt. absurd (fresh_register i j p r r (Load q r) h h' lt refl refl))
      (⊎_elim (λ e. e) (λ lt. absurd (fresh_register j i q r r (Load p r) h' h lt refl refl))) (order i j)
    where
      order : (i j : ℕ) → (i < j) ⊎ (i ≡ j) ⊎ (j < i)
      order i j = search arith

  -- the Load of a Store's register stands before the Store
  pub load_before : (i j p r : ℕ) (v : Value) → IsStep body i (Store r v) → IsStep body j (Load p r) → j < i
  load_before i j p r v store load =
      let by = loaded_before i r (Store r v) (v ∷ []) store refl in
      let same = one_load j by.by p by.place r load by.loads in
      let earlier = by.earlier in
      omega arith
