-- Registers of a body that has the shape.
use Rattle.std.proofs.Common.{◌≡◌, ◌≢◌, ℕ, zero, suc, ◌*◌, ◌<◌, ◌≤◌, List, [], ◌∷◌, length, take, refl, sym, ap, ◌∙◌, subst, arith, ⊎_elim}
use Rattle.std.specs.Prelude.{Contains}
use Rattle.std.proofs.lemmas.Bool.{cases_eq}
use Rattle.std.proofs.lemmas.Bool.Decides.{nat_tests}
use Rattle.body_terms.specs.Update.{upd}
use Rattle.body_terms.specs.Line.{Registers, no_registers, registers_after, registers_before, log_words}
use Rattle.body_terms.specs.Shape.{IsStep, SetBefore, IsShaped, set_registers}
use Rattle.body_terms.specs.Act.{IsLogged}
use Rattle.body_terms.specs.declared.value.Init.{Init}
use Rattle.body_terms.specs.declared.value.Value.{Value}
use Rattle.body_terms.specs.declared.value.Value.TheVariants.{Const, Of, Made}
use Rattle.body_terms.specs.declared.step.Step.{Step}
use Rattle.body_terms.specs.declared.step.Step.TheVariants.{Load, Want, Fresh, Take, Make, Stamp, Store, Retire, Answer}
use Rattle.body_terms.proofs.LineLemmas.{registers_before_next, count_after, count_through_le}

upd_other : (f : ℕ → ℕ) (k v i : ℕ) → i ≢ k → upd f k v i ≡ f i
upd_other f k v i ne = grind (arith, nat_tests)

upd_same : (f : ℕ → ℕ) (k v : ℕ) → upd f k v k ≡ v
upd_same f k v = grind (arith, nat_tests)

-- a register that a step doesn't set is kept
register_kept : (g : Registers) (step : Step) (reg : ℕ) → (Contains (set_registers step) reg → ⊥) → ((registers_after g step).place reg ≡ g.place reg) × ((registers_after g step).log reg ≡ g.log reg)
register_kept g (Load place into) reg kept = let ne : reg ≢ into = λ e. kept (0, omega arith, sym e) in (upd_other g.place into place reg ne, upd_other g.log into g.count reg ne)
register_kept g (Want r word) reg kept = (refl, refl)
register_kept g (Fresh r) reg kept = (refl, refl)
register_kept g (Take place word) reg kept = (refl, refl)
register_kept g (Make init into) reg kept = let ne : reg ≢ into = λ e. kept (0, omega arith, sym e) in (refl, upd_other g.log into g.count reg ne)
register_kept g Stamp reg kept = (refl, refl)
register_kept g (Store r value) reg kept = (refl, refl)
register_kept g (Retire slot) reg kept = (refl, refl)
register_kept g (Answer reply) reg kept = (refl, refl)

-- there is a step at each place of a body
pub step_at : (body : List Step) (n : ℕ) → n < length body → (step : Step) × IsStep body n step
step_at [] n within = absurd (omega arith)
step_at (step ∷ steps) zero within = (step, refl)
step_at (step ∷ steps) (suc n) within = step_at steps n (omega arith)

-- the words committed never fall
pub count_rises : (body : List Step) (i n : ℕ) → i ≤ n → n ≤ length body → (registers_before body i).count ≤ (registers_before body n).count
count_rises body i n low high = ⊎_elim
    (λ same. subst (λ k. (registers_before body i).count ≤ (registers_before body k).count) same (omega arith))
    (λ ne. more n low high ne)
    (cases_eq i n)
  where
    more : (n : ℕ) → i ≤ n → n ≤ length body → (i ≡ n → ⊥) → (registers_before body i).count ≤ (registers_before body n).count
    more zero low high ne = absurd (ne (omega arith))
    more (suc m) low high ne =
        let here = step_at body m (omega arith) in
        let next = ap (λ (g : Registers). g.count) (registers_before_next body m here.0 here.1) ∙ count_after (registers_before body m) here.0 in
        ⊎_elim
        (λ same. let eq = ap (λ k. (registers_before body k).count) same in omega arith)
        (λ other. let below = more m (omega arith) (omega arith) other in omega arith)
        (cases_eq i m)

-- at most two words for each step
pub count_le : (body : List Step) (n : ℕ) → n ≤ length body → (registers_before body n).count ≤ 2 * n
count_le body n within = let few = count_through_le no_registers (take n body) in let long = length-take body n within in omega arith
  where
    length-take : (body : List Step) (n : ℕ) → n ≤ length body → length (take n body) ≡ n
    length-take body zero within = nothing body
      where
        nothing : (body : List Step) → length (take 0 body) ≡ 0
        nothing [] = refl
        nothing (step ∷ steps) = refl
    length-take [] (suc n) within = absurd (omega arith)
    length-take (step ∷ steps) (suc n) within = ap suc (length-take steps n (omega arith))

module _ (body : List Step) (shaped : IsShaped body) where
  -- what a step made of the register that it sets stays, until the end
  module _ (b reg : ℕ) (setter : Step) (here : IsStep body b setter) (sets : Contains (set_registers setter) reg) where
    set_stays : (n : ℕ) → b < n → n ≤ length body → ((registers_before body n).place reg ≡ (registers_after (registers_before body b) setter).place reg) × ((registers_before body n).log reg ≡ (registers_after (registers_before body b) setter).log reg)
    set_stays zero low high = absurd (omega arith)
    set_stays (suc m) low high = ⊎_elim
        (λ same. subst (λ k. ((registers_before body (suc k)).place reg ≡ (registers_after (registers_before body b) setter).place reg) × ((registers_before body (suc k)).log reg ≡ (registers_after (registers_before body b) setter).log reg)) same
        (ap (λ (g : Registers). g.place reg) (registers_before_next body b setter here), ap (λ (g : Registers). g.log reg) (registers_before_next body b setter here)))
        (λ other.
        let below : b < m = omega arith in
        let at = step_at body m (omega arith) in
        let next = registers_before_next body m at.0 at.1 in
        let kept = register_kept (registers_before body m) at.0 reg (shaped.set_once b m reg setter at.0 below here at.1 sets) in
        let before = set_stays m below (omega arith) in
        (ap (λ (g : Registers). g.place reg) next ∙ (kept.0 ∙ before.0), ap (λ (g : Registers). g.log reg) next ∙ (kept.1 ∙ before.1)))
        (cases_eq b m)

  -- a register keeps the place from which it was loaded, and the place of its word
  pub loaded_register : (b place reg n : ℕ) → IsStep body b (Load place reg) → b < n → n ≤ length body → ((registers_before body n).place reg ≡ place) × ((registers_before body n).log reg ≡ (registers_before body b).count)
  loaded_register b place reg n here low high =
      let stays = set_stays b reg (Load place reg) here (0, omega arith, refl) n low high in
      (stays.0 ∙ upd_same (registers_before body b).place reg place, stays.1 ∙ upd_same (registers_before body b).log reg (registers_before body b).count)

  made_register : (b reg n : ℕ) (init : Init) → IsStep body b (Make init reg) → b < n → n ≤ length body → (registers_before body n).log reg ≡ (registers_before body b).count
  made_register b reg n init here low high =
      let stays = set_stays b reg (Make init reg) here (0, omega arith, refl) n low high in
      stays.1 ∙ upd_same (registers_before body b).log reg (registers_before body b).count

  -- a step that commits a word has it in the log of the later ones
  pub committed_below : (b n : ℕ) (step : Step) → IsStep body b step → 1 ≤ log_words step → b < n → n ≤ length body → (registers_before body b).count < (registers_before body n).count
  committed_below b n step here one low high =
      let next = ap (λ (g : Registers). g.count) (registers_before_next body b step here) ∙ count_after (registers_before body b) step in
      let rises = count_rises body (suc b) n (omega arith) high in
      omega arith

  -- a register that was set has its word in the log
  pub logged : (n : ℕ) (value : Value) → n ≤ length body → SetBefore body n value → IsLogged (registers_before body n) (registers_before body n).count value
  logged n (Const number) high before = tt
  logged n (Of reg) high before =
      let is = (loaded_register before.by before.place reg n before.loads before.earlier high).1 in
      let below = committed_below before.by n (Load before.place reg) before.loads (omega arith) before.earlier high in
      omega arith
  logged n (Made reg) high before =
      let is = made_register before.by reg n before.init before.makes before.earlier high in
      let below = committed_below before.by n (Make before.init reg) before.makes (omega arith) before.earlier high in
      omega arith
