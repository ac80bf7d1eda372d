-- Stored places, step by step.
use Rattle.std.proofs.Common.{◌≡◌, ℕ, zero, suc, ◌+◌, ◌<◌, ◌≤◌, List, [], ◌∷◌, ◌++◌, length, take, drop, refl, sym, ap, ◌∙◌, subst, arith, append_assoc, get_or, Some, slice_get, ◌⊎◌, inl, inr, ⊎_elim}
use Rattle.std.proofs.lemmas.Bool.{cases_eq}
use Rattle.std.proofs.lemmas.Bool.Decides.{nat_tests}
use Rattle.std.specs.Prelude.{Bool, true, false, ◌||◌, ◌==◌}
use Rattle.std.specs.List.{list_any}
use Rattle.block_words.specs.table_words.specs.small_lemmas.proofs.Bools.{or_true}
use Rattle.block_words.specs.table_words.specs.small_lemmas.proofs.Numbers.{self_tested as same_test}
use Rattle.body_terms.specs.Line.{Registers, no_registers, registers_after, registers_through, registers_before}
use Rattle.body_terms.specs.Fault.{places_of, stored_places}
use Rattle.body_terms.specs.declared.value.Value.{Value}
use Rattle.body_terms.specs.declared.step.Step.{Step}
use Rattle.body_terms.specs.declared.step.Step.TheVariants.{Load, Want, Fresh, Take, Make, Stamp, Store, Retire, Answer}
use Rattle.body_terms.proofs.LineLemmas.{take_next, read_step, split_at}
use Rattle.body_terms.proofs.RegisterLemmas.{step_at}

-- a test of one of two lists
pub list_any-append : {X : Type 0} (p : X → Bool) (xs ys : List X) → list_any p (xs ++ ys) ≡ (list_any p xs || list_any p ys)
list_any-append p [] ys = refl
list_any-append p (x ∷ xs) ys = ap (λ b. p x || b) (list_any-append p xs ys) ∙ or_assoc (p x) (list_any p xs) (list_any p ys)
  where
    or_assoc : (a b c : Bool) → (a || (b || c)) ≡ ((a || b) || c)
    or_assoc true b c = refl
    or_assoc false b c = refl

pub stored_places-append : (g : Registers) (front back : List Step) → stored_places g (front ++ back) ≡ stored_places g front ++ stored_places (registers_through g front) back
stored_places-append g [] back = refl
stored_places-append g (step ∷ front) back = ap (λ rest. places_of g step ++ rest) (stored_places-append (registers_after g step) front back) ∙ sym (append_assoc (places_of g step) _ _)

append_nil : (xs : List ℕ) → xs ++ [] ≡ xs
append_nil [] = refl
append_nil (x ∷ xs) = ap (λ rest. x ∷ rest) (append_nil xs)

-- the stored places of one more step
pub stored_next : (body : List Step) (n : ℕ) (step : Step) → slice_get body n ≡ Some step → stored_places no_registers (take (suc n) body) ≡ stored_places no_registers (take n body) ++ places_of (registers_before body n) step
stored_next body n step here =
    ap (stored_places no_registers) (take_next body n step here) ∙ (stored_places-append no_registers (take n body) (step ∷ []) ∙ ap (λ rest. stored_places no_registers (take n body) ++ rest) (append_nil _))

-- none of the steps so far and not this one: none so far
pub none_more : (body : List Step) (n place : ℕ) (step : Step) (b : Bool) → n < length body → step ≡ get_or body n step → list_any (λ stored. stored == place) (stored_places no_registers (take n body)) ≡ false → b ≡ list_any (λ stored. stored == place) (places_of (registers_before body n) step) → b ≡ false → list_any (λ stored. stored == place) (stored_places no_registers (take (n + 1) body)) ≡ false
none_more body n place step b within is before here none =
    (let more : n + 1 ≡ suc n = omega arith in ap (λ k. list_any (λ stored. stored == place) (stored_places no_registers (take k body))) more)
    ∙ (ap (list_any (λ stored. stored == place)) (stored_next body n step (read_step body n step within is))
    ∙ (list_any-append (λ stored. stored == place) (stored_places no_registers (take n body)) (places_of (registers_before body n) step)
    ∙ ap (λ a. a || list_any (λ stored. stored == place) (places_of (registers_before body n) step)) before ∙ (sym here ∙ none)))

-- this step does: one of all does
pub some_found : (body : List Step) (n place : ℕ) (step : Step) (b : Bool) → n < length body → step ≡ get_or body n step → b ≡ list_any (λ stored. stored == place) (places_of (registers_before body n) step) → b ≡ true → true ≡ list_any (λ stored. stored == place) (stored_places no_registers body)
some_found body n place step b within is here holds =
    let at = read_step body n step within is in
    let test : ℕ → Bool = λ stored. stored == place in
    let front = stored_places no_registers (take n body) in
    let rest = stored_places (registers_after (registers_before body n) step) (drop (suc n) body) in
    sym (ap (λ steps. list_any test (stored_places no_registers steps)) (split_at body n step at)
    ∙ (ap (list_any test) (stored_places-append no_registers (take n body) (step ∷ drop (suc n) body))
    ∙ (list_any-append test front (places_of (registers_before body n) step ++ rest)
    ∙ (ap (λ a. list_any test front || a) (list_any-append test (places_of (registers_before body n) step) rest)
    ∙ (ap (λ a. list_any test front || (a || list_any test rest)) (sym here ∙ holds) ∙ or_true (list_any test front))))))
  where
    or_true : (a : Bool) → (a || true) ≡ true
    or_true true = refl
    or_true false = refl

-- an earlier Store's place is among the stored ones
pub stored_in : (body : List Step) (i j a : ℕ) (v : Value) → slice_get body i ≡ Some (Store a v) → i < j → j ≤ length body → list_any (λ stored. stored == (registers_before body i).place a) (stored_places no_registers (take j body)) ≡ true
stored_in body i zero a v at low high = absurd (omega arith)
stored_in body i (suc m) a v at low high =
    let here = step_at body m high in
    let test : ℕ → Bool = λ stored. stored == (registers_before body i).place a in
    ap (list_any test) (stored_next body m here.0 here.1)
    ∙ (list_any-append test (stored_places no_registers (take m body)) (places_of (registers_before body m) here.0)
    ∙ ⊎_elim
    (λ same.
    let step : here.0 ≡ Store a v = one_step (sym here.1 ∙ subst (λ k. slice_get body k ≡ Some (Store a v)) same at) in
    let own : list_any test (places_of (registers_before body m) here.0) ≡ true = ap (λ s. list_any test (places_of (registers_before body m) s)) step ∙ ap (λ b. b || false) (subst (λ k. ((registers_before body k).place a == (registers_before body i).place a) ≡ true) same (same_test ((registers_before body i).place a))) in
    ap (λ b. list_any test (stored_places no_registers (take m body)) || b) own ∙ or_true _)
    (λ other. ap (λ b. b || list_any test (places_of (registers_before body m) here.0)) (stored_in body i m a v at (omega arith) (omega arith)))
    (cases_eq i m))
  where
    one_step : {x y : Step} → Some x ≡ Some y → x ≡ y
    one_step e = cc

-- a Store before this place, to this place
pub record StoredBefore (body : List Step) (j place : ℕ) : Type 0 where
  pub by : ℕ
  pub reg : ℕ
  pub value : Value
  pub earlier : by < j
  pub stores : slice_get body by ≡ Some (Store reg value)
  pub to : (registers_before body by).place reg ≡ place

place_of_step : (g : Registers) (place : ℕ) (step : Step) → list_any (λ stored. stored == place) (places_of g step) ≡ true → (reg : ℕ) × (value : Value) × (step ≡ Store reg value) × (g.place reg ≡ place)
place_of_step g place (Load p into) e = cc
place_of_step g place (Want r word) e = cc
place_of_step g place (Fresh r) e = cc
place_of_step g place (Take p word) e = cc
place_of_step g place (Make init into) e = cc
place_of_step g place Stamp e = cc
place_of_step g place (Store reg value) e = (reg, value, refl, same_number (g.place reg) place (or_none (g.place reg == place) e))
  where
    or_none : (a : Bool) → (a || false) ≡ true → a ≡ true
    or_none true e = refl
    or_none false e = cc

    same_number : (a b : ℕ) → (a == b) ≡ true → a ≡ b
    same_number a b e = grind (arith, nat_tests)
place_of_step g place (Retire slot) e = cc
place_of_step g place (Answer reply) e = cc

-- a place among the stored ones has an earlier Store
pub stored_found : (body : List Step) (j place : ℕ) → j ≤ length body → list_any (λ stored. stored == place) (stored_places no_registers (take j body)) ≡ true → StoredBefore body j place
stored_found body zero place high any = absurd (nothing body any)
  where
    nothing : (body : List Step) → list_any (λ stored. stored == place) (stored_places no_registers (take 0 body)) ≡ true → ⊥
    nothing [] e = cc
    nothing (step ∷ steps) e = cc
stored_found body (suc m) place high any =
    let here = step_at body m high in
    let test : ℕ → Bool = λ stored. stored == place in
    let parts = sym (list_any-append test (stored_places no_registers (take m body)) (places_of (registers_before body m) here.0)) ∙ (sym (ap (list_any test) (stored_next body m here.0 here.1)) ∙ any) in
    ⊎_elim
    (λ before. let f = stored_found body m place (omega arith) before in record { by = f.by; reg = f.reg; value = f.value; earlier = (let e = f.earlier in omega arith); stores = f.stores; to = f.to })
    (λ now. let p = place_of_step (registers_before body m) place here.0 now in record { by = m; reg = p.0; value = p.1; earlier = omega arith; stores = here.1 ∙ ap (λ (s : Step). Some s) p.2; to = p.3 })
    (either (list_any test (stored_places no_registers (take m body))) (list_any test (places_of (registers_before body m) here.0)) parts)
  where
    either : (a b : Bool) → (a || b) ≡ true → (a ≡ true) ⊎ (b ≡ true)
    either true b e = inl refl
    either false b e = inr e
