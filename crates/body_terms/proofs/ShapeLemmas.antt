-- A list of steps has the shape exactly where no place of it has a fault.
use Rattle.std.proofs.Common.{◌≡◌, ℕ, zero, suc, ◌+◌, ◌-◌, ◌<◌, ◌≤◌, List, [], ◌∷◌, length, take, refl, sym, ap, ◌∙◌, subst, arith, Some, None, Option, slice_get, ⊎_elim}
use Rattle.std.specs.Prelude.{Bool, true, false, ◌||◌, ◌&&◌, not, cond, ◌==◌, nat_lt, nat_le, count_by, Contains, map, slice_index, slice_index_or}
use Rattle.std.specs.List.{list_any, list_all}
use Rattle.std.proofs.lemmas.Bool.{cases_eq, cases_lt}
use Rattle.std.proofs.lemmas.List.Sums.{sum_by-cons, sum_by-take-le}
use Rattle.std.proofs.lemmas.Bool.Decides.{nat_tests}
use Rattle.std.proofs.lemmas.Option.{slice_get_within, slice_get_past}
use Rattle.block_words.specs.table_words.specs.small_lemmas.proofs.Bools.{neither_of as both, not_true}
use Rattle.block_words.specs.table_words.specs.small_lemmas.proofs.Numbers.{self_tested as same_test}
use Rattle.body_terms.specs.Line.{no_registers}
use Rattle.body_terms.specs.Shape.{phase, is_make, is_stamp, is_answer, used_values, set_registers, IsStep, SetBefore, store_place, IsShaped}
use Rattle.body_terms.specs.Fault.{loads_into, makes_into, tests_version, is_set, is_settable, phase_before, is_second, is_untested, stored_places, is_stored_again, step_fault, end_fault, step_or_end_fault, fault_at, IsFirstFault}
use Rattle.body_terms.specs.declared.value.Value.{Value}
use Rattle.body_terms.specs.declared.value.Value.TheVariants.{Const, Of, Made}
use Rattle.body_terms.specs.declared.value.Init.{Init}
use Rattle.body_terms.specs.declared.step.Step.{Step}
use Rattle.body_terms.specs.declared.step.Step.TheVariants.{Load, Want, Fresh, Take, Make, Stamp, Store, Retire, Answer}
use Rattle.body_terms.specs.declared.misshape.Misshape.{Misshape}
use Rattle.body_terms.proofs.LineLemmas.{take_all}
use Rattle.body_terms.proofs.RegisterLemmas.{step_at}
use Rattle.body_terms.proofs.SoundLemmas.{count_by_next, counted}
use Rattle.body_terms.proofs.FaultLemmas.{stored_in, stored_found}

-- a step among the first ones stands there in the whole
pub in_take : {X : Type 0} (xs : List X) (n i : ℕ) (x : X) → slice_get (take n xs) i ≡ Some x → (i < n) × (slice_get xs i ≡ Some x)
in_take xs zero i x at = absurd (nothing xs i at)
  where
    nothing : {X : Type 0} (xs : List X) (i : ℕ) {x : X} → slice_get (take 0 xs) i ≡ Some x → ⊥
    nothing [] i e = cc
    nothing (y ∷ xs) i e = cc
in_take [] (suc n) i x at = cc
in_take (y ∷ xs) (suc n) zero x at = (omega arith, at)
in_take (y ∷ xs) (suc n) (suc i) x at = let r = in_take xs n i x at in (omega arith, r.1)

-- and the other way
pub take_in : {X : Type 0} (xs : List X) (n i : ℕ) (x : X) → i < n → slice_get xs i ≡ Some x → slice_get (take n xs) i ≡ Some x
take_in [] n i x low at = cc
take_in (y ∷ xs) zero i x low at = absurd (omega arith)
take_in (y ∷ xs) (suc n) zero x low at = at
take_in (y ∷ xs) (suc n) (suc i) x low at = take_in xs n i x (omega arith) at

-- an element that passes
pub record Found {X : Type 0} (p : X → Bool) (xs : List X) : Type 0 where
  pub at : ℕ
  pub element : X
  pub here : slice_get xs at ≡ Some element
  pub passes : p element ≡ true

pub any_found : {X : Type 0} (p : X → Bool) (xs : List X) → list_any p xs ≡ true → Found p xs
any_found p [] any = cc
any_found p (x ∷ xs) any = first_or_later (p x) refl any (any_found p xs)
  where
    first_or_later : (b : Bool) → p x ≡ b → (b || list_any p xs) ≡ true → (list_any p xs ≡ true → Found p xs) → Found p (x ∷ xs)
    first_or_later true is any later = record { at = 0; element = x; here = refl; passes = is }
    first_or_later false is any later = let f = later any in record { at = suc f.at; element = f.element; here = f.here; passes = f.passes }

pub found_any : {X : Type 0} (p : X → Bool) (xs : List X) (i : ℕ) (x : X) → slice_get xs i ≡ Some x → p x ≡ true → list_any p xs ≡ true
found_any p [] i x at passes = cc
found_any p (y ∷ xs) zero x at passes = let same : y ≡ x = cc in ap (λ b. b || list_any p xs) (ap p same ∙ passes)
found_any p (y ∷ xs) (suc i) x at passes = ap (λ b. p y || b) (found_any p xs i x at passes) ∙ or_true (p y)
  where
    or_true : (a : Bool) → (a || true) ≡ true
    or_true true = refl
    or_true false = refl

-- each element passes
pub all_each : {X : Type 0} (p : X → Bool) (xs : List X) → list_all p xs ≡ true → (k : ℕ) (d : X) → k < length xs → p (slice_index_or xs k d) ≡ true
all_each p [] all k d low = absurd (omega arith)
all_each p (x ∷ xs) all zero d low = (both (p x) (list_all p xs) all).0
  where
    both : (a b : Bool) → (a && b) ≡ true → (a ≡ true) × (b ≡ true)
    both true b e = (refl, e)
    both false b e = cc
all_each p (x ∷ xs) all (suc k) d low = all_each p xs (both (p x) (list_all p xs) all).1 k d (omega arith)
  where
    both : (a b : Bool) → (a && b) ≡ true → (a ≡ true) × (b ≡ true)
    both true b e = (refl, e)
    both false b e = cc

pub each_all : {X : Type 0} (p : X → Bool) (xs : List X) → ((k : ℕ) (d : X) → k < length xs → p (slice_index_or xs k d) ≡ true) → list_all p xs ≡ true
each_all p [] each = refl
each_all p (x ∷ xs) each = ap (λ b. b && list_all p xs) (each 0 x (omega arith)) ∙ each_all p xs (λ k d low. each (suc k) d (omega arith))

-- none is counted exactly where none passes
pub none_passes : {X : Type 0} (p : X → Bool) (xs : List X) → list_any p xs ≡ false → count_by p xs ≡ 0
none_passes p [] none = refl
none_passes p (x ∷ xs) none = first (p x) refl none (none_passes p xs)
  where
    first : (b : Bool) → p x ≡ b → (b || list_any p xs) ≡ false → (list_any p xs ≡ false → count_by p xs ≡ 0) → count_by p (x ∷ xs) ≡ 0
    first true is e later = cc
    first false is e later = let rest = later e in let cons = sum_by-cons (λ y. cond (p y) 1 0) x xs in let nought : cond {A = ℕ} (p x) 1 0 ≡ 0 = ap (λ b. cond b 1 0) is in omega arith

-- the tests that a step passes which has no fault
pub record Passes (earlier : List Step) (step : Step) : Type 0 where
  pub in_phase : nat_lt (phase step) (phase_before earlier) ≡ false
  pub first : is_second earlier step ≡ false
  pub stamped : (nat_le 4 (phase step) && not (list_any is_stamp earlier)) ≡ false
  pub few : (is_make step && nat_le 2 (count_by is_make earlier)) ≡ false
  pub registers : (not (list_all (is_set earlier) (used_values step)) || not (list_all (is_settable earlier) (set_registers step))) ≡ false
  pub tested : is_untested earlier step ≡ false
  pub once : is_stored_again earlier step ≡ false

-- a choice that is None takes the other case
cond_none : (a : Bool) (x : Misshape) (y : Option Misshape) → cond a (Some x) y ≡ None → (a ≡ false) × (y ≡ None)
cond_none true x y e = cc
cond_none false x y e = (refl, e)

pub fault_passes : (earlier : List Step) (step : Step) → step_fault earlier step ≡ None → Passes earlier step
fault_passes earlier step none =
    let a = cond_none _ _ _ none in let b = cond_none _ _ _ a.1 in let c = cond_none _ _ _ b.1 in let d = cond_none _ _ _ c.1 in let e = cond_none _ _ _ d.1 in let f = cond_none _ _ _ e.1 in let g = cond_none _ _ _ f.1 in
    record { in_phase = a.0; first = b.0; stamped = c.0; few = d.0; registers = e.0; tested = f.0; once = g.0 }

pub passes_fault : (earlier : List Step) (step : Step) → Passes earlier step → step_fault earlier step ≡ None
passes_fault earlier step p = rw (p.in_phase, p.first, p.stamped, p.few, p.registers, p.tested, p.once) refl

-- the fault at a step's place is the step's
pub fault_here : (body : List Step) (i : ℕ) (step : Step) → IsStep body i step → fault_at body i ≡ step_fault (take i body) step
fault_here body i step here = ap (step_or_end_fault body i) here

not_not : (a : Bool) → not a ≡ false → a ≡ true
not_not true e = refl
not_not false e = cc

and_false : (a b : Bool) → (a && b) ≡ false → a ≡ true → b ≡ false
and_false true b e is = e
and_false false b e is = cc

-- what the tests on a step say
loads_is : (reg : ℕ) (step : Step) → loads_into reg step ≡ true → (place : ℕ) × (step ≡ Load place reg)
loads_is reg (Load place into) e = (place, ap (Load place) (same_number into reg e))
  where
    same_number : (a b : ℕ) → (a == b) ≡ true → a ≡ b
    same_number a b e = grind (arith, nat_tests)
loads_is reg (Want r word) e = cc
loads_is reg (Fresh r) e = cc
loads_is reg (Take place word) e = cc
loads_is reg (Make init into) e = cc
loads_is reg Stamp e = cc
loads_is reg (Store r value) e = cc
loads_is reg (Retire slot) e = cc
loads_is reg (Answer reply) e = cc

makes_is : (reg : ℕ) (step : Step) → makes_into reg step ≡ true → (init : Init) × (step ≡ Make init reg)
makes_is reg (Load place into) e = cc
makes_is reg (Want r word) e = cc
makes_is reg (Fresh r) e = cc
makes_is reg (Take place word) e = cc
makes_is reg (Make init into) e = (init, ap (Make init) (same_number into reg e))
  where
    same_number : (a b : ℕ) → (a == b) ≡ true → a ≡ b
    same_number a b e = grind (arith, nat_tests)
makes_is reg Stamp e = cc
makes_is reg (Store r value) e = cc
makes_is reg (Retire slot) e = cc
makes_is reg (Answer reply) e = cc

tests_is : (reg : ℕ) (step : Step) → tests_version reg step ≡ true → step ≡ Fresh reg
tests_is reg (Load place into) e = cc
tests_is reg (Want r word) e = cc
tests_is reg (Fresh r) e = ap Fresh (same_number r reg e)
  where
    same_number : (a b : ℕ) → (a == b) ≡ true → a ≡ b
    same_number a b e = grind (arith, nat_tests)
tests_is reg (Take place word) e = cc
tests_is reg (Make init into) e = cc
tests_is reg Stamp e = cc
tests_is reg (Store r value) e = cc
tests_is reg (Retire slot) e = cc
tests_is reg (Answer reply) e = cc

-- a step that sets a register is one of the two that do
sets_is : (reg : ℕ) (step : Step) → Contains (set_registers step) reg → (loads_into reg step || makes_into reg step) ≡ true
sets_is reg (Load place into) (zero, low, is) = ap (λ b. b || false) (ap (λ r. r == reg) is ∙ same_test reg)
sets_is reg (Load place into) (suc k, low, is) = absurd (omega arith)
sets_is reg (Want r word) (k, low, is) = absurd (omega arith)
sets_is reg (Fresh r) (k, low, is) = absurd (omega arith)
sets_is reg (Take place word) (k, low, is) = absurd (omega arith)
sets_is reg (Make init into) (zero, low, is) = ap (λ r. r == reg) is ∙ same_test reg
sets_is reg (Make init into) (suc k, low, is) = absurd (omega arith)
sets_is reg Stamp (k, low, is) = absurd (omega arith)
sets_is reg (Store r value) (k, low, is) = absurd (omega arith)
sets_is reg (Retire slot) (k, low, is) = absurd (omega arith)
sets_is reg (Answer reply) (k, low, is) = absurd (omega arith)

is_sets : (reg : ℕ) (step : Step) → (loads_into reg step || makes_into reg step) ≡ true → Contains (set_registers step) reg
is_sets reg (Load place into) e = (0, omega arith, same_number into reg (or_none (into == reg) e))
  where
    or_none : (a : Bool) → (a || false) ≡ true → a ≡ true
    or_none true e = refl
    or_none false e = cc

    same_number : (a b : ℕ) → (a == b) ≡ true → a ≡ b
    same_number a b e = grind (arith, nat_tests)
is_sets reg (Want r word) e = cc
is_sets reg (Fresh r) e = cc
is_sets reg (Take place word) e = cc
is_sets reg (Make init into) e = (0, omega arith, same_number into reg e)
  where
    same_number : (a b : ℕ) → (a == b) ≡ true → a ≡ b
    same_number a b e = grind (arith, nat_tests)
is_sets reg Stamp e = cc
is_sets reg (Store r value) e = cc
is_sets reg (Retire slot) e = cc
is_sets reg (Answer reply) e = cc

-- a value is set among the first steps exactly where an earlier step sets its register
set_before : (body : List Step) (i : ℕ) (value : Value) → is_set (take i body) value ≡ true → SetBefore body i value
set_before body i (Const number) e = tt
set_before body i (Of reg) e =
    let f = any_found (loads_into reg) (take i body) e in
    let is = loads_is reg f.element f.passes in
    let at = in_take body i f.at f.element f.here in
    record { by = f.at; place = is.0; earlier = at.0; loads = at.1 ∙ ap (λ (s : Step). Some s) is.1 }
set_before body i (Made reg) e =
    let f = any_found (makes_into reg) (take i body) e in
    let is = makes_is reg f.element f.passes in
    let at = in_take body i f.at f.element f.here in
    record { by = f.at; init = is.0; earlier = at.0; makes = at.1 ∙ ap (λ (s : Step). Some s) is.1 }

before_set : (body : List Step) (i : ℕ) (value : Value) → SetBefore body i value → is_set (take i body) value ≡ true
before_set body i (Const number) before = refl
before_set body i (Of reg) before = found_any (loads_into reg) (take i body) before.by (Load before.place reg) (take_in body i before.by (Load before.place reg) before.earlier before.loads) (same_test reg)
before_set body i (Made reg) before = found_any (makes_into reg) (take i body) before.by (Make before.init reg) (take_in body i before.by (Make before.init reg) before.earlier before.makes) (same_test reg)

-- the phase of the step before
phase_before_next : (body : List Step) (m : ℕ) (step : Step) → IsStep body m step → phase_before (take (suc m) body) ≡ phase step
phase_before_next [] m step here = cc
phase_before_next (first ∷ rest) zero step here = let same : first ≡ step = cc in ap phase same
phase_before_next (first ∷ rest) (suc m) step here = later rest m step here (phase_before_next rest m step here)
  where
    later : (rest : List Step) (m : ℕ) (step : Step) → IsStep rest m step → phase_before (take (suc m) rest) ≡ phase step → phase_before (first ∷ take (suc m) rest) ≡ phase step
    later [] m step here before = cc
    later (second ∷ rest) m step here before = (let z : length (take m rest) + 1 ≡ suc (length (take m rest)) = omega arith in longer (map phase (take m rest)) (length (take m rest))) ∙ before
      where
        longer : (ps : List ℕ) (k : ℕ) → slice_index (phase first ∷ phase second ∷ ps) (suc (suc k) - 1) ≡ slice_index (phase second ∷ ps) (suc k - 1)
        longer ps k = (let a : suc (suc k) - 1 ≡ suc k = omega arith in ap (slice_index (phase first ∷ phase second ∷ ps)) a) ∙ (let b : k ≡ suc k - 1 = omega arith in ap (slice_index (phase second ∷ ps)) b)

module _ (body : List Step) (passes : (i : ℕ) (step : Step) → IsStep body i step → Passes (take i body) step) where
  -- adjacent phases never fall, so none does
  phases_rise : (i j : ℕ) (earlier later : Step) → i < j → IsStep body i earlier → IsStep body j later → phase earlier ≤ phase later
  phases_rise i zero earlier later low at here = absurd (omega arith)
  phases_rise i (suc m) earlier later low at here =
      let between = step_at body m (let w = slice_get_within body (suc m) later here in omega arith) in
      let adjacent : phase between.0 ≤ phase later = not_below (phase later) (phase between.0) (ap (nat_lt (phase later)) (sym (phase_before_next body m between.0 between.1)) ∙ (passes (suc m) later here).in_phase) in
      ⊎_elim
      (λ same. subst (λ s. phase s ≤ phase later) (one_step (sym between.1 ∙ subst (λ k. IsStep body k earlier) same at)) adjacent)
      (λ other. let before = phases_rise i m earlier between.0 (omega arith) at between.1 in omega arith)
      (cases_eq i m)
    where
      not_below : (a b : ℕ) → nat_lt a b ≡ false → b ≤ a
      not_below a b e = grind (arith, nat_tests)

      one_step : {a b : Step} → Some a ≡ Some b → a ≡ b
      one_step e = cc

  registers_pass : (i : ℕ) (step : Step) → IsStep body i step → (list_all (is_set (take i body)) (used_values step) ≡ true) × (list_all (is_settable (take i body)) (set_registers step) ≡ true)
  registers_pass i step here = let p = both _ _ (passes i step here).registers in (not_not _ p.0, not_not _ p.1)

  -- a register that a step sets may be set there
  settable : (i reg : ℕ) (step : Step) → IsStep body i step → Contains (set_registers step) reg → (nat_le reg 15 ≡ true) × (list_any (λ s. loads_into reg s || makes_into reg s) (take i body) ≡ false)
  settable i reg step here sets =
      let all = all_each (is_settable (take i body)) (set_registers step) (registers_pass i step here).1 sets.0 reg sets.1 in
      and_not (nat_le reg 15) (list_any (λ s. loads_into reg s || makes_into reg s) (take i body)) (ap (is_settable (take i body)) (sym sets.2) ∙ all)
    where
      and_not : (a b : Bool) → (a && not b) ≡ true → (a ≡ true) × (b ≡ false)
      and_not true true e = cc
      and_not true false e = (refl, refl)
      and_not false b e = cc

  -- at most one step passes a test of which each second one is a fault
  at_most_one : (p : Step → Bool) → ((i : ℕ) (step : Step) → IsStep body i step → p step ≡ true → list_any p (take i body) ≡ false) → (n : ℕ) → n ≤ length body → count_by p (take n body) ≤ 1
  at_most_one p second zero within = nothing body
    where
      nothing : (body : List Step) → count_by p (take 0 body) ≤ 1
      nothing [] = omega arith
      nothing (step ∷ steps) = omega arith
  at_most_one p second (suc n) within =
      let at = step_at body n within in
      counted_one n at.0 (p at.0) refl (at_most_one p second n (omega arith)) (second n at.0 at.1) (count_by_next p body n at.0 at.1)
    where
      counted_one : (n : ℕ) (step : Step) (b : Bool) → p step ≡ b → count_by p (take n body) ≤ 1 → (p step ≡ true → list_any p (take n body) ≡ false) → count_by p (take (suc n) body) ≡ count_by p (take n body) + cond (p step) 1 0 → count_by p (take (suc n) body) ≤ 1
      counted_one n step true is before first next =
          let none = none_passes p (take n body) (first is) in let one : cond {A = ℕ} (p step) 1 0 ≡ 1 = ap (λ b. cond b 1 0) is in omega arith
      counted_one n step false is before first next = let nought : cond {A = ℕ} (p step) 1 0 ≡ 0 = ap (λ b. cond b 1 0) is in omega arith

  at_most_two : (n : ℕ) → n ≤ length body → count_by is_make (take n body) ≤ 2
  at_most_two zero within = nothing body
    where
      nothing : (body : List Step) → count_by is_make (take 0 body) ≤ 2
      nothing [] = omega arith
      nothing (step ∷ steps) = omega arith
  at_most_two (suc n) within =
      let at = step_at body n within in
      counted_two n at.0 (is_make at.0) refl (at_most_two n (omega arith)) (passes n at.0 at.1).few (count_by_next is_make body n at.0 at.1)
    where
      counted_two : (n : ℕ) (step : Step) (b : Bool) → is_make step ≡ b → count_by is_make (take n body) ≤ 2 → (is_make step && nat_le 2 (count_by is_make (take n body))) ≡ false → count_by is_make (take (suc n) body) ≡ count_by is_make (take n body) + cond (is_make step) 1 0 → count_by is_make (take (suc n) body) ≤ 2
      counted_two n step true is before few next =
          let low : count_by is_make (take n body) < 2 = below_two _ (and_false _ _ few is) in let one : cond {A = ℕ} (is_make step) 1 0 ≡ 1 = ap (λ b. cond b 1 0) is in omega arith
        where
          below_two : (k : ℕ) → nat_le 2 k ≡ false → k < 2
          below_two k e = grind (arith, nat_tests)
      counted_two n step false is before few next = let nought : cond {A = ℕ} (is_make step) 1 0 ≡ 0 = ap (λ b. cond b 1 0) is in omega arith

  first_stamp : (i : ℕ) (step : Step) → IsStep body i step → is_stamp step ≡ true → list_any is_stamp (take i body) ≡ false
  first_stamp i step here is = and_false _ _ (both _ _ (passes i step here).first).0 is

  first_answer : (i : ℕ) (step : Step) → IsStep body i step → is_answer step ≡ true → list_any is_answer (take i body) ≡ false
  first_answer i step here is = and_false _ _ (both _ _ (passes i step here).first).1 is

  -- exactly one step passes a test that one passes
  exactly_one : (p : Step → Bool) → ((i : ℕ) (step : Step) → IsStep body i step → p step ≡ true → list_any p (take i body) ≡ false) → list_any p body ≡ true → count_by p body ≡ 1
  exactly_one p second any =
      let most = subst (λ b. count_by p b ≤ 1) (take_all body (length body) (omega arith)) (at_most_one p second (length body) (omega arith)) in
      let f = any_found p body any in
      let one = counted p body f.at f.element f.here f.passes in
      omega arith

  pub shaped_from : length body ≤ 32 → end_fault body ≡ None → IsShaped body
  shaped_from short end =
      let stamp = cond_none (not (list_any is_stamp body)) _ _ end in
      let answer = cond_none (not (list_any is_answer body)) _ _ stamp.1 in
      record {
        short = short;
        phases = phases_rise;
        makes = subst (λ b. count_by is_make b ≤ 2) (take_all body (length body) (omega arith)) (at_most_two (length body) (omega arith));
        stamps = exactly_one is_stamp first_stamp (not_not _ stamp.0);
        answers = exactly_one is_answer first_answer (not_not _ answer.0);
        used = λ i step here k d low. set_before body i _ (all_each (is_set (take i body)) (used_values step) (registers_pass i step here).0 k d low);
        within = λ i step here k d low. at_most_15 _ (settable i (slice_index_or (set_registers step) k d) step here (k, low, same_index (set_registers step) k d low)).0;
        set_once = λ i j reg earlier later low at here sets again.
            contradict (found_any (λ s. loads_into reg s || makes_into reg s) (take j body) i earlier (take_in body j i earlier low at) (sets_is reg earlier sets)) (settable j reg later here again).1;
        fresh = λ i reg value here.
            let f = any_found (tests_version reg) (take i body) (not_not _ (passes i (Store reg value) here).tested) in
            let at = in_take body i f.at f.element f.here in
            record { by = f.at; earlier = at.0; tests = at.1 ∙ ap (λ (s : Step). Some s) (tests_is reg f.element f.passes) };
        stored_once = λ i j a b v w low at here same. stored_twice i j a b v w low at here same;
      }
    where
      at_most_15 : (reg : ℕ) → nat_le reg 15 ≡ true → reg ≤ 15
      at_most_15 reg e = grind (arith, nat_tests)

      same_index : (xs : List ℕ) (k d : ℕ) → k < length xs → slice_index_or xs k (slice_index_or xs k d) ≡ slice_index_or xs k d
      same_index [] k d low = absurd (omega arith)
      same_index (x ∷ xs) zero d low = refl
      same_index (x ∷ xs) (suc k) d low = same_index xs k d (omega arith)

      contradict : {a : Bool} → a ≡ true → a ≡ false → ⊥
      contradict e f = cc

      stored_twice : (i j a b : ℕ) (v w : Value) → i < j → IsStep body i (Store a v) → IsStep body j (Store b w) → store_place body i a ≡ store_place body j b → ⊥
      stored_twice i j a b v w low at here same =
          let within : j ≤ length body = (let w = slice_get_within body j (Store b w) here in omega arith) in
          let again = or_none _ (passes j (Store b w) here).once in
          contradict (subst (λ p. list_any (λ stored. stored == p) (stored_places no_registers (take j body)) ≡ true) same (stored_in body i j a v at low within)) again
        where
          or_none : (a : Bool) → (a || false) ≡ false → a ≡ false
          or_none true e = cc
          or_none false e = refl

module _ (body : List Step) (shaped : IsShaped body) where
  -- a step that passes a test of which there is one stands in the body
  one_there : (p : Step → Bool) → count_by p body ≡ 1 → list_any p body ≡ true
  one_there p one = true_or_false (list_any p body) refl
    where
      true_or_false : (b : Bool) → list_any p body ≡ b → list_any p body ≡ true
      true_or_false true is = is
      true_or_false false is = absurd (let none = none_passes p body is in omega arith)

  -- no earlier step passes a test that this one passes, where there is one
  none_earlier : (p : Step → Bool) → count_by p body ≡ 1 → (i : ℕ) (step : Step) → IsStep body i step → p step ≡ true → list_any p (take i body) ≡ true → ⊥
  none_earlier p one i step here is any =
      let f = any_found p (take i body) any in
      let at = in_take body i f.at f.element f.here in
      let first = counted p body f.at f.element at.1 f.passes in
      let next = count_by_next p body f.at f.element at.1 in
      let counts : cond {A = ℕ} (p f.element) 1 0 ≡ 1 = ap (λ b. cond b 1 0) f.passes in
      let more = counts_rise p body (suc f.at) i at.0 in
      let later = counted p body i step here is in
      omega arith
    where
      counts_rise : (p : Step → Bool) (xs : List Step) (m n : ℕ) → m ≤ n → count_by p (take m xs) ≤ count_by p (take n xs)
      counts_rise p xs m n low = subst (λ ys. count_by p ys ≤ count_by p (take n xs)) (take_take xs m n low) (sum_by-take-le (λ s. cond (p s) 1 0) (take n xs) m)
        where
          take_take : (xs : List Step) (m n : ℕ) → m ≤ n → take m (take n xs) ≡ take m xs
          take_take xs zero n low = refl
          take_take xs (suc m) zero low = absurd (omega arith)
          take_take [] (suc m) (suc n) low = refl
          take_take (x ∷ xs) (suc m) (suc n) low = ap (λ rest. x ∷ rest) (take_take xs m n (omega arith))

  in_phase_at : (i : ℕ) (step : Step) → IsStep body i step → nat_lt (phase step) (phase_before (take i body)) ≡ false
  in_phase_at zero step here = first body
    where
      first : (body : List Step) → nat_lt (phase step) (phase_before (take 0 body)) ≡ false
      first [] = not_below (phase step) 0 (omega arith)
        where
          not_below : (a b : ℕ) → b ≤ a → nat_lt a b ≡ false
          not_below a b low = grind (arith, nat_tests)
      first (s ∷ rest) = not_below (phase step) 0 (omega arith)
        where
          not_below : (a b : ℕ) → b ≤ a → nat_lt a b ≡ false
          not_below a b low = grind (arith, nat_tests)
  in_phase_at (suc m) step here =
      let between = step_at body m (let w = slice_get_within body (suc m) step here in omega arith) in
      ap (nat_lt (phase step)) (phase_before_next body m between.0 between.1) ∙ not_below (phase step) (phase between.0) (shaped.phases m (suc m) between.0 step (omega arith) between.1 here)
    where
      not_below : (a b : ℕ) → b ≤ a → nat_lt a b ≡ false
      not_below a b low = grind (arith, nat_tests)

  -- a step of phase 4 or more has the Stamp before it
  stamp_before : (i : ℕ) (step : Step) → IsStep body i step → nat_le 4 (phase step) ≡ true → list_any is_stamp (take i body) ≡ true
  stamp_before i step here late =
      let f = any_found is_stamp body (one_there is_stamp shaped.stamps) in
      let third = stamp_phase f.element f.passes in
      let four : 4 ≤ phase step = at_least_4 (phase step) late in
      ⊎_elim
      (λ before. found_any is_stamp (take i body) f.at f.element (take_in body i f.at f.element before f.here) f.passes)
      (λ behind. absurd (⊎_elim
      (λ same. (let eq = ap phase (one_step (sym here ∙ subst (λ k. IsStep body k f.element) (sym same) f.here)) in omega arith))
      (λ ne. (let rises = shaped.phases i f.at step f.element (omega arith) here f.here in omega arith))
      (cases_eq i f.at)))
      (cases_lt f.at i)
    where
      at_least_4 : (k : ℕ) → nat_le 4 k ≡ true → 4 ≤ k
      at_least_4 k e = grind (arith, nat_tests)

      one_step : {a b : Step} → Some a ≡ Some b → a ≡ b
      one_step e = cc

      stamp_phase : (s : Step) → is_stamp s ≡ true → phase s ≡ 3
      stamp_phase (Load place into) e = cc
      stamp_phase (Want r word) e = cc
      stamp_phase (Fresh r) e = cc
      stamp_phase (Take place word) e = cc
      stamp_phase (Make init into) e = cc
      stamp_phase Stamp e = refl
      stamp_phase (Store r value) e = cc
      stamp_phase (Retire slot) e = cc
      stamp_phase (Answer reply) e = cc

  -- a register that a step sets may be set there
  settable_at : (i : ℕ) (step : Step) → IsStep body i step → (k d : ℕ) → k < length (set_registers step) → is_settable (take i body) (slice_index_or (set_registers step) k d) ≡ true
  settable_at i step here k d low =
      let reg = slice_index_or (set_registers step) k d in
      let own : Contains (set_registers step) reg = (k, low, same_index (set_registers step) k d low) in
      let free = not_true _ (λ any.
      let f = any_found (λ s. loads_into reg s || makes_into reg s) (take i body) any in
      let at = in_take body i f.at f.element f.here in
      shaped.set_once f.at i reg f.element step at.0 at.1 here (is_sets reg f.element f.passes) own) in
      ap (λ b. b && not (list_any (λ s. loads_into reg s || makes_into reg s) (take i body))) (small reg (shaped.within i step here k d low)) ∙ ap not free
    where
      small : (reg : ℕ) → reg ≤ 15 → nat_le reg 15 ≡ true
      small reg low = grind (arith, nat_tests)

      same_index : (xs : List ℕ) (k d : ℕ) → k < length xs → slice_index_or xs k (slice_index_or xs k d) ≡ slice_index_or xs k d
      same_index [] k d low = absurd (omega arith)
      same_index (x ∷ xs) zero d low = refl
      same_index (x ∷ xs) (suc k) d low = same_index xs k d (omega arith)

  tested_at : (i : ℕ) (step : Step) → IsStep body i step → is_untested (take i body) step ≡ false
  tested_at i (Load place into) here = refl
  tested_at i (Want r word) here = refl
  tested_at i (Fresh r) here = refl
  tested_at i (Take place word) here = refl
  tested_at i (Make init into) here = refl
  tested_at i Stamp here = refl
  tested_at i (Store reg value) here =
      let before = shaped.fresh i reg value here in
      ap not (found_any (tests_version reg) (take i body) before.by (Fresh reg) (take_in body i before.by (Fresh reg) before.earlier before.tests) (same_test reg))
  tested_at i (Retire slot) here = refl
  tested_at i (Answer reply) here = refl

  once_at : (i : ℕ) (step : Step) → IsStep body i step → is_stored_again (take i body) step ≡ false
  once_at i (Load place into) here = refl
  once_at i (Want r word) here = refl
  once_at i (Fresh r) here = refl
  once_at i (Take place word) here = refl
  once_at i (Make init into) here = refl
  once_at i Stamp here = refl
  once_at i (Store reg value) here =
      ap (λ b. b || false) (not_true _ (λ any.
      let f = stored_found body i (store_place body i reg) (let w = slice_get_within body i (Store reg value) here in omega arith) any in
      shaped.stored_once f.by i f.reg reg f.value value f.earlier f.stores here f.to))
  once_at i (Retire slot) here = refl
  once_at i (Answer reply) here = refl

  pub shaped_passes : (i : ℕ) (step : Step) → IsStep body i step → Passes (take i body) step
  shaped_passes i step here = record {
    in_phase = in_phase_at i step here;
    first = neither _ _ (not_true _ (λ two. let t = and_true _ _ two in none_earlier is_stamp shaped.stamps i step here t.0 t.1)) (not_true _ (λ two. let t = and_true _ _ two in none_earlier is_answer shaped.answers i step here t.0 t.1));
    stamped = not_true _ (λ late. let t = and_true _ _ late in negated (stamp_before i step here t.0) t.1);
    few = not_true _ (λ third. let t = and_true _ _ third in (let c = counted is_make body i step here t.0 in let two = at_least_2 _ t.1 in let m = shaped.makes in omega arith));
    registers = neither _ _ (ap not (each_all (is_set (take i body)) (used_values step) (λ k d low. before_set body i _ (shaped.used i step here k d low)))) (ap not (each_all (is_settable (take i body)) (set_registers step) (settable_at i step here)));
    tested = tested_at i step here;
    once = once_at i step here;
  }
    where
      and_true : (a b : Bool) → (a && b) ≡ true → (a ≡ true) × (b ≡ true)
      and_true true b e = (refl, e)
      and_true false b e = cc

      neither : (a b : Bool) → a ≡ false → b ≡ false → (a || b) ≡ false
      neither a b e f = rw e f

      negated : {a : Bool} → a ≡ true → not a ≡ true → ⊥
      negated e f = cc

      at_least_2 : (k : ℕ) → nat_le 2 k ≡ true → 2 ≤ k
      at_least_2 k e = grind (arith, nat_tests)

  pub shaped_ends : end_fault body ≡ None
  shaped_ends = rw (one_there is_stamp shaped.stamps, one_there is_answer shaped.answers) refl

  -- no place of a body has a fault
  pub faultless : (i : ℕ) → i ≤ length body → fault_at body i ≡ None
  faultless i within = ⊎_elim
      (λ low. let here = step_at body i low in fault_here body i here.0 here.1 ∙ passes_fault (take i body) here.0 (shaped_passes i here.0 here.1))
      (λ high. ap (step_or_end_fault body i) (slice_get_past body i high) ∙ shaped_ends)
      (cases_lt i (length body))

-- a place with a fault, before which there is none, is the first
pub first_fault : (body : List Step) (at : ℕ) (fault : Misshape) → length body ≤ 32 → at ≤ length body → fault_at body at ≡ Some fault → ((i : ℕ) → i < at → fault_at body i ≡ None) → IsFirstFault body fault
first_fault body at fault short within here before = record { length_first = λ long. absurd (omega arith); lowest = λ _. (at, within, here, before) }

-- a list of steps with a fault hasn't the shape
pub faulty : (body : List Step) (at : ℕ) (fault : Misshape) → at ≤ length body → fault_at body at ≡ Some fault → (false ≡ true → IsShaped body) × (IsShaped body → false ≡ true)
faulty body at fault within here = (λ e. cc, λ shaped. absurd (some_none (sym here ∙ faultless body shaped at within)))
  where
    some_none : {f : Misshape} → Some f ≡ None → ⊥
    some_none e = cc

-- the fault past the last step
pub fault_past : (body : List Step) (at : ℕ) → length body ≤ at → fault_at body at ≡ end_fault body
fault_past body at past = ap (step_or_end_fault body at) (slice_get_past body at past)

-- without a fault at any step and at the end the list has the shape
pub shaped_without : (body : List Step) (at : ℕ) → length body ≤ 32 → length body ≤ at → ((i : ℕ) → i < at → fault_at body i ≡ None) → end_fault body ≡ None → IsShaped body
shaped_without body at short past none end =
    shaped_from body (λ i step here. fault_passes (take i body) step (sym (fault_here body i step here) ∙ none i (let w = slice_get_within body i step here in omega arith))) short end
