-- Where a run rests, what it has to release there, and how many events it makes.
use Rattle.std.proofs.Common.{◌≡◌, ℕ, zero, suc, ◌+◌, ◌<◌, ◌≤◌, List, [], ◌∷◌, ◌++◌, length, take, drop, true, Some, refl, sym, ap, ◌∙◌, subst, arith}
use Rattle.std.specs.Prelude.{cond, count_by, is_none, ◌&&◌}
use Rattle.std.proofs.Math.Seq.{take-append-add}
use Rattle.std.proofs.lemmas.List.{append_assoc, take-append-le, take-append-drop, length-append, take_all, drop_all}
use Rattle.std.proofs.lemmas.List.Sums.{sum_by-cons}
use Rattle.structure_laws.specs.body_terms.specs.declared.step.Step.{Step}
use Rattle.structure_laws.specs.body_terms.specs.declared.step.Step.TheVariants.{Load, Want, Fresh, Take, Make, Stamp, Store, Retire, Answer}
use Rattle.structure_laws.specs.body_terms.specs.declared.outcome.Outcome.{Outcome}
use Rattle.structure_laws.specs.body_terms.specs.declared.micro.Micro.{Micro}
use Rattle.structure_laws.specs.body_terms.specs.declared.micro.Micro.TheVariants as kinds
use Rattle.structure_laws.specs.body_terms.specs.Cost.{cost_of, steps_to}
use Rattle.structure_laws.specs.body_terms.specs.Line.{Registers, no_registers, registers_before, registers_after, micros, micro_count, line, line_from, begins, micro_at, is_check, is_event, release_of, releases}
use Rattle.structure_laws.specs.body_terms.specs.Run.{Setting, leaves, passed_checks, settled}
use Rattle.structure_laws.specs.body_terms.specs.Shape.{IsStep, IsShaped}
use Rattle.structure_laws.specs.body_terms.specs.Shape as shape
use Rattle.structure_laws.specs.body_terms.proofs.CostLemmas.{whole_run}
use Rattle.structure_laws.specs.body_terms.proofs.LineLemmas.{begins_next, line_split, length-micros, micro_within}
use Rattle.section_lines.specs.Line.{phase}
use Rattle.section_lines.specs.Rests.{is_test, taken_releases, RestsAt, Rests}
use Rattle.section_lines.proofs.Places.{whole_line, stands_there}
use Rattle.section_lines.proofs.Phases.{sole, is_the_stamp, is_in_phases}

module _ (s : Setting) (trail : List ℕ) where
  -- whether one more check passes
  one_check : (ms : List Micro) (at : ℕ) → passed_checks s trail (drop at ms)
      ≡ cond (is_check (micro_at ms at) && is_none (leaves s trail (micro_at ms at))) (passed_checks s trail (drop (suc at) ms) + 1) 0
  one_check [] zero = refl
  one_check [] (suc at) = refl
  one_check (m ∷ ms) zero = refl
  one_check (m ∷ ms) (suc at) = one_check ms at

  left_check : (m : Micro) (outcome : Outcome) (n : ℕ) → leaves s trail m ≡ Some outcome
      → cond (is_check m && is_none (leaves s trail m)) n 0 ≡ 0
  left_check m outcome n e = grind arith

  pub rests_at : (ms : List Micro) → RestsAt s trail ms
  rests_at ms = record {
    goes = λ at check none. let one = one_check ms at in let z : cond (is_check (micro_at ms at) && is_none (leaves s trail (micro_at ms at)))
        (passed_checks s trail (drop (suc at) ms) + 1) 0 ≡ passed_checks s trail (drop (suc at) ms) + 1 = grind arith in omega arith;
    stays = λ at check. let one = one_check ms at in let z : cond (is_check (micro_at ms at) && is_none (leaves s trail (micro_at ms at)))
        (passed_checks s trail (drop (suc at) ms) + 1) 0 ≡ 0 = grind arith in omega arith;
    leaves = λ at outcome e. let one = one_check ms at in let z = left_check (micro_at ms at) outcome (passed_checks s trail (drop (suc at) ms) + 1) e in omega arith;
  }

-- the first atomic step of a step is a check exactly where the step is a check alone
first_check : (g : Registers) (step : Step) → is_check (micro_at (micros g step) 0) ≡ is_test step
first_check g (Load place into) = refl
first_check g (Want reg word) = refl
first_check g (Fresh reg) = refl
first_check g (Take place word) = refl
first_check g (Make init into) = refl
first_check g Stamp = refl
first_check g (Store reg value) = refl
first_check g (Retire slot) = refl
first_check g (Answer reply) = refl

test_count : (step : Step) → is_test step ≡ true → micro_count step ≡ 1
test_count step test = grind arith

some_micros : (step : Step) → 0 < micro_count step
some_micros step = grind arith

releases_append : (xs ys : List Micro) → releases (xs ++ ys) ≡ releases xs ++ releases ys
releases_append [] ys = refl
releases_append (m ∷ xs) ys = ap (λ rs. release_of m ++ rs) (releases_append xs ys) ∙ sym (append_assoc (release_of m) (releases xs) (releases ys))

-- a line releases what its steps take
line_taken : (g : Registers) (steps : List Step) → releases (line_from g steps) ≡ taken_releases steps
line_taken g [] = refl
line_taken g (Load place into ∷ steps) = line_taken (registers_after g (Load place into)) steps
line_taken g (Want reg word ∷ steps) = line_taken (registers_after g (Want reg word)) steps
line_taken g (Fresh reg ∷ steps) = line_taken (registers_after g (Fresh reg)) steps
line_taken g (Take place word ∷ steps) = ap (λ rs. kinds.Release place word ∷ rs) (line_taken (registers_after g (Take place word)) steps)
line_taken g (Make init into ∷ steps) = line_taken (registers_after g (Make init into)) steps
line_taken g (Stamp ∷ steps) = line_taken (registers_after g Stamp) steps
line_taken g (Store reg value ∷ steps) = line_taken (registers_after g (Store reg value)) steps
line_taken g (Retire slot ∷ steps) = line_taken (registers_after g (Retire slot)) steps
line_taken g (Answer reply ∷ steps) = line_taken (registers_after g (Answer reply)) steps

-- within a step nothing more is taken
take_within : (g : Registers) (place word at : ℕ) → at < 7 → releases (take at (micros g (Take place word))) ≡ []
take_within g place word zero lt = refl
take_within g place word (suc zero) lt = refl
take_within g place word (suc (suc zero)) lt = refl
take_within g place word (suc (suc (suc zero))) lt = refl
take_within g place word (suc (suc (suc (suc zero)))) lt = refl
take_within g place word (suc (suc (suc (suc (suc zero))))) lt = refl
take_within g place word (suc (suc (suc (suc (suc (suc zero)))))) lt = refl
take_within g place word (suc (suc (suc (suc (suc (suc (suc at))))))) lt = absurd (omega arith)

-- a part of steps that release nothing releases nothing
none_taken : (ms : List Micro) (at : ℕ) → releases ms ≡ [] → releases (take at ms) ≡ []
none_taken [] zero none = refl
none_taken [] (suc at) none = refl
none_taken (m ∷ ms) zero none = refl
none_taken (m ∷ ms) (suc at) none =
    let both = nil_parts (release_of m) (releases ms) none in
    ap (λ rs. rs ++ releases (take at ms)) both.0 ∙ none_taken ms at both.1
  where
    nil_parts : (xs ys : List Micro) → xs ++ ys ≡ [] → (xs ≡ []) × (ys ≡ [])
    nil_parts [] ys e = (refl, e)
    nil_parts (x ∷ xs) ys e = absurd (cc)

step_within : (g : Registers) (step : Step) (at : ℕ) → at < micro_count step → releases (take at (micros g step)) ≡ []
step_within g (Take place word) at lt = take_within g place word at lt
step_within g (Load place into) at lt = none_taken (micros g (Load place into)) at refl
step_within g (Want reg word) at lt = none_taken (micros g (Want reg word)) at refl
step_within g (Fresh reg) at lt = none_taken (micros g (Fresh reg)) at refl
step_within g (Make init into) at lt = none_taken (micros g (Make init into)) at refl
step_within g Stamp at lt = none_taken (micros g Stamp) at refl
step_within g (Store reg value) at lt = none_taken (micros g (Store reg value)) at refl
step_within g (Retire slot) at lt = none_taken (micros g (Retire slot)) at refl
step_within g (Answer reply) at lt = none_taken (micros g (Answer reply)) at refl

append_none : (xs ys : List Micro) → ys ≡ [] → xs ++ ys ≡ xs
append_none [] ys none = none
append_none (x ∷ xs) ys none = ap (λ zs. x ∷ zs) (append_none xs ys none)

module _ (body : List Step) where
  -- the first atomic step of a step
  first_at : (n : ℕ) (step : Step) → IsStep body n step → micro_at (line body) (begins body n) ≡ micro_at (micros (registers_before body n) step) 0
  first_at n step here = ap (micro_at (line body)) (let e : begins body n ≡ begins body n + 0 = omega arith in e)
      ∙ micro_within body n 0 step here (some_micros step)

  taken_within : (n at : ℕ) (step : Step) → IsStep body n step → at < micro_count step
      → releases (take (begins body n + at) (line body)) ≡ taken_releases (take n body)
  taken_within n at step here lt =
      let g = registers_before body n in
      let rest = line_from (registers_after g step) (drop (suc n) body) in
      ap (λ ms. releases (take (begins body n + at) ms)) (line_split body n step here)
      ∙ (ap releases (take-append-add (line (take n body)) (micros g step ++ rest) at)
      ∙ (releases_append (line (take n body)) (take at (micros g step ++ rest))
      ∙ (append_none (releases (line (take n body))) (releases (take at (micros g step ++ rest)))
      (ap releases (take-append-le at (micros g step) rest (let long = length-micros g step in omega arith)) ∙ step_within g step at lt)
      ∙ line_taken no_registers (take n body))))

pub run_rests : (s : Setting) (trail : List ℕ) (body : List Step) → Rests s trail body
run_rests s trail body =
    let at_any = rests_at s trail (line body) in
    record {
      before = λ n step here test. at_any.stays (begins body n)
          (ap is_check (first_at body n step here) ∙ (first_check (registers_before body n) step ∙ test));
      behind = λ n step here test none. at_any.goes (begins body n)
          (ap is_check (first_at body n step here) ∙ (first_check (registers_before body n) step ∙ test)) none
          ∙ ap (settled s trail (line body)) (let one = test_count step test in let next = begins_next body n step here in omega arith);
      at = λ n step outcome here e. at_any.leaves (begins body n) outcome e;
      end = let whole = whole_line body in
          let none = ap (passed_checks s trail) (drop_all (begins body (length body)) (line body) (omega arith)) in omega arith;
      taken = taken_within body;
      all_taken = line_taken no_registers body;
    }

-- an event that isn't below a place is one fewer
fewer : (ms : List Micro) (at i : ℕ) → at ≤ i → is_event (micro_at ms i) ≡ true → count_by is_event (take at ms) < count_by is_event ms
fewer [] at i le event = absurd (cc)
fewer (m ∷ ms) zero zero le event =
    let all = sum_by-cons (λ m. cond (is_event m) 1 0) m ms in
    let one : cond {A = ℕ} (is_event m) 1 0 ≡ 1 = ap (λ b. cond b 1 0) event in omega arith
fewer (m ∷ ms) zero (suc i) le event =
    let all = sum_by-cons (λ m. cond (is_event m) 1 0) m ms in
    let rest = fewer ms zero i (omega arith) event in omega arith
fewer (m ∷ ms) (suc at) zero le event = absurd (omega arith)
fewer (m ∷ ms) (suc at) (suc i) le event =
    let all = sum_by-cons (λ m. cond (is_event m) 1 0) m ms in
    let some = sum_by-cons (λ m. cond (is_event m) 1 0) m (take at ms) in
    let rest = fewer ms at i (omega arith) event in omega arith

check_early : (m : Micro) → is_check m ≡ true → phase m ≡ 1
check_early m check = grind arith

-- a run that leaves at a check makes fewer events than one that goes through: it stamps nothing
pub leaving_fewer : (body : List Step) → IsShaped body → (at lock word : ℕ) → is_check (micro_at (line body) at) ≡ true
    → steps_to body at lock word < cost_of body
leaving_fewer body shaped at lock word check =
    let a = sole shape.is_stamp body shaped.stamps in
    let here : IsStep body a.n Stamp = subst (IsStep body a.n) (is_the_stamp a.step a.passes) a.here in
    let stamp = stands_there body a.n 1 Stamp here (omega arith) in
    let early = check_early (micro_at (line body) at) check in
    let in_phases = (is_in_phases body shaped).phases in
    let low : at ≤ begins body a.n + 1 = below at (begins body a.n + 1)
    (λ lt. let falls = in_phases (begins body a.n + 1) at (omega arith) in let late = ap phase stamp in omega arith) in
    let less = fewer (line body) at (begins body a.n + 1) low (ap is_event stamp) in
    let whole = whole_run body lock word in
    let parts = ap length (releases_append (take at (line body)) (drop at (line body))) in
    let both = length-append (releases (take at (line body))) (releases (drop at (line body))) in
    let split = ap (λ ms. length (releases ms)) (take-append-drop at (line body)) in
    let some = length-append (releases (take at (line body))) (kinds.Release lock word ∷ []) in
    let every = length-append (releases (take (length (line body)) (line body))) (kinds.Release lock word ∷ []) in
    let full = ap (λ ms. length (releases ms)) (take_full (line body)) in
    let events = ap (count_by is_event) (take_full (line body)) in omega arith
  where
    below : (i j : ℕ) → (j < i → ⊥) → i ≤ j
    below i j none = search arith

    take_full : (ms : List Micro) → take (length ms) ms ≡ ms
    take_full ms = take_all (length ms) ms (omega arith)
