-- The phases of a line, its length, and its one stamp and one answer.
use Rattle.std.proofs.Common.{◌≡◌, ℕ, zero, suc, ◌+◌, ◌*◌, ◌<◌, ◌≤◌, List, [], ◌∷◌, length, true, false, refl, sym, ap, ◌∙◌, subst, arith, ⊎_elim}
use Rattle.std.specs.Prelude.{◌⊎◌, Bool, cond, count_by}
use Rattle.std.proofs.lemmas.List.Sums.{sum_by-cons}
use Rattle.structure_laws.specs.body_terms.specs.declared.step.Step.{Step}
use Rattle.structure_laws.specs.body_terms.specs.declared.step.Step.TheVariants.{Load, Want, Fresh, Take, Make, Stamp, Store, Retire, Answer}
use Rattle.structure_laws.specs.body_terms.specs.declared.micro.Micro.{Micro}
use Rattle.structure_laws.specs.body_terms.specs.declared.micro.Micro.TheVariants.{StampExchange, ReplyExchange, End}
use Rattle.structure_laws.specs.body_terms.specs.Line.{line, begins, micro_at, is_check}
use Rattle.structure_laws.specs.body_terms.specs.Shape.{IsStep, IsShaped}
use Rattle.structure_laws.specs.body_terms.specs.Shape as shape
use Rattle.structure_laws.specs.body_terms.proofs.LineLemmas.{past_line, begins_next, micro_count_le}
use Rattle.structure_laws.specs.body_terms.proofs.RegisterLemmas.{step_at}
use Rattle.structure_laws.specs.body_terms.proofs.SoundLemmas.{counted}
use Rattle.structure_laws.proofs.Bodies.{loaded_before}
use Rattle.section_lines.proofs.Places.{Stands, stands, stands_there, part_at, steps_in_order, whole_line}
use Rattle.section_lines.proofs.Sources.{of_stamp, of_answer}
use Rattle.section_lines.specs.Line.{phase, is_clock_raise, IsInPhases, IsStamped}

-- the one step of a body that passes a test
pub record Sole (p : Step → Bool) (body : List Step) : Type 0 where
  pub n : ℕ
  pub step : Step
  pub here : IsStep body n step
  pub passes : p step ≡ true
  pub only : (i : ℕ) (other : Step) → IsStep body i other → p other ≡ true → i ≡ n

-- where one step is counted, there is one
pub sole : (p : Step → Bool) (body : List Step) → count_by p body ≡ 1 → Sole p body
sole p [] one = absurd (omega arith)
sole p (first ∷ steps) one = by (p first) refl (sole p steps)
  where
    more : count_by p (first ∷ steps) ≡ cond (p first) 1 0 + count_by p steps
    more = sum_by-cons (λ s. cond (p s) 1 0) first steps

    by : (b : Bool) → p first ≡ b → (count_by p steps ≡ 1 → Sole p steps) → Sole p (first ∷ steps)
    by true is later = record { n = 0; step = first; here = refl; passes = is; only = only }
      where
        only : (i : ℕ) (other : Step) → IsStep (first ∷ steps) i other → p other ≡ true → i ≡ 0
        only zero other here passes = refl
        only (suc i) other here passes = absurd (
            let again = counted p steps i other here passes in let all = more in
            let here_too : cond {A = ℕ} (p first) 1 0 ≡ 1 = ap (λ b. cond b 1 0) is in omega arith)
    by false is later = record { n = suc rest.n; step = rest.step; here = rest.here; passes = rest.passes; only = only }
      where
        rest : Sole p steps
        rest = later (let not_here : cond {A = ℕ} (p first) 1 0 ≡ 0 = ap (λ b. cond b 1 0) is in let all = more in omega arith)

        only : (i : ℕ) (other : Step) → IsStep (first ∷ steps) i other → p other ≡ true → i ≡ suc rest.n
        only zero other here passes = let same : first ≡ other = cc in absurd (let f = sym is ∙ (ap p same ∙ passes) in cc)
        only (suc i) other here passes = ap suc (rest.only i other here passes)

pub is_the_stamp : (step : Step) → shape.is_stamp step ≡ true → step ≡ Stamp
is_the_stamp (Load place into) e = cc
is_the_stamp (Want reg word) e = cc
is_the_stamp (Fresh reg) e = cc
is_the_stamp (Take place word) e = cc
is_the_stamp (Make init into) e = cc
is_the_stamp Stamp e = refl
is_the_stamp (Store reg value) e = cc
is_the_stamp (Retire slot) e = cc
is_the_stamp (Answer reply) e = cc

is_an_answer : (step : Step) → shape.is_answer step ≡ true → (reply : ℕ) × (step ≡ Answer reply)
is_an_answer (Load place into) e = cc
is_an_answer (Want reg word) e = cc
is_an_answer (Fresh reg) e = cc
is_an_answer (Take place word) e = cc
is_an_answer (Make init into) e = cc
is_an_answer Stamp e = cc
is_an_answer (Store reg value) e = cc
is_an_answer (Retire slot) e = cc
is_an_answer (Answer reply) e = (reply, refl)

phase_most : (step : Step) → shape.phase step ≤ 6
phase_most (Load place into) = omega arith
phase_most (Want reg word) = omega arith
phase_most (Fresh reg) = omega arith
phase_most (Take place word) = omega arith
phase_most (Make init into) = omega arith
phase_most Stamp = omega arith
phase_most (Store reg value) = omega arith
phase_most (Retire slot) = omega arith
phase_most (Answer reply) = omega arith

-- a line doesn't begin with a check: a register would have to be loaded before
starts : (body : List Step) → IsShaped body → is_check (micro_at (line body) 0) ≡ false
starts [] shaped = refl
starts (Load place into ∷ steps) shaped = refl
starts (Want reg word ∷ steps) shaped = let by = loaded_before (Want reg word ∷ steps) shaped 0 reg (Want reg word) [] refl refl in absurd (let early = by.earlier in omega arith)
starts (Fresh reg ∷ steps) shaped = let by = loaded_before (Fresh reg ∷ steps) shaped 0 reg (Fresh reg) [] refl refl in absurd (let early = by.earlier in omega arith)
starts (Take place word ∷ steps) shaped = refl
starts (Make init into ∷ steps) shaped = refl
starts (Stamp ∷ steps) shaped = refl
starts (Store reg value ∷ steps) shaped = refl
starts (Retire slot ∷ steps) shaped = refl
starts (Answer reply ∷ steps) shaped = refl

-- nor with a raise of the clock
pub starts_unraised : (body : List Step) → is_clock_raise (micro_at (line body) 0) ≡ false
starts_unraised [] = refl
starts_unraised (Load place into ∷ steps) = refl
starts_unraised (Want reg word ∷ steps) = refl
starts_unraised (Fresh reg ∷ steps) = refl
starts_unraised (Take place word ∷ steps) = refl
starts_unraised (Make init into ∷ steps) = refl
starts_unraised (Stamp ∷ steps) = refl
starts_unraised (Store reg value ∷ steps) = refl
starts_unraised (Retire slot ∷ steps) = refl
starts_unraised (Answer reply ∷ steps) = refl

module _ (body : List Step) (shaped : IsShaped body) where
  abbrev code : ℕ → Micro
  code i = micro_at (line body) i

  begins_most : (n : ℕ) → n ≤ length body → begins body n ≤ 11 * n
  begins_most zero within = omega arith
  begins_most (suc n) within =
      let step = step_at body n (omega arith) in
      let next = begins_next body n step.0 step.1 in let few = micro_count_le step.0 in let before = begins_most n (omega arith) in omega arith

  short : length (line body) < 440
  short = let most = begins_most (length body) (omega arith) in let all = whole_line body in let few = shaped.short in omega arith

  phase_at : (i : ℕ) (s : Stands body i) → phase (code i) ≡ shape.phase s.step
  phase_at i s = (part_at body i s).in_phase

  inside : (i : ℕ) → i < length (line body) → phase (code i) < 7
  inside i low = let s = stands body i low in let is = phase_at i s in let most = phase_most s.step in omega arith

  outside : (i : ℕ) → length (line body) ≤ i → code i ≡ End
  outside i high = past_line (line body) i high

  steps_rise : (n k : ℕ) (a b : Step) → n ≤ k → IsStep body n a → IsStep body k b → shape.phase a ≤ shape.phase b
  steps_rise n k a b low here there = ⊎_elim
      (λ e. let same : a ≡ b = one n k a b e here there in subst (λ s. shape.phase a ≤ shape.phase s) same (omega arith))
      (λ lt. shaped.phases n k a b lt here there) (order n k low)
    where
      order : (n k : ℕ) → n ≤ k → (n ≡ k) ⊎ (n < k)
      order n k low = search arith

      one : (n k : ℕ) (a b : Step) → n ≡ k → IsStep body n a → IsStep body k b → a ≡ b
      one n k a b e here there = cc

  phases : (i j : ℕ) → i ≤ j → phase (code i) ≤ phase (code j)
  phases i j low = ⊎_elim
      (λ within. let first : i < length (line body) = omega arith in
      let s = stands body i first in let t = stands body j within in
      let a = phase_at i s in let b = phase_at j t in
      let rise = steps_rise s.n t.n s.step t.step (steps_in_order body i j s t low) s.here t.here in omega arith)
      (λ past. let end = ap phase (outside j past) in let most = phase_all i in omega arith) (order j (length (line body)))
    where
      order : (j n : ℕ) → (j < n) ⊎ (n ≤ j)
      order j n = search arith

      phase_all : (i : ℕ) → phase (code i) ≤ 7
      phase_all i = ⊎_elim (λ low. let in_line = inside i low in omega arith) (λ high. let end = ap phase (outside i high) in omega arith) (order i (length (line body)))

  pub is_in_phases : IsInPhases code
  is_in_phases = record { length = length (line body); short = short; inside = inside; outside = outside; phases = phases; start = starts body shaped }

  -- a body has one Answer
  pub one_answer : (answer : ℕ) × ((i n : ℕ) → code i ≡ ReplyExchange n → i ≡ answer)
  one_answer =
      let b = sole shape.is_answer body shaped.answers in (
        begins body b.n + 0,
        λ i n e.
            let s = of_answer body i (ReplyExchange n) e refl in let f = s.1.from in let same = b.only f.n (Answer s.0) f.here refl in
            f.place ∙ ap (λ n. begins body n + 0) same,
      )

  -- one Stamp, and one Answer, whose reply isn't 0
  pub is_stamped : ((j n : ℕ) → IsStep body j (Answer n) → 0 < n) → IsStamped code
  is_stamped some =
      let a = sole shape.is_stamp body shaped.stamps in
      let stamp_here : IsStep body a.n Stamp = subst (IsStep body a.n) (is_the_stamp a.step a.passes) a.here in
      let b = sole shape.is_answer body shaped.answers in
      let reply = is_an_answer b.step b.passes in
      let answer_here : IsStep body b.n (Answer reply.0) = subst (IsStep body b.n) reply.1 b.here in
      record {
        stamp = begins body a.n + 1;
        stamps = stands_there body a.n 1 Stamp stamp_here (omega arith);
        stamp_once = λ i e.
            let f = (of_stamp body i StampExchange e refl).from in let same = a.only f.n Stamp f.here refl in
            f.place ∙ ap (λ n. begins body n + 1) same;
        answer = begins body b.n + 0;
        reply = reply.0;
        answers = stands_there body b.n 0 (Answer reply.0) answer_here (omega arith);
        answer_once = λ i n e.
            let s = of_answer body i (ReplyExchange n) e refl in let f = s.1.from in let same = b.only f.n (Answer s.0) f.here refl in
            f.place ∙ ap (λ n. begins body n + 0) same;
        replies = λ none. let low = some b.n reply.0 answer_here in omega arith;
      }
