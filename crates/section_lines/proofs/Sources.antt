-- From an atomic step of a line to the step of the body to which it belongs.
use Rattle.std.proofs.Common.{◌≡◌, ℕ, ◌+◌, ◌<◌, List, sym, ap, ◌∙◌, subst, arith}
use Rattle.structure_laws.specs.body_terms.specs.declared.value.Init.{Init}
use Rattle.structure_laws.specs.body_terms.specs.declared.value.Value.{Value}
use Rattle.structure_laws.specs.body_terms.specs.declared.step.Step.{Step}
use Rattle.structure_laws.specs.body_terms.specs.declared.step.Step.TheVariants.{Load, Want, Fresh, Take, Make, Stamp, Store, Retire, Answer}
use Rattle.structure_laws.specs.body_terms.specs.declared.micro.Micro.{Micro}
use Rattle.structure_laws.specs.body_terms.specs.Line.{Registers, registers_before, micro_count, line, begins, micro_at}
use Rattle.structure_laws.specs.body_terms.specs.Shape.{IsStep}
use Rattle.section_lines.proofs.Steps.{part_of, owner, part, kind, is_load, is_want, is_fresh, is_take, is_make, is_stamp, is_store, is_retire, is_answer}
use Rattle.section_lines.proofs.Places.{Stands, stands, stands_there, inside, part_at}

same_part : (g : Registers) (a b : Step) (n m : ℕ) → a ≡ b → n ≡ m → part_of g a n ≡ part_of g b m
same_part g a b n m e f = ap (λ step. part_of g step n) e ∙ ap (part_of g b) f

module _ (body : List Step) where
  -- the atomic step at this place
  code : ℕ → Micro
  code i = micro_at (line body) i

  -- this place is that of part `at` of this step of the body
  pub record From (step : Step) (at i : ℕ) : Type 0 where
    pub n : ℕ
    pub here : IsStep body n step
    pub place : i ≡ begins body n + at
    pub within : at < micro_count step
    pub is : micro_at (line body) i ≡ part_of (registers_before body n) step at

  -- the registers before that step
  abbrev pub before : {step : Step} {at i : ℕ} → From step at i → Registers
  before f = registers_before body f.n

  -- the part of a step that stands at a place which is so far from the step's beginning
  pub part_there : {step : Step} {at i : ℕ} (f : From step at i) (k there : ℕ) → k ≡ begins body f.n + there → there < micro_count step
      → micro_at (line body) k ≡ part_of (registers_before body f.n) step there
  part_there {step = step} f k there e within = ap (micro_at (line body)) e ∙ stands_there body f.n there step f.here within

  record Owned (i : ℕ) (micro : Micro) : Type 0 where
    stands : Stands body i
    owns : kind stands.step ≡ owner micro
    is : stands.at ≡ part micro

  owned : (i : ℕ) (micro : Micro) → micro_at (line body) i ≡ micro → owner micro < 9 → Owned i micro
  owned i micro e low =
      let s = stands body i (inside body i (subst (λ m. owner m < 9) (sym e) low)) in
      let p = part_at body i s in
      record { stands = s; owns = sym p.owns ∙ ap owner e; is = sym p.is ∙ ap part e }

  -- the step of this atomic step, and that it is this part of it
  pub record Origin (i : ℕ) (micro : Micro) (step : Step) : Type 0 where
    pub from : From step (part micro) i
    pub same : micro ≡ part_of (registers_before body from.n) step (part micro)

  origin : (i : ℕ) (micro : Micro) → micro_at (line body) i ≡ micro → (o : Owned i micro) → (step : Step) → o.stands.step ≡ step → Origin i micro step
  origin i micro at o step e =
      let s = o.stands in
      let is = s.micro ∙ same_part (registers_before body s.n) s.step step s.at (part micro) e o.is in
      record {
        from = record {
          n = s.n;
          here = subst (IsStep body s.n) e s.here;
          place = s.place ∙ ap (λ k. begins body s.n + k) o.is;
          within = subst (λ m. part micro < micro_count m) e (subst (λ k. k < micro_count s.step) o.is s.within);
          is = is;
        };
        same = sym at ∙ is;
      }

  low : (k n : ℕ) → k ≡ n → n < 9 → k < 9
  low k n e h = omega arith

  -- the step of each kind of atomic step
  pub of_load : (i : ℕ) (micro : Micro) → micro_at (line body) i ≡ micro → owner micro ≡ 0 → (place into : ℕ) × Origin i micro (Load place into)
  of_load i micro at o =
      let own = owned i micro at (low _ _ o (omega arith)) in let s = is_load own.stands.step (own.owns ∙ o) in
      (s.0, s.1, origin i micro at own (Load s.0 s.1) s.2)

  pub of_want : (i : ℕ) (micro : Micro) → micro_at (line body) i ≡ micro → owner micro ≡ 1 → (reg word : ℕ) × Origin i micro (Want reg word)
  of_want i micro at o =
      let own = owned i micro at (low _ _ o (omega arith)) in let s = is_want own.stands.step (own.owns ∙ o) in
      (s.0, s.1, origin i micro at own (Want s.0 s.1) s.2)

  pub of_fresh : (i : ℕ) (micro : Micro) → micro_at (line body) i ≡ micro → owner micro ≡ 2 → (reg : ℕ) × Origin i micro (Fresh reg)
  of_fresh i micro at o =
      let own = owned i micro at (low _ _ o (omega arith)) in let s = is_fresh own.stands.step (own.owns ∙ o) in
      (s.0, origin i micro at own (Fresh s.0) s.1)

  pub of_take : (i : ℕ) (micro : Micro) → micro_at (line body) i ≡ micro → owner micro ≡ 3 → (place word : ℕ) × Origin i micro (Take place word)
  of_take i micro at o =
      let own = owned i micro at (low _ _ o (omega arith)) in let s = is_take own.stands.step (own.owns ∙ o) in
      (s.0, s.1, origin i micro at own (Take s.0 s.1) s.2)

  pub of_make : (i : ℕ) (micro : Micro) → micro_at (line body) i ≡ micro → owner micro ≡ 4 → (init : Init) × (into : ℕ) × Origin i micro (Make init into)
  of_make i micro at o =
      let own = owned i micro at (low _ _ o (omega arith)) in let s = is_make own.stands.step (own.owns ∙ o) in
      (s.0, s.1, origin i micro at own (Make s.0 s.1) s.2)

  pub of_store : (i : ℕ) (micro : Micro) → micro_at (line body) i ≡ micro → owner micro ≡ 6 → (reg : ℕ) × (value : Value) × Origin i micro (Store reg value)
  of_store i micro at o =
      let own = owned i micro at (low _ _ o (omega arith)) in let s = is_store own.stands.step (own.owns ∙ o) in
      (s.0, s.1, origin i micro at own (Store s.0 s.1) s.2)

  pub of_retire : (i : ℕ) (micro : Micro) → micro_at (line body) i ≡ micro → owner micro ≡ 7 → (slot : ℕ) × Origin i micro (Retire slot)
  of_retire i micro at o =
      let own = owned i micro at (low _ _ o (omega arith)) in let s = is_retire own.stands.step (own.owns ∙ o) in
      (s.0, origin i micro at own (Retire s.0) s.1)

  pub of_answer : (i : ℕ) (micro : Micro) → micro_at (line body) i ≡ micro → owner micro ≡ 8 → (reply : ℕ) × Origin i micro (Answer reply)
  of_answer i micro at o =
      let own = owned i micro at (low _ _ o (omega arith)) in let s = is_answer own.stands.step (own.owns ∙ o) in
      (s.0, origin i micro at own (Answer s.0) s.1)

  pub of_stamp : (i : ℕ) (micro : Micro) → micro_at (line body) i ≡ micro → owner micro ≡ 5 → Origin i micro Stamp
  of_stamp i micro at o = let own = owned i micro at (low _ _ o (omega arith)) in origin i micro at own Stamp (is_stamp own.stands.step (own.owns ∙ o))
