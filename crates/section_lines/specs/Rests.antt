-- Where a run rests in its line, by the steps of its body, and which locks it has to release there.
use Rattle.std.specs.Prelude.{◌≡◌, ℕ, suc, ◌+◌, ◌<◌, List, [], ◌∷◌, Bool, true, false, take, length, Some, None}
use Rattle.structure_laws.specs.body_terms.specs.declared.step.Step.{Step}
use Rattle.structure_laws.specs.body_terms.specs.declared.step.Step.TheVariants.{Want, Fresh, Take}
use Rattle.structure_laws.specs.body_terms.specs.declared.outcome.Outcome.{Outcome}
use Rattle.structure_laws.specs.body_terms.specs.declared.micro.Micro.{Micro}
use Rattle.structure_laws.specs.body_terms.specs.declared.micro.Micro.TheVariants.{Release}
use Rattle.structure_laws.specs.body_terms.specs.Line.{line, begins, micro_at, micro_count, is_check, releases}
use Rattle.structure_laws.specs.body_terms.specs.Run.{Setting, leaves, settled}
use Rattle.structure_laws.specs.body_terms.specs.Shape.{IsStep}

-- a step that is a check alone
abbrev pub is_test : Step → Bool
is_test (Want reg word) = true
is_test (Fresh reg) = true
is_test _ = false

-- the releases of the locks that these steps take, in their order
abbrev pub taken_releases : List Step → List Micro
taken_releases [] = []
taken_releases (Take place word ∷ steps) = Release place word ∷ taken_releases steps
taken_releases (step ∷ steps) = taken_releases steps

-- a run goes behind a check that passes, and rests before any other step of its line
pub record RestsAt (s : Setting) (trail : List ℕ) (ms : List Micro) : Type 0 where
  pub goes : (at : ℕ) → is_check (micro_at ms at) ≡ true → leaves s trail (micro_at ms at) ≡ None
      → settled s trail ms at ≡ settled s trail ms (suc at)
  pub stays : (at : ℕ) → is_check (micro_at ms at) ≡ false → settled s trail ms at ≡ at
  pub leaves : (at : ℕ) (outcome : Outcome) → leaves s trail (micro_at ms at) ≡ Some outcome
      → settled s trail ms at ≡ at

-- where a run rests that came to step n of a body, with these words agreed
abbrev pub rests : Setting → List ℕ → List Step → ℕ → ℕ
rests s trail body n = settled s trail (line body) (begins body n)

-- where it rests at each step, and what it would have to release there
pub record Rests (s : Setting) (trail : List ℕ) (body : List Step) : Type 0 where
  -- before a step that isn't a check alone
  pub before : (n : ℕ) (step : Step) → IsStep body n step → is_test step ≡ false
      → rests s trail body n ≡ begins body n
  -- a check alone that passes plays no part
  pub behind : (n : ℕ) (step : Step) → IsStep body n step → is_test step ≡ true
      → leaves s trail (micro_at (line body) (begins body n)) ≡ None
      → rests s trail body n ≡ rests s trail body (suc n)
  -- at one that doesn't pass it rests, to leave
  pub at : (n : ℕ) (step : Step) (outcome : Outcome) → IsStep body n step
      → leaves s trail (micro_at (line body) (begins body n)) ≡ Some outcome
      → rests s trail body n ≡ begins body n
  -- behind the last step it rests at the line's end
  pub end : rests s trail body (length body) ≡ length (line body)
  -- within a step it has the locks of the Takes before that step, and at the end all
  pub taken : (n at : ℕ) (step : Step) → IsStep body n step → at < micro_count step
      → releases (take (begins body n + at) (line body)) ≡ taken_releases (take n body)
  pub all_taken : releases (line body) ≡ taken_releases body
