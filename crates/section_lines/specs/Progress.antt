-- How far a section has come in its body, by the furthest place of its line that a run has come to and by its log.
use Rattle.std.specs.Prelude.{ℕ, suc, ◌+◌, ◌-◌, List, [], ◌∷◌, nat_le, if◌then◌else◌, take}
use Rattle.structure_laws.specs.map_history.specs.declared.op.Op.{Op}
use Rattle.structure_laws.specs.body_terms.specs.Line.{log_words, micro_count}
use Rattle.structure_laws.specs.body_terms.specs.Update.{upd}
use Rattle.structure_laws.specs.body_terms.specs.Word.{value_of}
use Rattle.structure_laws.specs.body_terms.specs.declared.micro.Source.{Source}
use Rattle.structure_laws.specs.body_terms.specs.declared.micro.Source.TheVariants.{Fixed, Agreed}
use Rattle.structure_laws.specs.body_terms.specs.declared.step.Step.{Step}
use Rattle.structure_laws.specs.body_terms.specs.declared.step.Step.TheVariants.{Load, Want, Fresh, Take, Make, Stamp, Store, Retire, Answer}
use Rattle.structure_laws.specs.body_terms.specs.declared.thunk.Thunk.{Thunk}
use Rattle.structure_laws.specs.Scene.{Readings, Section}

-- how many steps of a body have all their atomic steps below this place of its line
abbrev pub passed_steps : List Step → ℕ → ℕ
passed_steps [] edge = 0
passed_steps (step ∷ steps) edge =
    if nat_le (micro_count step) edge then suc (passed_steps steps (edge - micro_count step)) else 0

-- the registers' words after a step, before which so many words were committed
abbrev pub words_after : (ℕ → ℕ) → ℕ → (ℕ → ℕ) → Step → ℕ → ℕ
words_after log count reg (Load place into) = upd reg into (log count)
words_after log count reg (Make init into) = upd reg into (log count)
words_after log count reg (Want r word) = reg
words_after log count reg (Fresh r) = reg
words_after log count reg (Take place word) = reg
words_after log count reg Stamp = reg
words_after log count reg (Store r value) = reg
words_after log count reg (Retire slot) = reg
words_after log count reg (Answer reply) = reg

-- the registers' words after these steps
abbrev pub words_through : (ℕ → ℕ) → ℕ → (ℕ → ℕ) → List Step → ℕ → ℕ
words_through log count reg [] = reg
words_through log count reg (step ∷ steps) =
    words_through log (count + log_words step) (words_after log count reg step) steps

-- the registers' words after the first n steps of a body
abbrev pub words_of : (ℕ → ℕ) → List Step → ℕ → ℕ → ℕ
words_of log body n = words_through log 0 (λ r. 0) (take n body)

-- the section of this operation and thunk, whose publisher had these readings, as far as it has come
abbrev pub section_at : Op → Thunk → Readings → List Step → (ℕ → ℕ) → ℕ → Section
section_at op thunk readings body log edge = record {
  op = op;
  thunk = thunk;
  readings = readings;
  at = passed_steps body edge;
  reg = words_of log body (passed_steps body edge);
}

-- what a store writes, by the words of a log
abbrev pub source_word : (ℕ → ℕ) → Source → ℕ
source_word log (Fixed number) = number
source_word log (Agreed k) = value_of (log k)
