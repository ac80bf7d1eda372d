-- What one step changes in a run that goes on.
use Rattle.std.proofs.Common.{◌≡◌, ◌≢◌, ℕ, ◌+◌, List, [], ◌∷◌, ◌++◌, length, refl, sym, ap, ◌∙◌, subst, arith, length-append, append_assoc, Some, None, Option}
use Rattle.std.specs.Prelude.{true, false, cond, ◌==◌, slice_index, slice_index_or}
use Rattle.std.proofs.lemmas.Bool.Decides.{nat_tests}
use Rattle.body_terms.specs.Update.{upd}
use Rattle.body_terms.specs.Word.{version_of, next_word}
use Rattle.body_terms.specs.Memory.{cell_of}
use Rattle.body_terms.specs.Line.{Registers, source_of, micros, log_words}
use Rattle.body_terms.specs.Run.{Setting, Run, ran, unless_over, acted, leaves, source_value, exchanged}
use Rattle.body_terms.specs.Shape.{is_make, is_stamp, is_retire, is_answer}
use Rattle.body_terms.specs.declared.value.Value.{Value}
use Rattle.body_terms.specs.declared.value.Value.TheVariants.{Const}
use Rattle.body_terms.specs.declared.value.Init.{Init}
use Rattle.body_terms.specs.declared.step.Step.{Step}
use Rattle.body_terms.specs.declared.step.Step.TheVariants.{Load, Want, Fresh, Take, Make, Stamp, Store, Retire, Answer}
use Rattle.body_terms.specs.declared.outcome.Outcome.{Outcome}
use Rattle.body_terms.specs.declared.micro.Micro.{Micro}
use Rattle.body_terms.specs.declared.micro.Micro.TheVariants.{CheckFree, CheckHeld, NestedHold, OutcomeLoad, OutcomeCommit}

-- a run goes through one part of a line after the other
pub ran-append : (s : Setting) (r : Run) (front back : List Micro) → ran s r (front ++ back) ≡ ran s (ran s r front) back
ran-append s r [] back = refl
ran-append s r (micro ∷ front) back = ran-append s (unless_over r.outcome (acted s micro r) r) front back

-- a run with an outcome stands still
pub ran_over : (s : Setting) (r : Run) (outcome : Outcome) (ms : List Micro) → r.outcome ≡ Some outcome → ran s r ms ≡ r
ran_over s r outcome [] over = refl
ran_over s r outcome (micro ∷ rest) over =
    ap (λ o. ran s (unless_over o (acted s micro r) r) rest) over ∙ ran_over s r outcome rest over

-- the cells as a Make leaves them
abbrev pub made_cells : Setting → Registers → Init → Run → ℕ → ℕ
made_cells s g init r =
    let place : ℕ → ℕ = λ cell. cell_of s.fixed_cells (s.slot g.count) cell in
    let word : ℕ → ℕ = λ cell. next_word (s.first g.count cell) (source_value r.trail (source_of g (slice_index_or init.cells cell (Const 0)))) in
    upd (upd (upd (upd (upd r.cells (place 0) (word 0)) (place 1) (word 1)) (place 2) (word 2)) (place 3) (word 3)) (place 4) (word 4)

-- the cells as a Store leaves them
abbrev pub stored_cells : Registers → ℕ → Value → Run → ℕ → ℕ
stored_cells g reg value r = let old = slice_index r.trail (g.log reg) in exchanged r.cells (g.place reg) old (next_word old (source_value r.trail (source_of g value)))

-- the cells after a step
abbrev pub cells_after : Setting → Registers → Step → Run → ℕ → ℕ
cells_after s g (Make init into) r = made_cells s g init r
cells_after s g (Store reg value) r = stored_cells g reg value r
cells_after s g _ r = r.cells

-- a Fresh that passes has seen another version
abbrev pub FreshPassed : Setting → Registers → Step → Run → Type 0
FreshPassed s g (Fresh reg) r = version_of (slice_index r.trail (g.log reg)) ≢ s.version_max
FreshPassed s g _ r = Unit {0}

-- a Load agrees on its cell's word
abbrev pub LoadAgreed : Step → Run → List ℕ → Type 0
LoadAgreed (Load place into) r extra = extra ≡ r.cells place ∷ []
LoadAgreed _ r extra = Unit {0}

-- what a step changes in a run that goes on behind it
pub record Change (s : Setting) (g : Registers) (step : Step) (r after : Run) : Type 0 where
  pub extra : List ℕ
  pub trail : after.trail ≡ r.trail ++ extra
  pub words : length extra ≡ log_words step
  pub made : length after.made ≡ length r.made + cond (is_make step) 1 0
  pub retired : length after.retired ≡ length r.retired + cond (is_retire step) 1 0
  pub clock : is_stamp step ≡ false → after.clock ≡ r.clock
  pub unanswered : is_answer step ≡ false
  pub cells : after.cells ≡ cells_after s g step r
  pub passed : FreshPassed s g step r
  pub agreed : LoadAgreed step r extra

append_nil : (xs : List ℕ) → xs ≡ xs ++ []
append_nil [] = refl
append_nil (x ∷ xs) = ap (λ rest. x ∷ rest) (append_nil xs)

plus_zero : (n : ℕ) → n ≡ n + 0
plus_zero n = omega arith

-- a test that doesn't hold leads to the other case
passes_only : (v max : ℕ) (o : Outcome) → cond (v == max) (Some o) None ≡ None → v ≢ max
passes_only v max o none same = no_outcome (ap (λ b. cond b (Some o) None) (eq_true v max same)) none
  where
    eq_true : (a b : ℕ) → a ≡ b → (a == b) ≡ true
    eq_true a b e = grind (arith, nat_tests)

    no_outcome : {x : Option Outcome} → x ≡ Some o → x ≡ None → ⊥
    no_outcome e f = cc

module _ (s : Setting) (g : Registers) (run : Run) where
  -- a change of the run said to have no outcome is one of the run
  resumed : (step : Step) → run.outcome ≡ None → ((ran s (record run { outcome = None }) (micros g step)).outcome ≡ None → Change s g step (record run { outcome = None }) (ran s (record run { outcome = None }) (micros g step))) → (ran s run (micros g step)).outcome ≡ None → Change s g step run (ran s run (micros g step))
  resumed step unended change =
      subst (λ r. (ran s r (micros g step)).outcome ≡ None → Change s g step r (ran s r (micros g step))) (ap (λ o. record run { outcome = o }) (sym unended)) change

  -- behind the first check of a Take: either way the cells, the lists and the clock stay
  take_change : (place word : ℕ) (o : Option Outcome) → (ran s (record run { trail = run.trail ++ s.taken g.count ∷ []; outcome = o }) (NestedHold place word ∷ OutcomeLoad place (g.count + 1) ∷ OutcomeCommit place (g.count + 1) ∷ CheckHeld place (g.count + 1) word ∷ [])).outcome ≡ None
      → Change s g (Take place word) (record run { outcome = None }) (ran s (record run { trail = run.trail ++ s.taken g.count ∷ []; outcome = o }) (NestedHold place word ∷ OutcomeLoad place (g.count + 1) ∷ OutcomeCommit place (g.count + 1) ∷ CheckHeld place (g.count + 1) word ∷ []))
  take_change place word None none = record {
    extra = s.taken g.count ∷ s.taken (g.count + 1) ∷ [];
    trail = append_assoc run.trail (s.taken g.count ∷ []) (s.taken (g.count + 1) ∷ []);
    words = refl;
    made = plus_zero _;
    retired = plus_zero _;
    clock = λ _. refl;
    unanswered = refl;
    cells = refl;
    passed = tt;
    agreed = tt;
  }
  take_change place word (Some out) none = absurd (over out none)
    where
      over : (out : Outcome) → Some out ≡ None → ⊥
      over out e = cc

  pub changes : (step : Step) → run.outcome ≡ None → (ran s run (micros g step)).outcome ≡ None → Change s g step run (ran s run (micros g step))
  changes (Load place into) unended = resumed (Load place into) unended (λ none. record { extra = run.cells place ∷ []; trail = refl; words = refl; made = plus_zero _; retired = plus_zero _; clock = λ _. refl; unanswered = refl; cells = refl; passed = tt; agreed = refl })
  changes (Want reg word) unended = resumed (Want reg word) unended (λ none. record { extra = []; trail = append_nil _; words = refl; made = plus_zero _; retired = plus_zero _; clock = λ _. refl; unanswered = refl; cells = refl; passed = tt; agreed = tt })
  changes (Fresh reg) unended = resumed (Fresh reg) unended (λ none. record { extra = []; trail = append_nil _; words = refl; made = plus_zero _; retired = plus_zero _; clock = λ _. refl; unanswered = refl; cells = refl; passed = passes_only _ _ _ none; agreed = tt })
  changes (Take place word) unended = resumed (Take place word) unended (take_change place word (leaves s (run.trail ++ s.taken g.count ∷ []) (CheckFree place g.count word)))
  changes (Make init into) unended = resumed (Make init into) unended (λ none. record { extra = (s.slot g.count + 1) ∷ []; trail = refl; words = refl; made = length-append run.made (s.slot g.count ∷ []); retired = plus_zero _; clock = λ _. refl; unanswered = refl; cells = refl; passed = tt; agreed = tt })
  changes Stamp unended = resumed Stamp unended (λ none. record { extra = []; trail = append_nil _; words = refl; made = plus_zero _; retired = plus_zero _; clock = λ e. absurd (no e); unanswered = refl; cells = refl; passed = tt; agreed = tt })
    where
      no : is_stamp Stamp ≡ false → ⊥
      no e = cc
  changes (Store reg value) unended = resumed (Store reg value) unended (λ none. record { extra = []; trail = append_nil _; words = refl; made = plus_zero _; retired = plus_zero _; clock = λ _. refl; unanswered = refl; cells = refl; passed = tt; agreed = tt })
  changes (Retire slot) unended = resumed (Retire slot) unended (λ none. record { extra = (slot + 1) ∷ []; trail = refl; words = refl; made = plus_zero _; retired = length-append run.retired (slot ∷ []); clock = λ _. refl; unanswered = refl; cells = refl; passed = tt; agreed = tt })
  changes (Answer reply) unended = resumed (Answer reply) unended (λ none. absurd (over none))
    where
      over : {o : Outcome} → Some o ≡ None → ⊥
      over e = cc
