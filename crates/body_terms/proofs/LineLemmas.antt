-- Registers and lines, step by step.
use Rattle.std.proofs.Common.{◌≡◌, ℕ, zero, suc, ◌+◌, ◌-◌, ◌*◌, ◌<◌, ◌≤◌, List, [], ◌∷◌, ◌++◌, length, take, drop, refl, sym, ap, ◌∙◌, subst, arith, append_assoc, length-append, Some, slice_get, get_or}
use Rattle.std.specs.Prelude.{slice_index_or}
use Rattle.std.proofs.lemmas.List.{get_or-append-add, get_or_append_left}
use Rattle.std.proofs.lemmas.Option.{slice_get-get_or}
use Rattle.body_terms.specs.declared.step.Step.{Step}
use Rattle.body_terms.specs.declared.step.Step.TheVariants.{Load, Want, Fresh, Take, Make, Stamp, Store, Retire, Answer}
use Rattle.body_terms.specs.declared.micro.Micro.{Micro}
use Rattle.body_terms.specs.declared.micro.Micro.TheVariants.{End}
use Rattle.body_terms.specs.Line.{Registers, no_registers, registers_after, registers_through, registers_before, log_words, micro_count, micros, line_from, line, begins, micro_at}

-- the words committed grow by those of each step
pub count_after : (g : Registers) (step : Step) → (registers_after g step).count ≡ g.count + log_words step
count_after g (Load place into) = refl
count_after g (Want reg word) = omega arith
count_after g (Fresh reg) = omega arith
count_after g (Take place word) = refl
count_after g (Make init into) = refl
count_after g Stamp = omega arith
count_after g (Store reg value) = omega arith
count_after g (Retire slot) = refl
count_after g (Answer reply) = omega arith

-- no step commits more than two words
pub log_words_le : (step : Step) → log_words step ≤ 2
log_words_le (Load place into) = omega arith
log_words_le (Want reg word) = omega arith
log_words_le (Fresh reg) = omega arith
log_words_le (Take place word) = omega arith
log_words_le (Make init into) = omega arith
log_words_le Stamp = omega arith
log_words_le (Store reg value) = omega arith
log_words_le (Retire slot) = omega arith
log_words_le (Answer reply) = omega arith

-- the atomic steps of a step are as many as its count
pub length-micros : (g : Registers) (step : Step) → length (micros g step) ≡ micro_count step
length-micros g (Load place into) = refl
length-micros g (Want reg word) = refl
length-micros g (Fresh reg) = refl
length-micros g (Take place word) = refl
length-micros g (Make init into) = refl
length-micros g Stamp = refl
length-micros g (Store reg value) = refl
length-micros g (Retire slot) = refl
length-micros g (Answer reply) = refl

-- no step has more than eleven atomic steps
pub micro_count_le : (step : Step) → micro_count step ≤ 11
micro_count_le (Load place into) = omega arith
micro_count_le (Want reg word) = omega arith
micro_count_le (Fresh reg) = omega arith
micro_count_le (Take place word) = omega arith
micro_count_le (Make init into) = omega arith
micro_count_le Stamp = omega arith
micro_count_le (Store reg value) = omega arith
micro_count_le (Retire slot) = omega arith
micro_count_le (Answer reply) = omega arith

-- a list of steps up to step n, that step, and the rest
pub split_at : (steps : List Step) (n : ℕ) (step : Step) → slice_get steps n ≡ Some step → steps ≡ take n steps ++ step ∷ drop (suc n) steps
split_at [] n step at = cc
split_at (first ∷ steps) zero step at = let same : first ≡ step = cc in ap (λ s. s ∷ steps) same
split_at (first ∷ steps) (suc n) step at = ap (λ rest. first ∷ rest) (split_at steps n step at)

-- one more step at the end of the first ones
pub take_next : (steps : List Step) (n : ℕ) (step : Step) → slice_get steps n ≡ Some step → take (suc n) steps ≡ take n steps ++ step ∷ []
take_next [] n step at = cc
take_next (first ∷ steps) zero step at = let same : first ≡ step = cc in ap (λ s. s ∷ []) same
take_next (first ∷ steps) (suc n) step at = ap (λ rest. first ∷ rest) (take_next steps n step at)

-- registers go through one part after the other
pub registers_through-append : (g : Registers) (front back : List Step) → registers_through g (front ++ back) ≡ registers_through (registers_through g front) back
registers_through-append g [] back = refl
registers_through-append g (step ∷ front) back = registers_through-append (registers_after g step) front back

-- the registers before the next step
pub registers_before_next : (body : List Step) (n : ℕ) (step : Step) → slice_get body n ≡ Some step → registers_before body (suc n) ≡ registers_after (registers_before body n) step
registers_before_next body n step at =
    ap (registers_through no_registers) (take_next body n step at) ∙ registers_through-append no_registers (take n body) (step ∷ [])

-- before step n at most two words for each step were committed
pub count_through_le : (g : Registers) (steps : List Step) → (registers_through g steps).count ≤ g.count + 2 * length steps
count_through_le g [] = omega arith
count_through_le g (step ∷ steps) = omega (arith, count_through_le (registers_after g step) steps, count_after g step, log_words_le step)

-- a line goes on behind its first part
pub line_from-append : (g : Registers) (front back : List Step) → line_from g (front ++ back) ≡ line_from g front ++ line_from (registers_through g front) back
line_from-append g [] back = refl
line_from-append g (step ∷ front) back =
    ap (λ rest. micros g step ++ rest) (line_from-append (registers_after g step) front back) ∙ sym (append_assoc (micros g step) _ _)

-- the line of the first steps and one more
pub line_next : (body : List Step) (n : ℕ) (step : Step) → slice_get body n ≡ Some step → line (take (suc n) body) ≡ line (take n body) ++ micros (registers_before body n) step
line_next body n step at =
    ap line (take_next body n step at) ∙ (line_from-append no_registers (take n body) (step ∷ []) ∙ ap (λ rest. line (take n body) ++ rest) (append_nil _))
  where
    append_nil : (ms : List Micro) → ms ++ [] ≡ ms
    append_nil [] = refl
    append_nil (m ∷ ms) = ap (λ rest. m ∷ rest) (append_nil ms)

-- where the next step begins
pub begins_next : (body : List Step) (n : ℕ) (step : Step) → slice_get body n ≡ Some step → begins body (suc n) ≡ begins body n + micro_count step
begins_next body n step at =
    ap length (line_next body n step at) ∙ (length-append (line (take n body)) (micros (registers_before body n) step) ∙ ap (λ k. begins body n + k) (length-micros (registers_before body n) step))

-- a line up to step n, that step's atomic steps, and the rest
pub line_split : (body : List Step) (n : ℕ) (step : Step) → slice_get body n ≡ Some step → line body ≡ line (take n body) ++ (micros (registers_before body n) step ++ line_from (registers_after (registers_before body n) step) (drop (suc n) body))
line_split body n step at =
    ap line (split_at body n step at) ∙ line_from-append no_registers (take n body) (step ∷ drop (suc n) body)

-- the atomic step `part` of step n
pub micro_within : (body : List Step) (n part : ℕ) (step : Step) → slice_get body n ≡ Some step → part < micro_count step → micro_at (line body) (begins body n + part) ≡ slice_index_or (micros (registers_before body n) step) part End
micro_within body n part step at within =
    let inside : part < length (micros (registers_before body n) step) = subst (λ k. part < k) (sym (length-micros (registers_before body n) step)) within in
    ap (λ ms. get_or ms (begins body n + part) End) (line_split body n step at)
    ∙ (get_or-append-add (line (take n body)) _ part End ∙ get_or_append_left (micros (registers_before body n) step) _ End part inside)

-- the whole body is its first part, from its length on
pub take_all : (steps : List Step) (n : ℕ) → length steps ≤ n → take n steps ≡ steps
take_all [] zero h = refl
take_all [] (suc n) h = refl
take_all (step ∷ steps) zero h = absurd (omega arith)
take_all (step ∷ steps) (suc n) h = ap (λ rest. step ∷ rest) (take_all steps n (omega arith))

-- past the line stands its end
pub past_line : (ms : List Micro) (at : ℕ) → length ms ≤ at → micro_at ms at ≡ End
past_line [] at h = refl
past_line (m ∷ ms) zero h = absurd (omega arith)
past_line (m ∷ ms) (suc at) h = past_line ms at (omega arith)

-- a step that code reads at place n
pub read_step : (body : List Step) (n : ℕ) (step : Step) → n < length body → step ≡ get_or body n step → slice_get body n ≡ Some step
read_step body n step within is = slice_get-get_or body n step within ∙ ap (λ (s : Step). Some s) (sym is)

-- the registers before the next step, as code reads that step
pub registers_before_more : (body : List Step) (n : ℕ) (step : Step) → n < length body → step ≡ get_or body n step → registers_before body (n + 1) ≡ registers_after (registers_before body n) step
registers_before_more body n step within is =
    (let next : n + 1 ≡ suc n = omega arith in ap (registers_before body) next) ∙ registers_before_next body n step (read_step body n step within is)

-- how many words were committed before the next step
pub count_more : (body : List Step) (n : ℕ) (step : Step) → n < length body → step ≡ get_or body n step → (registers_before body (n + 1)).count ≡ (registers_before body n).count + log_words step
count_more body n step within is =
    ap (λ (g : Registers). g.count) (registers_before_more body n step within is) ∙ count_after (registers_before body n) step

-- where the next step begins
pub begins_more : (body : List Step) (n : ℕ) (step : Step) → n < length body → step ≡ get_or body n step → begins body (n + 1) ≡ begins body n + micro_count step
begins_more body n step within is =
    (let next : n + 1 ≡ suc n = omega arith in ap (begins body) next) ∙ begins_next body n step (read_step body n step within is)

-- the atomic step at a place within step n
pub micro_found : (body : List Step) (n at begin : ℕ) (step : Step) → n < length body → step ≡ get_or body n step → begin ≡ begins body n → begin ≤ at → at - begin < micro_count step → micro_at (line body) at ≡ slice_index_or (micros (registers_before body n) step) (at - begin) End
micro_found body n at begin step within is same past inside =
    let whole : at ≡ begins body n + (at - begin) = omega arith in
    ap (micro_at (line body)) whole ∙ micro_within body n (at - begin) step (read_step body n step within is) inside

-- past the last step's atomic steps stands the end
pub micro_past : (body : List Step) (n at : ℕ) → length body ≤ n → begins body n ≤ at → micro_at (line body) at ≡ End
micro_past body n at all past =
    past_line (line body) at (subst (λ steps. length (line steps) ≤ at) (take_all body n all) past)
