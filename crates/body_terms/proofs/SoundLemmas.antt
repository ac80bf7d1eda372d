-- What holds of a run in one go before each step, and what the step needs.
use Rattle.std.proofs.Common.{◌≡◌, ◌≢◌, ℕ, zero, suc, ◌+◌, ◌<◌, ◌≤◌, List, [], ◌∷◌, ◌++◌, length, take, drop, refl, sym, ap, ◌∙◌, subst, arith, length-append, Some, ⊎_elim}
use Rattle.std.specs.Prelude.{Bool, true, false, cond, count_by, slice_index, slice_index_or}
use Rattle.std.proofs.lemmas.Bool.{cases_eq}
use Rattle.std.proofs.lemmas.Bool.Decides.{nat_tests}
use Rattle.std.proofs.lemmas.List.{get_or_append_left}
use Rattle.std.proofs.Math.Seq.{get_or-append_seam}
use Rattle.std.proofs.lemmas.List.Sums.{sum_by-append, sum_by-take-le}
use Rattle.std.proofs.lemmas.Option.{slice_get_within}
use Rattle.body_terms.specs.Update.{upd}
use Rattle.body_terms.specs.Word.{version_of, next_word}
use Rattle.body_terms.specs.Memory.{PlainMemory, cell_of}
use Rattle.body_terms.specs.Line.{Registers, registers_before, source_of}
use Rattle.body_terms.specs.Run.{Setting, Run, source_value}
use Rattle.body_terms.specs.Plain.{Choice, no_choice, choices, choice_at, plain_setting, PlacesFit, SlotsFit, VersionsFit}
use Rattle.body_terms.specs.Shape.{IsStep, IsShaped, phase, is_take, is_make, is_stamp, is_retire, is_answer}
use Rattle.body_terms.specs.declared.value.Value.TheVariants.{Const, Of}
use Rattle.body_terms.specs.declared.value.Init.{Init}
use Rattle.body_terms.specs.declared.step.Step.{Step}
use Rattle.body_terms.specs.declared.step.Step.TheVariants.{Load, Want, Fresh, Take, Make, Stamp, Store, Retire, Answer}
use Rattle.body_terms.proofs.LineLemmas.{take_next, registers_before_next, count_after}
use Rattle.body_terms.proofs.RegisterLemmas.{logged, step_at, committed_below, count_rises}
use Rattle.body_terms.proofs.RunLemmas.{Change, cells_after, FreshPassed, LoadAgreed}
use Rattle.body_terms.proofs.ChoiceLemmas.{choices_here}

-- the first element behind the first m
pub first_dropped : (m : ℕ) (xs : List ℕ) → slice_index (drop m xs) 0 ≡ slice_index xs m
first_dropped zero xs = same xs
  where
    same : (xs : List ℕ) → slice_index (drop 0 xs) 0 ≡ slice_index xs 0
    same [] = refl
    same (x ∷ xs) = refl
first_dropped (suc m) [] = refl
first_dropped (suc m) (x ∷ xs) = first_dropped m xs

-- one more step counted
pub count_by_next : (p : Step → Bool) (body : List Step) (n : ℕ) (step : Step) → IsStep body n step → count_by p (take (suc n) body) ≡ count_by p (take n body) + cond (p step) 1 0
count_by_next p body n step here =
    ap (count_by p) (take_next body n step here)
    ∙ (sum_by-append (λ s. cond (p s) 1 0) (take n body) (step ∷ []) ∙ ap (λ k. count_by p (take n body) + k) (zero_plus (cond (p step) 1 0)))
  where
    zero_plus : (k : ℕ) → 0 + k ≡ k
    zero_plus k = omega arith

counts_one : (b : Bool) → b ≡ true → cond {A = ℕ} b 1 0 ≡ 1
counts_one true is = refl
counts_one false is = cc

counts_none : (b : Bool) → b ≡ false → cond {A = ℕ} b 1 0 ≡ 0
counts_none true is = cc
counts_none false is = refl

-- a count that is nothing with one more step
counts_nothing : (a : ℕ) (b : Bool) → a + cond {A = ℕ} b 1 0 ≡ 0 → (a ≡ 0) × (b ≡ false)
counts_nothing a true is = absurd (omega arith)
counts_nothing a false is = (omega arith, refl)

-- a counted step at place n is within the whole count
pub counted : (p : Step → Bool) (body : List Step) (n : ℕ) (step : Step) → IsStep body n step → p step ≡ true → count_by p (take n body) + 1 ≤ count_by p body
counted p body n step here holds =
    let next = count_by_next p body n step here in
    let one = counts_one (p step) holds in
    let most = sum_by-take-le (λ s. cond (p s) 1 0) body (suc n) in
    omega arith

-- none is counted where each step before fails the test
pub none_counted : (p : Step → Bool) (body : List Step) (n : ℕ) → n ≤ length body → ((i : ℕ) (step : Step) → i < n → IsStep body i step → p step ≡ false) → count_by p (take n body) ≡ 0
none_counted p body zero within none = nothing body
  where
    nothing : (body : List Step) → count_by p (take 0 body) ≡ 0
    nothing [] = refl
    nothing (step ∷ steps) = refl
none_counted p body (suc n) within none =
    let below : n < suc n = omega arith in
    let at = step_at body n within in
    let next = count_by_next p body n at.0 at.1 in
    let nought = counts_none (p at.0) (none n at.0 below at.1) in
    let before = none_counted p body n (omega arith) (λ i step low. none i step (omega arith)) in
    omega arith

-- a step of phase 1 makes no slot
not_make : (step : Step) → phase step ≤ 1 → is_make step ≡ false
not_make (Load place into) low = refl
not_make (Want reg word) low = refl
not_make (Fresh reg) low = refl
not_make (Take place word) low = refl
not_make (Make init into) low = absurd (omega arith)
not_make Stamp low = refl
not_make (Store reg value) low = refl
not_make (Retire slot) low = refl
not_make (Answer reply) low = refl

upd_other : (f : ℕ → ℕ) (k v i : ℕ) → i ≢ k → upd f k v i ≡ f i
upd_other f k v i ne = grind (arith, nat_tests)

-- five changes elsewhere
five_others : (f place word : ℕ → ℕ) (p : ℕ) → ((cell : ℕ) → cell < 5 → p ≢ place cell) → upd (upd (upd (upd (upd f (place 0) (word 0)) (place 1) (word 1)) (place 2) (word 2)) (place 3) (word 3)) (place 4) (word 4) p ≡ f p
five_others f place word p apart =
    let one = upd f (place 0) (word 0) in
    let two = upd one (place 1) (word 1) in
    let three = upd two (place 2) (word 2) in
    let four = upd three (place 3) (word 3) in
    upd_other four (place 4) (word 4) p (apart 4 (omega arith)) ∙ (upd_other three (place 3) (word 3) p (apart 3 (omega arith)) ∙ (upd_other two (place 2) (word 2) p (apart 2 (omega arith)) ∙ (upd_other one (place 1) (word 1) p (apart 1 (omega arith)) ∙ upd_other f (place 0) (word 0) p (apart 0 (omega arith)))))

-- an old word of a longer log
old_word : (trail extra : List ℕ) (log : ℕ) → log < length trail → slice_index (trail ++ extra) log ≡ slice_index trail log
old_word trail extra log below = get_or_append_left trail extra 0 log below

module _ (body : List Step) (start : PlainMemory) (taken : List Bool) (shaped : IsShaped body) where
  abbrev pub setting : Setting
  setting = plain_setting body taken start

  -- what holds of a run without an outcome before step n
  pub record Sound (n : ℕ) (r : Run) : Type 0 where
    pub count : length r.trail ≡ (registers_before body n).count
    pub made : length r.made ≡ count_by is_make (take n body)
    pub retired : length r.retired ≡ count_by is_retire (take n body)
    pub unanswered : count_by is_answer (take n body) ≡ 0
    pub clock : count_by is_stamp (take n body) ≡ 0 → r.clock ≡ start.clock
    pub loaded : (i place reg : ℕ) → i < n → IsStep body i (Load place reg) → version_of (slice_index r.trail (registers_before body i).count) ≤ start.version_max
    pub fresh : (i reg : ℕ) → i < n → IsStep body i (Fresh reg) → version_of (slice_index r.trail ((registers_before body i).log reg)) ≢ start.version_max
    pub untouched : ((i : ℕ) (step : Step) → i < n → IsStep body i step → phase step ≤ 2) → (p : ℕ) → ((i cell : ℕ) → i < length r.made → cell < 5 → p ≢ cell_of start.fixed_cells (slice_index start.free i) cell) → r.cells p ≡ slice_index start.cells p

  -- cells that a step of phase 1 or 2 doesn't fill are kept
  cells_kept : (s : Setting) (g : Registers) (step : Step) (r : Run) (p : ℕ) → phase step ≤ 2 → ((init : Init) (into : ℕ) → step ≡ Make init into → (cell : ℕ) → cell < 5 → p ≢ cell_of s.fixed_cells (s.slot g.count) cell) → cells_after s g step r p ≡ r.cells p
  cells_kept s g (Load place into) r p low apart = refl
  cells_kept s g (Want reg word) r p low apart = refl
  cells_kept s g (Fresh reg) r p low apart = refl
  cells_kept s g (Take place word) r p low apart = refl
  cells_kept s g (Make init into) r p low apart =
      five_others r.cells (λ cell. cell_of s.fixed_cells (s.slot g.count) cell) (λ cell. next_word (s.first g.count cell) (source_value r.trail (source_of g (slice_index_or init.cells cell (Const 0))))) p (apart init into refl)
  cells_kept s g Stamp r p low apart = refl
  cells_kept s g (Store reg value) r p low apart = absurd (omega arith)
  cells_kept s g (Retire slot) r p low apart = refl
  cells_kept s g (Answer reply) r p low apart = refl

  module _ (n : ℕ) (step : Step) (here : IsStep body n step) (r : Run) (sound : Sound n r) where
    within : n < length body
    within = slice_get_within body n step here

    -- earlier steps are of no later phase
    earlier : (i : ℕ) (other : Step) → i < n → IsStep body i other → phase other ≤ phase step
    earlier i other low at = shaped.phases i n other step low at here

    -- the slot of the n-th Make
    pub choice_slot : (init : Init) (into : ℕ) → step ≡ Make init into → (choice_at body taken start (registers_before body n).count).slot ≡ slice_index start.free (length r.made)
    choice_slot init into is =
        let k = (registers_before body n).count in
        let zero_more : k ≡ k + 0 = omega arith in
        ap (λ c. (slice_index_or (choices start.cells body taken start.free) c no_choice).slot) zero_more
        ∙ (ap (λ (c : Choice). c.slot) (choices_here start.cells body taken start.free n step here 0)
        ∙ (ap (λ s. (slice_index_or (choices start.cells (s ∷ drop (suc n) body) (drop (count_by is_take (take n body)) taken) (drop (count_by is_make (take n body)) start.free)) 0 no_choice).slot) is
        ∙ (first_dropped (count_by is_make (take n body)) start.free ∙ ap (slice_index start.free) (sym sound.made))))

    -- none of the cells of the slot that the next Make is given was written yet
    pub fresh_slot : SlotsFit body start → (init : Init) (into : ℕ) → step ≡ Make init into → (cell : ℕ) → cell < 5 → r.cells (cell_of start.fixed_cells (slice_index start.free (length r.made)) cell) ≡ slice_index start.cells (cell_of start.fixed_cells (slice_index start.free (length r.made)) cell)
    fresh_slot slots init into is cell low =
        let counted_here = counted is_make body n step here (ap is_make is) in
        sound.untouched (λ i other before at. subst (λ s. phase other ≤ phase s) is (earlier i other before at)) _
        (λ i other before small same.
        let apart = slots.different i (length r.made) before (let m = sound.made in omega arith) in
        apart (cells_apart start.fixed_cells (slice_index start.free i) (slice_index start.free (length r.made)) other cell small low (sym same)))
      where
        cells_apart : (f a b i j : ℕ) → i < 5 → j < 5 → cell_of f a i ≡ cell_of f b j → a ≡ b
        cells_apart f a b i j small low same = omega arith

    -- before a step of phase 1 no cell was written yet
    pub unwritten : (place : ℕ) → phase step ≤ 1 → r.cells place ≡ slice_index start.cells place
    unwritten place first =
        let none : count_by is_make (take n body) ≡ 0 = none_counted is_make body n (let w = within in omega arith) (λ i other low at. not_make other (let e = earlier i other low at in omega arith)) in
        sound.untouched (λ i other before at. let e = earlier i other before at in omega arith) place
        (λ i cell below small same. absurd (let m = sound.made in omega arith))

    module _ (after : Run) (change : Change setting (registers_before body n) step r after) (places : PlacesFit body start) (versions : VersionsFit start) where
      longer : length after.trail ≡ length r.trail + length change.extra
      longer = ap length change.trail ∙ length-append r.trail change.extra

      -- a word that stood in the log stands there still
      stays : (log : ℕ) → log < length r.trail → slice_index after.trail log ≡ slice_index r.trail log
      stays log below = ap (λ t. slice_index t log) change.trail ∙ old_word r.trail change.extra log below

      loaded_now : (place reg : ℕ) → step ≡ Load place reg → version_of (slice_index after.trail (registers_before body n).count) ≤ start.version_max
      loaded_now place reg is =
          let agreed : change.extra ≡ r.cells place ∷ [] = subst (λ s. LoadAgreed s r change.extra) is change.agreed in
          let word : slice_index after.trail (registers_before body n).count ≡ slice_index start.cells place =
          ap (λ t. slice_index t (registers_before body n).count) (change.trail ∙ ap (λ e. r.trail ++ e) agreed)
          ∙ (ap (λ k. slice_index (r.trail ++ r.cells place ∷ []) k) (sym sound.count) ∙ (get_or-append_seam r.trail (r.cells place) [] 0 ∙ unwritten place (subst (λ s. phase s ≤ 1) (sym is) (omega arith)))) in
          subst (λ w. version_of w ≤ start.version_max) (sym word) (versions place 0 (places.loads n place reg (here ∙ ap (λ (s : Step). Some s) is)))

      loaded_next : (i place reg : ℕ) → i < suc n → IsStep body i (Load place reg) → version_of (slice_index after.trail (registers_before body i).count) ≤ start.version_max
      loaded_next i place reg low at = ⊎_elim
          (λ same. subst (λ k. version_of (slice_index after.trail (registers_before body k).count) ≤ start.version_max) (sym same)
          (loaded_now place reg (one_step (sym here ∙ subst (λ k. IsStep body k (Load place reg)) same at))))
          (λ other.
          let before : i < n = omega arith in
          let below = committed_below body shaped i n (Load place reg) at (omega arith) before (let w = within in omega arith) in
          subst (λ w. version_of w ≤ start.version_max) (sym (stays _ (let k = sound.count in omega arith))) (sound.loaded i place reg before at))
          (cases_eq i n)
        where
          one_step : {a b : Step} → Some a ≡ Some b → a ≡ b
          one_step e = cc

      fresh_next : (i reg : ℕ) → i < suc n → IsStep body i (Fresh reg) → version_of (slice_index after.trail ((registers_before body i).log reg)) ≢ start.version_max
      fresh_next i reg low at =
          let inside : i < length body = slice_get_within body i (Fresh reg) at in
          let below : (registers_before body i).log reg < (registers_before body i).count = logged body shaped i (Of reg) (omega arith) (shaped.used i (Fresh reg) at 0 (Of reg) (omega arith)) in
          let rises = count_rises body i n (omega arith) (let w = within in omega arith) in
          let same_word = stays ((registers_before body i).log reg) (let k = sound.count in omega arith) in
          subst (λ w. version_of w ≢ start.version_max) (sym same_word) (⊎_elim
          (λ same. subst (λ k. version_of (slice_index r.trail ((registers_before body k).log reg)) ≢ start.version_max) (sym same)
          (subst (λ s. FreshPassed setting (registers_before body n) s r) (one_step (sym here ∙ subst (λ k. IsStep body k (Fresh reg)) same at)) change.passed))
          (λ other. sound.fresh i reg (omega arith) at)
          (cases_eq i n))
        where
          one_step : {a b : Step} → Some a ≡ Some b → a ≡ b
          one_step e = cc

      untouched_next : ((i : ℕ) (other : Step) → i < suc n → IsStep body i other → phase other ≤ 2) → (p : ℕ) → ((i cell : ℕ) → i < length after.made → cell < 5 → p ≢ cell_of start.fixed_cells (slice_index start.free i) cell) → after.cells p ≡ slice_index start.cells p
      untouched_next early p apart =
          ap (λ f. f p) change.cells
          ∙ (cells_kept setting (registers_before body n) step r p (early n step (omega arith) here)
          (λ init into is cell small. subst (λ t. p ≢ cell_of start.fixed_cells t cell) (sym (choice_slot init into is))
          (apart (length r.made) cell (let m = change.made in let one = counts_one (is_make step) (ap is_make is) in omega arith) small))
          ∙ sound.untouched (λ i other low. early i other (omega arith)) p (λ i cell low. apart i cell (let m = change.made in omega arith)))

      pub sound_next : Sound (suc n) after
      sound_next = record {
        count = (let next = ap (λ (g : Registers). g.count) (registers_before_next body n step here) ∙ count_after (registers_before body n) step in let l = longer in let w = change.words in let k = sound.count in omega arith);
        made = (let next = count_by_next is_make body n step here in let m = change.made in let k = sound.made in omega arith);
        retired = (let next = count_by_next is_retire body n step here in let m = change.retired in let k = sound.retired in omega arith);
        unanswered = (let next = count_by_next is_answer body n step here in let nought = counts_none (is_answer step) change.unanswered in let k = sound.unanswered in omega arith);
        clock = λ none. (let parts = counts_nothing (count_by is_stamp (take n body)) (is_stamp step) (sym (count_by_next is_stamp body n step here) ∙ none) in change.clock parts.1 ∙ sound.clock parts.0);
        loaded = loaded_next;
        fresh = fresh_next;
        untouched = untouched_next;
      }
