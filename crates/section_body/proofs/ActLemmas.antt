-- One step of a run in one go, arm by arm.
use Rattle.std.proofs.Common.{◌≡◌, ℕ, zero, suc, ◌+◌, ◌*◌, ◌/◌, ◌<◌, ◌≤◌, List, [], ◌∷◌, ◌++◌, length, drop, refl, sym, ap, ◌∙◌, subst, arith, get_or, set, get_or-set_same, length-append, Some, None, Option}
use Rattle.std.specs.Prelude.{Bool, true, false, cond, ◌==◌, max, map, slice_index}
use Rattle.std.proofs.Math.ListN.{get_or-map}
use Rattle.std.proofs.lemmas.Bool.Decides.{nat_tests}
use Rattle.std.proofs.Math.Seq.{get_or-append_seam}
use Rattle.small_lemmas.proofs.Numbers.{self_tested as eq_refl}
use Rattle.body_terms.specs.Update.{upd}
use Rattle.body_terms.specs.Word.{next_word, held_word}
use Rattle.body_terms.specs.Trail.{Agreed as Agreement}
use Rattle.body_terms.specs.Memory.{PlainMemory, cell_of}
use Rattle.body_terms.specs.Line.{Registers, source_of, micros}
use Rattle.body_terms.specs.Run.{Setting, Run, ran, is_takable, refusal, source_value, written_once}
use Rattle.body_terms.specs.Plain.{first_values, memory_after}
use Rattle.body_terms.specs.Act.{Shows, GotSuits, BusySuits, LockSuits, SlotSuits, filled}
use Rattle.body_terms.specs.declared.value.Value.{Value}
use Rattle.body_terms.specs.declared.value.Value.TheVariants.{Const}
use Rattle.body_terms.specs.declared.value.Init.{Init}
use Rattle.body_terms.specs.declared.step.Step.TheVariants.{Load, Take, Make, Stamp, Store, Answer}
use Rattle.body_terms.specs.declared.outcome.Outcome.{Outcome}
use Rattle.body_terms.specs.declared.outcome.Outcome.TheVariants.{Answered, Busy}
use Rattle.body_terms.specs.declared.micro.Micro.{Micro}
use Rattle.body_terms.specs.declared.micro.Micro.TheVariants.{NestedHold, OutcomeLoad, OutcomeCommit, CheckHeld}
use Rattle.body_terms.proofs.ValueLemmas.{length-first_values, get_or-first_values, set-first_values}

-- a second store at one index
set_again : (xs : List ℕ) (i a b : ℕ) → set (set xs i a) i b ≡ set xs i b
set_again [] i a b = refl
set_again (x ∷ xs) zero a b = refl
set_again (x ∷ xs) (suc i) a b = ap (λ rest. x ∷ rest) (set_again xs i a b)

-- the function whose first values are the cells that a Make fills: each gets the next word of its first one
abbrev stored : ℕ → ℕ → (ℕ → ℕ) → (ℕ → ℕ) → (ℕ → ℕ) → ℕ → ℕ → ℕ
stored fixed_cells slot first number cells zero = cells
stored fixed_cells slot first number cells (suc k) = upd (stored fixed_cells slot first number cells k) (cell_of fixed_cells slot k) (next_word (first k) (number k))

-- filling cells is storing into their function
filled_values : (n fixed_cells slot : ℕ) (values cells : List ℕ) (f first number : ℕ → ℕ) → cells ≡ first_values n f → ((k : ℕ) → k < 5 → first k ≡ get_or cells (cell_of fixed_cells slot k) 0) → ((k : ℕ) → k < 5 → get_or values k 0 ≡ number k) → (k : ℕ) → k ≤ 5 → filled fixed_cells slot values cells k ≡ first_values n (stored fixed_cells slot first number f k)
filled_values n fixed_cells slot values cells f first number is firsts numbers zero few = is
filled_values n fixed_cells slot values cells f first number is firsts numbers (suc k) few =
    let below : k < 5 = omega arith in
    ap (λ w. set (filled fixed_cells slot values cells k) (cell_of fixed_cells slot k) (next_word w (get_or values k 0))) (sym (firsts k below))
    ∙ (ap (λ v. set (filled fixed_cells slot values cells k) (cell_of fixed_cells slot k) (next_word (first k) v)) (numbers k below)
    ∙ (ap (λ cs. set cs (cell_of fixed_cells slot k) (next_word (first k) (number k))) (filled_values n fixed_cells slot values cells f first number is firsts numbers k (omega arith))
    ∙ set-first_values n (stored fixed_cells slot first number f k) (cell_of fixed_cells slot k) (next_word (first k) (number k))))

-- one more dropped at the front
drop_one : {X : Type 0} (n m : ℕ) (xs : List X) → m ≡ n + 1 → drop 1 (drop n xs) ≡ drop m xs
drop_one zero m xs is = rw is refl
drop_one (suc n) zero xs is = absurd (omega arith)
drop_one (suc n) (suc m) [] is = refl
drop_one (suc n) (suc m) (x ∷ xs) is = drop_one n m xs (omega arith)

module _ (request : ℕ) (start : PlainMemory) (s : Setting) (run : Run) where
  -- a run without an outcome goes on as one whose outcome is None
  resume : (ms : List Micro) (memory : PlainMemory) (trail : Agreement) (outcome : Option Outcome) → run.outcome ≡ None → Shows request start (ran s (record run { outcome = None }) ms) memory trail outcome → Shows request start (ran s run ms) memory trail outcome
  resume ms memory trail outcome going shows =
      subst (λ r. Shows request start (ran s r ms) memory trail outcome) (ap (λ o. record run { outcome = o }) (sym going)) shows

  module _ (memory : PlainMemory) (trail : Agreement) (shows : Shows request start run memory trail None) where
    -- the memory has as many cells as at the start
    pub same_length : length memory.cells ≡ length start.cells
    same_length = ap (λ (m : PlainMemory). length m.cells) shows.left ∙ length-first_values (length start.cells) run.cells

    -- a cell of the memory is the run's
    pub cell_is : (p : ℕ) → p < length memory.cells → get_or memory.cells p 0 ≡ run.cells p
    cell_is p within =
        ap (λ (m : PlainMemory). get_or m.cells p 0) shows.left ∙ get_or-first_values (length start.cells) run.cells p (let long = same_length in omega arith)

    -- one more agreed word
    pushed : (after : Agreement) (word agreed : ℕ) → after ≡ record trail { words = trail.words ++ word ∷ [] } → word ≡ agreed → after ≡ record { words = run.trail ++ agreed ∷ []; late = false }
    pushed after word agreed next same =
        next ∙ (ap (λ (t : Agreement). record t { words = t.words ++ word ∷ [] }) shows.agreed ∙ ap (λ w. record { words = run.trail ++ w ∷ []; late = false }) same)

    pub load_shows : (g : Registers) (place into : ℕ) (after : Agreement) → place < length memory.cells → after ≡ record trail { words = trail.words ++ get_or memory.cells place 0 ∷ [] } → Shows request start (ran s run (micros g (Load place into))) memory after None
    load_shows g place into after within next =
        resume (micros g (Load place into)) memory after None shows.ended (record {
          left = shows.left;
          agreed = pushed after _ _ next (cell_is place within);
          ended = refl;
        })

    -- the run's stamp and reply words stand in the memory
    stamp_is : request < length start.stamps → get_or memory.stamps request 0 ≡ run.stamp
    stamp_is within = ap (λ (m : PlainMemory). get_or m.stamps request 0) shows.left ∙ get_or-set_same _ _ _ _ within

    reply_is : request < length start.replies → get_or memory.replies request 0 ≡ run.reply
    reply_is within = ap (λ (m : PlainMemory). get_or m.replies request 0) shows.left ∙ get_or-set_same _ _ _ _ within

    pub answer_shows : (g : Registers) (reply : ℕ) (after : PlainMemory) → request < length start.replies → after ≡ record memory { replies = set memory.replies request (written_once (get_or memory.replies request 0) reply) } → Shows request start (ran s run (micros g (Answer reply))) after trail (Some (Answered reply))
    answer_shows g reply after within next =
        resume (micros g (Answer reply)) after trail (Some (Answered reply)) shows.ended (record {
          left = next ∙ (ap (λ old. record memory { replies = set memory.replies request (written_once old reply) }) (reply_is within)
              ∙ (ap (λ (m : PlainMemory). record m { replies = set m.replies request (written_once run.reply reply) }) shows.left
              ∙ ap (λ rs. record (memory_after request start run) { replies = rs }) (set_again start.replies request run.reply (written_once run.reply reply))));
          agreed = shows.agreed;
          ended = refl;
        })

    pub stamp_shows : (g : Registers) (after : PlainMemory) → request < length start.stamps → s.clock ≡ memory.clock → after ≡ (let stamp = written_once (get_or memory.stamps request 0) (2 * (memory.clock + 1)) in record memory { clock = max memory.clock (stamp / 2); stamps = set memory.stamps request stamp }) → Shows request start (ran s run (micros g Stamp)) after trail None
    stamp_shows g after within clock next =
        let stamp = written_once run.stamp (2 * (s.clock + 1)) in
        resume (micros g Stamp) after trail None shows.ended (record {
          left = next ∙ (ap (λ old. let w = written_once old (2 * (memory.clock + 1)) in record memory { clock = max memory.clock (w / 2); stamps = set memory.stamps request w }) (stamp_is within)
              ∙ (ap (λ c. let w = written_once run.stamp (2 * (c + 1)) in record memory { clock = max memory.clock (w / 2); stamps = set memory.stamps request w }) (sym clock)
              ∙ (ap (λ (m : PlainMemory). record m { clock = max m.clock (stamp / 2); stamps = set m.stamps request stamp }) shows.left
              ∙ ap (λ ss. record (memory_after request start run) { clock = max run.clock (stamp / 2); stamps = ss }) (set_again start.stamps request run.stamp stamp))));
          agreed = shows.agreed;
          ended = refl;
        })

    pub store_shows : (g : Registers) (reg old number : ℕ) (value : Value) (after : PlainMemory) → g.place reg < length memory.cells → old ≡ get_or trail.words (g.log reg) 0 → number ≡ source_value trail.words (source_of g value) → after ≡ record memory { cells = set memory.cells (g.place reg) (cond (get_or memory.cells (g.place reg) 0 == old) (next_word old number) (get_or memory.cells (g.place reg) 0)) } → Shows request start (ran s run (micros g (Store reg value))) after trail None
    store_shows g reg old number value after within is_old is_number next =
        let place = g.place reg in
        let read = slice_index run.trail (g.log reg) in
        let put = source_value run.trail (source_of g value) in
        let old_is : old ≡ read = is_old ∙ ap (λ (t : Agreement). get_or t.words (g.log reg) 0) shows.agreed in
        let number_is : number ≡ put = is_number ∙ ap (λ (t : Agreement). source_value t.words (source_of g value)) shows.agreed in
        resume (micros g (Store reg value)) after trail None shows.ended (record {
          left = next ∙ (ap (λ o. record memory { cells = set memory.cells place (cond (get_or memory.cells place 0 == o) (next_word o number) (get_or memory.cells place 0)) }) old_is
              ∙ (ap (λ n. record memory { cells = set memory.cells place (cond (get_or memory.cells place 0 == read) (next_word read n) (get_or memory.cells place 0)) }) number_is
              ∙ (ap (λ c. record memory { cells = set memory.cells place (cond (c == read) (next_word read put) c) }) (cell_is place within)
              ∙ (ap (λ (m : PlainMemory). record m { cells = set m.cells place (cond (run.cells place == read) (next_word read put) (run.cells place)) }) shows.left
              ∙ ap (λ cs. record (memory_after request start run) { cells = cs }) (set-first_values (length start.cells) run.cells place _)))));
          agreed = shows.agreed;
          ended = refl;
        })

    -- the same, where code has read the register's place and its place in the log
    pub exchange_shows : (g : Registers) (reg place log old number : ℕ) (value : Value) (after : PlainMemory) → place ≡ g.place reg → log ≡ g.log reg → g.place reg < length memory.cells → old ≡ get_or trail.words log 0 → number ≡ source_value trail.words (source_of g value) → after ≡ record memory { cells = set memory.cells place (cond (get_or memory.cells place 0 == old) (next_word old number) (get_or memory.cells place 0)) } → Shows request start (ran s run (micros g (Store reg value))) after trail None
    exchange_shows g reg place log old number value after is_place is_log within is_old is_number next =
        store_shows g reg old number value after within (is_old ∙ ap (λ k. get_or trail.words k 0) is_log) is_number
        (next ∙ ap (λ p. record memory { cells = set memory.cells p (cond (get_or memory.cells p 0 == old) (next_word old number) (get_or memory.cells p 0)) }) is_place)

    pub make_shows : (g : Registers) (init : Init) (into : ℕ) (left : PlainMemory) (after : Agreement) → SlotSuits s memory g.count
        → left ≡ (let values = map (λ value. source_value trail.words (source_of g value)) init.cells in record memory { cells = filled memory.fixed_cells (get_or memory.free 0 0) values memory.cells 5; free = drop 1 memory.free })
        → after ≡ record trail { words = trail.words ++ (get_or memory.free 0 0 + 1) ∷ [] }
        → Shows request start (ran s run (micros g (Make init into))) left after None
    make_shows g init into left after suits filled_is next =
        let number : Value → ℕ = λ value. source_value run.trail (source_of g value) in
        let numbers : ℕ → ℕ = λ k. number (get_or init.cells k (Const 0)) in
        let slot = s.slot g.count in
        let n = length start.cells in
        let put = stored s.fixed_cells slot (s.first g.count) numbers run.cells in
        resume (micros g (Make init into)) left after None shows.ended (record {
          left = filled_is ∙ (ap (λ (t : Agreement). record memory { cells = filled memory.fixed_cells (get_or memory.free 0 0) (map (λ value. source_value t.words (source_of g value)) init.cells) memory.cells 5; free = drop 1 memory.free }) shows.agreed
              ∙ (ap (λ cs. record memory { cells = cs; free = drop 1 memory.free }) (filled_values n memory.fixed_cells (get_or memory.free 0 0) (map number init.cells) memory.cells run.cells (s.first g.count) numbers (ap (λ (m : PlainMemory). m.cells) shows.left) suits.first (λ k below. get_or-map number init.cells k (Const 0)) 5 (omega arith))
              ∙ (ap (λ f. record memory { cells = first_values n (stored f (get_or memory.free 0 0) (s.first g.count) numbers run.cells 5); free = drop 1 memory.free }) (sym suits.fixed_cells)
              ∙ (ap (λ t. record memory { cells = first_values n (stored s.fixed_cells t (s.first g.count) numbers run.cells 5); free = drop 1 memory.free }) (sym suits.slot)
              ∙ (ap (λ (m : PlainMemory). record m { cells = first_values n (put 5); free = drop 1 m.free }) shows.left
              ∙ ap (λ free. record (memory_after request start run) { cells = first_values n (put 5); free = free }) (drop_one (length run.made) (length (run.made ++ slot ∷ [])) start.free (length-append run.made (slot ∷ []))))))));
          agreed = pushed after _ _ next (ap (λ t. t + 1) (sym suits.slot));
          ended = refl;
        })

    -- the check behind a granted lock's first word passes
    free_passes : (place log word read : ℕ) → s.refused log ≡ false → is_takable s word word ≡ true → read ≡ word → cond (s.refused log) (Some (Busy place read)) (cond (is_takable s word read) None (Some (refusal s place word read))) ≡ None
    free_passes place log word read going takable same = rw (going, same, takable) refl

    -- the check behind its second word passes
    held_passes : (place word read : ℕ) → read ≡ held_word s.descriptor word → cond (read == held_word s.descriptor word) None (Some (refusal s place word read)) ≡ None
    held_passes place word read same = rw (same, eq_refl (held_word s.descriptor word)) refl

    -- a refused lock's check leaves
    busy_leaves : (place log word read standing : ℕ) → s.refused log ≡ true → read ≡ standing → cond (s.refused log) (Some (Busy place read)) (cond (is_takable s word read) None (Some (refusal s place word read))) ≡ Some (Busy place standing)
    busy_leaves place log word read standing refused same = rw (refused, same) refl

    pub got_shows : (g : Registers) (place word : ℕ) (after : Agreement) → g.count ≡ length trail.words → GotSuits s g.count word → after ≡ record trail { words = (trail.words ++ word ∷ []) ++ held_word 0 word ∷ [] } → Shows request start (ran s run (micros g (Take place word))) memory after None
    got_shows g place word after long suits next =
        let k = g.count in
        let words = run.trail ++ s.taken k ∷ [] in
        let one : Run = record run { trail = words; outcome = None } in
        let more = words ++ s.taken (k + 1) ∷ [] in
        let two : Run = record run { trail = more; outcome = None } in
        let count : k ≡ length run.trail = long ∙ ap (λ (t : Agreement). length t.words) shows.agreed in
        let read : get_or words k 0 ≡ word = ap (λ i. get_or words i 0) count ∙ (get_or-append_seam run.trail (s.taken k) [] 0 ∙ suits.free) in
        let count2 : k + 1 ≡ length words = (let l = length-append run.trail (s.taken k ∷ []) in omega arith) in
        let read2 : get_or more (k + 1) 0 ≡ held_word s.descriptor word = ap (λ i. get_or more i 0) count2 ∙ (get_or-append_seam words (s.taken (k + 1)) [] 0 ∙ suits.held) in
        resume (micros g (Take place word)) memory after None shows.ended
        (subst (λ o. Shows request start (ran s (record one { outcome = o }) (NestedHold place word ∷ OutcomeLoad place (k + 1) ∷ OutcomeCommit place (k + 1) ∷ CheckHeld place (k + 1) word ∷ [])) memory after None) (sym (free_passes place k word (get_or words k 0) suits.going suits.takable read))
        (subst (λ o. Shows request start (record two { outcome = o }) memory after None) (sym (held_passes place word (get_or more (k + 1) 0) read2))
        (record {
          left = shows.left;
          agreed = next ∙ (ap (λ (t : Agreement). record t { words = (t.words ++ word ∷ []) ++ held_word 0 word ∷ [] }) shows.agreed
              ∙ (ap (λ w. record { words = (run.trail ++ w ∷ []) ++ held_word 0 word ∷ []; late = false }) (sym suits.free)
              ∙ ap (λ w. record { words = words ++ w ∷ []; late = false }) (ap (λ d. held_word d word) (sym suits.descriptor) ∙ sym suits.held)));
          ended = refl;
        })))

    pub busy_shows : (g : Registers) (place word : ℕ) (after : Agreement) → place < length memory.cells → g.count ≡ length trail.words → BusySuits s memory g.count place → after ≡ record trail { words = trail.words ++ get_or memory.cells place 0 ∷ [] } → Shows request start (ran s run (micros g (Take place word))) memory after (Some (Busy place (get_or memory.cells place 0)))
    busy_shows g place word after within long suits next =
        let k = g.count in
        let words = run.trail ++ s.taken k ∷ [] in
        let one : Run = record run { trail = words; outcome = None } in
        let count : k ≡ length run.trail = long ∙ ap (λ (t : Agreement). length t.words) shows.agreed in
        let read : get_or words k 0 ≡ get_or memory.cells place 0 = ap (λ i. get_or words i 0) count ∙ (get_or-append_seam run.trail (s.taken k) [] 0 ∙ suits.standing) in
        let busy : Option Outcome = Some (Busy place (get_or memory.cells place 0)) in
        resume (micros g (Take place word)) memory after busy shows.ended
        (subst (λ o. Shows request start (ran s (record one { outcome = o }) (NestedHold place word ∷ OutcomeLoad place (k + 1) ∷ OutcomeCommit place (k + 1) ∷ CheckHeld place (k + 1) word ∷ [])) memory after busy) (sym (busy_leaves place k word (get_or words k 0) (get_or memory.cells place 0) suits.refused read))
        (record {
          left = shows.left;
          agreed = pushed after _ _ next (sym suits.standing);
          ended = refl;
        }))

    pub take_shows : (g : Registers) (place word : ℕ) (got : Bool) (after : Agreement) (outcome : Option Outcome) → place < length memory.cells → g.count ≡ length trail.words → LockSuits s memory got g.count place word
        → (got ≡ true → (outcome ≡ None) × (after ≡ record trail { words = (trail.words ++ word ∷ []) ++ held_word 0 word ∷ [] }))
        → (got ≡ false → (outcome ≡ Some (Busy place (get_or memory.cells place 0))) × (after ≡ record trail { words = trail.words ++ get_or memory.cells place 0 ∷ [] }))
        → Shows request start (ran s run (micros g (Take place word))) memory after outcome
    take_shows g place word true after outcome within long suits taken refused =
        let t = taken refl in
        subst (λ o. Shows request start (ran s run (micros g (Take place word))) memory after o) (sym t.0) (got_shows g place word after long suits t.1)
    take_shows g place word false after outcome within long suits taken refused =
        let t = refused refl in
        subst (λ o. Shows request start (ran s run (micros g (Take place word))) memory after o) (sym t.0) (busy_shows g place word after within long suits t.1)
