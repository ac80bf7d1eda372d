-- What an atomic step at the edge of a section is for the section: it passes a step of its body, or it is within one.
use Rattle.std.proofs.Common.{◌≡◌, ◌≢◌, ℕ, zero, suc, ◌+◌, ◌-◌, ◌<◌, ◌≤◌, List, [], ◌∷◌, length, true, false, refl, sym, ap, ◌∙◌, subst, arith, inl, inr, ⊎_elim, None, slice_get}
use Rattle.std.specs.Prelude.{◌*◌, Bool, ◌⊎◌, Contains, Some, slice_index_or}
use Rattle.std.proofs.lemmas.Bool.{cases_eq}
use Rattle.std.proofs.lemmas.Bool.Decides.{nat_tests}
use Rattle.structure_laws.specs.map_history.specs.declared.op.Op.{Op}
use Rattle.structure_laws.specs.body_terms.specs.Update.{upd}
use Rattle.structure_laws.specs.body_terms.specs.Word.{value_of}
use Rattle.structure_laws.specs.body_terms.specs.declared.thunk.Thunk.{Thunk}
use Rattle.structure_laws.specs.body_terms.specs.declared.value.Init.{Init}
use Rattle.structure_laws.specs.body_terms.specs.declared.value.Value.{Value}
use Rattle.structure_laws.specs.body_terms.specs.declared.value.Value.TheVariants.{Const, Of, Made}
use Rattle.structure_laws.specs.body_terms.specs.declared.step.Step.{Step}
use Rattle.structure_laws.specs.body_terms.specs.declared.step.Step.TheVariants.{Load, Want, Fresh, Take, Make, Stamp, Store, Retire, Answer}
use Rattle.structure_laws.specs.body_terms.specs.declared.micro.Source.{Source}
use Rattle.structure_laws.specs.body_terms.specs.declared.micro.Micro.{Micro}
use Rattle.structure_laws.specs.body_terms.specs.declared.micro.Micro.TheVariants.{LoadCell, Commit, CheckWord, CheckFresh, NestedLoad, NestedCommit, CheckFree, NestedHold, OutcomeLoad, OutcomeCommit, CheckHeld, PrivateLoad, PrivateStore, MakeCommit, ClockLoad, StampExchange, ClockRaise, ExchangeCell, EpochForRetire, RetireCommit, ReplyExchange, End, SetDone, Release}
use Rattle.structure_laws.specs.body_terms.specs.Line.{Registers, registers_before, registers_after, source_of, micro_count, line, begins, micro_at, is_check}
use Rattle.structure_laws.specs.body_terms.specs.Shape.{IsStep, IsShaped, LoadedBefore, MadeBefore, SetBefore, set_registers}
use Rattle.structure_laws.specs.body_terms.proofs.LineLemmas.{registers_before_next}
use Rattle.structure_laws.specs.body_terms.proofs.RegisterLemmas.{step_at, loaded_register}
use Rattle.structure_laws.specs.Scene.{Readings, Section, passed, passed_with, opened}
use Rattle.structure_laws.specs.Sections.{value_in, is_exit}
use Rattle.structure_laws.proofs.Bodies.{loaded_before, same_step}
use Rattle.section_lines.proofs.Steps.{kind, owner}
use Rattle.section_lines.proofs.Places.{stands, part_at, step_inside, whole_line}
use Rattle.section_lines.proofs.Sources.{From, part_there, of_load, of_want, of_fresh, of_take, of_make, of_stamp, of_store, of_retire, of_answer}
use Rattle.section_lines.proofs.Ordered.{few_loads, fill_of, fills}
use Rattle.section_lines.proofs.Progress.{some_micros, not_yet, passed_at, passed_next, passed_all, words_next, words_kept}
use Rattle.section_lines.specs.Progress.{passed_steps, words_after, words_of, section_at, source_word}

-- an atomic step after which its step of the body isn't over, and which commits nothing
abbrev pub is_within : Micro → Bool
is_within (LoadCell p k) = true
is_within (Commit p k) = false
is_within (CheckWord p k w) = false
is_within (CheckFresh p k) = false
is_within (NestedLoad p k) = true
is_within (NestedCommit p k) = false
is_within (CheckFree p k w) = true
is_within (NestedHold p w) = true
is_within (OutcomeLoad p k) = true
is_within (OutcomeCommit p k) = false
is_within (CheckHeld p k w) = false
is_within (PrivateLoad c k) = true
is_within (PrivateStore c k v) = true
is_within (MakeCommit k) = false
is_within ClockLoad = true
is_within StampExchange = true
is_within ClockRaise = false
is_within (ExchangeCell p k v) = false
is_within (EpochForRetire t k) = true
is_within (RetireCommit t k) = false
is_within (ReplyExchange n) = false
is_within End = false
is_within SetDone = false
is_within (Release p w) = false

-- the kinds of steps
kind_most : (step : Step) → kind step ≤ 8
kind_most (Load place into) = omega arith
kind_most (Want reg word) = omega arith
kind_most (Fresh reg) = omega arith
kind_most (Take place word) = omega arith
kind_most (Make init into) = omega arith
kind_most Stamp = omega arith
kind_most (Store reg value) = omega arith
kind_most (Retire slot) = omega arith
kind_most (Answer reply) = omega arith

module _ (body : List Step) where
  abbrev code : ℕ → Micro
  code i = micro_at (line body) i

  -- before an atomic step of step n, n steps are passed
  before_it : {step : Step} {at e : ℕ} (f : From body step at e) → passed_steps body e ≡ f.n
  before_it {step = step} {at = at} f = ap (passed_steps body) f.place ∙ passed_at body f.n at step f.here f.within

  -- behind it, where it isn't the step's last one
  within_it : {step : Step} {at e : ℕ} (f : From body step at e) → suc at < micro_count step → passed_steps body (suc e) ≡ f.n
  within_it {step = step} {at = at} {e = e} f more = ap (passed_steps body) (let place = f.place in let e : suc e ≡ begins body f.n + suc at = omega arith in e) ∙ passed_at body f.n (suc at) step f.here more

  -- behind the step's last one
  behind_it : {step : Step} {at e : ℕ} (f : From body step at e) → suc at ≡ micro_count step → passed_steps body (suc e) ≡ suc f.n
  behind_it {step = step} {at = at} {e = e} f last = ap (passed_steps body) (let place = f.place in let e : suc e ≡ begins body f.n + micro_count step = omega arith in e) ∙ passed_next body f.n step f.here

  module _ (op : Op) (thunk : Thunk) (readings : Readings) where
    abbrev sec : (ℕ → ℕ) → ℕ → Section
    sec log edge = section_at op thunk readings body log edge

    -- a section with these steps passed and these words
    abbrev with : ℕ → (ℕ → ℕ) → Section
    with at reg = record { op = op; thunk = thunk; readings = readings; at = at; reg = reg }

    is_with : (log : ℕ → ℕ) (e n : ℕ) → passed_steps body e ≡ n → sec log e ≡ with n (words_of log body n)
    is_with log e n is = ap (λ k. with k (words_of log body k)) is

    -- the section stays where it is
    stays : {step : Step} {at e : ℕ} (log log' : ℕ → ℕ) (f : From body step at e) → suc at < micro_count step → words_of log' body f.n ≡ words_of log body f.n → sec log' (suc e) ≡ sec log e
    stays {e = e} log log' f more same = is_with log' (suc e) f.n (within_it f more) ∙ (ap (with f.n) same ∙ sym (is_with log e f.n (before_it f)))

    -- the section passes the step
    moves : {step : Step} {at e : ℕ} (log log' : ℕ → ℕ) (f : From body step at e) → suc at ≡ micro_count step → words_of log' body f.n ≡ words_of log body f.n
        → sec log' (suc e) ≡ record (sec log e) { at = suc ((sec log e).at); reg = words_after log' (registers_before body f.n).count ((sec log e).reg) step }
    moves {step = step} {e = e} log log' f last same =
        is_with log' (suc e) (suc f.n) (behind_it f last)
        ∙ (ap (with (suc f.n)) (words_next log' body f.n step f.here ∙ ap (λ reg. words_after log' (registers_before body f.n).count reg step) same)
        ∙ ap (λ k. with (suc k) (words_after log' (registers_before body f.n).count (words_of log body k) step)) (sym (before_it f)))

    there : {step : Step} {at e : ℕ} (log : ℕ → ℕ) (f : From body step at e) → IsStep body (sec log e).at step
    there {step = step} log f = subst (λ n. IsStep body n step) (sym (before_it f)) f.here

    -- a commit behind n steps changes no word of their registers
    kept : {step : Step} {at e : ℕ} (log : ℕ → ℕ) (f : From body step at e) (k word : ℕ) → (registers_before body f.n).count ≤ k → words_of (upd log k word) body f.n ≡ words_of log body f.n
    kept {step = step} log f k word late = words_kept log body f.n k word (let inside = step_inside body f.n step f.here in omega arith) late

    upd_here : (log : ℕ → ℕ) (k count word : ℕ) → k ≡ count → upd log k word count ≡ word
    upd_here log k count word e = grind (arith, nat_tests)

    -- the commit of a Load
    pub load_moves : (log : ℕ → ℕ) (e p k word : ℕ) → code e ≡ Commit p k → (into : ℕ) × IsStep body (sec log e).at (Load p into) × (sec (upd log k word) (suc e) ≡ passed_with (sec log e) into word)
    load_moves log e p k word is =
        let s = of_load body e (Commit p k) is refl in let f = s.2.from in let g = registers_before body f.n in
        let same : Commit p k ≡ Commit s.0 g.count = s.2.same in
        let place : s.0 ≡ p = cc in let here : k ≡ g.count = cc in
        let step = there log f in
        let next = moves log (upd log k word) f refl (kept log f k word (omega arith)) in (
          s.1,
          subst (λ q. IsStep body (sec log e).at (Load q s.1)) place step,
          next ∙ ap (λ w. record (sec log e) { at = suc ((sec log e).at); reg = upd ((sec log e).reg) s.1 w }) (upd_here log k g.count word here),
        )

    -- the commit of a Make
    pub make_moves : (log : ℕ → ℕ) (e k word : ℕ) → code e ≡ MakeCommit k → (init : Init) × (into : ℕ) × IsStep body (sec log e).at (Make init into) × (sec (upd log k word) (suc e) ≡ passed_with (sec log e) into word)
    make_moves log e k word is =
        let s = of_make body e (MakeCommit k) is refl in let f = s.2.from in let g = registers_before body f.n in
        let same : MakeCommit k ≡ MakeCommit g.count = s.2.same in let here : k ≡ g.count = cc in
        let next = moves log (upd log k word) f refl (kept log f k word (omega arith)) in (
          s.0,
          s.1,
          there log f,
          next ∙ ap (λ w. record (sec log e) { at = suc ((sec log e).at); reg = upd ((sec log e).reg) s.1 w }) (upd_here log k g.count word here),
        )

    -- the commit of a Retire
    pub retire_moves : (log : ℕ → ℕ) (e t k word : ℕ) → code e ≡ RetireCommit t k → IsStep body (sec log e).at (Retire t) × (sec (upd log k word) (suc e) ≡ passed (sec log e))
    retire_moves log e t k word is =
        let s = of_retire body e (RetireCommit t k) is refl in let f = s.1.from in let g = registers_before body f.n in
        let same : RetireCommit t k ≡ RetireCommit s.0 g.count = s.1.same in
        let slot : s.0 ≡ t = cc in let here : k ≡ g.count = cc in
        (subst (λ q. IsStep body (sec log e).at (Retire q)) slot (there log f), moves log (upd log k word) f refl (kept log f k word (omega arith)))

    -- the last check of a Take, and the raise of a Stamp
    pub take_moves : (log : ℕ → ℕ) (e p k w : ℕ) → code e ≡ CheckHeld p k w → IsStep body (sec log e).at (Take p w) × (sec log (suc e) ≡ passed (sec log e))
    take_moves log e p k w is =
        let s = of_take body e (CheckHeld p k w) is refl in let f = s.2.from in let g = registers_before body f.n in
        let same : CheckHeld p k w ≡ CheckHeld s.0 (g.count + 1) s.1 = s.2.same in
        let place : s.0 ≡ p = cc in let word : s.1 ≡ w = cc in
        (subst (λ q. IsStep body (sec log e).at (Take q w)) place (subst (λ v. IsStep body (sec log e).at (Take s.0 v)) word (there log f)), moves log log f refl refl)

    pub stamp_moves : (log : ℕ → ℕ) (e : ℕ) → code e ≡ ClockRaise → IsStep body (sec log e).at Stamp × (sec log (suc e) ≡ passed (sec log e))
    stamp_moves log e is = let f = (of_stamp body e ClockRaise is refl).from in (there log f, moves log log f refl refl)

    pub answer_moves : (log : ℕ → ℕ) (e n : ℕ) → code e ≡ ReplyExchange n → IsStep body (sec log e).at (Answer n) × (sec log (suc e) ≡ passed (sec log e))
    answer_moves log e n is =
        let s = of_answer body e (ReplyExchange n) is refl in let f = s.1.from in
        let same : ReplyExchange n ≡ ReplyExchange s.0 = s.1.same in let reply : s.0 ≡ n = cc in
        (subst (λ q. IsStep body (sec log e).at (Answer q)) reply (there log f), moves log log f refl refl)

  -- the word of a register that a step before step n has set is the agreed one
  record IsSet (n reg : ℕ) : Type 0 where
    by : ℕ
    step : Step
    earlier : by < n
    here : IsStep body by step
    sets : Contains (set_registers step) reg

  one : (log : ℕ → ℕ) (count into reg : ℕ) (words logs : ℕ → ℕ) → (reg ≢ into → words reg ≡ log (logs reg)) → upd words into (log count) reg ≡ log (upd logs into count reg)
  one log count into reg words logs same = ⊎_elim (λ e. at log count into reg words logs e) (λ ne. other log count into reg words logs ne (same ne)) (cases_eq reg into)
    where
      at : (log : ℕ → ℕ) (count into reg : ℕ) (words logs : ℕ → ℕ) → reg ≡ into → upd words into (log count) reg ≡ log (upd logs into count reg)
      at log count into reg words logs e = grind (arith, nat_tests)

      other : (log : ℕ → ℕ) (count into reg : ℕ) (words logs : ℕ → ℕ) → reg ≢ into → words reg ≡ log (logs reg) → upd words into (log count) reg ≡ log (upd logs into count reg)
      other log count into reg words logs ne e = grind (arith, nat_tests)

  nothing : {A : Type 0} {reg : ℕ} → Contains [] reg → A
  nothing (k, low, e) = absurd (omega arith)

  -- a register that this step sets, or that had the agreed word
  set_by : (log : ℕ → ℕ) (g : Registers) (words : ℕ → ℕ) (reg : ℕ) (step : Step) → (Contains (set_registers step) reg ⊎ (words reg ≡ log (g.log reg)))
      → words_after log g.count words step reg ≡ log ((registers_after g step).log reg)
  set_by log g words reg (Load place into) either = one log g.count into reg words g.log (λ ne. ⊎_elim (λ c. absurd (ne (alone c))) (λ same. same) either)
    where
      alone : Contains (into ∷ []) reg → reg ≡ into
      alone (zero, low, e) = sym e
      alone (suc k, low, e) = absurd (omega arith)
  set_by log g words reg (Make init into) either = one log g.count into reg words g.log (λ ne. ⊎_elim (λ c. absurd (ne (alone c))) (λ same. same) either)
    where
      alone : Contains (into ∷ []) reg → reg ≡ into
      alone (zero, low, e) = sym e
      alone (suc k, low, e) = absurd (omega arith)
  set_by log g words reg (Want r word) either = ⊎_elim nothing (λ same. same) either
  set_by log g words reg (Fresh r) either = ⊎_elim nothing (λ same. same) either
  set_by log g words reg (Take place word) either = ⊎_elim nothing (λ same. same) either
  set_by log g words reg Stamp either = ⊎_elim nothing (λ same. same) either
  set_by log g words reg (Store r value) either = ⊎_elim nothing (λ same. same) either
  set_by log g words reg (Retire slot) either = ⊎_elim nothing (λ same. same) either
  set_by log g words reg (Answer reply) either = ⊎_elim nothing (λ same. same) either

  set_word : (log : ℕ → ℕ) (n reg : ℕ) → n ≤ length body → IsSet n reg → words_of log body n reg ≡ log ((registers_before body n).log reg)
  set_word log zero reg low set = absurd (let early = set.earlier in omega arith)
  set_word log (suc n) reg low set =
      let step = step_at body n (omega arith) in let g = registers_before body n in
      ap (λ (f : ℕ → ℕ). f reg) (words_next log body n step.0 step.1)
      ∙ (set_by log g (words_of log body n) reg step.0 (⊎_elim
      (λ earlier. inr (set_word log n reg (omega arith) (record { by = set.by; step = set.step; earlier = earlier; here = set.here; sets = set.sets })))
      (λ now. inl (let same : set.step ≡ step.0 = same_step body set.by n set.step step.0 set.here step.1 now in subst (λ s. Contains (set_registers s) reg) same set.sets))
      (order set.by n set.earlier))
      ∙ ap (λ (h : Registers). log (h.log reg)) (sym (registers_before_next body n step.0 step.1)))
    where
      order : (b n : ℕ) → b < suc n → (b < n) ⊎ (b ≡ n)
      order b n low = search arith

  -- a register that was loaded before step n has the agreed word
  loaded_word : (log : ℕ → ℕ) (n reg : ℕ) → n ≤ length body → LoadedBefore body n reg → words_of log body n reg ≡ log ((registers_before body n).log reg)
  loaded_word log n reg low by = set_word log n reg low (record { by = by.by; step = Load by.place reg; earlier = by.earlier; here = by.loads; sets = (0, omega arith, refl) })

  made_word : (log : ℕ → ℕ) (n reg : ℕ) → n ≤ length body → MadeBefore body n reg → words_of log body n reg ≡ log ((registers_before body n).log reg)
  made_word log n reg low by = set_word log n reg low (record { by = by.by; step = Make by.init reg; earlier = by.earlier; here = by.makes; sets = (0, omega arith, refl) })

  -- what a value stands for is what its source gives
  value_word : (log : ℕ → ℕ) (n : ℕ) (value : Value) → n ≤ length body → SetBefore body n value → value_in (words_of log body n) value ≡ source_word log (source_of (registers_before body n) value)
  value_word log n (Const number) low by = refl
  value_word log n (Of reg) low by = ap value_of (loaded_word log n reg low by)
  value_word log n (Made reg) low by = ap value_of (made_word log n reg low by)

  module _ (shaped : IsShaped body) (op : Op) (thunk : Thunk) (readings : Readings) where
    abbrev now : (ℕ → ℕ) → ℕ → Section
    now log edge = section_at op thunk readings body log edge

    inside_body : {step : Step} {at e : ℕ} (f : From body step at e) → f.n ≤ length body
    inside_body {step = step} f = let within = step_inside body f.n step f.here in omega arith

    -- the word of a loaded register, in the section that has come here
    word_here : {step : Step} {at e : ℕ} (log : ℕ → ℕ) (f : From body step at e) (reg : ℕ) → LoadedBefore body f.n reg → (now log e).reg reg ≡ log ((registers_before body f.n).log reg)
    word_here {e = e} log f reg by = ap (λ n. words_of log body n reg) (before_it f) ∙ loaded_word log f.n reg (inside_body f) by

    -- the check of a Want
    pub want_moves : (log : ℕ → ℕ) (e p k w : ℕ) → code e ≡ CheckWord p k w
        → (reg : ℕ) × IsStep body (now log e).at (Want reg w) × ((now log e).reg reg ≡ log k) × (now log (suc e) ≡ passed (now log e))
    want_moves log e p k w is =
        let s = of_want body e (CheckWord p k w) is refl in let f = s.2.from in let g = registers_before body f.n in
        let same : CheckWord p k w ≡ CheckWord (g.place s.0) (g.log s.0) s.1 = s.2.same in
        let word : s.1 ≡ w = cc in let place : k ≡ g.log s.0 = cc in (
          s.0,
          subst (λ v. IsStep body (now log e).at (Want s.0 v)) word (there op thunk readings log f),
          word_here log f s.0 (loaded_before body shaped f.n s.0 (Want s.0 s.1) [] f.here refl) ∙ ap log (sym place),
          moves op thunk readings log log f refl refl,
        )

    -- the check of a Fresh
    pub fresh_moves : (log : ℕ → ℕ) (e p k : ℕ) → code e ≡ CheckFresh p k
        → (reg : ℕ) × IsStep body (now log e).at (Fresh reg) × ((now log e).reg reg ≡ log k) × (now log (suc e) ≡ passed (now log e))
    fresh_moves log e p k is =
        let s = of_fresh body e (CheckFresh p k) is refl in let f = s.1.from in let g = registers_before body f.n in
        let same : CheckFresh p k ≡ CheckFresh (g.place s.0) (g.log s.0) = s.1.same in
        let place : k ≡ g.log s.0 = cc in (
          s.0,
          there op thunk readings log f,
          word_here log f s.0 (loaded_before body shaped f.n s.0 (Fresh s.0) [] f.here refl) ∙ ap log (sym place),
          moves op thunk readings log log f refl refl,
        )

    -- what a Store at the edge is for its section
    pub record StoreMoves (log : ℕ → ℕ) (e p k : ℕ) (v : Source) : Type 0 where
      pub reg : ℕ
      pub value : Value
      pub load : ℕ
      pub here : IsStep body (now log e).at (Store reg value)
      pub earlier : load < (now log e).at
      pub loads : IsStep body load (Load p reg)
      pub word : (now log e).reg reg ≡ log k
      pub stores : value_in (now log e).reg value ≡ source_word log v
      pub next : now log (suc e) ≡ passed (now log e)

    pub store_moves : (log : ℕ → ℕ) (e p k : ℕ) (v : Source) → code e ≡ ExchangeCell p k v → StoreMoves log e p k v
    store_moves log e p k v is =
        let s = of_store body e (ExchangeCell p k v) is refl in let f = s.2.from in let g = registers_before body f.n in
        let same : ExchangeCell p k v ≡ ExchangeCell (g.place s.0) (g.log s.0) (source_of g s.1) = s.2.same in
        let by = loaded_before body shaped f.n s.0 (Store s.0 s.1) (s.1 ∷ []) f.here refl in
        let loaded = loaded_register body shaped by.by by.place s.0 f.n by.loads by.earlier (inside_body f) in
        let place : by.place ≡ p = (let a = loaded.0 in cc) in let slot : k ≡ g.log s.0 = cc in let source : source_of g s.1 ≡ v = cc in
        record {
          reg = s.0;
          value = s.1;
          load = by.by;
          here = there op thunk readings log f;
          earlier = subst (λ n. by.by < n) (sym (before_it f)) by.earlier;
          loads = subst (λ q. IsStep body by.by (Load q s.0)) place by.loads;
          word = word_here log f s.0 by ∙ ap log (sym slot);
          stores = ap (λ n. value_in (words_of log body n) s.1) (before_it f)
              ∙ (value_word log f.n s.1 (inside_body f) (shaped.used f.n (Store s.0 s.1) f.here 1 (Const 0) (omega arith)) ∙ ap (source_word log) source);
          next = moves op thunk readings log log f refl refl;
        }

    -- what a Make at the edge fills one of its slot's cells with
    pub record MakeFills (log : ℕ → ℕ) (e k cell : ℕ) (v : Value) : Type 0 where
      pub at : ℕ
      pub below : at < e
      pub source : Source
      pub stores : code at ≡ PrivateStore cell k source
      pub word : value_in (now log e).reg v ≡ source_word log source

    pub make_fills : (log : ℕ → ℕ) (e k : ℕ) → code e ≡ MakeCommit k → (init : Init) (into : ℕ) → IsStep body (now log e).at (Make init into)
        → (cell : ℕ) (v : Value) → cell < 5 → slice_get init.cells cell ≡ Some v → MakeFills log e k cell v
    make_fills log e k is init into here cell v low fill =
        let s = of_make body e (MakeCommit k) is refl in let f = s.2.from in let g = registers_before body f.n in
        let count : MakeCommit k ≡ MakeCommit g.count = s.2.same in
        let same : Make s.0 s.1 ≡ Make init into = same_step body f.n (now log e).at (Make s.0 s.1) (Make init into) f.here here (sym (before_it f)) in
        let made : s.0 ≡ init = cc in
        let value = filled_with init.cells cell v fill in
        let by : SetBefore body f.n v = subst (SetBefore body f.n) value.1 (shaped.used f.n (Make init into) (subst (IsStep body f.n) same f.here) cell (Const 0) value.0) in
        record {
          at = begins body f.n + (1 + 2 * cell);
          below = let place = f.place in omega arith;
          source = source_of g v;
          stores = part_there body f (begins body f.n + (1 + 2 * cell)) (1 + 2 * cell) refl (omega arith)
              ∙ ((fills g s.0 s.1 cell low).store ∙ (ap (PrivateStore cell g.count) (ap (λ (i : Init). fill_of g i cell) made ∙ ap (source_of g) value.1)
              ∙ ap (λ n. PrivateStore cell n (source_of g v)) (let at : g.count ≡ k = cc in at)));
          word = ap (λ n. value_in (words_of log body n) v) (before_it f) ∙ value_word log f.n v (inside_body f) by;
        }
      where
        filled_with : (cells : List Value) (cell : ℕ) (v : Value) → slice_get cells cell ≡ Some v → (cell < length cells) × (slice_index_or cells cell (Const 0) ≡ v)
        filled_with [] cell v fill = absurd (cc)
        filled_with (first ∷ cells) zero v fill = (omega arith, cc)
        filled_with (first ∷ cells) (suc cell) v fill = let rest = filled_with cells cell v fill in (omega arith, rest.1)

  module _ (op : Op) (thunk : Thunk) (readings : Readings) where
    -- a section that has just been published
    pub begins_opened : (log : ℕ → ℕ) → section_at op thunk readings body log 0 ≡ opened op thunk readings
    begins_opened log = is_with op thunk readings log 0 0 (none_passed body)
      where
        none_passed : (body : List Step) → passed_steps body 0 ≡ 0
        none_passed [] = refl
        none_passed (step ∷ steps) = not_yet (micro_count step) 0 (passed_steps steps (0 - micro_count step)) (some_micros step)

    -- an atomic step within a step of the body, which commits nothing
    pub within_moves : (log : ℕ → ℕ) (e : ℕ) (m : Micro) → code e ≡ m → is_within m ≡ true → section_at op thunk readings body log (suc e) ≡ section_at op thunk readings body log e
    within_moves log e (LoadCell p k) is within = let f = (of_load body e (LoadCell p k) is refl).2.from in stays op thunk readings log log f (omega arith) refl
    within_moves log e (Commit p k) is within = cc
    within_moves log e (CheckWord p k w) is within = cc
    within_moves log e (CheckFresh p k) is within = cc
    within_moves log e (NestedLoad p k) is within = let f = (of_take body e (NestedLoad p k) is refl).2.from in stays op thunk readings log log f (omega arith) refl
    within_moves log e (NestedCommit p k) is within = cc
    within_moves log e (CheckFree p k w) is within = let f = (of_take body e (CheckFree p k w) is refl).2.from in stays op thunk readings log log f (omega arith) refl
    within_moves log e (NestedHold p w) is within = let f = (of_take body e (NestedHold p w) is refl).2.from in stays op thunk readings log log f (omega arith) refl
    within_moves log e (OutcomeLoad p k) is within = let f = (of_take body e (OutcomeLoad p k) is refl).2.from in stays op thunk readings log log f (omega arith) refl
    within_moves log e (OutcomeCommit p k) is within = cc
    within_moves log e (CheckHeld p k w) is within = cc
    within_moves log e (PrivateLoad c k) is within = let s = of_make body e (PrivateLoad c k) is refl in let f = s.2.from in let few = few_loads (registers_before body f.n) s.0 s.1 c k f.within s.2.same in stays op thunk readings log log f (omega arith) refl
    within_moves log e (PrivateStore c k v) is within = let f = (of_make body e (PrivateStore c k v) is refl).2.from in let within = f.within in stays op thunk readings log log f (omega arith) refl
    within_moves log e (MakeCommit k) is within = cc
    within_moves log e ClockLoad is within = let f = (of_stamp body e ClockLoad is refl).from in stays op thunk readings log log f (omega arith) refl
    within_moves log e StampExchange is within = let f = (of_stamp body e StampExchange is refl).from in stays op thunk readings log log f (omega arith) refl
    within_moves log e ClockRaise is within = cc
    within_moves log e (ExchangeCell p k v) is within = cc
    within_moves log e (EpochForRetire t k) is within = let f = (of_retire body e (EpochForRetire t k) is refl).1.from in stays op thunk readings log log f (omega arith) refl
    within_moves log e (RetireCommit t k) is within = cc
    within_moves log e (ReplyExchange n) is within = cc
    within_moves log e End is within = cc
    within_moves log e SetDone is within = cc
    within_moves log e (Release p w) is within = cc

    -- the commits of a Take
    pub nested_moves : (log : ℕ → ℕ) (e p k word : ℕ) → code e ≡ NestedCommit p k → section_at op thunk readings body (upd log k word) (suc e) ≡ section_at op thunk readings body log e
    nested_moves log e p k word is =
        let s = of_take body e (NestedCommit p k) is refl in let f = s.2.from in let g = registers_before body f.n in
        let same : NestedCommit p k ≡ NestedCommit s.0 g.count = s.2.same in let here : k ≡ g.count = cc in
        stays op thunk readings log (upd log k word) f (omega arith) (kept op thunk readings log f k word (omega arith))

    pub outcome_moves : (log : ℕ → ℕ) (e p k word : ℕ) → code e ≡ OutcomeCommit p k → section_at op thunk readings body (upd log k word) (suc e) ≡ section_at op thunk readings body log e
    outcome_moves log e p k word is =
        let s = of_take body e (OutcomeCommit p k) is refl in let f = s.2.from in let g = registers_before body f.n in
        let same : OutcomeCommit p k ≡ OutcomeCommit s.0 (g.count + 1) = s.2.same in let here : k ≡ g.count + 1 = cc in
        stays op thunk readings log (upd log k word) f (omega arith) (kept op thunk readings log f k word (omega arith))

    -- at a check the next step is one at which a run can leave
    pub check_exits : (log : ℕ → ℕ) (e : ℕ) (m : Micro) → code e ≡ m → is_check m ≡ true → (step : Step) × IsStep body (section_at op thunk readings body log e).at step × (is_exit step ≡ true)
    check_exits log e (LoadCell p k) is check = cc
    check_exits log e (Commit p k) is check = cc
    check_exits log e (CheckWord p k w) is check = let s = of_want body e (CheckWord p k w) is refl in (Want s.0 s.1, there op thunk readings log s.2.from, refl)
    check_exits log e (CheckFresh p k) is check = let s = of_fresh body e (CheckFresh p k) is refl in (Fresh s.0, there op thunk readings log s.1.from, refl)
    check_exits log e (NestedLoad p k) is check = cc
    check_exits log e (NestedCommit p k) is check = cc
    check_exits log e (CheckFree p k w) is check = let s = of_take body e (CheckFree p k w) is refl in (Take s.0 s.1, there op thunk readings log s.2.from, refl)
    check_exits log e (NestedHold p w) is check = cc
    check_exits log e (OutcomeLoad p k) is check = cc
    check_exits log e (OutcomeCommit p k) is check = cc
    check_exits log e (CheckHeld p k w) is check = let s = of_take body e (CheckHeld p k w) is refl in (Take s.0 s.1, there op thunk readings log s.2.from, refl)
    check_exits log e (PrivateLoad c k) is check = cc
    check_exits log e (PrivateStore c k v) is check = cc
    check_exits log e (MakeCommit k) is check = cc
    check_exits log e ClockLoad is check = cc
    check_exits log e StampExchange is check = cc
    check_exits log e ClockRaise is check = cc
    check_exits log e (ExchangeCell p k v) is check = cc
    check_exits log e (EpochForRetire t k) is check = cc
    check_exits log e (RetireCommit t k) is check = cc
    check_exits log e (ReplyExchange n) is check = cc
    check_exits log e End is check = cc
    check_exits log e SetDone is check = cc
    check_exits log e (Release p w) is check = cc

    -- at the end every step is passed
    pub end_passes : (log : ℕ → ℕ) (e : ℕ) → code e ≡ End → slice_get body (section_at op thunk readings body log e).at ≡ None
    end_passes log e is = ap (slice_get body) (passed_all body e past) ∙ none_past body
      where
        order : (i n : ℕ) → (i < n) ⊎ (n ≤ i)
        order i n = search arith

        past : begins body (length body) ≤ e
        past = ⊎_elim (λ low. absurd (let s = stands body e low in let p = part_at body e s in let o = ap owner is in let few = kind_most s.step in let same = p.owns in omega arith)) (λ high. let all = whole_line body in omega arith) (order e (length (line body)))

        none_past : (steps : List Step) → slice_get steps (length steps) ≡ None
        none_past [] = refl
        none_past (step ∷ steps) = none_past steps
