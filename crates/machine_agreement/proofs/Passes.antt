-- A run goes on behind the checks that pass.
use Rattle.std.proofs.Common.{◌≡◌, ◌≢◌, ℕ, zero, suc, ◌+◌, ◌<◌, List, [], ◌∷◌, drop, true, false, refl, sym, ap, ◌∙◌, subst, arith, Some, None}
use Rattle.std.specs.Prelude.{Bool, cond, ◌&&◌, slice_index, is_none, replicate, not, ◌==◌, nat_le}
use Rattle.std.proofs.lemmas.List.{get_or-drop}
use Rattle.std.proofs.lemmas.Bool.Decides.{nat_tests}
use Rattle.machine_states.specs.body_terms.specs.declared.micro.Micro.{Micro}
use Rattle.machine_states.specs.body_terms.specs.declared.micro.Micro.TheVariants as micros
use Rattle.machine_states.specs.body_terms.specs.Line.{is_check, micro_at}
use Rattle.machine_states.specs.body_terms.specs.Word.{version_of, is_free, is_spent, held_word}
use Rattle.machine_states.specs.body_terms.specs.Run.{Setting, leaves, passed_checks, settled}
use Rattle.machine_states.specs.table_words.specs.declared.layout.Layout.{Layout}
use Rattle.machine_states.specs.structure_laws.specs.Meaning.{Meaning}
use Rattle.machine_states.specs.runner_steps.specs.Sections.{setting_of, line_of, settles}
use Rattle.machine_states.specs.runner_parts.specs.State.{RunState}
use Rattle.agreement_core.specs.State.{CellRules, Section, Run, AgreementState, section_of}
use Rattle.agreement_core.specs.Checks.{passes, came}
use Rattle.agreement_core.specs.Events.{Pass, after}
use Rattle.agreement_core.specs.Schedules.{AllEnabled, after_all}
use Rattle.machine_states.proofs.Updates.{upd_here, upd_else, upd_split}
use Rattle.machine_scenes.specs.Shown.{rules_of}
use Rattle.machine_agreement.specs.Joined.{IsRunOf}

-- a section that differs at most in how far its runs have come
abbrev pub SameText : Section → Section → Type 0
SameText x y = x ≡ record y { edge = x.edge }

-- a state that differs at most in how far sections' runs have come, and in a runner's place in its line, which is so much further
pub record IsFurther (w w' : AgreementState) (r n : ℕ) : Type 0 where
  pub shared : w'.shared ≡ w.shared
  pub used : w'.used ≡ w.used
  pub live : w'.live ≡ w.live
  pub over : w'.over ≡ w.over
  pub finishes : w'.finishes ≡ w.finishes
  pub finished : w'.finished ≡ w.finished
  pub others : (i : ℕ) → i ≢ r → w'.run i ≡ w.run i
  pub own : w'.run r ≡ record (w.run r) { at = (w.run r).at + n }
  pub sections : (d : ℕ) → SameText (w'.section d) (w.section d)

further_none : (w : AgreementState) (r : ℕ) → IsFurther w w r 0
further_none w r = record {
  shared = refl;
  used = refl;
  live = refl;
  over = refl;
  finishes = refl;
  finished = refl;
  others = λ i ne. refl;
  own = ap (λ at. record (w.run r) { at = at }) (let e : (w.run r).at ≡ (w.run r).at + 0 = omega arith in e);
  sections = λ d. refl;
}

further_one : (w : AgreementState) (r : ℕ) → IsFurther w (after w (Pass r)) r 1
further_one w r = record {
  shared = refl;
  used = refl;
  live = refl;
  over = refl;
  finishes = refl;
  finished = refl;
  others = λ i ne. upd_else w.run r _ i ne;
  own = upd_here w.run r _ ∙ ap (λ at. record (w.run r) { at = at }) (let e : suc ((w.run r).at) ≡ (w.run r).at + 1 = omega arith in e);
  sections = upd_split w.section (w.run r).descriptor (came (section_of w r) (suc (w.run r).at)) (λ i x. SameText x (w.section i)) refl (λ i ne. refl);
}

further_more : (w w' w'' : AgreementState) (r n k : ℕ) → IsFurther w w' r n → IsFurther w' w'' r k → IsFurther w w'' r (n + k)
further_more w w' w'' r n k one two = record {
  shared = two.shared ∙ one.shared;
  used = two.used ∙ one.used;
  live = two.live ∙ one.live;
  over = two.over ∙ one.over;
  finishes = two.finishes ∙ one.finishes;
  finished = two.finished ∙ one.finished;
  others = λ i ne. two.others i ne ∙ one.others i ne;
  own = two.own ∙ ap (λ (q : Run). record q { at = q.at + k }) one.own ∙ ap (λ at. record (w.run r) { at = at }) (let e : (w.run r).at + n + k ≡ (w.run r).at + (n + k) = omega arith in e);
  sections = λ d. two.sections d ∙ ap (λ (x : Section). record x { edge = (w''.section d).edge }) (one.sections d);
}

module _ (c : CellRules) where
  -- so many checks pass from the run's place on
  abbrev pub PassFrom : AgreementState → ℕ → ℕ → Type 0
  PassFrom w r n = (i : ℕ) → i < n → passes c ((w.run r).descriptor) ((w.run r).trail) ((section_of w r).code ((w.run r).at + i)) ≡ true

  -- the events by which a run goes on behind so many checks
  pub record GoesBehind (w : AgreementState) (r n : ℕ) : Type 0 where
    pub enabled : AllEnabled c w (replicate n (Pass r))
    pub further : IsFurther w (after_all c w (replicate n (Pass r))) r n

  pub goes_behind : (n : ℕ) (w : AgreementState) (r : ℕ) → (w.run r).running ≡ true → (w.run r).ended ≡ false → PassFrom w r n → GoesBehind w r n
  goes_behind zero w r running going pass = record { enabled = tt; further = further_none w r }
  goes_behind (suc n) w r running going pass =
      let one = further_one w r in
      let w' = after w (Pass r) in
      let text = one.sections (w.run r).descriptor in
      let rest = goes_behind n w' r (ap (λ (q : Run). q.running) one.own ∙ running) (ap (λ (q : Run). q.ended) one.own ∙ going) (λ i low.
      ap (λ (q : Run). passes c q.descriptor q.trail ((w'.section q.descriptor).code (q.at + i))) one.own
      ∙ (ap (λ (x : Section). passes c ((w.run r).descriptor) ((w.run r).trail) (x.code ((w.run r).at + 1 + i))) text
      ∙ (ap (λ k. passes c ((w.run r).descriptor) ((w.run r).trail) ((section_of w r).code k)) (let e : (w.run r).at + 1 + i ≡ (w.run r).at + suc i = omega arith in e) ∙ pass (suc i) (omega arith)))) in
      record {
        enabled = ((running, going, ap (λ k. passes c ((w.run r).descriptor) ((w.run r).trail) ((section_of w r).code k)) (let e : (w.run r).at ≡ (w.run r).at + 0 = omega arith in e) ∙ pass 0 (omega arith)), rest.enabled);
        further = subst (λ k. IsFurther w (after_all c w (replicate (suc n) (Pass r))) r k) (let e : 1 + n ≡ suc n = omega arith in e) (further_more w w' _ r 1 n one rest.further);
      }

none_on : {A : Type 0} (b : Bool) (o : A) → is_none (cond b None (Some o)) ≡ b
none_on true o = refl
none_on false o = refl

none_off : {A : Type 0} (b : Bool) (o : A) → is_none (cond b (Some o) None) ≡ not b
none_off true o = refl
none_off false o = refl

-- a free word is taken where the one that was read is it
taken : (version_max read word : ℕ) → (read == word && (is_free read && not (is_spent version_max read))) ≡ (read == word && (is_free word && not (is_spent version_max word)))
taken version_max read word = by (read == word) refl
  where
    same : (read word : ℕ) → (read == word) ≡ true → read ≡ word
    same read word e = grind (arith, nat_tests)

    by : (b : Bool) → (read == word) ≡ b → (read == word && (is_free read && not (is_spent version_max read))) ≡ (read == word && (is_free word && not (is_spent version_max word)))
    by true e = ap (λ k. read == word && (is_free k && not (is_spent version_max k))) (same read word e)
    by false e = ap (λ b. b && (is_free read && not (is_spent version_max read))) e ∙ ap (λ b. b && (is_free word && not (is_spent version_max word))) (sym e)

-- a check that the machine's run passes is one that the component's run passes
pub same_check : (m : Meaning) (l : Layout) (d : ℕ) (trail : List ℕ) (words : ℕ → ℕ) (micro : Micro) → ((k : ℕ) → words k ≡ slice_index trail k)
    → (is_check micro && is_none (leaves (setting_of l d) trail micro)) ≡ passes (rules_of m l) d words micro
same_check m l d trail words (micros.CheckWord place log word) same = none_on (slice_index trail log == word) _ ∙ ap (λ k. k == word) (sym (same log))
same_check m l d trail words (micros.CheckFresh place log) same = none_off (version_of (slice_index trail log) == l.version_max) _ ∙ ap (λ k. not (version_of k == l.version_max)) (sym (same log))
same_check m l d trail words (micros.CheckFree place log word) same =
    none_on _ _ ∙ (taken l.version_max (slice_index trail log) word ∙ ap (λ k. k == word && (is_free word && not (is_spent l.version_max word))) (sym (same log)))
same_check m l d trail words (micros.CheckHeld place log word) same = none_on (slice_index trail log == held_word d word) _ ∙ ap (λ k. k == held_word d word) (sym (same log))
same_check m l d trail words _ same = refl

-- behind the checks that pass none passes
pub passed_each : (s : Setting) (trail : List ℕ) (ms : List Micro) (i : ℕ) → i < passed_checks s trail ms → (is_check (micro_at ms i) && is_none (leaves s trail (micro_at ms i))) ≡ true
passed_each s trail [] i low = absurd (omega arith)
passed_each s trail (micro ∷ ms) i low = by (is_check micro && is_none (leaves s trail micro)) refl i low (λ k below. passed_each s trail ms k below)
  where
    by : (b : Bool) → (is_check micro && is_none (leaves s trail micro)) ≡ b → (i : ℕ) → i < cond b (passed_checks s trail ms + 1) 0
        → ((k : ℕ) → k < passed_checks s trail ms → (is_check (micro_at ms k) && is_none (leaves s trail (micro_at ms k))) ≡ true)
        → (is_check (micro_at (micro ∷ ms) i) && is_none (leaves s trail (micro_at (micro ∷ ms) i))) ≡ true
    by false e i low rest = absurd (omega arith)
    by true e zero low rest = e
    by true e (suc i) low rest = rest i (omega arith)

pub passed_then : (s : Setting) (trail : List ℕ) (ms : List Micro) → (is_check (micro_at ms (passed_checks s trail ms)) && is_none (leaves s trail (micro_at ms (passed_checks s trail ms)))) ≡ false
passed_then s trail [] = refl
passed_then s trail (micro ∷ ms) = by (is_check micro && is_none (leaves s trail micro)) refl (passed_checks s trail ms) (passed_then s trail ms)
  where
    by : (b : Bool) → (is_check micro && is_none (leaves s trail micro)) ≡ b → (n : ℕ) → (is_check (micro_at ms n) && is_none (leaves s trail (micro_at ms n))) ≡ false
        → (is_check (micro_at (micro ∷ ms) (cond b (n + 1) 0)) && is_none (leaves s trail (micro_at (micro ∷ ms) (cond b (n + 1) 0)))) ≡ false
    by false e n rest = e
    by true e n rest = ap (λ k. is_check (micro_at (micro ∷ ms) k) && is_none (leaves s trail (micro_at (micro ∷ ms) k))) (let e : n + 1 ≡ suc n = omega arith in e) ∙ rest

passed_none : (s : Setting) (trail : List ℕ) (ms : List Micro) → (is_check (micro_at ms 0) && is_none (leaves s trail (micro_at ms 0))) ≡ false → passed_checks s trail ms ≡ 0
passed_none s trail [] fails = refl
passed_none s trail (micro ∷ ms) fails = ap (λ b. cond b (passed_checks s trail ms + 1) 0) fails

pub settled_here : (s : Setting) (trail : List ℕ) (ms : List Micro) (at : ℕ) → (is_check (micro_at ms at) && is_none (leaves s trail (micro_at ms at))) ≡ false → settled s trail ms at ≡ at
settled_here s trail ms at fails =
    let first : micro_at (drop at ms) 0 ≡ micro_at ms at = get_or-drop at ms 0 micros.End ∙ ap (micro_at ms) (let e : at + 0 ≡ at = omega arith in e) in
    let none = passed_none s trail (drop at ms) (ap (λ x. is_check x && is_none (leaves s trail x)) first ∙ fails) in omega arith

module _ (m : Meaning) (l : Layout) (q : RunState) where
  abbrev setting : Setting
  setting = setting_of l q.descriptor

  -- how many checks the run passes from its place on
  abbrev pub checks_ahead : ℕ
  checks_ahead = passed_checks setting q.trail (drop q.at (line_of m q))

  abbrev checks : Micro → Bool
  checks micro = is_check micro && is_none (leaves setting q.trail micro)

  pub ahead : (i : ℕ) → i < checks_ahead → checks (micro_at (line_of m q) (q.at + i)) ≡ true
  ahead i low = ap checks (sym (get_or-drop q.at (line_of m q) i micros.End)) ∙ passed_each setting q.trail (drop q.at (line_of m q)) i low

  pub then_not : checks (micro_at (line_of m q) (q.at + checks_ahead)) ≡ false
  then_not = ap checks (sym (get_or-drop q.at (line_of m q) checks_ahead micros.End)) ∙ passed_then setting q.trail (drop q.at (line_of m q))

  -- a run that is settled rests
  pub settled_rests : settles m l (settles m l q) ≡ settles m l q
  settled_rests = ap (λ at. record q { at = at }) (settled_here setting q.trail (line_of m q) (q.at + checks_ahead) then_not)

  -- no check passes where a run rests
  pub resting : settles m l q ≡ q → checks (micro_at (line_of m q) q.at) ≡ false
  resting rest = ap (λ (k : ℕ). checks (micro_at (line_of m q) k)) (sym (ap (λ (x : RunState). x.at) rest)) ∙ then_not

  -- the component's run goes on as the machine's does
  module _ (w : AgreementState) (r : ℕ) (run : IsRunOf (w.run r) q) (going : q.ended ≡ 0) (code : (i : ℕ) → (w.section q.descriptor).code i ≡ micro_at (line_of m q) i) where
    abbrev c : CellRules
    c = rules_of m l

    here : (i : ℕ) → (section_of w r).code ((w.run r).at + i) ≡ micro_at (line_of m q) (q.at + i)
    here i = ap (λ d. (w.section d).code ((w.run r).at + i)) run.descriptor ∙ (ap (λ k. (w.section q.descriptor).code (k + i)) run.at ∙ code (q.at + i))

    pass : (i : ℕ) → i < checks_ahead → passes c ((w.run r).descriptor) ((w.run r).trail) ((section_of w r).code ((w.run r).at + i)) ≡ true
    pass i low =
        ap (passes c ((w.run r).descriptor) ((w.run r).trail)) (here i)
        ∙ (ap (λ d. passes c d ((w.run r).trail) (micro_at (line_of m q) (q.at + i))) run.descriptor
        ∙ (sym (same_check m l q.descriptor q.trail ((w.run r).trail) (micro_at (line_of m q) (q.at + i)) run.trail) ∙ ahead i low))

    pub goes : GoesBehind c w r checks_ahead
    goes = goes_behind c checks_ahead w r run.running (run.ended ∙ ap (λ n. nat_le 1 n) going) pass

    pub run_settled : IsRunOf ((after_all c w (replicate checks_ahead (Pass r))).run r) (settles m l q)
    run_settled = subst (λ (x : Run). IsRunOf x (settles m l q)) (sym goes.further.own) (record {
      running = run.running;
      descriptor = run.descriptor;
      at = ap (λ k. k + checks_ahead) run.at;
      word = run.word;
      count = run.count;
      trail = run.trail;
      ended = run.ended;
    })
