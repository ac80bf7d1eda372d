-- A section's log is what the plain run of its body agrees on.
use Rattle.std.proofs.Common.{◌≤◌, ◌≡◌, ◌≢◌, ℕ, zero, suc, ◌-◌, ◌<◌, Bool, true, false, cond, List, length, refl, sym, ap, ◌∙◌, subst, ⊎_elim, arith, Some, None, Option}
use Rattle.std.specs.Prelude.{◌==◌, ◌&&◌, not, slice_index}
use Rattle.section_lines.specs.small_lemmas.proofs.Bools.{negated as not_true}
use Rattle.section_lines.specs.structure_laws.specs.body_terms.specs.Line.{line, micro_at, committed, is_check, is_commit}
use Rattle.section_lines.specs.structure_laws.specs.body_terms.specs.Word.{version_of, is_free, is_spent, held_word}
use Rattle.section_lines.specs.structure_laws.specs.body_terms.specs.Run.{Setting, Run, ran, leaves, refusal}
use Rattle.section_lines.specs.structure_laws.specs.body_terms.specs.declared.outcome.Outcome.{Outcome}
use Rattle.section_lines.specs.structure_laws.specs.body_terms.specs.declared.outcome.Outcome.TheVariants.{Answered}
use Rattle.section_lines.specs.structure_laws.specs.body_terms.specs.declared.outcome.Outcome.TheVariants.{Stale, Spent}
use Rattle.section_lines.specs.structure_laws.specs.body_terms.specs.declared.step.Step.{Step}
use Rattle.section_lines.specs.structure_laws.specs.body_terms.specs.declared.micro.Micro.{Micro}
use Rattle.section_lines.specs.structure_laws.specs.body_terms.specs.declared.micro.Micro.TheVariants as micros
use Rattle.section_lines.specs.structure_laws.specs.body_terms.proofs.ValueLemmas.{get_or-first_values}
use Rattle.std.proofs.lemmas.Bool.{cases_lt}
use Rattle.section_lines.specs.structure_laws.specs.body_terms.proofs.LineLemmas.{past_line}
use Rattle.section_lines.specs.Line.{phase, IsLine}
use Rattle.section_lines.specs.Runs.{agreed, Follows, AgreesWith}
use Rattle.section_lines.proofs.Phases.{is_in_phases, one_answer}
use Rattle.section_lines.proofs.Counted.{is_counted}
use Rattle.section_lines.proofs.Runs.{agrees_with}
use Rattle.agreement_core.specs.State.{CellRules, Section, AgreementState}
use Rattle.agreement_core.specs.Checks.{passes, is_stop, is_reply_exchange}
use Rattle.agreement_core.specs.Sound.{UsedIsSound, IsSound}
use Rattle.agreement_core.specs.History.{HasAnswered, HasLeft}
use Rattle.agreement_core.specs.PlainRuns.{IsOfBody, chosen, IsOver, with_loaded, loaded_cells, start_over, FollowsPlainRun}
use Rattle.agreement_core.proofs.Going.{at_edge}
use Rattle.agreement_core.proofs.Committing.{upd_here, upd_else}
use Rattle.agreement_core.proofs.Frame.{not_both}
use Rattle.agreement_core.proofs.Answering.{follows_below, ends_answered}
use Rattle.agreement_core.proofs.Lasting.{end_is, before_end, answered_or_left}
use Rattle.agreement_core.proofs.Lines.{word_logged, fresh_logged, free_logged, held_logged}

when_true : {A : Type 0} → (b : Bool) (x y : A) → b ≡ true → cond b x y ≡ x
when_true b x y e = ap (λ t. cond t x y) e

when_false : {A : Type 0} → (b : Bool) (x y : A) → b ≡ false → cond b x y ≡ y
when_false b x y e = ap (λ t. cond t x y) e

not_false : (b : Bool) → not b ≡ false → b ≡ true
not_false b e = grind arith

takable_same : (version_max read word : ℕ) → (read == word && (is_free read && not (is_spent version_max read))) ≡
    (read == word && (is_free word && not (is_spent version_max word)))
takable_same version_max read word = grind arith

-- an outcome that is there
pub record SomeOutcome (found : Option Outcome) : Type 0 where
  pub outcome : Outcome
  pub is : found ≡ Some outcome

module _ (c : CellRules) (d lock : ℕ) (code : ℕ → Micro) (slot : ℕ → ℕ) (p : IsLine c.is_lock c.version_max lock code slot) (s : Section)
    (fixed_cells : ℕ) (first : ℕ → ℕ → ℕ) (clock : ℕ)
    (trail : List ℕ) (i : ℕ) (same : (k : ℕ) → k < slot i → slice_index trail k ≡ s.log k) where
  abbrev setting : Setting
  setting = chosen c d s fixed_cells first clock

  -- a run in one go goes on at a check that passes
  pub goes_on : (m : Micro) → code i ≡ m → passes c d s.log m ≡ true → leaves setting trail m ≡ None
  goes_on (micros.CheckWord place k word) e pass = when_true _ _ _
      (ap (λ n. n == word) (same k (word_logged c lock code slot p i place k word e)) ∙ pass)
  goes_on (micros.CheckFresh place k) e pass = when_false _ _ _
      (ap (λ n. version_of n == c.version_max) (same k (fresh_logged c lock code slot p i place k e)) ∙ not_true _ pass)
  goes_on (micros.CheckFree place k word) e pass =
      when_true _ _ _ (ap (λ n. n == word && (is_free n && not (is_spent c.version_max n)))
      (same k (free_logged c lock code slot p i place k word e)) ∙ takable_same c.version_max (s.log k) word ∙ pass)
  goes_on (micros.CheckHeld place k word) e pass = when_true _ _ _
      (ap (λ n. n == held_word d word) (same k (held_logged c lock code slot p i place k word e)) ∙ pass)
  goes_on m e pass = refl

  -- and leaves at one that doesn't
  pub leaves_at : (m : Micro) → code i ≡ m → is_check m ≡ true → passes c d s.log m ≡ false → SomeOutcome (leaves setting trail m)
  leaves_at (micros.CheckWord place k word) e check fail =
      record {
        outcome = Stale place word (slice_index trail k);
        is = when_false _ _ _ (ap (λ n. n == word) (same k (word_logged c lock code slot p i place k word e)) ∙ fail);
      }
  leaves_at (micros.CheckFresh place k) e check fail =
      record {
        outcome = Spent place (slice_index trail k);
        is = when_true _ _ _ (ap (λ n. version_of n == c.version_max) (same k (fresh_logged c lock code slot p i place k e))
            ∙ not_false _ fail);
      }
  leaves_at (micros.CheckFree place k word) e check fail =
      record {
        outcome = refusal setting place word (slice_index trail k);
        is = when_false _ _ _ (ap (λ n. n == word && (is_free n && not (is_spent c.version_max n)))
            (same k (free_logged c lock code slot p i place k word e)) ∙ takable_same c.version_max (s.log k) word ∙ fail);
      }
  leaves_at (micros.CheckHeld place k word) e check fail =
      record {
        outcome = refusal setting place word (slice_index trail k);
        is = when_false _ _ _ (ap (λ n. n == held_word d word) (same k (held_logged c lock code slot p i place k word e)) ∙ fail);
      }
  leaves_at m e check fail = absurd (not_both _ check refl)

one_before : (n : ℕ) → 0 < n → suc (n - 1) ≡ n
one_before n some = omega arith

stop_fails : (c : CellRules) (d : ℕ) (log : ℕ → ℕ) (m : Micro) → is_stop c d log m ≡ true → passes c d log m ≡ false
stop_fails c d log m stop = grind arith

not_reply : (m : Micro) → ((reply : ℕ) → m ≡ micros.ReplyExchange reply → ⊥) → is_reply_exchange m ≡ false
not_reply (micros.ReplyExchange reply) never = absurd (never reply refl)
not_reply m never = refl

-- over plain values, so that the line and the counts may stand for the section's
module _ (c : CellRules) (w : AgreementState) (old : IsSound c w) (d : ℕ) (used : w.used d ≡ true) (body : List Step)
    (is : IsOfBody (w.section d) body) (fixed_cells : ℕ) (first : ℕ → ℕ → ℕ) (clock : ℕ)
    (start : Run) (over : IsOver (w.section d) start) where
  abbrev s : Section
  s = w.section d

  own : UsedIsSound c w.shared (w.live d) (w.over d) d s
  own = old.sections d used

  at : (i : ℕ) → micro_at (line body) i ≡ s.code i
  at i = ap (λ (f : ℕ → Micro). f i) (sym is.code)

  counts : (i : ℕ) → committed (line body) i ≡ s.slot i
  counts i = ap (λ (f : ℕ → ℕ). f i) (sym is.slot)

  -- the words that are agreed below a place
  agreed_word : (i k : ℕ) → k < s.slot i → slice_index (agreed (line body) s.log i) k ≡ s.log k
  agreed_word i k lt = get_or-first_values (committed (line body) i) s.log k (subst (λ n. k < n) (sym (counts i)) lt)

  -- an agreed word isn't 0
  some_word : (i k : ℕ) → i < s.edge → k < s.slot (suc i) → 0 < s.log k
  some_word i k lt lt' = let r = own.published.line.counted.slot_rises (suc i) s.edge lt in own.section.in_log.full k (omega arith)

  pub follows : Follows (chosen c d s fixed_cells first clock) start (line body) s.log s.edge
  follows = record {
    unbegun = over.unbegun;
    unended = over.unended;
    loaded = λ i p k lt e. over.loaded i p k lt (sym (at i) ∙ e);
    nested = λ i p k lt e. refl;
    outcome = λ i p k lt e. refl;
    made = λ i k lt e.
        let e' = sym (at i) ∙ e in
        let here = own.published.line.counted.make_log i k e' in
        let more = own.published.line.counted.slot_commit i (ap is_commit e') in
        one_before (s.log k) (some_word i k lt (omega arith));
    retired = λ i t k lt e. sym (own.section.in_log.retired i t k lt (sym (at i) ∙ e));
    passed = λ i lt check.
        let check' : is_check (s.code i) ≡ true = ap is_check (sym (at i)) ∙ check in
        ap (leaves (chosen c d s fixed_cells first clock) (agreed (line body) s.log i)) (at i)
        ∙ goes_on c d s.lock s.code s.slot own.published.line s fixed_cells first clock (agreed (line body) s.log i) i (agreed_word i)
        (s.code i) refl (own.section.in_log.passed i lt check');
  }

  agrees_at : (n : ℕ) → n ≤ s.edge → AgreesWith (chosen c d s fixed_cells first clock) start (line body) s.log n
  agrees_at n le =
      let answer = one_answer body is.shaped in
      agrees_with (chosen c d s fixed_cells first clock) start (line body) s.log (is_in_phases body is.shaped)
      (is_counted body is.shaped.short) answer.0 answer.1 n
      (follows_below (chosen c d s fixed_cells first clock) start (line body) s.log s.edge n le follows)

  agrees : AgreesWith (chosen c d s fixed_cells first clock) start (line body) s.log s.edge
  agrees = agrees_at s.edge (omega arith)

  -- where a section has left
  pub exits : HasLeft s
      → SomeOutcome (leaves (chosen c d s fixed_cells first clock) (agreed (line body) s.log s.edge) (micro_at (line body) s.edge))
  exits left = subst (λ m. SomeOutcome (leaves (chosen c d s fixed_cells first clock) (agreed (line body) s.log s.edge) m))
      (sym (at s.edge))
      (leaves_at c d s.lock s.code s.slot own.published.line s fixed_cells first clock (agreed (line body) s.log s.edge) s.edge
      (agreed_word s.edge) (s.code s.edge) refl left.check
      (stop_fails c d s.log _ (own.section.in_log.stops left.done)))

  -- where a section has answered
  answers : HasAnswered s → (i reply : ℕ) → s.code i ≡ micros.ReplyExchange reply
      → (ran (chosen c d s fixed_cells first clock) start (line body)).outcome ≡ Some (Answered reply)
  answers answered i reply e =
      let stamped = own.published.line.stamped in
      let six : phase (s.code i) ≡ 6 = ap phase e in
      let below : i < s.edge = before_end c w old d used answered i (omega arith) in
      ends_answered (chosen c d s fixed_cells first clock) start (line body) s.log s.edge follows
      (λ n le. (agrees_at n le).so_far) i reply below
      (within i (omega arith)) (at i ∙ e) (λ n lt. earlier n i lt (stamped.answer_once i reply e))
    where
      within : (i : ℕ) → phase (s.code i) < 7 → i < length (line body)
      within i low = ⊎_elim (λ l. l)
          (λ high. absurd (let seven : phase (s.code i) ≡ 7 = ap phase (sym (at i) ∙ past_line (line body) i high) in omega arith))
          (cases_lt i (length (line body)))

      earlier : (n i : ℕ) → n < i → i ≡ own.published.line.stamped.answer → is_reply_exchange (micro_at (line body) n) ≡ false
      earlier n i lt here = not_reply _ (λ reply f. let same = own.published.line.stamped.answer_once n reply (sym (at n) ∙ f) in
          omega arith)

  pub follows_plain_run : FollowsPlainRun s body (chosen c d s fixed_cells first clock) start
  follows_plain_run = record {
    so_far = agrees.so_far;
    prefix = agrees.prefix;
    left = λ left. let x = exits left in (x.outcome, x.is, agrees.leaves_with x.outcome x.is);
    answer = answers;
    whole = λ done. ⊎_elim
        (λ answered. agrees.at_end (at s.edge ∙ end_is _ answered.ended))
        (λ left. let x = exits left in agrees.at_exit x.outcome x.is)
        (answered_or_left c w old d used done);
  }

-- the cells that a line loads keep the agreed words, since no place is loaded twice
module _ (c : CellRules) (lock : ℕ) (code : ℕ → Micro) (slot : ℕ → ℕ) (p : IsLine c.is_lock c.version_max lock code slot)
    (log : ℕ → ℕ) where
  loaded_once : (i j place k k' : ℕ) → code i ≡ micros.Commit place k → code j ≡ micros.Commit place k' → i ≡ j
  loaded_once i j place k k' e e' =
      let a = p.ordered.commit_before i place k e in
      let b = p.ordered.commit_before j place k' e' in
      a.1 ∙ ap suc (p.placed.load_once a.0 b.0 place k k' a.2 b.2) ∙ sym b.1

  stays : (n i place k : ℕ) → i ≢ n → code i ≡ micros.Commit place k → (cells : ℕ → ℕ) → cells place ≡ log k → (m : Micro) → code n ≡ m
      → with_loaded log cells m place ≡ log k
  stays n i place k ne e cells is (micros.Commit place' k') e' =
      upd_else cells place' place (log k') (λ q. ne (loaded_once i n place k k' e (e' ∙ ap (λ a. micros.Commit a k') (sym q)))) ∙ is
  stays n i place k ne e cells is m e' = is

  pub cells_loaded : (n i place k : ℕ) → i < n → code i ≡ micros.Commit place k → loaded_cells code log n place ≡ log k
  cells_loaded zero i place k lt e = absurd (omega arith)
  cells_loaded (suc n) i place k lt e = ⊎_elim
      (λ l. stays n i place k (λ q. absurd (omega arith)) e (loaded_cells code log n) (cells_loaded n i place k l e) (code n) refl)
      (λ q. ap (λ m. with_loaded log (loaded_cells code log n) m place) (ap code (sym q) ∙ e)
      ∙ upd_here (loaded_cells code log n) place (log k))
      (at_edge i n lt)

pub starts_over : (c : CellRules) (w : AgreementState) → IsSound c w → (d : ℕ) → w.used d ≡ true
    → IsOver (w.section d) (start_over (w.section d))
starts_over c w old d used = let s = w.section d in record {
  unbegun = refl;
  unended = refl;
  loaded = λ i place k lt e. cells_loaded c s.lock s.code s.slot (old.sections d used).published.line s.log s.edge i place k lt e;
}
