-- The runs of a section when its first run goes on, and a run's own step.
use Rattle.std.proofs.Common.{◌≡◌, ℕ, suc, ◌<◌, ◌≤◌, Bool, true, false, refl, sym, ap, ◌∙◌, subst, ⊎_elim, arith}
use Rattle.section_lines.specs.structure_laws.specs.body_terms.specs.Update.{upd}
use Rattle.section_lines.specs.structure_laws.specs.body_terms.specs.Line.{is_commit}
use Rattle.section_lines.specs.structure_laws.specs.body_terms.specs.declared.micro.Micro.{Micro}
use Rattle.section_lines.specs.structure_laws.specs.body_terms.specs.declared.micro.Micro.TheVariants as micros
use Rattle.section_lines.specs.Line.{is_clock_raise}
use Rattle.agreement_core.specs.State.{CellRules, Shared, Section, Run}
use Rattle.agreement_core.specs.Checks.{is_stamp_exchange}
use Rattle.agreement_core.specs.Events.{IsPublishable, begun}
use Rattle.agreement_core.specs.Runs.{TrailIsSound, WordIsSound, ReleasesAreSound, RunIsSound}
use Rattle.agreement_core.proofs.Frame.{not_both}
use Rattle.agreement_core.proofs.Going.{at_edge}
use Rattle.agreement_core.proofs.Committing.{upd_here, upd_else}
use Rattle.agreement_core.proofs.Lines.{load_of_commit, load_of_nested, load_of_outcome, clock_of_stamp, exchange_of_raise, start_commit, start_nested, start_outcome}

-- the edge moves by one, and this is the log then
abbrev pub moved : Section → (ℕ → ℕ) → Section
moved s log = record s { log = log; edge = suc s.edge }

-- the number that a run goes by behind this step, where the next step goes by it
pub record Follows (x : Shared) (code : ℕ → Micro) (request n word : ℕ) : Type 0 where
  pub cell : (p k : ℕ) → code n ≡ micros.LoadCell p k → (word ≡ x.cells p) × (x.seen p word ≡ true)
  pub nested : (p k : ℕ) → code n ≡ micros.NestedLoad p k → x.seen p word ≡ true
  pub outcome : (p k : ℕ) → code n ≡ micros.OutcomeLoad p k → (word ≡ x.cells p) × (x.seen p word ≡ true)
  pub clock : code n ≡ micros.ClockLoad → word ≤ x.clock
  pub stamp : code n ≡ micros.StampExchange → word ≡ x.stamp request

-- the steps behind which the next one goes by their number
abbrev pub gives_number : Micro → Bool
gives_number (micros.LoadCell p k) = true
gives_number (micros.NestedLoad p k) = true
gives_number (micros.OutcomeLoad p k) = true
gives_number micros.ClockLoad = true
gives_number micros.StampExchange = true
gives_number _ = false

pub follows_any : (x : Shared) (code : ℕ → Micro) (request n word : ℕ) → gives_number (code n) ≡ false → Follows x code request n word
follows_any x code request n word none = record {
  cell = λ p k e. absurd (not_both _ (ap gives_number e) none);
  nested = λ p k e. absurd (not_both _ (ap gives_number e) none);
  outcome = λ p k e. absurd (not_both _ (ap gives_number e) none);
  clock = λ e. absurd (not_both _ (ap gives_number e) none);
  stamp = λ e. absurd (not_both _ (ap gives_number e) none);
}

-- the run behind a step
abbrev pub stepped : Run → ℕ → Run
stepped q word = record q { at = suc q.at; word = word }

-- the run behind a commit
abbrev pub agreed : Run → ℕ → Run
agreed q word = record q { at = suc q.at; count = suc q.count; trail = upd q.trail q.count word }

module _ (c : CellRules) (x : Shared) (d : ℕ) (s : Section) (p : IsPublishable c d s.lock s.word s.code s.slot) where
  -- a run that stands while the edge moves
  pub run_stands : (q : Run) (log : ℕ → ℕ) → s.done ≡ 0 → ((k : ℕ) → k < s.slot s.edge → log k ≡ s.log k) → RunIsSound c x d s q
      → RunIsSound c x d (moved s log) q
  run_stands q log un same old =
      let behind = old.in_trail.behind in
      record {
        in_trail = record {
          behind = omega arith;
          counted = old.in_trail.counted;
          agreed = λ k lt. let r = p.line.counted.slot_rises q.at s.edge behind in let n = old.in_trail.counted in
              old.in_trail.agreed k lt ∙ sym (same k (omega arith));
          ended_done = old.in_trail.ended_done;
          ended_edge = λ e. absurd (old.in_trail.ended_done e un);
        };
        in_word = record {
          standing = λ place k at e. absurd (omega arith);
          read = old.in_word.read;
          nested_read = old.in_word.nested_read;
          outcome_read = old.in_word.outcome_read;
          outcome_held = old.in_word.outcome_held;
          outcome_named = old.in_word.outcome_named;
          clock_read = old.in_word.clock_read;
          stamp_agreed = old.in_word.stamp_agreed;
        };
        in_releases = old.in_releases;
      }

  -- the number that a run goes by behind its step
  word_follows : (q : Run) (word : ℕ) → q.word ≡ word → (n : ℕ) → q.at ≡ suc n → Follows x s.code s.request n word → WordIsSound x d s q
  word_follows q word is n at follows =
      let code : (m : Micro) → s.code q.at ≡ m → s.code (suc n) ≡ m = λ m e. ap s.code (sym at) ∙ e in
      record {
        standing = λ place k edge e. is ∙ (follows.cell place k (load_of_commit c s.lock s.code s.slot p.line n place k (code _ e))).0;
        read = λ place k e. ap (x.seen place) is
            ∙ (follows.cell place k (load_of_commit c s.lock s.code s.slot p.line n place k (code _ e))).1;
        nested_read = λ place k e. ap (x.seen place) is ∙ follows.nested place k
            (load_of_nested c s.lock s.code s.slot p.line n place k (code _ e));
        outcome_read = λ place k e. ap (x.seen place) is ∙
            (follows.outcome place k (load_of_outcome c s.lock s.code s.slot p.line n place k (code _ e))).1;
        outcome_held = λ un place k e v. sym
            (is ∙ (follows.outcome place k (load_of_outcome c s.lock s.code s.slot p.line n place k (code _ e))).0);
        outcome_named = λ place k e v. is
            ∙ (follows.outcome place k (load_of_outcome c s.lock s.code s.slot p.line n place k (code _ e))).0;
        clock_read = λ e. subst (λ m. m ≤ x.clock) (sym is)
            (follows.clock (clock_of_stamp c s.lock s.code s.slot p.line n (ap (λ m. is_stamp_exchange (s.code m)) (sym at) ∙ e)));
        stamp_agreed = λ e. is
            ∙ follows.stamp (exchange_of_raise c s.lock s.code s.slot p.line n (ap (λ m. is_clock_raise (s.code m)) (sym at) ∙ e));
      }

  -- a run behind a step that commits nothing
  pub run_steps : (q : Run) (word : ℕ) → q.ended ≡ false → q.at < s.edge → is_commit (s.code q.at) ≡ false → TrailIsSound s q
      → ReleasesAreSound c x d q → Follows x s.code s.request q.at word
      → RunIsSound c x d s (stepped q word)
  run_steps q word going behind no_commit trail releases follows = record {
    in_trail = record {
      behind = behind;
      counted = trail.counted ∙ sym (p.line.counted.slot_same q.at no_commit);
      agreed = trail.agreed;
      ended_done = λ e. absurd (not_both _ e going);
      ended_edge = λ e. absurd (not_both _ e going);
    };
    in_word = word_follows (stepped q word) word refl q.at refl follows;
    in_releases = record { only_ended = releases.only_ended; unnamed = releases.unnamed };
  }

  -- a run behind a commit
  pub run_agrees : (q : Run) (word : ℕ) → q.ended ≡ false → q.at < s.edge → is_commit (s.code q.at) ≡ true → s.log (s.slot q.at) ≡ word
      → q.count ≡ s.slot q.at
      → ((k : ℕ) → k < q.count → q.trail k ≡ s.log k) → ReleasesAreSound c x d q → Follows x s.code s.request q.at q.word
      → RunIsSound c x d s (agreed q word)
  run_agrees q word going behind commit is counted old releases follows = record {
    in_trail = record {
      behind = behind;
      counted = ap suc counted ∙ sym (p.line.counted.slot_commit q.at commit);
      agreed = λ k lt. ⊎_elim
          (λ l. upd_else q.trail q.count k word (omega arith) ∙ old k l)
          (λ e. ap (upd q.trail q.count word) e ∙ upd_here q.trail q.count word ∙ sym is ∙ ap s.log (sym (e ∙ counted)))
          (at_edge k q.count lt);
      ended_done = λ e. absurd (not_both _ e going);
      ended_edge = λ e. absurd (not_both _ e going);
    };
    in_word = word_follows (agreed q word) q.word refl q.at refl follows;
    in_releases = record { only_ended = releases.only_ended; unnamed = releases.unnamed };
  }

  -- a run that begins
  pub run_begins : RunIsSound c x d s (begun d)
  run_begins = record {
    in_trail = record {
      behind = omega arith;
      counted = sym p.line.counted.slot_start;
      agreed = λ k lt. absurd (omega arith);
      ended_done = λ e. absurd (not_both _ e refl);
      ended_edge = λ e. absurd (not_both _ e refl);
    };
    in_word = record {
      standing = λ place k at e. absurd (start_commit c s.lock s.code s.slot p.line place k e);
      read = λ place k e. absurd (start_commit c s.lock s.code s.slot p.line place k e);
      nested_read = λ place k e. absurd (start_nested c s.lock s.code s.slot p.line place k e);
      outcome_read = λ place k e. absurd (start_outcome c s.lock s.code s.slot p.line place k e);
      outcome_held = λ un place k e v. absurd (start_outcome c s.lock s.code s.slot p.line place k e);
      outcome_named = λ place k e v. absurd (start_outcome c s.lock s.code s.slot p.line place k e);
      clock_read = λ e. omega arith;
      stamp_agreed = λ e. absurd (not_both _ e p.whole.start_raise);
    };
    in_releases = record { only_ended = λ place e. absurd (not_both _ e refl); unnamed = λ place e lock v. absurd (not_both _ e refl) };
  }
