-- A run begins, passes a check, sets the done word, releases a lock: each keeps the invariant.
use Rattle.std.proofs.Common.{◌≡◌, ◌≢◌, ℕ, ◌≤◌, Bool, true, false, refl, sym, ap, ◌∙◌, subst, inl, ⊎_elim, arith}
use Rattle.std.proofs.lemmas.Bool.{cases_lt, cases_eq}
use mathlib.Core.Path.{fun_ext}
use Rattle.section_lines.specs.structure_laws.specs.body_terms.specs.Update.{upd}
use Rattle.section_lines.specs.structure_laws.specs.body_terms.specs.Run.{written_once}
use Rattle.section_lines.specs.structure_laws.specs.body_terms.specs.Line.{is_check, is_end}
use Rattle.section_lines.specs.structure_laws.specs.body_terms.specs.declared.micro.Micro.{Micro}
use Rattle.agreement_core.specs.State.{CellRules, Shared, Section, Run, AgreementState}
use Rattle.agreement_core.specs.Checks.{passes, is_stop}
use Rattle.agreement_core.specs.Events.{Enabled, after, begun}
use Rattle.agreement_core.specs.Events.{Open, Pass, SetDone}
use Rattle.agreement_core.specs.Sections.{SectionIsSound}
use Rattle.agreement_core.specs.Runs.{RunIsSound}
use Rattle.agreement_core.specs.Sound.{UsedIsSound, IsSound}
use Rattle.agreement_core.proofs.Frame.{LeavesWords, not_both}
use Rattle.agreement_core.proofs.Committing.{upd_here, upd_else}
use Rattle.agreement_core.proofs.Following.{run_begins}
use Rattle.agreement_core.proofs.Moving.{run_moves, changed}
use Rattle.agreement_core.proofs.LineSteps.{pass_sound}
use Rattle.agreement_core.proofs.Lines.{stop_same}

pub upd_same_at : {A : Type 0} → (f : ℕ → A) (k : ℕ) (v : A) → v ≡ f k → (i : ℕ) → upd f k v i ≡ f i
upd_same_at f k v e i = ⊎_elim (λ q. ap (upd f k v) q ∙ upd_here f k v ∙ e ∙ ap f (sym q)) (λ ne. upd_else f k i v ne) (cases_eq i k)

pub upd_same : {A : Type 0} → (f : ℕ → A) (k : ℕ) → upd f k (f k) ≡ f
upd_same f k = fun_ext (upd_same_at f k (f k) refl)

stop_is : (c : CellRules) (d : ℕ) (log : ℕ → ℕ) (m : Micro) → is_stop c d log m ≡ true → is_end m ≡ false
    → (is_check m ≡ true) × (passes c d log m ≡ false)
stop_is c d log m stop no_end = (grind arith, grind arith)

some_done : (n : ℕ) → written_once n 1 ≢ 0
some_done n e = grind arith

one_done : (n : ℕ) → n ≤ 1 → written_once n 1 ≤ 1
one_done n most = grind arith

pub pass : (c : CellRules) (w : AgreementState) → IsSound c w → (r : ℕ) → Enabled c w (Pass r) → IsSound c (after w (Pass r))
pass c w old r ok = pass_sound c w old r ok.0 ok.1 ok.2

-- what stays with a step that changes no shared word
pub no_words : (x : Shared) → LeavesWords x x
no_words x = record { seen = λ p v h. h; clock = omega arith; stamp = λ n h. refl; reply = λ n h. refl }

-- a step that changes one run and no section, and no shared word
pub run_alone : (c : CellRules) (w : AgreementState) → IsSound c w → (r d : ℕ) (q' : Run) → w.used d ≡ true → q'.running ≡ true
    → q'.descriptor ≡ d → RunIsSound c w.shared d (w.section d) q' → IsSound c (record w { run = upd w.run r q' })
run_alone c w old r d q' used running is run' =
    let s = w.section d in
    let moved : IsSound c
    (record w { shared = w.shared; section = upd w.section d (changed s s.log s.done s.edge); run = upd w.run r q' }) =
    run_moves c w r d w.shared s.log s.done s.edge q' (record {
      used = used;
      running = running;
      descriptor = is;
      versions = old.versions;
      rises = λ p. inl refl;
      words = no_words w.shared;
      section = (old.sections d used).section;
      run = run';
      fellows = λ r' ne is' e. subst (λ n. RunIsSound c w.shared n (w.section n) (w.run r')) e (old.runs r' is');
      others = λ d' ne u. record { loaded = λ un p h. refl; locks = record { held = λ un p lock v. refl; named = λ p lock v. refl } };
      named = λ d' p lock v. inl refl;
      reopens = λ e. e;
      done_most = λ most. most;
      kept_log = λ ne k. refl;
      kept_edge = λ ne. refl;
      come = λ un p h. inl h;
    }) old in
    subst (λ sections. IsSound c (record w { section = sections; run = upd w.run r q' })) (upd_same w.section d) moved

pub open_run : (c : CellRules) (w : AgreementState) → IsSound c w → (r d : ℕ) → Enabled c w (Open r d) → IsSound c (after w (Open r d))
open_run c w old r d ok = run_alone c w old r d (begun d) ok.1 refl refl
    (run_begins c w.shared d (w.section d) (old.sections d ok.1).published)

module _ (c : CellRules) (w : AgreementState) (old : IsSound c w) (r : ℕ) (running : (w.run r).running ≡ true) where
  abbrev q : Run
  q = w.run r

  abbrev d : ℕ
  d = q.descriptor

  abbrev s : Section
  s = w.section d

  used : w.used d ≡ true
  used = old.running_used r running

  own : UsedIsSound c w.shared (w.live d) (w.over d) d s
  own = old.sections d used

  run : RunIsSound c w.shared d s q
  run = old.runs r running

  -- a run that goes no further is at the edge
  at_stop : is_stop c d q.trail (s.code q.at) ≡ true → q.at ≡ s.edge
  at_stop stop = ⊎_elim
      (λ lt.
      let same = stop_same c s.lock s.code s.slot own.published.line d q.at q.trail s.log
      (λ k l. run.in_trail.agreed k (let e = run.in_trail.counted in omega arith)) in
      let is = stop_is c d s.log _ (sym same ∙ stop) (own.section.in_log.within q.at lt) in
      absurd (not_both _ (own.section.in_log.passed q.at lt is.0) is.1))
      (λ le. let b = run.in_trail.behind in omega arith) (cases_lt q.at s.edge)

  stop_log : is_stop c d q.trail (s.code q.at) ≡ true → is_stop c d s.log (s.code s.edge) ≡ true
  stop_log stop =
      let same = stop_same c s.lock s.code s.slot own.published.line d q.at q.trail s.log
      (λ k l. run.in_trail.agreed k (let e = run.in_trail.counted in omega arith)) in
      subst (λ n. is_stop c d s.log (s.code n) ≡ true) (at_stop stop) (sym same ∙ stop)

  abbrev done : ℕ
  done = written_once s.done 1

  section_done : is_stop c d s.log (s.code s.edge) ≡ true → SectionIsSound c w.shared d (changed s s.log done s.edge)
  section_done stop =
      let o = own.section in
      record {
        in_log = record {
          full = o.in_log.full;
          empty = o.in_log.empty;
          passed = o.in_log.passed;
          within = o.in_log.within;
          retired = o.in_log.retired;
          stops = λ ne. stop;
        };
        in_cells = record {
          loaded = λ un. absurd (some_done s.done un);
          stored = λ un. absurd (some_done s.done un);
          left = o.in_cells.left;
          lasting = o.in_cells.lasting;
          read = o.in_cells.read;
        };
        in_locks = record {
          outer_held = λ un. absurd (some_done s.done un);
          outer_past = o.in_locks.outer_past;
          nested_past = o.in_locks.nested_past;
          nested_read = o.in_locks.nested_read;
          outcome_read = o.in_locks.outcome_read;
          outcome_held = λ un. absurd (some_done s.done un);
          outcome_named = o.in_locks.outcome_named;
          held = o.in_locks.held;
        };
        in_request = record { stamped = o.in_request.stamped; raised = o.in_request.raised; replied = o.in_request.replied };
      }

  run_done : (q' : Run) → (ended : Bool) → (ended ≡ true → q'.at ≡ s.edge) → (q'.ended ≡ true → ended ≡ true) → RunIsSound c w.shared d s q'
      → RunIsSound c w.shared d (changed s s.log done s.edge) (record q' { ended = ended })
  run_done q' ended edge more h = record {
    in_trail = record {
      behind = h.in_trail.behind;
      counted = h.in_trail.counted;
      agreed = h.in_trail.agreed;
      ended_done = λ e. some_done s.done;
      ended_edge = edge;
    };
    in_word = record {
      standing = h.in_word.standing;
      read = h.in_word.read;
      nested_read = h.in_word.nested_read;
      outcome_read = h.in_word.outcome_read;
      outcome_held = λ un. absurd (some_done s.done un);
      outcome_named = h.in_word.outcome_named;
      clock_read = h.in_word.clock_read;
      stamp_agreed = h.in_word.stamp_agreed;
    };
    in_releases = record { only_ended = λ p rel. more (h.in_releases.only_ended p rel); unnamed = h.in_releases.unnamed };
  }

  pub done_sound : is_stop c d q.trail (s.code q.at) ≡ true → IsSound c (after w (SetDone r))
  done_sound stop = run_moves c w r d w.shared s.log done s.edge (record q { ended = true }) (record {
    used = used;
    running = running;
    descriptor = refl;
    versions = old.versions;
    rises = λ p. inl refl;
    words = no_words w.shared;
    section = section_done (stop_log stop);
    run = run_done q true (λ e. at_stop stop) (λ e. refl) run;
    fellows = λ r' ne is e. let h = subst (λ n. RunIsSound c w.shared n (w.section n) (w.run r')) e (old.runs r' is) in
        run_done (w.run r') ((w.run r').ended) h.in_trail.ended_edge (λ e'. e') h;
    others = λ d' ne u. record { loaded = λ un p h. refl; locks = record { held = λ un p lock v. refl; named = λ p lock v. refl } };
    named = λ d' p lock v. inl refl;
    reopens = λ e. absurd (some_done s.done e);
    done_most = one_done s.done;
    kept_log = λ ne k. refl;
    kept_edge = λ ne. refl;
    come = λ un p h. inl h;
  }) old
