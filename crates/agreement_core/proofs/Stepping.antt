-- Each step of a run keeps the invariant, by what is known of the step: one that goes on, one that commits.
use Rattle.std.proofs.Common.{◌≡◌, ◌≢◌, ℕ, suc, ◌/◌, ◌<◌, ◌≤◌, true, false, cond, refl, sym, ap, ◌∙◌, subst, inl, inr, ⊎_elim, arith}
use Rattle.std.proofs.lemmas.Bool.{cases_lt}
use Rattle.std.specs.Prelude.{◌⊎◌, nat_lt}
use mathlib.Core.Path.{fun_ext}
use Rattle.section_lines.specs.structure_laws.specs.body_terms.specs.Update.{upd}
use Rattle.section_lines.specs.structure_laws.specs.body_terms.specs.Run.{written_once}
use Rattle.section_lines.specs.structure_laws.specs.body_terms.specs.Line.{is_event, is_commit}
use Rattle.section_lines.specs.structure_laws.specs.body_terms.specs.Word.{version_of}
use Rattle.section_lines.specs.structure_laws.specs.body_terms.specs.declared.micro.Source.{Source}
use Rattle.section_lines.specs.structure_laws.specs.body_terms.specs.declared.micro.Micro.TheVariants as micros
use Rattle.section_lines.specs.Line.{is_clock_raise}
use Rattle.agreement_core.specs.State.{CellRules, Section, Run, AgreementState}
use Rattle.agreement_core.specs.Checks.{is_stop, is_stamp_exchange, is_reply_exchange}
use Rattle.agreement_core.specs.Events.{HasCome, IsAlone, goes_on, agrees}
use Rattle.agreement_core.specs.Sections.{SectionIsSound}
use Rattle.agreement_core.specs.Runs.{RunIsSound}
use Rattle.agreement_core.specs.Sound.{UsedIsSound, IsSound}
use Rattle.agreement_core.proofs.Frame.{undone, not_both}
use Rattle.agreement_core.proofs.Going.{goes, log_goes, cells_goes, locks_goes, request_goes}
use Rattle.agreement_core.proofs.Committing.{upd_here, upd_else, MayCommit, section_commits}
use Rattle.agreement_core.proofs.Following.{Follows, stepped, agreed, run_stands, run_steps, run_agrees}
use Rattle.agreement_core.proofs.Moving.{run_moves, changed}
use Rattle.agreement_core.proofs.Lines.{event_goes, load_of_commit}

-- where the edge is after a step
pub late_edge : (edge n : ℕ) → n < edge → cond (nat_lt edge (suc n)) (suc n) edge ≡ edge
late_edge edge n lt = grind arith

pub lead_edge : (edge n : ℕ) → n ≡ edge → cond (nat_lt edge (suc n)) (suc n) edge ≡ suc edge
lead_edge edge n e = grind arith

won : (found proposal : ℕ) → found ≡ 0 → written_once found proposal ≡ proposal
won found proposal e = grind arith

lost : (found proposal : ℕ) → 0 < found → written_once found proposal ≡ found
lost found proposal lt = grind arith

upd_found : (f : ℕ → ℕ) (k v : ℕ) → v ≡ f k → (i : ℕ) → upd f k v i ≡ f i
upd_found f k v e i = grind arith

module _ (c : CellRules) (w : AgreementState) (old : IsSound c w) (r : ℕ) (running : (w.run r).running ≡ true)
    (going : (w.run r).ended ≡ false) where
  abbrev q : Run
  q = w.run r

  abbrev d : ℕ
  d = q.descriptor

  abbrev s : Section
  s = w.section d

  used : w.used d ≡ true
  used = old.running_used r running

  own : UsedIsSound c w.shared (w.live d) (w.over d) d s
  own = old.sections d used

  run : RunIsSound c w.shared d s q
  run = old.runs r running

  -- the state in which this run has done this, and its section has this log and this edge
  abbrev reached : (ℕ → ℕ) → ℕ → Run → AgreementState
  reached log edge q' = record w { section = upd w.section d (changed s log s.done edge); run = upd w.run r q' }

  -- no shared word changes
  still : (log : ℕ → ℕ) (edge : ℕ) (q' : Run) → q'.running ≡ true → q'.descriptor ≡ d
      → SectionIsSound c w.shared d (changed s log s.done edge) → RunIsSound c w.shared d (changed s log s.done edge) q'
      → ((r' : ℕ) → (w.run r').running ≡ true → (w.run r').descriptor ≡ d → RunIsSound c w.shared d (changed s log s.done edge) (w.run r'))
      → (s.done ≢ 0 → (k : ℕ) → log k ≡ s.log k) → (s.done ≢ 0 → edge ≡ s.edge)
      → (s.done ≡ 0 → (p : ℕ) → HasCome (changed s log s.done edge) p → HasCome s p ⊎ IsAlone w d p)
      → IsSound c (reached log edge q')
  still log edge q' is_running is_of section run' fellows kept_log kept_edge come = run_moves c w r d w.shared log s.done edge q'
      (record {
        used = used;
        running = is_running;
        descriptor = is_of;
        versions = old.versions;
        rises = λ p. inl refl;
        words = record { seen = λ p v h. h; clock = omega arith; stamp = λ n h. refl; reply = λ n h. refl };
        section = section;
        run = run';
        fellows = λ r' ne. fellows r';
        others = λ d' ne u. record { loaded = λ un p h. refl; locks = record { held = λ un p lock v. refl; named = λ p lock v. refl } };
        named = λ d' p lock v. inl refl;
        reopens = λ e. e;
        done_most = λ most. most;
        kept_log = kept_log;
        kept_edge = kept_edge;
        come = come;
      }) old

  -- a run of this section
  fellow : (r' : ℕ) → (w.run r').running ≡ true → (w.run r').descriptor ≡ d → RunIsSound c w.shared d s (w.run r')
  fellow r' is e = subst (λ n. RunIsSound c w.shared n (w.section n) (w.run r')) e (old.runs r' is)

  -- a step behind the edge changes the run alone
  late : (q' : Run) → q'.running ≡ true → q'.descriptor ≡ d → RunIsSound c w.shared d s q' → IsSound c (reached s.log s.edge q')
  late q' is_running is_of run' = still s.log s.edge q' is_running is_of own.section run' fellow (λ ne k. refl) (λ ne. refl)
      (λ un p h. inl h)

  -- a step at the edge of an open section
  lead : (log : ℕ → ℕ) (q' : Run) → q'.running ≡ true → q'.descriptor ≡ d → s.done ≡ 0 → ((k : ℕ) → k < s.slot s.edge → log k ≡ s.log k)
      → SectionIsSound c w.shared d (changed s log s.done (suc s.edge)) → RunIsSound c w.shared d (changed s log s.done (suc s.edge)) q'
      → ((p k : ℕ) → s.code s.edge ≡ micros.LoadCell p k → IsAlone w d p) → IsSound c (reached log (suc s.edge) q')
  lead log q' is_running is_of un same section run' alone = still log (suc s.edge) q' is_running is_of section run'
      (λ r' is e. run_stands c w.shared d s own.published (w.run r') log un same (fellow r' is e))
      (λ ne. absurd (ne un)) (λ ne. absurd (ne un))
      (λ un' p h. ⊎_elim (λ lt. inl (h.0, h.1, omega arith, h.3))
      (λ le. inr (alone p h.1 (load_of_commit c s.lock s.code s.slot own.published.line s.edge p h.1
      (let e : h.0 ≡ suc s.edge = let b = h.2 in omega arith in subst (λ n. s.code n ≡ micros.Commit p h.1) e h.3))))
      (cases_lt h.0 (suc s.edge)))

  -- what is needed of a step that goes on, where it stands at the edge
  pub record MayGo : Type 0 where
    pub goes : is_stop c d s.log (s.code s.edge) ≡ false
    pub no_exchange : (p k : ℕ) (v : Source) → s.code s.edge ≢ micros.ExchangeCell p k v
    pub hold : (p free : ℕ) → s.code s.edge ≡ micros.NestedHold p free → version_of free < version_of (w.shared.cells p)
    pub stamp : is_stamp_exchange (s.code s.edge) ≡ true → 0 < w.shared.stamp s.request
    pub raise : is_clock_raise (s.code s.edge) ≡ true → w.shared.stamp s.request / 2 ≤ w.shared.clock
    pub reply : is_reply_exchange (s.code s.edge) ≡ true → 0 < w.shared.reply s.request
    pub alone : (p k : ℕ) → s.code s.edge ≡ micros.LoadCell p k → IsAlone w d p

  section_goes : is_commit (s.code s.edge) ≡ false → MayGo → SectionIsSound c w.shared d (goes s)
  section_goes no_commit may = record {
    in_log = log_goes c d s may.goes no_commit (own.published.line.counted.slot_same s.edge no_commit) own.section.in_log;
    in_cells = cells_goes w.shared s no_commit may.no_exchange own.section.in_cells;
    in_locks = locks_goes c w.shared d s no_commit may.hold own.section.in_locks;
    in_request = request_goes w.shared s may.stamp may.raise may.reply own.section.in_request;
  }

  pub goes_sound : (word : ℕ) → is_commit (s.code q.at) ≡ false → (q.at ≡ s.edge → MayGo) → Follows w.shared s.code s.request q.at word
      → IsSound c (goes_on w r word)
  goes_sound word no_commit may follows = ⊎_elim
      (λ lt. subst (λ n. IsSound c (reached s.log n (stepped q word))) (sym (late_edge s.edge q.at lt))
      (late (stepped q word) running refl
      (run_steps c w.shared d s own.published q word going lt no_commit run.in_trail run.in_releases follows)))
      (λ le.
      let at : q.at ≡ s.edge = let b = run.in_trail.behind in omega arith in
      let m = may at in
      let un = undone c d s own.section.in_log m.goes in
      let stands = run_stands c w.shared d s own.published q s.log un (λ k lt. refl) run in
      subst (λ n. IsSound c (reached s.log n (stepped q word))) (sym (lead_edge s.edge q.at at))
      (lead s.log (stepped q word) running refl un (λ k lt. refl) (section_goes (subst (λ n. is_commit (s.code n) ≡ false) at no_commit) m)
      (run_steps c w.shared d (goes s) own.published q word going
      (omega arith) no_commit stands.in_trail stands.in_releases follows) m.alone))
      (cases_lt q.at s.edge)

  -- the log word of a commit below the edge stands, and so it is agreed
  pub found_late : (log proposal : ℕ) → log ≡ s.slot q.at → is_commit (s.code q.at) ≡ true → q.at < s.edge
      → written_once (s.log log) proposal ≡ s.log log
  found_late log proposal here commit lt =
      let more = own.published.line.counted.slot_commit q.at commit in
      let most = own.published.line.counted.slot_rises (suc q.at) s.edge lt in
      lost (s.log log) proposal (own.section.in_log.full log (omega arith))

  agrees_late : (log proposal : ℕ) → log ≡ s.slot q.at → is_commit (s.code q.at) ≡ true → Follows w.shared s.code s.request q.at q.word
      → q.at < s.edge → IsSound c (agrees w r log proposal)
  agrees_late log proposal here commit follows lt =
      let word = written_once (s.log log) proposal in
      let stands : word ≡ s.log log = found_late log proposal here commit lt in
      let same : upd s.log log word ≡ s.log = fun_ext (upd_found s.log log word stands) in
      subst (λ lg. IsSound c (reached lg (cond (nat_lt s.edge (suc q.at)) (suc q.at) s.edge) (agreed q word))) (sym same)
      (subst (λ n. IsSound c (reached s.log n (agreed q word))) (sym (late_edge s.edge q.at lt))
      (late (agreed q word) running refl
      (run_agrees c w.shared d s own.published q word going lt commit
      (ap s.log (sym here) ∙ sym stands) run.in_trail.counted run.in_trail.agreed run.in_releases follows)))

  agrees_lead : (log proposal : ℕ) → log ≡ s.slot q.at → is_commit (s.code q.at) ≡ true → is_event (s.code q.at) ≡ true
      → MayCommit w.shared d s proposal → Follows w.shared s.code s.request q.at q.word → q.at ≡ s.edge
      → IsSound c (agrees w r log proposal)
  agrees_lead log proposal here commit event may follows at =
      let word = written_once (s.log log) proposal in
      let edge_log : log ≡ s.slot s.edge = here ∙ ap s.slot at in
      let agree : word ≡ proposal = won (s.log log) proposal (own.section.in_log.empty log (omega arith)) in
      let un = undone c d s own.section.in_log (event_goes c d s.log _ (ap (λ n. is_event (s.code n)) (sym at) ∙ event)) in
      let same : (k : ℕ) → k < s.slot s.edge → upd s.log log word k ≡ s.log k = λ k lt. upd_else s.log log k word (omega arith) in
      let stands = run_stands c w.shared d s own.published q (upd s.log log word) un same run in
      let more = own.published.line.counted.slot_rises q.at s.edge run.in_trail.behind in
      subst (λ n. IsSound c (reached (upd s.log log word) n (agreed q word))) (sym (lead_edge s.edge q.at at))
      (lead (upd s.log log word) (agreed q word) running refl un same
      (subst (λ k. SectionIsSound c w.shared d (changed s (upd s.log k word) s.done (suc s.edge))) (sym edge_log)
      (subst (λ v. SectionIsSound c w.shared d (changed s (upd s.log (s.slot s.edge) v) s.done (suc s.edge))) (sym agree)
      (section_commits c w.shared d s proposal own.published (ap (λ n. is_commit (s.code n)) (sym at) ∙ commit) may own.section)))
      (run_agrees c w.shared d (changed s (upd s.log log word) s.done (suc s.edge)) own.published q word going (omega arith) commit
      (ap (upd s.log log word) (sym here) ∙ upd_here s.log log word) run.in_trail.counted stands.in_trail.agreed run.in_releases follows)
      (λ p k e. absurd (not_both _ (ap (λ n. is_commit (s.code n)) (sym at) ∙ commit) (ap is_commit e))))

  pub agrees_sound : (log proposal : ℕ) → log ≡ s.slot q.at → is_commit (s.code q.at) ≡ true → is_event (s.code q.at) ≡ true
      → (q.at ≡ s.edge → MayCommit w.shared d s proposal)
      → Follows w.shared s.code s.request q.at q.word → IsSound c (agrees w r log proposal)
  agrees_sound log proposal here commit event may follows = ⊎_elim
      (λ lt. agrees_late log proposal here commit follows lt)
      (λ le. let at : q.at ≡ s.edge = let b = run.in_trail.behind in omega arith in
      agrees_lead log proposal here commit event (may at) follows at)
      (cases_lt q.at s.edge)
