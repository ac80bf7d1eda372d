-- Each exchange of a cell by a run keeps the invariant.
use Rattle.std.proofs.Common.{◌≡◌, ◌≢◌, ℕ, suc, ◌<◌, ◌≤◌, true, false, cond, refl, sym, ap, ◌∙◌, subst, inl, inr, ⊎_elim, arith}
use Rattle.std.proofs.lemmas.Bool.{cases_lt, cases_eq}
use Rattle.std.specs.Prelude.{◌⊎◌, nat_lt, ◌==◌, not}
use mathlib.Core.Path.{fun_ext}
use Rattle.section_lines.specs.structure_laws.specs.body_terms.specs.Update.{upd}
use Rattle.section_lines.specs.structure_laws.specs.body_terms.specs.Line.{is_commit, is_check}
use Rattle.section_lines.specs.structure_laws.specs.body_terms.specs.Word.{value_of, version_of, held_word}
use Rattle.section_lines.specs.structure_laws.specs.body_terms.specs.declared.micro.Source.{Source}
use Rattle.section_lines.specs.structure_laws.specs.body_terms.specs.declared.micro.Micro.TheVariants as micros
use Rattle.section_lines.specs.Line.{phase}
use Rattle.agreement_core.specs.State.{CellRules, Shared, Section, Run, AgreementState}
use Rattle.agreement_core.specs.Checks.{passes, stored_word, exchanged}
use Rattle.agreement_core.specs.Events.{HasCome, IsPublishable, goes_on, with_cell}
use Rattle.agreement_core.specs.Runs.{RunIsSound}
use Rattle.agreement_core.specs.Sound.{VersionsAreSound, UsedIsSound, IsSound}
use Rattle.agreement_core.proofs.Frame.{not_both, word_frame, releases_frame}
use Rattle.agreement_core.proofs.Going.{goes}
use Rattle.agreement_core.proofs.Committing.{upd_here, upd_else}
use Rattle.agreement_core.proofs.Storing.{puts, puts_words, puts_rises, puts_no_lock, store_undone, store_finds, store_version, store_rises, store_unlocked, store_come, section_store}
use Rattle.agreement_core.proofs.Holding.{puts_lock, hold_undone, hold_rises, other_outcome, section_hold}
use Rattle.agreement_core.proofs.Following.{follows_any, gives_number, stepped, run_stands, run_steps}
use Rattle.agreement_core.proofs.Moving.{RunMoves, run_moves, changed}
use Rattle.agreement_core.proofs.Stepping.{lead_edge}
use Rattle.agreement_core.proofs.Words.{value_held, version_held, free_value, unspent_room}
use Rattle.agreement_core.proofs.Lines.{outcome_lock, load_of_commit, store_logged, stored_same, hold_lock, hold_free, hold_unspent}

later : (a b c' : ℕ) → a < b → b < c' → a < c'
later a b c' lt lt' = omega arith

-- a cell that changes to a later version within the greatest one
pub puts_versions : (c : CellRules) (x : Shared) (place word : ℕ) → version_of (x.cells place) < version_of word
    → version_of word ≤ c.version_max → VersionsAreSound c x → VersionsAreSound c (puts x place word)
puts_versions c x place word more most old = record {
  positive = λ p. ⊎_elim (λ e. subst (λ n. 0 < version_of n) (sym (here p e)) (let b = old.positive place in omega arith))
      (λ ne. subst (λ n. 0 < version_of n) (sym (upd_else x.cells place p word ne)) (old.positive p)) (cases_eq p place);
  bounded = λ p. ⊎_elim (λ e. subst (λ n. version_of n ≤ c.version_max) (sym (here p e)) most)
      (λ ne. subst (λ n. version_of n ≤ c.version_max) (sym (upd_else x.cells place p word ne)) (old.bounded p)) (cases_eq p place);
  past = λ p v seen. ⊎_elim
      (λ e. inr (subst (λ n. version_of v < version_of n) (sym (here p e))
      (below v (subst (λ n. (x.cells n ≡ v) ⊎ (version_of v < version_of (x.cells n))) e (old.past p v seen)))))
      (λ ne. subst (λ n. (n ≡ v) ⊎ (version_of v < version_of n)) (sym (upd_else x.cells place p word ne)) (old.past p v seen))
      (cases_eq p place);
  read_positive = old.read_positive;
}
  where
    here : (p : ℕ) → p ≡ place → upd x.cells place word p ≡ word
    here p e = ap (upd x.cells place word) e ∙ upd_here x.cells place word

    below : (v : ℕ) → (x.cells place ≡ v) ⊎ (version_of v < version_of (x.cells place)) → version_of v < version_of word
    below v h = ⊎_elim (λ e. subst (λ n. version_of n < version_of word) e more) (λ lt. later _ _ _ lt more) h

pub exchange_wins : (found old new : ℕ) → found ≡ old → exchanged found old new ≡ new
exchange_wins found old new e = grind arith

pub exchange_fails : (found old new : ℕ) → found ≢ old → exchanged found old new ≡ found
exchange_fails found old new ne = grind arith

pub upd_found : (f : ℕ → ℕ) (k v : ℕ) → v ≡ f k → (i : ℕ) → upd f k v i ≡ f i
upd_found f k v e i = grind arith

fresh_passes : (c : CellRules) (log : ℕ → ℕ) (k : ℕ) → not (version_of (log k) == c.version_max) ≡ true → version_of (log k) ≤ c.version_max
    → suc (version_of (log k)) ≤ c.version_max
fresh_passes c log k pass most = grind arith

-- a step that loads no cell comes to no new one
come_goes : (c : CellRules) (s : Section) {d : ℕ} → IsPublishable c d s.lock s.word s.code s.slot
    → ((p k : ℕ) → s.code s.edge ≢ micros.LoadCell p k) → (p : ℕ) → HasCome (goes s) p → HasCome s p
come_goes c s published no_load p h = ⊎_elim (λ lt. (h.0, h.1, omega arith, h.3))
    (λ le. absurd (no_load p h.1 (load_of_commit c s.lock s.code s.slot published.line s.edge p h.1
    (let e : h.0 ≡ suc s.edge = let b = h.2 in omega arith in subst (λ n. s.code n ≡ micros.Commit p h.1) e h.3))))
    (cases_lt h.0 (suc s.edge))

module _ (c : CellRules) (w : AgreementState) (old : IsSound c w) (r : ℕ) (running : (w.run r).running ≡ true)
    (going : (w.run r).ended ≡ false) where
  abbrev q : Run
  q = w.run r

  abbrev d : ℕ
  d = q.descriptor

  abbrev s : Section
  s = w.section d

  abbrev x : Shared
  x = w.shared

  used : w.used d ≡ true
  used = old.running_used r running

  own : UsedIsSound c w.shared (w.live d) (w.over d) d s
  own = old.sections d used

  run : RunIsSound c w.shared d s q
  run = old.runs r running

  fellow : (r' : ℕ) → (w.run r').running ≡ true → (w.run r').descriptor ≡ d → RunIsSound c w.shared d s (w.run r')
  fellow r' is e = subst (λ n. RunIsSound c w.shared n (w.section n) (w.run r')) e (old.runs r' is)

  -- the state in which this cell has this word and the run has gone on at the edge
  abbrev put : ℕ → ℕ → AgreementState
  put place word = record w { shared = puts x place word; section = upd w.section d (goes s); run = upd w.run r (stepped q q.word) }

  -- an exchange that fails changes no cell
  pub fails_sound : (place found new : ℕ) → x.cells place ≢ found → IsSound c (goes_on w r q.word)
      → IsSound c (with_cell (goes_on w r q.word) place (exchanged (x.cells place) found new))
  fails_sound place found new ne sound =
      let same : upd x.cells place (exchanged (x.cells place) found new) ≡ x.cells = fun_ext
      (upd_found x.cells place _ (exchange_fails (x.cells place) found new ne)) in
      subst (λ cells. IsSound c (record (goes_on w r q.word) { shared = record x { cells = cells } })) (sym same) sound

  -- a store at the edge moves its cell
  module _ (at : q.at ≡ s.edge) (place k : ℕ) (v : Source) (next : s.code s.edge ≡ micros.ExchangeCell place k v) where
    abbrev stored : ℕ
    stored = stored_word s.log k v

    store_open : s.done ≡ 0
    store_open = store_undone c x d s place k v own.published next own.section

    finds : x.cells place ≡ s.log k
    finds = store_finds c x d s place k v own.published next own.section

    unlocked : c.is_lock place ≡ false
    unlocked = store_unlocked c x d s place k v own.published next own.section

    room : version_of stored ≤ c.version_max
    room =
        let j = own.published.line.resolved.store_fresh s.edge place k v next in
        let pass : passes c d s.log (micros.CheckFresh place k) ≡ true = ap (passes c d s.log) (sym j.2)
        ∙ own.section.in_log.passed j.0 j.1 (ap is_check j.2) in
        let most : version_of (s.log k) ≤ c.version_max = subst (λ n. version_of n ≤ c.version_max) finds (old.versions.bounded place) in
        let a = fresh_passes c s.log k pass most in
        let b = store_version c x d s place k v own.published next own.section in
        omega arith

    store_fellow : (q' : Run) → RunIsSound c x d s q' → RunIsSound c (puts x place stored) d (goes s) q'
    store_fellow q' h =
        let rises = puts_rises x place stored (store_rises c x d s place k v own.published next own.section) in
        let locks = puts_no_lock c d s x place stored unlocked in
        let x' = puts x place stored in
        let same : (p : ℕ) → c.is_lock p ≡ true → x'.cells p ≡ x.cells p = λ p lock. upd_else x.cells place p stored
        (λ e. not_both _ lock (ap c.is_lock e ∙ unlocked)) in
        run_stands c x' d s own.published q' s.log store_open (λ n lt. refl) (record {
          in_trail = h.in_trail;
          in_word = word_frame c d s own.published x x' rises (puts_words x place stored) q' own.section.in_request h.in_trail.behind
              (λ un' p n e is. same p (outcome_lock c s.lock s.code s.slot own.published.line q'.at p n e))
              (λ p n e is. same p (outcome_lock c s.lock s.code s.slot own.published.line q'.at p n e))
              (λ p n at' e. absurd (let a : 1 ≡ 4 = ap phase (sym e ∙ ap s.code at' ∙ next) in omega arith)) h.in_word;
          in_releases = releases_frame c d s own.published x x' rises (puts_words x place stored) q' locks h.in_releases;
        })

    store_moves : RunMoves c w r d (puts x place stored) s.log s.done (suc s.edge) (stepped q q.word)
    store_moves =
        let rises = store_rises c x d s place k v own.published next own.section in
        let stands = store_fellow q run in
        let no_commit : is_commit (s.code q.at) ≡ false = ap (λ n. is_commit (s.code n)) at ∙ ap is_commit next in
        record {
          used = used;
          running = running;
          descriptor = refl;
          versions = puts_versions c x place stored rises room old.versions;
          rises = puts_rises x place stored rises;
          words = puts_words x place stored;
          section = section_store c x d s place k v own.published next own.section;
          run = run_steps c (puts x place stored) d (goes s) own.published q q.word going
              (omega arith) no_commit stands.in_trail stands.in_releases
              (follows_any _ _ _ _ _ (ap (λ n. gives_number (s.code n)) at ∙ ap gives_number next));
          fellows = λ r' ne is e. store_fellow (w.run r') (fellow r' is e);
          others = λ d' ne u. record {
            loaded = λ un' p come. upd_else x.cells place p stored
                (λ e. old.apart d d' p (λ e'. ne (sym e')) (record { used = used; undone = store_open }) (record { used = u; undone = un' })
                (subst (HasCome s) (sym e) (store_come c x d s place k v own.published next own.section)) come);
            locks = puts_no_lock c d' (w.section d') x place stored unlocked;
          };
          named = λ d' p lock is. inl (upd_else x.cells place p stored (λ e. not_both _ lock (ap c.is_lock e ∙ unlocked)));
          reopens = λ e. e;
          done_most = λ most. most;
          kept_log = λ ne. absurd (ne store_open);
          kept_edge = λ ne. absurd (ne store_open);
          come = λ un' p h. inl (come_goes c s own.published (λ p' n e. let a : 1 ≡ 4 = ap phase (sym e ∙ next) in omega arith) p h);
        }

    -- the words of the trail are those of the log
    trail_same : (n : ℕ) → n < s.slot s.edge → q.trail n ≡ s.log n
    trail_same n lt = run.in_trail.agreed n (let e = run.in_trail.counted in let f : s.slot q.at ≡ s.slot s.edge = ap s.slot at in
        omega arith)

    pub store_sound : IsSound c (with_cell (goes_on w r q.word) place (exchanged (x.cells place) (q.trail k) (stored_word q.trail k v)))
    store_sound =
        let logged = store_logged c s.lock s.code s.slot own.published.line s.edge place k v next in
        let old_word : x.cells place ≡ q.trail k = finds ∙ sym (trail_same k logged) in
        let new_word : stored_word q.trail k v ≡ stored = stored_same c s.lock s.code s.slot own.published.line s.edge place k v q.trail s.log next trail_same in
        let moved : exchanged (x.cells place) (q.trail k) (stored_word q.trail k v) ≡ stored = exchange_wins _ _ _ old_word ∙ new_word in
        subst (λ n. IsSound c
        (record w {
          shared = puts x place n;
          section = upd w.section d
              (changed s s.log s.done (cond (nat_lt s.edge (suc q.at)) (suc q.at) s.edge));
          run = upd w.run r (stepped q q.word);
        }))
        (sym moved)
        (subst (λ n. IsSound c
        (record w {
          shared = puts x place stored;
          section = upd w.section d (changed s s.log s.done n);
          run = upd w.run r (stepped q q.word);
        })) (sym (lead_edge s.edge q.at at))
        (run_moves c w r d (puts x place stored) s.log s.done (suc s.edge) (stepped q q.word) store_moves old))

  -- a nested lock that is taken at the edge
  module _ (at : q.at ≡ s.edge) (place free : ℕ) (next : s.code s.edge ≡ micros.NestedHold place free) (finds : x.cells place ≡ free) where
    abbrev held : ℕ
    held = held_word d free

    hold_open : s.done ≡ 0
    hold_open = hold_undone c x d s place free own.published next own.section finds

    lock : c.is_lock place ≡ true
    lock = hold_lock c s.lock s.code s.slot own.published.line s.edge place free next

    rises : version_of (x.cells place) < version_of held
    rises = hold_rises c x d s place free own.published next own.section finds

    hold_room : version_of held ≤ c.version_max
    hold_room =
        let a = unspent_room c.version_max free (hold_free c s.lock s.code s.slot own.published.line s.edge place free next)
        (hold_unspent c s.lock s.code s.slot own.published.line s.edge place free next) in
        let b = version_held d free own.published.link in
        omega arith

    names : value_of held ≡ suc d
    names = value_held d free own.published.link

    was_free : value_of (x.cells place) ≡ 0
    was_free = ap value_of finds ∙ free_value free (hold_free c s.lock s.code s.slot own.published.line s.edge place free next)

    hold_fellow : (q' : Run) → RunIsSound c x d s q' → RunIsSound c (puts x place held) d (goes s) q'
    hold_fellow q' h =
        let x' = puts x place held in
        let else : (p n : ℕ) → s.code q'.at ≡ micros.OutcomeCommit p n → x'.cells p ≡ x.cells p =
        λ p n e. upd_else x.cells place p held
        (other_outcome c x d s place free own.published next own.section finds q'.at p n h.in_trail.behind e) in
        run_stands c x' d s own.published q' s.log hold_open (λ n lt. refl) (record {
          in_trail = h.in_trail;
          in_word = word_frame c d s own.published x x' (puts_rises x place held rises)
              (puts_words x place held) q' own.section.in_request h.in_trail.behind
              (λ un' p n e is. else p n e) (λ p n e is. else p n e)
              (λ p n at' e. absurd (not_both _ (ap is_commit (ap s.code (sym at') ∙ e)) (ap is_commit next))) h.in_word;
          in_releases = record {
            only_ended = h.in_releases.only_ended;
            unnamed = λ p rel is v. h.in_trail.ended_done (h.in_releases.only_ended p rel) hold_open;
          };
        })

    -- no lock of another section changes
    other_lock : (d' p : ℕ) → d' ≢ d → value_of (x.cells p) ≡ suc d' → p ≢ place
    other_lock d' p ne v e = let z : suc d' ≡ 0 = sym v ∙ ap (λ n. value_of (x.cells n)) e ∙ was_free in omega arith

    new_lock : (d' p : ℕ) → value_of (upd x.cells place held p) ≡ suc d' → (upd x.cells place held p ≡ x.cells p) ⊎ (d' ≡ d)
    new_lock d' p v = ⊎_elim
        (λ e. inr (let z : suc d' ≡ suc d = sym v ∙ ap value_of (ap (upd x.cells place held) e ∙ upd_here x.cells place held) ∙ names in
        omega arith))
        (λ ne. inl (upd_else x.cells place p held ne)) (cases_eq p place)

    hold_moves : RunMoves c w r d (puts x place held) s.log s.done (suc s.edge) (stepped q q.word)
    hold_moves =
        let stands = hold_fellow q run in
        let no_commit : is_commit (s.code q.at) ≡ false = ap (λ n. is_commit (s.code n)) at ∙ ap is_commit next in
        record {
          used = used;
          running = running;
          descriptor = refl;
          versions = puts_versions c x place held rises hold_room old.versions;
          rises = puts_rises x place held rises;
          words = puts_words x place held;
          section = section_hold c x d s place free own.published next own.section finds;
          run = run_steps c (puts x place held) d (goes s) own.published q q.word going
              (omega arith) no_commit stands.in_trail stands.in_releases
              (follows_any _ _ _ _ _ (ap (λ n. gives_number (s.code n)) at ∙ ap gives_number next));
          fellows = λ r' ne is e. hold_fellow (w.run r') (fellow r' is e);
          others = λ d' ne u. record {
            loaded = puts_lock c d' (w.section d') x place held (old.sections d' u).published lock;
            locks = record {
              held = λ un' p is v. upd_else x.cells place p held (other_lock d' p ne v);
              named = λ p is v. ⊎_elim (λ e. e) (λ e. absurd (ne e)) (new_lock d' p v);
            };
          };
          named = λ d' p is v. ⊎_elim (λ e. inl e) (λ e. inr (e, hold_open)) (new_lock d' p v);
          reopens = λ e. e;
          done_most = λ most. most;
          kept_log = λ ne. absurd (ne hold_open);
          kept_edge = λ ne. absurd (ne hold_open);
          come = λ un' p h. inl (come_goes c s own.published (λ p' n e. not_both _ (ap gives_number (sym next ∙ e)) refl) p h);
        }

    pub hold_sound : IsSound c (with_cell (goes_on w r q.word) place (exchanged (x.cells place) free held))
    hold_sound =
        subst (λ n. IsSound c
        (record w {
          shared = puts x place n;
          section = upd w.section d
              (changed s s.log s.done (cond (nat_lt s.edge (suc q.at)) (suc q.at) s.edge));
          run = upd w.run r (stepped q q.word);
        }))
        (sym (exchange_wins _ _ _ finds))
        (subst (λ n. IsSound c
        (record w {
          shared = puts x place held;
          section = upd w.section d (changed s s.log s.done n);
          run = upd w.run r (stepped q q.word);
        })) (sym (lead_edge s.edge q.at at))
        (run_moves c w r d (puts x place held) s.log s.done (suc s.edge) (stepped q q.word) hold_moves old))
