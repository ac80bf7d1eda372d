-- A run releases a lock of its section.
use Rattle.std.proofs.Common.{◌≡◌, ◌≢◌, ℕ, suc, ◌<◌, ◌≤◌, true, refl, sym, ap, ◌∙◌, subst, ⊎_elim, arith}
use Rattle.std.proofs.lemmas.Bool.{cases_eq}
use Rattle.std.specs.Prelude.{◌^◌}
use mathlib.Core.Path.{fun_ext}
use Rattle.section_lines.specs.structure_laws.specs.body_terms.specs.Update.{upd}
use Rattle.section_lines.specs.structure_laws.specs.body_terms.specs.Word.{value_of, version_of, held_word, next_word}
use Rattle.agreement_core.specs.State.{CellRules, Section, Run, AgreementState}
use Rattle.agreement_core.specs.Checks.{exchanged}
use Rattle.agreement_core.specs.Events.{Enabled, after, HasTaken, IsPublishable, with_cell}
use Rattle.agreement_core.specs.Events.{Release}
use Rattle.agreement_core.specs.Sections.{HoldsWith}
use Rattle.agreement_core.specs.Runs.{RunIsSound}
use Rattle.agreement_core.specs.Sound.{UsedIsSound, IsSound}
use Rattle.agreement_core.proofs.Committing.{upd_here, upd_else}
use Rattle.agreement_core.proofs.Storing.{puts, puts_words, puts_rises}
use Rattle.agreement_core.proofs.Holding.{puts_lock, same_hold}
use Rattle.agreement_core.proofs.Moving.{SharedMoves, shared_moves}
use Rattle.agreement_core.proofs.Changing.{puts_versions, exchange_wins, exchange_fails, upd_found}
use Rattle.agreement_core.proofs.EndEvents.{run_alone}
use Rattle.agreement_core.proofs.Lines.{hold_once, hold_inner, hold_lock, hold_free, hold_unspent, hold_of_held}
use Rattle.agreement_core.proofs.Words.{value_held, version_held, version_next, value_next, unspent_room}

zero_small : 0 < 2 ^ 32
zero_small = omega arith

module _ (c : CellRules) (d : ℕ) (s : Section) (p : IsPublishable c d s.lock s.word s.code s.slot) (at place word : ℕ) where
  -- a lock that a run has taken is a lock
  pub taken_lock : HasTaken s at place word → c.is_lock place ≡ true
  taken_lock taken = ⊎_elim (λ o. ap c.is_lock o.0 ∙ p.line.placed.outer_lock)
      (λ n. let j = hold_of_held c s.lock s.code s.slot p.line n.0 place n.1 word n.3 in
      hold_lock c s.lock s.code s.slot p.line j.0 place word j.1) taken

  -- two versions are left above the word that it was free with
  pub taken_room : HasTaken s at place word → suc (suc (version_of word)) ≤ c.version_max
  taken_room taken = ⊎_elim
      (λ o. subst (λ n. suc (suc (version_of n)) ≤ c.version_max) (sym o.1) (unspent_room c.version_max s.word p.free p.unspent))
      (λ n. let j = hold_of_held c s.lock s.code s.slot p.line n.0 place n.1 word n.3 in
      unspent_room c.version_max word (hold_free c s.lock s.code s.slot p.line j.0 place word j.1)
      (hold_unspent c s.lock s.code s.slot p.line j.0 place word j.1)) taken

  -- a taken lock that the section holds has the held word of its free word
  pub taken_exactly : (now : ℕ) → HasTaken s at place word → HoldsWith d s place now → now ≡ held_word d word
  taken_exactly now taken holds = ⊎_elim
      (λ o. ⊎_elim (λ h. h.1 ∙ ap (held_word d) (sym o.1))
      (λ h. absurd (hold_inner c s.lock s.code s.slot p.line h.0 place h.1 h.3 o.0)) holds)
      (λ n.
      let j = hold_of_held c s.lock s.code s.slot p.line n.0 place n.1 word n.3 in
      ⊎_elim (λ h. absurd (hold_inner c s.lock s.code s.slot p.line j.0 place word j.1 h.0))
      (λ h. let same = hold_once c s.lock s.code s.slot p.line h.0 j.0 place h.1 word h.3 j.1 in
      h.4 ∙ ap (held_word d) (same_hold place h.1 place word (sym h.3 ∙ ap s.code same ∙ j.1)).1) holds)
      taken

module _ (c : CellRules) (w : AgreementState) (old : IsSound c w) (r place word : ℕ) (ok : Enabled c w (Release r place word)) where
  abbrev q : Run
  q = w.run r

  abbrev d : ℕ
  d = q.descriptor

  abbrev s : Section
  s = w.section d

  abbrev held : ℕ
  held = held_word d word

  abbrev new : ℕ
  new = next_word held 0

  used : w.used d ≡ true
  used = old.running_used r ok.0

  own : UsedIsSound c w.shared (w.live d) (w.over d) d s
  own = old.sections d used

  run : RunIsSound c w.shared d s q
  run = old.runs r ok.0

  done : s.done ≢ 0
  done = run.in_trail.ended_done ok.1

  lock : c.is_lock place ≡ true
  lock = taken_lock c d s own.published q.at place word ok.2

  new_value : value_of new ≡ 0
  new_value = value_next held 0 zero_small

  new_version : version_of new ≡ suc (version_of held)
  new_version = version_next held 0 zero_small

  room : version_of new ≤ c.version_max
  room = let a = taken_room c d s own.published q.at place word ok.2 in let b = version_held d word own.published.link in
      let e = new_version in omega arith

  unnamed : (d' : ℕ) → value_of new ≢ suc d'
  unnamed d' v = let z : 0 ≡ suc d' = sym new_value ∙ v in omega arith

  -- the lock is changed where it has the held word
  won : w.shared.cells place ≡ held → SharedMoves c w (puts w.shared place new)
  won finds =
      let x = w.shared in
      let more : version_of (x.cells place) < version_of new = let a : version_of (x.cells place) ≡ version_of held = ap version_of finds in
      let e = new_version in omega arith in
      record {
        versions = puts_versions c x place new more room old.versions;
        rises = puts_rises x place new more;
        words = puts_words x place new;
        loaded = λ d' u. puts_lock c d' (w.section d') x place new (old.sections d' u).published lock;
        held = λ d' u un p is v. upd_else x.cells place p new (λ e.
            let same : suc d' ≡ suc d = sym v ∙ ap (λ n. value_of (x.cells n)) e ∙ ap value_of finds
            ∙ value_held d word own.published.link in
            let same' : d' ≡ d = omega arith in
            done (subst (λ n. (w.section n).done ≡ 0) same' un));
        named = λ d' p is v. ⊎_elim
            (λ e. absurd (unnamed d' (ap value_of (sym (ap (upd x.cells place new) e ∙ upd_here x.cells place new)) ∙ v)))
            (λ ne. upd_else x.cells place p new ne) (cases_eq p place);
      }

  abbrev released : AgreementState
  released = with_cell w place (exchanged (w.shared.cells place) held new)

  released_sound : IsSound c released
  released_sound = ⊎_elim
      (λ finds. subst (λ n. IsSound c (with_cell w place n)) (sym (exchange_wins _ _ _ finds))
      (shared_moves c w (puts w.shared place new) (won finds) old))
      (λ ne. subst (λ cells. IsSound c (record w { shared = record (w.shared) { cells = cells } }))
      (sym (fun_ext (upd_found w.shared.cells place _ (exchange_fails _ held new ne)))) old)
      (cases_eq (w.shared.cells place) held)

  -- the lock doesn't name the section after that
  released_unnamed : value_of (released.shared.cells place) ≢ suc d
  released_unnamed v =
      let here : released.shared.cells place ≡ exchanged (w.shared.cells place) held new = upd_here w.shared.cells place _ in
      ⊎_elim
      (λ finds. unnamed d (ap value_of (sym (here ∙ exchange_wins _ _ _ finds)) ∙ v))
      (λ ne. ne (taken_exactly c d s own.published q.at place word _ ok.2
      (own.section.in_locks.held place lock (ap value_of (sym (here ∙ exchange_fails _ held new ne)) ∙ v))))
      (cases_eq (w.shared.cells place) held)

  pub release_sound : IsSound c (after w (Release r place word))
  release_sound =
      let now = released_sound.runs r ok.0 in
      run_alone c released released_sound r d (record q { released = upd q.released place true }) used ok.0 refl (record {
        in_trail = record {
          behind = now.in_trail.behind;
          counted = now.in_trail.counted;
          agreed = now.in_trail.agreed;
          ended_done = now.in_trail.ended_done;
          ended_edge = now.in_trail.ended_edge;
        };
        in_word = record {
          standing = now.in_word.standing;
          read = now.in_word.read;
          nested_read = now.in_word.nested_read;
          outcome_read = now.in_word.outcome_read;
          outcome_held = now.in_word.outcome_held;
          outcome_named = now.in_word.outcome_named;
          clock_read = now.in_word.clock_read;
          stamp_agreed = now.in_word.stamp_agreed;
        };
        in_releases = record {
          only_ended = λ p rel. ok.1;
          unnamed = λ p rel is v. ⊎_elim
              (λ e. released_unnamed (ap (λ n. value_of (released.shared.cells n)) (sym e) ∙ v))
              (λ ne. now.in_releases.unnamed p (sym (upd_else q.released place p true ne) ∙ rel) is v) (cases_eq p place);
        };
      })
