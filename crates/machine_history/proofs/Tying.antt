-- What a step of a run makes of the tie.
use Rattle.std.proofs.Common.{◌≡◌, ◌≢◌, ℕ, suc, ◌<◌, ◌≤◌, Bool, true, false, refl, sym, ap, ◌∙◌, subst, arith}
use Rattle.std.specs.Prelude.{◌&&◌, not, max}
use mathlib.Core.Path.{fun_ext}
use mathlib.Core.Logic.{dite}
use native.Mathlib.Decide.{ℕ_discrete}
use Rattle.agreement_core.specs.body_terms.specs.Update.{upd}
use Rattle.agreement_core.specs.body_terms.specs.declared.micro.Micro.{Micro}
use Rattle.agreement_core.specs.section_lines.specs.Line.{IsLine, IsWholeLine}
use Rattle.agreement_core.specs.table_words.specs.declared.layout.Layout.{Layout}
use Rattle.agreement_core.specs.section_lines.specs.structure_laws.specs.Meaning.{Meaning}
use Rattle.agreement_core.specs.section_lines.specs.structure_laws.proofs.Changes.{upd_same, upd_other}
use Rattle.agreement_core.specs.State.{Section, Run, AgreementState, section_of}
use Rattle.agreement_core.specs.Checks.{is_stamp_exchange, came}
use Rattle.epoch_core.specs.State.{Counts}
use Rattle.history_core.specs.State.{Requests, HistoryState}
use Rattle.machine_scenes.specs.Shown.{States, rules_of}
use Rattle.machine_scenes.specs.Kept.{IsKept}
use Rattle.machine_history.specs.Tied.{rank, is_loading, SectionIsTied, RunIsTied, AreTied}
use Rattle.machine_history.proofs.Ranks.{further_passed, further_unpassed}

-- a run that stands before the exchange of a stamp, by the lines
abbrev pub loads : Run → (ℕ → ℕ → Micro) → Bool
loads q code = q.running && (not q.ended && is_stamp_exchange (code q.descriptor q.at))

-- the history's state has the same sections, but for how far one has come
pub record HasSections (w w' : HistoryState) (d further : ℕ) : Type 0 where
  pub used : (e : ℕ) → w'.used e ≡ w.used e
  pub done : (e : ℕ) → w'.done e ≡ w.done e
  pub request : (e : ℕ) → w'.request e ≡ w.request e
  pub answer : (e : ℕ) → w'.answer e ≡ w.answer e
  pub stage : (e : ℕ) → w'.stage e ≡ upd w.stage d further e

-- the shared words
pub record HasWords (a : AgreementState) (w : HistoryState) : Type 0 where
  pub clock : w.clock ≡ a.shared.clock
  pub stamp : (n : ℕ) → w.stamp n ≡ a.shared.stamp n
  pub reply : (n : ℕ) → w.reply n ≡ a.shared.reply n

-- the other runs
pub record HasOthers (w w' : HistoryState) (r : ℕ) : Type 0 where
  pub loaded : (i : ℕ) → i ≢ r → w'.loaded i ≡ w.loaded i
  pub run : (i : ℕ) → i ≢ r → w'.run i ≡ w.run i
  pub hand : (i : ℕ) → i ≢ r → w'.hand i ≡ w.hand i

-- a run that has come one place further, and whether it stands before the exchange of its stamp
pub record GoesOn (a a' : AgreementState) (r : ℕ) (log : ℕ → ℕ) : Type 0 where
  pub section : (e : ℕ) → a'.section e ≡ upd a.section ((a.run r).descriptor) (came (record (section_of a r) { log = log }) (suc (a.run r).at)) e
  pub used : (e : ℕ) → a'.used e ≡ a.used e
  pub others : (i : ℕ) → i ≢ r → a'.run i ≡ a.run i
  pub running : (a'.run r).running ≡ true
  pub going : (a'.run r).ended ≡ false
  pub descriptor : (a'.run r).descriptor ≡ (a.run r).descriptor
  pub at : (a'.run r).at ≡ suc (a.run r).at

module _ (m : Meaning) (layout : Layout) (c : Counts) (requests : Requests) (j : States) (kept : IsKept m layout c j) (w : HistoryState) (tied : AreTied requests j w) where
  abbrev a : AgreementState
  a = j.agreement

  pub line_at : (d : ℕ) → a.used d ≡ true → IsLine ((rules_of m layout).is_lock) layout.version_max ((a.section d).lock) ((a.section d).code) ((a.section d).slot)
  line_at d used = (kept.agreement.sections d used).published.line

  pub whole_at : (d : ℕ) → a.used d ≡ true → IsWholeLine ((a.section d).code)
  whole_at d used = (kept.agreement.sections d used).published.whole

  module _ (j' : States) (publications : j'.publications ≡ j.publications) (w' : HistoryState) (r : ℕ) (running : (a.run r).running ≡ true) (log : ℕ → ℕ)
      (goes : GoesOn a j'.agreement r log) where
    abbrev d : ℕ
    d = (a.run r).descriptor

    abbrev s : Section
    s = a.section d

    abbrev next : Section
    next = came (record s { log = log }) (suc (a.run r).at)

    code_same : (e : ℕ) → (j'.agreement.section e).code ≡ (a.section e).code
    code_same e = ap (λ x. x.code) (goes.section e) ∙ dite (ℕ_discrete e d)
        (λ same. ap (λ x. x.code) (upd_same a.section d e next same) ∙ ap (λ e. (a.section e).code) (sym same))
        (λ other. ap (λ x. x.code) (upd_other a.section d e next other))

    loading_same : (i : ℕ) → i ≢ r → is_loading j'.agreement i ≡ is_loading a i
    loading_same i other = ap (λ q. loads q (λ e. (j'.agreement.section e).code)) (goes.others i other) ∙ ap (loads (a.run i)) (fun_ext code_same)

    loading_own : is_loading j'.agreement r ≡ is_stamp_exchange (s.code (suc (a.run r).at))
    loading_own = of_run (j'.agreement.run r) (λ e. (j'.agreement.section e).code) goes.running goes.going
        ∙ (ap (λ n. is_stamp_exchange ((j'.agreement.section n).code ((j'.agreement.run r).at))) goes.descriptor
        ∙ (ap (λ n. is_stamp_exchange ((j'.agreement.section d).code n)) goes.at ∙ ap (λ code. is_stamp_exchange (code (suc (a.run r).at))) (code_same d)))
      where
        of_run : (q : Run) (code : ℕ → ℕ → Micro) → q.running ≡ true → q.ended ≡ false → loads q code ≡ is_stamp_exchange (code q.descriptor q.at)
        of_run q code running going = grind arith

    behind : (a.run r).at ≤ s.edge
    behind = (kept.agreement.runs r running).in_trail.behind

    module _ (sections : HasSections w w' ((a.run r).descriptor) (max (w.stage ((a.run r).descriptor)) (rank ((section_of a r).code ((a.run r).at))))) where
      own_section : SectionIsTied requests j.publications w d s → SectionIsTied requests j.publications w' d next
      own_section t = record {
        done = sections.done d ∙ t.done;
        request = sections.request d ∙ t.request;
        op = ap requests.op (sections.request d) ∙ t.op;
        answer = λ i n is. sections.answer d ∙ t.answer i n is;
        passed = λ i some lt. subst (λ stage. rank (s.code i) ≤ stage) (sym stage) (further_passed ((rules_of m layout).is_lock) layout.version_max s.lock s.code s.slot (line_at d used) (whole_at d used) ((a.run r).at) s.edge (w.stage d) behind t.passed i some lt);
        unpassed = λ i some le. subst (λ stage. stage < rank (s.code i)) (sym stage) (further_unpassed ((rules_of m layout).is_lock) layout.version_max s.lock s.code s.slot (line_at d used) (whole_at d used) ((a.run r).at) s.edge (w.stage d) behind t.unpassed i some le);
      }
        where
          used : a.used d ≡ true
          used = kept.agreement.running_used r running

          stage : w'.stage d ≡ max (w.stage d) (rank (s.code ((a.run r).at)))
          stage = sections.stage d ∙ upd_same w.stage d d (max (w.stage d) (rank (s.code ((a.run r).at)))) refl

      other_section : (e : ℕ) → e ≢ d → SectionIsTied requests j.publications w e (a.section e) → SectionIsTied requests j.publications w' e (a.section e)
      other_section e other t = record {
        done = sections.done e ∙ t.done;
        request = sections.request e ∙ t.request;
        op = ap requests.op (sections.request e) ∙ t.op;
        answer = λ i n is. sections.answer e ∙ t.answer i n is;
        passed = λ i some lt. subst (λ stage. rank ((a.section e).code i) ≤ stage) (sym stage) (t.passed i some lt);
        unpassed = λ i some le. subst (λ stage. stage < rank ((a.section e).code i)) (sym stage) (t.unpassed i some le);
      }
        where
          stage : w'.stage e ≡ w.stage e
          stage = sections.stage e ∙ upd_other w.stage d e (max (w.stage d) (rank (s.code ((a.run r).at)))) other

      -- the tie goes on
      pub goes_on_tied : HasWords j'.agreement w' → HasOthers w w' r → w'.loaded r ≡ is_stamp_exchange (s.code (suc (a.run r).at))
          → (is_stamp_exchange (s.code (suc (a.run r).at)) ≡ true → RunIsTied w' r (j'.agreement.run r)) → AreTied requests j' w'
      goes_on_tied words others loaded own = record {
        clock = words.clock;
        stamp = words.stamp;
        reply = words.reply;
        used = λ e. sections.used e ∙ (tied.used e ∙ sym (goes.used e));
        sections = λ e used. subst (λ p. SectionIsTied requests p w' e (j'.agreement.section e)) (sym publications)
            (subst (SectionIsTied requests j.publications w' e) (sym (goes.section e)) (by_section e (sym (goes.used e) ∙ used)));
        loaded = λ i. dite (ℕ_discrete i r)
            (λ same. ap w'.loaded same ∙ loaded ∙ sym (ap (is_loading j'.agreement) same ∙ loading_own))
            (λ other. others.loaded i other ∙ tied.loaded i ∙ sym (loading_same i other));
        runs = λ i is. dite (ℕ_discrete i r)
            (λ same. subst (λ i. RunIsTied w' i (j'.agreement.run i)) (sym same) (own (sym loading_own ∙ (ap (is_loading j'.agreement) (sym same) ∙ is))))
            (λ other.
            let before = tied.runs i (sym (loading_same i other) ∙ is) in
            subst (RunIsTied w' i) (sym (goes.others i other)) (record { run = others.run i other ∙ before.run; hand = others.hand i other ∙ before.hand }));
      }
        where
          by_section : (e : ℕ) → a.used e ≡ true → SectionIsTied requests j.publications w' e (upd a.section d next e)
          by_section e used = dite (ℕ_discrete e d)
              (λ same. subst (SectionIsTied requests j.publications w' e) (sym (upd_same a.section d e next same))
              (subst (λ e. SectionIsTied requests j.publications w' e next) (sym same) (own_section (tied.sections d (ap a.used (sym same) ∙ used)))))
              (λ other. subst (SectionIsTied requests j.publications w' e) (sym (upd_other a.section d e next other)) (other_section e other (tied.sections e used)))
