-- The events that are no step of a run's line.
use Rattle.std.proofs.Common.{◌≡◌, ◌≢◌, ℕ, ◌<◌, ◌≤◌, Bool, true, false, refl, sym, ap, ◌∙◌, subst, arith}
use Rattle.std.specs.Prelude.{◌==◌, ◌&&◌, not}
use Rattle.std.proofs.lemmas.Bool.Decides.{nat_tests}
use mathlib.Core.Path.{fun_ext}
use mathlib.Core.Logic.{dite}
use native.Mathlib.Decide.{ℕ_discrete}
use Rattle.agreement_core.specs.map_history.specs.declared.op.Op.{Op}
use Rattle.agreement_core.specs.body_terms.specs.Update.{upd}
use Rattle.agreement_core.specs.body_terms.specs.Run.{written_once}
use Rattle.agreement_core.specs.body_terms.specs.declared.thunk.Thunk.{Thunk}
use Rattle.agreement_core.specs.body_terms.specs.declared.micro.Micro.{Micro}
use Rattle.agreement_core.specs.body_terms.specs.declared.micro.Micro.TheVariants as micros
use Rattle.agreement_core.specs.table_words.specs.declared.layout.Layout.{Layout}
use Rattle.agreement_core.specs.table_words.specs.Limits.{IsWithinLimits}
use Rattle.agreement_core.specs.section_lines.specs.structure_laws.specs.Meaning.{Meaning}
use Rattle.agreement_core.specs.section_lines.specs.structure_laws.specs.Cells.{slots}
use Rattle.agreement_core.specs.section_lines.specs.structure_laws.specs.Laws.{Laws}
use Rattle.agreement_core.specs.section_lines.specs.structure_laws.proofs.Changes.{upd_same, upd_other}
use Rattle.agreement_core.specs.State.{Section, Run, AgreementState, section_of}
use Rattle.agreement_core.specs.Checks.{is_stamp_exchange}
use Rattle.agreement_core.specs.Events as agreement
use Rattle.agreement_core.specs.Events.{begun}
use Rattle.epoch_core.specs.State.{Counts}
use Rattle.history_core.specs.State.{Requests, HistoryState}
use Rattle.history_core.specs.Events as history
use Rattle.history_core.specs.Sound.{IsSound}
use Rattle.machine_scenes.specs.Shown.{States, publishes}
use Rattle.machine_scenes.specs.Steps as scenes
use Rattle.machine_scenes.specs.Kept.{IsKept}
use Rattle.machine_scenes.proofs.Links.{true_false}
use Rattle.machine_history.specs.Tied.{rank, is_loading, SectionIsTied, RunIsTied, AreTied}
use Rattle.machine_history.specs.Steps.{MayPublish}
use Rattle.machine_history.proofs.Tying.{loads, line_at}
use Rattle.machine_history.proofs.Quiet.{exchange_is, false_of}
use Rattle.machine_history.proofs.Supplying.{load_place, done_false}

not_running : (running ended loading : Bool) → running ≡ false → (running && (not ended && loading)) ≡ false
not_running running ended loading is = grind arith

not_going : (running ended loading : Bool) → ended ≡ true → (running && (not ended && loading)) ≡ false
not_going running ended loading is = grind arith

ended_loads : (q : Run) (code : ℕ → ℕ → Micro) → q.ended ≡ true → loads q code ≡ false
ended_loads q code is = not_going q.running q.ended (is_stamp_exchange (code q.descriptor q.at)) is

done_once : (n : ℕ) → not (written_once n 1 == 0) ≡ true
done_once n = grind (arith, nat_tests)

module _ (m : Meaning) (laws : Laws m) (layout : Layout) (limits : IsWithinLimits layout) (c : Counts) (nodes : c.nodes ≡ slots m layout) (requests : Requests)
    (j : States) (kept : IsKept m layout c j) (w : HistoryState) (sound : IsSound requests w) (tied : AreTied requests j w) where
  abbrev a : AgreementState
  a = j.agreement

  abbrev pub next : agreement.Event → States
  next v = record j { agreement = agreement.after j.agreement v }

  -- a run changes so that it stands before the exchange of its stamp neither before nor after
  run_changes : (r : ℕ) (q : Run) (j' : States) → j'.publications ≡ j.publications → ((e : ℕ) → j'.agreement.used e ≡ a.used e) → ((e : ℕ) → j'.agreement.section e ≡ a.section e)
      → ((i : ℕ) → j'.agreement.run i ≡ upd a.run r q i) → w.clock ≡ j'.agreement.shared.clock → ((n : ℕ) → w.stamp n ≡ j'.agreement.shared.stamp n) → ((n : ℕ) → w.reply n ≡ j'.agreement.shared.reply n)
      → w.loaded r ≡ loads q (λ e. (a.section e).code) → (loads q (λ e. (a.section e).code) ≡ true → RunIsTied w r q) → AreTied requests j' w
  run_changes r q j' publications used section run clock stamp reply loaded own = record {
    clock = clock;
    stamp = stamp;
    reply = reply;
    used = λ e. tied.used e ∙ sym (used e);
    sections = λ e is. subst (λ p. SectionIsTied requests p w e (j'.agreement.section e)) (sym publications)
        (subst (SectionIsTied requests j.publications w e) (sym (section e)) (tied.sections e (sym (used e) ∙ is)));
    loaded = λ i. dite (ℕ_discrete i r)
        (λ same. ap w.loaded same ∙ loaded ∙ sym (changed i same))
        (λ other. tied.loaded i ∙ sym (unchanged i other));
    runs = λ i is. dite (ℕ_discrete i r)
        (λ same. subst (RunIsTied w i) (sym (run i ∙ upd_same a.run r i q same)) (subst (λ i. RunIsTied w i q) (sym same) (own (sym (changed i same) ∙ is))))
        (λ other. subst (RunIsTied w i) (sym (run i ∙ upd_other a.run r i q other)) (tied.runs i (sym (unchanged i other) ∙ is)));
  }
    where
      codes : (q : Run) → loads q (λ e. (j'.agreement.section e).code) ≡ loads q (λ e. (a.section e).code)
      codes q = ap (loads q) (fun_ext (λ e. ap (λ x. x.code) (section e)))

      changed : (i : ℕ) → i ≡ r → is_loading j'.agreement i ≡ loads q (λ e. (a.section e).code)
      changed i same = ap (λ q. loads q (λ e. (j'.agreement.section e).code)) (run i ∙ upd_same a.run r i q same) ∙ codes q

      unchanged : (i : ℕ) → i ≢ r → is_loading j'.agreement i ≡ is_loading a i
      unchanged i other = ap (λ q. loads q (λ e. (j'.agreement.section e).code)) (run i ∙ upd_other a.run r i q other) ∙ codes (a.run i)

  never : (r : ℕ) (q : Run) → loads q (λ e. (a.section e).code) ≡ false → loads q (λ e. (a.section e).code) ≡ true → RunIsTied w r q
  never r q none is = absurd (true_false is none)

  pub open_tied : (r d : ℕ) → (a.run r).running ≡ false → a.used d ≡ true → AreTied requests (next (agreement.Open r d)) w
  open_tied r d idle used =
      let none = start in
      run_changes r (begun d) (next (agreement.Open r d)) refl (λ e. refl) (λ e. refl) (λ i. refl) tied.clock tied.stamp tied.reply
      (tied.loaded r ∙ (not_running ((a.run r).running) ((a.run r).ended) (is_stamp_exchange ((section_of a r).code ((a.run r).at))) idle ∙ sym none)) (never r (begun d) none)
    where
      start : is_stamp_exchange ((a.section d).code 0) ≡ false
      start = false_of (is_stamp_exchange ((a.section d).code 0)) (λ is.
          let load = load_place m laws layout limits c nodes requests j kept w sound tied d used in
          let first = (line_at m layout c requests j kept w tied d used).stamped.stamp_once 0 (exchange_is ((a.section d).code 0) is) in
          let place = load.1 in absurd (omega arith))

  pub finish_tied : (r : ℕ) → (a.run r).ended ≡ true → AreTied requests (next (agreement.Finish r)) w
  finish_tied r ended = run_changes r (record (a.run r) { running = false }) (next (agreement.Finish r)) refl (λ e. refl) (λ e. refl) (λ i. refl) tied.clock tied.stamp tied.reply
      (tied.loaded r ∙ not_going ((a.run r).running) ((a.run r).ended) (is_stamp_exchange ((section_of a r).code ((a.run r).at))) ended)
      (never r (record (a.run r) { running = false }) refl)

  pub release_tied : (r place word : ℕ) → AreTied requests (next (agreement.Release r place word)) w
  release_tied r place word = run_changes r (record (a.run r) { released = upd ((a.run r).released) place true }) (next (agreement.Release r place word)) refl (λ e. refl) (λ e. refl) (λ i. refl)
      tied.clock tied.stamp tied.reply (tied.loaded r) (λ is. let before = tied.runs r is in record { run = before.run; hand = before.hand })

  -- the same sections and runs
  pub same_tied : (j' : States) → j'.publications ≡ j.publications → ((e : ℕ) → j'.agreement.used e ≡ a.used e) → ((e : ℕ) → j'.agreement.section e ≡ a.section e)
      → ((i : ℕ) → j'.agreement.run i ≡ a.run i) → w.clock ≡ j'.agreement.shared.clock → ((n : ℕ) → w.stamp n ≡ j'.agreement.shared.stamp n) → ((n : ℕ) → w.reply n ≡ j'.agreement.shared.reply n)
      → AreTied requests j' w
  same_tied j' publications used section run clock stamp reply = record {
    clock = clock;
    stamp = stamp;
    reply = reply;
    used = λ e. tied.used e ∙ sym (used e);
    sections = λ e is. subst (λ p. SectionIsTied requests p w e (j'.agreement.section e)) (sym publications)
        (subst (SectionIsTied requests j.publications w e) (sym (section e)) (tied.sections e (sym (used e) ∙ is)));
    loaded = λ i. tied.loaded i ∙ sym (unchanged i);
    runs = λ i is. subst (RunIsTied w i) (sym (run i)) (tied.runs i (sym (unchanged i) ∙ is));
  }
    where
      unchanged : (i : ℕ) → is_loading j'.agreement i ≡ is_loading a i
      unchanged i = ap (λ q. loads q (λ e. (j'.agreement.section e).code)) (run i) ∙ ap (loads (a.run i)) (fun_ext (λ e. ap (λ x. x.code) (section e)))

  -- a section changes, but not its line
  codes_kept : (d : ℕ) (x : Section) → x.code ≡ (a.section d).code → (q : Run) → loads q (λ e. (upd a.section d x e).code) ≡ loads q (λ e. (a.section e).code)
  codes_kept d x same q = ap (loads q) (fun_ext (λ e. dite (ℕ_discrete e d)
      (λ is. ap (λ x. x.code) (upd_same a.section d e x is) ∙ (same ∙ ap (λ e. (a.section e).code) (sym is)))
      (λ other. ap (λ x. x.code) (upd_other a.section d e x other))))

  -- one that isn't published
  pub unused_tied : (d : ℕ) (x : Section) → x.code ≡ (a.section d).code → a.used d ≡ false → (j' : States) → j'.publications ≡ j.publications → ((e : ℕ) → j'.agreement.used e ≡ a.used e)
      → ((e : ℕ) → j'.agreement.section e ≡ upd a.section d x e) → ((i : ℕ) → j'.agreement.run i ≡ a.run i) → w.clock ≡ j'.agreement.shared.clock
      → ((n : ℕ) → w.stamp n ≡ j'.agreement.shared.stamp n) → ((n : ℕ) → w.reply n ≡ j'.agreement.shared.reply n) → AreTied requests j' w
  unused_tied d x code none j' publications used section run clock stamp reply = record {
    clock = clock;
    stamp = stamp;
    reply = reply;
    used = λ e. tied.used e ∙ sym (used e);
    sections = λ e is. subst (λ p. SectionIsTied requests p w e (j'.agreement.section e)) (sym publications)
        (subst (SectionIsTied requests j.publications w e) (sym (section e ∙ upd_other a.section d e x (λ same. true_false (sym (used e) ∙ is) (ap a.used same ∙ none))))
        (tied.sections e (sym (used e) ∙ is)));
    loaded = λ i. tied.loaded i ∙ sym (unchanged i);
    runs = λ i is. subst (RunIsTied w i) (sym (run i)) (tied.runs i (sym (unchanged i) ∙ is));
  }
    where
      unchanged : (i : ℕ) → is_loading j'.agreement i ≡ is_loading a i
      unchanged i = ap (λ q. loads q (λ e. (j'.agreement.section e).code)) (run i)
          ∙ (ap (loads (a.run i)) (fun_ext (λ e. ap (λ x. x.code) (section e))) ∙ codes_kept d x code (a.run i))

  -- a descriptor is free again
  pub free_tied : (d : ℕ) → AreTied requests (next (agreement.Free d)) (history.after requests w (history.Free d))
  free_tied d = record {
    clock = tied.clock;
    stamp = tied.stamp;
    reply = tied.reply;
    used = λ e. ap (λ f. upd f d false e) (fun_ext tied.used);
    sections = λ e is. let t = tied.sections e (still e is) in record { done = t.done; request = t.request; op = t.op; answer = t.answer; passed = t.passed; unpassed = t.unpassed };
    loaded = tied.loaded;
    runs = λ i is. let t = tied.runs i is in record { run = t.run; hand = t.hand };
  }
    where
      still : (e : ℕ) → upd a.used d false e ≡ true → a.used e ≡ true
      still e is = grind arith

  -- a section, once it is done
  abbrev ended_section : ℕ → Section
  ended_section r = record (a.section ((a.run r).descriptor)) { done = written_once ((a.section ((a.run r).descriptor)).done) 1 }

  -- a section is done
  pub done_tied : (r : ℕ) → (a.run r).running ≡ true → w.loaded r ≡ false → AreTied requests (next (agreement.SetDone r)) (history.after requests w (history.SetDone ((a.run r).descriptor)))
  done_tied r running idle = record {
    clock = tied.clock;
    stamp = tied.stamp;
    reply = tied.reply;
    used = tied.used;
    sections = λ e is. dite (ℕ_discrete e ((a.run r).descriptor))
        (λ same. subst (SectionIsTied requests j.publications (history.after requests w (history.SetDone ((a.run r).descriptor))) e) (sym (upd_same a.section ((a.run r).descriptor) e (ended_section r) same)) (own e same (tied.sections e is)))
        (λ other. subst (SectionIsTied requests j.publications (history.after requests w (history.SetDone ((a.run r).descriptor))) e) (sym (upd_other a.section ((a.run r).descriptor) e (ended_section r) other)) (others e other (tied.sections e is)));
    loaded = λ i. dite (ℕ_discrete i r)
        (λ same. ap w.loaded same ∙ (idle ∙ sym (ended i same)))
        (λ other. tied.loaded i ∙ sym (unchanged i other));
    runs = λ i is. dite (ℕ_discrete i r)
        (λ same. absurd (true_false is (ended i same)))
        (λ other. let t = tied.runs i (sym (unchanged i other) ∙ is) in
        subst (RunIsTied (history.after requests w (history.SetDone ((a.run r).descriptor))) i) (sym (upd_other a.run r i (record (a.run r) { ended = true }) other)) (record { run = t.run; hand = t.hand }));
  }
    where
      ended : (i : ℕ) → i ≡ r → is_loading (agreement.after a (agreement.SetDone r)) i ≡ false
      ended i same = ap (λ q. loads q (λ e. (upd a.section ((a.run r).descriptor) (ended_section r) e).code))
          (upd_same a.run r i (record (a.run r) { ended = true }) same) ∙ ended_loads (record (a.run r) { ended = true }) (λ e. (upd a.section ((a.run r).descriptor) (ended_section r) e).code) refl

      unchanged : (i : ℕ) → i ≢ r → is_loading (agreement.after a (agreement.SetDone r)) i ≡ is_loading a i
      unchanged i other = ap (λ q. loads q (λ e. (upd a.section ((a.run r).descriptor) (ended_section r) e).code))
          (upd_other a.run r i (record (a.run r) { ended = true }) other)
          ∙ codes_kept ((a.run r).descriptor) (ended_section r) refl (a.run i)

      own : (e : ℕ) → e ≡ (a.run r).descriptor → SectionIsTied requests j.publications w e (a.section e)
          → SectionIsTied requests j.publications (history.after requests w (history.SetDone ((a.run r).descriptor))) e (ended_section r)
      own e same t =
          let t' = subst (λ k. SectionIsTied requests j.publications w e (a.section k)) same t in
          record {
            done = upd_same w.done ((a.run r).descriptor) e true same ∙ sym (done_once ((a.section ((a.run r).descriptor)).done));
            request = t'.request;
            op = t'.op;
            answer = t'.answer;
            passed = t'.passed;
            unpassed = t'.unpassed;
          }

      others : (e : ℕ) → e ≢ (a.run r).descriptor → SectionIsTied requests j.publications w e (a.section e)
          → SectionIsTied requests j.publications (history.after requests w (history.SetDone ((a.run r).descriptor))) e (a.section e)
      others e other t = record { done = upd_other w.done ((a.run r).descriptor) e true other ∙ t.done; request = t.request; op = t.op; answer = t.answer; passed = t.passed; unpassed = t.unpassed }

  -- the section that a publication leaves
  abbrev new_section : ℕ → ℕ → ℕ → ℕ → (ℕ → Micro) → (ℕ → ℕ) → Section
  new_section d lock word request code slot = record (a.section d) { lock = lock; word = word; request = request; code = code; slot = slot; log = λ k. 0; edge = 0 }

  -- a publication
  pub publish_tied : (r d lock word request : ℕ) (code : ℕ → Micro) (slot : ℕ → ℕ) (op : Op) (thunk : Thunk) (answer : ℕ)
      → MayPublish m layout c requests (record { joint = j; history = w }) r d lock word request code slot op thunk answer
      → AreTied requests (scenes.after m layout c j (scenes.Publish r d lock word request code slot op thunk)) (history.after requests w (history.Publish r d request answer))
  publish_tied r d lock word request code slot op thunk answer ok = record {
    clock = tied.clock;
    stamp = tied.stamp;
    reply = tied.reply;
    used = λ e. ap (λ f. upd f d true e) (fun_ext tied.used);
    sections = λ e is. dite (ℕ_discrete e d)
        (λ same. subst (SectionIsTied requests (publishes j.publications d r op thunk (j.walk r)) (history.after requests w (history.Publish r d request answer)) e)
        (sym (upd_same a.section d e (new_section d lock word request code slot) same)) (own e same))
        (λ other. subst (SectionIsTied requests (publishes j.publications d r op thunk (j.walk r)) (history.after requests w (history.Publish r d request answer)) e)
        (sym (upd_other a.section d e (new_section d lock word request code slot) other)) (others e other (tied.sections e (sym (upd_other a.used d e true other) ∙ is))));
    loaded = λ i. tied.loaded i ∙ sym (unchanged i);
    runs = λ i is. let t = tied.runs i (sym (unchanged i) ∙ is) in record { run = t.run; hand = t.hand };
  }
    where
      own : (e : ℕ) → e ≡ d → SectionIsTied requests (publishes j.publications d r op thunk (j.walk r)) (history.after requests w (history.Publish r d request answer)) e (new_section d lock word request code slot)
      own e same = record {
        done = upd_same w.done d e false same ∙ sym (done_false ((a.section d).done) ok.enabled.enabled.3);
        request = upd_same w.request d e request same;
        op = ap requests.op (upd_same w.request d e request same) ∙ (ok.operation ∙ sym (upd_same j.publications.op d e op same));
        answer = λ i n is.
            let line = ok.enabled.enabled.2.line in
            let place = line.stamped.answer_once i n is ∙ sym (line.stamped.answer_once ok.answers.0 answer ok.answers.1) in
            upd_same w.answer d e answer same ∙ one answer n (sym ok.answers.1 ∙ (ap code (sym place) ∙ is));
        passed = λ i some lt. absurd (omega arith);
        unpassed = λ i some le. let none = upd_same w.stage d e 0 same in omega arith;
      }
        where
          one : (n k : ℕ) → micros.ReplyExchange n ≡ micros.ReplyExchange k → n ≡ k
          one n k e = cc

      others : (e : ℕ) → e ≢ d → SectionIsTied requests j.publications w e (a.section e)
          → SectionIsTied requests (publishes j.publications d r op thunk (j.walk r)) (history.after requests w (history.Publish r d request answer)) e (a.section e)
      others e other t = record {
        done = upd_other w.done d e false other ∙ t.done;
        request = upd_other w.request d e request other ∙ t.request;
        op = ap requests.op (upd_other w.request d e request other) ∙ (t.op ∙ sym (upd_other j.publications.op d e op other));
        answer = λ i n is. upd_other w.answer d e answer other ∙ t.answer i n is;
        passed = λ i some lt. subst (λ stage. rank ((a.section e).code i) ≤ stage) (sym (upd_other w.stage d e 0 other)) (t.passed i some lt);
        unpassed = λ i some le. subst (λ stage. stage < rank ((a.section e).code i)) (sym (upd_other w.stage d e 0 other)) (t.unpassed i some le);
      }

      by_running : (i : ℕ) (b : Bool) → (a.run i).running ≡ b → loads (a.run i) (λ e. (upd a.section d (new_section d lock word request code slot) e).code) ≡ loads (a.run i) (λ e. (a.section e).code)
      by_running i true is = ap (λ x. (a.run i).running && (not (a.run i).ended && is_stamp_exchange (x.code ((a.run i).at))))
          (upd_other a.section d ((a.run i).descriptor) (new_section d lock word request code slot) (λ same. true_false (kept.agreement.running_used i is) (ap a.used same ∙ ok.enabled.enabled.0)))
      by_running i false is =
          not_running ((a.run i).running) ((a.run i).ended) (is_stamp_exchange ((upd a.section d (new_section d lock word request code slot) ((a.run i).descriptor)).code ((a.run i).at))) is
          ∙ sym (not_running ((a.run i).running) ((a.run i).ended) (is_stamp_exchange ((a.section ((a.run i).descriptor)).code ((a.run i).at))) is)

      unchanged : (i : ℕ) → loads (a.run i) (λ e. (upd a.section d (new_section d lock word request code slot) e).code) ≡ is_loading a i
      unchanged i = by_running i ((a.run i).running) refl
