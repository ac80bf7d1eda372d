-- The steps of a run that have to do with its stamp are the history's events.
use Rattle.std.proofs.Common.{◌≡◌, ◌≢◌, ℕ, suc, ◌+◌, ◌*◌, ◌<◌, ◌≤◌, Bool, true, false, cond, refl, sym, ap, ◌∙◌, subst, ⊎_elim, arith}
use Rattle.std.specs.Prelude.{◌/◌, ◌==◌, ◌&&◌, not, max}
use Rattle.std.proofs.lemmas.Bool.{cases_lt, cases_eq}
use Rattle.std.proofs.lemmas.Bool.Decides.{nat_tests}
use mathlib.Core.Path.{fun_ext}
use mathlib.Core.Logic.{dite}
use native.Mathlib.Decide.{ℕ_discrete}
use Rattle.agreement_core.specs.map_history.specs.Replay.{reply_of, map_after}
use Rattle.agreement_core.specs.map_history.specs.Words.{word_of}
use Rattle.agreement_core.specs.body_terms.specs.Update.{upd}
use Rattle.agreement_core.specs.body_terms.specs.Run.{written_once}
use Rattle.agreement_core.specs.body_terms.specs.Line.{is_event}
use Rattle.agreement_core.specs.body_terms.specs.declared.micro.Micro.{Micro}
use Rattle.agreement_core.specs.body_terms.specs.declared.micro.Micro.TheVariants as micros
use Rattle.agreement_core.specs.section_lines.specs.Line.{is_clock_raise, IsLine}
use Rattle.agreement_core.specs.table_words.specs.declared.layout.Layout.{Layout}
use Rattle.agreement_core.specs.table_words.specs.Limits.{IsWithinLimits}
use Rattle.agreement_core.specs.section_lines.specs.structure_laws.specs.Meaning.{Meaning}
use Rattle.agreement_core.specs.section_lines.specs.structure_laws.specs.Cells.{slots}
use Rattle.agreement_core.specs.section_lines.specs.structure_laws.specs.Laws.{Laws}
use Rattle.agreement_core.specs.section_lines.specs.structure_laws.proofs.Changes.{upd_same, upd_other}
use Rattle.agreement_core.specs.State.{Section, Run, AgreementState}
use Rattle.agreement_core.specs.Checks.{is_stamp_exchange}
use Rattle.agreement_core.specs.Events as agreement
use Rattle.agreement_core.specs.Events.{IsBefore}
use Rattle.epoch_core.specs.State.{Counts}
use Rattle.history_core.specs.State.{Requests, HistoryState}
use Rattle.history_core.specs.Events as history
use Rattle.history_core.specs.Events.{IsAlone, MayLoad, MayStamp, stamp_by, stamped, comes}
use Rattle.history_core.specs.Sound.{IsSound}
use Rattle.machine_scenes.specs.Shown.{States, rules_of}
use Rattle.machine_scenes.specs.Kept.{IsKept}
use Rattle.machine_scenes.proofs.Running.{event_open}
use Rattle.machine_scenes.proofs.Shown.{upd_found}
use Rattle.machine_history.specs.Memory.{MemoryStands}
use Rattle.machine_history.proofs.Steps.{stamps_answer}
use Rattle.machine_scenes.proofs.Links.{true_false}
use Rattle.machine_history.specs.Tied.{rank, is_loading, SectionIsTied, RunIsTied, AreTied}
use Rattle.machine_history.proofs.Ranks.{rank_rises}
use Rattle.machine_history.proofs.Tying.{HasSections, line_at, whole_at, goes_on_tied}
use Rattle.machine_history.proofs.Quiet.{goes_by, not_loaded, next_other}
use Rattle.machine_history.proofs.Supplying.{tie, load_place, used_of, done_false, far_by, low_by, undone_of, alone, load_edge, stamp_edge}

past : (n : ℕ) → 2 ≤ n → max n 2 ≡ n
past n far = omega arith

found : (word new : ℕ) → word ≢ 0 → written_once word new ≡ word
found word new some = grind arith

module _ (m : Meaning) (laws : Laws m) (layout : Layout) (limits : IsWithinLimits layout) (c : Counts) (nodes : c.nodes ≡ slots m layout) (requests : Requests)
    (same_map : requests.is_map ≡ m.is_map) (j : States) (kept : IsKept m layout c j) (w : HistoryState) (sound : IsSound requests w) (tied : AreTied requests j w)
    (r : ℕ) (running : (j.agreement.run r).running ≡ true) (going : (j.agreement.run r).ended ≡ false) where
  abbrev a : AgreementState
  a = j.agreement

  abbrev q : Run
  q = a.run r

  abbrev d : ℕ
  d = q.descriptor

  abbrev s : Section
  s = a.section d

  abbrev pub next : agreement.Event → States
  next v = record j { agreement = agreement.after j.agreement v }

  used : a.used d ≡ true
  used = kept.agreement.running_used r running

  behind : q.at ≤ s.edge
  behind = (kept.agreement.runs r running).in_trail.behind

  -- the same sections, one of which has come so far
  further : (w' : HistoryState) (stage : ℕ) → rank (s.code q.at) ≡ stage → ((e : ℕ) → w'.used e ≡ w.used e) → ((e : ℕ) → w'.done e ≡ w.done e) → ((e : ℕ) → w'.request e ≡ w.request e)
      → ((e : ℕ) → w'.answer e ≡ w.answer e) → ((e : ℕ) → w'.stage e ≡ upd w.stage d (max (w.stage d) stage) e) → HasSections w w' d (max (w.stage d) (rank (s.code q.at)))
  further w' stage is used done request answer comes = record {
    used = used;
    done = done;
    request = request;
    answer = answer;
    stage = λ e. comes e ∙ ap (λ k. upd w.stage d (max (w.stage d) k) e) (sym is);
  }

  -- the load of the clock
  pub may_load : s.code q.at ≡ micros.ClockLoad → MayLoad requests w d
  may_load is = record {
    used = used_of m laws layout limits c nodes requests j kept w sound tied d used;
    going = λ none. (tie m laws layout limits c nodes requests j kept w sound tied d used).done ∙ done_false s.done (open_by none);
    alone = λ map low. alone m laws layout limits c nodes requests j kept w sound tied same_map d used (undone low)
        (load_edge m laws layout limits c nodes requests j kept w sound tied d q.at used is behind low) map;
  }
    where
      open_by : w.stage d ≡ 0 → s.done ≡ 0
      open_by none = event_open m layout j.publications a kept.agreement kept.thunks r running going (ap is_event is)
          (⊎_elim (λ lt. let far = far_by m laws layout limits c nodes requests j kept w sound tied d q.at 1 used micros.ClockLoad is refl (λ e. omega arith) lt in absurd (omega arith))
          (λ le. let b = behind in omega arith) (cases_lt q.at s.edge))

      undone : w.stage d ≤ 1 → s.done ≡ 0
      undone low = ⊎_elim open_by (λ some. undone_of m laws layout limits c nodes requests j kept w sound tied d used some (λ four. omega arith)) (cases_eq (w.stage d) 0)

  pub load_tied : s.code q.at ≡ micros.ClockLoad → AreTied requests (next (agreement.ClockLoad r)) (history.after requests w (history.LoadClock r d))
  load_tied is =
      let w' = history.after requests w (history.LoadClock r d) in
      let ahead = ap is_stamp_exchange ((line_at m layout c requests j kept w tied d used).ordered.clock_next q.at (suc q.at) is refl) in
      goes_on_tied m layout c requests j kept w tied (next (agreement.ClockLoad r)) refl (history.after requests w (history.LoadClock r d)) r running s.log
      (goes_by a (agreement.after a (agreement.ClockLoad r)) r s.log (record q { at = suc q.at; word = a.shared.clock }) (λ e. refl) (λ e. refl) (λ i. refl) running going refl refl)
      (further (history.after requests w (history.LoadClock r d)) 1 (ap rank is) (λ e. refl) (λ e. refl) (λ e. refl) (λ e. refl) (λ e. refl))
      (record { clock = tied.clock; stamp = tied.stamp; reply = tied.reply })
      (record { loaded = λ i other. upd_other w.loaded r i true other; run = λ i other. upd_other w.run r i d other; hand = λ i other. upd_other w.hand r i w.clock other })
      (upd_same w.loaded r r true refl ∙ sym ahead)
      (λ at.
      let own = upd_same a.run r r (record q { at = suc q.at; word = a.shared.clock }) refl in
      record {
        run = upd_same w.run r r d refl ∙ sym (ap (λ q. q.descriptor) own);
        hand = upd_same w.hand r r w.clock refl ∙ (tied.clock ∙ sym (ap (λ q. q.word) own));
      })

  -- a step of a lower rank stands before the run
  below : (i : ℕ) → rank (s.code i) ≢ 0 → rank (s.code i) < rank (s.code q.at) → i < q.at
  below i some lower = ⊎_elim (λ lt. lt)
      (λ le. dite (ℕ_discrete q.at i) (λ same. let at = ap (λ n. rank (s.code n)) same in absurd (omega arith))
      (λ other.
      let rises = rank_rises ((rules_of m layout).is_lock) layout.version_max s.lock s.code s.slot (line_at m layout c requests j kept w tied d used) (whole_at m layout c requests j kept w tied d used)
      q.at i (omega arith) (λ none. omega arith) some in
      absurd (omega arith)))
      (cases_lt i q.at)

  quiet_end : (x : Micro) → s.code q.at ≡ x → rank x ≢ 1 → rank x ≢ 2 → w.loaded r ≡ is_stamp_exchange (s.code (suc q.at))
  quiet_end x is first second = not_loaded m layout c requests j kept w tied r x is second ∙ sym (next_other m layout c requests j kept w tied r running x is first)

  never : (x : Micro) → s.code q.at ≡ x → rank x ≢ 1 → (w' : HistoryState) (q' : Run) → is_stamp_exchange (s.code (suc q.at)) ≡ true → RunIsTied w' r q'
  never x is first w' q' at = absurd (true_false at (next_other m layout c requests j kept w tied r running x is first))

  -- the raise
  pub may_raise : s.code q.at ≡ micros.ClockRaise → (w.used d ≡ true) × (2 ≤ w.stage d)
  may_raise is =
      let stamped = (line_at m layout c requests j kept w tied d used).stamped in
      let there = ap rank stamped.stamps in let here = ap rank is in
      let before = below stamped.stamp (λ none. omega arith) (omega arith) in
      let b = behind in (
        used_of m laws layout limits c nodes requests j kept w sound tied d used,
        far_by m laws layout limits c nodes requests j kept w sound tied d stamped.stamp 2 used micros.StampExchange stamped.stamps refl (λ e. omega arith) (omega arith),
      )

  pub raise_tied : s.code q.at ≡ micros.ClockRaise → AreTied requests (next (agreement.ClockRaise r)) (history.after requests w (history.RaiseClock d))
  raise_tied is =
      let agreed = (kept.agreement.runs r running).in_word.stamp_agreed (ap is_clock_raise is) in
      let stamp = ap w.stamp (tie m laws layout limits c nodes requests j kept w sound tied d used).request ∙ (tied.stamp s.request ∙ sym agreed) in
      goes_on_tied m layout c requests j kept w tied (next (agreement.ClockRaise r)) refl (history.after requests w (history.RaiseClock d)) r running s.log
      (goes_by a (agreement.after a (agreement.ClockRaise r)) r s.log (record q { at = suc q.at; word = q.word }) (λ e. refl) (λ e. refl) (λ i. refl) running going refl refl)
      (further (history.after requests w (history.RaiseClock d)) 3 (ap rank is) (λ e. refl) (λ e. refl) (λ e. refl) (λ e. refl) (λ e. refl))
      (record { clock = ap (λ n. max n (w.stamp (w.request d) / 2)) tied.clock ∙ ap (λ n. max a.shared.clock (n / 2)) stamp; stamp = tied.stamp; reply = tied.reply })
      (record { loaded = λ i other. refl; run = λ i other. refl; hand = λ i other. refl })
      (quiet_end micros.ClockRaise is (λ e. omega arith) (λ e. omega arith))
      (never micros.ClockRaise is (λ e. omega arith) (history.after requests w (history.RaiseClock d)) ((agreement.after a (agreement.ClockRaise r)).run r))

  -- the reply
  pub may_write : (reply : ℕ) → s.code q.at ≡ micros.ReplyExchange reply → (w.used d ≡ true) × (3 ≤ w.stage d)
  may_write reply is =
      let line = line_at m layout c requests j kept w tied d used in
      let raise = line.ordered.stamp_next line.stamped.stamp (suc line.stamped.stamp) line.stamped.stamps refl in
      let there = ap rank raise in let here = ap rank is in
      let before = below (suc line.stamped.stamp) (λ none. omega arith) (omega arith) in
      let b = behind in (
        used_of m laws layout limits c nodes requests j kept w sound tied d used,
        far_by m laws layout limits c nodes requests j kept w sound tied d (suc line.stamped.stamp) 3 used micros.ClockRaise raise refl (λ e. omega arith) (omega arith),
      )

  pub reply_tied : (reply : ℕ) → s.code q.at ≡ micros.ReplyExchange reply → AreTied requests (next (agreement.ReplyExchange r reply)) (history.after requests w (history.WriteReply d))
  reply_tied reply is =
      let own = tie m laws layout limits c nodes requests j kept w sound tied d used in
      goes_on_tied m layout c requests j kept w tied (next (agreement.ReplyExchange r reply)) refl (history.after requests w (history.WriteReply d)) r running s.log
      (goes_by a (agreement.after a (agreement.ReplyExchange r reply)) r s.log (record q { at = suc q.at; word = q.word }) (λ e. refl) (λ e. refl) (λ i. refl) running going refl refl)
      (further (history.after requests w (history.WriteReply d)) 4 (ap rank is) (λ e. refl) (λ e. refl) (λ e. refl) (λ e. refl) (λ e. refl))
      (record {
        clock = tied.clock;
        stamp = tied.stamp;
        reply = λ n. same w.reply a.shared.reply tied.reply (w.request d) s.request own.request (w.answer d) reply (own.answer q.at reply is) n;
      })
      (record { loaded = λ i other. refl; run = λ i other. refl; hand = λ i other. refl })
      (quiet_end (micros.ReplyExchange reply) is (λ e. omega arith) (λ e. omega arith))
      (never (micros.ReplyExchange reply) is (λ e. omega arith) (history.after requests w (history.WriteReply d)) ((agreement.after a (agreement.ReplyExchange r reply)).run r))
    where
      same : (f g : ℕ → ℕ) → ((n : ℕ) → f n ≡ g n) → (k l : ℕ) → k ≡ l → (u v : ℕ) → u ≡ v → (n : ℕ) → upd f k (written_once (f k) u) n ≡ upd g l (written_once (g l) v) n
      same f g each k l e u v e' n = ap (λ f. upd f k (written_once (f k) u) n) (fun_ext each) ∙ (ap (λ k. upd g k (written_once (g k) u) n) e ∙ ap (λ u. upd g l (written_once (g l) u) n) e')

  -- the exchange of the stamp
  loading : s.code q.at ≡ micros.StampExchange → is_loading a r ≡ true
  loading is = by_run q.running q.ended (is_stamp_exchange (s.code q.at)) running going (ap is_stamp_exchange is)
    where
      by_run : (running ended loading : Bool) → running ≡ true → ended ≡ false → loading ≡ true → (running && (not ended && loading)) ≡ true
      by_run running ended loading is going at = grind arith

  pub run_of : s.code q.at ≡ micros.StampExchange → RunIsTied w r q
  run_of is = tied.runs r (loading is)

  -- at the edge it is the first one, behind the edge a later one
  first_stage : s.code q.at ≡ micros.StampExchange → q.at ≡ s.edge → w.stage d ≡ 1
  first_stage is at =
      let line = line_at m layout c requests j kept w tied d used in
      let load = load_place m laws layout limits c nodes requests j kept w sound tied d used in
      let here = line.stamped.stamp_once q.at is in
      let place = load.1 in
      let far = far_by m laws layout limits c nodes requests j kept w sound tied d load.0 1 used micros.ClockLoad load.2 refl (λ e. omega arith) (omega arith) in
      let low = low_by m laws layout limits c nodes requests j kept w sound tied d q.at 2 used micros.StampExchange is refl (λ e. omega arith) (omega arith) in
      omega arith

  late_stage : s.code q.at ≡ micros.StampExchange → q.at < s.edge → 2 ≤ w.stage d
  late_stage is lt = far_by m laws layout limits c nodes requests j kept w sound tied d q.at 2 used micros.StampExchange is refl (λ e. omega arith) lt

  at_edge_of : s.code q.at ≡ micros.StampExchange → w.stage d ≡ 1 → q.at ≡ s.edge
  at_edge_of is one = ⊎_elim (λ lt. let far = late_stage is lt in absurd (omega arith)) (λ le. let b = behind in omega arith) (cases_lt q.at s.edge)

  pub may_stamp : MemoryStands m layout c j w.pairs → s.code q.at ≡ micros.StampExchange → MayStamp requests w r
  may_stamp memory is = record {
    loaded = tied.loaded r ∙ loading is;
    alone = λ map one. subst (IsAlone requests w) (sym run) (alone m laws layout limits c nodes requests j kept w sound tied same_map d used (undone (stage one))
        (stamp_edge m laws layout limits c nodes requests j kept w sound tied d used (let e = stage one in omega arith) (let e = stage one in omega arith)) map);
    answers = λ map one. subst (λ d. w.answer d ≡ word_of (reply_of w.pairs (requests.op (w.request d)))) (sym run)
        (own.answer line.stamped.answer line.stamped.reply line.stamped.answers
        ∙ (stamps_answer m laws layout limits c nodes j r w.pairs kept memory (sym same_map ∙ map) (record { running = running; going = going; next = is })
        (equal q.at s.edge (at_edge_of is (stage one))) line.stamped.answer line.stamped.reply line.stamped.answers
        ∙ ap (λ op. word_of (reply_of w.pairs op)) (sym own.op)));
  }
    where
      run : w.run r ≡ d
      run = (tied.runs r (loading is)).run

      stage : w.stage (w.run r) ≡ 1 → w.stage d ≡ 1
      stage one = ap w.stage (sym run) ∙ one

      own : SectionIsTied requests j.publications w d s
      own = tied.sections d used

      line : IsLine ((rules_of m layout).is_lock) layout.version_max s.lock s.code s.slot
      line = line_at m layout c requests j kept w tied d used

      undone : w.stage d ≡ 1 → s.done ≡ 0
      undone one = undone_of m laws layout limits c nodes requests j kept w sound tied d used (λ none. omega arith) (λ four. omega arith)

      equal : (a b : ℕ) → a ≡ b → (a == b) ≡ true
      equal a b same = grind (arith, nat_tests)

  -- the first one writes the stamp
  lead_tied : (is : s.code q.at ≡ micros.StampExchange) → q.at ≡ s.edge → AreTied requests (next (agreement.StampExchange r)) (stamped requests w r)
  lead_tied is at =
      let run = (run_of is).run in
      let own = tied.sections d used in
      let word = written_once (a.shared.stamp s.request) (2 * (q.word + 1)) in
      let request : w.request (w.run r) ≡ s.request = ap w.request run ∙ own.request in
      let none : a.shared.stamp s.request ≡ 0 = sym (tied.stamp s.request) ∙ (ap w.stamp (sym own.request) ∙ unstamped is at) in
      goes_on_tied m layout c requests j kept w tied (next (agreement.StampExchange r)) refl (stamped requests w r) r running s.log
      (goes_by a (agreement.after a (agreement.StampExchange r)) r s.log (record q { at = suc q.at; word = word }) (λ e. refl) (λ e. refl) (λ i. refl) running going refl refl)
      (further (stamped requests w r) 2 (ap rank is) (λ e. refl) (λ e. refl) (λ e. refl) (λ e. refl) (λ e. ap (λ k. upd w.stage k (max (w.stage k) 2) e) run))
      (record {
        clock = tied.clock;
        stamp = λ n. same w.stamp a.shared.stamp tied.stamp (w.request (w.run r)) s.request request (stamp_by (w.hand r)) word
            (ap stamp_by (run_of is).hand ∙ sym (first (a.shared.stamp s.request) (2 * (q.word + 1)) none)) n;
        reply = tied.reply;
      })
      (record { loaded = λ i other. upd_other w.loaded r i false other; run = λ i other. refl; hand = λ i other. refl })
      (upd_same w.loaded r r false refl ∙ sym (next_other m layout c requests j kept w tied r running micros.StampExchange is (λ e. omega arith)))
      (never micros.StampExchange is (λ e. omega arith) (stamped requests w r) ((agreement.after a (agreement.StampExchange r)).run r))
    where
      first : (found new : ℕ) → found ≡ 0 → written_once found new ≡ new
      first found new none = grind arith

      same : (f g : ℕ → ℕ) → ((n : ℕ) → f n ≡ g n) → (k l : ℕ) → k ≡ l → (u v : ℕ) → u ≡ v → (n : ℕ) → upd f k u n ≡ upd g l v n
      same f g each k l e u v e' n = ap (λ f. upd f k u n) (fun_ext each) ∙ (ap (λ k. upd g k u n) e ∙ ap (λ u. upd g l u n) e')

      unstamped : s.code q.at ≡ micros.StampExchange → q.at ≡ s.edge → w.stamp (w.request d) ≡ 0
      unstamped is at =
          let one = first_stage is at in
          let undone = undone_of m laws layout limits c nodes requests j kept w sound tied d used (λ none. omega arith) (λ four. omega arith) in
          sound.stamps.fresh d (used_of m laws layout limits c nodes requests j kept w sound tied d used) ((tied.sections d used).done ∙ done_false s.done undone) (omega arith)

  -- a later one finds it written
  late_tied : (is : s.code q.at ≡ micros.StampExchange) → q.at < s.edge → AreTied requests (next (agreement.StampExchange r)) (record w { loaded = upd w.loaded r false })
  late_tied is lt =
      let own = tied.sections d used in
      let far = late_stage is lt in
      let word = written_once (a.shared.stamp s.request) (2 * (q.word + 1)) in
      let some = (sound.stamps.stamped d (used_of m laws layout limits c nodes requests j kept w sound tied d used) far).0 in
      goes_on_tied m layout c requests j kept w tied (next (agreement.StampExchange r)) refl (record w { loaded = upd w.loaded r false }) r running s.log
      (goes_by a (agreement.after a (agreement.StampExchange r)) r s.log (record q { at = suc q.at; word = word }) (λ e. refl) (λ e. refl) (λ i. refl) running going refl refl)
      (further (record w { loaded = upd w.loaded r false }) 2 (ap rank is) (λ e. refl) (λ e. refl) (λ e. refl) (λ e. refl)
      (λ e. ap (λ f. f e) (sym (upd_found w.stage d (max (w.stage d) 2) (past (w.stage d) far)))))
      (record {
        clock = tied.clock;
        stamp = λ n. tied.stamp n ∙ ap (λ f. f n) (sym (upd_found a.shared.stamp s.request word
            (found (a.shared.stamp s.request) (2 * (q.word + 1)) (λ none. some (ap w.stamp own.request ∙ (tied.stamp s.request ∙ none))))));
        reply = tied.reply;
      })
      (record { loaded = λ i other. upd_other w.loaded r i false other; run = λ i other. refl; hand = λ i other. refl })
      (upd_same w.loaded r r false refl ∙ sym (next_other m layout c requests j kept w tied r running micros.StampExchange is (λ e. omega arith)))
      (never micros.StampExchange is (λ e. omega arith) (record w { loaded = upd w.loaded r false }) ((agreement.after a (agreement.StampExchange r)).run r))

  -- by the stamp word: 0 exactly for the first one
  stamp_test : s.code q.at ≡ micros.StampExchange → (w.stamp (w.request (w.run r)) == 0) ≡ (q.at == s.edge)
  stamp_test is = ⊎_elim
      (λ lt.
      let far = late_stage is lt in
      let some = (sound.stamps.stamped d (used_of m laws layout limits c nodes requests j kept w sound tied d used) far).0 in
      differ (w.stamp (w.request (w.run r))) 0 (λ none. some (ap (λ d. w.stamp (w.request d)) (sym (run_of is).run) ∙ none)) ∙ sym (differ q.at s.edge (λ same. omega arith)))
      (λ le.
      let b = behind in
      let at : q.at ≡ s.edge = omega arith in
      let one = first_stage is at in
      let undone = undone_of m laws layout limits c nodes requests j kept w sound tied d used (λ none. omega arith) (λ four. omega arith) in
      let none = sound.stamps.fresh d (used_of m laws layout limits c nodes requests j kept w sound tied d used) ((tied.sections d used).done ∙ done_false s.done undone) (omega arith) in
      equal (w.stamp (w.request (w.run r))) 0 (ap (λ d. w.stamp (w.request d)) (run_of is).run ∙ none) ∙ sym (equal q.at s.edge at))
      (cases_lt q.at s.edge)
    where
      equal : (a b : ℕ) → a ≡ b → (a == b) ≡ true
      equal a b same = grind (arith, nat_tests)

      differ : (a b : ℕ) → a ≢ b → (a == b) ≡ false
      differ a b other = grind (arith, nat_tests)

  pub stamp_tied : s.code q.at ≡ micros.StampExchange → AreTied requests (next (agreement.StampExchange r)) (history.after requests w (history.StampExchange r))
  stamp_tied is = subst (λ b. AreTied requests (next (agreement.StampExchange r)) (cond b (stamped requests w r) (record w { loaded = upd w.loaded r false }))) (sym (stamp_test is))
      (⊎_elim (λ lt. subst (λ b. AreTied requests (next (agreement.StampExchange r)) (cond b (stamped requests w r) (record w { loaded = upd w.loaded r false }))) (sym (differ q.at s.edge lt)) (late_tied is lt))
      (λ le.
      let b = behind in
      let at : q.at ≡ s.edge = omega arith in
      subst (λ b. AreTied requests (next (agreement.StampExchange r)) (cond b (stamped requests w r) (record w { loaded = upd w.loaded r false }))) (sym (equal q.at s.edge at)) (lead_tied is at))
      (cases_lt q.at s.edge))
    where
      equal : (a b : ℕ) → a ≡ b → (a == b) ≡ true
      equal a b same = grind (arith, nat_tests)

      differ : (a b : ℕ) → a < b → (a == b) ≡ false
      differ a b lt = grind (arith, nat_tests)

  -- the map after it is that of the completed memory
  pub stamp_pairs : s.code q.at ≡ micros.StampExchange → cond (q.at == s.edge) (map_after w.pairs (j.publications.op d)) w.pairs ≡ (history.after requests w (history.StampExchange r)).pairs
  stamp_pairs is = ap (λ b. cond b (map_after w.pairs (j.publications.op d)) w.pairs) (sym (stamp_test is))
      ∙ by_bool (w.stamp (w.request (w.run r)) == 0)
    where
      op : j.publications.op d ≡ requests.op (w.request (w.run r))
      op = sym (tied.sections d used).op ∙ ap (λ d. requests.op (w.request d)) (sym (tied.runs r (loading is)).run)

      by_bool : (b : Bool) → cond b (map_after w.pairs (j.publications.op d)) w.pairs ≡ (cond b (stamped requests w r) (record w { loaded = upd w.loaded r false })).pairs
      by_bool true = ap (map_after w.pairs) op
      by_bool false = refl
