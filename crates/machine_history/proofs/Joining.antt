-- Each step keeps the joint states and the history joined.
use Rattle.std.proofs.Common.{◌≡◌, ◌≢◌, ℕ, suc, ◌<◌, ◌≤◌, Bool, true, false, List, [], ◌∷◌, refl, sym, ap, ◌∙◌, subst, arith}
use Rattle.std.specs.Prelude.{◌&&◌, ◌==◌, ◌+◌, ◌*◌, cond, not, Some}
use Rattle.std.proofs.lemmas.Bool.Decides.{nat_tests}
use Rattle.agreement_core.specs.map_history.specs.declared.op.Op.{Op}
use Rattle.agreement_core.specs.map_history.specs.Keys.{HaveNoCommonKey}
use Rattle.agreement_core.specs.map_history.specs.Replay.{reply_of, map_after}
use Rattle.agreement_core.specs.map_history.specs.Words.{word_of}
use Rattle.agreement_core.specs.body_terms.specs.Update.{upd}
use Rattle.agreement_core.specs.body_terms.specs.Run.{written_once}
use Rattle.agreement_core.specs.body_terms.specs.Line.{is_check}
use Rattle.agreement_core.specs.body_terms.specs.declared.thunk.Thunk.{Thunk}
use Rattle.agreement_core.specs.body_terms.specs.declared.micro.Micro.{Micro}
use Rattle.agreement_core.specs.body_terms.specs.declared.micro.Micro.TheVariants as micros
use Rattle.agreement_core.specs.table_words.specs.declared.layout.Layout.{Layout}
use Rattle.agreement_core.specs.table_words.specs.Limits.{IsWithinLimits}
use Rattle.agreement_core.specs.section_lines.specs.structure_laws.specs.Meaning.{Meaning}
use Rattle.agreement_core.specs.section_lines.specs.structure_laws.specs.Cells.{slots}
use Rattle.agreement_core.specs.section_lines.specs.structure_laws.specs.Laws.{Laws}
use Rattle.agreement_core.specs.State.{CellRules, Section, Shared, AgreementState, section_of, IsOpen}
use Rattle.agreement_core.specs.Checks.{is_stamp_exchange, is_stop}
use Rattle.agreement_core.specs.Events as agreement
use Rattle.agreement_core.specs.Events.{Event, IsBefore, step_of}
use Rattle.agreement_core.specs.Events.{Publish, RetireDescriptor, Free, StoreLog, StoreDone, Read, Open, Pass, SetDone, Release, Finish, LoadCell, Commit, NestedLoad, NestedCommit, NestedHold, OutcomeLoad, OutcomeCommit, PrivateLoad, PrivateStore, MakeCommit, ClockLoad, StampExchange, ClockRaise, ExchangeCell, EpochForRetire, RetireCommit, ReplyExchange, ReadReply, ReadStamp}
use Rattle.agreement_core.proofs.LineSteps.{pass_checks}
use Rattle.epoch_core.specs.State.{Counts}
use Rattle.history_core.specs.State.{Requests, HistoryState}
use Rattle.history_core.specs.Events as history
use Rattle.history_core.specs.Events.{read_stamp_by}
use Rattle.history_core.specs.Schedules.{AllEnabled, after_all}
use Rattle.history_core.specs.Legal.{AreAllDone}
use Rattle.history_core.proofs.Consequences.{legal, clock_stands, knowledge_stands, reads_stand}
use Rattle.history_core.proofs.Consequences.{closed as all_closed}
use Rattle.history_core.proofs.Keeping.{event_keeps, schedule_keeps, first_sound}
use Rattle.history_core.proofs.WithoutReads.{rises}
use Rattle.machine_scenes.specs.Shown.{States, rules_of}
use Rattle.machine_scenes.specs.Steps as scenes
use Rattle.machine_scenes.proofs.Kept.{step_kept}
use Rattle.machine_scenes.proofs.First.{first_kept}
use Rattle.machine_scenes.proofs.Events.{stops_of}
use Rattle.machine_history.specs.Memory.{pairs_after, MemoryStands}
use Rattle.machine_history.proofs.Steps.{step_memory, first_stands, closed_stands}
use Rattle.machine_history.specs.Tied.{rank, AreTied}
use Rattle.machine_history.specs.Steps.{HistoryStates, Step, Joint, Over, Learn, events_of, is_apart, MayFree, MayPublish, MayLook, MayReply, MayStamp, Enabled, after}
use Rattle.machine_history.specs.Steps as steps
use Rattle.machine_history.specs.Laws.{AreAllClosed, IsJoined, FirstIsJoined, StepsKeepJoined, SchedulesKeepJoined, JoinedStands}
use Rattle.machine_history.specs.Laws as laws_of
use Rattle.machine_history.proofs.Tying.{GoesOn}
use Rattle.machine_scenes.proofs.Links.{true_false}
use Rattle.machine_history.proofs.Quiet.{goes_by, quiet, not_loaded}
use Rattle.machine_history.proofs.Ranked.{may_load, load_tied, may_stamp, stamp_tied, stamp_pairs, may_raise, raise_tied, may_write, reply_tied}
use Rattle.machine_history.proofs.Supplying.{done_true, stop_stage, stamp_edge, undone_of}
use Rattle.machine_history.proofs.Looks.{looks_answer_map, looks_leave, looks_apart}
use Rattle.machine_history.proofs.Others.{open_tied, finish_tied, release_tied, same_tied, unused_tied, free_tied, done_tied, publish_tied}

check_rank : (x : Micro) → is_check x ≡ true → rank x ≡ 0
check_rank x check = grind arith

stop_rank : (c : CellRules) (d : ℕ) (log : ℕ → ℕ) (x : Micro) → is_stop c d log x ≡ true → rank x ≡ 0
stop_rank c d log x stop = grind arith

module _ (m : Meaning) (laws : Laws m) (layout : Layout) (limits : IsWithinLimits layout) (c : Counts) (nodes : c.nodes ≡ slots m layout) (requests : Requests)
    (same_map : requests.is_map ≡ m.is_map) (h : HistoryStates) (joined : IsJoined m layout c requests h) where
  abbrev j : States
  j = h.joint

  abbrev w : HistoryState
  w = h.history

  abbrev a : AgreementState
  a = j.agreement

  abbrev next : Event → States
  next v = record j { agreement = agreement.after j.agreement v }

  -- the history's events of a step may come, and lead to a state that is tied to the states after it
  record Follows (step : scenes.Step) : Type 0 where
    events : AllEnabled requests w (events_of j step)
    tied : AreTied requests (scenes.after m layout c j step) (after_all requests w (events_of j step))
    pairs : pairs_after j step w.pairs ≡ (after_all requests w (events_of j step)).pairs

  quiet_step : (r : ℕ) (x : Micro) → IsBefore a r x → rank x ≡ 0 → (j' : States) → j'.publications ≡ j.publications → (log : ℕ → ℕ) → GoesOn a j'.agreement r log
      → w.clock ≡ j'.agreement.shared.clock → ((n : ℕ) → w.stamp n ≡ j'.agreement.shared.stamp n) → ((n : ℕ) → w.reply n ≡ j'.agreement.shared.reply n) → AreTied requests j' w
  quiet_step r x before none j' publications log goes clock stamp reply = quiet m layout c requests j joined.kept w joined.tied r before.running x before.next none j' publications log goes
      (record { clock = clock; stamp = stamp; reply = reply })

  section : ℕ → Section
  section r = a.section ((a.run r).descriptor)

  -- a step that goes by a word
  by_word : (r word : ℕ) (x : Micro) → IsBefore a r x → rank x ≡ 0 → (j' : States) → j'.publications ≡ j.publications
      → ((e : ℕ) → j'.agreement.section e ≡ (agreement.goes_on a r word).section e) → ((e : ℕ) → j'.agreement.used e ≡ a.used e)
      → ((i : ℕ) → j'.agreement.run i ≡ (agreement.goes_on a r word).run i)
      → w.clock ≡ j'.agreement.shared.clock → ((n : ℕ) → w.stamp n ≡ j'.agreement.shared.stamp n) → ((n : ℕ) → w.reply n ≡ j'.agreement.shared.reply n) → AreTied requests j' w
  by_word r word x before none j' publications section used run = quiet_step r x before none j' publications ((section_of a r).log)
      (goes_by a j'.agreement r ((section_of a r).log) (record (a.run r) { at = suc (a.run r).at; word = word }) section used run before.running before.going refl refl)

  -- a step that commits a word
  by_commit : (r log proposal : ℕ) (x : Micro) → IsBefore a r x → rank x ≡ 0 → (j' : States) → j'.publications ≡ j.publications
      → ((e : ℕ) → j'.agreement.section e ≡ (agreement.agrees a r log proposal).section e) → ((e : ℕ) → j'.agreement.used e ≡ a.used e)
      → ((i : ℕ) → j'.agreement.run i ≡ (agreement.agrees a r log proposal).run i)
      → w.clock ≡ j'.agreement.shared.clock → ((n : ℕ) → w.stamp n ≡ j'.agreement.shared.stamp n) → ((n : ℕ) → w.reply n ≡ j'.agreement.shared.reply n) → AreTied requests j' w
  by_commit r log proposal x before none j' publications section used run = quiet_step r x before none j' publications (upd ((section_of a r).log) log (written_once ((section_of a r).log log) proposal))
      (goes_by a j'.agreement r (upd ((section_of a r).log) log (written_once ((section_of a r).log log) proposal))
      (record (a.run r) { at = suc (a.run r).at; count = suc (a.run r).count; trail = upd ((a.run r).trail) ((a.run r).count) (written_once ((section_of a r).log log) proposal) })
      section used run before.running before.going refl refl)

  -- agreement stays as it is
  unchanged : (j' : States) → j'.publications ≡ j.publications → j'.agreement ≡ a → AreTied requests j' w
  unchanged j' publications agreement = same_tied m laws layout limits c nodes requests j joined.kept w joined.sound joined.tied j' publications (λ e. ap (λ a. a.used e) agreement) (λ e. ap (λ a. a.section e) agreement) (λ i. ap (λ a. a.run i) agreement)
      (joined.tied.clock ∙ sym (ap (λ a. a.shared.clock) agreement)) (λ n. joined.tied.stamp n ∙ sym (ap (λ a. a.shared.stamp n) agreement)) (λ n. joined.tied.reply n ∙ sym (ap (λ a. a.shared.reply n) agreement))

  -- the history changes where nothing is tied
  words_elsewhere : (w' : HistoryState) → w'.clock ≡ w.clock → w'.stamp ≡ w.stamp → w'.reply ≡ w.reply → w'.used ≡ w.used → w'.done ≡ w.done → w'.request ≡ w.request → w'.answer ≡ w.answer
      → w'.stage ≡ w.stage → w'.loaded ≡ w.loaded → w'.run ≡ w.run → w'.hand ≡ w.hand → AreTied requests j w'
  words_elsewhere w' clock stamp reply used done request answer stage loaded run hand = record {
    clock = clock ∙ joined.tied.clock;
    stamp = λ n. ap (λ f. f n) stamp ∙ joined.tied.stamp n;
    reply = λ n. ap (λ f. f n) reply ∙ joined.tied.reply n;
    used = λ e. ap (λ f. f e) used ∙ joined.tied.used e;
    sections = λ e is. let t = joined.tied.sections e is in record {
      done = ap (λ f. f e) done ∙ t.done;
      request = ap (λ f. f e) request ∙ t.request;
      op = ap (λ f. requests.op (f e)) request ∙ t.op;
      answer = λ i n at. ap (λ f. f e) answer ∙ t.answer i n at;
      passed = λ i some lt. subst (λ f. rank ((a.section e).code i) ≤ f e) (sym stage) (t.passed i some lt);
      unpassed = λ i some le. subst (λ f. f e < rank ((a.section e).code i)) (sym stage) (t.unpassed i some le);
    };
    loaded = λ i. ap (λ f. f i) loaded ∙ joined.tied.loaded i;
    runs = λ i is. let t = joined.tied.runs i is in record { run = ap (λ f. f i) run ∙ t.run; hand = ap (λ f. f i) hand ∙ t.hand };
  }

  may_publish : (r d lock word request : ℕ) (code : ℕ → Micro) (slot : ℕ → ℕ) (op : Op) (thunk : Thunk) (answer : ℕ)
      → MayPublish m layout c requests h r d lock word request code slot op thunk answer → history.MayPublish requests w r d request answer
  may_publish r d lock word request code slot op thunk answer ok =
      let line = ok.enabled.enabled.2.line in
      let place = line.stamped.answer_once ok.answers.0 answer ok.answers.1 in
      record {
        unused = joined.tied.used d ∙ ok.enabled.enabled.0;
        idle = ok.idle;
        own = ok.own;
        unknown = ok.unknown;
        earlier = ok.earlier;
        positive = some answer (λ none. line.stamped.replies (one line.stamped.reply answer (sym line.stamped.answers ∙ (ap code (sym place) ∙ ok.answers.1)) ∙ none));
        settled = ok.settled;
      }
    where
      one : (n k : ℕ) → micros.ReplyExchange n ≡ micros.ReplyExchange k → n ≡ k
      one n k e = cc

      some : (n : ℕ) → n ≢ 0 → 0 < n
      some n other = omega arith

  -- the words change, and nothing else that is tied
  read_tied : (shared : Shared) (w' : HistoryState) → w'.clock ≡ shared.clock → ((n : ℕ) → w'.stamp n ≡ shared.stamp n)
      → ((n : ℕ) → w'.reply n ≡ shared.reply n) → w'.used ≡ w.used → w'.done ≡ w.done → w'.request ≡ w.request → w'.answer ≡ w.answer
      → w'.stage ≡ w.stage → w'.loaded ≡ w.loaded → w'.run ≡ w.run → w'.hand ≡ w.hand
      → AreTied requests (record j { agreement = record a { shared = shared } }) w'
  read_tied shared w' clock stamp reply used done request answer stage loaded run hand = record {
    clock = clock;
    stamp = stamp;
    reply = reply;
    used = λ e. ap (λ f. f e) used ∙ joined.tied.used e;
    sections = λ e is. let t = joined.tied.sections e is in record {
      done = ap (λ f. f e) done ∙ t.done;
      request = ap (λ f. f e) request ∙ t.request;
      op = ap (λ f. requests.op (f e)) request ∙ t.op;
      answer = λ i n at. ap (λ f. f e) answer ∙ t.answer i n at;
      passed = λ i some lt. subst (λ f. rank ((a.section e).code i) ≤ f e) (sym stage) (t.passed i some lt);
      unpassed = λ i some le. subst (λ f. f e < rank ((a.section e).code i)) (sym stage) (t.unpassed i some le);
    };
    loaded = λ i. ap (λ f. f i) loaded ∙ joined.tied.loaded i;
    runs = λ i is. let t = joined.tied.runs i is in record { run = ap (λ f. f i) run ∙ t.run; hand = ap (λ f. f i) hand ∙ t.hand };
  }

  -- a look: no section between its clock and its raise has a key in common, its answer is the map's, and the map stays
  may_look : (r : ℕ) (op : Op) (thunk : Thunk) (answer : ℕ) → MayLook m layout c requests h r op thunk answer
      → history.MayLook requests w r thunk.request answer
  may_look r op thunk answer ok = record {
    own = ok.own;
    unknown = ok.unknown;
    earlier = ok.earlier;
    positive = ok.positive;
    settled = ok.settled;
    alone = λ map d used low high.
        let there = sym (joined.tied.used d) ∙ used in
        let open_section : IsOpen a d = record {
          used = there;
          undone = undone_of m laws layout limits c nodes requests j joined.kept w joined.sound joined.tied d there
              (λ none. absurd (omega (arith, low, none))) (λ four. absurd (omega (arith, high, four)));
        } in
        let apart = looks_apart m laws layout limits c nodes j r d op thunk joined.kept (sym same_map ∙ map) ok.looked open_section
        (stamp_edge m laws layout limits c nodes requests j joined.kept w joined.sound joined.tied d there low high) in
        subst (λ x. HaveNoCommonKey x (requests.op (w.request d))) (sym ok.operation)
        (subst (HaveNoCommonKey op) (sym (joined.tied.sections d there).op) apart);
    answers = λ map. looks_answer_map m laws layout limits c nodes j r w.pairs op thunk joined.kept joined.memory (sym same_map ∙ map) ok.looked
        ok.answers.0 answer ok.answers.1 ∙ ap (λ x. word_of (reply_of w.pairs x)) (sym ok.operation);
    still = λ map. ap (map_after w.pairs) ok.operation
        ∙ looks_leave m laws layout limits c nodes j r w.pairs op thunk joined.kept joined.memory (sym same_map ∙ map) ok.looked;
  }

  -- what a worker has seen answers something
  some_reply : (r request reply : ℕ) → MayReply m layout c requests h r request reply → reply ≢ 0
  some_reply r request reply ok none =
      let positive = (joined.sound.reads.looks r ok.seen ok.looked).positive in
      let same = ok.answer ∙ none in absurd (omega (arith, positive, same))

  may_reply : (r request reply : ℕ) → MayReply m layout c requests h r request reply → history.MayReply requests w r
  may_reply r request reply ok = record {
    seen = ok.seen;
    looked = ok.looked;
    unreplied = ok.unreplied;
    idle = ok.idle;
    unknown = ap (w.known r) ok.number ∙ ok.unknown;
  }

  -- the history's state behind a read's reply
  abbrev replied_state : (r request reply : ℕ) → MayReply m layout c requests h r request reply → HistoryState
  replied_state r request reply ok = record w {
    reply = upd w.reply request (written_once (w.reply request) reply);
    look = upd w.look r (Some (record (ok.seen) { replied = true }));
  }

  replied_is : (r request reply : ℕ) (ok : MayReply m layout c requests h r request reply)
      → history.after requests w (history.ReadReply r) ≡ replied_state r request reply ok
  replied_is r request reply ok = ap (history.replied_by requests w r) ok.looked
      ∙ (ap (λ n. record w { reply = upd w.reply n (written_once (w.reply n) ok.seen.answer); look = upd w.look r (Some (record (ok.seen) { replied = true })) }) ok.number
      ∙ ap (λ n. record w { reply = upd w.reply request (written_once (w.reply request) n); look = upd w.look r (Some (record (ok.seen) { replied = true })) }) ok.answer)

  some_stamp : (r request stamp : ℕ) → MayStamp m layout c requests h r request stamp → stamp ≢ 0
  some_stamp r request stamp ok none = let odd : 2 * ok.seen.clock + 1 ≡ 0 = ok.stamps ∙ none in absurd (omega (arith, odd))

  -- the request has no stamp before its worker gives it one
  unstamped : (r request stamp : ℕ) (ok : MayStamp m layout c requests h r request stamp) → w.stamp ok.seen.number ≡ 0
  unstamped r request stamp ok = ((joined.sound.reads.looks r ok.seen ok.looked).between ok.replied).unstamped

  read_is : (r request stamp : ℕ) (ok : MayStamp m layout c requests h r request stamp)
      → history.after requests w (history.ReadStamp r) ≡ history.read requests w r ok.seen
  read_is r request stamp ok = ap (history.read_by requests w r) ok.looked
      ∙ ap (λ b. cond b (history.read requests w r ok.seen) w) (is_zero (w.stamp ok.seen.number) (unstamped r request stamp ok))
    where
      is_zero : (n : ℕ) → n ≡ 0 → (n == 0) ≡ true
      is_zero n e = grind (arith, nat_tests)

  stamps_read : (r request stamp : ℕ) (ok : MayStamp m layout c requests h r request stamp) (n : ℕ)
      → (history.read requests w r ok.seen).stamp n ≡ upd a.shared.stamp request (written_once (a.shared.stamp request) stamp) n
  stamps_read r request stamp ok n =
      let none : a.shared.stamp request ≡ 0 = sym (joined.tied.stamp request) ∙ (ap w.stamp (sym ok.number) ∙ unstamped r request stamp ok) in
      ap (λ k. upd w.stamp k (read_stamp_by ok.seen.clock) n) ok.number
      ∙ (ap (λ k. upd w.stamp request k n) (ok.stamps ∙ sym (ap (λ k. written_once k stamp) none))
      ∙ ap (cond (n == request) (written_once (a.shared.stamp request) stamp)) (joined.tied.stamp n))

  -- a section that isn't live any more is done
  free_done : (d : ℕ) → a.used d ≡ true → a.live d ≡ false → w.done d ≡ true
  free_done d used retired = (joined.tied.sections d used).done ∙ done_true ((a.section d).done) (λ undone. true_false ((joined.kept.agreement.sections d used).open_live undone) retired)

  -- nobody is in a run of it
  free_quiet : (d : ℕ) → ((r : ℕ) → (a.run r).running ≡ true → (a.run r).descriptor ≢ d) → (r : ℕ) → w.loaded r ≡ true → w.run r ≢ d
  free_quiet d none r ready same =
      let is = sym (joined.tied.loaded r) ∙ ready in
      none r (runs ((a.run r).running) ((a.run r).ended) (is_stamp_exchange ((section_of a r).code ((a.run r).at))) is) (sym (joined.tied.runs r is).run ∙ same)
    where
      runs : (running ended loading : Bool) → (running && (not ended && loading)) ≡ true → running ≡ true
      runs running ended loading is = grind arith

  agreement_follows : (v : Event) → is_apart (scenes.Agreement v) ≡ false → scenes.Enabled m layout c j (scenes.Agreement v) → MayFree m layout c requests h (scenes.Agreement v) → Follows (scenes.Agreement v)
  agreement_follows (Publish d lock word request code slot) single ok free = absurd (true_false ok.0 refl)
  agreement_follows (RetireDescriptor d) single ok free = record { events = tt; tied = same_tied m laws layout limits c nodes requests j joined.kept w joined.sound joined.tied (next (RetireDescriptor d)) refl (λ e. refl) (λ e. refl) (λ i. refl) joined.tied.clock joined.tied.stamp joined.tied.reply; pairs = refl }
  agreement_follows (Free d) single ok free =
      let used = sym (joined.tied.used d) ∙ free.0 in
      record {
        events = (record { used = free.0; done = free_done d used ok.1.0; over = free.1; quiet = free_quiet d ok.1.1 }, tt);
        tied = free_tied m laws layout limits c nodes requests j joined.kept w joined.sound joined.tied d;
        pairs = refl;
      }
  agreement_follows (StoreLog d log word) single ok free = record { events = tt; tied = unused_tied m laws layout limits c nodes requests j joined.kept w joined.sound joined.tied d (record (a.section d) { log = upd ((a.section d).log) log word }) refl ok.1 (next (StoreLog d log word)) refl (λ e. refl) (λ e. refl) (λ i. refl) joined.tied.clock joined.tied.stamp joined.tied.reply; pairs = refl }
  agreement_follows (StoreDone d word) single ok free = record { events = tt; tied = unused_tied m laws layout limits c nodes requests j joined.kept w joined.sound joined.tied d (record (a.section d) { done = word }) refl ok.1 (next (StoreDone d word)) refl (λ e. refl) (λ e. refl) (λ i. refl) joined.tied.clock joined.tied.stamp joined.tied.reply; pairs = refl }
  agreement_follows (Read place) single ok free = record { events = tt; tied = same_tied m laws layout limits c nodes requests j joined.kept w joined.sound joined.tied (next (Read place)) refl (λ e. refl) (λ e. refl) (λ i. refl) joined.tied.clock joined.tied.stamp joined.tied.reply; pairs = refl }
  agreement_follows (Open r d) single ok free = record { events = tt; tied = open_tied m laws layout limits c nodes requests j joined.kept w joined.sound joined.tied r d ok.1.0 ok.1.1; pairs = refl }
  agreement_follows (Pass r) single ok free =
      let check = pass_checks (rules_of m layout) ((a.run r).descriptor) ((a.run r).trail) (step_of a r) ok.1.2 in
      record {
        events = tt;
        tied = by_word r ((a.run r).word) (step_of a r) (record { running = ok.1.0; going = ok.1.1; next = refl }) (check_rank (step_of a r) check) (next (Pass r)) refl (λ e. refl) (λ e. refl) (λ i. refl)
            joined.tied.clock joined.tied.stamp joined.tied.reply;
        pairs = refl;
      }
  agreement_follows (SetDone r) single ok free =
      let used = joined.kept.agreement.running_used r ok.1.0 in
      let stop = stops_of (rules_of m layout) a joined.kept.agreement r ok.1 in
      record {
        events = ((joined.tied.used ((a.run r).descriptor) ∙ used, stop_stage m laws layout limits c nodes requests j joined.kept w joined.sound joined.tied ((a.run r).descriptor) used stop), tt);
        tied = done_tied m laws layout limits c nodes requests j joined.kept w joined.sound joined.tied r ok.1.0 (not_loaded m layout c requests j joined.kept w joined.tied r (step_of a r) refl
            (λ two. let none = stop_rank (rules_of m layout) ((a.run r).descriptor) ((a.run r).trail) (step_of a r) ok.1.2 in omega arith));
        pairs = refl;
      }
  agreement_follows (Release r place word) single ok free = record { events = tt; tied = release_tied m laws layout limits c nodes requests j joined.kept w joined.sound joined.tied r place word; pairs = refl }
  agreement_follows (Finish r) single ok free = record { events = tt; tied = finish_tied m laws layout limits c nodes requests j joined.kept w joined.sound joined.tied r ok.1.1; pairs = refl }
  agreement_follows (LoadCell r place log) single ok free = record { events = tt; tied = by_word r (a.shared.cells place) (micros.LoadCell place log) ok.1.0 refl (next (LoadCell r place log)) refl (λ e. refl) (λ e. refl) (λ i. refl) joined.tied.clock joined.tied.stamp joined.tied.reply; pairs = refl }
  agreement_follows (Commit r place log) single ok free = record { events = tt; tied = by_commit r log ((a.run r).word) (micros.Commit place log) ok.1 refl (next (Commit r place log)) refl (λ e. refl) (λ e. refl) (λ i. refl) joined.tied.clock joined.tied.stamp joined.tied.reply; pairs = refl }
  agreement_follows (NestedLoad r place log) single ok free = record { events = tt; tied = by_word r (a.shared.cells place) (micros.NestedLoad place log) ok.1 refl (next (NestedLoad r place log)) refl (λ e. refl) (λ e. refl) (λ i. refl) joined.tied.clock joined.tied.stamp joined.tied.reply; pairs = refl }
  agreement_follows (NestedCommit r place log) single ok free = record { events = tt; tied = by_commit r log ((a.run r).word) (micros.NestedCommit place log) ok.1 refl (next (NestedCommit r place log)) refl (λ e. refl) (λ e. refl) (λ i. refl) joined.tied.clock joined.tied.stamp joined.tied.reply; pairs = refl }
  agreement_follows (NestedHold r place word) single ok free = record { events = tt; tied = by_word r ((a.run r).word) (micros.NestedHold place word) ok.1 refl (next (NestedHold r place word)) refl (λ e. refl) (λ e. refl) (λ i. refl) joined.tied.clock joined.tied.stamp joined.tied.reply; pairs = refl }
  agreement_follows (OutcomeLoad r place log) single ok free = record { events = tt; tied = by_word r (a.shared.cells place) (micros.OutcomeLoad place log) ok.1 refl (next (OutcomeLoad r place log)) refl (λ e. refl) (λ e. refl) (λ i. refl) joined.tied.clock joined.tied.stamp joined.tied.reply; pairs = refl }
  agreement_follows (OutcomeCommit r place log) single ok free = record { events = tt; tied = by_commit r log ((a.run r).word) (micros.OutcomeCommit place log) ok.1 refl (next (OutcomeCommit r place log)) refl (λ e. refl) (λ e. refl) (λ i. refl) joined.tied.clock joined.tied.stamp joined.tied.reply; pairs = refl }
  agreement_follows (PrivateLoad r cell log place) single ok free = record { events = tt; tied = by_word r (a.shared.cells place) (micros.PrivateLoad cell log) ok.1 refl (next (PrivateLoad r cell log place)) refl (λ e. refl) (λ e. refl) (λ i. refl) joined.tied.clock joined.tied.stamp joined.tied.reply; pairs = refl }
  agreement_follows (PrivateStore r cell log value place word) single ok free = absurd (true_false ok.0 refl)
  agreement_follows (MakeCommit r log proposal) single ok free = absurd (true_false ok.0 refl)
  agreement_follows (ClockLoad r) single ok free = record {
    events = (may_load m laws layout limits c nodes requests same_map j joined.kept w joined.sound joined.tied r ok.1.running ok.1.going ok.1.next, tt);
    tied = load_tied m laws layout limits c nodes requests same_map j joined.kept w joined.sound joined.tied r ok.1.running ok.1.going ok.1.next;
    pairs = refl;
  }
  agreement_follows (StampExchange r) single ok free = record {
    events = (may_stamp m laws layout limits c nodes requests same_map j joined.kept w joined.sound joined.tied r ok.1.running ok.1.going joined.memory ok.1.next, tt);
    tied = stamp_tied m laws layout limits c nodes requests same_map j joined.kept w joined.sound joined.tied r ok.1.running ok.1.going ok.1.next;
    pairs = stamp_pairs m laws layout limits c nodes requests same_map j joined.kept w joined.sound joined.tied r ok.1.running ok.1.going ok.1.next;
  }
  agreement_follows (ClockRaise r) single ok free = record {
    events = (may_raise m laws layout limits c nodes requests same_map j joined.kept w joined.sound joined.tied r ok.1.running ok.1.going ok.1.next, tt);
    tied = raise_tied m laws layout limits c nodes requests same_map j joined.kept w joined.sound joined.tied r ok.1.running ok.1.going ok.1.next;
    pairs = refl;
  }
  agreement_follows (ExchangeCell r place log value) single ok free = record { events = tt; tied = by_word r ((a.run r).word) (micros.ExchangeCell place log value) ok.1 refl (next (ExchangeCell r place log value)) refl (λ e. refl) (λ e. refl) (λ i. refl) joined.tied.clock joined.tied.stamp joined.tied.reply; pairs = refl }
  agreement_follows (EpochForRetire r slot log epoch) single ok free = record { events = tt; tied = by_word r (epoch) (micros.EpochForRetire slot log) ok.1 refl (next (EpochForRetire r slot log epoch)) refl (λ e. refl) (λ e. refl) (λ i. refl) joined.tied.clock joined.tied.stamp joined.tied.reply; pairs = refl }
  agreement_follows (RetireCommit r slot log) single ok free = absurd (true_false ok.0 refl)
  agreement_follows (ReplyExchange r reply) single ok free = record {
    events = (may_write m laws layout limits c nodes requests same_map j joined.kept w joined.sound joined.tied r ok.1.running ok.1.going reply ok.1.next, tt);
    tied = reply_tied m laws layout limits c nodes requests same_map j joined.kept w joined.sound joined.tied r ok.1.running ok.1.going reply ok.1.next;
    pairs = refl;
  }
  agreement_follows (ReadReply request reply) single ok free = absurd (true_false refl single)
  agreement_follows (ReadStamp request stamp) single ok free = absurd (true_false refl single)

  step_follows : (step : scenes.Step) → is_apart step ≡ false → scenes.Enabled m layout c j step → MayFree m layout c requests h step → Follows step
  step_follows (scenes.Agreement v) single ok free = agreement_follows v single ok free
  step_follows (scenes.Epochs v) single ok free = record { events = tt; tied = unchanged (scenes.after m layout c j (scenes.Epochs v)) refl refl; pairs = refl }
  step_follows (scenes.Enter r) single ok free = record { events = tt; tied = unchanged (scenes.after m layout c j (scenes.Enter r)) refl refl; pairs = refl }
  step_follows (scenes.Read r place) single ok free = record { events = tt; tied = unchanged (scenes.after m layout c j (scenes.Read r place)) refl refl; pairs = refl }
  step_follows (scenes.Leave r) single ok free = record { events = tt; tied = unchanged (scenes.after m layout c j (scenes.Leave r)) refl refl; pairs = refl }
  step_follows (scenes.Publish r d lock word request code slot op thunk) single ok free = absurd (true_false refl single)
  step_follows (scenes.Fill r cell log value t word) single ok free = record {
    events = tt;
    tied = by_word r ((a.run r).word) (micros.PrivateStore cell log value) ok.0.0 refl (scenes.after m layout c j (scenes.Fill r cell log value t word)) refl (λ e. refl) (λ e. refl) (λ i. refl)
        joined.tied.clock joined.tied.stamp joined.tied.reply;
    pairs = refl;
  }
  step_follows (scenes.Make r log t worn) single ok free = record {
    events = tt;
    tied = by_commit r log (suc t) (micros.MakeCommit log) ok.enabled.0 refl (scenes.after m layout c j (scenes.Make r log t worn)) refl (λ e. refl) (λ e. refl) (λ i. refl)
        joined.tied.clock joined.tied.stamp joined.tied.reply;
    pairs = refl;
  }
  step_follows (scenes.LoadEpoch r log t) single ok free = record { events = tt; tied = unchanged (scenes.after m layout c j (scenes.LoadEpoch r log t)) refl refl; pairs = refl }
  step_follows (scenes.Retire r log t) single ok free = record {
    events = tt;
    tied = by_commit r log (suc t) (micros.RetireCommit t log) ok.enabled refl (scenes.after m layout c j (scenes.Retire r log t)) refl (λ e. refl) (λ e. refl) (λ i. refl)
        joined.tied.clock joined.tied.stamp joined.tied.reply;
    pairs = refl;
  }

  pub step_joined : (step : Step) → Enabled m layout c requests h step → IsJoined m layout c requests (after m layout c requests h step)
  step_joined (Joint step) ok =
      let f = step_follows step ok.0 ok.1 ok.2 in
      record {
        kept = step_kept m laws layout limits c nodes j step ok.1 joined.kept;
        sound = schedule_keeps requests w (events_of j step) f.events joined.sound;
        tied = f.tied;
        memory = subst (MemoryStands m layout c (scenes.after m layout c j step)) f.pairs (step_memory m laws layout limits c j joined.kept w.pairs joined.memory step ok.1);
      }
  step_joined (steps.Publish r d lock word request code slot op thunk answer) ok = record {
    kept = step_kept m laws layout limits c nodes j (scenes.Publish r d lock word request code slot op thunk) ok.enabled joined.kept;
    sound = event_keeps requests w (history.Publish r d request answer) (may_publish r d lock word request code slot op thunk answer ok) joined.sound;
    tied = publish_tied m laws layout limits c nodes requests j joined.kept w joined.sound joined.tied r d lock word request code slot op thunk answer ok;
    memory =
        let memory = step_memory m laws layout limits c j joined.kept w.pairs joined.memory (scenes.Publish r d lock word request code slot op thunk) ok.enabled in
        record { cells = memory.cells; completed = memory.completed; stands = memory.stands };
  }
  step_joined (Over r) ok = record {
    kept = joined.kept;
    sound = event_keeps requests w (history.Over r) ok joined.sound;
    tied = words_elsewhere (history.after requests w (history.Over r)) refl refl refl refl refl refl refl refl refl refl refl;
    memory = record { cells = joined.memory.cells; completed = joined.memory.completed; stands = joined.memory.stands };
  }
  step_joined (Learn r n) ok = record {
    kept = joined.kept;
    sound = event_keeps requests w (history.Learn r n) ok joined.sound;
    tied = words_elsewhere (history.after requests w (history.Learn r n)) refl refl refl refl refl refl refl refl refl refl refl;
    memory = record { cells = joined.memory.cells; completed = joined.memory.completed; stands = joined.memory.stands };
  }
  step_joined (steps.Look r op thunk answer) ok = record {
    kept = joined.kept;
    sound = event_keeps requests w (history.Look r thunk.request answer) (may_look r op thunk answer ok) joined.sound;
    tied = words_elsewhere (history.after requests w (history.Look r thunk.request answer)) refl refl refl refl refl refl refl refl refl refl refl;
    memory = record { cells = joined.memory.cells; completed = joined.memory.completed; stands = joined.memory.stands };
  }
  step_joined (steps.Forget r) ok = record {
    kept = joined.kept;
    sound = event_keeps requests w (history.Forget r) ok joined.sound;
    tied = words_elsewhere (history.after requests w (history.Forget r)) refl refl refl refl refl refl refl refl refl refl refl;
    memory = record { cells = joined.memory.cells; completed = joined.memory.completed; stands = joined.memory.stands };
  }
  step_joined (steps.ReadReply r request reply) ok = record {
    kept = step_kept m laws layout limits c nodes j (scenes.Agreement (agreement.ReadReply request reply)) (refl, some_reply r request reply ok) joined.kept;
    sound = event_keeps requests w (history.ReadReply r) (may_reply r request reply ok) joined.sound;
    tied = subst (AreTied requests (next (agreement.ReadReply request reply))) (sym (replied_is r request reply ok)) (read_tied
        (record (a.shared) { reply = upd a.shared.reply request (written_once (a.shared.reply request) reply) }) (replied_state r request reply ok)
        joined.tied.clock joined.tied.stamp
        (λ n. ap (λ k. upd w.reply request (written_once k reply) n) (joined.tied.reply request)
        ∙ ap (cond (n == request) (written_once (a.shared.reply request) reply)) (joined.tied.reply n))
        refl refl refl refl refl refl refl refl);
    memory = subst (λ (v : HistoryState). MemoryStands m layout c (next (agreement.ReadReply request reply)) v.pairs) (sym (replied_is r request reply ok))
        (step_memory m laws layout limits c j joined.kept w.pairs joined.memory (scenes.Agreement (agreement.ReadReply request reply))
        (refl, some_reply r request reply ok));
  }
  step_joined (steps.ReadStamp r request stamp) ok = record {
    kept = step_kept m laws layout limits c nodes j (scenes.Agreement (agreement.ReadStamp request stamp)) (refl, some_stamp r request stamp ok) joined.kept;
    sound = event_keeps requests w (history.ReadStamp r) (record { seen = ok.seen; looked = ok.looked; replied = ok.replied }) joined.sound;
    tied = subst (AreTied requests (next (agreement.ReadStamp request stamp))) (sym (read_is r request stamp ok)) (read_tied
        (record (a.shared) { stamp = upd a.shared.stamp request (written_once (a.shared.stamp request) stamp) }) (history.read requests w r ok.seen)
        joined.tied.clock (stamps_read r request stamp ok) joined.tied.reply
        refl refl refl refl refl refl refl refl);
    memory = subst (λ (v : HistoryState). MemoryStands m layout c (next (agreement.ReadStamp request stamp)) v.pairs) (sym (read_is r request stamp ok))
        (step_memory m laws layout limits c j joined.kept w.pairs joined.memory (scenes.Agreement (agreement.ReadStamp request stamp))
        (refl, some_stamp r request stamp ok));
  }

module _ (m : Meaning) (laws : Laws m) (layout : Layout) (limits : IsWithinLimits layout) where
  pub steps_keep : StepsKeepJoined m layout
  steps_keep c nodes requests same_map h step ok joined = step_joined m laws layout limits c nodes requests same_map h joined step ok

  pub first_joined : FirstIsJoined m layout
  first_joined c nodes requests same_map location first p = record {
    kept = first_kept m laws layout limits c nodes location first p;
    sound = first_sound requests;
    tied = record {
      clock = refl;
      stamp = λ n. refl;
      reply = λ n. refl;
      used = λ e. refl;
      sections = λ e is. absurd (true_false is refl);
      loaded = λ i. refl;
      runs = λ i is. absurd (true_false is refl);
    };
    memory =
        let memory = first_stands m laws layout limits c nodes location first p in
        record { cells = memory.cells; completed = memory.completed; stands = memory.stands };
  }

  schedule_from : (c : Counts) (nodes : c.nodes ≡ slots m layout) (requests : Requests) → requests.is_map ≡ m.is_map → (h : HistoryStates) (steps : List Step)
      → laws_of.AllEnabled m layout c requests h steps → IsJoined m layout c requests h → IsJoined m layout c requests (laws_of.after_all m layout c requests h steps)
  schedule_from c nodes requests same_map h [] ok joined = joined
  schedule_from c nodes requests same_map h (step ∷ steps) ok joined = schedule_from c nodes requests same_map (after m layout c requests h step) steps ok.1 (steps_keep c nodes requests same_map h step ok.0 joined)

  pub schedules_keep : SchedulesKeepJoined m layout
  schedules_keep c nodes requests same_map location first p steps ok = schedule_from c nodes requests same_map (laws_of.first m layout location p) steps ok
      (first_joined c nodes requests same_map location first p)

  pub joined_stands : JoinedStands m layout
  joined_stands c nodes requests h joined = record {
    legal = legal requests h.history joined.sound;
    reads = reads_stand requests h.history joined.sound;
    rises = λ none. rises requests h.history none joined.sound;
    clock = clock_stands requests h.history joined.sound;
    known = knowledge_stands requests h.history joined.sound;
    memory = joined.memory;
    answered = λ closed. all_closed requests h.history joined.sound (all_done closed);
    settled = λ closed. closed_stands m laws layout limits c nodes h.joint h.history.pairs joined.memory closed;
  }
    where
      all_done : AreAllClosed h → AreAllDone requests h.history
      all_done closed d is =
          let used = sym (joined.tied.used d) ∙ is in
          (joined.tied.sections d used).done ∙ done_true ((h.joint.agreement.section d).done) (λ undone. closed d (record { used = used; undone = undone }))
