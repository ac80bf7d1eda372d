-- Each step of the machine keeps that its state stands beside the history, and that the history has seen the runners' looks.
use Rattle.std.specs.Prelude.{◌⊎◌, ◌==◌, ◌&&◌, ◌/◌, cond, Bool, true, false, [], ◌++◌, take, drop, length, Option, Some, None, if◌then◌else◌}
use Rattle.std.proofs.Common.{◌≡◌, ◌≢◌, ℕ, ◌≤◌, ◌*◌, ◌+◌, le_of_eq, List, ◌∷◌, inl, inr, refl, sym, ap, ◌∙◌, subst, ⊎_elim, arith}
use Rattle.std.proofs.lemmas.Bool.{cases_eq, and_parts}
use Rattle.std.proofs.lemmas.Bool.Decides.{nat_tests}
use Rattle.std.proofs.lemmas.List.{append-nil, drop_all}
use Rattle.std.proofs.Math.Seq.{take-length}
use Rattle.machine_states.specs.map_history.specs.declared.op.Request.{Request}
use Rattle.machine_states.specs.body_terms.specs.Run.{written_once}
use Rattle.machine_states.specs.body_terms.specs.Update.{upd}
use Rattle.machine_states.specs.body_terms.specs.declared.thunk.Thunk.{Thunk}
use Rattle.machine_states.specs.table_words.specs.declared.layout.Layout.{Layout}
use Rattle.machine_states.specs.table_words.specs.Limits.{IsWithinLimits}
use Rattle.machine_states.specs.table_words.specs.declared.spot.Spot.{Spot}
use Rattle.machine_states.specs.table_words.specs.declared.spot.Spot.TheVariants.{Cell}
use Rattle.machine_states.specs.table_words.specs.declared.access.Access.{Access}
use Rattle.machine_states.specs.structure_laws.specs.Meaning.{Meaning}
use Rattle.machine_states.specs.structure_laws.specs.Laws.{Laws}
use Rattle.machine_states.specs.structure_laws.proofs.Changes.{upd_same, upd_other}
use Rattle.machine_states.specs.runner_parts.specs.declared.entries.Known.{Known}
use Rattle.machine_states.specs.runner_parts.specs.declared.entries.Look.{Look}
use Rattle.machine_states.specs.runner_parts.specs.declared.entries.LookStage.{LookStage}
use Rattle.machine_states.specs.runner_parts.specs.declared.entries.LookStage.TheVariants.{Planned, Looked, Replied, Stamped}
use Rattle.machine_states.specs.runner_parts.specs.declared.entries.Published.{Published}
use Rattle.machine_states.specs.runner_parts.specs.declared.event.EventKind.{EventKind}
use Rattle.machine_states.specs.runner_parts.specs.declared.event.EventKind.TheVariants as kinds
use Rattle.machine_states.specs.runner_parts.specs.State.{RunState, ReadsState, PartState}
use Rattle.machine_states.specs.runner_parts.specs.Tests.{has_pair, knows, is_answered, is_planned_stage, is_looked, is_replied, is_between}
use Rattle.machine_states.specs.runner_steps.specs.Sections.{is_open_run, next_of, reply_in}
use Rattle.machine_states.specs.runner_steps.specs.Reads.{plan_by, look_by, is_fit, read_stamp_after}
use Rattle.machine_states.specs.runner_steps.specs.Asks.{opening_ask}
use Rattle.machine_states.specs.runner_steps.specs.Asks.{asks, outside_ask, line_ask}
use Rattle.still_reads.specs.agreement_core.specs.Events as agreement
use Rattle.machine_states.specs.epoch_core.specs.State.{Counts}
use Rattle.machine_history.specs.history_core.specs.State as history_states
use Rattle.machine_history.specs.history_core.specs.State.{Requests, Seen, HistoryState}
use Rattle.machine_history.specs.history_core.specs.Events as history
use Rattle.machine_history.specs.history_core.specs.Events.{read_stamp_by}
use Rattle.machine_history.specs.history_core.proofs.RealTime.{Passes, passes_nowhere, passes_more, event_passes, IsToCome, IsLow}
use Rattle.machine_history.specs.Steps as steps
use Rattle.machine_history.specs.Steps.{MayReply, MayStamp}
use Rattle.machine_history.specs.Laws.{IsJoined}
use Rattle.machine_history.proofs.Joining.{steps_keep}
use Rattle.still_reads.specs.Standing.{WalksStand}
use Rattle.still_reads.proofs.Steps.{walks_after}
use Rattle.machine_states.specs.Sight.{Sight, Steps}
use Rattle.machine_states.proofs.Sights.{some_none, unless_gone}
use Rattle.machine_states.proofs.Steps.{some_same}
use Rattle.machine_facts.specs.machine_agreement.specs.machine_epochs.specs.Entries.{counts_of}
use Rattle.machine_facts.specs.machine_agreement.specs.machine_epochs.proofs.OutsideAsked.{hold_asked, enter_again_asked, read_asked}
use Rattle.machine_facts.specs.machine_agreement.specs.machine_epochs.proofs.ReadsAsked.{read_plan_asked, read_clock_asked, read_reply_asked, read_stamp_asked, ClockAsked, ReplyAsked, StampAsked, fit_answers}
use Rattle.machine_facts.specs.machine_agreement.specs.machine_scenes.specs.Shown.{States, rules_of}
use Rattle.machine_facts.specs.machine_agreement.specs.machine_scenes.specs.Steps as scenes
use Rattle.machine_facts.specs.machine_invariant.specs.After.{AreAllowed}
use Rattle.machine_facts.specs.machine_invariant.specs.Rising.{CellsRise}
use Rattle.machine_facts.specs.machine_invariant.specs.Whole.{Beside, states_of}
use Rattle.machine_facts.specs.machine_invariant.proofs.Asked.{asked_by}
use Rattle.machine_facts.specs.machine_invariant.proofs.Jointly.{JointSteps, GoesQuietly, GoesByPublishing, GoesByReading, is_reading}
use Rattle.machine_facts.specs.machine_invariant.proofs.Rising.{step_rises}
use Rattle.machine_facts.specs.Known.{KnownStand}
use Rattle.reached_histories.specs.Requests.{requests_of}
use Rattle.reached_histories.specs.Kept.{link_of}
use Rattle.reached_histories.specs.Keeping.{PublishesNothing}
use Rattle.reached_histories.specs.Looks.{HasSeen, CameLate, HasReplied, IsLookOf, LookIsKept, LooksAreKept}
use Rattle.reached_histories.proofs.Keeping.{own, others, others_same}
use Rattle.reached_histories.proofs.Keeping as keeping
use Rattle.reached_histories.proofs.Supplying.{hold_outside, unanswered}
use Rattle.reached_histories.proofs.Quietly.{with_history}
use Rattle.reached_histories.proofs.Fit.{next}
use Rattle.reached_histories.proofs.LookParts.{is_looking_kind, LooksOn, other_reads, own_looks}
use Rattle.reached_histories.proofs.LooksKept.{GoesOnSo, longer, past_on, all_on, one_new}
use Rattle.reached_histories.proofs.Looking.{may_look, lock_past}
use Rattle.reached_histories.proofs.ReadParts.{leaves_so, ReadsOn, planned_on, looked_on, replied_on, stamped_on}
use Rattle.reached_histories.proofs.Steps as stands
use Rattle.reached_histories.proofs.Steps.{Stands, one, quietly, quietly_look, quietly_passes, publishing, publishing_look, publishing_passes, ReadsTo, reads_to, known_same, known_more}

-- what a runner in no run asks
outside_of : (m : Meaning) (l : Layout) (rs : List Request) (s : Sight) (r : ℕ) (kind : EventKind) (x : Spot × Access) → (s.part r).run ≡ None
    → asks m l rs r kind (s.part r) ≡ Some x → outside_ask m l rs r kind (s.part r) ≡ Some x
outside_of m l rs s r kind x none asked = asked_by m l r kind (s.part r) rs x None none asked

reading_looks : (kind : EventKind) → is_reading kind ≡ true → is_looking_kind kind ≡ true
reading_looks kinds.ReadReply is = refl
reading_looks kinds.ReadStamp is = refl
reading_looks _ is = absurd (let z = is in cc)

-- stages of a look
planned_between : (stage : LookStage) → is_planned_stage stage ≡ true → is_replied stage ≡ false
planned_between Planned is = refl
planned_between Looked is = absurd (let z = is in cc)
planned_between Replied is = absurd (let z = is in cc)
planned_between Stamped is = absurd (let z = is in cc)

looked_between : (stage : LookStage) → is_looked stage ≡ true → is_replied stage ≡ false
looked_between Planned is = absurd (let z = is in cc)
looked_between Looked is = refl
looked_between Replied is = absurd (let z = is in cc)
looked_between Stamped is = absurd (let z = is in cc)

not_begun : (stage : LookStage) → is_planned_stage stage ≡ true → (is_looked stage ≡ true) ⊎ (is_replied stage ≡ true) → ⊥
not_begun Planned is begun = ⊎_elim (λ e. let z = e in cc) (λ e. let z = e in cc) begun
not_begun Looked is begun = let z = is in cc
not_begun Replied is begun = let z = is in cc
not_begun Stamped is begun = let z = is in cc

same_head : (v v' : agreement.Event) → v ∷ [] ≡ v' ∷ [] → v ≡ v'
same_head v v' e = cc

-- where a stamp is low, or a read's clock whose stamp is to come, it stays so
abbrev pub Lows : Requests → HistoryState → HistoryState → Type 0
Lows asked w v = (k clock : ℕ) → IsLow asked k clock w → IsLow asked k clock v

-- so it is where stamps stand, and what was seen whose stamp is to come
lows_same : (asked : Requests) (w v : HistoryState) → Passes w v
    → ((i : ℕ) → history_states.is_replied (w.look i) ≡ true → v.look i ≡ w.look i) → Lows asked w v
lows_same asked w v passes same k clock low = ⊎_elim
    (λ had. let still = passes.stamps k had.0 in inl (subst (λ n. (n ≢ 0) × (n / 2 ≤ clock)) (sym still) had))
    (λ coming. inr (record {
      seen = coming.seen;
      looked = same (asked.worker k) (ap history_states.is_replied coming.looked ∙ coming.replied) ∙ coming.looked;
      replied = coming.replied;
      number = coming.number;
      low = coming.low;
    }))
    low

module _ (m : Meaning) (laws : Laws m) (l : Layout) (limits : IsWithinLimits l) (rs : List Request) (allowed : AreAllowed rs) where
  abbrev c : Counts
  c = counts_of m l

  abbrev requests : Requests
  requests = requests_of m l rs

  -- a state of the machine stands beside the history, which has seen the runners' looks
  pub record StandsSeen (s : Sight) : Type 0 where
    pub core : Stands m laws l limits rs allowed s
    pub looks : LooksAreKept m l rs s core.history

  -- the same with other looks in the history's state
  abbrev pub with_looks : (s : Sight) (old : Stands m laws l limits rs allowed s) (f : ℕ → Option Seen)
      → IsJoined m l c requests (with_history m laws l limits rs (states_of old.beside s) (record (old.history) { look = f }))
      → Stands m laws l limits rs allowed s
  with_looks s old f joined = record {
    beside = old.beside;
    history = record (old.history) { look = f };
    whole = old.whole;
    asked = old.asked;
    joined = joined;
    kept = record { known = old.kept.known; published = old.kept.published };
    told = old.told;
    publications = λ i x at. let o = old.publications i x at in
        record { own = o.own; request = o.request; within = o.within; knew = o.knew; others = o.others; stamped = o.stamped };
    walks = old.walks;
  }

  -- what one step makes of it
  pub record Goes (s s' : Sight) (old : StandsSeen s) : Type 0 where
    pub to : StandsSeen s'
    pub passes : Passes old.core.history to.core.history
    pub lows : Lows requests old.core.history to.core.history

  module _ (s s' : Sight) (r : ℕ) (kind : EventKind) (step : Steps m l rs s s' r kind) (known : KnownStand s') where
    abbrev p : PartState
    p = s.part r

    -- in a run nobody takes a step of a read, or enters
    no_run : is_looking_kind kind ≡ true → p.run ≡ None
    no_run looking = by p.run refl
      where
        inside : (k : EventKind) (q : RunState) (b : Bool) → is_looking_kind k ≡ true
            → (if b then line_ask m l k p.nodes.free p.blocks.free q (next_of m q) else opening_ask k q) ≡ Some step.ask → ⊥
        inside kinds.EnterAgain q true is e = some_none step.ask e
        inside kinds.EnterAgain q false is e = some_none step.ask e
        inside (kinds.ReadPlan t) q true is e = some_none step.ask e
        inside (kinds.ReadPlan t) q false is e = some_none step.ask e
        inside kinds.ReadClock q true is e = some_none step.ask e
        inside kinds.ReadClock q false is e = some_none step.ask e
        inside kinds.ReadReply q true is e = some_none step.ask e
        inside kinds.ReadReply q false is e = some_none step.ask e
        inside kinds.ReadStamp q true is e = some_none step.ask e
        inside kinds.ReadStamp q false is e = some_none step.ask e
        inside _ q b is e = absurd (let z = is in cc)

        by : (o : Option RunState) → p.run ≡ o → p.run ≡ None
        by None is = is
        by (Some q) is = absurd (inside kind q (is_open_run q) looking (asked_by m l r kind p rs step.ask (Some q) is step.asked))

    module _ (core : Stands m laws l limits rs allowed s) where
      abbrev g : Beside
      g = core.beside

      abbrev w : HistoryState
      w = core.history

      rise : CellsRise s.word s'.word
      rise = step_rises m l rs g s s' r kind core.whole (one m laws l limits rs allowed s s' r kind step known core)

      -- another runner goes on as it was
      elsewhere : PublishesNothing m l rs s s' r kind step → (i : ℕ) → i ≢ r → GoesOnSo s (s.part i) (s'.part i)
      elsewhere nothing i ne =
          let same = others m l rs g s s' r kind core.whole step i ne in
          let reads = other_reads m l rs s s' r kind step i ne in record {
            look = ap (λ (y : ReadsState). y.look) reads.reads;
            walk = inl (ap (λ (y : ReadsState). y.walk) reads.reads);
            stage = λ g e. sym reads.stage ∙ e;
            known = ([], same.known ∙ sym (append-nil (s.part i).records.known));
            grows = λ n b e. ap (λ (xs : List Known). knows xs n b) same.known ∙ e;
            unpublished = λ between none. same.published ∙ none;
          }

      none_still : PublishesNothing m l rs s s' r kind step → p.published ≡ None → (s'.part r).published ≡ None
      none_still nothing none = by (s'.part r).published refl
        where
          by : (o : Option Published) → (s'.part r).published ≡ o → o ≡ None
          by None is = refl
          by (Some y) is = absurd (let h = (own m l rs g s s' r kind core.whole step nothing).was y is in let clash = sym none ∙ h.1 in cc)

      -- and so does the runner itself, where its step is none of a read and publishes nothing
      walk_on : (h : LooksOn kind (s.word step.ask.0) p (s'.part r))
          → ((s'.part r).reads.walk ≡ p.reads.walk) ⊎ ((place : ℕ) × ((s'.part r).reads.walk ≡ p.reads.walk ++ (place, s.word (Cell place)) ∷ []))
      walk_on h = ⊎_elim inl
          (λ read.
          let asked = outside_of m l rs s r kind step.ask read.2 step.asked in
          let at = (read_asked m read.0 p step.ask (subst (λ (k : EventKind). outside_ask m l rs r k p ≡ Some step.ask) read.1 asked)).2 in
          inr (read.0, subst (λ n. (s'.part r).reads.walk ≡ p.reads.walk ++ (read.0, n) ∷ []) (ap (λ (y : Spot × Access). s.word y.0) (sym at)) read.3))
          h.walk

      quietly_on : PublishesNothing m l rs s s' r kind step → is_looking_kind kind ≡ false → (i : ℕ) → GoesOnSo s (s.part i) (s'.part i)
      quietly_on nothing plain i = ⊎_elim
          (λ mine. subst (λ k. GoesOnSo s (s.part k) (s'.part k)) (sym mine)
          (let h = own_looks m l rs s s' r kind step plain in
          let k = own m l rs g s s' r kind core.whole step nothing in record {
            look = h.look;
            walk = walk_on h;
            known = k.appends;
            grows = k.grows;
            unpublished = λ between none. none_still nothing none;
            stage = h.stage;
          }))
          (λ ne. elsewhere nothing i ne)
          (cases_eq i r)

      -- nothing of it is published, where it goes quietly
      nothing_of : (quiet : GoesQuietly m l g s kind (s.word (one m laws l limits rs allowed s s' r kind step known core).ask.0)
          (states_of (stands.g' m laws l limits rs allowed s s' r kind step known core) s')) → PublishesNothing m l rs s s' r kind step
      nothing_of quiet = stands.nothing m laws l limits rs allowed s s' r kind step known core quiet

    -- a step that is none of a read, and no entry
    plain : is_looking_kind kind ≡ false → (old : StandsSeen s) → Goes s s' old
    plain other old = ⊎_elim
        (λ quiet. record {
          to = record {
            core = quietly m laws l limits rs allowed s s' r kind step known old.core quiet;
            looks = all_on m l rs s s' (rise old.core) old.core.history (quietly m laws l limits rs allowed s s' r kind step known old.core quiet).history
                (quietly_on old.core (nothing_of old.core quiet) other)
                (quietly_look m laws l limits rs allowed s s' r kind step known old.core quiet) old.looks;
          };
          passes = quietly_passes m laws l limits rs allowed s s' r kind step known old.core quiet;
          lows = lows_same requests old.core.history (quietly m laws l limits rs allowed s s' r kind step known old.core quiet).history
              (quietly_passes m laws l limits rs allowed s s' r kind step known old.core quiet)
              (λ i replied. ap (λ (h : ℕ → Option Seen). h i) (quietly_look m laws l limits rs allowed s s' r kind step known old.core quiet));
        })
        (λ more. ⊎_elim (λ goes. publishes goes) (λ reading. absurd (let clash : true ≡ false = sym (reading_looks kind reading.reading) ∙ other in cc)) more)
        (one m laws l limits rs allowed s s' r kind step known old.core).goes
      where
        publishes : (goes : GoesByPublishing m l old.core.beside s r kind (s.word (one m laws l limits rs allowed s s' r kind step known old.core).ask.0)
            (states_of (stands.g' m laws l limits rs allowed s s' r kind step known old.core) s')) → Goes s s' old
        publishes goes = record {
          to = record {
            core = publishing m laws l limits rs allowed s s' r kind step known old.core goes settled;
            looks = all_on m l rs s s' (rise old.core) old.core.history (publishing m laws l limits rs allowed s s' r kind step known old.core goes settled).history
                on (publishing_look m laws l limits rs allowed s s' r kind step known old.core goes settled) old.looks;
          };
          passes = publishing_passes m laws l limits rs allowed s s' r kind step known old.core goes settled;
          lows = lows_same requests old.core.history (publishing m laws l limits rs allowed s s' r kind step known old.core goes settled).history
              (publishing_passes m laws l limits rs allowed s s' r kind step known old.core goes settled)
              (λ i replied. ap (λ (h : ℕ → Option Seen). h i) (publishing_look m laws l limits rs allowed s s' r kind step known old.core goes settled));
        }
          where
            hold : Steps m l rs s s' r (kinds.Hold goes.thunk goes.descriptor)
            hold = stands.of_kind m laws l limits rs allowed s s' r kind (kinds.Hold goes.thunk goes.descriptor) goes.kind_is step

            found : s.word hold.ask.0 ≡ goes.thunk.word
            found = ap (λ (x : Spot × Access). s.word x.0) (stands.of_kind_ask m laws l limits rs allowed s s' r kind (kinds.Hold goes.thunk goes.descriptor) goes.kind_is step
                ∙ sym (stands.same_ask m laws l limits rs allowed s s' r kind step known old.core)) ∙ goes.found_is

            not_between : is_between p.reads.look ≡ false
            not_between = (hold_asked m l rs r goes.thunk goes.descriptor p hold.ask
                (hold_outside m l rs r goes.descriptor goes.thunk p p.run hold.ask (unless_gone _ p.gone _ hold.ask hold.asked).1)).settled

            settled : history_states.is_replied (old.core.history.look r) ≡ false
            settled = old.looks.settled r not_between

            same_on : (y : PartState) → GoesOnSo s y y
            same_on y = record {
              look = refl;
              walk = inl refl;
              known = ([], sym (append-nil y.records.known));
              grows = λ n b e. e;
              unpublished = λ between none. none;
              stage = λ g e. e;
            }

            on : (i : ℕ) → GoesOnSo s (s.part i) (s'.part i)
            on i = ⊎_elim
                (λ mine. subst (λ k. GoesOnSo s (s.part k) (s'.part k)) (sym mine)
                (let h = own_looks m l rs s s' r kind step other in
                let part = keeping.own_published m l rs s s' r goes.descriptor goes.thunk hold found in record {
                  look = h.look;
                  walk = walk_on old.core h;
                  known = ([], part.known ∙ sym (append-nil p.records.known));
                  grows = λ n b e. ap (λ (xs : List Known). knows xs n b) part.known ∙ e;
                  unpublished = λ between none. absurd (let clash : true ≡ false = sym between ∙ not_between in cc);
                  stage = h.stage;
                }))
                (λ ne. subst (λ (y : PartState). GoesOnSo s (s.part i) y) (sym (others_same m l rs s s' r goes.descriptor goes.thunk hold found i ne)) (same_on (s.part i)))
                (cases_eq i r)

    -- a step by which the runner's look is new, and the history sees what it saw, or another look: it goes quietly
    module _ (alone : PublishesNothing m l rs s s' r kind step) (apart : is_reading kind ≡ false) (old : StandsSeen s) (f : ℕ → Option Seen)
        (joined : IsJoined m l c requests (with_history m laws l limits rs (states_of old.core.beside s) (record (old.core.history) { look = f })))
        (passes : Passes old.core.history (record (old.core.history) { look = f })) (same : (i : ℕ) → i ≢ r → f i ≡ old.core.history.look i)
        (unreplied : history_states.is_replied (old.core.history.look r) ≡ false) where
      abbrev core0 : Stands m laws l limits rs allowed s
      core0 = with_looks s old.core f joined

      quiet0 : GoesQuietly m l core0.beside s kind (s.word (one m laws l limits rs allowed s s' r kind step known core0).ask.0)
          (states_of (stands.g' m laws l limits rs allowed s s' r kind step known core0) s')
      quiet0 = ⊎_elim (λ quiet. quiet) (λ more. ⊎_elim
          (λ goes. absurd (alone goes.thunk goes.descriptor goes.kind_is
          (ap s.word (ap (λ (x : Spot × Access). x.0) (sym (stands.same_ask m laws l limits rs allowed s s' r kind step known core0))) ∙ goes.found_is)))
          (λ reading. absurd (let clash : true ≡ false = sym reading.reading ∙ apart in cc)) more)
          (one m laws l limits rs allowed s s' r kind step known core0).goes

      -- the look is kept, if it is so by any history that has seen this
      looks_anew : ((v : HistoryState) → v.look r ≡ f r → (x : Look) → (s'.part r).reads.look ≡ Some x → LookIsKept m l rs s' v r (s'.part r) x)
          → (is_between (s'.part r).reads.look ≡ false → history_states.is_replied (f r) ≡ false)
          → ((seen : Seen) → f r ≡ Some seen → IsLookOf (s'.part r) seen)
          → Goes s s' old
      looks_anew kept settled only =
          let to = quietly m laws l limits rs allowed s s' r kind step known core0 quiet0 in
          let look = quietly_look m laws l limits rs allowed s s' r kind step known core0 quiet0 in record {
            to = record {
              core = to;
              looks = one_new m l rs s s' (rise old.core) old.core.history to.history r (elsewhere old.core alone)
                  (λ i ne. ap (λ (h : ℕ → Option Seen). h i) look ∙ same i ne)
                  (λ x at g isin. kept to.history (ap (λ (h : ℕ → Option Seen). h r) look) x at)
                  (λ none. ap (λ (h : ℕ → Option Seen). history_states.is_replied (h r)) look ∙ settled none)
                  (λ seen at. only seen (sym (ap (λ (h : ℕ → Option Seen). h r) look) ∙ at)) old.looks;
            };
            passes = all_passes;
            lows = lows_same requests old.core.history to.history all_passes (λ i replied.
                ap (λ (h : ℕ → Option Seen). h i) look ∙ same i (λ mine. absurd (
                let clash : true ≡ false = sym replied ∙ (ap (λ k. history_states.is_replied (old.core.history.look k)) mine ∙ unreplied) in cc)));
          }
        where
          all_passes : Passes old.core.history (quietly m laws l limits rs allowed s s' r kind step known core0 quiet0).history
          all_passes = passes_more old.core.history (record (old.core.history) { look = f })
              (quietly m laws l limits rs allowed s s' r kind step known core0 quiet0).history passes
              (quietly_passes m laws l limits rs allowed s s' r kind step known core0 quiet0)

  module _ (s s' : Sight) (r : ℕ) (known : KnownStand s') (old : StandsSeen s) where
    abbrev core : Stands m laws l limits rs allowed s
    core = old.core

    abbrev part : PartState
    part = s.part r

    -- the runner enters, and forgets its look
    entering : Steps m l rs s s' r kinds.EnterAgain → Goes s s' old
    entering step =
        let none = no_run s s' r kinds.EnterAgain step known refl in
        let asked = enter_again_asked part step.ask (outside_of m l rs s r kinds.EnterAgain step.ask none step.asked) in
        let settled = old.looks.settled r asked.2 in
        looks_anew s s' r kinds.EnterAgain step known (λ t d is. absurd (cc)) refl old (upd core.history.look r None)
        (steps_keep m laws l limits c refl requests refl (with_history m laws l limits rs (states_of core.beside s) core.history) (steps.Forget r) settled core.joined)
        (event_passes requests core.history (history.Forget r) tt)
        (λ i ne. upd_other core.history.look r i None ne) settled
        (λ v seen x at. some_none x (sym (ap (λ (y : ReadsState). y.look) (leaves_so m l rs s s' r kinds.EnterAgain step none refl).reads) ∙ at))
        (λ between. ap history_states.is_replied (upd_same core.history.look r r None refl))
        (λ seen at. some_none seen (sym (upd_same core.history.look r r None refl) ∙ at))

    -- it announces a read
    planning : (t : Thunk) → Steps m l rs s s' r (kinds.ReadPlan t) → Goes s s' old
    planning t step =
        let none = no_run s s' r (kinds.ReadPlan t) step known refl in
        let asked = read_plan_asked r t part step.ask (outside_of m l rs s r (kinds.ReadPlan t) step.ask none step.asked) in
        let on = (planned_on m l rs s s' r t step none).0 in
        looks_anew s s' r (kinds.ReadPlan t) step known (λ t' d is. absurd (cc)) refl old core.history.look core.joined
        (passes_nowhere core.history) (λ i ne. refl) (old.looks.settled r (ap is_between asked.unlooked))
        (λ v seen x at. subst (LookIsKept m l rs s' v r (s'.part r)) (some_same (plan_by t) x (sym on.look_is ∙ at)) (record {
          walked = omega arith;
          known = omega arith;
          looked = λ stage fit. absurd (let z = stage in cc);
          replied = λ stage. absurd (let z = stage in cc);
        }))
        (λ between. old.looks.settled r (ap is_between asked.unlooked))
        (λ seen at. let h = old.looks.only r seen at in some_none h.look (sym asked.unlooked ∙ h.looked))

    -- it loads the clock for its read
    module _ (step : Steps m l rs s s' r kinds.ReadClock) where
      none_c : part.run ≡ None
      none_c = no_run s s' r kinds.ReadClock step known refl

      asked_c : ClockAsked part step.ask
      asked_c = read_clock_asked part step.ask (outside_of m l rs s r kinds.ReadClock step.ask none_c step.asked)

      abbrev x : Look
      x = asked_c.look

      abbrev now : Look
      now = look_by x.thunk part (s.word step.ask.0)

      on_c : ReadsOn m l rs s s' r (Some now)
      on_c = (looked_on m l rs s s' r step none_c x asked_c.at).0

      known_c : (s'.part r).records.known ≡ part.records.known
      known_c = (looked_on m l rs s s' r step none_c x asked_c.at).1

      fit_c : is_fit m l rs r now (s'.part r).records.known (s'.part r).reads.walk ≡ is_fit m l rs r now part.records.known part.reads.walk
      fit_c = λ i. is_fit m l rs r now (known_c i) (on_c.walk i)

      settled_c : history_states.is_replied (core.history.look r) ≡ false
      settled_c = old.looks.settled r (ap is_between asked_c.at ∙ planned_between x.stage asked_c.planned)

      quiet_c : PublishesNothing m l rs s s' r kinds.ReadClock step
      quiet_c t d is = absurd (cc)

      -- the look is kept where it is seen, or came too late, if it is a read
      kept_c : (v : HistoryState) → (is_fit m l rs r now part.records.known part.reads.walk ≡ true → HasSeen m v r now false ⊎ CameLate s' (s'.part r) now)
          → (y : Look) → (s'.part r).reads.look ≡ Some y → LookIsKept m l rs s' v r (s'.part r) y
      kept_c v there y at = subst (LookIsKept m l rs s' v r (s'.part r)) (some_same now y (sym on_c.look_is ∙ at)) (record {
        walked = le_of_eq (sym (ap length on_c.walk));
        known = le_of_eq (sym (ap length known_c));
        looked = λ stage fit. there (sym fit_c ∙ fit);
        replied = λ stage. absurd (let z = stage in cc);
      })

      -- the history sees nothing
      unseen : (is_fit m l rs r now part.records.known part.reads.walk ≡ true → CameLate s' (s'.part r) now) → Goes s s' old
      unseen late = looks_anew s s' r kinds.ReadClock step known quiet_c refl old core.history.look core.joined (passes_nowhere core.history) (λ i ne. refl) settled_c
          (λ v seen. kept_c v (λ fit. inr (late fit)))
          (λ between. settled_c)
          (λ seen at.
          let h = old.looks.only r seen at in
          let same = some_same x h.look (sym asked_c.at ∙ h.looked) in
          absurd (not_begun x.stage asked_c.planned (subst (λ (y : Look). (is_looked y.stage ≡ true) ⊎ (is_replied y.stage ≡ true)) (sym same) h.begun)))

      clock_is : core.history.clock ≡ s.word step.ask.0
      clock_is = core.joined.tied.clock ∙ (core.whole.sections.words.clock ∙ ap (λ (y : Spot × Access). s.word y.0) asked_c.is)

      -- the history sees the look
      seen_now : (fit : is_fit m l rs r now part.records.known part.reads.walk ≡ true) → s.word (Cell x.thunk.lock) ≡ x.thunk.word → Goes s s' old
      seen_now fit here =
          let answer = reply_in (m.body x.thunk) in
          let seen = history.seen_by requests core.history r x.thunk.request answer in
          let may = may_look m l rs allowed core.beside s core.history core.whole core.kept r now asked_c.entry asked_c.entered refl refl fit core.walks here settled_c in
          let there = upd_same core.history.look r r (Some seen) refl in
          looks_anew s s' r kinds.ReadClock step known quiet_c refl old (upd core.history.look r (Some seen))
          (steps_keep m laws l limits c refl requests refl (with_history m laws l limits rs (states_of core.beside s) core.history)
          (steps.Look r may.0 x.thunk answer) may.1 core.joined)
          (event_passes requests core.history (history.Look r x.thunk.request answer) tt)
          (λ i ne. upd_other core.history.look r i (Some seen) ne) settled_c
          (λ v at. kept_c v (λ fit. inl (record {
            seen = seen;
            looked = at ∙ there;
            number = refl;
            clock = clock_is;
            answer = refl;
            written = refl;
          })))
          (λ between. ap history_states.is_replied there)
          (λ other at. record { look = now; looked = on_c.look_is; request = ap (λ (y : Seen). y.number) (same_seen_is seen other (sym there ∙ at)); begun = inl refl })
        where
          same_seen_is : (a b : Seen) → Some a ≡ Some b → a ≡ b
          same_seen_is a b e = cc

      past_c : (fit : is_fit m l rs r now part.records.known part.reads.walk ≡ true) → s.word (Cell x.thunk.lock) ≢ x.thunk.word → CameLate s' (s'.part r) now
      past_c fit other = record {
        past = past_on m l rs s s' (rise s s' r kinds.ReadClock step known core) core.history core.history x.thunk.lock x.thunk.word
            (lock_past m l rs allowed core.beside s core.history core.whole core.kept r now asked_c.entry asked_c.entered refl refl fit other);
        unread = ap (λ (xs : List (ℕ × ℕ)). has_pair xs x.thunk.lock x.thunk.word)
            (drop_all (length part.reads.walk) (s'.part r).reads.walk (le_of_eq (ap length on_c.walk)));
      }

      clocking : Goes s s' old
      clocking = by (is_fit m l rs r now part.records.known part.reads.walk) refl
        where
          by : (b : Bool) → is_fit m l rs r now part.records.known part.reads.walk ≡ b → Goes s s' old
          by false not = unseen (λ fit. absurd (let clash : true ≡ false = sym fit ∙ not in cc))
          by true fit = ⊎_elim (λ here. seen_now fit here) (λ other. unseen (λ again. past_c fit other))
              (cases_eq (s.word (Cell x.thunk.lock)) x.thunk.word)

    -- it writes the reply of its read
    module _ (step : Steps m l rs s s' r kinds.ReadReply) where
      none_r : part.run ≡ None
      none_r = no_run s s' r kinds.ReadReply step known refl

      asked_r : ReplyAsked m l rs r part step.ask
      asked_r = read_reply_asked m l rs r part step.ask (outside_of m l rs s r kinds.ReadReply step.ask none_r step.asked)

      abbrev y : Look
      y = asked_r.look

      abbrev reply : ℕ
      reply = reply_in (m.body y.thunk)

      quiet_r : PublishesNothing m l rs s s' r kinds.ReadReply step
      quiet_r t d is = absurd (cc)

      on_r : ReadsOn m l rs s s' r (Some (record y { stage = Replied }))
      on_r = (replied_on m l rs s s' r step none_r y asked_r.at (fit_answers m l rs r y part.records.known part.reads.walk asked_r.fit)).0

      told_r : knows (s'.part r).records.known y.thunk.request true ≡ true
      told_r = (replied_on m l rs s s' r step none_r y asked_r.at (fit_answers m l rs r y part.records.known part.reads.walk asked_r.fit)).1

      was_kept : LookIsKept m l rs s core.history r part y
      was_kept = old.looks.kept r y asked_r.at asked_r.entry asked_r.entered

      -- the lock was read again with its word, so the history has seen the look
      seen_r : HasSeen m core.history r y false
      seen_r = ⊎_elim (λ seen. seen)
          (λ late. absurd (let clash : true ≡ false = sym (and_parts (length (drop y.walked part.reads.walk) == 1) _ asked_r.again).1 ∙ late.unread in cc))
          (was_kept.looked asked_r.looked asked_r.fit)

      may_reply : MayReply m l c requests (with_history m laws l limits rs (states_of core.beside s) core.history) r y.thunk.request reply
      may_reply = record {
        seen = seen_r.seen;
        looked = seen_r.looked;
        number = seen_r.number;
        answer = seen_r.answer;
        unreplied = seen_r.written;
        idle = core.kept.published r ∙ ap link_of asked_r.unpublished;
        unknown = core.kept.known r y.thunk.request ∙ (ap (λ (xs : List Known). is_answered xs y.thunk.request) (sym known_all)
            ∙ unanswered m l rs allowed.in_order r y.thunk (take y.known part.records.known) (next m l rs r y part.records.known part.reads.walk asked_r.fit));
      }
        where
          known_all : take y.known part.records.known ≡ part.records.known
          known_all = ap (λ k. take k part.records.known) (sym asked_r.knows) ∙ take-length part.records.known

      abbrev event_r : agreement.Event
      event_r = agreement.ReadReply y.thunk.request reply

      -- the history behind the reply
      abbrev replied : HistoryState
      replied = record (core.history) {
        reply = upd core.history.reply seen_r.seen.number (written_once (core.history.reply seen_r.seen.number) seen_r.seen.answer);
        look = upd core.history.look r (Some (record (seen_r.seen) { replied = true }));
      }

      replied_is : history.after requests core.history (history.ReadReply r) ≡ replied
      replied_is = ap (history.replied_by requests core.history r) seen_r.looked

      abbrev behind_r : States
      behind_r = scenes.after m l c (states_of core.beside s) (scenes.Agreement event_r)

      joined_r : IsJoined m l c requests (with_history m laws l limits rs behind_r replied)
      joined_r = subst (λ (v : HistoryState). IsJoined m l c requests (with_history m laws l limits rs behind_r v)) replied_is
          (steps_keep m laws l limits c refl requests refl (with_history m laws l limits rs (states_of core.beside s) core.history)
          (steps.ReadReply r y.thunk.request reply) may_reply core.joined)

      module _ (goes : GoesByReading m l core.beside s r kinds.ReadReply (s.word (one m laws l limits rs allowed s s' r kinds.ReadReply step known core).ask.0)
          (states_of (stands.g' m laws l limits rs allowed s s' r kinds.ReadReply step known core) s')) where
        event_is : goes.event ≡ event_r
        event_is = same_head goes.event event_r (goes.chunk.2
            ∙ ap (λ (z : Look). agreement.ReadReply z.thunk.request (reply_in (m.body z.thunk)) ∷ []) (some_same goes.chunk.0 y (sym goes.chunk.1 ∙ asked_r.at)))

        walks_r : WalksStand m behind_r
        walks_r = walks_after m laws l limits c (states_of core.beside s) core.joined.kept core.walks (scenes.Agreement event_r)
            (refl, subst (λ (v : agreement.Event). agreement.Enabled (rules_of m l) core.beside.agreement v) event_is goes.enabled)

        passed_r : JointSteps m l behind_r (states_of (stands.g' m laws l limits rs allowed s s' r kinds.ReadReply step known core) s')
        passed_r = subst (λ (v : agreement.Event). JointSteps m l (scenes.after m l c (states_of core.beside s) (scenes.Agreement v))
            (states_of (stands.g' m laws l limits rs allowed s s' r kinds.ReadReply step known core) s')) event_is goes.passed

        passes_r : Passes core.history replied
        passes_r = subst (Passes core.history) replied_is (event_passes requests core.history (history.ReadReply r) tt)

        went_r : ReadsTo m laws l limits rs allowed s' core.history replied
        went_r = reads_to m laws l limits rs allowed s s' r kinds.ReadReply step known core none_r quiet_r asked_r.unpublished behind_r passed_r replied
            joined_r walks_r refl refl refl refl refl (λ n ne. refl) passes_r
            (known_same m laws l limits rs allowed s s' r kinds.ReadReply step known core none_r quiet_r asked_r.unpublished behind_r passed_r replied
            joined_r walks_r refl refl refl refl refl (λ n ne. refl) passes_r refl)

        abbrev history_r : HistoryState
        history_r = went_r.to.history

        look_r : history_r.look ≡ replied.look
        look_r = went_r.look

        there_r : history_r.look r ≡ Some (record (seen_r.seen) { replied = true })
        there_r = ap (λ (h : ℕ → Option Seen). h r) look_r ∙ upd_same core.history.look r r (Some (record (seen_r.seen) { replied = true })) refl

        known_longer : y.known ≤ length (s'.part r).records.known
        known_longer = let more = (own m l rs core.beside s s' r kinds.ReadReply core.whole step quiet_r).appends in
            subst (λ (xs : List Known). y.known ≤ length xs) (sym more.1) (longer y.known part.records.known more.0 was_kept.known)

        kept_r : (x' : Look) → (s'.part r).reads.look ≡ Some x' → LookIsKept m l rs s' history_r r (s'.part r) x'
        kept_r x' at = subst (LookIsKept m l rs s' history_r r (s'.part r)) (some_same (record y { stage = Replied }) x' (sym on_r.look_is ∙ at)) (record {
          walked = subst (λ (xs : List (ℕ × ℕ)). y.walked ≤ length xs) (sym on_r.walk) was_kept.walked;
          known = known_longer;
          looked = λ stage fit. absurd (let z = stage in cc);
          replied = λ stage. record {
            seen = record {
              seen = record (seen_r.seen) { replied = true };
              looked = there_r;
              number = seen_r.number;
              clock = seen_r.clock;
              answer = seen_r.answer;
              written = refl;
            };
            told = told_r;
            unpublished = on_r.published ∙ asked_r.unpublished;
          };
        })

        replying_by : Goes s s' old
        replying_by = record {
          to = record {
            core = went_r.to;
            looks = one_new m l rs s s' (rise s s' r kinds.ReadReply step known core) core.history history_r r (elsewhere s s' r kinds.ReadReply step known core quiet_r)
                (λ i ne. ap (λ (h : ℕ → Option Seen). h i) look_r ∙ upd_other core.history.look r i (Some (record (seen_r.seen) { replied = true })) ne)
                (λ x' at g isin. kept_r x' at)
                (λ between. absurd (let clash : true ≡ false = sym (ap is_between on_r.look_is) ∙ between in cc))
                (λ seen at. record {
                  look = record y { stage = Replied };
                  looked = on_r.look_is;
                  request = sym seen_r.number ∙ ap (λ (z : Seen). z.number) (some_seen (record (seen_r.seen) { replied = true }) seen (sym there_r ∙ at));
                  begun = inr refl;
                }) old.looks;
          };
          passes = went_r.passes;
          lows = lows_same requests core.history history_r went_r.passes
              (λ i was. ap (λ (h : ℕ → Option Seen). h i) look_r ∙ upd_other core.history.look r i (Some (record (seen_r.seen) { replied = true }))
              (λ mine. absurd (let clash : true ≡ false = sym was ∙ (ap (λ k. history_states.is_replied (core.history.look k)) mine
              ∙ (ap history_states.is_replied seen_r.looked ∙ seen_r.written)) in cc)));
        }
          where
            some_seen : (a b : Seen) → Some a ≡ Some b → a ≡ b
            some_seen a b e = cc

      replying : Goes s s' old
      replying = ⊎_elim (λ quiet. absurd (let clash : true ≡ false = quiet.apart in cc))
          (λ more. ⊎_elim (λ goes. absurd (let z = goes.kind_is in cc)) (λ reading. replying_by reading) more)
          (one m laws l limits rs allowed s s' r kinds.ReadReply step known core).goes

    -- and its stamp
    module _ (step : Steps m l rs s s' r kinds.ReadStamp) where
      none_s : part.run ≡ None
      none_s = no_run s s' r kinds.ReadStamp step known refl

      asked_s : StampAsked part step.ask
      asked_s = read_stamp_asked part step.ask (outside_of m l rs s r kinds.ReadStamp step.ask none_s step.asked)

      abbrev z : Look
      z = asked_s.look

      abbrev stamp : ℕ
      stamp = read_stamp_after z.clock

      quiet_s : PublishesNothing m l rs s s' r kinds.ReadStamp step
      quiet_s t d is = absurd (cc)

      on_s : ReadsOn m l rs s s' r (Some (record z { stage = Stamped }))
      on_s = (stamped_on m l rs s s' r step none_s z asked_s.at asked_s.clock).0

      was_stamped : LookIsKept m l rs s core.history r part z
      was_stamped = old.looks.kept r z asked_s.at asked_s.entry asked_s.entered

      had : HasReplied m core.history r part z
      had = was_stamped.replied asked_s.replied

      abbrev seen_s : Seen
      seen_s = had.seen.seen

      may_stamp : MayStamp m l c requests (with_history m laws l limits rs (states_of core.beside s) core.history) r z.thunk.request stamp
      may_stamp = record {
        seen = seen_s;
        looked = had.seen.looked;
        number = had.seen.number;
        stamps = ap read_stamp_by had.seen.clock;
        replied = had.seen.written;
      }

      abbrev event_s : agreement.Event
      event_s = agreement.ReadStamp z.thunk.request stamp

      abbrev stamped : HistoryState
      stamped = history.read requests core.history r seen_s

      unstamped_s : core.history.stamp seen_s.number ≡ 0
      unstamped_s = ((core.joined.sound.reads.looks r seen_s had.seen.looked).between had.seen.written).unstamped

      stamped_is : history.after requests core.history (history.ReadStamp r) ≡ stamped
      stamped_is = ap (history.read_by requests core.history r) had.seen.looked
          ∙ ap (λ (b : Bool). cond b stamped core.history) (is_zero (core.history.stamp seen_s.number) unstamped_s)
        where
          is_zero : (n : ℕ) → n ≡ 0 → (n == 0) ≡ true
          is_zero n e = grind (arith, nat_tests)

      abbrev behind_s : States
      behind_s = scenes.after m l c (states_of core.beside s) (scenes.Agreement event_s)

      joined_s : IsJoined m l c requests (with_history m laws l limits rs behind_s stamped)
      joined_s = subst (λ (v : HistoryState). IsJoined m l c requests (with_history m laws l limits rs behind_s v)) stamped_is
          (steps_keep m laws l limits c refl requests refl (with_history m laws l limits rs (states_of core.beside s) core.history)
          (steps.ReadStamp r z.thunk.request stamp) may_stamp core.joined)

      -- the stamps of other workers' requests stay
      stamps_s : (n : ℕ) → requests.worker n ≢ r → stamped.stamp n ≡ core.history.stamp n
      stamps_s n ne = upd_other core.history.stamp seen_s.number n (read_stamp_by seen_s.clock)
          (λ same. ne (ap requests.worker same ∙ (core.joined.sound.reads.looks r seen_s had.seen.looked).own))

      module _ (goes : GoesByReading m l core.beside s r kinds.ReadStamp (s.word (one m laws l limits rs allowed s s' r kinds.ReadStamp step known core).ask.0)
          (states_of (stands.g' m laws l limits rs allowed s s' r kinds.ReadStamp step known core) s')) where
        event_is_s : goes.event ≡ event_s
        event_is_s = same_head goes.event event_s (goes.chunk.2
            ∙ ap (λ (v : Look). agreement.ReadStamp v.thunk.request (read_stamp_after v.clock) ∷ []) (some_same goes.chunk.0 z (sym goes.chunk.1 ∙ asked_s.at)))

        walks_s : WalksStand m behind_s
        walks_s = walks_after m laws l limits c (states_of core.beside s) core.joined.kept core.walks (scenes.Agreement event_s)
            (refl, subst (λ (v : agreement.Event). agreement.Enabled (rules_of m l) core.beside.agreement v) event_is_s goes.enabled)

        passed_s : JointSteps m l behind_s (states_of (stands.g' m laws l limits rs allowed s s' r kinds.ReadStamp step known core) s')
        passed_s = subst (λ (v : agreement.Event). JointSteps m l (scenes.after m l c (states_of core.beside s) (scenes.Agreement v))
            (states_of (stands.g' m laws l limits rs allowed s s' r kinds.ReadStamp step known core) s')) event_is_s goes.passed

        passes_s : Passes core.history stamped
        passes_s = subst (Passes core.history) stamped_is (event_passes requests core.history (history.ReadStamp r) tt)

        known_both : is_answered (s'.part r).records.known seen_s.number ≡ true
        known_both = ap (is_answered (s'.part r).records.known) had.seen.number
            ∙ both (knows (s'.part r).records.known z.thunk.request false) (knows (s'.part r).records.known z.thunk.request true)
            (stamped_on m l rs s s' r step none_s z asked_s.at asked_s.clock).1
            ((own m l rs core.beside s s' r kinds.ReadStamp core.whole step quiet_s).grows z.thunk.request true had.told)
          where
            both : (a b : Bool) → a ≡ true → b ≡ true → (a && b) ≡ true
            both true true e f = refl
            both true false e f = f
            both false b e f = e

        went_s : ReadsTo m laws l limits rs allowed s' core.history stamped
        went_s = reads_to m laws l limits rs allowed s s' r kinds.ReadStamp step known core none_s quiet_s had.unpublished behind_s passed_s stamped
            joined_s walks_s refl refl refl refl refl stamps_s passes_s
            (known_more m laws l limits rs allowed s s' r kinds.ReadStamp step known core none_s quiet_s had.unpublished behind_s passed_s stamped
            joined_s walks_s refl refl refl refl refl stamps_s passes_s seen_s.number refl known_both)

        abbrev history_s : HistoryState
        history_s = went_s.to.history

        look_s : history_s.look ≡ stamped.look
        look_s = went_s.look

        there_s : history_s.look r ≡ None
        there_s = ap (λ (h : ℕ → Option Seen). h r) look_s ∙ upd_same core.history.look r r None refl

        kept_s : (x' : Look) → (s'.part r).reads.look ≡ Some x' → LookIsKept m l rs s' history_s r (s'.part r) x'
        kept_s x' at = subst (LookIsKept m l rs s' history_s r (s'.part r)) (some_same (record z { stage = Stamped }) x' (sym on_s.look_is ∙ at)) (record {
          walked = subst (λ (xs : List (ℕ × ℕ)). z.walked ≤ length xs) (sym on_s.walk) was_stamped.walked;
          known = let more = (own m l rs core.beside s s' r kinds.ReadStamp core.whole step quiet_s).appends in
              subst (λ (xs : List Known). z.known ≤ length xs) (sym more.1) (longer z.known part.records.known more.0 was_stamped.known);
          looked = λ stage fit. absurd (let v = stage in cc);
          replied = λ stage. absurd (let v = stage in cc);
        })

        stamping_by : Goes s s' old
        stamping_by = record {
          to = record {
            core = went_s.to;
            looks = one_new m l rs s s' (rise s s' r kinds.ReadStamp step known core) core.history history_s r (elsewhere s s' r kinds.ReadStamp step known core quiet_s)
                (λ i ne. ap (λ (h : ℕ → Option Seen). h i) look_s ∙ upd_other core.history.look r i None ne)
                (λ x' at g isin. kept_s x' at)
                (λ between. ap history_states.is_replied there_s)
                (λ seen at. some_none seen (sym there_s ∙ at)) old.looks;
          };
          passes = went_s.passes;
          lows = λ k clock low. ⊎_elim
              (λ was. let still = went_s.passes.stamps k was.0 in inl (subst (λ n. (n ≢ 0) × (n / 2 ≤ clock)) (sym still) was))
              (λ coming. ⊎_elim
              (λ mine. its k clock coming mine)
              (λ ne. inr (record {
                seen = coming.seen;
                looked = ap (λ (h : ℕ → Option Seen). h (requests.worker k)) look_s ∙ (upd_other core.history.look r (requests.worker k) None ne ∙ coming.looked);
                replied = coming.replied;
                number = coming.number;
                low = coming.low;
              }))
              (cases_eq (requests.worker k) r))
              low;
        }
          where
            one_seen : (a b : Seen) → Some a ≡ Some b → a ≡ b
            one_seen a b e = cc

            some_odd : (n k : ℕ) → n ≡ 2 * k + 1 → n ≢ 0
            some_odd n k is none = omega arith

            half_odd : (n k clock : ℕ) → n ≡ 2 * k + 1 → k ≤ clock → n / 2 ≤ clock
            half_odd n k clock is low = omega arith

            its : (k clock : ℕ) → IsToCome requests k clock core.history → requests.worker k ≡ r → IsLow requests k clock history_s
            its k clock coming mine =
                let same = one_seen coming.seen seen_s (sym coming.looked ∙ (ap core.history.look mine ∙ had.seen.looked)) in
                let number : seen_s.number ≡ k = ap (λ (v : Seen). v.number) (sym same) ∙ coming.number in
                let low : seen_s.clock ≤ clock = subst (λ (v : Seen). v.clock ≤ clock) same coming.low in
                let now : stamped.stamp k ≡ 2 * seen_s.clock + 1 = upd_same core.history.stamp seen_s.number k (read_stamp_by seen_s.clock) (sym number) in
                let there = went_s.on.stamps k (some_odd (stamped.stamp k) seen_s.clock now) ∙ now in
                inl (some_odd (history_s.stamp k) seen_s.clock there, half_odd (history_s.stamp k) seen_s.clock clock there low)

      stamping : Goes s s' old
      stamping = ⊎_elim (λ quiet. absurd (let clash : true ≡ false = quiet.apart in cc))
          (λ more. ⊎_elim (λ goes. absurd (let v = goes.kind_is in cc)) (λ reading. stamping_by reading) more)
          (one m laws l limits rs allowed s s' r kinds.ReadStamp step known core).goes

  -- each step
  pub step_goes : (s s' : Sight) (r : ℕ) (kind : EventKind) → Steps m l rs s s' r kind → KnownStand s' → (old : StandsSeen s) → Goes s s' old
  step_goes s s' r kinds.EnterAgain step known old = entering s s' r known old step
  step_goes s s' r (kinds.ReadPlan t) step known old = planning s s' r known old t step
  step_goes s s' r kinds.ReadClock step known old = clocking s s' r known old step
  step_goes s s' r kinds.ReadReply step known old = replying s s' r known old step
  step_goes s s' r kinds.ReadStamp step known old = stamping s s' r known old step
  step_goes s s' r kind step known old = plain s s' r kind step known refl old
