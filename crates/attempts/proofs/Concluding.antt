-- The end of an attempt's own section.
use Rattle.std.specs.Prelude.{true, false, slice_get}
use Rattle.std.proofs.Common.{◌≡◌, ◌≢◌, ℕ, suc, ◌+◌, ◌-◌, ◌<◌, ◌≤◌, List, length, refl, sym, ap, ◌∙◌, subst, arith, inr, Some, None}
use Rattle.std.proofs.lemmas.Bool.{true≢false}
use Rattle.machine_states.specs.map_history.specs.declared.op.Request.{Request}
use Rattle.machine_states.specs.map_history.specs.declared.reply.Reply.{Reply}
use Rattle.machine_states.specs.body_terms.specs.Trail.{Agreed}
use Rattle.machine_states.specs.body_terms.specs.Line.{line, micro_at}
use Rattle.machine_states.specs.body_terms.specs.Run.{leaves}
use Rattle.machine_states.specs.body_terms.specs.Word.{value_of}
use Rattle.machine_states.specs.body_terms.specs.declared.outcome.Outcome.{Outcome}
use Rattle.machine_states.specs.body_terms.specs.declared.outcome.Outcome.TheVariants as outcomes
use Rattle.machine_states.specs.body_terms.specs.declared.thunk.Thunk.{Thunk}
use Rattle.machine_states.specs.table_words.specs.declared.layout.Layout.{Layout}
use Rattle.machine_states.specs.table_words.specs.Limits.{IsWithinLimits}
use Rattle.machine_states.specs.table_words.specs.Places.{descriptor_count}
use Rattle.runner_gate.specs.Asks.{Asks}
use Rattle.machine_states.specs.structure_laws.specs.Meaning.{Meaning}
use Rattle.machine_states.specs.structure_laws.specs.Laws.{Laws}
use Rattle.machine_states.specs.structure_laws.specs.Shape.{Shaped}
use Rattle.machine_states.specs.runner_parts.specs.declared.event.EventKind.TheVariants as kinds
use Rattle.machine_states.specs.runner_parts.specs.State.{NodesState, PartState, ReadsState}
use Rattle.machine_states.specs.runner_parts.specs.Tests.{has_pair, is_answered}
use Rattle.machine_states.specs.runner_steps.specs.Sections.{setting_of}
use Rattle.machine_states.specs.World.{World}
use Rattle.machine_states.specs.Reached.{Reached}
use Rattle.machine_states.specs.Sight.{sight, part_or_first}
use Rattle.machine_facts.specs.machine_invariant.specs.After.{AreAllowed}
use Rattle.lock_words.specs.Stale.{StaleStand}
use Rattle.lock_words.specs.Taken.{HasLeftBy, WasHeld, TakenStand}
use Rattle.version_words.specs.RunnerState.{RunnerState}
use Rattle.version_words.specs.TableState.{TableState, IsOf}
use Rattle.version_words.specs.Events.{IsMade}
use Rattle.caller_facts.specs.lock_walks.specs.runner_facts.specs.next_steps.specs.Rooms.{cell_count}
use Rattle.caller_facts.specs.epoch_slots.specs.Entries.{KeepsOwn, HasLeave}
use Rattle.caller_facts.specs.section_runs.specs.commit_log.proofs.Asked.{asked_none}
use Rattle.caller_facts.specs.section_runs.specs.Bodies.{body_blocks}
use Rattle.caller_facts.specs.section_runs.proofs.Blocks.{run_few}
use Rattle.caller_facts.specs.try_lock.specs.declared.section.Section.{Section}
use Rattle.caller_facts.specs.try_lock.specs.declared.planned.Planned.TheVariants as plans
use Rattle.caller_facts.specs.try_lock.specs.Planning.{Planning}
use Rattle.caller_facts.specs.try_lock.specs.Watches.{MayWatch}
use Rattle.caller_facts.specs.try_lock.proofs.Guarding.{guard_keeps}
use Rattle.caller_facts.specs.lock_walks.proofs.Each.{get_last}
use Rattle.caller_facts.specs.Knowing.{IsFront, KnowsMore, IsStill, IsOwn}
use Rattle.caller_facts.specs.lock_walks.specs.Wants.{WantsWereRead}
use Rattle.attempts.specs.Course.{of_outcome, IsEmptyHanded, HasEnded, HasRun, SectionHasLeft}
use Rattle.caller_facts.specs.Asking.{WasRead}
use Rattle.attempts.specs.Attempts.{IsServed}
use Rattle.attempts.specs.Rests.{MayLeave, MayLetGo, MayLearn, HasLearnt, HasTurned, Rests}
use Rattle.attempts.specs.declared.answers.Attempt.{Attempt}
use Rattle.attempts.specs.declared.answers.Attempt.TheVariants as answers
use Rattle.caller_facts.proofs.Knowing.{front_same, front_on, knows_same, knows_on, own_on, no_other_on, no_other_same}
use Rattle.caller_facts.specs.try_lock.proofs.Blocks.{for_other}
use Rattle.attempts.proofs.Leaving.{ended_hand}
use Rattle.caller_facts.proofs.Counting.{counted_steps}
use Rattle.attempts.proofs.LettingGo.{gone_leave, gone_hand}
use Rattle.attempts.proofs.Courses.{planned_reads, ended_go}
use Rattle.attempts.proofs.Held.{read_within}
use Rattle.caller_facts.proofs.Standing.{may_own, may_unknown}
use Rattle.attempts.proofs.Turning.{turned_rests}
use Rattle.attempts.proofs.Trying.{rests_from_still}
use Rattle.attempts.proofs.Expected.{stale_outcome, section_stale, busy_read}
use Rattle.caller_facts.proofs.Shapes.{allowed_at}
use Rattle.attempts.proofs.Locks.{planned_shaped}
use Rattle.attempts.proofs.Refusing.{left_busy, refusal_of_outcome, busy_outcome}
use Rattle.attempts.proofs.Along.{ran_back}
use Rattle.attempts.proofs.Telling.{IsAtEnd, end_quiet, ended_end, left_known, left_is}
use Rattle.attempts.proofs.Stamps.{own_stamp_above, own_stamp_even}
use Rattle.attempts.proofs.RealTime.{above_answered}

module _ {T : Type 0} (m : Meaning) (laws : Laws m) (t : TableState T) (limits : IsWithinLimits t.layout) (allowed : AreAllowed t.requests)
    (planning : Planning) (request : Request) (section : Section) (thunk : Thunk) (outcome : Outcome) (trail : Agreed) (old ran : RunnerState T)
    (own_ran : IsOf t ran) (is : HasEnded m planning request section thunk outcome trail old ran) where
  pub request_same : thunk.request ≡ request.number
  request_same = is.tries.plans.answers.request

  opened_own : IsOf t is.ends.opened
  opened_own = ran_back m t is.ends.count is.ends.opened ran is.ends.ran own_ran

  requests_old : old.requests ≡ t.requests
  requests_old = sym is.tries.still.requests ∙ (sym is.ends.opening.stays.requests ∙ opened_own.requests)

  layout_old : old.layout ≡ t.layout
  layout_old = sym is.tries.still.layout ∙ (sym is.ends.layout ∙ own_ran.layout)

  ran_hand : IsEmptyHanded ran
  ran_hand = ended_hand m section.descriptor thunk outcome trail is.made is.published ran is.ends is.tries.hand

  -- so many steps were counted to the run's end
  abbrev counted : ℕ
  counted = length is.tries.readings + is.made

  -- it lets its guard go
  module _ (gone : RunnerState T) (own_gone : IsOf t gone) (goes : IsMade m (kinds.Guard None) ran gone) where
    go : MayLetGo ran
    go = ended_go m planning request old section thunk outcome trail ran is

    hand : IsEmptyHanded gone
    hand = gone_hand m goes.found ran gone goes.event go ran_hand

    leave : HasLeave gone
    leave = gone_leave m goes.found ran gone goes.event go

    kept : KeepsOwn ran gone
    kept = guard_keeps m None goes.found ran gone goes.event go.at.resting

    abbrev run : HasRun m planning request thunk outcome trail old gone
    run = record { section = section; ran = ran; ended = is; lets_go = goes }

    there : slice_get gone.requests request.number ≡ Some request
    there = ap (λ rs. slice_get rs request.number) (own_gone.requests ∙ sym requests_old) ∙ is.tries.plans.enters.may.there

    -- it answered
    module _ (answer : ℕ) (answered : outcome ≡ outcomes.Answered answer) where
      told : is_answered ran.part.records.known request.number ≡ true
      told = subst (λ n. is_answered ran.part.records.known n ≡ true) request_same (is.ends.told answer answered)

      pub may_learn : MayLearn m request gone
      may_learn = record { leave = leave; hand = hand; there = there; knows = ap (λ xs. is_answered xs request.number) kept.known ∙ told }

      module _ (reply : Reply) (stamp : ℕ) (new : RunnerState T) (own_new : IsOf t new) (learnt : HasLearnt m request reply stamp gone new) where
        whole : KnowsMore ran new
        whole = knows_on ran gone new (knows_same ran gone kept.number kept.known kept.finished) learnt.knows

        -- the own run, with its answer, in as many steps
        abbrev Answering : Outcome → Type 0
        Answering o = (r : HasRun m planning request thunk o trail old gone) × (counted ≡ length r.ended.tries.readings + r.ended.made)

        answering : Answering (outcomes.Answered answer)
        answering = subst Answering answered (run, refl)

        -- its last step, by which nothing was told
        end : IsAtEnd m laws t limits allowed is.published ran own_ran section.descriptor thunk
        end = ended_end m laws t limits allowed is.published ran own_ran section.descriptor thunk outcome trail is.made is.ends

        quiet : ran.part.records.known ≡ end.last.before.part.records.known
        quiet = end_quiet m laws t limits allowed is.published ran own_ran section.descriptor thunk end

        told_before : is_answered end.last.before.part.records.known request.number ≡ true
        told_before = ap (λ xs. is_answered xs request.number) (sym quiet) ∙ told

        front : IsFront end.last.before.part.records.known new.part.records.known
        front = front_on end.last.before.part.records.known ran.part.records.known new.part.records.known
            (front_same end.last.before.part.records.known ran.part.records.known quiet) whole.known

        abbrev served : IsServed m planning request reply stamp old new
        served = record {
          thunk = thunk;
          trail = trail;
          unguarded = gone;
          answer = answer;
          run = answering.0;
          leaves = learnt.leaves;
          knows_stamp = learnt.knows_stamp;
          knows_reply = learnt.knows_reply;
          above = own_stamp_above m laws t limits allowed planning request thunk section old is.published is.tries ran thunk end.last told_before
              new own_new front learnt.reached stamp learnt.knows_stamp;
          in_time = above_answered m laws planning request old new (subst IsWithinLimits (sym layout_old) limits) (subst AreAllowed (sym requests_old) allowed)
              is.tries.plans.enters.may (own_new.layout ∙ sym layout_old) (own_new.requests ∙ sym requests_old) stamp learnt.knows_stamp
              (own_stamp_even m laws t limits allowed planning request thunk section old is.published is.tries ran thunk end.last told_before
              new own_new front learnt.reached stamp learnt.knows_stamp);
          tidy = learnt.tidy;
          reached = learnt.reached;
          served = learnt.served;
        }

        same_runs : length new.part.records.finished ≡ length ran.part.records.finished
        same_runs = ap length (learnt.finished ∙ kept.finished)

        none_more : length new.part.records.finished ≡ length ran.part.records.finished + 0
        none_more = omega (arith, same_runs)

        no_steps : (n : ℕ) → n + 0 ≡ n
        no_steps n = omega arith

        pub concluded : (Seen : ℕ → Asks → Type 0) (halts : ℕ) (asks : Asks) (steps : ℕ)
            → Rests m planning request true counted 0 (answers.Done reply stamp) old ran new Seen halts halts asks asks steps steps
        concluded Seen halts asks steps = record {
          answers = served;
          knows = whole;
          no_other = no_other_on request.number ran gone new (own_gone.requests ∙ sym own_ran.requests) (own_gone.layout ∙ sym own_ran.layout) kept.number
              (no_other_same request.number ran gone kept.known) (λ q own ne. learnt.no_own q own);
          made = 0;
          made_is = no_steps counted ∙ answering.1;
          published = true;
          published_is = refl;
          late = λ e. refl;
          asked = counted_steps 0 true halts halts asks asks steps steps (asked_none halts asks steps);
          let_go = λ e. absurd (true≢false (sym e));
          entered = refl;
          runs = λ going. none_more;
          few_runs = let more : length new.part.records.finished ≤ length ran.part.records.finished + 1 = omega (arith, same_runs) in more;
          brief = λ none. record {
            few_steps = omega arith;
            few_runs = let more : length new.part.records.finished ≤ length ran.part.records.finished + 0 = omega (arith, same_runs) in more;
          };
        }

    -- it left
    module _ (other : (reply : ℕ) → outcome ≢ outcomes.Answered reply) where
      known_still : gone.part.records.known ≡ old.part.records.known
      known_still = kept.known
          ∙ (left_known m laws t limits allowed is.published ran own_ran section.descriptor thunk outcome trail is.made is.ends other ∙ is.tries.still.known)

      unknown : is_answered gone.part.records.known request.number ≡ false
      unknown = ap (λ xs. is_answered xs request.number) known_still ∙ may_unknown planning request old is.tries.plans.enters.may

      own : IsOwn gone request
      own = own_on old gone (own_gone.requests ∙ sym requests_old) (own_gone.layout ∙ sym layout_old) (kept.number ∙ (is.ends.number ∙ is.tries.still.number))
          request (may_own planning request old is.tries.plans.enters.may)

      -- what is kept of the own run
      abbrev place_kept : ℕ
      place_kept = length is.published.part.records.finished

      run_kept : slice_get ran.part.records.finished place_kept ≡ Some is.ends.finished
      run_kept = ap (λ fs. slice_get fs place_kept) is.ends.kept ∙ get_last is.published.part.records.finished is.ends.finished

      planned_layout : is.tries.planned.layout ≡ t.layout
      planned_layout = is.tries.plans.still.layout ∙ layout_old

      limits_planned : IsWithinLimits is.tries.planned.layout
      limits_planned = subst IsWithinLimits (sym planned_layout) limits

      allowed_planned : AreAllowed is.tries.planned.requests
      allowed_planned = subst AreAllowed (sym (is.tries.plans.still.requests ∙ requests_old)) allowed

      planned_is : Shaped m is.tries.planned.layout is.tries.readings thunk
      planned_is = planned_shaped m laws planning request is.tries.readings thunk old is.tries.planned limits_planned allowed_planned is.tries.plans

      -- since a lock was held
      module _ (place word : ℕ) (named : of_outcome outcome ≡ answers.Busy place word) where
        busy : outcome ≡ outcomes.Busy place word
        busy = busy_outcome outcome place word named

        cause : (at : ℕ) × (leaves (setting_of ran.layout section.descriptor) trail.words (micro_at (line (m.body thunk)) at) ≡ Some (outcomes.Busy place word))
        cause = let at = is.ends.cause other in (at.0, at.1 ∙ ap (λ (o : Outcome). Some o) busy)

        -- the plan had read that lock
        lock_read : (v : ℕ) × (has_pair is.tries.readings place v ≡ true)
        lock_read = busy_read m is.tries.planned.layout is.tries.readings thunk planned_is section.descriptor trail.words place word cause.0
            (subst (λ (l : Layout). leaves (setting_of l section.descriptor) trail.words (micro_at (line (m.body thunk)) cause.0) ≡ Some (outcomes.Busy place word))
            (own_ran.layout ∙ sym planned_layout) cause.1)

        within : place < cell_count m gone.layout
        within = subst (λ (l : Layout). place < cell_count m l) (planned_layout ∙ sym own_gone.layout)
            (read_within m laws is.tries.planned limits_planned allowed_planned is.tries.plans.reached place lock_read.0
            (ap (λ (s : ReadsState). has_pair s.cells place lock_read.0)
            (planned_reads m planning request old is.tries.readings (plans.Thunk thunk) is.tries.planned is.tries.plans) ∙ lock_read.1))

        left_by : (r : RunnerState T) → slice_get r.part.records.finished place_kept ≡ Some is.ends.finished → HasLeftBy r.part place word
        left_by r there = record { at = place_kept; finished = is.ends.finished; kept = there; left = is.ends.same_outcome ∙ busy }

        -- and the word that it met is that of a held lock
        module _ (taken : (w : World) → Reached m t.layout t.requests w → TakenStand m t.layout t.requests w) where
          taken_ran : (w : World) → Reached m ran.layout ran.requests w → TakenStand m ran.layout ran.requests w
          taken_ran = subst (λ (l : Layout). (w : World) → Reached m l ran.requests w → TakenStand m l ran.requests w) (sym own_ran.layout)
              (subst (λ (rs : List Request). (w : World) → Reached m t.layout rs w → TakenStand m t.layout rs w) (sym own_ran.requests) taken)

          held : (d : ℕ) × (value_of word ≡ suc d) × WasHeld m ran.layout ran.requests is.ends.reached.world place word d
          held = (taken_ran is.ends.reached.world is.ends.reached.reached).met ran.number place word
              (subst (λ (p : PartState). HasLeftBy p place word) (sym (ap part_or_first is.ends.reached.own))
              (record { at = place_kept; finished = is.ends.finished; kept = run_kept; left = is.ends.same_outcome ∙ busy }))

          below : (n d : ℕ) → n ≡ suc d → n - 1 ≡ d
          below n d e = omega arith

          pub left_may_watch : MayWatch m place word gone
          left_may_watch = record {
            epoch = leave.epoch;
            at = leave.at;
            lock = held.2.lock;
            within = within;
            names = (left_busy ran.layout section.descriptor trail.words place word (micro_at (line (m.body thunk)) cause.0) cause.1).0;
            few = subst (λ n. n < descriptor_count gone.layout) (sym (below (value_of word) held.0 held.1))
                (subst (λ (l : Layout). held.0 < descriptor_count l) (own_ran.layout ∙ sym own_gone.layout) held.2.few);
          }

      pub left_may_leave : ((w : World) → Reached m t.layout t.requests w → TakenStand m t.layout t.requests w) → MayLeave m (of_outcome outcome) gone
      left_may_leave taken = record {
        leave = leave;
        hand = hand;
        watch = λ place word named. left_may_watch place word named taken;
        reserve = subst (λ (n : NodesState). 2 ≤ length n.free) (sym (kept.nodes ∙ is.ends.left_nodes other)) is.tries.nodes;
        -- its own run may have linked some blocks before it left
        blocks = (let had = for_other (length is.published.part.blocks.free) (length ran.part.blocks.free) (length is.ends.blocks.won) (body_blocks (m.body thunk))
            is.tries.blocks is.ends.blocks.free is.ends.blocks.few (run_few (m.body thunk) planned_is.shape) in
            let more = kept.blocks in omega (arith, had, more));
        met = λ place word named. inr (left_by place word named gone (ap (λ fs. slice_get fs place_kept) kept.finished ∙ run_kept));
      }

      -- the own section goes by what the plan had read
      module _ (wants : WantsWereRead m)
          (differ : (w : World) → Reached m t.layout t.requests w → StaleStand (sight m t.layout t.requests w)) where
        -- and it found another word
        words_differ : (place expected read : ℕ) → of_outcome outcome ≡ answers.Stale place expected read → expected ≢ read
        words_differ place expected read e =
            (stand is.ends.reached.world is.ends.reached.reached).finished ran.number place_kept place expected read is.ends.finished
            (ap (λ (p : PartState). slice_get p.records.finished place_kept) (ap part_or_first is.ends.reached.own) ∙ run_kept)
            (is.ends.same_outcome ∙ stale_outcome outcome place expected read e)
          where
            stand : (w : World) → Reached m ran.layout ran.requests w → StaleStand (sight m ran.layout ran.requests w)
            stand = subst (λ (l : Layout). (w : World) → Reached m l ran.requests w → StaleStand (sight m l ran.requests w))
                (sym own_ran.layout)
                (subst (λ (rs : List Request). (w : World) → Reached m t.layout rs w → StaleStand (sight m t.layout rs w))
                (sym own_ran.requests) differ)

        was_planned : (place expected read : ℕ) → of_outcome outcome ≡ answers.Stale place expected read
            → WasRead is.tries.readings place expected
        was_planned place expected read e =
            let at = is.ends.cause other in
            section_stale m wants ran.layout (subst IsWithinLimits (sym own_ran.layout) limits) request.op
            (allowed_at old.requests request.number request is.tries.plans.enters.may.there (subst AreAllowed (sym requests_old) allowed).each)
            is.tries.readings thunk
            (ap (λ (l : Layout). m.fits l request.op is.tries.readings thunk) (own_ran.layout ∙ sym layout_old) ∙ is.tries.plans.answers.fits)
            (subst (λ (l : Layout). Shaped m l is.tries.readings thunk) (planned_layout ∙ sym own_ran.layout) planned_is)
            section.descriptor trail.words place expected read at.0
            (at.1 ∙ ap (λ (o : Outcome). Some o) (stale_outcome outcome place expected read e))

        left_stale : (place expected read : ℕ) → of_outcome outcome ≡ answers.Stale place expected read
            → WasRead is.tries.readings place expected × (expected ≢ read)
        left_stale place expected read e = (was_planned place expected read e, words_differ place expected read e)

        abbrev has_left : SectionHasLeft m planning request (of_outcome outcome) old gone
        has_left = record {
          thunk = thunk;
          outcome = outcome;
          left = record {
            trail = trail;
            run = run;
            left = left_is m laws t limits allowed is.published ran own_ran section.descriptor thunk outcome trail is.made is.ends other;
          };
          same = refl;
          stale = left_stale;
        }

        still : IsStill ran gone
        still = record {
          layout = own_gone.layout ∙ sym own_ran.layout;
          requests = own_gone.requests ∙ sym own_ran.requests;
          number = kept.number;
          known = kept.known;
          finished = kept.finished;
        }

        pub left_concluded : (got : Attempt) (new : RunnerState T) → IsOf t new → (Seen : ℕ → Asks → Type 0) (halts halts' : ℕ) (asks asks' : Asks) (steps steps' : ℕ)
            → Seen halts asks → HasTurned m (of_outcome outcome) got gone new halts halts' asks asks' steps steps'
            → Rests m planning request true counted 0 got old ran new Seen halts halts' asks asks' steps steps'
        left_concluded got new own_new Seen halts halts' asks asks' steps steps' seen turned =
            rests_from_still m planning request true counted 0 got old ran gone new Seen halts halts' asks asks' steps steps' still
            (turned_rests m laws planning request old gone new (of_outcome outcome) got (refusal_of_outcome outcome other)
            (inr (inr has_left)) true counted refl refl own unknown
            (subst IsWithinLimits (sym own_new.layout) limits) (subst AreAllowed (sym own_new.requests) allowed)
            (own_new.layout ∙ sym own_gone.layout) (own_new.requests ∙ sym own_gone.requests)
            Seen halts halts' asks asks' steps steps' seen turned 0)
