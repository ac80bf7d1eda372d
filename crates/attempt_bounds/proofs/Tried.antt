-- The exchange by which the one worker publishes isn't refused.
use Rattle.std.specs.Prelude.{true, slice_get, Err, if◌then◌else◌}
use Rattle.std.proofs.Common.{◌≡◌, ℕ, [], ◌∷◌, ◌++◌, length, length-append, sym, ap, ◌∙◌, subst, inr, arith, Option, Some, None}
use Rattle.machine_states.specs.epoch_core.specs.small_lemmas.proofs.Numbers.{equal_tested as same_test}
use Rattle.machine_states.specs.map_history.specs.declared.op.Request.{Request}
use Rattle.machine_states.specs.body_terms.specs.Word.{held_word}
use Rattle.machine_states.specs.body_terms.specs.declared.outcome.Refused.{Refused}
use Rattle.machine_states.specs.body_terms.specs.declared.thunk.Thunk.{Thunk}
use Rattle.machine_states.specs.table_words.specs.declared.layout.Layout.{Layout}
use Rattle.machine_states.specs.table_words.specs.declared.spot.Spot.{Spot}
use Rattle.machine_states.specs.table_words.specs.declared.spot.Spot.TheVariants as spots
use Rattle.machine_states.specs.table_words.specs.declared.access.Access.{Access}
use Rattle.machine_states.specs.table_words.specs.declared.access.Access.TheVariants.{Exchanges}
use Rattle.machine_states.specs.table_words.specs.Access.{written}
use Rattle.machine_states.specs.table_words.specs.Seen.{seen}
use Rattle.machine_states.specs.table_words.specs.Limits.{IsWithinLimits}
use Rattle.machine_states.specs.structure_laws.specs.Scene.{Readings}
use Rattle.machine_states.specs.structure_laws.specs.Meaning.{Meaning}
use Rattle.machine_states.specs.structure_laws.specs.Laws.{Laws}
use Rattle.shared_laws.proofs.Numbers.{pair_read}
use Rattle.machine_states.specs.runner_parts.specs.declared.event.EventKind.TheVariants as kinds
use Rattle.machine_states.specs.epoch_core.specs.declared.stage.Stage.TheVariants as stages
use Rattle.machine_states.specs.runner_parts.specs.State.{RunState, ReadsState}
use Rattle.machine_states.specs.runner_steps.specs.Asks.{ask_by, sizes_for}
use Rattle.machine_states.specs.runner_steps.specs.Sections.{is_open_run}
use Rattle.machine_states.proofs.Sights.{unless_gone, cond_none}
use Rattle.attempts.specs.lock_words.specs.machine_epochs.proofs.OutsideAsked.{hold_asked}
use Rattle.version_words.specs.machine_invariant.specs.After.{AreAllowed}
use Rattle.version_words.specs.RunnerState.{RunnerState}
use Rattle.version_words.specs.Events.{Makes}
use Rattle.version_words.specs.Stages.{IsAt}
use Rattle.lone_plans.specs.one_worker.specs.Alone.{HasPublishedNone}
use Rattle.lone_plans.proofs.Alone as alone
use Rattle.attempts.specs.try_lock.specs.Planning.{Planning}
use Rattle.attempts.specs.try_lock.specs.declared.planned.Planned.TheVariants as plans
use Rattle.attempts.specs.try_lock.specs.Publishes.{IsRefused}
use Rattle.attempts.specs.lock_walks.specs.Steady.{IsSteady}
use Rattle.attempts.specs.Course.{HasTried}
use Rattle.attempt_bounds.specs.Lone.{IsLone}
use Rattle.attempt_bounds.proofs.Planned as planned

-- such an exchange meets the lock
met_lock : {T : Type 0} (m : Meaning) (t : Thunk) (d found : ℕ) (r new : RunnerState T) (hold : Makes m (kinds.Hold t d) found r new)
    → (spots.Cell t.lock, Exchanges t.word (held_word d t.word)) ≡ hold.met
met_lock m t d found r new hold = by r.part.run (unless_gone (sizes_for m r.layout r.requests) r.part.gone _ hold.met hold.asked).1
  where
    by : (o : Option RunState) → ask_by m r.layout r.requests r.number (kinds.Hold t d) r.part o ≡ Some hold.met
        → (spots.Cell t.lock, Exchanges t.word (held_word d t.word)) ≡ hold.met
    by None e = (hold_asked m r.layout r.requests r.number t d r.part hold.met e).is
    by (Some q) e = cond_none (is_open_run q) hold.met e

module _ {T : Type 0} (m : Meaning) (laws : Laws m) (planning : Planning) (steady : IsSteady m planning) (request : Request) (old new : RunnerState T)
    (lone : IsLone old) (thunk : Thunk) (refusal : Refused) (tries : HasTried m planning request thunk (Err refusal) old new) where
  abbrev found : ℕ
  found = tries.publishes.found

  refused : IsRefused thunk tries.publishes.descriptor found tries.planned new refusal
  refused = tries.publishes.refused

  number_is : new.number ≡ 0
  number_is = tries.still.number ∙ planned.worker_zero m planning request old lone.one tries.plans.enters.may

  lone_is : IsLone new
  lone_is = record {
    limits = subst IsWithinLimits (sym tries.still.layout) lone.limits;
    allowed = subst AreAllowed (sym tries.still.requests) lone.allowed;
    one = ap (λ (l : Layout). l.runners) tries.still.layout ∙ lone.one;
  }

  abbrev epoch : ℕ
  epoch = planned.epoch m laws planning steady request old tries.planned lone tries.readings (plans.Thunk thunk) tries.plans

  at_is : IsAt new (stages.Entered epoch) None
  at_is = refused.at epoch (planned.at_is m laws planning steady request old tries.planned lone tries.readings (plans.Thunk thunk) tries.plans)

  walk_is : new.part.reads.walk ≡ tries.readings
  walk_is = ap (λ (s : ReadsState). s.walk) refused.reads
      ∙ planned.walk_is m laws planning steady request old tries.planned lone tries.readings (plans.Thunk thunk) tries.plans

  -- it has read one cell besides its walk
  fresh_is : HasPublishedNone new.part
  fresh_is = record {
    unpublished = at_is.published;
    walked =
        let cells = ap length (ap (λ (s : ReadsState). s.cells) refused.reads
        ∙ ap (λ (rs : Readings). rs ++ (thunk.lock, found) ∷ []) (planned.cells_is m laws planning steady request old tries.planned lone tries.readings (plans.Thunk thunk) tries.plans)) in
        let more = length-append tries.readings ((thunk.lock, found) ∷ []) in
        let walk = ap length walk_is in omega (arith, cells, more, walk);
  }

  hold : Makes m (kinds.Hold thunk tries.publishes.descriptor) found tries.publishes.guarding new
  hold = tries.publishes.hold

  -- behind the exchange the lock has the word that it found
  here : seen (sizes_for m new.layout new.requests) hold.shown.world.words (spots.Cell thunk.lock) ≡ found
  here = subst (λ (x : Spot × Access). seen (sizes_for m new.layout new.requests) hold.shown.world.words x.0 ≡ written x.1 found)
      (sym (met_lock m thunk tries.publishes.descriptor found tries.publishes.guarding new hold)) hold.shown.word
      ∙ ap (λ b. if b then held_word tries.publishes.descriptor thunk.word else found) refused.lost

  -- and that is the one that the walk has read
  stands : seen (sizes_for m new.layout new.requests) hold.shown.world.words (spots.Cell thunk.lock) ≡ thunk.word
  stands =
      let read = pair_read tries.readings thunk.lock thunk.word tries.plans.answers.read in
      let fits = subst (λ l. m.fits l request.op new.part.reads.walk thunk ≡ true) (sym tries.still.layout)
      (subst (λ (rs : Readings). m.fits old.layout request.op rs thunk ≡ true) (sym walk_is) tries.plans.answers.fits) in
      let shaped = alone.shaped m laws new lone_is number_is hold.shown.world hold.shown.reached hold.shown.own epoch at_is fresh_is request.op thunk
      (planned.allowed_is m laws planning steady request old tries.planned lone tries.readings (plans.Thunk thunk) tries.plans) fits in
      alone.stands m laws new lone_is number_is hold.shown.world hold.shown.reached hold.shown.own epoch at_is fresh_is read.0 thunk.lock thunk.word
      (ap (λ (rs : Readings). slice_get rs read.0) walk_is ∙ read.1) (inr shaped.outer_known)

  pub none_refused : ⊥
  none_refused = let z = sym refused.lost ∙ same_test found thunk.word (sym here ∙ stands) in cc
