-- How a runner is turned away, by the calls that it makes.
use Rattle.std.specs.Prelude.{◌⊎◌, true, false, slice_get}
use Rattle.std.proofs.Common.{◌≡◌, ℕ, ◌-◌, List, refl, sym, ap, ◌∙◌, subst, eq-eqb, arith, inl, inr, None}
use Rattle.machine_states.specs.map_history.specs.declared.op.Request.{Request}
use Rattle.machine_states.specs.body_terms.specs.Trail.{Agreed}
use Rattle.machine_states.specs.body_terms.specs.Word.{value_of}
use Rattle.machine_states.specs.body_terms.specs.declared.outcome.Outcome.{Outcome}
use Rattle.machine_states.specs.body_terms.specs.declared.thunk.Thunk.{Thunk}
use Rattle.machine_states.specs.table_words.specs.declared.layout.Layout.{Layout}
use Rattle.machine_states.specs.table_words.specs.Limits.{IsWithinLimits}
use Rattle.runner_gate.specs.Asks.{Asks}
use Rattle.machine_states.specs.structure_laws.specs.Meaning.{Meaning}
use Rattle.machine_states.specs.structure_laws.specs.Laws.{Laws}
use Rattle.machine_states.specs.World.{World}
use Rattle.machine_states.specs.Reached.{Reached}
use Rattle.machine_states.specs.Sight.{sight, part_or_first}
use Rattle.machine_states.specs.table_words.specs.declared.spot.Spot.TheVariants.{Cell}
use Rattle.machine_states.specs.runner_parts.specs.State.{ReadsState, PartState}
use Rattle.machine_states.specs.runner_parts.specs.Tests.{has_pair}
use Rattle.machine_facts.specs.Watched.{WasDone, SeenLocksStand}
use Rattle.caller_facts.specs.lock_walks.specs.runner_facts.specs.Names.{NamesStand}
use Rattle.lock_words.specs.Taken.{HasLeftBy, TakenStand}
use Rattle.machine_facts.specs.machine_invariant.specs.After.{AreAllowed}
use Rattle.version_words.specs.RunnerState.{RunnerState}
use Rattle.version_words.specs.TableState.{TableState, IsOf}
use Rattle.caller_facts.specs.section_runs.specs.commit_log.specs.Asked.{IsAsked}
use Rattle.caller_facts.specs.try_lock.specs.Reached.{MayHelp}
use Rattle.caller_facts.specs.try_lock.specs.Watches.{MayWatch, Watched}
use Rattle.caller_facts.specs.try_lock.specs.Ends.{EndsSo, IsCutShort}
use Rattle.attempts.specs.Rests.{MayLeave, MayLetGo, HasTurned}
use Rattle.attempts.specs.Course.{HasGone}
use Rattle.attempts.specs.Learned.{HasLearned}
use Rattle.attempts.specs.declared.answers.Attempt.{Attempt}
use Rattle.attempts.specs.declared.answers.Attempt.TheVariants as answers
use Rattle.attempts.proofs.Leaving.{not_free, pair_on, watched_at, watched_help, ended_at, turned_by_watch, turned_by_help, turned_by_halt}
use Rattle.attempts.proofs.Telling.{ended_learned, cut_is}

module _ {T : Type 0} (m : Meaning) (laws : Laws m) (t : TableState T) (limits : IsWithinLimits t.layout) (allowed : AreAllowed t.requests)
    (answer : Attempt) (place word : ℕ) (held : answer ≡ answers.Busy place word) (old : RunnerState T) (may : MayLeave m answer old) where
  pub may_watch : MayWatch m place word old
  may_watch = may.watch place word held

  pub may_busy : MayLeave m (answers.Busy place word) old
  may_busy = subst (λ (a : Attempt). MayLeave m a old) held may

  -- the lock has another word, so the section was done
  module _ (watching : RunnerState T) (own : IsOf t watching) (watched : Watched m place word false old watching)
      (seen : (w : World) → Reached m t.layout t.requests w → SeenLocksStand m t.layout t.requests w)
      (taken : (w : World) → Reached m t.layout t.requests w → TakenStand m t.layout t.requests w) where
    abbrev l : Layout
    l = watching.layout

    abbrev rs : List Request
    rs = watching.requests

    abbrev w : World
    w = watched.reached.world

    here : (sight m l rs w).part watching.number ≡ watching.part
    here = ap part_or_first watched.reached.own

    changed : watched.found ≡ word → ⊥
    changed same = let test = sym (eq-eqb watched.found word same) ∙ sym watched.told in let z = test in cc

    by_stands : ((sight m l rs w).word (Cell place) ≡ word) ⊎ WasDone m l rs w place word (value_of word - 1) → WasDone m l rs w place word (value_of word - 1)
    by_stands (inl stands) = absurd (changed (sym watched.here ∙ stands))
    by_stands (inr done) = done

    by_met : (has_pair old.part.reads.cells place word ≡ true) ⊎ HasLeftBy old.part place word → WasDone m l rs w place word (value_of word - 1)
    by_met (inl read) = by_stands (seen_there watching.number place word (value_of word - 1) may_watch.lock (not_free word may_watch.names)
        (ap (λ (p : PartState). has_pair p.reads.cells place word) here ∙ (ap (λ (s : ReadsState). has_pair s.cells place word) watched.reads ∙ pair_on old.part.reads.cells place watched.found place word read)))
      where
        seen_there : SeenLocksStand m l rs w
        seen_there = (subst (λ (x : Layout). (v : World) → Reached m x rs v → SeenLocksStand m x rs v) (sym own.layout)
            (subst (λ (xs : List Request). (v : World) → Reached m t.layout xs v → SeenLocksStand m t.layout xs v) (sym own.requests) seen)) w watched.reached.reached
    by_met (inr left) =
        let met = taken_there.met watching.number place word (subst (λ (p : PartState). HasLeftBy p place word) (sym here) (record {
          at = left.at;
          finished = left.finished;
          kept = ap (λ fs. slice_get fs left.at) watched.keeps.finished ∙ left.kept;
          left = left.left;
        })) in
        let named : met.0 ≡ value_of word - 1 = (let a = met.1 in omega (arith, a)) in
        subst (λ d. WasDone m l rs w place word d) named (by_other met.0 met.2.stands)
      where
        taken_there : TakenStand m l rs w
        taken_there = (subst (λ (x : Layout). (v : World) → Reached m x rs v → TakenStand m x rs v) (sym own.layout)
            (subst (λ (xs : List Request). (v : World) → Reached m t.layout xs v → TakenStand m t.layout xs v) (sym own.requests) taken)) w watched.reached.reached

        by_other : (d : ℕ) → ((sight m l rs w).word (Cell place) ≡ word) ⊎ WasDone m l rs w place word d → WasDone m l rs w place word d
        by_other d (inl stands) = absurd (changed (sym watched.here ∙ stands))
        by_other d (inr done) = done

    pub was_done : WasDone m l rs w place word (value_of word - 1)
    was_done = by_met (may.met place word held)

    pub watch_turned : (new : RunnerState T) → HasGone m watching new → (halts : ℕ) (asks : Asks) (steps : ℕ) → HasTurned m answer answer old new halts halts asks asks steps steps
    watch_turned new gone halts asks steps = subst (λ (a : Attempt). HasTurned m a a old new halts halts asks asks steps steps) (sym held)
        (turned_by_watch m place word old watching new may_busy watched was_done gone halts asks steps)

  -- it has the word still
  module _ (watching : RunnerState T) (own : IsOf t watching) (watched : Watched m place word true old watching) where
    limits_there : IsWithinLimits watching.layout
    limits_there = subst IsWithinLimits (sym own.layout) limits

    allowed_there : AreAllowed watching.requests
    allowed_there = subst AreAllowed (sym own.requests) allowed

    pub may_help : MayHelp m watching word
    may_help = watched_help m place word true old watching watched may_busy refl

    module _ (u : Thunk) (outcome : Outcome) (trail : Agreed) (made : ℕ) (helped : RunnerState T) (own_helped : IsOf t helped)
        (ends : EndsSo m (value_of word - 1) u outcome trail made watching helped) where
      learned : HasLearned m (value_of word - 1) u watching helped
      learned = ended_learned m laws t limits allowed watching helped own_helped (value_of word - 1) u outcome trail made ends

      pub help_go : MayLetGo helped
      help_go = record { epoch = may_busy.leave.epoch; at = ended_at m (value_of word - 1) u outcome trail made watching helped ends may_busy.leave.epoch None (watched_at m place word true old watching watched may_busy) }

      pub help_turned : (new : RunnerState T) → HasGone m helped new
          → ((w : World) → Reached m t.layout t.requests w → NamesStand m (sight m t.layout t.requests w))
          → (halts halts' : ℕ) (asks asks' : Asks) (steps steps' : ℕ) → IsAsked made true halts halts' asks asks' steps steps'
          → HasTurned m answer answer old new halts halts' asks asks' steps steps'
      help_turned new gone names halts halts' asks asks' steps steps' asked =
          subst (λ (a : Attempt). HasTurned m a a old new halts halts' asks asks' steps steps') (sym held)
          (turned_by_help m laws place word old watching helped new may_busy watched limits_there allowed_there (own_helped.requests ∙ sym own.requests) u outcome trail made ends gone learned
          (names_of helped own_helped names) halts halts' asks asks' steps steps' asked)
        where
          names_of : (r : RunnerState T) → IsOf t r → ((w : World) → Reached m t.layout t.requests w → NamesStand m (sight m t.layout t.requests w))
              → (w : World) → Reached m r.layout r.requests w → NamesStand m (sight m r.layout r.requests w)
          names_of r is all = subst (λ (l : Layout). (w : World) → Reached m l r.requests w → NamesStand m (sight m l r.requests w)) (sym is.layout)
              (subst (λ (rs : List Request). (w : World) → Reached m t.layout rs w → NamesStand m (sight m t.layout rs w)) (sym is.requests) all)

    module _ (made : ℕ) (new : RunnerState T) (own_new : IsOf t new) (short : IsCutShort m (value_of word - 1) made watching new) where
      pub halt_turned : (halts halts' : ℕ) (asks asks' : Asks) (steps steps' : ℕ) → IsAsked made false halts halts' asks asks' steps steps'
          → HasTurned m answer answers.Halted old new halts halts' asks asks' steps steps'
      halt_turned halts halts' asks asks' steps steps' asked =
          subst (λ (a : Attempt). HasTurned m a answers.Halted old new halts halts' asks asks' steps steps') (sym held)
          (turned_by_halt m laws place word (value_of word - 1) old watching new may_busy watched limits_there allowed_there
          (cut_is m laws t limits allowed watching new own_new (value_of word - 1) made short) made short halts halts' asks asks' steps steps' asked)
