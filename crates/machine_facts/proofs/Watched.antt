-- Where a runner has read a lock held, the lock stands so, or the section that held it was done.
use Rattle.std.specs.Prelude.{◌⊎◌, true}
use Rattle.std.proofs.Common.{◌≡◌, ℕ, suc, List, [], ◌∷◌, ◌++◌, refl, sym, ap, ◌∙◌, subst, inl, inr, ⊎_elim, le_of_eq, Some}
use Rattle.machine_states.specs.map_history.specs.declared.op.Request.{Request}
use Rattle.machine_states.specs.body_terms.specs.Word.{value_of}
use Rattle.machine_states.specs.table_words.specs.Limits.{IsWithinLimits}
use Rattle.machine_states.specs.table_words.specs.declared.layout.Layout.{Layout}
use Rattle.machine_states.specs.table_words.specs.declared.spot.Spot.TheVariants.{Cell}
use Rattle.machine_states.specs.structure_laws.specs.Meaning.{Meaning}
use Rattle.machine_states.specs.structure_laws.specs.Laws.{Laws}
use Rattle.machine_states.specs.runner_parts.specs.declared.event.Event.{Event}
use Rattle.machine_states.specs.runner_parts.specs.State.{PartState}
use Rattle.machine_states.specs.runner_parts.specs.Tests.{has_pair}
use Rattle.machine_states.specs.World.{World, happens, then_run, run}
use Rattle.machine_states.specs.First.{IsFirst}
use Rattle.machine_states.specs.Reached.{Reached}
use Rattle.machine_states.specs.Sight.{Sight, sight, Steps}
use Rattle.machine_states.proofs.FirstSights.{first_parts}
use Rattle.machine_states.proofs.Reached.{first_reached, more_reached, reached_has, reached_all}
use Rattle.machine_states.proofs.Runs.{run_more}
use Rattle.machine_states.proofs.Sights.{happens_steps}
use Rattle.machine_invariant.specs.machine_blocks.specs.machine_guards.specs.machine_agreement.specs.machine_epochs.proofs.FirstJoin.{each_part}
use Rattle.machine_invariant.specs.After.{AreAllowed}
use Rattle.machine_facts.specs.Steps.{IsRelease}
use Rattle.machine_facts.specs.After.{AreFactsOfStep}
use Rattle.machine_facts.specs.Watched.{WasDone, SeenLocksStand, ReachedSeenLocksStand}
use Rattle.machine_facts.proofs.FinishedParts.{by_any}
use Rattle.machine_facts.proofs.Following.{step_facts_after}
use Rattle.machine_facts.proofs.Readings.{stepped_adds}

module _ (m : Meaning) (laws : Laws m) (l : Layout) (limits : IsWithinLimits l) (rs : List Request) (allowed : AreAllowed rs) where
  -- a reached state of which it holds
  record Has (w : World) : Type 0 where
    reached : Reached m l rs w
    seen : SeenLocksStand m l rs w

  -- at first nobody has read anything
  first_has : (w : World) → IsFirst m l rs w → Has w
  first_has w first = record {
    reached = first_reached m l rs w first;
    seen = λ r place word d lock value h. absurd (let none = ap (λ c. has_pair c place word) (sym (no_cells r)) ∙ h in cc);
  }
    where
      no_cells : (r : ℕ) → ((sight m l rs w).part r).reads.cells ≡ []
      no_cells r = subst (λ (p : PartState). p.reads.cells ≡ []) (sym (first_parts m l w.parts first.parts r))
          (each_part m l (λ p. p.reads.cells ≡ []) refl (λ n. refl) refl r)

  -- one more enabled event
  module _ (w v : World) (e : Event) (reached : Reached m l rs w) (goes : happens m l rs w e ≡ Some v) where
    abbrev s : Sight
    s = sight m l rs w

    abbrev s' : Sight
    s' = sight m l rs v

    facts : AreFactsOfStep m l rs w e v
    facts = step_facts_after m laws l rs reached.events w limits allowed reached.after e v goes

    step : Steps m l rs s s' e.runner e.kind
    step = let all = reached_all m l rs w reached in
        (happens_steps m l rs w v e (record { words = le_of_eq (sym all.words); parts = all.parts }) goes).0

    -- the lock has its word still, or a run of the section releases it now, which is done
    pub carried : (place word d : ℕ) → m.is_lock place ≡ true → value_of word ≡ suc d → s.word (Cell place) ≡ word
        → (s'.word (Cell place) ≡ word) ⊎ WasDone m l rs v place word d
    carried place word d lock value is = ⊎_elim (λ same. inl (same ∙ is))
        (λ (release : IsRelease (s.part e.runner) e.kind s.word d). inr (record {
          earlier = w;
          reached = reached;
          events = e ∷ [];
          leads = ap (λ o. then_run o (λ u. run m l rs u [])) goes;
          held = is;
          done = release.done;
        }))
        (facts.leads.locks place d lock (ap value_of is ∙ value))

    later : (place word d : ℕ) → WasDone m l rs w place word d → WasDone m l rs v place word d
    later place word d was = record {
      earlier = was.earlier;
      reached = was.reached;
      events = was.events ++ e ∷ [];
      leads = run_more m l rs was.events e was.earlier w v was.leads goes;
      held = was.held;
      done = was.done;
    }

    -- so either way it is one of the two behind the event
    pub carried_on : (place word d : ℕ) → m.is_lock place ≡ true → value_of word ≡ suc d
        → (s.word (Cell place) ≡ word) ⊎ WasDone m l rs w place word d → (s'.word (Cell place) ≡ word) ⊎ WasDone m l rs v place word d
    carried_on place word d lock value was = ⊎_elim (carried place word d lock value) (λ done. inr (later place word d done)) was

    module _ (old : SeenLocksStand m l rs w) where
      seen_before : (r place word d : ℕ) → m.is_lock place ≡ true → value_of word ≡ suc d → has_pair (s.part r).reads.cells place word ≡ true
          → (s'.word (Cell place) ≡ word) ⊎ WasDone m l rs v place word d
      seen_before r place word d lock value h = carried_on place word d lock value (old r place word d lock value h)

      next_has : Has v
      next_has = record {
        reached = more_reached m l rs w v e reached goes;
        seen = λ r place word d lock value h. ⊎_elim (seen_before r place word d lock value)
            (λ own. ⊎_elim (seen_before e.runner place word d lock value)
            (λ now. carried place word d lock value (ap s.word now.0 ∙ now.1))
            ((stepped_adds m l rs e.runner (s.part e.runner) (s.word step.ask.0) step.ask e.kind step.asked).read place word own.1))
            (by_any m l rs s s' e.runner e.kind step (λ (p : PartState). has_pair p.reads.cells place word ≡ true)
            (λ p worker h. h) (λ p h. h) r h);
      }

  pub reached_seen : (w : World) → Reached m l rs w → SeenLocksStand m l rs w
  reached_seen w reached = (reached_has m l rs Has first_has (λ w v e old goes. next_has w v e old.reached goes old.seen) w reached).seen

pub seen_locks_stand : (m : Meaning) → Laws m → (l : Layout) (rs : List Request) → ReachedSeenLocksStand m l rs
seen_locks_stand m laws l rs limits allowed w reached = reached_seen m laws l limits rs allowed w reached
