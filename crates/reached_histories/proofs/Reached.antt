-- Every state that the machine reaches stands beside joint states that are joined with a history.
use Rattle.std.proofs.Common.{◌≡◌, ◌∙◌, ℕ, List, le_of_eq, refl, sym, ap, subst, Some, None}
use Rattle.machine_states.specs.map_history.specs.declared.op.Request.{Request}
use Rattle.machine_states.specs.table_words.specs.declared.layout.Layout.{Layout}
use Rattle.machine_states.specs.table_words.specs.Limits.{IsWithinLimits}
use Rattle.machine_states.specs.structure_laws.specs.Meaning.{Meaning}
use Rattle.machine_states.specs.structure_laws.specs.Laws.{Laws}
use Rattle.machine_states.specs.runner_parts.specs.declared.event.Event.{Event}
use Rattle.machine_states.specs.runner_parts.specs.State.{PartState}
use Rattle.machine_history.specs.history_core.specs.Schedules.{first_state}
use Rattle.machine_states.specs.World.{World, happens}
use Rattle.machine_states.specs.First.{IsFirst}
use Rattle.machine_states.specs.Reached.{Reached}
use Rattle.machine_states.specs.Sight.{sight}
use Rattle.machine_states.proofs.Reached.{first_reached, more_reached, reached_has, reached_all}
use Rattle.machine_states.proofs.FirstSights.{first_parts}
use Rattle.machine_states.proofs.Sights.{happens_steps, some_none}
use Rattle.machine_facts.specs.machine_agreement.specs.machine_epochs.specs.Entries.{counts_of}
use Rattle.machine_facts.specs.machine_agreement.specs.machine_epochs.specs.Firsts.{first_place}
use Rattle.machine_facts.specs.machine_agreement.specs.machine_epochs.proofs.FirstJoin.{each_part}
use Rattle.machine_facts.specs.machine_agreement.specs.machine_scenes.specs.Shown.{States}
use Rattle.machine_history.specs.Laws.{IsJoined}
use Rattle.machine_history.proofs.Joining.{first_joined}
use Rattle.machine_facts.specs.machine_invariant.specs.After.{AreAllowed}
use Rattle.machine_facts.specs.machine_invariant.proofs.First.{no_publications, first_beside, first_whole, same_states, first_scene}
use Rattle.machine_facts.specs.Known.{KnownStand}
use Rattle.machine_facts.proofs.Following.{facts_after}
use Rattle.reached_histories.specs.Requests.{requests_of}
use Rattle.reached_histories.proofs.First.{first_kept}
use Rattle.machine_facts.proofs.ToldSteps.{first_told}
use Rattle.reached_histories.proofs.Quietly.{with_history}
use Rattle.reached_histories.proofs.Steps.{Stands}
use Rattle.reached_histories.proofs.Onward.{StandsSeen, step_goes}
use Rattle.reached_histories.specs.Looks.{LooksAreKept}
use Rattle.still_reads.specs.Standing.{WalksStand}
use Rattle.still_reads.proofs.Steps.{walks_begin}
use Rattle.machine_history.specs.history_core.specs.State.{HistoryState, is_replied}

module _ (m : Meaning) (laws : Laws m) (l : Layout) (limits : IsWithinLimits l) (rs : List Request) (allowed : AreAllowed rs) where
  first_core : (w : World) → IsFirst m l rs w → Stands m laws l limits rs allowed (sight m l rs w)
  first_core w first = record {
    beside = first_beside m laws l limits rs w first;
    history = first_state;
    whole = first_whole m laws l limits rs w first;
    asked = refl;
    joined = subst (λ (j : States). IsJoined m l (counts_of m l) (requests_of m l rs) (with_history m laws l limits rs j first_state))
        (same_states m laws l limits rs w first)
        (first_joined m laws l limits (counts_of m l) refl (requests_of m l rs) refl (first_place m l) (first_scene m laws l limits rs w first) _);
    kept = first_kept m l rs w first;
    told = first_told m l rs w first;
    publications = λ r x at. some_none x (sym (none_published r) ∙ at);
    walks = subst (λ (j : States). WalksStand m j) (same_states m laws l limits rs w first) (walks_begin m (first_place m l) (no_publications rs));
  }
    where
      none_published : (r : ℕ) → ((sight m l rs w).part r).published ≡ None
      none_published r = subst (λ (p : PartState). p.published ≡ None) (sym (first_parts m l w.parts first.parts r))
          (each_part m l (λ p. p.published ≡ None) refl (λ n. refl) refl r)

  -- nobody has looked
  first_looks : (w : World) (h : HistoryState) → IsFirst m l rs w → ((r : ℕ) → h.look r ≡ None) → LooksAreKept m l rs (sight m l rs w) h
  first_looks w h first unseen = record {
    kept = λ r x at g isin. some_none x (sym (none_looked r) ∙ at);
    settled = λ r none. ap is_replied (unseen r);
    only = λ r seen at. some_none seen (sym (unseen r) ∙ at);
  }
    where
      none_looked : (r : ℕ) → ((sight m l rs w).part r).reads.look ≡ None
      none_looked r = subst (λ (p : PartState). p.reads.look ≡ None) (sym (first_parts m l w.parts first.parts r))
          (each_part m l (λ p. p.reads.look ≡ None) refl (λ n. refl) refl r)

  first_stands : (w : World) → IsFirst m l rs w → StandsSeen m laws l limits rs allowed (sight m l rs w)
  unfolding first_core
  first_stands w first = record { core = first_core w first; looks = first_looks w first_state first (λ r. refl) }

  pub known_at : (w : World) → Reached m l rs w → KnownStand (sight m l rs w)
  known_at w reached = (facts_after m laws l rs reached.events w limits allowed reached.after).here.known

  -- a reached state with it
  record Has (w : World) : Type 0 where
    pub reached : Reached m l rs w
    pub stands : StandsSeen m laws l limits rs allowed (sight m l rs w)

  step_has : (w v : World) (e : Event) → Has w → happens m l rs w e ≡ Some v → Has v
  step_has w v e old goes =
      let reached = more_reached m l rs w v e old.reached goes in
      let all = reached_all m l rs w old.reached in record {
        reached = reached;
        stands = (step_goes m laws l limits rs allowed (sight m l rs w) (sight m l rs v) e.runner e.kind
            (happens_steps m l rs w v e (record { words = le_of_eq (sym all.words); parts = all.parts }) goes).0
            (known_at v reached) old.stands).to;
      }

  pub reached_stands : (w : World) → Reached m l rs w → StandsSeen m laws l limits rs allowed (sight m l rs w)
  reached_stands w reached = (reached_has m l rs Has
      (λ v start. record { reached = first_reached m l rs v start; stands = first_stands v start }) step_has w reached).stands
