-- What Makes used up, in every reached state.
use Rattle.std.specs.Prelude.{◌==◌, ◌*◌, ◌⊎◌, nat_lt, cond, true, false}
use Rattle.std.proofs.Common.{◌≡◌, ℕ, zero, suc, ◌+◌, ◌<◌, ◌≤◌, List, [], length, refl, sym, ap, ◌∙◌, ⊎_elim, inl, inr, le_of_eq, arith, Some}
use Rattle.std.proofs.lemmas.Bool.Decides.{nat_tests}
use Rattle.machine_states.specs.map_history.specs.declared.op.Request.{Request}
use Rattle.machine_states.specs.map_history.specs.Words.{adds_by}
use Rattle.machine_states.specs.table_words.specs.declared.layout.Layout.{Layout}
use Rattle.machine_states.specs.table_words.specs.declared.spot.Spot.TheVariants as spots
use Rattle.machine_states.specs.table_words.specs.Limits.{IsWithinLimits}
use Rattle.machine_states.specs.structure_laws.specs.Meaning.{Meaning}
use Rattle.machine_states.specs.structure_laws.specs.Laws.{Laws}
use Rattle.machine_states.specs.structure_laws.specs.Planner.{PlannerLaws}
use Rattle.machine_states.specs.runner_parts.specs.declared.event.Event.{Event}
use Rattle.machine_states.specs.runner_parts.specs.State.{PartState}
use Rattle.machine_states.specs.World.{World, happens}
use Rattle.machine_states.specs.First.{IsFirst, falling, first_part, keeper_part, worker_part}
use Rattle.machine_states.specs.Reached.{Reached}
use Rattle.machine_states.specs.Sight.{Sight, sight}
use Rattle.machine_states.proofs.FirstSights.{first_part_of, first_parts}
use Rattle.machine_states.proofs.Reached.{first_reached, more_reached, reached_has, reached_all}
use Rattle.machine_states.proofs.Sights.{happens_steps}
use Rattle.reached_histories.specs.machine_facts.proofs.Following.{facts_after, step_facts_after}
use Rattle.reached_histories.specs.machine_facts.specs.machine_invariant.specs.After.{AreAllowed}
use Rattle.reached_histories.specs.Laws.{HasHistory}
use Rattle.reached_histories.proofs.Histories.{reached_have}
use Rattle.resource_bounds.specs.Makes.{slots_left, MakesAreCounted}
use Rattle.resource_bounds.proofs.MakesSums.{total_added}
use Rattle.resource_bounds.proofs.MakesKept.{Counted, worker_of, used_there, settled, counted_on}

falling_length : (from n : ℕ) → length (falling from n) ≡ n
falling_length from zero = refl
falling_length from (suc n) = ap suc (falling_length from n)

module _ (m : Meaning) (laws : Laws m) (l : Layout) (limits : IsWithinLimits l) (rs : List Request) (allowed : AreAllowed rs)
    (per_pair : ℕ) (planner : PlannerLaws m per_pair) where
  -- a reached state that has it
  record Has (w : World) : Type 0 where
    reached : Reached m l rs w
    has : Counted m l rs (sight m l rs w)

  below : (r n : ℕ) → r < n → (r == n) ≡ false
  below r n low = grind (arith, nat_tests)

  less : (r n : ℕ) → r < n → nat_lt r n ≡ true
  less r n low = grind (arith, nat_tests)

  first_entries : (r : ℕ) → r < l.runners → slots_left (first_part_of m l r).nodes ≡ l.nodes
  first_entries r low =
      ap (λ b. slots_left (cond b (keeper_part m l) (cond (nat_lt r l.runners) (worker_part m l r) (first_part [] [] []))).nodes) (below r l.runners low)
      ∙ (ap (λ b. slots_left (cond b (worker_part m l r) (first_part [] [] [])).nodes) (less r l.runners low)
      ∙ (let all = falling_length (m.fixed_slots + l.nodes * r) l.nodes in omega (arith, all)))

  first_has : (w : World) → IsFirst m l rs w → Counted m l rs (sight m l rs w)
  first_has w first = record {
    won = λ q. 0;
    slots = λ r low above. let same = ap (λ (p : PartState). slots_left p.nodes) (first_parts m l w.parts first.parts r) in let all = first_entries r low in
        omega (arith, same, all);
    most = λ q. inl refl;
  }

  step_has : (w v : World) (e : Event) → Has w → happens m l rs w e ≡ Some v → Has v
  step_has w v e old goes =
      let all = reached_all m l rs w old.reached in record {
        reached = more_reached m l rs w v e old.reached goes;
        has = counted_on m laws l limits rs allowed planner.serves per_pair (planner.over l limits) w v e old.reached
            (step_facts_after m laws l rs old.reached.events w limits allowed old.reached.after e v goes)
            (happens_steps m l rs w v e (record { words = le_of_eq (sym all.words); parts = all.parts }) goes).0 old.has;
      }

  counted : (w : World) → Reached m l rs w → Counted m l rs (sight m l rs w)
  counted w reached = (reached_has m l rs Has (λ v start. record { reached = first_reached m l rs v start; has = first_has v start }) step_has w reached).has

  pub reached_counted : (w : World) → Reached m l rs w → MakesAreCounted m l rs (sight m l rs w)
  reached_counted w reached no_lock r low above =
      let most = total_added s.word at.won (length rs) settles in
      let slots = at.slots r low above in omega (arith, most, slots)
    where
      s : Sight
      s = sight m l rs w

      at : Counted m l rs s
      at = counted w reached

      stands : HasHistory m l rs s
      stands = reached_have m laws l rs limits allowed w reached

      settles : (q : ℕ) → (at.won q ≡ 0) ⊎ ((adds_by (s.word (spots.Reply q)) ≡ true) × (at.won q ≤ 2))
      settles q =
          let facts = facts_after m laws l rs reached.events w limits allowed reached.after in
          ⊎_elim (λ z. inl z) (λ more. ⊎_elim (λ y. inr y)
          (λ y. settled m l rs s stands facts.components facts.here planner.serves q (at.won q) y
          ((stands.closed no_lock).done y.section.descriptor
          (used_there m l rs s stands facts.components facts.here planner.serves (worker_of m l rs q) y.section y.published))) more) (at.most q)
