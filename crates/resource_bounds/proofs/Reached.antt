-- So it is in every reached state.
use Rattle.std.specs.Prelude.{◌==◌, ◌*◌, ◌^◌, nat_lt, cond, Bool, true, false}
use Rattle.std.proofs.Common.{◌≡◌, ℕ, zero, suc, ◌+◌, ◌<◌, ◌≤◌, List, length, le_of_eq, refl, sym, ap, ◌∙◌, arith, Option, Some, None}
use Rattle.machine_states.specs.map_history.specs.declared.op.Request.{Request}
use Rattle.std.proofs.lemmas.Bool.Decides.{nat_tests}
use Rattle.machine_states.specs.body_terms.specs.Word.{version_of, value_of, pack}
use Rattle.machine_states.specs.table_words.specs.declared.layout.Layout.{Layout}
use Rattle.machine_states.specs.table_words.specs.declared.spot.Spot.TheVariants as spots
use Rattle.machine_states.specs.table_words.specs.Limits.{IsWithinLimits}
use Rattle.machine_states.specs.structure_laws.specs.Meaning.{Meaning}
use Rattle.machine_states.specs.structure_laws.specs.Laws.{Laws}
use Rattle.machine_states.specs.structure_laws.specs.Cells.{first_word}
use Rattle.machine_states.specs.runner_parts.specs.declared.entries.Published.{Published}
use Rattle.machine_states.specs.runner_parts.specs.declared.event.Event.{Event}
use Rattle.machine_states.specs.runner_parts.specs.State.{RunState}
use Rattle.machine_states.specs.World.{World, happens}
use Rattle.machine_states.specs.First.{IsFirst}
use Rattle.machine_states.specs.Reached.{Reached}
use Rattle.machine_states.specs.Sight.{Sight, sight}
use Rattle.machine_states.proofs.Reached.{first_reached, more_reached, reached_has, reached_all}
use Rattle.machine_states.proofs.Sights.{happens_steps}
use Rattle.machine_scenes.specs.Shown.{States}
use Rattle.reached_histories.specs.machine_facts.specs.machine_invariant.specs.After.{AreAllowed}
use Rattle.reached_histories.specs.machine_facts.specs.machine_invariant.specs.Whole.{Beside, IsWhole}
use Rattle.reached_histories.specs.machine_facts.specs.machine_invariant.proofs.After.{reached_whole, reached_beside}
use Rattle.reached_histories.specs.machine_facts.specs.machine_invariant.proofs.First.{same_states}
use Rattle.reached_histories.specs.machine_facts.specs.machine_invariant.proofs.Rising.{rises_after}
use Rattle.resource_bounds.specs.Versions.{run_count, open_count, runs_below, VersionsAreCounted}
use Rattle.resource_bounds.proofs.Runs.{run_most}
use Rattle.resource_bounds.proofs.Parts.{index, by_run, by_open, charge, by_opened_run, fewer}
use Rattle.resource_bounds.proofs.Sums.{sum_to}
use Rattle.resource_bounds.proofs.Kept.{Bounded, free, kept}

-- a runner's runs may have raised a place four times each at most
module _ (m : Meaning) (l : Layout) (g : Beside) (s : Sight) (whole : IsWhole m l g s) (p : ℕ) where
  same_number : (a b : ℕ) → (a == b) ≡ true → a ≡ b
  same_number a b e = grind (arith, nat_tests)

  run_few : (r : ℕ) (o : Option RunState) → (s.part r).run ≡ o → by_run m p o ≤ 4 * run_count o
  run_few r None is = omega arith
  run_few r (Some q) is = by (length q.opened == 13) refl
    where
      by : (b : Bool) → (length q.opened == 13) ≡ b → by_run m p (Some q) ≤ 4
      by true e = let all = same_number (length q.opened) 13 e in
          let few = run_most m l g s whole r q is all p (index m p) in let same = by_opened_run m p q all in omega (arith, few, same)
      by false e = let none = fewer m p q.opened q.at e in omega (arith, none)

  open_few : (o : Option Published) → by_open m p o ≤ 4 * open_count o
  open_few None = omega arith
  open_few (Some x) = by (x.thunk.lock == p)
    where
      by : (k : Bool) → cond k 2 0 ≤ 4 * 1
      by true = omega arith
      by false = omega arith

  charges : (n : ℕ) → sum_to (λ i. charge m p (s.part i)) n ≤ 4 * runs_below s.part n
  charges zero = omega arith
  charges (suc n) = let rest = charges n in let run = run_few n (s.part n).run refl in let own = open_few (s.part n).published in
      omega (arith, rest, run, own)

module _ (m : Meaning) (laws : Laws m) (l : Layout) (limits : IsWithinLimits l) (rs : List Request) (allowed : AreAllowed rs) where
  -- a reached state that has it
  record Has (w : World) : Type 0 where
    reached : Reached m l rs w
    has : Bounded m l (sight m l rs w)

  -- the first words have version 1, and locks are free
  first_number : (p : ℕ) → (version_of (first_word m p) ≡ 1) × (m.is_lock p ≡ true → value_of (first_word m p) ≡ 0)
  first_number p = by (nat_lt p (m.fixed_cells + 5 * m.fixed_slots)) refl
    where
      small : (v : ℕ) → v < 2 ^ 32 → (version_of (pack v 1) ≡ 1) × (value_of (pack v 1) ≡ v)
      small v low = (omega (arith, low), omega (arith, low))

      below : (a b : ℕ) → nat_lt a b ≡ true → a < b
      below a b e = grind (arith, nat_tests)

      by : (b : Bool) → nat_lt p (m.fixed_cells + 5 * m.fixed_slots) ≡ b
          → (version_of (pack (cond b (m.first_value p) 0) 1) ≡ 1) × (m.is_lock p ≡ true → value_of (pack (cond b (m.first_value p) 0) 1) ≡ 0)
      by true e = let fixed = below p (m.fixed_cells + 5 * m.fixed_slots) e in let both = small (m.first_value p) (laws.first.small p fixed) in
          (both.0, λ lock. both.1 ∙ laws.first.locks_free p fixed lock)
      by false e = let both = small 0 (omega arith) in (both.0, λ lock. both.1)

  first_has : (w : World) → IsFirst m l rs w → Bounded m l (sight m l rs w)
  first_has w first p =
      let cell : first_word m p ≡ (sight m l rs w).word (spots.Cell p) = ap (λ (j : States). j.agreement.shared.cells p) (same_states m laws l limits rs w first) in
      let number = first_number p in
      let version = ap version_of (sym cell) ∙ number.0 in
      let none = free m p ((sight m l rs w).word (spots.Cell p)) (λ lock. ap value_of (sym cell) ∙ number.1 lock) in
      omega (arith, version, none)

  step_has : (w v : World) (e : Event) → Has w → happens m l rs w e ≡ Some v → Has v
  step_has w v e old goes =
      let reached = more_reached m l rs w v e old.reached goes in
      let all = reached_all m l rs w old.reached in
      let a = reached_beside m laws l rs old.reached.events w limits allowed old.reached.after in
      let b = reached_whole m laws l rs reached.events v limits allowed reached.after in
      record {
        reached = reached;
        has = λ p. kept m laws l limits rs (sight m l rs w) (sight m l rs v) e.runner e.kind (record {
          step = (happens_steps m l rs w v e (record { words = le_of_eq (sym all.words); parts = all.parts }) goes).0;
          beside = a.0;
          whole = a.1;
          requests = a.2;
          beside' = b.0;
          whole' = b.1;
        }) p (rises_after m laws l rs old.reached.events w limits allowed old.reached.after e v goes) (old.has p);
      }

  pub reached_counted : (w : World) → Reached m l rs w → VersionsAreCounted l (sight m l rs w)
  reached_counted w reached p =
      let bound = (reached_has m l rs Has (λ v start. record { reached = first_reached m l rs v start; has = first_has v start }) step_has w reached).has p in
      let a = reached_whole m laws l rs reached.events w limits allowed reached.after in
      let few = charges m l a.0 (sight m l rs w) a.1 p (suc l.runners) in omega (arith, bound, few)
