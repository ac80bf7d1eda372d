-- A plan of the one worker is refused by a spent word alone.
use Rattle.std.specs.Prelude.{◌==◌, ◌&&◌, ◌%◌, ◌+◌, ◌-◌, Bool, true, false, slice_get, if◌then◌else◌}
use Rattle.std.proofs.Common.{◌≡◌, ◌⊎◌, ℕ, [], ◌∷◌, ◌++◌, length, refl, sym, ap, ◌∙◌, subst, ⊎_elim, inl, inr, arith, Option, Some, None}
use Rattle.machine_states.specs.epoch_core.specs.small_lemmas.proofs.Lists.{get_last}
use Rattle.machine_states.specs.map_history.specs.declared.op.Op.{Op}
use Rattle.machine_states.specs.map_history.specs.declared.op.Request.{Request}
use Rattle.machine_states.specs.body_terms.specs.Word.{value_of, version_of, pack, is_free, is_spent}
use Rattle.machine_states.specs.body_terms.specs.declared.thunk.Thunk.{Thunk}
use Rattle.machine_states.specs.table_words.specs.declared.spot.Spot.{Spot}
use Rattle.machine_states.specs.table_words.specs.declared.spot.Spot.TheVariants as spots
use Rattle.machine_states.specs.table_words.specs.declared.access.Access.{Access}
use Rattle.machine_states.specs.table_words.specs.declared.access.Access.TheVariants.{Loads}
use Rattle.machine_states.specs.table_words.specs.Access.{written}
use Rattle.machine_states.specs.table_words.specs.Seen.{seen}
use Rattle.machine_states.specs.structure_laws.specs.Scene.{Readings}
use Rattle.machine_states.specs.structure_laws.specs.Meaning.{Meaning}
use Rattle.machine_states.specs.structure_laws.specs.Laws.{Laws}
use Rattle.machine_states.specs.structure_laws.specs.Cells.{slots, IsKnown}
use Rattle.machine_states.specs.structure_laws.specs.Shape.{Shaped}
use Rattle.machine_states.specs.structure_laws.specs.Sections.{IsAllowed}
use Rattle.machine_states.specs.structure_laws.proofs.Changes.{both_true, equal_of}
use Rattle.machine_states.specs.runner_parts.specs.declared.event.EventKind.TheVariants as kinds
use Rattle.machine_states.specs.runner_parts.specs.State.{RunState}
use Rattle.machine_states.specs.runner_parts.specs.Tests.{is_next}
use Rattle.machine_states.specs.runner_steps.specs.Asks.{ask_by, sizes_for}
use Rattle.machine_states.specs.runner_steps.specs.Sections.{is_open_run}
use Rattle.machine_states.specs.World.{World, seat_of}
use Rattle.machine_states.specs.Reached.{Reached}
use Rattle.machine_states.specs.Sight.{sight}
use Rattle.machine_states.proofs.Sights.{unless_gone, cond_none}
use Rattle.machine_states.proofs.Steps.{some_same, none_some}
use Rattle.one_worker.specs.resource_bounds.specs.machine_epochs.proofs.OutsideAsked.{read_asked}
use Rattle.lock_walks.specs.version_words.specs.RunnerState.{RunnerState}
use Rattle.lock_walks.specs.version_words.specs.Events.{Makes}
use Rattle.lock_walks.specs.try_lock.specs.declared.planned.Planned.{Planned}
use Rattle.lock_walks.specs.try_lock.specs.declared.planned.Planned.TheVariants as plans
use Rattle.lock_walks.specs.try_lock.specs.Planning.{Planning}
use Rattle.lock_walks.specs.try_lock.specs.Plans as walks
use Rattle.lock_walks.specs.try_lock.specs.Plans.{refused_by_lock, IsWalk, IsRefused, Answers}
use Rattle.lock_walks.specs.Steady.{IsSteadyWalk, IsSteady}
use Rattle.lone_plans.specs.Lone.{NobodyRefuses, IsAlone, HasWalkedAlone, ReadingsStand, LonePlansMeetNobody}
use Rattle.lone_plans.proofs.Alone as alone

mod_one : (a n k : ℕ) → n ≡ 1 → a % n ≡ k → k ≡ 0
mod_one a n k one e = let z : a % 1 ≡ k = subst (λ i. a % i ≡ k) one e in omega (arith, z)

free_test : (n : ℕ) → n ≡ 0 → (n == 0) ≡ true
free_test n e = ap (λ i. i == 0) e

-- why a reading refuses
causes : (lock mark far : Bool) (o : Option Planned) (stale too_far answer : Planned)
    → (if lock then o else (if mark then Some stale else (if far then Some too_far else None))) ≡ Some answer
    → ((lock ≡ true) × (o ≡ Some answer)) ⊎ (((lock ≡ false) × (mark ≡ true)) ⊎ ((lock ≡ false) × (far ≡ true)))
causes true mark far o stale too_far answer e = inl (refl, e)
causes false true far o stale too_far answer e = inr (inl (refl, refl))
causes false false true o stale too_far answer e = inr (inr (refl, refl))
causes false false false o stale too_far answer e = absurd (none_some answer (sym e))

-- a free lock refuses as a spent one alone
spent_alone : (free spent : Bool) (place word : ℕ) (answer : Planned) → free ≡ true
    → (if free then (if spent then Some (plans.Spent place word) else None) else Some (plans.Busy place word)) ≡ Some answer
    → NobodyRefuses answer
spent_alone true true place word answer is e = subst NobodyRefuses (some_same (plans.Spent place word) answer e) tt
spent_alone true false place word answer is e = absurd (none_some answer (sym e))
spent_alone false spent place word answer is e = absurd (let z = is in cc)

module _ {T : Type 0} (m : Meaning) where
  -- the last load of a walk
  last_load : (before : Readings) (place word : ℕ) (old new : RunnerState T) → walks.Loads m (before ++ (place, word) ∷ []) old new
      → (r : RunnerState T) × Makes m (kinds.LoadCell (Some place)) word r new
  last_load [] place word old new loads = (old, subst (Makes m (kinds.LoadCell (Some place)) word old) (sym loads.2) loads.1)
  last_load (x ∷ before) place word old new loads = last_load before place word loads.0 new loads.2

  -- such a load meets the cell
  met_cell : (place word : ℕ) (r new : RunnerState T) (load : Makes m (kinds.LoadCell (Some place)) word r new) → (spots.Cell place, Loads) ≡ load.met
  met_cell place word r new load = by r.part.run (unless_gone (sizes_for m r.layout r.requests) r.part.gone _ load.met load.asked).1
    where
      by : (o : Option RunState) → ask_by m r.layout r.requests r.number (kinds.LoadCell (Some place)) r.part o ≡ Some load.met → (spots.Cell place, Loads) ≡ load.met
      by None e = (read_asked m place r.part load.met e).2
      by (Some q) e = cond_none (is_open_run q) load.met e

  -- and where it was the last step, the cell has the word that it found
  pub found_here : (place word : ℕ) (before r : RunnerState T) (load : Makes m (kinds.LoadCell (Some place)) word before r)
      → seen (sizes_for m r.layout r.requests) load.shown.world.words (spots.Cell place) ≡ word
  found_here place word before r load = subst (λ (x : Spot × Access). seen (sizes_for m r.layout r.requests) load.shown.world.words x.0 ≡ written x.1 word)
      (sym (met_cell place word before r load)) load.shown.word

-- the one worker has number 0
pub worker_zero : {T : Type 0} (request : Request) (r : RunnerState T) → r.layout.runners ≡ 1
    → is_next r.layout r.number r.requests r.part.records.known (Some request) ≡ true → r.number ≡ 0
worker_zero request r one next =
    mod_one request.trace r.layout.runners r.number one (equal_of (request.trace % r.layout.runners) r.number (both_true _ _ next).0)

module _ {T : Type 0} (m : Meaning) (laws : Laws m) (r : RunnerState T) (is : IsAlone r) where
  -- a state in which it has its part
  module _ (w : World) (reached : Reached m r.layout r.requests w) (own : slice_get w.parts (seat_of r.layout r.number) ≡ Some r.part) where
    pub unlocked : (p : ℕ) → m.is_lock p ≡ true → value_of ((sight m r.layout r.requests w).word (spots.Cell p)) ≡ 0
    unlocked = alone.unlocked m laws r is.lone is.worker w reached own is.epoch is.at is.fresh

    pub stands : (i place word : ℕ) → slice_get r.part.reads.walk i ≡ Some (place, word)
        → (m.is_lock place ≡ false) ⊎ IsKnown m r.part.reads.walk place → (sight m r.layout r.requests w).word (spots.Cell place) ≡ word
    stands = alone.stands m laws r is.lone is.worker w reached own is.epoch is.at is.fresh

    pub shaped : (op : Op) (thunk : Thunk) → IsAllowed op → m.fits r.layout op r.part.reads.walk thunk ≡ true
        → Shaped m r.layout r.part.reads.walk thunk
    shaped = alone.shaped m laws r is.lone is.worker w reached own is.epoch is.at is.fresh

  pub readings_stand : ReadingsStand m r
  readings_stand shown = stands shown.world shown.reached shown.own

module _ {T : Type 0} (m : Meaning) (laws : Laws m) (planning : Planning) (steady : IsSteady m planning) (op : Op) (readings : Readings) (entered r : RunnerState T)
    (is : HasWalkedAlone m planning op readings entered r) where
  steady_walk : IsSteadyWalk m planning r.layout op readings
  steady_walk = subst (λ rs. IsSteadyWalk m planning r.layout op rs) is.read
      (alone.steady m laws r is.alone.lone is.alone.worker is.reached.world is.reached.reached is.reached.own is.alone.epoch is.alone.at is.alone.fresh
      planning op is.allowed is.served (subst (λ rs. IsWalk m planning r.layout op rs) (sym is.read) is.walk))

  -- a lock that was read last was free
  free_last : (before : Readings) (place word : ℕ) → readings ≡ before ++ (place, word) ∷ [] → m.is_lock place ≡ true → is_free word ≡ true
  free_last before place word last lock =
      let made = last_load m before place word entered r (subst (λ rs. walks.Loads m rs entered r) last is.loads) in
      let load = made.1 in
      let none = unlocked m laws r is.alone load.shown.world load.shown.reached load.shown.own place lock in
      free_test (value_of word) (ap value_of (sym (found_here m place word made.0 r load)) ∙ none)

  refused_so : (refusal : Planned) → IsRefused m planning r.layout op readings refusal → NobodyRefuses refusal
  refused_so refusal cause = ⊎_elim
      (λ lock. spent_alone (is_free cause.word) (is_spent r.layout.version_max cause.word) cause.place cause.word refusal
      (free_last cause.before cause.place cause.word cause.last lock.0) lock.1)
      (⊎_elim
      (λ mark. let tests = both_true _ _ mark.1 in
      absurd (steady.unmarked r.layout op readings steady_walk (length cause.before) cause.place cause.word
      (ap (λ (rs : Readings). slice_get rs (length cause.before)) cause.last ∙ get_last cause.before (cause.place, cause.word)) mark.0 tests.0
      (equal_of (value_of cause.word) 1 tests.1)))
      (λ far. absurd (both_ways (sym (ap (planning.is_far r.layout op) cause.last) ∙ steady.near r.layout op readings steady_walk) far.1)))
      (causes (m.is_lock cause.place) (planning.is_mark cause.place && (value_of cause.word == 1)) (planning.is_far r.layout op (cause.before ++ (cause.place, cause.word) ∷ []))
      (refused_by_lock r.layout.version_max cause.place cause.word) (plans.Stale cause.place (pack 0 (version_of cause.word - 1)) cause.word) (plans.Far (slots m r.layout + 8))
      refusal cause.cause)
    where
      both_ways : {b : Bool} → b ≡ false → b ≡ true → ⊥
      both_ways near far = let z = sym near ∙ far in cc

  pub plan_so : (number : ℕ) (p : Planned) → Answers m planning r.layout op number readings p → NobodyRefuses p
  plan_so number (plans.Thunk thunk) says = tt
  plan_so number plans.Halted says = tt
  plan_so number (plans.Busy place word) says = refused_so (plans.Busy place word) says
  plan_so number (plans.Spent place word) says = refused_so (plans.Spent place word) says
  plan_so number (plans.Stale place expected read) says = refused_so (plans.Stale place expected read) says
  plan_so number (plans.Far loads) says = refused_so (plans.Far loads) says

pub lone_met : {T : Type 0} (m : Meaning) → Laws m → (planning : Planning) → IsSteady m planning → LonePlansMeetNobody T m planning
lone_met m laws planning steady = record {
  answers = λ op number readings answer entered r is. plan_so m laws planning steady op readings entered r is number answer;
  stands = λ r is. readings_stand m laws r is;
}
