-- What stands where the one worker is entered and has published nothing since.
use Rattle.std.specs.Prelude.{cond, Bool, true, false, slice_get}
use Rattle.std.proofs.Common.{◌≡◌, ◌⊎◌, ℕ, sym, ap, ◌∙◌, subst, inl, Some, None}
use Rattle.machine_states.specs.map_history.specs.declared.op.Op.{Op}
use Rattle.machine_states.specs.body_terms.specs.Word.{value_of}
use Rattle.machine_states.specs.body_terms.specs.declared.thunk.Thunk.{Thunk}
use Rattle.machine_states.specs.table_words.specs.declared.spot.Spot.TheVariants as spots
use Rattle.machine_states.specs.structure_laws.specs.Meaning.{Meaning}
use Rattle.machine_states.specs.structure_laws.specs.Laws.{Laws}
use Rattle.machine_states.specs.structure_laws.specs.Cells.{IsKnown}
use Rattle.machine_states.specs.structure_laws.specs.Sections.{IsAllowed}
use Rattle.machine_states.specs.structure_laws.specs.Shape.{Shaped}
use Rattle.machine_states.specs.epoch_core.specs.declared.stage.Stage.TheVariants as stages
use Rattle.machine_states.specs.runner_parts.specs.State.{PartState}
use Rattle.machine_states.specs.World.{World, seat_of}
use Rattle.machine_states.specs.Reached.{Reached}
use Rattle.machine_states.specs.Sight.{Sight, sight, part_or_first}
use Rattle.one_worker.specs.machine_facts.specs.machine_invariant.proofs.Asked.{entered_at}
use Rattle.one_worker.specs.reached_histories.specs.Laws.{HasHistory}
use Rattle.one_worker.specs.reached_histories.proofs.Histories.{reached_have}
use Rattle.one_worker.specs.resource_bounds.specs.Versions.{open_count}
use Rattle.one_worker.specs.Alone.{HasPublishedNone, AloneStands}
use Rattle.one_worker.proofs.Reached.{reached_alone}
use Rattle.one_worker.specs.resource_bounds.proofs.Quiet.{scene, cells_are, stands_for, quiet}
use Rattle.lock_walks.specs.version_words.specs.RunnerState.{RunnerState}
use Rattle.lock_walks.specs.version_words.specs.Stages.{IsAt}
use Rattle.lock_walks.specs.try_lock.specs.Planning.{Planning}
use Rattle.lock_walks.specs.try_lock.specs.Plans.{IsWalk}
use Rattle.lock_walks.specs.Steady.{IsSteadyWalk}
use Rattle.lone_plans.specs.Lone.{IsLone}

-- a runner, and a state in which it has its part
module _ {T : Type 0} (m : Meaning) (laws : Laws m) (r : RunnerState T) (lone : IsLone r) (zero : r.number ≡ 0)
    (w : World) (reached : Reached m r.layout r.requests w) (own : slice_get w.parts (seat_of r.layout r.number) ≡ Some r.part)
    (epoch : ℕ) (at : IsAt r (stages.Entered epoch) None) (fresh : HasPublishedNone r.part) where
  abbrev pub s : Sight
  s = sight m r.layout r.requests w

  part_is : s.part 0 ≡ r.part
  part_is = ap s.part (sym zero) ∙ ap part_or_first own

  alone : AloneStands m s
  alone = reached_alone m laws r.layout lone.limits r.requests lone.allowed w reached lone.one

  -- no lock names a section
  pub unlocked : (p : ℕ) → m.is_lock p ≡ true → value_of (s.word (spots.Cell p)) ≡ 0
  unlocked = (alone.quiet (ap (λ (p : PartState). open_count p.published) part_is ∙ ap open_count at.published)).unlocked

  -- what its walk has read stands
  pub stands : (i place word : ℕ) → slice_get r.part.reads.walk i ≡ Some (place, word)
      → (m.is_lock place ≡ false) ⊎ IsKnown m r.part.reads.walk place → s.word (spots.Cell place) ≡ word
  stands = subst (λ (p : PartState). (i place word : ℕ) → slice_get p.reads.walk i ≡ Some (place, word)
      → (m.is_lock place ≡ false) ⊎ IsKnown m p.reads.walk place → s.word (spots.Cell place) ≡ word) part_is
      (λ i place word. alone.read epoch i place word (ap (λ (p : PartState). p.stage) part_is ∙ at.at)
      (subst HasPublishedNone (sym part_is) (record { unpublished = fresh.unpublished; walked = fresh.walked })))

  history : HasHistory m r.layout r.requests s
  history = reached_have m laws r.layout r.requests lone.limits lone.allowed w reached

  -- a walk of an operation that is served
  pub steady : (planning : Planning) (op : Op) → IsAllowed op → planning.serves op ≡ true
      → IsWalk m planning r.layout op r.part.reads.walk → IsSteadyWalk m planning r.layout op r.part.reads.walk
  steady planning op allowed served walk = record {
    limits = lone.limits;
    allowed = allowed;
    served = served;
    walk = walk;
    scene = scene m r.layout r.requests s history unlocked;
    pairs = history.state.pairs;
    stands = stands_for m r.layout r.requests s history unlocked;
    quiet = quiet m r.layout r.requests s history unlocked;
    read = λ i place word here free. cells_are m r.layout r.requests s history unlocked place ∙ stands i place word here (inl free);
  }

  -- a thunk that fits its readings has a lock that they give
  pub shaped : (op : Op) (thunk : Thunk) → IsAllowed op → m.fits r.layout op r.part.reads.walk thunk ≡ true
      → Shaped m r.layout r.part.reads.walk thunk
  shaped op thunk allowed fits =
      let before = stands_for m r.layout r.requests s history unlocked in
      (laws.over r.layout lone.limits).shape (scene m r.layout r.requests s history unlocked) before.sound before.kept 0
      r.part.reads.walk op thunk
      (ap (λ (b : Bool). cond b (Some (s.part 0).reads.walk) None)
      (entered_at m r.layout history.beside.epochs s history.whole.slots 0 epoch (ap (λ (p : PartState). p.stage) part_is ∙ at.at))
      ∙ ap (λ (p : PartState). Some p.reads.walk) part_is)
      allowed fits
