-- The thunk that fits what an entered runner has read is shaped.
use Rattle.std.specs.Prelude.{slice_get, All}
use Rattle.std.proofs.Common.{◌≡◌, ℕ, List, true, ap, ◌∙◌, subst, Some}
use Rattle.std.proofs.lemmas.List.Elements.{All-get_or}
use Rattle.std.proofs.lemmas.Option.{slice_get_within, get_or_from_slice_get}
use Rattle.machine_states.specs.map_history.specs.declared.op.Request.{Request}
use Rattle.machine_states.specs.body_terms.specs.declared.thunk.Thunk.{Thunk}
use Rattle.machine_states.specs.table_words.specs.Limits.{IsWithinLimits}
use Rattle.machine_states.specs.structure_laws.specs.Meaning.{Meaning}
use Rattle.machine_states.specs.structure_laws.specs.Laws.{Laws}
use Rattle.machine_states.specs.structure_laws.specs.Sections.{IsAllowed}
use Rattle.machine_states.specs.structure_laws.specs.Shape.{Shaped}
use Rattle.machine_states.specs.epoch_core.specs.declared.stage.Stage.TheVariants.{Entered}
use Rattle.machine_states.specs.runner_parts.specs.State.{PartState}
use Rattle.machine_states.specs.Sight.{Sight, sight, part_or_first}
use Rattle.lock_walks.specs.runner_facts.proofs.Walks.{reached_shaped}
use Rattle.lock_walks.specs.version_words.specs.machine_invariant.specs.After.{AreAllowed}
use Rattle.lock_walks.specs.version_words.specs.RunnerState.{RunnerState}
use Rattle.lock_walks.specs.try_lock.specs.Reached.{IsReached}

pub allowed_at : (xs : List Request) (i : ℕ) (x : Request) → slice_get xs i ≡ Some x → All (λ (y : Request). IsAllowed y.op) xs → IsAllowed x.op
allowed_at xs i x at all = subst (λ (y : Request). IsAllowed y.op) (get_or_from_slice_get xs i x x at)
    (All-get_or (λ (y : Request). IsAllowed y.op) xs i x (slice_get_within xs i x at) all)

module _ {T : Type 0} (m : Meaning) (laws : Laws m) (request : Request) (thunk : Thunk) (r : RunnerState T)
    (limits : IsWithinLimits r.layout) (allowed : AreAllowed r.requests) (reached : IsReached m r) where
  abbrev s : Sight
  s = sight m r.layout r.requests reached.world

  here : s.part r.number ≡ r.part
  here = ap part_or_first reached.own

  pub fitting_shaped : (epoch : ℕ) → r.part.stage ≡ Entered epoch → slice_get r.requests request.number ≡ Some request
      → m.fits r.layout request.op r.part.reads.walk thunk ≡ true → Shaped m r.layout r.part.reads.walk thunk
  fitting_shaped epoch at there fits = subst (λ (p : PartState). Shaped m r.layout p.reads.walk thunk) here
      (reached_shaped m laws r.layout limits r.requests allowed reached.world reached.reached
      r.number epoch request.op thunk
      (ap (λ (p : PartState). p.stage) here ∙ at)
      (allowed_at r.requests request.number request there allowed.each)
      (ap (λ (p : PartState). m.fits r.layout request.op p.reads.walk thunk) here ∙ fits))
