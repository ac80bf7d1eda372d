-- What a sweep leaves in limbo where nobody crossed the runner's steps.
use Rattle.std.specs.Prelude.{◌==◌, ◌||◌, not, Bool, false, if◌then◌else◌}
use Rattle.std.specs.List.{filter}
use Rattle.std.proofs.Common.{◌≡◌, ℕ, suc, ◌+◌, List, [], ◌∷◌, length, refl, ap, ◌∙◌, arith}
use Rattle.std.proofs.lemmas.Bool.Decides.{nat_tests}
use Rattle.machine_states.specs.guard_core.specs.Moves.{is_unnamed}
use Rattle.machine_states.specs.guard_core.specs.Update.{has}
use Rattle.machine_states.specs.structure_laws.specs.Meaning.{Meaning}
use Rattle.machine_states.specs.runner_parts.specs.declared.event.EventKind.TheVariants as kinds
use Rattle.machine_states.specs.runner_parts.specs.declared.entries.Waiting.{Waiting}
use Rattle.machine_states.specs.runner_parts.specs.State.{DescriptorsState, BlocksState}
use Rattle.lone_plans.specs.one_worker.proofs.Onward.{read_unguarded}
use Rattle.version_words.specs.RunnerState.{RunnerState}
use Rattle.attempts.specs.epoch_slots.specs.Sweeps.{Sweeps, HasSwept}
use Rattle.attempt_bounds.proofs.Along.{Onward, made_asked, made_uncrossed, sweeps_on}

names_none : (n d : ℕ) (b : Bool) → n ≡ 0 → b ≡ false → (n == suc d || b) ≡ false
names_none n d b zero none = grind (arith, nat_tests)

-- of these, none is named
none_named : (words xs : List ℕ) → ((d : ℕ) → has words (suc d) ≡ false) → length (filter (λ d. not (is_unnamed words d)) xs) ≡ 0
none_named words [] none = refl
none_named words (x ∷ xs) none =
    ap (λ (b : Bool). length (if not (not b) then x ∷ filter (λ d. not (is_unnamed words d)) xs else filter (λ d. not (is_unnamed words d)) xs)) (none x)
    ∙ none_named words xs none

none_kept : (words : List ℕ) (xs : List Waiting) → ((d : ℕ) → has words (suc d) ≡ false) → length (filter (λ (x : Waiting). not (is_unnamed words x.descriptor)) xs) ≡ 0
none_kept words [] none = refl
none_kept words (x ∷ xs) none =
    ap (λ (b : Bool). length (if not (not b) then x ∷ filter (λ (y : Waiting). not (is_unnamed words y.descriptor)) xs else filter (λ (y : Waiting). not (is_unnamed words y.descriptor)) xs)) (none x.descriptor)
    ∙ none_kept words xs none

module _ {T : Type 0} (m : Meaning) where
  -- each guard word that was read is 0
  sweeps_none : (next : ℕ) (found : List ℕ) (a b : RunnerState T) → Sweeps m next found a b → b.part.records.crossed ≡ false → (d : ℕ) → has found (suc d) ≡ false
  sweeps_none next [] a b same uncrossed d = refl
  sweeps_none next (n ∷ ns) a b sweeps uncrossed d =
      let here = (sweeps_on m (next + 1) ns sweeps.0 b sweeps.2 uncrossed).0 in
      names_none n d (has ns (suc d))
      (read_unguarded m a.layout a.requests a.number a.part sweeps.1.met (kinds.LoadGuard next) n
      (made_asked m (kinds.LoadGuard next) n a sweeps.0 sweeps.1) (made_uncrossed m (kinds.LoadGuard next) n a sweeps.0 sweeps.1 here) next refl)
      (sweeps_none (next + 1) ns sweeps.0 b sweeps.2 uncrossed d)

  module _ (old new : RunnerState T) (swept : HasSwept m old new) where
    pub swept_on : Onward old new
    swept_on = sweeps_on m 0 swept.found old new swept.sweeps

    -- so no descriptor stays in limbo
    pub no_descriptors : new.part.records.crossed ≡ false → length new.part.descriptors.limbo ≡ 0
    no_descriptors uncrossed = ap (λ (d : DescriptorsState). length d.limbo) swept.descriptors
        ∙ none_named swept.found old.part.descriptors.limbo (sweeps_none 0 swept.found old new swept.sweeps uncrossed)

    -- and no block
    pub no_blocks : new.part.records.crossed ≡ false → length new.part.blocks.limbo ≡ 0
    no_blocks uncrossed = ap (λ (b : BlocksState). length b.limbo) swept.blocks
        ∙ none_kept swept.found old.part.blocks.limbo (sweeps_none 0 swept.found old new swept.sweeps uncrossed)
