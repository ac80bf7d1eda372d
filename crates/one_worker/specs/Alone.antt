-- What stands where there is one worker.
use Rattle.std.specs.Prelude.{ℕ, suc, ◌≡◌, ◌≢◌, ◌≤◌, ◌⊎◌, true, false, length, slice_get, Some, None}
use Rattle.machine_states.specs.body_terms.specs.Word.{value_of}
use Rattle.machine_states.specs.table_words.specs.declared.layout.Layout.{Layout}
use Rattle.machine_states.specs.table_words.specs.declared.spot.Spot.TheVariants.{Cell, DoneWord}
use Rattle.machine_states.specs.structure_laws.specs.Meaning.{Meaning}
use Rattle.machine_states.specs.structure_laws.specs.Cells.{IsKnown}
use Rattle.machine_states.specs.epoch_core.specs.declared.stage.Stage.TheVariants.{Entered}
use Rattle.machine_states.specs.runner_parts.specs.State.{RunState, PartState}
use Rattle.machine_states.specs.Sight.{Sight}
use Rattle.resource_bounds.specs.Versions.{open_count}

-- no section is under way: no lock names one, and whoever still runs one finds it done
pub record NoneIsOpen (m : Meaning) (s : Sight) : Type 0 where
  pub unlocked : (p : ℕ) → m.is_lock p ≡ true → value_of (s.word (Cell p)) ≡ 0
  pub done : (r : ℕ) (q : RunState) → (s.part r).run ≡ Some q → s.word (DoneWord q.descriptor) ≢ 0

-- the runner has published nothing since it entered: it has no published section, and since then it has read at most
-- one cell but in its walks. A section that it published and ran to its end since would have read two at least
pub record HasPublishedNone (p : PartState) : Type 0 where
  pub unpublished : p.published ≡ None
  pub walked : length p.reads.cells ≤ suc (length p.reads.walk)

module _ (m : Meaning) where
  -- what the worker has read in its walks since it entered stands, as long as it has published nothing since; of locks
  -- this is said where the readings give the place
  abbrev pub ReadingsStand : Sight → Type 0
  ReadingsStand s = (entry i place word : ℕ) → (s.part 0).stage ≡ Entered entry → HasPublishedNone (s.part 0)
      → slice_get (s.part 0).reads.walk i ≡ Some (place, word)
      → (m.is_lock place ≡ false) ⊎ IsKnown m (s.part 0).reads.walk place → s.word (Cell place) ≡ word

  pub record AloneStands (s : Sight) : Type 0 where
    -- while the worker has no section that it has published and not yet run to its end
    pub quiet : open_count (s.part 0).published ≡ 0 → NoneIsOpen m s
    pub read : ReadingsStand s

-- so it is with one worker, which has number 0; the keeper may help it
abbrev pub OneWorkerStands : Meaning → Layout → Sight → Type 0
OneWorkerStands m l s = l.runners ≡ 1 → AloneStands m s
