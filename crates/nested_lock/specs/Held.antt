-- A lock that a section has got.
use Rattle.std.specs.Prelude.{◌≡◌, ℕ, slice_get, Some}
use Rattle.machine_states.specs.body_terms.specs.Word.{held_word}
use Rattle.machine_states.specs.table_words.specs.declared.spot.Spot.TheVariants.{Cell, DoneWord}
use Rattle.machine_states.specs.structure_laws.specs.Meaning.{Meaning}
use Rattle.machine_states.specs.World.{World, seat_of}
use Rattle.machine_states.specs.Reached.{Reached}
use Rattle.machine_states.specs.Sight.{sight}
use Rattle.commit_log.specs.version_words.specs.RunnerState.{RunnerState}

-- in each state that the machine reaches, in which the runner has this part, the lock has the word by which it names
-- the section, or the section is done
abbrev pub IsHeld : {T : Type 0} → Meaning → (place free descriptor : ℕ) → RunnerState T → Type 0
IsHeld m place free descriptor r = (w : World) → Reached m r.layout r.requests w
    → slice_get w.parts (seat_of r.layout r.number) ≡ Some r.part
    → (sight m r.layout r.requests w).word (DoneWord descriptor) ≡ 0
    → (sight m r.layout r.requests w).word (Cell place) ≡ held_word descriptor free
