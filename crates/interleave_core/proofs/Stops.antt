-- The first event of a list that isn't enabled.
use Rattle.std.specs.Prelude.{slice_get}
use Rattle.std.proofs.Common.{◌≡◌, ℕ, List, take, sym, subst, ◌∙◌, Some, None, Result, Err}
use Rattle.machine_states.specs.map_history.specs.declared.op.Request.{Request}
use Rattle.machine_states.specs.table_words.specs.declared.layout.Layout.{Layout}
use Rattle.machine_states.specs.structure_laws.specs.Meaning.{Meaning}
use Rattle.machine_states.specs.runner_parts.specs.declared.event.Event.{Event}
use Rattle.interleave_core.specs.declared.schedules.ScheduleError.{ScheduleError}
use Rattle.interleave_core.specs.declared.schedules.ScheduleError.TheVariants.{NotEnabled}
use Rattle.machine_states.specs.World.{World, happens, run}
use Rattle.machine_states.specs.First.{IsFirst}
use Rattle.interleave_core.specs.Enabled.{NamesEnabled, StopsNaming}

same_place : {T : Type 0} (at at' enabled enabled' : ℕ) → ◌≡◌ {A = Result T ScheduleError} (Err (NotEnabled at enabled)) (Err (NotEnabled at' enabled')) → at ≡ at'
same_place at at' enabled enabled' same = cc

same_kinds : {T : Type 0} (at at' enabled enabled' : ℕ) → ◌≡◌ {A = Result T ScheduleError} (Err (NotEnabled at enabled)) (Err (NotEnabled at' enabled')) → enabled ≡ enabled'
same_kinds at at' enabled enabled' same = cc

module _ (m : Meaning) (l : Layout) (rs : List Request) (es : List Event) (start w : World) (e : Event) (at enabled : ℕ) where
  -- the events before it led from the first state to the one in which it is refused
  pub stops : {T : Type 0} (told at' enabled' : ℕ) → told ≡ enabled → IsFirst m l rs start → run m l rs start (take at es) ≡ Some w → slice_get es at ≡ Some e → happens m l rs w e ≡ None → NamesEnabled m l rs w e.runner enabled
      → ◌≡◌ {A = Result T ScheduleError} (Err (NotEnabled at told)) (Err (NotEnabled at' enabled')) → StopsNaming m l rs es at' enabled'
  stops told at' enabled' is first runs here refused kinds same =
      subst (λ (j : ℕ). StopsNaming m l rs es j enabled') (same_place at at' told enabled' same)
      (subst (λ (k : ℕ). StopsNaming m l rs es at k) (sym is ∙ same_kinds at at' told enabled' same) (record {
        stop = record { world = w; before = record { start = start; first = first; runs = runs }; event = e; here = here; refused = refused };
        kinds = kinds;
      }))
