-- The states that the machine reaches.
use Rattle.std.specs.Prelude.{slice_get}
use Rattle.std.proofs.Common.{◌≡◌, ◌+◌, List, [], ◌∷◌, ◌++◌, length, sym, refl, ap, subst, ◌∙◌, Option, Some, None}
use Rattle.runner_steps.specs.map_history.specs.declared.op.Request.{Request}
use Rattle.runner_steps.specs.table_words.specs.declared.layout.Layout.{Layout}
use Rattle.runner_steps.specs.table_words.specs.Places.{size}
use Rattle.runner_steps.specs.runner_parts.specs.structure_laws.specs.Meaning.{Meaning}
use Rattle.runner_steps.specs.runner_parts.specs.declared.event.Event.{Event}
use Rattle.runner_steps.specs.runner_parts.specs.State.{PartState}
use Rattle.runner_steps.specs.Outside.{Ask}
use Rattle.runner_steps.specs.Asks.{asks, sizes_for}
use Rattle.machine_states.specs.World.{World, seat_of, acted, acts, happens, then_run, run}
use Rattle.machine_states.specs.First.{IsFirst}
use Rattle.machine_states.specs.Schedules.{IsAfter}
use Rattle.machine_states.specs.Reached.{Reached}
use Rattle.machine_states.proofs.Firsts.{length_parts}
use Rattle.machine_states.proofs.Runs.{run_more}
use Rattle.machine_states.proofs.Steps.{length_put, length_words}

none_world : (v : World) → None ≡ Some v → ⊥
none_world v e = cc

some_world : (w v : World) → Some w ≡ Some v → w ≡ v
some_world w v e = cc

-- the table has all words and all parts
pub record HasAll (m : Meaning) (l : Layout) (rs : List Request) (w : World) : Type 0 where
  pub words : length w.words ≡ size (sizes_for m l rs)
  pub parts : length w.parts ≡ l.runners + 1

module _ (m : Meaning) (l : Layout) (rs : List Request) where
  pub first_after : (w : World) → IsFirst m l rs w → IsAfter m l rs [] w
  first_after w first = record { start = w; first = first; runs = refl }

  -- one more enabled event
  pub more_after : (es : List Event) (w v : World) (e : Event) → IsAfter m l rs es w → happens m l rs w e ≡ Some v → IsAfter m l rs (es ++ e ∷ []) v
  more_after es w v e so_far step = record { start = so_far.start; first = so_far.first; runs = run_more m l rs es e so_far.start w v so_far.runs step }

  -- the empty list reaches the first state
  pub first_reached : (w : World) → IsFirst m l rs w → Reached m l rs w
  first_reached w first = record { events = []; after = first_after w first }

  -- one more enabled event after a reached state is reached
  pub more_reached : (w v : World) (e : Event) → Reached m l rs w → happens m l rs w e ≡ Some v → Reached m l rs v
  more_reached w v e so_far step = record { events = so_far.events ++ e ∷ []; after = more_after so_far.events w v e so_far.after step }

  module _ (P : World → Type 0) (each : (w v : World) (e : Event) → P w → happens m l rs w e ≡ Some v → P v) where
    then_has : (o : Option World) (f : World → Option World) (v : World) → ((w : World) → o ≡ Some w → f w ≡ Some v → P v) → then_run o f ≡ Some v → P v
    then_has None f v goes e = absurd (none_world v e)
    then_has (Some w) f v goes e = goes w refl e

    -- what each event keeps, a list of events keeps
    pub run_has : (es : List Event) (w v : World) → P w → run m l rs w es ≡ Some v → P v
    run_has [] w v has done = subst P (some_world w v done) has
    run_has (e ∷ es) w v has done = then_has (happens m l rs w e) (λ (x : World). run m l rs x es) v (λ x step rest. run_has es x v (each w x e has step) rest) done

  -- what the first states have and each event keeps, every reached state has
  pub reached_has : (P : World → Type 0) → ((w : World) → IsFirst m l rs w → P w) → ((w v : World) (e : Event) → P w → happens m l rs w e ≡ Some v → P v) → (w : World) → Reached m l rs w → P w
  reached_has P first each w r = run_has P each r.events r.after.start w (first r.after.start r.after.first) r.after.runs

  all_kept : (w v : World) (e : Event) (p : PartState) (a : Ask) → acted m l rs w e.runner e.kind p a ≡ Some v → HasAll m l rs w → HasAll m l rs v
  all_kept w v e p None goes all = absurd (none_world v goes)
  all_kept w v e p (Some x) goes all =
      let is = some_world _ v goes in
      record {
        words = ap (λ (y : World). length y.words) (sym is) ∙ (length_words w.words _ _ ∙ all.words);
        parts = ap (λ (y : World). length y.parts) (sym is) ∙ (length_put w.parts e.kind (seat_of l e.runner) _ ∙ all.parts);
      }

  all_by : (w v : World) (e : Event) (o : Option PartState) → acts m l rs w e.runner e.kind o ≡ Some v → HasAll m l rs w → HasAll m l rs v
  all_by w v e None goes all = absurd (none_world v goes)
  all_by w v e (Some p) goes all = all_kept w v e p (asks m l rs e.runner e.kind p) goes all

  -- every reached state has all words and all parts
  pub reached_all : (w : World) → Reached m l rs w → HasAll m l rs w
  reached_all = reached_has (HasAll m l rs)
      (λ w first. record { words = first.words.room; parts = ap length first.parts ∙ length_parts m l })
      (λ w v e all step. all_by w v e (slice_get w.parts (seat_of l e.runner)) step all)
