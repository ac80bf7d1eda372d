-- A run with one more event.
use Rattle.std.proofs.Common.{◌≡◌, List, [], ◌∷◌, ◌++◌, ap, ◌∙◌, Option, Some, None}
use Rattle.runner_steps.specs.map_history.specs.declared.op.Request.{Request}
use Rattle.runner_steps.specs.table_words.specs.declared.layout.Layout.{Layout}
use Rattle.runner_steps.specs.runner_parts.specs.structure_laws.specs.Meaning.{Meaning}
use Rattle.runner_steps.specs.runner_parts.specs.declared.event.Event.{Event}
use Rattle.machine_states.specs.World.{World, happens, then_run, run}

some_world : (w v : World) → Some w ≡ Some v → w ≡ v
some_world w v e = cc

none_world : (v : World) → None ≡ Some v → ⊥
none_world v e = cc

module _ (m : Meaning) (l : Layout) (rs : List Request) where
  then_more : (o : Option World) (f h : World → Option World) (v u : World) → ((w : World) → f w ≡ Some v → h w ≡ Some u) → then_run o f ≡ Some v → then_run o h ≡ Some u
  then_more None f h v u each e = absurd (none_world v e)
  then_more (Some w) f h v u each e = each w e

  pub run_more : (es : List Event) (e : Event) (w v u : World) → run m l rs w es ≡ Some v → happens m l rs v e ≡ Some u → run m l rs w (es ++ e ∷ []) ≡ Some u
  run_more [] e w v u so_far step =
      let same = some_world w v so_far in
      ap (λ (o : Option World). then_run o (λ (x : World). Some x)) (ap (λ (x : World). happens m l rs x e) same ∙ step)
  run_more (x ∷ es) e w v u so_far step =
      then_more (happens m l rs w x) (λ (y : World). run m l rs y es) (λ (y : World). run m l rs y (es ++ e ∷ [])) v u (λ y done. run_more es e y v u done step) so_far
