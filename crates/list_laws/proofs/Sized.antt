-- With nothing open, each pair of the map keeps one slot in use, at most.
use Rattle.std.specs.Prelude.{◌*◌, true, List, length, Some, slice_get}
use Rattle.std.specs.FinMap.{len}
use Rattle.std.proofs.Common.{◌≡◌, ◌≢◌, ℕ, ◌≤◌, sym, ◌∙◌, subst, ⊎_elim, arith}
use Rattle.std.proofs.lemmas.Option.{none-some}
use Rattle.structure_laws.specs.map_history.specs.Replay.{Pairs}
use Rattle.structure_laws.specs.table_words.specs.declared.layout.Layout.{Layout}
use Rattle.structure_laws.specs.Scene.{Scene}
use Rattle.structure_laws.specs.InTurn.{StandsFor}
use Rattle.structure_laws.specs.Planner.{IsQuiet, AreInUse}
use Rattle.bucket_laws.proofs.Planner.{few_slots}
use Rattle.list_laws.specs.Line.{Nodes}
use Rattle.list_laws.specs.Nodes.{nodes, list}
use Rattle.list_laws.proofs.Turn as turn

module _ (layout : Layout) (s : Scene) (pairs : Pairs) (slots : List ℕ) (before : StandsFor list layout s pairs)
    (quiet : IsQuiet list s) (used : AreInUse list s slots) where
  abbrev now : Nodes
  now = nodes s.cells

  -- with nothing open a live slot is linked
  on : (i t : ℕ) → slice_get slots i ≡ Some t → before.kept.linked t ≡ true
  on i t at = ⊎_elim (λ on. on) (λ between. absurd (none-some between.1 (sym (quiet between.0) ∙ between.2)))
      (before.kept.live t (used.live i t at))

  unfixed : (i t : ℕ) → slice_get slots i ≡ Some t → t ≢ 0
  unfixed i t at e = let two = used.unfixed i t at in omega (arith, two, e)

  pub list_sized : length slots ≤ 1 * len pairs
  list_sized =
      let few = few_slots now.key slots pairs
      (λ i j t u at also same. used.once i j u (subst (λ t. slice_get slots i ≡ Some t)
      (turn.key_once layout s pairs before t u (on i t at) (on j u also) (unfixed i t at) (unfixed j u also) same) at) also)
      (λ i t at. (now.value t, (turn.contents layout s pairs before).pair t (on i t at) (used.unfixed i t at))) in
      omega (arith, few)
