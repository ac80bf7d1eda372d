-- A walk makes few loads, and the section of a `get` changes nothing.
use Rattle.std.proofs.Common.{◌≡◌, Bool, true, false, cond, refl, sym, subst, arith}
use Rattle.std.specs.Prelude.{◌==◌}
use Rattle.std.specs.List.{list_all}
use Rattle.runner_parts.specs.structure_laws.specs.map_history.specs.declared.op.Op.TheVariants.{Get}
use Rattle.runner_parts.specs.structure_laws.specs.body_terms.specs.Shape.{is_look}
use Rattle.runner_parts.specs.structure_laws.specs.body_terms.specs.declared.thunk.Thunk.{Thunk}
use Rattle.runner_parts.specs.structure_laws.proofs.Changes.{both_true, equal_of}
use Rattle.tree_laws.specs.bucket_laws.specs.Walk.{has_one_key}
use Rattle.tree_laws.specs.node_laws.proofs.Walked.{few_left}
use Rattle.tree_laws.specs.tree_bodies.specs.Tree.{Look, Empty, body_of, fits_look, tree_steps}
use Rattle.tree_laws.specs.Walk.{is_end, start}
use Rattle.tree_laws.specs.Leaves.{bounds, walk_of}
use Rattle.tree_walks.specs.Walking.{left_at}
use Rattle.tree_walks.specs.Gets.{WalksMakeFewLoads, GetsOnlyLook}
use Rattle.tree_walks.proofs.Steps.{nearer}

pub make_few_loads : WalksMakeFewLoads
make_few_loads layout op readings walks =
    let few = few_left _ _ _ (λ w. left_at w.stage (bounds layout).links w.links)
    (λ w place word wants. nearer (bounds layout) op w w.stage place word wants) start readings walks in
    omega (arith, few)

-- form 11
looks_in : (t : Thunk) → t.form ≡ 11 → list_all is_look (tree_steps t) ≡ true
looks_in t eleven = subst (λ form. list_all is_look (tree_steps (record t { form = form })) ≡ true) (sym eleven) (by (fits_look t))
  where
    by : (b : Bool) → list_all is_look (body_of (cond b Look Empty) (record t { form = 11 })) ≡ true
    by true = refl
    by false = refl

pub only_look : GetsOnlyLook
only_look layout key readings thunk fits =
    let w = walk_of layout (Get key) readings in
    let whole = both_true (has_one_key (Get key)) _ fits in
    let parts = both_true (is_end w.stage) _ whole.1 in
    let form = both_true (thunk.form == 11) _ parts.1 in
    looks_in thunk (equal_of thunk.form 11 form.0)
