-- A walk makes few loads, and the section of a `get` changes nothing.
use Rattle.std.proofs.Common.{◌≡◌, ℕ, ◌+◌, ◌*◌, ◌≤◌, length, Bool, true, false, cond, refl, sym, subst, arith}
use Rattle.std.specs.Prelude.{◌==◌}
use Rattle.std.specs.List.{list_all}
use Rattle.runner_parts.specs.structure_laws.specs.map_history.specs.declared.op.Op.TheVariants.{Get}
use Rattle.runner_parts.specs.structure_laws.specs.body_terms.specs.Shape.{is_look}
use Rattle.runner_parts.specs.structure_laws.specs.body_terms.specs.declared.thunk.Thunk.{Thunk}
use Rattle.runner_parts.specs.block_words.specs.table_words.specs.declared.layout.Layout.{Layout}
use Rattle.runner_parts.specs.block_words.specs.table_words.specs.Places.{slot_count}
use Rattle.runner_parts.specs.structure_laws.specs.Scene.{Readings}
use Rattle.runner_parts.specs.structure_laws.proofs.Changes.{both_true, equal_of}
use Rattle.list_laws.specs.bucket_laws.specs.Walk.{has_one_key}
use Rattle.list_laws.specs.node_laws.proofs.Walked.{few_left}
use Rattle.list_laws.specs.list_bodies.specs.List.{Look, Empty, body_of, fits_look, list_steps}
use Rattle.list_laws.specs.Walk.{is_end, start}
use Rattle.list_laws.specs.Nodes.{bounds, walk_of}
use Rattle.list_walks.specs.Walking.{left_at}
use Rattle.list_walks.specs.Gets.{IsListWalk, WalksMakeFewLoads, GetsOnlyLook}
use Rattle.list_walks.proofs.Steps.{nearer}

pub make_few_loads : WalksMakeFewLoads
make_few_loads layout op readings walks =
    let few = few_left _ _ _ (λ w. left_at w.stage (bounds layout).links w.links)
    (λ w place word wants. nearer (bounds layout) op w w.stage place word wants) start readings walks in
    omega (arith, few)

-- so those of a `get` are as few as plans want
pub get_few : (layout : Layout) (key : ℕ) (readings : Readings) → IsListWalk layout (Get key) readings → length readings ≤ 3 * slot_count layout 2 + 28
get_few layout key readings walks = let few = make_few_loads layout (Get key) readings walks in omega (arith, few)

-- form 31
looks_in : (t : Thunk) → t.form ≡ 31 → list_all is_look (list_steps t) ≡ true
looks_in t is = subst (λ form. list_all is_look (list_steps (record t { form = form })) ≡ true) (sym is) (by (fits_look t))
  where
    by : (b : Bool) → list_all is_look (body_of (cond b Look Empty) (record t { form = 31 })) ≡ true
    by true = refl
    by false = refl

pub only_look : GetsOnlyLook
only_look layout key readings thunk fits =
    let w = walk_of layout (Get key) readings in
    let whole = both_true (has_one_key (Get key)) _ fits in
    let parts = both_true (is_end w.stage) _ whole.1 in
    let form = both_true (thunk.form == 31) _ parts.1 in
    looks_in thunk (equal_of thunk.form 31 form.0)
