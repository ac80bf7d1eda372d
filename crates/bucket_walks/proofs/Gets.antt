-- Walks make few loads, and the section of a `get` changes nothing.
use Rattle.std.proofs.Common.{◌≡◌, ℕ, ◌+◌, ◌*◌, ◌^◌, ◌≤◌, length, Bool, true, false, cond, [], refl, sym, subst, arith}
use Rattle.std.specs.Prelude.{◌==◌}
use Rattle.std.specs.List.{list_all}
use Rattle.structure_laws.specs.map_history.specs.declared.op.Op.{Op}
use Rattle.structure_laws.specs.map_history.specs.declared.op.Op.TheVariants.{Get}
use Rattle.structure_laws.specs.body_terms.specs.Shape.{is_look}
use Rattle.structure_laws.specs.body_terms.specs.declared.thunk.Thunk.{Thunk}
use Rattle.bucket_laws.specs.bucket_bodies.specs.section_body.specs.Bucket.{bucket_index, read_steps, fits_read}
use Rattle.bucket_laws.specs.Halves.{steps}
use Rattle.structure_laws.specs.table_words.specs.declared.layout.Layout.{Layout}
use Rattle.structure_laws.specs.table_words.specs.Places.{slot_count}
use Rattle.structure_laws.specs.Scene.{Readings}
use Rattle.structure_laws.proofs.Changes.{both_true, equal_of}
use Rattle.bucket_laws.specs.Walk.{start, is_end, has_one_key}
use Rattle.bucket_laws.specs.TwoWalk.{two_start}
use Rattle.bucket_laws.specs.Buckets.{bounds, walk_of}
use Rattle.bucket_walks.specs.Few.{WalksMakeFewLoads, GetsOnlyLook, IsBucketWalk, MovesMakeFewLoads, MovesGetsOnlyLook}
use Rattle.bucket_walks.proofs.Steps.{nearer, few_left}
use Rattle.bucket_walks.proofs.TwoSteps.{two_nearer, two_few_left}

pub make_few_loads : (bits : ℕ) → WalksMakeFewLoads bits
make_few_loads bits = record {
  nearer = λ b op w place word wants. nearer (2 ^ bits) (λ key. bucket_index key bits) b op w place word wants;
  few = λ layout op readings walks.
      let few = few_left (2 ^ bits) (λ key. bucket_index key bits) (bounds (2 ^ bits) (λ key. bucket_index key bits) layout) op start readings walks in
      omega (arith, few);
}

-- so they are within what a `get` may make
pub get_few : (bits : ℕ) (layout : Layout) (op : Op) (readings : Readings) → IsBucketWalk bits layout op readings → length readings ≤ 3 * slot_count layout 0 + 28
get_few bits layout op readings walks = let few = (make_few_loads bits).few layout op readings walks in omega (arith, few)

-- form 1
looks_in : (two : Bool) (t : Thunk) → t.form ≡ 1 → list_all is_look (steps two t) ≡ true
looks_in true t one = subst (λ form. list_all is_look (steps true (record t { form = form })) ≡ true) (sym one) (by (fits_read t))
  where
    by : (b : Bool) → list_all is_look (cond b (read_steps t) []) ≡ true
    by true = refl
    by false = refl
looks_in false t one = subst (λ form. list_all is_look (steps false (record t { form = form })) ≡ true) (sym one) (by (fits_read t))
  where
    by : (b : Bool) → list_all is_look (cond b (read_steps t) []) ≡ true
    by true = refl
    by false = refl

pub only_look : (bits : ℕ) → GetsOnlyLook bits
only_look bits layout key readings thunk fits =
    let w = walk_of (2 ^ bits) (λ k. bucket_index k bits) layout (Get key) readings in
    let whole = both_true (has_one_key (Get key)) _ fits in
    let parts = both_true (is_end w.stage) _ whole.1 in
    let form = both_true (thunk.form == 1) _ parts.1 in
    looks_in false thunk (equal_of thunk.form 1 form.0)

-- so it is on the table that moves keys, too
pub moves_only_look : (bits : ℕ) → MovesGetsOnlyLook bits
moves_only_look bits layout key readings thunk fits =
    let w = walk_of (2 ^ bits) (λ k. bucket_index k bits) layout (Get key) readings in
    let whole = both_true (has_one_key (Get key)) _ fits in
    let parts = both_true (is_end w.stage) _ whole.1 in
    let form = both_true (thunk.form == 1) _ parts.1 in
    looks_in true thunk (equal_of thunk.form 1 form.0)

pub moves_few : (bits : ℕ) → MovesMakeFewLoads bits
moves_few bits = record {
  nearer = λ b from to w place word wants. two_nearer (2 ^ bits) (λ key. bucket_index key bits) from to b w place word wants;
  few = λ layout from to readings walks.
      let few = two_few_left (2 ^ bits) (λ key. bucket_index key bits) from to (bounds (2 ^ bits) (λ key. bucket_index key bits) layout) two_start readings walks in
      omega (arith, few);
}
