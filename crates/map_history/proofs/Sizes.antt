-- How much a map grows.
use Rattle.std.proofs.Common.{◌≡◌, ℕ, Bool, true, false, cond, Option, None, Some, ◌+◌, ◌-◌, ◌≤◌, ap, ◌∙◌, arith, refl}
use Rattle.std.proofs.lemmas.Cmp.{nat_cmp_total}
use Rattle.std.specs.FinMap.{contains_key, get, insert, remove, len, len-insert, len-remove}
use Rattle.map_history.specs.declared.op.Op.{Op}
use Rattle.map_history.specs.declared.op.Op.TheVariants.{Get, Ins, Del, Put, Mov}
use Rattle.map_history.specs.Replay.{Pairs, after_move, map_after}

inserted : (pairs : Pairs) (key value : ℕ) (there : Bool) → contains_key pairs key ≡ there → len (cond there pairs (insert pairs key value)) ≤ len pairs + 1
inserted pairs key value true is = omega arith
inserted pairs key value false is = omega (arith, len-insert nat_cmp_total pairs key value ∙ ap (λ b. cond b (len pairs) (len pairs + 1)) is)

removed : (there : Bool) (before after : ℕ) → after ≡ cond there (before - 1) before → after ≤ before
removed true before after is = omega arith
removed false before after is = omega arith

grown : (there : Bool) (before after : ℕ) → after ≡ cond there before (before + 1) → after ≤ before + 1
grown true before after is = omega arith
grown false before after is = omega arith

-- so does an insertion, whatever stood there
put : (pairs : Pairs) (key value : ℕ) → len (insert pairs key value) ≤ len pairs + 1
put pairs key value = grown (contains_key pairs key) (len pairs) _ (len-insert nat_cmp_total pairs key value)

-- and a move
moved : (pairs : Pairs) (from to : ℕ) (had there : Option ℕ) → len (after_move pairs from to had there) ≤ len pairs + 1
moved pairs from to None there = omega arith
moved pairs from to (Some value) (Some other) = omega arith
moved pairs from to (Some value) None =
    let less = removed (contains_key pairs from) (len pairs) _ (len-remove nat_cmp_total pairs from) in
    let more = put (remove pairs from) to value in omega (arith, less, more)

-- an operation adds a pair at the most
pub len-map_after : (pairs : Pairs) (op : Op) → len (map_after pairs op) ≤ len pairs + 1
len-map_after pairs (Get key) = omega arith
len-map_after pairs (Ins key value) = inserted pairs key value (contains_key pairs key) refl
len-map_after pairs (Del key) = let less = removed (contains_key pairs key) (len pairs) _ (len-remove nat_cmp_total pairs key) in omega (arith, less)
len-map_after pairs (Put key value) = put pairs key value
len-map_after pairs (Mov from to) = moved pairs from to (get pairs from) (get pairs to)
