-- Cells of nodes are different places.
use Rattle.std.proofs.Common.{◌≡◌, ◌≢◌, ℕ, Bool, true, false, refl, arith}
use Rattle.tree_bodies.specs.Tree.{key_cell, mark_of, child_of}

pub child_apart : (b c : Bool) (t a : ℕ) → (b ≡ c → t ≢ a) → child_of b t ≢ child_of c a
child_apart true true t a ne e = ne refl (let z : t ≡ a = omega (arith, e) in z)
child_apart false false t a ne e = ne refl (let z : t ≡ a = omega (arith, e) in z)
child_apart true false t a ne e = omega (arith, e)
child_apart false true t a ne e = omega (arith, e)

pub key_apart : (c : Bool) (t a : ℕ) → key_cell t ≢ child_of c a
key_apart true t a e = omega (arith, e)
key_apart false t a e = omega (arith, e)

pub mark_apart : (c : Bool) (t a : ℕ) → mark_of t ≢ child_of c a
mark_apart true t a e = omega (arith, e)
mark_apart false t a e = omega (arith, e)

pub key_no_mark : (t a : ℕ) → key_cell t ≢ mark_of a
key_no_mark t a e = omega (arith, e)

pub child_no_mark : (b : Bool) (t a : ℕ) → child_of b t ≢ mark_of a
child_no_mark true t a e = omega (arith, e)
child_no_mark false t a e = omega (arith, e)

pub mark_other : (t a : ℕ) → t ≢ a → mark_of t ≢ mark_of a
mark_other t a ne e = ne (let z : t ≡ a = omega (arith, e) in z)
