-- Each load brings a walk nearer to its end.
use Rattle.std.proofs.Common.{◌≡◌, ℕ, suc, ◌+◌, ◌*◌, ◌<◌, Bool, true, false, cond, refl, arith, Some}
use Rattle.std.specs.Prelude.{◌==◌, ◌-◌, nat_le, nat_lt}
use Rattle.std.proofs.lemmas.Bool.Decides.{nat_tests}
use Rattle.std.proofs.lemmas.Option.{none-some}
use Rattle.runner_parts.specs.structure_laws.specs.map_history.specs.declared.op.Op.{Op}
use Rattle.runner_parts.specs.structure_laws.specs.map_history.specs.Keys.{key_of}
use Rattle.runner_parts.specs.structure_laws.specs.body_terms.specs.Word.{value_of}
use Rattle.tree_laws.specs.bucket_laws.specs.Walk.{Bounds, is_del}
use Rattle.tree_laws.specs.Walk.{Stage, AtRoot, AtLeft, AtKey, AtRight, AtValue, AtGrandLock, AtGrandMark, AtLock, AtMark, AtEnd, Refused, Walk, is_ready, after_leaf, at_key, wanted_at, fed}
use Rattle.tree_walks.specs.Walking.{Walking, wanted_by, fed_by, left_at, left_by}

-- the first link, and each further one
first_nearer : (limit : ℕ) (none far : Bool) → nat_le limit 1 ≡ far → left_at (cond none Refused (cond far Refused AtLeft)) limit 1 < 3 * limit + 4
first_nearer limit true far e = omega arith
first_nearer limit false true e = omega arith
first_nearer limit false false e = let low : 1 < limit = grind (arith, nat_tests, e) in omega (arith, low)

link_nearer : (links limit : ℕ) (none far : Bool) → nat_le limit (suc links) ≡ far
    → left_at (cond none Refused (cond far Refused AtLeft)) limit (suc links) < 3 * (limit - links) + 4
link_nearer links limit true far e = omega arith
link_nearer links limit false true e = omega arith
link_nearer links limit false false e = let low : suc links < limit = grind (arith, nat_tests, e) in omega (arith, low)

leaf_nearer : (limit links : ℕ) (del deep found : Bool) (op : Op) → is_del op ≡ del → left_at (after_leaf op deep found) limit links < 3 * (limit - links) + 5
leaf_nearer limit links del deep false op e = omega arith
leaf_nearer limit links del deep true op e = by (is_del op) deep
  where
    by : (del deep : Bool) → left_at (cond del (cond deep AtGrandLock Refused) AtValue) limit links < 3 * (limit - links) + 5
    by true true = omega arith
    by true false = omega arith
    by false deep = omega arith

-- a lock or a mark
tested_nearer : (limit links most : ℕ) (stage : Stage) (passes : Bool) → left_at stage limit links < most → left_at (cond passes stage Refused) limit links < most
tested_nearer limit links most stage true low = low
tested_nearer limit links most stage false low = omega (arith, low)

module _ (b : Bounds) (op : Op) (w : Walk) where
  key_nearer : (leaf less : Bool) (word : ℕ) → left_at (at_key b op w leaf less word).stage b.links (at_key b op w leaf less word).links < 3 * (b.links - w.links) + 5
  key_nearer true less word = leaf_nearer b.links w.links (is_del op) w.deep (value_of word == key_of op) op refl
  key_nearer false true word =
      let low = link_nearer w.links b.links (value_of w.left == 0) (nat_le b.links (suc w.links)) refl in omega (arith, low)
  key_nearer false false word = omega arith

  pub nearer : (stage : Stage) (place word : ℕ) → wanted_at w stage ≡ Some place
      → left_at (fed b op w stage word).stage b.links (fed b op w stage word).links < left_at stage b.links w.links
  nearer AtRoot place word wants = first_nearer b.links (value_of word == 0) (nat_le b.links 1) refl
  nearer AtLeft place word wants = omega arith
  nearer AtKey place word wants = key_nearer (value_of w.left == 0) (nat_lt (key_of op) (value_of word)) word
  nearer AtRight place word wants = link_nearer w.links b.links (value_of word == 0) (nat_le b.links (suc w.links)) refl
  nearer AtValue place word wants = omega arith
  nearer AtGrandLock place word wants = tested_nearer b.links w.links 4 AtGrandMark (is_ready b word) (omega arith)
  nearer AtGrandMark place word wants = tested_nearer b.links w.links 3 AtLock (value_of word == 0) (omega arith)
  nearer AtLock place word wants = tested_nearer b.links w.links 2 AtMark (is_ready b word) (omega arith)
  nearer AtMark place word wants = tested_nearer b.links w.links 1 AtEnd (value_of word == 0) (omega arith)
  nearer AtEnd place word wants = absurd (none-some place wants)
  nearer Refused place word wants = absurd (none-some place wants)

pub walk_nearer : (w : Walking) (place word : ℕ) → wanted_by w ≡ Some place → left_by (fed_by w word) < left_by w
walk_nearer w place word wants = nearer w.bounds w.op w.walk w.walk.stage place word wants
