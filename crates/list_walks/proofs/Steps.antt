-- Each load brings a walk nearer to its end.
use Rattle.std.proofs.Common.{◌≡◌, ℕ, suc, ◌+◌, ◌*◌, ◌<◌, Bool, true, false, cond, refl, arith, Some}
use Rattle.std.specs.Prelude.{◌==◌, ◌&&◌, not, ◌-◌, nat_le, nat_lt}
use Rattle.std.proofs.lemmas.Bool.Decides.{nat_tests}
use Rattle.std.proofs.lemmas.Option.{none-some}
use Rattle.runner_parts.specs.structure_laws.specs.map_history.specs.declared.op.Op.{Op}
use Rattle.runner_parts.specs.structure_laws.specs.map_history.specs.Keys.{key_of}
use Rattle.runner_parts.specs.structure_laws.specs.body_terms.specs.Word.{value_of}
use Rattle.list_laws.specs.bucket_laws.specs.Walk.{Bounds, is_del}
use Rattle.list_laws.specs.Walk.{Stage, AtLink, AtKey, AtValue, AtLock, AtMark, AtNodeLock, AtNodeMark, AtEnd, Refused}
use Rattle.list_laws.specs.Walk.{Walk, is_ready, takes_out, at_key, wanted_at, fed}
use Rattle.list_walks.specs.Walking.{Walking, wanted_by, fed_by, left_at, left_by}

link_nearer : (links limit : ℕ) (none far : Bool) → nat_le limit (suc links) ≡ far
    → left_at (cond none Refused (cond far Refused AtKey)) limit (suc links) < 2 * (limit - links) + 5
link_nearer links limit true far e = omega arith
link_nearer links limit false true e = omega arith
link_nearer links limit false false e = let low : suc links < limit = grind (arith, nat_tests, e) in omega (arith, low)

stop_nearer : (limit links : ℕ) (found del : Bool)
    → left_at (cond (found && not del) AtValue AtLock) limit links < 2 * (limit - links) + 6
stop_nearer limit links true true = omega arith
stop_nearer limit links true false = omega arith
stop_nearer limit links false del = omega arith

takes_nearer : (limit links : ℕ) (takes : Bool) → left_at (cond takes AtNodeLock AtEnd) limit links < 3
takes_nearer limit links true = omega arith
takes_nearer limit links false = omega arith

-- a lock or a mark
tested_nearer : (limit links most : ℕ) (stage : Stage) (passes : Bool) → left_at stage limit links < most
    → left_at (cond passes stage Refused) limit links < most
tested_nearer limit links most stage true low = low
tested_nearer limit links most stage false low = omega (arith, low)

module _ (b : Bounds) (op : Op) (w : Walk) where
  key_nearer : (less : Bool) (word : ℕ)
      → left_at (at_key op w less word).stage b.links (at_key op w less word).links < 2 * (b.links - w.links) + 6
  key_nearer true word = omega arith
  key_nearer false word = stop_nearer b.links w.links (value_of word == key_of op) (is_del op)

  pub nearer : (stage : Stage) (place word : ℕ) → wanted_at w stage ≡ Some place
      → left_at (fed b op w stage word).stage b.links (fed b op w stage word).links < left_at stage b.links w.links
  nearer AtLink place word wants =
      link_nearer w.links b.links (value_of word == 0) (nat_le b.links (suc w.links)) refl
  nearer AtKey place word wants = key_nearer (nat_lt (value_of word) (key_of op)) word
  nearer AtValue place word wants = omega arith
  nearer AtLock place word wants = tested_nearer b.links w.links 4 AtMark (is_ready b word) (omega arith)
  nearer AtMark place word wants = tested_nearer b.links w.links 3 (cond (takes_out op && w.found) AtNodeLock AtEnd)
      (value_of word == 0) (takes_nearer b.links w.links (takes_out op && w.found))
  nearer AtNodeLock place word wants = tested_nearer b.links w.links 2 AtNodeMark (is_ready b word) (omega arith)
  nearer AtNodeMark place word wants = tested_nearer b.links w.links 1 AtEnd (value_of word == 0) (omega arith)
  nearer AtEnd place word wants = absurd (none-some place wants)
  nearer Refused place word wants = absurd (none-some place wants)

pub walk_nearer : (w : Walking) (place word : ℕ) → wanted_by w ≡ Some place → left_by (fed_by w word) < left_by w
walk_nearer w place word wants = nearer w.bounds w.op w.walk w.walk.stage place word wants
