-- What a walk knows of the nodes that it has come by, and of its first lock.
use Rattle.std.proofs.Common.{◌≡◌, ℕ, suc, Bool, true, false, cond, refl, sym, subst, ◌∙◌, arith, Some}
use Rattle.std.specs.Prelude.{◌==◌, ◌&&◌, nat_le, nat_lt, slice_get}
use Rattle.std.proofs.lemmas.Option.{none-some}
use Rattle.std.proofs.lemmas.Bool.{and_from}
use Rattle.runner_parts.specs.epoch_core.specs.small_lemmas.proofs.Bools.{from_false as false_true}
use Rattle.runner_parts.specs.epoch_core.specs.small_lemmas.proofs.Lists.{same_number as some_eq}
use Rattle.runner_parts.specs.epoch_core.specs.small_lemmas.proofs.Numbers.{self_tested as eq_test}
use Rattle.runner_parts.specs.structure_laws.specs.map_history.specs.declared.op.Op.{Op}
use Rattle.runner_parts.specs.structure_laws.specs.map_history.specs.Keys.{key_of}
use Rattle.runner_parts.specs.structure_laws.specs.body_terms.specs.Word.{value_of}
use Rattle.runner_parts.specs.structure_laws.specs.body_terms.proofs.ShapeLemmas.{found_any}
use Rattle.runner_parts.specs.structure_laws.specs.Scene.{Readings}
use Rattle.tree_laws.specs.node_laws.proofs.Walked.{walk_keeps}
use Rattle.tree_laws.specs.bucket_laws.specs.Walk.{Bounds, is_del}
use Rattle.tree_laws.specs.tree_bodies.specs.Tree.{lock_of, left_of}
use Rattle.tree_laws.specs.Walk.{Stage, AtRoot, AtLeft, AtKey, AtRight, AtValue, AtGrandLock, AtGrandMark, AtLock, AtMark, AtEnd, Refused, Step, Walk, start, node_of, wanted_at, is_ready, after_leaf, followed, at_key, fed, walk}
use Rattle.tree_laws.specs.Leaves.{shows_inner}
use Rattle.tree_laws.proofs.WalkReads.{IsAmong}

some_test : (a : ℕ) → (a == 0) ≡ false → nat_lt 0 a ≡ true
some_test a e = grind arith

-- a left link that was read and isn't 0 shows its node to be inner
pub shown : (all : Readings) (t word : ℕ) → IsAmong all (left_of t) word → (value_of word == 0) ≡ false → shows_inner all (left_of t) ≡ true
shown all t word among some = found_any (λ reading. reading.0 == left_of t && nat_lt 0 (value_of reading.1)) all among.0 (left_of t, word) among.1
    (and_from (left_of t == left_of t) (nat_lt 0 (value_of word)) (eq_test (left_of t)) (some_test (value_of word) some))

module _ (b : Bounds) (op : Op) (all : Readings) where
  -- the nodes whose links were followed last were shown to be inner; where there is one alone, it is the root
  pub record Trail (last grand : Step) (deep : Bool) : Type 0 where
    pub inner : shows_inner all (left_of last.from) ≡ true
    pub grand_inner : deep ≡ true → shows_inner all (left_of grand.from) ≡ true
    pub top : deep ≡ false → IsAmong all (left_of 0) last.word

  abbrev pub TrailOf : Walk → Type 0
  TrailOf w = Trail w.last w.grand w.deep

  -- a removal has read the first lock free and not spent
  abbrev pub HasGrand : Walk → Type 0
  HasGrand w = is_del op ≡ true → w.found ≡ true → IsAmong all (lock_of w.grand.from) w.grand_lock × (is_ready b w.grand_lock ≡ true)

  abbrev pub Knows : Walk → Stage → Type 0
  Knows w AtRoot = w.deep ≡ false
  Knows w AtLeft = TrailOf w
  Knows w AtKey = TrailOf w × IsAmong all (left_of (node_of w)) w.left
  Knows w AtRight = TrailOf w × (shows_inner all (left_of (node_of w)) ≡ true)
  Knows w AtValue = TrailOf w × (is_del op ≡ false)
  Knows w AtGrandLock = TrailOf w × (w.deep ≡ true)
  Knows w AtGrandMark = TrailOf w × HasGrand w × (w.deep ≡ true)
  Knows w AtLock = TrailOf w × HasGrand w
  Knows w AtMark = TrailOf w × HasGrand w
  Knows w AtEnd = TrailOf w × HasGrand w
  Knows w Refused = Unit {0}

  -- behind a link
  knows_link : (w : Walk) (none far : Bool) → (none ≡ false → TrailOf w) → Knows w (cond none Refused (cond far Refused AtLeft))
  knows_link w true far trail = tt
  knows_link w false true trail = tt
  knows_link w false false trail = trail refl

  knows_followed : (w : Walk) (side : Bool) (word : ℕ) → TrailOf w → shows_inner all (left_of (node_of w)) ≡ true → Knows (followed b w side word) (followed b w side word).stage
  knows_followed w side word trail inner = knows_link (followed b w side word) (value_of word == 0) (nat_le b.links (suc w.links))
      (λ some. record { inner = inner; grand_inner = λ deep. trail.inner; top = λ e. false_true (sym e) })

  -- behind a leaf's key
  knows_leaf : (w : Walk) (key : ℕ) (found : Bool) → TrailOf w → Knows (record w { stage = after_leaf op w.deep found; key = key; found = found }) (after_leaf op w.deep found)
  knows_leaf w key false trail = (trail, λ del is. false_true is)
  knows_leaf w key true trail = by (is_del op) w.deep refl refl
    where
      by : (del deep : Bool) → is_del op ≡ del → w.deep ≡ deep → Knows (record w { stage = cond del (cond deep AtGrandLock Refused) AtValue; key = key; found = true }) (cond del (cond deep AtGrandLock Refused) AtValue)
      by true true e is_deep = (trail, is_deep)
      by true false e is_deep = tt
      by false deep e is_deep = (trail, e)

  knows_key : (w : Walk) (leaf less : Bool) (word : ℕ) → TrailOf w → IsAmong all (left_of (node_of w)) w.left → (value_of w.left == 0) ≡ leaf
      → Knows (at_key b op w leaf less word) (at_key b op w leaf less word).stage
  knows_key w true less word trail among test = knows_leaf w (value_of word) (value_of word == key_of op) trail
  knows_key w false true word trail among test = knows_followed w true w.left trail (shown all (node_of w) w.left among test)
  knows_key w false false word trail among test = (trail, shown all (node_of w) w.left among test)

  -- behind a lock or a mark
  knows_tested : (w : Walk) (stage : Stage) (passes : Bool) → (passes ≡ true → Knows w stage) → Knows w (cond passes stage Refused)
  knows_tested w stage true knows = knows refl
  knows_tested w stage false knows = tt

  knows_fed : (w : Walk) (stage : Stage) (p word : ℕ) → Knows w stage → wanted_at w stage ≡ Some p → IsAmong all p word
      → Knows (fed b op w stage word) (fed b op w stage word).stage
  knows_fed w AtRoot p word shallow want among = knows_link (fed b op w AtRoot word) (value_of word == 0) (nat_le b.links 1) (λ some. record {
    inner = shown all 0 word (first among) some;
    grand_inner = λ deep. false_true (sym shallow ∙ deep);
    top = λ e. first among;
  })
    where
      first : IsAmong all p word → IsAmong all (left_of 0) word
      first among = subst (λ p. IsAmong all p word) (sym (some_eq (left_of 0) p want)) among
  knows_fed w AtLeft p word trail want among = (trail, subst (λ p. IsAmong all p word) (sym (some_eq (left_of (node_of w)) p want)) among)
  knows_fed w AtKey p word known want among = knows_key w (value_of w.left == 0) (nat_lt (key_of op) (value_of word)) word known.0 known.1 refl
  knows_fed w AtRight p word known want among = knows_followed w false word known.0 known.1
  knows_fed w AtValue p word known want among = (known.0, λ del found. false_true (sym known.1 ∙ del))
  knows_fed w AtGrandLock p word known want among = knows_tested (fed b op w AtGrandLock word) AtGrandMark (is_ready b word)
      (λ ready. (known.0, (λ del found. (subst (λ p. IsAmong all p word) (sym (some_eq (lock_of w.grand.from) p want)) among, ready)), known.1))
  knows_fed w AtGrandMark p word known want among = knows_tested (fed b op w AtGrandMark word) AtLock (value_of word == 0) (λ passes. (known.0, known.1))
  knows_fed w AtLock p word known want among = knows_tested (fed b op w AtLock word) AtMark (is_ready b word) (λ passes. known)
  knows_fed w AtMark p word known want among = knows_tested (fed b op w AtMark word) AtEnd (value_of word == 0) (λ passes. known)
  knows_fed w AtEnd p word known want among = absurd (none-some p want)
  knows_fed w Refused p word known want among = absurd (none-some p want)

  -- so it is behind readings that all stand in the list
  pub knows_walked : (w : Walk) (readings : Readings)
      → ((i : ℕ) (reading : ℕ × ℕ) → slice_get readings i ≡ Some reading → (j : ℕ) × (slice_get all j ≡ Some reading))
      → Knows w w.stage → Knows (walk b op w readings) (walk b op w readings).stage
  knows_walked = walk_keeps _ _ _ (λ w. Knows w w.stage) (λ reading. (j : ℕ) × (slice_get all j ≡ Some reading))
      (λ w reading want here known. knows_fed w w.stage reading.0 reading.1 known want (here.0, here.1))

pub knows : (b : Bounds) (op : Op) (readings : Readings) → Knows b op readings (walk b op start readings) (walk b op start readings).stage
knows b op readings = knows_walked b op readings start readings (λ i reading h. (i, h)) refl
