-- A walk has found its key exactly where the leaf's key that it read is it.
use Rattle.std.specs.Prelude.{◌==◌, nat_le, nat_lt, cond, Bool, true, false, Some, slice_get}
use Rattle.std.proofs.Common.{◌≡◌, ℕ, suc, refl, sym, ap, ◌∙◌}
use Rattle.structure_laws.specs.table_words.specs.small_lemmas.proofs.Bools.{false_not_true as false_true}
use Rattle.structure_laws.specs.table_words.specs.small_lemmas.proofs.Lists.{same_number as some_eq}
use Rattle.structure_laws.specs.map_history.specs.declared.op.Op.{Op}
use Rattle.structure_laws.specs.map_history.specs.Keys.{key_of}
use Rattle.structure_laws.specs.body_terms.specs.Word.{value_of}
use Rattle.structure_laws.specs.Scene.{Readings}
use Rattle.bucket_laws.specs.Walk.{Bounds, is_del}
use Rattle.node_laws.proofs.Walked.{walk_keeps}
use Rattle.tree_bodies.specs.Tree.{right_of}
use Rattle.tree_laws.specs.Walk.{Stage, AtRoot, AtLeft, AtKey, AtRight, AtValue, AtGrandLock, AtGrandMark, AtLock, AtMark, AtEnd, Refused, Walk, start, node_of, wanted_at, after_link, after_leaf, is_ready, at_key, fed, walk}
use Rattle.tree_laws.proofs.WalkReads.{is_late}

module _ (b : Bounds) (op : Op) where
  abbrev IsKeyed : Walk → Type 0
  IsKeyed w = is_late w.stage ≡ true → w.found ≡ (w.key == key_of op)

  early : (links word : ℕ) → is_late (after_link b links word) ≡ true → ⊥
  early links word = by (value_of word == 0) (nat_le b.links links)
    where
      by : (none far : Bool) → is_late (cond none Refused (cond far Refused AtLeft)) ≡ true → ⊥
      by true far e = let z = e in cc
      by false true e = let z = e in cc
      by false false e = let z = e in cc

  key_keyed : (w : Walk) (leaf less : Bool) (word : ℕ) → IsKeyed (at_key b op w leaf less word)
  key_keyed w true less word late = refl
  key_keyed w false true word late = absurd (early (suc w.links) w.left late)
  key_keyed w false false word late = absurd (let z = late in cc)

  fed_keyed : (w : Walk) (stage : Stage) (word : ℕ) → w.stage ≡ stage → IsKeyed w → IsKeyed (fed b op w stage word)
  fed_keyed w AtRoot word at old late = absurd (early 1 word late)
  fed_keyed w AtLeft word at old late = absurd (let z = late in cc)
  fed_keyed w AtKey word at old late = key_keyed w (value_of w.left == 0) (nat_lt (key_of op) (value_of word)) word late
  fed_keyed w AtRight word at old late = absurd (early (suc w.links) word late)
  fed_keyed w AtValue word at old late = old (ap is_late at)
  fed_keyed w AtGrandLock word at old late = old (ap is_late at)
  fed_keyed w AtGrandMark word at old late = old (ap is_late at)
  fed_keyed w AtLock word at old late = old (ap is_late at)
  fed_keyed w AtMark word at old late = old (ap is_late at)
  fed_keyed w AtEnd word at old late = old late
  fed_keyed w Refused word at old late = old late

  pub walk_keyed : (readings : Readings) → is_late (walk b op start readings).stage ≡ true
      → (walk b op start readings).found ≡ ((walk b op start readings).key == key_of op)
  walk_keyed readings = walk_keeps _ _ _ IsKeyed (λ reading. Unit {0})
      (λ w reading want here old. fed_keyed w w.stage reading.1 refl old) start readings (λ i reading h. tt)
      (λ late. absurd (let z = late in cc))

-- the walk has loaded the value of its key's leaf, if it loads it; it is at the grandparent's lock or mark
abbrev is_behind : Stage → Bool
is_behind AtRoot = false
is_behind AtLeft = false
is_behind AtKey = false
is_behind AtRight = false
is_behind AtValue = false
is_behind AtGrandLock = false
is_behind AtGrandMark = false
is_behind AtLock = true
is_behind AtMark = true
is_behind AtEnd = true
is_behind Refused = false

abbrev is_grand : Stage → Bool
is_grand AtRoot = false
is_grand AtLeft = false
is_grand AtKey = false
is_grand AtRight = false
is_grand AtValue = false
is_grand AtGrandLock = true
is_grand AtGrandMark = true
is_grand AtLock = false
is_grand AtMark = false
is_grand AtEnd = false
is_grand Refused = false

module _ (all : Readings) (b : Bounds) (op : Op) where
  abbrev IsLoaded : Walk → Type 0
  IsLoaded w = (i : ℕ) × (word : ℕ) × (slice_get all i ≡ Some (right_of (node_of w), word)) × (value_of word ≡ w.value)

  -- the value of the key's leaf was read in its place; the grandparent's words are loaded for a removal alone
  record HasValue (w : Walk) : Type 0 where
    value : is_behind w.stage ≡ true → is_del op ≡ false → w.found ≡ true → IsLoaded w
    grand : is_grand w.stage ≡ true → is_del op ≡ true

  -- of an early stage there is nothing to say
  none_yet : (w : Walk) → (is_behind w.stage ≡ true → ⊥) → (is_grand w.stage ≡ true → ⊥) → HasValue w
  none_yet w behind grand = record { value = λ e. absurd (behind e); grand = λ e. absurd (grand e) }

  link_behind : (links word : ℕ) → is_behind (after_link b links word) ≡ true → ⊥
  link_behind links word = by (value_of word == 0) (nat_le b.links links)
    where
      by : (none far : Bool) → is_behind (cond none Refused (cond far Refused AtLeft)) ≡ true → ⊥
      by true far e = false_true e
      by false true e = false_true e
      by false false e = false_true e

  link_grand : (links word : ℕ) → is_grand (after_link b links word) ≡ true → ⊥
  link_grand links word = by (value_of word == 0) (nat_le b.links links)
    where
      by : (none far : Bool) → is_grand (cond none Refused (cond far Refused AtLeft)) ≡ true → ⊥
      by true far e = false_true e
      by false true e = false_true e
      by false false e = false_true e

  leaf_value : (w : Walk) (hit : Bool) (word : ℕ) → HasValue (record w { stage = after_leaf op w.deep hit; key = value_of word; found = hit })
  leaf_value w true word = by (is_del op) w.deep refl
    where
      by : (del deep : Bool) → is_del op ≡ del → HasValue (record w { stage = cond del (cond deep AtGrandLock Refused) AtValue; key = value_of word; found = true })
      by true true e = record { value = λ behind. absurd (false_true behind); grand = λ grand. e }
      by true false e = none_yet _ false_true false_true
      by false deep e = none_yet _ false_true false_true
  leaf_value w false word = record { value = λ behind del found. absurd (false_true found); grand = λ grand. absurd (false_true grand) }

  key_value : (w : Walk) (leaf less : Bool) (word : ℕ) → HasValue (at_key b op w leaf less word)
  key_value w true less word = leaf_value w (value_of word == key_of op) word
  key_value w false true word = none_yet _ (link_behind (suc w.links) w.left) (link_grand (suc w.links) w.left)
  key_value w false false word = none_yet _ false_true false_true

  -- a test of a lock or a mark
  tested : (w : Walk) (passes : Bool) (stage : Stage) (grand_lock grand_mark lock mark : ℕ) → HasValue w
      → (is_behind stage ≡ true → is_del op ≡ false → w.found ≡ true → IsLoaded w) → (is_grand stage ≡ true → is_del op ≡ true)
      → HasValue (record w { stage = cond passes stage Refused; grand_lock = grand_lock; grand_mark = grand_mark; lock = lock; mark = mark })
  tested w true stage grand_lock grand_mark lock mark old value grand = record { value = value; grand = grand }
  tested w false stage grand_lock grand_mark lock mark old value grand = none_yet _ false_true false_true

  fed_value : (w : Walk) (stage : Stage) (p word : ℕ) → w.stage ≡ stage → wanted_at w stage ≡ Some p → (i : ℕ) → slice_get all i ≡ Some (p, word)
      → HasValue w → HasValue (fed b op w stage word)
  fed_value w AtRoot p word at want i read old = none_yet _ (link_behind 1 word) (link_grand 1 word)
  fed_value w AtLeft p word at want i read old = none_yet _ false_true false_true
  fed_value w AtKey p word at want i read old = key_value w (value_of w.left == 0) (nat_lt (key_of op) (value_of word)) word
  fed_value w AtRight p word at want i read old = none_yet _ (link_behind (suc w.links) word) (link_grand (suc w.links) word)
  fed_value w AtValue p word at want i read old = record {
    value = λ behind del found. (i, word, read ∙ ap (λ q. Some (q, word)) (sym (some_eq (right_of (node_of w)) p want)), refl);
    grand = λ grand. absurd (false_true grand);
  }
  fed_value w AtGrandLock p word at want i read old = tested w (is_ready b word) AtGrandMark word w.grand_mark w.lock w.mark old
      (λ behind. absurd (false_true behind)) (λ grand. old.grand (ap is_grand at))
  fed_value w AtGrandMark p word at want i read old = tested w (value_of word == 0) AtLock w.grand_lock word w.lock w.mark old
      (λ behind del found. absurd (false_true (sym del ∙ old.grand (ap is_grand at)))) (λ grand. absurd (false_true grand))
  fed_value w AtLock p word at want i read old = tested w (is_ready b word) AtMark w.grand_lock w.grand_mark word w.mark old
      (λ behind. old.value (ap is_behind at)) (λ grand. absurd (false_true grand))
  fed_value w AtMark p word at want i read old = tested w (value_of word == 0) AtEnd w.grand_lock w.grand_mark w.lock word old
      (λ behind. old.value (ap is_behind at)) (λ grand. absurd (false_true grand))
  fed_value w AtEnd p word at want i read old = old
  fed_value w Refused p word at want i read old = old

  pub value_read : (walk b op start all).stage ≡ AtEnd → is_del op ≡ false → (walk b op start all).found ≡ true → IsLoaded (walk b op start all)
  value_read end del found = (walk_keeps _ _ _ HasValue (λ reading. (i : ℕ) × (slice_get all i ≡ Some reading))
      (λ w reading want here old. fed_value w w.stage reading.0 reading.1 refl want here.0 here.1 old) start all
      (λ i reading h. (i, h)) (none_yet start false_true false_true)).value (ap is_behind end) del found
