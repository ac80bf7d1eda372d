-- What a walk of the tree takes from its readings alone.
use Rattle.std.proofs.Common.{◌≡◌, ℕ, suc, ◌+◌, ◌*◌, ◌<◌, Bool, true, false, cond, refl, sym, ap, ◌∙◌, subst, inl, inr, arith}
use Rattle.std.specs.Prelude.{◌==◌, ◌&&◌, ◌-◌, ◌%◌, ◌^◌, ◌⊎◌, nat_le, nat_lt, Some, slice_get}
use Rattle.std.specs.List.{list_any}
use Rattle.std.proofs.lemmas.Option.{none-some}
use Rattle.structure_laws.specs.table_words.specs.small_lemmas.proofs.Bools.{or_first as or_left, or_second as or_right}
use Rattle.structure_laws.specs.table_words.specs.small_lemmas.proofs.Lists.{same_number as some_eq}
use Rattle.structure_laws.specs.table_words.specs.small_lemmas.proofs.Numbers.{less_tested as lt_test, tested_some as not_zero}
use Rattle.structure_laws.specs.map_history.specs.declared.op.Op.{Op}
use Rattle.structure_laws.specs.map_history.specs.Keys.{key_of}
use Rattle.structure_laws.specs.body_terms.specs.Word.{value_of}
use Rattle.structure_laws.specs.Scene.{Readings}
use Rattle.structure_laws.proofs.Changes.{equal_of, value_small}
use Rattle.bucket_laws.specs.Walk.{Bounds, is_del}
use Rattle.shared_laws.proofs.Numbers.{any_of}
use Rattle.node_laws.proofs.Walked.{walk_keeps}
use Rattle.tree_bodies.specs.Tree.{lock_of, left_of, right_of, mark_of, child_of, slot_in}
use Rattle.tree_laws.specs.Walk.{Stage, AtRoot, AtLeft, AtKey, AtRight, AtValue, AtGrandLock, AtGrandMark, AtLock, AtMark, AtEnd, Refused, step_to, Walk, start, node_of, wanted_at, followed, after_leaf, is_ready, at_key, fed, walk}
use Rattle.tree_laws.specs.Leaves.{is_left_place, is_right_place, shows_inner, shows_link}

-- the walk has loaded a link and met no refusal; it has loaded a leaf's key; it has loaded the last lock
abbrev pub is_past : Stage → Bool
is_past AtRoot = false
is_past AtLeft = true
is_past AtKey = true
is_past AtRight = true
is_past AtValue = true
is_past AtGrandLock = true
is_past AtGrandMark = true
is_past AtLock = true
is_past AtMark = true
is_past AtEnd = true
is_past Refused = false

abbrev pub is_late : Stage → Bool
is_late AtRoot = false
is_late AtLeft = false
is_late AtKey = false
is_late AtRight = false
is_late AtValue = true
is_late AtGrandLock = true
is_late AtGrandMark = true
is_late AtLock = true
is_late AtMark = true
is_late AtEnd = true
is_late Refused = false

abbrev pub is_locked : Stage → Bool
is_locked AtRoot = false
is_locked AtLeft = false
is_locked AtKey = false
is_locked AtRight = false
is_locked AtValue = false
is_locked AtGrandLock = false
is_locked AtGrandMark = false
is_locked AtLock = false
is_locked AtMark = true
is_locked AtEnd = true
is_locked Refused = false

-- what is loaded after a leaf's key
abbrev ended : Bool → Bool → Bool → Stage
ended true del deep = cond del (cond deep AtGrandLock Refused) AtValue
ended false del deep = AtLock

-- it has loaded the last lock but one, or a removal both of the grandparent's words
abbrev pub is_marked : Stage → Bool
is_marked AtRoot = false
is_marked AtLeft = false
is_marked AtKey = false
is_marked AtRight = false
is_marked AtValue = false
is_marked AtGrandLock = false
is_marked AtGrandMark = false
is_marked AtLock = true
is_marked AtMark = true
is_marked AtEnd = true
is_marked Refused = false

pub both : (a b : Bool) → a ≡ true → b ≡ true → (a && b) ≡ true
both a b h h' = grind arith

pub eq_test : (a b : ℕ) → a ≡ b → (a == b) ≡ true
eq_test a b e = grind arith

-- a left link is one; so is the right link of a node that was read to be inner
left_place : (t : ℕ) → is_left_place (left_of t) ≡ true
left_place t = eq_test ((0 + 5 * t + 2) % 5) 2 (omega arith)

right_place : (t : ℕ) → is_right_place (right_of t) ≡ true
right_place t = eq_test ((0 + 5 * t + 3) % 5) 3 (omega arith)

before_right : (t : ℕ) → right_of t - 1 ≡ left_of t
before_right t = omega arith

module _ (all : Readings) where
  -- the readings give a link to this slot
  abbrev pub IsGiven : ℕ → Type 0
  IsGiven t = list_any (λ reading. shows_link all reading.0 && (value_of reading.1 == suc t)) all ≡ true

  -- a fixed slot, or one to which they give a link
  abbrev pub IsFrom : ℕ → Type 0
  IsFrom t = (t < 3) ⊎ IsGiven t

  -- this word was read in this place
  abbrev pub IsAmong : ℕ → ℕ → Type 0
  IsAmong p w = (i : ℕ) × (slice_get all i ≡ Some (p, w))

  shows_left : (t : ℕ) → shows_link all (left_of t) ≡ true
  shows_left t = or_left (is_left_place (left_of t)) (is_right_place (left_of t) && shows_inner all (left_of t - 1)) (left_place t)

  shows_right : (t : ℕ) → shows_inner all (left_of t) ≡ true → shows_link all (right_of t) ≡ true
  shows_right t inner = or_right (is_left_place (right_of t)) (is_right_place (right_of t) && shows_inner all (right_of t - 1))
      (both (is_right_place (right_of t)) (shows_inner all (right_of t - 1)) (right_place t) (ap (shows_inner all) (before_right t) ∙ inner))

  -- a link that was read gives its slot
  given : (p w : ℕ) → IsAmong p w → shows_link all p ≡ true → 0 < value_of w → IsGiven (slot_in w)
  given p w among link some = any_of (λ reading. shows_link all reading.0 && (value_of reading.1 == suc (slot_in w))) all among.0 (p, w) among.1
      (both (shows_link all p) (value_of w == suc (slot_in w)) link (eq_test (value_of w) (suc (slot_in w)) (omega arith)))

  module _ (b : Bounds) (op : Op) where
    pub record Reads (w : Walk) : Type 0 where
      pub last_from : IsFrom w.last.from
      pub grand_from : IsFrom w.grand.from
      -- the last link leads to a slot that the readings give
      pub some : is_past w.stage ≡ true → 0 < value_of w.last.word
      pub node : is_past w.stage ≡ true → IsGiven (node_of w)
      pub shallow : w.stage ≡ AtRoot → w.deep ≡ false
      -- it stands in the node to which the link before it leads
      pub joined : is_past w.stage ≡ true → w.deep ≡ true → w.last.from ≡ step_to w.grand
      pub grand_some : is_past w.stage ≡ true → w.deep ≡ true → 0 < value_of w.grand.word
      -- both links were read
      pub last_read : is_past w.stage ≡ true → IsAmong (child_of w.last.side w.last.from) w.last.word
      pub grand_read : is_past w.stage ≡ true → w.deep ≡ true → IsAmong (child_of w.grand.side w.grand.from) w.grand.word
      -- the last node's left link was read
      pub left : w.stage ≡ AtKey → IsAmong (left_of (node_of w)) w.left
      pub inner : w.stage ≡ AtRight → shows_inner all (left_of (node_of w)) ≡ true
      -- a removal has a link to the parent
      pub deep : is_late w.stage ≡ true → is_del op ≡ true → w.found ≡ true → w.deep ≡ true
      -- the last lock was read, free and not spent
      pub lock_read : is_locked w.stage ≡ true → IsAmong (lock_of w.last.from) w.lock
      pub lock_ready : is_locked w.stage ≡ true → is_ready b w.lock ≡ true
      -- so were the marks; a value is read only for an operation that is no removal
      pub valued : w.stage ≡ AtValue → is_del op ≡ false
      pub grand_mark_read : is_marked w.stage ≡ true → is_del op ≡ true → w.found ≡ true → IsAmong (mark_of w.grand.from) w.grand_mark
      pub mark_read : w.stage ≡ AtEnd → IsAmong (mark_of w.last.from) w.mark
      -- and a walk that ended saw no mark
      pub unmarked : w.stage ≡ AtEnd → value_of w.mark ≡ 0
      pub grand_unmarked : is_marked w.stage ≡ true → is_del op ≡ true → w.found ≡ true → value_of w.grand_mark ≡ 0
      pub key_small : w.key < 2 ^ 32
      pub value_low : w.value < 2 ^ 32

    -- of a walk that was refused there is little to say
    refused : (w : Walk) → w.stage ≡ Refused → IsFrom w.last.from → IsFrom w.grand.from → w.key < 2 ^ 32 → w.value < 2 ^ 32 → Reads w
    refused w at last grand key value = record {
      last_from = last;
      grand_from = grand;
      some = λ past. absurd (no_past past);
      node = λ past. absurd (no_past past);
      shallow = λ e. absurd (no_root (sym at ∙ e));
      joined = λ past. absurd (no_past past);
      grand_some = λ past. absurd (no_past past);
      last_read = λ past. absurd (no_past past);
      grand_read = λ past. absurd (no_past past);
      left = λ e. absurd (no_key (sym at ∙ e));
      inner = λ e. absurd (no_right (sym at ∙ e));
      deep = λ late. absurd (no_late late);
      lock_read = λ locked. absurd (no_locked locked);
      lock_ready = λ locked. absurd (no_locked locked);
      valued = λ e. absurd (no_value (sym at ∙ e));
      grand_mark_read = λ marked. absurd (no_mark marked);
      mark_read = λ e. absurd (no_end (sym at ∙ e));
      unmarked = λ e. absurd (no_end (sym at ∙ e));
      grand_unmarked = λ marked. absurd (no_mark marked);
      key_small = key;
      value_low = value;
    }
      where
        false_true : false ≡ true → ⊥
        false_true e = cc

        no_past : is_past w.stage ≡ true → ⊥
        no_past past = false_true (ap is_past (sym at) ∙ past)

        no_late : is_late w.stage ≡ true → ⊥
        no_late late = false_true (ap is_late (sym at) ∙ late)

        no_locked : is_locked w.stage ≡ true → ⊥
        no_locked locked = false_true (ap is_locked (sym at) ∙ locked)

        no_mark : is_marked w.stage ≡ true → ⊥
        no_mark marked = false_true (ap is_marked (sym at) ∙ marked)

        no_value : Refused ≡ AtValue → ⊥
        no_value e = cc

        no_end : Refused ≡ AtEnd → ⊥
        no_end e = cc

        no_root : Refused ≡ AtRoot → ⊥
        no_root e = cc

        no_key : Refused ≡ AtKey → ⊥
        no_key e = cc

        no_right : Refused ≡ AtRight → ⊥
        no_right e = cc

    -- where a walk goes on along a link
    reads_link : (w : Walk) (none far : Bool) (word : ℕ) → (value_of word == 0) ≡ none → w.last.word ≡ word → IsFrom w.last.from → IsFrom w.grand.from
        → IsAmong (child_of w.last.side w.last.from) w.last.word → shows_link all (child_of w.last.side w.last.from) ≡ true
        → (w.deep ≡ true → (w.last.from ≡ step_to w.grand) × (0 < value_of w.grand.word) × IsAmong (child_of w.grand.side w.grand.from) w.grand.word) → w.key < 2 ^ 32 → w.value < 2 ^ 32
        → Reads (record w { stage = cond none Refused (cond far Refused AtLeft) })
    reads_link w true far word test is last grand among link deep key value = refused (record w { stage = Refused }) refl last grand key value
    reads_link w false true word test is last grand among link deep key value = refused (record w { stage = Refused }) refl last grand key value
    reads_link w false false word test is last grand among link deep key value =
        let some : 0 < value_of w.last.word = (let first = not_zero (value_of word) test in subst (λ n. 0 < value_of n) (sym is) first) in
        record {
          last_from = last;
          grand_from = grand;
          some = λ past. some;
          node = λ past. given (child_of w.last.side w.last.from) w.last.word among link some;
          shallow = λ e. absurd (cc);
          joined = λ past is_deep. (deep is_deep).0;
          grand_some = λ past is_deep. (deep is_deep).1;
          last_read = λ past. among;
          grand_read = λ past is_deep. (deep is_deep).2;
          left = λ e. absurd (cc);
          inner = λ e. absurd (cc);
          deep = λ late. absurd (cc);
          lock_read = λ locked. absurd (cc);
          lock_ready = λ locked. absurd (cc);
          valued = λ e. absurd (cc);
          grand_mark_read = λ l. absurd (cc);
          mark_read = λ e. absurd (cc);
          unmarked = λ e. absurd (cc);
          grand_unmarked = λ l. absurd (cc);
          key_small = key;
          value_low = value;
        }

    reads_followed : (w : Walk) (side : Bool) (word : ℕ) → Reads w → is_past w.stage ≡ true → IsAmong (child_of side (node_of w)) word → shows_link all (child_of side (node_of w)) ≡ true
        → Reads (followed b w side word)
    reads_followed w side word reads past among link = reads_link (followed b w side word) (value_of word == 0) (nat_le b.links (suc w.links)) word refl refl (inr (reads.node past)) reads.last_from among link
        (λ deep. (refl, reads.some past, reads.last_read past)) reads.key_small reads.value_low

    -- a walk at a leaf whose key was read
    reads_leaf : (w : Walk) (found : Bool) (key : ℕ) → Reads w → is_past w.stage ≡ true → key < 2 ^ 32 → Reads (record w { stage = after_leaf op w.deep found; key = key; found = found })
    reads_leaf w found key reads past small = go found (is_del op) w.deep refl refl
      where
        late : (stage : Stage) (found : Bool) → is_past stage ≡ true → is_late stage ≡ true → is_locked stage ≡ false → (is_del op ≡ true → found ≡ true → w.deep ≡ true) → (stage ≡ AtValue → is_del op ≡ false) → (is_marked stage ≡ true → found ≡ false) → (stage ≡ AtEnd → ⊥) → Reads (record w { stage = stage; key = key; found = found })
        late stage found is_in is_out unlocked deep value marked ended = record {
          last_from = reads.last_from;
          grand_from = reads.grand_from;
          some = λ p. reads.some past;
          node = λ p. reads.node past;
          shallow = λ e. absurd (key_late (ap is_late (sym e) ∙ is_out));
          joined = λ p. reads.joined past;
          grand_some = λ p. reads.grand_some past;
          last_read = λ p. reads.last_read past;
          grand_read = λ p. reads.grand_read past;
          left = λ e. absurd (key_late (ap is_late (sym e) ∙ is_out));
          inner = λ e. absurd (key_late (ap is_late (sym e) ∙ is_out));
          deep = λ l. deep;
          lock_read = λ l. absurd (key_late (sym unlocked ∙ l));
          lock_ready = λ l. absurd (key_late (sym unlocked ∙ l));
          valued = value;
          grand_mark_read = λ m del f. absurd (key_late (sym (marked m) ∙ f));
          mark_read = λ e. absurd (ended e);
          unmarked = λ e. absurd (ended e);
          grand_unmarked = λ m del f. absurd (key_late (sym (marked m) ∙ f));
          key_small = small;
          value_low = reads.value_low;
        }
          where
            key_late : false ≡ true → ⊥
            key_late e = cc

        go : (found del deep : Bool) → is_del op ≡ del → w.deep ≡ deep → Reads (record w { stage = after_leaf op w.deep found; key = key; found = found })
        go found del deep is_it is_deep = subst (λ stage. Reads (record w { stage = stage; key = key; found = found })) (sym (stage_is found)) (by found del deep is_it is_deep)
          where
            stage_is : (found : Bool) → after_leaf op w.deep found ≡ ended found del deep
            stage_is true = ap (λ c. cond c (cond w.deep AtGrandLock Refused) AtValue) is_it ∙ ap (λ c. cond del (cond c AtGrandLock Refused) AtValue) is_deep
            stage_is false = refl

            no_del : false ≡ true → ⊥
            no_del e = cc

            by : (found del deep : Bool) → is_del op ≡ del → w.deep ≡ deep → Reads (record w { stage = ended found del deep; key = key; found = found })
            by true true true is_it is_deep = late AtGrandLock true refl refl refl (λ d f. is_deep) (λ e. absurd (cc)) (λ m. absurd (cc)) (λ e. cc)
            by true true false is_it is_deep = refused (record w { stage = Refused; key = key; found = true }) refl reads.last_from reads.grand_from small reads.value_low
            by true false deep is_it is_deep = late AtValue true refl refl refl (λ d f. absurd (no_del (sym is_it ∙ d))) (λ e. is_it) (λ m. absurd (cc)) (λ e. cc)
            by false del deep is_it is_deep = late AtLock false refl refl refl (λ d f. absurd (no_del f)) (λ e. absurd (cc)) (λ m. refl) (λ e. cc)

    -- a later stage with the same links
    reads_on : (w : Walk) (stage : Stage) (left value grand_lock grand_mark lock mark : ℕ) → Reads w → is_past w.stage ≡ true → is_past stage ≡ true
        → (stage ≡ AtKey → IsAmong (left_of (node_of w)) left) → (stage ≡ AtRight → shows_inner all (left_of (node_of w)) ≡ true) → (is_late stage ≡ true → is_late w.stage ≡ true)
        → (is_locked stage ≡ true → IsAmong (lock_of w.last.from) lock × (is_ready b lock ≡ true)) → (stage ≡ AtValue → ⊥)
        → (is_marked stage ≡ true → is_del op ≡ true → w.found ≡ true → IsAmong (mark_of w.grand.from) grand_mark × (value_of grand_mark ≡ 0)) → (stage ≡ AtEnd → IsAmong (mark_of w.last.from) mark × (value_of mark ≡ 0)) → value < 2 ^ 32
        → Reads (record w { stage = stage; left = left; value = value; grand_lock = grand_lock; grand_mark = grand_mark; lock = lock; mark = mark })
    reads_on w stage left value grand_lock grand_mark lock mark reads past past' key right late locked valued marked ended small = record {
      last_from = reads.last_from;
      grand_from = reads.grand_from;
      some = λ p. reads.some past;
      node = λ p. reads.node past;
      shallow = λ e. absurd (root_past (ap is_past (sym e) ∙ past'));
      joined = λ p. reads.joined past;
      grand_some = λ p. reads.grand_some past;
      last_read = λ p. reads.last_read past;
      grand_read = λ p. reads.grand_read past;
      left = key;
      inner = right;
      deep = λ l. reads.deep (late l);
      lock_read = λ l. (locked l).0;
      lock_ready = λ l. (locked l).1;
      valued = λ e. absurd (valued e);
      grand_mark_read = λ m del f. (marked m del f).0;
      mark_read = λ e. (ended e).0;
      unmarked = λ e. (ended e).1;
      grand_unmarked = λ m del f. (marked m del f).1;
      key_small = reads.key_small;
      value_low = small;
    }
      where
        root_past : false ≡ true → ⊥
        root_past e = cc

    false_true : false ≡ true → ⊥
    false_true e = cc

    -- a lock or a mark that was read: the walk goes on, or is refused
    reads_tested : (w : Walk) (passes : Bool) (stage : Stage) (grand_lock grand_mark lock mark : ℕ) → Reads w → is_past w.stage ≡ true → is_late w.stage ≡ true → is_late stage ≡ true → is_past stage ≡ true
        → (passes ≡ true → is_locked stage ≡ true → IsAmong (lock_of w.last.from) lock × (is_ready b lock ≡ true)) → (stage ≡ AtValue → ⊥)
        → (passes ≡ true → is_marked stage ≡ true → is_del op ≡ true → w.found ≡ true → IsAmong (mark_of w.grand.from) grand_mark × (value_of grand_mark ≡ 0))
        → (passes ≡ true → stage ≡ AtEnd → IsAmong (mark_of w.last.from) mark × (value_of mark ≡ 0))
        → Reads (record w { stage = cond passes stage Refused; grand_lock = grand_lock; grand_mark = grand_mark; lock = lock; mark = mark })
    reads_tested w true stage grand_lock grand_mark lock mark reads past late late' past' locked valued marked ended = reads_on w stage w.left w.value grand_lock grand_mark lock mark reads past past'
        (λ e. absurd (false_true (ap is_late (sym e) ∙ late'))) (λ e. absurd (false_true (ap is_late (sym e) ∙ late'))) (λ l. late) (locked refl) valued (marked refl) (ended refl) reads.value_low
    reads_tested w false stage grand_lock grand_mark lock mark reads past late late' past' locked valued marked ended =
        refused (record w { stage = Refused; grand_lock = grand_lock; grand_mark = grand_mark; lock = lock; mark = mark }) refl reads.last_from reads.grand_from reads.key_small reads.value_low

    reads_key : (w : Walk) (leaf less : Bool) (word : ℕ) → Reads w → w.stage ≡ AtKey → (value_of w.left == 0) ≡ leaf → Reads (at_key b op w leaf less word)
    reads_key w true less word reads at test = reads_leaf w (value_of word == key_of op) (value_of word) reads (ap is_past at) (value_small word)
    reads_key w false true word reads at test = reads_followed w true w.left reads (ap is_past at) (reads.left at) (shows_left (node_of w))
    reads_key w false false word reads at test =
        let read = reads.left at in
        let inner = any_of (λ reading. reading.0 == left_of (node_of w) && nat_lt 0 (value_of reading.1)) all read.0 (left_of (node_of w), w.left) read.1
        (both (left_of (node_of w) == left_of (node_of w)) (nat_lt 0 (value_of w.left)) (eq_test (left_of (node_of w)) (left_of (node_of w)) refl) (lt_test 0 (value_of w.left) (not_zero (value_of w.left) test))) in
        record {
          last_from = reads.last_from;
          grand_from = reads.grand_from;
          some = λ p. reads.some (ap is_past at);
          node = λ p. reads.node (ap is_past at);
          shallow = λ e. absurd (cc);
          joined = λ p. reads.joined (ap is_past at);
          grand_some = λ p. reads.grand_some (ap is_past at);
          last_read = λ p. reads.last_read (ap is_past at);
          grand_read = λ p. reads.grand_read (ap is_past at);
          left = λ e. absurd (cc);
          inner = λ e. inner;
          deep = λ l. absurd (cc);
          lock_read = λ l. absurd (cc);
          lock_ready = λ l. absurd (cc);
          valued = λ e. absurd (cc);
          grand_mark_read = λ l. absurd (cc);
          mark_read = λ e. absurd (cc);
          unmarked = λ e. absurd (cc);
          grand_unmarked = λ l. absurd (cc);
          key_small = value_small word;
          value_low = reads.value_low;
        }

    reads_fed : (w : Walk) (stage : Stage) (p word : ℕ) → Reads w → w.stage ≡ stage → wanted_at w stage ≡ Some p → IsAmong p word → Reads (fed b op w stage word)
    reads_fed w AtRoot p word reads at want among = reads_link (fed b op w AtRoot word) (value_of word == 0) (nat_le b.links 1) word refl refl (inl (omega arith)) reads.grand_from
        (subst (λ p. IsAmong p word) (sym (some_eq (left_of 0) p want)) among) (shows_left 0)
        (λ deep. absurd (false_true (sym (reads.shallow at) ∙ deep))) reads.key_small reads.value_low
    reads_fed w AtLeft p word reads at want among = reads_on w AtKey word w.value w.grand_lock w.grand_mark w.lock w.mark reads (ap is_past at) refl
        (λ e. subst (λ p. IsAmong p word) (sym (some_eq (left_of (node_of w)) p want)) among) (λ e. absurd (cc)) (λ l. absurd (cc)) (λ l. absurd (cc)) (λ e. cc) (λ m. absurd (cc)) (λ e. absurd (cc)) reads.value_low
    reads_fed w AtKey p word reads at want among = reads_key w (value_of w.left == 0) (nat_lt (key_of op) (value_of word)) word reads at refl
    reads_fed w AtRight p word reads at want among = reads_followed w false word reads (ap is_past at) (subst (λ p. IsAmong p word) (sym (some_eq (right_of (node_of w)) p want)) among) (shows_right (node_of w) (reads.inner at))
    reads_fed w AtValue p word reads at want among = reads_on w AtLock w.left (value_of word) w.grand_lock w.grand_mark w.lock w.mark reads (ap is_past at) refl (λ e. absurd (cc)) (λ e. absurd (cc)) (λ l. ap is_late at) (λ l. absurd (cc)) (λ e. cc) (λ m del f. absurd (false_true (sym (reads.valued at) ∙ del))) (λ e. absurd (cc)) (value_small word)
    reads_fed w AtGrandLock p word reads at want among = reads_tested w (is_ready b word) AtGrandMark word w.grand_mark w.lock w.mark reads (ap is_past at) (ap is_late at) refl refl (λ t l. absurd (cc)) (λ e. cc) (λ t m. absurd (cc)) (λ t e. absurd (cc))
    reads_fed w AtGrandMark p word reads at want among = reads_tested w (value_of word == 0) AtLock w.grand_lock word w.lock w.mark reads (ap is_past at) (ap is_late at) refl refl (λ t l. absurd (cc)) (λ e. cc) (λ t m del f. (subst (λ p. IsAmong p word) (sym (some_eq (mark_of w.grand.from) p want)) among, equal_of (value_of word) 0 t)) (λ t e. absurd (cc))
    reads_fed w AtLock p word reads at want among = reads_tested w (is_ready b word) AtMark w.grand_lock w.grand_mark word w.mark reads (ap is_past at) (ap is_late at) refl refl
        (λ t l. (subst (λ p. IsAmong p word) (sym (some_eq (lock_of w.last.from) p want)) among, t)) (λ e. cc) (λ t m del f. (reads.grand_mark_read (ap is_marked at) del f, reads.grand_unmarked (ap is_marked at) del f)) (λ t e. absurd (cc))
    reads_fed w AtMark p word reads at want among = reads_tested w (value_of word == 0) AtEnd w.grand_lock w.grand_mark w.lock word reads (ap is_past at) (ap is_late at) refl refl
        (λ t l. (reads.lock_read (ap is_locked at), reads.lock_ready (ap is_locked at))) (λ e. cc) (λ t m del f. (reads.grand_mark_read (ap is_marked at) del f, reads.grand_unmarked (ap is_marked at) del f))
        (λ t e. (subst (λ p. IsAmong p word) (sym (some_eq (mark_of w.last.from) p want)) among, equal_of (value_of word) 0 t))
    reads_fed w AtEnd p word reads at want among = absurd (none-some p want)
    reads_fed w Refused p word reads at want among = absurd (none-some p want)

    pub walk_reads : Reads (walk b op start all)
    walk_reads = walk_keeps _ _ _ Reads (λ reading. (i : ℕ) × (slice_get all i ≡ Some reading))
        (λ w reading want here reads. reads_fed w w.stage reading.0 reading.1 reads refl want
        (here.0, here.1)) start all
        (λ i reading h. (i, h)) (record {
          last_from = inl (omega arith);
          grand_from = inl (omega arith);
          some = λ past. absurd (cc);
          node = λ past. absurd (cc);
          shallow = λ e. refl;
          joined = λ past. absurd (cc);
          grand_some = λ past. absurd (cc);
          last_read = λ past. absurd (cc);
          grand_read = λ past. absurd (cc);
          left = λ e. absurd (cc);
          inner = λ e. absurd (cc);
          deep = λ late. absurd (cc);
          lock_read = λ locked. absurd (cc);
          lock_ready = λ locked. absurd (cc);
          valued = λ e. absurd (cc);
          grand_mark_read = λ l. absurd (cc);
          mark_read = λ e. absurd (cc);
          unmarked = λ e. absurd (cc);
          grand_unmarked = λ l. absurd (cc);
          key_small = omega arith;
          value_low = omega arith;
        })
