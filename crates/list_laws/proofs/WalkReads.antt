-- What a walk of the list takes from its readings alone.
use Rattle.std.proofs.Common.{◌≡◌, ℕ, suc, ◌+◌, ◌*◌, ◌<◌, ◌≤◌, Bool, true, false, cond, refl, sym, subst, inl, inr, arith}
use Rattle.std.specs.Prelude.{◌==◌, ◌&&◌, not, ◌%◌, ◌^◌, ◌⊎◌, nat_le, nat_lt, Some, slice_get}
use Rattle.std.specs.List.{list_any}
use Rattle.std.proofs.lemmas.Option.{none-some}
use Rattle.structure_laws.specs.table_words.specs.small_lemmas.proofs.Bools.{both_hold, true_not_false}
use Rattle.structure_laws.specs.table_words.specs.small_lemmas.proofs.Lists.{same_number}
use Rattle.structure_laws.specs.table_words.specs.small_lemmas.proofs.Numbers.{equal_tested, tested_some, tested_not_less}
use Rattle.structure_laws.specs.map_history.specs.declared.op.Op.{Op}
use Rattle.structure_laws.specs.map_history.specs.Keys.{key_of}
use Rattle.structure_laws.specs.body_terms.specs.Word.{value_of}
use Rattle.structure_laws.specs.Scene.{Readings}
use Rattle.structure_laws.proofs.Changes.{equal_of, value_small}
use Rattle.bucket_laws.specs.Walk.{Bounds, is_del}
use Rattle.shared_laws.proofs.Numbers.{any_of}
use Rattle.node_laws.proofs.Walked.{walk_keeps}
use Rattle.list_bodies.specs.List.{lock_of, key_cell, next_of, value_cell, mark_of, slot_in}
use Rattle.list_laws.specs.Walk.{Stage, AtLink, AtKey, AtValue, AtLock, AtMark, AtNodeLock, AtNodeMark, AtEnd, Refused}
use Rattle.list_laws.specs.Walk.{Walk, start, node_of, wanted_at, takes_out, is_ready, at_key, fed, walk}
use Rattle.list_laws.specs.Nodes.{is_link_place}

-- how many of a walk's loads are behind each stage, but for those of earlier nodes
abbrev pub level : Stage → ℕ
level AtLink = 0
level AtKey = 1
level AtValue = 2
level AtLock = 3
level AtMark = 4
level AtNodeLock = 5
level AtNodeMark = 6
level AtEnd = 7
level Refused = 0

pub link_place : (t : ℕ) → is_link_place (next_of t) ≡ true
link_place t = equal_tested ((0 + 5 * t + 2) % 5) 2 (omega arith)

module _ (all : Readings) where
  -- the readings give a link to this slot
  abbrev pub IsGiven : ℕ → Type 0
  IsGiven t = list_any (λ reading. is_link_place reading.0 && (value_of reading.1 == suc t)) all ≡ true

  -- a fixed slot, or one to which they give a link
  abbrev pub IsFrom : ℕ → Type 0
  IsFrom t = (t < 2) ⊎ IsGiven t

  -- this word was read in this place
  abbrev pub IsAmong : ℕ → ℕ → Type 0
  IsAmong p w = (i : ℕ) × (slice_get all i ≡ Some (p, w))

  -- this value was read in this place
  abbrev pub HasValue : ℕ → ℕ → Type 0
  HasValue p v = (w : ℕ) × IsAmong p w × (value_of w ≡ v)

  -- a link that was read gives its slot
  given : (t w : ℕ) → IsAmong (next_of t) w → 0 < value_of w → IsGiven (slot_in w)
  given t w among some = any_of (λ reading. is_link_place reading.0 && (value_of reading.1 == suc (slot_in w))) all
      among.0 (next_of t, w) among.1
      (both_hold (is_link_place (next_of t)) (value_of w == suc (slot_in w)) (link_place t)
      (equal_tested (value_of w) (suc (slot_in w)) (omega (arith, some))))

  module _ (b : Bounds) (op : Op) where
    -- by how many loads are behind
    pub record HasRead (w : Walk) (l : ℕ) : Type 0 where
      pub from : IsFrom w.from
      -- the link was read, and leads to a slot that the readings give
      pub some : 1 ≤ l → 0 < value_of w.link
      pub node : 1 ≤ l → IsGiven (node_of w)
      pub link_read : 1 ≤ l → IsAmong (next_of w.from) w.link
      -- its key isn't below the wanted one
      pub key_read : 2 ≤ l → HasValue (key_cell (node_of w)) w.key
      pub key_high : 2 ≤ l → key_of op ≤ w.key
      pub found_is : 2 ≤ l → w.found ≡ (w.key == key_of op)
      pub value_read : 3 ≤ l → w.found ≡ true → is_del op ≡ false → HasValue (value_cell (node_of w)) w.value
      -- locks are free and not spent, and marks are 0
      pub lock_read : 4 ≤ l → IsAmong (lock_of w.from) w.lock
      pub lock_ready : 4 ≤ l → is_ready b w.lock ≡ true
      pub mark_read : 5 ≤ l → IsAmong (mark_of w.from) w.mark
      pub mark_zero : 5 ≤ l → value_of w.mark ≡ 0
      pub node_lock_read : 6 ≤ l → (takes_out op && w.found) ≡ true → IsAmong (lock_of (node_of w)) w.node_lock
      pub node_lock_ready : 6 ≤ l → (takes_out op && w.found) ≡ true → is_ready b w.node_lock ≡ true
      pub node_mark_read : 7 ≤ l → (takes_out op && w.found) ≡ true → IsAmong (mark_of (node_of w)) w.node_mark
      pub node_mark_zero : 7 ≤ l → (takes_out op && w.found) ≡ true → value_of w.node_mark ≡ 0
      pub value_low : w.value < 2 ^ 32

    abbrev pub Reads : Walk → Type 0
    Reads w = HasRead w (level w.stage)

    -- of a walk that was refused, or has gone on to a node, there is little to say
    bare : (w : Walk) → IsFrom w.from → w.value < 2 ^ 32 → HasRead w 0
    bare w from low = record {
      from = from;
      some = λ h. absurd (omega (arith, h));
      node = λ h. absurd (omega (arith, h));
      link_read = λ h. absurd (omega (arith, h));
      key_read = λ h. absurd (omega (arith, h));
      key_high = λ h. absurd (omega (arith, h));
      found_is = λ h. absurd (omega (arith, h));
      value_read = λ h. absurd (omega (arith, h));
      lock_read = λ h. absurd (omega (arith, h));
      lock_ready = λ h. absurd (omega (arith, h));
      mark_read = λ h. absurd (omega (arith, h));
      mark_zero = λ h. absurd (omega (arith, h));
      node_lock_read = λ h. absurd (omega (arith, h));
      node_lock_ready = λ h. absurd (omega (arith, h));
      node_mark_read = λ h. absurd (omega (arith, h));
      node_mark_zero = λ h. absurd (omega (arith, h));
      value_low = low;
    }

    -- a link was loaded
    reads_link : (w : Walk) (none far : Bool) (word n : ℕ) → (value_of word == 0) ≡ none → Reads w
        → IsAmong (next_of w.from) word
        → Reads (record w { stage = cond none Refused (cond far Refused AtKey); links = n; link = word })
    reads_link w true far word n test reads among = bare (record w { stage = Refused; links = n; link = word })
        reads.from reads.value_low
    reads_link w false true word n test reads among = bare (record w { stage = Refused; links = n; link = word })
        reads.from reads.value_low
    reads_link w false false word n test reads among = let more = tested_some (value_of word) test in record {
      from = reads.from;
      some = λ h. more;
      node = λ h. given w.from word among more;
      link_read = λ h. among;
      key_read = λ h. absurd (omega (arith, h));
      key_high = λ h. absurd (omega (arith, h));
      found_is = λ h. absurd (omega (arith, h));
      value_read = λ h. absurd (omega (arith, h));
      lock_read = λ h. absurd (omega (arith, h));
      lock_ready = λ h. absurd (omega (arith, h));
      mark_read = λ h. absurd (omega (arith, h));
      mark_zero = λ h. absurd (omega (arith, h));
      node_lock_read = λ h. absurd (omega (arith, h));
      node_lock_ready = λ h. absurd (omega (arith, h));
      node_mark_read = λ h. absurd (omega (arith, h));
      node_mark_zero = λ h. absurd (omega (arith, h));
      value_low = reads.value_low;
    }

    -- a key was loaded at which the walk stops
    stopped : (w : Walk) (found : Bool) (word : ℕ) (stage : Stage) → HasRead w 1
        → IsAmong (key_cell (node_of w)) word → key_of op ≤ value_of word → found ≡ (value_of word == key_of op)
        → level stage ≤ 3 → (3 ≤ level stage → found ≡ true → is_del op ≡ true)
        → Reads (record w { stage = stage; key = value_of word; found = found })
    stopped w found word stage reads among high is low gone = record {
      from = reads.from;
      some = λ h. reads.some (omega arith);
      node = λ h. reads.node (omega arith);
      link_read = λ h. reads.link_read (omega arith);
      key_read = λ h. (word, among, refl);
      key_high = λ h. high;
      found_is = λ h. is;
      value_read = λ h there stays. absurd (true_not_false (is_del op) (gone h there) stays);
      lock_read = λ h. absurd (omega (arith, h, low));
      lock_ready = λ h. absurd (omega (arith, h, low));
      mark_read = λ h. absurd (omega (arith, h, low));
      mark_zero = λ h. absurd (omega (arith, h, low));
      node_lock_read = λ h. absurd (omega (arith, h, low));
      node_lock_ready = λ h. absurd (omega (arith, h, low));
      node_mark_read = λ h. absurd (omega (arith, h, low));
      node_mark_zero = λ h. absurd (omega (arith, h, low));
      value_low = reads.value_low;
    }

    reads_stop : (w : Walk) (found del : Bool) (word : ℕ) → HasRead w 1 → IsAmong (key_cell (node_of w)) word
        → key_of op ≤ value_of word → found ≡ (value_of word == key_of op) → is_del op ≡ del
        → Reads (record w { stage = cond (found && not del) AtValue AtLock; key = value_of word; found = found })
    reads_stop w true true word reads among high is del = stopped w true word AtLock reads among high is (omega arith)
        (λ h there. del)
    reads_stop w true false word reads among high is del = stopped w true word AtValue reads among high is (omega arith)
        (λ h. absurd (omega (arith, h)))
    reads_stop w false del word reads among high is at = stopped w false word AtLock reads among high is (omega arith)
        (λ h there. absurd (let z = there in cc))

    reads_key : (w : Walk) (less : Bool) (word : ℕ) → nat_lt (value_of word) (key_of op) ≡ less → HasRead w 1
        → IsAmong (key_cell (node_of w)) word → Reads (at_key op w less word)
    reads_key w true word test reads among = bare (record w { stage = AtLink; from = node_of w; key = value_of word })
        (inr (reads.node (omega arith))) reads.value_low
    reads_key w false word test reads among = reads_stop w (value_of word == key_of op) (is_del op) word reads among
        (tested_not_less (value_of word) (key_of op) test) refl refl

    reads_value : (w : Walk) (word : ℕ) → HasRead w 2 → IsAmong (value_cell (node_of w)) word
        → Reads (record w { stage = AtLock; value = value_of word })
    reads_value w word reads among = record {
      from = reads.from;
      some = λ h. reads.some (omega arith);
      node = λ h. reads.node (omega arith);
      link_read = λ h. reads.link_read (omega arith);
      key_read = λ h. reads.key_read (omega arith);
      key_high = λ h. reads.key_high (omega arith);
      found_is = λ h. reads.found_is (omega arith);
      value_read = λ h there stays. (word, among, refl);
      lock_read = λ h. absurd (omega (arith, h));
      lock_ready = λ h. absurd (omega (arith, h));
      mark_read = λ h. absurd (omega (arith, h));
      mark_zero = λ h. absurd (omega (arith, h));
      node_lock_read = λ h. absurd (omega (arith, h));
      node_lock_ready = λ h. absurd (omega (arith, h));
      node_mark_read = λ h. absurd (omega (arith, h));
      node_mark_zero = λ h. absurd (omega (arith, h));
      value_low = value_small word;
    }

    reads_lock : (w : Walk) (passes : Bool) (word : ℕ) → is_ready b word ≡ passes → HasRead w 3
        → IsAmong (lock_of w.from) word → Reads (record w { stage = cond passes AtMark Refused; lock = word })
    reads_lock w false word test reads among = bare (record w { stage = Refused; lock = word }) reads.from
        reads.value_low
    reads_lock w true word test reads among = record {
      from = reads.from;
      some = λ h. reads.some (omega arith);
      node = λ h. reads.node (omega arith);
      link_read = λ h. reads.link_read (omega arith);
      key_read = λ h. reads.key_read (omega arith);
      key_high = λ h. reads.key_high (omega arith);
      found_is = λ h. reads.found_is (omega arith);
      value_read = λ h. reads.value_read (omega arith);
      lock_read = λ h. among;
      lock_ready = λ h. test;
      mark_read = λ h. absurd (omega (arith, h));
      mark_zero = λ h. absurd (omega (arith, h));
      node_lock_read = λ h. absurd (omega (arith, h));
      node_lock_ready = λ h. absurd (omega (arith, h));
      node_mark_read = λ h. absurd (omega (arith, h));
      node_mark_zero = λ h. absurd (omega (arith, h));
      value_low = reads.value_low;
    }

    marked : (w : Walk) (word : ℕ) (stage : Stage) → HasRead w 4 → IsAmong (mark_of w.from) word → value_of word ≡ 0
        → (6 ≤ level stage → (takes_out op && w.found) ≡ true → ⊥) → Reads (record w { stage = stage; mark = word })
    marked w word stage reads among none last = record {
      from = reads.from;
      some = λ h. reads.some (omega arith);
      node = λ h. reads.node (omega arith);
      link_read = λ h. reads.link_read (omega arith);
      key_read = λ h. reads.key_read (omega arith);
      key_high = λ h. reads.key_high (omega arith);
      found_is = λ h. reads.found_is (omega arith);
      value_read = λ h. reads.value_read (omega arith);
      lock_read = λ h. reads.lock_read (omega arith);
      lock_ready = λ h. reads.lock_ready (omega arith);
      mark_read = λ h. among;
      mark_zero = λ h. none;
      node_lock_read = λ h takes. absurd (last h takes);
      node_lock_ready = λ h takes. absurd (last h takes);
      node_mark_read = λ h takes. absurd (last (omega (arith, h)) takes);
      node_mark_zero = λ h takes. absurd (last (omega (arith, h)) takes);
      value_low = reads.value_low;
    }

    reads_mark : (w : Walk) (passes takes : Bool) (word : ℕ) → (value_of word == 0) ≡ passes
        → (takes_out op && w.found) ≡ takes → HasRead w 4 → IsAmong (mark_of w.from) word
        → Reads (record w { stage = cond passes (cond takes AtNodeLock AtEnd) Refused; mark = word })
    reads_mark w false takes word test is reads among = bare (record w { stage = Refused; mark = word }) reads.from
        reads.value_low
    reads_mark w true true word test is reads among = marked w word AtNodeLock reads among
        (equal_of (value_of word) 0 test) (λ h. absurd (omega (arith, h)))
    reads_mark w true false word test is reads among = marked w word AtEnd reads among (equal_of (value_of word) 0 test)
        (λ h takes. true_not_false (takes_out op && w.found) takes is)

    reads_node_lock : (w : Walk) (passes : Bool) (word : ℕ) → is_ready b word ≡ passes → HasRead w 5
        → IsAmong (lock_of (node_of w)) word
        → Reads (record w { stage = cond passes AtNodeMark Refused; node_lock = word })
    reads_node_lock w false word test reads among = bare (record w { stage = Refused; node_lock = word }) reads.from
        reads.value_low
    reads_node_lock w true word test reads among = record {
      from = reads.from;
      some = λ h. reads.some (omega arith);
      node = λ h. reads.node (omega arith);
      link_read = λ h. reads.link_read (omega arith);
      key_read = λ h. reads.key_read (omega arith);
      key_high = λ h. reads.key_high (omega arith);
      found_is = λ h. reads.found_is (omega arith);
      value_read = λ h. reads.value_read (omega arith);
      lock_read = λ h. reads.lock_read (omega arith);
      lock_ready = λ h. reads.lock_ready (omega arith);
      mark_read = λ h. reads.mark_read (omega arith);
      mark_zero = λ h. reads.mark_zero (omega arith);
      node_lock_read = λ h takes. among;
      node_lock_ready = λ h takes. test;
      node_mark_read = λ h. absurd (omega (arith, h));
      node_mark_zero = λ h. absurd (omega (arith, h));
      value_low = reads.value_low;
    }

    reads_node_mark : (w : Walk) (passes : Bool) (word : ℕ) → (value_of word == 0) ≡ passes → HasRead w 6
        → IsAmong (mark_of (node_of w)) word
        → Reads (record w { stage = cond passes AtEnd Refused; node_mark = word })
    reads_node_mark w false word test reads among = bare (record w { stage = Refused; node_mark = word }) reads.from
        reads.value_low
    reads_node_mark w true word test reads among = record {
      from = reads.from;
      some = λ h. reads.some (omega arith);
      node = λ h. reads.node (omega arith);
      link_read = λ h. reads.link_read (omega arith);
      key_read = λ h. reads.key_read (omega arith);
      key_high = λ h. reads.key_high (omega arith);
      found_is = λ h. reads.found_is (omega arith);
      value_read = λ h. reads.value_read (omega arith);
      lock_read = λ h. reads.lock_read (omega arith);
      lock_ready = λ h. reads.lock_ready (omega arith);
      mark_read = λ h. reads.mark_read (omega arith);
      mark_zero = λ h. reads.mark_zero (omega arith);
      node_lock_read = λ h. reads.node_lock_read (omega arith);
      node_lock_ready = λ h. reads.node_lock_ready (omega arith);
      node_mark_read = λ h takes. among;
      node_mark_zero = λ h takes. equal_of (value_of word) 0 test;
      value_low = reads.value_low;
    }

    -- the load that the walk wants
    among_at : (q p word : ℕ) → Some q ≡ Some p → IsAmong p word → IsAmong q word
    among_at q p word want among = subst (λ p. IsAmong p word) (sym (same_number q p want)) among

    as_level : (w : Walk) (stage : Stage) → w.stage ≡ stage → Reads w → HasRead w (level stage)
    as_level w stage at reads = subst (λ stage. HasRead w (level stage)) at reads

    reads_fed : (w : Walk) (stage : Stage) (p word : ℕ) → Reads w → w.stage ≡ stage → wanted_at w stage ≡ Some p
        → IsAmong p word → Reads (fed b op w stage word)
    reads_fed w AtLink p word reads at want among = reads_link w (value_of word == 0) (nat_le b.links (suc w.links)) word
        (suc w.links) refl reads (among_at (next_of w.from) p word want among)
    reads_fed w AtKey p word reads at want among = reads_key w (nat_lt (value_of word) (key_of op)) word refl
        (as_level w AtKey at reads) (among_at (key_cell (node_of w)) p word want among)
    reads_fed w AtValue p word reads at want among = reads_value w word (as_level w AtValue at reads)
        (among_at (value_cell (node_of w)) p word want among)
    reads_fed w AtLock p word reads at want among = reads_lock w (is_ready b word) word refl (as_level w AtLock at reads)
        (among_at (lock_of w.from) p word want among)
    reads_fed w AtMark p word reads at want among = reads_mark w (value_of word == 0) (takes_out op && w.found) word refl
        refl (as_level w AtMark at reads) (among_at (mark_of w.from) p word want among)
    reads_fed w AtNodeLock p word reads at want among = reads_node_lock w (is_ready b word) word refl
        (as_level w AtNodeLock at reads) (among_at (lock_of (node_of w)) p word want among)
    reads_fed w AtNodeMark p word reads at want among = reads_node_mark w (value_of word == 0) word refl
        (as_level w AtNodeMark at reads) (among_at (mark_of (node_of w)) p word want among)
    reads_fed w AtEnd p word reads at want among = absurd (none-some p want)
    reads_fed w Refused p word reads at want among = absurd (none-some p want)

    pub walk_reads : Reads (walk b op start all)
    walk_reads = walk_keeps _ _ _ Reads (λ reading. (i : ℕ) × (slice_get all i ≡ Some reading))
        (λ w reading want here reads. reads_fed w w.stage reading.0 reading.1 reads refl want
        (here.0, here.1)) start all
        (λ i reading h. (i, h)) (bare start (inl (omega arith)) (omega arith))

    -- a whole walk has read all
    pub end_reads : (w : Walk) → w.stage ≡ AtEnd → Reads w → HasRead w 7
    end_reads w at reads = as_level w AtEnd at reads
