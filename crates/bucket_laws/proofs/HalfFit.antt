-- What the halves of a body have for numbers, where its thunk fits what was read.
use Rattle.std.proofs.Common.{◌≡◌, ◌≢◌, ℕ, ◌+◌, ◌*◌, ◌<◌, ◌≤◌, Bool, true, false, cond, refl, sym, ap, ◌∙◌, subst}
use Rattle.std.proofs.Common.{inl, inr, ⊎_elim, arith}
use Rattle.std.specs.Prelude.{◌==◌, ◌&&◌, ◌||◌, ◌^◌, ◌⊎◌, not, nat_lt, Some, Contains, slice_get, slice_index}
use Rattle.std.proofs.lemmas.Bool.{both_ways}
use Rattle.structure_laws.specs.table_words.specs.small_lemmas.proofs.Bools.{both_of as both_true, both_hold}
use Rattle.structure_laws.specs.table_words.specs.small_lemmas.proofs.Numbers.{tested_equal as equal_of, tested_less as less_of}
use Rattle.structure_laws.specs.map_history.specs.declared.op.Op.{Op}
use Rattle.structure_laws.specs.map_history.specs.declared.op.Op.TheVariants.{Get, Ins, Del, Put, Mov}
use Rattle.structure_laws.specs.map_history.specs.Keys.{key_of}
use Rattle.structure_laws.specs.body_terms.specs.Word.{value_of, version_of, pack}
use Rattle.bucket_bodies.specs.section_body.specs.Bucket.{bucket_lock, operand, is_small}
use Rattle.bucket_bodies.specs.Two.{high_half, higher_lock, takes_lower}
use Rattle.structure_laws.specs.body_terms.specs.declared.thunk.Thunk.{Thunk}
use Rattle.structure_laws.specs.Scene.{Readings}
use Rattle.bucket_laws.specs.Walk.{AtLock, AtEnd, Walk, start, Bounds, cell_at, walk, is_del}
use Rattle.bucket_laws.specs.Walk.{fits_walk}
use Rattle.bucket_laws.specs.Halves.{Look, Insert, Set, Side, Own, Other, Half, look_half}
use Rattle.bucket_laws.specs.Halves.{insert_half, remove_half, set_half, rename_half, look_two_half, taking_half}
use Rattle.bucket_laws.specs.Halves.{putting_half, Form, Reads, Inserts, Removes, Sets, ReadsTwo, Moves, Renames, Empty}
use Rattle.bucket_laws.specs.Halves.{form_of, halves_of}
use Rattle.bucket_laws.specs.TwoWalk.{Part, OnFirst, OnSecond, AtLower, AtHigher, AtBoth, Stopped, TwoWalk, two_start, is_both}
use Rattle.bucket_laws.specs.TwoWalk.{lower_of, higher_of, is_takable, is_one, two_walk, moves, is_lower, two_form}
use Rattle.bucket_laws.specs.TwoWalk.{high_lock, one_operands, both_operands, two_operands, fits_two}
use Rattle.bucket_laws.specs.TwoWalk.{side_op, side_of_two, side_walk, fits_by}
use Rattle.bucket_laws.proofs.Fit.{IsFit, fit_of, same_list, form_few}
use Rattle.bucket_laws.proofs.Halves.{Makes, Takes, number_of, number_is, form_is, of_none, of_one, of_two, moved_halves}
use Rattle.bucket_laws.proofs.TwoWalks.{TwoFacts, AreWhole, IsReadLock, Progress, two_facts}

or_cases : {A : Type 0} → (a b : Bool) → (a || b) ≡ true → (a ≡ true → A) → (b ≡ true → A) → A
or_cases true b h f g = f refl
or_cases false b h f g = g h

never : (b : Bool) → (b && false) ≡ true → ⊥
never true h = cc
never false h = cc

pub not_true : (b : Bool) → not b ≡ true → b ≡ false
not_true true h = absurd (cc)
not_true false h = refl

-- what stands in the halves of an operand
low_in : (v k : ℕ) → v < 2 ^ 32 → value_of (pack v k) ≡ v
low_in v k low = omega arith

high_in : (v k : ℕ) → v < 2 ^ 32 → version_of (pack v k) ≡ k
high_in v k low = omega arith

cut_small : (v : ℕ) → value_of v < 2 ^ 32
cut_small v = omega arith

whole_value : (v : ℕ) → v < 2 ^ 32 → value_of v ≡ v
whole_value v low = omega arith

-- the operation has this key
abbrev pub Serves : Op → Side → Type 0
Serves (Get key) Own = Unit {0}
Serves (Get key) Other = ⊥
Serves (Ins key value) Own = Unit {0}
Serves (Ins key value) Other = ⊥
Serves (Del key) Own = Unit {0}
Serves (Del key) Other = ⊥
Serves (Put key value) Own = Unit {0}
Serves (Put key value) Other = ⊥
Serves (Mov from to) Own = Unit {0}
Serves (Mov from to) Other = (from == to) ≡ false

module _ (buckets : ℕ) (bucket : ℕ → ℕ) (ops : Side → Op) (walks : Side → Walk) where
  -- the half is in this key's bucket and wants the edition that the whole walk of this key read
  pub record Sees (h : Half) (side : Side) : Type 0 where
    pub place : h.lock ≡ bucket_lock (bucket (key_of (ops side)))
    pub word : h.word ≡ (walks side).edition
    pub whole : ((walks side).stage ≡ AtLock) ⊎ ((walks side).stage ≡ AtEnd)

  -- what a half puts in, takes out and sets
  pub record HalfFit (h : Half) : Type 0 where
    pub sees : (side : Side) × Sees h side
    pub puts : Makes h.kind → Sees h h.side × ((walks h.side).found ≡ false) × (h.key ≡ key_of (ops h.side))
    pub heads : h.kind ≡ Insert → (h.target ≡ h.lock + 2) × (h.next ≡ (walks h.side).head)
    pub takes : Takes h.kind → Sees h Own × (is_del (ops Own) ≡ true) × ((walks Own).found ≡ true)
        × ((walks Own).place < 2 ^ 32 → h.target ≡ (walks Own).place) × (h.gone ≡ (walks Own).slot)
        × (h.next ≡ (walks Own).next)
    pub sets : h.kind ≡ Set → Sees h Own × ((walks Own).found ≡ true)
        × (h.target ≡ cell_at buckets bucket (walks Own).slot 2) × (ops Own ≡ Put (key_of (ops Own)) h.value)

  look_fit : (h : Half) → h.kind ≡ Look → (side : Side) → Sees h side → HalfFit h
  look_fit h look side sees = record {
    sees = (side, sees);
    puts = λ makes. absurd (subst Makes look makes);
    heads = λ e. absurd (let is = sym look ∙ e in cc);
    takes = λ takes. absurd (subst Takes look takes);
    sets = λ e. absurd (let is = sym look ∙ e in cc);
  }

-- a body with one half
abbrev single : Form → Type 0
single f = (f ≡ ReadsTwo → ⊥) × (f ≡ Moves → ⊥)

one_of : (f : Form) (t : Thunk) → single f → (g h : Half) → Contains (halves_of f t) g → Contains (halves_of f t) h
    → g ≡ h
one_of Reads t is g h has has' = sym (of_one (look_half t) g has) ∙ of_one (look_half t) h has'
one_of Inserts t is g h has has' = sym (of_one (insert_half t) g has) ∙ of_one (insert_half t) h has'
one_of Removes t is g h has has' = sym (of_one (remove_half t) g has) ∙ of_one (remove_half t) h has'
one_of Sets t is g h has has' = sym (of_one (set_half t) g has) ∙ of_one (set_half t) h has'
one_of ReadsTwo t is g h has has' = absurd (is.0 refl)
one_of Moves t is g h has has' = absurd (is.1 refl)
one_of Renames t is g h has has' = sym (of_one (rename_half t) g has) ∙ of_one (rename_half t) h has'
one_of Empty t is g h has has' = absurd (of_none g has)

-- where the thunk fits: of each half, of each key, and that two halves are in two buckets
pub record OpFit (two : Bool) (buckets : ℕ) (bucket : ℕ → ℕ) (op : Op) (ops : Side → Op) (walks : Side → Walk)
    (readings : Readings) (b : Bounds) (t : Thunk) : Type 0 where
  pub halves : (h : Half) → Contains (halves_of (form_of two t) t) h → HalfFit buckets bucket ops walks h
  pub seen : (form_of two t ≡ Empty → ⊥) → (side : Side) → Serves op side
      → (h : Half) × Contains (halves_of (form_of two t) t) h × Sees buckets bucket ops walks h side
  pub apart : (g h : Half) → Contains (halves_of (form_of two t) t) g → Contains (halves_of (form_of two t) t) h
      → g.lock ≡ h.lock → g ≡ h
  -- one that takes its lock takes another one than the outer
  pub inner : (h : Half) → Contains (halves_of (form_of two t) t) h → (h.held ≡ 0 → ⊥) → h.lock ≢ t.lock
  pub outer : (side : Side) × (t.lock ≡ bucket_lock (bucket (key_of (ops side))))
  -- the lock of each key's bucket is the outer one, or that of a half
  pub locked : (side : Side) → Serves op side → (t.lock ≡ bucket_lock (bucket (key_of (ops side))))
      ⊎ ((h : Half) × Contains (halves_of (form_of two t) t) h × (h.lock ≡ bucket_lock (bucket (key_of (ops side)))))
  pub taken : (h : Half) → Contains (halves_of (form_of two t) t) h → (h.held ≡ 0 → ⊥)
      → ((k : ℕ) × (slice_get readings k ≡ Some (h.lock, operand t 1))) × (is_takable b (operand t 1) ≡ true)

module _ (two : Bool) (buckets : ℕ) (bucket : ℕ → ℕ) (op : Op) (ops : Side → Op) (walks : Side → Walk)
    (readings : Readings) (b : Bounds) (t : Thunk) (none : Serves op Other → ⊥)
    (fit : IsFit buckets bucket (ops Own) (walks Own) t) where
  abbrev One : Half → Type 0
  One h = HalfFit buckets bucket ops walks h

  own_sees : (h : Half) → h.lock ≡ t.lock → h.word ≡ operand t 0 → Sees buckets bucket ops walks h Own
  own_sees h lock word = record { place = lock ∙ fit.lock; word = word ∙ fit.edition; whole = inr fit.stage }

  few : (n : ℕ) → t.form ≡ n → 4 < n → ⊥
  few n form high = let low = form_few (ops Own) (walks Own).found in let same = fit.form in omega arith

  of_form : (f : Form) → form_of two t ≡ f → (h : Half) → Contains (halves_of f t) h
      → One h × (h.lock ≡ t.lock) × (h.word ≡ operand t 0) × (h.held ≡ 0)
  of_form Reads form h has = subst (λ h. One h × (h.lock ≡ t.lock) × (h.word ≡ operand t 0) × (h.held ≡ 0))
      (of_one (look_half t) h has)
      (look_fit buckets bucket ops walks (look_half t) refl Own (own_sees (look_half t) refl refl), refl, refl, refl)
  of_form Inserts form h has =
      let named = fit.insert (number_is two t Inserts form (λ e. cc)) in
      subst (λ h. One h × (h.lock ≡ t.lock) × (h.word ≡ operand t 0) × (h.held ≡ 0)) (of_one (insert_half t) h has) (
        record {
          sees = (Own, own_sees (insert_half t) refl refl);
          puts = λ makes. (own_sees (insert_half t) refl refl, named.0, named.1.3 ∙ sym named.1.2.0);
          heads = λ e. (refl, named.1.5);
          takes = λ takes. absurd takes;
          sets = λ e. absurd (cc);
        },
        refl,
        refl,
        refl,
      )
  of_form Removes form h has =
      let named = fit.remove (number_is two t Removes form (λ e. cc)) in
      subst (λ h. One h × (h.lock ≡ t.lock) × (h.word ≡ operand t 0) × (h.held ≡ 0)) (of_one (remove_half t) h has) (
        record {
          sees = (Own, own_sees (remove_half t) refl refl);
          puts = λ makes. absurd makes;
          heads = λ e. absurd (cc);
          takes = λ takes. (
            own_sees (remove_half t) refl refl,
            named.1.0,
            named.0,
            λ low. named.1.1,
            named.1.2,
            named.1.3,
          );
          sets = λ e. absurd (cc);
        },
        refl,
        refl,
        refl,
      )
  of_form Sets form h has =
      let named = fit.sets (number_is two t Sets form (λ e. cc)) in
      subst (λ h. One h × (h.lock ≡ t.lock) × (h.word ≡ operand t 0) × (h.held ≡ 0)) (of_one (set_half t) h has) (
        record {
          sees = (Own, own_sees (set_half t) refl refl);
          puts = λ makes. absurd makes;
          heads = λ e. absurd (cc);
          takes = λ takes. absurd takes;
          sets = λ e. (
            own_sees (set_half t) refl refl,
            named.0,
            named.1.3,
            named.1.2
                ∙ ap (λ key. Put key named.1.1) (sym (ap key_of named.1.2))
                ∙ ap (Put (key_of (ops Own))) (sym named.1.4),
          );
        },
        refl,
        refl,
        refl,
      )
  of_form ReadsTwo form h has = absurd (few 21 (number_is two t ReadsTwo form (λ e. cc)) (omega arith))
  of_form Moves form h has = absurd (few 22 (number_is two t Moves form (λ e. cc)) (omega arith))
  of_form Renames form h has = absurd (few 23 (number_is two t Renames form (λ e. cc)) (omega arith))
  of_form Empty form h has = absurd (of_none h has)

  is_single : single (form_of two t)
  is_single = (
    λ e. few 21 (number_is two t ReadsTwo e (λ e. cc)) (omega arith),
    λ e. few 22 (number_is two t Moves e (λ e. cc)) (omega arith),
  )

  -- a body that isn't empty has a half
  some_half : (f : Form) → single f → (f ≡ Empty → ⊥) → (h : Half) × Contains (halves_of f t) h
  some_half Reads is some = (look_half t, (0, omega arith, refl))
  some_half Inserts is some = (insert_half t, (0, omega arith, refl))
  some_half Removes is some = (remove_half t, (0, omega arith, refl))
  some_half Sets is some = (set_half t, (0, omega arith, refl))
  some_half ReadsTwo is some = absurd (is.0 refl)
  some_half Moves is some = absurd (is.1 refl)
  some_half Renames is some = (rename_half t, (0, omega arith, refl))
  some_half Empty is some = absurd (some refl)

  seen_one : (form_of two t ≡ Empty → ⊥) → (side : Side) → Serves op side
      → (h : Half) × Contains (halves_of (form_of two t) t) h × Sees buckets bucket ops walks h side
  seen_one some Own served = let half = some_half (form_of two t) is_single some in
      let facts = of_form (form_of two t) refl half.0 half.1 in (half.0, half.1, own_sees half.0 facts.1 facts.2)
  seen_one some Other served = absurd (none served)

  locked_one : (side : Side) → Serves op side → (t.lock ≡ bucket_lock (bucket (key_of (ops side))))
      ⊎ ((h : Half) × Contains (halves_of (form_of two t) t) h × (h.lock ≡ bucket_lock (bucket (key_of (ops side)))))
  locked_one Own served = inl fit.lock
  locked_one Other served = absurd (none served)

  pub one_fit : OpFit two buckets bucket op ops walks readings b t
  one_fit = record {
    halves = λ h has. (of_form (form_of two t) refl h has).0;
    seen = seen_one;
    apart = λ g h has has' same. one_of (form_of two t) t is_single g h has has';
    inner = λ h has held. absurd (held (of_form (form_of two t) refl h has).3);
    outer = (Own, fit.lock);
    locked = locked_one;
    taken = λ h has held. absurd (held (of_form (form_of two t) refl h has).3);
  }

-- what the body over two keys answers, and the value that it puts in
abbrev pub AnswerOf : Form → Walk → Thunk → Bool → Type 0
AnswerOf Reads w t moved = (moved ≡ false) × (operand t 1 ≡ cond w.found (2 * 2 ^ 32) (5 * 2 ^ 32))
AnswerOf Inserts w t moved = ⊥
AnswerOf Removes w t moved = ⊥
AnswerOf Sets w t moved = ⊥
AnswerOf ReadsTwo w t moved = (moved ≡ false) × (operand t 7 ≡ cond w.found (2 * 2 ^ 32) (5 * 2 ^ 32))
AnswerOf Moves w t moved = (moved ≡ true) × (high_half t 6 ≡ w.value)
AnswerOf Renames w t moved = (moved ≡ true) × (operand t 5 ≡ w.value)
AnswerOf Empty w t moved = ⊥

-- which form a thunk over two keys has, by whether both keys lie in one bucket, and whether the value moves
abbrev CaseOf : Form → Bool → Bool → Type 0
CaseOf Reads one m = (one ≡ true) × (m ≡ false)
CaseOf Inserts one m = ⊥
CaseOf Removes one m = ⊥
CaseOf Sets one m = ⊥
CaseOf ReadsTwo one m = (one ≡ false) × (m ≡ false)
CaseOf Moves one m = (one ≡ false) × (m ≡ true)
CaseOf Renames one m = (one ≡ true) × (m ≡ true)
CaseOf Empty one m = ⊥

case_of : (f : Form) (one m : Bool) → number_of f ≡ cond one (cond m 23 1) (cond m 22 21) → CaseOf f one m
case_of Reads true true e = absurd (omega arith)
case_of Reads true false e = (refl, refl)
case_of Reads false true e = absurd (omega arith)
case_of Reads false false e = absurd (omega arith)
case_of Inserts true true e = absurd (omega arith)
case_of Inserts true false e = absurd (omega arith)
case_of Inserts false true e = absurd (omega arith)
case_of Inserts false false e = absurd (omega arith)
case_of Removes true true e = absurd (omega arith)
case_of Removes true false e = absurd (omega arith)
case_of Removes false true e = absurd (omega arith)
case_of Removes false false e = absurd (omega arith)
case_of Sets true true e = absurd (omega arith)
case_of Sets true false e = absurd (omega arith)
case_of Sets false true e = absurd (omega arith)
case_of Sets false false e = absurd (omega arith)
case_of ReadsTwo true true e = absurd (omega arith)
case_of ReadsTwo true false e = absurd (omega arith)
case_of ReadsTwo false true e = absurd (omega arith)
case_of ReadsTwo false false e = (refl, refl)
case_of Moves true true e = absurd (omega arith)
case_of Moves true false e = absurd (omega arith)
case_of Moves false true e = (refl, refl)
case_of Moves false false e = absurd (omega arith)
case_of Renames true true e = (refl, refl)
case_of Renames true false e = absurd (omega arith)
case_of Renames false true e = absurd (omega arith)
case_of Renames false false e = absurd (omega arith)
case_of Empty true true e = absurd (omega arith)
case_of Empty true false e = absurd (omega arith)
case_of Empty false true e = absurd (omega arith)
case_of Empty false false e = absurd (omega arith)

module _ (two : Bool) (buckets : ℕ) (bucket : ℕ → ℕ) (small : (key : ℕ) → bucket key < buckets)
    (few : 3 * buckets ≤ 12288) (b : Bounds) (from to : ℕ) (readings : Readings) (t : Thunk) where
  abbrev w : TwoWalk
  w = two_walk buckets bucket from to b two_start readings

  abbrev one : Bool
  one = is_one buckets bucket from to

  abbrev m : Bool
  m = moves buckets bucket from to w

  abbrev lower : Bool
  lower = is_lower buckets bucket from to

  abbrev high : ℕ
  high = high_lock buckets bucket from to

  abbrev ops : Side → Op
  ops = side_op (Mov from to)

  abbrev walks : Side → Walk
  walks = side_of_two buckets bucket b w

  -- the parts of the test
  pub record TwoFit : Type 0 where
    pub serves : two ≡ true
    pub whole : AreWhole buckets bucket from to b small readings w
    pub lower_read : IsReadLock buckets bucket from to b small readings (lower_of (bucket from) (bucket to)) w.low
    pub higher_read : one ≡ false
        → IsReadLock buckets bucket from to b small readings (higher_of (bucket from) (bucket to)) w.high
    pub high_small : high < 2 ^ 32
    pub next_small : w.first.next < 2 ^ 32
    pub to_small : to < 2 ^ 32
    pub slot_small : w.first.slot < 2 ^ 32
    pub value_small : w.first.value < 2 ^ 32
    pub form : t.form ≡ two_form buckets bucket from to w
    pub lock : t.lock ≡ bucket_lock (lower_of (bucket from) (bucket to))
    pub operands : t.operands ≡ two_operands buckets bucket from to w

  at_end : (part : Part) → is_both part ≡ true → part ≡ AtBoth
  at_end AtBoth h = refl
  at_end OnFirst h = absurd (cc)
  at_end OnSecond h = absurd (cc)
  at_end AtLower h = absurd (cc)
  at_end AtHigher h = absurd (cc)
  at_end Stopped h = absurd (cc)

  pub two_fit_of : two ≡ true → fits_two buckets bucket from to w t ≡ true → TwoFit
  two_fit_of serves h =
      let a = both_true _ _ h in
      let c = both_true _ _ a.1 in
      let d = both_true _ _ c.1 in
      let e = both_true _ _ d.1 in
      let f = both_true _ _ e.1 in
      let x = both_true _ _ c.0 in
      let y = both_true _ _ x.1 in
      let facts : TwoFacts buckets bucket from to b small readings w = two_facts buckets bucket from to b small readings in
      let progress = subst (Progress buckets bucket from to b small readings w) (at_end w.part a.0) facts.progress in
      record {
        serves = serves;
        whole = progress.0;
        lower_read = progress.1;
        higher_read = progress.2;
        high_small = less_of _ _ x.0;
        next_small = less_of _ _ y.0;
        to_small = less_of _ _ y.1;
        slot_small = facts.first.slot_small;
        value_small = facts.first.value_small;
        form = equal_of _ _ d.0;
        lock = equal_of _ _ e.0;
        operands = same_list _ _ f.1;
      }

  module _ (fit : TwoFit) where
    abbrev Fits : Half → Type 0
    Fits h = HalfFit buckets bucket ops walks h

    abbrev See : Half → Side → Type 0
    See h side = Sees buckets bucket ops walks h side

    abbrev Has : Half → Type 0
    Has h = Contains (halves_of (form_of two t) t) h

    -- the form goes by the buckets and by whether the value moves
    pub two_case : (f : Form) → form_of two t ≡ f → (f ≡ Empty → ⊥) → CaseOf f one m
    two_case f form some = case_of f one m (sym (number_is two t f form some) ∙ fit.form)

    -- an operand, where the case is known
    at : (n : ℕ) (c k : Bool) → one ≡ c → m ≡ k
        → operand t n ≡ slice_index (cond c (one_operands buckets bucket from to w k) (both_operands buckets bucket from to w k)) n
    at n c k is goes = ap (λ numbers. slice_index numbers n) fit.operands
        ∙ ap (λ c. slice_index (cond c (one_operands buckets bucket from to w m) (both_operands buckets bucket from to w m)) n)
        is
        ∙ ap (λ k. slice_index (cond c (one_operands buckets bucket from to w k) (both_operands buckets bucket from to w k)) n)
        goes

    -- the second key is another one where the value moves, and where the buckets differ
    other_moves : m ≡ true → (from == to) ≡ false
    other_moves goes = not_true (from == to) (both_true _ _ (both_true _ _ goes).1).1

    other_bucket : one ≡ false → (from == to) ≡ false
    other_bucket two = by (from == to) refl
      where
        same_test : (i j : ℕ) → i ≡ j → (i == j) ≡ true
        same_test i j e = grind arith

        by : (c : Bool) → (from == to) ≡ c → c ≡ false
        by true same = absurd (both_ways one two (same_test (bucket from) (bucket to) (ap bucket (equal_of from to same))))
        by false other = refl

    second_whole : (from == to) ≡ false
        → (w.second.stage ≡ AtLock) × (one ≡ true → w.second.edition ≡ w.first.edition)
    second_whole other = ⊎_elim (λ same. absurd (both_ways (from == to) other same.0))
        (λ whole. (whole.1, λ is. (whole.2 is).1)) fit.whole.1

    -- in one bucket the lower lock is that of both
    one_place : one ≡ true → t.lock ≡ bucket_lock (bucket from)
    one_place is = fit.lock ∙ ap bucket_lock (by (nat_lt (bucket from) (bucket to)))
      where
        by : (c : Bool) → cond c (bucket from) (bucket to) ≡ bucket from
        by true = refl
        by false = sym (equal_of (bucket from) (bucket to) is)

    -- a half in this one bucket sees both keys
    one_sees : one ≡ true → (h : Half) → h.lock ≡ t.lock → h.word ≡ w.first.edition → (side : Side)
        → Serves (Mov from to) side → See h side
    one_sees is h lock word Own served = record {
      place = lock ∙ one_place is;
      word = word;
      whole = inl fit.whole.0;
    }
    one_sees is h lock word Other served = record {
      place = lock ∙ one_place is ∙ ap bucket_lock (equal_of (bucket from) (bucket to) is);
      word = word ∙ sym ((second_whole served).1 is);
      whole = inl (second_whole served).0;
    }

    -- of two buckets each half sees the key that lies in its bucket
    abbrev low_place : Bool → ℕ
    low_place c = bucket_lock (cond c (bucket from) (bucket to))

    abbrev high_place : Bool → ℕ
    high_place c = bucket_lock (cond c (bucket to) (bucket from))

    first_sees : (h : Half) → h.lock ≡ bucket_lock (bucket from) → h.word ≡ w.first.edition → See h Own
    first_sees h lock word = record { place = lock; word = word; whole = inl fit.whole.0 }

    other_sees : one ≡ false → (h : Half) → h.lock ≡ bucket_lock (bucket to) → h.word ≡ w.second.edition → See h Other
    other_sees two h lock word =
        record { place = lock; word = word; whole = inl (second_whole (other_bucket two)).0 }

    -- the words of the editions
    low_word : (k c : Bool) → one ≡ false → m ≡ k → lower ≡ c → operand t 0 ≡ cond c w.first.edition w.second.edition
    low_word true c two goes is = at 0 false true two goes ∙ ap (λ c. cond c w.first.edition w.second.edition) is
    low_word false c two goes is = at 0 false false two goes ∙ ap (λ c. cond c w.first.edition w.second.edition) is

    high_word : (k c : Bool) → one ≡ false → m ≡ k → lower ≡ c → operand t 2 ≡ cond c w.second.edition w.first.edition
    high_word true c two goes is = at 2 false true two goes ∙ ap (λ c. cond c w.second.edition w.first.edition) is
    high_word false c two goes is = at 2 false false two goes ∙ ap (λ c. cond c w.second.edition w.first.edition) is

    -- the places of the locks
    low_at : (c : Bool) → lower ≡ c → t.lock ≡ low_place c
    low_at c is = fit.lock ∙ ap low_place is

    looked_at : (c : Bool) → one ≡ false → m ≡ false → lower ≡ c → operand t 3 ≡ high_place c
    looked_at c two stays is = at 3 false false two stays ∙ ap high_place is

    moved_at : (c : Bool) → one ≡ false → m ≡ true → lower ≡ c → higher_lock t ≡ high_place c
    moved_at c two goes is = ap value_of (at 3 false true two goes)
        ∙ low_in high (cond lower 1 0) fit.high_small ∙ ap high_place is

    -- the half of form 22 takes from the lower bucket exactly where the first key lies there
    flag : (c : Bool) → (c ≡ lower) → ((cond c 1 0) == 1) ≡ c
    flag true is = refl
    flag false is = refl

    takes_is : one ≡ false → m ≡ true → takes_lower t ≡ lower
    takes_is two goes = ap (λ n. n == 1) (ap version_of (at 3 false true two goes)
        ∙ high_in high (cond lower 1 0) fit.high_small) ∙ flag lower refl

    -- form 21
    looks_at : (c : Bool) → lower ≡ c → one ≡ false → m ≡ false
        → (Sees buckets bucket ops walks (look_two_half true t) (cond c Own Other))
        × (Sees buckets bucket ops walks (look_two_half false t) (cond c Other Own))
    looks_at true is two stays = (
      first_sees (look_two_half true t) (low_at true is) (low_word false true two stays is),
      other_sees two (look_two_half false t) (looked_at true two stays is) (high_word false true two stays is),
    )
    looks_at false is two stays = (
      other_sees two (look_two_half true t) (low_at false is) (low_word false false two stays is),
      first_sees (look_two_half false t) (looked_at false two stays is) (high_word false false two stays is),
    )

    -- form 22
    taking_sees : (c : Bool) → lower ≡ c → one ≡ false → m ≡ true → See (taking_half c t) Own
    taking_sees true is two goes =
        first_sees (taking_half true t) (low_at true is) (low_word true true two goes is)
    taking_sees false is two goes =
        first_sees (taking_half false t) (moved_at false two goes is) (high_word true false two goes is)

    putting_sees : (c : Bool) → lower ≡ c → one ≡ false → m ≡ true → See (putting_half c t) Other
    putting_sees true is two goes =
        other_sees two (putting_half true t) (moved_at true two goes is) (high_word true true two goes is)
    putting_sees false is two goes =
        other_sees two (putting_half false t) (low_at false is) (low_word true false two goes is)

    found_first : m ≡ true → w.first.found ≡ true
    found_first goes = (both_true _ _ goes).0

    missed_second : m ≡ true → w.second.found ≡ false
    missed_second goes = not_true w.second.found (both_true _ _ (both_true _ _ goes).1).0

    taking_fit : (c : Bool) → lower ≡ c → one ≡ false → m ≡ true → Fits (taking_half c t)
    taking_fit c is two goes = record {
      sees = (Own, taking_sees c is two goes);
      puts = λ makes. absurd makes;
      heads = λ e. absurd (cc);
      takes = λ takes. (
        taking_sees c is two goes,
        refl,
        found_first goes,
        λ low. ap value_of (at 4 false true two goes)
            ∙ low_in (value_of w.first.place) w.first.slot (cut_small w.first.place) ∙ whole_value w.first.place low,
        ap version_of (at 4 false true two goes)
            ∙ high_in (value_of w.first.place) w.first.slot (cut_small w.first.place),
        ap value_of (at 5 false true two goes)
            ∙ low_in w.first.next w.second.head fit.next_small,
      );
      sets = λ e. absurd (cc);
    }

    putting_fit : (c : Bool) → lower ≡ c → one ≡ false → m ≡ true → Fits (putting_half c t)
    putting_fit c is two goes = record {
      sees = (Other, putting_sees c is two goes);
      puts = λ makes. (
        putting_sees c is two goes,
        missed_second goes,
        ap value_of (at 6 false true two goes) ∙ low_in to w.first.value fit.to_small,
      );
      heads = λ e. (
        refl,
        ap version_of (at 5 false true two goes)
            ∙ high_in w.first.next w.second.head fit.next_small,
      );
      takes = λ takes. absurd takes;
      sets = λ e. absurd (cc);
    }

    -- form 23
    rename_fit : one ≡ true → m ≡ true → Fits (rename_half t)
    rename_fit is goes = record {
      sees = (Own, one_sees is (rename_half t) refl (at 0 true true is goes) Own tt);
      puts = λ makes. (
        one_sees is (rename_half t) refl (at 0 true true is goes) Other (other_moves goes),
        missed_second goes,
        at 4 true true is goes,
      );
      heads = λ e. absurd (cc);
      takes = λ takes. (
        one_sees is (rename_half t) refl (at 0 true true is goes) Own tt,
        refl,
        found_first goes,
        λ low. at 1 true true is goes,
        at 2 true true is goes,
        at 3 true true is goes,
      );
      sets = λ e. absurd (cc);
    }

    moved_has : (c : Bool) → takes_lower t ≡ c → (h : Half) → Contains (halves_of Moves t) h
        → Contains (moved_halves c t) h
    moved_has c is h has = subst (λ c. Contains (moved_halves c t) h) is has

    -- each half
    two_half : (f : Form) → form_of two t ≡ f → (h : Half) → Contains (halves_of f t) h → CaseOf f one m → Fits h
    two_half Reads form h has known = subst Fits (of_one (look_half t) h has) (look_fit buckets bucket ops walks
        (look_half t) refl Own (one_sees known.0 (look_half t) refl (at 0 true false known.0 known.1) Own tt))
    two_half Inserts form h has known = absurd known
    two_half Removes form h has known = absurd known
    two_half Sets form h has known = absurd known
    two_half ReadsTwo form h has known =
        let sees = looks_at lower refl known.0 known.1 in
        ⊎_elim (λ e. subst Fits e (look_fit buckets bucket ops walks (look_two_half true t) refl (cond lower Own Other) sees.0))
        (λ e. subst Fits e (look_fit buckets bucket ops walks (look_two_half false t) refl (cond lower Other Own) sees.1))
        (of_two (look_two_half true t) (look_two_half false t) h has)
    two_half Moves form h has known =
        ⊎_elim (λ e. subst Fits e (taking_fit lower refl known.0 known.1))
        (λ e. subst Fits e (putting_fit lower refl known.0 known.1))
        (of_two (taking_half lower t) (putting_half lower t) h
        (moved_has lower (takes_is known.0 known.1) h has))
    two_half Renames form h has known = subst Fits (of_one (rename_half t) h has) (rename_fit known.0 known.1)
    two_half Empty form h has known = absurd known

    -- each key is seen by a half
    two_seen : (f : Form) → form_of two t ≡ f → CaseOf f one m → (side : Side) → Serves (Mov from to) side
        → (h : Half) × Contains (halves_of f t) h × See h side
    two_seen Reads form known side served = (
      look_half t,
      (0, omega arith, refl),
      one_sees known.0 (look_half t) refl (at 0 true false known.0 known.1) side served,
    )
    two_seen Inserts form known side served = absurd known
    two_seen Removes form known side served = absurd known
    two_seen Sets form known side served = absurd known
    two_seen ReadsTwo form known side served = by lower refl side
      where
        by : (c : Bool) → lower ≡ c → (side : Side)
            → (h : Half) × Contains (halves_of ReadsTwo t) h × See h side
        by true is Own =
            (look_two_half true t, (0, omega arith, refl), (looks_at true is known.0 known.1).0)
        by true is Other =
            (look_two_half false t, (1, omega arith, refl), (looks_at true is known.0 known.1).1)
        by false is Own =
            (look_two_half false t, (1, omega arith, refl), (looks_at false is known.0 known.1).1)
        by false is Other =
            (look_two_half true t, (0, omega arith, refl), (looks_at false is known.0 known.1).0)
    two_seen Moves form known Own served = (
      taking_half lower t,
      subst (λ c. Contains (moved_halves c t) (taking_half lower t)) (sym (takes_is known.0 known.1))
          (0, omega arith, refl),
      taking_sees lower refl known.0 known.1,
    )
    two_seen Moves form known Other served = (
      putting_half lower t,
      subst (λ c. Contains (moved_halves c t) (putting_half lower t)) (sym (takes_is known.0 known.1))
          (1, omega arith, refl),
      putting_sees lower refl known.0 known.1,
    )
    two_seen Renames form known side served = (
      rename_half t,
      (0, omega arith, refl),
      one_sees known.0 (rename_half t) refl (at 0 true true known.0 known.1) side served,
    )
    two_seen Empty form known side served = absurd known

    -- two buckets have two locks
    locks_apart : one ≡ false → (i j : ℕ) → i ≡ bucket_lock (bucket from) → j ≡ bucket_lock (bucket to) → i ≡ j → ⊥
    locks_apart two i j first second same = both_ways one two (same_test (bucket from) (bucket to) (omega arith))
      where
        same_test : (i j : ℕ) → i ≡ j → (i == j) ≡ true
        same_test i j e = grind arith

    -- of two halves that see the two keys
    pair_apart : one ≡ false → (a c g h : Half) → a.lock ≡ bucket_lock (bucket from) → c.lock ≡ bucket_lock (bucket to)
        → (a ≡ g) ⊎ (c ≡ g) → (a ≡ h) ⊎ (c ≡ h) → g.lock ≡ h.lock → g ≡ h
    pair_apart two a c g h first second of of' same = ⊎_elim
        (λ e. ⊎_elim (λ e'. sym e ∙ e')
        (λ e'. absurd (locks_apart two a.lock c.lock first second (ap (λ h. h.lock) e ∙ same ∙ sym (ap (λ h. h.lock) e')))) of')
        (λ e. ⊎_elim
        (λ e'. absurd (locks_apart two a.lock c.lock first second
        (ap (λ h. h.lock) e' ∙ sym same ∙ sym (ap (λ h. h.lock) e))))
        (λ e'. sym e ∙ e') of') of

    swapped : {A B : Type 0} → A ⊎ B → B ⊎ A
    swapped (inl a) = inr a
    swapped (inr b) = inl b

    two_apart : (f : Form) → form_of two t ≡ f → CaseOf f one m → (g h : Half) → Contains (halves_of f t) g
        → Contains (halves_of f t) h → g.lock ≡ h.lock → g ≡ h
    two_apart Reads form known g h has has' same = sym (of_one (look_half t) g has) ∙ of_one (look_half t) h has'
    two_apart Inserts form known g h has has' same = absurd known
    two_apart Removes form known g h has has' same = absurd known
    two_apart Sets form known g h has has' same = absurd known
    two_apart ReadsTwo form known g h has has' same = by lower refl
      where
        by : (c : Bool) → lower ≡ c → g ≡ h
        by true is = let sees = looks_at true is known.0 known.1 in
            pair_apart known.0 (look_two_half true t) (look_two_half false t) g h sees.0.place sees.1.place
            (of_two (look_two_half true t) (look_two_half false t) g has)
            (of_two (look_two_half true t) (look_two_half false t) h has') same
        by false is = let sees = looks_at false is known.0 known.1 in
            pair_apart known.0 (look_two_half false t) (look_two_half true t) g h sees.1.place sees.0.place
            (swapped (of_two (look_two_half true t) (look_two_half false t) g has))
            (swapped (of_two (look_two_half true t) (look_two_half false t) h has')) same
    two_apart Moves form known g h has has' same =
        let takes = takes_is known.0 known.1 in
        pair_apart known.0 (taking_half lower t) (putting_half lower t) g h
        (taking_sees lower refl known.0 known.1).place (putting_sees lower refl known.0 known.1).place
        (of_two (taking_half lower t) (putting_half lower t) g (moved_has lower takes g has))
        (of_two (taking_half lower t) (putting_half lower t) h (moved_has lower takes h has')) same
    two_apart Renames form known g h has has' same =
        sym (of_one (rename_half t) g has) ∙ of_one (rename_half t) h has'
    two_apart Empty form known g h has has' same = absurd known

    -- so is the lock of each key's bucket: with two buckets the body isn't empty
    small_is : (n : ℕ) → n < 2 ^ 32 → is_small n ≡ true
    small_is n low = grind arith

    high_low : high + 2 < 2 ^ 32
    high_low = by (nat_lt (bucket from) (bucket to))
      where
        by : (c : Bool) → bucket_lock (cond c (bucket to) (bucket from)) + 2 < 2 ^ 32
        by true = let low = small to in omega (arith, few)
        by false = let low = small from in omega (arith, few)

    lock_low : t.lock + 2 < 2 ^ 32
    lock_low = by (nat_lt (bucket from) (bucket to)) fit.lock
      where
        by : (c : Bool) → t.lock ≡ bucket_lock (cond c (bucket from) (bucket to)) → t.lock + 2 < 2 ^ 32
        by true at = let low = small from in omega (arith, few)
        by false at = let low = small to in omega (arith, few)

    filled : one ≡ false → (k : Bool) → m ≡ k → form_of two t ≡ Empty → ⊥
    filled apart true goes empty =
        let place : higher_lock t ≡ high = ap value_of (at 3 false true apart goes)
        ∙ low_in high (cond lower 1 0) fit.high_small in
        let number : t.form ≡ 22 = fit.form ∙ ap (λ c. cond c (cond m 23 1) (cond m 22 21)) apart
        ∙ ap (λ k. cond k 22 21) goes in
        let form = form_is two Moves t (λ is. fit.serves) number (both_hold _ _ (small_is _ lock_low)
        (small_is _ (let low = high_low in omega arith))) in
        absurd (let no = sym form ∙ empty in cc)
    filled apart false stays empty =
        let place : operand t 3 ≡ high = at 3 false false apart stays in
        let number : t.form ≡ 21 = fit.form ∙ ap (λ c. cond c (cond m 23 1) (cond m 22 21)) apart
        ∙ ap (λ k. cond k 22 21) stays in
        let form = form_is two ReadsTwo t (λ is. fit.serves) number (both_hold _ _ (small_is _ lock_low)
        (small_is _ (let low = high_low in omega arith))) in
        absurd (let no = sym form ∙ empty in cc)

    -- with one bucket neither is it
    filled_one : w.first.place < 2 ^ 32 → one ≡ true → (k : Bool) → m ≡ k → form_of two t ≡ Empty → ⊥
    filled_one place is true goes empty =
        let number : t.form ≡ 23 = fit.form ∙ ap (λ c. cond c (cond m 23 1) (cond m 22 21)) is
        ∙ ap (λ k. cond k 23 1) goes in
        let slot = fit.slot_small in
        let next = fit.next_small in
        let key = fit.to_small in
        let value = fit.value_small in
        let form = form_is two Renames t (λ is. fit.serves) number (both_hold _ _ (small_is _ lock_low)
        (both_hold _ _ (small_is (operand t 1) (let same = at 1 true true is goes in omega arith))
        (both_hold _ _ (small_is (operand t 2) (let same = at 2 true true is goes in omega arith))
        (both_hold _ _ (small_is (operand t 3) (let same = at 3 true true is goes in omega arith))
        (both_hold _ _ (small_is (operand t 4) (let same = at 4 true true is goes in omega arith))
        (small_is (operand t 5) (let same = at 5 true true is goes in omega arith))))))) in
        absurd (let no = sym form ∙ empty in cc)
    filled_one place is false stays empty =
        let number : t.form ≡ 1 = fit.form ∙ ap (λ c. cond c (cond m 23 1) (cond m 22 21)) is
        ∙ ap (λ k. cond k 23 1) stays in
        let form = form_is two Reads t (λ is. absurd is) number (small_is _ (let low = lock_low in omega arith)) in
        absurd (let no = sym form ∙ empty in cc)

    pub mov_filled : w.first.place < 2 ^ 32 → form_of two t ≡ Empty → ⊥
    mov_filled place = by one refl
      where
        by : (c : Bool) → one ≡ c → form_of two t ≡ Empty → ⊥
        by true is = filled_one place is m refl
        by false apart = filled apart m refl

    two_locked : (c : Bool) → one ≡ c → (side : Side) → Serves (Mov from to) side
        → (t.lock ≡ bucket_lock (bucket (key_of (ops side)))) ⊎ ((h : Half) × Has h
        × (h.lock ≡ bucket_lock (bucket (key_of (ops side)))))
    two_locked true is Own served = inl (one_place is)
    two_locked true is Other served = inl (one_place is ∙ ap bucket_lock (equal_of (bucket from) (bucket to) is))
    two_locked false apart side served =
        let seen = two_seen (form_of two t) refl (two_case (form_of two t) refl (filled apart m refl)) side served in
        inr (seen.0, seen.1, seen.2.place)

    -- the lock that is taken was read
    abbrev Taken : Half → Type 0
    Taken h = ((k : ℕ) × (slice_get readings k ≡ Some (h.lock, operand t 1))) × (is_takable b (operand t 1) ≡ true)

    taken_at : one ≡ false → (h : Half) → h.lock ≡ high → operand t 1 ≡ w.high → Taken h
    taken_at two h lock word =
        let read = fit.higher_read two in (
          (read.0.0, read.0.1 ∙ ap (λ p. Some (p, w.high)) (sym lock) ∙ ap (λ n. Some (h.lock, n)) (sym word)),
          ap (is_takable b) word ∙ read.1,
        )

    two_taken : (f : Form) → form_of two t ≡ f → CaseOf f one m → (h : Half) → Contains (halves_of f t) h
        → (h.held ≡ 0 → ⊥) → Taken h
    two_taken Reads form known h has held = absurd (held (sym (ap (λ h. h.held) (of_one (look_half t) h has))))
    two_taken Inserts form known h has held = absurd known
    two_taken Removes form known h has held = absurd known
    two_taken Sets form known h has held = absurd known
    two_taken ReadsTwo form known h has held =
        ⊎_elim (λ e. absurd (held (sym (ap (λ h. h.held) e))))
        (λ e. taken_at known.0 h (sym (ap (λ h. h.lock) e) ∙ at 3 false false known.0 known.1)
        (at 1 false false known.0 known.1))
        (of_two (look_two_half true t) (look_two_half false t) h has)
    two_taken Moves form known h has held = by lower refl
      where
        place : higher_lock t ≡ high
        place = ap value_of (at 3 false true known.0 known.1) ∙ low_in high (cond lower 1 0) fit.high_small

        word : operand t 1 ≡ w.high
        word = at 1 false true known.0 known.1

        by : (c : Bool) → lower ≡ c → Taken h
        by true is = ⊎_elim (λ e. absurd (held (sym (ap (λ h. h.held) e))))
            (λ e. taken_at known.0 h (sym (ap (λ h. h.lock) e) ∙ place) word)
            (of_two (taking_half true t) (putting_half true t) h
            (moved_has true (takes_is known.0 known.1 ∙ is) h has))
        by false is = ⊎_elim (λ e. taken_at known.0 h (sym (ap (λ h. h.lock) e) ∙ place) word)
            (λ e. absurd (held (sym (ap (λ h. h.held) e))))
            (of_two (taking_half false t) (putting_half false t) h
            (moved_has false (takes_is known.0 known.1 ∙ is) h has))
    two_taken Renames form known h has held = absurd (held (sym (ap (λ h. h.held) (of_one (rename_half t) h has))))
    two_taken Empty form known h has held = absurd known

    -- the outer lock is that of one of the buckets
    two_outer : (c : Bool) → lower ≡ c → (side : Side) × (t.lock ≡ bucket_lock (bucket (key_of (ops side))))
    two_outer true is = (Own, low_at true is)
    two_outer false is = (Other, low_at false is)

    -- the half of the outer lock
    abbrev IsOuter : Half → Type 0
    IsOuter h = (h.lock ≡ t.lock) × (h.held ≡ 0)

    outer_half : (f : Form) → form_of two t ≡ f → CaseOf f one m → (h : Half) × Contains (halves_of f t) h × IsOuter h
    outer_half Reads form known = (look_half t, (0, omega arith, refl), (refl, refl))
    outer_half Inserts form known = absurd known
    outer_half Removes form known = absurd known
    outer_half Sets form known = absurd known
    outer_half ReadsTwo form known = (look_two_half true t, (0, omega arith, refl), (refl, refl))
    outer_half Moves form known = by (takes_lower t) refl
      where
        by : (c : Bool) → takes_lower t ≡ c → (h : Half) × Contains (halves_of Moves t) h × IsOuter h
        by true is = (
          taking_half true t,
          subst (λ c. Contains (moved_halves c t) (taking_half true t)) (sym is) (0, omega arith, refl),
          (refl, refl),
        )
        by false is = (
          putting_half false t,
          subst (λ c. Contains (moved_halves c t) (putting_half false t)) (sym is) (1, omega arith, refl),
          (refl, refl),
        )
    outer_half Renames form known = (rename_half t, (0, omega arith, refl), (refl, refl))
    outer_half Empty form known = absurd known

    two_inner : (f : Form) → form_of two t ≡ f → CaseOf f one m → (h : Half) → Contains (halves_of f t) h
        → (h.held ≡ 0 → ⊥) → h.lock ≢ t.lock
    two_inner f form known h has held same =
        let outer = outer_half f form known in
        held (sym (ap (λ h. h.held) (two_apart f form known outer.0 h outer.1 has (outer.2.0 ∙ sym same))) ∙ outer.2.1)

    some : (h : Half) → (f : Form) → form_of two t ≡ f → Contains (halves_of f t) h → f ≡ Empty → ⊥
    some h f form has empty = of_none h (subst (λ f. Contains (halves_of f t) h) empty has)

    pub mov_fit : OpFit two buckets bucket (Mov from to) ops walks readings b t
    mov_fit = record {
      halves = λ h has. two_half (form_of two t) refl h has
          (two_case (form_of two t) refl (some h (form_of two t) refl has));
      seen = λ whole side served. two_seen (form_of two t) refl (two_case (form_of two t) refl whole) side served;
      apart = λ g h has has' same. two_apart (form_of two t) refl
          (two_case (form_of two t) refl (some h (form_of two t) refl has')) g h has has' same;
      inner = λ h has held. two_inner (form_of two t) refl
          (two_case (form_of two t) refl (some h (form_of two t) refl has)) h has held;
      outer = two_outer lower refl;
      locked = two_locked one refl;
      taken = λ h has held. two_taken (form_of two t) refl
          (two_case (form_of two t) refl (some h (form_of two t) refl has)) h has held;
    }

    -- what the body answers, and what it puts in
    pub two_answer : (f : Form) → form_of two t ≡ f → (f ≡ Empty → ⊥) → AnswerOf f w.first t m
    two_answer f form some = by f form (two_case f form some)
      where
        by : (f : Form) → form_of two t ≡ f → CaseOf f one m → AnswerOf f w.first t m
        by Reads form known = (known.1, at 1 true false known.0 known.1)
        by Inserts form known = known
        by Removes form known = known
        by Sets form known = known
        by ReadsTwo form known = (known.1, at 7 false false known.0 known.1)
        by Moves form known = (
          known.1,
          ap version_of (at 6 false true known.0 known.1) ∙ high_in to w.first.value fit.to_small,
        )
        by Renames form known = (known.1, at 5 true true known.0 known.1)
        by Empty form known = known

-- a fitting thunk is that of an operation over one key, or over two
module _ (two : Bool) (buckets : ℕ) (bucket : ℕ → ℕ) (small : (key : ℕ) → bucket key < buckets)
    (few : 3 * buckets ≤ 12288) (b : Bounds) where
  abbrev pub OneCase : Op → Readings → Thunk → Type 0
  OneCase op readings t = (side_op op Own ≡ op) × IsFit buckets bucket (side_op op Own)
      (side_walk buckets bucket b op readings Own) t

  pub record MovCase (op : Op) (readings : Readings) (t : Thunk) : Type 0 where
    pub from : ℕ
    pub to : ℕ
    pub is : op ≡ Mov from to
    pub whole : (side_walk buckets bucket b op readings Own).stage ≡ AtLock
    pub filled : (side_walk buckets bucket b op readings Own).place < 2 ^ 32 → form_of two t ≡ Empty → ⊥
    pub moved : Bool
    pub tests : moved ≡ ((side_walk buckets bucket b op readings Own).found
        && (not (side_walk buckets bucket b op readings Other).found && not (from == to)))
    pub answer : (f : Form) → form_of two t ≡ f → (f ≡ Empty → ⊥) → AnswerOf f
        (side_walk buckets bucket b op readings Own) t moved

  one_key : (op : Op) (readings : Readings) (t : Thunk)
      → fits_walk buckets bucket op (walk buckets bucket b op start readings) t ≡ true
      → IsFit buckets bucket op (walk buckets bucket b op start readings) t
  one_key op readings t h = fit_of buckets bucket op (walk buckets bucket b op start readings) t h

  -- where the operation has one key, only the walk of one can fit
  walk_fits : (two : Bool) (fits : Bool) → ((two && false) || fits) ≡ true → fits ≡ true
  walk_fits two fits h = or_cases (two && false) fits h (λ e. absurd (never two e)) (λ e. e)

  two_fits : (two fits : Bool) → ((two && fits) || false) ≡ true → (two ≡ true) × (fits ≡ true)
  two_fits two fits h = or_cases (two && fits) false h (λ e. both_true two fits e) (λ e. absurd (cc))

  abbrev FitsOp : Op → Readings → Thunk → Type 0
  FitsOp op readings t = OpFit two buckets bucket op (side_op op) (side_walk buckets bucket b op readings) readings b t

  pub op_fit : (op : Op) (readings : Readings) (t : Thunk) → fits_by buckets bucket b two op readings t ≡ true
      → FitsOp op readings t
  op_fit (Get key) readings t h = one_fit two buckets bucket (Get key) (side_op (Get key))
      (side_walk buckets bucket b (Get key) readings) readings b t (λ e. e)
      (one_key (Get key) readings t (walk_fits two _ h))
  op_fit (Ins key value) readings t h = one_fit two buckets bucket (Ins key value) (side_op (Ins key value))
      (side_walk buckets bucket b (Ins key value) readings) readings b t (λ e. e)
      (one_key (Ins key value) readings t (walk_fits two _ h))
  op_fit (Del key) readings t h = one_fit two buckets bucket (Del key) (side_op (Del key))
      (side_walk buckets bucket b (Del key) readings) readings b t (λ e. e)
      (one_key (Del key) readings t (walk_fits two _ h))
  op_fit (Put key value) readings t h = one_fit two buckets bucket (Put key value) (side_op (Put key value))
      (side_walk buckets bucket b (Put key value) readings) readings b t (λ e. e)
      (one_key (Put key value) readings t (walk_fits two _ h))
  op_fit (Mov from to) readings t h =
      mov_fit two buckets bucket small few b from to readings t
      (two_fit_of two buckets bucket small few b from to readings t (two_fits two _ h).0 (two_fits two _ h).1)

  pub op_case : (op : Op) (readings : Readings) (t : Thunk) → fits_by buckets bucket b two op readings t ≡ true
      → OneCase op readings t ⊎ MovCase op readings t
  op_case (Get key) readings t h = inl (refl, one_key (Get key) readings t (walk_fits two _ h))
  op_case (Ins key value) readings t h = inl (refl, one_key (Ins key value) readings t (walk_fits two _ h))
  op_case (Del key) readings t h = inl (refl, one_key (Del key) readings t (walk_fits two _ h))
  op_case (Put key value) readings t h = inl (refl, one_key (Put key value) readings t (walk_fits two _ h))
  op_case (Mov from to) readings t h = inr (record {
    from = from;
    to = to;
    is = refl;
    whole = (two_fit_of two buckets bucket small few b from to readings t (two_fits two _ h).0
        (two_fits two _ h).1).whole.0;
    filled = mov_filled two buckets bucket small few b from to readings t
        (two_fit_of two buckets bucket small few b from to readings t (two_fits two _ h).0 (two_fits two _ h).1);
    moved = moves buckets bucket from to (two_walk buckets bucket from to b two_start readings);
    tests = refl;
    answer = two_answer two buckets bucket small few b from to readings t
        (two_fit_of two buckets bucket small few b from to readings t (two_fits two _ h).0 (two_fits two _ h).1);
  })
