-- A thunk that fits a walk goes on to fit, and a body without a Store answers what leaves the map as it was.
use Rattle.std.proofs.Common.{◌≡◌, ℕ, ◌<◌, ◌≤◌, ◌*◌, Bool, true, false, cond, refl, sym, ap, ◌∙◌, subst, inl, inr, ⊎_elim, arith}
use Rattle.std.specs.Prelude.{◌&&◌, ◌||◌, ◌^◌, [], ◌∷◌, ◌++◌, ◌⊎◌, Contains, slice_get, slice_index, Some}
use Rattle.structure_laws.specs.table_words.specs.small_lemmas.proofs.Bools.{both_of as both_true}
use Rattle.structure_laws.specs.map_history.specs.declared.op.Op.{Op}
use Rattle.structure_laws.specs.map_history.specs.declared.op.Op.TheVariants.{Get, Ins, Del, Put, Mov}
use Rattle.structure_laws.specs.map_history.specs.declared.reply.Reply.TheVariants.{Dup, Absent}
use Rattle.structure_laws.specs.map_history.specs.Keys.{key_of}
use Rattle.structure_laws.specs.map_history.specs.Words.{word_of}
use Rattle.bucket_bodies.specs.Two.{takes_lower}
use Rattle.structure_laws.specs.body_terms.specs.declared.step.Step.TheVariants.{Answer}
use Rattle.structure_laws.specs.body_terms.specs.declared.thunk.Thunk.{Thunk}
use Rattle.structure_laws.specs.table_words.specs.declared.layout.Layout.{Layout}
use Rattle.structure_laws.specs.Scene.{Readings}
use Rattle.structure_laws.specs.Fitting.{Leaves, StoresNothing, Fitting}
use Rattle.bucket_laws.specs.Walk.{AtEnd, Bounds, Walk, form_for, operands_for, start, is_wanted, wanted_at, fed, fits_walk, walk}
use Rattle.bucket_laws.specs.TwoWalk.{Part, OnFirst, OnSecond, AtLower, AtHigher, AtBoth, Stopped, two_start, is_both}
use Rattle.bucket_laws.specs.TwoWalk.{two_walk, fits_two, side_op}
use Rattle.bucket_laws.specs.Halves.{Own, Half, insert_half, remove_half, set_half, rename_half}
use Rattle.bucket_laws.specs.Halves.{taking_half, Form, Reads, Inserts, Removes, Sets, ReadsTwo, Moves, Renames, Empty}
use Rattle.bucket_laws.specs.Halves.{form_of, halves_of}
use Rattle.bucket_laws.specs.Buckets.{bounds, walk_by, table}
use Rattle.bucket_laws.proofs.Fit.{fit_of, form_few}
use Rattle.bucket_laws.proofs.HalfFit.{OneCase, AnswerOf, op_case}
use Rattle.bucket_laws.proofs.Halves.{half_is, number_is, stored_for, answer_of, step_of, some_form}
use Rattle.bucket_laws.proofs.TwoWalks.{two_on}

-- a body that reads alone answers what leaves the map as it was
read_leaves : (buckets : ℕ) (op : Op) (w : Walk) (found : Bool) → form_for op found ≡ 1 → Leaves op (slice_index (operands_for buckets op w found) 1)
read_leaves buckets (Get key) w found form = tt
read_leaves buckets (Ins key value) w true form = refl
read_leaves buckets (Ins key value) w false form = absurd (omega arith)
read_leaves buckets (Del key) w true form = absurd (omega arith)
read_leaves buckets (Del key) w false form = refl
read_leaves buckets (Put key value) w true form = absurd (omega arith)
read_leaves buckets (Put key value) w false form = absurd (omega arith)
read_leaves buckets (Mov from to) w found form = absurd (omega arith)

-- of two walks, of which one goes on and the other stops
either : (one more stopped : Walk) (c : Bool) → (one.stage ≡ AtEnd → more ≡ one)
    → (cond c one stopped).stage ≡ AtEnd → cond c more stopped ≡ cond c one stopped
either one more stopped true h e = h e
either one more stopped false h e = refl

-- of two tests the second one holds, or the first
first_holds : (two fits : Bool) → ((two && fits) || false) ≡ true → fits ≡ true
first_holds true true h = refl
first_holds true false h = absurd (cc)
first_holds false fits h = absurd (cc)

second_holds : (two fits : Bool) → ((two && false) || fits) ≡ true → fits ≡ true
second_holds true fits h = h
second_holds false fits h = h

at_its_part : (part : Part) → is_both part ≡ true → part ≡ AtBoth
at_its_part AtBoth h = refl
at_its_part OnFirst h = absurd (cc)
at_its_part OnSecond h = absurd (cc)
at_its_part AtLower h = absurd (cc)
at_its_part AtHigher h = absurd (cc)
at_its_part Stopped h = absurd (cc)

module _ (two : Bool) (buckets : ℕ) (bucket : ℕ → ℕ) (small : (key : ℕ) → bucket key < buckets)
    (few : 3 * buckets ≤ 12288) where
  module _ (b : Bounds) (op : Op) where
    abbrev walked : Walk → Readings → Walk
    walked w readings = walk buckets bucket b op w readings

    -- a walk at its end wants nothing more
    at_its_end : (w : Walk) (more : Readings) → w.stage ≡ AtEnd → walked w more ≡ w
    unfolding walk
    at_its_end w [] e = refl
    at_its_end w (reading ∷ more) e =
        ap (λ stage. cond (is_wanted (wanted_at buckets bucket (bucket (key_of op)) w stage) reading.0) (walked (fed buckets bucket b op w w.stage reading.1) more) w) e

    walk_on : (w : Walk) (readings more : Readings) → (walked w readings).stage ≡ AtEnd → walked w (readings ++ more) ≡ walked w readings
    unfolding walk
    walk_on w [] more e = at_its_end w more e
    walk_on w (reading ∷ readings) more e = either _ _ w (is_wanted (wanted_at buckets bucket (bucket (key_of op)) w w.stage) reading.0)
        (walk_on (fed buckets bucket b op w w.stage reading.1) readings more) e

    -- of an operation over one key
    one_on : (readings more : Readings) (thunk : Thunk)
        → ((two && false) || fits_walk buckets bucket op (walked start readings) thunk) ≡ true
        → ((two && false) || fits_walk buckets bucket op (walked start (readings ++ more)) thunk) ≡ true
    one_on readings more thunk fits =
        let fit = fit_of buckets bucket op (walked start readings) thunk (second_holds two _ fits) in
        ap (λ w. (two && false) || fits_walk buckets bucket op w thunk) (walk_on start readings more fit.stage) ∙ fits

  -- of one over two
  two_keys_on : (b : Bounds) (from to : ℕ) (readings more : Readings) (thunk : Thunk)
      → ((two && fits_two buckets bucket from to (two_walk buckets bucket from to b two_start readings) thunk) || false)
      ≡ true
      → ((two && fits_two buckets bucket from to (two_walk buckets bucket from to b two_start (readings ++ more)) thunk)
      || false) ≡ true
  two_keys_on b from to readings more thunk fits =
      let whole = at_its_part _ (both_true _ _ (first_holds two _ fits)).0 in
      ap (λ w. (two && fits_two buckets bucket from to w thunk) || false)
      (two_on buckets bucket from to b two_start readings more whole) ∙ fits

  fits_on : (layout : Layout) (readings more : Readings) (op : Op) (thunk : Thunk)
      → (table two buckets bucket).fits layout op readings thunk ≡ true
      → (table two buckets bucket).fits layout op (readings ++ more) thunk ≡ true
  fits_on layout readings more (Get key) thunk fits =
      one_on (bounds buckets bucket layout) (Get key) readings more thunk fits
  fits_on layout readings more (Ins key value) thunk fits =
      one_on (bounds buckets bucket layout) (Ins key value) readings more thunk fits
  fits_on layout readings more (Del key) thunk fits =
      one_on (bounds buckets bucket layout) (Del key) readings more thunk fits
  fits_on layout readings more (Put key value) thunk fits =
      one_on (bounds buckets bucket layout) (Put key value) readings more thunk fits
  fits_on layout readings more (Mov from to) thunk fits =
      two_keys_on (bounds buckets bucket layout) from to readings more thunk fits

  module _ (layout : Layout) (op : Op) (thunk : Thunk) (readings : Readings) (fits : (table two buckets bucket).fits layout op readings thunk ≡ true)
      (none : StoresNothing (table two buckets bucket) thunk) where
    -- a body with a half that changes its bucket has a Store
    no_change : (f : Form) → form_of two thunk ≡ f → (h : Half) → Contains (halves_of f thunk) h → h.change < h.edition → ⊥
    no_change f form h has changes =
        let here = subst (λ f. Contains (halves_of f thunk) h) (sym form) has in
        none h.change h.target_reg (stored_for h.kind h) ((half_is two thunk h here).steps changes).2

    one_leaves : OneCase two buckets bucket small few (bounds buckets bucket layout) op readings thunk → (f : Form)
        → form_of two thunk ≡ f → (f ≡ Empty → ⊥) → Leaves (side_op op Own) (answer_of f thunk)
    one_leaves one Reads form some = subst (Leaves (side_op op Own))
        (sym (ap (λ numbers. slice_index numbers 1) one.1.operands))
        (read_leaves buckets (side_op op Own) (walk_by buckets bucket layout op readings Own)
        (walk_by buckets bucket layout op readings Own).found (sym one.1.form ∙ number_is two thunk Reads form some))
    one_leaves one Inserts form some =
        absurd (no_change Inserts form (insert_half thunk) (0, omega arith, refl) (omega arith))
    one_leaves one Removes form some =
        absurd (no_change Removes form (remove_half thunk) (0, omega arith, refl) (omega arith))
    one_leaves one Sets form some = absurd (no_change Sets form (set_half thunk) (0, omega arith, refl) (omega arith))
    one_leaves one ReadsTwo form some = absurd (
        let low = form_few (side_op op Own) (walk_by buckets bucket layout op readings Own).found in
        let same = one.1.form in let number = number_is two thunk ReadsTwo form some in omega arith)
    one_leaves one Moves form some = absurd (
        let low = form_few (side_op op Own) (walk_by buckets bucket layout op readings Own).found in
        let same = one.1.form in let number = number_is two thunk Moves form some in omega arith)
    one_leaves one Renames form some = absurd (
        let low = form_few (side_op op Own) (walk_by buckets bucket layout op readings Own).found in
        let same = one.1.form in let number = number_is two thunk Renames form some in omega arith)
    one_leaves one Empty form some = absurd (some refl)

    -- where the value doesn't move
    stays : (found : Bool) (n : ℕ) → n ≡ cond found (2 * 2 ^ 32) (5 * 2 ^ 32) → (n ≡ word_of Dup) ⊎ (n ≡ word_of Absent)
    stays true n is = inl is
    stays false n is = inr is

    two_leaves : (moved : Bool) (f : Form) → form_of two thunk ≡ f
        → AnswerOf f (walk_by buckets bucket layout op readings Own) thunk moved
        → (answer_of f thunk ≡ word_of Dup) ⊎ (answer_of f thunk ≡ word_of Absent)
    two_leaves moved Reads form answer = stays (walk_by buckets bucket layout op readings Own).found (answer_of Reads thunk) answer.1
    two_leaves moved Inserts form answer = absurd answer
    two_leaves moved Removes form answer = absurd answer
    two_leaves moved Sets form answer = absurd answer
    two_leaves moved ReadsTwo form answer =
        stays (walk_by buckets bucket layout op readings Own).found (answer_of ReadsTwo thunk) answer.1
    two_leaves moved Moves form answer = absurd (no_change Moves form (taking_half (takes_lower thunk) thunk)
        (0, omega arith, refl) (later (takes_lower thunk)))
      where
        later : (c : Bool) → 13 < cond c 15 16
        later true = omega arith
        later false = omega arith
    two_leaves moved Renames form answer =
        absurd (no_change Renames form (rename_half thunk) (0, omega arith, refl) (omega arith))
    two_leaves moved Empty form answer = absurd answer

    still : (j reply : ℕ) → slice_get ((table two buckets bucket).body thunk) j ≡ Some (Answer reply) → Leaves op reply
    still j reply h =
        let answer = step_of two thunk j (Answer reply) h in
        let some = some_form two thunk j (Answer reply) h in
        subst (Leaves op) (sym answer) (⊎_elim
        (λ one. subst (λ op. Leaves op (answer_of (form_of two thunk) thunk)) one.0
        (one_leaves one (form_of two thunk) refl some))
        (λ mov. subst (λ op. Leaves op (answer_of (form_of two thunk) thunk)) (sym mov.is)
        (two_leaves mov.moved (form_of two thunk) refl (mov.answer (form_of two thunk) refl some)))
        (op_case two buckets bucket small few (bounds buckets bucket layout) op readings thunk fits))

  pub table_fitting : (layout : Layout) → Fitting (table two buckets bucket) layout
  table_fitting layout = record {
    fits_on = λ readings more op thunk fits. fits_on layout readings more op thunk fits;
    still = λ map readings op thunk allowed fits none. still layout op thunk readings fits none;
  }
