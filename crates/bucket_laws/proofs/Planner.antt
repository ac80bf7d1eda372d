-- What a table gives to those who plan sections on it.
use Rattle.std.proofs.Common.{◌≡◌, ◌≢◌, ℕ, suc, ◌*◌, ◌<◌, ◌≤◌, Bool, true, false, cond, List, [], ◌∷◌, length, refl, sym}
use Rattle.std.proofs.Common.{ap, ◌∙◌, subst, inl, ⊎_elim, arith}
use Rattle.std.proofs.lemmas.Cmp.{nat_cmp_total}
use Rattle.std.specs.Prelude.{◌-◌, ◌^◌, Contains, Some, None, is_some, slice_get}
use Rattle.std.specs.Ordering.{nat_cmp}
use Rattle.std.specs.FinMap.{get, remove, len, empty_of_len, get-empty, len-remove}
use Rattle.std.proofs.lemmas.Option.{none-some}
use Rattle.structure_laws.specs.table_words.specs.small_lemmas.proofs.Lists.{none_not_some}
use Rattle.structure_laws.specs.table_words.specs.small_lemmas.proofs.Numbers.{suc_equal, zero_not_suc}
use Rattle.structure_laws.specs.map_history.specs.declared.op.Op.{Op}
use Rattle.structure_laws.specs.map_history.specs.declared.op.Op.TheVariants.{Get, Ins, Del, Put, Mov}
use Rattle.structure_laws.specs.map_history.specs.Replay.{Pairs}
use Rattle.bucket_bodies.specs.section_body.specs.Bucket.{bucket_index, bucket_edition}
use Rattle.structure_laws.specs.body_terms.specs.declared.value.Init.{Init}
use Rattle.structure_laws.specs.body_terms.specs.declared.step.Step.TheVariants.{Load, Want, Make, Answer}
use Rattle.structure_laws.specs.body_terms.specs.declared.thunk.Thunk.{Thunk}
use Rattle.structure_laws.specs.table_words.specs.declared.layout.Layout.{Layout}
use Rattle.structure_laws.specs.table_words.specs.Places.{slot_count}
use Rattle.structure_laws.specs.Scene.{Readings, Scene}
use Rattle.structure_laws.specs.InTurn.{StandsFor}
use Rattle.structure_laws.specs.Planner.{Adds, IsQuiet, AreInUse, PlannerLaws}
use Rattle.structure_laws.proofs.Changes.{upd_other}
use Rattle.bucket_laws.specs.Walk.{AtEdition, AtLock, AtEnd}
use Rattle.bucket_laws.specs.TwoWalk.{side_op}
use Rattle.bucket_laws.specs.Halves.{Own, Half, look_half, remove_half, set_half, look_two_half, Form, Reads}
use Rattle.bucket_laws.specs.Halves.{Inserts, Removes, Sets, ReadsTwo, Moves, Renames, Empty, form_of, halves_of, steps}
use Rattle.bucket_laws.specs.Buckets.{nodes, bounds, walk_by, bucket_by, BucketsKept, BucketsStand, table, buckets_meaning}
use Rattle.bucket_laws.specs.Buckets.{moves_meaning}
use Rattle.bucket_laws.proofs.Chain.{same_on}
use Rattle.bucket_laws.proofs.Fit.{PutsIn, keeps_gets, form_few}
use Rattle.bucket_laws.proofs.HalfFit.{OneCase, AnswerOf, op_fit, op_case}
use Rattle.bucket_laws.proofs.Halves.{number_is, answer_of, step_of, load_is, of_one, of_two, of_none, some_form}
use Rattle.bucket_laws.proofs.Maps.{get_removed}
use Rattle.bucket_laws.proofs.TableLaws.{bucket_small, buckets_few}
use Rattle.bucket_laws.proofs.TwoWalks.{side_seen}

-- a word was read at a place
abbrev IsAmong : Readings → ℕ → ℕ → Type 0
IsAmong readings p w = (k : ℕ) × (slice_get readings k ≡ Some (p, w))

-- slots with different keys that the map has are no more than its pairs
pub few_slots : (key : ℕ → ℕ) (slots : List ℕ) (pairs : Pairs) → ((i j t u : ℕ) → slice_get slots i ≡ Some t → slice_get slots j ≡ Some u → key t ≡ key u → i ≡ j)
    → ((i t : ℕ) → slice_get slots i ≡ Some t → (v : ℕ) × (get pairs (key t) ≡ Some v)) → length slots ≤ len pairs
few_slots key [] pairs once there = omega arith
few_slots key (t ∷ slots) pairs once there =
    let first = there 0 t refl in
    let size : len (remove pairs (key t)) ≡ len pairs - 1 = len-remove nat_cmp_total pairs (key t) ∙ ap (λ b. cond b (len pairs - 1) (len pairs)) (ap is_some first.1) in
    let some : len pairs ≢ 0 = λ e. none-some first.0 (sym (ap (λ m. get m (key t)) (empty_of_len pairs e) ∙ get-empty nat_cmp (key t)) ∙ first.1) in
    let rest : length slots ≤ len (remove pairs (key t)) = few_slots key slots (remove pairs (key t))
    (λ i j u v at also same. suc_equal i j (once (suc i) (suc j) u v at also same))
    (λ i u at. let found = there (suc i) u at in (
      found.0,
      get_removed pairs (key t) (key u) ∙ upd_other (get pairs) (key t) (key u) None
          (λ same. zero_not_suc i (sym (once (suc i) 0 u t at refl same))) ∙ found.1,
    )) in
    omega arith

module _ (two : Bool) (buckets : ℕ) (bucket : ℕ → ℕ) (small : (key : ℕ) → bucket key < buckets)
    (few : 3 * buckets ≤ 12288) (layout : Layout) where
  -- a word that a body wants is the edition that the walk of a key read
  want_read : (readings : Readings) (op : Op) (thunk : Thunk) → (table two buckets bucket).fits layout op readings thunk ≡ true → (i j p r w : ℕ)
      → slice_get (steps two thunk) i ≡ Some (Load p r) → slice_get (steps two thunk) j ≡ Some (Want r w)
      → IsAmong readings p w
  want_read readings op thunk fits i j p r w load want =
      let fit = op_fit two buckets bucket small few (bounds buckets bucket layout) op readings thunk fits in
      let wanted = step_of two thunk j (Want r w) want in
      let g = wanted.0 in
      let sees = (fit.halves g wanted.1).sees in
      let side = sees.0 in
      let read = side_seen buckets bucket small (bounds buckets bucket layout) op readings side
      (λ first. ⊎_elim (λ lock. at_lock (sym lock ∙ first)) (λ end. at_end (sym end ∙ first)) sees.1.whole) in
      let place = ((load_is two thunk g wanted.1 i p r load).1 wanted.3).1 in
      let lock = sees.1.place in
      let edition : p ≡ bucket_edition (bucket_by buckets bucket op side) = omega arith in
      subst (λ p. IsAmong readings p w) (sym edition)
      (subst (λ w. IsAmong readings (bucket_edition (bucket_by buckets bucket op side)) w)
      (sym (wanted.4 ∙ sees.1.word)) read)
    where
      at_lock : AtLock ≡ AtEdition → ⊥
      at_lock e = cc

      at_end : AtEnd ≡ AtEdition → ⊥
      at_end e = cc

  adds_new : (op : Op) (key v reply : ℕ) → PutsIn op key v → reply ≡ 1 * 2 ^ 32 → Adds op reply
  adds_new (Get k) key v reply is added = absurd (keeps_gets v is.1)
  adds_new (Ins k value) key v reply is added = added
  adds_new (Del k) key v reply is added = absurd (keeps_gets v is.1)
  adds_new (Put k value) key v reply is added = inl added
  adds_new (Mov from to) key v reply is added = absurd (keeps_gets v is.1)

  -- a body that makes a node is of an operation that adds a pair
  module _ (readings : Readings) (op : Op) (thunk : Thunk) (h : Half) (makes : h.made < h.change) where
    not_made : (a : Half) → a ≡ h → (a.made < a.change → ⊥) → ⊥
    not_made a same none = none (subst (λ h. h.made < h.change) (sym same) makes)

    one_adds : OneCase two buckets bucket small few (bounds buckets bucket layout) op readings thunk → (f : Form)
        → form_of two thunk ≡ f → Contains (halves_of f thunk) h → Adds (side_op op Own) (answer_of f thunk)
    one_adds one Reads form has = absurd (not_made (look_half thunk) (of_one (look_half thunk) h has) (λ lt. omega arith))
    one_adds one Inserts form has =
        let insert = (one.1.insert (number_is two thunk Inserts form (λ e. cc))).1 in
        adds_new (side_op op Own) insert.0 insert.1 (1 * 2 ^ 32) insert.2 refl
    one_adds one Removes form has =
        absurd (not_made (remove_half thunk) (of_one (remove_half thunk) h has) (λ lt. omega arith))
    one_adds one Sets form has = absurd (not_made (set_half thunk) (of_one (set_half thunk) h has) (λ lt. omega arith))
    one_adds one ReadsTwo form has = absurd (
        let low = form_few (side_op op Own) (walk_by buckets bucket layout op readings Own).found in
        let same = one.1.form in let number = number_is two thunk ReadsTwo form (λ e. cc) in omega arith)
    one_adds one Moves form has = absurd (
        let low = form_few (side_op op Own) (walk_by buckets bucket layout op readings Own).found in
        let same = one.1.form in let number = number_is two thunk Moves form (λ e. cc) in omega arith)
    one_adds one Renames form has = absurd (
        let low = form_few (side_op op Own) (walk_by buckets bucket layout op readings Own).found in
        let same = one.1.form in let number = number_is two thunk Renames form (λ e. cc) in omega arith)
    one_adds one Empty form has = absurd (of_none h has)

    mov_adds : (moved : Bool) (from to : ℕ) (f : Form) → Contains (halves_of f thunk) h
        → AnswerOf f (walk_by buckets bucket layout op readings Own) thunk moved → Adds (Mov from to) (answer_of f thunk)
    mov_adds moved from to Reads has answer =
        absurd (not_made (look_half thunk) (of_one (look_half thunk) h has) (λ lt. omega arith))
    mov_adds moved from to Inserts has answer = absurd answer
    mov_adds moved from to Removes has answer = absurd answer
    mov_adds moved from to Sets has answer = absurd answer
    mov_adds moved from to ReadsTwo has answer = absurd (⊎_elim
        (λ e. not_made (look_two_half true thunk) e (λ lt. omega arith))
        (λ e. not_made (look_two_half false thunk) e (λ lt. omega arith))
        (of_two (look_two_half true thunk) (look_two_half false thunk) h has))
    mov_adds moved from to Moves has answer = refl
    mov_adds moved from to Renames has answer = refl
    mov_adds moved from to Empty has answer = absurd answer

  make_adds : (readings : Readings) (op : Op) (thunk : Thunk) → (table two buckets bucket).fits layout op readings thunk ≡ true
      → (i j r reply : ℕ) (init : Init)
      → slice_get (steps two thunk) i ≡ Some (Make init r) → slice_get (steps two thunk) j ≡ Some (Answer reply)
      → Adds op reply
  make_adds readings op thunk fits i j r reply init make answer =
      let made = step_of two thunk i (Make init r) make in
      let form = form_of two thunk in
      subst (Adds op) (sym (step_of two thunk j (Answer reply) answer)) (⊎_elim
      (λ one. subst (λ op. Adds op (answer_of form thunk)) one.0
      (one_adds readings op thunk made.0 made.2 one form refl made.1))
      (λ mov. subst (λ op. Adds op (answer_of form thunk)) (sym mov.is)
      (mov_adds readings op thunk made.0 made.2 mov.moved mov.from mov.to form made.1
      (mov.answer form refl (some_form two thunk i (Make init r) make))))
      (op_case two buckets bucket small few (bounds buckets bucket layout) op readings thunk fits))

  module _ (s : Scene) (pairs : Pairs) (slots : List ℕ) (before : StandsFor (table two buckets bucket) layout s pairs) (quiet : IsQuiet (table two buckets bucket) s) (used : AreInUse (table two buckets bucket) s slots) where
    abbrev kept : BucketsKept two buckets bucket layout s
    kept = before.kept

    abbrev stands : BucketsStand buckets bucket (slot_count layout 0) s.cells pairs
    stands = before.stands

    -- with nothing open, a live slot stands in a chain
    on : (i t : ℕ) → slice_get slots i ≡ Some t → stands.on t ≡ true
    on i t at = same_on bucket (nodes buckets bucket s.cells) kept.on stands.on kept.rank stands.rank kept.chains stands.chains t
        (⊎_elim (λ there. there) (λ owned. absurd (none_not_some owned.1 (sym (quiet owned.0) ∙ owned.2)))
        (kept.live t (used.live i t at)))

    sized : length slots ≤ 1 * len pairs
    sized =
        let few = few_slots (nodes buckets bucket s.cells).key slots pairs
        (λ i j t u at also same. used.once i j u (subst (λ t. slice_get slots i ≡ Some t) (stands.chains.key_once t u (on i t at) (on j u also) same) at) also)
        (λ i t at. ((nodes buckets bucket s.cells).value t, stands.contents.pair t (on i t at))) in
        omega arith

-- the table, whether it moves keys or not
table_plan : (two : Bool) (bits : ℕ) → bits ≤ 12
    → PlannerLaws (table two (2 ^ bits) (λ key. bucket_index key bits)) 1
table_plan two bits low = record {
  serves = refl;
  over = λ layout limits. record {
    want_read = λ readings op thunk allowed. want_read two buckets bucket small few layout readings op thunk;
    make_adds = λ readings op thunk allowed. make_adds two buckets bucket small few layout readings op thunk;
    sized = λ s pairs slots before quiet used. sized two buckets bucket small few layout s pairs slots before quiet used;
  };
}
  where
    buckets : ℕ
    buckets = 2 ^ bits

    bucket : ℕ → ℕ
    bucket key = bucket_index key bits

    small : (key : ℕ) → bucket key < buckets
    small key = bucket_small bits key low

    few : 3 * buckets ≤ 12288
    few = buckets_few bits low

pub buckets_plan : (bits : ℕ) → bits ≤ 12 → PlannerLaws (buckets_meaning bits) 1
buckets_plan bits low = table_plan false bits low

pub moves_plan : (bits : ℕ) → bits ≤ 12 → PlannerLaws (moves_meaning bits) 1
moves_plan bits low = table_plan true bits low
