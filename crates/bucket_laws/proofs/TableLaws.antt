-- The table meets the laws.
use Rattle.std.proofs.Common.{◌≡◌, ◌≢◌, ℕ, zero, suc, ◌+◌, ◌*◌, ◌<◌, ◌≤◌, Bool, true, false, cond, refl, sym, ap, ◌∙◌, subst}
use Rattle.std.proofs.Common.{inl, inr, ⊎_elim, arith}
use Rattle.std.specs.Prelude.{◌==◌, ◌&&◌, ◌-◌, ◌/◌, ◌%◌, ◌^◌, ◌⊎◌, not, nat_lt, Some, slice_get}
use Rattle.std.specs.Prelude.{List, slice_index, length, Contains}
use Rattle.std.specs.FinMap.{get, empty, get-empty}
use Rattle.std.specs.Ordering.{nat_cmp}
use Rattle.std.proofs.lemmas.Nat.{pow_pos, pow_below, shr_below}
use Rattle.structure_laws.specs.table_words.specs.small_lemmas.proofs.Bools.{both_of, false_not_true, both_hold}
use Rattle.structure_laws.specs.table_words.specs.small_lemmas.proofs.Lists.{none_not_some, some_not_none, some_same}
use Rattle.structure_laws.specs.table_words.specs.small_lemmas.proofs.Numbers.{zero_not_suc, last_or_before}
use Rattle.structure_laws.specs.map_history.specs.declared.op.Op.{Op}
use Rattle.structure_laws.specs.map_history.specs.declared.op.Op.TheVariants.{Get, Ins, Del, Put, Mov}
use Rattle.structure_laws.specs.map_history.specs.Keys.{key_of, value_given, IsOneKeyed, DependsOn}
use Rattle.structure_laws.specs.map_history.specs.Replay.{Pairs}
use Rattle.structure_laws.specs.body_terms.specs.Update.{upd}
use Rattle.structure_laws.specs.body_terms.specs.Word.{value_of, is_free, is_spent}
use Rattle.bucket_bodies.specs.section_body.specs.Bucket.{bucket_index, bucket_head, operand, is_small}
use Rattle.bucket_bodies.specs.Two.{higher_lock, target_lock, takes_lower}
use Rattle.structure_laws.specs.body_terms.specs.Shape.{IsShaped}
use Rattle.structure_laws.specs.body_terms.specs.declared.value.Value.{Value}
use Rattle.structure_laws.specs.body_terms.specs.declared.step.Step.{Step}
use Rattle.structure_laws.specs.body_terms.specs.declared.step.Step.TheVariants.{Load, Take, Make, Store, Answer}
use Rattle.structure_laws.specs.body_terms.specs.declared.thunk.Thunk.{Thunk}
use Rattle.structure_laws.specs.table_words.specs.declared.layout.Layout.{Layout}
use Rattle.structure_laws.specs.table_words.specs.Limits.{IsWithinLimits}
use Rattle.structure_laws.specs.table_words.specs.Places.{slot_count}
use Rattle.structure_laws.specs.Scene.{Readings, Free, Live, Retired, Scene}
use Rattle.structure_laws.specs.Sections.{IsAllowed, IsSmall}
use Rattle.structure_laws.specs.Cells.{IsKnown, IsSafe}
use Rattle.structure_laws.specs.Sound.{Sound}
use Rattle.structure_laws.specs.Shape.{Shaped}
use Rattle.structure_laws.specs.InTurn.{InTurn}
use Rattle.structure_laws.specs.Laws.{IsFirst, Laws}
use Rattle.structure_laws.proofs.Changes.{upd_other}
use Rattle.structure_laws.proofs.Costs.{brief_cost}
use Rattle.bucket_laws.specs.Chain.{Chains}
use Rattle.bucket_laws.specs.Walk.{AtEdition, AtLock, AtEnd, Walk, cell_at, form_for, operands_for}
use Rattle.bucket_laws.specs.TwoWalk.{side_op}
use Rattle.bucket_laws.specs.Halves.{Kind, Look, Insert, Remove, Set, Rename, Side, Own, Other, Half, look_half, insert_half}
use Rattle.bucket_laws.specs.Halves.{remove_half, set_half, rename_half, look_two_half, taking_half, putting_half, Form}
use Rattle.bucket_laws.specs.Halves.{Reads, Inserts, Removes, Sets, ReadsTwo, Moves, Renames, Empty, form_of, steps_of}
use Rattle.bucket_laws.specs.Halves.{halves_of, steps}
use Rattle.bucket_laws.specs.Buckets.{nodes, is_link_place, walk_by, bounds, BucketsKept}
use Rattle.bucket_laws.specs.Buckets.{BucketsStand, table, buckets_meaning, moves_meaning}
use Rattle.bucket_laws.proofs.Chain.{same_on, chains_agree, contents_agree}
use Rattle.bucket_laws.proofs.Fit.{IsFit, form_few, puts_given}
use Rattle.bucket_laws.proofs.Fitting.{table_fitting}
use Rattle.bucket_laws.proofs.HalfFit.{OpFit, HalfFit, Sees, OneCase, MovCase, AnswerOf, op_fit, op_case}
use Rattle.bucket_laws.proofs.Halves.{Makes, Takes, node_init, number_of, number_is, stored_for, answer_of}
use Rattle.bucket_laws.proofs.Halves.{IsOverTwo, fits_for, form_is, half_is, pair_of, step_of, store_is, steps_are, of_one, of_two, moved_halves}
use Rattle.bucket_laws.proofs.NodeChanges.{clip_same}
use Rattle.bucket_laws.proofs.Places.{head_lock, one_slot}
use Rattle.bucket_laws.proofs.TableGives.{live_free, retired_free, reached, table_gives}
use Rattle.bucket_laws.proofs.TableKeeps.{lock_at, table_keeps}
use Rattle.bucket_laws.proofs.TableShape.{read_shaped, insert_shaped, remove_shaped, set_shaped, look_two_shaped}
use Rattle.bucket_laws.proofs.TableShape.{move_shaped, rename_shaped, few_steps}
use Rattle.bucket_laws.proofs.TableTurn.{table_answers, table_stores}
use Rattle.bucket_laws.proofs.TwoWalks.{side_facts}
use Rattle.bucket_laws.proofs.WalkFacts.{Gives}

small_is : (n : ℕ) → n < 2 ^ 32 → is_small n ≡ true
small_is n low = grind arith

no_lock_low : (i r n : ℕ) → 1 ≤ r → r ≤ 2 → (nat_lt (3 * i + r) n && ((3 * i + r) % 3 == 0)) ≡ false
no_lock_low i r n low high = let rest : (3 * i + r) % 3 ≢ 0 = (λ e. omega arith) in grind arith

no_lock_high : (p n : ℕ) → n ≤ p → (nat_lt p n && (p % 3 == 0)) ≡ false
no_lock_high p n high = grind arith

pub form_cases : (op : Op) (found : Bool) → IsOneKeyed op → (form_for op found ≡ 1) ⊎ (form_for op found ≡ 2) ⊎ (form_for op found ≡ 3) ⊎ (form_for op found ≡ 4)
form_cases (Get key) found one = inl refl
form_cases (Ins key value) true one = inl refl
form_cases (Ins key value) false one = inr (inl refl)
form_cases (Del key) true one = inr (inr (inl refl))
form_cases (Del key) false one = inl refl
form_cases (Put key value) true one = inr (inr (inr refl))
form_cases (Put key value) false one = inr (inl refl)
form_cases (Mov from to) found one = absurd (some_not_none to one)

-- the reply word of a thunk that changes nothing isn't 0
reply_some : (buckets : ℕ) (op : Op) (w : Walk) (found : Bool) → form_for op found ≡ 1 → 0 < slice_index (operands_for buckets op w found) 1
reply_some buckets (Get key) w true form = positive w.value
  where
    positive : (v : ℕ) → 0 < 3 * 2 ^ 32 + v
    positive v = omega arith
reply_some buckets (Get key) w false form = omega arith
reply_some buckets (Ins key value) w true form = omega arith
reply_some buckets (Ins key value) w false form = absurd (omega arith)
reply_some buckets (Del key) w true form = absurd (omega arith)
reply_some buckets (Del key) w false form = omega arith
reply_some buckets (Put key value) w true form = absurd (omega arith)
reply_some buckets (Put key value) w false form = absurd (omega arith)
reply_some buckets (Mov from to) w there form = absurd (omega arith)

-- the keys that an operation names
side_key : (op : Op) (side : Side) → DependsOn op (key_of (side_op op side))
side_key (Get key) side = inl refl
side_key (Ins key value) side = inl refl
side_key (Del key) side = inl refl
side_key (Put key value) side = inl refl
side_key (Mov from to) Own = inl refl
side_key (Mov from to) Other = inr refl

-- a lock that can be taken is free and not spent
not_spent : (b : Bool) → not b ≡ true → b ≡ false
not_spent true h = absurd (cc)
not_spent false h = refl

module _ (two : Bool) (buckets : ℕ) (bucket : ℕ → ℕ) (small : (key : ℕ) → bucket key < buckets)
    (few : 3 * buckets ≤ 12288) (layout : Layout) (limits : IsWithinLimits layout) (s : Scene) (sound : Sound (table two buckets bucket) layout s)
    (r : ℕ) (readings : Readings) (op : Op) (thunk : Thunk) (reader : s.reader r ≡ Some readings) (allowed : IsAllowed op)
    (fits : (table two buckets bucket).fits layout op readings thunk ≡ true) where
  abbrev walk_of : Side → Walk
  walk_of side = walk_by buckets bucket layout op readings side

  abbrev own_of : Side → ℕ
  own_of side = bucket (key_of (side_op op side))

  abbrev form : Form
  form = form_of two thunk

  abbrev HasHere : Half → Type 0
  HasHere h = Contains (halves_of form thunk) h

  fit : OpFit two buckets bucket op (side_op op) walk_of readings (bounds buckets bucket layout) thunk
  fit = op_fit two buckets bucket small few (bounds buckets bucket layout) op readings thunk fits

  half_fit : (h : Half) → HasHere h → HalfFit buckets bucket (side_op op) walk_of h
  half_fit h has = fit.halves h has

  abbrev cases : OneCase two buckets bucket small few (bounds buckets bucket layout) op readings thunk
      ⊎ MovCase two buckets bucket small few (bounds buckets bucket layout) op readings thunk
  cases = op_case two buckets bucket small few (bounds buckets bucket layout) op readings thunk fits

  -- the bucket of the outer lock
  outer : (i : ℕ) × (i < buckets) × (thunk.lock ≡ 3 * i)
  outer = let side = fit.outer in (own_of side.0, small (key_of (side_op op side.0)), side.1)

  -- and of each half
  place_in : (h : Half) → HasHere h → (i : ℕ) × (i < buckets) × (h.lock ≡ 3 * i)
  place_in h has = let sees = (half_fit h has).sees in
      (own_of sees.0, small (key_of (side_op op sees.0)), sees.1.place)

  -- a slot that the readings give is a node slot
  within : (t : ℕ) → Gives buckets bucket small readings t → t < slot_count layout 0
  within t gives = let by = reached (is_link_place buckets bucket) readings t gives in
      sound.within t (used ((sound.readers r readings reader).safe by.0 by.1 by.2 t by.3 by.4 by.5))
    where
      used : IsSafe s t → s.status t ≢ Free
      used safe = ⊎_elim (λ live. live_free (s.status t) live) (λ retired. retired_free (s.status t) retired.0 retired.1) safe

  -- a whole walk is past its edition
  past : (h : Half) (side : Side) → Sees buckets bucket (side_op op) walk_of h side → (walk_of side).stage ≢ AtEdition
  past h side sees first = ⊎_elim (λ lock. at_lock (sym lock ∙ first)) (λ end. at_end (sym end ∙ first)) sees.whole
    where
      at_lock : AtLock ≡ AtEdition → ⊥
      at_lock e = cc

      at_end : AtEnd ≡ AtEdition → ⊥
      at_end e = cc

  -- the place of the last link of a walk
  link_place : (h : Half) (side : Side) → Sees buckets bucket (side_op op) walk_of h side
      → ((walk_of side).place ≡ bucket_head (own_of side))
      ⊎ ((t : ℕ) × Gives buckets bucket small readings t × ((walk_of side).place ≡ cell_at buckets bucket t 3))
  link_place h side sees = (side_facts buckets bucket small (bounds buckets bucket layout) op readings side).place
      (past h side sees)

  cell_small : (t k : ℕ) → Gives buckets bucket small readings t → k < 5 → 3 * buckets + 5 * t + k < 2 ^ 32
  cell_small t k gives low = let below = within t gives in let nodes = limits.few_nodes in
      let runners = limits.few_runners in omega arith

  -- so it is small
  walk_small : (side : Side) → (walk_of side).stage ≢ AtEdition → (walk_of side).place < 2 ^ 32
  walk_small side begun = ⊎_elim (λ head. let low = small (key_of (side_op op side)) in omega arith)
      (λ node. let below = cell_small node.0 3 node.1 (omega arith) in let at = node.2 in omega arith)
      ((side_facts buckets bucket small (bounds buckets bucket layout) op readings side).place begun)

  sees_small : (h : Half) (side : Side) → Sees buckets bucket (side_op op) walk_of h side → (walk_of side).place < 2 ^ 32
  sees_small h side sees = walk_small side (past h side sees)

  lock_small : thunk.lock + 2 < 2 ^ 32
  lock_small = let low = outer.1 in let at = outer.2 in omega arith

  -- what a half changes: its bucket's head, or a cell of a slot that was read in a link
  place_of : (h : Half) → HasHere h → h.change < h.edition → (h.target ≡ h.lock + 2)
      ⊎ ((h.kind ≡ Insert → ⊥) × ((t k : ℕ) × Gives buckets bucket small readings t × (1 < k) × (k < 5)
      × (h.target ≡ 3 * buckets + 5 * t + k)))
  place_of h has changes = by h.kind refl
    where
      not_insert : (k : Kind) → h.kind ≡ k → (k ≡ Insert → ⊥) → h.kind ≡ Insert → ⊥
      not_insert k kind other e = other (sym kind ∙ e)

      taken : Takes h.kind → (h.kind ≡ Insert → ⊥) → (h.target ≡ h.lock + 2)
          ⊎ ((h.kind ≡ Insert → ⊥) × ((t k : ℕ) × Gives buckets bucket small readings t × (1 < k) × (k < 5)
          × (h.target ≡ 3 * buckets + 5 * t + k)))
      taken kind other = let takes = (half_fit h has).takes kind in
          ⊎_elim (λ head. let lock = takes.0.place in let at = takes.3 (sees_small h Own takes.0) in inl (omega arith))
          (λ node. inr (other, (node.0, 3, node.1, omega arith, omega arith, takes.3 (sees_small h Own takes.0) ∙ node.2)))
          (link_place h Own takes.0)

      by : (k : Kind) → h.kind ≡ k → (h.target ≡ h.lock + 2)
          ⊎ ((h.kind ≡ Insert → ⊥) × ((t k : ℕ) × Gives buckets bucket small readings t × (1 < k) × (k < 5)
          × (h.target ≡ 3 * buckets + 5 * t + k)))
      by Look kind = let none = (half_is two thunk h has).look.0 kind in absurd (omega arith)
      by Insert kind = inl ((half_fit h has).heads kind).0
      by Remove kind = taken (subst Takes (sym kind) tt) (not_insert Remove kind (λ e. cc))
      by Set kind = let sets = (half_fit h has).sets kind in
          let found = (side_facts buckets bucket small (bounds buckets bucket layout) op readings Own).slot
          (inr (inr (inr sets.1))) in
          inr (not_insert Set kind (λ e. cc), ((walk_of Own).slot, 2, found, omega arith, omega arith, sets.2))
      by Rename kind = taken (subst Takes (sym kind) tt) (not_insert Rename kind (λ e. cc))

  target_small : (h : Half) → HasHere h → h.change < h.edition → h.target < 2 ^ 32
  target_small h has changes = let place = place_in h has in let low = place.1 in let at = place.2 in
      ⊎_elim (λ head. omega arith)
      (λ node. let cell = node.1 in let below = cell_small cell.0 cell.1 cell.2 cell.4 in let at = cell.5 in omega arith)
      (place_of h has changes)

  -- of an operation over one key
  module _ (one : OneCase two buckets bucket small few (bounds buckets bucket layout) op readings thunk) where
    own_fit : IsFit buckets bucket (side_op op Own) (walk_of Own) thunk
    own_fit = one.1

    given_small : (v : ℕ) → value_given (side_op op Own) ≡ Some v → v < 2 ^ 32
    given_small v given = allowed.value v (ap value_given (sym one.0) ∙ given)

    -- the operands are small, so the body is the one of its form
    insert_small : thunk.form ≡ 2 → (operand thunk 1 < 2 ^ 32) × (operand thunk 2 < 2 ^ 32) × (operand thunk 3 < 2 ^ 32)
    insert_small number =
        let named = (own_fit.insert number).1 in
        let is_key : key_of (side_op op Own) ≡ named.0 = named.2.0 in
        let key_low = allowed.keys (key_of (side_op op Own)) (side_key op Own) in
        let value_low = given_small named.1 (puts_given (side_op op Own) named.0 named.1 named.2) in
        let head_low = (side_facts buckets bucket small (bounds buckets bucket layout) op readings Own).head_small in
        ((let at = named.3 in omega arith), (let at = named.4 in omega arith), (let at = named.5 in omega arith))

    sees_own : Sees buckets bucket (side_op op) walk_of (look_half thunk) Own
    sees_own = record { place = own_fit.lock; word = own_fit.edition; whole = inr own_fit.stage }

    place_small : (walk_of Own).place < 2 ^ 32
    place_small = ⊎_elim (λ head. let low = small (key_of (side_op op Own)) in omega arith)
        (λ node. let below = cell_small node.0 3 node.1 (omega arith) in let at = node.2 in omega arith)
        (link_place (look_half thunk) Own sees_own)

    remove_small : thunk.form ≡ 3 → (operand thunk 1 < 2 ^ 32) × (operand thunk 2 < 2 ^ 32) × (operand thunk 3 < 2 ^ 32)
    remove_small number =
        let named = (own_fit.remove number).1 in
        let facts = side_facts buckets bucket small (bounds buckets bucket layout) op readings Own in
        let place_low = place_small in
        let slot_low = facts.slot_small in
        let next_low = facts.next_small in
        ((let at = named.1 in omega arith), (let at = named.2 in omega arith), (let at = named.3 in omega arith))

    set_small : thunk.form ≡ 4 → (operand thunk 1 < 2 ^ 32) × (operand thunk 2 < 2 ^ 32)
    set_small number =
        let found = own_fit.sets number in
        let named = found.1 in
        let gives = (side_facts buckets bucket small (bounds buckets bucket layout) op readings Own).slot
        (inr (inr (inr found.0))) in
        let below = cell_small (walk_of Own).slot 2 gives (omega arith) in
        let value_low = given_small named.1 (ap value_given named.2) in
        ((let at = named.3 in omega arith), (let at = named.4 in omega arith))

    over_one : {A : Type 0} → ⊥ → A
    over_one e = absurd e

    one_filled : form ≡ Empty → ⊥
    one_filled empty = ⊎_elim
        (λ n. filled Reads (own_fit.form ∙ n) (λ is. is) (λ e. cc) (small_is _ (let low = lock_small in omega arith)))
        (⊎_elim (λ n. let number = own_fit.form ∙ n in let low = insert_small number in
        filled Inserts number (λ is. is) (λ e. cc) (both_hold _ _ (small_is _ lock_small)
        (both_hold _ _ (small_is _ low.0) (both_hold _ _ (small_is _ low.1) (small_is _ low.2)))))
        (⊎_elim (λ n. let number = own_fit.form ∙ n in let low = remove_small number in
        filled Removes number (λ is. is) (λ e. cc)
        (both_hold _ _ (small_is _ (let low = lock_small in omega arith))
        (both_hold _ _ (small_is _ low.0) (both_hold _ _ (small_is _ low.1) (small_is _ low.2)))))
        (λ n. let number = own_fit.form ∙ n in let low = set_small number in
        filled Sets number (λ is. is) (λ e. cc) (both_hold _ _ (small_is _ (let low = lock_small in omega arith))
        (both_hold _ _ (small_is _ low.0) (small_is _ low.1))))))
        (form_cases (side_op op Own) (walk_of Own).found own_fit.one)
      where
        filled : (f : Form) → thunk.form ≡ number_of f → (IsOverTwo f → ⊥) → (f ≡ Empty → ⊥) → fits_for f thunk ≡ true → ⊥
        filled f number one other ok = other (sym (form_is two f thunk (λ is. absurd (one is)) number ok) ∙ empty)

  -- the body isn't empty
  filled : form ≡ Empty → ⊥
  filled = ⊎_elim (λ one. one_filled one) (λ mov. mov.filled (walk_small Own (λ first. not_begun (sym mov.whole ∙ first)))) cases
    where
      not_begun : AtLock ≡ AtEdition → ⊥
      not_begun e = cc

  -- the edition of one half and what a half changes are two places
  target_apart : (g h : Half) → HasHere g → HasHere h → h.change < h.edition → h.target ≡ g.lock + 1 → ⊥
  target_apart g h has has' changes e =
      let place = place_in g has in
      let low = place.1 in
      let at = place.2 in
      let place' = place_in h has' in
      let low' = place'.1 in
      let at' = place'.2 in
      ⊎_elim (λ head. omega arith) (λ node. let cell = node.1 in let at'' = cell.5 in omega arith)
      (place_of h has' changes)

  same_lock : (g h : Half) → HasHere g → HasHere h → g.lock ≡ h.lock → g ≡ h
  same_lock g h has has' same = fit.apart g h has has' same

  -- and what two halves change are two
  target_once : (g h : Half) → HasHere g → HasHere h → g.change < g.edition → h.change < h.edition
      → g.target ≡ h.target → g ≡ h
  target_once g h has has' changes changes' e =
      let place = place_in g has in
      let low = place.1 in
      let at = place.2 in
      let place' = place_in h has' in
      let low' = place'.1 in
      let at' = place'.2 in
      ⊎_elim
      (λ head. ⊎_elim (λ head'. same_lock g h has has' (omega arith))
      (λ node. let cell = node.1 in let at'' = cell.5 in absurd (omega arith)) (place_of h has' changes'))
      (λ node. let cell = node.1 in let at'' = cell.5 in ⊎_elim (λ head'. absurd (omega arith))
      (λ node'. ⊎_elim (λ same. same)
      (λ apart. absurd (⊎_elim node.0 node'.0 (apart.heads changes changes'))) (pair_of two thunk g h has has'))
      (place_of h has' changes')) (place_of g has changes)

  has_of : (f : Form) → form ≡ f → (h : Half) → Contains (halves_of f thunk) h → HasHere h
  has_of f is h has = subst (λ f. Contains (halves_of f thunk) h) (sym is) has

  shaped : IsShaped (steps two thunk)
  shaped = subst IsShaped (sym (steps_are two thunk)) (by form refl)
    where
      by : (f : Form) → form ≡ f → IsShaped (steps_of f thunk)
      by Reads is = read_shaped thunk
      by Inserts is = insert_shaped thunk
      by Removes is = let has = has_of Removes is (remove_half thunk) (0, omega arith, refl) in
          remove_shaped thunk (target_apart (remove_half thunk) (remove_half thunk) has has (omega arith))
      by Sets is = let has = has_of Sets is (set_half thunk) (0, omega arith, refl) in
          set_shaped thunk (target_apart (set_half thunk) (set_half thunk) has has (omega arith))
      by ReadsTwo is = look_two_shaped thunk
      by Moves is = two_shaped (takes_lower thunk) refl
        where
          kinds : Remove ≡ Insert → ⊥
          kinds e = cc

          plus_one : (a b : ℕ) → a + 1 ≡ b + 1 → a ≡ b
          plus_one a b e = omega arith

          two_shaped : (c : Bool) → takes_lower thunk ≡ c → IsShaped (steps_of Moves thunk)
          two_shaped true lower =
              let h = taking_half true thunk in
              let g = putting_half true thunk in
              let has = has_of Moves is h (subst (λ c. Contains (moved_halves c thunk) h) (sym lower) (0, omega arith, refl)) in
              let has' = has_of Moves is g (subst (λ c. Contains (moved_halves c thunk) g) (sym lower) (1, omega arith, refl)) in
              let target : target_lock thunk ≡ higher_lock thunk = ap (λ c. cond c (higher_lock thunk) thunk.lock) lower in
              move_shaped thunk
              (λ e. kinds (ap (λ h. h.kind) (target_once h g has has' (omega arith) (omega arith)
              (e ∙ ap (λ n. n + 2) target))))
              (target_apart h h has has (omega arith)) (target_apart g h has' has (omega arith))
              (λ e. target_apart h g has has' (omega arith) (ap (λ n. n + 2) (sym target) ∙ e))
              (λ e. target_apart g g has' has' (omega arith) (ap (λ n. n + 2) (sym target) ∙ e))
              (λ e. kinds (ap (λ h. h.kind) (same_lock h g has has' (plus_one thunk.lock (higher_lock thunk) e))))
          two_shaped false lower =
              let h = taking_half false thunk in
              let g = putting_half false thunk in
              let has = has_of Moves is h (subst (λ c. Contains (moved_halves c thunk) h) (sym lower) (0, omega arith, refl)) in
              let has' = has_of Moves is g (subst (λ c. Contains (moved_halves c thunk) g) (sym lower) (1, omega arith, refl)) in
              let target : target_lock thunk ≡ thunk.lock = ap (λ c. cond c (higher_lock thunk) thunk.lock) lower in
              move_shaped thunk
              (λ e. kinds (ap (λ h. h.kind) (target_once h g has has' (omega arith) (omega arith)
              (e ∙ ap (λ n. n + 2) target))))
              (target_apart g h has' has (omega arith)) (target_apart h h has has (omega arith))
              (λ e. target_apart g g has' has' (omega arith) (ap (λ n. n + 2) (sym target) ∙ e))
              (λ e. target_apart h g has has' (omega arith) (ap (λ n. n + 2) (sym target) ∙ e))
              (λ e. kinds (ap (λ h. h.kind) (same_lock h g has has' (sym (plus_one thunk.lock (higher_lock thunk) e)))))
      by Renames is = let has = has_of Renames is (rename_half thunk) (0, omega arith, refl) in
          rename_shaped thunk (target_apart (rename_half thunk) (rename_half thunk) has has (omega arith))
      by Empty is = absurd (filled is)

  lock_is_lock : (i : ℕ) → i < buckets → (nat_lt (3 * i) (3 * buckets) && (3 * i % 3 == 0)) ≡ true
  lock_is_lock i low = let rest : 3 * i % 3 ≡ 0 = omega arith in let below : 3 * i < 3 * buckets = omega arith in grind arith

  is_lock_at : (p i : ℕ) → i < buckets → p ≡ 3 * i → (nat_lt p (3 * buckets) && (p % 3 == 0)) ≡ true
  is_lock_at p i low at = ap (λ p. nat_lt p (3 * buckets) && (p % 3 == 0)) at ∙ lock_is_lock i low

  -- a place that is loaded: an edition or a head, or a cell of a slot that was read in a link
  abbrev PlaceIs : ℕ → Type 0
  PlaceIs p = ((i k : ℕ) × (i < buckets) × (1 ≤ k) × (k ≤ 2) × (p ≡ 3 * i + k))
      ⊎ ((t k : ℕ) × Gives buckets bucket small readings t × (k < 5) × (p ≡ 3 * buckets + 5 * t + k))

  load_place : (j p r : ℕ) → slice_get (steps two thunk) j ≡ Some (Load p r) → PlaceIs p
  load_place j p r load =
      let step = step_of two thunk j (Load p r) load in
      let place = place_in step.0 step.1 in
      let at = place.2 in
      ⊎_elim (λ edition. let e = edition.2 in inl (place.0, 1, place.1, omega arith, omega arith, omega arith))
      (λ target. ⊎_elim (λ head. let e = target.3 in
      inl (place.0, 2, place.1, omega arith, omega arith, omega arith))
      (λ node. let cell = node.1 in inr (cell.0, cell.1, cell.2, cell.4, target.3 ∙ cell.5))
      (place_of step.0 step.1 target.0)) step.2

  -- what a new node holds, and what is stored
  own_facts : (side : Side) → ((walk_of side).head < 2 ^ 32) × ((walk_of side).next < 2 ^ 32) × ((walk_of side).value < 2 ^ 32)
  own_facts side = let facts = side_facts buckets bucket small (bounds buckets bucket layout) op readings side in
      (facts.head_small, facts.next_small, facts.value_small)

  key_small : (h : Half) → HasHere h → Makes h.kind → h.key < 2 ^ 32
  key_small h has makes =
      let at = ((half_fit h has).puts makes).2 in
      let low = allowed.keys (key_of (side_op op h.side)) (side_key op h.side) in
      omega arith

  next_small : (h : Half) → HasHere h → (k : Kind) → h.kind ≡ k → Makes k ⊎ Takes k → h.next < 2 ^ 32
  next_small h has Look kind some = absurd (⊎_elim (λ e. e) (λ e. e) some)
  next_small h has Insert kind some = let at = ((half_fit h has).heads kind).1 in let low = (own_facts h.side).0 in
      omega arith
  next_small h has Remove kind some = let at = ((half_fit h has).takes (subst Takes (sym kind) tt)).5 in
      let low = (own_facts Own).1 in omega arith
  next_small h has Set kind some = absurd (⊎_elim (λ e. e) (λ e. e) some)
  next_small h has Rename kind some = let at = ((half_fit h has).takes (subst Takes (sym kind) tt)).5 in
      let low = (own_facts Own).1 in omega arith

  -- the value of a new node, by the form
  value_small : (f : Form) → form ≡ f → (h : Half) → Contains (halves_of f thunk) h → Makes h.kind → h.value < 2 ^ 32
  value_small f is h has makes = ⊎_elim (λ one. of_one_key one f is has) (λ mov. of_two_keys mov f is has) cases
    where
      value_at : (a : Half) (v : ℕ) → a ≡ h → a.value ≡ v → v < 2 ^ 32 → h.value < 2 ^ 32
      value_at a v same at low = let here = ap (λ h. h.value) same in omega arith

      not_made : (a : Half) → a ≡ h → (Makes a.kind → ⊥) → h.value < 2 ^ 32
      not_made a same none = absurd (none (subst (λ h. Makes h.kind) (sym same) makes))

      few_one : OneCase two buckets bucket small few (bounds buckets bucket layout) op readings thunk → (n : ℕ)
          → thunk.form ≡ n → 4 < n → ⊥
      few_one one n number high = let low = form_few (side_op op Own) (walk_of Own).found in
          let same = (own_fit one).form in omega arith

      of_one_key : OneCase two buckets bucket small few (bounds buckets bucket layout) op readings thunk → (f : Form)
          → form ≡ f → Contains (halves_of f thunk) h → h.value < 2 ^ 32
      of_one_key one Reads is has = not_made (look_half thunk) (of_one (look_half thunk) h has) (λ e. e)
      of_one_key one Inserts is has = value_at (insert_half thunk) (operand thunk 2) (of_one (insert_half thunk) h has) refl
          (insert_small one (number_is two thunk Inserts is (λ e. cc))).1
      of_one_key one Removes is has = not_made (remove_half thunk) (of_one (remove_half thunk) h has) (λ e. e)
      of_one_key one Sets is has = not_made (set_half thunk) (of_one (set_half thunk) h has) (λ e. e)
      of_one_key one ReadsTwo is has = absurd (few_one one 21 (number_is two thunk ReadsTwo is (λ e. cc)) (omega arith))
      of_one_key one Moves is has = absurd (few_one one 22 (number_is two thunk Moves is (λ e. cc)) (omega arith))
      of_one_key one Renames is has = absurd (few_one one 23 (number_is two thunk Renames is (λ e. cc)) (omega arith))
      of_one_key one Empty is has = absurd (filled is)

      of_two_keys : MovCase two buckets bucket small few (bounds buckets bucket layout) op readings thunk → (f : Form)
          → form ≡ f → Contains (halves_of f thunk) h → h.value < 2 ^ 32
      of_two_keys mov Reads is has = not_made (look_half thunk) (of_one (look_half thunk) h has) (λ e. e)
      of_two_keys mov Inserts is has = absurd (mov.answer Inserts is (λ e. cc))
      of_two_keys mov Removes is has = absurd (mov.answer Removes is (λ e. cc))
      of_two_keys mov Sets is has = absurd (mov.answer Sets is (λ e. cc))
      of_two_keys mov ReadsTwo is has = ⊎_elim (λ e. not_made (look_two_half true thunk) e (λ e. e))
          (λ e. not_made (look_two_half false thunk) e (λ e. e))
          (of_two (look_two_half true thunk) (look_two_half false thunk) h has)
      of_two_keys mov Moves is has = let answer = mov.answer Moves is (λ e. cc) in
          ⊎_elim (λ e. not_made (taking_half (takes_lower thunk) thunk) e (λ e. e))
          (λ e. value_at (putting_half (takes_lower thunk) thunk) (walk_of Own).value e answer.1 (own_facts Own).2)
          (of_two (taking_half (takes_lower thunk) thunk) (putting_half (takes_lower thunk) thunk) h has)
      of_two_keys mov Renames is has = let answer = mov.answer Renames is (λ e. cc) in
          value_at (rename_half thunk) (walk_of Own).value (of_one (rename_half thunk) h has) answer.1 (own_facts Own).2
      of_two_keys mov Empty is has = absurd (filled is)

  stored_small : (h : Half) → HasHere h → (k : Kind) → h.kind ≡ k → IsSmall (stored_for k h)
  stored_small h has Look kind = omega arith
  stored_small h has Insert kind = tt
  stored_small h has Remove kind = next_small h has Remove kind (inr tt)
  stored_small h has Set kind = allowed.value h.value (set_given ((half_fit h has).sets kind).3)
    where
      set_given : side_op op Own ≡ Put (key_of (side_op op Own)) h.value → value_given op ≡ Some h.value
      set_given e = ⊎_elim (λ one. ap value_given (sym one.0 ∙ e))
          (λ mov. absurd (no_put (sym (ap (λ op. side_op op Own) mov.is) ∙ e))) cases
        where
          no_put : {a k v : ℕ} → Del a ≡ Put k v → ⊥
          no_put e = cc
  stored_small h has Rename kind = tt

  store_small : (j r : ℕ) (v : Value) → slice_get (steps two thunk) j ≡ Some (Store r v) → IsSmall v
  store_small j r v store =
      let step = step_of two thunk j (Store r v) store in
      ⊎_elim (λ change. subst IsSmall (sym change.2) (stored_small step.0 step.1 step.0.kind refl))
      (λ edition. subst IsSmall (sym edition.2) (omega arith)) step.3

  init_small : (h : Half) → HasHere h → Makes h.kind → (i : ℕ) (v : Value)
      → slice_get (node_init h).cells i ≡ Some v → IsSmall v
  init_small h has makes i v at = cells i at (key_small h has makes)
      (value_small form refl h has makes) (next_small h has h.kind refl (inl makes))
    where
      cells : (i : ℕ) → slice_get (node_init h).cells i ≡ Some v → h.key < 2 ^ 32 → h.value < 2 ^ 32 → h.next < 2 ^ 32
          → IsSmall v
      cells zero h a b c = subst IsSmall (some_same h) (omega arith)
      cells (suc zero) h a b c = subst IsSmall (some_same h) a
      cells (suc (suc zero)) h a b c = subst IsSmall (some_same h) b
      cells (suc (suc (suc zero))) h a b c = subst IsSmall (some_same h) c
      cells (suc (suc (suc (suc zero)))) h a b c = subst IsSmall (some_same h) (omega arith)
      cells (suc (suc (suc (suc (suc i))))) h a b c = absurd (cc)

  -- the reply word isn't 0
  answer_some : (f : Form) → form ≡ f → 0 < answer_of f thunk
  answer_some f is = ⊎_elim (λ one. of_one_key one f is) (λ mov. of_two_keys mov.moved f (mov.answer f is (full f is))) cases
    where
      full : (f : Form) → form ≡ f → f ≡ Empty → ⊥
      full f is empty = filled (is ∙ empty)

      few_one : OneCase two buckets bucket small few (bounds buckets bucket layout) op readings thunk → (n : ℕ)
          → thunk.form ≡ n → 4 < n → ⊥
      few_one one n number high = let low = form_few (side_op op Own) (walk_of Own).found in
          let same = (own_fit one).form in omega arith

      of_one_key : OneCase two buckets bucket small few (bounds buckets bucket layout) op readings thunk → (f : Form)
          → form ≡ f → 0 < answer_of f thunk
      of_one_key one Reads is =
          let at = ap (λ numbers. slice_index numbers 1) (own_fit one).operands in
          let some = reply_some buckets (side_op op Own) (walk_of Own) (walk_of Own).found
          (sym (own_fit one).form ∙ number_is two thunk Reads is (λ e. cc)) in
          omega arith
      of_one_key one Inserts is = omega arith
      of_one_key one Removes is = omega arith
      of_one_key one Sets is = let at = ((own_fit one).sets (number_is two thunk Sets is (λ e. cc))).1.5 in omega arith
      of_one_key one ReadsTwo is = absurd (few_one one 21 (number_is two thunk ReadsTwo is (λ e. cc)) (omega arith))
      of_one_key one Moves is = omega arith
      of_one_key one Renames is = omega arith
      of_one_key one Empty is = absurd (filled is)

      either : (found : Bool) → 0 < cond found (2 * 2 ^ 32) (5 * 2 ^ 32)
      either true = omega arith
      either false = omega arith

      of_two_keys : (moved : Bool) (f : Form) → AnswerOf f (walk_of Own) thunk moved → 0 < answer_of f thunk
      of_two_keys moved Reads answer = let at = answer.1 in let some = either (walk_of Own).found in omega arith
      of_two_keys moved Inserts answer = absurd answer
      of_two_keys moved Removes answer = absurd answer
      of_two_keys moved Sets answer = absurd answer
      of_two_keys moved ReadsTwo answer = let at = answer.1 in let some = either (walk_of Own).found in omega arith
      of_two_keys moved Moves answer = omega arith
      of_two_keys moved Renames answer = omega arith
      of_two_keys moved Empty answer = absurd answer

  abbrev known : ℕ → Type 0
  known = IsKnown (table two buckets bucket) readings

  -- a Take is of a half's lock, which is another one than the outer
  taken : (j l w : ℕ) → slice_get (steps two thunk) j ≡ Some (Take l w) → (h : Half) × HasHere h × (suc j ≡ h.held)
      × (l ≡ h.lock) × (w ≡ operand thunk 1)
  taken j l w take = step_of two thunk j (Take l w) take

  held_some : (j : ℕ) (h : Half) → suc j ≡ h.held → h.held ≡ 0 → ⊥
  held_some j h at none = omega arith

  pub table_shaped : Shaped (table two buckets bucket) layout readings thunk
  table_shaped = record {
    shape = shaped;
    brief = brief_cost (steps two thunk) shaped (subst (λ (body : List Step). length body ≤ 23) (sym (steps_are two thunk)) (few_steps form thunk));
    outer_lock = is_lock_at thunk.lock outer.0 outer.1 outer.2;
    outer_known = inl (let low = outer.1 in let at = outer.2 in omega arith);
    take_lock = λ j l w h. let take = taken j l w h in let place = place_in take.0 take.1 in
        is_lock_at l place.0 place.1 (take.3 ∙ place.2);
    take_known = λ j l w h. let take = taken j l w h in let place = place_in take.0 take.1 in
        let low = place.1 in let at = place.2 in let is = take.3 in inl (omega arith);
    take_inner = λ j l w h same. let take = taken j l w h in
        fit.inner take.0 take.1 (held_some j take.0 take.2) (sym take.3 ∙ same);
    take_once = λ i j l v w h h'. let one = taken i l v h in let other = taken j l w h' in
        let same = same_lock one.0 other.0 one.1 other.1 (sym one.3 ∙ other.3) in
        let at = one.2 in let at' = other.2 in let held = ap (λ h. h.held) same in omega arith;
    take_read = λ j l w h. let take = taken j l w h in
        let read = (fit.taken take.0 take.1 (held_some j take.0 take.2)).0 in
        (read.0, read.1 ∙ ap (λ l. Some (l, operand thunk 1)) (sym take.3) ∙ ap (λ w. Some (l, w)) (sym take.4));
    take_free = λ j l w h. let take = taken j l w h in
        let takable = (fit.taken take.0 take.1 (held_some j take.0 take.2)).1 in
        ap is_free take.4 ∙ (both_of _ _ takable).0;
    take_unspent = λ j l w h. let take = taken j l w h in
        let takable = (fit.taken take.0 take.1 (held_some j take.0 take.2)).1 in
        ap (is_spent layout.version_max) take.4 ∙ not_spent _ (both_of _ _ takable).1;
    load_unlocked = λ j p r h. ⊎_elim (λ low. ap (λ p. nat_lt p (3 * buckets) && (p % 3 == 0)) low.5
        ∙ no_lock_low low.0 low.1 (3 * buckets) low.3 low.4)
        (λ node. no_lock_high p (3 * buckets) (let at = node.4 in omega arith)) (load_place j p r h);
    load_known = λ j p r h. ⊎_elim (λ low. inl (let at = low.5 in let high = low.4 in let below = low.2 in omega arith))
        (λ node. inr (node.0, (node.1, node.3, node.4), inr node.2)) (load_place j p r h);
    load_once = loaded_once;
    store_once = stored_once;
    store_small = store_small;
    make_whole = λ j r init h. ap (λ init. length init.cells) (step_of two thunk j (Make init r) h).5;
    make_small = λ j r i init v h at. let make = step_of two thunk j (Make init r) h in
        init_small make.0 make.1 ((half_is two thunk make.0 make.1).insert.1 make.2) i v
        (sym (ap (λ init. slice_get init.cells i) make.5) ∙ at);
    make_unlocked = λ j r i t init v h at lock. absurd (let below = (lock_at buckets (3 * buckets + 5 * t + i) lock).0 in omega arith);
    answers = λ j n h. let some = answer_some form refl in let answer = step_of two thunk j (Answer n) h in omega arith;
  }
    where
      loaded_once : (i j p q r : ℕ) → slice_get (steps two thunk) i ≡ Some (Load p q)
          → slice_get (steps two thunk) j ≡ Some (Load p r) → i ≡ j
      loaded_once i j p q r one other =
          let step = step_of two thunk i (Load p q) one in
          let step' = step_of two thunk j (Load p r) other in
          let g = step.0 in
          let h = step'.0 in
          ⊎_elim
          (λ x. ⊎_elim
          (λ y. let same = ap (λ h. h.wanted) (same_lock g h step.1 step'.1 (plus_one g.lock h.lock (sym x.2 ∙ y.2))) in
          let at = x.0 in let at' = y.0 in omega arith)
          (λ y. absurd (target_apart g h step.1 step'.1 y.0 (sym y.3 ∙ x.2))) step'.2)
          (λ x. ⊎_elim (λ y. absurd (target_apart h g step'.1 step.1 x.0 (sym x.3 ∙ y.2)))
          (λ y. let same = ap (λ h. h.load) (target_once g h step.1 step'.1 x.0 y.0 (sym x.3 ∙ y.3)) in
          let at = x.1 in let at' = y.1 in omega arith) step'.2) step.2
        where
          plus_one : (a b : ℕ) → a + 1 ≡ b + 1 → a ≡ b
          plus_one a b e = omega arith

      -- the place of a Store goes by the half and the register
      stored_once : (i j r : ℕ) (v w : Value) → slice_get (steps two thunk) i ≡ Some (Store r v)
          → slice_get (steps two thunk) j ≡ Some (Store r w) → i ≡ j
      stored_once i j r v w one other =
          let step = step_of two thunk i (Store r v) one in
          let later = store_is two thunk step.0 step.1 j r w other in
          ⊎_elim (λ x. x.0 ∙ sym (later.0 x.1).1) (λ x. x.0 ∙ sym (later.1 x.1).1) step.3

module _ (two : Bool) (buckets : ℕ) (bucket : ℕ → ℕ) (small : (key : ℕ) → bucket key < buckets)
    (few : 3 * buckets ≤ 12288) (layout : Layout) (limits : IsWithinLimits layout) where
  -- a change of a cell that is no head and in no node of a chain
  change_stands : (s : Scene) (pairs : Pairs) (p w : ℕ) (stands : BucketsStand buckets bucket (slot_count layout 0) s.cells pairs) → ((i : ℕ) → i < buckets → bucket_head i ≢ p) → ((u k : ℕ) → stands.on u ≡ true → 1 ≤ k → k ≤ 3 → cell_at buckets bucket u k ≢ p)
      → BucketsStand buckets bucket (slot_count layout 0) (upd s.cells p w) pairs
  change_stands s pairs p w stands heads cells =
      let same : (u k : ℕ) → stands.on u ≡ true → 1 ≤ k → k ≤ 3 → value_of (upd s.cells p w (cell_at buckets bucket u k)) ≡ value_of (s.cells (cell_at buckets bucket u k)) = λ u k on low high. ap value_of (upd_other s.cells p (cell_at buckets bucket u k) w (cells u k on low high)) in
      record {
        on = stands.on;
        rank = stands.rank;
        within = stands.within;
        chains = chains_agree bucket (nodes buckets bucket s.cells) (nodes buckets bucket (upd s.cells p w)) stands.on stands.rank stands.chains
            (λ i. clip_same i buckets (value_of (upd s.cells p w (bucket_head i))) (value_of (s.cells (bucket_head i))) (λ low. ap value_of (upd_other s.cells p (bucket_head i) w (heads i low))))
            (λ u on. same u 1 on (omega arith) (omega arith)) (λ u on. same u 3 on (omega arith) (omega arith));
        contents = contents_agree (nodes buckets bucket s.cells) (nodes buckets bucket (upd s.cells p w)) stands.on (get pairs) stands.contents (λ u on. same u 1 on (omega arith) (omega arith)) (λ u on. same u 2 on (omega arith) (omega arith));
      }

  table_in_turn : InTurn (table two buckets bucket) layout
  table_in_turn = record {
    answers = λ s pairs d x before stamp map. table_answers two buckets bucket small few layout limits s pairs d x before stamp;
    stores = λ s pairs d x before stamp. table_stores two buckets bucket small few layout limits s pairs d x before stamp;
    lock = λ s pairs p w before lock. let at = lock_at buckets p lock in change_stands s pairs p w before.stands (λ i low e. head_lock i p at.1 e) (λ u k on low high e. let below = at.0 in omega arith);
    hand = λ s pairs t i w before free low. change_stands s pairs (3 * buckets + 5 * t + i) w before.stands (λ j lower e. omega arith)
        (λ u k on first last e. live_free (s.status u) (before.kept.on_live u (same_on bucket (nodes buckets bucket s.cells) before.stands.on before.kept.on before.stands.rank before.kept.rank before.stands.chains before.kept.chains u on))
        (ap s.status (one_slot (3 * buckets) u t k i (omega arith) low e) ∙ free));
  }

  -- in the first memory no slot stands in a chain
  first_value : (s : Scene) → IsFirst (table two buckets bucket) s → (p : ℕ) → value_of (s.cells p) ≡ 0
  first_value s first p = ap value_of (first.cells p) ∙ zero_word (nat_lt p (3 * buckets + 5 * 0))
    where
      zero_word : (b : Bool) → value_of (2 ^ 32 * 1 + cond b 0 0) ≡ 0
      zero_word true = refl
      zero_word false = refl

  first_chains : (s : Scene) → IsFirst (table two buckets bucket) s → Chains bucket (nodes buckets bucket s.cells) (λ t. false) (λ t. 0)
  first_chains s first = record {
    head_on = λ i t h. absurd (zero_not_suc t (sym (head i) ∙ h));
    head_top = λ i t u h on. absurd (false_not_true on);
    head_none = λ i u h on. absurd (false_not_true on);
    next_on = λ p t on. absurd (false_not_true on);
    next_top = λ p t u on. absurd (false_not_true on);
    next_none = λ p u on. absurd (false_not_true on);
    rank_once = λ p t on. absurd (false_not_true on);
    key_once = λ p t on. absurd (false_not_true on);
  }
    where
      head : (i : ℕ) → cond (nat_lt i buckets) (value_of (s.cells (bucket_head i))) 0 ≡ 0
      head i = ap (λ v. cond (nat_lt i buckets) v 0) (first_value s first (bucket_head i)) ∙ either (nat_lt i buckets)
        where
          either : (b : Bool) → cond b 0 0 ≡ zero
          either true = refl
          either false = refl

  first_kept : (s : Scene) → IsFirst (table two buckets bucket) s → BucketsKept two buckets bucket layout s
  first_kept s first = record {
    on = λ t. false;
    rank = λ t. 0;
    chains = first_chains s first;
    on_live = λ t on. absurd (false_not_true on);
    readers = λ r readings op h. absurd (none_not_some readings (sym (first.reader r) ∙ h));
    sections = λ d x h. absurd (none_not_some x (sym (first.section d) ∙ h));
    made = λ d x h at. absurd (none_not_some x (sym (first.section d) ∙ at));
    target = λ d x h i at. absurd (none_not_some x (sym (first.section d) ∙ at));
    taken = λ d x h i at. absurd (none_not_some x (sym (first.section d) ∙ at));
    owned = λ d x t at. absurd (none_not_some x (sym (first.section d) ∙ at));
    live = λ t h. absurd (not_live t (sym (first.status t) ∙ h));
    limbo = λ q y t h. absurd (not_retired q y (sym (first.status q) ∙ h));
  }
    where
      not_live : (t : ℕ) → cond (nat_lt t 0) Live Free ≡ Live → ⊥
      not_live t h = grind arith

      not_retired : (t y : ℕ) → cond (nat_lt t 0) Live Free ≡ Retired y → ⊥
      not_retired t y h = grind arith

  first_stands : (s : Scene) → IsFirst (table two buckets bucket) s → BucketsStand buckets bucket (slot_count layout 0) s.cells empty
  first_stands s first = record {
    on = λ t. false;
    rank = λ t. 0;
    within = λ t on. absurd (false_not_true on);
    chains = first_chains s first;
    contents = record {
      pair = λ t on. absurd (false_not_true on);
      slot = λ key value h. absurd
          (none_not_some value (sym (get-empty nat_cmp key) ∙ h));
    };
  }

-- the table over any number of buckets, and any function of keys to buckets
pub table_laws : (two : Bool) (buckets : ℕ) (bucket : ℕ → ℕ) → ((key : ℕ) → bucket key < buckets) → 3 * buckets ≤ 12288
    → Laws (table two buckets bucket)
table_laws two buckets bucket small few = record {
  first = record { few_cells = few; few_slots = omega arith; small = λ p fixed. omega arith; locks_free = λ p fixed lock. refl; links = λ p t fixed link h. absurd (omega arith) };
  unlinked_lock = λ cells p lock. no_link p (lock_at buckets p lock);
  over = λ layout limits. record {
    begins = first_kept two buckets bucket small few layout limits;
    empty = first_stands two buckets bucket small few layout limits;
    shape = λ s sound kept r readings op thunk reader allowed fits. table_shaped two buckets bucket small few layout limits
        s sound r readings op thunk reader allowed fits;
    fitting = table_fitting two buckets bucket small few layout;
    in_turn = table_in_turn two buckets bucket small few layout limits;
    keeps = table_keeps two buckets bucket small few layout limits;
    gives = λ s sound kept. table_gives two buckets bucket small few layout limits s sound kept;
  };
}
  where
    no_link : (p : ℕ) → (p < 3 * buckets) × (p % 3 ≡ 0) → is_link_place buckets bucket p ≡ false
    no_link p at = let low = at.0 in let rest = at.1 in grind arith

-- the hash function leads to a bucket
pub bucket_small : (bits key : ℕ) → bits ≤ 12 → bucket_index key bits < 2 ^ bits
bucket_small bits key few = by (bits == 0)
  where
    remainder : (n : ℕ) → n % 2 ^ 32 < 2 ^ (bits + (32 - bits))
    remainder n = let whole : bits + (32 - bits) ≡ 32 = omega arith in
        subst (λ k. n % 2 ^ 32 < 2 ^ k) (sym whole) (omega arith)

    by : (none : Bool) → cond none 0 ((key * 2654435769 % 2 ^ 32) / 2 ^ (32 - bits)) < 2 ^ bits
    by true = pow_pos bits
    by false = shr_below (key * 2654435769 % 2 ^ 32) bits (32 - bits) (remainder (key * 2654435769))

pub buckets_few : (bits : ℕ) → bits ≤ 12 → 3 * 2 ^ bits ≤ 12288
buckets_few bits few = ⊎_elim (λ less. let below = pow_below bits 12 less in omega arith)
    (λ most. let same = ap (λ n. 2 ^ n) most in omega arith) (last_or_before bits 12 (omega arith))

-- the hash table with 2 ^ bits buckets meets the laws, and so does the table that moves keys, too
pub buckets_laws : (bits : ℕ) → bits ≤ 12 → Laws (buckets_meaning bits)
buckets_laws bits few = table_laws false (2 ^ bits) (λ key. bucket_index key bits) (λ key. bucket_small bits key few) (buckets_few bits few)

pub moves_laws : (bits : ℕ) → bits ≤ 12 → Laws (moves_meaning bits)
moves_laws bits few = table_laws true (2 ^ bits) (λ key. bucket_index key bits) (λ key. bucket_small bits key few) (buckets_few bits few)
