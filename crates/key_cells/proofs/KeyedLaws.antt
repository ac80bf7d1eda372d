-- Structures of keys' cells meet the laws.
use Rattle.std.proofs.Common.{◌≡◌, ℕ, ◌+◌, ◌*◌, ◌<◌, Bool, true, false, cond, refl, sym, ap, ◌∙◌, subst, arith}
use Rattle.std.specs.Prelude.{◌==◌, ◌^◌, nat_lt, Some, None, slice_get, List}
use Rattle.std.specs.Ordering.{nat_cmp}
use Rattle.std.specs.FinMap.{get, empty, get-empty}
use Rattle.runner_parts.specs.structure_laws.specs.map_history.specs.declared.op.Op.{Op}
use Rattle.runner_parts.specs.structure_laws.specs.map_history.specs.Keys.{key_of}
use Rattle.section_body.specs.Bucket.{operand}
use Rattle.runner_parts.specs.structure_laws.specs.body_terms.specs.Word.{value_of}
use Rattle.runner_parts.specs.structure_laws.specs.body_terms.specs.declared.step.Step.{Step}
use Rattle.runner_parts.specs.structure_laws.specs.body_terms.specs.declared.step.Step.TheVariants.{Load, Want, Store, Answer}
use Rattle.runner_parts.specs.structure_laws.specs.body_terms.specs.declared.value.Value.{Value}
use Rattle.runner_parts.specs.structure_laws.specs.body_terms.specs.declared.value.Value.TheVariants.{Const}
use Rattle.runner_parts.specs.structure_laws.specs.body_terms.specs.declared.thunk.Thunk.{Thunk}
use Rattle.runner_parts.specs.block_words.specs.table_words.specs.declared.layout.Layout.{Layout}
use Rattle.runner_parts.specs.structure_laws.specs.Scene.{Readings, Scene}
use Rattle.runner_parts.specs.structure_laws.specs.Sections.{IsSmall}
use Rattle.runner_parts.specs.structure_laws.specs.Shape.{HasStep}
use Rattle.runner_parts.specs.structure_laws.specs.Laws.{IsFirst, Laws}
use Rattle.runner_parts.specs.structure_laws.specs.Planner.{PlannerLaws}
use Rattle.runner_parts.specs.structure_laws.proofs.Changes.{value_small}
use Rattle.runner_parts.specs.structure_laws.specs.map_history.specs.AtKey.{reply_at, changes_at}
use Rattle.shared_laws.specs.Nodeless.{IsNodeless, HoldsItsLock, IsPlainBody}
use Rattle.runner_parts.specs.structure_laws.specs.map_history.proofs.Cells.{key_is}
use Rattle.runner_parts.specs.structure_laws.specs.map_history.proofs.Words.{reply_some}
use Rattle.shared_laws.proofs.Nodeless.{nodeless_begins, nodeless_keeps, nodeless_gives, nodeless_shaped, nodeless_adds, nodeless_sized}
use Rattle.shared_laws.proofs.Numbers.{pair_read}
use Rattle.key_cells.specs.Keyed.{Keyed, IsKeyed, lock_place, cell_place, is_lock_place, guard_place, wanted, new_of, key_in, body_by, held_in, keyed}
use Rattle.key_cells.proofs.CellSteps.{plain_in, load_in, want_in, store_in, answer_in, few_steps}
use Rattle.key_cells.proofs.Fitting.{Fit, fit_of, body_own}
use Rattle.key_cells.proofs.KeyFitting.{keyed_fitting}
use Rattle.key_cells.proofs.Places.{lock_there, cell_there, places_apart}
use Rattle.key_cells.proofs.SectionTurn.{shape_own, keyed_in_turn}

module _ (c : Keyed) (is : IsKeyed c) where
  nodeless : IsNodeless (keyed c)
  nodeless = record {
    fixed = refl;
    links = λ cells p. refl;
    reaches = λ readings t. refl;
    guards = λ cells others p. refl;
    kept = λ layout s kept. kept;
    keeps = λ layout s none. none;
    walked = λ layout op readings. tt;
    plain = λ thunk j step h. plain_in (cell_place c (key_in c thunk)) (wanted thunk) (new_of thunk) (operand thunk 6) (thunk.form == 2) c.count is.few j step h;
  }

  module _ (op : Op) (readings : Readings) (t : Thunk) (fit : Fit c op readings t) where
    abbrev writes : Bool
    writes = changes_at (c.held (wanted t)) op

    own : (j : ℕ) (step : Step) → HasStep (keyed c) t j step → slice_get (body_by c writes (key_of op) t) j ≡ Some step
    own j step h = sym (ap (λ (body : List Step). slice_get body j) (body_own c op readings t fit)) ∙ h

    -- a Load is of a cell of the key, into the register of its number, and at the step of that number
    load_at : (j p r : ℕ) → HasStep (keyed c) t j (Load p r) → (r < c.count) × (p ≡ cell_place c (key_of op) r) × (j ≡ cond writes 3 2 * r)
    load_at j p r h = load_in (cell_place c (key_of op)) (wanted t) (new_of t) (operand t 6) writes c.count is.few j p r (own j (Load p r) h)

    store_at : (j r : ℕ) (v : Value) → HasStep (keyed c) t j (Store r v) → (writes ≡ true) × (v ≡ Const (value_of (new_of t r))) × (j ≡ 3 * c.count + 1 + r)
    store_at j r v h = store_in (cell_place c (key_of op)) (wanted t) (new_of t) (operand t 6) writes c.count is.few j r v (own j (Store r v) h)

    plain_body : IsPlainBody (keyed c) t
    plain_body = record {
      shape = shape_own c is op readings t fit;
      few_steps = few_steps (cell_place c (key_in c t)) (wanted t) (new_of t) (operand t 6) (t.form == 2) c.count is.few;
      lock = ap (is_lock_place c) fit.lock ∙ (lock_there c is (key_of op) fit.low).1;
      lock_fixed = subst (λ p. p < c.base + c.fixed) (sym fit.lock) (lock_there c is (key_of op) fit.low).0;
      load_fixed = λ j p r h. let at = load_at j p r h in subst (λ p. p < c.base + c.fixed) (sym at.1) (cell_there c is (key_of op) r fit.low at.0).0;
      load_unlocked = λ j p r h. let at = load_at j p r h in ap (is_lock_place c) at.1 ∙ (cell_there c is (key_of op) r fit.low at.0).1;
      load_once = λ i j p q r h h'.
          let a = load_at i p q h in let b = load_at j p r h' in
          a.2 ∙ (ap (λ k. cond writes 3 2 * k) (places_apart c is (key_of op) (key_of op) q r fit.low fit.low a.0 b.0 (sym a.1 ∙ b.1)).1 ∙ sym b.2);
      store_once = λ i j r v u h h'. (store_at i r v h).2 ∙ sym (store_at j r u h').2;
      store_small = λ j r v h. subst IsSmall (sym (store_at j r v h).1) (value_small (new_of t r));
      answers = λ j n h. subst (λ n. 0 < n)
          (sym (answer_in (cell_place c (key_of op)) (wanted t) (new_of t) (operand t 6) writes c.count is.few j n (own j (Answer n) h) ∙ fit.reply))
          (reply_some (reply_at (c.held (wanted t)) op));
    }

    -- what it wants was read
    want_read : (i j p r w : ℕ) → HasStep (keyed c) t i (Load p r) → HasStep (keyed c) t j (Want r w) → (k : ℕ) × (slice_get readings k ≡ Some (p, w))
    want_read i j p r w load want =
        let at = load_at i p r load in
        let word = want_in (cell_place c (key_of op)) (wanted t) (new_of t) (operand t 6) writes c.count is.few j r w (own j (Want r w) want) in
        let k = pair_read readings _ _ (fit.read r at.0) in
        (k.0, k.1 ∙ ap Some (λ z. (sym at.1 z, sym word z)))

  holds_its_lock : (layout : Layout) → HoldsItsLock (keyed c) layout
  holds_its_lock layout = record {
    loads = λ op readings thunk cells j p r fits h.
        let fit = fit_of c op readings thunk is.few fits in
        let at = load_at op readings thunk fit j p r h in
        let cell = cell_there c is (key_of op) r fit.low at.0 in
        (subst (λ p. p < c.base + c.fixed) (sym at.1) cell.0, ap (guard_place c) at.1 ∙ (cell.2 ∙ sym fit.lock));
    keyed = λ a b readings others first second key fits fits' on on'.
        (fit_of c a readings first is.few fits).lock ∙ (ap (lock_place c) (key_is a key (fit_of c a readings first is.few fits).one on ∙ sym (key_is b key (fit_of c b others second is.few fits').one on')) ∙ sym (fit_of c b others second is.few fits').lock);
  }

  -- in the first scene no key has a value
  first_empty : (s : Scene) → IsFirst (keyed c) s → (q : ℕ) → get (empty {R = nat_cmp}) q ≡ held_in c s.cells q
  first_empty s first q = get-empty nat_cmp q ∙ sym (none (nat_lt q c.keys))
    where
      zero_first : (b : Bool) → value_of (2 ^ 32 * 1 + cond b 0 0) ≡ 0
      zero_first true = refl
      zero_first false = refl

      none : (b : Bool) → cond b (c.held (λ i. s.cells (cell_place c q i))) None ≡ None
      none true = is.absent (λ i. s.cells (cell_place c q i)) (λ i. ap value_of (first.cells (cell_place c q i)) ∙ zero_first _)
      none false = refl

  pub keyed_laws : Laws (keyed c)
  keyed_laws = record {
    first = record { few_cells = is.few_cells; few_slots = omega arith; small = λ p h. omega arith; locks_free = λ p h lock. refl; links = λ p t h link some. absurd (cc) };
    unlinked_lock = λ cells p lock. refl;
    over = λ layout limits. record {
      begins = nodeless_begins (keyed c) nodeless layout;
      empty = first_empty;
      shape = λ s sound kept r readings op thunk reader allowed fits. nodeless_shaped (keyed c) nodeless layout readings thunk (plain_body op readings thunk (fit_of c op readings thunk is.few fits));
      fitting = keyed_fitting c is layout;
      in_turn = keyed_in_turn c is layout;
      keeps = nodeless_keeps (keyed c) nodeless layout;
      gives = nodeless_gives (keyed c) nodeless layout (holds_its_lock layout);
    };
  }

  pub keyed_plans : PlannerLaws (keyed c) 0
  keyed_plans = record {
    serves = refl;
    over = λ layout limits. record {
      want_read = λ readings op thunk allowed fits i j p r w load want. want_read op readings thunk (fit_of c op readings thunk is.few fits) i j p r w load want;
      make_adds = λ readings op thunk allowed fits i j r reply init make answer. nodeless_adds (keyed c) nodeless thunk op i r reply init make;
      sized = λ s pairs slots before quiet used. nodeless_sized (keyed c) nodeless layout s pairs slots before.kept used;
    };
  }
