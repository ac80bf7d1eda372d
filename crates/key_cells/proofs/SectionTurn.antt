-- Sections over keys' cells one after the other do what the map does.
use Rattle.std.proofs.Common.{◌≡◌, ◌≢◌, ℕ, ◌+◌, ◌*◌, ◌<◌, Bool, true, false, cond, refl, sym, ap, subst, ◌∙◌, arith}
use Rattle.std.proofs.lemmas.Bool.{true≢false}
use Rattle.std.specs.Prelude.{nat_lt, Option, None, Some, slice_get, List}
use Rattle.std.specs.FinMap.{get}
use Rattle.runner_parts.specs.structure_laws.specs.map_history.specs.Keys.{key_of}
use Rattle.runner_parts.specs.structure_laws.specs.map_history.specs.Replay.{Pairs, reply_of, map_after}
use Rattle.runner_parts.specs.structure_laws.specs.map_history.specs.Words.{word_of}
use Rattle.section_body.specs.Bucket.{operand}
use Rattle.runner_parts.specs.structure_laws.specs.body_terms.specs.Shape.{IsShaped}
use Rattle.runner_parts.specs.structure_laws.specs.body_terms.specs.Update.{upd}
use Rattle.runner_parts.specs.structure_laws.specs.body_terms.specs.Word.{value_of, next_word}
use Rattle.runner_parts.specs.structure_laws.specs.body_terms.specs.declared.value.Value.{Value}
use Rattle.runner_parts.specs.structure_laws.specs.body_terms.specs.declared.value.Value.TheVariants.{Const}
use Rattle.runner_parts.specs.structure_laws.specs.body_terms.specs.declared.step.Step.{Step}
use Rattle.runner_parts.specs.structure_laws.specs.body_terms.specs.declared.step.Step.TheVariants.{Load, Store, Answer}
use Rattle.runner_parts.specs.structure_laws.specs.body_terms.specs.declared.thunk.Thunk.{Thunk}
use Rattle.runner_parts.specs.block_words.specs.table_words.specs.declared.layout.Layout.{Layout}
use Rattle.runner_parts.specs.structure_laws.specs.Scene.{Cells, Readings, Section, Scene}
use Rattle.runner_parts.specs.structure_laws.specs.Sections.{IsStep}
use Rattle.runner_parts.specs.structure_laws.specs.InTurn.{StandsFor, AtStamp, AfterStores, InTurn}
use Rattle.runner_parts.specs.structure_laws.proofs.Changes.{upd_other}
use Rattle.runner_parts.specs.structure_laws.specs.map_history.specs.declared.op.Op.{Op}
use Rattle.runner_parts.specs.structure_laws.specs.map_history.specs.AtKey.{reply_at, left_at, changes_at}
use Rattle.runner_parts.specs.structure_laws.specs.map_history.proofs.Cells.{reply_of-at, unchanged}
use Rattle.shared_laws.proofs.AtKey.{stand_after, left_small}
use Rattle.shared_laws.proofs.AtStamp.{wanted_now}
use Rattle.shared_laws.proofs.Numbers.{bool_cases, lt_of, lt_true, eq_false}
use Rattle.key_cells.specs.Keyed.{Keyed, IsKeyed, cell_place, is_lock_place, wanted, new_of, body_by, key_body, held_in, keyed}
use Rattle.key_cells.proofs.CellSteps.{load_in, store_in, answer_in, reads, stores, shaped}
use Rattle.key_cells.proofs.Fitting.{Fit, fit_of, body_own}
use Rattle.key_cells.proofs.Places.{cell_there, places_apart}

module _ (c : Keyed) (is : IsKeyed c) where
  -- what a key has is the same in cells that are the same at its places
  pub held_same : (cells others : Cells) (q : ℕ) → (q < c.keys → (i : ℕ) → i < c.count → others (cell_place c q i) ≡ cells (cell_place c q i)) → held_in c cells q ≡ held_in c others q
  held_same cells others q same = by (nat_lt q c.keys) refl
    where
      by : (b : Bool) → nat_lt q c.keys ≡ b → cond b (c.held (λ i. cells (cell_place c q i))) None ≡ cond b (c.held (λ i. others (cell_place c q i))) None
      by true e = is.looks (λ i. cells (cell_place c q i)) (λ i. others (cell_place c q i)) (λ i low. sym (same (lt_of q c.keys e) i low))
      by false e = refl

  -- the body of a thunk that fits has the shape of one
  pub shape_own : (op : Op) (readings : Readings) (t : Thunk) → Fit c op readings t → IsShaped (key_body c t)
  shape_own op readings t fit = subst IsShaped (sym (body_own c op readings t fit))
      (shaped (cell_place c (key_of op)) (wanted t) (new_of t) (operand t 6) _ c.count is.few
      (λ i j earlier low. eq_false _ _ (λ e. let same = (places_apart c is (key_of op) (key_of op) i j fit.low fit.low (omega (arith, earlier, low)) low e).1 in omega (arith, same, earlier))))

  module _ (layout : Layout) (s : Scene) (pairs : Pairs) (d : ℕ) (x : Section) (before : StandsFor (keyed c) layout s pairs) (stamp : AtStamp (keyed c) s d x) where
    fit : Fit c x.op x.readings x.thunk
    fit = fit_of c x.op x.readings x.thunk is.few (before.sound.fits d x stamp.here)

    abbrev key : ℕ
    key = key_of x.op

    abbrev has : Option ℕ
    has = c.held (wanted x.thunk)

    abbrev writes : Bool
    writes = changes_at has x.op

    abbrev Own : ℕ → Step → Type 0
    Own j step = slice_get (body_by c writes key x.thunk) j ≡ Some step

    own_step : (j : ℕ) (step : Step) → IsStep (keyed c) x j step → Own j step
    own_step j step h = sym (ap (λ (body : List Step). slice_get body j) (body_own c x.op x.readings x.thunk fit)) ∙ h

    step_own : (j : ℕ) (step : Step) → Own j step → IsStep (keyed c) x j step
    step_own j step h = ap (λ (body : List Step). slice_get body j) (body_own c x.op x.readings x.thunk fit) ∙ h

    -- the key's cells are loaded, and hold the words that were read
    loads : (i : ℕ) → i < c.count → IsStep (keyed c) x (cond writes 3 2 * i) (Load (cell_place c key i) i)
    loads i low = step_own _ _ (reads (cell_place c key) (wanted x.thunk) (new_of x.thunk) (operand x.thunk 6) writes c.count is.few i low).0

    now : (i : ℕ) → i < c.count → s.cells (cell_place c key i) ≡ wanted x.thunk i
    now i low = wanted_now (keyed c) layout s before.sound d x stamp (shape_own x.op x.readings x.thunk fit) _ _ (cell_place c key i) i (wanted x.thunk i) (loads i low)
        (step_own _ _ (reads (cell_place c key) (wanted x.thunk) (new_of x.thunk) (operand x.thunk 6) writes c.count is.few i low).1)

    held_key : (cells : Cells) → held_in c cells key ≡ c.held (λ i. cells (cell_place c key i))
    held_key cells = ap (λ b. cond b (c.held (λ i. cells (cell_place c key i))) None) (lt_true key c.keys fit.low)

    has_now : held_in c s.cells key ≡ has
    has_now = held_key s.cells ∙ is.looks (λ i. s.cells (cell_place c key i)) (wanted x.thunk) now

    answers : (j n : ℕ) → IsStep (keyed c) x j (Answer n) → n ≡ word_of (reply_of pairs x.op)
    answers j n h =
        answer_in (cell_place c key) (wanted x.thunk) (new_of x.thunk) (operand x.thunk 6) writes c.count is.few j n (own_step j (Answer n) h)
        ∙ (fit.reply ∙ sym (ap word_of (reply_of-at pairs x.op fit.one ∙ ap (λ o. reply_at o x.op) (before.stands key ∙ has_now))))

    module _ (after : Cells) (left : AfterStores (keyed c) x s.cells after) where
      -- the places of other keys keep their words
      other_key : (q : ℕ) → q ≢ key → held_in c s.cells q ≡ held_in c after q
      other_key q ne = held_same s.cells after q (λ low i few. left.same (cell_place c q i) (λ k j r v store load.
          let at = load_in (cell_place c key) (wanted x.thunk) (new_of x.thunk) (operand x.thunk 6) writes c.count is.few j _ r (own_step j (Load (cell_place c q i) r) load) in
          ne (places_apart c is q key i r low fit.low few at.0 at.1).0))

      stores_by : (w : Bool) (v : Value) (k r : ℕ) → slice_get (body_by c w key x.thunk) k ≡ Some (Store r v) → w ≡ true
      stores_by w v k r h = (store_in (cell_place c key) (wanted x.thunk) (new_of x.thunk) (operand x.thunk 6) w c.count is.few k r v h).0

      -- the key has what the operation leaves it
      own_key : held_in c after key ≡ left_at has x.op
      own_key = held_key after ∙ bool_cases writes wrote kept
        where
          wrote : writes ≡ true → c.held (λ i. after (cell_place c key i)) ≡ left_at has x.op
          wrote e =
              is.looks (λ i. after (cell_place c key i)) (λ i. next_word (x.reg i) (value_of (c.value (left_at has x.op) i)))
              (λ i low. left.changed (3 * c.count + 1 + i) _ (cell_place c key i) i (Const (value_of (new_of x.thunk i)))
              (step_own _ _ (subst (λ w. slice_get (body_by c w key x.thunk) (3 * c.count + 1 + i) ≡ Some (Store i (Const (value_of (new_of x.thunk i))))) (sym e)
              (stores (cell_place c key) (wanted x.thunk) (new_of x.thunk) (operand x.thunk 6) c.count is.few i low)))
              (loads i low) ∙ ap (λ n. next_word (x.reg i) (value_of n)) (fit.new i low))
              ∙ is.stored (left_at has x.op) x.reg (left_small x.op (before.sound.allowed d x stamp.here) has (is.small (wanted x.thunk)))

          kept : writes ≡ false → c.held (λ i. after (cell_place c key i)) ≡ left_at has x.op
          kept e =
              is.looks (λ i. after (cell_place c key i)) (λ i. s.cells (cell_place c key i))
              (λ i low. left.same (cell_place c key i) (λ k j r v store load. true≢false (sym (stores_by writes v k r (own_step k (Store r v) store)) ∙ e)))
              ∙ (is.looks (λ i. s.cells (cell_place c key i)) (wanted x.thunk) now ∙ sym (unchanged has x.op e))

      stands_after : (q : ℕ) → get (map_after pairs x.op) q ≡ held_in c after q
      stands_after = stand_after pairs x.op (held_in c s.cells) (held_in c after) has fit.one before.stands has_now own_key other_key

  -- a change of a place that is no cell of a key leaves what each key has
  elsewhere : (s : Scene) (p w q : ℕ) → (q < c.keys → (i : ℕ) → i < c.count → cell_place c q i ≢ p) → held_in c s.cells q ≡ held_in c (upd s.cells p w) q
  elsewhere s p w q ne = held_same s.cells (upd s.cells p w) q (λ low i few. upd_other s.cells p (cell_place c q i) w (ne low i few))

  pub keyed_in_turn : (layout : Layout) → InTurn (keyed c) layout
  keyed_in_turn layout = record {
    answers = λ s pairs d x before stamp map j n h. answers layout s pairs d x before stamp j n h;
    stores = λ s pairs d x before stamp after left. stands_after layout s pairs d x before stamp after left;
    lock = λ s pairs p w before lock q. before.stands q ∙ elsewhere s p w q
        (λ low i few e. true≢false (sym (ap (is_lock_place c) e ∙ lock) ∙ (cell_there c is q i low few).1));
    hand = λ s pairs t i w before free small q. before.stands q ∙ elsewhere s (c.base + c.fixed + 5 * t + i) w q
        (λ low k few e. let below = (cell_there c is q k low few).0 in omega (arith, e, below));
  }
