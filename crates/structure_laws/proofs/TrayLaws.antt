-- The test structure meets the laws.
use Rattle.std.proofs.Common.{◌≡◌, ◌≢◌, ℕ, suc, ◌+◌, ◌*◌, ◌<◌, ◌≤◌, true, false, refl, sym, ap, ◌∙◌, subst, inl, inr, ⊎_elim, arith}
use Rattle.std.specs.Prelude.{◌==◌, ◌^◌, ◌⊎◌, Some, slice_get, length}
use Rattle.std.proofs.lemmas.Option.{none-some}
use Rattle.map_history.specs.Replay.{Pairs}
use Rattle.body_terms.specs.Word.{value_of}
use Rattle.body_terms.specs.declared.value.Value.{Value}
use Rattle.body_terms.specs.declared.value.Value.TheVariants.{Const, Made}
use Rattle.body_terms.specs.declared.value.Init.{Init}
use Rattle.body_terms.specs.block_words.specs.table_words.specs.declared.layout.Layout.{Layout}
use Rattle.body_terms.specs.block_words.specs.table_words.specs.Limits.{IsWithinLimits}
use Rattle.body_terms.specs.block_words.specs.table_words.specs.Places.{slot_count}
use Rattle.structure_laws.specs.Scene.{Cells, Section, Status, Free, Live, Scene}
use Rattle.structure_laws.specs.Sections.{IsSmall, value_in}
use Rattle.structure_laws.specs.Shape.{ShapeLaw}
use Rattle.structure_laws.specs.Fitting.{Fitting}
use Rattle.structure_laws.specs.InTurn.{StandsFor, AtStamp, AfterStores, InTurn}
use Rattle.structure_laws.specs.Laws.{IsFirst, Laws}
use Rattle.structure_laws.specs.Tray.{Form, Number, Link, Unlink, Other, form_of, operand_of, body_of, tray, zeros}
use Rattle.structure_laws.proofs.Changes.{upd_other, value-next_word, value_small, equal_of}
use Rattle.structure_laws.proofs.Costs.{brief_cost}
use Rattle.structure_laws.proofs.Limits.{links_small, value-small}
use Rattle.structure_laws.proofs.Steps.{no_take, load_step, store_step, make_step, stamp_step, answer_step}
use Rattle.structure_laws.proofs.TrayShape.{body_of_shaped, body_of_few}
use Rattle.structure_laws.proofs.TrayGives.{step_at, tray_gives}
use Rattle.structure_laws.proofs.TrayKeeps.{tray_keeps}

-- the places that a body loads
loaded_place : {f : Form} {p : ℕ} → ((f ≡ Number) × (p ≡ 1)) ⊎ ((f ≡ Link) × (p ≡ 2)) ⊎ ((f ≡ Unlink) × (p ≡ 2)) → (1 ≤ p) × (p ≤ 2)
loaded_place loaded = ⊎_elim (λ one. let e = one.1 in (omega arith, omega arith)) (⊎_elim (λ two. let e = two.1 in (omega arith, omega arith)) (λ two. let e = two.1 in (omega arith, omega arith))) loaded

is_zero : (p : ℕ) → p ≡ 0 → (p == 0) ≡ true
is_zero p e = grind arith

not_zero : (p : ℕ) → 1 ≤ p → (p == 0) ≡ false
not_zero p low = grind arith

zeros_small : (i : ℕ) (v : Value) → slice_get zeros.cells i ≡ Some v → v ≡ Const 0
zeros_small i v h = grind arith

stored_small : (x : Value) (word : ℕ) → ((x ≡ Const (value_of word)) ⊎ (x ≡ Made 1) ⊎ (x ≡ Const 0)) → IsSmall x
stored_small x word h = ⊎_elim (λ e. subst IsSmall (sym e) (value_small word)) (⊎_elim (λ e. subst IsSmall (sym e) tt) (λ e. let P : ℕ → Type 0 = λ n. n < 2 ^ 32 in subst IsSmall (sym e) (omega arith))) h

pub tray_shape : (layout : Layout) → ShapeLaw tray layout
tray_shape layout s sound kept r readings op thunk reader allowed fits =
    let form = form_of thunk in
    let word = operand_of thunk in
    record {
      shape = body_of_shaped form word;
      brief = brief_cost (body_of form word) (body_of_shaped form word) (body_of_few form word);
      outer_lock = fits;
      outer_known = inl (let first = equal_of thunk.lock 0 fits in omega arith);
      take_lock = λ j l w h. absurd (no_take form word j l w h);
      take_known = λ j l w h. absurd (no_take form word j l w h);
      take_inner = λ j l w h. absurd (no_take form word j l w h);
      take_once = λ i j l v w h h'. absurd (no_take form word i l v h);
      take_read = λ j l w h. absurd (no_take form word j l w h);
      take_free = λ j l w h. absurd (no_take form word j l w h);
      take_unspent = λ j l w h. absurd (no_take form word j l w h);
      load_unlocked = λ j p r h. not_zero p (loaded_place (load_step form word j p r h).2).0;
      load_known = λ j p r h. inl (let place = loaded_place (load_step form word j p r h).2 in omega arith);
      load_once = λ i j p q r h h'. (load_step form word i p q h).0 ∙ sym (load_step form word j p r h').0;
      store_once = λ i j r v w h h'. once word (store_step form word i r v h).1 (store_step form word j r w h').1;
      store_small = λ j r v h. stored_small v word (⊎_elim (λ number. inl number.2) (⊎_elim (λ linking. inr (inl linking.2)) (λ unlinking. inr (inr unlinking.2))) (store_step form word j r v h).1);
      make_whole = λ j r init h. ap (λ init. length init.cells) (make_step form word j r init h).3;
      make_small = λ j r i init v h at. subst IsSmall (sym (zero_of init i v (make_step form word j r init h).3 at)) (omega arith);
      make_unlocked = λ j r i t init v h at lock. zero_of init i v (make_step form word j r init h).3 at;
      answers = λ j n h. answer_step form word j n h;
    }
  where
    zero_of : (init : Init) (i : ℕ) (v : Value) → init ≡ zeros → slice_get init.cells i ≡ Some v → v ≡ Const 0
    zero_of init i v e h = zeros_small i v (sym (ap (λ init. slice_get init.cells i) e) ∙ h)

    once : {f : Form} {i j : ℕ} {v w : Value} (word : ℕ) → ((f ≡ Number) × (i ≡ 3) × (v ≡ Const (value_of word))) ⊎ ((f ≡ Link) × (i ≡ 5) × (v ≡ Made 1)) ⊎ ((f ≡ Unlink) × (i ≡ 4) × (v ≡ Const 0))
        → ((f ≡ Number) × (j ≡ 3) × (w ≡ Const (value_of word))) ⊎ ((f ≡ Link) × (j ≡ 5) × (w ≡ Made 1)) ⊎ ((f ≡ Unlink) × (j ≡ 4) × (w ≡ Const 0)) → i ≡ j
    once word a b = ⊎_elim (λ x. ⊎_elim (λ y. x.1 ∙ sym y.1) (⊎_elim (λ y. absurd (cc (x.0, y.0))) (λ y. absurd (cc (x.0, y.0)))) b)
        (⊎_elim (λ x. ⊎_elim (λ y. absurd (cc (x.0, y.0))) (⊎_elim (λ y. x.1 ∙ sym y.1) (λ y. absurd (cc (x.0, y.0)))) b)
        (λ x. ⊎_elim (λ y. absurd (cc (x.0, y.0))) (⊎_elim (λ y. absurd (cc (x.0, y.0))) (λ y. x.1 ∙ sym y.1)) b)) a

-- its test of thunks asks nothing of the readings, and it serves no map
tray_fitting : (layout : Layout) → Fitting tray layout
tray_fitting layout = record {
  fits_on = λ readings more op thunk fits. fits;
  still = λ map. absurd (cc);
}

no_link : (f : Form) (p : ℕ) → (f ≡ Number) ⊎ (f ≡ Other) → ((f ≡ Number) × (p ≡ 1)) ⊎ ((f ≡ Link) × (p ≡ 2)) ⊎ ((f ≡ Unlink) × (p ≡ 2)) → p ≢ 2
no_link f p apart loaded = ⊎_elim (λ one. λ e. let first = one.1 in omega arith)
    (⊎_elim (λ two. ⊎_elim (λ e. absurd (cc (e, two.0))) (λ e. absurd (cc (e, two.0))) apart) (λ two. ⊎_elim (λ e. absurd (cc (e, two.0))) (λ e. absurd (cc (e, two.0))) apart)) loaded

live_free : (x : Status) → x ≡ Live → x ≡ Free → ⊥
live_free x a b = cc

module _ (layout : Layout) (limits : IsWithinLimits layout) (s : Scene) (pairs : Pairs) (d : ℕ) (x : Section) (before : StandsFor tray layout s pairs) (stamp : AtStamp tray s d x) (after : Cells) (stores : AfterStores tray x s.cells after) where
  -- place 2 stays as it was
  stays : (form_of x.thunk ≡ Number) ⊎ (form_of x.thunk ≡ Other) → value_of (after 2) ≤ slot_count layout 0
  stays apart =
      let same = ap value_of (stores.same 2 (λ i j r v store load. no_link (form_of x.thunk) 2 apart (load_step (form_of x.thunk) (operand_of x.thunk) j 2 r load).2 refl)) in
      let stands = before.stands in
      omega arith

  -- place 2 links the section's node
  links : form_of x.thunk ≡ Link → x.at ≡ 4 → value_of (after 2) ≤ slot_count layout 0
  links form at =
      let node = before.kept.made d x stamp.here form (omega arith) (omega arith) in
      let within = before.sound.within node.0 (λ free. live_free (s.status node.0) node.2 free) in
      let small = links_small layout 0 node.0 limits (omega arith) within in
      let stored : value_in x.reg (Made 1) ≡ suc node.0 = ap value_of node.1 ∙ value-small (suc node.0) small in
      let now = ap value_of (stores.changed 5 0 2 0 (Made 1) (step_at x Link 5 form) (step_at x Link 0 form)) ∙ value-next_word (x.reg 0) (value_in x.reg (Made 1)) (omega arith) in
      omega arith

  -- place 2 links nothing
  unlinks : form_of x.thunk ≡ Unlink → value_of (after 2) ≤ slot_count layout 0
  unlinks form =
      let now = ap value_of (stores.changed 4 0 2 0 (Const 0) (step_at x Unlink 4 form) (step_at x Unlink 0 form)) ∙ value-next_word (x.reg 0) 0 (omega arith) in
      omega arith

  -- after the section's Stores place 2 links nothing or a node slot
  stores_stand : value_of (after 2) ≤ slot_count layout 0
  stores_stand = ⊎_elim (λ number. stays (inl number.0)) (⊎_elim (λ linking. links linking.0 linking.1) (⊎_elim (λ unlinking. unlinks unlinking.0) (λ other. stays (inr other.0))))
      (stamp_step (form_of x.thunk) (operand_of x.thunk) x.at stamp.stamp)

pub tray_in_turn : (layout : Layout) → IsWithinLimits layout → InTurn tray layout
tray_in_turn layout limits = record {
  answers = λ s pairs d x before stamp map. absurd (cc);
  stores = stores_stand layout limits;
  lock = λ s pairs p w before lock.
      let same = ap value_of (upd_other s.cells p 2 w (λ e. let first = equal_of p 0 lock in omega arith)) in let stands = before.stands in omega arith;
  hand = λ s pairs t i w before free low.
      let same = ap value_of (upd_other s.cells (3 + 5 * t + i) 2 w (λ e. omega arith)) in let stands = before.stands in omega arith;
}

first_empty : (s : Scene) → IsFirst tray s → value_of (s.cells 2) ≡ 0
first_empty s first = ap value_of (first.cells 2) ∙ refl

pub tray_laws : Laws tray
tray_laws = record {
  first = record { few_cells = omega arith; few_slots = omega arith; small = λ p h. omega arith; locks_free = λ p h lock. refl; links = λ p t h link some. absurd (omega arith) };
  unlinked_lock = λ cells p lock. let first = equal_of p 0 lock in lock_no_link p first;
  over = λ layout limits. record {
    begins = λ s first. record {
      linked = λ t h. absurd (let none = first_empty s first in omega arith);
      made = λ d x here. absurd (none-some x (sym (first.section d) ∙ here));
      unlinked = λ d x here. absurd (none-some x (sym (first.section d) ∙ here));
    };
    empty = λ s first. let none = first_empty s first in omega arith;
    shape = tray_shape layout;
    fitting = tray_fitting layout;
    in_turn = tray_in_turn layout limits;
    keeps = tray_keeps layout limits;
    gives = tray_gives layout;
  };
}
  where
    lock_no_link : (p : ℕ) → p ≡ 0 → (p == 2) ≡ false
    lock_no_link p e = grind arith
