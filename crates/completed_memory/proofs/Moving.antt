-- What becomes of the completed memory, over every structure that meets the laws.
use Rattle.std.proofs.Common.{◌≡◌, ◌≢◌, ℕ, ◌+◌, ◌*◌, ◌<◌, ◌≤◌, true, false, length, refl, sym, ap, ◌∙◌, subst, ⊎_elim, arith}
use Rattle.std.specs.Prelude.{Some}
use Rattle.std.specs.FinMap.{empty}
use mathlib.Core.Path.{fun_ext}
use mathlib.Core.Logic.{dite}
use native.Mathlib.Decide.{ℕ_discrete}
use Rattle.structure_laws.specs.map_history.specs.Replay.{Pairs, reply_of, map_after}
use Rattle.structure_laws.specs.map_history.specs.Words.{word_of}
use Rattle.structure_laws.specs.body_terms.specs.Update.{upd}
use Rattle.structure_laws.specs.body_terms.specs.Word.{next_word}
use Rattle.structure_laws.specs.body_terms.specs.declared.value.Value.{Value}
use Rattle.structure_laws.specs.body_terms.specs.declared.step.Step.TheVariants.{Load, Stamp, Store, Answer}
use Rattle.structure_laws.specs.body_terms.specs.Shape.{phase}
use Rattle.structure_laws.specs.table_words.specs.declared.layout.Layout.{Layout}
use Rattle.structure_laws.specs.table_words.specs.Limits.{IsWithinLimits}
use Rattle.structure_laws.specs.Scene.{Section, Status, Free, Live, Scene, with_cell, passed, passes}
use Rattle.structure_laws.specs.Meaning.{Meaning}
use Rattle.structure_laws.specs.Sections.{value_in, Here, IsStep, Unstamped}
use Rattle.structure_laws.specs.Cells.{cell_of}
use Rattle.structure_laws.specs.Shape.{Shaped}
use Rattle.structure_laws.specs.InTurn.{StandsFor, AtStamp, AfterStores}
use Rattle.structure_laws.specs.Gives.{Gives}
use Rattle.structure_laws.specs.Laws.{IsFirst, LawsOver, Laws}
use Rattle.structure_laws.specs.Lawful.{IsLawful, Moves}
use Rattle.structure_laws.proofs.Changes.{upd_same, upd_other, upd_some}
use Rattle.structure_laws.proofs.Moves.{moves}
use Rattle.completed_memory.specs.Pending.{Marks, HasCome, AreMarked, StillStores, IsPending, AreBelow}
use Rattle.completed_memory.specs.Moves.{StandsCompleted, LeavesStores, IsAtStamp, MemoryMoves}
use Rattle.completed_memory.proofs.Stores.{compare_places, past_loads, come_settled, passed_none, next_store, other_stores, apart_stores}
use Rattle.completed_memory.proofs.Finishing.{Finished, finish}
use Rattle.completed_memory.proofs.Completing.{true_false, some_none, some_inj, Completion, completion, same_cells}

live_free : (x : Status) → x ≡ Live → x ≡ Free → ⊥
live_free x live free = cc

module _ (m : Meaning) (laws : Laws m) (layout : Layout) (limits : IsWithinLimits layout) where
  abbrev over : LawsOver m layout
  over = laws.over layout limits

  abbrev all_moves : Moves m layout
  all_moves = moves m laws layout limits

  first_stands : (s : Scene) → IsFirst m s → StandsCompleted m layout s (λ d. false) empty
  first_stands s first = record {
    lawful = all_moves.first s first;
    marked = record { come = λ d x here. absurd (some_none (sym here ∙ first.section d)); before = λ d x here. absurd (some_none (sym here ∙ first.section d)) };
    count = 0;
    below = λ d le. first.section d;
    cells = s.cells;
    completed = record { made = λ p w a. absurd (some_none (sym a.here ∙ first.section a.descriptor)); kept = λ p none. refl };
    stands = over.empty s first;
  }

  leaves_stand : (s s' : Scene) (stamped stamped' : Marks) (pairs : Pairs) (count : ℕ) → StandsCompleted m layout s stamped pairs
      → IsLawful m layout s' → AreMarked m s' stamped' → AreBelow m count s' → LeavesStores m s s' stamped stamped' → StandsCompleted m layout s' stamped' pairs
  leaves_stand s s' stamped stamped' pairs count st lawful marked below leaves = record {
    lawful = lawful;
    marked = marked;
    count = count;
    below = below;
    cells = st.cells;
    completed = record {
      made = λ p w a. st.completed.made p w (leaves.no_more p w a);
      kept = λ p none. st.completed.kept p (λ w a. none w (leaves.no_fewer p w a)) ∙ sym (leaves.cells p);
    };
    stands = st.stands;
  }

  settled_stands : (s : Scene) (stamped : Marks) (pairs : Pairs) → StandsCompleted m layout s stamped pairs → ((p w : ℕ) → IsPending m s stamped p w → ⊥) → m.stands layout s.cells pairs
  settled_stands s stamped pairs st none = subst (λ cells. m.stands layout cells pairs) (fun_ext (λ p. st.completed.kept p (none p))) st.stands

  module _ (s : Scene) (stamped : Marks) (pairs : Pairs) (st : StandsCompleted m layout s stamped pairs) where
    abbrev gives : Gives m layout s
    gives = over.gives s st.lawful.sound st.lawful.kept

    abbrev done : Completion m layout all_moves s stamped st.lawful gives st.marked
    done = completion m layout all_moves s stamped st.lawful gives st.marked st.count st.below

    same : st.cells ≡ done.cells
    same = same_cells m layout all_moves s stamped st.lawful gives st.marked done st.cells st.completed

    -- the completed scene
    abbrev whole : Scene
    whole = record s { cells = done.cells; section = done.section }

    stands_whole : StandsFor m layout whole pairs
    stands_whole = record { sound = done.lawful'.sound; kept = done.lawful'.kept; stands = subst (λ cells. m.stands layout cells pairs) same st.stands }

    at_stamp : (d : ℕ) (x : Section) → IsAtStamp m s stamped d x → AtStamp m whole d x
    at_stamp d x at = record { complete = done.complete; here = done.unstamped d at.unmarked ∙ at.here; stamp = at.step }

    answers : (d : ℕ) (x : Section) → IsAtStamp m s stamped d x → m.is_map ≡ true → (j n : ℕ) → IsStep m x j (Answer n) → n ≡ word_of (reply_of pairs x.op)
    answers d x at map j n step = over.in_turn.answers whole pairs d x stands_whole (at_stamp d x at) map j n step

    stamp_stands : (d : ℕ) (x : Section) → IsAtStamp m s stamped d x → StandsCompleted m layout s (upd stamped d true) (map_after pairs x.op)
    stamp_stands d x at = record {
      lawful = st.lawful;
      marked = record { come = come'; before = λ e y here unmarked. st.marked.before e y here (sym (upd_other stamped d e true (λ e'. true_false (sym (upd_same stamped d e true e') ∙ unmarked))) ∙ unmarked) };
      count = st.count;
      below = st.below;
      cells = f.cells;
      completed = record { made = made; kept = λ p none. f.kept p (λ w a. none w (own p w a)) ∙ done.completed.kept p (λ w a. none w (older p w a)) };
      stands = over.in_turn.stores whole pairs d x stands_whole (at_stamp d x at) f.cells after;
    }
      where
        come : HasCome m x
        come = (x.at, omega arith, at.step)

        come' : (e : ℕ) (y : Section) → Here s e y → upd stamped d true e ≡ true → HasCome m y
        come' e y here mark = dite (ℕ_discrete e d) (λ e'. subst (HasCome m) (some_inj (sym at.here ∙ ap s.section (sym e') ∙ here)) come)
            (λ ne. st.marked.come e y here (sym (upd_other stamped d e true ne) ∙ mark))

        f : Finished m layout all_moves whole d x
        f = finish m layout all_moves (length (m.body x.thunk)) whole d x done.lawful' (done.unstamped d at.unmarked ∙ at.here) (omega arith) come

        later : (i r : ℕ) (v : Value) → IsStep m x i (Store r v) → x.at ≤ i
        later i r v store = ⊎_elim
            (λ lt. let phases : phase (Store r v) ≤ phase Stamp = (st.lawful.shaped d x at.here).shape.phases i x.at (Store r v) Stamp lt store at.step in absurd (omega arith))
            (λ le. omega arith) (compare_places i x.at)

        after : AfterStores m x whole.cells f.cells
        after = record {
          changed = λ i j p r v store load. f.made p (next_word (x.reg r) (value_in x.reg v))
              (record { at = i; loaded = j; reg = r; value = v; later = later i r v store; stores = store; loads = load; gives = refl });
          same = λ p none. f.kept p (λ w a. none a.at a.loaded a.reg a.value a.stores a.loads);
        }

        own : (p w : ℕ) → StillStores m x p w → IsPending m s (upd stamped d true) p w
        own p w a = record { descriptor = d; section = x; here = at.here; marked = upd_same stamped d d true refl; store = a }

        older : (p w : ℕ) → IsPending m s stamped p w → IsPending m s (upd stamped d true) p w
        older p w a = record {
          descriptor = a.descriptor;
          section = a.section;
          here = a.here;
          store = a.store;
          marked = upd_other stamped d a.descriptor true (λ e. true_false (sym a.marked ∙ ap stamped e ∙ at.unmarked)) ∙ a.marked;
        }

        made : (p w : ℕ) → IsPending m s (upd stamped d true) p w → f.cells p ≡ w
        made p w a = dite (ℕ_discrete a.descriptor d)
            (λ e. f.made p w (subst (λ x. StillStores m x p w) (some_inj (sym a.here ∙ ap s.section e ∙ at.here)) a.store))
            (λ ne.
            let mark = sym (upd_other stamped d a.descriptor true ne) ∙ a.marked in
            f.kept p (λ v b. apart_stores m layout s a.descriptor d a.section x st.lawful gives a.here at.here ne (st.marked.come a.descriptor a.section a.here mark) come p w v a.store b)
            ∙ done.completed.made p w (record { descriptor = a.descriptor; section = a.section; here = a.here; marked = mark; store = a.store }))

    -- the scene behind the section's Store
    abbrev stored : ℕ → ℕ → ℕ → Section → Value → Scene
    stored d p r x v = with_cell (passes s d x) p (next_word (x.reg r) (value_in x.reg v))

    store_stands : (d j p r : ℕ) (x : Section) (v : Value) → Here s d x → stamped d ≡ true → IsStep m x x.at (Store r v) → IsStep m x j (Load p r)
        → StandsCompleted m layout (with_cell (passes s d x) p (next_word (x.reg r) (value_in x.reg v))) stamped pairs
    store_stands d j p r x v here mark store load = record {
      lawful = all_moves.store s d j p r x v here store low load read st.lawful;
      marked = record { come = come'; before = before' };
      count = st.count;
      below = λ e le. upd_other s.section d e (Some (passed x)) (λ same. some_none (sym here ∙ ap s.section (sym same) ∙ st.below e le)) ∙ st.below e le;
      cells = st.cells;
      completed = record { made = λ q w a. st.completed.made q w (back q w a); kept = kept };
      stands = st.stands;
    }
      where
        shaped : Shaped m layout x.readings x.thunk
        shaped = st.lawful.shaped d x here

        come : HasCome m x
        come = st.marked.come d x here mark

        low : j < x.at
        low = past_loads m layout x j p r shaped come load

        read : s.cells p ≡ x.reg r
        read = st.lawful.sound.loaded d x here j p r low load (λ i w store'. let same = shaped.store_once i x.at r w v store' store in omega arith)

        come' : (e : ℕ) (y : Section) → upd s.section d (Some (passed x)) e ≡ Some y → stamped e ≡ true → HasCome m y
        come' e y there mark' = ⊎_elim (λ same. subst (HasCome m) same.1 (come.0, (let le = come.1 in omega arith), come.2))
            (λ other. st.marked.come e y other.1 mark') (upd_some s.section d e (passed x) y there)

        before' : (e : ℕ) (y : Section) → upd s.section d (Some (passed x)) e ≡ Some y → stamped e ≡ false → Unstamped m y
        before' e y there unmarked = ⊎_elim (λ same. absurd (true_false (sym mark ∙ ap stamped (sym same.0) ∙ unmarked)))
            (λ other. st.marked.before e y other.1 unmarked) (upd_some s.section d e (passed x) y there)

        back : (q w : ℕ) → IsPending m (stored d p r x v) stamped q w → IsPending m s stamped q w
        back q w a = ⊎_elim
            (λ same. record { descriptor = d; section = x; here = here; marked = mark; store = passed_none m layout x q w (subst (λ y. StillStores m y q w) (sym same.1) a.store) })
            (λ other. record { descriptor = a.descriptor; section = a.section; here = other.1; marked = a.marked; store = a.store })
            (upd_some s.section d a.descriptor (passed x) a.section a.here)

        on : (q w : ℕ) → q ≢ p → IsPending m s stamped q w → IsPending m (stored d p r x v) stamped q w
        on q w ne a = dite (ℕ_discrete a.descriptor d)
            (λ e.
            let mine = subst (λ y. StillStores m y q w) (some_inj (sym a.here ∙ ap s.section e ∙ here)) a.store in
            record {
              descriptor = d;
              section = passed x;
              here = upd_same s.section d d (Some (passed x)) refl;
              marked = mark;
              store = ⊎_elim (λ at. absurd (ne at)) (λ rest. rest) (other_stores m layout x j p r q w v shaped store load mine);
            })
            (λ other. record { descriptor = a.descriptor; section = a.section; here = upd_other s.section d a.descriptor (Some (passed x)) other ∙ a.here; marked = a.marked; store = a.store })

        kept : (q : ℕ) → ((w : ℕ) → IsPending m (stored d p r x v) stamped q w → ⊥) → st.cells q ≡ upd s.cells p (next_word (x.reg r) (value_in x.reg v)) q
        kept q none = dite (ℕ_discrete q p)
            (λ e. ap st.cells e ∙ st.completed.made p (next_word (x.reg r) (value_in x.reg v)) (record { descriptor = d; section = x; here = here; marked = mark; store = next_store m layout x j p r v store load })
            ∙ sym (upd_same s.cells p q (next_word (x.reg r) (value_in x.reg v)) e))
            (λ ne. st.completed.kept q (λ w a. none w (on q w ne a)) ∙ sym (upd_other s.cells p q (next_word (x.reg r) (value_in x.reg v)) ne))

    -- a cell changes in which nothing is pending
    cell_stands : (p w : ℕ) → ((v : ℕ) → IsPending m s stamped p v → ⊥) → IsLawful m layout (with_cell s p w) → m.stands layout (upd done.cells p w) pairs
        → StandsCompleted m layout (with_cell s p w) stamped pairs
    cell_stands p w nothing lawful stands = record {
      lawful = lawful;
      marked = record { come = st.marked.come; before = st.marked.before };
      count = st.count;
      below = st.below;
      cells = upd st.cells p w;
      completed = record {
        made = λ q v a. upd_other st.cells p q w (λ e. nothing v (subst (λ q. IsPending m s stamped q v) e (there q v a))) ∙ st.completed.made q v (there q v a);
        kept = λ q none. dite (ℕ_discrete q p) (λ e. upd_same st.cells p q w e ∙ sym (upd_same s.cells p q w e))
            (λ ne. upd_other st.cells p q w ne ∙ st.completed.kept q (λ v a. none v (here q v a)) ∙ sym (upd_other s.cells p q w ne));
      };
      stands = subst (λ cells. m.stands layout (upd cells p w) pairs) (sym same) stands;
    }
      where
        there : (q v : ℕ) → IsPending m (with_cell s p w) stamped q v → IsPending m s stamped q v
        there q v a = record { descriptor = a.descriptor; section = a.section; here = a.here; marked = a.marked; store = a.store }

        here : (q v : ℕ) → IsPending m s stamped q v → IsPending m (with_cell s p w) stamped q v
        here q v a = record { descriptor = a.descriptor; section = a.section; here = a.here; marked = a.marked; store = a.store }

    lock_stands : (p w : ℕ) → m.is_lock p ≡ true → IsLawful m layout (with_cell s p w) → StandsCompleted m layout (with_cell s p w) stamped pairs
    lock_stands p w lock lawful = cell_stands p w
        (λ v a. true_false (sym lock ∙ (st.lawful.shaped a.descriptor a.section a.here).load_unlocked a.store.loaded p a.store.reg a.store.loads)) lawful
        (over.in_turn.lock whole pairs p w stands_whole lock)

    hand_stands : (t i w : ℕ) → s.status t ≡ Free → i < 5 → IsLawful m layout (with_cell s (cell_of m t i) w) → StandsCompleted m layout (with_cell s (cell_of m t i) w) stamped pairs
    hand_stands t i w free low lawful = cell_stands (cell_of m t i) w unused lawful (over.in_turn.hand whole pairs t i w stands_whole free low)
      where
        one_slot : (u k : ℕ) → k < 5 → m.fixed_cells + 5 * t + i ≡ m.fixed_cells + 5 * u + k → t ≡ u
        one_slot u k small e = omega arith

        unused : (v : ℕ) → IsPending m s stamped (cell_of m t i) v → ⊥
        unused v a =
            let settled = come_settled m layout a.section (st.lawful.shaped a.descriptor a.section a.here) (st.marked.come a.descriptor a.section a.here a.marked) in
            ⊎_elim (λ fixed. omega arith)
            (λ slot. live_free (s.status t) (ap s.status (one_slot slot.0 slot.1.0 slot.1.1 slot.1.2) ∙ slot.2) free)
            (gives.store_used a.descriptor a.store.at a.store.loaded (cell_of m t i) a.store.reg a.section a.store.value a.here settled a.store.later a.store.stores a.store.loads)

  pub memory_moves : MemoryMoves m layout
  memory_moves = record {
    first = first_stands;
    answers = λ s stamped pairs d x st. answers s stamped pairs st d x;
    stamps = λ s stamped pairs d x st. stamp_stands s stamped pairs st d x;
    leaves = leaves_stand;
    store = λ s stamped pairs d j p r x v st. store_stands s stamped pairs st d j p r x v;
    lock = λ s stamped pairs p w st. lock_stands s stamped pairs st p w;
    hand = λ s stamped pairs t i w st. hand_stands s stamped pairs st t i w;
    settled = settled_stands;
  }
