-- In every reached state there is room in the cells of the runners' slots.
use Rattle.std.specs.Prelude.{◌*◌, nat_lt, cond, true, false}
use Rattle.std.proofs.Common.{◌≡◌, ℕ, ◌+◌, ◌<◌, ◌≤◌, inl, sym, refl, ap, ◌∙◌, subst, arith, List, None}
use Rattle.std.proofs.lemmas.Bool.Decides.{nat_tests}
use Rattle.machine_states.specs.map_history.specs.declared.op.Request.{Request}
use Rattle.machine_states.specs.body_terms.specs.Memory.{cell_of}
use Rattle.machine_states.specs.body_terms.specs.Word.{version_of, pack}
use Rattle.machine_states.specs.table_words.specs.declared.layout.Layout.{Layout}
use Rattle.machine_states.specs.table_words.specs.declared.spot.Spot.TheVariants.{Cell}
use Rattle.machine_states.specs.table_words.specs.Limits.{IsWithinLimits}
use Rattle.machine_states.specs.structure_laws.specs.Meaning.{Meaning}
use Rattle.machine_states.specs.structure_laws.specs.Laws.{Laws}
use Rattle.machine_states.specs.structure_laws.specs.Cells.{first_word}
use Rattle.machine_states.specs.runner_parts.specs.State.{PartState}
use Rattle.machine_states.specs.runner_parts.specs.Tests.{has}
use Rattle.machine_states.specs.runner_parts.specs.Lists.{test_of}
use Rattle.machine_states.specs.runner_steps.specs.Asks.{sizes_for}
use Rattle.machine_states.specs.World.{World}
use Rattle.machine_states.specs.First.{IsFirst}
use Rattle.machine_states.specs.Reached.{Reached}
use Rattle.machine_states.specs.Sight.{Sight, sight}
use Rattle.machine_states.proofs.FirstSights.{first_parts}
use Rattle.machine_states.proofs.Sights.{some_none}
use Rattle.machine_invariant.specs.machine_blocks.specs.machine_guards.specs.machine_agreement.specs.machine_epochs.specs.Entries.{counts_of}
use Rattle.machine_invariant.specs.machine_blocks.specs.machine_guards.specs.machine_agreement.specs.machine_epochs.proofs.FirstJoin as FirstJoin
use Rattle.machine_invariant.specs.machine_slots.proofs.Locks.{unfixed}
use Rattle.machine_invariant.specs.After.{AreAllowed}
use Rattle.machine_invariant.specs.Whole.{Beside, states_of, IsWhole}
use Rattle.machine_invariant.proofs.First.{first_beside, first_whole}
use Rattle.next_steps.specs.Rooms.{SlotsHaveRoom, RoomsStand}
use Rattle.machine_invariant.proofs.Keeping.{reached_keeps}
use Rattle.next_steps.proofs.Standing.{own_node, own_free}
use Rattle.next_steps.proofs.RoomsKept.{rooms_kept}
use Rattle.machine_invariant.proofs.Basics.{not_both}

module _ (m : Meaning) (laws : Laws m) (l : Layout) (limits : IsWithinLimits l) (rs : List Request) (w : World) (start : IsFirst m l rs w) where
  abbrev s : Sight
  s = sight m l rs w

  abbrev g : Beside
  g = first_beside m laws l limits rs w start

  whole : IsWhole m l g s
  whole = first_whole m laws l limits rs w start

  -- a free slot's cells have version 1
  first_cell : (i t j : ℕ) → has (s.part i).nodes.free t ≡ true → j < 5 → s.word (Cell (cell_of m.fixed_cells t j)) ≡ pack 0 1
  first_cell i t j own five =
      let low = own_node m laws l limits g s whole i t (inl own) in
      let high = unfixed m laws l limits (counts_of m l) refl (states_of g s) whole.kept t (own_free m laws l limits g s whole i t (inl own)) in
      let place = cell_of m.fixed_cells t j in
      start.words.seen (Cell place) (omega arith)
      ∙ (inside place (sizes_for m l rs).cells (first_word m place) (omega arith)
      ∙ ap (λ v. pack v 1) (beyond place (m.fixed_cells + 5 * m.fixed_slots) (m.first_value place) (omega arith)))
    where
      inside : (p n v : ℕ) → p < n → cond (nat_lt p n) v 0 ≡ v
      inside p n v low = grind (arith, nat_tests)

      beyond : (p n v : ℕ) → n ≤ p → cond (nat_lt p n) v 0 ≡ 0
      beyond p n v low = grind (arith, nat_tests)

  -- nobody is in a run or has a slot in the hand
  no_run : (i : ℕ) → (s.part i).run ≡ None
  no_run i = subst (λ (p : PartState). p.run ≡ None) (sym (first_parts m l w.parts start.parts i))
      (FirstJoin.each_part m l (λ p. p.run ≡ None) refl (λ k. refl) refl i)

  no_tests : (i t : ℕ) → (test_of (s.part i).nodes.tests t).cells ≡ 0
  no_tests i t = subst (λ (p : PartState). (test_of p.nodes.tests t).cells ≡ 0) (sym (first_parts m l w.parts start.parts i))
      (FirstJoin.each_part m l (λ p. (test_of p.nodes.tests t).cells ≡ 0) refl (λ k. refl) refl i)

  no_hand : (i t : ℕ) → has (s.part i).nodes.hand t ≡ false
  no_hand i t = subst (λ (p : PartState). has p.nodes.hand t ≡ false) (sym (first_parts m l w.parts start.parts i))
      (FirstJoin.each_part m l (λ p. has p.nodes.hand t ≡ false) refl (λ k. refl) refl i)

  first_version : version_of (pack 0 1) ≡ 1
  first_version = refl

  first_rooms : RoomsStand m l s
  first_rooms = record { own = own_rooms; board = λ i t j named. absurd (let x = sym (FirstJoin.unwritten m l rs w start i) ∙ named in cc) }
    where
      own_rooms : (i : ℕ) → SlotsHaveRoom m l s.word (s.part i)
      own_rooms i = record {
        free = λ t j own five. subst (λ n. version_of n < l.version_max) (sym (first_cell i t j own five))
            (let some = limits.some_versions in let one = first_version in omega arith);
        made = λ q t is made. some_none q (sym (no_run i) ∙ is);
        looked = λ t j own. not_both own (no_hand i t);
        unlooked = λ t none. no_tests i t;
        unlooked_made = λ q t is made. no_tests i t;
      }

pub reached_rooms : (m : Meaning) → Laws m → (l : Layout) → IsWithinLimits l → (rs : List Request) → AreAllowed rs → (w : World)
    → Reached m l rs w → RoomsStand m l (sight m l rs w)
reached_rooms m laws l limits rs allowed w reached =
    reached_keeps m laws l limits rs allowed (RoomsStand m l) (first_rooms m laws l limits rs)
    (λ s s' r kind st old. rooms_kept m laws l limits rs allowed s s' r old kind st) w reached
